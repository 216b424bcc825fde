-- `inplace::fold` meets its contract. Assumes nothing.
use Rattle.std.proofs.Common.{arith}
use Rattle.inplace.proofs.Letters.{fold-letter, fold-digit, fold-other}
use Rattle.inplace.proofs.fold.Goals as goal

pub returns-then-is_ascii_lowercase : goal.returns-then-is_ascii_lowercase
returns-then-is_ascii_lowercase c = fold-letter c.args.x (omega (arith, c.ranges.x)) c.if-is_ascii_lowercase.ensures.value

pub returns-then-is_ascii_digit : goal.returns-then-is_ascii_digit
returns-then-is_ascii_digit c = fold-digit c.args.x (omega (arith, c.ranges.x)) c.if-is_ascii_lowercase.ensures.value c.if-is_ascii_digit.ensures.value

pub returns-else-is_ascii_digit : goal.returns-else-is_ascii_digit
returns-else-is_ascii_digit c = fold-other c.args.x (omega (arith, c.ranges.x)) c.if-is_ascii_lowercase.ensures.value c.if-is_ascii_digit.ensures.value
