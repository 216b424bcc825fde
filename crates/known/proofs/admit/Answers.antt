-- `known::admit` meets its contract: glue over Replies.
use native.Mathlib.Omega.{arith}
use Rattle.std.proofs.lemmas.Result.{err_from_is_err_and}
use Rattle.known.proofs.Replies.{admit-refused, admit-sized, admit-asked, admit_unknown, admit-known}
use Rattle.known.proofs.admit.Goals as goal

pub returns-in_err-check : goal.returns-in_err-check
returns-in_err-check c =
    let p = err_from_is_err_and c.from_residual.result c.from_residual.ensures.1 in
    rw (p.1, p.2) (admit-refused _ _ _ _ _ c.in_err-check.ensures)

pub returns-then-empty_ok : goal.returns-then-empty_ok
returns-then-empty_ok c = admit-asked _ _ _ _ c.in_ok-check.ensures c.if-empty_ok.true

pub first_empty-requires : goal.first_empty-requires
first_empty-requires c = let s = admit-sized c.args.empty_ok _ _ _ c.in_ok-check.ensures in omega (arith, s.ended)

pub returns-in-Some : goal.returns-in-Some
returns-in-Some c = admit_unknown _ _ _ _ c.in_ok-check.ensures c.if-empty_ok.false _ c.in-Some.ensures

pub returns-in-None : goal.returns-in-None
returns-in-None c = admit-known _ _ _ _ c.in_ok-check.ensures c.in-None.ensures
