-- `sheet::header::count` meets its contract.
use mathlib.Core.Path.{◌≡◌, ◌∙◌}
use Rattle.std.specs.Prelude.{count_by, eqb}
use Rattle.std.proofs.Common.{rules}
use Rattle.sheet.proofs.Heading.{tally_is}
use Rattle.sheet.proofs.header.count.Goals as goal

pub returns : goal.returns
returns c =
    let e : c.count.result ≡ count_by (λ b. eqb b c.args.x) c.args.l.now = search rules in
    e ∙ tally_is c.args.x c.args.l.now
