-- `judge::turns::space_turn` meets its contract.
use mathlib.Core.Path.{ap, ◌∙◌}
use mathlib.Core.Bool.{◌&&◌}
use lib.Dec.{eqb}
use borrow.Author.Tests.{ne_eqb}
use Rattle.seq.proofs.Laws.Bools.{and_false-right}
use Rattle.judge.proofs.Numbers.{space-broken, space-on}
use Rattle.judge.proofs.turns.space_turn.Goals as goal
use Rattle.judge.proofs.turns.space_turn.Goals.{else-p-via-then-p+else-p-2, else-p-via-else-p}

pub returns-then-p-2 : goal.returns-then-p-2
returns-then-p-2 c = space-on _ _ c.if-p.true c.if-p-2.true

pub returns : goal.returns
returns c =
    let p = c.args.p in
    c.broken.ensures
    ∙ space-broken _ _
    (elim c.else-p.branch [
      | else-p-via-then-p+else-p-2 w ↦ and_false-right p.whole (eqb p.middle p.end) (ne_eqb p.middle p.end w.if-p-2.false)
      | else-p-via-else-p w ↦ ap (λ b. b && eqb p.middle p.end) w.if-p.false
    ])
