-- `markup::word_of` meets its contract: glue over References.
use mathlib.Core.Path.{sym, ◌∙◌}
use Prim.Native.Nat.{◌<◌}
use native.Mathlib.Omega.{arith}
use lib.ListN.{length}
use Rattle.seq.proofs.Laws.Bools.{and_false-left, and_false-right}
use Rattle.octets.proofs.Laws.{at_true}
use Rattle.markup.proofs.References.{meant-l, meant-g, meant-q, meant-ap, meant-other, follows}
use Rattle.markup.proofs.word_of.Goals as goal
use Rattle.markup.proofs.word_of.Goals.{else-is_at-4-via-then-is_at-4+else-is_at-5, else-is_at-4-via-else-is_at-4}

pub returns-then-is_at : goal.returns-then-is_at
returns-then-is_at c = meant-l c.args.text.now c.args.at (sym c.is_at.ensures ∙ c.if-is_at.true)

pub returns-then-is_at-2 : goal.returns-then-is_at-2
returns-then-is_at-2 c = meant-g c.args.text.now c.args.at (sym c.is_at.ensures ∙ c.if-is_at.false) (sym c.is_at-2.ensures ∙ c.if-is_at-2.true)

pub returns-then-is_at-3 : goal.returns-then-is_at-3
returns-then-is_at-3 c =
    meant-q c.args.text.now c.args.at (sym c.is_at.ensures ∙ c.if-is_at.false) (sym c.is_at-2.ensures ∙ c.if-is_at-2.false) (sym c.is_at-3.ensures ∙ c.if-is_at-3.true)

pub overflow_add-at : goal.overflow_add-at
overflow_add-at c = let l : c.args.at < length c.args.text.now = (at_true _ _ _ (sym c.is_at-4.ensures ∙ c.if-is_at-4.true)).0 in omega (arith, c.well_formed)

pub returns-then-is_at-5 : goal.returns-then-is_at-5
returns-then-is_at-5 c =
    meant-ap c.args.text.now c.args.at (sym c.is_at.ensures ∙ c.if-is_at.false) (sym c.is_at-2.ensures ∙ c.if-is_at-2.false) (sym c.is_at-3.ensures ∙ c.if-is_at-3.false)
    (sym c.is_at-4.ensures ∙ c.if-is_at-4.true) (sym c.is_at-then-is_at-4.ensures ∙ c.if-is_at-5.true)

pub returns : goal.returns
returns c =
    meant-other c.args.text.now c.args.at (sym c.is_at.ensures ∙ c.if-is_at.false) (sym c.is_at-2.ensures ∙ c.if-is_at-2.false) (sym c.is_at-3.ensures ∙ c.if-is_at-3.false)
    (elim c.else-is_at-4.branch [
      | else-is_at-4-via-then-is_at-4+else-is_at-5 w ↦ and_false-right _ _ (sym w.is_at-then-is_at-4.ensures ∙ w.if-is_at-5.false)
      | else-is_at-4-via-else-is_at-4 w ↦ and_false-left _ (follows c.args.text.now c.args.at 112) (sym c.is_at-4.ensures ∙ w.if-is_at-4.false)
    ])
