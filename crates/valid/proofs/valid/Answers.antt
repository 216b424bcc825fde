-- `valid::valid` meets its contract: the cases of Entry.
use mathlib.Core.Path.{refl, sym}
use mathlib.Core.List.{[]}
use native.Mathlib.Omega.{arith}
use lib.Seq.{length-take-le}
use Rattle.std.proofs.lemmas.Result.{err_from_is_err_and}
use Rattle.index.proofs.Laws.Replies.{refusal-refuses}
use Rattle.slca.proofs.Laws.{marked-nodes}
use Rattle.valid.proofs.Entry.{valid-refused, valid_without, valid-rows, valid-reject-pre, valid-nodes, valid-with}
use Rattle.valid.proofs.valid.Goals as goal
use Rattle.valid.proofs.valid.Goals.{then-lent-gt0, else-lent-gt0}

pub returns-in_err-flag_slca : goal.returns-in_err-flag_slca
returns-in_err-flag_slca c =
    let p = err_from_is_err_and c.from_residual.result c.from_residual.ensures.1 in
    rw (p.1, p.2) (valid-refused _ _ _ _ _ c.in_err-flag_slca.ensures (refusal-refuses _))

pub slice_bounds-reject-end : goal.slice_bounds-reject-end
slice_bounds-reject-end c = valid-rows _ _ [] _ _ c.in_ok-flag_slca.ensures refl c.if-lent-gt0.true _ refl

pub slice_bounds-reject-end-then-lent-gt0 : goal.slice_bounds-reject-end-then-lent-gt0
slice_bounds-reject-end-then-lent-gt0 c =
    sym (length-take-le _ _ (valid-rows _ _ [] _ _ c.in_ok-flag_slca.ensures refl c.if-lent-gt0.true _ refl))

pub reject-requires : goal.reject-requires
reject-requires c = valid-reject-pre _ _ [] _ _ c.in_ok-flag_slca.ensures refl c.if-lent-gt0.true _ refl

pub finish-requires : goal.finish-requires
finish-requires c =
    elim c.if-lent-gt0.branch [
      | then-lent-gt0 w ↦ rw w.work-is (valid-nodes _ _ [] _ _ c.in_ok-flag_slca.ensures refl w.if-lent-gt0.true _ refl _ w.reject.ensures)
      | else-lent-gt0 w ↦ rw w.work-is (marked-nodes _ _ _ _ c.in_ok-flag_slca.ensures refl)
    ]

pub returns : goal.returns
returns c =
    elim c.if-lent-gt0.branch [
      | then-lent-gt0 w ↦ valid-with _ _ _ _ _ c.in_ok-flag_slca.ensures refl w.if-lent-gt0.true _ refl _ w.reject.ensures _ _ _ (rw w.work-is at c.finish.ensures)
      | else-lent-gt0 w ↦ valid_without _ _ _ _ _ c.in_ok-flag_slca.ensures refl (omega arith) _ _ _ (rw w.work-is at c.finish.ensures)
    ]
