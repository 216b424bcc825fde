-- `slca::flag_slca` meets its contract: the index check, then the marks over the front of work.
use mathlib.Core.Path.{refl, sym}
use native.Mathlib.Omega.{arith}
use lib.Seq.{length-take-le}
use Rattle.std.proofs.lemmas.Result.{err_from_is_err_and}
use Rattle.index.proofs.Laws.Replies.{refusal-refuses}
use Rattle.slca.proofs.Laws.{mark-refused, mark-small, mark-rows, mark-nodes, mark-pre, mark-accepted}
use Rattle.slca.proofs.flag_slca.Goals as goal

pub returns-in_err-check : goal.returns-in_err-check
returns-in_err-check c =
    let p = err_from_is_err_and c.from_residual.result c.from_residual.ensures.1 in
    rw (p.1, p.2) (mark-refused _ _ _ _ c.in_err-check.ensures (refusal-refuses _))

pub overflow_mul-rows : goal.overflow_mul-rows
overflow_mul-rows c = omega (arith, mark-small _ _ _ _ c.in_ok-check.ensures refl)

pub slice_bounds-mark_slca-end : goal.slice_bounds-mark_slca-end
slice_bounds-mark_slca-end c = sym (length-take-le _ _ (mark-rows _ _ _ _ c.in_ok-check.ensures refl))

pub slice_bounds-mark_slca-end-2 : goal.slice_bounds-mark_slca-end-2
slice_bounds-mark_slca-end-2 c = mark-nodes _ _ _ _ c.in_ok-check.ensures refl

pub slice_bounds-mark_slca-end-3 : goal.slice_bounds-mark_slca-end-3
slice_bounds-mark_slca-end-3 c = sym (length-take-le _ _ (mark-nodes _ _ _ _ c.in_ok-check.ensures refl))

pub mark_slca-requires : goal.mark_slca-requires
mark_slca-requires c = mark-pre _ _ _ _ c.in_ok-check.ensures refl

pub returns : goal.returns
returns c = mark-accepted _ _ _ _ c.in_ok-check.ensures refl _ c.mark_slca.ensures
