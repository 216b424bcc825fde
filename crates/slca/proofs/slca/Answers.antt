-- `slca::slca` meets its contract.
use mathlib.Core.Path.{refl, sym}
use lib.Seq.{length-take-le}
use Rattle.std.proofs.lemmas.Result.{err_from_is_err_and}
use Rattle.index.proofs.Laws.Replies.{refusal-refuses}
use Rattle.slca.proofs.Laws.{slca-negative, slca-refused, marked-nodes, slca-accepted}
use Rattle.slca.proofs.slca.Goals as goal
use Rattle.slca.proofs.slca.Goals.{In_ok-flag_slca}

pub returns-then-lent-ne0 : goal.returns-then-lent-ne0
returns-then-lent-ne0 c = slca-negative _ _ _ c.if-lent-ne0.true

pub returns-in_err-flag_slca : goal.returns-in_err-flag_slca
returns-in_err-flag_slca c =
    let p = err_from_is_err_and c.from_residual.result c.from_residual.ensures.1 in
    rw (p.1, p.2) (slca-refused _ _ _ c.if-lent-ne0.false _ _ c.in_err-flag_slca.ensures (refusal-refuses _))

pub slice_bounds-list_flagged-end : goal.slice_bounds-list_flagged-end
slice_bounds-list_flagged-end c = marked-nodes _ _ _ _ c.in_ok-flag_slca.ensures refl

pub slice_bounds-list_flagged-end-2 : goal.slice_bounds-list_flagged-end-2
slice_bounds-list_flagged-end-2 c = sym (length-take-le _ _ (slice_bounds-list_flagged-end c))

pub slice_bounds-clear-end : goal.slice_bounds-clear-end
slice_bounds-clear-end c = slice_bounds-list_flagged-end (goal.at.slice_bounds-clear-end c).In_ok-flag_slca

pub slice_bounds-clear-end-2 : goal.slice_bounds-clear-end-2
slice_bounds-clear-end-2 c = sym (length-take-le _ _ (slice_bounds-list_flagged-end (goal.at.slice_bounds-clear-end-2 c).In_ok-flag_slca))

pub returns : goal.returns
returns c =
    slca-accepted _ _ _ c.if-lent-ne0.false _ _ c.in_ok-flag_slca.ensures refl _ _ _
    c.list_flagged-answer.ensures c.clear.ensures
