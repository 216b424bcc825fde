-- `reason::find` meets its contract: glue over Explaining.
use mathlib.Core.Path.{refl, sym}
use lib.Seq.{length-take-le}
use Rattle.std.proofs.lemmas.Result.{err_from_is_err_and}
use Rattle.index.proofs.Laws.Replies.{refusal-refuses}
use Rattle.reason.proofs.Explaining.{explain-negative, explain-refused, explain-node, row_in, look-pre, explained}
use Rattle.reason.proofs.find.Goals as goal
use Rattle.reason.proofs.find.Goals.{Else-n-v}

pub returns-then-lent-ne0 : goal.returns-then-lent-ne0
returns-then-lent-ne0 c = explain-negative _ _ _ c.if-lent-ne0.true _ refl

pub returns-in_err-check : goal.returns-in_err-check
returns-in_err-check c =
    let p = err_from_is_err_and c.from_residual.result c.from_residual.ensures.1 in
    rw (p.1, p.2) (explain-refused _ _ _ c.if-lent-ne0.false _ _ c.in_err-check.ensures (refusal-refuses _) _ refl)

pub returns-then-n-v : goal.returns-then-n-v
returns-then-n-v c =
    explain-node _ _ _ c.if-lent-ne0.false _ _ c.in_ok-check.ensures refl c.if-n-v.true _ refl

pub slice_bounds-look-end : goal.slice_bounds-look-end
slice_bounds-look-end c =
    row_in _ _ _ c.if-lent-ne0.false _ _ c.in_ok-check.ensures refl c.if-n-v.false

pub slice_bounds-look-end-2 : goal.slice_bounds-look-end-2
slice_bounds-look-end-2 c = sym (length-take-le _ _ (slice_bounds-look-end (goal.at.slice_bounds-look-end-2 c).Else-n-v))

pub look-requires : goal.look-requires
look-requires c =
    look-pre _ _ _ c.if-lent-ne0.false _ _ c.in_ok-check.ensures refl c.if-n-v.false

pub returns : goal.returns
returns c =
    explained _ _ _ c.if-lent-ne0.false _ _ c.in_ok-check.ensures refl c.if-n-v.false _ _ c.look.ensures _ refl
