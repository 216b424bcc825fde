-- `elca::elca` meets its contract: glue over Entry.
use mathlib.Core.Path.{refl, sym}
use mathlib.Core.List.{[]}
use lib.Seq.{length-take-le}
use Rattle.std.proofs.lemmas.Result.{err_from_is_err_and}
use Rattle.index.proofs.Laws.Replies.{refusal-refuses}
use Rattle.elca.proofs.Entry.{elca-negative, elca-refused, used-small, used_in, search-pre, elca-found}
use native.Mathlib.Omega.{arith}
use Rattle.elca.proofs.elca.Goals as goal

pub returns-then-lent-ne0 : goal.returns-then-lent-ne0
returns-then-lent-ne0 c = elca-negative _ _ _ _ c.if-lent-ne0.true

pub returns-in_err-check : goal.returns-in_err-check
returns-in_err-check c =
    let p = err_from_is_err_and c.from_residual.result c.from_residual.ensures.1 in
    rw (p.1, p.2) (elca-refused _ _ _ _ c.if-lent-ne0.false _ _ c.in_err-check.ensures (refusal-refuses _))

pub overflow_mul-used : goal.overflow_mul-used
overflow_mul-used c =
    omega (arith, used-small _ _ [] [] c.if-lent-ne0.false _ _ c.in_ok-check.ensures refl)

pub overflow_add-used : goal.overflow_add-used
overflow_add-used c =
    omega (arith, used-small _ _ [] [] c.if-lent-ne0.false _ _ c.in_ok-check.ensures refl)

pub slice_bounds-search-end : goal.slice_bounds-search-end
slice_bounds-search-end c =
    used_in _ _ [] [] c.if-lent-ne0.false _ _ c.in_ok-check.ensures refl

pub slice_bounds-search-end-2 : goal.slice_bounds-search-end-2
slice_bounds-search-end-2 c = sym (length-take-le _ _ (used_in _ _ [] [] c.if-lent-ne0.false _ _ c.in_ok-check.ensures refl))

pub search-requires : goal.search-requires
search-requires c =
    search-pre _ _ [] [] c.if-lent-ne0.false _ _ c.in_ok-check.ensures refl

pub returns : goal.returns
returns c =
    elca-found _ _ _ _ c.if-lent-ne0.false _ _ c.in_ok-check.ensures refl _ _ _ _ c.search.ensures
