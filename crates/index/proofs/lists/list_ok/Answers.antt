-- `index::lists::list_ok` meets its contract: glue over Listing.
use mathlib.Core.Path.{refl, sym}
use mathlib.Core.Logic.{⊎_elim}
use Rattle.index.proofs.Listing.{fine-start, fine-low, fine-high, fine-step, fine_end}
use Rattle.index.proofs.lists.list_ok.Goals as goal

pub loop-x-init : goal.loop-x-init
loop-x-init c = fine-start _ _

pub returns-then-x-low : goal.returns-then-x-low
returns-then-x-low c =
    sym (⊎_elim (fine-low _ _ _ _ _ c.loop-x.invariant c.loop-x-test.true refl) (λ q. fine-high _ _ _ _ _ c.loop-x.invariant c.loop-x-test.true refl q.1)
    c.then-x-low.either)

pub loop-x-preserved : goal.loop-x-preserved
loop-x-preserved c = fine-step _ _ _ _ _ c.loop-x.invariant c.loop-x-test.true refl c.if-x-low.false c.if-n-x.false

pub returns : goal.returns
returns c = sym (fine_end _ _ _ _ c.loop-x.invariant c.loop-x-test.false)
