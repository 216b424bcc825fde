-- `index::lists::lists_bad` meets its contract: glue over Listing.
use mathlib.Core.Path.{refl, sym, ◌∙◌}
use Rattle.index.proofs.Listing.{ends-start, ends-bad, ends-step, ends-end}
use Rattle.index.proofs.lists.lists_bad.Goals as goal

pub loop-j-init : goal.loop-j-init
loop-j-init c = ends-start _ _ _

pub returns-then-not-word_ok : goal.returns-then-not-word_ok
returns-then-not-word_ok c = ends-bad _ _ _ _ _ c.loop-j.invariant (sym c.word_ok.ensures ∙ c.if-not-word_ok.true)

pub loop-j-preserved : goal.loop-j-preserved
loop-j-preserved c = ends-step _ _ _ _ _ c.loop-j.invariant c.loop-j-test.true (sym c.word_ok.ensures ∙ c.if-not-word_ok.false) _ refl

pub returns : goal.returns
returns c = ends-end _ _ _ _ _ c.loop-j.invariant c.loop-j-test.false
