-- `index::lists::word_ok` meets its contract: glue over Listing.
use mathlib.Core.Path.{refl, sym, ◌∙◌}
use mathlib.Core.Logic.{⊎_elim}
use Rattle.index.proofs.Listing.{word-falls, word-far, word-short, word-list}
use Rattle.index.proofs.lists.word_ok.Goals as goal

pub returns-then-to-from : goal.returns-then-to-from
returns-then-to-from c =
    sym (⊎_elim (word-falls _ _ _ _ _ _ c.requires refl) (λ q. word-far _ _ _ _ _ _ c.requires refl q.1) c.then-to-from.either)

pub returns-then-to-all : goal.returns-then-to-all
returns-then-to-all c = sym (word-short _ _ _ _ _ _ c.requires refl c.if-j-ends.true c.if-to-all.true)

pub returns : goal.returns
returns c =
    c.list_ok.ensures
    ∙ sym (word-list _ _ _ _ _ _ c.requires refl c.if-to-from.false c.if-all-to.false
    (λ q. ⊎_elim (λ w. w.1) (λ w. absurd (w q)) c.else-j-ends.either))
