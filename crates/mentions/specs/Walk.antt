-- A walk over the words of a text, from mention to mention.
--   left T p         == the mentions of the text T that a walk at the pass p has still to give
--   Next T p m q     == the next of them is m, with the hash of its word, and a walk at q has those behind it
--   Walked T p r q   == the walk at p gives r and is then at q: none where no mention is left, and it stays at p; else the next
-- Assumes nothing.
use Rattle.std.specs.Prelude.{ℕ, ◌<◌, ◌≡◌, List, [], ◌∷◌, Option, None, Some, false, length, drop}
use Rattle.profile.specs.Tree.{place_in}
use Rattle.fnv.specs.Fnv.{hash_of}
use Rattle.words.specs.Places.{mention}
use Rattle.words.specs.Places as words
use Rattle.words.specs.Reading.{word_at}
use Rattle.words.specs.Scan.{ahead, scan}
use Rattle.mentions.specs.declared.Pass.{Pass}
use Rattle.mentions.specs.declared.Mention.{Mention}

abbrev pub left : List ℕ → Pass → List words.Mention
left T p = scan (place_in T) 0 (ahead p.tag false p.solid p.node) (drop p.at T)

pub record Next (T : List ℕ) (p : Pass) (m : Mention) (q : Pass) : Type 0 where
  pub within : m.place < length T
  pub own : m.hash ≡ hash_of (word_at T m.place)
  pub more : left T p ≡ mention m.node m.place ∷ left T q

abbrev pub Walked : List ℕ → Pass → Option Mention → Pass → Type 0
Walked T p None q = (left T p ≡ []) × (q ≡ p)
Walked T p (Some m) q = Next T p m q
