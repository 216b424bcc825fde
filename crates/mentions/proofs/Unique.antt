-- No second outcome fits `next`, nor a walk: what it gives, and what it has then still to give. Letters: T text, i place, g in a tag, b the data makes a node, p q passes, m a word. Assumes nothing.
use Prim.Native.Nat.{ℕ, suc}
use mathlib.Core.Path.{◌≡◌, refl, sym, ap, ◌∙◌}
use mathlib.Core.List.{List, []}
use native.Mathlib.Omega.{arith}
use lib.ListN.{length, get_or, drop}
use mathlib.Core.Bool.{Bool}
use Rattle.std.specs.Prelude.{Option, None, Some}
use Rattle.fnv.specs.Fnv.{hash_of}
use Rattle.words.specs.Places.{mention}
use Rattle.words.specs.Places as words
use Rattle.words.specs.Reading.{word_at}
use Rattle.words.specs.Scan.{mentions_in}
use Rattle.mentions.specs.declared.Pass.{Pass}
use Rattle.mentions.specs.declared.Mention.{Mention}
use Rattle.mentions.specs.Next.{next_of}
use Rattle.mentions.specs.Walk.{left, Next, Walked}

pub next_unique : (T : List ℕ) (i : ℕ) (g b : Bool) (r r' : Option Pass) → r ≡ next_of T i g b → r' ≡ next_of T i g b → r ≡ r'
next_unique T i g b r r' p q = p ∙ sym q

abbrev the_mention : ℕ → ℕ → ℕ → Mention
the_mention i h v = record { place = i; hash = h; node = v }

module _ (T : List ℕ) (p : Pass) where
  mention_unique : (m n : Mention) (q q' : Pass) → Next T p m q → Next T p n q' → m ≡ n
  mention_unique m n q q' a b =
      ap (λ (z : ℕ). the_mention z m.hash m.node) place ∙ ap (λ (z : ℕ). the_mention n.place z m.node) hash ∙ ap (λ (z : ℕ). the_mention n.place n.hash z) node
    where
      same : mention m.node m.place ≡ mention n.node n.place
      same = ap (λ l. get_or l 0 (mention 0 0)) (sym a.more ∙ b.more)

      place : m.place ≡ n.place
      place = ap (λ (z : words.Mention). z.place) same

      node : m.node ≡ n.node
      node = ap (λ (z : words.Mention). z.node) same

      hash : m.hash ≡ n.hash
      hash = a.own ∙ ap (λ (z : ℕ). hash_of (word_at T z)) place ∙ sym b.own

  no-mention : (m : Mention) (q : Pass) → left T p ≡ [] → Next T p m q → ⊥
  no-mention m q e a = let long : 0 ≡ suc (length (left T q)) = ap length (sym e ∙ a.more) in omega arith

  -- What comes back, and what the walk has still to give: it has no more than this to tell one place of it from another.
  pub walk_unique : (r r' : Option Mention) (q q' : Pass) → Walked T p r q → Walked T p r' q' → (r ≡ r') × (left T q ≡ left T q')
  walk_unique None None q q' a b = (refl, ap (left T) (a.1 ∙ sym b.1))
  walk_unique None (Some n) q q' a b = absurd (no-mention n q' a.0 b)
  walk_unique (Some m) None q q' a b = absurd (no-mention m q b.0 a)
  walk_unique (Some m) (Some n) q q' a b = (ap Some (mention_unique m n q q' a b), ap (drop 1) (sym a.more ∙ b.more))

-- A walk before the first word of a text.
pub walk-new_unique : (p p' : Pass) → ((T : List ℕ) → left T p ≡ mentions_in T) → ((T : List ℕ) → left T p' ≡ mentions_in T) → (T : List ℕ) → left T p ≡ left T p'
walk-new_unique p p' a b T = a T ∙ sym (b T)
