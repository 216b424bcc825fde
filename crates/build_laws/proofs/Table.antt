-- The table of the words of a text, for any number of slots, none included. m slots, w the table where there is one.
--   table-fails       there is none exactly if the distinct words outnumber the slots;  table-fails-words: those of each document with this text
--   table-long        it has all the slots
--   table-found       the search for a word stops at a slot that holds it exactly if the word is in the text;  table-found-words: if it is a word of the document
--   table-names       it then stops below m, and the slot names the place of the word's first mention
--   table-free        for another word it stops at a free slot, or at m, and then every slot is taken
--   table-once        each word of the text stands in one slot, and no other word in any
--   table-only        a slot that is taken names a new place
--   same-hash-apart   two words whose searches stop at one slot are one word: with one hash they stay two words
--   table-rule        a word new at its turn goes into the first free slot, cyclically from its hash modulo m, of the table as it was then, and is found there
-- Letters: T text, q p words, i j slots and places, ks places; d document. Assumes nothing.
use Prim.Native.Nat.{ℕ, suc, ◌<◌}
use mathlib.Core.Path.{◌≡◌, refl, sym, ap, subst, ◌∙◌}
use mathlib.Core.Logic.{◌⊎◌, inl, inr, ◌↔◌, ⊎_elim}
use mathlib.Core.List.{List, [], ◌∷◌, ◌++◌}
use mathlib.Core.Bool.{true, false, cond, false≢true}
use mathlib.Core.Option.{Option, none, some}
use native.Mathlib.Omega.{arith}
use lib.Dec.{eqb}
use lib.ListN.{length, length-map, get_or}
use Rattle.seq.specs.Lists.{some_of, tally}
use Rattle.seq.proofs.Laws.Numbers.{less_or}
use Rattle.fnv.specs.Fnv.{hash_of}
use Rattle.profile.specs.Grammar.{Document, text}
use Rattle.profile.specs.Tags.{known}
use Rattle.probing.specs.Table.{blank, taken, then_fill, names, holds, free_of, slot_of, fill}
use Rattle.probing.proofs.Laws.Table.{Key, holds_at, holds-own, holds-one, Settled, slot-of}
use Rattle.probing.proofs.Fill.{sound-blank, fill-sound, fill-append, fill_fails, fill-first, fill-once, Stops, fill_stops, Placed, fill-rule}
use Rattle.words.specs.Runs.{Word}
use Rattle.words.specs.Reading.{word_at}
use Rattle.words.specs.Scan.{mentions_in}
use Rattle.dictionary.specs.Slots.{stop_of, table_of}
use Rattle.dictionary.proofs.Laws.{stop-of}
use Rattle.plan.specs.Lists.{places_of, word_table, made}
use Rattle.build_laws.specs.Words.{in_text, first_place, new_places, Ruled, words_in, distinct}
use Rattle.build_laws.proofs.Words.{first-is, in_text_lem, new-words}

-- ---- whether there is one
pub table-fails : (T : List ℕ) (m : ℕ) → (word_table T m ≡ none) ↔ (m < length (new_places T))
unfolding word_table table_of
table-fails T m = fill_fails m hash_of (word_at T) (places_of (mentions_in T))

pub table-fails-words : (T : List ℕ) (m : ℕ) (d : Document) → text d ≡ T → (word_table T m ≡ none) ↔ (m < length (distinct [] (words_in d)))
table-fails-words T m d e = subst (λ (n : ℕ). (word_table T m ≡ none) ↔ (m < n)) (sym (length-map (new_places T) (word_at T)) ∙ ap length (new-words T d e)) (table-fails T m)

-- ---- what it holds
module _ (T : List ℕ) (m : ℕ) (w : List ℕ) (done : word_table T m ≡ some w) where
  filled : fill m hash_of (word_at T) (places_of (mentions_in T)) (blank m) ≡ some w
  filled = unfold word_table table_of in done

  settled : Settled m hash_of (word_at T) w
  settled = (fill-sound m hash_of (word_at T) (places_of (mentions_in T)) [] (blank m) w (sound-blank m hash_of (word_at T)) filled).stands

  pub table-long : length w ≡ m
  table-long = settled.long

  stops : (q : Word) → Stops m hash_of (word_at T) (places_of (mentions_in T)) w filled q
  stops q = fill_stops m hash_of (word_at T) (places_of (mentions_in T)) w filled q

  stop_is : (q : Word) → stop_of T q w ≡ slot_of m hash_of (word_at T) q w
  stop_is q = stop-of T q w ∙ ap (λ (n : ℕ). slot_of n hash_of (word_at T) q w) table-long

  pub table-found : (q : Word) → holds (word_at T) q (get_or w (stop_of T q w) 0) ≡ in_text T q
  table-found q = ap (λ (s : ℕ). holds (word_at T) q (get_or w s 0)) (stop_is q) ∙ (stops q).held

  pub table-found-words : (d : Document) → text d ≡ T → (q : Word) → holds (word_at T) q (get_or w (stop_of T q w) 0) ≡ known (words_in d) q
  table-found-words d e q = table-found q ∙ in_text_lem T d e q

  pub table-only : (i j : ℕ) → get_or w i 0 ≡ suc j → some_of (eqb j) (new_places T) ≡ true
  table-only i j e = fill-first m hash_of (word_at T) (places_of (mentions_in T)) w filled i j e

  pub table-names : (q : Word) → in_text T q ≡ true → (stop_of T q w < m) × (get_or w (stop_of T q w) 0 ≡ suc (first_place T q))
  table-names q e = (
    subst (λ (s : ℕ). s < m) (sym (stop_is q)) ((stops q).in_table e),
    key.is ∙ ap suc (sym (first-is (word_at T) [] (places_of (mentions_in T)) key.key q key.word (table-only (stop_of T q w) key.key key.is))),
  )
    where
      key : Key (word_at T) q (get_or w (stop_of T q w) 0)
      key = holds_at (word_at T) q (get_or w (stop_of T q w) 0) (table-found q ∙ e)

  pub table-free : (q : Word) → in_text T q ≡ false →
      ((stop_of T q w < m) × (get_or w (stop_of T q w) 0 ≡ 0)) ⊎ ((stop_of T q w ≡ m) × ((i : ℕ) → i < m → taken (get_or w i 0) ≡ true))
  table-free q e =
      ⊎_elim (λ h. inl (h, ap (λ (s : ℕ). get_or w s 0) (stop_is q) ∙ (stops q).free e))
      (λ h. inr (omega (arith, h, stop_is q, (stops q).within), (stops q).full (omega (arith, h, stop_is q, (stops q).within))))
      (less_or (stop_of T q w) m)

  pub table-once : (q : Word) → tally (holds (word_at T) q) w ≡ cond (in_text T q) 1 0
  table-once q = fill-once m hash_of (word_at T) (places_of (mentions_in T)) w filled q

  pub same-hash-apart : (q p : Word) → in_text T q ≡ true → in_text T p ≡ true → stop_of T q w ≡ stop_of T p w → q ≡ p
  same-hash-apart q p a b e =
      holds-one (word_at T) q p (get_or w (stop_of T q w) 0) (table-found q ∙ a) (ap (λ (s : ℕ). holds (word_at T) p (get_or w s 0)) e ∙ table-found p ∙ b)

  -- ---- the rule
  -- k is the place of the next mention after those at ks, and the word there is new.
  pub table-rule : (ks l : List ℕ) (k : ℕ) → places_of (mentions_in T) ≡ ks ++ (k ∷ l) → names (word_at T) ks (word_at T k) ≡ false → Ruled T m ks k w
  unfolding table_of
  table-rule ks l k places new = by (fill m hash_of (word_at T) ks (blank m)) refl
      (sym (fill-append m hash_of (word_at T) ks (k ∷ l) (blank m)) ∙ ap (λ z. fill m hash_of (word_at T) z (blank m)) (sym places) ∙ filled)
    where
      by : (o : Option (List ℕ)) → fill m hash_of (word_at T) ks (blank m) ≡ o → then_fill o (fill m hash_of (word_at T) (k ∷ l)) ≡ some w → Ruled T m ks k w
      by none e h = absurd (false≢true (ap made h))
      by (some v) e h =
          let p : Placed m hash_of (word_at T) ks v e k w = fill-rule m hash_of (word_at T) ks v e k l w new h in
          record {
            before = v;
            then = e;
            there = p.there;
            stays = p.stays;
            found = stop_is (word_at T k) ∙ slot-of m hash_of (word_at T) w settled (word_at T k) (free_of m hash_of (word_at T k) v) (holds-own (word_at T) k _ p.stays);
          }
