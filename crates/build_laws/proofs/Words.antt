-- The words of a text are those of each document that has this text.
--   words-read       the words that are read at the mentions, in order, are the words of the document
--   in_text_lem          a word is in the text exactly if it is among them;  in_text-stands: exactly if it stands at some node
--   new-words        what is read at the new places are the distinct ones, in order of first appearance
--   first-is         a new place at which a word is read is that of its first mention
-- Letters: T text, d document, q word, b ks numbers that name words, j k numbers. Assumes nothing.
use Prim.Native.Nat.{ℕ, suc}
use mathlib.Core.Path.{◌≡◌, refl, sym, ap, ap₂, ◌∙◌}
use mathlib.Core.Logic.{◌↔◌, ⊎_elim}
use mathlib.Core.List.{List, [], ◌∷◌, ◌++◌, map, map-append}
use mathlib.Core.Bool.{Bool, true, false, cond, ◌||◌, false≢true}
use lib.Dec.{eqb}
use borrow.Author.Tests.{eq-eqb, eqb-true}
use Rattle.seq.specs.Lists.{some_of, same_list, first_of}
use Rattle.seq.proofs.Laws.Bools.{or_cases, or_left, or_right, bool_false}
use Rattle.seq.proofs.Laws.Lists.{same_list_self, same_list_swap}
use Rattle.profile.specs.Grammar.{Document, text}
use Rattle.profile.specs.Tree.{place_in}
use Rattle.profile.specs.Tags.{known}
use Rattle.probing.specs.Table.{names, firsts}
use Rattle.words.specs.Runs.{Word}
use Rattle.words.specs.Places.{Mention, Placed, mentions_at, mentioned, mentions_of, document_placed}
use Rattle.words.specs.Reading.{word_at}
use Rattle.words.specs.Scan.{mentions_in}
use Rattle.words.specs.Stands.{words_on, stands}
use Rattle.words.proofs.Right.{Every, none, more}
use Rattle.words.proofs.Forgets.{document_forgets}
use Rattle.words.proofs.Stands.{document-found}
use Rattle.words.proofs.Scan.{mentions-read}
use Rattle.plan.specs.Lists.{places_of}
use Rattle.build_laws.specs.Words.{in_text, Somewhere, new_places, in_one, words_in, distinct}

-- ---- what is read
module _ (T : List ℕ) where
  abbrev Reads : Placed → Type 0
  Reads p = word_at T (place_in T p.row) ≡ p.word

  node-read : (v : ℕ) {l : List Placed} → Every Reads l → map (word_at T) (places_of (mentions_at (place_in T) v l)) ≡ map (λ (p : Placed). p.word) l
  node-read v none = refl
  node-read v (more h r) = ap₂ ◌∷◌ h (node-read v r)

  nodes-read : (v : ℕ) {l : List (List Placed)} → Every (Every Reads) l → map (word_at T) (places_of (mentioned (place_in T) v l)) ≡ in_one (map (map (λ (p : Placed). p.word)) l)
  unfolding mentioned in_one
  nodes-read v none = refl
  nodes-read v (more {a = p} {l = l} h r) =
      ap (map (word_at T)) (map-append (λ m. m.place) (mentions_at (place_in T) v p) (mentioned (place_in T) (suc v) l)) ∙
      map-append (word_at T) (places_of (mentions_at (place_in T) v p)) (places_of (mentioned (place_in T) (suc v) l)) ∙ ap₂ ◌++◌ (node-read v h) (nodes-read (suc v) r)

pub words-read : (T : List ℕ) (d : Document) → text d ≡ T → map (word_at T) (places_of (mentions_in T)) ≡ words_in d
words-read T d e = ap (λ t. map (word_at t) (places_of (mentions_in t))) (sym e) ∙ own
  where
    own : map (word_at (text d)) (places_of (mentions_in (text d))) ≡ words_in d
    own =
        ap (λ M. map (word_at (text d)) (places_of M)) (sym (mentions-read d)) ∙ whole ∙ ap in_one (document_forgets d)
      where
        whole : map (word_at (text d)) (places_of (mentions_of d)) ≡ in_one (map (map (λ (p : Placed). p.word)) (document_placed d))
        whole = unfold mentions_of in nodes-read (text d) 0 (document-found d)

-- ---- numbers that name words
module _ (named : ℕ → List ℕ) where
  names-known : (ks : List ℕ) (q : Word) → names named ks q ≡ known (map named ks) q
  unfolding names some_of known
  names-known [] q = refl
  names-known (k ∷ ks) q = ap₂ ◌||◌ (same_list_swap q (named k)) (names-known ks q)

  firsts-distinct : (b ks : List ℕ) → map named (firsts named b ks) ≡ distinct (map named b) (map named ks)
  unfolding firsts distinct
  firsts-distinct b [] = refl
  firsts-distinct b (k ∷ ks) =
      by (names named b (named k)) (firsts-distinct (k ∷ b) ks) ∙ ap (λ z. cond z (distinct (map named (k ∷ b)) (map named ks)) (named k ∷ distinct (map named (k ∷ b)) (map named ks))) (names-known b (named k))
    where
      by : (z : Bool) → map named (firsts named (k ∷ b) ks) ≡ distinct (map named (k ∷ b)) (map named ks) →
          map named (cond z (firsts named (k ∷ b) ks) (k ∷ firsts named (k ∷ b) ks)) ≡ cond z (distinct (map named (k ∷ b)) (map named ks)) (named k ∷ distinct (map named (k ∷ b)) (map named ks))
      by true h = h
      by false h = ap (λ l. named k ∷ l) h

  -- No number before names the word of a new one.
  firsts-new : (b ks : List ℕ) (j : ℕ) → some_of (eqb j) (firsts named b ks) ≡ true → names named b (named j) ≡ false
  unfolding firsts some_of names
  firsts-new b [] j e = absurd (false≢true e)
  firsts-new b (k ∷ ks) j e = by (names named b (named k)) (firsts-new (k ∷ b) ks j) refl e
    where
      later : names named (k ∷ b) (named j) ≡ false → names named b (named j) ≡ false
      later h = bool_false (names named b (named j)) (λ g. false≢true (sym h ∙ or_right (same_list (named j) (named k)) _ g))

      by : (z : Bool) → (some_of (eqb j) (firsts named (k ∷ b) ks) ≡ true → names named (k ∷ b) (named j) ≡ false) → names named b (named k) ≡ z →
          some_of (eqb j) (cond z (firsts named (k ∷ b) ks) (k ∷ firsts named (k ∷ b) ks)) ≡ true → names named b (named j) ≡ false
      by true f q h = later (f h)
      by false f q h =
          ⊎_elim (λ g. ap (λ (z : ℕ). names named b (named z)) (eqb-true j k g) ∙ q) (λ g. later (f g)) (or_cases (eqb j k) (some_of (eqb j) (firsts named (k ∷ b) ks)) h)

  -- A new number is the first that names its word.
  pub first-is : (b ks : List ℕ) (j : ℕ) (q : Word) → q ≡ named j → some_of (eqb j) (firsts named b ks) ≡ true → first_of (λ k. same_list q (named k)) 0 ks ≡ j
  unfolding firsts some_of first_of names
  first-is b [] j q e h = absurd (false≢true h)
  first-is b (k ∷ ks) j q e h = by (names named b (named k)) (same_list q (named k)) (first-is (k ∷ b) ks j q e) refl h
    where
      -- The word of k is that of j, which is new behind k.
      twice : same_list q (named k) ≡ true → some_of (eqb j) (firsts named (k ∷ b) ks) ≡ true → ⊥
      twice s g =
          false≢true
          (sym (firsts-new (k ∷ b) ks j g) ∙ or_left (same_list (named j) (named k)) _ (ap (λ z. same_list z (named k)) (sym e) ∙ s))

      by : (z s : Bool) → (some_of (eqb j) (firsts named (k ∷ b) ks) ≡ true → first_of (λ k. same_list q (named k)) 0 ks ≡ j) → same_list q (named k) ≡ s →
          some_of (eqb j) (cond z (firsts named (k ∷ b) ks) (k ∷ firsts named (k ∷ b) ks)) ≡ true → cond s k (first_of (λ k. same_list q (named k)) 0 ks) ≡ j
      by true true f s g = absurd (twice s g)
      by true false f s g = f g
      by false true f s g =
          ⊎_elim (λ x. sym (eqb-true j k x)) (λ x. absurd (twice s x)) (or_cases (eqb j k) (some_of (eqb j) (firsts named (k ∷ b) ks)) g)
      by false false f s g =
          ⊎_elim
          (λ x. absurd (false≢true (sym s ∙ ap (λ (z : ℕ). same_list q (named z)) (sym (eqb-true j k x)) ∙ ap (λ z. same_list z (named j)) e ∙ same_list_self (named j))))
          f (or_cases (eqb j k) (some_of (eqb j) (firsts named (k ∷ b) ks)) g)

-- ---- at the nodes
names-here : (T : List ℕ) (M : List Mention) (q : Word) → names (word_at T) (places_of M) q ≡ true → Somewhere (λ v. known (words_on T M v) q)
unfolding names some_of words_on known
names-here T [] q e = absurd (false≢true e)
names-here T (m ∷ M) q e = ⊎_elim here (λ h. later (names-here T M q h)) (or_cases (same_list q (word_at T m.place)) (some_of (λ k. same_list q (word_at T k)) (places_of M)) e)
  where
    here : same_list q (word_at T m.place) ≡ true → Somewhere (λ v. known (words_on T (m ∷ M) v) q)
    here h =
        record {
          node = m.node;
          stands = ap (λ z. known (cond z (word_at T m.place ∷ words_on T M m.node) (words_on T M m.node)) q) (eq-eqb m.node m.node refl) ∙ or_left _ _ (same_list_swap (word_at T m.place) q ∙ h);
        }

    later : Somewhere (λ v. known (words_on T M v) q) → Somewhere (λ v. known (words_on T (m ∷ M) v) q)
    later h = record { node = h.node; stands = by (eqb m.node h.node) h.stands }
      where
        by : (z : Bool) → known (words_on T M h.node) q ≡ true → known (cond z (word_at T m.place ∷ words_on T M h.node) (words_on T M h.node)) q ≡ true
        by true x = or_right (same_list (word_at T m.place) q) (known (words_on T M h.node) q) x
        by false x = x

here-names : (T : List ℕ) (M : List Mention) (q : Word) (v : ℕ) → known (words_on T M v) q ≡ true → names (word_at T) (places_of M) q ≡ true
unfolding names some_of words_on known
here-names T [] q v e = absurd (false≢true e)
here-names T (m ∷ M) q v e = by (eqb m.node v) (here-names T M q v) e
  where
    by : (z : Bool) → (known (words_on T M v) q ≡ true → names (word_at T) (places_of M) q ≡ true) →
        known (cond z (word_at T m.place ∷ words_on T M v) (words_on T M v)) q ≡ true → names (word_at T) (places_of (m ∷ M)) q ≡ true
    by true f h =
        ⊎_elim (λ x. or_left _ _ (same_list_swap q (word_at T m.place) ∙ x)) (λ x. or_right (same_list q (word_at T m.place)) _ (f x))
        (or_cases (same_list (word_at T m.place) q) (known (words_on T M v) q) h)
    by false f h = or_right (same_list q (word_at T m.place)) _ (f h)

pub in_text-stands : (T : List ℕ) (q : Word) → (in_text T q ≡ true) ↔ Somewhere (stands T q)
unfolding stands
in_text-stands T q = (names-here T (mentions_in T) q, λ h. here-names T (mentions_in T) q h.node h.stands)

-- ---- by the grammar
module _ (T : List ℕ) (d : Document) (e : text d ≡ T) where
  pub in_text_lem : (q : Word) → in_text T q ≡ known (words_in d) q
  in_text_lem q = names-known (word_at T) (places_of (mentions_in T)) q ∙ ap (λ l. known l q) (words-read T d e)

  pub new-words : map (word_at T) (new_places T) ≡ distinct [] (words_in d)
  new-words = firsts-distinct (word_at T) [] (places_of (mentions_in T)) ∙ ap (distinct []) (words-read T d e)
