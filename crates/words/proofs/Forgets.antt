-- Without their places, the placed words of a document are its words.
--   document_forgets   the words of specs/Places are those of specs/Words, node by node
-- Assumes nothing.
use Prim.Native.Nat.{ℕ}
use mathlib.Core.Path.{◌≡◌, refl, ap, ap₂, ◌∙◌}
use mathlib.Core.Logic.{⊎_elim}
use mathlib.Core.List.{List, [], ◌∷◌, ◌++◌, map, map-append}
use mathlib.Core.Bool.{Bool, true, false, cond}
use Rattle.seq.specs.Lists.{every_of}
use Rattle.seq.proofs.Laws.Bools.{bool_cases}
use Rattle.profile.specs.Bytes.{'<', '>', '/', white}
use Rattle.profile.specs.Grammar.{Element, empty_tag, tags, Items, end, element, reference, comment, Document, reference_then, end_tag_then, items_then, miscs_then}
use Rattle.words.specs.Runs.{Word, word_byte, lower, closed, runs, words_of}
use Rattle.words.specs.Words.{entity_char, data_words, element_words, items_words, document_words}
use Rattle.words.specs.Places.{Spot, spot, Placed, spots, closed_at, begins, runs_at, placed_of, chars, data_placed, element_placed, items_placed, document_placed}

forget-closed : (u b : List ℕ) → map (λ p. p.word) (closed_at u b) ≡ closed b
unfolding closed_at closed
forget-closed u [] = refl
forget-closed u (x ∷ b) = refl

forget-runs : (c : List Spot) (u b : List ℕ) → map (λ p. p.word) (runs_at u b c) ≡ runs b (chars c)
unfolding runs_at runs
forget-runs [] u b = forget-closed u b
forget-runs (s ∷ c) u b =
    ⊎_elim
    (λ q. rw (q) (forget-runs c (begins u b s) (b ++ (lower s.char ∷ []))))
    (λ q. rw (q) (map-append (λ p. p.word) (closed_at u b) (runs_at [] [] c) ∙ ap₂ ◌++◌ (forget-closed u b) (forget-runs c [] [])))
    (bool_cases (word_byte s.char))

abbrev forget : List (List Placed) → List (List Word)
forget ps = map (map (λ p. p.word)) ps

forget-placed : (c : List Spot) → map (λ p. p.word) (placed_of c) ≡ words_of (chars c)
unfolding placed_of words_of
forget-placed c = forget-runs c [] []

forget_data : (c : List Spot) → forget (data_placed c) ≡ data_words (chars c)
unfolding data_placed data_words
forget_data c = go (every_of white (chars c))
  where
    go : (b : Bool) → forget (cond b [] (placed_of c ∷ [])) ≡ cond b [] (words_of (chars c) ∷ [])
    go true = refl
    go false = ap (λ w. w ∷ []) (forget-placed c)

pub chars-spots : (r t : List ℕ) → chars (spots r t) ≡ r
unfolding spots
chars-spots [] t = refl
chars-spots (x ∷ r) t = ap (λ z. x ∷ z) (chars-spots r t)

pub chars-append : (c e : List Spot) → chars (c ++ e) ≡ chars c ++ chars e
chars-append c e = map-append (λ s. s.char) c e

mutual
  unfolding element_placed items_placed element_words items_words

  element_forgets : (e : Element) (t : List ℕ) → forget (element_placed e t) ≡ element_words e
  element_forgets (empty_tag n s) t =
      let u = s.bytes ++ ('/' ∷ '>' ∷ t) in
      ap (λ w. w ∷ []) (forget-placed (spots n.bytes u) ∙ ap words_of (chars-spots n.bytes u))
  element_forgets (tags n s r i s') t =
      let u = '<' ∷ end_tag_then n.bytes s' t in
      let v = s.bytes ++ ('>' ∷ (r.bytes ++ items_then i u)) in
      ap₂ ◌∷◌ (forget-placed (spots n.bytes v) ∙ ap words_of (chars-spots n.bytes v))
      (items_forgets i (spots r.bytes (items_then i u)) u ∙ ap (items_words i) (chars-spots r.bytes (items_then i u)))

  items_forgets : (i : Items) (c : List Spot) (t : List ℕ) → forget (items_placed i c t) ≡ items_words i (chars c)
  items_forgets end c t = forget_data c
  items_forgets (element e r i) c t =
      let E = element_placed e (r.bytes ++ items_then i t) in
      let I = items_placed i (spots r.bytes (items_then i t)) t in
      map-append (map (λ p. p.word)) (data_placed c) (E ++ I) ∙
      ap₂ ◌++◌ (forget_data c)
      (map-append (map (λ p. p.word)) E I ∙
      ap₂ ◌++◌ (element_forgets e (r.bytes ++ items_then i t))
      (items_forgets i (spots r.bytes (items_then i t)) t ∙ ap (items_words i) (chars-spots r.bytes (items_then i t))))
  items_forgets (reference e r i) c t =
      let a = spot (entity_char e) (reference_then e (r.bytes ++ items_then i t)) in
      items_forgets i (c ++ (a ∷ spots r.bytes (items_then i t))) t ∙
      ap (items_words i) (chars-append c (a ∷ spots r.bytes (items_then i t)) ∙ ap (λ l. chars c ++ (entity_char e ∷ l)) (chars-spots r.bytes (items_then i t)))
  items_forgets (comment b r i) c t =
      items_forgets i (c ++ spots r.bytes (items_then i t)) t ∙
      ap (items_words i) (chars-append c (spots r.bytes (items_then i t)) ∙ ap (λ l. chars c ++ l) (chars-spots r.bytes (items_then i t)))

pub document_forgets : (d : Document) → map (map (λ p. p.word)) (document_placed d) ≡ document_words d
unfolding document_placed document_words
document_forgets d = element_forgets d.root (miscs_then d.epilog [])
