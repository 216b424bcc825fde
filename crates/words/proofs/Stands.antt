-- Each word stands in the text at its place.
--   document-stands   the row of each word is the text from the word's place on
--   document-found    so each word of a document is what is read in its text from the word's place on
--   words-on          the words that are read at the mentions of a node are the words of that node
--   stands-known      so a word stands at a node exactly if it is one of the words of that node
-- The step on the way holds for any property of rows that passes from a row to what follows its first byte. Assumes nothing.
use Prim.Native.Nat.{ℕ, zero, suc, ◌+◌, ◌<◌}
use mathlib.Core.Path.{◌≡◌, refl, sym, ap, ap₂, subst, ◌∙◌}
use mathlib.Core.Logic.{⊎_elim}
use mathlib.Core.List.{List, [], ◌∷◌, ◌++◌, map, append_assoc, append-nil}
use mathlib.Core.Bool.{Bool, true, false, cond}
use native.Mathlib.Omega.{arith}
use borrow.Author.Tests.{eq-eqb, ne_eqb}
use lib.ListN.{length, get_or, drop, length-append}
use lib.Seq.{drop_at}
use Rattle.seq.specs.Lists.{every_of}
use Rattle.seq.proofs.Laws.Bools.{bool_cases}
use Rattle.profile.specs.Bytes.{'!', '&', '-', '/', semicolon, '<', '>', white}
use Rattle.profile.specs.Grammar.{Element, empty_tag, tags, Items, end, element, reference, comment, Document, Misc, remark, blank, Comment, Entity, entity_name, comment_then, reference_then, end_tag_then, element_then, items_then, miscs_then, text}
use Rattle.profile.specs.Tree.{place_in}
use Rattle.profile.specs.Tags.{known}
use Rattle.words.specs.Runs.{Word, word_byte, lower}
use Rattle.words.specs.Words.{entity_char, document_words}
use Rattle.words.specs.Places.{Spot, spot, Placed, spots, closed_at, begins, runs_at, placed_of, chars, data_placed, element_placed, items_placed, document_placed, Mention, mention, mentions_at, mentioned, mentions_of}
use Rattle.words.specs.Reading.{word_from, word_at}
use Rattle.words.specs.Stands.{words_on, stands}
use Rattle.words.proofs.Scan.{mentions-read}
use Rattle.words.proofs.Laws.Runs.{cons-nil}
use Rattle.words.proofs.Right.{Every, none, more, every_append, runs_at-on, runs_at-stop, document-right}
use Rattle.words.proofs.Forgets.{document_forgets}

module _ (P : List ℕ → Type 0) (tail : (x : ℕ) (u : List ℕ) → P (x ∷ u) → P u) where
  -- What follows the bytes w.
  past : (w u : List ℕ) → P (w ++ u) → P u
  past [] u h = h
  past (x ∷ w) u h = past w u (tail x (w ++ u) h)

  abbrev Spots : List Spot → Type 0
  Spots c = Every (λ s. P s.row) c

  abbrev Words : List Placed → Type 0
  Words ps = Every (λ p. P p.row) ps

  spots-stand : (r t : List ℕ) → P (r ++ t) → Spots (spots r t)
  unfolding spots
  spots-stand [] t h = none
  spots-stand (x ∷ r) t h = more h (spots-stand r t (tail x (r ++ t) h))

  closed-stands : (u b : List ℕ) → ((b ≡ [] → ⊥) → P u) → Words (closed_at u b)
  unfolding closed_at
  closed-stands u [] h = none
  closed-stands u (x ∷ b) h = more (h (cons-nil x b)) none

  begin-stands : (u b : List ℕ) (s : Spot) → ((b ≡ [] → ⊥) → P u) → P s.row → P (begins u b s)
  begin-stands u [] s h k = k
  begin-stands u (x ∷ b) s h k = h (cons-nil x b)

  runs-stand : (c : List Spot) (u b : List ℕ) → ((b ≡ [] → ⊥) → P u) → Spots c → Words (runs_at u b c)
  runs-stand [] u b h k = unfold runs_at in closed-stands u b h
  runs-stand (s ∷ c) u b h (more q k) =
      ⊎_elim
      (λ e. subst Words (sym (runs_at-on u b s c e)) (runs-stand c (begins u b s) (b ++ (lower s.char ∷ [])) (λ n. begin-stands u b s h q) k))
      (λ e. subst Words (sym (runs_at-stop u b s c e)) (every_append (closed-stands u b h) (runs-stand c [] [] (λ n. absurd (n refl)) k)))
      (bool_cases (word_byte s.char))

  placed-stand : (c : List Spot) → Spots c → Words (placed_of c)
  unfolding placed_of
  placed-stand c k = runs-stand c [] [] (λ n. absurd (n refl)) k

  data_stands : (c : List Spot) → Spots c → Every Words (data_placed c)
  unfolding data_placed
  data_stands c k = go (every_of white (chars c))
    where
      go : (b : Bool) → Every Words (cond b [] (placed_of c ∷ []))
      go true = none
      go false = more (placed-stand c k) none

  -- What follows an element, a reference, a comment.
  past-comment : (b : Comment) (u : List ℕ) → P (comment_then b u) → P u
  unfolding comment_then
  past-comment b u h =
      past ('-' ∷ '-' ∷ '>' ∷ []) u (past b.bytes ('-' ∷ '-' ∷ '>' ∷ u) (past ('<' ∷ '!' ∷ '-' ∷ '-' ∷ []) (b.bytes ++ ('-' ∷ '-' ∷ '>' ∷ u)) h))

  past_reference : (e : Entity) (u : List ℕ) → P (reference_then e u) → P u
  unfolding reference_then
  past_reference e u h = tail semicolon u (past (entity_name e) (semicolon ∷ u) (tail '&' (entity_name e ++ (semicolon ∷ u)) h))

  mutual
    unfolding element_then items_then end_tag_then

    past-element : (e : Element) (u : List ℕ) → P (element_then e u) → P u
    past-element (empty_tag n s) u h =
        past ('/' ∷ '>' ∷ []) u (past s.bytes ('/' ∷ '>' ∷ u) (past n.bytes (s.bytes ++ ('/' ∷ '>' ∷ u)) (tail '<' (n.bytes ++ (s.bytes ++ ('/' ∷ '>' ∷ u))) h)))
    past-element (tags n s r i s') u h =
        let z = '<' ∷ end_tag_then n.bytes s' u in
        let y = r.bytes ++ items_then i z in
        let g = past s.bytes ('>' ∷ y) (past n.bytes (s.bytes ++ ('>' ∷ y)) (tail '<' (n.bytes ++ (s.bytes ++ ('>' ∷ y))) h)) in
        let k = past-items i z (past r.bytes (items_then i z) (tail '>' y g)) in
        tail '>' u (past s'.bytes ('>' ∷ u) (past n.bytes (s'.bytes ++ ('>' ∷ u)) (past ('<' ∷ '/' ∷ []) (n.bytes ++ (s'.bytes ++ ('>' ∷ u))) k)))

    past-items : (i : Items) (u : List ℕ) → P (items_then i u) → P u
    past-items end u h = h
    past-items (element e r i) u h = past-items i u (past r.bytes (items_then i u) (past-element e (r.bytes ++ items_then i u) h))
    past-items (reference e r i) u h = past-items i u (past r.bytes (items_then i u) (past_reference e (r.bytes ++ items_then i u) h))
    past-items (comment b r i) u h = past-items i u (past r.bytes (items_then i u) (past-comment b (r.bytes ++ items_then i u) h))

  -- ---- elements and content
  mutual
    unfolding element_then items_then element_placed items_placed

    element-stands : (e : Element) (t : List ℕ) → P (element_then e t) → Every Words (element_placed e t)
    element-stands (empty_tag n s) t h =
        let v = s.bytes ++ ('/' ∷ '>' ∷ t) in
        more (placed-stand (spots n.bytes v) (spots-stand n.bytes v (tail '<' (n.bytes ++ v) h))) none
    element-stands (tags n s r i s') t h =
        let u = '<' ∷ end_tag_then n.bytes s' t in
        let y = r.bytes ++ items_then i u in
        let v = s.bytes ++ ('>' ∷ y) in
        let g = tail '<' (n.bytes ++ v) h in
        let k = tail '>' y (past s.bytes ('>' ∷ y) (past n.bytes v g)) in
        more (placed-stand (spots n.bytes v) (spots-stand n.bytes v g))
        (items-stand i (spots r.bytes (items_then i u)) u (spots-stand r.bytes (items_then i u) k) (past r.bytes (items_then i u) k))

    items-stand : (i : Items) (c : List Spot) (t : List ℕ) → Spots c → P (items_then i t) → Every Words (items_placed i c t)
    items-stand end c t k h = data_stands c k
    items-stand (element e r i) c t k h =
        let z = r.bytes ++ items_then i t in
        let g = past-element e z h in
        every_append (data_stands c k)
        (every_append (element-stands e z h)
        (items-stand i (spots r.bytes (items_then i t)) t (spots-stand r.bytes (items_then i t) g) (past r.bytes (items_then i t) g)))
    items-stand (reference e r i) c t k h =
        let z = r.bytes ++ items_then i t in
        let g = past_reference e z h in
        items-stand i (c ++ (spot (entity_char e) (reference_then e z) ∷ spots r.bytes (items_then i t))) t
        (every_append k (more h (spots-stand r.bytes (items_then i t) g))) (past r.bytes (items_then i t) g)
    items-stand (comment b r i) c t k h =
        let g = past-comment b (r.bytes ++ items_then i t) h in
        items-stand i (c ++ spots r.bytes (items_then i t)) t (every_append k (spots-stand r.bytes (items_then i t) g)) (past r.bytes (items_then i t) g)

  past-miscs : (m : List Misc) (u : List ℕ) → P (miscs_then m u) → P u
  unfolding miscs_then
  past-miscs [] u h = h
  past-miscs (remark b ∷ m) u h = past-miscs m u (past-comment b (miscs_then m u) h)
  past-miscs (blank s ∷ m) u h = past-miscs m u (past s.bytes (miscs_then m u) h)

-- ---- the text ends with the row u
record Ends (T u : List ℕ) : Type 0 where
  pub front : List ℕ
  pub is : front ++ u ≡ T

ends-tail : (T : List ℕ) (x : ℕ) (u : List ℕ) → Ends T (x ∷ u) → Ends T u
ends-tail T x u h = record { front = h.front ++ (x ∷ []); is = append_assoc h.front (x ∷ []) u ∙ h.is }

-- A row with which T ends is T from its place on.
ends_at : (T u : List ℕ) → Ends T u → drop (place_in T u) T ≡ u
ends_at T u h = ap (drop (place_in T u)) (sym h.is) ∙ drop_at h.front u (place_in T u) (omega (arith, length-append h.front u, ap length h.is))

pub every_map : {A : Type 0} {P Q : A → Type 0} → ((a : A) → P a → Q a) → {l : List A} → Every P l → Every Q l
every_map f none = none
every_map f (more {a} h r) = more (f a h) (every_map f r)

every_both : {A : Type 0} {P Q R : A → Type 0} → ((a : A) → P a → Q a → R a) → {l : List A} → Every P l → Every Q l → Every R l
every_both f none none = none
every_both f (more {a} h r) (more k q) = more (f a h k) (every_both f r q)

pub document-stands : (d : Document) → Every (Every (λ p. drop (place_in (text d) p.row) (text d) ≡ p.row)) (document_placed d)
unfolding document_placed
document-stands d =
    every_map (λ ps. every_map (λ p h. ends_at (text d) p.row h))
    (element-stands (Ends (text d)) (ends-tail (text d)) d.root (miscs_then d.epilog [])
    (past-miscs (Ends (text d)) (ends-tail (text d)) d.prolog (element_then d.root (miscs_then d.epilog [])) (record { front = []; is = unfold text in refl })))

-- The word p is what is read in the text from its place on.
abbrev pub Found : Document → Placed → Type 0
Found d p = word_at (text d) (place_in (text d) p.row) ≡ p.word

pub document-found : (d : Document) → Every (Every (Found d)) (document_placed d)
unfolding word_at
document-found d = every_both (λ ps. every_both (λ p s r. ap (word_from 0) s ∙ r)) (document-stands d) (document-right d)

-- ---- the words of a node
on-here : (T : List ℕ) (m : Mention) (M : List Mention) (v : ℕ) → m.node ≡ v → words_on T (m ∷ M) v ≡ word_at T m.place ∷ words_on T M v
unfolding words_on
on-here T m M v e = rw (eq-eqb m.node v e)

on-not : (T : List ℕ) (m : Mention) (M : List Mention) (v : ℕ) → (m.node ≡ v → ⊥) → words_on T (m ∷ M) v ≡ words_on T M v
unfolding words_on
on-not T m M v e = rw (ne_eqb m.node v e)

module _ (T : List ℕ) where
  abbrev In : Placed → Type 0
  In p = word_at T (place_in T p.row) ≡ p.word

  -- The mentions of one node, before others.
  on-own : (v : ℕ) {l : List Placed} → Every In l → (M : List Mention) → words_on T (mentions_at (place_in T) v l ++ M) v ≡ map (λ p. p.word) l ++ words_on T M v
  on-own v none M = refl
  on-own v (more {a} h r) M = on-here T (mention v (place_in T a.row)) _ v refl ∙ ap₂ ◌∷◌ h (on-own v r M)

  on-other : (w v : ℕ) → (w ≡ v → ⊥) → (l : List Placed) (M : List Mention) → words_on T (mentions_at (place_in T) w l ++ M) v ≡ words_on T M v
  on-other w v n [] M = refl
  on-other w v n (p ∷ l) M = on-not T (mention w (place_in T p.row)) (mentions_at (place_in T) w l ++ M) v n ∙ on-other w v n l M

  -- No node before the first.
  on_below : (w v : ℕ) → v < w → (l : List (List Placed)) → words_on T (mentioned (place_in T) w l) v ≡ []
  unfolding mentioned
  on_below w v h [] = unfold words_on in refl
  on_below w v h (p ∷ l) = on-other w v (λ e. omega arith) p (mentioned (place_in T) (suc w) l) ∙ on_below (suc w) v (omega arith) l

  on-mentioned : (w : ℕ) {l : List (List Placed)} → Every (Every In) l → (i : ℕ) → words_on T (mentioned (place_in T) w l) (w + i) ≡ get_or (map (map (λ p. p.word)) l) i []
  unfolding mentioned
  on-mentioned w none i = unfold words_on in refl
  on-mentioned w (more {a = p} {l = l} h r) zero =
      ap (words_on T (mentions_at (place_in T) w p ++ mentioned (place_in T) (suc w) l)) plus ∙
      on-own w h (mentioned (place_in T) (suc w) l) ∙ ap (λ z. map (λ p. p.word) p ++ z) (on_below (suc w) w (omega arith) l) ∙ append-nil (map (λ p. p.word) p)
    where
      plus : w + 0 ≡ w
      plus = omega arith
  on-mentioned w (more {a = p} {l = l} h r) (suc i) =
      on-other w (w + suc i) (λ e. omega arith) p (mentioned (place_in T) (suc w) l) ∙
      ap (words_on T (mentioned (place_in T) (suc w) l)) shift ∙ on-mentioned (suc w) r i
    where
      shift : w + suc i ≡ suc w + i
      shift = omega arith

pub words-on : (d : Document) (v : ℕ) → words_on (text d) (mentions_of d) v ≡ get_or (document_words d) v []
unfolding mentions_of
words-on d v = ap (words_on (text d) (mentioned (place_in (text d)) 0 (document_placed d))) zero_plus ∙ on-mentioned (text d) 0 (document-found d) v ∙ ap (λ l. get_or l v []) (document_forgets d)
  where
    zero_plus : v ≡ 0 + v
    zero_plus = omega arith

pub stands-known : (d : Document) (q : Word) (v : ℕ) → stands (text d) q v ≡ known (get_or (document_words d) v []) q
unfolding stands
stands-known d q v = ap (λ M. known (words_on (text d) M v) q) (sym (mentions-read d)) ∙ ap (λ l. known l q) (words-on d v)
