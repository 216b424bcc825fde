-- The pass over a text of the profile finds its mentions.
--   starts_in v o c      == the places in the spots c at which a word starts, as mentions of the node v; o says whether a word is going on before them
--   going_after, solid_after   == whether a word is going on, and whether the data makes a node, after characters
--   run_data, run-tag   the pass over a run of data, and over the bytes of a tag
--   starts-placed       where words start in spots is where the words of spots begin
--   mentions-read       the mentions of a document are those that the pass finds in its text
--   mentions_unique     so they depend on the text alone
-- Letters as in specs/. Assumes nothing.
use Prim.Native.Nat.{ℕ, suc, ◌+◌}
use mathlib.Core.Path.{◌≡◌, refl, sym, ap, ap₂, ◌∙◌}
use mathlib.Core.Logic.{⊎_elim}
use mathlib.Core.List.{List, [], ◌∷◌, ◌++◌, append_assoc, append-nil}
use mathlib.Core.Bool.{Bool, true, false, not, cond, ◌&&◌, ◌||◌, or-true, false≢true}
use native.Mathlib.Omega.{arith}
use lib.Dec.{eqb}
use lib.ListN.{length, length-append}
use borrow.Author.Tests.{not-true}
use Rattle.seq.specs.Lists.{every_of}
use Rattle.seq.proofs.Laws.Bools.{bool_cases, bool_false, and_left, and_right, and_both}
use Rattle.profile.specs.Bytes.{'!', '&', '/', '<', '>', char, white, name_start, name_char, data_char, is_s, is_spaces, is_name, is_char_data}
use Rattle.profile.specs.Spans.{other}
use Rattle.profile.specs.Grammar.{Spaces, Name, CharData, Misc, remark, blank, Element, empty_tag, tags, Items, end, element, reference, comment, Document, Entity, lt, gt, amp, apos, quot, reference_then, end_tag_then, element_then, items_then, miscs_then, text}
use Rattle.profile.specs.Tree.{place_in}
use Rattle.profile.proofs.Laws.Bytes.{apart}
use Rattle.words.specs.Runs.{word_byte, lower}
use Rattle.words.specs.Words.{entity_char}
use Rattle.words.specs.Places.{Spot, spot, Placed, spots, closed_at, runs_at, placed_of, chars, data_placed, element_placed, items_placed, document_placed, Mention, mention, mentions_at, mentioned, mentions_of}
use Rattle.words.specs.Scan.{ahead, behind, scan, mentions_in}
use Rattle.words.proofs.Laws.Runs.{entity_parts}
use Rattle.words.proofs.Forgets.{chars-spots, chars-append}
use Rattle.words.proofs.Right.{white-word, name-chars}
use Rattle.words.proofs.Laws.Scan.{scan-on, scan-new, scan_data, scan-tag, scan-end, scan-comment, scan-close, scan_open, scan_reference}

-- ---- after characters
going_after : Bool → List ℕ → Bool
going_after o [] = o
going_after o (x ∷ l) = going_after (word_byte x) l

solid_after : Bool → List ℕ → Bool
solid_after b [] = b
solid_after b (x ∷ l) = solid_after (b || not (white x)) l

going-append : (o : Bool) (l m : List ℕ) → going_after o (l ++ m) ≡ going_after (going_after o l) m
unfolding going_after
going-append o [] m = refl
going-append o (x ∷ l) m = going-append (word_byte x) l m

solid-append : (b : Bool) (l m : List ℕ) → solid_after b (l ++ m) ≡ solid_after (solid_after b l) m
unfolding solid_after
solid-append b [] m = refl
solid-append b (x ∷ l) m = solid-append (b || not (white x)) l m

-- Data makes a node where some character is no white space.
solid-is : (b : Bool) (l : List ℕ) → solid_after b l ≡ (b || not (every_of white l))
unfolding solid_after every_of
solid-is true [] = refl
solid-is false [] = refl
solid-is b (x ∷ l) = solid-is (b || not (white x)) l ∙ by b (white x)
  where
    by : (b z : Bool) → ((b || not z) || not (every_of white l)) ≡ (b || not (z && every_of white l))
    by true z = refl
    by false true = refl
    by false false = refl

-- A letter or digit is no white space.
word-white : (x : ℕ) → word_byte x ≡ true → white x ≡ false
word-white x e = bool_false (white x) (λ h. let z : false ≡ true = sym (white-word x h) ∙ e in absurd (false≢true z))

-- ---- which bytes stand in data and in tags
abbrev of_data : ℕ → Bool
of_data x = not (eqb x '<') && not (eqb x '&')

abbrev of_tag : ℕ → Bool
of_tag x = not (eqb x '<') && not (eqb x '>')

-- Bytes that pass f, where two bytes do not: they are neither.
neither : (f : ℕ → Bool) (y z : ℕ) → f y ≡ false → f z ≡ false → (l : List ℕ) → every_of f l ≡ true → every_of (λ x. not (eqb x y) && not (eqb x z)) l ≡ true
unfolding every_of
neither f y z p q [] h = refl
neither f y z p q (x ∷ l) h =
    and_both _ _ (and_both _ _ (ap not (apart f x y p (and_left (f x) (every_of f l) h))) (ap not (apart f x z q (and_left (f x) (every_of f l) h))))
    (neither f y z p q l (and_right (f x) (every_of f l) h))

no_end : (f : ℕ → Bool) → f '>' ≡ false → (l : List ℕ) → every_of f l ≡ true → every_of (other '>') l ≡ true
unfolding every_of other
no_end f p [] h = refl
no_end f p (x ∷ l) h = and_both _ _ (ap not (apart f x '>' p (and_left (f x) (every_of f l) h))) (no_end f p l (and_right (f x) (every_of f l) h))

data_of_data : (r : CharData) → every_of of_data r.bytes ≡ true
unfolding is_char_data data_char char
data_of_data r = neither data_char '<' '&' refl refl r.bytes (and_left (every_of data_char r.bytes) _ r.keeps)

name-of-tag : (n : List ℕ) → is_name n ≡ true → every_of of_tag n ≡ true
name-of-tag n h = neither name_char '<' '>' (unfold name_char name_start in refl) (unfold name_char name_start in refl) n (name-chars n h)

white-of-tag : (s : List ℕ) → every_of white s ≡ true → every_of of_tag s ≡ true
white-of-tag s h = neither white '<' '>' (unfold white in refl) (unfold white in refl) s h

name_no_end : (n : List ℕ) → is_name n ≡ true → every_of (other '>') n ≡ true
name_no_end n h = no_end name_char (unfold name_char name_start in refl) n (name-chars n h)

white_no_end : (s : List ℕ) → every_of white s ≡ true → every_of (other '>') s ≡ true
white_no_end s h = no_end white (unfold white in refl) s h

every_append : (f : ℕ → Bool) (a b : List ℕ) → every_of f a ≡ true → every_of f b ≡ true → every_of f (a ++ b) ≡ true
unfolding every_of
every_append f [] b h k = k
every_append f (x ∷ a) b h k = and_both _ _ (and_left (f x) (every_of f a) h) (every_append f a b (and_right (f x) (every_of f a) h) k)

module _ (place : List ℕ → ℕ) where
  starts_in : ℕ → Bool → List Spot → List Mention
  starts_in v o [] = []
  starts_in v o (s ∷ c) = cond (word_byte s.char && not o) (mention v (place s.row) ∷ starts_in v (word_byte s.char) c) (starts_in v (word_byte s.char) c)

  starts-append : (v : ℕ) (o : Bool) (c d : List Spot) → starts_in v o (c ++ d) ≡ starts_in v o c ++ starts_in v (going_after o (chars c)) d
  unfolding starts_in going_after
  starts-append v o [] d = refl
  starts-append v o (s ∷ c) d = by (word_byte s.char && not o) (starts_in v (word_byte s.char) (c ++ d)) _ _ (starts-append v (word_byte s.char) c d)
    where
      by : (z : Bool) (l m n : List Mention) → l ≡ m ++ n → cond z (mention v (place s.row) ∷ l) l ≡ cond z (mention v (place s.row) ∷ m) m ++ n
      by true l m n e = ap (λ l. mention v (place s.row) ∷ l) e
      by false l m n e = e

  starts-end : (v : ℕ) (o : Bool) → starts_in v o [] ≡ []
  unfolding starts_in
  starts-end v o = refl

  -- One spot.
  starts-new : (v : ℕ) (s : Spot) (c : List Spot) → word_byte s.char ≡ true → starts_in v false (s ∷ c) ≡ mention v (place s.row) ∷ starts_in v true c
  unfolding starts_in
  starts-new v s c e = rw e

  starts-on : (v : ℕ) (s : Spot) (c : List Spot) → word_byte s.char ≡ true → starts_in v true (s ∷ c) ≡ starts_in v true c
  unfolding starts_in
  starts-on v s c e = rw e

  starts-not : (v : ℕ) (o : Bool) (s : Spot) (c : List Spot) → word_byte s.char ≡ false → starts_in v o (s ∷ c) ≡ starts_in v false c
  unfolding starts_in
  starts-not v o s c e = rw e

  -- ---- runs of bytes
  after-letter : (b : Bool) (x : ℕ) → word_byte x ≡ true → (b || not (white x)) ≡ (b || true)
  after-letter b x e = ap (λ z. b || not z) (word-white x e)

  -- What a run of data does, and a run of a tag's bytes, which leaves the data as it was.
  abbrev RunsData : List ℕ → ℕ → List ℕ → Bool → Bool → Type 0
  RunsData r v t o b =
      scan place 0 (ahead false o b v) (r ++ t) ≡ starts_in v o (spots r t) ++ scan place 0 (ahead false (going_after o r) (solid_after b r) v) t

  abbrev RunsTag : List ℕ → ℕ → List ℕ → Bool → Type 0
  RunsTag r v t o = scan place 0 (ahead true o false v) (r ++ t) ≡ starts_in v o (spots r t) ++ scan place 0 (ahead true (going_after o r) false v) t

  module _ (x : ℕ) (r : List ℕ) (v : ℕ) (t : List ℕ) where
    abbrev here : Spot
    here = spot x (x ∷ (r ++ t))

    module _ (h : of_data x ≡ true) (more : (o b : Bool) → RunsData r v t o b) where
      abbrev data_tail : Bool → Bool → List Mention
      data_tail o b = scan place 0 (ahead false (going_after o r) (solid_after b r) v) t

      data_letter : (o b : Bool) → word_byte x ≡ true → RunsData (x ∷ r) v t o b
      unfolding spots going_after solid_after
      data_letter true b e =
          scan-on place x (r ++ t) e false b v ∙ more true (b || true) ∙
          ap₂ ◌++◌ (sym (starts-on v here (spots r t) e)) (ap₂ data_tail (sym e) (sym (after-letter b x e)))
      data_letter false b e =
          scan-new place x (r ++ t) e false b v ∙ ap (λ l. mention v (place (x ∷ (r ++ t))) ∷ l) (more true (b || true)) ∙
          ap₂ ◌++◌ (sym (starts-new v here (spots r t) e)) (ap₂ data_tail (sym e) (sym (after-letter b x e)))

      data_other : (o b : Bool) → word_byte x ≡ false → RunsData (x ∷ r) v t o b
      unfolding spots going_after solid_after
      data_other o b e =
          scan_data place x (r ++ t) e (not-true (eqb x '<') (and_left (not (eqb x '<')) (not (eqb x '&')) h)) o b v
          (not-true (eqb x '&') (and_right (not (eqb x '<')) (not (eqb x '&')) h)) ∙
          more false (b || not (white x)) ∙ ap₂ ◌++◌ (sym (starts-not v o here (spots r t) e)) (ap (λ z. data_tail z (b || not (white x))) (sym e))

      data_byte : (o b : Bool) → RunsData (x ∷ r) v t o b
      data_byte o b = ⊎_elim (data_letter o b) (data_other o b) (bool_cases (word_byte x))

    module _ (h : of_tag x ≡ true) (more : (o : Bool) → RunsTag r v t o) where
      abbrev tag_tail : Bool → List Mention
      tag_tail o = scan place 0 (ahead true (going_after o r) false v) t

      tag-letter : (o : Bool) → word_byte x ≡ true → RunsTag (x ∷ r) v t o
      unfolding spots going_after
      tag-letter true e = scan-on place x (r ++ t) e true false v ∙ more true ∙ ap₂ ◌++◌ (sym (starts-on v here (spots r t) e)) (ap tag_tail (sym e))
      tag-letter false e =
          scan-new place x (r ++ t) e true false v ∙ ap (λ l. mention v (place (x ∷ (r ++ t))) ∷ l) (more true) ∙
          ap₂ ◌++◌ (sym (starts-new v here (spots r t) e)) (ap tag_tail (sym e))

      tag-other : (o : Bool) → word_byte x ≡ false → RunsTag (x ∷ r) v t o
      unfolding spots going_after
      tag-other o e =
          scan-tag place x (r ++ t) e (not-true (eqb x '<') (and_left (not (eqb x '<')) (not (eqb x '>')) h)) o false v
          (not-true (eqb x '>') (and_right (not (eqb x '<')) (not (eqb x '>')) h)) ∙
          more false ∙ ap₂ ◌++◌ (sym (starts-not v o here (spots r t) e)) (ap tag_tail (sym e))

      tag-byte : (o : Bool) → RunsTag (x ∷ r) v t o
      tag-byte o = ⊎_elim (tag-letter o) (tag-other o) (bool_cases (word_byte x))

  run_data : (r : List ℕ) (v : ℕ) (t : List ℕ) → every_of of_data r ≡ true → (o b : Bool) → RunsData r v t o b
  unfolding every_of spots going_after solid_after starts_in
  run_data [] v t h o b = refl
  run_data (x ∷ r) v t h o b = data_byte x r v t (and_left (of_data x) (every_of of_data r) h) (run_data r v t (and_right (of_data x) (every_of of_data r) h)) o b

  run-tag : (r : List ℕ) (v : ℕ) (t : List ℕ) → every_of of_tag r ≡ true → (o : Bool) → RunsTag r v t o
  unfolding every_of spots going_after starts_in
  run-tag [] v t h o = refl
  run-tag (x ∷ r) v t h o = tag-byte x r v t (and_left (of_tag x) (every_of of_tag r) h) (run-tag r v t (and_right (of_tag x) (every_of of_tag r) h)) o

  -- White space starts no word.
  white-starts : (s : List ℕ) (v : ℕ) (o : Bool) (t : List ℕ) → every_of white s ≡ true → starts_in v o (spots s t) ≡ []
  unfolding every_of spots
  white-starts [] v o t h = unfold starts_in in refl
  white-starts (x ∷ s) v o t h =
      starts-not v o (spot x (x ∷ (s ++ t))) (spots s t) (white-word x (and_left (white x) (every_of white s) h)) ∙ white-starts s v false t (and_right (white x) (every_of white s) h)

  -- ---- where words start in spots is where the words of spots begin
  mutual
    unfolding runs_at starts_in closed_at

    -- No run is going on.
    runs-fresh : (v : ℕ) (u : List ℕ) (c : List Spot) → mentions_at place v (runs_at u [] c) ≡ starts_in v false c
    runs-fresh v u [] = refl
    runs-fresh v u (s ∷ c) = ⊎_elim (λ e. rw e (runs-going v s.row (lower s.char) [] c)) (λ e. rw e (runs-fresh v [] c)) (bool_cases (word_byte s.char))

    -- A run is.
    runs-going : (v : ℕ) (u : List ℕ) (x : ℕ) (b : List ℕ) (c : List Spot) → mentions_at place v (runs_at u (x ∷ b) c) ≡ mention v (place u) ∷ starts_in v true c
    runs-going v u x b [] = refl
    runs-going v u x b (s ∷ c) =
        ⊎_elim
        (λ e. rw e (runs-going v u x (b ++ (lower s.char ∷ [])) c))
        (λ e. rw e (ap (λ l. mention v (place u) ∷ l) (runs-fresh v [] c)))
        (bool_cases (word_byte s.char))

  starts-placed : (v : ℕ) (c : List Spot) → starts_in v false c ≡ mentions_at place v (placed_of c)
  unfolding placed_of
  starts-placed v c = sym (runs-fresh v [] c)

  -- ---- the nodes of data
  solid-c : List Spot → Bool
  solid-c c = solid_after false (chars c)

  white-none : (c : List Spot) (v : ℕ) (o : Bool) → every_of white (chars c) ≡ true → starts_in v o c ≡ []
  unfolding every_of
  white-none [] v o h = unfold starts_in in refl
  white-none (s ∷ c) v o h =
      starts-not v o s c (white-word s.char (and_left (white s.char) (every_of white (chars c)) h)) ∙
      white-none c v false (and_right (white s.char) (every_of white (chars c)) h)

  -- Its words, and the number of the node behind it.
  data_mentioned : (v : ℕ) (c : List Spot) → starts_in v false c ≡ mentioned place v (data_placed c)
  unfolding data_placed mentioned
  data_mentioned v c =
      ⊎_elim
      (λ e. white-none c v false e ∙ ap (λ z. mentioned place v (cond z [] (placed_of c ∷ []))) (sym e))
      (λ e. starts-placed v c ∙ sym (append-nil (mentions_at place v (placed_of c))) ∙ ap (λ z. mentioned place v (cond z [] (placed_of c ∷ []))) (sym e))
      (bool_cases (every_of white (chars c)))

  data_behind : (v : ℕ) (c : List Spot) → behind (solid-c c) v ≡ v + length (data_placed c)
  unfolding data_placed solid-c
  data_behind v c = ap (λ z. behind z v) (solid-is false (chars c)) ∙ by (every_of white (chars c))
    where
      by : (z : Bool) → behind (not z) v ≡ v + length (cond z [] (placed_of c ∷ []))
      by true = omega arith
      by false = omega arith

  mentioned-append : (v : ℕ) (l m : List (List Placed)) → mentioned place v (l ++ m) ≡ mentioned place v l ++ mentioned place (v + length l) m
  unfolding mentioned
  mentioned-append v [] m = ap (λ (z : ℕ). mentioned place z m) (omega arith)
  mentioned-append v (p ∷ l) m =
      ap (λ z. mentions_at place v p ++ z) (mentioned-append (suc v) l m ∙ ap (λ (z : ℕ). mentioned place (suc v) l ++ mentioned place z m) (omega arith)) ∙
      sym (append_assoc (mentions_at place v p) (mentioned place (suc v) l) (mentioned place (v + suc (length l)) m))

  -- ---- tags
  -- The state in a tag, behind the bytes l of it.
  abbrev in_tag : List ℕ → ℕ → List ℕ → List Mention
  in_tag l v t = scan place 0 (ahead true (going_after false l) false v) t

  tag-name : (n : List ℕ) → is_name n ≡ true → (R : List ℕ) (o b : Bool) (v : ℕ) →
      scan place 0 (ahead false o b v) ('<' ∷ (n ++ R)) ≡ mentions_at place (behind b v) (placed_of (spots n R)) ++ in_tag n (behind b v) R
  unfolding is_name
  tag-name [] h R o b v = absurd (false≢true h)
  tag-name (x ∷ n) h R o b v =
      scan_open place x (n ++ R) (apart name_start x '!' (unfold name_start in refl) first) (apart name_start x '/' (unfold name_start in refl) first) false o b v ∙
      run-tag (x ∷ n) (behind b v) R (name-of-tag (x ∷ n) h) false ∙ ap (λ l. l ++ in_tag (x ∷ n) (behind b v) R) (starts-placed (behind b v) (spots (x ∷ n) R))
    where
      first : name_start x ≡ true
      first = and_left (name_start x) (every_of name_char n) h

  -- White space, in a tag that is behind its name.
  tag-spaces : (s : List ℕ) → every_of white s ≡ true → (R : List ℕ) (o : Bool) (v : ℕ) →
      scan place 0 (ahead true o false v) (s ++ R) ≡ scan place 0 (ahead true (going_after o s) false v) R
  tag-spaces s h R o v = run-tag s v R (white-of-tag s h) o ∙ ap (λ l. l ++ scan place 0 (ahead true (going_after o s) false v) R) (white-starts s v o R h)

  tag-ends : (s : List ℕ) → every_of white s ≡ true → (t : List ℕ) (o : Bool) (v : ℕ) →
      scan place 0 (ahead true o false v) (s ++ ('>' ∷ t)) ≡ scan place 0 (ahead false false false (suc v)) t
  tag-ends s h t o v = tag-spaces s h ('>' ∷ t) o v ∙ scan-end place t (going_after o s) false v

  tag_empties : (s : List ℕ) → every_of white s ≡ true → (t : List ℕ) (o : Bool) (v : ℕ) →
      scan place 0 (ahead true o false v) (s ++ ('/' ∷ '>' ∷ t)) ≡ scan place 0 (ahead false false false (suc v)) t
  tag_empties s h t o v =
      tag-spaces s h ('/' ∷ '>' ∷ t) o v ∙ scan-tag place '/' ('>' ∷ t) (unfold word_byte in refl) refl (going_after o s) false v refl ∙ scan-end place t false false v

  -- An end tag.
  end-tag : (n : Name) (s : Spaces) (t : List ℕ) (o b : Bool) (v : ℕ) →
      scan place 0 (ahead false o b v) ('<' ∷ end_tag_then n.bytes s t) ≡ scan place 0 (ahead false false false (behind b v)) t
  unfolding end_tag_then is_spaces
  end-tag n s t o b v =
      ap (λ l. scan place 0 (ahead false o b v) ('<' ∷ '/' ∷ l)) (sym (append_assoc n.bytes s.bytes ('>' ∷ t))) ∙
      scan-close place (n.bytes ++ s.bytes) t
      (every_append (other '>') n.bytes s.bytes
      (name_no_end n.bytes n.keeps) (white_no_end s.bytes s.keeps)) false o b v

  -- ---- elements and content
  -- Behind an element, an end tag or the root's last tag.
  abbrev onward : ℕ → List ℕ → List Mention
  onward v t = scan place 0 (ahead false false false v) t

  -- Over the content of an element, the data c being held: to behind the end tag.
  abbrev within : ℕ → List Spot → List ℕ → List Mention
  within v c t = starts_in v false c ++ scan place 0 (ahead false (going_after false (chars c)) (solid-c c) v) t

  -- What the data held, c, and the spots d behind it do together.
  abbrev after : ℕ → Bool → Bool → List Spot → List ℕ → List Mention
  after v o b d t = starts_in v o d ++ scan place 0 (ahead false (going_after o (chars d)) (solid_after b (chars d)) v) t

  within-append : (v : ℕ) (c d : List Spot) (t : List ℕ) → starts_in v false c ++ after v (going_after false (chars c)) (solid-c c) d t ≡ within v (c ++ d) t
  unfolding solid-c
  within-append v c d t =
      sym (append_assoc (starts_in v false c) (starts_in v (going_after false (chars c)) d) _) ∙
      ap₂ ◌++◌ (sym (starts-append v false c d))
      (ap₂ (λ o b. scan place 0 (ahead false o b v) t)
      (sym (ap (going_after false) (chars-append c d) ∙ going-append false (chars c) (chars d)))
      (sym (ap (solid_after false) (chars-append c d) ∙ solid-append false (chars c) (chars d))))

  -- A run of data, a reference and a comment.
  run_on : (r : CharData) (v : ℕ) (c : List Spot) (t : List ℕ) → within v c (r.bytes ++ t) ≡ within v (c ++ spots r.bytes t) t
  run_on r v c t =
      ap (λ l. starts_in v false c ++ l)
      (run_data r.bytes v t (data_of_data r) (going_after false (chars c)) (solid-c c) ∙
      ap (λ l. starts_in v (going_after false (chars c)) (spots r.bytes t) ++ scan place 0 (ahead false (going_after (going_after false (chars c)) l) (solid_after (solid-c c) l) v) t)
      (sym (chars-spots r.bytes t))) ∙ within-append v c (spots r.bytes t) t

  run-first : (r : CharData) (v : ℕ) (t : List ℕ) → onward v (r.bytes ++ t) ≡ within v (spots r.bytes t) t
  run-first r v t = unfold starts_in going_after solid_after solid-c in run_on r v [] t

  reference_on : (e : Entity) (v : ℕ) (c : List Spot) (t : List ℕ) → within v c (reference_then e t) ≡ within v (c ++ (spot (entity_char e) (reference_then e t) ∷ [])) t
  reference_on e v c t = ap (λ l. starts_in v false c ++ l) (scan_reference place (going_after false (chars c)) (solid-c c) v e t ∙ sym held) ∙ within-append v c (a ∷ []) t
    where
      a : Spot
      a = spot (entity_char e) (reference_then e t)

      dark : (e : Entity) → white (entity_char e) ≡ false
      dark lt = unfold white entity_char in refl
      dark gt = unfold white entity_char in refl
      dark amp = unfold white entity_char in refl
      dark apos = unfold white entity_char in refl
      dark quot = unfold white entity_char in refl

      held : after v (going_after false (chars c)) (solid-c c) (spot (entity_char e) (reference_then e t) ∷ []) t ≡ scan place 0 (ahead false false true v) t
      held =
          unfold going_after solid_after in
          ap₂ ◌++◌ (starts-not v (going_after false (chars c)) (spot (entity_char e) (reference_then e t)) [] (entity_parts e) ∙ starts-end v false)
          (ap₂ (λ o b. scan place 0 (ahead false o b v) t) (entity_parts e) (ap (λ z. solid-c c || not z) (dark e) ∙ or-true (solid-c c)))

  -- Three parts one after the other.
  joined : (v : ℕ) (D E I : List (List Placed)) (t : List ℕ) →
      mentioned place v D ++ (mentioned place (v + length D) E ++ (mentioned place (v + length D + length E) I ++ onward (v + length D + length E + length I) t)) ≡
      mentioned place v (D ++ (E ++ I)) ++ onward (v + length (D ++ (E ++ I))) t
  joined v D E I t =
      ap (λ l. mentioned place v D ++ l)
      (sym (append_assoc (mentioned place (v + length D) E) (mentioned place (v + length D + length E) I) (onward (v + length D + length E + length I) t)) ∙
      ap (λ l. l ++ onward (v + length D + length E + length I) t) (sym (mentioned-append (v + length D) E I))) ∙
      sym (append_assoc (mentioned place v D) (mentioned place (v + length D) (E ++ I)) (onward (v + length D + length E + length I) t)) ∙
      ap₂ (λ l (z : ℕ). l ++ onward z t) (sym (mentioned-append v D (E ++ I))) (omega (arith, length-append D (E ++ I), length-append E I))

  mutual
    unfolding element_then items_then element_placed items_placed mentioned is_spaces

    element-read : (e : Element) (t : List ℕ) (o b : Bool) (v : ℕ) →
        scan place 0 (ahead false o b v) (element_then e t) ≡ mentioned place (behind b v) (element_placed e t) ++ onward (behind b v + length (element_placed e t)) t
    element-read (empty_tag n s) t o b v =
        let w = behind b v in
        let R = s.bytes ++ ('/' ∷ '>' ∷ t) in
        tag-name n.bytes n.keeps R o b v ∙
        ap₂ ◌++◌ (sym (append-nil (mentions_at place w (placed_of (spots n.bytes R)))))
        (tag_empties s.bytes s.keeps t (going_after false n.bytes) w ∙ ap (λ (z : ℕ). onward z t) (omega arith))
    element-read (tags n s r i s') t o b v =
        let w = behind b v in
        let u = '<' ∷ end_tag_then n.bytes s' t in
        let R = s.bytes ++ ('>' ∷ (r.bytes ++ items_then i u)) in
        let c = spots r.bytes (items_then i u) in
        tag-name n.bytes n.keeps R o b v ∙
        ap (λ l. mentions_at place w (placed_of (spots n.bytes R)) ++ l)
        (tag-ends s.bytes s.keeps (r.bytes ++ items_then i u) (going_after false n.bytes) w ∙
        run-first r (suc w) (items_then i u) ∙ items-read i c n s' t (suc w)) ∙
        sym (append_assoc (mentions_at place w (placed_of (spots n.bytes R))) (mentioned place (suc w) (items_placed i c u)) (onward (suc w + length (items_placed i c u)) t)) ∙
        ap (λ (z : ℕ). (mentions_at place w (placed_of (spots n.bytes R)) ++ mentioned place (suc w) (items_placed i c u)) ++ onward z t) (omega arith)

    items-read : (i : Items) (c : List Spot) (n : Name) (s : Spaces) (t : List ℕ) (v : ℕ) →
        within v c (items_then i ('<' ∷ end_tag_then n.bytes s t)) ≡
        mentioned place v (items_placed i c ('<' ∷ end_tag_then n.bytes s t)) ++ onward (v + length (items_placed i c ('<' ∷ end_tag_then n.bytes s t))) t
    items-read end c n s t v =
        ap₂ ◌++◌ (data_mentioned v c) (end-tag n s t (going_after false (chars c)) (solid-c c) v ∙ ap (λ (z : ℕ). onward z t) (data_behind v c))
    items-read (element e r i) c n s t v =
        let u = '<' ∷ end_tag_then n.bytes s t in
        let z = r.bytes ++ items_then i u in
        let D = data_placed c in
        let E = element_placed e z in
        let I = items_placed i (spots r.bytes (items_then i u)) u in
        ap₂ ◌++◌ (data_mentioned v c)
        (element-read e z (going_after false (chars c)) (solid-c c) v ∙
        ap (λ (w : ℕ). mentioned place w E ++ onward (w + length E) z) (data_behind v c) ∙
        ap (λ l. mentioned place (v + length D) E ++ l)
        (run-first r (v + length D + length E) (items_then i u) ∙ items-read i (spots r.bytes (items_then i u)) n s t (v + length D + length E))) ∙
        joined v D E I t
    items-read (reference e r i) c n s t v =
        let u = '<' ∷ end_tag_then n.bytes s t in
        let a = spot (entity_char e) (reference_then e (r.bytes ++ items_then i u)) in
        reference_on e v c (r.bytes ++ items_then i u) ∙ run_on r v (c ++ (a ∷ [])) (items_then i u) ∙
        ap (λ d. within v d (items_then i u)) (append_assoc c (a ∷ []) (spots r.bytes (items_then i u))) ∙
        items-read i (c ++ (a ∷ spots r.bytes (items_then i u))) n s t v
    items-read (comment b r i) c n s t v =
        let u = '<' ∷ end_tag_then n.bytes s t in
        ap (λ l. starts_in v false c ++ l) (scan-comment place b (r.bytes ++ items_then i u) (ahead false (going_after false (chars c)) (solid-c c) v)) ∙
        run_on r v c (items_then i u) ∙ items-read i (c ++ spots r.bytes (items_then i u)) n s t v

  -- ---- around the root
  s-white : (s : List ℕ) → is_s s ≡ true → every_of white s ≡ true
  unfolding is_s is_spaces every_of
  s-white [] h = absurd (false≢true h)
  s-white (x ∷ s) h = h

  spaces-read : (s : List ℕ) (v : ℕ) (t : List ℕ) → every_of white s ≡ true → onward v (s ++ t) ≡ onward v t
  unfolding every_of
  spaces-read [] v t h = refl
  spaces-read (x ∷ s) v t h =
      let first : white x ≡ true = and_left (white x) (every_of white s) h in
      scan_data place x (s ++ t) (white-word x first) (apart white x '<' (unfold white in refl) first) false false v (apart white x '&' (unfold white in refl) first) ∙
      ap (λ z. scan place 0 (ahead false false (not z) v) (s ++ t)) first ∙ spaces-read s v t (and_right (white x) (every_of white s) h)

  miscs-read : (m : List Misc) (v : ℕ) (t : List ℕ) → onward v (miscs_then m t) ≡ onward v t
  unfolding miscs_then
  miscs-read [] v t = refl
  miscs-read (remark b ∷ m) v t = scan-comment place b (miscs_then m t) (ahead false false false v) ∙ miscs-read m v t
  miscs-read (blank s ∷ m) v t = spaces-read s.bytes v (miscs_then m t) (s-white s.bytes s.keeps) ∙ miscs-read m v t

pub mentions-read : (d : Document) → mentions_of d ≡ mentions_in (text d)
unfolding mentions_of mentions_in document_placed text
mentions-read d = sym (miscs-read place d.prolog 0 (element_then d.root rest) ∙ element-read place d.root rest false false 0 ∙ ap (λ l. mentioned place 0 (element_placed d.root rest) ++ l) none ∙ append-nil (mentioned place 0 (element_placed d.root rest)))
  where
    place : List ℕ → ℕ
    place = place_in (text d)

    rest : List ℕ
    rest = miscs_then d.epilog []

    none : onward (place_in (text d)) (0 + length (element_placed d.root (miscs_then d.epilog []))) (miscs_then d.epilog []) ≡ []
    none = miscs-read (place_in (text d)) d.epilog (0 + length (element_placed d.root (miscs_then d.epilog []))) [] ∙ unfold scan in refl

pub mentions_unique : (d e : Document) → text d ≡ text e → mentions_of d ≡ mentions_of e
mentions_unique d e same = mentions-read d ∙ ap mentions_in same ∙ sym (mentions-read e)
