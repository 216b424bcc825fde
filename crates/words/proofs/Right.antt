-- Each word of a document is what is read from its place.
--   Every P l        == P holds of each entry of the list l
--   Chain c R        == from each of the spots c, what is read is the letters of the spots that follow, and then those of the row R
--   document-right   each word of a document is what is read from the row that begins with its first byte
-- Letters as in specs/; R the row that follows a row of spots. Assumes nothing.
use Prim.Native.Nat.{ℕ}
use mathlib.Core.Path.{◌≡◌, refl, sym, ap, subst, ◌∙◌}
use mathlib.Core.Logic.{⊎_elim}
use mathlib.Core.List.{List, [], ◌∷◌, ◌++◌, append_assoc, append-nil}
use mathlib.Core.Bool.{Bool, true, false, not, cond, ◌||◌, false≢true}
use lib.Dec.{eqb}
use borrow.Author.Tests.{eqb-true, not-true}
use Rattle.seq.specs.Lists.{every_of}
use Rattle.seq.proofs.Laws.Bools.{bool_cases, and_left, and_right, and_both, or_cases}
use Rattle.profile.specs.Bytes.{'!', '&', '/', semicolon, '<', '>', char, white, name_start, name_char, data_char, is_spaces, is_name, is_char_data}
use Rattle.profile.specs.Grammar.{Spaces, Name, CharData, Entity, Element, empty_tag, tags, Items, end, element, reference, comment, Document, entity_name, comment_then, reference_then, end_tag_then, element_then, items_then, miscs_then}
use Rattle.profile.proofs.Laws.Bytes.{apart, white-angle}
use Rattle.words.specs.Runs.{Word, word_byte, lower}
use Rattle.words.specs.Words.{entity_char}
use Rattle.words.specs.Places.{Spot, spot, Placed, spots, closed_at, begins, runs_at, placed_of, chars, data_placed, element_placed, items_placed, document_placed}
use Rattle.words.specs.Reading.{word_from}
use Rattle.words.proofs.Laws.Runs.{cons-nil, entity_parts}
use Rattle.words.proofs.Laws.Reading.{word_on, word-stop, word-tag, comment-passed}

-- ---- chains of spots
-- The letters of the spots c up to the first that is none, and those read from the row R where all are letters.
lead_then : List Spot → List ℕ → Word
lead_then [] R = word_from 0 R
lead_then (s ∷ c) R = cond (word_byte s.char) (lower s.char ∷ lead_then c R) []

lead_on : (s : Spot) (c : List Spot) (R : List ℕ) → word_byte s.char ≡ true → lead_then (s ∷ c) R ≡ lower s.char ∷ lead_then c R
unfolding lead_then
lead_on s c R e = rw e

lead_stop : (s : Spot) (c : List Spot) (R : List ℕ) → word_byte s.char ≡ false → lead_then (s ∷ c) R ≡ []
unfolding lead_then
lead_stop s c R e = rw e

lead_end : (R : List ℕ) → lead_then [] R ≡ word_from 0 R
unfolding lead_then
lead_end R = refl

data Chain : List Spot → List ℕ → Type 0 where
  nil : {R : List ℕ} → Chain [] R
  cons : {s : Spot} {c : List Spot} {R : List ℕ} → word_from 0 s.row ≡ lead_then (s ∷ c) R → Chain c R → Chain (s ∷ c) R

lead_ext : (c : List Spot) (R' R : List ℕ) → word_from 0 R' ≡ word_from 0 R → lead_then c R' ≡ lead_then c R
unfolding lead_then
lead_ext [] R' R e = e
lead_ext (a ∷ c) R' R e = ap (λ z. cond (word_byte a.char) (lower a.char ∷ z) []) (lead_ext c R' R e)

chain_ext : (R' R : List ℕ) → word_from 0 R' ≡ word_from 0 R → {c : List Spot} → Chain c R' → Chain c R
chain_ext R' R e nil = nil
chain_ext R' R e (cons {s} {c} h k) = cons (h ∙ lead_ext (s ∷ c) R' R e) (chain_ext R' R e k)

-- One spot more.
module _ (s : Spot) (R : List ℕ) (e : word_from 0 s.row ≡ lead_then (s ∷ []) R) where
  lead_snoc : (c : List Spot) → lead_then c s.row ≡ lead_then (c ++ (s ∷ [])) R
  unfolding lead_then
  lead_snoc [] = e
  lead_snoc (a ∷ c) = ap (λ z. cond (word_byte a.char) (lower a.char ∷ z) []) (lead_snoc c)

  chain_snoc : (c : List Spot) → Chain c s.row → Chain (c ++ (s ∷ [])) R
  chain_snoc [] nil = cons e nil
  chain_snoc (a ∷ c) (cons h k) = cons (h ∙ lead_snoc (a ∷ c)) (chain_snoc c k)

-- A byte other than `<` is a link.
char_lead : (x : ℕ) (u : List ℕ) → eqb x '<' ≡ false → word_from 0 (x ∷ u) ≡ lead_then (spot x (x ∷ u) ∷ []) u
char_lead x u n =
    ⊎_elim
    (λ q. word_on x u q ∙ sym (lead_on (spot x (x ∷ u)) [] u q ∙ unfold lead_then in refl))
    (λ q. word-stop x u q n ∙ sym (lead_stop (spot x (x ∷ u)) [] u q))
    (bool_cases (word_byte x))

abbrev clear : ℕ → Bool
clear x = not (eqb x '<')

chain_run : (r : List ℕ) (c : List Spot) (T : List ℕ) → every_of clear r ≡ true → Chain c (r ++ T) → Chain (c ++ spots r T) T
unfolding every_of spots
chain_run [] c T h k = subst (λ z. Chain z T) (sym (append-nil c)) k
chain_run (x ∷ r) c T h k =
    subst (λ z. Chain z T) (append_assoc c (spot x (x ∷ (r ++ T)) ∷ []) (spots r T))
    (chain_run r (c ++ (spot x (x ∷ (r ++ T)) ∷ [])) T (and_right (clear x) (every_of clear r) h)
    (chain_snoc (spot x (x ∷ (r ++ T))) (r ++ T) (char_lead x (r ++ T) (not-true (eqb x '<') (and_left (clear x) (every_of clear r) h))) c k))

-- ---- the words of a chain
pub runs_at-on : (u b : List ℕ) (s : Spot) (c : List Spot) → word_byte s.char ≡ true → runs_at u b (s ∷ c) ≡ runs_at (begins u b s) (b ++ (lower s.char ∷ [])) c
unfolding runs_at
runs_at-on u b s c e = rw e

pub runs_at-stop : (u b : List ℕ) (s : Spot) (c : List Spot) → word_byte s.char ≡ false → runs_at u b (s ∷ c) ≡ closed_at u b ++ runs_at [] [] c
unfolding runs_at
runs_at-stop u b s c e = rw e

pub data Every {A : Type 0} (P : A → Type 0) : List A → Type 0 where
  none : Every P []
  more : {a : A} {l : List A} → P a → Every P l → Every P (a ∷ l)

pub every_append : {A : Type 0} {P : A → Type 0} {l k : List A} → Every P l → Every P k → Every P (l ++ k)
every_append none q = q
every_append (more h r) q = more h (every_append r q)

-- The word is what is read from its place.
abbrev pub Right : Placed → Type 0
Right p = word_from 0 p.row ≡ p.word

closed-right : (u b : List ℕ) → ((b ≡ [] → ⊥) → word_from 0 u ≡ b) → Every Right (closed_at u b)
unfolding closed_at
closed-right u [] h = none
closed-right u (x ∷ b) h = more (h (cons-nil x b)) none

runs-right : (c : List Spot) (u b R : List ℕ) → word_from 0 R ≡ [] → Chain c R → ((b ≡ [] → ⊥) → word_from 0 u ≡ b ++ lead_then c R) → Every Right (runs_at u b c)
runs-right [] u b R z k h = unfold runs_at in closed-right u b (λ n. last (h n))
  where
    last : word_from 0 u ≡ b ++ lead_then [] R → word_from 0 u ≡ b
    last e = e ∙ ap (λ l. b ++ l) (lead_end R ∙ z) ∙ append-nil b
runs-right (s ∷ c) u b R z (cons q k) h =
    ⊎_elim
    (λ e. subst (Every Right) (sym (runs_at-on u b s c e)) (runs-right c (begins u b s) (b ++ (lower s.char ∷ [])) R z k (λ n. joins b h e)))
    (λ e. subst (Every Right) (sym (runs_at-stop u b s c e))
    (every_append (closed-right u b (λ n. h n ∙ ap (λ l. b ++ l) (lead_stop s c R e) ∙ append-nil b)) (runs-right c [] [] R z k (λ n. absurd (n refl)))))
    (bool_cases (word_byte s.char))
  where
    joins : (b : List ℕ) → ((b ≡ [] → ⊥) → word_from 0 u ≡ b ++ lead_then (s ∷ c) R) → word_byte s.char ≡ true →
        word_from 0 (begins u b s) ≡ b ++ (lower s.char ∷ []) ++ lead_then c R
    joins [] h e = q ∙ lead_on s c R e
    joins (x ∷ b) h e = h (cons-nil x b) ∙ ap (λ l. (x ∷ b) ++ l) (lead_on s c R e) ∙ sym (append_assoc (x ∷ b) (lower s.char ∷ []) (lead_then c R))

placed-right : (c : List Spot) (R : List ℕ) → word_from 0 R ≡ [] → Chain c R → Every Right (placed_of c)
unfolding placed_of
placed-right c R z k = runs-right c [] [] R z k (λ n. absurd (n refl))

data_right : (c : List Spot) (R : List ℕ) → word_from 0 R ≡ [] → Chain c R → Every (Every Right) (data_placed c)
unfolding data_placed
data_right c R z k = go (every_of white (chars c))
  where
    go : (b : Bool) → Every (Every Right) (cond b [] (placed_of c ∷ []))
    go true = none
    go false = more (placed-right c R z k) none

-- ---- the bytes of names and data
clear_of : (f : ℕ → Bool) → f '<' ≡ false → (r : List ℕ) → every_of f r ≡ true → every_of clear r ≡ true
unfolding every_of
clear_of f z [] h = refl
clear_of f z (x ∷ r) h =
    and_both (clear x) (every_of clear r) (ap not (apart f x '<' z (and_left (f x) (every_of f r) h))) (clear_of f z r (and_right (f x) (every_of f r) h))

clear_data : (r : CharData) → every_of clear r.bytes ≡ true
unfolding is_char_data data_char char
clear_data r = clear_of data_char refl r.bytes (and_left (every_of data_char r.bytes) _ r.keeps)

pub name-chars : (n : List ℕ) → is_name n ≡ true → every_of name_char n ≡ true
unfolding is_name every_of
name-chars [] h = refl
name-chars (x ∷ n) h =
    and_both (name_char x) (every_of name_char n) (starts x (and_left (name_start x) (every_of name_char n) h)) (and_right (name_start x) (every_of name_char n) h)
  where
    starts : (x : ℕ) → name_start x ≡ true → name_char x ≡ true
    starts x e = unfold name_char in rw e

clear-name : (n : Name) → every_of clear n.bytes ≡ true
clear-name n = clear_of name_char (unfold name_char name_start in refl) n.bytes (name-chars n.bytes n.keeps)

-- White space is neither a letter nor a digit.
pub white-word : (x : ℕ) → white x ≡ true → word_byte x ≡ false
unfolding white word_byte
white-word x h =
    ⊎_elim
    (λ q. ⊎_elim (λ r. ⊎_elim (λ e. ap word_byte (eqb-true x 32 e)) (λ e. ap word_byte (eqb-true x 9 e)) (or_cases (eqb x 32) (eqb x 9) r)) (λ e. ap word_byte (eqb-true x 13 e))
    (or_cases (eqb x 32 || eqb x 9) (eqb x 13) q))
    (λ e. ap word_byte (eqb-true x 10 e))
    (or_cases (eqb x 32 || eqb x 9 || eqb x 13) (eqb x 10) h)

-- A name ends where its tag goes on.
tag-ends : (s : List ℕ) (y : ℕ) (t : List ℕ) → every_of white s ≡ true → word_byte y ≡ false → eqb y '<' ≡ false → word_from 0 (s ++ (y ∷ t)) ≡ []
unfolding every_of
tag-ends [] y t h e n = word-stop y t e n
tag-ends (x ∷ s) y t h e n =
    word-stop x (s ++ (y ∷ t)) (white-word x (and_left (white x) (every_of white s) h)) (white-angle x (and_left (white x) (every_of white s) h))

name-ends : (n : List ℕ) → is_name n ≡ true → (t : List ℕ) → word_from 0 ('<' ∷ (n ++ t)) ≡ []
unfolding is_name
name-ends [] h t = absurd (false≢true h)
name-ends (x ∷ n) h t = word-tag x (n ++ t) (apart name_start x '!' (unfold name_start in refl) (and_left (name_start x) (every_of name_char n) h))

element-ends : (e : Element) (t : List ℕ) → word_from 0 (element_then e t) ≡ []
unfolding element_then
element-ends (empty_tag n s) t = name-ends n.bytes n.keeps (s.bytes ++ ('/' ∷ '>' ∷ t))
element-ends (tags n s r i s') t = name-ends n.bytes n.keeps (s.bytes ++ ('>' ∷ (r.bytes ++ items_then i ('<' ∷ end_tag_then n.bytes s' t))))

end-ends : (n : List ℕ) (s : Spaces) (t : List ℕ) → word_from 0 ('<' ∷ end_tag_then n s t) ≡ []
unfolding end_tag_then
end-ends n s t = word-tag '/' (n ++ (s.bytes ++ ('>' ∷ t))) refl

spaces : (s : Spaces) → every_of white s.bytes ≡ true
spaces s = unfold is_spaces in s.keeps

slash-word : word_byte '/' ≡ false
unfolding word_byte
slash-word = refl

greater-word : word_byte '>' ≡ false
unfolding word_byte
greater-word = refl

begin-with : (e : Entity) (u : List ℕ) → word_from 0 (reference_then e u) ≡ []
unfolding reference_then word_byte
begin-with e u = word-stop '&' (entity_name e ++ (semicolon ∷ u)) refl refl

-- ---- elements and content
name-right : (n : Name) (R : List ℕ) → word_from 0 R ≡ [] → Every Right (placed_of (spots n.bytes R))
name-right n R z = placed-right (spots n.bytes R) R z (chain_run n.bytes [] R (clear-name n) nil)

reference_lead : (e : Entity) (u : List ℕ) → word_from 0 (reference_then e u) ≡ lead_then (spot (entity_char e) (reference_then e u) ∷ []) u
reference_lead e u = (begin-with e u) ∙ sym (lead_stop (spot (entity_char e) (reference_then e u)) [] u (entity_parts e))

mutual
  unfolding element_placed items_placed items_then

  element-right : (e : Element) (t : List ℕ) → Every (Every Right) (element_placed e t)
  element-right (empty_tag n s) t =
      more (name-right n (s.bytes ++ ('/' ∷ '>' ∷ t)) (tag-ends s.bytes '/' ('>' ∷ t) (spaces s) slash-word refl)) none
  element-right (tags n s r i s') t =
      let u = '<' ∷ end_tag_then n.bytes s' t in
      more (name-right n (s.bytes ++ ('>' ∷ (r.bytes ++ items_then i u))) (tag-ends s.bytes '>' (r.bytes ++ items_then i u) (spaces s) greater-word refl))
      (items-right i (spots r.bytes (items_then i u)) u (chain_run r.bytes [] (items_then i u) (clear_data r) nil) (end-ends n.bytes s' t))

  items-right : (i : Items) (c : List Spot) (t : List ℕ) → Chain c (items_then i t) → word_from 0 t ≡ [] → Every (Every Right) (items_placed i c t)
  items-right end c t k z = data_right c t z k
  items-right (element e r i) c t k z =
      every_append (data_right c (element_then e (r.bytes ++ items_then i t)) (element-ends e (r.bytes ++ items_then i t)) k)
      (every_append (element-right e (r.bytes ++ items_then i t))
      (items-right i (spots r.bytes (items_then i t)) t (chain_run r.bytes [] (items_then i t) (clear_data r) nil) z))
  items-right (reference e r i) c t k z =
      let u = r.bytes ++ items_then i t in
      let a = spot (entity_char e) (reference_then e u) in
      items-right i (c ++ (a ∷ spots r.bytes (items_then i t))) t
      (subst (λ l. Chain l (items_then i t)) (append_assoc c (a ∷ []) (spots r.bytes (items_then i t)))
      (chain_run r.bytes (c ++ (a ∷ [])) (items_then i t) (clear_data r) (chain_snoc a u (reference_lead e u) c k))) z
  items-right (comment b r i) c t k z =
      let u = r.bytes ++ items_then i t in
      items-right i (c ++ spots r.bytes (items_then i t)) t
      (chain_run r.bytes c (items_then i t) (clear_data r) (chain_ext (comment_then b u) u (comment-passed b u) k)) z

pub document-right : (d : Document) → Every (Every Right) (document_placed d)
unfolding document_placed
document-right d = element-right d.root (miscs_then d.epilog [])
