-- Reading a word at the places of a text, one step at a time, and the loops of this crate.
--   word-past, word-here, word-stops, word_jumps            the word at a place: past the end, at a letter or digit, at another byte, at a comment
--   end-past, end-here, end-stops, end_jumps                the same of the place where it ends
--   Seeking T a i        == the word at a goes on at i
--   Hashing T a h i      == the hash of the word at a goes on from h at the place i, and so does the word
--   Pair T a b i j       == the words at a and b are the same exactly if those at i and j are
--   Spelling T a w i j   == the word at a is w, in lower case, exactly if that at i is w from its byte j on
--   Hashes w h j         == the hash of w, in lower case, goes on from h at its byte j
-- Letters: T text, a b i j places, w a word that is lent, h a hash. Assumes nothing.
use Prim.Native.Nat.{ℕ, suc, pred, ◌+◌, ◌≤◌, ◌<◌}
use mathlib.Core.Path.{◌≡◌, refl, sym, ap, ap₂, ◌∙◌}
use mathlib.Core.Logic.{⊎_elim}
use mathlib.Core.List.{List, [], ◌∷◌, map}
use mathlib.Core.Bool.{Bool, true, false, not}
use native.Mathlib.Omega.{arith}
use lib.ListN.{length, get_or, drop, drop_of_length-le}
use lib.Seq.{drop-cons, drop-drop}
use borrow.Author.Tests.{eq-eqb, ne_eqb, not-false, not-true}
use Rattle.std.specs.Option.{is_some}
use Rattle.std.specs.Prelude.{Option, None, Some}
use Rattle.seq.specs.Lists.{same_list}
use Rattle.fnv.specs.Fnv.{START, hash_step, hash_from, hash_of}
use Rattle.words.specs.Runs.{Word, word_byte, lower, folded}
use Rattle.words.specs.Reading.{gap, word_from, end_from, word_at, end_at}
use Rattle.words.proofs.Laws.Reading.{word-skip, end-skip, word_on, word_over, word_gap, end_on_lem, end-over, end-gap, gap_or}
use Rattle.inplace.specs.declared.Hashed.{Hashed}
use Rattle.inplace.specs.Hashed.{hashed_at}
use Rattle.inplace.specs.Inner.{NextLetter, NoLetter, LetterFrom}
use Rattle.inplace.specs.declared.Letter.{Letter}
use Rattle.inplace.proofs.Letters.{folded-letter, folded-some, folded-none}

-- ---- the word at a place, and where it ends
abbrev end_on : List ℕ → ℕ → ℕ → ℕ
end_on T e i = end_from 0 e i (drop i T)

module _ (T : List ℕ) (i : ℕ) where
  pub word-past : length T ≤ i → word_at T i ≡ []
  unfolding word_at word_from
  word-past l = ap (word_from 0) (drop_of_length-le T l)

  pub end-past : (e : ℕ) → length T ≤ i → end_on T e i ≡ e
  unfolding end_from
  end-past e l = ap (end_from 0 e i) (drop_of_length-le T l)

  module _ (l : i < length T) where
    here : drop i T ≡ get_or T i 0 ∷ drop (suc i) T
    here = drop-cons T i 0 l

    pub word-here : word_byte (get_or T i 0) ≡ true → word_at T i ≡ folded (get_or T i 0) ∷ word_at T (suc i)
    unfolding word_at
    word-here e = ap (word_from 0) here ∙ word_on (get_or T i 0) (drop (suc i) T) e ∙ ap (λ z. z ∷ word_from 0 (drop (suc i) T)) (sym (folded-letter (get_or T i 0) e))

    pub end-here : (e : ℕ) → word_byte (get_or T i 0) ≡ true → end_on T e i ≡ end_on T (suc i) (suc i)
    end-here e q = ap (end_from 0 e i) here ∙ end_on_lem e i (get_or T i 0) (drop (suc i) T) q

    module _ (n : word_byte (get_or T i 0) ≡ false) where
      -- No comment stands here.
      module _ (g : gap (drop i T) ≡ 0) where
        pub word-stops : word_at T i ≡ []
        unfolding word_at
        word-stops = ap (word_from 0) here ∙ word_over (get_or T i 0) (drop (suc i) T) n (ap gap (sym here) ∙ g)

        pub end-stops : (e : ℕ) → end_on T e i ≡ e
        end-stops e = ap (end_from 0 e i) here ∙ end-over e i (get_or T i 0) (drop (suc i) T) n (ap gap (sym here) ∙ g)

      -- One of g + 1 bytes does.
      module _ (g : ℕ) (q : gap (drop i T) ≡ suc g) where
        beyond : drop g (drop (suc i) T) ≡ drop (i + suc g) T
        beyond = let far : suc i + g ≡ i + suc g = omega arith in drop-drop g (suc i) T ∙ ap (λ (z : ℕ). drop z T) far

        pub word_jumps : word_at T i ≡ word_at T (i + suc g)
        unfolding word_at
        word_jumps =
            ap (word_from 0) here ∙ word_gap (get_or T i 0) (drop (suc i) T) g n (ap gap (sym here) ∙ q) ∙ word-skip g (drop (suc i) T) ∙ ap (word_from 0) beyond

        pub end_jumps : (e : ℕ) → end_on T e i ≡ end_on T e (i + suc g)
        end_jumps e =
            ap (end_from 0 e i) here ∙ end-gap e i (get_or T i 0) (drop (suc i) T) g n (ap gap (sym here) ∙ q) ∙ end-skip g e (suc i) (drop (suc i) T) ∙
            ap₂ (end_from 0 e) far beyond
          where
            far : suc i + g ≡ i + suc g
            far = omega arith

-- ---- letter_from
pub record Seeking (T : List ℕ) (a i : ℕ) : Type 0 where
  pub ahead : a ≤ i
  pub word : word_at T a ≡ word_at T i
  pub end : end_at T a ≡ end_on T a i

pub seeking_start : (T : List ℕ) (a : ℕ) → Seeking T a a
unfolding end_at
seeking_start T a = record { ahead = omega arith; word = refl; end = refl }

module _ (T : List ℕ) (a i : ℕ) (s : Seeking T a i) where
  pub seeking_found : i < length T → (x : ℕ) → x ≡ folded (get_or T i 0) → (x ≡ 0 → ⊥) → NextLetter T a (record { byte = x; end = i + 1 })
  unfolding end_at
  seeking_found l x p n =
      record {
        ahead = omega (arith, s.ahead);
        within = omega arith;
        word = s.word ∙ word-here T i l letter ∙ ap₂ (λ (y z : ℕ). y ∷ word_at T z) (sym p) next;
        end = s.end ∙ end-here T i l a letter ∙ ap (λ (z : ℕ). end_on T z z) next;
      }
    where
      letter : word_byte (get_or T i 0) ≡ true
      letter = folded-some (get_or T i 0) (λ z. n (p ∙ z))

      next : suc i ≡ i + 1
      next = omega arith

  -- A byte that is no letter or digit, where no comment stands.
  pub seeking_stop : i < length T → folded (get_or T i 0) ≡ 0 → gap (drop i T) ≡ 0 → NoLetter T a
  seeking_stop l z g =
      let other = folded-none (get_or T i 0) z in
      record { word = s.word ∙ word-stops T i l other g; end = s.end ∙ end-stops T i l other g a }

  pub seeking_end : length T ≤ i → NoLetter T a
  seeking_end l = record { word = s.word ∙ word-past T i l; end = s.end ∙ end-past T i a l }

  -- A comment.
  pub seeking_jump : i < length T → folded (get_or T i 0) ≡ 0 → (j : ℕ) → i < j → j ≡ i + gap (drop i T) → Seeking T a j
  seeking_jump l z j m p =
      record {
        ahead = omega (arith, s.ahead);
        word = s.word ∙ word_jumps T i l other g some ∙ ap (word_at T) to;
        end = s.end ∙ end_jumps T i l other g some a ∙ ap (end_on T a) to;
      }
    where
      other : word_byte (get_or T i 0) ≡ false
      other = folded-none (get_or T i 0) z

      g : ℕ
      g = pred (gap (drop i T))

      some : gap (drop i T) ≡ suc g
      some = ⊎_elim (λ q. absurd (omega arith)) (λ q. q) (gap_or (drop i T))

      to : i + suc g ≡ j
      to = omega (arith, some)

-- ---- hash_word
abbrev hashed : ℕ → ℕ → Hashed
hashed h i = record { hash = h; end = i }

pub record Hashing (T : List ℕ) (a h i : ℕ) : Type 0 where
  pub hash : hash_from h (word_at T i) ≡ hash_of (word_at T a)
  pub end : end_at T i ≡ end_at T a

pub hashing_start : (T : List ℕ) (a : ℕ) → Hashing T a START a
unfolding hash_of
hashing_start T a = record { hash = refl; end = refl }

module _ (T : List ℕ) (a h i : ℕ) (s : Hashing T a h i) where
  pub hashing_step : (l : Letter) → NextLetter T i l → (k : ℕ) → k ≡ hash_step h l.byte → Hashing T a k l.end
  hashing_step l n k q =
      record {
        hash = ap (λ (y : ℕ). hash_from y (word_at T l.end)) q ∙ sym (one_more l.byte (word_at T l.end)) ∙ ap (hash_from h) (sym n.word) ∙ s.hash;
        end = sym n.end ∙ s.end;
      }
    where
      one_more : (x : ℕ) (w : Word) → hash_from h (x ∷ w) ≡ hash_from (hash_step h x) w
      one_more x w = unfold hash_from in refl

  pub hashing_end : NoLetter T i → hashed h i ≡ hashed_at T a
  unfolding hashed_at
  hashing_end n = ap₂ hashed (sym (ap (hash_from h) n.word ∙ no_more) ∙ s.hash) (sym n.end ∙ s.end)
    where
      no_more : hash_from h [] ≡ h
      no_more = unfold hash_from in refl

-- ---- two words, by their first letters
same_ends : same_list [] [] ≡ true
unfolding same_list
same_ends = refl

same-short : (y : ℕ) (v : Word) → same_list [] (y ∷ v) ≡ false
unfolding same_list
same-short y v = refl

same-long : (x : ℕ) (w : Word) → same_list (x ∷ w) [] ≡ false
unfolding same_list
same-long x w = refl

same_first : (x y : ℕ) (w v : Word) → x ≡ y → same_list (x ∷ w) (y ∷ v) ≡ same_list w v
unfolding same_list
same_first x y w v e = rw (eq-eqb x y e)

same-differ : (x y : ℕ) (w v : Word) → (x ≡ y → ⊥) → same_list (x ∷ w) (y ∷ v) ≡ false
unfolding same_list
same-differ x y w v n = rw (ne_eqb x y n)

-- ---- same_word
pub record Pair (T : List ℕ) (a b i j : ℕ) : Type 0 where
  pub same : same_list (word_at T a) (word_at T b) ≡ same_list (word_at T i) (word_at T j)

pub pair-start : (T : List ℕ) (a b : ℕ) → Pair T a b a b
pair-start T a b = record { same = refl }

module _ (T : List ℕ) (a b i j : ℕ) (s : Pair T a b i j) where
  pub pair-end : NoLetter T i → (o : Option Letter) → LetterFrom T j o → (r : Bool) → is_some o ≡ not r → r ≡ same_list (word_at T a) (word_at T b)
  pair-end f None g r e = not-false r (sym e) ∙ sym (s.same ∙ ap₂ same_list f.word g.word ∙ same_ends)
  pair-end f (Some q) g r e = not-true r (sym e) ∙ sym (s.same ∙ ap₂ same_list f.word g.word ∙ same-short _ _)

  module _ (p : Letter) (f : NextLetter T i p) where
    pub pair-longer : NoLetter T j → false ≡ same_list (word_at T a) (word_at T b)
    pair-longer g = sym (s.same ∙ ap₂ same_list f.word g.word ∙ same-long _ _)

    module _ (q : Letter) (g : NextLetter T j q) where
      pub pair-differ : (p.byte ≡ q.byte → ⊥) → false ≡ same_list (word_at T a) (word_at T b)
      pair-differ n = sym (s.same ∙ ap₂ same_list f.word g.word ∙ same-differ _ _ _ _ n)

      pub pair_step : p.byte ≡ q.byte → Pair T a b p.end q.end
      pair_step e = record { same = s.same ∙ ap₂ same_list f.word g.word ∙ same_first _ _ _ _ e }

-- ---- words that are lent
drop-last : (w : Word) (j : ℕ) → length w ≤ j → map lower (drop j w) ≡ []
drop-last w j l = ap (map lower) (drop_of_length-le w l)

drop_more : (w : Word) (j : ℕ) → j < length w → map lower (drop j w) ≡ lower (get_or w j 0) ∷ map lower (drop (j + 1) w)
drop_more w j l = ap (map lower) (drop-cons w j 0 l) ∙ ap (λ (z : ℕ). lower (get_or w j 0) ∷ map lower (drop z w)) next
  where
    next : suc j ≡ j + 1
    next = omega arith

pub record Spelling (T : List ℕ) (a : ℕ) (w : Word) (i j : ℕ) : Type 0 where
  pub same : same_list (map lower w) (word_at T a) ≡ same_list (map lower (drop j w)) (word_at T i)

pub spelling_start : (T : List ℕ) (a : ℕ) (w : Word) → Spelling T a w a 0
spelling_start T a w = record { same = refl }

module _ (T : List ℕ) (a : ℕ) (w : Word) (i j : ℕ) (s : Spelling T a w i j) where
  module _ (l : j < length w) where
    pub spelling_short : NoLetter T i → false ≡ same_list (map lower w) (word_at T a)
    spelling_short f = sym (s.same ∙ ap₂ same_list (drop_more w j l) f.word ∙ same-long _ _)

    module _ (p : Letter) (f : NextLetter T i p) where
      pub spelling_differ : (p.byte ≡ lower (get_or w j 0) → ⊥) → false ≡ same_list (map lower w) (word_at T a)
      spelling_differ n = sym (s.same ∙ ap₂ same_list (drop_more w j l) f.word ∙ same-differ _ _ _ _ (λ e. n (sym e)))

      pub spelling_step : p.byte ≡ lower (get_or w j 0) → Spelling T a w p.end (j + 1)
      spelling_step e = record { same = s.same ∙ ap₂ same_list (drop_more w j l) f.word ∙ same_first _ _ _ _ (sym e) }

  pub spelling_end : length w ≤ j → (o : Option Letter) → LetterFrom T i o → (r : Bool) → is_some o ≡ not r → r ≡ same_list (map lower w) (word_at T a)
  spelling_end l None f r e = not-false r (sym e) ∙ sym (s.same ∙ ap₂ same_list (drop-last w j l) f.word ∙ same_ends)
  spelling_end l (Some p) f r e = not-true r (sym e) ∙ sym (s.same ∙ ap₂ same_list (drop-last w j l) f.word ∙ same-short _ _)

-- ---- hash_of
pub record Hashes (w : Word) (h j : ℕ) : Type 0 where
  pub hash : hash_from h (map lower (drop j w)) ≡ hash_of (map lower w)

pub hashes-start : (w : Word) → Hashes w START 0
unfolding hash_of
hashes-start w = record { hash = refl }

module _ (w : Word) (h j : ℕ) (s : Hashes w h j) where
  pub hashes-step : j < length w → (x k : ℕ) → x ≡ lower (get_or w j 0) → k ≡ hash_step h x → Hashes w k (j + 1)
  hashes-step l x k p q = record { hash = ap (λ (z : ℕ). hash_from z (map lower (drop (j + 1) w))) (q ∙ ap (hash_step h) p) ∙ sym one_more ∙ ap (hash_from h) (sym (drop_more w j l)) ∙ s.hash }
    where
      one_more : hash_from h (lower (get_or w j 0) ∷ map lower (drop (j + 1) w)) ≡ hash_from (hash_step h (lower (get_or w j 0))) (map lower (drop (j + 1) w))
      one_more = unfold hash_from in refl

  pub hashes-end : length w ≤ j → h ≡ hash_of (map lower w)
  hashes-end l = sym (ap (hash_from h) (drop-last w j l) ∙ no_more) ∙ s.hash
    where
      no_more : hash_from h [] ≡ h
      no_more = unfold hash_from in refl
