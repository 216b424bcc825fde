-- The next word, and what the pass knows behind it.
--   Step T i g b v   == what a call that looks for the next word of the text T tells the pass: from the place i on, in a tag or not, with the data making a node or not, v being the node.
--                       Where it finds none there is no mention left; else the next mention is where it says, and the pass goes on behind the last letter or digit of that word
--   seek-step        it does tell this
-- Assumes nothing.
use Prim.Native.Nat.{ℕ, zero, suc, ◌+◌, ◌-◌, ◌<◌}
use mathlib.Core.Path.{◌≡◌, refl, sym, ap, ◌∙◌}
use mathlib.Core.List.{List, [], ◌∷◌}
use mathlib.Core.Bool.{Bool, true, false, not, cond, ◌||◌, false≢true}
use native.Mathlib.Omega.{arith}
use lib.Dec.{eqb}
use lib.ListN.{length, get_or, drop, length-drop}
use lib.Seq.{drop-drop, get_or-drop}
use Rattle.seq.proofs.Laws.Bools.{and_left}
use Rattle.profile.specs.Bytes.{'<', '>', white}
use Rattle.profile.specs.Tree.{place_in}
use Rattle.profile.specs.Pieces.{COMMENT, CLOSE}
use Rattle.skim.specs.Skim.{skim_of}
use Rattle.words.specs.Runs.{word_byte}
use Rattle.words.specs.Places.{Mention, mention}
use Rattle.words.specs.Reading.{end_at}
use Rattle.words.specs.Scan.{Ahead, ahead, behind, past_markup, past_other, skips_other, past, skips, starts, scan, Seen, seen, unseen, seek, seek_in}
use Rattle.words.proofs.Laws.Going.{scan-to-end}

-- What is known, with the nodes counted from v.
abbrev raised : ℕ → Ahead → Ahead
raised v a = ahead a.tag a.going a.solid (v + a.node)

-- A byte does to both what it does to one.
behind-raised : (b : Bool) (v w : ℕ) → behind b (v + w) ≡ v + behind b w
behind-raised true v w = omega arith
behind-raised false v w = refl

markup-raised : (v : ℕ) (a : Ahead) (k : ℕ) → past_markup (raised v a) k ≡ raised v (past_markup a k)
unfolding past_markup
markup-raised v a k = by (eqb k COMMENT) (eqb k CLOSE)
  where
    by : (p q : Bool) →
        cond p (raised v a) (cond q (ahead false false false (behind a.solid (v + a.node))) (ahead true false false (behind a.solid (v + a.node)))) ≡
        raised v (cond p a (cond q (ahead false false false (behind a.solid a.node)) (ahead true false false (behind a.solid a.node))))
    by true q = refl
    by false true = ap (ahead false false false) (behind-raised a.solid v a.node)
    by false false = ap (ahead true false false) (behind-raised a.solid v a.node)

other-raised : (v : ℕ) (a : Ahead) (x : ℕ) → past_other (raised v a) x ≡ raised v (past_other a x)
unfolding past_other
other-raised v a x = by a.tag (eqb x '>')
  where
    up : suc (v + a.node) ≡ v + suc a.node
    up = omega arith

    by : (p q : Bool) →
        cond p (cond q (ahead false false false (suc (v + a.node))) (ahead true false a.solid (v + a.node))) (ahead false false (a.solid || not (white x)) (v + a.node)) ≡
        raised v (cond p (cond q (ahead false false false (suc a.node)) (ahead true false a.solid a.node)) (ahead false false (a.solid || not (white x)) a.node))
    by true true = ap (ahead false false false) up
    by true false = refl
    by false q = refl

past-raised : (v : ℕ) (a : Ahead) (x : ℕ) (t : List ℕ) → past (raised v a) x t ≡ raised v (past a x t)
unfolding past
past-raised v a x t = by (word_byte x) (eqb x '<')
  where
    by : (p q : Bool) →
        cond p (ahead a.tag true (a.solid || not a.tag) (v + a.node)) (cond q (past_markup (raised v a) (skim_of (x ∷ t)).kind) (past_other (raised v a) x)) ≡
        raised v (cond p (ahead a.tag true (a.solid || not a.tag) a.node) (cond q (past_markup a (skim_of (x ∷ t)).kind) (past_other a x)))
    by true q = refl
    by false true = markup-raised v a (skim_of (x ∷ t)).kind
    by false false = other-raised v a x

skips-raised : (v : ℕ) (a : Ahead) (x : ℕ) (t : List ℕ) → skips (raised v a) x t ≡ skips a x t
unfolding skips skips_other
skips-raised v a x t = refl

or_twice : (b g : Bool) → ((b || not g) || not g) ≡ (b || not g)
or_twice true g = refl
or_twice false true = refl
or_twice false false = refl

module _ (T : List ℕ) where
  abbrev place : List ℕ → ℕ
  place = place_in T

  -- The mention that is found, and the rest.
  pub record Tells (v : ℕ) (s : Seen) (l : List Mention) : Type 0 where
    pub none : s.found ≡ false → l ≡ []
    pub within : s.found ≡ true → s.place < length T
    pub letter : s.found ≡ true → word_byte (get_or T s.place 0) ≡ true
    pub kept : s.found ≡ true → (s.solid || not s.tag) ≡ s.solid
    pub more : s.found ≡ true → l ≡ mention (v + s.node) s.place ∷ scan place 0 (ahead s.tag true s.solid (v + s.node)) (drop (suc s.place) T)

  -- What follows the first byte at a place.
  next_row : (i x : ℕ) (t : List ℕ) → x ∷ t ≡ drop i T → t ≡ drop (suc i) T
  next_row i x t h = let one : i + 1 ≡ suc i = omega arith in ap (drop 1) h ∙ drop-drop 1 i T ∙ ap (λ (z : ℕ). drop z T) one

  -- Where a row stands.
  row_at : (i x : ℕ) (t : List ℕ) → x ∷ t ≡ drop i T → (place_in T (x ∷ t) ≡ i) × (i < length T)
  row_at i x t h = let long : suc (length t) ≡ length T - i = ap length h ∙ length-drop i T in (omega arith, omega arith)

  row-byte : (i x : ℕ) (t : List ℕ) → x ∷ t ≡ drop i T → get_or T i 0 ≡ x
  row-byte i x t h = let plus : i + 0 ≡ i = omega arith in ap (λ (z : ℕ). get_or T z 0) (sym plus) ∙ sym (get_or-drop i T 0 0) ∙ ap (λ l. get_or l 0 0) (sym h)

  found_here : (i x : ℕ) (t : List ℕ) (a : Ahead) (v : ℕ) → x ∷ t ≡ drop i T → starts a x ≡ true →
      Tells v (seen (place (x ∷ t)) a) (mention (v + a.node) (place (x ∷ t)) ∷ scan place (skips (raised v a) x t) (past (raised v a) x t) t)
  found_here i x t a v h e = record {
    none = λ n. absurd (false≢true (sym n));
    within = λ _. omega (arith, (row_at i x t h).0, (row_at i x t h).1);
    letter = λ _. ap (λ (z : ℕ). word_byte (get_or T z 0)) (row_at i x t h).0 ∙ ap word_byte (row-byte i x t h) ∙ is-letter;
    kept = λ _. or_twice a.solid a.tag;
    more = λ _. ap (λ l. mention (v + a.node) (place (x ∷ t)) ∷ l) (letter-past ∙ ap (scan place 0 (ahead a.tag true (a.solid || not a.tag) (v + a.node))) rest);
  }
    where
      is-letter : word_byte x ≡ true
      is-letter = unfold starts in and_left (word_byte x) (not a.going) e

      letter-past : scan (place_in T) (skips (raised v a) x t) (past (raised v a) x t) t ≡ scan (place_in T) 0 (ahead a.tag true (a.solid || not a.tag) (v + a.node)) t
      letter-past = unfold skips past in rw is-letter

      rest : t ≡ drop (suc (place_in T (x ∷ t))) T
      rest = next_row i x t h ∙ ap (λ (z : ℕ). drop (suc z) T) (sym (row_at i x t h).0)

  nothing-found : (v : ℕ) → Tells v unseen []
  nothing-found v =
      record {
        none = λ _. refl;
        within = λ e. absurd (false≢true e);
        letter = λ e. absurd (false≢true e);
        kept = λ e. absurd (false≢true e);
        more = λ e. absurd (false≢true e);
      }

  -- One byte: r is what is told of the rest.
  at_byte : (i x : ℕ) (t : List ℕ) (a : Ahead) (v : ℕ) → x ∷ t ≡ drop i T →
      Tells v (seek place (skips a x t) (past a x t) t) (scan place (skips a x t) (raised v (past a x t)) t) → Tells v (seek place 0 a (x ∷ t)) (scan place 0 (raised v a) (x ∷ t))
  unfolding seek scan starts
  at_byte i x t a v h r = by (starts a x) refl
    where
      on : Tells v (seek (place_in T) (skips a x t) (past a x t) t) (scan (place_in T) (skips (raised v a) x t) (past (raised v a) x t) t)
      on = rw (skips-raised v a x t, past-raised v a x t) r

      by : (z : Bool) → starts a x ≡ z →
          Tells v (cond z (seen (place_in T (x ∷ t)) a) (seek (place_in T) (skips a x t) (past a x t) t))
          (cond z (mention (v + a.node) (place_in T (x ∷ t)) ∷ scan (place_in T) (skips (raised v a) x t) (past (raised v a) x t) t)
          (scan (place_in T) (skips (raised v a) x t) (past (raised v a) x t) t))
      by true e = found_here i x t a v h e
      by false e = on

  seek-tells : (t : List ℕ) (i k : ℕ) (a : Ahead) (v : ℕ) → t ≡ drop i T → Tells v (seek place k a t) (scan place k (raised v a) t)
  unfolding seek scan
  seek-tells [] i k a v h = nothing-found v
  seek-tells (x ∷ t) i (suc k) a v h = seek-tells t (suc i) k a v (next_row i x t h)
  seek-tells (x ∷ t) i zero a v h = at_byte i x t a v h (seek-tells t (suc i) (skips a x t) (past a x t) v (next_row i x t h))

-- ---- the pass
pub record Step (T : List ℕ) (i : ℕ) (g b : Bool) (v : ℕ) (s : Seen) : Type 0 where
  pub none : s.found ≡ false → scan (place_in T) 0 (ahead g false b v) (drop i T) ≡ []
  pub within : s.found ≡ true → s.place < length T
  pub letter : s.found ≡ true → word_byte (get_or T s.place 0) ≡ true
  pub more : s.found ≡ true →
      scan (place_in T) 0 (ahead g false b v) (drop i T) ≡
      mention (v + s.node) s.place ∷ scan (place_in T) 0 (ahead s.tag false s.solid (v + s.node)) (drop (end_at T s.place) T)

pub seek-step : (T : List ℕ) (i : ℕ) (g b : Bool) (v : ℕ) → Step T i g b v (seek_in T i (ahead g false b 0))
unfolding seek_in
seek-step T i g b v =
    let r : Tells T v (seek (place_in T) 0 (ahead g false b 0) (drop i T)) (scan (place_in T) 0 (ahead g false b (v + 0)) (drop i T)) = seek-tells T (drop i T) i 0 (ahead g false b 0) v refl in
    let plus : v ≡ v + 0 = omega arith in
    let whole : scan (place_in T) 0 (ahead g false b v) (drop i T) ≡ scan (place_in T) 0 (ahead g false b (v + 0)) (drop i T) =
    ap (λ (z : ℕ). scan (place_in T) 0 (ahead g false b z) (drop i T)) plus in
    let s = seek (place_in T) 0 (ahead g false b 0) (drop i T) in
    record {
      none = λ e. whole ∙ r.none e;
      within = r.within;
      letter = r.letter;
      more = λ e. whole ∙ r.more e ∙
          ap (λ l. mention (v + s.node) s.place ∷ l) (scan-to-end (place_in T) s.tag s.solid (v + s.node) T (r.kept e) s.place (r.within e) (r.letter e));
    }
