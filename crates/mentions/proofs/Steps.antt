-- The pass over a text, step by step, as the code makes it.
--   quiet-letter, quiet-less, quiet-stop, quiet-on   what `in_data` and `in_tag` ask of a byte
--   reached-tag, reached-solid, reached_data         the pass over quiet bytes
--   passed-comment, passed-close, passed_open        the pass over markup
--   passed-end, passed_reference                     over the `>` of a tag, and over a reference
--   next-none, next-some                             what it has come to
-- Letters: T text, i a place, x a byte, g in a tag, b the data makes a node, v the node. Assumes nothing.
use Prim.Native.Nat.{ℕ, zero, suc, zero-le, pred, ◌+◌, ◌-◌, ◌≤◌, ◌<◌}
use mathlib.Core.Path.{◌≡◌, refl, sym, ap, ap₂, subst, ◌∙◌}
use mathlib.Core.Logic.{◌⊎◌, ⊎_elim}
use mathlib.Core.List.{List, [], ◌∷◌}
use mathlib.Core.Bool.{Bool, true, false, not, cond, ◌||◌, or-true, false≢true}
use native.Mathlib.Omega.{arith}
use mir.Val.{bool_byte}
use lib.Dec.{eqb, ltb}
use lib.ListN.{length, get_or, drop, drop_of_length-le, length-drop}
use lib.Seq.{drop-cons, drop-drop, get_or-drop}
use borrow.Author.Tests.{eq-eqb, ne_eqb, eqb-true, lt-ltb, le-ltb}
use Rattle.std.specs.Prelude.{None, Some}
use Rattle.seq.proofs.Laws.Bools.{bool_cases}
use Rattle.seq.proofs.Laws.Numbers.{less_or}
use Rattle.profile.specs.Bytes.{'!', '&', '<', '>', semicolon, white, starts_with}
use Rattle.profile.specs.Spans.{span, other}
use Rattle.profile.proofs.Laws.Spans.{span_le, span-stops}
use Rattle.profile.specs.Tree.{place_in}
use Rattle.profile.specs.Pieces.{COMMENT, CLOSE}
use Rattle.markup.specs.declared.Piece.{Piece}
use Rattle.markup.specs.declared.Kind.TheVariants.{Comment, Close}
use Rattle.markup.specs.Pieces.{number}
use Rattle.markup.proofs.Numbers.{number_same}
use Rattle.skim.proofs.Laws.{skim_number}
use Rattle.skim.specs.Skim.{skim_comment, skim_tag, skim_of, skim_at}
use Rattle.words.specs.Runs.{word_byte, folded}
use Rattle.words.specs.Scan.{Ahead, ahead, behind, past_markup, skips_markup, past_other, skips_other, past, skips, starts, seek, seek_in}
use Rattle.words.specs.Scan as words
use Rattle.inplace.proofs.Letters.{folded-some}
use Rattle.mentions.specs.Inner.{quiet, third, known, leads, Reached, MarkupPre, PassPre, Passed}
use Rattle.mentions.specs.declared.Pass.{Pass}
use Rattle.mentions.specs.Next.{as_pass, next_of}

-- ---- quiet bytes
module _ (y x : ℕ) where
  stop-letter : word_byte x ≡ true → quiet y x ≡ false
  unfolding quiet
  stop-letter e = rw e

  stop-less : x ≡ '<' → quiet y x ≡ false
  unfolding quiet
  stop-less e = ap not (ap (λ z. z || eqb x y) (ap (λ z. word_byte x || z) (eq-eqb x '<' e) ∙ or-true (word_byte x)))

  stop-third : x ≡ y → quiet y x ≡ false
  unfolding quiet
  stop-third e = ap not (ap (λ z. (word_byte x || eqb x '<') || z) (eq-eqb x y e) ∙ or-true (word_byte x || eqb x '<'))

  pub stop-none : word_byte x ≡ false → (x ≡ '<' → ⊥) → (x ≡ y → ⊥) → quiet y x ≡ true
  unfolding quiet
  stop-none e p q = rw (e, ne_eqb x '<' p, ne_eqb x y q)

  -- As the code asks: z is what `fold` makes of the byte.
  pub stop-any : (z : ℕ) → z ≡ folded x → (z ≡ 0 → ⊥) ⊎ (((z ≡ 0) × (x ≡ '<')) ⊎ ((z ≡ 0) × (x ≡ '<' → ⊥) × (x ≡ y))) → quiet y x ≡ false
  stop-any z e h = ⊎_elim (λ n. stop-letter (folded-some x (λ q. n (e ∙ q)))) (λ k. ⊎_elim (λ p. stop-less p.1) (λ p. stop-third p.2) k) h

  -- And back.
  record Quiet : Type 0 where
    pub letter : word_byte x ≡ false
    pub less : eqb x '<' ≡ false
    pub third : eqb x y ≡ false

  quiet_parts : quiet y x ≡ true → Quiet
  unfolding quiet
  quiet_parts e = by (word_byte x) refl (eqb x '<') refl (eqb x y) refl e
    where
      by : (p : Bool) → word_byte x ≡ p → (q : Bool) → eqb x '<' ≡ q → (r : Bool) → eqb x y ≡ r → not (p || q || r) ≡ true → Quiet
      by true a q b r c h = absurd (false≢true h)
      by false a true b r c h = absurd (false≢true h)
      by false a false b true c h = absurd (false≢true h)
      by false a false b false c h = record { letter = a; less = b; third = c }

  pub third-is : quiet y x ≡ false → word_byte x ≡ false → (x ≡ '<' → ⊥) → x ≡ y
  unfolding quiet
  third-is e a n = ⊎_elim (λ q. eqb-true x y q) (λ q. absurd (false≢true (sym e ∙ stop-none a n (λ z. false≢true (sym q ∙ eq-eqb x y z))))) (bool_cases (eqb x y))

-- ---- the search for the next word
module _ (place : List ℕ → ℕ) where
  seek-skip : (k : ℕ) (a : Ahead) (t : List ℕ) → seek place k a t ≡ seek place 0 a (drop k t)
  unfolding seek
  seek-skip zero a t = refl
  seek-skip (suc k) a [] = refl
  seek-skip (suc k) a (x ∷ t) = seek-skip k a t

  -- A byte that is no letter or digit.
  seek-on : (a : Ahead) (x : ℕ) (t : List ℕ) → word_byte x ≡ false → seek place 0 a (x ∷ t) ≡ seek place (skips a x t) (past a x t) t
  unfolding seek starts
  seek-on a x t e = rw e

  -- A quiet byte, in data and in a tag.
  data_byte : (b : Bool) (v x : ℕ) (t : List ℕ) → quiet '&' x ≡ true → seek place 0 (ahead false false b v) (x ∷ t) ≡ seek place 0 (ahead false false (b || not (white x)) v) t
  unfolding skips past skips_other past_other
  data_byte b v x t q = let h = quiet_parts '&' x q in seek-on (ahead false false b v) x t h.letter ∙ rw (h.letter, h.less, h.third)

  tag-byte : (b : Bool) (v x : ℕ) (t : List ℕ) → quiet '>' x ≡ true → seek place 0 (ahead true false b v) (x ∷ t) ≡ seek place 0 (ahead true false b v) t
  unfolding skips past skips_other past_other
  tag-byte b v x t q = let h = quiet_parts '>' x q in seek-on (ahead true false b v) x t h.letter ∙ rw (h.letter, h.less, h.third)

  tag-span : (t : List ℕ) (b : Bool) (v : ℕ) → seek place 0 (ahead true false b v) t ≡ seek place 0 (ahead true false b v) (drop (span (quiet '>') t) t)
  unfolding span
  tag-span [] b v = refl
  tag-span (x ∷ t) b v =
      ⊎_elim
      (λ e. tag-byte b v x t e ∙ tag-span t b v ∙ ap (λ z. seek place 0 (ahead true false b v) (drop (cond z (suc (span (quiet '>') t)) 0) (x ∷ t))) (sym e))
      (λ e. ap (λ z. seek place 0 (ahead true false b v) (drop (cond z (suc (span (quiet '>') t)) 0) (x ∷ t))) (sym e))
      (bool_cases (quiet '>' x))

  -- Data makes a node where its white space ends before its quiet bytes do.
  abbrev solid_over : Bool → List ℕ → Bool
  solid_over b t = b || ltb (span white t) (span (quiet '&') t)

  less-suc : (k m : ℕ) → ltb (suc k) (suc m) ≡ ltb k m
  less-suc k m = ⊎_elim (λ l. lt-ltb (suc k) (suc m) (omega arith) ∙ sym (lt-ltb k m l)) (λ l. le-ltb (suc k) (suc m) (omega arith) ∙ sym (le-ltb k m l)) (less_or k m)

  -- One quiet byte more before it.
  solid-step : (b z : Bool) (k m : ℕ) → ((b || not z) || ltb k m) ≡ (b || ltb (cond z (suc k) 0) (suc m))
  solid-step true z k m = refl
  solid-step false true k m = sym (less-suc k m)
  solid-step false false k m = sym (lt-ltb 0 (suc m) (omega arith))

  none-less : (b : Bool) (k : ℕ) → b ≡ (b || ltb k 0)
  none-less true k = refl
  none-less false k = sym (le-ltb k 0 zero-le)

  data_span : (t : List ℕ) (b : Bool) (v : ℕ) → seek place 0 (ahead false false b v) t ≡ seek place 0 (ahead false false (solid_over b t) v) (drop (span (quiet '&') t) t)
  unfolding span
  data_span [] b v = unfold seek in refl
  data_span (x ∷ t) b v =
      ⊎_elim
      (λ e. data_byte b v x t e ∙ data_span t (b || not (white x)) v ∙
      ap (λ z. seek place 0 (ahead false false z v) (drop (span (quiet '&') t) t)) (solid-step b (white x) (span white t) (span (quiet '&') t)) ∙
      ap (λ z. seek place 0 (ahead false false (b || ltb (cond (white x) (suc (span white t)) 0) (cond z (suc (span (quiet '&') t)) 0)) v) (drop (cond z (suc (span (quiet '&') t)) 0) (x ∷ t))) (sym e))
      (λ e. ap (λ z. seek place 0 (ahead false false z v) (x ∷ t)) (none-less b (cond (white x) (suc (span white t)) 0)) ∙
      ap (λ z. seek place 0 (ahead false false (b || ltb (cond (white x) (suc (span white t)) 0) (cond z (suc (span (quiet '&') t)) 0)) v) (drop (cond z (suc (span (quiet '&') t)) 0) (x ∷ t))) (sym e))
      (bool_cases (quiet '&' x))

-- ---- reach
module _ (T : List ℕ) (i : ℕ) (v : ℕ) where
  -- Behind a span.
  behind-span : (f : ℕ → Bool) (j : ℕ) → j ≡ i + span f (drop i T) → drop (span f (drop i T)) (drop i T) ≡ drop j T
  behind-span f j e = drop-drop (span f (drop i T)) i T ∙ ap (λ (z : ℕ). drop z T) (sym e)

  -- The byte behind it, if there is one.
  stop-at : (f : ℕ → Bool) (j : ℕ) → j ≡ i + span f (drop i T) → j < length T → f (get_or T j 0) ≡ false
  stop-at f j e l =
      ap (λ (z : ℕ). f (get_or T z 0)) e ∙ ap f (sym (get_or-drop i T (span f (drop i T)) 0)) ∙ span-stops f (drop i T) (omega (arith, length-drop i T))

  pub reached-tag : (b : Bool) (j : ℕ) → j ≡ i + span (quiet '>') (drop i T) → Reached T (record { at = i; tag = true; solid = b; node = v }) (record { at = j; tag = true; solid = b; node = v })
  reached-tag b j e =
      record {
        same = tag-span (place_in T) (drop i T) b v ∙ ap (seek (place_in T) 0 (ahead true false b v)) (behind-span (quiet '>') j e);
        on = omega arith;
        node = refl;
        stops = stop-at (quiet '>') j e;
      }

  reached_data : (b c : Bool) (j : ℕ) → j ≡ i + span (quiet '&') (drop i T) → solid_over (place_in T) b (drop i T) ≡ c →
      Reached T (record { at = i; tag = false; solid = b; node = v }) (record { at = j; tag = false; solid = c; node = v })
  reached_data b c j e s =
      record {
        same = data_span (place_in T) (drop i T) b v ∙ ap₂ (λ z t. seek (place_in T) 0 (ahead false false z v) t) s (behind-span (quiet '&') j e);
        on = omega arith;
        node = refl;
        stops = stop-at (quiet '&') j e;
      }

-- The same of any pass.
module _ (T : List ℕ) (s : Pass) where
  pub reach-tag : s.tag ≡ true → (j : ℕ) → j ≡ s.at + span (quiet '>') (drop s.at T) → Reached T s (record { at = j; tag = s.tag; solid = s.solid; node = s.node })
  reach-tag e j q =
      subst (λ g. Reached T (record { at = s.at; tag = g; solid = s.solid; node = s.node }) (record { at = j; tag = g; solid = s.solid; node = s.node })) (sym e)
      (reached-tag T s.at s.node s.solid j q)

  module _ (e : s.tag ≡ false) (j : ℕ) (q : j ≡ s.at + span (quiet '&') (drop s.at T)) where
    reach_data : (c : Bool) → solid_over (place_in T) s.solid (drop s.at T) ≡ c → Reached T s (record { at = j; tag = s.tag; solid = c; node = s.node })
    reach_data c f =
        subst (λ g. Reached T (record { at = s.at; tag = g; solid = s.solid; node = s.node }) (record { at = j; tag = g; solid = c; node = s.node })) (sym e)
        (reached_data T s.at s.node s.solid c j q f)

    pub reach-solid : s.solid ≡ true → Reached T s (record { at = j; tag = s.tag; solid = s.solid; node = s.node })
    reach-solid f = reach_data s.solid (ap (λ b. solid_over (place_in T) b (drop s.at T)) f ∙ sym f)

    pub reach-blank : s.solid ≡ false → (k : ℕ) → k ≡ s.at + span white (drop s.at T) → Reached T s (record { at = j; tag = s.tag; solid = ltb k j; node = s.node })
    reach-blank f k r = reach_data (ltb k j) (ap (λ b. solid_over (place_in T) b (drop s.at T)) f ∙ both (span white (drop s.at T)) (span (quiet '&') (drop s.at T)) ∙ ap₂ ltb (sym r) (sym q))
      where
        both : (a b : ℕ) → ltb a b ≡ ltb (s.at + a) (s.at + b)
        both a b = ⊎_elim (λ l. lt-ltb a b l ∙ sym (lt-ltb (s.at + a) (s.at + b) (omega arith))) (λ l. le-ltb a b l ∙ sym (le-ltb (s.at + a) (s.at + b) (omega arith))) (less_or a b)

-- ---- over_markup
-- The number of the node after the data, as the code counts it.
pub counted : (b : Bool) (v z : ℕ) → z ≡ bool_byte b → v + z ≡ behind b v
counted true v z e = omega (arith, e)
counted false v z e = omega (arith, e)

-- Markup has a byte at least.
skim_some : (t : List ℕ) → (skim_of ('<' ∷ t)).size ≡ suc (pred (skim_of ('<' ∷ t)).size)
unfolding skim_of
skim_some t = by (starts_with ('!' ∷ []) t)
  where
    up : (k : ℕ) → 0 < k → k ≡ suc (pred k)
    up zero l = absurd (omega arith)
    up (suc k) l = refl

    by : (z : Bool) → (cond z (skim_comment ('<' ∷ t)) (skim_tag ('<' ∷ t))).size ≡ suc (pred (cond z (skim_comment ('<' ∷ t)) (skim_tag ('<' ∷ t))).size)
    by true = up (skim_comment ('<' ∷ t)).size (unfold skim_comment in omega arith)
    by false = up (skim_tag ('<' ∷ t)).size (unfold skim_tag in omega arith)

module _ (T : List ℕ) (s : Pass) (p : Piece) (pre : MarkupPre T s) (is : p ≡ skim_at T s.at) where
  abbrev i : ℕ
  i = s.at

  abbrev rest : List ℕ
  rest = drop (suc i) T

  row : drop i T ≡ '<' ∷ rest
  row = drop-cons T i 0 pre.within ∙ ap (λ z. z ∷ rest) pre.angle

  kind-is : number p.kind ≡ (skim_of ('<' ∷ rest)).kind
  unfolding skim_at
  kind-is = ap (λ p. number p.kind) is ∙ skim_number T i ∙ ap (λ t. (skim_of t).kind) row

  end_is : p.end ≡ i + (skim_of ('<' ∷ rest)).size
  unfolding skim_at
  end_is = ap (λ p. p.end) is ∙ ap (λ t. i + (skim_of t).size) row

  at-angle : leads T s ≡ seek (place_in T) (skips_markup (skim_of ('<' ∷ rest))) (past_markup (known s) (skim_of ('<' ∷ rest)).kind) rest
  unfolding skips past word_byte
  at-angle = ap (seek (place_in T) 0 (known s)) row ∙ seek-on (place_in T) (known s) '<' rest refl

  -- A piece that is passed over whole.
  over-whole : (eqb (number p.kind) COMMENT || eqb (number p.kind) CLOSE) ≡ true → leads T s ≡ seek (place_in T) 0 (past_markup (known s) (number p.kind)) (drop p.end T)
  unfolding skips_markup
  over-whole h =
      at-angle ∙
      ap₂ (λ (z : ℕ) a. seek (place_in T) z a rest) skipped (ap (past_markup (known s)) (sym kind-is)) ∙
      seek-skip (place_in T) (pred (skim_of ('<' ∷ rest)).size) (past_markup (known s) (number p.kind)) rest ∙
      ap (seek (place_in T) 0 (past_markup (known s) (number p.kind))) (drop-drop (pred (skim_of ('<' ∷ rest)).size) (suc i) T ∙ ap (λ (z : ℕ). drop z T) far)
    where
      skipped : cond (eqb (skim_of ('<' ∷ rest)).kind COMMENT || eqb (skim_of ('<' ∷ rest)).kind CLOSE) (pred (skim_of ('<' ∷ rest)).size) 0 ≡ pred (skim_of ('<' ∷ rest)).size
      skipped = ap (λ (k : ℕ). cond (eqb k COMMENT || eqb k CLOSE) (pred (skim_of ('<' ∷ rest)).size) 0) (sym kind-is) ∙ ap (λ z. cond z (pred (skim_of ('<' ∷ rest)).size) 0) h

      far : suc i + pred (skim_of ('<' ∷ rest)).size ≡ p.end
      far = omega (arith, end_is, skim_some rest)

  beyond : i < p.end
  beyond = omega (arith, end_is, skim_some rest)

  few-behind : (k : ℕ) → k ≡ behind s.solid s.node → k ≤ suc s.node
  few-behind k e = by s.solid e
    where
      by : (z : Bool) → k ≡ behind z s.node → k ≤ suc s.node
      by true q = omega arith
      by false q = omega arith

  comment : p.kind ≡ Comment → number p.kind ≡ COMMENT
  unfolding number
  comment e = ap number e

  close : p.kind ≡ Close → number p.kind ≡ CLOSE
  unfolding number
  close e = ap number e

  no-comment : (p.kind ≡ Comment → ⊥) → number p.kind ≡ COMMENT → ⊥
  unfolding number
  no-comment n e = n (number_same p.kind Comment e)

  no-close : (p.kind ≡ Close → ⊥) → number p.kind ≡ CLOSE → ⊥
  unfolding number
  no-close n e = n (number_same p.kind Close e)

  pub passed-comment : p.kind ≡ Comment → Passed T s (record { at = p.end; tag = s.tag; solid = s.solid; node = s.node })
  unfolding past_markup
  passed-comment e =
      record {
        same = over-whole (ap (λ (k : ℕ). eqb k COMMENT || eqb k CLOSE) (comment e)) ∙ ap (λ (k : ℕ). seek (place_in T) 0 (past_markup (known s) k) (drop p.end T)) (comment e);
        on = beyond;
        few = omega (arith, beyond, pre.few);
      }

  pub passed-close : p.kind ≡ Close → (k : ℕ) → k ≡ behind s.solid s.node → Passed T s (record { at = p.end; tag = false; solid = false; node = k })
  unfolding past_markup
  passed-close e k q =
      record {
        same = over-whole (ap (λ (k : ℕ). eqb k COMMENT || eqb k CLOSE) (close e)) ∙ ap (λ (k : ℕ). seek (place_in T) 0 (past_markup (known s) k) (drop p.end T)) (close e) ∙
            ap (λ (z : ℕ). seek (place_in T) 0 (ahead false false false z) (drop p.end T)) (sym q);
        on = beyond;
        few = omega (arith, beyond, pre.few, few-behind k q);
      }

  pub passed_open : (p.kind ≡ Comment → ⊥) → (p.kind ≡ Close → ⊥) → (k : ℕ) → k ≡ behind s.solid s.node → Passed T s (record { at = i + 1; tag = true; solid = false; node = k })
  unfolding past_markup skips_markup
  passed_open n m k q =
      record {
        same = at-angle ∙
            ap (λ (z : ℕ). seek (place_in T) (cond (eqb z COMMENT || eqb z CLOSE) (pred (skim_of ('<' ∷ rest)).size) 0) (past_markup (known s) z) rest) (sym kind-is) ∙
            rw (ne_eqb (number p.kind) COMMENT (no-comment n), ne_eqb (number p.kind) CLOSE (no-close m)) (ap₂ (λ (z : ℕ) (y : ℕ). seek (place_in T) 0 (ahead true false false z) (drop y T)) (sym q) next);
        on = omega arith;
        few = omega (arith, pre.few, few-behind k q);
      }
    where
      next : suc i ≡ i + 1
      next = omega arith

-- ---- over
module _ (T : List ℕ) (s : Pass) (pre : PassPre T s) (n : get_or T s.at 0 ≡ '<' → ⊥) where
  the_byte : get_or T s.at 0 ≡ third s.tag
  the_byte = third-is (third s.tag) (get_or T s.at 0) pre.stops pre.other n

  here : (y : ℕ) → third s.tag ≡ y → drop s.at T ≡ y ∷ drop (suc s.at) T
  here y e = drop-cons T s.at 0 pre.within ∙ ap (λ z. z ∷ drop (suc s.at) T) (the_byte ∙ e)

  pub passed-end : s.tag ≡ true → Passed T s (record { at = s.at + 1; tag = false; solid = false; node = s.node + 1 })
  unfolding skips past skips_other past_other word_byte
  passed-end e =
      record {
        same = ap₂ (λ g t. seek (place_in T) 0 (ahead g false s.solid s.node) t) e (here '>' (ap third e)) ∙
            seek-on (place_in T) (ahead true false s.solid s.node) '>' (drop (suc s.at) T) refl ∙
            ap₂ (λ (z : ℕ) (y : ℕ). seek (place_in T) 0 (ahead false false false z) (drop y T)) up next;
        on = omega arith;
        few = omega (arith, pre.few);
      }
    where
      up : suc s.node ≡ s.node + 1
      up = omega arith

      next : suc s.at ≡ s.at + 1
      next = omega arith

  pub reference_fits : (j : ℕ) → j ≡ s.at + 1 + span (other semicolon) (drop (s.at + 1) T) → j ≤ length T
  reference_fits j q = omega (arith, q, pre.within, span_le (other semicolon) (drop (s.at + 1) T), length-drop (s.at + 1) T)

  pub passed_reference : s.tag ≡ false → (j : ℕ) → j ≡ s.at + 1 + span (other semicolon) (drop (s.at + 1) T) →
      Passed T s (record { at = j + 1; tag = s.tag; solid = true; node = s.node })
  unfolding skips past skips_other past_other word_byte white
  passed_reference e j q =
      record {
        same = ap₂ (λ g t. seek (place_in T) 0 (ahead g false s.solid s.node) t) e (here '&' (ap third e)) ∙
            seek-on (place_in T) (ahead false false s.solid s.node) '&' (drop (suc s.at) T) refl ∙
            seek-skip (place_in T) (suc (span (other semicolon) (drop (suc s.at) T))) (ahead false false (s.solid || true) s.node) (drop (suc s.at) T) ∙
            ap₂ (λ z t. seek (place_in T) 0 (ahead false false z s.node) t) (or-true s.solid) (drop-drop (suc (span (other semicolon) (drop (suc s.at) T))) (suc s.at) T ∙ ap (λ (z : ℕ). drop z T) far) ∙
            ap (λ g. seek (place_in T) 0 (ahead g false true s.node) (drop (j + 1) T)) (sym e);
        on = omega arith;
        few = omega (arith, pre.few);
      }
    where
      one : s.at + 1 ≡ suc s.at
      one = omega arith

      far : suc s.at + suc (span (other semicolon) (drop (suc s.at) T)) ≡ j + 1
      far = omega (arith, q, ap (λ (z : ℕ). span (other semicolon) (drop z T)) one)

-- ---- next
pub record Going (T : List ℕ) (i : ℕ) (g b : Bool) (s : Pass) : Type 0 where
  pub leads-on : leads T s ≡ seek_in T i (ahead g false b 0)
  pub few : s.node + i ≤ s.at

pub going_start : (T : List ℕ) (i : ℕ) (g b : Bool) → Going T i g b (record { at = i; tag = g; solid = b; node = 0 })
unfolding seek_in
going_start T i g b = record { leads-on = refl; few = omega arith }

module _ (T : List ℕ) (i : ℕ) (g b : Bool) (s r : Pass) (go : Going T i g b s) (re : Reached T s r) where
  leads-there : seek_in T i (ahead g false b 0) ≡ leads T r
  leads-there = sym go.leads-on ∙ re.same

  pub few-there : r.node + i ≤ r.at
  few-there = omega (arith, re.on, re.node, go.few)

  pub next-none : length T ≤ r.at → None ≡ next_of T i g b
  unfolding next_of seek
  next-none l = ap as_pass (sym (leads-there ∙ ap (seek (place_in T) 0 (known r)) (drop_of_length-le T l)))

  module _ (l : r.at < length T) where
    pub next-some : word_byte (get_or T r.at 0) ≡ true → (c : Bool) → c ≡ (r.solid || not r.tag) → Some (record { at = r.at; tag = r.tag; solid = c; node = r.node }) ≡ next_of T i g b
    unfolding next_of
    next-some e c q = ap (λ c. Some (record { at = r.at; tag = r.tag; solid = c; node = r.node })) q ∙ ap as_pass (sym (leads-there ∙ ap (seek (place_in T) 0 (known r)) (drop-cons T r.at 0 l) ∙ begins ∙ ap (λ (z : ℕ). words.seen z (known r)) there))
      where
        begins : seek (place_in T) 0 (known r) (get_or T r.at 0 ∷ drop (suc r.at) T) ≡ words.seen (place_in T (get_or T r.at 0 ∷ drop (suc r.at) T)) (known r)
        begins = unfold seek starts in rw e

        there : place_in T (get_or T r.at 0 ∷ drop (suc r.at) T) ≡ r.at
        there = omega (arith, length-drop (suc r.at) T)

    pub pass-pre : word_byte (get_or T r.at 0) ≡ false → PassPre T r
    pass-pre e = record { within = l; stops = re.stops l; other = e; few = omega (arith, few-there) }

    pub next-on : (t : Pass) → Passed T r t → Going T i g b t
    next-on t p = record { leads-on = sym (leads-there ∙ p.same); few = omega (arith, p.few, few-there) }

    pub next-less : (t : Pass) → Passed T r t → length T - t.at < length T - s.at
    next-less t p = omega (arith, p.on, re.on)
