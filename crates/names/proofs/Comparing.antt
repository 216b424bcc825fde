-- A name and the name at a place of the text, compared byte by byte.
--   byte-is, byte-none     the first byte of a name that stands at a place
--   name-here              the name at a place is one
--   byte_next              byte k of a name is the first byte of what stands k bytes later
--   found-same, found-other   what `differ` finds
--   found-whole            what `same` finds: two names are the same where all bytes of the one are in common and the other ends there
-- Letters: t text, o p places, x a name, k how many bytes it has in common with what stands at p. Assumes nothing.
use Prim.Native.Nat.{ℕ, ◌+◌, ◌*◌, ◌≤◌, ◌<◌}
use mathlib.Core.Path.{◌≡◌, sym, ap, subst, ◌∙◌}
use mathlib.Core.Logic.{⊎_elim}
use mathlib.Core.List.{List}
use mathlib.Core.Bool.{true, false}
use native.Mathlib.Nat.{le_antisymm, add-zero}
use native.Mathlib.Omega.{arith}
use lib.ListN.{length, get_or, drop, length-drop, get_or-eq_default}
use lib.Seq.{length-take-le, get_or-take, get_or-drop, ext_get_or}
use Rattle.seq.proofs.Laws.Bools.{bool-not_both}
use Rattle.seq.proofs.Laws.Numbers.{less_or}
use Rattle.profile.specs.Bytes.{name_start, name_char}
use Rattle.profile.specs.Spans.{span, common, name_at}
use Rattle.profile.proofs.Laws.Spans.{span-step, span-stop, span_none, span_le, span-passes, span-stops, span_ge, common-word, common-text, common-same, common-differs}
use Rattle.names.specs.Inner.Calls.{byte_here, Name, FirstBit, NamesDiffer}
use Rattle.names.proofs.Bits.{names-differ}

-- ---- a name's bytes
pub name-long : (t : List ℕ) (o : ℕ) → length (name_at t o) ≡ span name_char (drop o t)
name-long t o = length-take-le (span name_char (drop o t)) (drop o t) (span_le name_char (drop o t))

name-at : (t : List ℕ) (o i : ℕ) → i < span name_char (drop o t) → get_or (name_at t o) i 0 ≡ get_or t (o + i) 0
name-at t o i l = get_or-take (span name_char (drop o t)) (drop o t) i 0 l ∙ get_or-drop o t i 0

name-passes : (t : List ℕ) (o i : ℕ) → i < span name_char (drop o t) → name_char (get_or t (o + i) 0) ≡ true
name-passes t o i l = ap name_char (sym (get_or-drop o t i 0)) ∙ span-passes name_char (drop o t) i l

pub byte-is : (t : List ℕ) (o : ℕ) → o < length t → name_char (get_or t o 0) ≡ true → get_or t o 0 ≡ byte_here t o
unfolding byte_here
byte-is t o l e = sym (name-at t o 0 (omega (arith, span-step name_char t o l e)) ∙ ap (λ (k : ℕ). get_or t k 0) (add-zero o))

pub byte-none : (t : List ℕ) (o : ℕ) → span name_char (drop o t) ≡ 0 → 0 ≡ byte_here t o
unfolding byte_here
byte-none t o e = sym (get_or-eq_default (name_at t o) 0 {n = 0} (omega (arith, name-long t o)))

pub byte-stop : (t : List ℕ) (o : ℕ) → o < length t → name_char (get_or t o 0) ≡ false → 0 ≡ byte_here t o
byte-stop t o l e = byte-none t o (span-stop name_char t o l e)

pub byte_past : (t : List ℕ) (o : ℕ) → length t ≤ o → 0 ≡ byte_here t o
byte_past t o l = byte-none t o (span_none name_char t o l)

pub byte_next : (t : List ℕ) (o k : ℕ) → k ≤ span name_char (drop o t) → byte_here t (o + k) ≡ get_or (name_at t o) k 0
byte_next t o k l = ⊎_elim in_name_lem at-end (less_or k (span name_char (drop o t)))
  where
    in_name_lem : k < span name_char (drop o t) → byte_here t (o + k) ≡ get_or (name_at t o) k 0
    in_name_lem q =
        sym (byte-is t (o + k) (omega (arith, span_le name_char (drop o t), length-drop o t)) (name-passes t o k q)) ∙ sym (name-at t o k q)

    at-end : span name_char (drop o t) ≤ k → byte_here t (o + k) ≡ get_or (name_at t o) k 0
    at-end q =
        sym (⊎_elim (λ i. byte-stop t (o + k) i (stops i)) (λ i. byte_past t (o + k) i) (less_or (o + k) (length t)))
        ∙ sym (get_or-eq_default (name_at t o) 0 {n = k} (omega (arith, name-long t o)))
      where
        here : k ≡ span name_char (drop o t)
        here = le_antisymm l q

        stops : o + k < length t → name_char (get_or t (o + k) 0) ≡ false
        stops i =
            ap name_char (ap (λ (j : ℕ). get_or t (o + j) 0) here ∙ sym (get_or-drop o t (span name_char (drop o t)) 0))
            ∙ span-stops name_char (drop o t) (omega (arith, length-drop o t))

-- Each byte of the name at a place goes on with it.
pub name-here : (t : List ℕ) (o : ℕ) → length t ≤ 16777216 → Name (name_at t o)
name-here t o l = record {
  letters = λ i h. ap name_char (name-at t o i (omega (arith, h, name-long t o))) ∙ name-passes t o i (omega (arith, h, name-long t o));
  short = omega (arith, name-long t o, span_le name_char (drop o t), length-drop o t);
}

-- A byte of a name is not 0.
passes-some : (a : ℕ) → name_char a ≡ true → a ≡ 0 → ⊥
unfolding name_char name_start
passes-some a e z = bool-not_both (name_char a) e (ap name_char z)

-- ---- the bytes that a name has in common with what stands at a place
module _ (x t : List ℕ) (p : ℕ) (n : Name x) where
  abbrev shared : ℕ
  shared = common x (drop p t)

  pub shared-first : shared ≤ length x
  shared-first = common-word x (drop p t)

  -- They are the same in the text.
  bytes_same : (i : ℕ) → i < shared → get_or x i 0 ≡ get_or (drop p t) i 0
  bytes_same i l =
      sym (get_or-take shared x i 0 l) ∙ ap (λ (z : List ℕ). get_or z i 0) (common-same x (drop p t)) ∙ get_or-take shared (drop p t) i 0 l

  pub shared_second : shared ≤ span name_char (drop p t)
  shared_second =
      span_ge name_char (drop p t) shared (common-text x (drop p t)) (λ i l. ap name_char (sym (bytes_same i l)) ∙ n.letters i (omega (arith, shared-first)))

  names_same : (i : ℕ) → i < shared → get_or x i 0 ≡ get_or (name_at t p) i 0
  names_same i l = bytes_same i l ∙ sym (get_or-take (span name_char (drop p t)) (drop p t) i 0 (omega (arith, shared_second)))

  -- Where the next bytes are the same too, both names have ended.
  first_ends : get_or x shared 0 ≡ get_or (name_at t p) shared 0 → length x ≤ shared
  first_ends e = ⊎_elim (λ q. absurd (no q)) (λ q. q) (less_or shared (length x))
    where
      no : shared < length x → ⊥
      no q = ⊎_elim (λ r. both r) (λ r. one r) (less_or shared (span name_char (drop p t)))
        where
          both : shared < span name_char (drop p t) → ⊥
          both r =
              common-differs x (drop p t) q (omega (arith, span_le name_char (drop p t)))
              (sym (get_or-take (span name_char (drop p t)) (drop p t) shared 0 r) ∙ sym e)

          one : span name_char (drop p t) ≤ shared → ⊥
          one r =
              passes-some (get_or x shared 0) (n.letters shared q)
              (e ∙ get_or-eq_default (name_at t p) 0 {n = shared} (omega (arith, name-long t p)))

  second-ends : get_or x shared 0 ≡ get_or (name_at t p) shared 0 → span name_char (drop p t) ≤ shared
  second-ends e = ⊎_elim (λ q. absurd (no q)) (λ q. q) (less_or shared (span name_char (drop p t)))
    where
      no : shared < span name_char (drop p t) → ⊥
      no q =
          passes-some (get_or t (p + shared) 0) (name-passes t p shared q)
          (sym (name-at t p shared q) ∙ sym e ∙ get_or-eq_default x 0 {n = shared} (first_ends e))

  shared_same : get_or x shared 0 ≡ byte_here t (p + shared) → x ≡ name_at t p
  shared_same e =
      ext_get_or 0 x (name_at t p) (omega (arith, name-long t p, first_ends f, second-ends f, shared-first, shared_second))
      (λ i l. names_same i (omega (arith, first_ends f)))
    where
      f : get_or x shared 0 ≡ get_or (name_at t p) shared 0
      f = e ∙ byte_next t p shared shared_second

  -- What `differ` finds, where k bytes are in common and a and b are the next two.
  module _ (k a b : ℕ) (e : k ≡ shared) (ea : a ≡ get_or x k 0) (eb : b ≡ byte_here t (p + k)) where
    pub found-same : a ≡ b → x ≡ name_at t p
    found-same q = shared_same (subst (λ (i : ℕ). get_or x i 0 ≡ byte_here t (p + i)) e (sym ea ∙ q ∙ eb))

    pub found-other : (j : ℕ) → FirstBit a b j → NamesDiffer x (name_at t p) (8 * k + j)
    found-other j f =
        names-differ x (name_at t p) k j (omega (arith, f.small, e, shared-first, n.short)) (λ i l. names_same i (omega (arith, e)))
        (rw (sym ea, sym (byte_next t p k (omega (arith, e, shared_second))), sym eb) f)

  -- What `same` finds: all bytes of the name are in common, and no byte of the other is left.
  pub found-whole : shared ≡ length x → byte_here t (p + length x) ≡ 0 → x ≡ name_at t p
  found-whole e h =
      shared_same (get_or-eq_default x 0 {n = shared} (omega (arith, e)) ∙ sym h ∙ ap (λ (i : ℕ). byte_here t (p + i)) (sym e))
