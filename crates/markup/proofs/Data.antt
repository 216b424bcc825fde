-- How a run of data goes on: over plain bytes at once, over brackets at once, and at each other byte. Assumes nothing.
--   data_run                                  over bytes that are plain
--   data_end_lem, data_less, data_other           where it ends, or breaks
--   data_greater                              over a `>` that no two brackets stand before
--   data_whole, data_broken                   at a reference
--   data_bracket                              over a bracket and those that follow it
--   data_forgets, data_refuses                past brackets the count is of use only to a `>`, which it refuses after two
-- Letters: t u rows of bytes, x a byte, k brackets, f a test of a byte, n a size.
use Prim.Native.Nat.{ℕ, zero, suc, ◌≤◌, ◌<◌}
use mathlib.Core.Path.{◌≡◌, refl, ap, ◌∙◌}
use mathlib.Core.Logic.{⊎_elim}
use mathlib.Core.List.{List, [], ◌∷◌}
use mathlib.Core.Bool.{Bool, true, false, not, ◌&&◌}
use native.Mathlib.Nat.{not-suc-le-zero}
use native.Mathlib.Omega.{arith}
use lib.Dec.{eqb}
use lib.ListN.{length, drop}
use borrow.Author.Tests.{eqb-true}
use Rattle.seq.proofs.Laws.Bools.{bool_cases, and_left}
use Rattle.profile.specs.Bytes.{'&', '<', '>', ']', char, data_char, plain}
use Rattle.profile.specs.Spans.{span}
use Rattle.profile.specs.Machine.{Brackets, b0, b1, b2, raised, two, run_byte, run_next}
use Rattle.profile.specs.Pieces.{stop, after, reference_stop, data_stop}
use Rattle.profile.proofs.Stops.{after-zero}
use Rattle.profile.proofs.Laws.Bytes.{apart}
use Rattle.profile.proofs.Laws.Spans.{common-text}
use Rattle.markup.proofs.Reading.{after-suc, run-over}

-- ---- plain bytes
plain_data : (x : ℕ) → plain x ≡ true → data_char x ≡ true
unfolding plain
plain_data x h = and_left (data_char x) _ (and_left (data_char x && not (eqb x ']')) _ h)

plain-none : (x : ℕ) → plain x ≡ false → eqb x '>' ≡ false → eqb x ']' ≡ false → data_char x ≡ false
unfolding plain
plain-none x h a b = strip (data_char x) (rw (a, b) at h)
  where
    strip : (e : Bool) → (e && true && true) ≡ false → e ≡ false
    strip true q = q
    strip false q = refl

data_plain : (x : ℕ) (t : List ℕ) → plain x ≡ true → plain '<' ≡ false → plain '&' ≡ false → plain ']' ≡ false → data_stop b0 0 (x ∷ t) ≡ after 1 (data_stop b0 0 t)
unfolding data_stop run_byte run_next
data_plain x t h a b c = rw (apart plain x '<' a h, apart plain x '&' b h, plain_data x h, apart plain x ']' c h)

pub data_run : (f : ℕ → Bool) → ((x : ℕ) → f x ≡ true → plain x ≡ true) → (u : List ℕ) → data_stop b0 0 u ≡ after (span f u) (data_stop b0 0 (drop (span f u) u))
unfolding plain data_char char
data_run f e u = run-over (data_stop b0 0) f (λ x t q. data_plain x t (e x q) refl refl refl) u

-- ---- the ends
pub data_end_lem : (k : Brackets) → data_stop k 0 [] ≡ stop 0 true
unfolding data_stop
data_end_lem k = refl

pub data_less : (t : List ℕ) → data_stop b0 0 ('<' ∷ t) ≡ stop 0 true
unfolding data_stop
data_less t = refl

-- A byte that is no data.
pub data_other : (x : ℕ) (t : List ℕ) → plain x ≡ false → eqb x '<' ≡ false → eqb x '&' ≡ false → eqb x '>' ≡ false → eqb x ']' ≡ false → data_stop b0 0 (x ∷ t) ≡ stop 0 false
unfolding data_stop run_byte
data_other x t h a b c d = rw (a, b, plain-none x h c d)

-- ---- `>`
pub data_greater : (t : List ℕ) → data_stop b0 0 ('>' ∷ t) ≡ after 1 (data_stop b0 0 t)
unfolding data_stop run_byte run_next data_char char
data_greater t = refl

-- ---- references
-- The bytes of a reference are passed over.
data_over : (n : ℕ) (t : List ℕ) → n ≤ length t → data_stop b0 n t ≡ after n (data_stop b0 0 (drop n t))
unfolding data_stop
data_over zero t l = after-zero (data_stop b0 0 t)
data_over (suc n) [] l = absurd (not-suc-le-zero l)
data_over (suc n) (x ∷ t) l = ap (after 1) (data_over n t (omega arith)) ∙ after-suc n _

pub data_whole : (t : List ℕ) → (reference_stop t).whole ≡ true →
    data_stop b0 0 ('&' ∷ t) ≡ after (suc (reference_stop t).size) (data_stop b0 0 (drop (reference_stop t).size t))
unfolding data_stop
data_whole t e = rw e (ap (after 1) (data_over (reference_stop t).size t (common-text _ t)) ∙ after-suc (reference_stop t).size _)

pub data_broken : (t : List ℕ) → (reference_stop t).whole ≡ false → data_stop b0 0 ('&' ∷ t) ≡ after 1 (reference_stop t)
unfolding data_stop
data_broken t e = rw e

-- ---- brackets
-- The count after n brackets more.
unfoldable pub many : ℕ → Brackets → Brackets
many zero k = k
many (suc n) k = many n (raised k)

data_one : (k : Brackets) (t : List ℕ) → data_stop k 0 (']' ∷ t) ≡ after 1 (data_stop (raised k) 0 t)
unfolding data_stop run_byte run_next data_char char
data_one b0 t = refl
data_one b1 t = refl
data_one b2 t = refl

data_many : (f : ℕ → Bool) → ((x : ℕ) → f x ≡ true → eqb x ']' ≡ true) → (u : List ℕ) (k : Brackets) →
    data_stop k 0 u ≡ after (span f u) (data_stop (many (span f u) k) 0 (drop (span f u) u))
unfolding span many
data_many f e [] k = after-zero (data_stop k 0 [])
data_many f e (x ∷ u) k =
    ⊎_elim
    (λ q. rw q (ap (λ y. data_stop k 0 (y ∷ u)) (eqb-true x ']' (e x q)) ∙ data_one k u ∙ ap (after 1) (data_many f e u (raised k)) ∙ after-suc (span f u) _))
    (λ q. rw q (after-zero (data_stop k 0 (x ∷ u))))
    (bool_cases (f x))

-- Two and more stay two.
many-stays : (n : ℕ) → many n b2 ≡ b2
unfolding many
many-stays zero = refl
many-stays (suc n) = many-stays n

pub many-two : (n : ℕ) → 0 < n → many n b1 ≡ b2
unfolding many
many-two zero l = absurd (not-suc-le-zero l)
many-two (suc n) l = many-stays n

pub data_bracket : (f : ℕ → Bool) → ((x : ℕ) → f x ≡ true → eqb x ']' ≡ true) → (u : List ℕ) →
    data_stop b0 0 (']' ∷ u) ≡ after (suc (span f u)) (data_stop (many (span f u) b1) 0 (drop (span f u) u))
data_bracket f e u = data_one b0 u ∙ ap (after 1) (data_many f e u b1) ∙ after-suc (span f u) _

pub data_forgets : (k : Brackets) (x : ℕ) (t : List ℕ) → eqb x ']' ≡ false → (two k && eqb x '>') ≡ false → data_stop k 0 (x ∷ t) ≡ data_stop b0 0 (x ∷ t)
unfolding data_stop run_byte run_next
data_forgets k x t a b = rw (a, b)

pub data_refuses : (t : List ℕ) → data_stop b2 0 ('>' ∷ t) ≡ stop 0 false
unfolding data_stop run_byte data_char char
data_refuses t = refl
