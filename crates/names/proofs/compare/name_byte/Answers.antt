-- `names::compare::name_byte` meets its contract. The byte is told by a run over it alone: however long a name is, one byte of it is looked at.
use Prim.Native.Nat.{ℕ, ◌+◌, ◌-◌, ◌<◌}
use mathlib.Core.Path.{◌≡◌, refl, sym, ap, ap₂, ◌∙◌}
use mathlib.Core.List.{List, [], ◌∷◌}
use mathlib.Core.Bool.{Bool, true, false, cond}
use native.Mathlib.Nat.{zero-add}
use native.Mathlib.Omega.{arith}
use lib.ListN.{length, get_or, take, drop}
use lib.Seq.{drop-cons}
use Rattle.profile.specs.Bytes.{name_char}
use Rattle.profile.specs.Classes.{within, NAMECHARS}
use Rattle.profile.specs.Spans.{span}
use Rattle.profile.proofs.Classes.{class-rule}
use Rattle.names.proofs.Comparing.{byte-is, byte-stop, byte_past}
use Rattle.names.proofs.compare.name_byte.Goals as goal
use Rattle.names.proofs.compare.name_byte.Goals.{else-place-text-via-then-place-text+else-skip-eq1, else-place-text-via-else-place-text}

-- ---- a run over one byte
part-one : (t : List ℕ) (i : ℕ) → i < length t → take (i + 1 - i) (drop i t) ≡ get_or t i 0 ∷ []
part-one t i l = ap₂ take back (drop-cons t i 0 l)
  where
    back : i + 1 - i ≡ 1
    back = omega arith

run-one : (f : ℕ → Bool) (t : List ℕ) (i : ℕ) → i < length t → 0 + span f (drop 0 (take (i + 1 - i) (drop i t))) ≡ cond (f (get_or t i 0)) 1 0
unfolding span
run-one f t i l = simp zero-add (ap (λ u. span f (drop 0 u)) (part-one t i l))

passes : (b : Bool) → ◌≡◌ {A = ℕ} (cond b 1 0) 1 → b ≡ true
passes true e = refl
passes false e = absurd (zero_ne e)
  where
    zero_ne : ◌≡◌ {A = ℕ} 0 1 → ⊥
    zero_ne q = omega arith

fails : (b : Bool) → (◌≡◌ {A = ℕ} (cond b 1 0) 1 → ⊥) → b ≡ false
fails true e = absurd (e refl)
fails false e = refl

-- ---- the byte that `skip` has looked at
ran : (t : List ℕ) (i r : ℕ) → i < length t → get_or t i 0 < 256 → r ≡ 0 + span (within NAMECHARS) (drop 0 (take (i + 1 - i) (drop i t))) →
    r ≡ cond (name_char (get_or t i 0)) 1 0
ran t i r l b e =
    e ∙ run-one (within NAMECHARS) t i l ∙ ap (λ (p : Bool). cond p 1 0) (sym (class-rule (get_or t i 0) b).of-name_char)

pub returns-then-skip-eq1 : goal.returns-then-skip-eq1
returns-then-skip-eq1 c =
    byte-is _ _ c.if-place-text.true
    (passes _ (sym (ran _ _ _ c.if-place-text.true (omega (arith, c.type_inv.text c.args.place)) c.skip.ensures) ∙ c.if-skip-eq1.true))

pub returns-else-place-text : goal.returns-else-place-text
returns-else-place-text c =
    elim c.else-place-text.branch [
      | else-place-text-via-then-place-text+else-skip-eq1 w ↦
          byte-stop _ _ w.if-place-text.true
          (fails _ (λ q. w.if-skip-eq1.false (ran _ _ _ w.if-place-text.true (omega (arith, c.type_inv.text c.args.place)) w.skip.ensures ∙ q)))
      | else-place-text-via-else-place-text w ↦ byte_past _ _ w.if-place-text.false
    ]
