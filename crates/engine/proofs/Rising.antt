-- The climb: what its loop knows at node v, and how a turn keeps it. Assumes nothing.
-- Letters: p parents, l the node below which nothing is passed, r reach; x the node from whose parent the climb starts, v where it is; f, g steps.
use Prim.Native.Nat.{ℕ, zero, suc, ◌≤◌, ◌<◌}
use mathlib.Core.Path.{◌≡◌, refl, sym, ap, ◌∙◌}
use mathlib.Core.List.{List}
use mathlib.Core.Bool.{cond, ◌&&◌}
use native.Mathlib.Nat.{not-suc-le-zero}
use native.Mathlib.Omega.{arith}
use borrow.Author.Tests.{lt-ltb, le-ltb, le-leb, lt-leb}
use lib.Dec.{ltb, leb}
use lib.ListN.{length, get_or}
use Rattle.seq.proofs.Laws.Bools.{cond-true, cond-false, and_both, and_false-left, and_false-right}
use Rattle.tree.specs.Tree.{parent}
use Rattle.tree.specs.Plain.{Down}
use Rattle.engine.specs.Inner.Steps.{climbed, risen}
use Rattle.engine.specs.Inner.Writing.{ClimbPre}

module _ (p : List ℕ) (l r : ℕ) where
  -- The climb ends where v is not past l, or stands before r; else it goes on at v's parent.
  climbed-low : (f v : ℕ) → v ≤ l → climbed p l r f v ≡ v
  unfolding climbed
  climbed-low zero v h = refl
  climbed-low (suc f) v h = cond-false _ (and_false-left (ltb l v) (leb r v) (le-ltb l v h)) _ _

  climbed-before : (f v : ℕ) → v < r → climbed p l r f v ≡ v
  unfolding climbed
  climbed-before zero v h = refl
  climbed-before (suc f) v h = cond-false _ (and_false-right (ltb l v) (leb r v) (lt-leb r v h)) _ _

  climbed-on : (f v : ℕ) → l < v → r ≤ v → climbed p l r (suc f) v ≡ climbed p l r f (parent p v)
  unfolding climbed
  climbed-on f v a b = cond-true _ (and_both (ltb l v) (leb r v) (lt-ltb l v a) (le-leb r v b)) _ _

  -- As many steps as the node's number are enough.
  climbed-enough : Down p (length p) → (f g v : ℕ) → v < length p → v ≤ f → v ≤ g → climbed p l r f v ≡ climbed p l r g v
  unfolding climbed
  climbed-enough d zero g v n a b = sym (climbed-low g v (omega arith))
  climbed-enough d (suc f) zero v n a b = climbed-low (suc f) v (omega arith)
  climbed-enough d (suc f) (suc g) zero n a b = climbed-low (suc f) zero (omega arith) ∙ sym (climbed-low (suc g) zero (omega arith))
  climbed-enough d (suc f) (suc g) (suc v) n a b =
      ap (λ z. cond (ltb l (suc v) && leb r (suc v)) z (suc v))
      (climbed-enough d f g (parent p (suc v)) (omega (arith, d v n)) (omega (arith, d v n)) (omega (arith, d v n)))

  -- A node's parent stands before it.
  parent-before : Down p (length p) → (v : ℕ) → 0 < v → v < length p → parent p v < v
  parent-before d zero a b = absurd (not-suc-le-zero a)
  parent-before d (suc v) a b = omega (arith, d v b)

  pub record Climbing (x v : ℕ) : Type 0 where
    pub node : v < length p
    pub ahead : risen p l r x ≡ climbed p l r v v

  pub climbing_start : (x w : ℕ) → ClimbPre p x → w ≡ x → Climbing x (get_or p w 0)
  climbing_start x w pre e = rw e (record {
    node = omega (arith, parent-before pre.down x pre.not_root pre.node, pre.node);
    ahead = climbed-enough pre.down x (parent p x) (parent p x) (omega (arith, parent-before pre.down x pre.not_root pre.node, pre.node))
        (omega (arith, parent-before pre.down x pre.not_root pre.node)) (omega arith);
  })

  module _ (x v : ℕ) (t : Climbing x v) where
    pub climbing_low : v ≤ l → v ≡ risen p l r x
    climbing_low h = sym (t.ahead ∙ climbed-low v v h)

    pub climbing_before : v < r → v ≡ risen p l r x
    climbing_before h = sym (t.ahead ∙ climbed-before v v h)

    module _ (w : ℕ) (pre : ClimbPre p x) (a : l < v) (b : r ≤ v) (e : w ≡ v) where
      pub climbing_less : get_or p w 0 < v
      climbing_less = rw e (parent-before pre.down v (omega arith) t.node)

      climbed-up : (v : ℕ) → l < v → r ≤ v → v < length p → climbed p l r v v ≡ climbed p l r (parent p v) (parent p v)
      climbed-up zero a b n = absurd (not-suc-le-zero a)
      climbed-up (suc v) a b n =
          climbed-on v (suc v) a b
          ∙ climbed-enough pre.down v (parent p (suc v)) (parent p (suc v)) (omega (arith, pre.down v n)) (omega (arith, pre.down v n)) (omega arith)

      pub climbing_step : Climbing x (get_or p w 0)
      climbing_step = rw e (record {
        node = omega (arith, parent-before pre.down v (omega arith) t.node, t.node);
        ahead = t.ahead ∙ climbed-up v a b t.node;
      })
