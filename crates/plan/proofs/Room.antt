-- What fits, but for the table and the lists.
--   room-tree, room-ends, room-counts   the ways out of `has_room`;  roomy_of: what fits where it gives true
-- Letters: n nodes, k words, z sizes. Assumes nothing.
use Prim.Native.Nat.{ℕ, ◌*◌, ◌≤◌, ◌<◌}
use mathlib.Core.Path.{◌≡◌, sym, ap₂}
use mathlib.Core.Bool.{true, false, ◌&&◌}
use native.Mathlib.Nat.{mul-le-mul_right}
use native.Mathlib.Omega.{arith}
use lib.Dec.{leb}
use borrow.Author.Tests.{lt-leb, le-leb, leb-true}
use Rattle.seq.proofs.Laws.Bools.{and_left, and_right, and_false-left, and_false-right}
use Rattle.plan.specs.declared.Sizes.{Sizes}
use Rattle.plan.specs.Plan.{tree_fits}
use Rattle.plan.specs.Inner.{roomy}

pub small_product : (k n : ℕ) → k ≤ 8 → n ≤ 65536 → k * n ≤ 524288
small_product k n a b = omega (arith, mul-le-mul_right {m = k} {n = 8} n a, b)

module _ (n k : ℕ) (z : Sizes) where
  pub room-tree : tree_fits n z ≡ false → false ≡ roomy n k z
  unfolding roomy
  room-tree h = sym (and_false-left _ _ h)

  pub room-ends : z.ends < k → false ≡ roomy n k z
  unfolding roomy
  room-ends h = sym (and_false-right (tree_fits n z) _ (and_false-left _ _ (lt-leb k z.ends h)))

  pub room-counts : tree_fits n z ≡ true → k ≤ z.ends → leb (k * n) z.counts ≡ roomy n k z
  unfolding roomy
  room-counts h g = sym (ap₂ (λ x y. x && (y && leb (k * n) z.counts)) h (le-leb k z.ends g))

  -- What fits, where all does.
  pub record Roomy : Type 0 where
    pub tree : tree_fits n z ≡ true
    pub ends : k ≤ z.ends
    pub counts : k * n ≤ z.counts

  pub roomy_of : roomy n k z ≡ true → Roomy
  unfolding roomy
  roomy_of h =
      let rest : (leb k z.ends && leb (k * n) z.counts) ≡ true = and_right (tree_fits n z) (leb k z.ends && leb (k * n) z.counts) h in
      record {
        tree = and_left (tree_fits n z) (leb k z.ends && leb (k * n) z.counts) h;
        ends = leb-true k z.ends (and_left (leb k z.ends) (leb (k * n) z.counts) rest);
        counts = leb-true (k * n) z.counts (and_right (leb k z.ends) (leb (k * n) z.counts) rest);
      }
