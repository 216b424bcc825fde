-- `names::compare::differ` meets its contract: glue over Comparing.
use Prim.Native.Nat.{◌≤◌}
use mathlib.Core.Path.{subst}
use native.Mathlib.Omega.{arith}
use lib.ListN.{length}
use Rattle.std.proofs.lemmas.Option.{same_Some}
use Rattle.names.specs.Inner.Calls.{NamesDiffer}
use Rattle.names.proofs.Comparing.{shared-first, found-same, found-other}
use Rattle.names.proofs.compare.differ.Goals as goal
use Rattle.names.proofs.compare.differ.Goals.{After-common-k}

-- No more than the name has.
within : (c : After-common-k) → c.common-k.result ≤ length c.args.name.now
within c = omega (arith, c.common-k.ensures, shared-first c.args.name.now c.args.text.now c.args.other c.requires.name)

pub overflow_add-other : goal.overflow_add-other
overflow_add-other c = omega (arith, within (goal.at.overflow_add-other c).After-common-k, c.requires.near, c.requires.name.short)

pub returns-then-x-y : goal.returns-then-x-y
returns-then-x-y c = record {
  same = λ _. found-same _ _ _ c.requires.name _ _ _ c.common-k.ensures c.byte_of-x.ensures c.name_byte-y.ensures c.if-x-y.true;
  other = λ d e. grind arith;
}

pub overflow_mul-result : goal.overflow_mul-result
overflow_mul-result c = omega (arith, within (goal.at.overflow_mul-result c).After-common-k, c.requires.name.short)

pub overflow_add-result : goal.overflow_add-result
overflow_add-result c = omega (arith, within (goal.at.overflow_add-result c).After-common-k, c.requires.name.short, c.first_bit.ensures.small)

pub returns : goal.returns
returns c = record {
  same = λ e. grind arith;
  other = λ d e. subst (NamesDiffer _ _) (same_Some _ _ e) (found-other _ _ _ c.requires.name _ _ _ c.common-k.ensures c.byte_of-x.ensures c.name_byte-y.ensures _ c.first_bit.ensures);
}
