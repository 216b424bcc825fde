-- `names::Numberer::take_up` meets its contract: glue over Turning.
use Prim.Native.Nat.{◌+◌, ◌-◌}
use mathlib.Core.Path.{refl, sym, subst}
use mathlib.Core.List.{List}
use Prim.Native.Nat.{ℕ}
use native.Mathlib.Omega.{arith}
use lib.ListN.{get_or, take, drop}
use Rattle.names.specs.Inner.Calls.{NamedPre}
use Rattle.names.proofs.Turning.{name-cut, name-is, name-none, name-some, name-ends, named_lately, turned_data, turned-empty, turned_same}
use Rattle.names.proofs.Numberer.take_up.Goals as goal
use Rattle.names.proofs.Numberer.take_up.Goals.{After-skip-end, Else-end-place, then-self-lt-FEW+in_default, else-self-lt-FEW}

-- The node's name, as it is cut out of the text.
abbrev cut : (c : After-skip-end) → List ℕ
cut c =
    let o = get_or c.args.self.now.firsts.now c.args.v 0 + 1 in
    take (c.skip-end.result - o) (drop o c.args.self.now.text.now)

named : (c : Else-end-place) → NamedPre (cut (goal.at.Else-end-place c).After-skip-end) c.args.self.now c.args.tree.now c.args.v
named c =
    record {
      ready = c.requires;
      marked = c.if-self-v-eq0.false;
      name = name-is _ _ _ c.requires.bytes c.skip-end.ensures c.requires.turn.fit.short;
      here = name-cut _ _ _ c.requires.bytes c.skip-end.ensures;
      some = name-some _ _ _ c.requires.bytes c.skip-end.ensures c.if-end-place.false;
    }

pub returns-then-self-v-eq0-clause-turned : goal.returns-then-self-v-eq0-clause-turned
returns-then-self-v-eq0-clause-turned c = turned_data _ _ _ _ _ _ c.requires.turn.node c.if-self-v-eq0.true

pub returns-then-end-place-clause-turned : goal.returns-then-end-place-clause-turned
returns-then-end-place-clause-turned c =
    turned-empty _ _ _ _ _ _ c.requires.turn.node c.if-self-v-eq0.false _ refl
    (name-none _ _ _ c.requires.bytes c.skip-end.ensures c.if-end-place.true)

pub slice_bounds-name-end : goal.slice_bounds-name-end
slice_bounds-name-end c =
    omega (arith, name-ends _ _ _ c.requires.bytes c.skip-end.ensures c.if-end-place.false, c.skip-end.ensures)

pub key-key-requires : goal.key-key-requires
key-key-requires c = let n = named (goal.at.key-key-requires c).Else-end-place in record { name = n.name; some = omega (arith, n.some) }

pub tag_of-requires : goal.tag_of-requires
tag_of-requires c =
    let t = c.requires.turn in record { name = (named (goal.at.tag_of-requires c).Else-end-place).name; node = t.node; few = t.fit.few; placed = t.fit.placed }

pub returns-in-Some-clause-turned : goal.returns-in-Some-clause-turned
returns-in-Some-clause-turned c =
    let n = named (goal.at.returns-in-Some-clause-turned c).Else-end-place in
    turned_same _ _ _ _ _ _ c.requires.turn.node n.marked _ n.here n.some _ (c.tag_of.ensures.twin _ c.in-Some.is)

pub by_tree-requires : goal.by_tree-requires
by_tree-requires c =
    let n = named (goal.at.by_tree-requires c).Else-end-place in
    elim c.if-self-lt-FEW.branch [
      | then-self-lt-FEW+in_default w ↦ subst (λ b. NamedPre (cut (goal.at.by_tree-requires c).After-skip-end) b c.args.tree.now c.args.v) (sym w.self-is) (named_lately _ c.args.self.now _ _ _ n)
      | else-self-lt-FEW w ↦ subst (λ b. NamedPre (cut (goal.at.by_tree-requires c).After-skip-end) b c.args.tree.now c.args.v) (sym w.self-is) n
    ]
