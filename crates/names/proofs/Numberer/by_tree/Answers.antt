-- `names::Numberer::by_tree` meets its contract: glue over Turning.
use mathlib.Core.Path.{refl}
use native.Mathlib.Omega.{arith}
use Rattle.names.specs.Inner.Calls.{WalkPre, Leader}
use Rattle.names.proofs.Turning.{walk-pre, found-leader, turned-first, turned_same, turned-new}
use Rattle.names.proofs.Numberer.by_tree.Goals as goal
use Rattle.names.proofs.Numberer.by_tree.Goals.{After-find-y, Else-self-eq0}

walk : (c : Else-self-eq0) → WalkPre c.args.tree.now.rows.now c.args.tree.now.n
walk c = walk-pre _ _ _ _ _ _ c.requires.ready.turn c.if-self-eq0.false _ c.requires.ready.n

-- The node found.
leader : (c : After-find-y) → Leader c.args.v c.args.self.now.tags.now c.find-y.result
leader c =
    let r = c.requires.ready in
    found-leader _ _ _ _ _ _ r.turn c.if-self-eq0.false _ _ _ r.n c.find-y.ensures

pub returns-then-self-eq0-clause-turned : goal.returns-then-self-eq0-clause-turned
returns-then-self-eq0-clause-turned c =
    let p = c.requires in
    let t = p.ready.turn in
    rw c.plant.ensures.planted
    (turned-first _ _ _ _ _ _ t.node p.marked _ p.here p.some c.if-self-eq0.true (omega (arith, t.node, t.fit.long)))

pub find-y-requires : goal.find-y-requires
find-y-requires c = walk (goal.at.find-y-requires c).Else-self-eq0

pub offset_bounds-self-y : goal.offset_bounds-self-y
offset_bounds-self-y c = let t = c.requires.ready.turn in omega (arith, (leader (goal.at.offset_bounds-self-y c).After-find-y).before, t.node, t.fit.few)

pub bounds-self-y : goal.bounds-self-y
bounds-self-y c = let t = c.requires.ready.turn in omega (arith, (leader (goal.at.bounds-self-y c).After-find-y).before, t.node, t.fit.placed)

pub offset_bounds-self-y-in-None : goal.offset_bounds-self-y-in-None
offset_bounds-self-y-in-None c =
    let t = c.requires.ready.turn in omega (arith, (leader (goal.at.offset_bounds-self-y-in-None c).After-find-y).before, t.node, t.fit.few)

pub bounds-self-y-in-None : goal.bounds-self-y-in-None
bounds-self-y-in-None c = let t = c.requires.ready.turn in omega (arith, (leader (goal.at.bounds-self-y-in-None c).After-find-y).before, t.node)

pub returns-in-None-clause-turned : goal.returns-in-None-clause-turned
returns-in-None-clause-turned c =
    let p = c.requires in
    let l = leader (goal.at.returns-in-None-clause-turned c).After-find-y in
    turned_same _ _ _ _ _ _ p.ready.turn.node p.marked _ p.here p.some _
    (record { some = l.numbered; node = _; before = l.before; number = refl; name = c.differ.ensures.same c.in-None.is })

pub put-requires : goal.put-requires
put-requires c =
    record {
      walk = walk (goal.at.put-requires c).Else-self-eq0;
      node = omega (arith, c.requires.ready.turn.node, c.requires.ready.n);
      bit = (c.differ.ensures.other _ c.in-Some.is).few;
    }

pub returns-in-Some-clause-turned : goal.returns-in-Some-clause-turned
returns-in-Some-clause-turned c =
    let p = c.requires in
    let r = p.ready in
    turned-new _ _ _ _ _ _ r.turn.node p.marked _ p.here p.some c.if-self-eq0.false _ _ refl _ r.n c.find-y.ensures _
    (c.differ.ensures.other _ c.in-Some.is) _ c.put.ensures.put r.turn.fit.long
