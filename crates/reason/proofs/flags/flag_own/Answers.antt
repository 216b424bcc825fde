-- `reason::flags::flag_own` meets its contract: glue over Flagging.
use mathlib.Core.Path.{refl}
use native.Mathlib.Omega.{arith}
use Rattle.reason.proofs.Flagging.{flagging-start, flagging-up, flagging-turn, flagging-out, flagging-end, flagging-whole}
use Rattle.reason.proofs.flags.flag_own.Goals as goal

pub loop-u-init : goal.loop-u-init
loop-u-init c = flagging-start _ _ _ c.requires.preorder c.requires.node _ c.requires.zeros

pub returns-then-up-v : goal.returns-then-up-v
returns-then-up-v c =
    let s = c.requires in
    let e = flagging-out _ _ _ s.preorder s.node _ _ c.loop-u.invariant c.loop-u-test.true c.if-up-v.true in
    record { end = e; flags = flagging-whole _ _ _ s.preorder s.node _ _ c.loop-u.invariant e }

pub bounds-row-up : goal.bounds-row-up
bounds-row-up c =
    let s = c.requires in
    flagging-up _ _ _ s.preorder s.node _ _ c.loop-u.invariant c.loop-u-test.true

pub loop-u-preserved : goal.loop-u-preserved
loop-u-preserved c =
    let s = c.requires in
    flagging-turn _ _ _ _ s.preorder s.node _ _ _ _ c.loop-u.invariant c.loop-u-test.true refl c.if-up-v.false c.flag_of.ensures

pub returns : goal.returns
returns c =
    let s = c.requires in
    let e = flagging-end _ _ _ s.preorder s.node _ _ c.loop-u.invariant c.loop-u-test.false in
    record { end = omega (arith, e, c.loop-u.invariant.nodes, c.loop-u-test.false); flags = flagging-whole _ _ _ s.preorder s.node _ _ c.loop-u.invariant e }
