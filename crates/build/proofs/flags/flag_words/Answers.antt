-- `build::flags::flag_words` meets its contract: glue over Flagging. Assumes nothing.
use Rattle.std.proofs.Common.{arith}
use Rattle.plan.proofs.Texts.{text-kept}
use Rattle.build.proofs.Flagging.{flagging-start, flagging-end, flag-below, flag-fewer, flagging-step}
use Rattle.build.proofs.flags.flag_words.Goals as goal

pub loop-mention-init : goal.loop-mention-init
loop-mention-init c = flagging-start _ _ _ _ _ _ c.requires (c.new-walk.ensures _)

pub flag-requires : goal.flag-requires
flag-requires c = record {
  ok = c.requires.pre.ok;
  own = c.in-Some.ensures.own;
  hashes = c.requires.hashes;
  node = flag-below _ _ _ _ _ c.loop-mention.invariant _ _ c.in-Some.ensures;
  few = omega (arith, c.requires.pre.nodes, (text-kept _ c.requires.pre.kept).few);
  long = c.loop-mention.invariant.long;
}

pub loop-mention-smaller : goal.loop-mention-smaller
loop-mention-smaller c = flag-fewer _ _ _ _ _ c.loop-mention.invariant _ _ c.in-Some.ensures

pub loop-mention-preserved : goal.loop-mention-preserved
loop-mention-preserved c = flagging-step _ _ _ _ _ c.loop-mention.invariant _ _ c.in-Some.ensures _ c.flag.ensures

pub returns : goal.returns
returns c = flagging-end _ _ _ _ _ c.loop-mention.invariant c.in_default.ensures.0
