-- `plan::gather::gather_words` meets its contract: glue over Counting. Assumes nothing.
use Rattle.std.proofs.Common.{refl, arith}
use Rattle.query.proofs.Kept.{query-kept}
use Rattle.plan.proofs.Texts.{text-kept}
use Rattle.plan.proofs.Counting.{counting-start, counting-end, counting-full, total-small, counting-step, fewer-left}
use Rattle.plan.proofs.gather.gather_words.Goals as goal

pub loop-mention-init : goal.loop-mention-init
loop-mention-init c = counting-start _ _ _ _ _ _ c.requires (c.new-walk.ensures _)

pub returns-then-not-enter : goal.returns-then-not-enter
returns-then-not-enter c = counting-full _ _ _ _ _ _ _ (text-kept _ c.requires.pre.kept) c.loop-mention.invariant _ _ c.in-Some.ensures _ _ refl c.if-not-enter.ensures

pub tally-total-requires : goal.tally-total-requires
tally-total-requires c = record { ok = c.requires.pre.ok; own = c.in-Some.ensures.own; hashes = c.requires.hashes; long = c.loop-mention.invariant.lasts }

pub overflow_add-total : goal.overflow_add-total
overflow_add-total c = omega (arith, total-small _ _ _ _ _ _ _ (text-kept _ c.requires.pre.kept) c.loop-mention.invariant _ _ c.in-Some.ensures _ _ _ c.if-not-enter.ensures c.tally-total.ensures (query-kept _ c.requires.pre.ok))

pub loop-mention-smaller : goal.loop-mention-smaller
loop-mention-smaller c = fewer-left _ _ _ _ _ _ _ (text-kept _ c.requires.pre.kept) c.loop-mention.invariant _ _ c.in-Some.ensures _ _ _ c.if-not-enter.ensures c.tally-total.ensures

pub loop-mention-preserved : goal.loop-mention-preserved
loop-mention-preserved c = counting-step _ _ _ _ _ _ _ (text-kept _ c.requires.pre.kept) c.loop-mention.invariant _ _ c.in-Some.ensures _ _ _ c.if-not-enter.ensures c.tally-total.ensures

pub returns : goal.returns
returns c = counting-end _ _ _ _ _ _ _ (text-kept _ c.requires.pre.kept) c.loop-mention.invariant c.in_default.ensures.0 _ refl
