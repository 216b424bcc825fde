-- `build::build` meets its contract: glue over Replying. Assumes nothing.
use mathlib.Core.Path.{refl, sym}
use native.Mathlib.Omega.{arith}
use lib.Seq.{length-take-le}
use Rattle.reader.proofs.Reading.{room_of}
use Rattle.plan.proofs.Room.{small_product}
use Rattle.build.proofs.Replying.{refused_builds, few_words_lem, few-nodes, lists-fit, rooms, write_asks, all_builds}
use Rattle.build.proofs.build.Goals as goal

pub returns-then-p-ne-ACCEPTED : goal.returns-then-p-ne-ACCEPTED
returns-then-p-ne-ACCEPTED c = refused_builds _ _ _ _ _ c.plan-p.ensures c.if-p-ne-ACCEPTED.true

pub slice_bounds-write-end : goal.slice_bounds-write-end
slice_bounds-write-end c = omega (arith, (room_of _ _ _ _ _ _ (rooms _ _ _ _ _ _ c.plan-p.ensures c.if-p-ne-ACCEPTED.false _ refl).tree).parents, c.read-read.auto.parents)

pub slice_bounds-write-end-2 : goal.slice_bounds-write-end-2
slice_bounds-write-end-2 c = sym (length-take-le _ _ (omega (arith, (room_of _ _ _ _ _ _ (rooms _ _ _ _ _ _ c.plan-p.ensures c.if-p-ne-ACCEPTED.false _ refl).tree).parents, c.read-read.auto.parents)))

pub slice_bounds-write-end-3 : goal.slice_bounds-write-end-3
slice_bounds-write-end-3 c = (rooms _ _ _ _ _ _ c.plan-p.ensures c.if-p-ne-ACCEPTED.false _ refl).ends

pub slice_bounds-write-end-4 : goal.slice_bounds-write-end-4
slice_bounds-write-end-4 c = sym (length-take-le _ _ (rooms _ _ _ _ _ _ c.plan-p.ensures c.if-p-ne-ACCEPTED.false _ refl).ends)

pub slice_bounds-write-end-5 : goal.slice_bounds-write-end-5
slice_bounds-write-end-5 c = lists-fit _ _ _ _ _ _ c.plan-p.ensures c.if-p-ne-ACCEPTED.false

pub slice_bounds-write-end-6 : goal.slice_bounds-write-end-6
slice_bounds-write-end-6 c = sym (length-take-le _ _ (lists-fit _ _ _ _ _ _ c.plan-p.ensures c.if-p-ne-ACCEPTED.false))

pub overflow_mul-k : goal.overflow_mul-k
overflow_mul-k c = omega (arith, small_product _ _ (few_words_lem _ _ _ _ _ _ c.plan-p.ensures c.if-p-ne-ACCEPTED.false) (few-nodes _ _ _ _ _ _ c.plan-p.ensures c.if-p-ne-ACCEPTED.false _ refl))

pub slice_bounds-write-end-7 : goal.slice_bounds-write-end-7
slice_bounds-write-end-7 c = (rooms _ _ _ _ _ _ c.plan-p.ensures c.if-p-ne-ACCEPTED.false _ refl).counts

pub slice_bounds-write-end-8 : goal.slice_bounds-write-end-8
slice_bounds-write-end-8 c = sym (length-take-le _ _ (rooms _ _ _ _ _ _ c.plan-p.ensures c.if-p-ne-ACCEPTED.false _ refl).counts)

pub write-requires : goal.write-requires
write-requires c = write_asks _ _ _ _ _ c.plan-p.ensures c.if-p-ne-ACCEPTED.false _ refl _ _ c.read-read.ensures

pub returns : goal.returns
returns c = all_builds _ _ _ _ _ c.plan-p.ensures c.if-p-ne-ACCEPTED.false _ refl _ _ c.read-read.ensures _ _ _ c.write.ensures
