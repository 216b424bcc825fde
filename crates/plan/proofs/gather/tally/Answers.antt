-- `plan::gather::tally` meets its contract: glue over Gathering. Assumes nothing.
use Rattle.std.proofs.Common.{refl, arith}
use Rattle.query.proofs.Kept.{query-kept}
use Rattle.plan.proofs.Gathering.{tallying_start, last_fits, tallying-seen, tallying-other, tallying-hit, tallying-not, tallying_end}
use Rattle.plan.proofs.gather.tally.Goals.{then-ne+then-is_asked, else-ne, else-ne-via-then-ne+else-is_asked, else-ne-via-else-ne}
use Rattle.plan.proofs.gather.tally.Goals as goal

pub loop-j-init : goal.loop-j-init
loop-j-init c = tallying_start _ _ _ _ c.requires.long

pub offset_bounds-lasts-j : goal.offset_bounds-lasts-j
offset_bounds-lasts-j c = omega (arith, c.loop-j-test.true, (query-kept _ c.requires.ok).few)

pub bounds-lasts-j : goal.bounds-lasts-j
bounds-lasts-j c = last_fits _ _ _ _ _ _ _ (query-kept _ c.requires.ok) c.loop-j.invariant c.loop-j-test.true

pub bounds-hashes-j : goal.bounds-hashes-j
bounds-hashes-j c = omega (arith, c.loop-j-test.true, (query-kept _ c.requires.ok).few, c.requires.hashes.long)

pub offset_bounds-lasts-j-then-is_asked : goal.offset_bounds-lasts-j-then-is_asked
offset_bounds-lasts-j-then-is_asked c = omega (arith, c.loop-j-test.true, (query-kept _ c.requires.ok).few)

pub bounds-lasts-j-then-is_asked : goal.bounds-lasts-j-then-is_asked
bounds-lasts-j-then-is_asked c = last_fits _ _ _ _ _ _ _ (query-kept _ c.requires.ok) c.loop-j.invariant c.loop-j-test.true

pub bounds-hashes-j-then-ne : goal.bounds-hashes-j-then-ne
bounds-hashes-j-then-ne c = omega (arith, c.loop-j-test.true, (query-kept _ c.requires.ok).few, c.requires.hashes.long)

pub loop-j-preserved-then-hash-hashes : goal.loop-j-preserved-then-hash-hashes
loop-j-preserved-then-hash-hashes c = tallying-other _ _ _ _ _ _ _ (query-kept _ c.requires.ok) c.loop-j.invariant c.loop-j-test.true _ c.requires.own (c.requires.hashes.each _ c.loop-j-test.true) c.if-hash-hashes.true

pub loop-j-preserved : goal.loop-j-preserved
loop-j-preserved c =
    elim c.if-ne.branch [
      | then-ne+then-is_asked w ↦ rw (w.lasts-is, w.count-is) (tallying-hit _ _ _ _ _ _ _ (query-kept _ c.requires.ok) c.loop-j.invariant c.loop-j-test.true _ w.if-ne.ensures refl _ c.requires.own (c.requires.hashes.each _ c.loop-j-test.true) _ w.word.ensures _ w.is_asked.ensures w.if-is_asked.true)
      | else-ne w ↦ rw (w.lasts-is, w.count-is) (elim w.else-ne.branch [
        | else-ne-via-then-ne+else-is_asked v ↦ tallying-not _ _ _ _ _ _ _ (query-kept _ c.requires.ok) c.loop-j.invariant c.loop-j-test.true _ v.if-ne.ensures refl _ c.requires.own (c.requires.hashes.each _ c.loop-j-test.true) _ v.word.ensures _ v.is_asked.ensures v.if-is_asked.false
        | else-ne-via-else-ne v ↦ tallying-seen _ _ _ _ _ _ _ (query-kept _ c.requires.ok) c.loop-j.invariant c.loop-j-test.true _ v.if-ne.ensures refl
      ])
    ]

pub returns : goal.returns
returns c = tallying_end _ _ _ _ _ _ _ c.loop-j.invariant c.loop-j-test.false
