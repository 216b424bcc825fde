-- `build::flags::flag` meets its contract: glue over Rows. Assumes nothing.
use Rattle.std.proofs.Common.{arith}
use Rattle.query.proofs.Kept.{query-kept}
use Rattle.build.proofs.Rows.{row-flagged, row-kept, row-other}
use Rattle.build.proofs.flags.flag.Goals.{then-is_asked, else-is_asked}
use Rattle.build.proofs.flags.flag.Goals as goal

pub bounds-hashes-j : goal.bounds-hashes-j
bounds-hashes-j c = omega (arith, c.loop-j-test.true, (query-kept _ c.requires.ok).few, c.requires.hashes.long)

pub bounds-hashes-j-in-loop-j : goal.bounds-hashes-j-in-loop-j
bounds-hashes-j-in-loop-j c = omega (arith, c.loop-j-test.true, (query-kept _ c.requires.ok).few, c.requires.hashes.long)

pub loop-j-preserved-then-hash-hashes : goal.loop-j-preserved-then-hash-hashes
loop-j-preserved-then-hash-hashes c =
    row-other _ _ _ _ _ _ _ (query-kept _ c.requires.ok) c.loop-j.invariant c.loop-j-test.true c.requires.node _ c.requires.own (c.requires.hashes.each _ c.loop-j-test.true) c.if-hash-hashes.true

pub loop-j-preserved : goal.loop-j-preserved
loop-j-preserved c =
    elim c.if-is_asked.branch [
      | then-is_asked w ↦ rw w.counts-is (row-flagged _ _ _ _ _ _ _ (query-kept _ c.requires.ok) c.loop-j.invariant c.loop-j-test.true c.requires.node _ c.requires.own (c.requires.hashes.each _ c.loop-j-test.true) _ c.word.ensures _ c.is_asked.ensures w.if-is_asked.true)
      | else-is_asked w ↦ rw w.counts-is (row-kept _ _ _ _ _ _ _ (query-kept _ c.requires.ok) c.loop-j.invariant c.loop-j-test.true c.requires.node _ c.requires.own (c.requires.hashes.each _ c.loop-j-test.true) _ c.word.ensures _ c.is_asked.ensures w.if-is_asked.false)
    ]
