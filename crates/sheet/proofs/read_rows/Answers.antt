-- `sheet::read_rows` meets its contract: glue over Lining.
use Rattle.sheet.proofs.Lining.{rows_start, rows-full, rows-to, rows-bad, rows_step, rows_end}
use Rattle.sheet.proofs.read_rows.Goals as goal
use Rattle.sheet.proofs.read_rows.Goals.{then-v-eq256-via-then-v-eq256, then-v-eq256-via-else-v-eq256+then-not-read_row}

pub loop-from-init : goal.loop-from-init
loop-from-init c = rows_start _ _ _ _ c.requires

pub slice_bounds-read_row-end : goal.slice_bounds-read_row-end
slice_bounds-read_row-end c = rows-to _ _ _ _ _ _ _ c.loop-from.invariant c.loop-from-test.true _ c.line_end-to.ensures

pub returns-then-v-eq256 : goal.returns-then-v-eq256
returns-then-v-eq256 c = elim c.then-v-eq256.branch [
  | then-v-eq256-via-then-v-eq256 w ↦ rw w.cells-is (rows-full _ _ _ _ _ _ _ c.loop-from.invariant c.loop-from-test.true w.if-v-eq256.true)
  | then-v-eq256-via-else-v-eq256+then-not-read_row w ↦ rw w.cells-is
      (rows-bad _ _ _ _ _ _ _ c.loop-from.invariant c.loop-from-test.true _ c.line_end-to.ensures _ _ w.read_row.ensures w.if-v-eq256.false w.if-not-read_row.true)
]

pub loop-from-preserved : goal.loop-from-preserved
loop-from-preserved c =
    rw c.min-from.ensures
    (rows_step _ _ _ _ _ _ _ c.loop-from.invariant c.loop-from-test.true _ c.line_end-to.ensures _ _ c.read_row.ensures c.if-v-eq256.false c.if-not-read_row.false)

pub returns : goal.returns
returns c = rows_end _ _ _ _ _ _ _ c.loop-from.invariant c.loop-from-test.false
