-- `listing::list_flagged` meets its contract.
use Rattle.listing.proofs.Laws.{listed-size, listed-few, write-pre, listed-room, listed-all}
use native.Mathlib.Omega.{arith}
use Rattle.listing.proofs.list_flagged.Goals as goal

pub returns-then-flags-gt65536 : goal.returns-then-flags-gt65536
returns-then-flags-gt65536 c = listed-size _ _ c.if-flags-gt65536.true

pub overflow_cast-result : goal.overflow_cast-result
overflow_cast-result c = omega (arith, listed-few c.args.flags.now c.args.out.now c.if-flags-gt65536.false _ c.count_flagged-m.ensures)

pub returns-then-out-m : goal.returns-then-out-m
returns-then-out-m c = listed-room _ _ c.if-flags-gt65536.false _ c.count_flagged-m.ensures c.if-out-m.true

pub write_flagged-requires : goal.write_flagged-requires
write_flagged-requires c = write-pre _ _ c.if-flags-gt65536.false _ c.count_flagged-m.ensures c.if-out-m.false

pub overflow_cast-result-2 : goal.overflow_cast-result-2
overflow_cast-result-2 c =
    omega (arith, listed-few c.args.flags.now c.args.out.now c.if-flags-gt65536.false _ c.count_flagged-m.ensures)

pub returns : goal.returns
returns c =
    listed-all _ _ c.if-flags-gt65536.false _ c.count_flagged-m.ensures c.if-out-m.false _ c.write_flagged.ensures
