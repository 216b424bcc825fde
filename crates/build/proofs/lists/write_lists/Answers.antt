-- `build::lists::write_lists` meets its contract: glue over Written. Assumes nothing.
use Rattle.std.proofs.Common.{refl, sym, ap, arith}
use Rattle.index.specs.Replies.{reply_of}
use Rattle.build.proofs.Written.{writing_start, total-is, listed-ok, next_low, writing_step, writing-end}
use Rattle.build.proofs.lists.write_lists.Goals as goal

pub loop-j-init : goal.loop-j-init
loop-j-init c = writing_start _ _ _ _

pub unwrap-m-requires : goal.unwrap-m-requires
unwrap-m-requires c = rw (listed-ok _ _ _ _ _ _ _ _ c.requires c.loop-j.invariant (omega (arith, c.loop-j-test.true)) _ _ c.list_flagged.ensures _ refl) refl

pub overflow_cast-ends : goal.overflow_cast-ends
overflow_cast-ends c =
    let h = ap (λ r. (reply_of r).total) c.unwrap-m.ensures in
    omega (arith, h, total-is _ _ _ _ _ _ _ _ c.requires c.loop-j.invariant (omega (arith, c.loop-j-test.true)) _ _ c.list_flagged.ensures, next_low _ _ _ _ _ _ _ _ c.requires c.loop-j.invariant (omega (arith, c.loop-j-test.true)) _ _ c.list_flagged.ensures)

pub loop-j-preserved : goal.loop-j-preserved
loop-j-preserved c =
    writing_step _ _ _ _ _ _ _ _ c.requires c.loop-j.invariant (omega (arith, c.loop-j-test.true)) _ _ c.list_flagged.ensures _ _ refl
    (sym (ap (λ r. (reply_of r).total) c.unwrap-m.ensures))

pub returns : goal.returns
returns c = writing-end _ _ _ _ _ _ _ _ c.requires c.loop-j.invariant (omega (arith, c.loop-j-test.false))
