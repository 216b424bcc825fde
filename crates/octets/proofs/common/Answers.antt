-- `octets::common` meets its contract: glue over Running.
use mathlib.Core.Path.{sym}
use native.Mathlib.Omega.{arith}
use Rattle.std.proofs.lemmas.List.{take_rest}
use Rattle.profile.proofs.Laws.Spans.{common-none}
use Rattle.octets.proofs.Running.{match_start, match_step, match_stop, match_end}
use Rattle.octets.proofs.common.Goals as goal

pub returns-then-text-at : goal.returns-then-text-at
returns-then-text-at c = sym (common-none c.args.word.now c.args.text.now c.args.at (omega (arith, c.if-text-at.true)))

pub loop-i-init : goal.loop-i-init
loop-i-init c = match_start _ _

pub returns-then-rest-i : goal.returns-then-rest-i
returns-then-rest-i c = rw take_rest at (match_stop _ _ _ c.loop-i.invariant (omega (arith, c.min-n.ensures, c.loop-i-test.true)) (omega (arith, c.min-n.ensures, c.loop-i-test.true)) c.if-rest-i.true)

pub loop-i-preserved : goal.loop-i-preserved
loop-i-preserved c = match_step _ _ _ c.loop-i.invariant (omega (arith, c.min-n.ensures, c.loop-i-test.true)) (omega (arith, c.min-n.ensures, c.loop-i-test.true)) c.if-rest-i.false

pub returns : goal.returns
returns c = rw take_rest at (match_end _ _ _ c.loop-i.invariant _ c.min-n.ensures c.loop-i.auto.i-end c.loop-i-test.false)
