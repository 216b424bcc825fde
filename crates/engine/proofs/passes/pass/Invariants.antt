-- `engine::passes::pass` meets its contract: glue over Running, which says what the loop knows. Assumes nothing.
use Rattle.engine.specs.Inner.Steps.{now}
use Rattle.engine.specs.Inner.Going.{measure, opened}
use Rattle.engine.specs.Inner.Passes.{job, world}
use Rattle.engine.proofs.Running.{Turning}
use Rattle.engine.proofs.Passing.{begun}
use Rattle.engine.proofs.passes.pass.Given as goal

abbrev pub invariant-loop-n : goal.invariant-loop-n
invariant-loop-n l =
    Turning (job l.parents l.ends l.occurrences) (begun l.initial.stack l.initial.out l.initial.own l.smallest l.fn.tally l.reach l.initial.cursors)
    (world l.stack l.cursors l.out l.own (now l.n.state)) l.n.top

abbrev pub decreases-loop-n : goal.decreases-loop-n
decreases-loop-n l = measure (job l.parents l.ends l.occurrences) (opened (world l.stack l.cursors l.out l.own (now l.n.state)) l.n.top)
