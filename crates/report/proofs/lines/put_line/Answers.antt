-- `report::lines::put_line` meets its contract: one addition after the other.
use mathlib.Core.Path.{refl}
use Rattle.text.specs.Text.{bytes}
use Rattle.text.specs.Buffers.{Added}
use Rattle.report.specs.Lines.{line_text}
use Rattle.report.specs.Inner.{node_text}
use Rattle.text.proofs.Laws.Adding.{added-start, added-step}
use Rattle.report.proofs.lines.put_line.Goals as goal
use Rattle.report.proofs.lines.put_line.Goals.{in-Some, in_default}

pub returns : goal.returns
unfolding line_text bytes
returns c =
    let node : Added (node_text c.args.node) c.put_reply.new.out c.match-node.out = elim c.match-node.branch [
      | in-Some w ↦ rw (w.out-is, w.in-Some.is) w.put_number.ensures
      | in_default w ↦ rw (w.out-is, w.in_default.is) (added-start _)
    ] in
    added-step _ _ _ _ _ _ c.put_reply.ensures (added-step _ _ _ _ _ _ node c.put_all.ensures refl) refl
