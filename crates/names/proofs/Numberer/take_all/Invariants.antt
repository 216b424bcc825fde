-- `names::Numberer::take_all` meets its contract: glue over Numbering.
use Rattle.names.specs.Inner.Calls.{State, SameLent, SameRows}
use Rattle.names.proofs.Numberer.take_all.Given as goal

abbrev pub invariant-loop-v : goal.invariant-loop-v
invariant-loop-v l =
    let b = l.initial.self in
    record {
      state : State b.text.now b.firsts.now b.tags.now l.initial.tree.rows.now l.v l.self.tags.now l.tree.rows.now l.self.count;
      same : SameLent b l.self;
      tree : SameRows l.initial.tree l.tree;
    }
