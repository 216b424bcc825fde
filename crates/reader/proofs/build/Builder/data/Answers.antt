-- `reader::build::Builder::data` meets its contract: the cases of Calls. Assumes nothing.
use mathlib.Core.Path.{◌∙◌}
use Rattle.reader.specs.Inner.{store_of}
use Rattle.reader.proofs.Calls.{data_outside, data_inside, longer-new, longer-old}
use Rattle.reader.proofs.build.Builder.data.Goals as goal
use Rattle.reader.proofs.build.Builder.data.Goals.{in-None, in-Some+then-held, in-Some+else-held}

pub returns-then-self-eq0-clause-stored : goal.returns-then-self-eq0-clause-stored
returns-then-self-eq0-clause-stored c = data_outside _ _ (store_of c.args.self.now) c.if-self-eq0.true

pub returns-clause-stored : goal.returns-clause-stored
returns-clause-stored c =
    let b = c.args.self.now in
    data_inside _ _ (store_of b) c.if-self-eq0.false c.match-self.self
    (elim c.match-self.branch [
      | in-None w ↦ w.self-is ∙ longer-new _ c.args.p b.held w.in-None.is
      | in-Some+then-held w ↦ w.self-is ∙ longer-old _ c.args.p b.held _ w.in-Some.is _ (rw w.if-held.true)
      | in-Some+else-held w ↦ w.self-is ∙ longer-old _ c.args.p b.held _ w.in-Some.is _ (rw w.if-held.false)
    ])
