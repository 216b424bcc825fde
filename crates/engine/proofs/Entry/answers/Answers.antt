-- `engine::Entry::answers` meets its contract. Assumes nothing.
use mathlib.Core.Path.{◌∙◌}
use Rattle.engine.proofs.Values.{answers-smallest, answers-not-full, answers-own}
use Rattle.engine.proofs.Entry.answers.Goals as goal

pub returns-then-full : goal.returns-then-full
returns-then-full c = answers-smallest _ _ _ _ c.if-smallest.true c.requires.known c.if-full.true

pub returns-else-full : goal.returns-else-full
returns-else-full c = c.if-full.false ∙ answers-not-full _ _ _ _ c.if-smallest.true c.requires.known c.if-full.false

pub returns-else-smallest : goal.returns-else-smallest
returns-else-smallest c = answers-own _ c.args.full _ _ _ c.if-smallest.false c.each_some.ensures
