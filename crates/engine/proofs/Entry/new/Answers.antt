-- `engine::Entry::new` meets its contract. Assumes nothing.
use mathlib.Core.Path.{refl}
use Rattle.engine.specs.Inner.Entries.{fresh}
use Rattle.engine.proofs.Entry.new.Goals as goal

pub returns : goal.returns
unfolding fresh
returns c = refl
