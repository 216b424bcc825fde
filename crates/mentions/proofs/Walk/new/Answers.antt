-- `mentions::Walk::new` meets its contract. Assumes nothing.
use Rattle.std.proofs.Common.{refl}
use Rattle.words.specs.Scan.{mentions_in}
use Rattle.mentions.proofs.Walk.new.Goals as goal

pub returns : goal.returns
unfolding mentions_in
returns c = λ T. refl
