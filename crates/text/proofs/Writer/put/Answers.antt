-- `text::Writer::put` meets its contract.
use mathlib.Core.Path.{refl}
use Rattle.text.proofs.Laws.Buffers.{adds-push, adds-full}
use Rattle.text.proofs.Writer.put.Goals as goal

pub returns-then-self : goal.returns-then-self
returns-then-self g c = record { same = refl; adds = adds-push _ _ _ c.if-self.true }

pub returns-else-self : goal.returns-else-self
returns-else-self g c = record { same = refl; adds = adds-full _ _ _ c.if-self.false }
