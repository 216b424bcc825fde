-- The C interface promises what the searches without counts promise: its contracts are theirs. Assumes nothing.
use mathlib.Core.Path.{◌≡◌, refl}
use seplogic.Ra.Ura.{Ura}
use base.Logic.{SProp}
use prog.Memory.{Memory}
use prog.Routine.{Routine}
use types.Logic.{Logic}
use contract.Monad.{Fun}
use Rattle.merge.specs.contracts.elca as elca'
use Rattle.merge.specs.contracts.slca as slca'
use Rattle.sonquilate.specs.contracts.sq_merge_elca as sq-elca
use Rattle.sonquilate.specs.contracts.sq_merge_slca as sq-slca

module _ {M : Type 1} {𝓤 : Ura M} (𝓛 : Logic 𝓤) (mem : Memory → SProp 𝓤) (run : Routine → Fun 𝓤) where
  pub sq_merge_elca-same : sq-elca.clauses 𝓛 mem run ≡ elca'.clauses 𝓛 mem run
  sq_merge_elca-same = refl

  pub sq_merge_slca-same : sq-slca.clauses 𝓛 mem run ≡ slca'.clauses 𝓛 mem run
  sq_merge_slca-same = refl
