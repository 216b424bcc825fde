-- The C interface promises what the reader and the builder promise: its contracts are theirs. Assumes nothing.
use mathlib.Core.Path.{◌≡◌, refl}
use seplogic.Ra.Ura.{Ura}
use base.Logic.{SProp}
use prog.Memory.{Memory}
use prog.Routine.{Routine}
use types.Logic.{Logic}
use contract.Monad.{Fun}
use Rattle.reader.specs.contracts.read as read'
use Rattle.build.specs.contracts.build as build'
use Rattle.sonquilate.specs.contracts.sq_read as sq-read
use Rattle.sonquilate.specs.contracts.sq_build as sq-build

module _ {M : Type 1} {𝓤 : Ura M} (𝓛 : Logic 𝓤) (mem : Memory → SProp 𝓤) (run : Routine → Fun 𝓤) where
  pub sq_read-same : sq-read.clauses 𝓛 mem run ≡ read'.clauses 𝓛 mem run
  sq_read-same = refl

  pub sq_build-same : sq-build.clauses 𝓛 mem run ≡ build'.clauses 𝓛 mem run
  sq_build-same = refl
