-- Each export promises what the function of `sonquilate` that has its name promises: their clauses are the same. Assumes nothing.
use mathlib.Core.Path.{◌≡◌, refl}
use seplogic.Ra.Ura.{Ura}
use base.Logic.{SProp}
use prog.Memory.{Memory}
use prog.Routine.{Routine}
use types.Logic.{Logic}
use contract.Monad.{Fun}
use Rattle.sonquilate.specs.contracts.sq_check as check'
use Rattle.sonquilate_c.specs.contracts.sq_check as check-c
use Rattle.sonquilate.specs.contracts.sq_elca as elca'
use Rattle.sonquilate_c.specs.contracts.sq_elca as elca-c
use Rattle.sonquilate.specs.contracts.sq_slca as slca'
use Rattle.sonquilate_c.specs.contracts.sq_slca as slca-c
use Rattle.sonquilate.specs.contracts.sq_valid as valid'
use Rattle.sonquilate_c.specs.contracts.sq_valid as valid-c
use Rattle.sonquilate.specs.contracts.sq_merge_elca as merge_elca'
use Rattle.sonquilate_c.specs.contracts.sq_merge_elca as merge_elca-c
use Rattle.sonquilate.specs.contracts.sq_merge_slca as merge_slca'
use Rattle.sonquilate_c.specs.contracts.sq_merge_slca as merge_slca-c
use Rattle.sonquilate.specs.contracts.sq_reason as reason'
use Rattle.sonquilate_c.specs.contracts.sq_reason as reason-c
use Rattle.sonquilate.specs.contracts.sq_read as read'
use Rattle.sonquilate_c.specs.contracts.sq_read as read-c
use Rattle.sonquilate.specs.contracts.sq_build as build'
use Rattle.sonquilate_c.specs.contracts.sq_build as build-c

module _ {M : Type 1} {𝓤 : Ura M} (𝓛 : Logic 𝓤) (mem : Memory → SProp 𝓤) (run : Routine → Fun 𝓤) where
  pub export-check : check-c.clauses 𝓛 mem run ≡ check'.clauses 𝓛 mem run
  export-check = refl

  pub export-elca : elca-c.clauses 𝓛 mem run ≡ elca'.clauses 𝓛 mem run
  export-elca = refl

  pub export-slca : slca-c.clauses 𝓛 mem run ≡ slca'.clauses 𝓛 mem run
  export-slca = refl

  pub export-valid : valid-c.clauses 𝓛 mem run ≡ valid'.clauses 𝓛 mem run
  export-valid = refl

  pub export-merge_elca : merge_elca-c.clauses 𝓛 mem run ≡ merge_elca'.clauses 𝓛 mem run
  export-merge_elca = refl

  pub export-merge_slca : merge_slca-c.clauses 𝓛 mem run ≡ merge_slca'.clauses 𝓛 mem run
  export-merge_slca = refl

  pub export-reason : reason-c.clauses 𝓛 mem run ≡ reason'.clauses 𝓛 mem run
  export-reason = refl

  pub export-read : read-c.clauses 𝓛 mem run ≡ read'.clauses 𝓛 mem run
  export-read = refl

  pub export-build : build-c.clauses 𝓛 mem run ≡ build'.clauses 𝓛 mem run
  export-build = refl
