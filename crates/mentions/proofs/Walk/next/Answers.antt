-- `mentions::Walk::next` meets its contract: glue over Walking. Assumes nothing.
use Rattle.std.proofs.Common.{refl, arith}
use Rattle.mentions.proofs.Walking.{none_left, nexts, end_after}
use Rattle.mentions.proofs.Walk.next.Goals as goal

pub returns-in_err-r : goal.returns-in_err-r
returns-in_err-r c = rw c.from_residual.ensures (none_left _ _ c.in_err-r.ensures.is, refl)

pub invariant_of-self : goal.invariant_of-self
invariant_of-self c = record { few = omega (arith, c.args.self.now.few, c.in_ok-r.ensures.few, end_after _ _ _ c.hash_word-word.ensures) }

pub returns : goal.returns
returns c = nexts _ _ _ c.in_ok-r.ensures.is _ c.hash_word-word.ensures
