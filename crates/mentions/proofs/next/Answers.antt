-- `mentions::next` meets its contract. Assumes nothing.
use mathlib.Core.Bool.{not, ◌||◌}
use Rattle.std.proofs.Common.{sym, ap, ◌∙◌, arith}
use Rattle.words.specs.Runs.{folded}
use Rattle.inplace.proofs.Letters.{folded-some, folded-none}
use Rattle.mentions.proofs.Steps.{going_start, few-there, next-none, next-some, pass-pre, next-on, next-less}
use Rattle.mentions.proofs.next.Goals as goal

pub loop-x-init : goal.loop-x-init
loop-x-init c = going_start _ _ _ _

pub returns-in_err-x : goal.returns-in_err-x
returns-in_err-x c = rw c.from_residual.ensures (record { is = next-none _ _ _ _ _ _ c.loop-x.invariant c.reach-r.ensures c.in_err-x.ensures.lookup.3; few = tt })

pub returns-then-r : goal.returns-then-r
returns-then-r c =
    let here = c.in_ok-x.ensures.lookup in
    let letter = folded-some _ (λ z. c.if-fold-ne0.true (c.fold.ensures ∙ ap folded (here.4 (omega arith) 0) ∙ z)) in
    let solid = c.if-r.true in
    record {
      is = next-some _ _ _ _ _ _ c.loop-x.invariant c.reach-r.ensures here.3.0 letter _ (solid ∙ sym (ap (λ b. b || not c.reach-r.result.tag) solid));
      few = few-there _ _ _ _ _ _ c.loop-x.invariant c.reach-r.ensures;
    }

pub returns-else-r : goal.returns-else-r
returns-else-r c =
    let here = c.in_ok-x.ensures.lookup in
    let letter = folded-some _ (λ z. c.if-fold-ne0.true (c.fold.ensures ∙ ap folded (here.4 (omega arith) 0) ∙ z)) in
    record {
      is = next-some _ _ _ _ _ _ c.loop-x.invariant c.reach-r.ensures here.3.0 letter _ (sym (ap (λ b. b || not c.reach-r.result.tag) c.if-r.false));
      few = few-there _ _ _ _ _ _ c.loop-x.invariant c.reach-r.ensures;
    }

pub over-s-requires : goal.over-s-requires
over-s-requires c =
    let here = c.in_ok-x.ensures.lookup in
    pass-pre _ _ _ _ _ _ c.loop-x.invariant c.reach-r.ensures here.3.0 (folded-none _ (ap folded (sym (here.4 (omega arith) 0)) ∙ sym c.fold.ensures ∙ c.if-fold-ne0.false))

pub loop-x-smaller : goal.loop-x-smaller
loop-x-smaller c = next-less _ _ _ _ _ _ c.loop-x.invariant c.reach-r.ensures c.in_ok-x.ensures.lookup.3.0 _ c.over-s.ensures

pub loop-x-preserved : goal.loop-x-preserved
loop-x-preserved c = next-on _ _ _ _ _ _ c.loop-x.invariant c.reach-r.ensures c.in_ok-x.ensures.lookup.3.0 _ c.over-s.ensures
