-- `plan::plan` meets its contract: glue over Planning. Assumes nothing.
use Rattle.std.proofs.Common.{refl, sym, ap, ◌∙◌, arith}
use Rattle.index.specs.declared.Reply.{Reply}
use Rattle.reader.proofs.Reading.{counted}
use Rattle.query.proofs.Kept.{query-kept}
use Rattle.plan.proofs.Planning.{size-plans, judge-plans, no_rows, no_table, no_lists, all-plans}
use Rattle.plan.proofs.plan.Goals.{in_default-via-in-Some+else-total-lent, in_default-via-in_default}
use Rattle.plan.proofs.plan.Goals as goal

pub returns-then-not-is_query : goal.returns-then-not-is_query
returns-then-not-is_query c = size-plans _ _ _ _ (sym c.if-not-is_query.ensures)

pub returns-then-r-ne-ACCEPTED : goal.returns-then-r-ne-ACCEPTED
returns-then-r-ne-ACCEPTED c = judge-plans _ _ _ _ (sym c.if-not-is_query.ensures) _ (c.from-r.ensures ∙ c.judge.ensures) c.if-r-ne-ACCEPTED.true

pub has_room-requires : goal.has_room-requires
has_room-requires c = record { few = (counted _ _ (c.from-r.ensures ∙ c.judge.ensures) c.if-r-ne-ACCEPTED.false).few; words = (query-kept _ (sym c.if-not-is_query.ensures)).few }

pub returns-then-not-has_room : goal.returns-then-not-has_room
returns-then-not-has_room c = no_rows _ _ _ _ (sym c.if-not-is_query.ensures) _ (c.from-r.ensures ∙ c.judge.ensures) c.if-r-ne-ACCEPTED.false _ refl _ refl _ _ c.no_room.ensures (sym c.if-not-has_room.ensures)

pub gather-requires : goal.gather-requires
gather-requires c = record { ok = sym c.if-not-is_query.ensures; kept = sym (ap (λ (r : Reply). r.refusal) (c.from-r.ensures ∙ c.judge.ensures)) ∙ c.if-r-ne-ACCEPTED.false }

pub returns-in-Some : goal.returns-in-Some
returns-in-Some c =
    let made = c.in-Some.ensures.reply in
    all-plans _ _ _ _ (sym c.if-not-is_query.ensures) _ (c.from-r.ensures ∙ c.judge.ensures) c.if-r-ne-ACCEPTED.false _ refl (sym c.if-not-has_room.ensures) _ made.0 _ made.1 c.if-total-lent.true

pub returns-in_default : goal.returns-in_default
returns-in_default c =
    elim c.in_default.branch [
      | in_default-via-in-Some+else-total-lent w ↦ no_lists _ _ _ _ (sym c.if-not-is_query.ensures) _ (c.from-r.ensures ∙ c.judge.ensures) c.if-r-ne-ACCEPTED.false _ refl _ c.gather.ensures.long _ _ c.no_room-in_default.ensures (omega (arith, w.if-total-lent.false, w.in-Some.ensures.reply.1))
      | in_default-via-in_default w ↦ no_table _ _ _ _ (sym c.if-not-is_query.ensures) _ (c.from-r.ensures ∙ c.judge.ensures) c.if-r-ne-ACCEPTED.false _ refl _ c.gather.ensures.long _ _ c.no_room-in_default.ensures w.in_default.ensures.reply
    ]
