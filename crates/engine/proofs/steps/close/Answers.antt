-- `engine::steps::close` meets its contract: glue over Advancing. Assumes nothing.
use Rattle.engine.proofs.Advancing.{is-open, judge-pre, climb-pre, into-pre, into_new, closed-root, closed-met, closed-new}
use Rattle.engine.proofs.steps.close.Goals as goal

pub judge-tally-requires : goal.judge-tally-requires
judge-tally-requires c =
    judge-pre _ _ _ _ _ _ _ c.requires _ _ c.held-held.ensures c.each_some-full.ensures

pub returns-then-s-eq1 : goal.returns-then-s-eq1
returns-then-s-eq1 c = closed-root _ _ _ _ _ _ _ _ _ _ c.judge-tally.ensures _ c.if-s-eq1.true c.new.ensures

pub climb-q-requires : goal.climb-q-requires
climb-q-requires c = climb-pre _ _ _ _ _ _ _ c.requires c.if-s-eq1.false

pub close_into-top-requires : goal.close_into-top-requires
close_into-top-requires c = into-pre _ _ _ _ _ _ _ c.requires _ c.held-held.ensures

pub returns-then-q-b : goal.returns-then-q-b
returns-then-q-b c =
    closed-met _ _ _ _ _ _ _ _ _ _ c.judge-tally.ensures c.if-s-eq1.false (is-open _ _ _ _ _ _ _ c.requires) _ _ _ c.held-held.ensures c.each_some-full.ensures
    c.climb-q.ensures _ c.if-q-b.true c.close_into-top.ensures

pub close_into-top-requires-2 : goal.close_into-top-requires-2
close_into-top-requires-2 c =
    into_new _ _ _ _ _ _ _ c.requires _ _ _ c.held-held.ensures c.new-2.ensures

pub returns : goal.returns
returns c =
    closed-new _ _ _ _ _ _ _ _ _ _ c.judge-tally.ensures c.if-s-eq1.false (is-open _ _ _ _ _ _ _ c.requires) _ _ _ c.held-held.ensures c.each_some-full.ensures
    c.climb-q.ensures _ _ c.if-q-b.false c.new-2.ensures c.close_into-top-2.ensures
