-- `judge::turns::take_turn` meets its contract: glue over Taking.
use mathlib.Core.Path.{sym, refl, ◌∙◌}
use Rattle.judge.proofs.Taking.{pass-pre, data_pre, tag-pre, close-pre, name-after, ended-told, stopped_told, run-told, ending_told, emptied-told, deepest_told, opened-told, passed-told}
use Rattle.judge.proofs.turns.take_turn.Goals as goal
use Rattle.judge.proofs.turns.take_turn.Goals.{then-s-lt64, else-s-lt64}

pub returns-then-is_closed : goal.returns-then-is_closed
returns-then-is_closed c = ended-told _ _ _ _ _ c.requires _ c.in-End.is (sym c.is_closed.ensures ∙ c.if-is_closed.true) refl

pub returns-else-is_closed : goal.returns-else-is_closed
returns-else-is_closed c = stopped_told _ _ _ _ _ c.requires _ c.in-End.is (sym c.is_closed.ensures ∙ c.if-is_closed.false) c.broken.ensures

pub data_turn-requires : goal.data_turn-requires
data_turn-requires c = data_pre _ _ _ _ _ c.requires

pub returns-in-Data : goal.returns-in-Data
returns-in-Data c = run-told _ _ _ _ _ c.requires _ c.in-Data.is c.data_turn.ensures

pub close_turn-requires : goal.close_turn-requires
close_turn-requires c = close-pre _ _ _ _ _ c.requires c.in-Close.is

pub returns-in-Close : goal.returns-in-Close
returns-in-Close c = ending_told _ _ _ _ _ c.requires _ c.in-Close.is c.close_turn.ensures

pub tag_turn-requires : goal.tag_turn-requires
tag_turn-requires c = tag-pre _ _ _ _ _ c.requires

pub returns-in-Empty : goal.returns-in-Empty
returns-in-Empty c = emptied-told _ _ _ _ _ c.requires _ c.in-Empty.is c.tag_turn.ensures

pub overflow_sub-names : goal.overflow_sub-names
overflow_sub-names c = name-after _ _ _ _ _ c.requires c.in-Start.is

pub tag_turn-requires-in-Start : goal.tag_turn-requires-in-Start
tag_turn-requires-in-Start c = tag-pre _ _ _ _ _ c.requires

pub returns-after-s-lt64 : goal.returns-after-s-lt64
returns-after-s-lt64 c =
    elim c.if-s-lt64.branch [
      | then-s-lt64 w ↦ rw w.names-is (opened-told _ _ _ _ _ c.requires _ c.in-Start.is w.if-s-lt64.true c.tag_turn-in-Start.ensures)
      | else-s-lt64 w ↦ rw w.names-is (deepest_told _ _ _ _ _ c.requires _ c.in-Start.is w.if-s-lt64.false c.tag_turn-in-Start.ensures)
    ]

pub pass-requires : goal.pass-requires
pass-requires c = pass-pre _ _ _ _ _ c.requires

pub returns-in-Comment : goal.returns-in-Comment
returns-in-Comment c = passed-told _ _ _ _ _ c.requires _ c.in-Comment.is c.pass.ensures
