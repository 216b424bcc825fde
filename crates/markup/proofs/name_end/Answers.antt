-- `markup::name_end` meets its contract.
use Rattle.markup.proofs.Tags.{name-none, name-low, name-is}
use Rattle.markup.proofs.name_end.Goals as goal
use Rattle.markup.proofs.name_end.Goals.{then-text-at-via-then-text-at, then-text-at-via-else-text-at+then-text-at-lt58}

pub returns-then-text-at : goal.returns-then-text-at
returns-then-text-at c =
    elim c.then-text-at.branch [
      | then-text-at-via-then-text-at w ↦ name-none _ _ w.if-text-at.true
      | then-text-at-via-else-text-at+then-text-at-lt58 w ↦ name-low _ _ w.if-text-at.false w.if-text-at-lt58.true
    ]

pub returns : goal.returns
returns c = name-is _ _ c.if-text-at.false c.if-text-at-lt58.false _ c.skip.ensures
