-- `reader::build::Builder::turn` meets its contract: glue over Calls, for each kind of piece. Assumes nothing.
use mathlib.Core.Path.{◌∙◌}
use Rattle.reader.proofs.Calls.{turn_data_lem, turn-comment, turn-tag}
use Rattle.reader.proofs.build.Builder.turn.Goals as goal

pub returns-in-Data-clause-stored : goal.returns-in-Data-clause-stored
returns-in-Data-clause-stored c = c.data.ensures.stored ∙ turn_data_lem _ _ _ c.in-Data.is

pub returns-in-Comment-clause-stored : goal.returns-in-Comment-clause-stored
returns-in-Comment-clause-stored c = turn-comment _ _ _ c.in-Comment.is

pub returns-in_default : goal.returns-in_default
returns-in_default c =
    record { stored = c.tag.ensures.stored ∙ turn-tag _ _ _ c.in_default.not-Data c.in_default.not-Comment; same = c.tag.ensures.same }
