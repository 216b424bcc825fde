-- `mentions::over_markup` meets its contract. Assumes nothing.
use Rattle.mentions.proofs.Steps.{counted, passed-comment, passed-close, passed_open}
use Rattle.mentions.proofs.over_markup.Goals as goal

pub returns-in-Comment : goal.returns-in-Comment
returns-in-Comment c = passed-comment _ _ _ c.requires c.skim_at-p.ensures c.in-Comment.is

pub returns-in-Close : goal.returns-in-Close
returns-in-Close c = passed-close _ _ _ c.requires c.skim_at-p.ensures c.in-Close.is _ (counted c.args.s.solid c.args.s.node _ c.from.ensures)

pub returns-in_default : goal.returns-in_default
returns-in_default c =
    passed_open _ _ _ c.requires c.skim_at-p.ensures c.in_default.not-Comment c.in_default.not-Close _ (counted c.args.s.solid c.args.s.node _ c.from.ensures)
