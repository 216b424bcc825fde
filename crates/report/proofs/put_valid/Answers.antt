-- `report::put_valid` meets its contract: what the search leaves in out is what its lines list.
use mathlib.Core.Path.{◌∙◌}
use Rattle.text.specs.Text.{bytes}
use Rattle.text.proofs.Laws.Adding.{added_same}
use Rattle.report.proofs.Laws.Searches.{valid-text}
use Rattle.report.proofs.put_valid.Goals as goal

pub returns : goal.returns
unfolding bytes
returns c = added_same _ _ _ _ c.put_answer.ensures (valid-text _ _ _ (c.from-reply.ensures ∙ c.valid.ensures.reply) c.valid.ensures.out)
