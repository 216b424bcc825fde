-- `report::put_elca` meets its contract: what the search leaves in out is what its lines list.
use mathlib.Core.Path.{◌∙◌}
use Rattle.text.specs.Text.{bytes}
use Rattle.text.proofs.Laws.Adding.{added_same}
use Rattle.report.proofs.Laws.Searches.{elca-text}
use Rattle.report.proofs.put_elca.Goals as goal

pub returns : goal.returns
unfolding bytes
returns c = added_same _ _ _ _ c.put_answer.ensures (elca-text _ _ _ (c.from-reply.ensures ∙ c.elca.ensures.reply) c.elca.ensures.out)
