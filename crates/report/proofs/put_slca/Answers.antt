-- `report::put_slca` meets its contract: what the search leaves in out is what its lines list.
use mathlib.Core.Path.{◌∙◌}
use Rattle.text.specs.Text.{bytes}
use Rattle.text.proofs.Laws.Adding.{added_same}
use Rattle.report.proofs.Laws.Searches.{slca-text}
use Rattle.report.proofs.put_slca.Goals as goal

pub returns : goal.returns
unfolding bytes
returns c = added_same _ _ _ _ c.put_answer.ensures (slca-text _ _ _ (c.from-reply.ensures ∙ c.slca.ensures.reply) c.slca.ensures.out)
