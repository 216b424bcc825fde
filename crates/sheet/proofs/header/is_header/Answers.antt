-- `sheet::header::is_header` meets its contract: the text that it builds is the header.
use mathlib.Core.Path.{refl, ap, ◌∙◌}
use native.Mathlib.Omega.{arith}
use lib.Dec.{eqb}
use lib.Pointwise.{pointwise}
use Rattle.text.specs.Text.{bytes}
use Rattle.text.proofs.Laws.Adding.{added-read}
use Rattle.sheet.proofs.Heading.{pointwise_is}
use Rattle.sheet.proofs.Laws.Table.{length-header, header_built}
use Rattle.sheet.proofs.header.is_header.Goals as goal

pub returns : goal.returns
unfolding bytes
returns c =
    c.eq.ensures
    ∙ ap (pointwise eqb c.args.l.now) (c.written.ensures
    ∙ added-read _ _ _ refl (omega (arith, length-header c.args.p c.args.q)) (header_built c.args.p c.args.q _ _ _ _ c.put_all.ensures c.put_times.ensures c.put_times-2.ensures))
    ∙ pointwise_is _ _
