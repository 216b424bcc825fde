-- `reader::fill` meets its contract.
use Rattle.reader.proofs.Reading.{build_asks, filled}
use mathlib.Core.Path.{◌∙◌}
use Rattle.reader.proofs.fill.Goals as goal

pub build-requires : goal.build-requires
build-requires c = build_asks _ _ c.requires

pub returns : goal.returns
returns c = filled _ _ c.requires _ c.build.ensures (c.build.auto.marks ∙ c.requires.tags) (c.build.auto.firsts ∙ c.requires.firsts) _ _ _ c.number.ensures
