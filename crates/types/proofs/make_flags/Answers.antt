-- `types::make_flags` meets its contract: the steps of Making.
use Rattle.types.proofs.Making.{make_tags-pre, make_number-pre, make_spread-pre, make_rows}
use Rattle.types.proofs.make_flags.Goals as goal

pub sort_tags-by_tag-requires : goal.sort_tags-by_tag-requires
sort_tags-by_tag-requires c =
    make_tags-pre _ _ _ c.requires _ _ c.list_elements-m.ensures

pub number-requires : goal.number-requires
number-requires c =
    make_number-pre _ _ _ c.requires _ _ c.list_elements-m.ensures _ _ c.pass_levels-at.ensures _ c.clear.ensures

pub spread-requires : goal.spread-requires
spread-requires c =
    make_spread-pre _ _ _ c.requires _ _ c.list_elements-m.ensures _ _ c.pass_levels-at.ensures _ c.clear.ensures _ c.number.ensures

pub returns : goal.returns
returns c =
    make_rows _ _ _ c.requires _ _ c.list_elements-m.ensures _ _ c.pass_levels-at.ensures _ c.clear.ensures _ c.number.ensures _ c.spread.ensures _ c.clear-2.ensures
