-- `index::counts::counts_bad` meets its contract: glue over Counting.
use Rattle.index.proofs.Counting.{marks-pre, sum-pre, grid-pre, counted, cleared}
use Rattle.index.proofs.counts.counts_bad.Goals as goal

pub mark_words-requires : goal.mark_words-requires
mark_words-requires c = marks-pre _ _ c.requires

pub sum_up-requires : goal.sum_up-requires
sum_up-requires c = sum-pre _ _ c.requires _ c.mark_words.ensures

pub grid_bad-bad-requires : goal.grid_bad-bad-requires
grid_bad-bad-requires c = grid-pre _ _ c.requires _ c.mark_words.ensures _ c.sum_up.ensures

pub returns : goal.returns
returns c = record {
  place = counted _ _ c.requires _ c.mark_words.ensures _ c.sum_up.ensures _ c.grid_bad-bad.ensures;
  work = cleared _ _ c.requires _ c.mark_words.ensures _ c.sum_up.ensures _ c.clear.ensures;
}
