-- `build::write` meets its contract: glue over Whole. Assumes nothing.
use Rattle.build.proofs.Whole.{write-flags, write-lists, write-sums, written}
use Rattle.build.proofs.write.Goals as goal

pub flag_all-requires : goal.flag_all-requires
flag_all-requires c = write-flags _ _ _ _ _ _ c.requires

pub write_lists-requires : goal.write_lists-requires
write_lists-requires c = write-lists _ _ _ _ _ _ c.requires _ c.flag_all.ensures

pub sum_rows-requires : goal.sum_rows-requires
sum_rows-requires c = write-sums _ _ _ _ _ _ c.requires _ c.flag_all.ensures

pub returns : goal.returns
returns c = written _ _ _ _ _ _ c.requires _ c.flag_all.ensures _ _ _ c.write_lists.ensures c.sum_rows.ensures
