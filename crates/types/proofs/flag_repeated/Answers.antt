-- `types::flag_repeated` meets its contract: the cases of Laws.
use Rattle.std.proofs.Common.{arith}
use Rattle.std.proofs.lemmas.Grind.{common_steps}
use Rattle.types.specs.Repeated.{fits_types}
use Rattle.types.proofs.Laws.{repeat_kept, repeat_empty, repeat_pre, repeat_made}
use Rattle.types.proofs.flag_repeated.Goals as goal

pub returns-then-n-gt65536 : goal.returns-then-n-gt65536
unfolding fits_types
returns-then-n-gt65536 c = repeat_kept _ _ _ (grind (arith, common_steps))

pub make_flags-requires : goal.make_flags-requires
make_flags-requires c =
    repeat_pre _ _ _ _ c.tree_bad.ensures c.if-n-gt65536.false c.if-tags-n.false c.if-rows-n.false c.if-tree_bad-n.false c.if-n-gt0.true

pub returns-then-n-gt0 : goal.returns-then-n-gt0
returns-then-n-gt0 c =
    repeat_made _ _ _ _ c.tree_bad.ensures c.if-n-gt65536.false c.if-tags-n.false c.if-rows-n.false c.if-tree_bad-n.false _ c.make_flags.ensures

pub returns-else-n-gt0 : goal.returns-else-n-gt0
returns-else-n-gt0 c =
    repeat_empty _ _ _ _ c.tree_bad.ensures c.if-n-gt65536.false c.if-tags-n.false c.if-rows-n.false c.if-tree_bad-n.false c.if-n-gt0.false
