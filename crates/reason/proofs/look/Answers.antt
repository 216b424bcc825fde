-- `reason::look` meets its contract: glue over Looking.
use mathlib.Core.Path.{◌≡◌}
use mathlib.Core.Bool.{true}
use lib.ListN.{length}
use Rattle.index.specs.Index.{word_list}
use Rattle.answers.specs.Answers.{full}
use Rattle.reason.proofs.Looking.{look-missing, none-missing, find-pre, span_in, looked}
use Rattle.reason.proofs.look.Goals as goal
use Rattle.reason.proofs.look.Goals.{After-flag_own-end}

-- Every word occurs under the node.
is_full : (c : After-flag_own-end) → full c.args.lent.parents.now (length c.args.lent.ends.now) (word_list c.args.lent.ends.now c.args.lent.occurrences.now) c.args.v ≡ true
is_full c = none-missing _ _ _ _ _ _ c.requires _ c.first_missing.ensures c.in_default.is

pub returns-in-Some : goal.returns-in-Some
returns-in-Some c = look-missing _ _ _ _ _ _ c.requires _ c.first_missing.ensures _ c.in-Some.is

pub find-found-requires : goal.find-found-requires
find-found-requires c = find-pre _ _ _ _ _ _ c.requires (is_full (goal.at.find-found-requires c).After-flag_own-end) _ _ c.flag_own-end.ensures

pub slice_bounds-clear-count : goal.slice_bounds-clear-count
slice_bounds-clear-count c = (span_in _ _ _ _ _ _ c.requires (is_full (goal.at.slice_bounds-clear-count c).After-flag_own-end) _ _ c.flag_own-end.ensures).0

pub slice_bounds-clear-start : goal.slice_bounds-clear-start
slice_bounds-clear-start c = (span_in _ _ _ _ _ _ c.requires (is_full (goal.at.slice_bounds-clear-start c).After-flag_own-end) _ _ c.flag_own-end.ensures).0

pub slice_bounds-clear-end : goal.slice_bounds-clear-end
slice_bounds-clear-end c = (span_in _ _ _ _ _ _ c.requires (is_full (goal.at.slice_bounds-clear-end c).After-flag_own-end) _ _ c.flag_own-end.ensures).1

pub returns : goal.returns
returns c =
    looked _ _ _ _ _ _ c.requires (is_full (goal.at.returns c).After-flag_own-end) _ _ c.flag_own-end.ensures _ c.clear.ensures _ c.find-found.ensures
