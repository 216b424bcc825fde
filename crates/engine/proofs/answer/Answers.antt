-- `engine::answer` meets its contract: glue over Searching. Assumes nothing.
use mathlib.Core.Path.{refl}
use Rattle.std.proofs.lemmas.Result.{err_from_is_err_and}
use Rattle.index.proofs.Laws.Replies.{refusal-refuses}
use Rattle.engine.proofs.Searching.{list-pre, answering-refused, answering-listed}
use Rattle.engine.proofs.answer.Goals as goal

pub returns-in_err-check : goal.returns-in_err-check
returns-in_err-check c =
    let p = err_from_is_err_and c.from_residual.result c.from_residual.ensures.1 in
    rw (p.1, p.2) (answering-refused _ _ _ _ _ _ _ _ _ _ _ c.in_err-check.ensures (refusal-refuses _))

pub list-requires : goal.list-requires
list-requires c = list-pre _ _ _ _ _ _ c.args.smallest _ c.args.out.now c.args.own.now _ c.in_ok-check.ensures refl

pub returns : goal.returns
returns c = answering-listed _ _ _ _ _ _ _ _ _ _ _ c.in_ok-check.ensures refl _ _ _ _ c.list.ensures
