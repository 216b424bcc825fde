-- `markup::comment_end` meets its contract: glue over Pieces.
use Rattle.std.proofs.lemmas.Result.{err_from_is_err_and}
use Rattle.markup.proofs.Pieces.{comment-short, comment-is}
use Rattle.markup.proofs.comment_end.Goals as goal

pub returns-in_err-body : goal.returns-in_err-body
returns-in_err-body c =
    let p = err_from_is_err_and c.from_residual.result c.from_residual.ensures.1 in rw (p.1, p.2) (comment-short c.args.text.now c.args.at _ c.in_err-body.ensures)

pub returns : goal.returns
returns c = comment-is _ _ _ c.in_ok-body.ensures _ c.body_end.ensures
