-- `reader::try_read` meets its contract.
use Rattle.reader.proofs.Reading.{room_of, fill_asks, refused-reads, room-reads, accepted-reads}
use Rattle.std.proofs.lemmas.Result.{err_from_is_err_and}
use Rattle.index.proofs.Laws.Replies.{refusal-refuses}
use lib.Seq.{length-take-le}
use mathlib.Core.Path.{refl, sym, ◌∙◌}
use Rattle.reader.proofs.try_read.Goals as goal

pub returns-in_err-total : goal.returns-in_err-total
returns-in_err-total c =
    let p = err_from_is_err_and c.from_residual.result c.from_residual.ensures.1 in
    rw (p.1, p.2) (refused-reads _ _ _ c.in_err-total.ensures (refusal-refuses _))

pub returns-then-not-has_room : goal.returns-then-not-has_room
returns-then-not-has_room c = room-reads _ _ _ _ c.in_ok-total.ensures refl refl (sym c.has_room.ensures ∙ c.if-not-has_room.true)

pub fill-requires : goal.fill-requires
fill-requires c = let k = room_of _ _ _ _ _ _ (sym c.has_room.ensures ∙ c.if-not-has_room.false) in fill_asks _ _ _ _ c.in_ok-total.ensures refl refl (length-take-le _ _ k.parents) (length-take-le _ _ k.tags) (length-take-le _ _ k.firsts) (length-take-le _ _ k.lasts) k.work

pub returns : goal.returns
returns c = accepted-reads _ _ _ _ c.in_ok-total.ensures refl refl (sym c.has_room.ensures ∙ c.if-not-has_room.false) _ c.fill.ensures
