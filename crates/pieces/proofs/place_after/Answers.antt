-- `pieces::place_after` meets its contract.
use Rattle.pieces.proofs.Laws.{place-whole, place-broken}
use Rattle.pieces.proofs.place_after.Goals as goal

pub returns-then-piece : goal.returns-then-piece
returns-then-piece c = place-whole _ _ c.if-piece.true

pub returns-else-piece : goal.returns-else-piece
returns-else-piece c = place-broken _ _ c.if-piece.false
