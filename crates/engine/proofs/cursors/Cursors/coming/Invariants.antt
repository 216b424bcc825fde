-- `engine::cursors::Cursors::coming` meets its contract. Before word j is reached, the row is filled for the words before it. Assumes nothing.
use Rattle.seq.proofs.Laws.Loops.{Filling}
use Rattle.engine.specs.Inner.Cursors.{coming}
use Rattle.engine.proofs.cursors.Cursors.coming.Given as goal

abbrev pub invariant-loop-j : goal.invariant-loop-j
invariant-loop-j l = Filling (coming l.self l.reach) l.initial.came l.came l.j
