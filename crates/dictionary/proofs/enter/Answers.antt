-- `dictionary::enter` meets its contract: each exit is one law. Assumes nothing.
use Rattle.dictionary.proofs.Laws.{enter-last, enter-full, enter-held, enter-free}
use Rattle.dictionary.proofs.enter.Goals as goal

pub returns-then-at-ge-PLACES : goal.returns-then-at-ge-PLACES
returns-then-at-ge-PLACES c = enter-last _ _ _ _ c.if-at-ge-PLACES.true

pub returns-in_default : goal.returns-in_default
returns-in_default c = enter-full _ _ _ _ c.if-at-ge-PLACES.false c.in_default.ensures

pub returns-then-slots-s-eq0 : goal.returns-then-slots-s-eq0
returns-then-slots-s-eq0 c = enter-free _ _ _ _ c.if-at-ge-PLACES.false _ c.in-Some.ensures c.if-slots-s-eq0.true

pub returns-else-slots-s-eq0 : goal.returns-else-slots-s-eq0
returns-else-slots-s-eq0 c = enter-held _ _ _ _ c.if-at-ge-PLACES.false _ c.in-Some.ensures c.if-slots-s-eq0.false
