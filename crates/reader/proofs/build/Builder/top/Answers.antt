-- `reader::build::Builder::top` meets its contract: the two cases of Calls. Assumes nothing.
use Rattle.reader.proofs.Calls.{top-none, top-some}
use Rattle.reader.proofs.build.Builder.top.Goals as goal

pub returns-then-self-eq0 : goal.returns-then-self-eq0
returns-then-self-eq0 c = top-none _ _ c.if-self-eq0.true

pub returns-else-self-eq0 : goal.returns-else-self-eq0
returns-else-self-eq0 c = top-some _ _ c.if-self-eq0.false
