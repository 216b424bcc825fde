-- `depot::size_ok` meets its contract: each test that fails is a part of the plain statement that does not hold. Assumes nothing.
use mathlib.Core.Path.{sym}
use mathlib.Core.Logic.{⊎_elim}
use native.Mathlib.Omega.{arith}
use Rattle.depot.proofs.Laws.Checks.{sized-words, sized_no, sized-last}
use Rattle.depot.proofs.size_ok.Goals as goal
use Rattle.depot.proofs.size_ok.Goals.{then-p-eq0-via-then-p-eq0, then-p-eq0-via-else-p-eq0+then-p-gt8, then-p-eq0-via-else-p-eq0+else-p-gt8+then-depot-ne0}
use Rattle.depot.proofs.size_ok.Goals.{then-depot-n-via-then-depot-n, then-depot-n-via-else-depot-n+then-depot-p}

pub returns-then-n-eq0 : goal.returns-then-n-eq0
returns-then-n-eq0 c =
    sym (sized_no _ _ (λ s. ⊎_elim (λ q. omega (arith, q, s.some_nodes)) (λ q. omega (arith, q.1, s.few_nodes)) c.then-n-eq0.either))

pub returns-then-p-eq0 : goal.returns-then-p-eq0
returns-then-p-eq0 c =
    sym (sized_no _ _ (λ s. elim c.then-p-eq0.branch [
      | then-p-eq0-via-then-p-eq0 w ↦ omega (arith, w.if-p-eq0.true, s.some_positive)
      | then-p-eq0-via-else-p-eq0+then-p-gt8 w ↦ omega (arith, w.if-p-gt8.true, s.few_positive)
      | then-p-eq0-via-else-p-eq0+else-p-gt8+then-depot-ne0 w ↦ w.if-depot-ne0.true s.no_negative
    ]))

pub returns-then-depot-n : goal.returns-then-depot-n
returns-then-depot-n c =
    sym (sized_no _ _ (λ s. elim c.then-depot-n.branch [
      | then-depot-n-via-then-depot-n w ↦ w.if-depot-n.true s.tagged
      | then-depot-n-via-else-depot-n+then-depot-p w ↦ w.if-depot-p.true (sized-words _ _ s)
    ]))

pub returns : goal.returns
returns c =
    sized-last _ _
    (λ r. record {
      some_nodes = omega (arith, c.if-n-eq0.false);
      few_nodes = c.if-n-gt65536.false;
      some_positive = omega (arith, c.if-p-eq0.false);
      few_positive = c.if-p-gt8.false;
      no_negative = c.if-depot-ne0.false;
      tagged = c.if-depot-n.false;
      ended = omega (arith, c.if-depot-p.false, c.if-depot-ne0.false);
      stacked = r;
    })
