-- `index::sizes::size_ok` meets its contract: each test that fails is a part of the plain statement that does not hold.
use mathlib.Core.Path.{sym}
use mathlib.Core.Logic.{⊎_elim}
use Rattle.index.proofs.Laws.Sizes.{sized_no, sized-last}
use native.Mathlib.Omega.{arith}
use Rattle.index.proofs.sizes.size_ok.Goals as goal
use Rattle.index.proofs.sizes.size_ok.Goals.{then-p-eq0-via-then-p-eq0, then-p-eq0-via-else-p-eq0+then-p-gt8, then-p-eq0-via-else-p-eq0+else-p-gt8+then-p-q}
use Rattle.index.proofs.sizes.size_ok.Goals.{then-lent-n-via-then-lent-n, then-lent-n-via-else-lent-n+then-lent-k, then-lent-n-via-else-lent-n+else-lent-k+then-lent-k-2}

pub returns-then-n-eq0 : goal.returns-then-n-eq0
returns-then-n-eq0 c =
    sym (sized_no _ _ _ (λ s. ⊎_elim (λ q. omega (arith, q, s.some_nodes)) (λ q. omega (arith, q.1, s.few_nodes)) c.then-n-eq0.either))

pub returns-then-p-eq0 : goal.returns-then-p-eq0
returns-then-p-eq0 c =
    sym (sized_no _ _ _ (λ s. elim c.then-p-eq0.branch [
      | then-p-eq0-via-then-p-eq0 w ↦ omega (arith, w.if-p-eq0.true, s.some_positive)
      | then-p-eq0-via-else-p-eq0+then-p-gt8 w ↦ omega (arith, w.if-p-gt8.true, s.few_positive)
      | then-p-eq0-via-else-p-eq0+else-p-gt8+then-p-q w ↦ omega (arith, w.if-p-q.true, s.few_words)
    ]))

pub returns-then-lent-n : goal.returns-then-lent-n
returns-then-lent-n c =
    sym (sized_no _ _ _ (λ s. elim c.then-lent-n.branch [
      | then-lent-n-via-then-lent-n w ↦ w.if-lent-n.true s.tagged
      | then-lent-n-via-else-lent-n+then-lent-k w ↦ w.if-lent-k.true s.ended
      | then-lent-n-via-else-lent-n+else-lent-k+then-lent-k-2 w ↦ w.if-lent-k-2.true s.counted
    ]))

pub returns : goal.returns
returns c =
    sized-last _ _ _
    (λ r. record {
      some_nodes = omega (arith, c.if-n-eq0.false);
      few_nodes = c.if-n-gt65536.false;
      some_positive = omega (arith, c.if-p-eq0.false);
      few_positive = c.if-p-gt8.false;
      few_words = omega (arith, c.if-p-gt8.false, c.if-p-q.false);
      few_negative = omega (arith, c.if-p-gt8.false, c.if-p-q.false);
      tagged = c.if-lent-n.false;
      ended = c.if-lent-k.false;
      counted = c.if-lent-k-2.false;
      roomy = r;
    })
