-- `engine::search` meets its contract: glue over Searching. Assumes nothing.
use Prim.Native.Nat.{ℕ}
use mathlib.Core.Path.{◌≡◌, ap}
use native.Mathlib.Omega.{arith}
use Rattle.std.proofs.Common.{rules}
use Rattle.std.specs.Prelude.{Result, Ok, Err}
use Rattle.index.specs.declared.replies.Refusal.{Refusal}
use Rattle.index.specs.declared.replies.Refusal.TheVariants.{Size}
use Rattle.index.specs.Replies.{SIZE, reply_of}
use Rattle.index.proofs.Laws.Replies.{refusal-size}
use Rattle.engine.proofs.Searching.{wide-of, searched-zeroed, searched-size}
use Rattle.engine.proofs.search.Goals as goal
use Rattle.engine.proofs.search.Goals.{Then-ne}

-- An answer that is not the refusal of SIZE replies something else.
other : (x : Result ℕ Refusal) → (x ≡ Err Size → ⊥) → (reply_of x).refusal ≡ SIZE → ⊥
other (Ok m) ne q = omega (arith, q)
other (Err e) ne q = ne (ap Err (refusal-size e q))

-- The stack is zeroed under such an answer.
not_size : (c : Then-ne) → (reply_of c.answer-answer.result).refusal ≡ SIZE → ⊥
not_size c = let x : c.answer-answer.result ≡ Err Size → ⊥ = search rules in other c.answer-answer.result x

pub clear-requires : goal.clear-requires
clear-requires c = wide-of _ _ _ _ _ _ _ _ _ _ _ _ _ _ c.answer-answer.ensures (not_size (goal.at.clear-requires c).Then-ne)

pub returns-then-ne : goal.returns-then-ne
returns-then-ne c = searched-zeroed _ _ _ _ _ _ _ _ _ _ _ _ _ _ c.answer-answer.ensures (not_size (goal.at.returns-then-ne c).Then-ne) _ c.clear.ensures

pub returns-else-ne : goal.returns-else-ne
returns-else-ne c =
    let x : c.answer-answer.result ≡ Err Size = search rules in
    searched-size _ _ _ _ _ _ _ _ _ _ _ _ _ _ c.answer-answer.ensures (ap (λ (z : Result ℕ Refusal). (reply_of z).refusal) x)
