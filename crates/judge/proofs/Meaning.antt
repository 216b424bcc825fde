-- What the judge's reply means, by the grammar alone (`profile`, specs/Grammar, Markup, Tree and Limits).
--   accepted_means, markup_means, tree_means   a reply that is given is true of the text
--   accepted-given, markup-given, tree-given   and where it would be true it is given
--   size_means, size-given                     the same of SIZE; no_room: the judge knows no ROOM
--   judge_unique                               no second reply fits the contract
-- Letters: T text, n nodes, i a place, v a node, ns the nodes of a text. Assumes nothing.
use Prim.Native.Nat.{ℕ, ◌≤◌, ◌<◌}
use mathlib.Core.Path.{◌≡◌, refl, sym, ap, subst, ◌∙◌}
use mathlib.Core.List.{List}
use mathlib.Core.Bool.{Bool, true, false, cond}
use lib.Dec.{ltb}
use lib.ListN.{length}
use borrow.Author.Tests.{eqb-false, ltb-true, ltb-false, lt-ltb, le-ltb}
use Rattle.index.specs.Replies.{accepted, SIZE, TREE, ROOM, refused, totalled}
use Rattle.index.specs.declared.Reply.{Reply}
use Rattle.profile.specs.Limits.{Outcome, markup_at, tree_at, Broken, Overrun, Means}
use Rattle.profile.specs.Limits as limits
use Rattle.profile.specs.Scan.{outcome}
use Rattle.profile.specs.Check.{whole, broken, over, brief, reply_to}
use Rattle.profile.specs.Check as check
use Rattle.profile.proofs.Limits.{outcome_means}
use Rattle.profile.proofs.Outcome.{outcome_unique}
use Rattle.profile.proofs.Check.{reply-brief}
use Rattle.judge.specs.Meaning.{Kept, BrokenAt, OverAt}
use Rattle.judge.specs.Judge.{MARKUP, longest, max_level, max_nodes, in_numbers, judge_reply}

-- ---- the reply by the outcome
abbrev told : Outcome → Reply
told o = in_numbers (brief o)

judged : (T : List ℕ) → length T ≤ longest → judge_reply T ≡ told (outcome max_level max_nodes T)
unfolding judge_reply
judged T l = rw (le-ltb longest (length T) l) (ap in_numbers (reply-brief max_level max_nodes T))

-- Only SIZE is given to a text that is too long.
fits : (T : List ℕ) (r : Reply) → judge_reply T ≡ r → (r.refusal ≡ SIZE → ⊥) → length T ≤ longest
unfolding judge_reply
fits T r e f = by_test (ltb longest (length T)) refl e
  where
    by_test : (b : Bool) → ltb longest (length T) ≡ b → cond b (refused SIZE 0) (in_numbers (reply_to max_level max_nodes T)) ≡ r → length T ≤ longest
    by_test true q g = absurd (f (sym (ap (λ (r : Reply). r.refusal) g)))
    by_test false q g = ltb-false longest (length T) q

-- ---- SIZE, and what the judge never replies
pub size-given : (T : List ℕ) → longest < length T → judge_reply T ≡ refused SIZE 0
unfolding judge_reply
size-given T l = rw (lt-ltb longest (length T) l)

in_numbers_lem : (P : Reply → Type 0) → P (refused SIZE 0) → ((n : ℕ) → P (totalled accepted n)) → ((i : ℕ) → P (refused MARKUP i)) → ((v : ℕ) → P (refused TREE v)) →
    (T : List ℕ) → P (judge_reply T)
unfolding judge_reply
in_numbers_lem P s a b c T = by_test (ltb longest (length T)) (reply_to max_level max_nodes T)
  where
    by_test : (x : Bool) (q : check.Reply) → P (cond x (refused SIZE 0) (in_numbers q))
    by_test true q = s
    by_test false (whole n) = a n
    by_test false (broken i) = b i
    by_test false (over v) = c v

pub size_means : (T : List ℕ) → judge_reply T ≡ refused SIZE 0 → longest < length T
unfolding judge_reply
size_means T e = by_test (ltb longest (length T)) refl (reply_to max_level max_nodes T) (ap (λ (r : Reply). r.refusal) e)
  where
    by_test : (x : Bool) → ltb longest (length T) ≡ x → (q : check.Reply) → (cond x (refused SIZE 0) (in_numbers q)).refusal ≡ SIZE → longest < length T
    by_test true f q g = ltb-true longest (length T) f
    by_test false f (whole n) g = absurd (eqb-false 0 1 refl g)
    by_test false f (broken i) g = absurd (eqb-false 7 1 refl g)
    by_test false f (over v) g = absurd (eqb-false 2 1 refl g)

pub no_room_lem : (T : List ℕ) → (judge_reply T).refusal ≡ ROOM → ⊥
no_room_lem = in_numbers_lem (λ r. r.refusal ≡ ROOM → ⊥) (eqb-false 1 5 refl) (λ n. eqb-false 0 5 refl) (λ i. eqb-false 7 5 refl) (λ v. eqb-false 2 5 refl)

-- An acceptance has the place 0.
pub accepted-total : (T : List ℕ) (n : ℕ) → (judge_reply T).refusal ≡ accepted → (judge_reply T).total ≡ n → judge_reply T ≡ totalled accepted n
accepted-total T n =
    in_numbers_lem (λ r. r.refusal ≡ accepted → r.total ≡ n → r ≡ totalled accepted n)
    (λ e. absurd (eqb-false 1 0 refl e)) (λ k e t. ap (totalled accepted) t) (λ i e. absurd (eqb-false 7 0 refl e)) (λ v e. absurd (eqb-false 2 0 refl e)) T

-- ---- acceptance
accepted-of : (T : List ℕ) (n : ℕ) → length T ≤ longest → (o : Outcome) → Means max_level max_nodes T o → told o ≡ totalled accepted n → Kept T n
accepted-of T n l (limits.accepted ns) m e = record { short = l; nodes = ns; kept = m; total = sym (ap (λ (r : Reply). r.total) e) }
accepted-of T n l (markup_at i) m e = absurd (eqb-false 7 0 refl (ap (λ (r : Reply). r.refusal) e))
accepted-of T n l (tree_at v) m e = absurd (eqb-false 2 0 refl (ap (λ (r : Reply). r.refusal) e))

pub accepted_means : (T : List ℕ) (n : ℕ) → judge_reply T ≡ totalled accepted n → Kept T n
accepted_means T n e =
    let l = fits T (totalled accepted n) e (eqb-false 0 1 refl) in
    accepted-of T n l (outcome max_level max_nodes T) (outcome_means max_level max_nodes T) (sym (judged T l) ∙ e)

pub accepted-given : (T : List ℕ) (n : ℕ) → Kept T n → judge_reply T ≡ totalled accepted n
accepted-given T n k =
    judged T k.short ∙ ap told (sym (outcome_unique max_level max_nodes T (limits.accepted k.nodes) k.kept)) ∙ ap (totalled accepted) (sym k.total)

-- ---- MARKUP
markup-of : (T : List ℕ) (i : ℕ) → length T ≤ longest → (o : Outcome) → Means max_level max_nodes T o → told o ≡ refused MARKUP i → BrokenAt T i
markup-of T i l (limits.accepted ns) m e = absurd (eqb-false 0 7 refl (ap (λ (r : Reply). r.refusal) e))
markup-of T i l (markup_at j) m e = record { short = l; breaks = subst (Broken max_level max_nodes T) (ap (λ (r : Reply). r.place) e) m }
markup-of T i l (tree_at v) m e = absurd (eqb-false 2 7 refl (ap (λ (r : Reply). r.refusal) e))

pub markup_means : (T : List ℕ) (i : ℕ) → judge_reply T ≡ refused MARKUP i → BrokenAt T i
markup_means T i e =
    let l = fits T (refused MARKUP i) e (eqb-false 7 1 refl) in
    markup-of T i l (outcome max_level max_nodes T) (outcome_means max_level max_nodes T) (sym (judged T l) ∙ e)

pub markup-given : (T : List ℕ) (i : ℕ) → BrokenAt T i → judge_reply T ≡ refused MARKUP i
markup-given T i k = judged T k.short ∙ ap told (sym (outcome_unique max_level max_nodes T (markup_at i) k.breaks))

-- ---- TREE
tree_of : (T : List ℕ) (v : ℕ) → length T ≤ longest → (o : Outcome) → Means max_level max_nodes T o → told o ≡ refused TREE v → OverAt T v
tree_of T v l (limits.accepted ns) m e = absurd (eqb-false 0 2 refl (ap (λ (r : Reply). r.refusal) e))
tree_of T v l (markup_at j) m e = absurd (eqb-false 7 2 refl (ap (λ (r : Reply). r.refusal) e))
tree_of T v l (tree_at u) m e = record { short = l; over = subst (Overrun max_level max_nodes T) (ap (λ (r : Reply). r.place) e) m }

pub tree_means : (T : List ℕ) (v : ℕ) → judge_reply T ≡ refused TREE v → OverAt T v
tree_means T v e =
    let l = fits T (refused TREE v) e (eqb-false 2 1 refl) in
    tree_of T v l (outcome max_level max_nodes T) (outcome_means max_level max_nodes T) (sym (judged T l) ∙ e)

pub tree-given : (T : List ℕ) (v : ℕ) → OverAt T v → judge_reply T ≡ refused TREE v
tree-given T v k = judged T k.short ∙ ap told (sym (outcome_unique max_level max_nodes T (tree_at v) k.over))

-- ---- the contract
pub judge_unique : (T : List ℕ) (r r' : Reply) → r ≡ judge_reply T → r' ≡ judge_reply T → r ≡ r'
judge_unique T r r' a b = a ∙ sym b
