-- What is known of a text that the judge accepts.
--   TextKept T    == it is not too long, has not too many nodes, and its mentions are of its nodes, by rising number
--   text-kept     so it is
--   list-hits     the list of a query's word is what the first pass counts of it
--   lists_length  so all lists together are as long as what it counts;  lists-small: and not too long
-- Letters: T text, Q query, j word. Assumes nothing.
use Prim.Native.Nat.{ℕ, zero, suc, ◌*◌, ◌≤◌}
use mathlib.Core.Path.{◌≡◌, refl, sym, ap, subst, ◌∙◌}
use mathlib.Core.Bool.{true}
use native.Mathlib.Omega.{arith}
use mathlib.Core.List.{List}
use lib.ListN.{length, length-append}
use Rattle.seq.specs.Below.{sum_below}
use Rattle.seq.specs.Lists.{every_of}
use Rattle.seq.proofs.Laws.Sums.{sum-zero, sum-suc}
use Rattle.seq.proofs.Laws.Gather.{listed_le}
use Rattle.index.specs.Replies.{accepted}
use Rattle.profile.specs.Grammar.{text, IsText}
use Rattle.profile.specs.Tree.{tree}
use Rattle.profile.specs.Reader.{tree_of}
use Rattle.profile.proofs.Complete.{tree-read}
use Rattle.judge.specs.Judge.{longest, judge_reply}
use Rattle.judge.proofs.Meaning.{accepted-total, accepted_means}
use Rattle.reader.proofs.Reading.{Counted, counted}
use Rattle.words.specs.Scan.{mentions_in}
use Rattle.words.specs.Stands.{stands}
use Rattle.words.proofs.Mentions.{below, rising, mentions-below, mentions-rising}
use Rattle.words.proofs.Scan.{mentions-read}
use Rattle.query.specs.Query.{Query, asked}
use Rattle.plan.specs.Lists.{list_for, lists_to}
use Rattle.plan.specs.Inner.{hits}
use Rattle.plan.proofs.Hits.{hits-listed}

pub record TextKept (T : List ℕ) : Type 0 where
  pub short : length T ≤ longest
  pub few : length (tree_of T) ≤ 65536
  pub total : (judge_reply T).total ≡ length (tree_of T)
  pub within : every_of (below (length (tree_of T))) (mentions_in T) ≡ true
  pub rises : rising 0 (mentions_in T) ≡ true

pub text-kept : (T : List ℕ) → (judge_reply T).refusal ≡ accepted → TextKept T
text-kept T e =
    record {
      short = count.short;
      few = omega (arith, count.few, count.nodes);
      total = sym count.nodes;
      within = subst (λ t. every_of (below (length (tree_of t))) (mentions_in t) ≡ true) whole.is
          (ap (λ n. every_of (below n) (mentions_in (text whole.document))) (ap length (tree-read whole.document)) ∙
          ap (every_of (below (length (tree whole.document)))) (sym (mentions-read whole.document)) ∙ mentions-below whole.document);
      rises = subst (λ t. rising 0 (mentions_in t) ≡ true) whole.is (ap (rising 0) (sym (mentions-read whole.document)) ∙ mentions-rising whole.document);
    }
  where
    count : Counted T (judge_reply T).total
    count = counted T (judge_reply T) refl e

    whole : IsText T
    whole = (accepted_means T (judge_reply T).total (accepted-total T (judge_reply T).total e refl)).kept.whole

-- ---- lists
list-hits : (T : List ℕ) → TextKept T → (Q : Query) (j : ℕ) → list_for T Q j ≡ hits T (asked Q j) 0 (mentions_in T)
unfolding list_for stands
list-hits T t Q j = sym (hits-listed T (asked Q j) (length (tree_of T)) (mentions_in T) t.rises t.within)

pub lists_length : (T : List ℕ) → TextKept T → (Q : Query) (k : ℕ) → length (lists_to T Q k) ≡ sum_below k (λ j. length (hits T (asked Q j) 0 (mentions_in T)))
unfolding lists_to
lists_length T t Q zero = sym (sum-zero _)
lists_length T t Q (suc k) =
    length-append (lists_to T Q k) (list_for T Q k) ∙
    omega (arith, lists_length T t Q k, ap length (list-hits T t Q k), sum-suc k (λ j. length (hits T (asked Q j) 0 (mentions_in T))))

pub lists-small : (T : List ℕ) → TextKept T → (Q : Query) (k : ℕ) → length (lists_to T Q k) ≤ k * 65536
unfolding lists_to
lists-small T t Q zero = omega arith
lists-small T t Q (suc k) = omega (arith, length-append (lists_to T Q k) (list_for T Q k), lists-small T t Q k, one)
  where
    one : length (list_for T Q k) ≤ 65536
    one = unfold list_for in omega (arith, listed_le (length (tree_of T)) (stands T (asked Q k)), t.few)
