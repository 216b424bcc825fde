-- What a text is read into: a lawful tree, and that of every document that has this text.
--   read-lawful    the tree check finds nothing in them
--   read_no_tree   so the index check never gives TREE for them
-- Letters: T text, n its nodes; I an index, w work. Assumes nothing.
use Prim.Native.Nat.{ℕ, zero, suc, ◌*◌}
use mathlib.Core.Path.{◌≡◌, refl, sym, ap, ◌∙◌}
use mathlib.Core.List.{List, [], ◌∷◌, map}
use mathlib.Core.Bool.{Bool, true, false, cond, false≢true}
use mathlib.Core.Option.{none}
use native.Mathlib.Omega.{arith}
use lib.Dec.{ltb}
use lib.ListN.{length, length-map, get_or}
use borrow.Author.Tests.{le-ltb}
use Rattle.tree.specs.Rules.{tree_bad}
use Rattle.index.specs.Index.{Index, nodes, words}
use Rattle.index.specs.Rules.{lists_bad, counts_bad}
use Rattle.index.specs.Replies.{accepted, SIZE, TREE, LIST, COUNT, refused, totalled, size_ok, refusing, checked, check_reply}
use Rattle.profile.specs.Grammar.{Document}
use Rattle.profile.specs.Tree.{Node, tree}
use Rattle.profile.specs.Limits.{keys_of, first_over}
use Rattle.profile.specs.Reader.{tree_of}
use Rattle.profile.specs.Tags.{with, tags_after, tags_of}
use Rattle.profile.proofs.Complete.{tree-read}
use Rattle.judge.specs.Judge.{judge_reply}
use Rattle.judge.specs.Meaning.{Kept}
use Rattle.judge.proofs.Meaning.{accepted_means}
use Rattle.reader.specs.Read.{parents_of, tags_in}
use Rattle.reader.proofs.Reading.{counted, tags-count}
use Rattle.reader.specs.Inner.{mark_of}
use Rattle.reader_laws.proofs.Lawful.{marks_of, tree-lawful}

-- ---- tags
-- The tag of a name is not 0.
tags-named : (seen l : List (List ℕ)) (k : ℕ) → get_or (map mark_of l) k 0 ≡ 1 → get_or (tags_after seen l) k 0 ≡ 0 → ⊥
unfolding tags_after
tags-named seen [] k e f = no e
  where
    no : get_or {A = ℕ} [] k 0 ≡ 1 → ⊥
    no e = let z : get_or {A = ℕ} [] k 0 ≡ 0 = none k in omega (arith, e, z)
      where
        none : (k : ℕ) → get_or {A = ℕ} [] k 0 ≡ 0
        none zero = refl
        none (suc k) = refl
tags-named seen ([] ∷ l) zero e f = omega (arith, e)
tags-named seen ([] ∷ l) (suc k) e f = tags-named seen l k e f
tags-named seen ((x ∷ n) ∷ l) zero e f = omega (arith, f)
tags-named seen ((x ∷ n) ∷ l) (suc k) e f = tags-named (with seen (x ∷ n)) l k e f

tags-marked : (l : List (List ℕ)) (k : ℕ) → get_or (map mark_of l) k 0 ≡ 1 → get_or (tags_of l) k 0 ≡ 0 → ⊥
unfolding tags_of
tags-marked l k e f = tags-named [] l k e f

marks-names : (ns : List Node) → marks_of ns ≡ map mark_of (map (λ (a : Node). a.name) ns)
marks-names [] = refl
marks-names (a ∷ ns) = ap (λ l. mark_of a.name ∷ l) (marks-names ns)

-- ---- the tree
pub read-lawful : (T : List ℕ) (n : ℕ) → judge_reply T ≡ totalled accepted n → tree_bad (parents_of (tree_of T)) (tags_in (tree_of T)) ≡ n
read-lawful T n e =
    ap (λ ns. tree_bad (parents_of ns) (tags_in ns)) tree_is ∙
    tree-lawful d (tags_in (tree d)) clear (tags-count (map (λ (a : Node). a.name) (tree d)) ∙ length-map (tree d) (λ (a : Node). a.name))
    (λ k l m. tags-marked (map (λ (a : Node). a.name) (tree d)) k (sym (ap (λ z. get_or z k 0) (marks-names (tree d))) ∙ m)) ∙
    length-map (tree d) (λ (a : Node). a.parent) ∙ ap length nodes-are ∙ sym kept.total
  where
    kept : Kept T n
    kept = accepted_means T n e

    d : Document
    d = kept.kept.whole.document

    tree_is : tree_of T ≡ tree d
    tree_is = ap tree_of (sym kept.kept.whole.is) ∙ tree-read d

    nodes-are : tree d ≡ kept.nodes
    nodes-are = kept.kept.nodes d kept.kept.whole.is

    clear : first_over 64 65536 0 (keys_of (tree d)) ≡ none
    clear = ap (λ ns. first_over 64 65536 0 (keys_of ns)) nodes-are ∙ kept.kept.clear

-- ---- the index check
counted-nodes : (T : List ℕ) (n : ℕ) → judge_reply T ≡ totalled accepted n → length (tree_of T) ≡ n
counted-nodes T n e = (counted T (totalled accepted n) (sym e) refl).nodes

pub read_no_tree : (T : List ℕ) (n : ℕ) → judge_reply T ≡ totalled accepted n → (I : Index) (w : List ℕ) → I.parents ≡ parents_of (tree_of T) → I.tags ≡ tags_in (tree_of T) →
    (check_reply I w).refusal ≡ TREE → ⊥
unfolding check_reply checked refusing
read_no_tree T n e I w p t =
    by_size (size_ok 8 I (length w)) (ltb (tree_bad I.parents I.tags) (nodes I)) (ltb (lists_bad (nodes I) I.ends I.occurrences) (words I))
    (ltb (counts_bad I.parents I.ends I.occurrences I.counts) (words I * nodes I)) good
  where
    good : ltb (tree_bad I.parents I.tags) (nodes I) ≡ false
    good = le-ltb (tree_bad I.parents I.tags) (nodes I) (omega (arith, bad, size))
      where
        bad : tree_bad I.parents I.tags ≡ n
        bad = ap (λ z. tree_bad z I.tags) p ∙ ap (tree_bad (parents_of (tree_of T))) t ∙ read-lawful T n e

        size : length I.parents ≡ n
        size = ap length p ∙ length-map (tree_of T) (λ (a : Node). a.parent) ∙ counted-nodes T n e

    by_size : (a b c d : Bool) → b ≡ false →
        (cond a (cond b (refused TREE (tree_bad I.parents I.tags))
        (cond c (refused LIST (lists_bad (nodes I) I.ends I.occurrences))
        (cond d (refused COUNT (counts_bad I.parents I.ends I.occurrences I.counts)) (totalled accepted 0)))) (refused SIZE 0)).refusal ≡ TREE → ⊥
    by_size true true c d q z = false≢true (sym q)
    by_size true false true d q z = omega (arith, z)
    by_size true false false true q z = omega (arith, z)
    by_size true false false false q z = omega (arith, z)
    by_size false b c d q z = omega (arith, z)
