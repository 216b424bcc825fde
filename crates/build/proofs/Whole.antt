-- The parts of `build` put together.
--   row_list, flag-lists      the nodes that are flagged are the lists
--   count-row                 the sums of flags are the counts
--   write-flags, write-lists, write-sums, written   what `write` needs and leaves
-- Letters: T text, Q query, n nodes, k words, c flags or counts, p parents. Assumes nothing.
use Prim.Native.Nat.{ℕ, zero, suc, ◌+◌, ◌*◌, ◌/◌, ◌%◌, ◌≤◌, ◌<◌}
use mathlib.Core.Path.{◌≡◌, refl, sym, ap, ap₂, subst, ◌∙◌}
use mathlib.Core.List.{List, [], ◌∷◌, ◌++◌}
use mathlib.Core.Bool.{Bool, true, false, cond}
use native.Mathlib.Nat.{div-lt_iff_lt-mul, mod-lt, div-add-mod'}
use native.Mathlib.Omega.{arith}
use lib.Dec.{eqb}
use lib.ListN.{length, get_or, drop, length-map, length-drop}
use lib.Seq.{get_or-take, get_or-drop, ext_get_or, length-take-le}
use Rattle.seq.specs.Below.{sum_below, tabulate, gather, listed}
use Rattle.seq.specs.Lists.{tally}
use Rattle.seq.proofs.Laws.Numbers.{row_le, product_some}
use Rattle.seq.proofs.Laws.Sums.{sum_ext}
use Rattle.seq.proofs.Laws.Lists.{tally-sum}
use Rattle.seq.proofs.Laws.Gather.{length-tabulate, get_d_tabulate, tabulate_ext, gather_ext}
use Rattle.seq.proofs.Laws.Members.{listed_below, listed-tally}
use Rattle.tree.specs.Tree.{under, sum_under}
use Rattle.tree.specs.Plain.{Down}
use Rattle.tree.proofs.Laws.Rules.{lawful-of}
use Rattle.tree.proofs.Laws.Under.{preorder-down}
use Rattle.index.specs.Index.{count_under}
use Rattle.index.specs.Replies.{accepted}
use Rattle.listing.specs.Listing.{flagged, flagged_rows}
use Rattle.profile.specs.Reader.{tree_of}
use Rattle.judge.specs.Judge.{judge_reply}
use Rattle.judge.proofs.Meaning.{accepted-total}
use Rattle.reader.specs.Read.{parents_of, tags_in}
use Rattle.reader_laws.proofs.Reading.{read-lawful}
use Rattle.words.specs.Stands.{stands}
use Rattle.query.specs.Query.{Query, asked, word_count}
use Rattle.plan.specs.Lists.{list_for, lists_to}
use Rattle.build.specs.Build.{ends_for, counts_for}
use Rattle.build.specs.Inner.{row_of, flag_lists, FlagAllPre, FlagsAll, ListsPre, ListsWritten, SumRowsPre, SumsRows, WritePre, Written}
use Rattle.query.specs.Plain.{IsQuery}
use Rattle.query.proofs.Kept.{query-kept}
use Rattle.plan.proofs.Texts.{TextKept, text-kept}

-- ---- a text that is accepted
pub parents-long : (T : List ℕ) → length (parents_of (tree_of T)) ≡ length (tree_of T)
parents-long T = length-map (tree_of T) (λ a. a.parent)

pub parents-down : (T : List ℕ) → (judge_reply T).refusal ≡ accepted → Down (parents_of (tree_of T)) (length (parents_of (tree_of T)))
parents-down T e =
    preorder-down (parents_of (tree_of T)) (length (parents_of (tree_of T)))
    (lawful-of (parents_of (tree_of T)) (tags_in (tree_of T)) (omega (arith, read-lawful T (judge_reply T).total (accepted-total T (judge_reply T).total e refl), (text-kept T e).total, parents-long T))).preorder

-- ---- flags
eqb-flag : (b : Bool) → eqb (cond b 1 0) 1 ≡ b
eqb-flag true = refl
eqb-flag false = refl

module _ (T : List ℕ) (Q : Query) (n : ℕ) (c : List ℕ) (same : n ≡ length (tree_of T)) (f : FlagsAll T Q n c) where
  row-long : (j : ℕ) → j < word_count Q → length (row_of c n j) ≡ n
  row-long j l = length-take-le n (drop (j * n) c) (omega (arith, length-drop (j * n) c, f.long, row_le j (word_count Q) n l))

  row-entry : (j v : ℕ) → v < n → get_or (row_of c n j) v 0 ≡ get_or c (j * n + v) 0
  row-entry j v l = get_or-take n (drop (j * n) c) v 0 l ∙ get_or-drop (j * n) c v 0

  row_list : (j : ℕ) → j < word_count Q → flagged_rows (row_of c n j) ≡ list_for T Q j
  unfolding flagged_rows flagged list_for listed
  row_list j l =
      ap (λ (z : ℕ). gather z (λ v. eqb (get_or (row_of c n j) v 0) 1) (λ v. v ∷ [])) (row-long j l) ∙
      gather_ext n (λ v. eqb (get_or (row_of c n j) v 0) 1) (stands T (asked Q j)) (λ v. v ∷ []) (λ v. v ∷ [])
      (λ v h. ap (λ (z : ℕ). eqb z 1) (row-entry j v h ∙ f.each j v l h) ∙ eqb-flag (stands T (asked Q j) v)) (λ v h. refl) ∙
      ap (λ (z : ℕ). gather z (stands T (asked Q j)) (λ v. v ∷ [])) same

  pub flag-lists : (k : ℕ) → k ≤ word_count Q → flag_lists c n k ≡ lists_to T Q k
  unfolding flag_lists lists_to
  flag-lists zero h = refl
  flag-lists (suc k) h = ap₂ ◌++◌ (flag-lists k (omega arith)) (row_list k (omega arith))

  -- Sums of flags are counts.
  count-row : (p : List ℕ) → length p ≡ n → (j v : ℕ) → j < word_count Q → sum_under p (λ u. get_or c (j * n + u) 0) v ≡ count_under p (list_for T Q j) v
  unfolding sum_under count_under
  count-row p e j v l =
      ap (λ (z : ℕ). sum_below z (λ u. cond (under p v u) (get_or c (j * n + u) 0) 0)) e ∙
      sum_ext n (λ u. cond (under p v u) (get_or c (j * n + u) 0) 0) (λ u. cond (under p v u) (tally (eqb u) (listed n (stands T (asked Q j)))) 0)
      (λ u h. ap (λ (z : ℕ). cond (under p v u) z 0) (f.each j u l h ∙ sym (listed-tally n (stands T (asked Q j)) u h))) ∙
      tally-sum (under p v) n (listed n (stands T (asked Q j))) (listed_below n (stands T (asked Q j))) ∙ ap (tally (under p v)) list-is
    where
      list-is : listed n (stands T (asked Q j)) ≡ list_for T Q j
      list-is = unfold list_for in ap (λ (z : ℕ). listed z (stands T (asked Q j))) same

-- ---- write
module _ (T : List ℕ) (Q : Query) (p e o c : List ℕ) (pre : WritePre T Q p e o c) where
  nodes-is : length p ≡ length (tree_of T)
  nodes-is = ap length pre.parents ∙ parents-long T

  q : IsQuery Q
  q = query-kept Q pre.ok

  t : TextKept T
  t = text-kept T pre.kept

  pub write-flags : FlagAllPre T Q (length p) c
  write-flags = record { ok = pre.ok; kept = pre.kept; nodes = nodes-is; long = pre.counts ∙ ap (λ (z : ℕ). word_count Q * z) (sym nodes-is) }

  module _ (c₁ : List ℕ) (f : FlagsAll T Q (length p) c₁) where
    pub write-lists : ListsPre c₁ (length p) e o
    write-lists =
        record {
          few = omega (arith, t.few, nodes-is);
          words = omega (arith, pre.ends, q.few);
          long = f.long ∙ ap (λ (z : ℕ). z * length p) (sym pre.ends);
          room = pre.lists ∙ ap length (sym (flag-lists T Q (length p) c₁ nodes-is f (word_count Q) (omega arith)) ∙ ap (flag_lists c₁ (length p)) (sym pre.ends));
        }

    pub write-sums : SumRowsPre p (word_count Q) c₁
    write-sums =
        record {
          down = subst (λ p. Down p (length p)) (sym pre.parents) (parents-down T pre.kept);
          few = omega (arith, t.few, nodes-is);
          words = q.few;
          long = f.long;
          bits = λ j v a b. subst (λ (z : ℕ). z ≤ 1) (sym (f.each j v a b)) (one (stands T (asked Q j) v));
        }
      where
        one : (b : Bool) → cond b 1 0 ≤ 1
        one true = omega arith
        one false = omega arith

    -- Entry i is that of node i % n of word i / n.
    count-entry : (c₂ : List ℕ) → SumsRows p (word_count Q) c₁ c₂ → (i : ℕ) → i < word_count Q * length (tree_of T) →
        get_or c₂ i 0 ≡ count_under (parents_of (tree_of T)) (list_for T Q (i / length (tree_of T))) (i % length (tree_of T))
    count-entry c₂ s i l =
        ap (λ (z : ℕ). get_or c₂ z 0) (sym (div-add-mod' i (length (tree_of T))) ∙ ap (λ (z : ℕ). i / length (tree_of T) * z + i % length (tree_of T)) (sym nodes-is)) ∙
        s.each (i / length (tree_of T)) (i % length (tree_of T)) word (omega (arith, mod-lt i some, nodes-is)) ∙
        count-row T Q (length p) c₁ nodes-is f p refl (i / length (tree_of T)) (i % length (tree_of T)) word ∙
        ap (λ p. count_under p (list_for T Q (i / length (tree_of T))) (i % length (tree_of T))) pre.parents
      where
        some : 0 < length (tree_of T)
        some = product_some i (word_count Q) (length (tree_of T)) l

        word : i / length (tree_of T) < word_count Q
        word = (div-lt_iff_lt-mul some).1 l

    pub written : (e' o' c₂ : List ℕ) → ListsWritten c₁ (length p) e o e' o' → SumsRows p (word_count Q) c₁ c₂ → Written T Q e' o' c₂
    unfolding ends_for counts_for
    written e' o' c₂ w s =
        record {
          ends = w.ends ∙ ap (λ (z : ℕ). tabulate z (λ j. length (flag_lists c₁ (length p) (suc j)))) pre.ends ∙
              tabulate_ext (word_count Q) (λ j. length (flag_lists c₁ (length p) (suc j))) (λ j. length (lists_to T Q (suc j))) (λ j l. ap length (flag-lists T Q (length p) c₁ nodes-is f (suc j) (omega arith)));
          lists = w.lists ∙ ap (flag_lists c₁ (length p)) pre.ends ∙ flag-lists T Q (length p) c₁ nodes-is f (word_count Q) (omega arith);
          counts = ext_get_or 0 c₂ (tabulate (word_count Q * length (tree_of T)) count) (s.long ∙ all-nodes ∙ sym (length-tabulate (word_count Q * length (tree_of T)) count))
              (λ i l. let h : i < word_count Q * length (tree_of T) = omega (arith, s.long, all-nodes) in count-entry c₂ s i h ∙ sym (get_d_tabulate (word_count Q * length (tree_of T)) count i 0 h));
        }
      where
        all-nodes : word_count Q * length p ≡ word_count Q * length (tree_of T)
        all-nodes = ap (λ (z : ℕ). word_count Q * z) nodes-is

        count : ℕ → ℕ
        count i = count_under (parents_of (tree_of T)) (list_for T Q (i / length (tree_of T))) (i % length (tree_of T))
