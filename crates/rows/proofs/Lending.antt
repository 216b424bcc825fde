-- The index that a table lends, word by word. Assumes nothing.
--   stock-start, stock-more   what a writer has written, and one addition more
--   lists_le                  how many occurrences there are at most
--   lent-start, lent-more     no word yet, and one word more
--   column-written            a column of the table
--   lent-index, answers-three what has been lent is the index, and the three searches on it give the table's answers
-- Letters: T table, n its nodes; j word, k words; P parents, S tags; e where the lists end, o the lists, c the counts, as their writers have them.
use Prim.Native.Nat.{ℕ, zero, suc, zero-le, ◌+◌, ◌*◌, ◌≤◌, ◌<◌}
use mathlib.Core.Path.{◌≡◌, refl, sym, ap, ap₂, ◌∙◌}
use mathlib.Core.List.{List, [], ◌∷◌, ◌++◌, append_assoc}
use native.Mathlib.Nat.{zero-mul, suc-mul, mul-le-mul_right}
use native.Mathlib.Numerals.{add-one}
use native.Mathlib.Omega.{arith}
use lib.Dec.{eqb}
use lib.ListN.{length, take, length-append}
use lib.Seq.{length-take-le}
use Rattle.seq.specs.Below.{tabulate}
use Rattle.seq.proofs.Laws.Gather.{tabulate-suc, listed_le, length-tabulate}
use Rattle.index.specs.Index.{Index}
use Rattle.index.specs.Promises.{lent}
use Rattle.text.specs.declared.Writer.{Writer}
use Rattle.text.specs.Buffers.{Wrote, Added}
use Rattle.text.proofs.Laws.Buffers.{adds-within, wrote_length, front-take}
use Rattle.sheet.specs.Table.{Table, field_of}
use Rattle.report.specs.Lines.{elca_text, slca_text, pair_text, valid_text}
use Rattle.rows.specs.Lent.{list_of, lists_of, end_of, count_of, index_of}
use Rattle.rows.specs.Output.{answers_text}
use Rattle.rows.specs.Inner.{Stock, Lent}
use Rattle.rows.proofs.Laws.Lists.{tabulate-zero, tabulate-row}

-- ---- what a writer has written
pub stock-start : (n : ℕ) (t : List ℕ) (w : Writer ℕ) → length w.out.now ≡ n → w.at ≡ 0 → [] ≡ t → Stock n t w
stock-start n t w e f g = record { long = e; within = omega arith; holds = ap (λ (k : ℕ). take k w.out.now) f ∙ g }

module _ (n : ℕ) (t : List ℕ) (w : Writer ℕ) (s : Stock n t w) where
  pub stock-within : w.at ≤ length w.out.now
  stock-within = omega (arith, s.long, s.within)

  pub stock-at : w.at ≡ length t
  stock-at = sym (length-take-le w.at w.out.now stock-within) ∙ ap length s.holds

  pub stock-more : (x tx : List ℕ) (w' : Writer ℕ) → Added x w w' → tx ≡ t ++ x → length tx ≤ n → Stock n tx w'
  stock-more x tx w' h e l = record {
    long = wrote_length _ _ _ _ all ∙ s.long;
    within = omega (arith, all.next, s.long);
    holds = ap₂ take (omega (arith, all.next, s.long)) all.holds ∙ front-take tx w.out.now (omega (arith, s.long));
  }
    where
      all : Wrote tx w.out.now w'.out.now w'.at
      all = rw (s.holds, ← e) at (adds-within x w.out.now w.at w'.out.now w'.at stock-within h.adds)

-- ---- word by word
lists-more : (T : Table) (j : ℕ) → lists_of T (j + 1) ≡ lists_of T j ++ list_of T j
unfolding lists_of
lists-more T j = ap (lists_of T) (add-one j)

pub lists_le : (T : Table) (j : ℕ) → length (lists_of T j) ≤ j * T.nodes
unfolding lists_of
lists_le T zero = zero-le
lists_le T (suc j) =
    omega (arith, length-append (lists_of T j) (list_of T j), lists_le T j, listed_le T.nodes (λ v. eqb (field_of T v (2 + 2 * j)) 1), suc-mul j T.nodes)

pub lent-start : (T : Table) (e o c : Writer ℕ) → length e.out.now ≡ 8 → length o.out.now ≡ 2048 → length c.out.now ≡ 2048 → e.at ≡ 0 → o.at ≡ 0 → c.at ≡ 0 → Lent T 0 e o c
unfolding lists_of
lent-start T e o c l m n i j k = record {
  ends = stock-start 8 _ e l i (sym (tabulate-zero (end_of T)));
  lists = stock-start 2048 _ o m j refl;
  counts = stock-start 2048 _ c n k (sym (ap (λ (x : ℕ). tabulate x (count_of T)) (zero-mul T.nodes) ∙ tabulate-zero (count_of T)));
}

module _ (T : Table) (few_words : T.positive + T.negative ≤ 8) (few_nodes : T.nodes ≤ 256) (j : ℕ) (l : j < T.positive + T.negative) where
  roomy : (j + 1) * T.nodes ≤ 2048
  roomy = omega (arith, mul-le-mul_right {m = j + 1} {n = 8} T.nodes (omega arith))

  module _ (e o c o' : Writer ℕ) (s : Lent T j e o c) (list : Added (list_of T j) o o') where
    lists : Stock 2048 (lists_of T (j + 1)) o'
    lists = stock-more _ _ o s.lists _ _ o' list (lists-more T j) (omega (arith, lists_le T (j + 1), roomy))

    ends : o'.at ≡ end_of T j
    ends = stock-at _ _ o' lists ∙ ap (λ (m : ℕ). length (lists_of T m)) (add-one j)

    pub list-small : o'.at ≤ 2048
    list-small = lists.within

    pub lent-more : (e' c' : Writer ℕ) → Added (o'.at ∷ []) e e' → Added (tabulate T.nodes (λ v. field_of T v (3 + 2 * j))) c c' → Lent T (j + 1) e' o' c'
    lent-more e' c' end count = record {
      ends = stock-more _ _ e s.ends _ _ e' end (tabulate-suc j (end_of T) ∙ ap (λ (x : ℕ). tabulate j (end_of T) ++ (x ∷ [])) (sym ends))
          (omega (arith, length-tabulate (j + 1) (end_of T)));
      lists = lists;
      counts = stock-more _ _ c s.counts _ _ c' count (tabulate-row j T.nodes (λ v i. field_of T v (3 + 2 * i)))
          (omega (arith, length-tabulate ((j + 1) * T.nodes) (count_of T), roomy));
    }

-- ---- what has been lent
pub column-written : (T : Table) → T.nodes ≤ 256 → (i : ℕ) (w w' : Writer ℕ) → length w.out.now ≡ 256 → w.at ≡ 0 → Added (tabulate T.nodes (λ v. field_of T v i)) w w' →
    Stock 256 (tabulate T.nodes (λ v. field_of T v i)) w'
column-written T few i w w' e f h = stock-more 256 [] w (stock-start 256 [] w e f refl) _ _ w' h refl (omega (arith, length-tabulate T.nodes (λ v. field_of T v i)))

-- The lists lent, of the first p + q words.
pub lent-index : (T : Table) (p q k : ℕ) (a b e o c : Writer ℕ) → k ≡ p + q → Stock 256 (tabulate T.nodes (λ v. field_of T v 0)) a → Stock 256 (tabulate T.nodes (λ v. field_of T v 1)) b →
    Lent T k e o c → (P S E O C : List ℕ) → P ≡ take a.at a.out.now → S ≡ take b.at b.out.now → E ≡ take e.at e.out.now → O ≡ take o.at o.out.now → C ≡ take c.at c.out.now →
    lent P S p q E O C ≡ index_of T p q
unfolding index_of
lent-index T p q k a b e o c h f g s P S E O C i j x y z =
    same (i ∙ f.holds) (j ∙ g.holds) (x ∙ s.ends.holds ∙ ap (λ (m : ℕ). tabulate m (end_of T)) h) (y ∙ s.lists.holds ∙ ap (lists_of T) h)
    (z ∙ s.counts.holds ∙ ap (λ (m : ℕ). tabulate (m * T.nodes) (count_of T)) h)
  where
    same : {P₁ P₂ S₁ S₂ E₁ E₂ O₁ O₂ C₁ C₂ : List ℕ} → P₁ ≡ P₂ → S₁ ≡ S₂ → E₁ ≡ E₂ → O₁ ≡ O₂ → C₁ ≡ C₂ → lent P₁ S₁ p q E₁ O₁ C₁ ≡ lent P₂ S₂ p q E₂ O₂ C₂
    same u v x y z = λ i. lent (u i) (v i) p q (x i) (y i) (z i)

-- On these indexes the three searches give the answers of the table.
pub answers-three : (T : Table) (I J : Index) → I ≡ index_of T T.positive 0 → J ≡ index_of T T.positive T.negative → answers_text T ≡ pair_text I ++ valid_text J
unfolding answers_text
answers-three T I J e f =
    rw (e, f) (sym (append_assoc (elca_text (index_of T T.positive 0)) (slca_text (index_of T T.positive 0)) (valid_text (index_of T T.positive T.negative))))
