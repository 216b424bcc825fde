-- What the test for room says.
--   table-made     there is a table exactly if each distinct word has a slot
--   tree-fits      what is enough is enough for the reader
--   enough-plain   what is lent is enough exactly if each part that is written fits
-- Letters: T text, Q query, l what is lent; m slots. Assumes nothing.
use Prim.Native.Nat.{ℕ, ◌*◌, ◌≤◌}
use mathlib.Core.Path.{◌≡◌, refl, sym, ap, ◌∙◌}
use mathlib.Core.Logic.{◌↔◌, ⊎_elim}
use mathlib.Core.List.{List}
use mathlib.Core.Bool.{true, ◌&&◌, false≢true}
use mathlib.Core.Option.{Option, none, some}
use lib.Dec.{leb}
use lib.ListN.{length}
use native.Mathlib.Nat.{not-le_of_lt}
use borrow.Author.Tests.{le-leb, leb-true}
use Rattle.seq.proofs.Laws.Bools.{and_left, and_right, and_both}
use Rattle.seq.proofs.Laws.Numbers.{less_or}
use Rattle.profile.specs.Reader.{tree_of}
use Rattle.reader.specs.Read.{fits}
use Rattle.reader.proofs.Reading.{Room, room_of}
use Rattle.query.specs.Query.{Query, word_count}
use Rattle.plan.specs.Lists.{word_table, lists_to, made}
use Rattle.plan.specs.Plan.{tree_fits, enough}
use Rattle.build.specs.Build.{Lent, sizes}
use Rattle.build_laws.specs.Words.{new_places}
use Rattle.build_laws.specs.Calls.{Enough}
use Rattle.build_laws.proofs.Table.{table-fails}

pub table-made : (T : List ℕ) (m : ℕ) → (made (word_table T m) ≡ true) ↔ (length (new_places T) ≤ m)
table-made T m = (
  λ e. ⊎_elim (λ h. absurd (false≢true (sym (ap made ((table-fails T m).1 h)) ∙ e))) (λ h. h) (less_or m (length (new_places T))),
  λ h. by (word_table T m) (λ e. not-le_of_lt ((table-fails T m).0 e) h),
)
  where
    by : (o : Option (List ℕ)) → (o ≡ none → ⊥) → made o ≡ true
    by none n = absurd (n refl)
    by (some w) n = refl

fits-of : (n p t f l w : ℕ) → n ≤ p → n ≤ t → n ≤ f → n ≤ l → 3 * n ≤ w → fits n p t f l w ≡ true
unfolding fits
fits-of n p t f l w a b c d e =
    and_both _ _ (le-leb n p a) (and_both _ _ (le-leb n t b) (and_both _ _ (le-leb n f c) (and_both _ _ (le-leb n l d) (le-leb (3 * n) w e))))

module _ (T : List ℕ) (Q : Query) (l : Lent) where
  abbrev nodes : ℕ
  nodes = length (tree_of T)

  pub tree-fits : Enough T Q l → tree_fits nodes (sizes l) ≡ true
  tree-fits r = fits-of nodes _ _ _ _ _ r.parents r.tags r.firsts r.lasts r.work

  enough-of : Enough T Q l → enough T Q (length l.slots) (sizes l) ≡ true
  unfolding enough
  enough-of r =
      and_both _ _
      (and_both _ _ (tree-fits r)
      (and_both _ _ (le-leb (word_count Q) (length l.ends) r.ends) (le-leb (word_count Q * nodes) (length l.counts) r.counts)))
      (and_both _ _ ((table-made T (length l.slots)).1 r.words) (le-leb (length (lists_to T Q (word_count Q))) (length l.occurrences) r.occurrences))

  module _ (e : enough T Q (length l.slots) (sizes l) ≡ true) where
    fixed : (tree_fits nodes (sizes l) && (leb (word_count Q) (length l.ends) && leb (word_count Q * nodes) (length l.counts))) ≡ true
    fixed = unfold enough in and_left _ (made (word_table T (length l.slots)) && leb (length (lists_to T Q (word_count Q))) (length l.occurrences)) e

    enough-table : (made (word_table T (length l.slots)) && leb (length (lists_to T Q (word_count Q))) (length l.occurrences)) ≡ true
    enough-table = unfold enough in and_right (tree_fits nodes (sizes l) && (leb (word_count Q) (length l.ends) && leb (word_count Q * nodes) (length l.counts))) _ e

    rows : (leb (word_count Q) (length l.ends) && leb (word_count Q * nodes) (length l.counts)) ≡ true
    rows = and_right (tree_fits nodes (sizes l)) _ fixed

    tree : Room nodes (length l.parents) (length l.tags) (length l.firsts) (length l.lasts) (length l.work)
    tree = room_of nodes _ _ _ _ _ (and_left (tree_fits nodes (sizes l)) _ fixed)

    enough-at : Enough T Q l
    enough-at =
        record {
          words = (table-made T (length l.slots)).0 (and_left _ (leb (length (lists_to T Q (word_count Q))) (length l.occurrences)) enough-table);
          parents = tree.parents;
          tags = tree.tags;
          firsts = tree.firsts;
          lasts = tree.lasts;
          work = tree.work;
          ends = leb-true (word_count Q) (length l.ends) (and_left _ _ rows);
          occurrences = leb-true (length (lists_to T Q (word_count Q))) (length l.occurrences) (and_right (made (word_table T (length l.slots))) _ enough-table);
          counts = leb-true (word_count Q * nodes) (length l.counts) (and_right (leb (word_count Q) (length l.ends)) _ rows);
        }

  pub enough-plain : (enough T Q (length l.slots) (sizes l) ≡ true) ↔ Enough T Q l
  enough-plain = (enough-at, enough-of)
