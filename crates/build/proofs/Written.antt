-- The lists and their ends, from flags: the loop of `write_lists`.
--   lists_le              the lists of the first words are no longer than those of more
--   Writing, writing-*    the lists of the first j words stand in front, and their ends
-- Letters: c flags, n nodes, e ends, o occurrences, j word, a where the next list begins, r its row. Assumes nothing.
use Prim.Native.Nat.{ℕ, zero, suc, zero-le, ◌+◌, ◌*◌, ◌-◌, ◌≤◌, ◌<◌}
use mathlib.Core.Path.{◌≡◌, refl, sym, ap, ap₂, ◌∙◌}
use mathlib.Core.Logic.{◌⊎◌, ⊎_elim}
use mathlib.Core.List.{List, ◌++◌, append_assoc}
use mathlib.Core.Bool.{cond}
use native.Mathlib.Nat.{not-suc-le-zero, eq-or-lt_of_le, add-mul, one-mul, mul-le-mul_right}
use native.Mathlib.Omega.{arith}
use lib.Dec.{eqb}
use lib.ListN.{length, get_or, take, drop, set, length-set, length-take, length-drop, length-append}
use lib.Seq.{get_or-set_same, get_or-set_other, length-take-le, take_at, take_all, ext_get_or}
use borrow.Rule.Slice.PartMut.{mid_of, put_mid, mid_len, same_len_mid}
use borrow.Author.Tests.{le-leb}
use Rattle.seq.specs.Below.{tabulate}
use Rattle.seq.specs.Memory.{over}
use Rattle.seq.proofs.Laws.Gather.{length-tabulate, get_d_tabulate, listed_le}
use Rattle.index.specs.declared.Reply.{Reply}
use Rattle.std.proofs.Common.{Result, Ok}
use Rattle.index.specs.declared.replies.Refusal.{Refusal}
use Rattle.index.specs.Replies.{accepted, totalled, kept_or, reply_of}
use Rattle.index.proofs.Laws.Replies.{reply-accepted}
use Rattle.listing.specs.Listing.{flagged, flagged_rows, flagged_reply, flagged_out, Listed}
use Rattle.listing.proofs.Laws.{rows-length}
use Rattle.build.specs.Inner.{row_of, flag_lists, ListsPre, ListsWritten}

lists-suc : (c : List ℕ) (n j : ℕ) → length (flag_lists c n (suc j)) ≡ length (flag_lists c n j) + length (flagged_rows (row_of c n j))
unfolding flag_lists
lists-suc c n j = length-append (flag_lists c n j) (flagged_rows (row_of c n j))

lists-next : (c : List ℕ) (n j : ℕ) → flag_lists c n j ++ flagged_rows (row_of c n j) ≡ flag_lists c n (suc j)
unfolding flag_lists
lists-next c n j = refl

lists_le : (c : List ℕ) (n j d : ℕ) → length (flag_lists c n j) ≤ length (flag_lists c n (j + d))
lists_le c n j zero = let same : j + 0 ≡ j = omega arith in omega (arith, ap (λ (z : ℕ). length (flag_lists c n z)) same)
lists_le c n j (suc d) = let next : j + suc d ≡ suc (j + d) = omega arith in omega (arith, lists_le c n j d, lists-suc c n (j + d), ap (λ (z : ℕ). length (flag_lists c n z)) next)

-- Eight lists have so many entries at most.
lists-low : (c : List ℕ) (n : ℕ) → n ≤ 65536 → (i : ℕ) → i ≤ 8 → length (flag_lists c n i) ≤ i * 65536
lists-low c n f zero h = unfold flag_lists in omega arith
lists-low c n f (suc i) h =
    omega (arith, lists-low c n f i (omega arith), lists-suc c n i, rows-length (row_of c n i), listed_le (length (row_of c n i)) (flagged (row_of c n i)), length-take n (drop (i * n) c))

pub record Writing (c : List ℕ) (n : ℕ) (e₀ o₀ e o : List ℕ) (a j : ℕ) : Type 0 where
  pub within : j ≤ length e₀
  pub long : length e ≡ length e₀
  pub wide : length o ≡ length o₀
  pub at : a ≡ length (flag_lists c n j)
  pub front : take a o ≡ flag_lists c n j
  pub ends : (y : ℕ) → y < j → get_or e y 0 ≡ length (flag_lists c n (suc y))

pub writing_start : (c : List ℕ) (n : ℕ) (e o : List ℕ) → Writing c n e o e o 0 0
unfolding flag_lists
writing_start c n e o = record { within = zero-le; long = refl; wide = refl; at = refl; front = refl; ends = λ y l. absurd (not-suc-le-zero l) }

module _ (c : List ℕ) (n : ℕ) (e₀ o₀ e o : List ℕ) (a j : ℕ) (pre : ListsPre c n e₀ o₀) (s : Writing c n e₀ o₀ e o a j) (t : j < length e) where
  abbrev r : ℕ
  r = j * n

  l : j < length e₀
  l = omega (arith, s.long)

  next_row : j * n + n ≡ (j + 1) * n
  next_row = omega (arith, add-mul j 1 n, one-mul n)

  row_fits : r + n ≤ length c
  row_fits = omega (arith, next_row, pre.long, mul-le-mul_right {m = j + 1} {n = length e₀} n (omega (arith, l)))

  abbrev fl : List ℕ
  fl = take ((j + 1) * n - r) (drop r c)

  fl-is : fl ≡ row_of c n j
  fl-is = let same : (j + 1) * n - r ≡ n = omega (arith, next_row) in ap (λ (x : ℕ). take x (drop r c)) same

  fl-long : length fl ≡ n
  fl-long = let same : (j + 1) * n - r ≡ n = omega (arith, next_row) in mid_len r ((j + 1) * n) c (omega (arith, row_fits, next_row)) ∙ same

  -- The list fits what is left.
  fits : a + length (flagged_rows fl) ≤ length o
  fits =
      let more : suc j + (length e₀ - suc j) ≡ length e₀ = omega (arith, l) in
      omega (arith, s.at, s.wide, pre.room, ap (λ z. length (flagged_rows z)) fl-is, lists-suc c n j, lists_le c n (suc j) (length e₀ - suc j), ap (λ (z : ℕ). length (flag_lists c n z)) more)

  abbrev part : List ℕ
  part = mid_of a (length o - a) o

  part-long : length part ≡ length o - a
  part-long = mid_len a (length o) o (omega arith)

  module _ (x : Reply) (out : List ℕ) (q : Listed fl part x out) where
    reply-is : x ≡ totalled accepted (length (flagged_rows fl))
    unfolding flagged_reply
    reply-is =
        q.reply ∙ rw (le-leb (length fl) 65536 (omega (arith, fl-long, pre.few)), le-leb (length (flagged_rows fl)) (length part) (omega (arith, part-long, fits)))
        (ap (totalled accepted) (sym (rows-length fl)))

    pub total-is : x.total ≡ length (flagged_rows fl)
    total-is = ap (λ x. x.total) reply-is

    -- So it is not refused.
    pub listed-ok : (y : Result ℕ Refusal) → x ≡ reply_of y → y ≡ Ok (length (flagged_rows fl))
    listed-ok y e = reply-accepted y (ap (λ (z : Reply). z.refusal) (sym e ∙ reply-is)) ∙ ap Ok (ap (λ (z : Reply). z.total) (sym e ∙ reply-is))

    out-is : out ≡ over (flagged_rows fl) part
    unfolding flagged_out kept_or
    out-is = q.out ∙ ap (λ x. cond (eqb x.refusal accepted) (over (flagged_rows fl) part) part) (sym q.reply ∙ reply-is)

    next-at : a + length (flagged_rows fl) ≡ length (flag_lists c n (suc j))
    next-at = omega (arith, s.at, ap (λ z. length (flagged_rows z)) fl-is, lists-suc c n j)

    pub next_low : a + length (flagged_rows fl) ≤ 524288
    next_low = omega (arith, next-at, lists-low c n pre.few (suc j) (omega (arith, pre.words, l)))

    pub writing_step : (b y : ℕ) → b ≡ a + y → y ≡ x.total → Writing c n e₀ o₀ (set e j b) (put_mid a (length o - a) o out) b (j + 1)
    writing_step b y p h =
        record {
          within = omega (arith, l);
          long = length-set e j b ∙ s.long;
          wide = same_len_mid a (length o - a) o out (ap length out-is ∙ over-long) ∙ s.wide;
          at = at_next;
          front = ap (λ (z : ℕ). take z (put_mid a (length o - a) o out)) to ∙ front-next;
          ends = λ y m. ⊎_elim
              (λ (z : y ≡ j). ap (λ (x : ℕ). get_or (set e j b) x 0) z ∙ get_or-set_same e j b 0 t ∙ to ∙ next-at ∙ ap (λ (x : ℕ). length (flag_lists c n (suc x))) (sym z))
              (λ (z : y < j). get_or-set_other e j y b 0 (λ x. omega arith) ∙ s.ends y z)
              (split y m);
        }
      where
        to : b ≡ a + length (flagged_rows fl)
        to = p ∙ ap (λ (z : ℕ). a + z) (h ∙ total-is)

        at_next : b ≡ length (flag_lists c n (j + 1))
        at_next = let one : suc j ≡ j + 1 = omega arith in to ∙ next-at ∙ ap (λ (z : ℕ). length (flag_lists c n z)) one

        over-is : over (flagged_rows fl) part ≡ flagged_rows fl ++ drop (length (flagged_rows fl)) part
        over-is = unfold over in refl

        over-long : length (over (flagged_rows fl) part) ≡ length part
        over-long = unfold over in omega (arith, length-append (flagged_rows fl) (drop (length (flagged_rows fl)) part), length-drop (length (flagged_rows fl)) part, part-long, fits)

        split : (y : ℕ) → y < j + 1 → (y ≡ j) ⊎ (y < j)
        split y m = eq-or-lt_of_le (omega arith)

        front-next : take (a + length (flagged_rows fl)) (put_mid a (length o - a) o out) ≡ flag_lists c n (j + 1)
        front-next =
            ap (take (a + length (flagged_rows fl))) whole ∙ take_at (take a o ++ flagged_rows fl) _ (a + length (flagged_rows fl)) (length-append (take a o) (flagged_rows fl) ∙ ap (λ (z : ℕ). z + length (flagged_rows fl)) (length-take-le a o (omega (arith, fits)))) ∙
            ap₂ ◌++◌ s.front (ap flagged_rows fl-is) ∙ last
          where
            whole : put_mid a (length o - a) o out ≡ (take a o ++ flagged_rows fl) ++ (drop (length (flagged_rows fl)) part ++ drop (length o - a) (drop a o))
            whole =
                ap (λ z. take a o ++ (z ++ drop (length o - a) (drop a o))) (out-is ∙ over-is) ∙
                ap (λ z. take a o ++ z) (append_assoc (flagged_rows fl) (drop (length (flagged_rows fl)) part) (drop (length o - a) (drop a o))) ∙
                sym (append_assoc (take a o) (flagged_rows fl) (drop (length (flagged_rows fl)) part ++ drop (length o - a) (drop a o)))

            last : flag_lists c n j ++ flagged_rows (row_of c n j) ≡ flag_lists c n (j + 1)
            last = let one : suc j ≡ j + 1 = omega arith in lists-next c n j ∙ ap (flag_lists c n) one

pub writing-end : (c : List ℕ) (n : ℕ) (e₀ o₀ e o : List ℕ) (a j : ℕ) → ListsPre c n e₀ o₀ → Writing c n e₀ o₀ e o a j → length e ≤ j → ListsWritten c n e₀ o₀ e o
writing-end c n e₀ o₀ e o a j pre s l =
    record {
      ends = ext_get_or 0 e (tabulate (length e₀) (λ i. length (flag_lists c n (suc i)))) (s.long ∙ sym (length-tabulate (length e₀) _))
          (λ y h. s.ends y (omega (arith, s.long)) ∙ sym (get_d_tabulate (length e₀) (λ i. length (flag_lists c n (suc i))) y 0 (omega (arith, s.long))));
      lists = sym (take_all a o (omega (arith, s.at, s.wide, pre.room, ap (λ (z : ℕ). length (flag_lists c n z)) all))) ∙ s.front ∙ ap (flag_lists c n) all;
    }
  where
    all : j ≡ length e₀
    all = omega (arith, s.within, s.long)
