-- The reply of a reading and its rows: what the code has tested, and what it leaves.
--   Counted T n     == the judge accepts T with n nodes: what follows of the text's tree
--   refused-reads, room-reads, accepted-reads   the three ways that `read` returns
--   read_unique     no second outcome fits
-- Letters as in specs/Read; n the number of nodes. Assumes nothing.
use Prim.Native.Nat.{ℕ, suc, ◌+◌, ◌*◌, ◌/◌, ◌≤◌, ◌<◌}
use mathlib.Core.Path.{◌≡◌, refl, sym, ap, ◌∙◌}
use mathlib.Core.Logic.{⊎_elim}
use mathlib.Core.List.{List, [], ◌∷◌, ◌++◌, map}
use mathlib.Core.Bool.{Bool, true, false, cond, ◌&&◌, ◌||◌}
use mathlib.Core.Option.{some, none}
use native.Mathlib.Omega.{arith}
use lib.Dec.{eqb, ltb, leb}
use lib.ListN.{length, length-map, take, drop, length-append, length-drop}
use lib.Seq.{length-take-le}
use borrow.Author.Tests.{eq-eqb, ne_eqb, leb-true, leb-false, le-leb, lt-leb, le-ltb}
use Rattle.seq.specs.Memory.{zeroed, over}
use Rattle.seq.proofs.Laws.Bools.{and_left, and_right, and_both, cond-true, cond-false}
use Rattle.seq.proofs.Laws.Numbers.{less_or}
use Rattle.index.specs.declared.Reply.{Reply}
use Rattle.index.specs.Replies.{accepted, SIZE, ROOM, refused, totalled, kept_or}
use Rattle.profile.specs.Tree.{Node}
use Rattle.profile.specs.Limits.{Key, keys_of, first_over}
use Rattle.profile.specs.Reader.{tree_of}
use Rattle.profile.specs.Tags.{with, tags_after, tags_of}
use Rattle.profile.specs.Check.{whole, broken, reply_to}
use Rattle.profile.specs.Check as check
use Rattle.profile.proofs.Complete.{tree-read}
use Rattle.profile.proofs.Markup.{none-some}
use Rattle.profile.proofs.Check.{keys_length}
use Rattle.judge.specs.Judge.{longest, max_level, max_nodes, in_numbers, judge_reply}
use Rattle.judge.specs.Meaning.{Kept}
use Rattle.judge.proofs.Meaning.{accepted_means}
use Rattle.names.specs.Names.{Numbered, names}
use Rattle.names.specs.Names as names
use Rattle.reader.specs.Inner.{Rows, rows, mark, BuildPre, Built, FillPre, Filled}
use Rattle.reader.specs.Read.{Lent, lent, fits, fits_in, read_reply, parents_of, tags_in, firsts_of, lasts_of, Reads}

-- ---- room
-- n entries are a third of the work at most exactly if three times as many fit.
pub third : (n w : ℕ) → leb n (w / 3) ≡ leb (3 * n) w
third n w = ⊎_elim (λ (h : w < 3 * n). lt-leb n (w / 3) (omega arith) ∙ sym (lt-leb (3 * n) w h)) (λ (h : 3 * n ≤ w). le-leb n (w / 3) (omega arith) ∙ sym (le-leb (3 * n) w h)) (less_or w (3 * n))

module _ (n p t f l w : ℕ) where
  pub has-room_unique : (r r' : Bool) → r ≡ fits n p t f l w → r' ≡ fits n p t f l w → r ≡ r'
  has-room_unique r r' a b = a ∙ sym b

  pub record Room : Type 0 where
    pub parents : n ≤ p
    pub tags : n ≤ t
    pub firsts : n ≤ f
    pub lasts : n ≤ l
    pub work : 3 * n ≤ w

  pub room_of : fits n p t f l w ≡ true → Room
  unfolding fits
  room_of e =
      let e2 = and_right (leb n p) (leb n t && (leb n f && (leb n l && leb (3 * n) w))) e in
      let e3 = and_right (leb n t) (leb n f && (leb n l && leb (3 * n) w)) e2 in
      let e4 = and_right (leb n f) (leb n l && leb (3 * n) w) e3 in
      record {
        parents = leb-true n p (and_left (leb n p) (leb n t && (leb n f && (leb n l && leb (3 * n) w))) e);
        tags = leb-true n t (and_left (leb n t) (leb n f && (leb n l && leb (3 * n) w)) e2);
        firsts = leb-true n f (and_left (leb n f) (leb n l && leb (3 * n) w) e3);
        lasts = leb-true n l (and_left (leb n l) (leb (3 * n) w) e4);
        work = leb-true (3 * n) w (and_right (leb n l) (leb (3 * n) w) e4);
      }

-- ---- a text that is accepted
-- The number of nodes is within the limit.
count_none : (L N : ℕ) (ks : List Key) (v : ℕ) → v ≤ N → first_over L N v ks ≡ none → v + length ks ≤ N
unfolding first_over
count_none L N [] v l e = omega (arith, l)
count_none L N (k ∷ ks) v l e = by_test (ltb L k.level) (leb N v) refl e (count_none L N ks (suc v))
  where
    by_test : (a b : Bool) → leb N v ≡ b → cond (a || b) (some v) (first_over L N (suc v) ks) ≡ none →
        (suc v ≤ N → first_over L N (suc v) ks ≡ none → suc v + length ks ≤ N) → v + suc (length ks) ≤ N
    by_test true b q e r = absurd (none-some v (some v) e refl)
    by_test false true q e r = absurd (none-some v (some v) e refl)
    by_test false false q e r = omega (arith, r (omega (arith, leb-false N v q)) e)

-- The judge's reply where it accepts.
numbers-whole : (q : check.Reply) (n : ℕ) → in_numbers q ≡ totalled accepted n → q ≡ whole n
numbers-whole (whole m) n e = ap whole (ap (λ (r : Reply). r.total) e)
numbers-whole (broken i) n e = absurd (no (ap (λ (r : Reply). r.refusal) e))
  where
    no : ◌≡◌ {A = ℕ} 7 0 → ⊥
    no z = omega arith
numbers-whole (check.over v) n e = absurd (no (ap (λ (r : Reply). r.refusal) e))
  where
    no : ◌≡◌ {A = ℕ} 2 0 → ⊥
    no z = omega arith

pub record Counted (T : List ℕ) (n : ℕ) : Type 0 where
  pub short : length T ≤ longest
  pub whole-text : reply_to max_level max_nodes T ≡ whole n
  pub nodes : length (tree_of T) ≡ n
  pub few : n ≤ 65536

-- A reply with no refusal is acceptance.
accepts : (T : List ℕ) → (judge_reply T).refusal ≡ accepted → judge_reply T ≡ totalled accepted (judge_reply T).total
unfolding judge_reply
accepts T e = by_test (ltb longest (length T)) (reply_to max_level max_nodes T) e
  where
    by_test : (b : Bool) (q : check.Reply) → (cond b (refused SIZE 0) (in_numbers q)).refusal ≡ accepted →
        cond b (refused SIZE 0) (in_numbers q) ≡ totalled accepted (cond b (refused SIZE 0) (in_numbers q)).total
    by_test true q e = absurd (no e)
      where
        no : ◌≡◌ {A = ℕ} 1 0 → ⊥
        no z = omega arith
    by_test false (whole n) e = refl
    by_test false (broken i) e = absurd (no e)
      where
        no : ◌≡◌ {A = ℕ} 7 0 → ⊥
        no z = omega arith
    by_test false (check.over v) e = absurd (no e)
      where
        no : ◌≡◌ {A = ℕ} 2 0 → ⊥
        no z = omega arith

judge-short : (T : List ℕ) → length T ≤ longest → judge_reply T ≡ in_numbers (reply_to max_level max_nodes T)
unfolding judge_reply
judge-short T l = rw (le-ltb longest (length T) l)

pub counted : (T : List ℕ) (r : Reply) → r ≡ judge_reply T → r.refusal ≡ accepted → Counted T r.total
counted T r e z =
    record {
      short = kept.short;
      whole-text = numbers-whole (reply_to max_level max_nodes T) r.total (sym fits-judge ∙ given);
      nodes = ap length tree_is ∙ sym kept.total;
      few = omega (arith, count_none max_level max_nodes (keys_of kept.nodes) 0 (omega arith) kept.kept.clear, keys_length kept.nodes, kept.total);
    }
  where
    given : judge_reply T ≡ totalled accepted r.total
    given = accepts T (sym (ap (λ (r : Reply). r.refusal) e) ∙ z) ∙ ap (totalled accepted) (sym (ap (λ (r : Reply). r.total) e))

    kept : Kept T r.total
    kept = accepted_means T r.total given

    fits-judge : judge_reply T ≡ in_numbers (reply_to max_level max_nodes T)
    fits-judge = judge-short T kept.short

    tree_is : tree_of T ≡ kept.nodes
    tree_is =
        ap tree_of (sym kept.kept.whole.is) ∙ tree-read kept.kept.whole.document ∙
        kept.kept.nodes kept.kept.whole.document kept.kept.whole.is

-- ---- the reply
module _ (T : List ℕ) (l : Lent) (r : Reply) (e : r ≡ judge_reply T) where
  refused-reply : (r.refusal ≡ accepted → ⊥) → r ≡ read_reply T l
  unfolding read_reply
  refused-reply n = e ∙ sym (cond-false (eqb (judge_reply T).refusal accepted) (ne_eqb (judge_reply T).refusal accepted λ z. n (ap (λ (r : Reply). r.refusal) e ∙ z)) _ _)

  module _ (z : r.refusal ≡ accepted) where
    accepted-is : eqb (judge_reply T).refusal accepted ≡ true
    accepted-is = eq-eqb (judge_reply T).refusal accepted (sym (ap (λ (r : Reply). r.refusal) e) ∙ z)

    room-reply : fits_in r.total l ≡ false → totalled ROOM r.total ≡ read_reply T l
    unfolding read_reply
    room-reply f =
        ap (λ (r : Reply). totalled ROOM r.total) e ∙
        sym (cond-true (eqb (judge_reply T).refusal accepted) accepted-is _ _ ∙ cond-false (fits_in (judge_reply T).total l) (sym (ap (λ (r : Reply). fits_in r.total l) e) ∙ f) _ _)

    pub full-reply : fits_in r.total l ≡ true → r ≡ read_reply T l
    unfolding read_reply
    full-reply f =
        e ∙ sym (cond-true (eqb (judge_reply T).refusal accepted) accepted-is _ _ ∙ cond-true (fits_in (judge_reply T).total l) (sym (ap (λ (r : Reply). fits_in r.total l) e) ∙ f) _ _)

-- ---- lengths
pub tags-length : (seen l : List (List ℕ)) → length (tags_after seen l) ≡ length l
unfolding tags_after
tags-length seen [] = refl
tags-length seen ([] ∷ l) = ap suc (tags-length seen l)
tags-length seen ((x ∷ n) ∷ l) = ap suc (tags-length (with seen (x ∷ n)) l)

pub tags-count : (l : List (List ℕ)) → length (tags_of l) ≡ length l
unfolding tags_of
tags-count l = tags-length [] l

pub over-is : (new old : List ℕ) → new ++ drop (length new) old ≡ over new old
unfolding over
over-is new old = refl

-- ---- the three ways to return
pub kept_as : (r : Reply) (new old : List ℕ) → (r.refusal ≡ accepted → ⊥) → old ≡ kept_or r new old
unfolding kept_or
kept_as r new old n = rw (ne_eqb r.refusal accepted n)

pub over_as : (r : Reply) (new old : List ℕ) → r.refusal ≡ accepted → over new old ≡ kept_or r new old
unfolding kept_or
over_as r new old z = rw (eq-eqb r.refusal accepted z)

untouched : (T : List ℕ) (l : Lent) (r : Reply) → r ≡ read_reply T l → (r.refusal ≡ accepted → ⊥) → Reads T l r l
untouched T l r e n =
    record {
      reply = e;
      parents = kept_as r (parents_of (tree_of T)) l.parents n;
      tags = kept_as r (tags_in (tree_of T)) l.tags n;
      firsts = kept_as r (firsts_of (tree_of T)) l.firsts n;
      lasts = kept_as r (lasts_of (tree_of T)) l.lasts n;
      work = sym (cond-false (eqb r.refusal accepted) (ne_eqb r.refusal accepted n) _ _);
    }

pub refused-reads : (T : List ℕ) (l : Lent) (r : Reply) → r ≡ judge_reply T → (r.refusal ≡ accepted → ⊥) → Reads T l r l
refused-reads T l r e n = untouched T l r (refused-reply T l r e n) n

pub room-reads : (T : List ℕ) (l : Lent) (r : Reply) (n : ℕ) → r ≡ judge_reply T → r.refusal ≡ accepted → n ≡ r.total → fits_in n l ≡ false →
    Reads T l (totalled ROOM r.total) l
room-reads T l r n e z q f = untouched T l (totalled ROOM r.total) (room-reply T l r e z (ap (λ i. fits_in i l) (sym q) ∙ f)) no
  where
    no : ◌≡◌ {A = ℕ} 5 0 → ⊥
    no z = omega arith

-- ---- the rows
pub build_asks : (T : List ℕ) (l : Lent) → FillPre T l → BuildPre T (rows l.parents l.tags l.firsts l.lasts)
build_asks T l w = record { short = w.short; nodes = w.nodes; marks = w.tags; firsts = w.firsts; lasts = w.lasts }

-- The numbering is done: everything fits.
module _ (T : List ℕ) (l : Lent) (w : FillPre T l) (R : Rows) (b : Built T R) (same : length R.marks ≡ length l.parents) (long : length R.firsts ≡ length l.parents)
    (t' w' : List ℕ) (d : Bool) (h : Numbered T R.firsts R.marks l.work t' w' d) where
  done : d ≡ true
  unfolding names.fits
  done =
      h.reply ∙
      and_both (leb n 65536 && leb n (length R.firsts) && leb (3 * n) (length l.work)) (leb (length T) 16777216)
      (and_both (leb n 65536 && leb n (length R.firsts)) (leb (3 * n) (length l.work))
      (and_both (leb n 65536) (leb n (length R.firsts)) (le-leb n 65536 (omega (arith, same, w.few))) (le-leb n (length R.firsts) (omega (arith, same, long))))
      (le-leb (3 * n) (length l.work) (omega (arith, same, w.work))))
      (le-leb (length T) 16777216 w.short)
    where
      n : ℕ
      n = length R.marks

  nodes-count : length R.marks ≡ length (tree_of T)
  nodes-count = ap length b.marks ∙ length-map (tree_of T) mark

  pub filled : Filled T l.work (lent R.parents t' R.firsts R.lasts w')
  filled =
      record {
        parents = b.parents;
        tags = h.tags ∙ ap (λ b. cond b (tags_of (names T R.marks R.firsts)) R.marks) done ∙ ap tags_of (sym b.names);
        firsts = b.firsts;
        lasts = b.lasts;
        work = h.work ∙ ap (λ b. cond b (zeroed (3 * length R.marks) l.work) l.work) done ∙ ap (λ i. zeroed (3 * i) l.work) nodes-count;
      }

-- What `fill` asks of the fronts, where there is room.
pub fill_asks : (T : List ℕ) (r : Reply) (n : ℕ) (l : Lent) → r ≡ judge_reply T → r.refusal ≡ accepted → n ≡ r.total →
    length l.parents ≡ n → length l.tags ≡ n → length l.firsts ≡ n → length l.lasts ≡ n → 3 * n ≤ length l.work → FillPre T l
fill_asks T r n l e z q a b d f k =
    record {
      short = c.short;
      nodes = c.whole-text ∙ ap whole (sym q ∙ sym a);
      few = omega (arith, c.few, q, a);
      tags = b ∙ sym a;
      firsts = d ∙ sym a;
      lasts = f ∙ sym a;
      work = omega (arith, k, a);
    }
  where
    c : Counted T r.total
    c = counted T r e z

-- Accepted: the rows over the fronts.
pub accepted-reads : (T : List ℕ) (l : Lent) (r : Reply) (n : ℕ) → r ≡ judge_reply T → r.refusal ≡ accepted → n ≡ r.total → fits_in n l ≡ true → (k : Lent) →
    Filled T l.work k →
    Reads T l r
    (lent (k.parents ++ drop n l.parents) (k.tags ++ drop n l.tags) (k.firsts ++ drop n l.firsts) (k.lasts ++ drop n l.lasts) k.work)
accepted-reads T l r n e z q f k w =
    record {
      reply = full-reply T l r e z (ap (λ i. fits_in i l) (sym q) ∙ f);
      parents = row k.parents l.parents (parents_of (tree_of T)) w.parents (length-map (tree_of T) (λ (a : Node). a.parent));
      tags = row k.tags l.tags (tags_in (tree_of T)) w.tags (tags-count (map (λ (a : Node). a.name) (tree_of T)) ∙ length-map (tree_of T) (λ (a : Node). a.name));
      firsts = row k.firsts l.firsts (firsts_of (tree_of T)) w.firsts (length-map (tree_of T) (λ (a : Node). a.first));
      lasts = row k.lasts l.lasts (lasts_of (tree_of T)) w.lasts (length-map (tree_of T) (λ (a : Node). a.last));
      work = w.work ∙ sym (cond-true (eqb r.refusal accepted) (eq-eqb r.refusal accepted z) _ _);
    }
  where
    size : length (tree_of T) ≡ n
    size = (counted T r e z).nodes ∙ sym q

    row : (new old rows : List ℕ) → new ≡ rows → length rows ≡ length (tree_of T) → new ++ drop n old ≡ kept_or r rows old
    row new old rows a b =
        ap (λ x. x ++ drop n old) a ∙ ap (λ i. rows ++ drop i old) (sym (b ∙ size)) ∙ over-is rows old ∙ over_as r rows old z

-- ---- the contract
pub read_unique : (T : List ℕ) (l : Lent) (r r' : Reply) (k k' : Lent) → Reads T l r k → Reads T l r' k' → (r ≡ r') × (k ≡ k')
read_unique T l r r' k k' a b = (same, same-lent)
  where
    same : r ≡ r'
    same = a.reply ∙ sym b.reply

    -- The rows that a reply leaves.
    left : Reply → Lent
    left r =
        lent (kept_or r (parents_of (tree_of T)) l.parents) (kept_or r (tags_in (tree_of T)) l.tags) (kept_or r (firsts_of (tree_of T)) l.firsts)
        (kept_or r (lasts_of (tree_of T)) l.lasts) (cond (eqb r.refusal accepted) (zeroed (3 * length (tree_of T)) l.work) l.work)

    is-left : (r : Reply) (k : Lent) → Reads T l r k → k ≡ left r
    is-left r k a =
        ap (λ x. lent x k.tags k.firsts k.lasts k.work) a.parents ∙
        ap (λ x. lent (left r).parents x k.firsts k.lasts k.work) a.tags ∙
        ap (λ x. lent (left r).parents (left r).tags x k.lasts k.work) a.firsts ∙
        ap (λ x. lent (left r).parents (left r).tags (left r).firsts x k.work) a.lasts ∙
        ap (λ x. lent (left r).parents (left r).tags (left r).firsts (left r).lasts x) a.work

    same-lent : k ≡ k'
    same-lent = is-left r k a ∙ ap left same ∙ sym (is-left r' k' b)

-- A front that keeps its length keeps that of the row.
pub front_long : (n : ℕ) (new old : List ℕ) → n ≤ length old → length new ≡ length (take n old) → length (new ++ drop n old) ≡ length old
front_long n new old l e = omega (arith, length-append new (drop n old), length-drop n old, length-take-le n old l, e, l)
