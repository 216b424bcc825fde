-- The ways in which `build` returns, once its plan is made.
--   refused_builds, all_builds   the reply is a refusal, or not
--   few_words_lem, few-nodes, lists-fit, rooms   what is known of an accepted plan: what is written fits
--   write_asks         what `write` asks for, once the tree is read
--   after T Q l r      == what is lent after the reply r;  leaves_after: the promise leaves this
--   build_unique       so no second outcome fits
-- Letters: T text, Q query, l b what is lent, before and after, z sizes, p plan, w s slots before and after it, n nodes. Assumes nothing.
use Prim.Native.Nat.{ℕ, ◌*◌, ◌≤◌}
use mathlib.Core.Path.{◌≡◌, refl, sym, ap, ap₂, ◌∙◌}
use mathlib.Core.List.{List, ◌++◌}
use mathlib.Core.Bool.{cond}
use native.Mathlib.Omega.{arith}
use lib.Dec.{eqb}
use lib.ListN.{length, take, drop}
use lib.Seq.{take_at, length-take-le}
use borrow.Author.Tests.{ne_eqb, leb-true}
use Rattle.seq.specs.Memory.{zeroed}
use Rattle.seq.proofs.Laws.Bools.{and_left, and_right, cond-false}
use Rattle.seq.proofs.Laws.Gather.{length-tabulate}
use Rattle.index.specs.declared.Reply.{Reply}
use Rattle.index.specs.Replies.{accepted, kept_or}
use Rattle.profile.specs.Reader.{tree_of}
use Rattle.judge.specs.Judge.{judge_reply}
use Rattle.reader.specs.Read as reader
use Rattle.reader.specs.Read.{parents_of, tags_in, firsts_of, lasts_of, Reads}
use Rattle.reader.proofs.Reading.{counted, over-is, kept_as, over_as, full-reply}
use Rattle.query.specs.Query.{Query, word_count}
use Rattle.plan.specs.Lists.{word_table, lists_to, made}
use Rattle.plan.specs.Plan.{tree_fits, enough, slots_after, Plans}
use Rattle.plan.specs.Inner.{roomy}
use Rattle.build.specs.Build.{Lent, lent, sizes, ends_for, counts_for, Builds}
use Rattle.build.specs.Inner.{WritePre, Written}
use Rattle.build.proofs.Whole.{parents-long}
use Rattle.plan.proofs.Room.{Roomy, roomy_of}
use Rattle.plan.specs.declared.Sizes.{Sizes}
use Rattle.plan.specs.declared.Planned.{Planned}
use Rattle.query.proofs.Kept.{query-kept}
use Rattle.plan.proofs.Tests.{Passed, passed-of}
use Rattle.plan.proofs.Planning.{room_in, total-all}

-- ---- an accepted plan: the query and the text are as they should be, and all fits
module _ (T : List ℕ) (Q : Query) (z : Sizes) (w : List ℕ) (p : Planned) (s : List ℕ) (h : Plans T Q z w p s) (a : p.reply.refusal ≡ accepted) where
  passed : Passed T Q (length w) z
  passed = passed-of T Q (length w) z (sym (ap (λ (r : Reply). r.refusal) h.reply) ∙ a)

  judge-is : p.reply ≡ judge_reply T
  judge-is = h.reply ∙ passed.reply

  lists-are : p.total ≡ length (lists_to T Q (word_count Q))
  lists-are = h.total ∙ total-all p.reply _ a

  pub few_words_lem : word_count Q ≤ 8
  few_words_lem = (query-kept Q passed.query).few

  pub lists-fit : p.total ≤ z.occurrences
  unfolding enough roomy
  lists-fit = omega (arith, lists-are, leb-true (length (lists_to T Q (word_count Q))) z.occurrences (and_right (made (word_table T (length w))) _ (and_right (room_in (length (tree_of T)) Q z) _ passed.room)))

  module _ (n : ℕ) (q : n ≡ p.reply.total) where
    count : length (tree_of T) ≡ n
    count = (counted T p.reply judge-is a).nodes ∙ sym q

    pub few-nodes : n ≤ 65536
    few-nodes = omega (arith, (counted T p.reply judge-is a).few)

    pub rooms : Roomy n (word_count Q) z
    unfolding enough roomy
    rooms = roomy_of _ _ _ (ap (λ n. room_in n Q z) (sym count) ∙ and_left _ _ passed.room)

-- ---- what is lent
abbrev tree_lent : Lent → reader.Lent
tree_lent l = reader.lent l.parents l.tags l.firsts l.lasts l.work

module _ (T : List ℕ) (Q : Query) (l : Lent) (p : Planned) (s : List ℕ) (h : Plans T Q (sizes l) l.slots p s) where
  -- Refused: only the slots may have changed.
  pub refused_builds : (p.reply.refusal ≡ accepted → ⊥) → Builds T Q l p.reply (lent s l.parents l.tags l.firsts l.lasts l.ends l.occurrences l.counts l.work)
  refused_builds n =
      record {
        reply = h.reply;
        slots = h.slots;
        parents = kept_as p.reply (parents_of (tree_of T)) l.parents n;
        tags = kept_as p.reply (tags_in (tree_of T)) l.tags n;
        firsts = kept_as p.reply (firsts_of (tree_of T)) l.firsts n;
        lasts = kept_as p.reply (lasts_of (tree_of T)) l.lasts n;
        ends = kept_as p.reply (ends_for T Q (word_count Q)) l.ends n;
        occurrences = kept_as p.reply (lists_to T Q (word_count Q)) l.occurrences n;
        counts = kept_as p.reply (counts_for T Q (word_count Q)) l.counts n;
        work = sym (cond-false (eqb p.reply.refusal accepted) (ne_eqb p.reply.refusal accepted n) _ _);
      }

  -- Accepted: the reader judges as before, and has room.
  module _ (a : p.reply.refusal ≡ accepted) (n : ℕ) (q : n ≡ p.reply.total) (t : Reply) (k : reader.Lent) (w : Reads T (tree_lent l) t k) where
    all : Passed T Q (length l.slots) (sizes l)
    all = passed T Q (sizes l) l.slots p s h a

    judged : p.reply ≡ judge_reply T
    judged = judge-is T Q (sizes l) l.slots p s h a

    lists : p.total ≡ length (lists_to T Q (word_count Q))
    lists = lists-are T Q (sizes l) l.slots p s h a

    nodes : length (tree_of T) ≡ n
    nodes = count T Q (sizes l) l.slots p s h a n q

    fit : Roomy n (word_count Q) (sizes l)
    fit = rooms T Q (sizes l) l.slots p s h a n q

    read_is : t ≡ judge_reply T
    read_is = w.reply ∙ sym (full-reply T (tree_lent l) (judge_reply T) refl all.judge (ap (λ n. tree_fits n (sizes l)) (sym (ap (λ (r : Reply). r.total) judged) ∙ sym q) ∙ fit.tree))

    accepts : t.refusal ≡ accepted
    accepts = ap (λ (r : Reply). r.refusal) read_is ∙ all.judge

    front : take n k.parents ≡ parents_of (tree_of T)
    front =
        ap (take n) (w.parents ∙ sym (over_as t (parents_of (tree_of T)) l.parents accepts) ∙ sym (over-is (parents_of (tree_of T)) l.parents)) ∙
        take_at (parents_of (tree_of T)) (drop (length (parents_of (tree_of T))) l.parents) n (parents-long T ∙ nodes)

    pub write_asks : WritePre T Q (take n k.parents) (take (word_count Q) l.ends) (take p.total l.occurrences) (take (word_count Q * n) l.counts)
    write_asks =
        record {
          ok = all.query;
          kept = all.judge;
          parents = front;
          ends = length-take-le (word_count Q) l.ends fit.ends;
          lists = length-take-le p.total l.occurrences (lists-fit T Q (sizes l) l.slots p s h a) ∙ lists;
          counts = length-take-le (word_count Q * n) l.counts fit.counts ∙ ap (λ (x : ℕ). word_count Q * x) (sym nodes);
        }

    row : (new rows old : List ℕ) (m : ℕ) → new ≡ rows → length rows ≡ m → new ++ drop m old ≡ kept_or t rows old
    row new rows old m x y = ap₂ (λ x y. x ++ drop y old) x (sym y) ∙ over-is rows old ∙ over_as t rows old accepts

    pub all_builds : (e' o' c' : List ℕ) → Written T Q e' o' c' →
        Builds T Q l t
        (lent s k.parents k.tags k.firsts k.lasts (e' ++ drop (word_count Q) l.ends) (o' ++ drop p.total l.occurrences) (c' ++ drop (word_count Q * n) l.counts) k.work)
    all_builds e' o' c' v =
        record {
          reply = read_is ∙ sym all.reply;
          slots = h.slots ∙ ap (slots_after T l.slots) (judged ∙ sym read_is);
          parents = w.parents;
          tags = w.tags;
          firsts = w.firsts;
          lasts = w.lasts;
          ends = row e' (ends_for T Q (word_count Q)) l.ends (word_count Q) v.ends ends-long;
          occurrences = row o' (lists_to T Q (word_count Q)) l.occurrences p.total v.lists (sym lists);
          counts = row c' (counts_for T Q (word_count Q)) l.counts (word_count Q * n) v.counts counts-long;
          work = w.work;
        }
      where
        ends-long : length (ends_for T Q (word_count Q)) ≡ word_count Q
        ends-long = unfold ends_for in length-tabulate (word_count Q) _

        counts-long : length (counts_for T Q (word_count Q)) ≡ word_count Q * n
        counts-long = unfold counts_for in length-tabulate (word_count Q * length (tree_of T)) _ ∙ ap (λ (x : ℕ). word_count Q * x) nodes

-- ---- the contract
-- What a reply leaves.
abbrev pub after : List ℕ → Query → Lent → Reply → Lent
after T Q l r =
    lent (slots_after T l.slots r) (kept_or r (parents_of (tree_of T)) l.parents) (kept_or r (tags_in (tree_of T)) l.tags) (kept_or r (firsts_of (tree_of T)) l.firsts) (kept_or r (lasts_of (tree_of T)) l.lasts)
    (kept_or r (ends_for T Q (word_count Q)) l.ends) (kept_or r (lists_to T Q (word_count Q)) l.occurrences) (kept_or r (counts_for T Q (word_count Q)) l.counts)
    (cond (eqb r.refusal accepted) (zeroed (3 * length (tree_of T)) l.work) l.work)

pub leaves_after : (T : List ℕ) (Q : Query) (l : Lent) (r : Reply) (b : Lent) → Builds T Q l r b → b ≡ after T Q l r
leaves_after T Q l r b x = rw (x.slots, x.parents, x.tags, x.firsts, x.lasts, x.ends, x.occurrences, x.counts, x.work)

pub build_unique : (T : List ℕ) (Q : Query) (l : Lent) (r r' : Reply) (b b' : Lent) → Builds T Q l r b → Builds T Q l r' b' → (r ≡ r') × (b ≡ b')
build_unique T Q l r r' b b' x y = let same : r ≡ r' = x.reply ∙ sym y.reply in (same, leaves_after T Q l r b x ∙ ap (after T Q l) same ∙ sym (leaves_after T Q l r' b' y))
