-- Demand 1 of the reply that every call gives: which number exactly when, at which place, with which total. Assumes nothing.
--   Finds            what a call finds: the first thing that is wrong, or none, with the reply
--   found            the reply of the definitions is that of what is found
--   replied          it meets demand 1
--   replied_unique   no other reply does
-- Letters: I index, w work's length; F there is room, `fits` its test; m answers, r reply.
use Prim.Native.Nat.{ℕ, ◌*◌, ◌<◌}
use mathlib.Core.Path.{◌≡◌, refl, sym, ap, ◌∙◌}
use mathlib.Core.Logic.{◌↔◌, ◌⊎◌, inl, inr, ⊎_elim}
use mathlib.Core.Bool.{Bool, true, cond}
use native.Mathlib.Omega.{arith}
use lib.ListN.{length}
use Rattle.seq.specs.Plain.{LowestBad}
use Rattle.seq.proofs.Laws.Bools.{bool_cases, bool-not_both}
use Rattle.seq.proofs.Laws.Numbers.{less_or}
use Rattle.seq.proofs.Laws.Plain.{lowest-first, lowest_unique}
use Rattle.tree.specs.Rules.{node_ok, tree_bad}
use Rattle.tree.specs.Plain.{NodeKept, Lawful}
use Rattle.tree.proofs.Laws.Rules.{node_kept, node-yes, lawful-of, lawful-node}
use Rattle.index.specs.declared.Reply.{Reply}
use Rattle.index.specs.Index.{Index, nodes, words}
use Rattle.index.specs.Rules.{word_ok, lists_bad, count_ok, counts_bad}
use Rattle.index.specs.Replies.{accepted, SIZE, TREE, LIST, COUNT, ROOM, refused, totalled, size_ok, checked}
use Rattle.index.specs.Plain.{Sized, WordKept, ListsKept, CountKept, CountsKept, Right}
use Rattle.index.proofs.Laws.Sizes.{sized_of, sized-yes}
use Rattle.index.proofs.Laws.Lists.{words-kept, word_kept, word-yes}
use Rattle.index.proofs.Laws.Counts.{count_kept, count_yes, counts-entry}
use Rattle.index.proofs.Laws.Replies.{checked-size, checked-tree, checked-list, checked-count, checked-all}
use Rattle.index.proofs.Acceptance.{clean-right}
use Rattle.demands.specs.Calls.{Replied}

-- ---- what a call finds
pub data Finds (most : ℕ) (I : Index) (w : ℕ) (F : Type 0) (m : ℕ) (r : Reply) : Type 0 where
  no_size : (Sized most I w → ⊥) → r ≡ refused SIZE 0 → Finds most I w F m r
  no_tree : Sized most I w → (at : ℕ) → LowestBad (nodes I) (NodeKept I.parents I.tags) at → r ≡ refused TREE at → Finds most I w F m r
  no_list : Sized most I w → Lawful I.parents I.tags → (at : ℕ) → LowestBad (words I) (WordKept (nodes I) I.ends I.occurrences) at →
      r ≡ refused LIST at → Finds most I w F m r
  no_count : Sized most I w → Lawful I.parents I.tags → ListsKept I → (at : ℕ) → LowestBad (words I * nodes I) (CountKept I) at →
      r ≡ refused COUNT at → Finds most I w F m r
  no_room : Sized most I w → Right I → (F → ⊥) → r ≡ totalled ROOM m → Finds most I w F m r
  all_good : Sized most I w → Right I → F → r ≡ totalled accepted m → Finds most I w F m r

module _ (most : ℕ) (I : Index) (w : ℕ) (F : Type 0) (fits : Bool) (m : ℕ) (to : fits ≡ true → F) (of : F → fits ≡ true) where
  abbrev answer : Reply
  answer = totalled (cond fits accepted ROOM) m

  -- The index is right: then room decides.
  right_finds : Sized most I w → Right I → checked most I w answer ≡ answer → Finds most I w F m (checked most I w answer)
  right_finds s R e =
      ⊎_elim (λ q. all_good s R (to q) (e ∙ ap (λ (b : Bool). totalled (cond b accepted ROOM) m) q))
      (λ q. no_room s R (λ h. bool-not_both fits (of h) q) (e ∙ ap (λ (b : Bool). totalled (cond b accepted ROOM) m) q)) (bool_cases fits)

  module _ (e : size_ok most I w ≡ true) where
    sized : Sized most I w
    sized = sized_of most I w e

    ended : length I.ends * nodes I ≡ words I * nodes I
    ended = ap (λ (k : ℕ). k * nodes I) sized.ended

    bad-node : tree_bad I.parents I.tags < nodes I → LowestBad (nodes I) (NodeKept I.parents I.tags) (tree_bad I.parents I.tags)
    unfolding tree_bad
    bad-node = lowest-first (nodes I) (node_ok I.parents I.tags) (NodeKept I.parents I.tags) (λ i l. node_kept I.parents I.tags i)
        (λ i l. node-yes I.parents I.tags i)

    bad-word : lists_bad (nodes I) I.ends I.occurrences < words I →
        LowestBad (words I) (WordKept (nodes I) I.ends I.occurrences) (lists_bad (nodes I) I.ends I.occurrences)
    unfolding lists_bad
    bad-word = rw sized.ended (lowest-first (words I) (word_ok (nodes I) I.ends I.occurrences) (WordKept (nodes I) I.ends I.occurrences)
        (λ j l. word_kept (nodes I) I.ends I.occurrences j) (λ j l. word-yes (nodes I) I.ends I.occurrences j))

    bad-entry : counts_bad I.parents I.ends I.occurrences I.counts < words I * nodes I →
        LowestBad (words I * nodes I) (CountKept I) (counts_bad I.parents I.ends I.occurrences I.counts)
    unfolding counts_bad
    bad-entry = rw sized.ended (lowest-first (words I * nodes I) (count_ok I.parents I.ends I.occurrences I.counts) (CountKept I)
        (λ i l. count_kept I i) (λ i l. count_yes I sized.some_nodes i))

    sized_finds : Finds most I w F m (checked most I w answer)
    sized_finds =
        ⊎_elim (λ l. no_tree sized _ (bad-node l) (checked-tree most I w answer e l))
        (λ t. ⊎_elim (λ l. no_list sized (lawful-of I.parents I.tags t) _ (bad-word l) (checked-list most I w answer e t l))
        (λ b. ⊎_elim
        (λ l. no_count sized (lawful-of I.parents I.tags t) (words-kept (nodes I) I.ends I.occurrences (omega (arith, b, sized.ended))) _ (bad-entry l)
        (checked-count most I w answer e t b l))
        (λ c. right_finds sized (clean-right most I w (record { size = e; tree = t; lists = b; counts = c })) (checked-all most I w answer e t b c))
        (less_or (counts_bad I.parents I.ends I.occurrences I.counts) (words I * nodes I)))
        (less_or (lists_bad (nodes I) I.ends I.occurrences) (words I)))
        (less_or (tree_bad I.parents I.tags) (nodes I))

  pub found : Finds most I w F m (checked most I w answer)
  found =
      ⊎_elim sized_finds (λ e. no_size (λ s. bool-not_both (size_ok most I w) (sized-yes most I w s) e) (checked-size most I w answer e)) (bool_cases (size_ok most I w))

-- Two replies with the same numbers are one.
reply_ext : (a b : Reply) → a.refusal ≡ b.refusal → a.place ≡ b.place → a.total ≡ b.total → a ≡ b
reply_ext a b e f g =
    ap (λ (x : ℕ). record { refusal = x; place = a.place; total = a.total }) e ∙ ap (λ (x : ℕ). record { refusal = b.refusal; place = x; total = a.total }) f
    ∙ ap (λ (x : ℕ). record { refusal = b.refusal; place = b.place; total = x }) g

-- ---- demand 1
-- A bad node, word or entry.
module _ (most : ℕ) (I : Index) (w : ℕ) (s : Sized most I w) where
  unlawful : (at : ℕ) → LowestBad (nodes I) (NodeKept I.parents I.tags) at → Lawful I.parents I.tags → ⊥
  unlawful at b l = b.breaks (lawful-node I.parents I.tags l at b.within)

  unlisted : (at : ℕ) → LowestBad (words I) (WordKept (nodes I) I.ends I.occurrences) at → ListsKept I → ⊥
  unlisted at b k = b.breaks (k at (omega (arith, b.within, s.ended)))

  uncounted : (at : ℕ) → LowestBad (words I * nodes I) (CountKept I) at → CountsKept I → ⊥
  uncounted at b k = b.breaks (counts-entry I s.some_nodes k at (omega (arith, b.within, ap (λ (z : ℕ). z * nodes I) s.ended)))

-- A number x that is a is a exactly where A holds, if A does; and it is b exactly where B holds, if b is another number and B does not hold.
same : (x a : ℕ) (A : Type 0) → x ≡ a → A → (x ≡ a) ↔ A
same x a A e h = (λ q. h, λ q. e)

other : (x a b : ℕ) (B : Type 0) → x ≡ a → (a ≡ b → ⊥) → (B → ⊥) → (x ≡ b) ↔ B
other x a b B e ne fails = (λ q. absurd (ne (sym e ∙ q)), λ h. absurd (fails h))

module _ (most : ℕ) (I : Index) (w : ℕ) (F : Type 0) (m : ℕ) (r : Reply) where
  replied-of : Finds most I w F m r → Replied most I w F m r
  replied-of (no_size s e) =
      let n : r.refusal ≡ SIZE = ap (λ (z : Reply). z.refusal) e in
      record {
        accepts = other r.refusal SIZE accepted _ n (λ q. omega arith) (λ h. s h.0);
        size = same r.refusal SIZE _ n s;
        tree = other r.refusal SIZE TREE _ n (λ q. omega arith) (λ h. s h.0);
        list = other r.refusal SIZE LIST _ n (λ q. omega arith) (λ h. s h.0);
        count = other r.refusal SIZE COUNT _ n (λ q. omega arith) (λ h. s h.0);
        room = other r.refusal SIZE ROOM _ n (λ q. omega arith) (λ h. s h.0);
        tree_place = λ q. absurd (omega (arith, n, q));
        list_place = λ q. absurd (omega (arith, n, q));
        count_place = λ q. absurd (omega (arith, n, q));
        no_place = λ t l c. ap (λ (z : Reply). z.place) e;
        total = ⊎_elim (λ q. absurd (omega (arith, n, q))) (λ q. absurd (omega (arith, n, q)));
        no_total = λ a b. ap (λ (z : Reply). z.total) e;
      }
  replied-of (no_tree s at b e) =
      let n : r.refusal ≡ TREE = ap (λ (z : Reply). z.refusal) e in
      record {
        accepts = other r.refusal TREE accepted _ n (λ q. omega arith) (λ h. unlawful most I w s at b h.1.tree);
        size = other r.refusal TREE SIZE _ n (λ q. omega arith) (λ h. h s);
        tree = same r.refusal TREE _ n (s, unlawful most I w s at b);
        list = other r.refusal TREE LIST _ n (λ q. omega arith) (λ h. unlawful most I w s at b h.1);
        count = other r.refusal TREE COUNT _ n (λ q. omega arith) (λ h. unlawful most I w s at b h.1);
        room = other r.refusal TREE ROOM _ n (λ q. omega arith) (λ h. unlawful most I w s at b h.1.tree);
        tree_place = λ q. rw (ap (λ (z : Reply). z.place) e) b;
        list_place = λ q. absurd (omega (arith, n, q));
        count_place = λ q. absurd (omega (arith, n, q));
        no_place = λ t l c. absurd (t n);
        total = ⊎_elim (λ q. absurd (omega (arith, n, q))) (λ q. absurd (omega (arith, n, q)));
        no_total = λ a b. ap (λ (z : Reply). z.total) e;
      }
  replied-of (no_list s l at b e) =
      let n : r.refusal ≡ LIST = ap (λ (z : Reply). z.refusal) e in
      record {
        accepts = other r.refusal LIST accepted _ n (λ q. omega arith) (λ h. unlisted most I w s at b h.1.lists);
        size = other r.refusal LIST SIZE _ n (λ q. omega arith) (λ h. h s);
        tree = other r.refusal LIST TREE _ n (λ q. omega arith) (λ h. h.1 l);
        list = same r.refusal LIST _ n (s, l, unlisted most I w s at b);
        count = other r.refusal LIST COUNT _ n (λ q. omega arith) (λ h. unlisted most I w s at b h.2);
        room = other r.refusal LIST ROOM _ n (λ q. omega arith) (λ h. unlisted most I w s at b h.1.lists);
        tree_place = λ q. absurd (omega (arith, n, q));
        list_place = λ q. rw (ap (λ (z : Reply). z.place) e) b;
        count_place = λ q. absurd (omega (arith, n, q));
        no_place = λ t l c. absurd (l n);
        total = ⊎_elim (λ q. absurd (omega (arith, n, q))) (λ q. absurd (omega (arith, n, q)));
        no_total = λ a b. ap (λ (z : Reply). z.total) e;
      }
  replied-of (no_count s l k at b e) =
      let n : r.refusal ≡ COUNT = ap (λ (z : Reply). z.refusal) e in
      record {
        accepts = other r.refusal COUNT accepted _ n (λ q. omega arith) (λ h. uncounted most I w s at b h.1.counts);
        size = other r.refusal COUNT SIZE _ n (λ q. omega arith) (λ h. h s);
        tree = other r.refusal COUNT TREE _ n (λ q. omega arith) (λ h. h.1 l);
        list = other r.refusal COUNT LIST _ n (λ q. omega arith) (λ h. h.2 k);
        count = same r.refusal COUNT _ n (s, l, k, uncounted most I w s at b);
        room = other r.refusal COUNT ROOM _ n (λ q. omega arith) (λ h. uncounted most I w s at b h.1.counts);
        tree_place = λ q. absurd (omega (arith, n, q));
        list_place = λ q. absurd (omega (arith, n, q));
        count_place = λ q. rw (ap (λ (z : Reply). z.place) e) b;
        no_place = λ t l c. absurd (c n);
        total = ⊎_elim (λ q. absurd (omega (arith, n, q))) (λ q. absurd (omega (arith, n, q)));
        no_total = λ a b. ap (λ (z : Reply). z.total) e;
      }
  replied-of (no_room s R f e) =
      let n : r.refusal ≡ ROOM = ap (λ (z : Reply). z.refusal) e in
      record {
        accepts = other r.refusal ROOM accepted _ n (λ q. omega arith) (λ h. f h.2);
        size = other r.refusal ROOM SIZE _ n (λ q. omega arith) (λ h. h s);
        tree = other r.refusal ROOM TREE _ n (λ q. omega arith) (λ h. h.1 R.tree);
        list = other r.refusal ROOM LIST _ n (λ q. omega arith) (λ h. h.2 R.lists);
        count = other r.refusal ROOM COUNT _ n (λ q. omega arith) (λ h. h.3 R.counts);
        room = same r.refusal ROOM _ n (s, R, f);
        tree_place = λ q. absurd (omega (arith, n, q));
        list_place = λ q. absurd (omega (arith, n, q));
        count_place = λ q. absurd (omega (arith, n, q));
        no_place = λ t l c. ap (λ (z : Reply). z.place) e;
        total = λ q. ap (λ (z : Reply). z.total) e;
        no_total = λ a b. absurd (b n);
      }
  replied-of (all_good s R f e) =
      let n : r.refusal ≡ accepted = ap (λ (z : Reply). z.refusal) e in
      record {
        accepts = same r.refusal accepted _ n (s, R, f);
        size = other r.refusal accepted SIZE _ n (λ q. omega arith) (λ h. h s);
        tree = other r.refusal accepted TREE _ n (λ q. omega arith) (λ h. h.1 R.tree);
        list = other r.refusal accepted LIST _ n (λ q. omega arith) (λ h. h.2 R.lists);
        count = other r.refusal accepted COUNT _ n (λ q. omega arith) (λ h. h.3 R.counts);
        room = other r.refusal accepted ROOM _ n (λ q. omega arith) (λ h. h.2 f);
        tree_place = λ q. absurd (omega (arith, n, q));
        list_place = λ q. absurd (omega (arith, n, q));
        count_place = λ q. absurd (omega (arith, n, q));
        no_place = λ t l c. ap (λ (z : Reply). z.place) e;
        total = λ q. ap (λ (z : Reply). z.total) e;
        no_total = λ a b. absurd (a n);
      }

  -- ---- no other reply meets it
  -- A reply with this number and this place, which is neither acceptance nor ROOM.
  refused-is : Replied most I w F m r → (number at : ℕ) → r.refusal ≡ number → r.place ≡ at → (number ≡ accepted → ⊥) → (number ≡ ROOM → ⊥) → r ≡ refused number at
  refused-is d number at n p a b = reply_ext r (refused number at) n p (d.no_total (λ q. a (sym n ∙ q)) (λ q. b (sym n ∙ q)))

  -- Acceptance or ROOM.
  totalled-is : Replied most I w F m r → (number : ℕ) → r.refusal ≡ number → (number ≡ accepted) ⊎ (number ≡ ROOM) → r ≡ totalled number m
  totalled-is d number n o =
      reply_ext r (totalled number m) n (d.no_place (λ q. apart TREE q (omega arith) (omega arith)) (λ q. apart LIST q (omega arith) (omega arith))
      (λ q. apart COUNT q (omega arith) (omega arith)))
      (d.total (⊎_elim (λ q. inl (n ∙ q)) (λ q. inr (n ∙ q)) o))
    where
      apart : (other : ℕ) → r.refusal ≡ other → 0 < other → other < 5 → ⊥
      apart other q a b = ⊎_elim (λ z. omega (arith, n, q, z)) (λ z. omega (arith, n, q, z)) o

  finds_unique : Replied most I w F m r → (d : Reply) → Finds most I w F m d → r ≡ d
  finds_unique D d (no_size s e) =
      let n : r.refusal ≡ SIZE = D.size.1 s in
      refused-is D SIZE 0 n (D.no_place (λ q. omega (arith, n, q)) (λ q. omega (arith, n, q)) (λ q. omega (arith, n, q))) (λ q. omega arith) (λ q. omega arith) ∙ sym e
  finds_unique D d (no_tree s at b e) =
      let n : r.refusal ≡ TREE = D.tree.1 (s, unlawful most I w s at b) in
      refused-is D TREE at n (lowest_unique _ _ r.place at (D.tree_place n) b) (λ q. omega arith) (λ q. omega arith) ∙ sym e
  finds_unique D d (no_list s l at b e) =
      let n : r.refusal ≡ LIST = D.list.1 (s, l, unlisted most I w s at b) in
      refused-is D LIST at n (lowest_unique _ _ r.place at (D.list_place n) b) (λ q. omega arith) (λ q. omega arith) ∙ sym e
  finds_unique D d (no_count s l k at b e) =
      let n : r.refusal ≡ COUNT = D.count.1 (s, l, k, uncounted most I w s at b) in
      refused-is D COUNT at n (lowest_unique _ _ r.place at (D.count_place n) b) (λ q. omega arith) (λ q. omega arith) ∙ sym e
  finds_unique D d (no_room s R f e) = totalled-is D ROOM (D.room.1 (s, R, f)) (inr refl) ∙ sym e
  finds_unique D d (all_good s R f e) = totalled-is D accepted (D.accepts.1 (s, R, f)) (inl refl) ∙ sym e

module _ (most : ℕ) (I : Index) (w : ℕ) (F : Type 0) (fits : Bool) (m : ℕ) (to : fits ≡ true → F) (of : F → fits ≡ true) where
  pub replied : Replied most I w F m (checked most I w (totalled (cond fits accepted ROOM) m))
  replied = replied-of most I w F m _ (found most I w F fits m to of)

  pub replied_unique : (r : Reply) → Replied most I w F m r → r ≡ checked most I w (totalled (cond fits accepted ROOM) m)
  replied_unique r D = finds_unique most I w F m r D _ (found most I w F fits m to of)
