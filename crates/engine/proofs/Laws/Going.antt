-- A pass over the lists, from its begin to its end: the results that the proofs of the code cite. Assumes nothing.
--   going-at, going-deep, going-pre   what one step asks holds between two steps
--   Stepped, going-stepped   one step keeps what holds
--   kept_refl, kept_trans, kept_since, kept-with   what a pass leaves of the stack, of out and of own
--   set-pre, going-begun   the begin
--   going-over          where the pass is over, the top need not stand in its place
--   counted-all, length-rows, written_all   the end: all answers have been counted, or written; how many own counts they have
--   sound-of            the checks show what is asked of a job
-- Letters: J job; u, u₀, u', u'' worlds; ys stack, r' reach, c' cursors; o, w out and own; b whether the smallest are listed; m answers left; i entry.
use Prim.Native.Nat.{ℕ, ◌+◌, ◌*◌, ◌≤◌, ◌<◌}
use mathlib.Core.Path.{◌≡◌, refl, sym, ap, subst, ◌∙◌}
use mathlib.Core.List.{List}
use mathlib.Core.Bool.{Bool, true, false}
use mathlib.Core.Logic.{⊎_elim}
use native.Mathlib.Nat.{mul-le-mul_right}
use native.Mathlib.Omega.{arith}
use lib.ListN.{length, get_or, length-set}
use Rattle.seq.specs.Memory.{over}
use Rattle.seq.specs.Plain.{StaysFrom}
use Rattle.seq.proofs.Laws.Bools.{bool_cases, bool-not_both}
use Rattle.seq.proofs.Laws.Gather.{length-gather, length-tabulate}
use Rattle.seq.proofs.Laws.Memory.{over-front}
use Rattle.seq.proofs.Laws.Plain.{stays-over, stays_unique}
use Rattle.seq.proofs.Laws.Lists as Under
use Rattle.tree.specs.Tree.{under}
use Rattle.tree.specs.Plain.{Lawful}
use Rattle.tree.proofs.Laws.Under.{under_le, parents-before}
use Rattle.index.specs.Plain.{WordKept}
use Rattle.answers.proofs.Laws.Full.{full_at}
use Rattle.engine.specs.declared.Entry.{Entry}
use Rattle.engine.specs.Inner.Entries.{fresh}
use Rattle.engine.specs.declared.cursors.Cursors.{Cursors}
use Rattle.engine.specs.Inner.Cursors.{Set}
use Rattle.engine.specs.Inner.Meaning.{occ, entry_at, node_at}
use Rattle.engine.specs.Inner.Going.{Job, World, nodes_of, words_of, list_of, is_answer, answers_of, total, own_rows, past_of, met_of, Sound, Written, Going, Kept, opened}
use Rattle.engine.proofs.Laws.Climbing.{answer-full}
use Rattle.engine.proofs.Laws.Opening.{standing-begun}
use Rattle.engine.proofs.Laws.Occurrences.{list-below}
use Rattle.engine.proofs.Laws.Cursors.{reaching-set, set_before}
use Rattle.engine.proofs.Laws.Counting.{past-none}
pub use Rattle.engine.proofs.Laws.Cursors.{set-pre}
pub use Rattle.engine.proofs.Laws.Asking.{going-at, going-deep, going-pre}
pub use Rattle.engine.proofs.Laws.Stepping.{Stepped, going-stepped}

-- ---- what a pass leaves
pub kept_refl : (J : Job) (u : World) → Kept J u u
kept_refl J u = record {
  smallest = refl;
  fill = refl;
  long = refl;
  rest = λ i l. refl;
  counted = λ f. (refl, refl);
  out = record { long = refl; same = λ i l. refl };
  own = record { long = refl; same = λ i l. refl };
  no_own = λ b. refl;
}

stays_same : (m : ℕ) (o o' : List ℕ) → o' ≡ o → StaysFrom m o o'
stays_same m o o' e = record { long = ap length e; same = λ i l. ap (λ (z : List ℕ). get_or z i 0) e }

stays-more : (m m' : ℕ) (o o' o'' : List ℕ) → m' ≤ m → StaysFrom m o o' → StaysFrom m' o' o'' → StaysFrom m o o''
stays-more m m' o o' o'' l a b = record { long = b.long ∙ a.long; same = λ i h. b.same i (omega arith) ∙ a.same i h }

-- Where answers are written, no fewer are left at first than later.
pub kept_trans : (J : Job) (u u' u'' : World) → Kept J u u' → Kept J u' u'' → (u.state.fill ≡ true → u'.state.left ≤ u.state.left) → Kept J u u''
kept_trans J u u' u'' a b falls = record {
  smallest = b.smallest ∙ a.smallest;
  fill = b.fill ∙ a.fill;
  long = b.long ∙ a.long;
  rest = λ i l. b.rest i l ∙ a.rest i l;
  counted = both;
  out = ⊎_elim (λ f. stays-more _ _ _ u'.out _ (falls f) a.out b.out) (λ f. stays_same _ _ _ (both f).0) (bool_cases u.state.fill);
  own = ⊎_elim
      (λ f. stays-more _ _ _ u'.own _ (mul-le-mul_right {m = u'.state.left} {n = u.state.left} (words_of J) (falls f)) a.own b.own)
      (λ f. stays_same _ _ _ (both f).1)
      (bool_cases u.state.fill);
  no_own = λ z. b.no_own (a.smallest ∙ z) ∙ a.no_own z;
}
  where
    both : u.state.fill ≡ false → (u''.out ≡ u.out) × (u''.own ≡ u.own)
    both f = ((b.counted (a.fill ∙ f)).0 ∙ (a.counted f).0, (b.counted (a.fill ∙ f)).1 ∙ (a.counted f).1)

-- In a pass that began with all answers left to write.
pub kept_since : (J : Job) (u₀ u u' : World) → (u₀.state.fill ≡ true → u₀.state.left ≡ total J u₀.state.smallest) → Kept J u₀ u → Going J u → Kept J u u' → Kept J u₀ u'
kept_since J u₀ u u' all a G b = kept_trans J u₀ u u' a b (λ f. omega (arith, all f, ap (total J) a.smallest, (G.writes (a.fill ∙ f)).left))

-- With a stack that is the same past its first 64 entries.
pub kept-with : (J : Job) (u₀ u : World) → Kept J u₀ u → (ys : List Entry) → length ys ≡ length u.stack → ((i : ℕ) → 64 ≤ i → get_or ys i (fresh 0) ≡ get_or u.stack i (fresh 0)) →
    Kept J u₀ (record { stack = ys; cursors = u.cursors; out = u.out; own = u.own; state = u.state })
kept-with J u₀ u a ys long rest = record {
  smallest = a.smallest;
  fill = a.fill;
  long = long ∙ a.long;
  rest = λ i l. rest i l ∙ a.rest i l;
  counted = a.counted;
  out = a.out;
  own = a.own;
  no_own = a.no_own;
}

-- ---- the begin
module _ (J : Job) (S : Sound J) (ys : List Entry) (wide : 64 ≤ length ys) (blank : entry_at ys 0 ≡ fresh 0) (r' : ℕ) (c' : Cursors) (T : Set J.ends J.occurrences r' c') where
  -- An answer has an occurrence under it, and every occurrence stands before the reach.
  none-met : (b : Bool) (v : ℕ) → v < nodes_of J → r' ≤ v → is_answer J b v ≡ true → ⊥
  unfolding is_answer
  none-met b v l h z =
      let f : Under.Entry (under J.parents v) (list_of J 0) = full_at J.parents (words_of J) (list_of J) v (answer-full J.parents (words_of J) (list_of J) b v z) 0 S.some_words in
      let e : 0 < 8 = omega arith in
      let a : v ≤ occ (list_of J) 0 f.at =
      under_le J.parents (nodes_of J) (parents-before J.parents (nodes_of J) S.preorder) v (occ (list_of J) 0 f.at) (list-below J S 0 e f.at f.below) f.passes
      in
      omega (arith, set_before J S r' c' T 0 f.at e f.below)

  pub going-begun : (b fill : Bool) (m : ℕ) (o w : List ℕ) → (fill ≡ false → m ≡ 0) →
      (fill ≡ true → (m ≡ total J b) × (total J b ≤ length o) × (b ≡ false → total J b * words_of J ≤ length w)) →
      Going J (record { stack = ys; cursors = c'; out = o; own = w; state = record { on = true; at = 0; reach = r'; left = m; smallest = b; fill = fill } })
  unfolding met_of
  going-begun b fill m o w counts writes = record {
    sound = S;
    wide = wide;
    standing = λ q. standing-begun J.parents S.preorder (words_of J) S.few_words (list_of J) (list-below J S) r' ys S.some (omega arith) blank (set_before J S r' c' T);
    reaching = λ q. reaching-set J S r' c' T;
    counts = λ f. counts f ∙ sym (none-counted);
    writes = λ f. record {
      left = omega (arith, (writes f).0, none-counted);
      room = (writes f).1;
      nodes = λ i l h. omega (arith, (writes f).0);
      own_room = (writes f).2;
      owns = λ z e l h. omega (arith, ap (λ (y : ℕ). y * words_of J) (writes f).0);
    };
  }
    where
      none-counted : past_of J b r' (node_at ys 0) ≡ 0
      none-counted = past-none J b r' (node_at ys 0) (none-met b)

-- ---- the end
module _ (J : Job) (u : World) (G : Going J u) (off : u.state.on ≡ false) where
  met_all : met_of J u ≡ total J u.state.smallest
  unfolding met_of
  met_all = rw off

  pub counted-all : u.state.fill ≡ false → u.state.left ≡ total J u.state.smallest
  counted-all f = G.counts f ∙ met_all

pub going-over : (J : Job) (v : World) (t : Entry) → Going J (opened v t) → v.state.on ≡ false → Going J v
unfolding met_of
going-over J v t G off = record {
  sound = G.sound;
  wide = omega (arith, G.wide, length-set v.stack v.state.at t);
  standing = λ on. absurd (bool-not_both v.state.on on off);
  reaching = G.reaching;
  counts = λ f. G.counts f ∙ met-same;
  writes = λ f. record {
    left = ap (λ (m : ℕ). v.state.left + m) (sym met-same) ∙ (G.writes f).left;
    room = (G.writes f).room;
    nodes = (G.writes f).nodes;
    own_room = (G.writes f).own_room;
    owns = (G.writes f).owns;
  };
}
  where
    met-same : met_of J (opened v t) ≡ met_of J v
    met-same = rw off

pub length-rows : (J : Job) (b : Bool) → length (own_rows J b) ≡ total J b * words_of J
unfolding own_rows
length-rows J b = length-gather (words_of J) (nodes_of J) (is_answer J b) _ (λ i l. length-tabulate (words_of J) _)

module _ (J : Job) (u₀ u : World) (f : u₀.state.fill ≡ true) (all : u₀.state.left ≡ total J u₀.state.smallest) (room : total J u₀.state.smallest ≤ length u₀.out)
    (own_room : u₀.state.smallest ≡ false → total J u₀.state.smallest * words_of J ≤ length u₀.own) (K : Kept J u₀ u) (G : Going J u) (off : u.state.on ≡ false) where
  abbrev listing : Bool
  listing = u₀.state.smallest

  written : Written J u
  written = G.writes (K.fill ∙ f)

  none_left : u.state.left ≡ 0
  none_left = omega (arith, written.left, met_all J u G off)

  node-written : (i : ℕ) → i < total J listing → get_or u.out i 0 ≡ get_or (answers_of J listing) i 0
  node-written i =
      subst (λ (b : Bool). i < total J b → get_or u.out i 0 ≡ get_or (answers_of J b) i 0) K.smallest (λ l. written.nodes i (omega (arith, none_left)) l)

  own-written : listing ≡ false → (i : ℕ) → i < total J listing * words_of J → get_or u.own i 0 ≡ get_or (own_rows J listing) i 0
  own-written z i =
      subst (λ (b : Bool). i < total J b * words_of J → get_or u.own i 0 ≡ get_or (own_rows J b) i 0) K.smallest
      (λ l. written.owns (K.smallest ∙ z) i (rw none_left (omega arith)) l)

  out-all : u.out ≡ over (answers_of J listing) u₀.out
  out-all =
      stays_unique (total J listing) u₀.out u.out (over (answers_of J listing) u₀.out) (subst (λ (m : ℕ). StaysFrom m u₀.out u.out) all K.out)
      (stays-over (answers_of J listing) u₀.out room) (λ i l. node-written i l ∙ sym (over-front (answers_of J listing) u₀.out i l))

  own-all : listing ≡ false → u.own ≡ over (own_rows J listing) u₀.own
  own-all z =
      let long : u₀.state.left * words_of J ≡ length (own_rows J listing) = ap (λ (m : ℕ). m * words_of J) all ∙ sym (length-rows J listing) in
      stays_unique (length (own_rows J listing)) u₀.own u.own (over (own_rows J listing) u₀.own) (subst (λ (m : ℕ). StaysFrom m u₀.own u.own) long K.own)
      (stays-over (own_rows J listing) u₀.own (omega (arith, length-rows J listing, own_room z)))
      (λ i l. own-written z i (omega (arith, length-rows J listing)) ∙ sym (over-front (own_rows J listing) u₀.own i l))

  -- All answers are written, in the order of their numbers, and nothing else.
  pub written_all : (u.out ≡ over (answers_of J listing) u₀.out) × (listing ≡ false → u.own ≡ over (own_rows J listing) u₀.own) × (listing ≡ true → u.own ≡ u₀.own)
  written_all = (out-all, own-all, K.no_own)

-- ---- what the checks have shown
pub sound-of : (J : Job) (t : List ℕ) → Lawful J.parents t → 1 ≤ nodes_of J → nodes_of J ≤ 65536 → 1 ≤ words_of J → words_of J ≤ 8 →
    ((j : ℕ) → j < words_of J → WordKept (nodes_of J) J.ends J.occurrences j) → Sound J
sound-of J t L some few some_words few_words lists = record {
  some = some;
  few = few;
  some_words = some_words;
  few_words = few_words;
  preorder = L.preorder;
  levels = L.levels;
  lists = lists;
}
