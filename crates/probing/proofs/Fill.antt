-- The table after a row of numbers ks, each of which names a word. The theorems, for a table that began with every slot free:
--   fill-fits, fill_fails   the words fit exactly if the distinct ones do not outnumber the slots
--   fill-found   a lookup of any word comes to a slot, one that holds it, exactly if some number of ks names it
--   fill_stops   the search for a word that is named stops at the one slot that holds it; for another, at a free slot, or at none, and then all are taken
--   fill-once    each word that is named stands in one slot, and no other word in any
--   fill-first   a slot that is taken holds a number of `firsts`: the first that names its word
--   fill-only    so it holds a number of ks
--   fill-apart   two words that differ stand in two slots, whatever their hashes
--   fill-rule    a word new at its turn goes into the first free slot, cyclically from its home, of the table as it was then; it stays there
-- On the way, for any table:
--   fits o       == the outcome o is a table
--   onto b ks    == the numbers ks on top of b, the last one first; names-onto: it names what either names
--   Sound b w    == w is settled, and just the words that b names are found in it; sound-blank: so is a table with every slot free
--   fill-counts, fill-sound   when ks fit into a sound table, and that it is sound then
--   fill-keeps, fill-source   what stays in it, and what is new
--   fill-append  a row of numbers in two parts
-- Letters: q p words; k j numbers that name words; ks l rows of such numbers; b the numbers before; w w' tables; i s slots; o an outcome. Assumes nothing.
use Prim.Native.Nat.{ℕ, suc, ◌+◌, ◌≤◌, ◌<◌}
use mathlib.Core.Path.{◌≡◌, refl, sym, ap, subst, ◌∙◌}
use mathlib.Core.Logic.{◌⊎◌, inl, inr, ⊎_elim, ◌↔◌}
use mathlib.Core.List.{List, [], ◌∷◌, ◌++◌}
use mathlib.Core.Bool.{Bool, true, false, cond, ◌||◌, false≢true, or-false, or_assoc, or_comm}
use mathlib.Core.Option.{Option, none, some}
use native.Mathlib.Omega.{arith}
use lib.Dec.{eqb, ltb, leb}
use lib.ListN.{length, get_or, set}
use borrow.Author.Tests.{lt-ltb, le-ltb, le-leb, lt-leb, leb-false, eq-eqb}
use Rattle.seq.specs.Lists.{some_of, tally, same_list}
use Rattle.seq.proofs.Laws.Bools.{bool_cases, or_left, or_right, or_cases}
use Rattle.seq.proofs.Laws.Lists.{tally_le, same_list-is, same_list_self}
use Rattle.probing.specs.Table.{blank, taken, then_fill, holds, names, firsts, slot_of, free_of, found, lookup, fill}
use Rattle.probing.proofs.Laws.Tallies.{tally-none}
use Rattle.probing.proofs.Laws.Table.{holds-own, holds-one, blank-at, slot_le, slot-free, lookup-held, lookup-none, insert_cases}
use Rattle.probing.proofs.Laws.Table.{Settled, settled-blank, found-blank, found_at, found_of, slot-of, holds-none, slot-rule, holds-once, slots-taken, slots-full}
use Rattle.probing.proofs.Laws.Table.{settled-put, kept_put, put-at, now-holds, tally-put, found-put}

abbrev pub fits : Option (List ℕ) → Bool
fits none = false
fits (some w) = true

unfoldable pub onto : List ℕ → List ℕ → List ℕ
onto b [] = b
onto b (k ∷ ks) = onto (k ∷ b) ks

none-some : {w : List ℕ} → ◌≡◌ {A = Option (List ℕ)} none (some w) → ⊥
none-some e = false≢true (ap fits e)

some_is : (w w' : List ℕ) → ◌≡◌ {A = Option (List ℕ)} (some w) (some w') → w ≡ w'
some_is w w' e = cc

-- ---- the words that a row names
module _ (named : ℕ → List ℕ) where
  names-cons : (k : ℕ) (b q : List ℕ) → names named (k ∷ b) q ≡ (same_list q (named k) || names named b q)
  unfolding names some_of
  names-cons k b q = refl

  pub names-onto : (b ks q : List ℕ) → names named (onto b ks) q ≡ (names named b q || names named ks q)
  unfolding names some_of onto
  names-onto b [] q = sym (or-false (names named b q))
  names-onto b (k ∷ ks) q =
      names-onto (k ∷ b) ks q ∙ ap (λ z. z || names named ks q) (or_comm (same_list q (named k)) (names named b q)) ∙
      or_assoc (names named b q) (same_list q (named k)) (names named ks q)

  firsts-among : (b ks : List ℕ) (j : ℕ) → some_of (eqb j) (firsts named b ks) ≡ true → some_of (eqb j) ks ≡ true
  unfolding some_of firsts
  firsts-among b [] j e = e
  firsts-among b (k ∷ ks) j e =
      ⊎_elim (λ h. or_right (eqb j k) (some_of (eqb j) ks) (firsts-among (k ∷ b) ks j (rw h at e)))
      (λ h. ⊎_elim (λ g. or_left (eqb j k) (some_of (eqb j) ks) g) (λ g. or_right (eqb j k) (some_of (eqb j) ks) (firsts-among (k ∷ b) ks j g))
      (or_cases (eqb j k) (some_of (eqb j) (firsts named (k ∷ b) ks)) (rw h at e)))
      (bool_cases (names named b (named k)))

module _ (m : ℕ) (hash : List ℕ → ℕ) (named : ℕ → List ℕ) where
  -- w with k in the slot at which the search for its word stops.
  abbrev added : ℕ → List ℕ → List ℕ
  added k w = set w (slot_of m hash named (named k) w) (suc k)

  -- What is known of a table that holds the words of b.
  pub record Sound (b w : List ℕ) : Type 0 where
    pub stands : Settled m hash named w
    pub agrees : (q : List ℕ) → found m hash named q w ≡ names named b q

  pub sound-blank : Sound [] (blank m)
  unfolding names some_of
  sound-blank = record { stands = settled-blank m hash named; agrees = found-blank m hash named }

  -- ---- one insertion
  module _ (b w : List ℕ) (so : Sound b w) (k : ℕ) where
    -- A word that is there already.
    again : found m hash named (named k) w ≡ true → Sound (k ∷ b) w
    again e = record { stands = so.stands; agrees = λ q. ⊎_elim (yes q) (no q) (bool_cases (same_list q (named k))) ∙ sym (names-cons named k b q) }
      where
        yes : (q : List ℕ) → same_list q (named k) ≡ true → found m hash named q w ≡ (same_list q (named k) || names named b q)
        yes q h = ap (λ z. found m hash named z w) (same_list-is q (named k) h) ∙ e ∙ sym (or_left (same_list q (named k)) (names named b q) h)

        no : (q : List ℕ) → same_list q (named k) ≡ false → found m hash named q w ≡ (same_list q (named k) || names named b q)
        no q h = so.agrees q ∙ ap (λ t. t || names named b q) (sym h)

    -- A new word.
    placed : found m hash named (named k) w ≡ false → slot_of m hash named (named k) w < m → Sound (k ∷ b) (added k w)
    placed e l =
        record {
          stands = settled-put m hash named w so.stands k e l;
          agrees = λ q. found-put m hash named w so.stands k e l q ∙ ap (λ t. same_list q (named k) || t) (so.agrees q) ∙ sym (names-cons named k b q);
        }

    firsts-known : (ks : List ℕ) → found m hash named (named k) w ≡ true → firsts named b (k ∷ ks) ≡ firsts named (k ∷ b) ks
    unfolding firsts
    firsts-known ks e = rw (sym (so.agrees (named k)) ∙ e)

    firsts-new : (ks : List ℕ) → found m hash named (named k) w ≡ false → firsts named b (k ∷ ks) ≡ k ∷ firsts named (k ∷ b) ks
    unfolding firsts
    firsts-new ks e = rw (sym (so.agrees (named k)) ∙ e)

  -- ---- a row of numbers
  pub fill-counts : (ks b w : List ℕ) → Sound b w → fits (fill m hash named ks w) ≡ leb (tally taken w + length (firsts named b ks)) m
  unfolding fill
  fill-counts [] b w so = sym (le-leb (tally taken w + length (firsts named b [])) m (unfold firsts in omega (arith, tally_le taken w, so.stands.long)))
  fill-counts (k ∷ ks) b w so =
      insert_cases m hash named k w (λ o. fits (then_fill o (fill m hash named ks)) ≡ leb (tally taken w + length (firsts named b (k ∷ ks))) m)
      (λ e. fill-counts ks (k ∷ b) w (again b w so k e) ∙ ap (λ l. leb (tally taken w + length l) m) (sym (firsts-known b w so k ks e)))
      (λ e l. fill-counts ks (k ∷ b) (added k w) (placed b w so k e l) ∙ ap (λ z. leb z m) (one_more e l))
      (λ e l. sym (lt-leb (tally taken w + length (firsts named b (k ∷ ks))) m
      (omega (arith, slots-full m hash named w so.stands (named k) l, ap length (firsts-new b w so k ks e)))))
    where
      one_more : (e : found m hash named (named k) w ≡ false) (l : slot_of m hash named (named k) w < m) →
          tally taken (added k w) + length (firsts named (k ∷ b) ks) ≡ tally taken w + length (firsts named b (k ∷ ks))
      one_more e l = omega (arith, tally-put m hash named w so.stands k e l, ap length (firsts-new b w so k ks e))

  pub fill-sound : (ks b w w' : List ℕ) → Sound b w → fill m hash named ks w ≡ some w' → Sound (onto b ks) w'
  unfolding fill onto
  fill-sound [] b w w' so = λ d. subst (Sound b) (some_is w w' d) so
  fill-sound (k ∷ ks) b w w' so =
      insert_cases m hash named k w (λ o. then_fill o (fill m hash named ks) ≡ some w' → Sound (onto (k ∷ b) ks) w')
      (λ e d. fill-sound ks (k ∷ b) w w' (again b w so k e) d)
      (λ e l d. fill-sound ks (k ∷ b) (added k w) w' (placed b w so k e l) d)
      (λ e l d. absurd (none-some d))

  -- A slot that is taken is never changed.
  pub fill-keeps : (ks b w w' : List ℕ) → Sound b w → fill m hash named ks w ≡ some w' → (i j : ℕ) → get_or w i 0 ≡ suc j → get_or w' i 0 ≡ suc j
  unfolding fill
  fill-keeps [] b w w' so = λ d i j h. ap (λ v. get_or v i 0) (sym (some_is w w' d)) ∙ h
  fill-keeps (k ∷ ks) b w w' so =
      insert_cases m hash named k w (λ o. then_fill o (fill m hash named ks) ≡ some w' → (i j : ℕ) → get_or w i 0 ≡ suc j → get_or w' i 0 ≡ suc j)
      (λ e d. fill-keeps ks (k ∷ b) w w' (again b w so k e) d)
      (λ e l d i j h. fill-keeps ks (k ∷ b) (added k w) w' (placed b w so k e l) d i j (kept_put m hash named w so.stands k e l i j h))
      (λ e l d. absurd (none-some d))

  -- And a slot that is taken after ks was so before, or holds the first of them that names its word.
  pub fill-source : (ks b w w' : List ℕ) → Sound b w → fill m hash named ks w ≡ some w' →
      (i j : ℕ) → get_or w' i 0 ≡ suc j → (get_or w i 0 ≡ suc j) ⊎ (some_of (eqb j) (firsts named b ks) ≡ true)
  unfolding fill
  fill-source [] b w w' so = λ d i j h. inl (ap (λ v. get_or v i 0) (some_is w w' d) ∙ h)
  fill-source (k ∷ ks) b w w' so =
      insert_cases m hash named k w
      (λ o. then_fill o (fill m hash named ks) ≡ some w' → (i j : ℕ) → get_or w' i 0 ≡ suc j → (get_or w i 0 ≡ suc j) ⊎ (some_of (eqb j) (firsts named b (k ∷ ks)) ≡ true))
      (λ e d i j h. ⊎_elim inl (λ g. inr (ap (some_of (eqb j)) (firsts-known b w so k ks e) ∙ g)) (fill-source ks (k ∷ b) w w' (again b w so k e) d i j h))
      (λ e l d i j h. ⊎_elim
      (λ g. ⊎_elim (λ c. inr (first-is e j (or_left (eqb j k) _ (eq-eqb j k c.1)))) (λ c. inl c.1) (now-holds m hash named w so.stands k e l i j g))
      (λ g. inr (first-is e j (or_right (eqb j k) _ g)))
      (fill-source ks (k ∷ b) (added k w) w' (placed b w so k e l) d i j h))
      (λ e l d. absurd (none-some d))
    where
      first-is : found m hash named (named k) w ≡ false → (j : ℕ) → (eqb j k || some_of (eqb j) (firsts named (k ∷ b) ks)) ≡ true → some_of (eqb j) (firsts named b (k ∷ ks)) ≡ true
      first-is e j h = ap (some_of (eqb j)) (firsts-new b w so k ks e) ∙ unfold some_of in h

  -- A row of numbers in two parts.
  pub fill-append : (ks l w : List ℕ) → fill m hash named (ks ++ l) w ≡ then_fill (fill m hash named ks w) (fill m hash named l)
  unfolding fill
  fill-append [] l w = refl
  fill-append (k ∷ ks) l w =
      insert_cases m hash named k w
      (λ o. then_fill o (fill m hash named (ks ++ l)) ≡ then_fill (then_fill o (fill m hash named ks)) (fill m hash named l))
      (λ e. fill-append ks l w)
      (λ e d. fill-append ks l (added k w))
      (λ e d. refl)

  -- ---- the theorems
  pub fill-fits : (ks : List ℕ) → fits (fill m hash named ks (blank m)) ≡ leb (length (firsts named [] ks)) m
  fill-fits ks = fill-counts ks [] (blank m) sound-blank ∙ ap (λ z. leb z m) all
    where
      all : tally taken (blank m) + length (firsts named [] ks) ≡ length (firsts named [] ks)
      all = omega (arith, tally-none taken (blank m) (λ i l. ap taken (blank-at m i)))

  pub fill_fails : (ks : List ℕ) → (fill m hash named ks (blank m) ≡ none) ↔ (m < length (firsts named [] ks))
  fill_fails ks = (
    λ e. leb-false (length (firsts named [] ks)) m (sym (fill-fits ks) ∙ ap fits e),
    λ l. fails (fill m hash named ks (blank m)) (fill-fits ks ∙ lt-leb (length (firsts named [] ks)) m l),
  )
    where
      fails : (o : Option (List ℕ)) → fits o ≡ false → o ≡ none
      fails none e = refl
      fails (some w) e = absurd (false≢true (sym e))

  module _ (ks w : List ℕ) (done : fill m hash named ks (blank m) ≡ some w) where
    sound : Sound (onto [] ks) w
    sound = fill-sound ks [] (blank m) w sound-blank done

    found-is : (q : List ℕ) → found m hash named q w ≡ names named ks q
    found-is q = sound.agrees q ∙ names-onto named [] ks q ∙ unfold names some_of in refl

    pub fill-first : (i j : ℕ) → get_or w i 0 ≡ suc j → some_of (eqb j) (firsts named [] ks) ≡ true
    fill-first i j e =
        ⊎_elim (λ h. let z : ◌≡◌ {A = ℕ} 0 (suc j) = sym (blank-at m i) ∙ h in absurd (omega arith)) (λ h. h)
        (fill-source ks [] (blank m) w sound-blank done i j e)

    pub fill-only : (i j : ℕ) → get_or w i 0 ≡ suc j → some_of (eqb j) ks ≡ true
    fill-only i j e = firsts-among named [] ks j (fill-first i j e)

    pub fill-once : (q : List ℕ) → tally (holds named q) w ≡ cond (names named ks q) 1 0
    fill-once q = holds-once m hash named w sound.stands q ∙ ap (λ b. cond b 1 0) (found-is q)

    -- The slot at which a search stops: where q is named, the one that holds it; where it is not, a free one, or none, and then every slot is taken.
    pub record Stops (q : List ℕ) : Type 0 where
      pub within : slot_of m hash named q w ≤ m
      pub in_table : names named ks q ≡ true → slot_of m hash named q w < m
      pub held : holds named q (get_or w (slot_of m hash named q w) 0) ≡ names named ks q
      pub one : (i : ℕ) → holds named q (get_or w i 0) ≡ true → i ≡ slot_of m hash named q w
      pub free : names named ks q ≡ false → get_or w (slot_of m hash named q w) 0 ≡ 0
      pub full : slot_of m hash named q w ≡ m → (i : ℕ) → i < m → taken (get_or w i 0) ≡ true

    pub fill_stops : (q : List ℕ) → Stops q
    fill_stops q =
        record {
          within = slot_le m hash named q w;
          in_table = λ e. (found_at m hash named q w sound.stands.long (found-is q ∙ e)).below;
          held = unfold found in found-is q;
          one = λ i h. sym (slot-of m hash named w sound.stands q i h);
          free = λ e. slot-free m hash named q w sound.stands.long (found-is q ∙ e);
          full = λ e. slots-taken m hash named w sound.stands q (omega arith);
        }

    -- The slot that a lookup gives.
    pub record Looked (q : List ℕ) : Type 0 where
      pub in_table : ltb (lookup m hash named q w) m ≡ names named ks q
      pub held : holds named q (get_or w (lookup m hash named q w) 0) ≡ names named ks q

    pub fill-found : (q : List ℕ) → Looked q
    fill-found q = ⊎_elim yes no (bool_cases (names named ks q))
      where
        yes : names named ks q ≡ true → Looked q
        yes e =
            let to : lookup m hash named q w ≡ slot_of m hash named q w = lookup-held m hash named q w (found-is q ∙ e) in
            record {
              in_table = ap (λ s. ltb s m) to ∙ lt-ltb (slot_of m hash named q w) m ((fill_stops q).in_table e) ∙ sym e;
              held = ap (λ s. holds named q (get_or w s 0)) to ∙ (fill_stops q).held;
            }

        no : names named ks q ≡ false → Looked q
        no e =
            record {
              in_table = ap (λ s. ltb s m) (lookup-none m hash named q w (found-is q ∙ e)) ∙ le-ltb m m (omega arith) ∙ sym e;
              held = holds-none m hash named w sound.stands q (found-is q ∙ e) (lookup m hash named q w) ∙ sym e;
            }

    pub fill-apart : (q p : List ℕ) → names named ks q ≡ true → names named ks p ≡ true → same_list q p ≡ false → lookup m hash named q w ≡ lookup m hash named p w → ⊥
    fill-apart q p a b n e = false≢true (sym n ∙ ap (λ z. same_list z p) one ∙ same_list_self p)
      where
        one : q ≡ p
        one = holds-one named q p (get_or w (lookup m hash named q w) 0) ((fill-found q).held ∙ a) (ap (λ s. holds named p (get_or w s 0)) e ∙ (fill-found p).held ∙ b)

    -- The next number names a new word, and more may follow: it goes into the first free slot, from its word's home on, of the table as it is now.
    pub record Placed (k : ℕ) (w' : List ℕ) : Type 0 where
      pub there : free_of m hash (named k) w < m
      pub stays : get_or w' (free_of m hash (named k) w) 0 ≡ suc k
      pub looked : lookup m hash named (named k) w' ≡ free_of m hash (named k) w

    pub fill-rule : (k : ℕ) (l w' : List ℕ) → names named ks (named k) ≡ false → fill m hash named (k ∷ l) w ≡ some w' → Placed k w'
    unfolding fill
    fill-rule k l w' new =
        insert_cases m hash named k w (λ o. then_fill o (fill m hash named l) ≡ some w' → Placed k w')
        (λ e d. absurd (false≢true (sym new ∙ sym (found-is (named k)) ∙ e)))
        (λ e s d. goes e s d)
        (λ e s d. absurd (none-some d))
      where
        goes : (e : found m hash named (named k) w ≡ false) (s : slot_of m hash named (named k) w < m) → fill m hash named l (added k w) ≡ some w' → Placed k w'
        goes e s d =
            record {
              there = omega (arith, rule, s);
              stays = stays;
              looked = lookup-held m hash named (named k) w' (found_of m hash named w' after (named k) (free_of m hash (named k) w) own) ∙
                  slot-of m hash named w' after (named k) (free_of m hash (named k) w) own;
            }
          where
            rule : slot_of m hash named (named k) w ≡ free_of m hash (named k) w
            rule = slot-rule m hash named w sound.stands (named k) e

            next : Sound (k ∷ onto [] ks) (added k w)
            next = placed (onto [] ks) w sound k e s

            after : Settled m hash named w'
            after = (fill-sound l (k ∷ onto [] ks) (added k w) w' next d).stands

            stays : get_or w' (free_of m hash (named k) w) 0 ≡ suc k
            stays =
                ap (λ z. get_or w' z 0) (sym rule) ∙
                fill-keeps l (k ∷ onto [] ks) (added k w) w' next d (slot_of m hash named (named k) w) k (put-at m hash named w sound.stands k e s)

            own : holds named (named k) (get_or w' (free_of m hash (named k) w) 0) ≡ true
            own = holds-own named k (get_or w' (free_of m hash (named k) w) 0) stays
