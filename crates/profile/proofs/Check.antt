-- The reader that only counts gives the outcome without its nodes.
--   tally_of m      == the tally of a memory
--   count-tally    it follows the memory, byte by byte
--   reply-brief    so the reply is the outcome, cut short
--   check-at, check-end   the check by places, as a loop over the text makes it
-- Letters: j a place, s a state, m a memory, c a tally, t a row of bytes. Assumes nothing.
use Prim.Native.Nat.{ℕ, suc, ◌+◌, ◌<◌, pred}
use mathlib.Core.Path.{◌≡◌, refl, sym, ap, ◌∙◌}
use mathlib.Core.List.{List, [], ◌∷◌, ◌++◌, append-nil}
use mathlib.Core.Bool.{Bool, true, false, not, cond, ◌&&◌, ◌||◌}
use mathlib.Core.Option.{Option, none, some}
use native.Mathlib.Omega.{arith}
use lib.Dec.{eqb, ltb, leb}
use lib.ListN.{length, drop, get_or, length-append}
use lib.Seq.{drop-cons, drop-length}
use Rattle.profile.specs.Bytes.{'<', '>', white}
use Rattle.profile.specs.Machine.{Place, before, after, inside, b0, State, between, angle, in_comment, in_name, in_tag, in_empty, in_end_tag, ampersand, ampersand_a, owing, step, accepting}
use Rattle.profile.specs.Tree.{Node, Held, nothing, held, datum}
use Rattle.profile.specs.Reader.{Memory, popped, flushed, holds, marked, opened, closed, note_between, note, fresh}
use Rattle.profile.specs.Limits.{Outcome, accepted, markup_at, Key, key, keys_of, first_over}
use Rattle.profile.specs.Scan.{judged, scan, outcome}
use Rattle.profile.specs.Check.{Tally, meets, depth_after, solid_after, count, whole, broken, brief, weighed, full, check, reply_to}
use Rattle.profile.proofs.Markup.{none-some}
use Rattle.profile.proofs.Adds.{met_keys, is_solid, Adds, note-adds}

abbrev pub tally_of : Memory → Tally
tally_of m = record { met = length (met_keys m); depth = length m.path; solid = is_solid m.held }

-- ---- one byte
met-after : (m m' : Memory) (b : Bool) (j : ℕ) → Adds m b j m' → length (met_keys m') ≡ cond b (suc (length (met_keys m))) (length (met_keys m))
unfolding Adds
met-after m m' true j e = omega (arith, ap length e, length-append (met_keys m) (key (suc (length m.path)) j ∷ []))
met-after m m' false j e = omega (arith, ap length e, length-append (met_keys m) [])

pub popped-length : (q : List ℕ) → length (popped q) ≡ pred (length q)
popped-length [] = refl
popped-length (v ∷ q) = refl

-- A part of a memory that is one of two.
cond_of : {A : Type 0} (f : Memory → A) (b : Bool) (x y : Memory) → f (cond b x y) ≡ cond b (f x) (f y)
cond_of f true x y = refl
cond_of f false x y = refl

cond_self : {A : Type 0} (b : Bool) (a : A) → cond b a a ≡ a
cond_self true a = refl
cond_self false a = refl

between_path : (p : Place) (x j : ℕ) (m : Memory) → (note_between p x j m).path ≡ m.path
between_path before x j m = refl
between_path after x j m = refl
between_path (inside n p) x j m = refl

note-depth : (s : State) (x j : ℕ) (m : Memory) → length (note s x j m).path ≡ depth_after s x (length m.path)
unfolding note depth_after
note-depth (between k p) x j m =
    ap length
    (cond_of (λ m. m.path) (eqb x '<') (marked j m) (note_between p x j m) ∙
    ap (cond (eqb x '<') m.path) (between_path p x j m) ∙
    cond_self (eqb x '<') m.path)
note-depth (angle p) x j m = refl
note-depth (in_comment d p) x j m = refl
note-depth (in_name n p) x j m = cond_of (λ m. length m.path) (eqb x '>') (opened n j m) m
note-depth (in_tag n p) x j m = cond_of (λ m. length m.path) (eqb x '>') (opened n j m) m
note-depth (in_empty n p) x j m = refl
note-depth (in_end_tag p) x j m =
    cond_of (λ m. length m.path) (eqb x '>') (closed j m) m ∙ ap (λ e. cond (eqb x '>') e (length m.path)) (popped-length m.path)
note-depth (ampersand n p) x j m = refl
note-depth (ampersand_a n p) x j m = refl
note-depth (owing d y w s) x j m = cond_of (λ m. length m.path) d (holds true j m) m ∙ cond_self d (length m.path)

datum-solid : (b : Bool) (j : ℕ) (h : Held) → is_solid (datum b j h) ≡ (is_solid h || b)
datum-solid true j nothing = refl
datum-solid false j nothing = refl
datum-solid true j (held f l none) = refl
datum-solid false j (held f l none) = refl
datum-solid b j (held f l (some c)) = refl

note-solid : (s : State) (x j : ℕ) (m : Memory) → is_solid (note s x j m).held ≡ solid_after s x (is_solid m.held)
unfolding note solid_after
note-solid (between k before) x j m = cond_of (λ m. is_solid m.held) (eqb x '<') (marked j m) m ∙ cond_self (eqb x '<') (is_solid m.held)
note-solid (between k after) x j m = cond_of (λ m. is_solid m.held) (eqb x '<') (marked j m) m ∙ cond_self (eqb x '<') (is_solid m.held)
note-solid (between k (inside n p)) x j m =
    cond_of (λ m. is_solid m.held) (eqb x '<') (marked j m) (holds (not (white x)) j m) ∙
    ap (cond (eqb x '<') (is_solid m.held)) (datum-solid (not (white x)) j m.held)
note-solid (angle p) x j m = refl
note-solid (in_comment d p) x j m = refl
note-solid (in_name n p) x j m = cond_of (λ m. is_solid m.held) (eqb x '>') (opened n j m) m
note-solid (in_tag n p) x j m = cond_of (λ m. is_solid m.held) (eqb x '>') (opened n j m) m
note-solid (in_empty n p) x j m = refl
note-solid (in_end_tag p) x j m = cond_of (λ m. is_solid m.held) (eqb x '>') (closed j m) m
note-solid (ampersand n p) x j m = datum-solid true j m.held
note-solid (ampersand_a n p) x j m = datum-solid true j m.held
note-solid (owing d y w s) x j m =
    cond_of (λ m. is_solid m.held) d (holds true j m) m ∙ ap (λ b. cond d b (is_solid m.held)) (datum-solid true j m.held)

tally : ℕ → ℕ → Bool → Tally
tally a b c = record { met = a; depth = b; solid = c }

count-tally : (s : State) (x j : ℕ) (m : Memory) → tally_of (note s x j m) ≡ count s x (tally_of m)
unfolding tally
count-tally s x j m =
    let c = count s x (tally_of m) in
    ap (λ a. tally a (length (note s x j m).path) (is_solid (note s x j m).held))
    (met-after m (note s x j m) (meets s x (is_solid m.held)) j (note-adds s x j m)) ∙
    ap (λ a. tally c.met a (is_solid (note s x j m).held)) (note-depth s x j m) ∙
    ap (λ a. tally c.met c.depth a) (note-solid s x j m)

pub keys_length : (ns : List Node) → length (keys_of ns) ≡ length ns
keys_length [] = refl
keys_length (a ∷ ns) = ap suc (keys_length ns)

module _ (max_level max_nodes : ℕ) where
  -- ---- the first node over a limit
  -- One level more, where none was over a limit.
  over-one : (ls : List Key) (v : ℕ) (l : Key) → first_over max_level max_nodes v ls ≡ none →
      first_over max_level max_nodes v (ls ++ (l ∷ [])) ≡ cond (ltb max_level l.level || leb max_nodes (v + length ls)) (some (v + length ls)) none
  unfolding first_over
  over-one [] v l e = ap (λ u. cond (ltb max_level l.level || leb max_nodes u) (some u) none) same
    where
      same : v ≡ v + 0
      same = omega arith
  over-one (k ∷ ls) v l e = go (ltb max_level k.level || leb max_nodes v) e (over-one ls (suc v) l)
    where
      same : suc v + length ls ≡ v + suc (length ls)
      same = omega arith

      go : (b : Bool) → cond b (some v) (first_over max_level max_nodes (suc v) ls) ≡ none →
          (first_over max_level max_nodes (suc v) ls ≡ none →
          first_over max_level max_nodes (suc v) (ls ++ (l ∷ [])) ≡
          cond (ltb max_level l.level || leb max_nodes (suc v + length ls)) (some (suc v + length ls)) none) →
          cond b (some v) (first_over max_level max_nodes (suc v) (ls ++ (l ∷ []))) ≡
          cond (ltb max_level l.level || leb max_nodes (v + suc (length ls))) (some (v + suc (length ls))) none
      go true e r = absurd (none-some v (some v) e refl)
      go false e r = r e ∙ ap (λ u. cond (ltb max_level l.level || leb max_nodes u) (some u) none) same

  over-next : (m m' : Memory) (b : Bool) (j : ℕ) → Adds m b j m' → first_over max_level max_nodes 0 (met_keys m) ≡ none →
      first_over max_level max_nodes 0 (met_keys m') ≡ cond (b && full max_level max_nodes (tally_of m)) (some (length (met_keys m))) none
  unfolding Adds
  over-next m m' true j e f =
      ap (first_over max_level max_nodes 0) e ∙ over-one (met_keys m) 0 (key (suc (length m.path)) j) f ∙
      ap (λ u. cond (ltb max_level (suc (length m.path)) || leb max_nodes u) (some u) none) same
    where
      same : 0 + length (met_keys m) ≡ length (met_keys m)
      same = omega arith
  over-next m m' false j e f = ap (first_over max_level max_nodes 0) (e ∙ append-nil (met_keys m)) ∙ f

  -- ---- the reply
  check-brief : (t : List ℕ) (j : ℕ) (s : State) (m : Memory) → first_over max_level max_nodes 0 (met_keys m) ≡ none →
      check max_level max_nodes j s (tally_of m) t ≡ brief (scan max_level max_nodes j s m t)
  unfolding check scan
  check-brief [] j s m f = go (accepting (some s))
    where
      go : (b : Bool) → cond b (whole (length (met_keys m))) (broken j) ≡ brief (cond b (accepted (flushed m)) (markup_at j))
      go true = ap whole (keys_length (flushed m))
      go false = refl
  check-brief (x ∷ t) j s m f =
      go (step s x) (meets s x (is_solid m.held) && full max_level max_nodes (tally_of m))
      (over-next m m' (meets s x (is_solid m.held)) j (note-adds s x j m) f) (λ s' q. check-brief t (suc j) s' m' q)
    where
      m' : Memory
      m' = note s x j m

      after : State → Outcome
      after s' = scan max_level max_nodes (suc j) s' m' t

      go : (o : Option State) (b : Bool) → first_over max_level max_nodes 0 (met_keys m') ≡ cond b (some (length (met_keys m))) none →
          ((s' : State) → first_over max_level max_nodes 0 (met_keys m') ≡ none → check max_level max_nodes (suc j) s' (tally_of m') t ≡ brief (after s')) →
          weighed max_level max_nodes o b (length (met_keys m)) j (λ s'. check max_level max_nodes (suc j) s' (count s x (tally_of m)) t) ≡
          brief (judged max_level max_nodes o (first_over max_level max_nodes 0 (met_keys m')) j after)
      go none b e r = refl
      go (some s') true e r = sym (ap (λ g. brief (judged max_level max_nodes (some s') g j after)) e)
      go (some s') false e r =
          ap (λ c. check max_level max_nodes (suc j) s' c t) (sym (count-tally s x j m)) ∙ r s' e ∙
          sym (ap (λ g. brief (judged max_level max_nodes (some s') g j after)) e)

  pub reply-brief : (t : List ℕ) → reply_to max_level max_nodes t ≡ brief (outcome max_level max_nodes t)
  unfolding reply_to outcome
  reply-brief t = check-brief t 0 (between b0 before) fresh (unfold first_over in refl)

  -- ---- for a loop over the text T: at the place j the rest is `drop j T`
  pub check-at : (T : List ℕ) (j : ℕ) (s : State) (c : Tally) → j < length T →
      check max_level max_nodes j s c (drop j T) ≡
      weighed max_level max_nodes (step s (get_or T j 0)) (meets s (get_or T j 0) c.solid && full max_level max_nodes c) c.met j
      (λ s'. check max_level max_nodes (suc j) s' (count s (get_or T j 0) c) (drop (suc j) T))
  unfolding check
  check-at T j s c l = ap (check max_level max_nodes j s c) (drop-cons T j 0 l)

  pub check-end : (T : List ℕ) (s : State) (c : Tally) →
      check max_level max_nodes (length T) s c (drop (length T) T) ≡ cond (accepting (some s)) (whole c.met) (broken (length T))
  unfolding check
  check-end T s c = ap (check max_level max_nodes (length T) s c) (drop-length T)
