-- The rows of the nodes so far.
--   Sized n R       == each of the four rows is n long
--   written ns R    == the rows R with the entries of the nodes ns over their fronts
--   written-nil, written-put, written-end, written_all   no node; one node more; another last place; as many nodes as the rows are long
-- Letters as in specs/Inner; ns nodes, a a node. Assumes nothing.
use Prim.Native.Nat.{ℕ, zero, suc, ◌≤◌, ◌<◌}
use mathlib.Core.Path.{◌≡◌, refl, sym, ap, ap₂, ◌∙◌}
use mathlib.Core.List.{List, [], ◌∷◌, ◌++◌, map, append-nil}
use native.Mathlib.Omega.{arith}
use lib.ListN.{length, drop, set, length-set, length-map}
use lib.Seq.{set-append_left, drop-length}
use Rattle.seq.specs.Memory.{over}
use Rattle.seq.proofs.Laws.Memory.{over-nil, over_snoc, length_over}
use Rattle.profile.specs.Tree.{Node, node}
use Rattle.profile.specs.Reader.{end_at}
use Rattle.reader.specs.Inner.{Rows, rows, put_node, end_node, mark}

-- ---- one row
over-set : (new old : List ℕ) (v x : ℕ) → v < length new → set (over new old) v x ≡ over (set new v x) old
unfolding over
over-set new old v x l = set-append_left new (drop (length new) old) v x l ∙ ap (λ k. set new v x ++ drop k old) (sym (length-set new v x))

over-all : (new old : List ℕ) → length new ≡ length old → over new old ≡ new
unfolding over
over-all new old e = ap (λ k. new ++ drop k old) e ∙ ap (λ l. new ++ l) (drop-length old) ∙ append-nil new

pub map_snoc : {A : Type 0} (f : Node → A) (ns : List Node) (a : Node) → map f (ns ++ (a ∷ [])) ≡ map f ns ++ (f a ∷ [])
map_snoc f [] a = refl
map_snoc f (b ∷ ns) a = ap (λ l. f b ∷ l) (map_snoc f ns a)

-- The node numbered v has another last place: no other field changes.
pub map-end_at : {A : Type 0} (f : Node → A) → ((a : Node) (l : ℕ) → f (node a.parent a.level a.name a.first l a.met) ≡ f a) →
    (v l : ℕ) (ns : List Node) → map f (end_at v l ns) ≡ map f ns
unfolding end_at
map-end_at f e v l [] = refl
map-end_at f e zero l (a ∷ ns) = ap (λ x. x ∷ map f ns) (e a l)
map-end_at f e (suc v) l (a ∷ ns) = ap (λ r. f a ∷ r) (map-end_at f e v l ns)

lasts-end_at : (v l : ℕ) (ns : List Node) → map (λ a. a.last) (end_at v l ns) ≡ set (map (λ a. a.last) ns) v l
unfolding end_at
lasts-end_at v l [] = refl
lasts-end_at zero l (a ∷ ns) = refl
lasts-end_at (suc v) l (a ∷ ns) = ap (λ r. a.last ∷ r) (lasts-end_at v l ns)

-- ---- four rows
pub record Sized (n : ℕ) (R : Rows) : Type 0 where
  pub parents : length R.parents ≡ n
  pub marks : length R.marks ≡ n
  pub firsts : length R.firsts ≡ n
  pub lasts : length R.lasts ≡ n

abbrev rows_of : List Node → Rows
rows_of ns = rows (map (λ a. a.parent) ns) (map mark ns) (map (λ a. a.first) ns) (map (λ a. a.last) ns)

pub written : List Node → Rows → Rows
written ns R =
    rows (over (map (λ a. a.parent) ns) R.parents) (over (map mark ns) R.marks) (over (map (λ a. a.first) ns) R.firsts)
    (over (map (λ a. a.last) ns) R.lasts)

rows_ext : (R Q : Rows) → R.parents ≡ Q.parents → R.marks ≡ Q.marks → R.firsts ≡ Q.firsts → R.lasts ≡ Q.lasts → R ≡ Q
rows_ext R Q a b c d =
    ap₂ (λ P M. rows P M R.firsts R.lasts) a b ∙ ap₂ (λ F L. rows Q.parents Q.marks F L) c d

pub written-nil : (R : Rows) → written [] R ≡ R
unfolding written
written-nil R = rows_ext (written [] R) R (over-nil R.parents) (over-nil R.marks) (over-nil R.firsts) (over-nil R.lasts)

module _ (n : ℕ) (R : Rows) (w : Sized n R) (ns : List Node) where
  -- One entry more of a row.
  put_one : (f : Node → ℕ) (old : List ℕ) → length old ≡ n → (v : ℕ) → v ≡ length ns → v < n → (a : Node) →
      set (over (map f ns) old) v (f a) ≡ over (map f (ns ++ (a ∷ []))) old
  put_one f old e v q l a =
      ap (λ v. set (over (map f ns) old) v (f a)) (q ∙ sym (length-map ns f)) ∙ over_snoc (map f ns) old (f a) (omega (arith, length-map ns f)) ∙
      ap (λ l. over l old) (sym (map_snoc f ns a))

  pub written-put : (v : ℕ) → v ≡ length ns → v < n → (a : Node) →
      put_node v a.parent (mark a) a.first a.last (written ns R) ≡ written (ns ++ (a ∷ [])) R
  unfolding written
  written-put v q l a =
      rows_ext (put_node v a.parent (mark a) a.first a.last (written ns R)) (written (ns ++ (a ∷ [])) R)
      (put_one (λ a. a.parent) R.parents w.parents v q l a) (put_one mark R.marks w.marks v q l a)
      (put_one (λ a. a.first) R.firsts w.firsts v q l a) (put_one (λ a. a.last) R.lasts w.lasts v q l a)

  pub written-end : (v l : ℕ) → v < length ns → end_node v l (written ns R) ≡ written (end_at v l ns) R
  unfolding written
  written-end v l h =
      rows_ext (end_node v l (written ns R)) (written (end_at v l ns) R)
      (ap (λ r. over r R.parents) (sym (map-end_at (λ a. a.parent) (λ a l. refl) v l ns)))
      (ap (λ r. over r R.marks) (sym (map-end_at mark (λ a l. refl) v l ns)))
      (ap (λ r. over r R.firsts) (sym (map-end_at (λ a. a.first) (λ a l. refl) v l ns)))
      (over-set (map (λ a. a.last) ns) R.lasts v l (omega (arith, length-map ns (λ (a : Node). a.last))) ∙
      ap (λ r. over r R.lasts) (sym (lasts-end_at v l ns)))

  pub written-sized : length ns ≤ n → Sized n (written ns R)
  unfolding written
  written-sized l =
      record {
        parents = length_over (map (λ a. a.parent) ns) R.parents (omega (arith, w.parents, length-map ns (λ (a : Node). a.parent))) ∙ w.parents;
        marks = length_over (map mark ns) R.marks (omega (arith, w.marks, length-map ns mark)) ∙ w.marks;
        firsts = length_over (map (λ a. a.first) ns) R.firsts (omega (arith, w.firsts, length-map ns (λ (a : Node). a.first))) ∙ w.firsts;
        lasts = length_over (map (λ a. a.last) ns) R.lasts (omega (arith, w.lasts, length-map ns (λ (a : Node). a.last))) ∙ w.lasts;
      }

  pub written_all : length ns ≡ n → written ns R ≡ rows_of ns
  unfolding written
  written_all e =
      rows_ext (written ns R) (rows_of ns)
      (over-all (map (λ a. a.parent) ns) R.parents (omega (arith, w.parents, length-map ns (λ (a : Node). a.parent))))
      (over-all (map mark ns) R.marks (omega (arith, w.marks, length-map ns mark)))
      (over-all (map (λ a. a.first) ns) R.firsts (omega (arith, w.firsts, length-map ns (λ (a : Node). a.first))))
      (over-all (map (λ a. a.last) ns) R.lasts (omega (arith, w.lasts, length-map ns (λ (a : Node). a.last))))
