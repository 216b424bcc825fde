-- A text that is accepted, a piece at a time: where the reader stands between two pieces, and that it comes to stand behind the next one.
--   Stands p m j t  == at the place j, with t ahead, the place p and the memory m are those of a reader that will accept n nodes
--   Went m j t      == it stands behind the piece at the head of t, with what the piece adds in its memory
--   went            from any piece but the end
--   stands-start, stands_le   at the beginning; at any time its nodes are at most n
-- Letters as in specs/Notes; L N the limits. Assumes nothing.
use Prim.Native.Nat.{ℕ, zero, suc, pred, ◌+◌, ◌-◌, ◌≤◌}
use mathlib.Core.Path.{◌≡◌, refl, sym, ap, subst, ◌∙◌}
use mathlib.Core.Logic.{◌⊎◌, ⊎_elim}
use mathlib.Core.List.{List, [], ◌∷◌, ◌++◌}
use mathlib.Core.Bool.{Bool, true, false, not, cond, ◌&&◌, false≢true}
use mathlib.Core.Option.{Option, none, some}
use native.Mathlib.Omega.{arith}
use lib.Dec.{eqb, ltb}
use lib.ListN.{length, drop, length-append}
use borrow.Author.Tests.{eqb-true}
use Rattle.seq.proofs.Laws.Bools.{bool_cases, and_left, and_right, and_both, cond-true, cond-false}
use Rattle.profile.specs.Bytes.{'!', '&', '/', '<', '>', white, name_start, is_name}
use Rattle.profile.specs.Spans.{span, common}
use Rattle.profile.specs.Machine.{Place, before, after, inside, past, b0, State, between, run_byte, step, accepting}
use Rattle.profile.specs.Tree.{Node, Held, nothing, held, data_node}
use Rattle.profile.specs.Reader.{Memory, top, popped, end_at, flushed, from_mark, opened, emptied, closed, read, fresh}
use Rattle.profile.specs.Reader as reader
use Rattle.profile.specs.Check.{Tally, Reply, whole, broken, over, count, meets, weighed, full, check, reply_to}
use Rattle.profile.specs.Pieces.{stop, close_stop, comment_stop, data_stop, END, DATA, COMMENT, START, EMPTY, CLOSE, NONE, Piece, piece, name_size, tag_end, tag_piece, close_piece, markup_piece, piece_of}
use Rattle.profile.specs.Pieces as pieces
use Rattle.profile.specs.Turns.{Turn, halt, go, follow, tally, name_of, with_data, turn_space, tag_tally, named, turn_data, turn_element, turn_tag, turn_close, turn_by, turn, lawful}
use Rattle.profile.specs.Notes.{stretched, marked, with_run, holding, noted_data, noted}
use Rattle.profile.proofs.Check.{tally_of, popped-length, keys_length}
use Rattle.profile.proofs.Adds.{is_solid}
use Rattle.profile.proofs.Passes.{check-short}
use Rattle.profile.proofs.Pieces.{Enters, enters-before, enters-inside, Stays, before-white, after-white}
use Rattle.profile.proofs.Turns.{close-kind, tag-kind, by-close, by-tag, check-turn}
use Rattle.profile.proofs.TagNotes.{comment-note, placed, added, tag-named, element-note, close-note}
use Rattle.profile.proofs.DataNotes.{ampersand_size, run-size, dead_stop, data_note, space-note}
use Rattle.profile.proofs.Laws.Bytes.{apart}

-- ---- replies
-- The number of nodes in a reply, if it has one.
nodes_in : Reply → Option ℕ
nodes_in (whole n) = some n
nodes_in (broken i) = none
nodes_in (over v) = none

none_is : (n : ℕ) → ◌≡◌ {A = Option ℕ} none (some n) → ⊥
none_is n e = let z : ◌≡◌ {A = ℕ} 0 1 = cc in omega arith

pub broken-whole : (i n : ℕ) → broken i ≡ whole n → ⊥
unfolding nodes_in
broken-whole i n e = none_is n (ap nodes_in e)

pub over-whole : (v n : ℕ) → over v ≡ whole n → ⊥
unfolding nodes_in
over-whole v n e = none_is n (ap nodes_in e)

some_is : (m n : ℕ) → ◌≡◌ {A = Option ℕ} (some m) (some n) → m ≡ n
some_is m n e = cc

whole_is : (m n : ℕ) → whole m ≡ whole n → m ≡ n
unfolding nodes_in
whole_is m n e = some_is m n (ap nodes_in e)

-- A turn that goes on or breaks, where the text is accepted.
module _ (p : Place) (c : Tally) (f : Place → Tally → Reply) (n : ℕ) where
  goes-true : (b : Bool) (i : ℕ) → follow (cond b (go p c) (halt (broken i))) f ≡ whole n → b ≡ true
  goes-true true i e = refl
  goes-true false i e = absurd (broken-whole i n e)

  goes-rest : (b : Bool) (i : ℕ) → follow (cond b (go p c) (halt (broken i))) f ≡ whole n → f p c ≡ whole n
  goes-rest true i e = e
  goes-rest false i e = absurd (broken-whole i n e)

module _ (t : Turn) (f : Place → Tally → Reply) (n i : ℕ) where
  turn-true : (b : Bool) → follow (cond b t (halt (broken i))) f ≡ whole n → b ≡ true
  turn-true true e = refl
  turn-true false e = absurd (broken-whole i n e)

  turn-rest : (b : Bool) → follow (cond b t (halt (broken i))) f ≡ whole n → follow t f ≡ whole n
  turn-rest true e = e
  turn-rest false e = absurd (broken-whole i n e)

-- The same behind a test of the limits.
not-over : (t : Turn) (f : Place → Tally → Reply) (n v : ℕ) (b : Bool) → follow (cond b (halt (over v)) t) f ≡ whole n → b ≡ false
not-over t f n v true e = absurd (over-whole v n e)
not-over t f n v false e = refl

under : (t : Turn) (f : Place → Tally → Reply) (n v : ℕ) (b : Bool) → follow (cond b (halt (over v)) t) f ≡ whole n → follow t f ≡ whole n
under t f n v true e = absurd (over-whole v n e)
under t f n v false e = e

-- ---- tallies of a memory
data_length : (h : Held) (v l : ℕ) → length (data_node h v l) ≡ cond (is_solid h) 1 0
data_length nothing v l = refl
data_length (held f k none) v l = refl
data_length (held f k (some c)) v l = refl

pub flushed-length : (m : Memory) → length (flushed m) ≡ length m.nodes + cond (is_solid m.held) 1 0
flushed-length m =
    omega (
      arith,
      length-append m.nodes (data_node m.held (top m.path) (suc (length m.path))),
      data_length m.held (top m.path) (suc (length m.path)),
    )

met-length : (m : Memory) → (tally_of m).met ≡ length m.nodes + cond (is_solid m.held) 1 0
met-length m = keys_length (flushed m) ∙ flushed-length m

same-tally : (c d : Tally) → c.met ≡ d.met → c.depth ≡ d.depth → c.solid ≡ d.solid → c ≡ d
same-tally c d a b e =
    ap (λ x. tally x c.depth c.solid) a ∙ ap (λ x. tally d.met x c.solid) b ∙ ap (λ x. tally d.met d.depth x) e

pub end_at-length : (v l : ℕ) (ns : List Node) → length (end_at v l ns) ≡ length ns
unfolding end_at
end_at-length v l [] = refl
end_at-length zero l (a ∷ ns) = refl
end_at-length (suc v) l (a ∷ ns) = ap suc (end_at-length v l ns)

module _ (m : Memory) where
  -- A tag, whether its element stays open or not: one node more, after that of the data held.
  node-more : (a : Node) → length (flushed m ++ (a ∷ [])) ≡ suc (tally_of m).met
  node-more a = omega (arith, length-append (flushed m) (a ∷ []), keys_length (flushed m))

  opened-tally : (n : List ℕ) (l : ℕ) → tally_of (opened n l m) ≡ tally (suc (tally_of m).met) (suc (length m.path)) false
  opened-tally n l =
      same-tally (tally_of (opened n l m)) (tally (suc (tally_of m).met) (suc (length m.path)) false)
      (omega (arith, met-length (opened n l m), node-more (from_mark n l m))) refl refl

  emptied-tally : (n : List ℕ) (l : ℕ) → tally_of (emptied n l m) ≡ tally (suc (tally_of m).met) (length m.path) false
  emptied-tally n l =
      same-tally (tally_of (emptied n l m)) (tally (suc (tally_of m).met) (length m.path) false)
      (omega (arith, met-length (emptied n l m), node-more (from_mark n l m))) refl refl

  closed-tally : (l : ℕ) → tally_of (closed l m) ≡ tally (tally_of m).met (pred (length m.path)) false
  closed-tally l =
      same-tally (tally_of (closed l m)) (tally (tally_of m).met (pred (length m.path)) false)
      (omega (arith, met-length (closed l m), end_at-length (top m.path) l (flushed m), keys_length (flushed m))) (popped-length m.path) refl

run-solid : (h : Held) (j w z : ℕ) → is_solid (with_run h j w z) ≡ cond (ltb w z) true (is_solid h)
unfolding with_run
run-solid h j w z = by_test (ltb w z) h
  where
    by_test : (b : Bool) (h : Held) → is_solid (cond b (marked (stretched h j (j + z - 1)) (j + w)) (stretched h j (j + z - 1))) ≡ cond b true (is_solid h)
    by_test true nothing = refl
    by_test true (held f l none) = refl
    by_test true (held f l (some c)) = refl
    by_test false nothing = refl
    by_test false (held f l none) = refl
    by_test false (held f l (some c)) = refl

data_tally : (m : Memory) (j w z : ℕ) →
    cond (ltb w z) (tally (cond (tally_of m).solid (tally_of m).met (suc (tally_of m).met)) (tally_of m).depth true) (tally_of m) ≡
    tally_of (holding (with_run m.held j w z) m)
data_tally m j w z = by_test (ltb w z) refl (is_solid m.held) refl
  where
    M : Memory
    M = holding (with_run m.held j w z) m

    solid-now : (b : Bool) → ltb w z ≡ b → is_solid M.held ≡ cond b true (is_solid m.held)
    solid-now b e = run-solid m.held j w z ∙ ap (λ a. cond a true (is_solid m.held)) e

    met-now : (b : Bool) → is_solid M.held ≡ b → (tally_of M).met ≡ length m.nodes + cond b 1 0
    met-now b e = met-length M ∙ ap (λ a. length m.nodes + cond a 1 0) e

    met_was : (b : Bool) → is_solid m.held ≡ b → (tally_of m).met ≡ length m.nodes + cond b 1 0
    met_was b e = met-length m ∙ ap (λ a. length m.nodes + cond a 1 0) e

    by_test : (b : Bool) → ltb w z ≡ b → (a : Bool) → is_solid m.held ≡ a →
        cond b (tally (cond (tally_of m).solid (tally_of m).met (suc (tally_of m).met)) (tally_of m).depth true) (tally_of m) ≡ tally_of M
    by_test true q true e =
        same-tally _ (tally_of M) (rw e (omega (arith, met_was true e, met-now true (solid-now true q)))) refl (sym (solid-now true q))
    by_test true q false e =
        same-tally _ (tally_of M) (rw e (omega (arith, met_was false e, met-now true (solid-now true q)))) refl (sym (solid-now true q))
    by_test false q a e =
        same-tally (tally_of m) (tally_of M) (omega (arith, met_was a e, met-now a (solid-now false q ∙ e))) refl (sym (solid-now false q))

-- ---- where the reader stands
-- The open elements are as many by the place as by the path.
pub matches : Place → List ℕ → Bool
matches before [] = true
matches before (v ∷ q) = false
matches after [] = true
matches after (v ∷ q) = false
matches (inside n p) [] = false
matches (inside n p) (v ∷ q) = matches p q

-- ---- what is noted
before-path : (q : List ℕ) → matches before q ≡ true → q ≡ []
unfolding matches
before-path [] h = refl
before-path (v ∷ q) h = absurd (false≢true h)

after-path : (q : List ℕ) → matches after q ≡ true → q ≡ []
unfolding matches
after-path [] h = refl
after-path (v ∷ q) h = absurd (false≢true h)

-- Some element is open.
pub is_open : List ℕ → Bool
is_open [] = false
is_open (v ∷ q) = true

inside-path : (n : List ℕ) (p : Place) (q : List ℕ) → matches (inside n p) q ≡ true → is_open q ≡ true
unfolding matches is_open
inside-path n p [] h = absurd (false≢true h)
inside-path n p (v ∷ q) h = refl

noted-outside : (j : ℕ) (t : List ℕ) (q : Piece) (m : Memory) → q.kind ≡ DATA → m.path ≡ [] → noted j t q m ≡ m
unfolding noted
noted-outside j t q m k e = cond-true (eqb q.kind DATA) (ap (λ i. eqb i DATA) k) _ _ ∙ ap (noted_data j q m) e

noted-inside : (j : ℕ) (t : List ℕ) (q : Piece) (m : Memory) → q.kind ≡ DATA → is_open m.path ≡ true →
    noted j t q m ≡ holding (with_run m.held j q.middle q.size) m
unfolding noted is_open
noted-inside j t q m k o = cond-true (eqb q.kind DATA) (ap (λ i. eqb i DATA) k) _ _ ∙ opened-path m.path o
  where
    opened-path : (path : List ℕ) → is_open path ≡ true → noted_data j q m path ≡ holding (with_run m.held j q.middle q.size) m
    opened-path [] o = absurd (false≢true o)
    opened-path (v ∷ path) o = refl

pub past-lawful : (p : Place) → lawful p ≡ true → lawful (past p) ≡ true
unfolding lawful
past-lawful before h = refl
past-lawful after h = refl
past-lawful (inside n p) h = h

past-path : (p : Place) (q : List ℕ) → matches p q ≡ true → matches (past p) q ≡ true
unfolding matches
past-path before [] h = refl
past-path before (v ∷ q) h = h
past-path after [] h = refl
past-path after (v ∷ q) h = h
past-path (inside n p) q h = h

past_matches : (n : List ℕ) (p : Place) (q : List ℕ) → matches (inside n p) q ≡ true → matches (past p) (popped q) ≡ true
unfolding matches
past_matches n p [] h = absurd (false≢true h)
past_matches n p (v ∷ q) h = past-path p q h

noted-close : (j : ℕ) (t : List ℕ) (q : Piece) (m : Memory) → q.kind ≡ CLOSE → noted j t q m ≡ closed (j + q.size - 1) (reader.marked j m)
unfolding noted
noted-close j t q m k =
    cond-false (eqb q.kind DATA) (ap (λ i. eqb i DATA) k) _ _ ∙ cond-true (eqb q.kind CLOSE) (ap (λ i. eqb i CLOSE) k) _ _

noted-tag : (j : ℕ) (t : List ℕ) (q : Piece) (m : Memory) → q.kind ≡ START ⊎ q.kind ≡ EMPTY →
    noted j t q m ≡ added q (name_of t q) (j + q.size - 1) (reader.marked j m)
unfolding noted
noted-tag j t q m k =
    ⊎_elim
    (λ e.
    cond-false (eqb q.kind DATA) (ap (λ i. eqb i DATA) e) _ _ ∙ cond-false (eqb q.kind CLOSE) (ap (λ i. eqb i CLOSE) e) _ _ ∙
    cond-true (eqb q.kind START) (ap (λ i. eqb i START) e) _ _ ∙ sym (cond-true (eqb q.kind START) (ap (λ i. eqb i START) e) _ _))
    (λ e.
    cond-false (eqb q.kind DATA) (ap (λ i. eqb i DATA) e) _ _ ∙ cond-false (eqb q.kind CLOSE) (ap (λ i. eqb i CLOSE) e) _ _ ∙
    cond-false (eqb q.kind START) (ap (λ i. eqb i START) e) _ _ ∙ cond-true (eqb q.kind EMPTY) (ap (λ i. eqb i EMPTY) e) _ _ ∙
    sym (cond-false (eqb q.kind START) (ap (λ i. eqb i START) e) _ _))
    k

-- A tag that opens an element or not.
module _ (q : Piece) (nm : List ℕ) where
  pub placed-lawful : (p : Place) → is_name nm ≡ true → lawful p ≡ true → lawful (placed q nm p) ≡ true
  unfolding lawful
  placed-lawful p g h = by_kind (eqb q.kind START)
    where
      by_kind : (b : Bool) → lawful (cond b (inside nm p) (past p)) ≡ true
      by_kind true = and_both (is_name nm) (lawful p) g h
      by_kind false = past-lawful p h

  placed_matches : (p : Place) (l : ℕ) (m : Memory) → matches p m.path ≡ true → q.kind ≡ START ⊎ q.kind ≡ EMPTY →
      matches (placed q nm p) (added q nm l m).path ≡ true
  unfolding matches
  placed_matches p l m h k = by_kind (eqb q.kind START)
    where
      by_kind : (b : Bool) → matches (cond b (inside nm p) (past p)) (cond b (opened nm l m) (emptied nm l m)).path ≡ true
      by_kind true = h
      by_kind false = past-path p m.path h

  added-tally : (l : ℕ) (m : Memory) → tally_of (added q nm l m) ≡ tag_tally (tally_of m) q
  added-tally l m = by_kind (eqb q.kind START)
    where
      by_kind : (b : Bool) →
          tally_of (cond b (opened nm l m) (emptied nm l m)) ≡ tally (suc (tally_of m).met) (cond b (suc (tally_of m).depth) (tally_of m).depth) false
      by_kind true = opened-tally m nm l
      by_kind false = emptied-tally m nm l

-- The turn of an end tag inside an element.
close-turned : (L N : ℕ) (n : List ℕ) (p : Place) (c : Tally) (j : ℕ) (t : List ℕ) (k : ℕ) →
    follow (turn_by L N (inside n p) c j ('<' ∷ '/' ∷ t) (close_piece t))
    (λ p' c'. check L N (j + (close_piece t).size) (between b0 p') c' (drop (close_piece t).size ('<' ∷ '/' ∷ t))) ≡ whole k →
    follow
    (cond (named n ('<' ∷ '/' ∷ t) (close_piece t))
    (cond (close_piece t).whole (go (past p) (tally c.met (pred c.depth) false)) (halt (broken (j + (close_piece t).size))))
    (halt (broken (j + (2 + common n t)))))
    (λ p' c'. check L N (j + (close_piece t).size) (between b0 p') c' (drop (close_piece t).size ('<' ∷ '/' ∷ t))) ≡ whole k
unfolding turn_close
close-turned L N n p c j t k f =
    ap (λ a. follow a (λ p' c'. check L N (j + (close_piece t).size) (between b0 p') c' (drop (close_piece t).size ('<' ∷ '/' ∷ t))))
    (by-close L N (inside n p) c j ('<' ∷ '/' ∷ t) (close_piece t) (close-kind t)) ∙ f

-- ---- the piece at a head
pub bang_piece : (t : List ℕ) → piece_of ('<' ∷ '!' ∷ t) ≡ piece COMMENT 2 (pieces.after 2 (comment_stop t))
unfolding piece_of markup_piece
bang_piece t = refl

pub slash-piece : (t : List ℕ) → piece_of ('<' ∷ '/' ∷ t) ≡ close_piece t
unfolding piece_of markup_piece
slash-piece t = refl

pub letter-piece : (x : ℕ) (t : List ℕ) → name_start x ≡ true → piece_of ('<' ∷ x ∷ t) ≡ tag_piece (x ∷ t)
unfolding piece_of markup_piece name_start
letter-piece x t h = rw (apart name_start x '!' refl h, apart name_start x '/' refl h, h)

pub other-piece : (x : ℕ) (t : List ℕ) → eqb x '!' ≡ false → eqb x '/' ≡ false → name_start x ≡ false → piece_of ('<' ∷ x ∷ t) ≡ piece NONE 1 (stop 1 false)
unfolding piece_of markup_piece
other-piece x t a b e = rw (a, b, e)

pub lone_piece : piece_of ('<' ∷ []) ≡ piece NONE 1 (stop 1 false)
unfolding piece_of markup_piece
lone_piece = refl

pub end-kind : (piece_of []).kind ≡ END
unfolding piece_of
end-kind = refl

pub data_piece_lem : (x : ℕ) (t : List ℕ) → eqb x '<' ≡ false → piece_of (x ∷ t) ≡ piece DATA (span white (x ∷ t)) (data_stop b0 0 (x ∷ t))
unfolding piece_of
data_piece_lem x t a = rw a

pub data_moves : (x : ℕ) (t : List ℕ) → eqb x '<' ≡ false → (data_stop b0 0 (x ∷ t)).whole ≡ true → 1 ≤ (data_stop b0 0 (x ∷ t)).size
data_moves x t a h = by_byte (eqb x '&') (run_byte b0 x) refl refl
  where
    by_byte : (b c : Bool) → eqb x '&' ≡ b → run_byte b0 x ≡ c → 1 ≤ (data_stop b0 0 (x ∷ t)).size
    by_byte true c q r = ampersand_size x t a q
    by_byte false true q r = run-size b0 x t r
    by_byte false false q r = absurd (false≢true (sym (dead_stop x t a q r) ∙ h))

pub close-size : (t : List ℕ) → 1 ≤ (close_piece t).size
unfolding close_piece
close-size t = ⊎_elim (λ q. rw q (omega arith)) (λ q. rw q (omega arith)) (bool_cases (eqb (name_size t) 0))

pub tag_end-size : (m k : ℕ) (v : List ℕ) → k ≤ (tag_end m k v).size
unfolding tag_end
tag_end-size m k [] = omega arith
tag_end-size m k (x ∷ t) = either (eqb x '>') (eqb x '/')
  where
    either : (a b : Bool) →
        k ≤ (cond a (piece START m (stop (suc k) true)) (cond b (piece EMPTY m (pieces.after (suc k) (close_stop t))) (piece START m (stop k false)))).size
    either true b = omega arith
    either false true = omega arith
    either false false = omega arith

pub tag-size : (t : List ℕ) → 1 ≤ (tag_piece t).size
unfolding tag_piece
tag-size t =
    omega (arith, tag_end-size (1 + name_size t) (1 + name_size t + span white (drop (name_size t) t)) (drop (span white (drop (name_size t) t)) (drop (name_size t) t)))

-- ---- the turn of a piece
none-turned : (L N : ℕ) (p : Place) (c : Tally) (j : ℕ) (t : List ℕ) (k : ℕ) →
    follow (turn_by L N p c j t (piece NONE 1 (stop 1 false))) (λ p' c'. check L N (j + 1) (between b0 p') c' (drop 1 t)) ≡ whole k → broken (j + 1) ≡ whole k
unfolding turn_by
none-turned L N p c j t k f = f

pub data_by : (L N : ℕ) (p : Place) (c : Tally) (j : ℕ) (t : List ℕ) (q : Piece) → q.kind ≡ DATA → turn_by L N p c j t q ≡ turn_data L N p c j q
unfolding turn_by
data_by L N p c j t q e = cond-false (eqb q.kind END) (ap (λ i. eqb i END) e) _ _ ∙ cond-true (eqb q.kind DATA) (ap (λ i. eqb i DATA) e) _ _

data_turned : (L N : ℕ) (p : Place) (c : Tally) (j x : ℕ) (t : List ℕ) (k : ℕ) → eqb x '<' ≡ false →
    follow (turn_by L N p c j (x ∷ t) (piece_of (x ∷ t)))
    (λ p' c'. check L N (j + (piece_of (x ∷ t)).size) (between b0 p') c' (drop (piece_of (x ∷ t)).size (x ∷ t))) ≡ whole k →
    follow (turn_data L N p c j (piece_of (x ∷ t)))
    (λ p' c'. check L N (j + (piece_of (x ∷ t)).size) (between b0 p') c' (drop (piece_of (x ∷ t)).size (x ∷ t))) ≡ whole k
data_turned L N p c j x t k a f =
    ap (λ a. follow a (λ p' c'. check L N (j + q.size) (between b0 p') c' (drop q.size (x ∷ t)))) (sym (by_data q (ap (λ (q : Piece). q.kind) (data_piece_lem x t a)))) ∙ f
  where
    q : Piece
    q = piece_of (x ∷ t)

    by_data : (q : Piece) → q.kind ≡ DATA → turn_by L N p c j (x ∷ t) q ≡ turn_data L N p c j q
    by_data = data_by L N p c j (x ∷ t)

outside-turned : (L N : ℕ) (m : Memory) (j : ℕ) (t : List ℕ) (k : ℕ) (p : Place) →
    ((q : Piece) → turn_close L N p (tally_of m) j ('<' ∷ '/' ∷ t) q ≡ halt (broken (j + 1))) →
    follow (turn_by L N p (tally_of m) j ('<' ∷ '/' ∷ t) (close_piece t))
    (λ p' c'. check L N (j + (close_piece t).size) (between b0 p') c' (drop (close_piece t).size ('<' ∷ '/' ∷ t))) ≡ whole k → broken (j + 1) ≡ whole k
outside-turned L N m j t k p e f =
    ap (λ a. follow a (λ p' c'. check L N (j + (close_piece t).size) (between b0 p') c' (drop (close_piece t).size ('<' ∷ '/' ∷ t))))
    (sym (e (close_piece t)) ∙ by-close L N p (tally_of m) j ('<' ∷ '/' ∷ t) (close_piece t) (close-kind t)) ∙
    f

abbrev comment_piece : List ℕ → Piece
comment_piece t = piece COMMENT 2 (pieces.after 2 (comment_stop t))

comment-turned : (L N : ℕ) (p : Place) (c : Tally) (j : ℕ) (T t : List ℕ) →
    turn_by L N p c j T (comment_piece t) ≡ cond (comment_piece t).whole (go p c) (halt (broken (j + (comment_piece t).size)))
unfolding turn_by
comment-turned L N p c j T t = refl

module _ (L N n : ℕ) where
  pub record Stands (p : Place) (m : Memory) (j : ℕ) (t : List ℕ) : Type 0 where
    pub names : lawful p ≡ true
    pub path : matches p m.path ≡ true
    pub checking : check L N j (between b0 p) (tally_of m) t ≡ whole n

  -- The same of any piece q that t may begin with.
  pub record Went (p : Place) (m : Memory) (j : ℕ) (t : List ℕ) (q : Piece) : Type 0 where
    pub place : Place
    pub whole-piece : q.whole ≡ true
    pub moves : 1 ≤ q.size
    pub stands : Stands place (noted j t q m) (j + q.size) (drop q.size t)
    pub reading : read j (some (between b0 p)) m t ≡ read (j + q.size) (some (between b0 place)) (noted j t q m) (drop q.size t)

  -- ---- how many nodes
  -- The tally never falls.
  check_le : (t : List ℕ) (j : ℕ) (s : State) (c : Tally) → check L N j s c t ≡ whole n → c.met ≤ n
  unfolding check
  check_le [] j s c e = by_end (accepting (some s)) e
    where
      by_end : (b : Bool) → cond b (whole c.met) (broken j) ≡ whole n → c.met ≤ n
      by_end true e = omega (arith, whole_is c.met n e)
      by_end false e = absurd (broken-whole j n e)
  check_le (x ∷ t) j s c e = by-step (step s x) (meets s x c.solid && full L N c) e (λ s' h. check_le t (suc j) s' (count s x c) h)
    where
      grows : (b : Bool) → c.met ≤ cond b (suc c.met) c.met
      grows true = omega arith
      grows false = omega arith

      by-step : (o : Option State) (b : Bool) → weighed L N o b c.met j (λ z. check L N (suc j) z (count s x c) t) ≡ whole n →
          ((s' : State) → check L N (suc j) s' (count s x c) t ≡ whole n → (count s x c).met ≤ n) → c.met ≤ n
      by-step none b e r = absurd (broken-whole j n e)
      by-step (some s') true e r = absurd (over-whole c.met n e)
      by-step (some s') false e r = omega (arith, grows (meets s x c.solid), r s' e)

  pub stands_le : (p : Place) (m : Memory) (j : ℕ) (t : List ℕ) → Stands p m j t → length (flushed m) ≤ n
  stands_le p m j t w = omega (arith, check_le t j (between b0 p) (tally_of m) w.checking, keys_length (flushed m))

  -- ---- one piece
  abbrev behind : ℕ → List ℕ → Piece → Place → Tally → Reply
  behind j t q p' c' = check L N (j + q.size) (between b0 p') c' (drop q.size t)

  -- What the piece at the head comes to.
  turned : (p : Place) (m : Memory) (j : ℕ) (t : List ℕ) (q : Piece) → piece_of t ≡ q → Stands p m j t → follow (turn_by L N p (tally_of m) j t q) (behind j t q) ≡ whole n
  unfolding turn
  turned p m j t q e w =
      sym (ap (λ q. follow (turn_by L N p (tally_of m) j t q) (behind j t q)) e) ∙ sym (check-turn L N p w.names (tally_of m) j t) ∙ w.checking

  -- White space outside the root.
  space-went : (p : Place) → Stays white (between b0 p) → (m : Memory) (j : ℕ) (t : List ℕ) (q : Piece) → q ≡ piece DATA (span white t) (data_stop b0 0 t) →
      ((data_stop b0 0 t).whole ≡ true → 1 ≤ (data_stop b0 0 t).size) → Stands p m j t → m.path ≡ [] → follow (turn_space p (tally_of m) j q) (behind j t q) ≡ whole n → Went p m j t q
  space-went p stays m j t q e l w path f =
      record {
        place = p;
        whole-piece = and_left q.whole (eqb q.middle q.size) alone;
        moves = subst (λ (q : Piece). 1 ≤ q.size) (sym e) (l (sym (ap (λ (q : Piece). q.whole) e) ∙ and_left q.whole (eqb q.middle q.size) alone));
        stands =
            record {
              names = w.names;
              path = ap (λ (m : Memory). matches p m.path) same ∙ w.path;
              checking =
                  ap (λ m. check L N (j + q.size) (between b0 p) (tally_of m) (drop q.size t)) same ∙
                  goes-rest p (tally_of m) (behind j t q) n (q.whole && eqb q.middle q.size) (j + q.middle) f;
            };
        reading =
            space-note p stays m j t ∙ ap (λ i. read (j + i) (some (between b0 p)) m (drop i t)) size ∙
            ap (λ m. read (j + q.size) (some (between b0 p)) m (drop q.size t)) (sym same);
      }
    where
      alone : (q.whole && eqb q.middle q.size) ≡ true
      alone = goes-true p (tally_of m) (behind j t q) n (q.whole && eqb q.middle q.size) (j + q.middle) f

      size : span white t ≡ q.size
      size = sym (ap (λ (q : Piece). q.middle) e) ∙ eqb-true q.middle q.size (and_right q.whole (eqb q.middle q.size) alone)

      same : noted j t q m ≡ m
      same = noted-outside j t q m (ap (λ (q : Piece). q.kind) e) path

  -- Data inside an element.
  data_went : (n' : List ℕ) (p : Place) (m : Memory) (j : ℕ) (t : List ℕ) (q : Piece) → q ≡ piece DATA (span white t) (data_stop b0 0 t) →
      ((data_stop b0 0 t).whole ≡ true → 1 ≤ (data_stop b0 0 t).size) → Stands (inside n' p) m j t → follow (turn_data L N (inside n' p) (tally_of m) j q) (behind j t q) ≡ whole n → Went (inside n' p) m j t q
  unfolding turn_data
  data_went n' p m j t q e l w f =
      record {
        place = inside n' p;
        whole-piece = ended;
        moves = subst (λ (q : Piece). 1 ≤ q.size) (sym e) (l (sym (ap (λ (q : Piece). q.whole) e) ∙ ended));
        stands =
            record {
              names = w.names;
              path = ap (λ (m : Memory). matches (inside n' p) m.path) same ∙ w.path;
              checking =
                  ap (λ m. check L N (j + q.size) (between b0 (inside n' p)) (tally_of m) (drop q.size t)) same ∙
                  ap (λ c. check L N (j + q.size) (between b0 (inside n' p)) c (drop q.size t)) (sym (data_tally m j q.middle q.size)) ∙
                  rest;
            };
        reading =
            data_note m n' p m.held j t (sym (ap (λ (q : Piece). q.whole) e) ∙ ended) more (l (sym (ap (λ (q : Piece). q.whole) e) ∙ ended)) ∙
            ap (λ (q : Piece). read (j + q.size) (some (between b0 (inside n' p))) (holding (with_run m.held j q.middle q.size) m) (drop q.size t)) (sym e) ∙
            ap (λ m. read (j + q.size) (some (between b0 (inside n' p))) m (drop q.size t)) (sym same);
      }
    where
      c' : Tally
      c' = with_data (tally_of m) q

      test : Bool
      test = ltb q.middle q.size && not (tally_of m).solid && full L N (tally_of m)

      within : follow (cond q.whole (go (inside n' p) c') (halt (broken (j + q.size)))) (behind j t q) ≡ whole n
      within = under (cond q.whole (go (inside n' p) c') (halt (broken (j + q.size)))) (behind j t q) n (tally_of m).met test f

      ended : q.whole ≡ true
      ended = goes-true (inside n' p) c' (behind j t q) n q.whole (j + q.size) within

      rest : check L N (j + q.size) (between b0 (inside n' p)) c' (drop q.size t) ≡ whole n
      rest = goes-rest (inside n' p) c' (behind j t q) n q.whole (j + q.size) within

      more : drop (data_stop b0 0 t).size t ≡ [] → ⊥
      more z =
          broken-whole (j + q.size) n
          (sym (check-short L N (j + q.size) (between b0 (inside n' p)) c' (unfold accepting in refl)) ∙
          ap (λ u. check L N (j + q.size) (between b0 (inside n' p)) c' u) (sym (ap (λ (q : Piece). drop q.size t) e ∙ z)) ∙ rest)

      same : noted j t q m ≡ holding (with_run m.held j q.middle q.size) m
      same = noted-inside j t q m (ap (λ (q : Piece). q.kind) e) (inside-path n' p m.path w.path)

  -- A comment.
  comment-went : (p : Place) (m : Memory) (j : ℕ) (t : List ℕ) → Stands p m j ('<' ∷ '!' ∷ t) → piece_of ('<' ∷ '!' ∷ t) ≡ comment_piece t →
      Went p m j ('<' ∷ '!' ∷ t) (comment_piece t)
  unfolding noted
  comment-went p m j t w e =
      record {
        place = p;
        whole-piece = ended;
        moves = omega arith;
        stands = record { names = w.names; path = w.path; checking = goes-rest p (tally_of m) (behind j T q) n q.whole (j + q.size) f };
        reading = comment-note p j m t ended;
      }
    where
      T : List ℕ
      T = '<' ∷ '!' ∷ t

      q : Piece
      q = comment_piece t

      f : follow (cond q.whole (go p (tally_of m)) (halt (broken (j + q.size)))) (behind j T q) ≡ whole n
      f = sym (ap (λ a. follow a (behind j T q)) (comment-turned L N p (tally_of m) j T t)) ∙ turned p m j T q e w

      ended : q.whole ≡ true
      ended = goes-true p (tally_of m) (behind j T q) n q.whole (j + q.size) f

  -- An end tag.
  close-went : (n' : List ℕ) (p : Place) (m : Memory) (j : ℕ) (t : List ℕ) → Stands (inside n' p) m j ('<' ∷ '/' ∷ t) → piece_of ('<' ∷ '/' ∷ t) ≡ close_piece t →
      1 ≤ (close_piece t).size → Went (inside n' p) m j ('<' ∷ '/' ∷ t) (close_piece t)
  close-went n' p m j t w e l =
      record {
        place = past p;
        whole-piece = ended;
        moves = l;
        stands =
            record {
              names = past-lawful p (and_right (is_name n') (lawful p) (unfold lawful in w.names));
              path = ap (λ (m : Memory). matches (past p) m.path) same ∙ past_matches n' p m.path w.path;
              checking =
                  ap (λ m. check L N (j + q.size) (between b0 (past p)) (tally_of m) (drop q.size T)) same ∙
                  ap (λ c. check L N (j + q.size) (between b0 (past p)) c (drop q.size T)) (closed-tally (reader.marked j m) (j + q.size - 1)) ∙
                  goes-rest (past p) c' (behind j T q) n q.whole (j + q.size) within;
            };
        reading =
            close-note n' p (and_left (is_name n') (lawful p) (unfold lawful in w.names)) j m t right ended ∙
            ap (λ m. read (j + q.size) (some (between b0 (past p))) m (drop q.size T)) (sym same);
      }
    where
      T : List ℕ
      T = '<' ∷ '/' ∷ t

      q : Piece
      q = close_piece t

      c' : Tally
      c' = tally (tally_of m).met (pred (tally_of m).depth) false

      f : follow (cond (named n' T q) (cond q.whole (go (past p) c') (halt (broken (j + q.size)))) (halt (broken (j + (2 + common n' t))))) (behind j T q) ≡ whole n
      f = close-turned L N n' p (tally_of m) j t n (turned (inside n' p) m j T q e w)

      right : named n' T q ≡ true
      right = turn-true (cond q.whole (go (past p) c') (halt (broken (j + q.size)))) (behind j T q) n (j + (2 + common n' t)) (named n' T q) f

      within : follow (cond q.whole (go (past p) c') (halt (broken (j + q.size)))) (behind j T q) ≡ whole n
      within = turn-rest (cond q.whole (go (past p) c') (halt (broken (j + q.size)))) (behind j T q) n (j + (2 + common n' t)) (named n' T q) f

      ended : q.whole ≡ true
      ended = goes-true (past p) c' (behind j T q) n q.whole (j + q.size) within

      same : noted j T q m ≡ closed (j + q.size - 1) (reader.marked j m)
      same = noted-close j T q m (close-kind t)

  -- A start tag or an empty-element tag.
  tag-went : (p : Place) → Enters p → (m : Memory) (j x : ℕ) (t : List ℕ) → name_start x ≡ true → Stands p m j ('<' ∷ x ∷ t) → 1 ≤ (tag_piece (x ∷ t)).size →
      follow (turn_element L N p (tally_of m) j ('<' ∷ x ∷ t) (tag_piece (x ∷ t))) (behind j ('<' ∷ x ∷ t) (tag_piece (x ∷ t))) ≡ whole n →
      Went p m j ('<' ∷ x ∷ t) (tag_piece (x ∷ t))
  tag-went p g m j x t h w l f =
      record {
        place = placed q nm p;
        whole-piece = ended;
        moves = l;
        stands =
            record {
              names = placed-lawful q nm p (tag-named p g j m x t h) w.names;
              path = ap (λ (m : Memory). matches (placed q nm p) m.path) same ∙ placed_matches q nm p (j + q.size - 1) (reader.marked j m) w.path (tag-kind (x ∷ t));
              checking =
                  ap (λ m. check L N (j + q.size) (between b0 (placed q nm p)) (tally_of m) (drop q.size T)) same ∙
                  ap (λ c. check L N (j + q.size) (between b0 (placed q nm p)) c (drop q.size T)) (added-tally q nm (j + q.size - 1) (reader.marked j m)) ∙
                  rest;
            };
        reading = element-note p g j m x t h ended ∙ ap (λ m. read (j + q.size) (some (between b0 (placed q nm p))) m (drop q.size T)) (sym same);
      }
    where
      T : List ℕ
      T = '<' ∷ x ∷ t

      q : Piece
      q = tag_piece (x ∷ t)

      nm : List ℕ
      nm = name_of T q

      c' : Tally
      c' = tag_tally (tally_of m) q

      inner : Turn
      inner = cond (full L N (tally_of m)) (halt (over (tally_of m).met)) (go (placed q nm p) c')

      ended : q.whole ≡ true
      ended = turn-true inner (behind j T q) n (j + q.size) q.whole f

      rest : check L N (j + q.size) (between b0 (placed q nm p)) c' (drop q.size T) ≡ whole n
      rest =
          under (go (placed q nm p) c') (behind j T q) n (tally_of m).met (full L N (tally_of m)) (turn-rest inner (behind j T q) n (j + q.size) q.whole f)

      same : noted j T q m ≡ added q nm (j + q.size - 1) (reader.marked j m)
      same = noted-tag j T q m (tag-kind (x ∷ t))

  -- ---- any piece
  went-by : (p : Place) (m : Memory) (j : ℕ) (t : List ℕ) (q : Piece) → piece_of t ≡ q → Went p m j t q → Went p m j t (piece_of t)
  went-by p m j t q e w = subst (Went p m j t) (sym e) w

  -- A piece that breaks is none of an accepted text.
  none-went : (p : Place) (m : Memory) (j : ℕ) (t : List ℕ) → piece_of t ≡ piece NONE 1 (stop 1 false) → Stands p m j t → ⊥
  none-went p m j t e w = broken-whole (j + 1) n (none-turned L N p (tally_of m) j t n (turned p m j t (piece NONE 1 (stop 1 false)) e w))

  run-went : (p : Place) (m : Memory) (j x : ℕ) (t : List ℕ) → eqb x '<' ≡ false → Stands p m j (x ∷ t) → Went p m j (x ∷ t) (piece_of (x ∷ t))
  unfolding turn_data
  run-went before m j x t a w =
      space-went before before-white m j (x ∷ t) (piece_of (x ∷ t)) (data_piece_lem x t a) (data_moves x t a) w (before-path m.path w.path)
      (data_turned L N before (tally_of m) j x t n a (turned before m j (x ∷ t) (piece_of (x ∷ t)) refl w))
  run-went after m j x t a w =
      space-went after after-white m j (x ∷ t) (piece_of (x ∷ t)) (data_piece_lem x t a) (data_moves x t a) w (after-path m.path w.path)
      (data_turned L N after (tally_of m) j x t n a (turned after m j (x ∷ t) (piece_of (x ∷ t)) refl w))
  run-went (inside n' p) m j x t a w =
      data_went n' p m j (x ∷ t) (piece_of (x ∷ t)) (data_piece_lem x t a) (data_moves x t a) w
      (data_turned L N (inside n' p) (tally_of m) j x t n a (turned (inside n' p) m j (x ∷ t) (piece_of (x ∷ t)) refl w))

  slash-went : (p : Place) (m : Memory) (j : ℕ) (t : List ℕ) → Stands p m j ('<' ∷ '/' ∷ t) → Went p m j ('<' ∷ '/' ∷ t) (close_piece t)
  slash-went before m j t w = absurd (broken-whole (j + 1) n (outside-turned L N m j t n before (λ q. unfold turn_close in refl) (turned before m j ('<' ∷ '/' ∷ t) (close_piece t) (slash-piece t) w)))
  slash-went after m j t w = absurd (broken-whole (j + 1) n (outside-turned L N m j t n after (λ q. unfold turn_close in refl) (turned after m j ('<' ∷ '/' ∷ t) (close_piece t) (slash-piece t) w)))
  slash-went (inside n' p) m j t w = close-went n' p m j t w (slash-piece t) (close-size t)

  letter-went : (p : Place) (m : Memory) (j x : ℕ) (t : List ℕ) → name_start x ≡ true → Stands p m j ('<' ∷ x ∷ t) → Went p m j ('<' ∷ x ∷ t) (tag_piece (x ∷ t))
  unfolding turn_tag
  letter-went p m j x t h w = by_place p w (ap (λ a. follow a (behind j ('<' ∷ x ∷ t) (tag_piece (x ∷ t)))) (by-tag L N p (tally_of m) j ('<' ∷ x ∷ t) (tag_piece (x ∷ t)) (tag-kind (x ∷ t))) ∙ turned p m j ('<' ∷ x ∷ t) (tag_piece (x ∷ t)) (letter-piece x t h) w)
    where
      by_place : (p : Place) → Stands p m j ('<' ∷ x ∷ t) →
          follow (turn_tag L N p (tally_of m) j ('<' ∷ x ∷ t) (tag_piece (x ∷ t))) (behind j ('<' ∷ x ∷ t) (tag_piece (x ∷ t))) ≡ whole n →
          Went p m j ('<' ∷ x ∷ t) (tag_piece (x ∷ t))
      by_place before w f = tag-went before enters-before m j x t h w (tag-size (x ∷ t)) f
      by_place after w f = absurd (broken-whole (j + 1) n f)
      by_place (inside n' p) w f = tag-went (inside n' p) (enters-inside n' p) m j x t h w (tag-size (x ∷ t)) f

  markup-went : (p : Place) (m : Memory) (j x : ℕ) (t : List ℕ) → Stands p m j ('<' ∷ x ∷ t) → Went p m j ('<' ∷ x ∷ t) (piece_of ('<' ∷ x ∷ t))
  markup-went p m j x t w = by_byte (eqb x '!') (eqb x '/') (name_start x) refl refl refl
    where
      goal : ℕ → Type 0
      goal x = Stands p m j ('<' ∷ x ∷ t) → Went p m j ('<' ∷ x ∷ t) (piece_of ('<' ∷ x ∷ t))

      by_byte : (a b e : Bool) → eqb x '!' ≡ a → eqb x '/' ≡ b → name_start x ≡ e → Went p m j ('<' ∷ x ∷ t) (piece_of ('<' ∷ x ∷ t))
      by_byte true b e q r k =
          subst goal (sym (eqb-true x '!' q)) (λ w. went-by p m j ('<' ∷ '!' ∷ t) (comment_piece t) (bang_piece t) (comment-went p m j t w (bang_piece t))) w
      by_byte false true e q r k =
          subst goal (sym (eqb-true x '/' r)) (λ w. went-by p m j ('<' ∷ '/' ∷ t) (close_piece t) (slash-piece t) (slash-went p m j t w)) w
      by_byte false false true q r k = went-by p m j ('<' ∷ x ∷ t) (tag_piece (x ∷ t)) (letter-piece x t k) (letter-went p m j x t k w)
      by_byte false false false q r k = absurd (none-went p m j ('<' ∷ x ∷ t) (other-piece x t q r k) w)

  pub went : (p : Place) (m : Memory) (j : ℕ) (t : List ℕ) → Stands p m j t → ((piece_of t).kind ≡ END → ⊥) → Went p m j t (piece_of t)
  went p m j [] w k = absurd (k end-kind)
  went p m j (x ∷ t) w k = by_byte t (eqb x '<') refl w
    where
      goal : List ℕ → ℕ → Type 0
      goal t x = Stands p m j (x ∷ t) → Went p m j (x ∷ t) (piece_of (x ∷ t))

      by_byte : (t : List ℕ) (b : Bool) → eqb x '<' ≡ b → goal t x
      by_byte [] true q = subst (goal []) (sym (eqb-true x '<' q)) (λ w. absurd (none-went p m j ('<' ∷ []) lone_piece w))
      by_byte (y ∷ u) true q = subst (goal (y ∷ u)) (sym (eqb-true x '<' q)) (markup-went p m j y u)
      by_byte t false q = run-went p m j x t q

  -- ---- the beginning
  pub stands-start : (t : List ℕ) → reply_to L N t ≡ whole n → Stands before fresh 0 t
  unfolding reply_to lawful matches
  stands-start t e = record { names = refl; path = refl; checking = e }
