-- The reader goes through a piece of markup: after its bytes it stands where the piece leaves it, with what the piece adds in its memory,
-- whatever follows. The parts that only lead on come first, for every reader at once (proofs/Passes):
--   loop-passes, expect-passes, named, name-stops, body-passes
-- and then one lemma for each production, by the row's length:
--   start_tag_through, end_tag_through, comment-through, reference_through, run-through
-- Elements and documents are in proofs/Complete. Letters as in specs/; m a memory. Assumes nothing.
use Prim.Native.Nat.{ℕ, suc}
use mathlib.Core.Path.{◌≡◌, refl, sym, ap, subst, ◌∙◌}
use mathlib.Core.Logic.{⊎_elim}
use mathlib.Core.List.{List, [], ◌∷◌, ◌++◌, append_assoc, append-nil}
use mathlib.Core.Bool.{Bool, true, false, not, ◌&&◌, false≢true}
use mathlib.Core.Option.{some}
use lib.Dec.{eqb}
use borrow.Author.Tests.{eq-eqb}
use Rattle.seq.specs.Lists.{every_of}
use Rattle.seq.proofs.Laws.Bools.{bool_cases, and_left, and_right}
use Rattle.profile.specs.Bytes.{'!', '-', '/', '>', char, white, name_start, name_char, is_spaces, is_name, is_char_data, is_comment}
use Rattle.profile.specs.Grammar.{Spaces, Name, Comment, Entity, lt, gt, amp, apos, quot, entity_name, reference_then, comment_then, end_tag_then}
use Rattle.profile.specs.Machine.{Place, before, after, inside, past, Brackets, b0, State, between, angle, in_comment, in_name, in_tag, in_empty, in_end_tag, owing, expect, run_byte, run_next, step_between, step_angle, step_tag, step_comment, step_ampersand, step_ampersand_a, step}
use Rattle.profile.specs.Tree.{Held, run_then, solid_then, reference_data}
use Rattle.profile.specs.Reader.{Memory, remember, holds, marked, closed, note_between, note, read}
use Rattle.profile.specs.Check.{meets, depth_after, solid_after, count, weighed, full, check}
use Rattle.profile.proofs.Placed.{reads}
use Rattle.profile.proofs.Passes.{Silent, Passes, passes-nil, passes-cons, passes-one, Likewise}
use Rattle.profile.proofs.Laws.Bytes.{apart, white-name_char, pending, white-angle, run-angle, run_ampersand, char_data_head, char_data_tail, dashes, dash_alone, comment_dash, dash_at, comment-head, comment-tail}

-- The place p takes elements.
unfoldable pub Enters : Place → Type 0
Enters p = (x : ℕ) → name_start x ≡ true → step (angle p) x ≡ some (in_name (x ∷ []) p)

pub enters-before : Enters before
unfolding Enters step step_angle name_start
enters-before x h = rw (apart name_start x '!' refl h, h)

pub enters-inside : (n : List ℕ) (p : Place) → Enters (inside n p)
unfolding Enters step step_angle name_start
enters-inside n p x h = rw (apart name_start x '!' refl h, apart name_start x '/' refl h, h)

-- A byte that is owed is taken.
pub owed : (d : Bool) (x : ℕ) (w : List ℕ) (s : State) → step (owing d x w s) x ≡ some (expect d w s)
unfolding step
owed d x w s = rw (eq-eqb x x refl)

-- The brackets that stand last after the run r.
pub brackets : Brackets → List ℕ → Brackets
brackets k [] = k
brackets k (x ∷ r) = brackets (run_next k x) r

-- ---- what only leads on
-- A state that stays as it is at each byte of a kind.
unfoldable pub Stays : (ℕ → Bool) → State → Type 0
Stays f s = (x : ℕ) → f x ≡ true → Silent s x s

pub loop-passes : (f : ℕ → Bool) (s : State) → Stays f s → (w : List ℕ) → every_of f w ≡ true → Passes s w s
unfolding Stays every_of
loop-passes f s l [] h = passes-nil s
loop-passes f s l (x ∷ w) h =
    passes-cons s s s x w (l x (and_left (f x) (every_of f w) h)) (loop-passes f s l w (and_right (f x) (every_of f w) h))

-- The fixed bytes of an end tag's name, and of a comment's marks.
pub owed_silent : (x : ℕ) (w : List ℕ) (s : State) → Silent (owing false x w s) x (expect false w s)
unfolding note meets depth_after solid_after
owed_silent x w s = record { goes = owed false x w s; notes = λ j m. refl; meeting = λ b. refl; depth = λ e. refl; solid = λ b. refl }

pub expect-passes : (w : List ℕ) (s : State) → Passes (expect false w s) w s
expect-passes [] s = passes-nil s
expect-passes (x ∷ w) s = passes-cons (owing false x w s) (expect false w s) s x w (owed_silent x w s) (expect-passes w s)

-- ---- start tags
-- A byte other than `>` in a tag.
tag_silent : (n : List ℕ) (p : Place) (x : ℕ) (s' : State) → eqb x '>' ≡ false → step (in_tag n p) x ≡ some s' → Silent (in_tag n p) x s'
unfolding note meets depth_after solid_after
tag_silent n p x s' g e = record { goes = e; notes = λ j m. rw g; meeting = λ b. g; depth = λ d. rw g; solid = λ b. rw g }

pub tag-white : (n : List ℕ) (p : Place) → Stays white (in_tag n p)
unfolding Stays
tag-white n p x h = tag_silent n p x (in_tag n p) (unfold white in apart white x '>' refl h) (unfold step step_tag in rw h)

-- The `/` of an empty-element tag.
pub tag-slash : (n : List ℕ) (p : Place) → Silent (in_tag n p) '/' (in_empty n p)
tag-slash n p = tag_silent n p '/' (in_empty n p) refl (unfold step step_tag white in refl)

name-grows : (n : List ℕ) (p : Place) (x : ℕ) → name_char x ≡ true → Silent (in_name n p) x (in_name (n ++ (x ∷ [])) p)
unfolding note meets depth_after solid_after
name-grows n p x h =
    let g : eqb x '>' ≡ false = unfold name_char name_start in apart name_char x '>' refl h in
    record { goes = unfold step in rw h; notes = λ j m. rw g; meeting = λ b. g; depth = λ d. rw g; solid = λ b. rw g }

name-passes : (n : List ℕ) (p : Place) (w : List ℕ) → every_of name_char w ≡ true → Passes (in_name n p) w (in_name (n ++ w) p)
unfolding every_of
name-passes n p [] h = subst (λ l. Passes (in_name n p) [] (in_name l p)) (sym (append-nil n)) (passes-nil (in_name n p))
name-passes n p (x ∷ w) h =
    passes-cons (in_name n p) (in_name (n ++ (x ∷ [])) p) (in_name (n ++ (x ∷ w)) p) x w
    (name-grows n p x (and_left (name_char x) (every_of name_char w) h))
    (subst (λ l. Passes (in_name (n ++ (x ∷ [])) p) w (in_name l p)) (append_assoc n (x ∷ []) w)
    (name-passes (n ++ (x ∷ [])) p w (and_right (name_char x) (every_of name_char w) h)))

-- A name stops at the first byte that is none of its own.
pub name-stops : (n : List ℕ) (p : Place) (x : ℕ) (t : List ℕ) → name_char x ≡ false → Likewise (in_name n p) (in_tag n p) (x ∷ t)
unfolding reads read check note meets depth_after solid_after
name-stops n p x t h =
    let e : step (in_name n p) x ≡ step (in_tag n p) x = unfold step in rw h in
    record {
      placed = λ place m. ap (λ o. reads place o (note (in_tag n p) x (place (x ∷ t)) m) t) e;
      reading = λ j m. ap (λ o. read (suc j) o (note (in_tag n p) x j m) t) e;
      checking = λ L N j c.
          ap
          (λ o. weighed L N o (meets (in_tag n p) x c.solid && full L N c) c.met j (λ z. check L N (suc j) z (count (in_tag n p) x c) t))
          e;
    }

spaces-stop : (n : List ℕ) (p : Place) (s : List ℕ) (y : ℕ) (t : List ℕ) → every_of white s ≡ true → name_char y ≡ false →
    Likewise (in_name n p) (in_tag n p) (s ++ (y ∷ t))
unfolding every_of
spaces-stop n p [] y t h e = name-stops n p y t e
spaces-stop n p (x ∷ s) y t h e = name-stops n p x (s ++ (y ∷ t)) (white-name_char x (and_left (white x) (every_of white s) h))

angle_silent : (p : Place) (x : ℕ) (s' : State) → step (angle p) x ≡ some s' → Silent (angle p) x s'
unfolding note meets depth_after solid_after
angle_silent p x s' e = record { goes = e; notes = λ j m. refl; meeting = λ b. refl; depth = λ d. refl; solid = λ b. refl }

pub named : (p : Place) → Enters p → (n : List ℕ) → is_name n ≡ true → Passes (angle p) n (in_name n p)
unfolding Enters is_name
named p g [] h = absurd (false≢true h)
named p g (x ∷ w) h =
    passes-cons (angle p) (in_name (x ∷ []) p) (in_name (x ∷ w) p) x w
    (angle_silent p x (in_name (x ∷ []) p) (g x (and_left (name_start x) (every_of name_char w) h)))
    (name-passes (x ∷ []) p w (and_right (name_start x) (every_of name_char w) h))

-- ---- end tags
pub end_tag_slash : (n : List ℕ) (p : Place) → Silent (angle (inside n p)) '/' (expect false n (in_end_tag p))
end_tag_slash n p = angle_silent (inside n p) '/' (expect false n (in_end_tag p)) (unfold step step_angle in refl)

pub end_tag_white : (p : Place) → Stays white (in_end_tag p)
unfolding Stays note meets depth_after solid_after
end_tag_white p x h =
    let g : eqb x '>' ≡ false = unfold white in apart white x '>' refl h in
    record { goes = unfold step in rw h; notes = λ j m. rw g; meeting = λ b. refl; depth = λ d. rw g; solid = λ b. rw g }

-- ---- comments
comment_silent : (d : Bool) (p : Place) (x : ℕ) (s' : State) → step (in_comment d p) x ≡ some s' → Silent (in_comment d p) x s'
unfolding note meets depth_after solid_after
comment_silent d p x s' e = record { goes = e; notes = λ j m. refl; meeting = λ b. refl; depth = λ d. refl; solid = λ b. refl }

pub comment_bang : (p : Place) → Silent (angle p) '!' (owing false '-' ('-' ∷ []) (in_comment false p))
comment_bang p = angle_silent p '!' (owing false '-' ('-' ∷ []) (in_comment false p)) (unfold step in refl)

pub comment_dashed : (p : Place) (x : ℕ) → eqb x '-' ≡ true → Silent (in_comment false p) x (in_comment true p)
comment_dashed p x e = comment_silent false p x (in_comment true p) (unfold step step_comment in rw e)

pub comment-closing : (p : Place) (x : ℕ) → eqb x '-' ≡ true → Silent (in_comment true p) x (owing false '>' [] (between b0 p))
comment-closing p x e = comment_silent true p x (owing false '>' [] (between b0 p)) (unfold step step_comment in rw e)

pub comment-goes : (d : Bool) (p : Place) (x : ℕ) → eqb x '-' ≡ false → char x ≡ true → Silent (in_comment d p) x (in_comment false p)
comment-goes d p x e h = comment_silent d p x (in_comment false p) (unfold step step_comment in rw (e, h))

-- The body after d, a `-` or none, and then the `-->`.
body-passes : (d : Bool) (p : Place) (b : List ℕ) → is_comment (dashes d ++ b) ≡ true → Passes (in_comment d p) (b ++ ('-' ∷ '-' ∷ '>' ∷ [])) (between b0 p)
body-passes false p [] h =
    passes-cons (in_comment false p) (in_comment true p) (between b0 p) '-' ('-' ∷ '>' ∷ []) (comment_dashed p '-' refl)
    (passes-cons (in_comment true p) (owing false '>' [] (between b0 p)) (between b0 p) '-' ('>' ∷ []) (comment-closing p '-' refl)
    (passes-one (owing false '>' [] (between b0 p)) (between b0 p) '>' (owed_silent '>' [] (between b0 p))))
body-passes true p [] h = absurd (false≢true (sym dash_alone ∙ h))
body-passes false p (x ∷ b) h =
    ⊎_elim
    (λ q. passes-cons (in_comment false p) (in_comment true p) (between b0 p) x (b ++ ('-' ∷ '-' ∷ '>' ∷ [])) (comment_dashed p x q)
    (body-passes true p b (dash_at false x b q h)))
    (λ q. passes-cons (in_comment false p) (in_comment false p) (between b0 p) x (b ++ ('-' ∷ '-' ∷ '>' ∷ []))
    (comment-goes false p x q (comment-head false x b q h)) (body-passes false p b (comment-tail false x b q h)))
    (bool_cases (eqb x '-'))
body-passes true p (x ∷ b) h =
    ⊎_elim
    (λ q. absurd (false≢true (sym (comment_dash b) ∙ dash_at true x b q h)))
    (λ q. passes-cons (in_comment true p) (in_comment false p) (between b0 p) x (b ++ ('-' ∷ '-' ∷ '>' ∷ []))
    (comment-goes true p x q (comment-head true x b q h)) (body-passes false p b (comment-tail true x b q h)))
    (bool_cases (eqb x '-'))

module _ (place : List ℕ → ℕ) where
  -- From the state s and the memory m, at the bytes u, the reader comes to s' and m' with the bytes t left.
  abbrev pub Goes : State → Memory → List ℕ → State → Memory → List ℕ → Type 0
  Goes s m u s' m' t = reads place (some s) m u ≡ reads place (some s') m' t

  -- One byte.
  goes_step : (s s' : State) (m m' : Memory) (x : ℕ) (t : List ℕ) → step s x ≡ some s' → note s x (place (x ∷ t)) m ≡ m' → Goes s m (x ∷ t) s' m' t
  unfolding reads
  goes_step s s' m m' x t e f = ap (λ o. reads place o (note s x (place (x ∷ t)) m) t) e ∙ ap (λ l. reads place (some s') l t) f

  -- The name and the white space of a tag, up to the byte y that follows.
  pub start_tag_through : (p : Place) → Enters p → (m : Memory) (n : Name) (s : Spaces) (y : ℕ) (t : List ℕ) → name_char y ≡ false →
      Goes (angle p) m (n.bytes ++ (s.bytes ++ (y ∷ t))) (in_tag n.bytes p) m (y ∷ t)
  unfolding is_spaces
  start_tag_through p g m n s y t e =
      (named p g n.bytes n.keeps).placed place m (s.bytes ++ (y ∷ t)) ∙
      (spaces-stop n.bytes p s.bytes y t s.keeps e).placed place m ∙
      (loop-passes white (in_tag n.bytes p) (tag-white n.bytes p) s.bytes s.keeps).placed place m (y ∷ t)

  pub end_tag_through : (n : List ℕ) (p : Place) (m : Memory) (s : Spaces) (t : List ℕ) →
      Goes (angle (inside n p)) m (end_tag_then n s t) (between b0 (past p)) (closed (place ('>' ∷ t)) m) t
  unfolding end_tag_then reads step step_angle note is_spaces white
  end_tag_through n p m s t =
      (expect-passes n (in_end_tag p)).placed place m (s.bytes ++ ('>' ∷ t)) ∙
      (loop-passes white (in_end_tag p) (end_tag_white p) s.bytes s.keeps).placed place m ('>' ∷ t)

  pub comment-through : (k : Brackets) (p : Place) (m : Memory) (b : Comment) (t : List ℕ) →
      Goes (between k p) m (comment_then b t) (between b0 p) (marked (place (comment_then b t)) m) t
  unfolding comment_then reads step note
  comment-through k p m b t =
      ap (λ l. reads place (some (in_comment false p)) (marked (place (comment_then b t)) m) l) (sym (append_assoc b.bytes ('-' ∷ '-' ∷ '>' ∷ []) t)) ∙
      (body-passes false p b.bytes b.keeps).placed place (marked (place (comment_then b t)) m) t

  -- ---- references and runs of data
  -- The memory with the data h.
  abbrev pub holding : Held → Memory → Memory
  holding h m = remember m.mark h m.path m.nodes

  pub reference_through : (k : Brackets) (n : List ℕ) (p : Place) (m : Memory) (e : Entity) (t : List ℕ) →
      Goes (between k (inside n p)) m (reference_then e t) (between b0 (inside n p)) (holding (reference_data place m.held e t) m) t
  unfolding reference_then entity_name reads step step_between step_ampersand step_ampersand_a note reference_data solid_then white
  reference_through k n p m lt t = refl
  reference_through k n p m gt t = refl
  reference_through k n p m amp t = refl
  reference_through k n p m apos t = refl
  reference_through k n p m quot t = refl

  run-grows : (k : Brackets) (n : List ℕ) (p : Place) (m : Memory) (x : ℕ) (t : List ℕ) → run_byte k x ≡ true →
      Goes (between k (inside n p)) m (x ∷ t) (between (run_next k x) (inside n p)) (holds (not (white x)) (place (x ∷ t)) m) t
  run-grows k n p m x t h =
      goes_step (between k (inside n p)) (between (run_next k x) (inside n p)) m (holds (not (white x)) (place (x ∷ t)) m) x t
      (unfold step step_between in rw (run-angle k x h, run_ampersand k x h, h))
      (unfold note in rw (run-angle k x h))

  pub run-through : (k : Brackets) (n : List ℕ) (p : Place) (m : Memory) (r t : List ℕ) → is_char_data (pending k ++ r) ≡ true →
      Goes (between k (inside n p)) m (r ++ t) (between (brackets k r) (inside n p)) (holding (run_then place m.held r t) m) t
  unfolding brackets run_then
  run-through k n p m [] t h = refl
  run-through k n p m (x ∷ r) t h =
      run-grows k n p m x (r ++ t) (char_data_head k x r h) ∙
      run-through (run_next k x) n p (holds (not (white x)) (place (x ∷ (r ++ t))) m) r t (char_data_tail k x r h)

-- ---- white space outside the root
outside_silent : (p : Place) (x : ℕ) → white x ≡ true → step_between b0 p x ≡ some (between b0 p) → ((j : ℕ) (m : Memory) → note_between p x j m ≡ m) →
    ((b : Bool) → meets (between b0 p) x b ≡ false) → ((b : Bool) → solid_after (between b0 p) x b ≡ b) → Silent (between b0 p) x (between b0 p)
unfolding note depth_after
outside_silent p x h e f g i =
    record { goes = unfold step in rw (white-angle x h) e; notes = λ j m. rw (white-angle x h) (f j m); meeting = g; depth = λ d. refl; solid = i }

pub before-white : Stays white (between b0 before)
unfolding Stays meets solid_after
before-white x h = outside_silent before x h (unfold step_between in rw h) (λ j m. refl) (λ b. refl) (λ b. refl)

pub after-white : Stays white (between b0 after)
unfolding Stays meets solid_after
after-white x h = outside_silent after x h (unfold step_between in rw h) (λ j m. refl) (λ b. refl) (λ b. refl)
