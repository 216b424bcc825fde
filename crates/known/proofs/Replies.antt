-- The order of refusals with UNKNOWN in it, and what an admitted call says of its index. Assumes nothing.
--   admitted-asked                       where the empty answer is asked for, the reply is that of the index check
--   unknown_given, known-passed          the reply of a right index without the flag
--   checked_never, check_never_unknown, asked_never_unknown   the index check never gives UNKNOWN, nor does a search that asks for the empty answer
--   flag-only_unknown                    the flag changes no reply but UNKNOWN
--   admits_or_halts                      either nothing before the search applies, or the reply is one refusal whatever comes after
--   admitted-refused, admitted-accepted  a search replies as `admit` where that refuses, and by itself where it accepts
--   admitted-right, admit-right          an index that is admitted has its sizes and is right, and its words are as asked
--   admit_unique                         no second outcome of `admit` fits its contract
-- Letters: I index; asks whether the empty answer is asked for; w work or its length; r reply.
use Prim.Native.Nat.{ℕ, ◌≤◌, ◌<◌}
use mathlib.Core.Path.{◌≡◌, refl, sym, ap, ◌∙◌}
use mathlib.Core.Logic.{◌⊎◌, inl, inr, ⊎_elim}
use mathlib.Core.List.{List}
use mathlib.Core.Bool.{Bool, true, false, false≢true}
use native.Mathlib.Omega.{arith}
use lib.ListN.{length}
use Rattle.std.specs.Prelude.{Option, Some, None}
use Rattle.seq.specs.Below.{Lowest}
use Rattle.seq.proofs.Laws.Bools.{bool_cases}
use Rattle.seq.proofs.Laws.Numbers.{less_or}
use Rattle.index.specs.declared.Reply.{Reply}
use Rattle.index.specs.declared.replies.Refusal.{Refusal}
use Rattle.index.specs.Index.{Index}
use Rattle.index.specs.Replies.{accepted, SIZE, TREE, LIST, COUNT, refused, totalled, size_ok, refusing, refusal_reply, checked, check_reply}
use Rattle.index.specs.Plain.{Sized, Right}
use Rattle.index.specs.Promises.{Checked}
use Rattle.index.proofs.Laws.Sizes.{sized_of}
use Rattle.index.proofs.Laws.Replies.{refusing-yes, refusing_no, checked-size, Clean, clean-reply, Stopped, clean_or_stopped, check-stopped, check-passed, none-checked}
use Rattle.index.proofs.Acceptance.{clean-right, checked-right}
use Rattle.known.specs.Known.{UNKNOWN, known, unknown_word, unless_unknown, admitted, admit_reply}
use Rattle.known.specs.Plain.{WordsAsked}
use Rattle.known.specs.Promises.{Admitted}
use Rattle.known.specs.Inner.{end_moves}
use Rattle.known.proofs.Laws.{known-all, lowest_unknown}

-- ---- with the flag, and without it
pub admitted-asked : (most : ℕ) (I : Index) (w : ℕ) (r : Reply) → admitted most true I w r ≡ checked most I w r
unfolding admitted unless_unknown
admitted-asked most I w r = refl

pub unknown_given : (I : Index) (r : Reply) → unknown_word I < I.positive → unless_unknown false I r ≡ refused UNKNOWN (unknown_word I)
unfolding unless_unknown
unknown_given I r l = refusing-yes UNKNOWN (unknown_word I) I.positive r l

pub known-passed : (asks : Bool) (I : Index) (r : Reply) → (asks ≡ false → I.positive ≤ unknown_word I) → unless_unknown asks I r ≡ r
unfolding unless_unknown
known-passed true I r h = refl
known-passed false I r h = refusing_no UNKNOWN (unknown_word I) I.positive r (h refl)

-- UNKNOWN is not among the replies of the index check, nor is it given where the empty answer is asked for.
pub checked_never : (most : ℕ) (I : Index) (w : ℕ) (r : Reply) → (r.refusal ≡ UNKNOWN → ⊥) → (checked most I w r).refusal ≡ UNKNOWN → ⊥
unfolding checked
checked_never most I w r ne =
    ⊎_elim (λ s. rw s (refusing_never TREE _ _ _ (λ q. omega arith) (refusing_never LIST _ _ _ (λ q. omega arith) (refusing_never COUNT _ _ _ (λ q. omega arith) ne))))
    (λ s. rw s (λ q. omega (arith, q))) (bool_cases (size_ok most I w))
  where
    refusing_never : (number at limit : ℕ) (next : Reply) → (number ≡ UNKNOWN → ⊥) → (next.refusal ≡ UNKNOWN → ⊥) → (refusing number at limit next).refusal ≡ UNKNOWN → ⊥
    refusing_never number at limit next a b =
        ⊎_elim (λ l q. a (sym (ap (λ (z : Reply). z.refusal) (refusing-yes number at limit next l)) ∙ q))
        (λ l q. b (sym (ap (λ (z : Reply). z.refusal) (refusing_no number at limit next l)) ∙ q)) (less_or at limit)

pub check_never_unknown : (I : Index) (w : List ℕ) → (check_reply I w).refusal ≡ UNKNOWN → ⊥
unfolding check_reply
check_never_unknown I w = checked_never 8 I (length w) (totalled accepted 0) (λ q. omega arith)

pub asked_never_unknown : (most : ℕ) (I : Index) (w : ℕ) (r : Reply) → (r.refusal ≡ UNKNOWN → ⊥) → (admitted most true I w r).refusal ≡ UNKNOWN → ⊥
unfolding admitted unless_unknown
asked_never_unknown most I w r ne = checked_never most I w r ne

pub admitted-size : (most : ℕ) (asks : Bool) (I : Index) (w : ℕ) (r : Reply) → size_ok most I w ≡ false → admitted most asks I w r ≡ refused SIZE 0
unfolding admitted
admitted-size most asks I w r e = checked-size most I w _ e

-- A reply other than UNKNOWN is the same where the empty answer is asked for.
pub flag-only_unknown : (most : ℕ) (asks : Bool) (I : Index) (w : ℕ) (r : Reply) → ((admitted most asks I w r).refusal ≡ UNKNOWN → ⊥) → admitted most asks I w r ≡ admitted most true I w r
unfolding admitted
flag-only_unknown most true I w r ne = refl
flag-only_unknown most false I w r ne =
    ⊎_elim
    (λ c. ⊎_elim (λ l. absurd (ne (ap (λ (z : Reply). z.refusal) (given c l)))) (λ l. passed c l) (less_or (unknown_word I) I.positive))
    stopped (clean_or_stopped most I w)
  where
    given : Clean most I w → unknown_word I < I.positive → admitted most false I w r ≡ refused UNKNOWN (unknown_word I)
    given c l = clean-reply most I w (unless_unknown false I r) c ∙ unknown_given I r l

    passed : Clean most I w → I.positive ≤ unknown_word I → admitted most false I w r ≡ admitted most true I w r
    passed c l =
        clean-reply most I w (unless_unknown false I r) c ∙ known-passed false I r (λ q. l)
        ∙ sym (clean-reply most I w (unless_unknown true I r) c ∙ known-passed true I r (λ q. l))

    stopped : Stopped most I w → admitted most false I w r ≡ admitted most true I w r
    stopped s = s.reply (unless_unknown false I r) ∙ sym (s.reply (unless_unknown true I r))

-- ---- what comes before a search
-- Nothing applies: then a reply is the search's own.
pub record Free (most : ℕ) (asks : Bool) (I : Index) (w : ℕ) : Type 0 where
  pub clean : Clean most I w
  pub known : asks ≡ false → I.positive ≤ unknown_word I

-- A refusal that does not depend on what comes after it.
pub record Halted (most : ℕ) (asks : Bool) (I : Index) (w : ℕ) : Type 0 where
  pub number : ℕ
  pub place : ℕ
  pub refuses : number ≡ accepted → ⊥
  pub reply : (r : Reply) → admitted most asks I w r ≡ refused number place

pub free-reply : (most : ℕ) (asks : Bool) (I : Index) (w : ℕ) (r : Reply) → Free most asks I w → admitted most asks I w r ≡ r
unfolding admitted
free-reply most asks I w r f = clean-reply most I w _ f.clean ∙ known-passed asks I r f.known

pub admits_or_halts : (most : ℕ) (asks : Bool) (I : Index) (w : ℕ) → Free most asks I w ⊎ Halted most asks I w
unfolding admitted
admits_or_halts most asks I w =
    ⊎_elim (λ c. of-clean asks c)
    (λ s. inr (record { number = s.number; place = s.place; refuses = s.refuses; reply = λ r. s.reply (unless_unknown asks I r) })) (clean_or_stopped most I w)
  where
    of-clean : (asks : Bool) → Clean most I w → Free most asks I w ⊎ Halted most asks I w
    of-clean true c = inl (record { clean = c; known = λ q. absurd (false≢true (sym q)) })
    of-clean false c =
        ⊎_elim
        (λ l. inr (record { number = UNKNOWN; place = unknown_word I; refuses = λ q. omega arith; reply = λ r. clean-reply most I w _ c ∙ unknown_given I r l }))
        (λ l. inl (record { clean = c; known = λ q. l })) (less_or (unknown_word I) I.positive)

-- ---- a search on the reply of `admit`
module _ (asks : Bool) (I : Index) (w : List ℕ) where
  pub admitted-refused : (r : Reply) → ((admit_reply asks I w).refusal ≡ accepted → ⊥) → admitted 8 asks I (length w) r ≡ admit_reply asks I w
  unfolding admit_reply
  admitted-refused r ne =
      ⊎_elim (λ f. absurd (ne (ap (λ (z : Reply). z.refusal) (free-reply 8 asks I (length w) (totalled accepted 0) f))))
      (λ h. h.reply r ∙ sym (h.reply (totalled accepted 0))) (admits_or_halts 8 asks I (length w))

  module _ (e : (admit_reply asks I w).refusal ≡ accepted) where
    admitted-free : Free 8 asks I (length w)
    unfolding admit_reply
    admitted-free =
        ⊎_elim (λ f. f) (λ h. absurd (h.refuses (sym (ap (λ (z : Reply). z.refusal) (h.reply (totalled accepted 0))) ∙ e))) (admits_or_halts 8 asks I (length w))

    pub admitted-accepted : (r : Reply) → admitted 8 asks I (length w) r ≡ r
    admitted-accepted r = free-reply 8 asks I (length w) r admitted-free

    pub admitted-right : Sized 8 I (length w) × Right I × WordsAsked asks I
    admitted-right =
        let s : Sized 8 I (length w) = sized_of 8 I (length w) admitted-free.clean.size in
        let R : Right I = clean-right 8 I (length w) admitted-free.clean in
        (s, R, λ q. known-all I R.lists (omega (arith, s.ended)) (admitted-free.known q))

-- The same from the contract, for the searches that ask `admit` first.
pub admit-right : (asks : Bool) (I : Index) (w : List ℕ) (r : Reply) (w' : List ℕ) → Admitted asks I w r w' → r.refusal ≡ accepted → Sized 8 I (length w) × Right I × WordsAsked asks I
admit-right asks I w r w' c e = admitted-right asks I w (ap (λ (z : Reply). z.refusal) (sym c.reply) ∙ e)

-- A search that takes no negative word, where there is none.
pub none-admitted : (asks : Bool) (I : Index) → I.negative ≡ 0 → (w : ℕ) (r : Reply) → admitted 0 asks I w r ≡ admitted 8 asks I w r
unfolding admitted
none-admitted asks I z w r = none-checked I z w (unless_unknown asks I r)

-- ---- `admit`, after the index check
module _ (asks : Bool) (I : Index) (w w₁ : List ℕ) where
  -- A refusal of the check is `admit`'s own.
  pub admit-refused : (e : Refusal) → Checked I w (refusal_reply e) w₁ → Admitted asks I w (refusal_reply e) w₁
  unfolding admit_reply admitted
  admit-refused e c = record { reply = check-stopped I w w₁ e c _; work = c.work }

  module _ (c : Checked I w (totalled accepted 0) w₁) where
    pub admit-sized : Sized 8 I (length w)
    admit-sized = (checked-right I w (totalled accepted 0) w₁ c refl).0

    passed : (asks ≡ false → I.positive ≤ unknown_word I) → Admitted asks I w (totalled accepted 0) w₁
    unfolding admit_reply admitted
    passed h = record { reply = sym (known-passed asks I (totalled accepted 0) h) ∙ check-passed I w w₁ c _; work = c.work }

    pub admit-asked : asks ≡ true → Admitted asks I w (totalled accepted 0) w₁
    admit-asked q = passed (λ z. absurd (false≢true (sym z ∙ q)))

    -- What the search for an empty list gives is the lowest unknown word.
    found : (r : Option ℕ) → Lowest I.positive (end_moves I.ends) r → Lowest I.positive (known I) r
    found r l = lowest_unknown I (checked-right I w (totalled accepted 0) w₁ c refl).1.lists (omega (arith, admit-sized.ended)) r l

    pub admit_unknown : asks ≡ false → (x : ℕ) → Lowest I.positive (end_moves I.ends) (Some x) → Admitted asks I w (refused UNKNOWN x) w₁
    unfolding admit_reply admitted unknown_word
    admit_unknown q x l =
        let m = found (Some x) l in
        record {
          reply = ap (refused UNKNOWN) m.1
              ∙ sym (ap (λ (b : Bool). unless_unknown b I (totalled accepted 0)) q ∙ unknown_given I (totalled accepted 0) (omega (arith, m.0, m.1)))
              ∙ check-passed I w w₁ c _;
          work = c.work;
        }

    pub admit-known : Lowest I.positive (end_moves I.ends) None → Admitted asks I w (totalled accepted 0) w₁
    unfolding unknown_word
    admit-known l = passed (λ z. omega (arith, found None l))

-- ---- no second outcome fits
pub admit_unique : (asks : Bool) (I : Index) (w : List ℕ) (r r' : Reply) (w' w'' : List ℕ) → Admitted asks I w r w' → Admitted asks I w r' w'' → (r ≡ r') × (w' ≡ w'')
admit_unique asks I w r r' w' w'' a b = (a.reply ∙ sym b.reply, a.work ∙ sym b.work)
