-- What a search leaves in out is what its lines list. Assumes nothing.
--   elca-text, slca-text, valid-text   the lines made of a search's reply and of what it leaves in out
-- Letters: I index; r reply, o what was lent as out, o' out after the call; f the test for the nodes listed.
use Prim.Native.Nat.{ℕ}
use mathlib.Core.Path.{◌≡◌, refl, sym, ap, ap₂, ◌∙◌}
use mathlib.Core.Logic.{⊎_elim}
use mathlib.Core.List.{List, ◌++◌}
use mathlib.Core.Bool.{Bool}
use borrow.Author.Tests.{eqb-true}
use lib.Dec.{eqb}
use lib.ListN.{length, take, drop}
use lib.Seq.{take_at}
use Rattle.seq.specs.Below.{listed}
use Rattle.seq.specs.Memory.{over}
use Rattle.seq.proofs.Laws.Bools.{bool_cases}
use Rattle.index.specs.declared.Reply.{Reply}
use Rattle.index.specs.Index.{Index}
use Rattle.index.specs.Replies.{accepted, checked, kept_or}
use Rattle.index.proofs.Laws.Replies.{clean-reply, clean_or_stopped}
use Rattle.answers.specs.Searches.{is_elca, is_slca, is_valid, out_of, answers, roomed, elca_reply, elca_out, slca_reply, slca_out, valid_reply, valid_out}
use Rattle.text.specs.Text.{bytes}
use Rattle.report.specs.Lines.{answer_text, listed_by, lent_work, lent_out, lent_own, elca_text, slca_text, valid_text}

-- An accepted call has as its total the number of nodes listed.
total-listed : (most : ℕ) (I : Index) (w : ℕ) (f : ℕ → Bool) (b : Bool) → (checked most I w (roomed I f b)).refusal ≡ accepted →
    (checked most I w (roomed I f b)).total ≡ length (out_of I f)
unfolding roomed answers out_of listed
total-listed most I w f b e =
    ⊎_elim (λ c. ap (λ (r : Reply). r.total) (clean-reply most I w (roomed I f b) c))
    (λ c. absurd (c.refuses (sym (ap (λ (r : Reply). r.refusal) (c.reply (roomed I f b))) ∙ e))) (clean_or_stopped most I w)

listed-out : (r : Reply) (l o : List ℕ) → (r.refusal ≡ accepted → r.total ≡ length l) → listed_by r (take r.total (kept_or r l o)) ≡ listed_by r l
unfolding listed_by kept_or over
listed-out r l o h =
    ⊎_elim (λ q. rw q (ap (λ (k : ℕ). take k (l ++ drop (length l) o)) (h (eqb-true r.refusal accepted q)) ∙ take_at l _ (length l) refl))
    (λ q. rw q) (bool_cases (eqb r.refusal accepted))

-- The lines of a reply r and of what the call leaves in out.
text_of : (name : List ℕ) (r s : Reply) (l o o' : List ℕ) → r ≡ s → o' ≡ kept_or s l o → (s.refusal ≡ accepted → s.total ≡ length l) →
    answer_text name r (listed_by r (take r.total o')) ≡ answer_text name s (listed_by s l)
text_of name r s l o o' e h t =
    ap₂ (λ (x : Reply) (y : List ℕ). answer_text name x (listed_by x (take x.total y))) e h ∙ ap (answer_text name s) (listed-out s l o t)

module _ (I : Index) (r : Reply) (o' : List ℕ) where
  pub elca-text : r ≡ elca_reply I lent_work lent_out lent_own → o' ≡ elca_out I lent_work lent_out lent_own →
      answer_text (bytes "elca") r (listed_by r (take r.total o')) ≡ elca_text I
  unfolding elca_text elca_reply elca_out
  elca-text e h = text_of (bytes "elca") r _ (out_of I (is_elca I)) lent_out o' e h (total-listed 0 I 2560 (is_elca I) _)

  pub slca-text : r ≡ slca_reply I lent_work lent_out → o' ≡ slca_out I lent_work lent_out →
      answer_text (bytes "slca") r (listed_by r (take r.total o')) ≡ slca_text I
  unfolding slca_text slca_reply slca_out
  slca-text e h = text_of (bytes "slca") r _ (out_of I (is_slca I)) lent_out o' e h (total-listed 0 I 2560 (is_slca I) _)

  pub valid-text : r ≡ valid_reply I lent_work lent_out → o' ≡ valid_out I lent_work lent_out →
      answer_text (bytes "valid") r (listed_by r (take r.total o')) ≡ valid_text I
  unfolding valid_text valid_reply valid_out
  valid-text e h = text_of (bytes "valid") r _ (out_of I (is_valid I)) lent_out o' e h (total-listed 8 I 2560 (is_valid I) _)
