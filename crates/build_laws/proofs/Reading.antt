-- An accepted call has read the text as a reader does.
--   built-reads   parents, tags, first and last places and work are as the reader's contract has them
--   built-taken   so they are the rows of the tree of each document that has this text (`reader_laws`, specs/Calls)
-- Letters: T text, Q query, l b what is lent, before and after, r reply. Assumes nothing.
use Prim.Native.Nat.{ℕ}
use mathlib.Core.Path.{◌≡◌, sym, ap, ◌∙◌}
use mathlib.Core.List.{List}
use mathlib.Core.Bool.{true, cond}
use lib.ListN.{length}
use borrow.Author.Tests.{eq-eqb}
use Rattle.index.specs.Replies.{accepted, ROOM, totalled}
use Rattle.index.specs.declared.Reply.{Reply}
use Rattle.profile.specs.Reader.{tree_of}
use Rattle.judge.specs.Judge.{judge_reply}
use Rattle.judge.proofs.Meaning.{accepted-total}
use Rattle.reader.specs.Read.{fits_in, read_reply, Reads}
use Rattle.reader_laws.specs.Calls.{Taken}
use Rattle.reader_laws.proofs.Calls.{profile_accepted}
use Rattle.query.specs.Query.{Query}
use Rattle.build.specs.Build.{Lent, sizes, Builds}
use Rattle.plan.proofs.Texts.{text-kept}
use Rattle.build_laws.specs.Calls.{rows}
use Rattle.build_laws.proofs.Room.{tree-fits, enough-plain}
use Rattle.plan.proofs.Tests.{Passed}
use Rattle.build_laws.proofs.Accepted.{built-passed}

read-reply : (T : List ℕ) (l : Lent) → (judge_reply T).refusal ≡ accepted → fits_in (length (tree_of T)) (rows l) ≡ true → read_reply T (rows l) ≡ judge_reply T
unfolding read_reply
read-reply T l e f =
    ap (λ z. cond z (cond (fits_in (judge_reply T).total (rows l)) (judge_reply T) (totalled ROOM (judge_reply T).total)) (judge_reply T)) (eq-eqb _ _ e) ∙
    ap (λ z. cond z (judge_reply T) (totalled ROOM (judge_reply T).total)) (ap (λ (n : ℕ). fits_in n (rows l)) (text-kept T e).total ∙ f)

module _ (T : List ℕ) (Q : Query) (l : Lent) (r : Reply) (b : Lent) (s : Builds T Q l r b) (e : r.refusal ≡ accepted) where
  passed : Passed T Q (length l.slots) (sizes l)
  passed = built-passed T Q l r b s e

  pub built-reads : Reads T (rows l) r (rows b)
  built-reads =
      record {
        reply = s.reply ∙ passed.reply ∙ sym (read-reply T l passed.judge (tree-fits T Q l ((enough-plain T Q l).0 passed.room)));
        parents = s.parents;
        tags = s.tags;
        firsts = s.firsts;
        lasts = s.lasts;
        work = s.work;
      }

  pub built-taken : Taken T (rows l) r.total (rows b)
  built-taken = (profile_accepted T (rows l) r (rows b) built-reads r.total).0 (reply-is ∙ accepted-total T r.total passed.judge (sym (ap (λ (r : Reply). r.total) reply-is)))
    where
      reply-is : r ≡ judge_reply T
      reply-is = s.reply ∙ passed.reply
