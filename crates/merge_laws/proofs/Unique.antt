-- No second outcome fits what the searches without counts and their engine promise: two that do, for one index and the same buffers, have one reply and leave
-- the same in the stack, in out and in own.
-- Letters: I index, b whether the smallest are listed; ys, o, s stack, out and own as lent; r, r' replies; ys' and ys'', o' and o'', s' and s'' the buffers at the end. Assumes nothing.
use Prim.Native.Nat.{ℕ}
use mathlib.Core.Path.{◌≡◌, sym, ap, ◌∙◌}
use mathlib.Core.List.{List}
use mathlib.Core.Bool.{Bool, cond}
use Rattle.index.specs.declared.Reply.{Reply}
use Rattle.index.specs.Index.{Index}
use Rattle.index.specs.Replies.{kept_or}
use Rattle.answers.specs.Searches.{out_of, own_of}
use Rattle.engine.specs.declared.Entry.{Entry}
use Rattle.engine.specs.Search.{is_listed, Searched}
use Rattle.merge.specs.Merge.{MergedElca, MergedSlca}

module _ (I : Index) (ys : List Entry) (o : List ℕ) (r r' : Reply) (ys' ys'' : List Entry) (o' o'' : List ℕ) where
  pub merge_slca_unique : MergedSlca I ys o r ys' o' → MergedSlca I ys o r' ys'' o'' → (r ≡ r') × (ys' ≡ ys'') × (o' ≡ o'')
  merge_slca_unique a b = (a.reply ∙ sym b.reply, a.stack ∙ sym b.stack, a.out ∙ sym b.out)

  pub merge_elca_unique : (s s' s'' : List ℕ) → MergedElca I ys o s r ys' o' s' → MergedElca I ys o s r' ys'' o'' s'' →
      (r ≡ r') × (ys' ≡ ys'') × (o' ≡ o'') × (s' ≡ s'')
  merge_elca_unique s s' s'' a b = (a.reply ∙ sym b.reply, a.stack ∙ sym b.stack, a.out ∙ sym b.out, a.own ∙ sym b.own)

  pub search_unique : (b : Bool) (s s' s'' : List ℕ) → Searched I b ys o s r ys' o' s' → Searched I b ys o s r' ys'' o'' s'' → (r ≡ r') × (ys' ≡ ys'') × (o' ≡ o'') × (s' ≡ s'')
  search_unique b s s' s'' x y =
      let e : r ≡ r' = x.reply ∙ sym y.reply in (
        e,
        x.stack ∙ sym y.stack,
        x.out ∙ ap (λ (z : Reply). kept_or z (out_of I (is_listed I b)) o) e ∙ sym y.out,
        x.own ∙ ap (λ (z : Reply). cond b s (kept_or z (own_of I (is_listed I b)) s)) e ∙ sym y.own,
      )
