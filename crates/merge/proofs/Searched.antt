-- What is promised of the two searches, from what the engine promises. Assumes nothing.
-- Letters: I index; ys, o, w stack, out and own as lent, ys', o', w' as they are then; r reply.
use Prim.Native.Nat.{ℕ}
use mathlib.Core.Path.{◌≡◌, ap, ◌∙◌}
use mathlib.Core.List.{List}
use mathlib.Core.Bool.{Bool, true, false, and-true}
use lib.ListN.{length}
use Rattle.index.specs.declared.Reply.{Reply}
use Rattle.index.specs.Index.{Index}
use Rattle.index.specs.Replies.{kept_or}
use Rattle.depot.specs.Depot.{depot_checked}
use Rattle.answers.specs.Searches.{is_elca, is_slca, out_of, own_of, roomed, out_fits}
use Rattle.engine.specs.declared.Entry.{Entry}
use Rattle.engine.specs.Search.{Searched}
use Rattle.merge.specs.Merge.{merge_elca_reply, merge_elca_out, merge_elca_own, merge_slca_reply, merge_slca_out, MergedElca, MergedSlca}

pub searched-elca : (I : Index) (ys : List Entry) (o w : List ℕ) (r : Reply) (ys' : List Entry) (o' w' : List ℕ) → Searched I false ys o w r ys' o' w' → MergedElca I ys o w r ys' o' w'
unfolding merge_elca_reply merge_elca_out merge_elca_own
searched-elca I ys o w r ys' o' w' d = record {
  reply = d.reply;
  stack = d.stack;
  out = d.out ∙ ap (λ (z : Reply). kept_or z (out_of I (is_elca I)) o) d.reply;
  own = d.own ∙ ap (λ (z : Reply). kept_or z (own_of I (is_elca I)) w) d.reply;
}

pub searched-slca : (I : Index) (ys : List Entry) (o w : List ℕ) (r : Reply) (ys' : List Entry) (o' w' : List ℕ) → Searched I true ys o w r ys' o' w' → MergedSlca I ys o r ys' o'
unfolding merge_slca_reply merge_slca_out
searched-slca I ys o w r ys' o' w' d =
    let same : r ≡ merge_slca_reply I ys o = d.reply ∙ ap (λ (x : Bool). depot_checked I (length ys) (roomed I (is_slca I) x)) (and-true (out_fits I (is_slca I) o)) in
    record { reply = same; stack = d.stack; out = d.out ∙ ap (λ (z : Reply). kept_or z (out_of I (is_slca I)) o) same }
