-- What every search is demanded of: its reply, work, and the nodes in out. Assumes nothing.
--   list_demands   a search as the definitions have it does what is demanded
--   list_unique    nothing else does
--   out_demands, out_unique   the same for a search that writes to out alone
-- Letters: I index; w work, o out as lent, w' o' as they are; f the test for the nodes listed; F there is room, `fits` its test; r reply.
use Prim.Native.Nat.{ℕ, ◌≤◌}
use mathlib.Core.Path.{◌≡◌, refl, sym, ap, ◌∙◌}
use mathlib.Core.Logic.{◌↔◌, inl}
use mathlib.Core.List.{List}
use mathlib.Core.Bool.{Bool, true, cond}
use native.Mathlib.Omega.{arith}
use borrow.Author.Tests.{le-leb, leb-true}
use lib.ListN.{length, get_or}
use lib.Seq.{get_or-take}
use Rattle.seq.specs.Below.{listed}
use Rattle.seq.specs.Memory.{over}
use Rattle.seq.specs.Plain.{FirstAre}
use Rattle.seq.proofs.Laws.Members.{length-listed}
use Rattle.seq.proofs.Laws.Memory.{length_over}
use Rattle.seq.proofs.Laws.Plain.{first-are-map, first-are-listed, first-are_unique}
use Rattle.index.specs.declared.Reply.{Reply}
use Rattle.index.specs.Index.{Index, nodes}
use Rattle.index.specs.Replies.{accepted, ROOM, totalled, checked, work_after, kept_or}
use Rattle.index.specs.Plain.{Sized, Right}
use Rattle.index.proofs.Laws.Replies.{kept-accepted}
use Rattle.answers.specs.Searches.{out_of, answers, roomed, out_fits}
use Rattle.demands.specs.Calls.{Replied, how_many, Number, ListDemands}
use Rattle.demands.proofs.Replying.{replied, replied_unique}
use Rattle.demands.proofs.Leaving.{work-left, work_unique, buffer-left, buffer_unique}

-- Out holds the nodes themselves.
pub out_listed : (I : Index) (f : ℕ → Bool) → out_of I f ≡ listed (nodes I) f
unfolding out_of listed
out_listed I f = refl

pub answers-many : (I : Index) (f : ℕ → Bool) → answers I f ≡ how_many I f
unfolding answers
answers-many I f = length-listed (nodes I) f

out-many : (I : Index) (f : ℕ → Bool) → length (out_of I f) ≡ how_many I f
out-many I f = ap length (out_listed I f) ∙ length-listed (nodes I) f

-- Of a right index the test f means the statement P.
abbrev pub Means : ℕ → Index → ℕ → (ℕ → Bool) → (ℕ → Type 0) → Type 0
Means most I w f P = Sized most I w → Right I → (v : ℕ) → (f v ≡ true) ↔ P v

-- Of a right index as many nodes pass the test as P holds of.
numbered : (most : ℕ) (I : Index) (w : ℕ) (f : ℕ → Bool) (P : ℕ → Type 0) → Means most I w f P → Sized most I w → Right I → Number (nodes I) P (how_many I f)
numbered most I w f P plain s R =
    let l : List ℕ = listed (nodes I) f in
    record {
      list = over l l;
      long = length_over l l (omega arith) ∙ length-listed (nodes I) f;
      are = rw (sym (length-listed (nodes I) f)) (first-are-map (nodes I) (λ v. f v ≡ true) P (length l) (over l l) (λ v h. (plain s R v).0) (λ v h. (plain s R v).1)
          (first-are-listed (nodes I) f l (omega arith)));
    }

-- The nodes listed, by their test.
pub tested : (most : ℕ) (f : ℕ → Bool) (P : ℕ → Type 0) (F : Type 0) (I : Index) (w o : List ℕ) (r : Reply) (w' o' : List ℕ) → Means most I (length w) f P →
    ListDemands most f P F I w o r w' o' → r.refusal ≡ accepted → FirstAre (nodes I) (λ v. f v ≡ true) r.total o'
tested most f P F I w o r w' o' plain D q =
    let h : Sized most I (length w) × Right I × F = D.reply.accepts.0 q in
    first-are-map (nodes I) P (λ v. f v ≡ true) r.total o' (λ v l. (plain h.0 h.1 v).1) (λ v l. (plain h.0 h.1 v).0) (D.lists q)

module _ (most : ℕ) (f : ℕ → Bool) (P : ℕ → Type 0) (F : Type 0) (fits : Bool) (to : fits ≡ true → F) (of : F → fits ≡ true) (I : Index) (w o : List ℕ)
    (fit : F → how_many I f ≤ length o) (plain : Means most I (length w) f P) where
  abbrev reply : Reply
  reply = checked most I (length w) (roomed I f fits)

  reply-is : reply ≡ checked most I (length w) (totalled (cond fits accepted ROOM) (how_many I f))
  unfolding roomed
  reply-is = ap (λ (z : ℕ). checked most I (length w) (totalled (cond fits accepted ROOM) z)) (answers-many I f)

  module _ (r : Reply) (D : Replied most I (length w) F (how_many I f) r) where
    out-total : r.refusal ≡ accepted → r.total ≡ length (out_of I f)
    out-total q = D.total (inl q) ∙ sym (out-many I f)

    out-fits : r.refusal ≡ accepted → length (out_of I f) ≤ length o
    out-fits q = omega (arith, out-many I f, fit (D.accepts.0 q).2)

    listed-first : r.refusal ≡ accepted → FirstAre (nodes I) (λ v. f v ≡ true) r.total (kept_or r (out_of I f) o)
    listed-first q =
        let many : r.total ≡ length (listed (nodes I) f) = out-total q ∙ ap length (out_listed I f) in
        let new : kept_or r (out_of I f) o ≡ over (listed (nodes I) f) o = kept-accepted r (out_of I f) o q ∙ ap (λ (l : List ℕ). over l o) (out_listed I f) in
        rw (new, many) (first-are-listed (nodes I) f o (omega (arith, out-fits q, ap length (out_listed I f))))

    pub of-reply : (w' o' : List ℕ) → w' ≡ work_after most I w → o' ≡ kept_or r (out_of I f) o → ListDemands most f P F I w o r w' o'
    of-reply w' o' ew eo = record {
      reply = D;
      number = numbered most I (length w) f P plain;
      work = rw ew (work-left most I w r D.size);
      out = rw eo (buffer-left r r.total (out_of I f) o out-total out-fits);
      lists = λ q.
          let h : Sized most I (length w) × Right I × F = D.accepts.0 q in
          rw eo (first-are-map (nodes I) (λ v. f v ≡ true) P r.total (kept_or r (out_of I f) o) (λ v l. (plain h.0 h.1 v).0) (λ v l. (plain h.0 h.1 v).1)
          (listed-first q));
    }

  pub list_demands : (r : Reply) (w' o' : List ℕ) → r ≡ reply → w' ≡ work_after most I w → o' ≡ kept_or r (out_of I f) o → ListDemands most f P F I w o r w' o'
  list_demands r w' o' e = of-reply r (rw (e ∙ reply-is) (replied most I (length w) F fits (how_many I f) to of)) w' o'

  module _ (r : Reply) (w' o' : List ℕ) (D : ListDemands most f P F I w o r w' o') where
    pub list_unique : (r ≡ reply) × (w' ≡ work_after most I w) × (o' ≡ kept_or r (out_of I f) o)
    list_unique = (
      replied_unique most I (length w) F fits (how_many I f) to of r D.reply ∙ sym reply-is,
      work_unique most I w r D.reply.size w' D.work,
      buffer_unique r r.total (out_of I f) o (out-total r D.reply) (out-fits r D.reply) o' D.out
          (λ q i l. sym (get_or-take r.total o' i 0 l) ∙ ap (λ (z : List ℕ). get_or z i 0) (first-are_unique (nodes I) f r.total o' (tested most f P F I w o r w' o' plain D q) ∙ sym (out_listed I f))),
    )

-- ---- room in out
module _ (I : Index) (f : ℕ → Bool) (o : List ℕ) where
  pub out-room : out_fits I f o ≡ true → how_many I f ≤ length o
  unfolding out_fits
  out-room e = omega (arith, out-many I f, leb-true (length (out_of I f)) (length o) e)

  pub room_out : how_many I f ≤ length o → out_fits I f o ≡ true
  unfolding out_fits
  room_out h = le-leb (length (out_of I f)) (length o) (omega (arith, out-many I f))

-- ---- a search that writes to out alone
module _ (most : ℕ) (f : ℕ → Bool) (P : ℕ → Type 0) (I : Index) (w o : List ℕ) (r : Reply) (w' o' : List ℕ) (plain : Means most I (length w) f P) where
  abbrev Demanded : Type 0
  Demanded = ListDemands most f P (how_many I f ≤ length o) I w o r w' o'

  abbrev given : Reply
  given = checked most I (length w) (roomed I f (out_fits I f o))

  pub out_demands : r ≡ given → w' ≡ work_after most I w → o' ≡ kept_or given (out_of I f) o → Demanded
  out_demands e ew eo =
      list_demands most f P _ (out_fits I f o) (out-room I f o) (room_out I f o) I w o (λ h. h) plain r w' o' e ew (eo ∙ ap (λ (z : Reply). kept_or z (out_of I f) o) (sym e))

  pub out_unique : Demanded → (r ≡ given) × (w' ≡ work_after most I w) × (o' ≡ kept_or given (out_of I f) o)
  out_unique d =
      let u : (r ≡ given) × (w' ≡ work_after most I w) × (o' ≡ kept_or r (out_of I f) o) =
      list_unique most f P _ (out_fits I f o) (out-room I f o) (room_out I f o) I w o (λ h. h) plain r w' o' d in
      (u.0, u.1, u.2 ∙ ap (λ (z : Reply). kept_or z (out_of I f) o) u.0)
