-- The whole way: text and words in, ELCA on what was built.
--   search-replies       with work that is long enough the reply is acceptance or ROOM, with the number of answers
--   search_cases         so what was built is never refused but by ROOM;  search-fits: nor by ROOM, with room for every node
--   whole-list           out then begins with the nodes that ELCA lists of the index of the text and the query
--   whole-way            the nodes that are listed are the exclusive lowest common ancestors of the query's words in the text, in increasing number
--   whole-way-document   the same in the tree and the words of each document that has this text
--   whole_unique         no second outcome fits the two calls
-- Letters: T text, Q query, l b what is lent to build, before and after, r its reply; w o s what is lent to search as work, out and own, r' w' o' s' its
-- outcome; v node, j word. Assumes nothing.
use Prim.Native.Nat.{ℕ, ◌+◌, ◌*◌, ◌≤◌, ◌<◌}
use mathlib.Core.Path.{◌≡◌, refl, sym, ap, ap₂, subst, ◌∙◌}
use mathlib.Core.Logic.{◌⊎◌, inl, inr, ◌↔◌, ⊎_elim}
use mathlib.Core.List.{List, [], ◌∷◌}
use mathlib.Core.Bool.{Bool, true, false, cond, ◌&&◌}
use native.Mathlib.Omega.{arith}
use native.Mathlib.Nat.{mul-le-mul_right, mul_comm}
use lib.ListN.{length}
use borrow.Author.Tests.{eqb-false, le-leb, leb-true}
use Rattle.seq.specs.Below.{gather, listed, tabulate}
use Rattle.seq.specs.Memory.{over}
use Rattle.seq.specs.Plain.{FirstAre}
use Rattle.seq.proofs.Laws.Bools.{and_left, and_both}
use Rattle.seq.proofs.Laws.Gather.{length-tabulate, length-gather, listed_le, gather_ext}
use Rattle.seq.proofs.Laws.Plain.{first-are-listed, first-are-map}
use Rattle.answers.specs.Answers.{own_count}
use Rattle.answers.specs.Searches.{is_elca, out_of, own_of, answers, roomed, out_fits, own_fits, elca_reply, elca_out}
use Rattle.answers.proofs.Laws.Meaning.{elca-plain}
use Rattle.index.specs.Index.{Index, nodes, wanted}
use Rattle.index.specs.Replies.{accepted, ROOM}
use Rattle.index.specs.declared.Reply.{Reply}
use Rattle.index.proofs.Laws.Replies.{clean-reply, clean_or_stopped, kept-accepted}
use Rattle.index.proofs.Acceptance.{right-clean}
use Rattle.elca.specs.Promises.{ElcaSearched}
use Rattle.elca.proofs.Entry.{elca_unique}
use Rattle.profile.specs.Grammar.{Document, text}
use Rattle.profile.specs.Tree.{tree}
use Rattle.profile.specs.Reader.{tree_of}
use Rattle.profile.proofs.Complete.{tree-read}
use Rattle.judge.specs.Judge.{judge_reply}
use Rattle.reader.specs.Read.{parents_of}
use Rattle.words.specs.Stands.{stands}
use Rattle.words.proofs.Stands.{stands-known}
use Rattle.query.specs.Query.{Query, asked, word_count}
use Rattle.build.proofs.Replying.{build_unique}
use Rattle.build.specs.Build.{Lent, Builds}
use Rattle.build.proofs.Whole.{parents-long, parents-down}
use Rattle.build_laws.specs.Calls.{handed, built}
use Rattle.build_laws.specs.Search.{WordsElca, text_at, document_at}
use Rattle.build_laws.proofs.Elca.{each_below, elca-words}
use Rattle.build_laws.proofs.Accepted.{built-right, built-sized, built-passed, total-nodes, handed-is}
use Rattle.build_laws.proofs.Lists.{built-lists}

-- ---- the search on what was built
-- The lists are where the words stand, as `at` says.
abbrev Stand : List ℕ → Query → (ℕ → ℕ → Bool) → Type 0
Stand T Q at = (j : ℕ) → j < word_count Q → wanted (built T Q) j ≡ listed (length (parents_of (tree_of T))) (at j)

text-stand : (T : List ℕ) (Q : Query) → Stand T Q (text_at T Q)
text-stand T Q j l = built-lists T Q j l ∙ ap (λ (n : ℕ). listed n (text_at T Q j)) (sym (parents-long T))

document-stand : (T : List ℕ) (Q : Query) (d : Document) → text d ≡ T → Stand T Q (document_at d Q)
unfolding listed
document-stand T Q d e j l =
    text-stand T Q j l ∙
    gather_ext (length (parents_of (tree_of T))) (text_at T Q j) (document_at d Q j) (λ v. v ∷ []) (λ v. v ∷ [])
    (λ v h. ap (λ t. stands t (asked Q j) v) (sym e) ∙ stands-known d (asked Q j) v) (λ v h. refl)

built-elca : (T : List ℕ) (Q : Query) → (judge_reply T).refusal ≡ accepted → (at : ℕ → ℕ → Bool) → Stand T Q at →
    (v : ℕ) → (is_elca (built T Q) v ≡ true) ↔ WordsElca (parents_of (tree_of T)) (word_count Q) at v
unfolding is_elca
built-elca T Q e at lists v =
    let p = parents_of (tree_of T) in
    let W = wanted (built T Q) in
    let plain = elca-plain p (parents-down T e) (word_count Q) W (each_below p (word_count Q) at W lists) v in
    let words = elca-words p (word_count Q) at W lists v in
    (λ q. words.0 (plain.0 q), λ q. plain.1 (words.1 q))

-- The answers fit what is lent.
abbrev fitting : Index → List ℕ → List ℕ → Bool
fitting I o s = out_fits I (is_elca I) o && own_fits I (is_elca I) s

-- Every node is listed at most once.
few-fit : (I : Index) (o s : List ℕ) → nodes I ≤ length o → I.positive * nodes I ≤ length s → fitting I o s ≡ true
unfolding out_fits own_fits out_of own_of listed
few-fit I o s a b =
    and_both _ _
    (le-leb _ (length o) (omega (arith, a, listed_le (nodes I) (is_elca I))))
    (le-leb _ (length s) (omega (arith, b, own-long, mul-le-mul_right {m = length (listed (nodes I) (is_elca I))} {n = nodes I} I.positive (listed_le (nodes I) (is_elca I)), mul_comm (nodes I) I.positive)))
  where
    own-long : length (gather (nodes I) (is_elca I) λ v. tabulate I.positive (own_count I.parents I.positive (wanted I) v)) ≡ length (listed (nodes I) (is_elca I)) * I.positive
    own-long = length-gather I.positive (nodes I) (is_elca I) (λ v. tabulate I.positive (own_count I.parents I.positive (wanted I) v)) (λ i l. length-tabulate I.positive _)

module _ (T : List ℕ) (Q : Query) (l : Lent) (r : Reply) (b : Lent) (a : Builds T Q l r b) (e : r.refusal ≡ accepted) (w o s : List ℕ) (r' : Reply) (w' o' s' : List ℕ)
    (c : ElcaSearched (handed Q r.total b) w o s r' w' o' s') where
  same : handed Q r.total b ≡ built T Q
  same = handed-is T Q l r b a e

  searched : ElcaSearched (built T Q) w o s r' w' o' s'
  searched = subst (λ I. ElcaSearched I w o s r' w' o' s') same c

  judge : (judge_reply T).refusal ≡ accepted
  judge = (built-passed T Q l r b a e).judge

  -- ---- the reply
  pub search-replies : (word_count Q + 2) * r.total ≤ length w →
      r' ≡ roomed (handed Q r.total b) (is_elca (handed Q r.total b)) (fitting (handed Q r.total b) o s)
  unfolding elca_reply
  search-replies h =
      searched.reply ∙
      clean-reply 0 (built T Q) (length w) (roomed (built T Q) (is_elca (built T Q)) (fitting (built T Q) o s))
      (right-clean 0 (built T Q) (length w)
      (built-sized T Q 0 (built-passed T Q l r b a e).query judge (length w) (omega (arith, h, ap (λ (z : ℕ). (word_count Q + 2) * z) (total-nodes T Q l r b a e))))
      (built-right T Q judge)) ∙ ap (λ I. roomed I (is_elca I) (fitting I o s)) (sym same)

  pub search_cases : (word_count Q + 2) * r.total ≤ length w → (r'.refusal ≡ accepted) ⊎ (r'.refusal ≡ ROOM)
  unfolding roomed
  search_cases h = by (fitting (handed Q r.total b) o s) (ap (λ (r : Reply). r.refusal) (search-replies h))
    where
      by : (z : Bool) → r'.refusal ≡ cond z accepted ROOM → (r'.refusal ≡ accepted) ⊎ (r'.refusal ≡ ROOM)
      by true q = inl q
      by false q = inr q

  pub search-fits : (word_count Q + 2) * r.total ≤ length w → r.total ≤ length o → word_count Q * r.total ≤ length s → r'.refusal ≡ accepted
  unfolding roomed
  search-fits h g f =
      ap (λ (r : Reply). r.refusal) (search-replies h) ∙ ap (λ z. cond z accepted ROOM) (ap (λ I. fitting I o s) same ∙ few-fit (built T Q) o s (omega (arith, g, long)) (omega (arith, f, ap (λ (z : ℕ). word_count Q * z) long)))
    where
      long : r.total ≡ nodes (built T Q)
      long = total-nodes T Q l r b a e ∙ sym (parents-long T)

  -- ---- what is listed
  module _ (q : r'.refusal ≡ accepted) where
    accepts : (elca_reply (built T Q) w o s).refusal ≡ accepted
    accepts = sym (ap (λ (r : Reply). r.refusal) searched.reply) ∙ q

    reply-is : elca_reply (built T Q) w o s ≡ roomed (built T Q) (is_elca (built T Q)) (fitting (built T Q) o s)
    unfolding elca_reply
    reply-is =
        ⊎_elim (λ h. clean-reply 0 (built T Q) (length w) _ h) (λ h. absurd (h.refuses (sym (ap (λ (r : Reply). r.refusal) (h.reply _)) ∙ accepts)))
        (clean_or_stopped 0 (built T Q) (length w))

    all_fit : fitting (built T Q) o s ≡ true
    unfolding roomed
    all_fit = by (fitting (built T Q) o s) (sym (ap (λ (r : Reply). r.refusal) reply-is) ∙ accepts)
      where
        by : (z : Bool) → cond z accepted ROOM ≡ accepted → z ≡ true
        by true h = refl
        by false h = absurd (eqb-false 5 0 refl h)

    total-listed : r'.total ≡ length (listed (nodes (built T Q)) (is_elca (built T Q)))
    unfolding answers roomed
    total-listed = ap (λ (r : Reply). r.total) (searched.reply ∙ reply-is)

    pub whole-list : o' ≡ over (listed (nodes (built T Q)) (is_elca (built T Q))) o
    unfolding elca_out out_of listed
    whole-list = searched.out ∙ kept-accepted (elca_reply (built T Q) w o s) _ o accepts

    room-listed : length (listed (nodes (built T Q)) (is_elca (built T Q))) ≤ length o
    unfolding out_fits out_of listed
    room-listed = leb-true _ (length o) (and_left _ (own_fits (built T Q) (is_elca (built T Q)) s) all_fit)

    listed-first : FirstAre r.total (λ v. is_elca (built T Q) v ≡ true) r'.total o'
    listed-first =
        subst (λ (n : ℕ). FirstAre n (λ v. is_elca (built T Q) v ≡ true) r'.total o') (parents-long T ∙ sym (total-nodes T Q l r b a e))
        (subst (λ (m : ℕ). FirstAre (nodes (built T Q)) (λ v. is_elca (built T Q) v ≡ true) m o') (sym total-listed)
        (subst (FirstAre (nodes (built T Q)) (λ v. is_elca (built T Q) v ≡ true) (length (listed (nodes (built T Q)) (is_elca (built T Q))))) (sym whole-list)
        (first-are-listed (nodes (built T Q)) (is_elca (built T Q)) o room-listed)))

    by-words : (at : ℕ → ℕ → Bool) → Stand T Q at → FirstAre r.total (WordsElca (parents_of (tree_of T)) (word_count Q) at) r'.total o'
    by-words at lists =
        first-are-map r.total (λ v. is_elca (built T Q) v ≡ true) (WordsElca (parents_of (tree_of T)) (word_count Q) at) r'.total o'
        (λ v h. (built-elca T Q judge at lists v).0) (λ v h. (built-elca T Q judge at lists v).1) listed-first

    pub whole-way : FirstAre r.total (WordsElca (parents_of (tree_of T)) (word_count Q) (text_at T Q)) r'.total o'
    whole-way = by-words (text_at T Q) (text-stand T Q)

    pub whole-way-document : (d : Document) → text d ≡ T → FirstAre (length (tree d)) (WordsElca (parents_of (tree d)) (word_count Q) (document_at d Q)) r'.total o'
    whole-way-document d x =
        subst (λ (n : ℕ). FirstAre n (WordsElca (parents_of (tree d)) (word_count Q) (document_at d Q)) r'.total o') (total-nodes T Q l r b a e ∙ ap length tree_is)
        (subst (λ ns. FirstAre r.total (WordsElca (parents_of ns) (word_count Q) (document_at d Q)) r'.total o') tree_is (by-words (document_at d Q) (document-stand T Q d x)))
      where
        tree_is : tree_of T ≡ tree d
        tree_is = ap tree_of (sym x) ∙ tree-read d

-- ---- the two calls
pub whole_unique : (T : List ℕ) (Q : Query) (l : Lent) (r₁ r₂ : Reply) (b₁ b₂ : Lent) → Builds T Q l r₁ b₁ → Builds T Q l r₂ b₂ →
    (w o s : List ℕ) (r' r'' : Reply) (w' w'' o' o'' s' s'' : List ℕ) →
    ElcaSearched (handed Q r₁.total b₁) w o s r' w' o' s' → ElcaSearched (handed Q r₂.total b₂) w o s r'' w'' o'' s'' →
    (r' ≡ r'') × (w' ≡ w'') × (o' ≡ o'') × (s' ≡ s'')
whole_unique T Q l r₁ r₂ b₁ b₂ x y w o s r' r'' w' w'' o' o'' s' s'' c c' =
    elca_unique (handed Q r₂.total b₂) w o s r' r'' w' w'' o' o'' s' s'' (subst (λ I. ElcaSearched I w o s r' w' o' s') same c) c'
  where
    same : handed Q r₁.total b₁ ≡ handed Q r₂.total b₂
    same = let h = build_unique T Q l r₁ r₂ b₁ b₂ x y in ap₂ (λ (r : Reply) b. handed Q r.total b) h.0 h.1
