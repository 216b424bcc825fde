-- The reader takes every document and meets its nodes.
--   element-through, items-through   by the syntax tree, over the pieces of proofs/Pieces
--   text-through                     the whole document
--   complete                         the reader accepts the text of every document
--   tree-read                        and its nodes are those of the document's tree
--   tree_unique                      two documents with the same text have the same tree
-- Letters as in specs/; of a memory, a is the mark, h the data held, q the path, ns the nodes. Assumes nothing.
use Prim.Native.Nat.{ℕ, suc, ◌+◌}
use mathlib.Core.Path.{◌≡◌, refl, sym, ap, ◌∙◌}
use mathlib.Core.List.{List, [], ◌∷◌, ◌++◌, append_assoc, append-nil}
use mathlib.Core.Bool.{true}
use mathlib.Core.Option.{some}
use native.Mathlib.Omega.{arith}
use lib.ListN.{length, length-append}
use Rattle.seq.specs.Lists.{every_of}
use Rattle.profile.specs.Bytes.{'/', '<', '>', white, name_start, name_char, is_s, is_spaces}
use Rattle.profile.specs.Grammar.{Spaces, Misc, remark, blank, Element, empty_tag, tags, Items, end, element, reference, comment, Document, comment_then, end_tag_then, element_then, items_then, miscs_then, text}
use Rattle.profile.specs.Machine.{Place, before, after, inside, past, Brackets, b0, between, step_tag, step, run, start, accepting}
use Rattle.profile.specs.Tree.{Node, node, Held, nothing, data_node, run_then, reference_data, element_nodes, items_nodes, place_in, tree}
use Rattle.profile.specs.Reader.{remember, Reading, top, end_at, flushed, note, read, fresh, tree_of}
use Rattle.profile.proofs.Placed.{reads, reads-run, reads-read}
use Rattle.profile.proofs.Pieces.{Enters, enters-before, enters-inside, brackets, Goes, Stays, loop-passes, start_tag_through, end_tag_through, comment-through, reference_through, run-through, before-white, after-white}

-- ---- lists of nodes
grown : (ns : List Node) (a : Node) → length (ns ++ (a ∷ [])) ≡ suc (length ns)
grown [] a = refl
grown (b ∷ ns) a = ap suc (grown ns a)

end_at-after : (ns : List Node) (a : Node) (more : List Node) (l : ℕ) →
    end_at (length ns) l (ns ++ (a ∷ []) ++ more) ≡ ns ++ (node a.parent a.level a.name a.first l a.met ∷ more)
unfolding end_at
end_at-after [] a more l = refl
end_at-after (b ∷ ns) a more l = ap (λ z. b ∷ z) (end_at-after ns a more l)

-- The node after ns ends at l. The nodes after that, I of their first number, are numbered by how many stand before them.
end_at-own : (ns : List Node) (a : Node) (l : ℕ) (I : ℕ → List Node) →
    end_at (length ns) l (ns ++ (a ∷ []) ++ I (length (ns ++ (a ∷ [])))) ≡ ns ++ (node a.parent a.level a.name a.first l a.met ∷ I (suc (length ns)))
end_at-own ns a l I = ap (λ c. end_at (length ns) l (ns ++ (a ∷ []) ++ I c)) (grown ns a) ∙ end_at-after ns a (I (suc (length ns))) l

-- The same for the nodes D, E and I after ns.
regroup : (ns D : List Node) (E I : ℕ → List Node) →
    ns ++ D ++ E (length (ns ++ D)) ++ I (length (ns ++ D ++ E (length (ns ++ D)))) ≡
    ns ++ (D ++ (E (length ns + length D) ++ I (length ns + length D + length (E (length ns + length D)))))
regroup ns D E I =
    rw (length-append ns D, length-append (ns ++ D) (E (length ns + length D)), length-append ns D) (simp append_assoc)

is_s-spaces : (s : List ℕ) → is_s s ≡ true → every_of white s ≡ true
unfolding is_s is_spaces every_of
is_s-spaces [] h = refl
is_s-spaces (x ∷ s) h = h

module _ (place : List ℕ → ℕ) where
  -- The place of an element's last `<`.
  mark_of : Element → List ℕ → ℕ
  mark_of (empty_tag n s) t = place (element_then (empty_tag n s) t)
  mark_of (tags n s r i s') t = place ('<' ∷ end_tag_then n.bytes s' t)

  -- ---- elements and content
  -- The data held before an element makes its node, if any, and then come the element's own nodes.
  abbrev element_adds : Element → Held → List ℕ → List Node → List ℕ → List Node
  element_adds e h q ns t =
      ns ++ data_node h (top q) (suc (length q)) ++
      element_nodes place e (top q) (suc (length q)) (length (ns ++ data_node h (top q) (suc (length q)))) t

  mutual
    unfolding reads step step_tag note white name_char name_start element_then element_nodes mark_of

    element-through : (e : Element) (k : Brackets) (p : Place) → Enters p → (a : ℕ) (h : Held) (q : List ℕ) (ns : List Node) (t : List ℕ) →
        Goes place (between k p) (remember a h q ns) (element_then e t) (between b0 (past p)) (remember (mark_of e t) nothing q (element_adds e h q ns t)) t
    element-through (empty_tag n s) k p g a h q ns t =
        start_tag_through place p g (remember (place (element_then (empty_tag n s) t)) h q ns) n s '/' ('>' ∷ t) refl
    element-through (tags n s r i s') k p g a h q ns t =
        let u = '<' ∷ end_tag_then n.bytes s' t in
        let body = r.bytes ++ items_then i u in
        let f = place (element_then (tags n s r i s') t) in
        let N = ns ++ data_node h (top q) (suc (length q)) in
        let own = node (top q) (suc (length q)) n.bytes f (place ('>' ∷ body)) (place ('>' ∷ body)) in
        let d = run_then place nothing r.bytes (items_then i u) in
        start_tag_through place p g (remember f h q ns) n s '>' body refl ∙
        run-through place b0 n.bytes p (remember f nothing (length N ∷ q) (N ++ (own ∷ []))) r.bytes (items_then i u) r.keeps ∙
        items-through i (brackets b0 r.bytes) n.bytes p f d (length N) q (N ++ (own ∷ [])) s' t ∙
        ap (λ l. reads place (some (between b0 (past p))) (remember (place u) nothing q l) t)
        (end_at-own N own (place ('>' ∷ t)) (λ c. items_nodes place i (length N) (suc (suc (length q))) c d u))

    -- The items and the end tag of the element numbered v.
    items-through : (i : Items) (k : Brackets) (n : List ℕ) (p : Place) (a : ℕ) (h : Held) (v : ℕ) (q : List ℕ) (ns : List Node) (s : Spaces) (t : List ℕ) →
        Goes place (between k (inside n p)) (remember a h (v ∷ q) ns) (items_then i ('<' ∷ end_tag_then n s t)) (between b0 (past p))
        (remember (place ('<' ∷ end_tag_then n s t)) nothing q
        (end_at v (place ('>' ∷ t)) (ns ++ items_nodes place i v (suc (suc (length q))) (length ns) h ('<' ∷ end_tag_then n s t)))) t
    items-through end k n p a h v q ns s t = end_tag_through place n p (remember (place ('<' ∷ end_tag_then n s t)) h (v ∷ q) ns) s t
    items-through (element e r i) k n p a h v q ns s t =
        let u = '<' ∷ end_tag_then n s t in
        let lev = suc (suc (length q)) in
        let z = r.bytes ++ items_then i u in
        let N = element_adds e h (v ∷ q) ns z in
        let d = run_then place nothing r.bytes (items_then i u) in
        element-through e k (inside n p) (enters-inside n p) a h (v ∷ q) ns z ∙
        run-through place b0 n p (remember (mark_of e z) nothing (v ∷ q) N) r.bytes (items_then i u) r.keeps ∙
        items-through i (brackets b0 r.bytes) n p (mark_of e z) d v q N s t ∙
        ap (λ l. reads place (some (between b0 (past p))) (remember (place u) nothing q (end_at v (place ('>' ∷ t)) l)) t)
        (regroup ns (data_node h v lev) (λ c. element_nodes place e v lev c z) (λ c. items_nodes place i v lev c d u))
    items-through (reference e r i) k n p a h v q ns s t =
        let u = '<' ∷ end_tag_then n s t in
        let d = reference_data place h e (r.bytes ++ items_then i u) in
        reference_through place k n p (remember a h (v ∷ q) ns) e (r.bytes ++ items_then i u) ∙
        run-through place b0 n p (remember a d (v ∷ q) ns) r.bytes (items_then i u) r.keeps ∙
        items-through i (brackets b0 r.bytes) n p a (run_then place d r.bytes (items_then i u)) v q ns s t
    items-through (comment b r i) k n p a h v q ns s t =
        let u = '<' ∷ end_tag_then n s t in
        let f = place (comment_then b (r.bytes ++ items_then i u)) in
        comment-through place k (inside n p) (remember a h (v ∷ q) ns) b (r.bytes ++ items_then i u) ∙
        run-through place b0 n p (remember f h (v ∷ q) ns) r.bytes (items_then i u) r.keeps ∙
        items-through i (brackets b0 r.bytes) n p f (run_then place h r.bytes (items_then i u)) v q ns s t

  -- ---- documents
  -- The place of the last `<` of a row of comments and white space, or a where it has none.
  mark_after : List Misc → List ℕ → ℕ → ℕ
  mark_after [] t a = a
  mark_after (remark b ∷ c) t a = mark_after c t (place (comment_then b (miscs_then c t)))
  mark_after (blank s ∷ c) t a = mark_after c t a

  miscs-through : (p : Place) → Stays white (between b0 p) → (c : List Misc) (a : ℕ) (h : Held) (q : List ℕ) (ns : List Node) (t : List ℕ) →
      Goes place (between b0 p) (remember a h q ns) (miscs_then c t) (between b0 p) (remember (mark_after c t a) h q ns) t
  unfolding miscs_then mark_after
  miscs-through p l [] a h q ns t = refl
  miscs-through p l (remark b ∷ c) a h q ns t =
      comment-through place b0 p (remember a h q ns) b (miscs_then c t) ∙ miscs-through p l c (place (comment_then b (miscs_then c t))) h q ns t
  miscs-through p l (blank s ∷ c) a h q ns t =
      (loop-passes white (between b0 p) l s.bytes (is_s-spaces s.bytes s.keeps)).placed place (remember a h q ns) (miscs_then c t) ∙
      miscs-through p l c a h q ns t

  -- After a whole document the reader stands after the root, with the document's nodes.
  pub record Done (d : Document) (r : Reading) : Type 0 where
    pub state : r.state ≡ some (between b0 after)
    pub held : r.memory.held ≡ nothing
    pub nodes : r.memory.nodes ≡ element_nodes place d.root 0 1 0 (miscs_then d.epilog [])

  pub text-through : (d : Document) → Done d (reads place start fresh (text d))
  unfolding text reads
  text-through d = record { state = ap (λ r. r.state) whole; held = ap (λ r. r.memory.held) whole; nodes = ap (λ r. r.memory.nodes) whole }
    where
      t : List ℕ
      t = miscs_then d.epilog []

      ns : List Node
      ns = element_nodes place d.root 0 1 0 t

      whole : reads place start fresh (text d) ≡ reads place (some (between b0 after)) (remember (mark_after d.epilog [] (mark_of d.root t)) nothing [] ns) []
      whole =
          miscs-through before before-white d.prolog 0 nothing [] [] (element_then d.root t) ∙
          element-through d.root b0 before enters-before (mark_after d.prolog (element_then d.root t) 0) nothing [] [] t ∙
          miscs-through after after-white d.epilog (mark_of d.root t) nothing [] ns []

-- ---- the theorems
-- The reader accepts the text of every document.
pub complete : (d : Document) → accepting (run start (text d)) ≡ true
unfolding accepting
complete d = ap accepting (sym (reads-run (place_in (text d)) start fresh (text d)) ∙ (text-through (place_in (text d)) d).state)

-- Its nodes are those of the document's tree.
module _ (d : Document) where
  done : Done (place_in (text d)) d (reads (place_in (text d)) start fresh (text d))
  done = text-through (place_in (text d)) d

  by_place : read 0 start fresh (text d) ≡ reads (place_in (text d)) start fresh (text d)
  by_place = sym (reads-read (text d) start fresh (text d) (omega arith) ∙ ap (λ j. read j start fresh (text d)) zero-place)
    where
      zero-place : place_in (text d) (text d) ≡ 0
      zero-place = omega arith

  pub tree-read : tree_of (text d) ≡ tree d
  unfolding tree_of tree
  tree-read = ap (λ r. r.memory.nodes) by_place ∙ done.nodes

  -- No data is held at the end.
  pub tree-flushed : flushed (read 0 start fresh (text d)).memory ≡ tree d
  unfolding tree_of
  tree-flushed =
      let m = (read 0 start fresh (text d)).memory in
      ap (λ h. m.nodes ++ data_node h (top m.path) (suc (length m.path))) (ap (λ r. r.memory.held) by_place ∙ done.held) ∙
      append-nil m.nodes ∙
      tree-read

-- So two documents with the same text have the same tree.
pub tree_unique : (d d' : Document) → text d ≡ text d' → tree d ≡ tree d'
tree_unique d d' e = sym (tree-read d) ∙ ap tree_of e ∙ tree-read d'
