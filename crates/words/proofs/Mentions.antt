-- The nodes of the mentions of a document.
--   below n m         == the mention m is of a node below n
--   rising v M        == the nodes of the mentions M do not fall, from v on
--   mentions-below    each mention is of a node of the document's tree
--   mentions-rising   the mentions come by rising nodes
-- Assumes nothing.
use Prim.Native.Nat.{ℕ, suc, ◌+◌, ◌≤◌}
use mathlib.Core.Path.{◌≡◌, refl, sym, ap, ◌∙◌}
use mathlib.Core.List.{List, [], ◌∷◌, ◌++◌, map}
use mathlib.Core.Bool.{Bool, true, ◌&&◌}
use native.Mathlib.Omega.{arith}
use lib.Dec.{ltb, leb}
use lib.ListN.{length, length-map}
use borrow.Author.Tests.{lt-ltb, le-leb, leb-true}
use Rattle.seq.specs.Lists.{every_of}
use Rattle.seq.proofs.Laws.Bools.{and_left, and_right, and_both}
use Rattle.profile.specs.Grammar.{Document, text}
use Rattle.profile.specs.Tree.{tree, place_in}
use Rattle.words.specs.Places.{Placed, document_placed, Mention, mentions_at, mentioned, mentions_of}
use Rattle.words.proofs.Aligned.{document_aligned, aligned_length}
use Rattle.words.proofs.Forgets.{document_forgets}

abbrev pub below : ℕ → Mention → Bool
below n m = ltb m.node n

unfoldable pub rising : ℕ → List Mention → Bool
rising v [] = true
rising v (m ∷ M) = leb v m.node && rising m.node M

-- ---- below a number
own_below : (n v : ℕ) → suc v ≤ n → (l : List Placed) (place : List ℕ → ℕ) (M : List Mention) → every_of (below n) M ≡ true → every_of (below n) (mentions_at place v l ++ M) ≡ true
unfolding every_of
own_below n v h [] place M k = k
own_below n v h (p ∷ l) place M k = and_both _ _ (lt-ltb v n h) (own_below n v h l place M k)

all-below : (n v : ℕ) (place : List ℕ → ℕ) (l : List (List Placed)) → v + length l ≤ n → every_of (below n) (mentioned place v l) ≡ true
unfolding mentioned
all-below n v place [] h = unfold every_of in refl
all-below n v place (p ∷ l) h = own_below n v (omega arith) p place (mentioned place (suc v) l) (all-below n (suc v) place l (omega arith))

placed-length : (d : Document) → length (document_placed d) ≡ length (tree d)
placed-length d = sym (length-map (document_placed d) (map (λ (p : Placed). p.word))) ∙ ap length (document_forgets d) ∙ aligned_length (document_aligned d)

pub mentions-below : (d : Document) → every_of (below (length (tree d))) (mentions_of d) ≡ true
unfolding mentions_of
mentions-below d = all-below (length (tree d)) 0 (place_in (text d)) (document_placed d) (omega (arith, placed-length d))

-- ---- rising
rising-lower : (v w : ℕ) → v ≤ w → (M : List Mention) → rising w M ≡ true → rising v M ≡ true
unfolding rising
rising-lower v w h [] k = refl
rising-lower v w h (m ∷ M) k = and_both _ _ (le-leb v m.node (omega (arith, leb-true w m.node (and_left (leb w m.node) (rising m.node M) k)))) (and_right (leb w m.node) (rising m.node M) k)

own-rising : (v : ℕ) (l : List Placed) (place : List ℕ → ℕ) (M : List Mention) → rising v M ≡ true → rising v (mentions_at place v l ++ M) ≡ true
unfolding rising
own-rising v [] place M k = k
own-rising v (p ∷ l) place M k = and_both _ _ (le-leb v v (omega arith)) (own-rising v l place M k)

all-rising : (v : ℕ) (place : List ℕ → ℕ) (l : List (List Placed)) → rising v (mentioned place v l) ≡ true
unfolding mentioned
all-rising v place [] = unfold rising in refl
all-rising v place (p ∷ l) = own-rising v p place (mentioned place (suc v) l) (rising-lower v (suc v) (omega arith) (mentioned place (suc v) l) (all-rising (suc v) place l))

pub mentions-rising : (d : Document) → rising 0 (mentions_of d) ≡ true
unfolding mentions_of
mentions-rising d = all-rising 0 (place_in (text d)) (document_placed d)
