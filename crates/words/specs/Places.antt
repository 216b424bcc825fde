-- The words of a document with their places: the same as specs/Words, and for each word the row of bytes that begins with its first letter or digit.
--   Spot           == a character of data or of a name, and the row of bytes that begins with it, or with its reference
--   Placed         == a word, and the row that begins with its first byte
--   runs_at, placed_of                             == the words of a row of spots, as `runs` and `words_of` of specs/Runs
--   element_placed, items_placed, document_placed   == as element_words, items_words and document_words of specs/Words
--   Mention        == a node's number, and the place of a word's first byte
--   mentioned v l  == the words l of the nodes from v on as mentions, in order;  mentions_of d: those of the document d
-- A row stands in the text at the place that `place_in` of `profile` gives it. That without the places these are the words of specs/Words: proofs/Forgets.
-- Letters: s a spot, c spots, u t rows, b a run of letters. Assumes nothing.
use Rattle.std.specs.Prelude.{ℕ, suc, List, [], ◌∷◌, ◌++◌, map, cond}
use Rattle.seq.specs.Lists.{every_of}
use Rattle.profile.specs.Bytes.{'<', '>', '/', white}
use Rattle.profile.specs.Grammar.{Element, empty_tag, tags, Items, end, element, reference, comment, Document, end_tag_then, reference_then, items_then, miscs_then, text}
use Rattle.profile.specs.Tree.{place_in}
use Rattle.words.specs.Runs.{Word, word_byte, lower}
use Rattle.words.specs.Words.{entity_char}

pub record Spot : Type 0 where
  pub char : ℕ
  pub row : List ℕ

abbrev pub spot : ℕ → List ℕ → Spot
spot x u = record { char = x; row = u }

pub record Placed : Type 0 where
  pub row : List ℕ
  pub word : Word

abbrev pub placed : List ℕ → Word → Placed
placed u w = record { row = u; word = w }

-- The spots of the run r, which t follows.
unfoldable pub spots : List ℕ → List ℕ → List Spot
spots [] t = []
spots (x ∷ r) t = spot x (x ∷ (r ++ t)) ∷ spots r t

-- The word that the run b makes, which began at the row u.
unfoldable pub closed_at : List ℕ → List ℕ → List Placed
closed_at u [] = []
closed_at u (x ∷ b) = placed u (x ∷ b) ∷ []

-- Where a run begins that goes on after b with the spot s.
abbrev pub begins : List ℕ → List ℕ → Spot → List ℕ
begins u [] s = s.row
begins u (x ∷ b) s = u

unfoldable pub runs_at : List ℕ → List ℕ → List Spot → List Placed
runs_at u b [] = closed_at u b
runs_at u b (s ∷ c) = cond (word_byte s.char) (runs_at (begins u b s) (b ++ (lower s.char ∷ [])) c) (closed_at u b ++ runs_at [] [] c)

unfoldable pub placed_of : List Spot → List Placed
placed_of c = runs_at [] [] c

abbrev pub chars : List Spot → List ℕ
chars c = map (λ s. s.char) c

unfoldable pub data_placed : List Spot → List (List Placed)
data_placed c = cond (every_of white (chars c)) [] (placed_of c ∷ [])

-- ---- by the syntax tree: t follows
unfoldable mutual
  pub element_placed : Element → List ℕ → List (List Placed)
  element_placed (empty_tag n s) t = placed_of (spots n.bytes (s.bytes ++ ('/' ∷ '>' ∷ t))) ∷ []
  element_placed (tags n s r i s') t =
      let u = '<' ∷ end_tag_then n.bytes s' t in
      placed_of (spots n.bytes (s.bytes ++ ('>' ∷ (r.bytes ++ items_then i u)))) ∷ items_placed i (spots r.bytes (items_then i u)) u

  pub items_placed : Items → List Spot → List ℕ → List (List Placed)
  items_placed end c t = data_placed c
  items_placed (element e r i) c t =
      data_placed c ++ (element_placed e (r.bytes ++ items_then i t) ++ items_placed i (spots r.bytes (items_then i t)) t)
  items_placed (reference e r i) c t =
      items_placed i (c ++ (spot (entity_char e) (reference_then e (r.bytes ++ items_then i t)) ∷ spots r.bytes (items_then i t))) t
  items_placed (comment b r i) c t = items_placed i (c ++ spots r.bytes (items_then i t)) t

unfoldable pub document_placed : Document → List (List Placed)
document_placed d = element_placed d.root (miscs_then d.epilog [])

-- ---- mentions
pub record Mention : Type 0 where
  pub node : ℕ
  pub place : ℕ

abbrev pub mention : ℕ → ℕ → Mention
mention v i = record { node = v; place = i }

module _ (place : List ℕ → ℕ) where
  abbrev pub mentions_at : ℕ → List Placed → List Mention
  mentions_at v l = map (λ (p : Placed). mention v (place p.row)) l

  unfoldable pub mentioned : ℕ → List (List Placed) → List Mention
  mentioned v [] = []
  mentioned v (l ∷ more) = mentions_at v l ++ mentioned (suc v) more

unfoldable pub mentions_of : Document → List Mention
mentions_of d = mentioned (place_in (text d)) 0 (document_placed d)
