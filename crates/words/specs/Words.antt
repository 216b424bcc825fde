-- The words of a document, by its syntax tree: for each node, in document order, the words at it, in order (02, Q-5).
--   entity_char e     == the character that the reference to e stands for
--   data_words c      == of the data c, as characters: the words of its node; no node where every character is white space
--   element_words e   == for each node of the element e: first its own, with the words of its name, once, for its first tag
--   items_words i c   == for each node of the content i, after the data c
--   document_words d  == for each node of the document d, numbered as in `tree d` of `profile`
-- A comment is dropped from the data, so it joins what stands on both sides of it. A reference is read as its character, which is no letter or digit, and so parts words.
-- An end tag adds nothing. Assumes nothing.
use Rattle.std.specs.Prelude.{ℕ, List, [], ◌∷◌, ◌++◌, cond}
use Rattle.seq.specs.Lists.{every_of}
use Rattle.profile.specs.Bytes.{white}
use Rattle.profile.specs.Grammar.{Entity, lt, gt, amp, apos, quot, Element, empty_tag, tags, Items, end, element, reference, comment, Document}
use Rattle.words.specs.Runs.{Word, words_of}

unfoldable pub entity_char : Entity → ℕ
entity_char lt = 60
entity_char gt = 62
entity_char amp = 38
entity_char apos = 39
entity_char quot = 34

unfoldable pub data_words : List ℕ → List (List Word)
data_words c = cond (every_of white c) [] (words_of c ∷ [])

unfoldable mutual
  pub element_words : Element → List (List Word)
  element_words (empty_tag n s) = words_of n.bytes ∷ []
  element_words (tags n s r i s') = words_of n.bytes ∷ items_words i r.bytes

  pub items_words : Items → List ℕ → List (List Word)
  items_words end c = data_words c
  items_words (element e r i) c = data_words c ++ (element_words e ++ items_words i r.bytes)
  items_words (reference e r i) c = items_words i (c ++ (entity_char e ∷ r.bytes))
  items_words (comment b r i) c = items_words i (c ++ r.bytes)

unfoldable pub document_words : Document → List (List Word)
document_words d = element_words d.root
