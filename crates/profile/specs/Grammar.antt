-- The profile as a grammar: its syntax trees, and the bytes of each. The names are those of XML 1.0's productions; a syntax tree is a derivation.
--   document     ::= prolog element Misc*                   prolog ::= Misc*               Misc ::= Comment | S
--   element      ::= EmptyElemTag | STag content ETag       (the same Name in both tags: it is held once)
--   STag         ::= '<' Name S? '>'                        ETag   ::= '</' Name S? '>'    EmptyElemTag ::= '<' Name S? '/>'
--   content      ::= CharData? ((element | Reference | Comment) CharData?)*                (a first run, and then Items)
--   Reference    ::= '&lt;' | '&gt;' | '&amp;' | '&apos;' | '&quot;'                       Comment ::= '<!--' body '-->'
--   S, Name, CharData, and the body of a Comment, are rows of bytes (specs/Bytes)
-- A tree holds for each part the proof that it keeps its production, so every tree is lawful.
--   xThen a t  == the bytes of the x named a, and then t. So no sum of lists is bracketed to the left.
--   text d     == the bytes of the document d
--   IsText t   == t is a text of the profile: the bytes of some document
-- Left out of XML 1.0: attributes, XML declaration, processing instructions, document types, CDATA, character references,
-- and every byte above 7F. Limits of depth, count and length are no part of the profile. Assumes nothing.
use Rattle.std.specs.Prelude.{ℕ, ◌≡◌, List, [], ◌∷◌, ◌++◌, Bool, true}
use Rattle.profile.specs.Bytes.{'!', '&', '-', '/', semicolon, '<', '>', is_s, is_spaces, is_name, is_char_data, is_comment}

-- A row of bytes that keeps the production f.
pub record Kept (f : List ℕ → Bool) : Type 0 where
  pub bytes : List ℕ
  pub keeps : f bytes ≡ true

abbrev pub S : Type 0
S = Kept is_s

abbrev pub Spaces : Type 0
Spaces = Kept is_spaces

abbrev pub Name : Type 0
Name = Kept is_name

abbrev pub CharData : Type 0
CharData = Kept is_char_data

abbrev pub Comment : Type 0
Comment = Kept is_comment

-- The five predefined entities.
pub data Entity : Type 0 where
  lt gt amp apos quot : Entity

pub data Misc : Type 0 where
  remark : Comment → Misc
  blank : S → Misc

mutual
  pub data Element : Type 0 where
    empty_tag : Name → Spaces → Element
    tags : Name → Spaces → CharData → Items → Spaces → Element

  pub data Items : Type 0 where
    end : Items
    element : Element → CharData → Items → Items
    reference : Entity → CharData → Items → Items
    comment : Comment → CharData → Items → Items

pub record Document : Type 0 where
  pub prolog : List Misc
  pub root : Element
  pub epilog : List Misc

-- ---- the bytes
unfoldable pub entity_name : Entity → List ℕ
entity_name lt = 108 ∷ 116 ∷ []
entity_name gt = 103 ∷ 116 ∷ []
entity_name amp = 97 ∷ 109 ∷ 112 ∷ []
entity_name apos = 97 ∷ 112 ∷ 111 ∷ 115 ∷ []
entity_name quot = 113 ∷ 117 ∷ 111 ∷ 116 ∷ []

unfoldable pub reference_then : Entity → List ℕ → List ℕ
reference_then e t = '&' ∷ (entity_name e ++ (semicolon ∷ t))

unfoldable pub comment_then : Comment → List ℕ → List ℕ
comment_then b t = '<' ∷ '!' ∷ '-' ∷ '-' ∷ (b.bytes ++ ('-' ∷ '-' ∷ '>' ∷ t))

-- Start tags, end tags (after their `<`; n is the name's bytes) and empty-element tags.
abbrev pub s_tag_then : Name → Spaces → List ℕ → List ℕ
s_tag_then n s t = '<' ∷ (n.bytes ++ (s.bytes ++ ('>' ∷ t)))

unfoldable pub end_tag_then : List ℕ → Spaces → List ℕ → List ℕ
end_tag_then n s t = '/' ∷ (n ++ (s.bytes ++ ('>' ∷ t)))

abbrev pub e_tag_then : Name → Spaces → List ℕ → List ℕ
e_tag_then n s t = '<' ∷ end_tag_then n.bytes s t

abbrev pub empty_elem_tag_then : Name → Spaces → List ℕ → List ℕ
empty_elem_tag_then n s t = '<' ∷ (n.bytes ++ (s.bytes ++ ('/' ∷ '>' ∷ t)))

unfoldable mutual
  pub element_then : Element → List ℕ → List ℕ
  element_then (empty_tag n s) t = empty_elem_tag_then n s t
  element_then (tags n s r i s') t = s_tag_then n s (r.bytes ++ items_then i (e_tag_then n s' t))

  pub items_then : Items → List ℕ → List ℕ
  items_then end t = t
  items_then (element e r i) t = element_then e (r.bytes ++ items_then i t)
  items_then (reference e r i) t = reference_then e (r.bytes ++ items_then i t)
  items_then (comment b r i) t = comment_then b (r.bytes ++ items_then i t)

unfoldable pub miscs_then : List Misc → List ℕ → List ℕ
miscs_then [] t = t
miscs_then (remark b ∷ m) t = comment_then b (miscs_then m t)
miscs_then (blank s ∷ m) t = s.bytes ++ miscs_then m t

unfoldable pub text : Document → List ℕ
text d = miscs_then d.prolog (element_then d.root (miscs_then d.epilog []))

pub record IsText (t : List ℕ) : Type 0 where
  pub document : Document
  pub is : text document ≡ t
