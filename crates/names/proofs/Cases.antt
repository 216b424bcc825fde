-- Ten rows of nodes with their tags: a table and a theorem. Assumes nothing.
--   Case    == a text, the marks of its nodes, the places of their `<`, and the tags that they come to
--   cases   the theorem: they come to them
use Prim.Native.Nat.{ℕ}
use Prim.Native.String.{String}
use mathlib.Core.Path.{◌≡◌, refl}
use mathlib.Core.List.{List, [], ◌∷◌}
use mathlib.Core.Bool.{true}
use Rattle.seq.specs.Lists.{every_of, same_list}
use Rattle.profile.specs.Bytes.{name_start, name_char}
use Rattle.profile.specs.Spans.{span}
use Rattle.profile.specs.Tags.{known, place, with, tags_after, tags_of}
use Rattle.profile.proofs.Cases.{bytes_of}
use Rattle.names.specs.Names.{name_of, names}

pub record Case : Type 0 where
  pub text : String
  pub marks : List ℕ
  pub places : List ℕ
  pub tags : List ℕ

abbrev row : String → List ℕ → List ℕ → List ℕ → Case
row t m p r = record { text = t; marks = m; places = p; tags = r }

unfoldable pub table : List Case
table =
    row "<a/>" (1 ∷ []) (0 ∷ []) (1 ∷ [])
    -- the same name again, and another; any mark is one
    ∷ row "<a><b/><a/></a>" (1 ∷ 1 ∷ 7 ∷ []) (0 ∷ 3 ∷ 7 ∷ []) (1 ∷ 2 ∷ 1 ∷ [])
    -- data has no name
    ∷ row "<a>x<b/></a>" (1 ∷ 0 ∷ 1 ∷ []) (0 ∷ 3 ∷ 4 ∷ []) (1 ∷ 0 ∷ 2 ∷ [])
    ∷ row "<a>x</a>" (0 ∷ 0 ∷ []) (0 ∷ 3 ∷ []) (0 ∷ 0 ∷ [])
    -- a name that begins with another is another, whichever comes first
    ∷ row "<a><ab/><a/></a>" (1 ∷ 1 ∷ 1 ∷ []) (0 ∷ 3 ∷ 8 ∷ []) (1 ∷ 2 ∷ 1 ∷ [])
    ∷ row "<ab><a/><ab/></ab>" (1 ∷ 1 ∷ 1 ∷ []) (0 ∷ 4 ∷ 8 ∷ []) (1 ∷ 2 ∷ 1 ∷ [])
    -- so is one that differs in its last byte, or in one letter's case
    ∷ row "<a1><a2/><a1/></a1>" (1 ∷ 1 ∷ 1 ∷ []) (0 ∷ 4 ∷ 9 ∷ []) (1 ∷ 2 ∷ 1 ∷ [])
    ∷ row "<a><A/></a>" (1 ∷ 1 ∷ []) (0 ∷ 3 ∷ []) (1 ∷ 2 ∷ [])
    -- a mark where no name stands, and one past the end of the text
    ∷ row "< <a" (1 ∷ 1 ∷ 1 ∷ []) (0 ∷ 2 ∷ 9 ∷ []) (0 ∷ 1 ∷ 0 ∷ [])
    ∷ row "" [] [] []
    ∷ []

pub cases : every_of (λ c. same_list (tags_of (names (bytes_of c.text) c.marks c.places)) c.tags) table ≡ true
unfolding every_of same_list bytes_of name_start name_char span known place with tags_after tags_of name_of names table
cases = refl
