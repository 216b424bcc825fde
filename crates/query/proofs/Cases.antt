-- Queries that are taken or not: a table and a theorem, worked out by hand from 02's Q-5.
--   ask s e b         == the bytes s with the ends e are a query or not (b)
--   queries           the theorem: so it is for 17 queries;  words: the third word of "Night22trainH" is "trainh"
-- Assumes nothing.
use Prim.Native.Nat.{ℕ}
use Prim.Native.String.{String}
use mathlib.Core.Path.{◌≡◌, refl}
use mathlib.Core.List.{List, [], ◌∷◌, map}
use mathlib.Core.Bool.{Bool, true, false}
use Rattle.seq.specs.Below.{every_below, first_fail}
use Rattle.seq.specs.Lists.{every_of}
use Rattle.index.specs.Index.{start, word_list}
use Rattle.profile.proofs.Cases.{bytes_of}
use Rattle.words.specs.Runs.{word_byte, lower}
use Rattle.query.specs.Query.{query, asked, rises, query_ok}

pub record Asking : Type 0 where
  pub words : String
  pub ends : List ℕ
  pub taken : Bool

abbrev pub ask : String → List ℕ → Bool → Asking
ask s e b = record { words = s; ends = e; taken = b }

unfoldable pub askings : List Asking
askings =
    -- one word to eight, and nine; none
    ask "a" (1 ∷ []) true ∷
    ask "Night22trainH" (5 ∷ 7 ∷ 13 ∷ []) true ∷
    ask "abcdefgh" (1 ∷ 2 ∷ 3 ∷ 4 ∷ 5 ∷ 6 ∷ 7 ∷ 8 ∷ []) true ∷
    ask "abcdefghi" (1 ∷ 2 ∷ 3 ∷ 4 ∷ 5 ∷ 6 ∷ 7 ∷ 8 ∷ 9 ∷ []) false ∷
    ask "" [] false ∷
    ask "a" [] false ∷
    -- an empty word
    ask "" (0 ∷ []) false ∷
    ask "ab" (0 ∷ 2 ∷ []) false ∷
    ask "ab" (1 ∷ 1 ∷ 2 ∷ []) false ∷
    ask "ab" (1 ∷ 2 ∷ 2 ∷ []) false ∷
    -- ends that fall, or do not end with the bytes
    ask "ab" (2 ∷ 1 ∷ []) false ∷
    ask "ab" (2 ∷ 1 ∷ 2 ∷ []) false ∷
    ask "ab" (1 ∷ []) false ∷
    ask "ab" (3 ∷ []) false ∷
    -- a byte that is no letter or digit
    ask "a-b" (3 ∷ []) false ∷
    ask "a b" (1 ∷ 3 ∷ []) false ∷
    ask "a_" (2 ∷ []) false ∷
    []

pub queries : map (λ c. query_ok (query (bytes_of c.words) c.ends)) askings ≡ map (λ c. c.taken) askings
unfolding askings bytes_of every_below first_fail every_of start word_byte rises query_ok
queries = refl

pub words : asked (query (bytes_of "Night22trainH") (5 ∷ 7 ∷ 13 ∷ [])) 2 ≡ bytes_of "trainh"
unfolding bytes_of start word_list lower asked
words = refl
