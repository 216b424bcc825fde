-- How far a row of bytes goes on in one way.
--   span f t    == how many bytes t begins with that pass f
--   other x y   == the byte y is not x
--   low y       == the byte y is at most 32, as white space is
--   common w t  == how many bytes stand at the head of both w and t
--   name_at t i  == the name, perhaps empty, that stands in t at the place i: as many bytes as are NameChars
-- Letters: t w rows of bytes, x y bytes, i a place. Assumes nothing.
use Rattle.std.specs.Prelude.{ℕ, suc, List, [], ◌∷◌, Bool, not, cond, eqb, leb, take, drop}
use Rattle.profile.specs.Bytes.{name_char}

unfoldable pub span : (ℕ → Bool) → List ℕ → ℕ
span f [] = 0
span f (x ∷ t) = cond (f x) (suc (span f t)) 0

unfoldable pub other : ℕ → ℕ → Bool
other x y = not (eqb y x)

unfoldable pub low : ℕ → Bool
low y = leb y 32

unfoldable pub common : List ℕ → List ℕ → ℕ
common [] t = 0
common (y ∷ w) [] = 0
common (y ∷ w) (x ∷ t) = cond (eqb x y) (suc (common w t)) 0

abbrev pub name_at : List ℕ → ℕ → List ℕ
name_at t i = take (span name_char (drop i t)) (drop i t)
