-- Lines, fields and numbers in plain statements: what the definitions of Text mean. proofs/Meaning.antt shows that they mean it.
--   joined_by sep L  == the texts of L with `sep` between them (the empty text where L is empty)
--   written L       == the lines of L, each ended by CR LF (the empty text where L is empty)
--   NoComma f       == no byte of f is a comma
--   NoEnd l         == CR LF stands nowhere in l
-- Letters: s text, L lines, l line, f field. Assumes nothing.
use Rattle.std.specs.Prelude.{ℕ, ◌<◌, ◌≡◌, List, [], ◌∷◌, ◌++◌, false, length, get_or, drop}
use Rattle.text.specs.Text.{CR, LF, comma, ended}

unfoldable pub joined_by : List ℕ → List (List ℕ) → List ℕ
joined_by sep [] = []
joined_by sep (l ∷ []) = l
joined_by sep (l ∷ m ∷ L) = l ++ (sep ++ joined_by sep (m ∷ L))

unfoldable pub written : List (List ℕ) → List ℕ
written [] = []
written (l ∷ L) = l ++ (CR ∷ LF ∷ written L)

abbrev pub NoComma : List ℕ → Type 0
NoComma f = (i : ℕ) → i < length f → get_or f i 0 ≡ comma → ⊥

abbrev pub NoEnd : List ℕ → Type 0
NoEnd l = (i : ℕ) → i < length l → ended (drop i l) ≡ false
