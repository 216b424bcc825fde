-- A code for each node, from which its class is read off: 1 where it is no text and its type repeats, and besides 2 for one child that is text, or 4 for any other
-- children.
--   children_to p i v   == how many of the nodes below i are children of v
--   text_to p t i v     == one of them is text
--   kid_code p t i v    == 0 for none of them, 1 for exactly one, which is text, 2 otherwise
--   code_to p t i v     == the code of v by the children below i
--   grown k x           == the code k after one more child, whose tag is x
--   entity_by x k       == a node with the tag x and the code k is an entity
--   closest_by x k v u  == v where that makes it an entity, else u, the closest entity of its parent
-- Letters: p parents, t tags, n nodes, w a row of codes; v node, c child, i nodes passed; k code, x tag. Laws are in proofs/. Assumes nothing.
use Rattle.std.specs.Prelude.{ℕ, ◌+◌, ◌*◌, ◌≤◌, ◌<◌, ◌≡◌, List, Bool, not, cond, ◌&&◌, ◌||◌, eqb, leb, length, get_or}
use Rattle.seq.specs.Below.{sum_below, some_below}
use Rattle.tree.specs.Tree.{child}
use Rattle.tree.specs.Rules.{text}
use Rattle.tree.specs.Plain.{Down}
use Rattle.types.specs.Repeated.{repeat_flag}

unfoldable pub children_to : List ℕ → ℕ → ℕ → ℕ
children_to p i v = sum_below i λ c. cond (child p v c) 1 0

unfoldable pub text_to : List ℕ → List ℕ → ℕ → ℕ → Bool
text_to p t i v = some_below i λ c. child p v c && text t c

unfoldable pub kid_code : List ℕ → List ℕ → ℕ → ℕ → ℕ
kid_code p t i v = cond (eqb (children_to p i v) 0) 0 (cond (eqb (children_to p i v) 1 && text_to p t i v) 1 2)

unfoldable pub code_to : List ℕ → List ℕ → ℕ → ℕ → ℕ
code_to p t i v = repeat_flag p t v + kid_code p t i v * 2

unfoldable pub grown : ℕ → ℕ → ℕ
grown k x = cond (leb 4 k) k (cond (leb 2 k) (k + 2) (cond (eqb x 0) (k + 2) (k + 4)))

unfoldable pub entity_by : ℕ → ℕ → Bool
entity_by x k = not (eqb x 0) && (eqb k 1 || eqb k 5)

unfoldable pub closest_by : ℕ → ℕ → ℕ → ℕ → ℕ
closest_by x k v u = cond (entity_by x k) v u

-- ---- what the functions promise
-- A row that holds f v at each node v.
pub record Holds (n : ℕ) (f : ℕ → ℕ) (w : List ℕ) : Type 0 where
  pub long : length w ≡ n
  pub holds : (v : ℕ) → v < n → get_or w v 0 ≡ f v

-- Each parent stands before its child, and w holds f.
pub record TreePre (p t : List ℕ) (f : ℕ → ℕ) (w : List ℕ) : Type 0 where
  pub some : 1 ≤ length p
  pub few : length p ≤ 65536
  pub tagged : length t ≡ length p
  pub down : Down p (length p)
  pub row : Holds (length p) f w

abbrev pub codes : List ℕ → List ℕ → ℕ → ℕ
codes p t = code_to p t (length p)
