-- Entries of the stack, by value. Counts are rows of 8, one for each word there may be.
--   fresh v             == the entry of node v with nothing counted yet
--   sums a b            == two rows added word by word
--   held e              == what the entry has counted of each word, own and covered
--   each_some k a        == each of the first k counts is 1 or more
--   answering smallest k e == a node that is closed with this entry is an answer: an SLCA where `smallest` is true, else an ELCA
--   closed_into b full h == b, once a node that held h has been closed into it: h is covered where that node is full, and own where it is not
-- Letters: k words, j word; e, b entries; a, h counts. Assumes nothing.
use Rattle.std.specs.Prelude.{ℕ, ◌+◌, ◌≤◌, ◌<◌, ◌^◌, ◌≡◌, List, Bool, cond, ◌&&◌, eqb, ltb, get_or, replicate}
use Rattle.seq.specs.Below.{every_below, tabulate}
use Rattle.engine.specs.declared.Entry.{Entry}

unfoldable pub fresh : ℕ → Entry
fresh v = record { node = v; own = replicate 8 0; covered = replicate 8 0 }

unfoldable pub sums : List ℕ → List ℕ → List ℕ
sums a b = tabulate 8 λ j. get_or a j 0 + get_or b j 0

abbrev pub held : Entry → List ℕ
held e = sums e.own e.covered

unfoldable pub each_some : ℕ → List ℕ → Bool
each_some k a = every_below k λ j. ltb 0 (get_or a j 0)

abbrev pub full_entry : ℕ → Entry → Bool
full_entry k e = each_some k (held e)

-- A full node with nothing covered has no full proper descendant.
unfoldable pub answering : Bool → ℕ → Entry → Bool
answering smallest k e = cond smallest (full_entry k e && eqb (get_or e.covered 0 0) 0) (each_some k e.own)

unfoldable pub closed_into : Entry → Bool → List ℕ → Entry
closed_into b full h =
    cond full
    (record { node = b.node; own = b.own; covered = sums b.covered h })
    (record { node = b.node; own = sums b.own h; covered = b.covered })

-- The sums fit.
pub record SumsPre (a b : List ℕ) : Type 0 where
  pub fits : (j : ℕ) → j < 8 → get_or a j 0 + get_or b j 0 < 2 ^ 32

-- It is known whether the entry is full.
pub record AnswersPre (e : Entry) (full : Bool) (k : ℕ) : Type 0 where
  pub words : k ≤ 8
  pub known : full ≡ full_entry k e

pub record ClosedIntoPre (b : Entry) (h : List ℕ) : Type 0 where
  pub own : SumsPre b.own h
  pub covered : SumsPre b.covered h
