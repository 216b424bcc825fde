-- The second pass over the words of a text: flags, and the mentions that are left, give what stands.
--   Flagging, flagging-*   the loop
-- Letters: T text, Q query, h hashes, n nodes, c flags, p b passes, d mention. Assumes nothing.
use Prim.Native.Nat.{ℕ, ◌+◌, ◌*◌, ◌<◌}
use mathlib.Core.Path.{◌≡◌, refl, sym, ap, ap₂, ◌∙◌}
use mathlib.Core.List.{List, [], ◌∷◌}
use mathlib.Core.Bool.{Bool, true, false, cond, ◌&&◌, ◌||◌}
use native.Mathlib.Omega.{arith}
use lib.Dec.{eqb}
use lib.ListN.{length, get_or}
use borrow.Author.Tests.{ltb-true}
use Rattle.seq.specs.Lists.{every_of, same_list}
use Rattle.seq.proofs.Laws.Lists.{same_list_swap}
use Rattle.seq.proofs.Laws.Bools.{and_left, and_right}
use Rattle.profile.specs.Tags.{known}
use Rattle.probing.proofs.Laws.Table.{blank-at}
use Rattle.words.specs.Places.{Mention, mention}
use Rattle.words.specs.Reading.{word_at}
use Rattle.words.specs.Scan.{mentions_in}
use Rattle.words.specs.Stands.{words_on, stands}
use Rattle.words.proofs.Mentions.{below}
use Rattle.mentions.specs.declared.Pass.{Pass}
use Rattle.mentions.specs.declared.Mention as lent
use Rattle.mentions.specs.Walk.{left, Next}
use Rattle.query.specs.Query.{Query, asked, word_count}
use Rattle.build.specs.Inner.{Flags, FlagWordsPre, FlagsAll}
use Rattle.plan.proofs.Texts.{text-kept}

-- What is left, flagged over what is flagged, is what stands.
pub record Flagging (T : List ℕ) (Q : Query) (n : ℕ) (c : List ℕ) (p : Pass) : Type 0 where
  pub within : every_of (below n) (left T p) ≡ true
  pub long : length c ≡ word_count Q * n
  pub each : (j w : ℕ) → j < word_count Q → w < n → cond (known (words_on T (left T p) w) (asked Q j)) 1 (get_or c (j * n + w) 0) ≡ cond (stands T (asked Q j) w) 1 0

pub flagging-start : (T : List ℕ) (Q : Query) (h : List ℕ) (n : ℕ) (c : List ℕ) (p : Pass) → FlagWordsPre T Q h n c → left T p ≡ mentions_in T → Flagging T Q n c p
unfolding stands
flagging-start T Q h n c p pre all =
    record {
      within = ap (every_of (below n)) all ∙ ap (λ (z : ℕ). every_of (below z) (mentions_in T)) pre.pre.nodes ∙ (text-kept T pre.pre.kept).within;
      long = pre.pre.long;
      each = λ j w a l. ap₂ (λ M (x : ℕ). cond (known (words_on T M w) (asked Q j)) 1 x) all (ap (λ l. get_or l (j * n + w) 0) pre.clear ∙ blank-at (length c) (j * n + w));
    }

module _ (T : List ℕ) (Q : Query) (n : ℕ) (c : List ℕ) (p : Pass) (s : Flagging T Q n c p) where
  pub flagging-end : left T p ≡ [] → FlagsAll T Q n c
  unfolding words_on known
  flagging-end e =
      record { long = s.long; each = λ j w a l. sym (ap (λ M. cond (known (words_on T M w) (asked Q j)) 1 (get_or c (j * n + w) 0)) e) ∙ s.each j w a l }

  module _ (d : lent.Mention) (b : Pass) (x : Next T p d b) where
    abbrev at : ℕ
    at = d.node

    abbrev behind : List Mention
    behind = left T b

    all-inside : (below n (mention at d.place) && every_of (below n) behind) ≡ true
    unfolding every_of
    all-inside = sym (ap (every_of (below n)) x.more) ∙ s.within

    pub flag-below : at < n
    flag-below = ltb-true at n (and_left _ _ all-inside)

    pub flag-fewer : length behind < length (left T p)
    flag-fewer = omega (arith, ap length x.more)

    module _ (c' : List ℕ) (f : Flags T d Q n c c') where
      -- One flag: the mention is of this node or not.
      one-flag : (j w : ℕ) → j < word_count Q → w < n →
          cond (known (words_on T behind w) (asked Q j)) 1 (get_or c' (j * n + w) 0) ≡ cond (known (words_on T (mention at d.place ∷ behind) w) (asked Q j)) 1 (get_or c (j * n + w) 0)
      unfolding words_on known
      one-flag j w a l =
          ap (λ (y : ℕ). cond (known (words_on T behind w) (asked Q j)) 1 y) (f.each j w a l ∙ ap (λ z. cond (eqb at w && z) 1 (get_or c (j * n + w) 0)) (same_list_swap (asked Q j) (word_at T d.place))) ∙
          by (eqb at w)
        where
          both : (q r : Bool) (y : ℕ) → cond r 1 (cond q 1 y) ≡ cond (q || r) 1 y
          both true true y = refl
          both true false y = refl
          both false r y = refl

          by : (p : Bool) → cond (known (words_on T behind w) (asked Q j)) 1 (cond (p && same_list (word_at T d.place) (asked Q j)) 1 (get_or c (j * n + w) 0)) ≡
              cond (known (cond p (word_at T d.place ∷ words_on T behind w) (words_on T behind w)) (asked Q j)) 1 (get_or c (j * n + w) 0)
          by true = both (same_list (word_at T d.place) (asked Q j)) (known (words_on T behind w) (asked Q j)) (get_or c (j * n + w) 0)
          by false = refl

      pub flagging-step : Flagging T Q n c' b
      flagging-step =
          record {
            within = and_right (below n (mention at d.place)) _ all-inside;
            long = f.long;
            each = λ j w a l. one-flag j w a l ∙ sym (ap (λ M. cond (known (words_on T M w) (asked Q j)) 1 (get_or c (j * n + w) 0)) x.more) ∙ s.each j w a l;
          }
