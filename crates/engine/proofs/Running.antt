-- What the loop of a pass knows: where it began, and that the pass is going on. The top is held apart, and stored at the begin of a turn.
--   Turning J v₀ v t    the loop began in v₀ and has come to v, with t for a top
--   turning_at, turning_deep, turning_low   the places of the top and of the entry below it
--   turning_asks, turning_less, turning_again   a turn
-- Letters: J job; v₀, v worlds, t the top; i the place below the top's; n the step made, c, o, w the cursors, out and own after it; d what would stand past the stack. Assumes nothing.
use Prim.Native.Nat.{ℕ, ◌-◌, ◌<◌}
use mathlib.Core.Path.{◌≡◌, sym, subst}
use mathlib.Core.List.{List}
use mathlib.Core.Bool.{true}
use native.Mathlib.Omega.{arith}
use lib.ListN.{length, get_or, length-set}
use lib.Seq.{get_or-set_same, get_or-set_other}
use Rattle.std.proofs.lemmas.List.{get_or_default}
use Rattle.engine.specs.declared.Entry.{Entry}
use Rattle.engine.specs.declared.cursors.Cursors.{Cursors}
use Rattle.engine.specs.Inner.Entries.{fresh}
use Rattle.engine.specs.Inner.Steps.{Move, AdvancePre, Advanced}
use Rattle.engine.specs.Inner.Meaning.{entry_at}
use Rattle.engine.specs.Inner.Going.{Job, World, total, Going, Kept, measure, opened, stepped}
use Rattle.engine.specs.Inner.Passes.{world}
use Rattle.engine.proofs.Laws.Going.{going-at, going-deep, going-pre, Stepped, going-stepped, kept_since, kept-with}

pub record Turning (J : Job) (v₀ v : World) (t : Entry) : Type 0 where
  pub whole : v₀.state.fill ≡ true → v₀.state.left ≡ total J v₀.state.smallest
  pub going : Going J (opened v t)
  pub kept : Kept J v₀ v

module _ (J : Job) (v₀ v : World) (t : Entry) (k : Turning J v₀ v t) (on : v.state.on ≡ true) where
  -- The top is stored.
  abbrev u : World
  u = opened v t

  long_same : length u.stack ≡ length v.stack
  long_same = length-set v.stack v.state.at t

  pub turning_at : v.state.at < length v.stack
  turning_at = omega (arith, going-at J u k.going on, long_same)

  top-is : entry_at u.stack v.state.at ≡ t
  top-is = get_or-set_same v.stack v.state.at t (fresh 0) turning_at

  pub turning_deep : v.state.at < 64
  turning_deep = going-deep J u k.going on

  module _ (i : ℕ) (low : i ≡ v.state.at - 1) where
    pub turning_low : i < length u.stack
    turning_low = omega (arith, turning_at, long_same, low)

    module _ (d : Entry) where
      below_same : get_or u.stack i d ≡ entry_at u.stack (v.state.at - 1)
      below_same = rw (← low) (get_or_default _ _ d (fresh 0) turning_low)

      pub turning_asks : AdvancePre J.parents J.ends J.occurrences v.cursors v.out v.own v.state t (get_or u.stack i d)
      turning_asks =
          subst (λ (z : Entry). AdvancePre J.parents J.ends J.occurrences v.cursors v.out v.own v.state t z) (sym below_same)
          (subst (λ (z : Entry). AdvancePre J.parents J.ends J.occurrences v.cursors v.out v.own v.state z (entry_at u.stack (v.state.at - 1))) top-is (going-pre J u k.going on))

      module _ (n : Move) (c : Cursors) (o w : List ℕ) (a : Advanced J.parents J.ends J.occurrences v.cursors v.out v.own v.state t (get_or u.stack i d) n c o w) where
        made : Stepped J u (stepped u n c o w)
        made =
            going-stepped J u k.going on n c o w
            (subst (λ (z : Entry). Advanced J.parents J.ends J.occurrences v.cursors v.out v.own v.state z (entry_at u.stack (v.state.at - 1)) n c o w) (sym top-is)
            (subst (λ (z : Entry). Advanced J.parents J.ends J.occurrences v.cursors v.out v.own v.state t z n c o w) below_same a))

        -- The top is stored among the first 64 entries.
        kept_open : Kept J v₀ u
        kept_open =
            kept-with J v₀ v k.kept u.stack long_same
            (λ j l. get_or-set_other v.stack v.state.at j t (fresh 0) (λ (e : j ≡ v.state.at). omega (arith, turning_deep)))

        pub turning_less : measure J (opened (world u.stack c o w n.state) n.top) < measure J u
        turning_less = made.less

        pub turning_again : Turning J v₀ (world u.stack c o w n.state) n.top
        turning_again = record {
          whole = k.whole;
          going = made.going;
          kept = kept-with J v₀ (stepped u n c o w) (kept_since J v₀ u (stepped u n c o w) k.whole kept_open k.going made.kept) u.stack
              (sym made.kept.long) (λ j l. sym (made.kept.rest j l));
        }
