-- A pass from its parts: the cursors are set, and steps are made up to the end.
--   begun, pass-begins   the world in which the steps begin
--   pass-ends            what the whole promises
-- Letters: J job; ys, o, w stack, out and own as lent; b whether the smallest are listed, t tally; r, c reach and cursors at the begin; v world at the end, e its top. Assumes nothing.
use Prim.Native.Nat.{ℕ}
use mathlib.Core.Path.{◌≡◌, ap, ◌∙◌}
use mathlib.Core.List.{List}
use mathlib.Core.Bool.{Bool, true, false}
use native.Mathlib.Omega.{arith}
use lib.ListN.{set, length-set}
use lib.Seq.{get_or-set_same}
use Rattle.seq.specs.Memory.{over}
use Rattle.engine.specs.declared.Entry.{Entry}
use Rattle.engine.specs.declared.cursors.Cursors.{Cursors}
use Rattle.engine.specs.declared.steps.Tally.{Tally}
use Rattle.engine.specs.Inner.Entries.{fresh}
use Rattle.engine.specs.Inner.Cursors.{Set}
use Rattle.engine.specs.Inner.Steps.{number, fills}
use Rattle.engine.specs.Inner.Going.{Job, World, answers_of, total, own_rows, Going}
use Rattle.engine.specs.Inner.Passes.{world, PassPre, Passed}
use Rattle.engine.proofs.Laws.Going.{going-begun, going-over, kept_refl, counted-all, written_all}
use Rattle.engine.proofs.Running.{Turning}

-- The world in which the steps begin, but for the root, which is the top.
abbrev pub begun : List Entry → List ℕ → List ℕ → Bool → Tally → ℕ → Cursors → World
begun ys o w b t r c = world ys c o w (record { on = true; at = 0; reach = r; left = number t; smallest = b; fill = fills t })

module _ (J : Job) (ys : List Entry) (o w : List ℕ) (b : Bool) (t : Tally) (pre : PassPre J ys o w b t) (r : ℕ) (c : Cursors) where
  abbrev v₀ : World
  v₀ = begun ys o w b t r c

  pub pass-begins : Set J.ends J.occurrences r c → (e : Entry) → e ≡ fresh 0 → Turning J v₀ v₀ e
  pass-begins s e z = rw z (record {
    whole = pre.left;
    going = going-begun J pre.sound (set ys 0 (fresh 0)) (omega (arith, pre.wide, length-set ys 0 (fresh 0))) (get_or-set_same ys 0 (fresh 0) (fresh 0) (omega (arith, pre.wide))) r c s b
        (fills t) (number t) o w pre.counts (λ f. (pre.left f, pre.out f, pre.own f));
    kept = kept_refl J v₀;
  })

  module _ (v : World) (e : Entry) (k : Turning J v₀ v e) (off : v.state.on ≡ false) where
    goes : Going J v
    goes = going-over J v e k.going off

    counted : fills t ≡ false → (v.state.left ≡ total J b) × (v.out ≡ o) × (v.own ≡ w)
    counted f = (counted-all J v goes off (k.kept.fill ∙ f) ∙ ap (total J) k.kept.smallest, (k.kept.counted f).0, (k.kept.counted f).1)

    written : fills t ≡ true → (v.out ≡ over (answers_of J b) o) × (b ≡ false → v.own ≡ over (own_rows J b) w) × (b ≡ true → v.own ≡ w)
    written f = written_all J v₀ v f (pre.left f) (pre.out f) (pre.own f) k.kept goes off

    pub pass-ends : (m : ℕ) → m ≡ v.state.left → Passed J ys o w b t m v.stack v.out v.own
    pass-ends m z = rw z (record {
      long = k.kept.long;
      rest = k.kept.rest;
      counts = counted;
      out = λ f. (written f).0;
      own = λ f. (written f).1;
      no_own = λ f. (written f).2;
    })
