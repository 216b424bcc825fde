-- `sheet::read_table` meets its contract: glue over Tabling.
use Prim.Native.Nat.{◌+◌, ◌≤◌}
use mathlib.Core.Path.{◌≡◌, refl, sym, ◌∙◌}
use mathlib.Core.Bool.{true}
use lib.Seq.{length-take-le}
use native.Mathlib.Omega.{arith}
use Rattle.std.proofs.Common.{rules}
use Rattle.std.specs.Prelude.{Err}
use Rattle.text.specs.Text.{first_line}
use Rattle.sheet.specs.Table.{header_ok}
use Rattle.sheet.proofs.Tabling.{Head, head_of, table-long, table-header, header-judged, header-few, first_to, table_taken, table-broken}
use Rattle.sheet.proofs.read_table.Goals as goal
use Rattle.sheet.proofs.read_table.Goals.{After-header_ok, Else-not-header_ok}

-- ---- what is known at a place
heading : (c : After-header_ok) → Head c.args.s.now c.line_end-to.result c.count-p.result c.count-q.result
heading c = head_of _ _ _ _ c.line_end-to.ensures c.count-p.ensures c.count-q.ensures

judged : (c : After-header_ok) → header_ok (first_line c.args.s.now) ≡ c.header_ok.result
judged c = header-judged _ _ _ _ (heading c) _ c.header_ok.ensures

-- The header is lawful, so there are few words.
good : (c : Else-not-header_ok) → header_ok (first_line c.args.s.now) ≡ true
good c = judged (goal.at.Else-not-header_ok c).After-header_ok ∙ c.if-not-header_ok.false

few : (c : Else-not-header_ok) → c.count-p.result + c.count-q.result ≤ 8
few c = header-few _ _ _ _ (heading (goal.at.Else-not-header_ok c).After-header_ok) (good c)

-- ---- the goals
pub returns-then-s-gt16384 : goal.returns-then-s-gt16384
returns-then-s-gt16384 c = table-long _ _ c.if-s-gt16384.true

pub slice_bounds-header-end : goal.slice_bounds-header-end
slice_bounds-header-end c = sym (length-take-le _ _ (first_to _ _ c.line_end-to.ensures))

pub returns-then-not-header_ok : goal.returns-then-not-header_ok
returns-then-not-header_ok c =
    table-header _ _ c.if-s-gt16384.false (judged (goal.at.returns-then-not-header_ok c).After-header_ok ∙ c.if-not-header_ok.true)

pub overflow_add-to : goal.overflow_add-to
overflow_add-to c = omega (arith, first_to c.args.s.now c.line_end-to.result c.line_end-to.ensures, c.if-s-gt16384.false)

pub returns-in_err-n : goal.returns-in_err-n
returns-in_err-n c =
    let e : c.from_residual.result ≡ Err c.in_err-n.field-0.0 = search rules in
    rw e
    (table-broken _ _ _ _ (heading (goal.at.returns-in_err-n c).After-header_ok) c.if-s-gt16384.false (good (goal.at.returns-in_err-n c).Else-not-header_ok)
    _ _ refl _ (rw c.min-at.ensures at c.read_rows.ensures) _ _ c.in_err-n.was (search rules))

pub returns : goal.returns
returns c =
    table_taken _ _ _ _ (heading (goal.at.returns c).After-header_ok) c.if-s-gt16384.false (good (goal.at.returns c).Else-not-header_ok)
    _ _ refl _ (rw c.min-at.ensures at c.read_rows.ensures) _ _ c.in_ok-n.was (search rules)
