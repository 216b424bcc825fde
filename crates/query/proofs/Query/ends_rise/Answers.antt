-- `query::Query::ends_rise` meets its contract. Assumes nothing.
use Rattle.std.proofs.Common.{refl, ◌∙◌, ltb, length, get_or, rules, tests, arith}
use Rattle.std.proofs.lemmas.Iterator.{YieldsList-from_range}
use Rattle.std.proofs.lemmas.Iterator.Search.{all_from_yields_List}
use Rattle.index.specs.Index.{start}
use Rattle.query.specs.Query.{rises}
use Rattle.query.proofs.Testing.{every-range}
use Rattle.query.proofs.Query.ends_rise.Goals as goal

pub returns : goal.returns
unfolding rises
returns c =
    let ends = c.args.self.now.ends.now in
    all_from_yields_List (λ j. ltb (start ends j) (get_or ends j 0)) _ _ c.all.result c.all.ensures.ran (YieldsList-from_range 0 (length ends) (length ends) refl (omega arith)) (λ x b q k. search (rules, tests)) ∙
    every-range _ _
