-- `reader::build::Builder::flush` meets its contract: the two cases of Calls. Assumes nothing.
use mathlib.Core.Path.{◌≡◌, sym, ap, ◌∙◌}
use Rattle.std.specs.Prelude.{None}
use Rattle.reader.specs.Inner.{store_of, solid_in}
use Rattle.reader.proofs.Calls.{flush-node, flush-solid, flush_thin}
use Rattle.reader.proofs.build.Builder.flush.Goals as goal

pub put-requires : goal.put-requires
put-requires c = flush-node (store_of c.args.self.now) _ c.take.ensures.after c.requires _ (sym c.take.ensures.value ∙ c.in-Some.is) c.if-held.true

pub returns-in-Some-clause-stored : goal.returns-in-Some-clause-stored
returns-in-Some-clause-stored c =
    c.put.ensures.stored ∙
    flush-solid (store_of c.args.self.now) _ c.take.ensures.after _ (sym c.take.ensures.value ∙ c.in-Some.is) c.if-held.true

pub returns-else-held-clause-stored : goal.returns-else-held-clause-stored
returns-else-held-clause-stored c =
    flush_thin (store_of c.args.self.now) _ c.take.ensures.after
    (ap solid_in (sym c.take.ensures.value ∙ c.in-Some.is) ∙ c.if-held.false)

pub returns-clause-stored : goal.returns-clause-stored
returns-clause-stored c =
    let none : c.args.self.now.held ≡ None = cc in
    flush_thin (store_of c.args.self.now) _ c.take.ensures.after (ap solid_in none)
