-- `reader::build::Builder::tag` meets its contract: glue over Calls, for each kind of tag. Assumes nothing.
use native.Mathlib.Omega.{arith}
use Rattle.reader.specs.Inner.{store_of}
use Rattle.reader.proofs.Calls.{node-asks, close-node, tag-closed, tag-opened, tag-emptied, rows_still}
use Rattle.reader.proofs.build.Builder.tag.Goals as goal

pub bounds-self-top : goal.bounds-self-top
bounds-self-top c =
    omega (arith, c.top-top.ensures, close-node (store_of c.args.self.now) c.args.at c.args.p _ c.flush.ensures.stored c.requires c.in-Close.is)

pub returns-in-Close-clause-stored : goal.returns-in-Close-clause-stored
returns-in-Close-clause-stored c =
    tag-closed (store_of c.args.self.now) c.args.at c.args.p _ c.flush.ensures.stored _ c.top-top.ensures c.in-Close.is

pub put-requires : goal.put-requires
put-requires c = node-asks (store_of c.args.self.now) c.args.at c.args.p _ c.flush.ensures.stored c.requires (λ e. cc)

pub returns-in-Start-clause-stored : goal.returns-in-Start-clause-stored
returns-in-Start-clause-stored c =
    tag-opened (store_of c.args.self.now) c.args.at c.args.p _ c.flush.ensures.stored _ c.put.ensures.stored c.in-Start.is

pub put-requires-in_default : goal.put-requires-in_default
put-requires-in_default c = node-asks (store_of c.args.self.now) c.args.at c.args.p _ c.flush.ensures.stored c.requires c.in_default.not-Close

pub returns-in_default : goal.returns-in_default
returns-in_default c =
    record {
      stored =
          tag-emptied (store_of c.args.self.now) c.args.at c.args.p _ c.flush.ensures.stored _ c.put-in_default.ensures.stored
          c.in_default.not-Close c.in_default.not-Start;
      same = rows_still c.flush.ensures.same c.put-in_default.ensures.same;
    }
