-- `valid::finish` meets its contract: the flags are listed, then cleared.
use Rattle.valid.proofs.Entry.{finish-work}
use Rattle.valid.proofs.finish.Goals as goal

pub returns : goal.returns
returns c =
    record {
      reply = c.list_flagged-answer.ensures.reply;
      work = finish-work _ _ c.requires _ c.clear.ensures;
      out = c.list_flagged-answer.ensures.out;
    }
