-- `build::flags::flag_all` meets its contract: the hashes are made, the counts are cleared, and the nodes are flagged. Assumes nothing.
use mathlib.Core.Path.{refl, ◌∙◌}
use Rattle.query.proofs.Hashing.{hashes-of}
use Rattle.plan.proofs.Passing.{cleared-blank, cleared-long}
use Rattle.build.proofs.flags.flag_all.Goals as goal

pub flag_words-requires : goal.flag_words-requires
flag_words-requires c = record {
  pre = record { ok = c.requires.ok; kept = c.requires.kept; nodes = c.requires.nodes; long = cleared-long c.args.counts.now _ c.clear.ensures ∙ c.requires.long };
  hashes = hashes-of _ c.requires.ok _ _ refl c.hash_words.ensures;
  clear = cleared-blank c.args.counts.now _ c.clear.ensures;
}

pub returns : goal.returns
returns c = c.flag_words.ensures
