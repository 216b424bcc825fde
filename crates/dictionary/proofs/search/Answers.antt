-- `dictionary::search` meets its contract. Assumes nothing.
use Rattle.std.proofs.Common.{rules}
use Rattle.words.specs.Reading.{word_at}
use Rattle.dictionary.proofs.search.Goals as goal

pub returns : goal.returns
returns c = c.probe.ensures c.args.text.now (word_at c.args.text.now c.args.at) (λ k r e. search rules)
