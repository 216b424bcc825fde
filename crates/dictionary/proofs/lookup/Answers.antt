-- `dictionary::lookup` meets its contract. Assumes nothing.
use Rattle.std.proofs.Common.{ap, ◌∙◌, map, rules}
use Rattle.words.specs.Runs.{lower}
use Rattle.dictionary.specs.Slots.{stop_from, stop_of}
use Rattle.dictionary.proofs.Laws.{stop-or}
use Rattle.dictionary.proofs.lookup.Goals as goal

pub returns : goal.returns
unfolding stop_of
returns c =
    let q = map lower c.args.word.now in
    let found = c.probe.ensures c.args.text.now q (λ k r e. search rules) in
    c.unwrap_or.ensures ∙ stop-or _ q _ _ _ found ∙ ap (λ h. stop_from c.args.text.now q h c.args.slots.now) c.hash_of.ensures
