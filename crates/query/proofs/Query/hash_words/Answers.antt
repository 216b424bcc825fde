-- `query::Query::hash_words` meets its contract: glue over Hashing. Assumes nothing.
use Rattle.std.proofs.Common.{sym, ◌∙◌}
use Rattle.query.proofs.Hashing.{no_query, no_room_lem, with-room}
use Rattle.query.proofs.Query.hash_words.Goals.{else-is_query-via-then-is_query+else-self-hashes, else-is_query-via-else-is_query}
use Rattle.query.proofs.Query.hash_words.Goals as goal

pub returns-then-self-hashes : goal.returns-then-self-hashes
returns-then-self-hashes c = c.put_hashes.ensures ∙ with-room _ _ (sym c.if-is_query.ensures) c.if-self-hashes.true

pub returns-else-is_query : goal.returns-else-is_query
returns-else-is_query c =
    elim c.else-is_query.branch [
      | else-is_query-via-then-is_query+else-self-hashes w ↦ no_room_lem _ _ w.if-self-hashes.false
      | else-is_query-via-else-is_query w ↦ no_query _ _ (sym w.if-is_query.ensures)
    ]
