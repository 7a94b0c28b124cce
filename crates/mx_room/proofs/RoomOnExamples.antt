-- What an example unfolds to compute.
use Rattle.std.specs.Prelude.{⊤}
use Rattle.mx_redact.specs.Hashes.{hash_holds}
use Rattle.mx_access.proofs.AccessOnExamples.{access_on_examples}
use Rattle.mx_room.specs.Queries.{backfill, missing_events, event_shown, join_template, query_answer}
use Rattle.mx_room.specs.Hosting.{host_error}
use Rattle.mx_room.specs.Offer.{allowed_outcome, offer_outcome}

unfoldable pub room_on_examples : ⊤
unfolding access_on_examples hash_holds host_error allowed_outcome offer_outcome backfill missing_events event_shown join_template query_answer
room_on_examples = tt
