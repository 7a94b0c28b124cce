-- What an answer tells (our own).
use Rattle.std.specs.Prelude.{Bool, true, false, is_ok}
use Rattle.mx_room.specs.Joins.{takes_memory}
use Rattle.mx_room.specs.Offer.{is_kept}
use Rattle.mx_shard.specs.declared.answers.Answer.{Answer}
use Rattle.mx_shard.specs.declared.answers.Answer.TheVariants.{NotHosted, Hosted, AlreadyHosted, NotHost, ToOffered, ToJoined, ToAsked}

-- the room is hosted, from now on or before
abbrev pub tells_hosted : Answer → Bool
tells_hosted NotHosted = false
tells_hosted (Hosted id) = true
tells_hosted (AlreadyHosted id) = true
tells_hosted (NotHost cause) = false
tells_hosted (ToOffered outcome) = false
tells_hosted (ToJoined reply) = false
tells_hosted (ToAsked reply) = false

-- the offered event is kept, or the join is answered
abbrev pub tells_kept : Answer → Bool
tells_kept NotHosted = false
tells_kept (Hosted id) = false
tells_kept (AlreadyHosted id) = false
tells_kept (NotHost cause) = false
tells_kept (ToOffered outcome) = is_kept outcome
tells_kept (ToJoined reply) = takes_memory reply
tells_kept (ToAsked reply) = false

-- the query gives something
abbrev pub tells_shown : Answer → Bool
tells_shown NotHosted = false
tells_shown (Hosted id) = false
tells_shown (AlreadyHosted id) = false
tells_shown (NotHost cause) = false
tells_shown (ToOffered outcome) = false
tells_shown (ToJoined reply) = false
tells_shown (ToAsked reply) = is_ok reply
