-- Worked rows: lines as they are answered, each computed.
use Rattle.std.specs.Prelude.{◌≡◌, refl, [], ◌∷◌, codes, map, None}
use Rattle.std.specs.Str.{chars}
use Rattle.std.specs.Fmt.{digits}
use Rattle.mx_canon.specs.Canonical.{canonical_text}
use Rattle.mx_room.specs.declared.hosting.NotARoom.TheVariants.{CitesAuthEvents}
use Rattle.mx_shard.specs.declared.answers.Answer.TheVariants.{Hosted, AlreadyHosted, NotHost}
use Rattle.mx_world.specs.declared.steps.StepReply.TheVariants.{OfRoom, Opened, Replayed, Busy, NotOpen, NoMore, OfEvent, MoreLeft, Closed}
use Rattle.mx_log.specs.LineOutputs.{response_output, step_output}
use Rattle.mx_step_replies.specs.Steps.{reply_to, open_step}

-- each reply to a step, with bodies that are handed in
steps-told : map step_output (
    Opened 2 ∷ MoreLeft 10 ∷ Busy ∷ NoMore ∷ NotOpen
    ∷ Replayed (codes "{\"pdus\":{}}") ∷ Closed (codes "{}")
    ∷ OfEvent (record { id = codes "$1"; outcome = None })
    ∷ OfRoom (Hosted (codes "$1")) ∷ OfRoom (AlreadyHosted (codes "$1")) ∷ OfRoom (NotHost CitesAuthEvents)
    ∷ [])
    ≡ codes "{\"open\":2}" ∷ codes "{\"more\":10}" ∷ codes "{\"busy\":true}" ∷ codes "{\"no_more\":true}" ∷ codes "{\"not_open\":true}"
    ∷ codes "{\"kept\":{\"pdus\":{}}}" ∷ codes "{\"closed\":{}}"
    ∷ codes "{\"id\":\"$1\",\"reply\":{\"error\":\"unknown room\"}}"
    ∷ codes "{\"hosted\":\"$1\"}" ∷ codes "{\"already\":\"$1\"}" ∷ codes "{\"refused\":\"malformed\"}"
    ∷ []
unfolding canonical_text chars digits
steps-told = refl

-- a transaction's reply is its book's, and one that is open just now is told busy
transactions-told : map (λ last. response_output (reply_to (codes "hub.example") (open_step (record { origin = codes "a.example"; txn = codes "1" }) []) last))
    (Closed (codes "{\"pdus\":{}}") ∷ Replayed (codes "{}") ∷ Busy ∷ [])
    ≡ codes "{\"body\":{\"pdus\":{}},\"status\":200}"
    ∷ codes "{\"body\":{},\"status\":200}"
    ∷ codes "{\"body\":{\"errcode\":\"M_UNKNOWN\",\"error\":\"busy\"},\"status\":503}"
    ∷ []
unfolding canonical_text chars digits
transactions-told = refl
