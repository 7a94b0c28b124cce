-- The status and the body of the reply to a join (Matrix specification, Server-Server API, joining rooms: send_join,
-- version 2).
use Rattle.std.specs.Prelude.{ℕ, List, codes, Some, None}
use Rattle.serde_json.specs.Data.{Data, no_members, member, string, object}
use Rattle.mx_canon.specs.Canonical.{canonical_text}
use Rattle.mx_receipt.specs.declared.verdicts.Verdict.{Verdict}
use Rattle.mx_receipt.specs.declared.verdicts.Verdict.TheVariants.{Accepted, SoftFailed, Rejected}
use Rattle.mx_room.specs.declared.joining.Joined.{Joined}
use Rattle.mx_room.specs.declared.joining.JoinReply.{JoinReply}
use Rattle.mx_room.specs.declared.joining.JoinReply.TheVariants as join
use Rattle.mx_room.specs.declared.outcomes.Outcome.{Outcome}
use Rattle.mx_room.specs.declared.outcomes.Outcome.TheVariants as outcome
use Rattle.mx_room.specs.declared.queries.Denied.TheVariants as denied
use Rattle.mx_requests.specs.declared.faults.Fault.{Fault}
use Rattle.mx_requests.specs.declared.faults.Fault.TheVariants.{Denied, Refused}
use Rattle.mx_requests.specs.ReplyBodies.{Response, event_array, failure, success}

abbrev pub joined_data : List ℕ → Joined → Data
joined_data server j =
    object (member (codes "auth_chain") (event_array j.auth_chain)
    (member (codes "event") j.event
    (member (codes "origin") (string server) (member (codes "state") (event_array j.state) no_members))))

abbrev pub verdict_fault : Verdict → Fault
verdict_fault Accepted = Denied denied.NotFound
verdict_fault (SoftFailed rule) = Denied (denied.Rule rule)
verdict_fault (Rejected rule) = Denied (denied.Rule rule)

-- why a join that was offered is not let in; an accepted one always has an answer
abbrev pub outcome_fault : Outcome → Fault
outcome_fault (outcome.Kept v) = verdict_fault v
outcome_fault (outcome.Known v) = verdict_fault v
outcome_fault (outcome.Refused r) = Refused r

-- the reply of this server to a join that was answered so
abbrev pub join_reply : List ℕ → JoinReply → Response
join_reply server join.NotOffered = failure (Denied denied.OtherServer)
join_reply server (join.Offered outcome (Some j)) = success (canonical_text (joined_data server j))
join_reply server (join.Offered outcome None) = failure (outcome_fault outcome)
