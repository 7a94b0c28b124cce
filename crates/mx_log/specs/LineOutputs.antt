-- Lines of steps and requests, as they are answered (our own).
use Rattle.std.specs.Prelude.{ℕ, Bool, true, List, [], ◌∷◌, ◌++◌, bytes_eq, codes}
use Prim.Native.String.{String}
use Rattle.std.specs.List.{list_any}
use Rattle.std.specs.Fmt.{decimal}
use Rattle.serde_json.specs.Data.{Data, no_members, member, string, boolean, number, unsigned, object}
use Rattle.mx_canon.specs.Canonical.{canonical_text, string_text}
use Rattle.mx_auth.specs.Rules.{label_text}
use Rattle.mx_room.specs.declared.hosting.NotARoom.{NotARoom}
use Rattle.mx_room.specs.declared.hosting.NotARoom.TheVariants.{NotACreateEvent, CitesAuthEvents, Unsigned, BadContentHash, BreaksRule}
use Rattle.mx_shard.specs.declared.answers.Answer.{Answer}
use Rattle.mx_shard.specs.declared.answers.Answer.TheVariants.{Hosted, AlreadyHosted, NotHost}
use Rattle.mx_world.specs.Replies.{text_of}
use Rattle.mx_world.specs.declared.steps.StepReply.{StepReply}
use Rattle.mx_world.specs.declared.steps.StepReply.TheVariants.{OfRoom, Opened, Replayed, Busy, NotOpen, NoMore, OfEvent, MoreLeft, Closed}
use Rattle.mx_log.specs.Lines.{lines_of}
use Rattle.mx_requests.specs.ReplyBodies.{Response, failure}
use Rattle.mx_requests.specs.declared.faults.Fault.{Fault}
use Rattle.mx_requests.specs.declared.faults.Fault.TheVariants.{Memory}

abbrev pub one_member : List ℕ → Data → List ℕ
one_member key d = canonical_text (object (member key d no_members))

abbrev pub flag : String → List ℕ
flag key = one_member (codes key) (boolean true)

abbrev pub count : String → ℕ → List ℕ
count key n = one_member (codes key) (number (unsigned n))

-- an object with a body, which is a canonical text itself, at its one key
abbrev pub with_body : List ℕ → List ℕ → List ℕ
with_body key body = 123 ∷ string_text key ++ (58 ∷ body ++ 125 ∷ [])

abbrev pub error_output : List ℕ → List ℕ
error_output text = one_member (codes "error") (string text)

abbrev pub bad_output : List ℕ
bad_output = error_output (codes "bad line")

abbrev pub refused_output : List ℕ → List ℕ
refused_output text = one_member (codes "refused") (string text)

-- a create event that cites auth events counts as malformed
abbrev pub not_a_room_text : NotARoom → List ℕ
not_a_room_text NotACreateEvent = codes "not a create event"
not_a_room_text CitesAuthEvents = codes "malformed"
not_a_room_text Unsigned = codes "signature"
not_a_room_text BadContentHash = codes "content hash"
not_a_room_text (BreaksRule rule) = codes "rule " ++ label_text rule

-- a room answers a line of a step only where the line hosts it
abbrev pub host_output : Answer → List ℕ
host_output (Hosted id) = one_member (codes "hosted") (string id)
host_output (AlreadyHosted id) = one_member (codes "already") (string id)
host_output (NotHost why) = refused_output (not_a_room_text why)
host_output _ = bad_output

-- the output for a step
abbrev pub step_output : StepReply → List ℕ
step_output (OfRoom answer) = host_output answer
step_output (Opened n) = count "open" n
step_output (Replayed body) = with_body (codes "kept") body
step_output Busy = flag "busy"
step_output (OfEvent told) =
    canonical_text (object (member (codes "id") (string told.id) (member (codes "reply") (text_of told.outcome) no_members)))
step_output NoMore = flag "no_more"
step_output NotOpen = flag "not_open"
step_output (Closed body) = with_body (codes "closed") body
step_output (MoreLeft n) = count "more" n

-- a reply to a request, with its body, which is a canonical text itself
abbrev pub response_output : Response → List ℕ
response_output r =
    123 ∷ string_text (codes "body") ++ (58 ∷ r.body ++ (44 ∷ string_text (codes "status") ++ (58 ∷ decimal r.status ++ 125 ∷ [])))

-- ---- refusals for memory

abbrev pub fault_output : Fault → List ℕ
fault_output f = response_output (failure f)

abbrev pub refusals : List (List ℕ)
refusals = error_output (codes "memory") ∷ fault_output Memory ∷ []

-- some line of an output is a refusal for memory
abbrev pub has_refusal : List ℕ → Bool
has_refusal output = list_any (λ line. list_any (bytes_eq line) refusals) (lines_of output)
