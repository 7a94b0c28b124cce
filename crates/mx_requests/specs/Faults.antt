-- The faults of a request: their status, code, text and body (Matrix specification, Server-Server API, standard error
-- response; the texts are our own).
use Rattle.std.specs.Prelude.{ℕ, List, ◌++◌, codes}
use Rattle.serde_json.specs.Data.{object, string, Members, no_members, member}
use Rattle.mx_canon.specs.Canonical.{canonical_text}
use Rattle.mx_auth.specs.Rules.{label_text}
use Rattle.mx_auth.specs.Versions.{version_text}
use Rattle.mx_room.specs.Refusals.{refusal_text}
use Rattle.mx_room.specs.declared.queries.Denied as denied
use Rattle.mx_room.specs.declared.queries.Denied.TheVariants as variant
use Rattle.mx_requests.specs.declared.faults.MissingParameter.{MissingParameter}
use Rattle.mx_requests.specs.declared.faults.MissingParameter.TheVariants as missing
use Rattle.mx_requests.specs.declared.faults.InvalidPart.{InvalidPart}
use Rattle.mx_requests.specs.declared.faults.InvalidPart.TheVariants as invalid
use Rattle.mx_requests.specs.declared.faults.Fault.{Fault}
use Rattle.mx_requests.specs.declared.faults.Fault.TheVariants.{NotJson, WrongForm, Missing, Invalid, NoOrigin, WrongDestination, Denied, Refused, UnknownPath, UnknownMethod, TooLarge, Memory, Storage, Busy}

abbrev pub missing_name : MissingParameter → List ℕ
missing_name missing.EventId = codes "event_id"
missing_name missing.V = codes "v"
missing_name missing.Limit = codes "limit"

abbrev pub invalid_name : InvalidPart → List ℕ
invalid_name invalid.RoomId = codes "room id"
invalid_name invalid.UserId = codes "user id"
invalid_name invalid.EventId = codes "event id"
invalid_name invalid.Limit = codes "limit"
invalid_name invalid.Event = codes "event"
invalid_name invalid.Path = codes "path"

abbrev pub denied_text : denied.Denied → List ℕ
denied_text variant.AccessList = codes "server acl"
denied_text variant.NotInRoom = codes "not in room"
denied_text variant.NotFound = codes "not found"
denied_text variant.OtherServer = codes "user of another server"
denied_text (variant.WrongVersion version) = codes "room version"
denied_text (variant.Rule rule) = codes "rule " ++ label_text rule

abbrev pub denied_status : denied.Denied → ℕ
denied_status variant.NotFound = 404
denied_status (variant.WrongVersion version) = 400
denied_status _ = 403

abbrev pub denied_code : denied.Denied → List ℕ
denied_code variant.NotFound = codes "M_NOT_FOUND"
denied_code (variant.WrongVersion version) = codes "M_INCOMPATIBLE_ROOM_VERSION"
denied_code _ = codes "M_FORBIDDEN"

abbrev pub fault_status : Fault → ℕ
fault_status NotJson = 400
fault_status WrongForm = 400
fault_status (Missing parameter) = 400
fault_status (Invalid part) = 400
fault_status NoOrigin = 401
fault_status WrongDestination = 401
fault_status (Denied why) = denied_status why
fault_status (Refused refusal) = 403
fault_status UnknownPath = 404
fault_status UnknownMethod = 405
fault_status TooLarge = 413
fault_status Memory = 503
fault_status Storage = 503
fault_status Busy = 503

abbrev pub fault_code : Fault → List ℕ
fault_code NotJson = codes "M_NOT_JSON"
fault_code WrongForm = codes "M_BAD_JSON"
fault_code (Missing parameter) = codes "M_MISSING_PARAM"
fault_code (Invalid part) = codes "M_INVALID_PARAM"
fault_code NoOrigin = codes "M_UNAUTHORIZED"
fault_code WrongDestination = codes "M_UNAUTHORIZED"
fault_code (Denied why) = denied_code why
fault_code (Refused refusal) = codes "M_FORBIDDEN"
fault_code UnknownPath = codes "M_UNRECOGNIZED"
fault_code UnknownMethod = codes "M_UNRECOGNIZED"
fault_code TooLarge = codes "M_TOO_LARGE"
fault_code Memory = codes "M_UNKNOWN"
fault_code Storage = codes "M_UNKNOWN"
fault_code Busy = codes "M_UNKNOWN"

abbrev pub fault_text : Fault → List ℕ
fault_text NotJson = codes "body is not JSON"
fault_text WrongForm = codes "body has a wrong form"
fault_text (Missing parameter) = codes "missing " ++ missing_name parameter
fault_text (Invalid part) = codes "invalid " ++ invalid_name part
fault_text NoOrigin = codes "no origin"
fault_text WrongDestination = codes "wrong destination"
fault_text (Denied why) = denied_text why
fault_text (Refused refusal) = refusal_text refusal
fault_text UnknownPath = codes "unknown path"
fault_text UnknownMethod = codes "unknown method"
fault_text TooLarge = codes "body over 8 MiB"
fault_text Memory = codes "memory"
fault_text Storage = codes "storage"
fault_text Busy = codes "busy"

-- Server-Server API, make_join: the room's version stands beside the refusal of an incompatible one
abbrev pub fault_members : Fault → Members
fault_members (Denied (variant.WrongVersion version)) = member (codes "room_version") (string (version_text version)) no_members
fault_members _ = no_members

-- the body, in canonical JSON
abbrev pub fault_body : Fault → List ℕ
fault_body f =
    canonical_text
    (object (member (codes "errcode") (string (fault_code f)) (member (codes "error") (string (fault_text f)) (fault_members f))))
