-- Records of a server's log: their kinds, levels and members (docs/OPERATION.md).
use Rattle.std.specs.Prelude.{ℕ, List, [], ◌∷◌, codes, Option, string_bytes, nat_eq, nat_lt, if◌then◌else◌}
use Rattle.std.specs.List.{starts_with}
use Rattle.serde_json.specs.Data.{Data}
use Rattle.log.specs.declared.level.Level.{Level}
use Rattle.log.specs.declared.level.Level.TheVariants.{Error, Warn, Info}
use Rattle.mx_metrics.specs.Labels.{route_name}
use Rattle.mx_records.specs.Members.{text_at, text_if, number_at}
use Rattle.mx_records.specs.declared.records.AnsweredRequest.{AnsweredRequest}
use Rattle.mx_records.specs.declared.records.EventNotTaken.{EventNotTaken}
use Rattle.mx_records.specs.declared.records.NotTaken.{NotTaken}
use Rattle.mx_records.specs.declared.records.NotTaken.TheVariants.{Refused, Rejected}
use Rattle.mx_records.specs.declared.records.NoticeKind.{NoticeKind}
use Rattle.mx_records.specs.declared.records.NoticeKind.TheVariants.{Started, FileFailed, ConnectionsClosed, Warning, Told}
use Rattle.mx_records.specs.declared.records.Subject.{Subject}
use Rattle.mx_records.specs.declared.records.Subject.TheVariants as subject

abbrev pub not_taken_text : NotTaken → List ℕ
not_taken_text Refused = codes "refused"
not_taken_text Rejected = codes "rejected"

abbrev pub notice_text : NoticeKind → List ℕ
notice_text Started = codes "started"
notice_text FileFailed = codes "file_failed"
notice_text ConnectionsClosed = codes "connections_closed"
notice_text Warning = codes "warning"
notice_text Told = codes "told"

abbrev pub notice_level : NoticeKind → Level
notice_level Started = Info
notice_level FileFailed = Error
notice_level ConnectionsClosed = Warn
notice_level Warning = Warn
notice_level Told = Warn

-- the kind of a line for who runs the server, by how it begins
abbrev pub notice_of : (line : List ℕ) → NoticeKind
notice_of line =
    if starts_with nat_eq line (codes "serving ") then Started else (
    if starts_with nat_eq line (codes "storage: ") then FileFailed else (
    if starts_with nat_eq line (codes "memory: ") then ConnectionsClosed else (
    if starts_with nat_eq line (codes "warning: ") then Warning else Told)))

abbrev pub status_level : ℕ → Level
status_level status = if nat_lt status 500 then Info else Warn

abbrev pub kind_text : Subject → List ℕ
kind_text (subject.Request r) = codes "request"
kind_text (subject.Event e) = not_taken_text e.how
kind_text (subject.Notice n) = notice_text n.kind

abbrev pub level_of : Subject → Level
level_of (subject.Request r) = status_level r.status
level_of (subject.Event e) = Info
level_of (subject.Notice n) = notice_level n.kind

-- what is told of a request, an event, or what happened
abbrev pub request_members : AnsweredRequest → List (List ℕ × Option Data)
request_members r =
    text_if (codes "origin") r.origin ∷ text_at (codes "method") r.method.now
    ∷ text_at (codes "route") (route_name r.route) ∷ text_if (codes "room") r.room
    ∷ number_at (codes "status") r.status ∷ number_at (codes "milliseconds") r.milliseconds
    ∷ number_at (codes "bytes") r.bytes ∷ []

abbrev pub event_members : EventNotTaken → List (List ℕ × Option Data)
event_members e =
    text_at (codes "origin") e.origin ∷ text_at (codes "event_id") e.id ∷ text_at (codes "room") e.room
    ∷ text_at (codes "sender") e.sender ∷ text_at (codes "cause") (string_bytes e.cause) ∷ []

abbrev pub subject_members : Subject → List (List ℕ × Option Data)
subject_members (subject.Request r) = request_members r
subject_members (subject.Event e) = event_members e
subject_members (subject.Notice n) = text_at (codes "text") (string_bytes n.text) ∷ []
