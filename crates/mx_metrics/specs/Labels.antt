-- What is counted apart, in numbers and words (docs/OPERATION.md).
use Rattle.std.specs.Prelude.{ℕ, ◌+◌, ◌*◌, List, Option, None, Some, bytes_eq, codes, if◌then◌else◌, nat_eq, ◌==◌}
use Rattle.std.specs.List.{starts_with}
use Rattle.mx_metrics.specs.declared.labels.RouteLabel.{RouteLabel}
use Rattle.mx_metrics.specs.declared.labels.RouteLabel.TheVariants as route
use Rattle.mx_metrics.specs.declared.labels.StatusLabel.{StatusLabel}
use Rattle.mx_metrics.specs.declared.labels.StatusLabel.TheVariants as status
use Rattle.mx_metrics.specs.declared.labels.EventResult.{EventResult}
use Rattle.mx_metrics.specs.declared.labels.EventResult.TheVariants as result

abbrev pub route_number : RouteLabel → ℕ
route_number route.Send = 0
route_number route.Event = 1
route_number route.State = 2
route_number route.StateIds = 3
route_number route.EventAuth = 4
route_number route.Backfill = 5
route_number route.GetMissingEvents = 6
route_number route.MakeJoin = 7
route_number route.SendJoin = 8
route_number route.Unknown = 9

abbrev pub route_name : RouteLabel → List ℕ
route_name route.Send = codes "send"
route_name route.Event = codes "event"
route_name route.State = codes "state"
route_name route.StateIds = codes "state_ids"
route_name route.EventAuth = codes "event_auth"
route_name route.Backfill = codes "backfill"
route_name route.GetMissingEvents = codes "get_missing_events"
route_name route.MakeJoin = codes "make_join"
route_name route.SendJoin = codes "send_join"
route_name route.Unknown = codes "unknown"

abbrev pub status_number : StatusLabel → ℕ
status_number status.Ok = 0
status_number status.BadRequest = 1
status_number status.Unauthorized = 2
status_number status.Forbidden = 3
status_number status.NotFound = 4
status_number status.MethodNotAllowed = 5
status_number status.TooLarge = 6
status_number status.NotImplemented = 7
status_number status.Unavailable = 8
status_number status.Other = 9

abbrev pub status_name : StatusLabel → List ℕ
status_name status.Ok = codes "200"
status_name status.BadRequest = codes "400"
status_name status.Unauthorized = codes "401"
status_name status.Forbidden = codes "403"
status_name status.NotFound = codes "404"
status_name status.MethodNotAllowed = codes "405"
status_name status.TooLarge = codes "413"
status_name status.NotImplemented = codes "501"
status_name status.Unavailable = codes "503"
status_name status.Other = codes "other"

abbrev pub result_number : EventResult → ℕ
result_number result.Accepted = 0
result_number result.Rejected = 1
result_number result.UnknownRoom = 2
result_number result.AccessList = 3
result_number result.SecondCreate = 4
result_number result.Signature = 5
result_number result.MissingEvents = 6
result_number result.RoomFull = 7

abbrev pub result_name : EventResult → List ℕ
result_name result.Accepted = codes "accepted"
result_name result.Rejected = codes "rejected"
result_name result.UnknownRoom = codes "unknown room"
result_name result.AccessList = codes "server acl"
result_name result.SecondCreate = codes "second create"
result_name result.Signature = codes "signature"
result_name result.MissingEvents = codes "missing events"
result_name result.RoomFull = codes "room full"

-- the label of a status of HTTP
abbrev pub status_of : ℕ → StatusLabel
status_of n =
    if n == 200 then status.Ok else (
    if n == 400 then status.BadRequest else (
    if n == 401 then status.Unauthorized else (
    if n == 403 then status.Forbidden else (
    if n == 404 then status.NotFound else (
    if n == 405 then status.MethodNotAllowed else (
    if n == 413 then status.TooLarge else (
    if n == 501 then status.NotImplemented else (
    if n == 503 then status.Unavailable else (
    status.Other)))))))))

-- where replies of a route and status are counted
abbrev pub reply_place : RouteLabel → StatusLabel → ℕ
reply_place r s = route_number r * 10 + status_number s

-- why an event was refused, by the error of its result, as replies tell it (docs/LOG.md)
abbrev pub refusal_of : List ℕ → Option EventResult
refusal_of error =
    if bytes_eq error (codes "unknown room") then Some result.UnknownRoom else (
    if bytes_eq error (codes "server acl") then Some result.AccessList else (
    if bytes_eq error (codes "second create") then Some result.SecondCreate else (
    if bytes_eq error (codes "signature") then Some result.Signature else (
    if bytes_eq error (codes "missing events") then Some result.MissingEvents else (
    if bytes_eq error (codes "room full") then Some result.RoomFull else None)))))

-- what became of an event whose result has this error
abbrev pub result_of : List ℕ → Option EventResult
result_of error = if starts_with nat_eq error (codes "rejected: ") then Some result.Rejected else refusal_of error
