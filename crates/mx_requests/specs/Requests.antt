-- What the parameters and the body of a request say (Matrix specification, Server-Server API: transactions, retrieving
-- events, joining rooms).
use Rattle.std.specs.Prelude.{ℕ, ◌==◌, nat_lt, min, Bool, ◌&&◌, if◌then◌else◌, List, codes, filter, length, Option, Some, None, option_map, Result, Ok, Err}
use Rattle.std.specs.List.{list_all}
use Rattle.std.specs.Char.{is_ascii_digit}
use Rattle.serde_json.specs.Data.{Data}
use Rattle.mx_ident.specs.Identifier.{decimal_value, is_event_id}
pub use Rattle.mx_body.specs.Bodies.{json_of, entries_up_to, is_array_up_to, pdus_in, natural_of, question_of}
use Rattle.mx_redact.specs.Fields.{Event}
use Rattle.mx_pdu.specs.Format.{is_well_formed}
use Rattle.mx_room.specs.declared.queries.Query.{Query}
use Rattle.mx_room.specs.declared.queries.Query.TheVariants as ask
use Rattle.mx_requests.specs.declared.faults.Fault.{Fault}
use Rattle.mx_requests.specs.declared.faults.Fault.TheVariants.{NotJson, Missing, Invalid}
use Rattle.mx_requests.specs.declared.faults.MissingParameter.TheVariants as missing
use Rattle.mx_requests.specs.declared.faults.InvalidPart.TheVariants as invalid
use Rattle.mx_requests.specs.Targets.{all_named, first_named}

abbrev pub Read : Type 0 → Type 0
Read A = Result A Fault

abbrev pub ok_or_fault : {A : Type 0} → Fault → Option A → Read A
ok_or_fault f None = Err f
ok_or_fault f (Some x) = Ok x

abbrev pub unless : {A : Type 0} → Bool → Fault → Read A → Read A
unless fails f rest = if fails then Err f else rest

-- on success the checks go on
abbrev pub on_ok : {A B : Type 0} → Read A → (A → Read B) → Read B
on_ok (Ok x) rest = rest x
on_ok (Err f) rest = Err f

-- ---- the body

abbrev pub body_value : List ℕ → Read Data
body_value body = ok_or_fault NotJson (json_of body)

-- Server-Server API, transactions: at most 50 PDUs, and at most 100 EDUs, which are not looked at; a malformed PDU has no
-- result
abbrev pub events_in : Data → Option (List Event)
events_in d = option_map (filter is_well_formed) (pdus_in d)

-- ---- parameters

-- event ids, which all are well formed
abbrev pub event_ids_read : List (List ℕ) → Read (List (List ℕ))
event_ids_read ids = if list_all is_event_id ids then Ok ids else Err (Invalid invalid.EventId)

abbrev pub event_id_parameter : List (List ℕ × List ℕ) → Read (List ℕ)
event_id_parameter ps =
    on_ok (ok_or_fault (Missing missing.EventId) (first_named (codes "event_id") ps)) (λ id.
    if is_event_id id then Ok id else Err (Invalid invalid.EventId))

-- all of `v`, of which there is one at least
abbrev pub v_parameters : List (List ℕ × List ℕ) → Read (List (List ℕ))
v_parameters ps = unless (length (all_named (codes "v") ps) == 0) (Missing missing.V) (event_ids_read (all_named (codes "v") ps))

-- one or more decimal digits; a number over 100 counts as 100
abbrev pub is_number : List ℕ → Bool
is_number s = nat_lt 0 (length s) && list_all is_ascii_digit s

abbrev pub limit_parameter : List (List ℕ × List ℕ) → Read ℕ
limit_parameter ps =
    on_ok (ok_or_fault (Missing missing.Limit) (first_named (codes "limit") ps)) (λ s.
    if is_number s then Ok (min (decimal_value s) 100) else Err (Invalid invalid.Limit))

-- ---- Server-Server API, get_missing_events

-- what the body asks of a room
abbrev pub missing_query : List ℕ → Data → Option Query
missing_query room d = option_map (λ q. ask.Missing room q.earliest q.latest q.limit q.min_depth) (question_of d)
