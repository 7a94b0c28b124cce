-- Lines of steps and requests, as they are read (our own).
use Rattle.std.specs.Prelude.{ℕ, ◌==◌, nat_le, Bool, if◌then◌else◌, List, [], ◌∷◌, bytes_eq, codes, filter, map, Option, None, Some, option_and_then, option_map, unwrap_or}
use Prim.Native.String.{String}
use Rattle.std.specs.List.{list_all, list_any, onto_first}
use Rattle.serde_json.specs.Data.{Data}
use Rattle.serde_json.specs.Find.{as_str}
use Rattle.mx_ident.specs.Identifier.{is_server_name}
use Rattle.mx_redact.specs.Fields.{Event, field, object_keys, text_field, words}
use Rattle.mx_pdu.specs.Format.{is_well_formed}
use Rattle.mx_book.specs.declared.transaction_keys.TransactionKey.{TransactionKey}
use Rattle.mx_room.specs.declared.moments.TheConstants.{LATEST_MILLISECONDS}
use Rattle.mx_requests.specs.Calls.{Request}
use Rattle.mx_pdu.specs.declared.offering.Offered.{Offered}
use Rattle.mx_step_replies.specs.Steps.{StepView, host_step, open_step, next_step, close_step}
use Rattle.mx_requests.specs.Requests.{entries_up_to, json_of, natural_of}

-- the lines of a text; the last may lack its newline
unfoldable pub lines_of : List ℕ → List (List ℕ)
lines_of [] = []
lines_of (c ∷ cs) = if c == 10 then [] ∷ lines_of cs else onto_first c (lines_of cs)

-- a line that hosts a room by a malformed event, a step, a request at a moment, and any other line
pub data Line : Type 0 where
  bad_line malformed_host : Line
  step_line : StepView → Line
  call_line : (now : ℕ) → Request → Line

-- each key of the object is one of these
abbrev pub has_only : String → Data → Bool
has_only names d = list_all (λ key. list_any (bytes_eq key) (words names)) (object_keys d)

-- a line of a form, or a bad one
abbrev pub or_bad : Option Line → Line
or_bad line = unwrap_or line bad_line

-- the line, if it has no other keys than these, and all that its form asks for
abbrev pub formed : String → Data → Option Line → Line
formed names d line = if has_only names d then or_bad line else bad_line

abbrev pub key_from : (origin txn : List ℕ) → Option TransactionKey
key_from origin txn = if is_server_name origin then Some (record { origin = origin; txn = txn }) else None

-- the transaction that a line names
abbrev pub key_in : Data → Option TransactionKey
key_in d =
    option_and_then (λ origin. option_and_then (λ txn. key_from origin txn) (text_field (codes "txn") d))
    (text_field (codes "origin") d)

abbrev pub host_of : (Event → Offered) → Event → Line
host_of offer e = if is_well_formed e then step_line (host_step (offer e)) else malformed_host

-- the well-formed ones among at most 50 entries, as they are offered
abbrev pub events_of : (Event → Offered) → Data → Option (List Offered)
events_of offer d = option_map (map offer) (option_map (filter is_well_formed) (entries_up_to 50 d))

abbrev pub opening : TransactionKey → List Offered → Line
opening key events = step_line (open_step key events)

abbrev pub open_in : (Event → Offered) → Data → Option Line
open_in offer d =
    option_and_then (λ key. option_map (opening key) (option_and_then (events_of offer) (field (codes "pdus") d)))
    (key_in d)

abbrev pub next_of : TransactionKey → Line
next_of key = step_line (next_step key)

abbrev pub close_of : TransactionKey → Line
close_of key = step_line (close_step key)

-- a text, which may be absent
abbrev pub text_or_none : Option Data → Option (Option (List ℕ))
text_or_none None = Some None
text_or_none (Some d) = option_map Some (as_str d)

abbrev pub moment_of : Data → Option ℕ
moment_of d = option_and_then (λ n. if nat_le n LATEST_MILLISECONDS then Some n else None) (natural_of d)

-- an absent body is empty
abbrev pub body_of : Option Data → Option (List ℕ)
body_of d = option_map (λ body. unwrap_or body []) (text_or_none d)

abbrev pub call_from : (method target : List ℕ) → (now : ℕ) → (authorization : Option (List ℕ)) → (body : List ℕ) → Line
call_from method target now authorization body =
    call_line now (record { method = method; target = target; authorization = authorization; body = body })

abbrev pub call_in : Data → Option Line
call_in d =
    option_and_then (λ method. option_and_then (λ target. option_and_then (λ now.
    option_and_then (λ authorization. option_map (λ body. call_from method target now authorization body)
    (body_of (field (codes "body") d)))
    (text_or_none (field (codes "authorization") d)))
    (option_and_then moment_of (field (codes "now") d)))
    (text_field (codes "target") d))
    (text_field (codes "method") d)

-- ---- each form, with its keys

abbrev pub host_form : (Event → Offered) → Data → Line
host_form offer d = formed "step event" d (option_map (host_of offer) (field (codes "event") d))

abbrev pub open_form : (Event → Offered) → Data → Line
open_form offer d = formed "step origin txn pdus" d (open_in offer d)

abbrev pub next_form : Data → Line
next_form d = formed "step origin txn" d (option_map next_of (key_in d))

abbrev pub close_form : Data → Line
close_form d = formed "step origin txn" d (option_map close_of (key_in d))

abbrev pub call_form : Data → Line
call_form d = formed "step method target authorization now body" d (call_in d)

-- the line whose `step` is this text
abbrev pub line_by : (Event → Offered) → List ℕ → Data → Line
line_by offer step d =
    if bytes_eq step (codes "host") then host_form offer d
    else (if bytes_eq step (codes "open") then open_form offer d
    else (if bytes_eq step (codes "next") then next_form d
    else (if bytes_eq step (codes "close") then close_form d
    else (if bytes_eq step (codes "call") then call_form d
    else bad_line))))

-- the line of an object, by its `step`
abbrev pub line_in : (Event → Offered) → Data → Line
line_in offer d = unwrap_or (option_map (λ step. line_by offer step d) (text_field (codes "step") d)) bad_line

-- the line that a text is, under a way to offer events
unfoldable pub read_line : (Event → Offered) → List ℕ → Line
read_line offer text = unwrap_or (option_map (line_in offer) (json_of text)) bad_line
