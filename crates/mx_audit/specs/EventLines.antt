-- The lines that tell of the events and of the states of a room, and of a resolution (docs/AUDIT.md).
use Rattle.std.specs.Prelude.{ℕ, suc, ◌==◌, Bool, List, [], ◌∷◌, ◌++◌, codes, map, flat_map, filter, find, length, nat_lt, if◌then◌else◌, Option, None, Some, option_map, option_and_then, is_none}
use Rattle.serde_json.specs.Data.{Data, boolean, number, unsigned, string, array, object, Items, no_items, item}
use Rattle.serde_json.specs.Find.{of_integer}
use Rattle.mx_redact.specs.Fields.{Event, kind, is_some_and}
use Rattle.mx_redact.specs.Hashes.{hash_holds}
use Rattle.mx_pdu.specs.Event.{auth_ids, content_of, depth_of, is_state, prev_ids, sender_of, state_key_of, timestamp_of}
use Rattle.mx_pdu.specs.StateKeys.{Key}
use Rattle.mx_auth.specs.Rules.{label_text, same_key}
use Rattle.mx_auth.specs.Versions.{version_text}
use Rattle.mx_auth.specs.declared.versions.RoomVersion.{RoomVersion}
use Rattle.mx_graph.specs.Record.{event, events_where, is_in, names_in_redaction, row}
use Rattle.mx_graph.specs.StateMap.{State, entry}
use Rattle.mx_receipt.specs.Receipt.{Kept, current_state, forward_extremities, is_accepted, kept_at, rows_of, version_in}
use Rattle.mx_receipt.specs.declared.verdicts.Verdict.{Verdict}
use Rattle.mx_lines.specs.Contents.{content_members, hash_text}
use Rattle.mx_lines.specs.Lines.{line_of, present, text_array, text_or_null}
use Rattle.mx_lines.specs.RefusedLines.{membership_told}
use Rattle.mx_reasons.specs.Because.{because_text}
use Rattle.mx_reasons.specs.Facts.{fact_members}
use Rattle.mx_reasons.specs.JudgedView.{Judged}
use Rattle.mx_reasons.specs.Reasons.{reason_text}
use Rattle.mx_audit.specs.Reasons.{check_text, refusal_of, verdict_text}
use Rattle.mx_audit.specs.Told.{Told, told}
use Rattle.mx_audit.specs.declared.steps.ResolutionStep.{ResolutionStep}

-- the id of the event with a number, where it is there
abbrev pub id_of : List Kept → Option ℕ → Option (List ℕ)
id_of kept None = None
id_of kept (Some p) = if nat_lt p (length kept) then Some (row (rows_of kept) p).id else None

-- ---- what stands at a key of a state

abbrev pub entry_members : List Kept → Key → Option ℕ → List (List ℕ × Option Data)
entry_members kept key found =
    (codes "event_id", Some (text_or_null (id_of kept found))) ∷ (codes "state_key", Some (string key.1)) ∷ (codes "type", Some (string key.0)) ∷ []

abbrev pub entry_data : List Kept → Key → Option ℕ → Data
entry_data kept key found = object (present (entry_members kept key found))

-- a line for each entry of a state
abbrev pub state_line : List Kept → Key × ℕ → List ℕ
state_line kept e = line_of (entry_members kept e.0 (Some e.1))

abbrev pub state_text : List Kept → State → List ℕ
state_text kept = flat_map (state_line kept)

-- ---- an event

-- the event with a number, where it is there
abbrev pub standing : List Kept → Option ℕ → Option Event
standing kept None = None
standing kept (Some p) = if nat_lt p (length kept) then Some (event (rows_of kept) p) else None

-- what stood at a key, of what was asked
abbrev pub asked_at : List (Key × Option ℕ) → Key → Option ℕ
asked_at asked key = option_and_then (λ a. a.1) (find (λ a. same_key a.0 key) asked)

abbrev pub asked_in : Option Told → List (Key × Option ℕ)
asked_in None = []
asked_in (Some t) = t.asked

-- the event, with the create event and the power levels of the state that decided
abbrev pub judged_event : List Kept → ℕ → Option Told → Judged
judged_event kept p t = record {
  event = event (rows_of kept) p;
  sources = record {
    create = standing kept (asked_at (asked_in t) (codes "m.room.create", []));
    power = standing kept (asked_at (asked_in t) (codes "m.room.power_levels", []));
  };
}

-- what stood at a key, with what the rules read there
abbrev pub asked_members : List Kept → Judged → Key → Option ℕ → List (List ℕ × Option Data)
asked_members kept j key found =
    (codes "event_id", Some (text_or_null (id_of kept found)))
    ∷ (fact_members j key.0 (standing kept found) ++ ((codes "state_key", Some (string key.1)) ∷ (codes "type", Some (string key.0)) ∷ []))

abbrev pub asked_data : List Kept → Judged → Key → Option ℕ → Data
asked_data kept j key found = object (present (asked_members kept j key found))

abbrev pub asked_items : List Kept → Judged → List (Key × Option ℕ) → Items
asked_items kept j [] = no_items
asked_items kept j (a ∷ asked) = item (asked_data kept j a.0 a.1) (asked_items kept j asked)

-- what stood in the state that decided; nothing was asked of the create event
abbrev pub judged_by : List Kept → Judged → Option Told → Data
judged_by kept j t = array (asked_items kept j (asked_in t))

-- the check that decided, where one failed
abbrev pub failed_text : Option Told → Option (List ℕ)
failed_text t = option_map (λ f. check_text f.check) (option_and_then (λ u. u.failed) t)

-- why the rules do not allow the event, where they do not
abbrev pub because_told : Judged → Verdict → Option (List ℕ)
because_told j verdict = option_map (λ rule. because_text rule j.sources j.event) (refusal_of verdict)

-- the accepted redactions that name an id
abbrev pub redacted_by : List Kept → List ℕ → List (List ℕ)
redacted_by kept id =
    let rows = rows_of kept in
    map (λ p. (row rows p).id) (filter (λ p. is_accepted (kept_at kept p).verdict) (events_where rows (names_in_redaction rows id)))

-- the event stands in a state
abbrev pub stands_in : State → Event → ℕ → Bool
stands_in s e p =
    is_some_and (λ state_key. is_some_and (λ n. n == p) (entry s (kind e, state_key))) (state_key_of e)

-- what is of the event now
abbrev pub standing_members : List Kept → ℕ → List (List ℕ × Option Data)
standing_members kept p =
    (codes "in_current_state", Some (boolean (stands_in (current_state kept) (event (rows_of kept) p) p)))
    ∷ (codes "is_extremity", Some (boolean (is_in (forward_extremities kept) p))) ∷ []

-- the members before the content, behind the first one
abbrev pub head_members : Option (List ℕ) → Option (List ℕ) → List (List ℕ × Option Data)
head_members because failed = (codes "because", option_map string because) ∷ (codes "check", option_map string failed) ∷ []

-- those between the content and the standing
abbrev pub middle_members : Event → List ℕ → List (List ℕ × Option Data)
middle_members e id =
    (codes "content_hash", Some (string (hash_text (hash_holds e))))
    ∷ (codes "depth", Some (number (unsigned (depth_of e))))
    ∷ (codes "event_id", Some (string id)) ∷ []

-- those behind the entries, up to the redactions; the place is counted from 1
abbrev pub place_members : Event → ℕ → List (List ℕ) → List (List ℕ × Option Data)
place_members e p redactions =
    (codes "membership", option_map string (membership_told e))
    ∷ (codes "origin_server_ts", Some (number (of_integer (timestamp_of e))))
    ∷ (codes "place", Some (number (unsigned (suc p))))
    ∷ (codes "prev_events", Some (text_array (prev_ids e)))
    ∷ (codes "redacted_by", Some (text_array redactions)) ∷ []

-- the last ones
abbrev pub tail_members : Event → Verdict → RoomVersion → List (List ℕ × Option Data)
tail_members e verdict version =
    (codes "rule", option_map string (option_map label_text (refusal_of verdict)))
    ∷ (codes "sender", Some (string (sender_of e)))
    ∷ (codes "state_key", option_map string (state_key_of e))
    ∷ (codes "type", Some (string (kind e)))
    ∷ (codes "verdict", Some (string (verdict_text verdict)))
    ∷ (codes "version", Some (string (version_text version))) ∷ []

abbrev pub event_members : List Kept → ℕ → Option Told → List (List ℕ × Option Data)
event_members kept p t =
    let id = (row (rows_of kept) p).id in
    let j = judged_event kept p t in
    let e = j.event in
    let verdict = (kept_at kept p).verdict in
    (codes "auth_events", Some (text_array (auth_ids e)))
    ∷ (head_members (because_told j verdict) (failed_text t)
    ++ (content_members (is_state e) (content_of e)
    ++ (middle_members e id
    ++ (standing_members kept p
    ++ ((codes "judged_by", Some (judged_by kept j t))
    ∷ (place_members e p (redacted_by kept id)
    ++ tail_members e verdict (version_in (rows_of kept))))))))

-- the line of an event
unfoldable pub event_text : List Kept → ℕ → List ℕ
event_text kept p = line_of (event_members kept p (told kept p))

-- ---- a resolution

-- a line for each entry in conflict of the state at a place
abbrev pub conflict_line : List Kept → ℕ → Key × ℕ → List ℕ
conflict_line kept place e = line_of ((codes "conflicted", Some (number (unsigned place))) ∷ entry_members kept e.0 (Some e.1))

abbrev pub conflict_text : List Kept → ℕ → State → List ℕ
conflict_text kept place = flat_map (conflict_line kept place)

-- those of the states from a place on
abbrev pub conflicts_text : List Kept → ℕ → List State → List ℕ
conflicts_text kept place [] = []
conflicts_text kept place (s ∷ states) = conflict_text kept place s ++ conflicts_text kept (suc place) states

-- the line of the check of an event, in one of the two orders
abbrev pub step_text : List Kept → List ℕ → ResolutionStep → List ℕ
step_text kept order step = line_of (
    (codes "allowed", Some (boolean (is_none step.refusal)))
    ∷ (codes "because", option_map string (option_map reason_text step.refusal))
    ∷ (codes "event_id", Some (text_or_null (id_of kept (Some step.event))))
    ∷ (codes "order", Some (string order))
    ∷ (codes "rule", option_map string (option_map label_text step.refusal)) ∷ [])

-- the entries in conflict of each state, and the checks of the power events and of the others
unfoldable pub resolution_text : List Kept → List State → List ResolutionStep → List ResolutionStep → List ℕ
resolution_text kept conflicted power others =
    conflicts_text kept 0 conflicted ++ (flat_map (step_text kept (codes "power")) power ++ flat_map (step_text kept (codes "mainline")) others)
