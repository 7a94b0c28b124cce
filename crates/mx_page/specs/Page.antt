-- The data of the page of a room (docs/AUDIT.md).
use Rattle.std.specs.Prelude.{ℕ, zero, suc, nat_lt, Bool, true, false, if◌then◌else◌, List, [], ◌∷◌, ◌++◌, codes, length, slice_get, Option, None, Some}
use Rattle.serde_json.specs.Data.{string}
use Rattle.mx_canon.specs.Canonical.{value_text}
use Rattle.mx_canon.specs.Pieces.{comma_if}
use Rattle.mx_graph.specs.Record.{event, prev_events}
use Rattle.mx_graph.specs.StateMap.{State}
use Rattle.mx_receipt.specs.Receipt.{Kept, rows_of, state_after, state_before, version_in}
use Rattle.mx_audit.specs.EventLines.{event_text, resolution_text}
use Rattle.mx_audit.specs.Resolutions.{states_before}
use Rattle.mx_audit.specs.Steps.{conflicted_entries, other_steps, power_steps}
use Rattle.mx_page.specs.Changes.{Change, changes}
use Rattle.mx_page.specs.EntryTexts.{entry_of, without_end}
use Rattle.mx_page.specs.Escaping.{escaped}

-- ---- an event

abbrev pub first_of : List ℕ → Option ℕ
first_of ps = slice_get ps 0

-- the prev events of an event that are known, in its order
abbrev pub prevs : List Kept → ℕ → List ℕ
prevs kept p = prev_events (rows_of kept) (event (rows_of kept) p)

-- the state that what is told of an event is a change of: that after its first prev event, and without one the empty state
abbrev pub base_state : List Kept → Option ℕ → State
base_state kept None = []
base_state kept (Some q) = state_after kept q

-- what differs between that state and the one before the event
unfoldable pub changes_before : List Kept → ℕ → List Change
changes_before kept p = changes (base_state kept (first_of (prevs kept p))) (state_before kept p)

-- what differs between the states before and after it
unfoldable pub changes_after : List Kept → ℕ → List Change
changes_after kept p = changes (state_before kept p) (state_after kept p)

-- the lines of the resolution of the states before an event
unfoldable pub resolution_lines : List Kept → ℕ → List ℕ
resolution_lines kept p =
    let rows = rows_of kept in
    let states = states_before kept p in
    resolution_text kept (conflicted_entries states) (power_steps (version_in rows) rows states) (other_steps (version_in rows) rows states)

-- an event with several prev events has one
abbrev pub resolution_of : List Kept → ℕ → Option (List ℕ)
resolution_of kept p = if nat_lt 1 (length (prevs kept p)) then Some (resolution_lines kept p) else None

-- the entry of an event, with a comma before each but the first
unfoldable pub entry_text : List Kept → ℕ → List ℕ
entry_text kept p =
    entry_of (nat_lt 0 p) (changes_after kept p) (first_of (prevs kept p)) (changes_before kept p) (event_text kept p) (resolution_of kept p)

-- ---- a room

-- the beginning, with the room's id, up to the first entry
abbrev pub data_start : List ℕ → List ℕ
data_start room = codes "{\"room\":" ++ (value_text (string room) ++ codes ",\"events\":[")

-- between the entries and the lines of events that were not kept
abbrev pub refused_start : List ℕ
refused_start = codes "],\"refused\":["

abbrev pub data_end : List ℕ
data_end = codes "]}"

-- the entries of its first events, so many
abbrev pub entries_text : List Kept → ℕ → List ℕ
entries_text kept zero = []
entries_text kept (suc n) = entries_text kept n ++ entry_text kept n

-- the line of an event that was not kept, with a comma before each but the first
abbrev pub refused_entry : Bool → List ℕ → List ℕ
refused_entry later line = comma_if later ++ (without_end line ++ codes "\n")

-- lines, the first of them later or not
abbrev pub refused_entries : Bool → List (List ℕ) → List ℕ
refused_entries later [] = []
refused_entries later (line ∷ lines) = refused_entry later line ++ refused_entries true lines

-- the data of a room, by its id, its record, and the lines of the events that were not kept
unfoldable pub data_text : List ℕ → List Kept → List (List ℕ) → List ℕ
data_text room kept refused =
    data_start room ++ (entries_text kept (length kept) ++ (refused_start ++ (refused_entries false refused ++ data_end)))

-- the same as they stand in the page
abbrev pub escaped_entries : List Kept → ℕ → List ℕ
escaped_entries kept zero = []
escaped_entries kept (suc n) = escaped_entries kept n ++ escaped (entry_text kept n)

abbrev pub escaped_refused : Bool → List (List ℕ) → List ℕ
escaped_refused later [] = []
escaped_refused later (line ∷ lines) = escaped (refused_entry later line) ++ escaped_refused true lines
