-- For proofs and private clauses alone.
-- A line as it is written, member by member.
use Rattle.std.specs.Prelude.{ℕ, List, [], ◌∷◌, ◌++◌, codes, Option, None, Some, true, false}
use Rattle.serde_json.specs.Data.{Data, string}
use Rattle.mx_canon.specs.Canonical.{value_text}
use Rattle.mx_redact.specs.Fields.{Event}
use Rattle.mx_pdu.specs.Event.{auth_ids}
use Rattle.mx_pdu.specs.StateKeys.{Key}
use Rattle.mx_lines.specs.Lines.{text_array}
use Rattle.mx_lines.specs.Written.{opened, with_members}
use Rattle.mx_audit.specs.EventLines.{head_members}

-- the beginning of an event's line, up to its content
abbrev pub head_written : List ℕ → Event → Option (List ℕ) → Option (List ℕ) → List ℕ
head_written taken e because failed = with_members (opened taken (codes "auth_events") ++ value_text (text_array (auth_ids e))) (head_members because failed)

-- the end of an entry
abbrev pub rest_written : List ℕ → Key → List ℕ
rest_written taken key = with_members taken ((codes "state_key", Some (string key.1)) ∷ (codes "type", Some (string key.0)) ∷ []) ++ codes "}"
