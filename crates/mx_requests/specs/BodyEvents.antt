-- For proofs and private clauses alone.
-- The events that texts are JSON for, as they are offered.
use Rattle.std.specs.Prelude.{◌≡◌, ◌⊎◌, ℕ, List, Err, Ok, filter_map, map, Option, Some, None, option_and_then, option_map, if◌then◌else◌}
use Rattle.serde_json.specs.Data.{Data}
use Rattle.mx_redact.specs.Fields.{Event}
use Rattle.mx_pdu.specs.Format.{is_well_formed}
use Rattle.mx_pdu.specs.declared.offering.Offered.{Offered}
use Rattle.mx_requests.specs.declared.faults.Fault.{Fault}
use Rattle.mx_requests.specs.declared.faults.Fault.TheVariants.{Memory}
use Rattle.mx_requests.specs.Requests.{body_value, events_in, json_of}

-- none of a malformed event
abbrev pub offered_if_formed : (Event → Offered) → Data → Option Offered
offered_if_formed offer d = if is_well_formed d then Some (offer d) else None

abbrev pub offered_in : (Event → Offered) → List (List ℕ) → List Offered
offered_in offer texts = filter_map (λ text. option_and_then (offered_if_formed offer) (json_of text)) texts

-- a body is JSON for a transaction whose events are offered so; none where it is no transaction
abbrev pub AreEventsOf : (Event → Offered) → List ℕ → Option (List Offered) → Type 0
AreEventsOf offer body events = (d : Data) × (body_value body ≡ Ok d) × (events ≡ option_map (map offer) (events_in d))

-- a body is JSON for an event that is offered so; none where it is malformed
abbrev pub IsEventOf : (Event → Offered) → List ℕ → Option Offered → Type 0
IsEventOf offer body event = (d : Data) × (body_value body ≡ Ok d) × (event ≡ offered_if_formed offer d)

-- a body is refused for want of memory, or for what it is
abbrev pub IsFaultOf : List ℕ → Fault → Type 0
IsFaultOf body fault = (fault ≡ Memory) ⊎ (body_value body ≡ Err fault)
