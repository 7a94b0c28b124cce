-- Worked rows: what parameters and bodies say, each computed.
use Rattle.std.specs.Prelude.{◌≡◌, refl, ⊤, ℕ, List, [], ◌∷◌, ◌++◌, codes, map, Ok, Err, replicate}
use Rattle.std.specs.List.{join_with_byte}
use Prim.Native.String.{String}
use Rattle.serde_json.proofs.OnLiterals.{serde_json_on_literals}
use Rattle.mx_pdu.specs.Format.{format_error, is_well_formed}
use Rattle.mx_redact.specs.Fields.{Event}
use Rattle.mx_requests.specs.declared.faults.Fault.TheVariants.{NotJson, WrongForm, Missing, Invalid}
use Rattle.mx_requests.specs.declared.faults.MissingParameter.TheVariants as missing
use Rattle.mx_requests.specs.declared.faults.InvalidPart.TheVariants as invalid
use Rattle.mx_requests.specs.Targets.{parameters}
use Rattle.mx_room.specs.declared.queries.Query.{Query}
use Rattle.mx_room.specs.declared.queries.Query.TheVariants as ask
use Rattle.mx_requests.specs.Requests.{Read, on_ok, ok_or_fault, body_value, events_in, missing_query, limit_parameter, v_parameters, event_id_parameter}
use Rattle.mx_requests.proofs.OnExamples.{wire_on_examples}

unfoldable pub bodies_on_examples : ⊤
unfolding wire_on_examples serde_json_on_literals format_error is_well_formed
bodies_on_examples = tt

-- ---- parameters

abbrev limit : String → Read ℕ
limit s = limit_parameter (parameters (codes s))

limits : map limit ("v=$1&limit=7" ∷ "limit=100&limit=7" ∷ "limit=00250" ∷ "limit=36893488147419103232" ∷ []) ≡ Ok 7 ∷ Ok 100 ∷ Ok 100 ∷ Ok 100 ∷ []
unfolding wire_on_examples
limits = refl

limits-wrong : map limit ("limit=" ∷ "limit=x" ∷ "limit=%2B1" ∷ "limit=1.0" ∷ "Limit=1" ∷ []) ≡ Err (Invalid invalid.Limit) ∷ Err (Invalid invalid.Limit) ∷ Err (Invalid invalid.Limit) ∷ Err (Invalid invalid.Limit) ∷ Err (Missing missing.Limit) ∷ []
unfolding wire_on_examples
limits-wrong = refl

abbrev from : String → Read (List (List ℕ))
from s = v_parameters (parameters (codes s))

starts : map from ("limit=x" ∷ "v=$1&v=x" ∷ "v=$1&limit=x&v=%242" ∷ []) ≡ Err (Missing missing.V) ∷ Err (Invalid invalid.EventId) ∷ Ok (codes "$1" ∷ codes "$2" ∷ []) ∷ []
unfolding wire_on_examples
starts = refl

abbrev of_event : String → Read (List ℕ)
of_event s = event_id_parameter (parameters (codes s))

events-named : map of_event ("" ∷ "event_id=x&event_id=$1" ∷ "event_id=$1&event_id=x" ∷ []) ≡ Err (Missing missing.EventId) ∷ Err (Invalid invalid.EventId) ∷ Ok (codes "$1") ∷ []
unfolding wire_on_examples
events-named = refl

-- ---- the body of a transaction

abbrev sent : List ℕ → Read (List Event)
sent body = on_ok (body_value body) (λ d. ok_or_fault WrongForm (events_in d))

abbrev entries : ℕ → List ℕ
entries n = join_with_byte 44 (replicate n (codes "{}"))

abbrev with_pdus : ℕ → List ℕ
with_pdus n = codes "{\"pdus\":[" ++ (entries n ++ codes "]}")

abbrev with_edus : ℕ → List ℕ
with_edus n = codes "{\"edus\":[" ++ (entries n ++ codes "],\"pdus\":[]}")

sent-most : map sent (with_pdus 50 ∷ with_edus 100 ∷ []) ≡ replicate 2 (Ok [])
unfolding bodies_on_examples
sent-most = refl

sent-too_many : map sent (with_pdus 51 ∷ with_edus 101 ∷ []) ≡ replicate 2 (Err WrongForm)
unfolding bodies_on_examples
sent-too_many = refl

sent-forms : map (λ s. sent (codes s)) ("{\"pdus\":[],\"x\":1.5}" ∷ "{\"pdus\":[1,\"e\",null],\"edus\":[7]}" ∷ "{\"pdus\":[],\"edus\":null}" ∷ "{\"edus\":[]}" ∷ "[]" ∷ "{\"pdus\":{}}" ∷ "" ∷ "{\"pdus\":[]" ∷ [])
    ≡ Ok [] ∷ Ok [] ∷ Err WrongForm ∷ Err WrongForm ∷ Err WrongForm ∷ Err WrongForm ∷ Err NotJson ∷ Err NotJson ∷ []
unfolding bodies_on_examples
sent-forms = refl

-- the byte FF, in a string
sent-not_utf8 : sent (codes "{\"pdus\":[],\"x\":\"" ++ (255 ∷ codes "\"}")) ≡ Err NotJson
unfolding bodies_on_examples
sent-not_utf8 = refl

-- ---- the body of a query for missing events

abbrev asked : String → Read Query
asked body = on_ok (body_value (codes body)) (λ d. ok_or_fault WrongForm (missing_query (codes "!r:a") d))

abbrev asks : List (List ℕ) → List (List ℕ) → ℕ → ℕ → Read Query
asks earliest latest limit min_depth = Ok (ask.Missing (codes "!r:a") earliest latest limit min_depth)

missing-forms : map asked ("{}" ∷ "{\"earliest_events\":[\"$1\"],\"latest_events\":[\"$2\",\"$3\"],\"limit\":18446744073709551615,\"min_depth\":7,\"x\":1.5}" ∷ [])
    ≡ asks [] [] 10 0 ∷ asks (codes "$1" ∷ []) (codes "$2" ∷ codes "$3" ∷ []) 18446744073709551615 7 ∷ []
unfolding bodies_on_examples
missing-forms = refl

missing-wrong : map asked ("[]" ∷ "{\"limit\":5.0}" ∷ "{\"limit\":-1}" ∷ "{\"limit\":null}" ∷ "{\"min_depth\":\"1\"}" ∷ "{\"latest_events\":[\"1\"]}" ∷ "{\"earliest_events\":[1]}" ∷ "{\"earliest_events\":\"$1\"}" ∷ [])
    ≡ replicate 8 (Err WrongForm)
unfolding bodies_on_examples
missing-wrong = refl
