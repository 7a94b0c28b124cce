-- Worked rows: lines as they are read, each computed. An event's id is not computed here, but handed in.
use Rattle.std.specs.Prelude.{◌≡◌, refl, ⊤, true, [], ◌∷◌, codes, map, None, Some}
use Prim.Native.String.{String}
use Rattle.serde_json.proofs.OnLiterals.{serde_json_on_literals}
use Rattle.mx_redact.specs.Fields.{Event}
use Rattle.mx_pdu.specs.Format.{format_error, is_well_formed}
use Rattle.mx_step_replies.specs.Steps.{open_step, next_step, close_step}
use Rattle.mx_log.specs.Lines.{Line, bad_line, malformed_host, step_line, call_line, read_line}
use Rattle.mx_pdu.specs.declared.offering.Offered.{Offered}
use Rattle.mx_requests.proofs.OnExamples.{wire_on_examples}

unfoldable pub lines_on_examples : ⊤
unfolding wire_on_examples serde_json_on_literals format_error is_well_formed read_line
lines_on_examples = tt

-- every event has the id $j, and is signed
abbrev as_j : Event → Offered
as_j e = record { pdu = e; id = codes "$j"; signed = true }

abbrev line : String → Line
line text = read_line as_j (codes text)

-- the keys come in any order, and of a key that is repeated the last value stands
go-on : map line (
    "{\"step\":\"next\",\"origin\":\"a.example\",\"txn\":\"1\"}"
    ∷ " {\"txn\":\"x\",\"origin\":\"a.example\",\"txn\":\"1\",\"step\":\"close\"} "
    ∷ [])
    ≡ step_line (next_step (record { origin = codes "a.example"; txn = codes "1" }))
    ∷ step_line (close_step (record { origin = codes "a.example"; txn = codes "1" }))
    ∷ []
unfolding lines_on_examples
go-on = refl

-- no JSON, a step that there is not, a key too many, a key that is missing, an origin that is no server name
no-form : map line (
    "{"
    ∷ "{\"step\":\"stop\"}"
    ∷ "{\"step\":\"next\",\"origin\":\"a.example\",\"txn\":\"1\",\"event\":{}}"
    ∷ "{\"step\":\"next\",\"origin\":\"a.example\"}"
    ∷ "{\"step\":\"close\",\"origin\":\"\",\"txn\":\"1\"}"
    ∷ [])
    ≡ bad_line ∷ bad_line ∷ bad_line ∷ bad_line ∷ bad_line ∷ []
unfolding lines_on_examples
no-form = refl

-- of the entries the malformed ones are left out; a malformed event that is to be hosted is told
malformed : map line (
    "{\"step\":\"open\",\"origin\":\"a.example\",\"txn\":\"1\",\"pdus\":[{},1]}"
    ∷ "{\"step\":\"host\",\"event\":{}}"
    ∷ [])
    ≡ step_line (open_step (record { origin = codes "a.example"; txn = codes "1" }) []) ∷ malformed_host ∷ []
unfolding lines_on_examples
malformed = refl

-- an absent body is empty; a moment is a whole number of milliseconds up to the latest
requests : map line (
    "{\"step\":\"call\",\"method\":\"GET\",\"target\":\"/x\",\"now\":5}"
    ∷ "{\"step\":\"call\",\"method\":\"PUT\",\"target\":\"/x\",\"now\":5,\"authorization\":\"a\",\"body\":\"{}\"}"
    ∷ "{\"step\":\"call\",\"method\":\"GET\",\"target\":\"/x\",\"now\":9007199254740992}"
    ∷ "{\"step\":\"call\",\"method\":\"GET\",\"target\":\"/x\",\"now\":5,\"body\":{}}"
    ∷ [])
    ≡ call_line 5 (record { method = codes "GET"; target = codes "/x"; authorization = None; body = [] })
    ∷ call_line 5 (record { method = codes "PUT"; target = codes "/x"; authorization = Some (codes "a"); body = codes "{}" })
    ∷ bad_line ∷ bad_line ∷ []
unfolding lines_on_examples
requests = refl
