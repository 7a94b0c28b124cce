-- Requests to this server, as HTTP carries them (our own).
use Rattle.std.specs.Prelude.{◌≡◌, ◌⊎◌, ℕ, List, Err, Ok}
use Rattle.mx_http.specs.declared.messages.HttpRequest.{HttpRequest}
use Rattle.mx_http.specs.declared.messages.ReadRequest.{ReadRequest}
use Rattle.mx_http.specs.declared.messages.ReadRequest.TheVariants.{Refused, Asking}
use Rattle.mx_http.specs.declared.pool.claims.Claim.{Claim}
use Rattle.mx_http.specs.declared.pool.claims.Claim.TheVariants as claim
use Rattle.mx_http_requests.specs.Carried.{http_reply_shown, http_request_shown}
use Rattle.mx_requests.specs.Calls.{call_of}
use Rattle.mx_requests.specs.CallsShown.{call_shown}
use Rattle.mx_requests.specs.ReplyBodies.{Response, failure}
use Rattle.mx_requests.specs.declared.calls.WireCall.{WireCall}
use Rattle.mx_requests.specs.declared.faults.Fault.{Fault}
use Rattle.mx_requests.specs.declared.faults.Fault.TheVariants.{Memory}
use Rattle.mx_wire.specs.CallShards.{shards_of}
use Rattle.mx_wire.specs.declared.calls.CallShards.{CallShards}
use Rattle.mx_wire.specs.declared.calls.CallShards.TheVariants as to
use Rattle.mx_server.specs.Judging.{judges_presence}

-- the request asks the server with this name for this call
abbrev pub AsksFor : (server : List ℕ) → HttpRequest → WireCall → Type 0
AsksFor server request call = call_of judges_presence server (http_request_shown request) ≡ Ok (call_shown call)

-- the response tells the first fault of the request to the server with this name, or that no memory is left
abbrev pub TellsFault : (server : List ℕ) → HttpRequest → Response → Type 0
TellsFault server request response =
    ((fault : Fault) × ((call_of judges_presence server (http_request_shown request) ≡ Err fault) × (response ≡ failure fault)))
    ⊎ (response ≡ failure Memory)

-- what a call claims that goes to these shards
abbrev pub claim_on : CallShards → Claim
claim_on to.Nowhere = claim.Nothing
claim_on (to.Asks shard) = claim.Asks shard
claim_on (to.Changes shard) = claim.Changes shard
claim_on to.Several = claim.Several

-- what comes of a request to the server with this name and so many shards: what it asks for and claims, or the reply to its fault
abbrev pub IsRead : (server : List ℕ) → (shards : ℕ) → HttpRequest → ReadRequest WireCall → Type 0
IsRead server shards request (Refused reply) = TellsFault server request (http_reply_shown reply)
IsRead server shards request (Asking asked) =
    AsksFor server request asked.call × (asked.claim ≡ claim_on (shards_of shards (call_shown asked.call)))
