-- A request and what it asks for, in the program, as the definitions'.
use Rattle.std.specs.Prelude.{option_map, string_bytes}
use Rattle.mx_requests.specs.declared.requests.WireRequest.{WireRequest}
use Rattle.mx_requests.specs.declared.calls.WireCall.{WireCall}
use Rattle.mx_requests.specs.declared.calls.WireCall.TheVariants.{Sends, Asks, Joins}
use Rattle.mx_requests.specs.Calls.{Request, Call, sends, asks, joins}

abbrev pub request_shown : WireRequest → Request
request_shown r = record {
  method = string_bytes r.method;
  target = r.target.items;
  authorization = option_map (λ header. header.items) r.authorization;
  body = r.body.items;
}

abbrev pub call_shown : WireCall → Call
call_shown (Sends origin transaction events) = sends origin (string_bytes transaction) events.items
call_shown (Asks origin query) = asks origin query
call_shown (Joins origin event) = joins origin event
