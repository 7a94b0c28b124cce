-- Replies, as hyper sends them (RFC 9110, sections 8.3, 10.2.1 and 15; RFC 9112, section 9.6).
use Rattle.std.specs.Prelude.{◌≡◌, ℕ, Bool, true, false, nat_le, nat_lt, ◌&&◌, ◌⊎◌, if◌then◌else◌, List, [], ◌∷◌, ◌++◌, codes, string_bytes, Option, Some, None, option_map, unwrap_or, Result, Ok}
use Rattle.std.specs.declared.convert.Infallible.{Infallible}
use Rattle.futures.specs.Runs.{Runs}
use Rattle.http_body.specs.declared.frame.Frame.{Frame}
use Rattle.http_body.specs.Frame.{data_frame}
use Rattle.http_header.specs.FieldValue.{FieldValue, IsFieldValue, plain_value}
use Rattle.http_header.specs.HeaderMap.{Entries, insert}
use Rattle.http.specs.declared.response.Response.{Response}
use Rattle.http.specs.Response.{head_of, body_of}
use Rattle.mx_http.specs.declared.messages.HttpReply.{HttpReply}
use Rattle.mx_http.specs.declared.memory.replies.ReplyBody.{ReplyBody}

-- the status of a reply; 500 where its number is no status
abbrev pub sent_status : ℕ → ℕ
sent_status number = if nat_le 100 number && nat_lt number 1000 then number else 500

-- the field that says of what kind a body is
abbrev pub kind_field : Entries FieldValue
kind_field = insert [] (codes "content-type") (plain_value (codes "application/json"))

-- the fields of each response, and whether its connection is closed behind it
abbrev pub first_fields : Bool → Entries FieldValue
first_fields false = kind_field
first_fields true = insert kind_field (codes "connection") (plain_value (codes "close"))

-- the fields with the method that the target has; one that no field may have as its value is not told
abbrev pub TellsAllowed : Entries FieldValue → Option (List ℕ) → Entries FieldValue → Type 0
TellsAllowed old None new = new ≡ old
TellsAllowed old (Some method) new =
    (new ≡ insert old (codes "allow") (plain_value method)) ⊎ (¬ (IsFieldValue method) × (new ≡ old))

-- the bytes that are left of what is handed over
abbrev pub bytes_left : {D : Type 0} → (D → List ℕ) → Option D → List ℕ
bytes_left unread rest = unwrap_or (option_map unread rest) []

-- the data of the frames, in their order, is these bytes, and then it ends
abbrev pub GivesBytes : {D : Type 0} → (D → List ℕ) → List ℕ → Runs (Result (Frame D) Infallible)
GivesBytes unread bytes [] None = bytes ≡ []
GivesBytes {D} unread bytes [] (Some given) =
    (piece : D) × (behind : List ℕ) × (given ≡ Ok (data_frame piece)) × (bytes ≡ unread piece ++ behind)
GivesBytes {D} unread bytes (given ∷ later) last =
    (piece : D) × (behind : List ℕ) × (given ≡ Ok (data_frame piece)) × (bytes ≡ unread piece ++ behind)
    × GivesBytes unread behind later last

-- the response with this reply, whole, behind which its connection is closed or not
pub record IsResponse (reply : HttpReply) (ends : Bool) (response : Response (ReplyBody (List ℕ))) : Type 0 where
  pub status : (head_of response).status ≡ sent_status reply.status
  pub fields : TellsAllowed (first_fields ends) (option_map string_bytes reply.allowed) (head_of response).headers
  pub body : bytes_left (λ bytes. bytes) (body_of response).rest ≡ reply.body

-- the response with this reply, whole
abbrev pub IsSent : HttpReply → Response (ReplyBody (List ℕ)) → Type 0
IsSent reply response = (ends : Bool) × IsResponse reply ends response
