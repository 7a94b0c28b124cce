-- Requests, as hyper gives them and as responders read them (RFC 9112, sections 3 and 6).
use Rattle.std.specs.Prelude.{◌≡◌, ℕ, Bool, false, not, List, [], map, codes, string_bytes, bytes_eq, Option, option_map, unwrap_or}
use Rattle.std.specs.Char.{to_ascii_lowercase}
use Rattle.std.specs.Global.{Vec}
use Rattle.http_header.specs.FieldValue.{FieldValue}
use Rattle.http_header.specs.HeaderMap.{Entries, get}
use Rattle.http_uri.specs.declared.uri.Uri.{Uri}
use Rattle.http_uri.specs.Grammar.{or_slash}
use Rattle.http_uri.specs.Uri.{uri_authority, uri_path_and_query}
use Rattle.http.specs.declared.request.Parts.{Parts}
use Rattle.mx_http.specs.declared.messages.HttpRequest.{HttpRequest}

-- the path and the query; of a target without a path, the host and the port
abbrev pub target_of : Uri → List ℕ
target_of uri = unwrap_or (option_map or_slash (uri_path_and_query uri)) (unwrap_or (uri_authority uri) [])

-- the bytes of the first field with this name
abbrev pub field_of : Entries FieldValue → List ℕ → Option (List ℕ)
field_of headers name = option_map (λ value. value.bytes) (get headers name)

-- the body comes in this transfer coding, which is another one than `chunked`
abbrev pub is_other_coding : Option (List ℕ) → Bool
is_other_coding coding = unwrap_or (option_map (λ name. not (bytes_eq (map to_ascii_lowercase name) (codes "chunked"))) coding) false

-- the request with this head and this body, whole
pub record IsRequest (head : Parts) (body : List ℕ) (request : HttpRequest) : Type 0 where
  pub method : string_bytes request.method ≡ head.method
  pub target : request.target.items ≡ target_of head.uri
  pub authorization : option_map (λ value. value.items) request.authorization ≡ field_of head.headers (codes "authorization")
  pub body_is : request.body.items ≡ body

-- the request with this body
abbrev pub with_body : HttpRequest → Vec ℕ → HttpRequest
with_body request body = record request { body = body }
