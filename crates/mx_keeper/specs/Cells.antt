-- What the cells of a table read as (our own).
use Rattle.std.specs.Prelude.{ℕ, pos, negsuc, ◌^◌, ◌==◌, if◌then◌else◌, nat_lt, List, Option, Some, None, option_and_then}
use Rattle.std.specs.Str.{is_utf8}
use Rattle.mx_auth.specs.Versions.{version_named}
use Rattle.mx_auth.specs.declared.versions.RoomVersion.{RoomVersion}
use Rattle.mx_ident.specs.Identifier.{is_room_id, is_server_name}
unfoldable pub use Rattle.mx_pdu.specs.EventTexts.{event_of_text}
use Rattle.sqlite.specs.Order.{Row, column}
use Rattle.sqlite.specs.declared.types.Value.{Value}
use Rattle.sqlite.specs.declared.types.Value.TheVariants.{Null, Int, Real, Text, Blob}

-- a number from 0 on
abbrev pub number_in : Value → Option ℕ
number_in Null = None
number_in (Int (pos n)) = Some n
number_in (Int (negsuc n)) = None
number_in (Real x) = None
number_in (Text t) = None
number_in (Blob b) = None

-- what a row reads as that has to have this place, which is its first cell
abbrev pub at_place : {A : Type 0} → ℕ → Row → Option A → Option A
at_place place v read = option_and_then (λ n. if n == place then read else None) (number_in (column v 0))

-- a number of 32 bits
abbrev pub caller_in : Value → Option ℕ
caller_in v = option_and_then (λ n. if nat_lt n (2 ^ 32) then Some n else None) (number_in v)

abbrev pub text_in : Value → Option (List ℕ)
text_in Null = None
text_in (Int n) = None
text_in (Real x) = None
text_in (Text t) = if is_utf8 t then Some t else None
text_in (Blob b) = None

abbrev pub room_of_text : List ℕ → Option (List ℕ)
room_of_text t = if is_room_id t then Some t else None

abbrev pub version_of_text : List ℕ → Option RoomVersion
version_of_text t = version_named (Some t)

abbrev pub server_of_text : List ℕ → Option (List ℕ)
server_of_text t = if is_server_name t then Some t else None
