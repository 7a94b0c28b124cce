-- The Authorization header of a request (Matrix specification, Server-Server API, request authentication). Signatures
-- are not looked at: whoever stands in front has judged them.
use Rattle.std.specs.Prelude.{ℕ, ◌==◌, Bool, true, false, not, ◌&&◌, ◌||◌, if◌then◌else◌, List, [], ◌∷◌, ◌++◌, bytes_eq, codes, fold, Option, Some, None, option_and_then, Result, Ok, Err}
use Rattle.std.specs.List.{list_any, before_first, after_first}
use Rattle.std.specs.Str.{str_eq_ignore_ascii_case}
use Rattle.mx_ident.specs.Identifier.{is_server_name}
use Rattle.mx_requests.specs.declared.authorization.HeaderState.{HeaderState}
use Rattle.mx_requests.specs.declared.authorization.HeaderState.TheVariants.{BeforeName, InName, BeforeValue, InValue, InQuotes, AfterBackslash, AfterQuote, AfterSpaces, Outside}
use Rattle.mx_requests.specs.declared.authorization.HeaderAction.{HeaderAction}
use Rattle.mx_requests.specs.declared.authorization.HeaderAction.TheVariants.{Move, AddToName, AddToValue, EndPart}
use Rattle.mx_requests.specs.declared.faults.Fault.{Fault}
use Rattle.mx_requests.specs.declared.faults.Fault.TheVariants.{NoOrigin, WrongDestination}

-- one `name=value`
pub record PartView : Type 0 where
  pub name : List ℕ
  pub value : List ℕ

-- the parts before the one that is being read, the place in it, and its name and value as far as they are read
pub record Reading : Type 0 where
  pub parts : List PartView
  pub place : HeaderState
  pub name : List ℕ
  pub value : List ℕ

abbrev pub start : Reading
start = record { parts = []; place = BeforeName; name = []; value = [] }

abbrev pub space : ℕ
space = 32

abbrev pub quote : ℕ
quote = 34

abbrev pub comma : ℕ
comma = 44

abbrev pub equals_sign : ℕ
equals_sign = 61

abbrev pub backslash : ℕ
backslash = 92

abbrev pub ends_name : ℕ → Bool
ends_name c = c == equals_sign || c == comma || c == space || c == quote

-- a character after a whole value
abbrev pub after_value : ℕ → HeaderAction
after_value c = if c == comma then EndPart else (if c == space then Move AfterSpaces else Move Outside)

-- what a character does at a place
abbrev pub step : HeaderState → ℕ → HeaderAction
step BeforeName c = if c == space then Move BeforeName else (if ends_name c then Move Outside else AddToName)
step InName c = if c == equals_sign then Move BeforeValue else (if ends_name c then Move Outside else AddToName)
step BeforeValue c =
    if c == comma then EndPart
    else (if c == quote then Move InQuotes else (if c == space then Move Outside else AddToValue InValue))
step InValue c = if c == comma || c == space then after_value c else AddToValue InValue
step InQuotes c =
    if c == quote then Move AfterQuote else (if c == backslash then Move AfterBackslash else AddToValue InQuotes)
step AfterBackslash c = AddToValue InQuotes
step AfterQuote c = after_value c
step AfterSpaces c = after_value c
step Outside c = Move Outside

-- the part that is being read
abbrev pub last_part : Reading → PartView
last_part r = record { name = r.name; value = r.value }

-- a reading after a step on these bytes
abbrev pub stepped : HeaderAction → Reading → List ℕ → Reading
stepped (Move place) r bytes = record r { place = place }
stepped AddToName r bytes = record r { place = InName; name = r.name ++ bytes }
stepped (AddToValue place) r bytes = record r { place = place; value = r.value ++ bytes }
stepped EndPart r bytes = record { parts = r.parts ++ last_part r ∷ []; place = BeforeName; name = []; value = [] }

-- one more byte
abbrev pub feed : Reading → ℕ → Reading
feed r c = stepped (step r.place c) r (c ∷ [])

-- whether a value is whole, so that the header may end here
abbrev pub is_whole : HeaderState → Bool
is_whole BeforeValue = true
is_whole InValue = true
is_whole AfterQuote = true
is_whole _ = false

abbrev pub finish : Reading → Option (List PartView)
finish r = if is_whole r.place then Some (r.parts ++ last_part r ∷ []) else None

-- the parts between the commas
abbrev pub parts_of : List ℕ → Option (List PartView)
parts_of s = finish (fold feed start s)

abbrev pub is_tab : ℕ → Bool
is_tab c = c == 9

abbrev pub is_space : ℕ → Bool
is_space c = c == space

-- `X-Matrix` in any case, and a space; more spaces are read as those before a name
abbrev pub has_scheme : List ℕ → Bool
has_scheme header =
    list_any is_space header && str_eq_ignore_ascii_case (before_first is_space header) (codes "X-Matrix")

-- the parts of a header of this form
abbrev pub header_parts : List ℕ → Option (List PartView)
header_parts header =
    if has_scheme header && not (list_any is_tab header) then parts_of (after_first is_space header) else None

-- the value of the first part with a name, in any case
abbrev pub part_named : List ℕ → List PartView → Option (List ℕ)
part_named name [] = None
part_named name (p ∷ ps) = if str_eq_ignore_ascii_case p.name name then Some p.value else part_named name ps

-- a destination, if there is one, is this server
abbrev pub is_for : List ℕ → Option (List ℕ) → Bool
is_for server None = true
is_for server (Some destination) = bytes_eq destination server

abbrev pub origin_by : Option (List ℕ) → Bool → Result (List ℕ) Fault
origin_by None for_us = Err NoOrigin
origin_by (Some origin) for_us =
    if not (is_server_name origin) then Err NoOrigin else (if for_us then Ok origin else Err WrongDestination)

abbrev pub origin_in : List ℕ → Option (List PartView) → Result (List ℕ) Fault
origin_in server None = Err NoOrigin
origin_in server (Some parts) =
    origin_by (part_named (codes "origin") parts) (is_for server (part_named (codes "destination") parts))

-- the server that a request comes from
unfoldable pub origin_of : List ℕ → Option (List ℕ) → Result (List ℕ) Fault
origin_of server authorization = origin_in server (option_and_then header_parts authorization)
