-- Identifiers as lists of bytes.
use Rattle.std.specs.Prelude.{ℕ, ◌+◌, ◌-◌, ◌*◌, ◌==◌, nat_le, nat_lt, Bool, false, not, ◌&&◌, ◌||◌, if◌then◌else◌, List, [], ◌∷◌, ◌++◌, length, fold, Option, Some, None, is_none}
use Rattle.std.specs.List.{list_any, list_all, before_first, after_first, before_last, after_last, onto_first}
use Rattle.std.specs.Char.{is_ascii_digit}
use Rattle.mx_ident.specs.declared.refusals.NotAnId.{NotAnId}
use Rattle.mx_ident.specs.declared.refusals.NotAnId.TheVariants.{NoSigil, NoColon, EmptyServer, NothingAfterSigil, TooLong}

abbrev pub is_colon : ℕ → Bool
is_colon c = c == 58

abbrev pub has_colon : List ℕ → Bool
has_colon s = list_any is_colon s

-- the server name of a user id or a room id: what stands after the first colon
abbrev pub server_of : List ℕ → List ℕ
server_of s = after_first is_colon s

abbrev pub begins_with : ℕ → List ℕ → Bool
begins_with c [] = false
begins_with c (x ∷ xs) = x == c

abbrev pub is_empty : List ℕ → Bool
is_empty s = length s == 0

-- the refusal of the first condition that holds
abbrev pub refuse_if : {E : Type 0} → Bool → E → Option E → Option E
refuse_if b error rest = if b then Some error else rest

-- Matrix specification, appendix Identifier Grammar: at most 255 bytes
abbrev pub length_error : List ℕ → Option NotAnId
length_error s = refuse_if (nat_lt 255 (length s)) TooLong None

-- Matrix specification, appendix Common Identifier Format: sigil, local part, colon, server name
abbrev pub common_error : ℕ → List ℕ → Option NotAnId
common_error sigil s =
    refuse_if (not (begins_with sigil s)) NoSigil
    (refuse_if (not (has_colon s)) NoColon
    (refuse_if (is_empty (server_of s)) EmptyServer (length_error s)))

-- Matrix specification, appendix User Identifiers: `@`
abbrev pub user_id_error : List ℕ → Option NotAnId
user_id_error s = common_error 64 s

-- Matrix specification, appendix Room IDs: `!`
abbrev pub room_id_error : List ℕ → Option NotAnId
room_id_error s = common_error 33 s

-- Matrix specification, appendix Event IDs: `$`, with no server name since room version 3
abbrev pub event_id_error : List ℕ → Option NotAnId
event_id_error s =
    refuse_if (not (begins_with 36 s)) NoSigil
    (refuse_if (length s == 1) NothingAfterSigil (length_error s))

-- Matrix specification, appendix Server Name
abbrev pub server_name_error : List ℕ → Option NotAnId
server_name_error s = refuse_if (is_empty s) EmptyServer (length_error s)

abbrev pub is_user_id : List ℕ → Bool
is_user_id s = is_none (user_id_error s)

abbrev pub is_room_id : List ℕ → Bool
is_room_id s = is_none (room_id_error s)

abbrev pub is_event_id : List ℕ → Bool
is_event_id s = is_none (event_id_error s)

abbrev pub is_server_name : List ℕ → Bool
is_server_name s = is_none (server_name_error s)

-- ---- the parts of a server name

-- so many decimal digits and nothing else
abbrev pub is_digits : ℕ → ℕ → List ℕ → Bool
is_digits low high s = nat_le low (length s) && nat_le (length s) high && list_all is_ascii_digit s

-- the value of decimal digits
abbrev pub decimal_value : List ℕ → ℕ
decimal_value s = fold (λ n c. n * 10 + (c - 48)) 0 s

abbrev pub is_closing : ℕ → Bool
is_closing c = c == 93

-- `[`, and a `]` somewhere
abbrev pub is_bracketed : List ℕ → Bool
is_bracketed s = begins_with 91 s && list_any is_closing s

-- up to and with the first `]`
abbrev pub through_bracket : List ℕ → List ℕ
through_bracket s = before_first is_closing s ++ 93 ∷ []

-- without a last colon that 1 to 5 digits follow
abbrev pub without_port : List ℕ → List ℕ
without_port s = if has_colon s && is_digits 1 5 (after_last is_colon s) then before_last is_colon s else s

-- Matrix specification, appendix Server Name: the host, without its port
abbrev pub host : List ℕ → List ℕ
host s = if is_bracketed s then through_bracket s else without_port s

-- the parts of a text between separators
abbrev pub parts : ℕ → List ℕ → List (List ℕ)
parts separator [] = [] ∷ []
parts separator (c ∷ cs) = if c == separator then [] ∷ parts separator cs else onto_first c (parts separator cs)

-- 1 to 3 digits, at most 255
abbrev pub is_octet : List ℕ → Bool
is_octet s = is_digits 1 3 s && nat_le (decimal_value s) 255

-- an IPv4 address in dotted decimal
abbrev pub is_ipv4 : List ℕ → Bool
is_ipv4 s = (length (parts 46 s) == 4) && list_all is_octet (parts 46 s)

-- Matrix specification, m.room.server_acl: whether a host is an IP literal
abbrev pub is_ip_host : List ℕ → Bool
is_ip_host s = begins_with 91 s || is_ipv4 s

-- whether a server name's host is one
abbrev pub is_ip_literal : List ℕ → Bool
is_ip_literal s = is_ip_host (host s)
