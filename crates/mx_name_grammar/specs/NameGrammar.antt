-- Server names by the grammar of the Matrix specification, as lists of bytes.
use Rattle.std.specs.Prelude.{ℕ, ◌==◌, nat_le, Bool, true, false, ◌&&◌, ◌||◌, if◌then◌else◌, List, [], ◌∷◌, length}
use Rattle.std.specs.List.{list_any, list_all, before_first, after_first}
use Rattle.std.specs.Char.{is_ascii_hexdigit, is_ascii_alphanumeric}
use Rattle.mx_ident.specs.Identifier.{begins_with, is_closing, is_digits, host}

-- appendix Server Name: port, 1 to 5 digits
abbrev pub is_port : List ℕ → Bool
is_port s = is_digits 1 5 s

-- nothing, or a colon and a port
abbrev pub is_port_part : List ℕ → Bool
is_port_part [] = true
is_port_part (c ∷ cs) = (c == 58) && is_port cs

-- appendix Server Name: dns-char, a digit, a letter, `-` or `.`
abbrev pub is_dns_char : ℕ → Bool
is_dns_char c = is_ascii_alphanumeric c || (c == 45) || (c == 46)

-- appendix Server Name: dns-name, 1 to 255 of them; each IPv4address is one
abbrev pub is_dns_name : List ℕ → Bool
is_dns_name s = nat_le 1 (length s) && nat_le (length s) 255 && list_all is_dns_char s

-- appendix Server Name: IPv6char, a hexadecimal digit, `:` or `.`
abbrev pub is_address_char : ℕ → Bool
is_address_char c = is_ascii_hexdigit c || (c == 58) || (c == 46)

-- appendix Server Name: IPv6address, 2 to 45 of them
abbrev pub is_address : List ℕ → Bool
is_address s = nat_le 2 (length s) && nat_le (length s) 45 && list_all is_address_char s

-- an address behind its `[`
abbrev pub is_opened_address : List ℕ → Bool
is_opened_address [] = false
is_opened_address (c ∷ cs) = is_address cs

-- `[`, an IPv6address, `]`, and a port or nothing
abbrev pub is_literal : List ℕ → Bool
is_literal s = list_any is_closing s && (is_opened_address (before_first is_closing s) && is_port_part (after_first is_closing s))

-- appendix Server Name: server_name, whose host is a dns-name where it is no literal
abbrev pub is_in_grammar : List ℕ → Bool
is_in_grammar s = if begins_with 91 s then is_literal s else is_dns_name (host s)
