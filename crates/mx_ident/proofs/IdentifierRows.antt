-- Worked examples of identifiers. Each computes.
use Rattle.std.specs.Prelude.{◌≡◌, refl, ◌++◌, codes, true, false, Some, None, replicate}
use Rattle.mx_ident.specs.Identifier.{user_id_error, room_id_error, event_id_error, server_name_error, host, is_ip_literal, server_of}
use Rattle.mx_ident.specs.declared.refusals.NotAnId.TheVariants.{NoSigil, NoColon, EmptyServer, NothingAfterSigil, TooLong}

pub id_error-user : user_id_error (codes "@a:a.example") ≡ None
id_error-user = refl

pub id_error-user_empty_local : user_id_error (codes "@:a") ≡ None
id_error-user_empty_local = refl

pub id_error-user_port : user_id_error (codes "@a:b:80") ≡ None
id_error-user_port = refl

pub id_error-user_sigil : user_id_error (codes "a:b") ≡ Some NoSigil
id_error-user_sigil = refl

pub id_error-user_empty : user_id_error (codes "") ≡ Some NoSigil
id_error-user_empty = refl

pub id_error-user_colon : user_id_error (codes "@a") ≡ Some NoColon
id_error-user_colon = refl

pub id_error-user_server : user_id_error (codes "@a:") ≡ Some EmptyServer
id_error-user_server = refl

pub id_error-room : room_id_error (codes "!r:a.example") ≡ None
id_error-room = refl

pub id_error-room_sigil : room_id_error (codes "@r:a.example") ≡ Some NoSigil
id_error-room_sigil = refl

pub id_error-event : event_id_error (codes "$1") ≡ None
id_error-event = refl

pub id_error-event_bare : event_id_error (codes "$") ≡ Some NothingAfterSigil
id_error-event_bare = refl

pub id_error-event_sigil : event_id_error (codes "1") ≡ Some NoSigil
id_error-event_sigil = refl

pub id_error-server : server_name_error (codes "a.example") ≡ None
id_error-server = refl

pub id_error-server_empty : server_name_error (codes "") ≡ Some EmptyServer
id_error-server_empty = refl

pub id_error-user_long : user_id_error (codes "@a:" ++ replicate 253 98) ≡ Some TooLong
id_error-user_long = refl

pub id_error-user_255 : user_id_error (codes "@a:" ++ replicate 252 98) ≡ None
id_error-user_255 = refl

pub id_error-event_long : event_id_error (codes "$" ++ replicate 255 98) ≡ Some TooLong
id_error-event_long = refl

pub host-plain : host (codes "a.example") ≡ codes "a.example"
host-plain = refl

pub host-port : host (codes "A.EVIL.example:8448") ≡ codes "A.EVIL.example"
host-port = refl

pub host-five : host (codes "a:12345") ≡ codes "a"
host-five = refl

pub host-six : host (codes "a:123456") ≡ codes "a:123456"
host-six = refl

pub host-no_digits : host (codes "a:") ≡ codes "a:"
host-no_digits = refl

pub host-all_digits : host (codes "12345") ≡ codes "12345"
host-all_digits = refl

pub host-bracket : host (codes "[::1]:80") ≡ codes "[::1]"
host-bracket = refl

pub host-open : host (codes "[::1") ≡ codes "[:"
host-open = refl

pub host-bracket_only : host (codes "[::1]") ≡ codes "[::1]"
host-bracket_only = refl

pub host-after_bracket : host (codes "[::1]x]") ≡ codes "[::1]"
host-after_bracket = refl

pub host-two_ports : host (codes "a:1:2") ≡ codes "a:1"
host-two_ports = refl

pub ip-four : is_ip_literal (codes "1.2.3.4") ≡ true
ip-four = refl

pub ip-port : is_ip_literal (codes "1.2.3.4:80") ≡ true
ip-port = refl

pub ip-bracket : is_ip_literal (codes "[::1]:80") ≡ true
ip-bracket = refl

pub ip-name : is_ip_literal (codes "evil.example") ≡ false
ip-name = refl

pub ip-largest : is_ip_literal (codes "255.255.255.255") ≡ true
ip-largest = refl

pub ip-large : is_ip_literal (codes "1.2.3.256") ≡ false
ip-large = refl

pub ip-three : is_ip_literal (codes "1.2.3") ≡ false
ip-three = refl

pub ip-five : is_ip_literal (codes "1.2.3.4.5") ≡ false
ip-five = refl

pub ip-empty : is_ip_literal (codes "1..3.4") ≡ false
ip-empty = refl

pub ip-long : is_ip_literal (codes "1.2.3.0004") ≡ false
ip-long = refl

pub ip-zeros : is_ip_literal (codes "001.2.3.4") ≡ true
ip-zeros = refl

pub ip-plain : is_ip_literal (codes "a.example") ≡ false
ip-plain = refl

pub ip-name_port : is_ip_literal (codes "A.EVIL.example:8448") ≡ false
ip-name_port = refl

pub ip-name_five : is_ip_literal (codes "a:12345") ≡ false
ip-name_five = refl

pub ip-six : is_ip_literal (codes "a:123456") ≡ false
ip-six = refl

pub ip-no_digits : is_ip_literal (codes "a:") ≡ false
ip-no_digits = refl

pub ip-all_digits : is_ip_literal (codes "12345") ≡ false
ip-all_digits = refl

pub ip-two_ports : is_ip_literal (codes "a:1:2") ≡ false
ip-two_ports = refl

pub ip-open : is_ip_literal (codes "[::1") ≡ true
ip-open = refl

pub ip-after_bracket : is_ip_literal (codes "[::1]x]") ≡ true
ip-after_bracket = refl

pub host-four : host (codes "1.2.3.4") ≡ codes "1.2.3.4"
host-four = refl

pub host-four_port : host (codes "1.2.3.4:80") ≡ codes "1.2.3.4"
host-four_port = refl

pub host-largest : host (codes "255.255.255.255") ≡ codes "255.255.255.255"
host-largest = refl

pub host-zeros : host (codes "001.2.3.4") ≡ codes "001.2.3.4"
host-zeros = refl

pub host-large : host (codes "1.2.3.256") ≡ codes "1.2.3.256"
host-large = refl

pub host-three : host (codes "1.2.3") ≡ codes "1.2.3"
host-three = refl

pub host-five_parts : host (codes "1.2.3.4.5") ≡ codes "1.2.3.4.5"
host-five_parts = refl

pub host-empty : host (codes "1..3.4") ≡ codes "1..3.4"
host-empty = refl

pub host-long : host (codes "1.2.3.0004") ≡ codes "1.2.3.0004"
host-long = refl

pub host-sign : host (codes "+1.2.3.4") ≡ codes "+1.2.3.4"
host-sign = refl

pub ip-sign : is_ip_literal (codes "+1.2.3.4") ≡ false
ip-sign = refl

-- the server of a room id stands after its first colon
pub server_of-port : server_of (codes "!r:a.example:8448") ≡ codes "a.example:8448"
server_of-port = refl

-- several faults at once: the first in the order is given

pub id_error-user_long_no_colon : user_id_error (codes "@" ++ replicate 300 98) ≡ Some NoColon
id_error-user_long_no_colon = refl

pub id_error-user_long_empty : user_id_error (codes "@" ++ replicate 300 98 ++ codes ":") ≡ Some EmptyServer
id_error-user_long_empty = refl

pub id_error-room_long : room_id_error (codes "!" ++ replicate 253 98 ++ codes ":a") ≡ Some TooLong
id_error-room_long = refl

pub id_error-event_255 : event_id_error (codes "$" ++ replicate 254 98) ≡ None
id_error-event_255 = refl

pub id_error-server_long : server_name_error (replicate 256 98) ≡ Some TooLong
id_error-server_long = refl

pub id_error-server_255 : server_name_error (replicate 255 98) ≡ None
id_error-server_255 = refl
