-- Server names, and texts that are none by the grammar.
use Rattle.std.specs.Prelude.{◌≡◌, codes, true, false, refl}
use Rattle.mx_name_grammar.specs.NameGrammar.{is_in_grammar}

pub a_dns_name : is_in_grammar (codes "hub.example") ≡ true
a_dns_name = refl

pub with_a_port : is_in_grammar (codes "matrix.hub-1.example:8448") ≡ true
with_a_port = refl

pub an_ipv4_address : is_in_grammar (codes "192.0.2.1:1") ≡ true
an_ipv4_address = refl

pub an_ipv6_address : is_in_grammar (codes "[1234:5678::abcd]") ≡ true
an_ipv6_address = refl

pub an_ipv6_address_with_a_port : is_in_grammar (codes "[::1]:5678") ≡ true
an_ipv6_address_with_a_port = refl

pub a_url : is_in_grammar (codes "https://hub.example") ≡ false
a_url = refl

pub a_space : is_in_grammar (codes "a b") ≡ false
a_space = refl

pub a_port_of_eight_digits : is_in_grammar (codes "hub.example:84488448") ≡ false
a_port_of_eight_digits = refl

pub a_port_of_no_digit : is_in_grammar (codes "hub.example:") ≡ false
a_port_of_no_digit = refl

pub a_port_alone : is_in_grammar (codes ":8448") ≡ false
a_port_alone = refl

pub an_open_bracket : is_in_grammar (codes "[::1") ≡ false
an_open_bracket = refl

pub behind_a_bracket : is_in_grammar (codes "[::1]8448") ≡ false
behind_a_bracket = refl

pub an_address_of_one : is_in_grammar (codes "[:]") ≡ false
an_address_of_one = refl
