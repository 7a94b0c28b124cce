-- What a worked row unfolds to compute.
use Rattle.std.specs.Prelude.{⊤}
use Rattle.std.specs.Char.{encode_utf8}
use Rattle.std.specs.Str.{chars, is_utf8}
use Rattle.std.specs.Str.Lossy.{utf8_valid_len, utf8_error_len, utf8_lossy}
use Rattle.matchit.proofs.OnLiterals.{matchit_on_literals}
use Rattle.form_urlencoded.proofs.OnLiterals.{form_urlencoded_on_literals}
use Rattle.mx_canon.specs.Canonical.{canonical_text}
use Rattle.mx_requests.specs.Authorization.{origin_of}
use Rattle.mx_requests.specs.Targets.{table, route_of}

unfoldable pub wire_on_examples : ⊤
unfolding encode_utf8 chars is_utf8 utf8_valid_len utf8_error_len utf8_lossy matchit_on_literals form_urlencoded_on_literals canonical_text origin_of table route_of
wire_on_examples = tt
