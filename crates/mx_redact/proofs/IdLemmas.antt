-- The text of a reference hash is that of an event id.
use Rattle.std.proofs.Common.{◌≡◌, ℕ, List, ◌∷◌, length, refl, ap, ◌∙◌, append-nil, arith}
use Rattle.std.specs.Prelude.{None}
use Rattle.std.specs.Str.{IsUtf8}
use Rattle.std.proofs.lemmas.Str.{IsUtf8-from_ascii}
use Rattle.std.proofs.lemmas.Str.Ascii.{IsAscii-cons}
use Rattle.base64.specs.GeneralPurpose.{encode_of, engine_symbols}
use Rattle.base64.specs.Engines.{url_safe_no_pad}
use Rattle.base64.specs.Rfc4648.{unpadded_len, encode_symbols}
use Rattle.base64.proofs.EngineFacts.{IsAscii-encode_of}
use Rattle.base64.proofs.RoundTrip.{length-encode_symbols}
use Rattle.mx_ident.specs.Identifier.{event_id_error}

length-encode_of : (m : List ℕ) → length m ≡ 32 → length (encode_of url_safe_no_pad m) ≡ 43
length-encode_of m e = ap length (append-nil (encode_symbols (engine_symbols url_safe_no_pad) m)) ∙ length-encode_symbols (engine_symbols url_safe_no_pad) m ∙ ap unpadded_len e

pub event_id_error-encode_of : (m : List ℕ) → length m ≡ 32 → event_id_error (36 ∷ encode_of url_safe_no_pad m) ≡ None
event_id_error-encode_of m e = rw (length-encode_of m e) refl

pub utf8-encode_of : (m : List ℕ) → IsUtf8 (36 ∷ encode_of url_safe_no_pad m)
utf8-encode_of m = IsUtf8-from_ascii _ (IsAscii-cons 36 _ (omega arith) (IsAscii-encode_of url_safe_no_pad m))
