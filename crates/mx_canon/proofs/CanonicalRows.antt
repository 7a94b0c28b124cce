-- Worked examples of canonical JSON: what a text is read as, its canonical text, and why it has none. Each computes.
use Rattle.std.specs.Prelude.{◌≡◌, refl, ⊤, ℕ, ◌++◌, List, [], ◌∷◌, codes, Option, Some, None, option_map, option_and_then}
use lib.Utf8.{encode}
use lib.Ieee.{round}
use Rattle.std.specs.Float.{float_is_finite}
use Rattle.std.specs.Str.{chars}
use Rattle.std.specs.Fmt.{digits}
use Rattle.std.specs.Float.Numeral.{scan_numeral}
use Rattle.json.specs.Lex.{lex, punctuate}
use Rattle.json.specs.Word.{word, after_number}
use Rattle.json.specs.Json.{items, members, value}
use Rattle.json.specs.Text.{content, code_unit, short_escape}
use Rattle.serde_json.specs.Read.{read, number_of}
use Rattle.mx_canon.specs.Canonical.{canonical_text, canonical_error}
use Rattle.mx_canon.specs.declared.checking.NotCanonical.{NotCanonical}
use Rattle.mx_canon.specs.declared.checking.NotCanonical.TheVariants.{Float, Range}

-- what is unfolded to compute them
unfoldable canonical_on_literals : ⊤
unfolding canonical_text lex word after_number punctuate items members value content code_unit short_escape encode chars number_of scan_numeral digits float_is_finite round
canonical_on_literals = tt

-- the canonical text of what a text is read as
abbrev text_of : List ℕ → Option (List ℕ)
text_of json = option_map canonical_text (read json)

-- the refusal of what a text is read as
abbrev error_of : List ℕ → Option NotCanonical
error_of json = option_and_then canonical_error (read json)

-- ---- texts

-- keys in order, a letter beyond ASCII as it is, escapes
text-escapes : text_of (codes "{\"b\":1,\"a\":\"" ++ 0xc3 ∷ 0xa9 ∷ codes "\\u0007\\n\"}")
    ≡ Some (0x7b ∷ 0x22 ∷ 0x61 ∷ 0x22 ∷ 0x3a ∷ 0x22 ∷ 0xc3 ∷ 0xa9 ∷ 0x5c ∷ 0x75 ∷ 0x30 ∷ 0x30 ∷ 0x30 ∷ 0x37 ∷ 0x5c ∷ 0x6e
    ∷ 0x22 ∷ 0x2c ∷ 0x22 ∷ 0x62 ∷ 0x22 ∷ 0x3a ∷ 0x31 ∷ 0x7d ∷ [])
unfolding canonical_on_literals
text-escapes = refl

-- by code points U+FF61 stands before U+10000
text-code_points : text_of (codes "{\"" ++ 0xf0 ∷ 0x90 ∷ 0x80 ∷ 0x80 ∷ codes "\":2,\"" ++ 0xef ∷ 0xbd ∷ 0xa1 ∷ codes "\":1}")
    ≡ Some (codes "{\"" ++ 0xef ∷ 0xbd ∷ 0xa1 ∷ codes "\":1,\"" ++ 0xf0 ∷ 0x90 ∷ 0x80 ∷ 0x80 ∷ codes "\":2}")
unfolding canonical_on_literals
text-code_points = refl

text-nested : text_of (codes "{\"b\":[1,{\"d\":null}],\"a\":\"c\"}") ≡ Some (codes "{\"a\":\"c\",\"b\":[1,{\"d\":null}]}")
unfolding canonical_on_literals
text-nested = refl

-- ---- numbers

text-largest : text_of (codes "9007199254740991") ≡ Some (codes "9007199254740991")
unfolding canonical_on_literals
text-largest = refl

error-largest : error_of (codes "9007199254740991") ≡ None
unfolding canonical_on_literals
error-largest = refl

text-smallest : text_of (codes "-9007199254740991") ≡ Some (codes "-9007199254740991")
unfolding canonical_on_literals
text-smallest = refl

error-smallest : error_of (codes "-9007199254740991") ≡ None
unfolding canonical_on_literals
error-smallest = refl

text-zero : text_of (codes "0") ≡ Some (codes "0")
unfolding canonical_on_literals
text-zero = refl

error-zero : error_of (codes "0") ≡ None
unfolding canonical_on_literals
error-zero = refl

error-above : error_of (codes "9007199254740992") ≡ Some Range
unfolding canonical_on_literals
error-above = refl

error-below : error_of (codes "-9007199254740992") ≡ Some Range
unfolding canonical_on_literals
error-below = refl

-- a float is told before an integer out of range
error-both : error_of (codes "[9007199254740992,1.0]") ≡ Some Float
unfolding canonical_on_literals
error-both = refl

error-point : error_of (codes "1.0") ≡ Some Float
unfolding canonical_on_literals
error-point = refl

error-exponent : error_of (codes "1e2") ≡ Some Float
unfolding canonical_on_literals
error-exponent = refl

error-minus_zero : error_of (codes "-0") ≡ Some Float
unfolding canonical_on_literals
error-minus_zero = refl
