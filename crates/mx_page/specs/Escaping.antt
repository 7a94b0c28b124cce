-- JSON that stands within a script of HTML (HTML Standard, 13.2.5 Tokenization: only `<` ends a script's text).
use Rattle.std.specs.Prelude.{ℕ, ◌==◌, if◌then◌else◌, List, [], ◌∷◌, codes, flat_map}

abbrev pub escaped_byte : ℕ → List ℕ
escaped_byte b = if b == 60 then codes "\\u003c" else b ∷ []

-- `<` stands in JSON only within strings, where `\u003c` reads as it
abbrev pub escaped : List ℕ → List ℕ
escaped text = flat_map escaped_byte text
