-- For proofs and private clauses alone.
-- Where a member of an object ends in the object's canonical text.
use Rattle.std.specs.Prelude.{ℕ, suc, ◌-◌, ◌==◌, Bool, true, false, ◌||◌, if◌then◌else◌, List, [], ◌∷◌, codes}
use Rattle.mx_lines.specs.declared.scanning.Scan.{Scan}

-- so deep in arrays and objects, and in no string
abbrev pub outside : ℕ → Scan
outside d = record { depth = d; is_inside = false; is_escaped = false }

-- in a string
abbrev pub inside : ℕ → Scan
inside d = record { depth = d; is_inside = true; is_escaped = false }

-- in a string, behind a backslash
abbrev pub escaping : ℕ → Scan
escaping d = record { depth = d; is_inside = true; is_escaped = true }

-- a byte of a string that is no character of it
abbrev pub is_mark : ℕ → Bool
is_mark b = b == 34 || b == 92

-- a byte between strings that is none of a number or a word
abbrev pub is_sign : ℕ → Bool
is_sign b = b == 34 || (b == 44 || (b == 91 || (b == 93 || (b == 123 || b == 125))))

-- the byte is behind a member
abbrev pub ends : Scan → ℕ → Bool
ends s b = if s.is_inside then false else (if b == 44 || b == 125 then s.depth == 0 else false)

abbrev pub next_inside : ℕ → ℕ → Scan
next_inside d b = if is_mark b then (if b == 92 then escaping d else outside d) else inside d

abbrev pub next_outside : ℕ → ℕ → Scan
next_outside d b =
    if is_sign b then (if b == 34 then inside d else (if b == 91 || b == 123 then outside (suc d) else (if b == 93 || b == 125 then outside (d - 1) else outside d)))
    else outside d

abbrev pub next : Scan → ℕ → Scan
next s b = if s.is_inside then (if s.is_escaped then inside s.depth else next_inside s.depth b) else next_outside s.depth b

-- what is left of a text behind the member that it begins with
abbrev pub left_from : Scan → List ℕ → List ℕ
left_from s [] = []
left_from s (b ∷ t) = if ends s b then b ∷ t else left_from (next s b) t

abbrev pub content_key : List ℕ
content_key = codes "\"content\":"
