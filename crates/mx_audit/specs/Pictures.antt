-- A room as a graph, in the language of Graphviz (docs/AUDIT.md).
use Rattle.std.specs.Prelude.{ℕ, zero, suc, ◌==◌, ◌-◌, ◌&&◌, ◌||◌, nat_lt, Bool, if◌then◌else◌, List, [], ◌∷◌, ◌++◌, codes, drop, eqb, flat_map, decimal, length, slice_index_or, take}
use Rattle.std.specs.List.{starts_with}
use Rattle.mx_redact.specs.Fields.{kind}
use Rattle.mx_pdu.specs.Event.{sender_of}
use Rattle.mx_graph.specs.Record.{event, is_in, prev_events, row}
use Rattle.mx_receipt.specs.Receipt.{Kept, forward_extremities, kept_at, rows_of}
use Rattle.mx_audit.specs.Reasons.{colour_text}

-- how many characters of an id a box shows
abbrev pub short_id : ℕ
short_id = 9

-- the first of them
abbrev pub beginning : List ℕ → List ℕ
beginning id = take short_id id

-- a text begins with U+FFFE or U+FFFF, for which XML has no place (Extensible Markup Language 1.0, 2.2 Characters)
abbrev pub begins_noncharacter : List ℕ → Bool
begins_noncharacter text = starts_with eqb text (239 ∷ 191 ∷ 190 ∷ []) || starts_with eqb text (239 ∷ 191 ∷ 191 ∷ [])

-- the byte at a place of a text is the second or the third of such a character
abbrev pub continues_noncharacter : List ℕ → ℕ → Bool
continues_noncharacter text p = (nat_lt 0 p && begins_noncharacter (drop (p - 1) text)) || (nat_lt 1 p && begins_noncharacter (drop (p - 2) text))

-- in a label an ampersand begins an entity and stands as one itself, a quotation mark and a backslash have a backslash
-- before them, and a space stands for a control character
abbrev pub label_character : ℕ → List ℕ
label_character b =
    if b == 38 then codes "&amp;" else if b == 34 || b == 92 then 92 ∷ b ∷ [] else if nat_lt b 32 then 32 ∷ [] else b ∷ []

-- what stands in a label for the byte at a place of a text: a space for the whole of U+FFFE and of U+FFFF
abbrev pub label_at : List ℕ → ℕ → List ℕ
label_at text p =
    if begins_noncharacter (drop p text) then 32 ∷ [] else
    if continues_noncharacter text p then [] else label_character (slice_index_or text p 0)

-- the same for its first bytes, so many
abbrev pub label_first : List ℕ → ℕ → List ℕ
label_first text zero = []
label_first text (suc n) = label_first text n ++ label_at text n

abbrev pub label : List ℕ → List ℕ
label text = label_first text (length text)

-- a box with the event's type, its sender and the beginning of its id, with a double border where it is a forward extremity
abbrev pub box_text : List Kept → ℕ → List ℕ
box_text kept p =
    let e = event (rows_of kept) p in
    codes "  e" ++ (decimal p ++ (codes " [label=\"" ++ (label (kind e) ++ (codes "\\n" ++ (label (sender_of e) ++ (codes "\\n" ++ (label (beginning (row (rows_of kept) p).id)
    ++ (codes "\", fillcolor=\"" ++ (colour_text (kept_at kept p).verdict ++ (codes "\"" ++ ((if is_in (forward_extremities kept) p then codes ", peripheries=2" else []) ++ codes "];\n")))))))))))

abbrev pub arrow_text : ℕ → ℕ → List ℕ
arrow_text p q = codes "  e" ++ (decimal p ++ (codes " -> e" ++ (decimal q ++ codes ";\n")))

-- the box of an event, and an arrow to each of its prev events
unfoldable pub picture_text : List Kept → ℕ → List ℕ
picture_text kept p = box_text kept p ++ flat_map (arrow_text p) (prev_events (rows_of kept) (event (rows_of kept) p))

abbrev pub head_text : List ℕ
head_text = codes "digraph room {\n  node [shape=box, style=filled];\n"

abbrev pub end_text : List ℕ
end_text = codes "}\n"
