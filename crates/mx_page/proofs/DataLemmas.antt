-- The data of a page, entry by entry.
use Rattle.std.proofs.Common.{◌≡◌, ◌++◌, ℕ, zero, suc, Bool, true, false, List, [], ◌∷◌, length, refl, ap, ap₂, ◌∙◌}
use Rattle.std.proofs.lemmas.Grind.{flat_map-append}
use Rattle.std.specs.Str.{chars}
use Rattle.mx_receipt.specs.Receipt.{Kept}
use Rattle.mx_page.specs.Escaping.{escaped, escaped_byte}
use Rattle.mx_page.specs.Page.{data_end, data_start, data_text, entries_text, entry_text, escaped_entries, escaped_refused, refused_entries, refused_entry, refused_start}

first-entries : (kept : List Kept) (n : ℕ) → escaped (entries_text kept n) ≡ escaped_entries kept n
first-entries kept zero = refl
first-entries kept (suc n) = flat_map-append escaped_byte (entries_text kept n) (entry_text kept n) ∙ ap (λ t. t ++ escaped (entry_text kept n)) (first-entries kept n)

refused-lines : (later : Bool) (lines : List (List ℕ)) → escaped (refused_entries later lines) ≡ escaped_refused later lines
refused-lines later [] = refl
refused-lines later (line ∷ lines) =
    flat_map-append escaped_byte (refused_entry later line) (refused_entries true lines) ∙ ap (λ t. escaped (refused_entry later line) ++ t) (refused-lines true lines)

-- four pieces and an end
five : (a b c d e : List ℕ) → escaped (a ++ (b ++ (c ++ (d ++ e)))) ≡ escaped a ++ (escaped b ++ (escaped c ++ (escaped d ++ escaped e)))
five a b c d e =
    flat_map-append escaped_byte a (b ++ (c ++ (d ++ e)))
    ∙ ap (λ t. escaped a ++ t) (flat_map-append escaped_byte b (c ++ (d ++ e))
    ∙ ap (λ t. escaped b ++ t) (flat_map-append escaped_byte c (d ++ e) ∙ ap (λ t. escaped c ++ t) (flat_map-append escaped_byte d e)))

pub data-is : (room : List ℕ) (kept : List Kept) (refused : List (List ℕ)) → escaped (data_text room kept refused)
    ≡ escaped (data_start room) ++ (escaped_entries kept (length kept) ++ (refused_start ++ (escaped_refused false refused ++ data_end)))
unfolding data_text chars
data-is room kept refused =
    five (data_start room) (entries_text kept (length kept)) refused_start (refused_entries false refused) data_end
    ∙ ap₂ (λ es rs. escaped (data_start room) ++ (es ++ (refused_start ++ (rs ++ data_end)))) (first-entries kept (length kept)) (refused-lines false refused)
