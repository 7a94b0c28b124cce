-- The texts of an array's entries.
use Rattle.std.proofs.Common.{◌≡◌, ℕ, ◌<◌, ◌≤◌, nat_le, if◌then◌else◌, List, [], ◌∷◌, ◌++◌, length, Option, Some, None, option_map, option_and_then, refl, sym, ap, ◌∙◌, arith, append-nil}
use Rattle.std.proofs.lemmas.Bool.{lt-leb, le-leb}
use Rattle.std.proofs.lemmas.List.Elements.{filter_map-append}
use Rattle.std.specs.List.{cons_option}
use Rattle.json.specs.Token.{Token}
use Rattle.serde_json.specs.Data.{Data, array, Items}
use Rattle.serde_json.specs.Find.{as_array}
use Rattle.mx_redact.specs.Fields.{item_list}
use Rattle.mx_body.specs.Bodies.{entries_up_to, text_within, texts_within}
use Rattle.mx_body.specs.Pieces.{IsPieceOf, within}
use Rattle.mx_body.specs.Readable.{IsReadable}
use Rattle.mx_body.specs.Transactions.{AreEntries, ReadsEntries, entry_texts, listed}
use Rattle.mx_body.specs.declared.entries.Entries.{Entries}
use Rattle.mx_body.proofs.BodyLemmas.{piece-within}

one_listed : (o : Option (List ℕ)) → cons_option o [] ≡ listed o
one_listed None = refl
one_listed (Some t) = refl

pub one_more : (n : ℕ) (ds : List Data) (d : Data) (piece : Option (List ℕ)) → IsReadable d → IsPieceOf n d piece → texts_within n ds ++ listed (within n piece) ≡ texts_within n (ds ++ d ∷ [])
one_more n ds d piece r h =
    ap (λ o. texts_within n ds ++ listed o) (sym (piece-within n d piece r h)) ∙ ap (λ t. texts_within n ds ++ t) (sym (one_listed (text_within n d)))
    ∙ sym (filter_map-append (text_within n) ds (d ∷ []))

over : (most n : ℕ) (x : List Data) → most < length x → option_map (texts_within n) (if nat_le (length x) most then Some x else None) ≡ None
over most n x h = rw (lt-leb (length x) most h) refl

few : (most n : ℕ) (x : List Data) → length x ≤ most → option_map (texts_within n) (if nat_le (length x) most then Some x else None) ≡ Some (texts_within n x)
few most n x h = rw (le-leb (length x) most h) refl

-- after the last entry
pub entries_are : (most n : ℕ) (ds : List Data) (x : Items) (found : Option Entries) → item_list x ≡ ds ++ [] → AreEntries most n ds found → entry_texts found ≡ option_map (texts_within n) (entries_up_to most (array x))
entries_are most n ds x None all h = let same = ap length (all ∙ append-nil ds) in sym (over most n (item_list x) (omega arith))
entries_are most n ds x (Some found) all h =
    let same = ap length (all ∙ append-nil ds) in
    ap Some (h.2 ∙ ap (texts_within n) (sym (all ∙ append-nil ds))) ∙ sym (few most n (item_list x) (omega (arith, h.1)))

-- another value has no entries
pub no_entries : (most n : ℕ) (d : Data) → as_array d ≡ None → None ≡ option_map (texts_within n) (entries_up_to most d)
no_entries most n d e = sym (ap (λ o. option_map (texts_within n) (option_and_then (λ ds. if nat_le (length (item_list ds)) most then Some (item_list ds) else None) o)) e)

pub entries-same : (most n : ℕ) (x y : Option (Data × List Token)) (r : List Token) (texts : Option (List (List ℕ))) → y ≡ x → ReadsEntries most n x r texts → ReadsEntries most n y r texts
entries-same most n x y r texts same h = record { value = h.value; read = same ∙ h.read; readable = h.readable; texts_are = h.texts_are }
