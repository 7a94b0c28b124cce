-- The parts of an entry.
use Rattle.std.proofs.Common.{◌≡◌, ◌<◌, ℕ, Bool, true, List, Some, None, length, option_map}
use Rattle.std.specs.Prelude.{if◌then◌else◌, nat_lt}
use Rattle.std.proofs.lemmas.Bool.{lt-ltb}
use Rattle.mx_receipt.specs.Receipt.{Kept}
use Rattle.mx_page.specs.EntryParts.{AreParts}
use Rattle.mx_page.specs.EntryTexts.{entry_of}
use Rattle.mx_page.specs.Page.{entry_text}
use Rattle.mx_page.specs.declared.entry_texts.EntryParts.{EntryParts}

pub entry-is : (kept : List Kept) (p : ℕ) (parts : EntryParts) → AreParts kept p parts
    → entry_of (nat_lt 0 p) parts.after.items parts.base parts.before.items parts.line.items (option_map (λ t. t.items) parts.resolution) ≡ entry_text kept p
unfolding entry_text
entry-is kept p parts h = λ i. entry_of (nat_lt 0 p) (h.after i) (h.base i) (h.before i) (h.line i) (h.resolution i)

-- what is there has its text
found-text : (b : Bool) (x y : List ℕ) → b ≡ true → Some x ≡ (if b then Some y else None) → x ≡ y
found-text b x y is e = cc (e, is)

pub text-there : (kept : List Kept) (p : ℕ) (x y : List ℕ) → p < length kept → Some x ≡ (if nat_lt p (length kept) then Some y else None) → x ≡ y
text-there kept p x y low e = found-text (nat_lt p (length kept)) x y (lt-ltb p (length kept) low) e

found-none : (b : Bool) (x y : List ℕ) → b ≡ true → None ≡ (if b then Some y else None) → x ≡ y
found-none b x y is e = cc (e, is)

pub none-there : (kept : List Kept) (p : ℕ) (x y : List ℕ) → p < length kept → None ≡ (if nat_lt p (length kept) then Some y else None) → x ≡ y
none-there kept p x y low e = found-none (nat_lt p (length kept)) x y (lt-ltb p (length kept) low) e
