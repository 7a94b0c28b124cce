-- For private clauses alone.
-- What of an entry is made before it is written.
use Rattle.std.specs.Prelude.{◌≡◌, ℕ, List, option_map}
use Rattle.mx_receipt.specs.Receipt.{Kept}
use Rattle.mx_audit.specs.EventLines.{event_text}
use Rattle.mx_page.specs.Page.{changes_after, changes_before, first_of, prevs, resolution_of}
use Rattle.mx_page.specs.declared.entry_texts.EntryParts.{EntryParts}

pub record AreParts (kept : List Kept) (p : ℕ) (parts : EntryParts) : Type 0 where
  pub line : parts.line.items ≡ event_text kept p
  pub base : parts.base ≡ first_of (prevs kept p)
  pub before : parts.before.items ≡ changes_before kept p
  pub after : parts.after.items ≡ changes_after kept p
  pub resolution : option_map (λ t. t.items) parts.resolution ≡ resolution_of kept p
