-- Whether an event is kept, by where it stands in the record.
use Rattle.std.proofs.Common.{◌≡◌, ◌||◌, List, ℕ, [], ◌∷◌, refl, sym, ap, ◌∙◌}
use Rattle.std.specs.Prelude.{bytes_eq, is_some}
use Rattle.std.specs.List.{list_any}
use Rattle.mx_graph.specs.Record.{Row, place_of}
use Rattle.mx_orders.proofs.MainlineLemmas.{any-position}
use Rattle.mx_receipt.specs.Receipt.{Kept, rows_of}
use Rattle.mx_room.specs.RoomView.{has_event}

has-row : (kept : List Kept) (id : List ℕ) → list_any (λ (r : Row). bytes_eq r.id id) (rows_of kept) ≡ has_event kept id
has-row [] id = refl
has-row (k ∷ ks) id = ap (λ b. bytes_eq k.id id || b) (has-row ks id)

pub has-place : (kept : List Kept) (id : List ℕ) → is_some (place_of (rows_of kept) id) ≡ has_event kept id
has-place kept id = sym (any-position (λ (r : Row). bytes_eq r.id id) (rows_of kept)) ∙ has-row kept id
