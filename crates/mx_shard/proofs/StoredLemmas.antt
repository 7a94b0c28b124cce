-- The rows that are stored of a journal.
use Rattle.std.proofs.Common.{◌≡◌, List, [], ◌∷◌, ◌++◌, refl, sym, ap, ◌∙◌, subst, append_assoc, append-nil, arith}
use Rattle.mx_keeper.specs.declared.rows.ShardRow.{ShardRow}
use Rattle.mx_receipt.specs.Receipt.{Kept}
use Rattle.mx_room.specs.Queries.{room_version}
use Rattle.mx_room.specs.RoomView.{IsHosted}
use Rattle.mx_shard.specs.Journal.{Entry, entry_of_row, reopened, row_in, stored, stored_behind}
use Rattle.mx_shard.specs.Inside.{HasVersion}

push-behind : (earlier es : List Entry) (e : Entry) → stored_behind earlier (es ++ e ∷ []) ≡ stored_behind earlier es ++ row_in (earlier ++ (es ++ e ∷ [])) e ∷ []
push-behind earlier [] e = refl
push-behind earlier (f ∷ es) e =
    ap (λ rows. row_in (earlier ++ f ∷ []) f ∷ rows)
    (push-behind (earlier ++ f ∷ []) es e ∙ ap (λ all. stored_behind (earlier ++ f ∷ []) es ++ row_in all e ∷ []) (append_assoc earlier (f ∷ []) (es ++ e ∷ [])))

-- one entry more is one row more
pub stored-push : (journal : List Entry) (e : Entry) → stored (journal ++ e ∷ []) ≡ stored journal ++ row_in (journal ++ e ∷ []) e ∷ []
stored-push = push-behind []

-- a room that has an event keeps its version
pub version-stays : (kept more : List Kept) → IsHosted kept → room_version (kept ++ more) ≡ room_version kept
version-stays [] more h = absurd (omega arith)
version-stays (k ∷ kept) more h = refl

head-is : (a b : ShardRow) (more others : List ShardRow) → a ∷ more ≡ b ∷ others → a ≡ b
head-is a b more others h = cc

tail-is : (a b : ShardRow) (more others : List ShardRow) → a ∷ more ≡ b ∷ others → more ≡ others
tail-is a b more others h = cc

version-at : (earlier : List Entry) (rows later : List ShardRow) (row : ShardRow) → stored_behind earlier (reopened (rows ++ row ∷ later)) ≡ rows ++ row ∷ later → HasVersion (earlier ++ reopened rows) row
version-at earlier [] later row h =
    subst (λ es. row_in (es ++ entry_of_row row ∷ []) (entry_of_row row) ≡ row) (sym (append-nil earlier)) (head-is _ row _ later h)
version-at earlier (r ∷ rows) later row h =
    subst (λ es. HasVersion es row) (append_assoc earlier (entry_of_row r ∷ []) (reopened rows)) (version-at (earlier ++ entry_of_row r ∷ []) rows later row (tail-is _ r _ (rows ++ row ∷ later) h))

-- where all rows name the versions of their rooms, each does behind those before it
pub version-before : (rows later : List ShardRow) (row : ShardRow) → stored (reopened (rows ++ row ∷ later)) ≡ rows ++ row ∷ later → HasVersion (reopened rows) row
version-before = version-at []
