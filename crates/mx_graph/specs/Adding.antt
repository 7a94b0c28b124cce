-- Which rows a record takes.
use Rattle.std.specs.Prelude.{ℕ, Bool, not, nat_le, List, length, Option, None, is_some}
use Rattle.std.specs.List.{list_all}
use Rattle.mx_ident.specs.Identifier.{refuse_if}
use Rattle.mx_pdu.specs.Event.{prev_ids, auth_ids}
use Rattle.mx_graph.specs.Record.{Row, place_of}
use Rattle.mx_graph.specs.declared.refusals.NotAdded.{NotAdded}
use Rattle.mx_graph.specs.declared.refusals.NotAdded.TheVariants.{Known, MissingPrevEvent, MissingAuthEvent, Full}

-- the record has an event with this id
abbrev pub is_known : List Row → List ℕ → Bool
is_known rows id = is_some (place_of rows id)

-- the most rows of a record
abbrev pub most_rows : ℕ
most_rows = 50000

-- the first refusal (Matrix specification, Server-Server API, PDUs: an event comes after the events that it cites)
unfoldable pub add_error : List Row → Row → Option NotAdded
add_error rows row =
    refuse_if (is_known rows row.id) Known
    (refuse_if (not (list_all (is_known rows) (prev_ids row.event))) MissingPrevEvent
    (refuse_if (not (list_all (is_known rows) (auth_ids row.event))) MissingAuthEvent
    (refuse_if (nat_le most_rows (length rows)) Full None)))
