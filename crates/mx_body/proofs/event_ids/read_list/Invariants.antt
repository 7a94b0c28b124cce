use Rattle.std.proofs.Common.{◌≡◌, length}
use Rattle.serde_json.specs.Data.{Items}
use Rattle.json.specs.Json.{value}
use Rattle.mx_redact.specs.Fields.{item_list}
use Rattle.mx_body.specs.Questions.{ids_shown}
use Rattle.mx_body.proofs.IdLemmas.{ids_in, joined}
use Rattle.mx_body.proofs.ItemLemmas.{ItemsRead}
use Rattle.mx_body.proofs.event_ids.read_list.Given as goal

-- the ids so far, and those that are left
abbrev pub invariant-items : goal.invariant-items
invariant-items l =
    (front : Items → Items) × ItemsRead (value 125) l.initial.reader l.reader front
    × ((rest : Items) → ids_in (item_list (front rest)) ≡ joined (ids_shown l.found) (ids_in (item_list rest)))

abbrev pub decreases-items : goal.decreases-items
decreases-items l = length l.reader
