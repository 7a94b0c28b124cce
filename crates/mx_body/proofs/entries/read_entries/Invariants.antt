use Rattle.std.proofs.Common.{◌≡◌, ◌++◌, List, length}
use Rattle.serde_json.specs.Data.{Data, Items}
use Rattle.json.specs.Json.{value}
use Rattle.mx_redact.specs.Fields.{item_list}
use Rattle.mx_body.specs.Transactions.{AreEntries}
use Rattle.mx_body.proofs.ItemLemmas.{ItemsRead}
use Rattle.mx_body.proofs.entries.read_entries.Given as goal

-- the entries so far, and their texts
abbrev pub invariant-items : goal.invariant-items
invariant-items l =
    (front : Items → Items) × (ds : List Data) × ItemsRead (value 125) l.initial.reader l.reader front
    × ((rest : Items) → item_list (front rest) ≡ ds ++ item_list rest) × AreEntries l.most l.largest ds l.found

abbrev pub decreases-items : goal.decreases-items
decreases-items l = length l.reader
