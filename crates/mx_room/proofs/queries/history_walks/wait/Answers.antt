use Rattle.std.proofs.Common.{◌<◌, sym, subst}
use Rattle.std.proofs.lemmas.List.{length-map}
use Rattle.mx_receipt.specs.Receipt.{rows_of}
use Rattle.mx_room.proofs.HistoryOrderLemmas.{put-bounded, put-waits}
use Rattle.mx_room.proofs.queries.history_walks.wait.Goals as goal

pub returns-clause-waits : goal.returns-clause-waits
returns-clause-waits c =
    put-waits (rows_of c.args.timeline.now.kept) c.args.waiting.now c.insert.new.self c.bounded.result c.args.number c.bounded.ensures c.in_ok-insert.ensures.updates.0

pub returns-clause-rows : goal.returns-clause-rows
returns-clause-rows c =
    put-bounded (rows_of c.args.timeline.now.kept) c.args.waiting.now c.insert.new.self c.bounded.result c.args.number c.bounded.ensures c.in_ok-insert.ensures.updates.0
    (subst (λ n. c.args.number < n) (sym (length-map c.args.timeline.now.kept _)) c.requires)
