use Rattle.std.proofs.Common.{◌<◌, length}
use Rattle.std.proofs.lemmas.List.Elements.{All-get_or}
use Rattle.std.specs.Prelude.{[]}
use Rattle.std.specs.List.{All}
use Rattle.mx_graph.specs.StateMap.{key_cmp}
use Rattle.mx_states.specs.Numbered.{state_at}
use Rattle.mx_states.proofs.KnownLemmas.{put-known}
use Rattle.mx_receipt.proofs.HeldLemmas.{one-added}
use Rattle.mx_receipt.proofs.snapshots.state_after.Goals as goal

pub returns-in_ok-after-in-Some-clause-added : goal.returns-in_ok-after-in-Some-clause-added
returns-in_ok-after-in-Some-clause-added c = λ rows l known.
    one-added rows c.args.states.now c.with.new.self _ c.in_ok-after-in-Some.ensures.added
    (put-known key_cmp (λ q. q < length rows) (c.kind.result.now, c.in-Some.state_key.now) c.args.number (state_at c.args.states.now c.args.before) l
    (All-get_or (λ s. All (λ e. e.1 < length rows) s) c.args.states.now c.args.before [] c.requires known))
