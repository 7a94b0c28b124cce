use Rattle.std.proofs.Common.{◌≡◌, ◌∷◌, All}
use Rattle.std.proofs.lemmas.List.Elements.{All-cons, All-weaker}
use Rattle.mx_dock.specs.Journal.{IsPrefix, since, entries_of}
use Rattle.mx_dock.specs.Rule.{Keeps}
use Rattle.mx_dock.specs.Dock.{own, given_back, opening}
use Rattle.mx_dock.proofs.docks.Dock.close.Goals as goal

-- what the journal has of each berth
kept : (g : _) (c : goal.After-drop-queue g) → All (Keeps g.T.Journaled.caller (opening c.args.first) (g.T.Journaled.journal c.take_last.result)) (own c.args.first ∷ given_back c.args.first)
kept g c = All-cons (Keeps g.T.Journaled.caller (opening c.args.first) (g.T.Journaled.journal c.take_last.result)) (own c.args.first) (given_back c.args.first) c.take_last.ensures.3 c.take_last.ensures.4

pub returns-clause-added : goal.returns-clause-added
returns-clause-added g c =
    let journal = g.T.Journaled.journal c.take_last.result in
    All-weaker (Keeps g.T.Journaled.caller (opening c.args.first) journal) (λ b. entries_of g.T.Journaled.caller b.number (since (opening c.args.first) journal) ≡ b.added) (λ b k. k.added) (own c.args.first ∷ given_back c.args.first) (kept g c)

pub returns-clause-seen : goal.returns-clause-seen
returns-clause-seen g c =
    let journal = g.T.Journaled.journal c.take_last.result in
    All-weaker (Keeps g.T.Journaled.caller (opening c.args.first) journal) (λ b. IsPrefix b.seen journal) (λ b k. k.seen) (own c.args.first ∷ given_back c.args.first) (kept g c)

pub returns-clause-same_opening : goal.returns-clause-same_opening
returns-clause-same_opening g c =
    let journal = g.T.Journaled.journal c.take_last.result in
    All-weaker (Keeps g.T.Journaled.caller (opening c.args.first) journal) (λ b. b.opening ≡ opening c.args.first) (λ b k. k.opened) (own c.args.first ∷ given_back c.args.first) (kept g c)
