use Rattle.std.proofs.Common.{not, ◌&&◌, ap, ◌∙◌}
use Rattle.mx_graph.specs.Record.{is_in}
use Rattle.mx_state_res.specs.ChainDifference.{cites}
use Rattle.mx_state_res.proofs.CitedLemmas.{cited-joined}
use Rattle.mx_state_res.proofs.SetLemmas.{is_in-filter}
use Rattle.mx_state_res.proofs.conflicts.cited_events.cited_beside.Goals as goal

pub returns : goal.returns
returns c =
    let events = c.args.events.now in
    λ p.
    ap (λ xs. is_in xs p) c.in_ok-others.ensures
    ∙ is_in-filter (λ p. not (is_in events p)) c.deref-2.result.now p
    ∙ ap (λ b. b && not (is_in events p)) (
    ap (λ xs. is_in xs p) c.deref-2.ensures.value ∙ c.in_ok-each.ensures.same p
    ∙ ap (λ xs. is_in xs p) c.deref.ensures.value ∙ c.in_ok-cited.ensures p ∙ cited-joined (cites c.args.graph.now) events p)
