use Rattle.std.proofs.Common.{ℕ, map, ap, ◌∙◌, Vec}
use Rattle.std.specs.declared.alloc.Global.{Global}
use Rattle.mx_graph.specs.Record.{is_in}
use Rattle.mx_state_res.proofs.CitedWithinLemmas.{cite-within}
use Rattle.mx_state_res.proofs.conflicts.cited_events.cite_within.Goals as goal

pub returns : goal.returns
returns c =
    λ yes.
    cite-within c.args.graph.now (map (λ (v : Vec ℕ Global). v.items) c.args.sets.now) c.args.events.now c.deref.result.now
    (λ p. ap (λ xs. is_in xs p) c.deref.ensures.value ∙ c.in_ok-others.ensures p) (c.are_in_each_chain.ensures yes)
