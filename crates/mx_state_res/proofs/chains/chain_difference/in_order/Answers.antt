use Rattle.std.proofs.Common.{ℕ, Vec, map, ◌∙◌}
use Rattle.std.specs.declared.alloc.Global.{Global}
use Rattle.mx_state_res.proofs.WalkEndLemmas.{told-is}
use Rattle.mx_state_res.proofs.chains.chain_difference.in_order.Goals as goal

pub returns : goal.returns
returns c =
    told-is c.args.graph.now c.graph_is_sound.ensures c.args.shared.now (map (λ (others : Vec ℕ Global). others.items) c.args.apart.now) c.in_ok-found.found.items c.in_ok-found.ensures.rises
    (λ p. c.in_ok-found.ensures.same p ∙ c.requires p)
