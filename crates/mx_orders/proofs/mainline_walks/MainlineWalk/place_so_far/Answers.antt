use Rattle.std.proofs.Common.{rules, ◌≡◌, ◌==◌, position, None, ap, ◌∙◌}
use Rattle.mx_orders.proofs.MainlineLemmas.{place-followed}
use Rattle.mx_orders.proofs.mainline_walks.MainlineWalk.place_so_far.Goals as goal

pub returns-in_err-place : goal.returns-in_err-place
returns-in_err-place c =
    let e : c.from_residual.result ≡ None = search rules in
    e ∙ c.in_err-place.ensures.place ∙ ap (position (λ other. other == c.args.event)) c.deref.ensures.value
    ∙ place-followed c.args.graph.now c.graph_is_sound.ensures c.args.self.now.line.items c.args.self.now.next c.args.event c.requires.followed

pub returns : goal.returns
returns c =
    c.in_ok-place.ensures.place ∙ ap (position (λ other. other == c.args.event)) c.deref.ensures.value
    ∙ place-followed c.args.graph.now c.graph_is_sound.ensures c.args.self.now.line.items c.args.self.now.next c.args.event c.requires.followed
