use Rattle.std.proofs.Common.{◌≡◌, ◌&&◌, [], ap, false, sym, ◌∙◌}
use Rattle.std.specs.Prelude.{bytes_eq, codes}
use Rattle.std.specs.List.{list_any}
use Rattle.mx_pdu.specs.StateKeys.{Key}
use Rattle.mx_auth.specs.Rules.{needed_keys, same_key}
use Rattle.mx_graph.specs.Record.{Row, event}
use Rattle.mx_state_res.proofs.NeedLemmas.{is_put-unneeded}
use Rattle.mx_state_res.proofs.kept_resolutions.checked_events.needs.Goals as goal

pub returns : goal.returns
returns c =
    let v = c.args.version in
    let key : Key = (c.args.kind.now, c.args.state_key.now) in
    let not_create : same_key key (codes "m.room.create", []) ≡ false = ap (λ b. b && bytes_eq c.args.state_key.now []) (sym c.eq.ensures ∙ c.if-eq.false) in
    λ no x s.
    let none : list_any (same_key key) (needed_keys v (event c.args.graph.now c.args.event)) ≡ false =
    ap (λ (r : Row). list_any (same_key key) (needed_keys v r.event)) (sym c.row.ensures) ∙ ap (list_any (same_key key)) (sym c.needed_keys.ensures) ∙ sym c.contains.ensures ∙ no in
    is_put-unneeded v c.args.graph.now key not_create c.args.event none x s
