use Rattle.std.proofs.Common.{◌≡◌, ◌&&◌, [], false, not, ap, sym, ◌∙◌}
use Rattle.std.specs.Prelude.{bytes_eq, is_some}
use Rattle.mx_pdu.specs.StateKeys.{Key}
use Rattle.mx_auth.specs.Rules.{same_key}
use Rattle.mx_graph.specs.StateMap.{entry}
use Rattle.mx_state_res.specs.TouchedKeys.{create_key}
use Rattle.mx_state_res.proofs.TouchedLemmas.{none-needs, none-put}
use Rattle.mx_state_res.proofs.kept_resolutions.checked_places.is_untouched.Goals as goal

pub returns : goal.returns
returns c =
    let checks = c.args.checks.now in
    let rows = checks.graph.now in
    let kept = checks.kept.now in
    let order = kept.order.items in
    let key : Key = (c.args.put.now.kind.now, c.args.put.now.state_key.now) in
    let not_create : same_key key create_key ≡ false = ap (λ b. b && bytes_eq c.args.put.now.state_key.now []) (sym c.eq.ensures ∙ c.if-eq.false) in
    let unneeded : is_some (entry kept.touched.needed_keys key) ≡ false = ap is_some (sym c.get.ensures) ∙ sym c.is_some.ensures ∙ c.if-is_some.false in
    λ yes.
    let unput : is_some (entry kept.touched.put_keys key) ≡ false = ap is_some (sym c.get-2.ensures) ∙ c.is_none.ensures ∙ ap not yes in
    (not_create, (none-needs checks.version rows kept.touched.needed_keys key order unneeded (λ i d l. (c.requires i d l).1), none-put rows kept.touched.put_keys key order unput (λ i d l. (c.requires i d l).0)))
