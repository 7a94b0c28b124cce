-- What an example unfolds to compute.
use Rattle.std.specs.Prelude.{⊤}
use Rattle.mx_auth.proofs.RulesOnExamples.{rules_on_examples}
use Rattle.mx_graph.specs.Graph.{auth_chain}
use Rattle.mx_orders.specs.PowerOrder.{sender_level, power_order}
use Rattle.mx_orders.specs.Mainline.{mainline, mainline_position, mainline_order}
use Rattle.mx_state_res.specs.Resolution.{is_removal, is_power_event, unconflicted, conflicted, auth_difference, full_conflicted, is_allowed, after_check, power_events, resolve}

unfoldable pub resolution_on_examples : ⊤
unfolding rules_on_examples auth_chain sender_level power_order mainline mainline_position mainline_order is_removal is_power_event unconflicted conflicted auth_difference full_conflicted is_allowed after_check power_events resolve
resolution_on_examples = tt
