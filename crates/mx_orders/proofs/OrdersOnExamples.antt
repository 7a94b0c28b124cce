-- What an example unfolds to compute.
use Rattle.std.specs.Prelude.{⊤}
use Rattle.mx_levels.specs.Level.{read_level, user_level}
use Rattle.mx_graph.specs.Graph.{auth_chain}
use Rattle.mx_orders.specs.PowerOrder.{sender_level, power_order}
use Rattle.mx_orders.specs.Mainline.{mainline, mainline_position, mainline_order}

unfoldable pub orders_on_examples : ⊤
unfolding read_level user_level auth_chain sender_level power_order mainline mainline_position mainline_order
orders_on_examples = tt
