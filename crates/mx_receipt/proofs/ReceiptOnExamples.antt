-- What an example unfolds to compute.
use Rattle.std.specs.Prelude.{⊤}
use Rattle.mx_graph.specs.Graph.{ancestors}
use Rattle.mx_state_res.proofs.ResolutionOnExamples.{resolution_on_examples}
use Rattle.mx_receipt.specs.Receipt.{before_event, state_before, state_after, state_before_next, forward_extremities, current_state, auth_failure, verdict, offer_error}

unfoldable pub receipt_on_examples : ⊤
unfolding resolution_on_examples ancestors before_event state_before state_after state_before_next forward_extremities current_state auth_failure verdict offer_error
receipt_on_examples = tt
