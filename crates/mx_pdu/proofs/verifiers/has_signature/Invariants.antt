use Rattle.std.proofs.Common.{◌≡◌}
use Rattle.std.specs.List.{list_any}
use Rattle.serde_json.specs.View.{members_view}
use Rattle.mx_pdu.specs.Verifiers.{is_signature, values_of}
use Rattle.mx_pdu.proofs.verifiers.has_signature.Given as goal

abbrev pub invariant-loop-value : goal.invariant-loop-value
invariant-loop-value l =
    list_any is_signature (values_of (members_view l.value-iterator)) ≡ list_any is_signature (values_of (members_view l.members.entries))
