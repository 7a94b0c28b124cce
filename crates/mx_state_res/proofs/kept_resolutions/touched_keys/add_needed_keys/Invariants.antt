use Rattle.std.proofs.Common.{◌≡◌, take, true}
use Rattle.std.specs.Prelude.{is_some}
use Rattle.std.specs.List.{All}
use Rattle.mx_pdu.specs.StateKeys.{Key}
use Rattle.mx_auth.specs.Keys.{key_shown}
use Rattle.mx_graph.specs.StateMap.{entry}
use Rattle.mx_state_res.proofs.kept_resolutions.touched_keys.add_needed_keys.Given as goal

-- the keys so far are there, with all that were
abbrev pub invariant-loop-at : goal.invariant-loop-at
invariant-loop-at l = record {
  added : All (λ k. is_some (entry l.keys (key_shown k)) ≡ true) (take l.at l.added);
  stay : (q : Key) → is_some (entry l.fn.keys q) ≡ true → is_some (entry l.keys q) ≡ true;
}
