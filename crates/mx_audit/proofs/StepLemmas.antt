-- The steps of a resolution make the resolved state.
use Rattle.std.proofs.Common.{◌≡◌, ℕ, List, [], ◌∷◌, Bor, filter, map, not, refl, ap, ◌∙◌}
use Rattle.mx_auth.specs.declared.versions.RoomVersion.{RoomVersion}
use Rattle.mx_graph.specs.Record.{Row}
use Rattle.mx_graph.specs.StateMap.{State}
use Rattle.mx_states.specs.Entries.{has_entry, overwritten}
use Rattle.mx_state_res.specs.Resolution.{unconflicted, is_allowed, after_check, iterative_auth_checks, resolve}
use Rattle.mx_state_res.proofs.SetLemmas.{map-map, shown}
use Rattle.mx_audit.specs.Steps.{refusal_at, check_steps, with_step, with_steps, power_list, partial_state, other_list, conflicted_entries, power_steps, other_steps, state_by_steps}

pub step-checked : (v : RoomVersion) (rows : List Row) (s : State) (p : ℕ) → with_step rows s (record { event = p; refusal = refusal_at v rows s p }) ≡ after_check v rows s p
unfolding refusal_at after_check is_allowed
step-checked v rows s p = refl

pub steps-checked : (v : RoomVersion) (rows : List Row) (s : State) (ps : List ℕ) → with_steps rows s (check_steps v rows s ps) ≡ iterative_auth_checks v rows s ps
steps-checked v rows s [] = refl
steps-checked v rows s (p ∷ ps) =
    ap (λ t. with_steps rows t (check_steps v rows (after_check v rows s p) ps)) (step-checked v rows s p)
    ∙ steps-checked v rows (after_check v rows s p) ps

pub resolve-steps : (v : RoomVersion) (rows : List Row) (states : List State) → state_by_steps rows states (power_steps v rows states) (other_steps v rows states) ≡ resolve v rows states
unfolding state_by_steps power_steps other_steps resolve power_list other_list partial_state
resolve-steps v rows states =
    ap (λ t. overwritten (with_steps rows t (other_steps v rows states)) (unconflicted states)) (steps-checked v rows (unconflicted states) (power_list rows states))
    ∙ ap (λ t. overwritten t (unconflicted states)) (steps-checked v rows (partial_state v rows states) (other_list v rows states))

-- the entries in conflict, by the unconflicted state
pub conflicted-is : (bs : List (Bor State)) (agreed : State) → agreed ≡ unconflicted (shown bs) → map (λ (s : Bor State). filter (λ e. not (has_entry e agreed)) s.now) bs ≡ conflicted_entries (shown bs)
unfolding conflicted_entries
conflicted-is bs agreed is =
    ap (λ (a : State). map (λ (s : Bor State). filter (λ e. not (has_entry e a)) s.now) bs) is
    ∙ map-map (λ (s : Bor State). s.now) (filter (λ e. not (has_entry e (unconflicted (shown bs))))) bs
