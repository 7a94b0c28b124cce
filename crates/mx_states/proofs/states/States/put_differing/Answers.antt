use Rattle.std.proofs.Common.{Result, Ok, Err, sym, subst, ap, ◌∙◌, ◌||◌}
use Rattle.std.specs.Prelude.{OnOk, is_some}
use Rattle.mx_graph.specs.StateMap.{entry}
use Rattle.mx_states.specs.KeyNumbers.{has_number_in}
use Rattle.mx_states.specs.SnapshotEntries.{snapshot}
use Rattle.mx_states.proofs.KeyLemmas.{Sorted}
use Rattle.mx_states.proofs.ShownLemmas.{sorted-shown, state-shown}
use Rattle.mx_states.proofs.KeyChangeLemmas.{differing-found}
use Rattle.mx_states.proofs.states.States.put_differing.Goals as goal

on_ok : {A E : Type 0} (r : Result A E) (P : Type 0) → P → OnOk r P
on_ok (Ok x) P p = p
on_ok (Err x) P p = tt

on_ok-map : {A E : Type 0} (r : Result A E) (P Q : Type 0) → (P → Q) → OnOk r P → OnOk r Q
on_ok-map (Ok x) P Q f p = f p
on_ok-map (Err x) P Q f p = tt

pub returns-clause-sorted : goal.returns-clause-sorted
returns-clause-sorted c =
    let keys = c.self.inside.keys in
    let maps = c.self.inside.snapshots in
    on_ok c.put_differing.result _ (
      subst Sorted (sym (state-shown keys maps c.args.self.now c.args.first c.self.view_is)) (sorted-shown keys (snapshot maps c.args.first)),
      subst Sorted (sym (state-shown keys maps c.args.self.now c.args.other c.self.view_is)) (sorted-shown keys (snapshot maps c.args.other)),
    )

pub returns-clause-found : goal.returns-clause-found
returns-clause-found c =
    on_ok-map c.put_differing.result _ _
    (λ found key. found key ∙ ap (λ ns. is_some (entry c.args.found.now key) || has_number_in c.self.inside.keys ns key) c.deref.ensures.value
    ∙ differing-found c.self.inside.keys c.self.inside.snapshots c.args.self.now c.args.first c.args.other c.in_ok-differing.differing.items c.args.found.now key c.self.invariant c.self.view_is
    c.in_ok-differing.ensures.exact)
    c.put_differing.ensures
