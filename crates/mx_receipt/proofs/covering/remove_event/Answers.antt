use Rattle.std.proofs.Common.{sym, ap, ◌∙◌}
use Rattle.std.specs.Result.{is_ok}
use Rattle.mx_graph.specs.Record.{is_in}
use Rattle.mx_state_res.proofs.SetLemmas.{search-is}
use Rattle.mx_receipt.proofs.RemovalLemmas.{found-place, removed-is, absent-is}
use Rattle.mx_receipt.proofs.covering.remove_event.Goals as goal

pub returns-in-Ok : goal.returns-in-Ok
returns-in-Ok c =
    let r = found-place c.args.events.now.items c.deref.result.now c.args.event c.binary_search.result c.in-Ok.place c.requires c.deref.ensures.value c.in-Ok.is c.binary_search.ensures.position in
    c.remove.ensures.items ∙ removed-is c.args.events.now.items c.in-Ok.place c.args.event c.requires r.0 r.1

pub returns-in_default : goal.returns-in_default
returns-in_default c =
    absent-is c.args.events.now.items c.args.event
    (ap (λ xs. is_in xs c.args.event) (sym c.deref.ensures.value)
    ∙ sym (search-is c.deref.result.now c.args.event c.binary_search.result (rw c.deref.ensures.value c.requires) c.binary_search.ensures.position) ∙ ap is_ok c.in_default.is)
