use Rattle.std.proofs.Common.{◌≡◌, ◌∙◌, ◌<◌, ℕ, true, length, reverse, subst, sym}
use Rattle.std.specs.BTreeSet.{contains}
use Rattle.std.specs.Ordering.{nat_cmp}
use Rattle.mx_graph.specs.Edges.{IsAllFrom, Rises}
use Rattle.mx_graph.specs.Record.{is_in}
use Rattle.mx_graph.proofs.Closure.{in-all}
use Rattle.mx_orders.specs.Passed.{cites_from}
use Rattle.mx_orders.proofs.PassedLemmas.{all_from-same, passed-are}
use Rattle.mx_orders.proofs.passed_rows.passed_rows.Goals as goal

pub walked_down-requires-clause-known : goal.walked_down-requires-clause-known
walked_down-requires-clause-known c p e = in-all (λ q. q < length c.args.graph.now) c.args.events.now p c.requires (sym (c.in_ok-waiting.ensures p) ∙ e)

pub returns : goal.returns
returns c =
    let walked = c.deref.ensures.value ∙ c.reverse.ensures.items in
    passed-are c.args.graph.now c.args.events.now c.deref.result.now c.in_ok-passed.passed.items c.least_of.result (contains nat_cmp c.in_ok-members.members) c.least_of.ensures.least c.in_ok-members.ensures
    (subst Rises (sym walked) c.in_ok-walked.ensures.falls)
    (subst (λ xs. (p : ℕ) → is_in xs p ≡ true → p < length c.args.graph.now) (sym walked) c.in_ok-walked.ensures.known)
    (subst (λ xs. IsAllFrom (cites_from c.args.graph.now c.least_of.result) (contains nat_cmp c.in_ok-members.members) (is_in xs)) (sym walked)
    (all_from-same (cites_from c.args.graph.now c.least_of.result) (contains nat_cmp c.in_ok-waiting.waiting) (contains nat_cmp c.in_ok-members.members) (is_in (reverse c.in_ok-walked.walked.items)) (λ p. c.in_ok-waiting.ensures p ∙ sym (c.in_ok-members.ensures p)) c.in_ok-walked.ensures.all))
    c.in_ok-passed.ensures
