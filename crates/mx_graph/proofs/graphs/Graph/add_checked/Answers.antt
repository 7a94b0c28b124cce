use Rattle.std.proofs.Common.{◌≡◌, ◌<◌, true, arith, ◌++◌, ◌∷◌, [], ℕ, List, length, cond, Some, refl, sym, ap, subst, ◌∙◌, rules}
use Rattle.std.specs.Cmp.Lexicographic.{slice_cmp}
use Rattle.std.specs.Map.{lookup}
use Rattle.std.specs.Ordering.{nat_cmp, is_eq}
use Rattle.std.specs.Prelude.{slice_index}
use Rattle.mx_pdu.specs.Event.{prev_ids}
use Rattle.mx_graph.specs.AuthChains.{AreMet}
use Rattle.mx_graph.specs.Edges.{cited}
use Rattle.mx_graph.specs.Inside.{AreKeptFor}
use Rattle.mx_graph.specs.Record.{is_in, place_of, prev_events}
use Rattle.mx_graph.specs.Redactions.{naming, with_event}
use Rattle.mx_graph.proofs.DepthLemmas.{bounds-push, greatest}
use Rattle.mx_graph.proofs.IndexLemmas.{IsFree, free, indexed-again, indexed-push, numbered-back}
use Rattle.mx_graph.proofs.KeptChainLemmas.{kept-cited, kept-push}
use Rattle.mx_graph.proofs.ShortKeptLemmas.{short-new}
use Rattle.mx_graph.proofs.Closure.{all-in}
use Rattle.mx_graph.proofs.RowLemmas.{places-below}
use Rattle.mx_graph.proofs.graphs.Graph.add_checked.Goals as goal

pub invariant_of-self-in_err-reached : goal.invariant_of-self-in_err-reached
invariant_of-self-in_err-reached c =
    let kept : AreKeptFor c.self.inside.rows.items c.prepare.new.self =
    kept-cited c.self.inside.rows.items c.self.inside.prev_edges.items c.self.inside.auth_edges.items c.self.inside.numbers.entries (naming c.self.inside.redactions) c.self.inside.auth_chains c.prepare.new.self c.self.inside.depth_bounds.items c.self.invariant c.prepare.ensures.len c.prepare.ensures.reached
    (λ meets met. c.prepare.ensures.chains meets (subst (λ es. AreMet (cited es) meets) (sym (c.deref-2.ensures.value ∙ c.in_ok-reserve-3.ensures.items)) met)) in
    rw (c.in_ok-reserve.ensures.items, c.in_ok-reserve-2.ensures.items, c.in_ok-reserve-3.ensures.items, c.in_ok-reserve-4.ensures.items)
    (indexed-again c.self.inside.rows.items c.self.inside.prev_edges.items c.self.inside.auth_edges.items c.self.inside.numbers.entries c.self.inside.numbers.entries (naming c.self.inside.redactions) (naming c.self.inside.redactions) c.self.inside.auth_chains c.prepare.new.self c.self.inside.depth_bounds.items c.self.invariant
    c.self.invariant.numbered (λ id. refl) kept)

pub invariant_of-self-in_err-insert : goal.invariant_of-self-in_err-insert
invariant_of-self-in_err-insert c =
    let stays : c.insert.new.self.entries ≡ c.self.inside.numbers.entries = search rules in
    let kept : AreKeptFor c.self.inside.rows.items c.prepare.new.self =
    kept-cited c.self.inside.rows.items c.self.inside.prev_edges.items c.self.inside.auth_edges.items c.self.inside.numbers.entries (naming c.self.inside.redactions) c.self.inside.auth_chains c.prepare.new.self c.self.inside.depth_bounds.items c.self.invariant c.prepare.ensures.len c.prepare.ensures.reached
    (λ meets met. c.prepare.ensures.chains meets (subst (λ es. AreMet (cited es) meets) (sym (c.deref-2.ensures.value ∙ c.in_ok-reserve-3.ensures.items)) met)) in
    rw (c.in_ok-reserve.ensures.items, c.in_ok-reserve-2.ensures.items, c.in_ok-reserve-3.ensures.items, c.in_ok-reserve-4.ensures.items)
    (indexed-again c.self.inside.rows.items c.self.inside.prev_edges.items c.self.inside.auth_edges.items c.self.inside.numbers.entries c.insert.new.self.entries (naming c.self.inside.redactions) (naming c.self.inside.redactions) c.self.inside.auth_chains c.prepare.new.self c.self.inside.depth_bounds.items c.self.invariant
    (subst (λ (numbers : List (List ℕ × ℕ)). (id : List ℕ) → lookup (λ k. is_eq (slice_cmp nat_cmp id k)) numbers ≡ place_of c.self.inside.rows.items id) (sym stays) c.self.invariant.numbered) (λ id. refl) kept)

pub invariant_of-self-in-Err : goal.invariant_of-self-in-Err
invariant_of-self-in-Err c =
    let same_id : c.in_ok-id.id ≡ c.args.row.id = c.in_ok-id.ensures.cases in
    let f : IsFree c.self.inside.rows.items c.args.row = free c.self.inside.rows.items c.args.row (rw (← c.self.view_is) at c.requires.free) in
    let kept : AreKeptFor c.self.inside.rows.items c.prepare.new.self =
    kept-cited c.self.inside.rows.items c.self.inside.prev_edges.items c.self.inside.auth_edges.items c.self.inside.numbers.entries (naming c.self.inside.redactions) c.self.inside.auth_chains c.prepare.new.self c.self.inside.depth_bounds.items c.self.invariant c.prepare.ensures.len c.prepare.ensures.reached
    (λ meets met. c.prepare.ensures.chains meets (subst (λ es. AreMet (cited es) meets) (sym (c.deref-2.ensures.value ∙ c.in_ok-reserve-3.ensures.items)) met)) in
    rw (c.in_ok-reserve.ensures.items, c.in_ok-reserve-2.ensures.items, c.in_ok-reserve-3.ensures.items, c.in_ok-reserve-4.ensures.items)
    (indexed-again c.self.inside.rows.items c.self.inside.prev_edges.items c.self.inside.auth_edges.items c.self.inside.numbers.entries c.remove.new.self.entries (naming c.self.inside.redactions) (naming c.add.new.self) c.self.inside.auth_chains c.prepare.new.self c.self.inside.depth_bounds.items c.self.invariant
    (numbered-back c.self.inside.rows.items c.args.row f.fresh (λ id. lookup (λ k. is_eq (slice_cmp nat_cmp id k)) c.self.inside.numbers.entries) (λ id. lookup (λ k. is_eq (slice_cmp nat_cmp id k)) c.insert.new.self.entries) (λ id. lookup (λ k. is_eq (slice_cmp nat_cmp id k)) c.remove.new.self.entries)
    c.self.invariant.numbered c.at-number.result
    (λ id. c.in_ok-insert.ensures.updates.0 id ∙ (λ i. cond (is_eq (slice_cmp nat_cmp (same_id i) id)) (Some c.at-number.result) (lookup (λ k. is_eq (slice_cmp nat_cmp id k)) c.self.inside.numbers.entries)))
    c.remove.ensures.updates.0)
    c.in-Err.ensures.err kept)

pub invariant_of-self-2 : goal.invariant_of-self-2
invariant_of-self-2 c =
    let same_id : c.in_ok-id.id ≡ c.args.row.id = c.in_ok-id.ensures.cases in
    let same_number : c.at-number.result ≡ length c.self.inside.rows.items = search rules in
    let kept : AreKeptFor c.self.inside.rows.items c.prepare.new.self =
    kept-cited c.self.inside.rows.items c.self.inside.prev_edges.items c.self.inside.auth_edges.items c.self.inside.numbers.entries (naming c.self.inside.redactions) c.self.inside.auth_chains c.prepare.new.self c.self.inside.depth_bounds.items c.self.invariant c.prepare.ensures.len c.prepare.ensures.reached
    (λ meets met. c.prepare.ensures.chains meets (subst (λ es. AreMet (cited es) meets) (sym (c.deref-2.ensures.value ∙ c.in_ok-reserve-3.ensures.items)) met)) in
    rw (c.push.ensures.items, c.unwrap.ensures, c.in_ok-reserve.ensures.items, c.push-2.ensures.items, c.unwrap-2.ensures, c.in_ok-reserve-2.ensures.items, c.push-3.ensures.items, c.unwrap-3.ensures, c.in_ok-reserve-3.ensures.items, c.push-6.ensures.items, c.unwrap-6.ensures, c.in_ok-reserve-4.ensures.items)
    (indexed-push c.self.inside.rows.items c.args.row c.self.inside.prev_edges.items c.self.inside.auth_edges.items c.self.inside.numbers.entries c.insert.new.self.entries (naming c.self.inside.redactions) (naming c.add.new.self) c.self.inside.auth_chains
    (record { places = c.push-4.new.self; reached = c.push-5.new.self }) c.self.inside.depth_bounds.items (c.self.inside.depth_bounds.items ++ c.bound_behind-bound.result ∷ []) c.args.prev_events c.args.auth_events
    c.self.invariant (rw (← c.self.view_is) at c.requires.free) (rw (← c.self.view_is) at c.requires.prev) (rw (← c.self.view_is) at c.requires.auth)
    (λ id. c.in_ok-insert.ensures.updates.0 id ∙ (λ i. cond (is_eq (slice_cmp nat_cmp (same_id i) id)) (Some (same_number i)) (lookup (λ k. is_eq (slice_cmp nat_cmp id k)) c.self.inside.numbers.entries)))
    (λ id. c.in_default.ensures.ok id ∙ ap (λ n. with_event c.args.row.event n id (naming c.self.inside.redactions id)) same_number)
    (λ sound cites. kept-push c.self.inside.rows.items c.args.row c.prepare.new.self (record { places = c.push-4.new.self; reached = c.push-5.new.self }) c.at-number.result c.in_ok-reached.reached c.deref-3.result.now same_number sound kept
    (cites ∙ sym c.deref-3.ensures.value) c.in_ok-reached.ensures.found c.in_ok-reached.ensures.distinct
    (λ short. short-new c.self.inside.rows.items c.args.row c.prepare.new.self sound kept short c.deref-3.result.now c.in_ok-reached.reached (cites ∙ sym c.deref-3.ensures.value) c.in_ok-reached.ensures.answers)
    (rw (c.push-4.ensures.items, c.unwrap-4.ensures) (ap (λ s. c.prepare.new.self.places.items ++ s ∷ []) c.place_alone.ensures)) (rw (c.push-5.ensures.items, c.unwrap-5.ensures) refl))
    (λ sound. bounds-push c.self.inside.rows.items c.args.row c.self.inside.depth_bounds.items c.bound_behind-bound.result c.deref-5.result.now sound c.self.invariant.depth_bounds
    (c.deref-5.ensures.value ∙ rw (← c.self.view_is) at c.requires.prev)
    (c.bound_behind-bound.ensures ∙ λ i. greatest (slice_index ((c.deref-4.ensures.value ∙ c.in_ok-reserve-4.ensures.items) i)) (c.depth.ensures.depth i) c.deref-5.result.now)))

pub bound_behind-bound-requires : goal.bound_behind-bound-requires
bound_behind-bound-requires c =
    let len : length c.deref-4.result.now ≡ length c.self.inside.rows.items = ap length (c.deref-4.ensures.value ∙ c.in_ok-reserve-4.ensures.items) ∙ c.self.invariant.depth_bounds.len in
    let cited : c.deref-5.result.now ≡ prev_events c.self.inside.rows.items c.args.row.event = c.deref-5.ensures.value ∙ rw (← c.self.view_is) at c.requires.prev in
    all-in (λ p. p < length c.deref-4.result.now) c.deref-5.result.now
    (λ y e.
    let low : y < length c.self.inside.rows.items = places-below c.self.inside.rows.items (prev_ids c.args.row.event) y (subst (λ xs. is_in xs y ≡ true) cited e) in
    omega (arith, low, len))
