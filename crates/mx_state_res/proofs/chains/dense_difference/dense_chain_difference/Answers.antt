use Rattle.std.proofs.Common.{◌≡◌, ◌<◌, ◌||◌, [], ℕ, Vec, true, length, map, get_or, reverse, sym, ap, ap₂, subst, ◌∙◌}
use Rattle.std.proofs.lemmas.List.{length-map}
use Rattle.std.specs.declared.alloc.Global.{Global}
use Rattle.mx_state_res.specs.ChainDifference.{is_cited}
use Rattle.mx_state_res.specs.RowSets.{has_state, is_reached}
use Rattle.mx_state_res.proofs.StateSetLemmas.{has-all}
use Rattle.mx_state_res.proofs.TestLemmas.{and-true}
use Rattle.mx_state_res.proofs.WalkEndLemmas.{found-is}
use Rattle.mx_state_res.proofs.chains.dense_difference.dense_chain_difference.Goals as goal

pub returns : goal.returns
returns c =
    let rows = c.args.graph.now in
    let shared = c.args.shared.now in
    let lists = map (λ (others : Vec ℕ Global). others.items) c.args.apart.now in
    let long : length lists ≡ length c.args.apart.now = length-map c.args.apart.now (λ (others : Vec ℕ Global). others.items) in
    let count : c.mark_each.new.self.states ≡ length c.args.apart.now = c.mark_each.ensures.states ∙ c.mark_apart.ensures.states ∙ c.in_ok-rows.ensures.states in
    let due : (p i : ℕ) → i < length lists → is_reached c.mark_each.new.self.sets.items p i ≡ (is_cited rows (get_or lists i []) p || is_cited rows shared p) =
    λ p i l.
    let within : i < length c.args.apart.now = subst (λ n. i < n) long l in
    let full : has_state c.every.result i ≡ true = ap (λ n. has_state n i) c.every.ensures ∙ has-all (length c.args.apart.now) i within in
    c.mark_each.ensures.reached p i
    ∙ ap₂ (λ a b. a || b)
    (c.mark_apart.ensures.reached p i within ∙ ap (λ b. b || is_cited rows (get_or lists i []) p) (c.in_ok-rows.ensures.none p i))
    (and-true (is_cited rows shared p) (has_state c.every.result i) full) in
    c.reverse.ensures.items
    ∙ found-is rows c.graph_is_sound.ensures shared lists (is_reached c.mark_each.new.self.sets.items) c.mark_each.new.self.states (reverse c.in_ok-found.found.items) (count ∙ sym long) c.in_ok-found.ensures.falls due c.in_ok-found.ensures.part
