use Rattle.std.proofs.Common.{◌≡◌, ◌<◌, ℕ, Vec, length, map, reverse, sym, ap, subst, ◌∙◌, arith}
use Rattle.std.proofs.lemmas.List.{length-map}
use Rattle.std.specs.declared.alloc.Global.{Global}
use Rattle.mx_graph.specs.Record.{is_in}
use Rattle.mx_state_res.specs.ChainDifference.{cites, is_cited}
use Rattle.mx_state_res.specs.Masks.{is_due}
use Rattle.mx_graph.proofs.SetLemmas.{contains-is}
use Rattle.mx_state_res.proofs.CitedLemmas.{cited-same}
use Rattle.mx_state_res.proofs.WalkStartLemmas.{starts-known, start-known, start-waits}
use Rattle.mx_state_res.proofs.WalkStepLemmas.{starts-there}
use Rattle.mx_state_res.proofs.WalkEndLemmas.{found-is}
use Rattle.mx_state_res.proofs.chains.chain_difference.sparse_chain_difference.Goals as goal

pub mark_starts-requires-clause-known : goal.mark_starts-requires-clause-known
mark_starts-requires-clause-known c =
    starts-known (length c.args.graph.now) c.args.shared.now c.in_ok-starts.starts c.mark_apart.new.walk.starts c.requires.shared c.in_ok-starts.ensures (c.in_ok-mark_apart.ensures.starts ∙ c.new-walk.ensures.starts)

pub taken_down-requires-clause-starts : goal.taken_down-requires-clause-starts
taken_down-requires-clause-starts c s m =
    starts-known (length c.args.graph.now) c.args.shared.now c.in_ok-starts.starts c.mark_apart.new.walk.starts c.requires.shared c.in_ok-starts.ensures (c.in_ok-mark_apart.ensures.starts ∙ c.new-walk.ensures.starts) s
    (c.in_ok-mark_starts.ensures.fewer s m)

pub taken_down-requires-clause-known : goal.taken_down-requires-clause-known
taken_down-requires-clause-known c =
    let rows = c.args.graph.now in
    starts-there (cites rows) (λ x y e. (c.graph_is_sound.ensures.auth x y e).1) c.mark_starts.new.walk.states c.mark_apart.new.walk.masks c.mark_starts.new.walk.masks c.mark_apart.new.walk.starts.keys c.mark_starts.new.walk.starts.keys
    c.in_ok-mark_starts.ensures.there (length rows)
    (start-known (length rows) c.new-walk.result.masks c.mark_apart.new.walk.masks c.new-walk.ensures.none c.in_ok-mark_apart.ensures.known)
    (λ s m.
    let l : s < length rows =
    starts-known (length rows) c.args.shared.now c.in_ok-starts.starts c.mark_apart.new.walk.starts c.requires.shared c.in_ok-starts.ensures (c.in_ok-mark_apart.ensures.starts ∙ c.new-walk.ensures.starts) s m in
    omega arith)

pub returns : goal.returns
returns c =
    let rows = c.args.graph.now in
    let shared = c.args.shared.now in
    let lists = map (λ (others : Vec ℕ Global). others.items) c.args.apart.now in
    let long : length lists ≡ length c.args.apart.now = length-map c.args.apart.now (λ (others : Vec ℕ Global). others.items) in
    let before = c.mark_apart.new.walk in
    let after = c.mark_starts.new.walk in
    let starts : before.starts.keys ≡ c.in_ok-starts.starts.keys = ap (λ ss. ss.keys) (c.in_ok-mark_apart.ensures.starts ∙ c.new-walk.ensures.starts) in
    let count : before.states ≡ length c.args.apart.now = c.in_ok-mark_apart.ensures.states ∙ c.new-walk.ensures.states in
    let same : (p : ℕ) → is_cited rows before.starts.keys p ≡ is_cited rows shared p =
    cited-same (cites rows) before.starts.keys shared (λ p. ap (λ ks. is_in ks p) starts ∙ sym (contains-is c.in_ok-starts.starts.keys p) ∙ c.in_ok-starts.ensures p) in
    c.reverse.ensures.items
    ∙ found-is rows c.graph_is_sound.ensures shared lists (is_due (cites rows) after.masks after.starts.keys) after.states (reverse c.in_ok-found.found.items) (c.in_ok-mark_starts.ensures.states ∙ count ∙ sym long) c.in_ok-found.ensures.falls
    (λ p i l. c.in_ok-mark_starts.ensures.due p i (subst (λ n. i < n) (long ∙ sym count) l)
    ∙ start-waits rows shared before.starts.keys lists (length c.args.apart.now) (sym long) c.new-walk.result.masks before.masks c.new-walk.ensures.none same c.in_ok-mark_apart.ensures.marked p i l)
    c.in_ok-found.ensures.part
