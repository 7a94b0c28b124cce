use Rattle.std.proofs.Common.{◌≡◌, ◌<◌, ◌||◌, ◌&&◌, ◌-◌, ◌+◌, ◌^◌, ℕ, [], ◌∷◌, length, reverse, get_or, refl, sym, ap, subst, ◌∙◌, arith}
use Rattle.std.proofs.lemmas.List.{reverse-append, length-append}
use Rattle.mx_graph.specs.Record.{is_in}
use Rattle.mx_graph.specs.Edges.{LeadDown}
use Rattle.mx_state_res.specs.ChainDifference.{cites}
use Rattle.mx_state_res.specs.RowSets.{has_state, is_reached, is_partial}
use Rattle.mx_state_res.proofs.RowWalkLemmas.{IsRowWalk, rows-begin, last-fits, rows-put, rows-pass, rows-end}
use Rattle.mx_state_res.proofs.chains.dense_difference.partly_reached.Goals as goal
use Rattle.mx_state_res.proofs.chains.dense_difference.partly_reached.Goals.{then-is_partial+in_ok-push, else-is_partial}

pub loop-row-init : goal.loop-row-init
loop-row-init c =
    record {
      states = refl;
      counted = c.requires.counted;
      len = omega arith;
      walk = rw c.new-found.ensures.items (rows-begin (cites c.args.graph.now) (λ x y e. (c.requires.sound.auth x y e).1) c.args.rows.states c.args.rows.sets.items);
    }

pub mark_cited-requires-clause-fits : goal.mark_cited-requires-clause-fits
mark_cited-requires-clause-fits c =
    subst (λ n. c.in-Some.row.states < 2 ^ n) (sym c.pop.ensures.states)
    (last-fits c.loop-row.rows.states c.loop-row.rows.all c.loop-row.rows.sets.items c.pop.new.self.sets.items c.loop-row.rows.unsettled c.in-Some.row.states c.loop-row.invariant.counted c.in-Some.ensures.taken)

pub loop-row-preserved : goal.loop-row-preserved
loop-row-preserved c =
    let rows = c.args.graph.now in
    let states = c.args.rows.states in
    let first = is_reached c.args.rows.sets.items in
    let old = c.loop-row.rows.sets.items in
    let mid = c.pop.new.self.sets.items in
    let new = c.mark_cited.new.self.sets.items in
    let m = c.in-Some.row.states in
    let found = c.loop-row.found.items in
    let down : LeadDown (cites rows) = λ x y e. (c.requires.sound.auth x y e).1 in
    let count : c.loop-row.rows.states ≡ states = c.loop-row.invariant.states in
    let every : c.pop.new.self.all ≡ 2 ^ states - 1 = c.pop.ensures.all ∙ c.loop-row.invariant.counted.every ∙ ap (λ n. 2 ^ n - 1) count in
    let fits : m < 2 ^ states =
    subst (λ n. m < 2 ^ n) count (last-fits c.loop-row.rows.states c.loop-row.rows.all old mid c.loop-row.rows.unsettled m c.loop-row.invariant.counted c.in-Some.ensures.taken) in
    let event : c.in-Some.row.event ≡ length mid = c.in-Some.ensures.event in
    let marked : (p i : ℕ) → is_reached new p i ≡ (is_reached mid p i || (is_in (cites rows (length mid)) p && has_state m i)) =
    λ p i. c.mark_cited.ensures.reached p i ∙ ap (λ e. is_reached mid p i || (is_in (cites rows e) p && has_state m i)) event in
    let tested : is_partial (2 ^ states - 1) m ≡ c.is_partial.result = ap (λ n. is_partial n m) (sym every) ∙ sym c.is_partial.ensures in
    let long : length old ≡ length mid + 1 = ap length c.in-Some.ensures.taken ∙ length-append mid (m ∷ []) in
    record {
      states = c.mark_cited.ensures.states ∙ c.pop.ensures.states ∙ count;
      counted = c.mark_cited.ensures.counted;
      len = omega (arith, long, c.mark_cited.ensures.len, c.loop-row.invariant.len);
      walk = elim c.if-is_partial.branch [
        | then-is_partial+in_ok-push w ↦
            subst (IsRowWalk (cites rows) states first new) (sym (ap (λ v. reverse v.items) w.found-is ∙ ap reverse w.in_ok-push.ensures.items ∙ reverse-append found (c.in-Some.row.event ∷ []) ∙ ap (λ e. e ∷ reverse found) event))
            (rows-put (cites rows) down states first old mid new (reverse found) m fits c.loop-row.invariant.walk c.in-Some.ensures.taken c.mark_cited.ensures.len marked (tested ∙ w.if-is_partial.true))
        | else-is_partial w ↦
            subst (IsRowWalk (cites rows) states first new) (sym (ap (λ v. reverse v.items) w.found-is))
            (rows-pass (cites rows) down states first old mid new (reverse found) m fits c.loop-row.invariant.walk c.in-Some.ensures.taken c.mark_cited.ensures.len marked (tested ∙ w.if-is_partial.false))
      ];
    }

pub returns-clause-part : goal.returns-clause-part
returns-clause-part c =
    let every : c.loop-row.rows.all ≡ 2 ^ c.args.rows.states - 1 = c.loop-row.invariant.counted.every ∙ ap (λ n. 2 ^ n - 1) c.loop-row.invariant.states in
    rows-end (cites c.args.graph.now) (λ x y e. (c.requires.sound.auth x y e).1) c.args.rows.states (is_reached c.args.rows.sets.items) c.loop-row.rows.sets.items (reverse c.loop-row.found.items) c.loop-row.invariant.walk
    (λ p. ap (λ n. is_partial n (get_or c.loop-row.rows.sets.items p 0)) (sym every) ∙ c.in_default.ensures.settled p)
