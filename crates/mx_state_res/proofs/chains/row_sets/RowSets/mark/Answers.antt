use Rattle.std.proofs.Common.{◌≡◌, ◌≤◌, ◌<◌, ◌==◌, ◌&&◌, ◌||◌, length, set, bit_or, get_or, sym, ap, ◌∙◌, arith, eqb-true}
use Rattle.std.proofs.lemmas.Grind.{get_or_default_zero}
use Rattle.mx_state_res.specs.RowSets.{has_state, is_reached, weight}
use Rattle.mx_state_res.proofs.StateSetLemmas.{same-reached, set-reached, set-counted, counted-le, weight-le}
use Rattle.mx_state_res.proofs.chains.row_sets.RowSets.mark.Goals as goal

pub returns-then-eq-clause-reached : goal.returns-then-eq-clause-reached
returns-then-eq-clause-reached c p i =
    let sets = c.args.self.now.sets.items in
    let event = c.index-place.result in
    let is : event ≡ c.args.event = c.index-place.ensures.index in
    let row : event < length sets = omega (arith, c.requires.row) in
    let here : c.index.result.now ≡ get_or sets event 0 = c.index.ensures ∙ get_or_default_zero sets event _ row in
    let joined : c.with-after.result ≡ bit_or (get_or sets event 0) c.args.states = c.with-after.ensures ∙ ap (λ n. bit_or n c.args.states) here in
    let same : c.with-after.result ≡ c.index.result.now = eqb-true _ _ (sym c.eq.ensures ∙ c.if-eq.true) in
    same-reached c.args.self.now.states c.args.self.now.all sets c.args.self.now.unsettled event c.args.states c.requires.counted c.requires.fits row (sym joined ∙ same ∙ here) p i
    ∙ ap (λ e. is_reached sets p i || ((e == p) && has_state c.args.states i)) is

pub overflow_add-self : goal.overflow_add-self
overflow_add-self c =
    let few : c.args.self.now.unsettled ≤ length c.args.self.now.sets.items = counted-le c.args.self.now.states c.args.self.now.all c.args.self.now.sets.items c.args.self.now.unsettled c.requires.counted in
    let light : weight c.args.self.now.all c.with-after.result ≤ 1 = weight-le c.args.self.now.all c.with-after.result in
    omega (arith, c.args.self.now.sets.ok.0, c.args.self.now.sets.small, c.weight_of-2.ensures)

pub returns-clause-counted : goal.returns-clause-counted
returns-clause-counted c =
    let sets = c.args.self.now.sets.items in
    let all = c.args.self.now.all in
    let event = c.index-place.result in
    let row : event < length sets = omega (arith, c.requires.row, c.index-place.ensures.index) in
    let here : c.index.result.now ≡ get_or sets event 0 = c.index.ensures ∙ get_or_default_zero sets event _ row in
    let joined : c.with-after.result ≡ bit_or (get_or sets event 0) c.args.states = c.with-after.ensures ∙ ap (λ n. bit_or n c.args.states) here in
    rw (c.weight_of.ensures, c.weight_of-2.ensures, joined, here)
    (set-counted c.args.self.now.states all sets c.args.self.now.unsettled event c.args.states c.requires.counted c.requires.fits row)

pub returns-clause-reached : goal.returns-clause-reached
returns-clause-reached c p i =
    let sets = c.args.self.now.sets.items in
    let event = c.index-place.result in
    let is : event ≡ c.args.event = c.index-place.ensures.index in
    let row : event < length sets = omega (arith, c.requires.row) in
    let here : c.index.result.now ≡ get_or sets event 0 = c.index.ensures ∙ get_or_default_zero sets event _ row in
    let joined : c.with-after.result ≡ bit_or (get_or sets event 0) c.args.states = c.with-after.ensures ∙ ap (λ n. bit_or n c.args.states) here in
    ap (λ n. is_reached (set sets event n) p i) joined
    ∙ set-reached c.args.self.now.states c.args.self.now.all sets c.args.self.now.unsettled event c.args.states c.requires.counted c.requires.fits row p i
    ∙ ap (λ e. is_reached sets p i || ((e == p) && has_state c.args.states i)) is
