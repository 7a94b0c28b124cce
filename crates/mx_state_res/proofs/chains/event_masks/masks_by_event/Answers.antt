use Rattle.std.proofs.Common.{◌≡◌, ◌<◌, ◌==◌, ◌||◌, [], ℕ, Vec, Bool, false, length, map, get_or, refl, sym, ap, subst, ◌∙◌, arith}
use Rattle.std.proofs.lemmas.List.{get_or-map, length-map}
use Rattle.std.specs.declared.alloc.Global.{Global}
use Rattle.mx_graph.specs.Record.{is_in}
use Rattle.mx_state_res.specs.EventMasks.{is_had}
use Rattle.mx_state_res.proofs.ApartLemmas.{apart-below, apart-rest}
use Rattle.mx_state_res.proofs.EventMaskLemmas.{one-more}
use Rattle.mx_state_res.proofs.chains.event_masks.masks_by_event.Goals as goal

pub loop-i-preserved : goal.loop-i-preserved
loop-i-preserved c =
    let i = c.loop-i.i in
    let events = c.deref.result.now in
    let lists = map (λ (events : Vec ℕ Global). events.items) c.args.sets.now in
    let first : ℕ → ℕ → Bool = λ p j. false in
    let old = is_had c.loop-i.gathered.masks in
    let new = is_had c.add_all.new.self.masks in
    let mask : ℕ → Bool = λ j. i == j in
    let within : i < length c.args.sets.now = omega arith in
    let here : get_or lists i [] ≡ events = get_or-map (λ (events : Vec ℕ Global). events.items) c.args.sets.now i c.index-sets-i.result [] within ∙ ap (λ (v : Vec ℕ Global). v.items) (sym c.index-sets-i.is) ∙ sym c.deref.ensures.value in
    let listed : i < length lists = subst (λ n. i < n) (sym (length-map c.args.sets.now (λ (events : Vec ℕ Global). events.items))) within in
    record {
      sets = c.add_all.ensures.sets ∙ c.loop-i.invariant.sets;
      wide = c.in_ok-add_all.ensures.wide;
      there = λ p. c.in_ok-add_all.ensures.there p ∙ ap (λ b. b || is_in events p) (c.loop-i.invariant.there p) ∙ sym (one-more lists i events listed here p);
      below = apart-below is_in lists i events here first old new mask (λ j. refl) c.in_ok-add_all.ensures.had c.loop-i.invariant.below c.loop-i.invariant.others;
      others = apart-rest is_in lists i events here first old new mask (λ j. refl) c.in_ok-add_all.ensures.had c.loop-i.invariant.below c.loop-i.invariant.others;
    }
