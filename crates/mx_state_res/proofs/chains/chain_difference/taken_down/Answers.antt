use Rattle.std.proofs.Common.{◌≡◌, ◌<◌, ◌≤◌, ◌||◌, ◌&&◌, ℕ, List, [], ◌∷◌, Bool, true, not, length, reverse, refl, sym, ap, ap₂, subst, ◌∙◌, arith}
use Rattle.std.proofs.lemmas.List.{reverse-append}
use Rattle.std.specs.List.{list_any, list_all}
use Rattle.mx_graph.specs.Record.{is_in}
use Rattle.mx_graph.specs.Edges.{LeadDown}
use Rattle.mx_state_res.specs.ChainDifference.{cites, is_cited}
use Rattle.mx_state_res.specs.Masks.{has, waits, is_due, is_there, AreKept}
use Rattle.mx_state_res.proofs.MaskLemmas.{settled-common}
use Rattle.mx_state_res.proofs.WalkStepLemmas.{IsWalk, height, height-bound, height-there, walk-begins, starts-low, starts-there, step_below, walk-puts, walk-passes, walk-starts, walk-ends}
use Rattle.mx_state_res.proofs.chains.chain_difference.taken_down.Goals as goal
use Rattle.mx_state_res.proofs.chains.chain_difference.taken_down.Goals.{then-differs+in_ok-push, else-differs}

pub loop-taken-init : goal.loop-taken-init
loop-taken-init c =
    record {
      states = refl;
      kept = c.requires.kept;
      known = c.requires.known;
      starts = c.requires.starts;
      low = c.requires.low;
      walk = rw c.new-found.ensures.items (walk-begins (cites c.args.graph.now) (λ x y e. (c.requires.sound.auth x y e).1) c.args.walk.states c.args.walk.masks c.args.walk.starts.keys (length c.args.graph.now) c.requires.known c.requires.starts);
    }

pub loop-taken-smaller : goal.loop-taken-smaller
loop-taken-smaller c =
    let rows = c.args.graph.now in
    let t = c.in-Some.taken.event in
    let mask = c.in-Some.taken.mask.items in
    let starts = c.loop-taken.walk.starts.keys in
    let mid = c.next.new.self.masks in
    let new = c.mark_all.new.self.masks in
    let down : LeadDown (cites rows) = λ x y e. (c.requires.sound.auth x y e).1 in
    let wide : length mask ≡ c.args.walk.states = omega (arith, c.in-Some.taken.mask.ok.0, c.in-Some.ensures.wide, c.loop-taken.invariant.states) in
    let there : (p : ℕ) → is_there new p ≡ (is_there mid p || is_in (cites rows t) p) = λ p. c.in_ok-mark_all.ensures.there p ∙ ap (λ xs. is_there mid p || is_in xs p) c.auth_events.ensures.cited in
    let marked : (p i : ℕ) → waits new p i ≡ (waits mid p i || (is_in (cites rows t) p && has mask i)) =
    λ p i. c.in_ok-mark_all.ensures.marked p i ∙ ap₂ (λ xs m. waits mid p i || (is_in xs p && has m i)) c.auth_events.ensures.cited c.deref-in-Some.ensures.value in
    let low : (s : ℕ) → is_in starts s ≡ true → s ≤ t = starts-low c.loop-taken.walk.masks mid starts t mask c.in-Some.ensures.taken c.in-Some.ensures.unsettled c.loop-taken.invariant.low in
    let below : (p : ℕ) → is_there new p ≡ true → p < t =
    step_below (cites rows) down c.args.walk.states (is_due (cites rows) c.args.walk.masks c.args.walk.starts.keys) c.loop-taken.walk.masks mid new starts (reverse c.loop-taken.found.items) t mask
    c.loop-taken.invariant.walk c.in-Some.ensures.taken low wide there marked in
    let last : (p : ℕ) → is_there c.mark_starts.new.walk.masks p ≡ true → p < t =
    starts-there (cites rows) down c.args.walk.states new c.mark_starts.new.walk.masks starts c.mark_starts.new.walk.starts.keys
    (λ p. c.in_ok-mark_starts.ensures.there p ∙ ap (λ ks. is_there new p || is_cited rows ks p) (ap (λ ss. ss.keys) (c.mark_all.ensures.starts ∙ c.next.ensures.starts))) t below low in
    let small : height c.mark_starts.new.walk.masks ≤ t = height-bound c.mark_starts.new.walk.masks t last in
    let high : t < height c.loop-taken.walk.masks = height-there c.loop-taken.walk.masks t c.in-Some.ensures.taken.was_there in
    omega arith

pub loop-taken-preserved : goal.loop-taken-preserved
loop-taken-preserved c =
    let rows = c.args.graph.now in
    let t = c.in-Some.taken.event in
    let mask = c.in-Some.taken.mask.items in
    let states = c.args.walk.states in
    let first = is_due (cites rows) c.args.walk.masks c.args.walk.starts.keys in
    let old = c.loop-taken.walk.masks in
    let starts = c.loop-taken.walk.starts.keys in
    let mid = c.next.new.self.masks in
    let new = c.mark_all.new.self.masks in
    let after = c.mark_starts.new.walk in
    let down : LeadDown (cites rows) = λ x y e. (c.requires.sound.auth x y e).1 in
    let wide : length mask ≡ states = omega (arith, c.in-Some.taken.mask.ok.0, c.in-Some.ensures.wide, c.loop-taken.invariant.states) in
    let there : (p : ℕ) → is_there new p ≡ (is_there mid p || is_in (cites rows t) p) = λ p. c.in_ok-mark_all.ensures.there p ∙ ap (λ xs. is_there mid p || is_in xs p) c.auth_events.ensures.cited in
    let marked : (p i : ℕ) → waits new p i ≡ (waits mid p i || (is_in (cites rows t) p && has mask i)) =
    λ p i. c.in_ok-mark_all.ensures.marked p i ∙ ap₂ (λ xs m. waits mid p i || (is_in xs p && has m i)) c.auth_events.ensures.cited c.deref-in-Some.ensures.value in
    let same : c.mark_all.new.self.starts.keys ≡ starts = ap (λ ss. ss.keys) (c.mark_all.ensures.starts ∙ c.next.ensures.starts) in
    let count : c.mark_all.new.self.states ≡ states = c.mark_all.ensures.states ∙ c.next.ensures.states ∙ c.loop-taken.invariant.states in
    let low : (s : ℕ) → is_in starts s ≡ true → s ≤ t = starts-low old mid starts t mask c.in-Some.ensures.taken c.in-Some.ensures.unsettled c.loop-taken.invariant.low in
    let below : (p : ℕ) → is_there new p ≡ true → p < t =
    step_below (cites rows) down states first old mid new starts (reverse c.loop-taken.found.items) t mask c.loop-taken.invariant.walk c.in-Some.ensures.taken low wide there marked in
    let taken : (p : ℕ) → (is_there after.masks p || is_cited rows after.starts.keys p) ≡ (is_there new p || is_cited rows starts p) =
    λ p. c.in_ok-mark_starts.ensures.there p ∙ ap (λ ks. is_there new p || is_cited rows ks p) same in
    let fewer : (s : ℕ) → is_in after.starts.keys s ≡ true → is_in starts s ≡ true = λ s m. sym (ap (λ ks. is_in ks s) same) ∙ c.in_ok-mark_starts.ensures.fewer s m in
    let due : (p i : ℕ) → i < states → is_due (cites rows) after.masks after.starts.keys p i ≡ is_due (cites rows) new starts p i =
    λ p i l. c.in_ok-mark_starts.ensures.due p i (subst (λ n. i < n) (sym count) l) ∙ ap (λ ks. is_due (cites rows) new ks p i) same in
    let test : List Bool → Bool = λ m. list_any (λ b. b) m && not (list_all (λ b. b) m) in
    let tested : test mask ≡ c.differs.result = ap test (sym c.deref.ensures.value) ∙ sym c.differs.ensures in
    let found = c.loop-taken.found.items in
    record {
      states = c.in_ok-mark_starts.ensures.states ∙ count;
      kept = c.in_ok-mark_starts.ensures.kept;
      known = λ p e.
          let l : p < t = starts-there (cites rows) down states new after.masks starts after.starts.keys taken t below low p e in
          let high : t < length rows = c.loop-taken.invariant.known t c.in-Some.ensures.taken.was_there in
          omega arith;
      starts = λ s m. c.loop-taken.invariant.starts s (fewer s m);
      low = c.in_ok-mark_starts.ensures.low;
      walk = elim c.if-differs.branch [
        | then-differs+in_ok-push w ↦
            subst (IsWalk (cites rows) states first after.masks after.starts.keys) (sym (ap (λ v. reverse v.items) w.found-is ∙ ap reverse w.in_ok-push.ensures.items ∙ reverse-append found (t ∷ [])))
            (walk-starts (cites rows) down states new after.masks starts after.starts.keys taken first (t ∷ reverse found)
            (walk-puts (cites rows) down states first old mid new starts (reverse found) t mask c.loop-taken.invariant.walk c.in-Some.ensures.taken low wide there marked (tested ∙ w.if-differs.true)) fewer due)
        | else-differs w ↦
            subst (IsWalk (cites rows) states first after.masks after.starts.keys) (sym (ap (λ v. reverse v.items) w.found-is))
            (walk-starts (cites rows) down states new after.masks starts after.starts.keys taken first (reverse found)
            (walk-passes (cites rows) down states first old mid new starts (reverse found) t mask c.loop-taken.invariant.walk c.in-Some.ensures.taken low wide there marked (tested ∙ w.if-differs.false)) fewer due)
      ];
    }

pub returns-clause-part : goal.returns-clause-part
returns-clause-part c =
    walk-ends (cites c.args.graph.now) (λ x y e. (c.requires.sound.auth x y e).1) c.args.walk.states (is_due (cites c.args.graph.now) c.args.walk.masks c.args.walk.starts.keys) c.loop-taken.walk.masks c.loop-taken.walk.starts.keys (reverse c.loop-taken.found.items) c.loop-taken.invariant.walk
    (settled-common c.args.walk.states c.loop-taken.walk.masks c.loop-taken.walk.unsettled (subst (λ n. AreKept n c.loop-taken.walk.masks c.loop-taken.walk.unsettled) c.loop-taken.invariant.states c.loop-taken.invariant.kept) c.in_default.ensures.settled)
