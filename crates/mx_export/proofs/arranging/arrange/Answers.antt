use Rattle.std.proofs.Common.{◌≡◌, ◌++◌, ◌∷◌, [], ◌⊎◌, inl, inr, ◌<◌, ◌≤◌, ◌+◌, ◌-◌, suc, ℕ, true, false, length, replicate, set, append_assoc, append-nil, ap, sym, subst, ◌∙◌, arith, refl}
use Rattle.std.proofs.lemmas.List.{length-replicate}
use Rattle.std.proofs.Math.Nat.{eq-or-lt_of_le}
use Rattle.std.specs.List.{range_with_len}
use Rattle.mx_export.specs.Arrangement.{arranged}
use Rattle.mx_export.specs.Arranging.{IsHeld, IsSound, cites_place, is_in, is_left, is_ready, lefts, listed, waits_for}
use Rattle.mx_export.proofs.ArrangingLemmas.{arranged-next, arranged-none, next-none, next-ready, ready-waits}
use Rattle.mx_export.proofs.LeftLemmas.{left-replicate, left-set, left-set-other, left-set-same, left-within, lefts-replicate}
use Rattle.mx_export.proofs.arranging.arrange.Goals as goal

pub settle-requires-clause-left : goal.settle-requires-clause-left
settle-requires-clause-left c =
    subst (λ ws. is_left ws c.loop-place.place ≡ true) (sym c.loop-place.invariant.written) (left-replicate (length c.args.cited.now) c.loop-place.place c.loop-place-test.true)

pub loop-place-preserved : goal.loop-place-preserved
loop-place-preserved c =
    let h = c.loop-place.invariant in
    let e = c.in_ok-settle.ensures in
    record {
      sound = e.sound;
      written = e.written ∙ h.written;
      held = λ p l. held p (eq-or-lt_of_le (below p l));
    }
  where
    below : (p : ℕ) → p < c.loop-place.place + 1 → p ≤ c.loop-place.place
    below p l = omega (arith, l)

    held : (p : ℕ) → (p ≡ c.loop-place.place) ⊎ (p < c.loop-place.place) → IsHeld c.settle.new.arranging p
    held p (inl k) = subst (IsHeld c.settle.new.arranging) (sym k) c.in_ok-settle.ensures.held
    held p (inr l) = c.in_ok-settle.ensures.kept p (c.loop-place.invariant.held p l)

pub loop-init : goal.loop-init
loop-init c =
    let h = c.loop-place.invariant in
    let n = length c.args.cited.now in
    record {
      sound = h.sound;
      held = λ p left. h.held p (within p left);
      so_far =
          ap (λ xs. xs ++ arranged (cites_place c.args.cited.now) (n - 0) (lefts 0 c.loop-place.arranging.written.items)) c.in_ok-order.ensures.items
          ∙ ap (λ m. arranged (cites_place c.args.cited.now) m (lefts 0 c.loop-place.arranging.written.items)) all
          ∙ ap (arranged (cites_place c.args.cited.now) n) (ap (lefts 0) h.written ∙ lefts-replicate 0 n);
    }
  where
    all : length c.args.cited.now - 0 ≡ length c.args.cited.now
    all = omega arith

    within : (p : ℕ) → is_left c.loop-place.arranging.written.items p ≡ true → p < c.loop-place.place
    within p left =
        let l = left-within c.loop-place.arranging.written.items p left in
        let k = ap length c.loop-place.invariant.written ∙ length-replicate (length c.args.cited.now) false in
        let m = c.loop-place-test.false in
        omega (arith, l, k, m)

pub returns-in_default : goal.returns-in_default
returns-in_default c =
    let h = c.loop.invariant in
    let n = length c.args.cited.now - c.loop.counter in
    let s = c.loop.arranging in
    let cites = cites_place c.args.cited.now in
    let none : arranged cites n (lefts 0 s.written.items) ≡ [] =
    arranged-none cites n (lefts 0 s.written.items) (next-none cites s.written.items (is_ready s) (waits_for s) h.sound.consistent h.held c.in_default.ensures.none) in
    sym (append-nil c.loop.order.items) ∙ ap (λ xs. c.loop.order.items ++ xs) (sym none) ∙ h.so_far

pub settle_all-requires-clause-left : goal.settle_all-requires-clause-left
settle_all-requires-clause-left c p there =
    let h = c.loop.invariant in
    let s = c.loop.arranging in
    let waits : waits_for s p c.in-Some.next.place ≡ true = sym (c.in-Some.ensures.released p) ∙ ap (λ xs. is_in xs p) (sym c.deref.ensures.value) ∙ there in
    subst (λ ws. is_left ws p ≡ true) (sym c.in-Some.ensures.written)
    (left-set-other s.written.items c.in-Some.next.place p
    (ready-waits (cites_place c.args.cited.now) s.written.items (is_ready s) (waits_for s) h.sound.consistent c.in-Some.next.place p c.in-Some.next.place c.in-Some.ensures.ready waits)
    (h.sound.consistent.waiting_left p c.in-Some.next.place waits))

pub loop-preserved : goal.loop-preserved
loop-preserved c = record {
  sound = c.in_ok-settle_all.ensures.sound;
  held = λ p left. held p (subst (λ ws. is_left ws p ≡ true) (c.in_ok-settle_all.ensures.written ∙ c.in-Some.ensures.written) left);
  so_far =
      ap (λ xs. xs ++ arranged (cites_place c.args.cited.now) fewer (lefts 0 c.settle_all.new.arranging.written.items)) c.in_ok-push.ensures.items
      ∙ ap (λ ws. (c.loop.order.items ++ c.in-Some.next.place ∷ []) ++ arranged (cites_place c.args.cited.now) fewer (lefts 0 ws)) (c.in_ok-settle_all.ensures.written ∙ c.in-Some.ensures.written)
      ∙ append_assoc c.loop.order.items (c.in-Some.next.place ∷ []) (arranged (cites_place c.args.cited.now) fewer (lefts 0 (set c.loop.arranging.written.items c.in-Some.next.place true)))
      ∙ ap (λ xs. c.loop.order.items ++ xs) (sym next)
      ∙ c.loop.invariant.so_far;
}
  where
    fewer : ℕ
    fewer = length c.args.cited.now - (c.loop.counter + 1)

    one_more : suc fewer ≡ length c.args.cited.now - c.loop.counter
    one_more = let l = c.loop-test.true in omega (arith, l)

    next : arranged (cites_place c.args.cited.now) (length c.args.cited.now - c.loop.counter) (lefts 0 c.loop.arranging.written.items) ≡ c.in-Some.next.place ∷ arranged (cites_place c.args.cited.now) fewer (lefts 0 (set c.loop.arranging.written.items c.in-Some.next.place true))
    next =
        ap (λ n. arranged (cites_place c.args.cited.now) n (lefts 0 c.loop.arranging.written.items)) (sym one_more)
        ∙ arranged-next (cites_place c.args.cited.now) fewer (lefts 0 c.loop.arranging.written.items) (lefts 0 (set c.loop.arranging.written.items c.in-Some.next.place true)) c.in-Some.next.place
        (next-ready (cites_place c.args.cited.now) c.loop.arranging.written.items (is_ready c.loop.arranging) (waits_for c.loop.arranging) c.loop.invariant.sound.consistent c.loop.invariant.held c.in-Some.next.place c.in-Some.ensures.ready c.in-Some.ensures.least)

    after : (p : ℕ) → IsHeld c.write_next.new.arranging p ⊎ (is_in c.in-Some.next.released.items p ≡ true) → IsHeld c.settle_all.new.arranging p
    after p (inl k) = c.in_ok-settle_all.ensures.kept p k
    after p (inr k) = c.in_ok-settle_all.ensures.held p (ap (λ xs. is_in xs p) c.deref.ensures.value ∙ k)

    held : (p : ℕ) → is_left (set c.loop.arranging.written.items c.in-Some.next.place true) p ≡ true → IsHeld c.settle_all.new.arranging p
    held p left = after p (c.in-Some.ensures.held p apart (c.loop.invariant.held p (left-set c.loop.arranging.written.items c.in-Some.next.place p left)))
      where
        was : is_left c.loop.arranging.written.items c.in-Some.next.place ≡ true
        was = c.loop.invariant.sound.consistent.ready_left c.in-Some.next.place c.in-Some.ensures.ready

        apart : p ≡ c.in-Some.next.place → ⊥
        apart e = absurd (cc (sym left ∙ subst (λ i. is_left (set c.loop.arranging.written.items c.in-Some.next.place true) i ≡ false) (sym e) (left-set-same c.loop.arranging.written.items c.in-Some.next.place was)))

pub returns : goal.returns
returns c =
    let none : length c.args.cited.now - c.loop.counter ≡ 0 = let l = c.loop-test.false in omega (arith, l) in
    sym (append-nil c.loop.order.items)
    ∙ ap (λ n. c.loop.order.items ++ arranged (cites_place c.args.cited.now) n (lefts 0 c.loop.arranging.written.items)) (sym none)
    ∙ c.loop.invariant.so_far
