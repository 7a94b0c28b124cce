use Rattle.std.proofs.Common.{◌≡◌, ◌<◌, ◌∷◌, [], ◌++◌, ◌⊎◌, inl, inr, ℕ, true, false, length, set, ap, sym, subst, ◌∙◌, arith}
use Rattle.std.proofs.lemmas.List.{length-set}
use Rattle.std.specs.Ordering.{nat_cmp, is_eq}
use Rattle.std.specs.BTreeSet.{contains}
use Rattle.mx_export.specs.Arranging.{IsHeld, IsSound, cites_place, is_in, is_left, is_ready, listed, waits_for}
use Rattle.mx_export.proofs.ArrangingLemmas.{one_more_ready, one_more_waits, added-cases}
use Rattle.mx_export.proofs.LeftLemmas.{left-within, listed-at, push-cases, push-has, push-keeps}
use Rattle.mx_export.proofs.arranging.settle.Goals as goal

pub returns-in_ok-push-in-Some-clause-sound : goal.returns-in_ok-push-in-Some-clause-sound
returns-in_ok-push-in-Some-clause-sound c =
    let s = c.args.arranging.now in
    let h = c.requires.sound in
    let away : is_left s.written.items c.in-Some.awaited ≡ true = subst (λ ws. is_left ws c.in-Some.awaited ≡ true) c.deref.ensures.value c.in-Some.ensures.left in
    let here : c.args.place < length c.args.cited.now = let l = left-within s.written.items c.args.place c.requires.left in let k = h.citing in omega (arith, l, k) in
    let there : c.in-Some.awaited < length s.waiting.items = let l = left-within s.written.items c.in-Some.awaited away in let k = h.places in omega (arith, l, k) in
    let cited : is_in (listed c.args.cited.now c.args.place) c.in-Some.awaited ≡ true =
    ap (λ xs. is_in xs c.in-Some.awaited) (listed-at c.args.cited.now c.args.place c.index-cited-place.result here c.index-cited-place.is ∙ sym c.deref-2.ensures.value) ∙ c.in-Some.ensures.there in
    let grown = c.in_ok-push-in-Some.ensures.items ∙ ap (λ xs. xs ++ c.args.place ∷ []) (sym (listed-at s.waiting.items c.in-Some.awaited c.index_mut.result.now there c.index_mut.ensures.value)) in
    record {
      places = length-set s.waiting.items c.in-Some.awaited c.push.new.self ∙ h.places;
      citing = h.citing;
      consistent =
          one_more_waits (cites_place c.args.cited.now) s.written.items (is_ready s) (waits_for s) h.consistent _ c.args.place c.in-Some.awaited c.requires.left away cited
          (push-cases s.waiting.items c.in-Some.awaited c.args.place c.push.new.self there grown);
    }

pub returns-in_ok-push-in-Some-clause-held : goal.returns-in_ok-push-in-Some-clause-held
returns-in_ok-push-in-Some-clause-held c =
    let s = c.args.arranging.now in
    let h = c.requires.sound in
    let away : is_left s.written.items c.in-Some.awaited ≡ true = subst (λ ws. is_left ws c.in-Some.awaited ≡ true) c.deref.ensures.value c.in-Some.ensures.left in
    let there : c.in-Some.awaited < length s.waiting.items = let l = left-within s.written.items c.in-Some.awaited away in let k = h.places in omega (arith, l, k) in
    let grown = c.in_ok-push-in-Some.ensures.items ∙ ap (λ xs. xs ++ c.args.place ∷ []) (sym (listed-at s.waiting.items c.in-Some.awaited c.index_mut.result.now there c.index_mut.ensures.value)) in
    inr (c.in-Some.awaited, push-has s.waiting.items c.in-Some.awaited c.args.place c.push.new.self there grown)

pub returns-in_ok-push-in-Some-clause-kept : goal.returns-in_ok-push-in-Some-clause-kept
returns-in_ok-push-in-Some-clause-kept c p held =
    let s = c.args.arranging.now in
    let h = c.requires.sound in
    let away : is_left s.written.items c.in-Some.awaited ≡ true = subst (λ ws. is_left ws c.in-Some.awaited ≡ true) c.deref.ensures.value c.in-Some.ensures.left in
    let there : c.in-Some.awaited < length s.waiting.items = let l = left-within s.written.items c.in-Some.awaited away in let k = h.places in omega (arith, l, k) in
    let grown = c.in_ok-push-in-Some.ensures.items ∙ ap (λ xs. xs ++ c.args.place ∷ []) (sym (listed-at s.waiting.items c.in-Some.awaited c.index_mut.result.now there c.index_mut.ensures.value)) in
    elim held [
      | inl r ↦ inl r
      | inr w ↦ inr (w.0, push-keeps s.waiting.items c.in-Some.awaited c.args.place c.push.new.self there grown p w.0 w.1)
    ]

pub returns-in_ok-insert-in-None-clause-sound : goal.returns-in_ok-insert-in-None-clause-sound
returns-in_ok-insert-in-None-clause-sound c =
    let s = c.args.arranging.now in
    let h = c.requires.sound in
    let here : c.args.place < length c.args.cited.now = let l = left-within s.written.items c.args.place c.requires.left in let k = h.citing in omega (arith, l, k) in
    let there = listed-at c.args.cited.now c.args.place c.index-cited-place.result here c.index-cited-place.is ∙ sym c.deref-2.ensures.value in
    record {
      places = h.places;
      citing = h.citing;
      consistent =
          one_more_ready (cites_place c.args.cited.now) s.written.items (is_ready s) (waits_for s) h.consistent (contains nat_cmp c.insert.new.self) c.args.place c.requires.left
          (λ q cites. subst (λ ws. is_left ws q ≡ false) c.deref.ensures.value (c.in-None.ensures.none q (sym (ap (λ xs. is_in xs q) there) ∙ cites)))
          (added-cases (contains nat_cmp s.ready) (contains nat_cmp c.insert.new.self) c.args.place c.in_ok-insert-in-None.ensures.updates.0);
    }
