use Rattle.std.proofs.Common.{◌≡◌, ◌<◌, [], ◌⊎◌, inl, inr, ℕ, true, false, length, set, ap, sym, subst, ◌∙◌, arith}
use Rattle.std.proofs.lemmas.List.{length-set}
use Rattle.std.specs.Ordering.{nat_cmp}
use Rattle.std.specs.BTreeSet.{contains}
use Rattle.mx_export.specs.Arranging.{IsHeld, IsSound, cites_place, is_in, is_left, is_ready, listed, waits_for}
use Rattle.mx_export.proofs.ArrangingLemmas.{one_more_written, removed-cases, removed-keeps}
use Rattle.mx_export.proofs.LeftLemmas.{left-within, listed-at, emptied-cases, emptied-keeps}
use Rattle.mx_export.proofs.arranging.write_next.Goals as goal

pub returns-clause-released : goal.returns-clause-released
returns-clause-released c p =
    let s = c.args.arranging.now in
    let within : c.in_ok-place.place < length s.waiting.items = let l = left-within s.written.items c.in_ok-place.place (c.requires.left c.in_ok-place.place c.in_ok-place.ensures.member) in let k = c.requires.places in omega (arith, l, k) in
    ap (λ v. is_in v.items p) c.replace-released.ensures.value ∙ ap (λ xs. is_in xs p) (sym (listed-at s.waiting.items c.in_ok-place.place c.index_mut-2.result.now within c.index_mut-2.ensures.value))

pub returns-clause-held : goal.returns-clause-held
returns-clause-held c p apart held =
    let s = c.args.arranging.now in
    let within : c.in_ok-place.place < length s.waiting.items = let l = left-within s.written.items c.in_ok-place.place (c.requires.left c.in_ok-place.place c.in_ok-place.ensures.member) in let k = c.requires.places in omega (arith, l, k) in
    let released : is_in c.replace-released.result.items p ≡ waits_for s p c.in_ok-place.place =
    ap (λ v. is_in v.items p) c.replace-released.ensures.value ∙ ap (λ xs. is_in xs p) (sym (listed-at s.waiting.items c.in_ok-place.place c.index_mut-2.result.now within c.index_mut-2.ensures.value)) in
    let none : c.replace-released.new.dest.items ≡ [] = ap (λ v. v.items) c.replace-released.ensures.after ∙ c.new.ensures.items in
    elim held [
      | inl r ↦ inl (inl (removed-keeps (is_ready s) (contains nat_cmp c.pop_first.new.self) c.in_ok-place.place c.in_ok-place.ensures.updates.0 p apart r))
      | inr w ↦
          elim (emptied-keeps s.waiting.items c.in_ok-place.place c.replace-released.new.dest within none p w.0 w.1) [
            | inl k ↦ inl (inr (w.0, k))
            | inr k ↦ inr (released ∙ k)
          ]
    ]

pub returns-clause-sound : goal.returns-clause-sound
returns-clause-sound c some cited h =
    let s = c.args.arranging.now in
    let within : c.in_ok-place.place < length s.waiting.items = let l = left-within s.written.items c.in_ok-place.place (c.requires.left c.in_ok-place.place c.in_ok-place.ensures.member) in let k = c.requires.places in omega (arith, l, k) in
    let none : c.replace-released.new.dest.items ≡ [] = ap (λ v. v.items) c.replace-released.ensures.after ∙ c.new.ensures.items in
    record {
      places = length-set s.waiting.items c.in_ok-place.place c.replace-released.new.dest ∙ h.places ∙ sym (length-set s.written.items c.in_ok-place.place true);
      citing = h.citing ∙ sym (length-set s.written.items c.in_ok-place.place true);
      consistent =
          one_more_written (cites_place cited) s.written.items (is_ready s) (waits_for s) h.consistent _ _ c.in_ok-place.place c.in_ok-place.ensures.member
          (removed-cases (is_ready s) (contains nat_cmp c.pop_first.new.self) c.in_ok-place.place c.in_ok-place.ensures.updates.0)
          (emptied-cases s.waiting.items c.in_ok-place.place c.replace-released.new.dest within none);
    }
