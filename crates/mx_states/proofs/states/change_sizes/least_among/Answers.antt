use Rattle.std.proofs.Common.{◌≡◌, ◌≤◌, ◌+◌, ◌++◌, ◌∷◌, [], ℕ, take, sym, ap, subst, ◌∙◌, arith}
use Rattle.std.proofs.lemmas.List.{take_more, take_all}
use Rattle.std.proofs.lemmas.List.Elements.{Contains-append_right, Contains-get_or}
use Rattle.std.specs.List.{All, Contains}
use Rattle.mx_states.specs.ChangedKeys.{size_at}
use Rattle.mx_states.proofs.ChangeLemmas.{least-step}
use Rattle.mx_states.proofs.states.change_sizes.least_among.Goals as goal
use Rattle.mx_states.proofs.states.change_sizes.least_among.Goals.{then-other-size, else-other-size}

pub loop-number-preserved : goal.loop-number-preserved
loop-number-preserved c =
    let edit = c.args.edit.now in
    let size : ℕ → ℕ = size_at edit.states.now edit.taken.now edit.puts.now in
    let i = c.loop-number.number-index in
    let n = c.number-item.result in
    let known = c.args.known in
    let numbers = c.args.others.now in
    let before = c.loop-number.size in
    let after = c.if-other-size.size in
    let next : known ∷ take (i + 1) numbers ≡ known ∷ (take i numbers ++ n ∷ []) =
    ap (λ ns. known ∷ ns) (take_more numbers i n (omega arith) ∙ ap (λ m. take i numbers ++ m ∷ []) (sym c.number-item.is)) in
    let sized : c.in_ok-other.other ≡ size n = c.in_ok-other.ensures in
    let among : Contains (known ∷ numbers) n =
    subst (Contains (known ∷ numbers)) (sym c.number-item.is) (Contains-append_right (known ∷ []) numbers _ (Contains-get_or numbers i n (omega arith))) in
    let least : after ≤ before → after ≤ size n → All (λ x. after ≤ size x) (known ∷ take (i + 1) numbers) =
    λ one other. subst (All (λ x. after ≤ size x)) (sym next) (least-step size (known ∷ take i numbers) n before after c.loop-number.invariant.least one other) in
    elim c.if-other-size.branch [
      | then-other-size w ↦ record {
        found = subst (Contains (known ∷ numbers)) (sym w.least-is) among;
        size = w.size-is ∙ sized ∙ ap size (sym w.least-is);
        least = let less = w.if-other-size.true in let is = w.size-is in least (omega (arith, less, is)) (omega (arith, is, sized));
      }
      | else-other-size w ↦ record {
        found = subst (Contains (known ∷ numbers)) (sym w.least-is) c.loop-number.invariant.found;
        size = w.size-is ∙ c.loop-number.invariant.size ∙ ap size (sym w.least-is);
        least = let less = w.if-other-size.false in let is = w.size-is in least (omega (arith, is)) (omega (arith, less, is, sized));
      }
    ]

pub returns-clause-least : goal.returns-clause-least
returns-clause-least c =
    let edit = c.args.edit.now in
    let size : ℕ → ℕ = size_at edit.states.now edit.taken.now edit.puts.now in
    subst (λ m. All (λ x. m ≤ size x) (c.args.known ∷ c.args.others.now)) c.loop-number.invariant.size
    (subst (λ ns. All (λ x. c.loop-number.size ≤ size x) (c.args.known ∷ ns))
    (take_all c.loop-number.number-index c.args.others.now c.loop-number-test.false) c.loop-number.invariant.least)
