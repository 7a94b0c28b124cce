use Rattle.std.proofs.Common.{◌≡◌, ◌+◌, ◌++◌, ℕ, [], ◌∷◌, Vec, map, take, sym, ap, subst, subst₂, ◌∙◌, refl, arith, rules}
use Rattle.std.proofs.lemmas.List.{map-append, take_more}
use Rattle.std.specs.declared.alloc.Global.{Global}
use Rattle.mx_states.specs.Numbered.{state_at}
use Rattle.mx_state_res.specs.Numbered.{HaveSameEvents, event_parts}
use Rattle.mx_state_res.proofs.PartLemmas.{parts-more}
use Rattle.mx_state_res.proofs.conflicts.state_parts.event_parts.Goals as goal

pub loop-number-init : goal.loop-number-init
loop-number-init c =
    subst (λ qs. HaveSameEvents qs (event_parts c.args.keys.now (state_at c.args.states.now c.args.base) [])) (sym c.in_ok-parts.ensures) (λ p. refl, tt)

pub loop-number-preserved : goal.loop-number-preserved
loop-number-preserved c =
    let at = state_at c.args.states.now in
    let numbers = c.args.others.now in
    let i = c.loop-number.number-index in
    let n = c.number-item.result in
    let pushed : c.push.new.self.items ≡ c.loop-number.parts.items ++ c.in_ok-part.part ∷ [] = search rules in
    let next : map at (take (i + 1) numbers) ≡ map at (take i numbers) ++ at n ∷ [] =
    ap (map at) (take_more numbers i n (omega arith) ∙ ap (λ m. take i numbers ++ m ∷ []) (sym c.number-item.is)) ∙ map-append at (take i numbers) (n ∷ []) in
    subst₂ (λ qs ts. HaveSameEvents qs (event_parts c.args.keys.now (at c.args.base) ts))
    (sym (ap (map (λ (v : Vec ℕ Global). v.items)) pushed ∙ map-append (λ (v : Vec ℕ Global). v.items) c.loop-number.parts.items (c.in_ok-part.part ∷ []))) (sym next)
    (parts-more c.args.keys.now (at c.args.base) (map at (take i numbers)) (at n)
    (map (λ (v : Vec ℕ Global). v.items) c.loop-number.parts.items) c.in_ok-part.part.items c.loop-number.invariant c.in_ok-part.ensures)
