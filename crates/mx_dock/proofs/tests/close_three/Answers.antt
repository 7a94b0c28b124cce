use Rattle.std.proofs.Common.{◌≡◌, ◌∷◌, [], ◌++◌, sym, ap, ◌∙◌, subst}
use Rattle.mx_dock.specs.Dock.{own, given_back, made, HasEach}
use Rattle.mx_dock.proofs.BerthLemmas.{HasEach-in_order}
use Rattle.mx_dock.proofs.tests.close_three.Goals as goal

pub close-requires-clause-all : goal.close-requires-clause-all
close-requires-clause-all g c =
    let first = c.give_back-2.new.first in
    let second = own c.args.second in
    let third = own c.args.third in
    let same : own first ≡ own c.args.first = c.give_back-2.ensures.own ∙ c.give_back.ensures.own in
    let others : given_back first ≡ second ∷ third ∷ [] = c.give_back-2.ensures.given ∙ ap (λ l. l ++ third ∷ []) (c.give_back.ensures.given ∙ ap (λ l. l ++ second ∷ []) c.requires.first.0.2) in
    let count : made first ≡ 3 = ap (λ b. b.made) same ∙ c.requires.made in
    subst (λ l. HasEach (made first) (own first ∷ l)) (sym others)
    (HasEach-in_order (own first ∷ second ∷ third ∷ []) (made first) (ap (λ b. b.number) same ∙ c.requires.first.2, (c.requires.second.2, (c.requires.third.2, tt))) (sym count))
