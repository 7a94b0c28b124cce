use Rattle.std.proofs.Common.{rules, ◌≡◌, ℕ, List, length, ◌++◌, ◌∷◌, [], sym, subst, ◌∙◌, ap}
use Rattle.std.specs.List.{insert}
use Rattle.mx_pdu.specs.StateKeys.{Key}
use Rattle.mx_states.specs.KeyNumbers.{AreIndexed}
use Rattle.mx_states.specs.MemberKeys.{is_member_key}
use Rattle.mx_states.specs.MemberLists.{listed, with_number}
use Rattle.mx_states.proofs.KeyNumberLemmas.{indexed-added}
use Rattle.mx_states.proofs.states.state_keys.add_key.Goals as goal

pub returns-clause-indexed : goal.returns-clause-indexed
returns-clause-indexed c =
    let key : Key = (c.args.kind.now, c.args.state_key.now) in
    let keys = c.args.keys.now.items in
    let numbers = c.args.order.now.items in
    let before = listed c.args.members.now in
    let after = listed c.add.new.self in
    let keys_are : c.push.new.self.items ≡ keys ++ key ∷ [] = search rules in
    let numbers_are : c.insert.new.self.items ≡ insert numbers c.args.place (length keys) = search rules in
    let number_is : c.at-number.result ≡ length keys = search rules in
    let step : (server : List ℕ) → after server ≡ with_number (is_member_key server key) (length keys) (before server) =
    λ server. c.in_ok-add.ensures.ok server ∙ ap (λ n. with_number (is_member_key server key) n (before server)) number_is in
    subst (λ ks. AreIndexed ks c.insert.new.self.items after) (sym keys_are)
    (subst (λ ns. AreIndexed (keys ++ key ∷ []) ns after) (sym numbers_are) (indexed-added keys numbers before after key c.args.place c.requires.indexed c.requires.gap step))
