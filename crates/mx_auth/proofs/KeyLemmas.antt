-- Keys of a state, as a program holds them.
use Rattle.std.proofs.Common.{◌≡◌, ℕ, ◌+◌, ◌<◌, ◌≤◌, ap, ◌∙◌, arith, add-one, map, take, length, set, List, [], ◌∷◌, ◌++◌}
use Rattle.std.proofs.Math.Seq.{take-suc-set}
use Rattle.std.proofs.lemmas.List.{map-append, length-map, length-take-le}
use Rattle.mx_pdu.specs.StateKeys.{Key}
use Rattle.mx_auth.specs.Keys.{key_shown}
use Rattle.mx_auth.specs.declared.selecting.StateKey.{StateKey}

pub room_left : (keys : List StateKey) (count : ℕ) (shown : List Key) → count ≤ 5 → length keys ≡ 5 → map key_shown (take count keys) ≡ shown → length shown < 5 → count < 5
room_left keys count shown h k e l =
    let shown_length : length (map key_shown (take count keys)) ≡ count = length-map (take count keys) key_shown ∙ length-take-le count keys (omega arith) in
    let same = ap length e in omega arith

pub one_more : (keys : List StateKey) (count : ℕ) (key : StateKey) → count < length keys → map key_shown (take (count + 1) (set keys count key)) ≡ map key_shown (take count keys) ++ key_shown key ∷ []
one_more keys count key h = rw (add-one, take-suc-set) (map-append key_shown (take count keys) (key ∷ []))
