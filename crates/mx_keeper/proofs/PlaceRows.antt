-- Worked examples of places. The bytes of `a.example` sum to 891, those of `!r:a.example` to 1096.
use Rattle.std.specs.Prelude.{◌≡◌, refl, codes, true, false}
use Rattle.mx_keeper.specs.Places.{place_number, is_at}

server-alone : place_number 1 (codes "a.example") ≡ 0
server-alone = refl

server-of_64 : place_number 64 (codes "a.example") ≡ 59
server-of_64 = refl

room-of_2 : place_number 2 (codes "!r:a.example") ≡ 0
room-of_2 = refl

nothing-of_64 : place_number 64 (codes "") ≡ 0
nothing-of_64 = refl

server-here : is_at (record { number = 59; count = 64 }) (codes "a.example") ≡ true
server-here = refl

server-next : is_at (record { number = 60; count = 64 }) (codes "a.example") ≡ false
server-next = refl
