-- Worked examples of the power order and of the mainline order.
use Rattle.std.specs.Prelude.{◌≡◌, refl, ℕ, pos, false, List, [], ◌∷◌, codes, map, Some, None}
use Prim.Native.String.{String}
use Rattle.serde_json.specs.Data.{Data, array}
use Rattle.mx_graph.specs.Record.{Row}
use Rattle.mx_auth.proofs.RoomBase.{text, num, texts, fields, keyed, membership, no_fields}
use Rattle.mx_orders.specs.PowerOrder.{sender_level, power_order}
use Rattle.mx_orders.specs.Mainline.{mainline, mainline_position, mainline_order}
use Rattle.mx_orders.proofs.OrdersOnExamples.{orders_on_examples}

-- an event by A, its type, state key, time, auth events by their ids and content
abbrev a_row : String → String → String → ℕ → List (List ℕ) → Data → Row
a_row id kind key time auth content = record {
  id = codes id;
  event = fields ((codes "auth_events", array (texts auth)) ∷ (codes "content", content) ∷ (codes "origin_server_ts", num time)
      ∷ (codes "sender", text "@a:a.example") ∷ (codes "type", text kind) ∷ keyed key);
  rejected = false;
}

abbrev create : Row
create = a_row "$c" "m.room.create" "" 100 [] (fields ((codes "creator", text "@a:a.example") ∷ []))

abbrev levels : ℕ → Data
levels n = fields ((codes "users", fields ((codes "@a:a.example", num n) ∷ [])) ∷ [])

abbrev power : String → ℕ → List (List ℕ) → Row
power id time auth = a_row id "m.room.power_levels" "" time auth (levels 100)

abbrev join_rules : String → ℕ → List (List ℕ) → Row
join_rules id time auth = a_row id "m.room.join_rules" "" time auth no_fields

-- ---- the power order

abbrev power_rows : List Row
power_rows =
    create
    ∷ a_row "$m" "m.room.member" "@a:a.example" 100 (codes "$c" ∷ []) (membership "join")
    ∷ power "$z" 100 (codes "$c" ∷ codes "$m" ∷ [])
    ∷ power "$y" 100 (codes "$c" ∷ codes "$m" ∷ codes "$z" ∷ [])
    ∷ power "$a" 100 (codes "$c" ∷ codes "$m" ∷ codes "$y" ∷ [])
    ∷ join_rules "$b" 100 (codes "$c" ∷ codes "$m" ∷ codes "$z" ∷ [])
    ∷ join_rules "$d" 50 (codes "$c" ∷ codes "$m" ∷ codes "$a" ∷ [])
    ∷ join_rules "$e" 100 (codes "$c" ∷ codes "$m" ∷ [])
    ∷ []

-- $e $z $a $d $b: `$a` reaches `$z` only through `$y`, which is not ordered
power_order-worked : power_order power_rows (2 ∷ 4 ∷ 5 ∷ 6 ∷ 7 ∷ []) ≡ 7 ∷ 2 ∷ 4 ∷ 6 ∷ 5 ∷ []
unfolding orders_on_examples
power_order-worked = refl

power_order-given_otherwise : power_order power_rows (6 ∷ 7 ∷ 2 ∷ 5 ∷ 4 ∷ []) ≡ 7 ∷ 2 ∷ 4 ∷ 6 ∷ 5 ∷ []
unfolding orders_on_examples
power_order-given_otherwise = refl

power_order-empty : power_order power_rows [] ≡ []
unfolding orders_on_examples
power_order-empty = refl

-- without a create event among the auth events the level is 0, whatever the power levels are
abbrev level_rows : List Row
level_rows =
    create
    ∷ a_row "$p" "m.room.power_levels" "" 100 (codes "$c" ∷ []) (levels 50)
    ∷ join_rules "$r" 100 (codes "$p" ∷ [])
    ∷ join_rules "$s" 100 (codes "$c" ∷ [])
    ∷ join_rules "$t" 100 (codes "$c" ∷ codes "$p" ∷ [])
    ∷ []

levels-worked : map (sender_level level_rows) (0 ∷ 1 ∷ 2 ∷ 3 ∷ 4 ∷ []) ≡ pos 0 ∷ pos 100 ∷ pos 0 ∷ pos 100 ∷ pos 50 ∷ []
unfolding orders_on_examples
levels-worked = refl

-- greater levels first
power_order-levels : power_order level_rows (2 ∷ 3 ∷ 4 ∷ []) ≡ 3 ∷ 4 ∷ 2 ∷ []
unfolding orders_on_examples
power_order-levels = refl

-- ---- the mainline

abbrev mainline_rows : List Row
mainline_rows =
    create
    ∷ power "$p1" 100 (codes "$c" ∷ [])
    ∷ power "$p2" 250 (codes "$p1" ∷ [])
    ∷ power "$p3" 100 (codes "$p2" ∷ [])
    ∷ join_rules "$q" 900 (codes "$c" ∷ [])
    ∷ join_rules "$r" 300 (codes "$p1" ∷ [])
    ∷ join_rules "$s" 200 (codes "$p1" ∷ [])
    ∷ join_rules "$t" 100 (codes "$p3" ∷ [])
    ∷ join_rules "$u" 100 (codes "$p3" ∷ [])
    ∷ []

mainline-worked : mainline mainline_rows (Some 3) ≡ 3 ∷ 2 ∷ 1 ∷ []
unfolding orders_on_examples
mainline-worked = refl

mainline-none : mainline mainline_rows None ≡ []
unfolding orders_on_examples
mainline-none = refl

-- `$q` infinite; `$r`, `$s` and `$p2` 2; `$t` and `$u` 0
positions-worked : map (mainline_position mainline_rows (3 ∷ 2 ∷ 1 ∷ [])) (4 ∷ 5 ∷ 6 ∷ 2 ∷ 7 ∷ 8 ∷ []) ≡ None ∷ Some 2 ∷ Some 2 ∷ Some 2 ∷ Some 0 ∷ Some 0 ∷ []
unfolding orders_on_examples
positions-worked = refl

-- $q $s $p2 $r $t $u
mainline_order-worked : mainline_order mainline_rows (3 ∷ 2 ∷ 1 ∷ []) (2 ∷ 4 ∷ 5 ∷ 6 ∷ 7 ∷ 8 ∷ []) ≡ 4 ∷ 6 ∷ 2 ∷ 5 ∷ 7 ∷ 8 ∷ []
unfolding orders_on_examples
mainline_order-worked = refl

-- $l $j $k, without a power levels event
mainline_order-none : mainline_order (join_rules "$j" 5 [] ∷ join_rules "$k" 5 [] ∷ join_rules "$l" 3 [] ∷ []) [] (1 ∷ 0 ∷ 2 ∷ []) ≡ 2 ∷ 0 ∷ 1 ∷ []
unfolding orders_on_examples
mainline_order-none = refl

-- ---- mainlines of twenty-two events

abbrev larger_rows : List Row
larger_rows =
    create
    ∷ join_rules "$e1" 52 (codes "$c" ∷ [])
    ∷ join_rules "$e2" 54 (codes "$c" ∷ codes "$e1" ∷ [])
    ∷ join_rules "$e3" 51 (codes "$c" ∷ codes "$e1" ∷ codes "$e2" ∷ [])
    ∷ power "$e4" 53 (codes "$c" ∷ codes "$e1" ∷ codes "$e2" ∷ [])
    ∷ join_rules "$e5" 50 (codes "$c" ∷ codes "$e1" ∷ codes "$e2" ∷ [])
    ∷ join_rules "$e6" 52 (codes "$c" ∷ codes "$e2" ∷ codes "$e5" ∷ [])
    ∷ join_rules "$e7" 54 (codes "$c" ∷ codes "$e3" ∷ [])
    ∷ power "$e8" 51 (codes "$c" ∷ codes "$e4" ∷ [])
    ∷ join_rules "$e9" 53 (codes "$c" ∷ codes "$e5" ∷ codes "$e8" ∷ [])
    ∷ join_rules "$e10" 50 (codes "$c" ∷ codes "$e5" ∷ codes "$e6" ∷ [])
    ∷ join_rules "$e11" 52 (codes "$c" ∷ codes "$e5" ∷ codes "$e7" ∷ [])
    ∷ power "$e12" 54 (codes "$c" ∷ codes "$e8" ∷ codes "$e11" ∷ [])
    ∷ join_rules "$e13" 51 (codes "$c" ∷ codes "$e6" ∷ codes "$e9" ∷ [])
    ∷ join_rules "$e14" 53 (codes "$c" ∷ codes "$e7" ∷ codes "$e10" ∷ [])
    ∷ join_rules "$e15" 50 (codes "$c" ∷ codes "$e11" ∷ codes "$e14" ∷ [])
    ∷ power "$e16" 52 (codes "$c" ∷ codes "$e8" ∷ codes "$e12" ∷ [])
    ∷ join_rules "$e17" 51 (codes "$c" ∷ codes "$e12" ∷ [])
    ∷ join_rules "$e18" 50 (codes "$c" ∷ codes "$e16" ∷ [])
    ∷ power "$e19" 53 (codes "$c" ∷ [])
    ∷ join_rules "$e20" 52 (codes "$c" ∷ codes "$e19" ∷ [])
    ∷ join_rules "$e21" 50 (codes "$c" ∷ codes "$e4" ∷ [])
    ∷ []

-- `$e3` and `$e4` rest on no power levels event of the mainline, which is `$e16` `$e8` `$e4`
mainline-larger : mainline larger_rows (Some 16) ≡ 16 ∷ 8 ∷ 4 ∷ []
unfolding orders_on_examples
mainline-larger = refl

-- positions before times: $e3 $e4 $e8 $e16 $e9 $e12
mainline_order-larger : mainline_order larger_rows (16 ∷ 8 ∷ 4 ∷ []) (16 ∷ 12 ∷ 9 ∷ 8 ∷ 4 ∷ 3 ∷ []) ≡ 3 ∷ 4 ∷ 8 ∷ 16 ∷ 9 ∷ 12 ∷ []
unfolding orders_on_examples
mainline_order-larger = refl

-- both `$e21` and `$e8` rest on `$e4`: $e21 $e8 $e17 $e16 $e18
mainline_order-oldest : mainline_order larger_rows (16 ∷ 8 ∷ 4 ∷ []) (18 ∷ 17 ∷ 8 ∷ 16 ∷ 21 ∷ []) ≡ 21 ∷ 8 ∷ 17 ∷ 16 ∷ 18 ∷ []
unfolding orders_on_examples
mainline_order-oldest = refl

-- `$e20` rests on `$e19`, which is in no other's mainline: $e20 $e21 $e8 $e17 $e18
mainline_order-other_levels : mainline_order larger_rows (16 ∷ 8 ∷ 4 ∷ []) (18 ∷ 17 ∷ 8 ∷ 20 ∷ 21 ∷ []) ≡ 20 ∷ 21 ∷ 8 ∷ 17 ∷ 18 ∷ []
unfolding orders_on_examples
mainline_order-other_levels = refl
