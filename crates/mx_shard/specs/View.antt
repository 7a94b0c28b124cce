-- A shard as contracts see it.
use Rattle.std.specs.Prelude.{ℕ, Bool, List, refl}
use Rattle.std.specs.Coded.{Coded, code_by, coded×, coded_ℕ, coded_bool, coded_list}
use Rattle.mx_pdu.specs.DataCode.{data_code}
use Rattle.mx_redact.specs.Fields.{Event}
use Rattle.mx_keeper.specs.Places.{PlaceView}
use Rattle.mx_shard.specs.Journal.{Entry}

-- what keeps its rows, its entries in order, its place among the shards, and whether it refuses all for want of storage
pub record ShardView (K : Type 0) : Type 0 where
  pub keeper : K
  pub journal : List Entry
  pub place : PlaceView
  pub is_refused : Bool

-- ---- codes, so that a model's value can hold events

abbrev pub entry_code : Coded Entry
entry_code =
    code_by (List ℕ × (List ℕ × (Event × ℕ))) (coded× (coded_list coded_ℕ) (coded× (coded_list coded_ℕ) (coded× data_code coded_ℕ)))
    (λ e. (e.room, (e.id, (e.event, e.caller)))) (λ p. record { room = p.0; id = p.1.0; event = p.1.1.0; caller = p.1.1.1 }) (λ _. refl)

abbrev pub place_code : Coded PlaceView
place_code = code_by (ℕ × ℕ) (coded× coded_ℕ coded_ℕ) (λ p. (p.number, p.count)) (λ p. record { number = p.0; count = p.1 }) (λ _. refl)

abbrev pub shard_code : {K : Type 0} → Coded K → Coded (ShardView K)
shard_code {K = K} code =
    code_by (K × (List Entry × (PlaceView × Bool))) (coded× code (coded× (coded_list entry_code) (coded× place_code coded_bool)))
    (λ s. (s.keeper, (s.journal, (s.place, s.is_refused)))) (λ p. record { keeper = p.0; journal = p.1.0; place = p.1.1.0; is_refused = p.1.1.1 }) (λ _. refl)
