-- A worker as contracts see it (our own).
use Rattle.std.specs.Prelude.{ℕ, List, refl}
use Rattle.std.specs.Coded.{Coded, code_by, coded×, coded_ℕ, coded_list}
use Rattle.mx_engine.specs.Views.{BerthView}
use Rattle.mx_shard.specs.View.{entry_code as shard_entry_code}
use Rattle.mx_wire.specs.Responses.{BookViews, ShardViews}
use Rattle.mx_world.specs.Codes.{entry_code as book_entry_code, text_code}

-- the name of its server, the number of its seat, and what that knows of each shard and of each book
pub record WorkerView : Type 0 where
  pub name : List ℕ
  pub number : ℕ
  pub shards : ShardViews
  pub books : BookViews

-- ---- its code

abbrev pub berth_code : {E : Type 0} → Coded E → Coded (BerthView E)
berth_code {E = E} entry =
    code_by (ℕ × (List E × (List E × (List E × (ℕ × ℕ)))))
    (coded× coded_ℕ (coded× (coded_list entry) (coded× (coded_list entry) (coded× (coded_list entry) (coded× coded_ℕ coded_ℕ)))))
    (λ b. (b.number, (b.seen, (b.added, (b.opening, (b.made, b.place))))))
    (λ p. record { number = p.0; seen = p.1.0; added = p.1.1.0; opening = p.1.1.1.0; made = p.1.1.1.1.0; place = p.1.1.1.1.1 }) (λ _. refl)

abbrev pub worker_code : Coded WorkerView
worker_code =
    code_by (List ℕ × (ℕ × (ShardViews × BookViews)))
    (coded× text_code (coded× coded_ℕ (coded× (coded_list (berth_code shard_entry_code)) (coded_list (berth_code book_entry_code)))))
    (λ w. (w.name, (w.number, (w.shards, w.books)))) (λ p. record { name = p.0; number = p.1.0; shards = p.1.1.0; books = p.1.1.1 }) (λ _. refl)
