-- For proofs and private clauses alone.
-- What the parts of a `Graph` are.
use Rattle.std.specs.Prelude.{◌≡◌, ℕ, ◌<◌, ◌≤◌, Bool, List, [], ◌∷◌, length, slice_index, true, Some, is_some, Vec}
use Rattle.std.specs.List.{list_all}
use Rattle.std.specs.Ordering.{nat_cmp, is_eq}
use Rattle.std.specs.Cmp.Lexicographic.{slice_cmp}
use Rattle.std.specs.Map.{lookup}
use Rattle.std.specs.declared.alloc.Global.{Global}
use Rattle.mx_pdu.specs.Event.{prev_ids, auth_ids}
use Rattle.mx_graph.specs.Adding.{is_known, most_rows}
use Rattle.mx_graph.specs.Edges.{cited}
use Rattle.mx_graph.specs.AuthChains.{kept_at, place_at, rows_of, AreChains, AreDistinct}
use Rattle.mx_graph.specs.Depths.{depth_bound}
use Rattle.mx_graph.specs.Graph.{CitesDown, auth_chain, most_chains}
use Rattle.mx_graph.specs.declared.auth_chains.AuthChains.{AuthChains}
use Rattle.mx_graph.specs.Record.{Row, row, event, place_of, prev_events, auth_events, events_where, is_in, names_in_redaction}

-- which rows are in the auth chain of a row
abbrev pub met_in : List Row → ℕ → ℕ → Bool
met_in rows r p = is_in (auth_chain rows (r ∷ [])) p

-- the index of auth chains is that of these rows
pub record AreKeptFor (rows : List Row) (chains : AuthChains) : Type 0 where
  pub places_len : length chains.places.items ≡ length rows
  pub reached_len : length chains.reached.items ≡ length rows
  pub right : AreChains (met_in rows) (place_at chains.places.items) (kept_at chains.reached.items)
  pub distinct : (r : ℕ) → AreDistinct (rows_of (kept_at chains.reached.items r))
  pub short : (r : ℕ) → r < length rows → length (auth_chain rows (r ∷ [])) ≤ most_chains → is_some (kept_at chains.reached.items r) ≡ true

-- the bounds that are kept are those of these rows
pub record AreBoundsOf (rows : List Row) (bounds : List ℕ) : Type 0 where
  pub len : length bounds ≡ length rows
  pub right : (p : ℕ) → p < length rows → slice_index bounds p ≡ depth_bound rows p

-- each id is there once, each event cites events before it, and what is kept beside the rows agrees with them
pub record IsIndexed (rows : List Row) (prev auth : List (Vec ℕ Global)) (numbers : List (List ℕ × ℕ)) (naming : List ℕ → List ℕ) (chains : AuthChains) (bounds : List ℕ) : Type 0 where
  pub few : length rows ≤ most_rows
  pub own_place : (p : ℕ) → p < length rows → place_of rows (row rows p).id ≡ Some p
  pub prev_known : (p : ℕ) → list_all (is_known rows) (prev_ids (event rows p)) ≡ true
  pub auth_known : (p : ℕ) → list_all (is_known rows) (auth_ids (event rows p)) ≡ true
  pub prev_down : CitesDown rows (λ p. prev_events rows (event rows p))
  pub auth_down : CitesDown rows (λ p. auth_events rows (event rows p))
  pub prev_len : length prev ≡ length rows
  pub auth_len : length auth ≡ length rows
  pub prev_edges : (p : ℕ) → cited prev p ≡ prev_events rows (event rows p)
  pub auth_edges : (p : ℕ) → cited auth p ≡ auth_events rows (event rows p)
  pub numbered : (id : List ℕ) → lookup (λ k. is_eq (slice_cmp nat_cmp id k)) numbers ≡ place_of rows id
  pub redactions : (id : List ℕ) → naming id ≡ events_where rows (names_in_redaction rows id)
  pub auth_chains : AreKeptFor rows chains
  pub depth_bounds : AreBoundsOf rows bounds
