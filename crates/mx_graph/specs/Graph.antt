-- Which events can be reached from others by prev events, and by auth events.
use Rattle.std.specs.Prelude.{ℕ, zero, suc, Bool, not, ◌&&◌, ◌||◌, map, List, [], ◌∷◌, ◌++◌, length, flat_map, IsTrue, ◌<◌, ◌≤◌, ◌≡◌}
use Rattle.std.specs.List.{list_any, list_all}
use Rattle.mx_graph.specs.Record.{Row, events_where, is_in, row, event, prev_events, auth_events}

module _ (rows : List Row) (cites : ℕ → List ℕ) (starts : List ℕ) where
  -- the events that at most n citations lead to from the starts, one or more
  abbrev pub reached_within : ℕ → List ℕ
  reached_within zero = []
  reached_within (suc n) =
      let cited = flat_map cites (starts ++ reached_within n) in
      events_where rows (is_in cited)

  -- the least set that has what the starts cite, and what its members cite
  abbrev pub reached : List ℕ
  reached = reached_within (length rows)

-- Matrix specification, Server-Server API, PDUs: the prev events of these events, theirs, and so on
unfoldable pub ancestors : List Row → List ℕ → List ℕ
ancestors rows starts = reached rows (λ p. prev_events rows (event rows p)) starts

-- Matrix specification, State Resolution v2, auth chain: the auth events of these events, theirs, and so on
unfoldable pub auth_chain : List Row → List ℕ → List ℕ
auth_chain rows starts = reached rows (λ p. auth_events rows (event rows p)) starts

-- whether an event is in the auth chains of some sets, and not of all, and not in that of what they share
abbrev pub is_in_difference : List Row → List ℕ → List (List ℕ) → ℕ → Bool
is_in_difference rows shared apart p =
    let chains = map (auth_chain rows) apart in
    (list_any (λ chain. is_in chain p) chains && not (list_all (λ chain. is_in chain p) chains)) && not (is_in (auth_chain rows shared) p)

-- ---- short auth chains

-- the most chains of rows that are kept for a row, where each row of a chain is in the auth chains of the later ones: an auth chain meets no more of them than it has events
abbrev pub most_chains : ℕ
most_chains = 64

-- each is an event of the record, and its auth chain has at most 64 events
abbrev pub HaveShortChains : List Row → List ℕ → Type 0
HaveShortChains rows events = (s : ℕ) → IsTrue (is_in events s) → (s < length rows) × (length (auth_chain rows (s ∷ [])) ≤ most_chains)

-- each is an event of the record, and the auth chain of all of them together has at most 64 events
abbrev pub HaveShortJointChain : List Row → List ℕ → Type 0
HaveShortJointChain rows events = ((s : ℕ) → IsTrue (is_in events s) → s < length rows) × (length (auth_chain rows events) ≤ most_chains)

-- ---- what these sets are

-- a set, by its test, that has what the starts cite and what its members cite
abbrev pub IsClosed : (ℕ → List ℕ) → List ℕ → (ℕ → Bool) → Type 0
IsClosed cites starts test = (x y : ℕ) → IsTrue (is_in starts x || test x) → IsTrue (is_in (cites x) y) → IsTrue (test y)

-- the least such set
abbrev pub IsLeastClosed : (ℕ → List ℕ) → List ℕ → (ℕ → Bool) → Type 0
IsLeastClosed cites starts test =
    IsClosed cites starts test
    × ((other : ℕ → Bool) → IsClosed cites starts other → (p : ℕ) → IsTrue (test p) → IsTrue (other p))

-- each event cites events of the record that came before it
abbrev pub CitesDown : List Row → (ℕ → List ℕ) → Type 0
CitesDown rows cites = (x y : ℕ) → IsTrue (is_in (cites x) y) → (y < length rows) × (y < x)

-- a record as it grows by arrivals: each id once, and the events that an event cites before it
pub record IsSound (rows : List Row) : Type 0 where
  pub ids : (x y : ℕ) → x < length rows → y < length rows → (row rows x).id ≡ (row rows y).id → x ≡ y
  pub prev : CitesDown rows (λ p. prev_events rows (event rows p))
  pub auth : CitesDown rows (λ p. auth_events rows (event rows p))

-- a law: in such a record the ancestors and the auth chain are the least sets
abbrev pub ClosuresAreLeast : Type 0
ClosuresAreLeast =
    (rows : List Row) (starts : List ℕ) → IsSound rows
    → IsLeastClosed (λ p. prev_events rows (event rows p)) starts (is_in (ancestors rows starts))
    × IsLeastClosed (λ p. auth_events rows (event rows p)) starts (is_in (auth_chain rows starts))
