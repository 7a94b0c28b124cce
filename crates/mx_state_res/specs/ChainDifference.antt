-- Where the auth chains of several sets of events differ, beside what all of the sets share, for private clauses.
use Rattle.std.specs.Prelude.{◌≡◌, ℕ, Bool, true, not, ◌&&◌, ◌||◌, List, All, map}
use Rattle.std.specs.List.{list_any, list_all}
use Rattle.mx_graph.specs.Record.{Row, events_where, is_in, event, auth_events}
use Rattle.mx_graph.specs.Graph.{auth_chain}
use Rattle.mx_state_res.specs.Masks.{is_cited_by}

-- the events in the chains of some of the sets, without those in the chains of all, and without the chain of what they share
unfoldable pub chain_difference : List Row → List ℕ → List (List ℕ) → List ℕ
chain_difference rows shared apart =
    let chains = map (auth_chain rows) apart in
    events_where rows (λ p. (list_any (λ chain. is_in chain p) chains && not (list_all (λ chain. is_in chain p) chains)) && not (is_in (auth_chain rows shared) p))

-- what an event cites as its auth events
abbrev pub cites : List Row → ℕ → List ℕ
cites rows p = auth_events rows (event rows p)

-- whether one of some events cites an event
abbrev pub is_cited : List Row → List ℕ → ℕ → Bool
is_cited rows starts p = is_cited_by (cites rows) starts p

-- an event is one of some events, or in the auth chains of all of some sets
abbrev pub is_within : List Row → List (List ℕ) → List ℕ → ℕ → Bool
is_within rows sets events p = is_in events p || list_all (λ others. is_in (auth_chain rows others) p) sets

-- and so is each event that these events cite
abbrev pub CiteWithin : List Row → List (List ℕ) → List ℕ → Type 0
CiteWithin rows sets events = All (λ x. All (λ y. is_within rows sets events y ≡ true) (cites rows x)) events
