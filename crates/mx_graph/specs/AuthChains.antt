-- For proofs and private clauses alone.
-- An index of auth chains: chains of rows, in which each row is in the auth chains of the later ones, and how far up each chain the auth chain of a row goes.
use Rattle.std.specs.Prelude.{◌≡◌, ◌==◌, nat_eq, ◌&&◌, ◌||◌, ℕ, ◌<◌, ◌≤◌, nat_le, nat_lt, Bool, true, false, cond, not, List, [], slice_index_or, Option, None, Some, is_some, Vec, All, map, length}
use Rattle.std.specs.List.{list_any, list_all, IsDistinct}
use Rattle.std.specs.declared.alloc.Global.{Global}
use Rattle.mx_graph.specs.Graph.{most_chains}
use Rattle.mx_graph.specs.Record.{is_in}
use Rattle.mx_graph.specs.declared.auth_chains.ChainPlace.{ChainPlace}
use Rattle.mx_graph.specs.declared.reached_rows.Reached.{Reached}

-- ---- rows of chains, up to a last one of each

-- whether a row of a chain is among them
abbrev pub has_row : List Reached → ℕ → ℕ → Bool
has_row reached chain p = list_any (λ e. (e.chain == chain) && nat_le p e.last) reached

-- those that are kept for a row, where they are
abbrev pub rows_of : Option (Vec Reached Global) → List Reached
rows_of None = []
rows_of (Some found) = found.items

-- what is kept for a row
abbrev pub kept_at : List (Option (Vec Reached Global)) → ℕ → Option (Vec Reached Global)
kept_at reached r = slice_index_or reached r None

-- whether the auth chain of one of some events has a row of a chain, as far as that is kept
abbrev pub some_has : (ℕ → Option (Vec Reached Global)) → List ℕ → ℕ → ℕ → Bool
some_has kept events chain p = list_any (λ s. has_row (rows_of (kept s)) chain p) events

-- the same of all of some lists of events, and of one of them
abbrev pub all_have : (ℕ → Option (Vec Reached Global)) → List (Vec ℕ Global) → ℕ → ℕ → Bool
all_have kept apart chain p = list_all (λ others. some_has kept others.items chain p) apart

abbrev pub any_has : (ℕ → Option (Vec Reached Global)) → List (Vec ℕ Global) → ℕ → ℕ → Bool
any_has kept apart chain p = list_any (λ others. some_has kept others.items chain p) apart

-- something is kept for each of these events
abbrev pub AreKept : (ℕ → Option (Vec Reached Global)) → List ℕ → Type 0
AreKept kept events = (q : ℕ) → is_in events q ≡ true → is_some (kept q) ≡ true

-- the chains that they are of
abbrev pub chains_of : List Reached → List ℕ
chains_of reached = map (λ e. e.chain) reached

-- no two of them are of one chain
abbrev pub AreDistinct : List Reached → Type 0
AreDistinct reached = IsDistinct nat_eq (chains_of reached)

-- ---- places in chains

-- the place of a row that no row cites: it is alone in a chain of its own
abbrev pub alone : ℕ → ChainPlace
alone p = record { chain = p; below = None; is_cited = false; is_followed = false }

abbrev pub place_at : List ChainPlace → ℕ → ChainPlace
place_at places p = slice_index_or places p (alone p)

-- a row is cited for the first time, and begins a chain
abbrev pub begun : (ℕ → ChainPlace) → ℕ → ℕ → ChainPlace
begun at event p = cond (p == event) (record { chain = (at event).chain; below = (at event).below; is_cited = true; is_followed = (at event).is_followed }) (at p)

-- a row is cited for the first time, and comes after the last row of a chain
abbrev pub following : (ℕ → ChainPlace) → ℕ → ℕ → ℕ → ChainPlace
following at event last p =
    cond (p == last) (record { chain = (at last).chain; below = (at last).below; is_cited = (at last).is_cited; is_followed = true })
    (cond (p == event) (record { chain = (at last).chain; below = Some last; is_cited = true; is_followed = false }) (at p))

-- it is cited, and nothing follows it
abbrev pub IsLast : ChainPlace → Type 0
IsLast place = (place.is_cited ≡ true) × (place.is_followed ≡ false)

-- each of them is a row of its chain
abbrev pub AreEnds : (ℕ → ChainPlace) → List Reached → Type 0
AreEnds at reached = All (λ e. (at e.last).chain ≡ e.chain) reached

-- from each row of a chain the one before it is known
pub record AreLinked (at : ℕ → ChainPlace) : Type 0 where
  pub lower : (p b : ℕ) → (at p).below ≡ Some b → b < p
  pub below : (p b : ℕ) → (at p).below ≡ Some b → (at b).chain ≡ (at p).chain
  pub next : (p b : ℕ) → (at p).below ≡ Some b → (x : ℕ) → b < x → (at x).chain ≡ (at p).chain → p ≤ x
  pub first : (p : ℕ) → (at p).below ≡ None → (x : ℕ) → (at x).chain ≡ (at p).chain → p ≤ x

-- which rows are in the auth chain of a row: those that it cites, and those in the auth chains of these
pub record AreMet (cites : ℕ → List ℕ) (meets : ℕ → ℕ → Bool) : Type 0 where
  pub step : (r p : ℕ) → meets r p ≡ list_any (λ q. (q == p) || meets q p) (cites r)
  pub down : (r p : ℕ) → meets r p ≡ true → p < r

-- the index tells which rows are in the auth chain of each row for which it keeps something
pub record AreChains (meets : ℕ → ℕ → Bool) (at : ℕ → ChainPlace) (kept : ℕ → Option (Vec Reached Global)) : Type 0 where
  pub linked : AreLinked at
  pub ordered : (p q : ℕ) → (at p).chain ≡ (at q).chain → p < q → meets q p ≡ true
  pub exact : (r : ℕ) → is_some (kept r) ≡ true → (p : ℕ) → meets r p ≡ has_row (rows_of (kept r)) (at p).chain p
  pub ends : (r : ℕ) → AreEnds at (rows_of (kept r))
  pub unmet : (q : ℕ) → (at q).is_cited ≡ false → (r : ℕ) → is_some (kept r) ≡ true → meets r q ≡ false
  pub own : (q : ℕ) → (at q).is_cited ≡ false → (at q).chain ≡ q
  pub only : (q : ℕ) → (at q).is_cited ≡ false → (x : ℕ) → (at x).chain ≡ q → x ≡ q
  pub last : (l : ℕ) → (at l).is_followed ≡ false → (x : ℕ) → (at x).chain ≡ (at l).chain → x ≤ l
  pub down : (p : ℕ) → (at p).chain ≤ p

-- ---- what is found for a row that cites some events

-- whether a row of a chain is one of a cited event's chain up to it, or in its auth chain
abbrev pub cited_has : (ℕ → ChainPlace) → (ℕ → Option (Vec Reached Global)) → ℕ → ℕ → ℕ → Bool
cited_has at kept q chain p = ((at q).chain == chain && nat_le p q) || has_row (rows_of (kept q)) chain p

-- the same of one of some cited events
abbrev pub some_cited_has : (ℕ → ChainPlace) → (ℕ → Option (Vec Reached Global)) → List ℕ → ℕ → ℕ → Bool
some_cited_has at kept events chain p = list_any (λ q. cited_has at kept q chain p) events

pub record AreAdded (at : ℕ → ChainPlace) (kept : ℕ → Option (Vec Reached Global)) (event : ℕ) (old new : List Reached) : Type 0 where
  pub kept_here : is_some (kept event) ≡ true
  pub cited : (at event).is_cited ≡ true
  pub rows : (chain p : ℕ) → has_row new chain p ≡ (has_row old chain p || cited_has at kept event chain p)
  pub ends : ((r : ℕ) → AreEnds at (rows_of (kept r))) → AreEnds at old → AreEnds at new

pub record AreReached (at : ℕ → ChainPlace) (kept : ℕ → Option (Vec Reached Global)) (events : List ℕ) (found : List Reached) : Type 0 where
  pub kept_each : AreKept kept events
  pub cited : (q : ℕ) → is_in events q ≡ true → (at q).is_cited ≡ true
  pub rows : (chain p : ℕ) → has_row found chain p ≡ list_any (λ q. cited_has at kept q chain p) events
  pub ends : ((r : ℕ) → AreEnds at (rows_of (kept r))) → AreEnds at found

-- the rows of chains that pass a test are among at most 64 events
pub record AreFew (at : ℕ → ChainPlace) (has : ℕ → ℕ → Bool) : Type 0 where
  pub members : List ℕ
  pub among : (p : ℕ) → has (at p).chain p ≡ true → is_in members p ≡ true
  pub few : length members ≤ most_chains

-- ---- what is found for some lists of events

pub record AreMetToo (at : ℕ → ChainPlace) (kept : ℕ → Option (Vec Reached Global)) (events : List ℕ) (old new : List Reached) : Type 0 where
  pub kept_each : AreKept kept events
  pub rows : (chain p : ℕ) → has_row new chain p ≡ (has_row old chain p || some_has kept events chain p)
  pub ends : ((r : ℕ) → AreEnds at (rows_of (kept r))) → AreEnds at old → AreEnds at new

pub record AreMetBySome (at : ℕ → ChainPlace) (kept : ℕ → Option (Vec Reached Global)) (apart : List (Vec ℕ Global)) (found : List Reached) : Type 0 where
  pub kept_each : All (λ others. AreKept kept others.items) apart
  pub rows : (chain p : ℕ) → has_row found chain p ≡ any_has kept apart chain p
  pub ends : ((r : ℕ) → AreEnds at (rows_of (kept r))) → AreEnds at found

-- a row of a chain, from a number on up to a last row of it
abbrev pub is_between : (ℕ → ChainPlace) → ℕ → ℕ → ℕ → Bool
is_between at last first p = ((at p).chain == (at last).chain) && (nat_le first p && nat_le p last)

-- the row before a row in its chain; where there is none, all those before it are before a number
abbrev pub IsNextBelow : (ℕ → ChainPlace) → ℕ → ℕ → Option ℕ → Type 0
IsNextBelow at row first None = (x : ℕ) → (at x).chain ≡ (at row).chain → x < row → x < first
IsNextBelow at row first (Some b) = (first ≤ b) × (b < row) × ((at b).chain ≡ (at row).chain) × ((x : ℕ) → b < x → (at x).chain ≡ (at row).chain → row ≤ x)

-- the rows of a chain that a walk down has passed
abbrev pub has_passed : Option ℕ → ℕ → Bool
has_passed None p = true
has_passed (Some b) p = nat_lt b p

-- not the auth chains of all sets have a row of a chain, nor that of the shared events
abbrev pub is_apart : (ℕ → Option (Vec Reached Global)) → List ℕ → List (Vec ℕ Global) → ℕ → ℕ → Bool
is_apart kept shared apart chain p = not (all_have kept apart chain p) && not (some_has kept shared chain p)

-- a row of a chain, up to a last one, that not all sets have, nor the shared events
abbrev pub is_partly_met : (ℕ → ChainPlace) → (ℕ → Option (Vec Reached Global)) → List ℕ → List (Vec ℕ Global) → Reached → ℕ → Bool
is_partly_met at kept shared apart e p = ((at p).chain == (at e.last).chain) && (nat_le p e.last && is_apart kept shared apart e.chain p)

-- some sets have a row, and not all, nor the shared events
abbrev pub differs : (ℕ → ChainPlace) → (ℕ → Option (Vec Reached Global)) → List ℕ → List (Vec ℕ Global) → ℕ → Bool
differs at kept shared apart p = any_has kept apart (at p).chain p && is_apart kept shared apart (at p).chain p
