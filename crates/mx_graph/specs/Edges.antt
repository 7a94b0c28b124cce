-- Edges as lists of targets, one list for each event.
use Rattle.std.specs.Prelude.{◌≡◌, ℕ, ◌<◌, Bool, true, List, [], ◌∷◌, unwrap_or, option_map, slice_get, Vec}
use Rattle.std.specs.declared.alloc.Global.{Global}
use Rattle.mx_graph.specs.Record.{is_in}

-- the targets of an event's edges
abbrev pub cited : List (Vec ℕ Global) → ℕ → List ℕ
cited edges x = unwrap_or (option_map (λ v. v.items) (slice_get edges x)) []

-- each edge leads to an earlier event
abbrev pub LeadDown : (ℕ → List ℕ) → Type 0
LeadDown cites = (x y : ℕ) → is_in (cites x) y ≡ true → y < x

-- the numbers rise
abbrev pub Rises : List ℕ → Type 0
Rises [] = Unit {0}
Rises (x ∷ xs) = ((y : ℕ) → is_in xs y ≡ true → x < y) × Rises xs

-- one set, by its test, is another and what it leads to
pub record IsAllFrom (cites : ℕ → List ℕ) (first all : ℕ → Bool) : Type 0 where
  pub has_first : (p : ℕ) → first p ≡ true → all p ≡ true
  pub closed : (x y : ℕ) → all x ≡ true → is_in (cites x) y ≡ true → all y ≡ true
  pub least : (other : ℕ → Bool) → ((p : ℕ) → first p ≡ true → other p ≡ true)
      → ((x y : ℕ) → other x ≡ true → is_in (cites x) y ≡ true → other y ≡ true)
      → (p : ℕ) → all p ≡ true → other p ≡ true
