-- For proofs and private clauses alone.
-- Sets of at most 64 states, each as a number, and for each row the set of the states that reach it.
use Rattle.std.specs.Prelude.{not, ◌≡◌, ℕ, ◌<◌, ◌-◌, ◌^◌, ◌==◌, Bool, ◌&&◌, cond, List, slice_index_or, sum_by}
use Rattle.std.specs.Int.{bit_at}

-- whether a set has a state
abbrev pub has_state : ℕ → ℕ → Bool
has_state set i = bit_at set i == 1

-- whether a state reaches a row
abbrev pub is_reached : List ℕ → ℕ → ℕ → Bool
is_reached sets p i = has_state (slice_index_or sets p 0) i

-- whether a set has a state and lacks one
abbrev pub is_partial : ℕ → ℕ → Bool
is_partial all set = not (set == 0) && not (set == all)

-- 1 where a set has a state and lacks one
abbrev pub weight : ℕ → ℕ → ℕ
weight all set = cond (is_partial all set) 1 0

-- no set has more than all states, and those that have some states and lack some are counted
pub record AreCounted (states all : ℕ) (sets : List ℕ) (unsettled : ℕ) : Type 0 where
  pub every : all ≡ 2 ^ states - 1
  pub fit : (p : ℕ) → slice_index_or sets p 0 < 2 ^ states
  pub counted : unsettled ≡ sum_by (weight all) sets
