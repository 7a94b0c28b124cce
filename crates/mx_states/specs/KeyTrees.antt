-- For proofs and private clauses alone.
-- What trees of the events at keys say.
use Rattle.std.specs.Prelude.{◌≡◌, ◌≤◌, ℕ, zero, suc, ◌+◌, ◌-◌, ◌/◌, ◌%◌, ◌==◌, ◌&&◌, nat_lt, Option, None, List, [], ◌∷◌, ◌++◌, cond, slice_index_or}
use Rattle.mx_states.specs.declared.trees.key_trees.KeyTree.{KeyTree}

abbrev pub empty : KeyTree
empty = record { event = None; even = 0; odd = 0 }

-- the tree at a place of those that are kept
abbrev pub kept_at : List KeyTree → ℕ → KeyTree
kept_at trees place = slice_index_or trees place empty

-- the tree with this number; 0 is that of the empty one
abbrev pub root : List KeyTree → ℕ → KeyTree
root trees number = cond (number == 0) empty (kept_at trees (number - 1))

-- the number of the tree in which a place from 2 is looked up
abbrev pub below : KeyTree → ℕ → ℕ
below tree place = cond (place % 2 == 0) tree.even tree.odd

-- what stands at a place from 1, at most so many trees down
abbrev pub within : ℕ → List KeyTree → ℕ → ℕ → Option ℕ
within zero trees tree place = None
within (suc depth) trees tree place =
    cond (place == 1) (root trees tree).event (within depth trees (below (root trees tree) place) (place / 2))

abbrev pub at : List KeyTree → ℕ → ℕ → Option ℕ
at trees tree place = within place trees tree place

abbrev pub at_key : List KeyTree → ℕ → ℕ → Option ℕ
at_key trees tree key = at trees tree (key + 1)

-- each stands behind those below it
abbrev pub AreLower : List KeyTree → Type 0
AreLower trees = (place : ℕ) → ((kept_at trees place).even ≤ place) × ((kept_at trees place).odd ≤ place)

abbrev pub IsLonger : List KeyTree → List KeyTree → Type 0
IsLonger trees others = (more : List KeyTree) × (others ≡ trees ++ more)

-- what is put at the places from 2 that leave this remainder by 2, each halved
abbrev pub halved : ℕ → List (ℕ × Option ℕ) → List (ℕ × Option ℕ)
halved remainder [] = []
halved remainder (put ∷ puts) =
    cond (nat_lt 1 put.0 && (put.0 % 2 == remainder)) ((put.0 / 2, put.1) ∷ halved remainder puts) (halved remainder puts)
