-- matchit's search over rows, for rows of paths: where no row goes on with a parameter, the next byte alone decides.
use Rattle.std.proofs.Common.{◌≡◌, refl, ap, zero, suc, ◌-◌, true, false, cond}
use Rattle.std.specs.Prelude.{ℕ, List, [], ◌∷◌, length, map, Option, Some, None, option_map}
use Rattle.matchit.specs.Rows.{RowsOf, param_token, catch_all_token}
use Rattle.matchit.specs.Router.{RouteOf}
use Rattle.matchit.specs.Params.{walk}
use Rattle.matchit.specs.Seek.{own, step, or_else, seek, param_step, has_slash}
use Rattle.mx_requests.specs.declared.targets.routes.Route.{Route}
use Rattle.mx_requests.specs.Targets.{table, route_of, segment_at}

module _ {K : Type 0} where
  or_else-none : (a : Option K) → or_else a None ≡ a
  or_else-none None = refl
  or_else-none (Some k) = refl

  param_step-empty : (p : List ℕ) → (param_step {K = K} [] p).1 ≡ []
  unfolding param_step
  param_step-empty p =
      elim (has_slash p) as (λ v. (cond {A = ℕ × RowsOf K} v (0, []) (length p, [])).1 ≡ []) [
        | true ↦ refl
        | false ↦ refl
      ]

  seek-empty : (k : ℕ) (p : List ℕ) → seek {K = K} k [] p ≡ None
  unfolding seek
  seek-empty k [] = refl
  seek-empty (suc k) (b ∷ p) = seek-empty k p
  seek-empty zero (b ∷ p) = simp (seek-empty 0 p, param_step-empty (b ∷ p), seek-empty (((param_step {K = K} [] (b ∷ p)).0) - 1) p)

  -- the first answer where no row goes on with a parameter, else the second
  abbrev pub unless_wild : RowsOf K → RowsOf K → Option K → Option K → Option K
  unless_wild [] [] next whole = next
  unless_wild [] (c ∷ cs) next whole = whole
  unless_wild (p ∷ ps) cs next whole = whole

  -- the same search, that tries the rest of a path once where the next byte alone decides
  abbrev pub quick : RowsOf K → List ℕ → Option K
  quick rs [] = own rs
  quick rs (b ∷ p) = unless_wild (step param_token rs) (step catch_all_token rs) (quick (step b rs) p) (seek 0 rs (b ∷ p))

  -- with no row that goes on with a parameter
  seek-next : (b : ℕ) (rs : RowsOf K) (p : List ℕ) (ps cs : RowsOf K)
      → or_else (seek 0 (step b rs) p) (or_else (seek ((param_step ps (b ∷ p)).0 - 1) (param_step ps (b ∷ p)).1 p) (own cs))
      ≡ unless_wild ps cs (seek 0 (step b rs) p) (or_else (seek 0 (step b rs) p) (or_else (seek ((param_step ps (b ∷ p)).0 - 1) (param_step ps (b ∷ p)).1 p) (own cs)))
  seek-next b rs p [] [] = simp (param_step-empty (b ∷ p), seek-empty ((param_step {K = K} [] (b ∷ p)).0 - 1) p, or_else-none)
  seek-next b rs p [] (c ∷ cs) = refl
  seek-next b rs p (x ∷ ps) cs = refl

  pub seek-quick : (rs : RowsOf K) (p : List ℕ) → seek 0 rs p ≡ quick rs p
  unfolding seek
  seek-quick rs [] = refl
  seek-quick rs (b ∷ p) = rw (← seek-quick (step b rs) p) (seek-next b rs p (step param_token rs) (step catch_all_token rs))

abbrev value_of : RouteOf Route → Route
value_of r = r.value

pub route_of-quick : (path : List ℕ) → route_of path ≡ option_map value_of (quick table path)
unfolding route_of
route_of-quick path = ap (option_map value_of) (seek-quick table path)

-- what the parameters of a route take of a path, by matchit's own words, and by ours
abbrev pub taken : List ℕ → RouteOf Route → List (List ℕ)
taken path r = map (λ p. p.1) (walk r.pattern r.text path r.names 0 0)

abbrev pub segments : List ℕ → List (List ℕ) → List (List ℕ)
segments path [] = []
segments path (a ∷ []) = segment_at path 0 ∷ []
segments path (a ∷ b ∷ more) = segment_at path 0 ∷ segment_at path 1 ∷ []

abbrev pub with_taken : List ℕ → Option (RouteOf Route) → Option (Route × List (List ℕ))
with_taken path found = option_map (λ (r : RouteOf Route). (r.value, taken path r)) found

abbrev pub with_segments : List ℕ → Option (RouteOf Route) → Option (Route × List (List ℕ))
with_segments path found = option_map (λ (r : RouteOf Route). (r.value, segments path (taken path r))) found
