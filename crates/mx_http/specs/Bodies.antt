-- The bodies of requests, which come in frames.
use Rattle.std.specs.Prelude.{◌≡◌, ℕ, ◌+◌, ◌-◌, ◌^◌, min, Bool, nat_le, ◌&&◌, List, [], ◌++◌, map, Option, None, is_none, unwrap_or, Result, Ok, Err, ⊤}
use Rattle.futures.specs.declared.task.Poll.{Poll}
use Rattle.futures.specs.declared.task.Poll.TheVariants.{Ready, Pending}
use Rattle.futures.specs.Runs.{Runs, EndsIf}
use Rattle.http_body.specs.declared.frame.Frame.{Frame}
use Rattle.http_body.specs.Frame.{joined_data}

-- of a body that may have so many bytes, and of which none came past these, so many are held: so many more are kept
abbrev pub is_kept : Option ℕ → (largest held more : ℕ) → Bool
is_kept past largest held more = is_none past && nat_le (min (held + more) (2 ^ 64 - 1)) largest

-- the bytes that are held, and then the data of all the frames that come from the source until it ends
abbrev pub IsWhole : {E : Type 0} → Runs (Result (Frame (List ℕ)) E) → (held bytes : List ℕ) → Type 0
IsWhole source held bytes =
    (frames : List (Frame (List ℕ))) × source (map Ok frames) None × (bytes ≡ held ++ joined_data frames)

-- the same of a body whose source has ended or not, and of which a piece has come that is not yet held; none came past its end
abbrev pub IsBody : {E : Type 0} → Runs (Result (Frame (List ℕ)) E) → (ended : Bool) → (past : Option ℕ)
    → (held : List ℕ) → (piece : Option (List ℕ)) → (bytes : List ℕ) → Type 0
IsBody source ended past held piece bytes =
    (past ≡ None) × IsWhole (EndsIf ended source) (held ++ unwrap_or piece []) bytes

-- it holds unless there is an error
abbrev pub OnOkOrPending : {X E : Type 0} → Poll (Result X E) → Type 0 → Type 0
OnOkOrPending (Ready (Ok x)) P = P
OnOkOrPending (Ready (Err error)) P = ⊤
OnOkOrPending Pending P = P
