-- Bodies of replies, which go in pieces.
use Rattle.std.proofs.Common.{◌≡◌, ℕ, List, [], ◌++◌, take, drop, Some, Ok, refl, take-append-drop}
use Rattle.futures.specs.Runs.{After}
use Rattle.http_body.specs.Frame.{data_frame}
use Rattle.mx_http.specs.Responses.{GivesBytes}

-- a cut makes a piece and what follows it
pub piece_and_rest : (i : ℕ) (bytes piece rest : List ℕ) → piece ≡ take i bytes → rest ≡ drop i bytes → bytes ≡ piece ++ rest
piece_and_rest i bytes piece rest front behind = let whole = take-append-drop i bytes in cc

module _ {D : Type 0} (unread : D → List ℕ) (bytes behind : List ℕ) (piece : D) where
  -- a piece is handed over
  pub gives_piece : bytes ≡ unread piece ++ behind → GivesBytes unread bytes [] (Some (Ok (data_frame piece)))
  gives_piece is = (piece, behind, refl, is)

  -- what follows it is left
  pub gives_rest : bytes ≡ unread piece ++ behind → After (GivesBytes unread bytes) (Ok (data_frame piece)) (GivesBytes unread behind)
  gives_rest is later last given = (piece, behind, refl, is, given)
