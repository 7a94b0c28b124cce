-- What is left to come of a body that is gathered.
use Rattle.std.specs.Prelude.{ℕ, List, Result}
use Rattle.futures.specs.Runs.{Runs}
use Rattle.http_body.specs.declared.frame.Frame.{Frame}
use Rattle.mx_http.specs.declared.bodies.WholeBody.{WholeBody}
use Rattle.mx_http.specs.Bodies.{IsBody}

module _ {B R E : Type 0} (yields : B → Runs (Result (Frame (List ℕ)) E)) where
  -- these bytes are the body, whole
  abbrev pub GivesBody : WholeBody B R → List ℕ → Type 0
  GivesBody whole bytes =
      IsBody (yields whole.body) whole.has_ended whole.gathered.past whole.gathered.bytes.items whole.piece bytes

  -- what is the body after a step was so before
  abbrev pub StillGives : WholeBody B R → WholeBody B R → Type 0
  StillGives old new = (bytes : List ℕ) → GivesBody new bytes → GivesBody old bytes
