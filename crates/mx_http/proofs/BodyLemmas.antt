-- What a step of a body's poll leaves of the bytes that it is to give.
use Rattle.std.proofs.Common.{◌≡◌, ℕ, Bool, true, false, List, [], ◌∷◌, ◌++◌, map, Option, Some, None, Result, Ok, Err, IfOk, MatchOption, refl, sym, ap, ◌∙◌, append_assoc, append-nil, unwrap_or}
use Rattle.futures.specs.Runs.{Runs, After}
use Rattle.http_body.specs.declared.frame.Frame.{Frame}
use Rattle.http_body.specs.declared.frame.Kind.{Kind}
use Rattle.http_body.specs.declared.frame.Kind.TheVariants.{Data, Trailers}
use Rattle.http_body.specs.Frame.{data_in, bytes_in, data_of, joined_data}
use Rattle.futures.specs.declared.task.Poll.{Poll}
use Rattle.futures.specs.declared.task.Poll.TheVariants.{Ready, Pending}
use Rattle.futures.specs.Poll.{IfReady, OnPending}
use Rattle.mx_http.specs.declared.bodies.BodyError.{BodyError}
use Rattle.mx_http.specs.declared.bodies.CountedBody.{CountedBody}
use Rattle.mx_http.specs.declared.bodies.WholeBody.{WholeBody}
use Rattle.mx_http.specs.Bodies.{IsBody, OnOkOrPending}
use Rattle.mx_http.specs.WholeBodies.{GivesBody, StillGives}

-- the bytes of a frame are those of its data
bytes_of_data : (kind : Kind (List ℕ)) → unwrap_or (data_in kind) [] ≡ bytes_in kind
bytes_of_data (Data piece) = refl
bytes_of_data (Trailers fields) = refl

module _ {E : Type 0} (old new : Runs (Result (Frame (List ℕ)) E)) (held bytes : List ℕ) where
  -- a frame came
  pub body_of_frame : (ended : Bool) (past : Option ℕ) (old_piece new_piece : Option (List ℕ)) (frame : Frame (List ℕ))
      → ended ≡ false → old_piece ≡ None → new_piece ≡ data_of frame → After old (Ok frame) new
      → IsBody new ended past held new_piece bytes → IsBody old ended past held old_piece bytes
  body_of_frame true past old_piece new_piece frame goes_on taken found after given = absurd (cc)
  body_of_frame false past (Some piece) new_piece frame goes_on taken found after given = absurd (cc)
  body_of_frame false past None new_piece frame goes_on taken found after (none, (frames, came, is)) = (
    none,
    (
      frame ∷ frames,
      after (map Ok frames) None came,
      is ∙ ap (λ (piece : Option (List ℕ)). (held ++ unwrap_or piece []) ++ joined_data frames) found
          ∙ ap (λ (piece : List ℕ). (held ++ piece) ++ joined_data frames) (bytes_of_data frame.kind)
          ∙ append_assoc held (bytes_in frame.kind) (joined_data frames)
          ∙ ap (λ (before : List ℕ). before ++ (bytes_in frame.kind ++ joined_data frames)) (sym (append-nil held)),
    ),
  )

module _ {E : Type 0} (source : Runs (Result (Frame (List ℕ)) E)) (bytes : List ℕ) where
  -- its source has ended, and all that came is held
  pub body_at_end : (ended : Bool) (past : Option ℕ) (held : List ℕ) (piece : Option (List ℕ)) → ended ≡ true → piece ≡ None
      → past ≡ None → bytes ≡ held → IsBody source ended past held piece bytes
  body_at_end false past held piece has_ended taken none is = absurd (cc)
  body_at_end true past held (Some more) has_ended taken none is = absurd (cc)
  body_at_end true past held None has_ended taken none is =
      (none, ([], (refl, refl), is ∙ sym (append-nil held) ∙ sym (append-nil (held ++ []))))

module _ {X E : Type 0} (P : Type 0) where
  -- a step that was done
  pub of_done : (p : Poll (Result X E)) (x : X) → p ≡ Ready (Ok x) → OnOkOrPending p P → P
  of_done Pending x is held = absurd (cc)
  of_done (Ready (Ok y)) x is held = held
  of_done (Ready (Err e)) x is held = absurd (cc)

  -- a step that waits
  pub of_waiting : (p : Poll (Result X E)) → p ≡ Pending → OnOkOrPending p P → P
  of_waiting Pending is held = held
  of_waiting (Ready r) is held = absurd (cc)

module _ {X E : Type 0} (P Q : X → Type 0) where
  -- what a future without a fault gives later it may give now
  pub gives_still : (old new : Option E) (r : Result X E) → old ≡ None → new ≡ None → ((x : X) → Q x → P x)
      → MatchOption new (IfOk r Q) (λ fault. r ≡ Err fault) → MatchOption old (IfOk r P) (λ fault. r ≡ Err fault)
  gives_still (Some fault) new r old_none new_none still given = absurd (cc)
  gives_still None (Some fault) r old_none new_none still given = absurd (cc)
  gives_still None None (Ok x) old_none new_none still given = still x given
  gives_still None None (Err e) old_none new_none still given = given

  -- the same of a future that is ready
  pub gives_ready : (p : Poll (Result X E)) (old : Option E) → old ≡ None → ((x : X) → Q x → P x)
      → IfReady p (λ r. IfOk r Q) → IfReady p (λ r. MatchOption old (IfOk r P) (λ fault. r ≡ Err fault))
  gives_ready Pending old none still given = given
  gives_ready (Ready r) (Some fault) none still given = absurd (cc)
  gives_ready (Ready (Ok x)) None none still given = still x given
  gives_ready (Ready (Err e)) None none still given = given

module _ {B R E : Type 0} (yields : B → Runs (Result (Frame (List ℕ)) E)) (old new : WholeBody B R) where
  -- the same of a body that is gathered
  pub whole_still : (r : Result CountedBody BodyError) → old.fault ≡ None → new.fault ≡ None → StillGives yields old new
      → MatchOption new.fault (IfOk r (λ counted. GivesBody yields new counted.bytes.items)) (λ fault. r ≡ Err fault)
      → MatchOption old.fault (IfOk r (λ counted. GivesBody yields old counted.bytes.items)) (λ fault. r ≡ Err fault)
  whole_still r old_none new_none still given =
      gives_still (λ counted. GivesBody yields old counted.bytes.items) (λ counted. GivesBody yields new counted.bytes.items)
      old.fault new.fault r old_none new_none (λ counted whole. still counted.bytes.items whole) given

  pub whole_ready : (p : Poll (Result CountedBody BodyError)) → old.fault ≡ None → StillGives yields old new
      → IfReady p (λ r. IfOk r (λ counted. GivesBody yields new counted.bytes.items))
      → IfReady p (λ r. MatchOption old.fault (IfOk r (λ counted. GivesBody yields old counted.bytes.items)) (λ fault. r ≡ Err fault))
  whole_ready p none still given =
      gives_ready (λ counted. GivesBody yields old counted.bytes.items) (λ counted. GivesBody yields new counted.bytes.items)
      p old.fault none (λ counted whole. still counted.bytes.items whole) given

module _ {X : Type 0} (S T : Type 0) where
  pub pending_map : (p : Poll X) → (S → T) → OnPending p S → OnPending p T
  pending_map Pending f held = f held
  pending_map (Ready x) f held = held

  pub pending_always : (p : Poll X) → T → OnPending p T
  pending_always Pending held = held
  pending_always (Ready x) held = tt
