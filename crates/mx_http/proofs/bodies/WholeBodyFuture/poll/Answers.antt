use Rattle.std.proofs.Common.{rules}
use Rattle.mx_http.specs.WholeBodies.{StillGives}
use Rattle.mx_http.proofs.BodyLemmas.{of_done, of_waiting, pending_always, pending_map, whole_ready, whole_still}
use Rattle.mx_http.proofs.bodies.WholeBodyFuture.poll.Goals as goal

pub returns-in-loop-clause-same : goal.returns-in-loop-clause-same
returns-in-loop-clause-same g c = λ r given.
    let waits : StillGives g.B.Body.yields c.loop.self c.poll_piece.new.self =
    of_waiting _ c.poll_piece.result (search rules) c.poll_piece.ensures.rest in
    whole_still g.B.Body.yields c.args.self.now c.poll_piece.new.self r (search rules) (search rules)
    (λ bytes whole. c.loop.invariant.3 bytes (waits bytes whole)) given

pub returns-in-loop-2-clause-same : goal.returns-in-loop-2-clause-same
returns-in-loop-2-clause-same g c = λ r given.
    let piece : StillGives g.B.Body.yields c.loop.self c.poll_piece.new.self =
    of_done _ c.poll_piece.result c.in_default-ready.field-0 (search rules) c.poll_piece.ensures.rest in
    let waits : StillGives g.B.Body.yields c.poll_piece.new.self c.poll_frame.new.self =
    of_waiting _ c.poll_frame.result (search rules) c.poll_frame.ensures.rest in
    whole_still g.B.Body.yields c.args.self.now c.poll_frame.new.self r (search rules) (search rules)
    (λ bytes whole. c.loop.invariant.3 bytes (piece bytes (waits bytes whole))) given

pub loop-preserved : goal.loop-preserved
loop-preserved g c =
    let piece : StillGives g.B.Body.yields c.loop.self c.poll_piece.new.self =
    of_done _ c.poll_piece.result c.in_default-ready.field-0 (search rules) c.poll_piece.ensures.rest in
    let frame : StillGives g.B.Body.yields c.poll_piece.new.self c.poll_frame.new.self =
    of_done _ c.poll_frame.result c.in_default-ready-2.field-0 (search rules) c.poll_frame.ensures.rest in (
      of_done _ c.poll_frame.result c.in_default-ready-2.field-0 (search rules) c.poll_frame.ensures.goes,
      search rules,
      search rules,
      λ bytes whole. c.loop.invariant.3 bytes (piece bytes (frame bytes whole)),
    )

pub returns-then-self-clause-value : goal.returns-then-self-clause-value
returns-then-self-clause-value g c =
    let piece : StillGives g.B.Body.yields c.loop.self c.poll_piece.new.self =
    of_done _ c.poll_piece.result c.in_default-ready.field-0 (search rules) c.poll_piece.ensures.rest in
    whole_ready g.B.Body.yields c.args.self.now c.poll_piece.new.self c.poll_end.result (search rules)
    (λ bytes whole. c.loop.invariant.3 bytes (piece bytes whole)) c.poll_end.ensures.whole

pub returns-then-self-clause-same : goal.returns-then-self-clause-same
returns-then-self-clause-same g c =
    let piece : StillGives g.B.Body.yields c.loop.self c.poll_piece.new.self =
    of_done _ c.poll_piece.result c.in_default-ready.field-0 (search rules) c.poll_piece.ensures.rest in
    pending_map _ _ c.poll_end.result (λ (waits : StillGives g.B.Body.yields c.poll_piece.new.self c.poll_end.new.self). λ r given.
    whole_still g.B.Body.yields c.args.self.now c.poll_end.new.self r (search rules) (search rules)
    (λ bytes whole. c.loop.invariant.3 bytes (piece bytes (waits bytes whole))) given)
    c.poll_end.ensures.rest

pub returns-clause-same : goal.returns-clause-same
returns-clause-same g c = pending_always (Unit {0}) _ c.yield_now.result (λ r given.
    whole_still g.B.Body.yields c.args.self.now c.loop.self r (search rules) (search rules)
    (λ bytes whole. c.loop.invariant.3 bytes whole) given)
