use denote.RattleType.{RattleType}
use denote.Param.Send.{IsSync, param_send, param_sync, arg_send, arg_sync, shr_sync, shr_slice_sync}
use denote.Param.SendFields.{declared_sync, as_row_sync}
use denote.Exit.{no}
use denote.Struct.Tuple.{type_at}
use denote.Struct.Declared.{row}
use denote.Struct.Field.{row_field}
use denote.Ref.{ShrRef, NamedLft}
use denote.Slice.{ShrSlice}
use denote.Param.{param}
use mir.Syntax.{Sym, named}
use Rattle.std.proofs.Common.{◌∷◌, []}
use Rattle.std.specs.Prelude.{codes}
use Rattle.mx_pdu.specs.contracts.offering.Offered as offered
use Rattle.mx_engine.specs.contracts.jobs.Job as job
use Rattle.mx_engine.specs.contracts.offering.Offering as offering
use Rattle.mx_engine.proofs.Sending.{offered_sync}
use Rattle.mx_engine.proofs.SeatSending.{job_send, offering_sync}
use Rattle.mx_engine.proofs.offering.Offering.run_in_threads.Goals as goal

pub for_each_mut-requires-send-T : goal.for_each_mut-requires-send-T
for_each_mut-requires-send-T g c κs within =
    param_send 1 _ (arg_send _ no (job.the_row (param 1 g.row.K) g.K.Keeper)
    (job_send (param 1 g.row.K) g.K.Keeper c.type_bounds.send-K))

-- what a closure captures of two values may be shared where each of them may
captured_sync : (ν : Sym) (A B : RattleType) → IsSync A → IsSync B → IsSync (row (type_at ν (A ∷ B ∷ [])))
captured_sync ν A B a b =
    declared_sync (type_at ν (A ∷ B ∷ [])) (as_row_sync (row_field A) a, (as_row_sync (row_field B) b, tt))

abbrev closure : Sym
closure = codes "mx_engine::offering::fn::Offering::run_in_threads::for_each_mut+Self"

pub for_each_mut-requires-sync-F : goal.for_each_mut-requires-sync-F
for_each_mut-requires-sync-F g c κs within =
    let l : NamedLft = record { mir = named 7; lft = κs.1.1.1.1.1.1.1.0 } in
    let it = offering.the_row l (param 0 g.row.R) (param 1 g.row.K) (param 2 g.row.G) g.K.Keeper in
    param_sync 2 _
    (arg_sync _ no _
    (captured_sync closure (ShrRef (named 6) κs.1.1.1.1.1.1.0 it)
    (ShrSlice (named 8) κs.1.1.1.1.1.1.1.1.0 offered.the_row)
    (shr_sync (named 6) κs.1.1.1.1.1.1.0 it
    (offering_sync l (param 0 g.row.R) (param 1 g.row.K) (param 2 g.row.G) g.K.Keeper c.type_bounds.sync-R
    c.type_bounds.send-K c.type_bounds.sync-G))
    (shr_slice_sync (named 8) κs.1.1.1.1.1.1.1.1.0 offered.the_row offered_sync)))
