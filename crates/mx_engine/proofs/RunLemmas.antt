-- One job of a transaction, event by event.
use Rattle.std.proofs.Common.{◌≡◌, ◌<◌, ◌≤◌, ◌+◌, ℕ, length, get_or, take, true, IsTrue, false, cond, List, [], ◌∷◌, ◌++◌, append-nil, Some, refl, sym, ◌∙◌, ap, subst}
use Rattle.std.proofs.lemmas.List.{take_more, take_all}
use Rattle.std.proofs.lemmas.List.Elements.{filter-append}
use Rattle.crossbeam_utils.specs.declared.cache_padded.CachePadded.{CachePadded}
use Rattle.mx_dock.specs.Dock.{own}
use Rattle.mx_dock.specs.declared.docks.Dock.{Dock}
use Rattle.mx_keeper.specs.Places.{PlaceView, is_at}
use Rattle.mx_keeper.specs.declared.refusals.CallError.{CallError}
use Rattle.mx_pdu.specs.Event.{room_of}
use Rattle.mx_room.specs.Offer.{Offered}
use Rattle.mx_shard.specs.Journal.{Entry}
use Rattle.mx_world.specs.declared.answers.Told.{Told}
use Rattle.mx_engine.specs.Views.{BerthView, AddsNothingThere}
use Rattle.mx_engine.specs.Transactions.{IsOfferedThere, AreOfferedThere, events_at}
use Rattle.mx_engine.specs.Jobs.{IsSeated, IsReady, IsRun, IsDone, IsSameJob}
use Rattle.mx_engine.specs.declared.docked.DockedShard.{DockedShard}
use Rattle.mx_engine.specs.declared.jobs.Job.{Job}
use Rattle.mx_engine.proofs.OneShardLemmas.{there-append}

module _ {K : Type 0} (docks : List (CachePadded (Dock (DockedShard K) Entry))) (caller : ℕ) (origin : List ℕ) where
  -- ---- one event

  pub job_elsewhere : (place : PlaceView) (o : Offered) (view : BerthView Entry) (told : List Told)
      → is_at place (room_of o.pdu) ≡ false →
      (later : List Told) × AreOfferedThere caller origin (events_at place (o ∷ [])) view view later × (told ≡ told ++ later)
  job_elsewhere place o view told is =
      ([], subst (λ b. AreOfferedThere caller origin (cond b (o ∷ []) []) view view []) (sym is) refl, sym (append-nil told))

  pub job_one : (place : PlaceView) (o : Offered) (old new : BerthView Entry) (t : Told) → is_at place (room_of o.pdu) ≡ true
      → IsOfferedThere caller origin o old new t →
      AreOfferedThere caller origin (events_at place (o ∷ [])) old new (t ∷ [])
  job_one place o old new t is one =
      subst (λ b. AreOfferedThere caller origin (cond b (o ∷ []) []) old new (t ∷ [])) (sym is) (new, one, refl)

  -- ---- so far

  pub record SoFarThere (events : List Offered) (index : ℕ) (old job : Job K) : Type 0 where
    pub seated : IsSeated docks caller job
    pub same : IsSameJob old job
    pub offered : AreOfferedThere caller origin (events_at old.place (take index events)) (own old.berth) (own job.berth)
        job.told.items

  pub there_none : (events : List Offered) (job : Job K) → IsReady docks caller events job → SoFarThere events 0 job job
  there_none events job r = record {
    seated = r.seated;
    same = record {
      placed = refl;
      busy = refl;
      fault = refl;
      same = record { numbered = refl; opened = refl; counted = refl; placed = refl };
    };
    offered = subst (λ ts. AreOfferedThere caller origin [] (own job.berth) (own job.berth) ts) (sym r.untold) refl;
  }

  same_job_trans : (first second third : Job K) → IsSameJob first second → IsSameJob second third → IsSameJob first third
  same_job_trans first second third a b = record {
    placed = b.placed ∙ a.placed;
    busy = b.busy ∙ a.busy;
    fault = b.fault ∙ a.fault;
    same = record {
      numbered = b.same.numbered ∙ a.same.numbered;
      opened = b.same.opened ∙ a.same.opened;
      counted = b.same.counted ∙ a.same.counted;
      placed = b.same.placed ∙ a.same.placed;
    };
  }

  one_more : (place : PlaceView) (events : List Offered) (index : ℕ) (o : Offered) → index < length events
      → o ≡ get_or events index o →
      events_at place (take (index + 1) events) ≡ events_at place (take index events) ++ events_at place (o ∷ [])
  one_more place events index o l is =
      ap (events_at place) (take_more events index o l ∙ ap (λ x. take index events ++ x ∷ []) (sym is))
      ∙ filter-append (λ x. is_at place (room_of x.pdu)) (take index events) (o ∷ [])

  pub there_more : (events : List Offered) (index : ℕ) (o : Offered) (old job new : Job K) → index < length events
      → o ≡ get_or events index o → SoFarThere events index old job → IsSeated docks caller new → IsSameJob job new →
      (later : List Told) × AreOfferedThere caller origin (events_at job.place (o ∷ [])) (own job.berth) (own new.berth)
      later × (new.told.items ≡ job.told.items ++ later) → SoFarThere events (index + 1) old new
  there_more events index o old job new l is far seated same more = record {
    seated = seated;
    same = same_job_trans old job new far.same same;
    offered =
        subst (λ es. AreOfferedThere caller origin es (own old.berth) (own new.berth) new.told.items)
        (sym (one_more old.place events index o l is))
        (subst (λ ts. AreOfferedThere caller origin (events_at old.place (take index events) ++ events_at old.place (o ∷ []))
        (own old.berth) (own new.berth) ts) (sym more.2)
        (there-append caller origin (events_at old.place (take index events)) (events_at old.place (o ∷ [])) (own old.berth)
        (own job.berth) (own new.berth) job.told.items more.0 far.offered
        (subst (λ (p : PlaceView). AreOfferedThere caller origin (events_at p (o ∷ [])) (own job.berth) (own new.berth)
        more.0) far.same.placed more.1)));
  }

  -- ---- the whole

  pub run_idle : (events : List Offered) (job : Job K) → IsReady docks caller events job → job.is_busy ≡ false
      → IsRun docks caller origin events job job
  run_idle events job r idle = record {
    seated = r.seated;
    placed = refl;
    same = record { numbered = refl; opened = refl; counted = refl; placed = refl };
    done = subst (λ f. IsDone caller origin job.place events (own job.berth) job f) (sym r.faultless)
        (subst (λ es. AreOfferedThere caller origin es (own job.berth) (own job.berth) job.told.items) (sym (r.idle idle))
        (subst (λ ts. AreOfferedThere caller origin [] (own job.berth) (own job.berth) ts) (sym r.untold) refl));
  }

  pub run_through : (events : List Offered) (index : ℕ) (old job : Job K) → length events ≤ index
      → IsReady docks caller events old → SoFarThere events index old job → IsRun docks caller origin events old job
  run_through events index old job l r far = record {
    seated = far.seated;
    placed = far.same.placed;
    same = far.same.same;
    done = subst (λ f. IsDone caller origin old.place events (own old.berth) job f) (sym (far.same.fault ∙ r.faultless))
        (subst (λ es. AreOfferedThere caller origin (events_at old.place es) (own old.berth) (own job.berth) job.told.items)
        (take_all index events l) far.offered);
  }

  -- it stops at the event at this place, which adds nothing
  pub run_stopped : (events : List Offered) (index : ℕ) (o : Offered) (error : CallError) (old job new : Job K)
      → index < length events
      → o ≡ get_or events index o → SoFarThere events index old job → IsSeated docks caller new → IsSameJob job new
      → AddsNothingThere (own job.berth) (own new.berth) → IsTrue (is_at job.place (room_of o.pdu))
      → IsRun docks caller origin events old (record new { fault = Some (record { place = index; error = error }) })
  run_stopped events index o error old job new l is far seated same nothing here = record {
    seated = record { within = seated.within; counted = seated.counted; berth = seated.berth };
    placed = same.placed ∙ far.same.placed;
    same = (same_job_trans old job new far.same same).same;
    done = record {
      its = (o, l, is, subst (λ (p : PlaceView). IsTrue (is_at p (room_of o.pdu))) far.same.placed here);
      between = own job.berth;
      told = job.told.items;
      offered = far.offered;
      nothing = nothing;
    };
  }
