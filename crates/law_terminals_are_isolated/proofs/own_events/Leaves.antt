-- An event whose steps are all one terminal's leaves the whole projections of the others.
use Rattle.std.proofs.Common.{◌≡◌, ◌+◌, true, List, [], ◌∷◌, map, Option, Some, None, refl, sym, ap, ◌∙◌, subst}
use Rattle.std.specs.List.{AllByRecursion}
use Rattle.gnb_types.specs.declared.names.NodeId.{NodeId}
use Rattle.gnb_types.specs.declared.names.NodeId.TheVariants.{Core}
use Rattle.gnb_types.specs.declared.names.UeId.{UeId}
use Rattle.gnb_types.specs.declared.names.BearerId.{BearerId}
use Rattle.gnb_types.specs.declared.names.Dir.TheVariants.{Dl}
use Rattle.gnb_types.specs.declared.keys.TunnelEnd.{TunnelEnd}
use Rattle.message_types.specs.declared.rrc.Token.{Token}
use Rattle.scenario_text.specs.declared.event.Event.{Event}
use Rattle.unit_defs.specs.Ways.{Message, Pdu, Load, Put, control, packet, radio, deliver, dropped, held, opened, closed, failed, no, gives, spent}
use Rattle.unit_defs.specs.Messages.{teid_of}
use Rattle.unit_defs.specs.Core.{CoreRecord, core_acts}
use Rattle.transport_defs.specs.declared.Item.{Item}
use Rattle.transport_defs.specs.Links.{landed}
use Rattle.run_defs.specs.Lines.{RunLine}
use Rattle.run_defs.specs.Units.{Units, cu_up_of}
use Rattle.run_defs.specs.Written.{Written, written_put, WrittenCoreStepped}
use Rattle.run_defs.specs.States.{goes, stops, told_before, ◌next◌, goes_on, Ending, Within, as_step, RunStep, core_stepped, Lengths, sn_of, entity, book_of}
use Rattle.run_defs.specs.Steps.{check_spans, put_on_tunnel, put_out_all, count_control_messages, carried_out}
use Rattle.run_defs.specs.Events.{offered, landed_as}
use Rattle.run_defs.specs.Runs.{Reading, Plain, plain_way, core_done, plain_world}
use Rattle.proof_run_steps.specs.steps.Causes.{by_item, node_of, count_of, first_of}
use Rattle.proof_run_steps.specs.steps.IsOutcome.{IsOutcome, stays, ends, then_made, sets_up, starts, acts, holds_item, holds_pdu, offers, core_takes, core_reads, lands, loses_control_message, loses_item, remarks}
use Rattle.proof_run_steps.proofs.steps.Frames.{HasUnits, then_units, keep_checked as units_checked, keep_put_on_tunnel as units_on_tunnel, keep_put_all as units_put_all}
use Rattle.proof_run_steps.proofs.facts.Within.{HoldsWith, then_holds, keep_checked as facts_checked, keep_put_on_tunnel as facts_on_tunnel, keep_put_all as facts_put_all}
use Rattle.law_terminals_are_isolated.specs.projections.Projections.{core_projection}
use Rattle.law_terminals_are_isolated.specs.projections.Steps.{IsFor, PutsFor, StaysFor}
use Rattle.law_terminals_are_isolated.proofs.projections.Cores.{acts_steps}
use Rattle.law_terminals_are_isolated.specs.cu_up_projection.CuUps.{cu_up_projection}
use Rattle.law_terminals_are_isolated.specs.run_projections.Units.{units_projection}
use Rattle.law_terminals_are_isolated.specs.frame_of_steps.Others.{OthersStay}
use Rattle.law_terminals_are_isolated.proofs.frame_of_steps.Steps.{StayFrom, same, stay_same, stay_then, then_stay, then_from, keep_checked, keep_put_on_tunnel, keep_put_all, book_stays, first_stays}
use Rattle.law_terminals_are_isolated.specs.own_steps.Own.{LeavesOthers}
use Rattle.law_terminals_are_isolated.proofs.own_steps.Steps.{Sound, all_for}
use Rattle.law_terminals_are_isolated.proofs.own_steps.Leaves.{has_core, core_fits, core_is, act_leaves}
use Rattle.law_terminals_are_isolated.specs.own_events.Events.{RunState, RunOutcome, AllFor}

abbrev RunPut : Type 0
RunPut = Put (Message Token) (Written (Load Pdu)) (Written Pdu)

abbrev RunWithin : Type 0
RunWithin = Within (Message Token) Token (Written (Load Pdu)) (Written Pdu)

abbrev CoreOf : Type 0
CoreOf = CoreRecord (Message Token) Token

module _ (reading : Reading) (ue : UeId) where
  -- ---- where it goes on, it leaves the others

  abbrev pub LeavesAt : {X : Type 0} → RunState → Ending X RunState → Type 0
  LeavesAt s (goes told t) = LeavesOthers ue s t
  LeavesAt s (stops told why) = Unit {0}

  beside_alone : (s t : RunState) → t.units ≡ s.units → StaysFor core_projection ue s.core t.core → OthersStay ue s t → LeavesOthers ue s t
  beside_alone s t units core beside = record {
    units = λ other apart. ap (units_projection other) units;
    tunnels = λ gnb number other apart. ap (λ (u : Units (Message Token) Token). cu_up_projection other (cu_up_of u gnb number)) units;
    core = core;
    beside = beside;
  }

  leaves_same : (s t : RunState) → t.units ≡ s.units → t.core ≡ s.core → OthersStay ue s t → LeavesOthers ue s t
  leaves_same s t units core beside = beside_alone s t units (λ other apart. ap (core_projection other) core) beside

  leaves_then : (s t u : RunState) → LeavesOthers ue s t → LeavesOthers ue t u → LeavesOthers ue s u
  leaves_then s t u p q = record {
    units = λ other apart. q.units other apart ∙ p.units other apart;
    tunnels = λ gnb number other apart. q.tunnels gnb number other apart ∙ p.tunnels gnb number other apart;
    core = λ other apart. q.core other apart ∙ p.core other apart;
    beside = stay_then (plain_world reading) ue s t u p.beside q.beside;
  }

  step_leaves : (s : RunState) (actor : Option NodeId) (w : RunWithin)
      → ((lines : List (RunLine (Message Token))) (t : RunState) → w ≡ goes lines t → LeavesOthers ue s t) → LeavesAt s (as_step actor w)
  step_leaves s actor (goes lines t) f = f lines t refl
  step_leaves s actor (stops lines why) f = tt

  all_leave : (s : RunState) (core : CoreOf) (actor : Option NodeId) (w : RunWithin) → StaysFor core_projection ue s.core core
      → HasUnits (plain_world reading) s.units w → HoldsWith (plain_world reading) (has_core (plain_world reading) core) 0 w
      → StayFrom (plain_world reading) ue s w → LeavesAt s (as_step actor w)
  all_leave s core actor (goes lines t) stay units cores beside =
      beside_alone s t units (λ other apart. ap (core_projection other) cores.core ∙ stay other apart) beside
  all_leave s core actor (stops lines why) stay units cores beside = tt

  then_leaves : (s : RunState) (d : RunOutcome) (more : RunState → RunOutcome) → LeavesAt s d
      → ((x : RunState) (told : List (RunStep (Message Token))) → d ≡ goes told x → LeavesAt x (more x)) → LeavesAt s (d next more)
  then_leaves s (goes told x) more p q = by (more x) (q x told refl)
    where
      by : (e : RunOutcome) → LeavesAt x e → LeavesAt s (told_before told e)
      by (goes more_told t) h = leaves_then s x t p h
      by (stops more_told why) h = tt
  then_leaves s (stops told why) more p q = tt

  from_started : (s : RunState) (e : RunOutcome) → LeavesAt (record s { started = true }) e → LeavesAt s e
  from_started s (goes told t) h = record {
    units = h.units;
    tunnels = h.tunnels;
    core = h.core;
    beside = record {
      control_messages = h.beside.control_messages;
      tunnels = h.beside.tunnels;
      radios = h.beside.radios;
      books = h.beside.books;
      connected = h.beside.connected;
      plans = h.beside.plans;
    };
  }
  from_started s (stops told why) h = tt

  -- ---- the core

  written_for : (lengths : Lengths) (xs : List (Put (Message Token) (Load Pdu) Pdu)) → AllByRecursion (IsFor ue.0) xs
      → AllByRecursion (IsFor ue.0) (map (written_put lengths) xs)
  written_for lengths [] all = tt
  written_for lengths (x ∷ xs) all = (by x all.0, written_for lengths xs all.1)
    where
      by : (y : Put (Message Token) (Load Pdu) Pdu) → IsFor ue.0 y → IsFor ue.0 (written_put lengths y)
      by (control to u m) is = is
      by (packet to teid u bearer dir tag load) is = is
      by (radio u bearer dir epoch tag pdu) is = is
      by (deliver u bearer dir count p) is = is
      by (dropped reason) is = tt
      by (held reason) is = tt
      by (opened teid) is = tt
      by (closed teid) is = tt
      by (failed u cause) is = is
      by (no reason) is = tt

  abbrev CoreFor : CoreOf → WrittenCoreStepped → Type 0
  CoreFor r (core_stepped outputs core) = AllByRecursion (IsFor ue.0) outputs × StaysFor core_projection ue r core

  core_by : (lengths : Lengths) (r : CoreOf) (a : Plain CoreOf) → PutsFor ue.0 (StaysFor core_projection ue r) a → CoreFor r (core_done reading lengths r a)
  core_by lengths r (gives outputs after) p = (written_for lengths outputs p.0, p.1)
  core_by lengths r (spent counter) p = (tt, λ other apart. refl)

  -- the core puts this, and is so then
  core_leaves : (t : RunState) (first : RunWithin) (outputs : List RunPut) (core : CoreOf) → Sound t → CoreFor t.core (core_stepped outputs core)
      → HasUnits (plain_world reading) t.units first
      → HoldsWith (plain_world reading) (has_core (plain_world reading) core) (count_control_messages (plain_world reading) outputs) first
      → StayFrom (plain_world reading) ue t first
      → LeavesAt t (as_step (Some Core) (first next put_out_all (plain_world reading) Core None outputs next check_spans))
  core_leaves t first outputs core sound its units cores beside =
      let world = plain_world reading in
      all_leave t core (Some Core) (first next put_out_all world Core None outputs next check_spans) its.1
      (then_units world t.units (first next put_out_all world Core None outputs) check_spans
      (then_units world t.units first (put_out_all world Core None outputs) units (units_put_all world Core None outputs)) (units_checked world))
      (then_holds world (has_core world core) 0 0 (first next put_out_all world Core None outputs) check_spans
      (then_holds world (has_core world core) (count_control_messages world outputs) 0 first (put_out_all world Core None outputs) cores
      (λ x k. facts_put_all world (has_core world core) Core None outputs (core_fits world core Core None outputs) x k))
      (λ x k. facts_checked world (has_core world core) 0 x k))
      (then_stay world ue t (first next put_out_all world Core None outputs) check_spans
      (then_from world ue t first (put_out_all world Core None outputs) beside
      (λ x st. keep_put_all world ue t Core None outputs (all_for reading t sound ue Core outputs its.0 (λ teid is. tt)) x st)) (keep_checked world ue))

  core_reads_leave : (t : RunState) (outputs : List RunPut) (core : CoreOf) → Sound t → CoreFor t.core (core_stepped outputs core)
      → LeavesAt t (as_step (Some Core) (put_out_all (plain_world reading) Core None outputs (record t { core = core }) next check_spans))
  core_reads_leave t outputs core sound its =
      let world = plain_world reading in
      let r : RunState = record t { core = core } in
      let beside : OthersStay ue t r = stay_same world ue t r refl refl refl refl refl refl in
      all_leave t core (Some Core) (put_out_all world Core None outputs r next check_spans) its.1
      (then_units world t.units (put_out_all world Core None outputs r) check_spans (units_put_all world Core None outputs r) (units_checked world))
      (then_holds world (has_core world core) 0 0 (put_out_all world Core None outputs r) check_spans
      (facts_put_all world (has_core world core) Core None outputs (core_fits world core Core None outputs) r
      (core_is world core (count_control_messages world outputs) r refl)) (λ x k. facts_checked world (has_core world core) 0 x k))
      (then_stay world ue t (put_out_all world Core None outputs r) check_spans
      (from_core (put_out_all world Core None outputs r)
      (keep_put_all world ue t Core None outputs (all_for reading t sound ue Core outputs its.0 (λ teid is. tt)) r beside)) (keep_checked world ue))
    where
      from_core : (e : RunWithin) → StayFrom (plain_world reading) ue (record t { core = core }) e → StayFrom (plain_world reading) ue t e
      from_core (goes lines x) h = stay_then (plain_world reading) ue t (record t { core = core }) x
          (stay_same (plain_world reading) ue t (record t { core = core }) refl refl refl refl refl refl) h
      from_core (stops lines why) h = tt

  -- ---- a whole event

  -- of states that may be passed, in which links hold their own; the steps of this event lead from one to another
  module _ (PassesTo : RunState → Type 0) (sound : (t : RunState) → PassesTo t → Sound t) (event : Event)
      (onward : (t u : RunState) (told : List (RunStep (Message Token))) → PassesTo t → IsOutcome (plain_world reading) event t (goes told u) → PassesTo u) where
    offer_leaves : (t : RunState) (bearer : BearerId) (end : TunnelEnd) (item : Item (Written (Load Pdu))) → item.key.ue ≡ ue
        → LeavesAt t (as_step (Some Core) (put_on_tunnel (plain_world reading) end item (offered (plain_world reading) (entity ue bearer Dl) t) next check_spans))
    offer_leaves t bearer end item is =
        let world = plain_world reading in
        let u : RunState = offered world (entity ue bearer Dl) t in
        all_leave t t.core (Some Core) (put_on_tunnel world end item u next check_spans) (λ other apart. refl)
        (then_units world t.units (put_on_tunnel world end item u) check_spans (units_on_tunnel world end item u) (units_checked world))
        (then_holds world (has_core world t.core) 0 0 (put_on_tunnel world end item u) check_spans
        (facts_on_tunnel world (has_core world t.core) end item tt 0 u (core_is world t.core 0 u refl)) (λ x k. facts_checked world (has_core world t.core) 0 x k))
        (then_stay world ue t (put_on_tunnel world end item u) check_spans
        (from_offered (put_on_tunnel world end item u) (keep_put_on_tunnel world ue end item is u)) (keep_checked world ue))
      where
        from_offered : (e : RunWithin) → StayFrom (plain_world reading) ue (offered (plain_world reading) (entity ue bearer Dl) t) e
            → StayFrom (plain_world reading) ue t e
        from_offered (goes lines x) h =
            stay_then (plain_world reading) ue t (offered (plain_world reading) (entity ue bearer Dl) t) x
            (book_stays (plain_world reading) ue t (entity ue bearer Dl)
            (record (book_of t (entity ue bearer Dl)) { offered = (book_of t (entity ue bearer Dl)).offered + 1 }) refl) h
        from_offered (stops lines why) h = tt

    pub made_leaves : (t : RunState) (e : RunOutcome) (made : IsOutcome (plain_world reading) event t e) → PassesTo t → AllFor reading event ue t e made → LeavesAt t e
    unfolding landed
    made_leaves t e (stays x) passed all = leaves_same x x refl refl (same (plain_world reading) ue x)
    made_leaves t e (ends x why) passed all = tt
    made_leaves t e (then_made x d more p q) passed all =
        then_leaves x d more (made_leaves x d p passed all.0)
        (λ y told ends_so. made_leaves y (more y) (q y)
        (onward x y told passed (subst (λ (o : RunOutcome). IsOutcome (plain_world reading) event x o) ends_so p)) (all.1 y told ends_so))
    made_leaves t e (sets_up x plan is free room teids) passed all = absurd all
    made_leaves t e (starts x d p) passed all =
        let y : RunState = record x { started = true } in
        from_started x d (made_leaves y d p (onward x y [] passed (starts x (goes_on y) (stays y))) all)
    made_leaves t e (acts x cause outputs units at is fine few) passed all =
        let world = plain_world reading in
        step_leaves x (Some (node_of cause)) (carried_out world (node_of cause) (count_of cause) (first_of world cause) outputs units x)
        (λ lines y goes_so. act_leaves reading x (sound x passed) ue event cause outputs units y lines all (record { stands = at; answers = is; few = few }) goes_so)
    made_leaves t e (holds_item x end reason) passed all = leaves_same x x refl refl (same (plain_world reading) ue x)
    made_leaves t e (holds_pdu x key home reason) passed all = leaves_same x x refl refl (same (plain_world reading) ue x)
    made_leaves t e (offers x who bearer p path is found) passed all =
        let world = plain_world reading in
        let end : TunnelEnd = record { node = path.up; teid = teid_of path.n3 bearer } in
        subst (λ (u : UeId). LeavesAt x (as_step (Some Core) (put_on_tunnel world end
        (record { key = entity u bearer Dl; count = None; content = world.lay_n3 (teid_of path.n3 bearer) p }) (offered world (entity u bearer Dl) x) next check_spans)))
        (sym all) (offer_leaves x bearer end (record { key = entity ue bearer Dl; count = None; content = world.lay_n3 (teid_of path.n3 bearer) p }) refl)
    made_leaves t e (core_takes x number l outputs core found at is few) passed all =
        let world = plain_world reading in
        let r : RunState = record x { core = core } in
        let its : CoreFor x.core (core_stepped outputs core) = subst (CoreFor x.core) is (core_by (sn_of x) x.core (core_acts plain_way x.core l.from l.message)
        (subst (λ (u : UeId). PutsFor u.0 (StaysFor core_projection u x.core) (core_acts plain_way x.core l.from l.message)) all
        (acts_steps plain_way l.from l.message x.core))) in
        core_leaves x (landed_as world number l r) outputs core (sound x passed) its refl
        (core_is world core (count_control_messages world outputs) _ refl) (stay_same world ue x _ refl refl refl refl refl refl)
    made_leaves t e (core_reads x from octets outputs core is) passed all =
        let world = plain_world reading in
        let its : CoreFor x.core (core_stepped outputs core) = subst (CoreFor x.core) is ((tt, tt), λ other apart. refl) in
        core_reads_leave x outputs core (sound x passed) its
    made_leaves t e (lands x number l to found at) passed all =
        leaves_same x _ refl refl (stay_same (plain_world reading) ue x _ refl refl refl refl refl refl)
    made_leaves t e (loses_control_message x number) passed all =
        leaves_same x _ refl refl (stay_same (plain_world reading) ue x _ refl refl refl refl refl refl)
    made_leaves t e (loses_item x end item rest found) passed all =
        leaves_same x _ refl refl (first_stays (plain_world reading) ue (by_item end item rest) x (all, found))
    made_leaves t e (remarks x lines plain) passed all = leaves_same x x refl refl (same (plain_world reading) ue x)
