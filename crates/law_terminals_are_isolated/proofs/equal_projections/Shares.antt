-- Two states that share a terminal's projection, and what the core does for the terminal in them.
use Rattle.std.proofs.Common.{◌≡◌, ℕ, ◌+◌, Bool, List, [], ◌∷◌, map, Some, None, refl, sym, ap, ◌∙◌, subst}
use Rattle.std.specs.List.{AllByRecursion}
use Rattle.gnb_types.specs.declared.names.NodeId.{NodeId}
use Rattle.gnb_types.specs.declared.names.NodeId.TheVariants.{Core}
use Rattle.gnb_types.specs.declared.names.UeId.{UeId}
use Rattle.gnb_types.specs.declared.names.BearerId.{BearerId}
use Rattle.gnb_types.specs.declared.names.Dir.TheVariants.{Dl}
use Rattle.gnb_types.specs.declared.keys.TunnelEnd.{TunnelEnd}
use Rattle.message_types.specs.declared.rrc.Token.{Token}
use Rattle.scenario_text.specs.declared.event.Event.TheVariants as events
use Rattle.unit_defs.specs.Ways.{Message, Pdu, Load, gives, spent}
use Rattle.unit_defs.specs.Messages.{teid_of}
use Rattle.unit_defs.specs.Core.{CorePath, CoreRecord, core_acts}
use Rattle.transport_defs.specs.declared.Item.{Item}
use Rattle.transport_defs.specs.declared.ControlMessage.{ControlMessage}
use Rattle.transport_defs.specs.Links.{landed}
use Rattle.run_defs.specs.Written.{Written, written_put, WrittenCoreStepped}
use Rattle.run_defs.specs.States.{Book, Lengths, sn_in, sn_of, goes, step_of, ◌next◌, as_step, core_stepped, control_message_for, entity}
use Rattle.run_defs.specs.Steps.{check_spans, put_on_tunnel, put_out_all, count_control_messages}
use Rattle.run_defs.specs.Events.{offered, landed_as}
use Rattle.run_defs.specs.Runs.{Reading, Plain, plain_way, core_done, plain_world}
use Rattle.proof_run_steps.specs.steps.IsOutcome.{IsOutcome, offers, core_takes}
use Rattle.proof_run_steps.proofs.steps.Frames.{HasUnits, then_units, keep_checked as units_checked, keep_put_on_tunnel as units_on_tunnel, keep_put_all as units_put_all}
use Rattle.proof_run_steps.proofs.facts.Within.{HoldsWith, then_holds, keep_checked as facts_checked, keep_put_on_tunnel as facts_on_tunnel, keep_put_all as facts_put_all}
use Rattle.proof_run_steps.specs.teids.Given.{GiveOnce}
use Rattle.law_terminals_are_isolated.specs.projections.Projections.{core_projection}
use Rattle.law_terminals_are_isolated.specs.projections.Steps.{IsFor, PutsFor, StaysFor, seen}
use Rattle.law_terminals_are_isolated.proofs.projections.Cores.{acts_same, acts_steps}
use Rattle.law_terminals_are_isolated.proofs.own_steps.Leaves.{has_core, core_fits, core_is}
use Rattle.law_terminals_are_isolated.specs.own_events.Events.{RunState}
use Rattle.law_terminals_are_isolated.specs.all_steps.Projections.{ShareProjection}
use Rattle.law_terminals_are_isolated.specs.all_steps.Steps.{AfterSteps, one_more}
use Rattle.law_terminals_are_isolated.proofs.all_steps.Paths.{step_gives, sound_on}
use Rattle.law_terminals_are_isolated.specs.step_consistency.EqualStates.{EqualStates, EqualFrom, Agree}
use Rattle.law_terminals_are_isolated.specs.equal_projections.Cores.{RunWithin, core_offers, core_does, IsOffered, IsTaken}
use Rattle.law_terminals_are_isolated.proofs.step_consistency.Beside.{then_equal, checks_equal, books_equal, put_on_tunnel_equal, all_equal}
use Rattle.law_terminals_are_isolated.proofs.step_consistency.Units.{RunUnits, RunPuts, all_same, written_for}
use Rattle.law_terminals_are_isolated.proofs.equal_projections.Placed.{there}
use Rattle.law_terminals_are_isolated.proofs.equal_projections.Opens.{opens_at, stand_equal, items_equal}

abbrev CoreOf : Type 0
CoreOf = CoreRecord (Message Token) Token

module _ (reading : Reading) (ue : UeId) where
  abbrev After : RunState → Type 0
  After s = AfterSteps reading s

  abbrev Share : RunState → RunState → Type 0
  Share s t = ShareProjection ue s t

  -- ---- what the core does is a step

  pub offer_made : (bearer : BearerId) (packet : List ℕ) (s t : RunState) (a : IsOffered reading ue bearer packet s t)
      → IsOutcome (plain_world reading) (events.Offer ue bearer Dl packet) s (goes (step_of (Some Core) a.lines ∷ []) t)
  offer_made bearer packet s t a =
      subst (λ (w : RunWithin). IsOutcome (plain_world reading) (events.Offer ue bearer Dl packet) s (as_step (Some Core) w)) a.goes_so
      (offers s ue bearer packet a.path refl a.found)

  pub core_made : (from : NodeId) (message : Message Token) (s t : RunState) (a : IsTaken reading ue from message s t)
      → IsOutcome (plain_world reading) events.Pump s (goes (step_of (Some Core) a.lines ∷ []) t)
  core_made from message s t a =
      let l : ControlMessage (Message Token) = record { from = from; to = Core; ue = a.owner; message = message } in
      subst (λ (w : RunWithin). IsOutcome (plain_world reading) events.Pump s (as_step (Some Core) w)) a.goes_so
      (core_takes s a.number l a.outputs a.core a.found refl a.answers a.few)

  -- ---- projections of states and of their units

  pub agree_of : (s t : RunState) → Share s t → Agree ue s.units t.units
  agree_of s t h = record { units = h.units; tunnels = h.tunnels }

  -- of two states that share a projection, seen at the tunnels that are the terminal's then
  pub begin : (s t x y : RunState) → After s → After t → After x → After y → Share s t → GiveOnce s.units x.units → GiveOnce t.units y.units
      → Agree ue x.units y.units → (a b : RunUnits) → Agree ue a b
      → EqualStates ue (opens_at ue x.units) (record s { units = a }) (record t { units = b })
  begin s t x y p q later too h mine also agree a b there = record {
    control_messages = h.control_messages;
    tunnels = stand_equal ue s t (sound_on reading s p) (sound_on reading t q) (agree_of s t h) x.units y.units agree mine also h.items;
    radios = h.radios;
    books = h.books;
    connected = h.connected;
    plan = h.plan;
    node = λ i. (there.units i).node;
  }

  pub finish : (x y : RunState) → After x → After y → Agree ue x.units y.units → core_projection ue x.core ≡ core_projection ue y.core
      → EqualStates ue (opens_at ue x.units) x y → Share x y
  finish x y later too agree core h = record {
    units = agree.units;
    tunnels = agree.tunnels;
    core = core;
    control_messages = h.control_messages;
    items = items_equal ue x y (sound_on reading x later) (sound_on reading y too) agree h.tunnels;
    radios = h.radios;
    books = h.books;
    connected = h.connected;
    plan = h.plan;
  }

  -- ---- the core puts what is offered

  same_path : (a b : CorePath) → Some a ≡ Some b → a ≡ b
  same_path a b e = cc

  offer_units : (bearer : BearerId) (packet : List ℕ) (path : CorePath) (s : RunState) → HasUnits (plain_world reading) s.units (core_offers reading ue bearer packet path s)
  offer_units bearer packet path s =
      then_units (plain_world reading) s.units _ check_spans (units_on_tunnel (plain_world reading) _ _ (offered (plain_world reading) (entity ue bearer Dl) s))
      (units_checked (plain_world reading))

  offer_core : (bearer : BearerId) (packet : List ℕ) (path : CorePath) (s : RunState)
      → HoldsWith (plain_world reading) (has_core (plain_world reading) s.core) 0 (core_offers reading ue bearer packet path s)
  offer_core bearer packet path s =
      let world = plain_world reading in
      let end : TunnelEnd = record { node = path.up; teid = teid_of path.n3 bearer } in
      let item : Item (Written (Load Pdu)) = record { key = entity ue bearer Dl; count = None; content = world.lay_n3 (teid_of path.n3 bearer) packet } in
      let u : RunState = offered world (entity ue bearer Dl) s in
      then_holds world (has_core world s.core) 0 0 (put_on_tunnel world end item u) check_spans
      (facts_on_tunnel world (has_core world s.core) end item tt 0 u (core_is world s.core 0 u refl)) (λ z k. facts_checked world (has_core world s.core) 0 z k)

  pub offer_shares : (bearer : BearerId) (packet : List ℕ) (s x t y : RunState) → After s → After t → Share s t → IsOffered reading ue bearer packet s x
      → IsOffered reading ue bearer packet t y → Share x y
  offer_shares bearer packet s x t y p q h a b =
      let world = plain_world reading in
      let path : a.path ≡ b.path = same_path a.path b.path (sym a.found ∙ (λ i. (h.core i).path) ∙ b.found) in
      let later : After x = one_more (events.Offer ue bearer Dl packet) s x _ p (offer_made bearer packet s x a) in
      let too : After y = one_more (events.Offer ue bearer Dl packet) t y _ q (offer_made bearer packet t y b) in
      let first : x.units ≡ s.units = subst (HasUnits world s.units) a.goes_so (offer_units bearer packet a.path s) in
      let second : y.units ≡ t.units = subst (HasUnits world t.units) b.goes_so (offer_units bearer packet b.path t) in
      let agree : Agree ue x.units y.units = subst (λ (u : RunUnits). Agree ue u y.units) (sym first)
      (subst (λ (v : RunUnits). Agree ue s.units v) (sym second) (agree_of s t h)) in
      let base = begin s t x y p q later too h (step_gives reading (events.Offer ue bearer Dl packet) s x _ (offer_made bearer packet s x a))
      (step_gives reading (events.Offer ue bearer Dl packet) t y _ (offer_made bearer packet t y b)) agree s.units t.units (agree_of s t h) in
      let end : TunnelEnd = record { node = a.path.up; teid = teid_of a.path.n3 bearer } in
      let item : Item (Written (Load Pdu)) = record { key = entity ue bearer Dl; count = None; content = world.lay_n3 (teid_of a.path.n3 bearer) packet } in
      let done : EqualFrom ue (opens_at ue x.units) (core_offers reading ue bearer packet a.path s) (core_offers reading ue bearer packet a.path t) =
      then_equal world ue (opens_at ue x.units) (put_on_tunnel world end item (offered world (entity ue bearer Dl) s))
      (put_on_tunnel world end item (offered world (entity ue bearer Dl) t)) check_spans check_spans
      (put_on_tunnel_equal world ue (opens_at ue x.units) end item (offered world (entity ue bearer Dl) s) (offered world (entity ue bearer Dl) t)
      (books_equal world ue (opens_at ue x.units) (entity ue bearer Dl) (λ (k : Book). record k { offered = k.offered + 1 }) refl s t base))
      (checks_equal world ue (opens_at ue x.units)) in
      let cores : HoldsWith world (has_core world s.core) 0 (goes a.lines x) =
      subst (HoldsWith world (has_core world s.core) 0) a.goes_so (offer_core bearer packet a.path s) in
      let others : HoldsWith world (has_core world t.core) 0 (goes b.lines y) =
      subst (HoldsWith world (has_core world t.core) 0) b.goes_so (offer_core bearer packet b.path t) in
      finish x y later too agree (ap (core_projection ue) cores.core ∙ h.core ∙ sym (ap (core_projection ue) others.core))
      (subst (λ (w : RunWithin). EqualFrom ue (opens_at ue x.units) (goes a.lines x) w) b.goes_so
      (subst (λ (w : RunWithin). EqualFrom ue (opens_at ue x.units) w (core_offers reading ue bearer packet b.path t)) a.goes_so
      (subst (λ (z : CorePath). EqualFrom ue (opens_at ue x.units) (core_offers reading ue bearer packet a.path s) (core_offers reading ue bearer packet z t)) path done)))

  -- ---- the core takes a message

  pub record CoresTogether (xs ys : RunPuts) (a b : CoreOf) : Type 0 where
    pub outputs : xs ≡ ys
    pub its : AllByRecursion (IsFor ue.0) xs
    pub core : core_projection ue a ≡ core_projection ue b

  abbrev Cores : WrittenCoreStepped → WrittenCoreStepped → Type 0
  Cores (core_stepped xs a) (core_stepped ys b) = CoresTogether xs ys a b

  cores_by : (la lb : Lengths) → la ue ≡ lb ue → (r q : CoreOf) → core_projection ue r ≡ core_projection ue q → (a b : Plain CoreOf)
      → seen (core_projection ue) a ≡ seen (core_projection ue) b → PutsFor ue.0 (StaysFor core_projection ue r) a
      → Cores (core_done reading la r a) (core_done reading lb q b)
  cores_by la lb same r q e (gives xs a) (gives ys b) equal puts =
      let outputs : xs ≡ ys = cc in
      let after : core_projection ue a ≡ core_projection ue b = cc in
      record {
        outputs = all_same ue reading la lb same xs (written_for la ue.0 xs puts.0) ∙ ap (map (written_put lb)) outputs;
        its = written_for la ue.0 xs puts.0;
        core = after;
      }
  cores_by la lb same r q e (gives xs a) (spent n) equal puts = absurd cc
  cores_by la lb same r q e (spent m) (gives ys b) equal puts = absurd cc
  cores_by la lb same r q e (spent m) (spent n) equal puts = record { outputs = refl; its = tt; core = e }

  cores_together : (from : NodeId) (message : Message Token) (s x t y : RunState) → Share s t → (a : IsTaken reading ue from message s x)
      → (b : IsTaken reading ue from message t y) → CoresTogether a.outputs b.outputs a.core b.core
  cores_together from message s x t y h a b =
      let world = plain_world reading in
      subst (λ (w : WrittenCoreStepped). Cores w (core_stepped b.outputs b.core)) a.answers
      (subst (λ (w : WrittenCoreStepped). Cores (world.core_answer (sn_of s) s.core (control_message_for from message)) w) b.answers
      (cores_by (sn_of s) (sn_of t) (ap sn_in h.plan) s.core t.core h.core (core_acts plain_way s.core from message) (core_acts plain_way t.core from message)
      (subst (λ (u : UeId). core_projection u s.core ≡ core_projection u t.core
      → seen (core_projection u) (core_acts plain_way s.core from message) ≡ seen (core_projection u) (core_acts plain_way t.core from message)) a.its
      (acts_same plain_way from message s.core t.core) h.core)
      (subst (λ (u : UeId). PutsFor u.0 (StaysFor core_projection u s.core) (core_acts plain_way s.core from message)) a.its
      (acts_steps plain_way from message s.core))))

  core_units : (number : ℕ) (l : ControlMessage (Message Token)) (outputs : RunPuts) (core : CoreOf) (s : RunState)
      → HasUnits (plain_world reading) s.units (core_does reading number l outputs core s)
  core_units number l outputs core s =
      let world = plain_world reading in
      then_units world s.units (landed_as world number l (record s { core = core }) next put_out_all world Core None outputs) check_spans
      (then_units world s.units (landed_as world number l (record s { core = core })) (put_out_all world Core None outputs) refl (units_put_all world Core None outputs))
      (units_checked world)

  core_then : (number : ℕ) (l : ControlMessage (Message Token)) (outputs : RunPuts) (core : CoreOf) (s : RunState)
      → HoldsWith (plain_world reading) (has_core (plain_world reading) core) 0 (core_does reading number l outputs core s)
  core_then number l outputs core s =
      let world = plain_world reading in
      then_holds world (has_core world core) 0 0 (landed_as world number l (record s { core = core }) next put_out_all world Core None outputs) check_spans
      (then_holds world (has_core world core) (count_control_messages world outputs) 0 (landed_as world number l (record s { core = core })) (put_out_all world Core None outputs)
      (core_is world core (count_control_messages world outputs) _ refl)
      (λ z k. facts_put_all world (has_core world core) Core None outputs (core_fits world core Core None outputs) z k))
      (λ z k. facts_checked world (has_core world core) 0 z k)

  landed_equal : (Shows : TunnelEnd → Bool) (m n : ℕ) (a b : CoreOf) (s t : RunState) → EqualStates ue Shows s t
      → EqualStates ue Shows (record s { core = a; bag = landed s.bag m }) (record t { core = b; bag = landed t.bag n })
  unfolding landed
  landed_equal Shows m n a b s t h = record {
    control_messages = h.control_messages;
    tunnels = h.tunnels;
    radios = h.radios;
    books = h.books;
    connected = h.connected;
    plan = h.plan;
    node = h.node;
  }

  pub core_shares : (from : NodeId) (message : Message Token) (s x t y : RunState) → After s → After t → Share s t → IsTaken reading ue from message s x
      → IsTaken reading ue from message t y → Share x y
  core_shares from message s x t y p q h a b =
      let world = plain_world reading in
      let both : CoresTogether a.outputs b.outputs a.core b.core = cores_together from message s x t y h a b in
      let l : ControlMessage (Message Token) = record { from = from; to = Core; ue = a.owner; message = message } in
      let k : ControlMessage (Message Token) = record { from = from; to = Core; ue = b.owner; message = message } in
      let later : After x = one_more events.Pump s x _ p (core_made from message s x a) in
      let too : After y = one_more events.Pump t y _ q (core_made from message t y b) in
      let first : x.units ≡ s.units = subst (HasUnits world s.units) a.goes_so (core_units a.number l a.outputs a.core s) in
      let second : y.units ≡ t.units = subst (HasUnits world t.units) b.goes_so (core_units b.number k b.outputs b.core t) in
      let agree : Agree ue x.units y.units = subst (λ (u : RunUnits). Agree ue u y.units) (sym first)
      (subst (λ (v : RunUnits). Agree ue s.units v) (sym second) (agree_of s t h)) in
      let base = begin s t x y p q later too h (step_gives reading events.Pump s x _ (core_made from message s x a))
      (step_gives reading events.Pump t y _ (core_made from message t y b)) agree s.units t.units (agree_of s t h) in
      let done : EqualFrom ue (opens_at ue x.units) (core_does reading a.number l a.outputs a.core s) (core_does reading b.number k a.outputs b.core t) =
      then_equal world ue (opens_at ue x.units) (landed_as world a.number l (record s { core = a.core }) next put_out_all world Core None a.outputs)
      (landed_as world b.number k (record t { core = b.core }) next put_out_all world Core None a.outputs) check_spans check_spans
      (then_equal world ue (opens_at ue x.units) (landed_as world a.number l (record s { core = a.core })) (landed_as world b.number k (record t { core = b.core }))
      (put_out_all world Core None a.outputs) (put_out_all world Core None a.outputs)
      (landed_equal (opens_at ue x.units) a.number b.number a.core b.core s t base) (all_equal world ue (opens_at ue x.units) Core None a.outputs both.its))
      (checks_equal world ue (opens_at ue x.units)) in
      let cores : HoldsWith world (has_core world a.core) 0 (goes a.lines x) =
      subst (HoldsWith world (has_core world a.core) 0) a.goes_so (core_then a.number l a.outputs a.core s) in
      let others : HoldsWith world (has_core world b.core) 0 (goes b.lines y) =
      subst (HoldsWith world (has_core world b.core) 0) b.goes_so (core_then b.number k b.outputs b.core t) in
      finish x y later too agree (ap (core_projection ue) cores.core ∙ both.core ∙ sym (ap (core_projection ue) others.core))
      (subst (λ (w : RunWithin). EqualFrom ue (opens_at ue x.units) (goes a.lines x) w) b.goes_so
      (subst (λ (w : RunWithin). EqualFrom ue (opens_at ue x.units) w (core_does reading b.number k b.outputs b.core t)) a.goes_so
      (subst (λ (os : RunPuts). EqualFrom ue (opens_at ue x.units) (core_does reading a.number l a.outputs a.core s)
      (core_does reading b.number k os b.core t)) both.outputs done)))
