-- The steps of an event that is for a terminal are all the terminal's.
use Rattle.std.proofs.Common.{◌≡◌, ◌==◌, ℕ, Bool, true, false, not, ◌&&◌, List, [], ◌∷◌, Option, Some, None, refl, ap, ◌∙◌, subst}
use Rattle.std.specs.Prelude.{if◌then◌else◌, is_some}
use Rattle.std.specs.List.{AllByRecursion}
use Rattle.gnb_types.specs.declared.names.Gnb.{Gnb}
use Rattle.gnb_types.specs.declared.names.Gnb.TheVariants.{A, B}
use Rattle.gnb_types.specs.declared.names.NodeId.{NodeId}
use Rattle.gnb_types.specs.declared.names.NodeId.TheVariants.{CuCp, CuUp, Du, Core, Ue}
use Rattle.gnb_types.specs.declared.names.UeId.{UeId}
use Rattle.gnb_types.specs.declared.names.BearerId.{BearerId}
use Rattle.gnb_types.specs.declared.names.Dir.{Dir}
use Rattle.gnb_types.specs.declared.names.Dir.TheVariants.{Dl, Ul}
use Rattle.gnb_types.specs.declared.keys.TunnelEnd.{TunnelEnd}
use Rattle.gnb_types.specs.declared.keys.EntityKey.{EntityKey}
use Rattle.gnb_types.specs.declared.plans.Plan.{Plan}
use Rattle.gnb_types.specs.declared.inputs.Order.{Order}
use Rattle.gnb_types.specs.declared.inputs.Order.TheVariants as orders
use Rattle.gnb_types.specs.declared.reasons.RefuseReason.{RefuseReason}
use Rattle.gnb_types.specs.declared.reasons.RefuseReason.TheVariants as reasons
use Rattle.gnb_types.specs.Orders.{ue_cmp, tunnel_cmp}
use Rattle.tables.specs.Tables.{find}
use Rattle.message_types.specs.declared.rrc.Token.{Token}
use Rattle.scenario_text.specs.declared.event.Event.{Event}
use Rattle.scenario_text.specs.declared.event.Event.TheVariants as events
use Rattle.unit_defs.specs.Ways.{Message, Load, Pdu, Put, held, no}
use Rattle.unit_defs.specs.Core.{CorePath}
use Rattle.unit_defs.specs.Ue.{UeNode, is_connected, is_accessing, may_return}
use Rattle.unit_defs.specs.Accessors.{ue_home}
use Rattle.transport_defs.specs.declared.Item.{Item}
use Rattle.transport_defs.specs.declared.ControlMessage.{ControlMessage}
use Rattle.transport_defs.specs.Links.{control_message, nth}
use Rattle.run_defs.specs.Lines.{was_refused, is_quiet, is_busy}
use Rattle.run_defs.specs.Units.{Units, ue_of, is_source, epoch_at}
use Rattle.run_defs.specs.Written.{Written, WrittenStepped, WrittenCoreStepped}
use Rattle.law_terminals_are_isolated.specs.projections.Projections.{message_ue}
use Rattle.run_defs.specs.States.{item_for, carried_for, confirmed_for, stepped, step_spent, core_stepped, control_message_for, offer_for, order_for, spent_counter, stops, goes_on, as_step, refused, prints, sn_of, entity, is_attached, was_attached, has_bearer, radio_of}
use Rattle.run_defs.specs.Steps.{control_messages_spent, too_many_control_messages, Done, is_done, is_held, is_refused, carried_out, done_with, does, ordered_by, step}
use Rattle.run_defs.specs.Conditions.{same_epoch, ready_home, ready_at, ready_of, receiver_by, sender_by, takes_control_messages, serving_gnb, serving_place, goal_of, rests, has_started, state_at, is_same_place, is_other_up, is_busy_with}
use Rattle.run_defs.specs.Events.{with_terminal, attach, offered, offer_on_path, offer_by, offer, get_done, got_by, get_on, get, carry_done, carried_by, air_item, air_at, air, confirm_done, ack_items, ack_at, ack, landed_as, core_put, give_to, give_on, give, poll_at, poll, fail, arrive, come_back, handover_to, handover, cancel, leaves, release, ask}
use Rattle.run_defs.specs.Runs.{Reading, plain_world, happens, tunnel_end}
use Rattle.proof_run_steps.specs.steps.Causes.{Cause, by_order, by_attach, by_release, by_offer, by_item, by_air, by_ack, by_control_message, node_of, given_of, count_of, first_of, IsNoAttach, Stands}
use Rattle.proof_run_steps.specs.steps.IsOutcome.{IsDone, IsOutcome, stays, ends, acts, holds_item, holds_pdu, offers, core_takes, lands, remarks}
use Rattle.proof_run_steps.proofs.facts.Steps.{nth_has}
use Rattle.law_terminals_are_isolated.specs.run_projections.Units.{given_ue}
use Rattle.law_terminals_are_isolated.proofs.own_steps.Steps.{Sound}
use Rattle.law_terminals_are_isolated.specs.own_events.Events.{RunState, RunOutcome, AllFor}
use Rattle.law_terminals_are_isolated.specs.named_events.Named.{teid_ue, taker_ue, control_message_ue, planned_ue, event_ue}

some_ue : (a b : UeId) → Some a ≡ Some b → a ≡ b
some_ue a b e = cc

-- a home of a ready radio has an epoch of the terminal
no_home : (s : RunState) (home : NodeId) (who : UeId) → ((u : UeId) → epoch_at s.units home u ≡ None) → ready_home s who ≡ Some home → ⊥
no_home s home who none is = by (ue_of s.units who) is
  where
    never : (a : Bool) (o : Option ℕ) (n : ℕ) → o ≡ None → a && same_epoch o n ≡ true → ⊥
    never true None n e is = absurd cc
    never false None n e is = absurd cc
    never a (Some m) n e is = absurd cc

    named : (h : NodeId) → Some h ≡ Some home → h ≡ home
    named h e = cc

    chosen : (u : UeNode) (h : NodeId) (b : Bool) → (is_connected u.state && same_epoch (epoch_at s.units h who) u.epoch) ≡ b
        → (if b then Some h else None) ≡ Some home → ⊥
    chosen u h true e at = never (is_connected u.state) (epoch_at s.units home who) u.epoch (none who)
        (subst (λ (x : NodeId). is_connected u.state && same_epoch (epoch_at s.units x who) u.epoch ≡ true) (named h at) e)
    chosen u h false e at = absurd cc

    at_home : (u : UeNode) (o : Option NodeId) → ready_at s who u o ≡ Some home → ⊥
    at_home u None e = absurd cc
    at_home u (Some h) e = chosen u h (is_connected u.state && same_epoch (epoch_at s.units h who) u.epoch) refl e

    by : (o : Option UeNode) → ready_of s who o ≡ Some home → ⊥
    by None e = absurd cc
    by (Some u) e = at_home u u.home e

module _ (reading : Reading) (event : Event) (ue : UeId) (s : RunState) where
  abbrev RunCause : Type 0
  RunCause = Cause (Message Token) (Written (Load Pdu)) (Written Pdu)

  abbrev RunDone : Type 0
  RunDone = Done (Message Token) Token (Written (Load Pdu)) (Written Pdu)

  -- it is made of steps that are all the terminal's
  abbrev For : RunOutcome → Type 0
  For e = (made : IsOutcome (plain_world reading) event s e) × AllFor reading event ue s e made

  refused_for : (reason : RefuseReason) → For (refused reason s)
  refused_for reason = (remarks s (was_refused reason ∷ []) (tt, tt), tt)

  choose_for : (b : Bool) (x y : RunOutcome) → (b ≡ true → For x) → (b ≡ false → For y) → For (if b then x else y)
  choose_for true x y p q = p refl
  choose_for false x y p q = q refl

  abbrev DoneFor : RunDone → Type 0
  DoneFor (is_done outcome) = For outcome
  DoneFor (is_held reason) = Unit {0}
  DoneFor (is_refused reason) = Unit {0}

  module _ (cause : RunCause) (at : Stands event s cause) (its : given_ue reading s.units (node_of cause) (given_of cause) ≡ Some ue) where
    if_few : (outputs : List (Put (Message Token) (Written (Load Pdu)) (Written Pdu))) (units : Units (Message Token) Token)
        → (plain_world reading).answer (sn_of s) s.units (node_of cause) (given_of cause) ≡ stepped outputs units
        → IsDone outputs → (b : Bool) → too_many_control_messages (plain_world reading) outputs s ≡ b
        → DoneFor (if b then is_done (stops [] (spent_counter control_messages_spent))
        else is_done (as_step (Some (node_of cause))
        (carried_out (plain_world reading) (node_of cause) (count_of cause) (first_of (plain_world reading) cause) outputs units s)))
    if_few outputs units is fine true many = (ends s (spent_counter control_messages_spent), tt)
    if_few outputs units is fine false few = (acts s cause outputs units at is fine few, its)

    done_for : (answer : WrittenStepped) → (plain_world reading).answer (sn_of s) s.units (node_of cause) (given_of cause) ≡ answer
        → DoneFor (done_with (plain_world reading) (node_of cause) (count_of cause) (first_of (plain_world reading) cause) s answer)
    done_for (stepped (held reason ∷ []) units) is = tt
    done_for (stepped (no reason ∷ []) units) is = tt
    done_for (stepped outputs units) is = if_few outputs units is tt (too_many_control_messages (plain_world reading) outputs s) refl
    done_for (step_spent counter) is = (ends s (spent_counter counter), tt)

    does_for : DoneFor (does (plain_world reading) (node_of cause) (given_of cause) (count_of cause) (first_of (plain_world reading) cause) s)
    unfolding does
    does_for = done_for ((plain_world reading).answer (sn_of s) s.units (node_of cause) (given_of cause)) refl

  ordered_for : (d : RunDone) → DoneFor d → For (ordered_by (plain_world reading) s d)
  ordered_for (is_done outcome) p = p
  ordered_for (is_held reason) p = (stays s, tt)
  ordered_for (is_refused reason) p = refused_for reason

  order_its : (node : NodeId) (order : Order) → IsNoAttach order → given_ue reading s.units node (order_for order) ≡ Some ue
      → For (step (plain_world reading) node (order_for order) s)
  unfolding step
  order_its node order other its =
      ordered_for (does (plain_world reading) node (order_for order) None goes_on s) (does_for (by_order node order) other its)

  -- ---- attach, offer, get

  attach_for : (plan : Plan) → event ≡ events.Attach plan → Some plan.ue ≡ Some ue → For (attach (plain_world reading) plan s)
  unfolding attach
  attach_for plan is its =
      choose_for (was_attached s plan.ue) _ _ (λ h. refused_for reasons.Attached)
      (λ fresh. choose_for (not (has_started plan s)) _ _ (λ h. refused_for reasons.NotStarted)
      (λ h. ordered_for (does (plain_world reading) (CuCp plan.gnb) (order_for (orders.Attach plan)) None (with_terminal (plain_world reading) plan) s)
      (does_for (by_attach plan) (is, fresh) its)))

  path_for : (who : UeId) (bearer : BearerId) (p : List ℕ) → event ≡ events.Offer who bearer Dl p → who ≡ ue → (o : Option CorePath)
      → find ue_cmp s.core.paths who ≡ o → For (offer_on_path (plain_world reading) who bearer p s o)
  path_for who bearer p is its None found = refused_for reasons.NoPath
  path_for who bearer p is its (Some path) found =
      choose_for _ _ _ (λ h. refused_for reasons.Size) (λ h. (offers s who bearer p path is found, its))

  offer_by_for : (dir : Dir) (who : UeId) (bearer : BearerId) (p : List ℕ) → event ≡ events.Offer who bearer dir p → who ≡ ue
      → has_bearer s who bearer ≡ true → For (offer_by (plain_world reading) dir who bearer p s)
  offer_by_for Dl who bearer p is its has = path_for who bearer p is its (find ue_cmp s.core.paths who) refl
  offer_by_for Ul who bearer p is its has =
      ordered_for (does (plain_world reading) (Ue who.0) (offer_for who bearer p) None (λ t. goes_on (offered (plain_world reading) (entity who bearer Ul) t)) s)
      (does_for (by_offer who bearer p) (is, has) (ap (λ (u : UeId). Some u) its))

  offer_its : (who : UeId) (bearer : BearerId) (dir : Dir) (p : List ℕ) → event ≡ events.Offer who bearer dir p → who ≡ ue
      → For (offer (plain_world reading) who bearer dir p s)
  unfolding offer
  offer_its who bearer dir p is its =
      choose_for (has_bearer s who bearer) _ _ (λ has. offer_by_for dir who bearer p is its has) (λ h. refused_for reasons.NoBearer)

  got_for : (end : TunnelEnd) (d : RunDone) → DoneFor d → For (got_by (plain_world reading) end s d)
  got_for end (is_done outcome) p = p
  got_for end (is_held reason) p = (holds_item s end reason, tt)
  got_for end (is_refused reason) p = refused_for reason

  teid_its : (end : TunnelEnd) (item : Item (Written (Load Pdu))) → teid_ue s.units end.node end.teid ≡ Some ue
      → given_ue reading s.units end.node (item_for end.teid item) ≡ Some ue
  teid_its end item its = by end.node its
    where
      by : (node : NodeId) → teid_ue s.units node end.teid ≡ Some ue
          → given_ue reading s.units node (item_for end.teid item) ≡ Some ue
      by (CuUp gnb number) e = e
      by (Du gnb number) e = e
      by (CuCp gnb) e = absurd cc
      by Core e = absurd cc
      by (Ue n) e = absurd cc

  get_on_for : (end : TunnelEnd) → teid_ue s.units end.node end.teid ≡ Some ue → (o : Option (List (Item (Written (Load Pdu)))))
      → find tunnel_cmp s.tunnels end ≡ o → For (get_on (plain_world reading) end s o)
  get_on_for end its None found = refused_for reasons.NoSuch
  get_on_for end its (Some []) found = refused_for reasons.Empty
  get_on_for end its (Some (item ∷ rest)) found =
      got_for end (get_done (plain_world reading) end item rest s) (does_for (by_item end item rest) found (teid_its end item its))

  get_for : (end : TunnelEnd) → teid_ue s.units end.node end.teid ≡ Some ue → For (get (plain_world reading) end s)
  unfolding get
  get_for end its = get_on_for end its (find tunnel_cmp s.tunnels end) refl

  -- ---- give

  give_unit_for : (number : ℕ) (l : ControlMessage (Message Token)) (node : NodeId) → control_message s.bag number ≡ Some l → l.to ≡ node
      → given_ue reading s.units node (control_message_for l.from l.message) ≡ Some ue
      → For (if takes_control_messages s node then ordered_by (plain_world reading) s (does (plain_world reading) node (control_message_for l.from l.message) None
      (landed_as (plain_world reading) number l) s) else as_step (Some node) (landed_as (plain_world reading) number l s))
  give_unit_for number l node found at its =
      choose_for (takes_control_messages s node) _ _
      (λ takes. ordered_for (does (plain_world reading) node (control_message_for l.from l.message) None (landed_as (plain_world reading) number l) s)
      (does_for (by_control_message number l node) (found, at, takes) its))
      (λ h. (lands s number l node found at, tt))

  core_for : (number : ℕ) (l : ControlMessage (Message Token)) → control_message s.bag number ≡ Some l → l.to ≡ Core
      → message_ue l.from l.message ≡ ue → (answer : WrittenCoreStepped)
      → (plain_world reading).core_answer (sn_of s) s.core (control_message_for l.from l.message) ≡ answer → For (core_put (plain_world reading) number l s answer)
  core_for number l found at its (core_stepped outputs core) is =
      choose_for (too_many_control_messages (plain_world reading) outputs s) _ _ (λ h. (ends s (spent_counter control_messages_spent), tt))
      (λ few. (core_takes s number l outputs core found at is few, its))

  give_to_for : (number : ℕ) (l : ControlMessage (Message Token)) (node : NodeId) → control_message s.bag number ≡ Some l → l.to ≡ node
      → Some (taker_ue node l) ≡ Some ue → For (give_to (plain_world reading) number l node s)
  give_to_for number l Core found at its =
      core_for number l found at (some_ue _ ue its) ((plain_world reading).core_answer (sn_of s) s.core (control_message_for l.from l.message)) refl
  give_to_for number l (CuCp gnb) found at its = give_unit_for number l (CuCp gnb) found at its
  give_to_for number l (CuUp gnb n) found at its = give_unit_for number l (CuUp gnb n) found at its
  give_to_for number l (Du gnb n) found at its = give_unit_for number l (Du gnb n) found at its
  give_to_for number l (Ue n) found at its = give_unit_for number l (Ue n) found at its

  give_on_for : (number : ℕ) (o : Option (ControlMessage (Message Token))) → control_message s.bag number ≡ o → control_message_ue o ≡ Some ue → For (give_on (plain_world reading) number s o)
  give_on_for number None found its = refused_for reasons.NoSuch
  give_on_for number (Some l) found its = give_to_for number l l.to found refl its

  give_for : (number : ℕ) → control_message_ue (control_message s.bag number) ≡ Some ue → For (give (plain_world reading) number s)
  unfolding give
  give_for number its = give_on_for number (control_message s.bag number) refl its

  -- ---- poll, fail, arrive, return

  poll_at_for : (who : UeId) (bearer : BearerId) (gnb : Gnb) (o : Option (ℕ × ℕ)) → Some who ≡ Some ue → For (poll_at (plain_world reading) who bearer gnb s o)
  poll_at_for who bearer gnb None its = refused_for reasons.Empty
  poll_at_for who bearer gnb (Some place) its =
      choose_for _ _ _ (λ h. order_its (CuUp gnb place.0) (orders.Poll who bearer) tt its) (λ h. refused_for reasons.Empty)

  poll_for : (who : UeId) (bearer : BearerId) → Some who ≡ Some ue → For (poll (plain_world reading) who bearer s)
  unfolding poll
  poll_for who bearer its =
      choose_for _ _ _ (λ h. poll_at_for who bearer (serving_gnb s who) (serving_place s who) its) (λ h. refused_for reasons.NoBearer)

  fail_for : (who : UeId) → Some who ≡ Some ue → For (fail (plain_world reading) who s)
  unfolding fail
  fail_for who its =
      choose_for (not (is_attached s who)) _ _ (λ h. refused_for reasons.NoUe)
      (λ h. choose_for (is_connected (state_at s who)) _ _ (λ h. order_its (Ue who.0) (orders.Fail who) tt its) (λ h. refused_for reasons.NoRadio))

  arrive_for : (who : UeId) → Some who ≡ Some ue → For (arrive (plain_world reading) who s)
  unfolding arrive
  arrive_for who its =
      choose_for (not (is_attached s who)) _ _ (λ h. refused_for reasons.NoUe)
      (λ h. choose_for (is_accessing (state_at s who)) _ _ (λ h. order_its (Ue who.0) (orders.Arrive who) tt its) (λ h. refused_for reasons.NotAccessing))

  back_for : (who : UeId) → Some who ≡ Some ue → For (come_back (plain_world reading) who s)
  unfolding come_back
  back_for who its =
      choose_for (not (is_attached s who)) _ _ (λ h. refused_for reasons.NoUe)
      (λ h. choose_for (not (is_some (ue_home (ue_of s.units who)))) _ _ (λ h. refused_for reasons.NoHome)
      (λ h. choose_for (may_return (state_at s who)) _ _ (λ h. order_its (Ue who.0) (orders.Return who) tt its) (λ h. refused_for reasons.Busy)))

  -- ---- handover, cancel, release, ask

  goal_for : (who : UeId) (to gnb : Gnb) (up du : ℕ) (o : Option Plan) → Some (planned_ue who o) ≡ Some ue
      → For (handover_to (plain_world reading) s gnb (goal_of o who to up du))
  goal_for who to gnb up du None its = refused_for reasons.NoUe
  goal_for who to gnb up du (Some plan) its = order_its (CuCp gnb) (orders.Handover (record plan { gnb = to; up = up; du = du })) tt its

  handover_for : (who : UeId) (gnb : Gnb) (up du : ℕ) → Some (planned_ue who (find ue_cmp s.plans who)) ≡ Some ue
      → For (handover (plain_world reading) who gnb up du s)
  unfolding handover
  handover_for who gnb up du its =
      choose_for (not (is_attached s who)) _ _ (λ h. refused_for reasons.NoUe)
      (λ h. choose_for (is_same_place gnb du (serving_gnb s who) (serving_place s who)) _ _ (λ h. refused_for reasons.Same)
      (λ h. choose_for (is_other_up gnb up (serving_gnb s who) (serving_place s who)) _ _ (λ h. refused_for reasons.NotAllowed)
      (λ h. choose_for (is_busy_with s who) _ _ (λ h. refused_for reasons.Busy)
      (λ h. goal_for who gnb (serving_gnb s who) up du (find ue_cmp s.plans who) its))))

  cancel_for : (who : UeId) → Some who ≡ Some ue → For (cancel (plain_world reading) who s)
  unfolding cancel
  cancel_for who its =
      choose_for (not (is_attached s who)) _ _ (λ h. refused_for reasons.NoUe)
      (λ h. choose_for (is_source s.units.cu_cp_a who) _ _ (λ h. order_its (CuCp A) (orders.Cancel who) tt its)
      (λ h. choose_for (is_source s.units.cu_cp_b who) _ _ (λ h. order_its (CuCp B) (orders.Cancel who) tt its) (λ h. refused_for reasons.Empty)))

  release_for : (who : UeId) → event ≡ events.Release who → Some who ≡ Some ue → For (release (plain_world reading) who s)
  unfolding release
  release_for who is its =
      choose_for (not (is_attached s who)) _ _ (λ h. refused_for reasons.NoUe)
      (λ h. choose_for (is_busy_with s who) _ _ (λ h. refused_for reasons.Busy)
      (λ h. ordered_for (does (plain_world reading) (CuCp (serving_gnb s who)) (order_for (orders.Release who)) None (leaves (plain_world reading) who) s)
      (does_for (by_release (serving_gnb s who) who) (is, refl) its)))

  line_for : (b : Bool) (who : UeId) (bearer : BearerId) (m n : ℕ) → For (prints ((if b then is_quiet who bearer m n else is_busy who bearer) ∷ []) s)
  line_for true who bearer m n = (remarks s (is_quiet who bearer m n ∷ []) (tt, tt), tt)
  line_for false who bearer m n = (remarks s (is_busy who bearer ∷ []) (tt, tt), tt)

  ask_for : (who : UeId) (bearer : BearerId) → For (ask (plain_world reading) who bearer s)
  unfolding ask
  ask_for who bearer =
      choose_for (has_bearer s who bearer) _ _ (λ h. line_for (rests s who bearer) who bearer _ _) (λ h. refused_for reasons.NoBearer)

  -- ---- air and ack

  module _ (sound : Sound s) (key : EntityKey) (own : key.ue ≡ ue) where
    of_item : (item : Item (Written Pdu)) → item.key ≡ key → Some item.key.ue ≡ Some ue
    of_item item e = ap (λ (k : EntityKey). Some k.ue) e ∙ ap (λ (u : UeId). Some u) own

    carried_its : (home : NodeId) (item : Item (Written Pdu)) → ready_home s key.ue ≡ Some home → item.key ≡ key → (d : Dir)
        → given_ue reading s.units (receiver_by d key.ue home) (carried_for item) ≡ Some ue
    carried_its home item ready e Dl = ap (λ (u : UeId). Some u) own
    carried_its (Du gnb number) item ready e Ul = of_item item e
    carried_its (CuCp gnb) item ready e Ul = absurd (no_home s (CuCp gnb) key.ue (λ u. refl) ready)
    carried_its (CuUp gnb number) item ready e Ul = absurd (no_home s (CuUp gnb number) key.ue (λ u. refl) ready)
    carried_its Core item ready e Ul = absurd (no_home s Core key.ue (λ u. refl) ready)
    carried_its (Ue n) item ready e Ul = absurd (no_home s (Ue n) key.ue (λ u. refl) ready)

    confirmed_its : (home : NodeId) (item : Item (Written Pdu)) → ready_home s key.ue ≡ Some home → item.key ≡ key → (d : Dir)
        → given_ue reading s.units (sender_by d key.ue home) (confirmed_for item) ≡ Some ue
    confirmed_its home item ready e Ul = ap (λ (u : UeId). Some u) own
    confirmed_its (Du gnb number) item ready e Dl = of_item item e
    confirmed_its (CuCp gnb) item ready e Dl = absurd (no_home s (CuCp gnb) key.ue (λ u. refl) ready)
    confirmed_its (CuUp gnb number) item ready e Dl = absurd (no_home s (CuUp gnb number) key.ue (λ u. refl) ready)
    confirmed_its Core item ready e Dl = absurd (no_home s Core key.ue (λ u. refl) ready)
    confirmed_its (Ue n) item ready e Dl = absurd (no_home s (Ue n) key.ue (λ u. refl) ready)

    air_done : (home : NodeId) (d : RunDone) → DoneFor d → For (carried_by (plain_world reading) key home s d)
    air_done home (is_done outcome) p = p
    air_done home (is_held reason) p = (holds_pdu s key home reason, tt)
    air_done home (is_refused reason) p = refused_for reason

    air_item_for : (home : NodeId) → ready_home s key.ue ≡ Some home → (o : Option (Item (Written Pdu)))
        → nth (radio_of s key).items (radio_of s key).carried ≡ o → For (air_item (plain_world reading) key home s o)
    air_item_for home ready None found = refused_for reasons.Empty
    air_item_for home ready (Some item) found =
        air_done home (carry_done (plain_world reading) key home item s) (does_for (by_air key home item) (ready, found)
        (carried_its home item ready
        (nth_has (λ (i : Item (Written Pdu)). i.key ≡ key) (radio_of s key).items (radio_of s key).carried item (sound.radios key) found) key.dir))

    air_at_for : (o : Option NodeId) → ready_home s key.ue ≡ o → For (air_at (plain_world reading) key s o)
    air_at_for None ready = refused_for reasons.NoRadio
    air_at_for (Some home) ready = air_item_for home ready (nth (radio_of s key).items (radio_of s key).carried) refl

    air_for : For (air (plain_world reading) key s)
    unfolding air
    air_for = choose_for _ _ _ (λ h. air_at_for (ready_home s key.ue) refl) (λ h. refused_for reasons.NoBearer)

    ack_items_for : (home : NodeId) → ready_home s key.ue ≡ Some home → (items : List (Item (Written Pdu))) → (radio_of s key).items ≡ items
        → For (ack_items (plain_world reading) key home s items (radio_of s key).carried)
    ack_items_for home ready [] are = refused_for reasons.Empty
    ack_items_for home ready (item ∷ rest) are =
        choose_for ((radio_of s key).carried == 0) _ _ (λ h. refused_for reasons.Empty)
        (λ some. ordered_for (confirm_done (plain_world reading) key home item rest s) (does_for (by_ack key home item rest) (ready, are, some)
        (confirmed_its home item ready
        (subst (λ (xs : List (Item (Written Pdu))). AllByRecursion (λ (i : Item (Written Pdu)). i.key ≡ key) xs) are (sound.radios key)).0 key.dir)))

    ack_at_for : (o : Option NodeId) → ready_home s key.ue ≡ o → For (ack_at (plain_world reading) key s o)
    ack_at_for None ready = refused_for reasons.NoRadio
    ack_at_for (Some home) ready = ack_items_for home ready (radio_of s key).items refl

    ack_for : For (ack (plain_world reading) key s)
    unfolding ack
    ack_for = choose_for _ _ _ (λ h. ack_at_for (ready_home s key.ue) refl) (λ h. refused_for reasons.NoBearer)

-- ---- each event

module _ (reading : Reading) (ue : UeId) (s : RunState) (sound : Sound s) where
  pub named_for : (event : Event) → event_ue s event ≡ Some ue → For reading event ue s (happens (plain_world reading) event s)
  unfolding happens
  named_for (events.Attach plan) its = attach_for reading (events.Attach plan) ue s plan refl its
  named_for (events.Offer who bearer dir p) its = offer_its reading (events.Offer who bearer dir p) ue s who bearer dir p refl (some_ue who ue its)
  named_for (events.Get node teid) its = get_for reading (events.Get node teid) ue s (tunnel_end (plain_world reading) node teid) its
  named_for (events.Air who bearer dir) its = air_for reading (events.Air who bearer dir) ue s sound (entity who bearer dir) (some_ue who ue its)
  named_for (events.Ack who bearer dir) its = ack_for reading (events.Ack who bearer dir) ue s sound (entity who bearer dir) (some_ue who ue its)
  named_for (events.Give number) its = give_for reading (events.Give number) ue s number its
  named_for (events.Poll who bearer) its = poll_for reading (events.Poll who bearer) ue s who bearer its
  named_for (events.Fail who) its = fail_for reading (events.Fail who) ue s who its
  named_for (events.Arrive who) its = arrive_for reading (events.Arrive who) ue s who its
  named_for (events.Return who) its = back_for reading (events.Return who) ue s who its
  named_for (events.Handover who gnb up du) its = handover_for reading (events.Handover who gnb up du) ue s who gnb up du its
  named_for (events.Cancel who) its = cancel_for reading (events.Cancel who) ue s who its
  named_for (events.Release who) its = release_for reading (events.Release who) ue s who refl its
  named_for (events.Ask who bearer) its = ask_for reading (events.Ask who bearer) ue s who bearer
  named_for (events.Static plan) its = absurd cc
  named_for events.Start its = absurd cc
  named_for (events.LoseMessage number) its = absurd cc
  named_for (events.LoseItem node teid) its = absurd cc
  named_for events.Pump its = absurd cc
  named_for events.Tick its = absurd cc
  named_for events.Settle its = absurd cc
  named_for (events.InjectMessage from to octets) its = absurd cc
  named_for (events.InjectItem node teid octets) its = absurd cc
