-- In every run of such a script the control messages stay as they were.
use Rattle.std.proofs.Common.{◌≡◌, ◌==◌, ℕ, Bool, true, false, not, ◌&&◌, ◌||◌, List, [], ◌∷◌, Option, Some, None, refl, sym, ◌∙◌, ap}
use Rattle.std.specs.Prelude.{if◌then◌else◌, nat_lt, length}
use Rattle.std.specs.List.{AllByRecursion}
use Rattle.gnb_types.specs.declared.names.NodeId.{NodeId}
use Rattle.gnb_types.specs.declared.names.NodeId.TheVariants.{Core, Ue}
use Rattle.gnb_types.specs.declared.names.UeId.{UeId}
use Rattle.gnb_types.specs.declared.names.BearerId.{BearerId}
use Rattle.gnb_types.specs.declared.names.Dir.{Dir}
use Rattle.gnb_types.specs.declared.names.Dir.TheVariants.{Dl, Ul}
use Rattle.gnb_types.specs.declared.keys.TunnelEnd.{TunnelEnd}
use Rattle.gnb_types.specs.declared.keys.EntityKey.{EntityKey}
use Rattle.gnb_types.specs.declared.plans.Plan.{Plan}
use Rattle.gnb_types.specs.declared.reasons.RefuseReason.TheVariants as reasons
use Rattle.gnb_types.specs.Orders.{ue_cmp, tunnel_cmp}
use Rattle.message_types.specs.declared.rrc.Token.{Token}
use Rattle.tables.specs.Tables.{find}
use Rattle.scenario_text.specs.declared.event.Event.{Event}
use Rattle.scenario_text.specs.declared.event.Event.TheVariants as events
use Rattle.unit_defs.specs.Ways.{Message, Pdu, Load, Put, held, no}
use Rattle.unit_defs.specs.Core.{CorePath}
use Rattle.unit_defs.specs.Static.{cu_up_has_room, cu_up_has_teids, du_has_teids}
use Rattle.unit_defs.specs.Ue.{largest_packet}
use Rattle.transport_defs.specs.declared.Item.{Item}
use Rattle.transport_defs.specs.Links.{nth}
use Rattle.run_defs.specs.Units.{Units, cu_up_of, du_of}
use Rattle.run_defs.specs.Written.{Written, WrittenStepped}
use Rattle.run_defs.specs.States.{State, item_for, carried_for, confirmed_for, offer_for, stepped, step_spent, spent_counter, goes, stops, goes_on, Within, Outcome, as_step, refused, entity, sn_of, was_attached, has_bearer, radio_of}
use Rattle.run_defs.specs.Steps.{control_messages_spent, check_spans, too_many_control_messages, Done, is_done, is_held, is_refused, carried_out, done_with, does, ordered_by}
use Rattle.run_defs.specs.Conditions.{is_held_by_units, ready_home, receiver_of, sender_of}
use Rattle.run_defs.specs.Events.{static, offered, offer_on_path, offer_by, offer, taken_off, get_done, got_by, get_on, get, carried_off, carry_done, carried_by, air_item, air_at, air, confirmed_off, confirm_done, ack_items, ack_at, ack, is_lossy, lose_items, lose_item_on, lose_item, ask}
use Rattle.run_defs.specs.Runs.{Reading, plain_world, happens, tunnel_end, PlainGiven}
use Rattle.proof_run_steps.specs.steps.Reached.{reached_by, reached}
use Rattle.law_downlink_scripts.proofs.delivers.Lines.{IsSilent}
use Rattle.law_downlink_scripts.specs.packet_scripts.Packets.{IsOfPackets}
use Rattle.law_downlink_scripts.proofs.packet_scripts.Frames.{HasBag, KeepsBag, then_bag, keep_checked, keep_put_on_tunnel, act_bag, as_step_bag}
use Rattle.law_downlink_scripts.proofs.packet_scripts.Units.{IsTaken, takes_silently}

abbrev PlainState : Type 0
PlainState = State (Message Token) Token (Written (Load Pdu)) (Written Pdu)

abbrev PlainWithin : Type 0
PlainWithin = Within (Message Token) Token (Written (Load Pdu)) (Written Pdu)

abbrev PlainOutcome : Type 0
PlainOutcome = Outcome (Message Token) Token (Written (Load Pdu)) (Written Pdu)

abbrev PlainDone : Type 0
PlainDone = Done (Message Token) Token (Written (Load Pdu)) (Written Pdu)

abbrev PlainPut : Type 0
PlainPut = Put (Message Token) (Written (Load Pdu)) (Written Pdu)

module _ (reading : Reading) where
  abbrev Stays : PlainState → PlainOutcome → Type 0
  Stays s e = HasBag (plain_world reading) s.bag e

  abbrev DoneStays : PlainState → PlainDone → Type 0
  DoneStays s (is_done outcome) = Stays s outcome
  DoneStays s (is_held reason) = Unit {0}
  DoneStays s (is_refused reason) = Unit {0}

  either : (s : PlainState) (t : Bool) (a b : PlainOutcome) → Stays s a → Stays s b → Stays s (if t then a else b)
  either s true a b p q = p
  either s false a b p q = q

  -- ---- a unit that is given a packet

  module _ (node : NodeId) (given : PlainGiven) (taken : Option ℕ) (first : PlainState → PlainWithin) (is_taken : IsTaken reading given)
      (keeps : KeepsBag (plain_world reading) first) (s : PlainState) where
    if_few : (outputs : List PlainPut) (units : Units (Message Token) Token) → IsSilent outputs → (t : Bool)
        → DoneStays s (if t then is_done (stops [] (spent_counter control_messages_spent))
        else is_done (as_step (Some node) (carried_out (plain_world reading) node taken first outputs units s)))
    if_few outputs units silent true = tt
    if_few outputs units silent false =
        as_step_bag (plain_world reading) s.bag (Some node) (carried_out (plain_world reading) node taken first outputs units s)
        (act_bag (plain_world reading) node taken first keeps outputs silent units s)

    done_stays : (a : WrittenStepped) → (plain_world reading).answer (sn_of s) s.units node given ≡ a
        → DoneStays s (done_with (plain_world reading) node taken first s a)
    done_stays (stepped (held reason ∷ []) units) is = tt
    done_stays (stepped (no reason ∷ []) units) is = tt
    done_stays (stepped outputs units) is =
        if_few outputs units (takes_silently reading (sn_of s) s.units units node given outputs is_taken is) (too_many_control_messages (plain_world reading) outputs s)
    done_stays (step_spent counter) is = tt

    does_stays : DoneStays s (does (plain_world reading) node given taken first s)
    unfolding does
    does_stays = done_stays ((plain_world reading).answer (sn_of s) s.units node given) refl

  -- ---- events

  static_stays : (plan : Plan) (s : PlainState) → Stays s (static (plain_world reading) plan s)
  unfolding static
  static_stays plan s =
      either s (was_attached s plan.ue || is_held_by_units plan s.units) _ _ refl
      (either s (not (cu_up_has_room (cu_up_of s.units plan.gnb plan.up) plan)) _ _ refl
      (either s (cu_up_has_teids (cu_up_of s.units plan.gnb plan.up) plan && du_has_teids (du_of s.units plan.gnb plan.du) plan) _ _ refl tt))

  on_path_stays : (ue : UeId) (bearer : BearerId) (p : List ℕ) (s : PlainState) (o : Option CorePath)
      → Stays s (offer_on_path (plain_world reading) ue bearer p s o)
  on_path_stays ue bearer p s None = refl
  on_path_stays ue bearer p s (Some path) =
      either s (nat_lt largest_packet (length p)) _ _ refl
      (as_step_bag (plain_world reading) s.bag (Some Core) _
      (then_bag (plain_world reading) s.bag _ check_spans
      (keep_put_on_tunnel (plain_world reading) _ _ (offered (plain_world reading) (entity ue bearer Dl) s)) (keep_checked (plain_world reading))))

  ordered_stays : (s : PlainState) (d : PlainDone) → DoneStays s d → Stays s (ordered_by (plain_world reading) s d)
  ordered_stays s (is_done outcome) p = p
  ordered_stays s (is_held reason) p = refl
  ordered_stays s (is_refused reason) p = refl

  offer_by_stays : (dir : Dir) (ue : UeId) (bearer : BearerId) (p : List ℕ) (s : PlainState) → Stays s (offer_by (plain_world reading) dir ue bearer p s)
  offer_by_stays Dl ue bearer p s = on_path_stays ue bearer p s (find ue_cmp s.core.paths ue)
  offer_by_stays Ul ue bearer p s =
      let first : PlainState → PlainWithin = λ t. goes_on (offered (plain_world reading) (entity ue bearer Ul) t) in
      ordered_stays s (does (plain_world reading) (Ue ue.0) (offer_for ue bearer p) None first s)
      (does_stays (Ue ue.0) (offer_for ue bearer p) None first tt (λ t. refl) s)

  offer_stays : (ue : UeId) (bearer : BearerId) (dir : Dir) (p : List ℕ) (s : PlainState) → Stays s (offer (plain_world reading) ue bearer dir p s)
  unfolding offer
  offer_stays ue bearer dir p s =
      either s (has_bearer s ue bearer) (offer_by (plain_world reading) dir ue bearer p s) (refused reasons.NoBearer s) (offer_by_stays dir ue bearer p s) refl

  got_stays : (end : TunnelEnd) (s : PlainState) (d : PlainDone) → DoneStays s d → Stays s (got_by (plain_world reading) end s d)
  got_stays end s (is_done outcome) p = p
  got_stays end s (is_held reason) p = refl
  got_stays end s (is_refused reason) p = refl

  get_on_stays : (end : TunnelEnd) (s : PlainState) (o : Option (List (Item (Written (Load Pdu))))) → Stays s (get_on (plain_world reading) end s o)
  get_on_stays end s None = refl
  get_on_stays end s (Some []) = refl
  get_on_stays end s (Some (item ∷ rest)) =
      got_stays end s (get_done (plain_world reading) end item rest s)
      (does_stays end.node (item_for end.teid item) item.count (taken_off (plain_world reading) end item rest) tt (λ t. refl) s)

  get_stays : (end : TunnelEnd) (s : PlainState) → Stays s (get (plain_world reading) end s)
  unfolding get
  get_stays end s = get_on_stays end s (find tunnel_cmp s.tunnels end)

  carried_stays : (key : EntityKey) (home : NodeId) (s : PlainState) (d : PlainDone) → DoneStays s d → Stays s (carried_by (plain_world reading) key home s d)
  carried_stays key home s (is_done outcome) p = p
  carried_stays key home s (is_held reason) p = refl
  carried_stays key home s (is_refused reason) p = refl

  air_item_stays : (key : EntityKey) (home : NodeId) (s : PlainState) (o : Option (Item (Written Pdu))) → Stays s (air_item (plain_world reading) key home s o)
  air_item_stays key home s None = refl
  air_item_stays key home s (Some item) =
      carried_stays key home s (carry_done (plain_world reading) key home item s)
      (does_stays (receiver_of key home) (carried_for item) item.count (carried_off (plain_world reading) key item) tt (λ t. refl) s)

  air_at_stays : (key : EntityKey) (s : PlainState) (o : Option NodeId) → Stays s (air_at (plain_world reading) key s o)
  air_at_stays key s None = refl
  air_at_stays key s (Some home) = air_item_stays key home s (nth (radio_of s key).items (radio_of s key).carried)

  air_stays : (key : EntityKey) (s : PlainState) → Stays s (air (plain_world reading) key s)
  unfolding air
  air_stays key s =
      either s (has_bearer s key.ue key.bearer) (air_at (plain_world reading) key s (ready_home s key.ue)) (refused reasons.NoBearer s)
      (air_at_stays key s (ready_home s key.ue)) refl

  ack_items_stays : (key : EntityKey) (home : NodeId) (s : PlainState) (items : List (Item (Written Pdu))) (carried : ℕ)
      → Stays s (ack_items (plain_world reading) key home s items carried)
  ack_items_stays key home s [] carried = refl
  ack_items_stays key home s (item ∷ rest) carried =
      either s (carried == 0) _ _ refl
      (ordered_stays s (confirm_done (plain_world reading) key home item rest s)
      (does_stays (sender_of key home) (confirmed_for item) item.count (confirmed_off (plain_world reading) key rest) tt (λ t. refl) s))

  ack_at_stays : (key : EntityKey) (s : PlainState) (o : Option NodeId) → Stays s (ack_at (plain_world reading) key s o)
  ack_at_stays key s None = refl
  ack_at_stays key s (Some home) = ack_items_stays key home s (radio_of s key).items (radio_of s key).carried

  ack_stays : (key : EntityKey) (s : PlainState) → Stays s (ack (plain_world reading) key s)
  unfolding ack
  ack_stays key s =
      either s (has_bearer s key.ue key.bearer) (ack_at (plain_world reading) key s (ready_home s key.ue)) (refused reasons.NoBearer s)
      (ack_at_stays key s (ready_home s key.ue)) refl

  lose_items_stays : (end : TunnelEnd) (s : PlainState) (items : List (Item (Written (Load Pdu)))) → Stays s (lose_items (plain_world reading) end s items)
  lose_items_stays end s [] = refl
  lose_items_stays end s (item ∷ rest) = refl

  lose_item_on_stays : (end : TunnelEnd) (s : PlainState) (o : Option (List (Item (Written (Load Pdu))))) → Stays s (lose_item_on (plain_world reading) end s o)
  lose_item_on_stays end s None = refl
  lose_item_on_stays end s (Some items) = either s (is_lossy (plain_world reading) end.node) _ _ (lose_items_stays end s items) refl

  lose_item_stays : (end : TunnelEnd) (s : PlainState) → Stays s (lose_item (plain_world reading) end s)
  unfolding lose_item
  lose_item_stays end s = lose_item_on_stays end s (find tunnel_cmp s.tunnels end)

  ask_stays : (ue : UeId) (bearer : BearerId) (s : PlainState) → Stays s (ask (plain_world reading) ue bearer s)
  unfolding ask
  ask_stays ue bearer s = either s (has_bearer s ue bearer) _ _ refl refl

  happens_stays : (event : Event) → IsOfPackets event → (s : PlainState) → Stays s (happens (plain_world reading) event s)
  unfolding happens
  happens_stays (events.Static plan) is s = static_stays plan s
  happens_stays (events.Offer ue bearer dir p) is s = offer_stays ue bearer dir p s
  happens_stays (events.Get end teid) is s = get_stays (tunnel_end (plain_world reading) end teid) s
  happens_stays (events.Air ue bearer dir) is s = air_stays (entity ue bearer dir) s
  happens_stays (events.Ack ue bearer dir) is s = ack_stays (entity ue bearer dir) s
  happens_stays (events.LoseItem end teid) is s = lose_item_stays (tunnel_end (plain_world reading) end teid) s
  happens_stays (events.Ask ue bearer) is s = ask_stays ue bearer s
  happens_stays event is s = absurd is

  further : (s t : PlainState) (events : List Event) (e : PlainOutcome) → Stays s e
      → ((after : PlainState) → reached (plain_world reading) events after ≡ Some t → t.bag ≡ after.bag)
      → reached_by (plain_world reading) (reached (plain_world reading) events) e ≡ Some t → t.bag ≡ s.bag
  further s t events (goes steps after) p more at = more after at ∙ p
  further s t events (stops steps why) p more at = absurd cc

  pub bag_stays : (events : List Event) → AllByRecursion IsOfPackets events → (s t : PlainState) → reached (plain_world reading) events s ≡ Some t
      → t.bag ≡ s.bag
  bag_stays [] are s t is = let at : s ≡ t = cc in ap (λ (x : PlainState). x.bag) (sym at)
  bag_stays (event ∷ events) are s t is =
      further s t events (happens (plain_world reading) event s) (happens_stays event are.0 s)
      (λ after at. bag_stays events are.1 after t at) is
