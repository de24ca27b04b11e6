-- A frame that a DU takes for a bearer stands first on the tunnel of the DU's bearer.
use Rattle.std.proofs.Common.{◌≡◌, ℕ, Bool, true, false, not, if◌then◌else◌, List, [], ◌∷◌, Option, Some, None, refl, sym, ap, subst, ◌∙◌}
use Rattle.std.specs.Ordering.{nat_cmp, eq_by_cmp}
use Rattle.std.specs.Cmp.{Equal-is}
use Rattle.gnb_types.specs.declared.names.Gnb.{Gnb}
use Rattle.gnb_types.specs.declared.names.NodeId.{NodeId}
use Rattle.gnb_types.specs.declared.names.NodeId.TheVariants.{CuCp, CuUp, Du as du_id, Core, Ue}
use Rattle.gnb_types.specs.declared.names.UeId.{UeId}
use Rattle.gnb_types.specs.declared.names.BearerId.{BearerId}
use Rattle.gnb_types.specs.declared.keys.TunnelEnd.{TunnelEnd}
use Rattle.gnb_types.specs.Orders.{ue_cmp, bearer_cmp}
use Rattle.gnb_types.proofs.OrderLemmas.{ue_exact, bearer_exact}
use Rattle.tables.specs.Tables.{find}
use Rattle.message_types.specs.declared.f1.F1.TheVariants as f1s
use Rattle.message_types.specs.declared.rrc.Token.{Token}
use Rattle.transaction_defs.specs.Callees.{Verdict, new, again, stale, verdict}
use Rattle.unit_defs.specs.Ways.{Message, f1, Pdu, Load, fresh, numbered, frame, uplink, status, end_marker, Input, control_input, packet_input, radio_input, confirm_input, offer_input, tick_input, order_input}
use Rattle.unit_defs.specs.Messages.{channel, is_same_gnb, bearers_of, are_first_bearers}
use Rattle.unit_defs.specs.Transactions.{Kind, request, reply, transfer, kind_of}
use Rattle.unit_defs.specs.Du.{DuContext, DuTunnel, context_of}
use Rattle.run_defs.specs.Runs.{Reading, plain_way, input_of, taken_of}
use Rattle.proof_run_steps.specs.steps.Causes.{by_order, by_tick, by_octets, by_octets_on, by_attach, by_release, by_offer, by_item, by_air, by_ack, by_control_message, node_of, given_of}
use Rattle.law_downlink_order.specs.path.Paths.{Frame}
use Rattle.proof_node_orders.specs.du_inputs.Changes.{DuModel, Change, stays, takes, sets_up, ends, of_frame, of_tunnel, if_own, of_setup, of_modification, of_request, if_new, of_kind, of_control_message, change_by, model_of as du_model_of}
use Rattle.law_tunnels_are_owned.specs.owner_facts.Owned.{DuOwns}
use Rattle.proof_bearer_refinement.specs.f1u_frames.Frames.{du_end, frame_of}
use Rattle.proof_bearer_refinement.specs.run_unit_inputs.Happenings.{DuRecord}
use Rattle.proof_bearer_refinement.specs.refinement_facts.Refinements.{RunItem}
use Rattle.proof_bearer_refinement.specs.refinement_facts.Asked.{RunCause}
use Rattle.law_handover_delivers.proofs.downlink_path_links.Homes.{its, home_at}

abbrev IsNoFrame : Change → Type 0
IsNoFrame (takes f) = ⊥
IsNoFrame change = Unit {0}

if_none : (t : Bool) (a b : Change) → IsNoFrame a → IsNoFrame b → IsNoFrame (if t then a else b)
if_none true a b first other = first
if_none false a b first other = other

own_none : (t : Bool) (change : Change) → IsNoFrame change → IsNoFrame (if_own t change)
own_none true change h = h
own_none false change h = tt

module _ (ue : UeId) (bearer : BearerId) (r : DuRecord) where
  setup_none : (t : Bool) (part : Option DuModel) → IsNoFrame (if not t then stays else sets_up part)
  setup_none true part = tt
  setup_none false part = tt

  modification_none : (epoch : ℕ) (o : Option DuContext) → IsNoFrame (of_modification bearer epoch r o)
  modification_none epoch None = tt
  modification_none epoch (Some c) = tt

  request_none : (message : Message Token) → IsNoFrame (of_request plain_way ue bearer message r)
  request_none (f1 (f1s.UeContextSetupRequest other instance epoch uplinks sn peer)) =
      own_none (eq_by_cmp ue_cmp ue other) (of_setup plain_way bearer epoch uplinks sn peer r) (setup_none (are_first_bearers (bearers_of uplinks)) _)
  request_none (f1 (f1s.UeContextModificationRequest other instance epoch)) =
      own_none (eq_by_cmp ue_cmp ue other) (of_modification bearer epoch r (context_of r other)) (modification_none epoch (context_of r other))
  request_none (f1 (f1s.UeContextReleaseCommand other instance)) = own_none (eq_by_cmp ue_cmp ue other) ends tt
  request_none _ = tt

  new_none : (v : Verdict) (change : Change) → IsNoFrame change → IsNoFrame (if_new plain_way v change)
  new_none new change h = h
  new_none again change h = tt
  new_none stale change h = tt

  kind_none : (from : NodeId) (message : Message Token) (kind : Kind) → IsNoFrame (of_kind plain_way ue bearer from message r kind)
  kind_none from message (request other instance) =
      new_none (verdict r.transactions.callee (channel other from) instance) (of_request plain_way ue bearer message r) (request_none message)
  kind_none from message (reply other instance) = tt
  kind_none from message (transfer other) = tt

  control_message_none : (from : NodeId) (message : Message Token) → IsNoFrame (of_control_message plain_way ue bearer from message r)
  control_message_none (CuCp gnb) message =
      if_none (is_same_gnb gnb r.gnb) (of_kind plain_way ue bearer (CuCp gnb) message r (kind_of message)) stays (kind_none (CuCp gnb) message (kind_of message)) tt
  control_message_none (CuUp gnb number) message = tt
  control_message_none (du_id gnb number) message = tt
  control_message_none Core message = tt
  control_message_none (Ue k) message = tt

  abbrev pub IsNoItem : Input Token Pdu → Type 0
  IsNoItem (packet_input teid item) = ⊥
  IsNoItem input = Unit {0}

  input_none : (input : Input Token Pdu) → IsNoItem input → IsNoFrame (change_by plain_way ue bearer r input)
  unfolding change_by
  input_none (control_input from message) far = control_message_none from message
  input_none (packet_input teid item) far = absurd far
  input_none (radio_input other q dir pdu content) far = tt
  input_none (confirm_input other q dir pdu content) far = tt
  input_none (offer_input other q packet) far = tt
  input_none tick_input far = tt
  input_none (order_input order) far = tt

  pub never : (input : Input Token Pdu) → IsNoItem input → (f : Frame) → change_by plain_way ue bearer r input ≡ takes f → ⊥
  never input far f is = subst IsNoFrame is (input_none input far)

  -- ---- the frame of an item

  frame_is : (load : Load Pdu) (f : Frame) → of_frame (taken_of load) ≡ takes f → frame_of load ≡ f ∷ []
  frame_is (frame poll restart number pdu) f is =
      let same : record { poll = poll; restart = restart; number = number; pdu = pdu } ≡ f = cc in ap (λ (g : Frame). g ∷ []) same
  frame_is (fresh packet) f is = absurd cc
  frame_is (numbered sn count packet) f is = absurd cc
  frame_is (uplink pdu) f is = absurd cc
  frame_is (status lost delivered) f is = absurd cc
  frame_is end_marker f is = absurd cc

  tunnel_is : (load : Load Pdu) (f : Frame) (o : Option DuTunnel) → of_tunnel ue bearer (taken_of load) o ≡ takes f
      → (o ≡ Some (its ue bearer)) × (frame_of load ≡ f ∷ [])
  tunnel_is load f None is = absurd cc
  tunnel_is load f (Some t) is = by (eq_by_cmp ue_cmp ue t.ue) refl (eq_by_cmp bearer_cmp bearer t.bearer) refl is
    where
      by : (a : Bool) → eq_by_cmp ue_cmp ue t.ue ≡ a → (b : Bool) → eq_by_cmp bearer_cmp bearer t.bearer ≡ b
          → (if a then (if b then of_frame (taken_of load) else stays) else stays) ≡ takes f → (Some t ≡ Some (its ue bearer)) × (frame_of load ≡ f ∷ [])
      by true ours true same at =
          let one : ue ≡ t.ue = ue_exact ue t.ue ((Equal-is (ue_cmp ue t.ue)).0 ours) in
          let other : bearer ≡ t.bearer = bearer_exact bearer t.bearer ((Equal-is (bearer_cmp bearer t.bearer)).0 same) in
          (λ i. Some (record { ue = sym one i; bearer = sym other i }), frame_is load f at)
      by true ours false same at = absurd cc
      by false ours b same at = absurd cc

  -- ---- so by what a step is given

  pub record IsInitial (gnb : Gnb) (number teid : ℕ) (f : Frame) (cause : RunCause) : Type 0 where
    pub item : RunItem
    pub rest : List RunItem
    pub is : cause ≡ by_item (du_end gnb number teid) item rest
    pub frame : frame_of item.content.says ≡ f ∷ []

  module _ (reading : Reading) (owns : DuOwns r) (gnb : Gnb) (number : ℕ) (home : DuModel) (there : du_model_of r ue bearer ≡ Some home)
      (input : Input Token Pdu) (f : Frame) (change : change_by plain_way ue bearer r input ≡ takes f) where
    other_input : (other : Input Token Pdu) → Some other ≡ Some input → IsNoItem other → {X : Type 0} → X
    other_input other given far =
        let same : other ≡ input = cc in
        absurd (never other far f (ap (change_by plain_way ue bearer r) same ∙ change))

    of_item : (end : TunnelEnd) (item : RunItem) (rest : List RunItem) → end.node ≡ du_id gnb number
        → Some (packet_input end.teid (taken_of item.content.says)) ≡ Some input
        → IsInitial gnb number home.bearer.downlink f (by_item end item rest)
    unfolding change_by
    of_item end item rest node given =
        let same : packet_input end.teid (taken_of item.content.says) ≡ input = cc in
        let of_its = tunnel_is item.content.says f (find nat_cmp r.tunnels end.teid) (ap (change_by plain_way ue bearer r) same ∙ change) in
        let teid : home.bearer.downlink ≡ end.teid = home_at ue bearer r owns home there end.teid of_its.0 in
        record {
          item = item;
          rest = rest;
          is = λ i. by_item (record { node = node i; teid = sym teid i }) item rest;
          frame = of_its.1;
        }

    pub first_is : (cause : RunCause) → node_of cause ≡ du_id gnb number → input_of reading (given_of cause) ≡ Some input
        → IsInitial gnb number home.bearer.downlink f cause
    first_is (by_item end item rest) node given = of_item end item rest node given
    first_is (by_order at order) node given = other_input (order_input order) given tt
    first_is (by_tick at) node given = other_input tick_input given tt
    first_is (by_octets from to octets) node given = absurd cc
    first_is (by_octets_on end octets) node given = absurd cc
    first_is (by_attach plan) node given = absurd cc
    first_is (by_release g who) node given = absurd cc
    first_is (by_offer who q sdu) node given = other_input (offer_input who q sdu) given tt
    first_is (by_air from at item) node given = other_input _ given tt
    first_is (by_ack from at item rest) node given = other_input _ given tt
    first_is (by_control_message number l to) node given = other_input (control_input l.from l.message) given tt
