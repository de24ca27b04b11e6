-- What units know in a run: a property of packets for each node, which all packets have that the node keeps. A unit that is given a packet
-- with its property puts and delivers, and keeps then, packets with it alone.
use Rattle.std.proofs.Common.{◌≡◌, ℕ, List, [], ◌∷◌, map, Option, Some, None, refl, subst}
use Rattle.std.specs.List.{AllByRecursion}
use Rattle.gnb_types.specs.declared.names.Gnb.{Gnb}
use Rattle.gnb_types.specs.declared.names.NodeId.{NodeId}
use Rattle.gnb_types.specs.declared.names.NodeId.TheVariants.{CuCp, CuUp as up_id, Du as du_id, Core, Ue}
use Rattle.gnb_types.specs.declared.names.UeId.{UeId}
use Rattle.gnb_types.specs.declared.names.BearerId.{BearerId}
use Rattle.gnb_types.specs.declared.names.Dir.{Dir}
use Rattle.gnb_types.specs.declared.names.Dir.TheVariants.{Dl, Ul}
use Rattle.gnb_types.specs.declared.keys.EntityKey.{EntityKey}
use Rattle.gnb_types.specs.declared.inputs.Order.{Order}
use Rattle.gnb_types.specs.declared.plans.Plan.{Plan}
use Rattle.message_types.specs.declared.rrc.Token.{Token}
use Rattle.pdcp_defs.specs.Senders.{Sender}
use Rattle.pdcp_defs.specs.Receivers.{Receiver}
use Rattle.unit_defs.specs.Ways.{Message, Pdu, packet_pdu, report_pdu, Load, fresh, numbered, frame, uplink, status, end_marker, Put, control, packet, radio, deliver, dropped, held, opened, closed, failed, no, Input, control_input, packet_input, radio_input, confirm_input, offer_input, tick_input, order_input, gives, spent}
use Rattle.unit_defs.specs.CuUpRecords.{TunnelKind, n3, f1u_uplink, forwarding_down, forwarding_up, CuUpBearer, CuUpContext, CuUpTunnel, CuUp}
use Rattle.unit_defs.specs.CuUp.{cu_up_acts}
use Rattle.unit_defs.specs.Du.{Du, du_acts}
use Rattle.unit_defs.specs.Ue.{UeBearer, UeNode, new_ue, placed, ue_acts}
use Rattle.unit_defs.specs.CuCpRecords.{CuCpRecord}
use Rattle.unit_defs.specs.CuCp.{cu_cp_acts}
use Rattle.unit_defs.specs.Core.{CoreRecord, core_acts}
use Rattle.transport_defs.specs.declared.Item.{Item}
use Rattle.run_defs.specs.Units.{Units, new_units, cu_cp_of, with_cu_cp, cu_up_of, with_cu_up, du_of, with_du, ue_of, with_ue}
use Rattle.run_defs.specs.Written.{Written, written_put, PlainStepped, WrittenStepped, WrittenCoreStepped, written_step}
use Rattle.run_defs.specs.States.{Lengths, control_message_for, item_for, carried_for, confirmed_for, offer_for, tick_for, order_for, octets_from, octets_on, stepped, step_spent, core_stepped, entity}
use Rattle.run_defs.specs.Conditions.{units_placed, all_set_up}
use Rattle.run_defs.specs.Runs.{Reading, PlainGiven, Plain, plain_way, content_of, taken_of, input_of, stepped_with, ue_stepped, acts_on, plain_by, plain_answer, core_done, plain_core}
use Rattle.proof_run_steps.specs.facts.UnitFacts.{UnitFacts, OfUnits}
use Rattle.proof_run_steps.proofs.facts.Alone.{alone}
use Rattle.proof_run_steps.proofs.facts.Units.{with_up_holds, with_du_holds, with_cp_holds, with_ue_holds, units_set_up, first_hold}
use Rattle.law_tunnels_are_owned.proofs.link_items.Octets.{map_all}
use Rattle.proof_unit_steps.specs.packets.Packets.{of, dir_of, Property, ContentHas, TakenHas, UpInputHas, DuInputHas, UeInputHas, LoadHas, OutputHas, CountedHave, BearerHas, BearersHave, CuUpHas, UeHas, AnswerHas}
use Rattle.proof_unit_steps.proofs.packets.CuUps.{cu_up_has, placed_has}
use Rattle.proof_unit_steps.proofs.node_packets.Terminals.{terminal_has, new_has}
use Rattle.proof_unit_steps.proofs.node_packets.Dus.{du_has}
use Rattle.proof_unit_steps.proofs.node_packets.Controls.{cu_cp_has, core_has}
use Rattle.law_tunnels_are_owned.specs.run_tunnels.Own.{IsOfKind, IsOwnAt}
use Rattle.law_units_act_locally.specs.local_packets.Says.{packet_of_pdu, packet_of_load}
use Rattle.law_units_act_locally.specs.local_packets.Local.{IfAny}

-- where PDUs are what they say
abbrev pub of_packets : (EntityKey → List ℕ → Type 0) → Property plain_way
of_packets G = record {
  packet = G;
  pdu = λ key pdu. IfAny (G key) (packet_of_pdu pdu);
  writes = λ key sn count p h. h;
  reports = λ key sn fmc bits. tt;
}

-- ---- more is known

module _ (G H : EntityKey → List ℕ → Type 0) (more : (key : EntityKey) (p : List ℕ) → G key p → H key p) where
  counted_later : (key : EntityKey) (es : List (ℕ × List ℕ)) → CountedHave (of_packets G) key es → CountedHave (of_packets H) key es
  counted_later key es all = map_all (λ (e : ℕ × List ℕ). G key e.1) (λ (e : ℕ × List ℕ). H key e.1) es (λ e h. more key e.1 h) all

  bearer_later : (out back : EntityKey) (s : Sender (List ℕ)) (ps : List (List ℕ)) (r : Receiver (List ℕ)) → BearerHas (of_packets G) out back s ps r
      → BearerHas (of_packets H) out back s ps r
  bearer_later out back s ps r p = record {
    unconfirmed = counted_later out s.unconfirmed p.unconfirmed;
    waiting = map_all (G out) (H out) ps (more out) p.waiting;
    stored = counted_later back r.stored p.stored;
  }

  up_later : (r : CuUp (Message Token) Token) → CuUpHas (of_packets G) r → CuUpHas (of_packets H) r
  up_later r p =
      map_all (λ (e : UeId × CuUpContext). BearersHave (of_packets G) e.0 e.1.bearers) (λ (e : UeId × CuUpContext). BearersHave (of_packets H) e.0 e.1.bearers) r.contexts
      (λ e all. map_all (λ (x : BearerId × CuUpBearer). BearerHas (of_packets G) (of e.0 x.0 Dl) (of e.0 x.0 Ul) x.1.sender x.1.waiting x.1.receiver)
      (λ (x : BearerId × CuUpBearer). BearerHas (of_packets H) (of e.0 x.0 Dl) (of e.0 x.0 Ul) x.1.sender x.1.waiting x.1.receiver) e.1.bearers
      (λ x h. bearer_later (of e.0 x.0 Dl) (of e.0 x.0 Ul) x.1.sender x.1.waiting x.1.receiver h) all) p

  ue_later : (ue : UeId) (u : UeNode) → UeHas (of_packets G) ue u → UeHas (of_packets H) ue u
  ue_later ue u p = (
    p.0,
    map_all (λ (x : BearerId × UeBearer). BearerHas (of_packets G) (of u.plan.ue x.0 Ul) (of u.plan.ue x.0 Dl) x.1.sender x.1.waiting x.1.receiver)
        (λ (x : BearerId × UeBearer). BearerHas (of_packets H) (of u.plan.ue x.0 Ul) (of u.plan.ue x.0 Dl) x.1.sender x.1.waiting x.1.receiver) u.bearers
        (λ x h. bearer_later (of u.plan.ue x.0 Ul) (of u.plan.ue x.0 Dl) x.1.sender x.1.waiting x.1.receiver h) p.1,
  )

-- ---- all units

abbrev pub Knowledge : Type 1
Knowledge = NodeId → EntityKey → List ℕ → Type 0

abbrev pub Records : Type 0
Records = Units (Message Token) Token

abbrev up_knows : Knowledge → Gnb → ℕ → CuUp (Message Token) Token → Type 0
up_knows K gnb number r = CuUpHas (of_packets (K (up_id gnb number))) r

abbrev ue_knows : Knowledge → UeId → UeNode → Type 0
ue_knows K ue u = UeHas (of_packets (K (Ue ue.0))) ue u

abbrev known : Knowledge → UnitFacts
known K = alone (up_knows K) (λ gnb number r. Unit {0}) (λ gnb r. Unit {0}) (ue_knows K) (λ r. Unit {0})

abbrev pub Known : Knowledge → Records → Type 0
Known K u = OfUnits (known K) u

pub known_later : (K L : Knowledge) → ((node : NodeId) (key : EntityKey) (p : List ℕ) → K node key p → L node key p) → (u : Records) → Known K u → Known L u
known_later K L more u p = (
  λ gnb number. up_later (K (up_id gnb number)) (L (up_id gnb number)) (more (up_id gnb number)) (cu_up_of u gnb number) (p.0 gnb number),
  p.1,
  p.2,
  λ ue x is. ue_later (K (Ue ue.0)) (L (Ue ue.0)) (more (Ue ue.0)) ue x (p.3 ue x is),
)

-- ---- what is given, and what is put and delivered

abbrev pub GivenHas : (EntityKey → List ℕ → Type 0) → PlainGiven → Type 0
GivenHas G (item_for teid item) = IfAny (G item.key) (packet_of_load item.content.says)
GivenHas G (carried_for item) = IfAny (G item.key) (packet_of_pdu item.content.says)
GivenHas G (offer_for ue bearer p) = G (entity ue bearer Ul) p
GivenHas G given = Unit {0}

-- what a unit is given is its own: an item is the tunnel's owner's, and a terminal is given what is for it
abbrev pub IsFor : NodeId → UeId → Type 0
IsFor (Ue ue) who = who ≡ record { 0 = ue }
IsFor node who = Unit {0}

abbrev pub GivenOwn : Records → NodeId → PlainGiven → Type 0
GivenOwn u node (item_for teid item) = IsOwnAt u node teid item.key item.content.says
GivenOwn u node (carried_for item) = item.key.dir ≡ Dl → IsFor node item.key.ue
GivenOwn u node (offer_for ue bearer p) = IsFor node ue
GivenOwn u node given = Unit {0}

abbrev pub PutHas : (EntityKey → List ℕ → Type 0) → Put (Message Token) (Written (Load Pdu)) (Written Pdu) → Type 0
PutHas G (packet to teid ue bearer dir tag item) = IfAny (G (entity ue bearer dir)) (packet_of_load item.says)
PutHas G (radio ue bearer dir epoch tag pdu) = IfAny (G (entity ue bearer dir)) (packet_of_pdu pdu.says)
PutHas G (deliver ue bearer dir count p) = G (entity ue bearer dir) p
PutHas G output = Unit {0}

module _ (G : EntityKey → List ℕ → Type 0) where
  pub load_taken : (key : EntityKey) (load : Load Pdu) → IfAny (G key) (packet_of_load load) → TakenHas (of_packets G) key (taken_of load)
  load_taken key (fresh p) h = h
  load_taken key (numbered sn count p) h = h
  load_taken key (frame poll restart number None) h = tt
  load_taken key (frame poll restart number (Some pdu)) h = h
  load_taken key (uplink (packet_pdu count p)) h = h
  load_taken key (uplink (report_pdu fmc bits)) h = tt
  load_taken key (status lost delivered) h = tt
  load_taken key end_marker h = tt

  pub pdu_content : (key : EntityKey) (pdu : Pdu) → IfAny (G key) (packet_of_pdu pdu) → ContentHas (of_packets G) key (content_of pdu)
  pdu_content key (packet_pdu count p) h = h
  pdu_content key (report_pdu fmc bits) h = tt

  -- on a tunnel of this kind the packets go in its direction: a delivery status, which goes in the other one, has none
  kind_goes : (kind : TunnelKind) (ue : UeId) (bearer : BearerId) (dir : Dir) (load : Load Pdu) → IsOfKind kind dir load
      → IfAny (G (of ue bearer dir)) (packet_of_load load) → IfAny (G (of ue bearer (dir_of kind))) (packet_of_load load)
  kind_goes n3 ue bearer Dl load is h = h
  kind_goes forwarding_down ue bearer Dl load is h = h
  kind_goes forwarding_up ue bearer Ul load is h = h
  kind_goes f1u_uplink ue bearer Ul load is h = h
  kind_goes f1u_uplink ue bearer Dl (status lost delivered) is h = tt
  kind_goes kind ue bearer dir load is h = absurd is

  up_taken : (key : EntityKey) (load : Load Pdu) (owner : CuUpTunnel) → (key.ue ≡ owner.ue) × (key.bearer ≡ owner.bearer) × IsOfKind owner.kind key.dir load
      → IfAny (G key) (packet_of_load load) → TakenHas (of_packets G) (of owner.ue owner.bearer (dir_of owner.kind)) (taken_of load)
  up_taken key load owner own h =
      load_taken (of owner.ue owner.bearer (dir_of owner.kind)) load
      (kind_goes owner.kind owner.ue owner.bearer key.dir load own.2
      (subst (λ (b : BearerId). IfAny (G (of owner.ue b key.dir)) (packet_of_load load)) own.1
      (subst (λ (u : UeId). IfAny (G (of u key.bearer key.dir)) (packet_of_load load)) own.0 h)))

  du_taken : (key : EntityKey) (load : Load Pdu) (ue : UeId) (bearer : BearerId) → key.ue ≡ ue → key.bearer ≡ bearer → key.dir ≡ Dl
      → IfAny (G key) (packet_of_load load) → TakenHas (of_packets G) (of ue bearer Dl) (taken_of load)
  du_taken key load ue bearer whose which goes h =
      load_taken (of ue bearer Dl) load
      (subst (λ (d : Dir). IfAny (G (of ue bearer d)) (packet_of_load load)) goes
      (subst (λ (b : BearerId). IfAny (G (of ue b key.dir)) (packet_of_load load)) which
      (subst (λ (u : UeId). IfAny (G (of u key.bearer key.dir)) (packet_of_load load)) whose h)))

  load_said : (key : EntityKey) (load : Load Pdu) → LoadHas (of_packets G) key load → IfAny (G key) (packet_of_load load)
  load_said key (fresh p) h = h
  load_said key (numbered sn count p) h = h
  load_said key (frame poll restart number None) h = tt
  load_said key (frame poll restart number (Some pdu)) h = h
  load_said key (uplink pdu) h = h
  load_said key (status lost delivered) h = tt
  load_said key end_marker h = tt

  written_has : (lengths : Lengths) (output : Put (Message Token) (Load Pdu) Pdu) → OutputHas (of_packets G) output → PutHas G (written_put lengths output)
  written_has lengths (control to ue message) h = tt
  written_has lengths (packet to teid ue bearer dir tag load) h = load_said (entity ue bearer dir) load h
  written_has lengths (radio ue bearer dir epoch tag pdu) h = h
  written_has lengths (deliver ue bearer dir count p) h = h
  written_has lengths (dropped reason) h = tt
  written_has lengths (held reason) h = tt
  written_has lengths (opened teid) h = tt
  written_has lengths (closed teid) h = tt
  written_has lengths (failed ue cause) h = tt
  written_has lengths (no reason) h = tt

  all_written : (lengths : Lengths) (outputs : List (Put (Message Token) (Load Pdu) Pdu)) → AllByRecursion (OutputHas (of_packets G)) outputs
      → AllByRecursion (PutHas G) (map (written_put lengths) outputs)
  all_written lengths [] all = tt
  all_written lengths (output ∷ outputs) all = (written_has lengths output all.0, all_written lengths outputs all.1)

module _ (K : Knowledge) (reading : Reading) where
  -- ---- what units answer

  abbrev pub Answered : NodeId → PlainStepped → Type 0
  Answered node (stepped outputs v) = Known K v × AllByRecursion (OutputHas (of_packets (K node))) outputs
  Answered node (step_spent counter) = Unit {0}

  abbrev pub AnsweredWell : NodeId → WrittenStepped → Type 0
  AnsweredWell node (stepped outputs v) = Known K v × AllByRecursion (PutHas (K node)) outputs
  AnsweredWell node (step_spent counter) = Unit {0}

  abbrev Has : {R : Type 0} → NodeId → (R → Type 0) → Plain R → Type 0
  Has node Q a = AnswerHas (of_packets (K node)) Q a

  by_cp : (u : Records) (gnb : Gnb) (a : Plain (CuCpRecord (Message Token) Token)) → Known K u → Has (CuCp gnb) (λ r. Unit {0}) a
      → Answered (CuCp gnb) (stepped_with reading (with_cu_cp u gnb) a)
  by_cp u gnb (gives outputs r) p h = (with_cp_holds (known K) u gnb r p tt, h.1)
  by_cp u gnb (spent counter) p h = tt

  by_up : (u : Records) (gnb : Gnb) (number : ℕ) (a : Plain (CuUp (Message Token) Token)) → Known K u → Has (up_id gnb number) (up_knows K gnb number) a
      → Answered (up_id gnb number) (stepped_with reading (with_cu_up u gnb number) a)
  by_up u gnb number (gives outputs r) p h = (with_up_holds (known K) u gnb number r p h.0, h.1)
  by_up u gnb number (spent counter) p h = tt

  by_du : (u : Records) (gnb : Gnb) (number : ℕ) (a : Plain (Du (Message Token) Token)) → Known K u → Has (du_id gnb number) (λ r. Unit {0}) a
      → Answered (du_id gnb number) (stepped_with reading (with_du u gnb number) a)
  by_du u gnb number (gives outputs r) p h = (with_du_holds (known K) u gnb number r p tt, h.1)
  by_du u gnb number (spent counter) p h = tt

  pub by_ue : (u : Records) (ue : ℕ) (a : Plain UeNode) → Known K u → Has (Ue ue) (ue_knows K (record { 0 = ue })) a
      → Answered (Ue ue) (stepped_with reading (with_ue u (record { 0 = ue })) a)
  by_ue u ue (gives outputs x) p h = (with_ue_holds (known K) u (record { 0 = ue }) x p h.0, h.1)
  by_ue u ue (spent counter) p h = tt

  abbrev pub InputHas : Records → NodeId → Input Token Pdu → Type 0
  InputHas u (CuCp gnb) input = Unit {0}
  InputHas u (up_id gnb number) input = UpInputHas (of_packets (K (up_id gnb number))) (cu_up_of u gnb number) input
  InputHas u (du_id gnb number) input = DuInputHas (of_packets (K (du_id gnb number))) (du_of u gnb number) input
  InputHas u (Ue ue) input = UeInputHas (of_packets (K (Ue ue))) (record { 0 = ue }) input
  InputHas u Core input = Unit {0}

  acted : (u : Records) (node : NodeId) (input : Input Token Pdu) → Known K u → InputHas u node input → Answered node (acts_on reading u node input)
  acted u (CuCp gnb) input p brings = by_cp u gnb (cu_cp_acts plain_way (cu_cp_of u gnb) input) p (cu_cp_has (of_packets (K (CuCp gnb))) (cu_cp_of u gnb) input)
  acted u (up_id gnb number) input p brings =
      by_up u gnb number (cu_up_acts plain_way (cu_up_of u gnb number) input) p
      (cu_up_has (of_packets (K (up_id gnb number))) (cu_up_of u gnb number) input (p.0 gnb number) brings)
  acted u (du_id gnb number) input p brings =
      by_du u gnb number (du_acts plain_way (du_of u gnb number) input) p (du_has (of_packets (K (du_id gnb number))) (du_of u gnb number) input brings)
  acted u (Ue ue) input p brings = there (ue_of u (record { 0 = ue })) refl
    where
      there : (o : Option UeNode) → ue_of u (record { 0 = ue }) ≡ o → Answered (Ue ue) (ue_stepped reading u ue input o)
      there None is = (p, tt)
      there (Some x) is =
          by_ue u ue (ue_acts plain_way x input) p
          (terminal_has (of_packets (K (Ue ue))) (record { 0 = ue }) x input (p.3 (record { 0 = ue }) x is) brings)
  acted u Core input p brings = (p, tt)

  abbrev pub Brings : Records → NodeId → Option (Input Token Pdu) → Type 0
  Brings u node None = Unit {0}
  Brings u node (Some input) = InputHas u node input

  -- by each node: a tunnel's item is its owner's, and a radio's is the terminal's
  item_brings : (u : Records) (node : NodeId) (teid : ℕ) (item : Item (Written (Load Pdu))) → IfAny (K node item.key) (packet_of_load item.content.says)
      → IsOwnAt u node teid item.key item.content.says → InputHas u node (packet_input teid (taken_of item.content.says))
  item_brings u (up_id gnb number) teid item h own = λ owner there. up_taken (K (up_id gnb number)) item.key item.content.says owner (own owner there) h
  item_brings u (du_id gnb number) teid item h own =
      λ owner there.
      let is = own owner there in
      du_taken (K (du_id gnb number)) item.key item.content.says owner.ue owner.bearer is.0 is.1 is.2.0 h
  item_brings u (CuCp gnb) teid item h own = tt
  item_brings u (Ue ue) teid item h own = tt
  item_brings u Core teid item h own = tt

  radio_brings : (u : Records) (node : NodeId) (ue : UeId) (bearer : BearerId) (dir : Dir) (pdu : Pdu) → IfAny (K node (of ue bearer dir)) (packet_of_pdu pdu)
      → (dir ≡ Dl → IsFor node ue) → InputHas u node (radio_input ue bearer dir pdu (content_of pdu))
  radio_brings u (du_id gnb number) ue bearer dir pdu h own = h
  radio_brings u (Ue who) ue bearer Dl pdu h own =
      pdu_content (K (Ue who)) (of (record { 0 = who }) bearer Dl) pdu (subst (λ (x : UeId). IfAny (K (Ue who) (of x bearer Dl)) (packet_of_pdu pdu)) (own refl) h)
  radio_brings u (Ue who) ue bearer Ul pdu h own = tt
  radio_brings u (CuCp gnb) ue bearer dir pdu h own = tt
  radio_brings u (up_id gnb number) ue bearer dir pdu h own = tt
  radio_brings u Core ue bearer dir pdu h own = tt

  offer_brings : (u : Records) (node : NodeId) (ue : UeId) (bearer : BearerId) (p : List ℕ) → K node (entity ue bearer Ul) p → IsFor node ue
      → InputHas u node (offer_input ue bearer p)
  offer_brings u (Ue who) ue bearer p h own = subst (λ (x : UeId). K (Ue who) (of x bearer Ul) p) own h
  offer_brings u (CuCp gnb) ue bearer p h own = tt
  offer_brings u (up_id gnb number) ue bearer p h own = tt
  offer_brings u (du_id gnb number) ue bearer p h own = tt
  offer_brings u Core ue bearer p h own = tt

  -- other inputs bring nothing
  pub control_brings : (u : Records) (node from : NodeId) (message : Message Token) → InputHas u node (control_input from message)
  control_brings u (CuCp gnb) from message = tt
  control_brings u (up_id gnb number) from message = tt
  control_brings u (du_id gnb number) from message = tt
  control_brings u (Ue ue) from message = tt
  control_brings u Core from message = tt

  pub confirm_brings : (u : Records) (node : NodeId) (item : Item (Written Pdu))
      → InputHas u node (confirm_input item.key.ue item.key.bearer item.key.dir item.content.says (content_of item.content.says))
  confirm_brings u (CuCp gnb) item = tt
  confirm_brings u (up_id gnb number) item = tt
  confirm_brings u (du_id gnb number) item = tt
  confirm_brings u (Ue ue) item = tt
  confirm_brings u Core item = tt

  pub tick_brings : (u : Records) (node : NodeId) → InputHas u node tick_input
  tick_brings u (CuCp gnb) = tt
  tick_brings u (up_id gnb number) = tt
  tick_brings u (du_id gnb number) = tt
  tick_brings u (Ue ue) = tt
  tick_brings u Core = tt

  pub order_brings : (u : Records) (node : NodeId) (order : Order) → InputHas u node (order_input order)
  order_brings u (CuCp gnb) order = tt
  order_brings u (up_id gnb number) order = tt
  order_brings u (du_id gnb number) order = tt
  order_brings u (Ue ue) order = tt
  order_brings u Core order = tt

  given_brings : (u : Records) (node : NodeId) (given : PlainGiven) → GivenHas (K node) given → GivenOwn u node given → Brings u node (input_of reading given)
  given_brings u node (control_message_for from message) h own = control_brings u node from message
  given_brings u node (item_for teid item) h own = item_brings u node teid item h own
  given_brings u node (carried_for item) h own = radio_brings u node item.key.ue item.key.bearer item.key.dir item.content.says h own
  given_brings u node (confirmed_for item) h own = confirm_brings u node item
  given_brings u node (offer_for ue bearer p) h own = offer_brings u node ue bearer p h own
  given_brings u node tick_for h own = tick_brings u node
  given_brings u node (order_for order) h own = order_brings u node order
  given_brings u node (octets_from from octets) h own = tt
  given_brings u node (octets_on teid octets) h own = tt

  pub answered : (u : Records) (node : NodeId) (given : PlainGiven) (o : Option (Input Token Pdu)) → Known K u → Brings u node o → Answered node (plain_by reading u node given o)
  answered u node given None p brings = (p, (tt, tt))
  answered u node given (Some input) p brings = acted u node input p brings

  pub written : (lengths : Lengths) (node : NodeId) (x : PlainStepped) → Answered node x → AnsweredWell node (written_step lengths x)
  written lengths node (stepped outputs v) p = (p.0, all_written (K node) lengths outputs p.1)
  written lengths node (step_spent counter) p = tt

  pub units_answer : (lengths : Lengths) (u v : Records) (node : NodeId) (given : PlainGiven) (outputs : List (Put (Message Token) (Written (Load Pdu)) (Written Pdu)))
      → Known K u → GivenHas (K node) given → GivenOwn u node given → plain_answer reading lengths u node given ≡ stepped outputs v
      → Known K v × AllByRecursion (PutHas (K node)) outputs
  units_answer lengths u v node given outputs p h own is =
      subst (AnsweredWell node) is
      (written lengths node (plain_by reading u node given (input_of reading given)) (answered u node given (input_of reading given) p (given_brings u node given h own)))

  -- ---- a terminal comes, and one is set up without messages

  pub comes_known : (u : Records) (plan : Plan) → Known K u → Known K (with_ue u plan.ue (new_ue plan))
  unfolding new_ue
  comes_known u plan p = with_ue_holds (known K) u plan.ue (new_ue plan) p (new_has (of_packets (K (Ue plan.ue.0))) plan.ue (new_ue plan) 1 plan.bearers refl refl)

  pub placed_known : (u : Records) (plan : Plan) → Known K u → Known K (all_set_up (units_placed plan u))
  unfolding new_ue placed
  placed_known u plan p =
      units_set_up (known K) (λ gnb number r h. h) (λ gnb number r h. tt) (λ gnb r h. tt) u plan p
      (new_has (of_packets (K (Ue plan.ue.0))) plan.ue (placed (new_ue plan)) 1 plan.bearers refl refl)
      (placed_has (of_packets (K (up_id plan.gnb plan.up))) (cu_up_of u plan.gnb plan.up) plan (du_of u plan.gnb plan.du).next_teid (p.0 plan.gnb plan.up)) tt tt

  pub first_known : Known K new_units
  first_known = first_hold (known K) (λ gnb number. tt) (λ gnb number. tt) (λ gnb. tt)

-- ---- the core puts no packets but those that are offered

module _ (G : EntityKey → List ℕ → Type 0) (reading : Reading) where
  abbrev CoreAnswered : WrittenCoreStepped → Type 0
  CoreAnswered (core_stepped outputs r) = AllByRecursion (PutHas G) outputs

  by_core : (lengths : Lengths) (r : CoreRecord (Message Token) Token) (a : Plain (CoreRecord (Message Token) Token)) → AnswerHas (of_packets G) (λ r. Unit {0}) a
      → CoreAnswered (core_done reading lengths r a)
  by_core lengths r (gives outputs q) h = all_written G lengths outputs h.1
  by_core lengths r (spent counter) h = tt

  core_answered : (lengths : Lengths) (r : CoreRecord (Message Token) Token) (given : PlainGiven) → CoreAnswered (plain_core reading lengths r given)
  core_answered lengths r (control_message_for from message) = by_core lengths r (core_acts plain_way r from message) (core_has (of_packets G) r from message)
  core_answered lengths r (item_for teid item) = (tt, tt)
  core_answered lengths r (carried_for item) = (tt, tt)
  core_answered lengths r (confirmed_for item) = (tt, tt)
  core_answered lengths r (offer_for ue bearer p) = (tt, tt)
  core_answered lengths r tick_for = (tt, tt)
  core_answered lengths r (order_for order) = (tt, tt)
  core_answered lengths r (octets_from from octets) = (tt, tt)
  core_answered lengths r (octets_on teid octets) = (tt, tt)

  pub the_core_answers : (lengths : Lengths) (r q : CoreRecord (Message Token) Token) (given : PlainGiven)
      (outputs : List (Put (Message Token) (Written (Load Pdu)) (Written Pdu))) → plain_core reading lengths r given ≡ core_stepped outputs q
      → AllByRecursion (PutHas G) outputs
  the_core_answers lengths r q given outputs is = subst CoreAnswered is (core_answered lengths r given)
