-- Whose a tunnel is said to be: which control messages name tunnels, of which node and kind, for which terminal and bearer; how long the
-- numbers of a terminal's COUNTs are said to be; and what a unit keeps of such messages.
use Rattle.std.specs.Prelude.{ℕ, ◌≡◌, Bool, true, List, Option, Some, None}
use Rattle.std.specs.List.{AllByRecursion}
use Rattle.gnb_types.specs.declared.names.Gnb.{Gnb}
use Rattle.gnb_types.specs.declared.names.Gnb.TheVariants.{A}
use Rattle.gnb_types.specs.declared.names.NodeId.{NodeId}
use Rattle.gnb_types.specs.declared.names.NodeId.TheVariants.{CuCp, CuUp, Du, Core}
use Rattle.gnb_types.specs.declared.names.UeId.{UeId}
use Rattle.gnb_types.specs.declared.names.BearerId.{BearerId}
use Rattle.gnb_types.specs.declared.names.Dir.{Dir}
use Rattle.gnb_types.specs.declared.names.Dir.TheVariants.{Dl, Ul}
use Rattle.gnb_types.specs.declared.names.SnBits.{SnBits}
use Rattle.gnb_types.specs.declared.inputs.Order.{Order}
use Rattle.gnb_types.specs.declared.inputs.Order.TheVariants as orders
use Rattle.gnb_types.specs.declared.keys.Channel.{Channel}
use Rattle.gnb_types.specs.declared.plans.Peer.{Peer}
use Rattle.gnb_types.specs.declared.plans.Tunnel.{Tunnel}
use Rattle.message_types.specs.declared.f1.F1.TheVariants as f1s
use Rattle.message_types.specs.declared.e1.E1Message.TheVariants as e1s
use Rattle.message_types.specs.declared.xn.XnMessage.TheVariants as xns
use Rattle.message_types.specs.declared.xn.CoreMessage.TheVariants as cores
use Rattle.transaction_defs.specs.Callers.{Opened}
use Rattle.transaction_defs.specs.Callees.{Kept}
use Rattle.unit_defs.specs.Ways.{Message, f1, e1, xn, core, Load, numbered, frame, uplink, status, Input, control_input, order_input, Output, control, packet, radio, Way, Answer, gives, spent}
use Rattle.unit_defs.specs.Transactions.{Kind, request, reply, transfer, kind_of, Waiting, Transactions}
use Rattle.unit_defs.specs.CuUpRecords.{TunnelKind, n3, f1u_uplink, forwarding_down, forwarding_up}

-- ---- a TEID of a CU-UP may be named for a tunnel of this kind, of this terminal and bearer; one of a DU for its downlink; and the numbers
-- of a terminal may have this length

pub record Owners : Type 1 where
  pub up : (gnb : Gnb) (number : ℕ) (kind : TunnelKind) (ue : UeId) (bearer : BearerId) (teid : ℕ) → Type 0
  pub du : (gnb : Gnb) (number : ℕ) (ue : UeId) (bearer : BearerId) (teid : ℕ) → Type 0
  pub length : (ue : UeId) (sn : SnBits) → Type 0

abbrev pub IfAny : {X : Type 0} → (X → Type 0) → Option X → Type 0
IfAny Q None = Unit {0}
IfAny Q (Some x) = Q x

-- the gNB of a unit
abbrev pub gnb_of : NodeId → Gnb
gnb_of (CuCp gnb) = gnb
gnb_of (CuUp gnb number) = gnb
gnb_of (Du gnb number) = gnb
gnb_of node = A

-- the terminal of a message
abbrev pub ue_of : Kind → UeId
ue_of (request ue instance) = record { 0 = ue }
ue_of (reply ue instance) = record { 0 = ue }
ue_of (transfer ue) = record { 0 = ue }

module _ (owners : Owners) where
  -- ---- lists of tunnels: at this CU-UP, at this DU, at the node that this is

  abbrev pub CuUpList : Gnb → ℕ → TunnelKind → UeId → List Tunnel → Type 0
  CuUpList gnb number kind ue tunnels = AllByRecursion (λ t. owners.up gnb number kind ue t.bearer t.teid) tunnels

  abbrev pub DuList : Gnb → ℕ → UeId → List Tunnel → Type 0
  DuList gnb number ue tunnels = AllByRecursion (λ t. owners.du gnb number ue t.bearer t.teid) tunnels

  abbrev pub OwnUpList : NodeId → TunnelKind → UeId → List Tunnel → Type 0
  OwnUpList (CuUp gnb number) kind ue tunnels = CuUpList gnb number kind ue tunnels
  OwnUpList node kind ue tunnels = ⊥

  abbrev pub OwnDuList : NodeId → UeId → List Tunnel → Type 0
  OwnDuList (Du gnb number) ue tunnels = DuList gnb number ue tunnels
  OwnDuList node ue tunnels = ⊥

  abbrev pub PeerList : Peer → TunnelKind → UeId → List Tunnel → Type 0
  PeerList peer kind ue tunnels = CuUpList peer.gnb peer.up kind ue tunnels

  -- ---- messages: a response names tunnels of its sender; an uplink, a hop and a path are those of the CU-UP that is named beside them,
  -- and a switch those of a DU of the sender's gNB; a request for a context, or for a handover, says the length of the terminal's numbers

  abbrev pub SwitchNames : NodeId → UeId → Option (List Tunnel) → Option ℕ → Type 0
  SwitchNames from ue (Some downlinks) (Some du) = DuList (gnb_of from) du ue downlinks
  SwitchNames from ue downlinks du = Unit {0}

  abbrev pub FreezeNames : UeId → Option Peer → Option (List Tunnel) → Option (List Tunnel) → Type 0
  FreezeNames ue (Some peer) (Some down) (Some up) = PeerList peer forwarding_down ue down × PeerList peer forwarding_up ue up
  FreezeNames ue peer down up = Unit {0}

  abbrev pub NamesFor : {C : Type 0} → NodeId → UeId → Message C → Type 0
  NamesFor from ue (f1 (f1s.UeContextSetupRequest u instance epoch uplinks sn peer)) = PeerList peer f1u_uplink ue uplinks × owners.length ue sn
  NamesFor from ue (f1 (f1s.UeContextSetupResponse u instance downlinks)) = OwnDuList from ue downlinks
  NamesFor from ue (f1 (f1s.UeContextModificationResponse u instance downlinks)) = OwnDuList from ue downlinks
  NamesFor from ue (e1 (e1s.BearerContextSetupRequest u instance bearers sn quota forward)) = owners.length ue sn
  NamesFor from ue (e1 (e1s.BearerContextSetupResponse u instance uplinks paths down up)) =
      OwnUpList from f1u_uplink ue uplinks × OwnUpList from n3 ue paths × IfAny (OwnUpList from forwarding_down ue) down
      × IfAny (OwnUpList from forwarding_up ue) up
  NamesFor from ue (e1 (e1s.BearerContextModificationRequest u instance downlinks mode peer down up statuses du)) =
      SwitchNames from ue downlinks du × FreezeNames ue peer down up
  NamesFor from ue (e1 (e1s.BearerContextModificationResponse u instance uplinks statuses)) = IfAny (OwnUpList from f1u_uplink ue) uplinks
  NamesFor from ue (xn (xns.HandoverRequest u instance epoch bearers sn quota peer du origin)) = owners.length ue sn
  NamesFor from ue (xn (xns.HandoverRequestAcknowledge u instance peer down up)) =
      PeerList peer forwarding_down ue down × PeerList peer forwarding_up ue up
  NamesFor from ue (core (cores.PathSwitchRequest u instance peer paths)) = PeerList peer n3 ue paths
  NamesFor from ue message = Unit {0}

  abbrev pub Names : {C : Type 0} → NodeId → Message C → Type 0
  Names from message = NamesFor from (ue_of (kind_of message)) message

  -- an order to attach says it too; so does a forwarded packet with a number; PDUs are of terminals of which it is known, and so is what a
  -- delivery status confirms
  abbrev pub OrderNames : Order → Type 0
  OrderNames (orders.Attach plan) = owners.length plan.ue plan.sn
  OrderNames order = Unit {0}

  abbrev pub HasLength : UeId → Type 0
  HasLength ue = (sn : SnBits) × owners.length ue sn

  abbrev pub LoadNames : {P : Type 0} → UeId → Load P → Type 0
  LoadNames ue (numbered sn count p) = owners.length ue sn
  LoadNames ue (frame poll restart number pdu) = HasLength ue
  LoadNames ue (uplink pdu) = HasLength ue
  LoadNames ue (status lost (Some count)) = HasLength ue
  LoadNames ue load = Unit {0}

-- ---- the same of what stands for a message: it is so where its message is, and a container names no tunnel

pub record Property {M C P : Type 0} (way : Way M C P) : Type 1 where
  pub owners : Owners
  pub says : NodeId → M → Type 0
  pub spells : (from : NodeId) (message : Message C) → Names owners from message → says from (way.encode message)
  pub passes : (from : NodeId) (container : C) → says from (way.pass container)

-- as a test, so that a law may speak of all of them
pub record Book : Type 0 where
  pub up : (gnb : Gnb) (number : ℕ) (kind : TunnelKind) (ue : UeId) (bearer : BearerId) (teid : ℕ) → Bool
  pub du : (gnb : Gnb) (number : ℕ) (ue : UeId) (bearer : BearerId) (teid : ℕ) → Bool
  pub length : (ue : UeId) (sn : SnBits) → Bool

abbrev pub by_book : Book → Owners
by_book book = record {
  up = λ gnb number kind ue bearer teid. book.up gnb number kind ue bearer teid ≡ true;
  du = λ gnb number ue bearer teid. book.du gnb number ue bearer teid ≡ true;
  length = λ ue sn. book.length ue sn ≡ true;
}

pub record Test {M C P : Type 0} (way : Way M C P) : Type 0 where
  pub book : Book
  pub says : NodeId → M → Bool
  pub spells : (from : NodeId) (message : Message C) → Names (by_book book) from message → says from (way.encode message) ≡ true
  pub passes : (from : NodeId) (container : C) → says from (way.pass container) ≡ true

abbrev pub by_test : {M C P : Type 0} {way : Way M C P} → Test way → Property way
by_test test = record {
  owners = by_book test.book;
  says = λ from message. test.says from message ≡ true;
  spells = test.spells;
  passes = test.passes;
}

module _ {M C P : Type 0} {way : Way M C P} (is : Property way) where
  -- ---- what a node puts: control messages, and items on tunnels, which are of the kind that this node puts there in this direction

  abbrev pub PutOn : NodeId → NodeId → ℕ → UeId → BearerId → Dir → Type 0
  PutOn Core (CuUp gnb number) teid ue bearer Dl = is.owners.up gnb number n3 ue bearer teid
  PutOn (CuUp other up) (Du gnb number) teid ue bearer Dl = is.owners.du gnb number ue bearer teid
  PutOn (CuUp other up) (CuUp gnb number) teid ue bearer Dl = is.owners.up gnb number forwarding_down ue bearer teid
  PutOn (CuUp other up) (CuUp gnb number) teid ue bearer Ul = is.owners.up gnb number forwarding_up ue bearer teid
  PutOn (Du other du) (CuUp gnb number) teid ue bearer dir = is.owners.up gnb number f1u_uplink ue bearer teid
  PutOn from to teid ue bearer dir = ⊥

  abbrev pub OutputNames : NodeId → Output M P → Type 0
  OutputNames node (control to ue message) = is.says node message
  OutputNames node (packet to teid ue bearer dir tag load) = PutOn node to teid ue bearer dir × LoadNames is.owners ue load
  OutputNames node (radio ue bearer dir epoch tag pdu) = HasLength is.owners ue
  OutputNames node output = Unit {0}

  abbrev pub OutputsName : NodeId → List (Output M P) → Type 0
  OutputsName node outputs = AllByRecursion (OutputNames node) outputs

  abbrev pub AnswerNames : {R : Type 0} → (R → Type 0) → NodeId → Answer M P R → Type 0
  AnswerNames Q node (gives outputs after) = Q after × OutputsName node outputs
  AnswerNames Q node (spent counter) = Unit {0}

  -- a message or an order that comes names tunnels and lengths as it should
  abbrev pub InputNames : Input C P → Type 0
  InputNames (control_input from message) = Names is.owners from message
  InputNames (order_input order) = OrderNames is.owners order
  InputNames input = Unit {0}

  -- ---- what a node keeps of messages: open requests, those that wait, and replies

  pub record KeptNames (node : NodeId) (t : Transactions M C) : Type 0 where
    pub opened : AllByRecursion (λ (e : Channel × Opened M). IfAny (is.says node) e.1.request) t.caller.opened
    pub waiting : AllByRecursion (λ (e : Channel × List (Waiting C)). AllByRecursion (λ (w : Waiting C). Names is.owners node w.message) e.1) t.waiting
    pub replies : AllByRecursion (λ (e : Channel × Kept M). IfAny (is.says node) e.1.reply) t.callee
