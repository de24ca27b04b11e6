-- A property of packets of a terminal, bearer and direction, whichever, and what of a unit has it: the packet that an input brings, those
-- that are kept, and those that are put and delivered.
use Rattle.std.specs.Prelude.{ℕ, ◌≡◌, Bool, true, List, Option, Some, None}
use Rattle.std.specs.List.{AllByRecursion}
use Rattle.std.specs.Ordering.{nat_cmp}
use Rattle.gnb_types.specs.declared.names.SnBits.{SnBits}
use Rattle.gnb_types.specs.declared.names.UeId.{UeId}
use Rattle.gnb_types.specs.declared.names.BearerId.{BearerId}
use Rattle.gnb_types.specs.declared.names.Dir.{Dir}
use Rattle.gnb_types.specs.declared.names.Dir.TheVariants.{Dl, Ul}
use Rattle.gnb_types.specs.declared.keys.EntityKey.{EntityKey}
use Rattle.tables.specs.Tables.{find}
use Rattle.pdcp_defs.specs.Senders.{Sender}
use Rattle.pdcp_defs.specs.Receivers.{Receiver}
use Rattle.unit_defs.specs.Ways.{packet_pdu, report_pdu, Content, packet_content, report_content, Load, fresh, numbered, frame, uplink, status, end_marker, Taken, fresh_item, numbered_item, frame_item, uplink_item, status_item, end_item, Input, packet_input, radio_input, offer_input, Output, packet, radio, deliver, Way, Answer, gives, spent}
use Rattle.unit_defs.specs.CuUpRecords.{TunnelKind, n3, f1u_uplink, forwarding_down, forwarding_up, CuUpBearer, CuUpContext, CuUpTunnel, CuUp}
use Rattle.unit_defs.specs.Du.{DuTunnel, Du}
use Rattle.unit_defs.specs.Ue.{UeBearer, UeNode}

abbrev pub of : UeId → BearerId → Dir → EntityKey
of ue bearer dir = record { ue = ue; bearer = bearer; dir = dir }

-- the direction of the packets on a tunnel to a CU-UP
abbrev pub dir_of : TunnelKind → Dir
dir_of n3 = Dl
dir_of f1u_uplink = Ul
dir_of forwarding_down = Dl
dir_of forwarding_up = Ul

-- Of packets, and of PDUs, with the terminal, bearer and direction that they are of: a PDU that is written of a packet with it has it, and
-- so has a status report. COUNTs have no part in it.
pub record Property {M C P : Type 0} (way : Way M C P) : Type 1 where
  pub packet : EntityKey → List ℕ → Type 0
  pub pdu : EntityKey → P → Type 0
  pub writes : (key : EntityKey) (sn : SnBits) (count : ℕ) (p : List ℕ) → packet key p → pdu key (way.write sn (packet_pdu count p))
  pub reports : (key : EntityKey) (sn : SnBits) (fmc : ℕ) (bits : List Bool) → pdu key (way.write sn (report_pdu fmc bits))

-- the same as a test, so that a law may speak of all of them
pub record Test {M C P : Type 0} (way : Way M C P) : Type 0 where
  pub packet : EntityKey → List ℕ → Bool
  pub pdu : EntityKey → P → Bool
  pub writes : (key : EntityKey) (sn : SnBits) (count : ℕ) (p : List ℕ) → packet key p ≡ true → pdu key (way.write sn (packet_pdu count p)) ≡ true
  pub reports : (key : EntityKey) (sn : SnBits) (fmc : ℕ) (bits : List Bool) → pdu key (way.write sn (report_pdu fmc bits)) ≡ true

abbrev pub passes : {M C P : Type 0} {way : Way M C P} → Test way → Property way
passes test = record {
  packet = λ key p. test.packet key p ≡ true;
  pdu = λ key pdu. test.pdu key pdu ≡ true;
  writes = test.writes;
  reports = test.reports;
}

module _ {M C P : Type 0} {way : Way M C P} (has : Property way) where
  abbrev pub PayloadHas : EntityKey → Option P → Type 0
  PayloadHas key None = Unit {0}
  PayloadHas key (Some pdu) = has.pdu key pdu

  -- ---- what an input brings: a packet, or a PDU and what it says; what is confirmed on a radio is not new

  abbrev pub ContentHas : EntityKey → Content → Type 0
  ContentHas key (packet_content count p) = has.packet key p
  ContentHas key (report_content fmc bits) = Unit {0}

  abbrev pub TakenHas : EntityKey → Taken P → Type 0
  TakenHas key (fresh_item p) = has.packet key p
  TakenHas key (numbered_item count p) = has.packet key p
  TakenHas key (frame_item poll restart number pdu) = PayloadHas key pdu
  TakenHas key (uplink_item content) = ContentHas key content
  TakenHas key (status_item lost delivered) = Unit {0}
  TakenHas key end_item = Unit {0}

  -- a tunnel's item brings what is its owner's; a radio's is of the bearer that it says, at a terminal of its own
  abbrev pub UpInputHas : CuUp M C → Input C P → Type 0
  UpInputHas r (packet_input teid item) =
      (owner : CuUpTunnel) → find nat_cmp r.tunnels teid ≡ Some owner → TakenHas (of owner.ue owner.bearer (dir_of owner.kind)) item
  UpInputHas r input = Unit {0}

  abbrev pub DuInputHas : Du M C → Input C P → Type 0
  DuInputHas r (packet_input teid item) =
      (owner : DuTunnel) → find nat_cmp r.tunnels teid ≡ Some owner → TakenHas (of owner.ue owner.bearer Dl) item
  DuInputHas r (radio_input ue bearer dir pdu content) = has.pdu (of ue bearer dir) pdu
  DuInputHas r input = Unit {0}

  abbrev pub UeInputHas : UeId → Input C P → Type 0
  UeInputHas ue (radio_input who bearer Dl pdu content) = ContentHas (of ue bearer Dl) content
  UeInputHas ue (offer_input who bearer p) = has.packet (of ue bearer Ul) p
  UeInputHas ue input = Unit {0}

  -- ---- what is put and delivered

  abbrev pub LoadHas : EntityKey → Load P → Type 0
  LoadHas key (fresh p) = has.packet key p
  LoadHas key (numbered sn count p) = has.packet key p
  LoadHas key (frame poll restart number pdu) = PayloadHas key pdu
  LoadHas key (uplink pdu) = has.pdu key pdu
  LoadHas key (status lost delivered) = Unit {0}
  LoadHas key end_marker = Unit {0}

  abbrev pub OutputHas : Output M P → Type 0
  OutputHas (packet to teid ue bearer dir tag load) = LoadHas (of ue bearer dir) load
  OutputHas (radio ue bearer dir epoch tag pdu) = has.pdu (of ue bearer dir) pdu
  OutputHas (deliver ue bearer dir count p) = has.packet (of ue bearer dir) p
  OutputHas output = Unit {0}

  -- ---- what is kept: packets with a COUNT that nothing confirmed, those that wait for one, and those that are stored for delivery

  abbrev pub CountedHave : EntityKey → List (ℕ × List ℕ) → Type 0
  CountedHave key es = AllByRecursion (λ (e : ℕ × List ℕ). has.packet key e.1) es

  -- of a bearer that sends in one direction and receives in the other
  pub record BearerHas (out back : EntityKey) (s : Sender (List ℕ)) (ps : List (List ℕ)) (r : Receiver (List ℕ)) : Type 0 where
    pub unconfirmed : CountedHave out s.unconfirmed
    pub waiting : AllByRecursion (has.packet out) ps
    pub stored : CountedHave back r.stored

  abbrev pub BearersHave : UeId → List (BearerId × CuUpBearer) → Type 0
  BearersHave ue bearers =
      AllByRecursion (λ (e : BearerId × CuUpBearer). BearerHas (of ue e.0 Dl) (of ue e.0 Ul) e.1.sender e.1.waiting e.1.receiver) bearers

  abbrev pub CuUpHas : CuUp M C → Type 0
  CuUpHas r = AllByRecursion (λ (e : UeId × CuUpContext). BearersHave e.0 e.1.bearers) r.contexts

  -- the record of a terminal, which is of its plan
  abbrev pub UeHas : UeId → UeNode → Type 0
  UeHas ue u =
      (u.plan.ue ≡ ue)
      × AllByRecursion (λ (e : BearerId × UeBearer). BearerHas (of u.plan.ue e.0 Ul) (of u.plan.ue e.0 Dl) e.1.sender e.1.waiting e.1.receiver) u.bearers

  -- ---- an answer: of all that is put and delivered, and of what is kept then

  abbrev pub AnswerHas : {R : Type 0} → (R → Type 0) → Answer M P R → Type 0
  AnswerHas Q (gives outputs after) = Q after × AllByRecursion OutputHas outputs
  AnswerHas Q (spent counter) = Unit {0}

  -- no packet is kept
  abbrev pub OutputsHave : {R : Type 0} → Answer M P R → Type 0
  OutputsHave {R = R} a = AnswerHas (λ (r : R). Unit {0}) a
