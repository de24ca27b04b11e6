-- What units exchange, and what stands for it. A control message, a container in it and a PDCP PDU are each seen in two ways:
-- as what they say, in the run that is looked at as a whole; and as octets, in units. What stands for them are parameters.
use Rattle.std.specs.Prelude.{ℕ, Bool, List, [], ◌∷◌, ◌++◌, Option}
use Rattle.gnb_types.specs.declared.names.NodeId.{NodeId}
use Rattle.gnb_types.specs.declared.names.UeId.{UeId}
use Rattle.gnb_types.specs.declared.names.BearerId.{BearerId}
use Rattle.gnb_types.specs.declared.names.Dir.{Dir}
use Rattle.gnb_types.specs.declared.names.SnBits.{SnBits}
use Rattle.gnb_types.specs.declared.outputs.Tag.{Tag}
use Rattle.gnb_types.specs.declared.reasons.DropReason.{DropReason}
use Rattle.gnb_types.specs.declared.reasons.HeldReason.{HeldReason}
use Rattle.gnb_types.specs.declared.reasons.CauseName.{CauseName}
use Rattle.gnb_types.specs.declared.reasons.RefuseReason.{RefuseReason}
use Rattle.message_types.specs.declared.f1.F1.{F1}
use Rattle.message_types.specs.declared.e1.E1Message.{E1Message}
use Rattle.message_types.specs.declared.xn.XnMessage.{XnMessage}
use Rattle.message_types.specs.declared.xn.CoreMessage.{CoreMessage}
use Rattle.message_types.specs.declared.rrc.Token.{Token}
use Rattle.gnb_types.specs.declared.inputs.Order.{Order}

-- a control message of any interface; C stands for a container
pub data Message (C : Type 0) : Type 0 where
  f1 : (message : F1 C) → Message C
  e1 : (message : E1Message) → Message C
  xn : (message : XnMessage) → Message C
  core : (message : CoreMessage) → Message C
  rrc : (token : Token) → Message C

-- a PDCP PDU that a unit writes (TS 38.323, 6.2): a packet with its COUNT, or a status report
pub data Pdu : Type 0 where
  packet_pdu : (count : ℕ) (packet : List ℕ) → Pdu
  report_pdu : (fmc : ℕ) (bits : List Bool) → Pdu

-- what a PDU says to the entity that takes it: the COUNT that was found from its number, if one was
pub data Content : Type 0 where
  packet_content : (count : Option ℕ) (packet : List ℕ) → Content
  report_content : (fmc : ℕ) (bits : List Bool) → Content

-- what a unit puts on a tunnel; P stands for a PDU
pub data Load (P : Type 0) : Type 0 where
  -- a packet without a number: N3, forwarding down
  fresh : (packet : List ℕ) → Load P
  -- a packet with its COUNT: forwarding, down and up
  numbered : (sn : SnBits) (count : ℕ) (packet : List ℕ) → Load P
  -- an NR-U data frame: F1-U downlink; one that polls carries nothing
  frame : (poll restart : Bool) (number : ℕ) (pdu : Option P) → Load P
  -- a PDU as it came from the radio: F1-U uplink
  uplink : (pdu : P) → Load P
  -- a delivery status: F1-U uplink
  status : (lost : List (ℕ × ℕ)) (delivered : Option ℕ) → Load P
  -- an End Marker
  end_marker : Load P

-- what a unit takes from a tunnel: a PDU that goes on as it came, or what one says
pub data Taken (P : Type 0) : Type 0 where
  fresh_item : (packet : List ℕ) → Taken P
  numbered_item : (count : Option ℕ) (packet : List ℕ) → Taken P
  frame_item : (poll restart : Bool) (number : ℕ) (pdu : Option P) → Taken P
  uplink_item : (content : Content) → Taken P
  status_item : (lost : List (ℕ × ℕ)) (delivered : Option ℕ) → Taken P
  end_item : Taken P

-- what a unit is given (an offered packet isn't empty)
pub data Input (C P : Type 0) : Type 0 where
  control_input : (from : NodeId) (message : Message C) → Input C P
  packet_input : (teid : ℕ) (item : Taken P) → Input C P
  radio_input : (ue : UeId) (bearer : BearerId) (dir : Dir) (pdu : P) (content : Content) → Input C P
  confirm_input : (ue : UeId) (bearer : BearerId) (dir : Dir) (pdu : P) (content : Content) → Input C P
  offer_input : (ue : UeId) (bearer : BearerId) (packet : List ℕ) → Input C P
  tick_input : Input C P
  order_input : (order : Order) → Input C P

-- what a unit answers; M stands for a control message, L for what is put on a tunnel
pub data Put (M L P : Type 0) : Type 0 where
  control : (to : NodeId) (ue : ℕ) (message : M) → Put M L P
  packet : (to : NodeId) (teid : ℕ) (ue : UeId) (bearer : BearerId) (dir : Dir) (tag : Tag) (load : L) → Put M L P
  radio : (ue : UeId) (bearer : BearerId) (dir : Dir) (epoch : ℕ) (tag : Tag) (pdu : P) → Put M L P
  deliver : (ue : UeId) (bearer : BearerId) (dir : Dir) (count : ℕ) (packet : List ℕ) → Put M L P
  dropped : (reason : DropReason) → Put M L P
  held : (reason : HeldReason) → Put M L P
  opened : (teid : ℕ) → Put M L P
  closed : (teid : ℕ) → Put M L P
  failed : (ue : UeId) (cause : CauseName) → Put M L P
  no : (reason : RefuseReason) → Put M L P

abbrev pub Output : Type 0 → Type 0 → Type 0
Output M P = Put M (Load P) P

-- how messages, containers and PDUs are written and looked at
pub record Way (M C P : Type 0) : Type 0 where
  pub encode : Message C → M
  pub wrap : Token → C
  pub unwrap : C → Option Token
  pub pass : C → M
  pub write : SnBits → Pdu → P
  -- the number of a packet's PDU, as a delivery status reports it; none of a report
  pub number : SnBits → P → Option ℕ

-- what a step comes to: outputs and what is kept then; or a counter would pass its last value
pub data Answer (M P R : Type 0) : Type 0 where
  gives : (outputs : List (Output M P)) (after : R) → Answer M P R
  spent : (counter : ℕ) → Answer M P R

-- the counters, by their numbers
abbrev pub teids_spent : ℕ
teids_spent = 2

abbrev pub instances_spent : ℕ
instances_spent = 3

abbrev pub counts_spent : ℕ
counts_spent = 4

abbrev pub epochs_spent : ℕ
epochs_spent = 5

abbrev pub frames_spent : ℕ
frames_spent = 6

-- one step, and then another
abbrev pub with_outputs : {M P R : Type 0} → List (Output M P) → Answer M P R → Answer M P R
with_outputs outputs (gives more after) = gives (outputs ++ more) after
with_outputs outputs (spent counter) = spent counter

infixl 3 ◌then◌
abbrev pub ◌then◌ : {M P R S : Type 0} → Answer M P R → (R → Answer M P S) → Answer M P S
(gives outputs after) then more = with_outputs outputs (more after)
(spent counter) then more = spent counter

-- nothing is put out, and nothing changes; or one output is all
abbrev pub nothing : {M P R : Type 0} → R → Answer M P R
nothing after = gives [] after

abbrev pub puts : {M P R : Type 0} → Output M P → R → Answer M P R
puts output after = gives (output ∷ []) after

abbrev pub drops : {M P R : Type 0} → DropReason → R → Answer M P R
drops reason after = gives (dropped reason ∷ []) after
