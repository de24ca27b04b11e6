-- The distributed unit: which input goes to which row, what it keeps, and the rows (TS 38.473, 8.2, 8.3, 8.4; TS 38.425, 5.4).
--
--   order Start                           start       F1 Setup Request
--   F1 Setup Response                     set_up
--   UE Context Setup Request              setup       a context, with a downlink tunnel for each bearer
--   UE Context Modification Request       modify      the epoch, and new downlink tunnels
--   UE Context Release Command            release     End Markers on the uplinks, and the downlinks are closed
--   DL RRC Message Transfer               relay_down  its container, to the terminal
--   a token of a terminal                 relay_up    UL RRC Message Transfer, to the CU-CP
--   a frame of a downlink tunnel          take        its PDU, to the radio; a delivery status for a loss or a poll
--   a PDU from the radio                  pass_up     the same, on the uplink tunnel
--   a PDU confirmed on the radio          confirm     a delivery status with its number
--   a tick                                tick        open requests again
use Rattle.std.specs.Prelude.{◌==◌, ℕ, ◌+◌, ◌-◌, Bool, true, false, not, ◌&&◌, ◌||◌, nat_lt, if◌then◌else◌, List, [], ◌∷◌, ◌++◌, length, map, Option, Some, None}
use Rattle.std.specs.List.{flat_map}
use Rattle.std.specs.Ordering.{nat_cmp}
use Rattle.gnb_types.specs.declared.names.Gnb.{Gnb}
use Rattle.gnb_types.specs.declared.names.NodeId.{NodeId}
use Rattle.gnb_types.specs.declared.names.NodeId.TheVariants.{CuCp, CuUp, Du as du_node_id, Ue}
use Rattle.gnb_types.specs.declared.names.UeId.{UeId}
use Rattle.gnb_types.specs.declared.names.BearerId.{BearerId}
use Rattle.gnb_types.specs.declared.names.SnBits.{SnBits}
use Rattle.gnb_types.specs.declared.names.Dir.TheVariants.{Dl, Ul}
use Rattle.gnb_types.specs.declared.keys.Channel.{Channel}
use Rattle.gnb_types.specs.declared.plans.Peer.{Peer}
use Rattle.gnb_types.specs.declared.plans.Tunnel.{Tunnel}
use Rattle.gnb_types.specs.declared.reasons.DropReason.TheVariants.{NoContext, NoTunnel, Gap, Unexpected}
use Rattle.gnb_types.specs.declared.outputs.Tag.TheVariants.{Absent, Same}
use Rattle.gnb_types.specs.Names.{node_text}
use Rattle.gnb_types.specs.Orders.{ue_cmp, bearer_cmp}
use Rattle.tables.specs.Tables.{find, put, without}
use Rattle.message_types.specs.declared.f1.F1.{F1}
use Rattle.message_types.specs.declared.f1.F1.TheVariants as f1s
use Rattle.message_types.specs.declared.rrc.Token.{Token}
use Rattle.message_types.specs.declared.rrc.Token.TheVariants as tokens
use Rattle.transaction_defs.specs.Callers.{close, due, after_tick, Due, repeats, expires}
use Rattle.gnb_types.specs.declared.inputs.Order.{Order}
use Rattle.gnb_types.specs.declared.inputs.Order.TheVariants as orders
use Rattle.unit_defs.specs.Ways.{Message, f1, rrc, uplink, status, end_marker, Taken, frame_item, Input, control_input, packet_input, radio_input, confirm_input, tick_input, order_input, Output, control, packet, radio, opened, closed, Way, Answer, gives, spent, ◌then◌, nothing, puts, drops, teids_spent}
use Rattle.unit_defs.specs.Transactions.{Kind, request, reply, transfer, kind_of, no_instance, Transactions, no_transactions, ask, advance, replied, on_request, on_reply}
use Rattle.unit_defs.specs.Messages.{channel, is_same_gnb, bearers_of, are_first_bearers}
use Rattle.unit_defs.specs.Teids.{teids_are_left, teid_after, without_each}

-- ---- the record

-- One bearer: the CU-UP and the TEID to which its uplink goes, its own TEID for the downlink, the NR-U number that comes next,
-- and whether payloads are dropped until a frame with the restart mark.
pub record DuBearer : Type 0 where
  pub up : NodeId
  pub uplink : ℕ
  pub downlink : ℕ
  pub awaited : ℕ
  pub gap : Bool

-- the epoch is that of the radio on which its packets go
pub record DuContext : Type 0 where
  pub epoch : ℕ
  pub sn : SnBits
  pub bearers : List (BearerId × DuBearer)

-- whose an open TEID is
pub record DuTunnel : Type 0 where
  pub ue : UeId
  pub bearer : BearerId

pub record Du (M C : Type 0) : Type 0 where
  pub gnb : Gnb
  pub number : ℕ
  pub is_set_up : Bool
  -- the TEID that it gives next, 0 where all were given
  pub next_teid : ℕ
  pub tunnels : List (ℕ × DuTunnel)
  pub contexts : List (UeId × DuContext)
  pub transactions : Transactions M C

abbrev pub new_du : {M C : Type 0} → Gnb → ℕ → Du M C
new_du gnb number = record {
  gnb = gnb;
  number = number;
  is_set_up = false;
  next_teid = 1;
  tunnels = [];
  contexts = [];
  transactions = no_transactions;
}

abbrev pub du_node : {M C : Type 0} → Du M C → NodeId
du_node r = du_node_id r.gnb r.number

abbrev pub context_of : {M C : Type 0} → Du M C → UeId → Option DuContext
context_of r ue = find ue_cmp r.contexts ue

abbrev pub with_context : {M C : Type 0} → UeId → Du M C → DuContext → Du M C
with_context ue r c = record r { contexts = put ue_cmp r.contexts ue c }

abbrev pub with_transactions : {M C : Type 0} → Du M C → Transactions M C → Du M C
with_transactions r t = record r { transactions = t }

-- ---- downlink tunnels: given for each bearer, ascending, and given back

abbrev pub downlinks_of : DuContext → List ℕ
downlinks_of c = map (λ e. e.1.downlink) c.bearers

abbrev pub downlink_list : DuContext → List Tunnel
downlink_list c = map (λ e. record { bearer = e.0; teid = e.1.downlink }) c.bearers

abbrev pub with_entries : UeId → List (ℕ × DuTunnel) → List (BearerId × DuBearer) → List (ℕ × DuTunnel)
with_entries ue table [] = table
with_entries ue table (e ∷ es) = with_entries ue (put nat_cmp table e.1.downlink (record { ue = ue; bearer = e.0 })) es

-- a context's bearers, with downlink TEIDs from the next one on
abbrev pub bearers_made : NodeId → ℕ → List Tunnel → List (BearerId × DuBearer)
bearers_made up next [] = []
bearers_made up next (t ∷ ts) =
    (t.bearer, record { up = up; uplink = t.teid; downlink = next; awaited = 0; gap = false }) ∷ bearers_made up (next + 1) ts

abbrev pub bearers_anew : ℕ → List (BearerId × DuBearer) → List (BearerId × DuBearer)
bearers_anew next [] = []
bearers_anew next (e ∷ es) = (e.0, record e.1 { downlink = next; awaited = 0; gap = false }) ∷ bearers_anew (next + 1) es

module _ {M C P : Type 0} (way : Way M C P) where
  abbrev pub replies : Channel → F1 C → Du M C → Answer M P (Du M C)
  replies ch message r = replied way r.transactions ch (f1 message) then (λ t. nothing (with_transactions r t))

  abbrev pub closings : DuContext → List (Output M P)
  closings c = map (λ teid. closed teid) (downlinks_of c)

  abbrev pub openings : DuContext → List (Output M P)
  openings c = map (λ teid. opened teid) (downlinks_of c)

  -- the old context's tunnels are closed, those of the new one given
  abbrev pub old_downlinks : Option DuContext → List ℕ
  old_downlinks None = []
  old_downlinks (Some c) = downlinks_of c

  abbrev pub replaced : UeId → Option DuContext → DuContext → Du M C → Du M C
  replaced ue old c r = record r {
    next_teid = teid_after r.next_teid (length c.bearers);
    tunnels = with_entries ue (without_each r.tunnels (old_downlinks old)) c.bearers;
    contexts = put ue_cmp r.contexts ue c;
  }

  unfoldable pub replaces : UeId → Option DuContext → DuContext → Du M C → Answer M P (Du M C)
  replaces ue old c r =
      if teids_are_left r.next_teid (length c.bearers)
      then gives (map (λ teid. closed teid) (old_downlinks old) ++ openings c) (replaced ue old c r)
      else spent teids_spent

  -- ---- UE Context Setup: a context whose uplinks end at the CU-UP of `peer`; one that is there is replaced

  abbrev pub context_with : Du M C → ℕ → List Tunnel → SnBits → Peer → DuContext
  context_with r epoch uplinks sn peer = record {
    epoch = epoch;
    sn = sn;
    bearers = bearers_made (CuUp peer.gnb peer.up) r.next_teid uplinks;
  }

  unfoldable pub setup : Channel → UeId → ℕ → ℕ → List Tunnel → SnBits → Peer → Du M C → Answer M P (Du M C)
  setup ch ue instance epoch uplinks sn peer r =
      if not (are_first_bearers (bearers_of uplinks)) then drops Unexpected r else
      (let c = context_with r epoch uplinks sn peer in
      replaces ue (context_of r ue) c r then replies ch (f1s.UeContextSetupResponse ue instance (downlink_list c)))

  -- ---- UE Context Modification: the radio of this epoch, and new downlinks

  abbrev pub context_anew : Du M C → ℕ → DuContext → DuContext
  context_anew r epoch c = record c { epoch = epoch; bearers = bearers_anew r.next_teid c.bearers }

  abbrev pub modify_on : Channel → UeId → ℕ → ℕ → Du M C → Option DuContext → Answer M P (Du M C)
  modify_on ch ue instance epoch r None = drops NoContext r
  modify_on ch ue instance epoch r (Some c) =
      let now = context_anew r epoch c in
      replaces ue (Some c) now r then replies ch (f1s.UeContextModificationResponse ue instance (downlink_list now))

  unfoldable pub modify : Channel → UeId → ℕ → ℕ → Du M C → Answer M P (Du M C)
  modify ch ue instance epoch r = modify_on ch ue instance epoch r (context_of r ue)

  -- ---- UE Context Release

  abbrev pub end_markers : UeId → DuContext → List (Output M P)
  end_markers ue c = map (λ e. packet e.1.up e.1.uplink ue e.0 Ul Absent end_marker) c.bearers

  abbrev pub released_on : UeId → Du M C → Option DuContext → Answer M P (Du M C)
  released_on ue r None = nothing r
  released_on ue r (Some c) = gives (end_markers ue c ++ closings c) (record r {
    tunnels = without_each r.tunnels (downlinks_of c);
    contexts = without ue_cmp r.contexts ue;
  })

  unfoldable pub release : Channel → UeId → ℕ → Du M C → Answer M P (Du M C)
  release ch ue instance r =
      replies ch (f1s.UeContextReleaseComplete ue instance) r then (λ s. released_on ue s (context_of s ue))

  -- ---- RRC: a container goes to the terminal as it came; a token of a terminal goes to the CU-CP

  abbrev pub relayed_down : UeId → C → Du M C → Option DuContext → Answer M P (Du M C)
  relayed_down ue container r None = drops NoContext r
  relayed_down ue container r (Some c) = puts (control (Ue ue.0) ue.0 (way.pass container)) r

  unfoldable pub relay_down : UeId → C → Du M C → Answer M P (Du M C)
  relay_down ue container r = relayed_down ue container r (context_of r ue)

  abbrev pub relayed_up : UeId → Token → Du M C → Option DuContext → Answer M P (Du M C)
  relayed_up ue token r None = drops NoContext r
  relayed_up ue token r (Some c) =
      puts (control (CuCp r.gnb) ue.0 (way.encode (f1 (f1s.UlRrcMessageTransfer ue (way.wrap token))))) r

  unfoldable pub relay_up : UeId → Token → Du M C → Answer M P (Du M C)
  relay_up ue token r = relayed_up ue token r (context_of r ue)

  -- a token is its sender's
  abbrev pub token_ue : Token → UeId
  token_ue (tokens.Command ue epoch gnb du) = ue
  token_ue (tokens.Complete ue epoch) = ue
  token_ue (tokens.Reestablish ue epoch) = ue
  token_ue (tokens.Accepted ue epoch) = ue

  -- ---- F1 Setup

  unfoldable pub start : Du M C → Answer M P (Du M C)
  start r =
      if r.is_set_up then nothing r else
      (ask way r.transactions (channel 0 (CuCp r.gnb))
      (record { message = f1 (f1s.F1SetupRequest no_instance (node_text (du_node r))); deadline = None; awaited = false })
      then (λ a. nothing (with_transactions r a.transactions)))

  unfoldable pub set_up : Channel → Du M C → Answer M P (Du M C)
  set_up ch r =
      let t : Transactions M C = record r.transactions { caller = close r.transactions.caller ch } in
      advance way t ch then (λ a. nothing (record r { is_set_up = true; transactions = a.transactions }))

  -- ---- a control message: of its CU-CP, or of a terminal

  abbrev pub asked : Channel → Message C → Du M C → Answer M P (Du M C)
  asked ch (f1 (f1s.UeContextSetupRequest ue instance epoch uplinks sn peer)) r = setup ch ue instance epoch uplinks sn peer r
  asked ch (f1 (f1s.UeContextModificationRequest ue instance epoch)) r = modify ch ue instance epoch r
  asked ch (f1 (f1s.UeContextReleaseCommand ue instance)) r = release ch ue instance r
  asked ch message r = drops Unexpected r

  abbrev pub transferred : Message C → Du M C → Answer M P (Du M C)
  transferred (f1 (f1s.DlRrcMessageTransfer ue container)) r = relay_down ue container r
  transferred message r = drops Unexpected r

  abbrev pub of_cu_cp : NodeId → Message C → Du M C → Kind → Answer M P (Du M C)
  of_cu_cp from message r (request ue instance) =
      on_request way r r.transactions (channel ue from) instance (λ t. asked (channel ue from) message (with_transactions r t))
  of_cu_cp from message r (reply ue instance) = on_reply way r r.transactions (channel ue from) instance (set_up (channel ue from) r)
  of_cu_cp from message r (transfer ue) = transferred message r

  abbrev pub of_terminal : ℕ → Message C → Du M C → Answer M P (Du M C)
  of_terminal ue (rrc token) r = if (token_ue token).0 == ue then relay_up (token_ue token) token r else drops Unexpected r
  of_terminal ue message r = drops Unexpected r

  unfoldable pub control_received : NodeId → Message C → Du M C → Answer M P (Du M C)
  control_received (CuCp gnb) message r =
      if is_same_gnb gnb r.gnb then of_cu_cp (CuCp gnb) message r (kind_of message) else drops Unexpected r
  control_received (Ue ue) message r = of_terminal ue message r
  control_received from message r = drops Unexpected r

  -- ---- a frame: what is missing before it is told, and a poll is answered; then its PDU goes to the radio

  abbrev pub missing : DuBearer → ℕ → List (ℕ × ℕ)
  missing b number = if nat_lt b.awaited number then (b.awaited, number - 1) ∷ [] else []

  abbrev pub is_missing : DuBearer → ℕ → Bool
  is_missing b number = nat_lt b.awaited number

  abbrev pub told : UeId → BearerId → DuBearer → Bool → ℕ → List (Output M P)
  told ue bearer b poll number =
      if is_missing b number || poll then packet b.up b.uplink ue bearer Dl Absent (status (missing b number) None) ∷ [] else []

  -- a gap lasts until a payload with the restart mark
  abbrev pub gap_after : DuBearer → ℕ → Bool → Option P → Bool
  gap_after b number restart None = b.gap || is_missing b number
  gap_after b number restart (Some pdu) = (b.gap || is_missing b number) && not restart

  abbrev pub carried : UeId → BearerId → DuContext → Bool → Option P → Du M C → Answer M P (Du M C)
  carried ue bearer c gap None r = nothing r
  carried ue bearer c gap (Some pdu) r = if gap then drops Gap r else puts (radio ue bearer Dl c.epoch Same pdu) r

  abbrev pub with_bearer : UeId → BearerId → DuContext → DuBearer → Du M C → Du M C
  with_bearer ue bearer c b r = with_context ue r (record c { bearers = put bearer_cmp c.bearers bearer b })

  abbrev pub frame_received : UeId → BearerId → DuContext → DuBearer → Taken P → Du M C → Answer M P (Du M C)
  frame_received ue bearer c b (frame_item poll restart number pdu) r =
      gives (told ue bearer b poll number) (with_bearer ue bearer c (record b { awaited = number + 1; gap = gap_after b number restart pdu }) r)
      then carried ue bearer c (gap_after b number restart pdu) pdu
  frame_received ue bearer c b item r = drops Unexpected r

  abbrev pub taken_in : UeId → BearerId → DuContext → Taken P → Du M C → Option DuBearer → Answer M P (Du M C)
  taken_in ue bearer c item r None = drops NoContext r
  taken_in ue bearer c item r (Some b) = frame_received ue bearer c b item r

  abbrev pub taken_of : UeId → BearerId → Taken P → Du M C → Option DuContext → Answer M P (Du M C)
  taken_of ue bearer item r None = drops NoContext r
  taken_of ue bearer item r (Some c) = taken_in ue bearer c item r (find bearer_cmp c.bearers bearer)

  abbrev pub taken_on : Taken P → Du M C → Option DuTunnel → Answer M P (Du M C)
  taken_on item r None = drops NoTunnel r
  taken_on item r (Some t) = taken_of t.ue t.bearer item r (context_of r t.ue)

  unfoldable pub take : ℕ → Taken P → Du M C → Answer M P (Du M C)
  take teid item r = taken_on item r (find nat_cmp r.tunnels teid)

  -- ---- the radio: what comes up, and what was confirmed

  abbrev pub of_bearer : Du M C → (DuContext → DuBearer → Answer M P (Du M C)) → DuContext → Option DuBearer → Answer M P (Du M C)
  of_bearer r row c None = drops NoContext r
  of_bearer r row c (Some b) = row c b

  abbrev pub of_context : Du M C → (DuContext → DuBearer → Answer M P (Du M C)) → BearerId → Option DuContext → Answer M P (Du M C)
  of_context r row bearer None = drops NoContext r
  of_context r row bearer (Some c) = of_bearer r row c (find bearer_cmp c.bearers bearer)

  unfoldable pub pass_up : UeId → BearerId → P → Du M C → Answer M P (Du M C)
  pass_up ue bearer pdu r =
      of_context r (λ c b. puts (packet b.up b.uplink ue bearer Ul Same (uplink pdu)) r) bearer (context_of r ue)

  abbrev pub confirmed : UeId → BearerId → Du M C → DuBearer → Option ℕ → Answer M P (Du M C)
  confirmed ue bearer r b None = nothing r
  confirmed ue bearer r b (Some number) = puts (packet b.up b.uplink ue bearer Dl Same (status [] (Some number))) r

  unfoldable pub confirm : UeId → BearerId → P → Du M C → Answer M P (Du M C)
  confirm ue bearer pdu r =
      of_context r (λ c b. confirmed ue bearer r b (way.number c.sn pdu)) bearer (context_of r ue)

  -- ---- a tick, and the table

  abbrev pub due_output : Due M → List (Output M P)
  due_output (repeats ch message) = control ch.peer ch.ue message ∷ []
  due_output (expires ch) = []

  unfoldable pub tick : Du M C → Answer M P (Du M C)
  tick r = gives (flat_map due_output (due r.transactions.caller))
      (with_transactions r (record r.transactions { caller = after_tick r.transactions.caller }))

  abbrev pub ordered : Order → Du M C → Answer M P (Du M C)
  ordered orders.Start r = start r
  ordered order r = drops Unexpected r

  unfoldable pub du_acts : Du M C → Input C P → Answer M P (Du M C)
  du_acts r (control_input from message) = control_received from message r
  du_acts r (packet_input teid item) = take teid item r
  du_acts r (radio_input ue bearer Ul pdu content) = pass_up ue bearer pdu r
  du_acts r (confirm_input ue bearer Dl pdu content) = confirm ue bearer pdu r
  du_acts r tick_input = tick r
  du_acts r (order_input order) = ordered order r
  du_acts r input = drops Unexpected r
