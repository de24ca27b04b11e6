-- What a run looks at in the records of units, one definition for each call by which a unit reports it. `static` reads and writes
-- whole records beside that, and what is said of a state (`Home` in `run_defs`) reads more.
use Rattle.std.specs.Prelude.{◌==◌, ℕ, Bool, true, false, not, ◌&&◌, ◌||◌, nat_lt, length, Option, Some, None, is_some}
use Rattle.gnb_types.specs.declared.names.NodeId.{NodeId}
use Rattle.gnb_types.specs.declared.names.UeId.{UeId}
use Rattle.gnb_types.specs.declared.names.BearerId.{BearerId}
use Rattle.gnb_types.specs.Orders.{ue_cmp, bearer_cmp}
use Rattle.tables.specs.Tables.{find}
use Rattle.unit_defs.specs.declared.StateName.{StateName}
use Rattle.unit_defs.specs.declared.StateName.TheVariants as states
use Rattle.unit_defs.specs.declared.UeState.{UeState}
use Rattle.unit_defs.specs.declared.UeState.TheVariants as ue_states
use Rattle.unit_defs.specs.Transactions.{terminal_rests}
use Rattle.unit_defs.specs.CuUpRecords.{CuUpBearer, CuUpContext, CuUp}
use Rattle.unit_defs.specs.CuUpBearers.{is_closed, no_uplink, hop_is_done}
use Rattle.unit_defs.specs.Du.{DuContext, Du}
use Rattle.unit_defs.specs.Ue.{UeBearer, UeNode}
use Rattle.unit_defs.specs.CuCpRecords.{CuCpContext, CuCpRecord, terminal_of, has_unit}

-- ---- a CU-CP: its state for a terminal, the greatest epoch of a token that it took, the numbers of the CU-UP and the DU of the
-- terminal's context, whether a unit is set up, and whether no request of the terminal is open or waits

abbrev pub state_in : Option CuCpContext → StateName
state_in None = states.Idle
state_in (Some c) = c.state

abbrev pub state_of : {M C : Type 0} → CuCpRecord M C → UeId → StateName
state_of r ue = state_in (terminal_of r ue).context

abbrev pub taken_epoch : {M C : Type 0} → CuCpRecord M C → UeId → Option ℕ
taken_epoch r ue = (terminal_of r ue).taken

abbrev pub place_in : Option CuCpContext → Option (ℕ × ℕ)
place_in None = None
place_in (Some c) = Some (c.up, c.du)

abbrev pub place_of : {M C : Type 0} → CuCpRecord M C → UeId → Option (ℕ × ℕ)
place_of r ue = place_in (terminal_of r ue).context

abbrev pub is_set_up : {M C : Type 0} → CuCpRecord M C → NodeId → Bool
is_set_up r unit = has_unit r.units unit

abbrev pub cu_cp_rests : {M C : Type 0} → CuCpRecord M C → UeId → Bool
cu_cp_rests r ue = terminal_rests r.transactions ue.0

-- ---- a CU-UP: whether it has a context of a terminal; whether a downlink packet of a bearer is unconfirmed; and whether nothing of
-- the bearer is unconfirmed or waits, and no End Marker is awaited for it. The TEID that it gives next is a field of its record.

abbrev pub cu_up_has_context : {M C : Type 0} → CuUp M C → UeId → Bool
cu_up_has_context r ue = is_some (find ue_cmp r.contexts ue)

abbrev pub is_unconfirmed_in : Option CuUpBearer → Bool
is_unconfirmed_in None = false
is_unconfirmed_in (Some b) = nat_lt 0 (length b.sender.unconfirmed)

abbrev pub is_unconfirmed_of : BearerId → Option CuUpContext → Bool
is_unconfirmed_of bearer None = false
is_unconfirmed_of bearer (Some c) = is_unconfirmed_in (find bearer_cmp c.bearers bearer)

abbrev pub is_unconfirmed : {M C : Type 0} → CuUp M C → UeId → BearerId → Bool
is_unconfirmed r ue bearer = is_unconfirmed_of bearer (find ue_cmp r.contexts ue)

abbrev pub is_awaiting : CuUpContext → CuUpBearer → Bool
is_awaiting c b = (c.flags.released && not (is_closed b.n3 && no_uplink b.uplinks)) || not (hop_is_done c.flags b)

abbrev pub up_bearer_rests : CuUpContext → Option CuUpBearer → Bool
up_bearer_rests c None = true
up_bearer_rests c (Some b) = length b.sender.unconfirmed == 0 && length b.waiting == 0 && not (is_awaiting c b)

abbrev pub up_context_rests : BearerId → Option CuUpContext → Bool
up_context_rests bearer None = true
up_context_rests bearer (Some c) = up_bearer_rests c (find bearer_cmp c.bearers bearer)

abbrev pub cu_up_rests : {M C : Type 0} → CuUp M C → UeId → BearerId → Bool
cu_up_rests r ue bearer = up_context_rests bearer (find ue_cmp r.contexts ue)

-- ---- a DU: the epoch of its context of a terminal. The TEID that it gives next is a field of its record.

abbrev pub epoch_in : Option DuContext → Option ℕ
epoch_in None = None
epoch_in (Some c) = Some c.epoch

abbrev pub du_epoch : {M C : Type 0} → Du M C → UeId → Option ℕ
du_epoch r ue = epoch_in (find ue_cmp r.contexts ue)

-- ---- a terminal, if it is there: its state, its home, and whether nothing of a bearer is unconfirmed or waits. Its epoch is a field
-- of its record.

abbrev pub ue_state : Option UeNode → UeState
ue_state None = ue_states.Idle
ue_state (Some u) = u.state

abbrev pub ue_home : Option UeNode → Option NodeId
ue_home None = None
ue_home (Some u) = u.home

abbrev pub ue_bearer_rests : Option UeBearer → Bool
ue_bearer_rests None = true
ue_bearer_rests (Some b) = length b.sender.unconfirmed == 0 && length b.waiting == 0

abbrev pub ue_rests : UeNode → BearerId → Bool
ue_rests u bearer = ue_bearer_rests (find bearer_cmp u.bearers bearer)
