-- What the events of a script look at (TS 38.401, 8): who serves a terminal, when its radio is ready, when it is busy, and when a bearer
-- is quiet; and what a terminal is that is set up without messages.
use Rattle.std.specs.Prelude.{ℕ, ◌==◌, zero, suc, ◌+◌, ◌*◌, Bool, true, false, not, ◌&&◌, ◌||◌, nat_lt, if◌then◌else◌, List, [], ◌∷◌, ◌++◌, map, Option, Some, None, is_some}
use Rattle.std.specs.List.{list_all, list_any, flat_map}
use Rattle.gnb_types.specs.declared.names.Gnb.{Gnb}
use Rattle.gnb_types.specs.declared.names.Gnb.TheVariants.{A, B}
use Rattle.gnb_types.specs.declared.names.NodeId.{NodeId}
use Rattle.gnb_types.specs.declared.names.NodeId.TheVariants.{CuUp, Du, Ue}
use Rattle.gnb_types.specs.declared.names.UeId.{UeId}
use Rattle.gnb_types.specs.declared.names.BearerId.{BearerId}
use Rattle.gnb_types.specs.declared.names.Dir.{Dir}
use Rattle.gnb_types.specs.declared.names.Dir.TheVariants.{Dl, Ul}
use Rattle.gnb_types.specs.declared.keys.TunnelEnd.{TunnelEnd}
use Rattle.gnb_types.specs.declared.keys.EntityKey.{EntityKey}
use Rattle.gnb_types.specs.declared.plans.Plan.{Plan}
use Rattle.gnb_types.specs.declared.plans.Tunnel.{Tunnel}
use Rattle.gnb_types.specs.Orders.{ue_cmp}
use Rattle.tables.specs.Tables.{find, put}
use Rattle.unit_defs.specs.declared.UeState.{UeState}
use Rattle.unit_defs.specs.Messages.{is_same_gnb, shares_interface}
use Rattle.unit_defs.specs.Ue.{UeNode, new_ue, placed, is_connected}
use Rattle.unit_defs.specs.Accessors.{state_of, taken_epoch, place_of, is_set_up, cu_up_has_context, du_epoch, ue_state, ue_home, ue_rests}
use Rattle.unit_defs.specs.Static.{cu_up_placed, du_placed, cu_cp_placed, cu_cp_set_up, cu_up_set_up, du_set_up}
use Rattle.run_defs.specs.Lines.{RunLine, is_quiet, is_busy}
use Rattle.run_defs.specs.Units.{Units, gnb_nodes, cu_cp_of, with_cu_cp, cu_up_of, with_cu_up, du_of, with_du, ue_of, with_ue, is_serving, has_attempt, requests_rest, ups_rest, epoch_at}
use Rattle.transport_defs.specs.declared.Item.{Item}
use Rattle.transport_defs.specs.Links.{in_flight_of, is_of_bearer}
use Rattle.run_defs.specs.States.{State, entity, is_attached, is_gone, book_of}
use Rattle.run_defs.specs.Steps.{with_tunnel}

-- ---- who serves a terminal: the CU-CP that took its token of the greatest epoch; where none did, the one of its plan

abbrev pub later : Option ℕ → Option ℕ → Bool
later None b = is_some b
later (Some a) None = false
later (Some a) (Some b) = nat_lt a b

abbrev pub taken_by : {M C L P : Type 0} → State M C L P → Gnb → UeId → Option ℕ
taken_by s gnb ue = taken_epoch (cu_cp_of s.units gnb) ue

abbrev pub home_of : Option Plan → Gnb
home_of None = A
home_of (Some plan) = plan.gnb

abbrev pub serving_gnb : {M C L P : Type 0} → State M C L P → UeId → Gnb
serving_gnb s ue =
    if later (taken_by s A ue) (taken_by s B ue) then B else
    (if is_some (taken_by s A ue) then A else home_of (find ue_cmp s.plans ue))

-- the numbers of its CU-UP and its DU
abbrev pub serving_place : {M C L P : Type 0} → State M C L P → UeId → Option (ℕ × ℕ)
serving_place s ue = place_of (cu_cp_of s.units (serving_gnb s ue)) ue

-- ---- static: what the units and the run keep of a terminal that is set up without messages

abbrev pub all_set_up : {M C : Type 0} → Units M C → Units M C
all_set_up units = record units {
  cu_cp_a = cu_cp_set_up units.cu_cp_a;
  cu_cp_b = cu_cp_set_up units.cu_cp_b;
  ups = map (λ e. (e.0, cu_up_set_up e.1)) units.ups;
  dus = map (λ e. (e.0, du_set_up e.1)) units.dus;
}

abbrev pub units_placed : {M C : Type 0} → Plan → Units M C → Units M C
units_placed plan units =
    let up = cu_up_of units plan.gnb plan.up in
    let du = du_of units plan.gnb plan.du in
    with_cu_cp (with_du (with_cu_up (with_ue units plan.ue (placed (new_ue plan))) plan.gnb plan.up (cu_up_placed up plan du.next_teid))
    plan.gnb plan.du (du_placed du plan (up.next_teid + 1)))
    plan.gnb (cu_cp_placed (cu_cp_of units plan.gnb) plan)

abbrev pub n3_from : ℕ → ℕ → ℕ → List Tunnel
n3_from bearer teid zero = []
n3_from bearer teid (suc count) = record { bearer = record { 0 = bearer }; teid = teid } ∷ n3_from (bearer + 1) (teid + 2) count

abbrev pub tunnels_from : {L : Type 0} → NodeId → ℕ → ℕ → List (TunnelEnd × List (Item L)) → List (TunnelEnd × List (Item L))
tunnels_from node teid zero tunnels = tunnels
tunnels_from node teid (suc count) tunnels =
    tunnels_from node (teid + 1) count (with_tunnel (record { node = node; teid = teid }) tunnels)

abbrev pub seated : {M C L P : Type 0} → Plan → State M C L P → State M C L P
seated plan s = record s { plans = put ue_cmp s.plans plan.ue plan }

abbrev pub statically : {M C L P : Type 0} → Plan → State M C L P → State M C L P
statically plan s =
    let up = (cu_up_of s.units plan.gnb plan.up).next_teid in
    let du = (du_of s.units plan.gnb plan.du).next_teid in
    record (seated plan s) {
      units = all_set_up (units_placed plan s.units);
      core = record s.core { paths = put ue_cmp s.core.paths plan.ue (record { up = CuUp plan.gnb plan.up; n3 = n3_from 1 up plan.bearers }) };
      tunnels = tunnels_from (Du plan.gnb plan.du) du plan.bearers (tunnels_from (CuUp plan.gnb plan.up) up (2 * plan.bearers) s.tunnels);
      connected = put ue_cmp s.connected plan.ue 1;
    }

-- a unit that the plan names has a context of the terminal
abbrev pub is_held_by_units : {M C : Type 0} → Plan → Units M C → Bool
is_held_by_units plan units =
    is_some (place_of (cu_cp_of units plan.gnb) plan.ue)
    || cu_up_has_context (cu_up_of units plan.gnb plan.up) plan.ue
    || is_some (du_epoch (du_of units plan.gnb plan.du) plan.ue)

-- ---- attach: the units of the plan are set up

abbrev pub has_started : {M C L P : Type 0} → Plan → State M C L P → Bool
has_started plan s =
    is_set_up (cu_cp_of s.units plan.gnb) (CuUp plan.gnb plan.up) && is_set_up (cu_cp_of s.units plan.gnb) (Du plan.gnb plan.du)

-- ---- radios: which are ready, who receives and who sends there, and in which epoch

-- a terminal is connected, and its home DU has its context in its epoch
abbrev pub same_epoch : Option ℕ → ℕ → Bool
same_epoch None epoch = false
same_epoch (Some e) epoch = e == epoch

abbrev pub ready_at : {M C L P : Type 0} → State M C L P → UeId → UeNode → Option NodeId → Option NodeId
ready_at s ue u None = None
ready_at s ue u (Some home) =
    if is_connected u.state && same_epoch (epoch_at s.units home ue) u.epoch then Some home else None

abbrev pub ready_of : {M C L P : Type 0} → State M C L P → UeId → Option UeNode → Option NodeId
ready_of s ue None = None
ready_of s ue (Some u) = ready_at s ue u u.home

-- the home DU of a terminal whose radio is ready
abbrev pub ready_home : {M C L P : Type 0} → State M C L P → UeId → Option NodeId
ready_home s ue = ready_of s ue (ue_of s.units ue)

abbrev pub receiver_by : Dir → UeId → NodeId → NodeId
receiver_by Dl ue home = Ue ue.0
receiver_by Ul ue home = home

abbrev pub receiver_of : EntityKey → NodeId → NodeId
receiver_of key home = receiver_by key.dir key.ue home

abbrev pub sender_by : Dir → UeId → NodeId → NodeId
sender_by Dl ue home = home
sender_by Ul ue home = Ue ue.0

abbrev pub sender_of : EntityKey → NodeId → NodeId
sender_of key home = sender_by key.dir key.ue home

abbrev pub epoch_in : Option ℕ → ℕ
epoch_in None = 0
epoch_in (Some epoch) = epoch

abbrev pub epoch_of : {M C L P : Type 0} → State M C L P → UeId → ℕ
epoch_of s ue = epoch_in (find ue_cmp s.connected ue)

-- ---- control messages

-- a terminal that was never there, or is gone, is given nothing
abbrev pub takes_control_messages : {M C L P : Type 0} → State M C L P → NodeId → Bool
takes_control_messages s (Ue ue) = is_some (ue_of s.units (record { 0 = ue })) && not (is_gone s (record { 0 = ue }))
takes_control_messages s node = true

-- ---- terminals: the state of one, and all that have a tick

abbrev pub state_at : {M C L P : Type 0} → State M C L P → UeId → UeState
state_at s ue = ue_state (ue_of s.units ue)

-- a terminal has a home DU once it was connected
abbrev pub has_home : {M C L P : Type 0} → State M C L P → UeId → Bool
has_home s ue = is_some (ue_home (ue_of s.units ue))

abbrev pub ticking : {M C L P : Type 0} → State M C L P → List NodeId
ticking s = gnb_nodes ++ flat_map (λ e. if is_gone s e.0 then [] else Ue e.0.0 ∷ []) s.units.ues

-- ---- handovers and releases

abbrev pub goal_of : Option Plan → UeId → Gnb → ℕ → ℕ → Option Plan
goal_of None ue gnb up du = None
goal_of (Some plan) ue gnb up du = Some (record plan { gnb = gnb; up = up; du = du })

abbrev pub is_same_place : Gnb → ℕ → Gnb → Option (ℕ × ℕ) → Bool
is_same_place gnb du serving None = false
is_same_place gnb du serving (Some place) = is_same_gnb gnb serving && place.1 == du

abbrev pub is_other_up : Gnb → ℕ → Gnb → Option (ℕ × ℕ) → Bool
is_other_up gnb up serving None = false
is_other_up gnb up serving (Some place) = is_same_gnb gnb serving && not (place.0 == up)

abbrev pub is_busy_with : {M C L P : Type 0} → State M C L P → UeId → Bool
is_busy_with s ue = has_attempt s.units ue || not (is_serving (state_of (cu_cp_of s.units (serving_gnb s ue)) ue))

-- ---- quiet: all is at rest, and nothing of the bearer stands anywhere

abbrev pub is_at_rest : {M C L P : Type 0} → State M C L P → UeId → UeNode → Bool
is_at_rest s ue u = is_connected u.state && not (has_attempt s.units ue) && in_flight_of s.bag ue.0 == 0 && requests_rest s.units ue

abbrev pub links_are_empty : {M C L P : Type 0} → State M C L P → UeId → BearerId → Bool
links_are_empty s ue bearer =
    list_all (λ e. not (list_any (is_of_bearer ue bearer) e.1)) s.tunnels
    && list_all (λ e. not (list_any (is_of_bearer ue bearer) e.1.items)) s.radios

abbrev pub is_quiet_with : {M C L P : Type 0} → State M C L P → UeId → BearerId → Option UeNode → Bool
is_quiet_with s ue bearer None = false
is_quiet_with s ue bearer (Some u) =
    is_at_rest s ue u && links_are_empty s ue bearer && ue_rests u bearer && ups_rest s.units ue bearer

unfoldable pub rests : {M C L P : Type 0} → State M C L P → UeId → BearerId → Bool
rests s ue bearer = is_quiet_with s ue bearer (ue_of s.units ue)

abbrev pub ask_line : {M C L P : Type 0} → State M C L P → UeId → BearerId → RunLine M
ask_line s ue bearer =
    if rests s ue bearer
    then is_quiet ue bearer (book_of s (entity ue bearer Dl)).delivered (book_of s (entity ue bearer Ul)).delivered
    else is_busy ue bearer

-- ---- interfaces

-- a terminal is there while it is attached, each other node always
abbrev pub is_there : {M C L P : Type 0} → State M C L P → NodeId → Bool
is_there s (Ue ue) = is_attached s (record { 0 = ue })
is_there s node = true

abbrev pub is_interface : {M C L P : Type 0} → State M C L P → NodeId → NodeId → Bool
is_interface s from to = shares_interface from to && is_there s from && is_there s to
