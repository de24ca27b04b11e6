-- Terminals that are set up without messages, as if an attach had run: what each unit keeps of them then. They use no instance.
use Rattle.std.specs.Prelude.{ℕ, ◌+◌, ◌*◌, Bool, true, false, nat_le, List, [], ◌∷◌, Some, None}
use Rattle.std.specs.List.{flat_map}
use Rattle.gnb_types.specs.declared.names.Gnb.{Gnb}
use Rattle.gnb_types.specs.declared.names.NodeId.{NodeId}
use Rattle.gnb_types.specs.declared.names.NodeId.TheVariants.{CuUp as up_id, Du as du_id}
use Rattle.gnb_types.specs.declared.names.BearerId.{BearerId}
use Rattle.gnb_types.specs.declared.plans.Plan.{Plan}
use Rattle.gnb_types.specs.declared.plans.Tunnel.{Tunnel}
use Rattle.gnb_types.specs.Orders.{ue_cmp}
use Rattle.tables.specs.Tables.{put}
use Rattle.unit_defs.specs.declared.StateName.TheVariants as states
use Rattle.unit_defs.specs.Teids.{teids_are_left, teid_after}
use Rattle.unit_defs.specs.CuUpRecords.{CuUpBearer, CuUpContext, CuUp, reserved, pool_blocks}
use Rattle.unit_defs.specs.CuUp.{with_entries as with_up_entries, entries_of, bearers_from, bearers_made as up_bearers, new_flags_of}
use Rattle.unit_defs.specs.Du.{DuContext, Du, with_entries as with_du_entries, bearers_made as du_bearers}
use Rattle.unit_defs.specs.CuCpRecords.{CuCpContext, CuCpRecord, with_terminal}

-- each of the units of a gNB that are set up
abbrev pub units_of : Gnb → List NodeId
units_of gnb = up_id gnb 1 ∷ up_id gnb 2 ∷ du_id gnb 1 ∷ du_id gnb 2 ∷ []

-- ---- CU-UP: N3 and an uplink for each bearer, and the downlink to the DU's TEIDs from this one on

abbrev pub cu_up_has_room : {M C : Type 0} → CuUp M C → Plan → Bool
cu_up_has_room r plan = nat_le (reserved r.contexts + 2 * plan.bearers * plan.quota) pool_blocks

abbrev pub cu_up_has_teids : {M C : Type 0} → CuUp M C → Plan → Bool
cu_up_has_teids r plan = teids_are_left r.next_teid (2 * plan.bearers)

abbrev pub with_downlinks : Gnb → ℕ → ℕ → List (BearerId × CuUpBearer) → List (BearerId × CuUpBearer)
with_downlinks gnb du next [] = []
with_downlinks gnb du next (e ∷ es) =
    (e.0, record e.1 { downlink = Some (record { du = du_id gnb du; teid = next; next = 0 }) }) ∷ with_downlinks gnb du (next + 1) es

abbrev pub cu_up_context : {M C : Type 0} → CuUp M C → Plan → ℕ → CuUpContext
cu_up_context r plan downlink = record {
  instance = r.next_teid;
  sn = plan.sn;
  quota = plan.quota;
  flags = new_flags_of false;
  bearers = with_downlinks r.gnb plan.du downlink (up_bearers false r.next_teid (bearers_from 1 plan.bearers));
}

unfoldable pub cu_up_placed : {M C : Type 0} → CuUp M C → Plan → ℕ → CuUp M C
cu_up_placed r plan downlink =
    let c = cu_up_context r plan downlink in
    record r {
      next_teid = teid_after r.next_teid (2 * plan.bearers);
      tunnels = with_up_entries r.tunnels (flat_map (entries_of plan.ue c.instance) c.bearers);
      contexts = put ue_cmp r.contexts plan.ue c;
    }

-- ---- DU: a downlink for each bearer, and the uplink to every second TEID of the CU-UP from this one on

abbrev pub du_has_teids : {M C : Type 0} → Du M C → Plan → Bool
du_has_teids r plan = teids_are_left r.next_teid plan.bearers

abbrev pub uplinks_from : ℕ → List BearerId → List Tunnel
uplinks_from next [] = []
uplinks_from next (b ∷ bs) = record { bearer = b; teid = next } ∷ uplinks_from (next + 2) bs

abbrev pub du_context : {M C : Type 0} → Du M C → Plan → ℕ → DuContext
du_context r plan uplink = record {
  epoch = 1;
  sn = plan.sn;
  bearers = du_bearers (up_id r.gnb plan.up) r.next_teid (uplinks_from uplink (bearers_from 1 plan.bearers));
}

unfoldable pub du_placed : {M C : Type 0} → Du M C → Plan → ℕ → Du M C
du_placed r plan uplink =
    let c = du_context r plan uplink in
    record r {
      next_teid = teid_after r.next_teid plan.bearers;
      tunnels = with_du_entries plan.ue r.tunnels c.bearers;
      contexts = put ue_cmp r.contexts plan.ue c;
    }

-- ---- CU-CP: the terminal is served, with epoch 1 accepted

abbrev pub cu_cp_context : Plan → CuCpContext
cu_cp_context plan = record {
  state = states.Serving;
  epoch = Some 1;
  finished = true;
  up = plan.up;
  du = plan.du;
  sn = plan.sn;
  bearers = plan.bearers;
  quota = plan.quota;
  by_xn = false;
  attempt = None;
}

unfoldable pub cu_cp_placed : {M C : Type 0} → CuCpRecord M C → Plan → CuCpRecord M C
cu_cp_placed r plan = with_terminal plan.ue r (record { context = Some (cu_cp_context plan); taken = None })

-- ---- all units count as set up

abbrev pub cu_cp_set_up : {M C : Type 0} → CuCpRecord M C → CuCpRecord M C
cu_cp_set_up r = record r { units = units_of r.gnb }

abbrev pub cu_up_set_up : {M C : Type 0} → CuUp M C → CuUp M C
cu_up_set_up r = record r { is_set_up = true }

abbrev pub du_set_up : {M C : Type 0} → Du M C → Du M C
du_set_up r = record r { is_set_up = true }
