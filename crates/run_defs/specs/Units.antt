-- The units of both gNBs and the terminals, as one record of their records, and what a run asks of several of them.
use Rattle.std.specs.Prelude.{ℕ, Bool, true, false, ◌&&◌, ◌||◌, List, [], ◌∷◌, ◌++◌, Option, None}
use Rattle.std.specs.List.{list_all}
use Rattle.gnb_types.specs.declared.names.Gnb.{Gnb}
use Rattle.gnb_types.specs.declared.names.Gnb.TheVariants.{A, B}
use Rattle.gnb_types.specs.declared.names.NodeId.{NodeId}
use Rattle.gnb_types.specs.declared.names.NodeId.TheVariants.{CuCp, CuUp as up_id, Du as du_id}
use Rattle.gnb_types.specs.declared.names.UeId.{UeId}
use Rattle.gnb_types.specs.declared.names.BearerId.{BearerId}
use Rattle.gnb_types.specs.Orders.{ue_cmp, node_cmp}
use Rattle.tables.specs.Tables.{find, put, at}
use Rattle.unit_defs.specs.declared.StateName.{StateName}
use Rattle.unit_defs.specs.declared.StateName.TheVariants as states
use Rattle.unit_defs.specs.CuUpRecords.{CuUp}
use Rattle.unit_defs.specs.CuUp.{new_cu_up}
use Rattle.unit_defs.specs.Du.{Du, new_du}
use Rattle.unit_defs.specs.Ue.{UeNode}
use Rattle.unit_defs.specs.CuCpRecords.{CuCpRecord, new_cu_cp}
use Rattle.unit_defs.specs.Accessors.{state_of, cu_cp_rests, cu_up_rests, du_epoch}

pub record Units (M C : Type 0) : Type 0 where
  pub cu_cp_a : CuCpRecord M C
  pub cu_cp_b : CuCpRecord M C
  pub ups : List (NodeId × CuUp M C)
  pub dus : List (NodeId × Du M C)
  pub ues : List (UeId × UeNode)

abbrev pub new_units : {M C : Type 0} → Units M C
new_units = record {
  cu_cp_a = new_cu_cp A;
  cu_cp_b = new_cu_cp B;
  ups = (up_id A 1, new_cu_up A 1) ∷ (up_id A 2, new_cu_up A 2) ∷ (up_id B 1, new_cu_up B 1) ∷ (up_id B 2, new_cu_up B 2) ∷ [];
  dus = (du_id A 1, new_du A 1) ∷ (du_id A 2, new_du A 2) ∷ (du_id B 1, new_du B 1) ∷ (du_id B 2, new_du B 2) ∷ [];
  ues = [];
}

-- the units of the gNBs, in order; the CU-UPs and DUs among them
abbrev pub units_of_gnb : Gnb → List NodeId
units_of_gnb gnb = up_id gnb 1 ∷ up_id gnb 2 ∷ du_id gnb 1 ∷ du_id gnb 2 ∷ []

abbrev pub starting_nodes : List NodeId
starting_nodes = units_of_gnb A ++ units_of_gnb B

abbrev pub gnb_nodes : List NodeId
gnb_nodes = CuCp A ∷ units_of_gnb A ++ CuCp B ∷ units_of_gnb B

-- ---- one of them, and with another one

abbrev pub cu_cp_of : {M C : Type 0} → Units M C → Gnb → CuCpRecord M C
cu_cp_of units A = units.cu_cp_a
cu_cp_of units B = units.cu_cp_b

abbrev pub with_cu_cp : {M C : Type 0} → Units M C → Gnb → CuCpRecord M C → Units M C
with_cu_cp units A r = record units { cu_cp_a = r }
with_cu_cp units B r = record units { cu_cp_b = r }

abbrev pub cu_up_of : {M C : Type 0} → Units M C → Gnb → ℕ → CuUp M C
cu_up_of units gnb number = at node_cmp (new_cu_up gnb number) units.ups (up_id gnb number)

abbrev pub with_cu_up : {M C : Type 0} → Units M C → Gnb → ℕ → CuUp M C → Units M C
with_cu_up units gnb number r = record units { ups = put node_cmp units.ups (up_id gnb number) r }

abbrev pub du_of : {M C : Type 0} → Units M C → Gnb → ℕ → Du M C
du_of units gnb number = at node_cmp (new_du gnb number) units.dus (du_id gnb number)

abbrev pub with_du : {M C : Type 0} → Units M C → Gnb → ℕ → Du M C → Units M C
with_du units gnb number r = record units { dus = put node_cmp units.dus (du_id gnb number) r }

abbrev pub ue_of : {M C : Type 0} → Units M C → UeId → Option UeNode
ue_of units ue = find ue_cmp units.ues ue

abbrev pub with_ue : {M C : Type 0} → Units M C → UeId → UeNode → Units M C
with_ue units ue u = record units { ues = put ue_cmp units.ues ue u }

-- ---- what is asked of several of them at once

abbrev pub is_serving : StateName → Bool
is_serving states.Serving = true
is_serving state = false

-- an attempt is any state but none and Serving
abbrev pub is_attempt : StateName → Bool
is_attempt states.Idle = false
is_attempt states.Serving = false
is_attempt state = true

abbrev pub has_attempt : {M C : Type 0} → Units M C → UeId → Bool
has_attempt units ue = is_attempt (state_of units.cu_cp_a ue) || is_attempt (state_of units.cu_cp_b ue)

-- the CU-CP that a cancel goes to is in a state of a source; whether its attempt is a handover the unit itself reports
abbrev pub is_source_state : StateName → Bool
is_source_state states.Preparing = true
is_source_state states.Prepared = true
is_source_state states.Frozen = true
is_source_state states.Commanded = true
is_source_state state = false

abbrev pub is_source : {M C : Type 0} → CuCpRecord M C → UeId → Bool
is_source r ue = is_source_state (state_of r ue)

-- no request of the terminal is open or waits at a CU-CP
abbrev pub requests_rest : {M C : Type 0} → Units M C → UeId → Bool
requests_rest units ue = cu_cp_rests units.cu_cp_a ue && cu_cp_rests units.cu_cp_b ue

abbrev pub ups_rest : {M C : Type 0} → Units M C → UeId → BearerId → Bool
ups_rest units ue bearer = list_all (λ e. cu_up_rests e.1 ue bearer) units.ups

-- the epoch of a terminal's context at the DU of this name
abbrev pub epoch_at : {M C : Type 0} → Units M C → NodeId → UeId → Option ℕ
epoch_at units (du_id gnb number) ue = du_epoch (du_of units gnb number) ue
epoch_at units node ue = None
