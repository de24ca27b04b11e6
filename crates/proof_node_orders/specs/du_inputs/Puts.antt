-- What a DU puts for one bearer: on uplink tunnels, and on its radio.
use Rattle.std.specs.Prelude.{◌≡◌, ℕ, Bool, true, false, ◌&&◌, ◌||◌, if◌then◌else◌, List, [], ◌∷◌, ◌++◌, Option, Some, None, ⊤}
use Rattle.std.specs.Ordering.{eq_by_cmp}
use Rattle.gnb_types.specs.declared.names.NodeId.{NodeId}
use Rattle.gnb_types.specs.declared.names.UeId.{UeId}
use Rattle.gnb_types.specs.declared.names.BearerId.{BearerId}
use Rattle.gnb_types.specs.declared.names.Dir.TheVariants.{Dl}
use Rattle.gnb_types.specs.Orders.{ue_cmp, bearer_cmp}
use Rattle.unit_defs.specs.Ways.{Pdu, Load, status, end_marker, Output, packet, radio, Way, Answer, gives, spent}
use Rattle.unit_defs.specs.Du.{missing, is_missing}
use Rattle.law_downlink_order.specs.path.Paths.{gap_after}
use Rattle.proof_node_orders.specs.du_inputs.Changes.{DuModel, Change, takes, ends}

-- an item on a tunnel: at which node, with which TEID, and what
pub record OnTunnel : Type 0 where
  pub to : NodeId
  pub teid : ℕ
  pub load : Load Pdu

abbrev pub is_of : UeId → BearerId → UeId → BearerId → Bool
is_of ue bearer other q = eq_by_cmp ue_cmp ue other && eq_by_cmp bearer_cmp bearer q

unfoldable pub tunnels_put : {M : Type 0} → UeId → BearerId → List (Output M Pdu) → List OnTunnel
tunnels_put ue bearer [] = []
tunnels_put ue bearer (packet to teid other q dir tag load ∷ outputs) =
    (if is_of ue bearer other q then record { to = to; teid = teid; load = load } ∷ [] else []) ++ tunnels_put ue bearer outputs
tunnels_put ue bearer (output ∷ outputs) = tunnels_put ue bearer outputs

-- a PDU down, in the radio's epoch
unfoldable pub radio_put : {M : Type 0} → UeId → BearerId → List (Output M Pdu) → List (ℕ × Pdu)
radio_put ue bearer [] = []
radio_put ue bearer (radio other q Dl epoch tag pdu ∷ outputs) =
    (if is_of ue bearer other q then (epoch, pdu) ∷ [] else []) ++ radio_put ue bearer outputs
radio_put ue bearer (output ∷ outputs) = radio_put ue bearer outputs

-- ---- what the rows put. Nothing is put where a context is set up in place of another one: no End Marker says that it ended.

abbrev pub on_uplink : DuModel → Load Pdu → List OnTunnel
on_uplink d load = record { to = d.bearer.up; teid = d.bearer.uplink; load = load } ∷ []

abbrev pub of_number : Option ℕ → DuModel → List OnTunnel
of_number None d = []
of_number (Some number) d = on_uplink d (status [] (Some number))

abbrev pub of_model : {X : Type 0} → (DuModel → List X) → Option DuModel → List X
of_model f None = []
of_model f (Some d) = f d

-- what a frame carries, unless it is in a gap
abbrev pub carried_if : Bool → ℕ → Option Pdu → List (ℕ × Pdu)
carried_if gap epoch None = []
carried_if true epoch (Some pdu) = []
carried_if false epoch (Some pdu) = (epoch, pdu) ∷ []

abbrev pub carried_of : Change → DuModel → List (ℕ × Pdu)
carried_of (takes f) d = carried_if (gap_after d.bearer f f.pdu) d.epoch f.pdu
carried_of change d = []

module _ {M C : Type 0} (way : Way M C Pdu) where
  abbrev pub of_change : Change → DuModel → List OnTunnel
  of_change (takes f) d =
      if is_missing way d.bearer f.number || f.poll then on_uplink d (status (missing way d.bearer f.number) None) else []
  of_change ends d = on_uplink d end_marker
  of_change change d = []

unfoldable pub Puts : {M R : Type 0} → UeId → BearerId → List OnTunnel → List (ℕ × Pdu) → Answer M Pdu R → Type 0
Puts ue bearer ups pdus (gives outputs v) = (tunnels_put ue bearer outputs ≡ ups) × (radio_put ue bearer outputs ≡ pdus)
Puts ue bearer ups pdus (spent counter) = ⊤

-- no packet is put on any tunnel or radio
unfoldable pub AreQuiet : {M : Type 0} → List (Output M Pdu) → Type 0
AreQuiet [] = ⊤
AreQuiet (packet to teid other q dir tag load ∷ outputs) = ⊥
AreQuiet (radio other q dir epoch tag pdu ∷ outputs) = ⊥
AreQuiet (output ∷ outputs) = AreQuiet outputs

unfoldable pub IsQuiet : {M R : Type 0} → Answer M Pdu R → Type 0
IsQuiet (gives outputs v) = AreQuiet outputs
IsQuiet (spent counter) = ⊤
