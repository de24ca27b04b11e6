-- What a DU's inputs are, as steps of the way down and orders of the uplink.
use Rattle.std.specs.Prelude.{◌≡◌, ℕ, Bool, false, if◌then◌else◌, List, [], ◌∷◌, ◌++◌}
use Rattle.unit_defs.specs.Ways.{Pdu, packet_pdu, report_pdu, Load, uplink, end_marker}
use Rattle.unit_defs.specs.CuUpRecords.{DownlinkTunnel}
use Rattle.bearer_defs.specs.uplink_defs.Models as up
use Rattle.bearer_defs.specs.uplink_defs.Orders as ups
use Rattle.law_downlink_order.specs.path.Paths.{Frame, Path}
use Rattle.law_downlink_order.specs.path.Steps.{Step, loses, takes, begins_anew, fails}
use Rattle.proof_node_orders.specs.du_inputs.Changes.{DuModel, Change, takes as takes_frame, stays}

-- The DU's record is that of the way, but for the CU-UP's end: a way goes on where a terminal comes to another DU of its CU-UP.
pub record IsOn (d : DuModel) (p : Path) : Type 0 where
  pub downlink : p.du.downlink ≡ d.bearer.downlink
  pub awaited : p.du.awaited ≡ d.bearer.awaited
  pub gap : p.du.gap ≡ d.bearer.gap

-- on a downlink tunnel that nobody has sent to yet
pub record IsFresh (d : DuModel) : Type 0 where
  pub awaited : d.bearer.awaited ≡ 0
  pub gap : d.bearer.gap ≡ false

abbrev pub rest_of : {X : Type 0} → List X → List X
rest_of [] = []
rest_of (x ∷ xs) = xs

-- a tunnel is closed: all that stood there is lost
abbrev pub loses_all : List Frame → List Step
loses_all [] = []
loses_all (f ∷ fs) = loses [] f fs ∷ loses_all fs

-- The next frame is taken. Where another tunnel begins, or none, the one before is closed, with all that stands there.
abbrev pub steps_of : Change → Path → List Step
steps_of stays p = []
steps_of (takes_frame f) p = takes f (rest_of p.tunnel) ∷ []
steps_of change p = loses_all p.tunnel

-- In which epochs what is put on a radio comes to the terminal: in a run, in the one in which its radios are connected.
abbrev pub Receives : Type 0
Receives = ℕ → Bool

-- The way begins anew where its CU-UP switches to the DU's tunnel. The terminal may be elsewhere by then.
abbrev pub begins_in : Receives → DuModel → DownlinkTunnel → ℕ → List Bool → List Step
begins_in receives d downlink fmc bits = begins_anew downlink fmc bits ∷ (if receives d.epoch then [] else fails ∷ [])

-- what comes to the terminal, of PDUs that are put in an epoch
unfoldable pub was_received : Receives → List (ℕ × Pdu) → List (ℕ × List ℕ)
was_received receives [] = []
was_received receives ((epoch, packet_pdu count packet) ∷ es) = (if receives epoch then (count, packet) ∷ [] else []) ++ was_received receives es
was_received receives ((epoch, report_pdu fmc bits) ∷ es) = was_received receives es

-- ---- the uplink: a packet is carried to the station's tunnel; an End Marker is put where the tunnel ends

abbrev pub order_of : ℕ → up.Model → ℕ → Load Pdu → List ups.ModelStep
order_of x s teid (uplink (packet_pdu count packet)) = ups.carries teid count packet (rest_of s.air) ∷ []
order_of x s teid end_marker = ups.marks x teid ∷ []
order_of x s teid load = []

-- and what of it stands there: reports and delivery statuses say nothing
abbrev pub item_of : Load Pdu → List up.Item
item_of (uplink (packet_pdu count packet)) = up.numbered count packet ∷ []
item_of end_marker = up.end_marker ∷ []
item_of load = []

-- where it stands: a packet at the station, an End Marker where the tunnel ends
abbrev pub place_of : ℕ → up.Model → Load Pdu → ℕ
place_of x s (uplink pdu) = s.station
place_of x s load = x
