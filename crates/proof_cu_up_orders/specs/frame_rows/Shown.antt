-- What a row of a bearer of a CU-UP puts on tunnels to DUs.
use Rattle.std.specs.Prelude.{◌≡◌, ℕ, List, [], ◌∷◌, ◌++◌, map, Option, Some, None}
use Rattle.gnb_types.specs.declared.names.NodeId.{NodeId}
use Rattle.gnb_types.specs.declared.names.Dir.TheVariants.{Dl}
use Rattle.gnb_types.specs.declared.names.SnBits.{SnBits}
use Rattle.gnb_types.specs.declared.keys.TunnelEnd.{TunnelEnd}
use Rattle.unit_defs.specs.Ways.{Load, frame, Output, packet, Way, Answer, gives, spent}
use Rattle.unit_defs.specs.CuUpRecords.{DownlinkTunnel}
use Rattle.proof_cu_up_orders.specs.context_orders.Orders.{CuUpModel}
use Rattle.law_downlink_order.specs.path.Paths.{Frame, Sending}
use Rattle.law_downlink_order.specs.path.Shown.{written}

abbrev pub frame_at : {P : Type 0} → NodeId → ℕ → Load P → List (TunnelEnd × Load P)
frame_at to teid (frame poll restart number pdu) = (record { node = to; teid = teid }, frame poll restart number pdu) ∷ []
frame_at to teid load = []

unfoldable pub frames_of : {M P : Type 0} → List (Output M P) → List (TunnelEnd × Load P)
frames_of [] = []
frames_of (packet to teid ue bearer Dl tag load ∷ outputs) = frame_at to teid load ++ frames_of outputs
frames_of (output ∷ outputs) = frames_of outputs

-- where a downlink goes
abbrev pub end_of : Option DownlinkTunnel → Option TunnelEnd
end_of None = None
end_of (Some l) = Some (record { node = l.du; teid = l.teid })

abbrev pub put_at : {M C P : Type 0} → Way M C P → SnBits → Option TunnelEnd → List Frame → List (TunnelEnd × Load P)
put_at way sn None frames = []
put_at way sn (Some end) frames = map (λ f. (end, written way sn f)) frames

-- The frames of a row are these, all on the tunnel of its downlink, and its downlink and its restart mark are so then; and where the
-- context ends there are none. Or a counter is spent.
abbrev pub PutsSent : {M C P : Type 0} → Way M C P → SnBits → Sending → Answer M P (Option CuUpModel) → Type 0
PutsSent way sn sent (gives outputs None) = frames_of outputs ≡ []
PutsSent way sn sent (gives outputs (Some q)) =
    (frames_of outputs ≡ put_at way sn (end_of q.bearer.downlink) sent.frames)
    × (q.bearer.downlink ≡ sent.bearer.downlink) × (q.bearer.restart ≡ sent.bearer.restart)
PutsSent way sn sent (spent counter) = Unit {0}
