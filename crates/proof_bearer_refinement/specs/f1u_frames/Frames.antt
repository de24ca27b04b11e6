-- The frames that stand on a DU's tunnel in a run, and those that the orders of a bearer of a CU-UP send there.
use Rattle.std.specs.Prelude.{ℕ, Bool, false, if◌then◌else◌, List, [], ◌∷◌, ◌++◌, Option, Some, None}
use Rattle.gnb_types.specs.declared.names.Gnb.{Gnb}
use Rattle.gnb_types.specs.declared.names.NodeId.TheVariants.{Du as du_id}
use Rattle.gnb_types.specs.declared.names.UeId.{UeId}
use Rattle.gnb_types.specs.declared.names.BearerId.{BearerId}
use Rattle.gnb_types.specs.declared.keys.TunnelEnd.{TunnelEnd}
use Rattle.message_types.specs.declared.rrc.Token.{Token}
use Rattle.unit_defs.specs.Ways.{Message, Pdu, Load, frame, Answer, gives, spent}
use Rattle.law_downlink_order.specs.path.Paths.{Frame, Sending}
use Rattle.proof_cu_up_orders.specs.frame_rows.Sent.{sent_by}
use Rattle.proof_cu_up_orders.specs.frame_rows.Shown.{end_of}
use Rattle.proof_cu_up_orders.specs.bearer_orders.Happenings.{kept_of}
use Rattle.proof_cu_up_orders.specs.context_orders.Orders.{CuUpModel, ContextStep, begun, done}
use Rattle.proof_run_steps.specs.tunnel_steps.Standing.{is_end}
use Rattle.run_defs.specs.Runs.{plain_way}
use Rattle.proof_bearer_refinement.specs.refinement_facts.Refinements.{RunItem}

abbrev pub du_end : Gnb → ℕ → ℕ → TunnelEnd
du_end gnb number teid = record { node = du_id gnb number; teid = teid }

-- ---- what stands there

abbrev pub frame_of : Load Pdu → List Frame
frame_of (frame poll restart number pdu) = record { poll = poll; restart = restart; number = number; pdu = pdu } ∷ []
frame_of load = []

unfoldable pub frames_in : List RunItem → List Frame
frames_in [] = []
frames_in (item ∷ items) = frame_of item.content.says ++ frames_in items

-- ---- what orders send there, one after another: those whose downlink goes there

abbrev pub is_at : TunnelEnd → Option TunnelEnd → Bool
is_at end None = false
is_at end (Some other) = is_end end other.node other.teid

abbrev pub frames_by : TunnelEnd → Sending → Answer (Message Token) Pdu (Option CuUpModel) → List Frame
frames_by end sent (gives outputs None) = []
frames_by end sent (gives outputs (Some q)) = if is_at end (end_of q.bearer.downlink) then sent.frames else []
frames_by end sent (spent counter) = []

unfoldable pub frames_sent : TunnelEnd → UeId → BearerId → List (ContextStep Pdu) → Option CuUpModel → List Frame
frames_sent end ue bearer [] p = []
frames_sent end ue bearer (order ∷ orders) None = frames_sent end ue bearer orders (begun ue bearer order)
frames_sent end ue bearer (order ∷ orders) (Some p) =
    let answer : Answer (Message Token) Pdu (Option CuUpModel) = done plain_way order p in
    frames_by end (sent_by p order) answer ++ frames_sent end ue bearer orders (kept_of (Some p) answer)
