-- Short words for the values of the worked scripts.
use Rattle.std.specs.Prelude.{ℕ, zero, suc, ◌+◌, List, [], ◌∷◌, ◌++◌, Option, None, Bool, false, map, if◌then◌else◌}
use Rattle.std.specs.Str.{bytes_eq}
use Rattle.gnb_types.specs.declared.names.Gnb.{Gnb}
use Rattle.gnb_types.specs.declared.names.NodeId.{NodeId}
use Rattle.gnb_types.specs.declared.names.UeId.{UeId}
use Rattle.gnb_types.specs.declared.names.BearerId.{BearerId}
use Rattle.gnb_types.specs.declared.names.Dir.{Dir}
use Rattle.gnb_types.specs.declared.names.SnBits.{SnBits}
use Rattle.gnb_types.specs.declared.keys.TunnelEnd.{TunnelEnd}
use Rattle.gnb_types.specs.declared.keys.EntityKey.{EntityKey}
use Rattle.gnb_types.specs.declared.plans.Plan.{Plan}
use Rattle.gnb_types.specs.declared.plans.Peer.{Peer}
use Rattle.gnb_types.specs.declared.plans.Tunnel.{Tunnel}
use Rattle.gnb_types.specs.declared.plans.SnStatus.{SnStatus}
use Rattle.gnb_types.specs.declared.reasons.DropReason.{DropReason}
use Rattle.message_types.specs.declared.rrc.Token.{Token}
use Rattle.unit_defs.specs.Ways.{Message}
use Rattle.scenario_text.specs.declared.event.Event.{Event}
use Rattle.run_defs.specs.Lines.{RunLine, ControlMessage}
use Rattle.run_defs.specs.States.{Stop}
use Rattle.run_defs.specs.Runs.{Reading, Run, lines_of}

abbrev pub ue : ℕ → UeId
ue n = record { 0 = n }

abbrev pub be : ℕ → BearerId
be n = record { 0 = n }

abbrev pub te : NodeId → ℕ → TunnelEnd
te node teid = record { node = node; teid = teid }

abbrev pub en : ℕ → ℕ → Dir → EntityKey
en u b d = record { ue = ue u; bearer = be b; dir = d }

abbrev pub tn : ℕ → ℕ → Tunnel
tn b teid = record { bearer = be b; teid = teid }

abbrev pub ss : ℕ → ℕ → ℕ → Option (List Bool) → SnStatus
ss b down up bits = record { bearer = be b; dl_next = down; ul_first = up; ul_received = bits }

abbrev pub pe : Gnb → ℕ → Peer
pe gnb up = record { gnb = gnb; up = up }

abbrev pub plan : ℕ → Gnb → ℕ → ℕ → SnBits → ℕ → ℕ → Plan
plan u gnb up du sn bearers quota = record { ue = ue u; gnb = gnb; up = up; du = du; sn = sn; bearers = bearers; quota = quota }

abbrev pub le : NodeId → NodeId → ℕ → Message Token → ControlMessage (Message Token)
le from to u message = record { from = from; to = to; ue = u; message = message }

-- an event with its lines
pub record Shown : Type 0 where
  pub event : Event
  pub lines : List (RunLine (Message Token))

abbrev pub step : Event → List (RunLine (Message Token)) → Shown
step event lines = record { event = event; lines = lines }

-- A worked script: its events with the lines that were worked out, how the run stops, and what the octets from outside are: why they are
-- no message, and whether they are a tunnel's item.
pub record Worked : Type 0 where
  pub steps : List Shown
  pub stop : Option Stop
  pub faults : List (List ℕ × Option DropReason)
  pub items : List (List ℕ × Bool)

abbrev pub fault_of : List (List ℕ × Option DropReason) → List ℕ → Option DropReason
fault_of [] octets = None
fault_of (e ∷ es) octets = if bytes_eq e.0 octets then e.1 else fault_of es octets

abbrev pub is_item_of : List (List ℕ × Bool) → List ℕ → Bool
is_item_of [] octets = false
is_item_of (e ∷ es) octets = if bytes_eq e.0 octets then e.1 else is_item_of es octets

abbrev pub reading : Worked → Reading
reading w = record {
  message_fault = λ from to octets. fault_of w.faults octets;
  is_item = λ link sn octets. is_item_of w.items octets;
}

-- what a run gives: its steps, and how it stopped
pub record Outcome : Type 0 where
  pub steps : List Shown
  pub stop : Option Stop

-- of a worked script's events, by the definitions
abbrev pub outcome : Worked → Outcome
outcome w =
    let t = Run (reading w) (map (λ s. s.event) w.steps) in
    record { steps = map (λ h. step h.event (lines_of h)) t.events; stop = t.stop }

-- as it was worked out
abbrev pub expected : Worked → Outcome
expected w = record { steps = w.steps; stop = w.stop }

-- steps one after another, by their numbers
abbrev pub repeated : (ℕ → List Shown) → ℕ → ℕ → List Shown
repeated f i zero = []
repeated f i (suc count) = f i ++ repeated f (i + 1) count
