-- What rows of a CU-UP and of a DU give to the way down: the frames that are put, the bearer after them, and what goes to the radio.
use Rattle.std.specs.Prelude.{◌≡◌, Bool, true, false, List, [], ◌∷◌, map, Option, Some, None, ⊤}
use Rattle.gnb_types.specs.declared.names.SnBits.{SnBits}
use Rattle.gnb_types.specs.declared.names.Dir.TheVariants.{Dl}
use Rattle.unit_defs.specs.Ways.{Pdu, Load, frame, Output, packet, radio, Way, Answer, gives, spent}
use Rattle.unit_defs.specs.CuUpRecords.{CuUpBearer}
use Rattle.law_downlink_order.specs.path.Paths.{Frame, Sending}

abbrev pub pdu_written : {M C P : Type 0} → Way M C P → SnBits → Option Pdu → Option P
pdu_written way sn None = None
pdu_written way sn (Some pdu) = Some (way.write sn pdu)

abbrev pub written : {M C P : Type 0} → Way M C P → SnBits → Frame → Load P
written way sn f = frame f.poll f.restart f.number (pdu_written way sn f.pdu)

unfoldable pub loads_of : {M P : Type 0} → List (Output M P) → List (Load P)
loads_of [] = []
loads_of (packet to teid ue bearer Dl tag load ∷ outputs) = load ∷ loads_of outputs
loads_of (output ∷ outputs) = loads_of outputs

-- these frames alone are put down, and this is the bearer
unfoldable pub PutsFrames : {M C P : Type 0} → Way M C P → SnBits → Sending → Answer M P CuUpBearer → Type 0
PutsFrames way sn sent (gives outputs b) = (loads_of outputs ≡ map (written way sn) sent.frames) × (b ≡ sent.bearer)
PutsFrames way sn sent (spent counter) = ⊤

unfoldable pub radio_of : {M P : Type 0} → List (Output M P) → List P
radio_of [] = []
radio_of (radio ue bearer Dl epoch tag pdu ∷ outputs) = pdu ∷ radio_of outputs
radio_of (output ∷ outputs) = radio_of outputs

-- what a frame carries, unless it is in a gap
abbrev pub goes_on : {P : Type 0} → Bool → Option P → List P
goes_on true pdu = []
goes_on false None = []
goes_on false (Some pdu) = pdu ∷ []

-- these PDUs go to the radio, and this is kept
unfoldable pub Carries : {M P R : Type 0} → List P → R → Answer M P R → Type 0
Carries pdus r (gives outputs after) = (radio_of outputs ≡ pdus) × (after ≡ r)
Carries pdus r (spent counter) = ⊤
