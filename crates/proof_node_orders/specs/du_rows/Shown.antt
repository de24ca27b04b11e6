-- What a row of the DU does to one bearer, beside what its orders do.
use Rattle.std.specs.Prelude.{◌≡◌, ℕ, Bool, true, false, List, [], ◌∷◌, ◌++◌, Option, Some, None, ⊤}
use Rattle.gnb_types.specs.declared.names.UeId.{UeId}
use Rattle.gnb_types.specs.declared.names.BearerId.{BearerId}
use Rattle.gnb_types.specs.declared.names.Dir.TheVariants.{Dl}
use Rattle.gnb_types.specs.declared.outputs.Tag.TheVariants.{Same}
use Rattle.gnb_types.specs.declared.reasons.DropReason.TheVariants.{Gap}
use Rattle.gnb_types.specs.Orders.{bearer_cmp}
use Rattle.tables.specs.Tables.{find}
use Rattle.unit_defs.specs.Ways.{Pdu, Taken, frame_item, Output, radio, dropped, Way, Answer, gives, spent}
use Rattle.unit_defs.specs.Du.{Du, DuBearer, DuContext, context_of, told}
use Rattle.law_downlink_order.specs.path.Paths.{Frame, gap_after}
use Rattle.law_downlink_order.specs.path.Shown.{pdu_written}

-- the DU has this bearer, in this context of the terminal
pub record IsHeld {M C : Type 0} (r : Du M C) (ue : UeId) (bearer : BearerId) (c : DuContext) (b : DuBearer) : Type 0 where
  pub context : context_of r ue ≡ Some c
  pub there : find bearer_cmp c.bearers bearer ≡ Some b

module _ {M C P : Type 0} (way : Way M C P) where
  -- a frame, as the DU takes it
  abbrev pub item : DuContext → Frame → Taken P
  item c f = frame_item f.poll f.restart f.number (pdu_written way c.sn f.pdu)

  -- what a frame carries goes to the radio of the context's epoch, unless it is in a gap
  abbrev pub to_radio : UeId → BearerId → DuContext → Bool → Option Pdu → List (Output M P)
  to_radio ue bearer c gap None = []
  to_radio ue bearer c true (Some pdu) = dropped Gap ∷ []
  to_radio ue bearer c false (Some pdu) = radio ue bearer Dl c.epoch Same (way.write c.sn pdu) ∷ []

  -- what is missing is told, and a poll is answered; then the frame's PDU
  abbrev pub frame_outputs : UeId → BearerId → DuContext → DuBearer → Frame → List (Output M P)
  frame_outputs ue bearer c b f = told way ue bearer b f.poll f.number ++ to_radio ue bearer c (gap_after b f f.pdu) f.pdu

-- exactly these outputs, and the terminal has no context there then
unfoldable pub Ends : {M C P : Type 0} → UeId → List (Output M P) → Answer M P (Du M C) → Type 0
Ends ue outputs (gives others v) = (others ≡ outputs) × (context_of v ue ≡ None)
Ends ue outputs (spent counter) = ⊤

-- this is its context then
unfoldable pub Has : {M C P : Type 0} → UeId → DuContext → Answer M P (Du M C) → Type 0
Has ue c (gives outputs v) = context_of v ue ≡ Some c
Has ue c (spent counter) = ⊤

-- the contexts and the tunnels are as before
unfoldable pub Keeps : {M C P : Type 0} → Du M C → Answer M P (Du M C) → Type 0
Keeps r (gives outputs v) = (v.contexts ≡ r.contexts) × (v.tunnels ≡ r.tunnels)
Keeps r (spent counter) = ⊤

-- a bearer on a new downlink tunnel: nothing is missing there
abbrev pub renewed : DuBearer → ℕ → DuBearer
renewed b teid = record b { downlink = teid; awaited = 0; gap = false }
