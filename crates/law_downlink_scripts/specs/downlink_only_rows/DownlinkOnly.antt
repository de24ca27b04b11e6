-- What units do to the downlink of a bearer while no control message comes: a CU-UP numbers what waits and sends it, in its order; a
-- DU passes on what comes in order; a terminal delivers what it awaits.
use Rattle.std.specs.Prelude.{ℕ, ◌≡◌, ◌+◌, false, List, [], ◌∷◌, ◌++◌, length, Option, Some, ◌⊎◌}
use Rattle.gnb_types.specs.declared.names.UeId.{UeId}
use Rattle.gnb_types.specs.declared.names.BearerId.{BearerId}
use Rattle.gnb_types.specs.declared.names.Dir.TheVariants.{Dl}
use Rattle.gnb_types.specs.declared.outputs.Tag.TheVariants.{Own, Same}
use Rattle.gnb_types.specs.declared.reasons.HeldReason.{HeldReason}
use Rattle.gnb_types.specs.declared.reasons.HeldReason.TheVariants.{Ahead}
use Rattle.gnb_types.specs.Orders.{ue_cmp, bearer_cmp}
use Rattle.tables.specs.Tables.{put}
use Rattle.unit_defs.specs.Ways.{packet_pdu, frame, Output, packet, radio, deliver, held, Way, Answer, gives, spent}
use Rattle.unit_defs.specs.CuUpRecords.{DownlinkTunnel, CuUpBearer, CuUpFlags, CuUpContext, CuUp, CuUpScope}
use Rattle.unit_defs.specs.CuUp.{new_flags_of}
use Rattle.unit_defs.specs.Du.{Du, DuBearer, DuContext, with_bearer as with_du_bearer}
use Rattle.unit_defs.specs.Ue.{UeNode, UeBearer, with_bearer as with_ue_bearer}

-- a context that serves: no target, neither frozen nor released
abbrev pub serving : CuUpFlags
serving = new_flags_of false

abbrev pub next_on : DownlinkTunnel → DownlinkTunnel
next_on d = record d { next = d.next + 1 }

-- the TEIDs of a bearer at a CU-UP
abbrev pub TheEnds : Type 0
TheEnds = Option ℕ × List ℕ × Option ℕ × Option ℕ

abbrev pub ends_of : CuUpBearer → TheEnds
ends_of b = (b.n3, b.uplinks, b.forward_down, b.forward_up)

-- ---- a CU-UP

module _ {M C P : Type 0} (way : Way M C P) where
  -- packets in frames, with the numbers that come next on the downlink, and COUNTs from this one on
  abbrev pub sends : CuUpScope → DownlinkTunnel → ℕ → List (List ℕ) → List (Output M P)
  sends at d count [] = []
  sends at d count (p ∷ ps) =
      packet d.du d.teid at.ue at.bearer Dl (Own count) (frame false false d.next (Some (way.write at.sn (packet_pdu count p))))
      ∷ sends at (next_on d) (count + 1) ps

  -- of what waited the first are numbered and sent, and nothing else is put; the bearer's TEIDs stay
  pub record IsNumbered (at : CuUpScope) (d : DownlinkTunnel) (before after : CuUpBearer) (outputs : List (Output M P)) : Type 0 where
    pub packets : List (List ℕ)
    pub waited : before.waiting ≡ packets ++ after.waiting
    pub sent : outputs ≡ sends at d before.sender.next packets
    pub counts : after.sender.next ≡ before.sender.next + length packets
    pub frames : after.downlink ≡ Some (record d { next = d.next + length packets })
    pub restart : after.restart ≡ false
    pub ends : ends_of after ≡ ends_of before

  abbrev pub Numbers : CuUpScope → DownlinkTunnel → CuUpBearer → Answer M P CuUpBearer → Type 0
  Numbers at d before (gives outputs after) = IsNumbered at d before after outputs
  Numbers at d before (spent counter) = Unit {0}

  -- the CU-UP holds what came, and stays as it was; or its bearer is first so, and then numbers what waits
  abbrev pub IsTaken : CuUp M C → UeId → CuUpContext → CuUpScope → DownlinkTunnel → CuUpBearer → List (Output M P) → CuUp M C → Type 0
  IsTaken r ue c at d first outputs after =
      (b : CuUpBearer) × IsNumbered at d first b outputs
      × (after.contexts ≡ put ue_cmp r.contexts ue (record c { bearers = put bearer_cmp c.bearers at.bearer b }))
      × (after.gnb ≡ r.gnb)

  abbrev pub UpTakes : CuUp M C → UeId → CuUpContext → CuUpScope → DownlinkTunnel → CuUpBearer → Answer M P (CuUp M C) → Type 0
  UpTakes r ue c at d first (gives outputs after) =
      ((reason : HeldReason) × (outputs ≡ held reason ∷ [])) ⊎ IsTaken r ue c at d first outputs after
  UpTakes r ue c at d first (spent counter) = Unit {0}

  -- ---- a DU: the frame whose number it awaits, without a gap

  abbrev pub frame_passed : UeId → BearerId → DuContext → DuBearer → P → Du M C → Answer M P (Du M C)
  frame_passed ue bearer c b pdu r =
      gives (radio ue bearer Dl c.epoch Same pdu ∷ []) (with_du_bearer way ue bearer c (record b { awaited = b.awaited + 1; gap = false }) r)

  -- ---- a terminal: the packet that it awaits, with nothing stored

  abbrev pub delivered_one : UeNode → BearerId → UeBearer → ℕ → UeNode
  delivered_one u bearer b count = with_ue_bearer way u bearer (record b { receiver = record { deliv = count + 1; stored = [] } })

  abbrev pub UeTakes : UeNode → BearerId → UeBearer → ℕ → List ℕ → Answer M P UeNode → Type 0
  UeTakes u bearer b count p (gives outputs after) =
      (outputs ≡ held Ahead ∷ [])
      ⊎ ((outputs ≡ deliver u.plan.ue bearer Dl count p ∷ []) × (after ≡ delivered_one u bearer b count))
  UeTakes u bearer b count p (spent counter) = Unit {0}
