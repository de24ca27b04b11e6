-- A run in which two frames are put on a tunnel.
use Rattle.std.specs.Prelude.{ℕ, false, List, [], ◌∷◌, Some}
use Rattle.gnb_types.specs.declared.names.Gnb.TheVariants.{A}
use Rattle.gnb_types.specs.declared.names.NodeId.TheVariants.{CuUp, Du}
use Rattle.gnb_types.specs.declared.names.Dir.TheVariants.{Dl}
use Rattle.gnb_types.specs.declared.names.SnBits.TheVariants.{Len12}
use Rattle.gnb_types.specs.declared.names.BearerId.{BearerId}
use Rattle.gnb_types.specs.declared.names.UeId.{UeId}
use Rattle.gnb_types.specs.declared.keys.TunnelEnd.{TunnelEnd}
use Rattle.gnb_types.specs.declared.plans.Plan.{Plan}
use Rattle.scenario_text.specs.declared.event.Event.{Event}
use Rattle.scenario_text.specs.declared.event.Event.TheVariants as events
use Rattle.unit_defs.specs.Ways.{packet_pdu, frame}
use Rattle.unit_defs.specs.octet_defs.Writing.{load_octets, written_load}

abbrev pub terminal : UeId
terminal = record { 0 = 1 }

abbrev pub bearer : BearerId
bearer = record { 0 = 1 }

abbrev pub plan : Plan
plan = record { ue = terminal; gnb = A; up = 1; du = 1; sn = Len12; bearers = 1; quota = 4 }

-- the terminal is set up without messages; two packets are offered, and the CU-UP gets them
abbrev pub worked : List Event
worked =
    events.Static plan ∷ events.Offer terminal bearer Dl (7 ∷ []) ∷ events.Get (CuUp A 1) 1
    ∷ events.Offer terminal bearer Dl (8 ∷ []) ∷ events.Get (CuUp A 1) 1 ∷ []

abbrev pub worked_end : TunnelEnd
worked_end = record { node = Du A 1; teid = 1 }

abbrev pub worked_frames : List (List ℕ)
worked_frames =
    load_octets 1 (written_load Len12 (frame false false 0 (Some (packet_pdu 0 (7 ∷ [])))))
    ∷ load_octets 1 (written_load Len12 (frame false false 1 (Some (packet_pdu 1 (8 ∷ []))))) ∷ []
