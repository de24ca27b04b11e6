-- Scripts of a bearer with 12-bit numbers, each event with the lines that were worked out for it. PDUs are those of TS 38.323, 6.2.2.2: the
-- D/C bit and the number, and then the packet.
use Rattle.std.specs.Prelude.{ℕ, List, [], ◌∷◌, map, Option, None}
use Rattle.gnb_types.specs.declared.names.SnBits.TheVariants.{Len12}
use Rattle.dup_defs.specs.declared.types.leg.Leg.{Leg}
use Rattle.dup_defs.specs.declared.types.leg.Leg.TheVariants.{First, Second}
use Rattle.dup_defs.specs.declared.types.leg.Mode.TheVariants as modes
use Rattle.dup_defs.specs.declared.types.event.DupEvent.{DupEvent}
use Rattle.dup_defs.specs.declared.types.event.DupEvent.TheVariants.{Offer, Carry, Confirm, Fail, Mend, SetMode, Drain, Ask}
use Rattle.dup_defs.specs.declared.types.line.DupLine.{DupLine}
use Rattle.dup_defs.specs.declared.types.line.DupLine.TheVariants.{Put, Got, Deliver, DropDuplicate, Lost, Refused, Quiet, Busy}
use Rattle.dup_defs.specs.declared.types.line.DupRefusal.TheVariants.{Quota, Down, Empty, Up, Same}
use Rattle.dup_defs.specs.declared.types.stop.DupEnd.{DupEnd}
use Rattle.dup_defs.specs.dup_run_defs.Steps.{DupHappening, DupScript, script_of}

-- an event, and its lines
abbrev pub happens : DupEvent → List DupLine → DupHappening
happens event lines = record { event = event; printed = lines }

pub record Outcome : Type 0 where
  pub happened : List DupHappening
  pub ended : Option DupEnd

pub record Row : Type 0 where
  pub quota : ℕ
  pub happened : List DupHappening

abbrev pub run_of : Row → DupScript
run_of row = script_of Len12 row.quota (map (λ h. h.event) row.happened)

abbrev pub outcome : Row → Outcome
outcome row = record { happened = (run_of row).happened; ended = (run_of row).ended }

abbrev pub expected : Row → Outcome
expected row = record { happened = row.happened; ended = None }

-- ---- what stands in several rows: a packet of one octet, its PDU, and the lines of both

abbrev pub pdu : ℕ → ℕ → List ℕ
pdu count octet = 128 ∷ count ∷ octet ∷ []

abbrev pub put : Leg → ℕ → ℕ → DupLine
put leg count octet = Put leg count (pdu count octet)

abbrev pub got : Leg → ℕ → ℕ → DupLine
got leg count octet = Got leg count (pdu count octet)

abbrev pub delivers : ℕ → ℕ → DupLine
delivers count octet = Deliver count (octet ∷ [])

abbrev pub offers : ℕ → List DupLine → DupHappening
offers octet lines = happens (Offer (octet ∷ [])) lines

-- ---- both copies come, and the second is dropped

abbrev pub two_copies : Row
two_copies = record {
  quota = 4;
  happened =
      offers 1 (put First 0 1 ∷ put Second 0 1 ∷ [])
      ∷ happens (Carry Second) (got Second 0 1 ∷ delivers 0 1 ∷ [])
      ∷ happens (Carry First) (got First 0 1 ∷ DropDuplicate ∷ [])
      ∷ happens (Confirm Second) []
      ∷ happens (Confirm First) []
      ∷ happens Ask (Quiet 1 ∷ [])
      ∷ [];
}

-- ---- legs fail one after the other, and one is mended

abbrev pub failing_legs : Row
failing_legs = record {
  quota = 4;
  happened =
      offers 1 (put First 0 1 ∷ put Second 0 1 ∷ [])
      ∷ offers 2 (put First 1 2 ∷ put Second 1 2 ∷ [])
      ∷ happens (Fail First) (Lost First 2 ∷ [])
      ∷ happens (Carry Second) (got Second 0 1 ∷ delivers 0 1 ∷ [])
      ∷ happens (Fail Second) (Lost Second 2 ∷ [])
      ∷ happens (Carry Second) (Refused Down ∷ [])
      ∷ happens (Mend First) (put First 0 1 ∷ put First 1 2 ∷ [])
      ∷ happens (Carry First) (got First 0 1 ∷ DropDuplicate ∷ [])
      ∷ happens (Carry First) (got First 1 2 ∷ delivers 1 2 ∷ [])
      ∷ happens Drain []
      ∷ happens Ask (Quiet 2 ∷ [])
      ∷ [];
}

-- ---- what one leg confirmed is taken off the other, unless it was carried there

abbrev pub confirmed_elsewhere : Row
confirmed_elsewhere = record {
  quota = 4;
  happened =
      offers 1 (put First 0 1 ∷ put Second 0 1 ∷ [])
      ∷ offers 2 (put First 1 2 ∷ put Second 1 2 ∷ [])
      ∷ happens (Confirm First) (Refused Empty ∷ [])
      ∷ happens (Carry First) (got First 0 1 ∷ delivers 0 1 ∷ [])
      ∷ happens (Confirm First) (Lost Second 1 ∷ [])
      ∷ happens (Carry Second) (got Second 1 2 ∷ delivers 1 2 ∷ [])
      ∷ happens (Carry Second) (Refused Empty ∷ [])
      ∷ happens (Carry First) (got First 1 2 ∷ DropDuplicate ∷ [])
      ∷ happens (Confirm First) []
      ∷ happens Ask (Busy ∷ [])
      ∷ happens Drain []
      ∷ happens Ask (Quiet 2 ∷ [])
      ∷ [];
}

-- ---- the mode changes: the leaving leg loses what it holds before the entering one gets all that is unconfirmed

abbrev pub changing_modes : Row
changing_modes = record {
  quota = 4;
  happened =
      offers 1 (put First 0 1 ∷ put Second 0 1 ∷ [])
      ∷ happens (SetMode modes.Both) (Refused Same ∷ [])
      ∷ happens (SetMode modes.First) (Lost Second 1 ∷ [])
      ∷ offers 2 (put First 1 2 ∷ [])
      ∷ happens (Carry First) (got First 0 1 ∷ delivers 0 1 ∷ [])
      ∷ happens (SetMode modes.Second) (Lost First 2 ∷ put Second 0 1 ∷ put Second 1 2 ∷ [])
      ∷ happens (SetMode modes.First) (Lost Second 2 ∷ put First 0 1 ∷ put First 1 2 ∷ [])
      ∷ happens (SetMode modes.Both) (put Second 0 1 ∷ put Second 1 2 ∷ [])
      ∷ happens Drain (got First 0 1 ∷ DropDuplicate ∷ got First 1 2 ∷ delivers 1 2 ∷ Lost Second 1 ∷ Lost Second 1 ∷ [])
      ∷ happens Ask (Quiet 2 ∷ [])
      ∷ [];
}

-- ---- with no leg up packets get COUNTs and go nowhere; a leg of no mode gets nothing when it is mended

abbrev pub no_leg_up : Row
no_leg_up = record {
  quota = 4;
  happened =
      happens (Fail First) []
      ∷ happens (Fail First) (Refused Down ∷ [])
      ∷ happens (SetMode modes.First) []
      ∷ offers 1 []
      ∷ offers 2 []
      ∷ happens Drain []
      ∷ happens Ask (Busy ∷ [])
      ∷ happens (Mend Second) (Refused Up ∷ [])
      ∷ happens (Fail Second) []
      ∷ happens (Mend Second) []
      ∷ happens (Mend First) (put First 0 1 ∷ put First 1 2 ∷ [])
      ∷ happens Drain (got First 0 1 ∷ delivers 0 1 ∷ got First 1 2 ∷ delivers 1 2 ∷ [])
      ∷ happens Ask (Quiet 2 ∷ [])
      ∷ [];
}

-- ---- as many as the quota are unconfirmed

abbrev pub full_quota : Row
full_quota = record {
  quota = 4;
  happened =
      happens (SetMode modes.Second) []
      ∷ offers 1 (put Second 0 1 ∷ [])
      ∷ offers 2 (put Second 1 2 ∷ [])
      ∷ offers 3 (put Second 2 3 ∷ [])
      ∷ offers 4 (put Second 3 4 ∷ [])
      ∷ offers 5 (Refused Quota ∷ [])
      ∷ happens (Carry Second) (got Second 0 1 ∷ delivers 0 1 ∷ [])
      ∷ offers 5 (Refused Quota ∷ [])
      ∷ happens (Confirm Second) []
      ∷ offers 5 (put Second 4 5 ∷ [])
      ∷ happens Drain
      (got Second 1 2 ∷ delivers 1 2 ∷ got Second 2 3 ∷ delivers 2 3 ∷ got Second 3 4 ∷ delivers 3 4 ∷ got Second 4 5 ∷ delivers 4 5 ∷ [])
      ∷ happens Ask (Quiet 5 ∷ [])
      ∷ [];
}

abbrev pub all : List Row
all = two_copies ∷ failing_legs ∷ confirmed_elsewhere ∷ changing_modes ∷ no_leg_up ∷ full_quota ∷ []
