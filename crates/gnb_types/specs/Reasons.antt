-- How the reasons of a transcript are written: each by its own word, a cause in lower case.
use Rattle.std.specs.Prelude.{ℕ, List, codes}
use Rattle.gnb_types.specs.declared.reasons.DropReason.{DropReason}
use Rattle.gnb_types.specs.declared.reasons.DropReason.TheVariants as drop
use Rattle.gnb_types.specs.declared.reasons.HeldReason.{HeldReason}
use Rattle.gnb_types.specs.declared.reasons.HeldReason.TheVariants as held
use Rattle.gnb_types.specs.declared.reasons.CauseName.{CauseName}
use Rattle.gnb_types.specs.declared.reasons.CauseName.TheVariants as cause
use Rattle.gnb_types.specs.declared.reasons.RefuseReason.{RefuseReason}
use Rattle.gnb_types.specs.declared.reasons.RefuseReason.TheVariants as refuse

abbrev pub drop_text : DropReason → List ℕ
drop_text drop.Undecodable = codes "Undecodable"
drop_text drop.Criticality = codes "Criticality"
drop_text drop.NoContext = codes "NoContext"
drop_text drop.NoTunnel = codes "NoTunnel"
drop_text drop.Stale = codes "Stale"
drop_text drop.Busy = codes "Busy"
drop_text drop.Duplicate = codes "Duplicate"
drop_text drop.Gap = codes "Gap"
drop_text drop.Unexpected = codes "Unexpected"

abbrev pub held_text : HeldReason → List ℕ
held_text held.Quota = codes "Quota"
held_text held.Ahead = codes "Ahead"
held_text held.NoStatus = codes "NoStatus"
held_text held.NotArrived = codes "NotArrived"
held_text held.Early = codes "Early"

abbrev pub cause_text : CauseName → List ℕ
cause_text cause.Quota = codes "quota"
cause_text cause.Busy = codes "busy"
cause_text cause.Unit = codes "unit"
cause_text cause.Timeout = codes "timeout"

abbrev pub refuse_text : RefuseReason → List ℕ
refuse_text refuse.Attached = codes "Attached"
refuse_text refuse.NotStarted = codes "NotStarted"
refuse_text refuse.NoBearer = codes "NoBearer"
refuse_text refuse.NoPath = codes "NoPath"
refuse_text refuse.Size = codes "Size"
refuse_text refuse.Quota = codes "Quota"
refuse_text refuse.NoSuch = codes "NoSuch"
refuse_text refuse.Empty = codes "Empty"
refuse_text refuse.NoRadio = codes "NoRadio"
refuse_text refuse.NotAllowed = codes "NotAllowed"
refuse_text refuse.NoUe = codes "NoUe"
refuse_text refuse.NotAccessing = codes "NotAccessing"
refuse_text refuse.NoHome = codes "NoHome"
refuse_text refuse.Busy = codes "Busy"
refuse_text refuse.Same = codes "Same"
refuse_text refuse.TooLate = codes "TooLate"
refuse_text refuse.NoLink = codes "NoLink"
refuse_text refuse.Decodable = codes "Decodable"
