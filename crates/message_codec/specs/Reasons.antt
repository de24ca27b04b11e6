-- Internal: why octets that say no message are dropped; nothing where memory ran out.
use Rattle.std.specs.Prelude.{Option, Some, None}
use Rattle.gnb_types.specs.declared.reasons.DropReason.{DropReason}
use Rattle.gnb_types.specs.declared.reasons.DropReason.TheVariants.{Undecodable, Criticality}
use Rattle.message_octets.specs.declared.error.MsgError.{MsgError}
use Rattle.message_octets.specs.declared.error.MsgError.TheVariants as errors

abbrev pub reason_of : MsgError → Option DropReason
reason_of (errors.Refused bit reason path) = Some Undecodable
reason_of (errors.UnknownProcedure code criticality) = Some Criticality
reason_of (errors.UnknownIe id) = Some Criticality
reason_of errors.Memory = None
