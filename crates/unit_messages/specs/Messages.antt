-- The messages of the code, as the rows of units have them.
use Rattle.std.specs.Prelude.{ℕ, List, Result, Ok, Err}
use Rattle.gnb_types.specs.declared.reasons.DropReason.{DropReason}
use Rattle.unit_defs.specs.Ways as ways
use Rattle.unit_defs.specs.Transactions as kinds
use Rattle.unit_messages.specs.declared.message.Message.{Message}
use Rattle.unit_messages.specs.declared.message.Message.TheVariants.{F1, E1, Xn, Core, Rrc}
use Rattle.unit_messages.specs.declared.kind.Kind.{Kind}
use Rattle.unit_messages.specs.declared.kind.Kind.TheVariants.{Request, Reply, Transfer}

abbrev pub message_as : Message → ways.Message (List ℕ)
message_as (F1 message) = ways.f1 message
message_as (E1 message) = ways.e1 message
message_as (Xn message) = ways.xn message
message_as (Core message) = ways.core message
message_as (Rrc token) = ways.rrc token

abbrev pub kind_as : Kind → kinds.Kind
kind_as (Request ue instance) = kinds.request ue instance
kind_as (Reply ue instance) = kinds.reply ue instance
kind_as (Transfer ue) = kinds.transfer ue

-- what a codec reads
abbrev pub answer_as : Result Message DropReason → Result (ways.Message (List ℕ)) DropReason
answer_as (Ok message) = Ok (message_as message)
answer_as (Err reason) = Err reason
