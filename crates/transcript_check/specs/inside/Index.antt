-- Internal: an index is what looking back over these lines gives.
use Rattle.std.specs.Prelude.{◌≡◌, List, [], ◌∷◌, Option, Some, None}
use Rattle.scenario_text.specs.declared.event.Event.{Event}
use Rattle.transcript_defs.specs.declared.line.TextLine.{TextLine}
use Rattle.transcript_defs.specs.Past.{accepted, accepted_at, messages}
use Rattle.transcript_check.specs.declared.index.Index.{Index}
use Rattle.transcript_check.specs.inside.Queues.{AreQueues}
use Rattle.transcript_check.specs.inside.Accepted.{AreAccepted}
use Rattle.transcript_check.specs.inside.Receipts.{AreReceived, AreOffered, AreCounted}

-- of these lines, and of these events, which they show to be accepted
pub record IsIndex (past : List TextLine) (happened : List Event) (index : Index) : Type 0 where
  pub queues : AreQueues past index.queues.queues
  pub control_messages : index.messages ≡ messages past
  pub accepts : AreAccepted happened index.accepted
  pub counted : AreCounted past index.receipts
  pub received : AreReceived past index.receipts.received
  pub offered : AreOffered past happened

-- the accepted events but for that of the newest line, of which the line after it isn't known
unfoldable pub settled : List TextLine → List Event
settled [] = []
settled (line ∷ past) = accepted line past

-- the event of the newest line, where the next one shows it to be accepted
abbrev pub newly_accepted : Option TextLine → TextLine → List Event
newly_accepted None next = []
newly_accepted (Some line) next = accepted_at line next

-- a line that isn't taken yet, after those that were
pub record Next : Type 0 where
  pub past : List TextLine
  pub line : TextLine
