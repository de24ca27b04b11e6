-- What a CU-CP needs that answers an offer late: the request of an offered target is the newest that it took, unanswered; and what
-- it needs that lets a request expire: that it can cancel it.
use Rattle.std.specs.Prelude.{◌≡◌, true, Some}
use Rattle.gnb_types.specs.declared.names.NodeId.{NodeId}
use Rattle.gnb_types.specs.declared.names.NodeId.TheVariants.{CuCp}
use Rattle.gnb_types.specs.declared.names.UeId.{UeId}
use Rattle.gnb_types.specs.declared.keys.Channel.{Channel}
use Rattle.transaction_defs.specs.Callers.{Opened, opened_at, is_last}
use Rattle.unit_defs.specs.declared.StateName.TheVariants as states
use Rattle.unit_defs.specs.Ways.{Message}
use Rattle.unit_defs.specs.Messages.{channel, other_gnb}
use Rattle.unit_defs.specs.Transactions.{reply, kind_of}
use Rattle.unit_defs.specs.CuCpRecords.{Attempt, CuCpContext, CuCpRecord, terminal_of}
use Rattle.unit_defs.specs.CuCpRows.{CuCpScope, other_cu_cp}
use Rattle.unit_defs.specs.CuCp.{at_of}
use Rattle.law_requests_act_once.specs.channel.Replies.{Talk, is_preparation}
use Rattle.law_requests_act_once.specs.channel.Moves.{Net, MayReply}

-- a request that expires at the next tick was to the other CU-CP, for a terminal that has a context here: so a cancel goes with it
abbrev pub Cancels : {M C : Type 0} → CuCpRecord M C → Type 0
Cancels {M = M} r = (c : Channel) (o : Opened M) → opened_at r.transactions.caller c ≡ Some o → is_last o.deadline ≡ true
    → (c.peer ≡ CuCp (other_gnb r.gnb)) × (x : CuCpContext) × ((terminal_of r (record { 0 = c.ue })).context ≡ Some x)

module _ {M C P : Type 0} (talk : Talk M C P) (n : NodeId) where
  -- the offer's request may be answered, by each answer to a preparation
  abbrev pub MayAnswerLate : Net M C → CuCpScope → Attempt → Type 0
  MayAnswerLate net at a = (answer : Message C) → kind_of answer ≡ reply at.ue.0 a.instance → is_preparation answer ≡ true
      → MayReply talk net n (channel at.ue.0 (other_cu_cp at)) a.instance (talk.way.encode answer)

  -- so it is of each terminal whose context is an offer
  abbrev pub Assumes : Net M C → CuCpRecord M C → Type 0
  Assumes net r = (ue : UeId) (c : CuCpContext) (a : Attempt) → (terminal_of r ue).context ≡ Some c → c.attempt ≡ Some a → c.state ≡ states.Offered
      → MayAnswerLate net (at_of r ue) a
