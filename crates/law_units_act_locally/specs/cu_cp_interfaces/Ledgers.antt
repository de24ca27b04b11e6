-- What a unit keeps of messages, puts of them and is given, where all is of the interface between the unit and the other node.
use Rattle.std.specs.Prelude.{List, Option, Some, None}
use Rattle.std.specs.List.{AllByRecursion}
use Rattle.gnb_types.specs.declared.names.NodeId.{NodeId}
use Rattle.gnb_types.specs.declared.keys.Channel.{Channel}
use Rattle.message_types.specs.declared.rrc.Token.{Token}
use Rattle.transaction_defs.specs.Callers.{Opened, Caller}
use Rattle.transaction_defs.specs.Callees.{Kept}
use Rattle.unit_defs.specs.Ways.{Message, Pdu, Input, control_input, Answer, gives, spent}
use Rattle.unit_defs.specs.Transactions.{Waiting, Transactions, Asked}
use Rattle.law_requests_act_once.specs.channel.Ends.{Sent}
use Rattle.law_requests_act_once.specs.channel.Moves.{sent_by}
use Rattle.law_units_act_locally.specs.cu_cp_interfaces.Interfaces.{IsOf}

abbrev pub Said : Type 0
Said = Message Token

abbrev pub Ledger : Type 0
Ledger = Transactions Said Token

abbrev pub Answered : Type 0 → Type 0
Answered R = Answer Said Pdu R

abbrev pub SentOf : List (Sent Said) → Type 0
SentOf sent = AllByRecursion (λ (s : Sent Said). IsOf s.from s.to s.message) sent

module _ (node : NodeId) where
  abbrev pub Of : Channel → Said → Type 0
  Of c m = IsOf node c.peer m

  abbrev pub IfOf : Channel → Option Said → Type 0
  IfOf c None = Unit {0}
  IfOf c (Some m) = Of c m

  abbrev pub OpenOf : Channel → Opened Said → Type 0
  OpenOf c o = IfOf c o.request

  abbrev pub WaitsOf : Channel → List (Waiting Token) → Type 0
  WaitsOf c ws = AllByRecursion (λ (w : Waiting Token). Of c w.message) ws

  abbrev pub ReplyOf : Channel → Kept Said → Type 0
  ReplyOf c k = IfOf c k.reply

  abbrev pub OpensOf : Caller Said → Type 0
  OpensOf r = AllByRecursion (λ (e : Channel × Opened Said). OpenOf e.0 e.1) r.opened

  pub record Keeps (t : Ledger) : Type 0 where
    pub opened : OpensOf t.caller
    pub waiting : AllByRecursion (λ (e : Channel × List (Waiting Token)). WaitsOf e.0 e.1) t.waiting
    pub replies : AllByRecursion (λ (e : Channel × Kept Said). ReplyOf e.0 e.1) t.callee

  abbrev pub Asks : Asked Said Token → Type 0
  Asks a = Keeps a.transactions

  -- ---- what is put is of the interface to whom it is put; and what is given

  abbrev pub Gives : {R : Type 0} → (R → Type 0) → Answered R → Type 0
  Gives Q (gives os r) = Q r × SentOf (sent_by node os)
  Gives Q (spent k) = Unit {0}

  abbrev pub GivenOf : Input Token Pdu → Type 0
  GivenOf (control_input from message) = IsOf from node message
  GivenOf input = Unit {0}
