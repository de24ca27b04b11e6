-- Orders: what a node does with its requests and replies, each in the words by which units act; when it may; and what holds of
-- every channel after a list of them.
use Rattle.std.specs.Prelude.{◌≡◌, ◌==◌, ℕ, Bool, true, false, ◌&&◌, ◌||◌, if◌then◌else◌, List, [], ◌∷◌, ◌++◌, Option, Some, None}
use Rattle.std.specs.List.{AllByRecursion}
use Rattle.gnb_types.specs.declared.names.NodeId.{NodeId}
use Rattle.gnb_types.specs.declared.names.UeId.{UeId}
use Rattle.gnb_types.specs.declared.keys.Channel.{Channel}
use Rattle.transaction_defs.specs.Callers.{Opened, opened_at, is_awaited, close, after_tick, is_last}
use Rattle.transaction_defs.specs.Callees.{new, newest, verdict, taken, kept_reply}
use Rattle.unit_defs.specs.Ways.{Message, Output, control, Answer, gives, spent, ◌then◌, nothing, puts}
use Rattle.unit_defs.specs.Transactions.{request, reply, transfer, with_instance, Waiting, Transactions, no_transactions, ask, ask_at_once, advance, with_waiting, replied, replied_late, answered_again}
use Rattle.unit_defs.specs.CuCpRecords.{forgotten}
use Rattle.law_requests_act_once.specs.channel.Replies.{Talk}
use Rattle.law_requests_act_once.specs.channel.Ends.{Route, at_initiator, at_responder, same_node, asking_at, answering_at, Act, Ends, Sent, asked, told, Put, Once}

pub data Move (M C : Type 0) : Type 0 where
  -- a request is put, or waits
  asks : (channel : Channel) (waiting : Waiting C) → Move M C
  -- a cancel, which doesn't wait
  asks_at_once : (channel : Channel) (waiting : Waiting C) → Move M C
  -- what waits longest is put, where none is open
  advances : (channel : Channel) → Move M C
  -- other requests wait than before
  waits_as : (channel : Channel) (waiting : List (Waiting C)) → Move M C
  -- the reply to the open request was taken
  closes : (channel : Channel) → Move M C
  -- a tick: what expires is closed; and a request that was put before is put again
  ages : Move M C
  repeats : (channel : Channel) (message : M) → Move M C
  -- a new request is taken; it is answered, at once or later, and answered again
  takes : (channel : Channel) (instance : ℕ) (message : M) → Move M C
  replies : (channel : Channel) (message : Message C) → Move M C
  replies_late : (channel : Channel) (instance : ℕ) (message : Message C) → Move M C
  replies_again : (channel : Channel) → Move M C
  -- a message is put that is no request and no reply; and no attempt awaits what waits of a terminal's requests any more
  transfers : (to : NodeId) (ue : ℕ) (message : M) → Move M C
  forgets : (ue : UeId) → Move M C

-- What every node keeps of its requests and replies, and all messages ever put. Beside it stand, of each channel, what the
-- responder acted on, and whether the open request expired and its cancel isn't put yet.
pub record Net (M C : Type 0) : Type 0 where
  pub nodes : NodeId → Transactions M C
  pub bag : List (Sent M)
  pub acts : Route → List (Act M)
  pub expired : Route → Bool

abbrev pub new_net : {M C : Type 0} → Net M C
new_net = record { nodes = λ n. no_transactions; bag = []; acts = λ r. []; expired = λ r. false }

abbrev pub ends_of : {M C : Type 0} → Net M C → Route → Ends M C
ends_of net r = record {
  asking = asking_at (net.nodes r.from) (at_initiator r);
  answering = answering_at (net.nodes r.to) (at_responder r);
  acts = net.acts r;
  expired = net.expired r;
}

-- the channel of a node that asks, and of one that answers
abbrev pub asked_by : NodeId → Channel → Route
asked_by n c = record { from = n; to = c.peer; ue = c.ue }

abbrev pub answered_by : NodeId → Channel → Route
answered_by n c = record { from = c.peer; to = n; ue = c.ue }

abbrev pub same_route : Route → Route → Bool
same_route r q = same_node r.from q.from && (same_node r.to q.to && r.ue == q.ue)

-- a function with another value in one place
abbrev pub with_node : {X : Type 0} → (NodeId → X) → NodeId → X → NodeId → X
with_node f n x q = if same_node q n then x else f q

abbrev pub with_route : {X : Type 0} → (Route → X) → Route → X → Route → X
with_route f r x q = if same_route q r then x else f q

abbrev pub sent_by : {M P : Type 0} → NodeId → List (Output M P) → List (Sent M)
sent_by n [] = []
sent_by n (control to ue message ∷ outputs) = record { from = n; to = to; ue = ue; message = message } ∷ sent_by n outputs
sent_by n (output ∷ outputs) = sent_by n outputs

abbrev pub expires_now : {M : Type 0} → Option (Opened M) → Bool
expires_now None = false
expires_now (Some o) = is_last o.deadline

module _ {M C P : Type 0} (talk : Talk M C P) where
  -- ---- what a move comes to

  abbrev pub moved : Transactions M C → Move M C → Answer M P (Transactions M C)
  moved t (asks c w) = ask talk.way t c w then (λ a. nothing a.transactions)
  moved t (asks_at_once c w) = ask_at_once talk.way t c w then (λ a. nothing a.transactions)
  moved t (advances c) = advance talk.way t c then (λ a. nothing a.transactions)
  moved t (waits_as c ws) = nothing (with_waiting t c ws)
  moved t (closes c) = nothing (record t { caller = close t.caller c })
  moved t ages = nothing (record t { caller = after_tick t.caller })
  moved t (repeats c message) = puts (control c.peer c.ue message) t
  moved t (takes c instance message) = nothing (record t { callee = taken t.callee c instance })
  moved t (replies c message) = replied talk.way t c message
  moved t (replies_late c instance message) = replied_late talk.way t c instance message
  moved t (replies_again c) = answered_again talk.way t c (kept_reply t.callee c)
  moved t (transfers to ue message) = puts (control to ue message) t
  moved t (forgets ue) = nothing (forgotten talk.way ue t)

  abbrev pub acts_after : Net M C → NodeId → Move M C → Route → List (Act M)
  acts_after net n (takes c instance message) =
      with_route net.acts (answered_by n c) (record { instance = instance; message = message } ∷ net.acts (answered_by n c))
  acts_after net n move = net.acts

  abbrev pub expired_after : Net M C → NodeId → Move M C → Route → Bool
  expired_after net n (asks_at_once c w) = with_route net.expired (asked_by n c) false
  expired_after net n ages = λ r. (same_node r.from n && expires_now (opened_at (net.nodes n).caller (at_initiator r))) || net.expired r
  expired_after net n move = net.expired

  -- where a counter is spent, the run stops
  abbrev pub after_answer : Net M C → NodeId → Move M C → Answer M P (Transactions M C) → Net M C
  after_answer net n move (gives outputs t) = record {
    nodes = with_node net.nodes n t;
    bag = net.bag ++ sent_by n outputs;
    acts = acts_after net n move;
    expired = expired_after net n move;
  }
  after_answer net n move (spent counter) = net

  abbrev pub after_move : Net M C → NodeId → Move M C → Net M C
  after_move net n move = after_answer net n move (moved (net.nodes n) move)

  -- ---- when a move may be made

  -- with each instance it is a request of that instance
  abbrev pub IsRequest : ℕ → Waiting C → Type 0
  IsRequest ue w = (i : ℕ) → talk.kind (talk.way.encode (with_instance i w.message)) ≡ request ue i

  abbrev pub IsCancel : Waiting C → Type 0
  IsCancel w = (i : ℕ) → talk.overtakes (talk.way.encode (with_instance i w.message)) ≡ true

  -- the newest request that the node took has this instance and no reply, and the message is a reply to it
  pub record MayReply (net : Net M C) (n : NodeId) (c : Channel) (i : ℕ) (y : M) : Type 0 where
    pub is_newest : newest (net.nodes n).callee c ≡ Some i
    pub is_unanswered : kept_reply (net.nodes n).callee c ≡ None
    pub is_reply : talk.kind y ≡ reply c.ue i
    pub request : M
    pub was_put : Put talk net.bag (answered_by n c) (asked i request)
    pub fits : talk.answers request y ≡ true

  abbrev pub May : Net M C → NodeId → Move M C → Type 0
  May net n (asks c w) = IsRequest c.ue w × (net.expired (asked_by n c) ≡ false)
  May net n (asks_at_once c w) = IsRequest c.ue w × IsCancel w
  May net n (advances c) = net.expired (asked_by n c) ≡ false
  May net n (waits_as c ws) = AllByRecursion (IsRequest c.ue) ws
  May net n (closes c) = (i : ℕ) × (y : M) × (is_awaited (net.nodes n).caller c i ≡ true) × Put talk net.bag (asked_by n c) (told i y)
  May net n ages = Unit {0}
  May net n (repeats c message) = (i : ℕ) × Put talk net.bag (asked_by n c) (asked i message)
  May net n (takes c i message) = (verdict (net.nodes n).callee c i ≡ new) × Put talk net.bag (answered_by n c) (asked i message)
  May net n (replies c message) = (i : ℕ) × MayReply net n c i (talk.way.encode message)
  May net n (replies_late c i message) = MayReply net n c i (talk.way.encode message)
  May net n (replies_again c) = Unit {0}
  May net n (transfers to ue message) = (u : ℕ) × (talk.kind message ≡ transfer u)
  May net n (forgets ue) = Unit {0}

  -- ---- lists of orders

  pub record Order : Type 0 where
    pub node : NodeId
    pub move : Move M C

  abbrev pub after : Net M C → List Order → Net M C
  after net [] = net
  after net (o ∷ os) = after (after_move net o.node o.move) os

  abbrev pub MayAll : Net M C → List Order → Type 0
  MayAll net [] = Unit {0}
  MayAll net (o ∷ os) = May net o.node o.move × MayAll (after_move net o.node o.move) os

  -- a channel after a list of orders, exactly once
  abbrev pub OnceAfter : List Order → Route → Type 0
  OnceAfter orders r = Once talk (ends_of (after new_net orders) r) (Put talk (after new_net orders).bag r)
