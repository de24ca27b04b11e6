-- A unit's step as moves on channels: what it puts of control messages, and what it keeps of requests and replies then, are those
-- of a list of moves, each of which may be made.
use Rattle.std.specs.Prelude.{◌≡◌, ℕ, false, List, ◌++◌, map, Some, None}
use Rattle.std.specs.List.{AllByRecursion, Contains}
use Rattle.gnb_types.specs.declared.names.NodeId.{NodeId}
use Rattle.gnb_types.specs.declared.keys.Channel.{Channel}
use Rattle.transaction_defs.specs.Callers.{Opened, opened_at, is_last}
use Rattle.unit_defs.specs.Ways.{Message, Input, control_input, Answer, gives, spent}
use Rattle.unit_defs.specs.Transactions.{transfer, Waiting, Transactions, kind_of}
use Rattle.law_requests_act_once.specs.channel.Replies.{Talk, answers, overtakes}
use Rattle.law_requests_act_once.specs.channel.Ends.{same_node, Asking, asking_at, Sent}
use Rattle.law_requests_act_once.specs.channel.Moves.{Move, ages, Net, new_net, asked_by, sent_by, Order, after, MayAll}

-- a move is no tick; none of these is
abbrev pub IsTickless : {M C : Type 0} → Move M C → Type 0
IsTickless ages = ⊥
IsTickless move = Unit {0}

abbrev pub AreTickless : {M C : Type 0} → List (Move M C) → Type 0
AreTickless moves = AllByRecursion IsTickless moves

-- a request that is open, and none that waits, has a deadline; so it is of all that is asked
abbrev pub HasNoDeadline : {C : Type 0} → Waiting C → Type 0
HasNoDeadline w = w.deadline ≡ None

abbrev pub IsUndated : {M C : Type 0} → Asking M C → Type 0
IsUndated {M = M} a = ((o : Opened M) → a.opened ≡ Some o → o.deadline ≡ None) × AllByRecursion HasNoDeadline a.waits

abbrev pub AreUndated : {M C : Type 0} → Transactions M C → Type 0
AreUndated t = (c : Channel) → IsUndated (asking_at t c)

-- at no tick to come next a request expires
abbrev pub NoneDue : {M C : Type 0} → Transactions M C → Type 0
NoneDue {M = M} t = (c : Channel) (o : Opened M) → opened_at t.caller c ≡ Some o → is_last o.deadline ≡ false

module _ {M C P : Type 0} (talk : Talk M C P) where
  -- what is read of a message that is written is what it says
  pub record ReadsWell : Type 0 where
    pub kinds : (m : Message C) → talk.kind (talk.way.encode m) ≡ kind_of m
    pub answers_are : (a b : Message C) → talk.answers (talk.way.encode a) (talk.way.encode b) ≡ answers a b
    pub passes : (c : C) → (u : ℕ) × (talk.kind (talk.way.pass c) ≡ transfer u)
    pub overtakes_is : (m : Message C) → talk.overtakes (talk.way.encode m) ≡ overtakes m

  abbrev pub orders_of : NodeId → List (Move M C) → List (Order talk)
  orders_of n moves = map (λ m. record { node = n; move = m }) moves

  -- The moves of a node: each may be made; then the node keeps t, all others what they kept, and these messages more were put.
  pub record Plays (net : Net M C) (n : NodeId) (t : Transactions M C) (sent : List (Sent M)) (moves : List (Move M C)) : Type 0 where
    pub may : MayAll talk net (orders_of n moves)
    pub node : (after talk net (orders_of n moves)).nodes n ≡ t
    pub others : (m : NodeId) → same_node m n ≡ false → (after talk net (orders_of n moves)).nodes m ≡ net.nodes m
    pub bag : (after talk net (orders_of n moves)).bag ≡ net.bag ++ sent

  -- an answer is that of moves, none of which is a tick
  abbrev pub IsPlayed : {R : Type 0} → Net M C → NodeId → (R → Transactions M C) → Answer M P R → Type 0
  IsPlayed net n kept (gives outputs r) = (moves : List (Move M C)) × Plays net n (kept r) (sent_by n outputs) moves × AreTickless moves
  IsPlayed net n kept (spent counter) = Unit {0}

  -- the message was put, from this node to that one
  abbrev pub WasSent : Net M C → NodeId → NodeId → Message C → Type 0
  WasSent net from to m = (ue : ℕ) × Contains net.bag (record { from = from; to = to; ue = ue; message = talk.way.encode m })

  -- what a unit is given of messages was put to it
  abbrev pub IsPutTo : Net M C → NodeId → Input C P → Type 0
  IsPutTo net n (control_input from m) = WasSent net from n m
  IsPutTo net n input = Unit {0}

  -- no request of the node expired without its cancel
  abbrev pub NoneExpired : Net M C → NodeId → Type 0
  NoneExpired net n = (c : Channel) → net.expired (asked_by n c) ≡ false

  -- an answer is that of moves, after which no request of the node expired without its cancel
  abbrev pub IsPlayedWhole : {R : Type 0} → Net M C → NodeId → (R → Transactions M C) → Answer M P R → Type 0
  IsPlayedWhole net n kept (gives outputs r) =
      (moves : List (Move M C)) × Plays net n (kept r) (sent_by n outputs) moves × NoneExpired (after talk net (orders_of n moves)) n
  IsPlayedWhole net n kept (spent counter) = Unit {0}

  -- orders go on by more of them, each made when it may be: then the node keeps t, all others what they kept, and these more were put
  pub record GoesOn (orders : List (Order talk)) (n : NodeId) (t : Transactions M C) (sent : List (Sent M)) : Type 0 where
    pub more : List (Order talk)
    pub may : MayAll talk new_net (orders ++ more)
    pub node : (after talk new_net (orders ++ more)).nodes n ≡ t
    pub others : (m : NodeId) → same_node m n ≡ false → (after talk new_net (orders ++ more)).nodes m ≡ (after talk new_net orders).nodes m
    pub bag : (after talk new_net (orders ++ more)).bag ≡ (after talk new_net orders).bag ++ sent
    -- no request of the node expired without its cancel; of other nodes those did that did before
    pub none : NoneExpired (after talk new_net (orders ++ more)) n
    pub as_before : (m : NodeId) → same_node m n ≡ false → (c : Channel)
        → (after talk new_net (orders ++ more)).expired (asked_by m c) ≡ (after talk new_net orders).expired (asked_by m c)
