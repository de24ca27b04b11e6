-- One channel: the requests of one node to another for a terminal, and the replies to them. Its two ends are read off what the
-- two nodes keep, and what was put on it off the messages ever put.
use Rattle.std.specs.Prelude.{◌≡◌, ◌⊎◌, ℕ, ◌+◌, ◌<◌, ◌≤◌, Bool, true, false, List, [], ◌∷◌, Option, Some, None}
use Rattle.std.specs.List.{Contains}
use Rattle.std.specs.Ordering.{eq_by_cmp}
use Rattle.gnb_types.specs.declared.names.NodeId.{NodeId}
use Rattle.gnb_types.specs.declared.keys.Channel.{Channel}
use Rattle.gnb_types.specs.Orders.{node_cmp, channel_cmp}
use Rattle.tables.specs.Tables.{at}
use Rattle.transaction_defs.specs.Callers.{Opened, opened_at}
use Rattle.transaction_defs.specs.Callees.{Kept, kept_at, reply_in}
use Rattle.unit_defs.specs.Messages.{channel}
use Rattle.unit_defs.specs.Transactions.{request, reply, Waiting, Transactions, waits_at}
use Rattle.law_requests_act_once.specs.channel.Replies.{Talk}

-- a channel: from the initiator to the responder, for a terminal (0: for none)
pub record Route : Type 0 where
  pub from : NodeId
  pub to : NodeId
  pub ue : ℕ

-- under which key the initiator keeps it, and the responder
abbrev pub at_initiator : Route → Channel
at_initiator r = channel r.ue r.to

abbrev pub at_responder : Route → Channel
at_responder r = channel r.ue r.from

abbrev pub same_node : NodeId → NodeId → Bool
same_node a b = eq_by_cmp node_cmp a b

abbrev pub same_channel : Channel → Channel → Bool
same_channel a b = eq_by_cmp channel_cmp a b

-- ---- the two ends

-- the last instance that was given, the open request, and those that wait
pub record Asking (M C : Type 0) : Type 0 where
  pub last : ℕ
  pub opened : Option (Opened M)
  pub waits : List (Waiting C)

abbrev pub asking_at : {M C : Type 0} → Transactions M C → Channel → Asking M C
asking_at t c = record { last = at channel_cmp 0 t.caller.last c; opened = opened_at t.caller c; waits = waits_at t c }

-- the newest instance that was taken (0: none), and the reply to it, if one is kept
pub record Answering (M : Type 0) : Type 0 where
  pub newest : ℕ
  pub kept : Option M

abbrev pub newest_number : {M : Type 0} → Option (Kept M) → ℕ
newest_number None = 0
newest_number (Some kept) = kept.instance

abbrev pub answering_in : {M : Type 0} → Option (Kept M) → Answering M
answering_in kept = record { newest = newest_number kept; kept = reply_in kept }

abbrev pub answering_at : {M C : Type 0} → Transactions M C → Channel → Answering M
answering_at t c = answering_in (kept_at t.callee c)

-- a request on which the responder acted
pub record Act (M : Type 0) : Type 0 where
  pub instance : ℕ
  pub message : M

-- All of a channel: its ends; the requests on which the responder acted, the newest first; and whether its open request expired,
-- and the cancel that goes with it isn't put yet.
pub record Ends (M C : Type 0) : Type 0 where
  pub asking : Asking M C
  pub answering : Answering M
  pub acts : List (Act M)
  pub expired : Bool

-- ---- what was put on a channel

-- a message that was put: its ends, its terminal (0: none), and what stands for it
pub record Sent (M : Type 0) : Type 0 where
  pub from : NodeId
  pub to : NodeId
  pub ue : ℕ
  pub message : M

pub data Note (M : Type 0) : Type 0 where
  asked : (instance : ℕ) (message : M) → Note M
  told : (instance : ℕ) (message : M) → Note M

module _ {M C P : Type 0} (talk : Talk M C P) where
  abbrev pub sent_on : NodeId → NodeId → ℕ → M → Sent M
  sent_on from to ue message = record { from = from; to = to; ue = ue; message = message }

  -- A request goes from the initiator to the responder, a reply back. Of which terminal it is, is what the message says.
  abbrev pub Put : List (Sent M) → Route → Note M → Type 0
  Put bag r (asked instance message) =
      (ue : ℕ) × Contains bag (sent_on r.from r.to ue message) × (talk.kind message ≡ request r.ue instance)
  Put bag r (told instance message) =
      (ue : ℕ) × Contains bag (sent_on r.to r.from ue message) × (talk.kind message ≡ reply r.ue instance)

  -- ---- exactly once

  abbrev pub top : List (Act M) → ℕ
  top [] = 0
  top (a ∷ acts) = a.instance

  -- each act is on a request that was put, of a higher instance than the acts before it; of the next one, or on a cancel
  abbrev pub InOrder : (Note M → Type 0) → List (Act M) → Type 0
  InOrder B [] = Unit {0}
  InOrder B (a ∷ acts) =
      (top acts < a.instance) × ((a.instance ≡ top acts + 1) ⊎ (talk.overtakes a.message ≡ true)) × B (asked a.instance a.message) × InOrder B acts

  -- what holds of a channel on which B was put
  pub record Once (s : Ends M C) (B : Note M → Type 0) : Type 0 where
    -- one request per instance; its instance was given, and with each one that was given a request was put
    pub one_request : (i : ℕ) (x y : M) → B (asked i x) → B (asked i y) → x ≡ y
    pub given : (i : ℕ) (x : M) → B (asked i x) → (0 < i) × (i ≤ s.asking.last)
    pub was_put : (i : ℕ) → 0 < i → i ≤ s.asking.last → (x : M) × B (asked i x)
    -- an open request is the last one put, and this is what is put again
    pub opened : (o : Opened M) → s.asking.opened ≡ Some o
        → (o.instance ≡ s.asking.last) × ((x : M) × (o.request ≡ Some x) × B (asked o.instance x))
    pub unexpired : (o : Opened M) → s.asking.opened ≡ Some o → s.expired ≡ false
    -- what was taken was put
    pub taken : s.answering.newest ≤ s.asking.last
    -- one reply per instance, after its request was taken, and one that answers it
    pub one_reply : (i : ℕ) (x y : M) → B (told i x) → B (told i y) → x ≡ y
    pub after_taken : (i : ℕ) (x : M) → B (told i x) → (0 < i) × (i ≤ s.answering.newest)
    pub answers : (i : ℕ) (x y : M) → B (asked i x) → B (told i y) → talk.answers x y ≡ true
    -- the reply that is kept is the one put to the newest request
    pub kept_was_put : (y : M) → s.answering.kept ≡ Some y → B (told s.answering.newest y)
    pub put_is_kept : (y : M) → B (told s.answering.newest y) → s.answering.kept ≡ Some y
    -- closed means taken and answered
    pub closed : s.asking.opened ≡ None → s.expired ≡ false
        → (s.answering.newest ≡ s.asking.last) × (0 < s.asking.last → (y : M) × B (told s.asking.last y))
    -- only a cancel goes before the reply to the request before it
    pub overtakes : (i : ℕ) (x : M) → 0 < i → B (asked (i + 1) x) → ((y : M) → B (told i y) → ⊥) → talk.overtakes x ≡ true
    -- the acts are in the order of issue, the newest one at the newest instance taken
    pub acts : InOrder B s.acts
    pub newest_act : top s.acts ≡ s.answering.newest
