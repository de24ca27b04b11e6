-- What a CU-CP keeps (TS 38.401, 6.1.2), and how its rows are told: a row is what it says to others, in order, and what it keeps of
-- the terminal then. What it says is carried out over the requests and replies of the unit.
use Rattle.std.specs.Prelude.{◌==◌, ℕ, zero, suc, ◌-◌, ◌^◌, Bool, false, not, ◌&&◌, if◌then◌else◌, List, [], ◌∷◌, ◌++◌, map, filter, Option, Some, None, is_none, is_some}
use Rattle.std.specs.List.{list_any}
use Rattle.gnb_types.specs.declared.names.Gnb.{Gnb}
use Rattle.gnb_types.specs.declared.names.NodeId.{NodeId}
use Rattle.gnb_types.specs.declared.names.UeId.{UeId}
use Rattle.gnb_types.specs.declared.names.BearerId.{BearerId}
use Rattle.gnb_types.specs.declared.names.SnBits.{SnBits}
use Rattle.gnb_types.specs.declared.keys.Channel.{Channel}
use Rattle.gnb_types.specs.declared.plans.Tunnel.{Tunnel}
use Rattle.gnb_types.specs.declared.reasons.DropReason.{DropReason}
use Rattle.gnb_types.specs.declared.reasons.CauseName.{CauseName}
use Rattle.gnb_types.specs.declared.reasons.RefuseReason.{RefuseReason}
use Rattle.gnb_types.specs.Nodes.{node_cmp}
use Rattle.gnb_types.specs.Orders.{ue_cmp}
use Rattle.std.specs.Ordering.{eq_by_cmp}
use Rattle.tables.specs.Tables.{find, put}
use Rattle.unit_defs.specs.declared.StateName.{StateName}
use Rattle.unit_defs.specs.declared.StateName.TheVariants as states
use Rattle.unit_defs.specs.declared.AttemptKind.{AttemptKind}
use Rattle.unit_defs.specs.Ways.{Message, control, failed, no, Way, Answer, spent, ◌then◌, nothing, puts, drops}
use Rattle.unit_defs.specs.Transactions.{Waiting, Transactions, Asked, no_transactions, ask, ask_at_once, replied, replied_late}
use Rattle.unit_defs.specs.Messages.{channel}

-- ---- the record

-- An answer that an attempt awaits: from whom, and of which instance, once its request was put. What an attempt awaits of a node is to
-- match what is asked of that node for the terminal: it awaits nothing, and no request to the node that is open or waits is marked as
-- awaited; or it awaits the instance of the open request, and none that waits is marked; or it awaits an answer without an instance yet,
-- and exactly one that waits is marked. So an answer is taken for an attempt only where it was asked for that attempt.
pub record Awaited : Type 0 where
  pub from : NodeId
  pub instance : Option ℕ

-- An attempt: where the terminal is to go, with which epoch, and what is known of the tunnels there so far.
pub record Attempt : Type 0 where
  pub kind : AttemptKind
  pub epoch : ℕ
  pub up : ℕ
  pub du : ℕ
  pub n3 : List Tunnel
  pub downlinks : List Tunnel
  pub forward_down : List Tunnel
  pub forward_up : List Tunnel
  -- of an offer: the instance of its request, and whether the DU was asked
  pub instance : ℕ
  pub du_begun : Bool
  -- the bearers were switched, and the path switch isn't answered
  pub switched : Bool
  pub path_open : Bool
  pub awaits : List Awaited

-- A terminal's context. The epoch is the one that was accepted last, where any was; it is finished where its acceptance was
-- put. A context that came by Xn is that of a target.
pub record CuCpContext : Type 0 where
  pub state : StateName
  pub epoch : Option ℕ
  pub finished : Bool
  pub up : ℕ
  pub du : ℕ
  pub sn : SnBits
  pub bearers : ℕ
  pub quota : ℕ
  pub by_xn : Bool
  pub attempt : Option Attempt

-- all of one terminal but its requests and replies: its context, and the greatest epoch of a token that was taken
pub record CuCpTerminal : Type 0 where
  pub context : Option CuCpContext
  pub taken : Option ℕ

pub record CuCpRecord (M C : Type 0) : Type 0 where
  pub gnb : Gnb
  -- the units that are set up
  pub units : List NodeId
  pub terminals : List (UeId × CuCpTerminal)
  pub transactions : Transactions M C

abbrev pub new_cu_cp : {M C : Type 0} → Gnb → CuCpRecord M C
new_cu_cp gnb = record { gnb = gnb; units = []; terminals = []; transactions = no_transactions }

abbrev pub no_terminal : CuCpTerminal
no_terminal = record { context = None; taken = None }

abbrev pub terminal_in : Option CuCpTerminal → CuCpTerminal
terminal_in None = no_terminal
terminal_in (Some t) = t

abbrev pub terminal_of : {M C : Type 0} → CuCpRecord M C → UeId → CuCpTerminal
terminal_of r ue = terminal_in (find ue_cmp r.terminals ue)

-- a terminal of which nothing is to be kept
abbrev pub is_blank : CuCpTerminal → Bool
is_blank t = is_none t.context && is_none t.taken

-- A terminal has an entry once there was something to keep of it: so a refused order, and a message for a terminal without context, leave a
-- record as it was.
abbrev pub kept_terminals : List (UeId × CuCpTerminal) → UeId → CuCpTerminal → List (UeId × CuCpTerminal)
kept_terminals ts ue t = if is_blank t && not (is_some (find ue_cmp ts ue)) then ts else put ue_cmp ts ue t

abbrev pub with_terminal : {M C : Type 0} → UeId → CuCpRecord M C → CuCpTerminal → CuCpRecord M C
with_terminal ue r t = record r { terminals = kept_terminals r.terminals ue t }

abbrev pub with_transactions : {M C : Type 0} → CuCpRecord M C → Transactions M C → CuCpRecord M C
with_transactions r t = record r { transactions = t }

-- a context with another state, another attempt, or both
abbrev pub attempted : CuCpContext → StateName → Attempt → CuCpContext
attempted c state a = record c { state = state; attempt = Some a }

abbrev pub serving : CuCpContext → CuCpContext
serving c = record c { state = states.Serving; attempt = None }

abbrev pub same_node : NodeId → NodeId → Bool
same_node a b = eq_by_cmp node_cmp a b

abbrev pub has_unit : List NodeId → NodeId → Bool
has_unit units node = list_any (λ u. same_node u node) units

-- the last epoch
abbrev pub last_epoch : ℕ
last_epoch = 2 ^ 32 - 1

-- bearers 1 to this number are those of a context
abbrev pub bearer_list : ℕ → List BearerId → List BearerId
bearer_list zero bs = bs
bearer_list (suc n) bs = bearer_list n (record { 0 = suc n } ∷ bs)

abbrev pub bearers_in : CuCpContext → List BearerId
bearers_in c = bearer_list c.bearers []

-- ---- what a row says

pub data Action (C : Type 0) : Type 0 where
  -- a request, which may wait; its deadline in ticks, and whether the attempt awaits the answer
  asks : (to : NodeId) (message : Message C) (deadline : Option ℕ) (awaited : Bool) → Action C
  -- a Handover Cancel, which doesn't wait
  cancels : (to : NodeId) (message : Message C) → Action C
  -- the reply to the request that was just taken, and to one that was taken earlier
  replies : (to : NodeId) (message : Message C) → Action C
  replies_late : (to : NodeId) (instance : ℕ) (message : Message C) → Action C
  -- a message without an answer
  sends : (to : NodeId) (message : Message C) → Action C
  -- the procedure ended without success
  fails : (cause : CauseName) → Action C
  ignores : (reason : DropReason) → Action C
  refuses : (reason : RefuseReason) → Action C
  -- no attempt awaits the answers of what waits any more
  forgets : Action C

-- a row: what it says, and what is kept of the terminal then; or a counter would pass its last value
pub data Row (C : Type 0) : Type 0 where
  row : (actions : List (Action C)) (after : CuCpTerminal) → Row C
  row_spent : (counter : ℕ) → Row C

-- rows that keep the terminal as it is, that keep a context, and that give it up
abbrev pub stays : {C : Type 0} → CuCpTerminal → List (Action C) → Row C
stays t actions = row actions t

abbrev pub keeps : {C : Type 0} → CuCpTerminal → List (Action C) → CuCpContext → Row C
keeps t actions c = row actions (record t { context = Some c })

abbrev pub gives_up : {C : Type 0} → CuCpTerminal → List (Action C) → Row C
gives_up t actions = row actions (record t { context = None })

-- ---- what the attempt awaits

abbrev pub is_from : NodeId → Awaited → Bool
is_from node a = same_node a.from node

-- the request of the attempt to this node got this instance
abbrev pub with_instance_of : NodeId → ℕ → Awaited → Awaited
with_instance_of node instance a = if is_from node a then record a { instance = Some instance } else a

abbrev pub awaiting : Attempt → NodeId → Attempt
awaiting a node = record a { awaits = a.awaits ++ record { from = node; instance = None } ∷ [] }

abbrev pub begun : Attempt → NodeId → ℕ → Attempt
begun a node instance = record a { awaits = map (with_instance_of node instance) a.awaits }

abbrev pub answered : Attempt → NodeId → Attempt
answered a node = record a { awaits = filter (λ w. not (is_from node w)) a.awaits }

abbrev pub is_instance : Option ℕ → ℕ → Bool
is_instance None instance = false
is_instance (Some awaited) instance = awaited == instance

abbrev pub awaits_answer : Attempt → NodeId → ℕ → Bool
awaits_answer a node instance = list_any (λ w. is_from node w && is_instance w.instance instance) a.awaits

-- the same of a terminal's attempt, if it has one
abbrev pub on_attempt : (Attempt → Attempt) → Option Attempt → Option Attempt
on_attempt f None = None
on_attempt f (Some a) = Some (f a)

abbrev pub on_context : (Attempt → Attempt) → Option CuCpContext → Option CuCpContext
on_context f None = None
on_context f (Some c) = Some (record c { attempt = on_attempt f c.attempt })

abbrev pub with_attempt : {M C : Type 0} → UeId → (Attempt → Attempt) → CuCpRecord M C → CuCpRecord M C
with_attempt ue f r = with_terminal ue r (record (terminal_of r ue) { context = on_context f (terminal_of r ue).context })

-- ---- a row is carried out

module _ {M C P : Type 0} (way : Way M C P) where
  abbrev pub waiting_of : Message C → Option ℕ → Bool → Waiting C
  waiting_of message deadline awaited = record { message = message; deadline = deadline; awaited = awaited }

  abbrev pub after_begun : UeId → NodeId → CuCpRecord M C → Option ℕ → CuCpRecord M C
  after_begun ue node r None = r
  after_begun ue node r (Some instance) = with_attempt ue (λ a. begun a node instance) r

  abbrev pub after_asked : UeId → NodeId → CuCpRecord M C → Asked M C → CuCpRecord M C
  after_asked ue node r a = after_begun ue node (with_transactions r a.transactions) a.awaited

  abbrev pub noted : UeId → NodeId → Bool → CuCpRecord M C → CuCpRecord M C
  noted ue node awaited r = if awaited then with_attempt ue (λ a. awaiting a node) r else r

  -- what waits of a terminal's requests is awaited by no attempt
  abbrev pub not_awaited : Waiting C → Waiting C
  not_awaited w = record w { awaited = false }

  abbrev pub unawaited : UeId → Channel × List (Waiting C) → Channel × List (Waiting C)
  unawaited ue e = if e.0.ue == ue.0 then (e.0, map not_awaited e.1) else e

  abbrev pub forgotten : UeId → Transactions M C → Transactions M C
  forgotten ue t = record t { waiting = map (unawaited ue) t.waiting }

  unfoldable pub act_one : UeId → CuCpRecord M C → Action C → Answer M P (CuCpRecord M C)
  act_one ue r (asks to message deadline awaited) =
      ask way r.transactions (channel ue.0 to) (waiting_of message deadline awaited)
      then (λ a. nothing (after_asked ue to (noted ue to awaited r) a))
  act_one ue r (cancels to message) =
      ask_at_once way r.transactions (channel ue.0 to) (waiting_of message None false) then (λ a. nothing (after_asked ue to r a))
  act_one ue r (replies to message) = replied way r.transactions (channel ue.0 to) message then (λ t. nothing (with_transactions r t))
  act_one ue r (replies_late to instance message) =
      replied_late way r.transactions (channel ue.0 to) instance message then (λ t. nothing (with_transactions r t))
  act_one ue r (sends to message) = puts (control to ue.0 (way.encode message)) r
  act_one ue r (fails cause) = puts (failed ue cause) r
  act_one ue r (ignores reason) = drops reason r
  act_one ue r (refuses reason) = puts (no reason) r
  act_one ue r forgets = nothing (with_transactions r (forgotten ue r.transactions))

  unfoldable pub act_all : UeId → List (Action C) → CuCpRecord M C → Answer M P (CuCpRecord M C)
  act_all ue [] r = nothing r
  act_all ue (s ∷ ss) r = act_one ue r s then act_all ue ss

  unfoldable pub carry_out : UeId → CuCpRecord M C → Row C → Answer M P (CuCpRecord M C)
  carry_out ue r (row actions after) = act_all ue actions (with_terminal ue r after)
  carry_out ue r (row_spent counter) = spent counter
