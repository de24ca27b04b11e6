-- At a CU-CP a request has a deadline only where it is that of a handover to the other gNB which is being prepared: it is the only
-- one of its terminal, open or waiting, and the attempt awaits the other CU-CP alone.
use Rattle.std.specs.Prelude.{◌≡◌, ◌⊎◌, false, List, [], ◌∷◌, Option, Some, None}
use Rattle.std.specs.List.{AllByRecursion}
use Rattle.gnb_types.specs.declared.names.NodeId.{NodeId}
use Rattle.gnb_types.specs.declared.names.NodeId.TheVariants.{CuCp}
use Rattle.gnb_types.specs.declared.names.UeId.{UeId}
use Rattle.gnb_types.specs.Orders.{channel_cmp}
use Rattle.tables.specs.Tables.{IsSorted}
use Rattle.transaction_defs.specs.Callers.{Opened}
use Rattle.unit_defs.specs.declared.StateName.{StateName}
use Rattle.unit_defs.specs.declared.StateName.TheVariants as states
use Rattle.unit_defs.specs.declared.AttemptKind.{AttemptKind}
use Rattle.unit_defs.specs.declared.AttemptKind.TheVariants as kinds
use Rattle.unit_defs.specs.Messages.{channel, other_gnb}
use Rattle.unit_defs.specs.Transactions.{Waiting, waits_at}
use Rattle.unit_defs.specs.CuCpRecords.{Awaited, Attempt, CuCpContext, CuCpRecord, terminal_of}
use Rattle.law_requests_act_once.specs.channel.Ends.{same_node, Asking, asking_at}
use Rattle.law_requests_act_once.specs.channel_rows.IsPlayed.{HasNoDeadline, IsUndated}

-- ---- the attempt of a terminal whose handover to the other gNB is being prepared

abbrev pub prepared_in : StateName → AttemptKind → Attempt → Option Attempt
prepared_in states.Preparing kinds.BetweenGnbs a = Some a
prepared_in state kind a = None

abbrev pub prepared_of : StateName → Option Attempt → Option Attempt
prepared_of state None = None
prepared_of state (Some a) = prepared_in state a.kind a

abbrev pub preparation : Option CuCpContext → Option Attempt
preparation None = None
preparation (Some c) = prepared_of c.state c.attempt

-- ---- its request is the only one with a deadline: it was put, or it waits, and then the attempt awaits no instance

abbrev pub OpenIsUndated : {M C : Type 0} → Asking M C → Type 0
OpenIsUndated {M = M} a = (o : Opened M) → a.opened ≡ Some o → o.deadline ≡ None

abbrev pub HasOneDeadline : {C : Type 0} → List (Waiting C) → Type 0
HasOneDeadline [] = Unit {0}
HasOneDeadline (w ∷ ws) = (HasNoDeadline w × HasOneDeadline ws) ⊎ AllByRecursion HasNoDeadline ws

abbrev pub WaitsUnput : {M C : Type 0} → Asking M C → Attempt → Type 0
WaitsUnput a b = OpenIsUndated a × HasOneDeadline a.waits × AllByRecursion (λ (w : Awaited). w.instance ≡ None) b.awaits

abbrev pub IsTheOnly : {M C : Type 0} → Asking M C → Attempt → Type 0
IsTheOnly a b = AllByRecursion HasNoDeadline a.waits ⊎ WaitsUnput a b

abbrev pub AwaitsOnly : NodeId → Attempt → Type 0
AwaitsOnly node b = AllByRecursion (λ (w : Awaited). w.from ≡ node) b.awaits

-- on the channel to the other CU-CP
abbrev pub FitsThere : {M C : Type 0} → NodeId → Asking M C → Option Attempt → Type 0
FitsThere other a None = IsUndated a
FitsThere other a (Some b) = IsTheOnly a b × AwaitsOnly other b

-- only such a request is awaited there
abbrev pub AwaitedHasDeadline : {C : Type 0} → Waiting C → Type 0
AwaitedHasDeadline w = w.deadline ≡ None → w.awaited ≡ false

-- ---- all of a CU-CP

pub record DeadlinesFit {M C : Type 0} (r : CuCpRecord M C) : Type 0 where
  pub elsewhere : (ue : UeId) (peer : NodeId) → same_node peer (CuCp (other_gnb r.gnb)) ≡ false → IsUndated (asking_at r.transactions (channel ue.0 peer))
  pub there : (ue : UeId)
      → FitsThere (CuCp (other_gnb r.gnb)) (asking_at r.transactions (channel ue.0 (CuCp (other_gnb r.gnb)))) (preparation (terminal_of r ue).context)
  pub unawaited : (ue : UeId) → AllByRecursion AwaitedHasDeadline (waits_at r.transactions (channel ue.0 (CuCp (other_gnb r.gnb))))
  pub sorted : IsSorted channel_cmp r.transactions.caller.opened
