-- What all states of an attempt keep, and the answers that it awaits.
use Rattle.std.specs.Prelude.{◌≡◌, ◌≢◌, ◌==◌, ℕ, ◌+◌, Bool, false, ◌&&◌, is_none, Option, Some, None}
use Rattle.gnb_types.specs.declared.names.UeId.{UeId}
use Rattle.gnb_types.specs.declared.plans.Plan.{Plan}
use Rattle.unit_defs.specs.declared.AttemptKind.{AttemptKind}
use Rattle.unit_defs.specs.CuCpRecords.{is_instance}
use Rattle.handover.specs.declared.names.MessageName.{MessageName}
use Rattle.handover.specs.declared.attempt.Awaited.{Awaited}
use Rattle.handover.specs.declared.attempt.Attempt.{Attempt}

abbrev pub new_attempt : UeId → AttemptKind → ℕ → Option Plan → Attempt
new_attempt ue kind epoch goal = record {
  ue = ue;
  kind = kind;
  epoch = epoch;
  goal = goal;
  switched = false;
  awaits = record { du = None; cu_up = None; core = None; other_cu = None };
}

-- ---- what is awaited of a node: nothing, or the answer to a request that has no instance yet

abbrev pub unanswered : Option MessageName → Option Awaited
unanswered None = None
unanswered (Some request) = Some (record { request = request; instance = None })

abbrev pub with_du : Option MessageName → Attempt → Attempt
with_du request a = record a { awaits = record a.awaits { du = unanswered request } }

abbrev pub with_cu_up : Option MessageName → Attempt → Attempt
with_cu_up request a = record a { awaits = record a.awaits { cu_up = unanswered request } }

abbrev pub with_core : Option MessageName → Attempt → Attempt
with_core request a = record a { awaits = record a.awaits { core = unanswered request } }

abbrev pub with_other_cu : Option MessageName → Attempt → Attempt
with_other_cu request a = record a { awaits = record a.awaits { other_cu = unanswered request } }

-- whether the answer with this instance is awaited: before its request was put none is
abbrev pub is_awaited : Option Awaited → ℕ → Bool
is_awaited None instance = false
is_awaited (Some awaited) instance = is_instance awaited.instance instance

-- ---- a request was put with this instance: where its answer is awaited, it is the one of that instance

abbrev pub SlotAfter : Option Awaited → MessageName → ℕ → Option Awaited → Type 0
SlotAfter None request instance after = after ≡ None
SlotAfter (Some awaited) request instance after =
    (awaited.request ≡ request → after ≡ Some (record awaited { instance = Some instance }))
    × (awaited.request ≢ request → after ≡ Some awaited)

pub record IsSent (before : Attempt) (request : MessageName) (instance : ℕ) (after : Attempt) : Type 0 where
  pub du : SlotAfter before.awaits.du request instance after.awaits.du
  pub cu_up : SlotAfter before.awaits.cu_up request instance after.awaits.cu_up
  pub core : SlotAfter before.awaits.core request instance after.awaits.core
  pub other_cu : SlotAfter before.awaits.other_cu request instance after.awaits.other_cu
  pub rest : after ≡ record before { awaits = after.awaits }

-- ---- epochs

abbrev pub is_epoch : Attempt → ℕ → Bool
is_epoch a epoch = a.epoch == epoch

-- the terminal had that epoch, and asked for re-establishment since
abbrev pub is_after : Attempt → ℕ → Bool
is_after a epoch = a.epoch + 1 == epoch

-- it is over where the bearers were switched and no path switch is awaited any more
abbrev pub is_finished : Attempt → Bool
is_finished a = a.switched && is_none a.awaits.core
