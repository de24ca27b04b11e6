-- Requests on which a responder acts no more.
use Rattle.std.specs.Prelude.{ℕ, ◌≡◌, ◌≤◌, Option, Some, None}
use Rattle.gnb_types.specs.declared.names.NodeId.TheVariants.{CuCp}
use Rattle.gnb_types.specs.declared.keys.Channel.{Channel}
use Rattle.transaction_defs.specs.Callees.{newest}
use Rattle.unit_defs.specs.Ways.{Input, control_input, Answer, gives, spent}
use Rattle.unit_defs.specs.Messages.{channel}
use Rattle.unit_defs.specs.Transactions.{request, kind_of, Transactions}
use Rattle.unit_defs.specs.CuUpRecords.{CuUp}

abbrev pub NotAbove : Option ℕ → ℕ → Type 0
NotAbove None instance = ⊥
NotAbove (Some newest) instance = instance ≤ newest

-- a request with this instance is not new any more
abbrev pub WasTaken : {M C : Type 0} → Transactions M C → Channel → ℕ → Type 0
WasTaken t c instance = NotAbove (newest t.callee c) instance

-- after an answer: what was not new is not new; and what came from its CU-CP just now isn't either
abbrev pub StillTaken : {M C P : Type 0} → CuUp M C → Answer M P (CuUp M C) → Type 0
StillTaken r (gives outputs after) = (c : Channel) (i : ℕ) → WasTaken r.transactions c i → WasTaken after.transactions c i
StillTaken r (spent counter) = Unit {0}

abbrev pub IsTaken : {M C P : Type 0} → CuUp M C → Input C P → Answer M P (CuUp M C) → Type 0
IsTaken r (control_input from message) (gives outputs after) =
    from ≡ CuCp r.gnb → (ue i : ℕ) → kind_of message ≡ request ue i → WasTaken after.transactions (channel ue from) i
IsTaken r input answer = Unit {0}
