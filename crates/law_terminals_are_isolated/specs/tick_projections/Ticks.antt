-- What a tick of a unit does for one terminal: its own part, and that the whole shows it.
use Rattle.std.specs.Prelude.{ℕ, ◌≡◌, ◌==◌, Bool, false, if◌then◌else◌, List, [], ◌∷◌}
use Rattle.std.specs.List.{flat_map}
use Rattle.gnb_types.specs.declared.names.UeId.{UeId}
use Rattle.transaction_defs.specs.Callers.{due, after_tick, Due, repeats, expires}
use Rattle.unit_defs.specs.Ways.{Put, control, packet, radio, deliver, failed, Way, Answer, gives, spent, ◌then◌}
use Rattle.unit_defs.specs.Transactions.{Transactions}
use Rattle.unit_defs.specs.CuCpRecords.{CuCpRecord}
use Rattle.unit_defs.specs.CuCp.{due_each, command_each}
use Rattle.unit_defs.specs.Du.{Du, due_output as du_output}
use Rattle.unit_defs.specs.CuUpRecords.{CuUp}
use Rattle.unit_defs.specs.CuUp.{due_output as up_output}

-- ---- of what is put out, what names the terminal

abbrev pub names_ue : {M L P : Type 0} → ℕ → Put M L P → Bool
names_ue ue (control to u message) = u == ue
names_ue ue (packet to teid u bearer dir tag load) = u.0 == ue
names_ue ue (radio u bearer dir epoch tag pdu) = u.0 == ue
names_ue ue (deliver u bearer dir count p) = u.0 == ue
names_ue ue (failed u cause) = u.0 == ue
names_ue ue output = false

abbrev pub outputs_of : {M L P : Type 0} → ℕ → List (Put M L P) → List (Put M L P)
outputs_of ue [] = []
outputs_of ue (output ∷ outputs) = if names_ue ue output then output ∷ outputs_of ue outputs else outputs_of ue outputs

-- a step shows another one, where it goes on: it puts out the same for the terminal, in the same order, and this is the same then
abbrev pub ShowsOwn : {M P R S : Type 0} → (R → S) → ℕ → Answer M P R → Answer M P R → Type 0
ShowsOwn view ue (gives outputs after) (gives own q) = (outputs_of ue outputs ≡ outputs_of ue own) × (view after ≡ view q)
ShowsOwn view ue (gives outputs after) (spent counter) = ⊥
ShowsOwn view ue (spent counter) own = Unit {0}

-- ---- the own part

-- the open requests of a terminal that are due, by the peer
abbrev pub due_ue : {M : Type 0} → Due M → ℕ
due_ue (repeats channel request) = channel.ue
due_ue (expires channel) = channel.ue

abbrev pub own_dues : {M : Type 0} → ℕ → List (Due M) → List (Due M)
own_dues ue [] = []
own_dues ue (d ∷ ds) = if due_ue d == ue then d ∷ own_dues ue ds else own_dues ue ds

abbrev pub ticked : {M C : Type 0} → Transactions M C → Transactions M C
ticked t = record t { caller = after_tick t.caller }

module _ {M C P : Type 0} (way : Way M C P) (ue : UeId) where
  -- a CU-CP: its due requests, and then its command
  unfoldable pub cu_cp_own_tick : CuCpRecord M C → Answer M P (CuCpRecord M C)
  cu_cp_own_tick r =
      due_each way (own_dues ue.0 (due r.transactions.caller)) (record r { transactions = ticked r.transactions })
      then (λ s. command_each way (ue ∷ []) s)

  -- a DU, and a CU-UP: its due requests again
  abbrev pub du_own_tick : Du M C → Answer M P (Du M C)
  du_own_tick r =
      gives (flat_map (du_output way) (own_dues ue.0 (due r.transactions.caller))) (record r { transactions = ticked r.transactions })

  abbrev pub cu_up_own_tick : CuUp M C → Answer M P (CuUp M C)
  cu_up_own_tick r =
      gives (flat_map (up_output way) (own_dues ue.0 (due r.transactions.caller))) (record r { transactions = ticked r.transactions })
