-- Internal: steps so many times.
use Rattle.std.specs.Prelude.{ℕ, zero, suc, [], length}
use Rattle.gnb_types.specs.declared.names.SnBits.{SnBits}
use Rattle.dup_defs.specs.declared.types.leg.Leg.{Leg}
use Rattle.dup_defs.specs.dup_run_defs.Run.{DupRun, items_of, carry, confirm}
use Rattle.dup_defs.specs.dup_run_defs.Steps.{DupStep, passes, ◌and◌, step_of, carry_all, confirm_all}
use Rattle.dup_bearer.specs.Bearers.{BearerState}
use Rattle.dup.specs.declared.run.drain.Part.{Part}
use Rattle.dup.specs.declared.run.drain.Part.TheVariants.{Carries, Confirms}

abbrev pub times : (DupRun → DupStep) → ℕ → DupRun → DupStep
times step zero s = passes [] s
times step (suc n) s = step s and times step n

-- ---- an item is carried, or confirmed

abbrev pub step_by : SnBits → ℕ → Part → Leg → DupRun → DupStep
step_by sn quota Carries leg s = step_of sn (carry sn leg s)
step_by sn quota Confirms leg s = step_of sn (confirm sn quota leg s)

abbrev pub items_by : Part → Leg → DupRun → ℕ
items_by Carries leg s = length (items_of leg s).coming
items_by Confirms leg s = length (items_of leg s).carried

abbrev pub all_by : BearerState → Part → Leg → DupStep
all_by b Carries leg = carry_all b.sn b.quota leg b.run
all_by b Confirms leg = confirm_all b.sn b.quota leg b.run
