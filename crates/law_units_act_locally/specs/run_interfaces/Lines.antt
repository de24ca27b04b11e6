-- Lines of a run on which a control message is put: it is of the interface between its two ends.
use Rattle.std.specs.Prelude.{List}
use Rattle.std.specs.List.{AllByRecursion}
use Rattle.transport_defs.specs.declared.ControlMessage.{ControlMessage}
use Rattle.unit_defs.specs.Ways.{Message}
use Rattle.run_defs.specs.Lines.{RunLine, put_message}
use Rattle.run_defs.specs.States.{RunStep}
use Rattle.run_defs.specs.Runs.{Happened}
use Rattle.law_units_act_locally.specs.cu_cp_interfaces.Interfaces.{IsOf}

abbrev pub IsControlMessageOf : {C : Type 0} → ControlMessage (Message C) → Type 0
IsControlMessageOf l = IsOf l.from l.to l.message

abbrev pub IsLineOf : {C : Type 0} → RunLine (Message C) → Type 0
IsLineOf (put_message number l) = IsControlMessageOf l
IsLineOf line = Unit {0}

abbrev pub IsStepOf : {C : Type 0} → RunStep (Message C) → Type 0
IsStepOf step = AllByRecursion IsLineOf step.lines

abbrev pub IsEventOf : {C : Type 0} → Happened (Message C) → Type 0
IsEventOf h = AllByRecursion IsStepOf h.steps

abbrev pub AreOf : {C : Type 0} → List (Happened (Message C)) → Type 0
AreOf happened = AllByRecursion IsEventOf happened
