-- What a unit puts has the octets of its link, and control messages are the unit's own: told of the steps of any run.
use Rattle.std.specs.Prelude.{◌≡◌, false, List, Option, Some, None}
use Rattle.std.specs.List.{AllByRecursion, list_any}
use Rattle.gnb_types.specs.declared.names.NodeId.{NodeId}
use Rattle.gnb_types.specs.declared.names.SnBits.{SnBits}
use Rattle.run_defs.specs.Lines.{RunLine, put_item, put_message}
use Rattle.run_defs.specs.States.{RunStep}
use Rattle.run_defs.specs.Runs.{Happened}
use Rattle.run_defs.specs.Carried.{IsLaidOut}
use Rattle.run_defs.specs.Local.{puts_something}

-- with numbers of one of the two lengths
abbrev pub IsLaidLine : {M : Type 0} → NodeId → RunLine M → Type 0
IsLaidLine actor (put_item link item) = (sn : SnBits) × IsLaidOut sn actor link item
IsLaidLine actor (put_message number control_message) = control_message.from ≡ actor
IsLaidLine actor line = Unit {0}

-- where no unit acts, nothing is put or delivered
abbrev pub AreLaidBy : {M : Type 0} → Option NodeId → List (RunLine M) → Type 0
AreLaidBy None lines = list_any puts_something lines ≡ false
AreLaidBy (Some actor) lines = AllByRecursion (IsLaidLine actor) lines

abbrev pub IsLaidStep : {M : Type 0} → RunStep M → Type 0
IsLaidStep step = AreLaidBy step.actor step.lines

abbrev pub IsLaidEvent : {M : Type 0} → Happened M → Type 0
IsLaidEvent h = AllByRecursion IsLaidStep h.steps

abbrev pub AreLaid : {M : Type 0} → List (Happened M) → Type 0
AreLaid happened = AllByRecursion IsLaidEvent happened
