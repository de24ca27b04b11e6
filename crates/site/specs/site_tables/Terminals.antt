-- The terminals, by their names, and what calls leave of them.
use Rattle.std.specs.Prelude.{◌≡◌, List, [], Option, Some, None, Result, Ok, Err}
use Rattle.gnb_types.specs.declared.names.UeId.{UeId}
use Rattle.gnb_types.specs.declared.outputs.Output.{Output}
use Rattle.unit_defs.specs.Ue.{UeNode, placed}
use Rattle.unit_messages.specs.declared.steps.StepError.{StepError}
use Rattle.unit_messages.specs.steps.Steps.{Step}
use Rattle.ue_node.specs.Nodes.{NodeState}
use Rattle.site.specs.site_tables.Steps.{Kind, Steps}

abbrev pub Terminals : Type 0
Terminals = List (UeId × NodeState)

abbrev pub terminal_kind : Kind NodeState UeNode
terminal_kind = record { kept = λ u. u.node; failure = λ u. u.failure }

abbrev pub IsWorking : Option NodeState → Type 0
IsWorking None = Unit {0}
IsWorking (Some u) = u.failure ≡ None

-- a step of a terminal, if it is there; one that isn't puts nothing out, and all stays
abbrev pub TerminalSteps
    : Option (Step UeNode) → (NodeState → Terminals) → Terminals → Terminals → Result (List Output) StepError → Type 0
TerminalSteps (Some step) put_back old new result = Steps terminal_kind step put_back new result
TerminalSteps None put_back old new (Ok outputs) = (outputs ≡ []) × (new ≡ old)
TerminalSteps None put_back old new (Err error) = ⊥

abbrev pub as_placed : NodeState → NodeState
as_placed u = record u { node = placed u.node }
