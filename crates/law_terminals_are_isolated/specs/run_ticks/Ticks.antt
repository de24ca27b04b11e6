-- What a tick of a unit does for a terminal in two runs.
use Rattle.std.specs.Prelude.{◌≡◌}
use Rattle.std.specs.List.{AllByRecursion}
use Rattle.gnb_types.specs.declared.names.NodeId.{NodeId}
use Rattle.gnb_types.specs.declared.names.NodeId.TheVariants.{Core, Ue}
use Rattle.gnb_types.specs.declared.names.UeId.{UeId}
use Rattle.unit_defs.specs.Ways.{Put, packet, radio, deliver, opened, closed}
use Rattle.run_defs.specs.States.{Stepped, stepped, step_spent}
use Rattle.law_terminals_are_isolated.specs.tick_projections.Ticks.{outputs_of}
use Rattle.law_terminals_are_isolated.specs.projection_arguments.Views.{StayEqualAt}

-- a node at which a tick is everyone's; a terminal's tick is its own
abbrev pub IsUnit : NodeId → Type 0
IsUnit Core = ⊥
IsUnit (Ue n) = ⊥
IsUnit node = Unit {0}

-- where both go on, what is put for the terminal is the same, in the same order, and its projection there and what is shared are the same
abbrev pub TickEqual : {M C L P : Type 0} → NodeId → UeId → Stepped M C L P → Stepped M C L P → Type 0
TickEqual node ue (stepped xs a) (stepped ys b) = (outputs_of ue.0 xs ≡ outputs_of ue.0 ys) × StayEqualAt node ue a b
TickEqual node ue (stepped xs a) (step_spent counter) = Unit {0}
TickEqual node ue (step_spent counter) other = Unit {0}

-- what a tick puts is told to others, or to the one who reads the transcript: no item, no PDU and no packet, and no tunnel changes
abbrev pub IsReported : {M L P : Type 0} → Put M L P → Type 0
IsReported (packet to teid ue bearer dir tag load) = ⊥
IsReported (radio ue bearer dir epoch tag pdu) = ⊥
IsReported (deliver ue bearer dir count p) = ⊥
IsReported (opened teid) = ⊥
IsReported (closed teid) = ⊥
IsReported output = Unit {0}

abbrev pub AreReported : {M C L P : Type 0} → Stepped M C L P → Type 0
AreReported (stepped outputs after) = AllByRecursion IsReported outputs
AreReported (step_spent counter) = Unit {0}
