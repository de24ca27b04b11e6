-- between a CU-CP and the core, in place of NGAP (TS 38.413): the value that is written for a message, what a value says, and what is heard in a value.
use Rattle.std.specs.Prelude.{ℕ, [], ◌∷◌, Result, Err, if◌then◌else◌}
use Rattle.message_types.specs.declared.xn.CoreMessage.{CoreMessage}
use Rattle.message_types.specs.declared.xn.CoreMessage.TheVariants as cores
use Rattle.aper_defs.specs.Values.{Value, Ies, message, no_options}
use Rattle.message_defs.specs.profile_defs.Elements as ies
use Rattle.message_defs.specs.profile_defs.Tables.{is_at}
use Rattle.message_defs.specs.profile_defs.Messages.{path_switch_request, path_switch_acknowledge}
use Rattle.message_defs.specs.profile_defs.Profile.{core_type}
use Rattle.message_defs.specs.Fields.{from_number, from_peer, from_tunnels, from_ue, to_number, to_peer, to_tunnels, to_ue}
use Rattle.message_defs.specs.Places.{has, written_message, the, elements_in}
use Rattle.message_defs.specs.Known.{Says}
use Rattle.message_defs.specs.FromValue.{Cause, unknown_procedure, from_value_as}

unfoldable pub written_core : CoreMessage → Value
written_core (cores.PathSwitchRequest ue instance peer n3) = written_message path_switch_request
    (has ies.ue (from_ue ue) ∷ has ies.instance (from_number instance) ∷ has ies.peer (from_peer peer)
    ∷ has ies.n3 (from_tunnels n3) ∷ []) no_options
written_core (cores.PathSwitchAcknowledge ue instance) = written_message path_switch_acknowledge
    (has ies.ue (from_ue ue) ∷ has ies.instance (from_number instance) ∷ []) no_options

abbrev pub SaysCore : CoreMessage → Value → Type 0
SaysCore msg v = Says core_type (written_core msg) v

unfoldable pub core_at : (index code criticality : ℕ) → Ies → Result CoreMessage Cause
core_at index code criticality found =
    if is_at code index path_switch_request then from_value_as path_switch_request found
    (cores.PathSwitchRequest (the ies.ue to_ue found) (the ies.instance to_number found) (the ies.peer to_peer found)
    (the ies.n3 to_tunnels found))
    else if is_at code index path_switch_acknowledge then from_value_as path_switch_acknowledge found
    (cores.PathSwitchAcknowledge (the ies.ue to_ue found) (the ies.instance to_number found))
    else Err (unknown_procedure code criticality)

unfoldable pub core_from_value : Value → Result CoreMessage Cause
core_from_value (message index code criticality body) = core_at index code criticality (elements_in body)
core_from_value v = Err (unknown_procedure 0 0)
