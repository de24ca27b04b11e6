-- The tokens of RRC (TS 38.331): the value that is written for a token, what a value says, and what is heard in a value.
use Rattle.std.specs.Prelude.{ℕ, ◌-◌, ◌==◌, [], Result, Ok, Err, if◌then◌else◌}
use Rattle.gnb_types.specs.declared.names.UeId.{UeId}
use Rattle.message_types.specs.declared.rrc.Token.{Token}
use Rattle.message_types.specs.declared.rrc.Token.TheVariants as tokens
use Rattle.aper_defs.specs.Values.{Value, Options, raw, enumeral, components, chosen, no_options, absent, present}
use Rattle.message_defs.specs.profile_defs.Profile.{token_type}
use Rattle.message_defs.specs.Fields.{from_number, to_number, from_ue, to_ue, to_index, gnb_index, gnb_at}
use Rattle.message_defs.specs.Known.{Says}
use Rattle.message_defs.specs.FromValue.{Cause, unknown_procedure}

-- the alternatives, in their order
abbrev pub command : ℕ
command = 0

abbrev pub complete : ℕ
complete = 1

abbrev pub reestablish : ℕ
reestablish = 2

abbrev pub accepted : ℕ
accepted = 3

abbrev pub written_mark : UeId → ℕ → Value
written_mark ue epoch = components (present (from_ue ue) (present (from_number epoch) no_options)) no_options

unfoldable pub written_token : Token → Value
written_token (tokens.Command ue epoch gnb du) = chosen command (components
    (present (from_ue ue) (present (from_number epoch) (present (enumeral (gnb_index gnb)) (present (from_number du) no_options)))) no_options)
written_token (tokens.Complete ue epoch) = chosen complete (written_mark ue epoch)
written_token (tokens.Reestablish ue epoch) = chosen reestablish (written_mark ue epoch)
written_token (tokens.Accepted ue epoch) = chosen accepted (written_mark ue epoch)

abbrev pub SaysToken : Token → Value → Type 0
SaysToken token v = Says token_type (written_token token) v

-- a component by its number
abbrev pub component_in : ℕ → Options → Value
component_in n no_options = raw []
component_in n (absent vs) = if n == 0 then raw [] else component_in (n - 1) vs
component_in n (present v vs) = if n == 0 then v else component_in (n - 1) vs

abbrev pub components_in : Value → Options
components_in (components vs more) = vs
components_in v = no_options

abbrev pub token_at : ℕ → Options → Result Token Cause
token_at index vs =
    if index == command then Ok (tokens.Command (to_ue (component_in 0 vs)) (to_number (component_in 1 vs))
    (gnb_at (to_index (component_in 2 vs))) (to_number (component_in 3 vs)))
    else if index == complete then Ok (tokens.Complete (to_ue (component_in 0 vs)) (to_number (component_in 1 vs)))
    else if index == reestablish then Ok (tokens.Reestablish (to_ue (component_in 0 vs)) (to_number (component_in 1 vs)))
    else if index == accepted then Ok (tokens.Accepted (to_ue (component_in 0 vs)) (to_number (component_in 1 vs)))
    else Err (unknown_procedure 0 0)

unfoldable pub token_from_value : Value → Result Token Cause
token_from_value (chosen index body) = token_at index (components_in body)
token_from_value v = Err (unknown_procedure 0 0)
