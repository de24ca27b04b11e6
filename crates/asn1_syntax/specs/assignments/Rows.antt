-- The names of lower form in the rows of information object sets, in the fixed notation of this project's modules.
use Rattle.std.specs.Prelude.{ℕ, List, Option, Some, None, if◌then◌else◌, codes}
use Rattle.asn1_tokens.specs.Words.{is_text}
use Rattle.asn1_syntax.specs.declared.assignments.assignment.Criticality.{Criticality}
use Rattle.asn1_syntax.specs.declared.assignments.assignment.Criticality.TheVariants as criticalities
use Rattle.asn1_syntax.specs.declared.assignments.assignment.Presence.{Presence}
use Rattle.asn1_syntax.specs.declared.assignments.assignment.Presence.TheVariants as presences

unfoldable pub criticality_of : List ℕ → Option Criticality
criticality_of name =
    if is_text name (codes "reject") then Some criticalities.Reject else (
    if is_text name (codes "ignore") then Some criticalities.Ignore else (
    if is_text name (codes "notify") then Some criticalities.Notify else None))

unfoldable pub presence_of : List ℕ → Option Presence
presence_of name =
    if is_text name (codes "mandatory") then Some presences.Mandatory else (
    if is_text name (codes "optional") then Some presences.Optional else None)
