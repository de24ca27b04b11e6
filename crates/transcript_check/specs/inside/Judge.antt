-- Internal: what a judge answers.
use Rattle.std.specs.Prelude.{◌<◌, Bool, true, false, List, Option, Some, None, if◌then◌else◌}
use Rattle.scenario_text.specs.declared.line.OutLine.TheVariants as lines
use Rattle.transcript_defs.specs.declared.line.TextLine.{TextLine}
use Rattle.transcript_defs.specs.declared.line.TextLine.TheVariants.{Printed, OutstandingWide}
use Rattle.transcript_defs.specs.declared.rule.Rule.{Rule}
use Rattle.transcript_defs.specs.declared.rule.Rule.TheVariants as rules
use Rattle.transcript_defs.specs.Rules.{IsFirst, IsStop, Spelling, a_line, Keeps, rule_number}

-- a line may stand after the newest one
abbrev pub Follows : Option TextLine → TextLine → Type 0
Follows None line = IsFirst line
Follows (Some (Printed (lines.End events))) line = ⊥
Follows (Some (Printed (lines.Stop code place reason))) line = ⊥
Follows (Some (Printed (lines.Outstanding ue bearer dir span window))) line = IsStop line
Follows (Some (OutstandingWide ue bearer dir span window)) line = IsStop line
Follows (Some other) line = Unit {0}

unfoldable pub shows_event : TextLine → Bool
shows_event (Printed (lines.Happens event)) = true
shows_event line = false

-- the first rule that a line breaks, if it breaks one
abbrev pub FirstBroken : Spelling → List TextLine → TextLine → Option Rule → Type 0
FirstBroken encode past line None = (rule : Rule) → Keeps encode rule past (a_line line)
FirstBroken encode past line (Some rule) =
    (Keeps encode rule past (a_line line) → ⊥) × ((other : Rule) → rule_number other < rule_number rule → Keeps encode other past (a_line line))

-- the rule of the first test that failed
abbrev pub first_failed : Bool → Bool → Bool → Bool → Bool → Bool → Bool → Option Rule
first_failed form wire packet count order seen spelling =
    if form then (if wire then (if packet then (if count then (if order then (if seen then (if spelling then None
    else Some rules.Spelling) else Some rules.Seen) else Some rules.Order) else Some rules.Count) else Some rules.Packet) else Some rules.Wire) else Some rules.Form
