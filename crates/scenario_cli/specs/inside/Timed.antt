-- Internal: the timer of a form has ticks, the quota of a form is one that an entity takes, and a generated script isn't too long.
use Rattle.std.specs.Prelude.{◌≤◌}
use Rattle.scenario_cli.specs.declared.top.Form.{Form}
use Rattle.scenario_cli.specs.declared.top.Form.TheVariants as forms

abbrev pub IsTimed : Form → Type 0
IsTimed (forms.Um config) = (1 ≤ config.ticks) × (config.ticks ≤ 1000)
IsTimed (forms.Dup config) = (4 ≤ config.quota) × (config.quota ≤ 4096)
IsTimed (forms.Values way) = Unit {0}
IsTimed (forms.Generate packets) = packets ≤ 100000
IsTimed forms.Run = Unit {0}
IsTimed forms.Check = Unit {0}
IsTimed (forms.Profile version) = Unit {0}
IsTimed forms.Verify = Unit {0}
IsTimed forms.Other = Unit {0}
