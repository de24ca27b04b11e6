-- The lines of a whole script.
use Rattle.std.specs.Prelude.{List}
use Rattle.std.specs.List.{flat_map}
use Rattle.um_defs.specs.declared.types.line.UmLine.{UmLine}
use Rattle.um_defs.specs.um_run_defs.Script.{UmScript}

abbrev pub lines_of : UmScript → List UmLine
lines_of script = flat_map (λ h. h.printed) script.happened
