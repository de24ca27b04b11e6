-- What goes on to the target, by its direction.
use Rattle.std.specs.Prelude.{List, ℕ}
use Rattle.gnb_types.specs.declared.names.Dir.{Dir}
use Rattle.gnb_types.specs.declared.names.Dir.TheVariants.{Dl, Ul}
use Rattle.gnb_types.specs.declared.outputs.Tag.{Tag}
use Rattle.unit_defs.specs.Ways.{Way, Load, Answer}
use Rattle.unit_defs.specs.CuUpRecords.{CuUpBearer, CuUpScope}
use Rattle.unit_defs.specs.CuUpBearers.{forwarded_down, forwarded_up}

abbrev pub passed_on : {M C P : Type 0} → Way M C P → Dir → CuUpScope → Tag → Load P → CuUpBearer → Answer M P CuUpBearer
passed_on way Dl at tag load b = forwarded_down way at tag load b
passed_on way Ul at tag load b = forwarded_up way at tag load b
