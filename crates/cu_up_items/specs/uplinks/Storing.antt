-- A packet up that was stored: while frozen it goes to the target as well, else what is awaited is delivered.
use Rattle.std.specs.Prelude.{ℕ, List, if◌then◌else◌}
use Rattle.gnb_types.specs.declared.outputs.Tag.TheVariants.{Same}
use Rattle.unit_defs.specs.Ways.{Way, Answer, numbered}
use Rattle.unit_defs.specs.CuUpRecords.{CuUpBearer, CuUpScope}
use Rattle.unit_defs.specs.CuUpBearers.{deliver_stored, forwarded_up}

abbrev pub kept_at : {M C P : Type 0} → Way M C P → CuUpScope → ℕ → List ℕ → CuUpBearer → Answer M P CuUpBearer
kept_at way at count p b = if at.flags.frozen then forwarded_up way at Same (numbered at.sn count p) b else deliver_stored way at b
