use Rattle.std.proofs.Common.{refl}
use Rattle.bits_core.specs.Bits.{bits_of}
use Rattle.aper_defs.specs.Bits.{put_all}
use Rattle.aper_defs.specs.Parts.{number_fields, part_fields, string_fields}
use Rattle.aper_defs.specs.Layouts.{layout}
use Rattle.aper_defs.specs.Questions.{ask_number, ask_parts, ask_string}
use Rattle.aper_defs.specs.Asking.{asks}
use Rattle.aper_defs.specs.Reading.{read, read_units, run}
use Rattle.law_aper.proofs.rows.worked_fragments.Goals as goal

pub returns : goal.returns
unfolding bits_of put_all number_fields part_fields string_fields layout ask_number ask_parts ask_string asks read read_units run
returns c = record { spelled = refl; read = refl }
