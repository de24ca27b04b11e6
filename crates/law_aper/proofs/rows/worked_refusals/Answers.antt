use Rattle.std.proofs.Common.{refl}
use Rattle.bits_core.specs.Bits.{bits_of}
use Rattle.aper_defs.specs.Questions.{ask_number, ask_integer, ask_index, ask_parts, ask_string, ask_count}
use Rattle.aper_defs.specs.Asking.{asks, ask_components, ask_additions, ask_alternative, ask_added, ask_row, ask_body, ask_outcome}
use Rattle.aper_defs.specs.Reading.{read, read_units, run}
use Rattle.law_aper.proofs.rows.worked_refusals.Goals as goal

pub returns : goal.returns
unfolding bits_of ask_number ask_integer ask_index ask_parts ask_string ask_count asks ask_components ask_additions ask_alternative ask_added ask_row ask_body ask_outcome read read_units run
returns c = refl
