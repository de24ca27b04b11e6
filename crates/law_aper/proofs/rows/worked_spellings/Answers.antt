use Rattle.std.proofs.Common.{refl}
use Rattle.bits_core.specs.Bits.{bits_of}
use Rattle.aper_defs.specs.Bits.{put_all}
use Rattle.aper_defs.specs.Parts.{number_fields, integer_fields, index_fields, part_fields, string_fields, count_fields}
use Rattle.aper_defs.specs.Layouts.{layout, component_fields, addition_fields, alternative_fields, added_fields, row_fields, body_fields, outcome_fields}
use Rattle.law_aper.proofs.rows.worked_spellings.Goals as goal

pub returns : goal.returns
unfolding bits_of put_all number_fields integer_fields index_fields part_fields string_fields count_fields layout component_fields addition_fields alternative_fields added_fields row_fields body_fields outcome_fields
returns c = record { worked = refl; forms = refl; more_forms = refl; messages = refl }
