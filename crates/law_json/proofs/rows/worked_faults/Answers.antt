use Rattle.std.proofs.Common.{refl}
use Rattle.bits_core.specs.Bits.{bits_of}
use Rattle.aper_defs.specs.Bits.{put_all}
use Rattle.aper_defs.specs.Parts.{number_fields, integer_fields, string_fields, part_fields, index_fields, count_fields}
use Rattle.aper_defs.specs.Layouts.{layout, component_fields, addition_fields, alternative_fields, added_fields, row_fields, body_fields, outcome_fields}
use Rattle.json_defs.specs.Readings.{value_of, components_in, added_in, alternative_in, row_in, body_in, told_in}
use Rattle.json_defs.specs.Demands.{demands, component_demands, each_added, open_demands, alternative_demands, addition_demands, row_demands, body_demands, outcome_demands}
use Rattle.json_defs.specs.Named.{tree_of, parts_of, rows_of, procedures_of, outcome_of}
use Rattle.law_json.proofs.rows.worked_faults.Goals as goal

pub returns : goal.returns
unfolding bits_of put_all number_fields integer_fields string_fields part_fields index_fields count_fields layout component_fields addition_fields alternative_fields added_fields row_fields body_fields outcome_fields demands component_demands each_added open_demands alternative_demands addition_demands row_demands body_demands outcome_demands value_of components_in added_in alternative_in row_in body_in told_in tree_of parts_of rows_of procedures_of outcome_of
returns c = refl
