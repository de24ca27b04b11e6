use Rattle.std.proofs.Common.{refl}
use Rattle.bits_core.specs.Bits.{bits_of}
use Rattle.aper_defs.specs.Bits.{put_all}
use Rattle.aper_defs.specs.Parts.{number_fields, integer_fields, index_fields, part_fields, string_fields, count_fields}
use Rattle.aper_defs.specs.Layouts.{layout, component_fields, addition_fields, alternative_fields, added_fields, row_fields, body_fields, outcome_fields}
use Rattle.message_defs.specs.profile_defs.Forms.{tree, parts, rows, procedures, outcome_tree}
use Rattle.message_defs.specs.profile_defs.Profile.{f1_type, xn_type, token_type}
use Rattle.message_defs.specs.F1.{written_f1}
use Rattle.message_defs.specs.Xn.{written_xn}
use Rattle.message_defs.specs.Tokens.{written_token}
use Rattle.law_messages.proofs.message_rows.worked_messages.Goals as goal

pub returns : goal.returns
unfolding bits_of put_all number_fields integer_fields index_fields part_fields string_fields count_fields layout component_fields addition_fields alternative_fields added_fields row_fields body_fields outcome_fields f1_type xn_type token_type tree parts rows procedures outcome_tree written_f1 written_xn written_token
returns c = record { tokens = refl; transfers = refl; contexts = refl; releases = refl; handover = refl; origin = refl; read = refl }
