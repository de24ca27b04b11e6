use Rattle.std.proofs.Common.{rules}
use Rattle.bits_core.specs.Bits.{bits_of}
use Rattle.aper_defs.specs.Bits.{put_all}
use Rattle.aper_defs.specs.Parts.{number_fields, integer_fields, index_fields, part_fields, string_fields, count_fields}
use Rattle.aper_defs.specs.Layouts.{layout, component_fields, addition_fields, alternative_fields, added_fields, row_fields, body_fields, outcome_fields}
use Rattle.aper_defs.specs.Membership.{Has, HasComponents, HasAdditions, HasAlternative, HasAdded, HasRow, HasBody, HasOutcome}
use Rattle.message_defs.specs.profile_defs.Forms.{tree, parts, rows, procedures, outcome_tree}
use Rattle.message_defs.specs.profile_defs.Profile.{f1_type, e1_type, xn_type, core_type, token_type}
use Rattle.message_defs.specs.F1.{written_f1}
use Rattle.message_defs.specs.E1.{written_e1}
use Rattle.message_defs.specs.Xn.{written_xn}
use Rattle.message_defs.specs.Core.{written_core}
use Rattle.message_defs.specs.Tokens.{written_token}
use Rattle.law_messages.proofs.message_rows.least_and_greatest_message_values.Goals as goal

pub returns-clause-least_f1 : goal.returns-clause-least_f1
unfolding bits_of put_all number_fields integer_fields index_fields part_fields string_fields count_fields layout component_fields addition_fields alternative_fields added_fields row_fields body_fields outcome_fields f1_type e1_type xn_type core_type token_type tree parts rows procedures outcome_tree written_f1 written_e1 written_xn written_core written_token Has HasComponents HasAdditions HasAlternative HasAdded HasRow HasBody HasOutcome
returns-clause-least_f1 c = search rules

pub returns-clause-least_e1 : goal.returns-clause-least_e1
unfolding bits_of put_all number_fields integer_fields index_fields part_fields string_fields count_fields layout component_fields addition_fields alternative_fields added_fields row_fields body_fields outcome_fields f1_type e1_type xn_type core_type token_type tree parts rows procedures outcome_tree written_f1 written_e1 written_xn written_core written_token Has HasComponents HasAdditions HasAlternative HasAdded HasRow HasBody HasOutcome
returns-clause-least_e1 c = search rules

pub returns-clause-least_xn : goal.returns-clause-least_xn
unfolding bits_of put_all number_fields integer_fields index_fields part_fields string_fields count_fields layout component_fields addition_fields alternative_fields added_fields row_fields body_fields outcome_fields f1_type e1_type xn_type core_type token_type tree parts rows procedures outcome_tree written_f1 written_e1 written_xn written_core written_token Has HasComponents HasAdditions HasAlternative HasAdded HasRow HasBody HasOutcome
returns-clause-least_xn c = search rules

pub returns-clause-least_core : goal.returns-clause-least_core
unfolding bits_of put_all number_fields integer_fields index_fields part_fields string_fields count_fields layout component_fields addition_fields alternative_fields added_fields row_fields body_fields outcome_fields f1_type e1_type xn_type core_type token_type tree parts rows procedures outcome_tree written_f1 written_e1 written_xn written_core written_token Has HasComponents HasAdditions HasAlternative HasAdded HasRow HasBody HasOutcome
returns-clause-least_core c = search rules

pub returns-clause-greatest_core : goal.returns-clause-greatest_core
unfolding bits_of put_all number_fields integer_fields index_fields part_fields string_fields count_fields layout component_fields addition_fields alternative_fields added_fields row_fields body_fields outcome_fields f1_type e1_type xn_type core_type token_type tree parts rows procedures outcome_tree written_f1 written_e1 written_xn written_core written_token Has HasComponents HasAdditions HasAlternative HasAdded HasRow HasBody HasOutcome
returns-clause-greatest_core c = search rules

pub returns-clause-least_token : goal.returns-clause-least_token
unfolding bits_of put_all number_fields integer_fields index_fields part_fields string_fields count_fields layout component_fields addition_fields alternative_fields added_fields row_fields body_fields outcome_fields f1_type e1_type xn_type core_type token_type tree parts rows procedures outcome_tree written_f1 written_e1 written_xn written_core written_token Has HasComponents HasAdditions HasAlternative HasAdded HasRow HasBody HasOutcome
returns-clause-least_token c = search rules

pub returns-clause-greatest_token : goal.returns-clause-greatest_token
unfolding bits_of put_all number_fields integer_fields index_fields part_fields string_fields count_fields layout component_fields addition_fields alternative_fields added_fields row_fields body_fields outcome_fields f1_type e1_type xn_type core_type token_type tree parts rows procedures outcome_tree written_f1 written_e1 written_xn written_core written_token Has HasComponents HasAdditions HasAlternative HasAdded HasRow HasBody HasOutcome
returns-clause-greatest_token c = search rules
