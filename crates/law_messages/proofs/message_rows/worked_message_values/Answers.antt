use Rattle.std.proofs.Common.{rules}
use Rattle.bits_core.specs.Bits.{bits_of}
use Rattle.aper_defs.specs.Bits.{put_all}
use Rattle.aper_defs.specs.Parts.{number_fields, integer_fields, index_fields, part_fields, string_fields, count_fields}
use Rattle.aper_defs.specs.Layouts.{layout, component_fields, addition_fields, alternative_fields, added_fields, row_fields, body_fields, outcome_fields}
use Rattle.aper_defs.specs.Membership.{Has, HasComponents, HasAdditions, HasAlternative, HasAdded, HasRow, HasBody, HasOutcome}
use Rattle.message_defs.specs.profile_defs.Forms.{tree, parts, rows, procedures, outcome_tree}
use Rattle.message_defs.specs.profile_defs.Profile.{f1_type, xn_type, token_type}
use Rattle.message_defs.specs.F1.{written_f1}
use Rattle.message_defs.specs.Xn.{written_xn}
use Rattle.message_defs.specs.Tokens.{written_token}
use Rattle.law_messages.proofs.message_rows.worked_message_values.Goals as goal

pub returns-clause-tokens : goal.returns-clause-tokens
unfolding bits_of put_all number_fields integer_fields index_fields part_fields string_fields count_fields layout component_fields addition_fields alternative_fields added_fields row_fields body_fields outcome_fields f1_type xn_type token_type tree parts rows procedures outcome_tree written_f1 written_xn written_token Has HasComponents HasAdditions HasAlternative HasAdded HasRow HasBody HasOutcome
returns-clause-tokens c = search rules

pub returns-clause-transfers : goal.returns-clause-transfers
unfolding bits_of put_all number_fields integer_fields index_fields part_fields string_fields count_fields layout component_fields addition_fields alternative_fields added_fields row_fields body_fields outcome_fields f1_type xn_type token_type tree parts rows procedures outcome_tree written_f1 written_xn written_token Has HasComponents HasAdditions HasAlternative HasAdded HasRow HasBody HasOutcome
returns-clause-transfers c = search rules

pub returns-clause-contexts : goal.returns-clause-contexts
unfolding bits_of put_all number_fields integer_fields index_fields part_fields string_fields count_fields layout component_fields addition_fields alternative_fields added_fields row_fields body_fields outcome_fields f1_type xn_type token_type tree parts rows procedures outcome_tree written_f1 written_xn written_token Has HasComponents HasAdditions HasAlternative HasAdded HasRow HasBody HasOutcome
returns-clause-contexts c = search rules

pub returns-clause-releases : goal.returns-clause-releases
unfolding bits_of put_all number_fields integer_fields index_fields part_fields string_fields count_fields layout component_fields addition_fields alternative_fields added_fields row_fields body_fields outcome_fields f1_type xn_type token_type tree parts rows procedures outcome_tree written_f1 written_xn written_token Has HasComponents HasAdditions HasAlternative HasAdded HasRow HasBody HasOutcome
returns-clause-releases c = search rules

pub returns-clause-handover : goal.returns-clause-handover
unfolding bits_of put_all number_fields integer_fields index_fields part_fields string_fields count_fields layout component_fields addition_fields alternative_fields added_fields row_fields body_fields outcome_fields f1_type xn_type token_type tree parts rows procedures outcome_tree written_f1 written_xn written_token Has HasComponents HasAdditions HasAlternative HasAdded HasRow HasBody HasOutcome
returns-clause-handover c = search rules

pub returns-clause-origin : goal.returns-clause-origin
unfolding bits_of put_all number_fields integer_fields index_fields part_fields string_fields count_fields layout component_fields addition_fields alternative_fields added_fields row_fields body_fields outcome_fields f1_type xn_type token_type tree parts rows procedures outcome_tree written_f1 written_xn written_token Has HasComponents HasAdditions HasAlternative HasAdded HasRow HasBody HasOutcome
returns-clause-origin c = search rules

pub returns-clause-read : goal.returns-clause-read
unfolding bits_of put_all number_fields integer_fields index_fields part_fields string_fields count_fields layout component_fields addition_fields alternative_fields added_fields row_fields body_fields outcome_fields f1_type xn_type token_type tree parts rows procedures outcome_tree written_f1 written_xn written_token Has HasComponents HasAdditions HasAlternative HasAdded HasRow HasBody HasOutcome
returns-clause-read c = search rules
