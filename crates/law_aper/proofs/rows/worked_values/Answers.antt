use Rattle.std.proofs.Common.{rules}
use Rattle.bits_core.specs.Bits.{bits_of}
use Rattle.aper_defs.specs.Bits.{put_all}
use Rattle.aper_defs.specs.Parts.{number_fields, integer_fields, index_fields, part_fields, string_fields, count_fields}
use Rattle.aper_defs.specs.Layouts.{layout, component_fields, addition_fields, alternative_fields, added_fields, row_fields, body_fields, outcome_fields}
use Rattle.aper_defs.specs.Membership.{Has, HasComponents, HasAdditions, HasAlternative, HasAdded, HasRow, HasBody, HasOutcome}
use Rattle.law_aper.proofs.rows.worked_values.Goals as goal

pub returns-clause-worked : goal.returns-clause-worked
unfolding bits_of put_all number_fields integer_fields index_fields part_fields string_fields count_fields layout component_fields addition_fields alternative_fields added_fields row_fields body_fields outcome_fields Has HasComponents HasAdditions HasAlternative HasAdded HasRow HasBody HasOutcome
returns-clause-worked c = search rules

pub returns-clause-forms : goal.returns-clause-forms
unfolding bits_of put_all number_fields integer_fields index_fields part_fields string_fields count_fields layout component_fields addition_fields alternative_fields added_fields row_fields body_fields outcome_fields Has HasComponents HasAdditions HasAlternative HasAdded HasRow HasBody HasOutcome
returns-clause-forms c = search rules

pub returns-clause-more_forms : goal.returns-clause-more_forms
unfolding bits_of put_all number_fields integer_fields index_fields part_fields string_fields count_fields layout component_fields addition_fields alternative_fields added_fields row_fields body_fields outcome_fields Has HasComponents HasAdditions HasAlternative HasAdded HasRow HasBody HasOutcome
returns-clause-more_forms c = search rules

pub returns-clause-messages : goal.returns-clause-messages
unfolding bits_of put_all number_fields integer_fields index_fields part_fields string_fields count_fields layout component_fields addition_fields alternative_fields added_fields row_fields body_fields outcome_fields Has HasComponents HasAdditions HasAlternative HasAdded HasRow HasBody HasOutcome
returns-clause-messages c = search rules
