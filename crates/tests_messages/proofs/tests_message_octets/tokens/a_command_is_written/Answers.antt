use Rattle.std.proofs.Common.{rules, lit≤}
use Rattle.bits_core.specs.Bits.{bits_of}
use Rattle.aper_defs.specs.Bits.{put_all}
use Rattle.aper_defs.specs.Parts.{number_fields, integer_fields, index_fields, part_fields, string_fields, count_fields}
use Rattle.aper_defs.specs.Layouts.{layout, component_fields, addition_fields, alternative_fields, added_fields}
use Rattle.aper_defs.specs.Membership.{Has, HasComponents, HasAdditions, HasAlternative, HasAdded}
use Rattle.message_defs.specs.profile_defs.Forms.{tree, parts}
use Rattle.message_defs.specs.profile_defs.Profile.{token_type}
use Rattle.message_defs.specs.Tokens.{written_token}
use Rattle.tests_messages.proofs.tests_message_octets.tokens.a_command_is_written.Goals as goal

pub is_written-requires-clause-member : goal.is_written-requires-clause-member
unfolding token_type tree parts written_token Has HasComponents HasAdditions HasAlternative HasAdded
is_written-requires-clause-member g c = search rules

pub is_written-requires-clause-short : goal.is_written-requires-clause-short
unfolding put_all bits_of number_fields integer_fields index_fields part_fields string_fields count_fields layout component_fields addition_fields alternative_fields added_fields token_type tree parts written_token
is_written-requires-clause-short g c = lit≤ tt
