use Rattle.std.proofs.Common.{refl}
use Rattle.asn1_tokens.specs.Scan.{after_gap, after_name, after_digits, after_number, magnitude, name_token, long_sign, short_sign, number_lexeme, lexeme_at}
use Rattle.asn1_tokens.specs.Stream.{scan}
use Rattle.asn1_tokens.specs.Words.{is_text, module_word, simple_type_word, part_type_word, set_word, procedure_word, word_of, is_left_out}
use Rattle.asn1_syntax.specs.types.inside.Members.{new_name_at, list_goes_on_at, name_entry_at, names_turn_at, names_at, named_at, entry_at, optional_at, member_end_at}
use Rattle.asn1_syntax.specs.types.inside.Reading.{unexpected, word_at, sign_at, upper_at, lower_at, number_at, repeat_at}
use Rattle.asn1_syntax.specs.types.inside.Sizes.{bounded_at, natural_at, ellipsis_at, size_end_at, size_rest_at, size_at, optional_size_at, integer_ellipsis_at, integer_at}
use Rattle.asn1_syntax.specs.types.inside.Types.{enumerated_at, string_at, rest_at, simple_rest_at, simple_at, list_head_at, components_head_at, sequence_head_at, choice_head_at, set_name_at, container_at, pdu_at, reference_at, head_by, rise_at, type_turn_at, type_within_at, type_at}
use Rattle.asn1_syntax.specs.assignments.inside.Module.{new_assignment_at, ie_body_at, procedure_body_at, type_body_at, body_at, assignment_at, module_turn_at, header_at, assignments_at, syntax_at}
use Rattle.asn1_syntax.specs.assignments.Rows.{criticality_of, presence_of}
use Rattle.asn1_syntax.specs.assignments.inside.Rows.{new_number_at, criticality_at, presence_at, ie_row_at, outcome_at, messages_at, procedure_row_at}
use Rattle.asn1_syntax.specs.assignments.inside.Sets.{set_goes_on_at, ie_turn_at, procedure_turn_at, set_start_at, ie_set_at, procedure_set_at}
use Rattle.asn1_defs.specs.Graph.{member_edges, node_edges, nodes_edges, range_edges, parts_edges, edges_of}
use Rattle.asn1_defs.specs.Judgement.{node_weights}
use Rattle.asn1_defs.specs.Targets.{type_ids, find_type, ie_rows, procedure_rows}
use Rattle.asn1_defs.specs.Names.{kind_of_name, is_known, first_unknown}
use Rattle.message_defs.specs.profile_defs.Profile.{profile_types}
use Rattle.message_defs.specs.profile_defs.Agreement.{is_form, are_components, are_additions, are_elements, are_procedures, is_outcome}
use Rattle.profile.proofs.profile_proof_text.Layers.{raise, relaxed, rounds, layers}
use Rattle.profile.proofs.profile_proof_text.Read.{is_read}
use Rattle.profile.proofs.profile_proof_text.profile_texts_agree.Goals as goal

pub returns : goal.returns
unfolding raise relaxed rounds layers member_edges node_edges nodes_edges range_edges parts_edges edges_of node_weights type_ids kind_of_name is_known first_unknown after_gap after_name after_digits after_number magnitude name_token long_sign short_sign number_lexeme lexeme_at scan is_text module_word simple_type_word part_type_word set_word procedure_word word_of is_left_out new_name_at list_goes_on_at name_entry_at names_turn_at names_at named_at entry_at optional_at member_end_at unexpected word_at sign_at upper_at lower_at number_at repeat_at bounded_at natural_at ellipsis_at size_end_at size_rest_at size_at optional_size_at integer_ellipsis_at integer_at enumerated_at string_at rest_at simple_rest_at simple_at list_head_at components_head_at sequence_head_at choice_head_at set_name_at container_at pdu_at reference_at head_by rise_at type_turn_at type_within_at type_at new_assignment_at ie_body_at procedure_body_at type_body_at body_at assignment_at module_turn_at header_at assignments_at syntax_at new_number_at criticality_of criticality_at presence_of presence_at ie_row_at outcome_at messages_at procedure_row_at set_goes_on_at ie_turn_at procedure_turn_at set_start_at ie_set_at procedure_set_at find_type ie_rows procedure_rows profile_types is_form are_components are_additions are_elements are_procedures is_outcome
returns c = record { one = is_read (profile_types 1) _ refl; two = is_read (profile_types 2) _ refl }
