use Rattle.std.proofs.Common.{refl}
use Rattle.message_defs.specs.profile_defs.Forms.{tree, parts, rows, procedures, outcome_tree}
use Rattle.message_defs.specs.profile_defs.Profile.{f1_type, e1_type, xn_type, core_type, token_type}
use Rattle.proof_aper.proofs.octets.Bounded.{test, parts_test, rows_test, procedures_test, outcome_test, bounded}
use Rattle.law_messages.proofs.message_ranges.profile_types_are_bounded.Goals as goal

pub returns : goal.returns
unfolding f1_type e1_type xn_type core_type token_type tree parts rows procedures outcome_tree test parts_test rows_test procedures_test outcome_test
returns c = record {
  f1 = bounded f1_type refl;
  e1 = bounded e1_type refl;
  xn = bounded (xn_type 1) refl;
  xn_2 = bounded (xn_type 2) refl;
  core = bounded core_type refl;
  token = bounded token_type refl;
}
