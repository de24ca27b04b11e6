-- The types of PDUs and tokens are within the bounds of encodings.
use Rattle.std.proofs.Common.{refl}
use Rattle.aper_defs.specs.Bounds.{IsBounded}
use Rattle.profile.specs.declared.version.Version.{Version}
use Rattle.profile.specs.declared.version.Version.TheVariants.{One, Two}
use Rattle.profile.specs.Versions.{number_of}
use Rattle.message_defs.specs.profile_defs.Forms.{tree, parts, rows, procedures, outcome_tree}
use Rattle.message_defs.specs.profile_defs.Profile.{f1_type, e1_type, xn_type, core_type, token_type}
use Rattle.proof_aper.proofs.octets.Bounded.{test, parts_test, rows_test, procedures_test, outcome_test, bounded}

pub f1 : IsBounded f1_type
unfolding f1_type tree parts rows procedures outcome_tree test parts_test rows_test procedures_test outcome_test
f1 = bounded f1_type refl

pub e1 : IsBounded e1_type
unfolding e1_type tree parts rows procedures outcome_tree test parts_test rows_test procedures_test outcome_test
e1 = bounded e1_type refl

pub xn : (w : Version) → IsBounded (xn_type (number_of w))
unfolding xn_type tree parts rows procedures outcome_tree test parts_test rows_test procedures_test outcome_test
xn One = bounded (xn_type 1) refl
xn Two = bounded (xn_type 2) refl

pub core : IsBounded core_type
unfolding core_type tree parts rows procedures outcome_tree test parts_test rows_test procedures_test outcome_test
core = bounded core_type refl

pub token : IsBounded token_type
unfolding token_type tree parts rows procedures outcome_tree test parts_test rows_test procedures_test outcome_test
token = bounded token_type refl
