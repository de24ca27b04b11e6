-- The types of PDUs and tokens: the first wrong field of octets that are refused.
use Rattle.std.proofs.Common.{◌≡◌, ℕ, List, Err, refl}
use Rattle.aper_defs.specs.Bounds.{IsBounded}
use Rattle.aper_defs.specs.Reading.{Fault, decoded}
use Rattle.aper_defs.specs.loose_defs.Sets.{HasSets}
use Rattle.aper_defs.specs.loose_defs.Wrong.{WrongAt}
use Rattle.message_defs.specs.profile_defs.Forms.{tree, parts, rows, procedures, outcome_tree}
use Rattle.message_defs.specs.profile_defs.Profile.{f1_type, e1_type, xn_type, core_type, token_type}
use Rattle.proof_aper.proofs.octets.Bounded.{bounded}
use Rattle.proof_aper.proofs.octets.Bounded as bounds
use Rattle.proof_aper.proofs.refused.Refused.{refused_wrong}
use Rattle.proof_messages.proofs.message_refusals.Sets.{test, parts_test, rows_test, procedures_test, outcome_test, has_sets}

f1_bounded : IsBounded f1_type
unfolding f1_type tree parts rows procedures outcome_tree bounds.test bounds.parts_test bounds.rows_test bounds.procedures_test bounds.outcome_test
f1_bounded = bounded f1_type refl

f1_sets : HasSets f1_type
unfolding f1_type tree parts rows procedures outcome_tree test parts_test rows_test procedures_test outcome_test
f1_sets = has_sets f1_type refl

pub f1 : (octets : List ℕ) (fault : Fault) → decoded f1_type octets ≡ Err fault → WrongAt f1_type octets fault
f1 octets fault e = refused_wrong f1_type octets fault f1_bounded f1_sets e

e1_bounded : IsBounded e1_type
unfolding e1_type tree parts rows procedures outcome_tree bounds.test bounds.parts_test bounds.rows_test bounds.procedures_test bounds.outcome_test
e1_bounded = bounded e1_type refl

e1_sets : HasSets e1_type
unfolding e1_type tree parts rows procedures outcome_tree test parts_test rows_test procedures_test outcome_test
e1_sets = has_sets e1_type refl

pub e1 : (octets : List ℕ) (fault : Fault) → decoded e1_type octets ≡ Err fault → WrongAt e1_type octets fault
e1 octets fault e = refused_wrong e1_type octets fault e1_bounded e1_sets e

core_bounded : IsBounded core_type
unfolding core_type tree parts rows procedures outcome_tree bounds.test bounds.parts_test bounds.rows_test bounds.procedures_test bounds.outcome_test
core_bounded = bounded core_type refl

core_sets : HasSets core_type
unfolding core_type tree parts rows procedures outcome_tree test parts_test rows_test procedures_test outcome_test
core_sets = has_sets core_type refl

pub core : (octets : List ℕ) (fault : Fault) → decoded core_type octets ≡ Err fault → WrongAt core_type octets fault
core octets fault e = refused_wrong core_type octets fault core_bounded core_sets e

token_bounded : IsBounded token_type
unfolding token_type tree parts rows procedures outcome_tree bounds.test bounds.parts_test bounds.rows_test bounds.procedures_test bounds.outcome_test
token_bounded = bounded token_type refl

token_sets : HasSets token_type
unfolding token_type tree parts rows procedures outcome_tree test parts_test rows_test procedures_test outcome_test
token_sets = has_sets token_type refl

pub token : (octets : List ℕ) (fault : Fault) → decoded token_type octets ≡ Err fault → WrongAt token_type octets fault
token octets fault e = refused_wrong token_type octets fault token_bounded token_sets e

xn1_bounded : IsBounded (xn_type 1)
unfolding xn_type tree parts rows procedures outcome_tree bounds.test bounds.parts_test bounds.rows_test bounds.procedures_test bounds.outcome_test
xn1_bounded = bounded (xn_type 1) refl

xn1_sets : HasSets (xn_type 1)
unfolding xn_type tree parts rows procedures outcome_tree test parts_test rows_test procedures_test outcome_test
xn1_sets = has_sets (xn_type 1) refl

pub xn1 : (octets : List ℕ) (fault : Fault) → decoded (xn_type 1) octets ≡ Err fault → WrongAt (xn_type 1) octets fault
xn1 octets fault e = refused_wrong (xn_type 1) octets fault xn1_bounded xn1_sets e

xn2_bounded : IsBounded (xn_type 2)
unfolding xn_type tree parts rows procedures outcome_tree bounds.test bounds.parts_test bounds.rows_test bounds.procedures_test bounds.outcome_test
xn2_bounded = bounded (xn_type 2) refl

xn2_sets : HasSets (xn_type 2)
unfolding xn_type tree parts rows procedures outcome_tree test parts_test rows_test procedures_test outcome_test
xn2_sets = has_sets (xn_type 2) refl

pub xn2 : (octets : List ℕ) (fault : Fault) → decoded (xn_type 2) octets ≡ Err fault → WrongAt (xn_type 2) octets fault
xn2 octets fault e = refused_wrong (xn_type 2) octets fault xn2_bounded xn2_sets e
