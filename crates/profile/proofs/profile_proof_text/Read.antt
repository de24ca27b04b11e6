-- A text that passes the test is a text of the profile.
use Rattle.std.proofs.Common.{◌≡◌, ℕ, ◌==◌, Bool, true, false, List, length, Option, Some, None, Result, Ok, Err, refl, arith}
use Rattle.std.specs.Prelude.{◌&&◌, is_none}
use Rattle.asn1_tokens.specs.Words.{is_text}
use Rattle.asn1_syntax.specs.declared.types.fault.Fault.{Fault}
use Rattle.asn1_syntax.specs.declared.assignments.assignment.Syntax.{Syntax}
use Rattle.asn1_syntax.specs.assignments.inside.Module.{syntax_of}
use Rattle.proof_asn1.proofs.reading.Readings.{is_text_of}
use Rattle.asn1_defs.specs.Targets.{type_ids}
use Rattle.asn1_defs.specs.Names.{first_unknown}
use Rattle.message_defs.specs.profile_defs.Forms.{Form}
use Rattle.message_defs.specs.profile_defs.Profile.{module_name}
use Rattle.message_defs.specs.profile_defs.Agreement.{differs}
use Rattle.profile.specs.profile_proof_text.Texts.{IsProfileText}
use Rattle.profile.proofs.profile_proof_text.Layers.{is_layered, layers, sound_of}

abbrev pub agreeing : List Form → Syntax → Bool
agreeing types m = is_none (differs types m) && (is_text m.name module_name && ((length (type_ids m.assignments) == 53)
    && (is_none (first_unknown m.assignments m.nodes) && is_layered m)))

abbrev pub is_read_so : List Form → Result Syntax Fault → Bool
is_read_so types (Ok m) = agreeing types m
is_read_so types (Err fault) = false

both_left : (a b : Bool) → (a && b) ≡ true → a ≡ true
both_left true b h = refl
both_left false b h = cc

both_right : (a b : Bool) → (a && b) ≡ true → b ≡ true
both_right true b h = h
both_right false b h = cc

none_is : (x : Option (List ℕ)) → is_none x ≡ true → x ≡ None
none_is None h = refl
none_is (Some x) h = cc

same : (a b : ℕ) → (a == b) ≡ true → a ≡ b
same a b h = grind arith

pub is_read : (types : List Form) (text : List ℕ) → is_read_so types (syntax_of text) ≡ true → IsProfileText types text
is_read types text h = by (syntax_of text) refl h
  where
    by : (r : Result Syntax Fault) → syntax_of text ≡ r → is_read_so types r ≡ true → IsProfileText types text
    by (Ok m) e h =
        let name = is_text m.name module_name in
        let count = length (type_ids m.assignments) == 53 in
        let known = is_none (first_unknown m.assignments m.nodes) in
        let last = known && is_layered m in
        let g : (name && (count && last)) ≡ true = both_right (is_none (differs types m)) (name && (count && last)) h in
        let k : (count && last) ≡ true = both_right name (count && last) g in
        let l : last ≡ true = both_right count last k in
        record {
          m = m;
          is = is_text_of text m e;
          sound = sound_of m (layers m) (both_right known (is_layered m) l) (both_left known (is_layered m) l);
          agrees = none_is (differs types m) (both_left (is_none (differs types m)) (name && (count && last)) h);
          name = both_left name (count && last) g;
          count = same (length (type_ids m.assignments)) 53 (both_left count last k);
        }
    by (Err fault) e h = cc
