-- What is spelled for a message is read as the message between two nodes of its interface.
use Rattle.std.proofs.Common.{◌≡◌, ℕ, Bool, true, false, cond, List, [], Result, Ok, Err, refl, sym, ap, ◌∙◌}
use Rattle.gnb_types.specs.declared.names.NodeId.{NodeId}
use Rattle.gnb_types.specs.declared.names.NodeId.TheVariants.{CuCp, CuUp, Du, Core, Ue}
use Rattle.gnb_types.specs.declared.names.Gnb.TheVariants.{A}
use Rattle.aper_defs.specs.Trees.{Tree}
use Rattle.aper_defs.specs.Values.{Value}
use Rattle.aper_defs.specs.Reading.{Fault, decoded}
use Rattle.aper_defs.specs.octet_defs.Octets.{laid_out, is_found, spelled_as}
use Rattle.proof_aper.proofs.octets.SameValues.{value_is}
use Rattle.message_defs.specs.profile_defs.Profile.{f1_type, e1_type, xn_type, core_type, token_type}
use Rattle.message_defs.specs.FromValue.{Cause}
use Rattle.message_defs.specs.F1.{written_f1, f1_from_value}
use Rattle.message_defs.specs.E1.{written_e1, e1_from_value}
use Rattle.message_defs.specs.Xn.{written_xn, xn_from_value}
use Rattle.message_defs.specs.Core.{written_core, core_from_value}
use Rattle.message_defs.specs.Tokens.{written_token, token_from_value}
use Rattle.proof_heard_messages.proofs.HeardF1 as f1s
use Rattle.proof_heard_messages.proofs.HeardE1 as e1s
use Rattle.proof_heard_messages.proofs.HeardXn as xns
use Rattle.proof_heard_messages.proofs.HeardCore as cores
use Rattle.proof_heard_messages.proofs.HeardTokens as tokens
use Rattle.message_octets.specs.Reading.{unless_dropped, read_value, read_as}
use Rattle.unit_defs.specs.Ways.{Message, f1, e1, xn, core, rrc}
use Rattle.message_codec_defs.specs.Codecs.{octets_of_message, answered, read_between}
use Rattle.proof_message_codec.proofs.codec.Kept.{stays}
use Rattle.message_spellings.specs.inside.Spelled.{IsSpelledBetween, IsSpelledSomewhere, OnF1, OnE1, OnXn, WithCore, OnRadio}

-- ---- a value is found in its spelling

found_only : (v : Value) (r : Result Value Fault) → is_found v r ≡ true → r ≡ Ok v
found_only v (Ok w) h = ap Ok (value_is w v h)
found_only v (Err fault) h = cc

module _ (t : Tree) (v : Value) (octets : List ℕ) (some : octets ≡ [] → ⊥) where
  by : (b : Bool) → is_found v (decoded t (laid_out t v)) ≡ b → cond b (laid_out t v) [] ≡ octets → decoded t octets ≡ Ok v
  by true found e = ap (decoded t) (sym e) ∙ found_only v (decoded t (laid_out t v)) found
  by false found e = absurd (some (sym e))

  found_in : spelled_as t v ≡ octets → decoded t octets ≡ Ok v
  unfolding spelled_as
  found_in e = by (is_found v (decoded t (laid_out t v))) refl e

  read_in : {M : Type 0} → (heard : Value → Result M Cause) (message : M) → heard v ≡ Ok message → spelled_as t v ≡ octets
      → read_as t heard octets ≡ Ok message
  read_in {M = M} heard message said e =
      ap (λ (r : Result Value Fault). read_value heard r) (found_in e)
      ∙ ap (λ (r : Result M Cause). unless_dropped r) said

-- ---- between nodes of its interface

module _ (octets : List ℕ) (some : octets ≡ [] → ⊥) where
  between : (from to : NodeId) (message : Message (List ℕ)) → read_between from to octets ≡ Ok message
      → octets_of_message message ≡ octets → IsSpelledBetween from to octets
  between from to message read e = record { message = message; read = stays from to octets ∙ read; spelled = e }

  pub somewhere : (message : Message (List ℕ)) → octets_of_message message ≡ octets → IsSpelledSomewhere octets
  somewhere (f1 m) e = OnF1 (between (CuCp A) (Du A 1) (f1 m)
      (ap (answered f1) (read_in f1_type (written_f1 m) octets some f1_from_value m (f1s.heard m) e)) e)
  somewhere (e1 m) e = OnE1 (between (CuCp A) (CuUp A 1) (e1 m)
      (ap (answered e1) (read_in e1_type (written_e1 m) octets some e1_from_value m (e1s.heard m) e)) e)
  somewhere (xn m) e = OnXn (between (CuCp A) (CuCp A) (xn m)
      (ap (answered xn) (read_in (xn_type 1) (written_xn m) octets some xn_from_value m (xns.heard m) e)) e)
  somewhere (core m) e = WithCore (between (CuCp A) Core (core m)
      (ap (answered core) (read_in core_type (written_core m) octets some core_from_value m (cores.heard m) e)) e)
  somewhere (rrc m) e = OnRadio (between (Ue 1) (Du A 1) (rrc m)
      (ap (answered rrc) (read_in token_type (written_token m) octets some token_from_value m (tokens.heard m) e)) e)
