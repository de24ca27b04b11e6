-- What octets are decoded to is encoded again as these octets.
use Rattle.std.proofs.Common.{◌≡◌, ℕ, ◌+◌, ◌*◌, ◌<◌, List, [], ◌∷◌, All, Some, refl, arith}
use Rattle.std.proofs.lemmas.List.Elements.{All-nil, All-cons}
use Rattle.gnb_types.specs.Hex.{hex_of, read_hex, IsDigitOf, IsHexOf}
use Rattle.gnb_types.proofs.HexLemmas.{read_is_hex}
use Rattle.asn1_syntax.specs.declared.assignments.assignment.Syntax.{Syntax}
use Rattle.asn1_defs.specs.Modules.{IsModule}
use Rattle.values_json.proofs.Again.{text_again}
use Rattle.command_values.specs.declared.way.Way.TheVariants.{Encode, Decode}
use Rattle.command_values.specs.Answers.{IsAnswered}

octets_small : (text octets : List ℕ) → IsHexOf text octets → All (λ o. o < 256) octets
octets_small [] [] h = All-nil (λ o. o < 256)
octets_small [] (o ∷ os) h = absurd h
octets_small (a ∷ []) os h = absurd h
octets_small (a ∷ b ∷ text) [] h = absurd h
octets_small (a ∷ b ∷ text) (o ∷ os) (high, low, ha, hb, e, rest) =
    All-cons (λ x. x < 256) o os (small a b high low ha hb e) (octets_small text os rest)
  where
    small : (a b high low : ℕ) → IsDigitOf a high → IsDigitOf b low → o ≡ 16 * high + low → o < 256
    small a b high low ha hb e = grind arith

pub encoded_again : (m : Syntax) (id : ℕ) (line text : List ℕ) → IsModule m → IsAnswered Decode m id line text
    → (octets : List ℕ) × (read_hex line ≡ Some octets) × IsAnswered Encode m id text (hex_of octets)
encoded_again m id line text is h = (
  h.octets,
  h.digits,
  record {
    v = h.v;
    shows = text_again m id h.v text is h.spells.has h.again;
    spelled = record {
      octets = h.octets;
      small = octets_small line h.octets (read_is_hex line h.octets h.digits);
      spells = h.spells;
      digits = refl;
    };
  },
)
