-- What nothing confirmed is sent again, one packet after another.
use Rattle.std.proofs.Common.{◌≡◌, ℕ, ◌+◌, ◌<◌, Bool, true, false, cond, nat_le, List, [], ◌∷◌, length, Some, refl, sym, ap, ◌∙◌, arith}
use Rattle.std.proofs.lemmas.Bool.Decides.{nat_tests}
use Rattle.gnb_types.specs.declared.outputs.Tag.TheVariants.{Own}
use Rattle.unit_defs.specs.Ways.{◌then◌, nothing}
use Rattle.unit_defs.specs.CuUpRecords.{CuUpBearer}
use Rattle.unit_defs.specs.CuUpBearers.{sent, sent_again, is_one_of}
use Rattle.unit_defs.specs.octet_defs.Codec.{Codec, octet_way}
use Rattle.unit_defs.specs.octet_defs.Units.{OctetAnswer}
use Rattle.pdcp_bearers.specs.ue_bearers.Senders.{from_on}
use Rattle.cu_up_bearer.specs.declared.tunnels.at.Scope.{Scope}
use Rattle.cu_up_bearer.specs.tunnels.Tunnels.{at_as}
use Rattle.cu_up_bearer.specs.downlink.Downlinks.{taken_of}

-- from 0 on, all
pub all_from : (es : List (ℕ × List ℕ)) → from_on 0 es ≡ es
all_from [] = refl
all_from (e ∷ es) =
    let all = all_from es in
    let here : nat_le 0 e.0 ≡ true = grind (arith, nat_tests) in
    ap (λ (b : Bool). cond b (e ∷ from_on 0 es) (from_on 0 es)) here ∙ ap (λ (xs : List (ℕ × List ℕ)). e ∷ xs) all

module _ (codec : Codec) (a : Scope) (b : CuUpBearer) where
  abbrev pub again : List (ℕ × List ℕ) → OctetAnswer CuUpBearer
  again es = sent_again (octet_way codec) (at_as a) es b

  abbrev pub one_then : ℕ → List ℕ → List (ℕ × List ℕ) → OctetAnswer CuUpBearer
  one_then count packet es = sent (octet_way codec) (at_as a) count packet (Own count) b then sent_again (octet_way codec) (at_as a) es

  pub again_none : (es : List (ℕ × List ℕ)) → es ≡ [] → again es ≡ nothing b
  unfolding sent_again
  again_none es is = ap (λ (xs : List (ℕ × List ℕ)). again xs) is

  pub again_one : (all es : List (ℕ × List ℕ)) (count : ℕ) (packet : List ℕ) → all ≡ (count, packet) ∷ es → again all ≡ one_then count packet es
  unfolding sent_again
  again_one all es count packet is = ap (λ (xs : List (ℕ × List ℕ)). again xs) is

  -- of those with one of these COUNTs
  pub these_one : (counts : List ℕ) (all es : List (ℕ × List ℕ)) (count : ℕ) (packet : List ℕ) → all ≡ (count, packet) ∷ es
      → is_one_of counts count ≡ true → again (taken_of counts all) ≡ one_then count packet (taken_of counts es)
  these_one counts all es count packet is has =
      again_one (taken_of counts all) (taken_of counts es) count packet
      (ap (λ (xs : List (ℕ × List ℕ)). taken_of counts xs) is
      ∙ ap (λ (t : Bool). cond t ((count, packet) ∷ taken_of counts es) (taken_of counts es)) has)

  pub these_skip : (counts : List ℕ) (all es : List (ℕ × List ℕ)) (count : ℕ) (packet : List ℕ) → all ≡ (count, packet) ∷ es
      → is_one_of counts count ≡ false → again (taken_of counts all) ≡ again (taken_of counts es)
  these_skip counts all es count packet is not_one =
      ap (λ (xs : List (ℕ × List ℕ)). again (taken_of counts xs)) is
      ∙ ap (λ (t : Bool). again (cond t ((count, packet) ∷ taken_of counts es) (taken_of counts es))) not_one
