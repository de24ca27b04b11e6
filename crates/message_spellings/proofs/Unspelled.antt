-- A message that has no spelling: no octets are what is spelled for it.
use Rattle.std.proofs.Common.{◌≡◌, ℕ, true, false, List, [], refl, sym, ◌∙◌}
use Rattle.message_types.specs.declared.rrc.Token.{Token}
use Rattle.message_types.specs.declared.rrc.Token.TheVariants as tokens
use Rattle.aper_defs.specs.Bounds.{IsBounded}
use Rattle.aper_defs.specs.Membership.{Has, HasComponents, HasAdditions, HasAlternative}
use Rattle.proof_aper.proofs.octets.Bounded.{test, parts_test, rows_test, procedures_test, outcome_test, bounded}
use Rattle.proof_aper.proofs.octets.Spelled.{nothing_is_no_value}
use Rattle.message_defs.specs.profile_defs.Forms.{tree, parts, rows, procedures, outcome_tree}
use Rattle.message_defs.specs.profile_defs.Profile.{token_type}
use Rattle.message_defs.specs.Tokens.{written_token}
use Rattle.unit_defs.specs.Ways.{rrc}
use Rattle.message_codec_defs.specs.Codecs.{octets_of_message}
use Rattle.transcript_check.specs.Steps.{IsSpelling}

-- of terminal 0, which is none
abbrev of_nobody : Token
of_nobody = tokens.Complete (record { 0 = 0 }) 0

token_is_bounded : IsBounded token_type
unfolding token_type tree parts rows procedures outcome_tree test parts_test rows_test procedures_test outcome_test
token_is_bounded = bounded token_type refl

no_value : Has [] token_type (written_token of_nobody) → ⊥
unfolding token_type tree parts written_token Has HasComponents HasAdditions HasAlternative
no_value h = let clash : false ≡ true = h.1.0.0 in cc

pub nothing_is_a_spelling : (octets : List ℕ) → octets ≡ [] → IsSpelling octets_of_message octets
nothing_is_a_spelling octets none =
    (rrc of_nobody, sym (nothing_is_no_value token_type (written_token of_nobody) token_is_bounded no_value) ∙ sym none)
