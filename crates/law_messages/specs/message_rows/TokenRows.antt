-- Tokens with the least fields and with the greatest numbers and lists, and the octets that were worked out for them.
use Rattle.std.specs.Prelude.{List, [], ◌∷◌}
use Rattle.gnb_types.specs.declared.names.Gnb.TheVariants.{A, B}
use Rattle.message_types.specs.declared.rrc.Token.TheVariants as tokens
use Rattle.message_defs.specs.profile_defs.Profile.{token_type}
use Rattle.message_defs.specs.Tokens.{written_token}
use Rattle.law_aper.specs.rows.Row.{Row, spells}
use Rattle.law_messages.specs.message_rows.Rows.{ue}

abbrev pub least_token_rows : List Row
least_token_rows =
    spells token_type (written_token (tokens.Command (ue 1) 0 A 1)) (0x00 ∷ 0x00 ∷ 0x00 ∷ 0x00 ∷ []) ∷
    spells token_type (written_token (tokens.Complete (ue 1) 0)) (0x20 ∷ 0x00 ∷ 0x00 ∷ []) ∷
    spells token_type (written_token (tokens.Reestablish (ue 1) 0)) (0x40 ∷ 0x00 ∷ 0x00 ∷ []) ∷
    spells token_type (written_token (tokens.Accepted (ue 1) 0)) (0x60 ∷ 0x00 ∷ 0x00 ∷ []) ∷
    []

abbrev pub greatest_token_rows : List Row
greatest_token_rows =
    spells token_type (written_token (tokens.Command (ue 16) 4294967295 B 2)) (0x0f ∷ 0xc0 ∷ 0xff ∷ 0xff ∷ 0xff ∷ 0xff ∷ 0xc0 ∷
    []) ∷
    spells token_type (written_token (tokens.Complete (ue 16) 4294967295)) (0x2f ∷ 0xc0 ∷ 0xff ∷ 0xff ∷ 0xff ∷ 0xff ∷ []) ∷
    spells token_type (written_token (tokens.Reestablish (ue 16) 4294967295)) (0x4f ∷ 0xc0 ∷ 0xff ∷ 0xff ∷ 0xff ∷ 0xff ∷ []) ∷
    spells token_type (written_token (tokens.Accepted (ue 16) 4294967295)) (0x6f ∷ 0xc0 ∷ 0xff ∷ 0xff ∷ 0xff ∷ 0xff ∷ []) ∷
    []
