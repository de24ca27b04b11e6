use Rattle.std.proofs.Common.{ℕ, List, ap, ◌∙◌}
use Rattle.profile.specs.Versions.{number_of}
use Rattle.message_defs.specs.profile_defs.Profile.{xn_type}
use Rattle.message_defs.specs.Xn.{written_xn}
use Rattle.aper_defs.specs.Trees.{Tree}
use Rattle.aper_defs.specs.octet_defs.Octets.{spelled_as}
use Rattle.proof_message_codec.proofs.codec.Spelled.{spelled_alike}
use Rattle.aper_values.specs.types.Types.{tree}
use Rattle.aper_values.specs.Views.{view}
use Rattle.message_codec.proofs.Results.{of_equal}
use Rattle.message_codec.proofs.encoding.spell_xn.Goals as goal

-- encodings don't tell the module's own type from the profile's
pub returns : goal.returns
returns c =
    let own : Tree = tree c.args.profile.now.syntax c.xn_pdu.result.number in
    let type : Tree = xn_type (number_of c.args.profile.now.version) in
    of_equal c.encoded.result (λ (os : List ℕ). os) (spelled_as own (view c.in_ok-value.value)) (spelled_as type (written_xn c.args.message.now))
    (spelled_alike own type (view c.in_ok-value.value) c.xn_pdu.ensures.alike ∙ ap (spelled_as type) c.in_ok-value.ensures) c.encoded.ensures
