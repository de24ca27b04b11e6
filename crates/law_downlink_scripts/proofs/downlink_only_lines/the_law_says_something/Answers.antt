use Rattle.std.proofs.Common.{[], ◌∷◌, refl, arith}
use Rattle.gnb_types.specs.declared.names.SnBits.TheVariants.{Len12}
use Rattle.unit_defs.specs.Ways.{packet_pdu}
use Rattle.law_units_act_locally.proofs.local.Carries.{air_there}
use Rattle.law_downlink_scripts.specs.downlink_only_lines.Example.{not_offered}
use Rattle.law_downlink_scripts.proofs.downlink_only_lines.the_law_says_something.Goals as goal

pub returns : goal.returns
returns c = λ h.
    let e = h.1.0 0 not_offered (omega arith) (8 ∷ []) (air_there 0 Len12 (8 ∷ []) (packet_pdu 0 (8 ∷ [])) refl (omega arith, omega arith)) in
    absurd cc
