use Rattle.std.proofs.Common.{subst, sym}
use Rattle.asn1_module.specs.declared.error.ModuleError.{ModuleError}
use Rattle.asn1_module.specs.Refusals.{IsRefusal}
use Rattle.profile.specs.profile_module.Profiles.{IsBuiltin}
use Rattle.profile.proofs.profile_module.Built.{built, never_wrong}
use Rattle.profile.proofs.profile_module.built_in.of_text.Goals as goal

pub of-requires : goal.of-requires
of-requires c =
    (built c.args.version c.profile_texts_agree.ensures.one c.profile_texts_agree.ensures.two _ _ _ c.text.ensures c.in-Ok.ensures).agrees

pub unreachable-requires : goal.unreachable-requires
unreachable-requires c =
    never_wrong c.args.version c.profile_texts_agree.ensures.one c.profile_texts_agree.ensures.two _ _ _ _ c.text.ensures
    (subst (λ (e : ModuleError). IsRefusal c.text.result.now e) c.in-Err-Refused.field-0-is c.in-Err-Refused.ensures)

pub returns-in-Ok : goal.returns-in-Ok
returns-in-Ok c =
    subst (IsBuiltin c.args.version) (sym c.of.ensures)
    (built c.args.version c.profile_texts_agree.ensures.one c.profile_texts_agree.ensures.two _ _ _ c.text.ensures c.in-Ok.ensures)
