use Rattle.std.proofs.Common.{subst}
use Rattle.asn1_syntax.specs.declared.assignments.assignment.Syntax.{Syntax}
use Rattle.asn1_defs.specs.Modules.{IsModule}
use Rattle.profile.specs.Versions.{number_of}
use Rattle.message_defs.specs.profile_defs.Profile.{token_type}
use Rattle.message_defs.specs.profile_defs.Tokens.{rrc_token}
use Rattle.profile.proofs.types.Named.{is_its}
use Rattle.profile.proofs.types.rrc_token.Goals as goal

pub returns : goal.returns
unfolding token_type
returns c =
    let is : IsModule c.args.profile.now.syntax = subst (λ (m : Syntax). IsModule m) c.module-module.ensures.syntax c.name-name.ensures.sound in
    is_its c.module-module.result.now c.args.profile.now.syntax rrc_token
    (c.agreeing_modules_have_the_trees.ensures.token (number_of c.args.profile.now.version) c.args.profile.now.syntax is c.module-module.ensures.agrees)
    c.module-module.ensures.syntax c.find.result c.unwrap.result c.find.ensures.id c.unwrap.ensures
