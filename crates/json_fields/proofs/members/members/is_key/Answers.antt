use Rattle.std.proofs.Common.{Bool, sym, ap, ◌∙◌}
use Rattle.json_defs.specs.Members.{dots, is_among}
use Rattle.json_defs.specs.Shown.{names_of, keys_of}
use Rattle.json_defs.specs.type_defs.Types.{parts_with}
use Rattle.json_fields.proofs.members.Words.{among_others}
use Rattle.json_fields.proofs.members.members.is_key.Goals as goal

pub returns : goal.returns
returns c =
    λ of. c.is_part-2.ensures of
    ∙ among_others dots c.args.name.now (names_of (parts_with of c.args.parts.now)) (sym c.same_text.ensures ∙ c.if-same_text.false)
    ∙ ap (λ (e : Bool). is_among (keys_of e (parts_with of c.args.parts.now)) c.args.name.now) (sym c.if-not-extensible.false)
