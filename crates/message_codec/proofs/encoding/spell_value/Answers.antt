use Rattle.std.proofs.Common.{◌≡◌, ℕ, ◌<◌, ◌-◌, ◌^◌, [], min, Bool, true, false, List, sym, ◌∙◌, arith, subst}
use Rattle.std.specs.Prelude.{All}
use Rattle.aper_defs.specs.Bits.{octet_count}
use Rattle.aper_defs.specs.Membership.{Has}
use Rattle.aper_defs.specs.Spelling.{spelling_limit, whole_layout}
use Rattle.aper_values.specs.types.Types.{tree}
use Rattle.aper_values.specs.Views.{view}
use Rattle.message_codec.proofs.Spelled.{octets_are, none_of_no_value, none_too_long}
use Rattle.message_codec.proofs.encoding.spell_value.Goals as goal

differ : (let b : Bool = true in b) ≡ false → ⊥
differ h = cc

pub returns-then-not-is_value : goal.returns-then-not-is_value
returns-then-not-is_value c = c.new.ensures
    ∙ none_of_no_value c.args.module.now c.args.id.number (view c.args.value.now) c.name-name.ensures.sound
    (λ (h : Has [] (tree c.args.module.now c.args.id.number) (view c.args.value.now)). differ (sym (c.is_value.ensures.1 h) ∙ c.if-not-is_value.true))

over : (n r : ℕ) → r ≡ min n (2 ^ 64 - 1) → 131072 < r → spelling_limit < n
over n r e h = omega (arith, e, h)

pub returns-then-spelled_length-gt-SPELLING_LIMIT : goal.returns-then-spelled_length-gt-SPELLING_LIMIT
returns-then-spelled_length-gt-SPELLING_LIMIT c = c.new-then-spelled_length-gt-SPELLING_LIMIT.ensures
    ∙ none_too_long c.args.module.now c.args.id.number (view c.args.value.now) c.name-name.ensures.sound
    (over (octet_count (whole_layout (tree c.args.module.now c.args.id.number) (view c.args.value.now))) c.spelled_length.result c.spelled_length.ensures
    c.if-spelled_length-gt-SPELLING_LIMIT.true)

pub returns : goal.returns
returns c = octets_are c.args.module.now c.args.id.number (view c.args.value.now) c.name-name.ensures.sound c.in_ok-octets.octets
    (subst (λ (os : List ℕ). All (λ o. o < 256) os) c.as_slice.ensures c.are_octets.ensures) c.in_ok-octets.ensures
