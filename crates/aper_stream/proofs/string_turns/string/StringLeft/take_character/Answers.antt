use Rattle.std.proofs.Common.{◌≡◌, ℕ, suc, ◌+◌, ◌-◌, ◌<◌, refl, arith}
use Rattle.std.proofs.lemmas.Result.{err_from_is_err_and}
use Rattle.aper_cursor.proofs.strings.Turns as turns
use Rattle.aper_stream.specs.declared.string_turns.field.StringField.TheVariants as next
use Rattle.aper_stream.specs.declared.string_turns.string.StringLeft.{StringLeft}
use Rattle.aper_stream.proofs.string_turns.Turns.{character_on, character_wrong, after_bounded, left_bounded}
use Rattle.aper_stream.proofs.string_turns.string.StringLeft.take_character.Goals as goal

pub returns-then-count-eq0-clause-bounded : goal.returns-then-count-eq0-clause-bounded
returns-then-count-eq0-clause-bounded c =
    let place : ℕ = c.args.cursor.now.place in
    after_bounded place place c.args.count c.args.others c.args.self.now.field c.requires.units c.requires.bounded c.after_units-self.result
    (omega (arith, c.if-count-eq0.true)) c.after_units-self.ensures.bounded

pub returns-in_err-character-clause-asked : goal.returns-in_err-character-clause-asked
returns-in_err-character-clause-asked c =
    let p = err_from_is_err_and c.from_residual.result c.from_residual.ensures.1 in
    let some : c.args.count ≡ suc (c.args.count - 1) = omega (arith, c.if-count-eq0.false) in
    rw (p.1, p.2) (character_wrong c.args.self.now c.args.count c.args.others c.requires.units c.args.cursor.now c.ask_one.new.cursor
    c.requires.kind (c.args.count - 1) some c.in_err-character.field-0.0 (c.in_err-character.ensures {u = tt}).asked)

pub returns-clause-asked : goal.returns-clause-asked
returns-clause-asked c =
    let s = c.args.self.now in
    let some : c.args.count ≡ suc (c.args.count - 1) = omega (arith, c.if-count-eq0.false) in
    let t : StringLeft = record { content = s.content; units = c.push.new.self; field = next.Units (c.args.count - 1) c.args.others } in
    character_on s c.args.count c.args.others c.requires.units c.args.cursor.now c.ask_one.new.cursor c.requires.kind (c.args.count - 1) some
    c.in_ok-character.character t (c.in_ok-character.ensures {u = tt}).asked refl (c.in_ok-push.ensures {u = tt}).items refl

pub returns-clause-bounded : goal.returns-clause-bounded
returns-clause-bounded c =
    let left : c.args.count ≡ (c.args.count - 1) + 1 = omega (arith, c.if-count-eq0.false) in
    let right = c.in_ok-character.ensures {u = tt} in
    let on : c.args.cursor.now.place + 8 ≡ c.ask_one.new.cursor.place =
    turns.character_on c.in_ok-character.character c.args.cursor.now c.ask_one.new.cursor right.asked in
    left_bounded c.args.cursor.now.place c.ask_one.new.cursor.place c.args.count c.args.others c.args.self.now.field c.requires.units
    c.requires.bounded (c.args.count - 1) left (omega (arith, on))
