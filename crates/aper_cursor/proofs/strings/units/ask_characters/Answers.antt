use Rattle.std.proofs.Common.{◌≡◌, ℕ, suc, ◌+◌, ◌-◌, List, [], ◌∷◌, ◌++◌, length, sym, ap, ◌∙◌, arith, length-append}
use Rattle.std.proofs.lemmas.List.{append-nil}
use Rattle.std.proofs.lemmas.Result.{err_from_is_err_and}
use Rattle.aper_defs.specs.Questions.{ask_characters}
use Rattle.aper_defs.specs.Reading.{run}
use Rattle.aper_cursor.proofs.strings.Turns.{characters_turn, character_on}
use Rattle.aper_cursor.proofs.strings.units.ask_characters.Goals as goal

pub returns-in_err-character-clause-asked : goal.returns-in_err-character-clause-asked
returns-in_err-character-clause-asked c =
    let l = c.loop-done in
    let p = err_from_is_err_and c.from_residual.result c.from_residual.ensures.1 in
    let rest = c.args.count - (l.done + 1) in
    let left : c.args.count - l.done ≡ suc rest = omega arith in
    rw (p.1, p.2) (λ way K. l.invariant.asked way K
    ∙ ap (λ (k : ℕ). run (ask_characters way k (λ us. K (l.out.items ++ us))) l.cursor) left
    ∙ (c.in_err-character.ensures {u = tt}).asked way (λ y. ask_characters way rest (λ us. K (l.out.items ++ (y ∷ us)))))

pub loop-done-preserved : goal.loop-done-preserved
loop-done-preserved c =
    let l = c.loop-done in
    let x = c.in_ok-character.character in
    let right = c.in_ok-character.ensures {u = tt} in
    let rest = c.args.count - (l.done + 1) in
    let left : c.args.count - l.done ≡ suc rest = omega arith in
    let pushed : c.push.new.self.items ≡ l.out.items ++ x ∷ [] = (c.in_ok-push.ensures {u = tt}).items in
    record {
      asked = λ way K. l.invariant.asked way K
          ∙ ap (λ (k : ℕ). run (ask_characters way k (λ us. K (l.out.items ++ us))) l.cursor) left
          ∙ characters_turn rest l.out.items x l.cursor c.ask_one.new.cursor right.asked way K
          ∙ ap (λ (os : List ℕ). run (ask_characters way rest (λ us. K (os ++ us))) c.ask_one.new.cursor) (sym pushed);
      size = omega (arith, ap length pushed, length-append l.out.items (x ∷ []), l.invariant.size);
      on = omega (arith, character_on x l.cursor c.ask_one.new.cursor right.asked, l.invariant.on);
      limit = λ h. right.limit;
    }

pub returns-clause-asked : goal.returns-clause-asked
returns-clause-asked c =
    let l = c.loop-done in
    let none : c.args.count - l.done ≡ 0 = omega arith in
    λ way K. l.invariant.asked way K
    ∙ ap (λ (k : ℕ). run (ask_characters way k (λ us. K (l.out.items ++ us))) l.cursor) none
    ∙ ap (λ (os : List ℕ). run (K os) l.cursor) (append-nil l.out.items)
