use Rattle.std.proofs.Common.{ℕ, List, refl, sym, ◌∙◌, subst}
use Rattle.commands.specs.command_output.Writes.{WritesAll, WritesFront}
use Rattle.commands.proofs.command_output.Written.{all_none}
use Rattle.command_values.specs.inside.Turns.{Whole, Cut}
use Rattle.command_values.proofs.Waiting.{is_nothing, is_something}
use Rattle.command_values.proofs.lines.finish_answers.Goals as goal

pub returns-then-is_empty : goal.returns-then-is_empty
returns-then-is_empty g c =
    let sink = g.K.Sink.at c.args.output.now in
    let none = is_nothing c.args.waiting.now (sym c.is_empty.ensures ∙ c.if-is_empty.true) in
    Whole (subst (λ (text : List ℕ). WritesAll sink sink text) (sym none) (all_none sink)) refl

pub returns-in-Err : goal.returns-in-Err
returns-in-Err g c =
    Cut (is_something c.args.waiting.now (sym c.is_empty.ensures ∙ c.if-is_empty.false))
    (subst (λ (text : List ℕ). WritesFront (g.K.Sink.at c.args.output.now) (g.K.Sink.at c.write_all.new.output) text) c.as_slice.ensures c.in-Err.ensures) refl
