use Rattle.std.proofs.Common.{sym, ◌∙◌, arith}
use Rattle.scenario_text.proofs.script_words.NumberLemmas.{plain_has_text, same_text}
use Rattle.transcript_lines.proofs.WideNumbers.{number_of-unparsed}
use Rattle.transcript_lines.proofs.lines.fields.number_of_word.Goals as goal

pub returns-in_err-text : goal.returns-in_err-text
returns-in_err-text c =
    absurd (plain_has_text c.args.word.now c.from_utf8.result _ _ (sym c.if-not-is_plain.ensures) c.in_err-text.ensures.value c.from_utf8.ensures.cases)

pub returns-in_err-value : goal.returns-in_err-value
returns-in_err-value c =
    c.from_residual-in_err-value.ensures ∙ sym (number_of-unparsed c.args.low c.args.high c.args.word.now c.in_ok-text.text.now c.parse.result (sym c.if-not-is_plain.ensures) (same_text c.args.word.now c.in_ok-text.text c.from_utf8.result _ _ c.in_ok-text.ensures.value c.from_utf8.ensures.cases) c.in_err-value.ensures.value c.parse.ensures.value.0 (omega arith))
