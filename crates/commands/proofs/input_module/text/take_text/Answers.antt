use Rattle.std.proofs.Common.{Err, ap, ◌∙◌}
use Rattle.std.proofs.lemmas.Result.{err_from_is_err_and}
use Rattle.commands.proofs.input_module.Gathering.{header_stops_at, begins, names_profile, goes_on_at, closes_at, ends_at_last, turn_stops, text_stops}
use Rattle.commands.proofs.input_module.text.take_text.Goals as goal

pub returns-in_err-first : goal.returns-in_err-first
returns-in_err-first g c =
    let p = err_from_is_err_and c.from_residual.result c.from_residual.ensures.1 in
    text_stops _ _ _ _ _ _ (p.1 ∙ ap (λ e. Err e) p.2) (header_stops_at _ _ _ _ _ _ c.requires c.in_err-first.ensures)

pub loop-gathered-init : goal.loop-gathered-init
loop-gathered-init g c = begins _ _ _ _ _ _ _ c.requires c.in_ok-first.ensures c.in-Text.is c.new.ensures

pub returns-in_err-line-in-Text : goal.returns-in_err-line-in-Text
returns-in_err-line-in-Text g c =
    let p = err_from_is_err_and c.from_residual-in_err-line-in-Text.result c.from_residual-in_err-line-in-Text.ensures.1 in
    text_stops _ _ _ _ _ _ (p.1 ∙ ap (λ e. Err e) p.2) (turn_stops _ _ c.loop-gathered.invariant c.in_err-line-in-Text.ensures)

pub returns-in_default : goal.returns-in_default
returns-in_default g c = ends_at_last _ _ c.loop-gathered.invariant c.in_default.is c.in_ok-line-in-Text.ensures

pub returns-then-is_end : goal.returns-then-is_end
returns-then-is_end g c =
    closes_at _ _ c.in-Some.line c.loop-gathered.invariant c.in-Some.is c.in_ok-line-in-Text.ensures c.is_end.result c.is_end.ensures
    c.if-is_end.true

pub loop-gathered-preserved : goal.loop-gathered-preserved
loop-gathered-preserved g c =
    goes_on_at _ _ c.in-Some.line c.loop-gathered.invariant c.in-Some.is c.in_ok-line-in-Text.ensures c.is_end.result c.is_end.ensures
    c.if-is_end.false

pub returns : goal.returns
returns g c = names_profile _ _ _ _ _ _ c.in-Builtin.version c.requires c.in_ok-first.ensures c.in-Builtin.is
