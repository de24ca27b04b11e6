-- What the calls of one step give together.
use Rattle.std.proofs.Common.{◌≡◌, Option, Some, Result, Err, refl, sym, subst}
use Rattle.std.specs.Prelude.{Ok}
use Rattle.gnb_base.specs.declared.lines.Line.{Line}
use Rattle.gnb_base.specs.Outside.{SourceAt}
use Rattle.gnb_base.specs.Reading.{Reading, NextMeets}
use Rattle.command_defs.specs.declared.input_defs.InputEnd.{InputEnd}
use Rattle.commands.specs.input_lines.ReadsLine.{StopsReading}
use Rattle.scenario_text.specs.declared.script_words.reason.TextReason.TheVariants.{Extra}
use Rattle.commands.specs.declared.input_module.stop.ModuleStop.{ModuleStop}
use Rattle.commands.specs.declared.input_module.stop.ModuleStop.TheVariants.{Script, Input}
use Rattle.commands.specs.command_check.inside.Steps.{EndMeets, EndStops, EndUnread, OneMore}

pub end_unread : (old new : Reading) (before after : SourceAt) (why : InputEnd) (stop : ModuleStop) (result : Result (Unit {0}) ModuleStop)
    → StopsReading old new before after why
    → result ≡ Err stop → stop ≡ Input why → EndMeets old new before after result
end_unread old new before after why stop result s e f =
    subst (λ (r : Result (Unit {0}) ModuleStop). EndMeets old new before after r) (sym e) (EndUnread why s f)

pub one_more : (old new : Reading) (before after : SourceAt) (found : Option Line) (line : Line)
    → found ≡ Some line → NextMeets old new before after (Ok found) → EndStops old new before after (Script line.number Extra)
one_more old new before after found line e m = OneMore line (subst (λ (o : Option Line). NextMeets old new before after (Ok o)) e m) refl
