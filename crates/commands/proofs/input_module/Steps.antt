-- What the calls of one step give together.
use Rattle.std.proofs.Common.{◌≡◌, ℕ, ◌-◌, min, List, length, take, drop, Bool, true, false, arith, length-drop, Option, Some, Result, Ok, Err, refl, sym, ap, ◌∙◌, subst}
use Rattle.std.proofs.lemmas.List.{take_all, drop_min}
use Rattle.gnb_base.specs.declared.lines.Line.{Line}
use Rattle.gnb_base.specs.Outside.{SourceAt}
use Rattle.gnb_base.specs.Reading.{Reading, NextMeets}
use Rattle.command_defs.specs.declared.input_defs.InputEnd.{InputEnd}
use Rattle.command_defs.specs.declared.input_defs.InputEnd.TheVariants as inputs
use Rattle.commands.specs.input_lines.ReadsLine.{StopsReading}
use Rattle.scenario_text.specs.declared.script_words.reason.TextReason.{TextReason}
use Rattle.profile.specs.declared.version.Version.{Version}
use Rattle.commands.specs.declared.input_module.stop.ModuleStop.{ModuleStop}
use Rattle.commands.specs.declared.input_module.stop.ModuleStop.TheVariants.{Script, Input}
use Rattle.commands.specs.declared.input_module.text.FirstLine.{FirstLine}
use Rattle.commands.specs.input_module.Header.{header_of}
use Rattle.commands.specs.input_module.Text.{IsBlank, is_blank}
use Rattle.commands.specs.input_module.inside.Steps.{HeaderMeets, HeaderStops, HeaderUnread, WrongLine, TextAt, Unread, NoRoom, TurnMeets}
use Rattle.commands.proofs.input_module.Blank.{blank_of, not_blank}

pub header_unread : (newest : Version) (old new : Reading) (before after : SourceAt) (why : InputEnd) (stop : ModuleStop) (result : Result FirstLine ModuleStop)
    → StopsReading old new before after why
    → result ≡ Err stop → stop ≡ Input why → HeaderMeets newest old new before after result
header_unread newest old new before after why stop result s e f =
    subst (λ (r : Result FirstLine ModuleStop). HeaderMeets newest old new before after r) (sym e) (HeaderUnread why s f)

pub wrong_header : (newest : Version) (old new : Reading) (before after : SourceAt) (found : Option Line) (line : Line) (text : List ℕ) (reason : TextReason)
    → found ≡ Some line → NextMeets old new before after (Ok found) → text ≡ line.text → Err reason ≡ header_of newest text
    → HeaderStops newest old new before after (Script 1 reason)
wrong_header newest old new before after found line text reason e m same h =
    WrongLine line reason (subst (λ (o : Option Line). NextMeets old new before after (Ok o)) e m) (ap (header_of newest) (sym same) ∙ sym h) refl

pub turn_unread : (old new : TextAt) (why : InputEnd) (stop : ModuleStop) (result : Result (Option Line) ModuleStop)
    → StopsReading old.reading new.reading old.source new.source why
    → result ≡ Err stop → stop ≡ Input why → TurnMeets old new result
turn_unread old new why stop result s e f = subst (λ (r : Result (Option Line) ModuleStop). TurnMeets old new r) (sym e) (Unread why s f)

pub no_room : (old new : TextAt) (found : Option Line) (line : Line) (stop : ModuleStop) (result : Result (Option Line) ModuleStop)
    → found ≡ Some line → NextMeets old.reading new.reading old.source new.source (Ok found) → result ≡ Err stop
    → stop ≡ Input inputs.Memory
    → TurnMeets old new result
no_room old new found line stop result e m r s =
    subst (λ (x : Result (Option Line) ModuleStop). TurnMeets old new x) (sym (r ∙ ap (λ (x : ModuleStop). Err x) s))
    (NoRoom line (subst (λ (o : Option Line). NextMeets old.reading new.reading old.source new.source (Ok o)) e m) refl)

-- what was looked at is what is after the module
after : (text : List ℕ) (octets cut : ℕ) → cut ≡ min octets (length text) → take (length text - cut) (drop cut text) ≡ drop octets text
after text octets cut m =
    take_all _ (drop cut text) (omega (arith, length-drop cut text)) ∙ ap (λ (n : ℕ). drop n text) m ∙ drop_min octets text

pub blank_after : (text : List ℕ) (octets cut : ℕ) (found : Bool) → found ≡ is_blank (take (length text - cut) (drop cut text))
    → cut ≡ min octets (length text) → found ≡ true
    → IsBlank (drop octets text)
blank_after text octets cut found e m t = subst IsBlank (after text octets cut m) (blank_of _ (sym e ∙ t))

pub more_after : (text : List ℕ) (octets cut : ℕ) (found : Bool) → found ≡ is_blank (take (length text - cut) (drop cut text))
    → cut ≡ min octets (length text) → found ≡ false
    → IsBlank (drop octets text) → ⊥
more_after text octets cut found e m f blank = not_blank _ (sym e ∙ f) (subst IsBlank (sym (after text octets cut m)) blank)
