-- One part of a step after another: the lines of both, and the state after the second.
use Rattle.std.proofs.Common.{◌≡◌, List, ◌++◌, sym, ◌∙◌, ap, subst, append_assoc}
use Rattle.std.proofs.lemmas.List.{map-append, append-nil}
use Rattle.scenario_text.specs.declared.line.OutLine.{OutLine}
use Rattle.run_defs.specs.Lines.{RunLine}
use Rattle.run_defs.specs.Printing.{out_line}
use Rattle.run_defs.specs.States.{goes, stops, told_before, ◌next◌, goes_on}
use Rattle.run_links.specs.Networks.{Octets, OctetState, OctetWithin}
use Rattle.run_links.specs.Told.{printed, GoesTo}

pub printed-append : (told more : List (RunLine Octets)) → printed (told ++ more) ≡ printed told ++ printed more
printed-append told more = map-append (out_line (λ octets. octets)) told more

-- lines, and more lines
pub told_more : (before middle lines : List OutLine) (told more : List (RunLine Octets))
    → middle ≡ before ++ printed told → lines ≡ middle ++ printed more → lines ≡ before ++ printed (told ++ more)
told_more before middle lines told more e f =
    f ∙ ap (λ (l : List OutLine). l ++ printed more) e ∙ append_assoc before (printed told) (printed more)
    ∙ ap (λ (l : List OutLine). before ++ l) (sym (printed-append told more))

pub goes_before : (told : List (RunLine Octets)) (w : OctetWithin) (before middle lines : List OutLine) (s : OctetState)
    → middle ≡ before ++ printed told → GoesTo middle w lines s → GoesTo before (told_before told w) lines s
goes_before told (goes more after) before middle lines s e h = (told_more before middle lines told more e h.0, h.1)
goes_before told (stops more why) before middle lines s e h = h

pub then_goes : (w : OctetWithin) (f : OctetState → OctetWithin) (before middle lines : List OutLine) (s t : OctetState)
    → GoesTo before w middle s → GoesTo middle (f s) lines t → GoesTo before (w next f) lines t
then_goes (goes told after) f before middle lines s t h k =
    goes_before told (f after) before middle lines t h.0 (subst (λ (x : OctetState). GoesTo middle (f x) lines t) (sym h.1) k)
then_goes (stops told why) f before middle lines s t h k = absurd h

-- a part that prints nothing, and always goes on
pub then_on : (w : OctetWithin) (f : OctetState → OctetState) (before lines : List OutLine) (s t : OctetState)
    → GoesTo before w lines s → f s ≡ t → GoesTo before (w next (λ x. goes_on (f x))) lines t
then_on w f before lines s t h e = then_goes w (λ x. goes_on (f x)) before lines lines s t h (sym (append-nil lines), e)
