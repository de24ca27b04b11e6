-- The words of events that are read are in their ranges.
use Rattle.std.proofs.Common.{◌≡◌, ℕ, Bool, true, false, List, [], ◌∷◌, ◌++◌, map, refl, sym, ap, ◌∙◌}
use Rattle.std.specs.Prelude.{Result, Ok, Err, if◌then◌else◌}
use Rattle.std.specs.List.{AllByRecursion, flat_map}
use Rattle.scenario_text.specs.declared.script_words.reason.TextReason.{TextReason}
use Rattle.scenario_text.specs.Grammar.{is_skipped, event_of}
use Rattle.scenario_text.specs.Texts.{InRange, IsTextOf}
use Rattle.scenario_text.specs.declared.event.Event.{Event}
use Rattle.scenario_text.specs.declared.event.Event.TheVariants as events
use Rattle.scenario_text.proofs.EventLaws.{event_sound}
use Rattle.command_run.specs.Run.{meanings, AreEvents}

text_range : (line : List ℕ) (event : Event) → IsTextOf line event → InRange event
text_range line (events.Static plan) h = h.range
text_range line events.Start h = h.range
text_range line (events.Attach plan) h = h.range
text_range line (events.Offer ue bearer dir packet) h = h.range
text_range line (events.Get end teid) h = h.range
text_range line (events.Air ue bearer dir) h = h.range
text_range line (events.Ack ue bearer dir) h = h.range
text_range line (events.Give message) h = h.range
text_range line (events.LoseMessage message) h = h.range
text_range line (events.LoseItem end teid) h = h.range
text_range line (events.Poll ue bearer) h = h.range
text_range line events.Pump h = h.range
text_range line events.Tick h = h.range
text_range line (events.Fail ue) h = h.range
text_range line (events.Arrive ue) h = h.range
text_range line (events.Return ue) h = h.range
text_range line (events.Handover ue gnb up du) h = h.range
text_range line (events.Cancel ue) h = h.range
text_range line (events.Release ue) h = h.range
text_range line (events.Ask ue bearer) h = h.range
text_range line events.Settle h = h.range
text_range line (events.InjectMessage from to octets) h = h.range
text_range line (events.InjectItem end teid octets) h = h.range

-- one line, skipped or not, before others
step : (lines : List (List ℕ)) → ((script : List Event) → AreEvents lines script → AllByRecursion InRange script)
    → (line : List ℕ) (skip : Bool) (script : List Event)
    → (if skip then [] else event_of line ∷ []) ++ flat_map meanings lines ≡ map (λ event. Ok event) script → AllByRecursion InRange script
step lines rest line true script h = rest script h
step lines rest line false [] h = absurd (never h)
  where
    never : {x : Result Event TextReason} {xs : List (Result Event TextReason)} → x ∷ xs ≡ [] → ⊥
    never e = cc
step lines rest line false (event ∷ script) h = (text_range line event (event_sound line event (head h)), rest script (tail h))
  where
    head : {a b : Result Event TextReason} {xs ys : List (Result Event TextReason)} → a ∷ xs ≡ b ∷ ys → a ≡ b
    head e = cc

    tail : {a b : Result Event TextReason} {xs ys : List (Result Event TextReason)} → a ∷ xs ≡ b ∷ ys → xs ≡ ys
    tail e = cc

pub read_in_range : (lines : List (List ℕ)) (script : List Event) → AreEvents lines script → AllByRecursion InRange script
read_in_range [] [] h = tt
read_in_range [] (event ∷ script) h = absurd (never h)
  where
    never : {x : Result Event TextReason} {xs : List (Result Event TextReason)} → [] ≡ x ∷ xs → ⊥
    never e = cc
read_in_range (line ∷ lines) script h = step lines (read_in_range lines) line (is_skipped line) script h
