-- What is printed of a step that wasn't made.
use Rattle.std.proofs.Common.{◌≡◌, List, [], ◌∷◌, ◌++◌, Option, Some, None, sym, ◌∙◌, ap, subst}
use Rattle.std.specs.Prelude.{Ok}
use Rattle.std.proofs.lemmas.List.{append-nil}
use Rattle.gnb_types.specs.declared.names.NodeId.{NodeId}
use Rattle.gnb_types.specs.declared.reasons.HeldReason.{HeldReason}
use Rattle.gnb_types.specs.declared.reasons.RefuseReason.{RefuseReason}
use Rattle.scenario_text.specs.declared.line.Link.{Link}
use Rattle.scenario_text.specs.declared.line.OutLine.{OutLine}
use Rattle.scenario_text.specs.declared.line.OutLine.TheVariants as outs
use Rattle.run_defs.specs.Lines.{held_at}
use Rattle.run_defs.specs.States.{Stop, goes, as_step, refused}
use Rattle.run_defs.specs.Steps.{is_done, is_held, is_refused, ordered_by}
use Rattle.run_links.specs.Networks.{OctetState, OctetWorld, OctetOutcome}
use Rattle.world_steps.specs.declared.asked.Moved.{Moved}
use Rattle.world_steps.specs.declared.asked.Moved.TheVariants as moves
use Rattle.run_links.specs.Told.{EndsAt}
use Rattle.world_steps.specs.Gives.{EventGives, EventStops}
use Rattle.world_steps.specs.Moves.{OctetDone, RunPoint, Moves, DoneStops, held_lines, refused_lines}

-- the lines of a step that was made, and no more
no_more : (outcome : OctetOutcome) (before middle lines : List OutLine) (s : OctetState) → EndsAt before outcome middle s → lines ≡ middle ++ []
    → EndsAt before outcome lines s
no_more outcome before middle lines s h e = subst (λ (l : List OutLine). EndsAt before outcome l s) (sym (append-nil middle) ∙ sym e) h

-- ---- an event that prints that its item is held, or that it is refused

abbrev pub held_by : Option NodeId → Link → OctetState → OctetDone → OctetOutcome
held_by actor link s (is_done outcome) = outcome
held_by actor link s (is_held reason) = as_step actor (goes (held_at link reason ∷ []) s)
held_by actor link s (is_refused reason) = refused reason s

pub shows_held : (actor : Option NodeId) (link : Link) (s t : OctetState) (done : OctetDone) (moved : Moved) (before middle lines : List OutLine)
    → Moves done (record { state = s; lines = before }) (record { state = t; lines = middle }) moved → lines ≡ middle ++ held_lines link moved
    → EventGives before (held_by actor link s done) lines t (Ok tt)
shows_held actor link s t (is_done outcome) moves.Done before middle lines h e = no_more outcome before middle lines t h e
shows_held actor link s t (is_held reason) (moves.Holds r) before middle lines h e = (
  e ∙ ap (λ (l : List OutLine). l ++ outs.Held link r ∷ []) (ap (λ (a : RunPoint). a.lines) h.1)
      ∙ ap (λ (x : HeldReason). before ++ outs.Held link x ∷ []) h.0,
  sym (ap (λ (a : RunPoint). a.state) h.1),
)
shows_held actor link s t (is_refused reason) (moves.Refuses r) before middle lines h e = (
  e ∙ ap (λ (l : List OutLine). l ++ outs.Refused r ∷ []) (ap (λ (a : RunPoint). a.lines) h.1)
      ∙ ap (λ (x : RefuseReason). before ++ outs.Refused x ∷ []) h.0,
  sym (ap (λ (a : RunPoint). a.state) h.1),
)
shows_held actor link s t (is_done outcome) (moves.Holds r) before middle lines h e = absurd h
shows_held actor link s t (is_done outcome) (moves.Refuses r) before middle lines h e = absurd h
shows_held actor link s t (is_held reason) moves.Done before middle lines h e = absurd h
shows_held actor link s t (is_held reason) (moves.Refuses r) before middle lines h e = absurd h
shows_held actor link s t (is_refused reason) moves.Done before middle lines h e = absurd h
shows_held actor link s t (is_refused reason) (moves.Holds r) before middle lines h e = absurd h

pub held_stops : (actor : Option NodeId) (link : Link) (s t : OctetState) (done : OctetDone) (why : Option Stop) (before lines : List OutLine)
    → DoneStops done (record { state = s; lines = before }) (record { state = t; lines = lines }) why
    → EventStops before (held_by actor link s done) lines why
held_stops actor link s t done None before lines h = tt
held_stops actor link s t (is_done outcome) (Some why) before lines h = h
held_stops actor link s t (is_held reason) (Some why) before lines h = absurd h
held_stops actor link s t (is_refused reason) (Some why) before lines h = absurd h

-- ---- an event that prints only that it is refused

pub shows_refused : (world : OctetWorld) (s t : OctetState) (done : OctetDone) (moved : Moved) (before middle lines : List OutLine)
    → Moves done (record { state = s; lines = before }) (record { state = t; lines = middle }) moved → lines ≡ middle ++ refused_lines moved
    → EventGives before (ordered_by world s done) lines t (Ok tt)
shows_refused world s t (is_done outcome) moves.Done before middle lines h e = no_more outcome before middle lines t h e
shows_refused world s t (is_held reason) (moves.Holds r) before middle lines h e =
    (e ∙ ap (λ (l : List OutLine). l ++ []) (ap (λ (a : RunPoint). a.lines) h.1), sym (ap (λ (a : RunPoint). a.state) h.1))
shows_refused world s t (is_refused reason) (moves.Refuses r) before middle lines h e = (
  e ∙ ap (λ (l : List OutLine). l ++ outs.Refused r ∷ []) (ap (λ (a : RunPoint). a.lines) h.1)
      ∙ ap (λ (x : RefuseReason). before ++ outs.Refused x ∷ []) h.0,
  sym (ap (λ (a : RunPoint). a.state) h.1),
)
shows_refused world s t (is_done outcome) (moves.Holds r) before middle lines h e = absurd h
shows_refused world s t (is_done outcome) (moves.Refuses r) before middle lines h e = absurd h
shows_refused world s t (is_held reason) moves.Done before middle lines h e = absurd h
shows_refused world s t (is_held reason) (moves.Refuses r) before middle lines h e = absurd h
shows_refused world s t (is_refused reason) moves.Done before middle lines h e = absurd h
shows_refused world s t (is_refused reason) (moves.Holds r) before middle lines h e = absurd h

pub refused_stops : (world : OctetWorld) (s t : OctetState) (done : OctetDone) (why : Option Stop) (before lines : List OutLine)
    → DoneStops done (record { state = s; lines = before }) (record { state = t; lines = lines }) why
    → EventStops before (ordered_by world s done) lines why
refused_stops world s t done None before lines h = tt
refused_stops world s t (is_done outcome) (Some why) before lines h = h
refused_stops world s t (is_held reason) (Some why) before lines h = absurd h
refused_stops world s t (is_refused reason) (Some why) before lines h = absurd h
