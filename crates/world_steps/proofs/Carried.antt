-- A step after what it takes first: what was taken, and then the end of the step.
use Rattle.std.proofs.Common.{◌≡◌, ℕ, List, ◌++◌, Option, Some, None, refl, sym, ◌∙◌, ap, subst, append_assoc}
use Rattle.std.specs.Prelude.{Result, Ok, Err}
use Rattle.std.proofs.lemmas.List.{append-nil}
use Rattle.gnb_types.specs.declared.names.NodeId.{NodeId}
use Rattle.scenario_text.specs.declared.line.OutLine.{OutLine}
use Rattle.run_defs.specs.Lines.{RunLine}
use Rattle.run_defs.specs.States.{Stop, goes, stops, told_before, ◌next◌, as_step}
use Rattle.run_defs.specs.Steps.{reconnect_node, put_out_all, check_spans, carried_out}
use Rattle.run_defs.specs.UnitRuns.{Records, OctetPut}
use Rattle.run_links.specs.Networks.{Octets, OctetState, OctetWorld, OctetWithin}
use Rattle.run_links.specs.Told.{printed, GoesTo}
use Rattle.run_links.proofs.Goes.{told_more}
use Rattle.world_steps.specs.declared.cause.Cause.{Cause}
use Rattle.world_steps.specs.Gives.{Stops, Gives, EventStops, EventGives, stop_by, finished}

-- ---- one part after another

stops_before : (told : List (RunLine Octets)) (w : OctetWithin) (before middle lines : List OutLine) (why : Option Stop)
    → middle ≡ before ++ printed told → Stops middle w lines why → Stops before (told_before told w) lines why
stops_before told w before middle lines None e h = tt
stops_before told (goes more after) before middle lines (Some why) e h = h
stops_before told (stops more cause) before middle lines (Some why) e h = (told_more before middle lines told more e h.0, h.1)

gives_before : (told : List (RunLine Octets)) (w : OctetWithin) (before middle lines : List OutLine) (s : OctetState)
    (result : Result (Unit {0}) Cause) → middle ≡ before ++ printed told → Gives middle w lines s result → Gives before (told_before told w) lines s result
gives_before told (goes more after) before middle lines s (Ok done) e h = (told_more before middle lines told more e h.0, h.1)
gives_before told (stops more why) before middle lines s (Ok done) e h = h
gives_before told w before middle lines s (Err cause) e h = stops_before told w before middle lines (stop_by cause) e h

pub then_gives : (w : OctetWithin) (f : OctetState → OctetWithin) (before middle lines : List OutLine) (s t : OctetState)
    (result : Result (Unit {0}) Cause) → GoesTo before w middle s → Gives middle (f s) lines t result → Gives before (w next f) lines t result
then_gives (goes told after) f before middle lines s t result h k =
    gives_before told (f after) before middle lines t result h.0
    (subst (λ (x : OctetState). Gives middle (f x) lines t result) (sym h.1) k)
then_gives (stops told why) f before middle lines s t result h k = absurd h

-- ---- the parts of a step, from the left and from the right

before_next : (told : List (RunLine Octets)) (w : OctetWithin) (f : OctetState → OctetWithin) → told_before told (w next f) ≡ (told_before told w next f)
before_next told (goes more after) f = before_told (f after)
  where
    before_told : (v : OctetWithin) → told_before told (told_before more v) ≡ told_before (told ++ more) v
    before_told (goes last t) = ap (λ (l : List (RunLine Octets)). goes l t) (sym (append_assoc told more last))
    before_told (stops last why) = ap (λ (l : List (RunLine Octets)). stops l why) (sym (append_assoc told more last))
before_next told (stops more why) f = refl

regrouped : (w : OctetWithin) (f g h : OctetState → OctetWithin) → (w next f next g next h) ≡ (w next (λ t. f t next g next h))
regrouped (goes told t) f g h =
    ap (λ (v : OctetWithin). v next h) (sym (before_next told (f t) g)) ∙ sym (before_next told (f t next g) h)
regrouped (stops told why) f g h = refl

-- a step that takes something first
pub carried : (world : OctetWorld) (node : NodeId) (taken : Option ℕ) (first : OctetState → OctetWithin) (puts : List OctetPut) (after : Records)
    (s t u : OctetState) (before middle lines : List OutLine) (result : Result (Unit {0}) Cause)
    → GoesTo before (first (record s { units = after })) middle t → Gives middle (finished world node taken puts t) lines u result
    → Gives before (carried_out world node taken first puts after s) lines u result
carried world node taken first puts after s t u before middle lines result h k =
    subst (λ (w : OctetWithin). Gives before w lines u result)
    (sym (regrouped (first (record s { units = after })) (reconnect_node world node) (put_out_all world node taken puts) check_spans))
    (then_gives (first (record s { units = after })) (finished world node taken puts) before middle lines t u result h k)

-- ---- a step as an event

stop_of_step : (actor : Option NodeId) (w : OctetWithin) (before lines : List OutLine) (why : Option Stop) → Stops before w lines why
    → EventStops before (as_step actor w) lines why
stop_of_step actor w before lines None h = tt
stop_of_step actor (goes told after) before lines (Some why) h = h
stop_of_step actor (stops told cause) before lines (Some why) h =
    (h.0 ∙ ap (λ (l : List (RunLine Octets)). before ++ printed l) (sym (append-nil told)), h.1)

pub as_event : (actor : Option NodeId) (w : OctetWithin) (before lines : List OutLine) (s : OctetState) (result : Result (Unit {0}) Cause)
    → Gives before w lines s result → EventGives before (as_step actor w) lines s result
as_event actor (goes told after) before lines s (Ok done) h =
    (h.0 ∙ ap (λ (l : List (RunLine Octets)). before ++ printed l) (sym (append-nil told)), h.1)
as_event actor (stops told why) before lines s (Ok done) h = h
as_event actor w before lines s (Err cause) h = stop_of_step actor w before lines (stop_by cause) h
