-- An item of a tunnel or radio is the one that is shown there.
use Rattle.std.proofs.Common.{◌≡◌, List, [], ◌∷◌, ◌++◌, Option, Some, None, refl, sym, ◌∙◌, ap}
use Rattle.std.specs.Prelude.{Result, Ok, Err}
use Rattle.gnb_types.specs.declared.keys.TunnelEnd.{TunnelEnd}
use Rattle.gnb_types.specs.declared.reasons.RefuseReason.{RefuseReason}
use Rattle.gnb_types.specs.declared.reasons.RefuseReason.TheVariants as reasons
use Rattle.gnb_types.specs.Orders.{tunnel_cmp}
use Rattle.tables.specs.Tables.{find}
use Rattle.scenario_text.specs.declared.line.OutLine.{OutLine}
use Rattle.scenario_text.specs.declared.line.OutLine.TheVariants as outs
use Rattle.transport_defs.specs.declared.Item.{Item}
use Rattle.unit_defs.specs.octet_defs.Codec.{Codec}
use Rattle.run_defs.specs.Lines.{tunnel_link}
use Rattle.run_defs.specs.States.{Stop}
use Rattle.run_defs.specs.Steps.{is_done, is_held, is_refused}
use Rattle.run_defs.specs.Events.{get, get_on, get_done, got_by}
use Rattle.run_defs.specs.UnitRuns.{Meaning, unit_world}
use Rattle.run_links.specs.Networks.{Octets, OctetState}
use Rattle.run_links.specs.Told.{oldest_in}
use Rattle.world_steps.specs.declared.cause.Cause.{Cause}
use Rattle.world_steps.specs.declared.asked.Moved.{Moved}
use Rattle.world_steps.specs.Gives.{EventGives, EventStops, stop_by}
use Rattle.world_steps.specs.Moves.{OctetDone, StepOutcome, Moves, DoneStops, held_lines}
use Rattle.world_steps.proofs.Shown.{shows_held}

pub oldest_is : (there : Option (List (Item Octets))) (shown item : Item Octets) (rest : List (Item Octets)) → oldest_in there ≡ Ok shown
    → there ≡ Some (item ∷ rest) → shown ≡ item
oldest_is there shown item rest h e = let k : oldest_in (Some (item ∷ rest)) ≡ Ok shown = rw e at h in cc

pub oldest_not : {P : Type 0} (there : Option (List (Item Octets))) (reason : RefuseReason) (item : Item Octets) (rest : List (Item Octets))
    → oldest_in there ≡ Err reason → there ≡ Some (item ∷ rest) → P
oldest_not there reason item rest h e = let k : oldest_in (Some (item ∷ rest)) ≡ Err reason = rw e at h in absurd cc

-- ---- the event

get_refuses_on : (codec : Codec) (answer : Meaning) (end : TunnelEnd) (s : OctetState) (reason : RefuseReason) (before lines : List OutLine)
    (there : Option (List (Item Octets))) → oldest_in there ≡ Err reason → lines ≡ before ++ outs.Refused reason ∷ []
    → EventGives before (get_on (unit_world codec answer) end s there) lines s (Ok tt)
get_refuses_on codec answer end s reason before lines None h told =
    let same : reasons.NoSuch ≡ reason = cc in (told ∙ ap (λ (r : RefuseReason). before ++ outs.Refused r ∷ []) (sym same), refl)
get_refuses_on codec answer end s reason before lines (Some []) h told =
    let same : reasons.Empty ≡ reason = cc in (told ∙ ap (λ (r : RefuseReason). before ++ outs.Refused r ∷ []) (sym same), refl)
get_refuses_on codec answer end s reason before lines (Some (i ∷ is)) h told = absurd cc

pub get_refuses : (codec : Codec) (answer : Meaning) (end : TunnelEnd) (s : OctetState) (reason : RefuseReason) (before lines : List OutLine)
    → oldest_in (find tunnel_cmp s.tunnels end) ≡ Err reason → lines ≡ before ++ outs.Refused reason ∷ []
    → EventGives before (get (unit_world codec answer) end s) lines s (Ok tt)
unfolding get
get_refuses codec answer end s reason before lines h told =
    get_refuses_on codec answer end s reason before lines (find tunnel_cmp s.tunnels end) h told

-- what a step of the oldest item gives, whatever stands behind it
abbrev pub GetsItem : Codec → Meaning → TunnelEnd → OctetState → List OutLine → OctetState → List OutLine → Result Moved Cause → Type 0
GetsItem codec answer end s before t lines result = (item : Item Octets) (rest : List (Item Octets)) → find tunnel_cmp s.tunnels end ≡ Some (item ∷ rest)
    → StepOutcome (get_done (unit_world codec answer) end item rest s) (record { state = s; lines = before }) (record { state = t; lines = lines }) result

get_moves_on : (codec : Codec) (answer : Meaning) (end : TunnelEnd) (s t : OctetState) (shown : Item Octets) (moved : Moved)
    (before middle lines : List OutLine) (there : Option (List (Item Octets))) → oldest_in there ≡ Ok shown
    → ((item : Item Octets) (rest : List (Item Octets)) → there ≡ Some (item ∷ rest)
    → StepOutcome (get_done (unit_world codec answer) end item rest s) (record { state = s; lines = before }) (record { state = t; lines = middle }) (Ok moved))
    → lines ≡ middle ++ held_lines (tunnel_link end) moved → EventGives before (get_on (unit_world codec answer) end s there) lines t (Ok tt)
get_moves_on codec answer end s t shown moved before middle lines None h gives told = absurd cc
get_moves_on codec answer end s t shown moved before middle lines (Some []) h gives told = absurd cc
get_moves_on codec answer end s t shown moved before middle lines (Some (item ∷ rest)) h gives told =
    got_so (get_done (unit_world codec answer) end item rest s) (gives item rest refl)
  where
    got_so : (done : OctetDone) → Moves done (record { state = s; lines = before }) (record { state = t; lines = middle }) moved
        → EventGives before (got_by (unit_world codec answer) end s done) lines t (Ok tt)
    got_so (is_done outcome) m = shows_held (Some end.node) (tunnel_link end) s t (is_done outcome) moved before middle lines m told
    got_so (is_held reason) m = shows_held (Some end.node) (tunnel_link end) s t (is_held reason) moved before middle lines m told
    got_so (is_refused reason) m = shows_held (Some end.node) (tunnel_link end) s t (is_refused reason) moved before middle lines m told

pub get_moves : (codec : Codec) (answer : Meaning) (end : TunnelEnd) (s t : OctetState) (shown : Item Octets) (moved : Moved)
    (before middle lines : List OutLine) → oldest_in (find tunnel_cmp s.tunnels end) ≡ Ok shown
    → GetsItem codec answer end s before t middle (Ok moved) → lines ≡ middle ++ held_lines (tunnel_link end) moved
    → EventGives before (get (unit_world codec answer) end s) lines t (Ok tt)
unfolding get
get_moves codec answer end s t shown moved before middle lines h gives told =
    get_moves_on codec answer end s t shown moved before middle lines (find tunnel_cmp s.tunnels end) h gives told

get_stops_on : (codec : Codec) (answer : Meaning) (end : TunnelEnd) (s t : OctetState) (shown : Item Octets) (cause : Cause)
    (before lines : List OutLine) (there : Option (List (Item Octets))) → oldest_in there ≡ Ok shown
    → ((item : Item Octets) (rest : List (Item Octets)) → there ≡ Some (item ∷ rest)
    → StepOutcome (get_done (unit_world codec answer) end item rest s) (record { state = s; lines = before }) (record { state = t; lines = lines }) (Err cause))
    → EventGives before (get_on (unit_world codec answer) end s there) lines t (Err cause)
get_stops_on codec answer end s t shown cause before lines None h gives = absurd cc
get_stops_on codec answer end s t shown cause before lines (Some []) h gives = absurd cc
get_stops_on codec answer end s t shown cause before lines (Some (item ∷ rest)) h gives =
    got_so (get_done (unit_world codec answer) end item rest s) (stop_by cause) (gives item rest refl)
  where
    got_so : (done : OctetDone) (why : Option Stop) → DoneStops done (record { state = s; lines = before }) (record { state = t; lines = lines }) why
        → EventStops before (got_by (unit_world codec answer) end s done) lines why
    got_so done None m = tt
    got_so (is_done outcome) (Some why) m = m
    got_so (is_held reason) (Some why) m = absurd m
    got_so (is_refused reason) (Some why) m = absurd m

pub get_stops : (codec : Codec) (answer : Meaning) (end : TunnelEnd) (s t : OctetState) (shown : Item Octets) (cause : Cause)
    (before lines : List OutLine) → oldest_in (find tunnel_cmp s.tunnels end) ≡ Ok shown → GetsItem codec answer end s before t lines (Err cause)
    → EventGives before (get (unit_world codec answer) end s) lines t (Err cause)
unfolding get
get_stops codec answer end s t shown cause before lines h gives =
    get_stops_on codec answer end s t shown cause before lines (find tunnel_cmp s.tunnels end) h gives
