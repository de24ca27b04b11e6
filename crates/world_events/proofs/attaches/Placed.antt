-- A terminal that is set up without messages: the event, by what its units say.
use Rattle.std.proofs.Common.{◌≡◌, ◌≤◌, ℕ, ◌+◌, ◌*◌, ◌^◌, Bool, true, false, not, ◌||◌, if◌then◌else◌, List, [], ◌∷◌, ◌++◌, refl, sym, ◌∙◌, ap, subst}
use Rattle.std.specs.Prelude.{Ok, Err}
use Rattle.std.proofs.lemmas.List.{append-nil}
use Rattle.gnb_types.specs.declared.plans.Plan.{Plan}
use Rattle.gnb_types.specs.declared.reasons.RefuseReason.TheVariants.{Attached, Quota}
use Rattle.gnb_types.proofs.Choices.{both}
use Rattle.scenario_text.specs.declared.line.OutLine.{OutLine}
use Rattle.scenario_text.specs.declared.line.OutLine.TheVariants as outs
use Rattle.unit_messages.specs.declared.steps.StepError.{StepError}
use Rattle.unit_messages.specs.declared.steps.StepError.TheVariants as errors
use Rattle.unit_defs.specs.Static.{cu_up_has_teids, du_has_teids}
use Rattle.unit_defs.specs.Ways.{teids_spent}
use Rattle.unit_defs.specs.octet_defs.Codec.{Codec}
use Rattle.run_defs.specs.Units.{cu_up_of, du_of}
use Rattle.run_defs.specs.States.{goes_on, spent_counter, stops, refused, was_attached}
use Rattle.run_defs.specs.Conditions.{is_held_by_units, units_placed, all_set_up, statically}
use Rattle.run_defs.specs.Events.{static}
use Rattle.run_defs.specs.UnitRuns.{Records, Meaning}
use Rattle.run_links.specs.declared.network.Network.{Network}
use Rattle.run_links.specs.Networks.{OctetWorld, OctetCore, OctetState, OctetOutcome, state_of}
use Rattle.run_links.specs.Told.{Makes}
use Rattle.run_units.specs.Steps.{has_room, has_teids, PlacingGives}
use Rattle.world_steps.specs.declared.cause.Cause.TheVariants as causes
use Rattle.world_steps.specs.Gives.{EventGives, cause_of}
use Rattle.cu_up_contexts.specs.declared.contexts.placing.PlaceError.TheVariants as places
use Rattle.world_events.specs.attaches.Comings.{with_path, kept, keeps}
use Rattle.world_events.proofs.attaches.Kept.{teids_fit}

abbrev pub is_known : Plan → OctetState → Bool
is_known plan s = was_attached s plan.ue || is_held_by_units plan s.units

abbrev by_units : Plan → OctetState → Bool → Bool → Bool → OctetOutcome
by_units plan s known room teids =
    if known then refused Attached s else
    (if not room then refused Quota s else (if teids then goes_on (statically plan s) else stops [] (spent_counter teids_spent)))

static_is : (world : OctetWorld) (plan : Plan) (s : OctetState) (known room teids : Bool) → known ≡ is_known plan s → room ≡ has_room plan s.units
    → teids ≡ has_teids plan s.units → static world plan s ≡ by_units plan s known room teids
unfolding static
static_is world plan s known room teids k r t = sym (
    ap (λ (b : Bool). by_units plan s b room teids) k ∙ ap (λ (b : Bool). by_units plan s (is_known plan s) b teids) r
    ∙ ap (λ (b : Bool). by_units plan s (is_known plan s) (has_room plan s.units) b) t
    )

pub static_known : (world : OctetWorld) (plan : Plan) (s : OctetState) (before lines : List OutLine) → is_known plan s ≡ true
    → lines ≡ before ++ outs.Refused Attached ∷ [] → EventGives before (static world plan s) lines s (Ok tt)
static_known world plan s before lines known told =
    subst (λ (o : OctetOutcome). EventGives before o lines s (Ok tt))
    (sym (static_is world plan s true (has_room plan s.units) (has_teids plan s.units) (sym known) refl refl)) (told, refl)

pub static_full : (world : OctetWorld) (plan : Plan) (s t : OctetState) (before lines : List OutLine) → is_known plan s ≡ false
    → has_room plan s.units ≡ false → s ≡ t → lines ≡ before ++ outs.Refused Quota ∷ [] → EventGives before (static world plan s) lines t (Ok tt)
static_full world plan s t before lines known room same told =
    subst (λ (o : OctetOutcome). EventGives before o lines t (Ok tt))
    (sym (static_is world plan s false false (has_teids plan s.units) (sym known) (sym room) refl)) (told, same)

pub static_done : (world : OctetWorld) (plan : Plan) (s t : OctetState) (before : List OutLine) → is_known plan s ≡ false
    → has_room plan s.units ≡ true → has_teids plan s.units ≡ true → statically plan s ≡ t → EventGives before (static world plan s) before t (Ok tt)
static_done world plan s t before known room teids same =
    subst (λ (o : OctetOutcome). EventGives before o before t (Ok tt))
    (sym (static_is world plan s false true true (sym known) (sym room) (sym teids))) (sym (append-nil before), same)

pub static_stops : (world : OctetWorld) (plan : Plan) (s t : OctetState) (after : Records) (error : StepError) (before : List OutLine)
    → is_known plan s ≡ false → PlacingGives plan s.units after (Err (places.Step error))
    → EventGives before (static world plan s) before t (Err (cause_of error))
static_stops world plan s t after errors.Memory before known h = tt
static_stops world plan s t after (errors.Spent counter) before known h =
    subst (λ (o : OctetOutcome). EventGives before o before t (Err (causes.Spent counter)))
    (sym (static_is world plan s false true false (sym known) (sym h.0) (sym h.1)))
    (sym (append-nil before), ap spent_counter (sym h.2))

-- ---- the state with the terminal

pub keeps_all : (codec : Codec) (answer : Meaning) (plan : Plan) (up du : ℕ) (units after : Records) (core core_after : OctetCore)
    (old new : Network) (lines : List OutLine)
    → up ≡ (cu_up_of units plan.gnb plan.up).next_teid → du ≡ (du_of units plan.gnb plan.du).next_teid
    → after ≡ all_set_up (units_placed plan units) → core_after ≡ with_path plan up core → Makes (keeps plan up du) old new lines lines
    → statically plan (state_of units core old) ≡ state_of after core_after new
keeps_all codec answer plan up du units after core core_after old new lines up_is du_is units_are core_is makes =
    let placed = all_set_up (units_placed plan units) in
    let next = (du_of units plan.gnb plan.du).next_teid in
    ap (λ (n : ℕ). kept plan n next (state_of placed (with_path plan n core) old)) (sym up_is)
    ∙ ap (λ (n : ℕ). kept plan up n (state_of placed (with_path plan up core) old)) (sym du_is)
    ∙ ap (λ (r : Records). kept plan up du (state_of r (with_path plan up core) old)) (sym units_are)
    ∙ ap (λ (c : OctetCore). kept plan up du (state_of after c old)) (sym core_is)
    ∙ (makes codec answer after core_after).1

-- ---- there are TEIDs for it

pub up_fits : (plan : Plan) (r : Records) (up : ℕ) → up ≡ (cu_up_of r plan.gnb plan.up).next_teid → has_teids plan r ≡ true
    → up + 2 * plan.bearers ≤ 2 ^ 32
up_fits plan r up is h =
    subst (λ (n : ℕ). n + 2 * plan.bearers ≤ 2 ^ 32) (sym is)
    (teids_fit (cu_up_of r plan.gnb plan.up).next_teid (2 * plan.bearers)
    (both (cu_up_has_teids (cu_up_of r plan.gnb plan.up) plan) (du_has_teids (du_of r plan.gnb plan.du) plan) h).0)

pub du_fits : (plan : Plan) (r : Records) (du : ℕ) → du ≡ (du_of r plan.gnb plan.du).next_teid → has_teids plan r ≡ true
    → du + plan.bearers ≤ 2 ^ 32
du_fits plan r du is h =
    subst (λ (n : ℕ). n + plan.bearers ≤ 2 ^ 32) (sym is)
    (teids_fit (du_of r plan.gnb plan.du).next_teid plan.bearers
    (both (cu_up_has_teids (cu_up_of r plan.gnb plan.up) plan) (du_has_teids (du_of r plan.gnb plan.du) plan) h).1)

-- a terminal that isn't known is held by no unit
pub not_held : (plan : Plan) (s : OctetState) → is_known plan s ≡ false → is_held_by_units plan s.units ≡ false
not_held plan s h = by (was_attached s plan.ue) (is_held_by_units plan s.units) h
  where
    by : (a b : Bool) → (a || b) ≡ false → b ≡ false
    by true b e = cc
    by false b e = e
