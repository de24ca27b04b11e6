-- Items of radios are carried and confirmed: the events, by what stands there.
use Rattle.std.proofs.Common.{◌≡◌, ◌==◌, ℕ, Bool, true, false, if◌then◌else◌, List, [], ◌∷◌, ◌++◌, Option, Some, None, refl, sym, ◌∙◌, ap, subst}
use Rattle.std.specs.Prelude.{Result, Ok, Err}
use Rattle.gnb_types.specs.declared.names.NodeId.{NodeId}
use Rattle.gnb_types.specs.declared.keys.EntityKey.{EntityKey}
use Rattle.gnb_types.specs.declared.reasons.RefuseReason.{RefuseReason}
use Rattle.gnb_types.specs.declared.reasons.RefuseReason.TheVariants as reasons
use Rattle.gnb_types.specs.Orders.{entity_cmp}
use Rattle.tables.specs.Tables.{at}
use Rattle.scenario_text.specs.declared.line.OutLine.{OutLine}
use Rattle.scenario_text.specs.declared.line.OutLine.TheVariants as outs
use Rattle.transport_defs.specs.declared.Item.{Item}
use Rattle.transport_defs.specs.Links.{Radio, silent}
use Rattle.links.specs.Radios.{uncarried, oldest_of, oldest_carried}
use Rattle.run_defs.specs.Lines.{radio_link}
use Rattle.run_defs.specs.States.{Stop, refused, has_bearer}
use Rattle.run_defs.specs.Steps.{is_done, is_held, is_refused, ordered_by}
use Rattle.run_defs.specs.Conditions.{ready_home, receiver_of, epoch_of}
use Rattle.run_defs.specs.Events.{air, air_at, air_item, carried_by, carry_done, ack, ack_at, ack_items, confirm_done}
use Rattle.run_links.specs.Networks.{Octets, OctetWorld, OctetState, OctetOutcome}
use Rattle.world_steps.specs.declared.cause.Cause.{Cause}
use Rattle.world_steps.specs.declared.asked.Moved.{Moved}
use Rattle.world_steps.specs.Gives.{EventGives, EventStops, stop_by}
use Rattle.world_steps.specs.Moves.{OctetDone, Moves, StepOutcome, DoneStops, held_lines, refused_lines}
use Rattle.world_steps.proofs.Shown.{shows_held, shows_refused, refused_stops}
use Rattle.world_steps.specs.packets.Homes.{home_in, home_at}

abbrev radio_at : OctetState → EntityKey → Radio Octets
radio_at s key = at entity_cmp silent s.radios key

-- ---- the home of the terminal

abbrev by_home : OctetState → (NodeId → OctetOutcome) → Result NodeId RefuseReason → OctetOutcome
by_home s f (Ok home) = f home
by_home s f (Err reason) = refused reason s

air_home : (world : OctetWorld) (key : EntityKey) (s : OctetState)
    → air world key s ≡ by_home s (λ home. air_item world key home s (uncarried (radio_at s key))) (home_at s key)
unfolding air
air_home world key s = by (has_bearer s key.ue key.bearer) (ready_home s key.ue)
  where
    by : (b : Bool) (o : Option NodeId) → (if b then air_at world key s o else refused reasons.NoBearer s)
        ≡ by_home s (λ home. air_item world key home s (uncarried (radio_at s key))) (if b then home_in o else Err reasons.NoBearer)
    by true None = refl
    by true (Some home) = refl
    by false o = refl

ack_home : (world : OctetWorld) (key : EntityKey) (s : OctetState)
    → ack world key s ≡ by_home s (λ home. ack_items world key home s (radio_at s key).items (radio_at s key).carried) (home_at s key)
unfolding ack
ack_home world key s = by (has_bearer s key.ue key.bearer) (ready_home s key.ue)
  where
    by : (b : Bool) (o : Option NodeId) → (if b then ack_at world key s o else refused reasons.NoBearer s)
        ≡ by_home s (λ home. ack_items world key home s (radio_at s key).items (radio_at s key).carried) (if b then home_in o else Err reasons.NoBearer)
    by true None = refl
    by true (Some home) = refl
    by false o = refl

-- ---- air

pub air_refuses : (world : OctetWorld) (key : EntityKey) (s : OctetState) (reason : RefuseReason) (before lines : List OutLine)
    → Err reason ≡ home_at s key → lines ≡ before ++ outs.Refused reason ∷ [] → EventGives before (air world key s) lines s (Ok tt)
air_refuses world key s reason before lines h told =
    subst (λ (o : OctetOutcome). EventGives before o lines s (Ok tt))
    (sym (air_home world key s ∙ ap (by_home s (λ home. air_item world key home s (uncarried (radio_at s key)))) (sym h))) (told, refl)

air_is : (world : OctetWorld) (key : EntityKey) (s : OctetState) (home : NodeId) (o : Option (Item Octets)) → Ok home ≡ home_at s key
    → o ≡ uncarried (radio_at s key) → air world key s ≡ air_item world key home s o
air_is world key s home o h there =
    air_home world key s ∙ ap (by_home s (λ home. air_item world key home s (uncarried (radio_at s key)))) (sym h)
    ∙ ap (air_item world key home s) (sym there)

pub air_empty : (world : OctetWorld) (key : EntityKey) (s : OctetState) (home : NodeId) (before lines : List OutLine) → Ok home ≡ home_at s key
    → None ≡ uncarried (radio_at s key) → lines ≡ before ++ outs.Refused reasons.Empty ∷ [] → EventGives before (air world key s) lines s (Ok tt)
air_empty world key s home before lines h there told =
    subst (λ (o : OctetOutcome). EventGives before o lines s (Ok tt)) (sym (air_is world key s home None h there)) (told, refl)

pub air_moves : (world : OctetWorld) (key : EntityKey) (s t : OctetState) (home : NodeId) (item : Item Octets) (moved : Moved)
    (before middle lines : List OutLine) → Ok home ≡ home_at s key → Some item ≡ uncarried (radio_at s key)
    → StepOutcome (carry_done world key home item s) (record { state = s; lines = before }) (record { state = t; lines = middle }) (Ok moved)
    → lines ≡ middle ++ held_lines (radio_link key (epoch_of s key.ue)) moved → EventGives before (air world key s) lines t (Ok tt)
air_moves world key s t home item moved before middle lines h there gives told =
    subst (λ (o : OctetOutcome). EventGives before o lines t (Ok tt)) (sym (air_is world key s home (Some item) h there))
    (by (carry_done world key home item s) gives)
  where
    by : (done : OctetDone) → Moves done (record { state = s; lines = before }) (record { state = t; lines = middle }) moved
        → EventGives before (carried_by world key home s done) lines t (Ok tt)
    by (is_done outcome) m = shows_held (Some (receiver_of key home)) (radio_link key (epoch_of s key.ue)) s t (is_done outcome) moved before middle lines m told
    by (is_held reason) m = shows_held (Some (receiver_of key home)) (radio_link key (epoch_of s key.ue)) s t (is_held reason) moved before middle lines m told
    by (is_refused reason) m = shows_held (Some (receiver_of key home)) (radio_link key (epoch_of s key.ue)) s t (is_refused reason) moved before middle lines m told

pub air_stops : (world : OctetWorld) (key : EntityKey) (s t : OctetState) (home : NodeId) (item : Item Octets) (cause : Cause)
    (before lines : List OutLine) → Ok home ≡ home_at s key → Some item ≡ uncarried (radio_at s key)
    → StepOutcome (carry_done world key home item s) (record { state = s; lines = before }) (record { state = t; lines = lines }) (Err cause)
    → EventGives before (air world key s) lines t (Err cause)
air_stops world key s t home item cause before lines h there gives =
    subst (λ (o : OctetOutcome). EventGives before o lines t (Err cause)) (sym (air_is world key s home (Some item) h there))
    (by (carry_done world key home item s) (stop_by cause) gives)
  where
    by : (done : OctetDone) (why : Option Stop) → DoneStops done (record { state = s; lines = before }) (record { state = t; lines = lines }) why
        → EventStops before (carried_by world key home s done) lines why
    by done None m = tt
    by (is_done outcome) (Some why) m = m
    by (is_held reason) (Some why) m = absurd m
    by (is_refused reason) (Some why) m = absurd m

-- ---- ack

-- what is shown as carried is the first of the items, and some are carried
pub record Carried (radio : Radio Octets) (shown : Item Octets) : Type 0 where
  pub rest : List (Item Octets)
  pub items : radio.items ≡ shown ∷ rest
  pub some : (radio.carried == 0) ≡ false

carried_of : (items : List (Item Octets)) (carried : ℕ) (shown : Item Octets) → Some shown ≡ oldest_of items carried
    → Carried (record { items = items; carried = carried }) shown
carried_of [] carried shown h = absurd cc
carried_of (i ∷ is) carried shown h = by (carried == 0) refl
  where
    by : (b : Bool) → (carried == 0) ≡ b → Carried (record { items = i ∷ is; carried = carried }) shown
    by true e = let k : Some shown ≡ None = rw e at h in absurd cc
    by false e =
        let k : Some shown ≡ Some i = rw e at h in
        let same : shown ≡ i = cc in
        record { rest = is; items = ap (λ (x : Item Octets). x ∷ is) (sym same); some = e }

pub carried_is : (radio : Radio Octets) (shown : Item Octets) → Some shown ≡ oldest_carried radio → Carried radio shown
carried_is radio shown h = carried_of radio.items radio.carried shown h

pub ack_refuses : (world : OctetWorld) (key : EntityKey) (s : OctetState) (reason : RefuseReason) (before lines : List OutLine)
    → Err reason ≡ home_at s key → lines ≡ before ++ outs.Refused reason ∷ [] → EventGives before (ack world key s) lines s (Ok tt)
ack_refuses world key s reason before lines h told =
    subst (λ (o : OctetOutcome). EventGives before o lines s (Ok tt))
    (sym (ack_home world key s ∙ ap (by_home s (λ home. ack_items world key home s (radio_at s key).items (radio_at s key).carried)) (sym h))) (told, refl)

ack_is : (world : OctetWorld) (key : EntityKey) (s : OctetState) (home : NodeId) → Ok home ≡ home_at s key
    → ack world key s ≡ ack_items world key home s (radio_at s key).items (radio_at s key).carried
ack_is world key s home h =
    ack_home world key s ∙ ap (by_home s (λ home. ack_items world key home s (radio_at s key).items (radio_at s key).carried)) (sym h)

empty_by : (world : OctetWorld) (key : EntityKey) (s : OctetState) (home : NodeId) (items : List (Item Octets)) (carried : ℕ)
    → None ≡ oldest_of items carried → ack_items world key home s items carried ≡ refused reasons.Empty s
empty_by world key s home [] carried h = refl
empty_by world key s home (i ∷ is) carried h = by (carried == 0) h
  where
    by : (b : Bool) → None ≡ (if b then None else Some i)
        → (if b then refused reasons.Empty s else ordered_by world s (confirm_done world key home i is s)) ≡ refused reasons.Empty s
    by true k = refl
    by false k = absurd cc

pub ack_empty : (world : OctetWorld) (key : EntityKey) (s : OctetState) (home : NodeId) (before lines : List OutLine) → Ok home ≡ home_at s key
    → None ≡ oldest_carried (radio_at s key) → lines ≡ before ++ outs.Refused reasons.Empty ∷ [] → EventGives before (ack world key s) lines s (Ok tt)
ack_empty world key s home before lines h there told =
    subst (λ (o : OctetOutcome). EventGives before o lines s (Ok tt))
    (sym (ack_is world key s home h ∙ empty_by world key s home (radio_at s key).items (radio_at s key).carried there)) (told, refl)

ack_one : (world : OctetWorld) (key : EntityKey) (s : OctetState) (home : NodeId) (item : Item Octets) (rest : List (Item Octets)) → Ok home ≡ home_at s key
    → (radio_at s key).items ≡ item ∷ rest → ((radio_at s key).carried == 0) ≡ false
    → ack world key s ≡ ordered_by world s (confirm_done world key home item rest s)
ack_one world key s home item rest h is some =
    ack_is world key s home h ∙ ap (λ (l : List (Item Octets)). ack_items world key home s l (radio_at s key).carried) is
    ∙ ap (λ (b : Bool). if b then refused reasons.Empty s else ordered_by world s (confirm_done world key home item rest s)) some

-- what a step of the oldest carried item gives
abbrev pub AcksItem : OctetWorld → EntityKey → NodeId → OctetState → List OutLine → OctetState → List OutLine → Result Moved Cause → Type 0
AcksItem world key home s before t lines result = (item : Item Octets) (rest : List (Item Octets)) → (radio_at s key).items ≡ item ∷ rest
    → ((radio_at s key).carried == 0) ≡ false
    → StepOutcome (confirm_done world key home item rest s) (record { state = s; lines = before }) (record { state = t; lines = lines }) result

pub ack_moves : (world : OctetWorld) (key : EntityKey) (s t : OctetState) (home : NodeId) (shown : Item Octets) (moved : Moved)
    (before middle lines : List OutLine) → Ok home ≡ home_at s key → Some shown ≡ oldest_carried (radio_at s key)
    → AcksItem world key home s before t middle (Ok moved) → lines ≡ middle ++ refused_lines moved
    → EventGives before (ack world key s) lines t (Ok tt)
ack_moves world key s t home shown moved before middle lines h there gives told =
    let one = carried_is (radio_at s key) shown there in
    subst (λ (o : OctetOutcome). EventGives before o lines t (Ok tt)) (sym (ack_one world key s home shown one.rest h one.items one.some))
    (shows_refused world s t (confirm_done world key home shown one.rest s) moved before middle lines (gives shown one.rest one.items one.some) told)

pub ack_stops : (world : OctetWorld) (key : EntityKey) (s t : OctetState) (home : NodeId) (shown : Item Octets) (cause : Cause)
    (before lines : List OutLine) → Ok home ≡ home_at s key → Some shown ≡ oldest_carried (radio_at s key)
    → AcksItem world key home s before t lines (Err cause) → EventGives before (ack world key s) lines t (Err cause)
ack_stops world key s t home shown cause before lines h there gives =
    let one = carried_is (radio_at s key) shown there in
    subst (λ (o : OctetOutcome). EventGives before o lines t (Err cause)) (sym (ack_one world key s home shown one.rest h one.items one.some))
    (refused_stops world s t (confirm_done world key home shown one.rest s) (stop_by cause) before lines (gives shown one.rest one.items one.some))
