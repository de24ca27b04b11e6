-- A control message is given: to a unit, to the core, or where there is none of its number.
use Rattle.std.proofs.Common.{◌≡◌, ℕ, ◌+◌, nat_lt, Bool, true, false, if◌then◌else◌, List, [], ◌∷◌, ◌++◌, length, Option, Some, None, refl, sym, ◌∙◌, ap, subst}
use Rattle.std.specs.Prelude.{map, Result, Ok, Err}
use Rattle.std.proofs.lemmas.List.{append-nil}
use Rattle.gnb_types.specs.declared.names.NodeId.{NodeId}
use Rattle.gnb_types.specs.declared.names.NodeId.TheVariants.{CuCp, CuUp, Du, Core, Ue}
use Rattle.gnb_types.specs.declared.inputs.Input.{Input}
use Rattle.gnb_types.specs.declared.inputs.Input.TheVariants as ins
use Rattle.gnb_types.specs.declared.outputs.Output.{Output}
use Rattle.gnb_types.specs.declared.reasons.HeldReason.{HeldReason}
use Rattle.gnb_types.specs.declared.reasons.RefuseReason.{RefuseReason}
use Rattle.gnb_types.specs.declared.reasons.RefuseReason.TheVariants as reasons
use Rattle.scenario_text.specs.declared.line.OutLine.{OutLine}
use Rattle.scenario_text.specs.declared.line.OutLine.TheVariants as outs
use Rattle.transport_defs.specs.declared.ControlMessage.{ControlMessage}
use Rattle.transport_defs.specs.Links.{control_message, landed, most_control_messages}
use Rattle.unit_defs.specs.octet_defs.Codec.{Codec}
use Rattle.run_defs.specs.States.{control_message_for, core_stepped, spent_counter, stops, ◌next◌, as_step}
use Rattle.run_defs.specs.Steps.{does, ordered_by, put_out_all, check_spans, too_many_control_messages, control_messages_spent}
use Rattle.run_defs.specs.Conditions.{takes_control_messages}
use Rattle.run_defs.specs.Events.{landed_as, core_put, give_to, give_on, give}
use Rattle.run_defs.specs.UnitRuns.{Records, Meaning, OctetCoreStepped, core_answer, put_of, stepped_by, unit_world}
use Rattle.run_links.specs.declared.network.Network.{Network}
use Rattle.run_links.specs.Networks.{Octets, OctetState, OctetWorld, OctetCore, OctetOutcome, state_of, control_messages_in}
use Rattle.run_links.specs.Told.{GoesTo}
use Rattle.run_links.proofs.Counting.{control_messages_put}
use Rattle.world_steps.specs.declared.asked.Asked.{Asked}
use Rattle.world_steps.specs.declared.asked.Asked.TheVariants as kinds
use Rattle.world_steps.specs.declared.asked.Moved.{Moved}
use Rattle.world_steps.specs.declared.asked.Moved.TheVariants as moves
use Rattle.world_steps.specs.declared.cause.Cause.{Cause}
use Rattle.world_steps.specs.declared.cause.Cause.TheVariants as causes
use Rattle.world_steps.specs.Asks.{Asking, ComesOf}
use Rattle.world_steps.specs.Gives.{Gives, EventGives, stop_by, finished}
use Rattle.world_steps.specs.Moves.{OctetDone, Moves, StepOutcome, moved_by, refused_lines}
use Rattle.world_steps.proofs.Carried.{carried, as_event}
use Rattle.world_steps.proofs.Does.{does_step, does_hold, does_refuse, does_fail}
use Rattle.world_steps.proofs.Shown.{shows_refused, refused_stops}
use Rattle.world_steps.specs.control_messages.ControlMessages.{CoreGives, to_unit}

-- no message comes or goes where one lands
pub control_messages_stay : (codec : Codec) (answer : Meaning) (units : Records) (core : OctetCore) (old new : Network) (number : ℕ) (l : ControlMessage Octets)
    (before lines : List OutLine)
    → GoesTo before (landed_as (unit_world codec answer) number l (state_of units core old)) lines (state_of units core new)
    → length old.bag.control_messages ≡ length new.bag.control_messages
unfolding landed
control_messages_stay codec answer units core old new number l before lines h = ap (λ (s : OctetState). length s.bag.control_messages) h.1

pub still_room : (old new : ℕ) (outputs : List Output) → old ≡ new → nat_lt most_control_messages (old + control_messages_in outputs) ≡ false
    → nat_lt most_control_messages (new + control_messages_in outputs) ≡ false
still_room old new outputs e h = subst (λ (n : ℕ). nat_lt most_control_messages (n + control_messages_in outputs) ≡ false) e h

-- there is room for the outputs of a step that may be made
pub room_for : (world : OctetWorld) (s : OctetState) (new : ℕ) (outputs : List Output) → length s.bag.control_messages ≡ new
    → too_many_control_messages world (map put_of outputs) s ≡ false → nat_lt most_control_messages (new + control_messages_in outputs) ≡ false
room_for world s new outputs e h =
    still_room (length s.bag.control_messages) new outputs e
    (ap (λ (n : ℕ). nat_lt most_control_messages (length s.bag.control_messages + n)) (sym (control_messages_put world outputs)) ∙ h)

-- ---- a step of a unit that takes the message that was shown

module _ (codec : Codec) (answer : Meaning) (s : OctetState) (node : NodeId) (number : ℕ) (shown l : ControlMessage Octets) (input : Input)
    (after : Records) (asked : Asked) where
  abbrev world : OctetWorld
  world = unit_world codec answer

  abbrev asking : Input → Asking
  asking i = record { world = world; state = s; node = node; stepped = stepped_by (answer s.units node i) }

  abbrev taking : ControlMessage Octets → OctetDone
  taking x = does world node (control_message_for x.from x.message) None (landed_as world number x) s

  came_so : (i : Input) (result : Result Asked Cause) → input ≡ i → ComesOf (asking input) after result → ComesOf (asking i) after result
  came_so i result is came = subst (λ (x : Input). ComesOf (asking x) after result) is came

  pub control_message_steps : (outputs : List Output) (t u : OctetState) (before middle lines : List OutLine) (result : Result (Unit {0}) Cause)
      (moved : Result Moved Cause) → shown ≡ l → input ≡ ins.Control shown.from shown.message → asked ≡ kinds.Does outputs
      → ComesOf (asking input) after (Ok asked) → GoesTo before (landed_as world number shown (record s { units = after })) middle t
      → Gives middle (finished world node None (map put_of outputs) t) lines u result → moved ≡ moved_by result
      → StepOutcome (taking l) (record { state = s; lines = before }) (record { state = u; lines = lines }) moved
  control_message_steps outputs t u before middle lines result moved same is kind came takes gives_so made =
      let here : ComesOf (asking (ins.Control shown.from shown.message)) after (Ok (kinds.Does outputs)) =
      came_so (ins.Control shown.from shown.message) (Ok (kinds.Does outputs)) is
      (subst (λ (a : Asked). ComesOf (asking input) after (Ok a)) kind came) in
      subst (λ (x : ControlMessage Octets). StepOutcome (taking x) (record { state = s; lines = before }) (record { state = u; lines = lines }) moved) same
      (subst (λ (r : Result Moved Cause). StepOutcome (taking shown) (record { state = s; lines = before }) (record { state = u; lines = lines }) r) (sym made)
      (does_step codec answer s node (control_message_for shown.from shown.message) None (landed_as world number shown) outputs after t u before middle lines
      result here takes gives_so))

  pub control_message_holds : (t : OctetState) (reason : HeldReason) (lines : List OutLine) → shown ≡ l → input ≡ ins.Control shown.from shown.message
      → asked ≡ kinds.Holds reason → ComesOf (asking input) after (Ok asked) → record s { units = after } ≡ t
      → StepOutcome (taking l) (record { state = s; lines = lines }) (record { state = t; lines = lines }) (Ok (moves.Holds reason))
  control_message_holds t reason lines same is kind came kept =
      let here : ComesOf (asking (ins.Control shown.from shown.message)) after (Ok (kinds.Holds reason)) =
      came_so (ins.Control shown.from shown.message) (Ok (kinds.Holds reason)) is
      (subst (λ (a : Asked). ComesOf (asking input) after (Ok a)) kind came) in
      subst (λ (x : ControlMessage Octets). StepOutcome (taking x) (record { state = s; lines = lines }) (record { state = t; lines = lines })
      (Ok (moves.Holds reason))) same
      (subst (λ (x : OctetState). StepOutcome (taking shown) (record { state = s; lines = lines }) (record { state = x; lines = lines })
      (Ok (moves.Holds reason))) kept
      (does_hold codec answer s node (control_message_for shown.from shown.message) None (landed_as world number shown) after reason lines here))

  pub control_message_is_refused : (t : OctetState) (reason : RefuseReason) (lines : List OutLine) → shown ≡ l
      → input ≡ ins.Control shown.from shown.message → asked ≡ kinds.Refuses reason → ComesOf (asking input) after (Ok asked)
      → record s { units = after } ≡ t
      → StepOutcome (taking l) (record { state = s; lines = lines }) (record { state = t; lines = lines }) (Ok (moves.Refuses reason))
  control_message_is_refused t reason lines same is kind came kept =
      let here : ComesOf (asking (ins.Control shown.from shown.message)) after (Ok (kinds.Refuses reason)) =
      came_so (ins.Control shown.from shown.message) (Ok (kinds.Refuses reason)) is
      (subst (λ (a : Asked). ComesOf (asking input) after (Ok a)) kind came) in
      subst (λ (x : ControlMessage Octets). StepOutcome (taking x) (record { state = s; lines = lines }) (record { state = t; lines = lines })
      (Ok (moves.Refuses reason))) same
      (subst (λ (x : OctetState). StepOutcome (taking shown) (record { state = s; lines = lines }) (record { state = x; lines = lines })
      (Ok (moves.Refuses reason))) kept
      (does_refuse codec answer s node (control_message_for shown.from shown.message) None (landed_as world number shown) after reason lines here))

-- a unit that fails
pub control_message_fails : (codec : Codec) (answer : Meaning) (s t : OctetState) (node : NodeId) (number : ℕ) (shown l : ControlMessage Octets) (input : Input)
    (after : Records) (cause : Cause) (lines : List OutLine) → shown ≡ l → input ≡ ins.Control shown.from shown.message
    → ComesOf (record { world = unit_world codec answer; state = s; node = node; stepped = stepped_by (answer s.units node input) }) after (Err cause)
    → StepOutcome (does (unit_world codec answer) node (control_message_for l.from l.message) None (landed_as (unit_world codec answer) number l) s)
    (record { state = s; lines = lines }) (record { state = t; lines = lines }) (Err cause)
control_message_fails codec answer s t node number shown l input after cause lines same is came =
    let world = unit_world codec answer in
    let here : ComesOf (record { world = world; state = s; node = node; stepped = stepped_by (answer s.units node (ins.Control shown.from shown.message)) })
    after (Err cause) =
    subst (λ (i : Input). ComesOf (record { world = world; state = s; node = node; stepped = stepped_by (answer s.units node i) }) after (Err cause)) is
    came in
    subst (λ (x : ControlMessage Octets). StepOutcome (does world node (control_message_for x.from x.message) None (landed_as world number x) s)
    (record { state = s; lines = lines }) (record { state = t; lines = lines }) (Err cause)) same
    (does_fail codec answer s node (control_message_for shown.from shown.message) None (landed_as world number shown) after t lines cause here)

-- ---- a unit, or a terminal that isn't there any more

module _ (world : OctetWorld) (number : ℕ) (l : ControlMessage Octets) (node : NodeId) (s t : OctetState) where
  abbrev unit_done : OctetDone
  unit_done = does world node (control_message_for l.from l.message) None (landed_as world number l) s

  abbrev either : Bool → OctetOutcome
  either takes = if takes then ordered_by world s unit_done else as_step (Some node) (landed_as world number l s)

  pub unit_lands : (before lines : List OutLine) → takes_control_messages s node ≡ false → GoesTo before (landed_as world number l s) lines t
      → EventGives before (to_unit world number l node s) lines t (Ok tt)
  unit_lands before lines is h =
      subst (λ (b : Bool). EventGives before (either b) lines t (Ok tt)) (sym is)
      (as_event (Some node) (landed_as world number l s) before lines t (Ok tt) h)

  pub unit_moves : (moved : Moved) (before middle lines : List OutLine) → takes_control_messages s node ≡ true
      → Moves unit_done (record { state = s; lines = before }) (record { state = t; lines = middle }) moved → lines ≡ middle ++ refused_lines moved
      → EventGives before (to_unit world number l node s) lines t (Ok tt)
  unit_moves moved before middle lines is h told =
      subst (λ (b : Bool). EventGives before (either b) lines t (Ok tt)) (sym is)
      (shows_refused world s t unit_done moved before middle lines h told)

  pub unit_stops : (cause : Cause) (before lines : List OutLine) → takes_control_messages s node ≡ true
      → StepOutcome unit_done (record { state = s; lines = before }) (record { state = t; lines = lines }) (Err cause)
      → EventGives before (to_unit world number l node s) lines t (Err cause)
  unit_stops cause before lines is h =
      subst (λ (b : Bool). EventGives before (either b) lines t (Err cause)) (sym is)
      (refused_stops world s t unit_done (stop_by cause) before lines h)

-- ---- the core

module _ (codec : Codec) (answer : Meaning) (s : OctetState) (number : ℕ) (shown l : ControlMessage Octets) where
  abbrev core_world : OctetWorld
  core_world = unit_world codec answer

  abbrev core_takes : ControlMessage Octets → OctetCoreStepped → OctetOutcome
  core_takes x a = core_put core_world number x s a

  -- what the code of the core gave, of the message that stands there
  core_so : (a : OctetCoreStepped) (before lines : List OutLine) (t : OctetState) (result : Result (Unit {0}) Cause) → shown ≡ l
      → core_answer codec s.core (control_message_for shown.from shown.message) ≡ a → EventGives before (core_takes shown a) lines t result
      → EventGives before (give_to core_world number l Core s) lines t result
  core_so a before lines t result same is h =
      subst (λ (x : ControlMessage Octets). EventGives before (core_takes x (core_answer codec s.core (control_message_for x.from x.message))) lines t result) same
      (subst (λ (b : OctetCoreStepped). EventGives before (core_takes shown b) lines t result) (sym is) h)

  pub core_moves : (outputs : List Output) (after : OctetCore) (t u : OctetState) (before middle lines : List OutLine)
      (result : Result (Unit {0}) Cause) → shown ≡ l
      → core_answer codec s.core (control_message_for shown.from shown.message) ≡ core_stepped (map put_of outputs) after
      → too_many_control_messages core_world (map put_of outputs) s ≡ false
      → GoesTo before (landed_as core_world number shown (record s { core = after })) middle t
      → Gives middle (finished core_world Core None (map put_of outputs) t) lines u result
      → EventGives before (give_to core_world number l Core s) lines u result
  core_moves outputs after t u before middle lines result same is few takes gives_so =
      core_so (core_stepped (map put_of outputs) after) before lines u result same is
      (subst (λ (b : Bool). EventGives before (if b then stops [] (spent_counter control_messages_spent)
      else as_step (Some Core) (landed_as core_world number shown (record s { core = after })
      next put_out_all core_world Core None (map put_of outputs) next check_spans)) lines u result) (sym few)
      (as_event (Some Core) (landed_as core_world number shown (record s { core = after })
      next put_out_all core_world Core None (map put_of outputs) next check_spans) before lines u result
      (carried core_world Core None (landed_as core_world number shown) (map put_of outputs) s.units (record s { core = after }) t u before middle
      lines result takes gives_so)))

  pub core_has_no_room : (outputs : List Output) (after : OctetCore) (t : OctetState) (lines : List OutLine) → shown ≡ l
      → core_answer codec s.core (control_message_for shown.from shown.message) ≡ core_stepped (map put_of outputs) after
      → too_many_control_messages core_world (map put_of outputs) s ≡ true
      → EventGives lines (give_to core_world number l Core s) lines t (Err (causes.Spent 1))
  core_has_no_room outputs after t lines same is many =
      core_so (core_stepped (map put_of outputs) after) lines lines t (Err (causes.Spent 1)) same is
      (subst (λ (b : Bool). EventGives lines (if b then stops [] (spent_counter control_messages_spent)
      else as_step (Some Core) (landed_as core_world number shown (record s { core = after })
      next put_out_all core_world Core None (map put_of outputs) next check_spans)) lines t (Err (causes.Spent 1))) (sym many)
      (sym (append-nil lines), refl))

-- the core fails out of memory alone
pub core_stops : (a : OctetCoreStepped) (after : OctetCore) (o : OctetOutcome) (before lines : List OutLine) (t : OctetState) (cause : Cause)
    → CoreGives a after (Err cause) → EventGives before o lines t (Err cause)
core_stops a after o before lines t causes.Memory h = tt
core_stops a after o before lines t (causes.Spent counter) h = absurd h
core_stops a after o before lines t (causes.Outstanding x) h = absurd h

-- ---- the event

pub no_control_message : (world : OctetWorld) (number : ℕ) (s : OctetState) (before lines : List OutLine) → None ≡ control_message s.bag number
    → lines ≡ before ++ outs.Refused reasons.NoSuch ∷ [] → EventGives before (give world number s) lines s (Ok tt)
unfolding give
no_control_message world number s before lines is told =
    subst (λ (there : Option (ControlMessage Octets)). EventGives before (give_on world number s there) lines s (Ok tt)) is (told, refl)

pub control_message_gives : (world : OctetWorld) (number : ℕ) (l : ControlMessage Octets) (s t : OctetState) (before lines : List OutLine)
    (result : Result (Unit {0}) Cause) → Some l ≡ control_message s.bag number → EventGives before (give_to world number l l.to s) lines t result
    → EventGives before (give world number s) lines t result
unfolding give
control_message_gives world number l s t before lines result is h =
    subst (λ (there : Option (ControlMessage Octets)). EventGives before (give_on world number s there) lines t result) is h

-- each node but the core is a unit
pub is_to_unit : (w : OctetWorld) (number : ℕ) (l : ControlMessage Octets) (node : NodeId) (s t : OctetState) (before lines : List OutLine)
    (result : Result (Unit {0}) Cause) → (node ≡ Core → ⊥) → EventGives before (to_unit w number l node s) lines t result
    → EventGives before (give_to w number l node s) lines t result
is_to_unit w number l (CuCp gnb) s t before lines result other h = h
is_to_unit w number l (CuUp gnb n) s t before lines result other h = h
is_to_unit w number l (Du gnb n) s t before lines result other h = h
is_to_unit w number l (Ue ue) s t before lines result other h = h
is_to_unit w number l Core s t before lines result other h = absurd (other refl)
