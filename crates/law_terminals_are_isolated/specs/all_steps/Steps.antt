-- States after any steps of a run, and steps that are no business of a terminal.
use Rattle.std.specs.Prelude.{◌≡◌, ◌≢◌, true, List, ◌∷◌, Option, Some, None}
use Rattle.gnb_types.specs.declared.names.NodeId.{NodeId}
use Rattle.gnb_types.specs.declared.names.NodeId.TheVariants.{Core, Ue}
use Rattle.gnb_types.specs.declared.names.UeId.{UeId}
use Rattle.gnb_types.specs.Orders.{tunnel_cmp}
use Rattle.tables.specs.Tables.{find}
use Rattle.message_types.specs.declared.rrc.Token.{Token}
use Rattle.scenario_text.specs.declared.event.Event.{Event}
use Rattle.scenario_text.specs.declared.event.Event.TheVariants as events
use Rattle.unit_defs.specs.Ways.{Message}
use Rattle.transport_defs.specs.declared.Item.{Item}
use Rattle.run_defs.specs.States.{new_state, goes, RunStep}
use Rattle.run_defs.specs.Runs.{Reading, plain_world, tunnel_end}
use Rattle.proof_run_steps.specs.steps.Causes.{Cause, by_tick, node_of, given_of}
use Rattle.proof_run_steps.specs.steps.IsOutcome.{IsOutcome, stays, ends, then_made, sets_up, starts, acts, holds_item, holds_pdu, offers, core_takes, core_reads, lands, loses_control_message, loses_item, remarks}
use Rattle.law_terminals_are_isolated.specs.projections.Projections.{message_ue}
use Rattle.law_terminals_are_isolated.specs.run_projections.Units.{given_ue}
use Rattle.law_terminals_are_isolated.specs.own_events.Events.{RunState, RunOutcome}
use Rattle.law_terminals_are_isolated.specs.named_events.Named.{event_ue}

-- after steps of events, one after another, from the first state; each event may have made only some of its steps
pub data AfterSteps (reading : Reading) : RunState → Type 0 where
  none_yet : AfterSteps reading new_state
  one_more : (event : Event) (s t : RunState) (told : List (RunStep (Message Token))) → AfterSteps reading s
      → IsOutcome (plain_world reading) event s (goes told t) → AfterSteps reading t

-- ---- a step is no business of a terminal: it is another one's; or it is for none, no tick, and not made by the terminal

-- a tick of a unit is everyone's; the core has none, and a terminal's is its own
abbrev pub HasNoTick : NodeId → Type 0
HasNoTick Core = Unit {0}
HasNoTick (Ue n) = Unit {0}
HasNoTick node = ⊥

abbrev pub IsNoTick : {M L P : Type 0} → Cause M L P → Type 0
IsNoTick (by_tick node) = HasNoTick node
IsNoTick cause = Unit {0}

abbrev pub IsNotMadeBy : UeId → NodeId → Type 0
IsNotMadeBy ue (Ue n) = record { 0 = n } ≢ ue
IsNotMadeBy ue node = Unit {0}

abbrev pub IsNotFor : {M L P : Type 0} → UeId → Cause M L P → Option UeId → Type 0
IsNotFor ue cause (Some who) = who ≢ ue
IsNotFor ue cause None = IsNoTick cause × IsNotMadeBy ue (node_of cause)

-- So is each step of an event. One that is set up without messages, what the core puts and takes, and an item that is lost are
-- another terminal's; a control message may be any one's when it is lost, and octets that don't decode are none's.
abbrev pub NoneFor : (reading : Reading) (event : Event) (ue : UeId) (s : RunState) (e : RunOutcome) → IsOutcome (plain_world reading) event s e → Type 0
NoneFor reading event ue s e (stays t) = Unit {0}
NoneFor reading event ue s e (ends t why) = Unit {0}
NoneFor reading event ue s e (then_made t d more p q) =
    NoneFor reading event ue t d p
    × ((x : RunState) (told : List (RunStep (Message Token))) → d ≡ goes told x → NoneFor reading event ue x (more x) (q x))
NoneFor reading event ue s e (sets_up t plan is free room teids) = plan.ue ≢ ue
NoneFor reading event ue s e (starts t d p) = NoneFor reading event ue (record t { started = true }) d p
NoneFor reading event ue s e (acts t cause outputs units at is fine few) =
    IsNotFor ue cause (given_ue reading t.units (node_of cause) (given_of cause))
NoneFor reading event ue s e (holds_item t end reason) = Unit {0}
NoneFor reading event ue s e (holds_pdu t key home reason) = Unit {0}
NoneFor reading event ue s e (offers t who bearer p path is found) = who ≢ ue
NoneFor reading event ue s e (core_takes t number l outputs core found at is few) = message_ue l.from l.message ≢ ue
NoneFor reading event ue s e (core_reads t from octets outputs core is) = Unit {0}
NoneFor reading event ue s e (lands t number l to found at) = Unit {0}
NoneFor reading event ue s e (loses_control_message t number) = Unit {0}
NoneFor reading event ue s e (loses_item t end item rest found) = item.key.ue ≢ ue
NoneFor reading event ue s e (remarks t lines plain) = Unit {0}

-- ---- an event is no business of a terminal: of `tick`, `pump` and `settle`, which are everyone's, nothing is said

abbrev pub IsNotTheirs : UeId → Option UeId → Type 0
IsNotTheirs ue None = ⊥
IsNotTheirs ue (Some who) = who ≢ ue

-- the oldest item of a tunnel, if one stands there
abbrev pub OldestIsNotTheirs : {X : Type 0} → UeId → Option (List (Item X)) → Type 0
OldestIsNotTheirs {X = X} ue items = (item : Item X) (rest : List (Item X)) → items ≡ Some (item ∷ rest) → item.key.ue ≢ ue

abbrev pub IsNoBusiness : Reading → UeId → RunState → Event → Type 0
IsNoBusiness reading ue s (events.Static plan) = plan.ue ≢ ue
IsNoBusiness reading ue s events.Start = record { 0 = 0 } ≢ ue
IsNoBusiness reading ue s (events.LoseMessage number) = Unit {0}
IsNoBusiness reading ue s (events.LoseItem node teid) = OldestIsNotTheirs ue (find tunnel_cmp s.tunnels (tunnel_end (plain_world reading) node teid))
IsNoBusiness reading ue s (events.InjectMessage from to octets) = IsNotMadeBy ue to
IsNoBusiness reading ue s (events.InjectItem node teid octets) = IsNotMadeBy ue node
IsNoBusiness reading ue s event = IsNotTheirs ue (event_ue s event)
