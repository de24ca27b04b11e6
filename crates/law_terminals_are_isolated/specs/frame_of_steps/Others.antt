-- What a run keeps of a terminal beside its units: control messages, the items on tunnels, radios, books, its connection and its plan; and
-- whose a step is.
use Rattle.std.specs.Prelude.{ℕ, ◌≡◌, ◌≢◌, ◌==◌, if◌then◌else◌, List, [], ◌∷◌, Some}
use Rattle.std.specs.List.{flat_map}
use Rattle.gnb_types.specs.declared.names.NodeId.{NodeId}
use Rattle.gnb_types.specs.declared.names.NodeId.TheVariants.{Ue}
use Rattle.gnb_types.specs.declared.names.UeId.{UeId}
use Rattle.gnb_types.specs.declared.keys.TunnelEnd.{TunnelEnd}
use Rattle.gnb_types.specs.declared.keys.EntityKey.{EntityKey}
use Rattle.gnb_types.specs.Orders.{ue_cmp, tunnel_cmp}
use Rattle.tables.specs.Tables.{find, at}
use Rattle.unit_defs.specs.Ways.{Put, closed}
use Rattle.transport_defs.specs.declared.Item.{Item}
use Rattle.transport_defs.specs.declared.ControlMessage.{ControlMessage}
use Rattle.transport_defs.specs.Links.{items_of}
use Rattle.run_defs.specs.States.{State, radio_of, book_of}
use Rattle.proof_run_steps.specs.steps.Causes.{Cause, by_attach, by_release, by_offer, by_item, by_air, by_ack, node_of}
use Rattle.law_terminals_are_isolated.specs.projections.Steps.{IsFor}

-- the control messages of a terminal, in the order in which they were put
abbrev pub control_messages_of : {M : Type 0} → UeId → List (ℕ × ControlMessage M) → List (ControlMessage M)
control_messages_of ue control_messages = flat_map (λ e. if e.1.ue == ue.0 then e.1 ∷ [] else []) control_messages

-- the items of a bearer and direction on a tunnel
abbrev pub items_on : {M C L P : Type 0} → State M C L P → TunnelEnd → EntityKey → List (Item L)
items_on s end key = items_of key (at tunnel_cmp [] s.tunnels end)

-- what is kept of the other terminals stays
pub record OthersStay {M C L P : Type 0} (ue : UeId) (s t : State M C L P) : Type 0 where
  pub control_messages : (other : UeId) → other ≢ ue → control_messages_of other t.bag.control_messages ≡ control_messages_of other s.bag.control_messages
  pub tunnels : (end : TunnelEnd) (key : EntityKey) → key.ue ≢ ue → items_on t end key ≡ items_on s end key
  pub radios : (key : EntityKey) → key.ue ≢ ue → radio_of t key ≡ radio_of s key
  pub books : (key : EntityKey) → key.ue ≢ ue → book_of t key ≡ book_of s key
  pub connected : (other : UeId) → other ≢ ue → find ue_cmp t.connected other ≡ find ue_cmp s.connected other
  pub plans : (other : UeId) → other ≢ ue → find ue_cmp t.plans other ≡ find ue_cmp s.plans other

-- a step is a terminal's: a terminal makes its own, and what comes, goes, is offered or is taken is the terminal's
abbrev pub IsNodeFor : UeId → NodeId → Type 0
IsNodeFor ue (Ue n) = record { 0 = n } ≡ ue
IsNodeFor ue node = Unit {0}

abbrev pub IsCauseFor : {M C L P : Type 0} → UeId → State M C L P → Cause M L P → Type 0
IsCauseFor ue s (by_attach plan) = plan.ue ≡ ue
IsCauseFor ue s (by_release gnb who) = who ≡ ue
IsCauseFor ue s (by_offer who bearer packet) = who ≡ ue
IsCauseFor ue s (by_item end item rest) = (item.key.ue ≡ ue) × (find tunnel_cmp s.tunnels end ≡ Some (item ∷ rest))
IsCauseFor ue s (by_air key home item) = key.ue ≡ ue
IsCauseFor ue s (by_ack key home item rest) = key.ue ≡ ue
IsCauseFor ue s cause = Unit {0}

abbrev pub IsStepFor : {M C L P : Type 0} → UeId → State M C L P → Cause M L P → Type 0
IsStepFor ue s cause = IsNodeFor ue (node_of cause) × IsCauseFor ue s cause

-- what is put out is the terminal's, and on a tunnel that is closed nothing of another one stands
abbrev pub IsOutputFor : {M C L P : Type 0} → UeId → State M C L P → NodeId → Put M L P → Type 0
IsOutputFor ue s node (closed teid) = (key : EntityKey) → key.ue ≢ ue → items_on s (record { node = node; teid = teid }) key ≡ []
IsOutputFor ue s node output = IsFor ue.0 output
