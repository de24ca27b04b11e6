-- What happens to the units, as orders of all contexts of one bearer. Contexts are numbered, each by its node and instance.
use Rattle.std.specs.Prelude.{◌≡◌, ◌==◌, ℕ, false, if◌then◌else◌, List, [], ◌∷◌, ◌++◌, map, Option, Some, None}
use Rattle.gnb_types.specs.declared.names.Gnb.{Gnb}
use Rattle.gnb_types.specs.declared.names.NodeId.{NodeId}
use Rattle.gnb_types.specs.declared.names.NodeId.TheVariants.{CuUp as up_id}
use Rattle.gnb_types.specs.declared.names.UeId.{UeId}
use Rattle.gnb_types.specs.declared.names.BearerId.{BearerId}
use Rattle.message_types.specs.declared.rrc.Token.{Token}
use Rattle.unit_defs.specs.Ways.{Pdu, Input, gives, spent}
use Rattle.unit_defs.specs.CuUp.{cu_up_acts}
use Rattle.run_defs.specs.Units.{cu_up_of}
use Rattle.run_defs.specs.Runs.{Plain, plain_way}
use Rattle.proof_cu_up_orders.specs.context_orders.Orders.{CuUpModel, model_of, ContextStep}
use Rattle.proof_cu_up_orders.specs.context_orders.Inputs.{orders_of}
use Rattle.proof_unit_steps.specs.tunnel_frames.OneTunnel.{BearersInOrder}
use Rattle.proof_bearer_refinement.specs.run_unit_inputs.Happenings.{CuUpRecord}
use Rattle.proof_cu_up_orders.specs.bearer_orders.Happenings.{Beside, asks, Contexts, context_after}
use Rattle.proof_bearer_refinement.specs.run_bearers.Things.{Thing, comes, set_up, takes, PlainUnits, after_thing}

pub record Place : Type 0 where
  pub gnb : Gnb
  pub number : ℕ
  pub instance : ℕ

-- each place has a number of its own
pub record Numbering : Type 0 where
  pub number_of : Place → ℕ
  pub place_of : ℕ → Option Place
  pub found : (place : Place) → place_of (number_of place) ≡ Some place
  pub back : (x : ℕ) (place : Place) → place_of x ≡ Some place → number_of place ≡ x

abbrev pub if_of : ℕ → Option CuUpModel → Option CuUpModel
if_of instance None = None
if_of instance (Some p) = if p.instance == instance then Some p else None

abbrev pub at_place : UeId → BearerId → PlainUnits → Option Place → Option CuUpModel
at_place ue bearer u None = None
at_place ue bearer u (Some place) = if_of place.instance (model_of (cu_up_of u place.gnb place.number) ue bearer)

-- what the CU-UPs have of a bearer, by context
abbrev pub contexts_of : Numbering → UeId → BearerId → PlainUnits → Contexts
contexts_of n ue bearer u x = at_place ue bearer u (n.place_of x)

-- ---- an order of one context; or a terminal is set up without messages, and the contexts are these then

pub data Change : Type 0 where
  asked : (x : ℕ) (order : ContextStep Pdu) → Change
  set_up_as : (contexts : Contexts) → Change

-- what the run says beside an order changes nothing here
abbrev pub nothing_beside : Beside
nothing_beside = record { left_down = []; left_up = []; to = 0; epoch = 0; final = false }

abbrev pub changed : UeId → BearerId → Contexts → Change → Contexts
changed ue bearer cs (asked x order) = context_after plain_way ue bearer cs (asks x order nothing_beside)
changed ue bearer cs (set_up_as contexts) = contexts

abbrev pub after_changes : UeId → BearerId → Contexts → List Change → Contexts
after_changes ue bearer cs [] = cs
after_changes ue bearer cs (c ∷ changes) = after_changes ue bearer (changed ue bearer cs c) changes

-- the instance of the bearer's context, or that of the next one
abbrev pub instance_in : ℕ → Option CuUpModel → ℕ
instance_in next None = next
instance_in next (Some p) = p.instance

abbrev pub if_given : Plain CuUpRecord → List Change → List Change
if_given (gives outputs v) changes = changes
if_given (spent counter) changes = []

abbrev pub changes_at : Numbering → UeId → BearerId → PlainUnits → NodeId → Input Token Pdu → List Change
changes_at n ue bearer u (up_id gnb number) input =
    let r = cu_up_of u gnb number in
    let x = n.number_of (record { gnb = gnb; number = number; instance = instance_in r.next_teid (model_of r ue bearer) }) in
    if_given (cu_up_acts plain_way r input) (map (λ order. asked x order) (orders_of plain_way r ue bearer input))
changes_at n ue bearer u node input = []

abbrev pub changes_of : Numbering → UeId → BearerId → PlainUnits → Thing → List Change
changes_of n ue bearer u (comes plan) = []
changes_of n ue bearer u (set_up plan) = set_up_as (contexts_of n ue bearer (after_thing u (set_up plan))) ∷ []
changes_of n ue bearer u (takes node input) = changes_at n ue bearer u node input

unfoldable pub changes_over : Numbering → UeId → BearerId → PlainUnits → List Thing → List Change
changes_over n ue bearer u [] = []
changes_over n ue bearer u (thing ∷ things) = changes_of n ue bearer u thing ++ changes_over n ue bearer (after_thing u thing) things

-- the bearers of each context of each CU-UP are in ascending order
abbrev pub AllInOrder : PlainUnits → Type 0
AllInOrder u = (gnb : Gnb) (number : ℕ) → BearersInOrder (cu_up_of u gnb number)
