-- What is so of each context of a bearer that is there, in every state of a run that keeps what is assumed of control.
use Rattle.std.specs.Prelude.{◌≡◌, ◌≢◌, ◌≤◌, ◌+◌, ℕ, true, Option, Some, None}
use Rattle.gnb_types.specs.declared.names.Gnb.{Gnb}
use Rattle.gnb_types.specs.declared.names.NodeId.{NodeId}
use Rattle.gnb_types.specs.declared.names.NodeId.TheVariants.{CuUp as up_id}
use Rattle.gnb_types.specs.declared.names.UeId.{UeId}
use Rattle.gnb_types.specs.declared.names.BearerId.{BearerId}
use Rattle.run_defs.specs.Units.{cu_up_of}
use Rattle.proof_run_steps.specs.teids.Given.{below}
use Rattle.proof_cu_up_orders.specs.context_stands.Stands.{Stands}
use Rattle.bearer_defs.specs.chain_defs.Models as down_models
use Rattle.bearer_defs.specs.uplink_defs.Models as up_models
use Rattle.proof_cu_up_orders.specs.context_orders.Orders.{CuUpModel}
use Rattle.proof_cu_up_orders.specs.bearer_orders.Happenings.{Contexts}
use Rattle.proof_cu_up_orders.specs.bearer_lists.Puts.{HopEnds, ends_of}
use Rattle.proof_bearer_refinement.specs.run_bearers.Things.{PlainUnits}
use Rattle.proof_bearer_refinement.specs.run_bearers.Bearers.{Place, Numbering}
use Rattle.proof_bearer_refinement.specs.refinement_facts.Asked.{HopLeads}

module _ (n : Numbering) (ue : UeId) (bearer : BearerId) (units : PlainUnits) where
  -- a context of this number, if there is one, has an instance that its CU-UP gave
  abbrev pub IsOld : ℕ → Type 0
  IsOld x = (place : Place) → x ≡ n.number_of place → place.instance + 1 ≤ below (cu_up_of units place.gnb place.number).next_teid

  abbrev pub WasGiven : NodeId → ℕ → Type 0
  WasGiven node teid = (gnb : Gnb) (number : ℕ) → node ≡ up_id gnb number → teid + 1 ≤ below (cu_up_of units gnb number).next_teid

  abbrev pub EndsWereGiven : Option HopEnds → Type 0
  EndsWereGiven None = Unit {0}
  EndsWereGiven (Some h) = WasGiven h.peer h.down × WasGiven h.peer h.up

  -- Its hop leads to another context, by the two forwarding tunnels of that; these, and the context, are no new ones. And it is as a CU-UP
  -- always has it, and frozen where it was released.
  pub record IsWellLinked (x : ℕ) (m : down_models.Member) (k : up_models.Member) (p : CuUpModel) : Type 0 where
    pub old : IsOld x
    pub old_down : IsOld m.next_hop
    pub old_up : IsOld k.next_hop
    pub other_down : m.next_hop ≢ x
    pub other_up : k.next_hop ≢ x
    pub leads : HopLeads n ue bearer units (ends_of p.bearer.hop) m.next_hop k.next_hop
    pub given : EndsWereGiven (ends_of p.bearer.hop)
    pub stands : Stands p
    pub frozen : p.at.flags.released ≡ true → p.at.flags.frozen ≡ true

  abbrev pub AreWellLinked : down_models.Model → up_models.Model → Contexts → Type 0
  AreWellLinked d u cs = (x : ℕ) (p : CuUpModel) → cs x ≡ Some p → IsWellLinked x (d.members x) (u.members x) p
