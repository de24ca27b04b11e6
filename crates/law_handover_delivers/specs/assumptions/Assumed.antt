-- What is assumed of control of each order that a CU-UP is asked for a bearer, and, of items, what isn't shown yet: no test of the unit's
-- own, nothing of the kind of an item, and of hops only where a freeze leads.
use Rattle.std.specs.Prelude.{◌≡◌, ℕ, true, false, List, [], ◌∷◌, Option, Some, None, ⊤}
use Rattle.gnb_types.specs.declared.names.Gnb.{Gnb}
use Rattle.gnb_types.specs.declared.names.NodeId.{NodeId}
use Rattle.gnb_types.specs.declared.names.SnBits.{SnBits}
use Rattle.gnb_types.specs.declared.names.UeId.{UeId}
use Rattle.gnb_types.specs.declared.names.BearerId.{BearerId}
use Rattle.message_types.specs.declared.rrc.Token.{Token}
use Rattle.unit_defs.specs.Ways.{Pdu, Taken, end_item, Input}
use Rattle.unit_defs.specs.CuUpRecords.{TunnelKind, n3, forwarding_down, forwarding_up}
use Rattle.run_defs.specs.Runs.{plain_way}
use Rattle.proof_cu_up_orders.specs.context_tests.Tests.{is_final}
use Rattle.law_tunnels_are_owned.specs.item_fits.Fits as fits
use Rattle.bearer_defs.specs.chain_defs.Models as down_models
use Rattle.bearer_defs.specs.chain_defs.Orders as down
use Rattle.bearer_defs.specs.chain_defs.Assumptions as down_assumptions
use Rattle.bearer_defs.specs.uplink_defs.Models as up_models
use Rattle.bearer_defs.specs.uplink_defs.Orders as up
use Rattle.bearer_defs.specs.uplink_defs.Assumptions as up_assumptions
use Rattle.proof_cu_up_orders.specs.context_orders.Orders.{CuUpModel, ContextStep, makes, freezes, closes, takes, polls}
use Rattle.proof_cu_up_orders.specs.down_orders.Down as down_rows
use Rattle.proof_cu_up_orders.specs.orders.Up as up_rows
use Rattle.proof_cu_up_orders.specs.kept.Down as down_kept
use Rattle.proof_cu_up_orders.specs.kept.Up as up_kept
use Rattle.proof_cu_up_orders.specs.bearer_orders.Happenings.{Beside, Happening, asks, Contexts, context_after}
use Rattle.proof_cu_up_orders.specs.bearer_orders.Down as downs
use Rattle.proof_cu_up_orders.specs.bearer_orders.Up as ups
use Rattle.proof_bearer_refinement.specs.run_bearers.Things.{PlainUnits}
use Rattle.proof_bearer_refinement.specs.run_bearers.Bearers.{Numbering}
use Rattle.proof_bearer_refinement.specs.refinement_facts.Refinements.{RunState, owned_on}
use Rattle.proof_bearer_refinement.specs.refinement_facts.Asked.{RunCause, step_asks}

-- the End Marker of N3 comes to a frozen bearer; that N3 is open is shown
abbrev pub OfItem : CuUpModel → TunnelKind → Taken Pdu → Type 0
OfItem p n3 end_item = p.at.flags.frozen ≡ true
OfItem p kind item = fits.ControlAssumes p kind item

module _ (n : Numbering) (ue : UeId) (bearer : BearerId) (units : PlainUnits) where
  -- the two TEIDs of a freeze are the forwarding tunnels of the context that it leads to
  pub record FreezeLeads (to : ℕ) (peer : NodeId) (down_teid up_teid : ℕ) : Type 0 where
    pub down : owned_on n ue bearer units peer down_teid ≡ Some (record { context = to; kind = forwarding_down })
    pub up : owned_on n ue bearer units peer up_teid ≡ Some (record { context = to; kind = forwarding_up })

  pub record OfFreeze (d : down_models.Model) (u : up_models.Model) (x to : ℕ) (peer : NodeId) (down_teid up_teid : ℕ) : Type 0 where
    pub down : down_assumptions.IsAssumed d (down.freezes x to (downs.hop_to peer down_teid up_teid))
    pub up : up_assumptions.IsAssumed u (up.freezes x to (downs.hop_to peer down_teid up_teid))
    pub leads : FreezeLeads to peer down_teid up_teid

  pub record OfControl (d : down_models.Model) (u : up_models.Model) (x : ℕ) (b : Beside) (p : CuUpModel) (order : ContextStep Pdu) : Type 0 where
    pub asked_down : down_rows.IsAsked p order
    pub asked_up : up_rows.IsAsked p order
    pub down : down_kept.ControlAssumes d x b.epoch order
    pub up : up_kept.ControlAssumes u x p order

  -- of a bearer that is there. Not control's, and not shown yet: that what an item confirms was received (`ItemAssumes`).
  abbrev pub Assumes : down_models.Model → up_models.Model → ℕ → Beside → CuUpModel → ContextStep Pdu → Type 0
  Assumes d u x b p (takes kind teid item) = OfItem p kind item × down_kept.ItemAssumes d x kind item
  Assumes d u x b p (freezes peer down_teid up_teid) = OfFreeze d u x b.to peer down_teid up_teid
  Assumes d u x b p closes = down_assumptions.IsAssumed d (down.closes x) × (ups.is_done p ≡ false → up_assumptions.IsAssumed u (up.discards x))
  Assumes d u x b p (makes instance sn quota target teid) = ⊤
  Assumes d u x b p polls = ⊤
  Assumes d u x b p order = OfControl d u x b p order

  module _ (sn : SnBits) (quota : ℕ) where
    -- where there is none: a context is made as a target, as the others of the terminal are
    abbrev pub AssumesAnew : ContextStep Pdu → Type 0
    AssumesAnew (makes instance its_sn its_quota target teid) = (its_sn ≡ sn) × (its_quota ≡ quota) × (target ≡ true)
    AssumesAnew order = ⊤

    abbrev pub AssumesIn : down_models.Model → up_models.Model → ℕ → Beside → Option CuUpModel → ContextStep Pdu → Type 0
    AssumesIn d u x b None order = AssumesAnew order
    AssumesIn d u x b (Some p) order = Assumes d u x b p order

    abbrev pub AssumesBy : down_models.Model → up_models.Model → Contexts → Happening Pdu → Type 0
    AssumesBy d u cs (asks x order b) = AssumesIn d u x b (cs x) order
    AssumesBy d u cs h = ⊥

    abbrev pub AllAssume : down_models.Model → up_models.Model → Contexts → List (Happening Pdu) → Type 0
    AllAssume d u cs [] = ⊤
    AllAssume d u cs (h ∷ hs) =
        AssumesBy d u cs h
        × AllAssume (down.run d (downs.orders_by cs h)) (up.run u (ups.orders_by cs h)) (context_after plain_way ue bearer cs h) hs

-- what a step asks, where it ends a context as its input says
abbrev pub final_asks : Numbering → UeId → BearerId → RunState → Gnb → ℕ → RunCause → Input Token Pdu → Beside → List (Happening Pdu)
final_asks n ue bearer s gnb number cause input b = step_asks n ue bearer s gnb number cause input (record b { final = is_final input })
