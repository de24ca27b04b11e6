-- `poll`, by the CU-UP that polls.
use Rattle.std.proofs.Common.{◌≡◌, ℕ, Bool, true, false, if◌then◌else◌, List, [], ◌∷◌, ◌++◌, Option, Some, None, refl, sym, ap, ◌∙◌, subst}
use Rattle.std.specs.Prelude.{Result, Ok, Err, is_some, unwrap_or}
use Rattle.gnb_types.specs.declared.names.NodeId.{NodeId}
use Rattle.gnb_types.specs.declared.names.NodeId.TheVariants.{CuUp}
use Rattle.gnb_types.specs.declared.names.UeId.{UeId}
use Rattle.gnb_types.specs.declared.names.BearerId.{BearerId}
use Rattle.gnb_types.specs.declared.inputs.Input.TheVariants as ins
use Rattle.gnb_types.specs.declared.inputs.Order.TheVariants as orders
use Rattle.gnb_types.specs.declared.reasons.RefuseReason.{RefuseReason}
use Rattle.gnb_types.specs.declared.reasons.RefuseReason.TheVariants.{NoBearer, Empty}
use Rattle.gnb_types.specs.Orders.{node_cmp}
use Rattle.tables.specs.Tables.{find, at}
use Rattle.scenario_text.specs.declared.line.OutLine.{OutLine}
use Rattle.scenario_text.specs.declared.line.OutLine.TheVariants as outs
use Rattle.unit_defs.specs.CuUpRecords.{CuUp as CuUpRecord}
use Rattle.unit_defs.specs.CuUp.{new_cu_up}
use Rattle.unit_defs.specs.Accessors.{is_unconfirmed}
use Rattle.run_defs.specs.Units.{cu_up_of}
use Rattle.run_defs.specs.States.{has_bearer, order_for, refused}
use Rattle.run_defs.specs.Steps.{step}
use Rattle.run_defs.specs.Conditions.{serving_gnb, serving_place}
use Rattle.run_defs.specs.Events.{poll, poll_at as polls_at}
use Rattle.run_links.specs.Networks.{Octets, OctetWorld, OctetState, OctetOutcome}
use Rattle.world_steps.specs.declared.cause.Cause.{Cause}
use Rattle.world_steps.specs.Gives.{EventGives}
use Rattle.run_units.specs.Steps.{IsThere}
use Rattle.world_events.specs.bearers.Places.{poll_at, poll_node}

module _ (world : OctetWorld) (ue : UeId) (bearer : BearerId) (s : OctetState) where
  abbrev by_node : Result NodeId RefuseReason → OctetOutcome
  by_node (Ok node) = step world node (order_for (orders.Poll ue bearer)) s
  by_node (Err reason) = refused reason s

  poll_is : poll world ue bearer s ≡ by_node (poll_node s ue bearer)
  unfolding poll
  poll_is = by (has_bearer s ue bearer) (serving_place s ue)
    where
      asked : (up : ℕ) (b : Bool)
          → (if b then step world (CuUp (serving_gnb s ue) up) (order_for (orders.Poll ue bearer)) s else refused Empty s)
          ≡ by_node (if b then Ok (CuUp (serving_gnb s ue) up) else Err Empty)
      asked up true = refl
      asked up false = refl

      by : (b : Bool) (o : Option (ℕ × ℕ)) → (if b then polls_at world ue bearer (serving_gnb s ue) s o else refused NoBearer s)
          ≡ by_node (if b then poll_at s ue bearer o else Err NoBearer)
      by false o = refl
      by true None = refl
      by true (Some place) = asked place.0 (is_unconfirmed (cu_up_of s.units (serving_gnb s ue) place.0) ue bearer)

  pub polls : (node : NodeId) (t : OctetState) (before lines : List OutLine) (result : Result (Unit {0}) Cause) → Ok node ≡ poll_node s ue bearer
      → EventGives before (step world node (order_for (orders.Poll ue bearer)) s) lines t result → EventGives before (poll world ue bearer s) lines t result
  polls node t before lines result there h =
      subst (λ (o : OctetOutcome). EventGives before o lines t result) (sym (poll_is ∙ ap by_node (sym there))) h

  pub polls_nothing : (reason : RefuseReason) (before lines : List OutLine) → Err reason ≡ poll_node s ue bearer
      → lines ≡ before ++ outs.Refused reason ∷ [] → EventGives before (poll world ue bearer s) lines s (Ok tt)
  polls_nothing reason before lines there told =
      subst (λ (o : OctetOutcome). EventGives before o lines s (Ok tt)) (sym (poll_is ∙ ap by_node (sym there))) (told, refl)

  -- ---- the CU-UP that polls is there

  unconfirmed_is_there : (up : ℕ) → is_unconfirmed (cu_up_of s.units (serving_gnb s ue) up) ue bearer ≡ true
      → is_some (find node_cmp s.units.ups (CuUp (serving_gnb s ue) up)) ≡ true
  unfolding at find
  unconfirmed_is_there up h = by (find node_cmp s.units.ups (CuUp (serving_gnb s ue) up)) h
    where
      by : (o : Option (CuUpRecord Octets Octets)) → is_unconfirmed (unwrap_or o (new_cu_up (serving_gnb s ue) up)) ue bearer ≡ true → is_some o ≡ true
      by None h = cc
      by (Some r) h = refl

  pub is_there : (node : NodeId) → Ok node ≡ poll_node s ue bearer → IsThere s.units node (ins.Order (orders.Poll ue bearer))
  is_there node h = by (has_bearer s ue bearer) (serving_place s ue) h
    where
      asked : (up : ℕ) (b : Bool) → is_unconfirmed (cu_up_of s.units (serving_gnb s ue) up) ue bearer ≡ b
          → Ok node ≡ (if b then Ok (CuUp (serving_gnb s ue) up) else Err Empty) → IsThere s.units node (ins.Order (orders.Poll ue bearer))
      asked up true e h =
          let same : CuUp (serving_gnb s ue) up ≡ node = cc in
          subst (λ (n : NodeId). IsThere s.units n (ins.Order (orders.Poll ue bearer))) same (unconfirmed_is_there up e)
      asked up false e h = absurd cc

      by : (b : Bool) (o : Option (ℕ × ℕ)) → Ok node ≡ (if b then poll_at s ue bearer o else Err NoBearer)
          → IsThere s.units node (ins.Order (orders.Poll ue bearer))
      by false o h = absurd cc
      by true None h = absurd cc
      by true (Some place) h = asked place.0 (is_unconfirmed (cu_up_of s.units (serving_gnb s ue) place.0) ue bearer) refl h
