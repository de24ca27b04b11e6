-- The initial models after one switch deliver in order.
use Rattle.std.proofs.Common.{◌≡◌, ℕ, ◌==◌, Bool, true, false, List, [], ◌∷◌, refl, sym, ap, subst, ◌∙◌, arith}
use Rattle.std.specs.Prelude.{if◌then◌else◌}
use Rattle.gnb_types.specs.declared.names.SnBits.{SnBits}
use Rattle.gnb_types.specs.declared.names.SnBits.TheVariants.{Len12}
use Rattle.gnb_types.specs.declared.names.UeId.{UeId}
use Rattle.gnb_types.specs.declared.names.BearerId.{BearerId}
use Rattle.unit_defs.specs.CuUpRecords.{DownlinkTunnel}
use Rattle.run_defs.specs.Runs.{Reading}
use Rattle.law_downlink_order.specs.chain.Words as down_words
use Rattle.law_downlink_order.proofs.chain.Laws as chain_laws
use Rattle.law_uplink_order.specs.uplink.Words as up_words
use Rattle.law_uplink_order.proofs.uplink.Laws as uplink_laws
use Rattle.bearer_defs.specs.chain_defs.Models as down_models
use Rattle.bearer_defs.specs.chain_defs.Orders as down
use Rattle.bearer_defs.specs.chain_defs.Assumptions as down_assumptions
use Rattle.bearer_defs.specs.uplink_defs.Models as up_models
use Rattle.bearer_defs.specs.uplink_defs.Orders as up
use Rattle.bearer_defs.specs.uplink_defs.Assumptions as up_assumptions
use Rattle.proof_bearer_refinement.specs.run_bearers.Bearers.{Numbering}
use Rattle.proof_bearer_refinement.specs.du_puts.Worked.{terminal, bearer}
use Rattle.proof_bearer_refinement.specs.runs.Steps.{Point, IsRefined, Steps, AreOrders}
use Rattle.proof_bearer_refinement.proofs.runs.Runs.{steps_then}
use Rattle.proof_bearer_refinement.specs.initial.First as its
use Rattle.proof_bearer_refinement.proofs.initial.Start.{starts, refined}
use Rattle.law_handover_delivers.specs.initial_runs.First.{AreInitial, DeliverInOrder}

number_same : (a : ℕ) → (a == a) ≡ true
number_same a = grind arith

-- the first switch asks what it does, with orders after it that do
switch_kept : (sn : SnBits) (quota first teid : ℕ) (d : DownlinkTunnel) (os : List down.ModelStep)
    → down_assumptions.AreKept sn quota (down.run (down_models.initial first teid) (down.switches first d 0 ∷ [])) os
    → down_assumptions.AreKept sn quota (down_models.initial first teid) (down.switches first d 0 ∷ os)
unfolding down_assumptions.AreKept down_assumptions.IsReady down_assumptions.IsAssumed down.run down_models.initial
switch_kept sn quota first teid d os kept = (
  ap (λ (t : Bool). (if t then down_models.new_member false teid else down_models.no_member).is_there) (number_same first),
  (refl, omega arith),
  kept,
)

after_switch : (first teid : ℕ) (d : DownlinkTunnel) (os : List down.ModelStep)
    → down.run (down.run (down_models.initial first teid) (down.switches first d 0 ∷ [])) os ≡ down.run (down_models.initial first teid) (down.switches first d 0 ∷ os)
unfolding down.run
after_switch first teid d os = refl

no_offer : (first : ℕ) (d : DownlinkTunnel) (os : List down.ModelStep) → down.offers_in (down.switches first d 0 ∷ os) ≡ down.offers_in os
unfolding down.offers_in
no_offer first d os = refl

module _ (reading : Reading) (n : Numbering) (ue : UeId) (bearer : BearerId) (sn : SnBits) (quota : ℕ) (p q : Point) (first teid : ℕ) (d : DownlinkTunnel)
    (are : AreInitial first teid d p) where
  delivers_down : (os : AreOrders reading n ue bearer sn quota p q) → down_words.DeliversInOrder (down.offers_in os.downs) q.down
  delivers_down os =
      let whole : List down.ModelStep = down.switches first d 0 ∷ os.downs in
      let kept = switch_kept sn quota first teid d os.downs
      (subst (λ (w : down_models.Model). down_assumptions.AreKept sn quota w os.downs) are.down os.down_kept) in
      let its_end : q.down ≡ down.run (down_models.initial first teid) whole
      = os.down ∙ ap (λ (w : down_models.Model). down.run w os.downs) are.down ∙ after_switch first teid d os.downs in
      subst (λ (w : down_models.Model). down_words.DeliversInOrder (down.offers_in os.downs) w) (sym its_end)
      (subst (λ (xs : List (List ℕ)). down_words.DeliversInOrder xs (down.run (down_models.initial first teid) whole)) (no_offer first d os.downs)
      (chain_laws.delivers_in_order sn quota first teid whole kept))

  delivers_up : (os : AreOrders reading n ue bearer sn quota p q) → up_words.DeliversInOrder (up.offers_in os.ups) q.up
  delivers_up os =
      subst (λ (w : up_models.Model). up_words.DeliversInOrder (up.offers_in os.ups) w) (sym (os.up ∙ ap (λ (w : up_models.Model). up.run w os.ups) are.up))
      (uplink_laws.delivers_in_order first teid os.ups (subst (λ (w : up_models.Model). up_assumptions.AreKept w os.ups) are.up os.up_kept))

  pub delivers_after : IsRefined reading n ue bearer sn quota p → Steps reading n ue bearer sn quota p q → DeliverInOrder reading n ue bearer sn quota p q
  delivers_after refined_there steps =
      let os = (steps_then reading n ue bearer sn quota p q refined_there steps).1 in record { orders = os; down = delivers_down os; up = delivers_up os }

-- ---- from the first state on

module _ (reading : Reading) (n : Numbering) where
  abbrev pub begins : Point
  begins = its.start n (starts reading n).0 (starts reading n).1

  pub delivers_on : (q : Point) → Steps reading n terminal bearer Len12 64 begins q → DeliverInOrder reading n terminal bearer Len12 64 begins q
  delivers_on q steps =
      delivers_after reading n terminal bearer Len12 64 begins q (its.first n) (starts reading n).0 (starts reading n).1
      (record { down = refl; up = refl }) (refined reading n) steps
