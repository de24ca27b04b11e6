-- Steps of a run, one after another.
use Rattle.std.proofs.Common.{◌≡◌, ℕ, List, [], ◌∷◌, ◌++◌, refl, sym, ap, subst, ◌∙◌}
use Rattle.gnb_types.specs.declared.names.SnBits.{SnBits}
use Rattle.gnb_types.specs.declared.names.UeId.{UeId}
use Rattle.gnb_types.specs.declared.names.BearerId.{BearerId}
use Rattle.run_defs.specs.Runs.{Reading}
use Rattle.bearer_defs.specs.chain_defs.Models as down_models
use Rattle.bearer_defs.specs.chain_defs.Orders as down
use Rattle.bearer_defs.specs.chain_defs.Assumptions as down_assumptions
use Rattle.bearer_defs.specs.uplink_defs.Models as up_models
use Rattle.bearer_defs.specs.uplink_defs.Orders as up
use Rattle.bearer_defs.specs.uplink_defs.Assumptions as up_assumptions
use Rattle.proof_bearer_refinement.specs.run_bearers.Bearers.{Numbering}
use Rattle.proof_bearer_refinement.specs.refinement_facts.Asked.{AreSound}
use Rattle.law_downlink_order.specs.chain.Words as down_words
use Rattle.law_downlink_order.proofs.chain.Laws as chain_laws
use Rattle.law_uplink_order.specs.uplink.Words as up_words
use Rattle.law_uplink_order.proofs.uplink.Laws as uplink_laws
use Rattle.proof_bearer_refinement.specs.runs.Steps.{Point, IsRefined, Step, a_cu_up, a_du, an_offer, a_message, all_else, Steps, not_yet, further, AreOrders}
use Rattle.proof_bearer_refinement.proofs.runs.Fair.{fair_sound}
use Rattle.proof_bearer_refinement.proofs.runs.Ups.{up_refined, up_orders}
use Rattle.proof_bearer_refinement.proofs.runs.Rest.{du_then, offer_then, message_then, beside_then}

down_more : (d : down_models.Model) (os more : List down.ModelStep) → down.run d (os ++ more) ≡ down.run (down.run d os) more
unfolding down.run
down_more d [] more = refl
down_more d (o ∷ os) more = down_more (down.after d o) os more

up_more : (u : up_models.Model) (os more : List up.ModelStep) → up.run u (os ++ more) ≡ up.run (up.run u os) more
unfolding up.run
up_more u [] more = refl
up_more u (o ∷ os) more = up_more (up.after u o) os more

down_kept_more : (sn : SnBits) (quota : ℕ) (d : down_models.Model) (os more : List down.ModelStep) → down_assumptions.AreKept sn quota d os
    → down_assumptions.AreKept sn quota (down.run d os) more → down_assumptions.AreKept sn quota d (os ++ more)
unfolding down_assumptions.AreKept down.run
down_kept_more sn quota d [] more h k = k
down_kept_more sn quota d (o ∷ os) more h k = (h.0, h.1, down_kept_more sn quota (down.after d o) os more h.2 k)

up_kept_more : (u : up_models.Model) (os more : List up.ModelStep) → up_assumptions.AreKept u os → up_assumptions.AreKept (up.run u os) more
    → up_assumptions.AreKept u (os ++ more)
unfolding up_assumptions.AreKept up.run
up_kept_more u [] more h k = k
up_kept_more u (o ∷ os) more h k = (h.0, h.1, up_kept_more (up.after u o) os more h.2 k)

nothing_kept_down : (sn : SnBits) (quota : ℕ) (d : down_models.Model) → down_assumptions.AreKept sn quota d [] × (d ≡ down.run d [])
unfolding down_assumptions.AreKept down.run
nothing_kept_down sn quota d = (tt, refl)

nothing_kept_up : (u : up_models.Model) → up_assumptions.AreKept u [] × (u ≡ up.run u [])
unfolding up_assumptions.AreKept up.run
nothing_kept_up u = (tt, refl)

module _ (reading : Reading) (n : Numbering) (ue : UeId) (bearer : BearerId) (sn : SnBits) (quota : ℕ) where
  abbrev Refined : Point → Type 0
  Refined p = IsRefined reading n ue bearer sn quota p

  abbrev Orders : Point → Point → Type 0
  Orders p q = AreOrders reading n ue bearer sn quota p q

  pub step_then : (p q : Point) → AreSound p.state q.state → Refined p → Step reading n ue bearer sn quota p q → Refined q × Orders p q
  step_then p q sound refined (a_cu_up acts) =
      (up_refined reading n ue bearer sn quota p q sound refined acts, up_orders reading n ue bearer sn quota p q sound refined acts)
  step_then p q sound refined (a_du acts) = du_then reading n ue bearer sn quota p q sound refined acts
  step_then p q sound refined (an_offer offers) = offer_then reading n ue bearer sn quota p q sound refined offers
  step_then p q sound refined (a_message takes) = message_then reading n ue bearer sn quota p q sound refined takes
  step_then p q sound refined (all_else stays) = beside_then reading n ue bearer sn quota p q sound refined stays

  no_orders : (p : Point) → Orders p p
  no_orders p = record {
    downs = [];
    ups = [];
    down = (nothing_kept_down sn quota p.down).1;
    up = (nothing_kept_up p.up).1;
    down_kept = (nothing_kept_down sn quota p.down).0;
    up_kept = (nothing_kept_up p.up).0;
  }

  then_orders : (p q r : Point) → Orders p q → Orders q r → Orders p r
  then_orders p q r a b = record {
    downs = a.downs ++ b.downs;
    ups = a.ups ++ b.ups;
    down = b.down ∙ ap (λ (d : down_models.Model). down.run d b.downs) a.down ∙ sym (down_more p.down a.downs b.downs);
    up = b.up ∙ ap (λ (u : up_models.Model). up.run u b.ups) a.up ∙ sym (up_more p.up a.ups b.ups);
    down_kept = down_kept_more sn quota p.down a.downs b.downs a.down_kept
        (subst (λ (d : down_models.Model). down_assumptions.AreKept sn quota d b.downs) a.down b.down_kept);
    up_kept = up_kept_more p.up a.ups b.ups a.up_kept (subst (λ (u : up_models.Model). up_assumptions.AreKept u b.ups) a.up b.up_kept);
  }

  pub steps_then : (p q : Point) → Refined p → Steps reading n ue bearer sn quota p q → Refined q × Orders p q
  steps_then p q refined (not_yet x) = (refined, no_orders x)
  steps_then p q refined (further x y z before fair passes step) =
      let first = steps_then x y refined before in
      let one = step_then y z (fair_sound y.state z.state fair passes) first.0 step in
      (one.0, then_orders x y z first.1 one.1)

  -- from the first model on
  pub delivers : (p q : Point) (first teid : ℕ) → p.down ≡ down_models.initial first teid → p.up ≡ up_models.initial first teid → (os : Orders p q)
      → down_words.DeliversInOrder (down.offers_in os.downs) q.down × up_words.DeliversInOrder (up.offers_in os.ups) q.up
  delivers p q first teid down_is up_is os = (
    subst (λ (d : down_models.Model). down_words.DeliversInOrder (down.offers_in os.downs) d)
        (sym (os.down ∙ ap (λ (d : down_models.Model). down.run d os.downs) down_is))
        (chain_laws.delivers_in_order sn quota first teid os.downs
        (subst (λ (d : down_models.Model). down_assumptions.AreKept sn quota d os.downs) down_is os.down_kept)),
    subst (λ (u : up_models.Model). up_words.DeliversInOrder (up.offers_in os.ups) u)
        (sym (os.up ∙ ap (λ (u : up_models.Model). up.run u os.ups) up_is))
        (uplink_laws.delivers_in_order first teid os.ups (subst (λ (u : up_models.Model). up_assumptions.AreKept u os.ups) up_is os.up_kept)),
  )
