-- Steps of a run keep uplinks fresh whose TEIDs were not given, and so are steps of `proof_bearer_refinement::runs`.
use Rattle.std.proofs.Common.{◌≡◌, ◌≤◌, ◌==◌, ℕ, Bool, true, false, List, [], ◌∷◌, refl, ap, ◌∙◌, arith}
use Rattle.std.specs.Prelude.{if◌then◌else◌}
use Rattle.std.specs.List.{AllByRecursion}
use Rattle.gnb_types.specs.declared.names.SnBits.{SnBits}
use Rattle.gnb_types.specs.declared.names.SnBits.TheVariants.{Len12}
use Rattle.gnb_types.specs.declared.names.UeId.{UeId}
use Rattle.gnb_types.specs.declared.names.BearerId.{BearerId}
use Rattle.unit_defs.specs.Ways.{Pdu}
use Rattle.unit_defs.specs.CuUpRecords.{DownlinkTunnel}
use Rattle.run_defs.specs.Units.{cu_up_of}
use Rattle.run_defs.specs.Runs.{Reading, plain_way}
use Rattle.proof_run_steps.specs.teids.Given.{below, GiveOnce}
use Rattle.law_terminals_are_isolated.specs.own_events.Passed.{not_yet, further}
use Rattle.bearer_defs.specs.uplink_defs.Models as up_models
use Rattle.bearer_defs.specs.uplink_defs.Orders as up
use Rattle.proof_cu_up_orders.specs.context_orders.Inputs.{orders_of}
use Rattle.proof_cu_up_orders.specs.bearer_orders.Happenings.{Contexts, Happening}
use Rattle.proof_cu_up_orders.specs.bearer_orders.Up as ups
use Rattle.proof_bearer_refinement.specs.run_bearers.Bearers.{Place, Numbering, contexts_of}
use Rattle.proof_bearer_refinement.specs.refinement_facts.Refinements.{RunState}
use Rattle.proof_bearer_refinement.specs.refinement_facts.Asked.{AreSound, context_at, beside_of, step_asks}
use Rattle.proof_bearer_refinement.specs.du_puts.Puts.{puts_of}
use Rattle.proof_bearer_refinement.proofs.cu_up_step.Runs.{up_runs}
use Rattle.proof_bearer_refinement.proofs.cu_up_opens.Ups as of_cu_ups
use Rattle.proof_bearer_refinement.specs.du_puts.Worked.{terminal, bearer as its_bearer}
use Rattle.proof_bearer_refinement.specs.runs.Steps as refined
use Rattle.proof_bearer_refinement.specs.runs.Steps.{Point, IsRefined, IsOfTerminal}
use Rattle.proof_bearer_refinement.specs.runs.Fair.{IsFair}
use Rattle.proof_bearer_refinement.proofs.runs.Fair.{fair_sound}
use Rattle.proof_bearer_refinement.proofs.runs.Runs.{steps_then}
use Rattle.law_handover_delivers.specs.initial_runs.First.{AreInitial, DeliverInOrder}
use Rattle.law_handover_delivers.proofs.initial_runs.Runs.{delivers_after, begins}
use Rattle.proof_bearer_refinement.proofs.initial.Start.{starts, refined as refined_there}
use Rattle.law_handover_delivers.specs.unused_uplinks.Later.{AreFresh, CuUpActs, Step, a_cu_up, a_du, an_offer, a_message, all_else, Steps, not_yet as no_steps, further as one_more}
use Rattle.law_handover_delivers.proofs.unused_uplinks.Orders.{IsEmpty, PutsNone, Keeps, all_keep}
use Rattle.law_handover_delivers.proofs.unused_uplinks.Puts.{asked_puts_none, puts_elsewhere}

-- ---- orders of the terminal

terminal_puts_none : (os : List up.ModelStep) → AllByRecursion IsOfTerminal os → AllByRecursion PutsNone os
terminal_puts_none [] all = tt
terminal_puts_none (up.offers packet ∷ os) all = (tt, terminal_puts_none os all.1)
terminal_puts_none (up.numbers packet rest ∷ os) all = (tt, terminal_puts_none os all.1)
terminal_puts_none (up.connects ∷ os) all = (tt, terminal_puts_none os all.1)
terminal_puts_none (up.leaves ∷ os) all = (tt, terminal_puts_none os all.1)
terminal_puts_none (up.arrives x ∷ os) all = (tt, terminal_puts_none os all.1)
terminal_puts_none (up.acknowledges count rest ∷ os) all = (tt, terminal_puts_none os all.1)
terminal_puts_none (up.reports fmc bits ∷ os) all = (tt, terminal_puts_none os all.1)
terminal_puts_none (up.carries teid count packet rest ∷ os) all = absurd all.0
terminal_puts_none (up.marks x teid ∷ os) all = absurd all.0
terminal_puts_none (up.makes x teid ∷ os) all = absurd all.0
terminal_puts_none (up.adds x teid ∷ os) all = absurd all.0
terminal_puts_none (up.freezes x to hop ∷ os) all = absurd all.0
terminal_puts_none (up.knows x status ∷ os) all = absurd all.0
terminal_puts_none (up.switches x ∷ os) all = absurd all.0
terminal_puts_none (up.resumes x ∷ os) all = absurd all.0
terminal_puts_none (up.releases x ∷ os) all = absurd all.0
terminal_puts_none (up.closes x ∷ os) all = absurd all.0
terminal_puts_none (up.discards x ∷ os) all = absurd all.0
terminal_puts_none (up.takes x from count packet rest ∷ os) all = absurd all.0
terminal_puts_none (up.ends_uplink x teid rest ∷ os) all = absurd all.0
terminal_puts_none (up.ends_hop x rest ∷ os) all = absurd all.0

-- ---- the models' start

no_uplinks : (first teid y q : ℕ) → IsEmpty ((up_models.initial first teid).members y) q
unfolding up_models.initial
no_uplinks first teid y q = by (y == first)
  where
    by : (t : Bool) → IsEmpty (if t then up_models.new_member false teid else up_models.no_member) q
    by true = refl
    by false = refl

pub starts_fresh : (n : Numbering) (s : RunState) (u : up_models.Model) (first teid : ℕ) → u ≡ up_models.initial first teid → AreFresh n s u
starts_fresh n s u first teid is place q new =
    ap (λ (w : up_models.Model). (w.members (n.number_of place)).uplink q) is ∙ no_uplinks first teid (n.number_of place) q

-- ---- a step

module _ (reading : Reading) (n : Numbering) (ue : UeId) (bearer : BearerId) (sn : SnBits) (quota : ℕ) where
  abbrev Fresh : Point → Type 0
  Fresh p = AreFresh n p.state p.up

  abbrev Refined : Point → Type 0
  Refined p = IsRefined reading n ue bearer sn quota p

  module _ (p q : Point) where
    pub as_refined : Fresh p → Step reading n ue bearer sn quota p q → refined.Step reading n ue bearer sn quota p q
    as_refined fresh (a_cu_up acts) = refined.a_cu_up (record {
      gnb = acts.gnb;
      number = acts.number;
      cause = acts.cause;
      input = acts.input;
      outputs = acts.outputs;
      left = acts.left;
      beside = acts.beside;
      acts = acts.acts;
      asks = acts.asks;
      fresh = λ teid new. fresh _ teid new;
      down = acts.down;
      up = acts.up;
    })
    as_refined fresh (a_du acts) = refined.a_du acts
    as_refined fresh (an_offer offers) = refined.an_offer offers
    as_refined fresh (a_message takes) = refined.a_message takes
    as_refined fresh (all_else stays) = refined.all_else stays

    module _ (sound : AreSound p.state q.state) (refinements : Refined p) (gives : GiveOnce p.state.units q.state.units) where
      -- what is new later is new now
      new_before : (place : Place) (teid : ℕ) → below (cu_up_of q.state.units place.gnb place.number).next_teid ≤ teid
          → below (cu_up_of p.state.units place.gnb place.number).next_teid ≤ teid
      new_before place teid new = let more = (gives.0 place.gnb place.number).0 in omega arith

      by_keeping : (v : up_models.Model) → q.up ≡ v → Keeps p.up v → Fresh p → Fresh q
      by_keeping v is keeps fresh place teid new =
          ap (λ (w : up_models.Model). (w.members (n.number_of place)).uplink teid) is
          ∙ keeps (n.number_of place) teid (fresh place teid (new_before place teid new))

      of_cu_up : CuUpActs reading n ue bearer sn quota p q → Fresh p → Fresh q
      of_cu_up a =
          let cs : Contexts = contexts_of n ue bearer p.state.units in
          let hs : List (Happening Pdu) = step_asks n ue bearer p.state a.gnb a.number a.cause a.input a.beside in
          by_keeping (up.run p.up (ups.all_orders plain_way ue bearer cs hs)) (a.up ∙ up_runs n ue bearer p.state.units sn quota p.up cs hs)
          (all_keep p.up (ups.all_orders plain_way ue bearer cs hs)
          (asked_puts_none ue bearer (context_at n ue bearer p.state.units a.gnb a.number) (beside_of a.cause a.beside) cs
          (orders_of plain_way (cu_up_of p.state.units a.gnb a.number) ue bearer a.input))
          (of_cu_ups.up_kept reading n ue bearer sn quota p.state q.state a.gnb a.number a.cause a.input a.outputs a.left a.beside a.acts sound p.down p.up
          refinements a.asks))

      of_du : refined.DuActs reading n ue bearer sn quota p q → Fresh p → Fresh q
      of_du a fresh place teid new =
          let before = new_before place teid new in
          ap (λ (w : up_models.Model). (w.members (n.number_of place)).uplink teid) a.up
          ∙ puts_elsewhere n ue bearer p.state.units sound.owned place teid before p.up (puts_of ue bearer p.state.units a.gnb a.number a.input) a.leads
          (fresh place teid before)

      of_rest : refined.StaysInFrame reading n ue bearer sn quota p q → Fresh p → Fresh q
      of_rest a = by_keeping (up.run p.up a.terminal) a.up (all_keep p.up a.terminal (terminal_puts_none a.terminal a.of_terminal) a.terminal_asks)

      pub stays_fresh : Step reading n ue bearer sn quota p q → Fresh p → Fresh q
      stays_fresh (a_cu_up acts) = of_cu_up acts
      stays_fresh (a_du acts) = of_du acts
      stays_fresh (an_offer offers) = by_keeping p.up offers.up (λ y teid is. is)
      stays_fresh (a_message takes) = by_keeping p.up takes.up (λ y teid is. is)
      stays_fresh (all_else stays) = of_rest stays

  pub one_step : (p q : Point) → IsFair p.state → IsFair q.state → GiveOnce p.state.units q.state.units → Refined p → Fresh p
      → Step reading n ue bearer sn quota p q → refined.Step reading n ue bearer sn quota p q × Fresh q
  one_step p q before after comes refinements fresh step = (
    as_refined p q fresh step,
    stays_fresh p q (fair_sound p.state q.state before after) refinements comes step fresh,
  )

  -- ---- steps, one after another

  pub all_steps : (p q : Point) → Refined p → Fresh p → Steps reading n ue bearer sn quota p q → refined.Steps reading n ue bearer sn quota p q × Fresh q
  all_steps p q refinements fresh (no_steps x) = (refined.not_yet x, fresh)
  all_steps p q refinements fresh (one_more x y z earlier before after comes step) =
      let first = all_steps x y refinements fresh earlier in
      let refinements_then : Refined y = (steps_then reading n ue bearer sn quota x y refinements first.0).0 in
      let one = one_step y z before after comes refinements_then first.1 step in
      (refined.further x y z first.0 before after one.0, one.1)

  pub delivers : (p q : Point) (first teid : ℕ) (d : DownlinkTunnel) → AreInitial first teid d p → Refined p → Steps reading n ue bearer sn quota p q
      → DeliverInOrder reading n ue bearer sn quota p q
  delivers p q first teid d are refinements steps =
      delivers_after reading n ue bearer sn quota p q first teid d are refinements (all_steps p q refinements (starts_fresh n p.state p.up first teid are.up) steps).0

-- ---- from the first state of a run on

module _ (reading : Reading) (n : Numbering) where
  pub delivers_on : (q : Point) → Steps reading n terminal its_bearer Len12 64 (begins reading n) q → DeliverInOrder reading n terminal its_bearer Len12 64 (begins reading n) q
  delivers_on q steps =
      delivers reading n terminal its_bearer Len12 64 (begins reading n) q _ (starts reading n).0 (starts reading n).1
      (record { down = refl; up = refl }) (refined_there reading n) steps
