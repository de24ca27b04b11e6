-- Steps of a run, one after another, keep the core's path of the bearer, and so are steps of `assumed_runs`.
use Rattle.std.proofs.Common.{◌≡◌, ◌==◌, ℕ, Bool, true, false, List, [], ◌∷◌, ◌++◌, refl, sym, ap, subst, ◌∙◌, arith}
use Rattle.std.specs.Prelude.{if◌then◌else◌}
use Rattle.gnb_types.specs.declared.names.Gnb.TheVariants.{A}
use Rattle.gnb_types.specs.declared.names.NodeId.TheVariants.{CuUp}
use Rattle.gnb_types.specs.declared.names.SnBits.{SnBits}
use Rattle.gnb_types.specs.declared.names.SnBits.TheVariants.{Len12}
use Rattle.gnb_types.specs.declared.names.UeId.{UeId}
use Rattle.gnb_types.specs.declared.names.BearerId.{BearerId}
use Rattle.tables.specs.Tables.{find, put, at}
use Rattle.unit_defs.specs.CuUpRecords.{DownlinkTunnel}
use Rattle.unit_defs.specs.Static.{cu_up_placed, du_placed, cu_cp_placed}
use Rattle.unit_defs.specs.Ue.{new_ue}
use Rattle.unit_defs.specs.CuUpBearers.{made}
use Rattle.run_defs.specs.Conditions.{n3_from}
use Rattle.run_defs.specs.Runs.{Reading}
use Rattle.bearer_defs.specs.chain_defs.Models as down_models
use Rattle.bearer_defs.specs.chain_defs.Orders as down
use Rattle.bearer_defs.specs.chain_defs.Assumptions as down_assumptions
use Rattle.proof_bearer_refinement.specs.run_bearers.Bearers.{Numbering}
use Rattle.proof_bearer_refinement.specs.refinement_facts.Asked.{AreSound}
use Rattle.proof_bearer_refinement.specs.du_puts.Worked.{terminal, bearer as its_bearer}
use Rattle.proof_bearer_refinement.specs.runs.Steps as refined
use Rattle.proof_bearer_refinement.specs.runs.Steps.{Point, IsRefined, AreOrders}
use Rattle.proof_bearer_refinement.proofs.runs.Fair.{fair_sound}
use Rattle.proof_bearer_refinement.proofs.runs.Runs.{step_then}
use Rattle.proof_bearer_refinement.specs.initial.First as first_run
use Rattle.proof_bearer_refinement.specs.runs.Fair.{IsFair}
use Rattle.proof_bearer_refinement.proofs.initial.Start.{starts, refined as refined_there}
use Rattle.law_handover_delivers.specs.initial_runs.First.{AreInitial, DeliverInOrder}
use Rattle.law_handover_delivers.proofs.initial_runs.Runs.{begins}
use Rattle.law_handover_delivers.specs.unused_uplinks.Later as later
use Rattle.law_handover_delivers.specs.unused_uplinks.Later.{AreFresh}
use Rattle.law_handover_delivers.proofs.unused_uplinks.Runs.{starts_fresh, one_step as fresh_step}
use Rattle.law_handover_delivers.specs.assumptions.WellLinked.{IsOld}
use Rattle.law_handover_delivers.specs.assumed_runs.Assuming as assumed
use Rattle.law_handover_delivers.specs.assumed_runs.Assuming.{NoneIsZero, IsWellLinkedAt}
use Rattle.law_handover_delivers.proofs.assumed_runs.Runs.{one_step as assumed_step, first_well_linked, delivers as assumed_delivers, first_old}
use Rattle.law_handover_delivers.specs.core_path.Paths.{CameAbout, LeadsAt, Step, a_cu_up, a_du, an_offer, a_message, all_else, Steps, not_yet, further}
use Rattle.law_handover_delivers.proofs.core_path.Leads.{is_one, du_leads, offer_leads, beside_leads, message_leads, cu_up_leads}
use Rattle.proof_run_steps.specs.teids.Given.{GiveOnce}

number_same : (a : ℕ) → (a == a) ≡ true
number_same a = grind arith

-- ---- orders after orders

run_more : (d : down_models.Model) (os more : List down.ModelStep) → down.run d (os ++ more) ≡ down.run (down.run d os) more
unfolding down.run
run_more d [] more = refl
run_more d (o ∷ os) more = run_more (down.after d o) os more

kept_more : (sn : SnBits) (quota : ℕ) (d : down_models.Model) (os more : List down.ModelStep) → down_assumptions.AreKept sn quota d os
    → down_assumptions.AreKept sn quota (down.run d os) more → down_assumptions.AreKept sn quota d (os ++ more)
unfolding down_assumptions.AreKept down.run
kept_more sn quota d [] more h k = k
kept_more sn quota d (o ∷ os) more h k = (h.0, h.1, kept_more sn quota (down.after d o) os more h.2 k)

module _ (reading : Reading) (n : Numbering) (ue : UeId) (bearer : BearerId) (sn : SnBits) (quota : ℕ) (positive : NoneIsZero n) where
  abbrev Refined : Point → Type 0
  Refined p = IsRefined reading n ue bearer sn quota p

  abbrev WellLinked : Point → Type 0
  WellLinked p = IsWellLinkedAt reading n ue bearer sn quota p

  abbrev Leads : Point → Type 0
  Leads p = LeadsAt reading n ue bearer sn quota p

  goes_about : (p q : Point) → CameAbout sn quota p.down → AreOrders reading n ue bearer sn quota p q → CameAbout sn quota q.down
  goes_about p q came os =
      let start : down_models.Model = down_models.initial came.first came.teid in record {
        first = came.first;
        teid = came.teid;
        orders = came.orders ++ os.downs;
        is = os.down ∙ ap (λ (d : down_models.Model). down.run d os.downs) came.is ∙ sym (run_more start came.orders os.downs);
        kept = kept_more sn quota start came.orders os.downs came.kept
            (subst (λ (d : down_models.Model). down_assumptions.AreKept sn quota d os.downs) came.is os.down_kept);
      }

  -- ---- a step

  -- all that is so of a state on the way
  pub record IsAlong (p : Point) : Type 0 where
    pub refinements : Refined p
    pub fresh : AreFresh n p.state p.up
    pub well_linked : WellLinked p
    pub came : CameAbout sn quota p.down
    pub leads : Leads p

  module _ (p q : Point) (before : IsFair p.state) (after : IsFair q.state) (comes : GiveOnce p.state.units q.state.units) (along : IsAlong p) where
    sound : AreSound p.state q.state
    sound = fair_sound p.state q.state before after

    as_assumed : Step reading n ue bearer sn quota p q → assumed.Step reading n ue bearer sn quota p q
    as_assumed (a_cu_up a) = assumed.a_cu_up a
    as_assumed (a_du a) = assumed.a_du a
    as_assumed (an_offer a) = assumed.an_offer (record {
      who = a.who;
      which = a.which;
      packet = a.packet;
      path = a.path;
      offers = a.offers;
      leads = λ own. along.leads;
      down = a.down;
      up = a.up;
    })
    as_assumed (a_message a) = assumed.a_message (record {
      number = a.number;
      control_message = a.control_message;
      outputs = a.outputs;
      core = a.core;
      takes = a.takes;
      leads = along.leads;
      one = is_one n ue bearer p.state.units _ a.names;
      asks = a.asks;
      down = a.down;
      up = a.up;
    })
    as_assumed (all_else a) = assumed.all_else a.stays

    leads_then : Step reading n ue bearer sn quota p q → Refined q → CameAbout sn quota q.down → Leads q
    leads_then (a_cu_up a) refinements came = cu_up_leads reading n ue bearer sn quota p q along.leads a sound along.refinements refinements along.well_linked along.came came
    leads_then (a_du a) refinements came = du_leads reading n ue bearer sn quota p q along.leads a
    leads_then (an_offer a) refinements came = offer_leads reading n ue bearer sn quota p q along.leads a
    leads_then (a_message a) refinements came = message_leads reading n ue bearer sn quota p q along.leads a
    leads_then (all_else a) refinements came = beside_leads reading n ue bearer sn quota p q along.leads a

    pub one_step : Step reading n ue bearer sn quota p q → assumed.Step reading n ue bearer sn quota p q × IsAlong q
    one_step step =
        let its : assumed.Step reading n ue bearer sn quota p q = as_assumed step in
        let next : later.Step reading n ue bearer sn quota p q × WellLinked q
        = assumed_step reading n ue bearer sn quota positive p q before after comes along.refinements along.well_linked its in
        let last : refined.Step reading n ue bearer sn quota p q × AreFresh n q.state q.up
        = fresh_step reading n ue bearer sn quota p q before after comes along.refinements along.fresh next.0 in
        let both : Refined q × AreOrders reading n ue bearer sn quota p q = step_then reading n ue bearer sn quota p q sound along.refinements last.0 in
        let came : CameAbout sn quota q.down = goes_about p q along.came both.1 in
        (its, record { refinements = both.0; fresh = last.1; well_linked = next.1; came = came; leads = leads_then step both.0 came })

  -- ---- steps, one after another

  pub all_steps : (p q : Point) → IsAlong p → Steps reading n ue bearer sn quota p q → assumed.Steps reading n ue bearer sn quota p q × IsAlong q
  all_steps p q along (not_yet x) = (assumed.not_yet x, along)
  all_steps p q along (further x y z earlier before after comes step) =
      let first = all_steps x y along earlier in
      let one = one_step y z before after comes first.1 step in
      (assumed.further x y z first.0 before after comes one.0, one.1)

  -- ---- the initial models, after the switch by which the first context has its downlink

  first_about : (p : Point) (first teid : ℕ) (d : DownlinkTunnel) → AreInitial first teid d p → CameAbout sn quota p.down
  unfolding down_assumptions.AreKept down_assumptions.IsReady down_assumptions.IsAssumed down_models.initial
  first_about p first teid d are = record {
    first = first;
    teid = teid;
    orders = down.switches first d 0 ∷ [];
    is = are.down;
    kept = (
      ap (λ (t : Bool). (if t then down_models.new_member false teid else down_models.no_member).is_there) (number_same first),
      (refl, omega arith),
      tt,
    );
  }

  pub delivers : (p q : Point) (first teid : ℕ) (d : DownlinkTunnel) → AreInitial first teid d p → Refined p → IsOld n ue bearer p.state.units first → Leads p
      → Steps reading n ue bearer sn quota p q → DeliverInOrder reading n ue bearer sn quota p q
  delivers p q first teid d are refinements old leads steps =
      assumed_delivers reading n ue bearer sn quota positive p q first teid d are refinements old
      (all_steps p q (record {
        refinements = refinements;
        fresh = starts_fresh n p.state p.up first teid are.up;
        well_linked = first_well_linked reading n ue bearer sn quota positive first teid d p are refinements old;
        came = first_about p first teid d are;
        leads = leads;
      }) steps).0

-- ---- from the first state of a run on

module _ (reading : Reading) (n : Numbering) where
  pub leads_there : LeadsAt reading n terminal its_bearer Len12 64 (begins reading n)
  unfolding find put at made cu_up_placed du_placed cu_cp_placed new_ue down.run down.after down_models.initial
  leads_there = record { path = record { up = CuUp A 1; n3 = n3_from 1 1 1 }; teid = 1; there = refl; one = refl; leads = refl }

  pub delivers_on : NoneIsZero n → (q : Point) → Steps reading n terminal its_bearer Len12 64 (begins reading n) q
      → DeliverInOrder reading n terminal its_bearer Len12 64 (begins reading n) q
  delivers_on positive q steps =
      delivers reading n terminal its_bearer Len12 64 positive (begins reading n) q (first_run.first n) (starts reading n).0 (starts reading n).1
      (record { down = refl; up = refl }) (refined_there reading n) (first_old reading n positive) leads_there steps
