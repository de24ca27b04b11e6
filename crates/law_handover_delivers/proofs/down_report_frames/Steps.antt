-- A step of a CU-UP in a run puts status reports of what was carried up.
use Rattle.std.proofs.Common.{◌≡◌, ℕ, List, [], ◌∷◌, ◌++◌, map, Option, Some, None, sym, subst}
use Rattle.gnb_types.specs.declared.names.Gnb.{Gnb}
use Rattle.gnb_types.specs.declared.names.NodeId.{NodeId}
use Rattle.gnb_types.specs.declared.names.SnBits.{SnBits}
use Rattle.gnb_types.specs.declared.names.UeId.{UeId}
use Rattle.gnb_types.specs.declared.names.BearerId.{BearerId}
use Rattle.message_types.specs.declared.rrc.Token.{Token}
use Rattle.scenario_text.specs.declared.event.Event.{Event}
use Rattle.unit_defs.specs.Ways.{Pdu, Input, gives, spent, nothing}
use Rattle.run_defs.specs.Units.{cu_up_of, with_cu_up}
use Rattle.run_defs.specs.Written.{written_put}
use Rattle.run_defs.specs.States.{sn_of}
use Rattle.run_defs.specs.Runs.{Reading, plain_world, plain_way}
use Rattle.proof_run_steps.specs.steps.Causes.{count_of}
use Rattle.proof_run_steps.specs.facts.Facts.{PutsFit}
use Rattle.proof_run_steps.specs.facts.UnitFacts.{written_facts}
use Rattle.law_tunnels_are_owned.proofs.link_items.Names.{link_items}
use Rattle.proof_cu_up_orders.specs.context_tests.Tests.{is_final, AreTested}
use Rattle.proof_cu_up_orders.proofs.context_tests.Tests.{orders_tested}
use Rattle.proof_cu_up_orders.specs.context_orders.Orders.{CuUpModel, model_of, ContextStep, makes, adds, switches, freezes, knows, resumes, releases, closes, takes, polls, begun, done, carried}
use Rattle.proof_cu_up_orders.specs.context_orders.Inputs.{orders_of}
use Rattle.proof_cu_up_orders.specs.context_orders.Shown.{Comes, on_bearer}
use Rattle.bearer_defs.specs.chain_defs.Models as down_models
use Rattle.bearer_defs.specs.uplink_defs.Models as up_models
use Rattle.bearer_defs.specs.uplink_defs.Orders as up
use Rattle.bearer_defs.specs.uplink_defs.Assumptions as up_assumptions
use Rattle.proof_cu_up_orders.specs.orders.Up.{IsUp}
use Rattle.proof_cu_up_orders.specs.bearer_orders.Happenings.{Beside, Happening, asks, Contexts, context_after}
use Rattle.proof_cu_up_orders.specs.bearer_orders.Up as ups
use Rattle.proof_bearer_refinement.specs.run_unit_inputs.Happenings.{CuUpRecord}
use Rattle.proof_bearer_refinement.specs.run_bearers.Bearers.{Numbering, contexts_of}
use Rattle.proof_bearer_refinement.specs.refinement_facts.Refinements.{RunState}
use Rattle.proof_bearer_refinement.specs.refinement_facts.Asked.{RunCause, IsUpStep, context_at, Refines, AreSound, beside_of}
use Rattle.proof_bearer_refinement.specs.runs.Fair.{IsFair}
use Rattle.law_handover_delivers.specs.assumptions.WellLinked.{AreWellLinked}
use Rattle.law_handover_delivers.specs.assumptions.Assumed.{AssumesIn, AllAssume, final_asks}
use Rattle.law_handover_delivers.proofs.assumptions.Steps.{cs_here, comes_then, step_asked}
use Rattle.proof_bearer_refinement.proofs.cu_up_opens.Ups.{up_kept}
use Rattle.law_terminals_are_isolated.specs.own_steps.Own.{IsActed}
use Rattle.proof_bearer_refinement.proofs.runs.Fair.{fair_sound}
use Rattle.proof_bearer_refinement.proofs.runs.Fair.{puts_fit}
use Rattle.law_handover_delivers.specs.down_reports.Reports.{ReportsDownAreTrue}
use Rattle.law_handover_delivers.proofs.down_reports.Airs.{told_then}
use Rattle.law_handover_delivers.specs.down_report_frames.Sent.{OrderIsTrue}
use Rattle.law_handover_delivers.specs.down_report_frames.Statuses.{AssumesStatus, AssumesStatusIn, AllAssumeStatus, UpCameAbout}
use Rattle.law_handover_delivers.proofs.down_report_frames.Carried.{first_kept, switch_reports, status_reports}
use Rattle.law_handover_delivers.proofs.down_report_frames.Rows.{Outs, Row, RowIsTrue, AllDownTrue, AllTrue, all_true, shape, rest_true, filtered, outputs_tell}

module _ (reading : Reading) (n : Numbering) (ue : UeId) (bearer : BearerId) (sn : SnBits) (quota : ℕ) (event : Event) (s t : RunState) (gnb : Gnb)
    (number : ℕ) (cause : RunCause) (input : Input Token Pdu) (outputs : Outs) (v : CuUpRecord) (b0 : Beside)
    (step : IsUpStep reading s t gnb number cause input outputs v) (before : IsFair s) (after : IsFair t) (d : down_models.Model)
    (u : up_models.Model) (refined : Refines n ue bearer sn quota s d u) (well_linked : AreWellLinked n ue bearer s.units d u (contexts_of n ue bearer s.units))
    (came : UpCameAbout u) where
  abbrev r : CuUpRecord
  r = cu_up_of s.units gnb number

  abbrev p : Option CuUpModel
  p = model_of r ue bearer

  abbrev x : ℕ
  x = context_at n ue bearer s.units gnb number

  abbrev b : Beside
  b = beside_of cause (record b0 { final = is_final input })

  abbrev cs : Contexts
  cs = contexts_of n ue bearer s.units

  abbrev orders : List (ContextStep Pdu)
  orders = orders_of plain_way r ue bearer input

  abbrev happens : List (ContextStep Pdu) → List (Happening Pdu)
  happens os = map (λ (order : ContextStep Pdu). asks x order b) os

  sound : AreSound s t
  sound = fair_sound s t before after

  here : cs x ≡ p
  here = cs_here reading n ue bearer s t gnb number cause input outputs v step sound (fair_sound s s before before).own

  -- ---- the first order

  first_true : (q : CuUpModel) (order : ContextStep Pdu) (more : List up.ModelStep) → IsUp (u.members x) q
      → up_assumptions.AreKept u (ups.orders_in x b (Some q) order ++ more) → AssumesIn n ue bearer s.units sn quota d u x b (Some q) order
      → AssumesStatus u q order → OrderIsTrue u.reached q order
  first_true q (switches du teid) more is kept assumed status = λ known.
      switch_reports u came x q du teid is (first_kept u (up.switches x) more kept) known
  first_true q (knows its) more is kept assumed status = λ arrived.
      status_reports u came x its (first_kept u (up.knows x its) _ kept) (assumed.up.1 arrived) (status arrived)
  first_true q (makes instance its_sn its_quota target teid) more is kept assumed status = tt
  first_true q (adds teid) more is kept assumed status = tt
  first_true q (freezes peer down_teid up_teid) more is kept assumed status = tt
  first_true q resumes more is kept assumed status = tt
  first_true q releases more is kept assumed status = tt
  first_true q closes more is kept assumed status = tt
  first_true q (takes kind teid item) more is kept assumed status = tt
  first_true q polls more is kept assumed status = tt

  -- ---- all orders: after the first one, an end at most

  abbrev AllKept : List (ContextStep Pdu) → Type 0
  AllKept os = up_assumptions.AreKept u (ups.all_orders plain_way ue bearer cs (happens os))

  abbrev AllAssumed : List (ContextStep Pdu) → Type 0
  AllAssumed os = AllAssume n ue bearer s.units sn quota d u cs (happens os)

  abbrev AllKnown : List (ContextStep Pdu) → Type 0
  AllKnown os = AllAssumeStatus ue bearer u cs (happens os)

  its_member : (o : Option CuUpModel) → cs x ≡ o → ups.IsIn (u.members x) o
  its_member o is = subst (λ (w : Option CuUpModel). ups.IsIn (u.members x) w) is (refined.up x)

  -- the orders after those of the first one
  abbrev more_of : ContextStep Pdu → List (ContextStep Pdu) → List up.ModelStep
  more_of order os = ups.all_orders plain_way ue bearer (context_after plain_way ue bearer cs (asks x order b)) (happens os)

  by_first : (os : List (ContextStep Pdu)) (o : Option CuUpModel) → cs x ≡ o → AreTested plain_way ue bearer (is_final input) r.next_teid os o
      → AllKept os → AllAssumed os → AllKnown os → AllTrue u.reached ue bearer os o
  unfolding ups.all_orders
  by_first [] o is tested kept assumed known = tt
  by_first (order ∷ os) None is tested kept assumed known =
      rest_true u.reached ue bearer os (begun ue bearer order) (shape u.reached ue bearer (nothing (begun ue bearer order)) os tested.1)
  by_first (order ∷ os) (Some q) is tested kept assumed known = (
    first_true q order (more_of order os) (its_member (Some q) is)
        (subst (λ (w : Option CuUpModel). up_assumptions.AreKept u (ups.orders_in x b w order ++ more_of order os)) is kept)
        (subst (λ (w : Option CuUpModel). AssumesIn n ue bearer s.units sn quota d u x b w order) is assumed.0)
        (subst (λ (w : Option CuUpModel). AssumesStatusIn u w order) is known.0),
    rest_true u.reached ue bearer os _ (shape u.reached ue bearer (done plain_way order q) os tested.1),
  )

  module _ (assumes : AllAssume n ue bearer s.units sn quota d u cs (final_asks n ue bearer s gnb number cause input b0))
      (statuses : AllAssumeStatus ue bearer u cs (final_asks n ue bearer s gnb number cause input b0)) where
    pub orders_kept : up_assumptions.AreKept u (ups.all_orders plain_way ue bearer cs (final_asks n ue bearer s gnb number cause input b0))
    orders_kept =
        up_kept reading n ue bearer sn quota s t gnb number cause input outputs v (record b0 { final = is_final input }) step sound d u refined
        (step_asked reading n ue bearer s t gnb number cause input outputs v step sound (fair_sound s s before before).own sn quota d u refined b0
        well_linked assumes)

    all_report : AllTrue u.reached ue bearer orders p
    all_report = by_first orders p here (orders_tested plain_way r ue bearer input) orders_kept assumes statuses

    bearer_tells : AllDownTrue u.reached (on_bearer ue bearer outputs)
    bearer_tells =
        by (carried plain_way ue bearer orders p) (all_true u.reached ue bearer orders p all_report)
        (comes_then reading n ue bearer s t gnb number cause input outputs v step sound (fair_sound s s before before).own)
      where
        by : (a : Row) → RowIsTrue u.reached a → Comes ue bearer outputs v a → AllDownTrue u.reached (on_bearer ue bearer outputs)
        by (gives more q) all comes = subst (AllDownTrue u.reached) (sym comes.0) (filtered u.reached ue bearer more all)
        by (spent k) all comes = absurd comes

    pub cu_up_keeps : IsActed (plain_world reading) event s cause (map (written_put (sn_of s)) outputs) (with_cu_up s.units gnb number v)
        → ReportsDownAreTrue ue bearer u.reached s → ReportsDownAreTrue ue bearer u.reached t
    cu_up_keeps acted told =
        told_then ue bearer u.reached reading event s t cause (map (written_put (sn_of s)) outputs) (with_cu_up s.units gnb number v) step.lines
        acted.stands step.goes_on told
        (outputs_tell u.reached ue bearer gnb number (sn_of s) (count_of cause) outputs
        (subst (λ (node : NodeId). PutsFit (written_facts link_items) node (count_of cause) (map (written_put (sn_of s)) outputs)) step.node
        (puts_fit reading s event cause (map (written_put (sn_of s)) outputs) (with_cu_up s.units gnb number v) before acted)) bearer_tells)
