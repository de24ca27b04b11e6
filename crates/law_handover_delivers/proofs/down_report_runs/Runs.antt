-- Steps of a run keep what stands on links and reports to a terminal what was carried up; so that of a report that it takes nothing is
-- assumed.
use Rattle.std.proofs.Common.{ℕ, ◌≤◌, map, refl, sym, ap, subst}
use Rattle.gnb_types.specs.declared.names.NodeId.{NodeId}
use Rattle.gnb_types.specs.declared.names.NodeId.TheVariants.{Du}
use Rattle.gnb_types.specs.declared.names.SnBits.{SnBits}
use Rattle.gnb_types.specs.declared.names.SnBits.TheVariants.{Len12}
use Rattle.gnb_types.specs.declared.names.UeId.{UeId}
use Rattle.gnb_types.specs.declared.names.BearerId.{BearerId}
use Rattle.run_defs.specs.Units.{with_ue}
use Rattle.run_defs.specs.Written.{written_put}
use Rattle.run_defs.specs.States.{new_state, sn_of}
use Rattle.run_defs.specs.Runs.{Reading}
use Rattle.proof_run_steps.specs.steps.Causes.{by_air}
use Rattle.proof_run_steps.specs.radio_steps.Radios.{on_air}
use Rattle.proof_run_steps.specs.teids.Given.{GiveOnce}
use Rattle.proof_bearer_refinement.specs.downlink_radio.Down.{down_key}
use Rattle.proof_bearer_refinement.specs.uplink_radio.Radio.{RunState, up_key}
use Rattle.bearer_defs.specs.uplink_defs.Models as up_models
use Rattle.proof_bearer_refinement.specs.run_bearers.Bearers.{Numbering}
use Rattle.proof_bearer_refinement.specs.refinement_facts.Asked.{AreSound}
use Rattle.law_handover_delivers.specs.assumed_runs.Assuming.{NoneIsZero}
use Rattle.law_handover_delivers.specs.assumed_runs.Assuming as assumed
use Rattle.law_handover_delivers.specs.unused_uplinks.Later as later
use Rattle.proof_bearer_refinement.specs.initial.First as first_run
use Rattle.law_handover_delivers.specs.initial_runs.First.{DeliverInOrder}
use Rattle.proof_bearer_refinement.specs.runs.Steps.{Point, AreOrders}
use Rattle.proof_bearer_refinement.specs.runs.Steps as refined
use Rattle.proof_bearer_refinement.specs.du_puts.Worked.{terminal, bearer as its_bearer, plan}
use Rattle.proof_bearer_refinement.specs.runs.Fair.{IsFair}
use Rattle.law_handover_delivers.specs.core_path.Paths as path
use Rattle.law_handover_delivers.specs.report_runs.Steps as reports
use Rattle.proof_bearer_refinement.proofs.runs.Fair.{fair_sound}
use Rattle.proof_bearer_refinement.proofs.runs.Runs.{step_then}
use Rattle.proof_bearer_refinement.proofs.initial.Start.{starts, refined as refined_there}
use Rattle.law_handover_delivers.proofs.initial_runs.Runs.{begins}
use Rattle.law_handover_delivers.proofs.unused_uplinks.Runs.{starts_fresh, one_step as fresh_step}
use Rattle.law_handover_delivers.proofs.assumed_runs.Runs.{first_well_linked, first_old, one_step as assumed_step}
use Rattle.law_handover_delivers.proofs.core_path.Runs.{IsAlong, one_step as path_step, leads_there}
use Rattle.law_handover_delivers.proofs.report_runs.Runs.{one_step as told_step, first_about, told_there, known_there}
use Rattle.law_handover_delivers.proofs.reports_at_cu_up.Assumed.{all_assumed}
use Rattle.law_handover_delivers.specs.whole_runs.Whole as whole
use Rattle.law_handover_delivers.specs.whole_runs.Whole.{both, IsWhole}
use Rattle.law_handover_delivers.proofs.whole_runs.Runs.{one_step as whole_step, delivers_on as whole_delivers, shown_there}
use Rattle.law_handover_delivers.specs.down_reports.Reports.{ReportsDownAreTrue}
use Rattle.law_handover_delivers.proofs.down_reports.Airs.{told_at_first, told_later, told_alike, told_first_lost}
use Rattle.law_handover_delivers.proofs.down_reports.Grows.{all_grow}
use Rattle.law_handover_delivers.specs.down_reports_elsewhere.Nodes.{PutsNoReport}
use Rattle.law_handover_delivers.proofs.down_reports_elsewhere.Quiet.{quiet_keeps}
use Rattle.law_handover_delivers.proofs.down_reports_elsewhere.Dus.{du_keeps}
use Rattle.law_handover_delivers.proofs.down_reports_elsewhere.Cores.{message_keeps, offer_keeps}
use Rattle.law_handover_delivers.proofs.down_reports_elsewhere.Rest.{set_up_told, octets_told}
use Rattle.law_handover_delivers.proofs.down_reports_elsewhere.Received.{taken_assumed, received_assumed}
use Rattle.law_handover_delivers.specs.down_report_frames.Statuses.{UpCameAbout}
use Rattle.law_handover_delivers.proofs.down_report_frames.Carried.{nothing_came, more_came}
use Rattle.law_handover_delivers.proofs.down_report_frames.Steps.{cu_up_keeps}
use Rattle.law_handover_delivers.specs.down_report_runs.Steps.{ReportsDownAreTrueAt, AssumesStatuses, UeActs, Step, the_terminal, all_else, Steps, not_yet, further}

module _ (reading : Reading) (n : Numbering) (ue : UeId) (bearer : BearerId) (sn : SnBits) (quota : ℕ) (positive : NoneIsZero n) where
  abbrev Whole : Point → Type 0
  Whole p = IsWhole reading n ue bearer sn quota p

  abbrev Told : Point → Type 0
  Told p = ReportsDownAreTrueAt reading n ue bearer sn quota p

  module _ (p q : Point) (before : IsFair p.state) (after : IsFair q.state) (comes : GiveOnce p.state.units q.state.units) (all : Whole p) where
    sound : AreSound p.state q.state
    sound = fair_sound p.state q.state before after

    -- ---- what the models do meanwhile is orders, each of which asks what it does

    along : IsAlong reading n ue bearer sn quota positive p
    along = record { refinements = all.refinements; fresh = all.fresh; well_linked = all.well_linked; came = all.came; leads = all.leads }

    their_orders : whole.Step reading n ue bearer sn quota p q → AreOrders reading n ue bearer sn quota p q
    their_orders step =
        let its : reports.Step reading n ue bearer sn quota p q = (whole_step reading n ue bearer sn quota positive p q before after comes all step).0 in
        let on_path : path.Step reading n ue bearer sn quota p q
        = (told_step reading n ue bearer sn quota p q before all.came all.told all.known its).0 in
        let is_assumed : assumed.Step reading n ue bearer sn quota p q
        = (path_step reading n ue bearer sn quota positive p q before after comes along on_path).0 in
        let is_later : later.Step reading n ue bearer sn quota p q
        = (assumed_step reading n ue bearer sn quota positive p q before after comes all.refinements all.well_linked is_assumed).0 in
        let is_refined : refined.Step reading n ue bearer sn quota p q
        = (fresh_step reading n ue bearer sn quota p q before after comes all.refinements all.fresh is_later).0 in
        (step_then reading n ue bearer sn quota p q sound all.refinements is_refined).1

    -- ---- what stands after the step reports only what was carried up before it

    module _ (came : UpCameAbout p.up) (told : Told p) where
      abbrev reached : ℕ
      reached = p.up.reached

      abbrev Left : Type 0
      Left = ReportsDownAreTrue ue bearer reached q.state

      leaves : (step : whole.Step reading n ue bearer sn quota p q) → AssumesStatuses reading n ue bearer sn quota p q step → Left
      leaves (whole.a_cu_up a) statuses =
          cu_up_keeps reading n ue bearer sn quota a.event p.state q.state a.gnb a.number a.cause a.input a.outputs a.left a.beside a.acts before after
          p.down p.up all.refinements all.well_linked came
          (all_assumed reading n ue bearer sn quota p.state q.state a.gnb a.number a.cause a.input a.outputs a.left a.acts
          (fair_sound p.state p.state before before).own a.beside p.down p.up all.told a.assumes)
          statuses a.acted told
      leaves (whole.a_du a) statuses =
          du_keeps reading a.event p.state q.state ue bearer reached a.gnb a.number a.cause a.input a.outputs a.left before a.acted a.acts told
      leaves (whole.its_home a) statuses =
          du_keeps reading a.event p.state q.state ue bearer reached a.gnb a.number (by_air (up_key ue bearer) (Du a.gnb a.number) a.item) a.input a.outputs
          a.left before a.acted a.acts told
      leaves (whole.an_offer a) statuses = offer_keeps reading p.state q.state ue bearer reached a.who a.which a.packet a.path a.offers told
      leaves (whole.a_message a) statuses = message_keeps reading p.state q.state ue bearer reached a.number a.control_message a.outputs a.core before a.takes told
      leaves (whole.the_terminal a) statuses =
          quiet_keeps reading ue bearer reached p.state q.state a.event a.cause (map (written_put (sn_of p.state)) a.outputs) (with_ue p.state.units ue a.left)
          a.acts.lines before a.acted (subst (λ (node : NodeId). PutsNoReport node) (sym a.acts.node) tt) a.acts.goes_on told
      leaves (whole.a_cu_cp a) statuses =
          quiet_keeps reading ue bearer reached p.state q.state a.acts.event a.acts.cause a.acts.outputs a.acts.units a.acts.lines before a.acts.acted
          (subst (λ (node : NodeId). PutsNoReport node) (sym a.acts.node) tt) a.acts.goes_on told
      leaves (whole.another_terminal a) statuses =
          quiet_keeps reading ue bearer reached p.state q.state a.acts.event a.acts.cause a.acts.outputs a.acts.units a.acts.beside.lines before a.acts.acted
          (subst (λ (node : NodeId). PutsNoReport node) (sym a.acts.node) tt) a.acts.beside.goes_on told
      leaves (whole.a_set_up a) statuses =
          subst (λ (t : RunState). ReportsDownAreTrue ue bearer reached t) (sym a.after) (set_up_told ue bearer reached a.plan p.state told)
      leaves (whole.octets a) statuses =
          octets_told ue bearer reached reading p.state q.state a.reads.from a.reads.octets a.reads.outputs a.reads.core a.reads.lines a.reads.answers
          a.reads.goes_on told
      leaves (whole.a_loss a) statuses =
          told_first_lost ue bearer reached p.state q.state a.end a.item a.rest a.stands (ap (λ (t : RunState). t.tunnels) a.after)
          (ap (λ (t : RunState). on_air t (down_key ue bearer)) a.after) told
      leaves (whole.nothing_else a) statuses =
          told_alike ue bearer reached p.state q.state (ap (λ (t : RunState). t.tunnels) a.after)
          (ap (λ (t : RunState). on_air t (down_key ue bearer)) a.after) told

      pub one_step : (step : whole.Step reading n ue bearer sn quota p q) → AssumesStatuses reading n ue bearer sn quota p q step
          → UpCameAbout q.up × Told q
      one_step step statuses =
          let os : AreOrders reading n ue bearer sn quota p q = their_orders step in
          let more : reached ≤ q.up.reached = subst (λ (u : up_models.Model). reached ≤ u.reached) (sym os.up) (all_grow p.up os.ups) in
          (more_came p.up q.up os.ups came os.up os.up_kept, told_later ue bearer reached q.up.reached q.state more (leaves step statuses))

      -- ---- so of a report that the terminal takes nothing is assumed

      acts_whole : (a : UeActs reading n ue bearer sn quota p q) → whole.UeActs reading n ue bearer sn quota p q
      acts_whole a = record {
        terminal = a.terminal;
        there = a.there;
        some = a.some;
        event = a.event;
        cause = a.cause;
        input = a.input;
        outputs = a.outputs;
        left = a.left;
        to = a.to;
        acts = a.acts;
        acted = a.acted;
        assumed = received_assumed a.terminal (both p) bearer a.to a.input
            (taken_assumed reading a.event p.state ue bearer a.terminal (both p) a.cause a.input before a.acts.node a.acts.given a.acts.stands told) a.assumed;
        down = a.down;
        up = a.up;
      }

      pub as_whole : Step reading n ue bearer sn quota p q
          → (step : whole.Step reading n ue bearer sn quota p q) × AssumesStatuses reading n ue bearer sn quota p q step
      as_whole (the_terminal a) = (whole.the_terminal (acts_whole a), tt)
      as_whole (all_else step statuses) = (step, statuses)

  -- ---- steps, one after another

  pub all_steps : (p q : Point) → Whole p → UpCameAbout p.up → Told p → Steps reading n ue bearer sn quota p q
      → whole.Steps reading n ue bearer sn quota p q × Whole q × UpCameAbout q.up × Told q
  all_steps p q all came told (not_yet x) = (whole.not_yet x, all, came, told)
  all_steps p q all came told (further x y z earlier before after comes step) =
      let first = all_steps x y all came told earlier in
      let its = as_whole y z before after comes first.1 first.2 first.3 step in
      let next = one_step y z before after comes first.1 first.2 first.3 its.0 its.1 in
      let one = whole_step reading n ue bearer sn quota positive y z before after comes first.1 its.0 in
      (whole.further x y z first.0 before after comes its.0, one.1, next.0, next.1)

-- ---- from the first state of a run on

module _ (reading : Reading) (n : Numbering) (positive : NoneIsZero n) where
  abbrev there : Point
  there = begins reading n

  whole_there : IsWhole reading n terminal its_bearer Len12 64 there
  whole_there = record {
    refinements = refined_there reading n;
    fresh = starts_fresh n there.state there.up (first_run.first n) (starts reading n).0 refl;
    well_linked = first_well_linked reading n terminal its_bearer Len12 64 positive (first_run.first n) (starts reading n).0 (starts reading n).1 there
        (record { down = refl; up = refl }) (refined_there reading n) (first_old reading n positive);
    came = first_about Len12 64 there (first_run.first n) (starts reading n).0 (starts reading n).1 (record { down = refl; up = refl });
    leads = leads_there reading n;
    told = told_there reading n;
    known = known_there reading n;
    shown = shown_there reading n;
  }

  came_there : UpCameAbout there.up
  came_there = nothing_came (first_run.first n) (starts reading n).0

  pub reports_there : ReportsDownAreTrueAt reading n terminal its_bearer Len12 64 there
  reports_there = set_up_told terminal its_bearer there.up.reached plan new_state (told_at_first terminal its_bearer there.up.reached)

  pub steps_there : (q : Point) → Steps reading n terminal its_bearer Len12 64 there q
      → whole.Steps reading n terminal its_bearer Len12 64 there q × ReportsDownAreTrueAt reading n terminal its_bearer Len12 64 q
      × DeliverInOrder reading n terminal its_bearer Len12 64 there q
  steps_there q steps =
      let all = all_steps reading n terminal its_bearer Len12 64 positive there q whole_there came_there reports_there steps in
      (all.0, all.3, whole_delivers reading n positive q all.0)
