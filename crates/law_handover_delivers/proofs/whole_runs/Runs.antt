-- Steps of a run, one after another, of which only what is assumed is asked, are steps of `report_runs`, and keep all that is so.
use Rattle.std.proofs.Common.{◌≡◌, ℕ, List, map, Some, refl, sym, ap, subst, ◌∙◌}
use Rattle.std.specs.List.Sorted.{IsStrictlySortedBy}
use Rattle.gnb_types.specs.declared.names.NodeId.{NodeId}
use Rattle.gnb_types.specs.declared.names.NodeId.TheVariants.{Du}
use Rattle.gnb_types.specs.declared.names.SnBits.{SnBits}
use Rattle.gnb_types.specs.declared.names.SnBits.TheVariants.{Len12}
use Rattle.gnb_types.specs.declared.names.UeId.{UeId}
use Rattle.gnb_types.specs.declared.names.BearerId.{BearerId}
use Rattle.tables.specs.Tables.{find, put, at}
use Rattle.unit_defs.specs.Ways.{Pdu}
use Rattle.unit_defs.specs.CuUpRecords.{DownlinkTunnel}
use Rattle.unit_defs.specs.Static.{cu_up_placed, du_placed, cu_cp_placed}
use Rattle.unit_defs.specs.Ue.{UeNode, new_ue, placed}
use Rattle.run_defs.specs.Units.{with_cu_up, with_du, with_ue, cu_up_of}
use Rattle.run_defs.specs.Written.{written_put}
use Rattle.run_defs.specs.States.{sn_of}
use Rattle.run_defs.specs.Conditions.{statically}
use Rattle.run_defs.specs.Steps.{epoch_on_air}
use Rattle.run_defs.specs.Runs.{Reading, plain_world, plain_way}
use Rattle.proof_run_steps.specs.steps.Causes.{by_air}
use Rattle.proof_cu_up_orders.specs.context_tests.Tests.{is_final}
use Rattle.bearer_defs.specs.chain_defs.Models as down_models
use Rattle.bearer_defs.specs.chain_defs.Orders as down
use Rattle.bearer_defs.specs.uplink_defs.Models as up_models
use Rattle.proof_cu_up_orders.specs.context_orders.Orders.{ContextStep}
use Rattle.proof_cu_up_orders.specs.context_orders.Inputs.{orders_of}
use Rattle.proof_cu_up_orders.specs.bearer_orders.Happenings.{Beside}
use Rattle.proof_bearer_refinement.specs.run_bearers.Bearers.{Numbering, contexts_of}
use Rattle.proof_bearer_refinement.specs.refinement_facts.Refinements.{RunState}
use Rattle.proof_bearer_refinement.specs.refinement_facts.Asked.{context_at, beside_of}
use Rattle.proof_bearer_refinement.specs.du_puts.Puts.{puts_of}
use Rattle.proof_node_orders.specs.terminal_inputs.Inputs.{Models, IsShown}
use Rattle.proof_run_steps.specs.radio_steps.Radios.{on_air}
use Rattle.proof_run_steps.specs.teids.Given.{GiveOnce}
use Rattle.proof_bearer_refinement.specs.uplink_radio.Radio.{up_key, IsAtTerminal}
use Rattle.proof_bearer_refinement.proofs.uplink_radio.Others.{stays_at, beside_then}
use Rattle.proof_bearer_refinement.proofs.uplink_radio.Lists.{nothing_there}
use Rattle.proof_bearer_refinement.specs.frame_other_units.Nodes.{IsNoTerminal}
use Rattle.proof_bearer_refinement.proofs.frame_other_units.Beside.{is_beside}
use Rattle.proof_bearer_refinement.specs.downlink_radio.Received.{IsKept}
use Rattle.proof_bearer_refinement.specs.frame_cp_and_ue.Nodes.{PutsNoItem}
use Rattle.proof_bearer_refinement.proofs.frame_cp_and_ue.Rest.{bearer_is_left}
use Rattle.proof_bearer_refinement.proofs.frame_lost_and_foreign.Left.{alike_left, lost_left, read_left}
use Rattle.proof_bearer_refinement.proofs.frame_set_up.SetUp.{is_left as set_up_left}
use Rattle.proof_bearer_refinement.proofs.du_without_uplink.Steps.{acts as du_acts, quiet as du_quiet}
use Rattle.proof_bearer_refinement.proofs.serving_du.Home.{acts as home_acts, refined_then as home_shown}
use Rattle.proof_bearer_refinement.proofs.ue_receives.Steps.{step_is as received_step}
use Rattle.proof_bearer_refinement.proofs.ue_view.Orders.{down_same, up_same, offered_same, told_same, marks_same}
use Rattle.proof_bearer_refinement.proofs.ue_view.Shown.{looks_same}
use Rattle.proof_bearer_refinement.specs.ue_view.Looks.{DownSame, UpSame}
use Rattle.proof_node_orders.specs.core_rows.Shown.{goal_by}
use Rattle.proof_bearer_refinement.specs.core_step.Core.{places_of}
use Rattle.proof_bearer_refinement.specs.du_puts.Worked.{terminal, bearer as its_bearer}
use Rattle.proof_bearer_refinement.specs.runs.Steps.{Point, IsRefined, LeavesBearer}
use Rattle.proof_bearer_refinement.specs.runs.Steps as refined
use Rattle.proof_bearer_refinement.specs.initial.First as first_run
use Rattle.proof_bearer_refinement.specs.runs.Fair.{IsFair}
use Rattle.law_handover_delivers.specs.initial_runs.First.{AreInitial, DeliverInOrder}
use Rattle.law_handover_delivers.specs.assumptions.WellLinked.{IsOld}
use Rattle.law_handover_delivers.specs.assumed_runs.Assuming.{NoneIsZero}
use Rattle.law_handover_delivers.specs.core_path.Paths.{LeadsAt, PathStays}
use Rattle.law_handover_delivers.specs.report_runs.Steps as reports
use Rattle.law_handover_delivers.specs.report_runs.Steps.{ReportsAreTrueAt, IsKnownAt}
use Rattle.proof_bearer_refinement.proofs.initial.Start.{starts, refined as refined_there}
use Rattle.law_handover_delivers.proofs.initial_runs.Runs.{begins}
use Rattle.law_handover_delivers.proofs.unused_uplinks.Runs.{starts_fresh}
use Rattle.law_handover_delivers.proofs.assumed_runs.Runs.{first_well_linked, first_old}
use Rattle.law_handover_delivers.proofs.core_path.Cores.{core_stays, same_path, set_up_path, octets_path}
use Rattle.law_handover_delivers.proofs.core_path.Runs.{IsAlong, one_step as path_step, leads_there}
use Rattle.law_handover_delivers.proofs.report_runs.Runs.{one_step as told_step, first_about, told_there, known_there, delivers as told_delivers}
use Rattle.law_handover_delivers.specs.whole_runs.Whole.{both, ModelsStay, IsWhole, DuActs, UeActs, CuCpStep, OtherStep, SetsUp, CoreIsGiven, Loses, Lands, Step, a_cu_up, a_du, its_home, an_offer, a_message, the_terminal, a_cu_cp, another_terminal, a_set_up, octets, a_loss, nothing_else, Steps, not_yet, further}
use Rattle.law_handover_delivers.proofs.whole_runs.Beside.{beside, down_alike, up_alike, shows_alike, up_leaves}
use Rattle.law_handover_delivers.proofs.whole_runs.Core.{message_shown, octets_shown, offer_shown, set_up_shown}

module _ (reading : Reading) (n : Numbering) (ue : UeId) (bearer : BearerId) (sn : SnBits) (quota : ℕ) where
  abbrev Whole : Point → Type 0
  Whole p = IsWhole reading n ue bearer sn quota p

  abbrev AtTerminal : RunState → Models → Type 0
  AtTerminal s b = IsAtTerminal reading ue bearer s b

  module _ (p q : Point) (fair : IsFair p.state) (fair_then : IsFair q.state) (whole : Whole p) where
    kept : IsKept sn quota p.down
    kept = record {
      first = whole.came.first;
      teid = whole.came.teid;
      orders = whole.came.orders;
      kept = whole.came.kept;
      is = whole.came.is;
    }

    abbrev TerminalDoes : Type 0
    TerminalDoes = reports.TerminalActs reading n ue bearer sn quota p q

    -- ---- the terminal that is there is the one that shows the models

    module _ (a : UeActs reading n ue bearer sn quota p q) where
      same_terminal : whole.shown.terminal ≡ a.terminal
      same_terminal = let both_are : Some whole.shown.terminal ≡ Some a.terminal = sym whole.shown.there ∙ a.there in cc

      abbrev its_refinement : AtTerminal p.state (both p)
      its_refinement = record {
        terminal = a.terminal;
        there = a.there;
        itself = subst (λ (u : UeNode). u.plan.ue ≡ ue) same_terminal whole.shown.itself;
        attached = whole.shown.attached;
        shown = subst (λ (u : UeNode). IsShown u bearer (both p)) same_terminal whole.shown.shown;
        epoch = subst (λ (u : UeNode). (on_air p.state (up_key ue bearer)).epoch ≡ epoch_on_air (plain_world reading) (Some u)) same_terminal whole.shown.epoch;
        radio = whole.shown.radio;
      }

      terminal_step : refined.StaysInFrame reading n ue bearer sn quota p q × AtTerminal q.state (both q)
      terminal_step =
          received_step reading n ue bearer sn quota p q a.event its_refinement a.left a.cause a.outputs a.to fair kept a.input a.acts a.acted a.assumed a.down a.up

      terminal_told : reports.StaysInFrame reading n ue bearer sn quota p q
      terminal_told = record {
        stays = record {
          stays = terminal_step.0;
          path = same_path ue p.state q.state (core_stays (plain_world reading) a.cause (map (written_put (sn_of p.state)) a.outputs)
              (with_ue p.state.units ue a.left) p.state q.state a.acts.lines a.acts.goes_on);
        };
        makes = reports.the_terminal (record {
          refinement = its_refinement;
          event = a.event;
          cause = a.cause;
          input = a.input;
          outputs = a.outputs;
          left = a.left;
          to = a.to;
          acts = a.acts;
          some = a.some;
          assumed = a.assumed;
          down = a.down;
        });
      }

    -- ---- others

    cu_cp_told : CuCpStep reading n ue bearer sn quota p q → reports.StaysInFrame reading n ue bearer sn quota p q
    cu_cp_told a = record {
      stays = beside reading n ue bearer sn quota p q
          (bearer_is_left reading n ue bearer p.state q.state a.acts.event a.acts.cause a.acts.outputs a.acts.units a.acts.lines fair a.acts.acted
          (subst (λ (node : NodeId). PutsNoItem node) (sym a.acts.node) tt) a.acts.goes_on)
          (same_path ue p.state q.state (core_stays (plain_world reading) a.acts.cause a.acts.outputs a.acts.units p.state q.state a.acts.lines a.acts.goes_on))
          a.models;
      makes = reports.a_cu_cp a.acts;
    }

    other_told : OtherStep reading n ue bearer sn quota p q → reports.StaysInFrame reading n ue bearer sn quota p q
    other_told a = record {
      stays = beside reading n ue bearer sn quota p q
          (bearer_is_left reading n ue bearer p.state q.state a.acts.event a.acts.cause a.acts.outputs a.acts.units a.acts.beside.lines fair a.acts.acted
          (subst (λ (node : NodeId). PutsNoItem node) (sym a.acts.node) tt) a.acts.beside.goes_on)
          (same_path ue p.state q.state
          (core_stays (plain_world reading) a.acts.cause a.acts.outputs a.acts.units p.state q.state a.acts.beside.lines a.acts.beside.goes_on)) a.models;
      makes = reports.another_terminal a.acts;
    }

    set_up_told : SetsUp reading n ue bearer sn quota p q → reports.StaysInFrame reading n ue bearer sn quota p q
    set_up_told a = record {
      stays = beside reading n ue bearer sn quota p q
          (subst (λ (t : RunState). LeavesBearer n ue bearer p.state t) (sym a.after)
          (set_up_left reading n ue bearer p.state a.plan fair (subst (λ (t : RunState). IsFair t) a.after fair_then) a.free a.teids a.apart))
          (subst (λ (t : RunState). PathStays ue p.state t) (sym a.after) (set_up_path ue p.state a.plan a.apart)) a.models;
      makes = reports.a_set_up a.plan a.after;
    }

    octets_told : CoreIsGiven reading n ue bearer sn quota p q → reports.StaysInFrame reading n ue bearer sn quota p q
    octets_told a = record {
      stays = beside reading n ue bearer sn quota p q
          (read_left n ue bearer p.state q.state reading a.reads.from a.reads.octets a.reads.outputs a.reads.core a.reads.lines a.reads.answers a.reads.goes_on)
          (octets_path ue reading p.state q.state a.reads.from a.reads.octets a.reads.outputs a.reads.core a.reads.lines a.reads.answers a.reads.goes_on)
          a.models;
      makes = reports.the_core_reads a.reads;
    }

    loss_told : Loses reading n ue bearer sn quota p q → reports.StaysInFrame reading n ue bearer sn quota p q
    loss_told a = record {
      stays = beside reading n ue bearer sn quota p q
          (lost_left n ue bearer p.state q.state reading (record {
            end = a.end;
            lossy = a.lossy;
            rest = a.rest;
            units = ap (λ (t : RunState). t.units) a.after;
            tunnels = ap (λ (t : RunState). t.tunnels) a.after;
          })) (same_path ue p.state q.state (ap (λ (t : RunState). t.core) a.after)) a.models;
      makes = reports.a_loss (record {
        end = a.end;
        item = a.item;
        rest = a.rest;
        stands = a.stands;
        tunnels = ap (λ (t : RunState). t.tunnels) a.after;
        radios = λ dir. ap (λ (t : RunState). on_air t (record { ue = ue; bearer = bearer; dir = dir })) a.after;
      });
    }

    landed_told : Lands reading n ue bearer sn quota p q → reports.StaysInFrame reading n ue bearer sn quota p q
    landed_told a = record {
      stays = beside reading n ue bearer sn quota p q
          (alike_left n ue bearer p.state q.state
          (record { units = ap (λ (t : RunState). t.units) a.after; tunnels = ap (λ (t : RunState). t.tunnels) a.after }))
          (same_path ue p.state q.state (ap (λ (t : RunState). t.core) a.after)) a.models;
      makes = reports.nothing_else (record {
        tunnels = ap (λ (t : RunState). t.tunnels) a.after;
        radios = λ dir. ap (λ (t : RunState). on_air t (record { ue = ue; bearer = bearer; dir = dir })) a.after;
      });
    }

    -- ---- so each is a step of `report_runs`

    as_told : Step reading n ue bearer sn quota p q → reports.Step reading n ue bearer sn quota p q
    as_told (a_cu_up a) = reports.a_cu_up a
    as_told (a_du a) = reports.a_du (record {
      gnb = a.gnb;
      number = a.number;
      event = a.event;
      cause = a.cause;
      input = a.input;
      outputs = a.outputs;
      left = a.left;
      acts = a.acts;
      acted = a.acted;
      step = du_acts reading n ue bearer sn quota p q a.event a.gnb a.number a.cause a.input a.outputs a.left fair fair_then a.acted a.acts a.leaves
          a.down a.up;
    })
    as_told (its_home a) = reports.a_du (record {
      gnb = a.gnb;
      number = a.number;
      event = a.event;
      cause = by_air (up_key ue bearer) (Du a.gnb a.number) a.item;
      input = a.input;
      outputs = a.outputs;
      left = a.left;
      acts = a.acts;
      acted = a.acted;
      step = home_acts reading n ue bearer sn quota p q a.event whole.shown a.gnb a.number a.item a.input a.outputs a.left fair whole.refinements a.acted a.acts
          a.home a.down a.up;
    })
    as_told (an_offer a) = reports.an_offer a
    as_told (a_message a) = reports.a_message a
    as_told (the_terminal a) = reports.all_else (terminal_told a)
    as_told (a_cu_cp a) = reports.all_else (cu_cp_told a)
    as_told (another_terminal a) = reports.all_else (other_told a)
    as_told (a_set_up a) = reports.all_else (set_up_told a)
    as_told (octets a) = reports.all_else (octets_told a)
    as_told (a_loss a) = reports.all_else (loss_told a)
    as_told (nothing_else a) = reports.all_else (landed_told a)

    -- ---- and the terminal shows the models then

    cu_up_shown : reports.CuUpActs reading n ue bearer sn quota p q → AtTerminal q.state (both q)
    cu_up_shown a =
        let x : ℕ = context_at n ue bearer p.state.units a.gnb a.number in
        let b : Beside = beside_of a.cause (record a.beside { final = is_final a.input }) in
        let os : List (ContextStep Pdu) = orders_of plain_way (cu_up_of p.state.units a.gnb a.number) ue bearer a.input in
        looks_same reading ue bearer q.state (both p) (both q)
        (subst (λ (d : down_models.Model). DownSame p.down d) (sym a.down)
        (down_same n ue bearer p.state.units sn quota x b p.down (contexts_of n ue bearer p.state.units) os))
        (subst (λ (u : up_models.Model). UpSame p.up u) (sym a.up)
        (up_same n ue bearer p.state.units sn quota x b p.up (contexts_of n ue bearer p.state.units) os))
        (beside_then reading p.state q.state ue bearer (both p) whole.shown a.cause (map (written_put (sn_of p.state)) a.outputs)
        (with_cu_up p.state.units a.gnb a.number a.left) (up_leaves a.event p.state ue bearer a.gnb a.number a.cause a.acts.node a.acted.stands)
        (is_beside reading ue bearer p.state q.state a.event a.cause (map (written_put (sn_of p.state)) a.outputs)
        (with_cu_up p.state.units a.gnb a.number a.left) a.acts.lines fair a.acted (subst (λ (node : NodeId). IsNoTerminal node) (sym a.acts.node) tt)
        a.acts.goes_on))

    du_shown : DuActs reading n ue bearer sn quota p q → AtTerminal q.state (both q)
    du_shown a =
        looks_same reading ue bearer q.state (both p) (both q) (down_alike reading n ue bearer sn quota p q a.down)
        (subst (λ (u : up_models.Model). UpSame p.up u) (sym a.up)
        (marks_same n ue bearer p.state.units p.up (puts_of ue bearer p.state.units a.gnb a.number a.input)
        (du_quiet reading n ue bearer sn quota p q a.event a.gnb a.number a.cause a.input a.outputs a.left fair fair_then a.acted a.acts a.leaves a.down
        a.up)))
        (beside_then reading p.state q.state ue bearer (both p) whole.shown a.cause (map (written_put (sn_of p.state)) a.outputs)
        (with_du p.state.units a.gnb a.number a.left) a.leaves
        (is_beside reading ue bearer p.state q.state a.event a.cause (map (written_put (sn_of p.state)) a.outputs)
        (with_du p.state.units a.gnb a.number a.left) a.acts.lines fair a.acted (subst (λ (node : NodeId). IsNoTerminal node) (sym a.acts.node) tt)
        a.acts.goes_on))

    abbrev shows : ModelsStay p q → AtTerminal q.state (both p) → AtTerminal q.state (both q)
    shows models refinement = shows_alike reading n ue bearer sn quota p q models refinement

    after_shown : (t : RunState) → q.state ≡ t → AtTerminal t (both p) → AtTerminal q.state (both p)
    after_shown t is refinement = subst (λ (s : RunState). AtTerminal s (both p)) (sym is) refinement

    shown_then : Step reading n ue bearer sn quota p q → AtTerminal q.state (both q)
    shown_then (a_cu_up a) = cu_up_shown a
    shown_then (a_du a) = du_shown a
    shown_then (its_home a) =
        home_shown reading n ue bearer sn quota p q a.event whole.shown a.gnb a.number a.item a.input a.outputs a.left fair whole.refinements a.acted a.acts a.home
        a.down a.up
    shown_then (an_offer a) =
        looks_same reading ue bearer q.state (both p) (both q)
        (subst (λ (d : down_models.Model). DownSame p.down d) (sym a.down) (offered_same ue bearer a.who a.which a.packet p.down))
        (up_alike reading n ue bearer sn quota p q a.up)
        (offer_shown reading ue bearer (both p) p.state q.state a.who a.which a.packet a.path a.offers whole.shown)
    shown_then (a_message a) =
        looks_same reading ue bearer q.state (both p) (both q)
        (subst (λ (d : down_models.Model). DownSame p.down d) (sym a.down)
        (told_same (places_of n ue bearer p.state.units) (goal_by ue bearer p.state.core a.control_message.from a.control_message.message) p.down))
        (up_alike reading n ue bearer sn quota p q a.up)
        (message_shown reading ue bearer (both p) p.state q.state fair a.number a.control_message a.outputs a.core a.takes whole.shown)
    shown_then (the_terminal a) = (terminal_step a).1
    shown_then (a_cu_cp a) =
        shows a.models
        (beside_then reading p.state q.state ue bearer (both p) whole.shown a.acts.cause a.acts.outputs a.acts.units a.leaves
        (is_beside reading ue bearer p.state q.state a.acts.event a.acts.cause a.acts.outputs a.acts.units a.acts.lines fair a.acts.acted
        (subst (λ (node : NodeId). IsNoTerminal node) (sym a.acts.node) tt) a.acts.goes_on))
    shown_then (another_terminal a) =
        shows a.models
        (beside_then reading p.state q.state ue bearer (both p) whole.shown a.acts.cause a.acts.outputs a.acts.units a.leaves a.acts.beside)
    shown_then (a_set_up a) =
        shows a.models (after_shown (statically a.plan p.state) a.after (set_up_shown reading ue bearer (both p) p.state a.plan a.apart whole.shown))
    shown_then (octets a) = shows a.models (octets_shown reading ue bearer (both p) p.state q.state a.reads whole.shown)
    shown_then (a_loss a) = shows a.models (after_shown _ a.after (stays_at reading p.state _ ue bearer (both p) whole.shown refl refl refl))
    shown_then (nothing_else a) = shows a.models (after_shown _ a.after (stays_at reading p.state _ ue bearer (both p) whole.shown refl refl refl))

  -- ---- a step

  module _ (positive : NoneIsZero n) where
    abbrev along_of : (p : Point) → Whole p → IsAlong reading n ue bearer sn quota positive p
    along_of p whole = record { refinements = whole.refinements; fresh = whole.fresh; well_linked = whole.well_linked; came = whole.came; leads = whole.leads }

    pub one_step : (p q : Point) → IsFair p.state → IsFair q.state → GiveOnce p.state.units q.state.units → Whole p
        → Step reading n ue bearer sn quota p q → reports.Step reading n ue bearer sn quota p q × Whole q
    one_step p q fair fair_then comes whole step =
        let its : reports.Step reading n ue bearer sn quota p q = as_told p q fair fair_then whole step in
        let told = told_step reading n ue bearer sn quota p q fair whole.came whole.told whole.known its in
        let next = path_step reading n ue bearer sn quota positive p q fair fair_then comes (along_of p whole) told.0 in (
          its,
          record {
            refinements = next.1.refinements;
            fresh = next.1.fresh;
            well_linked = next.1.well_linked;
            came = next.1.came;
            leads = next.1.leads;
            told = told.1;
            known = told.2;
            shown = shown_then p q fair fair_then whole step;
          },
        )

    -- ---- steps, one after another

    pub all_steps : (p q : Point) → Whole p → Steps reading n ue bearer sn quota p q → reports.Steps reading n ue bearer sn quota p q × Whole q
    all_steps p q whole (not_yet x) = (reports.not_yet x, whole)
    all_steps p q whole (further x y z earlier before after comes step) =
        let first = all_steps x y whole earlier in
        let one = one_step y z before after comes first.1 step in
        (reports.further x y z first.0 before after comes one.0, one.1)

    pub delivers : (p q : Point) (first teid : ℕ) (d : DownlinkTunnel) → AreInitial first teid d p → IsRefined reading n ue bearer sn quota p
        → IsOld n ue bearer p.state.units first → LeadsAt reading n ue bearer sn quota p → ReportsAreTrueAt reading n ue bearer sn quota p
        → IsKnownAt reading n ue bearer sn quota p → AtTerminal p.state (both p) → Steps reading n ue bearer sn quota p q
        → DeliverInOrder reading n ue bearer sn quota p q
    delivers p q first teid d are refinements old leads told known shown steps =
        told_delivers reading n ue bearer sn quota positive p q first teid d are refinements old leads told known
        (all_steps p q (record {
          refinements = refinements;
          fresh = starts_fresh n p.state p.up first teid are.up;
          well_linked = first_well_linked reading n ue bearer sn quota positive first teid d p are refinements old;
          came = first_about sn quota p first teid d are;
          leads = leads;
          told = told;
          known = known;
          shown = shown;
        }) steps).0

-- ---- from the first state of a run on

module _ (reading : Reading) (n : Numbering) where
  pub shown_there : IsAtTerminal reading terminal its_bearer first_run.set_up (both (begins reading n))
  unfolding find put at IsStrictlySortedBy cu_up_placed du_placed cu_cp_placed new_ue placed down.run down.after down_models.initial up_models.initial
  shown_there = record {
    terminal = _;
    there = refl;
    itself = refl;
    attached = refl;
    shown = record { seen = record { there = refl; connected = refl; epoch = refl }; sorted = (tt, tt) };
    epoch = refl;
    radio = record { radio = nothing_there; off = λ none. refl; quiet = λ off. (refl, refl) };
  }

  pub delivers_on : NoneIsZero n → (q : Point) → Steps reading n terminal its_bearer Len12 64 (begins reading n) q
      → DeliverInOrder reading n terminal its_bearer Len12 64 (begins reading n) q
  delivers_on positive q steps =
      delivers reading n terminal its_bearer Len12 64 positive (begins reading n) q (first_run.first n) (starts reading n).0 (starts reading n).1
      (record { down = refl; up = refl }) (refined_there reading n) (first_old reading n positive) (leads_there reading n) (told_there reading n)
      (known_there reading n) (shown_there) steps
