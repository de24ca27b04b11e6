-- Steps of which what is assumed of control is asked are steps of `whole_runs`: what it asks of packets and reports is so.
use Rattle.std.proofs.Common.{◌≡◌, ℕ, Some, sym, subst, ◌∙◌}
use Rattle.gnb_types.specs.declared.names.NodeId.TheVariants.{Du}
use Rattle.gnb_types.specs.declared.names.SnBits.{SnBits}
use Rattle.gnb_types.specs.declared.names.UeId.{UeId}
use Rattle.gnb_types.specs.declared.names.BearerId.{BearerId}
use Rattle.unit_defs.specs.CuUpRecords.{DownlinkTunnel}
use Rattle.message_types.specs.declared.rrc.Token.{Token}
use Rattle.unit_defs.specs.Ways.{Pdu, Input, radio_input}
use Rattle.unit_defs.specs.Ue.{UeNode}
use Rattle.run_defs.specs.Units.{du_of}
use Rattle.run_defs.specs.Steps.{epoch_on_air}
use Rattle.run_defs.specs.Runs.{Reading, plain_world, plain_way, content_of}
use Rattle.law_downlink_order.specs.path.Paths.{Frame}
use Rattle.proof_node_orders.specs.du_inputs.Changes.{change_by, takes}
use Rattle.proof_run_steps.specs.steps.Causes.{by_air}
use Rattle.proof_bearer_refinement.specs.run_bearers.Bearers.{Numbering}
use Rattle.proof_node_orders.specs.terminal_inputs.Inputs.{IsShown}
use Rattle.proof_run_steps.specs.radio_steps.Radios.{on_air}
use Rattle.proof_bearer_refinement.specs.uplink_radio.Radio.{up_key, IsAtTerminal}
use Rattle.proof_bearer_refinement.specs.downlink_radio.Down.{down_key, IsDown}
use Rattle.proof_bearer_refinement.specs.downlink_radio.Received.{IsKept, AssumedReceived, AssumedRest}
use Rattle.bearer_defs.specs.uplink_defs.Models as up_models
use Rattle.law_handover_delivers.specs.down_report_frames.Statuses.{UpCameAbout}
use Rattle.law_handover_delivers.proofs.down_report_frames.Carried.{nothing_came}
use Rattle.law_handover_delivers.proofs.down_reports_elsewhere.Received.{rest_assumed, taken_assumed}
use Rattle.law_handover_delivers.specs.down_report_runs.Steps.{ReportsDownAreTrueAt, AssumesStatuses}
use Rattle.law_handover_delivers.proofs.down_report_runs.Runs.{one_step as report_step}
use Rattle.proof_bearer_refinement.proofs.downlink_radio.Terminals.{assumes_rest}
use Rattle.proof_run_steps.specs.law_run_links.Own.{HoldTheirOwn}
use Rattle.proof_run_steps.specs.teids.Given.{GiveOnce}
use Rattle.proof_bearer_refinement.proofs.ue_receives.Steps.{first_there}
use Rattle.proof_bearer_refinement.specs.runs.Steps.{Point, IsRefined, StaysInFrame}
use Rattle.proof_bearer_refinement.specs.runs.Fair.{IsFair}
use Rattle.law_handover_delivers.proofs.unused_uplinks.Runs.{starts_fresh}
use Rattle.law_handover_delivers.specs.assumptions.WellLinked.{IsOld}
use Rattle.law_handover_delivers.specs.assumed_runs.Assuming.{NoneIsZero}
use Rattle.law_handover_delivers.proofs.assumed_runs.Runs.{first_well_linked}
use Rattle.law_handover_delivers.specs.initial_runs.First.{AreInitial, DeliverInOrder}
use Rattle.law_handover_delivers.specs.core_path.Paths.{LeadsAt}
use Rattle.law_handover_delivers.specs.report_runs.Steps.{ReportsAreTrueAt, IsKnownAt}
use Rattle.law_handover_delivers.proofs.report_runs.Runs.{first_about}
use Rattle.law_handover_delivers.specs.whole_runs.Whole as whole
use Rattle.law_handover_delivers.specs.whole_runs.Whole.{both, IsWhole, UeActs}
use Rattle.law_handover_delivers.proofs.whole_runs.Runs.{one_step as whole_step, delivers as whole_delivers}
use Rattle.law_handover_delivers.specs.downlink_path_steps.Way.{IsOnDownlinkPath}
use Rattle.law_handover_delivers.proofs.downlink_path_steps.Frames.{IsNoItem, never}
use Rattle.law_handover_delivers.proofs.downlink_path_steps.Others.{cu_cp_way, other_way, offer_way, message_way, octets_way, set_up_way, loses_way, lands_way}
use Rattle.law_handover_delivers.proofs.downlink_path_steps.Dus.{du_way}
use Rattle.law_handover_delivers.proofs.downlink_path_steps.Terminals.{terminal_way}
use Rattle.law_handover_delivers.proofs.downlink_path_steps.Ups.{cu_up_way}
use Rattle.law_handover_delivers.specs.guarded_runs.Runs.{IsCarried, TerminalActs, AssumesDownlinkPath, Step, the_terminal, all_else, Steps, not_yet, further}

module _ (reading : Reading) (n : Numbering) (ue : UeId) (bearer : BearerId) (sn : SnBits) (quota : ℕ) where
  abbrev Whole : Point → Type 0
  Whole p = IsWhole reading n ue bearer sn quota p

  abbrev WholeStep : Point → Point → Type 0
  WholeStep p q = whole.Step reading n ue bearer sn quota p q

  module _ (p q : Point) (fair : IsFair p.state) (fair_then : IsFair q.state) (comes : GiveOnce p.state.units q.state.units) (all : Whole p)
      (way : IsOnDownlinkPath n ue bearer p) (told : ReportsDownAreTrueAt reading n ue bearer sn quota p) where
    kept : IsKept sn quota p.down
    kept = record { first = all.came.first; teid = all.came.teid; orders = all.came.orders; kept = all.came.kept; is = all.came.is }

    own : HoldTheirOwn p.state
    own = fair.sound.radios

    -- ---- the terminal

    module _ (a : TerminalActs reading n ue bearer sn quota p q) where
      same_terminal : all.shown.terminal ≡ a.terminal
      same_terminal = let both_are : Some all.shown.terminal ≡ Some a.terminal = sym all.shown.there ∙ a.there in cc

      abbrev its_refinement : IsAtTerminal reading ue bearer p.state (both p)
      its_refinement = record {
        terminal = a.terminal;
        there = a.there;
        itself = subst (λ (u : UeNode). u.plan.ue ≡ ue) same_terminal all.shown.itself;
        attached = all.shown.attached;
        shown = subst (λ (u : UeNode). IsShown u bearer (both p)) same_terminal all.shown.shown;
        epoch = subst (λ (u : UeNode). (on_air p.state (up_key ue bearer)).epoch ≡ epoch_on_air (plain_world reading) (Some u)) same_terminal all.shown.epoch;
        radio = all.shown.radio;
      }

      -- a report that it takes is true, as it stood there
      rest : AssumedRest a.terminal (both p) bearer a.to a.input
      rest =
          rest_assumed a.terminal (both p) bearer a.to a.input
          (taken_assumed reading a.event p.state ue bearer a.terminal (both p) a.cause a.input fair a.acts.node a.acts.given a.acts.stands told) a.assumed

      assumes : AssumedReceived a.terminal (both p) bearer a.to a.input
      assumes =
          assumes_rest reading a.event p.state q.state ue bearer (both p) its_refinement sn quota kept way.down a.some a.left a.cause a.input a.outputs a.acts own a.to rest

      as_assumed : UeActs reading n ue bearer sn quota p q
      as_assumed = record {
        terminal = a.terminal;
        there = a.there;
        some = a.some;
        event = a.event;
        cause = a.cause;
        input = a.input;
        outputs = a.outputs;
        left = a.left;
        to = a.to;
        acts = a.acts;
        acted = a.acted;
        assumed = assumes;
        down = a.down;
        up = a.up;
      }

      there_then : StaysInFrame reading n ue bearer sn quota p q × IsAtTerminal reading ue bearer q.state (both q)
          × IsDown (on_air q.state (down_key ue bearer)) q.down
      there_then =
          first_there reading n ue bearer sn quota p q a.event its_refinement a.left a.cause a.outputs a.to fair kept a.input a.acts a.acted way.down a.some rest
          a.down a.up

      terminal_on : IsOnDownlinkPath n ue bearer q
      terminal_on =
          terminal_way reading n ue bearer sn quota p q fair comes way all.refinements all.came a.event its_refinement a.left a.cause a.input a.outputs a.to a.acts a.acted
          assumes a.down there_then.0 there_then.1 there_then.2

    -- ---- so each is a step of `whole_runs`, and keeps the way

    as_whole : Step reading n ue bearer sn quota p q → WholeStep p q
    as_whole (the_terminal a) = whole.the_terminal (as_assumed a)
    as_whole (all_else step way statuses) = step

    its_statuses : (step : Step reading n ue bearer sn quota p q) → AssumesStatuses reading n ue bearer sn quota p q (as_whole step)
    unfolding as_whole
    its_statuses (the_terminal a) = tt
    its_statuses (all_else step way statuses) = statuses

    else_on : (step : WholeStep p q) → AssumesDownlinkPath reading n ue bearer sn quota p q step → IsOnDownlinkPath n ue bearer q
    else_on (whole.a_cu_up a) assumes =
        cu_up_way reading n ue bearer sn quota p q fair fair_then comes way all.refinements all.well_linked all.came all.told a assumes
    else_on (whole.a_du a) assumes =
        du_way reading n ue bearer p q fair comes way a.gnb a.number a.event a.cause a.input a.outputs a.left a.acts a.acted assumes a.down
    else_on (whole.its_home a) assumes =
        du_way reading n ue bearer p q fair comes way a.gnb a.number a.event (by_air (up_key ue bearer) (Du a.gnb a.number) a.item) a.input a.outputs
        a.left a.acts a.acted (λ home f there is connected. absurd (none a.input a.acts.given f is)) a.down
      where
        none : (input : Input Token Pdu) → Some (radio_input a.item.key.ue a.item.key.bearer a.item.key.dir a.item.content.says (content_of a.item.content.says)) ≡ Some input
            → (f : Frame) → change_by plain_way ue bearer (du_of p.state.units a.gnb a.number) input ≡ takes f → ⊥
        none input given f is =
            let same : radio_input a.item.key.ue a.item.key.bearer a.item.key.dir a.item.content.says (content_of a.item.content.says) ≡ input = cc in
            never ue bearer (du_of p.state.units a.gnb a.number) input
            (subst (λ (i : Input Token Pdu). IsNoItem ue bearer (du_of p.state.units a.gnb a.number) i) same tt) f is
    else_on (whole.an_offer a) assumes = offer_way reading n ue bearer sn quota p q fair comes way a
    else_on (whole.a_message a) assumes = message_way reading n ue bearer sn quota p q fair comes way a
    else_on (whole.the_terminal a) assumes = absurd assumes
    else_on (whole.a_cu_cp a) assumes = cu_cp_way reading n ue bearer sn quota p q fair comes way a
    else_on (whole.another_terminal a) assumes = other_way reading n ue bearer sn quota p q fair comes way a
    else_on (whole.a_set_up a) assumes = set_up_way reading n ue bearer sn quota p q fair comes way a fair_then
    else_on (whole.octets a) assumes = octets_way reading n ue bearer sn quota p q fair comes way a
    else_on (whole.a_loss a) assumes = loses_way reading n ue bearer sn quota p q fair comes way a
    else_on (whole.nothing_else a) assumes = lands_way reading n ue bearer sn quota p q fair comes way a

    on_then : Step reading n ue bearer sn quota p q → IsOnDownlinkPath n ue bearer q
    on_then (the_terminal a) = terminal_on a
    on_then (all_else step way statuses) = else_on step way

  -- ---- a step, and steps one after another

  module _ (positive : NoneIsZero n) where
    abbrev Carried : Point → Type 0
    Carried p = IsCarried reading n ue bearer sn quota p

    pub one_step : (p q : Point) → IsFair p.state → IsFair q.state → GiveOnce p.state.units q.state.units → Carried p
        → Step reading n ue bearer sn quota p q → WholeStep p q × Carried q
    one_step p q fair fair_then comes carried step =
        let its : WholeStep p q = as_whole p q fair fair_then comes carried.all carried.way carried.told step in
        let next = whole_step reading n ue bearer sn quota positive p q fair fair_then comes carried.all its in
        let told = report_step reading n ue bearer sn quota positive p q fair fair_then comes carried.all carried.came carried.told
        (as_whole p q fair fair_then comes carried.all carried.way carried.told step)
        (its_statuses p q fair fair_then comes carried.all carried.way carried.told step) in
        (its, record { all = next.1; way = on_then p q fair fair_then comes carried.all carried.way carried.told step; came = told.0; told = told.1 })

    pub all_steps : (p q : Point) → Carried p → Steps reading n ue bearer sn quota p q → whole.Steps reading n ue bearer sn quota p q × Carried q
    all_steps p q carried (not_yet x) = (whole.not_yet x, carried)
    all_steps p q carried (further x y z earlier before after comes step) =
        let first = all_steps x y carried earlier in
        let one = one_step y z before after comes first.1 step in
        (whole.further x y z first.0 before after comes one.0, one.1)

    pub delivers : (p q : Point) (first teid : ℕ) (d : DownlinkTunnel) → AreInitial first teid d p → IsRefined reading n ue bearer sn quota p
        → IsOld n ue bearer p.state.units first → LeadsAt reading n ue bearer sn quota p → ReportsAreTrueAt reading n ue bearer sn quota p
        → IsKnownAt reading n ue bearer sn quota p → IsAtTerminal reading ue bearer p.state (both p) → IsOnDownlinkPath n ue bearer p
        → ReportsDownAreTrueAt reading n ue bearer sn quota p → Steps reading n ue bearer sn quota p q → DeliverInOrder reading n ue bearer sn quota p q
    delivers p q first teid d are refinements old leads told known shown way down_told steps =
        whole_delivers reading n ue bearer sn quota positive p q first teid d are refinements old leads told known shown
        (all_steps p q (record {
          all = record {
            refinements = refinements;
            fresh = starts_fresh n p.state p.up first teid are.up;
            well_linked = first_well_linked reading n ue bearer sn quota positive first teid d p are refinements old;
            came = first_about sn quota p first teid d are;
            leads = leads;
            told = told;
            known = known;
            shown = shown;
          };
          way = way;
          came = subst (λ (u : up_models.Model). UpCameAbout u) (sym are.up) (nothing_came first teid);
          told = down_told;
        }) steps).0
