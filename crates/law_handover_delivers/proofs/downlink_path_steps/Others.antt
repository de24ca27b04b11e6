-- Steps of the core, of CU-CPs and other terminals, set-ups, and losses, beside the way of a bearer's packets.
use Rattle.std.proofs.Common.{inl, ◌≡◌, ℕ, Bool, true, false, List, [], ◌∷◌, map, Option, Some, None, refl, sym, ap, subst, ◌∙◌}
use Rattle.std.specs.Prelude.{if◌then◌else◌, unwrap_or, ◌*◌}
use Rattle.std.specs.List.{AllByRecursion}
use Rattle.gnb_types.specs.declared.names.Gnb.{Gnb}
use Rattle.gnb_types.specs.declared.names.Gnb.TheVariants.{A, B}
use Rattle.gnb_types.specs.declared.names.NodeId.{NodeId}
use Rattle.gnb_types.specs.declared.names.NodeId.TheVariants.{CuCp, CuUp as up_id, Du as du_id, Core, Ue}
use Rattle.gnb_types.specs.declared.names.SnBits.{SnBits}
use Rattle.gnb_types.specs.declared.names.UeId.{UeId}
use Rattle.gnb_types.specs.declared.names.BearerId.{BearerId}
use Rattle.gnb_types.specs.declared.names.Dir.TheVariants.{Dl}
use Rattle.gnb_types.specs.declared.keys.TunnelEnd.{TunnelEnd}
use Rattle.gnb_types.specs.declared.outputs.Tag.TheVariants.{Absent}
use Rattle.gnb_types.proofs.OrderLemmas.{ue_total}
use Rattle.tables.specs.Tables.{at}
use Rattle.tables.proofs.TableLaws.{find-put-other}
use Rattle.message_types.specs.declared.rrc.Token.{Token}
use Rattle.scenario_text.specs.declared.event.Event.{Event}
use Rattle.unit_defs.specs.Ways.{Message, Pdu, Load, fresh, packet, Input, Output, gives, spent}
use Rattle.unit_defs.specs.Messages.{teid_of}
use Rattle.unit_defs.specs.CuCpRecords.{CuCpRecord}
use Rattle.unit_defs.specs.CuCp.{cu_cp_acts}
use Rattle.unit_defs.specs.Ue.{UeNode, ue_acts}
use Rattle.bearer_defs.specs.chain_defs.Models.{Model}
use Rattle.bearer_defs.specs.chain_defs.Orders as down
use Rattle.transport_defs.specs.Links.{landed}
use Rattle.run_defs.specs.Lines.{RunLine, got_message}
use Rattle.run_defs.specs.Units.{Units, cu_cp_of, with_cu_cp, cu_up_of, du_of, ue_of, with_ue}
use Rattle.run_defs.specs.Written.{Written, written_put, PlainStepped, WrittenStepped, written_step}
use Rattle.run_defs.specs.States.{Lengths, CoreStepped, core_stepped, stepped, step_spent, control_message_for, entity, goes, sn_of, ◌next◌}
use Rattle.run_defs.specs.Steps.{carried_out, check_spans, put_on_tunnel, put_out_all}
use Rattle.run_defs.specs.Conditions.{statically, tunnels_from}
use Rattle.run_defs.specs.Events.{offered}
use Rattle.run_defs.specs.Runs.{Reading, Plain, PlainGiven, plain_world, plain_way, plain_by, ue_stepped, stepped_with, input_of, core_done}
use Rattle.proof_run_steps.specs.steps.Causes.{node_of, given_of, count_of, first_of}
use Rattle.proof_run_steps.proofs.steps.Frames.{HasUnits, units_by, act_units}
use Rattle.proof_node_orders.specs.du_inputs.Changes.{model_in, model_of as du_model_of}
use Rattle.proof_bearer_refinement.specs.f1u_frames.Frames.{du_end, frames_in}
use Rattle.proof_run_steps.specs.facts.Facts.{Hold, PutsFit}
use Rattle.proof_run_steps.specs.facts.UnitFacts.{written_facts}
use Rattle.law_tunnels_are_owned.proofs.link_items.Names.{link_items}
use Rattle.law_tunnels_are_owned.proofs.link_items.Links.{items_keep}
use Rattle.proof_run_steps.proofs.facts.Plain.{plain_kept}
use Rattle.proof_bearer_refinement.proofs.runs.Fair.{puts_fit}
use Rattle.law_handover_delivers.specs.report_links.Reports.{RunPut}
use Rattle.proof_run_steps.specs.radio_steps.Radios.{on_air}
use Rattle.proof_bearer_refinement.specs.uplink_radio.Radio.{RunCause, up_key, IsFrameStep, Leaves}
use Rattle.proof_bearer_refinement.specs.downlink_radio.Down.{down_key}
use Rattle.law_terminals_are_isolated.specs.run_projections.Units.{UnitsProjection}
use Rattle.law_terminals_are_isolated.proofs.projections.Tables.{apart_ues}
use Rattle.law_terminals_are_isolated.proofs.all_steps.Statics.{from_same, static_leaves}
use Rattle.proof_bearer_refinement.proofs.frame_set_up.SetUp.{is_left as set_up_left}
use Rattle.proof_cu_up_orders.specs.context_orders.Shown.{is_bearer}
use Rattle.proof_bearer_refinement.specs.run_bearers.Things.{PlainUnits}
use Rattle.proof_bearer_refinement.specs.run_bearers.Bearers.{Numbering, contexts_of}
use Rattle.proof_run_steps.specs.tunnel_steps.Standing.{standing, after_taking}
use Rattle.proof_run_steps.specs.teids.Given.{GiveOnce}
use Rattle.proof_bearer_refinement.specs.refinement_facts.Refinements.{RunState, RunItem}
use Rattle.proof_bearer_refinement.proofs.du_puts.Stands.{takes_none, Ends, after_told, and_no_more, units_put}
use Rattle.proof_node_orders.specs.core_rows.Shown.{Places, Goal, to_first, orders_to, goal_by}
use Rattle.proof_bearer_refinement.specs.core_step.Core.{orders_offered, orders_told, places_of}
use Rattle.law_terminals_are_isolated.specs.own_steps.Own.{IsActed}
use Rattle.proof_bearer_refinement.specs.runs.Steps.{Point, LeavesBearer}
use Rattle.proof_bearer_refinement.specs.frame_cp_and_ue.Nodes.{PutsNoItem}
use Rattle.proof_bearer_refinement.proofs.frame_cp_and_ue.Rest.{bearer_is_left}
use Rattle.proof_bearer_refinement.specs.frame_other_units.Nodes.{IsNoTerminal}
use Rattle.proof_bearer_refinement.specs.runs.Fair.{IsFair}
use Rattle.proof_bearer_refinement.proofs.frame_other_units.Beside.{is_beside}
use Rattle.law_handover_delivers.specs.whole_runs.Whole.{ModelsStay, CuCpStep, OtherStep, SetsUp, CoreIsGiven, Loses, Lands}
use Rattle.law_handover_delivers.specs.core_path.Paths.{CoreOffers, CoreTakes}
use Rattle.proof_bearer_refinement.proofs.other_contexts.Orders.{Stays, stays_so, run_stays, IsElsewhere}
use Rattle.law_handover_delivers.specs.downlink_path_links.Links.{IsNoCuUp, IsNoDu, AreLeft, Waits}
use Rattle.law_handover_delivers.proofs.downlink_path_links.Tunnels.{step_from, core_from, from_left, lost_left}
use Rattle.law_handover_delivers.proofs.downlink_path_links.Homes.{du_same, dus_stay}
use Rattle.law_handover_delivers.proofs.downlink_path_links.Airs.{core_air, waits_far, stays_beside}
use Rattle.law_handover_delivers.specs.downlink_path_steps.Way.{IsOnDownlinkPath}
use Rattle.law_handover_delivers.proofs.downlink_path_steps.Beside.{Keeps, keeps_way}

-- ---- a CU-CP and a terminal answer with the same DUs

abbrev SameDus : PlainUnits → PlainUnits → Type 0
SameDus u v = v.dus ≡ u.dus

abbrev Answered : PlainUnits → PlainStepped → Type 0
Answered u (stepped outputs v) = SameDus u v
Answered u (step_spent counter) = Unit {0}

abbrev AnsweredWell : PlainUnits → WrittenStepped → Type 0
AnsweredWell u (stepped outputs v) = SameDus u v
AnsweredWell u (step_spent counter) = Unit {0}

module _ (reading : Reading) where
  with_cp_same : (u : PlainUnits) (g : Gnb) (r : CuCpRecord (Message Token) Token) → SameDus u (with_cu_cp u g r)
  with_cp_same u A r = refl
  with_cp_same u B r = refl

  by_cp : (u : PlainUnits) (g : Gnb) (a : Plain (CuCpRecord (Message Token) Token)) → Answered u (stepped_with reading (with_cu_cp u g) a)
  by_cp u g (gives outputs r) = with_cp_same u g r
  by_cp u g (spent counter) = tt

  by_ue : (u : PlainUnits) (k : ℕ) (a : Plain UeNode) → Answered u (stepped_with reading (with_ue u (record { 0 = k })) a)
  by_ue u k (gives outputs x) = refl
  by_ue u k (spent counter) = tt

  of_ue : (u : PlainUnits) (k : ℕ) (input : Input Token Pdu) (o : Option UeNode) → Answered u (ue_stepped reading u k input o)
  of_ue u k input None = refl
  of_ue u k input (Some x) = by_ue u k (ue_acts plain_way x input)

  answered : (u : PlainUnits) (node : NodeId) (given : PlainGiven) (o : Option (Input Token Pdu)) → PutsNoItem node → Answered u (plain_by reading u node given o)
  answered u node given None quiet = refl
  answered u (CuCp g) given (Some input) quiet = by_cp u g (cu_cp_acts plain_way (cu_cp_of u g) input)
  answered u (Ue k) given (Some input) quiet = of_ue u k input (ue_of u (record { 0 = k }))
  answered u (up_id g k) given (Some input) quiet = absurd quiet
  answered u (du_id g k) given (Some input) quiet = absurd quiet
  answered u Core given (Some input) quiet = absurd quiet

  written : (lengths : Lengths) (u : PlainUnits) (x : PlainStepped) → Answered u x → AnsweredWell u (written_step lengths x)
  written lengths u (stepped outputs v) p = p
  written lengths u (step_spent counter) p = tt

  same_dus : (lengths : Lengths) (u v : PlainUnits) (node : NodeId) (given : PlainGiven) (outputs : List RunPut) → PutsNoItem node
      → (plain_world reading).answer lengths u node given ≡ stepped outputs v → SameDus u v
  same_dus lengths u v node given outputs quiet is =
      subst (AnsweredWell u) is
      (written lengths u (plain_by reading u node given (input_of reading given)) (answered u node given (input_of reading given) quiet))

-- ---- which nodes these are

no_up : (node : NodeId) → PutsNoItem node → IsNoCuUp node
no_up (CuCp g) quiet = tt
no_up (Ue k) quiet = tt
no_up (up_id g k) quiet = absurd quiet
no_up (du_id g k) quiet = absurd quiet
no_up Core quiet = absurd quiet

no_du : (node : NodeId) → PutsNoItem node → IsNoDu node
no_du (CuCp g) quiet = tt
no_du (Ue k) quiet = tt
no_du (up_id g k) quiet = absurd quiet
no_du (du_id g k) quiet = absurd quiet
no_du Core quiet = absurd quiet

pub is_far : (g : Gnb) (k : ℕ) (node : NodeId) → IsNoDu node → du_id g k ≡ node → ⊥
is_far g k (CuCp h) far e = absurd cc
is_far g k (Ue h) far e = absurd cc
is_far g k (up_id h m) far e = absurd cc
is_far g k (du_id h m) far e = far
is_far g k Core far e = absurd cc

-- orders of the core are elsewhere than at any context
offered_far : (ue : UeId) (bearer : BearerId) (who : UeId) (which : BearerId) (octets : List ℕ) (y : ℕ)
    → AllByRecursion (IsElsewhere y) (orders_offered ue bearer who which octets)
offered_far ue bearer who which octets y = by (is_bearer ue bearer who which)
  where
    by : (t : Bool) → AllByRecursion (IsElsewhere y) (if t then down.offers octets ∷ [] else [])
    by true = (tt, tt)
    by false = tt

told_far : (places : Places) (goal : Option Goal) (y : ℕ) → AllByRecursion (IsElsewhere y) (orders_to places goal)
told_far places None y = tt
told_far places (Some goal) y = by goal.teids
  where
    by : (teids : List ℕ) → AllByRecursion (IsElsewhere y) (to_first places goal.up teids)
    by [] = tt
    by (teid ∷ teids) = (tt, tt)

module _ (reading : Reading) (n : Numbering) (ue : UeId) (bearer : BearerId) (sn : SnBits) (quota : ℕ) (p q : Point) (fair : IsFair p.state)
    (comes : GiveOnce p.state.units q.state.units) (way : IsOnDownlinkPath n ue bearer p) where
  abbrev Kept : Type 0
  Kept = Keeps reading n ue bearer p q fair comes way

  abbrev Way : Type 0
  Way = IsOnDownlinkPath n ue bearer q

  done : Kept → Way
  done k = keeps_way reading n ue bearer p q fair comes way k

  abbrev WaitsThen : RunState → Type 0
  WaitsThen s = Waits (on_air s (down_key ue bearer)) p.down way.down.waits (on_air p.state (down_key ue bearer)).epoch

  models_stay : ModelsStay p q → (y : ℕ) → Stays y p.down q.down
  models_stay models y = subst (λ (d : Model). Stays y p.down d) (sym models.down) (stays_so y p.down)

  alike_air : on_air q.state (down_key ue bearer) ≡ on_air p.state (down_key ue bearer) → WaitsThen q.state
  alike_air same =
      subst (λ a. Waits a p.down way.down.waits (on_air p.state (down_key ue bearer)).epoch) (sym same) (record { down = way.down; same = refl; at = refl })

  same_models : q.state.units.dus ≡ p.state.units.dus → (g : Gnb) (k : ℕ)
      → du_model_of (du_of q.state.units g k) ue bearer ≡ du_model_of (du_of p.state.units g k) ue bearer
  same_models same g k = ap (λ r. du_model_of r ue bearer) (du_same p.state.units q.state.units same g k)

  -- ---- a message lands, or is lost; an item is lost

  pub lands_way : Lands reading n ue bearer sn quota p q → Way
  lands_way a = done (record {
    contexts = ap (λ (s : RunState). contexts_of n ue bearer s.units) a.after;
    stays = models_stay a.models;
    models = same_models (ap (λ (s : RunState). s.units.dus) a.after);
    waits = alike_air (ap (λ (s : RunState). on_air s (down_key ue bearer)) a.after);
    frames = λ g k teid before items was is.
        from_left (standing p.state (du_end g k teid)) before items was (inl (sym (ap (λ (s : RunState). standing s (du_end g k teid)) a.after) ∙ is));
  })

  pub loses_way : Loses reading n ue bearer sn quota p q → Way
  loses_way a = done (record {
    contexts = ap (λ (s : RunState). contexts_of n ue bearer s.units) a.after;
    stays = models_stay a.models;
    models = same_models (ap (λ (s : RunState). s.units.dus) a.after);
    waits = alike_air (ap (λ (s : RunState). on_air s (down_key ue bearer)) a.after);
    frames = λ g k teid before items was is.
        lost_left p.state.tunnels a.end (du_end g k teid) a.item a.rest before items a.stands was
        (sym (ap (λ (s : RunState). standing s (du_end g k teid)) a.after) ∙ is);
  })

  -- ---- a CU-CP, another terminal

  module _ (event : Event) (cause : RunCause) (outputs : List RunPut) (units : Units (Message Token) Token) (lines : List (RunLine (Message Token)))
      (acted : IsActed (plain_world reading) event p.state cause outputs units) (quiet : PutsNoItem (node_of cause))
      (goes_on : carried_out (plain_world reading) (node_of cause) (count_of cause) (first_of (plain_world reading) cause) outputs units p.state
      ≡ goes lines q.state) where
    pub fit : PutsFit (written_facts link_items) (node_of cause) (count_of cause) outputs
    fit = puts_fit reading p.state event cause outputs units fair acted

    pub units_are : q.state.units ≡ units_by (plain_world reading) cause units
    units_are =
        subst (HasUnits (plain_world reading) {X = RunLine (Message Token)} (units_by (plain_world reading) cause units)) goes_on
        (act_units (plain_world reading) cause outputs units p.state)

    pub contexts_are : contexts_of n ue bearer q.state.units ≡ contexts_of n ue bearer p.state.units
    contexts_are = (bearer_is_left reading n ue bearer p.state q.state event cause outputs units lines fair acted quiet goes_on).contexts

    pub dus_are : q.state.units.dus ≡ p.state.units.dus
    dus_are =
        ap (λ (u : PlainUnits). u.dus) units_are ∙ dus_stay (plain_world reading) cause units
        ∙ same_dus reading (sn_of p.state) p.state.units units (node_of cause) (given_of cause) outputs quiet acted.answers

    pub frames_are : (g : Gnb) (k teid : ℕ) (before items : List RunItem) → standing p.state (du_end g k teid) ≡ Some before
        → standing q.state (du_end g k teid) ≡ Some items → AreLeft (frames_in before) (frames_in items)
    frames_are g k teid before items was is =
        from_left (after_taking (du_end g k teid) cause (standing p.state (du_end g k teid))) before items
        (takes_none cause (du_end g k teid) (standing p.state (du_end g k teid)) (is_far g k (node_of cause) (no_du (node_of cause) quiet)) ∙ was)
        (step_from g k teid reading cause outputs units p.state q.state lines goes_on (no_up (node_of cause) quiet) fit items is)

    quiet_way : IsFrameStep reading p.state q.state ue bearer cause outputs units → Leaves (up_key ue bearer) cause → ModelsStay p q → Way
    quiet_way beside leaves models = done (record {
      contexts = contexts_are;
      stays = models_stay models;
      models = same_models dus_are;
      waits = waits_far reading event p.state q.state ue bearer p.down cause outputs units acted.stands (stays_beside ue bearer cause beside.other leaves) beside
          (no_du (node_of cause) quiet) fit way.down;
      frames = frames_are;
    })

  pub cu_cp_way : CuCpStep reading n ue bearer sn quota p q → Way
  cu_cp_way a =
      quiet_way a.acts.event a.acts.cause a.acts.outputs a.acts.units a.acts.lines a.acts.acted (subst (λ (node : NodeId). PutsNoItem node) (sym a.acts.node) tt)
      a.acts.goes_on
      (is_beside reading ue bearer p.state q.state a.acts.event a.acts.cause a.acts.outputs a.acts.units a.acts.lines fair a.acts.acted
      (subst (λ (node : NodeId). IsNoTerminal node) (sym a.acts.node) tt) a.acts.goes_on) a.leaves a.models

  pub other_way : OtherStep reading n ue bearer sn quota p q → Way
  other_way a =
      quiet_way a.acts.event a.acts.cause a.acts.outputs a.acts.units a.acts.beside.lines a.acts.acted
      (subst (λ (node : NodeId). PutsNoItem node) (sym a.acts.node) tt) a.acts.beside.goes_on a.acts.beside a.leaves a.models

  -- ---- the core

  module _ (outputs : List RunPut) (s : RunState)
      (its_end : Ends (plain_world reading) (put_out_all (plain_world reading) Core None outputs s next check_spans) q.state)
      (fits : PutsFit (written_facts link_items) Core None outputs) (units : s.units ≡ p.state.units)
      (tunnels : (end : TunnelEnd) → standing s end ≡ standing p.state end)
      (air : on_air s (down_key ue bearer) ≡ on_air p.state (down_key ue bearer)) (stays : (y : ℕ) → Stays y p.down q.down) where
    same_units : q.state.units ≡ p.state.units
    same_units = units_put (plain_world reading) Core None outputs s q.state its_end ∙ units

    core_way : Way
    core_way = done (record {
      contexts = ap (λ (u : PlainUnits). contexts_of n ue bearer u) same_units;
      stays = stays;
      models = same_models (ap (λ (u : PlainUnits). u.dus) same_units);
      waits = alike_air (core_air reading ue bearer outputs s q.state its_end.0 its_end.1 fits ∙ air);
      frames = λ g k teid before items was is.
          from_left (standing s (du_end g k teid)) before items (tunnels (du_end g k teid) ∙ was)
          (core_from g k teid reading outputs s q.state its_end.0 its_end.1 fits items is);
    })

  holds : Hold (written_facts link_items) p.state
  holds = fair.items

  pub message_way : CoreTakes reading n ue bearer sn quota p q → Way
  message_way a =
      core_way (map (written_put (sn_of p.state)) a.outputs) (record p.state { core = a.core; bag = landed p.state.bag a.number })
      (after_told (plain_world reading) (got_message a.number a.control_message ∷ [])
      (put_out_all (plain_world reading) Core None (map (written_put (sn_of p.state)) a.outputs)
      (record p.state { core = a.core; bag = landed p.state.bag a.number }))
      q.state a.takes.lines a.takes.goes_on)
      (((plain_kept link_items items_keep reading).core_answers (sn_of p.state) p.state.core a.core (control_message_for a.control_message.from a.control_message.message)
      (map (written_put (sn_of p.state)) a.outputs) holds.core (0, tt) (ap (core_done reading (sn_of p.state) p.state.core) a.takes.answers)).1)
      refl (λ end. refl) refl
      (λ y. subst (λ (d : Model). Stays y p.down d) (sym a.down)
      (run_stays y p.down (orders_told n ue bearer p.state a.control_message)
      (told_far (places_of n ue bearer p.state.units) (goal_by ue bearer p.state.core a.control_message.from a.control_message.message) y)))

  puts_of : CoreStepped (Message Token) Token (Written (Load Pdu)) (Written Pdu) → List RunPut
  puts_of (core_stepped outputs core) = outputs

  pub octets_way : CoreIsGiven reading n ue bearer sn quota p q → Way
  unfolding puts_of
  octets_way a =
      core_way a.reads.outputs (record p.state { core = a.reads.core }) (a.reads.lines, a.reads.goes_on)
      (subst (λ (outputs : List RunPut). PutsFit (written_facts link_items) Core None outputs) (ap puts_of a.reads.answers) (tt, tt)) refl (λ end. refl) refl
      (models_stay a.models)

  module _ (a : CoreOffers reading n ue bearer sn quota p q) where
    abbrev its_outputs : List (Output (Message Token) Pdu)
    its_outputs = packet a.path.up (teid_of a.path.n3 a.which) a.who a.which Dl Absent (fresh a.packet) ∷ []

    abbrev noted : RunState
    noted = offered (plain_world reading) (entity a.who a.which Dl) p.state

    went : Ends (plain_world reading) (put_out_all (plain_world reading) Core None (map (written_put (sn_of p.state)) its_outputs) noted next check_spans) q.state
    unfolding put_out_all
    went =
        and_no_more (plain_world reading) Core None
        (put_on_tunnel (plain_world reading) (record { node = a.path.up; teid = teid_of a.path.n3 a.which })
        (record { key = entity a.who a.which Dl; count = None; content = (plain_world reading).lay_n3 (teid_of a.path.n3 a.which) a.packet }) noted)
        q.state a.offers.lines a.offers.goes_on

    pub offer_way : Way
    offer_way =
        core_way (map (written_put (sn_of p.state)) its_outputs) noted went
        ((plain_kept link_items items_keep reading).lays p.state.core a.who a.which a.packet a.path holds.core a.offers.there, tt)
        refl (λ end. refl) refl
        (λ y. subst (λ (d : Model). Stays y p.down d) (sym a.down)
        (run_stays y p.down (orders_offered ue bearer a.who a.which a.packet) (offered_far ue bearer a.who a.which a.packet y)))

  -- ---- another terminal is set up without messages

  module _ (a : SetsUp reading n ue bearer sn quota p q) (fair_then : IsFair q.state) where
    abbrev t : RunState
    t = statically a.plan p.state

    left : LeavesBearer n ue bearer p.state t
    left =
        set_up_left reading n ue bearer p.state a.plan fair (subst (λ (s : RunState). IsFair s) a.after fair_then) a.free a.teids a.apart

    its_model : (g : Gnb) (k : ℕ) → du_model_of (du_of t.units g k) ue bearer ≡ du_model_of (du_of p.state.units g k) ue bearer
    its_model g k =
        ap (λ (z : UnitsProjection (Message Token) Token). model_in bearer (z.dus g k).context)
        ((static_leaves a.plan p.state a.free a.teids fair.sound.owned).units ue a.apart)

    lists_same : (end : TunnelEnd) → unwrap_or (standing t end) [] ≡ unwrap_or (standing p.state end) []
    unfolding at
    lists_same end =
        from_same (du_id a.plan.gnb a.plan.du) (du_of p.state.units a.plan.gnb a.plan.du).next_teid a.plan.bearers
        (tunnels_from (up_id a.plan.gnb a.plan.up) (cu_up_of p.state.units a.plan.gnb a.plan.up).next_teid (2 * a.plan.bearers) p.state.tunnels) end
        ∙ from_same (up_id a.plan.gnb a.plan.up) (cu_up_of p.state.units a.plan.gnb a.plan.up).next_teid (2 * a.plan.bearers) p.state.tunnels end

    same_items : (end : TunnelEnd) (before items : List RunItem) → standing p.state end ≡ Some before → standing t end ≡ Some items → items ≡ before
    same_items end before items was is =
        ap (λ (o : Option (List RunItem)). unwrap_or o []) (sym is) ∙ lists_same end ∙ ap (λ (o : Option (List RunItem)). unwrap_or o []) was

    pub set_up_way : Way
    set_up_way = done (record {
      contexts = ap (λ (s : RunState). contexts_of n ue bearer s.units) a.after ∙ left.contexts;
      stays = models_stay a.models;
      models = λ g k. ap (λ (s : RunState). du_model_of (du_of s.units g k) ue bearer) a.after ∙ its_model g k;
      waits = alike_air (ap (λ (s : RunState). on_air s (down_key ue bearer)) a.after
          ∙ ap (λ epoch. record { epoch = epoch; radio = (on_air p.state (down_key ue bearer)).radio })
          (find-put-other ue_total p.state.connected a.plan.ue 1 ue (apart_ues ue a.plan.ue a.apart)));
      frames = λ g k teid before items was is.
          from_left (standing p.state (du_end g k teid)) before items was
          (inl (was ∙ ap (λ (z : List RunItem). Some z)
          (sym (same_items (du_end g k teid) before items was (sym (ap (λ (s : RunState). standing s (du_end g k teid)) a.after) ∙ is)))));
    })
