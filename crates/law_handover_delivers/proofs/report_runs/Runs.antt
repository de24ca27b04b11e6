-- Steps of a run, one after another, keep reports true, and so are steps of `core_path`.
use Rattle.std.proofs.Common.{◌≡◌, ◌==◌, ◌≤◌, ℕ, Bool, true, false, List, [], ◌∷◌, map, None, refl, sym, ap, subst, arith}
use Rattle.std.specs.Prelude.{if◌then◌else◌}
use Rattle.gnb_types.specs.declared.names.NodeId.{NodeId}
use Rattle.gnb_types.specs.declared.names.NodeId.TheVariants.{CuCp, CuUp, Du, Core}
use Rattle.gnb_types.specs.declared.names.Dir.TheVariants.{Dl, Ul}
use Rattle.gnb_types.specs.declared.keys.EntityKey.{EntityKey}
use Rattle.gnb_types.specs.declared.names.SnBits.{SnBits}
use Rattle.gnb_types.specs.declared.names.SnBits.TheVariants.{Len12}
use Rattle.gnb_types.specs.declared.names.UeId.{UeId}
use Rattle.gnb_types.specs.declared.names.BearerId.{BearerId}
use Rattle.unit_defs.specs.Ways.{Pdu}
use Rattle.unit_defs.specs.CuUpRecords.{DownlinkTunnel}
use Rattle.tables.specs.Tables.{at, find}
use Rattle.run_defs.specs.Units.{with_cu_up, with_du, with_ue}
use Rattle.run_defs.specs.Written.{written_put}
use Rattle.run_defs.specs.States.{new_state, radio_of, sn_of}
use Rattle.run_defs.specs.Runs.{Reading, plain_way}
use Rattle.proof_run_steps.specs.steps.Causes.{node_of}
use Rattle.bearer_defs.specs.chain_defs.Models as down_models
use Rattle.bearer_defs.specs.chain_defs.Orders as down
use Rattle.bearer_defs.specs.chain_defs.Assumptions as down_assumptions
use Rattle.proof_cu_up_orders.specs.bearer_orders.Happenings.{Happening, Contexts, context_after}
use Rattle.proof_cu_up_orders.specs.bearer_orders.Down as downs
use Rattle.proof_bearer_refinement.specs.run_bearers.Things.{PlainUnits}
use Rattle.proof_bearer_refinement.specs.run_bearers.Bearers.{Numbering, contexts_of}
use Rattle.proof_bearer_refinement.specs.refinement_facts.Refinements.{RunState}
use Rattle.proof_bearer_refinement.specs.refinement_facts.Asked.{down_after}
use Rattle.proof_bearer_refinement.specs.du_puts.Worked.{terminal, bearer as its_bearer, plan}
use Rattle.proof_bearer_refinement.specs.runs.Steps.{Point, IsRefined}
use Rattle.proof_bearer_refinement.proofs.runs.Fair.{fair_sound}
use Rattle.proof_bearer_refinement.specs.initial.First as first_run
use Rattle.proof_bearer_refinement.proofs.initial.Start.{starts, refined as refined_there}
use Rattle.law_handover_delivers.specs.initial_runs.First.{AreInitial, DeliverInOrder}
use Rattle.law_handover_delivers.proofs.initial_runs.Runs.{begins}
use Rattle.law_handover_delivers.proofs.unused_uplinks.Runs.{starts_fresh}
use Rattle.law_handover_delivers.specs.assumptions.WellLinked.{IsOld}
use Rattle.law_handover_delivers.specs.assumptions.Assumed.{final_asks}
use Rattle.law_handover_delivers.specs.assumed_runs.Assuming.{NoneIsZero}
use Rattle.law_handover_delivers.proofs.assumed_runs.Runs.{first_well_linked, first_old}
use Rattle.law_handover_delivers.specs.core_path.Paths as path
use Rattle.law_handover_delivers.specs.core_path.Paths.{CameAbout, LeadsAt}
use Rattle.law_handover_delivers.proofs.core_path.Runs.{IsAlong, one_step as path_step, leads_there, delivers as path_delivers}
use Rattle.proof_bearer_refinement.specs.frame_downlink_radio.Nodes.{HasNoRadio}
use Rattle.proof_bearer_refinement.specs.downlink_radio.Down.{down_key}
use Rattle.proof_bearer_refinement.specs.downlink_radio.Received.{IsKept}
use Rattle.proof_bearer_refinement.specs.carried_was_received.Known.{AreKnown, Receives}
use Rattle.proof_bearer_refinement.specs.runs.Fair.{IsFair}
use Rattle.proof_bearer_refinement.proofs.carried_was_received.Receives.{taken_known}
use Rattle.proof_bearer_refinement.proofs.carried_was_received.Steps.{known_later, silent_known, known_then, known_put}
use Rattle.law_handover_delivers.specs.report_links.Reports.{ReportsAreTrue}
use Rattle.law_handover_delivers.proofs.report_links.Airs.{told_first_lost, told_alike, told_later, told_at_first}
use Rattle.law_handover_delivers.proofs.report_terminals.Steps.{all_grow, terminal_keeps}
use Rattle.law_handover_delivers.proofs.reports_elsewhere.Quiet.{quiet_keeps}
use Rattle.law_handover_delivers.proofs.reports_elsewhere.Dus.{du_keeps}
use Rattle.law_handover_delivers.proofs.reports_elsewhere.Cores.{message_keeps, offer_keeps}
use Rattle.law_handover_delivers.proofs.reports_at_cu_up.Assumed.{all_assumed}
use Rattle.law_handover_delivers.specs.report_runs.Steps.{ReportsAreTrueAt, IsKnownAt, TerminalActs, Makes, the_terminal, a_cu_cp, another_terminal, a_set_up, the_core_reads, a_loss, nothing_else, Step, a_cu_up, a_du, an_offer, a_message, all_else, Steps, not_yet, further}
use Rattle.law_handover_delivers.proofs.report_runs.Rest.{set_up_told, octets_told, other_told}
use Rattle.law_handover_delivers.proofs.report_runs.Knows.{unheard, message_knows, offer_knows}

-- ---- the initial models came about, with the switch by which the first context has its downlink

number_same : (a : ℕ) → (a == a) ≡ true
number_same a = grind arith

pub first_about : (sn : SnBits) (quota : ℕ) (p : Point) (first teid : ℕ) (d : DownlinkTunnel) → AreInitial first teid d p → CameAbout sn quota p.down
unfolding down_assumptions.AreKept down_assumptions.IsReady down_assumptions.IsAssumed down_models.initial
first_about sn quota p first teid d are = record {
  first = first;
  teid = teid;
  orders = down.switches first d 0 ∷ [];
  is = are.down;
  kept = (
    ap (λ (t : Bool). (if t then down_models.new_member false teid else down_models.no_member).is_there) (number_same first),
    (refl, omega arith),
    tt,
  );
}

-- ---- no step takes back what was received

at_most : (a : ℕ) → a ≤ a
at_most a = omega arith

through : (a b c : ℕ) → a ≤ b → b ≤ c → a ≤ c
through a b c low high = omega (arith, low, high)

module _ (n : Numbering) (ue : UeId) (bearer : BearerId) (units : PlainUnits) (sn : SnBits) (quota : ℕ) where
  after_grows : (d : down_models.Model) (cs : Contexts) (hs : List (Happening Pdu))
      → d.terminal.deliv ≤ (down_after n ue bearer units sn quota d cs hs).terminal.deliv
  after_grows d cs [] = at_most d.terminal.deliv
  after_grows d cs (h ∷ hs) =
      let one : down_models.Model = down.run d (downs.orders_by cs h) in
      let after : Contexts = context_after plain_way ue bearer cs h in
      through d.terminal.deliv one.terminal.deliv (down_after n ue bearer units sn quota one after hs).terminal.deliv
      (all_grow d (downs.orders_by cs h)) (after_grows one after hs)

module _ (reading : Reading) (n : Numbering) (ue : UeId) (bearer : BearerId) (sn : SnBits) (quota : ℕ) where
  abbrev Told : Point → Type 0
  Told p = ReportsAreTrueAt reading n ue bearer sn quota p

  abbrev Known : Point → Type 0
  Known p = IsKnownAt reading n ue bearer sn quota p

  -- ---- a step

  module _ (p q : Point) (fair : IsFair p.state) (came : CameAbout sn quota p.down) (told : Told p) (known : Known p) where
    abbrev deliv : ℕ
    deliv = p.down.terminal.deliv

    -- what stands after the step reports only what was received before it
    abbrev Left : Type 0
    Left = ReportsAreTrue ue bearer deliv q.state

    abbrev Grows : down_models.Model → Type 0
    Grows d = deliv ≤ d.terminal.deliv

    kept : IsKept sn quota p.down
    kept = record { first = came.first; teid = came.teid; orders = came.orders; kept = came.kept; is = came.is }

    as_path : Step reading n ue bearer sn quota p q → path.Step reading n ue bearer sn quota p q
    as_path (a_cu_up a) = path.a_cu_up (record {
      gnb = a.gnb;
      number = a.number;
      cause = a.cause;
      input = a.input;
      outputs = a.outputs;
      left = a.left;
      beside = a.beside;
      acts = a.acts;
      assumes = all_assumed reading n ue bearer sn quota p.state q.state a.gnb a.number a.cause a.input a.outputs a.left a.acts
          (fair_sound p.state p.state fair fair).own a.beside p.down p.up told a.assumes;
      down = a.down;
      up = a.up;
    })
    as_path (a_du a) = path.a_du a.step
    as_path (an_offer a) = path.an_offer a
    as_path (a_message a) = path.a_message a
    as_path (all_else a) = path.all_else a.stays

    grows : path.Step reading n ue bearer sn quota p q → Grows q.down
    grows (path.a_cu_up a) =
        subst Grows (sym a.down) (after_grows n ue bearer p.state.units sn quota p.down (contexts_of n ue bearer p.state.units)
        (final_asks n ue bearer p.state a.gnb a.number a.cause a.input a.beside))
    grows (path.a_du a) = subst Grows (sym a.down) (at_most deliv)
    grows (path.an_offer a) = subst Grows (sym a.down) (all_grow p.down _)
    grows (path.a_message a) = subst Grows (sym a.down) (all_grow p.down _)
    grows (path.all_else a) = subst Grows (sym a.stays.down) (all_grow p.down a.stays.radio)

    made : Makes reading n ue bearer sn quota p q → Left
    made (the_terminal a) =
        terminal_keeps reading a.event p.state q.state ue bearer (record { up = p.up; down = p.down }) a.refinement sn quota kept a.left a.cause a.input a.outputs
        a.acts told
    made (a_cu_cp a) =
        quiet_keeps reading ue bearer deliv p.state q.state a.event a.cause a.outputs a.units a.lines fair a.acted
        (subst (λ (node : NodeId). HasNoRadio node) (sym a.node) tt) a.goes_on told
    made (another_terminal a) = other_told ue bearer deliv reading p.state q.state fair a told
    made (a_set_up its is) = subst (λ (t : RunState). ReportsAreTrue ue bearer deliv t) (sym is) (set_up_told ue bearer deliv its p.state told)
    made (the_core_reads a) = octets_told ue bearer deliv reading p.state q.state a told
    made (a_loss a) = told_first_lost ue bearer deliv p.state q.state a.end a.item a.rest a.stands a.tunnels (a.radios Ul) told
    made (nothing_else a) = told_alike ue bearer deliv p.state q.state a.tunnels (a.radios Ul) told

    leaves : Step reading n ue bearer sn quota p q → Left
    leaves (a_cu_up a) =
        quiet_keeps reading ue bearer deliv p.state q.state a.event a.cause (map (written_put (sn_of p.state)) a.outputs)
        (with_cu_up p.state.units a.gnb a.number a.left) a.acts.lines fair a.acted
        (subst (λ (node : NodeId). HasNoRadio node) (sym a.acts.node) tt) a.acts.goes_on told
    leaves (a_du a) =
        du_keeps reading a.event p.state q.state ue bearer deliv a.gnb a.number a.cause a.input a.outputs a.left fair
        a.acted a.acts known told
    leaves (an_offer a) = offer_keeps reading p.state q.state ue bearer deliv a.who a.which a.packet a.path a.offers told
    leaves (a_message a) = message_keeps reading p.state q.state ue bearer deliv a.number a.control_message a.outputs a.core fair a.takes told
    leaves (all_else a) = made a.makes

    -- ---- what was carried down and isn't confirmed was received, now that so much was received

    module _ (more : Grows q.down) where
      abbrev later : ℕ
      later = q.down.terminal.deliv

      abbrev key : EntityKey
      key = down_key ue bearer

      before : AreKnown (radio_of p.state key) later
      before = known_later (radio_of p.state key) deliv later more known

      receives : (a : TerminalActs reading n ue bearer sn quota p q) → Receives key later a.cause
      receives a =
          subst (λ (d : down_models.Model). Receives key d.terminal.deliv a.cause) (sym a.down)
          (taken_known a.refinement.terminal (record { up = p.up; down = p.down }) bearer a.to sn quota kept a.some reading a.event p.state
          fair.sound.radios ue a.input a.cause a.acts.given
          a.acts.stands a.assumed)

      made_knows : Makes reading n ue bearer sn quota p q → Known q
      made_knows (the_terminal a) =
          known_then later key reading a.event p.state q.state a.cause (map (written_put (sn_of p.state)) a.outputs) (with_ue p.state.units ue a.left)
          a.acts.lines a.acts.stands (receives a) a.acts.goes_on before
      made_knows (a_cu_cp a) =
          known_then later key reading a.event p.state q.state a.cause a.outputs a.units a.lines a.acted.stands
          (unheard ue bearer later a.cause (CuCp a.gnb) a.node tt) a.goes_on before
      made_knows (another_terminal a) =
          known_then later key reading a.event p.state q.state a.cause a.outputs a.units a.beside.lines a.acted.stands
          (unheard ue bearer later a.cause (node_of a.cause) refl a.beside.other) a.beside.goes_on before
      made_knows (a_set_up its is) = subst (λ (t : RunState). AreKnown (radio_of t key) later) (sym is) before
      made_knows (the_core_reads a) =
          known_put later key reading (record p.state { core = a.core }) q.state Core None a.outputs a.lines a.goes_on before
      made_knows (a_loss a) = subst (λ r. AreKnown r later) (sym (ap (λ x. x.radio) (a.radios Dl))) before
      made_knows (nothing_else a) = subst (λ r. AreKnown r later) (sym (ap (λ x. x.radio) (a.radios Dl))) before

      knows : Step reading n ue bearer sn quota p q → Known q
      knows (a_cu_up a) =
          known_then later key reading a.event p.state q.state a.cause (map (written_put (sn_of p.state)) a.outputs)
          (with_cu_up p.state.units a.gnb a.number a.left) a.acts.lines a.acted.stands
          (unheard ue bearer later a.cause (CuUp a.gnb a.number) a.acts.node tt) a.acts.goes_on before
      knows (a_du a) =
          known_then later key reading a.event p.state q.state a.cause (map (written_put (sn_of p.state)) a.outputs)
          (with_du p.state.units a.gnb a.number a.left) a.acts.lines a.acted.stands
          (unheard ue bearer later a.cause (Du a.gnb a.number) a.acts.node tt) a.acts.goes_on before
      knows (an_offer a) = offer_knows ue bearer later reading p.state q.state a.who a.which a.packet a.path a.offers before
      knows (a_message a) = message_knows ue bearer later reading p.state q.state a.number a.control_message a.outputs a.core a.takes before
      knows (all_else a) = made_knows a.makes

    pub one_step : Step reading n ue bearer sn quota p q → path.Step reading n ue bearer sn quota p q × Told q × Known q
    one_step step =
        let its : path.Step reading n ue bearer sn quota p q = as_path step in
        (its, told_later ue bearer deliv q.down.terminal.deliv q.state (grows its) (leaves step), knows (grows its) step)

  -- ---- steps, one after another

  module _ (positive : NoneIsZero n) where
    abbrev Along : Point → Type 0
    Along p = IsAlong reading n ue bearer sn quota positive p

    pub all_steps : (p q : Point) → Along p → Told p → Known p → Steps reading n ue bearer sn quota p q
        → path.Steps reading n ue bearer sn quota p q × Along q × Told q × Known q
    all_steps p q along told known (not_yet x) = (path.not_yet x, along, told, known)
    all_steps p q along told known (further x y z earlier before after comes step) =
        let first = all_steps x y along told known earlier in
        let one = one_step y z before first.1.came first.2 first.3 step in
        let next = path_step reading n ue bearer sn quota positive y z before after comes first.1 one.0 in
        (path.further x y z first.0 before after comes one.0, next.1, one.1, one.2)

    pub delivers : (p q : Point) (first teid : ℕ) (d : DownlinkTunnel) → AreInitial first teid d p → IsRefined reading n ue bearer sn quota p
        → IsOld n ue bearer p.state.units first → LeadsAt reading n ue bearer sn quota p → Told p → Known p → Steps reading n ue bearer sn quota p q
        → DeliverInOrder reading n ue bearer sn quota p q
    delivers p q first teid d are refinements old leads told known steps =
        path_delivers reading n ue bearer sn quota positive p q first teid d are refinements old leads
        (all_steps p q (record {
          refinements = refinements;
          fresh = starts_fresh n p.state p.up first teid are.up;
          well_linked = first_well_linked reading n ue bearer sn quota positive first teid d p are refinements old;
          came = first_about sn quota p first teid d are;
          leads = leads;
        }) told known steps).0

-- ---- from the first state of a run on

module _ (reading : Reading) (n : Numbering) where
  pub told_there : ReportsAreTrueAt reading n terminal its_bearer Len12 64 (begins reading n)
  told_there =
      let deliv : ℕ = (begins reading n).down.terminal.deliv in
      set_up_told terminal its_bearer deliv plan new_state (told_at_first terminal its_bearer deliv)

  pub known_there : IsKnownAt reading n terminal its_bearer Len12 64 (begins reading n)
  unfolding at find
  known_there = silent_known (begins reading n).down.terminal.deliv

  pub delivers_on : NoneIsZero n → (q : Point) → Steps reading n terminal its_bearer Len12 64 (begins reading n) q
      → DeliverInOrder reading n terminal its_bearer Len12 64 (begins reading n) q
  delivers_on positive q steps =
      delivers reading n terminal its_bearer Len12 64 positive (begins reading n) q (first_run.first n) (starts reading n).0 (starts reading n).1
      (record { down = refl; up = refl }) (refined_there reading n) (first_old reading n positive) (leads_there reading n) told_there known_there steps
