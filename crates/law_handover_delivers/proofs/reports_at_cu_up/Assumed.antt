-- An item that a CU-UP takes stands on a tunnel of the bearer: so what is assumed of it follows of what it reports.
use Rattle.std.proofs.Common.{inl, inr, ◌≡◌, ◌⊎◌, ℕ, true, List, [], ◌∷◌, map, Option, Some, None, refl, sym, ap, subst, ◌∙◌}
use Rattle.std.specs.List.{AllByRecursion}
use Rattle.gnb_types.specs.declared.names.Gnb.{Gnb}
use Rattle.gnb_types.specs.declared.names.NodeId.{NodeId}
use Rattle.gnb_types.specs.declared.names.NodeId.TheVariants.{CuUp as up_id}
use Rattle.gnb_types.specs.declared.names.SnBits.{SnBits}
use Rattle.gnb_types.specs.declared.names.UeId.{UeId}
use Rattle.gnb_types.specs.declared.names.BearerId.{BearerId}
use Rattle.message_types.specs.declared.rrc.Token.{Token}
use Rattle.unit_defs.specs.Ways.{Message, Pdu, Taken, Input, packet_input, order_input, tick_input, Answer, nothing}
use Rattle.run_defs.specs.Units.{cu_up_of}
use Rattle.run_defs.specs.Runs.{Reading, plain_way, input_of, taken_of}
use Rattle.proof_cu_up_orders.specs.context_tests.Tests.{is_final, EndsAfter, AreTested}
use Rattle.proof_cu_up_orders.proofs.context_tests.Tests.{orders_tested}
use Rattle.proof_cu_up_orders.specs.kept.Down.{ItemAssumes}
use Rattle.proof_run_steps.specs.steps.Causes.{by_order, by_tick, by_octets, by_octets_on, by_attach, by_release, by_offer, by_item, by_air, by_ack, by_control_message, node_of, given_of}
use Rattle.proof_run_steps.specs.tunnel_steps.Standing.{standing}
use Rattle.bearer_defs.specs.chain_defs.Models as down_models
use Rattle.bearer_defs.specs.uplink_defs.Models as up_models
use Rattle.proof_cu_up_orders.specs.context_orders.Orders.{CuUpModel, model_of, ContextStep, makes, adds, switches, freezes, knows, resumes, releases, closes, takes, polls, begun, done}
use Rattle.proof_cu_up_orders.specs.context_orders.Inputs.{orders_of}
use Rattle.proof_cu_up_orders.specs.bearer_orders.Happenings.{Beside, asks, Contexts}
use Rattle.law_tunnels_are_owned.specs.run_tunnels.Own.{TunnelsHoldTheirOwn}
use Rattle.proof_bearer_refinement.specs.run_unit_inputs.Happenings.{CuUpRecord}
use Rattle.proof_bearer_refinement.specs.run_bearers.Things.{PlainUnits}
use Rattle.proof_bearer_refinement.specs.run_bearers.Bearers.{Numbering, contexts_of}
use Rattle.proof_bearer_refinement.specs.refinement_facts.Refinements.{RunState, RunItem}
use Rattle.proof_bearer_refinement.specs.refinement_facts.Asked.{RunCause, TakesThere, IsUpStep, context_at, beside_of}
use Rattle.law_tunnels_are_owned.proofs.open_tunnels.Links.{end_of}
use Rattle.proof_bearer_refinement.proofs.refinement_facts.Puts.{Outs}
use Rattle.proof_bearer_refinement.proofs.refinement_facts.Takes.{TakesGiven, orders_take}
use Rattle.law_handover_delivers.specs.assumptions.Assumed.{Assumes, AssumesIn, AllAssume, final_asks}
use Rattle.proof_node_orders.specs.du_inputs.Puts.{is_of}
use Rattle.law_handover_delivers.specs.report_links.Reports.{ItemIsTrue, StandingIsTrue, ReportsAreTrue}
use Rattle.law_handover_delivers.proofs.report_links.Stands.{is_assumed}
use Rattle.law_handover_delivers.specs.reports_at_cu_up.Still.{AssumesStill, AssumesStillIn, AllAssumeStill}

-- what an order takes reports only what was received
abbrev Invariant : down_models.Model → ℕ → ContextStep Pdu → Type 0
Invariant d x (takes kind teid item) = ItemAssumes d x kind item
Invariant d x order = Unit {0}

-- what is still assumed is all, then
module _ (n : Numbering) (ue : UeId) (bearer : BearerId) (units : PlainUnits) (sn : SnBits) (quota : ℕ) (d : down_models.Model) (u : up_models.Model) (x : ℕ)
    (b : Beside) where
  assumes : (p : CuUpModel) (order : ContextStep Pdu) → Invariant d x order → AssumesStill n ue bearer units d u x b p order → Assumes n ue bearer units d u x b p order
  assumes p (takes kind teid item) fine assumed = (assumed, fine)
  assumes p (makes instance its_sn its_quota target teid) fine assumed = assumed
  assumes p (adds teid) fine assumed = assumed
  assumes p (switches du teid) fine assumed = assumed
  assumes p (freezes peer down_teid up_teid) fine assumed = assumed
  assumes p (knows status) fine assumed = assumed
  assumes p resumes fine assumed = assumed
  assumes p releases fine assumed = assumed
  assumes p closes fine assumed = assumed
  assumes p polls fine assumed = assumed

  assumes_in : (o : Option CuUpModel) (order : ContextStep Pdu) → Invariant d x order → AssumesStillIn n ue bearer units sn quota d u x b o order
      → AssumesIn n ue bearer units sn quota d u x b o order
  assumes_in None order fine assumed = assumed
  assumes_in (Some p) order fine assumed = assumes p order fine assumed

shape : (a : Answer (Message Token) Pdu (Option CuUpModel)) (os : List (ContextStep Pdu)) → EndsAfter os a → (os ≡ []) ⊎ (os ≡ closes ∷ [])
shape a [] h = inl refl
shape a (closes ∷ []) h = inr refl
shape a os h = absurd h

module _ (reading : Reading) (n : Numbering) (ue : UeId) (bearer : BearerId) (sn : SnBits) (quota : ℕ) (s t : RunState) (gnb : Gnb) (number : ℕ)
    (cause : RunCause) (input : Input Token Pdu) (outputs : Outs) (v : CuUpRecord) (step : IsUpStep reading s t gnb number cause input outputs v)
    (own : TunnelsHoldTheirOwn s) (b0 : Beside) (d : down_models.Model) (u : up_models.Model) (told : ReportsAreTrue ue bearer d.terminal.deliv s) where
  abbrev r : CuUpRecord
  r = cu_up_of s.units gnb number

  abbrev here : NodeId
  here = up_id gnb number

  abbrev x : ℕ
  x = context_at n ue bearer s.units gnb number

  abbrev b : Beside
  b = beside_of cause (record b0 { final = is_final input })

  abbrev cs : Contexts
  cs = contexts_of n ue bearer s.units

  -- ---- an item that is taken stands on its tunnel

  record IsThere (from : ℕ) (it : Taken Pdu) : Type 0 where
    pub item : RunItem
    pub rest : List RunItem
    pub stands : standing s (end_of here from) ≡ Some (item ∷ rest)
    pub is : taken_of item.content.says ≡ it

  is_there : (from : ℕ) (it : Taken Pdu) → input ≡ packet_input from it → IsThere from it
  is_there from it at = by cause step.node step.given step.takes_there
    where
      inputs : {other : Input Token Pdu} → Some other ≡ Some input → other ≡ packet_input from it
      inputs {other} given = let one : other ≡ input = cc in one ∙ at

      by : (c : RunCause) → node_of c ≡ here → input_of reading (given_of c) ≡ Some input → TakesThere s c → IsThere from it
      by (by_item end item rest) node given there =
          let same : packet_input end.teid (taken_of item.content.says) ≡ packet_input from it = inputs given in
          let teids : end.teid ≡ from = cc in
          let says : taken_of item.content.says ≡ it = cc in
          let ends : end ≡ end_of here from = λ i. record { node = node i; teid = teids i } in
          record { item = item; rest = rest; stands = sym (ap (standing s) ends) ∙ there; is = says }
      by (by_order m order) node given there = let same : order_input order ≡ packet_input from it = inputs given in absurd cc
      by (by_tick m) node given there = let same : tick_input ≡ packet_input from it = inputs given in absurd cc
      by (by_octets m to octets) node given there = absurd cc
      by (by_octets_on e octets) node given there = absurd cc
      by (by_attach plan) node given there = absurd (let same = inputs given in cc)
      by (by_release m w) node given there = absurd (let same = inputs given in cc)
      by (by_offer w c q) node given there = absurd (let same = inputs given in cc)
      by (by_air key home item) node given there = absurd (let same = inputs given in cc)
      by (by_ack key home item rest) node given there = absurd (let same = inputs given in cc)
      by (by_control_message m l to) node given there = absurd (let same = inputs given in cc)

  fine_here : (order : ContextStep Pdu) → TakesGiven r ue bearer input order → Invariant d x order
  fine_here (takes kind from it) given =
      let there = is_there from it given.input_is in
      let its = (own (end_of here from) (there.item ∷ there.rest) there.stands).0 given.owner given.found in
      let mine : is_of ue bearer there.item.key.ue there.item.key.bearer ≡ true
      = (λ i. is_of ue bearer (its.0 i) (its.1 i)) ∙ given.own in
      let tells : ItemIsTrue ue bearer d.terminal.deliv there.item
      = (subst (StandingIsTrue ue bearer d.terminal.deliv) there.stands (told.tunnels (end_of here from))).0 in
      subst (λ (w : Taken Pdu). ItemAssumes d x kind w) there.is (is_assumed d x kind there.item.content.says (tells mine))
  fine_here (makes instance its_sn its_quota target first) given = tt
  fine_here (adds first) given = tt
  fine_here (switches du first) given = tt
  fine_here (freezes peer down_teid up_teid) given = tt
  fine_here (knows status) given = tt
  fine_here resumes given = tt
  fine_here releases given = tt
  fine_here closes given = tt
  fine_here polls given = tt

  -- ---- all orders: after the first one, an end at most

  abbrev Still : List (ContextStep Pdu) → Type 0
  Still os = AllAssumeStill n ue bearer s.units sn quota d u cs (map (λ (order : ContextStep Pdu). asks x order b) os)

  abbrev All : List (ContextStep Pdu) → Type 0
  All os = AllAssume n ue bearer s.units sn quota d u cs (map (λ (order : ContextStep Pdu). asks x order b) os)

  with_end : (order : ContextStep Pdu) (os : List (ContextStep Pdu)) → Invariant d x order → (os ≡ []) ⊎ (os ≡ closes ∷ []) → Still (order ∷ os) → All (order ∷ os)
  with_end order os fine (inl none) assumed =
      subst (λ (w : List (ContextStep Pdu)). All (order ∷ w)) (sym none)
      (assumes_in n ue bearer s.units sn quota d u x b (cs x) order fine (subst (λ (w : List (ContextStep Pdu)). Still (order ∷ w)) none assumed).0, tt)
  with_end order os fine (inr ends) assumed =
      let all = subst (λ (w : List (ContextStep Pdu)). Still (order ∷ w)) ends assumed in
      subst (λ (w : List (ContextStep Pdu)). All (order ∷ w)) (sym ends) (
        assumes_in n ue bearer s.units sn quota d u x b (cs x) order fine all.0,
        (assumes_in n ue bearer s.units sn quota _ _ x b _ closes tt all.1.0, tt),
      )

  all_by : (os : List (ContextStep Pdu)) (o : Option CuUpModel) → AreTested plain_way ue bearer (is_final input) r.next_teid os o
      → AllByRecursion (TakesGiven r ue bearer input) os → Still os → All os
  all_by [] o tested given assumed = tt
  all_by (order ∷ os) None tested given assumed =
      with_end order os (fine_here order given.0) (shape (nothing (begun ue bearer order)) os tested.1) assumed
  all_by (order ∷ os) (Some p) tested given assumed =
      with_end order os (fine_here order given.0) (shape (done plain_way order p) os tested.1) assumed

  pub all_assumed : AllAssumeStill n ue bearer s.units sn quota d u cs (final_asks n ue bearer s gnb number cause input b0)
      → AllAssume n ue bearer s.units sn quota d u cs (final_asks n ue bearer s gnb number cause input b0)
  all_assumed assumed =
      all_by (orders_of plain_way r ue bearer input) (model_of r ue bearer) (orders_tested plain_way r ue bearer input) (orders_take r ue bearer input) assumed
