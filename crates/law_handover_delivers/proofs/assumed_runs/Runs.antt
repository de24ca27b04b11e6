-- Steps of a run of which only what is assumed is asked, one after another, are steps of `proof_bearer_refinement::runs`.
use Rattle.std.proofs.Common.{◌≡◌, ◌≤◌, ◌+◌, ℕ, false, List, Option, Some, None, refl, sym, ap, subst, ◌∙◌, arith}
use Rattle.std.specs.Prelude.{is_some}
use Rattle.gnb_types.specs.declared.names.Gnb.TheVariants.{A}
use Rattle.gnb_types.specs.declared.names.SnBits.{SnBits}
use Rattle.gnb_types.specs.declared.names.SnBits.TheVariants.{Len12}
use Rattle.gnb_types.specs.declared.names.UeId.{UeId}
use Rattle.gnb_types.specs.declared.names.BearerId.{BearerId}
use Rattle.unit_defs.specs.CuUpRecords.{CuUpFlags, CuUpBearer, SourceHop, DownlinkTunnel}
use Rattle.unit_defs.specs.Static.{cu_up_placed, du_placed, cu_cp_placed}
use Rattle.unit_defs.specs.Ue.{new_ue}
use Rattle.tables.specs.Tables.{find, put, at}
use Rattle.unit_defs.specs.Ways.{Pdu}
use Rattle.run_defs.specs.Units.{cu_up_of}
use Rattle.run_defs.specs.Runs.{Reading}
use Rattle.proof_run_steps.specs.teids.Given.{below, GiveOnce}
use Rattle.proof_cu_up_orders.specs.context_tests.Tests.{is_final}
use Rattle.bearer_defs.specs.chain_defs.Models as down_models
use Rattle.bearer_defs.specs.uplink_defs.Models as up_models
use Rattle.proof_cu_up_orders.specs.context_orders.Orders.{CuUpModel}
use Rattle.proof_cu_up_orders.specs.down_orders.Down.{IsDown, without_end}
use Rattle.proof_cu_up_orders.specs.bearer_orders.Happenings.{Contexts, Happening}
use Rattle.proof_cu_up_orders.specs.bearer_orders.Down as downs
use Rattle.proof_cu_up_orders.specs.bearer_lists.Puts.{ends_of}
use Rattle.proof_bearer_refinement.specs.run_bearers.Bearers.{Place, Numbering, at_place, contexts_of}
use Rattle.proof_bearer_refinement.specs.refinement_facts.Asked.{AreSound, HopLeads, down_after}
use Rattle.proof_bearer_refinement.proofs.refinement_facts.Ends.{clash}
use Rattle.proof_bearer_refinement.proofs.du_puts.Apart.{place}
use Rattle.proof_bearer_refinement.specs.du_puts.Worked.{terminal, bearer as its_bearer}
use Rattle.proof_bearer_refinement.specs.runs.Steps.{Point, IsRefined}
use Rattle.proof_bearer_refinement.proofs.runs.Fair.{fair_sound}
use Rattle.proof_bearer_refinement.proofs.runs.Runs.{steps_then}
use Rattle.proof_bearer_refinement.specs.initial.First as first_run
use Rattle.proof_bearer_refinement.specs.runs.Fair.{IsFair}
use Rattle.proof_bearer_refinement.proofs.initial.Start.{starts, refined as refined_there}
use Rattle.law_handover_delivers.specs.initial_runs.First.{AreInitial, DeliverInOrder}
use Rattle.law_handover_delivers.proofs.initial_runs.Runs.{begins}
use Rattle.law_handover_delivers.specs.unused_uplinks.Later as later
use Rattle.law_handover_delivers.specs.unused_uplinks.Later.{AreFresh}
use Rattle.law_handover_delivers.proofs.unused_uplinks.Runs.{starts_fresh, all_steps as fresh_steps, delivers as fresh_delivers}
use Rattle.law_handover_delivers.proofs.unused_uplinks.Begun.{IsPlain, begun, begun_plain, up_plain}
use Rattle.law_handover_delivers.specs.assumptions.WellLinked.{IsOld, EndsWereGiven, IsWellLinked, AreWellLinked}
use Rattle.law_handover_delivers.specs.assumptions.Assumed.{final_asks}
use Rattle.law_handover_delivers.proofs.assumptions.Steps.{step_asked}
use Rattle.law_handover_delivers.specs.assumed_runs.Assuming.{NoneIsZero, IsWellLinkedAt, CuUpActs, Step, a_cu_up, a_du, an_offer, a_message, all_else, Steps, not_yet, further}
use Rattle.law_handover_delivers.proofs.assumed_runs.Grows.{zero_old}
use Rattle.law_handover_delivers.proofs.assumed_runs.Ups.{well_linked_then}
use Rattle.law_handover_delivers.proofs.assumed_runs.Rest.{du_well_linked, offer_well_linked, message_well_linked, beside_well_linked}

module _ (reading : Reading) (n : Numbering) (ue : UeId) (bearer : BearerId) (sn : SnBits) (quota : ℕ) (positive : NoneIsZero n) where
  abbrev Refined : Point → Type 0
  Refined p = IsRefined reading n ue bearer sn quota p

  abbrev WellLinked : Point → Type 0
  WellLinked p = IsWellLinkedAt reading n ue bearer sn quota p

  -- ---- a step

  module _ (p q : Point) (before : IsFair p.state) (after : IsFair q.state) (comes : GiveOnce p.state.units q.state.units) (refinements : Refined p)
      (well_linked : WellLinked p) where
    sound : AreSound p.state q.state
    sound = fair_sound p.state q.state before after

    as_asked : Step reading n ue bearer sn quota p q → later.Step reading n ue bearer sn quota p q
    as_asked (a_cu_up a) = later.a_cu_up (record {
      gnb = a.gnb;
      number = a.number;
      cause = a.cause;
      input = a.input;
      outputs = a.outputs;
      left = a.left;
      beside = record a.beside { final = is_final a.input };
      acts = a.acts;
      asks = step_asked reading n ue bearer p.state q.state a.gnb a.number a.cause a.input a.outputs a.left a.acts sound
          (fair_sound p.state p.state before before).own sn quota p.down p.up refinements a.beside well_linked a.assumes;
      down = a.down;
      up = a.up;
    })
    as_asked (a_du a) = later.a_du a
    as_asked (an_offer a) = later.an_offer a
    as_asked (a_message a) = later.a_message a
    as_asked (all_else a) = later.all_else a

    of_cu_up : CuUpActs reading n ue bearer sn quota p q → WellLinked q
    of_cu_up a =
        let cs : Contexts = contexts_of n ue bearer p.state.units in
        let hs : List (Happening Pdu) = final_asks n ue bearer p.state a.gnb a.number a.cause a.input a.beside in
        subst (λ (d : down_models.Model). AreWellLinked n ue bearer q.state.units d q.up (contexts_of n ue bearer q.state.units)) (sym a.down)
        (subst (λ (u : up_models.Model).
        AreWellLinked n ue bearer q.state.units (down_after n ue bearer p.state.units sn quota p.down cs hs) u (contexts_of n ue bearer q.state.units)) (sym a.up)
        (well_linked_then reading n ue bearer p.state q.state a.gnb a.number a.cause a.input a.outputs a.left a.acts sound
        (fair_sound p.state p.state before before).own sn quota p.down p.up refinements a.beside well_linked positive comes a.assumes))

    stays_well_linked : Step reading n ue bearer sn quota p q → WellLinked q
    stays_well_linked (a_cu_up a) = of_cu_up a
    stays_well_linked (a_du a) = du_well_linked reading n ue bearer sn quota p q comes well_linked a
    stays_well_linked (an_offer a) = offer_well_linked reading n ue bearer sn quota p q comes well_linked a
    stays_well_linked (a_message a) = message_well_linked reading n ue bearer sn quota p q comes well_linked a
    stays_well_linked (all_else a) = beside_well_linked reading n ue bearer sn quota p q comes well_linked a

    pub one_step : Step reading n ue bearer sn quota p q → later.Step reading n ue bearer sn quota p q × WellLinked q
    one_step step = (as_asked step, stays_well_linked step)

  -- ---- steps, one after another

  pub all_steps : (p q : Point) → Refined p → AreFresh n p.state p.up → WellLinked p → Steps reading n ue bearer sn quota p q
      → later.Steps reading n ue bearer sn quota p q × WellLinked q
  all_steps p q refinements fresh well_linked (not_yet x) = (later.not_yet x, well_linked)
  all_steps p q refinements fresh well_linked (further x y z earlier before after comes step) =
      let first = all_steps x y refinements fresh well_linked earlier in
      let refinements_then : Refined y = (steps_then reading n ue bearer sn quota x y refinements (fresh_steps reading n ue bearer sn quota x y refinements fresh first.0).0).0 in
      let one = one_step y z before after comes refinements_then first.1 step in
      (later.further x y z first.0 before after comes one.0, one.1)

  -- ---- the initial models, after the switch by which the first context has its downlink

  module _ (first teid : ℕ) (d : DownlinkTunnel) where
    module _ (p : Point) (are : AreInitial first teid d p) (refinements : Refined p) (old : IsOld n ue bearer p.state.units first) where
      abbrev cs : Contexts
      cs = contexts_of n ue bearer p.state.units

      module _ (y : ℕ) (w : CuUpModel) (there : cs y ≡ Some w) where
        its_down : IsDown (p.down.members y) w
        its_down = (subst (λ (o : Option CuUpModel). downs.IsIn sn quota (p.down.members y) o) there (refinements.down y)).0

        member_is : p.down.members y ≡ (begun first teid d).members y
        member_is = ap (λ (k : down_models.Model). k.members y) are.down

        plain_there : (y ≡ first) × IsPlain ((begun first teid d).members y)
        plain_there = begun_plain first teid d y (sym (ap (λ (m : down_models.Member). m.is_there) member_is) ∙ its_down.there)

        its_plain : IsPlain (p.down.members y)
        its_plain = subst IsPlain (sym member_is) plain_there.1

        flags_are : (p.down.members y).flags ≡ w.at.flags
        flags_are = its_down.flags

        not_frozen : w.at.flags.frozen ≡ false
        not_frozen = sym (ap (λ (f : CuUpFlags). f.frozen) flags_are) ∙ its_plain.frozen

        not_released : w.at.flags.released ≡ false
        not_released = sym (ap (λ (f : CuUpFlags). f.released) flags_are) ∙ its_plain.released

        no_hop : w.bearer.hop ≡ None
        no_hop = by w.bearer.hop refl
          where
            ends : without_end w.bearer.hop ≡ None
            ends = sym (ap (λ (b : CuUpBearer). b.hop) its_down.bearer) ∙ its_plain.hop

            by : (o : Option SourceHop) → w.bearer.hop ≡ o → o ≡ None
            by None e = refl
            by (Some h) e = let some : without_end (Some h) ≡ None = sym (ap without_end e) ∙ ends in absurd cc

        not_zero : 0 ≡ y → ⊥
        not_zero zero =
            let none : cs 0 ≡ None = ap (at_place ue bearer p.state.units) positive in
            let clashes : None ≡ Some w = sym none ∙ ap cs zero ∙ there in cc

        up_next : (p.up.members y).next_hop ≡ 0
        up_next = ap (λ (k : up_models.Model). (k.members y).next_hop) are.up ∙ up_plain first teid d y

        first_context : IsWellLinked n ue bearer p.state.units y (p.down.members y) (p.up.members y) w
        first_context = record {
          old = subst (IsOld n ue bearer p.state.units) (sym plain_there.0) old;
          old_down = subst (IsOld n ue bearer p.state.units) (sym its_plain.next_hop) (zero_old n positive ue bearer p.state.units);
          old_up = subst (IsOld n ue bearer p.state.units) (sym up_next) (zero_old n positive ue bearer p.state.units);
          other_down = λ same. not_zero (sym its_plain.next_hop ∙ same);
          other_up = λ same. not_zero (sym up_next ∙ same);
          leads = subst (λ (o : Option SourceHop). HopLeads n ue bearer p.state.units (ends_of o) (p.down.members y).next_hop (p.up.members y).next_hop)
              (sym no_hop) (λ end o is. tt);
          given = subst (λ (o : Option SourceHop). EndsWereGiven n ue bearer p.state.units (ends_of o)) (sym no_hop) tt;
          stands = record {
            hop = ap (λ (o : Option SourceHop). is_some o) no_hop ∙ sym not_frozen;
            status = λ its_true. clash (sym not_frozen ∙ its_true);
            arrived = λ its_true. clash (sym not_frozen ∙ its_true);
          };
          frozen = λ its_true. clash (sym not_released ∙ its_true);
        }

      pub first_well_linked : WellLinked p
      first_well_linked y w there = first_context y w there

  pub delivers : (p q : Point) (first teid : ℕ) (d : DownlinkTunnel) → AreInitial first teid d p → Refined p → IsOld n ue bearer p.state.units first
      → Steps reading n ue bearer sn quota p q → DeliverInOrder reading n ue bearer sn quota p q
  delivers p q first teid d are refinements old steps =
      fresh_delivers reading n ue bearer sn quota p q first teid d are refinements
      (all_steps p q refinements (starts_fresh n p.state p.up first teid are.up) (first_well_linked first teid d p are refinements old) steps).0

-- ---- from the first state of a run on

next_there : (cu_up_of first_run.set_up.units A 1).next_teid ≡ 3
unfolding find put at cu_up_placed du_placed cu_cp_placed new_ue
next_there = refl

module _ (reading : Reading) (n : Numbering) (positive : NoneIsZero n) where
  pub first_old : IsOld n terminal its_bearer first_run.set_up.units (first_run.first n)
  first_old at is =
      let both : Some at ≡ Some (place A 1 1) = sym (n.found at) ∙ ap n.place_of (sym is) ∙ n.found (place A 1 1) in
      let one : at ≡ place A 1 1 = cc in
      subst (λ (z : Place). z.instance + 1 ≤ below (cu_up_of first_run.set_up.units z.gnb z.number).next_teid) (sym one)
      (subst (λ (k : ℕ). 1 + 1 ≤ below k) (sym next_there) (omega arith))

  pub delivers_on : (q : Point) → Steps reading n terminal its_bearer Len12 64 (begins reading n) q
      → DeliverInOrder reading n terminal its_bearer Len12 64 (begins reading n) q
  delivers_on q steps =
      delivers reading n terminal its_bearer Len12 64 positive (begins reading n) q (first_run.first n) (starts reading n).0 (starts reading n).1
      (record { down = refl; up = refl }) (refined_there reading n) first_old steps
