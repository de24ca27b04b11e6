-- What is so of a bearer's context stays so where its CU-UPs give and open further TEIDs.
use Rattle.std.proofs.Common.{inl, inr, ◌≡◌, ◌⊎◌, ◌==◌, ℕ, Bool, true, false, cond, ◌&&◌, Option, Some, None, refl, sym, ap, subst, ◌∙◌, eqb-true, arith}
use Rattle.std.specs.Ordering.{nat_cmp, eq_by_cmp}
use Rattle.std.specs.Cmp.{Equal-is}
use Rattle.gnb_types.specs.declared.names.Gnb.{Gnb}
use Rattle.gnb_types.specs.declared.names.NodeId.{NodeId}
use Rattle.gnb_types.specs.declared.names.NodeId.TheVariants.{CuCp, CuUp as up_id, Du, Core, Ue}
use Rattle.gnb_types.specs.declared.names.UeId.{UeId}
use Rattle.gnb_types.specs.declared.names.BearerId.{BearerId}
use Rattle.gnb_types.specs.declared.keys.TunnelEnd.{TunnelEnd}
use Rattle.gnb_types.specs.Orders.{node_cmp}
use Rattle.gnb_types.proofs.OrderLemmas.{node_total, node_exact}
use Rattle.tables.specs.Tables.{find, at}
use Rattle.tables.proofs.TableLaws.{at-put}
use Rattle.message_types.specs.declared.rrc.Token.{Token}
use Rattle.unit_defs.specs.Ways.{Pdu, Input}
use Rattle.unit_defs.specs.CuUpRecords.{TunnelKind, f1u_uplink, forwarding_down, forwarding_up}
use Rattle.unit_defs.specs.CuUp.{new_cu_up}
use Rattle.run_defs.specs.Units.{cu_up_of, with_cu_up}
use Rattle.run_defs.specs.Runs.{Reading, plain_world}
use Rattle.proof_run_steps.specs.teids.Given.{GiveOnce}
use Rattle.bearer_defs.specs.chain_defs.Models as down_models
use Rattle.bearer_defs.specs.uplink_defs.Models as up_models
use Rattle.proof_cu_up_orders.specs.context_orders.Orders.{CuUpModel}
use Rattle.proof_cu_up_orders.specs.bearer_lists.Puts.{HopEnds, ends_of}
use Rattle.law_tunnels_are_owned.specs.tunnel_book.Book.{is_kind}
use Rattle.proof_run_steps.specs.tunnel_steps.Standing.{is_end}
use Rattle.proof_bearer_refinement.specs.run_unit_inputs.Happenings.{CuUpRecord}
use Rattle.proof_bearer_refinement.specs.run_bearers.Things.{PlainUnits}
use Rattle.proof_bearer_refinement.specs.run_bearers.Bearers.{Place, Numbering}
use Rattle.proof_bearer_refinement.specs.refinement_facts.Refinements.{RunState, Owned, owned_by, owned_on, owned_at}
use Rattle.proof_bearer_refinement.specs.refinement_facts.Asked.{RunCause, IsUpStep, AreSound, LeadsTo, HopLeads}
use Rattle.law_tunnels_are_owned.proofs.open_tunnels.Links.{end_of}
use Rattle.proof_bearer_refinement.proofs.refinement_facts.Ends.{clash}
use Rattle.proof_bearer_refinement.proofs.refinement_facts.Puts.{Outs}
use Rattle.proof_bearer_refinement.proofs.du_puts.Apart.{place, end_same}
use Rattle.proof_bearer_refinement.proofs.du_puts.Stands.{ups_stay}
use Rattle.proof_bearer_refinement.proofs.cu_up_opens.Opened.{units_then, owners_stay, IsOpened, opened_here, IsMade, IsAdded, result}
use Rattle.law_handover_delivers.specs.assumptions.WellLinked.{IsOld, WasGiven, EndsWereGiven, IsWellLinked}
use Rattle.law_handover_delivers.proofs.assumptions.Rooms.{HasRoom, room}
use Rattle.law_handover_delivers.specs.assumed_runs.Assuming.{NoneIsZero}

-- ---- 0 is no context's number

pub none_at_zero : (n : Numbering) → NoneIsZero n → (at : Place) → 0 ≡ n.number_of at → {X : Type 0} → X
none_at_zero n positive at is {X} = absurd (let both : None ≡ Some at = sym positive ∙ ap n.place_of is ∙ n.found at in cc)

pub zero_old : (n : Numbering) → NoneIsZero n → (ue : UeId) (bearer : BearerId) (units : PlainUnits) → IsOld n ue bearer units 0
zero_old n positive ue bearer units at is = none_at_zero n positive at is

-- ---- TEIDs

module _ (n : Numbering) (ue : UeId) (bearer : BearerId) (units later : PlainUnits) (gives : GiveOnce units later) where
  pub old_later : (x : ℕ) → IsOld n ue bearer units x → IsOld n ue bearer later x
  old_later x old at is = let more = (gives.0 at.gnb at.number).0 in let low = old at is in omega (arith, more, low)

  given_later : (node : NodeId) (teid : ℕ) → WasGiven n ue bearer units node teid → WasGiven n ue bearer later node teid
  given_later node teid given gnb number is = let more = (gives.0 gnb number).0 in let low = given gnb number is in omega (arith, more, low)

  pub ends_later : (h : Option HopEnds) → EndsWereGiven n ue bearer units h → EndsWereGiven n ue bearer later h
  ends_later None given = tt
  ends_later (Some h) given = (given_later h.peer h.down given.0, given_later h.peer h.up given.1)

  -- where hops lead as they did, all is so
  pub well_linked_later : (x : ℕ) (m : down_models.Member) (k : up_models.Member) (p : CuUpModel)
      → (HopLeads n ue bearer units (ends_of p.bearer.hop) m.next_hop k.next_hop → HopLeads n ue bearer later (ends_of p.bearer.hop) m.next_hop k.next_hop)
      → IsWellLinked n ue bearer units x m k p → IsWellLinked n ue bearer later x m k p
  well_linked_later x m k p leads well_linked = record {
    old = old_later x well_linked.old;
    old_down = old_later m.next_hop well_linked.old_down;
    old_up = old_later k.next_hop well_linked.old_up;
    other_down = well_linked.other_down;
    other_up = well_linked.other_up;
    leads = leads well_linked.leads;
    given = ends_later (ends_of p.bearer.hop) well_linked.given;
    stands = well_linked.stands;
    frozen = well_linked.frozen;
  }

-- only where its hop leads is of the members
pub well_linked_by : (n : Numbering) (ue : UeId) (bearer : BearerId) (units : PlainUnits) (x : ℕ) (m : down_models.Member) (k : up_models.Member) (p : CuUpModel)
    (m1 : down_models.Member) (k1 : up_models.Member) → m1.next_hop ≡ m.next_hop → k1.next_hop ≡ k.next_hop → IsWellLinked n ue bearer units x m k p
    → IsWellLinked n ue bearer units x m1 k1 p
well_linked_by n ue bearer units x m k p m1 k1 down_is up_is well_linked = record {
  old = well_linked.old;
  old_down = subst (IsOld n ue bearer units) (sym down_is) well_linked.old_down;
  old_up = subst (IsOld n ue bearer units) (sym up_is) well_linked.old_up;
  other_down = λ same. well_linked.other_down (sym down_is ∙ same);
  other_up = λ same. well_linked.other_up (sym up_is ∙ same);
  leads = subst (λ (z : ℕ). HopLeads n ue bearer units (ends_of p.bearer.hop) z k1.next_hop) (sym down_is)
      (subst (λ (z : ℕ). HopLeads n ue bearer units (ends_of p.bearer.hop) m.next_hop z) (sym up_is) well_linked.leads);
  given = well_linked.given;
  stands = well_linked.stands;
  frozen = well_linked.frozen;
}

-- ---- a step of a CU-UP

module _ (reading : Reading) (n : Numbering) (ue : UeId) (bearer : BearerId) (s t : RunState) (gnb : Gnb) (number : ℕ) (cause : RunCause) (input : Input Token Pdu)
    (outputs : Outs) (v : CuUpRecord) (step : IsUpStep reading s t gnb number cause input outputs v) (sound : AreSound s t) where
  abbrev r : CuUpRecord
  r = cu_up_of s.units gnb number

  abbrev here : NodeId
  here = up_id gnb number

  up_far : (g : Gnb) (k : ℕ) → eq_by_cmp node_cmp (up_id g k) here ≡ false → cu_up_of t.units g k ≡ cu_up_of s.units g k
  up_far g k far =
      ap (λ es. at node_cmp (new_cu_up g k) es (up_id g k))
      (ap (λ (u : PlainUnits). u.ups) (units_then reading n ue bearer s t gnb number cause input outputs v step sound)
      ∙ ups_stay (plain_world reading) cause (with_cu_up s.units gnb number v))
      ∙ at-put node_total (new_cu_up g k) s.units.ups here v (up_id g k) ∙ ap (λ (b : Bool). cond b v (cu_up_of s.units g k)) far

  -- a tunnel that is the bearer's then, and wasn't before, is one that this CU-UP opened
  pub opened_at : (node : NodeId) (teid : ℕ) (o : Owned) → owned_on n ue bearer s.units node teid ≡ None → owned_on n ue bearer t.units node teid ≡ Some o
      → (node ≡ here) × IsOpened reading n ue bearer s t gnb number cause input outputs v step sound teid o
  opened_at (up_id g k) teid o none is = by (eq_by_cmp node_cmp (up_id g k) here) refl
    where
      by : (b : Bool) → eq_by_cmp node_cmp (up_id g k) here ≡ b
          → (up_id g k ≡ here) × IsOpened reading n ue bearer s t gnb number cause input outputs v step sound teid o
      by true e =
          let same : up_id g k ≡ here = node_exact (up_id g k) here ((Equal-is (node_cmp (up_id g k) here)).0 e) in (
            same,
            opened_here reading n ue bearer s t gnb number cause input outputs v step sound teid o
                (subst (λ (node : NodeId). owned_on n ue bearer s.units node teid ≡ None) same none)
                (subst (λ (node : NodeId). owned_on n ue bearer t.units node teid ≡ Some o) same is),
          )
      by false e =
          let clashes : None ≡ Some o =
          sym none ∙ sym (ap (λ (w : CuUpRecord). owned_by n ue bearer g k (find nat_cmp w.tunnels teid)) (up_far g k e)) ∙ is in absurd cc
  opened_at (CuCp g) teid o none is = absurd cc
  opened_at (Du g k) teid o none is = absurd cc
  opened_at Core teid o none is = absurd cc
  opened_at (Ue k) teid o none is = absurd cc

  -- it isn't where an earlier hop leads
  module _ (teid : ℕ) (o : Owned) (opens : IsOpened reading n ue bearer s t gnb number cause input outputs v step sound teid o) where
    no_end : (peer : NodeId) (q : ℕ) → WasGiven n ue bearer s.units peer q → is_end (end_of here teid) peer q ≡ false
    no_end peer q given = by (is_end (end_of here teid) peer q) refl
      where
        by : (b : Bool) → is_end (end_of here teid) peer q ≡ b → b ≡ false
        by false e = refl
        by true e =
            let same : end_of here teid ≡ end_of peer q = end_same (end_of here teid) peer q e in
            let teids : teid ≡ q = ap (λ (w : TunnelEnd). w.teid) same in
            let nodes : here ≡ peer = ap (λ (w : TunnelEnd). w.node) same in
            let low = given gnb number (sym nodes) in
            let high = opens.new in
            absurd (omega (arith, teids, low, high))

    pub not_there : (kind : TunnelKind) (next : ℕ) → is_kind f1u_uplink kind ≡ false → IsOld n ue bearer s.units next → (is_kind o.kind kind && o.context == next) ≡ false
    not_there kind next other old = by (result reading n ue bearer s t gnb number cause input outputs v step sound teid o opens).1
      where
        and_false : (a b : Bool) → a ≡ false → a && b ≡ false
        and_false true b e = clash (sym e)
        and_false false b e = refl

        false_and : (a b : Bool) → b ≡ false → a && b ≡ false
        false_and true b e = e
        false_and false b e = refl

        by : IsMade reading n ue bearer s t gnb number cause input outputs v step sound teid o opens
            ⊎ IsAdded reading n ue bearer s t gnb number cause input outputs v step sound teid o opens → (is_kind o.kind kind && o.context == next) ≡ false
        by (inr added) =
            and_false (is_kind o.kind kind) (o.context == next)
            (ap (λ (w : TunnelKind). is_kind w kind) (ap (λ (w : Owned). w.kind) opens.is ∙ added.kind) ∙ other)
        by (inl made) = false_and (is_kind o.kind kind) (o.context == next) (unless (o.context == next) refl)
          where
            unless : (b : Bool) → (o.context == next) ≡ b → b ≡ false
            unless false e = refl
            unless true e =
                let place_is : next ≡ n.number_of (place gnb number r.next_teid)
                = sym (eqb-true o.context next e) ∙ ap (λ (w : Owned). w.context) opens.is
                ∙ ap (λ (z : ℕ). n.number_of (place gnb number z)) (sym opens.its.context ∙ made.instance) in
                let low = old (place gnb number r.next_teid) place_is in
                let has : HasRoom reading n ue bearer s t gnb number cause input outputs v step sound = room reading n ue bearer s t gnb number cause input outputs v step sound teid o opens in
                let is = has.0 in
                absurd (omega (arith, low, is))

    lead_elsewhere : (h : Option HopEnds) (next_down next_up : ℕ) → EndsWereGiven n ue bearer s.units h → IsOld n ue bearer s.units next_down
        → IsOld n ue bearer s.units next_up → LeadsTo (end_of here teid) o h next_down next_up
    lead_elsewhere None next_down next_up given old_down old_up = tt
    lead_elsewhere (Some h) next_down next_up given old_down old_up = (
      no_end h.peer h.down given.0 ∙ sym (not_there forwarding_down next_down refl old_down),
      no_end h.peer h.up given.1 ∙ sym (not_there forwarding_up next_up refl old_up),
    )

  pub leads_later : (h : Option HopEnds) (next_down next_up : ℕ) → EndsWereGiven n ue bearer s.units h → IsOld n ue bearer s.units next_down
      → IsOld n ue bearer s.units next_up → HopLeads n ue bearer s.units h next_down next_up → HopLeads n ue bearer t.units h next_down next_up
  leads_later h next_down next_up given old_down old_up leads end o is = by (owned_at n ue bearer s.units end) refl
    where
      by : (w : Option Owned) → owned_at n ue bearer s.units end ≡ w → LeadsTo end o h next_down next_up
      by (Some w) was =
          let same : w ≡ o = owners_stay reading n ue bearer s t gnb number cause input outputs v step sound end w o was is in
          leads end o (was ∙ ap (λ (z : Owned). Some z) same)
      by None none =
          let opens = opened_at end.node end.teid o none is in
          subst (λ (node : NodeId). LeadsTo (end_of node end.teid) o h next_down next_up) (sym opens.0)
          (lead_elsewhere end.teid o opens.1 h next_down next_up given old_down old_up)

  pub grows : GiveOnce s.units t.units → (x : ℕ) (m : down_models.Member) (k : up_models.Member) (p : CuUpModel) → IsWellLinked n ue bearer s.units x m k p
      → IsWellLinked n ue bearer t.units x m k p
  grows gives x m k p well_linked =
      well_linked_later n ue bearer s.units t.units gives x m k p
      (leads_later (ends_of p.bearer.hop) m.next_hop k.next_hop well_linked.given well_linked.old_down well_linked.old_up) well_linked
