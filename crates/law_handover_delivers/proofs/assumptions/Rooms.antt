-- Where a step of a CU-UP opens a tunnel for the bearer, a TEID was left; and a context that it makes is a new one.
use Rattle.std.proofs.Common.{inl, inr, ◌≡◌, ◌≤◌, ◌⊎◌, ◌==◌, ◌+◌, ℕ, Bool, true, false, cond, ◌&&◌, ◌||◌, [], length, Option, Some, None, refl, sym, ap, subst, ◌∙◌, arith}
use Rattle.std.specs.Prelude.{if◌then◌else◌}
use Rattle.std.specs.Ordering.{nat_cmp, is_eq}
use Rattle.std.specs.Cmp.{tied_itself}
use Rattle.gnb_types.specs.declared.names.Gnb.{Gnb}
use Rattle.gnb_types.specs.declared.names.NodeId.{NodeId}
use Rattle.gnb_types.specs.declared.names.NodeId.TheVariants.{CuUp as up_id}
use Rattle.gnb_types.specs.declared.names.UeId.{UeId}
use Rattle.gnb_types.specs.declared.names.BearerId.{BearerId}
use Rattle.gnb_types.specs.Orders.{ue_cmp, bearer_cmp, node_cmp}
use Rattle.gnb_types.proofs.OrderLemmas.{ue_total, bearer_total, node_total}
use Rattle.tables.specs.Tables.{find, at}
use Rattle.tables.proofs.TableLaws.{at-put}
use Rattle.message_types.specs.declared.rrc.Token.{Token}
use Rattle.unit_defs.specs.Ways.{Pdu, Input, gives}
use Rattle.unit_defs.specs.CuUpRecords.{CuUpBearer, CuUpContext, CuUpTunnel, TunnelKind, n3}
use Rattle.unit_defs.specs.CuUpBearers.{is_one_of, made}
use Rattle.unit_defs.specs.Teids.{teids_are_left, teid_after}
use Rattle.unit_defs.specs.CuUp.{new_cu_up}
use Rattle.run_defs.specs.Units.{cu_up_of, with_cu_up}
use Rattle.run_defs.specs.Runs.{Reading, plain_world, plain_way}
use Rattle.proof_run_steps.specs.teids.Given.{below, opened_by, GivesTeids}
use Rattle.proof_run_steps.proofs.teids.CuUps.{cu_up_gives}
use Rattle.proof_run_steps.proofs.teids.Grows.{below_left}
use Rattle.proof_cu_up_orders.specs.context_orders.Orders.{CuUpModel, model_with, model_of_bearer, model_in, model_of}
use Rattle.proof_cu_up_orders.specs.context_orders.Shown.{is_bearer}
use Rattle.law_tunnels_are_owned.specs.owner_facts.Owned.{ends_of, has_end, up_context_names, cu_up_names, CuUpOwns}
use Rattle.proof_bearer_refinement.specs.run_unit_inputs.Happenings.{CuUpRecord}
use Rattle.proof_bearer_refinement.specs.run_bearers.Things.{PlainUnits}
use Rattle.proof_bearer_refinement.specs.run_bearers.Bearers.{Numbering}
use Rattle.proof_bearer_refinement.specs.refinement_facts.Refinements.{RunState, Owned, owned_by, owned_on}
use Rattle.proof_bearer_refinement.specs.refinement_facts.Asked.{RunCause, IsUpStep, AreSound}
use Rattle.proof_bearer_refinement.proofs.refinement_facts.Ends.{owner_is}
use Rattle.proof_bearer_refinement.proofs.refinement_facts.Puts.{Outs}
use Rattle.proof_bearer_refinement.proofs.du_puts.Apart.{place, found_on}
use Rattle.proof_bearer_refinement.proofs.du_puts.Stands.{ups_stay}
use Rattle.proof_bearer_refinement.proofs.cu_up_opens.Opened.{IsOpened, opened_here, number_same, units_then}

itself : (ue : UeId) (bearer : BearerId) → is_bearer ue bearer ue bearer ≡ true
itself ue bearer i = ap is_eq (tied_itself ue_total ue) i && ap is_eq (tied_itself bearer_total bearer) i

-- a tunnel of a bearer that is there is open as the bearer's
pub open_as : (r : CuUpRecord) → CuUpOwns r → (ue : UeId) (bearer : BearerId) (q : CuUpModel) → model_of r ue bearer ≡ Some q → (kind : TunnelKind) (teid : ℕ)
    → is_one_of (ends_of kind q.bearer) teid ≡ true
    → find nat_cmp r.tunnels teid ≡ Some (record { ue = ue; bearer = bearer; kind = kind; context = q.instance })
open_as r owns ue bearer q is kind teid has = owns.0.stands teid owner (by_context (find ue_cmp r.contexts ue) refl is)
  where
    owner : CuUpTunnel
    owner = record { ue = ue; bearer = bearer; kind = kind; context = q.instance }

    by_bearer : (c : CuUpContext) (b : Option CuUpBearer) → find bearer_cmp c.bearers bearer ≡ b → model_of_bearer ue c bearer b ≡ Some q
        → up_context_names owner teid (Some c) ≡ true
    by_bearer c None there e = absurd cc
    by_bearer c (Some b) there e =
        let same : model_with ue c bearer b ≡ q = cc in
        (λ i. (c.instance == (sym same i).instance) && has_end kind teid (there i))
        ∙ (λ i. number_same c.instance i && (ap (λ (k : CuUpModel). is_one_of (ends_of kind k.bearer) teid) same ∙ has) i)

    by_context : (c : Option CuUpContext) → find ue_cmp r.contexts ue ≡ c → model_in ue bearer c ≡ Some q → cu_up_names r.contexts owner teid ≡ true
    by_context None there e = absurd cc
    by_context (Some c) there e = ap (up_context_names owner teid) there ∙ by_bearer c (find bearer_cmp c.bearers bearer) refl e

module _ (reading : Reading) (n : Numbering) (ue : UeId) (bearer : BearerId) (s t : RunState) (gnb : Gnb) (number : ℕ) (cause : RunCause) (input : Input Token Pdu)
    (outputs : Outs) (v : CuUpRecord) (step : IsUpStep reading s t gnb number cause input outputs v) (sound : AreSound s t) where
  abbrev r : CuUpRecord
  r = cu_up_of s.units gnb number

  abbrev here : NodeId
  here = up_id gnb number

  pub up_here : cu_up_of t.units gnb number ≡ v
  up_here =
      ap (λ es. at node_cmp (new_cu_up gnb number) es here)
      (ap (λ (u : PlainUnits). u.ups) (units_then reading n ue bearer s t gnb number cause input outputs v step sound)
      ∙ ups_stay (plain_world reading) cause (with_cu_up s.units gnb number v))
      ∙ at-put node_total (new_cu_up gnb number) s.units.ups here v here ∙ ap (λ (b : Bool). cond b v r) (ap is_eq (tied_itself node_total here))

  given : GivesTeids (λ (u : CuUpRecord). u.next_teid) (λ (u : CuUpRecord). u.tunnels) r (gives outputs v)
  given = subst (GivesTeids (λ (u : CuUpRecord). u.next_teid) (λ (u : CuUpRecord). u.tunnels) r) step.answers (cu_up_gives plain_way r input)

  -- the next TEID was one, and is given now
  abbrev pub HasRoom : Type 0
  HasRoom = (below r.next_teid ≡ r.next_teid) × (r.next_teid + 1 ≤ below v.next_teid)

  room_by : (teid : ℕ) → below r.next_teid ≤ teid → teid + 1 ≤ below v.next_teid → HasRoom
  room_by teid low high = by given.0.1
    where
      by : ((opened_by outputs ≡ []) × (v.next_teid ≡ r.next_teid))
          ⊎ ((teids_are_left r.next_teid (length (opened_by outputs)) ≡ true) × (v.next_teid ≡ teid_after r.next_teid (length (opened_by outputs)))) → HasRoom
      by (inl none) = let same : below v.next_teid ≡ below r.next_teid = ap below none.1 in absurd (omega (arith, low, high, same))
      by (inr left) = let is : below r.next_teid ≡ r.next_teid = below_left r.next_teid (length (opened_by outputs)) left.0 in (is, omega (arith, low, high, is))

  pub room : (teid : ℕ) (o : Owned) → IsOpened reading n ue bearer s t gnb number cause input outputs v step sound teid o → HasRoom
  room teid o opens =
      room_by teid opens.new (subst (λ (w : CuUpRecord). teid + 1 ≤ below w.next_teid) up_here ((sound.owned_after.0 gnb number).2 teid opens.owner opens.found))

  -- a context that is made
  pub made_room : (q : CuUpModel) (first : ℕ) (target : Bool) → model_of r ue bearer ≡ None → model_of v ue bearer ≡ Some q → q.bearer ≡ made target first → HasRoom
  unfolding made
  made_room q first target none there is =
      room first o (opened_here reading n ue bearer s t gnb number cause input outputs v step sound first o not_before is_after)
    where
      owns : CuUpOwns v
      owns = subst (λ (w : CuUpRecord). CuUpOwns w) up_here (sound.owned_after.0 gnb number)

      has : is_one_of (ends_of n3 q.bearer) first ≡ true
      has = ap (λ (b : CuUpBearer). is_one_of (ends_of n3 b) first) is ∙ (λ i. number_same first i || false)

      o : Owned
      o = record { context = n.number_of (place gnb number q.instance); kind = n3 }

      is_after : owned_on n ue bearer t.units (up_id gnb number) first ≡ Some o
      is_after =
          ap (λ (w : CuUpRecord). owned_by n ue bearer gnb number (find nat_cmp w.tunnels first)) up_here
          ∙ ap (owned_by n ue bearer gnb number) (open_as v owns ue bearer q there n3 first has)
          ∙ ap (λ (b : Bool). if b then Some o else None) (itself ue bearer)

      not_before : owned_on n ue bearer s.units (up_id gnb number) first ≡ None
      not_before = by (owned_on n ue bearer s.units (up_id gnb number) first) refl
        where
          by : (w : Option Owned) → owned_on n ue bearer s.units (up_id gnb number) first ≡ w → owned_on n ue bearer s.units (up_id gnb number) first ≡ None
          by None e = e
          by (Some w) e =
              let f = found_on n ue bearer s.units gnb number first w e in
              let its = owner_is r (sound.owned.0 gnb number) ue bearer first f.0 f.1 f.2 in
              let clashes : None ≡ Some its.part = sym none ∙ its.there in absurd cc
