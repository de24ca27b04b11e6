-- A step of a CU-UP in a run puts on a DU's tunnel what its orders send there.
use Rattle.std.proofs.Common.{◌≡◌, ℕ, Bool, true, false, List, [], ◌∷◌, ◌++◌, map, Option, Some, None, refl, sym, ap, subst, ◌∙◌}
use Rattle.std.specs.Prelude.{if◌then◌else◌}
use Rattle.std.specs.List.{AllByRecursion}
use Rattle.std.specs.Ordering.{nat_cmp, eq_by_cmp}
use Rattle.std.specs.Cmp.{Equal-is}
use Rattle.gnb_types.specs.declared.names.Gnb.{Gnb}
use Rattle.gnb_types.specs.declared.names.NodeId.TheVariants.{CuUp as up_id, Du as du_id}
use Rattle.gnb_types.specs.declared.names.UeId.{UeId}
use Rattle.gnb_types.specs.declared.names.BearerId.{BearerId}
use Rattle.gnb_types.specs.declared.keys.TunnelEnd.{TunnelEnd}
use Rattle.gnb_types.specs.Orders.{bearer_cmp, tunnel_cmp, ue_cmp}
use Rattle.gnb_types.proofs.OrderLemmas.{tunnel_exact}
use Rattle.tables.specs.Tables.{find}
use Rattle.message_types.specs.declared.rrc.Token.{Token}
use Rattle.unit_defs.specs.CuUp.{cu_up_acts}
use Rattle.unit_defs.specs.Du.{DuTunnel}
use Rattle.unit_defs.specs.CuUpRecords.{CuUpBearer, CuUpContext}
use Rattle.unit_defs.specs.Ways.{Pdu, Input, gives, spent}
use Rattle.proof_cu_up_orders.proofs.context_rows.Rows.{all_does, follows}
use Rattle.proof_cu_up_orders.specs.context_orders.Inputs.{orders_of}
use Rattle.proof_cu_up_orders.specs.context_orders.Orders.{model_of, model_of_bearer, model_in, carried}
use Rattle.proof_cu_up_orders.specs.context_orders.Shown.{is_bearer, Comes, Follows}
use Rattle.law_tunnels_are_owned.specs.owner_facts.Owned.{AreOwned}
use Rattle.law_tunnels_are_owned.specs.run_tunnels.Own.{IsOwnAt, TunnelsHoldTheirOwn}
use Rattle.proof_bearer_refinement.specs.run_unit_inputs.Happenings.{CuUpRecord}
use Rattle.proof_run_steps.specs.tunnel_steps.Standing.{standing, after_puts, after_taking}
use Rattle.proof_run_steps.specs.steps.Causes.{by_order, by_tick, by_octets, by_octets_on, by_attach, by_release, by_offer, by_item, by_air, by_ack, by_control_message, node_of, count_of}
use Rattle.run_defs.specs.Runs.{Reading, plain_world, plain_way}
use Rattle.run_defs.specs.States.{Lengths, sn_of}
use Rattle.run_defs.specs.Units.{du_of, cu_up_of, with_cu_up}
use Rattle.run_defs.specs.Written.{written_put}
use Rattle.proof_run_steps.proofs.tunnel_steps.Tracks.{acts_so, comes_after}
use Rattle.proof_bearer_refinement.specs.refinement_facts.Asked.{IsUpStep, RunCause}
use Rattle.proof_bearer_refinement.specs.refinement_facts.Refinements.{RunItem, RunState}
use Rattle.proof_bearer_refinement.proofs.refinement_facts.Ends.{others_leave, written_leaves}
use Rattle.proof_bearer_refinement.proofs.refinement_facts.Puts.{Outs, put_there}
use Rattle.proof_bearer_refinement.specs.f1u_frames.Frames.{du_end, frames_in, frames_sent}
use Rattle.proof_bearer_refinement.proofs.f1u_frames.Puts.{frames_both, frames_to, frames_kept, frames_written, IsItsOwn, as_own, own_from}
use Rattle.proof_bearer_refinement.proofs.f1u_frames.Rows.{IsNamed, all_sent, Row}

all_right : {X : Type 0} (Q : X → Type 0) (xs ys : List X) → AllByRecursion Q (xs ++ ys) → AllByRecursion Q ys
all_right Q [] ys all = all
all_right Q (x ∷ xs) ys all = all_right Q xs ys all.1

named : (end : TunnelEnd) (r : CuUpRecord) (ue : UeId) (bearer : BearerId) → IsNamed end ue bearer (model_of r ue bearer)
named end r ue bearer = by_context (find ue_cmp r.contexts ue)
  where
    by_bearer : (c : CuUpContext) (o : Option CuUpBearer) → IsNamed end ue bearer (model_of_bearer ue c bearer o)
    by_bearer c None = tt
    by_bearer c (Some b) = (refl, refl)

    by_context : (o : Option CuUpContext) → IsNamed end ue bearer (model_in ue bearer o)
    by_context None = tt
    by_context (Some c) = by_bearer c (find bearer_cmp c.bearers bearer)

module _ (reading : Reading) (ue : UeId) (bearer : BearerId) (s t : RunState) (gnb : Gnb) (number : ℕ) (cause : RunCause) (input : Input Token Pdu)
    (outputs : Outs) (v : CuUpRecord) (step : IsUpStep reading s t gnb number cause input outputs v) (owned : AreOwned s.units) (holds_own : TunnelsHoldTheirOwn t)
    (du : Gnb) (place teid : ℕ) (owner : DuTunnel) (found : find nat_cmp (du_of t.units du place).tunnels teid ≡ Some owner)
    (own : is_bearer ue bearer owner.ue owner.bearer ≡ true) where
  abbrev end : TunnelEnd
  end = du_end du place teid

  abbrev r : CuUpRecord
  r = cu_up_of s.units gnb number

  abbrev lengths : Lengths
  lengths = sn_of s

  far : end.node ≡ node_of cause → ⊥
  far e = let same : du_id du place ≡ up_id gnb number = e ∙ step.node in absurd cc

  -- a CU-UP takes nothing there
  not_taken : (items : List RunItem) → after_taking end cause (Some items) ≡ Some items
  not_taken items = by cause far
    where
      item_from : (from : TunnelEnd) (rest : List RunItem) → (end.node ≡ from.node → ⊥) → (b : Bool) → eq_by_cmp tunnel_cmp end from ≡ b → (if b then Some rest else Some items) ≡ Some items
      item_from from rest apart true e = absurd (apart (ap (λ (o : TunnelEnd). o.node) (tunnel_exact end from ((Equal-is (tunnel_cmp end from)).0 e))))
      item_from from rest apart false e = refl

      by : (c : RunCause) → (end.node ≡ node_of c → ⊥) → after_taking end c (Some items) ≡ Some items
      by (by_item from item rest) apart = item_from from rest apart (eq_by_cmp tunnel_cmp end from) refl
      by (by_order node order) apart = refl
      by (by_tick node) apart = refl
      by (by_octets from to octets) apart = refl
      by (by_octets_on e octets) apart = refl
      by (by_attach plan) apart = refl
      by (by_release g w) apart = refl
      by (by_offer w c p) apart = refl
      by (by_air key home item) apart = refl
      by (by_ack key home item rest) apart = refl
      by (by_control_message k l to) apart = refl

  abbrev puts : List RunItem
  puts = put_there lengths end (count_of cause) outputs

  stands_then : (items : List RunItem) → standing s end ≡ Some items → standing t end ≡ Some (items ++ puts)
  stands_then items there =
      acts_so (plain_world reading) end cause (map (written_put lengths) outputs) (with_cu_up s.units gnb number v) s t step.lines step.goes_on
      ∙ ap (λ c. after_puts end (node_of cause) (count_of cause) (map (written_put lengths) outputs) (after_taking end cause c)) there
      ∙ ap (after_puts end (node_of cause) (count_of cause) (map (written_put lengths) outputs)) (not_taken items)
      ∙ comes_after end (node_of cause) (count_of cause) (map (written_put lengths) outputs) items
      (written_leaves lengths end (node_of cause) outputs (others_leave end (node_of cause) far outputs))

  comes_so : Comes ue bearer outputs v (carried plain_way ue bearer (orders_of plain_way r ue bearer input) (model_of r ue bearer))
  comes_so =
      subst (Follows ue bearer (carried plain_way ue bearer (orders_of plain_way r ue bearer input) (model_of r ue bearer))) step.answers
      (follows plain_way ue bearer (cu_up_acts plain_way r input) (carried plain_way ue bearer (orders_of plain_way r ue bearer input) (model_of r ue bearer))
      (all_does plain_way ue bearer r input (owned.0 gnb number).1))

  frames_are : AllByRecursion (IsItsOwn end ue bearer) outputs
      → frames_in puts ≡ frames_sent end ue bearer (orders_of plain_way r ue bearer input) (model_of r ue bearer)
  frames_are its =
      by (carried plain_way ue bearer (orders_of plain_way r ue bearer input) (model_of r ue bearer)) refl comes_so
    where
      by : (a : Row) → carried plain_way ue bearer (orders_of plain_way r ue bearer input) (model_of r ue bearer) ≡ a → Comes ue bearer outputs v a
          → frames_in puts ≡ frames_sent end ue bearer (orders_of plain_way r ue bearer input) (model_of r ue bearer)
      by (spent n) at comes = absurd comes
      by (gives more q) at comes =
          let all = all_sent end ue bearer (orders_of plain_way r ue bearer input) (model_of r ue bearer) (named end r ue bearer) more q at in
          frames_written end ue bearer lengths (count_of cause) outputs its
          ∙ sym (frames_kept end ue bearer outputs (as_own end ue bearer outputs its))
          ∙ ap (λ (os : Outs). frames_to end os) comes.0 ∙ frames_kept end ue bearer more all.1 ∙ all.0

  pub tunnel_has : (items : List RunItem) → standing s end ≡ Some items
      → (then_there : List RunItem) × (standing t end ≡ Some then_there)
      × (frames_in then_there ≡ frames_in items ++ frames_sent end ue bearer (orders_of plain_way r ue bearer input) (model_of r ue bearer))
  tunnel_has items there =
      let stands = stands_then items there in
      let its = own_from lengths t.units du place teid (count_of cause) ue bearer owner found own outputs
      (all_right (λ (item : RunItem). IsOwnAt t.units (du_id du place) teid item.key item.content.says) items puts (holds_own end (items ++ puts) stands)) in
      (items ++ puts, stands, frames_both items puts ∙ ap (λ zs. frames_in items ++ zs) (frames_are its))
