-- What leaves units, and tunnels of CU-UPs, leaves the bearer.
use Rattle.std.proofs.Common.{◌≡◌, ℕ, Bool, true, false, cond, List, [], ◌∷◌, Option, Some, None, refl, sym, ap, subst, ◌∙◌}
use Rattle.std.specs.Ordering.{eq_by_cmp}
use Rattle.std.specs.Cmp.{Equal-is}
use Rattle.gnb_types.specs.declared.names.NodeId.{NodeId}
use Rattle.gnb_types.specs.declared.names.NodeId.TheVariants.{CuCp, CuUp as up_id, Du as du_id, Core, Ue}
use Rattle.gnb_types.specs.declared.names.UeId.{UeId}
use Rattle.gnb_types.specs.declared.names.BearerId.{BearerId}
use Rattle.gnb_types.specs.declared.keys.TunnelEnd.{TunnelEnd}
use Rattle.gnb_types.specs.Orders.{tunnel_cmp}
use Rattle.gnb_types.proofs.OrderLemmas.{tunnel_total, tunnel_exact}
use Rattle.tables.specs.Tables.{find, put}
use Rattle.tables.proofs.TableLaws.{find-put}
use Rattle.message_types.specs.declared.rrc.Token.{Token}
use Rattle.unit_defs.specs.Core.{CoreRecord}
use Rattle.unit_defs.specs.Ways.{Message, Pdu, Load, Put, dropped}
use Rattle.run_defs.specs.Lines.{RunLine}
use Rattle.run_defs.specs.Units.{Units}
use Rattle.run_defs.specs.Written.{Written}
use Rattle.run_defs.specs.States.{octets_from, core_stepped, CoreStepped, goes, sn_of, ◌next◌}
use Rattle.run_defs.specs.Steps.{check_spans, put_out_all}
use Rattle.run_defs.specs.Events.{is_lossy}
use Rattle.run_defs.specs.Runs.{Reading, plain_world, fault_of}
use Rattle.proof_run_steps.specs.tunnel_steps.Standing.{standing, after_puts}
use Rattle.proof_run_steps.proofs.tunnel_steps.Tracks.{puts_so}
use Rattle.proof_bearer_refinement.specs.run_bearers.Things.{PlainUnits}
use Rattle.proof_bearer_refinement.specs.run_bearers.Bearers.{Numbering}
use Rattle.proof_bearer_refinement.specs.refinement_facts.Refinements.{RunState, RunItem, Owned, owned_on, owned_at}
use Rattle.proof_bearer_refinement.proofs.du_puts.Apart.{on_same, contexts_same}
use Rattle.proof_bearer_refinement.proofs.du_puts.Stands.{units_put}
use Rattle.proof_bearer_refinement.specs.runs.Steps.{LeavesBearer}
use Rattle.proof_bearer_refinement.specs.frame_lost_and_foreign.Left.{IsAlike, LosesItem}

module _ (n : Numbering) (ue : UeId) (bearer : BearerId) (s t : RunState) where
  left_by : t.units ≡ s.units → ((end : TunnelEnd) (o : Owned) → owned_at n ue bearer s.units end ≡ Some o → standing t end ≡ standing s end) → LeavesBearer n ue bearer s t
  left_by units tunnels =
      let ups = ap (λ (u : PlainUnits). u.ups) units in
      record {
        contexts = contexts_same n ue bearer s.units t.units ups;
        owners = λ end. on_same n ue bearer s.units t.units ups end.node end.teid;
        tunnels = tunnels;
      }

  pub alike_left : IsAlike s t → LeavesBearer n ue bearer s t
  alike_left h = left_by h.units (λ end o is. ap (λ (ts : List (TunnelEnd × List RunItem)). find tunnel_cmp ts end) h.tunnels)

  module _ (reading : Reading) where
    -- a bearer's tunnels end at CU-UPs, and a lossy one at a DU
    not_lossy : (node : NodeId) (teid : ℕ) (o : Owned) → owned_on n ue bearer s.units node teid ≡ Some o → is_lossy (plain_world reading) node ≡ true → ⊥
    not_lossy (up_id g k) teid o is lossy = absurd cc
    not_lossy (CuCp g) teid o is lossy = absurd cc
    not_lossy (du_id g k) teid o is lossy = absurd cc
    not_lossy Core teid o is lossy = absurd cc
    not_lossy (Ue k) teid o is lossy = absurd cc

    pub lost_left : LosesItem reading s t → LeavesBearer n ue bearer s t
    lost_left h = left_by h.units stays
      where
        stays : (end : TunnelEnd) (o : Owned) → owned_at n ue bearer s.units end ≡ Some o → standing t end ≡ standing s end
        stays end o is =
            ap (λ (ts : List (TunnelEnd × List RunItem)). find tunnel_cmp ts end) h.tunnels
            ∙ find-put tunnel_total s.tunnels h.end h.rest end ∙ by (eq_by_cmp tunnel_cmp end h.end) refl
          where
            by : (b : Bool) → eq_by_cmp tunnel_cmp end h.end ≡ b → cond b (Some h.rest) (find tunnel_cmp s.tunnels end) ≡ find tunnel_cmp s.tunnels end
            by false apart = refl
            by true refinement =
                let same : end ≡ h.end = tunnel_exact end h.end ((Equal-is (tunnel_cmp end h.end)).0 refinement) in
                absurd (not_lossy end.node end.teid o is (ap (λ (e : TunnelEnd). is_lossy (plain_world reading) e.node) same ∙ h.lossy))

    -- the core drops octets from outside
    pub read_left : (from : NodeId) (octets : List ℕ) (outputs : List (Put (Message Token) (Written (Load Pdu)) (Written Pdu)))
        (core : CoreRecord (Message Token) Token) (lines : List (RunLine (Message Token)))
        → (plain_world reading).core_answer (sn_of s) s.core (octets_from from octets) ≡ core_stepped outputs core
        → (put_out_all (plain_world reading) Core None outputs (record s { core = core }) next check_spans) ≡ goes lines t → LeavesBearer n ue bearer s t
    read_left from octets outputs core lines answers goes_on =
        left_by (units_put (plain_world reading) Core None outputs (record s { core = core }) t (lines, goes_on))
        (λ end o is. puts_so (plain_world reading) end Core None outputs (record s { core = core }) t lines goes_on
        ∙ ap (λ (os : List (Put (Message Token) (Written (Load Pdu)) (Written Pdu))). after_puts end Core None os (standing s end)) (sym outputs_are))
      where
        put_by : CoreStepped (Message Token) Token (Written (Load Pdu)) (Written Pdu) → List (Put (Message Token) (Written (Load Pdu)) (Written Pdu))
        put_by (core_stepped os r) = os

        outputs_are : dropped (fault_of reading Core (octets_from from octets)) ∷ [] ≡ outputs
        outputs_are = ap put_by answers
