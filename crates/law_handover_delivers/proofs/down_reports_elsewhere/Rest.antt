-- What stands on a bearer's links reports only what was carried up, after a set-up and after octets to the core too.
use Rattle.std.proofs.Common.{◌≡◌, ℕ, zero, suc, ◌+◌, Bool, true, false, cond, List, [], Option, Some, None, sym, ap, subst}
use Rattle.std.specs.Prelude.{unwrap_or, ◌*◌}
use Rattle.std.specs.Ordering.{eq_by_cmp}
use Rattle.gnb_types.specs.declared.names.NodeId.{NodeId}
use Rattle.gnb_types.specs.declared.names.NodeId.TheVariants.{CuUp as up_id, Du as du_id, Core}
use Rattle.gnb_types.specs.declared.names.UeId.{UeId}
use Rattle.gnb_types.specs.declared.names.BearerId.{BearerId}
use Rattle.gnb_types.specs.declared.keys.TunnelEnd.{TunnelEnd}
use Rattle.gnb_types.specs.declared.plans.Plan.{Plan}
use Rattle.gnb_types.specs.Orders.{tunnel_cmp}
use Rattle.gnb_types.proofs.OrderLemmas.{tunnel_total}
use Rattle.tables.specs.Tables.{find, at}
use Rattle.tables.proofs.TableLaws.{find-put}
use Rattle.message_types.specs.declared.rrc.Token.{Token}
use Rattle.unit_defs.specs.Ways.{Message, Pdu, Load}
use Rattle.unit_defs.specs.Core.{CoreRecord}
use Rattle.run_defs.specs.Lines.{RunLine}
use Rattle.run_defs.specs.Units.{cu_up_of, du_of}
use Rattle.run_defs.specs.Written.{Written}
use Rattle.run_defs.specs.States.{CoreStepped, core_stepped, goes, octets_from, sn_of, ◌next◌}
use Rattle.run_defs.specs.Steps.{with_tunnel, check_spans, put_out_all}
use Rattle.run_defs.specs.Conditions.{tunnels_from, statically}
use Rattle.run_defs.specs.Runs.{Reading, plain_world}
use Rattle.proof_bearer_refinement.specs.uplink_radio.Radio.{RunState}
use Rattle.law_handover_delivers.specs.down_reports.Reports.{StandingIsTrue, ReportsDownAreTrue, RunItem, RunPut, PutsAreTrue}
use Rattle.law_handover_delivers.proofs.down_reports.Airs.{told_put}

module _ (ue : UeId) (bearer : BearerId) (reached : ℕ) where
  abbrev Tunnels : Type 0
  Tunnels = List (TunnelEnd × List RunItem)

  abbrev AllTold : Tunnels → Type 0
  AllTold ts = (end : TunnelEnd) → StandingIsTrue ue bearer reached (find tunnel_cmp ts end)

  -- ---- tunnels are opened, with what stands there

  opened_told : (ts : Tunnels) (e : TunnelEnd) → AllTold ts → AllTold (with_tunnel e ts)
  unfolding at
  opened_told ts e told end =
      subst (StandingIsTrue ue bearer reached) (sym (find-put tunnel_total ts e (at tunnel_cmp [] ts e) end)) (by (eq_by_cmp tunnel_cmp end e))
    where
      all : (o : Option (List RunItem)) → StandingIsTrue ue bearer reached o → StandingIsTrue ue bearer reached (Some (unwrap_or o []))
      all None h = tt
      all (Some items) h = h

      by : (t : Bool) → StandingIsTrue ue bearer reached (cond t (Some (at tunnel_cmp [] ts e)) (find tunnel_cmp ts end))
      by true = all (find tunnel_cmp ts e) (told e)
      by false = told end

  from_told : (node : NodeId) (teid count : ℕ) (ts : Tunnels) → AllTold ts → AllTold (tunnels_from node teid count ts)
  from_told node teid zero ts told = told
  from_told node teid (suc count) ts told =
      from_told node (teid + 1) count (with_tunnel (record { node = node; teid = teid }) ts) (opened_told ts (record { node = node; teid = teid }) told)

  pub set_up_told : (plan : Plan) (s : RunState) → ReportsDownAreTrue ue bearer reached s → ReportsDownAreTrue ue bearer reached (statically plan s)
  set_up_told plan s told = record {
    tunnels =
        from_told (du_id plan.gnb plan.du) (du_of s.units plan.gnb plan.du).next_teid plan.bearers
        (tunnels_from (up_id plan.gnb plan.up) (cu_up_of s.units plan.gnb plan.up).next_teid (2 * plan.bearers) s.tunnels)
        (from_told (up_id plan.gnb plan.up) (cu_up_of s.units plan.gnb plan.up).next_teid (2 * plan.bearers) s.tunnels told.tunnels);
    radio = told.radio;
  }

  -- ---- the core drops octets from outside

  puts_of : CoreStepped (Message Token) Token (Written (Load Pdu)) (Written Pdu) → List RunPut
  puts_of (core_stepped outputs core) = outputs

  pub octets_told : (reading : Reading) (s t : RunState) (from : NodeId) (octets : List ℕ) (outputs : List RunPut) (core : CoreRecord (Message Token) Token)
      (lines : List (RunLine (Message Token)))
      → (plain_world reading).core_answer (sn_of s) s.core (octets_from from octets) ≡ core_stepped outputs core
      → (put_out_all (plain_world reading) Core None outputs (record s { core = core }) next check_spans) ≡ goes lines t
      → ReportsDownAreTrue ue bearer reached s → ReportsDownAreTrue ue bearer reached t
  unfolding puts_of
  octets_told reading s t from octets outputs core lines answers goes_on told =
      told_put ue bearer reached reading (record s { core = core }) t Core None outputs lines goes_on
      (record { tunnels = told.tunnels; radio = told.radio })
      (subst (λ (os : List RunPut). PutsAreTrue ue bearer reached os) (ap puts_of answers) (tt, tt))
