-- What stands on a bearer's links reports only what was received, after a set-up, octets to the core, and another terminal's step too.
use Rattle.std.proofs.Common.{◌≡◌, ℕ, zero, suc, ◌+◌, Bool, true, false, cond, List, [], ◌∷◌, Option, Some, None, sym, ap, subst, ◌∙◌}
use Rattle.std.specs.Prelude.{unwrap_or, ◌*◌}
use Rattle.std.specs.List.{AllByRecursion}
use Rattle.std.specs.Ordering.{eq_by_cmp}
use Rattle.gnb_types.specs.declared.names.NodeId.{NodeId}
use Rattle.gnb_types.specs.declared.names.NodeId.TheVariants.{CuUp as up_id, Du as du_id, Core, Ue}
use Rattle.gnb_types.specs.declared.names.UeId.{UeId}
use Rattle.gnb_types.specs.declared.names.BearerId.{BearerId}
use Rattle.gnb_types.specs.declared.keys.TunnelEnd.{TunnelEnd}
use Rattle.gnb_types.specs.declared.plans.Plan.{Plan}
use Rattle.gnb_types.specs.Orders.{tunnel_cmp}
use Rattle.gnb_types.proofs.OrderLemmas.{tunnel_total}
use Rattle.tables.specs.Tables.{find, at}
use Rattle.tables.proofs.TableLaws.{find-put}
use Rattle.message_types.specs.declared.rrc.Token.{Token}
use Rattle.unit_defs.specs.Ways.{Message, Pdu, Load, control, packet, radio, deliver, dropped, held, opened, closed, failed, no}
use Rattle.run_defs.specs.Units.{cu_up_of, du_of}
use Rattle.run_defs.specs.Written.{Written}
use Rattle.run_defs.specs.States.{CoreStepped, core_stepped}
use Rattle.run_defs.specs.Steps.{with_tunnel}
use Rattle.run_defs.specs.Conditions.{tunnels_from, statically}
use Rattle.run_defs.specs.Runs.{Reading}
use Rattle.proof_run_steps.specs.steps.Causes.{count_of}
use Rattle.proof_run_steps.specs.facts.Facts.{PutsFit}
use Rattle.proof_run_steps.specs.facts.UnitFacts.{written_facts}
use Rattle.law_tunnels_are_owned.proofs.link_items.Names.{link_items}
use Rattle.proof_bearer_refinement.specs.uplink_radio.Radio.{RunState, up_key, IsOff}
use Rattle.proof_bearer_refinement.specs.runs.Fair.{IsFair}
use Rattle.law_handover_delivers.specs.report_links.Reports.{StandingIsTrue, ReportsAreTrue, RunItem, RunPut, PutsAreTrue}
use Rattle.law_handover_delivers.proofs.report_links.Airs.{told_then, told_put}
use Rattle.proof_bearer_refinement.proofs.runs.Fair.{puts_fit}
use Rattle.law_handover_delivers.specs.report_runs.Steps.{OtherActs, CoreReads}

module _ (ue : UeId) (bearer : BearerId) (deliv : ℕ) where
  abbrev Tunnels : Type 0
  Tunnels = List (TunnelEnd × List RunItem)

  abbrev AllTold : Tunnels → Type 0
  AllTold ts = (end : TunnelEnd) → StandingIsTrue ue bearer deliv (find tunnel_cmp ts end)

  -- ---- tunnels are opened, with what stands there

  opened_told : (ts : Tunnels) (e : TunnelEnd) → AllTold ts → AllTold (with_tunnel e ts)
  unfolding at
  opened_told ts e told end =
      subst (StandingIsTrue ue bearer deliv) (sym (find-put tunnel_total ts e (at tunnel_cmp [] ts e) end)) (by (eq_by_cmp tunnel_cmp end e))
    where
      all : (o : Option (List RunItem)) → StandingIsTrue ue bearer deliv o → StandingIsTrue ue bearer deliv (Some (unwrap_or o []))
      all None h = tt
      all (Some items) h = h

      by : (t : Bool) → StandingIsTrue ue bearer deliv (cond t (Some (at tunnel_cmp [] ts e)) (find tunnel_cmp ts end))
      by true = all (find tunnel_cmp ts e) (told e)
      by false = told end

  from_told : (node : NodeId) (teid count : ℕ) (ts : Tunnels) → AllTold ts → AllTold (tunnels_from node teid count ts)
  from_told node teid zero ts told = told
  from_told node teid (suc count) ts told =
      from_told node (teid + 1) count (with_tunnel (record { node = node; teid = teid }) ts) (opened_told ts (record { node = node; teid = teid }) told)

  pub set_up_told : (plan : Plan) (s : RunState) → ReportsAreTrue ue bearer deliv s → ReportsAreTrue ue bearer deliv (statically plan s)
  set_up_told plan s told = record {
    tunnels =
        from_told (du_id plan.gnb plan.du) (du_of s.units plan.gnb plan.du).next_teid plan.bearers
        (tunnels_from (up_id plan.gnb plan.up) (cu_up_of s.units plan.gnb plan.up).next_teid (2 * plan.bearers) s.tunnels)
        (from_told (up_id plan.gnb plan.up) (cu_up_of s.units plan.gnb plan.up).next_teid (2 * plan.bearers) s.tunnels told.tunnels);
    radio = told.radio;
  }

  -- ---- the core drops octets from outside

  puts_of : CoreStepped (Message Token) Token (Written (Load Pdu)) (Written Pdu) → List RunPut
  puts_of (core_stepped outputs core) = outputs

  pub octets_told : (reading : Reading) (s t : RunState) → CoreReads reading s t → ReportsAreTrue ue bearer deliv s → ReportsAreTrue ue bearer deliv t
  unfolding puts_of
  octets_told reading s t reads told =
      told_put ue bearer deliv reading (record s { core = reads.core }) t Core None reads.outputs reads.lines reads.goes_on
      (record { tunnels = told.tunnels; radio = told.radio })
      (subst (λ (outputs : List RunPut). PutsAreTrue ue bearer deliv outputs) (ap puts_of reads.answers) (tt, tt))

  -- ---- another terminal puts nothing on tunnels, and on other radios

  others_tell : (number : ℕ) (taken : Option ℕ) (outputs : List RunPut) → PutsFit (written_facts link_items) (Ue number) taken outputs
      → AllByRecursion (IsOff (up_key ue bearer)) outputs → PutsAreTrue ue bearer deliv outputs
  others_tell number taken [] fit off = tt
  others_tell number taken (radio who q dir epoch tag pdu ∷ outputs) fit off =
      ((λ refinement. let never : true ≡ false = sym refinement ∙ off.0 in absurd cc), others_tell number taken outputs fit.1 off.1)
  others_tell number taken (packet to teid who q dir tag load ∷ outputs) fit off = absurd fit.0.0.1
  others_tell number taken (control to u m ∷ outputs) fit off = (tt, others_tell number taken outputs fit.1 off.1)
  others_tell number taken (deliver u b dir count x ∷ outputs) fit off = (tt, others_tell number taken outputs fit.1 off.1)
  others_tell number taken (dropped reason ∷ outputs) fit off = (tt, others_tell number taken outputs fit.1 off.1)
  others_tell number taken (held reason ∷ outputs) fit off = (tt, others_tell number taken outputs fit.1 off.1)
  others_tell number taken (opened teid ∷ outputs) fit off = (tt, others_tell number taken outputs fit.1 off.1)
  others_tell number taken (closed teid ∷ outputs) fit off = (tt, others_tell number taken outputs fit.1 off.1)
  others_tell number taken (failed u cause ∷ outputs) fit off = (tt, others_tell number taken outputs fit.1 off.1)
  others_tell number taken (no reason ∷ outputs) fit off = (tt, others_tell number taken outputs fit.1 off.1)

  pub other_told : (reading : Reading) (s t : RunState) → IsFair s → OtherActs reading ue bearer s t → ReportsAreTrue ue bearer deliv s
      → ReportsAreTrue ue bearer deliv t
  other_told reading s t fair a told =
      told_then ue bearer deliv reading a.event s t a.cause a.outputs a.units a.beside.lines a.acted.stands a.beside.goes_on told
      (others_tell a.number (count_of a.cause) a.outputs
      (subst (λ (node : NodeId). PutsFit (written_facts link_items) node (count_of a.cause) a.outputs) a.node
      (puts_fit reading s a.event a.cause a.outputs a.units fair a.acted)) a.beside.off)
