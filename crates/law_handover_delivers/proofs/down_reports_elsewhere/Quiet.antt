-- The core, CU-CPs and terminals put no status report for a terminal.
use Rattle.std.proofs.Common.{◌≡◌, ℕ, true, List, [], ◌∷◌, Option, ap, ◌∙◌}
use Rattle.std.specs.Ordering.{eq_by_cmp}
use Rattle.std.specs.Cmp.{Equal-is}
use Rattle.gnb_types.specs.declared.names.NodeId.{NodeId}
use Rattle.gnb_types.specs.declared.names.NodeId.TheVariants.{CuCp, CuUp as up_id, Du as du_id, Core, Ue}
use Rattle.gnb_types.specs.declared.names.Dir.{Dir}
use Rattle.gnb_types.specs.declared.names.Dir.TheVariants.{Dl, Ul}
use Rattle.gnb_types.specs.declared.names.UeId.{UeId}
use Rattle.gnb_types.specs.declared.names.BearerId.{BearerId}
use Rattle.gnb_types.specs.declared.keys.EntityKey.{EntityKey}
use Rattle.gnb_types.specs.Orders.{entity_cmp}
use Rattle.gnb_types.proofs.OrderLemmas.{entity_exact}
use Rattle.message_types.specs.declared.rrc.Token.{Token}
use Rattle.scenario_text.specs.declared.event.Event.{Event}
use Rattle.unit_defs.specs.Ways.{Message, Pdu, Load, fresh, numbered, frame, uplink, status, end_marker, control, packet, radio, deliver, dropped, held, opened, closed, failed, no}
use Rattle.run_defs.specs.Lines.{RunLine}
use Rattle.run_defs.specs.Units.{Units}
use Rattle.run_defs.specs.States.{entity, goes}
use Rattle.run_defs.specs.Steps.{carried_out}
use Rattle.run_defs.specs.Runs.{Reading, plain_world}
use Rattle.proof_run_steps.specs.steps.Causes.{node_of, count_of, first_of}
use Rattle.proof_run_steps.specs.facts.Facts.{PutsFit}
use Rattle.proof_run_steps.specs.facts.UnitFacts.{written_facts}
use Rattle.law_tunnels_are_owned.specs.link_items.Items.{MayPut, IsOfN3}
use Rattle.law_tunnels_are_owned.proofs.link_items.Names.{link_items}
use Rattle.law_terminals_are_isolated.specs.own_steps.Own.{IsActed}
use Rattle.proof_bearer_refinement.specs.downlink_radio.Down.{down_key}
use Rattle.proof_bearer_refinement.specs.uplink_radio.Radio.{RunState, RunCause}
use Rattle.proof_bearer_refinement.specs.runs.Fair.{IsFair}
use Rattle.proof_bearer_refinement.proofs.runs.Fair.{puts_fit}
use Rattle.law_handover_delivers.specs.down_reports.Reports.{LoadIsTrue, ReportsDownAreTrue, RunPut, PutsAreTrue}
use Rattle.law_handover_delivers.proofs.down_reports.Airs.{told_then}
use Rattle.law_handover_delivers.specs.down_reports_elsewhere.Nodes.{PutsNoReport}

-- ---- and no report for a terminal

module _ (reached : ℕ) where
  of_n3 : (load : Load Pdu) → IsOfN3 load → LoadIsTrue reached load
  of_n3 (fresh p) fit = tt
  of_n3 end_marker fit = tt
  of_n3 (numbered sn count p) fit = tt
  of_n3 (frame poll restart number pdu) fit = absurd fit
  of_n3 (uplink pdu) fit = tt
  of_n3 (status lost delivered) fit = tt

  tells_none : (node to : NodeId) (dir : Dir) (load : Load Pdu) → PutsNoReport node → MayPut node to dir load → LoadIsTrue reached load
  tells_none Core (up_id g k) Dl load none may = of_n3 load may
  tells_none Core (up_id g k) Ul load none may = absurd may
  tells_none Core (du_id g k) dir load none may = absurd may
  tells_none Core (CuCp g) dir load none may = absurd may
  tells_none Core Core dir load none may = absurd may
  tells_none Core (Ue w) dir load none may = absurd may
  tells_none (CuCp g) to dir load none may = absurd may
  tells_none (Ue w) to dir load none may = absurd may
  tells_none (up_id g k) to dir load none may = absurd none
  tells_none (du_id g k) to dir load none may = absurd none

  goes_up : (ue : UeId) (bearer : BearerId) (who : UeId) (q : BearerId) (dir : Dir) → dir ≡ Ul
      → eq_by_cmp entity_cmp (down_key ue bearer) (entity who q dir) ≡ true → ⊥
  goes_up ue bearer who q dir up refinement =
      let same : down_key ue bearer ≡ entity who q dir
      = entity_exact (down_key ue bearer) (entity who q dir) ((Equal-is (entity_cmp (down_key ue bearer) (entity who q dir))).0 refinement) in
      let never : Dl ≡ Ul = ap (λ (k : EntityKey). k.dir) same ∙ up in cc

  pub none_tell : (ue : UeId) (bearer : BearerId) (node : NodeId) (taken : Option ℕ) (outputs : List RunPut) → PutsNoReport node
      → PutsFit (written_facts link_items) node taken outputs → PutsAreTrue ue bearer reached outputs
  none_tell ue bearer node taken [] none fit = tt
  none_tell ue bearer Core taken (radio who q dir epoch tag pdu ∷ outputs) none fit = absurd fit.0.0
  none_tell ue bearer (CuCp g) taken (radio who q dir epoch tag pdu ∷ outputs) none fit = absurd fit.0.0
  none_tell ue bearer (up_id g k) taken (radio who q dir epoch tag pdu ∷ outputs) none fit = absurd none
  none_tell ue bearer (du_id g k) taken (radio who q dir epoch tag pdu ∷ outputs) none fit = absurd none
  none_tell ue bearer (Ue w) taken (radio who q dir epoch tag pdu ∷ outputs) none fit =
      ((λ refinement. absurd (goes_up ue bearer who q dir fit.0.0.1 refinement)), none_tell ue bearer (Ue w) taken outputs none fit.1)
  none_tell ue bearer node taken (packet to teid who q dir tag load ∷ outputs) none fit =
      ((λ own. tells_none node to dir load.says none fit.0.0.1), none_tell ue bearer node taken outputs none fit.1)
  none_tell ue bearer node taken (control to u m ∷ outputs) none fit = (tt, none_tell ue bearer node taken outputs none fit.1)
  none_tell ue bearer node taken (deliver u b dir count x ∷ outputs) none fit = (tt, none_tell ue bearer node taken outputs none fit.1)
  none_tell ue bearer node taken (dropped reason ∷ outputs) none fit = (tt, none_tell ue bearer node taken outputs none fit.1)
  none_tell ue bearer node taken (held reason ∷ outputs) none fit = (tt, none_tell ue bearer node taken outputs none fit.1)
  none_tell ue bearer node taken (opened teid ∷ outputs) none fit = (tt, none_tell ue bearer node taken outputs none fit.1)
  none_tell ue bearer node taken (closed teid ∷ outputs) none fit = (tt, none_tell ue bearer node taken outputs none fit.1)
  none_tell ue bearer node taken (failed u cause ∷ outputs) none fit = (tt, none_tell ue bearer node taken outputs none fit.1)
  none_tell ue bearer node taken (no reason ∷ outputs) none fit = (tt, none_tell ue bearer node taken outputs none fit.1)

pub quiet_keeps : (reading : Reading) (ue : UeId) (bearer : BearerId) (reached : ℕ) (s t : RunState) (event : Event) (cause : RunCause)
    (outputs : List RunPut) (units : Units (Message Token) Token) (lines : List (RunLine (Message Token)))
    → IsFair s → IsActed (plain_world reading) event s cause outputs units → PutsNoReport (node_of cause)
    → carried_out (plain_world reading) (node_of cause) (count_of cause) (first_of (plain_world reading) cause) outputs units s ≡ goes lines t
    → ReportsDownAreTrue ue bearer reached s → ReportsDownAreTrue ue bearer reached t
quiet_keeps reading ue bearer reached s t event cause outputs units lines fair acted none is told =
    told_then ue bearer reached reading event s t cause outputs units lines acted.stands is told
    (none_tell reached ue bearer (node_of cause) (count_of cause) outputs none (puts_fit reading s event cause outputs units fair acted))
