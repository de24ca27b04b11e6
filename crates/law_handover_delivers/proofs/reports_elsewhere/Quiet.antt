-- A CU-CP and a CU-UP put no report of what was received.
use Rattle.std.proofs.Common.{◌≡◌, ℕ, List, [], ◌∷◌, Option}
use Rattle.gnb_types.specs.declared.names.NodeId.{NodeId}
use Rattle.gnb_types.specs.declared.names.NodeId.TheVariants.{CuCp, CuUp as up_id, Du as du_id, Core, Ue}
use Rattle.gnb_types.specs.declared.names.Dir.{Dir}
use Rattle.gnb_types.specs.declared.names.Dir.TheVariants.{Dl, Ul}
use Rattle.gnb_types.specs.declared.names.UeId.{UeId}
use Rattle.gnb_types.specs.declared.names.BearerId.{BearerId}
use Rattle.message_types.specs.declared.rrc.Token.{Token}
use Rattle.scenario_text.specs.declared.event.Event.{Event}
use Rattle.unit_defs.specs.Ways.{Message, Pdu, Load, fresh, numbered, frame, uplink, status, end_marker, control, packet, radio, deliver, dropped, held, opened, closed, failed, no}
use Rattle.run_defs.specs.Lines.{RunLine}
use Rattle.run_defs.specs.Units.{Units}
use Rattle.run_defs.specs.States.{goes}
use Rattle.run_defs.specs.Steps.{carried_out}
use Rattle.run_defs.specs.Runs.{Reading, plain_world}
use Rattle.proof_run_steps.specs.steps.Causes.{node_of, count_of, first_of}
use Rattle.proof_run_steps.specs.facts.Facts.{PutsFit}
use Rattle.proof_run_steps.specs.facts.UnitFacts.{written_facts}
use Rattle.law_terminals_are_isolated.specs.own_steps.Own.{IsActed}
use Rattle.law_tunnels_are_owned.specs.link_items.Items.{MayPut, GoesToDu, IsForwardedDown, IsForwardedUp}
use Rattle.law_tunnels_are_owned.proofs.link_items.Names.{link_items}
use Rattle.proof_bearer_refinement.specs.uplink_radio.Radio.{RunState, RunCause}
use Rattle.proof_bearer_refinement.specs.frame_downlink_radio.Nodes.{HasNoRadio}
use Rattle.proof_bearer_refinement.specs.runs.Fair.{IsFair}
use Rattle.proof_bearer_refinement.proofs.runs.Fair.{puts_fit}
use Rattle.law_handover_delivers.specs.report_links.Reports.{LoadIsTrue, ReportsAreTrue, RunPut, PutsAreTrue}
use Rattle.law_handover_delivers.proofs.report_links.Airs.{told_then}

-- ---- a CU-UP puts frames, and forwards

module _ (deliv : ℕ) where
  framed : (load : Load Pdu) → GoesToDu load → LoadIsTrue deliv load
  framed (frame poll restart number pdu) fit = tt
  framed (fresh p) fit = tt
  framed (numbered sn count p) fit = tt
  framed (uplink pdu) fit = absurd fit
  framed (status lost delivered) fit = absurd fit
  framed end_marker fit = tt

  forwarded : (load : Load Pdu) → IsForwardedDown load → LoadIsTrue deliv load
  forwarded (frame poll restart number pdu) fit = tt
  forwarded (fresh p) fit = tt
  forwarded (numbered sn count p) fit = tt
  forwarded (uplink pdu) fit = absurd fit
  forwarded (status lost delivered) fit = absurd fit
  forwarded end_marker fit = tt

  forwarded_up : (load : Load Pdu) → IsForwardedUp load → LoadIsTrue deliv load
  forwarded_up (frame poll restart number pdu) fit = tt
  forwarded_up (fresh p) fit = tt
  forwarded_up (numbered sn count p) fit = tt
  forwarded_up (uplink pdu) fit = absurd fit
  forwarded_up (status lost delivered) fit = absurd fit
  forwarded_up end_marker fit = tt

  tells_none : (node to : NodeId) (dir : Dir) (load : Load Pdu) → HasNoRadio node → MayPut node to dir load → LoadIsTrue deliv load
  tells_none (up_id g k) (du_id h m) Dl load none may = framed load may
  tells_none (up_id g k) (up_id h m) Dl load none may = forwarded load may
  tells_none (up_id g k) (up_id h m) Ul load none may = forwarded_up load may
  tells_none (up_id g k) (du_id h m) Ul load none may = absurd may
  tells_none (up_id g k) (CuCp h) dir load none may = absurd may
  tells_none (up_id g k) Core dir load none may = absurd may
  tells_none (up_id g k) (Ue w) dir load none may = absurd may
  tells_none (CuCp g) to dir load none may = absurd may
  tells_none (du_id g k) to dir load none may = absurd none
  tells_none Core to dir load none may = absurd none
  tells_none (Ue k) to dir load none may = absurd none

  pub none_tell : (ue : UeId) (bearer : BearerId) (node : NodeId) (taken : Option ℕ) (outputs : List RunPut) → HasNoRadio node
      → PutsFit (written_facts link_items) node taken outputs → PutsAreTrue ue bearer deliv outputs
  none_tell ue bearer node taken [] none fit = tt
  none_tell ue bearer (CuCp g) taken (radio who q dir epoch tag pdu ∷ outputs) none fit = absurd fit.0.0
  none_tell ue bearer (up_id g k) taken (radio who q dir epoch tag pdu ∷ outputs) none fit = absurd fit.0.0
  none_tell ue bearer (du_id g k) taken (radio who q dir epoch tag pdu ∷ outputs) none fit = absurd none
  none_tell ue bearer Core taken (radio who q dir epoch tag pdu ∷ outputs) none fit = absurd none
  none_tell ue bearer (Ue k) taken (radio who q dir epoch tag pdu ∷ outputs) none fit = absurd none
  none_tell ue bearer node taken (packet to teid who q dir tag load ∷ outputs) none fit =
      ((λ own. tells_none node to dir load.says none fit.0.0.1), none_tell ue bearer node taken outputs none fit.1)
  none_tell ue bearer node taken (control to u m ∷ outputs) none fit = (tt, none_tell ue bearer node taken outputs none fit.1)
  none_tell ue bearer node taken (deliver u b dir count x ∷ outputs) none fit = (tt, none_tell ue bearer node taken outputs none fit.1)
  none_tell ue bearer node taken (dropped reason ∷ outputs) none fit = (tt, none_tell ue bearer node taken outputs none fit.1)
  none_tell ue bearer node taken (held reason ∷ outputs) none fit = (tt, none_tell ue bearer node taken outputs none fit.1)
  none_tell ue bearer node taken (opened teid ∷ outputs) none fit = (tt, none_tell ue bearer node taken outputs none fit.1)
  none_tell ue bearer node taken (closed teid ∷ outputs) none fit = (tt, none_tell ue bearer node taken outputs none fit.1)
  none_tell ue bearer node taken (failed u cause ∷ outputs) none fit = (tt, none_tell ue bearer node taken outputs none fit.1)
  none_tell ue bearer node taken (no reason ∷ outputs) none fit = (tt, none_tell ue bearer node taken outputs none fit.1)

pub quiet_keeps : (reading : Reading) (ue : UeId) (bearer : BearerId) (deliv : ℕ) (s t : RunState) (event : Event) (cause : RunCause)
    (outputs : List RunPut) (units : Units (Message Token) Token) (lines : List (RunLine (Message Token)))
    → IsFair s → IsActed (plain_world reading) event s cause outputs units → HasNoRadio (node_of cause)
    → carried_out (plain_world reading) (node_of cause) (count_of cause) (first_of (plain_world reading) cause) outputs units s ≡ goes lines t
    → ReportsAreTrue ue bearer deliv s → ReportsAreTrue ue bearer deliv t
quiet_keeps reading ue bearer deliv s t event cause outputs units lines fair acted none is told =
    told_then ue bearer deliv reading event s t cause outputs units lines acted.stands is told
    (none_tell deliv ue bearer (node_of cause) (count_of cause) outputs none (puts_fit reading s event cause outputs units fair acted))
