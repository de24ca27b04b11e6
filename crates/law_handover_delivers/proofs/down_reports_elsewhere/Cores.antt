-- The core puts packets and End Markers of N3, which report nothing.
use Rattle.std.proofs.Common.{ℕ, List, [], ◌∷◌, map, None, ap}
use Rattle.gnb_types.specs.declared.names.NodeId.TheVariants.{Core}
use Rattle.gnb_types.specs.declared.names.Dir.TheVariants.{Dl}
use Rattle.gnb_types.specs.declared.names.UeId.{UeId}
use Rattle.gnb_types.specs.declared.names.BearerId.{BearerId}
use Rattle.gnb_types.specs.declared.outputs.Tag.TheVariants.{Absent}
use Rattle.message_types.specs.declared.rrc.Token.{Token}
use Rattle.unit_defs.specs.Ways.{Message, Pdu, fresh, Output, packet}
use Rattle.unit_defs.specs.Messages.{teid_of}
use Rattle.unit_defs.specs.Core.{CorePath, CoreRecord}
use Rattle.transport_defs.specs.declared.ControlMessage.{ControlMessage}
use Rattle.transport_defs.specs.Links.{landed}
use Rattle.run_defs.specs.Lines.{got_message}
use Rattle.run_defs.specs.Written.{written_put}
use Rattle.run_defs.specs.States.{control_message_for, entity, sn_of, ◌next◌}
use Rattle.run_defs.specs.Steps.{check_spans, put_on_tunnel, put_out_all}
use Rattle.run_defs.specs.Events.{offered}
use Rattle.run_defs.specs.Runs.{Reading, plain_world, core_done}
use Rattle.proof_run_steps.specs.facts.Facts.{Hold, PutsFit}
use Rattle.proof_run_steps.specs.facts.UnitFacts.{written_facts}
use Rattle.proof_run_steps.proofs.facts.Plain.{plain_kept}
use Rattle.law_tunnels_are_owned.proofs.link_items.Names.{link_items}
use Rattle.law_tunnels_are_owned.proofs.link_items.Links.{items_keep}
use Rattle.proof_bearer_refinement.proofs.du_puts.Stands.{Ends, after_told, and_no_more}
use Rattle.proof_bearer_refinement.specs.core_step.Core.{IsCoreStep, IsOffer}
use Rattle.proof_bearer_refinement.specs.uplink_radio.Radio.{RunState}
use Rattle.proof_bearer_refinement.specs.runs.Fair.{IsFair}
use Rattle.law_handover_delivers.specs.down_reports.Reports.{ReportsDownAreTrue, RunPut}
use Rattle.law_handover_delivers.proofs.down_reports.Airs.{told_put}
use Rattle.law_handover_delivers.proofs.down_reports_elsewhere.Quiet.{none_tell}

-- ---- a message

pub message_keeps : (reading : Reading) (s t : RunState) (ue : UeId) (bearer : BearerId) (reached : ℕ) (number : ℕ) (l : ControlMessage (Message Token))
    (outputs : List (Output (Message Token) Pdu)) (core : CoreRecord (Message Token) Token) → IsFair s
    → IsCoreStep reading s t number l outputs core → ReportsDownAreTrue ue bearer reached s → ReportsDownAreTrue ue bearer reached t
message_keeps reading s t ue bearer reached number l outputs core fair step told =
    let puts : List RunPut = map (written_put (sn_of s)) outputs in
    let holds : Hold (written_facts link_items) s = fair.items in
    let fit : PutsFit (written_facts link_items) Core None puts
    = ((plain_kept link_items items_keep reading).core_answers (sn_of s) s.core core (control_message_for l.from l.message) puts holds.core (0, tt)
    (ap (core_done reading (sn_of s) s.core) step.answers)).1 in
    let at_core : RunState = record s { core = core; bag = landed s.bag number } in
    let its_end : Ends (plain_world reading) (put_out_all (plain_world reading) Core None puts at_core next check_spans) t
    = after_told (plain_world reading) (got_message number l ∷ []) (put_out_all (plain_world reading) Core None puts at_core) t step.lines step.goes_on in
    told_put ue bearer reached reading at_core t Core None puts its_end.0 its_end.1 (record { tunnels = told.tunnels; radio = told.radio })
    (none_tell reached ue bearer Core None puts tt fit)

-- ---- an offered packet

module _ (reading : Reading) (s t : RunState) (ue : UeId) (bearer : BearerId) (reached : ℕ) (who : UeId) (which : BearerId) (sdu : List ℕ) (path : CorePath)
    (step : IsOffer reading s t who which sdu path) (told : ReportsDownAreTrue ue bearer reached s) where
  abbrev its_teid : ℕ
  its_teid = teid_of path.n3 which

  abbrev outputs : List (Output (Message Token) Pdu)
  outputs = packet path.up its_teid who which Dl Absent (fresh sdu) ∷ []

  abbrev noted : RunState
  noted = offered (plain_world reading) (entity who which Dl) s

  went : Ends (plain_world reading) (put_out_all (plain_world reading) Core None (map (written_put (sn_of s)) outputs) noted next check_spans) t
  unfolding put_out_all
  went =
      and_no_more (plain_world reading) Core None
      (put_on_tunnel (plain_world reading) (record { node = path.up; teid = its_teid })
      (record { key = entity who which Dl; count = None; content = (plain_world reading).lay_n3 its_teid sdu }) noted)
      t step.lines step.goes_on

  pub offer_keeps : ReportsDownAreTrue ue bearer reached t
  offer_keeps =
      told_put ue bearer reached reading noted t Core None (map (written_put (sn_of s)) outputs) went.0 went.1
      (record { tunnels = told.tunnels; radio = told.radio }) ((λ own. tt), tt)
