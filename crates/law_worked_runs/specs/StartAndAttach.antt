-- Written by tools/worked_runs.py: a script, and the lines that were worked out for it.
use Rattle.std.specs.Prelude.{ℕ, List, [], ◌∷◌, Option, Some, None, Bool, true, false, map}
use Rattle.gnb_types.specs.declared.names.Gnb.TheVariants.{A, B}
use Rattle.gnb_types.specs.declared.names.NodeId.{NodeId}
use Rattle.gnb_types.specs.declared.names.NodeId.TheVariants.{CuCp, CuUp, Du, Core, Ue}
use Rattle.gnb_types.specs.declared.names.Dir.TheVariants.{Dl, Ul}
use Rattle.gnb_types.specs.declared.names.SnBits.TheVariants.{Len12, Len18}
use Rattle.gnb_types.specs.declared.reasons.DropReason.{DropReason}
use Rattle.gnb_types.specs.declared.reasons.DropReason.TheVariants as drops
use Rattle.gnb_types.specs.declared.reasons.HeldReason.TheVariants as holds
use Rattle.gnb_types.specs.declared.reasons.CauseName.TheVariants as causes
use Rattle.gnb_types.specs.declared.reasons.RefuseReason.TheVariants as refusals
use Rattle.gnb_types.specs.Names.{node_text}
use Rattle.message_types.specs.declared.f1.F1.TheVariants as f1s
use Rattle.message_types.specs.declared.e1.E1Message.TheVariants as e1s
use Rattle.message_types.specs.declared.xn.XnMessage.TheVariants as xns
use Rattle.message_types.specs.declared.xn.CoreMessage.TheVariants as cores
use Rattle.message_types.specs.declared.rrc.Token.{Token}
use Rattle.message_types.specs.declared.rrc.Token.TheVariants as toks
use Rattle.unit_defs.specs.Ways.{Message, f1, e1, xn, core, rrc}
use Rattle.scenario_text.specs.declared.event.Event.{Event}
use Rattle.scenario_text.specs.declared.event.Event.TheVariants as events
use Rattle.run_defs.specs.Lines.{RunLine, put_item, got_item, put_message, got_message, delivers, lost_items, lost_message, drops_input, held_at, procedure_failed, is_quiet, is_busy, has_settled, has_not_settled, was_refused, tunnel_link, radio_link, shown}
use Rattle.run_defs.specs.States.{Stop, outstanding, spent_counter}
use Rattle.law_worked_runs.specs.Short.{ue, be, te, en, tn, ss, pe, plan, le, step, Worked}

abbrev pub worked : Worked
worked = record {
  steps = (step (events.Start) (put_message 1 (le (CuUp A 1) (CuCp A) 0 (e1 (e1s.E1SetupRequest 1 (node_text (CuUp A 1))))) ∷ put_message 2 (le (CuUp A 2) (CuCp A) 0 (e1 (e1s.E1SetupRequest 1 (node_text (CuUp A 2))))) ∷ put_message 3 (le (Du A 1) (CuCp A) 0 (f1 (f1s.F1SetupRequest 1 (node_text (Du A 1))))) ∷ put_message 4 (le (Du A 2) (CuCp A) 0 (f1 (f1s.F1SetupRequest 1 (node_text (Du A 2))))) ∷ put_message 5 (le (CuUp B 1) (CuCp B) 0 (e1 (e1s.E1SetupRequest 1 (node_text (CuUp B 1))))) ∷ put_message 6 (le (CuUp B 2) (CuCp B) 0 (e1 (e1s.E1SetupRequest 1 (node_text (CuUp B 2))))) ∷ put_message 7 (le (Du B 1) (CuCp B) 0 (f1 (f1s.F1SetupRequest 1 (node_text (Du B 1))))) ∷ put_message 8 (le (Du B 2) (CuCp B) 0 (f1 (f1s.F1SetupRequest 1 (node_text (Du B 2))))) ∷ []))
      ∷ (step (events.Pump) (got_message 1 (le (CuUp A 1) (CuCp A) 0 (e1 (e1s.E1SetupRequest 1 (node_text (CuUp A 1))))) ∷ put_message 9 (le (CuCp A) (CuUp A 1) 0 (e1 (e1s.E1SetupResponse 1))) ∷ got_message 2 (le (CuUp A 2) (CuCp A) 0 (e1 (e1s.E1SetupRequest 1 (node_text (CuUp A 2))))) ∷ put_message 10 (le (CuCp A) (CuUp A 2) 0 (e1 (e1s.E1SetupResponse 1))) ∷ got_message 3 (le (Du A 1) (CuCp A) 0 (f1 (f1s.F1SetupRequest 1 (node_text (Du A 1))))) ∷ put_message 11 (le (CuCp A) (Du A 1) 0 (f1 (f1s.F1SetupResponse 1))) ∷ got_message 4 (le (Du A 2) (CuCp A) 0 (f1 (f1s.F1SetupRequest 1 (node_text (Du A 2))))) ∷ put_message 12 (le (CuCp A) (Du A 2) 0 (f1 (f1s.F1SetupResponse 1))) ∷ got_message 5 (le (CuUp B 1) (CuCp B) 0 (e1 (e1s.E1SetupRequest 1 (node_text (CuUp B 1))))) ∷ put_message 13 (le (CuCp B) (CuUp B 1) 0 (e1 (e1s.E1SetupResponse 1))) ∷ got_message 6 (le (CuUp B 2) (CuCp B) 0 (e1 (e1s.E1SetupRequest 1 (node_text (CuUp B 2))))) ∷ put_message 14 (le (CuCp B) (CuUp B 2) 0 (e1 (e1s.E1SetupResponse 1))) ∷ got_message 7 (le (Du B 1) (CuCp B) 0 (f1 (f1s.F1SetupRequest 1 (node_text (Du B 1))))) ∷ put_message 15 (le (CuCp B) (Du B 1) 0 (f1 (f1s.F1SetupResponse 1))) ∷ got_message 8 (le (Du B 2) (CuCp B) 0 (f1 (f1s.F1SetupRequest 1 (node_text (Du B 2))))) ∷ put_message 16 (le (CuCp B) (Du B 2) 0 (f1 (f1s.F1SetupResponse 1))) ∷ got_message 9 (le (CuCp A) (CuUp A 1) 0 (e1 (e1s.E1SetupResponse 1))) ∷ got_message 10 (le (CuCp A) (CuUp A 2) 0 (e1 (e1s.E1SetupResponse 1))) ∷ got_message 11 (le (CuCp A) (Du A 1) 0 (f1 (f1s.F1SetupResponse 1))) ∷ got_message 12 (le (CuCp A) (Du A 2) 0 (f1 (f1s.F1SetupResponse 1))) ∷ got_message 13 (le (CuCp B) (CuUp B 1) 0 (e1 (e1s.E1SetupResponse 1))) ∷ got_message 14 (le (CuCp B) (CuUp B 2) 0 (e1 (e1s.E1SetupResponse 1))) ∷ got_message 15 (le (CuCp B) (Du B 1) 0 (f1 (f1s.F1SetupResponse 1))) ∷ got_message 16 (le (CuCp B) (Du B 2) 0 (f1 (f1s.F1SetupResponse 1))) ∷ []))
      ∷ (step (events.Attach (plan 1 A 1 1 Len12 1 64)) (put_message 17 (le (CuCp A) (CuUp A 1) 1 (e1 (e1s.BearerContextSetupRequest (ue 1) 1 1 Len12 64 false))) ∷ []))
      ∷ (step (events.Pump) (got_message 17 (le (CuCp A) (CuUp A 1) 1 (e1 (e1s.BearerContextSetupRequest (ue 1) 1 1 Len12 64 false))) ∷ put_message 18 (le (CuUp A 1) (CuCp A) 1 (e1 (e1s.BearerContextSetupResponse (ue 1) 1 ((tn 1 2) ∷ []) ((tn 1 1) ∷ []) None None))) ∷ got_message 18 (le (CuUp A 1) (CuCp A) 1 (e1 (e1s.BearerContextSetupResponse (ue 1) 1 ((tn 1 2) ∷ []) ((tn 1 1) ∷ []) None None))) ∷ put_message 19 (le (CuCp A) (Du A 1) 1 (f1 (f1s.UeContextSetupRequest (ue 1) 1 1 ((tn 1 2) ∷ []) Len12 (pe A 1)))) ∷ got_message 19 (le (CuCp A) (Du A 1) 1 (f1 (f1s.UeContextSetupRequest (ue 1) 1 1 ((tn 1 2) ∷ []) Len12 (pe A 1)))) ∷ put_message 20 (le (Du A 1) (CuCp A) 1 (f1 (f1s.UeContextSetupResponse (ue 1) 1 ((tn 1 1) ∷ [])))) ∷ got_message 20 (le (Du A 1) (CuCp A) 1 (f1 (f1s.UeContextSetupResponse (ue 1) 1 ((tn 1 1) ∷ [])))) ∷ put_message 21 (le (CuCp A) (Du A 1) 1 (f1 (f1s.DlRrcMessageTransfer (ue 1) (toks.Command (ue 1) 1 A 1)))) ∷ got_message 21 (le (CuCp A) (Du A 1) 1 (f1 (f1s.DlRrcMessageTransfer (ue 1) (toks.Command (ue 1) 1 A 1)))) ∷ put_message 22 (le (Du A 1) (Ue 1) 1 (rrc (toks.Command (ue 1) 1 A 1))) ∷ got_message 22 (le (Du A 1) (Ue 1) 1 (rrc (toks.Command (ue 1) 1 A 1))) ∷ []))
      ∷ (step (events.Arrive (ue 1)) (put_message 23 (le (Ue 1) (Du A 1) 1 (rrc (toks.Complete (ue 1) 1))) ∷ put_item (radio_link (en 1 1 Ul) 1) (shown (en 1 1 Ul) None (0 ∷ 0 ∷ 0 ∷ 0 ∷ 0 ∷ [])) ∷ []))
      ∷ [];
  stop = None;
  faults = [];
  items = [];
}
