-- Written by tools/worked_runs.py: a script, and the lines that were worked out for it.
use Rattle.std.specs.Prelude.{ℕ, List, [], ◌∷◌, Option, Some, None, Bool, true, false, map}
use Rattle.gnb_types.specs.declared.names.Gnb.TheVariants.{A, B}
use Rattle.gnb_types.specs.declared.names.NodeId.{NodeId}
use Rattle.gnb_types.specs.declared.names.NodeId.TheVariants.{CuCp, CuUp, Du, Core, Ue}
use Rattle.gnb_types.specs.declared.names.Dir.TheVariants.{Dl, Ul}
use Rattle.gnb_types.specs.declared.names.SnBits.TheVariants.{Len12, Len18}
use Rattle.gnb_types.specs.declared.reasons.DropReason.{DropReason}
use Rattle.gnb_types.specs.declared.reasons.DropReason.TheVariants as drops
use Rattle.gnb_types.specs.declared.reasons.HeldReason.TheVariants as holds
use Rattle.gnb_types.specs.declared.reasons.CauseName.TheVariants as causes
use Rattle.gnb_types.specs.declared.reasons.RefuseReason.TheVariants as refusals
use Rattle.gnb_types.specs.Names.{node_text}
use Rattle.message_types.specs.declared.f1.F1.TheVariants as f1s
use Rattle.message_types.specs.declared.e1.E1Message.TheVariants as e1s
use Rattle.message_types.specs.declared.xn.XnMessage.TheVariants as xns
use Rattle.message_types.specs.declared.xn.CoreMessage.TheVariants as cores
use Rattle.message_types.specs.declared.rrc.Token.{Token}
use Rattle.message_types.specs.declared.rrc.Token.TheVariants as toks
use Rattle.unit_defs.specs.Ways.{Message, f1, e1, xn, core, rrc}
use Rattle.scenario_text.specs.declared.event.Event.{Event}
use Rattle.scenario_text.specs.declared.event.Event.TheVariants as events
use Rattle.run_defs.specs.Lines.{RunLine, put_item, got_item, put_message, got_message, delivers, lost_items, lost_message, drops_input, held_at, procedure_failed, is_quiet, is_busy, has_settled, has_not_settled, was_refused, tunnel_link, radio_link, shown}
use Rattle.run_defs.specs.States.{Stop, outstanding, spent_counter}
use Rattle.law_worked_runs.specs.Short.{ue, be, te, en, tn, ss, pe, plan, le, step, Worked}

abbrev pub worked : Worked
worked = record {
  steps = (step (events.Static (plan 1 A 1 1 Len12 1 64)) ([]))
      ∷ (step (events.Offer (ue 1) (be 1) Dl (1 ∷ [])) (put_item (tunnel_link (te (CuUp A 1) 1)) (shown (en 1 1 Dl) None (48 ∷ 255 ∷ 0 ∷ 1 ∷ 0 ∷ 0 ∷ 0 ∷ 1 ∷ 1 ∷ [])) ∷ []))
      ∷ (step (events.Get (CuUp A 1) 1) (got_item (tunnel_link (te (CuUp A 1) 1)) (shown (en 1 1 Dl) None (48 ∷ 255 ∷ 0 ∷ 1 ∷ 0 ∷ 0 ∷ 0 ∷ 1 ∷ 1 ∷ [])) ∷ put_item (tunnel_link (te (Du A 1) 1)) (shown (en 1 1 Dl) (Some 0) (52 ∷ 255 ∷ 0 ∷ 15 ∷ 0 ∷ 0 ∷ 0 ∷ 1 ∷ 0 ∷ 0 ∷ 0 ∷ 132 ∷ 2 ∷ 0 ∷ 0 ∷ 0 ∷ 0 ∷ 0 ∷ 0 ∷ 0 ∷ 128 ∷ 0 ∷ 1 ∷ [])) ∷ []))
      ∷ (step (events.Handover (ue 1) B 1 1) (put_message 1 (le (CuCp A) (CuCp B) 1 (xn (xns.HandoverRequest (ue 1) 1 2 1 Len12 64 (pe B 1) 1 None))) ∷ []))
      ∷ (step (events.Pump) (got_message 1 (le (CuCp A) (CuCp B) 1 (xn (xns.HandoverRequest (ue 1) 1 2 1 Len12 64 (pe B 1) 1 None))) ∷ put_message 2 (le (CuCp B) (CuUp B 1) 1 (e1 (e1s.BearerContextSetupRequest (ue 1) 1 1 Len12 64 true))) ∷ got_message 2 (le (CuCp B) (CuUp B 1) 1 (e1 (e1s.BearerContextSetupRequest (ue 1) 1 1 Len12 64 true))) ∷ put_message 3 (le (CuUp B 1) (CuCp B) 1 (e1 (e1s.BearerContextSetupResponse (ue 1) 1 ((tn 1 2) ∷ []) ((tn 1 1) ∷ []) (Some ((tn 1 3) ∷ [])) (Some ((tn 1 4) ∷ []))))) ∷ got_message 3 (le (CuUp B 1) (CuCp B) 1 (e1 (e1s.BearerContextSetupResponse (ue 1) 1 ((tn 1 2) ∷ []) ((tn 1 1) ∷ []) (Some ((tn 1 3) ∷ [])) (Some ((tn 1 4) ∷ []))))) ∷ put_message 4 (le (CuCp B) (Du B 1) 1 (f1 (f1s.UeContextSetupRequest (ue 1) 1 2 ((tn 1 2) ∷ []) Len12 (pe B 1)))) ∷ got_message 4 (le (CuCp B) (Du B 1) 1 (f1 (f1s.UeContextSetupRequest (ue 1) 1 2 ((tn 1 2) ∷ []) Len12 (pe B 1)))) ∷ put_message 5 (le (Du B 1) (CuCp B) 1 (f1 (f1s.UeContextSetupResponse (ue 1) 1 ((tn 1 1) ∷ [])))) ∷ got_message 5 (le (Du B 1) (CuCp B) 1 (f1 (f1s.UeContextSetupResponse (ue 1) 1 ((tn 1 1) ∷ [])))) ∷ put_message 6 (le (CuCp B) (CuCp A) 1 (xn (xns.HandoverRequestAcknowledge (ue 1) 1 (pe B 1) ((tn 1 3) ∷ []) ((tn 1 4) ∷ [])))) ∷ got_message 6 (le (CuCp B) (CuCp A) 1 (xn (xns.HandoverRequestAcknowledge (ue 1) 1 (pe B 1) ((tn 1 3) ∷ []) ((tn 1 4) ∷ [])))) ∷ put_message 7 (le (CuCp A) (CuUp A 1) 1 (e1 (e1s.BearerContextModificationRequest (ue 1) 1 None 2 (Some (pe B 1)) (Some ((tn 1 3) ∷ [])) (Some ((tn 1 4) ∷ [])) None None))) ∷ got_message 7 (le (CuCp A) (CuUp A 1) 1 (e1 (e1s.BearerContextModificationRequest (ue 1) 1 None 2 (Some (pe B 1)) (Some ((tn 1 3) ∷ [])) (Some ((tn 1 4) ∷ [])) None None))) ∷ put_item (tunnel_link (te (CuUp B 1) 3)) (shown (en 1 1 Dl) (Some 0) (52 ∷ 255 ∷ 0 ∷ 9 ∷ 0 ∷ 0 ∷ 0 ∷ 3 ∷ 0 ∷ 0 ∷ 0 ∷ 192 ∷ 1 ∷ 0 ∷ 0 ∷ 0 ∷ 1 ∷ [])) ∷ put_message 8 (le (CuUp A 1) (CuCp A) 1 (e1 (e1s.BearerContextModificationResponse (ue 1) 1 None (Some ((ss 1 1 0 None) ∷ []))))) ∷ got_message 8 (le (CuUp A 1) (CuCp A) 1 (e1 (e1s.BearerContextModificationResponse (ue 1) 1 None (Some ((ss 1 1 0 None) ∷ []))))) ∷ put_message 9 (le (CuCp A) (CuCp B) 1 (xn (xns.SnStatusTransfer (ue 1) 2 ((ss 1 1 0 None) ∷ [])))) ∷ got_message 9 (le (CuCp A) (CuCp B) 1 (xn (xns.SnStatusTransfer (ue 1) 2 ((ss 1 1 0 None) ∷ [])))) ∷ put_message 10 (le (CuCp B) (CuCp A) 1 (xn (xns.TransportConfirm (ue 1) 2))) ∷ put_message 11 (le (CuCp B) (CuUp B 1) 1 (e1 (e1s.BearerContextModificationRequest (ue 1) 2 None 3 None None None (Some ((ss 1 1 0 None) ∷ [])) None))) ∷ got_message 10 (le (CuCp B) (CuCp A) 1 (xn (xns.TransportConfirm (ue 1) 2))) ∷ got_message 11 (le (CuCp B) (CuUp B 1) 1 (e1 (e1s.BearerContextModificationRequest (ue 1) 2 None 3 None None None (Some ((ss 1 1 0 None) ∷ [])) None))) ∷ put_message 12 (le (CuUp B 1) (CuCp B) 1 (e1 (e1s.BearerContextModificationResponse (ue 1) 2 None None))) ∷ got_message 12 (le (CuUp B 1) (CuCp B) 1 (e1 (e1s.BearerContextModificationResponse (ue 1) 2 None None))) ∷ []))
      ∷ (step (events.Tick) (put_message 13 (le (CuCp A) (Du A 1) 1 (f1 (f1s.DlRrcMessageTransfer (ue 1) (toks.Command (ue 1) 2 B 1)))) ∷ []))
      ∷ (step (events.Pump) (got_message 13 (le (CuCp A) (Du A 1) 1 (f1 (f1s.DlRrcMessageTransfer (ue 1) (toks.Command (ue 1) 2 B 1)))) ∷ put_message 14 (le (Du A 1) (Ue 1) 1 (rrc (toks.Command (ue 1) 2 B 1))) ∷ got_message 14 (le (Du A 1) (Ue 1) 1 (rrc (toks.Command (ue 1) 2 B 1))) ∷ []))
      ∷ (step (events.Arrive (ue 1)) (put_message 15 (le (Ue 1) (Du B 1) 1 (rrc (toks.Complete (ue 1) 2))) ∷ put_item (radio_link (en 1 1 Ul) 2) (shown (en 1 1 Ul) None (0 ∷ 0 ∷ 0 ∷ 0 ∷ 0 ∷ [])) ∷ []))
      ∷ (step (events.Pump) (got_message 15 (le (Ue 1) (Du B 1) 1 (rrc (toks.Complete (ue 1) 2))) ∷ put_message 16 (le (Du B 1) (CuCp B) 1 (f1 (f1s.UlRrcMessageTransfer (ue 1) (toks.Complete (ue 1) 2)))) ∷ got_message 16 (le (Du B 1) (CuCp B) 1 (f1 (f1s.UlRrcMessageTransfer (ue 1) (toks.Complete (ue 1) 2)))) ∷ put_message 17 (le (CuCp B) (CuUp B 1) 1 (e1 (e1s.BearerContextModificationRequest (ue 1) 3 (Some ((tn 1 1) ∷ [])) 1 None None None None (Some 1)))) ∷ put_message 18 (le (CuCp B) Core 1 (core (cores.PathSwitchRequest (ue 1) 1 (pe B 1) ((tn 1 1) ∷ [])))) ∷ got_message 17 (le (CuCp B) (CuUp B 1) 1 (e1 (e1s.BearerContextModificationRequest (ue 1) 3 (Some ((tn 1 1) ∷ [])) 1 None None None None (Some 1)))) ∷ put_item (tunnel_link (te (Du B 1) 1)) (shown (en 1 1 Dl) None (52 ∷ 255 ∷ 0 ∷ 17 ∷ 0 ∷ 0 ∷ 0 ∷ 1 ∷ 0 ∷ 0 ∷ 0 ∷ 132 ∷ 2 ∷ 0 ∷ 0 ∷ 0 ∷ 0 ∷ 0 ∷ 0 ∷ 0 ∷ 0 ∷ 0 ∷ 0 ∷ 0 ∷ 0 ∷ [])) ∷ put_message 19 (le (CuUp B 1) (CuCp B) 1 (e1 (e1s.BearerContextModificationResponse (ue 1) 3 None None))) ∷ got_message 18 (le (CuCp B) Core 1 (core (cores.PathSwitchRequest (ue 1) 1 (pe B 1) ((tn 1 1) ∷ [])))) ∷ put_message 20 (le Core (CuCp B) 1 (core (cores.PathSwitchAcknowledge (ue 1) 1))) ∷ put_item (tunnel_link (te (CuUp A 1) 1)) (shown (en 1 1 Dl) None (48 ∷ 254 ∷ 0 ∷ 0 ∷ 0 ∷ 0 ∷ 0 ∷ 1 ∷ [])) ∷ got_message 19 (le (CuUp B 1) (CuCp B) 1 (e1 (e1s.BearerContextModificationResponse (ue 1) 3 None None))) ∷ put_message 21 (le (CuCp B) (Du B 1) 1 (f1 (f1s.DlRrcMessageTransfer (ue 1) (toks.Accepted (ue 1) 2)))) ∷ got_message 20 (le Core (CuCp B) 1 (core (cores.PathSwitchAcknowledge (ue 1) 1))) ∷ put_message 22 (le (CuCp B) (CuCp A) 1 (xn (xns.UeContextRelease (ue 1) 1))) ∷ got_message 21 (le (CuCp B) (Du B 1) 1 (f1 (f1s.DlRrcMessageTransfer (ue 1) (toks.Accepted (ue 1) 2)))) ∷ put_message 23 (le (Du B 1) (Ue 1) 1 (rrc (toks.Accepted (ue 1) 2))) ∷ got_message 22 (le (CuCp B) (CuCp A) 1 (xn (xns.UeContextRelease (ue 1) 1))) ∷ put_message 24 (le (CuCp A) (CuCp B) 1 (xn (xns.TransportConfirm (ue 1) 1))) ∷ put_message 25 (le (CuCp A) (Du A 1) 1 (f1 (f1s.UeContextReleaseCommand (ue 1) 1))) ∷ put_message 26 (le (CuCp A) (CuUp A 1) 1 (e1 (e1s.BearerContextReleaseCommand (ue 1) 2 false))) ∷ got_message 23 (le (Du B 1) (Ue 1) 1 (rrc (toks.Accepted (ue 1) 2))) ∷ got_message 24 (le (CuCp A) (CuCp B) 1 (xn (xns.TransportConfirm (ue 1) 1))) ∷ got_message 25 (le (CuCp A) (Du A 1) 1 (f1 (f1s.UeContextReleaseCommand (ue 1) 1))) ∷ put_message 27 (le (Du A 1) (CuCp A) 1 (f1 (f1s.UeContextReleaseComplete (ue 1) 1))) ∷ put_item (tunnel_link (te (CuUp A 1) 2)) (shown (en 1 1 Ul) None (48 ∷ 254 ∷ 0 ∷ 0 ∷ 0 ∷ 0 ∷ 0 ∷ 2 ∷ [])) ∷ lost_items (tunnel_link (te (Du A 1) 1)) 1 ∷ got_message 26 (le (CuCp A) (CuUp A 1) 1 (e1 (e1s.BearerContextReleaseCommand (ue 1) 2 false))) ∷ put_message 28 (le (CuUp A 1) (CuCp A) 1 (e1 (e1s.BearerContextReleaseComplete (ue 1) 2))) ∷ got_message 27 (le (Du A 1) (CuCp A) 1 (f1 (f1s.UeContextReleaseComplete (ue 1) 1))) ∷ got_message 28 (le (CuUp A 1) (CuCp A) 1 (e1 (e1s.BearerContextReleaseComplete (ue 1) 2))) ∷ []))
      ∷ (step (events.Handover (ue 1) A 2 2) (put_message 29 (le (CuCp B) (CuCp A) 1 (xn (xns.HandoverRequest (ue 1) 2 3 1 Len12 64 (pe A 2) 2 None))) ∷ []))
      ∷ (step (events.Pump) (got_message 29 (le (CuCp B) (CuCp A) 1 (xn (xns.HandoverRequest (ue 1) 2 3 1 Len12 64 (pe A 2) 2 None))) ∷ put_message 30 (le (CuCp A) (CuUp A 2) 1 (e1 (e1s.BearerContextSetupRequest (ue 1) 1 1 Len12 64 true))) ∷ got_message 30 (le (CuCp A) (CuUp A 2) 1 (e1 (e1s.BearerContextSetupRequest (ue 1) 1 1 Len12 64 true))) ∷ put_message 31 (le (CuUp A 2) (CuCp A) 1 (e1 (e1s.BearerContextSetupResponse (ue 1) 1 ((tn 1 2) ∷ []) ((tn 1 1) ∷ []) (Some ((tn 1 3) ∷ [])) (Some ((tn 1 4) ∷ []))))) ∷ got_message 31 (le (CuUp A 2) (CuCp A) 1 (e1 (e1s.BearerContextSetupResponse (ue 1) 1 ((tn 1 2) ∷ []) ((tn 1 1) ∷ []) (Some ((tn 1 3) ∷ [])) (Some ((tn 1 4) ∷ []))))) ∷ put_message 32 (le (CuCp A) (Du A 2) 1 (f1 (f1s.UeContextSetupRequest (ue 1) 1 3 ((tn 1 2) ∷ []) Len12 (pe A 2)))) ∷ got_message 32 (le (CuCp A) (Du A 2) 1 (f1 (f1s.UeContextSetupRequest (ue 1) 1 3 ((tn 1 2) ∷ []) Len12 (pe A 2)))) ∷ put_message 33 (le (Du A 2) (CuCp A) 1 (f1 (f1s.UeContextSetupResponse (ue 1) 1 ((tn 1 1) ∷ [])))) ∷ got_message 33 (le (Du A 2) (CuCp A) 1 (f1 (f1s.UeContextSetupResponse (ue 1) 1 ((tn 1 1) ∷ [])))) ∷ put_message 34 (le (CuCp A) (CuCp B) 1 (xn (xns.HandoverRequestAcknowledge (ue 1) 2 (pe A 2) ((tn 1 3) ∷ []) ((tn 1 4) ∷ [])))) ∷ got_message 34 (le (CuCp A) (CuCp B) 1 (xn (xns.HandoverRequestAcknowledge (ue 1) 2 (pe A 2) ((tn 1 3) ∷ []) ((tn 1 4) ∷ [])))) ∷ put_message 35 (le (CuCp B) (CuUp B 1) 1 (e1 (e1s.BearerContextModificationRequest (ue 1) 4 None 2 (Some (pe A 2)) (Some ((tn 1 3) ∷ [])) (Some ((tn 1 4) ∷ [])) None None))) ∷ got_message 35 (le (CuCp B) (CuUp B 1) 1 (e1 (e1s.BearerContextModificationRequest (ue 1) 4 None 2 (Some (pe A 2)) (Some ((tn 1 3) ∷ [])) (Some ((tn 1 4) ∷ [])) None None))) ∷ put_message 36 (le (CuUp B 1) (CuCp B) 1 (e1 (e1s.BearerContextModificationResponse (ue 1) 4 None (Some ((ss 1 1 0 None) ∷ []))))) ∷ got_message 36 (le (CuUp B 1) (CuCp B) 1 (e1 (e1s.BearerContextModificationResponse (ue 1) 4 None (Some ((ss 1 1 0 None) ∷ []))))) ∷ put_message 37 (le (CuCp B) (CuCp A) 1 (xn (xns.SnStatusTransfer (ue 1) 3 ((ss 1 1 0 None) ∷ [])))) ∷ got_message 37 (le (CuCp B) (CuCp A) 1 (xn (xns.SnStatusTransfer (ue 1) 3 ((ss 1 1 0 None) ∷ [])))) ∷ put_message 38 (le (CuCp A) (CuCp B) 1 (xn (xns.TransportConfirm (ue 1) 3))) ∷ put_message 39 (le (CuCp A) (CuUp A 2) 1 (e1 (e1s.BearerContextModificationRequest (ue 1) 2 None 3 None None None (Some ((ss 1 1 0 None) ∷ [])) None))) ∷ got_message 38 (le (CuCp A) (CuCp B) 1 (xn (xns.TransportConfirm (ue 1) 3))) ∷ got_message 39 (le (CuCp A) (CuUp A 2) 1 (e1 (e1s.BearerContextModificationRequest (ue 1) 2 None 3 None None None (Some ((ss 1 1 0 None) ∷ [])) None))) ∷ put_message 40 (le (CuUp A 2) (CuCp A) 1 (e1 (e1s.BearerContextModificationResponse (ue 1) 2 None None))) ∷ got_message 40 (le (CuUp A 2) (CuCp A) 1 (e1 (e1s.BearerContextModificationResponse (ue 1) 2 None None))) ∷ []))
      ∷ (step (events.Tick) (put_message 41 (le (CuCp B) (Du B 1) 1 (f1 (f1s.DlRrcMessageTransfer (ue 1) (toks.Command (ue 1) 3 A 2)))) ∷ []))
      ∷ (step (events.Pump) (got_message 41 (le (CuCp B) (Du B 1) 1 (f1 (f1s.DlRrcMessageTransfer (ue 1) (toks.Command (ue 1) 3 A 2)))) ∷ put_message 42 (le (Du B 1) (Ue 1) 1 (rrc (toks.Command (ue 1) 3 A 2))) ∷ got_message 42 (le (Du B 1) (Ue 1) 1 (rrc (toks.Command (ue 1) 3 A 2))) ∷ lost_items (radio_link (en 1 1 Ul) 2) 1 ∷ []))
      ∷ (step (events.Settle) (put_message 43 (le (Ue 1) (Du A 2) 1 (rrc (toks.Complete (ue 1) 3))) ∷ put_item (radio_link (en 1 1 Ul) 3) (shown (en 1 1 Ul) None (0 ∷ 0 ∷ 0 ∷ 0 ∷ 0 ∷ [])) ∷ got_message 43 (le (Ue 1) (Du A 2) 1 (rrc (toks.Complete (ue 1) 3))) ∷ put_message 44 (le (Du A 2) (CuCp A) 1 (f1 (f1s.UlRrcMessageTransfer (ue 1) (toks.Complete (ue 1) 3)))) ∷ got_message 44 (le (Du A 2) (CuCp A) 1 (f1 (f1s.UlRrcMessageTransfer (ue 1) (toks.Complete (ue 1) 3)))) ∷ put_message 45 (le (CuCp A) (CuUp A 2) 1 (e1 (e1s.BearerContextModificationRequest (ue 1) 3 (Some ((tn 1 1) ∷ [])) 1 None None None None (Some 2)))) ∷ put_message 46 (le (CuCp A) Core 1 (core (cores.PathSwitchRequest (ue 1) 1 (pe A 2) ((tn 1 1) ∷ [])))) ∷ got_message 45 (le (CuCp A) (CuUp A 2) 1 (e1 (e1s.BearerContextModificationRequest (ue 1) 3 (Some ((tn 1 1) ∷ [])) 1 None None None None (Some 2)))) ∷ put_item (tunnel_link (te (Du A 2) 1)) (shown (en 1 1 Dl) None (52 ∷ 255 ∷ 0 ∷ 17 ∷ 0 ∷ 0 ∷ 0 ∷ 1 ∷ 0 ∷ 0 ∷ 0 ∷ 132 ∷ 2 ∷ 0 ∷ 0 ∷ 0 ∷ 0 ∷ 0 ∷ 0 ∷ 0 ∷ 0 ∷ 0 ∷ 0 ∷ 0 ∷ 0 ∷ [])) ∷ put_message 47 (le (CuUp A 2) (CuCp A) 1 (e1 (e1s.BearerContextModificationResponse (ue 1) 3 None None))) ∷ got_message 46 (le (CuCp A) Core 1 (core (cores.PathSwitchRequest (ue 1) 1 (pe A 2) ((tn 1 1) ∷ [])))) ∷ put_message 48 (le Core (CuCp A) 1 (core (cores.PathSwitchAcknowledge (ue 1) 1))) ∷ put_item (tunnel_link (te (CuUp B 1) 1)) (shown (en 1 1 Dl) None (48 ∷ 254 ∷ 0 ∷ 0 ∷ 0 ∷ 0 ∷ 0 ∷ 1 ∷ [])) ∷ got_message 47 (le (CuUp A 2) (CuCp A) 1 (e1 (e1s.BearerContextModificationResponse (ue 1) 3 None None))) ∷ put_message 49 (le (CuCp A) (Du A 2) 1 (f1 (f1s.DlRrcMessageTransfer (ue 1) (toks.Accepted (ue 1) 3)))) ∷ got_message 48 (le Core (CuCp A) 1 (core (cores.PathSwitchAcknowledge (ue 1) 1))) ∷ put_message 50 (le (CuCp A) (CuCp B) 1 (xn (xns.UeContextRelease (ue 1) 3))) ∷ got_message 49 (le (CuCp A) (Du A 2) 1 (f1 (f1s.DlRrcMessageTransfer (ue 1) (toks.Accepted (ue 1) 3)))) ∷ put_message 51 (le (Du A 2) (Ue 1) 1 (rrc (toks.Accepted (ue 1) 3))) ∷ got_message 50 (le (CuCp A) (CuCp B) 1 (xn (xns.UeContextRelease (ue 1) 3))) ∷ put_message 52 (le (CuCp B) (CuCp A) 1 (xn (xns.TransportConfirm (ue 1) 3))) ∷ put_message 53 (le (CuCp B) (Du B 1) 1 (f1 (f1s.UeContextReleaseCommand (ue 1) 2))) ∷ put_message 54 (le (CuCp B) (CuUp B 1) 1 (e1 (e1s.BearerContextReleaseCommand (ue 1) 5 false))) ∷ got_message 51 (le (Du A 2) (Ue 1) 1 (rrc (toks.Accepted (ue 1) 3))) ∷ got_message 52 (le (CuCp B) (CuCp A) 1 (xn (xns.TransportConfirm (ue 1) 3))) ∷ got_message 53 (le (CuCp B) (Du B 1) 1 (f1 (f1s.UeContextReleaseCommand (ue 1) 2))) ∷ put_message 55 (le (Du B 1) (CuCp B) 1 (f1 (f1s.UeContextReleaseComplete (ue 1) 2))) ∷ put_item (tunnel_link (te (CuUp B 1) 2)) (shown (en 1 1 Ul) None (48 ∷ 254 ∷ 0 ∷ 0 ∷ 0 ∷ 0 ∷ 0 ∷ 2 ∷ [])) ∷ lost_items (tunnel_link (te (Du B 1) 1)) 1 ∷ got_message 54 (le (CuCp B) (CuUp B 1) 1 (e1 (e1s.BearerContextReleaseCommand (ue 1) 5 false))) ∷ put_message 56 (le (CuUp B 1) (CuCp B) 1 (e1 (e1s.BearerContextReleaseComplete (ue 1) 5))) ∷ got_message 55 (le (Du B 1) (CuCp B) 1 (f1 (f1s.UeContextReleaseComplete (ue 1) 2))) ∷ got_message 56 (le (CuUp B 1) (CuCp B) 1 (e1 (e1s.BearerContextReleaseComplete (ue 1) 5))) ∷ got_item (tunnel_link (te (CuUp A 1) 1)) (shown (en 1 1 Dl) None (48 ∷ 254 ∷ 0 ∷ 0 ∷ 0 ∷ 0 ∷ 0 ∷ 1 ∷ [])) ∷ put_item (tunnel_link (te (CuUp B 1) 3)) (shown (en 1 1 Dl) None (48 ∷ 254 ∷ 0 ∷ 0 ∷ 0 ∷ 0 ∷ 0 ∷ 3 ∷ [])) ∷ got_item (tunnel_link (te (CuUp A 1) 2)) (shown (en 1 1 Ul) None (48 ∷ 254 ∷ 0 ∷ 0 ∷ 0 ∷ 0 ∷ 0 ∷ 2 ∷ [])) ∷ put_item (tunnel_link (te (CuUp B 1) 4)) (shown (en 1 1 Ul) None (48 ∷ 254 ∷ 0 ∷ 0 ∷ 0 ∷ 0 ∷ 0 ∷ 4 ∷ [])) ∷ got_item (tunnel_link (te (Du A 2) 1)) (shown (en 1 1 Dl) None (52 ∷ 255 ∷ 0 ∷ 17 ∷ 0 ∷ 0 ∷ 0 ∷ 1 ∷ 0 ∷ 0 ∷ 0 ∷ 132 ∷ 2 ∷ 0 ∷ 0 ∷ 0 ∷ 0 ∷ 0 ∷ 0 ∷ 0 ∷ 0 ∷ 0 ∷ 0 ∷ 0 ∷ 0 ∷ [])) ∷ put_item (radio_link (en 1 1 Dl) 3) (shown (en 1 1 Dl) None (0 ∷ 0 ∷ 0 ∷ 0 ∷ 0 ∷ [])) ∷ held_at (tunnel_link (te (CuUp B 1) 1)) holds.Early ∷ got_item (tunnel_link (te (CuUp B 1) 2)) (shown (en 1 1 Ul) None (48 ∷ 254 ∷ 0 ∷ 0 ∷ 0 ∷ 0 ∷ 0 ∷ 2 ∷ [])) ∷ got_item (tunnel_link (te (CuUp B 1) 3)) (shown (en 1 1 Dl) (Some 0) (52 ∷ 255 ∷ 0 ∷ 9 ∷ 0 ∷ 0 ∷ 0 ∷ 3 ∷ 0 ∷ 0 ∷ 0 ∷ 192 ∷ 1 ∷ 0 ∷ 0 ∷ 0 ∷ 1 ∷ [])) ∷ put_item (tunnel_link (te (CuUp A 2) 3)) (shown (en 1 1 Dl) (Some 0) (52 ∷ 255 ∷ 0 ∷ 9 ∷ 0 ∷ 0 ∷ 0 ∷ 3 ∷ 0 ∷ 0 ∷ 0 ∷ 192 ∷ 1 ∷ 0 ∷ 0 ∷ 0 ∷ 1 ∷ [])) ∷ got_item (tunnel_link (te (CuUp B 1) 3)) (shown (en 1 1 Dl) None (48 ∷ 254 ∷ 0 ∷ 0 ∷ 0 ∷ 0 ∷ 0 ∷ 3 ∷ [])) ∷ got_item (tunnel_link (te (CuUp B 1) 4)) (shown (en 1 1 Ul) None (48 ∷ 254 ∷ 0 ∷ 0 ∷ 0 ∷ 0 ∷ 0 ∷ 4 ∷ [])) ∷ put_item (tunnel_link (te (CuUp A 2) 4)) (shown (en 1 1 Ul) None (48 ∷ 254 ∷ 0 ∷ 0 ∷ 0 ∷ 0 ∷ 0 ∷ 4 ∷ [])) ∷ got_item (radio_link (en 1 1 Dl) 3) (shown (en 1 1 Dl) None (0 ∷ 0 ∷ 0 ∷ 0 ∷ 0 ∷ [])) ∷ got_item (radio_link (en 1 1 Ul) 3) (shown (en 1 1 Ul) None (0 ∷ 0 ∷ 0 ∷ 0 ∷ 0 ∷ [])) ∷ put_item (tunnel_link (te (CuUp A 2) 2)) (shown (en 1 1 Ul) None (48 ∷ 255 ∷ 0 ∷ 5 ∷ 0 ∷ 0 ∷ 0 ∷ 2 ∷ 0 ∷ 0 ∷ 0 ∷ 0 ∷ 0 ∷ [])) ∷ got_item (tunnel_link (te (CuUp A 2) 2)) (shown (en 1 1 Ul) None (48 ∷ 255 ∷ 0 ∷ 5 ∷ 0 ∷ 0 ∷ 0 ∷ 2 ∷ 0 ∷ 0 ∷ 0 ∷ 0 ∷ 0 ∷ [])) ∷ got_item (tunnel_link (te (CuUp A 2) 3)) (shown (en 1 1 Dl) (Some 0) (52 ∷ 255 ∷ 0 ∷ 9 ∷ 0 ∷ 0 ∷ 0 ∷ 3 ∷ 0 ∷ 0 ∷ 0 ∷ 192 ∷ 1 ∷ 0 ∷ 0 ∷ 0 ∷ 1 ∷ [])) ∷ put_item (tunnel_link (te (Du A 2) 1)) (shown (en 1 1 Dl) (Some 0) (52 ∷ 255 ∷ 0 ∷ 15 ∷ 0 ∷ 0 ∷ 0 ∷ 1 ∷ 0 ∷ 0 ∷ 0 ∷ 132 ∷ 2 ∷ 0 ∷ 0 ∷ 0 ∷ 0 ∷ 1 ∷ 0 ∷ 0 ∷ 128 ∷ 0 ∷ 1 ∷ [])) ∷ got_item (tunnel_link (te (CuUp A 2) 4)) (shown (en 1 1 Ul) None (48 ∷ 254 ∷ 0 ∷ 0 ∷ 0 ∷ 0 ∷ 0 ∷ 4 ∷ [])) ∷ got_item (tunnel_link (te (Du A 2) 1)) (shown (en 1 1 Dl) (Some 0) (52 ∷ 255 ∷ 0 ∷ 15 ∷ 0 ∷ 0 ∷ 0 ∷ 1 ∷ 0 ∷ 0 ∷ 0 ∷ 132 ∷ 2 ∷ 0 ∷ 0 ∷ 0 ∷ 0 ∷ 1 ∷ 0 ∷ 0 ∷ 128 ∷ 0 ∷ 1 ∷ [])) ∷ put_item (radio_link (en 1 1 Dl) 3) (shown (en 1 1 Dl) (Some 0) (128 ∷ 0 ∷ 1 ∷ [])) ∷ got_item (tunnel_link (te (CuUp B 1) 1)) (shown (en 1 1 Dl) None (48 ∷ 254 ∷ 0 ∷ 0 ∷ 0 ∷ 0 ∷ 0 ∷ 1 ∷ [])) ∷ put_item (tunnel_link (te (CuUp A 2) 3)) (shown (en 1 1 Dl) None (48 ∷ 254 ∷ 0 ∷ 0 ∷ 0 ∷ 0 ∷ 0 ∷ 3 ∷ [])) ∷ got_item (radio_link (en 1 1 Dl) 3) (shown (en 1 1 Dl) (Some 0) (128 ∷ 0 ∷ 1 ∷ [])) ∷ delivers (en 1 1 Dl) 0 (1 ∷ []) ∷ put_item (tunnel_link (te (CuUp A 2) 2)) (shown (en 1 1 Dl) (Some 0) (52 ∷ 255 ∷ 0 ∷ 16 ∷ 0 ∷ 0 ∷ 0 ∷ 2 ∷ 0 ∷ 0 ∷ 0 ∷ 132 ∷ 3 ∷ 20 ∷ 0 ∷ 0 ∷ 1 ∷ 0 ∷ 0 ∷ 0 ∷ 0 ∷ 0 ∷ 0 ∷ 0 ∷ [])) ∷ put_item (tunnel_link (te (Du A 2) 1)) (shown (en 1 1 Dl) None (52 ∷ 255 ∷ 0 ∷ 12 ∷ 0 ∷ 0 ∷ 0 ∷ 1 ∷ 0 ∷ 0 ∷ 0 ∷ 132 ∷ 2 ∷ 1 ∷ 0 ∷ 0 ∷ 0 ∷ 2 ∷ 0 ∷ 0 ∷ [])) ∷ got_item (tunnel_link (te (CuUp A 2) 2)) (shown (en 1 1 Dl) (Some 0) (52 ∷ 255 ∷ 0 ∷ 16 ∷ 0 ∷ 0 ∷ 0 ∷ 2 ∷ 0 ∷ 0 ∷ 0 ∷ 132 ∷ 3 ∷ 20 ∷ 0 ∷ 0 ∷ 1 ∷ 0 ∷ 0 ∷ 0 ∷ 0 ∷ 0 ∷ 0 ∷ 0 ∷ [])) ∷ got_item (tunnel_link (te (CuUp A 2) 3)) (shown (en 1 1 Dl) None (48 ∷ 254 ∷ 0 ∷ 0 ∷ 0 ∷ 0 ∷ 0 ∷ 3 ∷ [])) ∷ got_item (tunnel_link (te (Du A 2) 1)) (shown (en 1 1 Dl) None (52 ∷ 255 ∷ 0 ∷ 12 ∷ 0 ∷ 0 ∷ 0 ∷ 1 ∷ 0 ∷ 0 ∷ 0 ∷ 132 ∷ 2 ∷ 1 ∷ 0 ∷ 0 ∷ 0 ∷ 2 ∷ 0 ∷ 0 ∷ [])) ∷ put_item (tunnel_link (te (CuUp A 2) 2)) (shown (en 1 1 Dl) None (52 ∷ 255 ∷ 0 ∷ 12 ∷ 0 ∷ 0 ∷ 0 ∷ 2 ∷ 0 ∷ 0 ∷ 0 ∷ 132 ∷ 2 ∷ 16 ∷ 0 ∷ 0 ∷ 1 ∷ 0 ∷ 0 ∷ 0 ∷ [])) ∷ got_item (tunnel_link (te (CuUp A 2) 2)) (shown (en 1 1 Dl) None (52 ∷ 255 ∷ 0 ∷ 12 ∷ 0 ∷ 0 ∷ 0 ∷ 2 ∷ 0 ∷ 0 ∷ 0 ∷ 132 ∷ 2 ∷ 16 ∷ 0 ∷ 0 ∷ 1 ∷ 0 ∷ 0 ∷ 0 ∷ [])) ∷ has_settled 4 ∷ is_quiet (ue 1) (be 1) 1 0 ∷ []))
      ∷ [];
  stop = None;
  faults = [];
  items = [];
}
