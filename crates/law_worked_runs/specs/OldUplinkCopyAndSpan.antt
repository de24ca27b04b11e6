-- A copy that stands on an old uplink tunnel makes the span of its bearer 2,049, and the run stops. Each of the further packets goes the
-- whole way: it is offered, carried, confirmed and delivered. Its lines are told by the packet's COUNT; those before the loop are the
-- ones that tools/worked_runs.py writes.
use Rattle.std.specs.Prelude.{ℕ, ◌+◌, ◌/◌, ◌%◌, List, [], ◌∷◌, ◌++◌, Some, None}
use Rattle.gnb_types.specs.declared.names.Gnb.TheVariants.{A}
use Rattle.gnb_types.specs.declared.names.NodeId.TheVariants.{CuCp, CuUp, Du, Ue}
use Rattle.gnb_types.specs.declared.names.Dir.TheVariants.{Dl, Ul}
use Rattle.gnb_types.specs.declared.names.SnBits.TheVariants.{Len12}
use Rattle.message_types.specs.declared.f1.F1.TheVariants as f1s
use Rattle.message_types.specs.declared.e1.E1Message.TheVariants as e1s
use Rattle.message_types.specs.declared.rrc.Token.TheVariants as toks
use Rattle.unit_defs.specs.Ways.{f1, e1, rrc}
use Rattle.scenario_text.specs.declared.event.Event.TheVariants as events
use Rattle.run_defs.specs.Lines.{put_item, got_item, put_message, got_message, delivers, lost_items, tunnel_link, radio_link, shown}
use Rattle.run_defs.specs.States.{outstanding}
use Rattle.law_worked_runs.specs.Short.{ue, be, te, en, tn, pe, plan, le, Shown, step, repeated, Worked}

-- the packet, its PDU, and that on the tunnel
abbrev pub packet : ℕ → List ℕ
packet count = count / 256 ∷ count % 256 ∷ []

abbrev pub pdu : ℕ → List ℕ
pdu count = (128 + count / 256) ∷ count % 256 ∷ packet count

abbrev pub on_tunnel : ℕ → List ℕ
on_tunnel count = 48 ∷ 255 ∷ 0 ∷ 4 ∷ 0 ∷ 0 ∷ 0 ∷ 3 ∷ pdu count

-- the way of the packet with this COUNT
abbrev pub is_offered : ℕ → Shown
is_offered count = step (events.Offer (ue 1) (be 1) Ul (packet count)) (put_item (radio_link (en 1 1 Ul) 2) (shown (en 1 1 Ul) (Some count) (pdu count)) ∷ [])

abbrev pub is_carried : ℕ → Shown
is_carried count = step (events.Air (ue 1) (be 1) Ul)
    (got_item (radio_link (en 1 1 Ul) 2) (shown (en 1 1 Ul) (Some count) (pdu count))
    ∷ put_item (tunnel_link (te (CuUp A 1) 3)) (shown (en 1 1 Ul) (Some count) (on_tunnel count)) ∷ [])

abbrev pub is_delivered : ℕ → Shown
is_delivered count = step (events.Get (CuUp A 1) 3)
    (got_item (tunnel_link (te (CuUp A 1) 3)) (shown (en 1 1 Ul) (Some count) (on_tunnel count))
    ∷ delivers (en 1 1 Ul) count (packet count) ∷ [])

abbrev pub way_of : ℕ → List Shown
way_of count = is_offered count ∷ is_carried count ∷ step (events.Ack (ue 1) (be 1) Ul) [] ∷ is_delivered count ∷ []

-- packet 0 is carried, and stands on the old tunnel; the terminal moves to the other DU, and its second copy is delivered
abbrev pub before : List Shown
before = (step (events.Static (plan 1 A 1 1 Len12 1 64)) ([]))
    ∷ (step (events.Offer (ue 1) (be 1) Ul (0 ∷ 0 ∷ [])) (put_item (radio_link (en 1 1 Ul) 1) (shown (en 1 1 Ul) (Some 0) (128 ∷ 0 ∷ 0 ∷ 0 ∷ [])) ∷ []))
    ∷ (step (events.Air (ue 1) (be 1) Ul) (got_item (radio_link (en 1 1 Ul) 1) (shown (en 1 1 Ul) (Some 0) (128 ∷ 0 ∷ 0 ∷ 0 ∷ [])) ∷ put_item (tunnel_link (te (CuUp A 1) 2)) (shown (en 1 1 Ul) (Some 0) (48 ∷ 255 ∷ 0 ∷ 4 ∷ 0 ∷ 0 ∷ 0 ∷ 2 ∷ 128 ∷ 0 ∷ 0 ∷ 0 ∷ [])) ∷ []))
    ∷ (step (events.Handover (ue 1) A 1 2) (put_message 1 (le (CuCp A) (CuUp A 1) 1 (e1 (e1s.BearerContextModificationRequest (ue 1) 1 None 0 None None None None None))) ∷ []))
    ∷ (step (events.Pump) (got_message 1 (le (CuCp A) (CuUp A 1) 1 (e1 (e1s.BearerContextModificationRequest (ue 1) 1 None 0 None None None None None))) ∷ put_message 2 (le (CuUp A 1) (CuCp A) 1 (e1 (e1s.BearerContextModificationResponse (ue 1) 1 (Some ((tn 1 3) ∷ [])) None))) ∷ got_message 2 (le (CuUp A 1) (CuCp A) 1 (e1 (e1s.BearerContextModificationResponse (ue 1) 1 (Some ((tn 1 3) ∷ [])) None))) ∷ put_message 3 (le (CuCp A) (Du A 2) 1 (f1 (f1s.UeContextSetupRequest (ue 1) 1 2 ((tn 1 3) ∷ []) Len12 (pe A 1)))) ∷ got_message 3 (le (CuCp A) (Du A 2) 1 (f1 (f1s.UeContextSetupRequest (ue 1) 1 2 ((tn 1 3) ∷ []) Len12 (pe A 1)))) ∷ put_message 4 (le (Du A 2) (CuCp A) 1 (f1 (f1s.UeContextSetupResponse (ue 1) 1 ((tn 1 1) ∷ [])))) ∷ got_message 4 (le (Du A 2) (CuCp A) 1 (f1 (f1s.UeContextSetupResponse (ue 1) 1 ((tn 1 1) ∷ [])))) ∷ []))
    ∷ (step (events.Tick) (put_message 5 (le (CuCp A) (Du A 1) 1 (f1 (f1s.DlRrcMessageTransfer (ue 1) (toks.Command (ue 1) 2 A 2)))) ∷ []))
    ∷ (step (events.Pump) (got_message 5 (le (CuCp A) (Du A 1) 1 (f1 (f1s.DlRrcMessageTransfer (ue 1) (toks.Command (ue 1) 2 A 2)))) ∷ put_message 6 (le (Du A 1) (Ue 1) 1 (rrc (toks.Command (ue 1) 2 A 2))) ∷ got_message 6 (le (Du A 1) (Ue 1) 1 (rrc (toks.Command (ue 1) 2 A 2))) ∷ lost_items (radio_link (en 1 1 Ul) 1) 1 ∷ []))
    ∷ (step (events.Arrive (ue 1)) (put_message 7 (le (Ue 1) (Du A 2) 1 (rrc (toks.Complete (ue 1) 2))) ∷ put_item (radio_link (en 1 1 Ul) 2) (shown (en 1 1 Ul) None (0 ∷ 0 ∷ 0 ∷ 0 ∷ 0 ∷ [])) ∷ put_item (radio_link (en 1 1 Ul) 2) (shown (en 1 1 Ul) (Some 0) (128 ∷ 0 ∷ 0 ∷ 0 ∷ [])) ∷ []))
    ∷ (step (events.Pump) (got_message 7 (le (Ue 1) (Du A 2) 1 (rrc (toks.Complete (ue 1) 2))) ∷ put_message 8 (le (Du A 2) (CuCp A) 1 (f1 (f1s.UlRrcMessageTransfer (ue 1) (toks.Complete (ue 1) 2)))) ∷ got_message 8 (le (Du A 2) (CuCp A) 1 (f1 (f1s.UlRrcMessageTransfer (ue 1) (toks.Complete (ue 1) 2)))) ∷ put_message 9 (le (CuCp A) (CuUp A 1) 1 (e1 (e1s.BearerContextModificationRequest (ue 1) 2 (Some ((tn 1 1) ∷ [])) 1 None None None None (Some 2)))) ∷ put_message 10 (le (CuCp A) (Du A 1) 1 (f1 (f1s.UeContextReleaseCommand (ue 1) 1))) ∷ got_message 9 (le (CuCp A) (CuUp A 1) 1 (e1 (e1s.BearerContextModificationRequest (ue 1) 2 (Some ((tn 1 1) ∷ [])) 1 None None None None (Some 2)))) ∷ put_item (tunnel_link (te (Du A 2) 1)) (shown (en 1 1 Dl) None (52 ∷ 255 ∷ 0 ∷ 17 ∷ 0 ∷ 0 ∷ 0 ∷ 1 ∷ 0 ∷ 0 ∷ 0 ∷ 132 ∷ 2 ∷ 0 ∷ 0 ∷ 0 ∷ 0 ∷ 0 ∷ 0 ∷ 0 ∷ 0 ∷ 0 ∷ 0 ∷ 0 ∷ 0 ∷ [])) ∷ put_message 11 (le (CuUp A 1) (CuCp A) 1 (e1 (e1s.BearerContextModificationResponse (ue 1) 2 None None))) ∷ got_message 10 (le (CuCp A) (Du A 1) 1 (f1 (f1s.UeContextReleaseCommand (ue 1) 1))) ∷ put_message 12 (le (Du A 1) (CuCp A) 1 (f1 (f1s.UeContextReleaseComplete (ue 1) 1))) ∷ put_item (tunnel_link (te (CuUp A 1) 2)) (shown (en 1 1 Ul) None (48 ∷ 254 ∷ 0 ∷ 0 ∷ 0 ∷ 0 ∷ 0 ∷ 2 ∷ [])) ∷ got_message 11 (le (CuUp A 1) (CuCp A) 1 (e1 (e1s.BearerContextModificationResponse (ue 1) 2 None None))) ∷ put_message 13 (le (CuCp A) (Du A 2) 1 (f1 (f1s.DlRrcMessageTransfer (ue 1) (toks.Accepted (ue 1) 2)))) ∷ got_message 12 (le (Du A 1) (CuCp A) 1 (f1 (f1s.UeContextReleaseComplete (ue 1) 1))) ∷ got_message 13 (le (CuCp A) (Du A 2) 1 (f1 (f1s.DlRrcMessageTransfer (ue 1) (toks.Accepted (ue 1) 2)))) ∷ put_message 14 (le (Du A 2) (Ue 1) 1 (rrc (toks.Accepted (ue 1) 2))) ∷ got_message 14 (le (Du A 2) (Ue 1) 1 (rrc (toks.Accepted (ue 1) 2))) ∷ []))
    ∷ (step (events.Air (ue 1) (be 1) Ul) (got_item (radio_link (en 1 1 Ul) 2) (shown (en 1 1 Ul) None (0 ∷ 0 ∷ 0 ∷ 0 ∷ 0 ∷ [])) ∷ put_item (tunnel_link (te (CuUp A 1) 3)) (shown (en 1 1 Ul) None (48 ∷ 255 ∷ 0 ∷ 5 ∷ 0 ∷ 0 ∷ 0 ∷ 3 ∷ 0 ∷ 0 ∷ 0 ∷ 0 ∷ 0 ∷ [])) ∷ []))
    ∷ (step (events.Air (ue 1) (be 1) Ul) (got_item (radio_link (en 1 1 Ul) 2) (shown (en 1 1 Ul) (Some 0) (128 ∷ 0 ∷ 0 ∷ 0 ∷ [])) ∷ put_item (tunnel_link (te (CuUp A 1) 3)) (shown (en 1 1 Ul) (Some 0) (48 ∷ 255 ∷ 0 ∷ 4 ∷ 0 ∷ 0 ∷ 0 ∷ 3 ∷ 128 ∷ 0 ∷ 0 ∷ 0 ∷ [])) ∷ []))
    ∷ (step (events.Ack (ue 1) (be 1) Ul) ([]))
    ∷ (step (events.Ack (ue 1) (be 1) Ul) ([]))
    ∷ (step (events.Get (CuUp A 1) 3) (got_item (tunnel_link (te (CuUp A 1) 3)) (shown (en 1 1 Ul) None (48 ∷ 255 ∷ 0 ∷ 5 ∷ 0 ∷ 0 ∷ 0 ∷ 3 ∷ 0 ∷ 0 ∷ 0 ∷ 0 ∷ 0 ∷ [])) ∷ []))
    ∷ (step (events.Get (CuUp A 1) 3) (got_item (tunnel_link (te (CuUp A 1) 3)) (shown (en 1 1 Ul) (Some 0) (48 ∷ 255 ∷ 0 ∷ 4 ∷ 0 ∷ 0 ∷ 0 ∷ 3 ∷ 128 ∷ 0 ∷ 0 ∷ 0 ∷ [])) ∷ delivers (en 1 1 Ul) 0 (0 ∷ 0 ∷ []) ∷ []))
    ∷ []

abbrev pub worked : Worked
worked = record {
  steps = before ++ repeated way_of 1 2047 ++ is_offered 2048 ∷ [];
  stop = Some (outstanding (en 1 1 Ul) 2049 2048);
  faults = [];
  items = [];
}
