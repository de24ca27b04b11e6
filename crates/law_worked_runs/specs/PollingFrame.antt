-- Written by tools/worked_runs.py: a script, and the lines that were worked out for it.
use Rattle.std.specs.Prelude.{ℕ, List, [], ◌∷◌, Option, Some, None, Bool, true, false, map}
use Rattle.gnb_types.specs.declared.names.Gnb.TheVariants.{A, B}
use Rattle.gnb_types.specs.declared.names.NodeId.{NodeId}
use Rattle.gnb_types.specs.declared.names.NodeId.TheVariants.{CuCp, CuUp, Du, Core, Ue}
use Rattle.gnb_types.specs.declared.names.Dir.TheVariants.{Dl, Ul}
use Rattle.gnb_types.specs.declared.names.SnBits.TheVariants.{Len12, Len18}
use Rattle.gnb_types.specs.declared.reasons.DropReason.{DropReason}
use Rattle.gnb_types.specs.declared.reasons.DropReason.TheVariants as drops
use Rattle.gnb_types.specs.declared.reasons.HeldReason.TheVariants as holds
use Rattle.gnb_types.specs.declared.reasons.CauseName.TheVariants as causes
use Rattle.gnb_types.specs.declared.reasons.RefuseReason.TheVariants as refusals
use Rattle.gnb_types.specs.Names.{node_text}
use Rattle.message_types.specs.declared.f1.F1.TheVariants as f1s
use Rattle.message_types.specs.declared.e1.E1Message.TheVariants as e1s
use Rattle.message_types.specs.declared.xn.XnMessage.TheVariants as xns
use Rattle.message_types.specs.declared.xn.CoreMessage.TheVariants as cores
use Rattle.message_types.specs.declared.rrc.Token.{Token}
use Rattle.message_types.specs.declared.rrc.Token.TheVariants as toks
use Rattle.unit_defs.specs.Ways.{Message, f1, e1, xn, core, rrc}
use Rattle.scenario_text.specs.declared.event.Event.{Event}
use Rattle.scenario_text.specs.declared.event.Event.TheVariants as events
use Rattle.run_defs.specs.Lines.{RunLine, put_item, got_item, put_message, got_message, delivers, lost_items, lost_message, drops_input, held_at, procedure_failed, is_quiet, is_busy, has_settled, has_not_settled, was_refused, tunnel_link, radio_link, shown}
use Rattle.run_defs.specs.States.{Stop, outstanding, spent_counter}
use Rattle.law_worked_runs.specs.Short.{ue, be, te, en, tn, ss, pe, plan, le, step, Worked}

abbrev pub worked : Worked
worked = record {
  steps = (step (events.Static (plan 1 A 1 1 Len12 1 64)) ([]))
      ∷ (step (events.Offer (ue 1) (be 1) Dl (69 ∷ [])) (put_item (tunnel_link (te (CuUp A 1) 1)) (shown (en 1 1 Dl) None (48 ∷ 255 ∷ 0 ∷ 1 ∷ 0 ∷ 0 ∷ 0 ∷ 1 ∷ 69 ∷ [])) ∷ []))
      ∷ (step (events.Get (CuUp A 1) 1) (got_item (tunnel_link (te (CuUp A 1) 1)) (shown (en 1 1 Dl) None (48 ∷ 255 ∷ 0 ∷ 1 ∷ 0 ∷ 0 ∷ 0 ∷ 1 ∷ 69 ∷ [])) ∷ put_item (tunnel_link (te (Du A 1) 1)) (shown (en 1 1 Dl) (Some 0) (52 ∷ 255 ∷ 0 ∷ 15 ∷ 0 ∷ 0 ∷ 0 ∷ 1 ∷ 0 ∷ 0 ∷ 0 ∷ 132 ∷ 2 ∷ 0 ∷ 0 ∷ 0 ∷ 0 ∷ 0 ∷ 0 ∷ 0 ∷ 128 ∷ 0 ∷ 69 ∷ [])) ∷ []))
      ∷ (step (events.Poll (ue 1) (be 1)) (put_item (tunnel_link (te (Du A 1) 1)) (shown (en 1 1 Dl) None (52 ∷ 255 ∷ 0 ∷ 12 ∷ 0 ∷ 0 ∷ 0 ∷ 1 ∷ 0 ∷ 0 ∷ 0 ∷ 132 ∷ 2 ∷ 1 ∷ 0 ∷ 0 ∷ 0 ∷ 1 ∷ 0 ∷ 0 ∷ [])) ∷ []))
      ∷ (step (events.Get (Du A 1) 1) (got_item (tunnel_link (te (Du A 1) 1)) (shown (en 1 1 Dl) (Some 0) (52 ∷ 255 ∷ 0 ∷ 15 ∷ 0 ∷ 0 ∷ 0 ∷ 1 ∷ 0 ∷ 0 ∷ 0 ∷ 132 ∷ 2 ∷ 0 ∷ 0 ∷ 0 ∷ 0 ∷ 0 ∷ 0 ∷ 0 ∷ 128 ∷ 0 ∷ 69 ∷ [])) ∷ put_item (radio_link (en 1 1 Dl) 1) (shown (en 1 1 Dl) (Some 0) (128 ∷ 0 ∷ 69 ∷ [])) ∷ []))
      ∷ (step (events.Get (Du A 1) 1) (got_item (tunnel_link (te (Du A 1) 1)) (shown (en 1 1 Dl) None (52 ∷ 255 ∷ 0 ∷ 12 ∷ 0 ∷ 0 ∷ 0 ∷ 1 ∷ 0 ∷ 0 ∷ 0 ∷ 132 ∷ 2 ∷ 1 ∷ 0 ∷ 0 ∷ 0 ∷ 1 ∷ 0 ∷ 0 ∷ [])) ∷ put_item (tunnel_link (te (CuUp A 1) 2)) (shown (en 1 1 Dl) None (52 ∷ 255 ∷ 0 ∷ 12 ∷ 0 ∷ 0 ∷ 0 ∷ 2 ∷ 0 ∷ 0 ∷ 0 ∷ 132 ∷ 2 ∷ 16 ∷ 0 ∷ 0 ∷ 1 ∷ 0 ∷ 0 ∷ 0 ∷ [])) ∷ []))
      ∷ [];
  stop = None;
  faults = [];
  items = [];
}
