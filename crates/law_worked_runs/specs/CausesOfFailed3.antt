-- Written by tools/worked_runs.py: a script, and the lines that were worked out for it.
use Rattle.std.specs.Prelude.{ℕ, List, [], ◌∷◌, Option, Some, None, Bool, true, false, map}
use Rattle.gnb_types.specs.declared.names.Gnb.TheVariants.{A, B}
use Rattle.gnb_types.specs.declared.names.NodeId.{NodeId}
use Rattle.gnb_types.specs.declared.names.NodeId.TheVariants.{CuCp, CuUp, Du, Core, Ue}
use Rattle.gnb_types.specs.declared.names.Dir.TheVariants.{Dl, Ul}
use Rattle.gnb_types.specs.declared.names.SnBits.TheVariants.{Len12, Len18}
use Rattle.gnb_types.specs.declared.reasons.DropReason.{DropReason}
use Rattle.gnb_types.specs.declared.reasons.DropReason.TheVariants as drops
use Rattle.gnb_types.specs.declared.reasons.HeldReason.TheVariants as holds
use Rattle.gnb_types.specs.declared.reasons.CauseName.TheVariants as causes
use Rattle.gnb_types.specs.declared.reasons.RefuseReason.TheVariants as refusals
use Rattle.gnb_types.specs.Names.{node_text}
use Rattle.message_types.specs.declared.f1.F1.TheVariants as f1s
use Rattle.message_types.specs.declared.e1.E1Message.TheVariants as e1s
use Rattle.message_types.specs.declared.xn.XnMessage.TheVariants as xns
use Rattle.message_types.specs.declared.xn.CoreMessage.TheVariants as cores
use Rattle.message_types.specs.declared.rrc.Token.{Token}
use Rattle.message_types.specs.declared.rrc.Token.TheVariants as toks
use Rattle.unit_defs.specs.Ways.{Message, f1, e1, xn, core, rrc}
use Rattle.scenario_text.specs.declared.event.Event.{Event}
use Rattle.scenario_text.specs.declared.event.Event.TheVariants as events
use Rattle.run_defs.specs.Lines.{RunLine, put_item, got_item, put_message, got_message, delivers, lost_items, lost_message, drops_input, held_at, procedure_failed, is_quiet, is_busy, has_settled, has_not_settled, was_refused, tunnel_link, radio_link, shown}
use Rattle.run_defs.specs.States.{Stop, outstanding, spent_counter}
use Rattle.law_worked_runs.specs.Short.{ue, be, te, en, tn, ss, pe, plan, le, step, Worked}

abbrev pub worked : Worked
worked = record {
  steps = (step (events.Static (plan 2 B 1 1 Len12 1 4096)) ([]))
      ∷ (step (events.Static (plan 3 B 1 1 Len12 1 4)) (was_refused refusals.Quota ∷ []))
      ∷ [];
  stop = None;
  faults = [];
  items = [];
}
