-- A step that no unit may make: a CU-CP puts a message of F1 to the core.
use Rattle.std.specs.Prelude.{[], ◌∷◌, Some, false}
use Rattle.gnb_types.specs.declared.names.Gnb.TheVariants.{A}
use Rattle.gnb_types.specs.declared.names.NodeId.TheVariants.{CuCp, Core}
use Rattle.message_types.specs.declared.f1.F1.TheVariants.{F1SetupResponse}
use Rattle.message_types.specs.declared.rrc.Token.{Token}
use Rattle.scenario_text.specs.declared.event.Event.TheVariants as events
use Rattle.unit_defs.specs.Ways.{Message, f1}
use Rattle.run_defs.specs.Lines.{put_message}
use Rattle.run_defs.specs.States.{step_of}
use Rattle.run_defs.specs.Local.{Act}

abbrev pub to_the_core : Act (Message Token)
to_the_core = record {
  event = events.Tick;
  refused = false;
  step = step_of (Some (CuCp A)) (put_message 1 (record { from = CuCp A; to = Core; ue = 0; message = f1 (F1SetupResponse 1) }) ∷ []);
}
