use Rattle.std.proofs.Common.{arith}
use Rattle.gnb_types.specs.declared.names.Gnb.TheVariants.{A}
use Rattle.gnb_types.specs.declared.names.NodeId.TheVariants.{CuCp, Core}
use Rattle.message_types.specs.declared.f1.F1.TheVariants.{F1SetupResponse}
use Rattle.unit_defs.specs.Ways.{f1}
use Rattle.run_defs.specs.Lines.{put_message}
use Rattle.law_units_act_locally.proofs.local_interfaces.the_law_says_something.Goals as goal

pub returns : goal.returns
returns c =
    λ lengths h. (h.0 0 (put_message 1 (record { from = CuCp A; to = Core; ue = 0; message = f1 (F1SetupResponse 1) })) (omega arith)).1
