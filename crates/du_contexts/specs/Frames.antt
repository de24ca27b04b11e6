-- The frames of the code, as the rows of a DU have them.
use Rattle.std.specs.Prelude.{ℕ, List, option_copied}
use Rattle.unit_defs.specs.Ways.{Taken, frame_item}
use Rattle.du_contexts.specs.declared.packets.Frame.{Frame}

abbrev pub frame_as : Frame → Taken (List ℕ)
frame_as frame = frame_item frame.poll frame.restart frame.number (option_copied frame.pdu)
