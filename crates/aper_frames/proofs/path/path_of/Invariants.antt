use Rattle.std.proofs.Common.{◌≡◌, take, reverse}
use Rattle.aper_frames.specs.Frames.{path_of}
use Rattle.aper_frames.specs.Paths.{path_view}
use Rattle.aper_frames.proofs.path.path_of.Given as goal

abbrev pub invariant-loop-frame : goal.invariant-loop-frame
invariant-loop-frame l = path_view l.path.items ≡ path_of (reverse (take l.frame-index l.frame-items))
