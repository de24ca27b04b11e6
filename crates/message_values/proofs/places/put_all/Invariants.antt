use Rattle.std.proofs.Common.{◌≡◌, ◌++◌}
use Rattle.std.specs.Prelude.{map}
use Rattle.std.specs.List.{flat_map}
use Rattle.std.specs.Vec.Iter.{into_iter_items}
use Rattle.aper_values.specs.Views.{element_view}
use Rattle.message_values.specs.Written.{put_one}
use Rattle.message_values.proofs.places.put_all.Given as goal

abbrev pub invariant-loop-field : goal.invariant-loop-field
invariant-loop-field l = map element_view l.ies.items ++ flat_map put_one (into_iter_items l.field-iterator)
    ≡ flat_map put_one (into_iter_items l.initial.field-iterator)
