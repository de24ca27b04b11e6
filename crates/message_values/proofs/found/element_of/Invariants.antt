use Rattle.std.proofs.Common.{◌≡◌, drop}
use Rattle.aper_values.specs.Views.{ies_view}
use Rattle.message_defs.specs.Places.{element_of}
use Rattle.message_values.specs.Elements.{element_named}
use Rattle.message_values.specs.Fitting.{AreFitting}
use Rattle.message_values.proofs.found.element_of.Given as goal

abbrev pub invariant-loop-ie : goal.invariant-loop-ie
invariant-loop-ie l = record {
  value : element_of (element_named l.name) (ies_view (drop l.ie-index l.found)) ≡ element_of (element_named l.name) (ies_view l.found);
  fitting : AreFitting (ies_view (drop l.ie-index l.found));
}
