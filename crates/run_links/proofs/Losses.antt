-- All that stands on the radios of a terminal is lost, radio by radio.
use Rattle.std.proofs.Common.{◌≡◌, ◌==◌, ℕ, List, [], ◌∷◌, Some, None, refl, sym, subst}
use Rattle.std.proofs.lemmas.List.{append-nil}
use Rattle.gnb_types.specs.declared.names.UeId.{UeId}
use Rattle.gnb_types.specs.declared.keys.EntityKey.{EntityKey}
use Rattle.gnb_types.proofs.Choices.{by_test}
use Rattle.scenario_text.specs.declared.line.OutLine.{OutLine}
use Rattle.transport_defs.specs.Links.{Radio, emptied}
use Rattle.links.specs.Radios.{first_of}
use Rattle.run_defs.specs.Steps.{radios_of, lose_each}
use Rattle.run_defs.specs.UnitRuns.{unit_world}
use Rattle.run_links.specs.declared.network.Network.{Network}
use Rattle.run_links.specs.Networks.{Octets, OctetWorld, state_of}
use Rattle.run_links.specs.Told.{GoesTo, Makes, lose_one}
use Rattle.run_links.proofs.FirstRadios.{Splits}
use Rattle.run_links.proofs.Goes.{then_goes}

pub lose_then : (ue : UeId) (epoch : ℕ) (key : EntityKey) (old middle new : Network) (before between lines : List OutLine)
    → Splits ue key old.radios.radios → Makes (lose_one epoch key) old middle before between
    → middle.radios.radios ≡ emptied old.radios.radios key
    → Makes (λ world. lose_each world epoch (radios_of world ue middle.radios.radios)) middle new between lines
    → Makes (λ world. lose_each world epoch (radios_of world ue old.radios.radios)) old new before lines
lose_then ue epoch key old middle new before between lines splits h is k codec answer units core =
    let world = unit_world codec answer in
    let last : GoesTo between (lose_each world epoch (radios_of world ue (emptied old.radios.radios key)) (state_of units core middle)) lines
    (state_of units core new) =
    subst (λ (r : List (EntityKey × Radio Octets)).
    GoesTo between (lose_each world epoch (radios_of world ue r) (state_of units core middle)) lines (state_of units core new))
    is (k codec answer units core) in
    subst (λ (keys : List EntityKey). GoesTo before (lose_each world epoch keys (state_of units core old)) lines (state_of units core new))
    (sym splits.first)
    (then_goes (lose_one epoch key world (state_of units core old)) (lose_each world epoch (radios_of world ue (emptied old.radios.radios key)))
    before between lines (state_of units core middle) (state_of units core new) (h codec answer units core) last)

none_left : (world : OctetWorld) (ue : UeId) (radios : List (EntityKey × Radio Octets)) → first_of ue radios ≡ None → radios_of world ue radios ≡ []
none_left world ue [] h = refl
none_left world ue (e ∷ es) h =
    by_test (radios_of world ue (e ∷ es) ≡ []) (e.0.ue.0 == ue.0)
    (λ t. let there : Some e.0 ≡ None = rw t at h in absurd cc)
    (λ f. let there : first_of ue es ≡ None = rw f at h in rw f (none_left world ue es there))

pub lose_none : (ue : UeId) (epoch : ℕ) (g : Network) (lines : List OutLine) → first_of ue g.radios.radios ≡ None
    → Makes (λ world. lose_each world epoch (radios_of world ue g.radios.radios)) g g lines lines
lose_none ue epoch g lines h codec answer units core =
    let world = unit_world codec answer in
    subst (λ (keys : List EntityKey). GoesTo lines (lose_each world epoch keys (state_of units core g)) lines (state_of units core g))
    (sym (none_left world ue g.radios.radios h)) (sym (append-nil lines), refl)
