-- Plain units have the run of the tables: the ranges of what they are given are those of a script's words.
use Rattle.std.proofs.Common.{◌≡◌, List, [], ◌∷◌}
use Rattle.std.specs.List.{AllByRecursion}
use Rattle.gnb_types.specs.declared.names.NodeId.{NodeId}
use Rattle.gnb_types.specs.declared.names.NodeId.TheVariants.{Core}
use Rattle.gnb_types.specs.declared.names.Dir.TheVariants.{Dl, Ul}
use Rattle.gnb_types.specs.declared.outputs.Output.{Output}
use Rattle.gnb_types.specs.declared.outputs.Output.TheVariants as outs
use Rattle.scenario_text.specs.script_words.Ranges.{IsPacket}
use Rattle.scenario_text.specs.Texts.{InRange}
use Rattle.scenario_text.specs.declared.event.Event.{Event}
use Rattle.scenario_text.specs.declared.event.Event.TheVariants as events
use Rattle.unit_defs.specs.octet_defs.Codec.{Codec}
use Rattle.unit_defs.specs.octet_defs.Writing.{outputs_of}
use Rattle.run_defs.specs.UnitRuns.{Meaning, Records, tables, UnitRun}
use Rattle.law_octets_say_the_same.specs.units_follow.Ranges.{Range, within, IsInRange, Hands, StaysInRange}
use Rattle.law_octets_say_the_same.proofs.units_follow.Units.{runs_alike}
use Rattle.run_defs.specs.plain_defs.Plain.{IsPlanned, IsGiven, KeepRange, IsPlain}

module _ (in_range : Records → Type 0) where
  range : Range
  range = within in_range (λ core. Unit {0}) (λ node input. IsGiven input) IsPacket IsPlanned

  handed : (node : NodeId) (output : Output) → Hands range node output
  unfolding range
  handed node (outs.Control to ue octets) = tt
  handed node (outs.Packet to teid ue bearer dir tag octets) = tt
  handed node (outs.Radio ue bearer dir epoch tag octets) = λ at. (tt, tt)
  handed node (outs.Deliver ue bearer dir count x) = tt
  handed node (outs.Drop reason) = tt
  handed node (outs.Held reason) = tt
  handed node (outs.Opened teid) = tt
  handed node (outs.Closed teid) = tt
  handed node (outs.FailedUe ue cause) = tt
  handed node (outs.No reason) = tt

  all_handed : (node : NodeId) (outputs : List Output) → AllByRecursion (Hands range node) outputs
  all_handed node [] = tt
  all_handed node (output ∷ outputs) = (handed node output, all_handed node outputs)

  one_scripted : (event : Event) → InRange event → IsInRange range event
  unfolding range
  one_scripted (events.Static plan) p = p
  one_scripted (events.Attach plan) p = p
  one_scripted (events.Offer ue bearer Dl x) p = p.1.1.1.0
  one_scripted (events.Offer ue bearer Ul x) p = p.1.1.1.0
  one_scripted (events.InjectMessage from to octets) p = tt
  one_scripted (events.InjectItem end teid octets) p = tt
  one_scripted event p = tt

  scripted : (script : List Event) → AllByRecursion InRange script → AllByRecursion (IsInRange range) script
  scripted [] all = tt
  scripted (event ∷ script) all = (one_scripted event all.0, scripted script all.1)

  module _ (codec : Codec) (answer : Meaning) (keep : KeepRange answer in_range) where
    stays : StaysInRange codec answer range
    unfolding range
    stays = record {
      orders = λ node order. tt;
      ticks = λ node. tt;
      begins = keep.begins;
      comes = keep.comes;
      places = keep.places;
      answers = λ r after node input outputs at fits is. (keep.answers r after node input outputs at fits is, all_handed node outputs);
      core_begins = tt;
      core_places = λ r plan planned n3 at. tt;
      core_answers = λ r after from octets puts at fits is. (tt, all_handed Core (outputs_of puts));
      lays = λ r ue bearer p path at fits found. tt;
    }

    pub plain_alike : IsPlain codec answer in_range → (script : List Event) → AllByRecursion InRange script
        → UnitRun codec answer script ≡ UnitRun codec (tables codec) script
    unfolding range
    plain_alike plain script fits = runs_alike codec answer range stays plain script (scripted script fits)
