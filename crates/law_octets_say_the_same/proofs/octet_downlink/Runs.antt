-- What holds of runs of packets down is so of plain units, over octets.
use Rattle.std.proofs.Common.{◌≡◌, ℕ, false, List, [], ◌∷◌, None, sym, subst}
use Rattle.std.specs.List.{AllByRecursion}
use Rattle.gnb_types.specs.declared.names.UeId.{UeId}
use Rattle.gnb_types.specs.declared.names.BearerId.{BearerId}
use Rattle.gnb_types.specs.declared.names.Dir.TheVariants.{Dl, Ul}
use Rattle.gnb_types.specs.declared.keys.EntityKey.{EntityKey}
use Rattle.scenario_text.specs.Texts.{InRange}
use Rattle.scenario_text.specs.declared.event.Event.{Event}
use Rattle.scenario_text.specs.declared.event.Event.TheVariants as events
use Rattle.unit_defs.specs.octet_defs.Codec.{Codec}
use Rattle.unit_defs.specs.octet_defs.Spelling.{spelled}
use Rattle.unit_defs.specs.codec_defs.Reading.{ReadsItems, ReadsPdus}
use Rattle.run_defs.specs.Local.{Local, CountMeans}
use Rattle.run_defs.specs.Runs.{Happened, Reading, Run, Transcript}
use Rattle.run_defs.specs.Said.{all_lines, Wires}
use Rattle.run_defs.specs.States.{entity}
use Rattle.run_defs.specs.UnitRuns.{Meaning, Records, tables, UnitRun, unit_world}
use Rattle.run_defs.specs.plain_defs.Plain.{IsPlain, KeepRange}
use Rattle.law_octets_say_the_same.proofs.plain_units.Alike.{plain_alike}
use Rattle.law_downlink_scripts.specs.downlink_only_runs.Scripts.{IsDownlinkOnly, DeliversInOrder}
use Rattle.law_downlink_scripts.proofs.downlink_only_runs.Runs.{runs_deliver}
use Rattle.law_downlink_scripts.proofs.downlink_only_lines.Runs.{counts_mean}
use Rattle.law_downlink_scripts.proofs.wires.Runs.{wires}
use Rattle.law_octets_say_the_same.specs.octet_runs.Printed.{printed}
use Rattle.law_octets_say_the_same.specs.octet_facts.Ranges.{IsDownWith, IsDown, IsConfirmedDown}
use Rattle.law_octets_say_the_same.specs.octet_downlink_only.Near.{StatusesAreNear}
use Rattle.law_octets_say_the_same.proofs.octet_downlink_only.Runs.{downs_print, confirmed_print}
use Rattle.law_units_act_locally.specs.cu_cp_interfaces.Interfaces.{IsOf}
use Rattle.law_octets_say_the_same.specs.octet_local.Spelt.{Spelt}
use Rattle.law_octets_say_the_same.proofs.octet_local.Retold.{told_so}
use Rattle.law_octets_say_the_same.proofs.octet_local.Runs.{downs_local, confirmed_local}
use Rattle.law_octets_say_the_same.specs.octet_downlink.Promise.{KeepsPromise}
use Rattle.law_octets_say_the_same.proofs.octet_downlink.Retold.{retold_order, retold_counts}

-- ---- what prints the same

module _ {M : Type 0} (encode : M → List ℕ) (said : Transcript M) (told : Transcript (List ℕ))
    (e : printed (λ octets. octets) told ≡ printed encode said) where
  pub same_order : (key : EntityKey) → DeliversInOrder key said.events → DeliversInOrder key told.events
  same_order key d =
      subst (λ (hs : List (Happened (List ℕ))). DeliversInOrder key hs) (told_so encode said told e) (retold_order encode key said.events d)

  pub same_counts : CountMeans said.events → CountMeans told.events
  same_counts h = subst (λ (hs : List (Happened (List ℕ))). CountMeans hs) (told_so encode said told e) (retold_counts encode said.events h)

-- ---- packets down tell no unit anything

is_downlink_only : (Acks : Type 0) (event : Event) → IsDownWith Acks event → IsDownlinkOnly event
is_downlink_only Acks (events.Static plan) h = tt
is_downlink_only Acks (events.Offer ue bearer Dl packet) h = tt
is_downlink_only Acks (events.Offer ue bearer Ul packet) h = absurd h
is_downlink_only Acks (events.Get end teid) h = tt
is_downlink_only Acks (events.Air ue bearer dir) h = tt
is_downlink_only Acks (events.Ack ue bearer dir) h = tt
is_downlink_only Acks (events.Ask ue bearer) h = tt
is_downlink_only Acks event h = absurd h

are_downlink_only : (Acks : Type 0) (script : List Event) → AllByRecursion (IsDownWith Acks) script → AllByRecursion IsDownlinkOnly script
are_downlink_only Acks [] h = tt
are_downlink_only Acks (event ∷ script) h = (is_downlink_only Acks event h.0, are_downlink_only Acks script h.1)

-- ---- units of the tables, and then plain ones

-- some reading of octets from outside, of which such a script has none
pub nothing_is_read : Reading
nothing_is_read = record { message_fault = λ from to octets. None; is_item = λ link sn octets. false }

wires_of : (codec : Codec) (answer : Meaning) (script : List Event) → Wires (all_lines (UnitRun codec answer script).events)
unfolding UnitRun
wires_of codec answer script = wires (unit_world codec answer) script

kept_by_tables : (codec : Codec) (reading : Reading) (script : List Event) → AllByRecursion IsDownlinkOnly script
    → printed (λ octets. octets) (UnitRun codec (tables codec) script) ≡ printed (spelled codec) (Run reading script)
    → Local (Spelt (spelled codec) IsOf) (UnitRun codec (tables codec) script).events
    → KeepsPromise codec (UnitRun codec (tables codec) script).events
kept_by_tables codec reading script downlink_only e local = record {
  delivers = λ ue bearer. same_order (spelled codec) (Run reading script) (UnitRun codec (tables codec) script) e (entity ue bearer Dl)
      (runs_deliver reading script downlink_only ue bearer);
  wires = wires_of codec (tables codec) script;
  local = local;
  counts = same_counts (spelled codec) (Run reading script) (UnitRun codec (tables codec) script) e (counts_mean reading script downlink_only);
}

module _ (codec : Codec) (items : ReadsItems codec) (pdus : ReadsPdus codec) (answer : Meaning) (in_range : Records → Type 0)
    (keep : KeepRange answer in_range) (plain : IsPlain codec answer in_range) where
  as_tables : (script : List Event) → AllByRecursion InRange script → KeepsPromise codec (UnitRun codec (tables codec) script).events
      → KeepsPromise codec (UnitRun codec answer script).events
  as_tables script fits h =
      subst (λ (t : Transcript (List ℕ)). KeepsPromise codec t.events) (sym (plain_alike in_range codec answer keep plain script fits)) h

  pub promised : (reading : Reading) (script : List Event) → AllByRecursion InRange script → AllByRecursion IsDown script
      → KeepsPromise codec (UnitRun codec answer script).events
  promised reading script fits are =
      as_tables script fits (kept_by_tables codec reading script (are_downlink_only ⊥ script are) (downs_print reading codec items pdus script are)
      (downs_local reading codec items pdus script are))

  pub promised_confirmed : (reading : Reading) → StatusesAreNear reading → (script : List Event) → AllByRecursion InRange script
      → AllByRecursion IsConfirmedDown script → KeepsPromise codec (UnitRun codec answer script).events
  promised_confirmed reading near script fits are =
      as_tables script fits (kept_by_tables codec reading script (are_downlink_only (Unit {0}) script are)
      (confirmed_print reading near codec items pdus script are) (confirmed_local reading near codec items pdus script are))
