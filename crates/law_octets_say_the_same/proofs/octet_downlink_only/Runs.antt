-- Runs of packets down, over octets.
use Rattle.std.proofs.Common.{◌≡◌, List}
use Rattle.std.specs.List.{AllByRecursion}
use Rattle.gnb_types.specs.declared.names.Dir.TheVariants.{Dl}
use Rattle.message_types.specs.declared.rrc.Token.{Token}
use Rattle.unit_defs.specs.Ways.{Message}
use Rattle.unit_defs.specs.octet_defs.Codec.{Codec}
use Rattle.unit_defs.specs.octet_defs.Spelling.{spelled}
use Rattle.unit_defs.specs.codec_defs.Reading.{ReadsItems, ReadsPdus}
use Rattle.scenario_text.specs.declared.event.Event.{Event}
use Rattle.scenario_text.specs.declared.event.Event.TheVariants as events
use Rattle.run_defs.specs.States.{new_state}
use Rattle.run_defs.specs.Runs.{Reading, Run}
use Rattle.run_defs.specs.UnitRuns.{tables, UnitRun}
use Rattle.law_tunnels_are_owned.specs.owner_facts.Owned.{AreOwned}
use Rattle.law_downlink_scripts.proofs.downlink_only_facts.Views.{PlainState}
use Rattle.law_tunnels_are_owned.proofs.tunnel_owners.Placed.{first_owned}
use Rattle.law_tunnels_are_owned.proofs.tunnel_owners.Runs.{owned_later}
use Rattle.law_tunnels_are_owned.proofs.run_tunnels.Runs.{own_in_runs}
use Rattle.law_octets_say_the_same.specs.octet_runs.Printed.{printed}
use Rattle.law_octets_say_the_same.specs.octet_runs.Faithful.{IsOfPackets, IsFaithful}
use Rattle.law_octets_say_the_same.proofs.octet_runs.Runs.{runs_print}
use Rattle.law_octets_say_the_same.specs.octet_facts.Ranges.{IsDownWith, IsDown, IsConfirmedDown}
use Rattle.law_octets_say_the_same.proofs.octet_ranges.Runs.{Comes, begins, stands_open, comes_on, idle, ranged}
use Rattle.law_octets_say_the_same.proofs.octet_asks.Asks.{asks_alike}
use Rattle.law_octets_say_the_same.proofs.octet_downlink_only.Gets.{gets_alike}
use Rattle.law_octets_say_the_same.proofs.octet_downlink_only.Airs.{carries_alike}
use Rattle.law_octets_say_the_same.proofs.octet_downlink_only.Acks.{confirms_alike}
use Rattle.law_octets_say_the_same.specs.octet_downlink_only.Near.{AreNear, StatusesAreNear}

of_packets : (Acks : Type 0) (event : Event) → IsDownWith Acks event → IsOfPackets event
of_packets Acks (events.Static plan) h = tt
of_packets Acks (events.Offer ue bearer Dl p) h = tt
of_packets Acks (events.Get node teid) h = tt
of_packets Acks (events.Air ue bearer dir) h = tt
of_packets Acks (events.Ack ue bearer dir) h = tt
of_packets Acks (events.Ask ue bearer) h = tt
of_packets Acks event h = absurd h

module _ (Acks : Type 0) (reading : Reading) (near : Acks → (s : PlainState) → Comes Acks reading s → AreNear s) (codec : Codec) (items : ReadsItems codec)
    (pdus : ReadsPdus codec) where
  owned : (s : PlainState) → Comes Acks reading s → AreOwned s.units
  owned s c = owned_later reading c.past new_state s c.is (first_owned (Message Token) Token)

  faithful : IsFaithful codec reading (IsDownWith Acks) (Comes Acks reading)
  faithful = record {
    packets = of_packets Acks;
    begins = begins Acks reading;
    goes_on = λ event s after steps one c is. comes_on Acks reading s c event after steps one is;
    got = λ s node teid item rest one c found.
        gets_alike Acks codec items reading s (λ acks. near acks s c) (λ g k. (c.in_range.units.0 g k).bearers) (owned s c) (stands_open Acks reading s c)
        (own_in_runs reading c.past s c.is) c.standing (ranged Acks reading s c) item rest node teid found;
    carried = λ s ue bearer dir home item one c ready next.
        carries_alike Acks codec pdus reading s c.standing (ranged Acks reading s c) ue bearer home item dir next;
    confirmed = λ s ue bearer dir home item rest one c ready are.
        confirms_alike Acks codec pdus reading s (owned s c) c.standing (ranged Acks reading s c) ue bearer home item rest dir ready are;
    asked = λ s ue bearer one c. asks_alike codec s ue bearer (idle Acks reading s c);
  }

  prints : (script : List Event) → AllByRecursion (IsDownWith Acks) script
      → printed (λ octets. octets) (UnitRun codec (tables codec) script) ≡ printed (spelled codec) (Run reading script)
  prints script are = runs_print codec reading (IsDownWith Acks) (Comes Acks reading) faithful script are

pub downs_print : (reading : Reading) (codec : Codec) → ReadsItems codec → ReadsPdus codec → (script : List Event) → AllByRecursion IsDown script
    → printed (λ octets. octets) (UnitRun codec (tables codec) script) ≡ printed (spelled codec) (Run reading script)
downs_print reading codec items pdus script are = prints ⊥ reading (λ none s c. absurd none) codec items pdus script are

pub confirmed_print : (reading : Reading) → StatusesAreNear reading → (codec : Codec) → ReadsItems codec → ReadsPdus codec → (script : List Event)
    → AllByRecursion IsConfirmedDown script → printed (λ octets. octets) (UnitRun codec (tables codec) script) ≡ printed (spelled codec) (Run reading script)
confirmed_print reading near codec items pdus script are =
    prints (Unit {0}) reading (λ acks s c. near c.past s c.are c.is) codec items pdus script are
