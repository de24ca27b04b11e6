-- `Local` of runs of packets down, over octets.
use Rattle.std.proofs.Common.{◌≡◌, true, List, [], ◌∷◌, refl}
use Rattle.std.specs.List.{AllByRecursion}
use Rattle.gnb_types.specs.declared.names.Dir.TheVariants.{Dl, Ul}
use Rattle.scenario_text.specs.declared.event.Event.{Event}
use Rattle.scenario_text.specs.declared.event.Event.TheVariants as events
use Rattle.unit_defs.specs.octet_defs.Codec.{Codec}
use Rattle.unit_defs.specs.octet_defs.Spelling.{spelled}
use Rattle.unit_defs.specs.codec_defs.Reading.{ReadsItems, ReadsPdus}
use Rattle.run_defs.specs.Local.{Local}
use Rattle.run_defs.specs.Runs.{Reading, Run}
use Rattle.run_defs.specs.UnitRuns.{tables, UnitRun}
use Rattle.law_octets_say_the_same.specs.octet_runs.Printed.{printed}
use Rattle.law_octets_say_the_same.specs.octet_facts.Ranges.{IsDownWith, IsDown, IsConfirmedDown}
use Rattle.law_octets_say_the_same.specs.octet_downlink_only.Near.{StatusesAreNear}
use Rattle.law_octets_say_the_same.proofs.octet_downlink_only.Runs.{downs_print, confirmed_print}
use Rattle.law_units_act_locally.specs.local.Offered.{HasOctet, OffersHaveOctets}
use Rattle.law_units_act_locally.specs.cu_cp_interfaces.Interfaces.{IsOf}
use Rattle.law_units_act_locally.proofs.local_interfaces.Whole.{local_on_interfaces}
use Rattle.law_octets_say_the_same.specs.octet_local.Spelt.{Spelt}
use Rattle.law_octets_say_the_same.proofs.octet_local.Retold.{as_local}

-- each packet that is offered has an octet

has_octet : (Acks : Type 0) (event : Event) → IsDownWith Acks event → HasOctet event
has_octet Acks (events.Offer ue bearer Dl packet) h = h
has_octet Acks (events.Offer ue bearer Ul packet) h = absurd h
has_octet Acks event h = tt

have_octets : (Acks : Type 0) (script : List Event) → AllByRecursion (IsDownWith Acks) script → OffersHaveOctets script
have_octets Acks [] h = tt
have_octets Acks (event ∷ script) h = (has_octet Acks event h.0, have_octets Acks script h.1)

same_local : (codec : Codec) (reading : Reading) (script : List Event) → OffersHaveOctets script
    → printed (λ octets. octets) (UnitRun codec (tables codec) script) ≡ printed (spelled codec) (Run reading script)
    → Local (Spelt (spelled codec) IsOf) (UnitRun codec (tables codec) script).events
same_local codec reading script octets e =
    as_local (spelled codec) (λ from to message. IsOf from to message × (true ≡ true)) (Spelt (spelled codec) IsOf) (λ a b m p. (m, p.0, refl))
    (Run reading script) (UnitRun codec (tables codec) script) e
    (local_on_interfaces reading script (λ from to message. true) octets (λ from to message is. refl))

pub downs_local : (reading : Reading) (codec : Codec) → ReadsItems codec → ReadsPdus codec → (script : List Event) → AllByRecursion IsDown script
    → Local (Spelt (spelled codec) IsOf) (UnitRun codec (tables codec) script).events
downs_local reading codec items pdus script are =
    same_local codec reading script (have_octets ⊥ script are) (downs_print reading codec items pdus script are)

pub confirmed_local : (reading : Reading) → StatusesAreNear reading → (codec : Codec) → ReadsItems codec → ReadsPdus codec → (script : List Event)
    → AllByRecursion IsConfirmedDown script → Local (Spelt (spelled codec) IsOf) (UnitRun codec (tables codec) script).events
confirmed_local reading near codec items pdus script are =
    same_local codec reading script (have_octets (Unit {0}) script are) (confirmed_print reading near codec items pdus script are)
