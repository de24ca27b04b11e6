-- In every run whose offers have octets, packets are local, and those that are got are of the size that decodes.
use Rattle.std.proofs.Common.{List, [], refl}
use Rattle.message_types.specs.declared.rrc.Token.{Token}
use Rattle.tables.specs.Tables.{find, at}
use Rattle.scenario_text.specs.declared.event.Event.{Event}
use Rattle.link_defs.specs.Decoding.{IsSized}
use Rattle.unit_defs.specs.Ways.{Message}
use Rattle.run_defs.specs.Local.{acts_of, sn_in}
use Rattle.run_defs.specs.States.{Lengths, new_state}
use Rattle.run_defs.specs.Runs.{Reading, run, Run}
use Rattle.proof_run_steps.specs.plans.Plans.{Plans}
use Rattle.proof_run_steps.specs.facts.Facts.{Hold}
use Rattle.proof_run_steps.specs.plan_facts.Along.{AreKeptAlong}
use Rattle.proof_run_steps.proofs.plan_facts.Constant.{both_by, both_along}
use Rattle.law_units_act_locally.specs.local_packets.Says.{Saying}
use Rattle.law_units_act_locally.specs.local_packets.Local.{IfAny, WasAt, LocalFrom}
use Rattle.law_units_act_locally.proofs.local_packets.Settled.{first_settled}
use Rattle.law_units_act_locally.proofs.local_packets.Known.{first_known}
use Rattle.law_units_act_locally.proofs.local_packets.Steps.{Tells}
use Rattle.law_units_act_locally.proofs.local_packets.Runs.{run_local}
use Rattle.law_units_act_locally.specs.local_lengths.Long.{SaysLong, PutsLong}
use Rattle.law_units_act_locally.proofs.local_lengths.Attach.{W}
use Rattle.law_units_act_locally.proofs.local_lengths.Comes.{IsLength, Lengthened, come_so}
use Rattle.law_units_act_locally.proofs.local_lengths.Tells.{LongFacts, tells as long_tells}
use Rattle.law_units_act_locally.proofs.local_lengths.Runs.{kept as long_kept, first as long_first}
use Rattle.law_units_act_locally.specs.local.Offered.{HasOctet, OffersHaveOctets}
use Rattle.law_units_act_locally.proofs.local.Sized.{RunFacts, MayOffer, sized, sized_kept, sized_first}
use Rattle.law_units_act_locally.proofs.local.Offers.{offers}

abbrev pub SaysSized : Lengths → Saying
SaysSized L link item said = SaysLong L link item said × IfAny IsSized said

module _ (reading : Reading) (L : Lengths) where
  abbrev WholeFacts : Plans → RunFacts
  WholeFacts = both_by (W reading) (LongFacts reading L) (λ plans. sized)

  kept : AreKeptAlong (W reading) WholeFacts (Lengthened reading L MayOffer)
  kept =
      both_along (W reading) (LongFacts reading L) (λ plans. sized) (Lengthened reading L MayOffer) (long_kept reading L MayOffer)
      (sized_kept reading (IsLength reading L MayOffer))

  tells : (plans : Plans) → Tells reading (λ item. item.octets) (λ pdu. pdu.octets) (SaysSized L) (PutsLong L) (WholeFacts plans)
  tells plans =
      let long = long_tells reading L plans in
      record {
        tunnel = λ end item h. (long.tunnel end item h.0, h.1.0);
        radio = λ key on epoch item h. (long.radio key on epoch item h.0, h.1);
        puts = λ node end item h. long.puts node end item h.0;
        airs = λ node key epoch item h same. long.airs node key epoch item h.0 same;
      }

  first : Hold (WholeFacts []) new_state
  unfolding find at
  first =
      let one = long_first reading L in
      let other = sized_first reading in
      record {
        units = (one.units, other.units);
        core = (one.core, other.core);
        control_messages = tt;
        tunnels = λ end items found. absurd cc;
        radios = λ key. tt;
        few = λ counted. absurd counted;
      }

pub sized_local : (reading : Reading) (script : List Event) → OffersHaveOctets script
    → LocalFrom (SaysSized (sn_in (Run reading script).events)) (PutsLong (sn_in (Run reading script).events)) [] (acts_of (Run reading script).events)
unfolding Run run
sized_local reading script octets =
    let L : Lengths = sn_in (Run reading script).events in
    run_local reading (λ item. item.octets) (λ pdu. pdu.octets) (SaysSized L) (PutsLong L) (WholeFacts reading L) (Lengthened reading L MayOffer) (kept reading L)
    (tells reading L) script [] new_state (first reading L)
    (come_so reading L MayOffer HasOctet (offers reading L) script new_state octets (λ ue none. refl))
    first_settled (first_known (WasAt (SaysSized L) {M = Message Token} []) reading)
