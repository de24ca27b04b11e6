-- In every run packets are local, read with numbers of their terminals' lengths.
use Rattle.std.proofs.Common.{ℕ, List, [], ◌∷◌, inl, refl}
use Rattle.std.specs.List.{AllByRecursion}
use Rattle.gnb_types.specs.declared.names.Dir.{Dir}
use Rattle.message_types.specs.declared.rrc.Token.{Token}
use Rattle.tables.specs.Tables.{find, at}
use Rattle.scenario_text.specs.declared.event.Event.{Event}
use Rattle.unit_defs.specs.Ways.{Message}
use Rattle.run_defs.specs.Local.{acts_of, sn_in}
use Rattle.run_defs.specs.States.{Lengths, new_state}
use Rattle.run_defs.specs.Runs.{Reading, run, Run}
use Rattle.proof_run_steps.specs.facts.UnitFacts.{written_facts}
use Rattle.proof_run_steps.specs.facts.Facts.{Hold}
use Rattle.proof_run_steps.proofs.facts.Plain.{plain_kept, first_holds}
use Rattle.proof_run_steps.specs.plan_facts.Along.{AreKeptAlong}
use Rattle.proof_run_steps.proofs.plan_facts.Constant.{always_along, both_along}
use Rattle.law_tunnels_are_owned.proofs.link_items.Names.{link_items}
use Rattle.law_tunnels_are_owned.proofs.link_items.Links.{items_keep}
use Rattle.law_tunnels_are_owned.proofs.run_lengths.Answers.{lengths, lengths_kept}
use Rattle.law_tunnels_are_owned.proofs.run_lengths.Runs.{first_lengths}
use Rattle.law_units_act_locally.specs.local_packets.Local.{WasAt, LocalFrom}
use Rattle.law_units_act_locally.proofs.local_packets.Settled.{first_settled}
use Rattle.law_units_act_locally.proofs.local_packets.Known.{first_known}
use Rattle.law_units_act_locally.proofs.local_packets.Runs.{run_local}
use Rattle.law_units_act_locally.specs.local_lengths.Long.{SaysLong, PutsLong}
use Rattle.law_units_act_locally.proofs.local_lengths.Attach.{W}
use Rattle.law_units_act_locally.proofs.local_lengths.Comes.{IsLength, Lengthened, come_so}
use Rattle.law_units_act_locally.proofs.local_lengths.Tells.{LongFacts, tells}

-- nothing is asked of what is offered
abbrev Any : Dir → List ℕ → Type 0
Any dir packet = Unit {0}

all_any : (events : List Event) → AllByRecursion (λ (event : Event). Unit {0}) events
all_any [] = tt
all_any (event ∷ events) = (tt, all_any events)

module _ (reading : Reading) (L : Lengths) where
  pub kept : (Offered : Dir → List ℕ → Type 0) → AreKeptAlong (W reading) (LongFacts reading L) (Lengthened reading L Offered)
  kept Offered =
      both_along (W reading) (λ plans. written_facts link_items) (lengths (IsLength reading L Offered)) (Lengthened reading L Offered)
      (always_along (W reading) (Lengthened reading L Offered) (written_facts link_items) (plain_kept link_items items_keep reading))
      (lengths_kept (IsLength reading L Offered) Offered reading)

  pub first : Hold (LongFacts reading L []) new_state
  unfolding find at
  first =
      let one = first_holds link_items items_keep in
      let other = first_lengths (IsLength reading L Any) in
      record {
        units = (one.units, other.units);
        core = (one.core, other.core);
        control_messages = tt;
        tunnels = λ end items found. absurd cc;
        radios = λ key. tt;
        few = λ counted. absurd counted;
      }

pub local_by_length : (reading : Reading) (events : List Event)
    → LocalFrom (SaysLong (sn_in (Run reading events).events)) (PutsLong (sn_in (Run reading events).events)) [] (acts_of (Run reading events).events)
unfolding Run run
local_by_length reading events =
    let L : Lengths = sn_in (Run reading events).events in
    run_local reading (λ item. item.octets) (λ pdu. pdu.octets) (SaysLong L) (PutsLong L) (LongFacts reading L) (Lengthened reading L Any) (kept reading L Any)
    (tells reading L) events [] new_state (first reading L)
    (come_so reading L Any (λ event. Unit {0}) (λ event s ok. inl (λ ue bearer dir packet is. tt)) events new_state (all_any events) (λ ue none. refl))
    first_settled (first_known (WasAt (SaysLong L) {M = Message Token} []) reading)
