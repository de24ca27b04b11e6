-- Units that answer as the tables do after decoding, where records and inputs are in range, have the run of the tables.
use Rattle.std.proofs.Common.{◌≡◌, ℕ, List, [], ◌∷◌, map, Option, None, refl, subst}
use Rattle.std.specs.List.{AllByRecursion}
use Rattle.gnb_types.specs.declared.names.NodeId.{NodeId}
use Rattle.gnb_types.specs.declared.names.NodeId.TheVariants.{Core}
use Rattle.gnb_types.specs.declared.inputs.Input.TheVariants as ins
use Rattle.gnb_types.specs.declared.outputs.Output.{Output}
use Rattle.gnb_types.specs.declared.outputs.Output.TheVariants as outs
use Rattle.gnb_types.specs.declared.keys.TunnelEnd.{TunnelEnd}
use Rattle.gnb_types.specs.declared.keys.EntityKey.{EntityKey}
use Rattle.tables.specs.Tables.{find, at}
use Rattle.scenario_text.specs.declared.event.Event.{Event}
use Rattle.unit_defs.specs.Ways.{gives, spent}
use Rattle.unit_defs.specs.Core.{CoreRecord}
use Rattle.unit_defs.specs.octet_defs.Codec.{Codec}
use Rattle.unit_defs.specs.octet_defs.Writing.{outputs_of}
use Rattle.unit_defs.specs.octet_defs.Units.{OctetAnswer, core_steps}
use Rattle.transport_defs.specs.declared.Item.{Item}
use Rattle.run_defs.specs.States.{new_state, control_message_for, item_for, carried_for, confirmed_for, offer_for, tick_for, order_for, octets_from, octets_on, stepped, step_spent, core_stepped}
use Rattle.run_defs.specs.UnitRuns.{Meaning, Records, UnitAnswer, unit_gives, unit_spent, OctetGiven, OctetStepped, OctetCoreStepped, input_of, put_of, stepped_by, core_done, core_answer, unit_world, tables, UnitRun}
use Rattle.proof_run_steps.specs.facts.Facts.{Facts, Hold, PutFits, PutsFit, GivenFits}
use Rattle.law_octets_say_the_same.specs.units_follow.Ranges.{Range, IsInRange, Hands, StaysInRange, FollowsThere}
use Rattle.law_octets_say_the_same.proofs.units_follow.Steps.{FromScript, Two, SameThere}
use Rattle.law_octets_say_the_same.proofs.units_follow.Runs.{both_run}

module _ (codec : Codec) (answer : Meaning) (range : Range) (stays : StaysInRange codec answer range) (follows : FollowsThere codec answer range) where
  -- ---- what stands on links is in range for whoever is given it

  OnTunnel : TunnelEnd → Item (List ℕ) → Type 0
  OnTunnel end item = range.input end.node (ins.Packet end.teid item.content)

  OnRadio : EntityKey → Item (List ℕ) → Type 0
  OnRadio key item =
      (node : NodeId) → range.input node (ins.Radio item.key.ue item.key.bearer item.key.dir item.content)
      × range.input node (ins.Confirm item.key.ue item.key.bearer item.key.dir item.content)

  in_range : Facts (List ℕ) (List ℕ) (List ℕ) (List ℕ)
  in_range = record {
    units = range.records;
    core = range.core;
    control_message = λ l. range.input l.to (ins.Control l.from l.message);
    puts_on = λ node end item. OnTunnel end item;
    puts_on_air = λ node key item. OnRadio key item;
    on_tunnel = OnTunnel;
    on_radio = OnRadio;
    stands = λ node end item p. p;
    stands_on_air = λ node key item p. p;
    counted = ⊥;
  }

  two : Two (List ℕ) (List ℕ) (List ℕ) (List ℕ)
  two = record {
    world = unit_world codec answer;
    answer = λ lengths records node given. stepped_by (tables codec records node (input_of given));
    facts = in_range;
    input = range.input;
    packet = range.packet;
    plan = range.plan;
  }

  -- ---- an input, and outputs

  given_in_range : (node : NodeId) (taken : Option ℕ) (given : OctetGiven) → GivenFits in_range node taken given → FromScript range.input node given
      → range.input node (input_of given)
  unfolding in_range OnTunnel OnRadio
  given_in_range node taken (control_message_for from octets) p q = p.1
  given_in_range node taken (item_for teid item) p q = p.1
  given_in_range node taken (carried_for item) p q = (p.1.1 node).0
  given_in_range node taken (confirmed_for item) p q = (p.1.1 node).1
  given_in_range node taken (offer_for ue bearer x) p q = q
  given_in_range node taken tick_for p q = stays.ticks node
  given_in_range node taken (order_for order) p q = stays.orders node order
  given_in_range node taken (octets_from from octets) p q = q
  given_in_range node taken (octets_on teid octets) p q = q

  put_fits : (node : NodeId) (taken : Option ℕ) (output : Output) → Hands range node output → PutFits in_range node taken (put_of output)
  unfolding in_range OnTunnel OnRadio
  put_fits node taken (outs.Control to ue octets) p = p
  put_fits node taken (outs.Packet to teid ue bearer dir tag octets) p = p
  put_fits node taken (outs.Radio ue bearer dir epoch tag octets) p = p
  put_fits node taken (outs.Deliver ue bearer dir count x) p = tt
  put_fits node taken (outs.Drop reason) p = tt
  put_fits node taken (outs.Held reason) p = tt
  put_fits node taken (outs.Opened teid) p = tt
  put_fits node taken (outs.Closed teid) p = tt
  put_fits node taken (outs.FailedUe ue cause) p = tt
  put_fits node taken (outs.No reason) p = tt

  puts_fit : (node : NodeId) (taken : Option ℕ) (outputs : List Output) → AllByRecursion (Hands range node) outputs
      → PutsFit in_range node taken (map put_of outputs)
  puts_fit node taken [] p = tt
  puts_fit node taken (output ∷ outputs) p = (put_fits node taken output p.0, puts_fit node taken outputs p.1)

  Fits : NodeId → Option ℕ → OctetStepped → Type 0
  Fits node taken (stepped outputs v) = range.records v × PutsFit in_range node taken outputs
  Fits node taken (step_spent counter) = Unit {0}

  stepped_fits : (r : Records) (node : NodeId) (taken : Option ℕ) (given : OctetGiven) → range.records r → range.input node (input_of given)
      → Fits node taken (stepped_by (answer r node (input_of given)))
  unfolding Fits
  stepped_fits r node taken given at fits = by (answer r node (input_of given)) refl
    where
      by : (a : UnitAnswer) → answer r node (input_of given) ≡ a → Fits node taken (stepped_by a)
      by (unit_gives outputs after) is =
          let kept = stays.answers r after node (input_of given) outputs at fits is in (kept.0, puts_fit node taken outputs kept.1)
      by (unit_spent counter) is = tt

  -- ---- the core

  CoreFits : OctetCoreStepped → Type 0
  CoreFits (core_stepped outputs q) = range.core q × PutsFit in_range Core None outputs

  core_takes : (r : CoreRecord (List ℕ) (List ℕ)) (from : NodeId) (octets : List ℕ) → range.core r → range.input Core (ins.Control from octets)
      → CoreFits (core_done codec r (core_steps codec r from octets))
  unfolding CoreFits
  core_takes r from octets at fits = by (core_steps codec r from octets) refl
    where
      by : (a : OctetAnswer (CoreRecord (List ℕ) (List ℕ))) → core_steps codec r from octets ≡ a → CoreFits (core_done codec r a)
      by (gives puts after) is =
          let kept = stays.core_answers r after from octets puts at fits is in (kept.0, puts_fit Core None (outputs_of puts) kept.1)
      by (spent counter) is = (at, tt)

  core_fits : (r : CoreRecord (List ℕ) (List ℕ)) (given : OctetGiven) → range.core r → GivenFits in_range Core None given
      → FromScript range.input Core given → CoreFits (core_answer codec r given)
  unfolding CoreFits in_range
  core_fits r (control_message_for from octets) at p q = core_takes r from octets at p.1
  core_fits r (octets_from from octets) at p q = core_takes r from octets at q
  core_fits r (item_for teid item) at p q = (at, (tt, tt))
  core_fits r (carried_for item) at p q = (at, (tt, tt))
  core_fits r (confirmed_for item) at p q = (at, (tt, tt))
  core_fits r (offer_for ue bearer x) at p q = (at, (tt, tt))
  core_fits r tick_for at p q = (at, (tt, tt))
  core_fits r (order_for order) at p q = (at, (tt, tt))
  core_fits r (octets_on teid octets) at p q = (at, (tt, tt))

  -- ---- the run

  same_there : SameThere two
  unfolding two in_range OnTunnel Fits CoreFits
  same_there = record {
    answers = λ lengths r node taken given at p q. λ i. stepped_by (follows r node (input_of given) at (given_in_range node taken given p q) i);
    keeps = λ lengths r v node taken given outputs at p q is.
        subst (Fits node taken) is (stepped_fits r node taken given at (given_in_range node taken given p q));
    comes = stays.comes;
    placed = stays.places;
    core_answers = λ lengths r v given outputs at p q is. subst CoreFits is (core_fits r given at p q);
    core_placed = stays.core_places;
    lays = λ r ue bearer x path at fits found. stays.lays r ue bearer x path at fits found;
    uncounted = λ c. c;
  }

  holds_first : Hold in_range new_state
  unfolding in_range find at
  holds_first = record {
    units = stays.begins;
    core = stays.core_begins;
    control_messages = tt;
    tunnels = λ end items found. absurd cc;
    radios = λ key. tt;
    few = λ c. absurd c;
  }

  pub runs_alike : (events : List Event) → AllByRecursion (IsInRange range) events → UnitRun codec answer events ≡ UnitRun codec (tables codec) events
  unfolding UnitRun two
  runs_alike events fits = both_run two same_there events fits holds_first
