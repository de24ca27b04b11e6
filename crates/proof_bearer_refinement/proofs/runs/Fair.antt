-- The states that a run passes are fair; and what units put in fair states.
use Rattle.std.proofs.Common.{◌≡◌, List, Some}
use Rattle.message_types.specs.declared.rrc.Token.{Token}
use Rattle.scenario_text.specs.declared.event.Event.{Event}
use Rattle.unit_defs.specs.Ways.{Message, Pdu, Load, Put}
use Rattle.run_defs.specs.Units.{new_units}
use Rattle.run_defs.specs.Written.{Written}
use Rattle.run_defs.specs.States.{new_state, goes, RunStep, sn_of}
use Rattle.run_defs.specs.Runs.{Reading, plain_world}
use Rattle.proof_run_steps.specs.steps.Causes.{node_of, given_of, count_of}
use Rattle.proof_run_steps.specs.steps.IsOutcome.{IsOutcome}
use Rattle.proof_run_steps.specs.steps.Reached.{reached}
use Rattle.proof_run_steps.proofs.steps.Frames.{made_relates}
use Rattle.proof_run_steps.specs.teids.Given.{GiveOnce}
use Rattle.proof_run_steps.proofs.teids.Runs.{give_same, give_then, placed_gives, answer_gives, given_once}
use Rattle.proof_run_steps.specs.facts.Facts.{Hold, PutsFit}
use Rattle.proof_run_steps.specs.facts.UnitFacts.{written_facts}
use Rattle.proof_run_steps.proofs.facts.Steps.{taken_has}
use Rattle.proof_run_steps.proofs.facts.Runs.{made_holds}
use Rattle.proof_run_steps.proofs.facts.Later.{made_later, facts_hold_to}
use Rattle.proof_run_steps.proofs.facts.Plain.{plain_kept, plain_run_holds}
use Rattle.proof_unit_steps.specs.tunnel_names.Names.{by_book}
use Rattle.proof_unit_steps.specs.tunnels.Units.{NoneIsFree}
use Rattle.law_tunnels_are_owned.specs.tunnel_book.Book.{book_of}
use Rattle.law_tunnels_are_owned.proofs.tunnel_book.Books.{holds_own}
use Rattle.law_tunnels_are_owned.proofs.link_items.Names.{link_items}
use Rattle.law_tunnels_are_owned.proofs.link_items.Links.{items_keep}
use Rattle.law_tunnels_are_owned.proofs.run_tunnels.Held.{Later}
use Rattle.law_tunnels_are_owned.proofs.run_tunnels.Runs.{Named, kept, first}
use Rattle.law_terminals_are_isolated.specs.own_events.Passed.{Passes, not_yet, further}
use Rattle.law_terminals_are_isolated.specs.own_steps.Own.{IsActed}
use Rattle.law_terminals_are_isolated.proofs.own_steps.Steps.{Sound}
use Rattle.law_terminals_are_isolated.proofs.own_events.Passed.{sound_past}
use Rattle.proof_bearer_refinement.specs.run_bearers.Things.{PlainUnits}
use Rattle.proof_bearer_refinement.specs.refinement_facts.Refinements.{RunState}
use Rattle.proof_bearer_refinement.specs.refinement_facts.Asked.{RunCause, AreSound}
use Rattle.proof_bearer_refinement.specs.runs.Fair.{IsFair, IsPassed, Comes}

abbrev Puts : Type 0
Puts = List (Put (Message Token) (Written (Load Pdu)) (Written Pdu))

-- ---- a TEID is given once

module _ (reading : Reading) where
  made_gives : (event : Event) (t u : RunState) (told : List (RunStep (Message Token))) → IsOutcome (plain_world reading) event t (goes told u) → GiveOnce t.units u.units
  made_gives event t u told made =
      made_relates (plain_world reading) GiveOnce give_same give_then (answer_gives reading) (λ v plan. give_same v)
      (λ v plan free room teids. placed_gives v plan teids) event t (goes told u) made

  passes_give : (event : Event) (s t : RunState) → Passes (plain_world reading) event s t → GiveOnce s.units t.units
  passes_give event s t (not_yet x) = give_same x.units
  passes_give event s t (further x y u told before made) =
      give_then x.units y.units u.units (passes_give event x y before) (made_gives event y u told made)

  pub comes_gives : (s t : RunState) → Comes reading s t → GiveOnce s.units t.units
  comes_gives s t comes = passes_give comes.0 s t comes.1

-- ---- what a run holds in the states that it passes

module _ (reading : Reading) (events : List Event) (event : Event) (before : RunState) (there : reached (plain_world reading) events new_state ≡ Some before) where
  abbrev PassesTo : RunState → Type 0
  PassesTo t = Passes (plain_world reading) event before t

  given_past : (t : RunState) → PassesTo t → GiveOnce new_units t.units
  given_past t p = give_then new_units before.units t.units (given_once reading events new_state before there) (passes_give reading event before t p)

  items_past : (t : RunState) → PassesTo t → Hold (written_facts link_items) t
  items_past t (not_yet x) = plain_run_holds link_items items_keep reading events before there
  items_past t (further x y u told p made) =
      made_holds (plain_world reading) (written_facts link_items) (plain_kept link_items items_keep reading) event y (goes told u) made (items_past y p)

  -- as the units name tunnels that are there at last
  module _ (w : PlainUnits) (none : NoneIsFree (by_book (book_of w))) where
    named_past : (t : RunState) → PassesTo t → GiveOnce t.units w → Hold (Named w none) t
    named_past t (not_yet x) later =
        facts_hold_to (plain_world reading) (Named w none) (Later w) (kept w none reading) events new_state before (first w none) there later
    named_past t (further x y u told p made) later =
        made_later (plain_world reading) (Named w none) (Later w) (kept w none reading) event y (goes told u) made
        (named_past y p (give_then y.units u.units w (made_gives reading event y u told made) later)) later

pub passed_is_fair : (reading : Reading) (s : RunState) → IsPassed reading s → IsFair s
passed_is_fair reading s at =
    let sound : Sound s = sound_past reading at.events at.event at.before at.there s at.passes in
    record {
      sound = sound;
      items = items_past reading at.events at.event at.before at.there s at.passes;
      none = (holds_own (Message Token) Token s.units sound.owned (given_past reading at.events at.event at.before at.there s at.passes)).none;
      named = λ later none gives. named_past reading at.events at.event at.before at.there later none s at.passes gives;
    }

-- ---- what laws ask of fair states

pub fair_sound : (s t : RunState) → IsFair s → IsFair t → AreSound s t
fair_sound s t before after =
    record {
      owned = before.sound.owned;
      standing_there = before.sound.standing;
      owned_after = after.sound.owned;
      own = after.sound.tunnels;
    }

-- what a unit puts there is of its links, and what it names is by the book of all later units
module _ (reading : Reading) (s : RunState) (event : Event) (cause : RunCause) (outputs : Puts) (units : PlainUnits) (fair : IsFair s)
    (acted : IsActed (plain_world reading) event s cause outputs units) where
  pub puts_fit : PutsFit (written_facts link_items) (node_of cause) (count_of cause) outputs
  puts_fit =
      ((plain_kept link_items items_keep reading).answers (sn_of s) s.units units (node_of cause) (count_of cause) (given_of cause) outputs fair.items.units
      (taken_has (plain_world reading) (written_facts link_items) event cause s fair.items acted.stands) acted.answers).1

  pub named_fit : (later : PlainUnits) (none : NoneIsFree (by_book (book_of later))) → GiveOnce units later
      → PutsFit (Named later none) (node_of cause) (count_of cause) outputs
  named_fit later none gives =
      let first : GiveOnce s.units units = answer_gives reading (sn_of s) s.units units (node_of cause) (given_of cause) outputs acted.answers in
      let holds : Hold (Named later none) s = fair.named later none (give_then s.units units later first gives) in
      ((kept later none reading).answers (sn_of s) s.units units (node_of cause) (count_of cause) (given_of cause) outputs holds.units
      (taken_has (plain_world reading) (Named later none) event cause s holds acted.stands) acted.answers gives).1
