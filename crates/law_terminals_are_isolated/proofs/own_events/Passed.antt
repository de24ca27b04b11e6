-- In every state that a run passes, links and nodes hold their own.
use Rattle.std.proofs.Common.{◌≡◌, List, [], ◌∷◌, Some}
use Rattle.std.specs.List.{AllByRecursion}
use Rattle.message_types.specs.declared.rrc.Token.{Token}
use Rattle.scenario_text.specs.declared.event.Event.{Event}
use Rattle.unit_defs.specs.Ways.{Message, Pdu, Load}
use Rattle.transport_defs.specs.declared.Item.{Item}
use Rattle.run_defs.specs.Units.{Units, new_units}
use Rattle.run_defs.specs.Written.{Written}
use Rattle.run_defs.specs.States.{new_state, goes, RunStep, radio_of}
use Rattle.run_defs.specs.Runs.{Reading, plain_world}
use Rattle.proof_run_steps.specs.steps.IsOutcome.{IsOutcome}
use Rattle.proof_run_steps.specs.steps.Reached.{reached}
use Rattle.proof_run_steps.proofs.steps.Frames.{made_relates}
use Rattle.proof_run_steps.specs.teids.Given.{GiveOnce}
use Rattle.proof_run_steps.proofs.teids.Runs.{give_same, give_then, placed_gives, answer_gives, given_once}
use Rattle.proof_run_steps.specs.facts.Facts.{Hold}
use Rattle.proof_run_steps.specs.facts.UnitFacts.{written_facts}
use Rattle.proof_run_steps.proofs.facts.Runs.{made_holds}
use Rattle.proof_run_steps.proofs.facts.Later.{made_later, facts_hold_to}
use Rattle.proof_run_steps.proofs.facts.Plain.{plain_kept, plain_run_holds}
use Rattle.law_tunnels_are_owned.proofs.open_tunnels.Runs.{first_stands, stand_where_open, made_stands}
use Rattle.law_tunnels_are_owned.specs.open_tunnels.Open.{StandWhereOpen}
use Rattle.law_tunnels_are_owned.specs.owner_facts.Owned.{AreOwned}
use Rattle.law_tunnels_are_owned.proofs.tunnel_owners.Placed.{first_owned}
use Rattle.law_tunnels_are_owned.proofs.tunnel_owners.Runs.{owned_later, owned_made}
use Rattle.proof_unit_steps.specs.tunnel_names.Names.{by_book}
use Rattle.proof_unit_steps.specs.tunnels.Units.{NoneIsFree}
use Rattle.law_tunnels_are_owned.specs.tunnel_book.Book.{book_of}
use Rattle.law_tunnels_are_owned.proofs.tunnel_book.Books.{holds_own}
use Rattle.law_terminals_are_isolated.proofs.step_projections.Runs.{themselves, keep}
use Rattle.law_tunnels_are_owned.proofs.run_tunnels.Held.{Later}
use Rattle.law_tunnels_are_owned.proofs.run_tunnels.Runs.{Named, kept, first, own_there}
use Rattle.law_terminals_are_isolated.proofs.own_steps.Steps.{RunState, Sound}
use Rattle.law_terminals_are_isolated.specs.own_events.Passed.{Passes, not_yet, further}

abbrev RunUnits : Type 0
RunUnits = Units (Message Token) Token

module _ (reading : Reading) (events : List Event) (event : Event) (s : RunState) (there : reached (plain_world reading) events new_state ≡ Some s) where
  abbrev PassesTo : RunState → Type 0
  PassesTo t = Passes (plain_world reading) event s t

  made_gives : (t u : RunState) (told : List (RunStep (Message Token))) → IsOutcome (plain_world reading) event t (goes told u) → GiveOnce t.units u.units
  made_gives t u told p =
      made_relates (plain_world reading) GiveOnce give_same give_then (answer_gives reading) (λ v plan. give_same v)
      (λ v plan free room teids. placed_gives v plan teids) event t (goes told u) p

  given_past : (t : RunState) → PassesTo t → GiveOnce new_units t.units
  given_past t (not_yet x) = given_once reading events new_state s there
  given_past t (further x y u told p made) = give_then new_units y.units u.units (given_past y p) (made_gives y u told made)

  from_here : (t : RunState) → PassesTo t → GiveOnce s.units t.units
  from_here t (not_yet x) = give_same s.units
  from_here t (further x y u told p made) = give_then s.units y.units u.units (from_here y p) (made_gives y u told made)

  owned_past : (t : RunState) → PassesTo t → AreOwned t.units
  owned_past t (not_yet x) = owned_later reading events new_state s there (first_owned (Message Token) Token)
  owned_past t (further x y u told p made) = owned_made reading event y u told made (owned_past y p)

  standing_past : (t : RunState) → PassesTo t → StandWhereOpen t
  standing_past t (not_yet x) =
      stand_where_open reading events new_state s (first_stands (Message Token) Token (Written (Load Pdu)) (Written Pdu)) there
  standing_past t (further x y u told p made) = made_stands reading event y u told made (standing_past y p)

  themselves_past : (t : RunState) → PassesTo t → Hold (written_facts themselves) t
  themselves_past t (not_yet x) = plain_run_holds themselves keep reading events s there
  themselves_past t (further x y u told p made) =
      made_holds (plain_world reading) (written_facts themselves) (plain_kept themselves keep reading) event y (goes told u) made (themselves_past y p)

  -- of the units that are there at last
  module _ (w : RunUnits) (none : NoneIsFree (by_book (book_of w))) where
    held_past : (t : RunState) → PassesTo t → GiveOnce t.units w → Hold (Named w none) t
    held_past t (not_yet x) later =
        facts_hold_to (plain_world reading) (Named w none) (Later w) (kept w none reading) events new_state s (first w none) there later
    held_past t (further x y u told p made) later =
        made_later (plain_world reading) (Named w none) (Later w) (kept w none reading) event y (goes told u) made
        (held_past y p (give_then y.units u.units w (made_gives y u told made) later)) later

  pub sound_past : (t : RunState) → PassesTo t → Sound t
  sound_past t p =
      let none = (holds_own (Message Token) Token t.units (owned_past t p) (given_past t p)).none in
      let held : Hold (Named t.units none) t = held_past t.units none t p (give_same t.units) in
      record {
        itself = (themselves_past t p).units.3;
        owned = owned_past t p;
        standing = standing_past t p;
        tunnels = own_there t none held;
        radios = λ key. each (λ (item : Item (Written Pdu)). (Named t.units none).on_radio key item) (λ (item : Item (Written Pdu)). item.key ≡ key)
            (radio_of t key).items (λ item h. h.1) (held.radios key);
      }
    where
      each : {X : Type 0} (Q R : X → Type 0) (xs : List X) → ((x : X) → Q x → R x) → AllByRecursion Q xs → AllByRecursion R xs
      each Q R [] f all = tt
      each Q R (x ∷ xs) f all = (f x all.0, each Q R xs f all.1)
