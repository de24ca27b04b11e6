-- After any steps of a run links and nodes hold their own.
use Rattle.std.proofs.Common.{◌≡◌, List, [], ◌∷◌, Some, subst}
use Rattle.std.specs.List.{AllByRecursion}
use Rattle.message_types.specs.declared.rrc.Token.{Token}
use Rattle.scenario_text.specs.declared.event.Event.{Event}
use Rattle.unit_defs.specs.Ways.{Message, Pdu, Load}
use Rattle.transport_defs.specs.declared.Item.{Item}
use Rattle.run_defs.specs.Units.{Units, new_units}
use Rattle.run_defs.specs.Written.{Written}
use Rattle.run_defs.specs.States.{goes, stops, RunStep, new_state, radio_of}
use Rattle.run_defs.specs.Runs.{Reading, plain_world, happens}
use Rattle.proof_run_steps.specs.steps.IsOutcome.{IsOutcome}
use Rattle.proof_run_steps.specs.steps.Reached.{reached_by, reached}
use Rattle.proof_run_steps.proofs.steps.Frames.{made_relates}
use Rattle.proof_run_steps.proofs.steps.Runs.{made_of_steps}
use Rattle.proof_run_steps.specs.teids.Given.{GiveOnce}
use Rattle.proof_run_steps.proofs.teids.Runs.{give_same, give_then, placed_gives, answer_gives}
use Rattle.proof_run_steps.specs.facts.Facts.{Hold}
use Rattle.proof_run_steps.specs.facts.UnitFacts.{written_facts}
use Rattle.proof_run_steps.proofs.facts.Runs.{made_holds}
use Rattle.proof_run_steps.proofs.facts.Later.{made_later}
use Rattle.proof_run_steps.proofs.facts.Plain.{plain_kept, first_holds}
use Rattle.law_tunnels_are_owned.proofs.open_tunnels.Runs.{first_stands, made_stands}
use Rattle.law_tunnels_are_owned.specs.open_tunnels.Open.{StandWhereOpen}
use Rattle.law_tunnels_are_owned.specs.owner_facts.Owned.{AreOwned}
use Rattle.law_tunnels_are_owned.proofs.tunnel_owners.Placed.{first_owned}
use Rattle.law_tunnels_are_owned.proofs.tunnel_owners.Runs.{owned_made}
use Rattle.proof_unit_steps.specs.tunnel_names.Names.{by_book}
use Rattle.proof_unit_steps.specs.tunnels.Units.{NoneIsFree}
use Rattle.law_tunnels_are_owned.specs.tunnel_book.Book.{book_of}
use Rattle.law_tunnels_are_owned.proofs.tunnel_book.Books.{holds_own}
use Rattle.law_terminals_are_isolated.proofs.step_projections.Runs.{themselves, keep}
use Rattle.law_tunnels_are_owned.proofs.run_tunnels.Held.{Later}
use Rattle.law_tunnels_are_owned.proofs.run_tunnels.Runs.{Named, kept, first, own_there}
use Rattle.law_terminals_are_isolated.proofs.own_steps.Steps.{RunState, Sound}
use Rattle.law_terminals_are_isolated.specs.own_events.Events.{RunOutcome}
use Rattle.law_terminals_are_isolated.specs.own_events.Passed.{Passes, not_yet, further}
use Rattle.law_terminals_are_isolated.specs.all_steps.Steps.{AfterSteps, none_yet, one_more}

abbrev RunUnits : Type 0
RunUnits = Units (Message Token) Token

module _ (reading : Reading) where
  pub step_gives : (event : Event) (t u : RunState) (told : List (RunStep (Message Token))) → IsOutcome (plain_world reading) event t (goes told u)
      → GiveOnce t.units u.units
  step_gives event t u told p =
      made_relates (plain_world reading) GiveOnce give_same give_then (answer_gives reading) (λ v plan. give_same v)
      (λ v plan free room teids. placed_gives v plan teids) event t (goes told u) p

  given_on : (t : RunState) → AfterSteps reading t → GiveOnce new_units t.units
  given_on t none_yet = give_same new_units
  given_on t (one_more event x y told p made) = give_then new_units x.units y.units (given_on x p) (step_gives event x y told made)

  owned_on : (t : RunState) → AfterSteps reading t → AreOwned t.units
  owned_on t none_yet = first_owned (Message Token) Token
  owned_on t (one_more event x y told p made) = owned_made reading event x y told made (owned_on x p)

  standing_on : (t : RunState) → AfterSteps reading t → StandWhereOpen t
  standing_on t none_yet = first_stands (Message Token) Token (Written (Load Pdu)) (Written Pdu)
  standing_on t (one_more event x y told p made) = made_stands reading event x y told made (standing_on x p)

  themselves_on : (t : RunState) → AfterSteps reading t → Hold (written_facts themselves) t
  themselves_on t none_yet = first_holds themselves keep
  themselves_on t (one_more event x y told p made) =
      made_holds (plain_world reading) (written_facts themselves) (plain_kept themselves keep reading) event x (goes told y) made (themselves_on x p)

  -- of the units that are there at last
  module _ (w : RunUnits) (none : NoneIsFree (by_book (book_of w))) where
    held_on : (t : RunState) → AfterSteps reading t → GiveOnce t.units w → Hold (Named w none) t
    held_on t none_yet later = first w none
    held_on t (one_more event x y told p made) later =
        made_later (plain_world reading) (Named w none) (Later w) (kept w none reading) event x (goes told y) made
        (held_on x p (give_then x.units y.units w (step_gives event x y told made) later)) later

  pub sound_on : (t : RunState) → AfterSteps reading t → Sound t
  sound_on t p =
      let none = (holds_own (Message Token) Token t.units (owned_on t p) (given_on t p)).none in
      let held : Hold (Named t.units none) t = held_on t.units none t p (give_same t.units) in
      record {
        itself = (themselves_on t p).units.3;
        owned = owned_on t p;
        standing = standing_on t p;
        tunnels = own_there t none held;
        radios = λ key. each (λ (item : Item (Written Pdu)). (Named t.units none).on_radio key item) (λ (item : Item (Written Pdu)). item.key ≡ key)
            (radio_of t key).items (λ item h. h.1) (held.radios key);
      }
    where
      each : {X : Type 0} (Q R : X → Type 0) (xs : List X) → ((x : X) → Q x → R x) → AllByRecursion Q xs → AllByRecursion R xs
      each Q R [] f all = tt
      each Q R (x ∷ xs) f all = (f x all.0, each Q R xs f all.1)

  -- ---- each state that a run reaches, or passes within an event, is such

  goes_further : (events : List Event) (event : Event) (s t : RunState) (e : RunOutcome) → IsOutcome (plain_world reading) event s e → AfterSteps reading s
      → ((x : RunState) → AfterSteps reading x → reached (plain_world reading) events x ≡ Some t → AfterSteps reading t)
      → reached_by (plain_world reading) (reached (plain_world reading) events) e ≡ Some t → AfterSteps reading t
  goes_further events event s t (goes told x) made p more is = more x (one_more event s x told p made) is
  goes_further events event s t (stops told why) made p more is = absurd cc

  reached_on : (events : List Event) (s t : RunState) → AfterSteps reading s → reached (plain_world reading) events s ≡ Some t → AfterSteps reading t
  reached_on [] s t p is = let at : s ≡ t = cc in subst (λ (x : RunState). AfterSteps reading x) at p
  reached_on (event ∷ events) s t p is =
      goes_further events event s t (happens (plain_world reading) event s) (made_of_steps (plain_world reading) event s) p (λ x q at. reached_on events x t q at) is

  pub passed_on : (event : Event) (s t : RunState) → AfterSteps reading s → Passes (plain_world reading) event s t → AfterSteps reading t
  passed_on event s t p (not_yet x) = p
  passed_on event s t p (further x y u told q made) = one_more event y u told (passed_on event x y p q) made

  pub in_run : (events : List Event) (t : RunState) → reached (plain_world reading) events new_state ≡ Some t → AfterSteps reading t
  in_run events t is = reached_on events new_state t none_yet is
