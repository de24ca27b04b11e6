-- In each state of a run, also between the steps of an event: what stands on a tunnel is of its owner there, and what a radio has is its own.
use Rattle.std.proofs.Common.{◌≡◌, ℕ, List, [], ◌∷◌, true, refl}
use Rattle.std.specs.List.{AllByRecursion}
use Rattle.gnb_types.specs.declared.keys.EntityKey.{EntityKey}
use Rattle.message_types.specs.declared.rrc.Token.{Token}
use Rattle.scenario_text.specs.declared.event.Event.{Event}
use Rattle.unit_defs.specs.Ways.{Message, Pdu, Load}
use Rattle.transport_defs.specs.declared.Item.{Item}
use Rattle.run_defs.specs.Units.{Units, new_units}
use Rattle.run_defs.specs.Written.{Written}
use Rattle.run_defs.specs.States.{State, new_state, radio_of, World, goes, stops, Outcome}
use Rattle.run_defs.specs.Runs.{Reading}
use Rattle.proof_run_steps.specs.steps.IsOutcome.{IsOutcome}
use Rattle.proof_run_steps.proofs.steps.Frames.{Relates, made_relates}
use Rattle.proof_run_steps.specs.teids.Given.{GiveOnce}
use Rattle.proof_run_steps.proofs.teids.Runs.{give_same, give_then, placed_gives, answer_gives}
use Rattle.law_tunnels_are_owned.proofs.tunnel_owners.Placed.{first_owned}
use Rattle.proof_run_steps.specs.facts.Facts.{Hold}
use Rattle.proof_run_steps.specs.facts.Later.{AreKeptTo}
use Rattle.proof_run_steps.proofs.facts.Within.{HoldsWith, same_links}
use Rattle.proof_run_steps.proofs.facts.Later.{LaterAt, made_later}
use Rattle.proof_unit_steps.specs.tunnel_names.Names.{by_book}
use Rattle.proof_unit_steps.specs.tunnels.Units.{NoneIsFree}
use Rattle.law_tunnels_are_owned.specs.tunnel_book.Book.{book_of, Keeps}
use Rattle.law_tunnels_are_owned.proofs.tunnel_book.Books.{books_keep, holds_own}
use Rattle.law_tunnels_are_owned.specs.run_tunnels.Own.{TunnelsHoldTheirOwn}
use Rattle.law_tunnels_are_owned.proofs.run_tunnels.Held.{Later}
use Rattle.law_tunnels_are_owned.proofs.run_tunnels.Runs.{Named, kept, first, own_there}
use Rattle.law_units_act_locally.specs.local_packets.Says.{showing}

abbrev Records : Type 0
Records = Units (Message Token) Token

abbrev Here : Type 0
Here = State (Message Token) Token (Written (Load Pdu)) (Written Pdu)

abbrev IsFree : Records → Type 0
IsFree w = NoneIsFree (by_book (book_of w))

-- by the book of whatever units come later
abbrev pub Settled : Here → Type 0
Settled s = IsFree s.units × ((w : Records) (none : IsFree w) → Later w s.units → Hold (Named w none) s)

pub settled_own : (s : Here) → Settled s → TunnelsHoldTheirOwn s
settled_own s h = own_there s h.0 (h.1 s.units h.0 (give_same s.units))

all_other : {X : Type 0} (Q R : X → Type 0) (xs : List X) → AllByRecursion (λ x. Q x × R x) xs → AllByRecursion R xs
all_other Q R [] all = tt
all_other Q R (x ∷ xs) all = (all.0.1, all_other Q R xs all.1)

pub settled_radios : (s : Here) → Settled s → (key : EntityKey) → AllByRecursion (λ (item : Item (Written Pdu)). item.key ≡ key) (radio_of s key).items
settled_radios s h key = all_other _ (λ (item : Item (Written Pdu)). item.key ≡ key) (radio_of s key).items ((h.1 s.units h.0 (give_same s.units)).radios key)

pub first_settled : Settled new_state
first_settled =
    ((holds_own (Message Token) Token new_units (first_owned (Message Token) Token) (give_same new_units)).none, λ w none l. first w none)

free_later : (u v : Records) → GiveOnce u v → IsFree u → IsFree v
free_later u v once free =
    let keeps : Keeps (book_of u) (book_of v) = books_keep u v once in record {
      up = λ g n kind ue bearer. keeps.up g n kind ue bearer 0 (free.up g n kind ue bearer);
      du = λ g n ue bearer. keeps.du g n ue bearer 0 (free.du g n ue bearer);
    }

module _ (reading : Reading) (show_item : Written (Load Pdu) → List ℕ) (show_pdu : Written Pdu → List ℕ) where
  abbrev TheWorld : World (Message Token) Token (Written (Load Pdu)) (Written Pdu)
  TheWorld = showing reading show_item show_pdu

  abbrev Happens : Type 0
  Happens = Outcome (Message Token) Token (Written (Load Pdu)) (Written Pdu)

  -- nothing of it is how items are shown
  kept_here : (w : Records) (none : IsFree w) → AreKeptTo TheWorld (Named w none) (Later w)
  kept_here w none =
      let k = kept w none reading in record {
        before_answer = k.before_answer;
        before_coming = k.before_coming;
        before_placing = k.before_placing;
        answers = k.answers;
        comes = k.comes;
        placed = k.placed;
        core_placed = k.core_placed;
        core_answers = k.core_answers;
        lays = k.lays;
        silent = λ counted. absurd counted;
      }

  pub settled_started : (s : Here) → Settled s → Settled (record s { started = true })
  settled_started s h = (h.0, λ w none l. same_links TheWorld (Named w none) 0 s (record s { started = true }) (h.1 w none l) refl refl refl refl refl)

  abbrev pub OutcomeSettled : Happens → Type 0
  OutcomeSettled (goes steps t) = Settled t
  OutcomeSettled (stops steps why) = Unit {0}

  abbrev Gives : Records → Happens → Type 0
  Gives u (goes steps t) = GiveOnce u t.units
  Gives u (stops steps why) = Unit {0}

  made_gives : (event : Event) (s : Here) (e : Happens) → IsOutcome TheWorld event s e → Gives s.units e
  made_gives event s e p =
      by e (made_relates TheWorld GiveOnce give_same give_then (λ lengths u v node given outputs is. answer_gives reading lengths u v node given outputs is)
      (λ u plan. give_same u) (λ u plan free room teids. placed_gives u plan teids) event s e p)
    where
      by : (e : Happens) → Relates TheWorld GiveOnce give_same give_then (λ lengths u v node given outputs is. answer_gives reading lengths u v node given outputs is)
          (λ u plan. give_same u) (λ u plan free room teids. placed_gives u plan teids) s.units e → Gives s.units e
      by (goes steps t) q = q
      by (stops steps why) q = tt

  pub made_settled : (event : Event) (s : Here) (e : Happens) → IsOutcome TheWorld event s e → Settled s → OutcomeSettled e
  made_settled event s e p h =
      by e (made_gives event s e p) (λ w none l. made_later TheWorld (Named w none) (Later w) (kept_here w none) event s e p (h.1 w none l))
    where
      by : (e : Happens) → Gives s.units e
          → ((w : Records) (none : IsFree w) → Later w s.units → LaterAt TheWorld (Named w none) (Later w) (kept_here w none) e → HoldsWith TheWorld (Named w none) 0 e)
          → OutcomeSettled e
      by (goes steps t) once each = (free_later s.units t.units once h.0, λ w none l. each w none (give_then s.units t.units w once l) l)
      by (stops steps why) once each = tt
