-- In every run items of radios are the radio's, and control messages are few.
use Rattle.std.proofs.Common.{◌≡◌, ◌≤◌, ℕ, List, [], ◌∷◌, length, Option, Some, None, refl, subst, arith}
use Rattle.std.specs.List.{AllByRecursion}
use Rattle.gnb_types.specs.declared.names.NodeId.{NodeId}
use Rattle.gnb_types.specs.declared.names.NodeId.TheVariants.{Core}
use Rattle.message_types.specs.declared.rrc.Token.{Token}
use Rattle.scenario_text.specs.declared.event.Event.{Event}
use Rattle.unit_defs.specs.Ways.{Message, Pdu, Load, Put, control, packet, radio, deliver, dropped, held, opened, closed, failed, no}
use Rattle.unit_defs.specs.Core.{CoreRecord}
use Rattle.tables.specs.Tables.{find, at}
use Rattle.transport_defs.specs.declared.Item.{Item}
use Rattle.transport_defs.specs.declared.ControlMessage.{ControlMessage}
use Rattle.transport_defs.specs.Links.{most_control_messages}
use Rattle.run_defs.specs.Written.{Written}
use Rattle.run_defs.specs.States.{State, new_state, World, Lengths, octets_from, CoreStepped, core_stepped, radio_of}
use Rattle.run_defs.specs.Steps.{count_control_messages}
use Rattle.run_defs.specs.Runs.{Reading, plain_world}
use Rattle.proof_run_steps.specs.steps.Reached.{reached}
use Rattle.proof_run_steps.specs.facts.Facts.{Facts, Hold, PutFits, AreKept}
use Rattle.proof_run_steps.proofs.facts.Runs.{facts_hold}
use Rattle.proof_run_steps.specs.law_run_links.Own.{HoldTheirOwn}

each_of : {X : Type 0} (Q : X → Type 0) (xs : List X) → ((x : X) → Q x) → AllByRecursion Q xs
each_of Q [] all = tt
each_of Q (x ∷ xs) all = (all x, each_of Q xs all)

module _ (M C L P : Type 0) where
  -- each item of a radio is the radio's; nothing else is asked
  abbrev own_asked : Facts M C L P
  own_asked = record {
    units = λ u. Unit {0};
    core = λ r. Unit {0};
    control_message = λ l. Unit {0};
    puts_on = λ node end item. Unit {0};
    puts_on_air = λ node key item. item.key ≡ key;
    on_tunnel = λ end item. Unit {0};
    on_radio = λ key item. item.key ≡ key;
    stands = λ node end item p. tt;
    stands_on_air = λ node key item p. p;
    counted = ⊥;
  }

  -- control messages are counted; nothing else is asked
  abbrev few_asked : Facts M C L P
  few_asked = record {
    units = λ u. Unit {0};
    core = λ r. Unit {0};
    control_message = λ l. Unit {0};
    puts_on = λ node end item. Unit {0};
    puts_on_air = λ node key item. Unit {0};
    on_tunnel = λ end item. Unit {0};
    on_radio = λ key item. Unit {0};
    stands = λ node end item p. tt;
    stands_on_air = λ node key item p. tt;
    counted = Unit {0};
  }

  own_fits : (node : NodeId) (taken : Option ℕ) (output : Put M L P) → PutFits own_asked node taken output
  own_fits node taken (control to ue message) = tt
  own_fits node taken (packet to teid ue bearer dir tag load) = tt
  own_fits node taken (radio ue bearer dir epoch tag pdu) = refl
  own_fits node taken (deliver ue bearer dir count p) = tt
  own_fits node taken (dropped reason) = tt
  own_fits node taken (held reason) = tt
  own_fits node taken (opened teid) = tt
  own_fits node taken (closed teid) = tt
  own_fits node taken (failed ue cause) = tt
  own_fits node taken (no reason) = tt

  few_fits : (node : NodeId) (taken : Option ℕ) (output : Put M L P) → PutFits few_asked node taken output
  few_fits node taken (control to ue message) = tt
  few_fits node taken (packet to teid ue bearer dir tag load) = tt
  few_fits node taken (radio ue bearer dir epoch tag pdu) = tt
  few_fits node taken (deliver ue bearer dir count p) = tt
  few_fits node taken (dropped reason) = tt
  few_fits node taken (held reason) = tt
  few_fits node taken (opened teid) = tt
  few_fits node taken (closed teid) = tt
  few_fits node taken (failed ue cause) = tt
  few_fits node taken (no reason) = tt

  own_kept : (world : World M C L P) → AreKept world own_asked
  own_kept world = record {
    answers = λ lengths u v node taken given outputs h fits is. (tt, each_of (PutFits own_asked node taken) outputs (own_fits node taken));
    comes = λ u plan h. tt;
    placed = λ u plan free room teids h. tt;
    core_answers = λ lengths r q given outputs h fits is. (tt, each_of (PutFits own_asked Core None) outputs (own_fits Core None));
    core_placed = λ r plan n3 h. tt;
    lays = λ r ue bearer p path h found. tt;
    silent = λ counted. absurd counted;
  }

  pub own_later : (world : World M C L P) (events : List Event) (s t : State M C L P) → HoldTheirOwn s → reached world events s ≡ Some t → HoldTheirOwn t
  own_later world events s t own is =
      let first : Hold own_asked s = record {
        units = tt;
        core = tt;
        control_messages = each_of (λ (e : ℕ × ControlMessage M). Unit {0}) s.bag.control_messages (λ e. tt);
        tunnels = λ end items found. each_of (λ (item : Item L). Unit {0}) items (λ item. tt);
        radios = own;
        few = λ counted. absurd counted;
      } in
      let later : Hold own_asked t = facts_hold world own_asked (own_kept world) events s t first is in
      later.radios

  -- ---- control messages, where the core puts none when it is given octets from outside

  few_kept : (world : World M C L P) → ((lengths : Lengths) (r q : CoreRecord M C) (from : NodeId) (octets : List ℕ) (outputs : List (Put M L P))
      → world.core_answer lengths r (octets_from from octets) ≡ core_stepped outputs q → count_control_messages world outputs ≡ 0) → AreKept world few_asked
  few_kept world silent = record {
    answers = λ lengths u v node taken given outputs h fits is. (tt, each_of (PutFits few_asked node taken) outputs (few_fits node taken));
    comes = λ u plan h. tt;
    placed = λ u plan free room teids h. tt;
    core_answers = λ lengths r q given outputs h fits is. (tt, each_of (PutFits few_asked Core None) outputs (few_fits Core None));
    core_placed = λ r plan n3 h. tt;
    lays = λ r ue bearer p path h found. tt;
    silent = λ counted. silent;
  }

  few_later : (world : World M C L P) → ((lengths : Lengths) (r q : CoreRecord M C) (from : NodeId) (octets : List ℕ) (outputs : List (Put M L P))
      → world.core_answer lengths r (octets_from from octets) ≡ core_stepped outputs q → count_control_messages world outputs ≡ 0)
      → (events : List Event) (s t : State M C L P) → length s.bag.control_messages ≤ most_control_messages → reached world events s ≡ Some t
      → length t.bag.control_messages ≤ most_control_messages
  few_later world silent events s t few is =
      let first : Hold few_asked s = record {
        units = tt;
        core = tt;
        control_messages = each_of (λ (e : ℕ × ControlMessage M). Unit {0}) s.bag.control_messages (λ e. tt);
        tunnels = λ end items found. each_of (λ (item : Item L). Unit {0}) items (λ item. tt);
        radios = λ key. each_of (λ (item : Item P). Unit {0}) (radio_of s key).items (λ item. tt);
        few = λ counted. omega (arith, few);
      } in
      let later : Hold few_asked t = facts_hold world few_asked (few_kept world silent) events s t first is in
      omega (arith, later.few tt)

pub few_in_run : (reading : Reading) (events : List Event) (s t : State (Message Token) Token (Written (Load Pdu)) (Written Pdu))
    → length s.bag.control_messages ≤ most_control_messages → reached (plain_world reading) events s ≡ Some t → length t.bag.control_messages ≤ most_control_messages
few_in_run reading events s t few is =
    few_later (Message Token) Token (Written (Load Pdu)) (Written Pdu) (plain_world reading)
    (λ lengths r q from octets outputs at. subst none at refl) events s t few is
  where
    none : CoreStepped (Message Token) Token (Written (Load Pdu)) (Written Pdu) → Type 0
    none (core_stepped outputs core) = count_control_messages (plain_world reading) outputs ≡ 0

-- ---- the first state

pub first_own : (M C L P : Type 0) → HoldTheirOwn (new_state {M = M} {C = C} {L = L} {P = P})
unfolding at find
first_own M C L P key = tt

pub first_few : (M C L P : Type 0) → length (new_state {M = M} {C = C} {L = L} {P = P}).bag.control_messages ≤ most_control_messages
first_few M C L P = omega arith
