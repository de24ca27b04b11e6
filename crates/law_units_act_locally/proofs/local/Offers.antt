-- An offer that is too large, down, is refused; and of an offer a unit acts only where it isn't refused.
use Rattle.std.proofs.Common.{◌≡◌, ◌<◌, ◌≤◌, ℕ, Bool, true, false, List, [], ◌∷◌, length, map, Option, Some, None, ◌⊎◌, inl, inr, refl, ap, ◌∙◌, subst, arith}
use Rattle.std.specs.Prelude.{nat_lt, if◌then◌else◌}
use Rattle.std.specs.List.{AllByRecursion, list_any}
use Rattle.gnb_types.specs.declared.names.NodeId.{NodeId}
use Rattle.gnb_types.specs.declared.names.NodeId.TheVariants.{Core, Ue}
use Rattle.gnb_types.specs.declared.names.UeId.{UeId}
use Rattle.gnb_types.specs.declared.names.BearerId.{BearerId}
use Rattle.gnb_types.specs.declared.names.Dir.{Dir}
use Rattle.gnb_types.specs.declared.names.Dir.TheVariants.{Dl, Ul}
use Rattle.gnb_types.specs.declared.keys.TunnelEnd.{TunnelEnd}
use Rattle.gnb_types.specs.declared.reasons.RefuseReason.TheVariants.{NoBearer, NoPath, Size}
use Rattle.gnb_types.specs.Orders.{ue_cmp}
use Rattle.message_types.specs.declared.rrc.Token.{Token}
use Rattle.tables.specs.Tables.{find}
use Rattle.scenario_text.specs.declared.event.Event.{Event}
use Rattle.scenario_text.specs.declared.event.Event.TheVariants as events
use Rattle.unit_defs.specs.Ways.{Message, Pdu, Load, held, no}
use Rattle.unit_defs.specs.Messages.{teid_of}
use Rattle.unit_defs.specs.Core.{CorePath}
use Rattle.unit_defs.specs.Ue.{largest_packet}
use Rattle.transport_defs.specs.declared.Item.{Item}
use Rattle.run_defs.specs.Local.{Act, acts_of_event, acts_of}
use Rattle.run_defs.specs.Said.{is_refusal, lines_in}
use Rattle.run_defs.specs.Written.{Written, WrittenStepped}
use Rattle.run_defs.specs.States.{Lengths, RunStep, offer_for, stepped, step_spent, goes, stops, ◌next◌, Within, as_step, goes_on, entity, sn_of, has_bearer, spent_counter}
use Rattle.run_defs.specs.Steps.{check_spans, put_on_tunnel, control_messages_spent, too_many_control_messages, is_done, carried_out, done_with, does, ordered_by}
use Rattle.run_defs.specs.Events.{offered, offer_on_path, offer}
use Rattle.run_defs.specs.Runs.{Reading, happens, run_on, run_from}
use Rattle.proof_run_steps.specs.steps.Causes.{by_offer}
use Rattle.proof_run_steps.proofs.facts.Within.{all_both}
use Rattle.law_units_act_locally.proofs.local_packets.Lines.{lines_of, then_lines, checked_lines, tunnel_lines, step_lines}
use Rattle.law_units_act_locally.proofs.local_packets.Runs.{IsRefused}
use Rattle.law_units_act_locally.proofs.local_lengths.Attach.{Here, Happens, W, IsClean, other_clean, puts_clean, step_clean}
use Rattle.law_units_act_locally.proofs.local_lengths.Comes.{Lengthened}
use Rattle.law_units_act_locally.specs.local.Offered.{HasOctet}
use Rattle.law_units_act_locally.proofs.local.Sized.{MayOffer}

if_true : (t : Bool) (a b : Happens) → t ≡ true → (if t then a else b) ≡ a
if_true true a b e = refl
if_true false a b e = absurd cc

if_false : (t : Bool) (a b : Happens) → t ≡ false → (if t then a else b) ≡ b
if_false true a b e = absurd cc
if_false false a b e = refl

abbrev OfferOk : Event → Type 0
OfferOk (events.Offer ue bearer dir p) = MayOffer dir p
OfferOk event = Unit {0}

by_event : (event : Event) → OfferOk event → (ue : UeId) (bearer : BearerId) (dir : Dir) (p : List ℕ) → event ≡ events.Offer ue bearer dir p → MayOffer dir p
by_event event ok ue bearer dir p is = subst OfferOk is ok

-- an event that offers
abbrev pub IsOffer : Event → Type 0
IsOffer (events.Offer ue bearer dir p) = Unit {0}
IsOffer event = ⊥

abbrev Told : Type 0
Told = Act (Message Token)

-- a unit that acts on an offer acts on one that is not refused
abbrev pub ActOk : Told → Type 0
ActOk act = IsOffer act.event → (act.refused ≡ false) ⊎ (act.step.actor ≡ None)

module _ (reading : Reading) where
  module _ (L : Lengths) where
    abbrev Refuses : Event → Here → Type 0
    Refuses event s = IsRefused (W reading) (Lengthened reading L MayOffer) event s

    large : (ue : UeId) (bearer : BearerId) (p : List ℕ) (s : Here) → nat_lt largest_packet (length p) ≡ true → (has : Bool) → has_bearer s ue bearer ≡ has
        → (o : Option CorePath) → find ue_cmp s.core.paths ue ≡ o → Refuses (events.Offer ue bearer Dl p) s
    unfolding happens offer
    large ue bearer p s long false none o is = (NoBearer, if_false (has_bearer s ue bearer) _ _ none)
    large ue bearer p s long true has None is =
        (NoPath, if_true (has_bearer s ue bearer) _ _ has ∙ ap (λ (x : Option CorePath). offer_on_path (W reading) ue bearer p s x) is)
    large ue bearer p s long true has (Some path) is = (
      Size,
      if_true (has_bearer s ue bearer) _ _ has ∙ (ap (λ (x : Option CorePath). offer_on_path (W reading) ue bearer p s x) is
          ∙ if_true (nat_lt largest_packet (length p)) _ _ long),
    )

    down : (ue : UeId) (bearer : BearerId) (p : List ℕ) (s : Here) → 0 < length p → (t : Bool) → nat_lt largest_packet (length p) ≡ t
        → OfferOk (events.Offer ue bearer Dl p) ⊎ Refuses (events.Offer ue bearer Dl p) s
    down ue bearer p s some true long = inr (large ue bearer p s long (has_bearer s ue bearer) refl (find ue_cmp s.core.paths ue) refl)
    down ue bearer p s some false fits = inl (some, short (length p) fits)
      where
        short : (n : ℕ) → nat_lt largest_packet n ≡ false → n ≤ 2048
        short n e = grind arith

    allowed : (event : Event) (s : Here) → HasOctet event → OfferOk event ⊎ Refuses event s
    allowed (events.Offer ue bearer Dl p) s some = down ue bearer p s some (nat_lt largest_packet (length p)) refl
    allowed (events.Offer ue bearer Ul p) s some = inl some
    allowed event s some = inl tt

    pub offers : (event : Event) (s : Here) → HasOctet event
        → ((ue : UeId) (bearer : BearerId) (dir : Dir) (packet : List ℕ) → event ≡ events.Offer ue bearer dir packet → MayOffer dir packet) ⊎ Refuses event s
    offers event s some = by (allowed event s some)
      where
        by : OfferOk event ⊎ Refuses event s
            → ((ue : UeId) (bearer : BearerId) (dir : Dir) (packet : List ℕ) → event ≡ events.Offer ue bearer dir packet → MayOffer dir packet) ⊎ Refuses event s
        by (inl ok) = inl (by_event event ok)
        by (inr refusal) = inr refusal

  -- ---- what an offer comes to: no refusal, or no unit acts

  abbrev Steps : Type 0
  Steps = List (RunStep (Message Token))

  abbrev CleanSteps : Steps → Type 0
  CleanSteps steps = (list_any is_refusal (lines_in steps) ≡ false) ⊎ AllByRecursion (λ (step : RunStep (Message Token)). step.actor ≡ None) steps

  abbrev Clean : Happens → Type 0
  Clean (goes steps t) = CleanSteps steps
  Clean (stops steps why) = CleanSteps steps

  clean_if : (t : Bool) (a b : Happens) → Clean a → Clean b → Clean (if t then a else b)
  clean_if true a b p q = p
  clean_if false a b p q = q

  as_clean : (node : NodeId) (w : Within (Message Token) Token (Written (Load Pdu)) (Written Pdu)) → AllByRecursion (IsClean reading) (lines_of w) → Clean (as_step (Some node) w)
  as_clean node (goes lines t) all = inl (step_clean reading lines all)
  as_clean node (stops lines why) all = inl (step_clean reading lines all)

  path_clean : (ue : UeId) (bearer : BearerId) (p : List ℕ) (s : Here) (o : Option CorePath) → Clean (offer_on_path (W reading) ue bearer p s o)
  path_clean ue bearer p s None = inr (refl, tt)
  path_clean ue bearer p s (Some path) =
      let end : TunnelEnd = record { node = path.up; teid = teid_of path.n3 bearer } in
      let item : Item (Written (Load Pdu)) = record { key = entity ue bearer Dl; count = None; content = (W reading).lay_n3 (teid_of path.n3 bearer) p } in
      let t : Here = offered (W reading) (entity ue bearer Dl) s in
      clean_if (nat_lt largest_packet (length p)) _ _ (inr (refl, tt))
      (as_clean Core (put_on_tunnel (W reading) end item t next check_spans)
      (then_lines (W reading) (IsClean reading) (other_clean reading) (put_on_tunnel (W reading) end item t) check_spans
      (tunnel_lines (W reading) (IsClean reading) (other_clean reading) end item refl t) (checked_lines (W reading) (IsClean reading) (other_clean reading))))

  done_clean : (ue : UeId) (bearer : BearerId) (p : List ℕ) (s : Here) (answer : WrittenStepped)
      → Clean (ordered_by (W reading) s (done_with (W reading) (Ue ue.0) None (λ t. goes_on (offered (W reading) (entity ue bearer Ul) t)) s answer))
  done_clean ue bearer p s (stepped (held reason ∷ []) units) = inl refl
  done_clean ue bearer p s (stepped (no reason ∷ []) units) = inr (refl, tt)
  done_clean ue bearer p s (stepped outputs units) = by (too_many_control_messages (W reading) outputs s)
    where
      by : (t : Bool) → Clean (ordered_by (W reading) s (if t then is_done (stops [] (spent_counter control_messages_spent))
          else is_done (as_step (Some (Ue ue.0)) (carried_out (W reading) (Ue ue.0) None (λ t. goes_on (offered (W reading) (entity ue bearer Ul) t)) outputs units s))))
      by true = inl refl
      by false =
          as_clean (Ue ue.0) (carried_out (W reading) (Ue ue.0) None (λ t. goes_on (offered (W reading) (entity ue bearer Ul) t)) outputs units s)
          (step_lines (W reading) (IsClean reading) (other_clean reading) (by_offer ue bearer p) outputs (record s { units = units }) (puts_clean reading None outputs))
  done_clean ue bearer p s (step_spent counter) = inl refl

  offer_clean : (ue : UeId) (bearer : BearerId) (dir : Dir) (p : List ℕ) (s : Here) → Clean (happens (W reading) (events.Offer ue bearer dir p) s)
  unfolding happens offer does
  offer_clean ue bearer Dl p s = clean_if (has_bearer s ue bearer) _ _ (path_clean ue bearer p s (find ue_cmp s.core.paths ue)) (inr (refl, tt))
  offer_clean ue bearer Ul p s =
      clean_if (has_bearer s ue bearer) _ _ (done_clean ue bearer p s ((W reading).answer (sn_of s) s.units (Ue ue.0) (offer_for ue bearer p))) (inr (refl, tt))

  event_clean : (event : Event) (s : Here) → IsOffer event → Clean (happens (W reading) event s)
  event_clean (events.Offer ue bearer dir p) s is = offer_clean ue bearer dir p s
  event_clean event s is = absurd is

  -- ---- each act

  acts_by : (event : Event) (was : Bool) (steps : Steps) → (IsOffer event → (was ≡ false) ⊎ AllByRecursion (λ (step : RunStep (Message Token)). step.actor ≡ None) steps)
      → AllByRecursion ActOk (map (λ (step : RunStep (Message Token)). record { event = event; refused = was; step = step }) steps)
  acts_by event was [] f = tt
  acts_by event was (step ∷ steps) f = (λ is. now (f is), acts_by event was steps (λ is. later (f is)))
    where
      now : (was ≡ false) ⊎ AllByRecursion (λ (step : RunStep (Message Token)). step.actor ≡ None) (step ∷ steps) → (was ≡ false) ⊎ (step.actor ≡ None)
      now (inl e) = inl e
      now (inr all) = inr all.0

      later : (was ≡ false) ⊎ AllByRecursion (λ (step : RunStep (Message Token)). step.actor ≡ None) (step ∷ steps)
          → (was ≡ false) ⊎ AllByRecursion (λ (step : RunStep (Message Token)). step.actor ≡ None) steps
      later (inl e) = inl e
      later (inr all) = inr all.1

  pub acts_ok : (script : List Event) (s : Here) → AllByRecursion ActOk (acts_of (run_from (W reading) script s).events)
  unfolding run_from
  acts_ok [] s = tt
  acts_ok (event ∷ script) s = by (happens (W reading) event s) (event_clean event s) (acts_ok script)
    where
      by : (e : Happens) → (IsOffer event → Clean e) → ((t : Here) → AllByRecursion ActOk (acts_of (run_from (W reading) script t).events))
          → AllByRecursion ActOk (acts_of (run_on (W reading) event (run_from (W reading) script) e).events)
      by (goes steps t) f more =
          all_both ActOk (acts_of_event (record { event = event; steps = steps })) _ (acts_by event (list_any is_refusal (lines_in steps)) steps f) (more t)
      by (stops steps why) f more =
          all_both ActOk (acts_of_event (record { event = event; steps = steps })) [] (acts_by event (list_any is_refusal (lines_in steps)) steps f) tt
