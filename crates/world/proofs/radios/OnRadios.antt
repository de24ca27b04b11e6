-- The turns of radios.
use Rattle.std.proofs.Common.{◌≡◌, ℕ, ◌+◌, ◌==◌, ◌||◌, Bool, true, false, if◌then◌else◌, List, [], ◌∷◌, ◌++◌, length, Option, Some, None, refl, sym, ◌∙◌, ap, subst, arith}
use Rattle.std.specs.Prelude.{Result, Ok, Err}
use Rattle.std.proofs.lemmas.List.{append-nil}
use Rattle.std.proofs.lemmas.Bool.Decides.{nat_tests}
use Rattle.gnb_types.specs.declared.names.NodeId.{NodeId}
use Rattle.gnb_types.proofs.Choices.{clash}
use Rattle.scenario_text.specs.declared.line.OutLine.{OutLine}
use Rattle.transport_defs.specs.declared.Item.{Item}
use Rattle.transport_defs.specs.Links.{Radio, nth}
use Rattle.links.specs.Radios.{oldest_of}
use Rattle.run_defs.specs.Lines.{radio_link, held_at}
use Rattle.run_defs.specs.States.{goes_on, goes, as_step, radio_of}
use Rattle.run_defs.specs.Steps.{is_done, is_held, is_refused}
use Rattle.run_defs.specs.Conditions.{epoch_of, ready_home, receiver_of}
use Rattle.run_defs.specs.Events.{carry_done, confirm_done}
use Rattle.run_defs.specs.Settling.{Turn, to_acks, to_airs, after_air, after_ack, aired_by, air_next, acked_by, turn_over, ack_next, turn_at, turn_step}
use Rattle.run_links.specs.Networks.{Octets, OctetState, OctetWorld, OctetOutcome}
use Rattle.world_steps.specs.declared.cause.Cause.{Cause}
use Rattle.world_steps.specs.declared.asked.Moved.TheVariants as moves
use Rattle.world_steps.specs.declared.asked.Moved.{Moved}
use Rattle.world_steps.specs.Gives.{EventGives, stop_by}
use Rattle.world_steps.specs.Moves.{OctetDone, Moves, StepOutcome}
use Rattle.world_steps.proofs.Following.{first_stops, nothing_more}
use Rattle.world_steps.proofs.Shown.{shows_held}
use Rattle.world.specs.turns.Turns.{Continues, quiet_lines}
use Rattle.world.specs.radios.RadioTurns.{TurnGives, over, aired}
use Rattle.world.proofs.turns.Turned.{then_continues, no_more, stands_at, same_from, made_stops, held_never_stops, refused_never_stops}

module _ (world : OctetWorld) (again : Turn → OctetState → OctetOutcome) (turn : Turn) (home : NodeId) (s t : OctetState) where
  -- nothing changed
  here_again : (next_turn : Turn) (before lines : List OutLine)
      → stands_at t lines ≡ stands_at s before
      → Continues before (again next_turn s) lines (again next_turn t)
  here_again next_turn before lines e =
      λ u end result k. same_from (λ l x. EventGives l (again next_turn x) end u result) s t before lines e k

  -- ---- an item is carried

  aired_so : (done : OctetDone) (moved : Moved) (before middle lines : List OutLine)
      → Moves done (record { state = s; lines = before }) (record { state = t; lines = middle }) moved
      → lines ≡ middle ++ quiet_lines (radio_link turn.key (epoch_of s turn.key.ue)) moved
      → Continues before (aired_by world again turn home s done) lines (again (aired turn moved) t)
  aired_so (is_done o) moves.Done before middle lines h e =
      then_continues o (again (after_air turn)) before lines t (no_more o before middle lines t h e)
  aired_so (is_held reason) (moves.Holds r) before middle lines h e =
      then_continues
      (as_step (Some (receiver_of turn.key home)) (goes (held_at (radio_link turn.key (epoch_of s turn.key.ue)) reason ∷ []) s))
      (again (to_acks (after_air turn))) before lines t
      (shows_held (Some (receiver_of turn.key home)) (radio_link turn.key (epoch_of s turn.key.ue)) s t (is_held reason) (moves.Holds r) before middle
      lines h e)
  aired_so (is_refused reason) (moves.Refuses r) before middle lines h e =
      subst (λ (l : List OutLine). Continues before (again (to_acks (after_air turn)) s) l (again (to_acks (after_air turn)) t))
      (sym (append-nil middle) ∙ sym e) (here_again (to_acks (after_air turn)) before middle h.1)
  aired_so (is_done o) (moves.Holds r) before middle lines h e = absurd h
  aired_so (is_done o) (moves.Refuses r) before middle lines h e = absurd h
  aired_so (is_held reason) moves.Done before middle lines h e = absurd h
  aired_so (is_held reason) (moves.Refuses r) before middle lines h e = absurd h
  aired_so (is_refused reason) moves.Done before middle lines h e = absurd h
  aired_so (is_refused reason) (moves.Holds r) before middle lines h e = absurd h

  aired_stops : (done : OctetDone) (cause : Cause) (before lines : List OutLine)
      → StepOutcome done (record { state = s; lines = before }) (record { state = t; lines = lines }) (Err cause)
      → EventGives before (aired_by world again turn home s done) lines t (Err cause)
  aired_stops (is_done o) cause before lines h =
      first_stops o (again (after_air turn)) before lines t t cause (made_stops o s t (stop_by cause) before lines h)
  aired_stops (is_held reason) cause before lines h =
      held_never_stops reason (aired_by world again turn home s (is_held reason)) s t (stop_by cause) before lines h
  aired_stops (is_refused reason) cause before lines h =
      refused_never_stops reason (aired_by world again turn home s (is_refused reason)) s t (stop_by cause) before lines h

  -- none is left, or the radio was aired as often as it may be
  pub airs_none : (there : Option (Item Octets)) (lines : List OutLine) → None ≡ there
      → Continues lines (air_next world again turn home s there) lines (again (to_acks turn) s)
  airs_none None lines h = λ u end result k. k
  airs_none (Some item) lines h = absurd cc

  pub airs_spent : (there : Option (Item Octets)) (lines : List OutLine) → (turn.airs == 0) ≡ true
      → Continues lines (air_next world again turn home s there) lines (again (to_acks turn) s)
  airs_spent None lines h = λ u end result k. k
  airs_spent (Some item) lines h =
      subst (λ (b : Bool). Continues lines
      (if b then again (to_acks turn) s else aired_by world again turn home s (carry_done world turn.key home item s))
      lines (again (to_acks turn) s)) (sym h) (λ u end result k. k)

  abbrev pub AirsOldest : Option (Item Octets) → List OutLine → List OutLine → Result Moved Cause → Type 0
  AirsOldest there before lines result = (item : Item Octets) → there ≡ Some item
      → StepOutcome (carry_done world turn.key home item s) (record { state = s; lines = before }) (record { state = t; lines = lines }) result

  -- of a relation of what the turn makes of the item that stands there
  airs_on : (P : OctetOutcome → Type 0) (there : Option (Item Octets)) (shown : Item Octets) → Some shown ≡ there → (turn.airs == 0) ≡ false
      → ((item : Item Octets) → there ≡ Some item → P (aired_by world again turn home s (carry_done world turn.key home item s)))
      → P (air_next world again turn home s there)
  airs_on P None shown h few p = absurd cc
  airs_on P (Some item) shown h few p =
      subst (λ (b : Bool). P (if b then again (to_acks turn) s else aired_by world again turn home s (carry_done world turn.key home item s)))
      (sym few) (p item refl)

  pub airs_one : (there : Option (Item Octets)) (shown : Item Octets) (moved : Moved) (before middle lines : List OutLine) → Some shown ≡ there
      → (turn.airs == 0) ≡ false → AirsOldest there before middle (Ok moved)
      → lines ≡ middle ++ quiet_lines (radio_link turn.key (epoch_of s turn.key.ue)) moved
      → Continues before (air_next world again turn home s there) lines (again (aired turn moved) t)
  airs_one there shown moved before middle lines h few gives told =
      airs_on (λ o. Continues before o lines (again (aired turn moved) t)) there shown h few
      (λ item e. aired_so (carry_done world turn.key home item s) moved before middle lines (gives item e) told)

  pub airs_stop : (there : Option (Item Octets)) (shown : Item Octets) (cause : Cause) (before lines : List OutLine) → Some shown ≡ there
      → (turn.airs == 0) ≡ false → AirsOldest there before lines (Err cause)
      → EventGives before (air_next world again turn home s there) lines t (Err cause)
  airs_stop there shown cause before lines h few gives =
      airs_on (λ o. EventGives before o lines t (Err cause)) there shown h few
      (λ item e. aired_stops (carry_done world turn.key home item s) cause before lines (gives item e))

  -- ---- an item is confirmed

  acked_goes : (done : OctetDone) (moved : Moved) (before lines : List OutLine)
      → Moves done (record { state = s; lines = before }) (record { state = t; lines = lines }) moved
      → Continues before (acked_by world again turn s done) lines (again (after_ack turn) t)
  acked_goes (is_done o) moves.Done before lines h = then_continues o (again (after_ack turn)) before lines t h
  acked_goes (is_held reason) (moves.Holds r) before lines h = here_again (after_ack turn) before lines h.1
  acked_goes (is_refused reason) (moves.Refuses r) before lines h = here_again (after_ack turn) before lines h.1
  acked_goes (is_done o) (moves.Holds r) before lines h = absurd h
  acked_goes (is_done o) (moves.Refuses r) before lines h = absurd h
  acked_goes (is_held reason) moves.Done before lines h = absurd h
  acked_goes (is_held reason) (moves.Refuses r) before lines h = absurd h
  acked_goes (is_refused reason) moves.Done before lines h = absurd h
  acked_goes (is_refused reason) (moves.Holds r) before lines h = absurd h

  acked_stops : (done : OctetDone) (cause : Cause) (before lines : List OutLine)
      → StepOutcome done (record { state = s; lines = before }) (record { state = t; lines = lines }) (Err cause)
      → EventGives before (acked_by world again turn s done) lines t (Err cause)
  acked_stops (is_done o) cause before lines h =
      first_stops o (again (after_ack turn)) before lines t t cause (made_stops o s t (stop_by cause) before lines h)
  acked_stops (is_held reason) cause before lines h =
      held_never_stops reason (acked_by world again turn s (is_held reason)) s t (stop_by cause) before lines h
  acked_stops (is_refused reason) cause before lines h =
      refused_never_stops reason (acked_by world again turn s (is_refused reason)) s t (stop_by cause) before lines h

  -- nothing stands there
  pub acks_none : (items : List (Item Octets)) (carried : ℕ) (lines : List OutLine) → (length items == 0) ≡ true
      → EventGives lines (ack_next world again turn home s items carried) lines s (Ok tt)
  acks_none [] carried lines h = nothing_more lines s
  acks_none (item ∷ rest) carried lines h =
      let some : (length (item ∷ rest) == 0) ≡ false = grind (arith, nat_tests) in clash (length (item ∷ rest) == 0) h some

  -- none can be confirmed
  ends_or_not : (moved : Bool) (lines : List OutLine)
      → TurnGives lines (if moved then again (to_airs turn) s else goes_on s) again lines s (Ok (if moved then Some (to_airs turn) else None))
  ends_or_not true lines = λ u end result k. k
  ends_or_not false lines = nothing_more lines s

  acks_over : (item : Item Octets) (rest : List (Item Octets)) (carried : ℕ) (lines : List OutLine) → (carried == 0 || turn.acks == 0) ≡ true
      → TurnGives lines (ack_next world again turn home s (item ∷ rest) carried) again lines s (Ok (over turn))
  acks_over item rest carried lines h =
      subst (λ (b : Bool). TurnGives lines (if b then turn_over world again turn s
      else acked_by world again turn s (confirm_done world turn.key home item rest s)) again lines s (Ok (over turn))) (sym h)
      (ends_or_not turn.moved lines)

  pub acks_spent : (items : List (Item Octets)) (carried : ℕ) (lines : List OutLine) → (length items == 0) ≡ false → (turn.acks == 0) ≡ true
      → TurnGives lines (ack_next world again turn home s items carried) again lines s (Ok (over turn))
  acks_spent [] carried lines h e = absurd cc
  acks_spent (item ∷ rest) carried lines h e =
      acks_over item rest carried lines (ap (λ (b : Bool). carried == 0 || b) e ∙ or_true (carried == 0))
    where
      or_true : (b : Bool) → (b || true) ≡ true
      or_true true = refl
      or_true false = refl

  pub acks_uncarried : (items : List (Item Octets)) (carried : ℕ) (lines : List OutLine) → (length items == 0) ≡ false
      → None ≡ oldest_of items carried
      → TurnGives lines (ack_next world again turn home s items carried) again lines s (Ok (over turn))
  acks_uncarried [] carried lines h e = absurd cc
  acks_uncarried (item ∷ rest) carried lines h e =
      acks_over item rest carried lines (ap (λ (b : Bool). b || turn.acks == 0) (is_none (carried == 0) e))
    where
      is_none : (b : Bool) → None ≡ (if b then None else Some item) → b ≡ true
      is_none true k = refl
      is_none false k = absurd cc

  abbrev pub AcksOldest : List (Item Octets) → ℕ → List OutLine → List OutLine → Result Moved Cause → Type 0
  AcksOldest items carried before lines result = (item : Item Octets) (rest : List (Item Octets)) → items ≡ item ∷ rest → (carried == 0) ≡ false
      → StepOutcome (confirm_done world turn.key home item rest s) (record { state = s; lines = before }) (record { state = t; lines = lines }) result

  acks_on : (P : OctetOutcome → Type 0) (items : List (Item Octets)) (carried : ℕ) (shown : Item Octets) → Some shown ≡ oldest_of items carried
      → (turn.acks == 0) ≡ false
      → ((item : Item Octets) (rest : List (Item Octets)) → items ≡ item ∷ rest → (carried == 0) ≡ false
      → P (acked_by world again turn s (confirm_done world turn.key home item rest s)))
      → P (ack_next world again turn home s items carried)
  acks_on P [] carried shown h few p = absurd cc
  acks_on P (item ∷ rest) carried shown h few p =
      let is : (carried == 0) ≡ false = is_some (carried == 0) h in
      let both : (carried == 0 || turn.acks == 0) ≡ false = ap (λ (b : Bool). b || turn.acks == 0) is ∙ few in
      subst (λ (b : Bool). P (if b then turn_over world again turn s
      else acked_by world again turn s (confirm_done world turn.key home item rest s))) (sym both) (p item rest refl is)
    where
      is_some : (b : Bool) → Some shown ≡ (if b then None else Some item) → b ≡ false
      is_some true k = absurd cc
      is_some false k = refl

  pub acks_one : (items : List (Item Octets)) (carried : ℕ) (shown : Item Octets) (moved : Moved) (before lines : List OutLine)
      → Some shown ≡ oldest_of items carried → (turn.acks == 0) ≡ false → AcksOldest items carried before lines (Ok moved)
      → Continues before (ack_next world again turn home s items carried) lines (again (after_ack turn) t)
  acks_one items carried shown moved before lines h few gives =
      acks_on (λ o. Continues before o lines (again (after_ack turn) t)) items carried shown h few
      (λ item rest e is. acked_goes (confirm_done world turn.key home item rest s) moved before lines (gives item rest e is))

  pub acks_stop : (items : List (Item Octets)) (carried : ℕ) (shown : Item Octets) (cause : Cause) (before lines : List OutLine)
      → Some shown ≡ oldest_of items carried → (turn.acks == 0) ≡ false → AcksOldest items carried before lines (Err cause)
      → EventGives before (ack_next world again turn home s items carried) lines t (Err cause)
  acks_stop items carried shown cause before lines h few gives =
      acks_on (λ o. EventGives before o lines t (Err cause)) items carried shown h few
      (λ item rest e is. acked_stops (confirm_done world turn.key home item rest s) cause before lines (gives item rest e is))

-- ---- one part of a turn, where the radio is ready or isn't

module _ (world : OctetWorld) (again : Turn → OctetState → OctetOutcome) (turn : Turn) (s : OctetState) where
  pub not_ready : (lines : List OutLine) → None ≡ ready_home s turn.key.ue → EventGives lines (turn_step world again turn s) lines s (Ok tt)
  not_ready lines e =
      subst (λ (home : Option NodeId). EventGives lines (turn_at world again turn s home) lines s (Ok tt)) e (nothing_more lines s)

  abbrev r : Radio Octets
  r = radio_of s turn.key

  abbrev by_airing : NodeId → Bool → OctetOutcome
  by_airing home airing = if airing then air_next world again turn home s (nth r.items r.carried) else ack_next world again turn home s r.items r.carried

  at_home : (home : NodeId) (t : OctetState) (before lines : List OutLine) (result : Result (Option Turn) Cause) (airing : Bool)
      → Some home ≡ ready_home s turn.key.ue → turn.airing ≡ airing → TurnGives before (by_airing home airing) again lines t result
      → TurnGives before (turn_step world again turn s) again lines t result
  at_home home t before lines result airing e is h =
      subst (λ (there : Option NodeId). TurnGives before (turn_at world again turn s there) again lines t result) e
      (subst (λ (b : Bool). TurnGives before (by_airing home b) again lines t result) (sym is) h)

  pub turn_airs : (home : NodeId) (t : OctetState) (before lines : List OutLine) (result : Result (Option Turn) Cause)
      → Some home ≡ ready_home s turn.key.ue → turn.airing ≡ true
      → TurnGives before (air_next world again turn home s (nth r.items r.carried)) again lines t result
      → TurnGives before (turn_step world again turn s) again lines t result
  turn_airs home t before lines result e is h = at_home home t before lines result true e is h

  pub turn_acks : (home : NodeId) (t : OctetState) (before lines : List OutLine) (result : Result (Option Turn) Cause)
      → Some home ≡ ready_home s turn.key.ue → turn.airing ≡ false
      → TurnGives before (ack_next world again turn home s r.items r.carried) again lines t result
      → TurnGives before (turn_step world again turn s) again lines t result
  turn_acks home t before lines result e is h = at_home home t before lines result false e is h
