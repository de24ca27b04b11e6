-- Rows that put nothing on a tunnel or a radio.
use Rattle.std.proofs.Common.{◌≡◌, ℕ, Bool, true, false, not, ◌||◌, if◌then◌else◌, List, [], ◌∷◌, ◌++◌, length, map, Option, Some, None, refl, ◌∙◌}
use Rattle.std.specs.Prelude.{⊤}
use Rattle.std.specs.List.{flat_map}
use Rattle.gnb_types.specs.declared.names.UeId.{UeId}
use Rattle.gnb_types.specs.declared.names.BearerId.{BearerId}
use Rattle.gnb_types.specs.declared.names.NodeId.TheVariants.{CuCp}
use Rattle.gnb_types.specs.declared.keys.Channel.{Channel}
use Rattle.gnb_types.specs.Names.{node_text}
use Rattle.message_types.specs.declared.f1.F1.{F1}
use Rattle.message_types.specs.declared.f1.F1.TheVariants as f1s
use Rattle.message_types.specs.declared.rrc.Token.{Token}
use Rattle.transaction_defs.specs.Callers.{Begin, begun, running, spent as begins_no_more, begin, close, is_open, Due, repeats, expires, due}
use Rattle.unit_defs.specs.Ways.{f1, Pdu, Output, control, packet, radio, deliver, dropped, held, opened, closed, failed, no, Way, Answer, gives, spent, ◌then◌, nothing, teids_spent}
use Rattle.unit_defs.specs.Messages.{channel}
use Rattle.unit_defs.specs.Transactions.{no_instance, Transactions, Waiting, Asked, is_empty, waits_at, with_waiting, begun_as, begin_request, ask, advance_with, advance, replied}
use Rattle.unit_defs.specs.Teids.{teids_are_left}
use Rattle.unit_defs.specs.Du.{Du, DuContext, du_node, context_of, with_transactions, downlinks_of, downlink_list, replies, closings, openings, old_downlinks, replaced, replaces, context_anew, modify_on, modify, relayed_down, relay_down, relayed_up, relay_up, start, set_up, due_output, tick}
use Rattle.proof_node_orders.specs.du_inputs.Changes.{DuModel, model_of, Change, stays, takes, renews, sets_up, ends}
use Rattle.proof_node_orders.specs.du_inputs.Puts.{OnTunnel, tunnels_put, radio_put, of_model, of_change, carried_of, Puts, AreQuiet, IsQuiet}

-- ---- lists of outputs

pub quiet_append : {M : Type 0} (xs ys : List (Output M Pdu)) → AreQuiet xs → AreQuiet ys → AreQuiet (xs ++ ys)
unfolding AreQuiet
quiet_append [] ys h k = k
quiet_append (packet to teid other q dir tag load ∷ xs) ys h k = absurd h
quiet_append (radio other q dir epoch tag pdu ∷ xs) ys h k = absurd h
quiet_append (control to ue message ∷ xs) ys h k = quiet_append xs ys h k
quiet_append (deliver ue bearer dir count p ∷ xs) ys h k = quiet_append xs ys h k
quiet_append (dropped reason ∷ xs) ys h k = quiet_append xs ys h k
quiet_append (held reason ∷ xs) ys h k = quiet_append xs ys h k
quiet_append (opened teid ∷ xs) ys h k = quiet_append xs ys h k
quiet_append (closed teid ∷ xs) ys h k = quiet_append xs ys h k
quiet_append (failed ue cause ∷ xs) ys h k = quiet_append xs ys h k
quiet_append (no reason ∷ xs) ys h k = quiet_append xs ys h k

module _ {M : Type 0} (ue : UeId) (bearer : BearerId) where
  pub quiet_ups : (xs : List (Output M Pdu)) → AreQuiet xs → tunnels_put ue bearer xs ≡ []
  unfolding AreQuiet tunnels_put
  quiet_ups [] h = refl
  quiet_ups (packet to teid other q dir tag load ∷ xs) h = absurd h
  quiet_ups (radio other q dir epoch tag pdu ∷ xs) h = absurd h
  quiet_ups (control to u message ∷ xs) h = quiet_ups xs h
  quiet_ups (deliver u b dir count p ∷ xs) h = quiet_ups xs h
  quiet_ups (dropped reason ∷ xs) h = quiet_ups xs h
  quiet_ups (held reason ∷ xs) h = quiet_ups xs h
  quiet_ups (opened teid ∷ xs) h = quiet_ups xs h
  quiet_ups (closed teid ∷ xs) h = quiet_ups xs h
  quiet_ups (failed u cause ∷ xs) h = quiet_ups xs h
  quiet_ups (no reason ∷ xs) h = quiet_ups xs h

  pub quiet_radio : (xs : List (Output M Pdu)) → AreQuiet xs → radio_put ue bearer xs ≡ []
  unfolding AreQuiet radio_put
  quiet_radio [] h = refl
  quiet_radio (packet to teid other q dir tag load ∷ xs) h = absurd h
  quiet_radio (radio other q dir epoch tag pdu ∷ xs) h = absurd h
  quiet_radio (control to u message ∷ xs) h = quiet_radio xs h
  quiet_radio (deliver u b dir count p ∷ xs) h = quiet_radio xs h
  quiet_radio (dropped reason ∷ xs) h = quiet_radio xs h
  quiet_radio (held reason ∷ xs) h = quiet_radio xs h
  quiet_radio (opened teid ∷ xs) h = quiet_radio xs h
  quiet_radio (closed teid ∷ xs) h = quiet_radio xs h
  quiet_radio (failed u cause ∷ xs) h = quiet_radio xs h
  quiet_radio (no reason ∷ xs) h = quiet_radio xs h

closings_quiet : (M : Type 0) (teids : List ℕ) → AreQuiet {M = M} (map (λ teid. closed teid) teids)
unfolding AreQuiet
closings_quiet M [] = tt
closings_quiet M (teid ∷ teids) = closings_quiet M teids

openings_quiet : (M : Type 0) (teids : List ℕ) → AreQuiet {M = M} (map (λ teid. opened teid) teids)
unfolding AreQuiet
openings_quiet M [] = tt
openings_quiet M (teid ∷ teids) = openings_quiet M teids

-- ---- rows

module _ {M C : Type 0} (way : Way M C Pdu) where
  pub closings_are_quiet : (c : DuContext) → AreQuiet (closings way c)
  closings_are_quiet c = closings_quiet M (downlinks_of c)

  -- a change by which nothing is put
  abbrev pub IsCalm : Change → Type 0
  IsCalm (takes frame) = ⊥
  IsCalm ends = ⊥
  IsCalm change = ⊤

  pub calm_ups : (change : Change) → IsCalm change → (o : Option DuModel) → ◌≡◌ {A = List OnTunnel} [] (of_model (of_change way change) o)
  calm_ups change h None = refl
  calm_ups stays h (Some d) = refl
  calm_ups (takes frame) h (Some d) = absurd h
  calm_ups (renews epoch teid) h (Some d) = refl
  calm_ups (sets_up part) h (Some d) = refl
  calm_ups ends h (Some d) = absurd h

  pub calm_radio : (change : Change) → IsCalm change → (o : Option DuModel) → ◌≡◌ {A = List (ℕ × Pdu)} [] (of_model (carried_of change) o)
  calm_radio change h None = refl
  calm_radio stays h (Some d) = refl
  calm_radio (takes frame) h (Some d) = absurd h
  calm_radio (renews epoch teid) h (Some d) = refl
  calm_radio (sets_up part) h (Some d) = refl
  calm_radio ends h (Some d) = absurd h

  pub quiet_puts : (ue : UeId) (bearer : BearerId) (r : Du M C) (change : Change) → IsCalm change → (a : Answer M Pdu (Du M C)) → IsQuiet a
      → Puts ue bearer (of_model (of_change way change) (model_of r ue bearer)) (of_model (carried_of change) (model_of r ue bearer)) a
  unfolding Puts IsQuiet
  quiet_puts ue bearer r change calm (gives outputs v) h = (
    quiet_ups ue bearer outputs h ∙ calm_ups change calm (model_of r ue bearer),
    quiet_radio ue bearer outputs h ∙ calm_radio change calm (model_of r ue bearer),
  )
  quiet_puts ue bearer r change calm (spent counter) h = tt

  -- ---- requests of its own

  begun_quiet : (t : Transactions M C) (c : Channel) (w : Waiting C) (b : Begin M) → IsQuiet (begun_as way t c w b)
  unfolding IsQuiet AreQuiet
  begun_quiet t c w (begun instance after) = tt
  begun_quiet t c w running = tt
  begun_quiet t c w begins_no_more = tt

  request_quiet : (t : Transactions M C) (c : Channel) (w : Waiting C) → IsQuiet (begin_request way t c w)
  unfolding begin_request
  request_quiet t c w = begun_quiet t c w (begin t.caller c w.deadline)

  ask_quiet : (t : Transactions M C) (c : Channel) (w : Waiting C) → IsQuiet (ask way t c w)
  unfolding ask IsQuiet AreQuiet
  ask_quiet t c w = by (is_open t.caller c || not (is_empty (waits_at t c)))
    where
      by : (b : Bool) → IsQuiet {M = M} {R = Asked M C} (if b then nothing (record { transactions = with_waiting t c (waits_at t c ++ w ∷ []); awaited = None })
          else begin_request way t c w)
      by true = tt
      by false = request_quiet t c w

  advance_quiet : (t : Transactions M C) (c : Channel) → IsQuiet (advance way t c)
  unfolding advance IsQuiet AreQuiet
  advance_quiet t c = by (is_open t.caller c) (waits_at t c)
    where
      by : (b : Bool) (ws : List (Waiting C)) → IsQuiet {M = M} {R = Asked M C} (if b then nothing (record { transactions = t; awaited = None }) else advance_with way t c ws)
      by true ws = tt
      by false [] = tt
      by false (w ∷ ws) = request_quiet (with_waiting t c ws) c w

  then_quiet : (a : Answer M Pdu (Asked M C)) (more : Asked M C → Du M C) → IsQuiet a → IsQuiet (a then (λ x. nothing (more x)))
  unfolding IsQuiet AreQuiet
  then_quiet (gives outputs x) more h = quiet_append outputs [] h tt
  then_quiet (spent counter) more h = tt

  pub start_quiet : (r : Du M C) → IsQuiet (start way r)
  unfolding start IsQuiet AreQuiet
  start_quiet r = by r.is_set_up
    where
      w : Waiting C
      w = record { message = f1 (f1s.F1SetupRequest no_instance (node_text (du_node r))); deadline = None; awaited = false }

      by : (b : Bool) → IsQuiet (if b then nothing r else (ask way r.transactions (channel 0 (CuCp r.gnb)) w then (λ a. nothing (with_transactions r a.transactions))))
      by true = tt
      by false = then_quiet (ask way r.transactions (channel 0 (CuCp r.gnb)) w) (λ a. with_transactions r a.transactions)
          (ask_quiet r.transactions (channel 0 (CuCp r.gnb)) w)

  pub set_up_quiet : (ch : Channel) (r : Du M C) → IsQuiet (set_up way ch r)
  unfolding set_up
  set_up_quiet ch r =
      let t : Transactions M C = record r.transactions { caller = close r.transactions.caller ch } in
      then_quiet (advance way t ch) (λ a. record r { is_set_up = true; transactions = a.transactions }) (advance_quiet t ch)

  -- ---- a context is renewed

  replaces_quiet : (other : UeId) (old : Option DuContext) (c : DuContext) (ch : Channel) (m : F1 C) (r : Du M C)
      → IsQuiet (replaces way other old c r then replies way ch m)
  unfolding replaces replied IsQuiet AreQuiet
  replaces_quiet other old c ch m r = by (teids_are_left r.next_teid (length c.bearers))
    where
      first : List (Output M Pdu)
      first = map (λ teid. closed teid) (old_downlinks way old) ++ openings way c

      by : (b : Bool) → IsQuiet ((if b then gives first (replaced way other old c r) else spent teids_spent) then replies way ch m)
      by true = quiet_append first (control ch.peer ch.ue (way.encode (f1 m)) ∷ [])
          (quiet_append (map (λ teid. closed teid) (old_downlinks way old)) (openings way c) (closings_quiet M (old_downlinks way old))
          (openings_quiet M (downlinks_of c))) tt
      by false = tt

  pub modify_quiet : (ch : Channel) (other : UeId) (instance epoch : ℕ) (r : Du M C) → IsQuiet (modify way ch other instance epoch r)
  unfolding modify IsQuiet AreQuiet
  modify_quiet ch other instance epoch r = by (context_of r other)
    where
      by : (o : Option DuContext) → IsQuiet (modify_on way ch other instance epoch r o)
      by None = tt
      by (Some c) = replaces_quiet other (Some c) (context_anew way r epoch c) ch
          (f1s.UeContextModificationResponse other instance (downlink_list (context_anew way r epoch c))) r

  -- ---- tokens, ticks

  pub relay_down_quiet : (other : UeId) (container : C) (r : Du M C) → IsQuiet (relay_down way other container r)
  unfolding relay_down IsQuiet AreQuiet
  relay_down_quiet other container r = by (context_of r other)
    where
      by : (o : Option DuContext) → IsQuiet (relayed_down way other container r o)
      by None = tt
      by (Some c) = tt

  pub relay_up_quiet : (other : UeId) (token : Token) (r : Du M C) → IsQuiet (relay_up way other token r)
  unfolding relay_up IsQuiet AreQuiet
  relay_up_quiet other token r = by (context_of r other)
    where
      by : (o : Option DuContext) → IsQuiet (relayed_up way other token r o)
      by None = tt
      by (Some c) = tt

  dues_quiet : (ds : List (Due M)) → AreQuiet (flat_map (due_output way) ds)
  unfolding AreQuiet
  dues_quiet [] = tt
  dues_quiet (repeats ch message ∷ ds) = dues_quiet ds
  dues_quiet (expires ch ∷ ds) = dues_quiet ds

  pub tick_quiet : (r : Du M C) → IsQuiet (tick way r)
  unfolding tick IsQuiet
  tick_quiet r = dues_quiet (due r.transactions.caller)
