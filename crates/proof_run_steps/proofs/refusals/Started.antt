-- In `Run` the first start is no refusal: the first unit that is given it makes a step.
use Rattle.std.proofs.Common.{◌≡◌, Bool, true, false, not, ◌||◌, List, [], ◌∷◌, ◌++◌, map, Option, Some, None, sym, ap, subst}
use Rattle.std.specs.Prelude.{if◌then◌else◌}
use Rattle.std.proofs.lemmas.List.{append-nil}
use Rattle.gnb_types.specs.declared.names.Gnb.TheVariants.{A, B}
use Rattle.gnb_types.specs.declared.names.NodeId.{NodeId}
use Rattle.gnb_types.specs.declared.names.NodeId.TheVariants.{CuCp, CuUp as up_id, Du as du_id}
use Rattle.gnb_types.specs.declared.keys.Channel.{Channel}
use Rattle.gnb_types.specs.declared.inputs.Order.TheVariants as orders
use Rattle.gnb_types.specs.declared.reasons.RefuseReason.TheVariants.{Busy}
use Rattle.message_types.specs.declared.rrc.Token.{Token}
use Rattle.transaction_defs.specs.Callers.{Begin, begun, running, spent as begins_no_more, begin, is_open}
use Rattle.unit_defs.specs.Ways.{Message, e1, Pdu, Load, control, held, no, Output, Answer, gives, spent, ◌then◌, nothing}
use Rattle.unit_defs.specs.Transactions.{no_instance, Transactions, Waiting, Asked, is_empty, waits_at, begun_as, begin_request, ask}
use Rattle.unit_defs.specs.CuUpRecords.{CuUp}
use Rattle.unit_defs.specs.CuUp.{start as up_start, cu_up_acts, up_node, with_transactions}
use Rattle.unit_defs.specs.Messages.{channel}
use Rattle.gnb_types.specs.Names.{node_text}
use Rattle.message_types.specs.declared.e1.E1Message.TheVariants.{E1SetupRequest}
use Rattle.run_defs.specs.Units.{Units, cu_up_of, with_cu_up, starting_nodes, units_of_gnb}
use Rattle.run_defs.specs.Written.{Written, written_put, written_step}
use Rattle.run_defs.specs.States.{State, Lengths, Stepped, stepped, step_spent, World, order_for, sn_of, spent_counter, goes, stops, goes_on, told_before, ◌next◌, Within, Outcome, RunStep, as_step, refused}
use Rattle.run_defs.specs.Steps.{control_messages_spent, too_many_control_messages, is_done, carried_out, done_with, does, ordered_by, step}
use Rattle.run_defs.specs.Events.{start, order_each}
use Rattle.run_defs.specs.Runs.{Reading, plain_way, stepped_with, plain_world}
use Rattle.proof_run_steps.specs.refusals.Refusals.{StaysWhereRefused}
use Rattle.proof_run_steps.proofs.refusals.Runs.{Back, either, refused_back}

-- ---- a step of a unit comes first

module _ {M C L P : Type 0} (world : World M C L P) where
  abbrev IsActed : Outcome M C L P → Type 0
  IsActed (goes [] after) = ⊥
  IsActed (goes (step ∷ steps) after) = step.actor ≡ None → ⊥
  IsActed (stops steps why) = Unit {0}

  acts_first : (s mid : State M C L P) (step : RunStep M) (steps : List (RunStep M)) (e : Outcome M C L P) → (step.actor ≡ None → ⊥)
      → StaysWhereRefused s (told_before (step ∷ steps) e)
  acts_first s mid step steps (goes more after) acts = λ w. absurd (acts (first w.1))
    where
      head_actor : List (RunStep M) → Option NodeId
      head_actor [] = None
      head_actor (x ∷ xs) = x.actor

      first : {y : RunStep M} → step ∷ (steps ++ more) ≡ y ∷ [] → step.actor ≡ y.actor
      first e = ap head_actor e
  acts_first s mid step steps (stops more why) acts = tt

  acted_then : (s : State M C L P) (e : Outcome M C L P) (more : State M C L P → Outcome M C L P) → IsActed e → StaysWhereRefused s (e next more)
  acted_then s (goes [] mid) more p = absurd p
  acted_then s (goes (step ∷ steps) mid) more p = acts_first s mid step steps (more mid) p
  acted_then s (stops steps why) more p = tt

  of_unit : (node : NodeId) (w : Within M C L P) → IsActed (as_step (Some node) w)
  of_unit node (goes lines after) = λ e. absurd cc
  of_unit node (stops lines why) = tt

  -- an answer that is neither held nor refused
  abbrev pub IsTaken : Stepped M C L P → Type 0
  IsTaken (stepped (held reason ∷ []) units) = ⊥
  IsTaken (stepped (no reason ∷ []) units) = ⊥
  IsTaken answer = Unit {0}

  few_or_not : (node : NodeId) (s : State M C L P) (t : Bool) (w : Within M C L P)
      → IsActed (ordered_by world s (if t then is_done (stops [] (spent_counter control_messages_spent)) else is_done (as_step (Some node) w)))
  few_or_not node s true w = tt
  few_or_not node s false w = of_unit node w

  taken_acts : (node : NodeId) (s : State M C L P) (answer : Stepped M C L P) → IsTaken answer
      → IsActed (ordered_by world s (done_with world node None goes_on s answer))
  taken_acts node s (stepped (held reason ∷ []) units) p = absurd p
  taken_acts node s (stepped (no reason ∷ []) units) p = absurd p
  taken_acts node s (stepped outputs units) p =
      few_or_not node s (too_many_control_messages world outputs s) (carried_out world node None goes_on outputs units s)
  taken_acts node s (step_spent counter) p = tt

  pub taken_start : (s : State M C L P)
      → ((t : State M C L P) → IsTaken (world.answer (sn_of t) t.units (up_id A 1) (order_for orders.Start))) → Back world s (start world s)
  unfolding start step does
  taken_start s taken =
      either world s s.started (refused Busy s)
      (order_each world (λ node. step world node (order_for orders.Start)) starting_nodes (record s { started = true }))
      (λ h. refused_back world Busy s)
      (λ h. record {
        it = acted_then s (step world (up_id A 1) (order_for orders.Start) (record s { started = true }))
            (order_each world (λ node. step world node (order_for orders.Start))
            (up_id A 2 ∷ du_id A 1 ∷ du_id A 2 ∷ units_of_gnb B))
            (taken_acts (up_id A 1) (record s { started = true }) _ (taken (record s { started = true })));
      })

-- ---- a CU-UP that is given a start puts a request, or nothing

abbrev PlainOutput : Type 0
PlainOutput = Output (Message Token) Pdu

abbrev AreControls : List PlainOutput → Type 0
AreControls [] = Unit {0}
AreControls (control to ue message ∷ outputs) = AreControls outputs
AreControls (output ∷ outputs) = ⊥

abbrev Controls : {R : Type 0} → Answer (Message Token) Pdu R → Type 0
Controls (gives outputs after) = AreControls outputs
Controls (spent counter) = Unit {0}

controls_then : {R S : Type 0} (a : Answer (Message Token) Pdu R) (f : R → S) → Controls a → Controls (a then (λ r. nothing (f r)))
controls_then (gives outputs after) f p = subst AreControls (sym (append-nil outputs)) p
controls_then (spent counter) f p = tt

controls_if : {R : Type 0} (t : Bool) (a b : Answer (Message Token) Pdu R) → Controls a → Controls b → Controls (if t then a else b)
controls_if true a b p q = p
controls_if false a b p q = q

begun_controls : (t : Transactions (Message Token) Token) (c : Channel) (w : Waiting Token) (b : Begin (Message Token)) → Controls (begun_as plain_way t c w b)
begun_controls t c w (begun instance after) = tt
begun_controls t c w running = tt
begun_controls t c w begins_no_more = tt

ask_controls : (t : Transactions (Message Token) Token) (c : Channel) (w : Waiting Token) → Controls (ask plain_way t c w)
unfolding ask begin_request
ask_controls t c w =
    controls_if (is_open t.caller c || not (is_empty (waits_at t c))) _ _ tt (begun_controls t c w (begin t.caller c w.deadline))

start_controls : (r : CuUp (Message Token) Token) → Controls (up_start plain_way r)
unfolding up_start
start_controls r =
    let request : Waiting Token =
    record { message = e1 (E1SetupRequest no_instance (node_text (up_node r))); deadline = None; awaited = false } in
    let asked : Answer (Message Token) Pdu (Asked (Message Token) Token) = ask plain_way r.transactions (channel 0 (CuCp r.gnb)) request in
    let f = λ (a : Asked (Message Token) Token). with_transactions r a.transactions in
    controls_if r.is_set_up (nothing r) (asked then (λ a. nothing (f a))) tt
    (controls_then asked f (ask_controls r.transactions (channel 0 (CuCp r.gnb)) request))

taken_if_controls : (reading : Reading) (sn : Lengths) (outputs : List PlainOutput) (units : Units (Message Token) Token) → AreControls outputs
    → IsTaken (plain_world reading) (stepped (map (written_put sn) outputs) units)
taken_if_controls reading sn [] units p = tt
taken_if_controls reading sn (control to ue message ∷ []) units p = tt
taken_if_controls reading sn (control to ue message ∷ output ∷ outputs) units p = tt
taken_if_controls reading sn (output ∷ outputs) units p = absurd p

plain_taken : (reading : Reading) (sn : Lengths) (units : Units (Message Token) Token) (a : Answer (Message Token) Pdu (CuUp (Message Token) Token)) → Controls a
    → IsTaken (plain_world reading) (written_step sn (stepped_with reading (with_cu_up units A 1) a))
plain_taken reading sn units (gives outputs after) p = taken_if_controls reading sn outputs (with_cu_up units A 1 after) p
plain_taken reading sn units (spent counter) p = tt

pub start_in_run : (reading : Reading) (s : State (Message Token) Token (Written (Load Pdu)) (Written Pdu))
    → Back (plain_world reading) s (start (plain_world reading) s)
unfolding cu_up_acts
start_in_run reading s =
    taken_start (plain_world reading) s (λ t. plain_taken reading (sn_of t) t.units (up_start plain_way (cu_up_of t.units A 1)) (start_controls (cu_up_of t.units A 1)))
