-- What a tick of a unit puts is control messages, and a failure that is told.
use Rattle.std.proofs.Common.{Bool, true, false, not, ◌||◌, List, [], ◌∷◌, map, Some, None}
use Rattle.std.specs.Prelude.{if◌then◌else◌}
use Rattle.std.specs.List.{AllByRecursion, flat_map}
use Rattle.gnb_types.specs.declared.keys.Channel.{Channel}
use Rattle.gnb_types.specs.declared.names.NodeId.{NodeId}
use Rattle.gnb_types.specs.declared.names.NodeId.TheVariants.{CuCp, CuUp as up_id, Du as du_id, Core, Ue}
use Rattle.gnb_types.specs.declared.names.UeId.{UeId}
use Rattle.message_types.specs.declared.rrc.Token.{Token}
use Rattle.transaction_defs.specs.Callers.{Begin, begun, running, spent as begins_no_more, begin, is_open, close, due, Due, repeats, expires}
use Rattle.unit_defs.specs.Ways.{Message, Pdu, Load, Put, control, packet, radio, deliver, dropped, held, opened, closed, failed, no, Way, tick_input, Answer, gives, spent, with_outputs, ◌then◌, nothing}
use Rattle.unit_defs.specs.Messages.{channel}
use Rattle.unit_defs.specs.Transactions.{Waiting, Transactions, is_empty, waits_at, with_waiting, begun_as, begin_request, ask, ask_at_once, replied, replied_late}
use Rattle.unit_defs.specs.CuCpRecords.{CuCpRecord, terminal_of, with_transactions, Action, asks, cancels, replies, replies_late, sends, fails, ignores, refuses, forgets, Row, row, row_spent, with_terminal, waiting_of, after_asked, noted, act_one, act_all, carry_out}
use Rattle.unit_defs.specs.CuCp.{at_of, due_one, due_each, command_on, command_each, ues_of, tick, cu_cp_acts}
use Rattle.unit_defs.specs.Du.{Du, due_output as du_output, tick as du_tick, du_acts}
use Rattle.unit_defs.specs.CuUpRecords.{CuUp}
use Rattle.unit_defs.specs.CuUp.{due_output as up_output, tick as up_tick, cu_up_acts}
use Rattle.run_defs.specs.Units.{Units, cu_cp_of, with_cu_cp, cu_up_of, with_cu_up, du_of, with_du}
use Rattle.run_defs.specs.Written.{written_put, PlainStepped, written_step}
use Rattle.run_defs.specs.States.{Lengths, stepped, step_spent, tick_for}
use Rattle.run_defs.specs.Runs.{Reading, Plain, plain_way, stepped_with, plain_by, plain_world}
use Rattle.law_terminals_are_isolated.proofs.projections.Answers.{all_append}
use Rattle.law_terminals_are_isolated.specs.run_ticks.Ticks.{IsUnit, IsReported, AreReported}

module _ {M P : Type 0} where
  abbrev Told : {R : Type 0} → Answer M P R → Type 0
  Told (gives outputs after) = AllByRecursion IsReported outputs
  Told (spent counter) = Unit {0}

  told_then : {R S : Type 0} (a : Answer M P R) (f : R → Answer M P S) → Told a → ((r : R) → Told (f r)) → Told (a then f)
  told_then {S = S} (gives xs r) f p each = by (f r) (each r)
    where
      by : (b : Answer M P S) → Told b → Told (with_outputs xs b)
      by (gives ys s) q = all_append IsReported xs ys p q
      by (spent n) q = tt
  told_then (spent n) f p each = tt

  told_if : {R : Type 0} (b : Bool) (x y : Answer M P R) → Told x → Told y → Told (if b then x else y)
  told_if true x y p q = p
  told_if false x y p q = q

module _ {M C P : Type 0} (way : Way M C P) where
  request_told : (t : Transactions M C) (c : Channel) (w : Waiting C) → Told (begin_request way t c w)
  unfolding begin_request
  request_told t c w = by (begin t.caller c w.deadline)
    where
      by : (b : Begin M) → Told (begun_as way t c w b)
      by (begun instance after) = (tt, tt)
      by running = tt
      by begins_no_more = tt

  ask_told : (t : Transactions M C) (c : Channel) (w : Waiting C) → Told (ask way t c w)
  unfolding ask
  ask_told t c w = told_if (is_open t.caller c || not (is_empty (waits_at t c))) _ _ tt (request_told t c w)

  at_once_told : (t : Transactions M C) (c : Channel) (w : Waiting C) → Told (ask_at_once way t c w)
  unfolding ask_at_once
  at_once_told t c w = request_told (with_waiting (record t { caller = close t.caller c }) c []) c w

  say_told : (ue : UeId) (s : Action C) (r : CuCpRecord M C) → Told (act_one way ue r s)
  unfolding act_one replied replied_late
  say_told ue (asks to m deadline awaited) r =
      told_then (ask way r.transactions (channel ue.0 to) (waiting_of way m deadline awaited)) (λ a. nothing (after_asked way ue to (noted way ue to awaited r) a))
      (ask_told r.transactions (channel ue.0 to) (waiting_of way m deadline awaited)) (λ a. tt)
  say_told ue (cancels to m) r =
      told_then (ask_at_once way r.transactions (channel ue.0 to) (waiting_of way m None false)) (λ a. nothing (after_asked way ue to r a))
      (at_once_told r.transactions (channel ue.0 to) (waiting_of way m None false)) (λ a. tt)
  say_told ue (replies to m) r =
      told_then (replied way r.transactions (channel ue.0 to) m) (λ t. nothing (with_transactions r t)) (tt, tt) (λ t. tt)
  say_told ue (replies_late to instance m) r =
      told_then (replied_late way r.transactions (channel ue.0 to) instance m) (λ t. nothing (with_transactions r t)) (tt, tt) (λ t. tt)
  say_told ue (sends to m) r = (tt, tt)
  say_told ue (fails cause) r = (tt, tt)
  say_told ue (ignores reason) r = (tt, tt)
  say_told ue (refuses reason) r = (tt, tt)
  say_told ue forgets r = tt

  says_told : (ue : UeId) (ss : List (Action C)) (r : CuCpRecord M C) → Told (act_all way ue ss r)
  unfolding act_all
  says_told ue [] r = tt
  says_told ue (s ∷ ss) r = told_then (act_one way ue r s) (act_all way ue ss) (say_told ue s r) (says_told ue ss)

  carry_told : (ue : UeId) (x : Row C) (r : CuCpRecord M C) → Told (carry_out way ue r x)
  unfolding carry_out
  carry_told ue (row says after) r = says_told ue says (with_terminal ue r after)
  carry_told ue (row_spent counter) r = tt

  due_told : (d : Due M) (r : CuCpRecord M C) → Told (due_one way r d)
  due_told (repeats c m) r = (tt, tt)
  due_told (expires c) r = carry_told (record { 0 = c.ue }) _ r

  dues_told : (ds : List (Due M)) (r : CuCpRecord M C) → Told (due_each way ds r)
  dues_told [] r = tt
  dues_told (d ∷ ds) r = told_then (due_one way r d) (due_each way ds) (due_told d r) (dues_told ds)

  commands_told : (ues : List UeId) (r : CuCpRecord M C) → Told (command_each way ues r)
  commands_told [] r = tt
  commands_told (ue ∷ ues) r =
      told_then (carry_out way ue r (command_on way (at_of r ue) (terminal_of r ue) (terminal_of r ue).context)) (command_each way ues)
      (carry_told ue _ r) (commands_told ues)

  cp_told : (r : CuCpRecord M C) → Told (cu_cp_acts way r tick_input)
  unfolding cu_cp_acts tick
  cp_told r = told_then _ (λ s. command_each way (ues_of way s) s) (dues_told (due r.transactions.caller) _) (λ s. commands_told (ues_of way s) s)

  du_told : (r : Du M C) → Told (du_acts way r tick_input)
  unfolding du_acts du_tick
  du_told r = each (due r.transactions.caller)
    where
      each : (ds : List (Due M)) → AllByRecursion IsReported (flat_map (du_output way) ds)
      each [] = tt
      each (repeats c m ∷ ds) = (tt, each ds)
      each (expires c ∷ ds) = each ds

  up_told : (r : CuUp M C) → Told (cu_up_acts way r tick_input)
  unfolding cu_up_acts up_tick
  up_told r = each (due r.transactions.caller)
    where
      each : (ds : List (Due M)) → AllByRecursion IsReported (flat_map (up_output way) ds)
      each [] = tt
      each (repeats c m ∷ ds) = (tt, each ds)
      each (expires c ∷ ds) = each ds

module _ (reading : Reading) where
  of_told : {R : Type 0} (back : R → Units (Message Token) Token) (a : Plain R) → Told a → AreReported (stepped_with reading back a)
  of_told back (gives outputs r) h = h
  of_told back (spent counter) h = tt

  ticked_told : (u : Units (Message Token) Token) (node : NodeId) → IsUnit node → AreReported (plain_by reading u node tick_for (Some tick_input))
  ticked_told u (CuCp gnb) is = of_told (with_cu_cp u gnb) (cu_cp_acts plain_way (cu_cp_of u gnb) tick_input) (cp_told plain_way (cu_cp_of u gnb))
  ticked_told u (up_id gnb number) is =
      of_told (with_cu_up u gnb number) (cu_up_acts plain_way (cu_up_of u gnb number) tick_input) (up_told plain_way (cu_up_of u gnb number))
  ticked_told u (du_id gnb number) is =
      of_told (with_du u gnb number) (du_acts plain_way (du_of u gnb number) tick_input) (du_told plain_way (du_of u gnb number))
  ticked_told u Core is = absurd is
  ticked_told u (Ue n) is = absurd is

  each_written : (lengths : Lengths) (xs : List (Put (Message Token) (Load Pdu) Pdu)) → AllByRecursion IsReported xs
      → AllByRecursion IsReported (map (written_put lengths) xs)
  each_written lengths [] all = tt
  each_written lengths (x ∷ xs) all = (by x all.0, each_written lengths xs all.1)
    where
      by : (y : Put (Message Token) (Load Pdu) Pdu) → IsReported y → IsReported (written_put lengths y)
      by (control to u m) is = tt
      by (packet to teid u bearer dir tag load) is = absurd is
      by (radio u bearer dir epoch tag pdu) is = absurd is
      by (deliver u bearer dir count p) is = absurd is
      by (dropped reason) is = tt
      by (held reason) is = tt
      by (opened teid) is = absurd is
      by (closed teid) is = absurd is
      by (failed u cause) is = tt
      by (no reason) is = tt

  written_told : (lengths : Lengths) (x : PlainStepped) → AreReported x → AreReported (written_step lengths x)
  written_told lengths (stepped outputs v) h = each_written lengths outputs h
  written_told lengths (step_spent counter) h = tt

  pub ticks_told : (lengths : Lengths) (u : Units (Message Token) Token) (node : NodeId) → IsUnit node
      → AreReported ((plain_world reading).answer lengths u node tick_for)
  ticks_told lengths u node is = written_told lengths (plain_by reading u node tick_for (Some tick_input)) (ticked_told u node is)
