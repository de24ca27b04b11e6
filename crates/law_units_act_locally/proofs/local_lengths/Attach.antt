-- An order to attach is refused, or the terminal comes with its plan; so is a terminal that is set up without messages.
use Rattle.std.proofs.Common.{◌≡◌, ℕ, Bool, true, false, not, ◌&&◌, ◌||◌, List, [], ◌∷◌, ◌++◌, map, Option, Some, None, ◌⊎◌, inl, inr, refl, sym, ap, ◌∙◌, subst}
use Rattle.std.specs.Prelude.{if◌then◌else◌}
use Rattle.std.specs.List.{AllByRecursion, list_any}
use Rattle.gnb_types.specs.declared.names.NodeId.{NodeId}
use Rattle.gnb_types.specs.declared.names.NodeId.TheVariants.{CuCp}
use Rattle.gnb_types.specs.declared.names.UeId.{UeId}
use Rattle.gnb_types.specs.declared.inputs.Order.TheVariants as orders
use Rattle.gnb_types.specs.declared.keys.Channel.{Channel}
use Rattle.gnb_types.specs.declared.plans.Plan.{Plan}
use Rattle.gnb_types.specs.declared.reasons.RefuseReason.{RefuseReason}
use Rattle.gnb_types.specs.declared.reasons.RefuseReason.TheVariants.{Attached, NotStarted}
use Rattle.gnb_types.specs.declared.reasons.RefuseReason.TheVariants as reasons
use Rattle.gnb_types.specs.Orders.{ue_cmp}
use Rattle.gnb_types.proofs.OrderLemmas.{ue_total}
use Rattle.message_types.specs.declared.rrc.Token.{Token}
use Rattle.tables.specs.Tables.{find, put}
use Rattle.tables.proofs.TableLaws.{find-put-same}
use Rattle.transaction_defs.specs.Callers.{Begin, begun, running, spent as begins_no_more, begin, is_open}
use Rattle.scenario_text.specs.declared.event.Event.{Event}
use Rattle.scenario_text.specs.declared.event.Event.TheVariants as events
use Rattle.unit_defs.specs.Ways.{Message, Pdu, Load, Put, control, packet, radio, deliver, dropped, held, opened, closed, failed, no, order_input, gives, spent, with_outputs, ◌then◌, nothing}
use Rattle.unit_defs.specs.Messages.{channel}
use Rattle.unit_defs.specs.Transactions.{Waiting, Transactions, is_empty, waits_at, begun_as, begin_request, ask}
use Rattle.unit_defs.specs.CuCpRecords.{Action, asks, refuses, Row, row, row_spent, CuCpContext, CuCpTerminal, CuCpRecord, has_unit, with_terminal, stays, keeps, noted, after_asked, waiting_of, act_one, act_all, carry_out}
use Rattle.unit_defs.specs.CuCpRows.{CuCpScope, own_up, own_du, bearer_setup, attach_context, attach as attach_row, attach_on, attach_begins}
use Rattle.unit_defs.specs.CuCp.{cu_cp_acts}
use Rattle.unit_defs.specs.Static.{cu_up_has_room, cu_up_has_teids, du_has_teids}
use Rattle.run_defs.specs.Lines.{RunLine, put_item, got_item, put_message, got_message, delivers, lost_items, lost_message, drops_input, held_at, procedure_failed, is_quiet, is_busy, has_settled, has_not_settled, was_refused}
use Rattle.run_defs.specs.Said.{is_refusal, lines_in}
use Rattle.run_defs.specs.Units.{Units, cu_cp_of, with_cu_cp, cu_up_of, du_of}
use Rattle.run_defs.specs.Written.{Written, written_put, WrittenStepped, written_step}
use Rattle.run_defs.specs.States.{State, Lengths, World, order_for, stepped, step_spent, goes, stops, Within, Outcome, as_step, refused, sn_of, was_attached, spent_counter}
use Rattle.run_defs.specs.Steps.{control_messages_spent, too_many_control_messages, is_done, carried_out, done_with, does, ordered_by}
use Rattle.run_defs.specs.Conditions.{is_held_by_units, has_started}
use Rattle.run_defs.specs.Events.{static, with_terminal as comes, attach}
use Rattle.run_defs.specs.Runs.{Reading, Plain, plain_way, stepped_with, plain_world, happens}
use Rattle.proof_run_steps.specs.steps.Causes.{by_attach}
use Rattle.proof_run_steps.specs.plans.Plans.{Plans}
use Rattle.proof_run_steps.proofs.plans.Frames.{HasPlans, act_plans}
use Rattle.proof_run_steps.proofs.facts.Within.{all_both}
use Rattle.law_units_act_locally.proofs.local_packets.Lines.{IsOther, lines_of, PutShows, step_lines}

abbrev pub Here : Type 0
Here = State (Message Token) Token (Written (Load Pdu)) (Written Pdu)

abbrev pub RunWorld : Type 0
RunWorld = World (Message Token) Token (Written (Load Pdu)) (Written Pdu)

abbrev pub Happens : Type 0
Happens = Outcome (Message Token) Token (Written (Load Pdu)) (Written Pdu)

abbrev Output : Type 0
Output = Put (Message Token) (Written (Load Pdu)) (Written Pdu)

-- ---- a CU-CP that is to attach a terminal holds nothing

abbrev NotHeld : {M L P : Type 0} → Put M L P → Type 0
NotHeld (held reason) = ⊥
NotHeld output = Unit {0}

abbrev Never : {R : Type 0} → Plain R → Type 0
Never (gives outputs r) = AllByRecursion NotHeld outputs
Never (spent counter) = Unit {0}

never_then : {R S : Type 0} (a : Plain R) (f : R → Plain S) → Never a → ((r : R) → Never (f r)) → Never (a then f)
never_then {S = S} (gives os r) f p q = by (f r) (q r)
  where
    by : (b : Plain S) → Never b → Never (with_outputs os b)
    by (gives more s) h = all_both NotHeld os more p h
    by (spent k) h = tt
never_then (spent k) f p q = tt

never_if : {R : Type 0} (t : Bool) (a b : Plain R) → Never a → Never b → Never (if t then a else b)
never_if true a b p q = p
never_if false a b p q = q

begun_never : (t : Transactions (Message Token) Token) (c : Channel) (w : Waiting Token) (b : Begin (Message Token)) → Never (begun_as plain_way t c w b)
begun_never t c w (begun instance after) = (tt, tt)
begun_never t c w running = tt
begun_never t c w begins_no_more = tt

ask_never : (t : Transactions (Message Token) Token) (c : Channel) (w : Waiting Token) → Never (ask plain_way t c w)
unfolding ask begin_request
ask_never t c w =
    never_if (is_open t.caller c || not (is_empty (waits_at t c))) _ _ tt (begun_never t c w (begin t.caller c w.deadline))

abbrev IsSmall : Action Token → Type 0
IsSmall (asks to message deadline awaited) = Unit {0}
IsSmall (refuses reason) = Unit {0}
IsSmall say = ⊥

abbrev IsSmallRow : Row Token → Type 0
IsSmallRow (row (say ∷ []) after) = IsSmall say
IsSmallRow (row says after) = ⊥
IsSmallRow (row_spent counter) = Unit {0}

say_never : (ue : UeId) (r : CuCpRecord (Message Token) Token) (say : Action Token) → IsSmall say → Never (act_one plain_way ue r say)
unfolding act_one
say_never ue r (asks to message deadline awaited) p =
    let w : Waiting Token = waiting_of plain_way message deadline awaited in
    never_then (ask plain_way r.transactions (channel ue.0 to) w) (λ a. nothing (after_asked plain_way ue to (noted plain_way ue to awaited r) a))
    (ask_never r.transactions (channel ue.0 to) w) (λ a. tt)
say_never ue r (refuses reason) p = (tt, tt)
say_never ue r say p = absurd p

row_never : (ue : UeId) (r : CuCpRecord (Message Token) Token) (w : Row Token) → IsSmallRow w → Never (carry_out plain_way ue r w)
unfolding carry_out act_all
row_never ue r (row (say ∷ []) after) p =
    let q : CuCpRecord (Message Token) Token = with_terminal ue r after in
    never_then (act_one plain_way ue q say) (act_all plain_way ue []) (say_never ue q say p) (λ x. tt)
row_never ue r (row [] after) p = absurd p
row_never ue r (row (say ∷ more ∷ says) after) p = absurd p
row_never ue r (row_spent counter) p = tt

small_if : (t : Bool) (a b : Row Token) → IsSmallRow a → IsSmallRow b → IsSmallRow (if t then a else b)
small_if true a b p q = p
small_if false a b p q = q

begins_small : (at : CuCpScope) (plan : Plan) (t : CuCpTerminal) → IsSmallRow (attach_begins plain_way at plan t)
begins_small at plan t =
    small_if (not (has_unit at.units (own_up at plan.up)) || not (has_unit at.units (own_du at plan.du))) (stays t (refuses NotStarted ∷ []))
    (keeps t (bearer_setup plain_way at (attach_context plain_way plan) false ∷ []) (attach_context plain_way plan)) tt tt

attach_small : (at : CuCpScope) (plan : Plan) (t : CuCpTerminal) → IsSmallRow (attach_row plain_way at plan t)
unfolding attach_row
attach_small at plan t = by t.context
  where
    by : (o : Option CuCpContext) → IsSmallRow (attach_on plain_way at plan t o)
    by None = begins_small at plan t
    by (Some c) = tt

attach_never : (r : CuCpRecord (Message Token) Token) (plan : Plan) → Never (cu_cp_acts plain_way r (order_input (orders.Attach plan)))
unfolding cu_cp_acts
attach_never r plan = row_never plan.ue r _ (attach_small _ plan _)

abbrev WrittenNever : WrittenStepped → Type 0
WrittenNever (stepped outputs v) = AllByRecursion NotHeld outputs
WrittenNever (step_spent counter) = Unit {0}

put_never : (lengths : Lengths) (output : Put (Message Token) (Load Pdu) Pdu) → NotHeld output → NotHeld (written_put lengths output)
put_never lengths (held reason) p = absurd p
put_never lengths (control to ue message) p = tt
put_never lengths (packet to teid ue bearer dir tag load) p = tt
put_never lengths (radio ue bearer dir epoch tag pdu) p = tt
put_never lengths (deliver ue bearer dir count x) p = tt
put_never lengths (dropped reason) p = tt
put_never lengths (opened teid) p = tt
put_never lengths (closed teid) p = tt
put_never lengths (failed ue cause) p = tt
put_never lengths (no reason) p = tt

puts_never : (lengths : Lengths) (outputs : List (Put (Message Token) (Load Pdu) Pdu)) → AllByRecursion NotHeld outputs
    → AllByRecursion NotHeld (map (written_put lengths) outputs)
puts_never lengths [] p = tt
puts_never lengths (output ∷ outputs) p = (put_never lengths output p.0, puts_never lengths outputs p.1)

module _ (reading : Reading) where
  abbrev pub W : RunWorld
  W = plain_world reading

  written_never : (lengths : Lengths) (back : CuCpRecord (Message Token) Token → Units (Message Token) Token) (a : Plain (CuCpRecord (Message Token) Token)) → Never a
      → WrittenNever (written_step lengths (stepped_with reading back a))
  written_never lengths back (gives outputs r) p = puts_never lengths outputs p
  written_never lengths back (spent counter) p = tt

  -- ---- no line of a step is a refusal

  abbrev pub IsClean : RunLine (Message Token) → Type 0
  IsClean line = is_refusal line ≡ false

  pub other_clean : (line : RunLine (Message Token)) → IsOther line → IsClean line
  other_clean (put_item link item) h = refl
  other_clean (got_item link item) h = refl
  other_clean (put_message number control_message) h = refl
  other_clean (got_message number control_message) h = refl
  other_clean (delivers key count x) h = refl
  other_clean (lost_items link items) h = refl
  other_clean (lost_message number) h = refl
  other_clean (drops_input node reason) h = refl
  other_clean (held_at link reason) h = refl
  other_clean (procedure_failed node ue cause) h = refl
  other_clean (is_quiet ue bearer down up) h = refl
  other_clean (is_busy ue bearer) h = refl
  other_clean (has_settled rounds) h = refl
  other_clean (has_not_settled rounds) h = refl
  other_clean (was_refused reason) h = absurd h

  put_clean : (taken : Option ℕ) (output : Output) → PutShows W IsClean other_clean taken output
  put_clean taken (control to ue message) = tt
  put_clean taken (packet to teid ue bearer dir tag item) = refl
  put_clean taken (radio ue bearer dir epoch tag pdu) = refl
  put_clean taken (deliver ue bearer dir count x) = refl
  put_clean taken (dropped reason) = tt
  put_clean taken (held reason) = tt
  put_clean taken (opened teid) = tt
  put_clean taken (closed teid) = tt
  put_clean taken (failed ue cause) = tt
  put_clean taken (no reason) = tt

  pub puts_clean : (taken : Option ℕ) (outputs : List Output) → AllByRecursion (PutShows W IsClean other_clean taken) outputs
  puts_clean taken [] = tt
  puts_clean taken (output ∷ outputs) = (put_clean taken output, puts_clean taken outputs)

  pub none_any : (lines : List (RunLine (Message Token))) → AllByRecursion IsClean lines → list_any is_refusal lines ≡ false
  none_any [] all = refl
  none_any (line ∷ lines) all = ap (λ (b : Bool). b || list_any is_refusal lines) all.0 ∙ none_any lines all.1

  pub step_clean : (lines : List (RunLine (Message Token))) → AllByRecursion IsClean lines → list_any is_refusal (lines ++ []) ≡ false
  step_clean lines all = none_any (lines ++ []) (all_both IsClean lines [] all tt)

  -- ---- what an event comes to that brings a terminal

  abbrev pub Came : Plan → Here → Happens → Type 0
  Came plan s (goes steps t) =
      ((reason : RefuseReason) × (goes steps t ≡ refused reason s))
      ⊎ ((find ue_cmp t.plans plan.ue ≡ Some plan) × (list_any is_refusal (lines_in steps) ≡ false))
  Came plan s (stops steps why) = list_any is_refusal (lines_in steps) ≡ false

  came_if : (plan : Plan) (s : Here) (t : Bool) (a b : Happens) → Came plan s a → Came plan s b → Came plan s (if t then a else b)
  came_if plan s true a b p q = p
  came_if plan s false a b p q = q

  came_refused : (plan : Plan) (s : Here) (reason : RefuseReason) → Came plan s (refused reason s)
  came_refused plan s reason = inl (reason, refl)

  static_came : (plan : Plan) (s : Here) → Came plan s (static W plan s)
  unfolding static
  static_came plan s =
      came_if plan s (was_attached s plan.ue || is_held_by_units plan s.units) _ _ (came_refused plan s Attached)
      (came_if plan s (not (cu_up_has_room (cu_up_of s.units plan.gnb plan.up) plan)) _ _ (came_refused plan s reasons.Quota)
      (came_if plan s (cu_up_has_teids (cu_up_of s.units plan.gnb plan.up) plan && du_has_teids (du_of s.units plan.gnb plan.du) plan) _ _
      (inr (find-put-same ue_total s.plans plan.ue plan, refl)) refl))

  step_came : (plan : Plan) (s : Here) (node : NodeId) (w : Within (Message Token) Token (Written (Load Pdu)) (Written Pdu))
      → HasPlans W (put ue_cmp s.plans plan.ue plan) w → AllByRecursion IsClean (lines_of w) → Came plan s (as_step (Some node) w)
  step_came plan s node (goes lines t) has all =
      inr (subst (λ (ps : Plans). find ue_cmp ps plan.ue ≡ Some plan) (sym has) (find-put-same ue_total s.plans plan.ue plan), step_clean lines all)
  step_came plan s node (stops lines why) has all = step_clean lines all

  few_came : (plan : Plan) (s : Here) (outputs : List Output) (units : Units (Message Token) Token) (t : Bool)
      → Came plan s (ordered_by W s (if t then is_done (stops [] (spent_counter control_messages_spent))
      else is_done (as_step (Some (CuCp plan.gnb)) (carried_out W (CuCp plan.gnb) None (comes W plan) outputs units s))))
  few_came plan s outputs units true = refl
  few_came plan s outputs units false =
      step_came plan s (CuCp plan.gnb) (carried_out W (CuCp plan.gnb) None (comes W plan) outputs units s) (act_plans W (by_attach plan) outputs units s)
      (step_lines W IsClean other_clean (by_attach plan) outputs (record s { units = units }) (puts_clean None outputs))

  done_came : (plan : Plan) (s : Here) (answer : WrittenStepped) → WrittenNever answer
      → Came plan s (ordered_by W s (done_with W (CuCp plan.gnb) None (comes W plan) s answer))
  done_came plan s (stepped (held reason ∷ []) units) p = absurd p.0
  done_came plan s (stepped (no reason ∷ []) units) p = came_refused plan s reason
  done_came plan s (stepped outputs units) p = few_came plan s outputs units (too_many_control_messages W outputs s)
  done_came plan s (step_spent counter) p = refl

  attach_came : (plan : Plan) (s : Here) → Came plan s (attach W plan s)
  unfolding attach does
  attach_came plan s =
      came_if plan s (was_attached s plan.ue) _ _ (came_refused plan s Attached)
      (came_if plan s (not (has_started plan s)) _ _ (came_refused plan s NotStarted)
      (done_came plan s (W.answer (sn_of s) s.units (CuCp plan.gnb) (order_for (orders.Attach plan)))
      (written_never (sn_of s) (with_cu_cp s.units plan.gnb) _ (attach_never (cu_cp_of s.units plan.gnb) plan))))

  -- ---- the plan of a terminal that an event brings

  abbrev pub brings : Event → Option Plan
  brings (events.Static plan) = Some plan
  brings (events.Attach plan) = Some plan
  brings event = None

  abbrev pub CameIf : Option Plan → Here → Happens → Type 0
  CameIf None s e = Unit {0}
  CameIf (Some plan) s e = Came plan s e

  pub it_came : (event : Event) (s : Here) → CameIf (brings event) s (happens W event s)
  unfolding happens
  it_came (events.Static plan) s = static_came plan s
  it_came (events.Attach plan) s = attach_came plan s
  it_came event s = tt
