-- A CU-CP keeps deadlines on whatever it is given.
use Rattle.std.proofs.Common.{inl, inr, ◌≡◌, ◌⊎◌, ℕ, Bool, true, false, cond, ◌&&◌, ◌||◌, List, [], ◌∷◌, Option, Some, None, refl, sym, ap, ◌∙◌, subst, true≢false}
use Rattle.std.specs.Prelude.{if◌then◌else◌, map, filter, not}
use Rattle.std.specs.List.{AllByRecursion, list_any}
use Rattle.std.specs.List.Sorted.{IsStrictlySortedBy}
use Rattle.gnb_types.specs.declared.names.Gnb.{Gnb}
use Rattle.gnb_types.specs.declared.names.NodeId.{NodeId}
use Rattle.gnb_types.specs.declared.names.NodeId.TheVariants.{CuCp}
use Rattle.gnb_types.specs.declared.names.UeId.{UeId}
use Rattle.gnb_types.specs.declared.keys.Channel.{Channel}
use Rattle.gnb_types.specs.declared.inputs.Order.{Order}
use Rattle.gnb_types.specs.declared.inputs.Order.TheVariants as orders
use Rattle.gnb_types.specs.declared.reasons.DropReason.TheVariants.{Unexpected, Stale}
use Rattle.gnb_types.specs.Orders.{channel_cmp}
use Rattle.tables.specs.Tables.{find, at, IsSorted}
use Rattle.message_types.specs.declared.f1.F1.TheVariants as f1s
use Rattle.message_types.specs.declared.e1.E1Message.TheVariants as e1s
use Rattle.message_types.specs.declared.xn.XnMessage.TheVariants as xns
use Rattle.transaction_defs.specs.Callers.{Opened, opened_at, is_awaited, is_last, one_less, due, Due, repeats, expires, after_tick}
use Rattle.transaction_defs.specs.Callees.{Verdict, new, again, stale, verdict, taken, kept_reply}
use Rattle.unit_defs.specs.declared.StateName.{StateName}
use Rattle.unit_defs.specs.declared.StateName.TheVariants as states
use Rattle.unit_defs.specs.declared.AttemptKind.{AttemptKind}
use Rattle.unit_defs.specs.declared.AttemptKind.TheVariants as kinds
use Rattle.unit_defs.specs.Ways.{Message, f1, e1, xn, Input, control_input, tick_input, order_input, Way, Answer, ◌then◌, drops}
use Rattle.unit_defs.specs.Messages.{channel, shares_interface, other_gnb}
use Rattle.unit_defs.specs.Transactions.{Kind, request, reply, transfer, kind_of, Waiting, Transactions, waits_at, with_waiting, awaited_as, advance, replied, answered_again, request_by, on_request, on_reply}
use Rattle.unit_defs.specs.CuCpRecords.{Awaited, Attempt, CuCpContext, CuCpTerminal, CuCpRecord, new_cu_cp, terminal_of, with_transactions, with_instance_of, is_from, begun, on_context, answered, is_instance, awaits_answer, after_begun, Row, carry_out}
use Rattle.unit_defs.specs.CuCp.{at_of, Answered, answers_none, answers_with, answer_of, answer_on, answer, in_state, without_release, is_cu_up_release, is_setup_failure, after_failed_setup, put_next, closed_at, answered_by, reply_received, with_unit, set_up, asked, token_received, transferred, control_by, control_received, expired_on, due_one, due_each, command_by, command_on, command_each, ues_of, tick, ordered, cu_cp_acts}
use Rattle.law_requests_act_once.specs.channel.Ends.{same_node, Asking, asking_at}
use Rattle.law_requests_act_once.specs.channel.Exactly.{IfGives}
use Rattle.law_requests_act_once.proofs.channel.Keys.{node_same, node_told}
use Rattle.law_requests_act_once.proofs.channel.Projections.{closed_asks, waiting_asks}
use Rattle.law_requests_act_once.proofs.channel.Ticks.{aged_in, opened_after_tick, sorted_after_tick}
use Rattle.law_requests_act_once.specs.channel_rows.IsPlayed.{HasNoDeadline, IsUndated}
use Rattle.law_requests_act_once.specs.channel_rows.Assumed.{Cancels}
use Rattle.law_requests_act_once.specs.cu_cp_deadlines.Deadlines.{prepared_in, prepared_of, preparation, OpenIsUndated, HasOneDeadline, IsTheOnly, AwaitsOnly, FitsThere, AwaitedHasDeadline, DeadlinesFit}
use Rattle.law_requests_act_once.proofs.cu_cp_deadlines.Changes.{gives_then, begun_on, Becomes, IsNext, advance_becomes}
use Rattle.law_requests_act_once.proofs.cu_cp_deadlines.Midway.{nodes_apart, none_kept, other, to_other, Midway, asked_aside, asked_there, asked_nothing, attempt_there, holds_as, Fits, Whole, midway, over}
use Rattle.law_requests_act_once.proofs.cu_cp_deadlines.Says.{some_kept, begun_keeps, calm_fits, RowKeeps, leaves_it, carried, AnswerKeeps, answered_row}
use Rattle.law_requests_act_once.proofs.cu_cp_deadlines.Rows.{is_preparing, attach_keeps, handover_keeps, cancel_keeps, release_keeps, expires_keeps, command_keeps, none_in, offer_keeps, status_keeps, cancelled_keeps, released_keeps}
use Rattle.law_requests_act_once.proofs.cu_cp_deadlines.Answers.{AnswersIf, state_keeps, container_keeps}

-- ---- whom an attempt awaits

-- who awaits only one node has an answer awaited of that node alone
awaited_from : (node : NodeId) (from : NodeId) (i : ℕ) (ws : List Awaited) → AllByRecursion (λ (w : Awaited). w.from ≡ node) ws
    → list_any (λ w. is_from from w && is_instance w.instance i) ws ≡ true → from ≡ node
awaited_from node from i [] all h = absurd cc
awaited_from node from i (w ∷ ws) all h = by (awaited_from node from i ws all.1) (is_from from w && is_instance w.instance i) refl h
  where
    one : (a b : Bool) → (a && b) ≡ true → a ≡ true
    one true b e = refl
    one false b e = absurd cc

    by : (list_any (λ v. is_from from v && is_instance v.instance i) ws ≡ true → from ≡ node) → (t : Bool) → (is_from from w && is_instance w.instance i) ≡ t
        → (t || list_any (λ v. is_from from v && is_instance v.instance i) ws) ≡ true → from ≡ node
    by later true e k = sym (node_told w.from from (one (is_from from w) (is_instance w.instance i) e)) ∙ all.0
    by later false e k = later k

-- where no instance is known none is awaited
nothing_awaited : (from : NodeId) (i : ℕ) (ws : List Awaited) → AllByRecursion (λ (w : Awaited). w.instance ≡ None) ws
    → list_any (λ w. is_from from w && is_instance w.instance i) ws ≡ true → ⊥
nothing_awaited from i [] all h = absurd cc
nothing_awaited from i (w ∷ ws) all h = nothing_awaited from i ws all.1 (by (is_from from w) (ap (λ (o : Option ℕ). is_instance o i) all.0) h)
  where
    by : (a : Bool) → is_instance w.instance i ≡ false → ((a && is_instance w.instance i) || list_any (λ v. is_from from v && is_instance v.instance i) ws) ≡ true
        → list_any (λ v. is_from from v && is_instance v.instance i) ws ≡ true
    by true none k = ap (λ (b : Bool). b || list_any (λ v. is_from from v && is_instance v.instance i) ws) (sym none) ∙ k
    by false none k = k

all_answered : (Q : Awaited → Type 0) (from : NodeId) (ws : List Awaited) → AllByRecursion Q ws → AllByRecursion Q (filter (λ w. not (is_from from w)) ws)
all_answered Q from [] all = tt
all_answered Q from (w ∷ ws) all = by (all_answered Q from ws all.1) (not (is_from from w))
  where
    by : AllByRecursion Q (filter (λ v. not (is_from from v)) ws) → (b : Bool)
        → AllByRecursion Q (cond b (w ∷ filter (λ v. not (is_from from v)) ws) (filter (λ v. not (is_from from v)) ws))
    by rest true = (all.0, rest)
    by rest false = rest

only_begun : (node to : NodeId) (n : ℕ) (ws : List Awaited) → AllByRecursion (λ (w : Awaited). w.from ≡ node) ws
    → AllByRecursion (λ (w : Awaited). w.from ≡ node) (map (with_instance_of to n) ws)
only_begun node to n [] all = tt
only_begun node to n (w ∷ ws) all = (by (is_from to w), only_begun node to n ws all.1)
  where
    by : (b : Bool) → (if b then record w { instance = Some n } else w).from ≡ node
    by true = all.0
    by false = all.0

-- a request to another node gives no instance to these
unput_begun : (node to : NodeId) (n : ℕ) → same_node node to ≡ false → (ws : List Awaited) → AllByRecursion (λ (w : Awaited). w.from ≡ node) ws
    → AllByRecursion (λ (w : Awaited). w.instance ≡ None) ws → AllByRecursion (λ (w : Awaited). w.instance ≡ None) (map (with_instance_of to n) ws)
unput_begun node to n apart [] all none = tt
unput_begun node to n apart (w ∷ ws) all none =
    (by (is_from to w) (ap (λ (x : NodeId). same_node x to) all.0 ∙ apart), unput_begun node to n apart ws all.1 none.1)
  where
    by : (b : Bool) → b ≡ false → (if b then record w { instance = Some n } else w).instance ≡ None
    by true e = absurd cc
    by false e = none.0

module _ {M C P : Type 0} (way : Way M C P) (gnb : Gnb) where
  abbrev Record : Type 0
  Record = CuCpRecord M C

  abbrev Good : Record → Type 0
  Good r = Whole gnb r

  abbrev Keeps : Answer M P Record → Type 0
  Keeps a = IfGives Good a

  keeps_then : (a : Answer M P Record) (f : Record → Answer M P Record) → Keeps a → ((r : Record) → Good r → Keeps (f r)) → Keeps (a then f)
  keeps_then a f p q = gives_then Good Good a f p q

  -- a row is made for the gNB of the record
  row_keeps : (ue : UeId) (r : Record) (what : Row C) → RowKeeps way r.gnb ue (terminal_of r ue) what → Good r → Keeps (carry_out way ue r what)
  row_keeps ue r what row h = carried way gnb ue r what (subst (λ (g : Gnb). RowKeeps way g ue (terminal_of r ue) what) h.1 row) h

  -- ---- what waits longest is put

  abbrev ThereFits : UeId → Record → Type 0
  ThereFits ue r = Midway gnb ue (Fits gnb) r

  -- to another peer than the other CU-CP
  begun_aside : (ue : UeId) (to : NodeId) → same_node (other gnb) to ≡ false → (r : Record) (o : Option ℕ) → ThereFits ue r → ThereFits ue (after_begun way ue to r o)
  begun_aside ue to apart r None mid = mid
  begun_aside ue to apart r (Some n) mid = attempt_there gnb ue r mid (λ a. begun a to n) (by (preparation (terminal_of r ue).context) refl mid.here)
    where
      still : (b : Attempt) → IsTheOnly (asking_at r.transactions (to_other gnb ue)) b × AwaitsOnly (other gnb) b
          → IsTheOnly (asking_at r.transactions (to_other gnb ue)) (begun b to n) × AwaitsOnly (other gnb) (begun b to n)
      still b (inl all, awaits) = (inl all, only_begun (other gnb) to n b.awaits awaits)
      still b (inr waits, awaits) = (inr (waits.0, waits.1, unput_begun (other gnb) to n apart b.awaits awaits waits.2), only_begun (other gnb) to n b.awaits awaits)

      by : (p : Option Attempt) → preparation (terminal_of r ue).context ≡ p → FitsThere (other gnb) (asking_at r.transactions (to_other gnb ue)) p
          → FitsThere (other gnb) (asking_at r.transactions (to_other gnb ue)) (preparation (on_context (λ a. begun a to n) (terminal_of r ue).context))
      by None is fits =
          subst (λ (p : Option Attempt). FitsThere (other gnb) (asking_at r.transactions (to_other gnb ue)) p)
          (sym (none_kept (λ a. begun a to n) (λ a. refl) (terminal_of r ue).context is)) fits
      by (Some b) is fits =
          subst (λ (p : Option Attempt). FitsThere (other gnb) (asking_at r.transactions (to_other gnb ue)) p)
          (sym (some_kept way gnb ue (λ a. begun a to n) (λ a. refl) (terminal_of r ue).context b is)) (still b fits)

  next_aside : (ue : UeId) (to : NodeId) → same_node to (other gnb) ≡ false → (r : Record) → ThereFits ue r → Keeps (put_next way ue (channel ue.0 to) r)
  unfolding waits_at
  next_aside ue to apart r mid =
      gives_then (λ a. Becomes way r.transactions (channel ue.0 to) (λ x i. IsUndated x) a) Good (advance way r.transactions (channel ue.0 to)) _
      (advance_becomes way r.transactions (channel ue.0 to) (λ x i. IsUndated x) dates (λ w ws is. next w ws is))
      (λ a b. over gnb ue _ (begun_aside ue to (nodes_apart to (other gnb) apart) (with_transactions r a.transactions) a.awaited
      (asked_aside gnb ue r mid to apart b.asks b.fits)))
    where
      dates : IsUndated (asking_at r.transactions (channel ue.0 to))
      dates = mid.elsewhere ue to apart

      next : (w : Waiting C) (ws : List (Waiting C)) → waits_at r.transactions (channel ue.0 to) ≡ w ∷ ws
          → IsUndated (record (asking_at r.transactions (channel ue.0 to)) { waits = ws })
          × ((n : ℕ) (x : M) → IsNext way (asking_at r.transactions (channel ue.0 to)).last w n x → IsUndated (begun_on w n x ws))
      next w ws is =
          let all : AllByRecursion HasNoDeadline (w ∷ ws) = subst (λ (vs : List (Waiting C)). AllByRecursion HasNoDeadline vs) is dates.1 in
          ((dates.0, all.1), λ n x z. ((λ o e. let same : record { instance = n; deadline = w.deadline; request = Some x } ≡ o = cc in ap (λ (q : Opened M). q.deadline) (sym same) ∙ all.0), all.1))

  -- nothing has a deadline; or one request alone, and it is no longer the one that an instance is awaited of
  abbrev NoneDated : Asking M C → Option ℕ → Type 0
  NoneDated x i = IsUndated x × AllByRecursion AwaitedHasDeadline x.waits

  abbrev Only : Attempt → Asking M C → Option ℕ → Type 0
  Only b x None = IsTheOnly x b × AllByRecursion AwaitedHasDeadline x.waits
  Only b x (Some n) = AllByRecursion HasNoDeadline x.waits × AllByRecursion AwaitedHasDeadline x.waits

  -- to the other CU-CP, where nothing is prepared; or it is, and the request is put, or waits
  next_there : (ue : UeId) (r : Record) → ThereFits ue r → Keeps (put_next way ue (to_other gnb ue) r)
  unfolding waits_at
  next_there ue r mid = by (preparation (terminal_of r ue).context) refl mid.here
    where
      t : Transactions M C
      t = r.transactions

      c : Channel
      c = to_other gnb ue

      dated : (o : Opened M) (w : Waiting C) (n : ℕ) (x : M) → HasNoDeadline w → record { instance = n; deadline = w.deadline; request = Some x } ≡ o → o.deadline ≡ None
      dated o w n x none same = ap (λ (q : Opened M). q.deadline) (sym same) ∙ none

      waits_in : (w : Waiting C) (ws : List (Waiting C)) → waits_at t c ≡ w ∷ ws → AllByRecursion AwaitedHasDeadline (w ∷ ws)
      waits_in w ws is = subst (λ (vs : List (Waiting C)). AllByRecursion AwaitedHasDeadline vs) is (mid.unawaited ue)

      calm : preparation (terminal_of r ue).context ≡ None → IsUndated (asking_at t c) → Keeps (put_next way ue c r)
      calm none dates =
          gives_then (λ a. Becomes way t c NoneDated a) Good (advance way t c) _
          (advance_becomes way t c NoneDated (dates, mid.unawaited ue)
          (λ w ws is. let all : AllByRecursion HasNoDeadline (w ∷ ws) = subst (λ (vs : List (Waiting C)). AllByRecursion HasNoDeadline vs) is dates.1 in (
            ((dates.0, all.1), (waits_in w ws is).1),
            λ n x z. (((λ o e. let same : record { instance = n; deadline = w.deadline; request = Some x } ≡ o = cc in dated o w n x all.0 same), all.1), (waits_in w ws is).1),
          )))
          (λ a b. over gnb ue _ (calm_fits way gnb ue _ (begun_keeps way gnb ue (with_transactions r a.transactions) (other gnb) a.awaited
          (asked_there gnb ue r mid b.asks b.fits.1 (b.fits.0, none)))))

      put_or_not : (b : Attempt) (x : Asking M C) (o : Option ℕ) → AllByRecursion HasNoDeadline x.waits → AllByRecursion AwaitedHasDeadline x.waits → Only b x o
      put_or_not b x None all waits = (inl all, waits)
      put_or_not b x (Some n) all waits = (all, waits)

      -- the request waits, and another is put before it
      before_it : (b : Attempt) (w : Waiting C) (ws : List (Waiting C)) → HasNoDeadline w → HasOneDeadline ws → AllByRecursion (λ (v : Awaited). v.instance ≡ None) b.awaits
          → AllByRecursion AwaitedHasDeadline (w ∷ ws) → (n : ℕ) (x : M) → Only b (begun_on w n x ws) (awaited_as way w.awaited n)
      before_it b w ws none one unput waits n x =
          subst (λ (t : Bool). Only b (begun_on w n x ws) (awaited_as way t n)) (sym (waits.0 none))
          (inr ((λ o e. let same : record { instance = n; deadline = w.deadline; request = Some x } ≡ o = cc in dated o w n x none same), one, unput), waits.1)

      next : (b : Attempt) (w : Waiting C) (ws : List (Waiting C)) → waits_at t c ≡ w ∷ ws → IsTheOnly (asking_at t c) b
          → Only b (record (asking_at t c) { waits = ws }) None × ((n : ℕ) (x : M) → IsNext way (asking_at t c).last w n x → Only b (begun_on w n x ws) (awaited_as way w.awaited n))
      next b w ws is (inl all) =
          let those : AllByRecursion HasNoDeadline (w ∷ ws) = subst (λ (vs : List (Waiting C)). AllByRecursion HasNoDeadline vs) is all in
          ((inl those.1, (waits_in w ws is).1), λ n x z. put_or_not b (begun_on w n x ws) (awaited_as way w.awaited n) those.1 (waits_in w ws is).1)
      next b w ws is (inr waits) = by (subst (λ (vs : List (Waiting C)). HasOneDeadline vs) is waits.1)
        where
          by : (HasNoDeadline w × HasOneDeadline ws) ⊎ AllByRecursion HasNoDeadline ws
              → Only b (record (asking_at t c) { waits = ws }) None × ((n : ℕ) (x : M) → IsNext way (asking_at t c).last w n x → Only b (begun_on w n x ws) (awaited_as way w.awaited n))
          by (inl more) = (
            (inr (waits.0, more.1, waits.2), (waits_in w ws is).1),
            λ n x z. before_it b w ws more.0 more.1 waits.2 (waits_in w ws is) n x,
          )
          by (inr all) = ((inl all, (waits_in w ws is).1), λ n x z. put_or_not b (begun_on w n x ws) (awaited_as way w.awaited n) all (waits_in w ws is).1)

      done : (b : Attempt) → preparation (terminal_of r ue).context ≡ Some b → AwaitsOnly (other gnb) b → (u : Transactions M C) (i : Option ℕ)
          → Becomes way t c (Only b) (record { transactions = u; awaited = i }) → ThereFits ue (after_begun way ue (other gnb) (with_transactions r u) i)
      done b is awaits u None z =
          asked_there gnb ue r mid z.asks z.fits.1 (subst (λ (p : Option Attempt). FitsThere (other gnb) z.asking p) (sym is) (z.fits.0, awaits))
      done b is awaits u (Some n) z =
          let put : Midway gnb ue (λ x d. AllByRecursion HasNoDeadline x.waits) (with_transactions r u) = asked_there gnb ue r mid z.asks z.fits.1 z.fits.0 in
          attempt_there gnb ue (with_transactions r u) put (λ a. begun a (other gnb) n)
          (subst (λ (p : Option Attempt). FitsThere (other gnb) (asking_at u (to_other gnb ue)) p)
          (sym (some_kept way gnb ue (λ a. begun a (other gnb) n) (λ a. refl) (terminal_of r ue).context b is))
          (inl put.here, only_begun (other gnb) (other gnb) n b.awaits awaits))

      by : (p : Option Attempt) → preparation (terminal_of r ue).context ≡ p → FitsThere (other gnb) (asking_at t c) p → Keeps (put_next way ue c r)
      by None is fits = calm is fits
      by (Some b) is fits =
          gives_then (λ a. Becomes way t c (Only b) a) Good (advance way t c) _
          (advance_becomes way t c (Only b) (fits.0, mid.unawaited ue) (λ w ws e. next b w ws e fits.0))
          (λ a z. over gnb ue _ (done b is fits.1 a.transactions a.awaited z))

  next_keeps : (ue : UeId) (from : NodeId) (r : Record) → ThereFits ue r → Keeps (put_next way ue (channel ue.0 from) r)
  next_keeps ue from r mid = by (same_node from (other gnb)) refl
    where
      by : (b : Bool) → same_node from (other gnb) ≡ b → Keeps (put_next way ue (channel ue.0 from) r)
      by true e = subst (λ (n : NodeId). Keeps (put_next way ue (channel ue.0 n) r)) (sym (node_told from (other gnb) e)) (next_there ue r mid)
      by false e = next_aside ue from e r mid

  -- ---- replies

  -- the reply closes its request
  closed_mid : {X Y : Asking M C → Option CuCpContext → Type 0} (ue : UeId) (from : NodeId) (r : Record) → Midway gnb ue X r
      → (same_node from (other gnb) ≡ false → X (asking_at r.transactions (to_other gnb ue)) (terminal_of r ue).context → Y (asking_at r.transactions (to_other gnb ue)) (terminal_of r ue).context)
      → (from ≡ other gnb → Y (record (asking_at r.transactions (to_other gnb ue)) { opened = None }) (terminal_of r ue).context)
      → Midway gnb ue Y (closed_at way (channel ue.0 from) r)
  unfolding waits_at
  closed_mid {X} {Y} ue from r mid aside there = by (same_node from (other gnb)) refl
    where
      by : (b : Bool) → same_node from (other gnb) ≡ b → Midway gnb ue Y (closed_at way (channel ue.0 from) r)
      by true e =
          subst (λ (n : NodeId). Midway gnb ue Y (closed_at way (channel ue.0 n) r)) (sym (node_told from (other gnb) e))
          (asked_there gnb ue r mid (closed_asks r.transactions (to_other gnb ue)) (mid.unawaited ue) (there (node_told from (other gnb) e)))
      by false e =
          let dates = mid.elsewhere ue from e in
          asked_aside gnb ue r (holds_as gnb ue r mid (aside e mid.here)) from e (closed_asks r.transactions (channel ue.0 from)) ((λ o is. absurd cc), dates.1)

  closed_fits : (p : Option Attempt) (x : Asking M C) → FitsThere (other gnb) x p → FitsThere (other gnb) (record x { opened = None }) p
  closed_fits None x dates = ((λ o is. absurd cc), dates.1)
  closed_fits (Some b) x (inl all, awaits) = (inl all, awaits)
  closed_fits (Some b) x (inr waits, awaits) = (inr ((λ o is. absurd cc), waits.1, waits.2), awaits)

  closed_keeps : (ue : UeId) (from : NodeId) (r : Record) → ThereFits ue r → ThereFits ue (closed_at way (channel ue.0 from) r)
  closed_keeps ue from r mid =
      closed_mid ue from r mid (λ e x. x) (λ e. closed_fits (preparation (terminal_of r ue).context) (asking_at r.transactions (to_other gnb ue)) mid.here)

  without_one : (Q : List (Waiting C) → Type 0) → ((w : Waiting C) (ws : List (Waiting C)) → Q (w ∷ ws) → Q ws) → (ws : List (Waiting C)) → Q ws → Q (without_release way ws)
  without_one Q less [] all = all
  without_one Q less (w ∷ ws) all = by (is_cu_up_release way w.message)
    where
      by : (b : Bool) → Q (if b then ws else w ∷ ws)
      by true = less w ws all
      by false = all

  fewer_fits : (p : Option Attempt) (x : Asking M C) → FitsThere (other gnb) x p → FitsThere (other gnb) (record x { waits = without_release way x.waits }) p
  fewer_fits None x dates = (dates.0, without_one (λ ws. AllByRecursion HasNoDeadline ws) (λ w ws all. all.1) x.waits dates.1)
  fewer_fits (Some b) x (inl all, awaits) = (inl (without_one (λ ws. AllByRecursion HasNoDeadline ws) (λ w ws q. q.1) x.waits all), awaits)
  fewer_fits (Some b) x (inr waits, awaits) = (inr (waits.0, without_one (λ ws. HasOneDeadline ws) one x.waits waits.1, waits.2), awaits)
    where
      all_one : (ws : List (Waiting C)) → AllByRecursion HasNoDeadline ws → HasOneDeadline ws
      all_one [] all = tt
      all_one (w ∷ ws) all = inl (all.0, all_one ws all.1)

      one : (w : Waiting C) (ws : List (Waiting C)) → HasOneDeadline (w ∷ ws) → HasOneDeadline ws
      one w ws (inl more) = more.1
      one w ws (inr all) = all_one ws all

  failed_keeps : (ue : UeId) (from : NodeId) (m : Message C) (r : Record) → ThereFits ue r
      → ThereFits ue (with_transactions r (after_failed_setup way m (channel ue.0 from) r.transactions))
  unfolding waits_at
  failed_keeps ue from m r mid = by (is_setup_failure way m)
    where
      t : Transactions M C
      t = r.transactions

      fewer : (to : NodeId) → Transactions M C
      fewer to = with_waiting t (channel ue.0 to) (without_release way (waits_at t (channel ue.0 to)))

      of : (b : Bool) → same_node from (other gnb) ≡ b → ThereFits ue (with_transactions r (fewer from))
      of true e =
          subst (λ (n : NodeId). ThereFits ue (with_transactions r (fewer n))) (sym (node_told from (other gnb) e))
          (asked_there gnb ue r mid (waiting_asks t (to_other gnb ue) (without_release way (waits_at t (to_other gnb ue))))
          (without_one (λ ws. AllByRecursion AwaitedHasDeadline ws) (λ w ws all. all.1) (waits_at t (to_other gnb ue)) (mid.unawaited ue))
          (fewer_fits (preparation (terminal_of r ue).context) (asking_at t (to_other gnb ue)) mid.here))
      of false e =
          let dates = mid.elsewhere ue from e in
          asked_aside gnb ue r mid from e (waiting_asks t (channel ue.0 from) (without_release way (waits_at t (channel ue.0 from))))
          (dates.0, without_one (λ ws. AllByRecursion HasNoDeadline ws) (λ w ws all. all.1) (waits_at t (channel ue.0 from)) dates.1)

      by : (b : Bool) → ThereFits ue (with_transactions r (if b then fewer from else t))
      by true = of (same_node from (other gnb)) refl
      by false = holds_as gnb ue r mid mid.here

  -- an answer that the attempt awaits is that to the only request, so nothing there has a deadline any more
  abbrev Undated-there : Asking M C → Option CuCpContext → Type 0
  Undated-there x c = IsUndated x

  awaited_closes : (ue : UeId) (from : NodeId) (i : ℕ) (r : Record) (c : CuCpContext) (a : Attempt) → (terminal_of r ue).context ≡ Some c → c.attempt ≡ Some a
      → awaits_answer a from i ≡ true → ThereFits ue r → Midway gnb ue Undated-there (closed_at way (channel ue.0 from) r)
  awaited_closes ue from i r c a is e waits mid = by (prepared_in c.state a.kind a) refl
    where
      x : Asking M C
      x = asking_at r.transactions (to_other gnb ue)

      its : preparation (terminal_of r ue).context ≡ prepared_in c.state a.kind a
      its = ap preparation is ∙ ap (λ (o : Option Attempt). prepared_of c.state o) e

      own : (s : StateName) (k : AttemptKind) (b : Attempt) → prepared_in s k a ≡ Some b → a ≡ b
      own states.Preparing kinds.BetweenGnbs b g = cc
      own s k b g = absurd cc

      only_waits : (b : Attempt) → a ≡ b → from ≡ other gnb → IsTheOnly x b → AllByRecursion HasNoDeadline x.waits
      only_waits b same here (inl all) = all
      only_waits b same here (inr unput) =
          absurd (nothing_awaited from i a.awaits (subst (λ (y : Attempt). AllByRecursion (λ (w : Awaited). w.instance ≡ None) y.awaits) (sym same) unput.2) waits)

      by : (p : Option Attempt) → prepared_in c.state a.kind a ≡ p → Midway gnb ue Undated-there (closed_at way (channel ue.0 from) r)
      by None none =
          let dates : IsUndated x = subst (λ (p : Option Attempt). FitsThere (other gnb) x p) (its ∙ none) mid.here in
          closed_mid ue from r mid (λ f h. dates) (λ f. ((λ o g. absurd cc), dates.1))
      by (Some b) some =
          let fits : FitsThere (other gnb) x (Some b) = subst (λ (p : Option Attempt). FitsThere (other gnb) x p) (its ∙ some) mid.here in
          let same : a ≡ b = own c.state a.kind b some in
          let here : from ≡ other gnb =
          awaited_from (other gnb) from i a.awaits (subst (λ (y : Attempt). AwaitsOnly (other gnb) y) (sym same) fits.1) waits in
          closed_mid ue from r mid
          (λ f h. absurd (true≢false (sym (node_same (other gnb)) ∙ ap (λ (n : NodeId). same_node n (other gnb)) (sym here) ∙ f)))
          (λ f. ((λ o g. absurd cc), only_waits b same here fits.0))

  abbrev AnswersKeep : UeId → Record → Record → Answered way → Type 0
  AnswersKeep ue r shut answers_none = Unit {0}
  AnswersKeep ue r shut (answers_with o) = AnswersIf way (at_of r ue) o × Midway gnb ue Undated-there shut

  answer_keeps : (ue : UeId) (from : NodeId) (i : ℕ) (m : Message C) (r : Record) → ThereFits ue r
      → AnswersKeep ue r (closed_at way (channel ue.0 from) r) (answer way (at_of r ue) from i m (terminal_of r ue))
  unfolding answer
  answer_keeps ue from i m r mid = by (terminal_of r ue).context refl
    where
      t : CuCpTerminal
      t = terminal_of r ue

      awaits_only : (c : CuCpContext) (a : Attempt) → t.context ≡ Some c → c.attempt ≡ Some a → (b : Attempt)
          → prepared_in c.state (answered a from).kind (answered a from) ≡ Some b → AwaitsOnly (CuCp (other_gnb r.gnb)) b
      awaits_only c a is e b some = subst (λ (g : Gnb). AwaitsOnly (CuCp (other_gnb g)) b) (sym mid.own) (of c.state a.kind refl refl some)
        where
          of : (s : StateName) (k : AttemptKind) → c.state ≡ s → a.kind ≡ k → prepared_in s k (answered a from) ≡ Some b → AwaitsOnly (other gnb) b
          of states.Preparing kinds.BetweenGnbs es ek some =
              let same : answered a from ≡ b = cc in
              let its : preparation t.context ≡ Some a =
              ap preparation is ∙ ap (λ (o : Option Attempt). prepared_of c.state o) e ∙ (λ j. prepared_in (es j) (ek j) a) in
              let fits : FitsThere (other gnb) (asking_at r.transactions (to_other gnb ue)) (Some a) =
              subst (λ (p : Option Attempt). FitsThere (other gnb) (asking_at r.transactions (to_other gnb ue)) p) its mid.here in
              subst (λ (y : Attempt). AwaitsOnly (other gnb) y) same (all_answered (λ (w : Awaited). w.from ≡ other gnb) from a.awaits fits.1)
          of s k es ek some = absurd cc

      chosen : (c : CuCpContext) (a : Attempt) → t.context ≡ Some c → c.attempt ≡ Some a → (b : Bool) → awaits_answer a from i ≡ b
          → AnswersKeep ue r (closed_at way (channel ue.0 from) r) (if b then answers_with (in_state way (at_of r ue) m t c c.state (answered a from)) else answers_none)
      chosen c a is e true waits = (
        state_keeps way (at_of r ue) t c (answered a from) (awaits_only c a is e) m c.state refl,
        awaited_closes ue from i r c a is e waits mid,
      )
      chosen c a is e false waits = tt

      of : (c : CuCpContext) → t.context ≡ Some c → (o : Option Attempt) → c.attempt ≡ o
          → AnswersKeep ue r (closed_at way (channel ue.0 from) r) (answer_of way (at_of r ue) from i m t c o)
      of c is None e = tt
      of c is (Some a) e = chosen c a is e (awaits_answer a from i) refl

      by : (o : Option CuCpContext) → t.context ≡ o → AnswersKeep ue r (closed_at way (channel ue.0 from) r) (answer_on way (at_of r ue) from i m t o)
      by None is = tt
      by (Some c) is = of c is c.attempt refl

  reply_keeps : (ue : UeId) (from : NodeId) (i : ℕ) (m : Message C) (r : Record) → Good r → Keeps (reply_received way ue (channel ue.0 from) i m r)
  unfolding reply_received
  reply_keeps ue from i m r h = by (answer way (at_of r ue) from i m (terminal_of r ue)) (answer_keeps ue from i m r mid)
    where
      mid : ThereFits ue r
      mid = midway gnb ue r h

      shut : Record
      shut = closed_at way (channel ue.0 from) r

      by : (a : Answered way) → AnswersKeep ue r shut a → Keeps (answered_by way ue (channel ue.0 from) m r a)
      by answers_none keeps =
          next_keeps ue from (with_transactions shut (after_failed_setup way m (channel ue.0 from) shut.transactions))
          (failed_keeps ue from m shut (closed_keeps ue from r mid))
      by (answers_with None) keeps = h
      by (answers_with (Some what)) keeps =
          keeps_then (carry_out way ue shut what) (put_next way ue (channel ue.0 from))
          (answered_row way gnb ue shut what (subst (λ (g : Gnb). AnswerKeeps way g ue what) h.1 keeps.0) keeps.1)
          (λ q k. next_keeps ue from q (midway gnb ue q k))

  -- ---- requests and transfers

  replies_same : (r : Record) (u : Transactions M C) → u.caller ≡ r.transactions.caller → u.waiting ≡ r.transactions.waiting → Good r → Good (with_transactions r u)
  unfolding waits_at opened_at
  replies_same r u caller waiting h =
      let ue : UeId = record { 0 = 0 } in
      over gnb ue (with_transactions r u)
      (asked_nothing gnb ue r (midway gnb ue r h) u
      (λ c i. record { last = at channel_cmp 0 (caller i).last c; opened = find channel_cmp (caller i).opened c; waits = at channel_cmp [] (waiting i) c })
      (subst (λ (k : _). IsSorted channel_cmp k.opened) (sym caller) h.0.sorted))

  set_up_keeps : (from : NodeId) (m : Message C) (r : Record) → Good r → Keeps (set_up way from m r)
  unfolding replied
  set_up_keeps from m r h = units_same (replies_same r (record r.transactions { callee = _ }) refl refl h)
    where
      units_same : {q : Record} → Good q → Good (with_unit way from q)
      units_same h = (record { elsewhere = h.0.elsewhere; there = h.0.there; unawaited = h.0.unawaited; sorted = h.0.sorted }, h.1)

  asked_keeps : (from : NodeId) (m : Message C) (r : Record) → Good r → Keeps (asked way from m r)
  asked_keeps from (f1 (f1s.F1SetupRequest instance name)) r h = set_up_keeps from (f1 (f1s.F1SetupResponse instance)) r h
  asked_keeps from (e1 (e1s.E1SetupRequest instance name)) r h = set_up_keeps from (e1 (e1s.E1SetupResponse instance)) r h
  asked_keeps from (xn (xns.HandoverRequest ue instance epoch bearers sn quota peer du origin)) r h =
      row_keeps ue r _ (offer_keeps way (at_of r ue) from instance _ refl (terminal_of r ue)) h
  asked_keeps from (xn (xns.SnStatusTransfer ue instance ss)) r h = row_keeps ue r _ (status_keeps way (at_of r ue) from instance ss (terminal_of r ue)) h
  asked_keeps from (xn (xns.HandoverCancel ue instance)) r h = row_keeps ue r _ (cancelled_keeps way (at_of r ue) from instance (terminal_of r ue)) h
  asked_keeps from (xn (xns.UeContextRelease ue instance)) r h = row_keeps ue r _ (released_keeps way (at_of r ue) from instance (terminal_of r ue)) h
  asked_keeps from m r h = h

  transferred_keeps : (from : NodeId) (m : Message C) (r : Record) → Good r → Keeps (transferred way from m r)
  unfolding token_received
  transferred_keeps from (f1 (f1s.UlRrcMessageTransfer ue container)) r h =
      row_keeps ue r _ (container_keeps way (at_of r ue) from (terminal_of r ue) (terminal_of r ue).context (way.unwrap container)) h
  transferred_keeps from m r h = h

  by_kind_keeps : (from : NodeId) (m : Message C) (r : Record) (k : Kind) → Good r → Keeps (control_by way from m r k)
  unfolding on_request on_reply
  by_kind_keeps from m r (request ue i) h = by (verdict r.transactions.callee (channel ue from) i)
    where
      again_keeps : (o : Option M) → Keeps (answered_again way r (channel ue from) o)
      again_keeps None = h
      again_keeps (Some kept) = h

      by : (v : Verdict) → Keeps (request_by way r r.transactions (channel ue from) i (λ t. asked way from m (with_transactions r t)) v)
      by new = asked_keeps from m (with_transactions r (record r.transactions { callee = taken r.transactions.callee (channel ue from) i }))
          (replies_same r (record r.transactions { callee = taken r.transactions.callee (channel ue from) i }) refl refl h)
      by again = again_keeps (kept_reply r.transactions.callee (channel ue from))
      by stale = h
  by_kind_keeps from m r (reply ue i) h = by (is_awaited r.transactions.caller (channel ue from) i)
    where
      by : (b : Bool) → Keeps (if b then reply_received way (record { 0 = ue }) (channel ue from) i m r else drops Stale r)
      by true = reply_keeps (record { 0 = ue }) from i m r h
      by false = h
  by_kind_keeps from m r (transfer ue) h = transferred_keeps from m r h

  control_keeps : (from : NodeId) (m : Message C) (r : Record) → Good r → Keeps (control_received way from m r)
  unfolding control_received
  control_keeps from m r h = by (shares_interface (CuCp r.gnb) from)
    where
      by : (b : Bool) → Keeps (if b then control_by way from m r (kind_of m) else drops Unexpected r)
      by true = by_kind_keeps from m r (kind_of m) h
      by false = h

  -- ---- a tick

  aged_undated : (o : Option (Opened M)) → ((x : Opened M) → o ≡ Some x → x.deadline ≡ None) → (q : Opened M) → aged_in o ≡ Some q → q.deadline ≡ None
  aged_undated None none q e = absurd cc
  aged_undated (Some o) none q e = by (is_last o.deadline) e
    where
      by : (last : Bool) → (if last then None else Some (record o { deadline = one_less o.deadline })) ≡ Some q → q.deadline ≡ None
      by true e = absurd cc
      by false e = let same : record o { deadline = one_less o.deadline } ≡ q = cc in ap (λ (x : Opened M). x.deadline) (sym same) ∙ ap one_less (none o refl)

  ticked_keeps : (r : Record) → Good r → Good (with_transactions r (record r.transactions { caller = after_tick r.transactions.caller }))
  unfolding waits_at
  ticked_keeps r h = (
    record {
      elsewhere = λ v p e. dates (channel v.0 p) (h.0.elsewhere v p e);
      there = λ v. by (channel v.0 (CuCp (other_gnb r.gnb))) (preparation (terminal_of r v).context) (h.0.there v);
      unawaited = h.0.unawaited;
      sorted = sorted_after_tick r.transactions.caller h.0.sorted;
    },
    h.1,
  )
    where
      aged : Transactions M C
      aged = record r.transactions { caller = after_tick r.transactions.caller }

      open_is : (c : Channel) → OpenIsUndated (asking_at r.transactions c) → OpenIsUndated (asking_at aged c)
      open_is c none q e = aged_undated (opened_at r.transactions.caller c) none q (sym (opened_after_tick r.transactions.caller c h.0.sorted) ∙ e)

      dates : (c : Channel) → IsUndated (asking_at r.transactions c) → IsUndated (asking_at aged c)
      dates c all = (open_is c all.0, all.1)

      by : (c : Channel) (p : Option Attempt) → FitsThere (CuCp (other_gnb r.gnb)) (asking_at r.transactions c) p → FitsThere (CuCp (other_gnb r.gnb)) (asking_at aged c) p
      by c None all = dates c all
      by c (Some b) (inl all, awaits) = (inl all, awaits)
      by c (Some b) (inr waits, awaits) = (inr (open_is c waits.0, waits.1, waits.2), awaits)

  due_keeps : (r : Record) (d : Due M) → Good r → Keeps (due_one way r d)
  due_keeps r (repeats c m) h = h
  due_keeps r (expires c) h = row_keeps (record { 0 = c.ue }) r _ (by (terminal_of r (record { 0 = c.ue })).context) h
    where
      by : (o : Option CuCpContext) → RowKeeps way r.gnb (record { 0 = c.ue }) (terminal_of r (record { 0 = c.ue })) (expired_on way (at_of r (record { 0 = c.ue })) (terminal_of r (record { 0 = c.ue })) o)
      by None = leaves_it _ (terminal_of r (record { 0 = c.ue })) refl tt
      by (Some x) = expires_keeps way (at_of r (record { 0 = c.ue })) (terminal_of r (record { 0 = c.ue })) x

  dues_keep : (ds : List (Due M)) (r : Record) → Good r → Keeps (due_each way ds r)
  dues_keep [] r h = h
  dues_keep (d ∷ ds) r h = keeps_then (due_one way r d) (due_each way ds) (due_keeps r d h) (λ q k. dues_keep ds q k)

  commanded_keeps : (r : Record) (ue : UeId) → RowKeeps way r.gnb ue (terminal_of r ue) (command_on way (at_of r ue) (terminal_of r ue) (terminal_of r ue).context)
  commanded_keeps r ue = by (terminal_of r ue).context refl
    where
      t : CuCpTerminal
      t = terminal_of r ue

      of : (c : CuCpContext) → t.context ≡ Some c → (s : StateName) → c.state ≡ s → (o : Option Attempt) → RowKeeps way r.gnb ue t (command_by way (at_of r ue) t c s o)
      of c is states.Frozen e (Some a) = command_keeps way (at_of r ue) t c a (none_in way (at_of r ue) t c is (ap is_preparing e))
      of c is states.Commanded e (Some a) = command_keeps way (at_of r ue) t c a (none_in way (at_of r ue) t c is (ap is_preparing e))
      of c is s e o = leaves_it _ t refl tt

      by : (o : Option CuCpContext) → t.context ≡ o → RowKeeps way r.gnb ue t (command_on way (at_of r ue) t o)
      by None is = leaves_it _ t refl tt
      by (Some c) is = of c is c.state refl c.attempt

  commands_keep : (ues : List UeId) (r : Record) → Good r → Keeps (command_each way ues r)
  commands_keep [] r h = h
  commands_keep (ue ∷ ues) r h =
      keeps_then (carry_out way ue r (command_on way (at_of r ue) (terminal_of r ue) (terminal_of r ue).context)) (command_each way ues)
      (row_keeps ue r _ (commanded_keeps r ue) h) (λ q k. commands_keep ues q k)

  tick_keeps : (r : Record) → Good r → Keeps (tick way r)
  unfolding tick
  tick_keeps r h =
      keeps_then (due_each way (due r.transactions.caller) (with_transactions r (record r.transactions { caller = after_tick r.transactions.caller })))
      (λ s. command_each way (ues_of way s) s)
      (dues_keep (due r.transactions.caller) _ (ticked_keeps r h)) (λ q k. commands_keep (ues_of way q) q k)

  -- ---- the table

  ordered_keeps : (order : Order) (r : Record) → Good r → Keeps (ordered way order r)
  ordered_keeps (orders.Attach plan) r h = row_keeps plan.ue r _ (attach_keeps way (at_of r plan.ue) plan (terminal_of r plan.ue)) h
  ordered_keeps (orders.Handover plan) r h = row_keeps plan.ue r _ (handover_keeps way (at_of r plan.ue) plan (terminal_of r plan.ue)) h
  ordered_keeps (orders.Cancel ue) r h = row_keeps ue r _ (cancel_keeps way (at_of r ue) (terminal_of r ue)) h
  ordered_keeps (orders.Release ue) r h = row_keeps ue r _ (release_keeps way (at_of r ue) (terminal_of r ue)) h
  ordered_keeps order r h = h

  pub cu_cp_keeps : (r : Record) (input : Input C P) → Good r → Keeps (cu_cp_acts way r input)
  unfolding cu_cp_acts
  cu_cp_keeps r (control_input from m) h = control_keeps from m r h
  cu_cp_keeps r tick_input h = tick_keeps r h
  cu_cp_keeps r (order_input order) h = ordered_keeps order r h
  cu_cp_keeps r input h = h

-- ---- at first; and what expires

pub first_fits : {M C : Type 0} (gnb : Gnb) → DeadlinesFit {M = M} {C = C} (new_cu_cp gnb)
unfolding opened_at waits_at at find IsStrictlySortedBy
first_fits gnb = record { elsewhere = λ v p e. ((λ o is. absurd cc), tt); there = λ v. ((λ o is. absurd cc), tt); unawaited = λ v. tt; sorted = tt }

pub can_cancel : {M C : Type 0} (r : CuCpRecord M C) → DeadlinesFit r → Cancels r
can_cancel {M} {C} r h c o is last = by (same_node c.peer (CuCp (other_gnb r.gnb))) refl
  where
    dated : o.deadline ≡ None → ⊥
    dated none = true≢false (sym last ∙ ap is_last none)

    there : c.peer ≡ CuCp (other_gnb r.gnb) → (p : Option CuCpContext) → (terminal_of r (record { 0 = c.ue })).context ≡ p → (x : CuCpContext) × ((terminal_of r (record { 0 = c.ue })).context ≡ Some x)
    there peer None e =
        absurd (dated ((subst (λ (p : Option CuCpContext). FitsThere (CuCp (other_gnb r.gnb)) (asking_at r.transactions (channel c.ue (CuCp (other_gnb r.gnb)))) (preparation p)) e
        (h.there (record { 0 = c.ue }))).0 o (subst (λ (n : NodeId). opened_at r.transactions.caller (channel c.ue n) ≡ Some o) peer is)))
    there peer (Some x) e = (x, e)

    by : (b : Bool) → same_node c.peer (CuCp (other_gnb r.gnb)) ≡ b
        → (c.peer ≡ CuCp (other_gnb r.gnb)) × (x : CuCpContext) × ((terminal_of r (record { 0 = c.ue })).context ≡ Some x)
    by true e = let peer : c.peer ≡ CuCp (other_gnb r.gnb) = node_told c.peer (CuCp (other_gnb r.gnb)) e in
        let has = there peer (terminal_of r (record { 0 = c.ue })).context refl in (peer, has.0, has.1)
    by false e = absurd (dated ((h.elsewhere (record { 0 = c.ue }) c.peer e).0 o is))
