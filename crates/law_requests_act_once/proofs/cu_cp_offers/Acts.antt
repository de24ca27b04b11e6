-- A CU-CP leaves the open requests of offers as they are, on whatever it is given.
use Rattle.std.proofs.Common.{inl, inr, ◌≡◌, ◌⊎◌, ℕ, Bool, true, false, List, [], ◌∷◌, Option, Some, None, refl, sym, ap, ◌∙◌, subst}
use Rattle.std.specs.Prelude.{if◌then◌else◌}
use Rattle.gnb_types.specs.declared.names.Gnb.{Gnb}
use Rattle.gnb_types.specs.declared.names.NodeId.{NodeId}
use Rattle.gnb_types.specs.declared.names.NodeId.TheVariants.{CuCp}
use Rattle.gnb_types.specs.declared.names.UeId.{UeId}
use Rattle.gnb_types.specs.declared.keys.Channel.{Channel}
use Rattle.gnb_types.specs.declared.inputs.Order.{Order}
use Rattle.gnb_types.specs.declared.inputs.Order.TheVariants as orders
use Rattle.gnb_types.specs.declared.reasons.DropReason.TheVariants.{Unexpected, Stale}
use Rattle.gnb_types.proofs.OrderLemmas.{channel_total}
use Rattle.tables.proofs.TableLaws.{find-put-same, find-put-other}
use Rattle.message_types.specs.declared.f1.F1.TheVariants as f1s
use Rattle.message_types.specs.declared.e1.E1Message.TheVariants as e1s
use Rattle.message_types.specs.declared.xn.XnMessage.TheVariants as xns
use Rattle.transaction_defs.specs.Callers.{is_awaited, due, Due, repeats, expires, after_tick}
use Rattle.transaction_defs.specs.Callees.{Kept, Callee, kept_at, Verdict, new, again, stale, verdict, taken, keep, kept_reply}
use Rattle.unit_defs.specs.declared.StateName.{StateName}
use Rattle.unit_defs.specs.declared.StateName.TheVariants as states
use Rattle.unit_defs.specs.Ways.{Message, f1, e1, xn, Input, control_input, tick_input, order_input, Way, Answer, gives, spent, ◌then◌, nothing, drops}
use Rattle.unit_defs.specs.Messages.{channel, shares_interface, other_gnb}
use Rattle.unit_defs.specs.Transactions.{Kind, request, reply, transfer, kind_of, Transactions, waits_at, with_waiting, advance, replied, answered_again, request_by, on_request, on_reply}
use Rattle.unit_defs.specs.CuCpRecords.{Attempt, CuCpContext, CuCpTerminal, CuCpRecord, terminal_of, with_transactions, after_asked, Row, carry_out}
use Rattle.unit_defs.specs.CuCpRows.{offer_context, offer, status, xn_cancelled, xn_released}
use Rattle.unit_defs.specs.CuCp.{at_of, Answered, answers_none, answers_with, answer, without_release, after_failed_setup, is_setup_failure, put_next, closed_at, answered_by, reply_received, with_unit, by_row, set_up, asked, token_received, transferred, control_by, control_received, expired_on, due_one, due_each, command_by, command_on, command_each, ues_of, tick, ordered, cu_cp_acts}
use Rattle.law_requests_act_once.specs.channel.Replies.{overtakes}
use Rattle.law_requests_act_once.specs.channel.Ends.{same_node, same_channel}
use Rattle.law_requests_act_once.specs.channel.Exactly.{IfGives}
use Rattle.law_requests_act_once.proofs.channel.Keys.{node_told}
use Rattle.law_requests_act_once.proofs.channel.Projections.{waiting_asks}
use Rattle.law_requests_act_once.proofs.cu_cp_deadlines.Changes.{gives_then, Becomes, advance_becomes}
use Rattle.law_requests_act_once.proofs.cu_cp_deadlines.Midway.{ues_apart}
use Rattle.law_requests_act_once.specs.cu_cp_offers.Offers.{offer_of, IsOpenIn, OffersStand, ComesFit, InputFits}
use Rattle.law_requests_act_once.proofs.cu_cp_offers.Carried.{kept_apart, Stands, Good, none_stands, asked_holds, told_holds, RowFits, leaves, OthersStand, carried}
use Rattle.law_requests_act_once.proofs.cu_cp_offers.Rows.{attach_fits, handover_fits, cancel_fits, release_fits, expires_fits, command_fits, offer_fits, status_fits, cancelled_fits, released_fits}
use Rattle.law_requests_act_once.proofs.cu_cp_offers.Answers.{AnswerFits, answer_fits, container_fits}

module _ {M C P : Type 0} (way : Way M C P) (gnb : Gnb) (was_asked : UeId → ℕ → Type 0) where
  abbrev Record : Type 0
  Record = CuCpRecord M C

  abbrev Whole : Record → Type 0
  Whole r = Good way gnb was_asked r

  abbrev Keeps : Answer M P Record → Type 0
  Keeps a = IfGives Whole a

  abbrev peer : NodeId
  peer = CuCp (other_gnb gnb)

  keeps_then : (a : Answer M P Record) (f : Record → Answer M P Record) → Keeps a → ((r : Record) → Whole r → Keeps (f r)) → Keeps (a then f)
  keeps_then a f p q = gives_then Whole Whole a f p q

  -- a row is made for the gNB of the record, from what stands for its terminal
  abbrev Before : Record → UeId → Type 0
  Before r ue = Stands way r.gnb was_asked r.transactions.callee ue (offer_of (terminal_of r ue).context)

  before : (r : Record) (ue : UeId) → Whole r → Before r ue
  before r ue h = subst (λ (g : Gnb). Stands way g was_asked r.transactions.callee ue (offer_of (terminal_of r ue).context)) (sym h.1) (h.0 ue)

  others_of : (r : Record) (ue : UeId) → Whole r → OthersStand way gnb was_asked ue r
  others_of r ue h = ((λ v e. h.0 v), h.1)

  made : (ue : UeId) (r s : Record) (what : Row C) → r.gnb ≡ gnb → RowFits way r.gnb was_asked ue s.transactions.callee what → OthersStand way gnb was_asked ue s
      → Keeps (carry_out way ue s what)
  made ue r s what own fits others =
      carried way gnb was_asked ue s what (subst (λ (g : Gnb). RowFits way g was_asked ue s.transactions.callee what) own fits) others

  row_keeps : (ue : UeId) (r : Record) (what : Row C) → (Before r ue → RowFits way r.gnb was_asked ue r.transactions.callee what) → Whole r → Keeps (carry_out way ue r what)
  row_keeps ue r what fits h = made ue r r what h.1 (fits (before r ue h)) (others_of r ue h)

  -- ---- replies

  next_keeps : (ue : UeId) (ch : Channel) (r : Record) → Whole r → Keeps (put_next way ue ch r)
  next_keeps ue ch r h =
      gives_then (λ a. Becomes way r.transactions ch (λ x i. Unit {0}) a) Whole (advance way r.transactions ch) (λ a. nothing (after_asked way ue ch.peer r a))
      (advance_becomes way r.transactions ch (λ x i. Unit {0}) tt (λ w ws is. (tt, λ n x z. tt)))
      (λ a z. (asked_holds way gnb was_asked ue (offer_of (terminal_of r ue).context) r ch.peer a z.asks.callee (h, refl)).0)

  failed_same : (m : Message C) (ch : Channel) (t : Transactions M C) → (after_failed_setup way m ch t).callee ≡ t.callee
  failed_same m ch t = by (is_setup_failure way m)
    where
      by : (b : Bool) → (if b then with_waiting t ch (without_release way (waits_at t ch)) else t).callee ≡ t.callee
      by true = (waiting_asks t ch (without_release way (waits_at t ch))).callee
      by false = refl

  reply_keeps : (ue : UeId) (ch : Channel) (i : ℕ) (m : Message C) (r : Record) → Whole r → Keeps (reply_received way ue ch i m r)
  unfolding reply_received
  reply_keeps ue ch i m r h = by (answer way (at_of r ue) ch.peer i m (terminal_of r ue)) fits
    where
      fits : AnswerFits way was_asked (at_of r ue) r.transactions.callee (terminal_of r ue) (answer way (at_of r ue) ch.peer i m (terminal_of r ue))
      fits = answer_fits way was_asked (at_of r ue) r.transactions.callee (terminal_of r ue) ch.peer i m (before r ue h)

      shut : Record
      shut = closed_at way ch r

      failed : Whole (with_transactions shut (after_failed_setup way m ch shut.transactions))
      failed = (
        λ v. subst (λ (e : Callee M). Stands way gnb was_asked e v (offer_of (terminal_of r v).context)) (sym (failed_same m ch shut.transactions)) (h.0 v),
        h.1,
      )

      by : (a : Answered way) → AnswerFits way was_asked (at_of r ue) r.transactions.callee (terminal_of r ue) a → Keeps (answered_by way ue ch m r a)
      by answers_none f = next_keeps ue ch (with_transactions shut (after_failed_setup way m ch shut.transactions)) failed
      by (answers_with None) f = h
      by (answers_with (Some what)) f =
          keeps_then (carry_out way ue shut what) (put_next way ue ch) (made ue r shut what h.1 f (others_of r ue h)) (λ q k. next_keeps ue ch q k)

  -- ---- requests

  module _ (r : Record) (h : Whole r) (from : NodeId) (owner : UeId) (i : ℕ) where
    abbrev ch : Channel
    ch = channel owner.0 from

    abbrev now : Record
    now = with_transactions r (record r.transactions { callee = taken r.transactions.callee ch i })

    abbrev offered : Option ℕ
    offered = offer_of (terminal_of r owner).context

    -- no offer is touched
    abbrev Untouched : Type 0
    Untouched = (offered ≡ None) ⊎ (same_node from peer ≡ false)

    apart : (k : Channel) → same_channel k ch ≡ false → kept_at now.transactions.callee k ≡ kept_at r.transactions.callee k
    unfolding taken kept_at
    apart k other = find-put-other channel_total r.transactions.callee ch (record { instance = i; reply = None }) k other

    here : kept_at now.transactions.callee ch ≡ Some (record { instance = i; reply = None })
    unfolding taken kept_at
    here = find-put-same channel_total r.transactions.callee ch (record { instance = i; reply = None })

    good : Untouched → Whole now
    good free = (told_holds way gnb was_asked owner offered r now.transactions from free apart (h, refl)).0

    others : OthersStand way gnb was_asked owner now
    others = (
      λ v e. λ k is. let was = h.0 v k is in
          (subst (λ (o : Option (Kept M)). IsOpenIn o k) (sym (apart (channel v.0 peer) (ues_apart v owner peer from e))) was.0, was.1),
      h.1,
    )

    cases : (m : Message C) → ComesFit was_asked r from m owner i → Untouched ⊎ (overtakes m ≡ true)
    cases m fits = by (same_node from peer) refl offered refl
      where
        by : (b : Bool) → same_node from peer ≡ b → (o : Option ℕ) → offered ≡ o → Untouched ⊎ (overtakes m ≡ true)
        by false e o f = inl (inr e)
        by true e None f = inl (inl f)
        by true e (Some j) f = inr (fits.only_cancels (node_told from peer e ∙ ap (λ (g : Gnb). CuCp (other_gnb g)) (sym h.1)) j f)

    abbrev Fits : Row C → Type 0
    Fits what = RowFits way r.gnb was_asked owner now.transactions.callee what

    row_now : (what : Row C) → Fits what → Keeps (carry_out way owner now what)
    row_now what fits = made owner r now what h.1 fits others

    -- the terminal of the message is its owner
    ue_is : (x : UeId) → x.0 ≡ owner.0 → x ≡ owner
    ue_is x same = ap (λ (n : ℕ). record { 0 = n }) same

    set_up_keeps : (instance : ℕ) → 0 ≡ owner.0 → (answer : Message C) → Untouched → Keeps (set_up way from answer now)
    unfolding replied
    set_up_keeps instance own answer free =
        subst (λ (u : ℕ). Keeps (replied way now.transactions (channel u from) answer then (λ t. nothing (with_transactions (with_unit way from now) t)))) (sym own) done
      where
        done : Keeps (replied way now.transactions ch answer then (λ t. nothing (with_transactions (with_unit way from now) t)))
        done =
            let told = (told_holds way gnb was_asked owner offered now (record now.transactions { callee = keep now.transactions.callee ch (way.encode answer) }) from free
            (λ k other. kept_apart now.transactions.callee ch k (way.encode answer) other) (good free, refl)).0 in
            (told.0, told.1)

    asked_keeps : (m : Message C) → ComesFit was_asked r from m owner i → kind_of m ≡ request owner.0 i → Keeps (asked way from m now)
    unfolding kind_of
    asked_keeps (f1 (f1s.F1SetupRequest instance name)) fits is =
        let own : 0 ≡ owner.0 = cc in by own (cases (f1 (f1s.F1SetupRequest instance name)) fits)
      where
        by : 0 ≡ owner.0 → Untouched ⊎ (false ≡ true) → Keeps (set_up way from (f1 (f1s.F1SetupResponse instance)) now)
        by own (inl free) = set_up_keeps instance own (f1 (f1s.F1SetupResponse instance)) free
        by own (inr wrong) = absurd cc
    asked_keeps (e1 (e1s.E1SetupRequest instance name)) fits is =
        let own : 0 ≡ owner.0 = cc in by own (cases (e1 (e1s.E1SetupRequest instance name)) fits)
      where
        by : 0 ≡ owner.0 → Untouched ⊎ (false ≡ true) → Keeps (set_up way from (e1 (e1s.E1SetupResponse instance)) now)
        by own (inl free) = set_up_keeps instance own (e1 (e1s.E1SetupResponse instance)) free
        by own (inr wrong) = absurd cc
    asked_keeps (xn (xns.HandoverRequest x instance epoch bearers sn quota place du origin)) fits is =
        let own : x.0 ≡ owner.0 = cc in
        let same : instance ≡ i = cc in
        let whose = fits.of_other refl in
        subst (λ (z : UeId). Keeps (by_row way z (offer way (at_of now z) from instance (offer_context way place.up du instance bearers sn quota epoch) (terminal_of now z)) now))
        (sym (ue_is x own)) (row_now _ (offer_fits way was_asked (at_of r owner) now.transactions.callee (terminal_of r owner)
        (none_stands way r.gnb was_asked now.transactions.callee owner offered (none offered refl)) from instance
        (offer_context way place.up du instance bearers sn quota epoch) (none offered refl) (new_stands same whose.0 whose.1)))
      where
        none : (o : Option ℕ) → offered ≡ o → offered ≡ None
        none None e = e
        none (Some j) e = let wrong : false ≡ true = fits.only_cancels (fits.of_other refl).0 j e in absurd cc

        new_stands : instance ≡ i → from ≡ CuCp (other_gnb r.gnb) → was_asked owner i → Stands way r.gnb was_asked now.transactions.callee owner (Some instance)
        new_stands same peer_is asked_for k e =
            let k_is : instance ≡ k = cc in
            let is_i : i ≡ k = sym same ∙ k_is in (
              subst (λ (n : ℕ). IsOpenIn (kept_at now.transactions.callee (channel owner.0 (CuCp (other_gnb r.gnb)))) n) is_i
                  (subst (λ (p : NodeId). IsOpenIn (kept_at now.transactions.callee (channel owner.0 p)) i) peer_is
                  (subst (λ (o : Option (Kept M)). IsOpenIn o i) (sym here) (refl, refl))),
              subst (λ (n : ℕ). was_asked owner n) is_i asked_for,
            )
    asked_keeps (xn (xns.SnStatusTransfer x instance ss)) fits is =
        let own : x.0 ≡ owner.0 = cc in by own (cases (xn (xns.SnStatusTransfer x instance ss)) fits)
      where
        by : x.0 ≡ owner.0 → Untouched ⊎ (false ≡ true) → Keeps (by_row way x (status way (at_of now x) from instance ss (terminal_of now x)) now)
        by own (inr wrong) = absurd cc
        by own (inl free) =
            subst (λ (z : UeId). Keeps (by_row way z (status way (at_of now z) from instance ss (terminal_of now z)) now)) (sym (ue_is x own))
            (row_now _ (status_fits way was_asked (at_of r owner) now.transactions.callee (terminal_of r owner) from instance (before now owner (good free))
            (subst (λ (g : Gnb). (offered ≡ None) ⊎ (same_node from (CuCp (other_gnb g)) ≡ false)) (sym h.1) free) ss))
    asked_keeps (xn (xns.HandoverCancel x instance)) fits is =
        let own : x.0 ≡ owner.0 = cc in
        subst (λ (z : UeId). Keeps (by_row way z (xn_cancelled way (at_of now z) from instance (terminal_of now z)) now)) (sym (ue_is x own))
        (row_now _ (cancelled_fits way was_asked (at_of r owner) now.transactions.callee (terminal_of r owner) from instance))
    asked_keeps (xn (xns.UeContextRelease x instance)) fits is =
        let own : x.0 ≡ owner.0 = cc in by own (cases (xn (xns.UeContextRelease x instance)) fits)
      where
        by : x.0 ≡ owner.0 → Untouched ⊎ (false ≡ true) → Keeps (by_row way x (xn_released way (at_of now x) from instance (terminal_of now x)) now)
        by own (inr wrong) = absurd cc
        by own (inl free) =
            subst (λ (z : UeId). Keeps (by_row way z (xn_released way (at_of now z) from instance (terminal_of now z)) now)) (sym (ue_is x own))
            (row_now _ (released_fits way was_asked (at_of r owner) now.transactions.callee (terminal_of r owner) from instance (before now owner (good free))))
    asked_keeps m fits is = by (cases m fits)
      where
        by : Untouched ⊎ (overtakes m ≡ true) → Whole now
        by (inl free) = good free
        by (inr wrong) = absurd cc

  -- ---- transfers, and control messages

  transferred_keeps : (from : NodeId) (m : Message C) (r : Record) → Whole r → Keeps (transferred way from m r)
  unfolding token_received
  transferred_keeps from (f1 (f1s.UlRrcMessageTransfer ue container)) r h =
      row_keeps ue r _ (λ b. container_fits way was_asked (at_of r ue) r.transactions.callee (terminal_of r ue) from b (terminal_of r ue).context (way.unwrap container)) h
  transferred_keeps from m r h = h

  by_kind_keeps : (from : NodeId) (m : Message C) (r : Record) → shares_interface (CuCp r.gnb) from ≡ true → InputFits {P = P} was_asked r (control_input from m) → (k : Kind)
      → kind_of m ≡ k → Whole r → Keeps (control_by way from m r k)
  unfolding on_request on_reply
  by_kind_keeps from m r shares fits (request ue i) is h = by (verdict r.transactions.callee (channel ue from) i) refl
    where
      again_keeps : (o : Option M) → Keeps (answered_again way r (channel ue from) o)
      again_keeps None = h
      again_keeps (Some kept) = h

      by : (v : Verdict) → verdict r.transactions.callee (channel ue from) i ≡ v
          → Keeps (request_by way r r.transactions (channel ue from) i (λ t. asked way from m (with_transactions r t)) v)
      by new e = asked_keeps r h from (record { 0 = ue }) i m (fits (record { 0 = ue }) i is e shares) is
      by again e = again_keeps (kept_reply r.transactions.callee (channel ue from))
      by stale e = h
  by_kind_keeps from m r shares fits (reply ue i) is h = by (is_awaited r.transactions.caller (channel ue from) i)
    where
      by : (b : Bool) → Keeps (if b then reply_received way (record { 0 = ue }) (channel ue from) i m r else drops Stale r)
      by true = reply_keeps (record { 0 = ue }) (channel ue from) i m r h
      by false = h
  by_kind_keeps from m r shares fits (transfer ue) is h = transferred_keeps from m r h

  control_keeps : (from : NodeId) (m : Message C) (r : Record) → InputFits {P = P} was_asked r (control_input from m) → Whole r → Keeps (control_received way from m r)
  unfolding control_received
  control_keeps from m r fits h = by (shares_interface (CuCp r.gnb) from) refl
    where
      by : (b : Bool) → shares_interface (CuCp r.gnb) from ≡ b → Keeps (if b then control_by way from m r (kind_of m) else drops Unexpected r)
      by true e = by_kind_keeps from m r e fits (kind_of m) refl h
      by false e = h

  -- ---- a tick

  due_keeps : (r : Record) (d : Due M) → Whole r → Keeps (due_one way r d)
  due_keeps r (repeats c m) h = h
  due_keeps r (expires c) h = row_keeps (record { 0 = c.ue }) r _ (λ b. by b (terminal_of r (record { 0 = c.ue })).context) h
    where
      owner : UeId
      owner = record { 0 = c.ue }

      by : Before r owner → (o : Option CuCpContext) → RowFits way r.gnb was_asked owner r.transactions.callee (expired_on way (at_of r owner) (terminal_of r owner) o)
      by b None = leaves _ _ b tt
      by b (Some x) = expires_fits way was_asked (at_of r owner) r.transactions.callee (terminal_of r owner) x

  dues_keep : (ds : List (Due M)) (r : Record) → Whole r → Keeps (due_each way ds r)
  dues_keep [] r h = h
  dues_keep (d ∷ ds) r h = keeps_then (due_one way r d) (due_each way ds) (due_keeps r d h) (λ q k. dues_keep ds q k)

  commanded_fits : (r : Record) (ue : UeId) → Before r ue
      → RowFits way r.gnb was_asked ue r.transactions.callee (command_on way (at_of r ue) (terminal_of r ue) (terminal_of r ue).context)
  commanded_fits r ue b = by (terminal_of r ue).context
    where
      t : CuCpTerminal
      t = terminal_of r ue

      of : (c : CuCpContext) (s : StateName) (o : Option Attempt) → RowFits way r.gnb was_asked ue r.transactions.callee (command_by way (at_of r ue) t c s o)
      of c states.Frozen (Some a) = command_fits way was_asked (at_of r ue) r.transactions.callee t c a
      of c states.Commanded (Some a) = command_fits way was_asked (at_of r ue) r.transactions.callee t c a
      of c s o = leaves _ _ b tt

      by : (o : Option CuCpContext) → RowFits way r.gnb was_asked ue r.transactions.callee (command_on way (at_of r ue) t o)
      by None = leaves _ _ b tt
      by (Some c) = of c c.state c.attempt

  commands_keep : (ues : List UeId) (r : Record) → Whole r → Keeps (command_each way ues r)
  commands_keep [] r h = h
  commands_keep (ue ∷ ues) r h =
      keeps_then (carry_out way ue r (command_on way (at_of r ue) (terminal_of r ue) (terminal_of r ue).context)) (command_each way ues)
      (row_keeps ue r _ (λ b. commanded_fits r ue b) h) (λ q k. commands_keep ues q k)

  tick_keeps : (r : Record) → Whole r → Keeps (tick way r)
  unfolding tick
  tick_keeps r h =
      keeps_then (due_each way (due r.transactions.caller) (with_transactions r (record r.transactions { caller = after_tick r.transactions.caller })))
      (λ s. command_each way (ues_of way s) s) (dues_keep (due r.transactions.caller) _ (h.0, h.1)) (λ q k. commands_keep (ues_of way q) q k)

  -- ---- the table

  ordered_keeps : (order : Order) (r : Record) → Whole r → Keeps (ordered way order r)
  ordered_keeps (orders.Attach plan) r h =
      row_keeps plan.ue r _ (λ b. attach_fits way was_asked (at_of r plan.ue) r.transactions.callee (terminal_of r plan.ue) b plan) h
  ordered_keeps (orders.Handover plan) r h =
      row_keeps plan.ue r _ (λ b. handover_fits way was_asked (at_of r plan.ue) r.transactions.callee (terminal_of r plan.ue) b plan) h
  ordered_keeps (orders.Cancel ue) r h = row_keeps ue r _ (λ b. cancel_fits way was_asked (at_of r ue) r.transactions.callee (terminal_of r ue) b) h
  ordered_keeps (orders.Release ue) r h = row_keeps ue r _ (λ b. release_fits way was_asked (at_of r ue) r.transactions.callee (terminal_of r ue) b) h
  ordered_keeps order r h = h

  whole_stands : (g : Gnb) → g ≡ gnb → (a : Answer M P Record) → Keeps a → IfGives (λ q. OffersStand was_asked q × (q.gnb ≡ g)) a
  whole_stands g own (gives os q) h = (
    λ ue. subst (λ (x : Gnb). Stands way x was_asked q.transactions.callee ue (offer_of (terminal_of q ue).context)) (sym h.1) (h.0 ue),
    h.1 ∙ sym own,
  )
  whole_stands g own (spent k) h = tt

  acts_keep : (r : Record) (input : Input C P) → Whole r → InputFits was_asked r input → Keeps (cu_cp_acts way r input)
  unfolding cu_cp_acts
  acts_keep r (control_input from m) h fits = control_keeps from m r fits h
  acts_keep r tick_input h fits = tick_keeps r h
  acts_keep r (order_input order) h fits = ordered_keeps order r h
  acts_keep r input h fits = h

  pub cu_cp_keeps : (r : Record) (input : Input C P) → OffersStand was_asked r × (r.gnb ≡ gnb) → InputFits was_asked r input
      → IfGives (λ q. OffersStand was_asked q × (q.gnb ≡ r.gnb)) (cu_cp_acts way r input)
  cu_cp_keeps r input h fits = whole_stands r.gnb h.1 (cu_cp_acts way r input) (acts_keep r input whole fits)
    where
      whole : Whole r
      whole = ((λ ue. subst (λ (x : Gnb). Stands way x was_asked r.transactions.callee ue (offer_of (terminal_of r ue).context)) h.1 (h.0 ue)), h.1)
