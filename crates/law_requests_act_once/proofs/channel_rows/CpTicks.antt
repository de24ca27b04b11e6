-- A tick of a CU-CP: open requests again, or what expires is cancelled; then the commands. And the whole table of a CU-CP.
use Rattle.std.proofs.Common.{◌≡◌, Bool, true, false, List, [], ◌∷◌, ◌++◌, Option, Some, None, refl, sym, ap, ◌∙◌, subst}
use Rattle.std.specs.Prelude.{if◌then◌else◌}
use Rattle.gnb_types.specs.declared.names.NodeId.{NodeId}
use Rattle.gnb_types.specs.declared.names.NodeId.TheVariants.{CuCp}
use Rattle.gnb_types.specs.declared.names.UeId.{UeId}
use Rattle.gnb_types.specs.declared.reasons.DropReason.TheVariants.{Unexpected}
use Rattle.gnb_types.specs.Orders.{channel_cmp}
use Rattle.tables.specs.Tables.{IsSorted}
use Rattle.transaction_defs.specs.Callers.{due, after_tick}
use Rattle.unit_defs.specs.declared.StateName.{StateName}
use Rattle.unit_defs.specs.declared.StateName.TheVariants as states
use Rattle.unit_defs.specs.Ways.{Message, Input, control_input, tick_input, order_input, Answer, gives, spent, with_outputs, ◌then◌, nothing, drops}
use Rattle.unit_defs.specs.Messages.{shares_interface, channel}
use Rattle.unit_defs.specs.Transactions.{Kind, request, reply, transfer, kind_of, Transactions, on_request}
use Rattle.unit_defs.specs.CuCpRecords.{Attempt, CuCpContext, CuCpRecord, terminal_of, with_transactions, Row, carry_out}
use Rattle.unit_defs.specs.CuCpRows.{command}
use Rattle.unit_defs.specs.CuCp.{at_of, asked, control_by, control_received, due_each, command_by, command_on, command_each, ues_of, tick, cu_cp_acts}
use Rattle.law_requests_act_once.specs.channel.Replies.{Talk}
use Rattle.law_requests_act_once.specs.channel.Ends.{Sent}
use Rattle.law_requests_act_once.specs.channel.Moves.{ages, Net, sent_by, after}
use Rattle.law_requests_act_once.proofs.channel.Nets.{Good}
use Rattle.law_requests_act_once.specs.channel_rows.IsPlayed.{ReadsWell, orders_of, Plays, IsPlayed, IsPlayedWhole, WasSent, IsPutTo, NoneExpired}
use Rattle.law_requests_act_once.specs.channel_rows.Assumed.{Assumes, Cancels}
use Rattle.law_requests_act_once.specs.channel_rows.Rows.{IsAllowed}
use Rattle.law_requests_act_once.proofs.channel_rows.Plays.{plays_none, plays_then}
use Rattle.law_requests_act_once.proofs.channel_rows.Requests.{sent_both, drops_made, request_taken, takes_plays, taken_net, after_take, may_answer}
use Rattle.law_requests_act_once.proofs.channel_rows.Says.{kept, row_says}
use Rattle.law_requests_act_once.proofs.channel_rows.Tickless.{tickless_both, whole}
use Rattle.law_requests_act_once.proofs.channel_rows.Ticks.{AllDue, all_found, all_due, still_due, ages_plays}
use Rattle.law_requests_act_once.proofs.channel_rows.CpDues.{Left, left_aged, all_may, whole_both, whole_after, dues_whole}
use Rattle.law_requests_act_once.proofs.channel_rows.CpRows.{command_fine}
use Rattle.law_requests_act_once.proofs.channel_rows.CpMoves.{plays_made, ordered_made, transferred_made}
use Rattle.law_requests_act_once.proofs.channel_rows.CpRequests.{asked_made}
use Rattle.law_requests_act_once.proofs.channel_rows.CpAnswers.{reply_made, made_after}

module _ {M C P : Type 0} (talk : Talk M C P) (n : NodeId) where
  -- moves, and then those of what is done after
  made_then : (net : Net M C) (a : Answer M P (CuCpRecord M C)) (f : CuCpRecord M C → Answer M P (CuCpRecord M C)) → IsPlayed talk net n (kept talk n) a
      → ((x : Net M C) (q : CuCpRecord M C) (out : List (Sent M)) → x.nodes n ≡ q.transactions → x.bag ≡ net.bag ++ out → IsPlayed talk x n (kept talk n) (f q))
      → IsPlayed talk net n (kept talk n) (a then f)
  made_then net (gives os q) f first next =
      by (f q) (next (after talk net (orders_of talk n first.0)) q (sent_by n os) first.1.node first.1.bag)
    where
      by : (b : Answer M P (CuCpRecord M C)) → IsPlayed talk (after talk net (orders_of talk n first.0)) n (kept talk n) b
          → IsPlayed talk net n (kept talk n) (with_outputs os b)
      by (gives more x) second = (
        first.0 ++ second.0,
        subst (λ (out : List (Sent M)). Plays talk net n x.transactions out (first.0 ++ second.0)) (sym (sent_both n os more))
            (plays_then talk net n q.transactions x.transactions (sent_by n os) (sent_by n more) first.0 second.0 first.1 second.1),
        tickless_both first.0 second.0 first.2 second.2,
      )
      by (spent k) second = tt
  made_then net (spent k) f first next = tt

  whole_then : (net : Net M C) (a : Answer M P (CuCpRecord M C)) (f : CuCpRecord M C → Answer M P (CuCpRecord M C)) → IsPlayedWhole talk net n (kept talk n) a
      → ((x : Net M C) (q : CuCpRecord M C) → x.nodes n ≡ q.transactions → IsPlayed talk x n (kept talk n) (f q)) → IsPlayedWhole talk net n (kept talk n) (a then f)
  whole_then net (gives os q) f first next =
      let x : Net M C = after talk net (orders_of talk n first.0) in
      whole_both talk n net os q first.0 first.1 (f q) (whole talk n x (kept talk n) (f q) first.2 (next x q first.1.node))
  whole_then net (spent k) f first next = tt

  same_made : (net : Net M C) (r : CuCpRecord M C) → net.nodes n ≡ r.transactions → IsPlayed talk net n (kept talk n) (nothing r)
  same_made net r at = ([], subst (λ (t : Transactions M C). Plays talk net n t [] []) at (plays_none talk net n), tt)

  allowed_made : (net : Net M C) (ue : UeId) (r : CuCpRecord M C) → net.nodes n ≡ r.transactions → (what : Row C) → IsAllowed talk net n ue what
      → IsPlayed talk net n (kept talk n) (carry_out talk.way ue r what)
  allowed_made net ue r at what allowed = plays_made talk n net ue what (carry_out talk.way ue r what) (row_says talk n net ue r at what allowed)

  module _ (reads : ReadsWell talk) where
    command_made : (ue : UeId) (net : Net M C) (r : CuCpRecord M C) → net.nodes n ≡ r.transactions
        → IsPlayed talk net n (kept talk n) (carry_out talk.way ue r (command_on talk.way (at_of r ue) (terminal_of r ue) (terminal_of r ue).context))
    unfolding command
    command_made ue net r at = allowed_made net ue r at _ (by (terminal_of r ue).context)
      where
        of : (c : CuCpContext) (s : StateName) (a : Option Attempt) → IsAllowed talk net n ue (command_by talk.way (at_of r ue) (terminal_of r ue) c s a)
        of c states.Frozen (Some a) = ((command_fine talk reads (at_of r ue) (terminal_of r ue) c a).0, tt)
        of c states.Frozen None = tt
        of c states.Commanded (Some a) = ((command_fine talk reads (at_of r ue) (terminal_of r ue) c a).0, tt)
        of c states.Commanded None = tt
        of c s a = tt

        by : (c : Option CuCpContext) → IsAllowed talk net n ue (command_on talk.way (at_of r ue) (terminal_of r ue) c)
        by None = tt
        by (Some c) = of c c.state c.attempt

    commands_made : (ues : List UeId) (net : Net M C) (r : CuCpRecord M C) → net.nodes n ≡ r.transactions
        → IsPlayed talk net n (kept talk n) (command_each talk.way ues r)
    commands_made [] net r at = same_made net r at
    commands_made (ue ∷ ues) net r at =
        made_then net _ (command_each talk.way ues) (command_made ue net r at) (λ x q out node grew. commands_made ues x q node)

    tick_made : (net : Net M C) → Good talk net → NoneExpired talk net n → (r : CuCpRecord M C) → net.nodes n ≡ r.transactions → Cancels r
        → IsPlayedWhole talk net n (kept talk n) (tick talk.way r)
    unfolding tick due
    tick_made net good none r at cancels =
        let aged = ages_plays talk n net in
        let now : CuCpRecord M C = with_transactions r (record r.transactions { caller = after_tick r.transactions.caller }) in
        let node : (after talk net (orders_of talk n (ages ∷ []))).nodes n ≡ now.transactions =
        aged.node ∙ ap (λ (t : Transactions M C). record t { caller = after_tick t.caller }) at in
        let sorted : IsSorted channel_cmp r.transactions.caller.opened =
        subst (λ (t : Transactions M C). IsSorted channel_cmp t.caller.opened) at (good.sorted n) in
        whole_after talk n net (ages ∷ []) _ aged
        (due_each talk.way (due r.transactions.caller) now then (λ s. command_each talk.way (ues_of talk.way s) s))
        (whole_then (after talk net (orders_of talk n (ages ∷ []))) (due_each talk.way (due r.transactions.caller) now) (λ s. command_each talk.way (ues_of talk.way s) s)
        (dues_whole talk n reads (due r.transactions.caller) (after talk net (orders_of talk n (ages ∷ []))) now node
        (still_due talk n net.bag [] (after talk net (orders_of talk n (ages ∷ []))).bag aged.bag (due r.transactions.caller)
        (subst (λ (t : Transactions M C). AllDue talk n net.bag (due t.caller)) at (all_due talk n net good)))
        (subst (λ (t : Transactions M C). Left talk n (after talk net (orders_of talk n (ages ∷ []))) (due t.caller)) at (left_aged talk n net none))
        (all_may r now cancels refl (λ v has. has) r.transactions.caller.opened (all_found r.transactions.caller.opened sorted)))
        (λ x q place. commands_made (ues_of talk.way q) x q place))

    -- ---- control messages, and the table

    module _ (net : Net M C) (good : Good talk net) (none : NoneExpired talk net n) (r : CuCpRecord M C) (at : net.nodes n ≡ r.transactions) (owes : Assumes talk n net r) where
      control_by_made : (from : NodeId) (m : Message C) → WasSent talk net from n m → (k : Kind) → kind_of m ≡ k
          → IsPlayed talk net n (kept talk n) (control_by talk.way from m r k)
      control_by_made from m sent (request ue i) is =
          subst (λ (t : Transactions M C). IsPlayed talk net n (kept talk n)
          (on_request talk.way r t (channel ue from) i (λ u. asked talk.way from m (with_transactions r u)))) at
          (request_taken talk n reads net (channel ue from) m i (sent.0, sent.1, reads.kinds m ∙ is) (kept talk n) r
          (λ u. asked talk.way from m (with_transactions r u)) at
          (λ fresh.
          made_after talk n (kept talk n) net _ _ (takes_plays talk n reads net (channel ue from) m i (sent.0, sent.1, reads.kinds m ∙ is) fresh) (tt, tt) _
          (asked_made talk n reads (taken_net talk n reads net (channel ue from) m i (sent.0, sent.1, reads.kinds m ∙ is)) none
          (with_transactions r (after_take talk n reads net (channel ue from) m i (sent.0, sent.1, reads.kinds m ∙ is)))
          (takes_plays talk n reads net (channel ue from) m i (sent.0, sent.1, reads.kinds m ∙ is) fresh).node from m ue i
          (λ answer kind fits. may_answer talk n reads net (channel ue from) m i (sent.0, sent.1, reads.kinds m ∙ is) fresh answer kind fits) is)))
      control_by_made from m sent (reply ue i) is =
          reply_made talk n reads net good none r at owes (channel ue from) i m (sent.0, sent.1, reads.kinds m ∙ is)
      control_by_made from m sent (transfer ue) is = transferred_made talk n reads net none r at from m

      control_made : (from : NodeId) (m : Message C) → WasSent talk net from n m → IsPlayed talk net n (kept talk n) (control_received talk.way from m r)
      unfolding control_received
      control_made from m sent = by (shares_interface (CuCp r.gnb) from)
        where
          by : (b : Bool) → IsPlayed talk net n (kept talk n) (if b then control_by talk.way from m r (kind_of m) else drops Unexpected r)
          by true = control_by_made from m sent (kind_of m) refl
          by false = drops_made talk n net (kept talk n) r Unexpected at

      -- of all inputs but a tick
      abbrev IsPlayedBut : Input C P → Answer M P (CuCpRecord M C) → Type 0
      IsPlayedBut tick_input a = Unit {0}
      IsPlayedBut input a = IsPlayed talk net n (kept talk n) a

      but_made : (input : Input C P) → IsPutTo talk net n input → IsPlayedBut input (cu_cp_acts talk.way r input)
      unfolding cu_cp_acts
      but_made (control_input from m) put = control_made from m put
      but_made tick_input put = tt
      but_made (order_input order) put = ordered_made talk n reads net none r at order
      but_made input put = drops_made talk n net (kept talk n) r Unexpected at

      pub cu_cp_made : Cancels r → (input : Input C P) → IsPutTo talk net n input → IsPlayedWhole talk net n (kept talk n) (cu_cp_acts talk.way r input)
      unfolding cu_cp_acts
      cu_cp_made cancels tick_input put = tick_made net good none r at cancels
      cu_cp_made cancels input put = whole talk n net (kept talk n) (cu_cp_acts talk.way r input) none (but_made input put)
