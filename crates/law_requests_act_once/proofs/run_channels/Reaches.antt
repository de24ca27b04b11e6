-- A step of a node goes on with orders: what the node keeps then, and what it puts, are those after more orders.
use Rattle.std.proofs.Common.{◌≡◌, ℕ, ◌<◌, Bool, true, false, List, [], ◌∷◌, ◌++◌, refl, sym, ap, ◌∙◌, subst}
use Rattle.std.proofs.lemmas.List.{append-nil, map-append, length-map, get_or-map}
use Rattle.std.specs.Prelude.{map}
use Rattle.std.specs.List.{Contains}
use Rattle.gnb_types.specs.declared.names.Gnb.{Gnb}
use Rattle.gnb_types.specs.declared.names.NodeId.{NodeId}
use Rattle.gnb_types.specs.declared.names.NodeId.TheVariants.{CuCp, CuUp as up_id, Du as du_id, Core, Ue}
use Rattle.gnb_types.specs.declared.keys.Channel.{Channel}
use Rattle.message_types.specs.declared.rrc.Token.{Token}
use Rattle.tables.specs.Tables.{find, at}
use Rattle.transaction_defs.specs.Callers.{opened_at}
use Rattle.transaction_defs.specs.Callees.{newest, kept_reply}
use Rattle.unit_defs.specs.Ways.{Message, rrc, Pdu, Output, control, gives}
use Rattle.unit_defs.specs.Messages.{channel, other_gnb}
use Rattle.unit_defs.specs.Transactions.{kind_of, Transactions, no_transactions, waits_at}
use Rattle.run_defs.specs.Units.{cu_cp_of}
use Rattle.run_defs.specs.States.{Lengths}
use Rattle.run_defs.specs.Written.{written_put}
use Rattle.law_requests_act_once.specs.channel.Ends.{same_node, Sent}
use Rattle.law_requests_act_once.specs.channel.Moves.{Move, transfers, Net, new_net, sent_by, Order, after, MayReply}
use Rattle.law_requests_act_once.proofs.channel.Keys.{node_told}
use Rattle.law_requests_act_once.specs.channel_rows.IsPlayed.{ReadsWell, AreUndated, orders_of, AreTickless, Plays, IsPlayedWhole, NoneExpired, GoesOn}
use Rattle.law_requests_act_once.specs.channel_rows.Assumed.{Assumes}
use Rattle.law_requests_act_once.proofs.channel_rows.Plays.{plays_none, plays_one, plays_then}
use Rattle.law_requests_act_once.proofs.channel_rows.Goes.{goes_on}
use Rattle.proof_run_steps.specs.control.Control.{control_messages_in, with_control_messages}
use Rattle.law_requests_act_once.specs.run_channels.Reached.{PlainControl, PlainControlMessage, run_talk, kept_by, as_sent, sent_of, ComesOf, CpsFit, first_control}
use Rattle.law_requests_act_once.proofs.run_channels.Nodes.{first_kept}
use Rattle.law_requests_act_once.proofs.run_channels.Terminals.{TokensAlone}

pub reads : ReadsWell run_talk
unfolding kind_of
reads = record { kinds = λ m. refl; answers_are = λ a b. refl; passes = λ token. (0, refl); overtakes_is = λ m. refl }

pub contains_map : {X Y : Type 0} (f : X → Y) (xs : List X) (x : X) → Contains xs x → Contains (map f xs) (f x)
contains_map f xs x has =
    (has.0, subst (λ (n : ℕ). has.0 < n) (sym (length-map xs f)) has.1, get_or-map f xs has.0 x (f x) has.1 ∙ ap f has.2)

-- control messages as what was sent
control_messages_sent : (sn : Lengths) (n : NodeId) (os : List (Output (Message Token) Pdu)) → map as_sent (control_messages_in n (map (written_put sn) os)) ≡ sent_by n os
control_messages_sent sn n [] = refl
control_messages_sent sn n (control to ue m ∷ os) =
    ap (λ (s : List (Sent (Message Token))). record { from = n; to = to; ue = ue; message = m } ∷ s) (control_messages_sent sn n os)
control_messages_sent sn n (o ∷ os) = control_messages_sent sn n os

pub control_messages_kept : (k : PlainControl) (more : List PlainControlMessage) (m : NodeId) → kept_by (with_control_messages k more) m ≡ kept_by k m
control_messages_kept k more (CuCp g) = refl
control_messages_kept k more (up_id g j) = refl
control_messages_kept k more (du_id g j) = refl
control_messages_kept k more Core = refl
control_messages_kept k more (Ue u) = refl

-- ---- what a terminal puts

pub tokens_play : (os : List (Output (Message Token) Pdu)) → TokensAlone os → (net : Net (Message Token) Token) (n : NodeId)
    → (moves : List (Move (Message Token) Token)) × Plays run_talk net n (net.nodes n) (sent_by n os) moves × AreTickless moves
unfolding kind_of
tokens_play [] alone net n = ([], plays_none run_talk net n, tt)
tokens_play (control to ue m ∷ os) alone net n =
    let one : Move (Message Token) Token = transfers to ue m in
    let first = plays_one run_talk net n one (0, ap kind_of alone.0.1) (control to ue m ∷ []) (net.nodes n) refl in
    let rest = tokens_play os alone.1 (after run_talk net (orders_of run_talk n (one ∷ []))) n in (
      one ∷ rest.0,
      plays_then run_talk net n (net.nodes n) (net.nodes n) (record { from = n; to = to; ue = ue; message = m } ∷ []) (sent_by n os) (one ∷ []) rest.0 first
          (subst (λ (t : Transactions (Message Token) Token). Plays run_talk (after run_talk net (orders_of run_talk n (one ∷ []))) n t (sent_by n os) rest.0)
          first.node rest.1),
      (tt, rest.2),
    )
tokens_play (o ∷ os) alone net n = tokens_play os alone.1 net n

abbrev pub IsUpOrDu : NodeId → Type 0
IsUpOrDu (up_id g j) = Unit {0}
IsUpOrDu (du_id g j) = Unit {0}
IsUpOrDu n = ⊥

pub record IsReached (k : PlainControl) : Type 0 where
  pub orders : List (Order run_talk)
  pub comes : ComesOf k orders
  pub undated : (m : NodeId) → IsUpOrDu m → AreUndated (kept_by k m)

-- ---- a step

module _ (k : PlainControl) (h : IsReached k) (n : NodeId) where
  abbrev pub net_here : Net (Message Token) Token
  net_here = after run_talk new_net h.orders

  pub tie : (l : PlainControl) (t : Transactions (Message Token) Token) (sn : Lengths) (os : List (Output (Message Token) Pdu))
      → GoesOn run_talk h.orders n t (sent_by n os) → kept_by l n ≡ t → ((m : NodeId) → same_node m n ≡ false → kept_by l m ≡ kept_by k m)
      → l.control_messages ≡ k.control_messages ++ control_messages_in n (map (written_put sn) os) → (IsUpOrDu n → AreUndated t) → IsReached l
  tie l t sn os goes here apart control_messages dates = record {
    orders = h.orders ++ goes.more;
    comes = record { may = goes.may; nodes = nodes; bag = bag; none = none };
    undated = undated;
  }
    where
      nodes : (m : NodeId) → (after run_talk new_net (h.orders ++ goes.more)).nodes m ≡ kept_by l m
      nodes m = by (same_node m n) refl
        where
          by : (b : Bool) → same_node m n ≡ b → (after run_talk new_net (h.orders ++ goes.more)).nodes m ≡ kept_by l m
          by true e =
              subst (λ (q : NodeId). (after run_talk new_net (h.orders ++ goes.more)).nodes q ≡ kept_by l q) (sym (node_told m n e)) (goes.node ∙ sym here)
          by false e = goes.others m e ∙ h.comes.nodes m ∙ sym (apart m e)

      none : (m : NodeId) → NoneExpired run_talk (after run_talk new_net (h.orders ++ goes.more)) m
      none m = by (same_node m n) refl
        where
          by : (b : Bool) → same_node m n ≡ b → NoneExpired run_talk (after run_talk new_net (h.orders ++ goes.more)) m
          by true e = subst (λ (q : NodeId). NoneExpired run_talk (after run_talk new_net (h.orders ++ goes.more)) q) (sym (node_told m n e)) goes.none
          by false e = λ c. goes.as_before m e c ∙ h.comes.none m c

      bag : (after run_talk new_net (h.orders ++ goes.more)).bag ≡ sent_of l
      bag =
          goes.bag ∙ ap (λ (s : List (Sent (Message Token))). s ++ sent_by n os) h.comes.bag
          ∙ (λ i. sent_of k ++ sym (control_messages_sent sn n os) i)
          ∙ sym (map-append as_sent k.control_messages (control_messages_in n (map (written_put sn) os)))
          ∙ sym (ap (λ (ls : List PlainControlMessage). map as_sent ls) control_messages)

      undated : (m : NodeId) → IsUpOrDu m → AreUndated (kept_by l m)
      undated m is = by (same_node m n) refl
        where
          by : (b : Bool) → same_node m n ≡ b → AreUndated (kept_by l m)
          by true e = subst AreUndated (sym (subst (λ (q : NodeId). kept_by l q ≡ t) (sym (node_told m n e)) here)) (dates (subst IsUpOrDu (node_told m n e) is))
          by false e = subst AreUndated (sym (apart m e)) (h.undated m is)

  pub made_goes : {R : Type 0} (kept : R → Transactions (Message Token) Token) (os : List (Output (Message Token) Pdu)) (r : R)
      → IsPlayedWhole run_talk net_here n kept (gives os r) → GoesOn run_talk h.orders n (kept r) (sent_by n os)
  made_goes kept os r made = goes_on run_talk h.orders h.comes.may n (kept r) os made.0 made.1 made.2

-- ---- what changes nothing of requests, replies and messages

pub same_reaches : (k l : PlainControl) → ((m : NodeId) → kept_by l m ≡ kept_by k m) → l.control_messages ≡ k.control_messages → IsReached k → IsReached l
same_reaches k l same control_messages h = record {
  orders = h.orders;
  comes = record {
    may = h.comes.may;
    nodes = λ n. h.comes.nodes n ∙ sym (same n);
    bag = h.comes.bag ∙ sym (ap (λ (ls : List PlainControlMessage). map as_sent ls) control_messages);
    none = h.comes.none;
  };
  undated = λ m is. subst AreUndated (sym (same m)) (h.undated m is);
}

pub nothing_put : (k : PlainControl) → IsReached k → IsReached (with_control_messages k [])
nothing_put k h = subst IsReached (λ i. record { units = k.units; core = k.core; control_messages = sym (append-nil k.control_messages) i }) h

-- the request of an offered target may be answered
pub assumes_of : (k : PlainControl) (h : IsReached k) → CpsFit k → (gnb : Gnb) → Assumes run_talk (CuCp gnb) (after run_talk new_net h.orders) (cu_cp_of k.units gnb)
assumes_of k h fit gnb ue c a is e s answer kind fits =
    let o = (fit gnb).1 ue c a is e s in
    let key : Channel = channel ue.0 (CuCp (other_gnb gnb)) in
    subst (λ (g : Gnb). MayReply run_talk (after run_talk new_net h.orders) (CuCp gnb) (channel ue.0 (CuCp (other_gnb g))) a.instance answer)
    (sym (fit gnb).0)
    (record {
      is_newest = ap (λ (t : Transactions (Message Token) Token). newest t.callee key) (h.comes.nodes (CuCp gnb)) ∙ o.is_newest;
      is_unanswered = ap (λ (t : Transactions (Message Token) Token). kept_reply t.callee key) (h.comes.nodes (CuCp gnb)) ∙ o.is_unanswered;
      is_reply = kind;
      request = o.message;
      was_put = (
        o.owner,
        subst (λ (b : List (Sent (Message Token))). Contains b (record { from = CuCp (other_gnb gnb); to = CuCp gnb; ue = o.owner; message = o.message }))
            (sym h.comes.bag)
            (contains_map as_sent k.control_messages (record { from = CuCp (other_gnb gnb); to = CuCp gnb; ue = o.owner; message = o.message }) o.was_put),
        o.is_request,
      );
      fits = o.fits answer fits;
    })

-- ---- at first

nothing_undated : AreUndated {M = Message Token} {C = Token} no_transactions
unfolding opened_at waits_at at find
nothing_undated c = (λ o is. absurd cc, tt)

pub first_reached : IsReached first_control
first_reached = record {
  orders = [];
  comes = record { may = tt; nodes = λ m. sym (first_kept m); bag = refl; none = λ n c. refl };
  undated = λ m is. subst AreUndated (sym (first_kept m)) nothing_undated;
}
