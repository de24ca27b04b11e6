-- What a CU-CP does on requests of others: each is taken, and answered once at most before what else is asked.
use Rattle.std.proofs.Common.{◌≡◌, ℕ, Bool, true, false, ◌&&◌, List, [], ◌∷◌, ◌++◌, Option, Some, None, refl, sym, ap, ◌∙◌, subst}
use Rattle.std.specs.Prelude.{if◌then◌else◌}
use Rattle.std.proofs.lemmas.List.Elements.{Contains-append_left}
use Rattle.gnb_types.specs.declared.names.NodeId.{NodeId}
use Rattle.gnb_types.specs.declared.names.UeId.{UeId}
use Rattle.gnb_types.specs.declared.keys.Channel.{Channel}
use Rattle.gnb_types.specs.declared.plans.SnStatus.{SnStatus}
use Rattle.gnb_types.specs.declared.reasons.DropReason.TheVariants.{Unexpected, NoContext}
use Rattle.message_types.specs.declared.f1.F1.TheVariants as f1s
use Rattle.message_types.specs.declared.e1.E1Message.TheVariants as e1s
use Rattle.message_types.specs.declared.xn.XnMessage.TheVariants as xns
use Rattle.transaction_defs.specs.Callees.{kept_reply, newest}
use Rattle.unit_defs.specs.declared.StateName.{StateName}
use Rattle.unit_defs.specs.declared.StateName.TheVariants as states
use Rattle.unit_defs.specs.Ways.{Message, f1, e1, xn, Answer, gives, spent, ◌then◌}
use Rattle.unit_defs.specs.Messages.{channel, cause_busy, cause_unit, are_bearers, statuses_of}
use Rattle.unit_defs.specs.Transactions.{request, reply, kind_of, Transactions, replied}
use Rattle.unit_defs.specs.CuCpRecords.{Attempt, CuCpContext, CuCpTerminal, CuCpRecord, terminal_of, has_unit, bearers_in, Action, replies as says_reply, ignores, Row, carry_out}
use Rattle.unit_defs.specs.CuCpRows.{CuCpScope, own_up, own_du, is_between_gnbs, bearer_setup, du_release, cu_up_release, status_action, handed_over, offer_context, refuse_offer, offer_on, offer, takes_status, status_on, status, du_release_if, offer_cancelled, is_cancellable, xn_cancelled_of, xn_cancelled_on, xn_cancelled, xn_released_of, xn_released_on, xn_released}
use Rattle.unit_defs.specs.CuCp.{at_of, by_row, set_up, asked}
use Rattle.law_requests_act_once.specs.channel.Replies.{Talk, answers}
use Rattle.law_requests_act_once.specs.channel.Moves.{replies, forgets, Net, moved, after_answer, after_move, MayReply, May, MayAll}
use Rattle.law_requests_act_once.proofs.channel.Keys.{with_node_here}
use Rattle.law_requests_act_once.specs.channel_rows.IsPlayed.{ReadsWell, orders_of, IsPlayed, NoneExpired}
use Rattle.law_requests_act_once.specs.channel_rows.Rows.{moves_of_all, IsAllowed, Speaks}
use Rattle.law_requests_act_once.proofs.channel_rows.Plays.{plays_one}
use Rattle.law_requests_act_once.proofs.channel_rows.Requests.{drops_made}
use Rattle.law_requests_act_once.proofs.channel_rows.Says.{kept, row_says}
use Rattle.law_requests_act_once.proofs.channel_rows.CpRows.{bearer_setup_one, du_release_one, up_release_one, status_one}
use Rattle.law_requests_act_once.proofs.channel_rows.CpMoves.{speaks_may, plays_made}

module _ {M C P : Type 0} (talk : Talk M C P) (n : NodeId) where
  -- the newest request of the channel may be answered, by each message that answers it
  abbrev pub MayAnswer : Net M C → Channel → Message C → ℕ → Type 0
  MayAnswer net c m i = (answer : Message C) → kind_of answer ≡ reply c.ue i → answers m answer ≡ true → MayReply talk net n c i (talk.way.encode answer)

  -- what no attempt awaits any more doesn't touch what is answered
  still_after_forgetting : (net : Net M C) (c : Channel) (m : Message C) (i : ℕ) (ue : UeId) → MayAnswer net c m i
      → MayAnswer (after_move talk net n (forgets ue)) c m i
  still_after_forgetting net c m i ue may answer kind fits =
      let was = may answer kind fits in
      record {
        is_newest = ap (λ (t : Transactions M C). newest t.callee c) (with_node_here net.nodes n _) ∙ was.is_newest;
        is_unanswered = ap (λ (t : Transactions M C). kept_reply t.callee c) (with_node_here net.nodes n _) ∙ was.is_unanswered;
        is_reply = was.is_reply;
        request = was.request;
        was_put = (was.was_put.0, Contains-append_left net.bag [] _ was.was_put.1, was.was_put.2);
        fits = was.fits;
      }

  -- a reply, and then what is asked
  reply_then : (net : Net M C) → NoneExpired talk net n → (from : NodeId) (owner : UeId) (answer : Message C) (ss : List (Action C))
      → May talk net n (replies (channel owner.0 from) answer) → Speaks talk owner ss
      → MayAll talk net (orders_of talk n (moves_of_all talk owner (says_reply from answer ∷ ss)))
  reply_then net none from owner answer ss first rest =
      (first, speaks_may talk n ss (after_move talk net n (replies (channel owner.0 from) answer)) owner none_then rest)
    where
      by : (a : Answer M P (Transactions M C)) → NoneExpired talk (after_answer talk net n (replies (channel owner.0 from) answer) a) n
      by (gives os t) = none
      by (spent k) = none

      none_then : NoneExpired talk (after_move talk net n (replies (channel owner.0 from) answer)) n
      none_then = by (moved talk (net.nodes n) (replies (channel owner.0 from) answer))

  -- the channel of the message is that of its terminal
  may_for_in : (net : Net M C) (from : NodeId) (m : Message C) (ue i : ℕ) → MayAnswer net (channel ue from) m i → (owner instance : ℕ) → owner ≡ ue → instance ≡ i
      → (answer : Message C) → kind_of answer ≡ reply owner instance → answers m answer ≡ true → May talk net n (replies (channel owner from) answer)
  may_for_in net from m ue i may owner instance own same answer kind fits = (
    i,
    subst (λ (u : ℕ). MayReply talk net n (channel u from) i (talk.way.encode answer)) (sym own)
        (may answer (kind ∙ (λ j. reply (own j) (same j))) fits),
  )

  module _ (reads : ReadsWell talk) (net : Net M C) (none : NoneExpired talk net n) (r : CuCpRecord M C) (at : net.nodes n ≡ r.transactions)
      (from : NodeId) (m : Message C) (ue i : ℕ) (may : MayAnswer net (channel ue from) m i) where
    may_for : (owner instance : ℕ) → owner ≡ ue → instance ≡ i → (answer : Message C) → kind_of answer ≡ reply owner instance → answers m answer ≡ true
        → May talk net n (replies (channel owner from) answer)
    may_for = may_for_in net from m ue i may

    reply_first : (owner : UeId) (answer : Message C) (ss : List (Action C)) → May talk net n (replies (channel owner.0 from) answer) → Speaks talk owner ss
        → MayAll talk net (orders_of talk n (moves_of_all talk owner (says_reply from answer ∷ ss)))
    reply_first = reply_then net none from

    allowed_made : (owner : UeId) (what : Row C) → IsAllowed talk net n owner what → IsPlayed talk net n (kept talk n) (by_row talk.way owner what r)
    allowed_made owner what allowed = plays_made talk n net owner what (carry_out talk.way owner r what) (row_says talk n net owner r at what allowed)

    set_up_made : (own : 0 ≡ ue) (instance : ℕ) → instance ≡ i → (answer : Message C) → kind_of answer ≡ reply 0 instance → answers m answer ≡ true
        → IsPlayed talk net n (kept talk n) (set_up talk.way from answer r)
    unfolding replied
    set_up_made own instance same answer kind fits = (
      replies (channel 0 from) answer ∷ [],
      plays_one talk net n (replies (channel 0 from) answer) (may_for 0 instance own same answer kind fits) _ _
          (ap (λ (t : Transactions M C). moved talk t (replies (channel 0 from) answer)) at),
      (tt, tt),
    )

    module _ (owner : UeId) (instance : ℕ) (own : owner.0 ≡ ue) (same : instance ≡ i) where
      abbrev place : CuCpScope
      place = at_of r owner

      abbrev KeepsInvariant : Row C → Type 0
      KeepsInvariant what = IsAllowed talk net n owner what

      fine_if : (b : Bool) (x y : Row C) → KeepsInvariant x → KeepsInvariant y → KeepsInvariant (if b then x else y)
      fine_if true x y p q = p
      fine_if false x y p q = q

      speaks : (ss : List (Action C)) → Speaks talk owner ss → MayAll talk net (orders_of talk n (moves_of_all talk owner ss))
      speaks ss is = speaks_may talk n ss net owner none is

      confirms : (fits : answers m (xn (xns.TransportConfirm owner instance)) ≡ true) (ss : List (Action C)) → Speaks talk owner ss
          → MayAll talk net (orders_of talk n (moves_of_all talk owner (says_reply from (xn (xns.TransportConfirm owner instance)) ∷ ss)))
      unfolding kind_of
      confirms fits ss rest =
          reply_first owner (xn (xns.TransportConfirm owner instance)) ss (may_for owner.0 instance own same (xn (xns.TransportConfirm owner instance)) refl fits) rest

      offer_fine : ((cause : ℕ) → answers m (xn (xns.HandoverPreparationFailure owner instance cause)) ≡ true) → (fresh : CuCpContext) (t : CuCpTerminal)
          → KeepsInvariant (offer talk.way place from instance fresh t)
      unfolding offer kind_of
      offer_fine fits fresh t = by t.context
        where
          refuses : (cause : ℕ) → MayAll talk net (orders_of talk n (moves_of_all talk owner (refuse_offer talk.way place from instance cause ∷ [])))
          refuses cause =
              reply_first owner (xn (xns.HandoverPreparationFailure owner instance cause)) []
              (may_for owner.0 instance own same (xn (xns.HandoverPreparationFailure owner instance cause)) refl (fits cause)) tt

          by : (c : Option CuCpContext) → KeepsInvariant (offer_on talk.way place from instance fresh t c)
          by (Some c) = refuses cause_busy
          by None =
              fine_if (has_unit place.units (own_up place fresh.up) && has_unit place.units (own_du place fresh.du)) _ _
              (speaks (bearer_setup talk.way place fresh true ∷ []) (bearer_setup_one talk reads place fresh true, tt)) (refuses cause_unit)

      status_fine : answers m (xn (xns.TransportConfirm owner instance)) ≡ true → (ss : List SnStatus) (t : CuCpTerminal)
          → KeepsInvariant (status talk.way place from instance ss t)
      unfolding status
      status_fine fits ss t = by t.context
        where
          by : (c : Option CuCpContext) → KeepsInvariant (status_on talk.way place from instance ss t c)
          by None = speaks (ignores NoContext ∷ []) (tt, tt)
          by (Some c) =
              fine_if (takes_status talk.way c && are_bearers (bearers_in c) (statuses_of ss)) _ _
              (confirms fits (status_action talk.way place c ss ∷ []) (status_one talk reads place c ss, tt)) (speaks (ignores Unexpected ∷ []) (tt, tt))

      release_if : (c : CuCpContext) (b : Bool) (rest : List (Action C)) → Speaks talk owner rest → Speaks talk owner (du_release_if talk.way place c b ++ rest)
      release_if c true rest is = (du_release_one talk reads place c.du false, is)
      release_if c false rest is = is

      cancelled_fine : answers m (xn (xns.TransportConfirm owner instance)) ≡ true → (t : CuCpTerminal) → KeepsInvariant (xn_cancelled talk.way place from instance t)
      unfolding xn_cancelled kind_of
      cancelled_fine fits t = by t.context
        where
          of : (c : CuCpContext) (a : Option Attempt) → KeepsInvariant (xn_cancelled_of talk.way place from instance t c a)
          of c None = confirms fits [] tt
          of c (Some a) = fine_if (is_cancellable talk.way c.state) _ _ (given_up c a) (confirms fits [] tt)
            where
              given_up : (c : CuCpContext) (a : Attempt) → KeepsInvariant (offer_cancelled talk.way place from instance t c a)
              given_up c a = (tt, after_forgetting c a)
                where
                  after_forgetting : (c : CuCpContext) (a : Attempt) → MayAll talk (after_move talk net n (forgets owner)) (orders_of talk n
                      (moves_of_all talk owner (says_reply from (xn (xns.TransportConfirm owner instance)) ∷ (du_release_if talk.way place c a.du_begun ++ cu_up_release talk.way place c.up true false ∷ []))))
                  after_forgetting c a =
                      reply_then (after_move talk net n (forgets owner)) none from owner (xn (xns.TransportConfirm owner instance))
                      (du_release_if talk.way place c a.du_begun ++ cu_up_release talk.way place c.up true false ∷ [])
                      (may_for_in (after_move talk net n (forgets owner)) from m ue i (still_after_forgetting net (channel ue from) m i owner may)
                      owner.0 instance own same (xn (xns.TransportConfirm owner instance)) refl fits)
                      (release_if c a.du_begun (cu_up_release talk.way place c.up true false ∷ []) (up_release_one talk reads place c.up true false, tt))

          by : (c : Option CuCpContext) → KeepsInvariant (xn_cancelled_on talk.way place from instance t c)
          by None = confirms fits [] tt
          by (Some c) = of c c.attempt

      released_fine : answers m (xn (xns.TransportConfirm owner instance)) ≡ true → (t : CuCpTerminal) → KeepsInvariant (xn_released talk.way place from instance t)
      unfolding xn_released handed_over
      released_fine fits t = by t.context
        where
          over : (c : CuCpContext) (a : Attempt) → KeepsInvariant (handed_over talk.way place from instance t c a)
          over c a =
              confirms fits (du_release talk.way place c.du true ∷ cu_up_release talk.way place c.up false true ∷ [])
              (du_release_one talk reads place c.du true, (up_release_one talk reads place c.up false true, tt))

          of : (c : CuCpContext) (s : StateName) (a : Option Attempt) → KeepsInvariant (xn_released_of talk.way place from instance t c s a)
          of c states.Commanded (Some a) = fine_if (is_between_gnbs a.kind) _ _ (over c a) (speaks (ignores Unexpected ∷ []) (tt, tt))
          of c states.Commanded None = speaks (ignores Unexpected ∷ []) (tt, tt)
          of c s a = speaks (ignores Unexpected ∷ []) (tt, tt)

          by : (c : Option CuCpContext) → KeepsInvariant (xn_released_on talk.way place from instance t c)
          by None = speaks (ignores NoContext ∷ []) (tt, tt)
          by (Some c) = of c c.state c.attempt

    -- a request that was taken
    of_message : (x : Message C) → kind_of x ≡ request ue i → m ≡ x → IsPlayed talk net n (kept talk n) (asked talk.way from x r)
    unfolding kind_of
    of_message (f1 (f1s.F1SetupRequest instance name)) is e =
        let a : 0 ≡ ue = cc in
        let b : instance ≡ i = cc in
        set_up_made a instance b (f1 (f1s.F1SetupResponse instance)) refl (ap (λ (y : Message C). answers y (f1 (f1s.F1SetupResponse instance))) e)
    of_message (e1 (e1s.E1SetupRequest instance name)) is e =
        let a : 0 ≡ ue = cc in
        let b : instance ≡ i = cc in
        set_up_made a instance b (e1 (e1s.E1SetupResponse instance)) refl (ap (λ (y : Message C). answers y (e1 (e1s.E1SetupResponse instance))) e)
    of_message (xn (xns.HandoverRequest owner instance epoch bearers sn quota peer du origin)) is e =
        let a : owner.0 ≡ ue = cc in
        let b : instance ≡ i = cc in
        allowed_made owner (offer talk.way (at_of r owner) from instance (offer_context talk.way peer.up du instance bearers sn quota epoch) (terminal_of r owner))
        (offer_fine owner instance a b (λ cause. ap (λ (y : Message C). answers y (xn (xns.HandoverPreparationFailure owner instance cause))) e)
        (offer_context talk.way peer.up du instance bearers sn quota epoch) (terminal_of r owner))
    of_message (xn (xns.SnStatusTransfer owner instance ss)) is e =
        let a : owner.0 ≡ ue = cc in
        let b : instance ≡ i = cc in
        allowed_made owner (status talk.way (at_of r owner) from instance ss (terminal_of r owner))
        (status_fine owner instance a b (ap (λ (y : Message C). answers y (xn (xns.TransportConfirm owner instance))) e) ss (terminal_of r owner))
    of_message (xn (xns.HandoverCancel owner instance)) is e =
        let a : owner.0 ≡ ue = cc in
        let b : instance ≡ i = cc in
        allowed_made owner (xn_cancelled talk.way (at_of r owner) from instance (terminal_of r owner))
        (cancelled_fine owner instance a b (ap (λ (y : Message C). answers y (xn (xns.TransportConfirm owner instance))) e) (terminal_of r owner))
    of_message (xn (xns.UeContextRelease owner instance)) is e =
        let a : owner.0 ≡ ue = cc in
        let b : instance ≡ i = cc in
        allowed_made owner (xn_released talk.way (at_of r owner) from instance (terminal_of r owner))
        (released_fine owner instance a b (ap (λ (y : Message C). answers y (xn (xns.TransportConfirm owner instance))) e) (terminal_of r owner))
    of_message x is e = drops_made talk n net (kept talk n) r Unexpected at

    pub asked_made : kind_of m ≡ request ue i → IsPlayed talk net n (kept talk n) (asked talk.way from m r)
    asked_made is = of_message m is refl
