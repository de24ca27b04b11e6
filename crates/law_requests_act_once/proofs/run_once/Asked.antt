-- Who asks for a handover: of the messages that were put, none of a DU, a CU-UP or the core is such a request; and it is known of each
-- that comes to a CU-CP whether it may act.
use Rattle.std.proofs.Common.{inl, inr, ◌≡◌, ◌⊎◌, ◌==◌, ℕ, ◌+◌, ◌<◌, ◌≤◌, arith, ltb-true, Bool, true, false, not, List, [], ◌∷◌, Option, Some, None, refl, sym, ap, ◌∙◌, subst, true≢false}
use Rattle.std.proofs.lemmas.Bool.{cases_lt}
use Rattle.std.specs.Prelude.{if◌then◌else◌, map, nat_lt}
use Rattle.std.specs.List.{Contains}
use Rattle.gnb_types.specs.declared.names.Gnb.{Gnb}
use Rattle.gnb_types.specs.declared.names.Gnb.TheVariants.{A, B}
use Rattle.gnb_types.specs.declared.names.NodeId.{NodeId}
use Rattle.gnb_types.specs.declared.names.NodeId.TheVariants.{CuCp, CuUp as up_id, Du as du_id, Core, Ue}
use Rattle.gnb_types.specs.declared.names.UeId.{UeId}
use Rattle.gnb_types.specs.declared.keys.Channel.{Channel}
use Rattle.message_types.specs.declared.f1.F1.TheVariants as f1s
use Rattle.message_types.specs.declared.e1.E1Message.TheVariants as e1s
use Rattle.message_types.specs.declared.xn.XnMessage.TheVariants as xns
use Rattle.message_types.specs.declared.rrc.Token.{Token}
use Rattle.transaction_defs.specs.Callers.{Opened}
use Rattle.transaction_defs.specs.Callees.{Kept, kept_at, new, again, stale, verdict, verdict_after, newest, newest_in, reply_in}
use Rattle.unit_defs.specs.Ways.{Message, f1, e1, xn}
use Rattle.unit_defs.specs.Messages.{channel, is_same_gnb, other_gnb, shares_interface}
use Rattle.unit_defs.specs.Transactions.{request, kind_of}
use Rattle.unit_defs.specs.CuCpRecords.{terminal_of}
use Rattle.run_defs.specs.Units.{cu_cp_of}
use Rattle.run_defs.specs.Runs.{plain_way}
use Rattle.law_requests_act_once.specs.channel.Replies.{answers, overtakes, is_preparation}
use Rattle.law_requests_act_once.specs.channel.Ends.{Route, asking_at, Sent, asked, told, Put, Once, newest_number}
use Rattle.law_requests_act_once.specs.run_channels.Reached.{PlainControl, PlainControlMessage, PlainCp, run_talk, kept_by, as_sent, sent_of, ends_in, AreExact}
use Rattle.law_requests_act_once.proofs.run_channels.Exact.{exact_of}
use Rattle.law_requests_act_once.proofs.run_channels.Reaches.{contains_map, IsUpOrDu, IsReached}
use Rattle.law_requests_act_once.specs.cu_cp_offers.Offers.{offer_of, OffersStand, is_handover_request, ComesFit}
use Rattle.law_requests_act_once.specs.unit_setups.Setups.{IsSetup, AsksForSetup, GoesOn}

-- ---- a request for a handover

handover_kind : (m : Message Token) → is_handover_request m ≡ true → (u : ℕ) × (i : ℕ) × (kind_of m ≡ request u i)
unfolding kind_of
handover_kind (xn (xns.HandoverRequest ue instance epoch bearers sn quota peer du origin)) h = (ue.0, instance, refl)
handover_kind m h = absurd cc

no_setup : (m : Message Token) → IsSetup m → is_handover_request m ≡ true → ⊥
no_setup (f1 (f1s.F1SetupRequest instance name)) is h = absurd cc
no_setup (e1 (e1s.E1SetupRequest instance name)) is h = absurd cc
no_setup m is h = absurd is

handover_answers : (m : Message Token) → is_handover_request m ≡ true → (answer : Message Token) → is_preparation answer ≡ true → answers m answer ≡ true
handover_answers (xn (xns.HandoverRequest ue instance epoch bearers sn quota peer du origin)) h answer is = is
handover_answers m h answer is = absurd cc

-- ---- what was put, as letters

abbrev as_control_message : Sent (Message Token) → PlainControlMessage
as_control_message s = record { from = s.from; to = s.to; ue = s.ue; message = s.message }

control_messages_back : (ls : List PlainControlMessage) → map as_control_message (map as_sent ls) ≡ ls
control_messages_back [] = refl
control_messages_back (l ∷ ls) = ap (λ (more : List PlainControlMessage). l ∷ more) (control_messages_back ls)

control_message_of : (ls : List PlainControlMessage) (s : Sent (Message Token)) → Contains (map as_sent ls) s → Contains ls (as_control_message s)
control_message_of ls s has = subst (λ (x : List PlainControlMessage). Contains x (as_control_message s)) (control_messages_back ls) (contains_map as_control_message (map as_sent ls) s has)

abbrev pub route : NodeId → NodeId → ℕ → Route
route from to ue = record { from = from; to = to; ue = ue }

put_of : (ls : List PlainControlMessage) (l : PlainControlMessage) (u i : ℕ) → Contains ls l → kind_of l.message ≡ request u i
    → Put run_talk (map as_sent ls) (route l.from l.to u) (asked i l.message)
put_of ls l u i has kind = (l.ue, contains_map as_sent ls l has, kind)

-- ---- no unit asks for a handover

abbrev pub UnitsAsk : PlainControl → Type 0
UnitsAsk k = (m : NodeId) → IsUpOrDu m → (c : Channel) → AsksForSetup plain_way (asking_at (kept_by k m) c)

abbrev pub NoneAskHandover : List PlainControlMessage → Type 0
NoneAskHandover ls = (l : PlainControlMessage) → Contains ls l → IsUpOrDu l.from → is_handover_request l.message ≡ false

module _ (k l : PlainControl) (reached : IsReached k) (now : IsReached l) (grew : (x : PlainControlMessage) → Contains k.control_messages x → Contains l.control_messages x)
    (goes : (m : NodeId) → IsUpOrDu m → GoesOn plain_way (kept_by k m) (kept_by l m)) (asks : UnitsAsk k) (none : NoneAskHandover k.control_messages) where
  before : AreExact k
  before = exact_of k reached.orders reached.comes

  after : AreExact l
  after = exact_of l now.orders now.comes

  still_put : (r : Route) (i : ℕ) (y : Message Token) → Put run_talk (sent_of k) r (asked i y) → Put run_talk (sent_of l) r (asked i y)
  still_put r i y put = (put.0, contains_map as_sent l.control_messages _ (grew _ (control_message_of k.control_messages _ put.1)), put.2)

  asks_none : (x : PlainControlMessage) → Contains l.control_messages x → IsUpOrDu x.from → (u i : ℕ) → kind_of x.message ≡ request u i → is_handover_request x.message ≡ true → ⊥
  asks_none x has unit u i kind h = by (cases_lt (asking_at (kept_by k x.from) (channel u x.to)).last i)
    where
      r : Route
      r = route x.from x.to u

      put : Put run_talk (sent_of l) r (asked i x.message)
      put = put_of l.control_messages x u i has kind

      first : Once run_talk (ends_in k before.acts r) (Put run_talk (sent_of k) r)
      first = before.once r

      then' : Once run_talk (ends_in l after.acts r) (Put run_talk (sent_of l) r)
      then' = after.once r

      -- it was put before
      earlier : i ≤ (asking_at (kept_by k x.from) (channel u x.to)).last → ⊥
      earlier within =
          let was = first.was_put i (then'.given i x.message put).0 within in
          let same : was.0 ≡ x.message = then'.one_request i was.0 x.message (still_put r i was.0 was.1) put in
          let control_message = control_message_of k.control_messages _ was.1.1 in
          true≢false (sym h ∙ ap is_handover_request (sym same) ∙ none _ control_message unit)

      -- or it is the one that is open
      is_open : (o : Opened (Message Token)) → (asking_at (kept_by l x.from) (channel u x.to)).opened ≡ Some o
          → (asking_at (kept_by l x.from) (channel u x.to)).last ≡ i → ⊥
      is_open o opened last =
          let was = then'.opened o opened in
          let its : o.instance ≡ i = was.0 ∙ last in
          let same : was.1.0 ≡ x.message =
          then'.one_request i was.1.0 x.message (subst (λ (n : ℕ). Put run_talk (sent_of l) r (asked n was.1.0)) its was.1.2) put in
          let setup = ((goes x.from unit (channel u x.to)).setups (asks x.from unit (channel u x.to))).0 o opened was.1.0 was.1.1 in
          no_setup setup.0 setup.1 (ap is_handover_request (sym setup.2 ∙ same) ∙ h)

      newly : (asking_at (kept_by k x.from) (channel u x.to)).last < i
          → ((asking_at (kept_by l x.from) (channel u x.to)).last ≡ (asking_at (kept_by k x.from) (channel u x.to)).last)
          ⊎ (((asking_at (kept_by l x.from) (channel u x.to)).last ≡ (asking_at (kept_by k x.from) (channel u x.to)).last + 1)
          × (o : Opened (Message Token)) × ((asking_at (kept_by l x.from) (channel u x.to)).opened ≡ Some o)) → ⊥
      newly past (inl same) = let within = (then'.given i x.message put).1 in omega arith
      newly past (inr more) =
          let within = (then'.given i x.message put).1 in
          let last : (asking_at (kept_by l x.from) (channel u x.to)).last ≡ (asking_at (kept_by k x.from) (channel u x.to)).last + 1 = more.0 in
          is_open more.1 more.2 (omega arith)

      by : ((asking_at (kept_by k x.from) (channel u x.to)).last < i) ⊎ (i ≤ (asking_at (kept_by k x.from) (channel u x.to)).last) → ⊥
      by (inl past) = newly past (goes x.from unit (channel u x.to)).one_more
      by (inr within) = earlier within

  pub none_after : NoneAskHandover l.control_messages
  none_after x has unit = by (is_handover_request x.message) refl
    where
      by : (b : Bool) → is_handover_request x.message ≡ b → b ≡ false
      by true h = let kind = handover_kind x.message h in absurd (asks_none x has unit kind.0 kind.1 kind.2 h)
      by false h = refl

  pub units_after : UnitsAsk l
  units_after m unit c = (goes m unit c).setups (asks m unit c)

-- ---- a request for a handover to a CU-CP, that was put

pub record WasAsked (control_messages : List PlainControlMessage) (gnb : Gnb) (ue : UeId) (i : ℕ) : Type 0 where
  pub owner : ℕ
  pub message : Message Token
  pub was_put : Contains control_messages (record { from = CuCp (other_gnb gnb); to = CuCp gnb; ue = owner; message = message })
  pub is_request : kind_of message ≡ request ue.0 i
  pub fits : (answer : Message Token) → is_preparation answer ≡ true → answers message answer ≡ true

-- ---- what comes to a CU-CP

module _ (k : PlainControl) (reached : IsReached k) (none : NoneAskHandover k.control_messages) (core : (c : Channel) → (asking_at k.core.transactions c).last ≡ 0)
    (gnb : Gnb) (r : PlainCp) (its : cu_cp_of k.units gnb ≡ r) (own : r.gnb ≡ gnb) (stand : OffersStand (WasAsked k.control_messages gnb) r) where
  abbrev exact : AreExact k
  exact = exact_of k reached.orders reached.comes

  module _ (from : NodeId) (m : Message Token) (owner : ℕ) (has : Contains k.control_messages (record { from = from; to = CuCp gnb; ue = owner; message = m }))
      (ue : UeId) (i : ℕ) (kind : kind_of m ≡ request ue.0 i) where
    abbrev on : Route
    on = route from (CuCp gnb) ue.0

    put : Put run_talk (sent_of k) on (asked i m)
    put = put_of k.control_messages (record { from = from; to = CuCp gnb; ue = owner; message = m }) ue.0 i has kind

    once : Once run_talk (ends_in k exact.acts on) (Put run_talk (sent_of k) on)
    once = exact.once on

    other_of : (g h : Gnb) → not (is_same_gnb g h) ≡ true → h ≡ other_gnb g
    other_of A B e = refl
    other_of B A e = refl
    other_of A A e = absurd cc
    other_of B B e = absurd cc

    -- the other CU-CP alone asks for a handover
    handover_of : is_handover_request m ≡ true → (n : NodeId) → from ≡ n → shares_interface (CuCp r.gnb) n ≡ true → n ≡ CuCp (other_gnb r.gnb)
    handover_of h (CuCp g) e shares = ap (λ (x : Gnb). CuCp x) (other_of r.gnb g shares)
    handover_of h (up_id g j) e shares = absurd (true≢false (sym h ∙ none _ has (subst IsUpOrDu (sym e) tt)))
    handover_of h (du_id g j) e shares = absurd (true≢false (sym h ∙ none _ has (subst IsUpOrDu (sym e) tt)))
    handover_of h Core e shares =
        let last : (asking_at (kept_by k from) (channel ue.0 (CuCp gnb))).last ≡ 0 =
        subst (λ (n : NodeId). (asking_at (kept_by k n) (channel ue.0 (CuCp gnb))).last ≡ 0) (sym e) (core (channel ue.0 (CuCp gnb))) in
        let given = once.given i m put in
        absurd (omega arith)
    handover_of h (Ue u) e shares = absurd cc

    of_other : shares_interface (CuCp r.gnb) from ≡ true → is_handover_request m ≡ true → (from ≡ CuCp (other_gnb r.gnb)) × WasAsked k.control_messages gnb ue i
    of_other shares h =
        let peer : from ≡ CuCp (other_gnb r.gnb) = handover_of h from refl shares in
        let at : from ≡ CuCp (other_gnb gnb) = peer ∙ ap (λ (g : Gnb). CuCp (other_gnb g)) own in (
          peer,
          record {
            owner = owner;
            message = m;
            was_put = subst (λ (n : NodeId). Contains k.control_messages (record { from = n; to = CuCp gnb; ue = owner; message = m })) at has;
            is_request = kind;
            fits = handover_answers m h;
          },
        )

    -- a new request overtakes the one that is unanswered
    module _ (j : ℕ) (peer : from ≡ CuCp (other_gnb r.gnb)) (asked_for : WasAsked k.control_messages gnb ue j)
        (newest_is : newest_number (kept_at r.transactions.callee (channel ue.0 from)) ≡ j) (unanswered : reply_in (kept_at r.transactions.callee (channel ue.0 from)) ≡ None) where
      newest_here : (ends_in k exact.acts on).answering.newest ≡ j
      newest_here = ap (λ (x : PlainCp). newest_number (kept_at x.transactions.callee (channel ue.0 from))) its ∙ newest_is

      kept_here : (ends_in k exact.acts on).answering.kept ≡ None
      kept_here = ap (λ (x : PlainCp). reply_in (kept_at x.transactions.callee (channel ue.0 from))) its ∙ unanswered

      earlier : Put run_talk (sent_of k) on (asked j asked_for.message)
      earlier = subst (λ (n : NodeId). Put run_talk (sent_of k) (route n (CuCp gnb) ue.0) (asked j asked_for.message))
          (sym (peer ∙ ap (λ (g : Gnb). CuCp (other_gnb g)) own))
          (put_of k.control_messages _ ue.0 j asked_for.was_put asked_for.is_request)

      no_reply : (y : Message Token) → Put run_talk (sent_of k) on (told j y) → ⊥
      no_reply y answer =
          let kept : (ends_in k exact.acts on).answering.kept ≡ Some y =
          once.put_is_kept y (subst (λ (n : ℕ). Put run_talk (sent_of k) on (told n y)) (sym newest_here) answer) in
          let wrong : None ≡ Some y = sym kept_here ∙ kept in absurd cc

      new_overtakes : j < i → overtakes m ≡ true
      new_overtakes above = by (cases_lt (j + 1) i)
        where
          by : (j + 1 < i) ⊎ (i ≤ j + 1) → overtakes m ≡ true
          by (inl past) = exact.only_cancels on i m put (subst (λ (n : ℕ). n + 1 < i) (sym newest_here) past)
          by (inr within) =
              let next : i ≡ j + 1 = omega arith in
              once.overtakes j m (once.given j asked_for.message earlier).0 (subst (λ (n : ℕ). Put run_talk (sent_of k) on (asked n m)) next put) no_reply

    only_cancels : verdict r.transactions.callee (channel ue.0 from) i ≡ new → from ≡ CuCp (other_gnb r.gnb) → (j : ℕ) → offer_of (terminal_of r ue).context ≡ Some j
        → overtakes m ≡ true
    unfolding verdict newest
    only_cancels fresh peer j is =
        let stands = stand ue j is in
        by (kept_at r.transactions.callee (channel ue.0 from)) refl fresh
        (subst (λ (n : NodeId). newest_in (kept_at r.transactions.callee (channel ue.0 n)) ≡ Some j) (sym peer) stands.0.0)
        (subst (λ (n : NodeId). reply_in (kept_at r.transactions.callee (channel ue.0 n)) ≡ None) (sym peer) stands.0.1) stands.1
      where
        above : (e : Kept (Message Token)) (b d : Bool) → nat_lt e.instance i ≡ b → (if b then new else (if d then again else stale)) ≡ new → e.instance < i
        above e true d below h = ltb-true e.instance i below
        above e false true below h = absurd cc
        above e false false below h = absurd cc

        by : (o : Option (Kept (Message Token))) → kept_at r.transactions.callee (channel ue.0 from) ≡ o → verdict_after (newest_in (kept_at r.transactions.callee (channel ue.0 from))) i ≡ new
            → newest_in (kept_at r.transactions.callee (channel ue.0 from)) ≡ Some j → reply_in (kept_at r.transactions.callee (channel ue.0 from)) ≡ None → WasAsked k.control_messages gnb ue j → overtakes m ≡ true
        by None e v newest_is none_kept asked_for = let wrong : None ≡ Some j = sym (ap newest_in e) ∙ newest_is in absurd cc
        by (Some kept) e v newest_is none_kept asked_for =
            let same : Some kept.instance ≡ Some j = sym (ap newest_in e) ∙ newest_is in
            let its_instance : kept.instance ≡ j = cc in
            let v' : (if nat_lt kept.instance i then new else (if kept.instance == i then again else stale)) ≡ new =
            sym (ap (λ (o : Option (Kept (Message Token))). verdict_after (newest_in o) i) e) ∙ v in
            new_overtakes j peer asked_for (ap newest_number e ∙ its_instance) none_kept
            (subst (λ (n : ℕ). n < i) its_instance (above kept (nat_lt kept.instance i) (kept.instance == i) refl v'))

    pub comes_fit : verdict r.transactions.callee (channel ue.0 from) i ≡ new → shares_interface (CuCp r.gnb) from ≡ true → ComesFit (WasAsked k.control_messages gnb) r from m ue i
    comes_fit fresh shares = record { only_cancels = only_cancels fresh; of_other = of_other shares }
