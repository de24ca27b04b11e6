-- Whatever a DU is given, its answers name a TEID as it was given.
use Rattle.std.proofs.Common.{◌≡◌, ◌≤◌, ◌==◌, ℕ, ◌+◌, Bool, true, false, not, ◌||◌, List, [], ◌∷◌, ◌++◌, length, map, Option, Some, None, refl, sym, ◌∙◌, subst, arith}
use Rattle.std.specs.Prelude.{if◌then◌else◌}
use Rattle.std.specs.List.{AllByRecursion, flat_map}
use Rattle.std.specs.Ordering.{nat_cmp}
use Rattle.gnb_types.specs.declared.names.NodeId.{NodeId}
use Rattle.gnb_types.specs.declared.names.NodeId.TheVariants.{CuCp, CuUp, Du as du_id, Ue}
use Rattle.gnb_types.specs.declared.names.UeId.{UeId}
use Rattle.gnb_types.specs.declared.names.BearerId.{BearerId}
use Rattle.gnb_types.specs.declared.names.SnBits.{SnBits}
use Rattle.gnb_types.specs.declared.names.Dir.TheVariants.{Dl, Ul}
use Rattle.gnb_types.specs.declared.keys.Channel.{Channel}
use Rattle.gnb_types.specs.declared.plans.Peer.{Peer}
use Rattle.gnb_types.specs.declared.plans.Tunnel.{Tunnel}
use Rattle.gnb_types.specs.declared.inputs.Order.TheVariants as orders
use Rattle.gnb_types.specs.declared.outputs.Tag.TheVariants.{Absent, Same}
use Rattle.gnb_types.specs.declared.reasons.DropReason.TheVariants.{Unexpected, NoContext, Stale}
use Rattle.gnb_types.specs.Names.{node_text}
use Rattle.gnb_types.specs.Orders.{channel_cmp, bearer_cmp}
use Rattle.tables.specs.Tables.{find}
use Rattle.transaction_defs.specs.Callers.{Opened, is_awaited, close, due, Due, repeats, expires, after_tick}
use Rattle.transaction_defs.specs.Callees.{Kept, kept_at, with_reply, keep}
use Rattle.message_types.specs.declared.f1.F1.{F1}
use Rattle.message_types.specs.declared.f1.F1.TheVariants as f1s
use Rattle.message_types.specs.declared.rrc.Token.{Token}
use Rattle.unit_defs.specs.Ways.{Message, f1, rrc, uplink, status, end_marker, Taken, frame_item, Output, control, packet, radio, deliver, dropped, held, opened, closed, failed, no, Input, control_input, packet_input, radio_input, confirm_input, tick_input, order_input, Way, Answer, gives, spent, with_outputs, ◌then◌, nothing, puts, drops, teids_spent}
use Rattle.unit_defs.specs.Messages.{channel, is_same_gnb, bearers_of, are_first_bearers}
use Rattle.unit_defs.specs.Teids.{teids_are_left}
use Rattle.unit_defs.specs.Transactions.{Kind, request, reply, transfer, kind_of, no_instance, Transactions, Asked, ask, advance, replied, on_reply}
use Rattle.unit_defs.specs.Du.{DuBearer, DuContext, DuTunnel, Du, du_node, context_of, with_transactions, downlinks_of, downlink_list, replies, closings, openings, old_downlinks, replaced, replaces, context_with, setup, context_anew, modify_on, modify, end_markers, released_on, release, relayed_down, relay_down, relayed_up, relay_up, token_ue, start, set_up, asked, transferred, of_cu_cp, of_terminal, control_received, missing, is_missing, told, gap_after, carried, with_bearer, frame_received, taken_in, taken_of, taken_on, take, of_bearer, of_context, pass_up, confirmed, confirm, due_output, tick, du_acts}
use Rattle.intervals.proofs.Intervals.{all_append}
use Rattle.proof_unit_steps.proofs.packets.Answers.{each_put, all_map}
use Rattle.proof_unit_steps.specs.tunnel_names.Names.{Property, IfAny, Names, OwnDuList, OutputsName, AnswerNames, KeptNames}
use Rattle.proof_unit_steps.proofs.tunnel_names.Kept.{closed_names, ask_names, advance_names, on_request_with, DueNames, due_names, ticked_names}
use Rattle.proof_unit_steps.specs.downlink_names.Places.{DownlinkTeid, du_of_teid, Grant, away, Story, Granted, AnswerIs}
use Rattle.proof_unit_steps.proofs.downlink_names.Moves.{on_answer}
use Rattle.proof_unit_steps.proofs.downlink_names.Begins.{all_as}
use Rattle.proof_unit_steps.specs.downlink_grants.Grants.{IsLeft, NoAnswer, Tells, others, DuKeeps, TellIs, DuGoes}
use Rattle.proof_unit_steps.proofs.downlink_grants.Lists.{GoOn, tunnels_in, made_go_on, anew_go_on, given_in, granted_in, not_in, is_in, left_before, is_left}

module _ (t : DownlinkTeid) {C P : Type 0} (way : Way (Message C) C P) (same : (m : Message C) → way.encode m ≡ m) (passes : (c : C) → NoAnswer (way.pass c)) where
  abbrev Record : Type 0
  Record = Du (Message C) C

  abbrev me : NodeId
  me = du_of_teid t

  -- ---- what names no TEID but others says nothing of this one

  others_granted : (g : Option Grant) (ch : Channel) (i : ℕ) (ue : UeId) (from : NodeId) (list : List Tunnel) → OwnDuList (others t) from ue list → Granted t.teid g ch i list
  others_granted g ch i ue (du_id h n) list all =
      all_as (λ (x : Tunnel). x.teid ≡ t.teid → ⊥) (λ (x : Tunnel). x.teid ≡ t.teid → g ≡ Some (record { channel = ch; instance = i; bearer = x.bearer })) list
      (λ x apart named. absurd (apart named)) all
  others_granted g ch i ue from list all = absurd all

  plain_names : (g : Option Grant) (from : NodeId) (m : Message C) → Names (others t) from m → AnswerIs t g me m
  unfolding kind_of
  plain_names g from (f1 (f1s.UeContextSetupResponse ue i list)) names = others_granted g (channel ue.0 me) i ue from list names
  plain_names g from (f1 (f1s.UeContextModificationResponse ue i list)) names = others_granted g (channel ue.0 me) i ue from list names
  plain_names g from m names = tt

  no_answer : (g : Option Grant) (m : Message C) → NoAnswer m → AnswerIs t g me m
  no_answer g m none = on_answer _ _ m (λ ue i list absent. absurd absent) none

  abbrev Is : Option Grant → Property way
  Is g = record {
    owners = others t;
    says = λ from m. AnswerIs t g me m;
    spells = λ from m names. subst (λ (n : Message C). AnswerIs t g me n) (sym (same m)) (plain_names g from m names);
    passes = λ from c. no_answer g (way.pass c) (passes c);
  }

  abbrev Kepts : Option Grant → Transactions (Message C) C → Type 0
  Kepts g x = KeptNames (Is g) (du_of_teid t) x

  if_tells : (g : Option Grant) (o : Option (Message C)) → Tells t g o → IfAny (AnswerIs t g me) o
  if_tells g None h = tt
  if_tells g (Some m) h = h

  tells_if : (g : Option Grant) (o : Option (Message C)) → IfAny (AnswerIs t g me) o → Tells t g o
  tells_if g None h = tt
  tells_if g (Some m) h = h

  -- ---- what it keeps, as messages that name no TEID but others or tell of this one

  kept_of : (s : Story) (r : Record) → DuKeeps t s r → Kepts s.grant r.transactions
  kept_of s r h = record {
    opened = all_as (λ (e : Channel × Opened (Message C)). Tells t s.grant e.1.request) (λ (e : Channel × Opened (Message C)). IfAny (AnswerIs t s.grant me) e.1.request)
        r.transactions.caller.opened (λ e k. if_tells s.grant e.1.request k) h.opened;
    waiting = h.waiting;
    replies = all_as (λ (e : Channel × Kept (Message C)). Tells t s.grant e.1.reply) (λ (e : Channel × Kept (Message C)). IfAny (AnswerIs t s.grant me) e.1.reply)
        r.transactions.callee (λ e k. if_tells s.grant e.1.reply k) h.replies;
  }

  abbrev Left : Story → ℕ → Type 0
  Left s next = IsLeft next t.teid → (s.grant ≡ None) × (s.place ≡ away)

  keeps_of : (s : Story) (r : Record) → Left s r.next_teid → Kepts s.grant r.transactions → DuKeeps t s r
  keeps_of s r left k = record {
    left = left;
    opened = all_as (λ (e : Channel × Opened (Message C)). IfAny (AnswerIs t s.grant me) e.1.request) (λ (e : Channel × Opened (Message C)). Tells t s.grant e.1.request)
        r.transactions.caller.opened (λ e h. tells_if s.grant e.1.request h) k.opened;
    waiting = k.waiting;
    replies = all_as (λ (e : Channel × Kept (Message C)). IfAny (AnswerIs t s.grant me) e.1.reply) (λ (e : Channel × Kept (Message C)). Tells t s.grant e.1.reply)
        r.transactions.callee (λ e h. tells_if s.grant e.1.reply h) k.replies;
  }

  -- ---- answers

  abbrev Puts : Option Grant → List (Output (Message C) P) → Type 0
  Puts g os = AllByRecursion (TellIs t g) os

  -- where it is not given meanwhile
  abbrev Stays : Story → Answer (Message C) P (Du (Message C) C) → Type 0
  Stays s (gives os r) = AllByRecursion (TellIs t s.grant) os × DuKeeps t s r
  Stays s (spent counter) = Unit {0}

  stays_then : (s : Story) (a : Answer (Message C) P Record) (f : Record → Answer (Message C) P Record) → Stays s a
      → ((r : Record) → DuKeeps t s r → Stays s (f r)) → Stays s (a then f)
  stays_then s (gives os r) f h each = by (f r) (each r h.1)
    where
      by : (b : Answer (Message C) P Record) → Stays s b → Stays s (with_outputs os b)
      by (gives more q) k = (all_append (TellIs t s.grant) os more h.0 k.0, k.1)
      by (spent counter) k = tt
  stays_then s (spent counter) f h each = tt

  either : (s : Story) (b : Bool) (x y : Answer (Message C) P Record) → Stays s x → Stays s y → Stays s (if b then x else y)
  either s true x y h k = h
  either s false x y h k = k

  not_both : (x : Grant) → ◌≡◌ {A = Option Grant} None (Some x) → ⊥
  not_both x e = absurd cc

  goes_on : (s : Story) (a : Answer (Message C) P Record) → Stays s a → DuGoes t s a
  goes_on s (gives os r) h =
      (s.grant, record { granted = λ g e. e; asked_stays = λ ch i b e. e; placed_stays = λ e. e }, λ x is none. absurd (not_both x (sym none ∙ is)), h.0, h.1)
  goes_on s (spent counter) h = tt

  -- what a request or a reply puts names no TEID
  control_puts : (g : Option Grant) (node : NodeId) (os : List (Output (Message C) P)) → OutputsName (Is g) node os → Puts g os
  control_puts g node [] all = tt
  control_puts g node (control to ue m ∷ os) all = (all.0, control_puts g node os all.1)
  control_puts g node (packet to teid ue bearer dir tag load ∷ os) all = (tt, control_puts g node os all.1)
  control_puts g node (radio ue bearer dir epoch tag pdu ∷ os) all = (tt, control_puts g node os all.1)
  control_puts g node (deliver ue bearer dir count p ∷ os) all = (tt, control_puts g node os all.1)
  control_puts g node (dropped reason ∷ os) all = (tt, control_puts g node os all.1)
  control_puts g node (held reason ∷ os) all = (tt, control_puts g node os all.1)
  control_puts g node (opened teid ∷ os) all = (tt, control_puts g node os all.1)
  control_puts g node (closed teid ∷ os) all = (tt, control_puts g node os all.1)
  control_puts g node (failed ue cause ∷ os) all = (tt, control_puts g node os all.1)
  control_puts g node (no reason ∷ os) all = (tt, control_puts g node os all.1)

  abbrev GoodAsked : Option Grant → Asked (Message C) C → Type 0
  GoodAsked g x = Kepts g x.transactions

  asked_then : (s : Story) (r : Record) (a : Answer (Message C) P (Asked (Message C) C)) (f : Asked (Message C) C → Record)
      → AnswerNames (Is s.grant) (GoodAsked s.grant) (du_of_teid t) a → ((x : Asked (Message C) C) → Kepts s.grant x.transactions → DuKeeps t s (f x))
      → Stays s (a then (λ x. nothing (f x)))
  asked_then s r (gives os x) f h each = (all_append (TellIs t s.grant) os [] (control_puts s.grant me os h.1) tt, each x h.0)
  asked_then s r (spent counter) f h each = tt

  -- ---- a reply is kept, and put

  reply_stays : (s : Story) (ch : Channel) (m : F1 C) (r : Record) → AnswerIs t s.grant me (f1 m) → DuKeeps t s r → Stays s (replies way ch m r)
  unfolding replied keep
  reply_stays s ch m r is h = (
    (spelled, tt),
    record { left = h.left; opened = h.opened; waiting = h.waiting; replies = by (kept_at r.transactions.callee ch) },
  )
    where
      spelled : AnswerIs t s.grant me (way.encode (f1 m))
      spelled = subst (λ (n : Message C). AnswerIs t s.grant me n) (sym (same (f1 m))) is

      by : (o : Option (Kept (Message C))) → AllByRecursion (λ (e : Channel × Kept (Message C)). Tells t s.grant e.1.reply) (with_reply r.transactions.callee ch (way.encode (f1 m)) o)
      by None = h.replies
      by (Some k) =
          each_put channel_cmp (λ (x : Kept (Message C)). Tells t s.grant x.reply) r.transactions.callee ch (record k { reply = Some (way.encode (f1 m)) }) h.replies spelled

  -- ---- TEIDs are given, and the reply names them

  abbrev grant_of : Option Grant → Option Grant → Option Grant
  grant_of g None = g
  grant_of g (Some x) = Some x

  tells_later : (g h : Option Grant) (o : Option (Message C)) → ((x : Grant) → g ≡ Some x → h ≡ Some x) → Tells t g o → Tells t h o
  tells_later g h None later k = tt
  tells_later g h (Some m) later k =
      on_answer _ _ m (λ ue i list all. all_as (λ (x : Tunnel). x.teid ≡ t.teid → g ≡ Some (record { channel = channel ue.0 me; instance = i; bearer = x.bearer }))
      (λ (x : Tunnel). x.teid ≡ t.teid → h ≡ Some (record { channel = channel ue.0 me; instance = i; bearer = x.bearer })) list (λ x is named. later _ (is named)) all) k

  -- a context with these bearers takes the place of the old one
  module _ (s : Story) (ue : UeId) (i : ℕ) (r : Record) (h : DuKeeps t s r) (c : DuContext) (on : GoOn r.next_teid c.bearers)
      (left : teids_are_left r.next_teid (length c.bearers) ≡ true) where
    abbrev found : Option Grant
    found = given_in (channel ue.0 me) i t.teid c.bearers

    abbrev told_as : Option Grant
    told_as = grant_of s.grant found

    abbrev after : Story
    after = record s { grant = told_as }

    was_left : (x : Grant) → found ≡ Some x → (s.grant ≡ None) × (s.place ≡ away)
    was_left x is = h.left (is_left r.next_teid (length c.bearers) t.teid left (is_in (channel ue.0 me) i t.teid r.next_teid c.bearers x on is).0)

    later_by : (o : Option Grant) → ((x : Grant) → o ≡ Some x → (s.grant ≡ None) × (s.place ≡ away)) → (x : Grant) → s.grant ≡ Some x → grant_of s.grant o ≡ Some x
    later_by None was x is = is
    later_by (Some y) was x is = absurd (not_both x (sym (was y refl).0 ∙ is))

    later : (x : Grant) → s.grant ≡ Some x → told_as ≡ Some x
    later x is = later_by found was_left x is

    granted : Granted t.teid told_as (channel ue.0 me) i (downlink_list c)
    granted = by found refl (granted_in (channel ue.0 me) i t.teid r.next_teid c.bearers on)
      where
        by : (o : Option Grant) → found ≡ o → Granted t.teid found (channel ue.0 me) i (tunnels_in c.bearers)
            → Granted t.teid (grant_of s.grant o) (channel ue.0 me) i (tunnels_in c.bearers)
        by None is all = not_in (channel ue.0 me) i t.teid c.bearers s.grant is
        by (Some x) is all = subst (λ (o : Option Grant). Granted t.teid o (channel ue.0 me) i (tunnels_in c.bearers)) is all

    replaced_keeps : (old : Option DuContext) → DuKeeps t after (replaced way ue old c r)
    replaced_keeps old = record {
      left = λ is.
          let before = left_before r.next_teid (length c.bearers) t.teid left is in
          let was = h.left before.0 in (none_given found refl before.1 was.0, was.1);
      opened = all_as (λ (e : Channel × Opened (Message C)). Tells t s.grant e.1.request) (λ (e : Channel × Opened (Message C)). Tells t told_as e.1.request)
          r.transactions.caller.opened (λ e k. tells_later s.grant told_as e.1.request later k) h.opened;
      waiting = h.waiting;
      replies = all_as (λ (e : Channel × Kept (Message C)). Tells t s.grant e.1.reply) (λ (e : Channel × Kept (Message C)). Tells t told_as e.1.reply)
          r.transactions.callee (λ e k. tells_later s.grant told_as e.1.reply later k) h.replies;
    }
      where
        none_given : (o : Option Grant) → found ≡ o → r.next_teid + length c.bearers ≤ t.teid → s.grant ≡ None → grant_of s.grant o ≡ None
        none_given None is high none = none
        none_given (Some x) is high none =
            let below = (is_in (channel ue.0 me) i t.teid r.next_teid c.bearers x on is).1 in absurd (omega (arith, below, high))

    new_away : (o : Option Grant) → ((x : Grant) → o ≡ Some x → (s.grant ≡ None) × (s.place ≡ away)) → (x : Grant) → grant_of s.grant o ≡ Some x → s.grant ≡ None
        → s.place ≡ away
    new_away None was x is none = absurd (not_both x (sym none ∙ is))
    new_away (Some y) was x is none = (was y refl).1

    goes_after : (a : Answer (Message C) P Record) → Stays after a → DuGoes t s a
    goes_after (gives os q) k = (
      told_as,
      record { granted = later; asked_stays = λ ch j b e. e; placed_stays = λ e. e },
      λ x is none. new_away found was_left x is none,
      k.0,
      k.1,
    )
    goes_after (spent counter) k = tt

    opened_puts : (old : Option DuContext) → AllByRecursion (TellIs t {C = C} {P = P} told_as) (map (λ teid. closed teid) (old_downlinks way old) ++ openings way c)
    opened_puts old =
        all_append (TellIs t told_as) (map (λ teid. closed teid) (old_downlinks way old)) (openings way c)
        (all_map (TellIs t told_as) (λ teid. closed teid) (λ teid. tt) (old_downlinks way old))
        (all_map (TellIs t told_as) (λ teid. opened teid) (λ teid. tt) (downlinks_of c))

    given_goes : (old : Option DuContext) (ch : Channel) (m : F1 C) → AnswerIs t told_as me (f1 m)
        → DuGoes t s (gives (map (λ teid. closed teid) (old_downlinks way old) ++ openings way c) (replaced way ue old c r) then replies way ch m)
    given_goes old ch m is =
        goes_after (gives (map (λ teid. closed teid) (old_downlinks way old) ++ openings way c) (replaced way ue old c r) then replies way ch m)
        (stays_then after (gives (map (λ teid. closed teid) (old_downlinks way old) ++ openings way c) (replaced way ue old c r)) (replies way ch m)
        (opened_puts old, replaced_keeps old) (λ q k. reply_stays after ch m q is k))

  module _ (s : Story) (r : Record) (h : DuKeeps t s r) where
    replaced_goes : (ch : Channel) (ue : UeId) (i : ℕ) (old : Option DuContext) (c : DuContext) (m : F1 C) → GoOn r.next_teid c.bearers
        → ((g : Option Grant) → Granted t.teid g (channel ue.0 me) i (downlink_list c) → AnswerIs t g me (f1 m))
        → DuGoes t s (replaces way ue old c r then replies way ch m)
    unfolding replaces
    replaced_goes ch ue i old c m on is = by (teids_are_left r.next_teid (length c.bearers)) refl
      where
        by : (b : Bool) → teids_are_left r.next_teid (length c.bearers) ≡ b
            → DuGoes t s ((if b then gives (map (λ teid. closed teid) (old_downlinks way old) ++ openings way c) (replaced way ue old c r) else spent teids_spent)
            then replies way ch m)
        by true left = given_goes s ue i r h c on left old ch m (is (told_as s ue i r h c on left) (granted s ue i r h c on left))
        by false left = tt

    nothing_put : (o : Output (Message C) P) → TellIs t s.grant o → DuGoes t s (puts o r)
    nothing_put o is = goes_on s (puts o r) ((is, tt), h)

    setup_goes : (ch : Channel) (ue : UeId) (i epoch : ℕ) (uplinks : List Tunnel) (sn : SnBits) (peer : Peer) → DuGoes t s (setup way ch ue i epoch uplinks sn peer r)
    unfolding setup
    setup_goes ch ue i epoch uplinks sn peer = by (not (are_first_bearers (bearers_of uplinks)))
      where
        c : DuContext
        c = context_with way r epoch uplinks sn peer

        by : (b : Bool) → DuGoes t s (if b then drops Unexpected r
            else (replaces way ue (context_of r ue) (context_with way r epoch uplinks sn peer) r
            then replies way ch (f1s.UeContextSetupResponse ue i (downlink_list (context_with way r epoch uplinks sn peer)))))
        by true = nothing_put (dropped Unexpected) tt
        by false =
            replaced_goes ch ue i (context_of r ue) (context_with way r epoch uplinks sn peer)
            (f1s.UeContextSetupResponse ue i (downlink_list (context_with way r epoch uplinks sn peer)))
            (made_go_on (CuUp peer.gnb peer.up) r.next_teid uplinks) (λ g k. k)

    modify_goes : (ch : Channel) (ue : UeId) (i epoch : ℕ) (o : Option DuContext) → DuGoes t s (modify_on way ch ue i epoch r o)
    modify_goes ch ue i epoch None = nothing_put (dropped NoContext) tt
    modify_goes ch ue i epoch (Some c) =
        replaced_goes ch ue i (Some c) (context_anew way r epoch c) (f1s.UeContextModificationResponse ue i (downlink_list (context_anew way r epoch c)))
        (anew_go_on r.next_teid c.bearers) (λ g k. k)

  -- ---- all else gives none

  module _ (s : Story) where
    one : (o : Output (Message C) P) (r : Record) → TellIs t s.grant o → DuKeeps t s r → Stays s (puts o r)
    one o r is h = ((is, tt), h)

    released : (ue : UeId) (r : Record) (o : Option DuContext) → DuKeeps t s r → Stays s (released_on way ue r o)
    released ue r None h = (tt, h)
    released ue r (Some c) h = (
      all_append (TellIs t s.grant) (end_markers way ue c) (closings way c)
          (all_map (TellIs t s.grant) (λ e. packet e.1.up e.1.uplink ue e.0 Ul Absent end_marker) (λ e. tt) c.bearers)
          (all_map (TellIs t s.grant) (λ teid. closed teid) (λ teid. tt) (downlinks_of c)),
      record { left = h.left; opened = h.opened; waiting = h.waiting; replies = h.replies },
    )

    release_stays : (ch : Channel) (ue : UeId) (i : ℕ) (r : Record) → DuKeeps t s r → Stays s (release way ch ue i r)
    unfolding release
    release_stays ch ue i r h =
        stays_then s (replies way ch (f1s.UeContextReleaseComplete ue i) r) (λ q. released_on way ue q (context_of q ue))
        (reply_stays s ch (f1s.UeContextReleaseComplete ue i) r tt h) (λ q k. released ue q (context_of q ue) k)

    asked_goes : (ch : Channel) (m : Message C) (r : Record) → DuKeeps t s r → DuGoes t s (asked way ch m r)
    unfolding modify
    asked_goes ch (f1 (f1s.UeContextSetupRequest ue i epoch uplinks sn peer)) r h = setup_goes s r h ch ue i epoch uplinks sn peer
    asked_goes ch (f1 (f1s.UeContextModificationRequest ue i epoch)) r h = modify_goes s r h ch ue i epoch (context_of r ue)
    asked_goes ch (f1 (f1s.UeContextReleaseCommand ue i)) r h = goes_on s (release way ch ue i r) (release_stays ch ue i r h)
    asked_goes ch m r h = goes_on s (drops Unexpected r) (one (dropped Unexpected) r tt h)

    relayed_down_stays : (ue : UeId) (container : C) (r : Record) (c : Option DuContext) → DuKeeps t s r → Stays s (relayed_down way ue container r c)
    relayed_down_stays ue container r None h = one (dropped NoContext) r tt h
    relayed_down_stays ue container r (Some c) h =
        one (control (Ue ue.0) ue.0 (way.pass container)) r (no_answer s.grant (way.pass container) (passes container)) h

    transferred_stays : (m : Message C) (r : Record) → DuKeeps t s r → Stays s (transferred way m r)
    unfolding relay_down
    transferred_stays (f1 (f1s.DlRrcMessageTransfer ue container)) r h = relayed_down_stays ue container r (context_of r ue) h
    transferred_stays m r h = one (dropped Unexpected) r tt h

    relayed_up_stays : (ue : UeId) (token : Token) (r : Record) (c : Option DuContext) → DuKeeps t s r → Stays s (relayed_up way ue token r c)
    relayed_up_stays ue token r None h = one (dropped NoContext) r tt h
    relayed_up_stays ue token r (Some c) h =
        one (control (CuCp r.gnb) ue.0 (way.encode (f1 (f1s.UlRrcMessageTransfer ue (way.wrap token))))) r
        (subst (λ (n : Message C). AnswerIs t s.grant me n) (sym (same (f1 (f1s.UlRrcMessageTransfer ue (way.wrap token))))) tt) h

    of_terminal_stays : (ue : ℕ) (m : Message C) (r : Record) → DuKeeps t s r → Stays s (of_terminal way ue m r)
    unfolding relay_up
    of_terminal_stays ue (rrc token) r h =
        either s ((token_ue way token).0 == ue) _ (drops Unexpected r) (relayed_up_stays (token_ue way token) token r (context_of r (token_ue way token)) h)
        (one (dropped Unexpected) r tt h)
    of_terminal_stays ue m r h = one (dropped Unexpected) r tt h

    set_up_stays : (ch : Channel) (r : Record) → DuKeeps t s r → Stays s (set_up way ch r)
    unfolding set_up
    set_up_stays ch r h =
        let x : Transactions (Message C) C = record r.transactions { caller = close r.transactions.caller ch } in
        asked_then s r (advance way x ch) (λ a. record r { is_set_up = true; transactions = a.transactions })
        (advance_names (Is s.grant) me x ch (closed_names (Is s.grant) me r.transactions ch (kept_of s r h)))
        (λ a k. keeps_of s (record r { is_set_up = true; transactions = a.transactions }) h.left k)

    with_kept : (r : Record) (x : Transactions (Message C) C) → DuKeeps t s r → Kepts s.grant x → DuKeeps t s (with_transactions r x)
    with_kept r x h k = keeps_of s (with_transactions r x) h.left k

    answer_goes : (a : Answer (Message C) P Record) → AnswerNames (Is s.grant) (DuKeeps t s) me a → DuGoes t s a
    answer_goes (gives os r) k = goes_on s (gives os r) (control_puts s.grant me os k.1, k.0)
    answer_goes (spent counter) k = tt

    of_cp_goes : (from : NodeId) (m : Message C) (r : Record) (k : Kind) → DuKeeps t s r → DuGoes t s (of_cu_cp way from m r k)
    unfolding on_reply
    of_cp_goes from m r (request ue i) h =
        on_request_with (Is s.grant) me (DuKeeps t s) (DuGoes t s) answer_goes r r.transactions (channel ue from) i
        (λ x. asked way (channel ue from) m (with_transactions r x)) h (kept_of s r h) (λ x k. asked_goes (channel ue from) m (with_transactions r x) (with_kept r x h k))
    of_cp_goes from m r (reply ue i) h =
        goes_on s (of_cu_cp way from m r (reply ue i))
        (either s (is_awaited r.transactions.caller (channel ue from) i) (set_up way (channel ue from) r) (drops Stale r) (set_up_stays (channel ue from) r h)
        (one (dropped Stale) r tt h))
    of_cp_goes from m r (transfer ue) h = goes_on s (transferred way m r) (transferred_stays m r h)

    control_goes : (from : NodeId) (m : Message C) (r : Record) → DuKeeps t s r → DuGoes t s (control_received way from m r)
    unfolding control_received
    control_goes (CuCp g) m r h = by (is_same_gnb g r.gnb)
      where
        by : (b : Bool) → DuGoes t s (if b then of_cu_cp way (CuCp g) m r (kind_of m) else drops Unexpected r)
        by true = of_cp_goes (CuCp g) m r (kind_of m) h
        by false = goes_on s (drops Unexpected r) (one (dropped Unexpected) r tt h)
    control_goes (Ue ue) m r h = goes_on s (of_terminal way ue m r) (of_terminal_stays ue m r h)
    control_goes from m r h = goes_on s (drops Unexpected r) (one (dropped Unexpected) r tt h)

    -- ---- packets

    told_puts : (ue : UeId) (bearer : BearerId) (b : DuBearer) (poll : Bool) (n : ℕ) → Puts s.grant (told way ue bearer b poll n)
    told_puts ue bearer b poll n = by (is_missing way b n || poll)
      where
        by : (x : Bool) → Puts s.grant (if x then packet b.up b.uplink ue bearer Dl Absent (status (missing way b n) None) ∷ [] else [])
        by true = (tt, tt)
        by false = tt

    carried_stays : (ue : UeId) (bearer : BearerId) (c : DuContext) (gap : Bool) (pdu : Option P) (r : Record) → DuKeeps t s r → Stays s (carried way ue bearer c gap pdu r)
    carried_stays ue bearer c gap None r h = (tt, h)
    carried_stays ue bearer c true (Some pdu) r h = ((tt, tt), h)
    carried_stays ue bearer c false (Some pdu) r h = ((tt, tt), h)

    frame_stays : (ue : UeId) (bearer : BearerId) (c : DuContext) (b : DuBearer) (item : Taken P) (r : Record) → DuKeeps t s r
        → Stays s (frame_received way ue bearer c b item r)
    frame_stays ue bearer c b (frame_item poll restart n pdu) r h =
        let on : DuBearer = record b { awaited = n + 1; gap = gap_after way b n restart pdu } in
        stays_then s (gives (told way ue bearer b poll n) (with_bearer way ue bearer c on r)) (carried way ue bearer c (gap_after way b n restart pdu) pdu)
        (told_puts ue bearer b poll n, record { left = h.left; opened = h.opened; waiting = h.waiting; replies = h.replies })
        (λ q k. carried_stays ue bearer c (gap_after way b n restart pdu) pdu q k)
    frame_stays ue bearer c b item r h = one (dropped Unexpected) r tt h

    take_stays : (teid : ℕ) (item : Taken P) (r : Record) → DuKeeps t s r → Stays s (take way teid item r)
    unfolding take
    take_stays teid item r h = by (find nat_cmp r.tunnels teid)
      where
        in_bearer : (ue : UeId) (bearer : BearerId) (c : DuContext) (o : Option DuBearer) → Stays s (taken_in way ue bearer c item r o)
        in_bearer ue bearer c None = ((tt, tt), h)
        in_bearer ue bearer c (Some b) = frame_stays ue bearer c b item r h

        in_context : (ue : UeId) (bearer : BearerId) (o : Option DuContext) → Stays s (taken_of way ue bearer item r o)
        in_context ue bearer None = ((tt, tt), h)
        in_context ue bearer (Some c) = in_bearer ue bearer c (find bearer_cmp c.bearers bearer)

        by : (o : Option DuTunnel) → Stays s (taken_on way item r o)
        by None = ((tt, tt), h)
        by (Some x) = in_context x.ue x.bearer (context_of r x.ue)

    context_stays : (r : Record) (row : DuContext → DuBearer → Answer (Message C) P Record) (bearer : BearerId) (o : Option DuContext) → DuKeeps t s r
        → ((c : DuContext) (b : DuBearer) → Stays s (row c b)) → Stays s (of_context way r row bearer o)
    context_stays r row bearer None h each = ((tt, tt), h)
    context_stays r row bearer (Some c) h each = by (find bearer_cmp c.bearers bearer)
      where
        by : (o : Option DuBearer) → Stays s (of_bearer way r row c o)
        by None = ((tt, tt), h)
        by (Some b) = each c b

    confirmed_stays : (ue : UeId) (bearer : BearerId) (r : Record) (b : DuBearer) (n : Option ℕ) → DuKeeps t s r → Stays s (confirmed way ue bearer r b n)
    confirmed_stays ue bearer r b None h = (tt, h)
    confirmed_stays ue bearer r b (Some n) h = ((tt, tt), h)

    -- ---- F1 Setup, a tick, and the table

    start_stays : (r : Record) → DuKeeps t s r → Stays s (start way r)
    unfolding start kind_of
    start_stays r h =
        either s r.is_set_up (nothing r) _ (tt, h)
        (asked_then s r (ask way r.transactions (channel 0 (CuCp r.gnb))
        (record { message = f1 (f1s.F1SetupRequest no_instance (node_text (du_node r))); deadline = None; awaited = false }))
        (λ a. with_transactions r a.transactions)
        (ask_names (Is s.grant) me r.transactions (channel 0 (CuCp r.gnb))
        (record { message = f1 (f1s.F1SetupRequest no_instance (node_text (du_node r))); deadline = None; awaited = false }) (kept_of s r h) tt)
        (λ a k. with_kept r a.transactions h k))

    due_puts : (ds : List (Due (Message C))) → AllByRecursion (DueNames (Is s.grant) me) ds → Puts s.grant (flat_map (due_output way) ds)
    due_puts [] all = tt
    due_puts (repeats ch m ∷ ds) all = (all.0, due_puts ds all.1)
    due_puts (expires ch ∷ ds) all = due_puts ds all.1

    tick_stays : (r : Record) → DuKeeps t s r → Stays s (tick way r)
    unfolding tick
    tick_stays r h = (
      due_puts (due r.transactions.caller) (due_names (Is s.grant) me r.transactions.caller (kept_of s r h).opened),
      with_kept r (record r.transactions { caller = after_tick r.transactions.caller }) h (ticked_names (Is s.grant) me r.transactions (kept_of s r h)),
    )

    pub du_goes : (r : Record) (input : Input C P) → DuKeeps t s r → DuGoes t s (du_acts way r input)
    unfolding du_acts pass_up confirm
    du_goes r (control_input from m) h = control_goes from m r h
    du_goes r (packet_input teid item) h = goes_on s (take way teid item r) (take_stays teid item r h)
    du_goes r (radio_input ue bearer Ul pdu content) h =
        goes_on s (of_context way r (λ c b. puts (packet b.up b.uplink ue bearer Ul Same (uplink pdu)) r) bearer (context_of r ue))
        (context_stays r (λ c b. puts (packet b.up b.uplink ue bearer Ul Same (uplink pdu)) r) bearer (context_of r ue) h (λ c b. ((tt, tt), h)))
    du_goes r (confirm_input ue bearer Dl pdu content) h =
        goes_on s (of_context way r (λ c b. confirmed way ue bearer r b (way.number c.sn pdu)) bearer (context_of r ue))
        (context_stays r (λ c b. confirmed way ue bearer r b (way.number c.sn pdu)) bearer (context_of r ue) h
        (λ c b. confirmed_stays ue bearer r b (way.number c.sn pdu) h))
    du_goes r tick_input h = goes_on s (tick way r) (tick_stays r h)
    du_goes r (order_input orders.Start) h = goes_on s (start way r) (start_stays r h)
    du_goes r input h = goes_on s (drops Unexpected r) (one (dropped Unexpected) r tt h)
