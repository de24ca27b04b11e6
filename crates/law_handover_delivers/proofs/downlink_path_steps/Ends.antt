-- Where a context's downlink leads, and for which radio it was switched, changes by a switch alone.
use Rattle.std.proofs.Common.{◌≡◌, ℕ, ◌==◌, Bool, true, false, List, [], ◌∷◌, ◌++◌, Option, Some, None, refl, sym, ap, subst, ◌∙◌, eqb-true}
use Rattle.std.specs.Prelude.{if◌then◌else◌, ◌||◌}
use Rattle.std.specs.List.{AllByRecursion}
use Rattle.gnb_types.specs.declared.names.NodeId.{NodeId}
use Rattle.gnb_types.specs.declared.names.SnBits.{SnBits}
use Rattle.gnb_types.specs.declared.plans.SnStatus.{SnStatus}
use Rattle.message_types.specs.declared.rrc.Token.{Token}
use Rattle.intervals.proofs.Intervals.{all_append}
use Rattle.pdcp_defs.specs.Receivers.{Delivery, received_bits, is_duplicate, stored, deliver}
use Rattle.pdcp_defs.specs.Senders.{Sender, has_room, may_restore, numbered as with_next, confirmed_by}
use Rattle.unit_defs.specs.Ways.{Message, Pdu, report_content, Taken, fresh_item, numbered_item, uplink_item, status_item, end_item, Output, Answer, gives}
use Rattle.unit_defs.specs.CuUpRecords.{DownlinkTunnel, CuUpBearer, CuUpScope, TunnelKind, n3, f1u_uplink, forwarding_down, forwarding_up}
use Rattle.unit_defs.specs.CuUpBearers.{bits_in, owed, thawed}
use Rattle.run_defs.specs.Runs.{plain_way}
use Rattle.bearer_defs.specs.chain_defs.Models as down_models
use Rattle.bearer_defs.specs.chain_defs.Models.{Member, Model, set}
use Rattle.bearer_defs.specs.chain_defs.Orders as down
use Rattle.bearer_defs.specs.chain_defs.Assumptions.{AreKept}
use Rattle.law_downlink_order.proofs.chain.Frames.{set_here}
use Rattle.proof_cu_up_orders.specs.chain_rows.Shown.{number_orders}
use Rattle.law_downlink_order.specs.path.Paths.{Sending, packets_sent}
use Rattle.law_downlink_order.specs.path.Steps.{sent_anew, sent_again}
use Rattle.proof_cu_up_orders.specs.handover_rows.Shown.{handed_up}
use Rattle.proof_cu_up_orders.specs.down_orders.Down.{confirmed_if, packets_if}
use Rattle.proof_cu_up_orders.specs.down_orders.Down as rows
use Rattle.proof_cu_up_orders.specs.frame_rows.Sent.{sent_for_item, switched_to, sent_by_switch, sent_by}
use Rattle.proof_cu_up_orders.specs.frame_rows.Shown.{end_of, PutsSent}
use Rattle.proof_cu_up_orders.proofs.frame_rows.Sends.{frame_keeps, packets_keep, anew_keeps, again_keeps}
use Rattle.proof_cu_up_orders.proofs.frame_rows.Rows.{order_puts}
use Rattle.proof_cu_up_orders.specs.frames_kept.Asked.{GoesOn}
use Rattle.proof_cu_up_orders.specs.context_orders.Orders.{CuUpModel, ContextStep, makes, adds, switches, freezes, knows, resumes, releases, closes, takes, polls, on_switch, on_status, on_resume, done}
use Rattle.proof_cu_up_orders.specs.bearer_orders.Happenings.{Beside}
use Rattle.proof_cu_up_orders.specs.bearer_orders.Down as downs

-- ---- where the downlink leads

item_end : (p : CuUpModel) (kind : TunnelKind) (item : Taken Pdu) → end_of (sent_for_item p kind item).bearer.downlink ≡ end_of p.bearer.downlink
item_end p n3 (fresh_item packet) = (packets_keep (packets_if p.at (down.waits p.bearer packet)) p.bearer).end
item_end p forwarding_down (fresh_item packet) = (packets_keep (packets_if p.at (down.waits p.bearer packet)) p.bearer).end
item_end p forwarding_down (numbered_item (Some count) packet) = by p.at.flags.released (may_restore p.at.sn p.at.quota p.bearer.sender count) p.at.flags.frozen
  where
    by : (r m f : Bool) → end_of (if r then record { frames = []; bearer = p.bearer } else
        (if m then (if f then record { frames = []; bearer = p.bearer } else packets_sent ((count, packet) ∷ []) p.bearer)
        else record { frames = []; bearer = p.bearer })).bearer.downlink ≡ end_of p.bearer.downlink
    by true m f = refl
    by false false f = refl
    by false true true = refl
    by false true false = (packets_keep ((count, packet) ∷ []) p.bearer).end
item_end p f1u_uplink (uplink_item (report_content fmc bits)) =
    (packets_keep (packets_if p.at (record p.bearer { sender = confirmed_by p.bearer.sender fmc bits })) p.bearer).end
item_end p f1u_uplink (status_item lost delivered) =
    let c : CuUpBearer = confirmed_if delivered p.bearer in
    (packets_keep (packets_if p.at c) (sent_again p.at.flags.frozen lost c).bearer).end ∙ (again_keeps p.at.flags.frozen lost c).end ∙ by delivered
  where
    by : (o : Option ℕ) → end_of (confirmed_if o p.bearer).downlink ≡ end_of p.bearer.downlink
    by None = refl
    by (Some count) = refl
item_end p _ _ = refl

abbrev sending_if : Bool → Sending → Sending → Sending
sending_if true one other = one
sending_if false one other = other

status_end : (p : CuUpModel) (status : SnStatus) → end_of (sent_by {P = Pdu} p (knows status)).bearer.downlink ≡ end_of p.bearer.downlink
status_end p status = by p.at.flags.arrived
  where
    c : CuUpBearer
    c = handed_up (down.known p.bearer status)

    one : Sending
    one = sent_anew status.ul_first (bits_in status.ul_received) c

    by : (t : Bool) → end_of (sending_if t (record {
      frames = one.frames ++ (packets_sent (packets_if (on_status p).at c) one.bearer).frames;
      bearer = (packets_sent (packets_if (on_status p).at c) one.bearer).bearer;
    }) (record { frames = []; bearer = p.bearer })).bearer.downlink
        ≡ end_of p.bearer.downlink
    by true = (packets_keep (packets_if (on_status p).at c) one.bearer).end ∙ (anew_keeps status.ul_first (bits_in status.ul_received) c).end
    by false = refl

resume_end : (p : CuUpModel) → end_of (sent_by {P = Pdu} p resumes).bearer.downlink ≡ end_of p.bearer.downlink
resume_end p =
    let c : CuUpBearer = record (thawed p.bearer) { restart = p.bearer.restart || p.bearer.loss_while_frozen } in
    (packets_keep (packets_if (on_resume p).at c) (packets_sent (owed p.bearer) c).bearer).end ∙ (packets_keep (owed p.bearer) c).end

sent_end : (p : CuUpModel) (order : ContextStep Pdu) → GoesOn order → end_of (sent_by p order).bearer.downlink ≡ end_of p.bearer.downlink
sent_end p (makes instance sn quota target teid) on = refl
sent_end p (adds teid) on = refl
sent_end p (switches du teid) on = absurd on
sent_end p (freezes peer d u) on = refl
sent_end p (knows status) on = status_end p status
sent_end p resumes on = resume_end p
sent_end p releases on = refl
sent_end p closes on = absurd on
sent_end p (takes kind teid item) on = item_end p kind item
sent_end p polls on = (frame_keeps true false None p.bearer).end

switch_end : (p : CuUpModel) (to : NodeId) (teid : ℕ) → end_of (sent_by_switch p to teid).bearer.downlink ≡ Some (record { node = to; teid = teid })
switch_end p to teid = by p.at.flags.may_serve
  where
    c : CuUpBearer
    c = switched_to p to teid

    one : Sending
    one = sent_anew c.receiver.deliv (received_bits c.receiver) c

    by : (t : Bool) → end_of (sending_if t (record {
      frames = one.frames ++ (packets_sent (packets_if (on_switch p).at c) one.bearer).frames;
      bearer = (packets_sent (packets_if (on_switch p).at c) one.bearer).bearer;
    }) (record { frames = []; bearer = c })).bearer.downlink
        ≡ Some (record { node = to; teid = teid })
    by true = (packets_keep (packets_if (on_switch p).at c) one.bearer).end ∙ (anew_keeps c.receiver.deliv (received_bits c.receiver) c).end
    by false = refl

-- the bearer that the row leaves
module _ (p q : CuUpModel) (outputs : List (Output (Message Token) Pdu)) where
  puts_it : (order : ContextStep Pdu) → done plain_way order p ≡ gives outputs (Some q) → q.bearer.downlink ≡ (sent_by p order).bearer.downlink
  puts_it order answers =
      (subst (λ (a : Answer (Message Token) Pdu (Option CuUpModel)). PutsSent plain_way p.at.sn (sent_by p order) a) answers
      (order_puts plain_way p order)).1

  pub end_stays : (order : ContextStep Pdu) → GoesOn order → done plain_way order p ≡ gives outputs (Some q) → end_of q.bearer.downlink ≡ end_of p.bearer.downlink
  end_stays order on answers = ap end_of (puts_it order answers) ∙ sent_end p order on

  pub end_named : (to : NodeId) (teid : ℕ) → done plain_way (switches to teid) p ≡ gives outputs (Some q)
      → end_of q.bearer.downlink ≡ Some (record { node = to; teid = teid })
  end_named to teid answers = ap end_of (puts_it (switches to teid) answers) ∙ switch_end p to teid

-- ---- for which radio it was switched

abbrev pub KeepsRadio : down.ModelStep → Type 0
KeepsRadio (down.makes x target teid) = ⊥
KeepsRadio (down.switches x downlink epoch) = ⊥
KeepsRadio (down.closes x) = ⊥
KeepsRadio order = Unit {0}

abbrev KeepAll : List down.ModelStep → Type 0
KeepAll os = AllByRecursion KeepsRadio os

module _ (s : Model) (y : ℕ) where
  abbrev Same : Model → Type 0
  Same t = (t.members y).epoch ≡ (s.members y).epoch

  set_same : (x : ℕ) (m : Member) → m.epoch ≡ (s.members x).epoch → (set s.members x m y).epoch ≡ (s.members y).epoch
  set_same x m same = by (y == x) refl
    where
      by : (t : Bool) → (y == x) ≡ t → (if t then m else s.members y).epoch ≡ (s.members y).epoch
      by true e = same ∙ ap (λ (z : ℕ). (s.members z).epoch) (sym (eqb-true y x e))
      by false e = refl

  put_same : (x : ℕ) (m : Member) (items : List down_models.Item) → m.epoch ≡ (s.members x).epoch → Same (down.passed s x m items)
  put_same x m items same = by (y == m.next_hop) refl
    where
      now : ℕ → Member
      now = set s.members x m

      by : (t : Bool) → (y == m.next_hop) ≡ t
          → (if t then record (now m.next_hop) { forwarded = (now m.next_hop).forwarded ++ items } else now y).epoch ≡ (s.members y).epoch
      by true e = ap (λ (z : ℕ). (now z).epoch) (sym (eqb-true y m.next_hop e)) ∙ set_same x m same
      by false e = set_same x m same

  order_same : (o : down.ModelStep) → KeepsRadio o → Same (down.after s o)
  unfolding down.after
  order_same (down.offers packet) keeps = set_same s.path _ refl
  order_same (down.switches_path to) keeps = set_same s.path _ refl
  order_same (down.makes x target teid) keeps = absurd keeps
  order_same (down.freezes x to hop) keeps = by (y == to) refl
    where
      m : Member
      m = s.members x

      frozen_one : Member
      frozen_one = record m { flags = record m.flags { frozen = true }; bearer = down.frozen m.bearer hop; next_hop = to }

      fed : Member
      fed = record (s.members to) { forwarded = (s.members to).forwarded ++ down.forwards m.bearer; promised = m.bearer.sender.next }

      by : (t : Bool) → (y == to) ≡ t → (if t then fed else set s.members x frozen_one y).epoch ≡ (s.members y).epoch
      by true e = ap (λ (z : ℕ). (s.members z).epoch) (sym (eqb-true y to e))
      by false e = set_same x frozen_one refl
  order_same (down.knows x status) keeps = set_same x _ refl
  order_same (down.switches x downlink epoch) keeps = absurd keeps
  order_same (down.resumes x) keeps = set_same x _ refl
  order_same (down.releases x) keeps = set_same x _ refl
  order_same (down.closes x) keeps = absurd keeps
  order_same (down.arrives x) keeps = refl
  order_same down.fails keeps = refl
  order_same (down.keeps_n3 x packet rest) keeps = set_same x _ refl
  order_same (down.keeps_fresh x packet rest) keeps = set_same x _ refl
  order_same (down.passes_n3 x packet rest) keeps = put_same x _ _ refl
  order_same (down.passes_fresh x packet rest) keeps = put_same x _ _ refl
  order_same (down.sends x count packet rest) keeps = set_same x _ refl
  order_same (down.passes_numbered x count packet rest) keeps = put_same x _ _ refl
  order_same (down.drops x count packet rest) keeps = set_same x _ refl
  order_same (down.ends_n3 x rest) keeps = put_same x _ _ refl
  order_same (down.ends_hop x rest) keeps = set_same x _ refl
  order_same (down.numbers x packet rest) keeps = set_same x _ refl
  order_same (down.confirms x count) keeps = set_same x _ refl
  order_same (down.reports x fmc bits) keeps = set_same x _ refl
  order_same (down.reports_loss x) keeps = set_same x _ refl
  order_same (down.sends_again x) keeps = refl
  order_same (down.carries count packet rest) keeps = by (is_duplicate s.terminal count) (deliver (stored s.terminal count packet))
    where
      by : (t : Bool) (z : Delivery (List ℕ)) → ((down.handed (record s { air = rest }) t z).members y).epoch ≡ (s.members y).epoch
      by true z = refl
      by false z = refl

run_same : (s : Model) (y : ℕ) (os : List down.ModelStep) → KeepAll os → ((down.run s os).members y).epoch ≡ (s.members y).epoch
unfolding down.run
run_same s y [] all = refl
run_same s y (o ∷ os) all = run_same (down.after s o) y os all.1 ∙ order_same s y o all.0

module _ (x : ℕ) where
  if_keeps : (t : Bool) (os more : List down.ModelStep) → KeepAll os → KeepAll more → KeepAll (if t then os else more)
  if_keeps true os more first other = first
  if_keeps false os more first other = other

  numbers_keep : (sn : SnBits) (quota : ℕ) (ps : List (List ℕ)) (s : Sender (List ℕ)) → KeepAll (number_orders sn quota x ps s)
  unfolding number_orders
  numbers_keep sn quota [] s = tt
  numbers_keep sn quota (p ∷ ps) s = by (has_room sn quota s) (numbers_keep sn quota ps (with_next s p))
    where
      by : (t : Bool) → KeepAll (number_orders sn quota x ps (with_next s p))
          → KeepAll (if t then down.numbers x p ps ∷ number_orders sn quota x ps (with_next s p) else [])
      by true more = (tt, more)
      by false more = tt

  numbers_if_keep : (at : CuUpScope) (b : CuUpBearer) → KeepAll (rows.numbers_if x at b)
  numbers_if_keep at b =
      if_keeps (rows.serves_none at b) [] (number_orders at.sn at.quota x b.waiting b.sender) tt (numbers_keep at.sn at.quota b.waiting b.sender)

  fresh_keep : (at : CuUpScope) (b : CuUpBearer) (packet : List ℕ) (on keeps : down.ModelStep) → KeepsRadio on → KeepsRadio keeps
      → KeepAll (rows.fresh_orders x at b packet on keeps)
  fresh_keep at b packet on keeps one other =
      if_keeps at.flags.frozen (on ∷ []) (keeps ∷ rows.numbers_if x at (down.waits b packet)) (one, tt) (other, numbers_if_keep at (down.waits b packet))

  numbered_keeps : (at : CuUpScope) (b : CuUpBearer) (count : ℕ) (packet : List ℕ) (rest : List down_models.Item)
      → KeepsRadio (rows.numbered_order x at b count packet rest)
  numbered_keeps at b count packet rest = by _ at.flags.frozen
    where
      by : (t f : Bool) → KeepsRadio
          (if t then (if f then down.passes_numbered x count packet rest else down.sends x count packet rest) else down.drops x count packet rest)
      by true true = tt
      by true false = tt
      by false f = tt

  confirms_keep : (o : Option ℕ) → KeepAll (rows.confirms_if x o)
  confirms_keep None = tt
  confirms_keep (Some count) = (tt, tt)

  losses_keep : (f : Bool) (ranges : List (ℕ × ℕ)) → KeepAll (rows.losses x f ranges)
  losses_keep f [] = tt
  losses_keep true (range ∷ ranges) = (tt, tt)
  losses_keep false (range ∷ ranges) = (tt, (tt, tt))

  item_keep : (p : CuUpModel) (rest : List down_models.Item) (kind : TunnelKind) (item : Taken Pdu) → KeepAll (rows.item_orders x p rest kind item)
  item_keep p rest n3 (fresh_item packet) = fresh_keep p.at p.bearer packet (down.passes_n3 x packet rest) (down.keeps_n3 x packet rest) tt tt
  item_keep p rest n3 end_item = (tt, tt)
  item_keep p rest n3 _ = tt
  item_keep p rest forwarding_down (fresh_item packet) =
      fresh_keep p.at p.bearer packet (down.passes_fresh x packet rest) (down.keeps_fresh x packet rest) tt tt
  item_keep p rest forwarding_down (numbered_item (Some count) packet) = (numbered_keeps p.at p.bearer count packet rest, tt)
  item_keep p rest forwarding_down end_item = (tt, tt)
  item_keep p rest forwarding_down _ = tt
  item_keep p rest f1u_uplink (uplink_item (report_content fmc bits)) =
      (tt, numbers_if_keep p.at (record p.bearer { sender = confirmed_by p.bearer.sender fmc bits }))
  item_keep p rest f1u_uplink (status_item lost delivered) =
      all_append KeepsRadio (rows.confirms_if x delivered ++ rows.losses x p.at.flags.frozen lost) (rows.numbers_if x p.at (rows.confirmed_if delivered p.bearer))
      (all_append KeepsRadio (rows.confirms_if x delivered) (rows.losses x p.at.flags.frozen lost) (confirms_keep delivered) (losses_keep p.at.flags.frozen lost))
      (numbers_if_keep p.at (rows.confirmed_if delivered p.bearer))
  item_keep p rest f1u_uplink _ = tt
  item_keep p rest forwarding_up item = tt

  goes_on_keep : (b : Beside) (p : CuUpModel) (order : ContextStep Pdu) → GoesOn order → KeepAll (downs.orders_of x b p order)
  goes_on_keep b p (makes instance sn quota target teid) on = tt
  goes_on_keep b p (adds teid) on = tt
  goes_on_keep b p (switches du teid) on = absurd on
  goes_on_keep b p (freezes peer down_teid up_teid) on = (tt, tt)
  goes_on_keep b p (knows its_status) on =
      let now : CuUpBearer = down.known p.bearer its_status in
      (tt, if_keeps p.at.flags.arrived (down.sends_again x ∷ rows.numbers_if x (on_status p).at now) [] (tt, numbers_if_keep (on_status p).at now) tt)
  goes_on_keep b p resumes on = (tt, numbers_if_keep (on_resume p).at (thawed p.bearer))
  goes_on_keep b p releases on = (tt, tt)
  goes_on_keep b p closes on = absurd on
  goes_on_keep b p (takes kind teid item) on = item_keep p b.left_down kind item
  goes_on_keep b p polls on = tt

  pub same_epoch : (s : Model) (b : Beside) (p : CuUpModel) (order : ContextStep Pdu) → GoesOn order
      → ((down.run s (downs.orders_of x b p order)).members x).epoch ≡ (s.members x).epoch
  same_epoch s b p order on = run_same s x (downs.orders_of x b p order) (goes_on_keep b p order on)

  pub switched_epoch : (s : Model) (b : Beside) (p : CuUpModel) (to : NodeId) (teid : ℕ)
      → ((down.run s (downs.orders_of {P = Pdu} x b p (switches to teid))).members x).epoch ≡ b.epoch
  unfolding down.run down.after
  switched_epoch s b p to teid =
      run_same first x more
      (if_keeps p.at.flags.may_serve (rows.numbers_if x (on_switch p).at now) [] (numbers_if_keep (on_switch p).at now) tt)
      ∙ ap (λ (m : Member). m.epoch) (set_here s.members x _)
    where
      downlink : DownlinkTunnel
      downlink = record { du = to; teid = teid; next = 0 }

      now : CuUpBearer
      now = down.on_downlink p.bearer downlink

      first : Model
      first = down.after s (down.switches x downlink b.epoch)

      more : List down.ModelStep
      more = if p.at.flags.may_serve then rows.numbers_if x (on_switch p).at now else []

-- ---- kept orders after kept orders

pub kept_both : (sn : SnBits) (quota : ℕ) (s : Model) (os more : List down.ModelStep) → AreKept sn quota s os → AreKept sn quota (down.run s os) more
    → AreKept sn quota s (os ++ more)
unfolding AreKept down.run
kept_both sn quota s [] more a b = b
kept_both sn quota s (o ∷ os) more a b = (a.0, a.1, kept_both sn quota (down.after s o) os more a.2 b)
