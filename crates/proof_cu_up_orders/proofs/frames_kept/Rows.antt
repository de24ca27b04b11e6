-- Whatever is asked of a context that sends: what it sends then may be sent.
use Rattle.std.proofs.Common.{◌≡◌, ℕ, Bool, true, false, List, [], ◌∷◌, ◌++◌, Option, Some, None, refl, sym, ap, subst, ◌∙◌, true≢false}
use Rattle.std.specs.Prelude.{if◌then◌else◌}
use Rattle.gnb_types.specs.declared.names.NodeId.{NodeId}
use Rattle.gnb_types.specs.declared.names.SnBits.{SnBits}
use Rattle.gnb_types.specs.declared.plans.SnStatus.{SnStatus}
use Rattle.bearer_defs.specs.chain_defs.Assumptions.{AreKept, IsReady, IsAssumed}
use Rattle.bearer_defs.specs.chain_defs.Orders.{ModelStep, knows, known, sends_again, changed, passed, after, run}
use Rattle.bearer_defs.specs.chain_defs.Models.{Item, end_marker, Member, Model, initial}
use Rattle.law_downlink_order.proofs.chain.Frames.{set_here}
use Rattle.unit_defs.specs.Du.{DuBearer}
use Rattle.unit_defs.specs.Ways.{report_content, Taken, fresh_item, numbered_item, uplink_item, status_item, end_item, Output, Way, Answer, gives}
use Rattle.unit_defs.specs.CuUpRecords.{CuUpBearer, TunnelKind, n3, f1u_uplink, forwarding_down}
use Rattle.proof_cu_up_orders.specs.bearer_orders.Down.{hop_to, IsIn, orders_of}
use Rattle.proof_cu_up_orders.specs.bearer_orders.Happenings.{Beside}
use Rattle.proof_cu_up_orders.specs.context_orders.Orders.{CuUpModel, ContextStep, on_status, done}
use Rattle.proof_cu_up_orders.specs.context_orders.Orders as ups
use Rattle.law_downlink_order.specs.path.Paths.{Sending}
use Rattle.law_downlink_order.proofs.sent_frames.Sends.{polls as poll_goes}
use Rattle.proof_cu_up_orders.specs.down_orders.Down.{IsDown, item_orders, numbers_if, status_orders, switch_orders}
use Rattle.proof_cu_up_orders.proofs.down_orders.Models.{went_kept, went_passed}
use Rattle.proof_cu_up_orders.specs.frame_rows.Sent.{none_sent, sent_for_item, sent_by_switch, sent_by}
use Rattle.proof_cu_up_orders.specs.frame_rows.Shown.{end_of, frames_of, put_at, PutsSent}
use Rattle.proof_cu_up_orders.proofs.frame_rows.Rows.{order_puts}
use Rattle.proof_cu_up_orders.specs.frames_kept.Asked.{GoesOn}
use Rattle.proof_cu_up_orders.specs.sending_contexts.Sending.{IsSending, Tunnel, with_frames}
use Rattle.proof_cu_up_orders.proofs.sending_contexts.Facts.{Facts, facts_are, facts_then, kept_first, kept_rest}
use Rattle.proof_cu_up_orders.proofs.frames_kept.Items.{Sends, sender_of, nothing_sent, as_before, n3_one, forwarded_one, numbered_one, report_one, status_one}
use Rattle.proof_cu_up_orders.proofs.frames_kept.Switch.{switch_begins}
use Rattle.proof_cu_up_orders.proofs.frames_kept.Control as control

module _ (sn : SnBits) (quota : ℕ) (s : Model) (x : ℕ) (p : CuUpModel) (is : IsDown (s.members x) p) (facts : Facts s (s.members x)) (w : Tunnel)
    (i : IsSending s x p.bearer w) where
  abbrev m : Member
  m = s.members x

  abbrev b : CuUpBearer
  b = p.bearer

  abbrev Goes_on : Model → Sending → Type 0
  Goes_on t one = Sends s x p is facts w i t one

  still : Goes_on s (none_sent b)
  still behind = as_before s x p is facts w i

  item_one : {P : Type 0} (kind : TunnelKind) (item : Taken P) (rest : List Item) → AreKept sn quota s (item_orders x p rest kind item)
      → Goes_on (run s (item_orders x p rest kind item)) (sent_for_item p kind item)
  unfolding run after AreKept IsAssumed
  item_one n3 (fresh_item packet) rest kept = n3_one s x p is facts w i packet rest
  item_one n3 end_item rest kept = λ behind.
      let k : Member = record m { n3 = rest; bearer = record m.bearer { n3 = None } } in
      nothing_sent s x p is facts w i (passed s x k (end_marker ∷ [])) k (end_marker ∷ []) (went_passed s x k (end_marker ∷ [])) (refl, refl) i.served i.frozen
  item_one forwarding_down (fresh_item packet) rest kept = forwarded_one s x p is facts w i packet rest
  item_one forwarding_down (numbered_item (Some count) packet) rest kept = numbered_one s x p is facts w i count packet rest
  item_one forwarding_down end_item rest kept = λ behind.
      let k : Member = record m { forwarded = rest; bearer = record m.bearer { down_ended = true } } in
      nothing_sent s x p is facts w i (changed s x k) k [] (went_kept s x k) (refl, refl) i.served i.frozen
  item_one f1u_uplink (uplink_item (report_content fmc bits)) rest kept = report_one s x p is facts w i fmc bits kept.1.0 kept.1.1
  item_one f1u_uplink (status_item lost None) rest kept = status_one s x p is facts w i lost None tt
  item_one f1u_uplink (status_item lost (Some count)) rest kept = status_one s x p is facts w i lost (Some count) kept.1
  item_one kind item rest kept = still

  -- where an SN status is followed by what it holds, the context serves
  status_free : (status : SnStatus) → AreKept sn quota s (status_orders x status p) → p.at.flags.arrived ≡ true → m.flags.frozen ≡ false
  unfolding AreKept IsReady after
  status_free status kept e =
      let n : Member = record m { flags = record m.flags { may_serve = true }; bearer = known m.bearer status } in
      let behind = subst (λ (u : Bool). AreKept sn quota (after s (knows x status))
      (if u then sends_again x ∷ numbers_if x (on_status p).at (known b status) else [])) e kept.2 in
      ap (λ (k : Member). k.flags.frozen) (sym (set_here s.members x n)) ∙ behind.0.1

  order_one : {P : Type 0} (beside : Beside) (order : ContextStep P) → GoesOn order → AreKept sn quota s (orders_of x beside p order)
      → Goes_on (run s (orders_of x beside p order)) (sent_by p order)
  unfolding run after AreKept IsReady IsAssumed
  order_one beside (ups.makes instance sn quota target teid) on kept = still
  order_one beside (ups.adds teid) on kept = still
  order_one beside (ups.switches du teid) on kept = absurd on
  order_one beside (ups.freezes peer down up) on kept = control.freeze_one s x p is facts w i beside.to (hop_to peer down up) kept.0.2
      (λ e. absurd (true≢false (sym kept.0.1 ∙ ap (λ (q : ℕ). (s.members q).flags.may_serve) (sym e) ∙ kept.1.2.status)))
  order_one beside (ups.knows status) on kept = control.status_one s x p is facts w i status (status_free status kept)
  order_one beside ups.resumes on kept = control.resume_one s x p is facts w i kept.0.1
  order_one beside ups.releases on kept = control.release_one s x p is facts w i
  order_one beside ups.closes on kept = absurd on
  order_one beside (ups.takes kind teid item) on kept = item_one kind item beside.left_down kept
  order_one beside ups.polls on kept = λ behind. record {
    cursor = i.cursor;
    sender = poll_goes s w.du w.waits b w.frames i.cursor true i.sender;
    epoch = i.epoch;
    received = i.received;
    served = i.served;
    frozen = i.frozen;
  }

-- ---- the bearer that the row leaves

left_by : (t : Model) (x : ℕ) (c d : CuUpBearer) (w : Tunnel) → d.downlink ≡ c.downlink → d.restart ≡ c.restart → IsSending t x c w → IsSending t x d w
left_by t x c d w down mark h = record {
  cursor = h.cursor;
  sender = sender_of t c d w.du w.frames w.waits h.cursor down mark h.sender;
  epoch = h.epoch;
  received = h.received;
  served = h.served;
  frozen = h.frozen;
}

-- the context is there after a row that leaves a bearer
module _ {M C P : Type 0} (way : Way M C P) (sn : SnBits) (quota first teid : ℕ) (orders : List ModelStep) (x : ℕ) (p q : CuUpModel) (beside : Beside)
    (outputs : List (Output M P)) where
  abbrev d : Model
  d = run (initial first teid) orders

  puts_it : (order : ContextStep P) → done way order p ≡ gives outputs (Some q)
      → (frames_of outputs ≡ put_at way p.at.sn (end_of q.bearer.downlink) (sent_by p order).frames)
      × (q.bearer.downlink ≡ (sent_by p order).bearer.downlink) × (q.bearer.restart ≡ (sent_by p order).bearer.restart)
  puts_it order answers = subst (λ (a : Answer M P (Option CuUpModel)). PutsSent way p.at.sn (sent_by p order) a) answers (order_puts way p order)

  pub goes_on : (order : ContextStep P) (w : Tunnel) → AreKept sn quota (initial first teid) (orders ++ orders_of x beside p order) → IsIn sn quota (d.members x) (Some p)
      → GoesOn order → done way order p ≡ gives outputs (Some q) → IsSending d x p.bearer w
      → (frames_of outputs ≡ put_at way p.at.sn (end_of q.bearer.downlink) (sent_by p order).frames)
      × IsSending (run d (orders_of x beside p order)) x q.bearer (with_frames w (sent_by p order).frames)
  goes_on order w kept is on answers sends =
      let put = puts_it order answers in
      let facts = facts_are sn quota first teid orders (kept_first sn quota (initial first teid) orders (orders_of x beside p order) kept) x is.0.there in
      let behind = facts_then sn quota first teid orders (orders_of x beside p order) kept x in
      let now = order_one sn quota d x p is.0 facts w sends beside order on (kept_rest sn quota (initial first teid) orders (orders_of x beside p order) kept) behind in
      (put.0, left_by (run d (orders_of x beside p order)) x (sent_by p order).bearer q.bearer (with_frames w (sent_by p order).frames) put.1 put.2 now)

  pub begins : (to : NodeId) (end : ℕ) (du : DuBearer) (waits : List (ℕ × List ℕ))
      → AreKept sn quota (initial first teid) (orders ++ switch_orders x beside.epoch to end p) → IsIn sn quota (d.members x) (Some p)
      → beside.epoch ≡ d.epoch
      → done way (ups.switches to end) p ≡ gives outputs (Some q)
      → (frames_of outputs ≡ put_at way p.at.sn (end_of q.bearer.downlink) (sent_by_switch p to end).frames)
      × IsSending (run d (switch_orders x beside.epoch to end p)) x q.bearer
      (record { du = record du { downlink = end; awaited = 0; gap = false }; frames = (sent_by_switch p to end).frames; waits = waits })
  begins to end du waits kept is present answers =
      let put = puts_it (ups.switches to end) answers in
      let facts = facts_are sn quota first teid orders (kept_first sn quota (initial first teid) orders (switch_orders x beside.epoch to end p) kept) x is.0.there in
      let behind = facts_then sn quota first teid orders (switch_orders x beside.epoch to end p) kept x in
      let now = switch_begins d x p is.0 facts du waits beside.epoch to end present behind in (
        put.0,
        left_by (run d (switch_orders x beside.epoch to end p)) x (sent_by_switch p to end).bearer q.bearer
            (record { du = record du { downlink = end; awaited = 0; gap = false }; frames = (sent_by_switch p to end).frames; waits = waits }) put.1 put.2 now,
      )
