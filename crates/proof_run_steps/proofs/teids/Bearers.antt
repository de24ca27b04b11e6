-- What a CU-UP does to a bearer opens no tunnel, and closes none but where an End Marker is taken.
use Rattle.std.proofs.Common.{◌≡◌, ◌==◌, ℕ, Bool, true, false, not, ◌&&◌, ◌||◌, List, [], ◌∷◌, ◌++◌, Option, Some, None, ◌⊎◌, inl, inr, refl, sym, ap, ◌∙◌}
use Rattle.std.specs.Prelude.{if◌then◌else◌, nat_lt, filter}
use Rattle.std.specs.List.{flat_map}
use Rattle.std.proofs.lemmas.List.{append-nil}
use Rattle.std.proofs.lemmas.Grind.{flat_map-append}
use Rattle.gnb_types.specs.declared.names.NodeId.{NodeId}
use Rattle.gnb_types.specs.declared.outputs.Tag.{Tag}
use Rattle.gnb_types.specs.declared.outputs.Tag.TheVariants.{Absent, Own, Same}
use Rattle.gnb_types.specs.declared.plans.SnStatus.{SnStatus}
use Rattle.gnb_types.specs.declared.reasons.DropReason.TheVariants.{Unexpected}
use Rattle.pdcp.specs.Near.{last_count}
use Rattle.pdcp_defs.specs.Senders.{numbered as with_next, has_room, may_restore, restored, confirmed_by, confirmed_to}
use Rattle.pdcp_defs.specs.Receivers.{deliver as handed_up, received_bits, is_duplicate, stored}
use Rattle.unit_defs.specs.Ways.{packet_pdu, report_pdu, Content, packet_content, report_content, Load, fresh, numbered, end_marker, Taken, fresh_item, numbered_item, uplink_item, status_item, end_item, Output, Way, Answer, gives, spent, with_outputs, ◌then◌, nothing, puts, drops, closed, counts_spent}
use Rattle.unit_defs.specs.CuUpRecords.{DownlinkTunnel, SourceHop, CuUpBearer, TunnelKind, n3, f1u_uplink, forwarding_down, forwarding_up, CuUpScope}
use Rattle.unit_defs.specs.CuUpBearers.{last_frame, has_downlink, owed, thawed, no_uplink, bits_in, framed_on, framed, sent, sent_again, number_each, number_waiting, delivered, deliver_stored, put_down, forwarded_down, put_up, forwarded_up, begin_downlink, begin_where_known, switched, forward_numbered, forward_fresh, forward_late, frozen_to, begin_where_arrived, with_status, resumed}
use Rattle.unit_defs.specs.CuUpItems.{took_fresh, closed_n3, n3_ended, restored_at, took_numbered, down_ended, stored_at, passed_up, took_uplink, took_report, took_content, confirmed_if, lost_frames, took_delivery_status, up_hop_ends_if, uplink_ended, up_ended, took}
use Rattle.unit_defs.specs.CuUp.{closed_in}
use Rattle.proof_run_steps.specs.teids.Given.{opened_in, opened_by}

abbrev pub closed_by : {M P : Type 0} → List (Output M P) → List ℕ
closed_by outputs = flat_map closed_in outputs

-- the tunnels of a bearer that are open
pub record Ends : Type 0 where
  pub n3 : Option ℕ
  pub uplinks : List ℕ
  pub forward_down : Option ℕ
  pub forward_up : Option ℕ

abbrev pub ends : CuUpBearer → Ends
ends b = record { n3 = b.n3; uplinks = b.uplinks; forward_down = b.forward_down; forward_up = b.forward_up }

abbrev pub without_n3 : Ends → Ends
without_n3 e = record e { n3 = None }

abbrev pub without_uplink : ℕ → Ends → Ends
without_uplink teid e = record e { uplinks = filter (λ t. not (t == teid)) e.uplinks }

-- ---- what is read off two lists of outputs

pub both : {X Y : Type 0} (f : X → List Y) (xs ys : List X) → flat_map f xs ≡ [] → flat_map f ys ≡ [] → flat_map f (xs ++ ys) ≡ []
both f xs ys p q = flat_map-append f xs ys ∙ (λ i. p i ++ q i)

pub first_none : {X Y : Type 0} (f : X → List Y) (xs ys : List X) → flat_map f xs ≡ [] → flat_map f (xs ++ ys) ≡ flat_map f ys
first_none {Y = Y} f xs ys p = flat_map-append f xs ys ∙ ap (λ (zs : List Y). zs ++ flat_map f ys) p

pub last_none : {X Y : Type 0} (f : X → List Y) (xs ys : List X) → flat_map f ys ≡ [] → flat_map f (xs ++ ys) ≡ flat_map f xs
last_none {Y = Y} f xs ys q = flat_map-append f xs ys ∙ ap (λ (zs : List Y). flat_map f xs ++ zs) q ∙ append-nil (flat_map f xs)

module _ {M C P : Type 0} (way : Way M C P) where
  -- no tunnel is opened or closed
  abbrev pub Stays : Ends → Answer M P CuUpBearer → Type 0
  Stays e (gives os b) = (opened_by os ≡ []) × (closed_by os ≡ []) × (ends b ≡ e)
  Stays e (spent k) = Unit {0}

  pub stays_then : (e : Ends) (a : Answer M P CuUpBearer) (f : CuUpBearer → Answer M P CuUpBearer) → Stays e a → ((b : CuUpBearer) → Stays (ends b) (f b)) → Stays e (a then f)
  stays_then e (gives os b) f first second = by (f b) (second b)
    where
      by : (a : Answer M P CuUpBearer) → Stays (ends b) a → Stays e (with_outputs os a)
      by (gives more c) next = (both opened_in os more first.0 next.0, both closed_in os more first.1 next.1, next.2 ∙ first.2)
      by (spent k) next = tt
  stays_then e (spent k) f first second = tt

  pub stays_if : (e : Ends) (t : Bool) (x y : Answer M P CuUpBearer) → Stays e x → Stays e y → Stays e (if t then x else y)
  stays_if e true x y p q = p
  stays_if e false x y p q = q

  -- an item of a tunnel of this kind is taken: nothing is opened, and at most N3, or this uplink, is closed
  abbrev pub Took : TunnelKind → ℕ → CuUpBearer → Answer M P CuUpBearer → Type 0
  Took kind teid b (gives os c) =
      (opened_by os ≡ [])
      × (((closed_by os ≡ []) × (ends c ≡ ends b))
      ⊎ (((t : ℕ) × (b.n3 ≡ Some t) × (closed_by os ≡ t ∷ []) × (ends c ≡ without_n3 (ends b)))
      ⊎ ((kind ≡ f1u_uplink) × (closed_by os ≡ teid ∷ []) × (ends c ≡ without_uplink teid (ends b)))))
  Took kind teid b (spent k) = Unit {0}

  just_took : (kind : TunnelKind) (teid : ℕ) (b : CuUpBearer) (a : Answer M P CuUpBearer) → Stays (ends b) a → Took kind teid b a
  just_took kind teid b (gives os c) p = (p.0, inl (p.1, p.2))
  just_took kind teid b (spent k) p = tt

  stays_took : (kind : TunnelKind) (teid : ℕ) (b : CuUpBearer) (a : Answer M P CuUpBearer) (f : CuUpBearer → Answer M P CuUpBearer) → Stays (ends b) a
      → ((c : CuUpBearer) → Took kind teid c (f c)) → Took kind teid b (a then f)
  stays_took kind teid b (gives os c) f p q = by (f c) (q c)
    where
      by : (a : Answer M P CuUpBearer) → Took kind teid c a → Took kind teid b (with_outputs os a)
      by (gives more d) (none, inl same) = (both opened_in os more p.0 none, inl (both closed_in os more p.1 same.0, same.1 ∙ p.2))
      by (gives more d) (none, inr (inl n)) = (
        both opened_in os more p.0 none,
        inr (inl (n.0, ap (λ (e : Ends). e.n3) (sym p.2) ∙ n.1, first_none closed_in os more p.1 ∙ n.2, n.3 ∙ ap without_n3 p.2)),
      )
      by (gives more d) (none, inr (inr u)) = (
        both opened_in os more p.0 none,
        inr (inr (u.0, first_none closed_in os more p.1 ∙ u.1, u.2 ∙ ap (without_uplink teid) p.2)),
      )
      by (spent k) next = tt
  stays_took kind teid b (spent k) f p q = tt

  took_stays : (kind : TunnelKind) (teid : ℕ) (b : CuUpBearer) (a : Answer M P CuUpBearer) (f : CuUpBearer → Answer M P CuUpBearer) → Took kind teid b a
      → ((c : CuUpBearer) → Stays (ends c) (f c)) → Took kind teid b (a then f)
  took_stays kind teid b (gives os c) f p q = by p (f c) (q c)
    where
      by : Took kind teid b (gives os c) → (a : Answer M P CuUpBearer) → Stays (ends c) a → Took kind teid b (with_outputs os a)
      by (none, inl same) (gives more d) next = (both opened_in os more none next.0, inl (both closed_in os more same.0 next.1, next.2 ∙ same.1))
      by (none, inr (inl n)) (gives more d) next = (
        both opened_in os more none next.0,
        inr (inl (n.0, n.1, last_none closed_in os more next.1 ∙ n.2, next.2 ∙ n.3)),
      )
      by (none, inr (inr u)) (gives more d) next = (
        both opened_in os more none next.0,
        inr (inr (u.0, last_none closed_in os more next.1 ∙ u.1, next.2 ∙ u.2)),
      )
      by p (spent k) next = tt
  took_stays kind teid b (spent k) f p q = tt

  -- ---- packets to the DU and to the target, and deliveries

  framed_stays : (at : CuUpScope) (poll restart : Bool) (pdu : Option P) (tag : Tag) (b : CuUpBearer) → Stays (ends b) (framed way at poll restart pdu tag b)
  unfolding framed
  framed_stays at poll restart pdu tag b = by b.downlink
    where
      by : (d : Option DownlinkTunnel) → Stays (ends b) (framed_on way at b poll restart pdu tag d)
      by None = (refl, refl, refl)
      by (Some d) = stays_if (ends b) (nat_lt last_frame d.next) _ _ tt (refl, refl, refl)

  pub poll_stays : (at : CuUpScope) (b : CuUpBearer) → Stays (ends b) (framed way at true false None Absent b)
  poll_stays at b = framed_stays at true false None Absent b

  sent_stays : (at : CuUpScope) (count : ℕ) (p : List ℕ) (tag : Tag) (b : CuUpBearer) → Stays (ends b) (sent way at count p tag b)
  unfolding sent
  sent_stays at count p tag b = framed_stays at false b.restart (Some (way.write at.sn (packet_pdu count p))) tag b

  sent_again_stays : (at : CuUpScope) (es : List (ℕ × List ℕ)) (b : CuUpBearer) → Stays (ends b) (sent_again way at es b)
  unfolding sent_again
  sent_again_stays at [] b = (refl, refl, refl)
  sent_again_stays at (e ∷ es) b = stays_then (ends b) (sent way at e.0 e.1 (Own e.0) b) (sent_again way at es) (sent_stays at e.0 e.1 (Own e.0) b) (sent_again_stays at es)

  number_each_stays : (at : CuUpScope) (ps : List (List ℕ)) (b : CuUpBearer) → Stays (ends b) (number_each way at ps b)
  unfolding number_each
  number_each_stays at [] b = (refl, refl, refl)
  number_each_stays at (p ∷ ps) b =
      stays_if (ends b) (not (has_room at.sn at.quota b.sender)) (nothing b) _ (refl, refl, refl)
      (stays_then (ends b) (if nat_lt last_count b.sender.next then spent counts_spent
      else sent way at b.sender.next p (Own b.sender.next) (record b { sender = with_next b.sender p; waiting = ps })) (number_each way at ps)
      (stays_if (ends b) (nat_lt last_count b.sender.next) (spent counts_spent)
      (sent way at b.sender.next p (Own b.sender.next) (record b { sender = with_next b.sender p; waiting = ps })) tt
      (sent_stays at b.sender.next p (Own b.sender.next) (record b { sender = with_next b.sender p; waiting = ps }))) (number_each_stays at ps))

  number_waiting_stays : (at : CuUpScope) (b : CuUpBearer) → Stays (ends b) (number_waiting way at b)
  unfolding number_waiting
  number_waiting_stays at b =
      stays_if (ends b) (at.flags.frozen || at.flags.released || not (has_downlink b.downlink)) (nothing b) (number_each way at b.waiting b) (refl, refl, refl)
      (number_each_stays at b.waiting b)

  no_opened : (at : CuUpScope) (es : List (ℕ × List ℕ)) → opened_by (delivered way at es) ≡ []
  no_opened at [] = refl
  no_opened at (e ∷ es) = no_opened at es

  no_closed : (at : CuUpScope) (es : List (ℕ × List ℕ)) → closed_by (delivered way at es) ≡ []
  no_closed at [] = refl
  no_closed at (e ∷ es) = no_closed at es

  deliver_stays : (at : CuUpScope) (b : CuUpBearer) → Stays (ends b) (deliver_stored way at b)
  unfolding deliver_stored
  deliver_stays at b = (no_opened at (handed_up b.receiver).packets, no_closed at (handed_up b.receiver).packets, refl)

  down_stays : (at : CuUpScope) (tag : Tag) (load : Load P) (b : CuUpBearer) → Stays (ends b) (forwarded_down way at tag load b)
  unfolding forwarded_down
  down_stays at tag load b = by b.hop
    where
      by : (h : Option SourceHop) → Stays (ends b) (put_down way at tag load b h)
      by None = (refl, refl, refl)
      by (Some h) = (refl, refl, refl)

  up_stays : (at : CuUpScope) (tag : Tag) (load : Load P) (b : CuUpBearer) → Stays (ends b) (forwarded_up way at tag load b)
  unfolding forwarded_up
  up_stays at tag load b = by b.hop
    where
      by : (h : Option SourceHop) → Stays (ends b) (put_up way at tag load b h)
      by None = (refl, refl, refl)
      by (Some h) = (refl, refl, refl)

  -- ---- orders

  begin_stays : (at : CuUpScope) (fmc : ℕ) (bits : List Bool) (b : CuUpBearer) → Stays (ends b) (begin_downlink way at fmc bits b)
  unfolding begin_downlink
  begin_stays at fmc bits b =
      stays_then (ends b) (framed way at false false (Some (way.write at.sn (report_pdu fmc bits))) Absent b then (λ c. sent_again way at c.sender.unconfirmed c)) (number_waiting way at)
      (stays_then (ends b) (framed way at false false (Some (way.write at.sn (report_pdu fmc bits))) Absent b) (λ c. sent_again way at c.sender.unconfirmed c)
      (framed_stays at false false (Some (way.write at.sn (report_pdu fmc bits))) Absent b) (λ c. sent_again_stays at c.sender.unconfirmed c))
      (number_waiting_stays at)

  pub switched_stays : (at : CuUpScope) (du : NodeId) (teid : ℕ) (b : CuUpBearer) → Stays (ends b) (switched way at du teid b)
  unfolding switched
  switched_stays at du teid b =
      stays_then (ends b) (deliver_stored way at (record (thawed b) { downlink = Some (record { du = du; teid = teid; next = 0 }); restart = false })) (begin_where_known way at)
      (deliver_stays at (record (thawed b) { downlink = Some (record { du = du; teid = teid; next = 0 }); restart = false }))
      (λ c. stays_if (ends c) at.flags.may_serve (begin_downlink way at c.receiver.deliv (received_bits c.receiver) c) (nothing c)
      (begin_stays at c.receiver.deliv (received_bits c.receiver) c) (refl, refl, refl))

  numbered_stays : (at : CuUpScope) (es : List (ℕ × List ℕ)) (b : CuUpBearer) → Stays (ends b) (forward_numbered way at es b)
  numbered_stays at [] b = (refl, refl, refl)
  numbered_stays at (e ∷ es) b =
      stays_then (ends b) (forwarded_down way at (Own e.0) (numbered at.sn e.0 e.1) b) (forward_numbered way at es) (down_stays at (Own e.0) (numbered at.sn e.0 e.1) b) (numbered_stays at es)

  fresh_stays : (at : CuUpScope) (ps : List (List ℕ)) (b : CuUpBearer) → Stays (ends b) (forward_fresh way at ps b)
  fresh_stays at [] b = (refl, refl, refl)
  fresh_stays at (p ∷ ps) b =
      stays_then (ends b) (forwarded_down way at Absent (fresh p) b) (forward_fresh way at ps) (down_stays at Absent (fresh p) b) (fresh_stays at ps)

  late_stays : (at : CuUpScope) (es : List (ℕ × List ℕ)) (b : CuUpBearer) → Stays (ends b) (forward_late way at es b)
  late_stays at [] b = (refl, refl, refl)
  late_stays at (e ∷ es) b =
      stays_then (ends b) (forwarded_up way at (Own e.0) (numbered at.sn e.0 e.1) b) (forward_late way at es) (up_stays at (Own e.0) (numbered at.sn e.0 e.1) b) (late_stays at es)

  pub frozen_stays : (at : CuUpScope) (peer : NodeId) (down up : ℕ) (b : CuUpBearer) → Stays (ends b) (frozen_to way at peer down up b)
  unfolding frozen_to
  frozen_stays at peer down up b =
      let on : CuUpBearer = record b { hop = Some (record { peer = peer; down = down; up = up; up_ended = false }); loss_while_frozen = false; taken_while_frozen = [] } in
      stays_then (ends b) (forward_numbered way at b.sender.unconfirmed on then (λ c. forward_fresh way at c.waiting c)) (λ c. forward_late way at c.receiver.stored c)
      (stays_then (ends b) (forward_numbered way at b.sender.unconfirmed on) (λ c. forward_fresh way at c.waiting c)
      (numbered_stays at b.sender.unconfirmed on) (λ c. fresh_stays at c.waiting c))
      (λ c. late_stays at c.receiver.stored c)

  begin_where_stays : (at : CuUpScope) (s : SnStatus) (b : CuUpBearer) → Stays (ends b) (begin_where_arrived way at s b)
  begin_where_stays at s b =
      stays_if (ends b) at.flags.arrived (deliver_stored way at b then begin_downlink way at s.ul_first (bits_in s.ul_received)) (nothing b)
      (stays_then (ends b) (deliver_stored way at b) (begin_downlink way at s.ul_first (bits_in s.ul_received)) (deliver_stays at b)
      (begin_stays at s.ul_first (bits_in s.ul_received))) (refl, refl, refl)

  pub status_stays : (at : CuUpScope) (s : SnStatus) (b : CuUpBearer) → Stays (ends b) (with_status way at s b)
  unfolding with_status
  status_stays at s b =
      begin_where_stays at s (record b {
        dl_next = s.dl_next;
        sender = record b.sender { next = s.dl_next };
        receiver = record b.receiver { deliv = s.ul_first };
      })

  pub resumed_stays : (at : CuUpScope) (b : CuUpBearer) → Stays (ends b) (resumed way at b)
  unfolding resumed
  resumed_stays at b =
      let on : CuUpBearer = record (thawed b) { restart = b.restart || b.loss_while_frozen } in
      stays_then (ends b) (sent_again way at (owed b) on then deliver_stored way at) (number_waiting way at)
      (stays_then (ends b) (sent_again way at (owed b) on) (deliver_stored way at) (sent_again_stays at (owed b) on) (deliver_stays at))
      (number_waiting_stays at)

  -- ---- items

  took_fresh_stays : (at : CuUpScope) (p : List ℕ) (b : CuUpBearer) → Stays (ends b) (took_fresh way at p b)
  unfolding took_fresh
  took_fresh_stays at p b =
      let on : CuUpBearer = record b { waiting = b.waiting ++ p ∷ [] } in
      stays_if (ends b) at.flags.released (forwarded_down way at Absent (fresh p) b) _ (down_stays at Absent (fresh p) b)
      (stays_if (ends b) at.flags.frozen (forwarded_down way at Absent (fresh p) on) (number_waiting way at on) (down_stays at Absent (fresh p) on) (number_waiting_stays at on))

  -- the End Marker of N3: it is closed, if it was open
  module _ (kind : TunnelKind) (teid : ℕ) where
    closed_took : (b : CuUpBearer) (t : Option ℕ) → b.n3 ≡ t → Took kind teid b (closed_n3 way b t)
    closed_took b None is = (refl, inl (refl, refl))
    closed_took b (Some t) is = (refl, inr (inl (t, is, refl, refl)))

    n3_took : (at : CuUpScope) (b : CuUpBearer) (h : Option SourceHop) → Took kind teid b (n3_ended way at b h)
    n3_took at b None = (refl, inl (refl, refl))
    n3_took at b (Some h) =
        stays_took kind teid b (forwarded_down way at Absent end_marker b) (λ c. closed_n3 way c c.n3) (down_stays at Absent end_marker b)
        (λ c. closed_took c c.n3 refl)

  took_numbered_stays : (at : CuUpScope) (count : Option ℕ) (p : List ℕ) (b : CuUpBearer) → Stays (ends b) (took_numbered way at count p b)
  unfolding took_numbered
  took_numbered_stays at None p b = (refl, refl, refl)
  took_numbered_stays at (Some count) p b =
      let on : CuUpBearer = record b { sender = restored b.sender count p } in
      stays_if (ends b) at.flags.released (forwarded_down way at Same (numbered at.sn count p) b) _ (down_stays at Same (numbered at.sn count p) b)
      (stays_if (ends b) (may_restore at.sn at.quota b.sender count) (restored_at way at count p b) _
      (stays_if (ends b) at.flags.frozen _ (sent way at count p Same on)
      (down_stays at Same (numbered at.sn count p) (record on { taken_while_frozen = b.taken_while_frozen ++ count ∷ [] }))
      (sent_stays at count p Same on)) (refl, refl, refl))

  took_uplink_stays : (at : CuUpScope) (count : Option ℕ) (p : List ℕ) (b : CuUpBearer) → Stays (ends b) (took_uplink way at count p b)
  unfolding took_uplink
  took_uplink_stays at None p b = (refl, refl, refl)
  took_uplink_stays at (Some count) p b =
      let on : CuUpBearer = record b { receiver = stored b.receiver count p } in
      stays_if (ends b) at.flags.released (passed_up way at count p b) _
      (stays_if (ends b) (nat_lt count b.receiver.deliv) _ (forwarded_up way at Same (numbered at.sn count p) b) (refl, refl, refl) (up_stays at Same (numbered at.sn count p) b))
      (stays_if (ends b) (is_duplicate b.receiver count) _ (stored_at way at count p b) (refl, refl, refl)
      (stays_if (ends b) at.flags.frozen (forwarded_up way at Same (numbered at.sn count p) on) (deliver_stored way at on) (up_stays at Same (numbered at.sn count p) on) (deliver_stays at on)))

  took_content_stays : (at : CuUpScope) (content : Content) (b : CuUpBearer) → Stays (ends b) (took_content way at content b)
  unfolding took_report
  took_content_stays at (packet_content count p) b = took_uplink_stays at count p b
  took_content_stays at (report_content fmc bits) b = number_waiting_stays at (record b { sender = confirmed_by b.sender fmc bits })

  lost_stays : (at : CuUpScope) (ranges : List (ℕ × ℕ)) (b : CuUpBearer) → Stays (ends b) (lost_frames way at ranges b)
  lost_stays at [] b = (refl, refl, refl)
  lost_stays at (range ∷ ranges) b =
      stays_if (ends b) at.flags.frozen (nothing (record b { restart = true; loss_while_frozen = true })) (sent_again way at b.sender.unconfirmed (record b { restart = true })) (refl, refl, refl)
      (sent_again_stays at b.sender.unconfirmed (record b { restart = true }))

  lost_confirmed : (at : CuUpScope) (ranges : List (ℕ × ℕ)) (delivered : Option ℕ) (b : CuUpBearer)
      → Stays (ends b) (lost_frames way at ranges (confirmed_if way delivered b))
  lost_confirmed at ranges None b = lost_stays at ranges b
  lost_confirmed at ranges (Some count) b = lost_stays at ranges (record b { sender = confirmed_to b.sender count })

  hop_stays : (at : CuUpScope) (h : Option SourceHop) (b : CuUpBearer) → Stays (ends b) (up_hop_ends_if way at h b)
  hop_stays at None b = (refl, refl, refl)
  hop_stays at (Some h) b =
      stays_if (ends b) (not h.up_ended && no_uplink b.uplinks && (not at.flags.target || b.up_ended))
      (forwarded_up way at Absent end_marker (record b { hop = Some (record h { up_ended = true }) })) (nothing b)
      (up_stays at Absent end_marker (record b { hop = Some (record h { up_ended = true }) })) (refl, refl, refl)

  uplink_took : (at : CuUpScope) (teid : ℕ) (b : CuUpBearer) → Took f1u_uplink teid b (uplink_ended way at teid b)
  unfolding uplink_ended
  uplink_took at teid b =
      let on : CuUpBearer = record b { uplinks = filter (λ t. not (t == teid)) b.uplinks } in
      took_stays f1u_uplink teid b (puts (closed teid) on) (λ c. up_hop_ends_if way at c.hop c) (refl, inr (inr (refl, refl, refl))) (λ c. hop_stays at c.hop c)

  pub item_took : (at : CuUpScope) (kind : TunnelKind) (teid : ℕ) (item : Taken P) (b : CuUpBearer) → Took kind teid b (took way at kind teid item b)
  unfolding took took_delivery_status up_ended
  item_took at n3 teid (fresh_item p) b = just_took n3 teid b _ (took_fresh_stays at p b)
  item_took at n3 teid end_item b = n3_took n3 teid at b b.hop
  item_took at forwarding_down teid (fresh_item p) b = just_took forwarding_down teid b _ (took_fresh_stays at p b)
  item_took at forwarding_down teid (numbered_item count p) b = just_took forwarding_down teid b _ (took_numbered_stays at count p b)
  item_took at forwarding_down teid end_item b =
      just_took forwarding_down teid b (down_ended way b)
      (stays_if (ends b) b.down_ended (drops Unexpected b) (nothing (record b { down_ended = true })) (refl, refl, refl) (refl, refl, refl))
  item_took at f1u_uplink teid (uplink_item content) b = just_took f1u_uplink teid b _ (took_content_stays at content b)
  item_took at f1u_uplink teid (status_item lost delivered) b =
      just_took f1u_uplink teid b _
      (stays_then (ends b) (lost_frames way at lost (confirmed_if way delivered b)) (number_waiting way at) (lost_confirmed at lost delivered b) (number_waiting_stays at))
  item_took at f1u_uplink teid end_item b = uplink_took at teid b
  item_took at forwarding_up teid (numbered_item count p) b = just_took forwarding_up teid b _ (took_uplink_stays at count p b)
  item_took at forwarding_up teid end_item b =
      just_took forwarding_up teid b _
      (stays_if (ends b) b.up_ended (drops Unexpected b) (up_hop_ends_if way at b.hop (record b { up_ended = true })) (refl, refl, refl)
      (hop_stays at b.hop (record b { up_ended = true })))
  item_took at kind teid item b = (refl, inl (refl, refl))
