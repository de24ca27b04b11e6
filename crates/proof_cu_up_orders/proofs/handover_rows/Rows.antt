-- The rows of a handover, by what their orders do.
use Rattle.std.proofs.Common.{◌≡◌, ℕ, ◌+◌, Bool, true, false, not, ◌&&◌, ◌||◌, if◌then◌else◌, nat_lt, List, [], ◌∷◌, ◌++◌, Option, Some, None, refl, sym, ap, subst, ◌∙◌, true≢false}
use Rattle.std.proofs.lemmas.List.{append-nil, map-append}
use Rattle.pdcp.specs.Near.{last_count}
use Rattle.pdcp_defs.specs.Senders.{numbered as with_next, has_room}
use Rattle.pdcp_defs.specs.Receivers.{deliver, received_bits}
use Rattle.gnb_types.specs.declared.names.NodeId.{NodeId}
use Rattle.gnb_types.specs.declared.names.Dir.TheVariants.{Dl}
use Rattle.gnb_types.specs.declared.plans.SnStatus.{SnStatus}
use Rattle.gnb_types.specs.declared.outputs.Tag.{Tag}
use Rattle.gnb_types.specs.declared.outputs.Tag.TheVariants.{Absent, Own}
use Rattle.unit_defs.specs.Ways.{Pdu, packet_pdu, report_pdu, frame, packet, Way, Answer, gives, spent, with_outputs, ◌then◌, nothing, puts, frames_spent, counts_spent}
use Rattle.unit_defs.specs.CuUpRecords.{CuUpBearer, DownlinkTunnel, CuUpScope}
use Rattle.unit_defs.specs.CuUpBearers.{number_waiting, number_each, sent, sent_again, framed, framed_on, has_downlink, last_frame, deliver_stored, delivered, switched, with_status, resumed, begin_downlink, begin_where_known, thawed, owed, bits_in}
use Rattle.bearer_defs.specs.chain_defs.Orders.{known, on_downlink}
use Rattle.proof_cu_up_orders.specs.chain_rows.Shown.{items_of, pdus_of, plain, without_number, numbers_all, still_waits, numbered_pdus}
use Rattle.proof_cu_up_orders.proofs.chain_rows.Rows.{items-append as down-append, pdus-append}
use Rattle.proof_cu_up_orders.specs.uplink_rows.Shown.{items_of as items_up, delivered_in}
use Rattle.proof_cu_up_orders.proofs.uplink_rows.Rows.{items-append as up-append, delivered-append, none_goes_on, all_delivered}
use Rattle.proof_cu_up_orders.specs.handover_rows.Shown.{Does, again, handed_up, numbered_all, with_numbered, begun}

still_there : (o q : Option DownlinkTunnel) → without_number o ≡ without_number q → has_downlink q ≡ true → has_downlink o ≡ true
still_there (Some d) q e h = refl
still_there None None e h = h
still_there None (Some d) e h = absurd cc

module _ {M C P : Type 0} (way : Way M C P) (at : CuUpScope) where
  -- ---- one after another

  then_does : (ps qs : List Pdu) (es fs : List (ℕ × List ℕ)) (b c : CuUpBearer) (a : Answer M P CuUpBearer) (more : CuUpBearer → Answer M P CuUpBearer)
      → Does way at.sn ps es b a
      → ((d : CuUpBearer) → plain d ≡ plain b → Does way at.sn qs fs c (more d)) → Does way at.sn (ps ++ qs) (es ++ fs) c (a then more)
  unfolding Does
  then_does ps qs es fs b c (spent counter) more g h = tt
  then_does ps qs es fs b c (gives outputs d) more (g0, g1, g2, g3, g4) h = by (more d) (h d g4)
    where
      by : (r : Answer M P CuUpBearer) → Does way at.sn qs fs c r → Does way at.sn (ps ++ qs) (es ++ fs) c (with_outputs outputs r)
      by (spent counter) k = tt
      by (gives others e) (k0, k1, k2, k3, k4) = (
        down-append outputs others ∙ rw (g0, k0) refl,
        up-append outputs others ∙ rw (g1, k1) refl,
        pdus-append outputs others ∙ rw (g2, k2) (sym (map-append (λ pdu. way.write at.sn pdu) ps qs)),
        delivered-append outputs others ∙ rw (g3, k3) refl,
        k4,
      )

  does_as : (ps : List Pdu) (es : List (ℕ × List ℕ)) (b c : CuUpBearer) (a : Answer M P CuUpBearer) → plain b ≡ plain c
      → Does way at.sn ps es b a → Does way at.sn ps es c a
  unfolding Does
  does_as ps es b c (spent counter) e g = tt
  does_as ps es b c (gives outputs d) e (g0, g1, g2, g3, g4) = (g0, g1, g2, g3, g4 ∙ e)

  -- ---- a frame

  frames_one : (restart : Bool) (pdu : Pdu) (tag : Tag) (b : CuUpBearer) → has_downlink b.downlink ≡ true
      → Does way at.sn (pdu ∷ []) [] b (framed way at false restart (Some (way.write at.sn pdu)) tag b)
  unfolding Does framed items_of items_up pdus_of delivered_in
  frames_one restart pdu tag b h = by b.downlink refl h
    where
      by : (o : Option DownlinkTunnel) → b.downlink ≡ o → has_downlink o ≡ true
          → Does way at.sn (pdu ∷ []) [] b (framed_on way at b false restart (Some (way.write at.sn pdu)) tag o)
      by None e i = absurd (true≢false (sym i))
      by (Some d) e i = which (nat_lt last_frame d.next)
        where
          which : (t : Bool) → Does way at.sn (pdu ∷ []) [] b
              (if t then spent frames_spent
              else puts (packet d.du d.teid at.ue at.bearer Dl tag (frame false restart d.next (Some (way.write at.sn pdu))))
              (record b { downlink = Some (record d { next = d.next + 1 }); restart = b.restart && not restart }))
          which true = tt
          which false = (refl, refl, refl, refl, rw e refl)

  sends_one : (count : ℕ) (p : List ℕ) (tag : Tag) (b : CuUpBearer) → has_downlink b.downlink ≡ true
      → Does way at.sn (packet_pdu count p ∷ []) [] b (sent way at count p tag b)
  unfolding sent
  sends_one count p tag b h = frames_one b.restart (packet_pdu count p) tag b h

  sends_again : (es : List (ℕ × List ℕ)) (b : CuUpBearer) → has_downlink b.downlink ≡ true
      → Does way at.sn (again es) [] b (sent_again way at es b)
  unfolding sent_again Does items_of items_up pdus_of delivered_in
  sends_again [] b h = (refl, refl, refl, refl, refl)
  sends_again (x ∷ es) b h =
      then_does (packet_pdu x.0 x.1 ∷ []) (again es) [] [] b b (sent way at x.0 x.1 (Own x.0) b) (λ d. sent_again way at es d)
      (sends_one x.0 x.1 (Own x.0) b h)
      (λ d e. does_as (again es) [] d b (sent_again way at es d) e
      (sends_again es d (still_there d.downlink b.downlink (ap (λ u. u.downlink) e) h)))

  -- ---- what waits is numbered

  numbers_each : (ps : List (List ℕ)) (b : CuUpBearer) → has_downlink b.downlink ≡ true
      → Does way at.sn (numbered_pdus at.sn at.quota ps b.sender) []
      (record b { sender = numbers_all at.sn at.quota ps b.sender; waiting = still_waits at.sn at.quota b.waiting ps b.sender })
      (number_each way at ps b)
  unfolding number_each Does items_of items_up pdus_of delivered_in numbers_all still_waits numbered_pdus
  numbers_each [] b h = (refl, refl, refl, refl, refl)
  numbers_each (p ∷ ps) b h = by (has_room at.sn at.quota b.sender) (nat_lt last_count b.sender.next)
      (λ d e. more d e (numbers_each ps d (still_there d.downlink b.downlink (ap (λ u. u.downlink) e) h)))
    where
      now : CuUpBearer
      now = record b { sender = with_next b.sender p; waiting = ps }

      all : CuUpBearer → CuUpBearer
      all u = record u { sender = numbers_all at.sn at.quota ps u.sender; waiting = still_waits at.sn at.quota u.waiting ps u.sender }

      more : (d : CuUpBearer) → plain d ≡ plain now
          → Does way at.sn (numbered_pdus at.sn at.quota ps d.sender) [] (all d) (number_each way at ps d)
          → Does way at.sn (numbered_pdus at.sn at.quota ps (with_next b.sender p)) [] (all now) (number_each way at ps d)
      more d e g = does_as (numbered_pdus at.sn at.quota ps (with_next b.sender p)) [] (all d) (all now) (number_each way at ps d)
          (ap all e)
          (subst (λ q. Does way at.sn (numbered_pdus at.sn at.quota ps q) [] (all d) (number_each way at ps d)) (ap (λ u. u.sender) e) g)

      by : (r l : Bool) → ((d : CuUpBearer) → plain d ≡ plain now
          → Does way at.sn (numbered_pdus at.sn at.quota ps (with_next b.sender p)) []
          (record b {
            sender = numbers_all at.sn at.quota ps (with_next b.sender p);
            waiting = still_waits at.sn at.quota ps ps (with_next b.sender p);
          }) (number_each way at ps d))
          → Does way at.sn (if r then packet_pdu b.sender.next p ∷ numbered_pdus at.sn at.quota ps (with_next b.sender p) else []) []
          (record b {
            sender = if r then numbers_all at.sn at.quota ps (with_next b.sender p) else b.sender;
            waiting = if r then still_waits at.sn at.quota ps ps (with_next b.sender p) else b.waiting;
          })
          (if not r then nothing b else ((if l then spent counts_spent else sent way at b.sender.next p (Own b.sender.next) now) then
          number_each way at ps))
      by true true g = tt
      by true false g = then_does (packet_pdu b.sender.next p ∷ []) (numbered_pdus at.sn at.quota ps (with_next b.sender p)) [] [] now
          (record b {
            sender = numbers_all at.sn at.quota ps (with_next b.sender p);
            waiting = still_waits at.sn at.quota ps ps (with_next b.sender p);
          })
          (sent way at b.sender.next p (Own b.sender.next) now) (λ d. number_each way at ps d)
          (sends_one b.sender.next p (Own b.sender.next) now h) g
      by false l g = (refl, refl, refl, refl, refl)

  -- ---- what is delivered

  goes_to_no_radio : (es : List (ℕ × List ℕ)) → pdus_of (delivered way at es) ≡ []
  unfolding pdus_of
  goes_to_no_radio [] = refl
  goes_to_no_radio (e ∷ es) = goes_to_no_radio es

  goes_to_no_other : (es : List (ℕ × List ℕ)) → items_of (delivered way at es) ≡ []
  unfolding items_of
  goes_to_no_other [] = refl
  goes_to_no_other (e ∷ es) = goes_to_no_other es

  delivers : (b : CuUpBearer) → Does way at.sn [] (deliver b.receiver).packets (handed_up b) (deliver_stored way at b)
  unfolding Does deliver_stored
  delivers b = let es = (deliver b.receiver).packets in
      (goes_to_no_other es, none_goes_on way at es, goes_to_no_radio es, all_delivered way at es, refl)

  module _ (unfrozen : at.flags.frozen ≡ false) (kept : at.flags.released ≡ false) where
    numbers_is : (b : CuUpBearer) → has_downlink b.downlink ≡ true → number_waiting way at b ≡ number_each way at b.waiting b
    unfolding number_waiting
    numbers_is b h i = if unfrozen i || kept i || not (h i) then nothing b else number_each way at b.waiting b

    numbers : (b : CuUpBearer) → has_downlink b.downlink ≡ true
        → Does way at.sn (numbered_pdus at.sn at.quota b.waiting b.sender) [] (numbered_all at.sn at.quota b) (number_waiting way at b)
    numbers b h = subst (λ a. Does way at.sn (numbered_pdus at.sn at.quota b.waiting b.sender) [] (numbered_all at.sn at.quota b) a)
        (sym (numbers_is b h)) (numbers_each b.waiting b h)

    -- after what left the bearer as it was
    numbers_then : (d b : CuUpBearer) → plain d ≡ plain b → has_downlink b.downlink ≡ true
        → Does way at.sn (numbered_pdus at.sn at.quota b.waiting b.sender) [] (numbered_all at.sn at.quota b) (number_waiting way at d)
    numbers_then d b e h = does_as (numbered_pdus at.sn at.quota b.waiting b.sender) [] (numbered_all at.sn at.quota d)
        (numbered_all at.sn at.quota b) (number_waiting way at d) (ap (λ u. numbered_all at.sn at.quota u) e)
        (subst (λ (u : CuUpBearer). Does way at.sn (numbered_pdus at.sn at.quota u.waiting u.sender) [] (numbered_all at.sn at.quota d) (number_waiting way at d)) e
        (numbers d (still_there d.downlink b.downlink (ap (λ u. u.downlink) e) h)))

    -- ---- a downlink begins

    pub begins : (fmc : ℕ) (bits : List Bool) (b : CuUpBearer) → has_downlink b.downlink ≡ true
        → Does way at.sn (begun at.sn at.quota fmc bits b) [] (numbered_all at.sn at.quota b) (begin_downlink way at fmc bits b)
    unfolding begin_downlink
    begins fmc bits b h =
        then_does (report_pdu fmc bits ∷ again b.sender.unconfirmed) (numbered_pdus at.sn at.quota b.waiting b.sender) [] [] b
        (numbered_all at.sn at.quota b)
        (framed way at false false (Some (way.write at.sn (report_pdu fmc bits))) Absent b then (λ c. sent_again way at c.sender.unconfirmed c))
        (λ d. number_waiting way at d)
        (then_does (report_pdu fmc bits ∷ []) (again b.sender.unconfirmed) [] [] b b
        (framed way at false false (Some (way.write at.sn (report_pdu fmc bits))) Absent b) (λ c. sent_again way at c.sender.unconfirmed c)
        (frames_one false (report_pdu fmc bits) Absent b h)
        (λ d e. does_as (again b.sender.unconfirmed) [] d b (sent_again way at d.sender.unconfirmed d) e
        (subst (λ (u : CuUpBearer). Does way at.sn (again u.sender.unconfirmed) [] d (sent_again way at d.sender.unconfirmed d)) e
        (sends_again d.sender.unconfirmed d (still_there d.downlink b.downlink (ap (λ u. u.downlink) e) h)))))
        (λ d e. numbers_then d b e h)

  delivers_then : (qs : List Pdu) (b c : CuUpBearer) (more : CuUpBearer → Answer M P CuUpBearer)
      → ((d : CuUpBearer) → plain d ≡ plain (handed_up b) → Does way at.sn qs [] c (more d))
      → Does way at.sn qs (deliver b.receiver).packets c (deliver_stored way at b then more)
  delivers_then qs b c more h = subst (λ es. Does way at.sn qs es c (deliver_stored way at b then more))
      (append-nil (deliver b.receiver).packets)
      (then_does [] qs (deliver b.receiver).packets [] (handed_up b) c (deliver_stored way at b) more (delivers b) h)

  -- ---- switch

  abbrev on_new : CuUpBearer → NodeId → ℕ → CuUpBearer
  on_new b du teid = record (thawed b) { downlink = Some (record { du = du; teid = teid; next = 0 }); restart = false }

  begins_known : (d : CuUpBearer) → at.flags.may_serve ≡ true
      → begin_where_known way at d ≡ begin_downlink way at d.receiver.deliv (received_bits d.receiver) d
  begins_known d known i = if known i then begin_downlink way at d.receiver.deliv (received_bits d.receiver) d else nothing d

  begins_unknown : (d : CuUpBearer) → at.flags.may_serve ≡ false → begin_where_known way at d ≡ nothing d
  begins_unknown d unknown i = if unknown i then begin_downlink way at d.receiver.deliv (received_bits d.receiver) d else nothing d

  pub switch_begins : (du : NodeId) (teid : ℕ) (b : CuUpBearer) → at.flags.may_serve ≡ true → at.flags.frozen ≡ false
      → at.flags.released ≡ false → let c = handed_up (on_downlink b (record { du = du; teid = teid; next = 0 })) in
      Does way at.sn (begun at.sn at.quota c.receiver.deliv (received_bits c.receiver) c)
      (deliver b.receiver).packets (numbered_all at.sn at.quota c) (switched way at du teid b)
  unfolding switched
  switch_begins du teid b known unfrozen kept =
      let c = handed_up (on_new b du teid) in
      delivers_then (begun at.sn at.quota c.receiver.deliv (received_bits c.receiver) c) (on_new b du teid)
      (numbered_all at.sn at.quota (handed_up (on_downlink b (record { du = du; teid = teid; next = 0 })))) (begin_where_known way at)
      (λ d e. subst (λ a. Does way at.sn (begun at.sn at.quota c.receiver.deliv (received_bits c.receiver) c) []
      (numbered_all at.sn at.quota (handed_up (on_downlink b (record { du = du; teid = teid; next = 0 })))) a) (sym (begins_known d known))
      (does_as (begun at.sn at.quota c.receiver.deliv (received_bits c.receiver) c) [] (numbered_all at.sn at.quota d)
      (numbered_all at.sn at.quota (handed_up (on_downlink b (record { du = du; teid = teid; next = 0 }))))
      (begin_downlink way at d.receiver.deliv (received_bits d.receiver) d) (ap (λ u. numbered_all at.sn at.quota u) e)
      (subst (λ (u : CuUpBearer). Does way at.sn (begun at.sn at.quota u.receiver.deliv (received_bits u.receiver) u) []
      (numbered_all at.sn at.quota d) (begin_downlink way at d.receiver.deliv (received_bits d.receiver) d)) e
      (begins unfrozen kept d.receiver.deliv (received_bits d.receiver) d (still_there d.downlink c.downlink (ap (λ u. u.downlink) e) refl)))))

  pub switch_waits : (du : NodeId) (teid : ℕ) (b : CuUpBearer) → at.flags.may_serve ≡ false
      → Does way at.sn [] (deliver b.receiver).packets (handed_up (on_downlink b (record { du = du; teid = teid; next = 0 })))
      (switched way at du teid b)
  unfolding switched Does items_of items_up pdus_of delivered_in
  switch_waits du teid b unknown = delivers_then [] (on_new b du teid) (handed_up (on_downlink b (record { du = du; teid = teid; next = 0 })))
      (begin_where_known way at)
      (λ d e. subst (λ a. Does way at.sn [] [] (handed_up (on_downlink b (record { du = du; teid = teid; next = 0 }))) a)
      (sym (begins_unknown d unknown)) (refl, refl, refl, refl, e))

  -- ---- SN status

  status_is : (t : Bool) (s : SnStatus) (b : CuUpBearer) → at.flags.arrived ≡ t → with_status way at s b
      ≡ (if t then deliver_stored way at (known b s) then begin_downlink way at s.ul_first (bits_in s.ul_received) else nothing (known b s))
  unfolding with_status
  status_is t s b e i = if e i then deliver_stored way at (known b s) then begin_downlink way at s.ul_first (bits_in s.ul_received)
      else nothing (known b s)

  pub status_waits : (s : SnStatus) (b : CuUpBearer) → at.flags.arrived ≡ false → Does way at.sn [] [] (known b s) (with_status way at s b)
  unfolding Does items_of items_up pdus_of delivered_in
  status_waits s b away = subst (λ a. Does way at.sn [] [] (known b s) a) (sym (status_is false s b away)) (refl, refl, refl, refl, refl)

  pub status_begins : (s : SnStatus) (b : CuUpBearer) → at.flags.arrived ≡ true → at.flags.frozen ≡ false → at.flags.released ≡ false
      → has_downlink b.downlink ≡ true → let c = handed_up (known b s) in
      Does way at.sn (begun at.sn at.quota s.ul_first (bits_in s.ul_received) c)
      (deliver (known b s).receiver).packets (numbered_all at.sn at.quota c) (with_status way at s b)
  status_begins s b there unfrozen kept h =
      let c = handed_up (known b s) in
      subst (λ a. Does way at.sn (begun at.sn at.quota s.ul_first (bits_in s.ul_received) c) (deliver (known b s).receiver).packets
      (numbered_all at.sn at.quota c) a) (sym (status_is true s b there))
      (delivers_then (begun at.sn at.quota s.ul_first (bits_in s.ul_received) c) (known b s) (numbered_all at.sn at.quota c)
      (begin_downlink way at s.ul_first (bits_in s.ul_received))
      (λ d e. does_as (begun at.sn at.quota s.ul_first (bits_in s.ul_received) c) [] (numbered_all at.sn at.quota d)
      (numbered_all at.sn at.quota c) (begin_downlink way at s.ul_first (bits_in s.ul_received) d) (ap (λ u. numbered_all at.sn at.quota u) e)
      (subst (λ (u : CuUpBearer). Does way at.sn (begun at.sn at.quota s.ul_first (bits_in s.ul_received) u) []
      (numbered_all at.sn at.quota d) (begin_downlink way at s.ul_first (bits_in s.ul_received) d)) e
      (begins unfrozen kept s.ul_first (bits_in s.ul_received) d (still_there d.downlink c.downlink (ap (λ u. u.downlink) e) h)))))

  -- ---- resume

  pub resume_sends : (b : CuUpBearer) → at.flags.frozen ≡ false → at.flags.released ≡ false → has_downlink b.downlink ≡ true
      → Does way at.sn (with_numbered at.sn at.quota (owed b) b) (deliver b.receiver).packets
      (numbered_all at.sn at.quota (handed_up (thawed b))) (resumed way at b)
  unfolding resumed
  resume_sends b unfrozen kept h =
      let now : CuUpBearer = record (thawed b) { restart = b.restart || b.loss_while_frozen } in
      let c = handed_up (thawed b) in
      subst (λ es. Does way at.sn (with_numbered at.sn at.quota (owed b) b) es (numbered_all at.sn at.quota c) (resumed way at b))
      (append-nil (deliver b.receiver).packets)
      (then_does (again (owed b)) (numbered_pdus at.sn at.quota b.waiting b.sender) (deliver b.receiver).packets [] c
      (numbered_all at.sn at.quota c) (sent_again way at (owed b) now then deliver_stored way at) (λ d. number_waiting way at d)
      (subst (λ ps. Does way at.sn ps (deliver b.receiver).packets c (sent_again way at (owed b) now then deliver_stored way at))
      (append-nil (again (owed b)))
      (then_does (again (owed b)) [] [] (deliver b.receiver).packets now c (sent_again way at (owed b) now) (deliver_stored way at)
      (sends_again (owed b) now h)
      (λ d e. does_as [] (deliver b.receiver).packets (handed_up d) c (deliver_stored way at d) (ap (λ u. handed_up u) e)
      (subst (λ (u : CuUpBearer). Does way at.sn [] (deliver u.receiver).packets (handed_up d) (deliver_stored way at d)) e (delivers d)))))
      (λ d e. numbers_then unfrozen kept d c e h))
