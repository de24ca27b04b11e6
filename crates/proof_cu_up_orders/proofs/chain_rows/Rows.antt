-- The rows of a CU-UP on one bearer, by what their orders do.
use Rattle.std.proofs.Common.{◌≡◌, ℕ, ◌+◌, Bool, true, false, not, ◌&&◌, ◌||◌, if◌then◌else◌, nat_lt, List, [], ◌∷◌, ◌++◌, map, Option, Some, None, refl, sym, ap, subst, ◌∙◌, append_assoc, true≢false, arith}
use Rattle.std.proofs.lemmas.List.{append-nil, map-append}
use Rattle.gnb_types.specs.declared.reasons.DropReason.TheVariants.{Duplicate}
use Rattle.pdcp.specs.Near.{last_count}
use Rattle.pdcp_defs.specs.Senders.{Sender, numbered as with_next, has_room, may_restore, restored, confirmed_to, confirmed_by}
use Rattle.gnb_types.specs.declared.names.SnBits.{SnBits}
use Rattle.gnb_types.specs.declared.names.NodeId.{NodeId}
use Rattle.gnb_types.specs.declared.names.Dir.TheVariants.{Dl, Ul}
use Rattle.gnb_types.specs.declared.outputs.Tag.{Tag}
use Rattle.gnb_types.specs.declared.outputs.Tag.TheVariants.{Absent, Own, Same}
use Rattle.unit_defs.specs.Ways.{Pdu, packet_pdu, Load, frame, Output, packet, control, radio, deliver, dropped, held, opened, closed, failed, no, Way, Answer, gives, spent, with_outputs, ◌then◌, nothing, puts, drops, frames_spent, counts_spent}
use Rattle.unit_defs.specs.Ways as ways
use Rattle.unit_defs.specs.CuUpRecords.{CuUpBearer, SourceHop, DownlinkTunnel, CuUpScope}
use Rattle.unit_defs.specs.CuUpBearers.{forwarded_down, forwarded_up, forward_numbered, forward_fresh, forward_late, frozen_to, number_waiting, number_each, sent, sent_again, framed, framed_on, has_downlink, last_frame}
use Rattle.unit_defs.specs.CuUpItems.{took_fresh, took_numbered, took_report, took_delivery_status, closed_n3, n3_ended}
use Rattle.bearer_defs.specs.chain_defs.Models.{Item, numbered, fresh, end_marker}
use Rattle.bearer_defs.specs.chain_defs.Orders.{forwards, frozen, waits, waits_unless, takes_unless, holds}
use Rattle.proof_cu_up_orders.specs.chain_rows.Shown.{items_of, item_of, pdus_of, pdu_of, plain, without_number, Gives, numbers_all, still_waits, numbered_pdus}

module _ {M P : Type 0} where
  pub items-append : (xs ys : List (Output M P)) → items_of (xs ++ ys) ≡ items_of xs ++ items_of ys
  unfolding items_of
  items-append [] ys = refl
  items-append (packet to teid ue bearer Dl tag load ∷ xs) ys =
      ap (λ zs. item_of load ++ zs) (items-append xs ys) ∙ sym (append_assoc (item_of load) (items_of xs) (items_of ys))
  items-append (_ ∷ xs) ys = items-append xs ys

  pub pdus-append : (xs ys : List (Output M P)) → pdus_of (xs ++ ys) ≡ pdus_of xs ++ pdus_of ys
  unfolding pdus_of
  pdus-append [] ys = refl
  pdus-append (packet to teid ue bearer Dl tag load ∷ xs) ys =
      ap (λ zs. pdu_of load ++ zs) (pdus-append xs ys) ∙ sym (append_assoc (pdu_of load) (pdus_of xs) (pdus_of ys))
  pdus-append (_ ∷ xs) ys = pdus-append xs ys

module _ {M C P : Type 0} (way : Way M C P) (at : CuUpScope) where
  -- ---- what goes to the next context

  unfoldable pub down : SourceHop → Tag → Load P → Output M P
  down hop tag load = packet hop.peer hop.down at.ue at.bearer Dl tag load

  unfoldable pub up : SourceHop → Tag → Load P → Output M P
  up hop tag load = packet hop.peer hop.up at.ue at.bearer Ul tag load

  pub put_down_is : (tag : Tag) (load : Load P) (b : CuUpBearer) (hop : SourceHop) → b.hop ≡ Some hop
      → forwarded_down way at tag load b ≡ gives (down hop tag load ∷ []) b
  unfolding forwarded_down down
  put_down_is tag load b hop e = rw e

  pub put_up_is : (tag : Tag) (load : Load P) (b : CuUpBearer) (hop : SourceHop) → b.hop ≡ Some hop
      → forwarded_up way at tag load b ≡ gives (up hop tag load ∷ []) b
  unfolding forwarded_up up
  put_up_is tag load b hop e = rw e

  pub numbered_are : (es : List (ℕ × List ℕ)) (b : CuUpBearer) (hop : SourceHop) → b.hop ≡ Some hop
      → forward_numbered way at es b ≡ gives (map (λ e. down hop (Own e.0) (ways.numbered at.sn e.0 e.1)) es) b
  numbered_are [] b hop e = refl
  numbered_are (x ∷ es) b hop e = rw (put_down_is (Own x.0) (ways.numbered at.sn x.0 x.1) b hop e, numbered_are es b hop e)

  pub fresh_are : (ps : List (List ℕ)) (b : CuUpBearer) (hop : SourceHop) → b.hop ≡ Some hop
      → forward_fresh way at ps b ≡ gives (map (λ p. down hop Absent (ways.fresh p)) ps) b
  fresh_are [] b hop e = refl
  fresh_are (x ∷ ps) b hop e = rw (put_down_is Absent (ways.fresh x) b hop e, fresh_are ps b hop e)

  pub late_are : (es : List (ℕ × List ℕ)) (b : CuUpBearer) (hop : SourceHop) → b.hop ≡ Some hop
      → forward_late way at es b ≡ gives (map (λ e. up hop (Own e.0) (ways.numbered at.sn e.0 e.1)) es) b
  late_are [] b hop e = refl
  late_are (x ∷ es) b hop e = rw (put_up_is (Own x.0) (ways.numbered at.sn x.0 x.1) b hop e, late_are es b hop e)

  -- ---- freeze

  numbered_items : (es : List (ℕ × List ℕ)) (hop : SourceHop)
      → items_of (map (λ (e : ℕ × List ℕ). down hop (Own e.0) (ways.numbered at.sn e.0 e.1)) es) ≡ map (λ e. numbered e.0 e.1) es
  unfolding items_of down
  numbered_items [] hop = refl
  numbered_items (x ∷ es) hop = ap (λ ys. numbered x.0 x.1 ∷ ys) (numbered_items es hop)

  fresh_items : (ps : List (List ℕ)) (hop : SourceHop) → items_of (map (λ p. down hop Absent (ways.fresh p)) ps) ≡ map (λ p. fresh p) ps
  unfolding items_of down
  fresh_items [] hop = refl
  fresh_items (x ∷ ps) hop = ap (λ ys. fresh x ∷ ys) (fresh_items ps hop)

  late_items : (es : List (ℕ × List ℕ)) (hop : SourceHop)
      → items_of (map (λ (e : ℕ × List ℕ). up hop (Own e.0) (ways.numbered at.sn e.0 e.1)) es) ≡ []
  unfolding items_of up
  late_items [] hop = refl
  late_items (x ∷ es) hop = late_items es hop

  numbered_none : (es : List (ℕ × List ℕ)) (hop : SourceHop)
      → pdus_of (map (λ (e : ℕ × List ℕ). down hop (Own e.0) (ways.numbered at.sn e.0 e.1)) es) ≡ []
  unfolding pdus_of down
  numbered_none [] hop = refl
  numbered_none (x ∷ es) hop = numbered_none es hop

  fresh_pdus : (ps : List (List ℕ)) (hop : SourceHop) → pdus_of (map (λ p. down hop Absent (ways.fresh p)) ps) ≡ []
  unfolding pdus_of down
  fresh_pdus [] hop = refl
  fresh_pdus (x ∷ ps) hop = fresh_pdus ps hop

  late_pdus : (es : List (ℕ × List ℕ)) (hop : SourceHop)
      → pdus_of (map (λ (e : ℕ × List ℕ). up hop (Own e.0) (ways.numbered at.sn e.0 e.1)) es) ≡ []
  unfolding pdus_of up
  late_pdus [] hop = refl
  late_pdus (x ∷ es) hop = late_pdus es hop

  abbrev hop_of : NodeId → ℕ → ℕ → SourceHop
  hop_of peer d u = record { peer = peer; down = d; up = u; up_ended = false }

  pub freezes : (peer : NodeId) (d u : ℕ) (b : CuUpBearer)
      → Gives way at.sn (forwards b) [] (frozen b (hop_of peer d u)) (frozen_to way at peer d u b)
  unfolding Gives frozen_to
  freezes peer d u b =
      let hop = hop_of peer d u in
      let c : CuUpBearer = frozen b hop in
      let xs = map (λ (e : ℕ × List ℕ). down hop (Own e.0) (ways.numbered at.sn e.0 e.1)) b.sender.unconfirmed in
      let ys = map (λ p. down hop Absent (ways.fresh p)) b.waiting in
      let zs = map (λ (e : ℕ × List ℕ). up hop (Own e.0) (ways.numbered at.sn e.0 e.1)) b.receiver.stored in
      let i : items_of ((xs ++ ys) ++ zs) ≡ forwards b =
      items-append (xs ++ ys) zs ∙ ap (λ ws. ws ++ items_of zs) (items-append xs ys)
      ∙ rw (numbered_items b.sender.unconfirmed hop, fresh_items b.waiting hop, late_items b.receiver.stored hop)
      (append-nil (forwards b)) in
      let j : pdus_of ((xs ++ ys) ++ zs) ≡ [] =
      pdus-append (xs ++ ys) zs ∙ ap (λ ws. ws ++ pdus_of zs) (pdus-append xs ys)
      ∙ rw (numbered_none b.sender.unconfirmed hop, fresh_pdus b.waiting hop, late_pdus b.receiver.stored hop) refl in
      rw (numbered_are b.sender.unconfirmed c hop refl, fresh_are b.waiting c hop refl, late_are b.receiver.stored c hop refl) (i, j, refl)

  -- ---- items that go on

  pub passes_a_fresh_one : (p : List ℕ) (b : CuUpBearer) (hop : SourceHop) → b.hop ≡ Some hop → at.flags.frozen ≡ true
      → Gives way at.sn (fresh p ∷ []) [] (waits_unless at.flags.released b p) (took_fresh way at p b)
  unfolding Gives took_fresh items_of pdus_of down
  passes_a_fresh_one p b hop e f = by at.flags.released at.flags.frozen f
    where
      by : (r f : Bool) → f ≡ true → Gives way at.sn (fresh p ∷ []) [] (waits_unless r b p)
          (if r then forwarded_down way at Absent (ways.fresh p) b else
          (if f then forwarded_down way at Absent (ways.fresh p) (waits b p) else number_waiting way at (waits b p)))
      by true f g = rw (put_down_is Absent (ways.fresh p) b hop e) (refl, refl, refl)
      by false true g = rw (put_down_is Absent (ways.fresh p) (waits b p) hop e) (refl, refl, refl)
      by false false g = absurd (true≢false (sym g))

  pub passes_a_numbered_one : (count : ℕ) (p : List ℕ) (b : CuUpBearer) (hop : SourceHop) → b.hop ≡ Some hop → at.flags.frozen ≡ true
      → (at.flags.released ≡ false → may_restore at.sn at.quota b.sender count ≡ true)
      → Gives way at.sn (numbered count p ∷ []) [] (takes_unless at.flags.released b count p) (took_numbered way at (Some count) p b)
  unfolding Gives took_numbered items_of pdus_of restored down
  passes_a_numbered_one count p b hop e f room = by at.flags.released at.flags.frozen (may_restore at.sn at.quota b.sender count) f room
    where
      taken : CuUpBearer
      taken = record (holds b count p) { taken_while_frozen = b.taken_while_frozen ++ count ∷ [] }

      by : (r f m : Bool) → f ≡ true → (r ≡ false → m ≡ true) → Gives way at.sn (numbered count p ∷ []) [] (takes_unless r b count p)
          (if r then forwarded_down way at Same (ways.numbered at.sn count p) b else
          (if m then (if f then forwarded_down way at Same (ways.numbered at.sn count p) taken else sent way at count p Same
          (holds b count p)) else drops Duplicate b))
      by true f m g h = rw (put_down_is Same (ways.numbered at.sn count p) b hop e) (refl, refl, refl)
      by false true true g h = rw (put_down_is Same (ways.numbered at.sn count p) taken hop e) (refl, refl, refl)
      by false false true g h = absurd (true≢false (sym g))
      by false f false g h = absurd (true≢false (sym (h refl)))

  -- ---- the End Marker of N3

  pub passes_the_end : (b : CuUpBearer) (hop : SourceHop) (teid : ℕ) → b.hop ≡ Some hop → b.n3 ≡ Some teid
      → Gives way at.sn (end_marker ∷ []) [] (record b { n3 = None }) (n3_ended way at b b.hop)
  unfolding Gives items_of pdus_of down
  passes_the_end b hop teid e f = by b.hop e
    where
      ends : (o : Option ℕ) → o ≡ Some teid → Gives way at.sn (end_marker ∷ []) [] (record b { n3 = None })
          (with_outputs (down hop Absent ways.end_marker ∷ []) (closed_n3 way b o))
      ends None g = absurd cc
      ends (Some n) g = (refl, refl, refl)

      by : (o : Option SourceHop) → o ≡ Some hop → Gives way at.sn (end_marker ∷ []) [] (record b { n3 = None }) (n3_ended way at b o)
      by None g = absurd cc
      by (Some k) g = rw (put_down_is Absent ways.end_marker b hop e) (ends b.n3 f)

  -- ---- what is kept waits, and is numbered while there is room

  pub keeps_a_fresh_one : (p : List ℕ) (b : CuUpBearer) → at.flags.frozen ≡ false → at.flags.released ≡ false
      → took_fresh way at p b ≡ number_waiting way at (waits b p)
  unfolding took_fresh
  keeps_a_fresh_one p b f r = rw (r, f) refl

  pub then_gives : (i j : List Item) (ps qs : List Pdu) (b c : CuUpBearer) (a : Answer M P CuUpBearer) (more : CuUpBearer → Answer M P CuUpBearer)
      → Gives way at.sn i ps b a
      → ((d : CuUpBearer) → plain d ≡ plain b → Gives way at.sn j qs c (more d)) → Gives way at.sn (i ++ j) (ps ++ qs) c (a then more)
  unfolding Gives
  then_gives i j ps qs b c (spent counter) more g h = tt
  then_gives i j ps qs b c (gives outputs d) more g h = by (more d) (h d g.2)
    where
      by : (r : Answer M P CuUpBearer) → Gives way at.sn j qs c r → Gives way at.sn (i ++ j) (ps ++ qs) c (with_outputs outputs r)
      by (spent counter) k = tt
      by (gives others e) k = (
        items-append outputs others ∙ rw (g.0, k.0) refl,
        pdus-append outputs others ∙ rw (g.1, k.1) (sym (map-append (λ pdu. way.write at.sn pdu) ps qs)),
        k.2,
      )

  sends_one : (count : ℕ) (p : List ℕ) (tag : Tag) (b : CuUpBearer) → has_downlink b.downlink ≡ true
      → Gives way at.sn [] (packet_pdu count p ∷ []) b (sent way at count p tag b)
  unfolding Gives sent framed items_of pdus_of
  sends_one count p tag b h = by b.downlink refl h
    where
      by : (o : Option DownlinkTunnel) → b.downlink ≡ o → has_downlink o ≡ true
          → Gives way at.sn [] (packet_pdu count p ∷ []) b
          (framed_on way at b false b.restart (Some (way.write at.sn (packet_pdu count p))) tag o)
      by None e i = absurd (true≢false (sym i))
      by (Some d) e i = which (nat_lt last_frame d.next)
        where
          which : (t : Bool) → Gives way at.sn [] (packet_pdu count p ∷ []) b
              (if t then spent frames_spent
              else puts (packet d.du d.teid at.ue at.bearer Dl tag
              (frame false b.restart d.next (Some (way.write at.sn (packet_pdu count p)))))
              (record b { downlink = Some (record d { next = d.next + 1 }); restart = b.restart && not b.restart }))
          which true = tt
          which false = (refl, refl, rw e refl)

  pub gives_as : (i : List Item) (ps : List Pdu) (b c : CuUpBearer) (a : Answer M P CuUpBearer) → plain b ≡ plain c → Gives way at.sn i ps b a
      → Gives way at.sn i ps c a
  unfolding Gives
  gives_as i ps b c (spent counter) e g = tt
  gives_as i ps b c (gives outputs d) e g = (g.0, g.1, g.2 ∙ e)

  still_there : (o q : Option DownlinkTunnel) → without_number o ≡ without_number q → has_downlink q ≡ true → has_downlink o ≡ true
  still_there (Some d) q e h = refl
  still_there None None e h = h
  still_there None (Some d) e h = absurd cc

  -- one after another, while there is room
  pub each_gives : (ps : List (List ℕ)) (b : CuUpBearer) → has_downlink b.downlink ≡ true
      → Gives way at.sn [] (numbered_pdus at.sn at.quota ps b.sender)
      (record b { sender = numbers_all at.sn at.quota ps b.sender; waiting = still_waits at.sn at.quota b.waiting ps b.sender })
      (number_each way at ps b)
  unfolding number_each Gives items_of pdus_of numbers_all still_waits numbered_pdus
  each_gives [] b h = (refl, refl, refl)
  each_gives (p ∷ ps) b h = by (has_room at.sn at.quota b.sender) (nat_lt last_count b.sender.next)
      (λ d e. more d e (each_gives ps d (still_there d.downlink b.downlink (ap (λ u. u.downlink) e) h)))
    where
      now : CuUpBearer
      now = record b { sender = with_next b.sender p; waiting = ps }

      all : CuUpBearer → CuUpBearer
      all u = record u { sender = numbers_all at.sn at.quota ps u.sender; waiting = still_waits at.sn at.quota u.waiting ps u.sender }

      more : (d : CuUpBearer) → plain d ≡ plain now
          → Gives way at.sn [] (numbered_pdus at.sn at.quota ps d.sender) (all d) (number_each way at ps d)
          → Gives way at.sn [] (numbered_pdus at.sn at.quota ps (with_next b.sender p)) (all now) (number_each way at ps d)
      more d e g = gives_as [] (numbered_pdus at.sn at.quota ps (with_next b.sender p)) (all d) (all now) (number_each way at ps d)
          (ap all e)
          (subst (λ q. Gives way at.sn [] (numbered_pdus at.sn at.quota ps q) (all d) (number_each way at ps d)) (ap (λ u. u.sender) e) g)

      by : (r l : Bool) → ((d : CuUpBearer) → plain d ≡ plain now
          → Gives way at.sn [] (numbered_pdus at.sn at.quota ps (with_next b.sender p))
          (record b {
            sender = numbers_all at.sn at.quota ps (with_next b.sender p);
            waiting = still_waits at.sn at.quota ps ps
                (with_next b.sender p);
          }) (number_each way at ps d))
          → Gives way at.sn [] (if r then packet_pdu b.sender.next p ∷ numbered_pdus at.sn at.quota ps (with_next b.sender p) else [])
          (record b {
            sender = if r then numbers_all at.sn at.quota ps (with_next b.sender p) else b.sender;
            waiting = if r then still_waits at.sn at.quota ps ps (with_next b.sender p) else b.waiting;
          })
          (if not r then nothing b else ((if l then spent counts_spent else sent way at b.sender.next p (Own b.sender.next) now) then
          number_each way at ps))
      by true true g = tt
      by true false g = then_gives [] [] (packet_pdu b.sender.next p ∷ []) (numbered_pdus at.sn at.quota ps (with_next b.sender p)) now
          (record b {
            sender = numbers_all at.sn at.quota ps (with_next b.sender p);
            waiting = still_waits at.sn at.quota ps ps
                (with_next b.sender p);
          })
          (sent way at b.sender.next p (Own b.sender.next) now) (λ d. number_each way at ps d)
          (sends_one b.sender.next p (Own b.sender.next) now h) g
      by false l g = (refl, refl, refl)

  -- ---- what is sent

  pub sends_a_numbered_one : (count : ℕ) (p : List ℕ) (b : CuUpBearer) → has_downlink b.downlink ≡ true → at.flags.frozen ≡ false
      → at.flags.released ≡ false → may_restore at.sn at.quota b.sender count ≡ true
      → Gives way at.sn [] (packet_pdu count p ∷ []) (holds b count p) (took_numbered way at (Some count) p b)
  unfolding took_numbered sent framed
  sends_a_numbered_one count p b h f r m = rw (r, m, f) (sends_one count p Same (holds b count p) h)

  pub sends_all_again : (es : List (ℕ × List ℕ)) (b : CuUpBearer) → has_downlink b.downlink ≡ true
      → Gives way at.sn [] (map (λ e. packet_pdu e.0 e.1) es) b (sent_again way at es b)
  unfolding sent_again Gives items_of pdus_of
  sends_all_again [] b h = (refl, refl, refl)
  sends_all_again (x ∷ es) b h =
      then_gives [] [] (packet_pdu x.0 x.1 ∷ []) (map (λ e. packet_pdu e.0 e.1) es) b b (sent way at x.0 x.1 (Own x.0) b)
      (λ d. sent_again way at es d)
      (sends_one x.0 x.1 (Own x.0) b h)
      (λ d e. gives_as [] (map (λ (u : ℕ × List ℕ). packet_pdu u.0 u.1) es) d b (sent_again way at es d) e
      (sends_all_again es d (still_there d.downlink b.downlink (ap (λ u. u.downlink) e) h)))

  -- ---- what is confirmed makes room

  pub reports_make_room : (fmc : ℕ) (bits : List Bool) (b : CuUpBearer)
      → took_report way at fmc bits b ≡ number_waiting way at (record b { sender = confirmed_by b.sender fmc bits })
  unfolding took_report
  reports_make_room fmc bits b = refl

  pub statuses_make_room : (count : ℕ) (b : CuUpBearer)
      → took_delivery_status way at [] (Some count) b ≡ number_waiting way at (record b { sender = confirmed_to b.sender count })
  unfolding took_delivery_status
  statuses_make_room count b = nothing_first (number_waiting way at (record b { sender = confirmed_to b.sender count }))
    where
      nothing_first : (a : Answer M P CuUpBearer) → with_outputs [] a ≡ a
      nothing_first (gives outputs c) = refl
      nothing_first (spent counter) = refl
