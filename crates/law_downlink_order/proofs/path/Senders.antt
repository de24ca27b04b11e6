-- What the CU-UP does keeps all.
use Rattle.std.proofs.Common.{◌≡◌, ℕ, zero, suc, ◌+◌, ◌-◌, ◌<◌, ◌≤◌, min, max, Bool, true, false, not, ◌&&◌, ◌==◌, nat_lt, nat_le, List, [], ◌∷◌, ◌++◌, filter, Option, Some, None, refl, sym, ap, subst, ◌∙◌, arith}
use Rattle.std.proofs.lemmas.List.{append-nil}
use Rattle.std.specs.List.{list_any}
use Rattle.intervals.specs.Intervals.{segment, upto}
use Rattle.intervals.proofs.Intervals.{upto-nil, upto-snoc, upto-filter}
use Rattle.pdcp_defs.specs.Senders.{Sender, numbered as with_next, restored, confirmed_to, confirmed_by, is_reported}
use Rattle.unit_defs.specs.Ways.{report_pdu}
use Rattle.unit_defs.specs.CuUpRecords.{CuUpBearer}
use Rattle.unit_defs.specs.CuUpBearers.{is_one_of}
use Rattle.bearer_defs.specs.chain_defs.Orders.{holds}
use Rattle.law_downlink_order.proofs.chain.Facts.{pairs}
use Rattle.law_downlink_order.proofs.chain.Frames.{apart}
use Rattle.law_downlink_order.specs.path.Paths.{Frame, Path, Sending, frame_on, packets_sent}
use Rattle.law_downlink_order.specs.path.Steps.{numbers, sends, keeps, polls, reports, status, confirms, put, confirmed_if, sent_again, is_received, after}
use Rattle.law_downlink_order.proofs.path.Facts.{View, view, Marked, Speaks, Holds, Radio, Kept}
use Rattle.law_downlink_order.proofs.path.Puts.{stands_later, Alike, Puts, IsQuiet, puts_upto, puts_quiet}

-- ---- facts stay as more is received, and as more packets come

marked_later : (t : Bool) (cursor deliv later needed : ℕ) → deliv ≤ later → Marked t cursor deliv needed → Marked t cursor later needed
unfolding Marked
marked_later true cursor deliv later needed l h = let a : cursor ≤ deliv = h in omega arith
marked_later false cursor deliv later needed l h = let a : cursor ≤ max deliv needed = h in omega arith

pub speaks_later : (p : ℕ → List ℕ) (v : View) (tunnel : List Frame) (b : CuUpBearer) (cursor later more reached : ℕ) → v.deliv ≤ later
    → v.comes ≤ more → v.reached ≤ reached → Speaks p v tunnel b cursor
    → Speaks p (record v { deliv = later; comes = more; reached = reached }) tunnel b cursor
speaks_later p v tunnel b cursor later more reached l m n h = record {
  need = h.need;
  downlink = h.downlink;
  there = h.there;
  line = record {
    stands = stands_later p h.need v.deliv v.comes later more l m v.awaited tunnel (h.downlink.next) h.line.stands;
    taken = λ w u. (let a = h.line.taken w u in omega arith);
  };
  marked = λ u. marked_later b.restart cursor v.deliv later (h.need (h.downlink.next)) l (h.marked u);
}

abbrev pub RadioOf : (ℕ → List ℕ) → ℕ → Path → Type 0
RadioOf p base s = Radio p (max base s.comes) s.terminal.deliv s.terminal.stored s.air s.delivered

radio_more : (p : ℕ → List ℕ) (limit more deliv : ℕ) (stored air delivered : List (ℕ × List ℕ)) → limit ≤ more
    → Radio p limit deliv stored air delivered → Radio p more deliv stored air delivered
radio_more p limit more deliv stored air delivered l r = record {
  no_gap = r.no_gap;
  packets = r.packets;
  reached_limit = (let a = r.reached_limit in omega arith);
  delivered_are = r.delivered_are;
  none_stored = r.none_stored;
}

holds_alike : (p : ℕ → List ℕ) (f : Bool) (b c : CuUpBearer) (deliv comes low sent : ℕ) → Alike b c → Holds p f b deliv comes low sent
    → Holds p f c deliv comes low sent
holds_alike p f b c deliv comes low sent a h = record {
  unconfirmed_are = ap (λ (x : Sender (List ℕ)). x.unconfirmed) a.sender ∙ h.unconfirmed_are;
  low_comes = h.low_comes;
  low_deliv = h.low_deliv;
  sent_comes = h.sent_comes;
  all_sent = λ u. ((h.all_sent u).0, a.loss ∙ (h.all_sent u).1);
  taken_are = λ u. a.taken ∙ h.taken_are u;
}

-- a bearer sends
pub kept_sent : (p : ℕ → List ℕ) (base : ℕ) (s : Path) (f : Bool) (more : ℕ) (b : CuUpBearer) (sent : Sending) (low cursor : ℕ) → s.comes ≤ more
    → Holds p f b s.terminal.deliv more low cursor → Puts p (record (view s) { comes = more }) s.tunnel b cursor sent → RadioOf p base s
    → Kept p base (record (put s sent) { comes = more; frozen = f })
kept_sent p base s f more b sent low cursor l h j r = record {
  low = low;
  sent = cursor;
  holds = holds_alike p f b sent.bearer s.terminal.deliv more low cursor j.1 h;
  speaks = j.0;
  radio = radio_more p (max base s.comes) (max base more) s.terminal.deliv s.terminal.stored s.air s.delivered (omega arith) r;
}

one_pair : (p : ℕ → List ℕ) (i j : ℕ) (packet : List ℕ) → j ≡ i → packet ≡ p i → upto (pairs p) i (i + 1) ≡ (j, packet) ∷ []
unfolding upto segment
one_pair p i j packet e h = let k : i + 1 - i ≡ 1 = omega arith in rw (k, e, h) refl

-- ---- what was taken while frozen, of all that nothing confirmed

any_segment : (i a n : ℕ) → list_any (λ c. c == i) (segment (λ j. j) a n) ≡ (nat_le a i && nat_lt i (a + n))
unfolding segment
any_segment i a zero = grind arith
any_segment i a (suc n) = rw (any_segment i (a + 1) n) (grind arith)

any_upto : (i a b : ℕ) → a ≤ b → is_one_of (upto (λ j. j) a b) i ≡ (nat_le a i && nat_lt i b)
unfolding upto
any_upto i a b h = let e : a + (b - a) ≡ b = omega arith in any_segment i a (b - a) ∙ ap (λ n. nat_le a i && nat_lt i n) e

pub taken_of_all : (p : ℕ → List ℕ) (low held sent : ℕ) → sent ≤ held
    → filter (λ (e : ℕ × List ℕ). is_one_of (upto (λ j. j) sent held) e.0) (upto (pairs p) low held) ≡ upto (pairs p) (max low sent) held
taken_of_all p low held sent h = upto-filter (pairs p) (λ e. is_one_of (upto (λ j. j) sent held) e.0) sent
    (λ i l. any_upto i sent held h ∙ below i l) low held (λ i l o. any_upto i sent held h ∙ within i l o)
  where
    below : (i : ℕ) → i < sent → (nat_le sent i && nat_lt i held) ≡ false
    below i l = grind arith

    within : (i : ℕ) → sent ≤ i → i < held → (nat_le sent i && nat_lt i held) ≡ true
    within i l o = grind arith

module _ (p : ℕ → List ℕ) (base : ℕ) (s : Path) (k : Kept p base s) where
  abbrev v : View
  v = view s

  more_come : Speaks p (record v { comes = s.comes + 1 }) s.tunnel s.bearer k.sent
  more_come = speaks_later p v s.tunnel s.bearer k.sent v.deliv (s.comes + 1) v.reached (omega arith) (omega arith) (omega arith) k.speaks

  low_more : k.low ≤ s.comes
  low_more = k.holds.low_comes

  -- ---- a packet comes

  -- it is held, and sent
  sends_one : (b : CuUpBearer) (count : ℕ) (packet : List ℕ) → s.frozen ≡ false → count ≡ s.comes → packet ≡ p s.comes
      → b.downlink ≡ s.bearer.downlink → b.restart ≡ s.bearer.restart → b.loss_while_frozen ≡ s.bearer.loss_while_frozen
      → b.sender.unconfirmed ≡ s.bearer.sender.unconfirmed ++ (count, packet) ∷ []
      → Kept p base (record (put s (packets_sent ((count, packet) ∷ []) b)) { comes = s.comes + 1 })
  sends_one b count packet unfrozen number is same_downlink same_restart same_loss un =
      let all = k.holds.all_sent unfrozen in
      let h = more_come in
      let at : Speaks p (record v { comes = s.comes + 1 }) s.tunnel b s.comes = record {
        need = h.need;
        downlink = h.downlink;
        there = same_downlink ∙ h.there;
        line = h.line;
        marked = λ u. subst (λ t. Marked t s.comes v.deliv (h.need (h.downlink.next))) (sym same_restart)
            (subst (λ c. Marked s.bearer.restart c v.deliv (h.need (h.downlink.next))) all.0 (h.marked all.1));
      } in
      let j = puts_upto p (record v { comes = s.comes + 1 }) s.comes (s.comes + 1) s.tunnel b at (same_loss ∙ all.1) (omega arith)
      (omega arith) in
      let one = one_pair p s.comes count packet number is in
      kept_sent p base s s.frozen (s.comes + 1) b (packets_sent ((count, packet) ∷ []) b) k.low (s.comes + 1) (omega arith)
      (record {
        unconfirmed_are = un ∙ ap (λ xs. xs ++ (count, packet) ∷ []) k.holds.unconfirmed_are
            ∙ rw (number, is) (sym (upto-snoc (pairs p) k.low s.comes k.holds.low_comes));
        low_comes = (let a = k.holds.low_comes in omega arith);
        low_deliv = k.holds.low_deliv;
        sent_comes = omega arith;
        all_sent = λ _. (refl, same_loss ∙ all.1);
        taken_are = λ u. apart u unfrozen;
      })
      (subst (λ xs. Puts p (record v { comes = s.comes + 1 }) s.tunnel b (s.comes + 1) (packets_sent xs b)) one j) k.radio

  pub kept_numbers : (packet : List ℕ) → s.frozen ≡ false → s.bearer.sender.next ≡ s.comes → packet ≡ p s.comes
      → Kept p base (after s (numbers packet))
  unfolding after with_next
  kept_numbers packet unfrozen number is =
      sends_one (record s.bearer { sender = with_next s.bearer.sender packet }) s.bearer.sender.next packet unfrozen number is refl refl
      refl refl

  pub kept_sends : (count : ℕ) (packet : List ℕ) → s.frozen ≡ false → count ≡ s.comes → packet ≡ p s.comes
      → Kept p base (after s (sends count packet))
  unfolding after restored
  kept_sends count packet unfrozen number is =
      sends_one (holds s.bearer count packet) count packet unfrozen number is refl refl refl refl

  -- or it is held while frozen
  pub kept_keeps : (count : ℕ) (packet : List ℕ) → s.frozen ≡ true → count ≡ s.comes → packet ≡ p s.comes
      → Kept p base (after s (keeps count packet))
  unfolding after restored
  kept_keeps count packet is_frozen number is =
      let h = more_come in
      record {
        low = k.low;
        sent = k.sent;
        holds = record {
          unconfirmed_are = ap (λ xs. xs ++ (count, packet) ∷ []) k.holds.unconfirmed_are
              ∙ rw (number, is) (sym (upto-snoc (pairs p) k.low s.comes k.holds.low_comes));
          low_comes = (let a = k.holds.low_comes in omega arith);
          low_deliv = k.holds.low_deliv;
          sent_comes = (let a = k.holds.sent_comes in omega arith);
          all_sent = λ u. apart is_frozen u;
          taken_are = λ u. ap (λ xs. xs ++ count ∷ []) (k.holds.taken_are is_frozen)
              ∙ rw number (sym (upto-snoc (λ i. i) k.sent s.comes k.holds.sent_comes));
        };
        speaks = record { need = h.need; downlink = h.downlink; there = h.there; line = h.line; marked = h.marked };
        radio = radio_more p (max base s.comes) (max base (s.comes + 1)) s.terminal.deliv s.terminal.stored s.air s.delivered (omega arith) k.radio;
      }

  -- ---- frames that carry no packet

  pub kept_polls : Kept p base (after s polls)
  unfolding after IsQuiet
  kept_polls = kept_sent p base s s.frozen s.comes s.bearer (frame_on true false None s.bearer s.bearer.downlink) k.low k.sent (omega arith)
      k.holds (puts_quiet p v true None tt s.tunnel s.bearer k.sent k.speaks) k.radio

  pub kept_reports : (fmc : ℕ) (bits : List Bool) → Kept p base (after s (reports fmc bits))
  unfolding after IsQuiet
  kept_reports fmc bits = kept_sent p base s s.frozen s.comes s.bearer
      (frame_on false false (Some (report_pdu fmc bits)) s.bearer s.bearer.downlink) k.low k.sent (omega arith) k.holds
      (puts_quiet p v false (Some (report_pdu fmc bits)) tt s.tunnel s.bearer k.sent k.speaks) k.radio

  -- ---- confirmations: all below a COUNT that was received

  abbrev left : ℕ → ℕ
  left n = min (max k.low n) s.comes

  upto_left : (n : ℕ) → upto (pairs p) (max k.low n) s.comes ≡ upto (pairs p) (left n) s.comes
  upto_left n = by (nat_lt s.comes (max k.low n)) refl
    where
      by : (t : Bool) → nat_lt s.comes (max k.low n) ≡ t → upto (pairs p) (max k.low n) s.comes ≡ upto (pairs p) (left n) s.comes
      by true t =
          let l : s.comes ≤ max k.low n = grind arith in
          let o : s.comes ≤ left n = omega arith in
          upto-nil (pairs p) (max k.low n) s.comes l ∙ sym (upto-nil (pairs p) (left n) s.comes o)
      by false t =
          let l : max k.low n ≤ s.comes = grind arith in
          let o : max k.low n ≡ left n = omega arith in
          ap (λ a. upto (pairs p) a s.comes) o

  confirmed : (n : ℕ) (un : List (ℕ × List ℕ)) → n ≤ s.terminal.deliv → un ≡ upto (pairs p) (max k.low n) s.comes
      → Kept p base (record s { bearer = record s.bearer { sender = record s.bearer.sender { unconfirmed = un } } })
  confirmed n un received are =
      let h = k.speaks in
      record {
        low = left n;
        sent = k.sent;
        holds = record {
          unconfirmed_are = are ∙ upto_left n;
          low_comes = omega arith;
          low_deliv = (let a = k.holds.low_deliv in omega arith);
          sent_comes = k.holds.sent_comes;
          all_sent = k.holds.all_sent;
          taken_are = k.holds.taken_are;
        };
        speaks = record { need = h.need; downlink = h.downlink; there = h.there; line = h.line; marked = h.marked };
        radio = k.radio;
      }

  confirmed_up_to : (delivered : Option ℕ) → is_received delivered s.terminal.deliv
      → Kept p base (record s { bearer = confirmed_if delivered s.bearer })
  unfolding confirmed_to
  confirmed_up_to None received = k
  confirmed_up_to (Some count) received = confirmed (count + 1) (filter (λ u. nat_lt count u.0) s.bearer.sender.unconfirmed)
      (let l : count < s.terminal.deliv = received in omega arith)
      (rw k.holds.unconfirmed_are
      (upto-filter (pairs p) (λ u. nat_lt count u.0) (count + 1) (λ i l. grind arith) k.low s.comes (λ i l _. grind arith)))

  pub kept_confirms : (fmc : ℕ) (bits : List Bool) → fmc ≤ s.terminal.deliv → bits ≡ [] → Kept p base (after s (confirms fmc bits))
  unfolding after confirmed_by
  kept_confirms fmc bits received none = confirmed fmc (filter (λ u. not (is_reported fmc bits u.0)) s.bearer.sender.unconfirmed) received
      (rw (k.holds.unconfirmed_are, none)
      (upto-filter (pairs p) (λ u. not (is_reported fmc [] u.0)) fmc (λ i l. below i l) k.low s.comes (λ i l _. above i l)))
    where
      no_bit : (b : Bool) → (b && false) ≡ false
      no_bit true = refl
      no_bit false = refl

      below : (i : ℕ) → i < fmc → not (is_reported fmc [] i) ≡ false
      below i l = let t : nat_lt i fmc ≡ true = grind arith in rw t

      above : (i : ℕ) → fmc ≤ i → not (is_reported fmc [] i) ≡ true
      above i l = let t : nat_lt i fmc ≡ false = grind arith in rw (t, no_bit (nat_lt fmc i))

  -- ---- all is sent again

  -- from a place that was received, with the mark
  again_from : Speaks p v s.tunnel (record s.bearer { restart = true }) k.low
  unfolding Marked
  again_from =
      let h = k.speaks in
      record {
        need = h.need;
        downlink = h.downlink;
        there = h.there;
        line = h.line;
        marked = λ _. marked_here (h.need (h.downlink.next));
      }
    where
      marked_here : (n : ℕ) → Marked true k.low v.deliv n
      marked_here n = k.holds.low_deliv

  sends_all : (f : Bool) → s.frozen ≡ f → (lost : List (ℕ × ℕ)) → Kept p base (put s (sent_again f lost s.bearer))
  sends_all f is [] = rw (append-nil s.tunnel) k
  sends_all true is (range ∷ ranges) =
      let h = k.speaks in
      rw (append-nil s.tunnel) (record {
        low = k.low;
        sent = k.sent;
        holds = record {
          unconfirmed_are = k.holds.unconfirmed_are;
          low_comes = k.holds.low_comes;
          low_deliv = k.holds.low_deliv;
          sent_comes = k.holds.sent_comes;
          all_sent = λ u. apart is u;
          taken_are = k.holds.taken_are;
        };
        speaks = record { need = h.need; downlink = h.downlink; there = h.there; line = h.line; marked = λ u. apart refl u };
        radio = k.radio;
      })
  sends_all false is (range ∷ ranges) =
      let all = k.holds.all_sent is in
      let b : CuUpBearer = record s.bearer { restart = true } in
      let j = puts_upto p v k.low s.comes s.tunnel b again_from all.1 (omega arith) k.holds.low_comes in
      kept_sent p base s s.frozen s.comes b (packets_sent s.bearer.sender.unconfirmed b) k.low s.comes (omega arith)
      (record {
        unconfirmed_are = k.holds.unconfirmed_are;
        low_comes = k.holds.low_comes;
        low_deliv = k.holds.low_deliv;
        sent_comes = omega arith;
        all_sent = λ _. (refl, all.1);
        taken_are = λ u. apart u is;
      })
      (subst (λ xs. Puts p v s.tunnel b s.comes (packets_sent xs b)) (sym k.holds.unconfirmed_are) j) k.radio

pub kept_status : (p : ℕ → List ℕ) (base : ℕ) (s : Path) (k : Kept p base s) (lost : List (ℕ × ℕ)) (delivered : Option ℕ)
    → is_received delivered s.terminal.deliv → Kept p base (after s (status lost delivered))
unfolding after
kept_status p base s k lost delivered received =
    sends_all p base (record s { bearer = confirmed_if delivered s.bearer }) (confirmed_up_to p base s k delivered received) s.frozen refl lost
