-- The orders of a sender keep all: COUNTs are given and confirmed, a loss is told, all is sent again.
use Rattle.std.proofs.Common.{◌≡◌, ℕ, ◌+◌, ◌-◌, ◌<◌, ◌≤◌, min, max, Bool, true, false, not, ◌&&◌, ◌||◌, ◌==◌, nat_lt, if◌then◌else◌, List, [], ◌∷◌, ◌++◌, filter, refl, sym, ap, ◌∙◌, arith}
use Rattle.gnb_types.specs.declared.names.SnBits.{SnBits}
use Rattle.intervals.specs.Intervals.{upto, reach}
use Rattle.intervals.proofs.Intervals.{upto-nil, upto-cons, upto-join, upto-head, upto-filter, reach-le}
use Rattle.pdcp_defs.specs.Senders.{numbered as with_next, has_room, first, first_of, window, confirmed_to, confirmed_by, is_reported}
use Rattle.bearer_defs.specs.chain_defs.Models.{Member, Model, set}
use Rattle.bearer_defs.specs.chain_defs.Orders.{numbers, confirms, reports, reports_loss, sends_again, after}
use Rattle.law_downlink_order.proofs.chain.Tunnels.{shape-late}
use Rattle.law_downlink_order.proofs.chain.Facts.{Ghost, view, pairs, Kept, Good}
use Rattle.law_downlink_order.proofs.chain.Frames.{apart, kept_one, said, upto-one, fine_later, Later}

-- what waits waits only once all that has a COUNT is there
pub come_by : (held base next top : ℕ) → (held < base → top ≡ base) → base ≤ next → next < top → base ≤ held
come_by held base next top none low less = by (nat_lt held base) refl
  where
    by : (t : Bool) → nat_lt held base ≡ t → base ≤ held
    by true t = let l : held < base = grind arith in let e = none l in omega arith
    by false t = grind arith

-- where there is room, one more lies in the window
pub room_is : (p : ℕ → List ℕ) (next low held w : ℕ) → low ≤ held → held ≡ next → nat_lt
    (next - first_of next (upto (pairs p) low held)) w ≡ true
    → next + 1 ≤ low + w
room_is p next low held w l e room = by (nat_lt low held) refl
  where
    by : (t : Bool) → nat_lt low held ≡ t → next + 1 ≤ low + w
    by true t =
        let o : low < held = grind arith in
        let r : nat_lt (next - low) w ≡ true = rw (upto-cons (pairs p) low held o) at room in
        grind arith
    by false t =
        let o : held ≤ low = grind arith in
        let r : nat_lt (next - next) w ≡ true = rw (upto-nil (pairs p) low held o) at room in
        grind arith

module _ (p : ℕ → List ℕ) (sn : SnBits) (quota : ℕ) (s : Model) (g : ℕ → Ghost) (k : Kept p (window sn quota) s g) (x : ℕ) where
  abbrev m : Member
  m = s.members x

  abbrev h : Ghost
  h = g x

  pub kept_numbers : (packet : List ℕ) (rest : List (List ℕ)) → m.is_there ≡ true → m.flags.may_serve ≡ true → m.flags.frozen ≡ false
      → m.bearer.waiting ≡ packet ∷ rest → has_room sn quota m.bearer.sender ≡ true → Good p (window sn quota)
      (after s (numbers x packet rest))
  unfolding after with_next has_room first
  kept_numbers packet rest there known unfrozen stands room =
      let f = k.each x in
      let o = f.own there in
      let keeps = o.flags.serves unfrozen in
      let j = upto-head p h.next h.top packet rest (sym (o.lists.waiting_are keeps.0) ∙ stands) in
      let come = come_by h.held h.base h.next h.top o.numbers.none_waits o.numbers.base_next j.0 in
      let all = o.numbers.all_held come in
      let number = o.status.next_is known in
      let un = o.lists.unconfirmed_are keeps.0 in
      let in_window : h.next + 1 ≤ h.low + window sn quota =
      room_is p h.next h.low h.held (window sn quota) o.numbers.low_held all (rw (number, un) at room) in
      let one : (m.bearer.sender.next, packet) ∷ [] ≡ upto (pairs p) h.held (h.held + 1) = rw (number, j.1, ← all) (upto-one p h.held) in
      let most : h.held + 1 ≤ s.offered = (let a = j.0 in let b = o.numbers.top_offered in omega arith) in
      let r = said p s m ((m.bearer.sender.next, packet) ∷ []) h.held (h.held + 1) k.radio one most
      (λ e. (let a = o.spoken.spoken e in let b = keeps.1 in omega arith)) in
      let t : Model = record s { air = if m.epoch == s.epoch then s.air ++ (m.bearer.sender.next, packet) ∷ [] else s.air } in
      let later : Later (view s) (view t) = record
      { epoch = omega arith; offered = omega arith; deliv = omega arith; reached = λ _. r.grows } in
      let now : Ghost = record h { held = h.held + 1; sent = h.held + 1; next = h.next + 1 } in (
        set g x now,
        kept_one p (window sn quota) s t g x
            (record m { bearer = record m.bearer { sender = with_next m.bearer.sender packet; waiting = rest } }) now k
            (record {
              own = λ _. record {
                lists = record {
                  unconfirmed_are = λ _. rw (un, one) (upto-join (pairs p) h.low h.held (h.held + 1) o.numbers.low_held (omega arith));
                  taken_are = λ _ e. apart e unfrozen;
                  waiting_are = λ _. j.2;
                };
                status = record {
                  next_is = λ _. ap (λ n. n + 1) number;
                  base_is = o.status.base_is;
                  promised_is = λ e. apart known e;
                  early = λ e. apart known e;
                  early_base = λ e. apart known e;
                };
                tunnels = record {
                  is_fed = λ e. (let a = o.tunnels.is_fed e in record {
                    items = a.items ∙ shape-late p h.held h.hop_held h.top h.hop_top h.ended (let b = a.held_base in omega arith);
                    held_base = a.held_base;
                    to_come = λ l. (let b = a.to_come l in omega arith);
                    all_come = a.all_come;
                    top_hop = a.top_hop;
                    hop_offered = a.hop_offered;
                    at_end = a.at_end;
                  });
                  is_n3 = o.tunnels.is_n3;
                  fed_open = o.tunnels.fed_open;
                  shut = λ e. (omega arith, (o.tunnels.shut e).1);
                  shut_n3 = o.tunnels.shut_n3;
                  closed = o.tunnels.closed;
                };
                flags = record { serves = λ _. (keeps.0, refl); leads = o.flags.leads; gone_frozen = o.flags.gone_frozen };
                spoken = record { spoke = o.spoken.spoke; spoken = λ e. (let a = r.reaches e in omega arith) };
                numbers = record {
                  low_held = (let a = o.numbers.low_held in omega arith);
                  held_next = omega arith;
                  next_top = (let a = j.0 in omega arith);
                  top_offered = o.numbers.top_offered;
                  low_deliv = o.numbers.low_deliv;
                  sent_held = omega arith;
                  base_next = (let a = o.numbers.base_next in omega arith);
                  window = in_window;
                  none_waits = λ l. absurd (let a : h.held + 1 < h.base = l in omega arith);
                  all_held = λ _. omega arith;
                };
              };
              path = f.path;
              station = f.station;
            })
            (λ q _. fine_later p (window sn quota) (view s) (view t) q (s.members q) (g q) later refl refl refl (k.each q))
            (λ e. apart e.1 unfrozen) (λ y _ e _. apart e.1 unfrozen) (λ y _. k.links y x) r.radio,
      )

module _ (p : ℕ → List ℕ) (w : ℕ) (s : Model) (g : ℕ → Ghost) (k : Kept p w s g) (x : ℕ) where
  abbrev c : Member
  c = s.members x

  abbrev e : Ghost
  e = g x

  -- ---- confirmations: all below a COUNT that was received

  -- the first that is left
  abbrev left : ℕ → ℕ
  left n = min (max e.low n) e.held

  upto-left : (n : ℕ) → upto (pairs p) (max e.low n) e.held ≡ upto (pairs p) (left n) e.held
  upto-left n = by (nat_lt e.held (max e.low n)) refl
    where
      by : (t : Bool) → nat_lt e.held (max e.low n) ≡ t → upto (pairs p) (max e.low n) e.held ≡ upto (pairs p) (left n) e.held
      by true t =
          let l : e.held ≤ max e.low n = grind arith in
          let o : e.held ≤ left n = omega arith in
          upto-nil (pairs p) (max e.low n) e.held l ∙ sym (upto-nil (pairs p) (left n) e.held o)
      by false t =
          let l : max e.low n ≤ e.held = grind arith in
          let o : max e.low n ≡ left n = omega arith in
          ap (λ a. upto (pairs p) a e.held) o

  confirmed : (n : ℕ) (un : List (ℕ × List ℕ)) → n ≤ s.terminal.deliv → c.is_there ≡ true
      → (c.flags.released ≡ false → un ≡ upto (pairs p) (max e.low n) e.held)
      → Kept p w
      (record s
      { members = set s.members x (record c { bearer = record c.bearer { sender = record c.bearer.sender { unconfirmed = un } } }) })
      (set g x (record e { low = left n }))
  confirmed n un received there are =
      let f = k.each x in
      let o = f.own there in
      let now : Ghost = record e { low = left n } in
      kept_one p w s s g x (record c { bearer = record c.bearer { sender = record c.bearer.sender { unconfirmed = un } } }) now k
      (record {
        own = λ _. record {
          lists = record { unconfirmed_are = λ r. are r ∙ upto-left n; taken_are = o.lists.taken_are; waiting_are = o.lists.waiting_are };
          status = record {
            next_is = o.status.next_is;
            base_is = o.status.base_is;
            promised_is = o.status.promised_is;
            early = λ u. (let a = o.status.early u in omega arith);
            early_base = o.status.early_base;
          };
          tunnels = o.tunnels;
          flags = o.flags;
          spoken = o.spoken;
          numbers = record {
            low_held = omega arith;
            held_next = o.numbers.held_next;
            next_top = o.numbers.next_top;
            top_offered = o.numbers.top_offered;
            low_deliv = (let a = o.numbers.low_deliv in omega arith);
            sent_held = o.numbers.sent_held;
            base_next = o.numbers.base_next;
            window = (let a = o.numbers.window in let b = o.numbers.low_held in omega arith);
            none_waits = o.numbers.none_waits;
            all_held = o.numbers.all_held;
          };
        };
        path = f.path;
        station = f.station;
      })
      (λ q _. k.each q) (λ u. (k.links x x u there).other refl) (λ y _. k.links x y) (λ y _. k.links y x) k.radio

  pub kept_confirms : (count : ℕ) → c.is_there ≡ true → count < s.terminal.deliv → Good p w (after s (confirms x count))
  unfolding after confirmed_to
  kept_confirms count there received =
      let o = (k.each x).own there in (
        set g x (record e { low = left (count + 1) }),
        confirmed (count + 1) (filter (λ u. nat_lt count u.0) c.bearer.sender.unconfirmed) (omega arith) there
            (λ r. rw (o.lists.unconfirmed_are r)
            (upto-filter (pairs p) (λ u. nat_lt count u.0) (count + 1) (λ i l. grind arith) e.low e.held (λ i l _. grind arith))),
      )

  pub kept_reports : (fmc : ℕ) (bits : List Bool) → c.is_there ≡ true → fmc ≤ s.terminal.deliv → bits ≡ [] → Good p w
      (after s (reports x fmc bits))
  unfolding after confirmed_by
  kept_reports fmc bits there received none =
      let o = (k.each x).own there in (
        set g x (record e { low = left fmc }),
        confirmed fmc (filter (λ u. not (is_reported fmc bits u.0)) c.bearer.sender.unconfirmed) received there
            (λ r. rw (o.lists.unconfirmed_are r, none)
            (upto-filter (pairs p) (λ u. not (is_reported fmc [] u.0)) fmc (λ i l. below i l) e.low e.held (λ i l _. above i l))),
      )
    where
      no_bit : (b : Bool) → (b && false) ≡ false
      no_bit true = refl
      no_bit false = refl

      below : (i : ℕ) → i < fmc → not (is_reported fmc [] i) ≡ false
      below i l = let t : nat_lt i fmc ≡ true = grind arith in rw t

      above : (i : ℕ) → fmc ≤ i → not (is_reported fmc [] i) ≡ true
      above i l = let t : nat_lt i fmc ≡ false = grind arith in rw (t, no_bit (nat_lt fmc i))

  -- ---- losses

  pub kept_tells_loss : c.is_there ≡ true → Good p w (after s (reports_loss x))
  unfolding after
  kept_tells_loss there =
      let f = k.each x in
      let o = f.own there in (
        set g x e,
        kept_one p w s s g x
            (record c { bearer = record c.bearer { loss_while_frozen = c.flags.frozen || c.bearer.loss_while_frozen } }) e k
            (record {
              own = λ _. record
                  { lists = o.lists; status = o.status; tunnels = o.tunnels; flags = o.flags; spoken = o.spoken; numbers = o.numbers };
              path = f.path;
              station = f.station;
            })
            (λ q _. k.each q) (λ u. (k.links x x u there).other refl) (λ y _. k.links x y) (λ y _. k.links y x) k.radio,
      )

  pub kept_sends_again : c.is_there ≡ true → c.flags.frozen ≡ false → Good p w (after s (sends_again x))
  unfolding after
  kept_sends_again there unfrozen =
      let o = (k.each x).own there in
      let most : e.held ≤ s.offered =
      (let a = o.numbers.held_next in let b = o.numbers.next_top in let d = o.numbers.top_offered in omega arith) in
      let low : e.low ≤ reach s.terminal.deliv s.air =
      (let a = o.numbers.low_deliv in let b = reach-le s.terminal.deliv s.air in omega arith) in
      let r = said p s c c.bearer.sender.unconfirmed e.low e.held k.radio (o.lists.unconfirmed_are (o.flags.serves unfrozen).0) most
      (λ _. low) in
      let t : Model = record s { air = if c.epoch == s.epoch then s.air ++ c.bearer.sender.unconfirmed else s.air } in
      let later : Later (view s) (view t) = record
      { epoch = omega arith; offered = omega arith; deliv = omega arith; reached = λ _. r.grows } in (
        g,
        record {
          each = λ q. fine_later p w (view s) (view t) q (s.members q) (g q) later refl refl refl (k.each q);
          links = k.links;
          radio =
              r.radio;
        },
      )
