-- The orders of control keep all.
use Rattle.std.proofs.Common.{◌≡◌, ◌≢◌, ℕ, zero, suc, ◌+◌, ◌-◌, ◌<◌, ◌≤◌, max, Bool, true, false, ◌&&◌, ◌==◌, nat_lt, nat_le, if◌then◌else◌, List, [], ◌++◌, filter, refl, sym, ap, subst, ◌∙◌, true≢false, arith}
use Rattle.std.specs.List.{list_any}
use Rattle.gnb_types.specs.declared.plans.SnStatus.{SnStatus}
use Rattle.intervals.specs.Intervals.{segment, upto, HasNoGap, reach}
use Rattle.intervals.proofs.Intervals.{upto-nil, upto-filter, reach-le}
use Rattle.unit_defs.specs.CuUpRecords.{SourceHop, DownlinkTunnel}
use Rattle.unit_defs.specs.CuUpBearers.{made, owed, released, thawed, is_one_of}
use Rattle.bearer_defs.specs.chain_defs.Models.{Member, Model, set, is_open, is_fed, new_member, no_member}
use Rattle.bearer_defs.specs.chain_defs.Orders.{makes, freezes, knows, switches, resumes, releases, closes, arrives, fails, forwards, frozen, known, on_downlink, after}
use Rattle.bearer_defs.specs.chain_defs.Assumptions.{IsUnfed, IsUntouched}
use Rattle.law_downlink_order.proofs.chain.Tunnels.{shape-of, shape-none, flow-none}
use Rattle.law_downlink_order.proofs.chain.Facts.{Ghost, view, pairs, IsStation, RadioOf, Kept, Good}
use Rattle.law_downlink_order.proofs.chain.Frames.{apart, kept_one, kept_two, said, fine_later, own_later, Later}
use Rattle.law_downlink_order.proofs.chain.Senders.{come_by}

-- ---- what was taken while frozen, of all that nothing confirmed

any_segment : (i a n : ℕ) → list_any (λ c. c == i) (segment (λ j. j) a n) ≡ (nat_le a i && nat_lt i (a + n))
unfolding segment
any_segment i a zero = grind arith
any_segment i a (suc n) = rw (any_segment i (a + 1) n) (grind arith)

any_upto : (i a b : ℕ) → a ≤ b → is_one_of (upto (λ j. j) a b) i ≡ (nat_le a i && nat_lt i b)
unfolding upto
any_upto i a b h = let e : a + (b - a) ≡ b = omega arith in any_segment i a (b - a) ∙ ap (λ n. nat_le a i && nat_lt i n) e

taken_of_all : (p : ℕ → List ℕ) (low held sent : ℕ) → sent ≤ held
    → filter (λ (e : ℕ × List ℕ). is_one_of (upto (λ j. j) sent held) e.0) (upto (pairs p) low held) ≡ upto (pairs p) (max low sent) held
taken_of_all p low held sent h = upto-filter (pairs p) (λ e. is_one_of (upto (λ j. j) sent held) e.0) sent
    (λ i l. any_upto i sent held h ∙ below i l) low held (λ i l o. any_upto i sent held h ∙ within i l o)
  where
    below : (i : ℕ) → i < sent → (nat_le sent i && nat_lt i held) ≡ false
    below i l = grind arith

    within : (i : ℕ) → sent ≤ i → i < held → (nat_le sent i && nat_lt i held) ≡ true
    within i l o = grind arith

-- a target that nothing has come to yet has no SN status, which the context that freezes has
pub target_apart : (s : Model) (x y : ℕ) → (s.members x).flags.may_serve ≡ true → IsUntouched (s.members y) → y ≢ x
target_apart s x y may_serve u same = apart may_serve (subst (λ q. (s.members q).flags.may_serve ≡ false) same u.status)

module _ (p : ℕ → List ℕ) (w : ℕ) (s : Model) (g : ℕ → Ghost) (k : Kept p w s g) (x : ℕ) where
  abbrev m : Member
  m = s.members x

  abbrev h : Ghost
  h = g x

  -- ---- a context is made, and ends

  nothing_yet : Ghost
  nothing_yet = record {
    low = 0;
    held = 0;
    sent = 0;
    base = 0;
    next = 0;
    top = 0;
    hop_held = 0;
    hop_top = 0;
    n3_low = 0;
    n3_high = 0;
    from = 0;
    ended = false;
    gone = false;
    pathed = false;
  }

  pub kept_makes : (target : Bool) (teid : ℕ) → m.is_there ≡ false → IsUnfed s x → Good p w (after s (makes x target teid))
  unfolding after made nothing_yet
  kept_makes target teid absent unfed =
      let f = k.each x in
      let none : 0 ≤ 0 = omega arith in (
        set g x nothing_yet,
        kept_one p w s s g x (new_member target teid) nothing_yet k
            (record {
              own = λ _. record {
                lists = record {
                  unconfirmed_are = λ _. sym (upto-nil (pairs p) 0 0 none);
                  taken_are = λ _ _. sym (upto-nil (λ i. i) 0 0 none);
                  waiting_are = λ _. sym (upto-nil p 0 0 none);
                };
                status = record { next_is = λ _. refl; base_is = λ _. refl; promised_is = λ _. refl; early = λ _. refl; early_base = λ _. refl };
                tunnels = record {
                  is_fed = λ _. record {
                    items = sym (shape-none p 0 0 0 0 none none);
                    held_base = none;
                    to_come = λ _. none;
                    all_come = λ _. refl;
                    top_hop = none;
                    hop_offered = omega arith;
                    at_end = λ _. (refl, refl);
                  };
                  is_n3 = λ _. record { items = sym (flow-none p 0 0 none); ordered = none; offered_all = omega arith };
                  fed_open = λ _. refl;
                  shut = λ _. (none, refl);
                  shut_n3 = λ _ _. refl;
                  closed = λ e. absurd (true≢false e);
                };
                flags = record { serves = λ _. (refl, refl); leads = λ e. absurd (true≢false (sym e)); gone_frozen = λ e. e };
                spoken = record { spoke = omega arith; spoken = λ _. omega arith };
                numbers = record {
                  low_held = none;
                  held_next = none;
                  next_top = none;
                  top_offered = omega arith;
                  low_deliv = omega arith;
                  sent_held = none;
                  base_next = none;
                  window = omega arith;
                  none_waits = λ _. refl;
                  all_held = λ _. refl;
                };
              };
              path = λ e. apart (f.path e).is_there absent;
              station = λ e. apart (f.station e).is_there absent;
            })
            (λ q _. k.each q)
            (λ e. absurd (true≢false (sym e.1)))
            (λ y _ e _. absurd (true≢false (sym e.1)))
            (λ y _ e _. absurd (unfed y e))
            k.radio,
      )

  -- where N3 has ended, the context is neither the station nor the path
  elsewhere : (b : Bool) → is_open m.bearer.n3 ≡ b → (b ≡ true → (x ≢ s.station) × (x ≢ s.path)) → (x ≢ s.station) × (x ≢ s.path)
  elsewhere true e owed = owed refl
  elsewhere false e owed = (
    λ at. (let st = (k.each x).station at in apart (((k.each x).own st.is_there).tunnels.closed e) st.is_not_gone),
    λ at. apart ((k.each x).path at).is_open e,
  )

  pub kept_closes : (is_open m.bearer.n3 ≡ true → (x ≢ s.station) × (x ≢ s.path)) → Good p w (after s (closes x))
  unfolding after
  kept_closes owed = (
    set g x h,
    kept_one p w s s g x no_member h k
        (record {
          own = λ e. absurd (true≢false (sym e));
          path = λ e. absurd ((elsewhere (is_open m.bearer.n3) refl owed).1 e);
          station = λ e. absurd ((elsewhere (is_open m.bearer.n3) refl owed).0 e);
        })
        (λ q _. k.each q)
        (λ e. absurd (true≢false (sym e.0))) (λ y _ e _. absurd (true≢false (sym e.0))) (λ y _ _ e. absurd (true≢false (sym e))) k.radio,
  )

  pub kept_releases : m.is_there ≡ true → m.flags.frozen ≡ true → x ≢ s.station → Good p w (after s (releases x))
  unfolding after
  kept_releases there is_frozen not_station =
      let f = k.each x in
      let o = f.own there in (
        set g x h,
        kept_one p w s s g x (record m { flags = record m.flags { released = true }; bearer = released m.bearer }) h k
            (record {
              own = λ _. record {
                lists = record {
                  unconfirmed_are = λ r. absurd (true≢false r);
                  taken_are = λ r _. absurd (true≢false r);
                  waiting_are = λ r. absurd
                      (true≢false r);
                };
                status = o.status;
                tunnels = o.tunnels;
                flags = record { serves = λ e. apart is_frozen e; leads = o.flags.leads; gone_frozen = o.flags.gone_frozen };
                spoken = o.spoken;
                numbers = o.numbers;
              };
              path = f.path;
              station = λ e. absurd (not_station e);
            })
            (λ q _. k.each q) (λ u. (k.links x x u there).other refl) (λ y _. k.links x y) (λ y _. k.links y x) k.radio,
      )

  -- ---- the SN status

  pub kept_knows : (status : SnStatus) → m.is_there ≡ true → m.flags.may_serve ≡ false → status.dl_next ≡ m.promised
      → Good p w (after s (knows x status))
  unfolding after
  kept_knows status there unknown says =
      let f = k.each x in
      let o = f.own there in (
        set g x h,
        kept_one p w s s g x (record m { flags = record m.flags { may_serve = true }; bearer = known m.bearer status }) h k
            (record {
              own = λ _. record {
                lists = o.lists;
                status = record {
                  next_is = λ _. says ∙ o.status.promised_is unknown;
                  base_is = λ _. says ∙ o.status.promised_is unknown ∙ o.status.early_base unknown;
                  promised_is = λ e. absurd (true≢false e);
                  early = λ e. absurd (true≢false e);
                  early_base = λ e. absurd (true≢false e);
                };
                tunnels = o.tunnels;
                flags = o.flags;
                spoken = o.spoken;
                numbers = o.numbers;
              };
              path = f.path;
              station = f.station;
            })
            (λ q _. k.each q) (λ u. (k.links x x u there).other refl) (λ y _. k.links x y) (λ y _. k.links y x) k.radio,
      )

  -- ---- the station serves again, or serves: all that it holds was sent

  pub kept_switches : (downlink : DownlinkTunnel) (epoch : ℕ) → m.is_there ≡ true → x ≡ s.station → epoch ≤ s.epoch
      → Good p w (after s (switches x downlink epoch))
  unfolding after
  kept_switches downlink epoch there is_station old =
      let f = k.each x in
      let o = f.own there in
      let st = f.station is_station in
      let now : Member = record m
      { flags = record m.flags { frozen = false; arrived = true }; bearer = on_downlink m.bearer downlink; epoch = epoch } in
      let items : List (ℕ × List ℕ) = if m.flags.may_serve then m.bearer.sender.unconfirmed else [] in
      let most : h.held ≤ s.offered =
      (let a = o.numbers.held_next in let b = o.numbers.next_top in let d = o.numbers.top_offered in omega arith) in
      let low : h.low ≤ reach s.terminal.deliv s.air =
      (let a = o.numbers.low_deliv in let b = reach-le s.terminal.deliv s.air in omega arith) in
      let are : items ≡ upto (pairs p) h.low h.held = by m.flags.may_serve (o.lists.unconfirmed_are st.keeps) (λ e. o.status.early e) in
      let r = said p s now items h.low h.held k.radio are most (λ _. low) in
      let t : Model = record s { air = if epoch == s.epoch then s.air ++ items else s.air } in
      let later : Later (view s) (view t) = record
      { epoch = omega arith; offered = omega arith; deliv = omega arith; reached = λ _. r.grows } in
      let ghost : Ghost = record h { sent = h.held } in (
        set g x ghost,
        kept_one p w s t g x now ghost k
            (record {
              own = λ _. record {
                lists = record {
                  unconfirmed_are = o.lists.unconfirmed_are;
                  taken_are = λ _ e. absurd (true≢false (sym e));
                  waiting_are = o.lists.waiting_are;
                };
                status = o.status;
                tunnels = o.tunnels;
                flags = record {
                  serves = λ _. (st.keeps, refl);
                  leads = λ e. absurd (true≢false (sym e));
                  gone_frozen = λ e. apart e
                      st.is_not_gone;
                };
                spoken = record { spoke = old; spoken = λ e. (let a = r.reaches e in omega arith) };
                numbers = record {
                  low_held = o.numbers.low_held;
                  held_next = o.numbers.held_next;
                  next_top = o.numbers.next_top;
                  top_offered = o.numbers.top_offered;
                  low_deliv = o.numbers.low_deliv;
                  sent_held = omega arith;
                  base_next = o.numbers.base_next;
                  window = o.numbers.window;
                  none_waits = o.numbers.none_waits;
                  all_held = o.numbers.all_held;
                };
              };
              path = f.path;
              station = f.station;
            })
            (λ q _. fine_later p w (view s) (view t) q (s.members q) (g q) later refl refl refl (k.each q))
            (λ e. absurd (true≢false (sym e.1))) (λ y _ e _. absurd (true≢false (sym e.1))) (λ y _. k.links y x) r.radio,
      )
    where
      by : (b : Bool) → m.bearer.sender.unconfirmed ≡ upto (pairs p) h.low h.held → (b ≡ false → h.held ≡ h.low)
          → (if b then m.bearer.sender.unconfirmed else []) ≡ upto (pairs p) h.low h.held
      by true un early = un
      by false un early = let l : h.held ≤ h.low = (let e = early refl in omega arith) in sym (upto-nil (pairs p) h.low h.held l)

  pub kept_resumes : m.is_there ≡ true → m.flags.frozen ≡ true → x ≡ s.station → Good p w (after s (resumes x))
  unfolding after
  kept_resumes there is_frozen is_station =
      let f = k.each x in
      let o = f.own there in
      let st = f.station is_station in
      let now : Member = record m { flags = record m.flags { frozen = false }; bearer = thawed m.bearer } in
      let items : List (ℕ × List ℕ) = owed m.bearer in
      let most : h.held ≤ s.offered =
      (let a = o.numbers.held_next in let b = o.numbers.next_top in let d = o.numbers.top_offered in omega arith) in
      let low : h.low ≤ reach s.terminal.deliv s.air =
      (let a = o.numbers.low_deliv in let b = reach-le s.terminal.deliv s.air in omega arith) in
      let un = o.lists.unconfirmed_are st.keeps in
      let taken = o.lists.taken_are st.keeps is_frozen in
      let from = by m.bearer.loss_while_frozen un taken o.numbers.sent_held in
      let r = said p s m items from.0 h.held k.radio from.1 most (λ e. (let a = o.spoken.spoken e in let b = from.2 in omega arith)) in
      let t : Model = record s { air = if m.epoch == s.epoch then s.air ++ items else s.air } in
      let later : Later (view s) (view t) = record
      { epoch = omega arith; offered = omega arith; deliv = omega arith; reached = λ _. r.grows } in
      let ghost : Ghost = record h { sent = h.held } in (
        set g x ghost,
        kept_one p w s t g x now ghost k
            (record {
              own = λ _. record {
                lists = record {
                  unconfirmed_are = o.lists.unconfirmed_are;
                  taken_are = λ _ e. absurd (true≢false (sym e));
                  waiting_are = o.lists.waiting_are;
                };
                status = o.status;
                tunnels = o.tunnels;
                flags = record {
                  serves = λ _. (st.keeps, refl);
                  leads = λ e. absurd (true≢false (sym e));
                  gone_frozen = λ e. apart e
                      st.is_not_gone;
                };
                spoken = record { spoke = o.spoken.spoke; spoken = λ e. (let a = r.reaches e in omega arith) };
                numbers = record {
                  low_held = o.numbers.low_held;
                  held_next = o.numbers.held_next;
                  next_top = o.numbers.next_top;
                  top_offered = o.numbers.top_offered;
                  low_deliv = o.numbers.low_deliv;
                  sent_held = omega arith;
                  base_next = o.numbers.base_next;
                  window = o.numbers.window;
                  none_waits = o.numbers.none_waits;
                  all_held = o.numbers.all_held;
                };
              };
              path = f.path;
              station = f.station;
            })
            (λ q _. fine_later p w (view s) (view t) q (s.members q) (g q) later refl refl refl (k.each q))
            (λ e. absurd (true≢false (sym e.1))) (λ y _ e _. absurd (true≢false (sym e.1))) (λ y _. k.links y x) r.radio,
      )
    where
      by : (b : Bool) → m.bearer.sender.unconfirmed ≡ upto (pairs p) h.low h.held → m.bearer.taken_while_frozen ≡ upto (λ i. i) h.sent
          h.held → h.sent ≤ h.held
          → (a : ℕ) ×
          ((if b then m.bearer.sender.unconfirmed else filter (λ e. is_one_of m.bearer.taken_while_frozen e.0)
          m.bearer.sender.unconfirmed) ≡ upto (pairs p) a h.held)
          × (a ≤ max h.low h.sent)
      by true un taken l = (h.low, un, omega arith)
      by false un taken l = (max h.low h.sent, rw (un, taken) (taken_of_all p h.low h.held h.sent l), omega arith)

  -- ---- the terminal comes to another context, or its radio fails

  new_radio : (y : ℕ) → RadioOf p (record s { station = y; epoch = s.epoch + 1; air = [] })
  unfolding reach HasNoGap
  new_radio y = record {
    no_gap = tt;
    packets = tt;
    reached_offered = (let a = k.radio.reached_offered in let b = reach-le s.terminal.deliv s.air in omega arith);
    delivered_are = k.radio.delivered_are;
    none_stored = k.radio.none_stored;
  }

  anew : (y : ℕ) → Later (view s) (view (record s { station = y; epoch = s.epoch + 1; air = [] }))
  anew y = record {
    epoch = omega arith;
    offered = omega arith;
    deliv = omega arith;
    reached = λ e. absurd
        (let a : s.epoch ≡ s.epoch + 1 = e in omega arith);
  }

  pub kept_arrives : (s.members s.station).flags.frozen ≡ true → (s.members s.station).next_hop ≡ x → m.is_there ≡ true →
      m.flags.frozen ≡ false
      → Good p w (after s (arrives x))
  unfolding after
  kept_arrives is_frozen leads there unfrozen =
      let st = (k.each s.station).station refl in
      let o = (k.each s.station).own st.is_there in
      let l = k.links s.station x
      (st.is_there, is_frozen, by (is_open (s.members s.station).bearer.n3) o.tunnels.closed st.is_not_gone, leads) there in (
        g,
        record {
          each = λ q. record {
            own = λ e. own_later p w (view s) (view (record s { station = x; epoch = s.epoch + 1; air = [] })) (s.members q) (g q)
                (anew x) ((k.each q).own e);
            path = (k.each q).path;
            station = λ e. subst (λ i. IsStation (s.members i).is_there (s.members i).flags.released (g i).gone) (sym e)
                (record {
                  is_there = there;
                  keeps = (((k.each x).own there).flags.serves unfrozen).0;
                  is_not_gone =
                      (l.before st.is_not_gone).1;
                });
          };
          links = k.links;
          radio = new_radio x;
        },
      )
    where
      by : (b : Bool) → (b ≡ false → (g s.station).gone ≡ true) → (g s.station).gone ≡ false → b ≡ true
      by true c n = refl
      by false c n = apart (c refl) n

  pub kept_fails : Good p w (after s fails)
  unfolding after
  kept_fails = (
    g,
    record {
      each = λ q. record {
        own = λ e. own_later p w (view s) (view (record s { epoch = s.epoch + 1; air = [] })) (s.members q) (g q) (anew s.station)
            ((k.each q).own e);
        path = (k.each q).path;
        station = (k.each q).station;
      };
      links = k.links;
      radio = new_radio s.station;
    },
  )

  -- ---- a freeze

  pub kept_freezes : (y : ℕ) (hop : SourceHop) → m.is_there ≡ true → m.flags.may_serve ≡ true → m.flags.frozen ≡ false
      → x ≡ s.station → y ≢ s.path → IsUntouched (s.members y) → IsUnfed s y → Good p w (after s (freezes x y hop))
  unfolding after
  kept_freezes y hop there may_serve unfrozen is_station not_path u unfed =
      let far = target_apart s x y may_serve u in
      let f = k.each x in
      let o = f.own there in
      let n = o.numbers in
      let st = f.station is_station in
      let t : Member = s.members y in
      let q = (k.each y).own u.there in
      let now : Member = record m { flags = record m.flags { frozen = true }; bearer = frozen m.bearer hop; next_hop = y } in
      let new : Member = record t { forwarded = t.forwarded ++ forwards m.bearer; promised = m.bearer.sender.next } in
      let ghost : Ghost = record {
        low = h.low;
        held = h.low;
        sent = h.low;
        base = h.next;
        next = h.next;
        top = h.next;
        hop_held = h.held;
        hop_top = h.top;
        n3_low = 0;
        n3_high = 0;
        from = x;
        ended = false;
        gone = false;
        pathed = false;
      } in
      let fed : is_fed t ≡ true = rw (u.target, u.ended) in
      let low : h.low ≤ h.next = (let a = n.low_held in let b = n.held_next in omega arith) in
      let none : 0 ≤ 0 = omega arith in
      let keeps = o.flags.serves unfrozen in (
        set (set g x h) y ghost,
        kept_two p w s s g x now h y new ghost refl far k
            (record {
              own = λ _. record {
                lists = record {
                  unconfirmed_are = o.lists.unconfirmed_are;
                  taken_are = λ _ _.
                      (let l : h.held ≤ h.sent = (let a = keeps.1 in omega arith) in sym (upto-nil (λ i. i) h.sent h.held l));
                  waiting_are = o.lists.waiting_are;
                };
                status = o.status;
                tunnels = o.tunnels;
                flags = record { serves = λ e. absurd (true≢false e); leads = λ _. refl; gone_frozen = λ _. refl };
                spoken = o.spoken;
                numbers = o.numbers;
              };
              path = f.path;
              station = f.station;
            })
            (record {
              own = λ _. record {
                lists = record {
                  unconfirmed_are = λ _. u.unconfirmed ∙ sym (upto-nil (pairs p) h.low h.low (omega arith));
                  taken_are = λ _ e. apart e u.frozen;
                  waiting_are = λ _. u.waiting ∙ sym (upto-nil p h.next h.next (omega arith));
                };
                status = record {
                  next_is = λ e. apart e u.status;
                  base_is = λ e. apart e u.status;
                  promised_is = λ _. o.status.next_is may_serve;
                  early = λ _. refl;
                  early_base = λ _. refl;
                };
                tunnels = record {
                  is_fed = λ _. record {
                    items = rw (u.forwarded, o.lists.unconfirmed_are keeps.0, o.lists.waiting_are keeps.0)
                        (shape-of p h.low h.held h.next h.top);
                    held_base = n.held_next;
                    to_come = λ _. n.low_held;
                    all_come = λ l. n.all_held (come_by h.held h.base h.next h.top n.none_waits n.base_next l);
                    top_hop = n.next_top;
                    hop_offered = n.top_offered;
                    at_end = λ e. absurd (true≢false (sym e));
                  };
                  is_n3 = λ _. record { items = u.n3 ∙ sym (flow-none p 0 0 none); ordered = none; offered_all = omega arith };
                  fed_open = λ _. u.open_;
                  shut = λ e. apart fed e;
                  shut_n3 = λ e _. apart fed e;
                  closed = λ e. apart u.open_ e;
                };
                flags = record
                    { serves = λ e. ((q.flags.serves e).0, refl); leads = q.flags.leads; gone_frozen = λ e. absurd (true≢false (sym e)) };
                spoken = record {
                  spoke = q.spoken.spoke;
                  spoken = λ _.
                      (let a = n.low_deliv in let b = reach-le s.terminal.deliv s.air in omega arith);
                };
                numbers = record {
                  low_held = omega arith;
                  held_next = low;
                  next_top = omega arith;
                  top_offered = (let a = n.next_top in let b = n.top_offered in omega arith);
                  low_deliv = n.low_deliv;
                  sent_held = omega arith;
                  base_next = omega arith;
                  window = n.window;
                  none_waits = λ _. refl;
                  all_held = λ l. omega arith;
                };
              };
              path = λ e. absurd (not_path e);
              station = λ e. absurd (far (e ∙ sym is_station));
            })
            (λ z _ _. k.each z)
            (λ _ _. record {
              from = refl;
              other = far;
              open_ = fed;
              ended = refl;
              held = refl;
              top = refl;
              base = refl;
              after = λ e. apart e st.is_not_gone;
              before = λ _. (refl, refl, refl);
            })
            (λ z _ _ e _. absurd (unfed z e))
            (λ e. apart e.1 u.frozen)
            (λ z _ _. k.links z x)
            (λ e _. apart e.1 u.frozen)
            (λ z _ _ e _. apart e.1 u.frozen)
            k.radio,
      )
