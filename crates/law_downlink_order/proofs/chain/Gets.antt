-- The orders that take an item from a tunnel keep all.
use Rattle.std.proofs.Common.{◌≡◌, ℕ, ◌+◌, ◌<◌, ◌≤◌, Bool, true, false, ◌&&◌, ◌==◌, if◌then◌else◌, List, [], ◌∷◌, ◌++◌, None, refl, sym, ap, ◌∙◌, true≢false, arith}
use Rattle.intervals.specs.Intervals.{upto}
use Rattle.intervals.proofs.Intervals.{upto-snoc}
use Rattle.pdcp_defs.specs.Senders.{restored}
use Rattle.bearer_defs.specs.chain_defs.Models.{Item, numbered, fresh, end_marker, Member, Model, set, is_open, is_fed}
use Rattle.bearer_defs.specs.chain_defs.Orders.{keeps_n3, keeps_fresh, passes_n3, passes_fresh, sends, passes_numbered, ends_n3, ends_hop, waits, waits_unless, holds, takes_unless, after}
use Rattle.bearer_defs.specs.chain_defs.Assumptions.{OnN3, OnForwarding}
use Rattle.law_downlink_order.proofs.chain.Facts.{Ghost, view, pairs, Lists, Own, out, into, Link, Kept, Good}
use Rattle.law_downlink_order.proofs.chain.Frames.{apart, kept_one, kept_pass, given, with_items, said, upto-one, fine_later, Later}
use Rattle.law_downlink_order.proofs.chain.Taking.{not_held, fed_by, took_numbered, took_fresh, took_end, took_n3, took_n3_end, gave_numbered, gave_fresh, gave_end}

-- ---- the lists of a bearer

module _ (p : ℕ → List ℕ) (un : List (ℕ × List ℕ)) (taken : List ℕ) (waiting : List (List ℕ)) (low held sent next top : ℕ) where
  pub lists_wait : (rel fro : Bool) (x : List ℕ) → x ≡ p top → next ≤ top → Lists p rel fro un taken waiting low held sent next top
      → Lists p rel fro un taken (waiting ++ x ∷ []) low held sent next (top + 1)
  lists_wait rel fro x e h l = record {
    unconfirmed_are = l.unconfirmed_are;
    taken_are = l.taken_are;
    waiting_are = λ r. rw (l.waiting_are r, e) (sym (upto-snoc p next top h));
  }

  pub lists_wait_unless : (rel fro : Bool) (x : List ℕ) → x ≡ p top → next ≤ top → Lists p rel fro un taken waiting low held sent next top
      → Lists p rel fro un taken (if rel then waiting else waiting ++ x ∷ []) low held sent next (top + 1)
  lists_wait_unless true fro x e h l = record {
    unconfirmed_are = λ r. absurd (true≢false r);
    taken_are = λ r _. absurd (true≢false r);
    waiting_are = λ r. absurd (true≢false r);
  }
  lists_wait_unless false fro x e h l = lists_wait false fro x e h l

  pub lists_hold : (rel fro : Bool) (i : ℕ) (x : List ℕ) (now : ℕ) → i ≡ held → x ≡ p held → low ≤ held → fro ≡ false
      → Lists p rel fro un taken waiting low held sent next top
      → Lists p rel fro (un ++ (i, x) ∷ []) taken waiting low (held + 1) now next top
  lists_hold rel fro i x now c e h f l = record {
    unconfirmed_are = λ r. rw (l.unconfirmed_are r, c, e) (sym (upto-snoc (pairs p) low held h));
    taken_are = λ _ k. apart k f;
    waiting_are = l.waiting_are;
  }

  pub lists_take_unless : (rel fro : Bool) (i : ℕ) (x : List ℕ) → i ≡ held → x ≡ p held → low ≤ held → sent ≤ held
      → Lists p rel fro un taken waiting low held sent next top
      → Lists p rel fro (if rel then un else un ++ (i, x) ∷ []) (if rel then taken else taken ++ i ∷ []) waiting low (held + 1) sent
      next top
  lists_take_unless true fro i x c e h k l = record {
    unconfirmed_are = λ r. absurd (true≢false r);
    taken_are = λ r _. absurd (true≢false r);
    waiting_are = λ r. absurd (true≢false r);
  }
  lists_take_unless false fro i x c e h k l = record {
    unconfirmed_are = λ r. rw (l.unconfirmed_are r, c, e) (sym (upto-snoc (pairs p) low held h));
    taken_are = λ r f. rw (l.taken_are r f, c) (sym (upto-snoc (λ j. j) sent held k));
    waiting_are = l.waiting_are;
  }

module _ (p : ℕ → List ℕ) (w : ℕ) (s : Model) (g : ℕ → Ghost) (k : Kept p w s g) (x : ℕ) where
  abbrev m : Member
  m = s.members x

  abbrev h : Ghost
  h = g x

  abbrev t : Member
  t = s.members m.next_hop

  abbrev i : Ghost
  i = g m.next_hop

  -- ---- fresh packets

  pub kept_keeps_fresh : (packet : List ℕ) (rest : List Item) → OnForwarding m (fresh packet) rest → m.flags.frozen ≡ false
      → Good p w (after s (keeps_fresh x packet rest))
  unfolding after
  kept_keeps_fresh packet rest on unfrozen =
      let f = k.each x in
      let o = f.own on.there in
      let j = took_fresh p w (view s) (is_fed m) (is_open m.bearer.n3) m.forwarded m.n3 h o.tunnels o.numbers packet rest on.stands in
      let now : Ghost = record h { top = h.top + 1 } in (
        set g x now,
        kept_one p w s s g x (record m { forwarded = rest; bearer = waits m.bearer packet }) now k
            (record {
              own = λ _. record {
                lists = lists_wait p _ _ _ _ _ _ _ _ _ _ packet j.0 o.numbers.next_top o.lists;
                status = o.status;
                tunnels = j.3.tunnels;
                flags = o.flags;
                spoken = o.spoken;
                numbers = j.3.numbers;
              };
              path = f.path;
              station = f.station;
            })
            (λ q _. k.each q) (λ e. apart e.1 unfrozen) (λ y _ e _. apart e.1 unfrozen) (λ y _. k.links y x) k.radio,
      )

  pub kept_keeps_n3 : (packet : List ℕ) (rest : List Item) → OnN3 m (fresh packet) rest → m.flags.frozen ≡ false
      → Good p w (after s (keeps_n3 x packet rest))
  unfolding after
  kept_keeps_n3 packet rest on unfrozen =
      let f = k.each x in
      let o = f.own on.1.there in
      let shut = (not_held m.flags.may_serve m.flags.arrived (is_fed m) on.1.passes).1 in
      let j = took_n3 p w (view s) (is_fed m) (is_open m.bearer.n3) m.forwarded m.n3 h o.tunnels o.numbers packet rest shut on.0
      on.1.stands in
      let now : Ghost = record h { top = h.top + 1; n3_low = h.n3_low + 1 } in (
        set g x now,
        kept_one p w s s g x (record m { n3 = rest; bearer = waits m.bearer packet }) now k
            (record {
              own = λ _. record {
                lists = lists_wait p _ _ _ _ _ _ _ _ _ _ packet j.0 o.numbers.next_top o.lists;
                status = o.status;
                tunnels = j.3.tunnels;
                flags = o.flags;
                spoken = o.spoken;
                numbers = j.3.numbers;
              };
              path = f.path;
              station = f.station;
            })
            (λ q _. k.each q) (λ e. apart e.1 unfrozen) (λ y _ e _. apart e.1 unfrozen)
            (λ y _ e there. apart (k.links y x e there).open_ shut) k.radio,
      )

  -- what the next one gets, and its link
  gets_fresh : (packet : List ℕ) (o : Own p w (view s) m h) → packet ≡ p h.top → h.base ≤ h.held → h.top < s.offered
      → Link x (out h) m.next_hop (into t i) → Own p w (view s) t i
      → Own p w (view s) (with_items t (fresh packet ∷ [])) (given i i.hop_held (i.hop_top + 1) i.ended)
  gets_fresh packet o packet_is come less l q = record {
    lists = q.lists;
    status = q.status;
    flags = q.flags;
    spoken = q.spoken;
    numbers = q.numbers;
    tunnels = gave_fresh p w (view s) (is_fed t) (is_open t.bearer.n3) t.forwarded t.n3 i q.tunnels q.numbers packet
        (packet_is ∙ ap p (sym l.top)) l.open_ l.ended
        (l.held ∙ o.numbers.all_held come ∙ sym l.base) (let e = l.top in omega arith);
  }

  pub kept_passes_n3 : (packet : List ℕ) (rest : List Item) → OnN3 m (fresh packet) rest → m.flags.frozen ≡ true
      → Good p w (after s (passes_n3 x packet rest))
  unfolding after
  kept_passes_n3 packet rest on frozen =
      let f = k.each x in
      let o = f.own on.1.there in
      let shut = (not_held m.flags.may_serve m.flags.arrived (is_fed m) on.1.passes).1 in
      let j = took_n3 p w (view s) (is_fed m) (is_open m.bearer.n3) m.forwarded m.n3 h o.tunnels o.numbers packet rest shut on.0
      on.1.stands in
      let now : Ghost = record h { top = h.top + 1; n3_low = h.n3_low + 1 } in
      kept_pass p w s g x (record m { n3 = rest; bearer = waits_unless m.flags.released m.bearer packet }) now (fresh packet ∷ [])
      i.hop_held (i.hop_top + 1) i.ended k (on.1.there, frozen, on.0, refl)
      (record {
        own = λ _. record {
          lists = lists_wait_unless p _ _ _ _ _ _ _ _ m.flags.released m.flags.frozen packet j.0 o.numbers.next_top o.lists;
          status = o.status;
          tunnels = j.3.tunnels;
          flags = o.flags;
          spoken = o.spoken;
          numbers = j.3.numbers;
        };
        path = f.path;
        station = f.station;
      })
      (λ l q. gets_fresh packet o j.0 j.1 j.2 l q)
      (λ l _. record {
        from = l.from;
        other = l.other;
        open_ = l.open_;
        ended = l.ended;
        held = l.held;
        top = ap (λ n. n + 1) l.top;
        base = l.base;
        after = l.after;
        before = l.before;
      })
      (λ z _ e there. apart (k.links z x e there).open_ shut)

  pub kept_passes_fresh : (packet : List ℕ) (rest : List Item) → OnForwarding m (fresh packet) rest → m.flags.frozen ≡ true
      → Good p w (after s (passes_fresh x packet rest))
  unfolding after
  kept_passes_fresh packet rest on frozen =
      let f = k.each x in
      let o = f.own on.there in
      let fed = fed_by p w (view s) (is_fed m) (is_open m.bearer.n3) m.forwarded m.n3 h o.tunnels o.numbers (fresh packet) rest on.stands in
      let j = took_fresh p w (view s) (is_fed m) (is_open m.bearer.n3) m.forwarded m.n3 h o.tunnels o.numbers packet rest on.stands in
      let now : Ghost = record h { top = h.top + 1 } in
      kept_pass p w s g x (record m { forwarded = rest; bearer = waits_unless m.flags.released m.bearer packet }) now (fresh packet ∷ [])
      i.hop_held (i.hop_top + 1) i.ended k (on.there, frozen, o.tunnels.fed_open fed, refl)
      (record {
        own = λ _. record {
          lists = lists_wait_unless p _ _ _ _ _ _ _ _ m.flags.released m.flags.frozen packet j.0 o.numbers.next_top o.lists;
          status = o.status;
          tunnels = j.3.tunnels;
          flags = o.flags;
          spoken = o.spoken;
          numbers = j.3.numbers;
        };
        path = f.path;
        station = f.station;
      })
      (λ l q. gets_fresh packet o j.0 j.1 j.2 l q)
      (λ l _. record {
        from = l.from;
        other = l.other;
        open_ = l.open_;
        ended = l.ended;
        held = l.held;
        top = ap (λ n. n + 1) l.top;
        base = l.base;
        after = l.after;
        before = l.before;
      })
      (λ z _. k.links z x)

  -- ---- packets with COUNTs

  pub kept_sends : (count : ℕ) (packet : List ℕ) (rest : List Item) → OnForwarding m (numbered count packet) rest → m.flags.frozen ≡ false
      → Good p w (after s (sends x count packet rest))
  unfolding after restored
  kept_sends count packet rest on unfrozen =
      let f = k.each x in
      let o = f.own on.there in
      let keeps = o.flags.serves unfrozen in
      let low : h.held + 1 ≤ h.held + 1 = omega arith in
      let j = took_numbered p w (view s) (is_fed m) (is_open m.bearer.n3) m.forwarded m.n3 h o.tunnels o.numbers count (h.held + 1)
      packet rest low on.stands in
      let one : (count, packet) ∷ [] ≡ upto (pairs p) h.held (h.held + 1) = rw (j.0, j.1) (upto-one p h.held) in
      let most : h.held + 1 ≤ s.offered =
      (let a = j.2 in let b = o.numbers.base_next in let c = o.numbers.next_top in let d = o.numbers.top_offered in omega arith) in
      let r = said p s m ((count, packet) ∷ []) h.held (h.held + 1) k.radio one most
      (λ e. (let a = o.spoken.spoken e in let b = keeps.1 in omega arith)) in
      let t : Model = record s { air = if m.epoch == s.epoch then s.air ++ (count, packet) ∷ [] else s.air } in
      let later : Later (view s) (view t) = record
      { epoch = omega arith; offered = omega arith; deliv = omega arith; reached = λ _. r.grows } in
      let now : Ghost = record h { held = h.held + 1; sent = h.held + 1 } in (
        set g x now,
        kept_one p w s t g x (record m { forwarded = rest; bearer = holds m.bearer count packet }) now k
            (record {
              own = λ _. record {
                lists = lists_hold p _ _ _ _ _ _ _ _ _ _ count packet (h.held + 1) j.0 j.1 o.numbers.low_held unfrozen o.lists;
                status = record {
                  next_is = o.status.next_is;
                  base_is = o.status.base_is;
                  promised_is = o.status.promised_is;
                  early = λ e. apart (not_held m.flags.may_serve m.flags.arrived false on.passes).0 e;
                  early_base = o.status.early_base;
                };
                tunnels = j.4.tunnels;
                flags = record { serves = λ e. (keeps.0, refl); leads = o.flags.leads; gone_frozen = o.flags.gone_frozen };
                spoken = record { spoke = o.spoken.spoke; spoken = λ e. (let a = r.reaches e in omega arith) };
                numbers = j.4.numbers;
              };
              path = f.path;
              station = f.station;
            })
            (λ q _. fine_later p w (view s) (view t) q (s.members q) (g q) later refl refl refl (k.each q))
            (λ e. apart e.1 unfrozen) (λ y _ e _. apart e.1 unfrozen) (λ y _. k.links y x) r.radio,
      )

  pub kept_passes_numbered : (count : ℕ) (packet : List ℕ) (rest : List Item) → OnForwarding m (numbered count packet) rest →
      m.flags.frozen ≡ true
      → Good p w (after s (passes_numbered x count packet rest))
  unfolding after restored
  kept_passes_numbered count packet rest on frozen =
      let f = k.each x in
      let o = f.own on.there in
      let low : h.sent ≤ h.held + 1 = (let a = o.numbers.sent_held in omega arith) in
      let fed = fed_by p w (view s) (is_fed m) (is_open m.bearer.n3) m.forwarded m.n3 h o.tunnels o.numbers (numbered count packet) rest
      on.stands in
      let j = took_numbered p w (view s) (is_fed m) (is_open m.bearer.n3) m.forwarded m.n3 h o.tunnels o.numbers count h.sent packet
      rest low on.stands in
      let now : Ghost = record h { held = h.held + 1 } in
      kept_pass p w s g x (record m { forwarded = rest; bearer = takes_unless m.flags.released m.bearer count packet }) now
      (numbered count packet ∷ [])
      (i.hop_held + 1) i.hop_top i.ended k (on.there, frozen, o.tunnels.fed_open fed, refl)
      (record {
        own = λ _. record {
          lists = lists_take_unless p _ _ _ _ _ _ _ _ m.flags.released m.flags.frozen count packet j.0 j.1 o.numbers.low_held
              o.numbers.sent_held o.lists;
          status = record {
            next_is = o.status.next_is;
            base_is = o.status.base_is;
            promised_is = o.status.promised_is;
            early = λ e. apart (not_held m.flags.may_serve m.flags.arrived false on.passes).0 e;
            early_base = o.status.early_base;
          };
          tunnels = j.4.tunnels;
          flags = record { serves = λ e. apart frozen e; leads = o.flags.leads; gone_frozen = o.flags.gone_frozen };
          spoken = o.spoken;
          numbers = j.4.numbers;
        };
        path = f.path;
        station = f.station;
      })
      (λ l q. record {
        lists = q.lists;
        status = q.status;
        flags = q.flags;
        spoken = q.spoken;
        numbers = q.numbers;
        tunnels =
            (let a = o.numbers.base_next in let b = o.numbers.next_top in let c = l.held in let d = l.base in let e = l.top in let low =
            j.2 in let tops = j.3 in
            gave_numbered p w (view s) (is_fed t) (is_open t.bearer.n3) t.forwarded t.n3 i q.tunnels q.numbers count packet
            (j.0 ∙ sym l.held) (j.1 ∙ ap p (sym l.held)) l.open_ l.ended (omega arith) (omega arith));
      })
      (λ l _. record {
        from = l.from;
        other = l.other;
        open_ = l.open_;
        ended = l.ended;
        held = ap (λ n. n + 1) l.held;
        top = l.top;
        base = l.base;
        after = l.after;
        before = l.before;
      })
      (λ z _. k.links z x)

  -- ---- End Markers

  pub kept_ends_n3 : (rest : List Item) → OnN3 m end_marker rest → Good p w (after s (ends_n3 x rest))
  unfolding after
  kept_ends_n3 rest on =
      let f = k.each x in
      let o = f.own on.1.there in
      let shut = (not_held m.flags.may_serve m.flags.arrived (is_fed m) on.1.passes).1 in
      let j = took_n3_end p w (view s) (is_fed m) (is_open m.bearer.n3) m.forwarded m.n3 h o.tunnels o.numbers rest shut on.0 on.1.stands in
      kept_pass p w s g x (record m { n3 = rest; bearer = record m.bearer { n3 = None } }) h (end_marker ∷ [])
      i.hop_held i.hop_top true k (on.1.there, o.flags.gone_frozen j.0, on.0, refl)
      (record {
        own = λ _. record
            { lists = o.lists; status = o.status; tunnels = j.3.tunnels; flags = o.flags; spoken = o.spoken; numbers = j.3.numbers };
        path = λ e. apart j.0 (f.path e).is_not_gone;
        station = f.station;
      })
      (λ l q. record {
        lists = q.lists;
        status = q.status;
        flags = q.flags;
        spoken = q.spoken;
        numbers = q.numbers;
        tunnels = gave_end p w (view s) (is_fed t) (is_open t.bearer.n3) t.forwarded t.n3 i q.tunnels q.numbers l.open_ l.ended
            (l.held ∙ o.numbers.all_held j.1 ∙ sym l.base) (l.after j.0 ∙ j.2 ∙ sym l.top);
      })
      (λ l e. absurd (true≢false (sym e.2)))
      (λ z _. k.links z x)

  pub kept_ends_hop : (rest : List Item) → OnForwarding m end_marker rest → Good p w (after s (ends_hop x rest))
  unfolding after
  kept_ends_hop rest on =
      let f = k.each x in
      let o = f.own on.there in
      let now : Member = record m { forwarded = rest; bearer = record m.bearer { down_ended = true } } in
      let j = took_end p w (view s) (is_fed m) (is_open m.bearer.n3) m.forwarded m.n3 h o.tunnels o.numbers rest (is_fed now)
      (ended_by m.flags.target) on.stands in (
        set g x h,
        kept_one p w s s g x now h k
            (record {
              own = λ _. record {
                lists = o.lists;
                status = o.status;
                tunnels = j.1.tunnels;
                flags = o.flags;
                spoken = o.spoken;
                numbers = j.1.numbers;
              };
              path = f.path;
              station = f.station;
            })
            (λ q _. k.each q)
            (λ e. (k.links x x e on.there).other refl)
            (λ y _. k.links x y)
            (λ y _ e there. apart j.0 (k.links y x e on.there).ended)
            k.radio,
      )
    where
      ended_by : (b : Bool) → (b && false) ≡ false
      ended_by true = refl
      ended_by false = refl
