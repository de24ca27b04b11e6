-- An item is taken from a tunnel, or put on the next one: what the tunnels hold then.
use Rattle.std.proofs.Common.{◌≡◌, ℕ, ◌+◌, ◌<◌, ◌≤◌, Bool, true, false, not, List, [], ◌∷◌, ◌++◌, None, refl, sym, ap, ◌∙◌, true≢false, arith}
use Rattle.unit_defs.specs.CuUpItems.{first_held}
use Rattle.gnb_types.specs.declared.reasons.HeldReason.TheVariants.{NoStatus, NotArrived, Early}
use Rattle.bearer_defs.specs.chain_defs.Models.{Item, numbered, fresh, end_marker}
use Rattle.law_downlink_order.proofs.chain.Tunnels.{flow-fresh, flow-end, shape-numbered, shape-fresh, shape-end, shape-put, shape-close, shape-put_numbered}
use Rattle.law_downlink_order.proofs.chain.Facts.{Ghost, View, ends_of, Tunnels, IsFed, Numbers}
use Rattle.law_downlink_order.proofs.chain.Frames.{apart, given}

-- one that was not held has its status; on N3 the hop has ended
pub not_held : (s a e : Bool) → first_held ((not s, NoStatus) ∷ (not a, NotArrived) ∷ (e, Early) ∷ []) ≡ None → (s ≡ true) × (e ≡ false)
not_held true true true h = absurd cc
not_held true true false h = (refl, refl)
not_held true false e h = absurd cc
not_held false a e h = absurd cc

abbrev pub NumbersOf : ℕ → View → Ghost → Type 0
NumbersOf w b g = Numbers w b.offered b.deliv g.low g.held g.sent g.base g.next g.top

module _ (p : ℕ → List ℕ) (w : ℕ) (b : View) (fed open_ : Bool) (forwarded n3 : List Item) (g : Ghost)
    (t : Tunnels p b.offered fed open_ forwarded n3 (ends_of g)) (n : NumbersOf w b g) where
  -- what stands on the forwarding tunnel stands there for one that is fed
  pub fed_by : (item : Item) (rest : List Item) → forwarded ≡ item ∷ rest → fed ≡ true
  fed_by item rest h = by fed refl
    where
      by : (u : Bool) → fed ≡ u → fed ≡ true
      by true u = u
      by false u = let e : [] ≡ item ∷ rest = sym (t.shut u).1 ∙ h in absurd cc

  pub record Took (held sent top n3_low : ℕ) (forwarded_now n3_now : List Item) (open_now fed_now : Bool) : Type 0 where
    pub tunnels : Tunnels p b.offered fed_now open_now forwarded_now n3_now (record (ends_of g) { held = held; top = top; n3_low = n3_low })
    pub numbers : Numbers w b.offered b.deliv g.low held sent g.base g.next top

  -- ---- from forwarding

  pub took_numbered : (i sent : ℕ) (x : List ℕ) (rest : List Item) → sent ≤ g.held + 1 → forwarded ≡ numbered i x ∷ rest
      → (i ≡ g.held) × (x ≡ p g.held) × (g.held < g.base) × (g.top ≡ g.base) × Took (g.held + 1) sent g.top g.n3_low rest n3 open_ fed
  took_numbered i sent x rest sent_low h =
      let is = fed_by (numbered i x) rest h in
      let f = t.is_fed is in
      let j = shape-numbered p g.held g.hop_held g.top g.hop_top g.ended i x rest (sym f.items ∙ h) in
      let low : g.held < g.base = (let c = j.0 in let d = f.held_base in omega arith) in
      let tops : g.top ≡ g.base = n.none_waits low in (
        j.1,
        j.2,
        low,
        tops,
        record {
          tunnels = record {
            is_fed = λ _. record {
              items = j.3;
              held_base = f.held_base;
              to_come = λ _. (let c = j.0 in omega arith);
              all_come = f.all_come;
              top_hop = f.top_hop;
              hop_offered = f.hop_offered;
              at_end = f.at_end;
            };
            is_n3 = t.is_n3;
            fed_open = t.fed_open;
            shut = λ u. apart is u;
            shut_n3 = λ u _. apart is u;
            closed = t.closed;
          };
          numbers = record {
            low_held = (let c = n.low_held in omega arith);
            held_next = (let c = n.base_next in omega arith);
            next_top = n.next_top;
            top_offered = n.top_offered;
            low_deliv = n.low_deliv;
            sent_held = sent_low;
            base_next = n.base_next;
            window = n.window;
            none_waits = λ _. tops;
            all_held = λ l. (let c = n.base_next in let d = n.next_top in omega arith);
          };
        },
      )

  pub took_fresh : (x : List ℕ) (rest : List Item) → forwarded ≡ fresh x ∷ rest
      → (x ≡ p g.top) × (g.base ≤ g.held) × (g.top < b.offered) × Took g.held g.sent (g.top + 1) g.n3_low rest n3 open_ fed
  took_fresh x rest h =
      let is = fed_by (fresh x) rest h in
      let f = t.is_fed is in
      let j = shape-fresh p g.held g.hop_held g.top g.hop_top g.ended x rest (sym f.items ∙ h) in
      let below : g.base < g.hop_top = (let c = n.base_next in let d = n.next_top in let e = j.1 in omega arith) in
      let all = f.all_come below in
      let come : g.base ≤ g.held = (let c = j.0 in omega arith) in
      let less : g.top < b.offered = (let c = j.1 in let d = f.hop_offered in omega arith) in (
        j.2,
        come,
        less,
        record {
          tunnels = record {
            is_fed = λ _. record {
              items = j.3;
              held_base = f.held_base;
              to_come = f.to_come;
              all_come = f.all_come;
              top_hop = (let c = j.1 in omega arith);
              hop_offered = f.hop_offered;
              at_end = f.at_end;
            };
            is_n3 = t.is_n3;
            fed_open = t.fed_open;
            shut = λ u. apart is u;
            shut_n3 = λ u _. apart is u;
            closed = t.closed;
          };
          numbers = record {
            low_held = n.low_held;
            held_next = n.held_next;
            next_top = (let c = n.next_top in omega arith);
            top_offered = omega arith;
            low_deliv = n.low_deliv;
            sent_held = n.sent_held;
            base_next = n.base_next;
            window = n.window;
            none_waits = λ l. absurd (let c : g.held < g.base = l in omega arith);
            all_held = n.all_held;
          };
        },
      )

  pub took_end : (rest : List Item) (now : Bool) → now ≡ false → forwarded ≡ end_marker ∷ rest
      → (g.ended ≡ true) × Took g.held g.sent g.top g.n3_low rest n3 open_ now
  took_end rest now shut h =
      let is = fed_by end_marker rest h in
      let f = t.is_fed is in
      let j = shape-end p g.held g.hop_held g.top g.hop_top g.ended rest (sym f.items ∙ h) in
      let at = f.at_end j.2 in (
        j.2,
        record {
          tunnels = record {
            is_fed = λ u. apart u shut;
            is_n3 = t.is_n3;
            fed_open = λ u. apart u shut;
            shut = λ _. ((let c = j.0 in let d = at.0 in omega arith), j.3);
            shut_n3 = λ _ _. at.1 ∙ (let c = j.1 in let d = f.top_hop in let e : g.hop_top ≡ g.top = omega arith in e);
            closed = t.closed;
          };
          numbers = n;
        },
      )

  -- ---- from N3, whose hop has ended

  pub took_n3 : (x : List ℕ) (rest : List Item) → fed ≡ false → open_ ≡ true → n3 ≡ fresh x ∷ rest
      → (x ≡ p g.top) × (g.base ≤ g.held) × (g.top < b.offered) × Took g.held g.sent (g.top + 1) (g.n3_low + 1) forwarded rest open_ fed
  took_n3 x rest shut is_open h =
      let f = t.is_n3 is_open in
      let j = flow-fresh p g.n3_low g.n3_high g.gone x rest (sym f.items ∙ h) in
      let same = t.shut_n3 shut is_open in
      let come = (t.shut shut).0 in
      let less : g.top < b.offered = (let c = j.0 in let d = f.offered_all in omega arith) in (
        j.1 ∙ ap p same,
        come,
        less,
        record {
          tunnels = record {
            is_fed = λ u. apart u shut;
            is_n3 = λ _. record { items = j.2; ordered = (let c = j.0 in omega arith); offered_all = f.offered_all };
            fed_open = λ u. apart u shut;
            shut = t.shut;
            shut_n3 = λ _ _. ap (λ i. i + 1) same;
            closed = t.closed;
          };
          numbers = record {
            low_held = n.low_held;
            held_next = n.held_next;
            next_top = (let c = n.next_top in omega arith);
            top_offered = omega arith;
            low_deliv = n.low_deliv;
            sent_held = n.sent_held;
            base_next = n.base_next;
            window = n.window;
            none_waits = λ l. absurd (let c : g.held < g.base = l in omega arith);
            all_held = n.all_held;
          };
        },
      )

  pub took_n3_end : (rest : List Item) → fed ≡ false → open_ ≡ true → n3 ≡ end_marker ∷ rest
      → (g.gone ≡ true) × (g.base ≤ g.held) × (g.n3_high ≡ g.top) × Took g.held g.sent g.top g.n3_low forwarded rest false fed
  took_n3_end rest shut is_open h =
      let f = t.is_n3 is_open in
      let j = flow-end p g.n3_low g.n3_high g.gone rest (sym f.items ∙ h) in
      let same = t.shut_n3 shut is_open in
      let all : g.n3_high ≡ g.top = (let c = j.0 in let d = f.ordered in omega arith) in (
        j.1,
        (t.shut shut).0,
        all,
        record {
          tunnels = record {
            is_fed = λ u. apart u shut;
            is_n3 = λ u. absurd (true≢false (sym u));
            fed_open = λ u. apart u shut;
            shut = t.shut;
            shut_n3 = λ _ u. absurd (true≢false (sym u));
            closed = λ _. j.1;
          };
          numbers = n;
        },
      )

  -- ---- put on the forwarding tunnel of one that is fed

  abbrev With : ℕ → ℕ → Bool → List Item → Type 0
  With hop_held hop_top ended items = Tunnels p b.offered fed open_ (forwarded ++ items) n3 (ends_of (given g hop_held hop_top ended))

  with_fed : (hop_held hop_top : ℕ) (ended : Bool) (items : List Item) → fed ≡ true
      → IsFed p b.offered (forwarded ++ items) g.held g.base g.top hop_held hop_top g.n3_low ended → With hop_held hop_top ended items
  with_fed hop_held hop_top ended items is f = record {
    is_fed = λ _. f;
    is_n3 = t.is_n3;
    fed_open = t.fed_open;
    shut = λ u. apart is u;
    shut_n3 = λ u _. apart is u;
    closed = t.closed;
  }

  gave_count : fed ≡ true → g.ended ≡ false → g.hop_held < g.base → g.hop_top ≤ g.base
      → With (g.hop_held + 1) g.hop_top g.ended (numbered g.hop_held (p g.hop_held) ∷ [])
  gave_count is not_ended low tops =
      let f = t.is_fed is in
      let come = f.to_come low in
      let below : g.hop_top ≤ g.top = (let c = n.base_next in let d = n.next_top in omega arith) in
      with_fed (g.hop_held + 1) g.hop_top g.ended (numbered g.hop_held (p g.hop_held) ∷ []) is (record {
        items = rw (f.items, not_ended) (shape-put_numbered p g.held g.hop_held g.top g.hop_top come below);
        held_base = omega arith;
        to_come = λ _. omega arith;
        all_come = λ l. absurd (let c : g.base < g.hop_top = l in omega arith);
        top_hop = f.top_hop;
        hop_offered = f.hop_offered;
        at_end = λ u. apart u not_ended;
      })

  pub gave_numbered : (i : ℕ) (x : List ℕ) → i ≡ g.hop_held → x ≡ p g.hop_held → fed ≡ true → g.ended ≡ false → g.hop_held < g.base →
      g.hop_top ≤ g.base
      → With (g.hop_held + 1) g.hop_top g.ended (numbered i x ∷ [])
  gave_numbered i x count_is packet_is is not_ended low tops =
      rw (count_is, packet_is) (gave_count is not_ended low tops)

  gave_next : fed ≡ true → g.ended ≡ false → g.hop_held ≡ g.base → g.hop_top < b.offered
      → With g.hop_held (g.hop_top + 1) g.ended (fresh (p g.hop_top) ∷ [])
  gave_next is not_ended all less =
      let f = t.is_fed is in
      with_fed g.hop_held (g.hop_top + 1) g.ended (fresh (p g.hop_top) ∷ []) is (record {
        items = rw (f.items, not_ended) (shape-put p g.held g.hop_held g.top g.hop_top f.top_hop);
        held_base = f.held_base;
        to_come = f.to_come;
        all_come = λ _. all;
        top_hop = (let c = f.top_hop in omega arith);
        hop_offered = omega arith;
        at_end = λ u. apart u not_ended;
      })

  pub gave_fresh : (x : List ℕ) → x ≡ p g.hop_top → fed ≡ true → g.ended ≡ false → g.hop_held ≡ g.base → g.hop_top < b.offered
      → With g.hop_held (g.hop_top + 1) g.ended (fresh x ∷ [])
  gave_fresh x packet_is is not_ended all less = rw packet_is (gave_next is not_ended all less)

  pub gave_end : fed ≡ true → g.ended ≡ false → g.hop_held ≡ g.base → g.n3_low ≡ g.hop_top
      → With g.hop_held g.hop_top true (end_marker ∷ [])
  gave_end is not_ended all lows =
      let f = t.is_fed is in
      with_fed g.hop_held g.hop_top true (end_marker ∷ []) is (record {
        items = rw (f.items, not_ended) (shape-close p g.held g.hop_held g.top g.hop_top);
        held_base = f.held_base;
        to_come = f.to_come;
        all_come = f.all_come;
        top_hop = f.top_hop;
        hop_offered = f.hop_offered;
        at_end = λ _. (all, lows);
      })
