-- What orders of each shape come to in the model: one bearer changes, items go on, packets go to the radio, and what waits is numbered.
use Rattle.std.proofs.Common.{◌≡◌, ◌==◌, ℕ, Bool, true, false, if◌then◌else◌, List, [], ◌++◌, refl, sym, ap, ◌∙◌, append_assoc, eqb-true}
use Rattle.std.proofs.lemmas.List.{append-nil}
use Rattle.gnb_types.specs.declared.names.SnBits.{SnBits}
use Rattle.unit_defs.specs.CuUpRecords.{CuUpBearer}
use Rattle.bearer_defs.specs.chain_defs.Models.{Item, Member, Model, set}
use Rattle.bearer_defs.specs.chain_defs.Orders.{changed, passed, sent, run}
use Rattle.law_downlink_order.proofs.chain.Frames.{set_here, set_far}
use Rattle.proof_cu_up_orders.specs.chain_rows.Shown.{numbers_all, still_waits, number_orders, numbered_packets}
use Rattle.proof_cu_up_orders.proofs.chain_rows.Numbering.{numbering_is}
use Rattle.proof_cu_up_orders.specs.down_orders.Down.{Went}

abbrev Packets : Type 0
Packets = List (ℕ × List ℕ)

air_more : (b : Bool) (air xs ys : Packets)
    → (if b then (if b then air ++ xs else air) ++ ys else (if b then air ++ xs else air)) ≡ (if b then air ++ (xs ++ ys) else air)
air_more true air xs ys = append_assoc air xs ys
air_more false air xs ys = refl

nothing_more : {X : Type 0} (b : Bool) (xs : List X) → xs ≡ (if b then xs ++ [] else xs)
nothing_more true xs = sym (append-nil xs)
nothing_more false xs = refl

-- what waits, numbered while there is room
abbrev pub numbered_by : SnBits → ℕ → CuUpBearer → CuUpBearer
numbered_by sn quota u = record u { sender = numbers_all sn quota u.waiting u.sender; waiting = still_waits sn quota u.waiting u.waiting u.sender }

module _ (s : Model) (x : ℕ) where
  pub went_kept : (m : Member) → Went s (changed s x m) x m [] []
  went_kept m = record {
    here = ap (λ (c : Member). record c { forwarded = m.forwarded }) (set_here s.members x m);
    others = λ y far. ap (λ (c : Member). record c { forwarded = (s.members y).forwarded }) (set_far s.members x m y far);
    forwarded = λ y far. ap (λ (c : Member). c.forwarded) (set_far s.members x m y far) ∙ nothing_more (y == m.next_hop) (s.members y).forwarded;
    air = nothing_more (m.epoch == s.epoch) s.air;
    rest = (refl, refl, refl, refl, refl, refl);
  }

  pub went_sent : (m c : Member) (packets : Packets) → c.epoch ≡ m.epoch → Went s (sent (changed s x m) c packets) x m [] packets
  went_sent m c packets same = record {
    here = ap (λ (c : Member). record c { forwarded = m.forwarded }) (set_here s.members x m);
    others = λ y far. ap (λ (c : Member). record c { forwarded = (s.members y).forwarded }) (set_far s.members x m y far);
    forwarded = λ y far. ap (λ (c : Member). c.forwarded) (set_far s.members x m y far) ∙ nothing_more (y == m.next_hop) (s.members y).forwarded;
    air = ap (λ (n : ℕ). if n == s.epoch then s.air ++ packets else s.air) same;
    rest = (refl, refl, refl, refl, refl, refl);
  }

  module _ (m : Member) (items : List Item) where
    abbrev now : ℕ → Member
    now = set s.members x m

    put_is : (y : ℕ) → set now m.next_hop (record (now m.next_hop) { forwarded = (now m.next_hop).forwarded ++ items }) y
        ≡ record (now y) { forwarded = if y == m.next_hop then (now y).forwarded ++ items else (now y).forwarded }
    put_is y = by (y == m.next_hop) refl
      where
        by : (t : Bool) → (y == m.next_hop) ≡ t → (if t then record (now m.next_hop) { forwarded = (now m.next_hop).forwarded ++ items } else now y)
            ≡ record (now y) { forwarded = if t then (now y).forwarded ++ items else (now y).forwarded }
        by true e = ap (λ (n : ℕ). record (now n) { forwarded = (now n).forwarded ++ items }) (sym (eqb-true y m.next_hop e))
        by false e = refl

    pub went_passed : Went s (passed s x m items) x m items []
    went_passed = record {
      here = ap (λ (c : Member). record c { forwarded = m.forwarded }) (put_is x) ∙ ap (λ (c : Member). record c { forwarded = m.forwarded }) (set_here s.members x m);
      others = λ y far. ap (λ (c : Member). record c { forwarded = (s.members y).forwarded }) (put_is y)
          ∙ ap (λ (c : Member). record c { forwarded = (s.members y).forwarded }) (set_far s.members x m y far);
      forwarded = λ y far. ap (λ (c : Member). c.forwarded) (put_is y)
          ∙ ap (λ (c : Member). if y == m.next_hop then c.forwarded ++ items else c.forwarded) (set_far s.members x m y far);
      air = nothing_more (m.epoch == s.epoch) s.air;
      rest = (refl, refl, refl, refl, refl, refl);
    }

  -- ---- after further orders, of which none passed anything on

  module _ (t : Model) (m : Member) (packets : Packets) (w : Went s t x m [] packets) (exact : t.members x ≡ m) where
    pub went_changed : (n : Member) → n.epoch ≡ m.epoch → n.next_hop ≡ m.next_hop → Went s (changed t x n) x n [] packets
    went_changed n epoch hop = record {
      here = ap (λ (c : Member). record c { forwarded = n.forwarded }) (set_here t.members x n);
      others = λ y far. ap (λ (c : Member). record c { forwarded = (s.members y).forwarded }) (set_far t.members x n y far) ∙ w.others y far;
      forwarded = λ y far. ap (λ (c : Member). c.forwarded) (set_far t.members x n y far) ∙ w.forwarded y far
          ∙ ap (λ (k : ℕ). if y == k then (s.members y).forwarded ++ [] else (s.members y).forwarded) (sym hop);
      air = w.air ∙ ap (λ (k : ℕ). if k == s.epoch then s.air ++ packets else s.air) (sym epoch);
      rest = w.rest;
    }

    pub went_more : (more : Packets) → Went s (sent t (t.members x) more) x m [] (packets ++ more)
    went_more more = record {
      here = w.here;
      others = w.others;
      forwarded = w.forwarded;
      air = (λ i. if (exact i).epoch == w.rest.0 i then w.air i ++ more else w.air i) ∙ air_more (m.epoch == s.epoch) s.air packets more;
      rest = w.rest;
    }

    pub went_numbers : (sn : SnBits) (quota : ℕ)
        → Went s (run t (number_orders sn quota x m.bearer.waiting m.bearer.sender)) x (record m { bearer = numbered_by sn quota m.bearer }) []
        (packets ++ numbered_packets sn quota m.bearer.waiting m.bearer.sender)
    went_numbers sn quota =
        let k = numbering_is sn quota x m.bearer.waiting t m exact refl in
        let more : Packets = numbered_packets sn quota m.bearer.waiting m.bearer.sender in record {
          here = ap (λ (c : Member). record c { forwarded = m.forwarded }) k.here;
          others = λ y far. ap (λ (c : Member). record c { forwarded = (s.members y).forwarded }) (k.others y far) ∙ w.others y far;
          forwarded = λ y far. ap (λ (c : Member). c.forwarded) (k.others y far) ∙ w.forwarded y far;
          air = k.air ∙ (λ i. if m.epoch == w.rest.0 i then w.air i ++ more else w.air i) ∙ air_more (m.epoch == s.epoch) s.air packets more;
          rest = (
            k.epoch ∙ w.rest.0,
            k.rest.0 ∙ w.rest.1,
            k.rest.1 ∙ w.rest.2,
            k.rest.2 ∙ w.rest.3,
            k.rest.3 ∙ w.rest.4,
            k.rest.4 ∙ w.rest.5,
          );
        }

-- no order is the first one
pub went_same : (s : Model) (x : ℕ) → Went s s x (s.members x) [] []
went_same s x = record {
  here = refl;
  others = λ y far. refl;
  forwarded = λ y far. nothing_more (y == (s.members x).next_hop) (s.members y).forwarded;
  air = nothing_more ((s.members x).epoch == s.epoch) s.air;
  rest = (refl, refl, refl, refl, refl, refl);
}
