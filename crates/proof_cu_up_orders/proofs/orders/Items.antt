-- Items that a bearer takes are orders to its uplink.
use Rattle.std.proofs.Common.{◌≡◌, ◌==◌, ℕ, Bool, true, false, not, ◌&&◌, if◌then◌else◌, nat_lt, List, [], ◌∷◌, ◌++◌, Option, Some, None, refl, sym, ap, subst, ◌∙◌, eqb-true, true≢false}
use Rattle.std.proofs.lemmas.List.{append-nil}
use Rattle.pdcp_defs.specs.Receivers.{Receiver, Delivery, is_duplicate, deliver, stored}
use Rattle.unit_defs.specs.Ways.{packet_content, Taken, numbered_item, uplink_item, end_item, Way, Answer, gives, spent}
use Rattle.unit_defs.specs.CuUpRecords.{CuUpBearer, SourceHop, TunnelKind, f1u_uplink, forwarding_up}
use Rattle.unit_defs.specs.CuUpBearers.{no_uplink}
use Rattle.unit_defs.specs.CuUpItems.{took, took_uplink, uplink_ended, up_ended}
use Rattle.bearer_defs.specs.uplink_defs.Models.{Item, numbered, end_marker, Source, uplink_tunnel, forwarding, Member, Model, with_rest}
use Rattle.bearer_defs.specs.uplink_defs.Orders.{takes, ends_uplink, ends_hop, is_hop_up_done, stores, without_uplink, changed, passed, handed, stored_at, new_at, late_at, taken_at, is_up_over, with_ended, ended_if, ended_at, after, run}
use Rattle.bearer_defs.specs.chain_defs.Models.{set}
use Rattle.law_downlink_order.proofs.chain.Frames.{set_here, set_far}
use Rattle.proof_cu_up_orders.specs.uplink_rows.Shown.{Gives, closed_at, delivered_in}
use Rattle.proof_cu_up_orders.proofs.uplink_rows.Rows.{takes_new, relays_new, drops_old, passes_late, drops_late, uplink_ends_alone, last_uplink_ends, uplink_ends, hop_ends_alone, last_hop_ends, hop_ends}
use Rattle.proof_cu_up_orders.specs.context_orders.Orders.{CuUpModel, kept_in, done}
use Rattle.proof_cu_up_orders.specs.context_orders.Orders as rows
use Rattle.proof_cu_up_orders.specs.orders.Up.{up_of, IsUp, item_orders, Went, Shows, Stands, IsFit}

pub nothing_more : {X : Type 0} (b : Bool) (xs : List X) → xs ≡ (if b then xs ++ [] else xs)
nothing_more true xs = sym (append-nil xs)
nothing_more false xs = refl

module _ (s : Model) (x : ℕ) where
  pub went_same : Went s s x (s.members x) [] []
  went_same = record {
    here = refl;
    others = λ y far. refl;
    forwarded = λ y far. nothing_more (y == (s.members x).next_hop) (s.members y).forwarded;
    delivered = sym (append-nil s.delivered);
    rest = (refl, refl, refl, refl, refl, refl, refl);
  }

  pub went_kept : (m : Member) → Went s (changed s x m) x m [] []
  went_kept m = record {
    here = ap (λ (c : Member). record c { forwarded = m.forwarded }) (set_here s.members x m);
    others = λ y far. ap (λ (c : Member). record c { forwarded = (s.members y).forwarded }) (set_far s.members x m y far);
    forwarded = λ y far. ap (λ (c : Member). c.forwarded) (set_far s.members x m y far) ∙ nothing_more (y == m.next_hop) (s.members y).forwarded;
    delivered = sym (append-nil s.delivered);
    rest = (refl, refl, refl, refl, refl, refl, refl);
  }

  pub went_handed : (m : Member) (d : Delivery (List ℕ))
      → Went s (handed s x m d) x (record m { bearer = record m.bearer { receiver = d.after } }) [] d.packets
  went_handed m d =
      let n : Member = record m { bearer = record m.bearer { receiver = d.after } } in record {
        here = ap (λ (c : Member). record c { forwarded = m.forwarded }) (set_here s.members x n);
        others = λ y far. ap (λ (c : Member). record c { forwarded = (s.members y).forwarded }) (set_far s.members x n y far);
        forwarded = λ y far. ap (λ (c : Member). c.forwarded) (set_far s.members x n y far) ∙ nothing_more (y == m.next_hop) (s.members y).forwarded;
        delivered = refl;
        rest = (refl, refl, refl, refl, refl, refl, refl);
      }

  module _ (m : Member) (items : List Item) where
    abbrev now : ℕ → Member
    now = set s.members x m

    put_is : (y : ℕ) → set now m.next_hop (record (now m.next_hop) { forwarded = (now m.next_hop).forwarded ++ items }) y
        ≡ record (now y) { forwarded = if y == m.next_hop then (now y).forwarded ++ items else (now y).forwarded }
    put_is y = by (y == m.next_hop) refl
      where
        by : (t : Bool) → (y == m.next_hop) ≡ t → (if t then record (now m.next_hop) { forwarded = (now m.next_hop).forwarded ++ items } else now y)
            ≡ record (now y) { forwarded = if t then (now y).forwarded ++ items else (now y).forwarded }
        by true e = ap (λ (n : ℕ). record (now n) { forwarded = (now n).forwarded ++ items }) (sym (eqb-true y m.next_hop e))
        by false e = refl

    pub went_passed : Went s (passed s x m items) x m items []
    went_passed = record {
      here = ap (λ (c : Member). record c { forwarded = m.forwarded }) (put_is x) ∙ ap (λ (c : Member). record c { forwarded = m.forwarded }) (set_here s.members x m);
      others = λ y far. ap (λ (c : Member). record c { forwarded = (s.members y).forwarded }) (put_is y)
          ∙ ap (λ (c : Member). record c { forwarded = (s.members y).forwarded }) (set_far s.members x m y far);
      forwarded = λ y far. ap (λ (c : Member). c.forwarded) (put_is y)
          ∙ ap (λ (c : Member). if y == m.next_hop then c.forwarded ++ items else c.forwarded) (set_far s.members x m y far);
      delivered = sym (append-nil s.delivered);
      rest = (refl, refl, refl, refl, refl, refl, refl);
    }

module _ {M C P : Type 0} (way : Way M C P) (s : Model) (x : ℕ) (p : CuUpModel) (is : IsUp (s.members x) p) (stands : Stands p) where
  abbrev m : Member
  m = s.members x

  abbrev b : CuUpBearer
  b = p.bearer

  -- ---- a member that is the bearer then

  shown : (t : Model) (n : Member) (items : List Item) (packets : List (ℕ × List ℕ)) (c : CuUpBearer) (a : Answer M P CuUpBearer) → n.is_there ≡ true
      → n.flags ≡ p.at.flags → up_of n.bearer ≡ up_of c → Went s t x n items packets → Gives items packets c a → Shows s t x (kept_in p a)
  unfolding Gives
  shown t n items packets c (spent k) there flags bearer went g = tt
  shown t n items packets c (gives os d) there flags bearer went g = record {
    member = n;
    is = record { there = there; flags = flags; bearer = bearer ∙ ap up_of (sym g.2) };
    went = subst (λ (zs : List Item). Went s t x n zs (delivered_in os)) (sym g.0)
        (subst (λ (es : List (ℕ × List ℕ)). Went s t x n items es) (sym g.1) went);
  }

  receivers : m.bearer.receiver ≡ b.receiver
  receivers = ap (λ (u : CuUpBearer). u.receiver) is.bearer

  -- ---- packets, from an uplink tunnel and from the one of the source

  module _ (from : Source) (count : ℕ) (packet : List ℕ) (rest : List Item) where
    abbrev k : Member
    k = with_rest m from rest

    abbrev row : Answer M P CuUpBearer
    row = took_uplink way p.at (Some count) packet b

    abbrev Is : Model → Type 0
    Is t = Shows s t x (kept_in p row)

    hop_there : p.at.flags.released ≡ true → (h : SourceHop) × (b.hop ≡ Some h)
    hop_there released = by p.at.flags.frozen refl
      where
        by : (f : Bool) → p.at.flags.frozen ≡ f → (h : SourceHop) × (b.hop ≡ Some h)
        by true f = stands.hop f
        by false f = absurd (true≢false (sym released ∙ stands.passes f))

    late_one : p.at.flags.released ≡ true → (l : Bool) → nat_lt count b.receiver.deliv ≡ l → Is (late_at s x k count packet l)
    late_one released true l =
        shown (changed s x k) k [] [] b row is.there is.flags is.bearer (went_kept s x k) (drops_late way p.at count packet b released l)
    late_one released false l =
        let hop = hop_there released in
        shown (passed s x k (numbered count packet ∷ [])) k (numbered count packet ∷ []) [] b row is.there is.flags is.bearer
        (went_passed s x k (numbered count packet ∷ [])) (passes_late way p.at count packet b hop.0 hop.1 released l)

    stored_one : p.at.flags.released ≡ false → is_duplicate b.receiver count ≡ false → (f : Bool) → p.at.flags.frozen ≡ f
        → Is (stored_at s x k count packet f)
    stored_one keeps fresh true f =
        let hop = stands.hop f in
        shown (passed s x (stores k count packet) (numbered count packet ∷ [])) (stores k count packet) (numbered count packet ∷ []) []
        (record b { receiver = stored b.receiver count packet }) row is.there is.flags
        (ap (λ (u : CuUpBearer). record u { receiver = stored u.receiver count packet }) is.bearer)
        (went_passed s x (stores k count packet) (numbered count packet ∷ [])) (relays_new way p.at count packet b hop.0 hop.1 keeps f fresh)
    stored_one keeps fresh false f =
        let d = deliver (stored k.bearer.receiver count packet) in
        shown (handed s x k d) (record k { bearer = record k.bearer { receiver = d.after } }) [] d.packets
        (record b { receiver = (deliver (stored b.receiver count packet)).after }) row is.there is.flags
        (ap (λ (u : CuUpBearer). record u { receiver = (deliver (stored u.receiver count packet)).after }) is.bearer) (went_handed s x k d)
        (subst (λ (r : Receiver (List ℕ)). Gives [] (deliver (stored r count packet)).packets
        (record b { receiver = (deliver (stored b.receiver count packet)).after }) row) (sym receivers) (takes_new way p.at count packet b keeps f fresh))

    new_one : p.at.flags.released ≡ false → (d : Bool) → is_duplicate b.receiver count ≡ d → Is (new_at s x k count packet d)
    new_one keeps true d = shown (changed s x k) k [] [] b row is.there is.flags is.bearer (went_kept s x k) (drops_old way p.at count packet b keeps d)
    new_one keeps false d =
        subst (λ (f : Bool). Is (stored_at s x k count packet f)) (ap (λ f. f.frozen) (sym is.flags))
        (stored_one keeps d p.at.flags.frozen refl)

    pub taken_one : Is (run s (takes x from count packet rest ∷ []))
    unfolding run after
    taken_one = subst (λ (r : Bool). Is (taken_at s x k count packet r)) (ap (λ f. f.released) (sym is.flags)) (by p.at.flags.released refl)
      where
        by : (r : Bool) → p.at.flags.released ≡ r → Is (taken_at s x k count packet r)
        by true r =
            subst (λ (q : Receiver (List ℕ)). Is (late_at s x k count packet (nat_lt count q.deliv))) (sym receivers)
            (late_one r (nat_lt count b.receiver.deliv) refl)
        by false r =
            subst (λ (q : Receiver (List ℕ)). Is (new_at s x k count packet (is_duplicate q count))) (sym receivers)
            (new_one r (is_duplicate b.receiver count) refl)

  -- ---- End Markers

  hops : m.bearer.hop ≡ b.hop
  hops = ap (λ (u : CuUpBearer). u.hop) is.bearer

  pub uplink_end : (teid : ℕ) (rest : List Item) → Shows s (run s (ends_uplink x teid rest ∷ [])) x (kept_in p (uplink_ended way p.at teid b))
  unfolding run after
  uplink_end teid rest = subst (λ (o : Option SourceHop). Shows s (ended_at s x n o) x (kept_in p row)) (sym hops) (by b.hop refl)
    where
      n : Member
      n = without_uplink (with_rest m (uplink_tunnel teid) rest) teid

      row : Answer M P CuUpBearer
      row = uplink_ended way p.at teid b

      same : up_of n.bearer ≡ up_of (closed_at b teid)
      same = ap (λ (u : CuUpBearer). closed_at u teid) is.bearer

      over : (hop : SourceHop) → is_up_over n hop ≡ (not hop.up_ended && no_uplink (closed_at b teid).uplinks && is_hop_up_done p.at.flags b)
      over hop i = not hop.up_ended && no_uplink (closed_at (is.bearer i) teid).uplinks && is_hop_up_done (is.flags i) (is.bearer i)

      ends : (hop : SourceHop) → b.hop ≡ Some hop → (t : Bool)
          → (not hop.up_ended && no_uplink (closed_at b teid).uplinks && is_hop_up_done p.at.flags b) ≡ t
          → Shows s (ended_if s x n hop t) x (kept_in p row)
      ends hop e true last =
          shown (passed s x (with_ended n hop) (end_marker ∷ [])) (with_ended n hop) (end_marker ∷ []) []
          (record (closed_at b teid) { hop = Some (record hop { up_ended = true }) }) row is.there is.flags
          (ap (λ (u : CuUpBearer). record u { hop = Some (record hop { up_ended = true }) }) same)
          (went_passed s x (with_ended n hop) (end_marker ∷ [])) (last_uplink_ends way p.at teid b hop e last)
      ends hop e false more =
          shown (changed s x n) n [] [] (closed_at b teid) row is.there is.flags same (went_kept s x n) (uplink_ends way p.at teid b hop e more)

      by : (o : Option SourceHop) → b.hop ≡ o → Shows s (ended_at s x n o) x (kept_in p row)
      by None e = shown (changed s x n) n [] [] (closed_at b teid) row is.there is.flags same (went_kept s x n) (uplink_ends_alone way p.at teid b e)
      by (Some hop) e = subst (λ (t : Bool). Shows s (ended_if s x n hop t) x (kept_in p row)) (sym (over hop)) (ends hop e _ refl)

  pub hop_end : (rest : List Item) → b.up_ended ≡ false → Shows s (run s (ends_hop x rest ∷ [])) x (kept_in p (up_ended way p.at b))
  unfolding run after
  hop_end rest open_ = subst (λ (o : Option SourceHop). Shows s (ended_at s x n o) x (kept_in p row)) (sym hops) (by b.hop refl)
    where
      left : Member
      left = with_rest m forwarding rest

      n : Member
      n = record left { bearer = record left.bearer { up_ended = true } }

      row : Answer M P CuUpBearer
      row = up_ended way p.at b

      ended : CuUpBearer
      ended = record b { up_ended = true }

      same : up_of n.bearer ≡ up_of ended
      same = ap (λ (u : CuUpBearer). record u { up_ended = true }) is.bearer

      over : (hop : SourceHop) → is_up_over n hop ≡ (not hop.up_ended && no_uplink b.uplinks && is_hop_up_done p.at.flags ended)
      over hop i = not hop.up_ended && no_uplink (is.bearer i).uplinks && is_hop_up_done (is.flags i) (record (is.bearer i) { up_ended = true })

      ends : (hop : SourceHop) → b.hop ≡ Some hop → (t : Bool)
          → (not hop.up_ended && no_uplink b.uplinks && is_hop_up_done p.at.flags ended) ≡ t → Shows s (ended_if s x n hop t) x (kept_in p row)
      ends hop e true last =
          shown (passed s x (with_ended n hop) (end_marker ∷ [])) (with_ended n hop) (end_marker ∷ []) []
          (record ended { hop = Some (record hop { up_ended = true }) }) row is.there is.flags
          (ap (λ (u : CuUpBearer). record u { hop = Some (record hop { up_ended = true }) }) same)
          (went_passed s x (with_ended n hop) (end_marker ∷ [])) (last_hop_ends way p.at b hop open_ e last)
      ends hop e false more =
          shown (changed s x n) n [] [] ended row is.there is.flags same (went_kept s x n) (hop_ends way p.at b hop open_ e more)

      by : (o : Option SourceHop) → b.hop ≡ o → Shows s (ended_at s x n o) x (kept_in p row)
      by None e = shown (changed s x n) n [] [] ended row is.there is.flags same (went_kept s x n) (hop_ends_alone way p.at b open_ e)
      by (Some hop) e = subst (λ (t : Bool). Shows s (ended_if s x n hop t) x (kept_in p row)) (sym (over hop)) (ends hop e _ refl)

  -- ---- the table

  pub item_one : (kind : TunnelKind) (teid : ℕ) (item : Taken P) (rest : List Item) → IsFit p kind item
      → Shows s (run s (item_orders x rest kind teid item)) x (done way (rows.takes kind teid item) p)
  unfolding took
  item_one f1u_uplink teid (uplink_item (packet_content (Some count) packet)) rest fit = taken_one (uplink_tunnel teid) count packet rest
  item_one f1u_uplink teid end_item rest fit = uplink_end teid rest
  item_one forwarding_up teid (numbered_item (Some count) packet) rest fit = taken_one forwarding count packet rest
  item_one forwarding_up teid end_item rest fit = hop_end rest fit
  item_one kind teid item rest fit = absurd fit
