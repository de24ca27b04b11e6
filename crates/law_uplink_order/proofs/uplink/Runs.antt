-- What holds at the start and is kept by each order holds after every list of orders.
use Rattle.std.proofs.Common.{◌≡◌, ℕ, ◌+◌, ◌<◌, Bool, true, false, nat_lt, List, [], ◌∷◌, inl, inr, ◌⊎◌, ◌≢◌, Option, Some, None, length, refl, sym, ap, subst, ◌∙◌, true≢false, arith}
use Rattle.std.specs.Prelude.{⊤}
use Rattle.intervals.specs.Intervals.{segment, upto, HasNoGap, reach}
use Rattle.pdcp_defs.specs.Receivers.{is_duplicate}
use Rattle.unit_defs.specs.CuUpRecords.{SourceHop}
use Rattle.unit_defs.specs.CuUpBearers.{made}
use Rattle.bearer_defs.specs.chain_defs.Models.{set}
use Rattle.law_downlink_order.proofs.chain.Frames.{apart}
use Rattle.law_downlink_order.proofs.chain.Runs.{Agrees}
use Rattle.bearer_defs.specs.uplink_defs.Models.{Item, numbered, Source, forwarding, uplink_tunnel, Member, Model, initial, new_member, no_member, with_rest}
use Rattle.bearer_defs.specs.uplink_defs.Orders.{ModelStep, offers, numbers, connects, leaves, arrives, carries, acknowledges, reports, marks, makes, adds, freezes, knows, switches, resumes, releases, closes, discards, takes, ends_uplink, ends_hop, after, stored_at, new_at, late_at, taken_at, ended_if, ended_at, is_up_over, without_uplink, run, offers_in}
use Rattle.bearer_defs.specs.uplink_defs.Assumptions.{IsTaken, IsReady, IsAssumed, AreKept}
use Rattle.law_uplink_order.proofs.facts.Items.{NoData, EndsLast}
use Rattle.law_uplink_order.proofs.facts.Receivers.{Rises, is_old}
use Rattle.law_uplink_order.proofs.facts.Facts.{Ghost, view, MemberInvariant, Passed, Kept, Good}
use Rattle.law_uplink_order.proofs.facts.Frames.{either, put_one}
use Rattle.law_uplink_order.proofs.moves.Terminals.{kept_offers, kept_numbers, kept_connects, kept_leaves, kept_acknowledges, kept_reports}
use Rattle.law_uplink_order.proofs.facts.Contexts.{kept_marks, kept_makes, kept_adds, kept_knows, kept_releases, kept_closes, kept_discards}
use Rattle.law_uplink_order.proofs.takes.Takes.{kept_drops, passes}
use Rattle.law_uplink_order.proofs.takes.Relays.{kept_relays, kept_passes}
use Rattle.law_uplink_order.proofs.takes.Handing.{kept_switches, kept_resumes, kept_delivers}
use Rattle.law_uplink_order.proofs.moves.Moves.{kept_freezes}
use Rattle.law_uplink_order.proofs.moves.Arrivals.{kept_carries, kept_arrives}
use Rattle.law_uplink_order.proofs.takes.Ends.{kept_ends_uplink, kept_ends_hop}

OfferIs : (ℕ → List ℕ) → Model → ModelStep → Type 0
OfferIs p s (offers packet) = packet ≡ p s.offered
OfferIs p s o = ⊤

module _ (p : ℕ → List ℕ) (s : Model) (d : ℕ) (g : ℕ → Ghost) (k : Kept p s d g) where
  -- ---- a packet is taken, by what the context is

  module _ (x : ℕ) (from : Source) (count : ℕ) (packet : List ℕ) (rest : List Item)
      (taken : IsTaken (s.members x) from (numbered count packet) rest) where
    abbrev m : Member
    m = s.members x

    abbrev c : Member
    c = with_rest (s.members x) from rest

    -- who serves is where the terminal is
    serves : m.flags.frozen ≡ false → x ≡ s.station
    serves unfrozen = by (either x s.station)
      where
        by : (x ≡ s.station) ⊎ (x ≢ s.station) → x ≡ s.station
        by (inl is) = is
        by (inr far) =
            let o = (k.each x).own taken.there in
            let pos = passes p (view s d) x m (g x).rank from (numbered count packet) rest o taken in
            apart (o.placed.frozen pos.2 far) unfrozen

    stored_by : m.flags.released ≡ false → is_duplicate m.bearer.receiver count ≡ false → (f : Bool) → m.flags.frozen ≡ f
        → Good p (stored_at s x c count packet f)
    stored_by keeps fresh true frozen = (d, g, kept_relays p s d g k x from count packet rest taken frozen keeps fresh)
    stored_by keeps fresh false unfrozen = kept_delivers p s d g k x (serves unfrozen) from count packet rest taken unfrozen fresh

    new_by : m.flags.released ≡ false → (t : Bool) → is_duplicate m.bearer.receiver count ≡ t → Good p (new_at s x c count packet t)
    new_by keeps true old = (d, g, kept_drops p s d g k x from count packet rest taken (is_old m.bearer.receiver count old))
    new_by keeps false fresh = stored_by keeps fresh m.flags.frozen refl

    late_by : m.flags.released ≡ true → (t : Bool) → nat_lt count m.bearer.receiver.deliv ≡ t → Good p (late_at s x c count packet t)
    late_by released true below = (d, g, kept_drops p s d g k x from count packet rest taken (inl (grind arith)))
    late_by released false above =
        let o = (k.each x).own taken.there in
        (d, g, kept_passes p s d g k x from count packet rest taken (o.flags.leads released) released)

    taken_by : (t : Bool) → m.flags.released ≡ t → Good p (taken_at s x c count packet t)
    taken_by true released = late_by released (nat_lt count m.bearer.receiver.deliv) refl
    taken_by false keeps = new_by keeps (is_duplicate m.bearer.receiver count) refl

    pub kept_takes : Good p (after s (takes x from count packet rest))
    unfolding after
    kept_takes = taken_by m.flags.released refl

  -- ---- each order

  kept_order : (o : ModelStep) → IsReady s o → IsAssumed s o → OfferIs p s o → Good p (after s o)
  unfolding IsReady IsAssumed OfferIs
  kept_order (offers packet) r w is = kept_offers p s d g k packet is
  kept_order (numbers packet rest) r w is = kept_numbers p s d g k packet rest r.0 r.1
  kept_order connects r w is = kept_connects p s d g k
  kept_order leaves r w is = kept_leaves p s d g k
  kept_order (arrives x) r w is = kept_arrives p s d g k x w.0 w.1
  kept_order (carries teid count packet rest) r w is = kept_carries p s d g k teid count packet rest r w.0 w.1
  kept_order (acknowledges count rest) r w is = kept_acknowledges p s d g k count rest r
  kept_order (reports fmc bits) r w is = kept_reports p s d g k fmc bits w
  kept_order (marks x teid) r w is = kept_marks p s d g k x teid
  kept_order (makes x teid) r w is = kept_makes p s d g k x teid r w
  kept_order (adds x teid) r w is = kept_adds p s d g k x teid w
  kept_order (freezes x to hop) r w is = kept_freezes p s d g k x w.0 to hop r.0 r.1 w.1 w.2
  kept_order (knows x status) r w is = kept_knows p s d g k x status r w
  kept_order (switches x) r w is = kept_switches p s d g k x w
  kept_order (resumes x) r w is = kept_resumes p s d g k x w
  kept_order (releases x) r w is = kept_releases p s d g k x w.0 w.1
  kept_order (closes x) r w is = kept_closes p s d g k x r.0 r.1 r.2
  kept_order (discards x) r w is = kept_discards p s d g k x w.0 w.1
  kept_order (takes x from count packet rest) r w is = kept_takes x from count packet rest r
  kept_order (ends_uplink x teid rest) r w is = kept_ends_uplink p s d g k x teid rest r
  kept_order (ends_hop x rest) r w is = kept_ends_hop p s d g k x rest r

-- ---- lists of orders

-- no order but an offer changes what was offered
module _ (s : Model) (x : ℕ) (m : Member) where
  ended_same : (hop : Option SourceHop) → (ended_at s x m hop).offered ≡ s.offered
  ended_same None = refl
  ended_same (Some hop) = by (is_up_over m hop)
    where
      by : (t : Bool) → (ended_if s x m hop t).offered ≡ s.offered
      by true = refl
      by false = refl

  taken_same : (count : ℕ) (packet : List ℕ) (t : Bool) → (taken_at s x m count packet t).offered ≡ s.offered
  taken_same count packet true = by (nat_lt count m.bearer.receiver.deliv)
    where
      by : (t : Bool) → (late_at s x m count packet t).offered ≡ s.offered
      by true = refl
      by false = refl
  taken_same count packet false = by (is_duplicate m.bearer.receiver count)
    where
      stored_by : (t : Bool) → (stored_at s x m count packet t).offered ≡ s.offered
      stored_by true = refl
      stored_by false = refl

      by : (t : Bool) → (new_at s x m count packet t).offered ≡ s.offered
      by true = refl
      by false = stored_by m.flags.frozen

Counts : Model → ModelStep → ℕ → Type 0
Counts s (offers packet) n = n ≡ s.offered + 1
Counts s o n = n ≡ s.offered

counts : (s : Model) (o : ModelStep) → Counts s o (after s o).offered
unfolding after Counts
counts s (offers packet) = refl
counts s (takes x from count packet rest) =
    taken_same s x (with_rest (s.members x) from rest) count packet (s.members x).flags.released
counts s (ends_uplink x teid rest) =
    let m : Member = without_uplink (with_rest (s.members x) (uplink_tunnel teid) rest) teid in ended_same s x m m.bearer.hop
counts s (ends_hop x rest) =
    let m : Member = with_rest (s.members x) forwarding rest in
    ended_same s x (record m { bearer = record m.bearer { up_ended = true } }) m.bearer.hop
counts s o = refl

offers_after : (p : ℕ → List ℕ) (s : Model) (o : ModelStep) (os : List ModelStep) (n : ℕ) → Counts s o n → Agrees p s.offered (offers_in (o ∷ os))
    → OfferIs p s o × Agrees p n (offers_in os)
unfolding offers_in Agrees OfferIs Counts
offers_after p s (offers packet) os n e h = (h.0, subst (λ m. Agrees p m (offers_in os)) (sym e) h.1)
offers_after p s o os n e h = (tt, subst (λ m. Agrees p m (offers_in os)) (sym e) h)

counts_after : (s : Model) (o : ModelStep) (os : List ModelStep) (n : ℕ) → Counts s o n
    → n + length (offers_in os) ≡ s.offered + length (offers_in (o ∷ os))
unfolding offers_in Counts
counts_after s (offers packet) os n e = omega arith
counts_after s o os n e = ap (λ m. m + length (offers_in os)) e

pub all_offered : (s : Model) (os : List ModelStep) → (run s os).offered ≡ s.offered + length (offers_in os)
unfolding run offers_in
all_offered s [] = omega arith
all_offered s (o ∷ os) = all_offered (after s o) os ∙ counts_after s o os (after s o).offered (counts s o)

pub kept_run : (p : ℕ → List ℕ) (s : Model) (os : List ModelStep) → Good p s → AreKept s os → Agrees p s.offered (offers_in os)
    → Good p (run s os)
unfolding run AreKept
kept_run p s [] k w h = k
kept_run p s (o ∷ os) k w h =
    let e = offers_after p s o os (after s o).offered (counts s o) h in
    kept_run p (after s o) os (kept_order p s k.0 k.1 k.2 o w.0 w.1 e.0) w.2 e.1

-- ---- the start

pub good_start : (p : ℕ → List ℕ) (x teid : ℕ) → Good p (initial x teid)
unfolding initial made HasNoGap reach upto segment Rises EndsLast NoData Passed
good_start p x teid = (
  0,
  (λ _. record { rank = 1; from = 0 }),
  record {
    each = put_one (λ q m. MemberInvariant p (view (initial x teid) 0) q m 1) (λ _. no_member) x (new_member false teid)
        (record {
          own = λ _. record {
            tunnels = record { uplink_right = λ _. tt; uplink_last = λ _. tt; right = tt; last = tt; over = λ _. tt };
            holds = record { right = tt; rises = tt; handed_up = λ _. tt; given_up = λ _. refl; unknown = λ _. refl };
            flags = record {
              served = λ f. absurd (true≢false (sym f));
              leads = λ f. absurd (true≢false (sym f));
              thawed = λ _. refl;
              ended = λ f. absurd (true≢false (sym f));
              was_there = λ _. omega arith;
            };
            placed = record { frozen = λ _ far. absurd (far refl); behind = λ _ _. omega arith };
          };
          station = λ _. record { there = refl; keeps = refl; ranks = omega arith; known = λ _. refl; unknown = λ _. refl };
        })
        (λ q far. record { own = λ e. absurd (true≢false (sym e)); station = λ e. absurd (far e) });
    links = λ q r. record {
      link = λ f u. absurd (unfrozen q f.1);
      lives = λ there pos far e leads. absurd (far (only q there));
    };
    net = λ i l. absurd (let a : i < 0 = l in omega arith);
    passed = λ q there pos far i h. absurd (far (only q there));
    terminal = record {
      sends = record {
        early = [];
        early_right = tt;
        unconfirmed_are = refl;
        reached_next = omega arith;
        waiting_are = refl;
        next_offered = omega arith;
      };
      radio = record { no_gap = tt; most = omega arith; all_on_air = λ _. omega arith; packets = tt; carried_are = tt };
      delivered_are = refl;
      done_reached = omega arith;
    };
  },
)
  where
    unfrozen : (q : ℕ) → (set (λ _. no_member) x (new_member false teid) q).flags.frozen ≡ true → ⊥
    unfrozen = put_one (λ _ m. m.flags.frozen ≡ true → ⊥) (λ _. no_member) x (new_member false teid) (λ f. true≢false (sym f))
        (λ _ _ f. true≢false (sym f))

    only : (q : ℕ) → (set (λ _. no_member) x (new_member false teid) q).is_there ≡ true → q ≡ x
    only = put_one (λ q m. m.is_there ≡ true → q ≡ x) (λ _. no_member) x (new_member false teid) (λ _. refl)
        (λ _ _ u. absurd (true≢false (sym u)))
