-- What holds of one bearer's uplink in every run. What was offered is a function p. A packet that was carried up was delivered, or
-- stands on the way: on a tunnel of a context that the terminal was at, or stored where it is.
use Rattle.std.specs.Prelude.{◌≡◌, ◌≢◌, ◌⊎◌, ℕ, ◌+◌, ◌<◌, ◌≤◌, Bool, true, false, List, [], ◌++◌, Option, Some, None}
use Rattle.std.specs.List.{AllByRecursion}
use Rattle.unit_defs.specs.CuUpRecords.{SourceHop}
use Rattle.unit_defs.specs.CuUpBearers.{no_uplink}
use Rattle.intervals.specs.Intervals.{upto, HasNoGap, reach}
use Rattle.law_downlink_order.proofs.chain.Facts.{pairs}
use Rattle.bearer_defs.specs.uplink_defs.Models.{Item, Member, Model}
use Rattle.bearer_defs.specs.uplink_defs.Orders.{is_hop_up_done}
use Rattle.bearer_defs.specs.uplink_defs.Assumptions.{Feeds, NoEnd}
use Rattle.bearer_defs.specs.uplink_defs.Places.{has, Stands, IsAt}
use Rattle.law_uplink_order.proofs.facts.Items.{IsRight, IsRightItem, NoData, EndsLast}
use Rattle.law_uplink_order.proofs.facts.Receivers.{Rises}

-- Of a context: its place in the order in which the terminal came to them, 0 where it never was; and who feeds it.
pub record Ghost : Type 0 where
  pub rank : ℕ
  pub from : ℕ

-- of the model, what the facts of a context are about: how many packets were delivered, and were carried up
pub record View : Type 0 where
  pub station : ℕ
  pub done : ℕ
  pub reached : ℕ

abbrev pub view : Model → ℕ → View
view s done = record { station = s.station; done = done; reached = s.reached }

-- the End Marker was put on the tunnel to the target
abbrev pub is_ended : Option SourceHop → Bool
is_ended None = false
is_ended (Some hop) = hop.up_ended

-- ---- a context by itself

pub record Tunnels (p : ℕ → List ℕ) (reached : ℕ) (uplink : ℕ → List Item) (forwarded : List Item) (is_done : Bool) : Type 0 where
  pub uplink_right : (teid : ℕ) → AllByRecursion (IsRightItem p reached) (uplink teid)
  pub uplink_last : (teid : ℕ) → EndsLast (uplink teid)
  pub right : AllByRecursion (IsRightItem p reached) forwarded
  pub last : EndsLast forwarded
  pub over : is_done ≡ true → NoData forwarded

pub record Holds (p : ℕ → List ℕ) (reached : ℕ) (is_frozen is_released is_known : Bool) (deliv : ℕ) (stored : List (ℕ × List ℕ)) : Type 0 where
  pub right : AllByRecursion (IsRight p reached) stored
  pub rises : Rises deliv stored
  pub handed_up : is_frozen ≡ false → Rises (deliv + 1) stored
  pub given_up : is_released ≡ true → stored ≡ []
  pub unknown : is_known ≡ false → stored ≡ []

pub record Flags (is_frozen is_released is_known has_arrived : Bool) (hop : Option SourceHop) (no_uplinks is_done : Bool) (rank : ℕ) : Type 0 where
  pub served : is_frozen ≡ true → (is_known ≡ true) × (has_arrived ≡ true)
  pub leads : is_released ≡ true → is_frozen ≡ true
  pub thawed : is_frozen ≡ false → hop ≡ None
  pub ended : is_ended hop ≡ true → (no_uplinks ≡ true) × (is_done ≡ true)
  pub was_there : has_arrived ≡ true → 0 < rank

-- a context that the terminal was at has handed over, or is the one that it is at
pub record Placed (station done q : ℕ) (is_frozen is_known : Bool) (deliv rank : ℕ) : Type 0 where
  pub frozen : 0 < rank → q ≢ station → is_frozen ≡ true
  pub behind : 0 < rank → is_known ≡ true → deliv ≤ done

pub record Own (p : ℕ → List ℕ) (b : View) (q : ℕ) (m : Member) (rank : ℕ) : Type 0 where
  pub tunnels : Tunnels p b.reached m.uplink m.forwarded (is_hop_up_done m.flags m.bearer)
  pub holds : Holds p b.reached m.flags.frozen m.flags.released m.flags.may_serve m.bearer.receiver.deliv m.bearer.receiver.stored
  pub flags : Flags m.flags.frozen m.flags.released m.flags.may_serve m.flags.arrived m.bearer.hop (no_uplink m.bearer.uplinks)
      (is_hop_up_done m.flags m.bearer) rank
  pub placed : Placed b.station b.done q m.flags.frozen m.flags.may_serve m.bearer.receiver.deliv rank

pub record IsStation (is_there is_released is_known : Bool) (deliv promised rank done : ℕ) : Type 0 where
  pub there : is_there ≡ true
  pub keeps : is_released ≡ false
  pub ranks : 0 < rank
  pub known : is_known ≡ true → deliv ≡ done
  pub unknown : is_known ≡ false → promised ≡ done

abbrev pub StationIs : ℕ → Member → ℕ → Type 0
StationIs done m rank = IsStation m.is_there m.flags.released m.flags.may_serve m.bearer.receiver.deliv m.promised rank done

pub record MemberInvariant (p : ℕ → List ℕ) (b : View) (q : ℕ) (m : Member) (rank : ℕ) : Type 0 where
  pub own : m.is_there ≡ true → Own p b q m rank
  pub station : q ≡ b.station → StationIs b.done m rank

-- ---- one context feeds another

-- what the two see of each other
pub record Out : Type 0 where
  pub ended : Bool
  pub rank : ℕ
  pub stored : List (ℕ × List ℕ)

abbrev pub out : Member → Ghost → Out
out m g = record { ended = is_ended m.bearer.hop; rank = g.rank; stored = m.bearer.receiver.stored }

pub record In : Type 0 where
  pub from : ℕ
  pub rank : ℕ
  pub target : Bool
  pub arrived : Bool
  pub released : Bool
  pub known : Bool
  pub up_ended : Bool
  pub deliv : ℕ
  pub promised : ℕ
  pub forwarded : List Item

abbrev pub into : Member → Ghost → In
into m g = record {
  from = g.from;
  rank = g.rank;
  target = m.flags.target;
  arrived = m.flags.arrived;
  released = m.flags.released;
  known = m.flags.may_serve;
  up_ended = m.bearer.up_ended;
  deliv = m.bearer.receiver.deliv;
  promised = m.promised;
  forwarded = m.forwarded;
}

-- a target that the terminal has not come to: it goes on where delivery stands, and all that its source stores was forwarded to it
pub record Ahead (done : ℕ) (stored : List (ℕ × List ℕ)) (i : In) : Type 0 where
  pub ranks : i.rank ≡ 0
  pub arrived : i.arrived ≡ false
  pub keeps : i.released ≡ false
  pub known : i.known ≡ true → i.deliv ≡ done
  pub unknown : i.known ≡ false → i.promised ≡ done
  pub forwarded : (j : ℕ) → has stored j ≡ true → Stands j i.forwarded

pub record Link (station done x : ℕ) (o : Out) (y : ℕ) (i : In) : Type 0 where
  pub from : i.from ≡ x
  pub other : y ≢ x
  pub target : i.target ≡ true
  pub open_ : o.ended ≡ false → (i.up_ended ≡ false) × NoEnd i.forwarded
  pub onward : x ≢ station → o.rank < i.rank
  pub ahead : x ≡ station → Ahead done o.stored i

pub record Linked (b : View) (x : ℕ) (m : Member) (g : Ghost) (y : ℕ) (t : Member) (h : Ghost) : Type 0 where
  pub link : Feeds m y → t.is_there ≡ true → Link b.station b.done x (out m g) y (into t h)
  -- and until its hop has ended, the next one is there
  pub lives : m.is_there ≡ true → 0 < g.rank → x ≢ b.station → is_ended m.bearer.hop ≡ false → m.next_hop ≡ y → t.is_there ≡ true

-- ---- what is on its way

-- it was delivered, or stands at a context from this rank on
unfoldable pub Beyond : View → (ℕ → Member) → (ℕ → Ghost) → ℕ → ℕ → Type 0
Beyond b cs g n i = (i < b.done) ⊎ ((r : ℕ) × (n ≤ (g r).rank) × IsAt b.station r (cs r) i)

-- what a context stores that the terminal has left stands further on
unfoldable pub Passed : View → (ℕ → Member) → (ℕ → Ghost) → ℕ → Member → ℕ → Type 0
Passed b cs g q m rank = m.is_there ≡ true → 0 < rank → q ≢ b.station → (i : ℕ) → has m.bearer.receiver.stored i ≡ true
    → Beyond b cs g (rank + 1) i

-- ---- the terminal and its radio

pub record Sends (p : ℕ → List ℕ) (reached next offered : ℕ) (unconfirmed : List (ℕ × List ℕ)) (waiting : List (List ℕ)) : Type 0 where
  -- of what was carried up, that which nothing confirmed
  pub early : List (ℕ × List ℕ)
  pub early_right : AllByRecursion (IsRight p reached) early
  pub unconfirmed_are : unconfirmed ≡ early ++ upto (pairs p) reached next
  pub reached_next : reached ≤ next
  pub waiting_are : waiting ≡ upto p next offered
  pub next_offered : next ≤ offered

pub record Radio (p : ℕ → List ℕ) (reached next : ℕ) (is_connected : Bool) (air : List (ℕ × List ℕ)) (carried : List ℕ) : Type 0 where
  pub no_gap : HasNoGap reached air
  pub most : reach reached air ≤ next
  pub all_on_air : is_connected ≡ true → next ≤ reach reached air
  pub packets : AllByRecursion (λ (e : ℕ × List ℕ). e.1 ≡ p e.0) air
  pub carried_are : AllByRecursion (λ (c : ℕ). c < reached) carried

pub record Terminal (p : ℕ → List ℕ) (s : Model) (done : ℕ) : Type 0 where
  pub sends : Sends p s.reached s.terminal.sender.next s.offered s.terminal.sender.unconfirmed s.terminal.waiting
  pub radio : Radio p s.reached s.terminal.sender.next s.connected s.air s.carried
  pub delivered_are : s.delivered ≡ upto (pairs p) 0 done
  pub done_reached : done ≤ s.reached

pub record Kept (p : ℕ → List ℕ) (s : Model) (done : ℕ) (g : ℕ → Ghost) : Type 0 where
  pub each : (q : ℕ) → MemberInvariant p (view s done) q (s.members q) (g q).rank
  pub links : (x y : ℕ) → Linked (view s done) x (s.members x) (g x) y (s.members y) (g y)
  pub net : (i : ℕ) → i < s.reached → Beyond (view s done) s.members g 1 i
  pub passed : (q : ℕ) → Passed (view s done) s.members g q (s.members q) (g q).rank
  pub terminal : Terminal p s done

abbrev pub Good : (ℕ → List ℕ) → Model → Type 0
Good p s = (done : ℕ) × (g : ℕ → Ghost) × Kept p s done g
