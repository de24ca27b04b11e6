-- What holds of one bearer's downlink in every run. What was offered is a function p; every list of the downlink is an interval
-- of it, and its ends are ghost numbers that the run doesn't have.
use Rattle.std.specs.Prelude.{◌≡◌, ◌≢◌, ℕ, ◌+◌, ◌<◌, ◌≤◌, Bool, true, false, List, [], is_some}
use Rattle.std.specs.List.{AllByRecursion}
use Rattle.intervals.specs.Intervals.{upto, HasNoGap, reach}
use Rattle.bearer_defs.specs.chain_defs.Models.{Item, Member, Model, is_open, is_fed}
use Rattle.bearer_defs.specs.chain_defs.Assumptions.{Feeds}
use Rattle.law_downlink_order.proofs.chain.Tunnels.{flow, shape}

pub record Ghost : Type 0 where
  -- unconfirmed: from low up to held; of these all below sent were put on the radio
  pub low : ℕ
  pub held : ℕ
  pub sent : ℕ
  -- its own COUNTs begin at base; what waits: from next up to top
  pub base : ℕ
  pub next : ℕ
  pub top : ℕ
  -- its forwarding tunnel: with COUNTs from held up to hop_held, without from top up to hop_top
  pub hop_held : ℕ
  pub hop_top : ℕ
  pub n3_low : ℕ
  pub n3_high : ℕ
  -- who feeds it
  pub from : ℕ
  -- the End Marker was put on its forwarding tunnel, and on its N3
  pub ended : Bool
  pub gone : Bool
  -- the path came to it
  pub pathed : Bool

-- of the model, what the facts of a context are about
pub record View : Type 0 where
  pub path : ℕ
  pub station : ℕ
  pub epoch : ℕ
  pub offered : ℕ
  pub deliv : ℕ
  pub reached : ℕ

abbrev pub view : Model → View
view s = record {
  path = s.path;
  station = s.station;
  epoch = s.epoch;
  offered = s.offered;
  deliv = s.terminal.deliv;
  reached = reach s.terminal.deliv s.air;
}

-- a packet with its place
abbrev pub pairs : (ℕ → List ℕ) → ℕ → ℕ × List ℕ
pairs p = λ i. (i, p i)

pub record Lists (p : ℕ → List ℕ) (is_released is_frozen : Bool) (unconfirmed : List (ℕ × List ℕ)) (taken : List ℕ)
    (waiting : List (List ℕ))
    (low held sent next top : ℕ) : Type 0 where
  pub unconfirmed_are : is_released ≡ false → unconfirmed ≡ upto (pairs p) low held
  pub taken_are : is_released ≡ false → is_frozen ≡ true → taken ≡ upto (λ i. i) sent held
  pub waiting_are : is_released ≡ false → waiting ≡ upto p next top

-- with its SN status, or while it awaits one
pub record Status (is_known : Bool) (number promised dl_next : ℕ) (low held base next : ℕ) : Type 0 where
  pub next_is : is_known ≡ true → number ≡ next
  pub base_is : is_known ≡ true → dl_next ≡ base
  pub promised_is : is_known ≡ false → promised ≡ next
  pub early : is_known ≡ false → held ≡ low
  pub early_base : is_known ≡ false → next ≡ base

pub record IsFed (p : ℕ → List ℕ) (offered : ℕ) (xs : List Item) (held base top hop_held hop_top n3_low : ℕ) (ended : Bool) : Type 0 where
  pub items : xs ≡ shape p held hop_held top hop_top ended
  pub held_base : hop_held ≤ base
  pub to_come : hop_held < base → held ≤ hop_held
  pub all_come : base < hop_top → hop_held ≡ base
  pub top_hop : top ≤ hop_top
  pub hop_offered : hop_top ≤ offered
  pub at_end : ended ≡ true → (hop_held ≡ base) × (n3_low ≡ hop_top)

pub record IsN3 (p : ℕ → List ℕ) (offered : ℕ) (xs : List Item) (n3_low n3_high : ℕ) (gone : Bool) : Type 0 where
  pub items : xs ≡ flow p n3_low n3_high gone
  pub ordered : n3_low ≤ n3_high
  pub offered_all : n3_high ≤ offered

-- of the ghost numbers, those that its tunnels are about
pub record Ends : Type 0 where
  pub held : ℕ
  pub base : ℕ
  pub top : ℕ
  pub hop_held : ℕ
  pub hop_top : ℕ
  pub n3_low : ℕ
  pub n3_high : ℕ
  pub ended : Bool
  pub gone : Bool

abbrev pub ends_of : Ghost → Ends
ends_of g = record {
  held = g.held;
  base = g.base;
  top = g.top;
  hop_held = g.hop_held;
  hop_top = g.hop_top;
  n3_low = g.n3_low;
  n3_high = g.n3_high;
  ended = g.ended;
  gone = g.gone;
}

-- N3 is read only once the hop from the source has ended
pub record Tunnels (p : ℕ → List ℕ) (offered : ℕ) (fed open_ : Bool) (forwarded n3 : List Item) (g : Ends) : Type 0 where
  pub is_fed : fed ≡ true → IsFed p offered forwarded g.held g.base g.top g.hop_held g.hop_top g.n3_low g.ended
  pub is_n3 : open_ ≡ true → IsN3 p offered n3 g.n3_low g.n3_high g.gone
  pub fed_open : fed ≡ true → open_ ≡ true
  pub shut : fed ≡ false → (g.base ≤ g.held) × (forwarded ≡ [])
  pub shut_n3 : fed ≡ false → open_ ≡ true → g.n3_low ≡ g.top
  pub closed : open_ ≡ false → g.gone ≡ true

pub record Flags (is_frozen is_released has_hop : Bool) (sent held : ℕ) (gone : Bool) : Type 0 where
  pub serves : is_frozen ≡ false → (is_released ≡ false) × (sent ≡ held)
  pub leads : is_frozen ≡ true → has_hop ≡ true
  pub gone_frozen : gone ≡ true → is_frozen ≡ true

pub record Spoken (epoch now sent reached : ℕ) : Type 0 where
  pub spoke : epoch ≤ now
  pub spoken : epoch ≡ now → sent ≤ reached

pub record Numbers (w offered deliv low held sent base next top : ℕ) : Type 0 where
  pub low_held : low ≤ held
  pub held_next : held ≤ next
  pub next_top : next ≤ top
  pub top_offered : top ≤ offered
  pub low_deliv : low ≤ deliv
  pub sent_held : sent ≤ held
  pub base_next : base ≤ next
  pub window : next ≤ low + w
  pub none_waits : held < base → top ≡ base
  pub all_held : base ≤ held → held ≡ next

pub record Own (p : ℕ → List ℕ) (w : ℕ) (b : View) (m : Member) (g : Ghost) : Type 0 where
  pub lists : Lists p m.flags.released m.flags.frozen m.bearer.sender.unconfirmed m.bearer.taken_while_frozen m.bearer.waiting g.low
      g.held g.sent g.next g.top
  pub status : Status m.flags.may_serve m.bearer.sender.next m.promised m.bearer.dl_next g.low g.held g.base g.next
  pub tunnels : Tunnels p b.offered (is_fed m) (is_open m.bearer.n3) m.forwarded m.n3 (ends_of g)
  pub flags : Flags m.flags.frozen m.flags.released (is_some m.bearer.hop) g.sent g.held g.gone
  pub spoken : Spoken m.epoch b.epoch g.sent b.reached
  pub numbers : Numbers w b.offered b.deliv g.low g.held g.sent g.base g.next g.top

pub record IsPath (there open_ : Bool) (offered n3_high : ℕ) (gone pathed : Bool) : Type 0 where
  pub is_there : there ≡ true
  pub is_open : open_ ≡ true
  pub is_last : n3_high ≡ offered
  pub is_not_gone : gone ≡ false
  pub is_pathed : pathed ≡ true

pub record IsStation (there released : Bool) (gone : Bool) : Type 0 where
  pub is_there : there ≡ true
  pub keeps : released ≡ false
  pub is_not_gone : gone ≡ false

pub record MemberInvariant (p : ℕ → List ℕ) (w : ℕ) (b : View) (q : ℕ) (m : Member) (g : Ghost) : Type 0 where
  pub own : m.is_there ≡ true → Own p w b m g
  pub path : q ≡ b.path → IsPath m.is_there (is_open m.bearer.n3) b.offered g.n3_high g.gone g.pathed
  pub station : q ≡ b.station → IsStation m.is_there m.flags.released g.gone

-- ---- one context feeds another

pub record Out : Type 0 where
  pub held : ℕ
  pub top : ℕ
  pub next : ℕ
  pub n3_high : ℕ
  pub gone : Bool

abbrev pub out : Ghost → Out
out g = record { held = g.held; top = g.top; next = g.next; n3_high = g.n3_high; gone = g.gone }

pub record In : Type 0 where
  pub fed : Bool
  pub from : ℕ
  pub base : ℕ
  pub hop_held : ℕ
  pub hop_top : ℕ
  pub n3_low : ℕ
  pub n3_high : ℕ
  pub ended : Bool
  pub gone : Bool
  pub pathed : Bool

abbrev pub into : Member → Ghost → In
into m g = record {
  fed = is_fed m;
  from = g.from;
  base = g.base;
  hop_held = g.hop_held;
  hop_top = g.hop_top;
  n3_low = g.n3_low;
  n3_high = g.n3_high;
  ended = g.ended;
  gone = g.gone;
  pathed = g.pathed;
}

pub record Link (x : ℕ) (o : Out) (y : ℕ) (i : In) : Type 0 where
  pub from : i.from ≡ x
  pub other : y ≢ x
  pub open_ : i.fed ≡ true
  pub ended : i.ended ≡ false
  pub held : i.hop_held ≡ o.held
  pub top : i.hop_top ≡ o.top
  pub base : i.base ≡ o.next
  pub after : o.gone ≡ true → i.n3_low ≡ o.n3_high
  pub before : o.gone ≡ false → (i.n3_low ≡ i.n3_high) × (i.gone ≡ false) × (i.pathed ≡ false)

abbrev pub Linked : ℕ → Member → Ghost → ℕ → Member → Ghost → Type 0
Linked x m g y t h = Feeds m y → t.is_there ≡ true → Link x (out g) y (into t h)

-- ---- the radio and the terminal

pub record Radio (p : ℕ → List ℕ) (offered deliv : ℕ) (stored air delivered : List (ℕ × List ℕ)) : Type 0 where
  pub no_gap : HasNoGap deliv air
  pub packets : AllByRecursion (λ (e : ℕ × List ℕ). e.1 ≡ p e.0) air
  pub reached_offered : reach deliv air ≤ offered
  pub delivered_are : delivered ≡ upto (pairs p) 0 deliv
  pub none_stored : stored ≡ []

abbrev pub RadioOf : (ℕ → List ℕ) → Model → Type 0
RadioOf p s = Radio p s.offered s.terminal.deliv s.terminal.stored s.air s.delivered

pub record Kept (p : ℕ → List ℕ) (w : ℕ) (s : Model) (g : ℕ → Ghost) : Type 0 where
  pub each : (q : ℕ) → MemberInvariant p w (view s) q (s.members q) (g q)
  pub links : (x y : ℕ) → Linked x (s.members x) (g x) y (s.members y) (g y)
  pub radio : RadioOf p s

abbrev pub Good : (ℕ → List ℕ) → ℕ → Model → Type 0
Good p w s = (g : ℕ → Ghost) × Kept p w s g
