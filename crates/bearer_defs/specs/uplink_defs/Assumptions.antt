-- What each order asks for. `IsReady` is what the unit tests itself, and what stands where it takes from; `IsAssumed` is what is
-- assumed of control, and what is known of the messages that confirm.
use Rattle.std.specs.Prelude.{◌≡◌, ◌≢◌, ℕ, ◌<◌, true, false, List, [], ◌∷◌, None, ⊤}
use Rattle.pdcp_defs.specs.Senders.{is_reported}
use Rattle.unit_defs.specs.CuUpRecords.{TunnelKind, f1u_uplink, forwarding_up}
use Rattle.unit_defs.specs.CuUpBearers.{is_one_of, no_uplink}
use Rattle.unit_defs.specs.CuUpItems.{first_held, held_as_target}
use Rattle.bearer_defs.specs.uplink_defs.Models.{Item, numbered, end_marker, Source, uplink_tunnel, forwarding, Member, Model, items_at}
use Rattle.bearer_defs.specs.uplink_defs.Orders.{ModelStep, numbers, arrives, carries, acknowledges, reports, makes, adds, freezes, knows, switches, resumes, releases, closes, discards, takes, ends_uplink, ends_hop, is_hop_up_done, after}

abbrev pub kind_of : Source → TunnelKind
kind_of (uplink_tunnel teid) = f1u_uplink
kind_of forwarding = forwarding_up

abbrev pub IsOpen : Member → Source → Type 0
IsOpen m (uplink_tunnel teid) = is_one_of m.bearer.uplinks teid ≡ true
IsOpen m forwarding = ⊤

-- an item stands first on an open tunnel of this context, and isn't held
pub record IsTaken (m : Member) (from : Source) (item : Item) (rest : List Item) : Type 0 where
  pub there : m.is_there ≡ true
  pub open_ : IsOpen m from
  pub stands : items_at m from ≡ item ∷ rest
  pub passes : first_held (held_as_target m.flags (kind_of from) m.bearer) ≡ None

-- this context sends on to that one
abbrev pub Feeds : Member → ℕ → Type 0
Feeds m to = (m.is_there ≡ true) × (m.flags.frozen ≡ true) × (m.next_hop ≡ to)

abbrev pub IsUnfed : Model → ℕ → Type 0
IsUnfed s y = (x : ℕ) → Feeds (s.members x) y → ⊥

-- a target that nothing has come to yet
pub record IsUntouched (m : Member) : Type 0 where
  pub target : m.flags.target ≡ true
  pub ended : m.bearer.up_ended ≡ false
  pub status : m.flags.may_serve ≡ false
  pub arrived : m.flags.arrived ≡ false
  pub released : m.flags.released ≡ false
  pub forwarded : m.forwarded ≡ []

-- no End Marker stands there
unfoldable pub NoEnd : List Item → Type 0
NoEnd [] = ⊤
NoEnd (numbered count packet ∷ items) = NoEnd items
NoEnd (end_marker ∷ items) = ⊥

unfoldable pub IsReady : Model → ModelStep → Type 0
IsReady s (numbers packet rest) = (s.connected ≡ true) × (s.terminal.waiting ≡ packet ∷ rest)
IsReady s (carries teid count packet rest) = s.air ≡ (count, packet) ∷ rest
IsReady s (acknowledges count rest) = s.carried ≡ count ∷ rest
IsReady s (makes x teid) = (s.members x).is_there ≡ false
IsReady s (freezes x to hop) = let m = s.members x in (m.flags.may_serve ≡ true) × (m.flags.arrived ≡ true)
IsReady s (knows x status) = (s.members x).flags.may_serve ≡ false
IsReady s (closes x) =
    let m = s.members x in
    (m.flags.released ≡ true) × (no_uplink m.bearer.uplinks ≡ true) × (is_hop_up_done m.flags m.bearer ≡ true)
IsReady s (takes x from count packet rest) = IsTaken (s.members x) from (numbered count packet) rest
IsReady s (ends_uplink x teid rest) = IsTaken (s.members x) (uplink_tunnel teid) end_marker rest
IsReady s (ends_hop x rest) = IsTaken (s.members x) forwarding end_marker rest
IsReady s o = ⊤

unfoldable pub IsAssumed : Model → ModelStep → Type 0
-- the station sends on to this context
IsAssumed s (arrives x) = Feeds (s.members s.station) x × ((s.members x).is_there ≡ true)
-- the home DU's tunnel ends at the station, and the DU has not ended it
IsAssumed s (carries teid count packet rest) = IsOpen (s.members s.station) (uplink_tunnel teid) × NoEnd ((s.members s.station).uplink teid)
-- what a report confirms was carried up
IsAssumed s (reports fmc bits) = (i : ℕ) → is_reported fmc bits i ≡ true → i < s.reached
-- a new number, which no hop leads to
IsAssumed s (makes x teid) = IsUnfed s x
IsAssumed s (adds x teid) = (s.members x).flags.frozen ≡ false
IsAssumed s (freezes x to hop) = (x ≡ s.station) × IsUntouched (s.members to) × IsUnfed s to
IsAssumed s (knows x status) = status.ul_first ≡ (s.members x).promised
IsAssumed s (switches x) = x ≡ s.station
IsAssumed s (resumes x) = x ≡ s.station
IsAssumed s (releases x) = ((s.members x).flags.frozen ≡ true) × (x ≢ s.station)
-- a target that the terminal never came to
IsAssumed s (discards x) = ((s.members x).flags.arrived ≡ false) × (x ≢ s.station)
IsAssumed s o = ⊤

unfoldable pub AreKept : Model → List ModelStep → Type 0
AreKept s [] = ⊤
AreKept s (o ∷ os) = IsReady s o × IsAssumed s o × AreKept (after s o) os
