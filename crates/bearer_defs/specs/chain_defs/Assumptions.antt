-- What each order asks for. `IsReady` is what the unit tests itself, and what stands where it takes from; `IsAssumed` is what is
-- assumed of control, and what is known of the messages that confirm.
use Rattle.std.specs.Prelude.{◌≡◌, ◌≢◌, ℕ, ◌<◌, ◌≤◌, true, false, List, [], ◌∷◌, None, is_some, ⊤}
use Rattle.gnb_types.specs.declared.names.SnBits.{SnBits}
use Rattle.pdcp_defs.specs.Senders.{has_room, may_restore}
use Rattle.unit_defs.specs.CuUpRecords.{TunnelKind, n3, forwarding_down}
use Rattle.unit_defs.specs.CuUpItems.{first_held, held_as_target}
use Rattle.bearer_defs.specs.chain_defs.Models.{Item, numbered, fresh, end_marker, Member, Model, is_open}
use Rattle.bearer_defs.specs.chain_defs.Orders.{ModelStep, offers, switches_path, makes, freezes, knows, switches, resumes, releases, closes, arrives, fails, keeps_n3, keeps_fresh, passes_n3, passes_fresh, sends, passes_numbered, drops, ends_n3, ends_hop, numbers, confirms, reports, reports_loss, sends_again, carries, after}

-- an item stands first on a tunnel of this context, and isn't held
pub record IsTaken (kind : TunnelKind) (items : List Item) (m : Member) (item : Item) (rest : List Item) : Type 0 where
  pub there : m.is_there ≡ true
  pub stands : items ≡ item ∷ rest
  pub passes : first_held (held_as_target m.flags kind m.bearer) ≡ None

abbrev pub OnN3 : Member → Item → List Item → Type 0
OnN3 m item rest = (is_open m.bearer.n3 ≡ true) × IsTaken n3 m.n3 m item rest

abbrev pub OnForwarding : Member → Item → List Item → Type 0
OnForwarding m item rest = IsTaken forwarding_down m.forwarded m item rest

-- this context sends on to that one
abbrev pub Feeds : Member → ℕ → Type 0
Feeds m to = (m.is_there ≡ true) × (m.flags.frozen ≡ true) × (is_open m.bearer.n3 ≡ true) × (m.next_hop ≡ to)

abbrev pub IsUnfed : Model → ℕ → Type 0
IsUnfed s y = (x : ℕ) → Feeds (s.members x) y → ⊥

-- a target that nothing has come to yet
pub record IsUntouched (m : Member) : Type 0 where
  pub there : m.is_there ≡ true
  pub target : m.flags.target ≡ true
  pub ended : m.bearer.down_ended ≡ false
  pub status : m.flags.may_serve ≡ false
  pub frozen : m.flags.frozen ≡ false
  pub open_ : is_open m.bearer.n3 ≡ true
  pub unconfirmed : m.bearer.sender.unconfirmed ≡ []
  pub waiting : m.bearer.waiting ≡ []
  pub n3 : m.n3 ≡ []
  pub forwarded : m.forwarded ≡ []

module _ (sn : SnBits) (quota : ℕ) where
  unfoldable pub IsReady : Model → ModelStep → Type 0
  IsReady s (offers packet) = ⊤
  IsReady s (switches_path to) = ⊤
  IsReady s (makes x target teid) = (s.members x).is_there ≡ false
  IsReady s (freezes x to hop) = let m = s.members x in (m.is_there ≡ true) × (m.flags.may_serve ≡ true) × (m.flags.frozen ≡ false)
  IsReady s (knows x status) = let m = s.members x in (m.is_there ≡ true) × (m.flags.may_serve ≡ false)
  IsReady s (switches x downlink epoch) = (s.members x).is_there ≡ true
  IsReady s (resumes x) = let m = s.members x in (m.is_there ≡ true) × (m.flags.frozen ≡ true)
  IsReady s (releases x) = (s.members x).is_there ≡ true
  IsReady s (closes x) = ⊤
  IsReady s (arrives x) = ⊤
  IsReady s fails = ⊤
  IsReady s (keeps_n3 x packet rest) = let m = s.members x in OnN3 m (fresh packet) rest × (m.flags.frozen ≡ false)
  IsReady s (keeps_fresh x packet rest) = let m = s.members x in OnForwarding m (fresh packet) rest × (m.flags.frozen ≡ false)
  IsReady s (passes_n3 x packet rest) = let m = s.members x in OnN3 m (fresh packet) rest × (m.flags.frozen ≡ true)
  IsReady s (passes_fresh x packet rest) = let m = s.members x in OnForwarding m (fresh packet) rest × (m.flags.frozen ≡ true)
  IsReady s (sends x count packet rest) =
      let m = s.members x in
      OnForwarding m (numbered count packet) rest × (m.flags.frozen ≡ false) × (may_restore sn quota m.bearer.sender count ≡ true)
  IsReady s (passes_numbered x count packet rest) =
      let m = s.members x in
      OnForwarding m (numbered count packet) rest × (m.flags.frozen ≡ true)
  IsReady s (drops x count packet rest) =
      let m = s.members x in
      OnForwarding m (numbered count packet) rest × (m.flags.released ≡ false) × (may_restore sn quota m.bearer.sender count ≡ false)
  IsReady s (ends_n3 x rest) = let m = s.members x in OnN3 m end_marker rest × (is_some m.bearer.hop ≡ true)
  IsReady s (ends_hop x rest) = OnForwarding (s.members x) end_marker rest
  IsReady s (numbers x packet rest) =
      let m = s.members x in
      (m.is_there ≡ true) × (m.flags.may_serve ≡ true) × (m.flags.frozen ≡ false) × (m.bearer.waiting ≡ packet ∷ rest)
      × (has_room sn quota m.bearer.sender ≡ true)
  IsReady s (confirms x count) = (s.members x).is_there ≡ true
  IsReady s (reports x fmc bits) = (s.members x).is_there ≡ true
  IsReady s (reports_loss x) = (s.members x).is_there ≡ true
  IsReady s (sends_again x) = let m = s.members x in (m.is_there ≡ true) × (m.flags.frozen ≡ false)
  IsReady s (carries count packet rest) = s.air ≡ (count, packet) ∷ rest

unfoldable pub IsAssumed : Model → ModelStep → Type 0
-- the context that the terminal is at, after the one that feeds it
IsAssumed s (switches_path to) = let m = s.members s.path in (to ≡ s.station) × (m.flags.frozen ≡ true) × (m.next_hop ≡ to)
-- a new number, which no hop leads to
IsAssumed s (makes x target teid) = IsUnfed s x
IsAssumed s (freezes x to hop) = (x ≡ s.station) × (to ≢ s.path) × IsUntouched (s.members to) × IsUnfed s to
IsAssumed s (knows x status) = status.dl_next ≡ (s.members x).promised
IsAssumed s (switches x downlink epoch) = (x ≡ s.station) × (epoch ≤ s.epoch)
IsAssumed s (resumes x) = x ≡ s.station
IsAssumed s (releases x) = ((s.members x).flags.frozen ≡ true) × (x ≢ s.station)
-- where N3 has ended there, this follows
IsAssumed s (closes x) = is_open (s.members x).bearer.n3 ≡ true → (x ≢ s.station) × (x ≢ s.path)
IsAssumed s (arrives x) = let m = s.members s.station in (m.flags.frozen ≡ true) × (m.next_hop ≡ x) × ((s.members x).is_there ≡ true) ×
    ((s.members x).flags.frozen ≡ false)
-- what is confirmed was received
IsAssumed s (confirms x count) = count < s.terminal.deliv
IsAssumed s (reports x fmc bits) = (fmc ≤ s.terminal.deliv) × (bits ≡ [])
IsAssumed s o = ⊤

unfoldable pub AreKept : SnBits → ℕ → Model → List ModelStep → Type 0
AreKept sn quota s [] = ⊤
AreKept sn quota s (o ∷ os) = IsReady sn quota s o × IsAssumed s o × AreKept sn quota (after s o) os
