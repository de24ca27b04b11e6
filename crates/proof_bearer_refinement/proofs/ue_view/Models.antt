-- What orders leave of a model, as its terminal shows it.
use Rattle.std.proofs.Common.{ℕ, Bool, true, false, nat_lt, List, [], ◌∷◌, Option, Some, None, refl, ◌∙◌}
use Rattle.std.specs.List.{AllByRecursion}
use Rattle.pdcp_defs.specs.Receivers.{is_duplicate}
use Rattle.unit_defs.specs.CuUpRecords.{SourceHop}
use Rattle.bearer_defs.specs.chain_defs.Models as down_models
use Rattle.bearer_defs.specs.chain_defs.Orders as down
use Rattle.bearer_defs.specs.uplink_defs.Models as up_models
use Rattle.bearer_defs.specs.uplink_defs.Orders as up
use Rattle.bearer_defs.specs.uplink_defs.Orders.{stored_at, new_at, late_at, taken_at, is_up_over, ended_if, ended_at}
use Rattle.law_downlink_order.specs.received_packets.Received.{LeavesRadio}
use Rattle.proof_bearer_refinement.specs.ue_view.Looks.{DownSame, UpSame, LeavesTerminal}

-- ---- down

pub down_then : (d e f : down_models.Model) → DownSame d e → DownSame e f → DownSame d f
down_then d e f a b = record { terminal = b.terminal ∙ a.terminal; epoch = b.epoch ∙ a.epoch }

one_down : (d : down_models.Model) (o : down.ModelStep) → LeavesRadio o → DownSame d (down.after d o)
unfolding down.after
one_down d (down.arrives x) leaves = absurd leaves
one_down d down.fails leaves = absurd leaves
one_down d (down.carries count packet rest) leaves = absurd leaves
one_down d _ leaves = record { terminal = refl; epoch = refl }

pub all_down : (d : down_models.Model) (os : List down.ModelStep) → AllByRecursion LeavesRadio os → DownSame d (down.run d os)
unfolding down.run
all_down d [] leave = record { terminal = refl; epoch = refl }
all_down d (o ∷ os) leave = down_then d (down.after d o) (down.run (down.after d o) os) (one_down d o leave.0) (all_down (down.after d o) os leave.1)

-- ---- up

pub up_then : (u v w : up_models.Model) → UpSame u v → UpSame v w → UpSame u w
up_then u v w a b = record {
  terminal = b.terminal ∙ a.terminal;
  connected = b.connected ∙ a.connected;
  carried = b.carried ∙ a.carried;
  air = b.air ∙ a.air;
}

module _ (u : up_models.Model) (x : ℕ) (m : up_models.Member) where
  stored_same : (count : ℕ) (packet : List ℕ) (t : Bool) → UpSame u (stored_at u x m count packet t)
  stored_same count packet true = record { terminal = refl; connected = refl; carried = refl; air = refl }
  stored_same count packet false = record { terminal = refl; connected = refl; carried = refl; air = refl }

  new_same : (count : ℕ) (packet : List ℕ) (t : Bool) → UpSame u (new_at u x m count packet t)
  new_same count packet true = record { terminal = refl; connected = refl; carried = refl; air = refl }
  new_same count packet false = stored_same count packet m.flags.frozen

  late_same : (count : ℕ) (packet : List ℕ) (t : Bool) → UpSame u (late_at u x m count packet t)
  late_same count packet true = record { terminal = refl; connected = refl; carried = refl; air = refl }
  late_same count packet false = record { terminal = refl; connected = refl; carried = refl; air = refl }

  taken_same : (count : ℕ) (packet : List ℕ) (t : Bool) → UpSame u (taken_at u x m count packet t)
  taken_same count packet true = late_same count packet (nat_lt count m.bearer.receiver.deliv)
  taken_same count packet false = new_same count packet (is_duplicate m.bearer.receiver count)

  if_same : (hop : SourceHop) (t : Bool) → UpSame u (ended_if u x m hop t)
  if_same hop true = record { terminal = refl; connected = refl; carried = refl; air = refl }
  if_same hop false = record { terminal = refl; connected = refl; carried = refl; air = refl }

  ended_same : (o : Option SourceHop) → UpSame u (ended_at u x m o)
  ended_same None = record { terminal = refl; connected = refl; carried = refl; air = refl }
  ended_same (Some hop) = if_same hop (is_up_over m hop)

one_up : (u : up_models.Model) (o : up.ModelStep) → LeavesTerminal o → UpSame u (up.after u o)
unfolding up.after
one_up u (up.offers packet) leaves = absurd leaves
one_up u (up.numbers packet rest) leaves = absurd leaves
one_up u up.connects leaves = absurd leaves
one_up u up.leaves leaves = absurd leaves
one_up u (up.arrives x) leaves = absurd leaves
one_up u (up.carries teid count packet rest) leaves = absurd leaves
one_up u (up.acknowledges count rest) leaves = absurd leaves
one_up u (up.reports fmc bits) leaves = absurd leaves
one_up u (up.takes x from count packet rest) leaves =
    let m : up_models.Member = up_models.with_rest (u.members x) from rest in taken_same u x m count packet m.flags.released
one_up u (up.ends_uplink x teid rest) leaves =
    let m : up_models.Member = up.without_uplink (up_models.with_rest (u.members x) (up_models.uplink_tunnel teid) rest) teid in ended_same u x m m.bearer.hop
one_up u (up.ends_hop x rest) leaves =
    let m : up_models.Member = up_models.with_rest (u.members x) up_models.forwarding rest in
    ended_same u x (record m { bearer = record m.bearer { up_ended = true } }) m.bearer.hop
one_up u _ leaves = record { terminal = refl; connected = refl; carried = refl; air = refl }

pub all_up : (u : up_models.Model) (os : List up.ModelStep) → AllByRecursion LeavesTerminal os → UpSame u (up.run u os)
unfolding up.run
all_up u [] leave = record { terminal = refl; connected = refl; carried = refl; air = refl }
all_up u (o ∷ os) leave = up_then u (up.after u o) (up.run (up.after u o) os) (one_up u o leave.0) (all_up (up.after u o) os leave.1)
