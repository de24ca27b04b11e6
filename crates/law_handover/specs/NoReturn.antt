-- The point of no return: a terminal that was told to leave its DU (TS 38.300, 9.2.3.2). From there the DU serves it again by the
-- terminal's own return alone.
use Rattle.std.specs.Prelude.{◌≡◌, ◌&&◌, ◌⊎◌, Bool, false, Option, Some, None}
use Rattle.gnb_types.specs.declared.names.NodeId.{NodeId}
use Rattle.message_types.specs.declared.rrc.Token.{Token}
use Rattle.message_types.specs.declared.rrc.Token.TheVariants as tokens
use Rattle.unit_defs.specs.declared.StateName.TheVariants.{Commanded, Completing}
use Rattle.unit_defs.specs.declared.AttemptKind.{AttemptKind}
use Rattle.unit_defs.specs.Ways.{Way}
use Rattle.unit_defs.specs.CuCpRecords.{Attempt, CuCpContext, CuCpTerminal, attempted, same_node, Row, row, row_spent}
use Rattle.unit_defs.specs.CuCpRows.{CuCpScope, own_du}
use Rattle.unit_defs.specs.CuCp.{is_epoch}

-- any context in state Commanded of an attempt of this kind, and a terminal with it
abbrev pub away_attempt : AttemptKind → Attempt → Attempt
away_attempt kind a = record a { kind = kind }

abbrev pub away_context : AttemptKind → CuCpContext → Attempt → CuCpContext
away_context kind c a = attempted c Commanded (away_attempt kind a)

abbrev pub away : AttemptKind → CuCpTerminal → CuCpContext → Attempt → CuCpTerminal
away kind t c a = record t { context = Some (away_context kind c a) }

-- between gNBs: after the row the terminal is still away, or is let go
abbrev pub IsAway : Option CuCpContext → Type 0
IsAway None = ⊥
IsAway (Some c) = (c.state ≡ Commanded) ⊎ (c.state ≡ Completing)

abbrev pub StaysAway : {C : Type 0} → Row C → Type 0
StaysAway (row says after) = IsAway after.context
StaysAway (row_spent counter) = ⊥

-- between DUs: it is still away, or is at the target DU
abbrev pub HasLeft : Attempt → Option CuCpContext → Type 0
HasLeft a None = ⊥
HasLeft a (Some c) = (c.state ≡ Commanded) ⊎ (c.du ≡ a.du)

abbrev pub LeavesDu : {C : Type 0} → Attempt → Row C → Type 0
LeavesDu a (row says after) = HasLeft a after.context
LeavesDu a (row_spent counter) = ⊥

-- the terminal asks its serving DU for re-establishment, with the epoch after the one that was accepted last
abbrev pub is_return : {M C P : Type 0} → Way M C P → CuCpScope → NodeId → CuCpContext → Token → Bool
is_return way at from c (tokens.Reestablish ue epoch) = is_epoch way c.epoch 1 epoch && same_node from (own_du at c.du)
is_return way at from c token = false
