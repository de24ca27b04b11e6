-- The end of a hop at its target (TS 38.300, 9.2.3.2.3; TS 38.423, 8.2.2), and how it is one of the procedure tables.
use Rattle.std.specs.Prelude.{ℕ, Bool, true, false, is_some, Option, Some, None, Result, Ok, Err, if◌then◌else◌, unwrap_or}
use Rattle.gnb_types.specs.declared.names.Dir.{Dir}
use Rattle.gnb_types.specs.declared.names.Dir.TheVariants.{Dl, Ul}
use Rattle.gnb_types.specs.declared.names.SnBits.{SnBits}
use Rattle.gnb_types.specs.declared.reasons.HeldReason.{HeldReason}
use Rattle.pdcp_defs.specs.Counts.{count_below}
use Rattle.unit_defs.specs.CuUpRecords.{CuUpFlags, CuUpBearer, TunnelKind, n3, f1u_uplink, forwarding_down, forwarding_up}
use Rattle.unit_defs.specs.CuUpBearers.{made}
use Rattle.forwarding.specs.declared.target.TunnelKind.{TunnelKind as Kind}
use Rattle.forwarding.specs.declared.target.TunnelKind.TheVariants as kinds
use Rattle.forwarding.specs.declared.error.HopError.{HopError}
use Rattle.forwarding.specs.declared.error.HopError.TheVariants.{NoStatus, EndSeen, BelowZero}

-- The length of its numbers; the next COUNT that the source would have given, once the SN status was taken; whether the terminal
-- arrived; and which directions have ended.
pub record TargetEnd : Type 0 where
  pub sn : SnBits
  pub dl_next : Option ℕ
  pub arrived : Bool
  pub down_ended : Bool
  pub up_ended : Bool

abbrev pub target_end : SnBits → Option ℕ → Bool → Bool → Bool → TargetEnd
target_end sn dl_next arrived down_ended up_ended =
    record { sn = sn; dl_next = dl_next; arrived = arrived; down_ended = down_ended; up_ended = up_ended }

abbrev pub target : SnBits → TargetEnd
target sn = target_end sn None false false false

-- ---- a bearer of the procedure tables with this hop, and the flags of its context

abbrev pub flags_of : TargetEnd → CuUpFlags
flags_of t = record { target = true; may_serve = is_some t.dl_next; arrived = t.arrived; frozen = false; released = false }

abbrev pub bearer_of : TargetEnd → CuUpBearer
bearer_of t = record (made true 1) { dl_next = unwrap_or t.dl_next 0; down_ended = t.down_ended; up_ended = t.up_ended }

abbrev pub kind_of : Kind → TunnelKind
kind_of kinds.N3 = n3
kind_of kinds.F1Up = f1u_uplink
kind_of kinds.ForwardDown = forwarding_down
kind_of kinds.ForwardUp = forwarding_up

-- where no reason holds an item back it passes
abbrev pub passes : Option HeldReason → Result (Unit {0}) HeldReason
passes None = Ok tt
passes (Some reason) = Err reason

-- ---- the COUNT of a number

abbrev pub count_found : Option ℕ → Result ℕ HopError
count_found None = Err BelowZero
count_found (Some count) = Ok count

abbrev pub count_after : SnBits → Option ℕ → ℕ → Result ℕ HopError
count_after sn None number = Err NoStatus
count_after sn (Some next) number = count_found (count_below sn next number)

-- ---- the end of a direction, which comes once

abbrev pub has_ended : TargetEnd → Dir → Bool
has_ended t Dl = t.down_ended
has_ended t Ul = t.up_ended

abbrev pub ended : TargetEnd → Dir → TargetEnd
ended t Dl = record t { down_ended = true }
ended t Ul = record t { up_ended = true }

abbrev pub end_of : TargetEnd → Dir → Result (Unit {0}) HopError
end_of t dir = if has_ended t dir then Err EndSeen else Ok tt
