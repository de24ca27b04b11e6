-- What the End Marker of N3 comes to.
use Rattle.std.proofs.Common.{◌≡◌, ℕ, Option, Some, None, refl, ap, ◌∙◌}
use Rattle.gnb_types.specs.declared.names.Dir.TheVariants.{Dl}
use Rattle.gnb_types.specs.declared.outputs.Tag.TheVariants.{Absent}
use Rattle.gnb_types.specs.declared.reasons.DropReason.TheVariants.{Unexpected}
use Rattle.unit_defs.specs.Ways.{drops, end_marker, ◌then◌}
use Rattle.unit_defs.specs.CuUpRecords.{CuUpBearer}
use Rattle.unit_defs.specs.CuUpItems.{n3_ended, closed_n3}
use Rattle.unit_defs.specs.octet_defs.Codec.{Codec, octet_way}
use Rattle.unit_defs.specs.octet_defs.Units.{OctetAnswer}
use Rattle.cu_up_bearer.specs.declared.tunnels.at.Scope.{Scope}
use Rattle.cu_up_bearer.specs.declared.tunnels.hop.Hop.{Hop}
use Rattle.cu_up_bearer.specs.tunnels.Tunnels.{at_as, hop_as}
use Rattle.cu_up_items.specs.packets.Passing.{passed_on}

module _ (codec : Codec) (a : Scope) (b : CuUpBearer) (o : Option Hop) where
  abbrev pub end_row : OctetAnswer CuUpBearer
  end_row = n3_ended (octet_way codec) (at_as a) b (hop_as o)

  abbrev pub closes : CuUpBearer → OctetAnswer CuUpBearer
  closes c = closed_n3 (octet_way codec) c c.n3

  abbrev pub marker : OctetAnswer CuUpBearer
  marker = passed_on (octet_way codec) Dl (at_as a) Absent end_marker b

  pub ends_nothing : o ≡ None → end_row ≡ drops Unexpected b
  ends_nothing is = ap (λ (x : Option Hop). n3_ended (octet_way codec) (at_as a) b (hop_as x)) is

  pub ends_one : (h : Hop) → o ≡ Some h → end_row ≡ (marker then closes)
  ends_one h is = ap (λ (x : Option Hop). n3_ended (octet_way codec) (at_as a) b (hop_as x)) is
