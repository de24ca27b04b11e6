-- Internal: the reasons to refuse octets as tests.
use Rattle.std.specs.Prelude.{◌==◌, ℕ, ◌/◌, ◌%◌, Bool, ◌&&◌, not, nat_lt, List, [], ◌∷◌, length, slice_index}
use Rattle.gnb_types.specs.declared.names.SnBits.{SnBits}
use Rattle.pdcp.specs.declared.pdu.PduError.{PduError}
use Rattle.pdcp.specs.declared.pdu.PduError.TheVariants.{Truncated, ControlKind}
use Rattle.pdcp.specs.Pdus.{is_data, fewest}

abbrev pub tests : SnBits → List ℕ → List (Bool × PduError)
tests sn octets =
    (nat_lt (length octets) (fewest sn (is_data octets)), Truncated)
    ∷ (not (is_data octets) && not (slice_index octets 0 / 16 % 8 == 0), ControlKind)
    ∷ []
