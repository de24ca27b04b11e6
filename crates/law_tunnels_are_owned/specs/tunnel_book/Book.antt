-- The book of a state: for which terminal, bearer and kind each TEID may be named there: where it was given, and is open as theirs or
-- not open any more. 0 is none, and may be named for any. Of how long a terminal's numbers are it says nothing.
use Rattle.std.specs.Prelude.{ℕ, ◌≡◌, ◌==◌, Bool, true, false, ◌&&◌, nat_lt, List, Option, Some, None}
use Rattle.std.specs.Ordering.{nat_cmp}
use Rattle.gnb_types.specs.declared.names.Gnb.{Gnb}
use Rattle.gnb_types.specs.declared.names.UeId.{UeId}
use Rattle.gnb_types.specs.declared.names.BearerId.{BearerId}
use Rattle.tables.specs.Tables.{find}
use Rattle.unit_defs.specs.CuUpRecords.{TunnelKind, n3, f1u_uplink, forwarding_down, forwarding_up, CuUpTunnel}
use Rattle.unit_defs.specs.Du.{DuTunnel}
use Rattle.run_defs.specs.Units.{Units, cu_up_of, du_of}
use Rattle.proof_run_steps.specs.teids.Given.{below}
use Rattle.proof_unit_steps.specs.tunnel_names.Names.{Book, by_book}
use Rattle.proof_unit_steps.specs.tunnels.Units.{CuUpHolds, DuHolds, NoneIsFree}

abbrev pub is_kind : TunnelKind → TunnelKind → Bool
is_kind n3 n3 = true
is_kind f1u_uplink f1u_uplink = true
is_kind forwarding_down forwarding_down = true
is_kind forwarding_up forwarding_up = true
is_kind kind other = false

abbrev pub is_up_owner : TunnelKind → UeId → BearerId → CuUpTunnel → Bool
is_up_owner kind ue bearer owner = owner.ue.0 == ue.0 && owner.bearer.0 == bearer.0 && is_kind owner.kind kind

abbrev pub is_du_owner : UeId → BearerId → DuTunnel → Bool
is_du_owner ue bearer owner = owner.ue.0 == ue.0 && owner.bearer.0 == bearer.0

-- there is none, or this holds of it
abbrev pub all_such : {X : Type 0} → (X → Bool) → Option X → Bool
all_such test None = true
all_such test (Some x) = test x

abbrev pub may_be : {X : Type 0} → (X → Bool) → ℕ → List (ℕ × X) → ℕ → Bool
may_be test next tunnels teid = nat_lt teid (below next) && all_such test (find nat_cmp tunnels teid)

abbrev pub book_of : {M C : Type 0} → Units M C → Book
book_of units = record {
  up = λ gnb number kind ue bearer teid.
      may_be (is_up_owner kind ue bearer) (cu_up_of units gnb number).next_teid (cu_up_of units gnb number).tunnels teid;
  du = λ gnb number ue bearer teid. may_be (is_du_owner ue bearer) (du_of units gnb number).next_teid (du_of units gnb number).tunnels teid;
  length = λ ue sn. true;
}

-- what one book has, the other has
pub record Keeps (first second : Book) : Type 0 where
  pub up : (gnb : Gnb) (number : ℕ) (kind : TunnelKind) (ue : UeId) (bearer : BearerId) (teid : ℕ)
      → first.up gnb number kind ue bearer teid ≡ true → second.up gnb number kind ue bearer teid ≡ true
  pub du : (gnb : Gnb) (number : ℕ) (ue : UeId) (bearer : BearerId) (teid : ℕ)
      → first.du gnb number ue bearer teid ≡ true → second.du gnb number ue bearer teid ≡ true

-- each CU-UP and each DU has in the book what its contexts name of its own tunnels, and 0 is free
pub record HasItsOwn {M C : Type 0} (units : Units M C) : Type 0 where
  pub ups : (gnb : Gnb) (number : ℕ) → CuUpHolds (by_book (book_of units)) gnb number (cu_up_of units gnb number)
  pub dus : (gnb : Gnb) (number : ℕ) → DuHolds (by_book (book_of units)) gnb number (du_of units gnb number)
  pub none : NoneIsFree (by_book (book_of units))
