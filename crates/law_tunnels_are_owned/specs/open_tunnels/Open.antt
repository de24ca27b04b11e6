-- Which TEIDs of a node are open: by its record, by what it puts out, and by the tunnels of a run.
use Rattle.std.specs.Prelude.{ℕ, ◌≡◌, ◌==◌, Bool, not, ◌&&◌, ◌||◌, List, [], ◌∷◌, is_some}
use Rattle.std.specs.Ordering.{nat_cmp}
use Rattle.gnb_types.specs.declared.names.Gnb.{Gnb}
use Rattle.gnb_types.specs.declared.names.NodeId.{NodeId}
use Rattle.gnb_types.specs.declared.names.NodeId.TheVariants.{CuUp, Du}
use Rattle.gnb_types.specs.Orders.{tunnel_cmp}
use Rattle.tables.specs.Tables.{find}
use Rattle.unit_defs.specs.Ways.{Put, opened, closed, Answer, gives, spent}
use Rattle.run_defs.specs.Units.{cu_up_of, du_of}
use Rattle.run_defs.specs.States.{State}

-- a TEID is open after outputs, where it was before or not
abbrev pub open_after : {M L P : Type 0} → ℕ → List (Put M L P) → Bool → Bool
open_after teid [] was = was
open_after teid (opened t ∷ outputs) was = open_after teid outputs (t == teid || was)
open_after teid (closed t ∷ outputs) was = open_after teid outputs (not (t == teid) && was)
open_after teid (output ∷ outputs) was = open_after teid outputs was

abbrev pub is_open_in : {X : Type 0} → List (ℕ × X) → ℕ → Bool
is_open_in tunnels teid = is_some (find nat_cmp tunnels teid)

-- what an answer opens and closes is what is open then, of a unit with this field, which was so before
abbrev pub ShowsFrom : {M P R X : Type 0} → (R → List (ℕ × X)) → List (ℕ × X) → Answer M P R → Type 0
ShowsFrom tunnels ts (gives outputs after) =
    (teid : ℕ) → is_open_in (tunnels after) teid ≡ open_after teid outputs (is_open_in ts teid)
ShowsFrom tunnels ts (spent counter) = Unit {0}

-- ---- in a run

abbrev pub stands : {M C L P : Type 0} → State M C L P → NodeId → ℕ → Bool
stands s node teid = is_some (find tunnel_cmp s.tunnels (record { node = node; teid = teid }))

-- a tunnel ends at a CU-UP and a DU exactly where its TEID is open there
abbrev pub StandWhereOpen : {M C L P : Type 0} → State M C L P → Type 0
StandWhereOpen s =
    ((gnb : Gnb) (number teid : ℕ) → stands s (CuUp gnb number) teid ≡ is_open_in (cu_up_of s.units gnb number).tunnels teid)
    × ((gnb : Gnb) (number teid : ℕ) → stands s (Du gnb number) teid ≡ is_open_in (du_of s.units gnb number).tunnels teid)
