-- TEIDs that a node gives (TS 29.281, 3.1): those that a step opens, and which TEIDs are open at a later time.
use Rattle.std.specs.Prelude.{ℕ, ◌≡◌, ◌≤◌, ◌==◌, zero, suc, ◌+◌, true, if◌then◌else◌, List, [], ◌∷◌, length, Some, ◌⊎◌}
use Rattle.std.specs.List.{flat_map}
use Rattle.std.specs.Ordering.{nat_cmp}
use Rattle.gnb_types.specs.declared.names.Gnb.{Gnb}
use Rattle.tables.specs.Tables.{find}
use Rattle.unit_defs.specs.Ways.{Output, opened, Answer, gives, spent}
use Rattle.unit_defs.specs.Teids.{last_teid, teids_are_left, teid_after}
use Rattle.run_defs.specs.Units.{Units, cu_up_of, du_of}

-- ---- a step: the TEIDs that it opens are the next ones, ascending, if so many are left; then those after them come next

abbrev pub opened_in : {M P : Type 0} → Output M P → List ℕ
opened_in (opened teid) = teid ∷ []
opened_in output = []

abbrev pub opened_by : {M P : Type 0} → List (Output M P) → List ℕ
opened_by outputs = flat_map opened_in outputs

-- so many numbers, from this one on
abbrev pub count_from : ℕ → ℕ → List ℕ
count_from first zero = []
count_from first (suc more) = first ∷ count_from (first + 1) more

abbrev pub GivesNext : ℕ → List ℕ → ℕ → Type 0
GivesNext next teids after =
    (teids ≡ count_from next (length teids))
    × (((teids ≡ []) × (after ≡ next))
    ⊎ ((teids_are_left next (length teids) ≡ true) × (after ≡ teid_after next (length teids))))

-- ---- what is open later was open before, as the same one's, or is given meanwhile

-- the TEID below which all were given; after the last one there is none
abbrev pub below : ℕ → ℕ
below next = if next == 0 then last_teid + 1 else next

abbrev pub GrowsTo : {X : Type 0} → ℕ → List (ℕ × X) → ℕ → List (ℕ × X) → Type 0
GrowsTo {X = X} next tunnels later_next later =
    (below next ≤ below later_next)
    × ((teid : ℕ) (owner : X) → find nat_cmp later teid ≡ Some owner
    → (find nat_cmp tunnels teid ≡ Some owner) ⊎ ((below next ≤ teid) × (teid + 1 ≤ below later_next)))

-- the same of the answer of a unit with these fields, which were so before
abbrev pub GivesFrom : {M P R X : Type 0} → (R → ℕ) → (R → List (ℕ × X)) → ℕ → List (ℕ × X) → Answer M P R → Type 0
GivesFrom next tunnels n ts (gives outputs after) =
    GivesNext n (opened_by outputs) (next after) × GrowsTo n ts (next after) (tunnels after)
GivesFrom next tunnels n ts (spent counter) = Unit {0}

abbrev pub GivesTeids : {M P R X : Type 0} → (R → ℕ) → (R → List (ℕ × X)) → R → Answer M P R → Type 0
GivesTeids next tunnels r answer = GivesFrom next tunnels (next r) (tunnels r) answer

-- ---- of all units

abbrev pub GiveOnce : {M C : Type 0} → Units M C → Units M C → Type 0
GiveOnce units later =
    ((gnb : Gnb) (number : ℕ) → GrowsTo (cu_up_of units gnb number).next_teid (cu_up_of units gnb number).tunnels
    (cu_up_of later gnb number).next_teid (cu_up_of later gnb number).tunnels)
    × ((gnb : Gnb) (number : ℕ) → GrowsTo (du_of units gnb number).next_teid (du_of units gnb number).tunnels
    (du_of later gnb number).next_teid (du_of later gnb number).tunnels)
