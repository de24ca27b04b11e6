-- What it is that a step is one terminal's: it depends on the terminal's projection alone, and it leaves the projections of the others.
use Rattle.std.specs.Prelude.{ℕ, ◌≡◌, ◌≢◌}
use Rattle.std.specs.List.{AllByRecursion}
use Rattle.gnb_types.specs.declared.names.UeId.{UeId}
use Rattle.unit_defs.specs.Ways.{Put, control, packet, radio, deliver, failed, Answer, gives, spent}

-- an answer of which this is seen of what is kept
abbrev pub seen : {M P R S : Type 0} → (R → S) → Answer M P R → Answer M P S
seen view (gives outputs after) = gives outputs (view after)
seen view (spent counter) = spent counter

-- where this is the same of two units, they put out the same, and it is the same of them then
abbrev pub DependsOn : {M P R S : Type 0} → (R → S) → (R → Answer M P R) → Type 0
DependsOn {R = R} view acts = (r q : R) → view r ≡ view q → seen view (acts r) ≡ seen view (acts q)

-- what is put out for a terminal; what names none is for the terminal of the step
abbrev pub IsFor : {M L P : Type 0} → ℕ → Put M L P → Type 0
IsFor ue (control to u message) = u ≡ ue
IsFor ue (packet to teid u bearer dir tag load) = u.0 ≡ ue
IsFor ue (radio u bearer dir epoch tag pdu) = u.0 ≡ ue
IsFor ue (deliver u bearer dir count p) = u.0 ≡ ue
IsFor ue (failed u cause) = u.0 ≡ ue
IsFor ue output = Unit {0}

abbrev pub PutsFor : {M P R : Type 0} → ℕ → (R → Type 0) → Answer M P R → Type 0
PutsFor ue holds (gives outputs after) = AllByRecursion (IsFor ue) outputs × holds after
PutsFor ue holds (spent counter) = Unit {0}

-- the projections of all other terminals are as they were
abbrev pub StaysFor : {R S : Type 0} → (UeId → R → S) → UeId → R → R → Type 0
StaysFor slice ue r after = (other : UeId) → other ≢ ue → slice other after ≡ slice other r

-- all that it puts out is the terminal's, and the others' projections stay
abbrev pub IsStepOf : {M P R S : Type 0} → (UeId → R → S) → UeId → R → Answer M P R → Type 0
IsStepOf slice ue r answer = PutsFor ue.0 (StaysFor slice ue r) answer
