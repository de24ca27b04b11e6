-- What a CU-UP tests of its own before it does something to a bearer.
use Rattle.std.specs.Prelude.{◌≡◌, ℕ, Bool, true, false, List, [], ◌∷◌, Option, Some, None}
use Rattle.message_types.specs.declared.e1.E1Message.TheVariants as e1s
use Rattle.gnb_types.specs.declared.names.UeId.{UeId}
use Rattle.gnb_types.specs.declared.names.BearerId.{BearerId}
use Rattle.unit_defs.specs.Ways.{e1, Input, control_input, Way, Answer, gives, nothing}
use Rattle.unit_defs.specs.CuUpBearers.{has_downlink, is_over}
use Rattle.unit_defs.specs.CuUpItems.{held_reason}
use Rattle.proof_cu_up_orders.specs.context_orders.Orders.{CuUpModel, ContextStep, makes, adds, switches, freezes, knows, resumes, releases, closes, takes, polls, begun, done}

-- the input is a final release, which ends a context at once
abbrev pub is_final : {C P : Type 0} → Input C P → Bool
is_final (control_input from (e1 (e1s.BearerContextReleaseCommand u instance final))) = final
is_final input = false

-- it was released, and nothing comes any more
abbrev pub IsOver : CuUpModel → Type 0
IsOver p = (p.at.flags.released ≡ true) × (is_over p.at.flags p.bearer ≡ true)

abbrev pub IsTested : {P : Type 0} → Bool → CuUpModel → ContextStep P → Type 0
IsTested final p (makes instance sn quota target teid) = ⊥
IsTested final p (adds teid) = p.at.flags.released ≡ false
IsTested final p (switches du teid) = p.at.flags.released ≡ false
IsTested final p (freezes peer down up) =
    (p.at.flags.frozen ≡ false) × (p.at.flags.released ≡ false) × (p.at.flags.arrived ≡ true) × (p.at.flags.may_serve ≡ true)
IsTested final p (knows status) = p.at.flags.may_serve ≡ false
IsTested final p resumes = (p.at.flags.frozen ≡ true) × (p.at.flags.released ≡ false)
IsTested final p releases = final ≡ false
IsTested final p closes = final ≡ false → IsOver p
IsTested final p (takes kind teid item) = held_reason p.at p.bearer kind item ≡ None
IsTested final p polls = (p.at.flags.frozen ≡ false) × (has_downlink p.bearer.downlink ≡ true)

-- where there is no such bearer, the context that is made has the next TEID as its instance
abbrev pub IsBegun : {P : Type 0} → ℕ → ContextStep P → Type 0
IsBegun next (makes instance sn quota target teid) = instance ≡ next
IsBegun next order = Unit {0}

-- ---- all that an input asks: one order, and then the end at most, of a bearer that is over

abbrev pub OverIn : {M P : Type 0} → Answer M P (Option CuUpModel) → Type 0
OverIn (gives outputs (Some q)) = IsOver q
OverIn a = Unit {0}

abbrev pub EndsAfter : {M P : Type 0} → List (ContextStep P) → Answer M P (Option CuUpModel) → Type 0
EndsAfter [] a = Unit {0}
EndsAfter (closes ∷ []) a = OverIn a
EndsAfter orders a = ⊥

module _ {M C P : Type 0} (way : Way M C P) (ue : UeId) (bearer : BearerId) where
  abbrev pub AreTested : Bool → ℕ → List (ContextStep P) → Option CuUpModel → Type 0
  AreTested final next [] p = Unit {0}
  AreTested final next (order ∷ orders) None = IsBegun next order × EndsAfter {M = M} orders (nothing (begun ue bearer order))
  AreTested final next (order ∷ orders) (Some p) = IsTested final p order × EndsAfter orders (done way order p)
