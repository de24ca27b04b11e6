-- In every run the record of a CU-UP and that of a DU are what their tables make of what happens to them.
use Rattle.std.proofs.Common.{◌≡◌, ℕ, ◌+◌, List, Option, Some, None, refl, sym, ap, subst}
use Rattle.gnb_types.specs.declared.names.Gnb.{Gnb}
use Rattle.gnb_types.specs.declared.names.Gnb.TheVariants.{A, B}
use Rattle.gnb_types.specs.declared.names.NodeId.{NodeId}
use Rattle.gnb_types.specs.declared.names.NodeId.TheVariants.{CuCp, CuUp as up_id, Du as du_id, Core, Ue}
use Rattle.gnb_types.specs.declared.plans.Plan.{Plan}
use Rattle.message_types.specs.declared.rrc.Token.{Token}
use Rattle.scenario_text.specs.declared.event.Event.{Event}
use Rattle.unit_defs.specs.Ways.{Message, Pdu, Load, Input, gives, spent}
use Rattle.unit_defs.specs.Ue.{UeNode, new_ue, placed, ue_acts}
use Rattle.unit_defs.specs.CuUp.{new_cu_up, cu_up_acts}
use Rattle.unit_defs.specs.Du.{new_du, du_acts}
use Rattle.unit_defs.specs.CuCpRecords.{CuCpRecord}
use Rattle.unit_defs.specs.CuCp.{cu_cp_acts}
use Rattle.unit_defs.specs.Static.{cu_up_placed, cu_up_set_up, du_placed, du_set_up, cu_cp_placed}
use Rattle.run_defs.specs.Units.{Units, cu_cp_of, with_cu_cp, cu_up_of, with_cu_up, du_of, with_du, ue_of, with_ue}
use Rattle.run_defs.specs.Conditions.{units_placed, all_set_up}
use Rattle.run_defs.specs.Written.{Written, PlainStepped, WrittenStepped, written_step}
use Rattle.run_defs.specs.States.{State, stepped, step_spent, Lengths}
use Rattle.run_defs.specs.Runs.{Reading, PlainGiven, Plain, plain_way, input_of, stepped_with, ue_stepped, acts_on, plain_by, plain_world}
use Rattle.proof_run_steps.specs.steps.Reached.{reached}
use Rattle.proof_run_steps.proofs.steps.Frames.{reached_relates}
use Rattle.proof_bearer_refinement.specs.run_unit_inputs.Happenings.{places, counts, takes, CuUpRecord, DuRecord, kept_of, after_up, after_du}
use Rattle.proof_bearer_refinement.proofs.run_unit_inputs.Tables.{Goes, none_goes, then_goes, one_goes, all_go}

abbrev pub PlainUnits : Type 0
PlainUnits = Units (Message Token) Token

pub up_exact : (g h : Gnb) (n m : ℕ) → up_id g n ≡ up_id h m → (g ≡ h) × (n ≡ m)
up_exact g h n m is = (cc, cc)

pub du_exact : (g h : Gnb) (n m : ℕ) → du_id g n ≡ du_id h m → (g ≡ h) × (n ≡ m)
du_exact g h n m is = (cc, cc)

abbrev pub UpsGo : List (NodeId × CuUpRecord) → List (NodeId × CuUpRecord) → Type 0
UpsGo es fs = Goes after_up up_id up_exact new_cu_up es fs

abbrev pub DusGo : List (NodeId × DuRecord) → List (NodeId × DuRecord) → Type 0
DusGo es fs = Goes after_du du_id du_exact new_du es fs

abbrev pub UnitsGo : PlainUnits → PlainUnits → Type 0
UnitsGo u v = UpsGo u.ups v.ups × DusGo u.dus v.dus

none_go : (u v : PlainUnits) → v.ups ≡ u.ups → v.dus ≡ u.dus → UnitsGo u v
none_go u v ups dus = (none_goes after_up up_id up_exact new_cu_up u.ups v.ups ups, none_goes after_du du_id du_exact new_du u.dus v.dus dus)

then_go : (u v w : PlainUnits) → UnitsGo u v → UnitsGo v w → UnitsGo u w
then_go u v w p q = (
  then_goes after_up up_id up_exact new_cu_up u.ups v.ups w.ups p.0 q.0,
  then_goes after_du du_id du_exact new_du u.dus v.dus w.dus p.1 q.1,
)

cp_keeps : (u : PlainUnits) (gnb : Gnb) (r : CuCpRecord (Message Token) Token) → ((with_cu_cp u gnb r).ups ≡ u.ups) × ((with_cu_cp u gnb r).dus ≡ u.dus)
cp_keeps u A r = (refl, refl)
cp_keeps u B r = (refl, refl)

-- ---- a terminal is set up without messages

pub set_up_go : (u : PlainUnits) (plan : Plan) → UnitsGo u (all_set_up (units_placed plan u))
set_up_go u plan =
    then_go u placed_there (all_set_up placed_there) (
      one_goes after_up up_id up_exact new_cu_up u.ups placed_there.ups plan.gnb plan.up (cu_up_placed up plan du.next_teid) (places plan du.next_teid)
          (cp_keeps c plan.gnb (cu_cp_placed (cu_cp_of u plan.gnb) plan)).0 refl,
      one_goes after_du du_id du_exact new_du u.dus placed_there.dus plan.gnb plan.du (du_placed du plan (up.next_teid + 1)) (places plan (up.next_teid + 1))
          (cp_keeps c plan.gnb (cu_cp_placed (cu_cp_of u plan.gnb) plan)).1 refl,
    ) (
      all_go after_up up_id up_exact new_cu_up cu_up_set_up counts (λ r. refl) placed_there.ups,
      all_go after_du du_id du_exact new_du du_set_up counts (λ r. refl) placed_there.dus,
    )
  where
    placed_there : PlainUnits
    placed_there = units_placed plan u

    up : CuUpRecord
    up = cu_up_of u plan.gnb plan.up

    du : DuRecord
    du = du_of u plan.gnb plan.du

    c : PlainUnits
    c = with_du (with_cu_up (with_ue u plan.ue (placed (new_ue plan))) plan.gnb plan.up (cu_up_placed up plan du.next_teid))
        plan.gnb plan.du (du_placed du plan (up.next_teid + 1))

-- ---- answers

module _ (reading : Reading) where
  abbrev Answered : PlainUnits → PlainStepped → Type 0
  Answered u (stepped outputs v) = UnitsGo u v
  Answered u (step_spent counter) = Unit {0}

  abbrev AnsweredWell : PlainUnits → WrittenStepped → Type 0
  AnsweredWell u (stepped outputs v) = UnitsGo u v
  AnsweredWell u (step_spent counter) = Unit {0}

  by_cp : (u : PlainUnits) (gnb : Gnb) (a : Plain (CuCpRecord (Message Token) Token)) → Answered u (stepped_with reading (with_cu_cp u gnb) a)
  by_cp u gnb (gives outputs r) = none_go u (with_cu_cp u gnb r) (cp_keeps u gnb r).0 (cp_keeps u gnb r).1
  by_cp u gnb (spent counter) = tt

  by_up : (u : PlainUnits) (gnb : Gnb) (number : ℕ) (input : Input Token Pdu) (a : Plain CuUpRecord) → cu_up_acts plain_way (cu_up_of u gnb number) input ≡ a
      → Answered u (stepped_with reading (with_cu_up u gnb number) a)
  by_up u gnb number input (gives outputs r) is = (
    one_goes after_up up_id up_exact new_cu_up u.ups (with_cu_up u gnb number r).ups gnb number r (takes input) refl
        (sym (ap (kept_of (cu_up_of u gnb number)) is)),
    none_goes after_du du_id du_exact new_du u.dus u.dus refl,
  )
  by_up u gnb number input (spent counter) is = tt

  by_du : (u : PlainUnits) (gnb : Gnb) (number : ℕ) (input : Input Token Pdu) (a : Plain DuRecord) → du_acts plain_way (du_of u gnb number) input ≡ a
      → Answered u (stepped_with reading (with_du u gnb number) a)
  by_du u gnb number input (gives outputs r) is = (
    none_goes after_up up_id up_exact new_cu_up u.ups u.ups refl,
    one_goes after_du du_id du_exact new_du u.dus (with_du u gnb number r).dus gnb number r (takes input) refl
        (sym (ap (kept_of (du_of u gnb number)) is)),
  )
  by_du u gnb number input (spent counter) is = tt

  by_ue : (u : PlainUnits) (ue : ℕ) (a : Plain UeNode) → Answered u (stepped_with reading (with_ue u (record { 0 = ue })) a)
  by_ue u ue (gives outputs y) = none_go u (with_ue u (record { 0 = ue }) y) refl refl
  by_ue u ue (spent counter) = tt

  acted : (u : PlainUnits) (node : NodeId) (input : Input Token Pdu) → Answered u (acts_on reading u node input)
  acted u (CuCp gnb) input = by_cp u gnb (cu_cp_acts plain_way (cu_cp_of u gnb) input)
  acted u (up_id gnb number) input = by_up u gnb number input (cu_up_acts plain_way (cu_up_of u gnb number) input) refl
  acted u (du_id gnb number) input = by_du u gnb number input (du_acts plain_way (du_of u gnb number) input) refl
  acted u (Ue ue) input = there (ue_of u (record { 0 = ue }))
    where
      there : (o : Option UeNode) → Answered u (ue_stepped reading u ue input o)
      there None = none_go u u refl refl
      there (Some x) = by_ue u ue (ue_acts plain_way x input)
  acted u Core input = none_go u u refl refl

  answered : (u : PlainUnits) (node : NodeId) (given : PlainGiven) (o : Option (Input Token Pdu)) → Answered u (plain_by reading u node given o)
  answered u node given None = none_go u u refl refl
  answered u node given (Some input) = acted u node input

  written : (lengths : Lengths) (u : PlainUnits) (x : PlainStepped) → Answered u x → AnsweredWell u (written_step lengths x)
  written lengths u (stepped outputs v) p = p
  written lengths u (step_spent counter) p = tt

  pub units_go : (events : List Event) (s t : State (Message Token) Token (Written (Load Pdu)) (Written Pdu))
      → reached (plain_world reading) events s ≡ Some t → UnitsGo s.units t.units
  units_go events s t is =
      reached_relates (plain_world reading) UnitsGo (λ u. none_go u u refl refl) then_go
      (λ lengths u v node given outputs e. subst (AnsweredWell u) e
      (written lengths u (plain_by reading u node given (input_of reading given)) (answered u node given (input_of reading given))))
      (λ u plan. none_go u (with_ue u plan.ue (new_ue plan)) refl refl) (λ u plan free room teids. set_up_go u plan) events s t is
