-- In every run a terminal's record is what its table makes of what happens to it.
use Rattle.std.proofs.Common.{◌≡◌, ℕ, ◌+◌, Bool, true, false, List, [], ◌∷◌, ◌++◌, Option, Some, None, refl, sym, ap, subst, ◌∙◌}
use Rattle.std.specs.Ordering.{eq_by_cmp}
use Rattle.std.specs.Cmp.{Equal-is}
use Rattle.gnb_types.specs.declared.names.Gnb.{Gnb}
use Rattle.gnb_types.specs.declared.names.Gnb.TheVariants.{A, B}
use Rattle.gnb_types.specs.declared.names.NodeId.{NodeId}
use Rattle.gnb_types.specs.declared.names.NodeId.TheVariants.{CuCp, CuUp as up_id, Du as du_id, Core, Ue}
use Rattle.gnb_types.specs.declared.names.UeId.{UeId}
use Rattle.gnb_types.specs.declared.plans.Plan.{Plan}
use Rattle.gnb_types.specs.Orders.{ue_cmp}
use Rattle.gnb_types.proofs.OrderLemmas.{ue_total, ue_exact}
use Rattle.tables.specs.Tables.{find, put}
use Rattle.tables.proofs.TableLaws.{find-put-same, find-put-other}
use Rattle.message_types.specs.declared.rrc.Token.{Token}
use Rattle.scenario_text.specs.declared.event.Event.{Event}
use Rattle.unit_defs.specs.Ways.{Message, Pdu, Load, Input, gives, spent}
use Rattle.unit_defs.specs.Ue.{UeNode, new_ue, placed, ue_acts}
use Rattle.unit_defs.specs.CuUpRecords.{CuUp}
use Rattle.unit_defs.specs.CuUp.{cu_up_acts}
use Rattle.unit_defs.specs.Du.{Du, du_acts}
use Rattle.unit_defs.specs.CuCpRecords.{CuCpRecord}
use Rattle.unit_defs.specs.CuCp.{cu_cp_acts}
use Rattle.unit_defs.specs.Static.{cu_up_placed, du_placed, cu_cp_placed}
use Rattle.run_defs.specs.Units.{Units, cu_cp_of, with_cu_cp, cu_up_of, with_cu_up, du_of, with_du, ue_of, with_ue}
use Rattle.run_defs.specs.Conditions.{units_placed, all_set_up}
use Rattle.run_defs.specs.Written.{Written, PlainStepped, WrittenStepped, written_step}
use Rattle.run_defs.specs.States.{State, stepped, step_spent, Lengths}
use Rattle.run_defs.specs.Runs.{Reading, PlainGiven, Plain, plain_way, input_of, stepped_with, ue_stepped, acts_on, plain_by, plain_world}
use Rattle.proof_run_steps.specs.steps.Reached.{reached}
use Rattle.proof_run_steps.proofs.steps.Frames.{reached_relates}
use Rattle.proof_bearer_refinement.specs.run_terminals.Over.{Happening, comes, set_up, takes, kept_of, after_one, after_all}

all-append : (o : Option UeNode) (hs ks : List Happening) → after_all o (hs ++ ks) ≡ after_all (after_all o hs) ks
unfolding after_all
all-append o [] ks = refl
all-append o (h ∷ hs) ks = all-append (after_one o h) hs ks

abbrev PlainUnits : Type 0
PlainUnits = Units (Message Token) Token

-- of each terminal: what happened
abbrev pub Happened : PlainUnits → PlainUnits → Type 0
Happened u v = (ue : UeId) → (hs : List Happening) × (ue_of v ue ≡ after_all (ue_of u ue) hs)

nothing_happens : (u v : PlainUnits) → v.ues ≡ u.ues → Happened u v
unfolding after_all
nothing_happens u v is ue = ([], ap (λ es. find ue_cmp es ue) is)

pub then_happens : (u v w : PlainUnits) → Happened u v → Happened v w → Happened u w
then_happens u v w p q ue = (
  (p ue).0 ++ (q ue).0,
  (q ue).1 ∙ ap (λ o. after_all o (q ue).0) ((p ue).1) ∙ sym (all-append (ue_of u ue) (p ue).0 (q ue).0),
)

-- one terminal's record changes by what happens to it
one_happens : (u v : PlainUnits) (name : UeId) (x : UeNode) (h : Happening) → v.ues ≡ put ue_cmp u.ues name x → Some x ≡ after_one (ue_of u name) h
    → Happened u v
unfolding after_all
one_happens u v name x h is became ue = by (eq_by_cmp ue_cmp ue name) refl
  where
    by : (t : Bool) → eq_by_cmp ue_cmp ue name ≡ t → (hs : List Happening) × (ue_of v ue ≡ after_all (ue_of u ue) hs)
    by true own =
        let same : ue ≡ name = ue_exact ue name ((Equal-is (ue_cmp ue name)).0 own) in (
          h ∷ [],
          ap (λ es. find ue_cmp es ue) is ∙ ap (λ k. find ue_cmp (put ue_cmp u.ues name x) k) same ∙ find-put-same ue_total u.ues name x
              ∙ became ∙ ap (λ k. after_one (ue_of u k) h) (sym same),
        )
    by false far = ([], ap (λ es. find ue_cmp es ue) is ∙ find-put-other ue_total u.ues name x ue far)

cp_keeps : {M C : Type 0} (u : Units M C) (gnb : Gnb) (r : CuCpRecord M C) → (with_cu_cp u gnb r).ues ≡ u.ues
cp_keeps u A r = refl
cp_keeps u B r = refl

pub comes_happens : (u : PlainUnits) (plan : Plan) → Happened u (with_ue u plan.ue (new_ue plan))
comes_happens u plan = one_happens u (with_ue u plan.ue (new_ue plan)) plan.ue (new_ue plan) (comes plan) refl refl

pub set_up_happens : (u : PlainUnits) (plan : Plan) → Happened u (all_set_up (units_placed plan u))
set_up_happens u plan =
    let up : CuUp (Message Token) Token = cu_up_of u plan.gnb plan.up in
    let du : Du (Message Token) Token = du_of u plan.gnb plan.du in
    let a : PlainUnits = with_ue u plan.ue (placed (new_ue plan)) in
    let b : PlainUnits = with_cu_up a plan.gnb plan.up (cu_up_placed up plan du.next_teid) in
    let c : PlainUnits = with_du b plan.gnb plan.du (du_placed du plan (up.next_teid + 1)) in
    one_happens u (all_set_up (units_placed plan u)) plan.ue (placed (new_ue plan)) (set_up plan)
    (cp_keeps c plan.gnb (cu_cp_placed (cu_cp_of u plan.gnb) plan)) refl

module _ (reading : Reading) where
  abbrev Answered : PlainUnits → PlainStepped → Type 0
  Answered u (stepped outputs v) = Happened u v
  Answered u (step_spent counter) = Unit {0}

  abbrev AnsweredWell : PlainUnits → WrittenStepped → Type 0
  AnsweredWell u (stepped outputs v) = Happened u v
  AnsweredWell u (step_spent counter) = Unit {0}

  by_cp : (u : PlainUnits) (gnb : Gnb) (a : Plain (CuCpRecord (Message Token) Token)) → Answered u (stepped_with reading (with_cu_cp u gnb) a)
  by_cp u gnb (gives outputs r) = nothing_happens u (with_cu_cp u gnb r) (cp_keeps u gnb r)
  by_cp u gnb (spent counter) = tt

  by_up : (u : PlainUnits) (gnb : Gnb) (number : ℕ) (a : Plain (CuUp (Message Token) Token)) → Answered u (stepped_with reading (with_cu_up u gnb number) a)
  by_up u gnb number (gives outputs r) = nothing_happens u (with_cu_up u gnb number r) refl
  by_up u gnb number (spent counter) = tt

  by_du : (u : PlainUnits) (gnb : Gnb) (number : ℕ) (a : Plain (Du (Message Token) Token)) → Answered u (stepped_with reading (with_du u gnb number) a)
  by_du u gnb number (gives outputs r) = nothing_happens u (with_du u gnb number r) refl
  by_du u gnb number (spent counter) = tt

  by_ue : (u : PlainUnits) (ue : ℕ) (x : UeNode) (input : Input Token Pdu) → ue_of u (record { 0 = ue }) ≡ Some x → (a : Plain UeNode)
      → ue_acts plain_way x input ≡ a → Answered u (stepped_with reading (with_ue u (record { 0 = ue })) a)
  by_ue u ue x input there (gives outputs y) is =
      one_happens u (with_ue u (record { 0 = ue }) y) (record { 0 = ue }) y (takes input) refl
      (sym (ap (λ o. after_one o (takes input)) there ∙ ap (λ a. Some (kept_of x a)) is))
  by_ue u ue x input there (spent counter) is = tt

  acted : (u : PlainUnits) (node : NodeId) (input : Input Token Pdu) → Answered u (acts_on reading u node input)
  acted u (CuCp gnb) input = by_cp u gnb (cu_cp_acts plain_way (cu_cp_of u gnb) input)
  acted u (up_id gnb number) input = by_up u gnb number (cu_up_acts plain_way (cu_up_of u gnb number) input)
  acted u (du_id gnb number) input = by_du u gnb number (du_acts plain_way (du_of u gnb number) input)
  acted u (Ue ue) input = there (ue_of u (record { 0 = ue })) refl
    where
      there : (o : Option UeNode) → ue_of u (record { 0 = ue }) ≡ o → Answered u (ue_stepped reading u ue input o)
      there None is = nothing_happens u u refl
      there (Some x) is = by_ue u ue x input is (ue_acts plain_way x input) refl
  acted u Core input = nothing_happens u u refl

  answered : (u : PlainUnits) (node : NodeId) (given : PlainGiven) (o : Option (Input Token Pdu)) → Answered u (plain_by reading u node given o)
  answered u node given None = nothing_happens u u refl
  answered u node given (Some input) = acted u node input

  written : (lengths : Lengths) (u : PlainUnits) (x : PlainStepped) → Answered u x → AnsweredWell u (written_step lengths x)
  written lengths u (stepped outputs v) p = p
  written lengths u (step_spent counter) p = tt

  pub terminals_happen : (events : List Event) (s t : State (Message Token) Token (Written (Load Pdu)) (Written Pdu))
      → reached (plain_world reading) events s ≡ Some t → Happened s.units t.units
  terminals_happen events s t is =
      reached_relates (plain_world reading) Happened (λ u. nothing_happens u u refl) then_happens
      (λ lengths u v node given outputs e. subst (AnsweredWell u) e
      (written lengths u (plain_by reading u node given (input_of reading given)) (answered u node given (input_of reading given))))
      comes_happens (λ u plan free room teids. set_up_happens u plan) events s t is
