-- What a unit of a run does with what is for a terminal depends on the arguments of the terminal's step at the node alone.
use Rattle.std.proofs.Common.{◌≡◌, ℕ, Bool, cond, List, [], map, Option, Some, None, refl, sym, ap, ◌∙◌}
use Rattle.std.specs.Ordering.{is_eq}
use Rattle.std.specs.Cmp.{tied_itself}
use Rattle.gnb_types.specs.declared.names.Gnb.{Gnb}
use Rattle.gnb_types.specs.declared.names.Gnb.TheVariants.{A, B}
use Rattle.gnb_types.specs.declared.names.NodeId.{NodeId}
use Rattle.gnb_types.specs.declared.names.NodeId.TheVariants.{CuCp, CuUp as up_id, Du as du_id, Core, Ue}
use Rattle.gnb_types.specs.declared.names.UeId.{UeId}
use Rattle.gnb_types.proofs.OrderLemmas.{node_total, ue_total}
use Rattle.tables.proofs.TableLaws.{at-put, find-put}
use Rattle.message_types.specs.declared.rrc.Token.{Token}
use Rattle.unit_defs.specs.Ways.{Message, Pdu, Output, Input, gives, spent}
use Rattle.unit_defs.specs.CuUpRecords.{CuUp}
use Rattle.unit_defs.specs.CuUp.{new_cu_up, cu_up_acts}
use Rattle.unit_defs.specs.Du.{Du, new_du, du_acts}
use Rattle.unit_defs.specs.Ue.{UeNode, ue_acts}
use Rattle.unit_defs.specs.CuCpRecords.{CuCpRecord}
use Rattle.unit_defs.specs.CuCp.{cu_cp_acts}
use Rattle.run_defs.specs.Units.{Units, cu_cp_of, with_cu_cp, cu_up_of, with_cu_up, du_of, with_du, ue_of, with_ue}
use Rattle.run_defs.specs.Written.{written_put, PlainStepped, written_step}
use Rattle.run_defs.specs.States.{Lengths, stepped, step_spent}
use Rattle.run_defs.specs.Runs.{Reading, PlainGiven, Plain, plain_way, input_of, stepped_with, ue_stepped, plain_by, plain_world}
use Rattle.law_terminals_are_isolated.specs.projections.Steps.{seen}
use Rattle.law_terminals_are_isolated.specs.cu_cp_projection.CuCps.{cu_cp_view}
use Rattle.law_terminals_are_isolated.proofs.cu_cp_projection.Same.{cp_same}
use Rattle.law_terminals_are_isolated.specs.cu_up_projection.CuUps.{cu_up_view}
use Rattle.law_terminals_are_isolated.proofs.cu_up_projection.Same.{up_same}
use Rattle.law_terminals_are_isolated.specs.du_projection.Dus.{du_view}
use Rattle.law_terminals_are_isolated.proofs.du_projection.Same.{du_same}
use Rattle.law_terminals_are_isolated.specs.run_projections.Units.{given_in, given_ue}
use Rattle.law_terminals_are_isolated.specs.projection_arguments.Views.{AreEqualAt, StayEqualAt, AnswerEqual}

abbrev RunUnits : Type 0
RunUnits = Units (Message Token) Token

-- what is put is there
up_there : (u : RunUnits) (gnb : Gnb) (number : ℕ) (r : CuUp (Message Token) Token) → cu_up_of (with_cu_up u gnb number r) gnb number ≡ r
up_there u gnb number r =
    at-put node_total (new_cu_up gnb number) u.ups (up_id gnb number) r (up_id gnb number)
    ∙ ap (λ (b : Bool). cond b r (cu_up_of u gnb number)) (ap is_eq (tied_itself node_total (up_id gnb number)))

du_there : (u : RunUnits) (gnb : Gnb) (number : ℕ) (r : Du (Message Token) Token) → du_of (with_du u gnb number r) gnb number ≡ r
du_there u gnb number r =
    at-put node_total (new_du gnb number) u.dus (du_id gnb number) r (du_id gnb number)
    ∙ ap (λ (b : Bool). cond b r (du_of u gnb number)) (ap is_eq (tied_itself node_total (du_id gnb number)))

ue_there : (u : RunUnits) (n : ℕ) (x : UeNode) → ue_of (with_ue u (record { 0 = n }) x) (record { 0 = n }) ≡ Some x
ue_there u n x =
    find-put ue_total u.ues (record { 0 = n }) x (record { 0 = n })
    ∙ ap (λ (b : Bool). cond b (Some x) (ue_of u (record { 0 = n }))) (ap is_eq (tied_itself ue_total (record { 0 = n })))

module _ (reading : Reading) (ue : UeId) (u v : RunUnits) where
  -- two answers of which the same is seen
  of_seen : {R S : Type 0} (node : NodeId) (view : R → S) (back again : R → RunUnits) (a b : Plain R) → seen view a ≡ seen view b
      → ((r q : R) → view r ≡ view q → StayEqualAt node ue (back r) (again q))
      → AnswerEqual node ue (stepped_with reading back a) (stepped_with reading again b)
  of_seen {S = S} node view back again (gives xs r) (gives ys q) same stay = (ap puts same, stay r q (ap (kept (view r)) same))
    where
      puts : Plain S → List (Output (Message Token) Pdu)
      puts (gives outputs s) = outputs
      puts (spent counter) = []

      kept : S → Plain S → S
      kept d (gives outputs s) = s
      kept d (spent counter) = d
  of_seen node view back again (gives xs r) (spent n) same stay = absurd cc
  of_seen node view back again (spent m) (gives ys q) same stay = absurd cc
  of_seen {S = S} node view back again (spent m) (spent n) same stay = ap number same
    where
      number : Plain S → ℕ
      number (gives outputs s) = 0
      number (spent counter) = counter

  cp_there : (gnb : Gnb) (r q : CuCpRecord (Message Token) Token) → cu_cp_view ue r ≡ cu_cp_view ue q → StayEqualAt (CuCp gnb) ue (with_cu_cp u gnb r) (with_cu_cp v gnb q)
  cp_there A r q e = e
  cp_there B r q e = e

  ue_equal : (n : ℕ) (input : Input Token Pdu) (a b : Option UeNode) → a ≡ b → ue_of u (record { 0 = n }) ≡ a → ue_of v (record { 0 = n }) ≡ b
      → AnswerEqual (Ue n) ue (ue_stepped reading u n input a) (ue_stepped reading v n input b)
  ue_equal n input None None e p q = (refl, p ∙ sym q)
  ue_equal n input None (Some y) e p q = absurd cc
  ue_equal n input (Some x) None e p q = absurd cc
  ue_equal n input (Some x) (Some y) e p q =
      let same : x ≡ y = cc in
      of_seen (Ue n) (λ (z : UeNode). z) (with_ue u (record { 0 = n })) (with_ue v (record { 0 = n })) (ue_acts plain_way x input) (ue_acts plain_way y input)
      (ap (λ (z : UeNode). seen (λ (w : UeNode). w) (ue_acts plain_way z input)) same)
      (λ r k at. ue_there u n r ∙ ap (λ (z : UeNode). Some z) at ∙ sym (ue_there v n k))

  acted : (node : NodeId) (given : PlainGiven) (o : Option (Input Token Pdu)) → AreEqualAt node ue u v → given_in u node o ≡ Some ue
      → AnswerEqual node ue (plain_by reading u node given o) (plain_by reading v node given o)
  acted node given None equal is = absurd cc
  acted (CuCp gnb) given (Some input) equal is =
      of_seen (CuCp gnb) (cu_cp_view ue) (with_cu_cp u gnb) (with_cu_cp v gnb) (cu_cp_acts plain_way (cu_cp_of u gnb) input) (cu_cp_acts plain_way (cu_cp_of v gnb) input)
      (cp_same plain_way ue input is (cu_cp_of u gnb) (cu_cp_of v gnb) equal) (cp_there gnb)
  acted (up_id gnb number) given (Some input) equal is =
      of_seen (up_id gnb number) (cu_up_view ue) (with_cu_up u gnb number) (with_cu_up v gnb number) (cu_up_acts plain_way (cu_up_of u gnb number) input)
      (cu_up_acts plain_way (cu_up_of v gnb number) input) (up_same plain_way ue input (cu_up_of u gnb number) (cu_up_of v gnb number) equal.0 equal.1 is)
      (λ r q e. ap (cu_up_view ue) (up_there u gnb number r) ∙ e ∙ sym (ap (cu_up_view ue) (up_there v gnb number q)))
  acted (du_id gnb number) given (Some input) equal is =
      of_seen (du_id gnb number) (du_view ue) (with_du u gnb number) (with_du v gnb number) (du_acts plain_way (du_of u gnb number) input)
      (du_acts plain_way (du_of v gnb number) input) (du_same plain_way ue input (du_of u gnb number) (du_of v gnb number) equal is)
      (λ r q e. ap (du_view ue) (du_there u gnb number r) ∙ e ∙ sym (ap (du_view ue) (du_there v gnb number q)))
  acted Core given (Some input) equal is = absurd cc
  acted (Ue n) given (Some input) equal is =
      ue_equal n input (ue_of u (record { 0 = n })) (ue_of v (record { 0 = n })) equal refl refl

  written : (lengths : Lengths) (node : NodeId) (x y : PlainStepped) → AnswerEqual node ue x y
      → AnswerEqual node ue (written_step lengths x) (written_step lengths y)
  written lengths node (stepped xs a) (stepped ys b) p = (ap (map (written_put lengths)) p.0, p.1)
  written lengths node (step_spent m) (step_spent n) p = p
  written lengths node (stepped xs a) (step_spent n) p = absurd p
  written lengths node (step_spent m) (stepped ys b) p = absurd p

  pub equal_answers : (lengths : Lengths) (node : NodeId) (given : PlainGiven) → AreEqualAt node ue u v → given_ue reading u node given ≡ Some ue
      → AnswerEqual node ue ((plain_world reading).answer lengths u node given) ((plain_world reading).answer lengths v node given)
  equal_answers lengths node given equal is =
      written lengths node (plain_by reading u node given (input_of reading given)) (plain_by reading v node given (input_of reading given))
      (acted node given (input_of reading given) equal is)
