-- A step of one unit, seen in all units.
use Rattle.std.proofs.Common.{◌≡◌, ℕ, Bool, true, false, cond, List, [], ◌∷◌, map, Option, Some, None, refl, sym, ap, ◌∙◌, subst}
use Rattle.std.specs.List.{AllByRecursion}
use Rattle.std.specs.Ordering.{eq_by_cmp}
use Rattle.std.specs.Cmp.{Equal-is}
use Rattle.gnb_types.specs.declared.names.Gnb.{Gnb}
use Rattle.gnb_types.specs.declared.names.Gnb.TheVariants.{A, B}
use Rattle.gnb_types.specs.declared.names.NodeId.{NodeId}
use Rattle.gnb_types.specs.declared.names.NodeId.TheVariants.{CuCp, CuUp as up_id, Du as du_id, Core, Ue}
use Rattle.gnb_types.specs.declared.names.UeId.{UeId}
use Rattle.gnb_types.specs.Orders.{node_cmp}
use Rattle.gnb_types.proofs.OrderLemmas.{node_total, node_exact, ue_total}
use Rattle.tables.proofs.TableLaws.{at-put, find-put-other}
use Rattle.message_types.specs.declared.rrc.Token.{Token}
use Rattle.unit_defs.specs.Ways.{Message, Pdu, Load, Input, Put, control, packet, radio, deliver, dropped, held, opened, closed, failed, no, Answer, gives, spent}
use Rattle.unit_defs.specs.CuUpRecords.{CuUp}
use Rattle.unit_defs.specs.CuUp.{new_cu_up, cu_up_acts}
use Rattle.unit_defs.specs.Du.{Du, new_du, du_acts}
use Rattle.unit_defs.specs.Ue.{UeNode, ue_acts}
use Rattle.unit_defs.specs.CuCpRecords.{CuCpRecord}
use Rattle.unit_defs.specs.CuCp.{cu_cp_acts}
use Rattle.run_defs.specs.Units.{Units, cu_cp_of, with_cu_cp, cu_up_of, with_cu_up, du_of, with_du, ue_of, with_ue}
use Rattle.run_defs.specs.States.{Lengths, stepped, step_spent}
use Rattle.run_defs.specs.Written.{written_put, PlainStepped, written_step}
use Rattle.run_defs.specs.Runs.{Reading, PlainGiven, plain_way, input_of, stepped_with, ue_stepped, acts_on, plain_by, plain_world}
use Rattle.law_terminals_are_isolated.specs.projections.Steps.{IsFor, PutsFor, StaysFor}
use Rattle.law_terminals_are_isolated.proofs.projections.Tables.{apart_ues}
use Rattle.law_terminals_are_isolated.specs.cu_cp_projection.CuCps.{cu_cp_projection}
use Rattle.law_terminals_are_isolated.proofs.cu_cp_projection.Others.{cp_steps}
use Rattle.law_terminals_are_isolated.specs.cu_up_projection.CuUps.{cu_up_without_teids}
use Rattle.law_terminals_are_isolated.proofs.cu_up_projection.Others.{up_steps}
use Rattle.law_terminals_are_isolated.specs.du_projection.Dus.{du_projection}
use Rattle.law_terminals_are_isolated.proofs.du_projection.Others.{du_steps}
use Rattle.law_terminals_are_isolated.proofs.ue_projection.Terminals.{acts_own}
use Rattle.law_terminals_are_isolated.specs.run_projections.Units.{units_projection, unit_ue, given_in, given_ue, IsUnitsStepOf, AreApart}

gnb_in : NodeId → Gnb
gnb_in (CuCp gnb) = gnb
gnb_in (up_id gnb number) = gnb
gnb_in (du_id gnb number) = gnb
gnb_in Core = A
gnb_in (Ue ue) = A

number_in : NodeId → ℕ
number_in (CuCp gnb) = 0
number_in (up_id gnb number) = number
number_in (du_id gnb number) = number
number_in Core = 0
number_in (Ue ue) = ue

same_node : (a b : NodeId) → eq_by_cmp node_cmp a b ≡ true → a ≡ b
same_node a b h = node_exact a b ((Equal-is (node_cmp a b)).0 h)

module _ {M C : Type 0} (units : Units M C) (ue : UeId) where
  abbrev Stays : Units M C → Type 0
  Stays after = StaysFor units_projection ue units after

  cp_stays : (gnb : Gnb) (r : CuCpRecord M C) → StaysFor cu_cp_projection ue (cu_cp_of units gnb) r → Stays (with_cu_cp units gnb r)
  cp_stays A r stays other apart = λ i. record (units_projection other units) { cps = λ g. by g i }
    where
      by : (g : Gnb) → cu_cp_projection other (cu_cp_of (with_cu_cp units A r) g) ≡ cu_cp_projection other (cu_cp_of units g)
      by A = stays other apart
      by B = refl
  cp_stays B r stays other apart = λ i. record (units_projection other units) { cps = λ g. by g i }
    where
      by : (g : Gnb) → cu_cp_projection other (cu_cp_of (with_cu_cp units B r) g) ≡ cu_cp_projection other (cu_cp_of units g)
      by A = refl
      by B = stays other apart

  up_stays : (gnb : Gnb) (number : ℕ) (r : CuUp M C) → StaysFor cu_up_without_teids ue (cu_up_of units gnb number) r → Stays (with_cu_up units gnb number r)
  unfolding gnb_in number_in
  up_stays gnb number r stays other apart = λ i. record (units_projection other units) { ups = λ g n. at g n i }
    where
      by : (g : Gnb) (n : ℕ) (t : Bool) → eq_by_cmp node_cmp (up_id g n) (up_id gnb number) ≡ t → cu_up_without_teids other (cond t r (cu_up_of units g n)) ≡ cu_up_without_teids other (cu_up_of units g n)
      by g n true tie =
          let same : up_id g n ≡ up_id gnb number = same_node (up_id g n) (up_id gnb number) tie in
          stays other apart ∙ sym (λ i. cu_up_without_teids other (cu_up_of units (gnb_in (same i)) (number_in (same i))))
      by g n false tie = refl

      at : (g : Gnb) (n : ℕ) → cu_up_without_teids other (cu_up_of (with_cu_up units gnb number r) g n) ≡ cu_up_without_teids other (cu_up_of units g n)
      at g n =
          ap (cu_up_without_teids other) (at-put node_total (new_cu_up g n) units.ups (up_id gnb number) r (up_id g n))
          ∙ by g n (eq_by_cmp node_cmp (up_id g n) (up_id gnb number)) refl

  du_stays : (gnb : Gnb) (number : ℕ) (r : Du M C) → StaysFor du_projection ue (du_of units gnb number) r → Stays (with_du units gnb number r)
  unfolding gnb_in number_in
  du_stays gnb number r stays other apart = λ i. record (units_projection other units) { dus = λ g n. at g n i }
    where
      by : (g : Gnb) (n : ℕ) (t : Bool) → eq_by_cmp node_cmp (du_id g n) (du_id gnb number) ≡ t → du_projection other (cond t r (du_of units g n)) ≡ du_projection other (du_of units g n)
      by g n true tie =
          let same : du_id g n ≡ du_id gnb number = same_node (du_id g n) (du_id gnb number) tie in
          stays other apart ∙ sym (λ i. du_projection other (du_of units (gnb_in (same i)) (number_in (same i))))
      by g n false tie = refl

      at : (g : Gnb) (n : ℕ) → du_projection other (du_of (with_du units gnb number r) g n) ≡ du_projection other (du_of units g n)
      at g n =
          ap (du_projection other) (at-put node_total (new_du g n) units.dus (du_id gnb number) r (du_id g n))
          ∙ by g n (eq_by_cmp node_cmp (du_id g n) (du_id gnb number)) refl

  ue_stays : (u : UeNode) → Stays (with_ue units ue u)
  ue_stays u other apart = λ i. record (units_projection other units) {
    node = find-put-other ue_total units.ues ue u other (apart_ues other ue apart) i;
  }

-- ---- the same as it stands on links

written_for : (lengths : Lengths) (ue : ℕ) (xs : List (Put (Message Token) (Load Pdu) Pdu)) → AllByRecursion (IsFor ue) xs
    → AllByRecursion (IsFor ue) (map (written_put lengths) xs)
written_for lengths ue [] all = tt
written_for lengths ue (x ∷ xs) all = (by x all.0, written_for lengths ue xs all.1)
  where
    by : (y : Put (Message Token) (Load Pdu) Pdu) → IsFor ue y → IsFor ue (written_put lengths y)
    by (control to u m) is = is
    by (packet to teid u bearer dir tag load) is = is
    by (radio u bearer dir epoch tag pdu) is = is
    by (deliver u bearer dir count p) is = is
    by (dropped reason) is = tt
    by (held reason) is = tt
    by (opened teid) is = tt
    by (closed teid) is = tt
    by (failed u cause) is = is
    by (no reason) is = tt

module _ (reading : Reading) (units : Units (Message Token) Token) (ue : UeId) where
  written_step_of : (lengths : Lengths) (a : PlainStepped) → IsUnitsStepOf ue units a → IsUnitsStepOf ue units (written_step lengths a)
  written_step_of lengths (stepped outputs after) h = (written_for lengths ue.0 outputs h.0, h.1)
  written_step_of lengths (step_spent counter) h = tt

  of_answer : {R : Type 0} (H : R → Type 0) (back : R → Units (Message Token) Token) (a : Answer (Message Token) Pdu R)
      → ((r : R) → H r → StaysFor units_projection ue units (back r)) → PutsFor ue.0 H a → IsUnitsStepOf ue units (stepped_with reading back a)
  of_answer H back (gives outputs r) stays h = (h.0, stays r h.1)
  of_answer H back (spent counter) stays h = tt

  by_node : (input : Input Token Pdu) (u : Option UeNode) → ue_of units ue ≡ u → ((x : UeNode) → u ≡ Some x → x.plan.ue ≡ ue)
      → IsUnitsStepOf ue units (ue_stepped reading units ue.0 input u)
  by_node input None is own = (tt, λ other apart. refl)
  by_node input (Some u) is own =
      of_answer (λ after. after.plan ≡ u.plan) (with_ue units ue) (ue_acts plain_way u input) (λ r h. ue_stays units ue r)
      (subst (λ (v : UeId). PutsFor v.0 (λ (after : UeNode). after.plan ≡ u.plan) (ue_acts plain_way u input)) (own u refl) (acts_own plain_way u input))

  unit_step : (node : NodeId) (input : Input Token Pdu) → AreApart units → ((x : UeNode) → ue_of units ue ≡ Some x → x.plan.ue ≡ ue)
      → unit_ue units node input ≡ Some ue → IsUnitsStepOf ue units (acts_on reading units node input)
  unit_step (CuCp gnb) input free own is =
      of_answer (StaysFor cu_cp_projection ue (cu_cp_of units gnb)) (with_cu_cp units gnb) (cu_cp_acts plain_way (cu_cp_of units gnb) input) (cp_stays units ue gnb)
      (cp_steps plain_way ue input (cu_cp_of units gnb) is)
  unit_step (up_id gnb number) input free own is =
      of_answer (StaysFor cu_up_without_teids ue (cu_up_of units gnb number)) (with_cu_up units gnb number) (cu_up_acts plain_way (cu_up_of units gnb number) input)
      (up_stays units ue gnb number) (up_steps plain_way ue input (cu_up_of units gnb number) is)
  unit_step (du_id gnb number) input free own is =
      of_answer (StaysFor du_projection ue (du_of units gnb number)) (with_du units gnb number) (du_acts plain_way (du_of units gnb number) input)
      (du_stays units ue gnb number) (du_steps plain_way ue input (du_of units gnb number) (free gnb number) is)
  unit_step Core input free own is = absurd cc
  unit_step (Ue n) input free own is =
      subst (λ (v : UeId). IsUnitsStepOf ue units (ue_stepped reading units v.0 input (ue_of units v))) (sym (some_ue (record { 0 = n }) ue is))
      (by_node input (ue_of units ue) refl own)
    where
      some_ue : (a b : UeId) → Some a ≡ Some b → a ≡ b
      some_ue a b e = cc

  pub given_step : (lengths : Lengths) (node : NodeId) (given : PlainGiven) → AreApart units
      → ((x : UeNode) → ue_of units ue ≡ Some x → x.plan.ue ≡ ue) → given_ue reading units node given ≡ Some ue
      → IsUnitsStepOf ue units ((plain_world reading).answer lengths units node given)
  given_step lengths node given free own is = written_step_of lengths (plain_by reading units node given (input_of reading given)) (by (input_of reading given) is)
    where
      by : (o : Option (Input Token Pdu)) → given_in units node o ≡ Some ue → IsUnitsStepOf ue units (plain_by reading units node given o)
      by None e = absurd cc
      by (Some input) e = unit_step node input free own e
