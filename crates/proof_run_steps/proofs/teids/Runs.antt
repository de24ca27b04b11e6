-- In every run each CU-UP and DU gives each TEID once.
use Rattle.std.proofs.Common.{◌≡◌, ℕ, ◌+◌, Bool, true, false, cond, ◌&&◌, List, Option, Some, None, refl, sym, subst}
use Rattle.std.specs.Prelude.{unwrap_or}
use Rattle.std.specs.Ordering.{eq_by_cmp}
use Rattle.std.specs.Option.{option_map}
use Rattle.std.specs.Cmp.{Equal-is}
use Rattle.gnb_types.specs.declared.names.Gnb.{Gnb}
use Rattle.gnb_types.specs.declared.names.Gnb.TheVariants.{A, B}
use Rattle.gnb_types.specs.declared.names.NodeId.{NodeId}
use Rattle.gnb_types.specs.declared.names.NodeId.TheVariants.{CuCp, CuUp as up_id, Du as du_id, Core, Ue}
use Rattle.gnb_types.specs.declared.plans.Plan.{Plan}
use Rattle.gnb_types.specs.Orders.{node_cmp}
use Rattle.gnb_types.proofs.OrderLemmas.{node_total, node_exact}
use Rattle.tables.specs.Tables.{find, at}
use Rattle.tables.proofs.TableLaws.{at-put}
use Rattle.message_types.specs.declared.rrc.Token.{Token}
use Rattle.scenario_text.specs.declared.event.Event.{Event}
use Rattle.unit_defs.specs.Ways.{Message, Pdu, Load, Put, Input, gives, spent}
use Rattle.unit_defs.specs.Static.{cu_up_placed, du_placed, cu_cp_placed, cu_up_set_up, du_set_up, cu_up_has_teids, du_has_teids}
use Rattle.unit_defs.specs.Ue.{UeNode, ue_acts}
use Rattle.unit_defs.specs.CuUpRecords.{CuUp}
use Rattle.unit_defs.specs.CuUp.{new_cu_up, cu_up_acts}
use Rattle.unit_defs.specs.Du.{Du, new_du, du_acts}
use Rattle.unit_defs.specs.CuCpRecords.{CuCpRecord}
use Rattle.unit_defs.specs.CuCp.{cu_cp_acts}
use Rattle.run_defs.specs.Units.{Units, cu_cp_of, with_cu_cp, cu_up_of, with_cu_up, du_of, with_du, ue_of, with_ue}
use Rattle.run_defs.specs.Written.{Written, PlainStepped, WrittenStepped, written_step}
use Rattle.run_defs.specs.States.{State, Lengths, stepped, step_spent}
use Rattle.run_defs.specs.Conditions.{units_placed, all_set_up}
use Rattle.run_defs.specs.Runs.{Reading, PlainGiven, Plain, plain_way, input_of, stepped_with, ue_stepped, acts_on, plain_by, plain_answer, plain_world}
use Rattle.proof_run_steps.specs.steps.Reached.{reached}
use Rattle.proof_run_steps.proofs.steps.Frames.{reached_relates}
use Rattle.proof_run_steps.specs.teids.Given.{GrowsTo, GiveOnce}
use Rattle.proof_run_steps.proofs.teids.Grows.{grows_less, grows_then}
use Rattle.proof_run_steps.proofs.teids.CuUps.{Gives as UpGives, cu_up_gives}
use Rattle.proof_run_steps.proofs.teids.Dus.{Gives as DuGives, du_gives}
use Rattle.proof_run_steps.proofs.teids.Placed.{up_grows, du_grows, find_mapped}

first_of_two : (a b : Bool) → a && b ≡ true → a ≡ true
first_of_two true b h = refl
first_of_two false b h = h

second_of_two : (a b : Bool) → a && b ≡ true → b ≡ true
second_of_two true b h = h
second_of_two false b h = absurd cc

module _ {M C : Type 0} where
  abbrev UpGrows : CuUp M C → CuUp M C → Type 0
  UpGrows r s = GrowsTo r.next_teid r.tunnels s.next_teid s.tunnels

  abbrev DuGrows : Du M C → Du M C → Type 0
  DuGrows r s = GrowsTo r.next_teid r.tunnels s.next_teid s.tunnels

  up_same : (r : CuUp M C) → UpGrows r r
  up_same r = grows_less r.next_teid r.tunnels r.tunnels (λ teid owner e. e)

  du_same : (r : Du M C) → DuGrows r r
  du_same r = grows_less r.next_teid r.tunnels r.tunnels (λ teid owner e. e)

  pub give_same : (u : Units M C) → GiveOnce u u
  give_same u = (λ gnb number. up_same (cu_up_of u gnb number), λ gnb number. du_same (du_of u gnb number))

  pub give_then : (u v w : Units M C) → GiveOnce u v → GiveOnce v w → GiveOnce u w
  give_then u v w p q = (
    λ gnb number. grows_then (cu_up_of u gnb number).next_teid (cu_up_of u gnb number).tunnels (cu_up_of v gnb number).next_teid (cu_up_of v gnb number).tunnels
        (cu_up_of w gnb number).next_teid (cu_up_of w gnb number).tunnels (p.0 gnb number) (q.0 gnb number),
    λ gnb number. grows_then (du_of u gnb number).next_teid (du_of u gnb number).tunnels (du_of v gnb number).next_teid (du_of v gnb number).tunnels
        (du_of w gnb number).next_teid (du_of w gnb number).tunnels (p.1 gnb number) (q.1 gnb number),
  )

  -- ---- one unit changes

  -- a CU-UP of another name stays, one of this name is the new one
  up_becomes : (u : Units M C) (gnb : Gnb) (number : ℕ) (r : CuUp M C) (g : Gnb) (n : ℕ)
      → cu_up_of (with_cu_up u gnb number r) g n ≡ cond (eq_by_cmp node_cmp (up_id g n) (up_id gnb number)) r (cu_up_of u g n)
  up_becomes u gnb number r g n = at-put node_total (new_cu_up g n) u.ups (up_id gnb number) r (up_id g n)

  du_becomes : (u : Units M C) (gnb : Gnb) (number : ℕ) (r : Du M C) (g : Gnb) (n : ℕ)
      → du_of (with_du u gnb number r) g n ≡ cond (eq_by_cmp node_cmp (du_id g n) (du_id gnb number)) r (du_of u g n)
  du_becomes u gnb number r g n = at-put node_total (new_du g n) u.dus (du_id gnb number) r (du_id g n)

  up_grown : (u : Units M C) (gnb : Gnb) (number : ℕ) (r : CuUp M C)
      → ((g : Gnb) (n : ℕ) → eq_by_cmp node_cmp (up_id g n) (up_id gnb number) ≡ true → UpGrows (cu_up_of u g n) r)
      → (g : Gnb) (n : ℕ) → UpGrows (cu_up_of u g n) (cu_up_of (with_cu_up u gnb number r) g n)
  up_grown u gnb number r grows g n =
      subst (λ (s : CuUp M C). UpGrows (cu_up_of u g n) s) (sym (up_becomes u gnb number r g n)) (by (eq_by_cmp node_cmp (up_id g n) (up_id gnb number)) refl)
    where
      by : (t : Bool) → eq_by_cmp node_cmp (up_id g n) (up_id gnb number) ≡ t → UpGrows (cu_up_of u g n) (cond t r (cu_up_of u g n))
      by true at = grows g n at
      by false at = up_same (cu_up_of u g n)

  du_grown : (u : Units M C) (gnb : Gnb) (number : ℕ) (r : Du M C)
      → ((g : Gnb) (n : ℕ) → eq_by_cmp node_cmp (du_id g n) (du_id gnb number) ≡ true → DuGrows (du_of u g n) r)
      → (g : Gnb) (n : ℕ) → DuGrows (du_of u g n) (du_of (with_du u gnb number r) g n)
  du_grown u gnb number r grows g n =
      subst (λ (s : Du M C). DuGrows (du_of u g n) s) (sym (du_becomes u gnb number r g n)) (by (eq_by_cmp node_cmp (du_id g n) (du_id gnb number)) refl)
    where
      by : (t : Bool) → eq_by_cmp node_cmp (du_id g n) (du_id gnb number) ≡ t → DuGrows (du_of u g n) (cond t r (du_of u g n))
      by true at = grows g n at
      by false at = du_same (du_of u g n)

  up_at_name : (u : Units M C) (gnb : Gnb) (number : ℕ) (r : CuUp M C) → UpGrows (cu_up_of u gnb number) r → (g : Gnb) (n : ℕ)
      → eq_by_cmp node_cmp (up_id g n) (up_id gnb number) ≡ true → UpGrows (cu_up_of u g n) r
  up_at_name u gnb number r grows g n tie =
      let same : up_id g n ≡ up_id gnb number = node_exact (up_id g n) (up_id gnb number) ((Equal-is (node_cmp (up_id g n) (up_id gnb number))).0 tie) in
      let gnbs : gnb ≡ g = cc in
      let numbers : number ≡ n = cc in
      subst (λ (p : Gnb × ℕ). UpGrows (cu_up_of u p.0 p.1) r) (λ i. (gnbs i, numbers i)) grows

  du_at_name : (u : Units M C) (gnb : Gnb) (number : ℕ) (r : Du M C) → DuGrows (du_of u gnb number) r → (g : Gnb) (n : ℕ)
      → eq_by_cmp node_cmp (du_id g n) (du_id gnb number) ≡ true → DuGrows (du_of u g n) r
  du_at_name u gnb number r grows g n tie =
      let same : du_id g n ≡ du_id gnb number = node_exact (du_id g n) (du_id gnb number) ((Equal-is (node_cmp (du_id g n) (du_id gnb number))).0 tie) in
      let gnbs : gnb ≡ g = cc in
      let numbers : number ≡ n = cc in
      subst (λ (p : Gnb × ℕ). DuGrows (du_of u p.0 p.1) r) (λ i. (gnbs i, numbers i)) grows

  pub with_up_gives : (u : Units M C) (gnb : Gnb) (number : ℕ) (r : CuUp M C) → UpGrows (cu_up_of u gnb number) r → GiveOnce u (with_cu_up u gnb number r)
  with_up_gives u gnb number r grows =
      (up_grown u gnb number r (up_at_name u gnb number r grows), λ g n. du_same (du_of u g n))

  pub with_du_gives : (u : Units M C) (gnb : Gnb) (number : ℕ) (r : Du M C) → DuGrows (du_of u gnb number) r → GiveOnce u (with_du u gnb number r)
  with_du_gives u gnb number r grows =
      (λ g n. up_same (cu_up_of u g n), du_grown u gnb number r (du_at_name u gnb number r grows))

  pub with_cp_gives : (u : Units M C) (gnb : Gnb) (r : CuCpRecord M C) → GiveOnce u (with_cu_cp u gnb r)
  with_cp_gives u A r = give_same u
  with_cp_gives u B r = give_same u

  -- ---- all units count as set up

  set_up_gives : (u : Units M C) → GiveOnce u (all_set_up u)
  unfolding at
  set_up_gives u = (ups, dus)
    where
      up_by : (g : Gnb) (n : ℕ) (o : Option (CuUp M C)) → UpGrows (unwrap_or o (new_cu_up g n)) (unwrap_or (option_map cu_up_set_up o) (new_cu_up g n))
      up_by g n None = up_same (new_cu_up g n)
      up_by g n (Some r) = up_same r

      ups : (g : Gnb) (n : ℕ) → UpGrows (cu_up_of u g n) (cu_up_of (all_set_up u) g n)
      ups g n =
          subst (λ (o : Option (CuUp M C)). UpGrows (cu_up_of u g n) (unwrap_or o (new_cu_up g n))) (sym (find_mapped node_cmp cu_up_set_up u.ups (up_id g n)))
          (up_by g n (find node_cmp u.ups (up_id g n)))

      du_by : (g : Gnb) (n : ℕ) (o : Option (Du M C)) → DuGrows (unwrap_or o (new_du g n)) (unwrap_or (option_map du_set_up o) (new_du g n))
      du_by g n None = du_same (new_du g n)
      du_by g n (Some r) = du_same r

      dus : (g : Gnb) (n : ℕ) → DuGrows (du_of u g n) (du_of (all_set_up u) g n)
      dus g n =
          subst (λ (o : Option (Du M C)). DuGrows (du_of u g n) (unwrap_or o (new_du g n))) (sym (find_mapped node_cmp du_set_up u.dus (du_id g n)))
          (du_by g n (find node_cmp u.dus (du_id g n)))

  pub placed_gives : (u : Units M C) (plan : Plan)
      → cu_up_has_teids (cu_up_of u plan.gnb plan.up) plan && du_has_teids (du_of u plan.gnb plan.du) plan ≡ true → GiveOnce u (all_set_up (units_placed plan u))
  placed_gives u plan left =
      let up : CuUp M C = cu_up_of u plan.gnb plan.up in
      let du : Du M C = du_of u plan.gnb plan.du in
      let a : Units M C = with_ue u plan.ue _ in
      let b : Units M C = with_cu_up a plan.gnb plan.up (cu_up_placed up plan du.next_teid) in
      let c : Units M C = with_du b plan.gnb plan.du (du_placed du plan (up.next_teid + 1)) in
      let d : Units M C = units_placed plan u in
      give_then u d (all_set_up d)
      (give_then u c d
      (give_then u b c
      (with_up_gives a plan.gnb plan.up (cu_up_placed up plan du.next_teid) (up_grows up plan du.next_teid (first_of_two _ _ left)))
      (with_du_gives b plan.gnb plan.du (du_placed du plan (up.next_teid + 1)) (du_grows du plan (up.next_teid + 1) (second_of_two _ _ left))))
      (with_cp_gives c plan.gnb (cu_cp_placed (cu_cp_of u plan.gnb) plan)))
      (set_up_gives d)

-- ---- the run

module _ (reading : Reading) where
  abbrev PlainUnits : Type 0
  PlainUnits = Units (Message Token) Token

  abbrev Answered : PlainUnits → PlainStepped → Type 0
  Answered u (stepped outputs v) = GiveOnce u v
  Answered u (step_spent counter) = Unit {0}

  abbrev AnsweredWell : PlainUnits → WrittenStepped → Type 0
  AnsweredWell u (stepped outputs v) = GiveOnce u v
  AnsweredWell u (step_spent counter) = Unit {0}

  by_cp : (u : PlainUnits) (gnb : Gnb) (a : Plain (CuCpRecord (Message Token) Token)) → Answered u (stepped_with reading (with_cu_cp u gnb) a)
  by_cp u gnb (gives outputs r) = with_cp_gives u gnb r
  by_cp u gnb (spent counter) = tt

  by_up : (u : PlainUnits) (gnb : Gnb) (number : ℕ) (a : Plain (CuUp (Message Token) Token)) → UpGives plain_way (cu_up_of u gnb number) a
      → Answered u (stepped_with reading (with_cu_up u gnb number) a)
  by_up u gnb number (gives outputs r) p = with_up_gives u gnb number r p.1
  by_up u gnb number (spent counter) p = tt

  by_du : (u : PlainUnits) (gnb : Gnb) (number : ℕ) (a : Plain (Du (Message Token) Token)) → DuGives plain_way (du_of u gnb number) a
      → Answered u (stepped_with reading (with_du u gnb number) a)
  by_du u gnb number (gives outputs r) p = with_du_gives u gnb number r p.1
  by_du u gnb number (spent counter) p = tt

  by_ue : (u : PlainUnits) (ue : ℕ) (a : Plain UeNode) → Answered u (stepped_with reading (with_ue u (record { 0 = ue })) a)
  by_ue u ue (gives outputs r) = give_same u
  by_ue u ue (spent counter) = tt

  acted : (u : PlainUnits) (node : NodeId) (input : Input Token Pdu) → Answered u (acts_on reading u node input)
  acted u (CuCp gnb) input = by_cp u gnb (cu_cp_acts plain_way (cu_cp_of u gnb) input)
  acted u (up_id gnb number) input =
      by_up u gnb number (cu_up_acts plain_way (cu_up_of u gnb number) input) (cu_up_gives plain_way (cu_up_of u gnb number) input)
  acted u (du_id gnb number) input =
      by_du u gnb number (du_acts plain_way (du_of u gnb number) input) (du_gives plain_way (du_of u gnb number) input)
  acted u (Ue ue) input = there (ue_of u (record { 0 = ue }))
    where
      there : (o : Option UeNode) → Answered u (ue_stepped reading u ue input o)
      there None = give_same u
      there (Some x) = by_ue u ue (ue_acts plain_way x input)
  acted u Core input = give_same u

  answered : (u : PlainUnits) (node : NodeId) (given : PlainGiven) (o : Option (Input Token Pdu)) → Answered u (plain_by reading u node given o)
  answered u node given None = give_same u
  answered u node given (Some input) = acted u node input

  written : (lengths : Lengths) (u : PlainUnits) (x : PlainStepped) → Answered u x → AnsweredWell u (written_step lengths x)
  written lengths u (stepped outputs v) p = p
  written lengths u (step_spent counter) p = tt

  pub answer_gives : (lengths : Lengths) (u v : PlainUnits) (node : NodeId) (given : PlainGiven)
      (outputs : List (Put (Message Token) (Written (Load Pdu)) (Written Pdu))) → plain_answer reading lengths u node given ≡ stepped outputs v → GiveOnce u v
  answer_gives lengths u v node given outputs e =
      subst (AnsweredWell u) e (written lengths u (plain_by reading u node given (input_of reading given)) (answered u node given (input_of reading given)))

  pub given_once : (events : List Event) (s t : State (Message Token) Token (Written (Load Pdu)) (Written Pdu))
      → reached (plain_world reading) events s ≡ Some t → GiveOnce s.units t.units
  given_once events s t is =
      reached_relates (plain_world reading) GiveOnce give_same give_then
      answer_gives (λ u plan. give_same u) (λ u plan free room teids. placed_gives u plan teids) events s t is
