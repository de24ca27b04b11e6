-- Units of which a terminal's projection is the same, and what is shared at the node that acts: the node puts out the same for the
-- terminal, and the projection is the same of all units then.
use Rattle.std.proofs.Common.{◌≡◌, ℕ, Bool, true, false, cond, List, [], ◌∷◌, map, Option, Some, None, refl, sym, ap, ◌∙◌, subst}
use Rattle.std.specs.List.{AllByRecursion}
use Rattle.std.specs.Ordering.{eq_by_cmp, is_eq}
use Rattle.std.specs.Cmp.{Equal-is, tied_itself}
use Rattle.gnb_types.specs.declared.names.Gnb.{Gnb}
use Rattle.gnb_types.specs.declared.names.Gnb.TheVariants.{A, B}
use Rattle.gnb_types.specs.declared.names.NodeId.{NodeId}
use Rattle.gnb_types.specs.declared.names.NodeId.TheVariants.{CuCp, CuUp as up_id, Du as du_id, Core, Ue}
use Rattle.gnb_types.specs.declared.names.UeId.{UeId}
use Rattle.gnb_types.specs.declared.names.SnBits.{SnBits}
use Rattle.gnb_types.specs.Orders.{ue_cmp, node_cmp}
use Rattle.gnb_types.proofs.OrderLemmas.{node_total, node_exact, ue_total, ue_exact}
use Rattle.tables.proofs.TableLaws.{at-put, find-put}
use Rattle.message_types.specs.declared.rrc.Token.{Token}
use Rattle.unit_defs.specs.Ways.{Message, Pdu, Load, Put, control, packet, radio, deliver, dropped, held, opened, closed, failed, no, Input, gives, spent}
use Rattle.unit_defs.specs.CuUpRecords.{CuUp}
use Rattle.unit_defs.specs.CuUp.{new_cu_up, cu_up_acts}
use Rattle.unit_defs.specs.Du.{Du, new_du, du_acts}
use Rattle.unit_defs.specs.Ue.{UeNode, ue_acts}
use Rattle.unit_defs.specs.CuCpRecords.{CuCpRecord}
use Rattle.unit_defs.specs.CuCp.{cu_cp_acts}
use Rattle.run_defs.specs.Units.{Units, cu_cp_of, with_cu_cp, cu_up_of, with_cu_up, du_of, with_du, ue_of, with_ue}
use Rattle.run_defs.specs.Written.{Written, written_item, written_pdu, written_put, PlainStepped, WrittenStepped, written_step}
use Rattle.run_defs.specs.States.{Lengths, stepped, step_spent}
use Rattle.run_defs.specs.Runs.{Reading, PlainGiven, Plain, plain_way, input_of, stepped_with, ue_stepped, plain_by, plain_world}
use Rattle.law_terminals_are_isolated.specs.projections.Steps.{IsFor}
use Rattle.law_terminals_are_isolated.specs.cu_cp_projection.CuCps.{CuCpShared, cu_cp_projection}
use Rattle.law_terminals_are_isolated.specs.cu_up_projection.CuUps.{UpShared, cu_up_projection, cu_up_without_teids}
use Rattle.law_terminals_are_isolated.specs.du_projection.Dus.{DuShared, du_projection}
use Rattle.law_terminals_are_isolated.specs.run_projections.Units.{units_projection, given_in, given_ue, IsUnitsStepOf}
use Rattle.law_terminals_are_isolated.proofs.run_projections.Units.{given_step}
use Rattle.law_terminals_are_isolated.proofs.projection_owners.Owners.{apart_of}
use Rattle.law_terminals_are_isolated.specs.projection_arguments.Views.{AreEqualAt, StayEqualAt, AnswerEqual}
use Rattle.law_terminals_are_isolated.proofs.projection_arguments.Views.{equal_answers}
use Rattle.law_terminals_are_isolated.proofs.own_steps.Steps.{Sound}
use Rattle.law_terminals_are_isolated.specs.own_events.Events.{RunState}
use Rattle.law_terminals_are_isolated.specs.step_consistency.Places.{of_cu_cp, of_up, of_du, shared_at}
use Rattle.law_terminals_are_isolated.specs.step_consistency.EqualStates.{Agree, Together}

abbrev pub RunUnits : Type 0
RunUnits = Units (Message Token) Token

abbrev pub RunPuts : Type 0
RunPuts = List (Put (Message Token) (Written (Load Pdu)) (Written Pdu))

same_node : (a b : NodeId) → eq_by_cmp node_cmp a b ≡ true → a ≡ b
same_node a b h = node_exact a b ((Equal-is (node_cmp a b)).0 h)

itself : (a : NodeId) → eq_by_cmp node_cmp a a ≡ true
itself a = ap is_eq (tied_itself node_total a)

true_not : true ≡ false → ⊥
true_not h = absurd cc

-- what is put for a terminal is so with its octets
pub written_for : (lengths : Lengths) (ue : ℕ) (xs : List (Put (Message Token) (Load Pdu) Pdu)) → AllByRecursion (IsFor ue) xs
    → AllByRecursion (IsFor ue) (map (written_put lengths) xs)
written_for lengths ue [] all = tt
written_for lengths ue (x ∷ xs) all = (by x all.0, written_for lengths ue xs all.1)
  where
    by : (y : Put (Message Token) (Load Pdu) Pdu) → IsFor ue y → IsFor ue (written_put lengths y)
    by (control to u m) is = is
    by (packet to teid u bearer dir tag load) is = is
    by (radio u bearer dir epoch tag pdu) is = is
    by (deliver u bearer dir count p) is = is
    by (dropped reason) is = tt
    by (held reason) is = tt
    by (opened teid) is = tt
    by (closed teid) is = tt
    by (failed u cause) is = is
    by (no reason) is = tt

-- ---- the projection of all units, with the open TEIDs of CU-UPs

module _ (ue : UeId) where
  -- ---- what is the same at the node that acts

  equal_at : (node : NodeId) (u v : RunUnits) → Agree ue u v → shared_at u node ≡ shared_at v node → ((n : ℕ) → node ≡ Ue n → record { 0 = n } ≡ ue)
      → AreEqualAt node ue u v
  equal_at (CuCp gnb) u v h e own = let shared = the_cp e in (λ i. ((h.units i).cps gnb, shared i))
    where
      the_cp : {a b : CuCpShared} → of_cu_cp a ≡ of_cu_cp b → a ≡ b
      the_cp e = cc
  equal_at (up_id gnb number) u v h e own =
      let both = the_up e in
      (λ i. (h.tunnels gnb number i, both.0 i), λ count quota. ap (λ (f : ℕ → ℕ → Bool). f count quota) both.1)
    where
      the_up : {a b : UpShared} {f g : ℕ → ℕ → Bool} → of_up a f ≡ of_up b g → (a ≡ b) × (f ≡ g)
      the_up e = (cc, cc)
  equal_at (du_id gnb number) u v h e own = let shared = the_du e in (λ i. ((h.units i).dus gnb number, shared i))
    where
      the_du : {a b : DuShared} → of_du a ≡ of_du b → a ≡ b
      the_du e = cc
  equal_at Core u v h e own = tt
  equal_at (Ue n) u v h e own =
      subst (λ (w : UeId). ue_of u w ≡ ue_of v w) (sym (own n refl)) (λ i. (h.units i).node)

  -- ---- a step changes the node that acts alone

  pub record OnlyAt (node : NodeId) (u v : RunUnits) : Type 0 where
    pub cps : (g : Gnb) → eq_by_cmp node_cmp (CuCp g) node ≡ false → cu_cp_of v g ≡ cu_cp_of u g
    pub ups : (g : Gnb) (n : ℕ) → eq_by_cmp node_cmp (up_id g n) node ≡ false → cu_up_of v g n ≡ cu_up_of u g n
    pub dus : (g : Gnb) (n : ℕ) → eq_by_cmp node_cmp (du_id g n) node ≡ false → du_of v g n ≡ du_of u g n
    pub ues : (n : ℕ) → eq_by_cmp node_cmp (Ue n) node ≡ false → ue_of v (record { 0 = n }) ≡ ue_of u (record { 0 = n })

  only_same : (node : NodeId) (u : RunUnits) → OnlyAt node u u
  only_same node u = record { cps = λ g apart. refl; ups = λ g n apart. refl; dus = λ g n apart. refl; ues = λ n apart. refl }

  only_cp : (u : RunUnits) (gnb : Gnb) (r : CuCpRecord (Message Token) Token) → OnlyAt (CuCp gnb) u (with_cu_cp u gnb r)
  only_cp u A r = record {
    cps = λ g. by g;
    ups = λ g n apart. refl;
    dus = λ g n apart. refl;
    ues = λ n apart. refl;
  }
    where
      by : (g : Gnb) → eq_by_cmp node_cmp (CuCp g) (CuCp A) ≡ false → cu_cp_of (with_cu_cp u A r) g ≡ cu_cp_of u g
      by A apart = absurd (true_not (sym (itself (CuCp A)) ∙ apart))
      by B apart = refl
  only_cp u B r = record {
    cps = λ g. by g;
    ups = λ g n apart. refl;
    dus = λ g n apart. refl;
    ues = λ n apart. refl;
  }
    where
      by : (g : Gnb) → eq_by_cmp node_cmp (CuCp g) (CuCp B) ≡ false → cu_cp_of (with_cu_cp u B r) g ≡ cu_cp_of u g
      by B apart = absurd (true_not (sym (itself (CuCp B)) ∙ apart))
      by A apart = refl

  only_up : (u : RunUnits) (gnb : Gnb) (number : ℕ) (r : CuUp (Message Token) Token) → OnlyAt (up_id gnb number) u (with_cu_up u gnb number r)
  only_up u gnb number r = record {
    cps = λ g apart. refl;
    ups = λ g n apart.
        at-put node_total (new_cu_up g n) u.ups (up_id gnb number) r (up_id g n) ∙ ap (λ (b : Bool). cond b r (cu_up_of u g n)) apart;
    dus = λ g n apart. refl;
    ues = λ n apart. refl;
  }

  only_du : (u : RunUnits) (gnb : Gnb) (number : ℕ) (r : Du (Message Token) Token) → OnlyAt (du_id gnb number) u (with_du u gnb number r)
  only_du u gnb number r = record {
    cps = λ g apart. refl;
    ups = λ g n apart. refl;
    dus = λ g n apart.
        at-put node_total (new_du g n) u.dus (du_id gnb number) r (du_id g n) ∙ ap (λ (b : Bool). cond b r (du_of u g n)) apart;
    ues = λ n apart. refl;
  }

  only_ue : (u : RunUnits) (k : ℕ) (x : UeNode) → OnlyAt (Ue k) u (with_ue u (record { 0 = k }) x)
  only_ue u k x = record {
    cps = λ g apart. refl;
    ups = λ g n apart. refl;
    dus = λ g n apart. refl;
    ues = λ n apart. find-put ue_total u.ues (record { 0 = k }) x (record { 0 = n }) ∙ by n apart (eq_by_cmp ue_cmp (record { 0 = n }) (record { 0 = k })) refl;
  }
    where
      by : (n : ℕ) → eq_by_cmp node_cmp (Ue n) (Ue k) ≡ false → (b : Bool) → eq_by_cmp ue_cmp (record { 0 = n }) (record { 0 = k }) ≡ b
          → cond b (Some x) (ue_of u (record { 0 = n })) ≡ ue_of u (record { 0 = n })
      by n apart false tie = refl
      by n apart true tie =
          let same : ◌≡◌ {A = UeId} (record { 0 = n }) (record { 0 = k }) =
          ue_exact (record { 0 = n }) (record { 0 = k }) ((Equal-is (ue_cmp (record { 0 = n }) (record { 0 = k }))).0 tie) in
          absurd (true_not (sym (itself (Ue k)) ∙ ap (λ (w : UeId). eq_by_cmp node_cmp (Ue w.0) (Ue k)) (sym same) ∙ apart))

  -- ---- so the projection is the same of all units then

  pub agrees : (node : NodeId) (u v a b : RunUnits) → Agree ue u v → OnlyAt node u a → OnlyAt node v b → StayEqualAt node ue a b → Agree ue a b
  agrees node u v a b h only also stay = record {
    units = λ i. record { cps = λ g. cps g i; ups = λ g n. ups g n i; dus = λ g n. dus g n i; node = there i };
    tunnels = λ g n. tunnels g n;
  }
    where
      at_node : (m : NodeId) → eq_by_cmp node_cmp m node ≡ true → StayEqualAt m ue a b
      at_node m tie = subst (λ (k : NodeId). StayEqualAt k ue a b) (sym (same_node m node tie)) stay

      cps : (g : Gnb) → (units_projection ue a).cps g ≡ (units_projection ue b).cps g
      cps g = by (eq_by_cmp node_cmp (CuCp g) node) refl
        where
          by : (t : Bool) → eq_by_cmp node_cmp (CuCp g) node ≡ t → (units_projection ue a).cps g ≡ (units_projection ue b).cps g
          by true tie = λ i. (at_node (CuCp g) tie i).0
          by false tie =
              ap (λ (r : CuCpRecord (Message Token) Token). cu_cp_projection ue r) (only.cps g tie)
              ∙ (λ i. (h.units i).cps g)
              ∙ sym (ap (λ (r : CuCpRecord (Message Token) Token). cu_cp_projection ue r) (also.cps g tie))

      tunnels : (g : Gnb) (n : ℕ) → cu_up_projection ue (cu_up_of a g n) ≡ cu_up_projection ue (cu_up_of b g n)
      tunnels g n = by (eq_by_cmp node_cmp (up_id g n) node) refl
        where
          by : (t : Bool) → eq_by_cmp node_cmp (up_id g n) node ≡ t → cu_up_projection ue (cu_up_of a g n) ≡ cu_up_projection ue (cu_up_of b g n)
          by true tie = λ i. (at_node (up_id g n) tie i).0
          by false tie = ap (cu_up_projection ue) (only.ups g n tie) ∙ h.tunnels g n ∙ sym (ap (cu_up_projection ue) (also.ups g n tie))

      ups : (g : Gnb) (n : ℕ) → cu_up_without_teids ue (cu_up_of a g n) ≡ cu_up_without_teids ue (cu_up_of b g n)
      ups g n = λ i. record { context = (tunnels g n i).context; requests = (tunnels g n i).requests }

      dus : (g : Gnb) (n : ℕ) → du_projection ue (du_of a g n) ≡ du_projection ue (du_of b g n)
      dus g n = by (eq_by_cmp node_cmp (du_id g n) node) refl
        where
          by : (t : Bool) → eq_by_cmp node_cmp (du_id g n) node ≡ t → du_projection ue (du_of a g n) ≡ du_projection ue (du_of b g n)
          by true tie = λ i. (at_node (du_id g n) tie i).0
          by false tie = ap (du_projection ue) (only.dus g n tie) ∙ (λ i. (h.units i).dus g n) ∙ sym (ap (du_projection ue) (also.dus g n tie))

      there : ue_of a ue ≡ ue_of b ue
      there = by (eq_by_cmp node_cmp (Ue ue.0) node) refl
        where
          by : (t : Bool) → eq_by_cmp node_cmp (Ue ue.0) node ≡ t → ue_of a ue ≡ ue_of b ue
          by true tie = at_node (Ue ue.0) tie
          by false tie = only.ues ue.0 tie ∙ (λ i. (h.units i).node) ∙ sym (also.ues ue.0 tie)

  -- ---- what a unit answers

  module _ (reading : Reading) where
    abbrev Only : NodeId → RunUnits → PlainStepped → Type 0
    Only node u (stepped outputs v) = OnlyAt node u v
    Only node u (step_spent counter) = Unit {0}

    abbrev OnlyWritten : NodeId → RunUnits → WrittenStepped → Type 0
    OnlyWritten node u (stepped outputs v) = OnlyAt node u v
    OnlyWritten node u (step_spent counter) = Unit {0}

    only_back : {R : Type 0} (node : NodeId) (u : RunUnits) (back : R → RunUnits) (a : Plain R) → ((r : R) → OnlyAt node u (back r)) → Only node u (stepped_with reading back a)
    only_back node u back (gives outputs r) each = each r
    only_back node u back (spent counter) each = tt

    only_by : (u : RunUnits) (node : NodeId) (given : PlainGiven) (o : Option (Input Token Pdu)) → Only node u (plain_by reading u node given o)
    only_by u node given None = only_same node u
    only_by u (CuCp gnb) given (Some input) = only_back (CuCp gnb) u (with_cu_cp u gnb) (cu_cp_acts plain_way (cu_cp_of u gnb) input) (only_cp u gnb)
    only_by u (up_id gnb number) given (Some input) =
        only_back (up_id gnb number) u (with_cu_up u gnb number) (cu_up_acts plain_way (cu_up_of u gnb number) input) (only_up u gnb number)
    only_by u (du_id gnb number) given (Some input) =
        only_back (du_id gnb number) u (with_du u gnb number) (du_acts plain_way (du_of u gnb number) input) (only_du u gnb number)
    only_by u Core given (Some input) = only_same Core u
    only_by u (Ue n) given (Some input) = by (ue_of u (record { 0 = n }))
      where
        by : (o : Option UeNode) → Only (Ue n) u (ue_stepped reading u n input o)
        by None = only_same (Ue n) u
        by (Some x) = only_back (Ue n) u (with_ue u (record { 0 = n })) (ue_acts plain_way x input) (only_ue u n)

    only_written : (lengths : Lengths) (node : NodeId) (u : RunUnits) (x : PlainStepped) → Only node u x → OnlyWritten node u (written_step lengths x)
    only_written lengths node u (stepped outputs v) p = p
    only_written lengths node u (step_spent counter) p = tt

    pub only_answered : (lengths : Lengths) (u : RunUnits) (node : NodeId) (given : PlainGiven) (outputs : RunPuts) (v : RunUnits)
        → (plain_world reading).answer lengths u node given ≡ stepped outputs v → OnlyAt node u v
    only_answered lengths u node given outputs v is = subst (OnlyWritten node u) is
        (only_written lengths node u (plain_by reading u node given (input_of reading given)) (only_by u node given (input_of reading given)))

    -- what is put for the terminal is written by its own length alone
    at_ue : (a b : Lengths) → a ue ≡ b ue → (who : UeId) → who.0 ≡ ue.0 → a who ≡ b who
    at_ue a b e who is =
        let same : who ≡ ue = ap (λ (n : ℕ). record { 0 = n }) is in
        subst (λ (w : UeId). a w ≡ b w) (sym same) e

    put_same : (a b : Lengths) → a ue ≡ b ue → (x : Put (Message Token) (Load Pdu) Pdu) → IsFor ue.0 (written_put a x) → written_put a x ≡ written_put b x
    put_same a b e (control to who message) is = refl
    put_same a b e (packet to teid who bearer dir tag load) is =
        ap (λ (sn : SnBits). packet to teid who bearer dir tag (written_item sn teid load)) (at_ue a b e who is)
    put_same a b e (radio who bearer dir epoch tag pdu) is =
        ap (λ (sn : SnBits). radio who bearer dir epoch tag (written_pdu sn pdu)) (at_ue a b e who is)
    put_same a b e (deliver who bearer dir count p) is = refl
    put_same a b e (dropped reason) is = refl
    put_same a b e (held reason) is = refl
    put_same a b e (opened teid) is = refl
    put_same a b e (closed teid) is = refl
    put_same a b e (failed who cause) is = refl
    put_same a b e (no reason) is = refl

    pub all_same : (a b : Lengths) → a ue ≡ b ue → (xs : List (Put (Message Token) (Load Pdu) Pdu)) → AllByRecursion (IsFor ue.0) (map (written_put a) xs)
        → map (written_put a) xs ≡ map (written_put b) xs
    all_same a b e [] all = refl
    all_same a b e (x ∷ xs) all = λ i. put_same a b e x all.0 i ∷ all_same a b e xs all.1 i

    step_same : (a b : Lengths) → a ue ≡ b ue → (u : RunUnits) (x : PlainStepped) → IsUnitsStepOf ue u (written_step a x) → written_step a x ≡ written_step b x
    step_same a b e u (stepped outputs v) is = ap (λ (os : RunPuts). stepped os v) (all_same a b e outputs is.0)
    step_same a b e u (step_spent counter) is = refl

    -- ---- two answers

    module _ (s t : RunState) (sound : Sound s) (also : Sound t) (h : Agree ue s.units t.units) (la lb : Lengths) (same : la ue ≡ lb ue) where
      pub together : (node : NodeId) (given : PlainGiven) (xs ys : RunPuts) (a b : RunUnits) → given_ue reading s.units node given ≡ Some ue
          → given_ue reading t.units node given ≡ Some ue → shared_at s.units node ≡ shared_at t.units node
          → (plain_world reading).answer la s.units node given ≡ stepped xs a → (plain_world reading).answer lb t.units node given ≡ stepped ys b
          → Together ue xs ys a b
      together node given xs ys a b is too shared first second =
          let both : AnswerEqual node ue (stepped xs a) (stepped ys b) = subst (λ (x : WrittenStepped). AnswerEqual node ue x (stepped ys b)) first
          (subst (λ (y : WrittenStepped). AnswerEqual node ue ((plain_world reading).answer la s.units node given) y) (rewritten ∙ second)
          (equal_answers reading ue s.units t.units la node given (equal_at node s.units t.units h shared own) is)) in
          record {
            outputs = both.0;
            its = (subst (IsUnitsStepOf ue s.units) first
                (given_step reading s.units ue la node given (λ gnb number. apart_of (du_of s.units gnb number) (sound.owned.1 gnb number)) (sound.itself ue) is)).0;
            units = agrees node s.units t.units a b h (only_answered la s.units node given xs a first) (only_answered lb t.units node given ys b second) both.1;
          }
        where
          rewritten : (plain_world reading).answer la t.units node given ≡ (plain_world reading).answer lb t.units node given
          rewritten = step_same la lb same t.units (plain_by reading t.units node given (input_of reading given))
              (given_step reading t.units ue la node given (λ gnb number. apart_of (du_of t.units gnb number) (also.owned.1 gnb number)) (also.itself ue) too)

          own : (n : ℕ) → node ≡ Ue n → record { 0 = n } ≡ ue
          own n at = named (input_of reading given) (subst (λ (k : NodeId). given_ue reading s.units k given ≡ Some ue) at is)
            where
              named : (o : Option (Input Token Pdu)) → given_in s.units (Ue n) o ≡ Some ue → record { 0 = n } ≡ ue
              named None e = absurd cc
              named (Some input) e = cc
