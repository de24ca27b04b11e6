-- A tick of a unit does the same for a terminal in two states after steps of runs, where its projection there and what is shared are the
-- same.
use Rattle.std.proofs.Common.{◌≡◌, ℕ, ◌==◌, Bool, true, false, cond, List, [], ◌∷◌, map, Some, refl, sym, ap, ◌∙◌, subst, eqb-true}
use Rattle.std.specs.Prelude.{if◌then◌else◌}
use Rattle.std.specs.Ordering.{is_eq}
use Rattle.std.specs.Cmp.{tied_itself}
use Rattle.gnb_types.specs.declared.names.Gnb.{Gnb}
use Rattle.gnb_types.specs.declared.names.Gnb.TheVariants.{A, B}
use Rattle.gnb_types.specs.declared.names.NodeId.{NodeId}
use Rattle.gnb_types.specs.declared.names.NodeId.TheVariants.{CuCp, CuUp as up_id, Du as du_id, Core, Ue}
use Rattle.gnb_types.specs.declared.names.SnBits.{SnBits}
use Rattle.gnb_types.specs.declared.names.UeId.{UeId}
use Rattle.gnb_types.proofs.OrderLemmas.{node_total}
use Rattle.tables.proofs.TableLaws.{at-put}
use Rattle.message_types.specs.declared.rrc.Token.{Token}
use Rattle.unit_defs.specs.Ways.{Message, Pdu, Load, Put, Output, control, packet, radio, deliver, dropped, held, opened, closed, failed, no, tick_input, gives, spent}
use Rattle.unit_defs.specs.CuUpRecords.{CuUp}
use Rattle.unit_defs.specs.CuUp.{new_cu_up, cu_up_acts}
use Rattle.unit_defs.specs.Du.{Du, new_du, du_acts}
use Rattle.unit_defs.specs.CuCpRecords.{CuCpRecord}
use Rattle.unit_defs.specs.CuCp.{cu_cp_acts}
use Rattle.run_defs.specs.Units.{Units, cu_cp_of, with_cu_cp, cu_up_of, with_cu_up, du_of, with_du}
use Rattle.run_defs.specs.Written.{written_item, written_pdu, written_put, PlainStepped, written_step}
use Rattle.run_defs.specs.States.{Lengths, stepped, step_spent, tick_for, sn_of}
use Rattle.run_defs.specs.Runs.{Reading, Plain, plain_way, stepped_with, plain_by, plain_world}
use Rattle.law_terminals_are_isolated.specs.projections.Steps.{seen}
use Rattle.law_terminals_are_isolated.specs.cu_cp_projection.CuCps.{cu_cp_view}
use Rattle.law_terminals_are_isolated.specs.cu_up_projection.CuUps.{cu_up_view}
use Rattle.law_terminals_are_isolated.specs.du_projection.Dus.{du_view}
use Rattle.law_terminals_are_isolated.specs.projection_arguments.Views.{StayEqualAt}
use Rattle.law_terminals_are_isolated.specs.tick_projections.Ticks.{names_ue, outputs_of, ShowsOwn, cu_cp_own_tick, du_own_tick, cu_up_own_tick}
use Rattle.law_terminals_are_isolated.proofs.tick_projections.CuCps.{cp_shows, cp_depends}
use Rattle.law_terminals_are_isolated.proofs.tick_projections.Dus.{du_shows, du_depends, up_shows, up_depends}
use Rattle.law_terminals_are_isolated.specs.own_events.Events.{RunState}
use Rattle.law_terminals_are_isolated.specs.all_steps.Steps.{AfterSteps}
use Rattle.law_terminals_are_isolated.specs.run_ticks.Ticks.{IsUnit, TickEqual}
use Rattle.law_terminals_are_isolated.proofs.run_ticks.Runs.{terminals_on, requests_on}
use Rattle.law_terminals_are_isolated.proofs.run_ticks.Dues.{dues_same}

abbrev RunUnits : Type 0
RunUnits = Units (Message Token) Token

-- ---- what is put for the terminal is written by its own length alone

module _ (ue : UeId) (a b : Lengths) (same : a ue ≡ b ue) where
  abbrev Plains : Type 0
  Plains = List (Put (Message Token) (Load Pdu) Pdu)

  at_ue : (who : UeId) → (who.0 == ue.0) ≡ true → a who ≡ b who
  at_ue who is =
      let here : who ≡ ue = ap (λ (n : ℕ). record { 0 = n }) (eqb-true who.0 ue.0 is) in
      subst (λ (w : UeId). a w ≡ b w) (sym here) same

  one_same : (x : Put (Message Token) (Load Pdu) Pdu) → names_ue ue.0 x ≡ true → written_put a x ≡ written_put b x
  one_same (control to who message) is = refl
  one_same (packet to teid who bearer dir tag load) is =
      ap (λ (sn : SnBits). packet to teid who bearer dir tag (written_item sn teid load)) (at_ue who is)
  one_same (radio who bearer dir epoch tag pdu) is =
      ap (λ (sn : SnBits). radio who bearer dir epoch tag (written_pdu sn pdu)) (at_ue who is)
  one_same (deliver who bearer dir count p) is = refl
  one_same (dropped reason) is = refl
  one_same (held reason) is = refl
  one_same (opened teid) is = refl
  one_same (closed teid) is = refl
  one_same (failed who cause) is = refl
  one_same (no reason) is = refl

  named_same : (xs : Plains) → map (written_put a) (outputs_of ue.0 xs) ≡ map (written_put b) (outputs_of ue.0 xs)
  named_same [] = refl
  named_same (x ∷ xs) = by (names_ue ue.0 x) refl (named_same xs)
    where
      by : (t : Bool) → names_ue ue.0 x ≡ t → map (written_put a) (outputs_of ue.0 xs) ≡ map (written_put b) (outputs_of ue.0 xs)
          → map (written_put a) (if t then x ∷ outputs_of ue.0 xs else outputs_of ue.0 xs)
          ≡ map (written_put b) (if t then x ∷ outputs_of ue.0 xs else outputs_of ue.0 xs)
      by true is again = λ i. one_same x is i ∷ again i
      by false is again = again

-- what is named stays named
written_named : (ue : UeId) (a : Lengths) (x : Put (Message Token) (Load Pdu) Pdu) → names_ue ue.0 (written_put a x) ≡ names_ue ue.0 x
written_named ue a (control to who message) = refl
written_named ue a (packet to teid who bearer dir tag load) = refl
written_named ue a (radio who bearer dir epoch tag pdu) = refl
written_named ue a (deliver who bearer dir count p) = refl
written_named ue a (dropped reason) = refl
written_named ue a (held reason) = refl
written_named ue a (opened teid) = refl
written_named ue a (closed teid) = refl
written_named ue a (failed who cause) = refl
written_named ue a (no reason) = refl

outputs_written : (ue : UeId) (a : Lengths) (xs : List (Put (Message Token) (Load Pdu) Pdu))
    → outputs_of ue.0 (map (written_put a) xs) ≡ map (written_put a) (outputs_of ue.0 xs)
outputs_written ue a [] = refl
outputs_written ue a (x ∷ xs) =
    ap (λ (t : Bool). if t then written_put a x ∷ outputs_of ue.0 (map (written_put a) xs) else outputs_of ue.0 (map (written_put a) xs)) (written_named ue a x)
    ∙ by (names_ue ue.0 x) (outputs_written ue a xs)
  where
    by : (t : Bool) → outputs_of ue.0 (map (written_put a) xs) ≡ map (written_put a) (outputs_of ue.0 xs)
        → (if t then written_put a x ∷ outputs_of ue.0 (map (written_put a) xs) else outputs_of ue.0 (map (written_put a) xs))
        ≡ map (written_put a) (if t then x ∷ outputs_of ue.0 xs else outputs_of ue.0 xs)
    by true again = λ i. written_put a x ∷ again i
    by false again = again

-- ---- two ticks

module _ (reading : Reading) (ue : UeId) where
  kept : {R S : Type 0} (view : R → S) (p q : R) (xs ys : List (Output (Message Token) Pdu)) → ◌≡◌ {A = Plain S} (gives xs (view p)) (gives ys (view q))
      → (xs ≡ ys) × (view p ≡ view q)
  kept view p q xs ys e = (cc, cc)

  both_show : {R S : Type 0} (node : NodeId) (view : R → S) (back again : R → RunUnits) (x y own other : Plain R) → ShowsOwn view ue.0 x own
      → ShowsOwn view ue.0 y other → seen view own ≡ seen view other → ((r q : R) → view r ≡ view q → StayEqualAt node ue (back r) (again q))
      → TickEqual node ue (stepped_with reading back x) (stepped_with reading again y)
  both_show node view back again (gives xs r) (gives ys q) (gives os p) (gives ps s) first second same stay =
      let e = kept view p s os ps same in
      (first.0 ∙ ap (outputs_of ue.0) e.0 ∙ sym second.0, stay r q (first.1 ∙ e.1 ∙ sym second.1))
  both_show node view back again (gives xs r) (gives ys q) (spent m) other first second same stay = absurd first
  both_show node view back again (gives xs r) (gives ys q) (gives os p) (spent m) first second same stay = absurd second
  both_show node view back again (gives xs r) (spent n) own other first second same stay = tt
  both_show node view back again (spent m) (gives ys q) own other first second same stay = tt
  both_show node view back again (spent m) (spent n) own other first second same stay = tt

  -- what is put is there
  up_there : (u : RunUnits) (gnb : Gnb) (number : ℕ) (r : CuUp (Message Token) Token) → cu_up_of (with_cu_up u gnb number r) gnb number ≡ r
  up_there u gnb number r =
      at-put node_total (new_cu_up gnb number) u.ups (up_id gnb number) r (up_id gnb number)
      ∙ ap (λ (b : Bool). cond b r (cu_up_of u gnb number)) (ap is_eq (tied_itself node_total (up_id gnb number)))

  du_there : (u : RunUnits) (gnb : Gnb) (number : ℕ) (r : Du (Message Token) Token) → du_of (with_du u gnb number r) gnb number ≡ r
  du_there u gnb number r =
      at-put node_total (new_du gnb number) u.dus (du_id gnb number) r (du_id gnb number)
      ∙ ap (λ (b : Bool). cond b r (du_of u gnb number)) (ap is_eq (tied_itself node_total (du_id gnb number)))

  cp_there : (gnb : Gnb) (u v : RunUnits) (r q : CuCpRecord (Message Token) Token) → cu_cp_view ue r ≡ cu_cp_view ue q
      → StayEqualAt (CuCp gnb) ue (with_cu_cp u gnb r) (with_cu_cp v gnb q)
  cp_there A u v r q e = e
  cp_there B u v r q e = e

  module _ (s t : RunState) (p : AfterSteps reading s) (q : AfterSteps reading t) where
    ticked : (node : NodeId) → IsUnit node → StayEqualAt node ue s.units t.units
        → TickEqual node ue (plain_by reading s.units node tick_for (Some tick_input)) (plain_by reading t.units node tick_for (Some tick_input))
    ticked (CuCp gnb) is e =
        let r = cu_cp_of s.units gnb in
        let k = cu_cp_of t.units gnb in
        both_show (CuCp gnb) (cu_cp_view ue) (with_cu_cp s.units gnb) (with_cu_cp t.units gnb) (cu_cp_acts plain_way r tick_input) (cu_cp_acts plain_way k tick_input)
        (cu_cp_own_tick plain_way ue r) (cu_cp_own_tick plain_way ue k) (cp_shows plain_way ue r (terminals_on reading s p gnb))
        (cp_shows plain_way ue k (terminals_on reading t q gnb))
        (cp_depends plain_way ue r k e
        (dues_same ue.0 r.transactions.caller k.transactions.caller (requests_on reading s p (CuCp gnb)) (requests_on reading t q (CuCp gnb))
        (λ peer i. (e i).0.requests.opened peer)) (requests_on reading s p (CuCp gnb)) (requests_on reading t q (CuCp gnb)))
        (cp_there gnb s.units t.units)
    ticked (up_id gnb number) is e =
        let r = cu_up_of s.units gnb number in
        let k = cu_up_of t.units gnb number in
        both_show (up_id gnb number) (cu_up_view ue) (with_cu_up s.units gnb number) (with_cu_up t.units gnb number) (cu_up_acts plain_way r tick_input)
        (cu_up_acts plain_way k tick_input) (cu_up_own_tick plain_way ue r) (cu_up_own_tick plain_way ue k) (up_shows plain_way ue r) (up_shows plain_way ue k)
        (up_depends plain_way ue r k e
        (dues_same ue.0 r.transactions.caller k.transactions.caller (requests_on reading s p (up_id gnb number)) (requests_on reading t q (up_id gnb number))
        (λ peer i. (e i).0.requests.opened peer)) (requests_on reading s p (up_id gnb number)) (requests_on reading t q (up_id gnb number)))
        (λ x y at. ap (cu_up_view ue) (up_there s.units gnb number x) ∙ at ∙ sym (ap (cu_up_view ue) (up_there t.units gnb number y)))
    ticked (du_id gnb number) is e =
        let r = du_of s.units gnb number in
        let k = du_of t.units gnb number in
        both_show (du_id gnb number) (du_view ue) (with_du s.units gnb number) (with_du t.units gnb number) (du_acts plain_way r tick_input)
        (du_acts plain_way k tick_input) (du_own_tick plain_way ue r) (du_own_tick plain_way ue k) (du_shows plain_way ue r) (du_shows plain_way ue k)
        (du_depends plain_way ue r k e
        (dues_same ue.0 r.transactions.caller k.transactions.caller (requests_on reading s p (du_id gnb number)) (requests_on reading t q (du_id gnb number))
        (λ peer i. (e i).0.requests.opened peer)) (requests_on reading s p (du_id gnb number)) (requests_on reading t q (du_id gnb number)))
        (λ x y at. ap (du_view ue) (du_there s.units gnb number x) ∙ at ∙ sym (ap (du_view ue) (du_there t.units gnb number y)))
    ticked Core is e = absurd is
    ticked (Ue n) is e = absurd is

    written : (a b : Lengths) → a ue ≡ b ue → (node : NodeId) (x y : PlainStepped) → TickEqual node ue x y
        → TickEqual node ue (written_step a x) (written_step b y)
    written a b same node (stepped xs u) (stepped ys v) h = (
      outputs_written ue a xs ∙ ap (map (written_put a)) h.0 ∙ named_same ue a b same ys ∙ sym (outputs_written ue b ys),
      h.1,
    )
    written a b same node (stepped xs u) (step_spent n) h = tt
    written a b same node (step_spent m) (stepped ys v) h = tt
    written a b same node (step_spent m) (step_spent n) h = tt

    pub ticks_equal : (node : NodeId) → IsUnit node → StayEqualAt node ue s.units t.units → sn_of s ue ≡ sn_of t ue
        → TickEqual node ue ((plain_world reading).answer (sn_of s) s.units node tick_for) ((plain_world reading).answer (sn_of t) t.units node tick_for)
    ticks_equal node is e lengths = written (sn_of s) (sn_of t) lengths node (plain_by reading s.units node tick_for (Some tick_input))
        (plain_by reading t.units node tick_for (Some tick_input)) (ticked node is e)
