-- A TEID that a node closes in a step that is a terminal's was that terminal's, or wasn't open.
use Rattle.std.proofs.Common.{◌≡◌, ◌≤◌, ℕ, zero, suc, ◌+◌, ◌==◌, Bool, true, false, not, ◌&&◌, ◌||◌, List, [], ◌∷◌, length, Option, Some, None, refl, sym, ap, ◌∙◌, subst, arith, eqb-true, inl, inr}
use Rattle.std.proofs.lemmas.Bool.{eq-eqb}
use Rattle.std.specs.Prelude.{◌≢◌, if◌then◌else◌, is_some}
use Rattle.std.specs.List.{AllByRecursion}
use Rattle.std.specs.Ordering.{nat_cmp}
use Rattle.gnb_types.specs.declared.names.UeId.{UeId}
use Rattle.tables.specs.Tables.{find}
use Rattle.unit_defs.specs.Ways.{Put, Output, control, packet, radio, deliver, dropped, held, opened, closed, failed, no, Input, Way, Answer, gives, spent}
use Rattle.unit_defs.specs.Teids.{last_teid, teids_are_left}
use Rattle.unit_defs.specs.CuUpRecords.{CuUpTunnel, CuUp}
use Rattle.unit_defs.specs.CuUp.{cu_up_acts}
use Rattle.unit_defs.specs.Du.{DuTunnel, Du, du_acts}
use Rattle.proof_run_steps.specs.teids.Given.{opened_by, count_from, GivesNext, below, GivesTeids}
use Rattle.proof_run_steps.proofs.teids.CuUps.{cu_up_gives}
use Rattle.proof_run_steps.proofs.teids.Dus.{du_gives}
use Rattle.law_tunnels_are_owned.specs.open_tunnels.Open.{open_after, is_open_in, ShowsFrom}
use Rattle.law_tunnels_are_owned.proofs.open_tunnels.CuUps.{cu_up_fits}
use Rattle.law_tunnels_are_owned.proofs.open_tunnels.Dus.{du_fits}
use Rattle.law_tunnels_are_owned.specs.owner_facts.Owned.{CuUpOwns, DuOwns}
use Rattle.law_terminals_are_isolated.specs.projections.Steps.{PutsFor, StaysFor}
use Rattle.law_terminals_are_isolated.specs.cu_up_projection.CuUps.{CuUpProjection, cu_up_projection, own_tunnel as up_own, cu_up_ue}
use Rattle.law_terminals_are_isolated.specs.du_projection.Dus.{DuProjection, du_projection, own_tunnel as du_own, du_ue}
use Rattle.law_terminals_are_isolated.proofs.projection_owners.Owners.{up_owning, du_owning}

-- a TEID is closed by one of these
abbrev pub closes : {M L P : Type 0} → ℕ → List (Put M L P) → Bool
closes teid [] = false
closes teid (closed q ∷ outputs) = q == teid || closes teid outputs
closes teid (output ∷ outputs) = closes teid outputs

-- ---- what is opened wasn't open

-- none of these is this one
abbrev AreOther : ℕ → List ℕ → Type 0
AreOther teid qs = AllByRecursion (λ q. (q == teid) ≡ false) qs

apart_number : (q teid : ℕ) → teid + 1 ≤ q → (q == teid) ≡ false
apart_number q teid above = by (q == teid) refl
  where
    by : (b : Bool) → (q == teid) ≡ b → b ≡ false
    by false e = refl
    by true e = let same : q ≡ teid = eqb-true q teid e in absurd (omega (arith, same, above))

counted_other : (teid next count : ℕ) → teid + 1 ≤ next → AreOther teid (count_from next count)
counted_other teid next zero above = tt
counted_other teid next (suc count) above = (apart_number next teid above, counted_other teid (next + 1) count (omega (arith, above)))

given_other : (teid next after : ℕ) (qs : List ℕ) → GivesNext next qs after → teid + 1 ≤ below next → AreOther teid qs
given_other teid next after qs (counted, inl none) above = subst (AreOther teid) (sym none.0) tt
given_other teid next after qs (counted, inr more) above = by (next == 0) refl
  where
    by : (b : Bool) → (next == 0) ≡ b → AreOther teid qs
    by false e =
        let here : below next ≡ next = ap (λ (b : Bool). if b then last_teid + 1 else next) e in
        subst (AreOther teid) (sym counted) (counted_other teid next (length qs) (subst (λ (n : ℕ). teid + 1 ≤ n) here above))
    by true e = absurd (left (next == 0) e more.0)
      where
        left : (b : Bool) → b ≡ true → teids_are_left next (length qs) ≡ true → ⊥
        left b is some = absurd cc

-- ---- what is closed, and not opened, isn't open then

module _ {M P : Type 0} (teid : ℕ) where
  shut : (outputs : List (Output M P)) → AreOther teid (opened_by outputs) → open_after teid outputs false ≡ false
  shut [] others = refl
  shut (opened q ∷ outputs) others =
      ap (λ (b : Bool). open_after teid outputs (b || false)) others.0 ∙ shut outputs others.1
  shut (closed q ∷ outputs) others = ap (open_after teid outputs) (never (q == teid)) ∙ shut outputs others
    where
      never : (b : Bool) → not b && false ≡ false
      never true = refl
      never false = refl
  shut (control to ue message ∷ outputs) others = shut outputs others
  shut (packet to teid ue bearer dir tag load ∷ outputs) others = shut outputs others
  shut (radio ue bearer dir epoch tag pdu ∷ outputs) others = shut outputs others
  shut (deliver ue bearer dir count p ∷ outputs) others = shut outputs others
  shut (dropped reason ∷ outputs) others = shut outputs others
  shut (held reason ∷ outputs) others = shut outputs others
  shut (failed ue cause ∷ outputs) others = shut outputs others
  shut (no reason ∷ outputs) others = shut outputs others

  closed_then : (outputs : List (Output M P)) (was : Bool) → AreOther teid (opened_by outputs) → closes teid outputs ≡ true
      → open_after teid outputs was ≡ false
  closed_then [] was others is = absurd cc
  closed_then (opened q ∷ outputs) was others is = closed_then outputs _ others.1 is
  closed_then (closed q ∷ outputs) was others is = by (q == teid) refl (closed_then outputs (not (q == teid) && was) others)
    where
      by : (b : Bool) → (q == teid) ≡ b → (closes teid outputs ≡ true → open_after teid outputs (not (q == teid) && was) ≡ false)
          → open_after teid outputs (not (q == teid) && was) ≡ false
      by true e more = ap (λ (b : Bool). open_after teid outputs (not b && was)) e ∙ shut outputs others
      by false e more = more (sym (ap (λ (b : Bool). b || closes teid outputs) e) ∙ is)
  closed_then (control to ue message ∷ outputs) was others is = closed_then outputs was others is
  closed_then (packet to teid ue bearer dir tag load ∷ outputs) was others is = closed_then outputs was others is
  closed_then (radio ue bearer dir epoch tag pdu ∷ outputs) was others is = closed_then outputs was others is
  closed_then (deliver ue bearer dir count p ∷ outputs) was others is = closed_then outputs was others is
  closed_then (dropped reason ∷ outputs) was others is = closed_then outputs was others is
  closed_then (held reason ∷ outputs) was others is = closed_then outputs was others is
  closed_then (failed ue cause ∷ outputs) was others is = closed_then outputs was others is
  closed_then (no reason ∷ outputs) was others is = closed_then outputs was others is

  -- one that is open before and after isn't closed
  not_closed : (outputs : List (Output M P)) (next after : ℕ) → GivesNext next (opened_by outputs) after → teid + 1 ≤ below next
      → true ≡ open_after teid outputs true → closes teid outputs ≡ true → ⊥
  not_closed outputs next after gives_next given stays is =
      differs (stays ∙ closed_then outputs true (given_other teid next after (opened_by outputs) gives_next given) is)
    where
      differs : true ≡ false → ⊥
      differs e = absurd cc

-- ---- at a CU-UP, and at a DU

-- each open TEID that is closed is this terminal's
abbrev pub ClosesOwn : {M P R X : Type 0} → (X → UeId) → UeId → List (ℕ × X) → Answer M P R → Type 0
ClosesOwn {X = X} owner_ue ue tunnels (gives outputs after) =
    (teid : ℕ) → closes teid outputs ≡ true → (owner : X) → find nat_cmp tunnels teid ≡ Some owner → owner_ue owner ≡ ue
ClosesOwn owner_ue ue tunnels (spent counter) = Unit {0}

same_ue : (a b : UeId) → (a.0 == b.0) ≡ true → a ≡ b
same_ue a b e = ap (λ (n : ℕ). record { 0 = n }) (eqb-true a.0 b.0 e)

other_ue : (a b : UeId) → (a.0 == b.0) ≡ false → a ≢ b
other_ue a b e same = differs (sym (eq-eqb a.0 b.0 (ap (λ (u : UeId). u.0) same)) ∙ e)
  where
    differs : true ≡ false → ⊥
    differs e = absurd cc

module _ {M C P : Type 0} (way : Way M C P) (ue : UeId) where
  pub up_closes : (input : Input C P) (r : CuUp M C) → CuUpOwns r → cu_up_ue r input ≡ Some ue
      → ClosesOwn (λ (t : CuUpTunnel). t.ue) ue r.tunnels (cu_up_acts way r input)
  up_closes input r owns is = by (cu_up_acts way r input) (up_owning way ue input r owns is) (cu_up_gives way r input) (cu_up_fits way r input)
    where
      one : (outputs : List (Output M P)) (s : CuUp M C) → PutsFor ue.0 (StaysFor cu_up_projection ue r) (gives outputs s)
          → GivesNext r.next_teid (opened_by outputs) s.next_teid
          → ((teid : ℕ) → is_open_in s.tunnels teid ≡ open_after teid outputs (is_open_in r.tunnels teid))
          → (teid : ℕ) → closes teid outputs ≡ true → (owner : CuUpTunnel) → find nat_cmp r.tunnels teid ≡ Some owner → owner.ue ≡ ue
      one outputs s p given shows teid closing owner found = at (owner.ue.0 == ue.0) refl
        where
          its : up_own owner.ue (Some owner) ≡ Some owner
          its = ap (λ (b : Bool). if b then Some owner else None) (eq-eqb owner.ue.0 owner.ue.0 refl)

          there : (o : Option CuUpTunnel) → up_own owner.ue o ≡ Some owner → is_some o ≡ true
          there None e = absurd cc
          there (Some t) e = refl

          at : (b : Bool) → (owner.ue.0 == ue.0) ≡ b → owner.ue ≡ ue
          at true e = same_ue owner.ue ue e
          at false e =
              let stays : up_own owner.ue (find nat_cmp s.tunnels teid) ≡ up_own owner.ue (find nat_cmp r.tunnels teid) =
              ap (λ (x : CuUpProjection M C). x.tunnels teid) (p.1 owner.ue (other_ue owner.ue ue e)) in
              absurd (not_closed teid outputs r.next_teid s.next_teid given (owns.2 teid owner found)
              (sym (there (find nat_cmp s.tunnels teid) (stays ∙ ap (up_own owner.ue) found ∙ its))
              ∙ shows teid ∙ ap (λ (o : Option CuUpTunnel). open_after teid outputs (is_some o)) found) closing)

      by : (a : Answer M P (CuUp M C)) → PutsFor ue.0 (StaysFor cu_up_projection ue r) a → GivesTeids (λ u. u.next_teid) (λ u. u.tunnels) r a
          → ShowsFrom (λ u. u.tunnels) r.tunnels a → ClosesOwn (λ (t : CuUpTunnel). t.ue) ue r.tunnels a
      by (gives outputs s) p q shows = λ teid closing owner found. one outputs s p q.0 shows teid closing owner found
      by (spent counter) p q shows = tt

  pub du_closes : (input : Input C P) (r : Du M C) → DuOwns r → du_ue r input ≡ Some ue
      → ClosesOwn (λ (t : DuTunnel). t.ue) ue r.tunnels (du_acts way r input)
  du_closes input r owns is = by (du_acts way r input) (du_owning way ue input r owns is) (du_gives way r input) (du_fits way r input)
    where
      one : (outputs : List (Output M P)) (s : Du M C) → PutsFor ue.0 (StaysFor du_projection ue r) (gives outputs s)
          → GivesNext r.next_teid (opened_by outputs) s.next_teid
          → ((teid : ℕ) → is_open_in s.tunnels teid ≡ open_after teid outputs (is_open_in r.tunnels teid))
          → (teid : ℕ) → closes teid outputs ≡ true → (owner : DuTunnel) → find nat_cmp r.tunnels teid ≡ Some owner → owner.ue ≡ ue
      one outputs s p given shows teid closing owner found = at (owner.ue.0 == ue.0) refl
        where
          its : du_own owner.ue (Some owner) ≡ Some owner
          its = ap (λ (b : Bool). if b then Some owner else None) (eq-eqb owner.ue.0 owner.ue.0 refl)

          there : (o : Option DuTunnel) → du_own owner.ue o ≡ Some owner → is_some o ≡ true
          there None e = absurd cc
          there (Some t) e = refl

          at : (b : Bool) → (owner.ue.0 == ue.0) ≡ b → owner.ue ≡ ue
          at true e = same_ue owner.ue ue e
          at false e =
              let stays : du_own owner.ue (find nat_cmp s.tunnels teid) ≡ du_own owner.ue (find nat_cmp r.tunnels teid) =
              ap (λ (x : DuProjection M C). x.tunnels teid) (p.1 owner.ue (other_ue owner.ue ue e)) in
              absurd (not_closed teid outputs r.next_teid s.next_teid given (owns.2 teid owner found)
              (sym (there (find nat_cmp s.tunnels teid) (stays ∙ ap (du_own owner.ue) found ∙ its))
              ∙ shows teid ∙ ap (λ (o : Option DuTunnel). open_after teid outputs (is_some o)) found) closing)

      by : (a : Answer M P (Du M C)) → PutsFor ue.0 (StaysFor du_projection ue r) a → GivesTeids (λ u. u.next_teid) (λ u. u.tunnels) r a
          → ShowsFrom (λ u. u.tunnels) r.tunnels a → ClosesOwn (λ (t : DuTunnel). t.ue) ue r.tunnels a
      by (gives outputs s) p q shows = λ teid closing owner found. one outputs s p q.0 shows teid closing owner found
      by (spent counter) p q shows = tt
