-- What stands on links is in range, and so is what each unit counts: TEIDs, COUNTs, NR-U numbers, and the packets that wait.
use Rattle.std.proofs.Common.{◌≡◌, ◌==◌, ◌≤◌, ◌<◌, ◌^◌, ℕ, ◌+◌, ◌-◌, Bool, true, false, not, cond, List, [], length, Some, ◌⊎◌, inl, inr, sym, ap, ◌∙◌, subst, arith, leb-true}
use Rattle.std.proofs.lemmas.Bool.{and_parts}
use Rattle.std.specs.Prelude.{nat_le}
use Rattle.std.specs.List.{AllByRecursion}
use Rattle.std.specs.Ordering.{nat_cmp, eq_by_cmp}
use Rattle.gnb_types.specs.declared.names.UeId.{UeId}
use Rattle.gnb_types.specs.declared.names.BearerId.{BearerId}
use Rattle.gnb_types.specs.Orders.{ue_cmp, bearer_cmp}
use Rattle.gnb_types.proofs.OrderLemmas.{ue_total, bearer_total}
use Rattle.tables.specs.Tables.{find, put}
use Rattle.tables.proofs.TableLaws.{find-put}
use Rattle.message_types.specs.declared.rrc.Token.{Token}
use Rattle.pdcp.specs.Near.{last_count}
use Rattle.link_defs.specs.Decoding.{IsSized}
use Rattle.unit_defs.specs.Teids.{last_teid, teids_are_left, teid_after}
use Rattle.unit_defs.specs.Ways.{Message, Pdu, packet_pdu, Load, fresh, frame, status}
use Rattle.unit_defs.specs.CuUpRecords.{CuUpBearer, CuUpContext, CuUp}
use Rattle.unit_defs.specs.CuUp.{context_of}
use Rattle.unit_defs.specs.Accessors.{cu_cp_rests}
use Rattle.unit_defs.specs.CuCpRecords.{CuCpRecord}
use Rattle.unit_defs.specs.Du.{Du}
use Rattle.run_defs.specs.Written.{Written}
use Rattle.proof_run_steps.specs.teids.Given.{GivesNext, below, GrowsTo}
use Rattle.proof_run_steps.proofs.teids.Grows.{below_left, below_after}
use Rattle.proof_run_steps.specs.facts.Facts.{Facts}
use Rattle.proof_run_steps.specs.facts.UnitFacts.{UnitFacts, OfUnits}
use Rattle.proof_run_steps.proofs.facts.Alone.{alone}
use Rattle.proof_unit_steps.specs.count_ranges.Ranges.{CountsInRange}
use Rattle.law_octets_say_the_same.specs.octet_facts.Ranges.{IsPduInRange}

-- packets alone: fresh, or with a COUNT in a frame; and where items are confirmed, delivery statuses without loss
abbrev pub IsOnLink : Type 0 → Load Pdu → Type 0
IsOnLink Acks (fresh p) = IsSized p
IsOnLink Acks (frame false restart number (Some (packet_pdu count p))) = (number < 2 ^ 24) × (count ≤ last_count) × IsSized p
IsOnLink Acks (status [] (Some count)) = Acks
IsOnLink Acks load = ⊥

-- ---- units

abbrev pub IsGood : CuUpBearer → Type 0
IsGood b = CountsInRange b × AllByRecursion IsSized b.waiting

abbrev pub AreGood : {M C : Type 0} → (CuUpBearer → Type 0) → CuUp M C → Type 0
AreGood Q r = (ue : UeId) (c : CuUpContext) → context_of r ue ≡ Some c → (bearer : BearerId) (b : CuUpBearer) → find bearer_cmp c.bearers bearer ≡ Some b → Q b

-- TEIDs that fit stand in this table, and come next
abbrev pub TeidsFit : {X : Type 0} → ℕ → List (ℕ × X) → Type 0
TeidsFit {X = X} next tunnels = (below next ≤ last_teid + 1) × ((teid : ℕ) (t : X) → find nat_cmp tunnels teid ≡ Some t → teid < 2 ^ 32)

pub record UpIn (r : CuUp (Message Token) Token) : Type 0 where
  pub teids : TeidsFit r.next_teid r.tunnels
  pub bearers : AreGood IsGood r

abbrev pub DuIn : Du (Message Token) Token → Type 0
DuIn r = TeidsFit r.next_teid r.tunnels

-- no request is open or waits
abbrev pub CpIn : CuCpRecord (Message Token) Token → Type 0
CpIn r = (who : UeId) → cu_cp_rests r who ≡ true

abbrev pub Parts : UnitFacts
Parts = alone (λ g n r. UpIn r) (λ g n r. DuIn r) (λ g r. CpIn r) (λ ue x. x.plan.ue ≡ ue) (λ r. Unit {0})

abbrev pub ranges : Type 0 → Facts (Message Token) Token (Written (Load Pdu)) (Written Pdu)
ranges Acks = record {
  units = OfUnits Parts;
  core = λ r. Unit {0};
  control_message = λ l. Unit {0};
  puts_on = λ node end item. IsOnLink Acks item.content.says;
  puts_on_air = λ node key item. IsPduInRange item.content.says;
  on_tunnel = λ end item. IsOnLink Acks item.content.says;
  on_radio = λ key item. IsPduInRange item.content.says;
  stands = λ node end item p. p;
  stands_on_air = λ node key item p. p;
  counted = ⊥;
}

-- ---- TEIDs: what is given next fits, and what is open then

low : (t m last : ℕ) → t + 1 ≤ m → m ≤ last + 1 → t < last + 1
low t m last a b = omega (arith, a, b)

up_to : (b a n c last : ℕ) → b ≡ a + c → a ≡ n → n + c - 1 ≤ last → b ≤ last + 1
up_to b a n c last e f g = omega (arith, e, f, g)

pub left_fit : (next count : ℕ) → teids_are_left next count ≡ true → below (teid_after next count) ≤ last_teid + 1
left_fit next count left =
    up_to (below (teid_after next count)) (below next) next count last_teid (below_after next count left) (below_left next count left)
    (leb-true (next + count - 1) last_teid (and_parts (not (next == 0)) (nat_le (next + count - 1) last_teid) left).1)

pub next_fits : (next : ℕ) (teids : List ℕ) (after : ℕ) → GivesNext next teids after → below next ≤ last_teid + 1 → below after ≤ last_teid + 1
next_fits next teids after given fits = by given.1
  where
    by : ((teids ≡ []) × (after ≡ next)) ⊎ ((teids_are_left next (length teids) ≡ true) × (after ≡ teid_after next (length teids)))
        → below after ≤ last_teid + 1
    by (inl none) = subst (λ (n : ℕ). below n ≤ last_teid + 1) (sym none.1) fits
    by (inr some) = subst (λ (n : ℕ). below n ≤ last_teid + 1) (sym some.1) (left_fit next (length teids) some.0)

module _ {X : Type 0} where
  pub teids_fit : (n : ℕ) (ts : List (ℕ × X)) (m : ℕ) (us : List (ℕ × X)) → GrowsTo n ts m us → TeidsFit n ts → below m ≤ last_teid + 1 → TeidsFit m us
  teids_fit n ts m us grows fit last = (last, λ teid x found. by teid x (grows.1 teid x found))
    where
      by : (teid : ℕ) (x : X) → (find nat_cmp ts teid ≡ Some x) ⊎ ((below n ≤ teid) × (teid + 1 ≤ below m)) → teid < 2 ^ 32
      by teid x (inl before) = fit.1 teid x before
      by teid x (inr given) = low teid (below m) last_teid given.1 last

-- ---- bearers of a CU-UP where one is changed

module _ {M C : Type 0} (Q : CuUpBearer → Type 0) (r s : CuUp M C) (ue : UeId) (c : CuUpContext) (bearer : BearerId) (b : CuUpBearer) where
  pub good_put : AreGood Q r → context_of r ue ≡ Some c → s.contexts ≡ put ue_cmp r.contexts ue (record c { bearers = put bearer_cmp c.bearers bearer b }) → Q b
      → AreGood Q s
  good_put all there is good who d found q x has =
      in_contexts (eq_by_cmp ue_cmp who ue) (sym (find-put ue_total r.contexts ue changed who) ∙ ap (λ es. find ue_cmp es who) (sym is) ∙ found)
    where
      changed : CuUpContext
      changed = record c { bearers = put bearer_cmp c.bearers bearer b }

      in_bearers : (t : Bool) → cond t (Some b) (find bearer_cmp c.bearers q) ≡ Some x → Q x
      in_bearers true e = let same : b ≡ x = cc in subst Q same good
      in_bearers false e = all ue c there q x e

      in_contexts : (t : Bool) → cond t (Some changed) (find ue_cmp r.contexts who) ≡ Some d → Q x
      in_contexts true e =
          let same : changed ≡ d = cc in
          in_bearers (eq_by_cmp bearer_cmp q bearer)
          (sym (find-put bearer_total c.bearers bearer b q) ∙ ap (λ (z : CuUpContext). find bearer_cmp z.bearers q) same ∙ has)
      in_contexts false e = all who d e q x has
