-- The tests of holding, one list after another, and what an item that isn't held has.
use Rattle.std.proofs.Common.{◌≡◌, ℕ, ◌+◌, ◌<◌, ◌≤◌, Bool, true, false, cond, not, ◌&&◌, nat_le, List, [], ◌∷◌, ◌++◌, length, Option, Some, None, refl, sym, ap, ◌∙◌, arith}
use Rattle.std.proofs.lemmas.Bool.Decides.{nat_tests}
use Rattle.gnb_types.specs.declared.reasons.HeldReason.{HeldReason}
use Rattle.gnb_types.specs.declared.reasons.HeldReason.TheVariants.{NoStatus, NotArrived, Early, Quota, Ahead}
use Rattle.pdcp_defs.specs.Receivers.{is_ahead}
use Rattle.unit_defs.specs.Ways.{Taken}
use Rattle.unit_defs.specs.CuUpRecords.{CuUpBearer, CuUpScope, TunnelKind}
use Rattle.unit_defs.specs.CuUpBearers.{used_downlink}
use Rattle.unit_defs.specs.CuUpItems.{first_held, held_as_target, held_downlink, held_uplink, held_item, held_by_room, held_reason, is_n3, is_ahead_if}

abbrev pub Tests : Type 0
Tests = List (Bool × HeldReason)

abbrev pub by_test : Bool → HeldReason → Option HeldReason → Option HeldReason
by_test t reason rest = cond t (Some reason) rest

pub first_some : (xs ys : Tests) (reason : HeldReason) → first_held xs ≡ Some reason → first_held (xs ++ ys) ≡ Some reason
first_some [] ys reason is = absurd cc
first_some (x ∷ xs) ys reason is = by x.0 (λ h. first_some xs ys reason h) is
  where
    by : (t : Bool) → (first_held xs ≡ Some reason → first_held (xs ++ ys) ≡ Some reason)
        → by_test t x.1 (first_held xs) ≡ Some reason → by_test t x.1 (first_held (xs ++ ys)) ≡ Some reason
    by true later is = is
    by false later is = later is

pub first_none : (xs ys : Tests) → first_held xs ≡ None → first_held (xs ++ ys) ≡ first_held ys
first_none [] ys is = refl
first_none (x ∷ xs) ys is = by x.0 (λ h. first_none xs ys h) is
  where
    by : (t : Bool) → (first_held xs ≡ None → first_held (xs ++ ys) ≡ first_held ys)
        → by_test t x.1 (first_held xs) ≡ None → by_test t x.1 (first_held (xs ++ ys)) ≡ first_held ys
    by true later is = absurd cc
    by false later is = later is

-- nothing holds: nothing of the later list does
later_none : (xs ys : Tests) → first_held (xs ++ ys) ≡ None → first_held ys ≡ None
later_none [] ys is = is
later_none (x ∷ xs) ys is = by x.0 (λ h. later_none xs ys h) is
  where
    by : (t : Bool) → (first_held (xs ++ ys) ≡ None → first_held ys ≡ None) → by_test t x.1 (first_held (xs ++ ys)) ≡ None → first_held ys ≡ None
    by true later is = absurd cc
    by false later is = later is

-- an uplink packet that isn't held isn't ahead
pub near_of : (a : CuUpScope) (b : CuUpBearer) (count : Option ℕ) → first_held (held_uplink a b count) ≡ None → is_ahead_if a b count ≡ false
near_of a b count none = by (nat_le a.quota (length b.receiver.stored)) (is_ahead_if a b count) none
  where
    by : (s t : Bool) → by_test s Quota (by_test t Ahead None) ≡ None → t ≡ false
    by true t none = absurd cc
    by false true none = absurd cc
    by false false none = refl

-- the two tests of an uplink packet whose COUNT was found
pub held_up_is : (a : CuUpScope) (b : CuUpBearer) (o : Option ℕ) (count : ℕ) (s t : Bool) → o ≡ Some count → nat_le a.quota (length b.receiver.stored) ≡ s
    → nat_le (b.receiver.deliv + a.quota) count ≡ t → first_held (held_uplink a b o) ≡ by_test s Quota (by_test t Ahead None)
unfolding is_ahead
held_up_is a b o count s t found few ahead =
    ap (λ (x : Option ℕ). first_held (held_uplink a b x)) found
    ∙ ap (λ (x : Bool). by_test x Quota (by_test (nat_le (b.receiver.deliv + a.quota) count) Ahead None)) few
    ∙ ap (λ (x : Bool). by_test s Quota (by_test x Ahead None)) ahead

pub test_fails : (m n x y : ℕ) → x ≡ m → y ≡ n → y < x → nat_le m n ≡ false
test_fails m n x y xm yn less = let l : n < m = omega (arith, xm, yn, less) in grind (arith, nat_tests)

pub sum_holds : (d q n x y z : ℕ) → x ≡ d → y ≡ q → z ≡ n → x + y ≤ z → nat_le (d + q) n ≡ true
sum_holds d q n x y z xd yq zn most = let l : d + q ≤ n = omega (arith, xd, yq, zn, most) in grind (arith, nat_tests)

pub sum_fails : (d q n x y z : ℕ) → x ≡ d → y ≡ q → z ≡ n → z < x + y → nat_le (d + q) n ≡ false
sum_fails d q n x y z xd yq zn less = let l : n < d + q = omega (arith, xd, yq, zn, less) in grind (arith, nat_tests)

module _ {P : Type 0} (a : CuUpScope) (b : CuUpBearer) (kind : TunnelKind) (item : Taken P) (free : held_reason a b kind item ≡ None) (lives : a.flags.released ≡ false) where
  pub has_room : first_held (held_item a b kind item) ≡ None
  unfolding held_reason
  has_room =
      ap (λ (t : Bool). first_held (cond t [] (held_item a b kind item))) (sym lives)
      ∙ later_none (held_as_target a.flags kind b) (held_by_room a b kind item) free

  pub room_down : held_item a b kind item ≡ held_downlink a b → used_downlink b < a.quota
  room_down is = by (nat_le a.quota (used_downlink b)) refl (ap first_held (sym is) ∙ has_room)
    where
      by : (t : Bool) → nat_le a.quota (used_downlink b) ≡ t → by_test t Quota None ≡ None → used_downlink b < a.quota
      by true is none = absurd cc
      by false is none = grind (arith, nat_tests)

  pub room_up : (count : Option ℕ) → held_item a b kind item ≡ held_uplink a b count → is_ahead_if a b count ≡ false
  room_up count is = near_of a b count (ap first_held (sym is) ∙ has_room)

-- before the SN status each item is held
pub held_unknown : {P : Type 0} (a : CuUpScope) (b : CuUpBearer) (kind : TunnelKind) (t : Taken P) → a.flags.may_serve ≡ false
    → held_reason a b kind t ≡ None → ⊥
unfolding held_reason
held_unknown a b kind t unknown none = by a.flags.may_serve unknown none
  where
    rest : Option HeldReason
    rest = first_held ((not a.flags.arrived, NotArrived) ∷ (is_n3 kind && a.flags.target && not b.down_ended, Early) ∷ held_by_room a b kind t)

    by : (known : Bool) → known ≡ false → by_test (not known) NoStatus rest ≡ None → ⊥
    by true unknown none = cc
    by false unknown none = cc
