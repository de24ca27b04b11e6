-- Cases of a test, and of a choice by a test.
use Rattle.std.proofs.Common.{◌≡◌, Bool, true, false, cond, ◌&&◌, refl}

pub by_test : (P : Type 0) (b : Bool) → (b ≡ true → P) → (b ≡ false → P) → P
by_test P true p q = p refl
by_test P false p q = q refl

-- a choice has a property that each side has in its case
pub by_choice : {X : Type 0} (P : X → Type 0) (b : Bool) (x y : X) → (b ≡ true → P x) → (b ≡ false → P y) → P (cond b x y)
by_choice P true x y p q = p refl
by_choice P false x y p q = q refl

-- what a choice gave, in each case
pub chosen : {X : Type 0} (b : Bool) (x y z : X) → cond b x y ≡ z → (P : Type 0) → (b ≡ true → x ≡ z → P) → (b ≡ false → y ≡ z → P) → P
chosen true x y z h P p q = p refl h
chosen false x y z h P p q = q refl h

pub clash : {P : Type 0} (b : Bool) → b ≡ true → b ≡ false → P
clash true p q = cc
clash false p q = cc

pub both : (a b : Bool) → (a && b) ≡ true → (a ≡ true) × (b ≡ true)
both true true h = (refl, refl)
both true false h = cc
both false b h = cc
