-- Demands that hold, all of them; and what the law says of one type.
use Rattle.std.proofs.Common.{◌≡◌, Bool, true, false, cond, ◌&&◌, List, [], ◌∷◌, ◌++◌, Option, Some, None, is_some, refl, ap, ◌∙◌}
use Rattle.serde_json.specs.Data.{Data}
use Rattle.aper_defs.specs.Values.{Value}
use Rattle.aper_defs.specs.Fields.{Path}
use Rattle.aper_defs.specs.Membership.{Either, Has}
use Rattle.json_defs.specs.Named.{Named, NamedParts, NamedRows, NamedProcedures, NamedOutcome, no_parts, part, no_rows, row, no_procedures, procedure, no_outcome, outcome, tree_of}
use Rattle.json_defs.specs.Shown.{Shows}
use Rattle.json_defs.specs.Readings.{or_else, value_of}
use Rattle.json_defs.specs.Demands.{Demand, first_fault, demands}

abbrev pub Holds : List Demand → Type 0
Holds [] = Unit {0}
Holds (demand ∷ others) = (demand.holds ≡ true) × Holds others

pub taken : {X : Type 0} (b : Bool) (x y : X) → b ≡ true → cond b x y ≡ x
taken b x y h = ap (λ c. cond c x y) h

pub passed : {X : Type 0} (b : Bool) (x y : X) → b ≡ false → cond b x y ≡ y
passed b x y h = ap (λ c. cond c x y) h

pub none_fails : (ds : List Demand) → Holds ds → first_fault ds ≡ None
none_fails [] h = refl
none_fails (demand ∷ others) h = taken demand.holds _ _ h.0 ∙ none_fails others h.1

first_holds : (demand : Demand) (others : List Demand) (b : Bool) → demand.holds ≡ b → (first_fault others ≡ None → Holds others)
    → cond b (first_fault others) (Some (demand.fault, demand.path)) ≡ None → Holds (demand ∷ others)
first_holds demand others true e again h = (e, again h)
first_holds demand others false e again h = cc

pub all_hold : (ds : List Demand) → first_fault ds ≡ None → Holds ds
all_hold [] h = tt
all_hold (demand ∷ others) h = first_holds demand others demand.holds refl (all_hold others) h

-- ---- one after the other
pub front_holds : (a b : List Demand) → Holds (a ++ b) → Holds a
front_holds [] b h = tt
front_holds (x ∷ a) b h = (h.0, front_holds a b h.1)

pub rest_holds : (a b : List Demand) → Holds (a ++ b) → Holds b
rest_holds [] b h = h
rest_holds (x ∷ a) b h = rest_holds a b h.1

pub both_hold : (a b : List Demand) → Holds a → Holds b → Holds (a ++ b)
both_hold [] b h g = g
both_hold (x ∷ a) b h g = (h.0, both_hold a b h.1 g)

-- ---- tests, options and equations
pub apart : false ≡ true → ⊥
apart e = cc

pub by_cases : (b : Bool) (P : Bool → Type 0) → (b ≡ true → P true) → (b ≡ false → P false) → P b
by_cases true P yes_case no_case = yes_case refl
by_cases false P yes_case no_case = no_case refl

pub both_true : (a b : Bool) → a ≡ true → b ≡ true → (a && b) ≡ true
both_true a b h g = ap (λ c. c && b) h ∙ g

pub first_true : (a b : Bool) → (a && b) ≡ true → a ≡ true
first_true true b h = refl
first_true false b h = cc

pub second_true : (a b : Bool) → (a && b) ≡ true → b ≡ true
second_true true b h = h
second_true false b h = cc

pub either_is : {A B : Type 0} (b : Bool) → (b ≡ true → A) → (b ≡ false → B) → Either b A B
either_is true f g = f refl
either_is false f g = g refl

pub is_there : {X : Type 0} (x : X) (o : Option X) → is_some o ≡ true → o ≡ Some (or_else x o)
is_there x None h = cc
is_there x (Some y) h = refl

-- ---- what the law says of a type, and of all types in others
pub record Lawful (t : Named) : Type 0 where
  pub one : (d : Data) (v : Value) → Shows t d v → v ≡ value_of t d
  pub forth : (p : Path) (d : Data) → Holds (demands p t d) → Shows t d (value_of t d) × Has p (tree_of t) (value_of t d)
  pub back : (p : Path) (d : Data) (v : Value) → Shows t d v → Has p (tree_of t) v → Holds (demands p t d)

abbrev pub AreLawful : NamedParts → Type 0
AreLawful no_parts = Unit {0}
AreLawful (part name optional t others) = Lawful t × AreLawful others

abbrev pub AreRowsLawful : NamedRows → Type 0
AreRowsLawful no_rows = Unit {0}
AreRowsLawful (row id mandatory t others) = Lawful t × AreRowsLawful others

abbrev pub IsOutcomeLawful : NamedOutcome → Type 0
IsOutcomeLawful no_outcome = Unit {0}
IsOutcomeLawful (outcome t) = Lawful t

abbrev pub AreProceduresLawful : NamedProcedures → Type 0
AreProceduresLawful no_procedures = Unit {0}
AreProceduresLawful (procedure code initiating successful unsuccessful others) =
    IsOutcomeLawful initiating × IsOutcomeLawful successful × IsOutcomeLawful unsuccessful × AreProceduresLawful others
