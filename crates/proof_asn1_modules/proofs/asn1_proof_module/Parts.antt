-- Lists that grow by one part at a time, and sizes.
use Rattle.std.proofs.lemmas.List.{append_assoc, append-nil, map-append}
use Rattle.std.proofs.lemmas.Bool.{eq-eqb}
use Rattle.proof_asn1.proofs.asn1_proof_syntax.Gives.{and_parts}
use Rattle.std.proofs.Common.{◌≡◌, ℕ, ◌+◌, ◌≤◌, ◌<◌, List, [], ◌∷◌, ◌++◌, length, map, Bool, true, false, ◌||◌, ◌&&◌, eqb, refl, sym, ap, ◌∙◌, subst, arith, Option, Some, None}
use Rattle.std.specs.Prelude.{nat_le, nat_eq, is_none, ◌==◌}
use Rattle.std.specs.List.{list_any}
use Rattle.std.specs.Cmp.Lexicographic.{pointwise}
use Rattle.asn1_tokens.specs.Words.{is_text}
use Rattle.asn1_syntax.specs.declared.types.definition.Extensible.{Extensible}
use Rattle.asn1_syntax.specs.types.Members.{no_parts, put_part, with_part, extended, all_parts, additions_of, is_filled, is_full}
use Rattle.asn1_syntax.specs.types.inside.Members.{can_extend}
use Rattle.proof_asn1_modules.specs.asn1_proof_module.Proper.{IsNew, AreOnce, Each, AreParts}

pub le_of : (a b : ℕ) → nat_le a b ≡ true → a ≤ b
le_of a b h = grind arith

pub lt_of : (a b : ℕ) → nat_le a b ≡ false → b < a
lt_of a b h = grind arith

pub or_parts : (a b : Bool) → a || b ≡ false → (a ≡ false) × (b ≡ false)
or_parts true b h = cc
or_parts false b h = (refl, h)

-- ---- given once

is_new_put : {A : Type 0} (y x : A) (xs : List A) → IsNew y xs → (x ≡ y → ⊥) → IsNew y (xs ++ x ∷ [])
is_new_put y x [] new not = (not, tt)
is_new_put y x (z ∷ xs) new not = (new.0, is_new_put y x xs new.1 not)

pub once_put : {A : Type 0} (xs : List A) (x : A) → AreOnce xs → IsNew x xs → AreOnce (xs ++ x ∷ [])
once_put [] x once new = (tt, tt)
once_put (y ∷ xs) x once new = (is_new_put y x xs once.0 (λ e. new.0 (sym e)), once_put xs x once.1 new.1)

pub each_put : {A : Type 0} (P : A → Type 0) (xs : List A) (x : A) → Each P xs → P x → Each P (xs ++ x ∷ [])
each_put P [] x each p = (p, tt)
each_put P (y ∷ xs) x each p = (each.0, each_put P xs x each.1 p)

pub new_of : {A B : Type 0} (p : A → Bool) (f : A → B) (x : B) → ((a : A) → p a ≡ false → f a ≡ x → ⊥) → (xs : List A) → list_any p xs ≡ false → IsNew x (map f xs)
new_of p f x differ [] h = tt
new_of p f x differ (a ∷ xs) h = (differ a (or_parts _ _ h).0, new_of p f x differ xs (or_parts _ _ h).1)

pointwise-same : (a : List ℕ) → pointwise nat_eq a a ≡ true
pointwise-same [] = refl
pointwise-same (x ∷ a) = both (eqb x x) (pointwise nat_eq a a) (eq-eqb x x refl) (pointwise-same a)
  where
    both : (b c : Bool) → b ≡ true → c ≡ true → b && c ≡ true
    both true c p q = q
    both false c p q = cc

pub text_differs : (a b : List ℕ) → is_text a b ≡ false → a ≡ b → ⊥
unfolding is_text
text_differs a b h e = clash (subst (λ (x : List ℕ). pointwise nat_eq a x ≡ true) e (pointwise-same a))
  where
    clash : pointwise nat_eq a b ≡ true → ⊥
    clash g = cc

pub number_differs : (a b : ℕ) → a == b ≡ false → a ≡ b → ⊥
number_differs a b h e = clash (subst (λ (x : ℕ). eqb a x ≡ true) e (eq-eqb a a refl))
  where
    clash : eqb a b ≡ true → ⊥
    clash g = cc

-- ---- parts

-- parts so far
pub record Growing {T : Type 0} (least : ℕ) (name : T → List ℕ) (parts : Extensible T) : Type 0 where
  pub root : length parts.root ≤ 256
  pub additions : length (additions_of parts.additions) ≤ 64
  pub names : AreOnce (map name (all_parts parts))
  pub enough : is_none parts.additions ≡ false → least ≤ length parts.root

pub none_yet : {T : Type 0} (least : ℕ) (name : T → List ℕ) → Growing {T = T} least name no_parts
none_yet least name = record { root = omega arith; additions = omega arith; names = tt; enough = λ h. cc }

pub whole : {T : Type 0} (least : ℕ) (name : T → List ℕ) (parts : Extensible T) → Growing least name parts → least ≤ length parts.root → AreParts least name parts
whole least name parts g enough = record { enough = enough; root = g.root; additions = g.additions; names = g.names }

length-put : {T : Type 0} (xs : List T) (x : T) → length (xs ++ x ∷ []) ≡ length xs + 1
length-put [] x = omega arith
length-put (y ∷ xs) x = omega (arith, length-put xs x)

-- all parts with one more
all_put : {T : Type 0} (root : List T) (added : Option (List T)) (x : T) → all_parts (put_part root added x) ≡ (root ++ additions_of added) ++ x ∷ []
all_put root None x = append-nil (root ++ x ∷ []) ∙ ap (λ (l : List _). l ++ x ∷ []) (sym (append-nil root))
all_put root (Some added) x = sym (append_assoc root added (x ∷ []))

pub put_grows : {T : Type 0} (least : ℕ) (name : T → List ℕ) (parts : Extensible T) (x : T) → least ≤ 1 → Growing least name parts → is_full parts ≡ false → IsNew (name x) (map name (all_parts parts)) → Growing least name (with_part parts x) × (least ≤ length (with_part parts x).root)
put_grows {T} least name parts x small g full new = go parts.additions g.additions full g.enough names
  where
    names : AreOnce (map name (all_parts (with_part parts x)))
    names = subst AreOnce (sym (ap (map name) (all_put parts.root parts.additions x) ∙ map-append name (all_parts parts) (x ∷ []))) (once_put (map name (all_parts parts)) (name x) g.names new)

    go : (added : Option (List T)) → length (additions_of added) ≤ 64 → is_filled parts.root added ≡ false → (is_none added ≡ false → least ≤ length parts.root) → AreOnce (map name (all_parts (put_part parts.root added x))) → Growing least name (put_part parts.root added x) × (least ≤ length (put_part parts.root added x).root)
    go None few filled enough once = (
      record { root = omega (arith, length-put parts.root x, lt_of 256 (length parts.root) filled); additions = omega arith; names = once; enough = λ h. cc },
      omega (arith, small, length-put parts.root x),
    )
    go (Some added) few filled enough once = (
      record { root = g.root; additions = omega (arith, length-put added x, lt_of 64 (length added) filled); names = once; enough = λ h. enough refl },
      enough refl,
    )

pub extended_grows : {T : Type 0} (least : ℕ) (name : T → List ℕ) (parts : Extensible T) → Growing least name parts → can_extend least parts ≡ true → Growing least name (extended parts) × (least ≤ length parts.root)
extended_grows {T} least name parts g can = (
  record {
    root = g.root;
    additions = omega arith;
    names = go parts.additions (and_parts _ _ can).0 g.names;
    enough = λ h. le_of least (length parts.root) (and_parts _ _ can).1;
  },
  le_of least (length parts.root) (and_parts _ _ can).1,
)
  where
    go : (added : Option (List T)) → is_none added ≡ true → AreOnce (map name (parts.root ++ additions_of added)) → AreOnce (map name (parts.root ++ []))
    go None h once = once
    go (Some added) h once = cc
