-- The first name by which a module differs, found by comparing it with one that agrees.
use Rattle.std.proofs.Common.{◌≡◌, ℕ, ◌==◌, List, [], ◌∷◌, Bool, true, false, ◌&&◌, refl, sym, ap, ◌∙◌, arith}
use Rattle.std.specs.Prelude.{Option, Some, None, ◌||◌, not, if◌then◌else◌}
use Rattle.gnb_types.proofs.Choices.{both}
use Rattle.asn1_tokens.specs.Words.{is_text}
use Rattle.asn1_syntax.specs.declared.types.definition.TypeId.{TypeId}
use Rattle.asn1_syntax.specs.declared.assignments.assignment.Body.{Body}
use Rattle.asn1_syntax.specs.declared.assignments.assignment.Body.TheVariants as bodies
use Rattle.asn1_syntax.specs.declared.assignments.assignment.Assignment.{Assignment}
use Rattle.asn1_syntax.specs.declared.assignments.assignment.Syntax.{Syntax}
use Rattle.asn1_syntax.specs.assignments.Module.{is_type_body}
use Rattle.asn1_defs.specs.Modules.{IsModule}
use Rattle.asn1_defs.specs.Targets.{type_of, put_type, type_ids, type_name, is_body_of}
use Rattle.asn1_defs.specs.Links.{AreParted}
use Rattle.message_defs.specs.profile_defs.Forms.{Form, name_of, meaning_of}
use Rattle.message_defs.specs.profile_defs.Agreement.{has_type, goes_before, placed, by_name, first_wrong, is_name_among, first_further, or_else, differs, Agrees}
use Rattle.profile.specs.profile_module.inside.Same.{first_other, is_among, first_new}
use Rattle.profile.proofs.profile_module.Alike.{is_shallow, has_alike}
use Rattle.profile.proofs.profile_module.Order.{Ascends, module_ascends, ids_from, later_names}

-- ---- the profile's types

abbrev pub names_of : List Form → List (List ℕ)
names_of [] = []
names_of (t ∷ ts) = name_of t ∷ names_of ts

abbrev pub are_shallow : List Form → Bool
are_shallow [] = true
are_shallow (t ∷ ts) = is_shallow (meaning_of t) && are_shallow ts

own_number : (id : TypeId) → (id.number == id.number) ≡ true
own_number id = grind arith

some_none : {X : Type 0} (b : Bool) (x : X) (o : Option X) → (if b then o else Some x) ≡ None → (b ≡ true) × (o ≡ None)
some_none true x o h = (refl, h)
some_none false x o h = cc

first_alike : (p m : Syntax) (ts : List Form) → are_shallow ts ≡ true → first_wrong p ts ≡ None → first_other p m (names_of ts) ≡ first_wrong m ts
unfolding first_other
first_alike p m [] s h = refl
first_alike p m (t ∷ ts) s h =
    let shallow = both (is_shallow (meaning_of t)) (are_shallow ts) s in
    let has = some_none (has_type p t) (name_of t) (first_wrong p ts) h in
    ap (λ (b : Bool). if b then first_other p m (names_of ts) else Some (name_of t)) (sym (has_alike p m t shallow.0 has.0))
    ∙ ap (λ (o : Option (List ℕ)). if has_type m t then o else Some (name_of t)) (first_alike p m ts shallow.1 has.1)

-- ---- further types

or_swap : (a b c : Bool) → (a || (b || c)) ≡ (b || (a || c))
or_swap true true c = refl
or_swap true false c = refl
or_swap false b c = refl

among_placed : (name : List ℕ) (t : Form) (ts : List Form) → is_name_among name (placed t ts) ≡ (is_text name (name_of t) || is_name_among name ts)
among_placed name t [] = refl
among_placed name t (u ∷ us) = by (among_placed name t us) (goes_before (name_of t) (name_of u)) refl
  where
    by : is_name_among name (placed t us) ≡ (is_text name (name_of t) || is_name_among name us) → (b : Bool) → goes_before (name_of t) (name_of u) ≡ b
        → is_name_among name (placed t (u ∷ us)) ≡ (is_text name (name_of t) || is_name_among name (u ∷ us))
    by inside true e = ap (λ (b : Bool). is_name_among name (if b then t ∷ u ∷ us else u ∷ placed t us)) e
    by inside false e =
        ap (λ (b : Bool). is_name_among name (if b then t ∷ u ∷ us else u ∷ placed t us)) e
        ∙ ap (λ (b : Bool). is_text name (name_of u) || b) inside
        ∙ or_swap (is_text name (name_of u)) (is_text name (name_of t)) (is_name_among name us)

among_by_name : (name : List ℕ) (ts : List Form) → is_name_among name (by_name ts) ≡ is_name_among name ts
among_by_name name [] = refl
among_by_name name (t ∷ ts) = among_placed name t (by_name ts) ∙ ap (λ (b : Bool). is_text name (name_of t) || b) (among_by_name name ts)

among_names : (name : List ℕ) (ts : List Form) → is_among name (names_of ts) ≡ is_name_among name ts
unfolding is_among
among_names name [] = refl
among_names name (t ∷ ts) = ap (λ (b : Bool). is_text name (name_of t) || b) (among_names name ts)

module _ (ts : List Form) (names : List (List ℕ)) (among : (name : List ℕ) → is_among name names ≡ is_name_among name ts) where
  new_or : (name : List ℕ) (x : Option (List ℕ)) → (if is_among name names then x else Some name) ≡ (if not (is_name_among name ts) then Some name else x)
  new_or name x = ap (λ (b : Bool). if b then x else Some name) (among name) ∙ by (is_name_among name ts)
    where
      by : (b : Bool) → (if b then x else Some name) ≡ (if not b then Some name else x)
      by true = refl
      by false = refl

  further : (n : ℕ) (assignments : List Assignment) → AreParted n assignments → Ascends n assignments
      → first_new names assignments (type_ids assignments) ≡ first_further ts assignments
  unfolding first_new type_ids type_name
  further n [] p a = refl
  further n (x ∷ assignments) p a =
      by (later_names names x assignments (type_ids assignments) p.1 (ids_from x.end assignments p.2 a.1) ∙ further x.end assignments p.2 a.1) x.body refl
    where
      named : (id : TypeId) → x.body ≡ bodies.Type id → type_name id (x ∷ assignments) ≡ x.name
      named id e =
          ap (λ (b : Body). if is_body_of id b then x.name else type_name id assignments) e
          ∙ ap (λ (b : Bool). if b then x.name else type_name id assignments) (own_number id)

      by : first_new names (x ∷ assignments) (type_ids assignments) ≡ first_further ts assignments → (body : Body) → x.body ≡ body → first_new names (x ∷ assignments) (type_ids (x ∷ assignments)) ≡ first_further ts (x ∷ assignments)
      by others (bodies.Type id) e =
          ap (λ (b : Body). first_new names (x ∷ assignments) (put_type (type_of b) (type_ids assignments))) e
          ∙ ap (λ (n : List ℕ). if is_among n names then first_new names (x ∷ assignments) (type_ids assignments) else Some n) (named id e)
          ∙ new_or x.name (first_new names (x ∷ assignments) (type_ids assignments))
          ∙ ap (λ (o : Option (List ℕ)). if not (is_name_among x.name ts) then Some x.name else o) others
          ∙ sym (ap (λ (b : Body). if is_type_body b && not (is_name_among x.name ts) then Some x.name else first_further ts assignments) e)
      by others (bodies.IeSet found) e =
          ap (λ (b : Body). first_new names (x ∷ assignments) (put_type (type_of b) (type_ids assignments))) e
          ∙ others
          ∙ sym (ap (λ (b : Body). if is_type_body b && not (is_name_among x.name ts) then Some x.name else first_further ts assignments) e)
      by others (bodies.ProcedureSet found) e =
          ap (λ (b : Body). first_new names (x ∷ assignments) (put_type (type_of b) (type_ids assignments))) e
          ∙ others
          ∙ sym (ap (λ (b : Body). if is_type_body b && not (is_name_among x.name ts) then Some x.name else first_further ts assignments) e)

-- ---- all of it

no_wrong : (a b : Option (List ℕ)) → or_else a b ≡ None → a ≡ None
no_wrong None b h = refl
no_wrong (Some x) b h = cc

pub differs_so : (p m : Syntax) (ts : List Form) (names : List (List ℕ)) → are_shallow (by_name ts) ≡ true → names ≡ names_of (by_name ts)
    → Agrees ts p → IsModule m
    → or_else (first_other p m names) (first_new names m.assignments (type_ids m.assignments)) ≡ differs ts m
differs_so p m ts names shallow same agrees is =
    let wrong : first_other p m names ≡ first_wrong m (by_name ts) =
    ap (first_other p m) same ∙ first_alike p m (by_name ts) shallow (no_wrong _ _ agrees) in
    let among : (name : List ℕ) → is_among name names ≡ is_name_among name ts =
    λ name. ap (is_among name) same ∙ among_names name (by_name ts) ∙ among_by_name name ts in
    let more : first_new names m.assignments (type_ids m.assignments) ≡ first_further ts m.assignments =
    further ts names among 0 m.assignments is.linked.parts (module_ascends is.is.means) in
    ap (λ (o : Option (List ℕ)). or_else o (first_new names m.assignments (type_ids m.assignments))) wrong
    ∙ ap (or_else (first_wrong m (by_name ts))) more
