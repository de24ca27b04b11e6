-- What is so of a module, at one of its types or names.
use Rattle.std.proofs.Common.{◌≡◌, ℕ, zero, suc, ◌+◌, ◌<◌, List, [], ◌∷◌, length, get_or, Bool, true, false, cond, refl, sym, ap, ◌∙◌, subst, arith}
use Rattle.std.specs.Prelude.{Option, Some, None, IsSome, IfSome, slice_get, option_map}
use Rattle.asn1_tokens.specs.Words.{is_text}
use Rattle.asn1_syntax.specs.declared.types.definition.TypeId.{TypeId}
use Rattle.asn1_syntax.specs.declared.types.definition.Definition.{Definition}
use Rattle.asn1_syntax.specs.declared.types.definition.Definition.TheVariants as types
use Rattle.asn1_syntax.specs.declared.types.definition.Node.{Node}
use Rattle.asn1_syntax.specs.declared.assignments.assignment.Body.{Body}
use Rattle.asn1_syntax.specs.declared.assignments.assignment.Body.TheVariants as bodies
use Rattle.asn1_syntax.specs.declared.assignments.assignment.IeRow.{IeRow}
use Rattle.asn1_syntax.specs.declared.assignments.assignment.ProcedureRow.{ProcedureRow}
use Rattle.asn1_syntax.specs.declared.assignments.assignment.Assignment.{Assignment}
use Rattle.asn1_syntax.specs.declared.assignments.assignment.Syntax.{Syntax}
use Rattle.asn1_defs.specs.declared.names.Kind.TheVariants as kinds
use Rattle.asn1_defs.specs.Names.{kind_of_body, kind_of_name, is_such, is_known, first_unknown}
use Rattle.asn1_defs.specs.Links.{IsInside, AreOrdered, BodyBelow, BodiesBelow, IesBelow, ProceduresBelow}
use Rattle.asn1_defs.specs.Judgement.{Judged, IsSound, sound}
use Rattle.asn1_defs.specs.Targets.{type_of, put_type, type_ids, find_type, ie_rows_of, ie_rows, procedure_rows_of, procedure_rows, HasTarget}
use Rattle.asn1_defs.specs.Modules.{IsModule}

pub sound_of : (s : Syntax) → Judged s None → IsSound s
sound_of s (sound ok) = ok

pub inside_at : (n : ℕ) (nodes : List Node) (i : ℕ) (d : Node) → i < length nodes → AreOrdered n nodes → IsInside (n + i) (get_or nodes i d).definition
inside_at n [] i d lt ok = absurd (omega arith)
inside_at n (node ∷ nodes) zero d lt ok = subst (λ (k : ℕ). IsInside k node.definition) (omega arith) ok.0
inside_at n (node ∷ nodes) (suc i) d lt ok =
    subst (λ (k : ℕ). IsInside k (get_or nodes i d).definition) (omega arith) (inside_at (suc n) nodes i d (omega arith) ok.1)

known_at : (assignments : List Assignment) (nodes : List Node) (i : ℕ) (d : Node) → i < length nodes → first_unknown assignments nodes ≡ None → is_known assignments (get_or nodes i d).definition ≡ true
unfolding first_unknown
known_at assignments [] i d lt h = absurd (omega arith)
known_at assignments (node ∷ nodes) zero d lt h = go (is_known assignments node.definition) h
  where
    go : (b : Bool) → cond b (first_unknown assignments nodes) (Some node.place) ≡ None → b ≡ true
    go true e = refl
    go false e = cc
known_at assignments (node ∷ nodes) (suc i) d lt h = known_at assignments nodes i d (omega arith) (go (is_known assignments node.definition) h)
  where
    go : (b : Bool) → cond b (first_unknown assignments nodes) (Some node.place) ≡ None → first_unknown assignments nodes ≡ None
    go true e = e
    go false e = cc

type_found : (name : List ℕ) (assignments : List Assignment) → is_such kinds.Type (kind_of_name name assignments) ≡ true → IsSome (find_type name assignments)
unfolding kind_of_name find_type
type_found name [] h = cc
type_found name (a ∷ assignments) h = go (is_text a.name name) h (type_found name assignments)
  where
    here : (body : Body) → is_such kinds.Type (Some (kind_of_body body)) ≡ true → IsSome (type_of body)
    here (bodies.Type definition) h = refl
    here (bodies.IeSet rows) h = cc
    here (bodies.ProcedureSet rows) h = cc

    go : (b : Bool) → is_such kinds.Type (cond b (Some (kind_of_body a.body)) (kind_of_name name assignments)) ≡ true → (is_such kinds.Type (kind_of_name name assignments) ≡ true → IsSome (find_type name assignments)) → IsSome (cond b (type_of a.body) (find_type name assignments))
    go true h later = here a.body h
    go false h later = later h

ies_found : (name : List ℕ) (assignments : List Assignment) → is_such kinds.IeSet (kind_of_name name assignments) ≡ true → IsSome (ie_rows name assignments)
unfolding kind_of_name ie_rows
ies_found name [] h = cc
ies_found name (a ∷ assignments) h = go (is_text a.name name) h (ies_found name assignments)
  where
    here : (body : Body) → is_such kinds.IeSet (Some (kind_of_body body)) ≡ true → IsSome (ie_rows_of body)
    here (bodies.Type definition) h = cc
    here (bodies.IeSet rows) h = refl
    here (bodies.ProcedureSet rows) h = cc

    go : (b : Bool) → is_such kinds.IeSet (cond b (Some (kind_of_body a.body)) (kind_of_name name assignments)) ≡ true → (is_such kinds.IeSet (kind_of_name name assignments) ≡ true → IsSome (ie_rows name assignments)) → IsSome (cond b (ie_rows_of a.body) (ie_rows name assignments))
    go true h later = here a.body h
    go false h later = later h

procedures_found : (name : List ℕ) (assignments : List Assignment) → is_such kinds.ProcedureSet (kind_of_name name assignments) ≡ true → IsSome (procedure_rows name assignments)
unfolding kind_of_name procedure_rows
procedures_found name [] h = cc
procedures_found name (a ∷ assignments) h = go (is_text a.name name) h (procedures_found name assignments)
  where
    here : (body : Body) → is_such kinds.ProcedureSet (Some (kind_of_body body)) ≡ true → IsSome (procedure_rows_of body)
    here (bodies.Type definition) h = cc
    here (bodies.IeSet rows) h = cc
    here (bodies.ProcedureSet rows) h = refl

    go : (b : Bool) → is_such kinds.ProcedureSet (cond b (Some (kind_of_body a.body)) (kind_of_name name assignments)) ≡ true → (is_such kinds.ProcedureSet (kind_of_name name assignments) ≡ true → IsSome (procedure_rows name assignments)) → IsSome (cond b (procedure_rows_of a.body) (procedure_rows name assignments))
    go true h later = here a.body h
    go false h later = later h

has_target : (assignments : List Assignment) (definition : Definition) → is_known assignments definition ≡ true → HasTarget assignments definition
unfolding is_known
has_target assignments (types.Reference name) h = type_found name assignments h
has_target assignments (types.IeContainer set) h = ies_found set assignments h
has_target assignments (types.Pdu set) h = procedures_found set assignments h
has_target assignments _ h = tt

pub target_at : (assignments : List Assignment) (nodes : List Node) (i : ℕ) (d : Node) → i < length nodes → first_unknown assignments nodes ≡ None → HasTarget assignments (get_or nodes i d).definition
target_at assignments nodes i d lt h = has_target assignments (get_or nodes i d).definition (known_at assignments nodes i d lt h)

pub type_below : (n : ℕ) (name : List ℕ) (assignments : List Assignment) → BodiesBelow n assignments → IfSome (find_type name assignments) (λ id. id.number < n)
unfolding find_type
type_below n name [] ok = tt
type_below n name (a ∷ assignments) ok = go (is_text a.name name) (type_below n name assignments ok.1)
  where
    here : (body : Body) → BodyBelow n body → IfSome (type_of body) (λ id. id.number < n)
    here (bodies.Type definition) below = below
    here (bodies.IeSet rows) below = tt
    here (bodies.ProcedureSet rows) below = tt

    go : (b : Bool) → IfSome (find_type name assignments) (λ id. id.number < n) → IfSome (cond b (type_of a.body) (find_type name assignments)) (λ id. id.number < n)
    go true later = here a.body ok.0
    go false later = later

pub ies_below : (n : ℕ) (name : List ℕ) (assignments : List Assignment) → BodiesBelow n assignments → IfSome (ie_rows name assignments) (IesBelow n)
unfolding ie_rows
ies_below n name [] ok = tt
ies_below n name (a ∷ assignments) ok = go (is_text a.name name) (ies_below n name assignments ok.1)
  where
    here : (body : Body) → BodyBelow n body → IfSome (ie_rows_of body) (IesBelow n)
    here (bodies.Type definition) below = tt
    here (bodies.IeSet rows) below = below
    here (bodies.ProcedureSet rows) below = tt

    go : (b : Bool) → IfSome (ie_rows name assignments) (IesBelow n) → IfSome (cond b (ie_rows_of a.body) (ie_rows name assignments)) (IesBelow n)
    go true later = here a.body ok.0
    go false later = later

pub procedures_below : (n : ℕ) (name : List ℕ) (assignments : List Assignment) → BodiesBelow n assignments → IfSome (procedure_rows name assignments) (ProceduresBelow n)
unfolding procedure_rows
procedures_below n name [] ok = tt
procedures_below n name (a ∷ assignments) ok = go (is_text a.name name) (procedures_below n name assignments ok.1)
  where
    here : (body : Body) → BodyBelow n body → IfSome (procedure_rows_of body) (ProceduresBelow n)
    here (bodies.Type definition) below = tt
    here (bodies.IeSet rows) below = tt
    here (bodies.ProcedureSet rows) below = below

    go : (b : Bool) → IfSome (procedure_rows name assignments) (ProceduresBelow n) → IfSome (cond b (procedure_rows_of a.body) (procedure_rows name assignments)) (ProceduresBelow n)
    go true later = here a.body ok.0
    go false later = later

pub nth_below : (n : ℕ) (assignments : List Assignment) (i : ℕ) (id : TypeId) → BodiesBelow n assignments → slice_get (type_ids assignments) i ≡ Some id → id.number < n
unfolding type_ids
nth_below n [] i id ok h = cc
nth_below n (a ∷ assignments) i id ok h = go a.body i ok.0 h (λ j. nth_below n assignments j id ok.1)
  where
    go : (body : Body) (i : ℕ) → BodyBelow n body → slice_get (put_type (type_of body) (type_ids assignments)) i ≡ Some id → ((j : ℕ) → slice_get (type_ids assignments) j ≡ Some id → id.number < n) → id.number < n
    go (bodies.Type definition) zero below h later = subst (λ (x : TypeId). x.number < n) (same h) below
      where
        same : Some definition ≡ Some id → definition ≡ id
        same e = cc
    go (bodies.Type definition) (suc i) below h later = later i h
    go (bodies.IeSet rows) i below h later = later i h
    go (bodies.ProcedureSet rows) i below h later = later i h

pub here_inside : (s t : Syntax) (ns : List Node) (i : ℕ) (d : Node) → IsModule s → s ≡ t → ns ≡ s.nodes → i < length t.nodes → IsInside i (get_or ns i d).definition
here_inside s t ns i d m same is lt =
    subst (λ (xs : List Node). IsInside i (get_or xs i d).definition) (sym is)
    (subst (λ (k : ℕ). IsInside k (get_or s.nodes i d).definition) (omega arith) (inside_at 0 s.nodes i d (subst (λ (x : Syntax). i < length x.nodes) (sym same) lt) m.linked.types))

pub here_target : (s t : Syntax) (ns : List Node) (i : ℕ) (d : Node) → IsModule s → s ≡ t → ns ≡ s.nodes → i < length t.nodes → HasTarget t.assignments (get_or ns i d).definition
here_target s t ns i d m same is lt =
    subst (λ (x : Syntax). HasTarget x.assignments (get_or ns i d).definition) same
    (subst (λ (xs : List Node). HasTarget s.assignments (get_or xs i d).definition) (sym is)
    (target_at s.assignments s.nodes i d (subst (λ (x : Syntax). i < length x.nodes) (sym same) lt) m.sound.known))

pub find_inside : (s t : Syntax) (parts : List Assignment) (name : List ℕ) (r : Option TypeId) → IsModule s → s ≡ t → parts ≡ s.assignments → r ≡ find_type name parts → IfSome r (λ id. id.number < length t.nodes)
find_inside s t parts name r m same is found =
    subst (λ (x : Syntax). IfSome r (λ id. id.number < length x.nodes)) same
    (subst (λ (o : Option TypeId). IfSome o (λ id. id.number < length s.nodes)) (sym (found ∙ ap (λ (xs : List Assignment). find_type name xs) is))
    (type_below (length s.nodes) name s.assignments m.linked.assignments))

if_some_map : {A B : Type 0} (f : A → B) (o : Option A) (P : B → Type 0) → IfSome (option_map f o) P → IfSome o (λ x. P (f x))
if_some_map f None P h = tt
if_some_map f (Some x) P h = h

pub ies_inside : {A : Type 0} (f : A → List IeRow) (s t : Syntax) (parts : List Assignment) (name : List ℕ) (r : Option A) → IsModule s → s ≡ t → parts ≡ s.assignments → option_map f r ≡ ie_rows name parts → IfSome r (λ rows. IesBelow (length t.nodes) (f rows))
ies_inside f s t parts name r m same is found =
    if_some_map f r (IesBelow (length t.nodes))
    (subst (λ (x : Syntax). IfSome (option_map f r) (IesBelow (length x.nodes))) same
    (subst (λ (o : Option (List IeRow)). IfSome o (IesBelow (length s.nodes))) (sym (found ∙ ap (λ (xs : List Assignment). ie_rows name xs) is))
    (ies_below (length s.nodes) name s.assignments m.linked.assignments)))

pub procedures_inside : {A : Type 0} (f : A → List ProcedureRow) (s t : Syntax) (parts : List Assignment) (name : List ℕ) (r : Option A) → IsModule s → s ≡ t → parts ≡ s.assignments → option_map f r ≡ procedure_rows name parts → IfSome r (λ rows. ProceduresBelow (length t.nodes) (f rows))
procedures_inside f s t parts name r m same is found =
    if_some_map f r (ProceduresBelow (length t.nodes))
    (subst (λ (x : Syntax). IfSome (option_map f r) (ProceduresBelow (length x.nodes))) same
    (subst (λ (o : Option (List ProcedureRow)). IfSome o (ProceduresBelow (length s.nodes))) (sym (found ∙ ap (λ (xs : List Assignment). procedure_rows name xs) is))
    (procedures_below (length s.nodes) name s.assignments m.linked.assignments)))

pub at_inside : (s t : Syntax) (parts : List Assignment) (i : ℕ) (r : Option TypeId) (id : TypeId) → IsModule s → s ≡ t → parts ≡ s.assignments → r ≡ slice_get (type_ids parts) i → r ≡ Some id → id.number < length t.nodes
at_inside s t parts i r id m same is found there =
    subst (λ (x : Syntax). id.number < length x.nodes) same
    (nth_below (length s.nodes) s.assignments i id m.linked.assignments (sym (found ∙ ap (λ (xs : List Assignment). slice_get (type_ids xs) i) is) ∙ there))
