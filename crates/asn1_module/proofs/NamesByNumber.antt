-- What stands at the number of a name is what the name stands for.
use Rattle.std.proofs.Common.{◌≡◌, ℕ, zero, suc, ◌+◌, ◌<◌, List, [], ◌∷◌, length, get_or, Bool, true, false, cond, refl, sym, ap, ◌∙◌, subst, arith}
use Rattle.std.specs.Prelude.{Option, Some, None, IfSome, slice_get, option_map}
use Rattle.std.specs.List.{position_from}
use Rattle.std.proofs.lemmas.Iterator.Adapters.{position_from-zero}
use Rattle.asn1_tokens.specs.Words.{is_text}
use Rattle.asn1_syntax.specs.declared.types.definition.TypeId.{TypeId}
use Rattle.asn1_syntax.specs.declared.types.definition.Definition.{Definition}
use Rattle.asn1_syntax.specs.declared.types.definition.Definition.TheVariants as types
use Rattle.asn1_syntax.specs.declared.types.definition.Node.{Node}
use Rattle.asn1_syntax.specs.declared.assignments.assignment.Body.{Body}
use Rattle.asn1_syntax.specs.declared.assignments.assignment.IeRow.{IeRow}
use Rattle.asn1_syntax.specs.declared.assignments.assignment.ProcedureRow.{ProcedureRow}
use Rattle.asn1_syntax.specs.declared.assignments.assignment.Assignment.{Assignment}
use Rattle.asn1_syntax.specs.assignments.Index.{number_of}
use Rattle.asn1_syntax.specs.declared.assignments.assignment.Syntax.{Syntax}
use Rattle.asn1_defs.specs.Links.{IesBelow, ProceduresBelow}
use Rattle.asn1_defs.specs.Targets.{type_of, find_type, ie_rows_of, ie_rows, procedure_rows_of, procedure_rows, definition_of, definition_at, all_of, referred, element_rows, message_rows}
use Rattle.asn1_defs.specs.Modules.{IsModule}
use Rattle.asn1_defs.specs.Numbers.{number_in, all_numbers, numbers_in}
use Rattle.asn1_module.specs.Numbers.{body_at, found_in}
use Rattle.asn1_module.proofs.graph.NumberLemmas.{length-all_numbers}
use Rattle.asn1_defs.specs.declared.names.Kind.{Kind}
use Rattle.asn1_defs.specs.declared.names.Kind.TheVariants as kinds
use Rattle.asn1_defs.specs.Names.{kind_of_body, kind_of_name, is_such, is_known}
use Rattle.asn1_module.proofs.Facts.{type_below, ies_below, procedures_below}

pub number_at : (assignments : List Assignment) (nodes : List Node) (i : ℕ) (d : Option ℕ) → i < length nodes
    → get_or (all_numbers assignments nodes) i d ≡ number_in assignments (definition_of (slice_get nodes i))
unfolding all_numbers
number_at assignments [] i d lt = absurd (omega arith)
number_at assignments (node ∷ nodes) zero d lt = refl
number_at assignments (node ∷ nodes) (suc i) d lt = number_at assignments nodes i d (omega arith)

-- what the first assignment of a name has
found : {X : Type 0} → (Body → Option X) → List ℕ → List Assignment → Option X
found f name [] = None
found f name (a ∷ assignments) = cond (is_text a.name name) (f a.body) (found f name assignments)

found_from : {X : Type 0} (f : Body → Option X) (name : List ℕ) (whole rest : List Assignment) (i : ℕ)
    → ((k : ℕ) → slice_get whole (i + k) ≡ slice_get rest k)
    → found f name rest ≡ found_in f (body_at whole (position_from (λ (a : Assignment). is_text a.name name) i rest))
unfolding found
found_from f name whole [] i same = refl
found_from {X} f name whole (a ∷ rest) i same = go (is_text a.name name) (found_from f name whole rest (i + 1) on)
  where
    here : slice_get whole i ≡ Some a
    here = subst (λ (k : ℕ). slice_get whole k ≡ Some a) (omega arith) (same zero)

    on : (k : ℕ) → slice_get whole (i + 1 + k) ≡ slice_get rest k
    on k = subst (λ (j : ℕ). slice_get whole j ≡ slice_get rest k) (omega arith) (same (suc k))

    go : (b : Bool) → found f name rest ≡ found_in f (body_at whole (position_from (λ (a : Assignment). is_text a.name name) (i + 1) rest))
        → cond b (f a.body) (found f name rest) ≡ found_in f
        (body_at whole (cond b (Some i) (position_from (λ (a : Assignment). is_text a.name name) (i + 1) rest)))
    go true later = ap (λ (o : Option Assignment). found_in f (option_map (λ (a : Assignment). a.body) o)) (sym here)
    go false later = later

found_numbered : {X : Type 0} (f : Body → Option X) (name : List ℕ) (assignments : List Assignment)
    → found f name assignments ≡ found_in f (body_at assignments (number_of name assignments))
found_numbered f name assignments =
    found_from f name assignments assignments 0 (λ k. ap (slice_get assignments) (omega arith))
    ∙ ap (λ (o : Option ℕ). found_in f (body_at assignments o))
    (sym (position_from-zero (λ (a : Assignment). is_text a.name name) assignments))

types_found : (name : List ℕ) (assignments : List Assignment) → find_type name assignments ≡ found type_of name assignments
unfolding find_type found
types_found name [] = refl
types_found name (a ∷ assignments) =
    ap (λ (o : Option TypeId). cond (is_text a.name name) (type_of a.body) o) (types_found name assignments)

ies_found : (name : List ℕ) (assignments : List Assignment) → ie_rows name assignments ≡ found ie_rows_of name assignments
unfolding ie_rows found
ies_found name [] = refl
ies_found name (a ∷ assignments) =
    ap (λ (o : Option (List IeRow)). cond (is_text a.name name) (ie_rows_of a.body) o) (ies_found name assignments)

procedures_found : (name : List ℕ) (assignments : List Assignment)
    → procedure_rows name assignments ≡ found procedure_rows_of name assignments
unfolding procedure_rows found
procedures_found name [] = refl
procedures_found name (a ∷ assignments) =
    ap (λ (o : Option (List ProcedureRow)). cond (is_text a.name name) (procedure_rows_of a.body) o) (procedures_found name assignments)

kinds_found : (name : List ℕ) (assignments : List Assignment)
    → kind_of_name name assignments ≡ found (λ (body : Body). Some (kind_of_body body)) name assignments
unfolding kind_of_name found
kinds_found name [] = refl
kinds_found name (a ∷ assignments) =
    ap (λ (o : Option Kind). cond (is_text a.name name) (Some (kind_of_body a.body)) o) (kinds_found name assignments)

pub kind_numbered : (name : List ℕ) (assignments : List Assignment)
    → kind_of_name name assignments ≡ option_map kind_of_body (body_at assignments (number_of name assignments))
kind_numbered name assignments =
    kinds_found name assignments ∙ found_numbered (λ (body : Body). Some (kind_of_body body)) name assignments
    ∙ same (body_at assignments (number_of name assignments))
  where
    same : (o : Option Body) → found_in (λ (body : Body). Some (kind_of_body body)) o ≡ option_map kind_of_body o
    same None = refl
    same (Some body) = refl

-- the name in a type is known as its number tells
by_number : (kind : Kind) (name : List ℕ) (assignments : List Assignment) (target : Option ℕ) (result : Bool) → target ≡ number_of name assignments
    → result ≡ is_such kind (option_map kind_of_body (body_at assignments target)) → result ≡ is_such kind (kind_of_name name assignments)
by_number kind name assignments target result is told =
    told
    ∙ ap (λ (o : Option ℕ). is_such kind (option_map kind_of_body (body_at assignments o))) is
    ∙ ap (is_such kind) (sym (kind_numbered name assignments))

pub known_type : (definition : Definition) (name : List ℕ) (assignments : List Assignment) (target : Option ℕ) (result : Bool) → definition ≡ types.Reference name → target ≡ number_in assignments definition
    → result ≡ is_such kinds.Type (option_map kind_of_body (body_at assignments target)) → result ≡ is_known assignments definition
unfolding is_known
known_type definition name assignments target result is at told =
    by_number kinds.Type name assignments target result (at ∙ ap (number_in assignments) is) told ∙ ap (is_known assignments) (sym is)

pub known_set : (definition : Definition) (name : List ℕ) (assignments : List Assignment) (target : Option ℕ) (result : Bool) → definition ≡ types.IeContainer name → target ≡ number_in assignments definition
    → result ≡ is_such kinds.IeSet (option_map kind_of_body (body_at assignments target)) → result ≡ is_known assignments definition
unfolding is_known
known_set definition name assignments target result is at told =
    by_number kinds.IeSet name assignments target result (at ∙ ap (number_in assignments) is) told ∙ ap (is_known assignments) (sym is)

pub known_procedures : (definition : Definition) (name : List ℕ) (assignments : List Assignment) (target : Option ℕ) (result : Bool) → definition ≡ types.Pdu name → target ≡ number_in assignments definition
    → result ≡ is_such kinds.ProcedureSet (option_map kind_of_body (body_at assignments target)) → result ≡ is_known assignments definition
unfolding is_known
known_procedures definition name assignments target result is at told =
    by_number kinds.ProcedureSet name assignments target result (at ∙ ap (number_in assignments) is) told ∙ ap (is_known assignments) (sym is)

pub type_numbered : (name : List ℕ) (assignments : List Assignment)
    → find_type name assignments ≡ found_in type_of (body_at assignments (number_of name assignments))
type_numbered name assignments = types_found name assignments ∙ found_numbered type_of name assignments

pub ies_numbered : (name : List ℕ) (assignments : List Assignment)
    → ie_rows name assignments ≡ found_in ie_rows_of (body_at assignments (number_of name assignments))
ies_numbered name assignments = ies_found name assignments ∙ found_numbered ie_rows_of name assignments

pub procedures_numbered : (name : List ℕ) (assignments : List Assignment)
    → procedure_rows name assignments ≡ found_in procedure_rows_of (body_at assignments (number_of name assignments))
procedures_numbered name assignments = procedures_found name assignments ∙ found_numbered procedure_rows_of name assignments

-- ---- of a module that is read: what it keeps, and what its calls give

pub targets_long : (s t : Syntax) (targets : List (Option ℕ)) (i : ℕ) → s ≡ t → targets ≡ numbers_in s → i < length t.nodes
    → i < length targets
targets_long s t targets i same is lt =
    omega
    (arith, ap (λ (xs : List (Option ℕ)). length xs) is, length-all_numbers s.assignments s.nodes, ap (λ (x : Syntax). length x.nodes) same)

pub target_here : (s t : Syntax) (targets : List (Option ℕ)) (i : ℕ) (d : Option ℕ) → s ≡ t → targets ≡ numbers_in s → i < length t.nodes
    → get_or targets i d ≡ number_in t.assignments (definition_at t i)
target_here s t targets i d same is lt =
    ap (λ (xs : List (Option ℕ)). get_or xs i d) is
    ∙ ap (λ (x : Syntax). get_or (numbers_in x) i d) same
    ∙ number_at t.assignments t.nodes i d lt

pub body_here : (s t : Syntax) (targets : List (Option ℕ)) (names : List Assignment) (i : ℕ) (d : Option ℕ) → s ≡ t
    → targets ≡ numbers_in s → names ≡ s.assignments → i < length t.nodes
    → body_at names (get_or targets i d) ≡ body_at t.assignments (number_in t.assignments (definition_at t i))
body_here s t targets names i d same is at lt =
    ap (λ (o : Option ℕ). body_at names o) (target_here s t targets i d same is lt)
    ∙ ap (λ (xs : List Assignment). body_at xs (number_in t.assignments (definition_at t i))) (at ∙ ap (λ (x : Syntax). x.assignments) same)

pub referred_is : (names : List Assignment) (d : Definition) (name : List ℕ) (body : Option Body) (r : Option TypeId)
    → d ≡ types.Reference name → body ≡ body_at names (number_in names d) → r ≡ found_in type_of body → r ≡ referred names d
referred_is names d name body r is at found =
    subst (λ (x : Definition). r ≡ referred names x) (sym is)
    (found ∙ ap (found_in type_of) (subst (λ (x : Definition). body ≡ body_at names (number_in names x)) is at) ∙ sym
    (type_numbered name names))

pub elements_are : (names : List Assignment) (d : Definition) (set : List ℕ) (body : Option Body) (r : List IeRow)
    → d ≡ types.IeContainer set → body ≡ body_at names (number_in names d) → r ≡ all_of (found_in ie_rows_of body)
    → r ≡ element_rows names d
elements_are names d set body r is at found =
    subst (λ (x : Definition). r ≡ element_rows names x) (sym is)
    (found ∙ ap (λ (b : Option Body). all_of (found_in ie_rows_of b))
    (subst (λ (x : Definition). body ≡ body_at names (number_in names x)) is at) ∙ ap all_of (sym (ies_numbered set names)))

pub messages_are : (names : List Assignment) (d : Definition) (set : List ℕ) (body : Option Body) (r : List ProcedureRow)
    → d ≡ types.Pdu set → body ≡ body_at names (number_in names d) → r ≡ all_of (found_in procedure_rows_of body) → r ≡ message_rows names d
messages_are names d set body r is at found =
    subst (λ (x : Definition). r ≡ message_rows names x) (sym is)
    (found ∙ ap (λ (b : Option Body). all_of (found_in procedure_rows_of b))
    (subst (λ (x : Definition). body ≡ body_at names (number_in names x)) is at) ∙ ap all_of (sym (procedures_numbered set names)))

pub referred_below : (m : Syntax) (name : List ℕ) (d : Definition) (r : Option TypeId) → IsModule m → d ≡ types.Reference name
    → r ≡ referred m.assignments d → IfSome r (λ id. id.number < length m.nodes)
referred_below m name d r ok is found =
    subst (λ (o : Option TypeId). IfSome o (λ id. id.number < length m.nodes)) (sym (found ∙ ap (referred m.assignments) is))
    (type_below (length m.nodes) name m.assignments ok.linked.assignments)

pub elements_below : (m : Syntax) (set : List ℕ) (d : Definition) (r : List IeRow) → IsModule m → d ≡ types.IeContainer set
    → r ≡ element_rows m.assignments d → IesBelow (length m.nodes) r
elements_below m set d r ok is found =
    subst (IesBelow (length m.nodes)) (sym (found ∙ ap (element_rows m.assignments) is))
    (go (ie_rows set m.assignments) (ies_below (length m.nodes) set m.assignments ok.linked.assignments))
  where
    go : (o : Option (List IeRow)) → IfSome o (IesBelow (length m.nodes)) → IesBelow (length m.nodes) (all_of o)
    go None h = tt
    go (Some rows) h = h

pub messages_below : (m : Syntax) (set : List ℕ) (d : Definition) (r : List ProcedureRow) → IsModule m → d ≡ types.Pdu set
    → r ≡ message_rows m.assignments d → ProceduresBelow (length m.nodes) r
messages_below m set d r ok is found =
    subst (ProceduresBelow (length m.nodes)) (sym (found ∙ ap (message_rows m.assignments) is))
    (go (procedure_rows set m.assignments) (procedures_below (length m.nodes) set m.assignments ok.linked.assignments))
  where
    go : (o : Option (List ProcedureRow)) → IfSome o (ProceduresBelow (length m.nodes)) → ProceduresBelow (length m.nodes) (all_of o)
    go None h = tt
    go (Some rows) h = h
