-- The assignments that a module's items give are its assignments, and what these hold is what the types in them refer by.
use Rattle.std.proofs.Common.{◌≡◌, ℕ, zero, suc, ◌-◌, ◌<◌, ◌≤◌, List, [], ◌∷◌, ◌++◌, length, take, drop, cond, refl, sym, ap, ◌∙◌, subst, append_assoc, append-nil, arith, length-append}
use Rattle.std.specs.Prelude.{Option, Some, None, slice_get}
use Rattle.asn1_tokens.specs.declared.token.Word.TheVariants as words
use Rattle.asn1_tokens.specs.declared.token.Sign.TheVariants as signs
use Rattle.asn1_tokens.specs.declared.token.Token.TheVariants as tokens
use Rattle.asn1_tokens.specs.Words.{is_text}
use Rattle.asn1_tokens.specs.Stream.{Placed}
use Rattle.asn1_syntax.specs.declared.types.definition.Definition.{Definition}
use Rattle.asn1_syntax.specs.declared.types.definition.Definition.TheVariants as types
use Rattle.asn1_syntax.specs.declared.types.definition.Node.{Node}
use Rattle.asn1_syntax.specs.declared.assignments.assignment.Body.{Body}
use Rattle.asn1_syntax.specs.declared.assignments.assignment.Assignment.{Assignment}
use Rattle.asn1_syntax.specs.declared.assignments.assignment.Syntax.{Syntax}
use Rattle.asn1_defs.specs.declared.names.Kind.{Kind}
use Rattle.asn1_defs.specs.declared.names.Kind.TheVariants as kinds
use Rattle.asn1_defs.specs.Names.{kind_of_body, kind_of_name, is_such, is_known, first_unknown}
use Rattle.asn1_defs.specs.ItemMeanings.{The, start_of}
use Rattle.asn1_defs.specs.ModuleMeanings.{MeansBody, a_type, ie_set, procedure_set, MeansAssignments, none, one, MeansModule, a_module}
use Rattle.law_asn1.specs.names.Held.{Mention, Given, given_kind, held, givens, all_held, given_of, first_not_given, unknown_in}
use Rattle.law_asn1.proofs.names.Passing.{◌then◌, plain_passed, sign_passed, upper_passed, name_given, name_ends, end_ends, begins_with_the, mention_of, mentions_of, mentions-append, IsFrom, AreFrom, Grown, later_grown}
use Rattle.law_asn1.proofs.names.TypesHeld.{types_held}
use Rattle.law_asn1.proofs.names.RowsHeld.{ies_held, procedures_held}

-- what a name stands for, and what its items hold
record BodyHeld (nodes all : List Node) (ts rest : List Placed) (body : Body) : Type 0 where
  kind : given_kind ts ≡ Some (kind_of_body body)
  grown : Grown kinds.Type nodes all ts rest

body_held : {nodes all : List Node} {body : Body} {ts rest : List Placed} → given_kind rest ≡ None → MeansBody nodes ts body all rest → BodyHeld nodes all ts rest body
body_held follows (a_type a m) = record {
  kind = begins_with_the (tokens.Sign signs.Assignment) a;
  grown = later_grown (sign_passed signs.Assignment kinds.Type a) (types_held follows m);
}
body_held follows (ie_set a b c r) = record {
  kind = begins_with_the (tokens.Word words.ProtocolIes) a;
  grown = later_grown (plain_passed (tokens.Word words.ProtocolIes) refl kinds.Type a then sign_passed signs.Assignment kinds.Type b then sign_passed signs.LeftBrace kinds.Type c) (ies_held r);
}
body_held follows (procedure_set a b c r) = record {
  kind = begins_with_the (tokens.Word words.ElementaryProcedure) a;
  grown = later_grown (plain_passed (tokens.Word words.ElementaryProcedure) refl kinds.Type a then sign_passed signs.Assignment kinds.Type b then sign_passed signs.LeftBrace kinds.Type c) (procedures_held r);
}

-- What stands in an assignment among all types of the module: those from the end of the one before to its own end. Its items hold the names
-- by which these refer, and what is inside them stands there too.
pub record PartOf (first : ℕ) (all : List Node) (a : Assignment) (g : Given) : Type 0 where
  pub kind : g.kind ≡ kind_of_body a.body
  pub name : g.name ≡ a.name
  pub place : g.place ≡ a.place
  pub starts : first ≤ a.end
  pub ends : a.end ≤ length all
  pub holds : g.holds ≡ mentions_of (take (a.end - first) (drop first all))
  pub inside : (n : ℕ) (node : Node) → first ≤ n → n < a.end → slice_get all n ≡ Some node → IsFrom first node.definition

-- the assignments that items give are these
unfoldable pub AreParts : ℕ → List Node → List Assignment → List Given → Type 0
AreParts first all [] [] = Unit {0}
AreParts first all [] (g ∷ gs) = ⊥
AreParts first all (a ∷ assignments) [] = ⊥
AreParts first all (a ∷ assignments) (g ∷ gs) = PartOf first all a g × AreParts a.end all assignments gs

-- ---- a list between two others

drop_front : (ns xs : List Node) → drop (length ns) (ns ++ xs) ≡ xs
drop_front [] xs = refl
drop_front (n ∷ ns) xs = drop_front ns xs

take_front : (xs ys : List Node) → take (length xs) (xs ++ ys) ≡ xs
take_front [] ys = refl
take_front (x ∷ xs) ys = ap (λ (l : List Node). x ∷ l) (take_front xs ys)

middle : (ns xs ys : List Node) → take (length (ns ++ xs) - length ns) (drop (length ns) ((ns ++ xs) ++ ys)) ≡ xs
middle ns xs ys =
    let long : length (ns ++ xs) - length ns ≡ length xs = omega (arith, length-append ns xs) in
    ap (λ (n : ℕ). take n (drop (length ns) ((ns ++ xs) ++ ys))) long
    ∙ ap (λ (l : List Node). take (length xs) (drop (length ns) l)) (append_assoc ns xs ys)
    ∙ ap (λ (l : List Node). take (length xs) l) (drop_front ns (xs ++ ys))
    ∙ take_front xs ys

at_front : (xs ys : List Node) (n : ℕ) (node : Node) → n < length xs → slice_get (xs ++ ys) n ≡ Some node → slice_get xs n ≡ Some node
at_front [] ys n node lt h = absurd (omega arith)
at_front (x ∷ xs) ys zero node lt h = h
at_front (x ∷ xs) ys (suc n) node lt h = at_front xs ys n node (omega arith) h

at_middle : (ns xs ys : List Node) (n : ℕ) (node : Node) → length ns ≤ n → n < length (ns ++ xs) → slice_get ((ns ++ xs) ++ ys) n ≡ Some node → slice_get xs (n - length ns) ≡ Some node
at_middle [] xs ys n node least lt h =
    let same : n ≡ n - 0 = omega arith in
    subst (λ (k : ℕ). slice_get xs k ≡ Some node) same (at_front xs ys n node lt h)
at_middle (m ∷ ns) xs ys zero node least lt h = absurd (omega arith)
at_middle (m ∷ ns) xs ys (suc n) node least lt h =
    let same : n - length ns ≡ suc n - suc (length ns) = omega arith in
    subst (λ (k : ℕ). slice_get xs k ≡ Some node) same (at_middle ns xs ys n node (omega arith) (omega arith) h)

from_at : (f : ℕ) (xs : List Node) (i : ℕ) (node : Node) → AreFrom f xs → slice_get xs i ≡ Some node → IsFrom f node.definition
from_at f [] i node h there = cc
from_at f (x ∷ xs) zero node h there = let same : x ≡ node = cc in subst (λ (y : Node). IsFrom f y.definition) same h.0
from_at f (x ∷ xs) (suc i) node h there = from_at f xs i node h.1 there

part_here : (nodes xs ys all inside : List Node) (a : Assignment) (kind : Kind) (holds : List Mention) → all ≡ inside ++ ys → inside ≡ nodes ++ xs → a.end ≡ length inside
    → kind ≡ kind_of_body a.body → holds ≡ mentions_of xs → AreFrom (length nodes) xs
    → PartOf (length nodes) all a (record { kind = kind; name = a.name; place = a.place; holds = holds })
part_here nodes xs ys all inside a kind holds whole grows end is held from = record {
  kind = is;
  name = refl;
  place = refl;
  starts = omega (arith, end, ap (λ (l : List Node). length l) grows, length-append nodes xs);
  ends = omega (arith, end, ap (λ (l : List Node). length l) whole, length-append inside ys);
  holds = held ∙ ap mentions_of (sym (middle nodes xs ys))
      ∙ ap (λ (n : ℕ). mentions_of (take (n - length nodes) (drop (length nodes) ((nodes ++ xs) ++ ys)))) (sym (end ∙ ap (λ (l : List Node). length l) grows))
      ∙ ap (λ (l : List Node). mentions_of (take (a.end - length nodes) (drop (length nodes) l))) (sym together);
  inside = λ n node least most there.
      from_at (length nodes) xs (n - length nodes) node from
      (at_middle nodes xs ys n node least (omega (arith, most, end, ap (λ (l : List Node). length l) grows)) (subst (λ (l : List Node). slice_get l n ≡ Some node) together there));
}
  where
    together : all ≡ (nodes ++ xs) ++ ys
    together = whole ∙ ap (λ (l : List Node). l ++ ys) grows

-- what the items of assignments hold, where these types had ended before
record Held (nodes all : List Node) (ts : List Placed) (assignments : List Assignment) : Type 0 where
  more : List Node
  grows : all ≡ nodes ++ more
  parts : AreParts (length nodes) all assignments (givens ts)
  held : all_held (givens ts) ≡ mentions_of more

-- no assignment begins behind another one but with its name, or END stands there; and nothing is held there
assignments_follow : {nodes all : List Node} {assignments : List Assignment} {ts : List Placed} {end : ℕ} → MeansAssignments nodes ts assignments all end → (given_kind ts ≡ None) × (held kinds.Type ts ≡ [])
assignments_follow (none e) = (begins_with_the (tokens.Word words.End) e, (end_ends kinds.Type e).0)
assignments_follow (one {name} n b m) = (begins_with_the (tokens.Upper name) n, name_ends name kinds.Type (kind_of_body _) (body_held (assignments_follow m).0 b).kind n)

one_held : {nodes inside all : List Node} {name : List ℕ} {body : Body} {assignments : List Assignment} {ts a b : List Placed}
    → The (tokens.Upper name) ts a → BodyHeld nodes inside a b body → held kinds.Type b ≡ [] → Held inside all b assignments
    → Held nodes all ts (record { name = name; place = start_of ts; body = body; end = length inside } ∷ assignments)
unfolding AreParts all_held
one_held {nodes = nodes} {inside = inside} {all = all} {name = name} {body = body} {assignments = assignments} {ts = ts} {a = a} {b = b} n one_body ends later = record {
  more = one_body.grown.more ++ later.more;
  grows = later.grows ∙ ap (λ (l : List Node). l ++ later.more) one_body.grown.grows ∙ append_assoc nodes one_body.grown.more later.more;
  parts = subst (AreParts (length nodes) all (record { name = name; place = start_of ts; body = body; end = length inside } ∷ assignments)) (sym items) (
    part_here nodes one_body.grown.more later.more all inside (record { name = name; place = start_of ts; body = body; end = length inside }) (kind_of_body body) (held kinds.Type a)
        later.grows one_body.grown.grows refl refl own one_body.grown.inside,
    later.parts,
  );
  held = ap all_held items ∙ ap (λ (l : List Mention). l ++ all_held (givens b)) own ∙ ap (λ (l : List Mention). mentions_of one_body.grown.more ++ l) later.held
      ∙ sym (mentions-append one_body.grown.more later.more);
}
  where
    items : givens ts ≡ record { kind = kind_of_body body; name = name; place = start_of ts; holds = held kinds.Type a } ∷ givens b
    items =
        name_given name (kind_of_body body) one_body.kind n
        ∙ ap (λ (gs : List Given). record { kind = kind_of_body body; name = name; place = start_of ts; holds = held kinds.Type a } ∷ gs) one_body.grown.passes.givens

    own : held kinds.Type a ≡ mentions_of one_body.grown.more
    own =
        one_body.grown.passes.held
        ∙ ap (λ (l : List Mention). mentions_of one_body.grown.more ++ l) ends
        ∙ append-nil (mentions_of one_body.grown.more)

assignments_held : {nodes all : List Node} {assignments : List Assignment} {ts : List Placed} {end : ℕ} → MeansAssignments nodes ts assignments all end → Held nodes all ts assignments
unfolding AreParts all_held mentions_of
assignments_held {nodes = nodes} (none {ts} e) = record {
  more = [];
  grows = sym (append-nil nodes);
  parts = subst (AreParts (length nodes) nodes []) (sym (end_ends kinds.Type e).1) tt;
  held = ap all_held (end_ends kinds.Type e).1;
}
assignments_held (one n m k) = one_held n (body_held (assignments_follow k).0 m) (assignments_follow k).1 (assignments_held k)

-- of a whole module
pub record ModuleHeld (ts : List Placed) (m : Syntax) : Type 0 where
  pub parts : AreParts 0 m.nodes m.assignments (givens ts)
  pub held : all_held (givens ts) ≡ mentions_of m.nodes

pub module_held : {ts : List Placed} {m : Syntax} → MeansModule ts m → ModuleHeld ts m
module_held (a_module {name} {assignments} {nodes} n a b c d e k) =
    let found = assignments_held k in
    let front = (upper_passed name kinds.Type (begins_with_the (tokens.Word words.Definitions) a) n then plain_passed (tokens.Word words.Definitions) refl kinds.Type a then
    plain_passed (tokens.Word words.Automatic) refl kinds.Type b then plain_passed (tokens.Word words.Tags) refl kinds.Type c then
    sign_passed signs.Assignment kinds.Type d then plain_passed (tokens.Word words.Begin) refl kinds.Type e) in
    record {
      parts = subst (AreParts 0 nodes assignments) (sym front.givens) found.parts;
      held = ap all_held front.givens ∙ found.held ∙ ap mentions_of (sym found.grows);
    }

-- ---- the first name that isn't known

kind_given : (name : List ℕ) (first : ℕ) (all : List Node) (assignments : List Assignment) (gs : List Given) → AreParts first all assignments gs → given_of name gs ≡ kind_of_name name assignments
unfolding AreParts given_of kind_of_name
kind_given name first all [] [] given = refl
kind_given name first all [] (g ∷ gs) given = absurd given
kind_given name first all (a ∷ assignments) [] given = absurd given
kind_given name first all (a ∷ assignments) (g ∷ gs) given =
    ap (λ (n : List ℕ). cond (is_text n name) (Some g.kind) (given_of name gs)) given.0.name
    ∙ ap (λ (k : Kind). cond (is_text a.name name) (Some k) (given_of name gs)) given.0.kind
    ∙ ap (λ (o : Option Kind). cond (is_text a.name name) (Some (kind_of_body a.body)) o) (kind_given name a.end all assignments gs given.1)

known_given : (all : List Node) (assignments : List Assignment) (gs : List Given) (nodes : List Node) → AreParts 0 all assignments gs → first_unknown assignments nodes ≡ first_not_given gs (mentions_of nodes)
unfolding first_unknown first_not_given mentions_of is_known
known_given all assignments gs [] given = refl
known_given all assignments gs (node ∷ nodes) given = go node.definition (known_given all assignments gs nodes given)
  where
    go : (d : Definition) → first_unknown assignments nodes ≡ first_not_given gs (mentions_of nodes)
        → cond (is_known assignments d) (first_unknown assignments nodes) (Some node.place) ≡ first_not_given gs (mention_of d node.place ++ mentions_of nodes)
    go (types.Reference name) later =
        ap (λ (o : Option Kind). cond (is_such kinds.Type o) (first_unknown assignments nodes) (Some node.place)) (sym (kind_given name 0 all assignments gs given))
        ∙ ap (λ (o : Option ℕ). cond (is_such kinds.Type (given_of name gs)) o (Some node.place)) later
    go (types.IeContainer set) later =
        ap (λ (o : Option Kind). cond (is_such kinds.IeSet o) (first_unknown assignments nodes) (Some node.place)) (sym (kind_given set 0 all assignments gs given))
        ∙ ap (λ (o : Option ℕ). cond (is_such kinds.IeSet (given_of set gs)) o (Some node.place)) later
    go (types.Pdu set) later =
        ap (λ (o : Option Kind). cond (is_such kinds.ProcedureSet o) (first_unknown assignments nodes) (Some node.place)) (sym (kind_given set 0 all assignments gs given))
        ∙ ap (λ (o : Option ℕ). cond (is_such kinds.ProcedureSet (given_of set gs)) o (Some node.place)) later
    go _ later = later

pub unknown_first : (ts : List Placed) (m : Syntax) → MeansModule ts m → first_unknown m.assignments m.nodes ≡ unknown_in ts
unknown_first ts m means =
    let found = module_held means in
    known_given m.nodes m.assignments (givens ts) m.nodes found.parts ∙ ap (first_not_given (givens ts)) (sym found.held)
