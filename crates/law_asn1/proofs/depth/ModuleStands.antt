-- The assignments that a module's items have are its assignments, and the items of each show the types that stand in it.
use Rattle.std.proofs.Common.{◌≡◌, ℕ, ◌≤◌, List, [], ◌∷◌, ◌++◌, length, refl, sym, ap, ◌∙◌, subst, append-nil}
use Rattle.std.specs.Prelude.{Some, None}
use Rattle.asn1_tokens.specs.declared.token.Word.TheVariants as words
use Rattle.asn1_tokens.specs.declared.token.Sign.TheVariants as signs
use Rattle.asn1_tokens.specs.declared.token.Token.TheVariants as tokens
use Rattle.asn1_tokens.specs.Stream.{Placed}
use Rattle.asn1_syntax.specs.declared.types.definition.Node.{Node}
use Rattle.asn1_syntax.specs.declared.assignments.assignment.Body.{Body}
use Rattle.asn1_syntax.specs.declared.assignments.assignment.Assignment.{Assignment}
use Rattle.asn1_syntax.specs.declared.assignments.assignment.Syntax.{Syntax}
use Rattle.asn1_defs.specs.Names.{kind_of_body}
use Rattle.asn1_defs.specs.ItemMeanings.{The, start_of}
use Rattle.asn1_defs.specs.ModuleMeanings.{MeansBody, a_type, ie_set, procedure_set, MeansAssignments, none, one, MeansModule, a_module}
use Rattle.law_asn1.specs.names.Held.{given_kind}
use Rattle.law_asn1.proofs.names.Passing.{begins_with_the}
use Rattle.law_asn1.specs.depth.Levels.{Item, Assigned, items_in, assigned}
use Rattle.law_asn1.proofs.depth.Lying.{◌then◌, plain_lies, upper_lies, name_assigned, name_ends, end_ends}
use Rattle.law_asn1.proofs.depth.Paths.{Shows}
use Rattle.law_asn1.proofs.depth.TypesStand.{IsFront, front_front, longer, whole_front, Stood}
use Rattle.law_asn1.proofs.depth.RowsStand.{InRange, body_grows, body_stands}

-- what stands in an assignment among all types of the module: those from the end of the one before to its own end
pub record Laid (whole : List Node) (first : ℕ) (a : Assignment) (g : Assigned) : Type 0 where
  pub name : g.name ≡ a.name
  pub starts : first ≤ a.end
  pub ends : a.end ≤ length whole
  pub shows : Shows whole (InRange first a.end) first a.end 0 g.items

-- the assignments that items have are these
unfoldable pub AreLaid : List Node → ℕ → List Assignment → List Assigned → Type 0
AreLaid whole first [] [] = Unit {0}
AreLaid whole first [] (g ∷ gs) = ⊥
AreLaid whole first (a ∷ assignments) [] = ⊥
AreLaid whole first (a ∷ assignments) (g ∷ gs) = Laid whole first a g × AreLaid whole a.end assignments gs

body_kind : {nodes all : List Node} {body : Body} {ts rest : List Placed} → MeansBody nodes ts body all rest → given_kind ts ≡ Some (kind_of_body body)
body_kind (a_type a m) = begins_with_the (tokens.Sign signs.Assignment) a
body_kind (ie_set a b c r) = begins_with_the (tokens.Word words.ProtocolIes) a
body_kind (procedure_set a b c r) = begins_with_the (tokens.Word words.ElementaryProcedure) a

-- no assignment begins behind another one but with its name, or END stands there; and no item stands there
assignments_follow : {nodes all : List Node} {assignments : List Assignment} {ts : List Placed} {end : ℕ} → MeansAssignments nodes ts assignments all end
    → (given_kind ts ≡ None) × ((stack : List ℕ) → items_in stack ts ≡ [])
assignments_follow (none e) = (begins_with_the (tokens.Word words.End) e, λ stack. (end_ends stack e).0)
assignments_follow (one {name} {body} n m k) = (begins_with_the (tokens.Upper name) n, λ stack. name_ends name stack (kind_of_body body) (body_kind m) n)

assignments_grow : {nodes all : List Node} {assignments : List Assignment} {ts : List Placed} {end : ℕ} → MeansAssignments nodes ts assignments all end → IsFront nodes all
assignments_grow (none {nodes} e) = whole_front nodes
assignments_grow (one n m k) = front_front (body_grows m) (assignments_grow k)

one_laid : (whole : List Node) (name : List ℕ) (body : Body) (assignments : List Assignment) {nodes inside : List Node} {ts a b : List Placed}
    → The (tokens.Upper name) ts a → given_kind a ≡ Some (kind_of_body body) → ((stack : List ℕ) → items_in stack b ≡ []) → IsFront nodes inside → IsFront inside whole
    → Stood whole (InRange (length nodes) (length inside)) (length nodes) (length inside) 0 [] (0 ∷ []) [] a b
    → AreLaid whole (length inside) assignments (assigned b)
    → AreLaid whole (length nodes) (record { name = name; place = start_of ts; body = body; end = length inside } ∷ assignments) (assigned ts)
unfolding AreLaid
one_laid whole name body assignments {nodes} {inside} {ts} {a} {b} n kind follows grew front stood later =
    subst (AreLaid whole (length nodes) (record { name = name; place = start_of ts; body = body; end = length inside } ∷ assignments)) (sym items)
    (record { name = refl; starts = longer grew; ends = longer front; shows = stood.shows }, later)
  where
    own : items_in (0 ∷ []) a ≡ stood.items
    own = stood.lies.shown ∙ ap (λ (l : List Item). stood.items ++ l) (follows (stood.top ∷ [])) ∙ append-nil stood.items

    items : assigned ts ≡ record { name = name; items = stood.items } ∷ assigned b
    items =
        name_assigned name (kind_of_body body) kind n
        ∙ ap (λ (l : List Item). record { name = name; items = l } ∷ assigned a) own
        ∙ ap (λ (gs : List Assigned). record { name = name; items = stood.items } ∷ gs) stood.lies.assigned

assignments_laid : (whole : List Node) {nodes all : List Node} {assignments : List Assignment} {ts : List Placed} {end : ℕ} → IsFront all whole → MeansAssignments nodes ts assignments all end
    → AreLaid whole (length nodes) assignments (assigned ts)
unfolding AreLaid
assignments_laid whole front (none {nodes} e) = subst (AreLaid whole (length nodes) []) (sym (end_ends (0 ∷ []) e).1) tt
assignments_laid whole front (one {name} {body} {assignments} n m k) =
    one_laid whole name body assignments n (body_kind m) (assignments_follow k).1 (body_grows m) (front_front (assignments_grow k) front)
    (body_stands whole (assignments_follow k).0 (front_front (assignments_grow k) front) m) (assignments_laid whole front k)

-- of a whole module
pub module_laid : {ts : List Placed} {m : Syntax} → MeansModule ts m → AreLaid m.nodes 0 m.assignments (assigned ts)
module_laid (a_module {name} {assignments} {nodes} n a b c d e k) =
    let front = (upper_lies name (0 ∷ []) (begins_with_the (tokens.Word words.Definitions) a) n then plain_lies (tokens.Word words.Definitions) refl (0 ∷ []) a then
    plain_lies (tokens.Word words.Automatic) refl (0 ∷ []) b then plain_lies (tokens.Word words.Tags) refl (0 ∷ []) c then
    plain_lies (tokens.Sign signs.Assignment) refl (0 ∷ []) d then plain_lies (tokens.Word words.Begin) refl (0 ∷ []) e) in
    subst (AreLaid nodes 0 assignments) (sym front.assigned) (assignments_laid nodes (whole_front nodes) k)
