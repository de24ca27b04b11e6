-- What a value that is read asks after the value inside it, and on which way that value lies.
use Rattle.std.specs.Prelude.{◌≡◌, ℕ, suc, List, [], ◌∷◌, length, Option, Some, None, option_copied, nat_lt, if◌then◌else◌}
use Rattle.asn1_syntax.specs.declared.types.definition.Component.{Component}
use Rattle.asn1_syntax.specs.declared.types.definition.TypeId.{TypeId}
use Rattle.aper_defs.specs.Trees.{Tree}
use Rattle.aper_defs.specs.Values as seen
use Rattle.aper_defs.specs.Fields.{Path, closing, end}
use Rattle.aper_defs.specs.Fields as fields
use Rattle.aper_defs.specs.Questions.{Prog, done, ask, ask_open, ask_raw, ask_members, ask_ies}
use Rattle.aper_defs.specs.Asking.{asks, ask_components, ask_marks, ask_additions, ask_row}
use Rattle.aper_cursor.specs.Questions.{slots_of}
use Rattle.aper_values.specs.types.Types.{parts_of, rows_of}
use Rattle.aper_values.specs.declared.value.Value.{Value}
use Rattle.aper_values.specs.declared.value.Element.{Element}
use Rattle.aper_values.specs.Views.{view, options_view}
use Rattle.aper_frames.specs.declared.frame.Components.{Components}
use Rattle.aper_frames.specs.declared.frame.Additions.{Additions}
use Rattle.aper_frames.specs.declared.frame.Members.{Members}
use Rattle.aper_frames.specs.declared.frame.Elements.{Elements}
use Rattle.aper_frames.specs.declared.frame.Frame.{Frame}
use Rattle.aper_frames.specs.declared.frame.Frame.TheVariants as frames
use Rattle.aper_frames.specs.declared.parts.Addition.{Addition}
use Rattle.aper_frames.specs.declared.parts.Addition.TheVariants as additions

-- what is asked after all values, with these before those that come
abbrev pub options_before : List (Option Value) → (seen.Options → Prog) → seen.Options → Prog
options_before [] K = K
options_before (None ∷ made) K = options_before made (λ vs. K (seen.absent vs))
options_before (Some v ∷ made) K = options_before made (λ vs. K (seen.present (view v) vs))

abbrev pub values_before : List Value → (seen.Values → Prog) → seen.Values → Prog
values_before [] K = K
values_before (v ∷ made) K = values_before made (λ vs. K (seen.value (view v) vs))

abbrev pub ies_before : List (Element Value) → (seen.Ies → Prog) → seen.Ies → Prog
ies_before [] K = K
ies_before (e ∷ made) K = ies_before made (λ ies. K (seen.ie e.id e.criticality (view e.body) ies))

-- ---- components of a SEQUENCE: what is asked after all of them, from those that are left on, and after the value of one
abbrev pub after_components : (ℕ → Tree) → Components → Path → (seen.Value → Prog) → seen.Options → Prog
after_components of c p K vs =
    ask_marks p c.extended (λ added. ask_additions p (parts_of of c.additions.now) added (λ more. K (seen.components vs more)))

abbrev pub components_left : (ℕ → Tree) → Components → Path → (seen.Value → Prog) → Prog
components_left of c p K = ask_components p (parts_of of c.left.now) c.there (options_before c.made.items (after_components of c p K))

abbrev pub component_after : (ℕ → Tree) → Components → Path → (seen.Value → Prog) → seen.Value → Prog
component_after of c p K v = ask_components p (parts_of of c.left.now) c.there
    (λ vs. options_before c.made.items (after_components of c p K) (seen.present v vs))

abbrev pub components_next : (ℕ → Tree) → Components → Path → (seen.Value → Prog) → Option Component → Prog
components_next of c p K None = options_before c.made.items (after_components of c p K) seen.no_options
components_next of c p K (Some part) =
    asks (fields.component part.name ∷ p) (of part.definition.number) (component_after of c p K)

-- ---- its additions
abbrev pub after_additions : Additions → (seen.Value → Prog) → seen.Options → Prog
after_additions a K more = K (seen.components (options_view a.root.items) more)

abbrev pub additions_left : (ℕ → Tree) → Additions → Path → (seen.Value → Prog) → Prog
additions_left of a p K = ask_additions p (parts_of of a.left.now) a.there (options_before a.made.items (after_additions a K))

abbrev pub addition_after : (ℕ → Tree) → Additions → Path → (seen.Value → Prog) → seen.Value → Prog
addition_after of a p K v = ask_additions p (parts_of of a.left.now) a.there
    (λ more. options_before a.made.items (after_additions a K) (seen.present v more))

abbrev pub additions_next : (ℕ → Tree) → Additions → Path → (seen.Value → Prog) → Addition → Prog
additions_next of a p K additions.End = options_before a.made.items (after_additions a K) seen.no_options
additions_next of a p K additions.Unnamed = ask_raw p p (addition_after of a p K)
additions_next of a p K (additions.Named part) = ask_open p (fields.component part.now.name ∷ p)
    (asks (fields.component part.now.name ∷ p) (of part.now.definition.number)) (addition_after of a p K)

-- the next named one of these additions, where there is one
abbrev pub IsNamed : List Component → List Component → Addition → Type 0
IsNamed old new (additions.Named part) = old ≡ part.now ∷ new
IsNamed old new additions.Unnamed = (old ≡ []) × (new ≡ [])
IsNamed old new additions.End = ⊥

-- ---- members of a SEQUENCE OF
abbrev pub ask_member : (ℕ → Tree) → Members → Path → ℕ → (seen.Value → Prog) → Prog
ask_member of m p i = asks (fields.member i ∷ p) (of m.element.number)

abbrev pub members_left : (ℕ → Tree) → Members → Path → (seen.Value → Prog) → Prog
members_left of m p K =
    ask_members (ask_member of m p) (length m.made.items) m.left (values_before m.made.items (λ vs. K (seen.list vs)))

abbrev pub member_after : (ℕ → Tree) → Members → Path → (seen.Value → Prog) → seen.Value → Prog
member_after of m p K v = ask_members (ask_member of m p) (suc (length m.made.items)) m.left
    (λ vs. values_before m.made.items (λ vs. K (seen.list vs)) (seen.value v vs))

-- ---- information elements of a container
abbrev pub elements_by : (ℕ → Tree) → Elements → Path → (seen.Ies → Prog) → Prog
elements_by of e p K = ask_ies p (slots_of e.rows.now) (λ id. ask_row p (rows_of of e.rows.now) id) e.left (slots_of e.possible.now) K

abbrev pub elements_left : (ℕ → Tree) → Elements → Path → (seen.Value → Prog) → Prog
elements_left of e p K = elements_by of e p (ies_before e.made.items (λ ies. K (seen.elements ies)))

abbrev pub element_after : (ℕ → Tree) → Elements → (id criticality : ℕ) → Path → (seen.Value → Prog) → seen.Value → Prog
element_after of e id criticality p K v =
    elements_by of e p (λ ies. ies_before e.made.items (λ ies. K (seen.elements ies)) (seen.ie id criticality v ies))

-- ---- frames
abbrev pub named_inside : Option (List ℕ) → Path → Path
named_inside None p = p
named_inside (Some name) p = fields.component name ∷ p

abbrev pub body_inside : ℕ → Path → Path
body_inside outcome p = if nat_lt outcome 3 then fields.outcome outcome ∷ p else p

-- the way to the value inside, from the way to the one around it
abbrev pub inside_of : Frame → Path → Path
inside_of (frames.Component f) p = fields.component f.name.now ∷ p
inside_of (frames.Addition f) p = named_inside (option_copied f.name) p
inside_of (frames.Alternative f) p = named_inside (option_copied f.name) p
inside_of (frames.Member m) p = fields.member (length m.made.items) ∷ p
inside_of (frames.Element f) p = fields.element f.head.id ∷ p
inside_of (frames.Body f) p = body_inside f.outcome p
inside_of frames.Open p = p

-- what is asked after the value inside
abbrev pub after : (ℕ → Tree) → Frame → Path → (seen.Value → Prog) → seen.Value → Prog
after of (frames.Component f) p K v = component_after of f.others p K v
after of (frames.Addition f) p K v = addition_after of f.others p K v
after of (frames.Alternative f) p K v = K (seen.chosen f.index v)
after of (frames.Member m) p K v = member_after of m p K v
after of (frames.Element f) p K v = element_after of f.others f.head.id f.head.criticality p K v
after of (frames.Body f) p K v = K (seen.message f.outcome f.code f.criticality v)
after of frames.Open p K v = ask p closing (λ m. ask p end (λ z. K v))

-- the way to the value that is read, and what is asked after it; the innermost frame comes first
abbrev pub path_of : List Frame → Path
path_of [] = []
path_of (f ∷ fs) = inside_of f (path_of fs)

abbrev pub next_of : (ℕ → Tree) → List Frame → seen.Value → Prog
next_of of [] v = ask [] closing (λ m. done v)
next_of of (f ∷ fs) v = after of f (path_of fs) (next_of of fs) v

-- an open type inside a value, around a value of a type, or of contents that aren't known
abbrev pub asked_inside : (ℕ → Tree) → Frame → TypeId → List Frame → Prog
asked_inside of f id fs = ask_open (path_of fs) (inside_of f (path_of fs)) (asks (inside_of f (path_of fs)) (of id.number)) (after of f (path_of fs) (next_of of fs))

abbrev pub asked_unknown : (ℕ → Tree) → Frame → List Frame → Prog
asked_unknown of f fs = ask_raw (path_of fs) (inside_of f (path_of fs)) (after of f (path_of fs) (next_of of fs))

abbrev pub asked_contents : (ℕ → Tree) → Frame → Option TypeId → List Frame → Prog
asked_contents of f None fs = asked_unknown of f fs
asked_contents of f (Some id) fs = asked_inside of f id fs
