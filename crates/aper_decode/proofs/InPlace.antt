-- Simple values read in place: steps by the types of one module.
use Rattle.std.proofs.Common.{◌≡◌, ℕ, suc, ◌+◌, ◌*◌, ◌<◌, ◌≤◌, List, [], ◌∷◌, ◌++◌, length, Option, Some, None, Result, Ok, Err, refl, sym, ap, subst, ◌∙◌, arith}
use Rattle.std.proofs.Math.Nat.{suc-mul, mul-le-mul_right}
use Rattle.asn1_syntax.specs.declared.types.definition.Component.{Component}
use Rattle.asn1_syntax.specs.declared.types.definition.Size.{Size}
use Rattle.asn1_syntax.specs.declared.types.definition.TypeId.{TypeId}
use Rattle.asn1_syntax.specs.declared.assignments.assignment.Syntax.{Syntax}
use Rattle.aper_defs.specs.declared.reason.Reason.{Reason}
use Rattle.aper_defs.specs.Trees.{Tree, sequence_of}
use Rattle.aper_defs.specs.Values as seen
use Rattle.aper_defs.specs.Fields.{Path}
use Rattle.aper_defs.specs.Fields as fields
use Rattle.aper_defs.specs.Questions.{Prog, ask_count, ask_members}
use Rattle.aper_defs.specs.Asking.{asks, ask_components}
use Rattle.aper_defs.specs.Reading.{Cursor, run}
use Rattle.aper_cursor.specs.declared.error.Unanswered.{Unanswered}
use Rattle.aper_cursor.specs.declared.error.Unanswered.TheVariants.{Wrong, Memory}
use Rattle.aper_cursor.specs.asking.Going.{GoesOn, fault_at}
use Rattle.aper_values.specs.types.Types.{parts_of}
use Rattle.aper_values.specs.declared.types.form.Form.{Form}
use Rattle.aper_values.specs.types.Forms.{form_tree}
use Rattle.aper_values.specs.declared.value.Value.{Value}
use Rattle.aper_frames.specs.simple.Reads.{Reads}
use Rattle.aper_frames.specs.declared.frame.Components.{Components}
use Rattle.aper_frames.specs.declared.frame.Members.{Members}
use Rattle.aper_frames.specs.declared.frame.Frame.{Frame}
use Rattle.aper_frames.specs.declared.frame.Frame.TheVariants as frames
use Rattle.aper_frames.specs.declared.frame.Turn.{Turn}
use Rattle.aper_frames.specs.declared.frame.Turn.TheVariants as turns
use Rattle.aper_frames.specs.Frames.{options_before, values_before, after_components, component_after, components_next, ask_member, members_left, path_of, next_of}
use Rattle.aper_frames.specs.Steps.{Steps, left}
use Rattle.aper_frames.specs.Weights.{list_weight, members_weight, Lighter}
use Rattle.aper_decode.specs.Heavy.{weighed}
use Rattle.aper_decode.specs.InModule.{StepsIn, LighterIn, IsOfModule, IsAround, among}
use Rattle.aper_decode.specs.Puts.{Puts}
use Rattle.aper_decode.specs.Lists.{IsListRefused, StartsList}
use Rattle.aper_decode.proofs.HeavyLemmas.{is_inside}
use Rattle.aper_decode.proofs.ListLemmas.{member_put}
use Rattle.aper_decode.proofs.SequenceSteps.{option_put}

-- ---- steps by any types are steps by these
pub steps_in : (r : Result Turn Unanswered) (of : ℕ → Tree) (P : (ℕ → Tree) → Prog) (first : Prog) (start old new : Cursor) (fs : List Frame)
    → run first start ≡ run (P of) old → Steps P old new fs r → StepsIn of first start new fs r
steps_in (Ok turn) of P first start old new fs e h = e ∙ h of
steps_in (Err (Wrong reason)) of P first start old new fs e h = e ∙ h of
steps_in (Err Memory) of P first start old new fs e h = tt

pub in_after : (r : Result Turn Unanswered) (of : ℕ → Tree) (first P : Prog) (start old new : Cursor) (fs : List Frame)
    → run first start ≡ run P old → StepsIn of P old new fs r → StepsIn of first start new fs r
in_after (Ok turn) of first P start old new fs e h = e ∙ h
in_after (Err (Wrong reason)) of first P start old new fs e h = e ∙ h
in_after (Err Memory) of first P start old new fs e h = tt

-- ---- a type that is left to be read is one of the module
pub type_inside : (m : Syntax) (weight : (ℕ → ℕ) → ℕ) (id : ℕ) → IsOfModule m weight → ((w : ℕ → ℕ) → w id ≤ weight w)
    → id < length m.nodes
type_inside m weight id h less = is_inside m id h.most (λ other. omega (arith, less (weighed m other), h.bounded other))

pub module_less : (m : Syntax) (more weight : (ℕ → ℕ) → ℕ) → IsOfModule m more → ((w : ℕ → ℕ) → weight w ≤ more w) → IsOfModule m weight
module_less m more weight h less = record { most = h.most; bounded = λ other. omega (arith, less (weighed m other), h.bounded other) }

-- ---- steps that leave less to be read leave less of the module's types
pub lighter_in : (m : Syntax) (weight : (ℕ → ℕ) → ℕ) (fs : List Frame) (r : Result Turn Unanswered) → Lighter weight fs r → LighterIn m weight fs r
lighter_in m weight fs (Ok turn) h = λ other. h (weighed m other)
lighter_in m weight fs (Err e) h = tt

pub lighter_than_in : (m : Syntax) (some more : (ℕ → ℕ) → ℕ) (fs : List Frame) (r : Result Turn Unanswered)
    → ((other : ℕ) → some (weighed m other) ≤ more (weighed m other)) → LighterIn m some fs r → LighterIn m more fs r
lighter_than_in m some more fs (Ok turn) less h = λ other. omega (arith, less other, h other)
lighter_than_in m some more fs (Err e) less h = tt

-- ---- a value of a tree that is another's
pub reads_as : (r : Result Value Unanswered) (t u : Tree) (old new : Cursor) → t ≡ u → Reads (λ p. asks p u) old new r → Reads (λ p. asks p t) old new r
reads_as r t u old new is reads = subst (λ (x : Tree). Reads (λ p. asks p x) old new r) (sym is) reads

-- ---- components
module _ (of : ℕ → Tree) (p : Path) (K : seen.Value → Prog) (c : Components) (part : Component) (mid new : Cursor) where
  -- one that is read
  pub component_read : (v : Value) (made : List (Option Value)) → Reads (λ p. asks p (of part.definition.number)) mid new (Ok v)
      → made ≡ c.made.items ++ Some v ∷ []
      → run (components_next of c p K (Some part)) mid
      ≡ run (ask_components p (parts_of of c.left.now) c.there (options_before made (after_components of c p K))) new
  component_read v made reads e =
      reads (fields.component part.name ∷ p) (component_after of c p K)
      ∙ ap (λ P. run P new) (option_put (λ J. ask_components p (parts_of of c.left.now) c.there J) c.made.items made v (after_components of c p K) e)

-- one that is to be read inside its frame
module _ (of : ℕ → Tree) (c : Components) (part : Component) (old more : List Frame) (around : IsAround part c old more) where
  pub component_begun : components_next of c (path_of old) (next_of of old) (Some part) ≡ left of (turns.Read part.definition) more
  component_begun =
      ap (λ (K : seen.Value → Prog). asks (fields.component part.name ∷ path_of old) (of part.definition.number) K) (sym (around.next of))
      ∙ ap (λ (q : Path). asks q (of part.definition.number) (next_of of more)) (sym around.path)

-- one that is refused there
pub component_wrong : (of : ℕ → Tree) (c : Components) (part : Component) (old more : List Frame)
    → path_of more ≡ fields.component part.name ∷ path_of old
    → (error : Unanswered) (form : Form) (keeps : Value → Option Value → Type 0) (before after : List (Option Value)) (first : Prog)
    (start mid new : Cursor)
    → run first start ≡ run (components_next of c (path_of old) (next_of of old) (Some part)) mid
    → of part.definition.number ≡ form_tree of form → Puts keeps (λ p. asks p (form_tree of form)) mid new before after (Err error)
    → StepsIn of first start new more (Err error)
component_wrong of c part old more path (Wrong reason) form keeps before after first start mid new e is put =
    e
    ∙ reads_as (Err (Wrong reason)) (of part.definition.number) (form_tree of form) mid new is put.0
    (fields.component part.name ∷ path_of old) (component_after of c (path_of old) (next_of of old))
    ∙ ap (λ (q : Path). Err (fault_at new reason q)) (sym path)
component_wrong of c part old more path Memory form keeps before after first start mid new e is put = tt

-- ---- lists
-- one whose count is refused
pub count_refused : (of : ℕ → Tree) (size : Option Size) (element : TypeId) (error : Unanswered) (old new : Cursor)
    → StartsList of size element old new (Err error) → IsListRefused (λ p. asks p (sequence_of size (of element.number))) old new None error
count_refused of size element (Wrong reason) old new h = h
count_refused of size element Memory old new h = tt

pub count_wrong : (of : ℕ → Tree) (size : Option Size) (element : TypeId) (error : Unanswered) (fs : List Frame) (old new : Cursor)
    → StartsList of size element old new (Err error)
    → StepsIn of (asks (path_of fs) (sequence_of size (of element.number)) (next_of of fs)) old new fs (Err error)
count_wrong of size element (Wrong reason) fs old new h = h (path_of fs) (next_of of fs)
count_wrong of size element Memory fs old new h = tt

-- ---- members
module _ (of : ℕ → Tree) (p : Path) (K : seen.Value → Prog) (element : TypeId) where
  -- what is asked after the count
  abbrev pub list_asked : ℕ → Prog
  list_asked n = ask_members (λ i. asks (fields.member i ∷ p) (of element.number)) 0 n (λ vs. K (seen.list vs))

  list_as : (size : Option Size) → asks p (sequence_of size (of element.number)) K ≡ ask_count p size list_asked
  unfolding asks
  list_as size = refl

  pub list_wrong : (size : Option Size) (reason : Reason) (old new : Cursor) → GoesOn (λ p. ask_count p size) old new (Err reason)
      → run (asks p (sequence_of size (of element.number)) K) old ≡ Err (fault_at new reason p)
  list_wrong size reason old new wrong = ap (λ P. run P old) (list_as size) ∙ wrong p list_asked

  pub list_begun : (size : Option Size) (m : Members) (old new : Cursor) → m.element ≡ element → m.made.items ≡ []
      → GoesOn (λ p. ask_count p size) old new (Ok m.left)
      → run (asks p (sequence_of size (of element.number)) K) old ≡ run (members_left of m p K) new
  list_begun size m old new same made asked =
      ap (λ P. run P old) (list_as size) ∙ asked p list_asked
      ∙ ap (λ (t : TypeId). run (ask_members (λ i. asks (fields.member i ∷ p) (of t.number)) 0 m.left (λ vs. K (seen.list vs))) new) (sym same)
      ∙ ap (λ (vs : List Value). run (ask_members (ask_member of m p) (length vs) m.left (values_before vs (λ vs. K (seen.list vs)))) new) (sym made)

-- so many members are no more than the most that there may be
pub list_less : (w : ℕ → ℕ) (element : TypeId) (n : ℕ) → n < 65536 → list_weight w n element ≤ list_weight w 65535 element
list_less w element n most = omega (arith, mul-le-mul_right {m = n} {n = 65535} (2 + w element.number) (omega (arith, most)))

module _ (of : ℕ → Tree) (m : Members) (k : ℕ) (count : m.left ≡ suc k) where
  abbrev member_rest : Path → (seen.Value → Prog) → seen.Value → Prog
  member_rest p K v = ask_members (ask_member of m p) (suc (length m.made.items)) k
      (λ vs. values_before m.made.items (λ vs. K (seen.list vs)) (seen.value v vs))

  member_next : (p : Path) (K : seen.Value → Prog)
      → members_left of m p K ≡ asks (fields.member (length m.made.items) ∷ p) (of m.element.number) (member_rest p K)
  member_next p K =
      ap (λ (n : ℕ). ask_members (ask_member of m p) (length m.made.items) n (values_before m.made.items (λ vs. K (seen.list vs)))) count

  -- one that is read
  pub member_read : (p : Path) (K : seen.Value → Prog) (v : Value) (made : List Value) (mid new : Cursor)
      → Reads (λ p. asks p (of m.element.number)) mid new (Ok v)
      → made ≡ m.made.items ++ v ∷ []
      → run (members_left of m p K) mid
      ≡ run (ask_members (ask_member of m p) (length made) k (values_before made (λ vs. K (seen.list vs)))) new
  member_read p K v made mid new reads e =
      ap (λ P. run P mid) (member_next p K) ∙ reads (fields.member (length m.made.items) ∷ p) (member_rest p K)
      ∙ ap (λ P. run P new) (member_put (ask_member of m p) k m.made.items made v (λ vs. K (seen.list vs)) e)

  -- one that is refused
  pub member_refused : (first r : Members) (form : Form) (keeps : Value → Value → Type 0) (error : Unanswered) (start mid new : Cursor)
      → ((p : Path) (K : seen.Value → Prog) → run (members_left of first p K) start ≡ run (members_left of m p K) mid)
      → of m.element.number ≡ form_tree of form
      → Puts keeps (λ p. asks p (form_tree of form)) mid new m.made.items r.made.items (Err error)
      → IsListRefused (members_left of first) start new (Some r) error
  member_refused first r form keeps (Wrong reason) start mid new same is put = λ p K.
      same p K ∙ ap (λ P. run P mid) (member_next p K)
      ∙ reads_as (Err (Wrong reason)) (of m.element.number) (form_tree of form) mid new is put.0
      (fields.member (length m.made.items) ∷ p) (member_rest p K)
      ∙ ap (λ (vs : List Value). Err (fault_at new reason (fields.member (length vs) ∷ p))) (sym put.1)
  member_refused first r form keeps Memory start mid new same is put = tt

-- one that is to be read inside its frame
pub member_begun : (of : ℕ → Tree) (m : Members) (k : ℕ) → m.left ≡ suc k → (fs : List Frame)
    → members_left of m (path_of fs) (next_of of fs) ≡ left of (turns.Read m.element) (among m fs)
member_begun of m k count fs =
    member_next of m k count (path_of fs) (next_of of fs)
    ∙ ap (λ (n : ℕ). left of (turns.Read m.element) (frames.Member (record m { left = n }) ∷ fs)) (omega (arith, count))

-- how much members weigh, and one less
pub members_step : (w : ℕ → ℕ) (m : Members) (k : ℕ) → m.left ≡ suc k
    → members_weight w m ≡ 2 + w m.element.number + list_weight w k m.element
members_step w m k count =
    omega (arith, ap (λ (n : ℕ). n * (2 + w m.element.number)) count, suc-mul k (2 + w m.element.number))

-- one that is refused, as a step
pub read_refused : (e : Unanswered) (of : ℕ → Tree) (t : Tree) (fs : List Frame) (old new : Cursor) → Reads (λ p. asks p t) old new (Err e)
    → StepsIn of (asks (path_of fs) t (next_of of fs)) old new fs (Err e)
read_refused (Wrong reason) of t fs old new reads = reads (path_of fs) (next_of of fs)
read_refused Memory of t fs old new reads = tt
