-- What sets of rows mean that were read.
use Rattle.std.proofs.Common.{ℕ, List, ◌++◌, ◌∷◌, [], Bool, true, false, subst, sym}
use Rattle.std.proofs.lemmas.List.{append_assoc}
use Rattle.std.specs.Prelude.{Result}
use Rattle.gnb_types.proofs.Choices.{by_choice}
use Rattle.asn1_tokens.specs.declared.token.Sign.TheVariants as signs
use Rattle.asn1_tokens.specs.declared.token.Token.TheVariants as tokens
use Rattle.asn1_syntax.specs.declared.types.fault.Fault.{Fault}
use Rattle.asn1_syntax.specs.declared.types.definition.Node.{Node}
use Rattle.asn1_syntax.specs.types.Reading.{Left, begins_with_sign}
use Rattle.asn1_syntax.specs.types.inside.Reading.{repeat_at}
use Rattle.asn1_syntax.specs.declared.assignments.assignment.IeRow.{IeRow}
use Rattle.asn1_syntax.specs.declared.assignments.assignment.ProcedureRow.{ProcedureRow}
use Rattle.asn1_syntax.specs.assignments.inside.Sets.{set_goes_on_at, Rows as SoFar, rows_with, ie_turn_at, procedure_turn_at, set_start_at, ie_set_at, procedure_set_at}
use Rattle.proof_asn1.proofs.asn1_proof_syntax.Gives.{Gives, ok, and_gives, gives_so}
use Rattle.asn1_defs.specs.ItemMeanings.{The}
use Rattle.asn1_defs.specs.RowMeanings.{AnIe, AProcedure, Rows, last, more}
use Rattle.proof_asn1.proofs.values.Taken.{the_sign_gives}
use Rattle.proof_asn1.proofs.values.NameTaken.{Turned, repeat_means}
use Rattle.proof_asn1.proofs.values.RowTaken.{ie_row_gives, procedure_row_gives}

-- what a row means, from some types to more
abbrev MeansRow : Type 0 → Type 1
MeansRow R = List Node → Left → R → List Node → Left → Type 0

-- a bar, or `, ...}` at the end
data SetGoesOn (ts : Left) : Bool × Left → Type 0 where
  bar : {rest : Left} → The (tokens.Sign signs.Bar) ts rest → SetGoesOn ts (true, rest)
  closed : {a b rest : Left} → The (tokens.Sign signs.Comma) ts a → The (tokens.Sign signs.Ellipsis) a b → The (tokens.Sign signs.RightBrace) b rest → SetGoesOn ts (false, rest)

set_goes_on_gives : (ts : Left) → Gives (SetGoesOn ts) (set_goes_on_at ts)
unfolding set_goes_on_at
set_goes_on_gives ts = by_choice (Gives (SetGoesOn ts)) (begins_with_sign signs.Bar ts) _ _
    (λ _. and_gives (the_sign_gives signs.Bar ts) (λ a t. ok (bar t)))
    (λ _. and_gives (the_sign_gives signs.Comma ts) (λ a t1.
    and_gives (the_sign_gives signs.Ellipsis a) (λ b t2.
    and_gives (the_sign_gives signs.RightBrace b) (λ c t3. ok (closed t1 t2 t3)))))

-- all rows of a set, where these are read before
data AreRows {R : Type 0} (Row : MeansRow R) (so_far : SoFar R) (ts : Left) : SoFar R → Left → Type 0 where
  are_rows : {rows : List R} {nodes : List Node} {rest : Left} → Rows Row so_far.nodes ts rows nodes rest → AreRows Row so_far ts (rows_with (so_far.rows ++ rows) nodes) rest

row_more : {R : Type 0} (Row : MeansRow R) (so_far : SoFar R) (ts : Left) (new : R) (inside : List Node) (us vs : Left) → Row so_far.nodes ts new inside us → The (tokens.Sign signs.Bar) us vs
    → (every : SoFar R) (rest : Left) → AreRows Row (rows_with (so_far.rows ++ new ∷ []) inside) vs every rest → AreRows Row so_far ts every rest
row_more Row so_far ts new inside us vs m t _ rest (are_rows {rows} {nodes} later) =
    subst (λ r. AreRows Row so_far ts (rows_with r nodes) rest) (sym (append_assoc so_far.rows (new ∷ []) rows)) (are_rows (more m t later))

row_turned : {R : Type 0} (Row : MeansRow R) (so_far : SoFar R) (ts : Left) (new : R) (inside : List Node) (us : Left) → Row so_far.nodes ts new inside us → (a : Bool × Left) → SetGoesOn us a → Turned (AreRows Row) so_far ts (a.0, rows_with (so_far.rows ++ new ∷ []) inside, a.1)
row_turned Row so_far ts new inside us m (true, vs) (bar t) = record { goes = λ _ every rest later. row_more Row so_far ts new inside us vs m t every rest later; ended = λ h. cc }
row_turned Row so_far ts new inside us m (false, vs) (closed t1 t2 t3) = record { goes = λ h. cc; ended = λ _. are_rows (last m t1 t2 t3) }

ie_turn_gives : (turns : ℕ) (so_far : SoFar IeRow) (ts : Left) → Gives (Turned (AreRows AnIe) so_far ts) (ie_turn_at turns so_far ts)
unfolding ie_turn_at
ie_turn_gives turns so_far ts = and_gives (ie_row_gives turns so_far.rows so_far.nodes ts) (λ new m.
    and_gives (set_goes_on_gives new.2) (λ a t. ok (row_turned AnIe so_far ts new.0 new.1 new.2 m a t)))

procedure_turn_gives : (turns : ℕ) (so_far : SoFar ProcedureRow) (ts : Left) → Gives (Turned (AreRows AProcedure) so_far ts) (procedure_turn_at turns so_far ts)
unfolding procedure_turn_at
procedure_turn_gives turns so_far ts = and_gives (procedure_row_gives turns so_far.rows so_far.nodes ts) (λ new m.
    and_gives (set_goes_on_gives new.2) (λ a t. ok (row_turned AProcedure so_far ts new.0 new.1 new.2 m a t)))

-- ---- behind the word of a set

data SetStart (ts rest : Left) : Type 0 where
  set_start : {a : Left} → The (tokens.Sign signs.Assignment) ts a → The (tokens.Sign signs.LeftBrace) a rest → SetStart ts rest

set_start_gives : (ts : Left) → Gives (SetStart ts) (set_start_at ts)
unfolding set_start_at
set_start_gives ts = and_gives (the_sign_gives signs.Assignment ts) (λ a t1. gives_so (the_sign_gives signs.LeftBrace a) (λ b t2. set_start t1 t2))

pub data ASet {R : Type 0} (Row : MeansRow R) (nodes : List Node) (ts : Left) (found : SoFar R × Left) : Type 0 where
  a_set : {a b : Left} → The (tokens.Sign signs.Assignment) ts a → The (tokens.Sign signs.LeftBrace) a b → Rows Row nodes b found.0.rows found.0.nodes found.1 → ASet Row nodes ts found

set_gives : {R : Type 0} (Row : MeansRow R) (nodes : List Node) (ts us : Left) → SetStart ts us → (r : Result (SoFar R × Left) Fault) → Gives (λ (a : SoFar R × Left). AreRows Row (rows_with [] nodes) us a.0 a.1) r → Gives (ASet Row nodes ts) r
set_gives {R} Row nodes ts us (set_start t1 t2) r g = gives_so g (λ a m. go a m)
  where
    go : (a : SoFar R × Left) → AreRows Row (rows_with [] nodes) us a.0 a.1 → ASet Row nodes ts a
    go (_, rest) (are_rows m) = a_set t1 t2 m

pub ie_set_gives : (turns : ℕ) (nodes : List Node) (ts : Left) → Gives (ASet AnIe nodes ts) (ie_set_at turns nodes ts)
unfolding ie_set_at
ie_set_gives turns nodes ts = and_gives (set_start_gives ts) (λ a t.
    set_gives AnIe nodes ts a t (repeat_at (ie_turn_at turns) turns (rows_with [] nodes) a) (repeat_means (ie_turn_at turns) (AreRows AnIe) (ie_turn_gives turns) turns (rows_with [] nodes) a))

pub procedure_set_gives : (turns : ℕ) (nodes : List Node) (ts : Left) → Gives (ASet AProcedure nodes ts) (procedure_set_at turns nodes ts)
unfolding procedure_set_at
procedure_set_gives turns nodes ts = and_gives (set_start_gives ts) (λ a t.
    set_gives AProcedure nodes ts a t (repeat_at (procedure_turn_at turns) turns (rows_with [] nodes) a) (repeat_means (procedure_turn_at turns) (AreRows AProcedure) (procedure_turn_gives turns) turns (rows_with [] nodes) a))
