-- The rows of information object sets, and the sets.
use Rattle.std.proofs.Common.{◌≡◌, ℕ, List, [], ◌∷◌, ◌++◌, map, Bool, true, false, cond, refl, sym, ap, ◌∙◌, subst, Option, Some, None}
use Rattle.std.specs.Prelude.{Result, Ok, Err, ℤ, pos}
use Rattle.gnb_types.proofs.Choices.{by_choice}
use Rattle.asn1_tokens.specs.declared.token.Word.{Word}
use Rattle.asn1_tokens.specs.declared.token.Word.TheVariants as words
use Rattle.asn1_tokens.specs.declared.token.Sign.{Sign}
use Rattle.asn1_tokens.specs.declared.token.Sign.TheVariants as signs
use Rattle.asn1_tokens.specs.declared.token.Token.{Token}
use Rattle.asn1_tokens.specs.declared.token.Token.TheVariants as tokens
use Rattle.asn1_tokens.specs.Words.{is_word}
use Rattle.asn1_syntax.specs.declared.types.fault.Fault.{Fault}
use Rattle.asn1_syntax.specs.declared.types.definition.TypeId.{TypeId}
use Rattle.asn1_syntax.specs.declared.types.definition.Node.{Node}
use Rattle.asn1_syntax.specs.types.Reading.{Left, begins_with, begins_with_sign}
use Rattle.asn1_syntax.specs.types.inside.Reading.{◌>>=◌, sign_at, lower_at}
use Rattle.asn1_syntax.specs.types.Sizes.{natural}
use Rattle.asn1_syntax.specs.types.inside.Sizes.{natural_at}
use Rattle.asn1_syntax.specs.declared.assignments.assignment.Criticality.{Criticality}
use Rattle.asn1_syntax.specs.declared.assignments.assignment.Presence.{Presence}
use Rattle.asn1_syntax.specs.declared.assignments.assignment.IeRow.{IeRow}
use Rattle.asn1_syntax.specs.declared.assignments.assignment.ProcedureRow.{ProcedureRow}
use Rattle.asn1_syntax.specs.assignments.Rows.{criticality_of, presence_of}
use Rattle.asn1_syntax.specs.assignments.inside.Rows.{new_number_at, found_or, criticality_at, presence_at, has_id, ie_row_at, outcome_at, has_code, messages_at, procedure_row_at}
use Rattle.asn1_syntax.specs.assignments.inside.Sets.{set_goes_on_at, Rows, rows_with, ie_turn_at, procedure_turn_at, set_start_at, ie_set_at, procedure_set_at}
use Rattle.asn1_defs.specs.Bounds.{from_to, range_behind}
use Rattle.asn1_defs.specs.Repetitions.{begins_entry, numbers_behind, ids, codes_given, is_among, is_given, begins_assignment, assigned, types_assigned}
use Rattle.asn1_defs.specs.ItemFaults.{sign_passes, passes_bound, is_repeated}
use Rattle.proof_asn1.specs.items.JudgedItems.{twice}
use Rattle.proof_asn1.proofs.items.Views.{Same, not_one_size, not_wide, map_snoc, any_map}
use Rattle.proof_asn1.proofs.items.Runs.{Run, and_then, done, wrong, refused, took, word_then, sign_then, lower_first, natural_first, no_first, Turned, repeat_run}
use Rattle.proof_asn1.proofs.items.TypeRuns.{type_run}

pub bind_assoc : {A B C : Type 0} (r : Result A Fault) (f : A → Result B Fault) (g : B → Result C Fault) → (r >>= λ a. f a >>= g) ≡ ((r >>= f) >>= g)
bind_assoc (Ok a) f g = refl
bind_assoc (Err e) f g = refl

bind_ok : {A : Type 0} (r : Result A Fault) → (r >>= λ a. Ok a) ≡ r
bind_ok (Ok a) = refl
bind_ok (Err e) = refl

-- ---- single items

-- an id or a code, or a fault where it was given before
new_number_then : {A : Type 0} {rest : A → Left} {Post : A → List Token → Type 0} {before : List Token} {g : ℕ × Left → Result A Fault} (taken : ℕ → Bool) (high : ℕ) (ts : Left) → range_behind before ≡ from_to (pos 0) (pos high) → ((n : ℕ) → is_given n before ≡ taken n) → ((a : ℕ × Left) (value : ℤ) → a.0 ≡ natural value → Run (tokens.Number value ∷ before) a.1 rest Post (g a)) → Run before ts rest Post (new_number_at taken high ts >>= g)
unfolding new_number_at is_repeated
new_number_then {rest} {Post} {before} {g} taken high ts range given on = subst (Run before ts rest Post) (bind_assoc (natural_at 0 high ts) _ g) (natural_first 0 high ts range (λ a value is stands within.
    by_choice (λ (r : Result (ℕ × Left) Fault). Run before ts rest Post (r >>= g)) (taken a.0) _ _
    (λ h. wrong stands refl (twice within (given (natural value) ∙ ap taken (sym is) ∙ h)))
    (λ h. took stands refl within (given (natural value) ∙ ap taken (sym is) ∙ h) (on a value is))))

-- one of some names
kind_then : {X A : Type 0} {rest : A → Left} {Post : A → List Token → Type 0} {before : List Token} {g : X × Left → Result A Fault} (of : List ℕ → Option X) (ts : Left) → begins_entry before ≡ false → ((name : List ℕ) (a : X × Left) → Run (tokens.Lower name ∷ before) a.1 rest Post (g a)) → Run before ts rest Post ((lower_at ts >>= λ name. found_or (of name.0) ts name.1) >>= g)
unfolding passes_bound is_repeated
kind_then {X} {rest} {Post} {before} {g} of ts no_entry on = subst (Run before ts rest Post) (bind_assoc (lower_at ts) _ g) (lower_first ts (λ name stands. go name.1 (of name.0) (λ x. took stands refl (no_first _ _ no_entry) (no_first _ _ no_entry) (on name.0 (x, name.1)))))
  where
    go : (us : Left) (found : Option X) → ((x : X) → Run before ts rest Post (g (x, us))) → Run before ts rest Post (found_or found ts us >>= g)
    go us (Some x) run = run x
    go us None run = refused ts

criticality_then : {A : Type 0} {rest : A → Left} {Post : A → List Token → Type 0} {before : List Token} {g : Criticality × Left → Result A Fault} (ts : Left) → begins_entry before ≡ false → ((name : List ℕ) (a : Criticality × Left) → Run (tokens.Lower name ∷ before) a.1 rest Post (g a)) → Run before ts rest Post (criticality_at ts >>= g)
unfolding criticality_at
criticality_then ts no_entry on = kind_then criticality_of ts no_entry on

presence_then : {A : Type 0} {rest : A → Left} {Post : A → List Token → Type 0} {before : List Token} {g : Presence × Left → Result A Fault} (ts : Left) → begins_entry before ≡ false → ((name : List ℕ) (a : Presence × Left) → Run (tokens.Lower name ∷ before) a.1 rest Post (g a)) → Run before ts rest Post (presence_at ts >>= g)
unfolding presence_at
presence_then ts no_entry on = kind_then presence_of ts no_entry on

sign_run : (s : Sign) (before : List Token) (ts : Left) → sign_passes s before ≡ false → Run before ts (λ us. us) (λ us after. after ≡ tokens.Sign s ∷ before) (sign_at s ts)
sign_run s before ts within = subst (Run before ts (λ us. us) (λ us after. after ≡ tokens.Sign s ∷ before)) (bind_ok (sign_at s ts)) (sign_then s ts within (λ us. done us refl))

-- ---- in a set

-- These numbers were given in this set; what was assigned before it is as it was.
record Listing (view : List Token → List ℕ) (outer : List Token) (numbers : List ℕ) (before : List Token) : Type 0 where
  given : view before ≡ numbers
  names : assigned before ≡ assigned outer
  types : types_assigned before ≡ types_assigned outer

-- a set is whole
pub record Shut (outer after : List Token) : Type 0 where
  pub ends : begins_assignment after ≡ true
  pub names : assigned after ≡ assigned outer
  pub types : types_assigned after ≡ types_assigned outer

abbrev id_of : IeRow → ℕ
id_of row = row.id

abbrev code_of : ProcedureRow → ℕ
code_of row = row.code

-- behind a row
record Rowed (view : List Token → List ℕ) (outer : List Token) (numbers : List ℕ) (after : List Token) : Type 0 where
  ends : begins_assignment after ≡ true
  listing : Listing view outer numbers after

-- ---- rows

ie_row_end : (rows : List IeRow) (row : IeRow) (outer before after : List Token) (value : ℤ) (criticality presence : List ℕ) → row.id ≡ natural value → Listing ids outer (map id_of rows) before → Same (tokens.Word words.Type ∷ tokens.Lower criticality ∷ tokens.Word words.Criticality ∷ tokens.Number value ∷ tokens.Word words.Id ∷ tokens.Sign signs.LeftBrace ∷ before) after → Rowed ids outer (map id_of (rows ++ row ∷ [])) (tokens.Sign signs.RightBrace ∷ tokens.Lower presence ∷ tokens.Word words.Presence ∷ after)
unfolding numbers_behind assigned types_assigned
ie_row_end rows row outer before after value criticality presence is so_far same = record {
  ends = refl;
  listing = record {
    given = same.ids ∙ ap (λ (l : List ℕ). l ++ natural value ∷ []) so_far.given ∙ ap (λ (n : ℕ). map id_of rows ++ n ∷ []) (sym is) ∙ sym (map_snoc id_of rows row);
    names = same.names ∙ so_far.names;
    types = same.types ∙ so_far.types;
  };
}

ie_row_run : (turns : ℕ) (rows : List IeRow) (nodes : List Node) (outer before : List Token) (ts : Left) → Listing ids outer (map id_of rows) before → Run before ts (λ a. a.2) (λ a after. Rowed ids outer (map id_of (rows ++ a.0 ∷ [])) after) (ie_row_at turns rows nodes ts)
unfolding ie_row_at range_behind numbers_behind
ie_row_run turns rows nodes outer before ts so_far = sign_then signs.LeftBrace ts refl (λ a.
    word_then words.Id a (λ b.
    new_number_then (λ id. has_id id rows) 65535 b refl (λ n. ap (is_among n) so_far.given ∙ any_map _ id_of rows) (λ id value is.
    word_then words.Criticality id.1 (λ c.
    criticality_then c refl (λ critical criticality.
    word_then words.Type criticality.1 (λ d.
    and_then (type_run turns nodes _ d refl) (λ definition after same.
    word_then words.Presence definition.2 (λ e.
    presence_then e refl (λ present presence.
    sign_then signs.RightBrace presence.1 refl (λ f. done (_, definition.1, f) (ie_row_end rows _ outer before after value critical present is so_far same)))))))))))

-- what a type inside a procedure's row leaves
codes_after : (outer before after : List Token) (numbers : List ℕ) → Listing codes_given outer numbers before → Same before after → Listing codes_given outer numbers after
codes_after outer before after numbers so_far same = record { given = same.codes ∙ so_far.given; names = same.names ∙ so_far.names; types = same.types ∙ so_far.types }

-- what two words that begin no set leave
behind_words : (outer before : List Token) (numbers : List ℕ) (w other : Word) → is_word w words.ElementaryProcedure ≡ false → is_word other words.ElementaryProcedure ≡ false → Listing codes_given outer numbers before → Listing codes_given outer numbers (tokens.Word w ∷ tokens.Word other ∷ before)
unfolding numbers_behind assigned types_assigned
behind_words outer before numbers w other one two so_far = record { given = ap (λ (b : Bool). cond b [] (codes_given (tokens.Word other ∷ before))) one ∙ ap (λ (b : Bool). cond b [] (codes_given before)) two ∙ so_far.given; names = so_far.names; types = so_far.types }

behind_brace : (outer before : List Token) (numbers : List ℕ) → Listing codes_given outer numbers before → Listing codes_given outer numbers (tokens.Sign signs.LeftBrace ∷ before)
unfolding numbers_behind assigned types_assigned
behind_brace outer before numbers so_far = record { given = so_far.given; names = so_far.names; types = so_far.types }

outcome_run : (turns : ℕ) (w : Word) (nodes : List Node) (outer before : List Token) (numbers : List ℕ) (ts : Left) → is_word w words.ElementaryProcedure ≡ false → Listing codes_given outer numbers before → Run before ts (λ a. a.2) (λ a after. Listing codes_given outer numbers after) (outcome_at turns w nodes ts)
unfolding outcome_at
outcome_run turns w nodes outer before numbers ts other so_far = by_choice (Run before ts (λ (a : Option TypeId × List Node × Left). a.2) (λ a after. Listing codes_given outer numbers after)) (begins_with w ts) _ _
    (λ _. word_then w ts (λ a.
    word_then words.Outcome a (λ b.
    and_then (type_run turns nodes _ b refl) (λ definition after same. done (Some definition.0, definition.1, definition.2) (codes_after outer _ after numbers (behind_words outer before numbers words.Outcome w refl other so_far) same)))))
    (λ _. done (None, nodes, ts) so_far)

messages_run : (turns : ℕ) (nodes : List Node) (outer before : List Token) (numbers : List ℕ) (ts : Left) → Listing codes_given outer numbers before → Run before ts (λ a. a.4) (λ a after. Listing codes_given outer numbers after) (messages_at turns nodes ts)
unfolding messages_at
messages_run turns nodes outer before numbers ts so_far = word_then words.Initiating ts (λ a.
    word_then words.Message a (λ b.
    and_then (type_run turns nodes _ b refl) (λ initiating after same.
    and_then (outcome_run turns words.Successful initiating.1 outer after numbers initiating.2 refl (codes_after outer _ after numbers (behind_words outer before numbers words.Message words.Initiating refl refl so_far) same)) (λ good then listing.
    and_then (outcome_run turns words.Unsuccessful good.1 outer then numbers good.2 refl listing) (λ bad last listed. done (initiating.0, good.0, bad.0, bad.1, bad.2) listed)))))

procedure_row_end : (rows : List ProcedureRow) (row : ProcedureRow) (outer before : List Token) (value : ℤ) (criticality : List ℕ) → row.code ≡ natural value → Listing codes_given outer (map code_of rows) before → Rowed codes_given outer (map code_of (rows ++ row ∷ [])) (tokens.Sign signs.RightBrace ∷ tokens.Lower criticality ∷ tokens.Word words.Criticality ∷ tokens.Number value ∷ tokens.Word words.Code ∷ tokens.Word words.Procedure ∷ before)
unfolding numbers_behind assigned types_assigned
procedure_row_end rows row outer before value criticality is so_far = record {
  ends = refl;
  listing = record {
    given = ap (λ (l : List ℕ). l ++ natural value ∷ []) so_far.given ∙ ap (λ (n : ℕ). map code_of rows ++ n ∷ []) (sym is) ∙ sym (map_snoc code_of rows row);
    names = so_far.names;
    types = so_far.types;
  };
}

procedure_row_run : (turns : ℕ) (rows : List ProcedureRow) (nodes : List Node) (outer before : List Token) (ts : Left) → Listing codes_given outer (map code_of rows) before → Run before ts (λ a. a.2) (λ a after. Rowed codes_given outer (map code_of (rows ++ a.0 ∷ [])) after) (procedure_row_at turns rows nodes ts)
unfolding procedure_row_at range_behind numbers_behind
procedure_row_run turns rows nodes outer before ts so_far = sign_then signs.LeftBrace ts refl (λ a.
    and_then (messages_run turns nodes outer _ (map code_of rows) a (behind_brace outer before _ so_far)) (λ messages after listing.
    word_then words.Procedure messages.4 (λ b.
    word_then words.Code b (λ c.
    new_number_then (λ code. has_code code rows) 255 c refl (λ n. ap (is_among n) listing.given ∙ any_map _ code_of rows) (λ code value is.
    word_then words.Criticality code.1 (λ d.
    criticality_then d refl (λ critical criticality.
    sign_then signs.RightBrace criticality.1 refl (λ e. done (_, messages.3, e) (procedure_row_end rows _ outer after value critical is listing)))))))))

-- ---- sets

-- what follows a row: a bar, or the end
data GoesOn (before : List Token) : Bool → List Token → Type 0 where
  another : GoesOn before true (tokens.Sign signs.Bar ∷ before)
  whole : GoesOn before false (tokens.Sign signs.RightBrace ∷ tokens.Sign signs.Ellipsis ∷ tokens.Sign signs.Comma ∷ before)

set_goes_on_run : (before : List Token) (ts : Left) → begins_assignment before ≡ true → Run before ts (λ a. a.1) (λ a after. GoesOn before a.0 after) (set_goes_on_at ts)
unfolding set_goes_on_at
set_goes_on_run before ts ends = by_choice (Run before ts (λ (a : Bool × Left). a.1) (λ a after. GoesOn before a.0 after)) (begins_with_sign signs.Bar ts) _ _
    (λ _. sign_then signs.Bar ts refl (λ a. done (true, a) another))
    (λ _. sign_then signs.Comma ts (not_one_size before ends) (λ a.
    sign_then signs.Ellipsis a (not_wide before ends) (λ b.
    sign_then signs.RightBrace b refl (λ c. done (false, c) whole))))

shut : (view : List Token → List ℕ) (outer before : List Token) (numbers : List ℕ) → Listing view outer numbers before → Shut outer (tokens.Sign signs.RightBrace ∷ tokens.Sign signs.Ellipsis ∷ tokens.Sign signs.Comma ∷ before)
unfolding assigned types_assigned
shut view outer before numbers so_far = record { ends = refl; names = so_far.names; types = so_far.types }

-- what is told before each row, and behind the set
abbrev IeGoing : List Token → Rows IeRow → List Token → Type 0
IeGoing outer so_far before = Listing ids outer (map id_of so_far.rows) before

abbrev ProcedureGoing : List Token → Rows ProcedureRow → List Token → Type 0
ProcedureGoing outer so_far before = Listing codes_given outer (map code_of so_far.rows) before

ie_turned : (outer before last : List Token) (so_far : Rows IeRow) (more : Bool) (us : Left) → IeGoing outer so_far before → GoesOn before more last → Turned (IeGoing outer) (λ _ after. Shut outer after) (more, so_far, us) last
unfolding numbers_behind assigned types_assigned
ie_turned outer before last so_far more us listing another = record { given = listing.given; names = listing.names; types = listing.types }
ie_turned outer before last so_far more us listing whole = shut ids outer before _ listing

procedure_turned : (outer before last : List Token) (so_far : Rows ProcedureRow) (more : Bool) (us : Left) → ProcedureGoing outer so_far before → GoesOn before more last → Turned (ProcedureGoing outer) (λ _ after. Shut outer after) (more, so_far, us) last
unfolding numbers_behind assigned types_assigned
procedure_turned outer before last so_far more us listing another = record { given = listing.given; names = listing.names; types = listing.types }
procedure_turned outer before last so_far more us listing whole = shut codes_given outer before _ listing

ie_turn_run : (turns : ℕ) (outer : List Token) (so_far : Rows IeRow) (before : List Token) (ts : Left) → IeGoing outer so_far before → Run before ts (λ a. a.2) (Turned (IeGoing outer) (λ _ after. Shut outer after)) (ie_turn_at turns so_far ts)
unfolding ie_turn_at
ie_turn_run turns outer so_far before ts going = and_then (ie_row_run turns so_far.rows so_far.nodes outer before ts going) (λ row after rowed.
    and_then (set_goes_on_run after row.2 rowed.ends) (λ more last on. done (more.0, rows_with (so_far.rows ++ row.0 ∷ []) row.1, more.1) (ie_turned outer after last _ more.0 more.1 rowed.listing on)))

procedure_turn_run : (turns : ℕ) (outer : List Token) (so_far : Rows ProcedureRow) (before : List Token) (ts : Left) → ProcedureGoing outer so_far before → Run before ts (λ a. a.2) (Turned (ProcedureGoing outer) (λ _ after. Shut outer after)) (procedure_turn_at turns so_far ts)
unfolding procedure_turn_at
procedure_turn_run turns outer so_far before ts going = and_then (procedure_row_run turns so_far.rows so_far.nodes outer before ts going) (λ row after rowed.
    and_then (set_goes_on_run after row.2 rowed.ends) (λ more last on. done (more.0, rows_with (so_far.rows ++ row.0 ∷ []) row.1, more.1) (procedure_turned outer after last _ more.0 more.1 rowed.listing on)))

set_start_run : (before : List Token) (ts : Left) → Run before ts (λ us. us) (λ us after. after ≡ tokens.Sign signs.LeftBrace ∷ tokens.Sign signs.Assignment ∷ before) (set_start_at ts)
unfolding set_start_at
set_start_run before ts = sign_then signs.Assignment ts refl (λ a. sign_run signs.LeftBrace _ a refl)

ie_start : (outer : List Token) → Listing ids outer [] (tokens.Sign signs.LeftBrace ∷ tokens.Sign signs.Assignment ∷ tokens.Word words.ProtocolIes ∷ outer)
unfolding numbers_behind assigned types_assigned
ie_start outer = record { given = refl; names = refl; types = refl }

procedure_start : (outer : List Token) → Listing codes_given outer [] (tokens.Sign signs.LeftBrace ∷ tokens.Sign signs.Assignment ∷ tokens.Word words.ElementaryProcedure ∷ outer)
unfolding numbers_behind assigned types_assigned
procedure_start outer = record { given = refl; names = refl; types = refl }

pub ie_set_run : (turns : ℕ) (nodes : List Node) (outer : List Token) (ts : Left) → Run (tokens.Word words.ProtocolIes ∷ outer) ts (λ a. a.1) (λ a after. Shut outer after) (ie_set_at turns nodes ts)
unfolding ie_set_at
ie_set_run turns nodes outer ts = and_then (set_start_run _ ts) (λ us after is.
    repeat_run (IeGoing outer) (λ _ b. Shut outer b) (ie_turn_run turns outer) turns (rows_with [] nodes) after us (subst (Listing ids outer []) (sym is) (ie_start outer)))

pub procedure_set_run : (turns : ℕ) (nodes : List Node) (outer : List Token) (ts : Left) → Run (tokens.Word words.ElementaryProcedure ∷ outer) ts (λ a. a.1) (λ a after. Shut outer after) (procedure_set_at turns nodes ts)
unfolding procedure_set_at
procedure_set_run turns nodes outer ts = and_then (set_start_run _ ts) (λ us after is.
    repeat_run (ProcedureGoing outer) (λ _ b. Shut outer b) (procedure_turn_run turns outer) turns (rows_with [] nodes) after us (subst (Listing codes_given outer []) (sym is) (procedure_start outer)))
