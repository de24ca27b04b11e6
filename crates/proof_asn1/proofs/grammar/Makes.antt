-- Each row of symbols spells something.
use Rattle.std.proofs.lemmas.Bool.{eq-eqb}
use Rattle.std.proofs.Common.{◌≡◌, List, [], ◌∷◌, ◌++◌, true, refl, inl, inr}
use Rattle.std.specs.Prelude.{codes, pos}
use Rattle.asn1_tokens.specs.declared.token.Word.TheVariants as words
use Rattle.asn1_tokens.specs.declared.token.Sign.TheVariants as signs
use Rattle.asn1_tokens.specs.declared.token.Token.{Token}
use Rattle.asn1_tokens.specs.declared.token.Token.TheVariants as tokens
use Rattle.asn1_tokens.specs.Words.{word_number, sign_number, is_text}
use Rattle.asn1_defs.specs.Grammar.{Terminal, AnUpper, ALower, ANumber, ACriticality, APresence, TheWord, TheSign, fits, Part, Symbol, Item, Whole, productions, Module, Assignments, Meaning, IeRows, MoreIeRows, ProcedureRows, MoreProcedureRows, SuccessfulOutcome, UnsuccessfulOutcome, AType, Mark, OptionalSize, HighSize, SequenceRest, FirstComponent, NextComponent, AfterComponent, AfterAddition, OptionalWord, NextAlternative, AfterAlternative, AfterAlternativeAddition, NextName, AfterName, AfterNameAddition}
use Rattle.asn1_defs.specs.Spelling.{IsOneOf, Spells, nothing, item, part}

abbrev pub Makes : List Symbol → Type 0
Makes symbols = (items : List Token) × Spells symbols items

sample : (k : Terminal) → (t : Token) × (fits k t ≡ true)
unfolding is_text
sample AnUpper = (tokens.Upper [], refl)
sample ALower = (tokens.Lower [], refl)
sample ANumber = (tokens.Number (pos 0), refl)
sample ACriticality = (tokens.Lower (codes "reject"), refl)
sample APresence = (tokens.Lower (codes "optional"), refl)
sample (TheWord w) = (tokens.Word w, eq-eqb (word_number w) (word_number w) refl)
sample (TheSign s) = (tokens.Sign s, eq-eqb (sign_number s) (sign_number s) refl)

an_item : (k : Terminal) {symbols : List Symbol} → Makes symbols → Makes (Item k ∷ symbols)
an_item k made = let one = sample k in (one.0 ∷ made.0, item one.1 made.1)

by_production : (n : Part) (b symbols : List Symbol) → IsOneOf b (productions n) → Makes (b ++ symbols) → Makes (Whole n ∷ symbols)
by_production n b symbols one made = (made.0, part b one made.1)

make_mark : {symbols : List Symbol} → Makes symbols → Makes (Whole Mark ∷ symbols)
unfolding productions
make_mark {symbols} made = by_production Mark ([]) symbols (inr (inl refl)) (made)

make_optional_size : {symbols : List Symbol} → Makes symbols → Makes (Whole OptionalSize ∷ symbols)
unfolding productions
make_optional_size {symbols} made = by_production OptionalSize ([]) symbols (inr (inl refl)) (made)

make_high_size : {symbols : List Symbol} → Makes symbols → Makes (Whole HighSize ∷ symbols)
unfolding productions
make_high_size {symbols} made = by_production HighSize ([]) symbols (inr (inl refl)) (made)

make_successful_outcome : {symbols : List Symbol} → Makes symbols → Makes (Whole SuccessfulOutcome ∷ symbols)
unfolding productions
make_successful_outcome {symbols} made = by_production SuccessfulOutcome ([]) symbols (inr (inl refl)) (made)

make_unsuccessful_outcome : {symbols : List Symbol} → Makes symbols → Makes (Whole UnsuccessfulOutcome ∷ symbols)
unfolding productions
make_unsuccessful_outcome {symbols} made = by_production UnsuccessfulOutcome ([]) symbols (inr (inl refl)) (made)

make_optional_word : {symbols : List Symbol} → Makes symbols → Makes (Whole OptionalWord ∷ symbols)
unfolding productions
make_optional_word {symbols} made = by_production OptionalWord ([]) symbols (inr (inl refl)) (made)

make_a_type : {symbols : List Symbol} → Makes symbols → Makes (Whole AType ∷ symbols)
unfolding productions
make_a_type {symbols} made = by_production AType (Item (TheWord words.Boolean) ∷ []) symbols (inl refl) (an_item (TheWord words.Boolean) (made))

make_after_component : {symbols : List Symbol} → Makes symbols → Makes (Whole AfterComponent ∷ symbols)
unfolding productions
make_after_component {symbols} made = by_production AfterComponent (Item (TheSign signs.RightBrace) ∷ []) symbols (inr (inl refl)) (an_item (TheSign signs.RightBrace) (made))

make_after_addition : {symbols : List Symbol} → Makes symbols → Makes (Whole AfterAddition ∷ symbols)
unfolding productions
make_after_addition {symbols} made = by_production AfterAddition (Item (TheSign signs.RightBrace) ∷ []) symbols (inr (inl refl)) (an_item (TheSign signs.RightBrace) (made))

make_after_alternative : {symbols : List Symbol} → Makes symbols → Makes (Whole AfterAlternative ∷ symbols)
unfolding productions
make_after_alternative {symbols} made = by_production AfterAlternative (Item (TheSign signs.RightBrace) ∷ []) symbols (inr (inl refl)) (an_item (TheSign signs.RightBrace) (made))

make_after_alternative_addition : {symbols : List Symbol} → Makes symbols → Makes (Whole AfterAlternativeAddition ∷ symbols)
unfolding productions
make_after_alternative_addition {symbols} made = by_production AfterAlternativeAddition (Item (TheSign signs.RightBrace) ∷ []) symbols (inr (inl refl)) (an_item (TheSign signs.RightBrace) (made))

make_after_name : {symbols : List Symbol} → Makes symbols → Makes (Whole AfterName ∷ symbols)
unfolding productions
make_after_name {symbols} made = by_production AfterName (Item (TheSign signs.RightBrace) ∷ []) symbols (inr (inl refl)) (an_item (TheSign signs.RightBrace) (made))

make_after_name_addition : {symbols : List Symbol} → Makes symbols → Makes (Whole AfterNameAddition ∷ symbols)
unfolding productions
make_after_name_addition {symbols} made = by_production AfterNameAddition (Item (TheSign signs.RightBrace) ∷ []) symbols (inr (inl refl)) (an_item (TheSign signs.RightBrace) (made))

make_first_component : {symbols : List Symbol} → Makes symbols → Makes (Whole FirstComponent ∷ symbols)
unfolding productions
make_first_component {symbols} made = by_production FirstComponent (Item (TheSign signs.RightBrace) ∷ []) symbols (inl refl) (an_item (TheSign signs.RightBrace) (made))

make_next_component : {symbols : List Symbol} → Makes symbols → Makes (Whole NextComponent ∷ symbols)
unfolding productions
make_next_component {symbols} made = by_production NextComponent (Item (TheSign signs.Ellipsis) ∷ Whole AfterAddition ∷ []) symbols (inl refl) (an_item (TheSign signs.Ellipsis) (make_after_addition (made)))

make_next_alternative : {symbols : List Symbol} → Makes symbols → Makes (Whole NextAlternative ∷ symbols)
unfolding productions
make_next_alternative {symbols} made = by_production NextAlternative (Item (TheSign signs.Ellipsis) ∷ Whole AfterAlternativeAddition ∷ []) symbols (inl refl) (an_item (TheSign signs.Ellipsis) (make_after_alternative_addition (made)))

make_next_name : {symbols : List Symbol} → Makes symbols → Makes (Whole NextName ∷ symbols)
unfolding productions
make_next_name {symbols} made = by_production NextName (Item (TheSign signs.Ellipsis) ∷ Whole AfterNameAddition ∷ []) symbols (inl refl) (an_item (TheSign signs.Ellipsis) (make_after_name_addition (made)))

make_sequence_rest : {symbols : List Symbol} → Makes symbols → Makes (Whole SequenceRest ∷ symbols)
unfolding productions
make_sequence_rest {symbols} made = by_production SequenceRest (Item (TheWord words.Of) ∷ Whole AType ∷ []) symbols (inr (inr (inl refl))) (an_item (TheWord words.Of) (make_a_type (made)))

make_assignments : {symbols : List Symbol} → Makes symbols → Makes (Whole Assignments ∷ symbols)
unfolding productions
make_assignments {symbols} made = by_production Assignments (Item (TheWord words.End) ∷ []) symbols (inl refl) (an_item (TheWord words.End) (made))

make_meaning : {symbols : List Symbol} → Makes symbols → Makes (Whole Meaning ∷ symbols)
unfolding productions
make_meaning {symbols} made = by_production Meaning (Item (TheSign signs.Assignment) ∷ Whole AType ∷ []) symbols (inr (inr (inl refl))) (an_item (TheSign signs.Assignment) (make_a_type (made)))

make_more_ie_rows : {symbols : List Symbol} → Makes symbols → Makes (Whole MoreIeRows ∷ symbols)
unfolding productions
make_more_ie_rows {symbols} made = by_production MoreIeRows (Item (TheSign signs.Comma) ∷ Item (TheSign signs.Ellipsis) ∷ Item (TheSign signs.RightBrace) ∷ []) symbols (inr (inl refl)) (an_item (TheSign signs.Comma) (an_item (TheSign signs.Ellipsis) (an_item (TheSign signs.RightBrace) (made))))

make_more_procedure_rows : {symbols : List Symbol} → Makes symbols → Makes (Whole MoreProcedureRows ∷ symbols)
unfolding productions
make_more_procedure_rows {symbols} made = by_production MoreProcedureRows (Item (TheSign signs.Comma) ∷ Item (TheSign signs.Ellipsis) ∷ Item (TheSign signs.RightBrace) ∷ []) symbols (inr (inl refl)) (an_item (TheSign signs.Comma) (an_item (TheSign signs.Ellipsis) (an_item (TheSign signs.RightBrace) (made))))

make_ie_rows : {symbols : List Symbol} → Makes symbols → Makes (Whole IeRows ∷ symbols)
unfolding productions
make_ie_rows {symbols} made = by_production IeRows (Item (TheSign signs.LeftBrace) ∷ Item (TheWord words.Id) ∷ Item (ANumber) ∷ Item (TheWord words.Criticality) ∷ Item (ACriticality) ∷ Item (TheWord words.Type) ∷ Whole AType ∷ Item (TheWord words.Presence) ∷ Item (APresence) ∷ Item (TheSign signs.RightBrace) ∷ Whole MoreIeRows ∷ []) symbols (inl refl) (an_item (TheSign signs.LeftBrace) (an_item (TheWord words.Id) (an_item (ANumber) (an_item (TheWord words.Criticality) (an_item (ACriticality) (an_item (TheWord words.Type) (make_a_type (an_item (TheWord words.Presence) (an_item (APresence) (an_item (TheSign signs.RightBrace) (make_more_ie_rows (made))))))))))))

make_procedure_rows : {symbols : List Symbol} → Makes symbols → Makes (Whole ProcedureRows ∷ symbols)
unfolding productions
make_procedure_rows {symbols} made = by_production ProcedureRows (Item (TheSign signs.LeftBrace) ∷ Item (TheWord words.Initiating) ∷ Item (TheWord words.Message) ∷ Whole AType ∷ Whole SuccessfulOutcome ∷ Whole UnsuccessfulOutcome ∷ Item (TheWord words.Procedure) ∷ Item (TheWord words.Code) ∷ Item (ANumber) ∷ Item (TheWord words.Criticality) ∷ Item (ACriticality) ∷ Item (TheSign signs.RightBrace) ∷ Whole MoreProcedureRows ∷ []) symbols (inl refl) (an_item (TheSign signs.LeftBrace) (an_item (TheWord words.Initiating) (an_item (TheWord words.Message) (make_a_type (make_successful_outcome (make_unsuccessful_outcome (an_item (TheWord words.Procedure) (an_item (TheWord words.Code) (an_item (ANumber) (an_item (TheWord words.Criticality) (an_item (ACriticality) (an_item (TheSign signs.RightBrace) (make_more_procedure_rows (made))))))))))))))

make_module : {symbols : List Symbol} → Makes symbols → Makes (Whole Module ∷ symbols)
unfolding productions
make_module {symbols} made = by_production Module (Item (AnUpper) ∷ Item (TheWord words.Definitions) ∷ Item (TheWord words.Automatic) ∷ Item (TheWord words.Tags) ∷ Item (TheSign signs.Assignment) ∷ Item (TheWord words.Begin) ∷ Whole Assignments ∷ []) symbols (inl refl) (an_item (AnUpper) (an_item (TheWord words.Definitions) (an_item (TheWord words.Automatic) (an_item (TheWord words.Tags) (an_item (TheSign signs.Assignment) (an_item (TheWord words.Begin) (make_assignments (made))))))))

a_part : (n : Part) {symbols : List Symbol} → Makes symbols → Makes (Whole n ∷ symbols)
a_part Module made = make_module made
a_part Assignments made = make_assignments made
a_part Meaning made = make_meaning made
a_part IeRows made = make_ie_rows made
a_part MoreIeRows made = make_more_ie_rows made
a_part ProcedureRows made = make_procedure_rows made
a_part MoreProcedureRows made = make_more_procedure_rows made
a_part SuccessfulOutcome made = make_successful_outcome made
a_part UnsuccessfulOutcome made = make_unsuccessful_outcome made
a_part AType made = make_a_type made
a_part Mark made = make_mark made
a_part OptionalSize made = make_optional_size made
a_part HighSize made = make_high_size made
a_part SequenceRest made = make_sequence_rest made
a_part FirstComponent made = make_first_component made
a_part NextComponent made = make_next_component made
a_part AfterComponent made = make_after_component made
a_part AfterAddition made = make_after_addition made
a_part OptionalWord made = make_optional_word made
a_part NextAlternative made = make_next_alternative made
a_part AfterAlternative made = make_after_alternative made
a_part AfterAlternativeAddition made = make_after_alternative_addition made
a_part NextName made = make_next_name made
a_part AfterName made = make_after_name made
a_part AfterNameAddition made = make_after_name_addition made

-- each row of symbols spells something
pub made_of : (symbols : List Symbol) → Makes symbols
made_of [] = ([], nothing)
made_of (Item k ∷ symbols) = an_item k (made_of symbols)
made_of (Whole n ∷ symbols) = a_part n (made_of symbols)
