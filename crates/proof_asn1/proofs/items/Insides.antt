-- What is told of the items before, inside brackets of a type.
use Rattle.std.proofs.Common.{◌≡◌, ℕ, zero, suc, List, [], ◌∷◌, Bool, true, false, cond, refl, ◌∙◌}
use Rattle.asn1_tokens.specs.declared.token.Word.{Word}
use Rattle.asn1_tokens.specs.declared.token.Word.TheVariants as words
use Rattle.asn1_tokens.specs.declared.token.Sign.TheVariants as signs
use Rattle.asn1_tokens.specs.declared.token.Token.{Token}
use Rattle.asn1_tokens.specs.declared.token.Token.TheVariants as tokens
use Rattle.asn1_tokens.specs.Words.{is_word}
use Rattle.asn1_defs.specs.Repetitions.{listed, numbers_behind, ids, codes_given, begins_assignment, assigned, types_assigned}
use Rattle.proof_asn1.proofs.items.Views.{Same}

abbrev pub deeper : ℕ → ℕ → ℕ
deeper zero depth = depth
deeper (suc deep) depth = suc (deeper deep depth)

-- These items stand behind the outer ones, so many brackets deep.
pub record Inside (deep : ℕ) (outer here : List Token) : Type 0 where
  pub lists : (depth : ℕ) → listed (deeper deep depth) here ≡ listed depth outer
  pub ids : ids here ≡ ids outer
  pub codes : codes_given here ≡ codes_given outer
  pub names : assigned here ≡ assigned outer
  pub types : types_assigned here ≡ types_assigned outer

-- behind the whole type that stands there
pub inside_then : {deep : ℕ} {outer here after : List Token} → Inside deep outer here → Same here after → Inside deep outer after
inside_then {deep} one same = record {
  lists = λ depth. same.lists (deeper deep depth) ∙ one.lists depth;
  ids = same.ids ∙ one.ids;
  codes = same.codes ∙ one.codes;
  names = same.names ∙ one.names;
  types = same.types ∙ one.types;
}

-- behind the last item
pub ended : {outer after : List Token} → begins_assignment after ≡ true → Inside 0 outer after → Same outer after
ended ends one = record { ends = ends; lists = one.lists; ids = one.ids; codes = one.codes; names = one.names; types = one.types }

pub nowhere : {outer : List Token} → Inside 0 outer outer
nowhere = record { lists = λ depth. refl; ids = refl; codes = refl; names = refl; types = refl }

-- ---- one more item

pub comma_inside : {deep : ℕ} {outer here : List Token} → Inside deep outer here → Inside deep outer (tokens.Sign signs.Comma ∷ here)
unfolding listed numbers_behind assigned types_assigned
comma_inside one = record { lists = one.lists; ids = one.ids; codes = one.codes; names = one.names; types = one.types }

pub ellipsis_inside : {deep : ℕ} {outer here : List Token} → Inside (suc deep) outer here → Inside (suc deep) outer (tokens.Sign signs.Ellipsis ∷ here)
unfolding listed numbers_behind assigned types_assigned
ellipsis_inside one = record { lists = one.lists; ids = one.ids; codes = one.codes; names = one.names; types = one.types }

pub name_inside : {deep : ℕ} {outer here : List Token} (name : List ℕ) → Inside (suc deep) outer here → Inside (suc deep) outer (tokens.Lower name ∷ here)
unfolding listed numbers_behind assigned types_assigned
name_inside name one = record { lists = one.lists; ids = one.ids; codes = one.codes; names = one.names; types = one.types }

pub bracket_ends : {deep : ℕ} {outer here : List Token} → Inside (suc deep) outer here → Inside deep outer (tokens.Sign signs.RightParenthesis ∷ here)
unfolding listed numbers_behind assigned types_assigned
bracket_ends one = record { lists = one.lists; ids = one.ids; codes = one.codes; names = one.names; types = one.types }

pub brace_ends : {deep : ℕ} {outer here : List Token} → Inside (suc deep) outer here → Inside deep outer (tokens.Sign signs.RightBrace ∷ here)
unfolding listed numbers_behind assigned types_assigned
brace_ends one = record { lists = one.lists; ids = one.ids; codes = one.codes; names = one.names; types = one.types }

-- a word that begins no set
pub word_inside : {deep : ℕ} {outer here : List Token} (w : Word) → is_word w words.ProtocolIes ≡ false → is_word w words.ElementaryProcedure ≡ false → Inside deep outer here → Inside deep outer (tokens.Word w ∷ here)
unfolding listed numbers_behind assigned types_assigned
word_inside w no_ies no_procedures one = record { lists = one.lists; ids = kept _ _ no_ies ∙ one.ids; codes = kept _ _ no_procedures ∙ one.codes; names = one.names; types = one.types }
  where
    kept : (b : Bool) (numbers : List ℕ) → b ≡ false → cond b [] numbers ≡ numbers
    kept true numbers h = cc
    kept false numbers h = refl

-- ---- one behind another

pub inside_both : {deep : ℕ} {outer mid here : List Token} → Inside 0 outer mid → Inside deep mid here → Inside deep outer here
inside_both {deep} one two = record {
  lists = λ depth. two.lists depth ∙ one.lists depth;
  ids = two.ids ∙ one.ids;
  codes = two.codes ∙ one.codes;
  names = two.names ∙ one.names;
  types = two.types ∙ one.types;
}

pub same_behind : {outer mid after : List Token} → Inside 0 outer mid → Same mid after → Same outer after
same_behind one same = ended same.ends (inside_then one same)
