-- A text is one module's, or has one first wrong item, never both.
use Rattle.std.proofs.Common.{◌≡◌, ℕ, List, [], ◌∷◌, ◌++◌, length, reverse, refl, sym, ap, ◌∙◌, subst}
use Rattle.asn1_tokens.specs.declared.token.Token.{Token}
use Rattle.asn1_tokens.specs.declared.token.Token.TheVariants as tokens
use Rattle.asn1_tokens.specs.Stream.{Placed, items_of, is_last}
use Rattle.asn1_syntax.specs.declared.types.fault.ModuleReason.{ModuleReason}
use Rattle.asn1_syntax.specs.declared.types.fault.ModuleReason.TheVariants as reasons
use Rattle.asn1_syntax.specs.declared.types.fault.Fault.{Fault}
use Rattle.asn1_syntax.specs.types.Reading.{reason_of}
use Rattle.asn1_syntax.specs.declared.assignments.assignment.Syntax.{Syntax}
use Rattle.proof_asn1.specs.asn1_proof_syntax.Grammatical as grammar
use Rattle.asn1_defs.specs.Spelling.{tokens_of, GoesOn}
use Rattle.proof_asn1.specs.asn1_proof_syntax.Grammatical.{IsModuleFront, IsWrongItem}
use Rattle.proof_asn1.specs.items.JudgedItems as judged
use Rattle.asn1_defs.specs.ItemFaults.{AreAllowed}
use Rattle.proof_asn1.specs.items.JudgedItems.{Because, AreAllowedTo, IsJudged}
use Rattle.asn1_defs.specs.ModuleMeanings.{MeansModule}
use Rattle.asn1_defs.specs.Items.{AreItems}
use Rattle.proof_asn1.proofs.lexical.Streams.{all_items}
use Rattle.asn1_defs.specs.Texts.{IsTextOf, IsWrong, not_open, bounds, twice, IsFirstWrong}
use Rattle.proof_asn1.proofs.reading.Ordered.{items-ordered, OneSplit, by_start, by_end}
use Rattle.proof_asn1.proofs.reading.Alone.{spelled_goes}

-- ---- a module's text

one_text : (text : List ℕ) (m : Syntax) (g : IsModuleFront text m.end) (a : AreAllowedTo text m.end) → OneSplit g.front g.last g.rest a.front a.last a.rest → MeansModule (items_of text) m → IsTextOf text m
one_text text m g a split means = record {
  front = g.front;
  last = g.last;
  rest = g.rest;
  items = subst (AreItems (length text) text) g.items (all_items text);
  spelled = g.spelled;
  allowed =
      subst (λ (f : List Placed). AreAllowed [] (tokens_of f ++ g.last.token ∷ []) (tokens_of g.rest)) (sym split.fronts)
      (subst (λ (p : Placed). AreAllowed [] (tokens_of a.front ++ p.token ∷ []) (tokens_of g.rest)) (sym split.items)
      (subst (λ (r : List Placed). AreAllowed [] (tokens_of a.front ++ a.last.token ∷ []) (tokens_of r)) (sym split.rests) a.allowed));
  means = subst (λ (l : List Placed). MeansModule l m) g.items means;
  ends = g.ends;
}

pub text_of : (text : List ℕ) (m : Syntax) → IsModuleFront text m.end → AreAllowedTo text m.end → MeansModule (items_of text) m → IsTextOf text m
text_of text m g a means = one_text text m g a
    (by_end g.front g.last g.rest a.front a.last a.rest (items_of text) (items-ordered text) g.items a.items (spelled_goes (tokens_of g.front) g.last.token [] g.spelled) (ap is_last a.word) (sym g.ends ∙ a.ends))
    means

-- ---- a first wrong item

not_reason : (t : Token) → reason_of t ≡ reasons.Bounds → ⊥
not_reason (tokens.Upper name) e = cc
not_reason (tokens.Lower name) e = cc
not_reason (tokens.Word word) e = cc
not_reason (tokens.Number value) e = cc
not_reason (tokens.Sign sign) e = cc
not_reason tokens.OutOfProfile e = cc
not_reason tokens.Nothing e = cc
not_reason tokens.EndOfText e = cc

not_twice : (t : Token) → reason_of t ≡ reasons.Twice → ⊥
not_twice (tokens.Upper name) e = cc
not_twice (tokens.Lower name) e = cc
not_twice (tokens.Word word) e = cc
not_twice (tokens.Number value) e = cc
not_twice (tokens.Sign sign) e = cc
not_twice tokens.OutOfProfile e = cc
not_twice tokens.Nothing e = cc
not_twice tokens.EndOfText e = cc

bounds_not_twice : reasons.Bounds ≡ reasons.Twice → ⊥
bounds_not_twice e = cc

-- both say why
wrong_since : (front : List Token) (t : Token) (behind : List Token) (r s : ModuleReason) → r ≡ s → GoesOn front → grammar.IsWrong front t r → Because (reverse front) t behind s → IsWrong front t behind r
wrong_since front t behind r s e on (grammar.not_open not) because = not_open on not
wrong_since front t behind r s e on (grammar.bounds is_open) judged.misplaced = absurd (not_reason t (sym e))
wrong_since front t behind r s e on (grammar.bounds is_open) (judged.bounds h) = bounds is_open h
wrong_since front t behind r s e on (grammar.bounds is_open) (judged.twice h g) = absurd (bounds_not_twice e)
wrong_since front t behind r s e on (grammar.twice is_open) judged.misplaced = absurd (not_twice t (sym e))
wrong_since front t behind r s e on (grammar.twice is_open) (judged.bounds h) = absurd (bounds_not_twice (sym e))
wrong_since front t behind r s e on (grammar.twice is_open) (judged.twice h g) = twice is_open h g

one_wrong_item : (text : List ℕ) (f : Fault) (g : IsWrongItem text f) (j : IsJudged text f) → OneSplit g.front g.item g.rest j.front j.item j.rest → IsFirstWrong text f
one_wrong_item text f g j split = record {
  front = g.front;
  item = g.item;
  rest = g.rest;
  items = subst (AreItems (length text) text) g.items (all_items text);
  at = g.at;
  allowed =
      subst (λ (l : List Placed). AreAllowed [] (tokens_of l) (g.item.token ∷ tokens_of g.rest)) (sym split.fronts)
      (subst (λ (p : Placed). AreAllowed [] (tokens_of j.front) (p.token ∷ tokens_of g.rest)) (sym split.items)
      (subst (λ (r : List Placed). AreAllowed [] (tokens_of j.front) (j.item.token ∷ tokens_of r)) (sym split.rests) j.allowed));
  wrong = wrong_since (tokens_of g.front) g.item.token (tokens_of g.rest) f.reason f.reason refl g.before g.wrong
      (subst (λ (l : List Placed). Because (reverse (tokens_of l)) g.item.token (tokens_of g.rest) f.reason) (sym split.fronts)
      (subst (λ (p : Placed). Because (reverse (tokens_of j.front)) p.token (tokens_of g.rest) f.reason) (sym split.items)
      (subst (λ (r : List Placed). Because (reverse (tokens_of j.front)) j.item.token (tokens_of r) f.reason) (sym split.rests) j.because)));
}

pub first_wrong : (text : List ℕ) (f : Fault) → IsWrongItem text f → IsJudged text f → IsFirstWrong text f
first_wrong text f g j = one_wrong_item text f g j (by_start g.front g.item g.rest j.front j.item j.rest (items_of text) (items-ordered text) g.items j.items (sym g.at ∙ j.at))
