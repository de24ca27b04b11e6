-- Rows of sets, and what names stand for, show the types that stand in them.
use Rattle.std.proofs.Common.{◌≡◌, ℕ, ◌<◌, ◌≤◌, List, [], ◌∷◌, length, true, refl, sym, subst, arith}
use Rattle.std.specs.Prelude.{Option, None, pos}
use Rattle.asn1_tokens.specs.declared.token.Word.{Word}
use Rattle.asn1_tokens.specs.declared.token.Word.TheVariants as words
use Rattle.asn1_tokens.specs.declared.token.Sign.TheVariants as signs
use Rattle.asn1_tokens.specs.declared.token.Token.TheVariants as tokens
use Rattle.asn1_tokens.specs.Stream.{Placed}
use Rattle.asn1_syntax.specs.declared.types.definition.TypeId.{TypeId}
use Rattle.asn1_syntax.specs.declared.types.definition.Node.{Node}
use Rattle.asn1_syntax.specs.declared.assignments.assignment.Criticality.{Criticality}
use Rattle.asn1_syntax.specs.declared.assignments.assignment.Presence.{Presence}
use Rattle.asn1_syntax.specs.declared.assignments.assignment.IeRow.{IeRow}
use Rattle.asn1_syntax.specs.declared.assignments.assignment.ProcedureRow.{ProcedureRow}
use Rattle.asn1_syntax.specs.declared.assignments.assignment.Body.{Body}
use Rattle.asn1_defs.specs.ItemMeanings.{The}
use Rattle.asn1_defs.specs.TypeMeanings.{AType, Value, Means}
use Rattle.asn1_defs.specs.RowMeanings.{ACriticality, criticality, APresence, presence, AnIe, ie, Outcome, outcome, no_outcome, AProcedure, procedure, Rows, last, more}
use Rattle.asn1_defs.specs.ModuleMeanings.{MeansBody, a_type, ie_set, procedure_set}
use Rattle.law_asn1.specs.names.Held.{given_kind}
use Rattle.law_asn1.proofs.names.Passing.{is_plain, begins_with_the}
use Rattle.law_asn1.proofs.names.RowsHeld.{successful_follows, unsuccessful_follows}
use Rattle.law_asn1.specs.depth.Levels.{behind, innermost}
use Rattle.law_asn1.proofs.depth.Lying.{bare, Flat, ◌and◌, none_flat, at_level, flat, number_flat, lower_flat, brace_flat, end_flat, comma_flat, dots_flat}
use Rattle.law_asn1.proofs.depth.Paths.{Sound}
use Rattle.law_asn1.proofs.depth.TypesStand.{IsFront, front_front, longer, whole_front, grows, roots_inside, Stood, stood_from, like_stood, behind_flat, stood_both, flat_behind, flat_closes, types_stand}

criticality_flat : {c : Criticality} {ts rest : List Placed} (t : ℕ) (xs : List ℕ) → ACriticality ts c rest → Flat t (t ∷ xs) (t ∷ xs) ts rest
criticality_flat t xs (criticality {name} n is) = lower_flat name t xs n

presence_flat : {p : Presence} {ts rest : List Placed} (t : ℕ) (xs : List ℕ) → APresence ts p rest → Flat t (t ∷ xs) (t ∷ xs) ts rest
presence_flat t xs (presence {name} n is) = lower_flat name t xs n

-- a word that raises no level
word_flat : (w : Word) {ts rest : List Placed} → is_plain (tokens.Word w) ≡ true → ((l : List ℕ) → behind (tokens.Word w) l ≡ l) → (t : ℕ) (xs : List ℕ) → The (tokens.Word w) ts rest → Flat t (t ∷ xs) (t ∷ xs) ts rest
word_flat w {ts} {rest} h same t xs the =
    subst (λ (l : List ℕ). Flat t (t ∷ xs) l ts rest) (same (t ∷ xs))
    (flat (tokens.Word w) h t (t ∷ xs) (subst (λ (l : List ℕ). innermost l ≤ t) (sym (same (t ∷ xs))) (at_level t)) the)

-- ---- types that ended

outcome_grows : {word : Word} {nodes all : List Node} {x : Option TypeId} {ts rest : List Placed} → Outcome word nodes ts x all rest → IsFront nodes all
outcome_grows (outcome a b m) = grows m
outcome_grows (no_outcome {nodes} w) = whole_front nodes

ie_grows : {nodes all : List Node} {row : IeRow} {ts rest : List Placed} → AnIe nodes ts row all rest → IsFront nodes all
ie_grows (ie a b n d c e m g p z) = grows m

procedure_grows : {nodes all : List Node} {row : ProcedureRow} {ts rest : List Placed} → AProcedure nodes ts row all rest → IsFront nodes all
procedure_grows (procedure a b c m s u p d n e k z) = front_front (grows m) (front_front (outcome_grows s) (outcome_grows u))

rows_grow : {R : Type 0} (Row : List Node → List Placed → R → List Node → List Placed → Type 0) → ((nodes all : List Node) (row : R) (ts rest : List Placed) → Row nodes ts row all rest → IsFront nodes all)
    → {nodes all : List Node} {rows : List R} {ts rest : List Placed} → Rows Row nodes ts rows all rest → IsFront nodes all
rows_grow Row each (last r a b c) = each _ _ _ _ _ r
rows_grow Row each (more r a k) = front_front (each _ _ _ _ _ r) (rows_grow Row each k)

pub body_grows : {nodes all : List Node} {body : Body} {ts rest : List Placed} → MeansBody nodes ts body all rest → IsFront nodes all
body_grows (a_type a m) = grows m
body_grows (ie_set a b c r) = rows_grow AnIe (λ nodes all row ts rest h. ie_grows h) r
body_grows (procedure_set a b c r) = rows_grow AProcedure (λ nodes all row ts rest h. procedure_grows h) r

-- ---- items and types

-- a type whose number is from lo on and below hi
abbrev pub InRange : ℕ → ℕ → ℕ → Type 0
InRange lo hi = λ r. (lo ≤ r) × (r < hi)

-- a row up to the brace that closes it
record ARow (whole : List Node) (lo hi first end y : ℕ) (before below : List ℕ) (ts rest : List Placed) : Type 0 where
  us : List Placed
  stands : Stood whole (InRange lo hi) first end y [] before below ts us
  closes : The (tokens.Sign signs.RightBrace) us rest

module _ (whole : List Node) (lo hi : ℕ) where
  type_in : {nodes all : List Node} {x : Value AType} {ts rest : List Placed} (y : ℕ) (xs : List ℕ) → lo ≤ length nodes → length all ≤ hi → given_kind rest ≡ None → IsFront all whole
      → Means AType nodes ts x all rest → Stood whole (InRange lo hi) (length nodes) (length all) y [] (y ∷ xs) xs ts rest
  type_in {nodes} {all} {x} y xs least most follows front m =
      stood_from whole (λ r. r ≡ x.number) (InRange lo hi) (length nodes) (length all) y (y ∷ xs) xs
      (λ r h. (omega (arith, least, (roots_inside m r h).0), omega (arith, most, (roots_inside m r h).1)))
      (types_stand whole y y xs follows front m)

  ie_stands : {nodes all : List Node} {row : IeRow} {ts rest : List Placed} (y : ℕ) (xs : List ℕ) → lo ≤ length nodes → length all ≤ hi → IsFront all whole → AnIe nodes ts row all rest
      → ARow whole lo hi (length nodes) (length all) y (y ∷ y ∷ xs) (y ∷ y ∷ xs) ts rest
  ie_stands y xs least most front (ie {id} a b n d c e m g p z) = record {
    us = _;
    stands = flat_behind whole
        (behind_flat whole
        (brace_flat y (y ∷ xs) a and flat (tokens.Word words.Id) refl y (y ∷ y ∷ y ∷ xs) (at_level y) b and number_flat (pos id) y (y ∷ y ∷ xs) n and
        flat (tokens.Word words.Criticality) refl y (y ∷ y ∷ y ∷ xs) (at_level y) d and criticality_flat y (y ∷ y ∷ xs) c and flat (tokens.Word words.Type) refl y (y ∷ y ∷ y ∷ xs) (at_level y) e)
        (type_in y (y ∷ y ∷ xs) least most (begins_with_the (tokens.Word words.Presence) g) front m))
        (λ t. flat (tokens.Word words.Presence) refl t (t ∷ y ∷ y ∷ xs) (at_level t) g and presence_flat t (y ∷ y ∷ xs) p);
    closes = z;
  }

  -- an outcome, behind a type that ended at level t
  outcome_stands : (word : Word) → is_plain (tokens.Word word) ≡ true → ((l : List ℕ) → behind (tokens.Word word) l ≡ l)
      → {nodes all : List Node} {x : Option TypeId} {ts rest : List Placed} (y t : ℕ) (xs : List ℕ) → lo ≤ length nodes → length all ≤ hi → given_kind rest ≡ None → IsFront all whole
      → Sound whole (InRange lo hi) y (bare t) → Outcome word nodes ts x all rest → Stood whole (InRange lo hi) (length nodes) (length all) y [] (t ∷ y ∷ y ∷ xs) (y ∷ y ∷ xs) ts rest
  outcome_stands word h same y t xs least most follows front like (outcome {nodes} a b m) =
      stood_both whole
      (like_stood whole (InRange lo hi) (length nodes) y t (t ∷ y ∷ y ∷ xs) (y ∷ y ∷ xs) like (word_flat word h same t (y ∷ y ∷ xs) a))
      (λ u sound. behind_flat whole (flat (tokens.Word words.Outcome) refl y (u ∷ y ∷ y ∷ xs) (at_level y) b) (type_in y (y ∷ y ∷ xs) least most follows front m))
  outcome_stands word h same y t xs least most follows front like (no_outcome {nodes} {ts} w) =
      like_stood whole (InRange lo hi) (length nodes) y t (t ∷ y ∷ y ∷ xs) (y ∷ y ∷ xs) like (none_flat t (t ∷ y ∷ y ∷ xs) ts)

  procedure_stands : {nodes all : List Node} {row : ProcedureRow} {ts rest : List Placed} (y : ℕ) (xs : List ℕ) → lo ≤ length nodes → length all ≤ hi → IsFront all whole → AProcedure nodes ts row all rest
      → ARow whole lo hi (length nodes) (length all) y (y ∷ y ∷ xs) (y ∷ y ∷ xs) ts rest
  procedure_stands y xs least most front (procedure {code} a b c m s u p d n e k z) = record {
    us = _;
    stands = flat_behind whole
        (behind_flat whole
        (brace_flat y (y ∷ xs) a and flat (tokens.Word words.Initiating) refl y (y ∷ y ∷ y ∷ xs) (at_level y) b and flat (tokens.Word words.Message) refl y (y ∷ y ∷ y ∷ xs) (at_level y) c)
        (stood_both whole
        (stood_both whole
        (type_in y (y ∷ y ∷ xs) least (omega (arith, most, longer (outcome_grows s), longer (outcome_grows u))) (successful_follows (unsuccessful_follows (begins_with_the (tokens.Word words.Procedure) p) u) s)
        (front_front (outcome_grows s) (front_front (outcome_grows u) front)) m)
        (λ t like. outcome_stands words.Successful refl (λ l. refl) y t xs (omega (arith, least, longer (grows m))) (omega (arith, most, longer (outcome_grows u))) (unsuccessful_follows (begins_with_the (tokens.Word words.Procedure) p) u)
        (front_front (outcome_grows u) front) like s))
        (λ t like. outcome_stands words.Unsuccessful refl (λ l. refl) y t xs (omega (arith, least, longer (grows m), longer (outcome_grows s))) most (begins_with_the (tokens.Word words.Procedure) p) front like u)))
        (λ t. flat (tokens.Word words.Procedure) refl t (t ∷ y ∷ y ∷ xs) (at_level t) p and flat (tokens.Word words.Code) refl t (t ∷ y ∷ y ∷ xs) (at_level t) d and
        number_flat (pos code) t (y ∷ y ∷ xs) n and flat (tokens.Word words.Criticality) refl t (t ∷ y ∷ y ∷ xs) (at_level t) e and criticality_flat t (y ∷ y ∷ xs) k);
    closes = z;
  }

  rows_stand : {R : Type 0} (Row : List Node → List Placed → R → List Node → List Placed → Type 0) (y : ℕ) (xs : List ℕ)
      → ((nodes all : List Node) (row : R) (ts rest : List Placed) → lo ≤ length nodes → length all ≤ hi → IsFront all whole → Row nodes ts row all rest
      → ARow whole lo hi (length nodes) (length all) y (y ∷ y ∷ xs) (y ∷ y ∷ xs) ts rest)
      → ((nodes all : List Node) (row : R) (ts rest : List Placed) → Row nodes ts row all rest → IsFront nodes all)
      → {nodes all : List Node} {rows : List R} {ts rest : List Placed} → lo ≤ length nodes → length all ≤ hi → IsFront all whole → Rows Row nodes ts rows all rest
      → Stood whole (InRange lo hi) (length nodes) (length all) y [] (y ∷ y ∷ xs) xs ts rest
  rows_stand Row y xs each grow least most front (last r a b c) =
      let row = each _ _ _ _ _ least most front r in
      flat_closes whole row.stands (λ t. end_flat t y (y ∷ xs) row.closes and comma_flat y y xs a and dots_flat y (y ∷ xs) b and end_flat y y xs c)
  rows_stand Row y xs each grow least most front (more r a k) =
      let row = each _ _ _ _ _ least (omega (arith, most, longer (rows_grow Row grow k))) (front_front (rows_grow Row grow k) front) r in
      stood_both whole row.stands
      (λ t like. behind_flat whole (end_flat t y (y ∷ xs) row.closes and flat (tokens.Sign signs.Bar) refl y (y ∷ y ∷ xs) (at_level y) a)
      (rows_stand Row y xs each grow (omega (arith, least, longer (grow _ _ _ _ _ r))) most front k))

-- what a name stands for
pub body_stands : (whole : List Node) {nodes all : List Node} {body : Body} {ts rest : List Placed} → given_kind rest ≡ None → IsFront all whole → MeansBody nodes ts body all rest
    → Stood whole (InRange (length nodes) (length all)) (length nodes) (length all) 0 [] (0 ∷ []) [] ts rest
body_stands whole {nodes} {all} follows front (a_type a m) =
    behind_flat whole (flat (tokens.Sign signs.Assignment) refl 0 (0 ∷ []) (at_level 0) a)
    (type_in whole (length nodes) (length all) 0 [] (at_level (length nodes)) (at_level (length all)) follows front m)
body_stands whole {nodes} {all} follows front (ie_set a b c r) =
    behind_flat whole
    (flat (tokens.Word words.ProtocolIes) refl 0 (0 ∷ []) (at_level 0) a and flat (tokens.Sign signs.Assignment) refl 0 (0 ∷ []) (at_level 0) b and brace_flat 0 [] c)
    (rows_stand whole (length nodes) (length all) AnIe 0 [] (λ ns ms row ts rest least most fr h. ie_stands whole (length nodes) (length all) 0 [] least most fr h)
    (λ ns ms row ts rest h. ie_grows h) (at_level (length nodes)) (at_level (length all)) front r)
body_stands whole {nodes} {all} follows front (procedure_set a b c r) =
    behind_flat whole
    (flat (tokens.Word words.ElementaryProcedure) refl 0 (0 ∷ []) (at_level 0) a and flat (tokens.Sign signs.Assignment) refl 0 (0 ∷ []) (at_level 0) b and brace_flat 0 [] c)
    (rows_stand whole (length nodes) (length all) AProcedure 0 [] (λ ns ms row ts rest least most fr h. procedure_stands whole (length nodes) (length all) 0 [] least most fr h)
    (λ ns ms row ts rest h. procedure_grows h) (at_level (length nodes)) (at_level (length all)) front r)
