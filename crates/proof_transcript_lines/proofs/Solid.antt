-- Words of characters above the blank: a line that is made of them has these words, and no LF.
use Rattle.std.proofs.Common.{◌≡◌, ℕ, ◌<◌, ◌≤◌, ◌^◌, Bool, true, false, cond, not, List, [], ◌∷◌, ◌++◌, refl, ap, ◌∙◌, sym, subst, arith, nat_eq, nat_lt, codes}
use Rattle.std.specs.Char.{is_ascii_digit}
use Rattle.std.specs.Fmt.{decimal}
use Rattle.std.specs.List.{list_all, slice_split, onto_first, join_with_byte}
use Rattle.std.proofs.lemmas.Bool.Decides.{nat_tests}
use Rattle.std.proofs.lemmas.List.Folds.{list_all-append}
use Rattle.std.proofs.lemmas.List.Splits.{slice_split-cons_no}
use Rattle.std.proofs.lemmas.Fmt.{decimal_is_IsNumeral}
use Rattle.gnb_types.specs.Hex.{IsDigitOf, IsHexOf}
use Rattle.gnb_types.specs.Names.{node_text, dir_text}
use Rattle.gnb_types.specs.declared.names.Gnb.TheVariants.{A, B}
use Rattle.gnb_types.specs.declared.names.Dir.{Dir}
use Rattle.gnb_types.specs.declared.names.Dir.TheVariants.{Dl, Ul}
use Rattle.gnb_types.specs.declared.names.SnBits.TheVariants.{Len12, Len18}
use Rattle.gnb_types.specs.declared.names.NodeId.{NodeId}
use Rattle.gnb_types.specs.declared.names.NodeId.TheVariants.{CuCp, CuUp, Du, Core, Ue}
use Rattle.scenario_text.specs.script_words.Ranges.{IsNode}
use Rattle.scenario_text.specs.script_words.Places.{Place, AtUe, AtBearer, AtGnb, AtNode, AtDir, AtNumber, AtSnBits, AtMessage, AtTunnel, AtHex, Meaning, InPlace, IsWordOf, Values, InPlaces, AreWordsOf}
use Rattle.scenario_text.proofs.script_words.NumberLemmas.{own}
use Rattle.scenario_text.proofs.script_words.FormLaws.{and_true}
use Rattle.scenario_text.proofs.script_words.PlaceLaws.{IsEventPlace, AreEventPlaces}

abbrev pub Solid : List ℕ → Type 0
Solid word = list_all (λ x. nat_lt 32 x) word ≡ true

pub solid-append : (a b : List ℕ) → Solid a → Solid b → Solid (a ++ b)
solid-append a b h k = list_all-append (λ x. nat_lt 32 x) a b ∙ (rw (h, k) refl)

solid-digits : (word : List ℕ) → list_all is_ascii_digit word ≡ true → Solid word
solid-digits [] h = refl
solid-digits (x ∷ xs) h =
    let both = and_true (is_ascii_digit x) (list_all is_ascii_digit xs) h in
    rw (above x both.0, solid-digits xs both.1) refl
  where
    above : (y : ℕ) → is_ascii_digit y ≡ true → nat_lt 32 y ≡ true
    above y e = grind (arith, nat_tests)

pub solid-decimal : (n : ℕ) → n < 2 ^ 64 → Solid (decimal n)
solid-decimal n fits = solid-digits (decimal n) (own.from (decimal n) (decimal_is_IsNumeral n fits).0.1)

pub solid-hex : (text packet : List ℕ) → IsHexOf text packet → Solid text
solid-hex [] packet h = refl
solid-hex (a ∷ []) packet h = absurd h
solid-hex (a ∷ b ∷ text) [] h = absurd h
solid-hex (a ∷ b ∷ text) (byte ∷ packet) (high, low, ha, hb, e, rest) =
    rw (above a high ha, above b low hb, solid-hex text packet rest) refl
  where
    above : (c n : ℕ) → IsDigitOf c n → nat_lt 32 c ≡ true
    above c n d = grind (arith, nat_tests)

pub solid-node : (n : NodeId) → IsNode n → Solid (node_text n)
solid-node (CuCp A) h = refl
solid-node (CuCp B) h = refl
solid-node (CuUp A k) h = solid-decimal k (omega (arith, h.to))
solid-node (CuUp B k) h = solid-decimal k (omega (arith, h.to))
solid-node (Du A k) h = solid-decimal k (omega (arith, h.to))
solid-node (Du B k) h = solid-decimal k (omega (arith, h.to))
solid-node Core h = refl
solid-node (Ue k) h = solid-decimal k (omega (arith, h.to))

pub solid-dir : (d : Dir) → Solid (dir_text d)
solid-dir Dl = refl
solid-dir Ul = refl

pub solid-place : (p : Place) → IsEventPlace p → (word : List ℕ) (x : Meaning p) → IsWordOf p word x → InPlace p x → Solid word
solid-place AtUe k word x e range = subst Solid (sym e) (solid-decimal x.0 (omega (arith, range.to)))
solid-place AtBearer k word x e range = subst Solid (sym e) (solid-decimal x.0 (omega (arith, range.to)))
solid-place AtGnb k word A e range = subst Solid (sym e) refl
solid-place AtGnb k word B e range = subst Solid (sym e) refl
solid-place AtNode k word x e range = subst Solid (sym e) (solid-node x range)
solid-place AtDir k word x e range = subst Solid (sym e) (solid-dir x)
solid-place (AtNumber low high) k word x e range = subst Solid (sym e) (solid-decimal x (omega (arith, range.to, k.1)))
solid-place AtSnBits k word Len12 e range = subst Solid (sym e) refl
solid-place AtSnBits k word Len18 e range = subst Solid (sym e) refl
solid-place AtMessage k word x e range = subst Solid (sym e) (solid-decimal x (omega (arith, range.to)))
solid-place AtTunnel k word x e range =
    subst Solid (sym e) (solid-append (node_text x.0 ++ codes "/") (decimal x.1) (solid-append (node_text x.0) (codes "/") (solid-node x.0 range.0) refl) (solid-decimal x.1 (omega (arith, range.1.to))))
solid-place AtHex k word x e range = solid-hex word x e

abbrev pub AllSolid : List (List ℕ) → Type 0
AllSolid [] = Unit {0}
AllSolid (word ∷ rest) = Solid word × AllSolid rest

pub solid-places : (places : List Place) → AreEventPlaces places → (left : List (List ℕ)) (values : Values places)
    → AreWordsOf places left values → InPlaces places values → AllSolid left
solid-places [] k [] values stand range = tt
solid-places [] k (word ∷ rest) values stand range = absurd stand
solid-places (p ∷ places) k [] values stand range = absurd stand
solid-places (p ∷ places) k (word ∷ rest) values stand range =
    (solid-place p k.0 word values.0 stand.0 range.0, solid-places places k.1 rest values.1 stand.1 range.1)

-- ---- parts

-- a text without this byte
abbrev pub Without : ℕ → List ℕ → Type 0
Without c text = list_all (λ x. not (nat_eq x c)) text ≡ true

not_true : (b : Bool) → not b ≡ true → b ≡ false
not_true true h = absurd (cc)
not_true false h = refl

pub parts_then : (c : ℕ) (word rest : List ℕ) → Without c word
    → slice_split (λ x. nat_eq x c) (word ++ c ∷ rest) ≡ word ∷ slice_split (λ x. nat_eq x c) rest
parts_then c [] rest h = by_head (nat_eq c c) (eqb_self c)
  where
    eqb_self : (n : ℕ) → nat_eq n n ≡ true
    eqb_self n = grind (arith, nat_tests)

    by_head : (b : Bool) → b ≡ true
        → cond b ([] ∷ slice_split (λ x. nat_eq x c) rest) (onto_first c (slice_split (λ x. nat_eq x c) rest)) ≡ [] ∷ slice_split (λ x. nat_eq x c) rest
    by_head true e = refl
    by_head false e = absurd (cc)
parts_then c (x ∷ xs) rest h =
    let both = and_true (not (nat_eq x c)) (list_all (λ y. not (nat_eq y c)) xs) h in
    slice_split-cons_no (λ y. nat_eq y c) x (xs ++ c ∷ rest) (not_true (nat_eq x c) both.0) ∙ ap (onto_first x) (parts_then c xs rest both.1)

pub parts_one : (c : ℕ) (word : List ℕ) → Without c word → slice_split (λ x. nat_eq x c) word ≡ word ∷ []
parts_one c [] h = refl
parts_one c (x ∷ xs) h =
    let both = and_true (not (nat_eq x c)) (list_all (λ y. not (nat_eq y c)) xs) h in
    slice_split-cons_no (λ y. nat_eq y c) x xs (not_true (nat_eq x c) both.0) ∙ ap (onto_first x) (parts_one c xs both.1)

-- characters above the blank are not this one, up to the blank
pub solid_without : (c : ℕ) (word : List ℕ) → c ≤ 32 → Solid word → Without c word
solid_without c [] small h = refl
solid_without c (x ∷ xs) small h =
    let both = and_true (nat_lt 32 x) (list_all (λ y. nat_lt 32 y) xs) h in
    rw (other x both.0, solid_without c xs small both.1) refl
  where
    other : (y : ℕ) → nat_lt 32 y ≡ true → nat_eq y c ≡ false
    other y e = grind (arith, nat_tests)

-- the words of a line of such words, and that it has no LF
pub solid_words : (word : List ℕ) (rest : List (List ℕ)) → Solid word → AllSolid rest
    → slice_split (λ x. nat_eq x 32) (join_with_byte 32 (word ∷ rest)) ≡ word ∷ rest
solid_words word [] h k = parts_one 32 word (solid_without 32 word (omega arith) h)
solid_words word (next ∷ rest) h k =
    parts_then 32 word (join_with_byte 32 (next ∷ rest)) (solid_without 32 word (omega arith) h) ∙ ap (λ ws. word ∷ ws) (solid_words next rest k.0 k.1)

pub solid_line : (word : List ℕ) (rest : List (List ℕ)) → Solid word → AllSolid rest → Without 10 (join_with_byte 32 (word ∷ rest))
solid_line word [] h k = solid_without 10 word (omega arith) h
solid_line word (next ∷ rest) h k =
    list_all-append (λ x. not (nat_eq x 10)) word (32 ∷ join_with_byte 32 (next ∷ rest)) ∙ rw (solid_without 10 word (omega arith) h, solid_line next rest k.0 k.1) refl
