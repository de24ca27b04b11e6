-- Members of objects, names among names, and bits.
use Rattle.std.proofs.Common.{◌≡◌, ℕ, suc, ◌+◌, ◌<◌, ◌≤◌, List, [], ◌∷◌, ◌++◌, length, drop, get_or, Bool, true, false, cond, Option, Some, None, is_some, refl, sym, ap, subst, ◌∙◌, append_assoc}
use Rattle.std.proofs.lemmas.List.{drop_all, drop_more, append-nil}
use Rattle.std.specs.Str.{IsUtf8}
use Rattle.std.proofs.lemmas.Str.{IsUtf8-string_bytes}
use Rattle.asn1_syntax.specs.declared.types.definition.Component.{Component}
use Rattle.serde_json.specs.Find.{get_member}
use Rattle.serde_json.specs.View.{members_view}
use Rattle.serde_json.proofs.Views.{Entry, member_later}
use Rattle.json_defs.specs.Named.{Named}
use Rattle.json_defs.specs.Members.{Text, bit_of, bit_before, read_bits, same_text, place_in, is_among}
use Rattle.json_defs.specs.Shown.{names_of}
use Rattle.json_defs.specs.type_defs.Types.{parts_with}

-- a name that isn't UTF-8 is no member's
pub none_named : (name : List ℕ) (es : List Entry) → (IsUtf8 name → ⊥) → None ≡ get_member name (members_view es)
none_named name [] h = refl
none_named name (e ∷ es) h =
    none_named name es h
    ∙ sym (member_later name e es (λ same. h (subst IsUtf8 (sym same) (IsUtf8-string_bytes e.0))))

-- ---- bits
-- those before others
abbrev pub bits_then : List Bool → Option (List Bool) → Option (List Bool)
bits_then bits None = None
bits_then bits (Some more) = Some (bits ++ more)

pub bits_none : (o : Option (List Bool)) → bits_then [] o ≡ o
bits_none None = refl
bits_none (Some bits) = refl

bits_step : (bits : List Bool) (bit : Bool) (o : Option (List Bool)) → bits_then bits (bit_before (Some bit) o) ≡ bits_then (bits ++ bit ∷ []) o
bits_step bits bit None = refl
bits_step bits bit (Some more) = ap Some (sym (append_assoc bits (bit ∷ []) more))

pub bits_turn : (text : List ℕ) (i d : ℕ) (bit : Bool) (bits : List Bool) → i < length text → Some bit ≡ bit_of (get_or text i d)
    → bits_then (bits ++ bit ∷ []) (read_bits (drop (i + 1) text)) ≡ bits_then bits (read_bits (drop i text))
bits_turn text i d bit bits lt read =
    sym (ap (λ (cs : List ℕ). bits_then bits (read_bits cs)) (drop_more text i d lt)
    ∙ ap (λ (o : Option Bool). bits_then bits (bit_before o (read_bits (drop (i + 1) text)))) (sym read)
    ∙ bits_step bits bit (read_bits (drop (i + 1) text)))

pub bits_stop : (text : List ℕ) (i d : ℕ) (bits : List Bool) → i < length text → None ≡ bit_of (get_or text i d)
    → None ≡ bits_then bits (read_bits (drop i text))
bits_stop text i d bits lt read =
    sym (ap (λ (cs : List ℕ). bits_then bits (read_bits cs)) (drop_more text i d lt)
    ∙ ap (λ (o : Option Bool). bits_then bits (bit_before o (read_bits (drop (i + 1) text)))) (sym read))

pub bits_end : (text : List ℕ) (i : ℕ) (bits : List Bool) → length text ≤ i → Some bits ≡ bits_then bits (read_bits (drop i text))
bits_end text i bits most =
    ap Some (sym (append-nil bits)) ∙ sym (ap (λ (cs : List ℕ). bits_then bits (read_bits cs)) (drop_all i text most))

-- ---- names
among_at : (b : Bool) (i j : ℕ) (x y : Option ℕ) → is_some x ≡ is_some y → is_some (cond b (Some i) x) ≡ is_some (cond b (Some j) y)
among_at true i j x y e = refl
among_at false i j x y e = e

among_from : (names : List Text) (name : Text) (i j : ℕ) → is_some (place_in names name i) ≡ is_some (place_in names name j)
among_from [] name i j = refl
among_from (n ∷ names) name i j =
    among_at (same_text n name) i j (place_in names name (suc i)) (place_in names name (suc j)) (among_from names name (suc i) (suc j))

pub among_here : (n name : Text) (names : List Text) → same_text n name ≡ true → true ≡ is_among (n ∷ names) name
among_here n name names h = sym (ap (λ (b : Bool). is_some (cond b (Some 0) (place_in names name 1))) h)

pub among_others : (n name : Text) (names : List Text) → same_text n name ≡ false → is_among names name ≡ is_among (n ∷ names) name
among_others n name names h =
    among_from names name 0 1 ∙ sym (ap (λ (b : Bool). is_some (cond b (Some 0) (place_in names name 1))) h)

pub parts_turn : (of : ℕ → Named) (parts : List Component) (i : ℕ) (q : Component) (name : Text) → i < length parts → q ≡ get_or parts i q
    → same_text q.name name ≡ false
    → is_among (names_of (parts_with of (drop (i + 1) parts))) name ≡ is_among (names_of (parts_with of (drop i parts))) name
parts_turn of parts i q name lt is other =
    let item : drop i parts ≡ q ∷ drop (i + 1) parts = drop_more parts i q lt ∙ ap (λ (c : Component). c ∷ drop (i + 1) parts) (sym is) in
    among_others q.name name (names_of (parts_with of (drop (i + 1) parts))) other
    ∙ ap (λ (cs : List Component). is_among (names_of (parts_with of cs)) name) (sym item)

pub parts_found : (of : ℕ → Named) (parts : List Component) (i : ℕ) (q : Component) (name : Text) → i < length parts → q ≡ get_or parts i q
    → same_text q.name name ≡ true → true ≡ is_among (names_of (parts_with of (drop i parts))) name
parts_found of parts i q name lt is same =
    let item : drop i parts ≡ q ∷ drop (i + 1) parts = drop_more parts i q lt ∙ ap (λ (c : Component). c ∷ drop (i + 1) parts) (sym is) in
    among_here q.name name (names_of (parts_with of (drop (i + 1) parts))) same
    ∙ ap (λ (cs : List Component). is_among (names_of (parts_with of cs)) name) (sym item)
