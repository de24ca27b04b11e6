-- A text is one module's, or has one first wrong item, and never both.
use mathlib.Core.List.{reverse_aux}
use Rattle.std.proofs.lemmas.List.{append_assoc, append-nil}
use Rattle.std.proofs.Common.{◌≡◌, ℕ, List, [], ◌∷◌, ◌++◌, reverse, refl, sym, ap, ◌∙◌, subst}
use Rattle.gnb_types.proofs.Choices.{clash}
use Rattle.asn1_tokens.specs.declared.token.Token.{Token}
use Rattle.asn1_tokens.specs.Stream.{Placed}
use Rattle.asn1_syntax.specs.declared.types.fault.ModuleReason.{ModuleReason}
use Rattle.asn1_syntax.specs.declared.types.fault.Fault.{Fault}
use Rattle.asn1_syntax.specs.declared.assignments.assignment.Syntax.{Syntax}
use Rattle.asn1_defs.specs.Spelling.{tokens_of, IsModuleText, IsOpen, GoesOn}
use Rattle.asn1_defs.specs.ItemFaults.{IsAllowed, AreAllowed}
use Rattle.asn1_defs.specs.Items.{AreItems}
use Rattle.proof_asn1.proofs.lexical.Streams.{items_scanned}
use Rattle.asn1_defs.specs.Texts.{IsTextOf, IsWrong, not_open, bounds, twice, IsFirstWrong}
use Rattle.proof_asn1.proofs.reading.Splits.{Apart, same, earlier, later, compare}
use Rattle.proof_asn1.proofs.reading.Alone.{alone}

tokens_apart : (f : List Placed) (p : Placed) (mid : List Placed) → tokens_of (f ++ p ∷ mid) ≡ tokens_of f ++ p.token ∷ tokens_of mid
tokens_apart [] p mid = refl
tokens_apart (x ∷ f) p mid = ap (λ (l : List Token). x.token ∷ l) (tokens_apart f p mid)

-- each of allowed items is allowed
allowed_there : (before f : List Token) (t : Token) (mid behind : List Token) → AreAllowed before (f ++ t ∷ mid) behind → IsAllowed (reverse_aux f before) t (mid ++ behind)
allowed_there before [] t mid behind allowed = allowed.0
allowed_there before (x ∷ f) t mid behind allowed = allowed_there (x ∷ before) f t mid behind allowed.1

open_front : (f : List Token) (t : Token) (mid : List Token) → IsOpen (f ++ t ∷ mid) → IsOpen (f ++ t ∷ [])
open_front f t mid (more, spelled) = (mid ++ more, subst IsModuleText (append_assoc f (t ∷ mid) more ∙ sym (append_assoc f (t ∷ []) (mid ++ more))) spelled)

goes_open : (f : List Token) → GoesOn f → IsOpen f
goes_open f (t, (more, spelled)) = (t ∷ more, subst IsModuleText (append_assoc f (t ∷ []) more) spelled)

goes_before : {f : List Token} {t : Token} {behind : List Token} {r : ModuleReason} → IsWrong f t behind r → GoesOn f
goes_before (not_open on not) = on
goes_before {t = t} (bounds is_open h) = (t, is_open)
goes_before {t = t} (twice is_open h g) = (t, is_open)

-- an item that is allowed, and with which a module goes on, isn't wrong
allowed_not_wrong : {f : List Token} {t : Token} {behind : List Token} {r : ModuleReason} → IsAllowed (reverse f) t behind → IsOpen (f ++ t ∷ []) → IsWrong f t behind r → ⊥
allowed_not_wrong allowed is_open (not_open on not) = not is_open
allowed_not_wrong allowed is_open (bounds o h) = clash _ h allowed.within
allowed_not_wrong allowed is_open (twice o h g) = clash _ g allowed.new

not_inside : (f : List Token) (t : Token) (mid behind : List Token) (r : ModuleReason) → AreAllowed [] (f ++ t ∷ mid) behind → IsOpen (f ++ t ∷ mid) → IsWrong f t (mid ++ behind) r → ⊥
not_inside f t mid behind r allowed is_open wrong = allowed_not_wrong (allowed_there [] f t mid behind allowed) (open_front f t mid is_open) wrong

-- a text has one list of items
pub one_items : {total : ℕ} {text : List ℕ} {a b : List Placed} → AreItems total text a → AreItems total text b → a ≡ b
one_items x y = items_scanned x ∙ sym (items_scanned y)

-- ---- one first wrong item

-- the item of one isn't before that of the other
not_before : (text : List ℕ) (f g : Fault) (w : IsFirstWrong text f) (v : IsFirstWrong text g) (mid : List Placed) → v.front ≡ w.front ++ w.item ∷ mid → w.rest ≡ mid ++ v.item ∷ v.rest → ⊥
not_before text f g w v mid fronts rests =
    not_inside (tokens_of w.front) w.item.token (tokens_of mid) (v.item.token ∷ tokens_of v.rest) f.reason
    (subst (λ (l : List Token). AreAllowed [] l (v.item.token ∷ tokens_of v.rest)) front v.allowed)
    (goes_open _ (subst GoesOn front (goes_before v.wrong)))
    (subst (λ (l : List Token). IsWrong (tokens_of w.front) w.item.token l f.reason) (ap tokens_of rests ∙ tokens_apart mid v.item v.rest) w.wrong)
  where
    front : tokens_of v.front ≡ tokens_of w.front ++ w.item.token ∷ tokens_of mid
    front = ap tokens_of fronts ∙ tokens_apart w.front w.item mid

reason_one : {f : List Token} {t : Token} {behind : List Token} {r s : ModuleReason} → IsWrong f t behind r → IsWrong f t behind s → r ≡ s
reason_one (not_open on not) (not_open off nor) = refl
reason_one (not_open on not) (bounds o h) = absurd (not o)
reason_one (not_open on not) (twice o h g) = absurd (not o)
reason_one (bounds o h) (not_open on not) = absurd (not o)
reason_one (bounds o h) (bounds p g) = refl
reason_one (bounds o h) (twice p g k) = absurd (clash _ h g)
reason_one (twice o h g) (not_open on not) = absurd (not o)
reason_one (twice o h g) (bounds p k) = absurd (clash _ k h)
reason_one (twice o h g) (twice p k j) = refl

fault_same : (f g : Fault) → f.place ≡ g.place → f.reason ≡ g.reason → f ≡ g
fault_same f g a b = ap (λ (n : ℕ). record { place = n; reason = f.reason }) a ∙ ap (λ (r : ModuleReason). record { place = g.place; reason = r }) b

same_fault : (text : List ℕ) (f g : Fault) (w : IsFirstWrong text f) (v : IsFirstWrong text g) → w.front ≡ v.front → w.item ≡ v.item → w.rest ≡ v.rest → f ≡ g
same_fault text f g w v fronts items rests = fault_same f g (w.at ∙ ap (λ (p : Placed). p.place.start) items ∙ sym v.at)
    (reason_one
    (subst (λ (l : List Placed). IsWrong (tokens_of l) v.item.token (tokens_of v.rest) f.reason) fronts
    (subst (λ (p : Placed). IsWrong (tokens_of w.front) p.token (tokens_of v.rest) f.reason) items
    (subst (λ (r : List Placed). IsWrong (tokens_of w.front) w.item.token (tokens_of r) f.reason) rests w.wrong)))
    v.wrong)

pub one_wrong : (text : List ℕ) (f g : Fault) → IsFirstWrong text f → IsFirstWrong text g → f ≡ g
one_wrong text f g w v = go (compare w.front w.item w.rest v.front v.item v.rest (one_items w.items v.items))
  where
    go : Apart w.front w.item w.rest v.front v.item v.rest → f ≡ g
    go (same a b c) = same_fault text f g w v a b c
    go (earlier mid a b) = absurd (not_before text f g w v mid a b)
    go (later mid a b) = absurd (not_before text g f v w mid a b)

-- ---- no wrong item in a module's text

abbrev whole : {text : List ℕ} {m : Syntax} → IsTextOf text m → List Token
whole t = tokens_of t.front ++ t.last.token ∷ []

is_opened : {text : List ℕ} {m : Syntax} (t : IsTextOf text m) → IsOpen (whole t)
is_opened t = ([], subst IsModuleText (sym (append-nil (whole t))) t.spelled)

-- a wrong item isn't in a module's text
not_within : (text : List ℕ) (m : Syntax) (f : Fault) (t : IsTextOf text m) (w : IsFirstWrong text f) (mid : List Token) → whole t ≡ tokens_of w.front ++ w.item.token ∷ mid → tokens_of w.rest ≡ mid ++ tokens_of t.rest → ⊥
not_within text m f t w mid front rest =
    not_inside (tokens_of w.front) w.item.token mid (tokens_of t.rest) f.reason
    (subst (λ (l : List Token). AreAllowed [] l (tokens_of t.rest)) front t.allowed)
    (subst IsOpen front (is_opened t))
    (subst (λ (l : List Token). IsWrong (tokens_of w.front) w.item.token l f.reason) rest w.wrong)

-- nor behind it
not_behind : (text : List ℕ) (m : Syntax) (f : Fault) (t : IsTextOf text m) (w : IsFirstWrong text f) (mid : List Placed) → w.front ≡ t.front ++ t.last ∷ mid → ⊥
not_behind text m f t w mid front = go (tokens_of mid) (subst GoesOn (ap tokens_of front ∙ tokens_apart t.front t.last mid) (goes_before w.wrong))
  where
    onward : (x : Token) (xs : List Token) → IsModuleText (tokens_of t.front ++ t.last.token ∷ x ∷ xs) → ⊥
    onward x xs spelled = alone (whole t) x xs t.spelled (subst IsModuleText (sym (append_assoc (tokens_of t.front) (t.last.token ∷ []) (x ∷ xs))) spelled)

    go : (l : List Token) → GoesOn (tokens_of t.front ++ t.last.token ∷ l) → ⊥
    go [] (x, (more, spelled)) = onward x more (subst IsModuleText (append_assoc (tokens_of t.front ++ t.last.token ∷ []) (x ∷ []) more ∙ append_assoc (tokens_of t.front) (t.last.token ∷ []) (x ∷ more)) spelled)
    go (y ∷ ys) (x, (more, spelled)) = onward y (ys ++ x ∷ more) (subst IsModuleText (append_assoc (tokens_of t.front ++ t.last.token ∷ y ∷ ys) (x ∷ []) more ∙ append_assoc (tokens_of t.front) (t.last.token ∷ y ∷ ys) (x ∷ more)) spelled)

pub not_both : (text : List ℕ) (m : Syntax) (f : Fault) → IsTextOf text m → IsFirstWrong text f → ⊥
not_both text m f t w = go (compare w.front w.item w.rest t.front t.last t.rest (one_items w.items t.items))
  where
    go : Apart w.front w.item w.rest t.front t.last t.rest → ⊥
    go (same a b c) = not_within text m f t w [] (ap (λ (l : List Placed). tokens_of l ++ t.last.token ∷ []) (sym a) ∙ ap (λ (p : Placed). tokens_of w.front ++ p.token ∷ []) (sym b)) (ap tokens_of c)
    go (earlier mid a b) = not_within text m f t w (tokens_of mid ++ t.last.token ∷ [])
        (ap (λ (l : List Token). l ++ t.last.token ∷ []) (ap tokens_of a ∙ tokens_apart w.front w.item mid) ∙ append_assoc (tokens_of w.front) (w.item.token ∷ tokens_of mid) (t.last.token ∷ []))
        (ap tokens_of b ∙ tokens_apart mid t.last t.rest ∙ sym (append_assoc (tokens_of mid) (t.last.token ∷ []) (tokens_of t.rest)))
    go (later mid a b) = not_behind text m f t w mid a
