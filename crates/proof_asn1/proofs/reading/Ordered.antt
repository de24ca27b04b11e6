-- A text's items stand one behind another, so each is known by its place.
use Rattle.std.proofs.Common.{◌≡◌, ℕ, zero, suc, ◌-◌, ◌≤◌, ◌<◌, List, [], ◌∷◌, ◌++◌, length, Bool, true, false, cond, refl, sym, ◌∙◌, subst, arith}
use Rattle.asn1_tokens.specs.declared.scan.Gap.TheVariants.{Between}
use Rattle.asn1_tokens.specs.Scan.{after_gap, lexeme_at}
use Rattle.asn1_tokens.specs.Stream.{Placed, placed, is_last, scan, items_of}
use Rattle.asn1_tokens.proofs.StreamLemmas.{after_gap-le, lexeme-takes, rest-shorter}
use Rattle.proof_asn1.proofs.reading.Splits.{Apart, same, earlier, later, compare}

-- Each item begins at this octet at the least, or where the one before ends, and takes an octet, if it isn't the last.
pub data Ordered : ℕ → List Placed → Type 0 where
  none : {least : ℕ} → Ordered least []
  some : {least : ℕ} {p : Placed} {ps : List Placed} → least ≤ p.place.start → (is_last p.token ≡ false → p.place.start < p.place.end) → (0 < length ps → is_last p.token ≡ false) → Ordered p.place.end ps → Ordered least (p ∷ ps)

scan-ordered : (total fuel : ℕ) (text : List ℕ) → length text ≤ total → Ordered (total - length text) (scan total fuel text)
unfolding scan
scan-ordered total zero text le = none
scan-ordered total (suc fuel) text le = go (is_last (lexeme_at (after_gap Between text)).token) refl (λ f. scan-ordered total fuel (lexeme_at (after_gap Between text)).rest (omega (arith, le, rest-shorter text f)))
  where
    never : (P : Type 0) → 0 < 0 → P
    never P h = absurd (omega (arith, h))

    go : (b : Bool) → is_last (lexeme_at (after_gap Between text)).token ≡ b → (is_last (lexeme_at (after_gap Between text)).token ≡ false → Ordered (total - length (lexeme_at (after_gap Between text)).rest) (scan total fuel (lexeme_at (after_gap Between text)).rest)) → Ordered (total - length text) (placed total (after_gap Between text) (lexeme_at (after_gap Between text)) ∷ cond b [] (scan total fuel (lexeme_at (after_gap Between text)).rest))
    go true e on = some (omega (arith, after_gap-le Between text)) (λ f. absurd (clash f)) (λ h. never _ h) none
      where
        clash : is_last (lexeme_at (after_gap Between text)).token ≡ false → ⊥
        clash f = cc
    go false e on = some (omega (arith, after_gap-le Between text)) (λ f. omega (arith, le, after_gap-le Between text, (lexeme-takes (after_gap Between text)).1 e)) (λ h. e) (on e)

pub items-ordered : (text : List ℕ) → Ordered 0 (items_of text)
items-ordered text = subst (λ n. Ordered n (items_of text)) (omega arith) (scan-ordered (length text) (suc (length text)) text (omega arith))

longer : (f : List Placed) (p : Placed) (r : List Placed) → 0 < length (f ++ p ∷ r)
longer [] p r = omega arith
longer (x ∷ f) p r = omega (arith, longer f p r)

-- an item of a list stands behind its least place
behind_least : {least : ℕ} (f : List Placed) (p : Placed) (r : List Placed) → Ordered least (f ++ p ∷ r) → least ≤ p.place.start
behind_least [] p r (some le takes more_than_last rest) = le
behind_least (x ∷ f) p r (some le takes more_than_last rest) = omega (arith, le, takes (more_than_last (longer f p r)), behind_least f p r rest)

-- an item ends where a later one begins, or before
pub ends_before : {least : ℕ} (f : List Placed) (p : Placed) (mid : List Placed) (q : Placed) (s : List Placed) → Ordered least (f ++ p ∷ (mid ++ q ∷ s)) → (p.place.start < p.place.end) × (p.place.end ≤ q.place.start)
ends_before [] p mid q s (some le takes more_than_last rest) = (takes (more_than_last (longer mid q s)), behind_least mid q s rest)
ends_before (x ∷ f) p mid q s (some le takes more_than_last rest) = ends_before f p mid q s rest

-- an item that isn't the last takes an octet
pub takes_some : {least : ℕ} (f : List Placed) (p : Placed) (r : List Placed) → Ordered least (f ++ p ∷ r) → is_last p.token ≡ false → p.place.start < p.place.end
takes_some [] p r (some le takes more_than_last rest) e = takes e
takes_some (x ∷ f) p r (some le takes more_than_last rest) e = takes_some f p r rest e

-- the same items, taken apart at one item
pub record OneSplit (f : List Placed) (p : Placed) (r : List Placed) (g : List Placed) (q : Placed) (s : List Placed) : Type 0 where
  pub fronts : f ≡ g
  pub items : p ≡ q
  pub rests : r ≡ s

by_order : (f : List Placed) (p : Placed) (r : List Placed) (g : List Placed) (q : Placed) (s : List Placed) → Apart f p r g q s → ((mid : List Placed) → r ≡ mid ++ q ∷ s → ⊥) → ((mid : List Placed) → s ≡ mid ++ p ∷ r → ⊥) → OneSplit f p r g q s
by_order f p r g q s (same a b c) not_earlier not_later = record { fronts = a; items = b; rests = c }
by_order f p r g q s (earlier mid a b) not_earlier not_later = absurd (not_earlier mid b)
by_order f p r g q s (later mid a b) not_earlier not_later = absurd (not_later mid b)

-- an item is known by where it begins
pub by_start : (f : List Placed) (p : Placed) (r : List Placed) (g : List Placed) (q : Placed) (s : List Placed) (items : List Placed) → Ordered 0 items → items ≡ f ++ p ∷ r → items ≡ g ++ q ∷ s → p.place.start ≡ q.place.start → OneSplit f p r g q s
by_start f p r g q s items ordered one two starts = by_order f p r g q s (compare f p r g q s (sym one ∙ two))
    (λ mid e. clash p q starts (ends_before f p mid q s (subst (λ l. Ordered 0 (f ++ p ∷ l)) e (subst (Ordered 0) one ordered))))
    (λ mid e. clash q p (sym starts) (ends_before g q mid p r (subst (λ l. Ordered 0 (g ++ q ∷ l)) e (subst (Ordered 0) two ordered))))
  where
    clash : (x y : Placed) → x.place.start ≡ y.place.start → (x.place.start < x.place.end) × (x.place.end ≤ y.place.start) → ⊥
    clash x y e (lt, le) = omega (arith, e, lt, le)

-- and one that isn't the last by where it ends
pub by_end : (f : List Placed) (p : Placed) (r : List Placed) (g : List Placed) (q : Placed) (s : List Placed) (items : List Placed) → Ordered 0 items → items ≡ f ++ p ∷ r → items ≡ g ++ q ∷ s → is_last p.token ≡ false → is_last q.token ≡ false → p.place.end ≡ q.place.end → OneSplit f p r g q s
by_end f p r g q s items ordered one two p_goes q_goes ends = by_order f p r g q s (compare f p r g q s (sym one ∙ two))
    (λ mid e. clash p q ends (ends_before f p mid q s (subst (λ l. Ordered 0 (f ++ p ∷ l)) e (subst (Ordered 0) one ordered))) (takes_some g q s (subst (Ordered 0) two ordered) q_goes))
    (λ mid e. clash q p (sym ends) (ends_before g q mid p r (subst (λ l. Ordered 0 (g ++ q ∷ l)) e (subst (Ordered 0) two ordered))) (takes_some f p r (subst (Ordered 0) one ordered) p_goes))
  where
    clash : (x y : Placed) → x.place.end ≡ y.place.end → (x.place.start < x.place.end) × (x.place.end ≤ y.place.start) → y.place.start < y.place.end → ⊥
    clash x y e (lt, le) less = omega (arith, e, lt, le, less)
