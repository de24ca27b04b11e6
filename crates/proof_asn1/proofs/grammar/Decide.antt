-- Where an item decides, it decides rightly.
use Rattle.std.proofs.Common.{◌≡◌, ℕ, List, [], ◌∷◌, ◌++◌, Bool, true, false, cond, ◌||◌, ◌&&◌, refl, sym, ap, ◌∙◌, subst, inl, inr, Option, Some, None}
use Rattle.std.specs.Prelude.{◌⊎◌, ◌==◌, not}
use Rattle.std.proofs.lemmas.Bool.{eqb-true}
use Rattle.asn1_tokens.specs.declared.token.Token.{Token}
use Rattle.asn1_defs.specs.Grammar.{Terminal, fits, Part, Symbol, Item, Whole, productions}
use Rattle.asn1_defs.specs.Spelling.{IsOneOf, Spells, item, part}
use Rattle.proof_asn1.proofs.grammar.Predict.{class, is_apart, not_both, is_begun, has_empty, empty_of, pick, chosen, heads, all_apart, avoids, tails, all_avoid, is_clear, is_in, all_in, avoids_within, all_avoid_within, is_clear_within, all_clear, are_told_apart, predictable}

pub and_left : (a b : Bool) → a && b ≡ true → a ≡ true
and_left true b h = refl
and_left false b h = cc

pub and_right : (a b : Bool) → a && b ≡ true → b ≡ true
and_right true b h = h
and_right false b h = cc

and_both : (a b : Bool) → a ≡ true → b ≡ true → a && b ≡ true
and_both true b h g = g
and_both false b h g = cc

-- what an item of the front spells
pub item_spells : {k : Terminal} {t : Token} {symbols : List Symbol} {ts : List Token} → Spells (Item k ∷ symbols) (t ∷ ts) → (fits k t ≡ true) × Spells symbols ts
item_spells (item h rest) = (h, rest)

-- a production that begins with an item
heads_rest : (k : Terminal) (b : List Symbol) (bodies : List (List Symbol)) → all_apart k (heads (b ∷ bodies)) ≡ true → all_apart k (heads bodies) ≡ true
heads_rest k [] bodies h = h
heads_rest k (Item j ∷ b) bodies h = and_right _ _ h
heads_rest k (Whole n ∷ b) bodies h = h

head_apart : (k j : Terminal) (b : List Symbol) (bodies : List (List Symbol)) → all_apart k (heads bodies) ≡ true → IsOneOf (Item j ∷ b) bodies → is_apart k j ≡ true
head_apart k j b [] h one = absurd one
head_apart k j b (c ∷ bodies) h (inl same) = and_left _ _ (subst (λ (d : List Symbol). all_apart k (heads (d ∷ bodies)) ≡ true) same h)
head_apart k j b (c ∷ bodies) h (inr one) = head_apart k j b bodies (heads_rest k c bodies h) one

head_among : (j : Terminal) (b : List Symbol) (bodies : List (List Symbol)) (ends : List Terminal) → all_in (heads bodies) ends ≡ true → IsOneOf (Item j ∷ b) bodies → is_in j ends ≡ true
head_among j b [] ends h one = absurd one
head_among j b (c ∷ bodies) ends h (inl same) = and_left _ _ (subst (λ (d : List Symbol). all_in (heads (d ∷ bodies)) ends ≡ true) same h)
head_among j b (c ∷ bodies) ends h (inr one) = head_among j b bodies ends (rest c h) one
  where
    rest : (d : List Symbol) → all_in (heads (d ∷ bodies)) ends ≡ true → all_in (heads bodies) ends ≡ true
    rest [] h = h
    rest (Item i ∷ d) h = and_right _ _ h
    rest (Whole n ∷ d) h = h

told_rest : (b : List Symbol) (bodies : List (List Symbol)) → are_told_apart (b ∷ bodies) ≡ true → are_told_apart bodies ≡ true
told_rest [] bodies h = h
told_rest (Item j ∷ b) bodies h = and_right _ _ h
told_rest (Whole n ∷ b) bodies h = cc

pub no_part_first : (n : Part) (b : List Symbol) (bodies : List (List Symbol)) → are_told_apart bodies ≡ true → IsOneOf (Whole n ∷ b) bodies → ⊥
no_part_first n b [] h one = absurd one
no_part_first n b (c ∷ bodies) h (inl same) = clash (subst (λ (d : List Symbol). are_told_apart (d ∷ bodies) ≡ true) same h)
  where
    clash : false ≡ true → ⊥
    clash e = cc
no_part_first n b (c ∷ bodies) h (inr one) = no_part_first n b bodies (told_rest c bodies h) one

-- an item picks the production that it begins
picks : (other : Option (List Symbol)) (k : Terminal) (b : List Symbol) (t : Token) (bodies : List (List Symbol)) → are_told_apart bodies ≡ true → IsOneOf (Item k ∷ b) bodies → fits k t ≡ true → pick other bodies t ≡ Some (Item k ∷ b)
picks other k b t [] told one h = absurd one
picks other k b t (c ∷ bodies) told (inl same) h =
    subst (λ (d : List Symbol). pick other (d ∷ bodies) t ≡ Some (Item k ∷ b)) (sym same) (ap (λ (x : Bool). cond x (Some (Item k ∷ b)) (pick other bodies t)) h)
picks other k b t (c ∷ bodies) told (inr one) h = ap (λ (x : Bool). cond x (Some c) (pick other bodies t)) (not_begun c told) ∙ picks other k b t bodies (told_rest c bodies told) one h
  where
    fits_not : (j : Terminal) → is_apart j k ≡ true → (x : Bool) → fits j t ≡ x → fits j t ≡ false
    fits_not j apart true e = absurd (not_both j k t apart e h)
    fits_not j apart false e = e

    not_begun : (d : List Symbol) → are_told_apart (d ∷ bodies) ≡ true → is_begun d t ≡ false
    not_begun [] w = refl
    not_begun (Item j ∷ d) w = fits_not j (head_apart j k b bodies (and_left _ _ w) one) (fits j t) refl
    not_begun (Whole n ∷ d) w = refl

-- the empty production is there
pub empty_told : (bodies : List (List Symbol)) → IsOneOf [] bodies → has_empty bodies ≡ true
empty_told [] one = absurd one
empty_told ([] ∷ bodies) one = refl
empty_told ((s ∷ b) ∷ bodies) (inl same) = cc
empty_told ((s ∷ b) ∷ bodies) (inr one) = empty_told bodies one

pub empty_found : (bodies : List (List Symbol)) → has_empty bodies ≡ true → empty_of bodies ≡ Some []
empty_found [] h = cc
empty_found ([] ∷ bodies) h = refl
empty_found ((s ∷ b) ∷ bodies) h = empty_found bodies h

empty_one : (bodies : List (List Symbol)) (b : List Symbol) → empty_of bodies ≡ Some b → (b ≡ []) × IsOneOf [] bodies
empty_one [] b h = cc
empty_one ([] ∷ bodies) b h = (same h, inl refl)
  where
    same : Some [] ≡ Some b → b ≡ []
    same e = cc
empty_one ((s ∷ c) ∷ bodies) b h = let found = empty_one bodies b h in (found.0, inr found.1)

-- What is picked is one of the productions: one that the item begins, or the empty one.
pub data IsPicked (bodies : List (List Symbol)) (t : Token) : List Symbol → Type 0 where
  by_item : {k : Terminal} {b : List Symbol} → IsOneOf (Item k ∷ b) bodies → fits k t ≡ true → IsPicked bodies t (Item k ∷ b)
  by_none : IsOneOf [] bodies → IsPicked bodies t []

pick_cases : (other : Option (List Symbol)) (t : Token) (b : List Symbol) (bodies : List (List Symbol)) → pick other bodies t ≡ Some b → (other ≡ Some b) ⊎ (IsOneOf b bodies × (is_begun b t ≡ true))
pick_cases other t b [] h = inl h
pick_cases other t b (c ∷ bodies) h = go (λ g. pick_cases other t b bodies g) (is_begun c t) refl h
  where
    some_same : (x y : List Symbol) → Some x ≡ Some y → x ≡ y
    some_same x y e = cc

    further : (other ≡ Some b) ⊎ (IsOneOf b bodies × (is_begun b t ≡ true)) → (other ≡ Some b) ⊎ (IsOneOf b (c ∷ bodies) × (is_begun b t ≡ true))
    further (inl e) = inl e
    further (inr found) = inr (inr found.0, found.1)

    go : (pick other bodies t ≡ Some b → (other ≡ Some b) ⊎ (IsOneOf b bodies × (is_begun b t ≡ true))) → (x : Bool) → is_begun c t ≡ x → cond x (Some c) (pick other bodies t) ≡ Some b → (other ≡ Some b) ⊎ (IsOneOf b (c ∷ bodies) × (is_begun b t ≡ true))
    go on true e g = inr (inl (some_same c b g), subst (λ (d : List Symbol). is_begun d t ≡ true) (some_same c b g) e)
    go on false e g = further (on g)

pub picked : (n : Part) (t : Token) (b : List Symbol) → chosen n t ≡ Some b → IsPicked (productions n) t b
unfolding chosen
picked n t b h = go b (pick_cases (empty_of (productions n)) t b (productions n) h)
  where
    go : (d : List Symbol) → (empty_of (productions n) ≡ Some d) ⊎ (IsOneOf d (productions n) × (is_begun d t ≡ true)) → IsPicked (productions n) t d
    go d (inl e) = subst (IsPicked (productions n) t) (sym (empty_one (productions n) d e).0) (by_none (empty_one (productions n) d e).1)
    go [] (inr found) = by_none found.0
    go (Item k ∷ d) (inr found) = by_item found.0 found.1
    go (Whole m ∷ d) (inr found) = absurd (clash found.1)
      where
        clash : false ≡ true → ⊥
        clash e = cc

-- ---- what these symbols spell doesn't begin so

all_apart_class : (j k : Terminal) → class j ≡ class k → (ks : List Terminal) → all_apart j ks ≡ all_apart k ks
all_apart_class j k same [] = refl
all_apart_class j k same (i ∷ is) = ap (λ (x : Bool). x && all_apart j is) (ap (λ (n : ℕ). not (n == class i)) same) ∙ ap (λ (x : Bool). is_apart k i && x) (all_apart_class j k same is)

avoids_class : (j k : Terminal) → class j ≡ class k → (symbols : List Symbol) → avoids j symbols ≡ avoids k symbols
avoids_class j k same [] = refl
avoids_class j k same (Item i ∷ symbols) = ap (λ (n : ℕ). not (n == class i)) same
avoids_class j k same (Whole n ∷ symbols) =
    ap (λ (x : Bool). x && cond (has_empty (productions n)) (avoids j symbols) true) (all_apart_class j k same (heads (productions n)))
    ∙ ap (λ (x : Bool). all_apart k (heads (productions n)) && cond (has_empty (productions n)) x true) (avoids_class j k same symbols)

avoids_in : (k : Terminal) (ks : List Terminal) (symbols : List Symbol) → is_in k ks ≡ true → all_avoid ks symbols ≡ true → avoids k symbols ≡ true
avoids_in k [] symbols h a = cc
avoids_in k (j ∷ js) symbols h a = go (λ g. avoids_in k js symbols g (and_right _ _ a)) (class k == class j) refl h
  where
    go : (is_in k js ≡ true → avoids k symbols ≡ true) → (x : Bool) → (class k == class j) ≡ x → x || is_in k js ≡ true → avoids k symbols ≡ true
    go on true e g = avoids_class k j (eqb-true (class k) (class j) e) symbols ∙ and_left _ _ a
    go on false e g = on g

when_true : (x y : Bool) → x ≡ true → cond x y true ≡ true → y ≡ true
when_true true y e h = h
when_true false y e h = cc

starts_not : (k : Terminal) (t : Token) {symbols : List Symbol} {ts : List Token} → Spells symbols (t ∷ ts) → fits k t ≡ true → avoids k symbols ≡ true → ⊥
starts_not k t (item {terminal = j} h rest) f a = not_both k j t a f h
starts_not k t (part {part = n} [] one rest) f a = starts_not k t rest f (when_true (has_empty (productions n)) _ (empty_told (productions n) one) (and_right _ _ a))
starts_not k t (part {part = n} (Item j ∷ b) one (item h rest)) f a = not_both k j t (head_apart k j b (productions n) (and_left _ _ a) one) f h
starts_not k t (part {part = n} (Whole m ∷ b) one rest) f a = no_part_first m b (productions n) (and_left _ _ (predictable n)) one

-- ---- a part is what is chosen

-- where an item decides, the part is what was chosen
pub chosen_spells : (n : Part) (t : Token) (symbols : List Symbol) (ts : List Token) (b : List Symbol) → all_avoid (tails n) symbols ≡ true → chosen n t ≡ Some b → Spells (Whole n ∷ symbols) (t ∷ ts) → Spells (b ++ symbols) (t ∷ ts)
unfolding chosen
chosen_spells n t symbols ts b clear h (part (Whole m ∷ c) one rest) = absurd (no_part_first m c (productions n) (and_left _ _ (predictable n)) one)
chosen_spells n t symbols ts b clear h (part (Item k ∷ c) one (item f rest)) =
    subst (λ (d : List Symbol). Spells (d ++ symbols) (t ∷ ts)) (some_same (sym (picks (empty_of (productions n)) k c t (productions n) (and_left _ _ (predictable n)) one f) ∙ h)) (item f rest)
  where
    some_same : {x y : List Symbol} → Some x ≡ Some y → x ≡ y
    some_same e = cc
chosen_spells n t symbols ts b clear h (part [] one rest) = go b (picked n t b h)
  where
    go : (d : List Symbol) → IsPicked (productions n) t d → Spells (d ++ symbols) (t ∷ ts)
    go d (by_none _) = rest
    go d (by_item {k} {b = c} other f) = absurd (starts_not k t rest f (avoids_in k (tails n) symbols (head_among k c (productions n) (tails n) (when_true (has_empty (productions n)) _ (empty_told (productions n) one) (and_right _ _ (and_right _ _ (predictable n)))) other) clear))

-- the empty production is picked where no item begins another one
never_none : (bodies : List (List Symbol)) (other : Option (List Symbol)) (t : Token) → other ≡ Some [] → pick other bodies t ≡ None → ⊥
never_none [] other t e g = cc
never_none (c ∷ bodies) other t e g = by (never_none bodies other t e) (is_begun c t) g
  where
    by : (pick other bodies t ≡ None → ⊥) → (x : Bool) → cond x (Some c) (pick other bodies t) ≡ None → ⊥
    by on true k = cc
    by on false k = on k

-- where nothing is chosen, the part doesn't stand
pub unchosen : (n : Part) (t : Token) (symbols : List Symbol) (ts : List Token) → chosen n t ≡ None → Spells (Whole n ∷ symbols) (t ∷ ts) → ⊥
unfolding chosen
unchosen n t symbols ts h (part (Whole m ∷ c) one rest) = no_part_first m c (productions n) (and_left _ _ (predictable n)) one
unchosen n t symbols ts h (part (Item k ∷ c) one (item f rest)) = clash (Item k ∷ c) (sym (picks (empty_of (productions n)) k c t (productions n) (and_left _ _ (predictable n)) one f) ∙ h)
  where
    clash : (d : List Symbol) → Some d ≡ None → ⊥
    clash d e = cc
unchosen n t symbols ts h (part [] one rest) = never_none (productions n) (empty_of (productions n)) t (empty_found (productions n) (empty_told (productions n) one)) h

-- ---- a chosen production stays clear of what follows

avoids_append : (ends : List Terminal) (k : Terminal) (b symbols : List Symbol) → avoids_within ends k b ≡ true → all_avoid ends symbols ≡ true → avoids k (b ++ symbols) ≡ true
avoids_append ends k [] symbols h a = avoids_in k ends symbols h a
avoids_append ends k (Item j ∷ b) symbols h a = h
avoids_append ends k (Whole n ∷ b) symbols h a = both (all_apart k (heads (productions n))) (has_empty (productions n)) (and_left _ _ h) (and_right _ _ h) (λ g. avoids_append ends k b symbols g a)
  where
    both : (x e : Bool) → x ≡ true → cond e (avoids_within ends k b) true ≡ true → (avoids_within ends k b ≡ true → avoids k (b ++ symbols) ≡ true) → x && cond e (avoids k (b ++ symbols)) true ≡ true
    both true true p q on = on q
    both true false p q on = refl
    both false e p q on = cc

all_avoid_append : (ends ks : List Terminal) (b symbols : List Symbol) → all_avoid_within ends ks b ≡ true → all_avoid ends symbols ≡ true → all_avoid ks (b ++ symbols) ≡ true
all_avoid_append ends [] b symbols h a = refl
all_avoid_append ends (k ∷ ks) b symbols h a = and_both _ _ (avoids_append ends k b symbols (and_left _ _ h) a) (all_avoid_append ends ks b symbols (and_right _ _ h) a)

clear_append : (ends : List Terminal) (b symbols : List Symbol) → is_clear_within ends b ≡ true → all_avoid ends symbols ≡ true → is_clear symbols ≡ true → is_clear (b ++ symbols) ≡ true
clear_append ends [] symbols h a c = c
clear_append ends (Item k ∷ b) symbols h a c = clear_append ends b symbols h a c
clear_append ends (Whole n ∷ b) symbols h a c = and_both _ _ (all_avoid_append ends (tails n) b symbols (and_left _ _ h) a) (clear_append ends b symbols (and_right _ _ h) a c)

one_clear : (ends : List Terminal) (b : List Symbol) (bodies : List (List Symbol)) → all_clear ends bodies ≡ true → IsOneOf b bodies → is_clear_within ends b ≡ true
one_clear ends b [] h one = absurd one
one_clear ends b (c ∷ bodies) h (inl same) = subst (λ (d : List Symbol). is_clear_within ends d ≡ true) same (and_left _ _ h)
one_clear ends b (c ∷ bodies) h (inr one) = one_clear ends b bodies (and_right _ _ h) one

pub one_of : (n : Part) (t : Token) (b : List Symbol) → chosen n t ≡ Some b → IsOneOf b (productions n)
one_of n t b h = go (picked n t b h)
  where
    go : {d : List Symbol} → IsPicked (productions n) t d → IsOneOf d (productions n)
    go (by_item one f) = one
    go (by_none one) = one

pub clear_expanded : (n : Part) (b symbols : List Symbol) → IsOneOf b (productions n) → is_clear (Whole n ∷ symbols) ≡ true → is_clear (b ++ symbols) ≡ true
clear_expanded n b symbols one c = clear_append (tails n) b symbols (one_clear (tails n) b (productions n) (and_left _ _ (and_right _ _ (predictable n))) one) (and_left _ _ c) (and_right _ _ c)
