-- The information elements of a set that stand in a value: in the order of the set, each once.
use Rattle.std.proofs.Common.{◌≡◌, ℕ, suc, ◌≤◌, ◌==◌, Bool, true, false, cond, List, [], ◌∷◌, Option, Some, None, option_map, refl, sym, ap, ◌∙◌, subst, arith}
use Rattle.std.specs.Prelude.{not, ◌&&◌, if◌then◌else◌}
use Rattle.aper_defs.specs.Trees.{Slot, slots_left, slots_before, slots_after, has_slot, mandatory_count}
use Rattle.aper_defs.specs.Values.{Value, Ies, no_ies, ie}
use Rattle.aper_defs.specs.Membership.{Either, AreElements}
use Rattle.proof_aper.proofs.answers.NumberFacts.{same}
use Rattle.message_defs.specs.Known.{known_elements}

-- the element of an id
abbrev pub ie_of : ℕ → Ies → Option Value
ie_of n no_ies = None
ie_of n (ie id criticality v others) = if id == n then Some v else ie_of n others

abbrev pub put : ℕ → Option Value → Ies → Ies
put id None others = others
put id (Some v) others = ie id 0 v others

-- those of a set, each where the set has it
abbrev pub collected : (ℕ → Value → Value) → List Slot → Ies → Ies
collected f [] ies = no_ies
collected f (slot ∷ left) ies = put slot.id (option_map (f slot.id) (ie_of slot.id ies)) (collected f left ies)

abbrev pub are_distinct : List Slot → Bool
are_distinct [] = true
are_distinct (slot ∷ left) = not (has_slot slot.id left) && are_distinct left

abbrev pub AreAmong : List Slot → List Slot → Type 0
AreAmong left known = (n : ℕ) → has_slot n left ≡ true → has_slot n known ≡ true

-- ---- truth values
both_left : (a b : Bool) → (a && b) ≡ true → a ≡ true
both_left true b h = refl
both_left false b h = cc

both_right : (a b : Bool) → (a && b) ≡ true → b ≡ true
both_right true b h = h
both_right false b h = cc

not_not : (b : Bool) → not b ≡ true → b ≡ false
not_not false h = refl
not_not true h = cc

apart : (b : Bool) → b ≡ true → b ≡ false → ⊥
apart true h k = cc
apart false h k = cc

either_first : (b : Bool) (A B : Type 0) → b ≡ true → Either b A B → A
either_first true A B h e = e
either_first false A B h e = absurd (apart false h refl)

test_of : (a b : ℕ) → a ≡ b → (a == b) ≡ true
test_of a b h = subst (λ n. (a == n) ≡ true) h (self a)
  where
    self : (n : ℕ) → (n == n) ≡ true
    self n = grind arith

unlike : (b : Bool) → (b ≡ true → ⊥) → b ≡ false
unlike false h = refl
unlike true h = absurd (h refl)

swapped : (a b : ℕ) → (a == b) ≡ false → (b == a) ≡ false
swapped a b h = unlike (b == a) (λ t. apart (a == b) (test_of a b (sym (same b a t))) h)

cond_false : (b x : Bool) → cond b true x ≡ false → (b ≡ false) × (x ≡ false)
cond_false false x h = (refl, h)
cond_false true x h = cc

-- ---- what isn't there
skip_all : (f : ℕ → Value → Value) (left : List Slot) (id criticality : ℕ) (v : Value) (others : Ies) → has_slot id left ≡ false
    → collected f left (ie id criticality v others) ≡ collected f left others
skip_all f [] id criticality v others h = refl
skip_all f (slot ∷ left) id criticality v others h =
    let both = cond_false (slot.id == id) (has_slot id left) h in
    ap (λ (b : Bool). put slot.id (option_map (f slot.id) (cond b (Some v) (ie_of slot.id others)))
    (collected f left (ie id criticality v others))) (swapped slot.id id both.0)
    ∙ ap (put slot.id (option_map (f slot.id) (ie_of slot.id others))) (skip_all f left id criticality v others both.1)

after_less : (id : ℕ) (left : List Slot) (n : ℕ) → has_slot n left ≡ false → has_slot n (slots_after id left) ≡ false
after_less id [] n h = refl
after_less id (slot ∷ left) n h = by (slot.id == id) (cond_false (slot.id == n) (has_slot n left) h).1
    (after_less id left n (cond_false (slot.id == n) (has_slot n left) h).1)
  where
    by : (b : Bool) → has_slot n left ≡ false → has_slot n (slots_after id left) ≡ false
        → has_slot n (cond b left (slots_after id left)) ≡ false
    by true x y = x
    by false x y = y

left_less : (known : List Slot) (id : ℕ) (left : List Slot) (n : ℕ) → has_slot n left ≡ false → has_slot n (slots_left known id left) ≡ false
left_less known id left n h = by (has_slot id known)
  where
    by : (b : Bool) → has_slot n (cond b (slots_after id left) left) ≡ false
    by true = after_less id left n h
    by false = h

missing : (known : List Slot) (P : ℕ → Value → Type 0) (left : List Slot) (ies : Ies) (n : ℕ) → AreElements known P left ies
    → has_slot n known ≡ true → has_slot n left ≡ false → ie_of n ies ≡ None
missing known P left no_ies n e k l = refl
missing known P left (ie id criticality v others) n e k l =
    let other : (id == n) ≡ false = unlike (id == n) (λ t. let s : id ≡ n = same id n t in
    let there : has_slot id left ≡ true =
    (either_first (has_slot id known) ((has_slot id left ≡ true) × (mandatory_count (slots_before id left) ≡ 0)) (Unit {0})
    (subst (λ m. has_slot m known ≡ true) (sym s) k) e.3).0 in
    apart (has_slot n left) (subst (λ m. has_slot m left ≡ true) s there) l) in
    ap (λ (b : Bool). cond b (Some v) (ie_of n others)) other
    ∙ missing known P (slots_left known id left) others n e.4 k (left_less known id left n l)

-- ---- what is there, in the set's order
taken : (f : ℕ → Value → Value) (known : List Slot) (P : ℕ → Value → Type 0) (left : List Slot) (id criticality : ℕ) (v : Value)
    (others : Ies) → has_slot id left ≡ true → are_distinct left ≡ true → AreAmong left known
    → AreElements known P (slots_after id left) others
    → collected f left (ie id criticality v others) ≡ ie id 0 (f id v) (collected f (slots_after id left) others)
taken f known P [] id criticality v others h d among e = cc
taken f known P (slot ∷ left) id criticality v others h d among e =
    let rest = collected f left (ie id criticality v others) in
    let first : has_slot slot.id left ≡ false = not_not (has_slot slot.id left) (both_left (not (has_slot slot.id left)) (are_distinct left) d) in
    let later : are_distinct left ≡ true = both_right (not (has_slot slot.id left)) (are_distinct left) d in
    by (slot.id == id) refl h e first
    (λ g k. taken f known P left id criticality v others g later (λ n t. among n (more (slot.id == n) (has_slot n left) t)) k)
  where
    more : (b x : Bool) → x ≡ true → cond b true x ≡ true
    more true x h = refl
    more false x h = h

    by : (b : Bool) → (slot.id == id) ≡ b → cond b true (has_slot id left) ≡ true
        → AreElements known P (cond b left (slots_after id left)) others → has_slot slot.id left ≡ false
        → (has_slot id left ≡ true → AreElements known P (slots_after id left) others
        → collected f left (ie id criticality v others) ≡ ie id 0 (f id v) (collected f (slots_after id left) others))
        → collected f (slot ∷ left) (ie id criticality v others) ≡ ie id 0 (f id v) (collected f (cond b left (slots_after id left)) others)
    by true is h e first later =
        let s : slot.id ≡ id = same slot.id id is in
        ap (λ (b : Bool). put slot.id (option_map (f slot.id) (cond b (Some v) (ie_of slot.id others)))
        (collected f left (ie id criticality v others))) (test_of id slot.id (sym s))
        ∙ ap (λ (ies : Ies). ie slot.id 0 (f slot.id v) ies)
        (skip_all f left id criticality v others (subst (λ n. has_slot n left ≡ false) s first))
        ∙ ap (λ (n : ℕ). ie n 0 (f n v) (collected f left others)) s
    by false is h e first later =
        let none : ie_of slot.id others ≡ None = missing known P (slots_after id left) others slot.id e
        (among slot.id (ap (λ (b : Bool). cond b true (has_slot slot.id left)) (test_of slot.id slot.id refl)))
        (after_less id left slot.id first) in
        ap (λ (b : Bool). put slot.id (option_map (f slot.id) (cond b (Some v) (ie_of slot.id others)))
        (collected f left (ie id criticality v others))) (swapped slot.id id is)
        ∙ ap (λ (x : Option Value). put slot.id (option_map (f slot.id) x) (collected f left (ie id criticality v others))) none
        ∙ later h e

none_collected : (f : ℕ → Value → Value) (left : List Slot) → no_ies ≡ collected f left no_ies
none_collected f [] = refl
none_collected f (slot ∷ left) = none_collected f left

distinct_after : (id : ℕ) (left : List Slot) → are_distinct left ≡ true → are_distinct (slots_after id left) ≡ true
distinct_after id [] d = refl
distinct_after id (slot ∷ left) d =
    let later : are_distinct left ≡ true = both_right (not (has_slot slot.id left)) (are_distinct left) d in
    by (slot.id == id) later (distinct_after id left later)
  where
    by : (b : Bool) → are_distinct left ≡ true → are_distinct (slots_after id left) ≡ true
        → are_distinct (cond b left (slots_after id left)) ≡ true
    by true x y = x
    by false x y = y

among_after : (known : List Slot) (id : ℕ) (left : List Slot) → AreAmong left known → AreAmong (slots_after id left) known
among_after known id left among n h = by (has_slot n left) refl
  where
    by : (b : Bool) → has_slot n left ≡ b → has_slot n known ≡ true
    by true is = among n is
    by false is = absurd (apart (has_slot n (slots_after id left)) h (after_less id left n is))

pub ordered : (f : ℕ → Value → Value) (known : List Slot) (P : ℕ → Value → Type 0) (left : List Slot) (ies : Ies)
    → AreElements known P left ies → are_distinct left ≡ true → AreAmong left known → known_elements known f ies ≡ collected f left ies
ordered f known P left no_ies e d among = none_collected f left
ordered f known P left (ie id criticality v others) e d among =
    by (has_slot id known) refl e.3 e.4 (λ l g h k. ordered f known P l others g h k)
  where
    by : (b : Bool) → has_slot id known ≡ b
        → Either b ((has_slot id left ≡ true) × (mandatory_count (slots_before id left) ≡ 0)) (Unit {0})
        → AreElements known P (cond b (slots_after id left) left) others
        → ((l : List Slot) → AreElements known P l others → are_distinct l ≡ true → AreAmong l known
        → known_elements known f others ≡ collected f l others)
        → cond b (ie id 0 (f id v) (known_elements known f others)) (known_elements known f others)
        ≡ collected f left (ie id criticality v others)
    by true is order rest later =
        ap (λ (ies : Ies). ie id 0 (f id v) ies) (later (slots_after id left) rest (distinct_after id left d) (among_after known id left among))
        ∙ sym (taken f known P left id criticality v others order.0 d among rest)
    by false is order rest later =
        later left rest d among
        ∙ sym (skip_all f left id criticality v others
        (unlike (has_slot id left) (λ t. apart (has_slot id known) (among id t) is)))

-- ---- each one is of its type, and no mandatory one is missing
pub body_of : (known : List Slot) (P : ℕ → Value → Type 0) (left : List Slot) (ies : Ies) (n : ℕ) (w : Value) → AreElements known P left ies
    → ie_of n ies ≡ Some w → P n w
body_of known P left no_ies n w e h = absurd (cc)
body_of known P left (ie id criticality v others) n w e h =
    by (id == n) refl h (λ g. body_of known P (slots_left known id left) others n w e.4 g)
  where
    some : (a b : Value) → (let x : Option Value = Some a in x) ≡ Some b → a ≡ b
    some a b h = cc

    by : (b : Bool) → (id == n) ≡ b → cond b (Some v) (ie_of n others) ≡ Some w → (ie_of n others ≡ Some w → P n w) → P n w
    by true is h later = subst (λ x. P n x) (some v w h) (subst (λ m. P m v) (same id n is) e.2)
    by false is h later = later h

abbrev pub is_mandatory : ℕ → List Slot → Bool
is_mandatory n [] = false
is_mandatory n (slot ∷ left) = if slot.id == n then slot.mandatory else is_mandatory n left

some_mandatory : (n : ℕ) (left : List Slot) → is_mandatory n left ≡ true → 1 ≤ mandatory_count left
some_mandatory n [] h = cc
some_mandatory n (slot ∷ left) h = by (slot.id == n) slot.mandatory h (λ g. some_mandatory n left g)
  where
    by : (b m : Bool) → cond b m (is_mandatory n left) ≡ true → (is_mandatory n left ≡ true → 1 ≤ mandatory_count left)
        → 1 ≤ cond m (suc (mandatory_count left)) (mandatory_count left)
    by b true h later = omega arith
    by true false h later = cc
    by false false h later = later h

still_mandatory : (n id : ℕ) (left : List Slot) → is_mandatory n left ≡ true → (id == n) ≡ false
    → mandatory_count (slots_before id left) ≡ 0 → is_mandatory n (slots_after id left) ≡ true
still_mandatory n id [] h other c = h
still_mandatory n id (slot ∷ left) h other c =
    by (slot.id == id) refl (slot.id == n) refl slot.mandatory refl h c (λ g k. still_mandatory n id left g other k)
  where
    by : (b : Bool) → (slot.id == id) ≡ b → (e : Bool) → (slot.id == n) ≡ e → (m : Bool) → slot.mandatory ≡ m
        → cond e m (is_mandatory n left) ≡ true → mandatory_count (cond b [] (slot ∷ slots_before id left)) ≡ 0
        → (is_mandatory n left ≡ true → mandatory_count (slots_before id left) ≡ 0 → is_mandatory n (slots_after id left) ≡ true)
        → is_mandatory n (cond b left (slots_after id left)) ≡ true
    by true is true is-n m is-m h c later =
        absurd (apart (id == n) (test_of id n (sym (same slot.id id is) ∙ same slot.id n is-n)) other)
    by true is false is-n m is-m h c later = h
    by false is e is-n true is-m h c later =
        absurd (omega (arith, ap (λ (x : Bool). cond x (suc (mandatory_count (slots_before id left))) (mandatory_count (slots_before id left))) is-m))
    by false is true is-n false is-m h c later = cc
    by false is false is-n false is-m h c later =
        later h (sym (ap (λ (x : Bool). cond x (suc (mandatory_count (slots_before id left))) (mandatory_count (slots_before id left))) is-m) ∙ c)

pub there : (known : List Slot) (P : ℕ → Value → Type 0) (left : List Slot) (ies : Ies) (n : ℕ) → is_mandatory n left ≡ true
    → AreElements known P left ies → (w : Value) × (ie_of n ies ≡ Some w)
there known P left no_ies n h e = absurd (omega (arith, some_mandatory n left h))
there known P left (ie id criticality v others) n h e =
    by (id == n) refl (has_slot id known) e.3 e.4 (λ l g k. there known P l others n g k)
  where
    by : (b : Bool) → (id == n) ≡ b → (k : Bool)
        → Either k ((has_slot id left ≡ true) × (mandatory_count (slots_before id left) ≡ 0)) (Unit {0})
        → AreElements known P (cond k (slots_after id left) left) others
        → ((l : List Slot) → is_mandatory n l ≡ true → AreElements known P l others → (w : Value) × (ie_of n others ≡ Some w))
        → (w : Value) × (cond b (Some v) (ie_of n others) ≡ Some w)
    by true is k order rest later = (v, refl)
    by false is true order rest later = later (slots_after id left) (still_mandatory n id left h is order.1) rest
    by false is false order rest later = later left h rest
