-- The bearers of a context as the tables have them: found and changed by their numbers.
use Rattle.std.proofs.Common.{◌≡◌, ℕ, zero, suc, ◌+◌, ◌-◌, ◌<◌, ◌≤◌, inl, inr, cond, List, [], ◌∷◌, ◌++◌, length, get_or, take, drop, drop-cons, append-nil, append_assoc, Some, None, refl, sym, ap, ◌∙◌, arith}
use Rattle.std.proofs.Math.ListN.{set}
use Rattle.std.proofs.lemmas.List.{take_all, drop_all}
use Rattle.std.specs.Global.{Vec}
use Rattle.std.specs.Vec.{with_items}
use Rattle.std.specs.declared.cmp.Ordering.{Ordering}
use Rattle.std.specs.declared.cmp.Ordering.TheVariants.{Less, Equal, Greater}
use Rattle.std.specs.Ordering.{nat_cmp, is_eq, match_ordering}
use Rattle.std.specs.Cmp.{nat_cmp_is}
use Rattle.std.specs.List.{AllByRecursion, flat_map}
use Rattle.std.specs.Map.{lookup}
use Rattle.std.specs.BTreeMap.{is_at, insert_entry}
use Rattle.gnb_types.specs.declared.names.BearerId.{BearerId}
use Rattle.gnb_types.specs.Orders.{bearer_cmp}
use Rattle.tables.specs.Tables.{find, put}
use Rattle.unit_defs.specs.CuUpRecords.{CuUpBearer}
use Rattle.cu_up_bearer.specs.bearers.Bearers.{kept}
use Rattle.cu_up_bearer.specs.declared.bearers.bearer.Bearer.{Bearer}
use Rattle.cu_up_contexts.specs.bearer_context.Bearers.{numbered, IsOutside}

equal : (a b : ℕ) → a ≡ b → nat_cmp a b ≡ Equal
equal a b e = sym (nat_cmp_is a b Equal e)

greater : (a b : ℕ) → b < a → nat_cmp a b ≡ Greater
greater a b h = sym (nat_cmp_is a b Greater h)

less : (a b : ℕ) → a < b → nat_cmp a b ≡ Less
less a b h = sym (nat_cmp_is a b Less h)

pub find_numbered : (d : Bearer) (bs : List Bearer) (n i : ℕ) (id : BearerId) → i < length bs → id.0 ≡ n + i
    → find bearer_cmp (numbered n bs) id ≡ Some (kept (get_or bs i d))
unfolding find
find_numbered d [] n i id h e = absurd (omega arith)
find_numbered d (b ∷ bs) n zero id h e =
    ap (λ (r : Ordering). cond (is_eq r) (Some (kept b)) (lookup (is_at (bearer_cmp id)) (numbered (n + 1) bs))) (equal id.0 n (omega arith))
find_numbered d (b ∷ bs) n (suc i) id h e =
    ap (λ (r : Ordering). cond (is_eq r) (Some (kept b)) (lookup (is_at (bearer_cmp id)) (numbered (n + 1) bs))) (greater id.0 n (omega arith))
    ∙ find_numbered d bs (n + 1) i id (omega arith) (omega arith)

none_below : (bs : List Bearer) (n : ℕ) (id : BearerId) → id.0 < n → find bearer_cmp (numbered n bs) id ≡ None
unfolding find
none_below [] n id h = refl
none_below (b ∷ bs) n id h =
    ap (λ (r : Ordering). cond (is_eq r) (Some (kept b)) (lookup (is_at (bearer_cmp id)) (numbered (n + 1) bs))) (less id.0 n h)
    ∙ none_below bs (n + 1) id (omega arith)

none_above : (bs : List Bearer) (n : ℕ) (id : BearerId) → n + length bs ≤ id.0 → find bearer_cmp (numbered n bs) id ≡ None
unfolding find
none_above [] n id h = refl
none_above (b ∷ bs) n id h =
    ap (λ (r : Ordering). cond (is_eq r) (Some (kept b)) (lookup (is_at (bearer_cmp id)) (numbered (n + 1) bs))) (greater id.0 n (omega arith))
    ∙ none_above bs (n + 1) id (omega arith)

pub none_outside : (bs : List Bearer) (id : BearerId) (count : ℕ) → count ≡ length bs → IsOutside id.0 count → find bearer_cmp (numbered 1 bs) id ≡ None
none_outside bs id count e (inl zero_is) = none_below bs 1 id (omega arith)
none_outside bs id count e (inr above) = none_above bs 1 id (omega arith)

pub put_numbered : (c : Bearer) (bs : List Bearer) (n i : ℕ) (id : BearerId) → i < length bs → id.0 ≡ n + i
    → put bearer_cmp (numbered n bs) id (kept c) ≡ numbered n (set bs i c)
unfolding put
put_numbered c [] n i id h e = absurd (omega arith)
put_numbered c (b ∷ bs) n zero id h e =
    let es : List (BearerId × CuUpBearer) = numbered (n + 1) bs in
    let at : BearerId = record { 0 = n } in
    ap (λ (r : Ordering). match_ordering r ((id, kept c) ∷ (at, kept b) ∷ es) ((at, kept c) ∷ es) ((at, kept b) ∷ insert_entry bearer_cmp es id (kept c)))
    (equal id.0 n (omega arith))
put_numbered c (b ∷ bs) n (suc i) id h e =
    let es : List (BearerId × CuUpBearer) = numbered (n + 1) bs in
    let at : BearerId = record { 0 = n } in
    ap (λ (r : Ordering). match_ordering r ((id, kept c) ∷ (at, kept b) ∷ es) ((at, kept c) ∷ es) ((at, kept b) ∷ insert_entry bearer_cmp es id (kept c)))
    (greater id.0 n (omega arith))
    ∙ ap (λ (xs : List (BearerId × CuUpBearer)). (at, kept b) ∷ xs) (put_numbered c bs (n + 1) i id (omega arith) (omega arith))

pub length-numbered : (n : ℕ) (bs : List Bearer) → length (numbered n bs) ≡ length bs
length-numbered n [] = refl
length-numbered n (b ∷ bs) = ap (λ (k : ℕ). suc k) (length-numbered (n + 1) bs)

pub numbered_push : (bs : List Bearer) (b : Bearer) (n i : ℕ) → length bs ≡ i → numbered n (bs ++ b ∷ []) ≡ numbered n bs ++ (record { 0 = i + n }, kept b) ∷ []
numbered_push [] b n i e =
    let at : n ≡ i + n = omega (arith, e) in
    ap (λ (k : ℕ). (record { 0 = k }, kept b) ∷ []) at
numbered_push (x ∷ bs) b n i e =
    let at : BearerId = record { 0 = n } in
    let before : length bs ≡ i - 1 = omega (arith, e) in
    let same : i - 1 + (n + 1) ≡ i + n = omega (arith, e) in
    ap (λ (xs : List (BearerId × CuUpBearer)). (at, kept x) ∷ xs)
    (numbered_push bs b (n + 1) (i - 1) before ∙ ap (λ (k : ℕ). numbered (n + 1) bs ++ (record { 0 = k }, kept b) ∷ []) same)

-- what holds of each holds of the one at an index, and stays where another one that meets it is put there
module _ {X : Type 0} (P : X → Type 0) where
  pub each_at : (xs : List X) (i : ℕ) (d : X) → i < length xs → AllByRecursion P xs → P (get_or xs i d)
  each_at [] i d h all = absurd (omega arith)
  each_at (x ∷ xs) zero d h all = all.0
  each_at (x ∷ xs) (suc i) d h all = each_at xs i d (omega arith) all.1

  pub each_set : (xs : List X) (i : ℕ) (x : X) → P x → AllByRecursion P xs → AllByRecursion P (set xs i x)
  each_set [] i x here all = tt
  each_set (y ∷ xs) zero x here all = (here, all.1)
  each_set (y ∷ xs) (suc i) x here all = (all.0, each_set xs i x here all.1)

  pub each_push : (xs : List X) (x : X) → AllByRecursion P xs → P x → AllByRecursion P (xs ++ x ∷ [])
  each_push [] x all here = (here, tt)
  each_push (y ∷ xs) x all here = (all.0, each_push xs x all.1 here)

-- and so does what follows from it
pub each_as : {X : Type 0} (P Q : X → Type 0) → ((x : X) → P x → Q x) → (xs : List X) → AllByRecursion P xs → AllByRecursion Q xs
each_as P Q f [] all = tt
each_as P Q f (x ∷ xs) all = (f x all.0, each_as P Q f xs all.1)

-- the bearer at an index of a loop, and the others after it
pub from_turn : (bs : List Bearer) (d : Bearer) (i n : ℕ) → i < length bs
    → numbered n (drop i bs) ≡ (record { 0 = n }, kept (get_or bs i d)) ∷ numbered (n + 1) (drop (i + 1) bs)
from_turn bs d i n within =
    let next : suc i ≡ i + 1 = omega arith in
    ap (λ (xs : List Bearer). numbered n xs) (drop-cons bs i d within ∙ ap (λ (k : ℕ). get_or bs i d ∷ drop k bs) next)

-- what each of them says stands last
pub said_turn : {X : Type 0} (f : BearerId × CuUpBearer → List X) (bs : List Bearer) (d : Bearer) (i n : ℕ) → i < length bs → (before after : List X)
    → after ≡ before ++ f (record { 0 = n }, kept (get_or bs i d))
    → after ++ flat_map f (numbered (n + 1) (drop (i + 1) bs)) ≡ before ++ flat_map f (numbered n (drop i bs))
said_turn {X} f bs d i n within before after is =
    ap (λ (xs : List X). xs ++ flat_map f (numbered (n + 1) (drop (i + 1) bs))) is
    ∙ append_assoc before (f (record { 0 = n }, kept (get_or bs i d))) (flat_map f (numbered (n + 1) (drop (i + 1) bs)))
    ∙ ap (λ (es : List (BearerId × CuUpBearer)). before ++ flat_map f es) (sym (from_turn bs d i n within))

pub said_all : {X : Type 0} (f : BearerId × CuUpBearer → List X) (bs : List Bearer) (i n : ℕ) → length bs ≤ i → (said : List X)
    → said ++ flat_map f (numbered n (drop i bs)) ≡ flat_map f (numbered 1 bs) → said ≡ flat_map f (numbered 1 bs)
said_all {X} f bs i n all said is =
    sym (append-nil said) ∙ ap (λ (xs : List Bearer). said ++ flat_map f (numbered n xs)) (sym (drop_all i bs all)) ∙ is

-- all elements of a vector are written
pub with_all : (v : Vec Bearer) (ws : List Bearer) → length ws ≡ v.len → (with_items v ws).items ≡ ws
with_all v ws size =
    let same : length v.items ≡ length ws = sym v.ok.0 ∙ sym size in
    ap (λ (xs : List Bearer). take v.len (ws ++ xs)) (drop_all (length ws) v.items (omega (arith, same)))
    ∙ ap (λ (xs : List Bearer). take v.len xs) (append-nil ws)
    ∙ take_all v.len ws (omega (arith, size))
