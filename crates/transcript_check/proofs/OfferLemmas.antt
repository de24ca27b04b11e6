-- A set of octets beside the list of packets.
use Rattle.std.proofs.Common.{◌≡◌, ℕ, zero, suc, ◌+◌, Bool, true, false, cond, List, [], ◌∷◌, ◌++◌, length, Option, Some, None, ◌⊎◌, inl, inr, ◌↔◌, refl, ap, sym, ◌∙◌, subst, true≢false}
use Rattle.std.specs.Prelude.{IsTrue, is_some, IsSome, slice_get}
use Rattle.std.specs.Option.{option_to_list}
use Rattle.std.specs.declared.cmp.Ordering.{Ordering}
use Rattle.std.specs.declared.cmp.Ordering.TheVariants.{Less, Equal, Greater}
use Rattle.std.specs.Ordering.{nat_cmp, is_eq, eq_by_cmp, match_ordering}
use Rattle.std.specs.Cmp.{Equal-is, tied_itself}
use Rattle.std.specs.Cmp.Lexicographic.{slice_cmp, nat_list_cmp_total}
use Rattle.std.specs.FinMap.{nat_cmp-IsAntisymmetric, slice_cmp-IsAntisymmetric}
use Rattle.std.specs.BTreeMap.{insert_entry}
use Rattle.std.specs.Global.{Vec}
use Rattle.tables.specs.Tables.{find, put}
use Rattle.tables.proofs.TableLaws.{find-put}
use Rattle.transcript_defs.specs.Packets.{IsAmong}
use Rattle.transcript_check.specs.inside.Offers.{octets_cmp, octets_of, IsKnown}

-- ---- places in a list

pub get_before : {A : Type 0} (xs ys : List A) (i : ℕ) (x : A) → slice_get xs i ≡ Some x → slice_get (xs ++ ys) i ≡ Some x
get_before [] ys i x at = absurd (true≢false (sym (ap is_some at)))
get_before (y ∷ xs) ys zero x at = at
get_before (y ∷ xs) ys (suc i) x at = get_before xs ys i x at

pub get_end : {A : Type 0} (xs : List A) (y : A) → slice_get (xs ++ y ∷ []) (length xs) ≡ Some y
get_end [] y = refl
get_end (x ∷ xs) y = get_end xs y

pub get_either : {A : Type 0} (xs : List A) (y : A) (i : ℕ) (x : A) → slice_get (xs ++ y ∷ []) i ≡ Some x → (slice_get xs i ≡ Some x) ⊎ (x ≡ y)
get_either [] y zero x at = let same : x ≡ y = cc in inr same
get_either [] y (suc i) x at = absurd (true≢false (sym (ap is_some at)))
get_either (z ∷ xs) y zero x at = inl at
get_either (z ∷ xs) y (suc i) x at = get_either xs y i x at

-- ---- keys as octets

abbrev pub key_cmp : Vec ℕ → Vec ℕ → Ordering
key_cmp a b = slice_cmp nat_cmp a.items b.items

pub find_octets : (known : List (Vec ℕ × Unit {0})) (key : Vec ℕ) → find key_cmp known key ≡ find octets_cmp (octets_of known) key.items
unfolding find octets_of
find_octets [] key = refl
find_octets (e ∷ es) key =
    ap (λ (x : Option (Unit {0})). cond (is_eq (slice_cmp nat_cmp key.items e.0.items)) (Some e.1) x) (find_octets es key)

put_octets : (known : List (Vec ℕ × Unit {0})) (key : Vec ℕ) (v : Unit {0}) → octets_of (put key_cmp known key v) ≡ put octets_cmp (octets_of known) key.items v
unfolding put octets_of
put_octets [] key v = refl
put_octets (e ∷ es) key v = by (slice_cmp nat_cmp key.items e.0.items) (put_octets es key v)
  where
    by : (r : Ordering) → octets_of (insert_entry key_cmp es key v) ≡ insert_entry octets_cmp (octets_of es) key.items v
        → octets_of (match_ordering r ((key, v) ∷ e ∷ es) ((e.0, v) ∷ es) (e ∷ insert_entry key_cmp es key v))
        ≡ match_ordering r ((key.items, v) ∷ (e.0.items, e.1) ∷ octets_of es) ((e.0.items, v) ∷ octets_of es) ((e.0.items, e.1) ∷ insert_entry octets_cmp (octets_of es) key.items v)
    by Less rest = refl
    by Equal rest = refl
    by Greater rest = ap (λ (m : List (List ℕ × Unit {0})). (e.0.items, e.1) ∷ m) rest

-- ---- the set

pub known_none : (known : List (Vec ℕ × Unit {0})) (packets : List (List ℕ)) → known ≡ [] → packets ≡ [] → IsKnown known packets
unfolding find octets_of
known_none known packets none empty packet = (
  (λ has. absurd (true≢false (sym (sym (ap (λ m. is_some (find octets_cmp (octets_of m) packet)) none) ∙ has)))),
  (λ among. absurd (true≢false (sym (sym (ap (λ xs. is_some (slice_get xs among.0)) empty) ∙ ap is_some among.1)))),
)

more_one : (known : List (Vec ℕ × Unit {0})) (packets : List (List ℕ)) (packet q : List ℕ) (b : Bool) → eq_by_cmp octets_cmp q packet ≡ b
    → (IsTrue (is_some (find octets_cmp (octets_of known) q)) ↔ IsAmong packets (Some q))
    → IsTrue (is_some (cond b (Some tt) (find octets_cmp (octets_of known) q))) ↔ IsAmong (packets ++ packet ∷ []) (Some q)
more_one known packets packet q true tie old =
    let same : q ≡ packet = slice_cmp-IsAntisymmetric nat_cmp-IsAntisymmetric q packet ((Equal-is (octets_cmp q packet)).0 tie) in
    ((λ _. (length packets, get_end packets packet ∙ ap (λ (p : List ℕ). Some p) (sym same))), (λ _. refl))
more_one known packets packet q false tie old = (
  (λ has. let among = old.0 has in (among.0, get_before packets (packet ∷ []) among.0 q among.1)),
  (λ among. by among.0 (get_either packets packet among.0 q among.1)),
)
  where
    by : (place : ℕ) → (slice_get packets place ≡ Some q) ⊎ (q ≡ packet) → IsTrue (is_some (find octets_cmp (octets_of known) q))
    by place (inl at) = old.1 (place, at)
    by place (inr same) =
        absurd (true≢false (sym (ap is_eq (tied_itself nat_list_cmp_total packet)) ∙ ap (λ (p : List ℕ). eq_by_cmp octets_cmp p packet) (sym same) ∙ tie))

pub known_more : (known after : List (Vec ℕ × Unit {0})) (packets : List (List ℕ)) (key : Vec ℕ) (packet : List ℕ) → IsKnown known packets
    → key.items ≡ packet → after ≡ put key_cmp known key tt → IsKnown after (packets ++ packet ∷ [])
known_more known after packets key packet old is becomes q =
    let looked : find octets_cmp (octets_of after) q ≡ cond (eq_by_cmp octets_cmp q packet) (Some tt) (find octets_cmp (octets_of known) q) =
    ap (λ (m : List (Vec ℕ × Unit {0})). find octets_cmp (octets_of m) q) becomes
    ∙ ap (λ (m : List (List ℕ × Unit {0})). find octets_cmp m q) (put_octets known key tt)
    ∙ ap (λ (p : List ℕ). find octets_cmp (put octets_cmp (octets_of known) p tt) q) is
    ∙ find-put nat_list_cmp_total (octets_of known) packet tt q in
    subst (λ (x : Option (Unit {0})). IsTrue (is_some x) ↔ IsAmong (packets ++ packet ∷ []) (Some q)) (sym looked)
    (more_one known packets packet q (eq_by_cmp octets_cmp q packet) refl (old q))

-- what was pushed is popped again
pub popped_back : {A : Type 0} (xs ys : List A) (x : A) (r : Option A) → xs ++ x ∷ [] ≡ ys ++ option_to_list r → IsSome r → ys ≡ xs
popped_back xs ys x None is some = absurd (true≢false (sym some))
popped_back [] [] x (Some y) is some = refl
popped_back [] (z ∷ ys) x (Some y) is some = absurd (longer ys is)
  where
    longer : (ys : List _) → (x ∷ []) ≡ z ∷ (ys ++ y ∷ []) → ⊥
    longer [] e = absurd cc
    longer (w ∷ ys) e = absurd cc
popped_back (z ∷ xs) [] x (Some y) is some = absurd (longer xs is)
  where
    longer : (xs : List _) → z ∷ (xs ++ x ∷ []) ≡ y ∷ [] → ⊥
    longer [] e = absurd cc
    longer (w ∷ xs) e = absurd cc
popped_back (z ∷ xs) (w ∷ ys) x (Some y) is some =
    let head : w ≡ z = cc in
    let tail : xs ++ x ∷ [] ≡ ys ++ y ∷ [] = cc in
    ap (λ (h : _). h ∷ ys) head ∙ ap (λ (t : List _). z ∷ t) (popped_back xs ys x (Some y) tail some)

pub has_packet : (known : List (Vec ℕ × Unit {0})) (packets now : List (List ℕ)) (key : Vec ℕ) (packet : List ℕ) (has : Bool) → packets ≡ now
    → IsKnown known packets → key.items ≡ packet → has ≡ is_some (find key_cmp known key) → IsTrue has ↔ IsAmong now (Some packet)
has_packet known packets now key packet has same is_known is result =
    let looked : has ≡ is_some (find octets_cmp (octets_of known) packet) =
    result ∙ ap is_some (find_octets known key) ∙ ap (λ (p : List ℕ). is_some (find octets_cmp (octets_of known) p)) is in
    subst (λ (b : Bool). IsTrue b ↔ IsAmong now (Some packet)) (sym looked)
    (subst (λ (xs : List (List ℕ)). IsTrue (is_some (find octets_cmp (octets_of known) packet)) ↔ IsAmong xs (Some packet)) same (is_known packet))

pub known_pushed : (known after : List (Vec ℕ × Unit {0})) (packets pushed : List (List ℕ)) (key : Vec ℕ) (copy packet : List ℕ) → IsKnown known packets
    → key.items ≡ packet → after ≡ put key_cmp known key tt → copy ≡ packet → pushed ≡ packets ++ copy ∷ [] → IsKnown after pushed
known_pushed known after packets pushed key copy packet old is becomes same longer =
    subst (IsKnown after) (sym (longer ∙ ap (λ (p : List ℕ). packets ++ p ∷ []) same)) (known_more known after packets key packet old is becomes)

pub at_place : (packets now : List (List ℕ)) (place : ℕ) (found packet : List ℕ) (same : Bool) → packets ≡ now → Some found ≡ slice_get packets place
    → (IsTrue same ↔ (found ≡ packet)) → IsTrue same ↔ (slice_get now place ≡ Some packet)
at_place packets now place found packet same is at test =
    let there : slice_get now place ≡ Some found = sym (ap (λ (xs : List (List ℕ)). slice_get xs place) is) ∙ sym at in
    ((λ t. there ∙ ap (λ (p : List ℕ). Some p) (test.0 t)), (λ e. let both : Some found ≡ Some packet = sym there ∙ e in let one : found ≡ packet = cc in test.1 one))

pub at_no_place : (packets now : List (List ℕ)) (place : ℕ) (packet : List ℕ) → packets ≡ now → None ≡ slice_get packets place
    → IsTrue false ↔ (slice_get now place ≡ Some packet)
at_no_place packets now place packet is at =
    let nothing : slice_get now place ≡ None = sym (ap (λ (xs : List (List ℕ)). slice_get xs place) is) ∙ sym at in
    ((λ t. absurd (true≢false (sym t))), (λ e. absurd (true≢false (sym (sym (ap is_some nothing) ∙ ap is_some e)))))
