-- Members in order: two of them with the same members are alike, member by member.
use Rattle.std.proofs.Common.{◌≡◌, true, false, cond, List, [], ◌∷◌, Option, Some, None, is_some, Ordering, Less, Equal, Greater, refl, sym, ap, subst, ◌∙◌}
use Rattle.std.specs.Ordering.{nat_cmp, is_eq, match_ordering, ordering_reverse}
use Rattle.std.specs.Cmp.Lexicographic.{slice_cmp}
use Rattle.std.specs.List.{AllByRecursion}
use Rattle.std.proofs.lemmas.Cmp.{nat_list_cmp_total, tied_itself}
use Rattle.std.proofs.lemmas.Map.Lookups.{exact_bytes}
use Rattle.serde_json.specs.Data.{Data, Members, no_members, member}
use Rattle.serde_json.specs.Find.{get_member}
use Rattle.json_defs.specs.Members.{Text, same_text, place_in, is_among, are_keys_among}
use Rattle.proof_json.proofs.values.Holding.{apart, by_cases, first_true, second_true}
use Rattle.proof_json.proofs.values.Words.{texts_same}
use Rattle.json_defs.specs.shown_defs.Order.{IsBefore, IsOrdered, AreMembersOrdered}
use Rattle.json_defs.specs.shown_defs.Alike.{Alike, AreMembersAlike}
use Rattle.proof_json.proofs.shown.Words.{some_place}

abbrev pub AreBoth : Option Data → Option Data → Type 0
AreBoth None None = Unit {0}
AreBoth (Some d) (Some e) = Alike d e
AreBoth d e = ⊥

-- ---- looking up in order
past_it : (o : Ordering) (e : Data) (rest : Option Data) → is_eq o ≡ false → match_ordering o rest (Some e) rest ≡ rest
past_it Less e rest h = refl
past_it Equal e rest h = cc
past_it Greater e rest h = refl

skips : (q k : Text) (d : Data) (ms : Members) → same_text q k ≡ false → get_member q (member k d ms) ≡ get_member q ms
skips q k d ms h = past_it (slice_cmp nat_cmp q k) d (get_member q ms) h

finds : (k : Text) (d : Data) (ms : Members) → get_member k (member k d ms) ≡ Some d
finds k d ms = ap (λ (o : Ordering). match_ordering o (get_member k ms) (Some d) (get_member k ms)) (tied_itself nat_list_cmp_total k)

still_before : (k l : Text) (ms : Members) → slice_cmp nat_cmp k l ≡ Less → IsBefore l ms → IsBefore k ms
still_before k l no_members h g = tt
still_before k l (member m d ms) h g = nat_list_cmp_total.trans k l m h g

before_all : (k : Text) (ms : Members) → IsBefore k ms → AreMembersOrdered ms → get_member k ms ≡ None
before_all k no_members h o = refl
before_all k (member l d ms) h o =
    skips k l d ms (ap is_eq h) ∙ before_all k ms (still_before k l ms h o.0) o.2

no_left : (e : Data) (o : Option Data) → o ≡ Some e → AreBoth None o → ⊥
no_left e None h a = cc
no_left e (Some d) h a = a

no_right : (d : Data) (o : Option Data) → o ≡ Some d → AreBoth o None → ⊥
no_right d None h a = cc
no_right d (Some e) h a = a

-- both are as these are
pub both_are : (a b c d : Option Data) → a ≡ c → b ≡ d → AreBoth a b → AreBoth c d
both_are a b c d e f h = subst (λ (x : Option Data). AreBoth x d) e (subst (λ (y : Option Data). AreBoth a y) f h)

abbrev Everywhere : Members → Members → Type 0
Everywhere ms ns = (q : Text) → AreBoth (get_member q ms) (get_member q ns)

pub alike_members : (ms ns : Members) → AreMembersOrdered ms → AreMembersOrdered ns → Everywhere ms ns → AreMembersAlike ms ns
alike_members no_members no_members o p h = tt
alike_members no_members (member l e ns) o p h = absurd (no_left e (get_member l (member l e ns)) (finds l e ns) (h l))
alike_members (member k d ms) no_members o p h = absurd (no_right d (get_member k (member k d ms)) (finds k d ms) (h k))
alike_members (member k d ms) (member l e ns) o p h = by_order (slice_cmp nat_cmp k l) refl (λ r. alike_members ms ns o.2 p.2 r)
  where
    rest : k ≡ l → Everywhere ms ns
    rest same q =
        by_cases (same_text q k) (λ b. AreBoth (get_member q ms) (get_member q ns))
        (λ f. let is : q ≡ k = texts_same q k f in
        both_are None None (get_member q ms) (get_member q ns)
        (sym (ap (λ (x : Text). get_member x ms) is ∙ before_all k ms o.0 o.2))
        (sym (ap (λ (x : Text). get_member x ns) (is ∙ same) ∙ before_all l ns p.0 p.2)) tt)
        (λ f. both_are (get_member q (member k d ms)) (get_member q (member l e ns)) (get_member q ms) (get_member q ns)
        (skips q k d ms f) (skips q l e ns (ap (same_text q) (sym same) ∙ f)) (h q))

    by_order : (c : Ordering) → slice_cmp nat_cmp k l ≡ c → (Everywhere ms ns → AreMembersAlike ms ns)
        → AreMembersAlike (member k d ms) (member l e ns)
    by_order Less c again = absurd (no_right d (get_member k (member k d ms)) (finds k d ms)
        (both_are (get_member k (member k d ms)) (get_member k (member l e ns)) (get_member k (member k d ms)) None refl
        (before_all k (member l e ns) c p) (h k)))
    by_order Equal c again =
        let same : k ≡ l = exact_bytes k l c in (
          same,
          both_are (get_member k (member k d ms)) (get_member k (member l e ns)) (Some d) (Some e) (finds k d ms)
              (ap (λ (x : Text). get_member x (member l e ns)) same ∙ finds l e ns) (h k),
          again (rest same),
        )
    by_order Greater c again =
        let turned_order : slice_cmp nat_cmp l k ≡ Less = nat_list_cmp_total.antisymm l k ∙ ap ordering_reverse c in
        absurd (no_left e (get_member l (member l e ns)) (finds l e ns)
        (both_are (get_member l (member k d ms)) (get_member l (member l e ns)) None (get_member l (member l e ns))
        (before_all l (member k d ms) turned_order o) refl (h l)))

-- ---- by their keys
none_of_them : (keys : List Text) (ms : Members) (q : Text) → are_keys_among keys ms ≡ true → is_among keys q ≡ false
    → get_member q ms ≡ None
none_of_them keys no_members q h g = refl
none_of_them keys (member k d ms) q h g =
    skips q k d ms (by_cases (same_text q k) (λ b. b ≡ false)
    (λ e. absurd (apart (sym g ∙ ap (is_among keys) (texts_same q k e) ∙ first_true (is_among keys k) (are_keys_among keys ms) h)))
    (λ e. refl))
    ∙ none_of_them keys ms q (second_true (is_among keys k) (are_keys_among keys ms) h) g

abbrev pub AtEach : List Text → Members → Members → Type 0
AtEach keys ms ns = AllByRecursion (λ k. AreBoth (get_member k ms) (get_member k ns)) keys

one_of_them : (keys : List Text) (ms ns : Members) (q : Text) → AtEach keys ms ns → is_among keys q ≡ true
    → AreBoth (get_member q ms) (get_member q ns)
one_of_them [] ms ns q h g = cc
one_of_them (k ∷ keys) ms ns q h g =
    by_cases (same_text k q) (λ b. is_some (cond b (Some 0) (place_in keys q 1)) ≡ true → AreBoth (get_member q ms) (get_member q ns))
    (λ e f. subst (λ (x : Text). AreBoth (get_member x ms) (get_member x ns)) (texts_same k q e) h.0)
    (λ e f. one_of_them keys ms ns q h.1 (some_place keys q 0 1 ∙ f)) g

pub alike_by_keys : (keys : List Text) (ms ns : Members) → AreMembersOrdered ms → AreMembersOrdered ns
    → are_keys_among keys ms ≡ true → are_keys_among keys ns ≡ true → AtEach keys ms ns → AreMembersAlike ms ns
alike_by_keys keys ms ns o p h g each = alike_members ms ns o p everywhere
  where
    everywhere : Everywhere ms ns
    everywhere q =
        by_cases (is_among keys q) (λ b. AreBoth (get_member q ms) (get_member q ns)) (λ e. one_of_them keys ms ns q each e)
        (λ e. both_are None None (get_member q ms) (get_member q ns)
        (sym (none_of_them keys ms q h e)) (sym (none_of_them keys ns q g e)) tt)

pub member_ordered : (key : Text) (ms : Members) (d : Data) → AreMembersOrdered ms → get_member key ms ≡ Some d → IsOrdered d
member_ordered key no_members d o h = cc
member_ordered key (member k e ms) d o h = at (slice_cmp nat_cmp key k) h (λ g. member_ordered key ms d o.2 g)
  where
    at : (c : Ordering) → match_ordering c (get_member key ms) (Some e) (get_member key ms) ≡ Some d
        → (get_member key ms ≡ Some d → IsOrdered d) → IsOrdered d
    at Less g again = again g
    at Equal g again = let same : e ≡ d = cc in subst IsOrdered same o.1
    at Greater g again = again g
