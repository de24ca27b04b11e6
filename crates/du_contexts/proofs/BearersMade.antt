-- The bearers of a new context, made one after another.
use Rattle.std.proofs.Common.{◌≡◌, ℕ, suc, ◌+◌, ◌<◌, ◌==◌, get_or, drop, length, Bool, true, false, cond, ◌&&◌, List, [], ◌∷◌, ◌++◌, Option, refl, sym, ap, subst, ◌∙◌, append_assoc, eqb-true, map, arith}
use Rattle.std.proofs.lemmas.Bool.Decides.{nat_tests}
use Rattle.std.specs.declared.cmp.Ordering.{Ordering}
use Rattle.std.specs.declared.cmp.Ordering.TheVariants.{Less, Greater}
use Rattle.std.specs.Ordering.{nat_cmp, ordering_reverse}
use Rattle.std.specs.Cmp.{IsTotalOrder}
use Rattle.std.specs.List.{AllByRecursion}
use Rattle.std.specs.List.Sorted.{IsStrictlySortedBy}
use Rattle.std.specs.Map.{keys_of}
use Rattle.std.proofs.lemmas.Map.Keys.{sorted_head, sorted_tail}
use Rattle.std.proofs.Math.Seq.{drop-cons}
use Rattle.gnb_types.specs.declared.names.BearerId.{BearerId}
use Rattle.gnb_types.specs.declared.names.NodeId.{NodeId}
use Rattle.gnb_types.specs.declared.names.NodeId.TheVariants.{CuUp}
use Rattle.gnb_types.specs.declared.names.SnBits.{SnBits}
use Rattle.gnb_types.specs.declared.names.UeId.{UeId}
use Rattle.gnb_types.specs.declared.outputs.Output.{Output}
use Rattle.gnb_types.specs.declared.plans.Peer.{Peer}
use Rattle.gnb_types.specs.declared.plans.Tunnel.{Tunnel}
use Rattle.gnb_types.specs.Orders.{bearer_cmp}
use Rattle.gnb_types.proofs.OrderLemmas.{bearer_total}
use Rattle.tables.specs.Tables.{put}
use Rattle.unit_defs.specs.Ways.{gives, spent, closed, teids_spent}
use Rattle.unit_defs.specs.Teids.{teids_are_left}
use Rattle.unit_defs.specs.Messages.{bearers_of, are_from}
use Rattle.unit_defs.specs.Du.{DuBearer, DuContext, bearers_made, context_with, old_downlinks, openings, replaced, replaces}
use Rattle.unit_defs.specs.octet_defs.Codec.{Codec, octet_way}
use Rattle.unit_defs.specs.octet_defs.Units.{OctetAnswer}
use Rattle.unit_messages.specs.steps.Steps.{stopped, step_after}
use Rattle.du_contexts.specs.Tables.{OctetDu, DuTables, with_tables}

-- ---- a table that is filled in the order of its keys

last_of : {K : Type 0} (P : K → Type 0) (xs : List K) (k : K) (ks : List K) → AllByRecursion P (xs ++ k ∷ ks) → P k
last_of P [] k ks all = all.0
last_of P (x ∷ xs) k ks all = last_of P xs k ks all.1

keys_append : {K X : Type 0} (m : List (K × X)) (k : K) (v : X) (ks : List K) → keys_of (m ++ (k, v) ∷ []) ++ ks ≡ keys_of m ++ k ∷ ks
keys_append [] k v ks = refl
keys_append {K = K} (e ∷ es) k v ks = ap (λ (xs : List K). e.0 ∷ xs) (keys_append es k v ks)

module _ {K X : Type 0} {R : K → K → Ordering} (o : IsTotalOrder R) where
  put_last : (m : List (K × X)) (k : K) (v : X) (ks : List K) → IsStrictlySortedBy R (keys_of m ++ k ∷ ks)
      → put R m k v ≡ m ++ (k, v) ∷ []
  unfolding put
  put_last [] k v ks sorted = refl
  put_last (e ∷ es) k v ks sorted =
      let below : R e.0 k ≡ Less = last_of (λ y. R e.0 y ≡ Less) (keys_of es) k ks (sorted_head R e.0 (keys_of es ++ k ∷ ks) sorted) in
      let above : R k e.0 ≡ Greater = o.antisymm k e.0 ∙ ap ordering_reverse below in
      rw above (ap (λ (xs : List (K × X)). e ∷ xs) (put_last es k v ks (sorted_tail R e.0 (keys_of es ++ k ∷ ks) sorted)))

  -- one entry of the rest goes to the table: what both are together stays
  pub entry_goes : (m n : List (K × X)) (k : K) (v : X) (ks : List K) (rest : List (K × X)) → IsStrictlySortedBy R (keys_of m ++ k ∷ ks)
      → n ≡ put R m k v → n ++ rest ≡ m ++ (k, v) ∷ rest
  entry_goes m n k v ks rest sorted is =
      ap (λ (xs : List (K × X)). xs ++ rest) (is ∙ put_last m k v ks sorted) ∙ append_assoc m ((k, v) ∷ []) rest

  pub keys_go : (m n : List (K × X)) (k : K) (v : X) (ks : List K) → IsStrictlySortedBy R (keys_of m ++ k ∷ ks)
      → n ≡ put R m k v → IsStrictlySortedBy R (keys_of n ++ ks)
  keys_go m n k v ks sorted is =
      subst (λ (xs : List K). IsStrictlySortedBy R xs)
      (sym (ap (λ (xs : List (K × X)). keys_of xs ++ ks) (is ∙ put_last m k v ks sorted) ∙ keys_append m k v ks)) sorted

-- ---- one tunnel more has its bearer

module _ (up : NodeId) (teid i : ℕ) (us : List Tunnel) (d : Tunnel) (m n : List (BearerId × DuBearer))
    (within : i < length us)
    (sorted : IsStrictlySortedBy bearer_cmp (keys_of m ++ bearers_of (drop i us)))
    (is : n ≡ put bearer_cmp m (get_or us i d).bearer (record { up = up; uplink = (get_or us i d).teid; downlink = teid; awaited = 0; gap = false })) where
  split_off : drop i us ≡ get_or us i d ∷ drop (i + 1) us
  split_off =
      let next : suc i ≡ i + 1 = omega arith in
      drop-cons us i d within ∙ ap (λ (j : ℕ). get_or us i d ∷ drop j us) next

  sorted_now : IsStrictlySortedBy bearer_cmp (keys_of m ++ (get_or us i d).bearer ∷ bearers_of (drop (i + 1) us))
  sorted_now = subst (λ (ts : List Tunnel). IsStrictlySortedBy bearer_cmp (keys_of m ++ bearers_of ts)) split_off sorted

  pub made_all : (all : List (BearerId × DuBearer)) → m ++ bearers_made up teid (drop i us) ≡ all
      → n ++ bearers_made up (teid + 1) (drop (i + 1) us) ≡ all
  made_all all before =
      entry_goes bearer_total m n _ _ (bearers_of (drop (i + 1) us)) (bearers_made up (teid + 1) (drop (i + 1) us)) sorted_now is
      ∙ ap (λ (ts : List Tunnel). m ++ bearers_made up teid ts) (sym split_off)
      ∙ before

  pub made_sorted : IsStrictlySortedBy bearer_cmp (keys_of n ++ bearers_of (drop (i + 1) us))
  made_sorted = keys_go bearer_total m n _ _ (bearers_of (drop (i + 1) us)) sorted_now is

-- ---- bearers that are 1, 2, 3 and so on are in order

less : (x y : ℕ) → x < y → nat_cmp x y ≡ Less
less x y h = grind (arith, nat_tests)

both_true : (a b : Bool) → a && b ≡ true → (a ≡ true) × (b ≡ true)
both_true true b h = (refl, h)
both_true false b h = absurd cc

all_above : (b : BearerId) (j : ℕ) (bs : List BearerId) → b.0 < j → are_from j bs ≡ true → AllByRecursion (λ y. bearer_cmp b y ≡ Less) bs
all_above b j [] h is = tt
all_above b j (y ∷ ys) h is =
    let parts : (y.0 == j ≡ true) × (are_from (j + 1) ys ≡ true) = both_true (y.0 == j) (are_from (j + 1) ys) is in
    let at_j : y.0 ≡ j = eqb-true y.0 j parts.0 in
    (less b.0 y.0 (omega arith), all_above b (j + 1) ys (omega arith) parts.1)

pub sorted_from : (i : ℕ) (bs : List BearerId) → are_from i bs ≡ true → IsStrictlySortedBy bearer_cmp bs
unfolding IsStrictlySortedBy
sorted_from i [] is = tt
sorted_from i (b ∷ bs) is =
    let parts : (b.0 == i ≡ true) × (are_from (i + 1) bs ≡ true) = both_true (b.0 == i) (are_from (i + 1) bs) is in
    let at_i : b.0 ≡ i = eqb-true b.0 i parts.0 in
    (all_above b (i + 1) bs (omega arith) parts.1, sorted_from (i + 1) bs parts.1)

-- ---- no TEIDs are left

pub length_made : (up : NodeId) (n : ℕ) (us : List Tunnel) → length (bearers_made up n us) ≡ length us
length_made up n [] = refl
length_made up n (u ∷ us) = ap suc (length_made up (n + 1) us)

pub no_teids_left : (codec : Codec) (r : OctetDu) (ue : UeId) (old : Option DuContext) (before : List Output) (epoch : ℕ) (us : List Tunnel) (sn : SnBits) (peer : Peer)
    (t : DuTables) → teids_are_left t.next_teid (length us) ≡ false
    → step_after before (replaces (octet_way codec) ue old (context_with (octet_way codec) (with_tables r t) epoch us sn peer) (with_tables r t)) ≡ stopped 2
unfolding replaces
no_teids_left codec r ue old before epoch us sn peer t none =
    let c : DuContext = context_with (octet_way codec) (with_tables r t) epoch us sn peer in
    let giving : OctetAnswer OctetDu = gives (map (λ teid. closed teid) (old_downlinks (octet_way codec) old) ++ openings (octet_way codec) c) (replaced (octet_way codec) ue old c (with_tables r t)) in
    ap (λ (b : Bool). step_after before (cond b giving (spent teids_spent)))
    (ap (λ (k : ℕ). teids_are_left t.next_teid k) (length_made (CuUp peer.gnb peer.up) t.next_teid us) ∙ none)
