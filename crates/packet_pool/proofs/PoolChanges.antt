-- What a change of one block, or of a quota, is to the pool, and that the parts stay tied.
use Rattle.std.proofs.Common.{◌≡◌, ◌≢◌, ◌==◌, ℕ, zero, suc, ◌+◌, ◌-◌, ◌<◌, ◌≤◌, Bool, true, false, cond, List, [], ◌∷◌, length, take, Option, Some, None, refl, sym, ap, ◌∙◌, subst, true≢false, eqb-true, get_or, set, length-set, replicate, zero-add, add-zero, arith}
use Rattle.std.specs.Prelude.{Result, Ok, Err, OnOk, OnErr, IsSome, IfSome, slice_get, unwrap_or}
use Rattle.std.specs.Ordering.{nat_cmp, eq_by_cmp, is_eq}
use Rattle.std.specs.Cmp.{tied_itself, Equal-is}
use Rattle.std.specs.List.{count_by}
use Rattle.std.specs.List.Sorted.{IsStrictlySortedBy}
use Rattle.std.specs.Map.{values_of}
use Rattle.std.proofs.lemmas.Bool.{eqb-false}
use Rattle.std.proofs.lemmas.Option.{slice_get-get_or}
use Rattle.std.proofs.lemmas.List.{length-replicate}
use Rattle.std.proofs.lemmas.List.Sums.{sum_by-cons}
use Rattle.gnb_types.specs.declared.keys.EntityKey.{EntityKey}
use Rattle.gnb_types.specs.Orders.{entity_cmp}
use Rattle.gnb_types.proofs.OrderLemmas.{entity_total, entity_exact}
use Rattle.tables.specs.Tables.{find, put, without, at, IsSorted, IsKeyOrder}
use Rattle.tables.proofs.TableLaws.{at-put, at-without, other_key}
use Rattle.pdcp_defs.specs.pool_defs.Pools.{Stored, PoolState, new_pool, is_of, used, packet_of, with_packet, without_packet, IsPool}
use Rattle.pdcp_defs.proofs.pool_defs.PoolLaws.{held_apart, same_number, used_put, used_take}
use Rattle.packet_pool.specs.declared.region.Block.{Block}
use Rattle.packet_pool.specs.declared.contents.Content.{Content}
use Rattle.packet_pool.specs.inside.Regions.{RegionState, octets_at, numbers_from}
use Rattle.packet_pool.specs.inside.Accounts.{AccountsState, total}
use Rattle.packet_pool.specs.inside.Contents.{joined, content_at, stored_from, stored_in, place_from, place_in, marked}
use Rattle.packet_pool.specs.inside.Pools.{entry_before, entries, refs_of, places_of, state, named, IsConsistent}
use Rattle.packet_pool.proofs.RegionLemmas.{get_set, get_set_other}
use Rattle.packet_pool.proofs.EntryLemmas.{entries_same, entries_put, entries_without}
use Rattle.packet_pool.proofs.PoolLemmas.{content_set, content_set_other, content_within, find_refs, place_parked, place_unparked, stored_is, packet_found, held_block, pool_sound}

other_number : (a b : ℕ) → a ≢ b → (a == b) ≡ false
other_number a b other = by (a == b) refl
  where
    by : (t : Bool) → (a == b) ≡ t → t ≡ false
    by true is = absurd (other (eqb-true a b is))
    by false is = refl

-- ---- one block changes

module _ (blocks new : List Block) (contents : List (Option Content)) (b : ℕ) (within : b < length contents)
    (others : (n : ℕ) → n ≢ b → octets_at new n ≡ octets_at blocks n) where
  stored_others : (v : Option Content) (n : ℕ) → n ≢ b → stored_in new (set contents b v) n ≡ stored_in blocks contents n
  unfolding stored_in
  stored_others v n other =
      ap (λ (o : List ℕ). stored_from o (content_at (set contents b v) n)) (others n other)
      ∙ ap (stored_from (octets_at blocks n)) (content_set_other contents b v n other)

  sized_same : (v : Option Content) → length (set contents b v) ≡ length contents
  sized_same v = length-set contents b v

  pub refs_put : (c : Content) → refs_of new (set contents b (Some c))
      ≡ put nat_cmp (refs_of blocks contents) b (record { key = c.key; bytes = take c.len (octets_at new b) })
  refs_put c =
      ap (entries (stored_in new (set contents b (Some c))) 0) (sized_same (Some c))
      ∙ entries_put (stored_in blocks contents) (stored_in new (set contents b (Some c))) b (stored_others (Some c))
      (record { key = c.key; bytes = take c.len (octets_at new b) })
      (stored_is (set contents b (Some c)) new b c (content_set contents b (Some c) within))
      0 (length contents) (omega arith) (omega arith)

  pub refs_without : refs_of new (set contents b None) ≡ without nat_cmp (refs_of blocks contents) b
  unfolding stored_in
  refs_without =
      ap (entries (stored_in new (set contents b None)) 0) (sized_same None)
      ∙ entries_without (stored_in blocks contents) (stored_in new (set contents b None)) b (stored_others None)
      (ap (stored_from (octets_at new b)) (content_set contents b None within)) 0 (length contents)

module _ (contents : List (Option Content)) (b : ℕ) (within : b < length contents) where
  place_others : (v : Option Content) (n : ℕ) → n ≢ b → place_in (set contents b v) n ≡ place_in contents n
  unfolding place_in
  place_others v n other = ap (place_from n) (content_set_other contents b v n other)

  -- no place is had or lost
  pub places_kept : (v : Option Content) → place_from b v ≡ place_in contents b → places_of (set contents b v) ≡ places_of contents
  unfolding place_in
  places_kept v same =
      ap (entries (place_in (set contents b v)) 0) (length-set contents b v)
      ∙ entries_same (place_in contents) (place_in (set contents b v)) 0 (length contents) (λ j low. by j (j == b) refl)
    where
      by : (j : ℕ) (t : Bool) → (j == b) ≡ t → place_from j (content_at (set contents b v) j) ≡ place_from j (content_at contents j)
      by j true is =
          let here : j ≡ b = eqb-true j b is in
          subst (λ (n : ℕ). place_from n (content_at (set contents b v) n) ≡ place_from n (content_at contents n)) (sym here)
          (ap (place_from b) (content_set contents b v within) ∙ same)
      by j false is = ap (place_from j) (content_set_other contents b v j (eqb-false j b is))

  pub places_put : (c : Content) → c.parked ≡ true → places_of (set contents b (Some c)) ≡ put nat_cmp (places_of contents) b b
  places_put c mark =
      ap (entries (place_in (set contents b (Some c))) 0) (length-set contents b (Some c))
      ∙ entries_put (place_in contents) (place_in (set contents b (Some c))) b (place_others (Some c)) b
      (place_parked (set contents b (Some c)) b c (content_set contents b (Some c) within) mark)
      0 (length contents) (omega arith) (omega arith)

  pub places_without : (c : Content) → c.parked ≡ false → places_of (set contents b (Some c)) ≡ without nat_cmp (places_of contents) b
  places_without c mark =
      ap (entries (place_in (set contents b (Some c))) 0) (length-set contents b (Some c))
      ∙ entries_without (place_in contents) (place_in (set contents b (Some c))) b (place_others (Some c))
      (place_unparked (set contents b (Some c)) b c (content_set contents b (Some c) within) mark) 0 (length contents)

  -- a used block is marked
  pub refs_marked : (blocks : List Block) (c : Content) (mark : Bool) → content_at contents b ≡ Some c
      → refs_of blocks (set contents b (marked mark (content_at contents b))) ≡ refs_of blocks contents
  unfolding stored_in
  refs_marked blocks c mark has =
      ap (entries (stored_in blocks (set contents b (marked mark (content_at contents b)))) 0) (length-set contents b (marked mark (content_at contents b)))
      ∙ entries_same (stored_in blocks contents) (stored_in blocks (set contents b (marked mark (content_at contents b)))) 0 (length contents)
      (λ j low. by j (j == b) refl)
    where
      alike : (octets : List ℕ) (o : Option Content) → o ≡ Some c → stored_from octets (marked mark o) ≡ stored_from octets o
      alike octets None has = cc
      alike octets (Some d) has = refl

      by : (j : ℕ) (t : Bool) → (j == b) ≡ t
          → stored_from (octets_at blocks j) (content_at (set contents b (marked mark (content_at contents b))) j)
          ≡ stored_from (octets_at blocks j) (content_at contents j)
      by j true is =
          let here : j ≡ b = eqb-true j b is in
          subst (λ (n : ℕ). stored_from (octets_at blocks n) (content_at (set contents b (marked mark (content_at contents b))) n)
          ≡ stored_from (octets_at blocks n) (content_at contents n)) (sym here)
          (ap (stored_from (octets_at blocks b)) (content_set contents b (marked mark (content_at contents b)) within)
          ∙ alike (octets_at blocks b) (content_at contents b) has)
      by j false is =
          ap (stored_from (octets_at blocks j)) (content_set_other contents b (marked mark (content_at contents b)) j (eqb-false j b is))

-- ---- the parts stay tied

entities_ordered : IsKeyOrder entity_cmp
entities_ordered = record { total = entity_total; exact = entity_exact }

same_table : (region : RegionState) (contents new : List (Option Content)) (accounts : AccountsState) → IsConsistent region contents accounts
    → refs_of region.blocks new ≡ refs_of region.blocks contents → (key : EntityKey)
    → at entity_cmp 0 accounts.used key ≡ count_by (is_of key) (values_of (refs_of region.blocks new))
same_table region contents new accounts tied same key =
    tied.counted key ∙ ap (λ (m : List (ℕ × Stored)). count_by (is_of key) (values_of m)) (sym same)

slot_is : (contents : List (Option Content)) (b : ℕ) (c : Content) → content_at contents b ≡ Some c → slice_get contents b ≡ Some (Some c)
slot_is contents b c has = by (slice_get contents b) has
  where
    by : (o : Option (Option Content)) → joined o ≡ Some c → o ≡ Some (Some c)
    by None has = cc
    by (Some None) has = cc
    by (Some (Some d)) has = ap Some has

-- a mark changes nothing of this
pub tied_marked : (region : RegionState) (contents : List (Option Content)) (accounts : AccountsState) (b : ℕ) (c : Content) (mark : Bool)
    → IsConsistent region contents accounts → content_at contents b ≡ Some c
    → IsConsistent region (set contents b (marked mark (content_at contents b))) accounts
tied_marked region contents accounts b c mark tied has =
    let size : length (set contents b (marked mark (content_at contents b))) ≡ length contents = length-set contents b (marked mark (content_at contents b)) in
    record {
      free_once = λ n. named_same n (n == b) refl;
      sized = tied.sized ∙ sym size;
      short = λ n. short_same n (n == b) refl;
      counted = same_table region contents (set contents b (marked mark (content_at contents b))) accounts tied
          (refs_marked contents b within region.blocks c mark has);
      whole = tied.whole ∙ sym size;
      fits = subst (λ (n : ℕ). total accounts.quotas ≤ n) (sym size) tied.fits;
      limit = subst (λ (n : ℕ). n ≤ 65536) (sym size) tied.limit;
      sorted = tied.sorted;
      within = tied.within;
    }
  where
    within : b < length contents
    within = content_within contents b (subst IsSome (sym has) refl)

    named_same : (n : ℕ) (t : Bool) → (n == b) ≡ t
        → count_by (λ m. m == n) region.free ≡ named (slice_get (set contents b (marked mark (content_at contents b))) n)
    named_same n true is =
        let here : n ≡ b = eqb-true n b is in
        tied.free_once n ∙ ap (λ (k : ℕ). named (slice_get contents k)) here ∙ ap named (slot_is contents b c has)
        ∙ ap (λ (o : Option Content). named (Some (marked mark o))) (sym has)
        ∙ sym (ap named (get_set contents b (marked mark (content_at contents b)) within))
        ∙ ap (λ (k : ℕ). named (slice_get (set contents b (marked mark (content_at contents b))) k)) (sym here)
    named_same n false is =
        tied.free_once n ∙ ap named (sym (get_set_other contents b n (marked mark (content_at contents b)) (eqb-false n b is)))

    short_of : (o : Option Content) → IfSome o (λ c. c.len ≤ 2048) → IfSome (marked mark o) (λ c. c.len ≤ 2048)
    short_of None h = tt
    short_of (Some d) h = h

    short_same : (n : ℕ) (t : Bool) → (n == b) ≡ t → IfSome (content_at (set contents b (marked mark (content_at contents b))) n) (λ c. c.len ≤ 2048)
    short_same n true is =
        let here : n ≡ b = eqb-true n b is in
        subst (λ (o : Option Content). IfSome o (λ c. c.len ≤ 2048))
        (sym (content_set contents b (marked mark (content_at contents b)) within)
        ∙ ap (content_at (set contents b (marked mark (content_at contents b)))) (sym here))
        (short_of (content_at contents b) (tied.short b))
    short_same n false is =
        subst (λ (o : Option Content). IfSome o (λ c. c.len ≤ 2048)) (sym (content_set_other contents b (marked mark (content_at contents b)) n (eqb-false n b is)))
        (tied.short n)

pub same_state : {n m : ℕ} {a b : List (EntityKey × ℕ)} {r s : List (ℕ × Stored)} {p q : List (ℕ × ℕ)} → n ≡ m → a ≡ b → r ≡ s → p ≡ q
    → ◌≡◌ {A = PoolState} (record { blocks = n; quotas = a; refs = r; parked = p }) (record { blocks = m; quotas = b; refs = s; parked = q })
same_state sizes quotas refs places = λ i. record { blocks = sizes i; quotas = quotas i; refs = refs i; parked = places i }

-- what a mark is to the whole
pub marked_state : (region : RegionState) (contents : List (Option Content)) (accounts : AccountsState) (b : ℕ) (c : Content) (mark : Bool)
    (places : List (ℕ × ℕ)) → content_at contents b ≡ Some c
    → places_of (set contents b (marked mark (content_at contents b))) ≡ places
    → state region (set contents b (marked mark (content_at contents b))) accounts
    ≡ record (state region contents accounts) { parked = places }
marked_state region contents accounts b c mark places has is =
    let within : b < length contents = content_within contents b (subst IsSome (sym has) refl) in
    same_state (length-set contents b (marked mark (content_at contents b))) refl (refs_marked contents b within region.blocks c mark has) is

-- ---- a free block is used

-- the list of free blocks names its first one no more
module _ (free rest : List ℕ) (contents : List (Option Content)) (b : ℕ) (is : free ≡ b ∷ rest)
    (once : (n : ℕ) → count_by (λ m. m == n) free ≡ named (slice_get contents n)) where
  counts : (n : ℕ) → count_by (λ m. m == n) free ≡ cond (b == n) 1 0 + count_by (λ m. m == n) rest
  counts n = ap (count_by (λ m. m == n)) is ∙ sum_by-cons (λ m. cond (m == n) 1 0) b rest

  here_counts : count_by (λ m. m == b) free ≡ 1 + count_by (λ m. m == b) rest
  here_counts = counts b ∙ ap (λ (t : Bool). cond t 1 0 + count_by (λ m. m == b) rest) (same_number b)

  pub first_free : (slice_get contents b ≡ Some None) × (count_by (λ m. m == b) rest ≡ 0)
  first_free = by (slice_get contents b) refl (sym here_counts ∙ once b)
    where
      by : (o : Option (Option Content)) → slice_get contents b ≡ o → 1 + count_by (λ m. m == b) rest ≡ named (slice_get contents b)
          → (slice_get contents b ≡ Some None) × (count_by (λ m. m == b) rest ≡ 0)
      by None has count =
          let none : named (slice_get contents b) ≡ 0 = ap named has in
          absurd (omega arith)
      by (Some None) has count =
          let one : named (slice_get contents b) ≡ 1 = ap named has in
          (has, omega arith)
      by (Some (Some c)) has count =
          let none : named (slice_get contents b) ≡ 0 = ap named has in
          absurd (omega arith)

  pub once_used : (c : Content) → b < length contents → (n : ℕ) → count_by (λ m. m == n) rest ≡ named (slice_get (set contents b (Some c)) n)
  once_used c within n = by (b == n) refl (counts n)
    where
      by : (t : Bool) → (b == n) ≡ t → count_by (λ m. m == n) free ≡ cond t 1 0 + count_by (λ m. m == n) rest
          → count_by (λ m. m == n) rest ≡ named (slice_get (set contents b (Some c)) n)
      by true same count =
          subst (λ (n : ℕ). count_by (λ m. m == n) rest ≡ named (slice_get (set contents b (Some c)) n)) (eqb-true b n same)
          (first_free.1 ∙ sym (ap named (get_set contents b (Some c) within)))
      by false other count =
          let apart : n ≢ b = λ e. eqb-false b n other (sym e) in
          let kept : named (slice_get (set contents b (Some c)) n) ≡ named (slice_get contents n) = ap named (get_set_other contents b n (Some c) apart) in
          let old : count_by (λ m. m == n) free ≡ named (slice_get contents n) = once n in
          omega arith

-- what is used of each key goes up with its account
counted_put : (p : PoolState) (limit : ℕ) (sound : IsPool limit p) (r : ℕ) (x : Stored) (old new : List (EntityKey × ℕ))
    → find nat_cmp p.refs r ≡ None → ((key : EntityKey) → at entity_cmp 0 old key ≡ used p key)
    → new ≡ put entity_cmp old x.key (at entity_cmp 0 old x.key + 1) → (key : EntityKey)
    → at entity_cmp 0 new key ≡ used (with_packet p r x) key
counted_put p limit sound r x old new fresh counted is key =
    by (eq_by_cmp entity_cmp x.key key) refl
    (ap (λ (m : List (EntityKey × ℕ)). at entity_cmp 0 m key) is ∙ at-put entity_total 0 old x.key (at entity_cmp 0 old x.key + 1) key)
    (used_put limit p sound r x key fresh)
  where
    by : (t : Bool) → eq_by_cmp entity_cmp x.key key ≡ t
        → at entity_cmp 0 new key ≡ cond (eq_by_cmp entity_cmp key x.key) (at entity_cmp 0 old x.key + 1) (at entity_cmp 0 old key)
        → used (with_packet p r x) key ≡ used p key + cond t 1 0 → at entity_cmp 0 new key ≡ used (with_packet p r x) key
    by true tie account total =
        let same : x.key ≡ key = entity_exact x.key key ((Equal-is (entity_cmp x.key key)).0 tie) in
        let here : eq_by_cmp entity_cmp key x.key ≡ true =
        subst (λ (k : EntityKey). eq_by_cmp entity_cmp key k ≡ true) (sym same) (ap is_eq (tied_itself entity_total key)) in
        let old_here : at entity_cmp 0 old x.key ≡ used p key = counted x.key ∙ ap (used p) same in
        let account : at entity_cmp 0 new key ≡ at entity_cmp 0 old x.key + 1 =
        account ∙ ap (λ (t : Bool). cond t (at entity_cmp 0 old x.key + 1) (at entity_cmp 0 old key)) here in
        omega arith
    by false tie account total =
        let there : eq_by_cmp entity_cmp key x.key ≡ false =
        other_key entities_ordered key x.key (λ same. true≢false (sym (subst (λ (k : EntityKey). eq_by_cmp entity_cmp x.key k ≡ true) (sym same) (ap is_eq (tied_itself entity_total x.key))) ∙ tie)) in
        let old_there : at entity_cmp 0 old key ≡ used p key = counted key in
        let account : at entity_cmp 0 new key ≡ at entity_cmp 0 old key =
        account ∙ ap (λ (t : Bool). cond t (at entity_cmp 0 old x.key + 1) (at entity_cmp 0 old key)) there in
        omega arith

-- and down with it
counted_take : (p : PoolState) (limit : ℕ) (sound : IsPool limit p) (r : ℕ) (x : Stored) (old new : List (EntityKey × ℕ))
    → packet_of p r ≡ Some x → ((key : EntityKey) → at entity_cmp 0 old key ≡ used p key)
    → new ≡ put entity_cmp old x.key (at entity_cmp 0 old x.key - 1) → (key : EntityKey)
    → at entity_cmp 0 new key ≡ used (without_packet p r) key
counted_take p limit sound r x old new held counted is key =
    by (eq_by_cmp entity_cmp x.key key) refl
    (ap (λ (m : List (EntityKey × ℕ)). at entity_cmp 0 m key) is ∙ at-put entity_total 0 old x.key (at entity_cmp 0 old x.key - 1) key)
    (used_take p r limit sound x key held)
  where
    by : (t : Bool) → eq_by_cmp entity_cmp x.key key ≡ t
        → at entity_cmp 0 new key ≡ cond (eq_by_cmp entity_cmp key x.key) (at entity_cmp 0 old x.key - 1) (at entity_cmp 0 old key)
        → used (without_packet p r) key + cond t 1 0 ≡ used p key → at entity_cmp 0 new key ≡ used (without_packet p r) key
    by true tie account total =
        let same : x.key ≡ key = entity_exact x.key key ((Equal-is (entity_cmp x.key key)).0 tie) in
        let here : eq_by_cmp entity_cmp key x.key ≡ true =
        subst (λ (k : EntityKey). eq_by_cmp entity_cmp key k ≡ true) (sym same) (ap is_eq (tied_itself entity_total key)) in
        let old_here : at entity_cmp 0 old x.key ≡ used p key = counted x.key ∙ ap (used p) same in
        let account : at entity_cmp 0 new key ≡ at entity_cmp 0 old x.key - 1 =
        account ∙ ap (λ (t : Bool). cond t (at entity_cmp 0 old x.key - 1) (at entity_cmp 0 old key)) here in
        omega arith
    by false tie account total =
        let there : eq_by_cmp entity_cmp key x.key ≡ false =
        other_key entities_ordered key x.key (λ same. true≢false (sym (subst (λ (k : EntityKey). eq_by_cmp entity_cmp x.key k ≡ true) (sym same) (ap is_eq (tied_itself entity_total x.key))) ∙ tie)) in
        let old_there : at entity_cmp 0 old key ≡ used p key = counted key in
        let account : at entity_cmp 0 new key ≡ at entity_cmp 0 old key =
        account ∙ ap (λ (t : Bool). cond t (at entity_cmp 0 old x.key - 1) (at entity_cmp 0 old key)) there in
        omega arith

same_entity : (a b : EntityKey) → eq_by_cmp entity_cmp a b ≡ true → a ≡ b
same_entity a b tie = entity_exact a b ((Equal-is (entity_cmp a b)).0 tie)

pub stored_none : (blocks : List Block) (contents : List (Option Content)) (b : ℕ) → content_at contents b ≡ None → stored_in blocks contents b ≡ None
unfolding stored_in
stored_none blocks contents b none = ap (stored_from (octets_at blocks b)) none

pub place_none : (contents : List (Option Content)) (b : ℕ) → content_at contents b ≡ None → place_in contents b ≡ None
unfolding place_in
place_none contents b none = ap (place_from b) none

short_set : (contents : List (Option Content)) (b : ℕ) (v : Option Content) → b < length contents
    → ((n : ℕ) → IfSome (content_at contents n) (λ c. c.len ≤ 2048)) → IfSome v (λ c. c.len ≤ 2048)
    → (n : ℕ) → IfSome (content_at (set contents b v) n) (λ c. c.len ≤ 2048)
short_set contents b v within short here n = by (n == b) refl
  where
    by : (t : Bool) → (n == b) ≡ t → IfSome (content_at (set contents b v) n) (λ c. c.len ≤ 2048)
    by true is =
        subst (λ (o : Option Content). IfSome o (λ c. c.len ≤ 2048))
        (sym (content_set contents b v within) ∙ ap (content_at (set contents b v)) (sym (eqb-true n b is))) here
    by false is =
        subst (λ (o : Option Content). IfSome o (λ c. c.len ≤ 2048)) (sym (content_set_other contents b v n (eqb-false n b is))) (short n)

within_put : (old quotas : List (EntityKey × ℕ)) (k : EntityKey) (v : ℕ) → ((key : EntityKey) → at entity_cmp 0 old key ≤ at entity_cmp 0 quotas key)
    → v ≤ at entity_cmp 0 quotas k → (key : EntityKey) → at entity_cmp 0 (put entity_cmp old k v) key ≤ at entity_cmp 0 quotas key
within_put old quotas k v within here key =
    subst (λ (n : ℕ). n ≤ at entity_cmp 0 quotas key) (sym (at-put entity_total 0 old k v key)) (by (eq_by_cmp entity_cmp key k) refl)
  where
    by : (t : Bool) → eq_by_cmp entity_cmp key k ≡ t → cond t v (at entity_cmp 0 old key) ≤ at entity_cmp 0 quotas key
    by true tie = subst (λ (q : EntityKey). v ≤ at entity_cmp 0 quotas q) (sym (same_entity key k tie)) here
    by false tie = within key

-- a packet is put into the first free block
pub tied_put : (r0 r2 : RegionState) (contents : List (Option Content)) (a0 a1 : AccountsState) (b : ℕ) (c : Content)
    → IsConsistent r0 contents a0 → r0.free ≡ b ∷ r2.free → length r2.blocks ≡ length r0.blocks
    → ((n : ℕ) → n ≢ b → octets_at r2.blocks n ≡ octets_at r0.blocks n) → b < length contents → c.len ≤ 2048
    → a1.quotas ≡ a0.quotas → a1.used ≡ put entity_cmp a0.used c.key (at entity_cmp 0 a0.used c.key + 1)
    → total a1.used ≡ total a0.used + 1 → at entity_cmp 0 a0.used c.key < at entity_cmp 0 a0.quotas c.key
    → IsConsistent r2 (set contents b (Some c)) a1
unfolding used
tied_put r0 r2 contents a0 a1 b c tied free blocks others within short quotas account whole room =
    let size : length (set contents b (Some c)) ≡ length contents = length-set contents b (Some c) in
    let free_size : length r0.free ≡ suc (length r2.free) = ap length free in
    let none : content_at contents b ≡ None = ap joined (first_free r0.free r2.free contents b free tied.free_once).0 in
    record {
      free_once = once_used r0.free r2.free contents b free tied.free_once c within;
      sized = blocks ∙ tied.sized ∙ sym size;
      short = short_set contents b (Some c) within tied.short short;
      counted = λ key.
          counted_put (state r0 contents a0) 2048 (pool_sound r0 contents a0 tied) b
          (record { key = c.key; bytes = take c.len (octets_at r2.blocks b) }) a0.used a1.used
          (find_refs contents r0.blocks b ∙ stored_none r0.blocks contents b none) tied.counted account key
          ∙ ap (λ (m : List (ℕ × Stored)). count_by (is_of key) (values_of m)) (sym (refs_put r0.blocks r2.blocks contents b within others c));
      whole = omega (arith, tied.whole, size, free_size, whole);
      fits = subst (λ (q : List (EntityKey × ℕ)). total q ≤ length (set contents b (Some c))) (sym quotas)
          (subst (λ (n : ℕ). total a0.quotas ≤ n) (sym size) tied.fits);
      limit = subst (λ (n : ℕ). n ≤ 65536) (sym size) tied.limit;
      sorted = subst (IsSorted entity_cmp) (sym quotas) tied.sorted;
      within = λ key.
          subst (λ (q : List (EntityKey × ℕ)). at entity_cmp 0 a1.used key ≤ at entity_cmp 0 q key) (sym quotas)
          (subst (λ (u : List (EntityKey × ℕ)). at entity_cmp 0 u key ≤ at entity_cmp 0 a0.quotas key) (sym account)
          (within_put a0.used a0.quotas c.key (at entity_cmp 0 a0.used c.key + 1) tied.within (omega arith) key));
    }

pub put_state : (r0 r2 : RegionState) (contents : List (Option Content)) (a0 a1 : AccountsState) (b : ℕ) (c : Content) (bytes : List ℕ)
    → b < length contents → content_at contents b ≡ None → c.parked ≡ false
    → ((n : ℕ) → n ≢ b → octets_at r2.blocks n ≡ octets_at r0.blocks n)
    → a1.quotas ≡ a0.quotas → take c.len (octets_at r2.blocks b) ≡ bytes
    → state r2 (set contents b (Some c)) a1 ≡ with_packet (state r0 contents a0) b (record { key = c.key; bytes = bytes })
unfolding place_in
put_state r0 r2 contents a0 a1 b c bytes within none mark others quotas written =
    same_state (length-set contents b (Some c)) quotas
    (refs_put r0.blocks r2.blocks contents b within others c
    ∙ ap (λ (o : List ℕ). put nat_cmp (refs_of r0.blocks contents) b (record { key = c.key; bytes = o })) written)
    (places_kept contents b within (Some c) (ap (λ (t : Bool). cond t (Some b) None) mark ∙ sym (ap (place_from b) none)))

-- ---- a used block is given back

pub content_got : (contents : List (Option Content)) (b : ℕ) (slot : Option Content) → b < length contents → slot ≡ get_or contents b slot
    → content_at contents b ≡ slot
content_got contents b slot within is = ap joined (slice_get-get_or contents b slot within ∙ ap Some (sym is))

module _ (region : RegionState) (contents : List (Option Content)) (accounts : AccountsState) (b : ℕ) (c : Content)
    (tied : IsConsistent region contents accounts) (held : IsSome (packet_of (state region contents accounts) b)) (has : content_at contents b ≡ Some c) where
  held_is : packet_of (state region contents accounts) b ≡ Some (record { key = c.key; bytes = take c.len (octets_at region.blocks b) })
  held_is =
      packet_found region contents accounts b (held_apart (state region contents accounts) b held) ∙ stored_is contents region.blocks b c has

  pub used_some : 0 < at entity_cmp 0 accounts.used c.key
  unfolding used
  used_some =
      let total = used_take (state region contents accounts) b 2048 (pool_sound region contents accounts tied)
      (record { key = c.key; bytes = take c.len (octets_at region.blocks b) }) c.key held_is in
      let one : used (without_packet (state region contents accounts) b) c.key + 1 ≡ used (state region contents accounts) c.key =
      ap (λ (t : Bool). used (without_packet (state region contents accounts) b) c.key + cond t 1 0) (sym (ap is_eq (tied_itself entity_total c.key))) ∙ total in
      let account : at entity_cmp 0 accounts.used c.key ≡ used (state region contents accounts) c.key = tied.counted c.key in
      omega arith

  pub not_free : count_by (λ m. m == b) region.free ≡ 0
  not_free = tied.free_once b ∙ ap named (slot_is contents b c has)

  pub tied_take : (r1 : RegionState) (a1 : AccountsState) → r1.free ≡ b ∷ region.free → length r1.blocks ≡ length region.blocks
      → ((n : ℕ) → n ≢ b → octets_at r1.blocks n ≡ octets_at region.blocks n)
      → a1.quotas ≡ accounts.quotas → a1.used ≡ put entity_cmp accounts.used c.key (at entity_cmp 0 accounts.used c.key - 1)
      → total a1.used + 1 ≡ total accounts.used → IsConsistent r1 (set contents b None) a1
  unfolding used
  tied_take r1 a1 free blocks others quotas account whole =
      let size : length (set contents b None) ≡ length contents = length-set contents b None in
      let free_size : length r1.free ≡ suc (length region.free) = ap length free in
      let within : b < length contents = content_within contents b (subst IsSome (sym has) refl) in
      record {
        free_once = λ n. once n (b == n) refl within;
        sized = blocks ∙ tied.sized ∙ sym size;
        short = short_set contents b None within tied.short tt;
        counted = λ key.
            counted_take (state region contents accounts) 2048 (pool_sound region contents accounts tied) b
            (record { key = c.key; bytes = take c.len (octets_at region.blocks b) }) accounts.used a1.used held_is tied.counted account key
            ∙ ap (λ (m : List (ℕ × Stored)). count_by (is_of key) (values_of m)) (sym (refs_without region.blocks r1.blocks contents b within others));
        whole = omega (arith, tied.whole, size, free_size, whole);
        fits = subst (λ (q : List (EntityKey × ℕ)). total q ≤ length (set contents b None)) (sym quotas)
            (subst (λ (n : ℕ). total accounts.quotas ≤ n) (sym size) tied.fits);
        limit = subst (λ (n : ℕ). n ≤ 65536) (sym size) tied.limit;
        sorted = subst (IsSorted entity_cmp) (sym quotas) tied.sorted;
        within = λ key.
            subst (λ (q : List (EntityKey × ℕ)). at entity_cmp 0 a1.used key ≤ at entity_cmp 0 q key) (sym quotas)
            (subst (λ (u : List (EntityKey × ℕ)). at entity_cmp 0 u key ≤ at entity_cmp 0 accounts.quotas key) (sym account)
            (within_put accounts.used accounts.quotas c.key (at entity_cmp 0 accounts.used c.key - 1) tied.within (omega (arith, tied.within c.key)) key));
      }
    where
      once : (n : ℕ) (t : Bool) → (b == n) ≡ t → b < length contents → count_by (λ m. m == n) r1.free ≡ named (slice_get (set contents b None) n)
      once n true same within =
          subst (λ (n : ℕ). count_by (λ m. m == n) r1.free ≡ named (slice_get (set contents b None) n)) (eqb-true b n same)
          (ap (count_by (λ m. m == b)) free ∙ sum_by-cons (λ m. cond (m == b) 1 0) b region.free
          ∙ ap (λ (t : Bool). cond t 1 0 + count_by (λ m. m == b) region.free) (same_number b)
          ∙ ap (λ (n : ℕ). 1 + n) not_free ∙ sym (ap named (get_set contents b None within)))
      once n false other within =
          ap (count_by (λ m. m == n)) free ∙ sum_by-cons (λ m. cond (m == n) 1 0) b region.free
          ∙ ap (λ (t : Bool). cond t 1 0 + count_by (λ m. m == n) region.free) other ∙ zero-add _
          ∙ tied.free_once n ∙ sym (ap named (get_set_other contents b n None (λ e. eqb-false b n other (sym e))))

  pub take_state : (r1 : RegionState) (a1 : AccountsState) → ((n : ℕ) → n ≢ b → octets_at r1.blocks n ≡ octets_at region.blocks n)
      → a1.quotas ≡ accounts.quotas
      → state r1 (set contents b None) a1 ≡ without_packet (state region contents accounts) b
  take_state r1 a1 others quotas =
      let within : b < length contents = content_within contents b (subst IsSome (sym has) refl) in
      let block = held_block region contents accounts b held in
      same_state (length-set contents b None) quotas
      (refs_without region.blocks r1.blocks contents b within others)
      (places_kept contents b within None (sym (place_unparked contents b block.0 block.1 block.2)))

-- ---- a new pool

entries_none : {X : Type 0} (f : ℕ → Option X) (first n : ℕ) → ((j : ℕ) → f j ≡ None) → entries f first n ≡ []
unfolding entries
entries_none f first zero none = refl
entries_none {X} f first (suc n) none =
    ap (λ (o : Option X). entry_before first o (entries f (suc first) n)) (none first) ∙ entries_none f (suc first) n none

no_content : (n k : ℕ) → content_at (replicate n None) k ≡ None
no_content zero k = refl
no_content (suc n) zero = refl
no_content (suc n) (suc k) = no_content n k

numbers_below : (first n k : ℕ) → k < first → count_by (λ m. m == k) (numbers_from first n) ≡ 0
unfolding numbers_from
numbers_below first zero k below = refl
numbers_below first (suc n) k below =
    sum_by-cons (λ m. cond (m == k) 1 0) first (numbers_from (suc first) n)
    ∙ ap (λ (t : Bool). cond t 1 0 + count_by (λ m. m == k) (numbers_from (suc first) n)) (other_number first k (omega arith))
    ∙ zero-add _ ∙ numbers_below (suc first) n k (omega arith)

numbers_named : (first n k : ℕ) → count_by (λ m. m == first + k) (numbers_from first n) ≡ named (slice_get (replicate n None) k)
unfolding numbers_from
numbers_named first zero k = refl
numbers_named first (suc n) zero =
    let here : (first == first + 0) ≡ true = ap (λ (m : ℕ). first == m) (add-zero first) ∙ same_number first in
    sum_by-cons (λ m. cond (m == first + 0) 1 0) first (numbers_from (suc first) n)
    ∙ ap (λ (t : Bool). cond t 1 0 + count_by (λ m. m == first + 0) (numbers_from (suc first) n)) here
    ∙ ap (λ (c : ℕ). 1 + c) (numbers_below (suc first) n (first + 0) (omega arith))
numbers_named first (suc n) (suc k) =
    let next : first + suc k ≡ suc first + k = omega arith in
    sum_by-cons (λ m. cond (m == first + suc k) 1 0) first (numbers_from (suc first) n)
    ∙ ap (λ (t : Bool). cond t 1 0 + count_by (λ m. m == first + suc k) (numbers_from (suc first) n)) (other_number first (first + suc k) (omega arith))
    ∙ zero-add _ ∙ ap (λ (c : ℕ). count_by (λ m. m == c) (numbers_from (suc first) n)) next ∙ numbers_named (suc first) n k

numbers_length : (first n : ℕ) → length (numbers_from first n) ≡ n
unfolding numbers_from
numbers_length first zero = refl
numbers_length first (suc n) = ap suc (numbers_length (suc first) n)

refs_none : (blocks : List Block) (n : ℕ) → refs_of blocks (replicate n None) ≡ []
unfolding stored_in
refs_none blocks n =
    entries_none (stored_in blocks (replicate n None)) 0 (length {A = Option Content} (replicate n None)) (λ j. ap (stored_from (octets_at blocks j)) (no_content n j))

places_none : (n : ℕ) → places_of (replicate n None) ≡ []
unfolding place_in
places_none n =
    entries_none (place_in (replicate n None)) 0 (length {A = Option Content} (replicate n None)) (λ j. ap (place_from j) (no_content n j))

pub tied_new : (region : RegionState) (contents : List (Option Content)) (accounts : AccountsState) (n : ℕ)
    → length region.blocks ≡ n → region.free ≡ numbers_from 0 n → contents ≡ replicate n None → accounts.quotas ≡ [] → accounts.used ≡ []
    → n ≤ 65536 → IsConsistent region contents accounts
unfolding at find IsStrictlySortedBy
tied_new region contents accounts n blocks free none quotas used_none limit =
    let size : length contents ≡ n = ap length none ∙ length-replicate n None in
    let all_free : length region.free ≡ n = ap length free ∙ numbers_length 0 n in
    let no_quotas : total accounts.quotas ≡ 0 = ap total quotas in
    let nothing : total accounts.used ≡ 0 = ap total used_none in
    record {
      free_once = λ k.
          ap (count_by (λ m. m == k)) free ∙ ap (λ (c : ℕ). count_by (λ m. m == c) (numbers_from 0 n)) (sym (zero-add k))
          ∙ numbers_named 0 n k ∙ ap (λ (s : List (Option Content)). named (slice_get s k)) (sym none);
      sized = blocks ∙ sym size;
      short = λ k. subst (λ (o : Option Content). IfSome o (λ c. c.len ≤ 2048))
          (sym (ap (λ (s : List (Option Content)). content_at s k) none ∙ no_content n k)) tt;
      counted = λ key.
          ap (λ (m : List (EntityKey × ℕ)). at entity_cmp 0 m key) used_none
          ∙ ap (λ (m : List (ℕ × Stored)). count_by (is_of key) (values_of m)) (sym (ap (refs_of region.blocks) none ∙ refs_none region.blocks n));
      whole = omega (arith, size, all_free, nothing);
      fits = omega (arith, no_quotas);
      limit = omega (arith, size);
      sorted = subst (IsSorted entity_cmp) (sym quotas) tt;
      within = λ key.
          subst (λ (u : List (EntityKey × ℕ)). at entity_cmp 0 u key ≤ at entity_cmp 0 accounts.quotas key) (sym used_none) (omega arith);
    }

pub new_state : (region : RegionState) (contents : List (Option Content)) (accounts : AccountsState) (n : ℕ)
    → contents ≡ replicate n None → accounts.quotas ≡ [] → state region contents accounts ≡ new_pool n
new_state region contents accounts n none quotas =
    same_state (ap length none ∙ length-replicate n None) quotas
    (ap (refs_of region.blocks) none ∙ refs_none region.blocks n) (ap places_of none ∙ places_none n)

-- ---- a quota is set, or given up

pub tied_reserved : (region : RegionState) (contents : List (Option Content)) (a0 a1 : AccountsState) (key : EntityKey) (n : ℕ)
    → IsConsistent region contents a0 → find entity_cmp a0.quotas key ≡ None
    → a1.quotas ≡ put entity_cmp a0.quotas key n → a1.used ≡ put entity_cmp a0.used key 0 → IsSorted entity_cmp a1.quotas
    → total a1.quotas ≤ length contents → total a1.used ≡ total a0.used → IsConsistent region contents a1
unfolding at
tied_reserved region contents a0 a1 key n tied absent quotas account sorted fits whole =
    record {
      free_once = tied.free_once;
      sized = tied.sized;
      short = tied.short;
      counted = λ k. ap (λ (m : List (EntityKey × ℕ)). at entity_cmp 0 m k) account ∙ at-put entity_total 0 a0.used key 0 k ∙ by k (eq_by_cmp entity_cmp k key) refl;
      whole = omega (arith, tied.whole, whole);
      fits = fits;
      limit = tied.limit;
      sorted = sorted;
      within = λ k.
          subst (λ (q : List (EntityKey × ℕ)). at entity_cmp 0 a1.used k ≤ at entity_cmp 0 q k) (sym quotas)
          (subst (λ (u : List (EntityKey × ℕ)). at entity_cmp 0 u k ≤ at entity_cmp 0 (put entity_cmp a0.quotas key n) k) (sym account)
          (within k (eq_by_cmp entity_cmp k key) (at-put entity_total 0 a0.used key 0 k) (at-put entity_total 0 a0.quotas key n k)));
    }
  where
    nothing : at entity_cmp 0 a0.used key ≡ 0
    nothing =
        let none : at entity_cmp 0 a0.quotas key ≡ 0 = ap (λ (o : Option ℕ). unwrap_or o 0) absent in
        omega (arith, tied.within key, none)

    by : (k : EntityKey) (t : Bool) → eq_by_cmp entity_cmp k key ≡ t
        → cond t 0 (at entity_cmp 0 a0.used k) ≡ count_by (is_of k) (values_of (refs_of region.blocks contents))
    by k true tie = sym nothing ∙ ap (at entity_cmp 0 a0.used) (sym (same_entity k key tie)) ∙ tied.counted k
    by k false tie = tied.counted k

    within : (k : EntityKey) (t : Bool) → at entity_cmp 0 (put entity_cmp a0.used key 0) k ≡ cond t 0 (at entity_cmp 0 a0.used k)
        → at entity_cmp 0 (put entity_cmp a0.quotas key n) k ≡ cond t n (at entity_cmp 0 a0.quotas k)
        → at entity_cmp 0 (put entity_cmp a0.used key 0) k ≤ at entity_cmp 0 (put entity_cmp a0.quotas key n) k
    within k true u q = omega arith
    within k false u q = omega (arith, tied.within k)

pub tied_released : (region : RegionState) (contents : List (Option Content)) (a0 a1 : AccountsState) (key : EntityKey)
    → IsConsistent region contents a0 → at entity_cmp 0 a0.used key ≡ 0
    → a1.quotas ≡ without entity_cmp a0.quotas key → a1.used ≡ without entity_cmp a0.used key → IsSorted entity_cmp a1.quotas
    → total a1.quotas ≤ total a0.quotas → total a1.used ≡ total a0.used → IsConsistent region contents a1
tied_released region contents a0 a1 key tied nothing quotas account sorted fits whole =
    record {
      free_once = tied.free_once;
      sized = tied.sized;
      short = tied.short;
      counted = λ k. ap (λ (m : List (EntityKey × ℕ)). at entity_cmp 0 m k) account ∙ at-without entity_total 0 a0.used key k ∙ by k (eq_by_cmp entity_cmp k key) refl;
      whole = omega (arith, tied.whole, whole);
      fits = omega (arith, fits, tied.fits);
      limit = tied.limit;
      sorted = sorted;
      within = λ k.
          subst (λ (q : List (EntityKey × ℕ)). at entity_cmp 0 a1.used k ≤ at entity_cmp 0 q k) (sym quotas)
          (subst (λ (u : List (EntityKey × ℕ)). at entity_cmp 0 u k ≤ at entity_cmp 0 (without entity_cmp a0.quotas key) k) (sym account)
          (within k (eq_by_cmp entity_cmp k key) (at-without entity_total 0 a0.used key k) (at-without entity_total 0 a0.quotas key k)));
    }
  where
    by : (k : EntityKey) (t : Bool) → eq_by_cmp entity_cmp k key ≡ t
        → cond t 0 (at entity_cmp 0 a0.used k) ≡ count_by (is_of k) (values_of (refs_of region.blocks contents))
    by k true tie = sym nothing ∙ ap (at entity_cmp 0 a0.used) (sym (same_entity k key tie)) ∙ tied.counted k
    by k false tie = tied.counted k

    within : (k : EntityKey) (t : Bool) → at entity_cmp 0 (without entity_cmp a0.used key) k ≡ cond t 0 (at entity_cmp 0 a0.used k)
        → at entity_cmp 0 (without entity_cmp a0.quotas key) k ≡ cond t 0 (at entity_cmp 0 a0.quotas k)
        → at entity_cmp 0 (without entity_cmp a0.used key) k ≤ at entity_cmp 0 (without entity_cmp a0.quotas key) k
    within k true u q = omega arith
    within k false u q = omega (arith, tied.within k)

-- ---- by the result of a call

pub on_err : {T E : Type 0} (r : Result T E) (P : Type 0) → P → OnErr r P
on_err (Ok x) P h = tt
on_err (Err e) P h = h

module _ {T E : Type 0} (region : RegionState) (contents : List (Option Content)) (a0 a1 : AccountsState) (key : EntityKey) (n : ℕ) where
  pub tied_after : (r : Result T E) → IsConsistent region contents a0 → find entity_cmp a0.quotas key ≡ None
      → OnOk r (a1.quotas ≡ put entity_cmp a0.quotas key n) → OnOk r (a1.used ≡ put entity_cmp a0.used key 0)
      → OnOk r (IsSorted entity_cmp a1.quotas) → OnOk r (total a0.quotas + n ≤ length contents)
      → OnOk r (total a1.quotas ≡ total a0.quotas + n) → OnOk r (total a1.used ≡ total a0.used) → OnErr r (a1 ≡ a0)
      → IsConsistent region contents a1
  tied_after (Ok x) tied absent quotas account sorted room whole same err =
      tied_reserved region contents a0 a1 key n tied absent quotas account sorted (omega (arith, room, whole)) same
  tied_after (Err e) tied absent quotas account sorted room whole same err =
      subst (λ (a : AccountsState). IsConsistent region contents a) (sym err) tied

pub on_ok : {T E : Type 0} (r : Result T E) (P Q : Type 0) → OnOk r P → (P → Q) → OnOk r Q
on_ok (Ok x) P Q h f = f h
on_ok (Err e) P Q h f = tt
