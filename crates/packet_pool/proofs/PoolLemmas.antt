-- The pool as its parts: what the parts say of a reference or a place, and what is always so of the pool.
use Rattle.std.proofs.Common.{◌≡◌, ◌≢◌, ◌==◌, ℕ, zero, suc, ◌<◌, ◌≤◌, min, Bool, true, false, cond, List, length, take, Option, Some, None, refl, sym, ap, ◌∙◌, subst, true≢false, set, arith}
use Rattle.std.specs.Prelude.{IsSome, IfSome, nat_le}
use Rattle.std.specs.Ordering.{nat_cmp}
use Rattle.std.specs.List.{list_any}
use Rattle.std.proofs.lemmas.Bool.Decides.{nat_tests}
use Rattle.std.proofs.lemmas.Option.{slice_get_past}
use Rattle.std.proofs.lemmas.List.{length-take}
use Rattle.gnb_types.specs.Orders.{entity_cmp}
use Rattle.tables.specs.Tables.{find, at}
use Rattle.pdcp_defs.specs.pool_defs.Pools.{Stored, used, quota, reserved, is_parked, packet_of, packet_by, packet_at, AreApart, IsPool}
use Rattle.pdcp_defs.proofs.pool_defs.PoolLaws.{found_parked, held_apart}
use Rattle.packet_pool.specs.declared.region.Block.{Block}
use Rattle.packet_pool.specs.declared.contents.Content.{Content}
use Rattle.packet_pool.specs.inside.Regions.{RegionState, octets_at}
use Rattle.packet_pool.specs.inside.Accounts.{AccountsState}
use Rattle.packet_pool.specs.inside.Contents.{joined, content_at, stored_from, stored_in, place_from, place_in}
use Rattle.packet_pool.specs.inside.Pools.{entry_before, entries, refs_of, places_of, state, IsConsistent}
use Rattle.packet_pool.proofs.RegionLemmas.{get_set, get_set_other}
use Rattle.packet_pool.proofs.EntryLemmas.{find_entries, entries_sorted, entries_all}

none_some : {X P : Type 0} (x : Option X) → x ≡ None → IsSome x → P
none_some None h some = absurd (true≢false (sym some))
none_some (Some x) h some = absurd cc

same_some : {X : Type 0} {x y : X} → Some x ≡ Some y → x ≡ y
same_some h = cc

-- ---- what a block has

module _ (contents : List (Option Content)) where
  pub content_set : (b : ℕ) (v : Option Content) → b < length contents → content_at (set contents b v) b ≡ v
  content_set b v within = ap joined (get_set contents b v within)

  pub content_set_other : (b : ℕ) (v : Option Content) (k : ℕ) → k ≢ b → content_at (set contents b v) k ≡ content_at contents k
  content_set_other b v k other = ap joined (get_set_other contents b k v other)

  past_content : (k : ℕ) → length contents ≤ k → content_at contents k ≡ None
  past_content k past = ap joined (slice_get_past contents k past)

  pub content_within : (k : ℕ) → IsSome (content_at contents k) → k < length contents
  content_within k some = by (nat_le (length contents) k) refl
    where
      by : (b : Bool) → nat_le (length contents) k ≡ b → k < length contents
      by true is = none_some (content_at contents k) (past_content k (grind (arith, nat_tests))) some
      by false is = grind (arith, nat_tests)

  pub find_refs : (blocks : List Block) (k : ℕ) → find nat_cmp (refs_of blocks contents) k ≡ stored_in blocks contents k
  unfolding stored_in
  find_refs blocks k =
      find_entries (stored_in blocks contents) 0 (length contents) k (λ j past. past_stored j (omega arith)) (omega arith)
    where
      past_stored : (j : ℕ) → length contents ≤ j → stored_in blocks contents j ≡ None
      past_stored j past = ap (stored_from (octets_at blocks j)) (past_content j past)

  pub find_places : (k : ℕ) → find nat_cmp (places_of contents) k ≡ place_in contents k
  unfolding place_in
  find_places k =
      find_entries (place_in contents) 0 (length contents) k (λ j past. past_place j (omega arith)) (omega arith)
    where
      past_place : (j : ℕ) → length contents ≤ j → place_in contents j ≡ None
      past_place j past = ap (place_from j) (past_content j past)

  -- a parked block is its own place
  place_is : (k x : ℕ) → place_in contents k ≡ Some x → (x ≡ k) × ((c : Content) × (content_at contents k ≡ Some c) × (c.parked ≡ true))
  unfolding place_in
  place_is k x is = by (content_at contents k) refl is
    where
      parked : (c : Content) → content_at contents k ≡ Some c → (b : Bool) → c.parked ≡ b → cond b (Some k) None ≡ Some x
          → (x ≡ k) × ((c : Content) × (content_at contents k ≡ Some c) × (c.parked ≡ true))
      parked c has true mark is = (cc, (c, has, mark))
      parked c has false mark is = absurd cc

      by : (o : Option Content) → content_at contents k ≡ o → place_from k o ≡ Some x
          → (x ≡ k) × ((c : Content) × (content_at contents k ≡ Some c) × (c.parked ≡ true))
      by None has is = absurd cc
      by (Some c) has is = parked c has c.parked refl is

  pub place_parked : (k : ℕ) (c : Content) → content_at contents k ≡ Some c → c.parked ≡ true → place_in contents k ≡ Some k
  unfolding place_in
  place_parked k c has mark = ap (place_from k) has ∙ ap (λ (b : Bool). cond b (Some k) None) mark

  pub place_unparked : (k : ℕ) (c : Content) → content_at contents k ≡ Some c → c.parked ≡ false → place_in contents k ≡ None
  unfolding place_in
  place_unparked k c has mark = ap (place_from k) has ∙ ap (λ (b : Bool). cond b (Some k) None) mark

  pub stored_is : (blocks : List Block) (k : ℕ) (c : Content) → content_at contents k ≡ Some c
      → stored_in blocks contents k ≡ Some (record { key = c.key; bytes = take c.len (octets_at blocks k) })
  unfolding stored_in
  stored_is blocks k c has = ap (stored_from (octets_at blocks k)) has

  pub stored_content : (blocks : List Block) (k : ℕ) → IsSome (stored_in blocks contents k) → (c : Content) × (content_at contents k ≡ Some c)
  unfolding stored_in
  stored_content blocks k some = by (content_at contents k) refl some
    where
      by : (o : Option Content) → content_at contents k ≡ o → IsSome (stored_from (octets_at blocks k) o)
          → (c : Content) × (content_at contents k ≡ Some c)
      by None has some = none_some {X = Stored} None refl some
      by (Some c) has some = (c, has)

-- ---- a reference that is held, and a place

module _ (region : RegionState) (contents : List (Option Content)) (accounts : AccountsState) where
  abbrev pub HeldBlock : ℕ → Type 0
  HeldBlock r = (c : Content) × (content_at contents r ≡ Some c) × (c.parked ≡ false)

  abbrev pub ParkedBlock : ℕ → Type 0
  ParkedBlock r = (c : Content) × (content_at contents r ≡ Some c) × (c.parked ≡ true)

  pub packet_found : (r : ℕ) → is_parked (state region contents accounts) r ≡ false
      → packet_of (state region contents accounts) r ≡ stored_in region.blocks contents r
  unfolding packet_of
  packet_found r apart =
      ap (λ (b : Bool). cond b None (find nat_cmp (refs_of region.blocks contents) r)) apart ∙ find_refs contents region.blocks r

  pub held_block : (r : ℕ) → IsSome (packet_of (state region contents accounts) r) → HeldBlock r
  unfolding is_parked
  held_block r held =
      let apart : is_parked (state region contents accounts) r ≡ false = held_apart (state region contents accounts) r held in
      let stored : IsSome (stored_in region.blocks contents r) = subst IsSome (packet_found r apart) held in
      let has = stored_content contents region.blocks r stored in
      by has.0 has.1 has.0.parked refl apart
    where
      by : (c : Content) → content_at contents r ≡ Some c → (b : Bool) → c.parked ≡ b
          → list_any (λ e. e.1 == r) (places_of contents) ≡ false → HeldBlock r
      by c has true mark apart =
          absurd (true≢false (sym (found_parked (places_of contents) r r (find_places contents r ∙ place_parked contents r c has mark)) ∙ apart))
      by c has false mark apart = (c, has, mark)

  pub parked_block : (place : ℕ) → IsSome (packet_at (state region contents accounts) place) → ParkedBlock place
  unfolding packet_at place_in
  parked_block place some =
      by (content_at contents place) refl
      (subst (λ (o : Option ℕ). IsSome (packet_by (state region contents accounts) o)) (find_places contents place) some)
    where
      parked : (c : Content) → content_at contents place ≡ Some c → (b : Bool) → c.parked ≡ b
          → IsSome (packet_by (state region contents accounts) (cond b (Some place) None)) → ParkedBlock place
      parked c has true mark some = (c, has, mark)
      parked c has false mark some = none_some {X = Stored} None refl some

      by : (o : Option Content) → content_at contents place ≡ o
          → IsSome (packet_by (state region contents accounts) (place_from place (content_at contents place))) → ParkedBlock place
      by None has some =
          none_some {X = Stored} None refl (subst (λ (o : Option Content). IsSome (packet_by (state region contents accounts) (place_from place o))) has some)
      by (Some c) has some =
          parked c has c.parked refl
          (subst (λ (o : Option Content). IsSome (packet_by (state region contents accounts) (place_from place o))) has some)

  pub packet_found_at : (place : ℕ) → ParkedBlock place → packet_at (state region contents accounts) place ≡ stored_in region.blocks contents place
  unfolding packet_at
  packet_found_at place block =
      ap (packet_by (state region contents accounts)) (find_places contents place ∙ place_parked contents place block.0 block.1 block.2)
      ∙ find_refs contents region.blocks place

-- ---- what is always so of the pool

apart_entries : (f : ℕ → Option ℕ) (first n : ℕ) → ((k x : ℕ) → f k ≡ Some x → x ≡ k) → AreApart (entries f first n)
unfolding entries
apart_entries f first zero own = tt
apart_entries f first (suc n) own = by (f first) refl (apart_entries f (suc first) n own)
  where
    by : (o : Option ℕ) → f first ≡ o → AreApart (entries f (suc first) n) → AreApart (entry_before first o (entries f (suc first) n))
    by None is rest = rest
    by (Some x) is rest = (
      entries_all (λ (k y : ℕ). y ≡ x → ⊥) f (suc first) n
          (λ k y low has same.
          let here : x ≡ first = own first x is in
          let there : y ≡ k = own k y has in
          absurd (omega arith)),
      rest,
    )

pub pool_sound : (region : RegionState) (contents : List (Option Content)) (accounts : AccountsState) → IsConsistent region contents accounts
    → IsPool 2048 (state region contents accounts)
unfolding used quota reserved
pool_sound region contents accounts tied =
    record {
      refs_sorted = entries_sorted (stored_in region.blocks contents) 0 (length contents);
      places_sorted = entries_sorted (place_in contents) 0 (length contents);
      quotas_sorted = tied.sorted;
      live =
          entries_all (λ (k x : ℕ). IsSome (find nat_cmp (refs_of region.blocks contents) x)) (place_in contents) 0 (length contents)
          (λ k x low has. live k x has);
      apart = apart_entries (place_in contents) 0 (length contents) (λ k x has. (place_is contents k x has).0);
      within = λ key. subst (λ (n : ℕ). n ≤ at entity_cmp 0 accounts.quotas key) (tied.counted key) (tied.within key);
      fits = tied.fits;
      sized =
          entries_all (λ (k : ℕ) (s : Stored). length s.bytes ≤ 2048) (stored_in region.blocks contents) 0 (length contents)
          (λ k s low has. short k s has);
    }
  where
    live : (k x : ℕ) → place_in contents k ≡ Some x → IsSome (find nat_cmp (refs_of region.blocks contents) x)
    live k x has =
        let there = place_is contents k x has in
        subst (λ (n : ℕ). IsSome (find nat_cmp (refs_of region.blocks contents) n)) (sym there.0)
        (subst IsSome (sym (find_refs contents region.blocks k ∙ stored_is contents region.blocks k there.1.0 there.1.1)) refl)

    short : (k : ℕ) (s : Stored) → stored_in region.blocks contents k ≡ Some s → length s.bytes ≤ 2048
    short k s has =
        let there = stored_content contents region.blocks k (subst IsSome (sym has) refl) in
        let limit : there.0.len ≤ 2048 = subst (λ (o : Option Content). IfSome o (λ c. c.len ≤ 2048)) there.1 (tied.short k) in
        let is : s ≡ record { key = there.0.key; bytes = take there.0.len (octets_at region.blocks k) } =
        same_some (sym has ∙ stored_is contents region.blocks k there.0 there.1) in
        let size : length s.bytes ≡ min there.0.len (length (octets_at region.blocks k)) =
        ap (λ (s : Stored). length s.bytes) is ∙ length-take there.0.len (octets_at region.blocks k) in
        omega arith
