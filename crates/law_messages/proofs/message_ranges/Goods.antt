-- Fields in their ranges are values of their types, and have at most so many bits.
use Rattle.std.proofs.Common.{◌≡◌, ℕ, suc, ◌+◌, ◌-◌, ◌*◌, ◌/◌, ◌<◌, ◌≤◌, ◌==◌, cond, Bool, true, false, List, [], ◌∷◌, ◌++◌, length, Option, Some, None, refl, sym, ap, subst, arith}
use Rattle.std.specs.Prelude.{pos, ◌&&◌, ◌||◌, nat_lt, nat_le, codes, map}
use Rattle.std.specs.List.{list_all}
use Rattle.gnb_types.specs.declared.names.Gnb.{Gnb}
use Rattle.gnb_types.specs.declared.names.Gnb.TheVariants.{A, B}
use Rattle.gnb_types.specs.declared.names.SnBits.{SnBits}
use Rattle.gnb_types.specs.declared.names.SnBits.TheVariants.{Len12, Len18}
use Rattle.gnb_types.specs.declared.plans.Peer.{Peer}
use Rattle.gnb_types.specs.declared.plans.Tunnel.{Tunnel}
use Rattle.gnb_types.specs.declared.plans.SnStatus.{SnStatus}
use Rattle.asn1_syntax.specs.declared.types.definition.Size.{Size}
use Rattle.bits_core.specs.Bits.{bit_value}
use Rattle.aper_defs.specs.Trees.{Tree, integer, enumerated, bit_string, sequence_of}
use Rattle.aper_defs.specs.Values.{Value, truth, enumeral, bits, octets, text, list, value_count, each_from}
use Rattle.aper_defs.specs.Numbers.{in_range, above}
use Rattle.aper_defs.specs.Fields.{Path, Field, asked, flag, small, character, extent, whole, pad}
use Rattle.aper_defs.specs.Fields as fields
use Rattle.aper_defs.specs.Parts.{integer_fields, index_fields, number_fields, extension_fields, string_fields, sized_fields, all_part_fields, part_fields, unit_fields, count_fields, of_bits, of_octets, of_characters, Content, in_size, pad_limit}
use Rattle.aper_defs.specs.Bits.{part_units}
use Rattle.aper_defs.specs.Layouts.{layout, component_fields, addition_fields}
use Rattle.aper_defs.specs.Membership.{Has, HasComponents, HasAdditions, EachFrom, is_index_of, is_printable, are_octets}
use Rattle.proof_aper.proofs.answers.NumberFacts.{above_at_most, at_most}
use Rattle.message_defs.specs.profile_defs.Forms.{tree, parts}
use Rattle.message_defs.specs.profile_defs.BaseTypes as types
use Rattle.message_defs.specs.profile_defs.Compounds as compounds
use Rattle.message_defs.specs.Fields.{from_number, gnb_index, from_sn, from_peer, from_tunnel, from_each, from_tunnels, from_status, from_statuses}
use Rattle.law_messages.specs.message_ranges.Ranges.{is_between, is_bearer, is_word, is_unit, is_quota, is_cause, is_mode, is_name, is_container, is_peer, is_tunnel, are_tunnels, is_received, is_status, are_statuses}
use Rattle.law_messages.proofs.message_ranges.Bounds.{bound, bound-append, number_within, word_within, extent_within}

pub record Good (i : Path) (t : Tree) (v : Value) (b : ℕ) : Type 0 where
  pub has : Has i t v
  pub size : bound (layout i t v) ≤ b

pub both_left : (a b : Bool) → (a && b) ≡ true → a ≡ true
both_left true b h = refl
both_left false b h = cc

pub both_right : (a b : Bool) → (a && b) ≡ true → b ≡ true
both_right true b h = h
both_right false b h = cc

if_true : (b : Bool) (xs ys : List Field) (n : ℕ) → b ≡ true → bound xs ≤ n → bound (cond b xs ys) ≤ n
if_true true xs ys n h k = k
if_true false xs ys n h k = cc

or_this : (a b : Bool) → a ≡ true → (a || b) ≡ true
or_this true b h = refl
or_this false b h = cc

extension_within : (p : Path) (extensible extended : Bool) → bound (extension_fields p extensible extended) ≤ 1
extension_within p true extended = omega arith
extension_within p false extended = omega arith

module _ (i : Path) where
  integer_good : (low high n : ℕ) → is_between low high n ≡ true → above (pos low) (pos high) < 65536
      → Good i (integer (pos low) (pos high) false) (from_number n) 41
  unfolding Has layout integer_fields
  integer_good low high n h k = record {
    has = or_this (in_range (pos low) (pos high) (pos n)) _ h;
    size = if_true (in_range (pos low) (pos high) (pos n)) _ _ 41 h
        (omega (arith, number_within i fields.value (above (pos low) (pos high)) (above (pos low) (pos n)) k));
  }

  pub ue_good : (n : ℕ) → is_between 1 16 n ≡ true → Good i (tree types.ue) (from_number n) 41
  unfolding tree
  ue_good n h = integer_good 1 16 n h (omega arith)

  pub bearer_good : (n : ℕ) → is_bearer n ≡ true → Good i (tree types.bearer) (from_number n) 41
  unfolding tree
  bearer_good n h = integer_good 1 8 n h (omega arith)

  pub unit_good : (n : ℕ) → is_unit n ≡ true → Good i (tree types.unit) (from_number n) 41
  unfolding tree
  unit_good n h = integer_good 1 2 n h (omega arith)

  pub quota_good : (n : ℕ) → is_quota n ≡ true → Good i (tree types.quota) (from_number n) 41
  unfolding tree
  quota_good n h = integer_good 4 4096 n h (omega arith)

  pub word_good : (n : ℕ) → is_word n ≡ true → Good i (tree types.word) (from_number n) 41
  unfolding tree Has layout integer_fields
  word_good n h = record {
    has = or_this (in_range (pos 0) (pos 4294967295) (pos n)) _ h;
    size = if_true (in_range (pos 0) (pos 4294967295) (pos n)) _ _ 41 h
        (word_within i (above (pos 0) (pos n)) (above_at_most (pos 0) (pos 4294967295) (pos n) h));
  }

  index_within : (count : ℕ) (extensible : Bool) (j : ℕ) → count ≤ 256 → bound (index_fields i count extensible j) ≤ 24
  unfolding index_fields
  index_within count extensible j h =
      let front : List Field = extension_fields i extensible (nat_le count j) in
      omega (
        arith,
        bound-append front (cond (nat_lt j count) (number_fields i fields.index (count - 1) j) (asked i (small fields.index) (j - count) ∷ [])),
        extension_within i extensible (nat_le count j),
        by (nat_lt j count),
      )
    where
      by : (b : Bool) → bound (cond b (number_fields i fields.index (count - 1) j) (asked i (small fields.index) (j - count) ∷ [])) ≤ 23
      by true = number_within i fields.index (count - 1) j (omega arith)
      by false = omega arith

  index_good : (count : ℕ) (extensible : Bool) (j : ℕ) → is_index_of count extensible j ≡ true → count ≤ 256
      → Good i (enumerated count extensible) (enumeral j) 41
  unfolding Has layout
  index_good count extensible j h k = record { has = h; size = omega (arith, index_within count extensible j k) }

  or_that : (a b : Bool) → b ≡ true → (a || b) ≡ true
  or_that true b h = refl
  or_that false b h = h

  pub cause_good : (j : ℕ) → is_cause j ≡ true → Good i (tree types.cause) (enumeral j) 41
  unfolding tree
  cause_good j h = index_good 3 true j (or_that (nat_lt j 3) (nat_lt j 67) h) (omega arith)

  pub mode_good : (j : ℕ) → is_mode j ≡ true → Good i (tree types.mode) (enumeral j) 41
  unfolding tree
  mode_good j h = index_good 5 true j (or_that (nat_lt j 5) (nat_lt j 69) h) (omega arith)

  pub gnb_good : (g : Gnb) → Good i (tree types.gnb) (enumeral (gnb_index g)) 41
  unfolding tree
  gnb_good A = index_good 2 false 0 refl (omega arith)
  gnb_good B = index_good 2 false 1 refl (omega arith)

  pub sn_good : (sn : SnBits) → Good i (tree types.sn_bits) (from_sn sn) 41
  unfolding tree
  sn_good Len12 = index_good 2 false 0 refl (omega arith)
  sn_good Len18 = index_good 2 false 1 refl (omega arith)

  pub flag_good : (b : Bool) → Good i (tree types.flag) (truth b) 41
  unfolding tree Has layout
  flag_good b = record { has = tt; size = omega arith }

-- ---- strings
unit_size : Content → ℕ
unit_size of_bits = 1
unit_size of_octets = 8
unit_size of_characters = 8

module _ (p : Path) where
  characters_within : (cs : List ℕ) → bound (map (λ c. asked p character c) cs) ≤ 8 * length cs
  characters_within [] = omega arith
  characters_within (c ∷ cs) = omega (arith, characters_within cs)

  units_within : (content : Content) (units : List ℕ) → bound (unit_fields p content units) ≤ unit_size content * length units
  unfolding unit_size
  units_within of_bits units = omega arith
  units_within of_octets units = omega arith
  units_within of_characters units = characters_within units

  part_within : (content : Content) (outside : Option Size) (units : List ℕ) → length units < 16384
      → bound (all_part_fields p content outside units) ≤ 23 + unit_size content * length units
  unfolding part_fields
  part_within content outside units h =
      let none : length units / part_units ≡ 0 = omega arith in
      subst (λ n. bound (part_fields p content outside n 0 (4 * part_units) units) ≤ 23 + unit_size content * length units) (sym none)
      (omega (arith, extent_within (length units), units_within content units))

  abbrev number_of_units : Size → List ℕ → List Field
  number_of_units size units = number_fields p fields.length (size.high - size.low) (length units - size.low)

  sized_within : (content : Content) (size : Size) (units : List ℕ) → size.high < 65536
      → bound (sized_fields p content size units) ≤ 30 + unit_size content * length units
  sized_within content size units h = by (size.low == size.high) (nat_lt (pad_limit content) size.low)
    where
      by : (a b : Bool) → bound (cond a (cond b (asked p pad 0 ∷ unit_fields p content units) (unit_fields p content units))
          (number_of_units size units ++ asked p pad 0 ∷ unit_fields p content units)) ≤ 30 + unit_size content * length units
      by true true = omega (arith, units_within content units)
      by true false = omega (arith, units_within content units)
      by false b = omega (
        arith,
        bound-append (number_of_units size units) (asked p pad 0 ∷ unit_fields p content units),
        number_within p fields.length (size.high - size.low) (length units - size.low) (omega arith),
        units_within content units,
      )

  string_within : (content : Content) (size : Size) (units : List ℕ) → size.high < 65536 → length units < 16384
      → bound (string_fields p content (Some size) units) ≤ 31 + unit_size content * length units
  unfolding string_fields
  string_within content size units h k =
      let inside = in_size size (length units) in
      omega (
        arith,
        bound-append (extension_fields p size.extensible (cond inside false true))
            (cond inside (sized_fields p content size units) (all_part_fields p content (Some size) units)),
        extension_within p size.extensible (cond inside false true),
        by inside,
      )
    where
      by : (b : Bool) → bound (cond b (sized_fields p content size units) (all_part_fields p content (Some size) units))
          ≤ 30 + unit_size content * length units
      by true = sized_within content size units h
      by false = omega (arith, part_within content (Some size) units k)

module _ (i : Path) where
  pub name_good : (cs : List ℕ) → is_name cs ≡ true → Good i (tree types.name) (text cs) 128031
  unfolding tree Has layout unit_size
  name_good cs h =
      let size : Size = record { low = 1; high = 150; extensible = true } in
      let few : length cs ≤ 16000 = at_most (length cs) 16000 (both_left (nat_le (length cs) 16000) (list_all is_printable cs)
      (both_right (nat_le 1 (length cs)) (nat_le (length cs) 16000 && list_all is_printable cs) h)) in
      record {
        has = (
          or_that i (in_size size (length cs)) true refl,
          both_right (nat_le (length cs) 16000) (list_all is_printable cs)
              (both_right (nat_le 1 (length cs)) (nat_le (length cs) 16000 && list_all is_printable cs) h),
        );
        size = omega (arith, string_within i of_characters size cs (omega arith) (omega arith));
      }

  pub container_good : (os : List ℕ) → is_container os ≡ true → Good i (tree types.container) (octets os) 128031
  unfolding tree Has layout string_fields unit_size
  container_good os h =
      let few : length os ≤ 16000 = at_most (length os) 16000 (both_left (nat_le (length os) 16000) (are_octets os) h) in
      record {
        has = (refl, both_right (nat_le (length os) 16000) (are_octets os) h);
        size = omega (arith, part_within i of_octets None os (omega arith));
      }

  -- ---- a CU-UP, tunnels, SN statuses
  pub peer_good : (p : Peer) → is_peer p ≡ true → Good i (tree compounds.peer) (from_peer p) 90
  unfolding tree parts Has HasComponents HasAdditions layout component_fields addition_fields
  peer_good p h =
      let a = gnb_good (fields.component (codes "gnb") ∷ i) p.gnb in
      let b = unit_good (fields.component (codes "up") ∷ i) p.up h in
      let la = layout (fields.component (codes "gnb") ∷ i) (tree types.gnb) (enumeral (gnb_index p.gnb)) in
      let lb = layout (fields.component (codes "up") ∷ i) (tree types.unit) (from_number p.up) in
      record {
        has = ((a.has, (b.has, tt)), tt, tt);
        size = omega (arith, a.size, b.size, bound-append (la ++ (lb ++ [])) [], bound-append la (lb ++ []), bound-append lb []);
      }

  pub tunnel_good : (t : Tunnel) → is_tunnel t ≡ true → Good i (tree compounds.tunnel) (from_tunnel t) 90
  unfolding tree parts Has HasComponents HasAdditions layout component_fields addition_fields
  tunnel_good t h =
      let a = bearer_good (fields.component (codes "bearer") ∷ i) t.bearer.0 (both_left (is_bearer t.bearer.0) (is_word t.teid) h) in
      let b = word_good (fields.component (codes "teid") ∷ i) t.teid (both_right (is_bearer t.bearer.0) (is_word t.teid) h) in
      let la = layout (fields.component (codes "bearer") ∷ i) (tree types.bearer) (from_number t.bearer.0) in
      let lb = layout (fields.component (codes "teid") ∷ i) (tree types.word) (from_number t.teid) in
      record {
        has = ((a.has, (b.has, tt)), tt, tt);
        size = omega (arith, a.size, b.size, bound-append (la ++ (lb ++ [])) [], bound-append la (lb ++ []), bound-append lb []);
      }

  bits_count : (bs : List Bool) → length (map bit_value bs) ≡ length bs
  bits_count [] = refl
  bits_count (b ∷ bs) = ap suc (bits_count bs)

  received_good : (bs : List Bool) → is_received (Some bs) ≡ true
      → Good i (bit_string (Some (record { low = 1; high = 4096; extensible = false }))) (bits bs) 4127
  unfolding Has layout unit_size
  received_good bs h =
      let size : Size = record { low = 1; high = 4096; extensible = false } in
      let few : length bs ≤ 4096 = at_most (length bs) 4096 (both_right (nat_le 1 (length bs)) (nat_le (length bs) 4096) h) in
      let count = bits_count bs in
      record {
        has = or_this (in_size size (length bs)) false h;
        size = omega (arith, string_within i of_bits size (map bit_value bs) (omega arith) (omega arith));
      }

module _ (i : Path) (s : SnStatus) where
  abbrev la : List Field
  la = layout (fields.component (codes "bearer") ∷ i) (tree types.bearer) (from_number s.bearer.0)

  abbrev lb : List Field
  lb = layout (fields.component (codes "dlNext") ∷ i) (tree types.word) (from_number s.dl_next)

  abbrev lc : List Field
  lc = layout (fields.component (codes "ulFirst") ∷ i) (tree types.word) (from_number s.ul_first)

  status_by : Good (fields.component (codes "bearer") ∷ i) (tree types.bearer) (from_number s.bearer.0) 41
      → Good (fields.component (codes "dlNext") ∷ i) (tree types.word) (from_number s.dl_next) 41
      → Good (fields.component (codes "ulFirst") ∷ i) (tree types.word) (from_number s.ul_first) 41
      → (received : Option (List Bool)) → is_received received ≡ true
      → Good i (tree compounds.status) (from_status (record s { ul_received = received })) 4260
  unfolding tree parts Has HasComponents HasAdditions layout component_fields addition_fields
  status_by a b c None r = record {
    has = ((a.has, (b.has, (c.has, (refl, tt)))), tt, tt);
    size = omega (
      arith,
      a.size,
      b.size,
      c.size,
      bound-append (la ++ (lb ++ (lc ++ []))) [],
      bound-append la (lb ++ (lc ++ [])),
      bound-append lb (lc ++ []),
      bound-append lc [],
    );
  }
  status_by a b c (Some bs) r =
      let d = received_good (fields.component (codes "ulReceived") ∷ i) bs r in
      let ld = layout (fields.component (codes "ulReceived") ∷ i) (bit_string (Some (record { low = 1; high = 4096; extensible = false }))) (bits bs) in
      record {
        has = ((a.has, (b.has, (c.has, (d.has, tt)))), tt, tt);
        size = omega (
          arith,
          a.size,
          b.size,
          c.size,
          d.size,
          bound-append (la ++ (lb ++ (lc ++ (ld ++ [])))) [],
          bound-append la (lb ++ (lc ++ (ld ++ []))),
          bound-append lb (lc ++ (ld ++ [])),
          bound-append lc (ld ++ []),
          bound-append ld [],
        );
      }

pub status_good : (i : Path) (s : SnStatus) → is_status s ≡ true → Good i (tree compounds.status) (from_status s) 4260
status_good i s h =
    let all = is_word s.dl_next && (is_word s.ul_first && is_received s.ul_received) in
    let last = is_word s.ul_first && is_received s.ul_received in
    let g : all ≡ true = both_right (is_bearer s.bearer.0) all h in
    let k : last ≡ true = both_right (is_word s.dl_next) last g in
    status_by i s (bearer_good (fields.component (codes "bearer") ∷ i) s.bearer.0 (both_left (is_bearer s.bearer.0) all h))
    (word_good (fields.component (codes "dlNext") ∷ i) s.dl_next (both_left (is_word s.dl_next) last g))
    (word_good (fields.component (codes "ulFirst") ∷ i) s.ul_first (both_left (is_word s.ul_first) (is_received s.ul_received) k))
    s.ul_received (both_right (is_word s.ul_first) (is_received s.ul_received) k)

-- ---- lists
sum_of : {A : Type 0} → ℕ → List A → ℕ
sum_of b [] = 0
sum_of b (x ∷ xs) = b + sum_of b xs

record AllGood {A : Type 0} (p : Path) (t : Tree) (f : A → Value) (b k : ℕ) (xs : List A) : Type 0 where
  pub has : EachFrom (λ i v. Has (fields.member i ∷ p) t v) k (from_each f xs)
  pub size : bound (each_from (λ i v. layout (fields.member i ∷ p) t v) k (from_each f xs)) ≤ sum_of b xs

each_good : {A : Type 0} → (p : Path) (t : Tree) (f : A → Value) (test : A → Bool) (b : ℕ)
    → ((q : Path) (x : A) → test x ≡ true → Good q t (f x) b) → (k : ℕ) (xs : List A) → list_all test xs ≡ true → AllGood p t f b k xs
unfolding sum_of
each_good p t f test b one k [] h = record { has = tt; size = omega arith }
each_good p t f test b one k (x ∷ xs) h =
    let first = one (fields.member k ∷ p) x (both_left (test x) (list_all test xs) h) in
    let later = each_good p t f test b one (suc k) xs (both_right (test x) (list_all test xs) h) in
    record {
      has = (first.has, later.has);
      size = omega (
        arith,
        first.size,
        later.size,
        bound-append (layout (fields.member k ∷ p) t (f x)) (each_from (λ i v. layout (fields.member i ∷ p) t v) (suc k) (from_each f xs)),
      );
    }

count_is : {A : Type 0} → (f : A → Value) (xs : List A) → value_count (from_each f xs) ≡ length xs
count_is f [] = refl
count_is f (x ∷ xs) = ap suc (count_is f xs)

eight : Size
eight = record { low = 1; high = 8; extensible = false }

list_good : {A : Type 0} → (i : Path) (t : Tree) (f : A → Value) (b most : ℕ) (xs : List A) → in_size eight (length xs) ≡ true
    → AllGood i t f b 0 xs → sum_of b xs ≤ most → Good i (sequence_of (Some eight) t) (list (from_each f xs)) (most + 23)
unfolding Has layout count_fields eight
list_good i t f b most xs h all few =
    let inside : in_size eight (value_count (from_each f xs)) ≡ true = subst (λ n. in_size eight n ≡ true) (sym (count_is f xs)) h in
    let n = value_count (from_each f xs) in
    record {
      has = (or_this (in_size eight n) false inside, all.has);
      size = omega (
        arith,
        bound-append (count_fields i (Some eight) n) (each_from (λ k v. layout (fields.member k ∷ i) t v) 0 (from_each f xs)),
        all.size,
        if_true (in_size eight n) (number_fields i fields.length 7 (n - 1)) (asked i pad 0 ∷ asked i (extent (whole 0 16383 (Some eight))) n ∷ []) 23
            inside (number_within i fields.length 7 (n - 1) (omega arith)),
      );
    }

sum_tunnels : (ts : List Tunnel) → sum_of 90 ts ≡ 90 * length ts
unfolding sum_of
sum_tunnels [] = refl
sum_tunnels (t ∷ ts) = omega (arith, sum_tunnels ts)

sum_statuses : (ss : List SnStatus) → sum_of 4260 ss ≡ 4260 * length ss
unfolding sum_of
sum_statuses [] = refl
sum_statuses (s ∷ ss) = omega (arith, sum_statuses ss)

in_eight : (n : ℕ) (b : Bool) → (nat_le 1 n && (nat_le n 8 && b)) ≡ true → (in_size eight n ≡ true) × (n ≤ 8) × (b ≡ true)
unfolding eight
in_eight n b h =
    let k : (nat_le n 8 && b) ≡ true = both_right (nat_le 1 n) (nat_le n 8 && b) h in
    let few : nat_le n 8 ≡ true = both_left (nat_le n 8) b k in
    (both (both_left (nat_le 1 n) (nat_le n 8 && b) h) few, at_most n 8 few, both_right (nat_le n 8) b k)
  where
    both : {x y : Bool} → x ≡ true → y ≡ true → (x && y) ≡ true
    both g k = cc

module _ (i : Path) where
  pub tunnels_good : (ts : List Tunnel) → are_tunnels ts ≡ true → Good i (tree compounds.tunnels) (from_tunnels ts) 743
  unfolding tree eight
  tunnels_good ts h =
      let g = in_eight (length ts) (list_all is_tunnel ts) h in
      list_good i (tree compounds.tunnel) from_tunnel 90 720 ts g.0
      (each_good i (tree compounds.tunnel) from_tunnel is_tunnel 90 tunnel_good 0 ts g.2) (omega (arith, sum_tunnels ts, g.1))

  pub statuses_good : (ss : List SnStatus) → are_statuses ss ≡ true → Good i (tree compounds.statuses) (from_statuses ss) 34103
  unfolding tree eight
  statuses_good ss h =
      let g = in_eight (length ss) (list_all is_status ss) h in
      list_good i (tree compounds.status) from_status 4260 34080 ss g.0
      (each_good i (tree compounds.status) from_status is_status 4260 status_good 0 ss g.2) (omega (arith, sum_statuses ss, g.1))
