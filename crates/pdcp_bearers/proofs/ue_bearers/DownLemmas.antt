-- The receiver of a bearer with the octets of its packets, and with their places.
use Rattle.std.proofs.Common.{◌≡◌, ◌==◌, ℕ, suc, ◌+◌, ◌-◌, ◌++◌, ◌^◌, ◌<◌, ◌≤◌, Bool, true, false, cond, ◌||◌, nat_lt, List, [], ◌∷◌, length, drop, Option, Some, None, Ok, Err, refl, sym, ap, ◌∙◌, subst, arith, true≢false, length-drop}
use Rattle.std.proofs.lemmas.Bool.Decides.{nat_tests}
use Rattle.std.specs.Prelude.{Result, IfOk, IsSome, is_some, unwrap_or, IfSome, IfNone, replicate}
use Rattle.std.specs.Option.{option_map}
use Rattle.std.specs.Ordering.{nat_cmp}
use Rattle.std.specs.List.{AllByRecursion, count_by}
use Rattle.std.specs.Map.{values_of}
use Rattle.gnb_types.specs.declared.names.SnBits.{SnBits}
use Rattle.gnb_types.specs.declared.keys.EntityKey.{EntityKey}
use Rattle.gnb_types.specs.Orders.{entity_cmp}
use Rattle.tables.specs.Tables.{find, put, without, at, map_values}
use Rattle.tables.proofs.TableLaws.{find-mapped}
use Rattle.pdcp_defs.specs.Counts.{near_count}
use Rattle.pdcp_defs.specs.Receivers.{Receiver, Delivery, is_duplicate, is_ahead, stored, deliver, deliver_from, with_packet, bits_from, received_bits}
use Rattle.pdcp_defs.specs.pool_defs.Pools.{Stored, PoolState, is_of, quota, used, packet_of, without_packet, with_quota, new_pool, IsPool}
use Rattle.pdcp_defs.proofs.pool_defs.PoolLaws.{packet_at_take}
use Rattle.pdcp_entities.specs.declared.rx.Taken.{Taken}
use Rattle.pdcp_entities.specs.declared.rx.Ahead.{Ahead}
use Rattle.pdcp_entities.specs.Packets.{AreParked, Puts, Unparks, bytes_of, octets_at, octets_in}
use Rattle.pdcp_entities.specs.Entities.{RxState, new_rx, receiver_in, taking, taken, stored_count, first_at, handed_up, advanced}
use Rattle.pdcp_entities.proofs.ParkLemmas.{AllSame, octets_same, parked_taken}
use Rattle.pdcp_bearers.specs.ue_bearers.Receivers.{ReceiverState, new_receiver_state, reception_of, received}
use Rattle.pdcp_bearers.specs.ue_bearers.inside.Views.{IsReceiver, IsAscending, receiver_state}
use Rattle.pdcp_bearers.proofs.ue_bearers.UpLemmas.{all_weaker}
use Rattle.pdcp_bearers.proofs.ue_bearers.StoredLemmas.{all_put, all_dropped, ascending_put, ascending_dropped, equal_is, own_spent}
use Rattle.pdcp_bearers.proofs.ue_bearers.RefLemmas.{at_here, length_put, length_without, held_found}
use Rattle.pdcp_bearers.specs.declared.ue_bearers.receiver.Reception.{Reception}
use Rattle.pdcp_bearers.specs.declared.ue_bearers.receiver.Reception.TheVariants as receptions

some_mapped : {X Y : Type 0} (f : X → Y) (o : Option X) → is_some (option_map f o) ≡ is_some o
some_mapped f None = refl
some_mapped f (Some x) = refl

-- ---- a packet is taken

module _ (p : PoolState) (rx : RxState) (count : ℕ) where
  duplicate_in : is_duplicate (receiver_in p rx) count ≡ is_duplicate rx.receiver count
  unfolding is_duplicate receiver_in octets_in
  duplicate_in =
      ap (λ (b : Bool). nat_lt count rx.receiver.deliv || b)
      (ap is_some (find-mapped nat_cmp (octets_at p) rx.receiver.stored count) ∙ some_mapped (octets_at p) (find nat_cmp rx.receiver.stored count))

  ahead_in : (quota : ℕ) → is_ahead quota (receiver_in p rx) count ≡ is_ahead quota rx.receiver count
  unfolding is_ahead receiver_in
  ahead_in quota = refl

-- what an answer of the entity is for the bearer
abbrev as_received : ReceiverState → List ℕ → Result Taken Ahead → Reception × ReceiverState
as_received d packet (Ok t) =
    cond t.stored (receptions.Stored, record d { receiver = stored d.receiver (unwrap_or t.count 0) packet }) (receptions.Duplicate, d)
as_received d packet (Err e) = (receptions.Ahead, d)

abbrev pub state : SnBits → ℕ → Receiver (List ℕ) → ReceiverState
state sn quota r = record { sn = sn; quota = quota; receiver = r }

abbrev pub answer : Option ℕ → Bool → Result Taken Ahead
answer count s = Ok (record { count = count; stored = s })

abbrev pub ahead : Result Taken Ahead
ahead = Err (record {})

abbrev pub with_state : Reception → ReceiverState → Reception × ReceiverState
with_state r d = (r, d)

abbrev pub none_left : {Y : Type 0} → Receiver Y → Delivery Y
none_left r = record { packets = []; after = r }

abbrev pub receiver : {Y : Type 0} → ℕ → List (ℕ × Y) → Receiver Y
receiver deliv es = record { deliv = deliv; stored = es }

taken_as : (sn : SnBits) (p : PoolState) (rx : RxState) (packet : List ℕ) (o : Option ℕ)
    → as_received (state sn rx.quota (receiver_in p rx)) packet (taking rx o) ≡ received (state sn rx.quota (receiver_in p rx)) o packet
taken_as sn p rx packet None = refl
taken_as sn p rx packet (Some count) =
    by (is_duplicate rx.receiver count) (is_ahead rx.quota rx.receiver count)
    (is_duplicate (receiver_in p rx) count) (is_ahead rx.quota (receiver_in p rx) count) (duplicate_in p rx count) (ahead_in p rx count rx.quota)
  where
    by : (b c e f : Bool) → e ≡ b → f ≡ c
        → as_received (state sn rx.quota (receiver_in p rx)) packet
        (cond b (answer (Some count) false) (cond c ahead (answer (Some count) true)))
        ≡ cond e (with_state receptions.Duplicate (state sn rx.quota (receiver_in p rx)))
        (cond f (with_state receptions.Ahead (state sn rx.quota (receiver_in p rx)))
        (with_state receptions.Stored (state sn rx.quota (stored (receiver_in p rx) count packet))))
    by true c true f same other = refl
    by false true false true same other = refl
    by false false false false same other = refl
    by true c false f same other = cc
    by false c true f same other = cc
    by false true false false same other = cc
    by false false false true same other = cc

abbrev as_stored : Result Taken Ahead → Bool
as_stored (Ok t) = t.stored
as_stored (Err e) = false

abbrev count_of : Result Taken Ahead → Option ℕ
count_of (Ok t) = t.count
count_of (Err e) = None

-- two answers that differ
is_other : (c d : Option ℕ) → answer c true ≡ answer d false → ⊥
is_other c d e = true≢false (ap as_stored e)

is_ahead_no : (c : Option ℕ) → answer c true ≡ ahead → ⊥
is_ahead_no c e = true≢false (ap as_stored e)

-- what is stored has a COUNT
has_count : (rx : RxState) (o : Option ℕ) → answer None true ≡ taking rx o → ⊥
has_count rx None e = is_other None None e
has_count rx (Some count) e = by (is_duplicate rx.receiver count) (is_ahead rx.quota rx.receiver count) e
  where
    by : (b c : Bool) → answer None true ≡ cond b (answer (Some count) false) (cond c ahead (answer (Some count) true)) → ⊥
    by true c e = is_other None (Some count) e
    by false true e = is_ahead_no None e
    by false false e = let counts : None ≡ Some count = ap count_of e in cc

module _ (sn : SnBits) (limit : ℕ) (p q : PoolState) (rx ry : RxState) (packet : List ℕ) (o : Option ℕ) (limit_is : rx.quota ≡ limit) where
  -- what the entity answers and keeps is what the bearer's definition says
  pub takes : (r : Result Taken Ahead) → r ≡ taking rx o
      → IfSome (stored_count r) (λ c. receiver_in q ry ≡ stored (receiver_in p rx) c packet)
      → IfNone (stored_count r) ((ry ≡ rx) × (q ≡ p))
      → with_state (reception_of r) (state sn limit (receiver_in q ry)) ≡ received (state sn limit (receiver_in p rx)) o packet
  takes r is after same =
      subst (λ (n : ℕ). with_state (reception_of r) (state sn n (receiver_in q ry)) ≡ received (state sn n (receiver_in p rx)) o packet) limit_is
      (shown r is after same ∙ (ap (as_received (state sn rx.quota (receiver_in p rx)) packet) is ∙ taken_as sn p rx packet o))
    where
      stays : (ry ≡ rx) × (q ≡ p) → receiver_in q ry ≡ receiver_in p rx
      stays s = ap (λ (x : RxState). receiver_in q x) s.0 ∙ ap (λ (y : PoolState). receiver_in y rx) s.1

      by : (count : Option ℕ) (s : Bool) → answer count s ≡ taking rx o
          → IfSome (cond s count None) (λ c. receiver_in q ry ≡ stored (receiver_in p rx) c packet)
          → IfNone (cond s count None) ((ry ≡ rx) × (q ≡ p))
          → with_state (cond s receptions.Stored receptions.Duplicate) (state sn rx.quota (receiver_in q ry))
          ≡ cond s (with_state receptions.Stored (state sn rx.quota (stored (receiver_in p rx) (unwrap_or count 0) packet)))
          (with_state receptions.Duplicate (state sn rx.quota (receiver_in p rx)))
      by None true is after same = absurd (has_count rx o is)
      by (Some c) true is after same = ap (λ (v : Receiver (List ℕ)). with_state receptions.Stored (state sn rx.quota v)) after
      by count false is after same = ap (λ (v : Receiver (List ℕ)). with_state receptions.Duplicate (state sn rx.quota v)) (stays same)

      shown : (r : Result Taken Ahead) → r ≡ taking rx o
          → IfSome (stored_count r) (λ c. receiver_in q ry ≡ stored (receiver_in p rx) c packet)
          → IfNone (stored_count r) ((ry ≡ rx) × (q ≡ p))
          → with_state (reception_of r) (state sn rx.quota (receiver_in q ry)) ≡ as_received (state sn rx.quota (receiver_in p rx)) packet r
      shown (Ok t) is after same = by t.count t.stored is after same
      shown (Err e) is after same = ap (λ (v : Receiver (List ℕ)). with_state receptions.Ahead (state sn rx.quota v)) (stays same)

-- what is stored is new
new_packet : (rx : RxState) (o : Option ℕ) (c : ℕ) → answer (Some c) true ≡ taking rx o → is_duplicate rx.receiver c ≡ false
new_packet rx None c e = absurd (is_other (Some c) None e)
new_packet rx (Some d) c e = by (is_duplicate rx.receiver d) (is_ahead rx.quota rx.receiver d) refl e
  where
    by : (b a : Bool) → is_duplicate rx.receiver d ≡ b
        → answer (Some c) true ≡ cond b (answer (Some d) false) (cond a ahead (answer (Some d) true))
        → is_duplicate rx.receiver c ≡ false
    by true a dup e = absurd (is_other (Some c) (Some d) e)
    by false true dup e = absurd (is_ahead_no (Some c) e)
    by false false dup e =
        let counts : Some c ≡ Some d = ap count_of e in
        let number : c ≡ d = cc in
        ap (λ (n : ℕ). is_duplicate rx.receiver n) number ∙ dup

-- it is stored under the COUNT that was found
found_count : (rx : RxState) (o : Option ℕ) (c : ℕ) → answer (Some c) true ≡ taking rx o → o ≡ Some c
found_count rx None c e = absurd (is_other (Some c) None e)
found_count rx (Some d) c e = by (is_duplicate rx.receiver d) (is_ahead rx.quota rx.receiver d) e
  where
    by : (b a : Bool) → answer (Some c) true ≡ cond b (answer (Some d) false) (cond a ahead (answer (Some d) true)) → Some d ≡ Some c
    by true a e = absurd (is_other (Some c) (Some d) e)
    by false true e = absurd (is_ahead_no (Some c) e)
    by false false e = sym (ap count_of e)

-- what is stored is not ahead
not_ahead : (rx : RxState) (o : Option ℕ) (c : ℕ) → answer (Some c) true ≡ taking rx o → is_ahead rx.quota rx.receiver c ≡ false
not_ahead rx None c e = absurd (is_other (Some c) None e)
not_ahead rx (Some d) c e = by (is_duplicate rx.receiver d) (is_ahead rx.quota rx.receiver d) refl e
  where
    by : (b a : Bool) → is_ahead rx.quota rx.receiver d ≡ a → answer (Some c) true ≡ cond b (answer (Some d) false) (cond a ahead (answer (Some d) true))
        → is_ahead rx.quota rx.receiver c ≡ false
    by true a is e = absurd (is_other (Some c) (Some d) e)
    by false true is e = absurd (is_ahead_no (Some c) e)
    by false false is e =
        let counts : Some c ≡ Some d = ap count_of e in
        let number : c ≡ d = cc in
        ap (λ (n : ℕ). is_ahead rx.quota rx.receiver n) number ∙ is

near_count_of : (rx : RxState) (limit c : ℕ) → rx.quota ≡ limit → is_ahead rx.quota rx.receiver c ≡ false → c < rx.receiver.deliv + limit
unfolding is_ahead
near_count_of rx limit c limit_is e = let l : c < rx.receiver.deliv + rx.quota = grind (arith, nat_tests) in omega (arith, l, limit_is)

not_found : {X : Type 0} (o : Option X) (b : Bool) → (b || is_some o) ≡ false → o ≡ None
not_found None b e = refl
not_found (Some x) true e = cc
not_found (Some x) false e = cc

new_place : (r : Receiver ℕ) (c : ℕ) → is_duplicate r c ≡ false → find nat_cmp r.stored c ≡ None
unfolding is_duplicate
new_place r c e = not_found (find nat_cmp r.stored c) (nat_lt c r.deliv) e

-- what a bearer keeps after the entity took a packet
pub kept_taken : (sn : SnBits) (limit : ℕ) (key : EntityKey) (p q : PoolState) (rx ry : RxState) (packet : Stored) (o : Option ℕ)
    → (r : Result Taken Ahead) → r ≡ taking rx o
    → IfSome (stored_count r) (λ c. (place : ℕ) × (ry ≡ record rx { receiver = stored rx.receiver c place }) × Puts packet (c, place) p q)
    → IfNone (stored_count r) ((ry ≡ rx) × (q ≡ p))
    → AreParked q ry.receiver.stored
    → used q key + length rx.receiver.stored ≡ used p key + length ry.receiver.stored
    → ((c : ℕ) → o ≡ Some c → c < 2 ^ 32 - 1)
    → IsReceiver sn limit key p rx → IsReceiver sn limit key q ry
unfolding stored quota
kept_taken sn limit key p q rx ry packet o r is after same parked counted given old = shown r is after same
  where
    stays : (ry ≡ rx) × (q ≡ p) → IsReceiver sn limit key q ry
    stays s = subst (λ (y : PoolState). IsReceiver sn limit key y ry) (sym s.1) (subst (λ (x : RxState). IsReceiver sn limit key p x) (sym s.0) old)

    by : (count : Option ℕ) (s : Bool) → answer count s ≡ taking rx o
        → IfSome (cond s count None) (λ c. (place : ℕ) × (ry ≡ record rx { receiver = stored rx.receiver c place }) × Puts packet (c, place) p q)
        → IfNone (cond s count None) ((ry ≡ rx) × (q ≡ p))
        → IsReceiver sn limit key q ry
    by None true is after same = absurd (has_count rx o is)
    by (Some c) true is after same =
        let place = after.0 in
        let puts = after.2 in
        let more = length_put rx.receiver.stored c place (new_place rx.receiver c (new_packet rx o c is)) in
        let refs = length_put p.refs puts.reference packet puts.unused in
        let stored_now : ry.receiver.stored ≡ put nat_cmp rx.receiver.stored c place = ap (λ (x : RxState). x.receiver.stored) after.1 in
        let refs_now : length q.refs ≡ length (put nat_cmp p.refs puts.reference packet) = ap (λ (s : PoolState). length s.refs) puts.pool in
        let stored_length : length ry.receiver.stored ≡ length (put nat_cmp rx.receiver.stored c place) = ap (λ (es : List (ℕ × ℕ)). length es) stored_now in
        let few = old.few in
        let own = old.own in
        let below = given c (found_count rx o c is) in
        let close = near_count_of rx limit c old.quota_is (not_ahead rx o c is) in
        record {
          sn_is = ap (λ (x : RxState). x.sn) after.1 ∙ old.sn_is;
          quota_is = ap (λ (x : RxState). x.quota) after.1 ∙ old.quota_is;
          frozen = ap (λ (x : RxState). x.frozen) after.1 ∙ old.frozen;
          blocks = ap (λ (m : List (EntityKey × ℕ)). at entity_cmp 0 m key) puts.others.quotas ∙ old.blocks;
          parked = parked;
          few = omega (arith, more, refs, refs_now, stored_length, few);
          own = omega (arith, more, refs, refs_now, stored_length, own, counted);
          fits = subst (λ (es : List (ℕ × ℕ)). AllByRecursion (λ e. e.0 < 2 ^ 32 - 1) es) (sym stored_now)
              (all_put (λ e. e.0 < 2 ^ 32 - 1) rx.receiver.stored c place old.fits
              (λ k same. subst (λ (n : ℕ). n < 2 ^ 32 - 1) (equal_is c k same) below) below);
          near = subst (λ (x : RxState). AllByRecursion (λ e. e.0 < x.receiver.deliv + limit) x.receiver.stored) (sym after.1)
              (all_put (λ e. e.0 < rx.receiver.deliv + limit) rx.receiver.stored c place old.near
              (λ k same. subst (λ (n : ℕ). n < rx.receiver.deliv + limit) (equal_is c k same) close) close);
          small = old.small;
          least = old.least;
          ascending = subst (λ (es : List (ℕ × ℕ)). IsAscending es) (sym stored_now) (ascending_put rx.receiver.stored c place old.ascending);
        }
    by None false is after same = stays same
    by (Some c) false is after same = stays same

    shown : (r : Result Taken Ahead) → r ≡ taking rx o
        → IfSome (stored_count r) (λ c. (place : ℕ) × (ry ≡ record rx { receiver = stored rx.receiver c place }) × Puts packet (c, place) p q)
        → IfNone (stored_count r) ((ry ≡ rx) × (q ≡ p))
        → IsReceiver sn limit key q ry
    shown (Ok t) is after same = by t.count t.stored is after same
    shown (Err e) is after same = stays same

-- ---- a packet is delivered

-- a reference is spent: the packets at places stay
pub spent_same : (p : PoolState) (r : ℕ) → IsSome (packet_of p r) → (rx : RxState) → receiver_in (without_packet p r) rx ≡ receiver_in p rx
unfolding receiver_in
spent_same p r held rx =
    ap (λ (es : List (ℕ × List ℕ)). record { deliv = rx.receiver.deliv; stored = es }) (octets_same p (without_packet p r) rx.receiver.stored (all_at rx.receiver.stored))
  where
    all_at : (es : List (ℕ × ℕ)) → AllSame p (without_packet p r) es
    all_at [] = tt
    all_at (e ∷ es) = (packet_at_take p r e.1 held, all_at es)

length_mapped : {X Y : Type 0} (f : X → Y) (es : List (ℕ × X)) → length (map_values f es) ≡ length es
unfolding map_values
length_mapped f [] = refl
length_mapped f (e ∷ es) = ap (λ n. suc n) (length_mapped f es)

pub stored_length : (p : PoolState) (rx : RxState) → length (receiver_in p rx).stored ≡ length rx.receiver.stored
unfolding receiver_in octets_in
stored_length p rx = length_mapped (octets_at p) rx.receiver.stored

-- nothing is to be delivered
nothing_from : {X Y : Type 0} (f : X → Y) (deliv : ℕ) (es : List (ℕ × X)) → first_at deliv es ≡ None
    → deliver_from deliv (map_values f es) ≡ none_left (receiver deliv (map_values f es))
unfolding map_values
nothing_from f deliv [] none = refl
nothing_from {X} {Y} f deliv (e ∷ es) none = by (e.0 == deliv) none
  where
    by : (b : Bool) → cond b (Some e) None ≡ None
        → cond b (with_packet (e.0, f e.1) (deliver_from (deliv + 1) (map_values f es))) (none_left (receiver deliv ((e.0, f e.1) ∷ map_values f es)))
        ≡ none_left (receiver deliv ((e.0, f e.1) ∷ map_values f es))
    by true none = cc
    by false none = refl

pub nothing_more : (p : PoolState) (rx : RxState) → rx.frozen ≡ false → handed_up rx ≡ None
    → deliver (receiver_in p rx) ≡ none_left (receiver_in p rx)
unfolding deliver receiver_in handed_up octets_in
nothing_more p rx going none =
    nothing_from (octets_at p) rx.receiver.deliv rx.receiver.stored
    (sym (ap (λ (b : Bool). cond b None (first_at rx.receiver.deliv rx.receiver.stored)) going) ∙ none)

-- what is delivered was stored
some_first : {X : Type 0} (deliv : ℕ) (es : List (ℕ × X)) (e : ℕ × X) → first_at deliv es ≡ Some e → 0 < length es
some_first deliv [] e is = cc
some_first deliv (x ∷ es) e is = omega arith

pub some_stored : (rx : RxState) (e : ℕ × ℕ) → handed_up rx ≡ Some e → 0 < length rx.receiver.stored
unfolding handed_up
some_stored rx e is = by rx.frozen is
  where
    by : (b : Bool) → cond b None (first_at rx.receiver.deliv rx.receiver.stored) ≡ Some e → 0 < length rx.receiver.stored
    by true is = cc
    by false is = some_first rx.receiver.deliv rx.receiver.stored e is

-- ---- the bits of a report

bits_mapped : {X Y : Type 0} (f : X → Y) (next : ℕ) (es : List (ℕ × X)) → bits_from next (map_values f es) ≡ bits_from next es
unfolding map_values
bits_mapped f next [] = refl
bits_mapped {X} {Y} f next (e ∷ es) = by (nat_lt e.0 next) (bits_mapped f next es) (bits_mapped f (e.0 + 1) es)
  where
    by : (b : Bool) → bits_from next (map_values f es) ≡ bits_from next es → bits_from (e.0 + 1) (map_values f es) ≡ bits_from (e.0 + 1) es
        → cond b (bits_from next (map_values f es)) (replicate (e.0 - next) false ++ true ∷ bits_from (e.0 + 1) (map_values f es))
        ≡ cond b (bits_from next es) (replicate (e.0 - next) false ++ true ∷ bits_from (e.0 + 1) es)
    by true low high = low
    by false low high = ap (λ (bs : List Bool). replicate (e.0 - next) false ++ true ∷ bs) high

pub bits_in : (p : PoolState) (rx : RxState) → received_bits (receiver_in p rx) ≡ received_bits rx.receiver
unfolding received_bits receiver_in octets_in
bits_in p rx = bits_mapped (octets_at p) (rx.receiver.deliv + 1) rx.receiver.stored

-- what a bearer keeps after a packet was delivered
pub kept_delivered : (sn : SnBits) (limit : ℕ) (key : EntityKey) (p q s : PoolState) (rx ry : RxState) (e : ℕ × ℕ) (r : ℕ)
    → handed_up rx ≡ Some e → ry ≡ record rx { receiver = advanced rx.receiver } → Unparks r e p q
    → IsSome (packet_of q r) → s ≡ without_packet q r → AreParked q ry.receiver.stored
    → IsPool 2048 q → IsReceiver sn limit key p rx → IsReceiver sn limit key s ry
unfolding quota used receiver_in
kept_delivered sn limit key p q s rx ry e r is after unparks given taken parked sound old =
    let less = length_without q.refs r (held_found q r given) in
    let refs : length q.refs ≡ length p.refs = ap (λ (x : PoolState). length x.refs) unparks.pool in
    let refs_now : length s.refs ≡ length (without nat_cmp q.refs r) = ap (λ (x : PoolState). length x.refs) taken in
    let stored_now : length ry.receiver.stored ≡ length (drop 1 rx.receiver.stored) = ap (λ (x : RxState). length x.receiver.stored) after in
    let few = old.few in
    let list_now : ry.receiver.stored ≡ drop 1 rx.receiver.stored = ap (λ (x : RxState). x.receiver.stored) after in
    let same_refs : q.refs ≡ p.refs = ap (λ (x : PoolState). x.refs) unparks.pool in
    record {
      sn_is = ap (λ (x : RxState). x.sn) after ∙ old.sn_is;
      quota_is = ap (λ (x : RxState). x.quota) after ∙ old.quota_is;
      frozen = ap (λ (x : RxState). x.frozen) after ∙ old.frozen;
      blocks = ap (λ (m : List (EntityKey × ℕ)). at entity_cmp 0 m key) (ap (λ (x : PoolState). x.quotas) taken ∙ unparks.others.quotas) ∙ old.blocks;
      parked = subst (λ (x : PoolState). AreParked x ry.receiver.stored) (sym taken) (parked_taken q r given ry.receiver.stored parked);
      few = omega (arith, less, refs, refs_now, stored_now, length-drop 1 rx.receiver.stored, few);
      own = subst (λ (x : PoolState). used x key ≡ length x.refs) (sym taken)
          (own_spent q r key sound given (subst (λ (rs : List (ℕ × Stored)). count_by (is_of key) (values_of rs) ≡ length rs) (sym same_refs) old.own));
      fits = subst (λ (es : List (ℕ × ℕ)). AllByRecursion (λ x. x.0 < 2 ^ 32 - 1) es) (sym list_now) (all_dropped (λ x. x.0 < 2 ^ 32 - 1) rx.receiver.stored old.fits);
      near = subst (λ (x : RxState). AllByRecursion (λ v. v.0 < x.receiver.deliv + limit) x.receiver.stored) (sym after)
          (all_weaker (λ v. v.0 < rx.receiver.deliv + limit) (λ v. v.0 < rx.receiver.deliv + 1 + limit) (λ v l. omega (arith, l)) (drop 1 rx.receiver.stored)
          (all_dropped (λ v. v.0 < rx.receiver.deliv + limit) rx.receiver.stored old.near));
      small = old.small;
      least = old.least;
      ascending = subst (λ (es : List (ℕ × ℕ)). IsAscending es) (sym list_now) (ascending_dropped rx.receiver.stored old.ascending);
    }

-- one packet fewer is stored
pub stored_fewer : (p s : PoolState) (rx ry : RxState) (e : ℕ × ℕ) → handed_up rx ≡ Some e → ry ≡ record rx { receiver = advanced rx.receiver }
    → length (receiver_in s ry).stored < length (receiver_in p rx).stored
stored_fewer p s rx ry e is after =
    let some = some_stored rx e is in
    let stored_now : length ry.receiver.stored ≡ length (drop 1 rx.receiver.stored) = ap (λ (x : RxState). length x.receiver.stored) after in
    omega (arith, some, stored_now, length-drop 1 rx.receiver.stored, stored_length s ry, stored_length p rx)

pub octets_are : (o : Option Stored) (bytes : List ℕ) → option_map (λ packet. packet.bytes) o ≡ Some bytes → bytes_of o ≡ bytes
octets_are None bytes e = cc
octets_are (Some x) bytes e = cc

-- ---- a new one

pub begins : (sn : SnBits) (limit : ℕ) (key : EntityKey) (p : PoolState) (rx : RxState) → 4 ≤ limit → limit ≤ 4096 → p ≡ with_quota (new_pool limit) key limit → rx ≡ new_rx sn 0 limit
    → IsReceiver sn limit key p rx
unfolding quota used receiver_in octets_in map_values
begins sn limit key p rx least small pool entity =
    subst (λ (q : PoolState). IsReceiver sn limit key q rx) (sym pool)
    (subst (λ (x : RxState). IsReceiver sn limit key (with_quota (new_pool limit) key limit) x) (sym entity)
    (record {
      sn_is = refl;
      quota_is = refl;
      frozen = refl;
      blocks = at_here key limit;
      parked = record { there = tt; apart = tt };
      few = omega arith;
      own = refl;
      fits = tt;
      near = tt;
      small = small;
      least = least;
      ascending = tt;
    }))

pub begins_seen : (sn : SnBits) (limit : ℕ) (p : PoolState) (rx : RxState) → rx ≡ new_rx sn 0 limit → receiver_state sn limit p rx ≡ new_receiver_state sn limit
unfolding receiver_in octets_in map_values
begins_seen sn limit p rx entity = ap (λ (x : RxState). receiver_state sn limit p x) entity

-- ---- the bearer's calls, seen from outside

module _ (sn : SnBits) (limit : ℕ) (p : PoolState) (rx : RxState) (d : ReceiverState) (seen : receiver_state sn limit p rx ≡ d) where
  pub takes_seen : (q : PoolState) (ry : RxState) (number : ℕ) (packet : List ℕ) → rx.sn ≡ sn → rx.quota ≡ limit
      → (r : Result Taken Ahead) → r ≡ taken rx number
      → IfSome (stored_count r) (λ c. receiver_in q ry ≡ stored (receiver_in p rx) c packet)
      → IfNone (stored_count r) ((ry ≡ rx) × (q ≡ p))
      → (reception : Reception) → reception ≡ reception_of r
      → with_state reception (receiver_state sn limit q ry) ≡ received d (near_count d.sn d.receiver.deliv number) packet
  unfolding taken receiver_in
  takes_seen q ry number packet sn_is limit_is r is after same reception reception_is =
      ap (λ (x : Reception). with_state x (receiver_state sn limit q ry)) reception_is
      ∙ subst (λ (e : ReceiverState). with_state (reception_of r) (receiver_state sn limit q ry) ≡ received e (near_count e.sn e.receiver.deliv number) packet) seen
      (subst
      (λ (b : SnBits). with_state (reception_of r) (receiver_state sn limit q ry)
      ≡ received (receiver_state sn limit p rx) (near_count b rx.receiver.deliv number) packet)
      sn_is (takes sn limit p q rx ry packet (near_count rx.sn rx.receiver.deliv number) limit_is r is after same))

  pub nothing_seen : (q : PoolState) (ry : RxState) → rx.frozen ≡ false → handed_up rx ≡ None → ry ≡ rx → q ≡ p
      → (receiver_state sn limit q ry ≡ d) × (deliver d.receiver ≡ none_left d.receiver)
  nothing_seen q ry going none same_rx same_pool = (
    ap (λ (x : RxState). receiver_state sn limit q x) same_rx ∙ (ap (λ (y : PoolState). receiver_state sn limit y rx) same_pool ∙ seen),
    subst (λ (e : ReceiverState). deliver e.receiver ≡ none_left e.receiver) seen (nothing_more p rx going none),
  )

  pub delivered_seen : (q s : PoolState) (ry : RxState) (count r : ℕ) (bytes packet : List ℕ)
      → deliver (receiver_in p rx) ≡ with_packet (count, bytes_of (packet_of q r)) (deliver (receiver_in q ry))
      → option_map (λ x. x.bytes) (packet_of q r) ≡ Some bytes → packet ≡ bytes → IsSome (packet_of q r) → s ≡ without_packet q r
      → deliver d.receiver ≡ with_packet (count, packet) (deliver (receiver_in s ry))
  delivered_seen q s ry count r bytes packet octets bytes_are copied given spent =
      sym (ap (λ (e : ReceiverState). deliver e.receiver) seen)
      ∙ (octets
      ∙ (ap (λ (x : List ℕ). with_packet (count, x) (deliver (receiver_in q ry))) (octets_are (packet_of q r) bytes bytes_are ∙ sym copied)
      ∙ ap (λ (v : Receiver (List ℕ)). with_packet (count, packet) (deliver v))
      (sym (ap (λ (y : PoolState). receiver_in y ry) spent ∙ spent_same q r given ry))))

  pub fewer_seen : (s : PoolState) (ry : RxState) (e : ℕ × ℕ) → handed_up rx ≡ Some e → ry ≡ record rx { receiver = advanced rx.receiver }
      → length (receiver_in s ry).stored < length d.receiver.stored
  fewer_seen s ry e is after =
      subst (λ (x : ReceiverState). length (receiver_in s ry).stored < length x.receiver.stored) seen (stored_fewer p s rx ry e is after)

  pub reported : {E : Type 0} (r : Result (ℕ × List Bool) E) → IfOk r (λ x. (x.0 ≡ rx.receiver.deliv) × (x.1 ≡ received_bits rx.receiver))
      → IfOk r (λ x. (x.0 ≡ d.receiver.deliv) × (x.1 ≡ received_bits d.receiver))
  unfolding receiver_in
  reported (Ok x) h = (
    h.0 ∙ ap (λ (e : ReceiverState). e.receiver.deliv) seen,
    h.1 ∙ (sym (bits_in p rx) ∙ ap (λ (e : ReceiverState). received_bits e.receiver) seen),
  )
  reported (Err e) h = tt
