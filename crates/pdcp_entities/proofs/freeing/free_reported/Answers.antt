use Rattle.std.proofs.Common.{◌≡◌, ℕ, ◌+◌, ◌<◌, ◌≤◌, ◌^◌, Bool, true, false, not, List, [], ◌∷◌, ◌++◌, Option, None, length, filter, take, drop, sym, ap, ◌∙◌, subst, refl, arith}
use Rattle.std.specs.Prelude.{is_some, slice_get, slice_set, unwrap_or, IfSome, IsSome}
use Rattle.std.proofs.lemmas.List.{length-set}
use Rattle.packet_pool.specs.declared.region.TheConstants.{BLOCK}
use Rattle.pdcp_defs.specs.Senders.{is_reported}
use Rattle.pdcp_defs.specs.pool_defs.Pools.{PoolState, IsPool, packet_at}
use Rattle.pdcp_entities.specs.Bits.{bits_of}
use Rattle.pdcp_entities.specs.Packets.{AreParked, Frees}
use Rattle.pdcp_entities.specs.declared.ring.Ring.{Ring}
use Rattle.pdcp_entities.specs.inside.Freeing.{AreLeft, freed_if}
use Rattle.pdcp_entities.specs.inside.Rings.{held, held_from, with_slot}
use Rattle.pdcp_entities.proofs.FreeLemmas.{begins, ends}
use Rattle.pdcp_entities.proofs.SlotLemmas.{held_from-length}
use Rattle.pdcp_entities.proofs.TurnLemmas.{passing, turn_left, turn_parked, turn_count, turn_kept, turn_named, turn_there, all_kept, passing_short, held_from-split, held_from-emptied, held_from-before, held_from-next, passing_next, all_taken, kept_is}
use Rattle.pdcp_entities.proofs.freeing.free_reported.Goals as goal

pub loop-i-init : goal.loop-i-init
loop-i-init c =
    let ring = c.args.ring.now in
    let t : ℕ → Bool = λ k. is_reported c.args.fmc (bits_of c.args.bits.now) k in
    record {
      none = refl;
      kept = refl;
      left = begins (passing t (held ring)) c.args.pool.now;
      number = omega arith;
      few = omega (arith, passing_short t (held ring), held_from-length ring.first ring.slots.items);
      parked = c.requires.parked;
      in_range = c.requires.in_range;
      first = refl;
      slots = refl;
      capacity = refl;
    }

pub loop-i-preserved-then-not-is_reported : goal.loop-i-preserved-then-not-is_reported
loop-i-preserved-then-not-is_reported c =
    let ring = c.loop-i.ring in
    let inv = c.loop-i.invariant in
    let t : ℕ → Bool = λ k. is_reported c.args.fmc (bits_of c.args.bits.now) k in
    let inside : c.loop-i.i < length ring.slots.items = omega arith in
    record {
      none = passing_next t ring.first c.loop-i.i ring.slots.items inside (sym c.is_reported.ensures ∙ c.if-not-is_reported.true) inv.none;
      kept = inv.kept;
      left = inv.left;
      number = inv.number;
      few = inv.few;
      parked = inv.parked;
      in_range = inv.in_range;
      first = inv.first;
      slots = inv.slots;
      capacity = inv.capacity;
    }

pub free_if-freed-requires : goal.free_if-freed-requires
free_if-freed-requires c =
    let ring = c.loop-i.ring in
    let i = c.loop-i.i in
    let inv = c.loop-i.invariant in
    let t : ℕ → Bool = λ k. is_reported c.args.fmc (bits_of c.args.bits.now) k in
    let s = unwrap_or (slice_get ring.slots.items i) None in
    let xs = held_from ring.first (take i ring.slots.items) in
    let ys = held_from (ring.first + i + 1) (drop (i + 1) ring.slots.items) in
    let inside : i < length ring.slots.items = omega arith in
    let split = held_from-split ring.first i ring.slots.items inside in
    subst (λ (o : Option ℕ). IfSome o (λ q. IsSome (packet_at c.loop-i.pool q))) (sym c.empty.ensures.value)
    (turn_there t (ring.first + i) s xs ys c.loop-i.pool (subst (λ (es : List (ℕ × ℕ)). AreParked c.loop-i.pool es) split inv.parked))

pub overflow_add-freed : goal.overflow_add-freed
overflow_add-freed c =
    let ring = c.loop-i.ring in
    let i = c.loop-i.i in
    let inv = c.loop-i.invariant in
    let t : ℕ → Bool = λ k. is_reported c.args.fmc (bits_of c.args.bits.now) k in
    let s = c.empty.result in
    let xs = held_from ring.first (take i ring.slots.items) in
    let ys = held_from (ring.first + i + 1) (drop (i + 1) ring.slots.items) in
    let inside : i < length ring.slots.items = omega arith in
    let split : held ring ≡ xs ++ with_slot (ring.first + i) s ys =
    held_from-split ring.first i ring.slots.items inside ∙ ap (λ o. xs ++ with_slot (ring.first + i) o ys) (sym c.empty.ensures.value) in
    let is : t (ring.first + i) ≡ true = sym c.is_reported.ensures ∙ c.if-not-is_reported.false in
    let number = turn_count t (ring.first + i) s xs ys is inv.none in
    let size = ap (λ es. length (passing t es)) split in
    omega (arith, number, size, inv.number, inv.few, c.free_if-freed.ensures.count)

pub loop-i-preserved : goal.loop-i-preserved
loop-i-preserved c =
    let ring = c.loop-i.ring in
    let new = c.empty.new.self in
    let pool = c.loop-i.pool in
    let i = c.loop-i.i in
    let inv = c.loop-i.invariant in
    let t : ℕ → Bool = λ k. is_reported c.args.fmc (bits_of c.args.bits.now) k in
    let all = passing t (held c.args.ring.now) in
    let s = c.empty.result in
    let k = ring.first + i in
    let xs = held_from ring.first (take i ring.slots.items) in
    let ys = held_from (ring.first + i + 1) (drop (i + 1) ring.slots.items) in
    let inside : i < length ring.slots.items = omega arith in
    let split : held ring ≡ xs ++ with_slot k s ys =
    held_from-split ring.first i ring.slots.items inside ∙ ap (λ o. xs ++ with_slot k o ys) (sym c.empty.ensures.value) in
    let after : held new ≡ xs ++ ys =
    ap (λ n. held_from n new.slots.items) c.empty.ensures.first
    ∙ (ap (λ b. held_from ring.first b.items) c.empty.ensures.slots ∙ held_from-emptied ring.first i ring.slots.items inside) in
    let is : t k ≡ true = sym c.is_reported.ensures ∙ c.if-not-is_reported.false in
    let parked = subst (λ (es : List (ℕ × ℕ)). AreParked pool es) split inv.parked in
    let left = turn_left t k s xs ys BLOCK pool c.args.pool.now all c.free_if-freed.ensures.sound is inv.none parked
    (subst (λ (es : List (ℕ × ℕ)). AreLeft all (passing t es) c.args.pool.now pool) split inv.left) in
    let left_now = subst (λ (es : List (ℕ × ℕ)). AreLeft all (passing t es) c.args.pool.now (freed_if pool s)) (sym after) left in
    let parked_now = subst (λ (es : List (ℕ × ℕ)). AreParked (freed_if pool s) es) (sym after)
    (turn_parked t k s xs ys BLOCK pool c.free_if-freed.ensures.sound parked) in
    let number = turn_count t k s xs ys is inv.none in
    let size = ap (λ es. length (passing t es)) split in
    let size_now = ap (λ es. length (passing t es)) after in
    record {
      none = ap (λ n. passing t (held_from n (take (i + 1) new.slots.items))) c.empty.ensures.first
          ∙ (ap (λ b. passing t (held_from ring.first (take (i + 1) b.items))) c.empty.ensures.slots
          ∙ (ap (passing t) (held_from-before ring.first i ring.slots.items inside) ∙ inv.none));
      kept = ap (passing (λ n. not (t n))) after
          ∙ (sym (turn_kept (λ n. not (t n)) k s xs ys (ap not is)) ∙ (sym (ap (passing (λ n. not (t n))) split) ∙ inv.kept));
      left = subst (λ (p : PoolState). AreLeft all (passing t (held new)) c.args.pool.now p) (sym c.free_if-freed.ensures.freed) left_now;
      number = omega (arith, number, size, size_now, inv.number, c.free_if-freed.ensures.count);
      few = inv.few;
      parked = subst (λ (p : PoolState). AreParked p (held new)) (sym c.free_if-freed.ensures.freed) parked_now;
      in_range = inv.in_range;
      first = c.empty.ensures.first ∙ inv.first;
      slots = ap (λ b. length b.items) c.empty.ensures.slots ∙ (length-set ring.slots.items i None ∙ inv.slots);
      capacity = ap (λ b. b.capacity) c.empty.ensures.slots ∙ inv.capacity;
    }

pub returns-clause-held : goal.returns-clause-held
returns-clause-held c =
    let ring = c.loop-i.ring in
    let t : ℕ → Bool = λ k. is_reported c.args.fmc (bits_of c.args.bits.now) k in
    let none = all_taken t ring.first c.loop-i.i ring.slots.items (omega arith) c.loop-i.invariant.none in
    sym (all_kept t (λ k. not (t k)) (λ k e. kept_is (t k) e) (held ring) none) ∙ c.loop-i.invariant.kept

pub returns-clause-freed : goal.returns-clause-freed
returns-clause-freed c =
    let ring = c.loop-i.ring in
    let t : ℕ → Bool = λ k. is_reported c.args.fmc (bits_of c.args.bits.now) k in
    let all = passing t (held c.args.ring.now) in
    let none = all_taken t ring.first c.loop-i.i ring.slots.items (omega arith) c.loop-i.invariant.none in
    ends all c.args.pool.now c.loop-i.pool (subst (λ (es : List (ℕ × ℕ)). AreLeft all es c.args.pool.now c.loop-i.pool) none c.loop-i.invariant.left)

pub returns-clause-count : goal.returns-clause-count
returns-clause-count c =
    let ring = c.loop-i.ring in
    let t : ℕ → Bool = λ k. is_reported c.args.fmc (bits_of c.args.bits.now) k in
    let none = all_taken t ring.first c.loop-i.i ring.slots.items (omega arith) c.loop-i.invariant.none in
    let n = ap length none in
    omega (arith, n, c.loop-i.invariant.number)
