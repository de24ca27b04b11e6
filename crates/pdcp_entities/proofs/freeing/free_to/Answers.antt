use Rattle.std.proofs.Common.{◌≡◌, ℕ, ◌+◌, ◌<◌, ◌≤◌, ◌^◌, Bool, true, false, not, nat_lt, List, [], ◌∷◌, Option, length, filter, sym, ap, ◌∙◌, subst, refl, arith, true≢false}
use Rattle.packet_pool.specs.declared.region.TheConstants.{BLOCK}
use Rattle.pdcp_defs.specs.pool_defs.Pools.{PoolState}
use Rattle.pdcp_entities.specs.Packets.{AreParked, Frees}
use Rattle.pdcp_entities.specs.inside.Freeing.{AreLeft, freed_if}
use Rattle.pdcp_entities.specs.inside.Rings.{held, held_from, with_slot, IsLastFull}
use Rattle.pdcp_entities.proofs.FreeLemmas.{begins, ends}
use Rattle.pdcp_entities.proofs.SlotLemmas.{held_from-length}
use Rattle.pdcp_entities.proofs.TurnLemmas.{passing, turn_left, turn_parked, turn_count, turn_kept, turn_named, turn_there, all_kept, passing_short, none_to, to_is, above_is, to_or_above}
use Rattle.pdcp_entities.proofs.freeing.free_to.Goals as goal

pub loop-pool-init : goal.loop-pool-init
loop-pool-init c =
    let ring = c.args.ring.now in
    let t : ℕ → Bool = λ k. not (nat_lt c.args.count k) in
    record {
      kept = refl;
      left = begins (passing t (held ring)) c.args.pool.now;
      number = omega arith;
      few = omega (arith, passing_short t (held ring), held_from-length ring.first ring.slots.items);
      parked = c.requires.parked;
      in_range = c.requires.in_range;
      end = refl;
      after = omega arith;
      last = λ full. full;
      capacity = refl;
    }

pub loop-pool-preserved : goal.loop-pool-preserved
loop-pool-preserved c =
    let ring = c.loop-pool.ring in
    let new = c.pop.new.self in
    let inv = c.loop-pool.invariant in
    let s = c.pop.result in
    let count = c.args.count in
    let t : ℕ → Bool = λ k. not (nat_lt count k) in
    let within = c.begins_by.ensures.0 c.loop-pool-test.true in
    let split : held ring ≡ with_slot ring.first s (held new) =
    ap (held_from ring.first) c.pop.ensures.slots ∙ ap (λ n. with_slot ring.first s (held_from n new.slots.items)) (sym c.pop.ensures.first) in
    let is = to_is count ring.first within.1 in
    let parked = subst (λ (es : List (ℕ × ℕ)). AreParked c.loop-pool.pool es) split inv.parked in
    let left = turn_left t ring.first s [] (held new) BLOCK c.loop-pool.pool c.args.pool.now (passing t (held c.args.ring.now)) c.free_if-freed.ensures.sound is refl parked
    (subst (λ (es : List (ℕ × ℕ)). AreLeft (passing t (held c.args.ring.now)) (passing t es) c.args.pool.now c.loop-pool.pool) split inv.left) in
    let number = turn_count t ring.first s [] (held new) is refl in
    let size = ap (λ es. length (passing t es)) split in
    let slots = ap length c.pop.ensures.slots in
    record {
      kept = sym (turn_kept (λ k. nat_lt count k) ring.first s [] (held new) (above_is count ring.first within.1))
          ∙ (sym (ap (λ es. passing (λ k. nat_lt count k) es) split) ∙ inv.kept);
      left = subst (λ (p : PoolState). AreLeft (passing t (held c.args.ring.now)) (passing t (held new)) c.args.pool.now p) (sym c.free_if-freed.ensures.freed) left;
      number = omega (arith, number, size, inv.number, c.free_if-freed.ensures.count);
      few = inv.few;
      parked = subst (λ (p : PoolState). AreParked p (held new)) (sym c.free_if-freed.ensures.freed)
          (turn_parked t ring.first s [] (held new) BLOCK c.loop-pool.pool c.free_if-freed.ensures.sound parked);
      in_range = inv.in_range;
      end = omega (arith, slots, inv.end, c.pop.ensures.first);
      after = omega (arith, inv.after, c.pop.ensures.first);
      last = λ full. tail new.slots.items s (subst (λ (xs : List (Option ℕ)). IsLastFull xs) c.pop.ensures.slots (inv.last full));
      capacity = c.pop.ensures.capacity ∙ inv.capacity;
    }
  where
    tail : (xs : List (Option ℕ)) (s : Option ℕ) → IsLastFull (s ∷ xs) → IsLastFull xs
    tail [] s full = tt
    tail (x ∷ xs) s full = full

pub returns-clause-held : goal.returns-clause-held
returns-clause-held c =
    let ring = c.loop-pool.ring in
    let count = c.args.count in
    let t : ℕ → Bool = λ k. not (nat_lt count k) in
    let none = none_to ring.first count ring.slots.items (λ both. true≢false (sym (c.begins_by.ensures.1 both) ∙ c.loop-pool-test.false)) in
    sym (all_kept t (λ k. nat_lt count k) (λ k e. to_or_above count k e) (held ring) none) ∙ c.loop-pool.invariant.kept

pub returns-clause-freed : goal.returns-clause-freed
returns-clause-freed c =
    let ring = c.loop-pool.ring in
    let t : ℕ → Bool = λ k. not (nat_lt c.args.count k) in
    let all = passing t (held c.args.ring.now) in
    let none = none_to ring.first c.args.count ring.slots.items (λ both. true≢false (sym (c.begins_by.ensures.1 both) ∙ c.loop-pool-test.false)) in
    ends all c.args.pool.now c.loop-pool.pool (subst (λ (es : List (ℕ × ℕ)). AreLeft all es c.args.pool.now c.loop-pool.pool) none c.loop-pool.invariant.left)

pub returns-clause-count : goal.returns-clause-count
returns-clause-count c =
    let ring = c.loop-pool.ring in
    let none = none_to ring.first c.args.count ring.slots.items (λ both. true≢false (sym (c.begins_by.ensures.1 both) ∙ c.loop-pool-test.false)) in
    omega (arith, ap length none, c.loop-pool.invariant.number)
