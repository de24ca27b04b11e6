use Rattle.std.proofs.Common.{◌≡◌, ℕ, ◌+◌, ◌≤◌, Bool, not, nat_lt, List, [], length, filter, sym, ap, ◌∙◌, subst, refl, arith}
use Rattle.pdcp_entities.specs.Packets.{Frees}
use Rattle.pdcp_entities.specs.Entities.{RxState}
use Rattle.pdcp_entities.specs.inside.Rings.{held, held_from}
use Rattle.pdcp_entities.proofs.TurnLemmas.{passing, all_to, all_kept, kept_is}
use Rattle.pdcp_entities.proofs.RxLemmas.{held_none}
use Rattle.pdcp_entities.proofs.rx.Rx.clear.Goals as goal

pub returns-clause-receiver : goal.returns-clause-receiver
returns-clause-receiver c =
    let t = c.self.inside in
    let ring = t.stored in
    let none = all_to ring.first 4294967295 ring.slots.items (omega (arith, c.self.invariant.in_range)) in
    let now = held_none ring.first c.free_to.new.ring.first c.free_to.new.ring.slots.items (c.free_to.ensures.held ∙ none) in
    ap (λ (es : List (ℕ × ℕ)). record { sn = t.sn; quota = t.quota; frozen = t.frozen; receiver = record { deliv = ring.first; stored = es } }) now
    ∙ ap (λ (v : RxState). record { sn = v.sn; quota = v.quota; frozen = v.frozen; receiver = record { deliv = v.receiver.deliv; stored = [] } }) c.self.view_is

pub returns-clause-freed : goal.returns-clause-freed
returns-clause-freed c =
    let ring = c.self.inside.stored in
    let u : ℕ → Bool = λ k. nat_lt 4294967295 k in
    let none = all_to ring.first 4294967295 ring.slots.items (omega (arith, c.self.invariant.in_range)) in
    let all = all_kept u (λ k. not (u k)) (λ k e. kept_is (u k) e) (held ring) none in
    subst (λ (es : List (ℕ × ℕ)). Frees es c.args.pool.now c.free_to.new.pool) (all ∙ ap (λ (v : RxState). v.receiver.stored) c.self.view_is) c.free_to.ensures.freed
