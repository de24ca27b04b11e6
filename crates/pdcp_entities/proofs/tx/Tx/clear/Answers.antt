use Rattle.std.proofs.Common.{◌≡◌, ℕ, ◌+◌, ◌≤◌, Bool, not, nat_lt, List, [], length, filter, sym, ap, ◌∙◌, subst, refl, arith}
use Rattle.pdcp_defs.specs.Senders.{Sender}
use Rattle.pdcp_entities.specs.Packets.{Frees}
use Rattle.pdcp_entities.specs.Entities.{TxState}
use Rattle.pdcp_entities.specs.inside.Rings.{held}
use Rattle.pdcp_entities.proofs.TurnLemmas.{passing, all_to, all_kept, kept_is}
use Rattle.pdcp_entities.proofs.tx.Tx.clear.Goals as goal

pub returns-clause-sender : goal.returns-clause-sender
returns-clause-sender c =
    let t = c.self.inside in
    let ring = t.unconfirmed in
    let none = all_to ring.first 4294967295 ring.slots.items (omega (arith, c.self.invariant.below, c.self.invariant.in_range)) in
    ap (λ (es : List (ℕ × ℕ)). record { sn = t.sn; quota = t.quota; frozen = t.frozen; sender = record { next = t.next; unconfirmed = es } })
    (c.trim_front.ensures.held ∙ (c.free_to.ensures.held ∙ none))
    ∙ ap (λ (v : TxState). record { sn = v.sn; quota = v.quota; frozen = v.frozen; sender = record { next = v.sender.next; unconfirmed = [] } }) c.self.view_is

pub returns-clause-freed : goal.returns-clause-freed
returns-clause-freed c =
    let ring = c.self.inside.unconfirmed in
    let u : ℕ → Bool = λ k. nat_lt 4294967295 k in
    let none = all_to ring.first 4294967295 ring.slots.items (omega (arith, c.self.invariant.below, c.self.invariant.in_range)) in
    let all = all_kept u (λ k. not (u k)) (λ k e. kept_is (u k) e) (held ring) none in
    subst (λ (es : List (ℕ × ℕ)). Frees es c.args.pool.now c.free_to.new.pool) (all ∙ ap (λ (v : TxState). v.sender.unconfirmed) c.self.view_is) c.free_to.ensures.freed
