use Rattle.std.proofs.Common.{◌≡◌, ℕ, Bool, not, nat_lt, List, [], Option, Some, None, length, filter, sym, ap, ◌∙◌, subst, refl}
use Rattle.pdcp_defs.specs.Senders.{Sender, confirmed_to}
use Rattle.pdcp_defs.specs.pool_defs.Pools.{PoolState}
use Rattle.pdcp_entities.specs.Packets.{Frees, octets_in}
use Rattle.pdcp_entities.specs.Entities.{TxState, sender_in, confirmed_if, confirmed_number, up_to, named_by_number}
use Rattle.pdcp_entities.specs.inside.Rings.{held}
use Rattle.pdcp_entities.proofs.FreeLemmas.{begins, ends}
use Rattle.pdcp_entities.proofs.ParkLemmas.{frees_octets}
use Rattle.pdcp_entities.proofs.TurnLemmas.{passing}
use Rattle.pdcp_entities.proofs.TxLemmas.{senders, both_not}
use Rattle.pdcp_entities.proofs.tx.Tx.confirm_to.Goals as goal

pub returns-in-Some-clause-sender : goal.returns-in-Some-clause-sender
unfolding confirmed_number confirmed_to
returns-in-Some-clause-sender c =
    let t = c.self.inside in
    let old = c.args.self.now in
    ap (λ (es : List (ℕ × ℕ)). record { sn = t.sn; quota = t.quota; frozen = t.frozen; sender = record { next = t.next; unconfirmed = es } })
    (c.trim_front.ensures.held ∙ c.free_to-freed.ensures.held)
    ∙ (ap (λ (v : TxState). record { sn = v.sn; quota = v.quota; frozen = v.frozen; sender = confirmed_to v.sender c.in-Some.count }) c.self.view_is
    ∙ ap (λ (o : Option ℕ). record { sn = old.sn; quota = old.quota; frozen = old.frozen; sender = confirmed_if old.sender o }) c.in-Some.ensures)

pub returns-in-Some-clause-count : goal.returns-in-Some-clause-count
unfolding named_by_number
returns-in-Some-clause-count c =
    let old = c.args.self.now in
    let t : ℕ → Bool = λ k. not (nat_lt c.in-Some.count k) in
    c.free_to-freed.ensures.count
    ∙ (ap (λ (v : TxState). length (passing t v.sender.unconfirmed)) c.self.view_is ∙ ap (λ (o : Option ℕ). length (up_to o old.sender.unconfirmed)) c.in-Some.ensures)

pub returns-in-Some-clause-freed : goal.returns-in-Some-clause-freed
unfolding named_by_number
returns-in-Some-clause-freed c =
    let old = c.args.self.now in
    let t : ℕ → Bool = λ k. not (nat_lt c.in-Some.count k) in
    subst (λ (es : List (ℕ × ℕ)). Frees es c.args.pool.now c.free_to-freed.new.pool)
    (ap (λ (v : TxState). passing t v.sender.unconfirmed) c.self.view_is ∙ ap (λ (o : Option ℕ). up_to o old.sender.unconfirmed) c.in-Some.ensures)
    c.free_to-freed.ensures.freed

pub returns-in-Some-clause-octets : goal.returns-in-Some-clause-octets
unfolding confirmed_number confirmed_to sender_in
returns-in-Some-clause-octets c =
    let old = c.args.self.now in
    let count = c.in-Some.count in
    let q = c.free_to-freed.new.pool in
    let t : ℕ → Bool = λ k. not (nat_lt count k) in
    let u : ℕ → Bool = λ k. nat_lt count k in
    let frees = subst (λ (es : List (ℕ × ℕ)). Frees es c.args.pool.now q) (ap (λ (v : TxState). passing t v.sender.unconfirmed) c.self.view_is) c.free_to-freed.ensures.freed in
    let held_now = c.trim_front.ensures.held ∙ (c.free_to-freed.ensures.held ∙ ap (λ (v : TxState). passing u v.sender.unconfirmed) c.self.view_is) in
    senders (ap (λ (v : TxState). v.sender.next) c.self.view_is)
    (ap (octets_in q) held_now ∙ frees_octets t u (λ k n m. both_not (nat_lt count k) n m) c.args.pool.now q old.sender.unconfirmed c.requires.apart frees)
    ∙ ap (λ (o : Option ℕ). confirmed_if (sender_in c.args.pool.now old) o) c.in-Some.ensures

pub returns-in-None-clause-sender : goal.returns-in-None-clause-sender
unfolding confirmed_number
returns-in-None-clause-sender c =
    let old = c.args.self.now in
    ap (λ (o : Option ℕ). record { sn = old.sn; quota = old.quota; frozen = old.frozen; sender = confirmed_if old.sender o }) c.in-None.ensures

pub returns-in-None-clause-count : goal.returns-in-None-clause-count
unfolding named_by_number
returns-in-None-clause-count c = ap (λ (o : Option ℕ). length (up_to o c.args.self.now.sender.unconfirmed)) c.in-None.ensures

pub returns-in-None-clause-freed : goal.returns-in-None-clause-freed
unfolding named_by_number
returns-in-None-clause-freed c =
    subst (λ (es : List (ℕ × ℕ)). Frees es c.args.pool.now c.args.pool.now) (ap (λ (o : Option ℕ). up_to o c.args.self.now.sender.unconfirmed) c.in-None.ensures)
    (ends [] c.args.pool.now c.args.pool.now (begins [] c.args.pool.now))

pub returns-in-None-clause-octets : goal.returns-in-None-clause-octets
unfolding confirmed_number sender_in
returns-in-None-clause-octets c = ap (λ (o : Option ℕ). confirmed_if (sender_in c.args.pool.now c.args.self.now) o) c.in-None.ensures
