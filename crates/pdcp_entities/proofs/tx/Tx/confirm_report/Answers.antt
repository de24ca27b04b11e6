use Rattle.std.proofs.Common.{◌≡◌, ℕ, Bool, not, List, [], length, filter, sym, ap, ◌∙◌, subst, refl}
use Rattle.pdcp_defs.specs.Senders.{Sender, confirmed_by, is_reported}
use Rattle.pdcp_entities.specs.Bits.{bits_of}
use Rattle.pdcp_entities.specs.Packets.{Frees, octets_in}
use Rattle.pdcp_entities.specs.Entities.{TxState, sender_in, confirmed_report, named_by_report}
use Rattle.pdcp_entities.specs.inside.Rings.{held}
use Rattle.pdcp_entities.proofs.ParkLemmas.{frees_octets}
use Rattle.pdcp_entities.proofs.TurnLemmas.{passing}
use Rattle.pdcp_entities.proofs.TxLemmas.{senders, not_both}
use Rattle.pdcp_entities.proofs.tx.Tx.confirm_report.Goals as goal

pub returns-clause-sender : goal.returns-clause-sender
unfolding confirmed_report confirmed_by
returns-clause-sender c =
    let t = c.self.inside in
    ap (λ (es : List (ℕ × ℕ)). record { sn = t.sn; quota = t.quota; frozen = t.frozen; sender = record { next = t.next; unconfirmed = es } })
    (c.trim_front.ensures.held ∙ (c.trim_back.ensures.held ∙ c.free_reported-freed.ensures.held))
    ∙ ap (λ (v : TxState). record { sn = v.sn; quota = v.quota; frozen = v.frozen; sender = confirmed_by v.sender c.args.fmc (bits_of c.args.bits.now) }) c.self.view_is

pub returns-clause-count : goal.returns-clause-count
unfolding named_by_report
returns-clause-count c =
    let t : ℕ → Bool = λ k. is_reported c.args.fmc (bits_of c.args.bits.now) k in
    c.free_reported-freed.ensures.count ∙ ap (λ (v : TxState). length (passing t v.sender.unconfirmed)) c.self.view_is

pub returns-clause-freed : goal.returns-clause-freed
unfolding named_by_report
returns-clause-freed c =
    let t : ℕ → Bool = λ k. is_reported c.args.fmc (bits_of c.args.bits.now) k in
    subst (λ (es : List (ℕ × ℕ)). Frees es c.args.pool.now c.free_reported-freed.new.pool)
    (ap (λ (v : TxState). passing t v.sender.unconfirmed) c.self.view_is) c.free_reported-freed.ensures.freed

pub returns-clause-octets : goal.returns-clause-octets
unfolding confirmed_report confirmed_by sender_in
returns-clause-octets c =
    let old = c.args.self.now in
    let q = c.free_reported-freed.new.pool in
    let t : ℕ → Bool = λ k. is_reported c.args.fmc (bits_of c.args.bits.now) k in
    let u : ℕ → Bool = λ k. not (t k) in
    let frees = subst (λ (es : List (ℕ × ℕ)). Frees es c.args.pool.now q) (ap (λ (v : TxState). passing t v.sender.unconfirmed) c.self.view_is) c.free_reported-freed.ensures.freed in
    let held_now = c.trim_front.ensures.held
    ∙ (c.trim_back.ensures.held ∙ (c.free_reported-freed.ensures.held ∙ ap (λ (v : TxState). passing u v.sender.unconfirmed) c.self.view_is)) in
    senders (ap (λ (v : TxState). v.sender.next) c.self.view_is)
    (ap (octets_in q) held_now ∙ frees_octets t u (λ k n m. not_both (t k) n m) c.args.pool.now q old.sender.unconfirmed c.requires.apart frees)
