use Rattle.std.proofs.Common.{◌≡◌, ◌+◌, ◌<◌, ◌++◌, ◌∷◌, [], length, map, drop, sym, ap, ◌∙◌, arith, append_assoc}
use Rattle.std.specs.Prelude.{is_some}
use Rattle.pdcp_entities.proofs.RingLemmas.{drop-slot}
use Rattle.pdcp_entities.proofs.ring.Ring.bits_after_first.Goals as goal

pub loop-i-preserved : goal.loop-i-preserved
loop-i-preserved c =
    let items = c.args.self.now.slots.items in
    let inside : c.loop-i.i < length items = omega arith in
    let next = drop-slot c.loop-i.i items inside in
    let rest = map is_some (drop (c.loop-i.i + 1) items) in
    ap (λ bs. bs ++ rest) c.in_ok-push.ensures.ok
    ∙ (append_assoc c.loop-i.bits (c.is_some.result ∷ []) rest
    ∙ (ap (λ b. c.loop-i.bits ++ b ∷ rest) (c.is_some.ensures ∙ ap is_some c.slot.ensures)
    ∙ (ap (λ ss. c.loop-i.bits ++ map is_some ss) (sym next) ∙ c.loop-i.invariant)))
