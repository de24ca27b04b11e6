use Rattle.std.proofs.Common.{◌++◌, ◌∷◌, [], List, ℕ, ap, sym, ◌∙◌}
use Rattle.transcript_check.proofs.AcceptedLemmas.{offer_first, offer_more}
use Rattle.transcript_check.proofs.index.accepted.Accepted.offer.Goals as goal

pub returns-in_default-clause-offers : goal.returns-in_default-clause-offers
returns-in_default-clause-offers c =
    offer_first c.args.key c.args.packet.now c.args.self.now.offers c.put.new.self c.add.new.self (sym c.in_default.ensures.value)
    (c.in_ok-add.ensures ∙ ap (λ (xs : List (List ℕ)). xs ++ c.args.packet.now ∷ []) c.new-offers.ensures) c.in_ok-put.ensures.ok

pub returns-clause-offers : goal.returns-clause-offers
returns-clause-offers c =
    offer_more c.args.key c.args.packet.now c.args.self.now.offers c.in-Some.offers.now c.add-2.new.self (sym c.in-Some.ensures.value) c.in_ok-add-2.ensures
