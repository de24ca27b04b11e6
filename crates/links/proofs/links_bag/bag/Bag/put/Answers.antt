use Rattle.std.proofs.Common.{◌<◌, ◌∙◌, ap, ℕ, ◌+◌, length, List, [], ◌∷◌, ◌++◌, refl, arith}
use Rattle.transport_defs.specs.declared.ControlMessage.{ControlMessage}
use Rattle.links.specs.links_bag.Bags.{message}
use Rattle.links.proofs.links_bag.BagLemmas.{bag-put, bag-undone, bag-counts, seen_full, seen_put, seen_same}
use Rattle.links.proofs.links_bag.bag.Bag.put.Goals as goal

pub returns-then-before-ge-MOST_MESSAGES : goal.returns-then-before-ge-MOST_MESSAGES
returns-then-before-ge-MOST_MESSAGES c =
    (seen_full c.self.inside.control_messages.items c.self.inside.flight c.args.self.now c.self.view_is (message c.args.from c.args.to c.args.ue c.args.bytes) c.len-before.result (c.len-before.ensures ∙ c.self.inside.control_messages.ok.0) c.if-before-ge-MOST_MESSAGES.true, refl)

pub one_more-requires : goal.one_more-requires
one_more-requires c = bag-counts c.self.invariant c.args.ue

pub invariant_of-self-in-Err : goal.invariant_of-self-in-Err
invariant_of-self-in-Err c =
    (bag-undone c.self.invariant c.reserve.new.self.items c.put.new.self c.take.new.self c.one_more.new.counts (c.len-before.result + 1) c.args.ue
    (ap (λ (n : ℕ). n + 1) (c.len-before.ensures ∙ c.self.inside.control_messages.ok.0)) c.reserve.ensures.items c.in_ok-put.ensures.ok c.take.ensures.rest c.in-Err.ensures.err).1

pub returns-in-Err : goal.returns-in-Err
returns-in-Err c =
    seen_same c.self.inside.control_messages.items c.self.inside.flight c.args.self.now c.self.view_is c.reserve.new.self.items c.take.new.self c.reserve.ensures.items
    (bag-undone c.self.invariant c.reserve.new.self.items c.put.new.self c.take.new.self c.one_more.new.counts (c.len-before.result + 1) c.args.ue
    (ap (λ (n : ℕ). n + 1) (c.len-before.ensures ∙ c.self.inside.control_messages.ok.0)) c.reserve.ensures.items c.in_ok-put.ensures.ok c.take.ensures.rest c.in-Err.ensures.err).0

pub invariant_of-self-2 : goal.invariant_of-self-2
invariant_of-self-2 c =
    bag-put c.self.invariant (message c.args.from c.args.to c.args.ue c.args.bytes) c.push_reserved.new.self.items c.put.new.self c.one_more.new.counts (c.len-before.result + 1)
    (let room : length c.self.inside.control_messages.items < 1000000 = omega (arith, c.if-before-ge-MOST_MESSAGES.false, c.len-before.ensures, c.self.inside.control_messages.ok.0) in room)
    (ap (λ (n : ℕ). n + 1) (c.len-before.ensures ∙ c.self.inside.control_messages.ok.0)) (c.push_reserved.ensures.items ∙ ap (λ (xs : List (ControlMessage (List ℕ))). xs ++ (message c.args.from c.args.to c.args.ue c.args.bytes) ∷ []) c.reserve.ensures.items) c.in_ok-put.ensures.ok c.in-Ok.ensures.ok

pub returns : goal.returns
returns c =
    seen_put c.self.inside.control_messages.items c.self.inside.flight c.args.self.now c.self.view_is c.self.inside.of_terminals (message c.args.from c.args.to c.args.ue c.args.bytes) c.len-before.result c.push_reserved.new.self.items c.put.new.self c.self.invariant (c.len-before.ensures ∙ c.self.inside.control_messages.ok.0)
    c.if-before-ge-MOST_MESSAGES.false (c.push_reserved.ensures.items ∙ ap (λ (xs : List (ControlMessage (List ℕ))). xs ++ (message c.args.from c.args.to c.args.ue c.args.bytes) ∷ []) c.reserve.ensures.items) c.in_ok-put.ensures.ok
