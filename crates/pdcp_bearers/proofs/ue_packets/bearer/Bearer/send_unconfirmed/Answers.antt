use Rattle.std.proofs.Common.{ℕ, List, Option, ◌++◌, sym, ap, subst, ◌∙◌}
use Rattle.std.specs.Borrow.{Bor}
use Rattle.pdcp_bearers.specs.ue_bearers.Senders.{IsLeastFrom}
use Rattle.pdcp_bearers.specs.ue_packets.Bearers.{terminal_of}
use Rattle.pdcp_bearers.proofs.ue_packets.RowLemmas.{again, all_from, sends_none}
use Rattle.pdcp_bearers.proofs.ue_packets.bearer.Bearer.send_unconfirmed.Goals as goal

pub returns : goal.returns
returns c = λ codec.
    let u = terminal_of c.args.terminal.now in
    let l = c.loop-count in
    let es = c.args.self.now.uplink.sender.unconfirmed in
    let none = subst (λ (o : Option (ℕ × Bor (List ℕ))). IsLeastFrom l.from es o) c.in_default.is c.unconfirmed.ensures in
    sym (sends_none codec u c.args.bearer l.out l.from es none)
    ∙ (l.invariant codec ∙ ap (λ (xs : List (ℕ × List ℕ)). c.args.out.now ++ again codec u c.args.bearer xs) (all_from es))
