use Rattle.std.proofs.Common.{ℕ, List, Option, ◌++◌, sym, ap, subst, ◌∙◌, append-nil}
use Rattle.std.specs.Borrow.{Bor}
use Rattle.dup_defs.specs.Senders.{all_on}
use Rattle.pdcp_bearers.specs.ue_bearers.Senders.{IsLeastFrom}
use Rattle.dup_bearer.specs.dup_pdcp.Entity.{DupTxState, puts_of_code}
use Rattle.dup_bearer.proofs.dup_pdcp.PutLemmas.{all_from}
use Rattle.dup_bearer.proofs.dup_pdcp.tx.DupTx.put_each.Goals as goal

pub returns : goal.returns
returns c =
    let l = c.loop-count in
    let old = c.args.self.now in
    let es = old.entity.sender.unconfirmed in
    let none = subst (λ (o : Option (ℕ × Bor (List ℕ))). IsLeastFrom l.from es o) c.in_default.is
    (subst (λ (v : DupTxState). IsLeastFrom l.from v.entity.sender.unconfirmed c.unconfirmed.result) c.self.view_is c.unconfirmed.ensures) in
    record {
      puts =
          sym (append-nil (puts_of_code old.sn l.puts))
          ∙ (sym (ap (λ (xs : List (ℕ × List ℕ)). puts_of_code old.sn l.puts ++ all_on c.args.leg xs) none)
          ∙ (l.invariant.all ∙ ap (λ (xs : List (ℕ × List ℕ)). puts_of_code old.sn c.args.puts.now ++ all_on c.args.leg xs) (all_from es)));
      are = l.invariant.are;
    }
