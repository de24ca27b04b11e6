use Rattle.std.proofs.Common.{◌≡◌, ◌∙◌, sym, ap, List, Bool, ℕ}
use Rattle.gnb_types.specs.declared.keys.TunnelEnd.{TunnelEnd}
use Rattle.gnb_types.specs.Orders.{tunnel_cmp}
use Rattle.tables.specs.Tables.{without}
use Rattle.transport_defs.specs.declared.Item.{Item}
use Rattle.links.specs.Tunnels.{OpenTunnels, tunnel_end}
use Rattle.links.proofs.KeptLemmas.{kept-made-again, kept-begun, kept-same, flag-undone}
use Rattle.links.proofs.tunnels.Tunnels.make.Goals as goal

undone : (c : goal.After-take) → c.take.new.self ≡ c.self.inside.lossy
undone c = flag-undone (tunnel_end c.args.end c.args.teid) c.self.invariant c.args.lossy c.take.new.self c.in-Err.ensures.absent
    (c.take.ensures.rest ∙ ap (λ (m : List (TunnelEnd × Bool)). without tunnel_cmp m (tunnel_end c.args.end c.args.teid)) c.in_ok-put.ensures.ok)

pub invariant_of-self-in-Err : goal.invariant_of-self-in-Err
invariant_of-self-in-Err c =
    kept-same (tunnel_end c.args.end c.args.teid) c.self.invariant c.put-2.new.self c.take.new.self c.in-Err.ensures.err (undone c)

pub returns-in-Err-clause-err : goal.returns-in-Err-clause-err
returns-in-Err-clause-err c =
    let tunnels_of : List (TunnelEnd × List (Item (List ℕ))) → List (TunnelEnd × Bool) → OpenTunnels (List ℕ) = λ q l. record { tunnels = q; lossy = l } in
    ap (λ (q : List (TunnelEnd × List (Item (List ℕ)))). tunnels_of q c.take.new.self) c.in-Err.ensures.err
    ∙ ap (tunnels_of c.self.inside.queues) (undone c)
    ∙ c.self.view_is

pub invariant_of-self-in_default : goal.invariant_of-self-in_default
invariant_of-self-in_default c =
    kept-begun (tunnel_end c.args.end c.args.teid) c.self.invariant c.put-2.new.self c.put.new.self c.in-Ok.before c.new.result c.args.lossy
    c.in-Ok.ensures.ok c.in_ok-put.ensures.ok c.new.ensures c.in_default.is c.in-Ok.ensures.old

pub invariant_of-self-2 : goal.invariant_of-self-2
invariant_of-self-2 c =
    kept-made-again (tunnel_end c.args.end c.args.teid) c.self.invariant c.put-2.new.self c.put.new.self c.in-Some.items c.new.result c.args.lossy
    c.leave_all.new.self c.in-Ok.ensures.ok c.in_ok-put.ensures.ok c.new.ensures (sym c.in-Ok.ensures.old ∙ c.in-Some.is) c.leave_all.ensures
