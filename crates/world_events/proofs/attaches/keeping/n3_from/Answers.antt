use Rattle.std.proofs.Common.{◌≡◌, ℕ, ◌+◌, ◌-◌, ◌*◌, List, [], ◌∷◌, ◌++◌, ap, ◌∙◌, subst, arith}
use Rattle.gnb_types.specs.declared.plans.Tunnel.{Tunnel}
use Rattle.run_defs.specs.Conditions.{n3_from}
use Rattle.world_events.proofs.attaches.Kept.{n3_begins, n3_turn, n3_ends}
use Rattle.world_events.proofs.attaches.keeping.n3_from.Goals as goal

pub loop-before-init : goal.loop-before-init
loop-before-init c =
    ap (λ (ts : List Tunnel). ts ++ n3_from 1 (c.args.first + 0) (c.args.bearers - 0)) c.new-n3.ensures ∙ n3_begins c.args.first c.args.bearers

pub loop-before-preserved : goal.loop-before-preserved
loop-before-preserved c =
    let same : c.from.result ≡ c.loop-before.before = omega arith in
    n3_turn c.args.first c.args.bearers c.loop-before.before c.loop-before.n3 c.push.new.self (omega arith) c.loop-before.invariant
    (c.in_ok-push.ensures.ok
    ∙ ap (λ (n : ℕ). c.loop-before.n3 ++ record { bearer = record { 0 = c.loop-before.before + 1 }; teid = c.args.first + 2 * n } ∷ []) same)

pub returns : goal.returns
returns c =
    let all : c.loop-before.before ≡ c.args.bearers = omega arith in
    n3_ends c.args.first c.args.bearers c.loop-before.n3
    (subst (λ (k : ℕ). c.loop-before.n3 ++ n3_from (k + 1) (c.args.first + 2 * k) (c.args.bearers - k) ≡ n3_from 1 c.args.first c.args.bearers) all
    c.loop-before.invariant)
