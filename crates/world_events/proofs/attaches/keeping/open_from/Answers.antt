use Rattle.std.proofs.Common.{◌≡◌, ℕ, ◌+◌, ◌-◌, subst, arith}
use Rattle.run_defs.specs.Steps.{opens}
use Rattle.run_links.specs.Told.{Makes}
use Rattle.world_events.proofs.attaches.Kept.{Opens, open_begins, open_turn, open_ends}
use Rattle.world_events.proofs.attaches.keeping.open_from.Goals as goal

pub loop-before-init : goal.loop-before-init
loop-before-init c = λ new lines h. open_begins c.args.node c.args.first c.args.count c.args.network.now new lines h

pub loop-before-preserved : goal.loop-before-preserved
loop-before-preserved c = λ new lines h.
    let same : c.from.result ≡ c.loop-before.before = omega arith in
    c.loop-before.invariant new lines
    (open_turn c.args.node c.args.first c.args.count c.loop-before.before c.loop-before.network c.open.new.self new lines (omega arith)
    (subst (λ (n : ℕ). Makes (λ world. opens world (record { node = c.args.node; teid = c.args.first + n })) c.loop-before.network c.open.new.self lines lines)
    same (c.in_ok-open.ensures.told lines)) h)

pub returns : goal.returns
returns c = λ lines.
    let all : c.args.count ≡ c.loop-before.before = omega arith in
    c.loop-before.invariant c.loop-before.network lines
    (subst (λ (k : ℕ). Opens c.args.node (c.args.first + k) (c.args.count - k) c.loop-before.network c.loop-before.network lines) all
    (open_ends c.args.node c.args.first c.args.count c.loop-before.network lines))
