use Rattle.std.proofs.Common.{ℕ, ◌+◌, ap}
use Rattle.std.specs.Prelude.{Ok, Err}
use Rattle.std.proofs.lemmas.Result.{err_from_is_err_and}
use Rattle.site.proofs.Sets.{user_works}
use Rattle.site.proofs.Placing.{up_fails, up_works, others_give, not_at_up, not_at_du}
use Rattle.site.proofs.unit_set.UnitSet.place_static.Goals as goal

pub place-requires-clause-works : goal.place-requires-clause-works
place-requires-clause-works c = user_works c.args.self.now c.args.plan.gnb c.args.plan.up c.requires.works

pub place-requires-clause-new : goal.place-requires-clause-new
place-requires-clause-new c = not_at_up c.args.plan c.args.self.now c.requires.new

pub returns-in_err-place-clause-places : goal.returns-in_err-place-clause-places
returns-in_err-place-clause-places c =
    let p = err_from_is_err_and c.from_residual.result c.from_residual.ensures.1 in
    rw (p.1, p.2)
    (up_fails c.args.plan c.args.self.now c.next_teid-downlink.result c.place.new.users c.in_err-place.field-0.0 c.next_teid-downlink.ensures c.in_err-place.ensures)

pub place_at_others-requires-clause-works : goal.place_at_others-requires-clause-works
place_at_others-requires-clause-works c =
    up_works c.args.plan c.args.self.now c.next_teid-downlink.result c.place.new.users c.requires.works c.in_ok-place.ensures

pub place_at_others-requires-clause-new : goal.place_at_others-requires-clause-new
place_at_others-requires-clause-new c = not_at_du c.args.plan c.args.self.now c.requires.new

pub returns-in-Ok-clause-places : goal.returns-in-Ok-clause-places
returns-in-Ok-clause-places c =
    others_give c.args.plan c.args.self.now c.next_teid-downlink.result (c.next_teid-uplink.result + 1) c.place.new.users c.place_at_others.new.self (Ok tt)
    c.in_ok-place.ensures c.next_teid-downlink.ensures (ap (λ (n : ℕ). n + 1) c.next_teid-uplink.ensures) c.in-Ok.ensures

pub returns-in-Err-clause-places : goal.returns-in-Err-clause-places
returns-in-Err-clause-places c =
    others_give c.args.plan c.args.self.now c.next_teid-downlink.result (c.next_teid-uplink.result + 1) c.place.new.users c.place_at_others.new.self
    (Err c.in-Err.error) c.in_ok-place.ensures c.next_teid-downlink.ensures (ap (λ (n : ℕ). n + 1) c.next_teid-uplink.ensures) c.in-Err.ensures
