-- A verdict of the code, and the one of the definitions.
use Rattle.std.proofs.Common.{◌≡◌, ℕ, refl}
use Rattle.std.specs.Prelude.{Ok}
use Rattle.gnb_types.specs.declared.keys.Channel.{Channel}
use Rattle.transaction_defs.specs.Callees.{Verdict, new, again, stale, verdict, accepted, accepted_as}
use Rattle.transactions.specs.Answers.{verdict_as}
use Rattle.unit_requests.specs.Requests.{Kept, AcceptGives}

module _ (before : Kept) (c : Channel) (instance : ℕ) where
  by_verdict : (v : Verdict) → verdict before.callee c instance ≡ v
      → AcceptGives before c instance (record before { callee = accepted_as v before.callee c instance }) (Ok (verdict_as v))
  by_verdict new is = (is, refl)
  by_verdict again is = (is, refl)
  by_verdict stale is = (is, refl)

  pub accept_gives : AcceptGives before c instance (record before { callee = accepted before.callee c instance }) (Ok (verdict_as (verdict before.callee c instance)))
  unfolding accepted
  accept_gives = by_verdict (verdict before.callee c instance) refl
