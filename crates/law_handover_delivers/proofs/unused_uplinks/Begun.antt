-- The initial models of a bearer, after the switch by which its context has its downlink: one context, with no hop, neither frozen nor
-- released.
use Rattle.std.proofs.Common.{◌≡◌, ◌==◌, ℕ, Bool, true, false, [], ◌∷◌, None, refl, eqb-true}
use Rattle.std.specs.Prelude.{if◌then◌else◌}
use Rattle.unit_defs.specs.CuUpRecords.{DownlinkTunnel}
use Rattle.unit_defs.specs.CuUpBearers.{made}
use Rattle.bearer_defs.specs.chain_defs.Models as down_models
use Rattle.bearer_defs.specs.chain_defs.Orders as down
use Rattle.bearer_defs.specs.uplink_defs.Models as up_models
use Rattle.proof_cu_up_orders.specs.down_orders.Down.{without_end}
use Rattle.proof_bearer_refinement.proofs.refinement_facts.Ends.{clash}

-- no hop, and neither frozen nor released
pub record IsPlain (m : down_models.Member) : Type 0 where
  pub next_hop : m.next_hop ≡ 0
  pub hop : without_end m.bearer.hop ≡ None
  pub frozen : m.flags.frozen ≡ false
  pub released : m.flags.released ≡ false

module _ (first teid : ℕ) (d : DownlinkTunnel) where
  abbrev pub begun : down_models.Model
  begun = down.run (down_models.initial first teid) (down.switches first d 0 ∷ [])

  abbrev started : Bool → down_models.Member
  started t = if t then down_models.new_member false teid else down_models.no_member

  abbrev switched_on : down_models.Member → down_models.Member
  switched_on m = record m { flags = record m.flags { frozen = false; arrived = true }; bearer = down.on_downlink m.bearer d; epoch = 0 }

  switched_plain : (t : Bool) → IsPlain (switched_on (started t))
  unfolding made
  switched_plain true = record { next_hop = refl; hop = refl; frozen = refl; released = refl }
  switched_plain false = record { next_hop = refl; hop = refl; frozen = refl; released = refl }

  abbrev begun_at : Bool → down_models.Member
  begun_at t = if t then switched_on (started (first == first)) else started t

  pub begun_plain : (y : ℕ) → (begun.members y).is_there ≡ true → (y ≡ first) × IsPlain (begun.members y)
  unfolding down.run down.after down_models.initial
  begun_plain y there = by (y == first) refl there
    where
      by : (t : Bool) → (y == first) ≡ t → (begun_at t).is_there ≡ true → (y ≡ first) × IsPlain (begun_at t)
      by true e h = (eqb-true y first e, switched_plain (first == first))
      by false e h = clash h

  pub up_plain : (y : ℕ) → ((up_models.initial first teid).members y).next_hop ≡ 0
  unfolding up_models.initial
  up_plain y = by (y == first)
    where
      by : (t : Bool) → (if t then up_models.new_member false teid else up_models.no_member).next_hop ≡ 0
      by true = refl
      by false = refl
