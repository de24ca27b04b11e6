-- What the orders of an input make of a bearer stands, and is of the same context; so that all of a CU-UP's do.
use Rattle.std.proofs.Common.{◌≡◌, List, [], Option, Some, None, refl, sym, subst, ◌∙◌}
use Rattle.gnb_types.specs.declared.names.UeId.{UeId}
use Rattle.gnb_types.specs.declared.names.BearerId.{BearerId}
use Rattle.gnb_types.specs.Orders.{ue_cmp}
use Rattle.tables.specs.Tables.{find}
use Rattle.unit_defs.specs.Ways.{Input, Output, Way, Answer, gives, spent}
use Rattle.unit_defs.specs.CuUpRecords.{CuUp, CuUpContext}
use Rattle.unit_defs.specs.CuUp.{cu_up_acts}
use Rattle.proof_unit_steps.specs.answers.After.{HoldsAfter}
use Rattle.proof_unit_steps.specs.tunnel_frames.OneTunnel.{BearersInOrder}
use Rattle.proof_cu_up_orders.specs.context_orders.Orders.{CuUpModel, model_in, model_of, carried}
use Rattle.proof_cu_up_orders.specs.context_orders.Inputs.{orders_of}
use Rattle.proof_cu_up_orders.specs.context_orders.Shown.{Follows}
use Rattle.proof_cu_up_orders.proofs.context_rows.Rows.{all_does, follows}
use Rattle.proof_cu_up_orders.specs.context_tests.Tests.{is_final}
use Rattle.proof_cu_up_orders.proofs.context_tests.Tests.{orders_tested}
use Rattle.proof_cu_up_orders.specs.context_stands.Stands.{Stands, StandsIn, StandsAfter, IsSame, SameAfter}
use Rattle.proof_cu_up_orders.proofs.context_stands.Stands.{stand, same}
use Rattle.proof_cu_up_orders.specs.context_stands.Holds.{AllStand, IsSameAfter}

-- a CU-UP has no contexts at its start
abbrev none : List (UeId × CuUpContext)
none = []

pub none_there : (ue : UeId) (bearer : BearerId) (p : CuUpModel) → model_in ue bearer (find ue_cmp none ue) ≡ Some p → Stands p
unfolding find
none_there ue bearer p there = absurd cc

module _ {M C P : Type 0} (way : Way M C P) (r : CuUp M C) (input : Input C P) (order : BearersInOrder r) where
  module _ (ue : UeId) (bearer : BearerId) where
    abbrev before : Option CuUpModel
    before = model_of r ue bearer

    abbrev orders : Answer M P (Option CuUpModel)
    orders = carried way ue bearer (orders_of way r ue bearer input) before

    they_follow : Follows ue bearer orders (cu_up_acts way r input)
    they_follow = follows way ue bearer (cu_up_acts way r input) orders (all_does way ue bearer r input order)

    same_by : (a : Answer M P (CuUp M C)) (k : Answer M P (Option CuUpModel)) → Follows ue bearer k a → SameAfter r.next_teid before k → IsSameAfter r ue bearer a
    same_by (spent c) k f h = tt
    same_by (gives os s) (spent c) f h = absurd f
    same_by (gives os s) (gives ks q) f h = subst (λ (o : Option CuUpModel). IsSame r.next_teid before o) (sym f.1) h

    pub stays_same : IsSameAfter r ue bearer (cu_up_acts way r input)
    stays_same = same_by (cu_up_acts way r input) orders they_follow
        (same way ue bearer (is_final input) r.next_teid (orders_of way r ue bearer input) before (orders_tested way r ue bearer input))

    standing : AllStand r → (o : Option CuUpModel) → before ≡ o → StandsIn o
    standing all None there = tt
    standing all (Some p) there = all ue bearer p there

    orders_stand : AllStand r → StandsAfter orders
    orders_stand all =
        stand way ue bearer (is_final input) r.next_teid (orders_of way r ue bearer input) before (orders_tested way r ue bearer input)
        (standing all before refl)

    stand_by : (s : CuUp M C) (os : List (Output M P)) (k : Answer M P (Option CuUpModel)) → Follows {M = M} {C = C} {P = P} ue bearer k (gives os s) → StandsAfter k
        → (p : CuUpModel) → model_of s ue bearer ≡ Some p → Stands p
    stand_by s os (spent c) f h p there = absurd f
    stand_by s os (gives ks q) f h p there = subst StandsIn (sym f.1 ∙ there) h

  pub stays_standing : AllStand r → HoldsAfter AllStand (cu_up_acts way r input)
  stays_standing all = by (cu_up_acts way r input) (λ ue bearer. they_follow ue bearer)
    where
      by : (a : Answer M P (CuUp M C)) → ((ue : UeId) (bearer : BearerId) → Follows ue bearer (orders ue bearer) a) → HoldsAfter AllStand a
      by (spent c) f = tt
      by (gives os s) f = λ ue bearer p there. stand_by ue bearer s os (orders ue bearer) (f ue bearer) (orders_stand ue bearer all) p there
