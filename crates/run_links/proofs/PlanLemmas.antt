-- Each plan is kept under its own terminal.
use Rattle.std.proofs.Common.{◌≡◌, cond, List, [], ◌∷◌, Option, Some, None, refl, sym, ap, ◌∙◌}
use Rattle.std.specs.Prelude.{IfSome, option_copied}
use Rattle.std.specs.Borrow.{Bor}
use Rattle.std.specs.declared.cmp.Ordering.{Ordering}
use Rattle.std.specs.declared.cmp.Ordering.TheVariants.{Less, Equal, Greater}
use Rattle.std.specs.Ordering.{match_ordering, is_eq}
use Rattle.std.specs.Map.{lookup}
use Rattle.std.specs.BTreeMap.{is_at, insert_entry}
use Rattle.gnb_types.specs.declared.names.UeId.{UeId}
use Rattle.gnb_types.specs.declared.plans.Plan.{Plan}
use Rattle.gnb_types.specs.Orders.{ue_cmp}
use Rattle.gnb_types.proofs.OrderLemmas.{ue_exact}
use Rattle.tables.specs.Tables.{find, put}
use Rattle.run_links.specs.inside.Plans.{AreOwn}

pub own_put : (plans : List (UeId × Plan)) (plan : Plan) → AreOwn plans → AreOwn (put ue_cmp plans plan.ue plan)
unfolding put
own_put [] plan all = (refl, tt)
own_put (e ∷ es) plan all = by (ue_cmp plan.ue e.0) refl (own_put es plan all.1)
  where
    by : (r : Ordering) → ue_cmp plan.ue e.0 ≡ r → AreOwn (insert_entry ue_cmp es plan.ue plan)
        → AreOwn (match_ordering r ((plan.ue, plan) ∷ e ∷ es) ((e.0, plan) ∷ es) (e ∷ insert_entry ue_cmp es plan.ue plan))
    by Less is rest = (refl, all)
    by Equal is rest = (ue_exact plan.ue e.0 is, all.1)
    by Greater is rest = (all.0, rest)

own_found : (plans : List (UeId × Plan)) (ue : UeId) (plan : Plan) → AreOwn plans → find ue_cmp plans ue ≡ Some plan → plan.ue ≡ ue
unfolding find
own_found [] ue plan all found = absurd cc
own_found (e ∷ es) ue plan all found = by (ue_cmp ue e.0) refl found (own_found es ue plan all.1)
  where
    by : (r : Ordering) → ue_cmp ue e.0 ≡ r → cond (is_eq r) (Some e.1) (lookup (is_at (ue_cmp ue)) es) ≡ Some plan
        → (lookup (is_at (ue_cmp ue)) es ≡ Some plan → plan.ue ≡ ue) → plan.ue ≡ ue
    by Less is found rest = rest found
    by Equal is found rest =
        let same : e.1 ≡ plan = cc in ap (λ (p : Plan). p.ue) (sym same) ∙ all.0 ∙ sym (ue_exact ue e.0 is)
    by Greater is found rest = rest found

pub own_shown : (plans : List (UeId × Plan)) (ue : UeId) (shown : Option (Bor Plan)) → AreOwn plans → option_copied shown ≡ find ue_cmp plans ue
    → IfSome shown (λ plan. plan.now.ue ≡ ue)
own_shown plans ue None all is = tt
own_shown plans ue (Some plan) all is = own_found plans ue plan.now all (sym is)
