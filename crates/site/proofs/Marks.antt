-- All units as they are at first, and all marked as set up, as the run sees them.
use Rattle.std.proofs.Common.{◌≡◌, ℕ, Bool, true, false, cond, ◌&&◌, List, [], ◌∷◌, map, Option, Some, None, refl, sym, ap, ◌∙◌, subst}
use Rattle.std.specs.Prelude.{Result, Ok, IfOk}
use Rattle.std.specs.declared.cmp.Ordering.{Ordering}
use Rattle.std.specs.List.{AllByRecursion, list_all}
use Rattle.std.specs.Map.{lookup}
use Rattle.std.specs.BTreeMap.{is_at}
use Rattle.gnb_types.specs.declared.names.Gnb.TheVariants.{A, B}
use Rattle.gnb_types.specs.declared.names.NodeId.{NodeId}
use Rattle.gnb_types.specs.declared.names.NodeId.TheVariants.{CuUp, Du}
use Rattle.gnb_types.specs.declared.names.UeId.{UeId}
use Rattle.gnb_types.specs.declared.names.BearerId.{BearerId}
use Rattle.gnb_types.specs.Orders.{node_cmp, ue_cmp}
use Rattle.tables.specs.Tables.{find, put, map_values}
use Rattle.unit_defs.specs.Accessors.{cu_up_rests}
use Rattle.unit_defs.specs.CuCpRecords.{new_cu_cp}
use Rattle.unit_defs.specs.Static.{cu_up_set_up, du_set_up}
use Rattle.run_defs.specs.Units.{new_units, ups_rest}
use Rattle.run_defs.specs.Conditions.{all_set_up}
use Rattle.cu_control.specs.Units.{ControlUnit}
use Rattle.cu_user.specs.Users.{User, new_user}
use Rattle.du_node.specs.Nodes.{Node, new_node}
use Rattle.site.specs.declared.unit_set.UnitSet.{UnitSet}
use Rattle.site.specs.Each.{EachIs}
use Rattle.site.specs.site_tables.Users.{Users, first_users, as_set_up as user_set_up}
use Rattle.site.specs.site_tables.Nodes.{Nodes, first_nodes, as_set_up as node_set_up}
use Rattle.site.specs.Sites.{records_of, AreWorking, all_marked}
use Rattle.site.proofs.Each.{mapped_each}

-- ---- at first

-- what is so of a call's value, where the value was seen
pub of_ok : {X E : Type 0} (P : X → Type 0) (r : Result X E) (x : X) → r ≡ Ok x → IfOk r P → P x
of_ok P r x is h = subst (λ q. IfOk q P) is h

each_of_all : {K X : Type 0} (R : K → K → Ordering) (P : X → Type 0) (m : List (K × X)) → AllByRecursion (λ e. P e.1) m → EachIs R P m
unfolding find
each_of_all R P [] all k x is = absurd cc
each_of_all R P (e ∷ es) all k x is = at_one R P e es k x all.0 (each_of_all R P es all.1 k x) (is_at (R k) e.0) is
  where
    at_one : {K X : Type 0} (R : K → K → Ordering) (P : X → Type 0) (e : K × X) (es : List (K × X)) (k : K) (x : X) → P e.1
        → (find R es k ≡ Some x → P x) → (t : Bool) → cond t (Some e.1) (lookup (is_at (R k)) es) ≡ Some x → P x
    at_one R P e es k x here later true h = let same : e.1 ≡ x = cc in subst P same here
    at_one R P e es k x here later false h = later h

module _ (s : UnitSet) (a_is : s.cu_cp_a ≡ record { kept = new_cu_cp A; stopped = None }) (b_is : s.cu_cp_b ≡ record { kept = new_cu_cp B; stopped = None })
    (users_are : s.users ≡ first_users) (nodes_are : s.nodes ≡ first_nodes) (none : s.terminals ≡ []) where
  abbrev first_set : UnitSet
  first_set = record {
    cu_cp_a = record { kept = new_cu_cp A; stopped = None };
    cu_cp_b = record { kept = new_cu_cp B; stopped = None };
    users = first_users;
    nodes = first_nodes;
    terminals = [];
  }

  first_is : s ≡ first_set
  first_is = λ i. record { cu_cp_a = a_is i; cu_cp_b = b_is i; users = users_are i; nodes = nodes_are i; terminals = none i }

  pub first_records : records_of s ≡ new_units
  unfolding map_values
  first_records = ap records_of first_is

  pub first_work : AreWorking s
  unfolding find
  first_work = subst (λ (t : UnitSet). AreWorking t) (sym first_is)
      (record {
        cu_cp_a = refl;
        cu_cp_b = refl;
        users = each_of_all node_cmp (λ (u : User). u.failure ≡ None) first_users (refl, (refl, (refl, (refl, tt))));
        nodes = each_of_all node_cmp (λ (n : Node). n.failure ≡ None) first_nodes (refl, (refl, (refl, (refl, tt))));
        terminals = λ k x is. absurd cc;
      })

-- ---- marked

parts_marked : {K X Y : Type 0} (part : X → Y) (f : X → X) (g : Y → Y) → ((x : X) → part (f x) ≡ g (part x)) → (m : List (K × X))
    → map_values part (map_values f m) ≡ map (λ e. (e.0, g e.1)) (map_values part m)
unfolding map_values
parts_marked part f g same [] = refl
parts_marked part f g same (e ∷ es) = λ i. (e.0, same e.1 i) ∷ parts_marked part f g same es i

pub marked_records : (s : UnitSet) → records_of (all_marked s) ≡ all_set_up (records_of s)
marked_records s = λ i. record (all_set_up (records_of s)) {
  ups = parts_marked (λ (u : User). u.up) user_set_up cu_up_set_up (λ u. refl) s.users i;
  dus = parts_marked (λ (n : Node). n.du) node_set_up du_set_up (λ n. refl) s.nodes i;
}

pub marked_work : (s : UnitSet) → AreWorking s → AreWorking (all_marked s)
marked_work s w = record {
  cu_cp_a = w.cu_cp_a;
  cu_cp_b = w.cu_cp_b;
  users = mapped_each node_cmp (λ (u : User). u.failure ≡ None) user_set_up (λ u is. is) s.users w.users;
  nodes = mapped_each node_cmp (λ (n : Node). n.failure ≡ None) node_set_up (λ n is. is) s.nodes w.nodes;
  terminals = w.terminals;
}

-- ---- at rest

pub rest_is : (users : Users) (ue : UeId) (bearer : BearerId)
    → list_all (λ e. cu_up_rests e.1.up ue bearer) users ≡ list_all (λ e. cu_up_rests e.1 ue bearer) (map_values (λ (u : User). u.up) users)
unfolding map_values
rest_is [] ue bearer = refl
rest_is (e ∷ es) ue bearer = by (cu_up_rests e.1.up ue bearer) (rest_is es ue bearer)
  where
    by : (t : Bool) → list_all (λ e. cu_up_rests e.1.up ue bearer) es ≡ list_all (λ e. cu_up_rests e.1 ue bearer) (map_values (λ (u : User). u.up) es)
        → t && list_all (λ e. cu_up_rests e.1.up ue bearer) es ≡ t && list_all (λ e. cu_up_rests e.1 ue bearer) (map_values (λ (u : User). u.up) es)
    by true h = h
    by false h = refl
