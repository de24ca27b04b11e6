-- A terminal that is set up without messages, beside the initial models of its bearer.
use Rattle.std.proofs.Common.{◌≡◌, ◌≢◌, ◌==◌, ℕ, Bool, true, false, cond, List, [], ◌∷◌, Option, Some, None, refl, sym, ap, subst, ◌∙◌, eqb-true, arith}
use Rattle.std.specs.Prelude.{is_some, if◌then◌else◌, unwrap_or}
use Rattle.std.specs.List.{AllByRecursion}
use Rattle.std.specs.Ordering.{nat_cmp, eq_by_cmp}
use Rattle.std.specs.Cmp.{Equal-is}
use Rattle.std.specs.BTreeMap.{is_at}
use Rattle.gnb_types.specs.declared.names.Gnb.{Gnb}
use Rattle.gnb_types.specs.declared.names.Gnb.TheVariants.{A, B}
use Rattle.gnb_types.specs.declared.names.NodeId.TheVariants.{CuUp as up_id}
use Rattle.gnb_types.specs.declared.keys.TunnelEnd.{TunnelEnd}
use Rattle.gnb_types.specs.Orders.{ue_cmp, bearer_cmp, node_cmp, tunnel_cmp}
use Rattle.gnb_types.proofs.OrderLemmas.{node_exact}
use Rattle.tables.specs.Tables.{find, put, at}
use Rattle.unit_defs.specs.CuUpRecords.{TunnelKind, n3, f1u_uplink, forwarding_down, forwarding_up, DownlinkTunnel}
use Rattle.unit_defs.specs.Static.{cu_up_context, cu_up_placed, du_placed, cu_cp_placed}
use Rattle.unit_defs.specs.CuUpBearers.{made}
use Rattle.unit_defs.specs.CuUp.{new_cu_up}
use Rattle.message_types.specs.declared.rrc.Token.{Token}
use Rattle.unit_defs.specs.Ways.{Message}
use Rattle.run_defs.specs.Units.{cu_up_of}
use Rattle.run_defs.specs.Runs.{Reading, plain_world}
use Rattle.proof_run_steps.proofs.facts.Steps.{found_has}
use Rattle.bearer_defs.specs.chain_defs.Models as down_models
use Rattle.bearer_defs.specs.chain_defs.Models.{set}
use Rattle.bearer_defs.specs.chain_defs.Orders as down
use Rattle.bearer_defs.specs.uplink_defs.Models as up_models
use Rattle.proof_cu_up_orders.specs.context_orders.Orders.{CuUpModel, model_in, model_of}
use Rattle.proof_cu_up_orders.specs.bearer_orders.Happenings.{Contexts}
use Rattle.proof_cu_up_orders.specs.bearer_orders.Starts.{only}
use Rattle.proof_cu_up_orders.proofs.bearer_orders.Starts.{set_up_starts}
use Rattle.proof_run_steps.specs.tunnel_steps.Standing.{standing}
use Rattle.proof_bearer_refinement.specs.run_bearers.Bearers.{Place, Numbering, if_of, at_place, contexts_of}
use Rattle.proof_bearer_refinement.specs.refinement_facts.Refinements.{RunItem, downs_of, ups_of, IsMirror}
use Rattle.proof_bearer_refinement.specs.du_puts.Worked.{terminal, bearer, plan}
use Rattle.proof_bearer_refinement.specs.initial.First.{set_up, first}

number_same : (a : ℕ) → (a == a) ≡ true
number_same a = grind arith

-- ---- nothing stands on a tunnel

pub nothing_stands : (end : TunnelEnd) (items : List RunItem) → standing set_up end ≡ Some items → items ≡ []
unfolding find put at
nothing_stands end items is = found_has tunnel_cmp (λ (zs : List RunItem). zs ≡ []) set_up.tunnels end items (refl, (refl, (refl, tt))) is

-- ---- nor is anything in a list of the models

module _ (n : Numbering) (teid : ℕ) (d : DownlinkTunnel) where
  abbrev pub downs_then : ℕ → down_models.Member
  downs_then = (down.run (down_models.initial (first n) teid) (down.switches (first n) d 0 ∷ [])).members

  abbrev pub ups_then : ℕ → up_models.Member
  ups_then = (up_models.initial (first n) teid).members

  -- what a switch leaves of a member's lists
  switched : {X : Type 0} (part : down_models.Member → X) (none : X) (f : ℕ → down_models.Member) (x : ℕ) (m : down_models.Member) (y : ℕ)
      → ((z : ℕ) → part (f z) ≡ none) → part m ≡ part (f x) → part (set f x m y) ≡ none
  switched part none f x m y all same = by (y == x)
    where
      by : (t : Bool) → part (if t then m else f y) ≡ none
      by true = same ∙ all x
      by false = all y

  started : {X : Type 0} (part : down_models.Member → X) (none : X) → part (down_models.new_member false teid) ≡ none → part down_models.no_member ≡ none
      → (z : ℕ) → part ((down_models.initial (first n) teid).members z) ≡ none
  unfolding down_models.initial
  started part none new other z = by (z == first n)
    where
      by : (t : Bool) → part (if t then down_models.new_member false teid else down_models.no_member) ≡ none
      by true = new
      by false = other

  no_n3 : (y : ℕ) → (downs_then y).n3 ≡ []
  unfolding down.run down.after
  no_n3 y = switched (λ (m : down_models.Member). m.n3) [] (down_models.initial (first n) teid).members (first n) _ y (started (λ (m : down_models.Member). m.n3) [] refl refl) refl

  no_forwarded : (y : ℕ) → (downs_then y).forwarded ≡ []
  unfolding down.run down.after
  no_forwarded y =
      switched (λ (m : down_models.Member). m.forwarded) [] (down_models.initial (first n) teid).members (first n) _ y
      (started (λ (m : down_models.Member). m.forwarded) [] refl refl) refl

  ups_started : {X : Type 0} (part : up_models.Member → X) (none : X) → part (up_models.new_member false teid) ≡ none → part up_models.no_member ≡ none
      → (z : ℕ) → part (ups_then z) ≡ none
  unfolding up_models.initial
  ups_started part none new other z = by (z == first n)
    where
      by : (t : Bool) → part (if t then up_models.new_member false teid else up_models.no_member) ≡ none
      by true = new
      by false = other

  pub empty_mirror : (kind : TunnelKind) (y q : ℕ) → IsMirror kind (downs_then y) (ups_then y) q []
  unfolding downs_of ups_of
  empty_mirror n3 y q = sym (no_n3 y)
  empty_mirror forwarding_down y q = sym (no_forwarded y)
  empty_mirror f1u_uplink y q = sym (ups_started (λ (m : up_models.Member). m.uplink q) [] refl refl y)
  empty_mirror forwarding_up y q = sym (ups_started (λ (m : up_models.Member). m.forwarded) [] refl refl y)

-- ---- the bearer's context

abbrev pub its_context : Option CuUpModel
its_context = model_in terminal bearer (Some (cu_up_context (new_cu_up {M = Message Token} {C = Token} A 1) plan 1))

some_it : {X : Type 0} (o : Option X) → is_some o ≡ true → (x : X) × (o ≡ Some x)
some_it None is = absurd cc
some_it (Some x) is = (x, refl)

pub its_model : (p : CuUpModel) × (its_context ≡ Some p)
unfolding find made
its_model = some_it its_context refl

its_instance : its_model.0.instance ≡ 1
unfolding find made
its_instance = by its_model.0 its_model.1
  where
    by : (p : CuUpModel) → its_context ≡ Some p → p.instance ≡ 1
    by p is = cc

model_there : (g : Gnb) (k : ℕ) → model_of (cu_up_of set_up.units g k) terminal bearer ≡ (if eq_by_cmp node_cmp (up_id g k) (up_id A 1) then Some its_model.0 else None)
unfolding find put at cu_up_placed
model_there g k =
    by (is_at (node_cmp (up_id g k)) (up_id A 1)) (is_at (node_cmp (up_id g k)) (up_id A 2)) (is_at (node_cmp (up_id g k)) (up_id B 1))
    (is_at (node_cmp (up_id g k)) (up_id B 2))
  where
    by : (a b c d : Bool) → model_of (unwrap_or (cond a (Some (cu_up_of set_up.units A 1)) (cond b (Some (cu_up_of set_up.units A 2)) (cond c (Some (cu_up_of set_up.units B 1))
        (cond d (Some (cu_up_of set_up.units B 2)) None)))) (new_cu_up g k)) terminal bearer ≡ (if a then Some its_model.0 else None)
    by true b c d = its_model.1
    by false true c d = refl
    by false false true d = refl
    by false false false true = refl
    by false false false false = refl

module _ (n : Numbering) where
  abbrev its_place : Place
  its_place = record { gnb = A; number = 1; instance = 1 }

  named : (g : Gnb) (k : ℕ) → up_id g k ≡ up_id A 1 → (g ≡ A) × (k ≡ 1)
  named g k is = (cc, cc)

  -- another place is another number's
  not_first : (x : ℕ) (o : Option Place) → n.place_of x ≡ o → (o ≡ Some its_place → ⊥) → (x == first n) ≡ false
  not_first x o is other = by (x == first n) refl
    where
      by : (t : Bool) → (x == first n) ≡ t → t ≡ false
      by false e = refl
      by true e = absurd (other (sym is ∙ ap n.place_of (eqb-true x (first n) e) ∙ n.found its_place))

  at_x : (x : ℕ) (o : Option Place) → n.place_of x ≡ o → at_place terminal bearer set_up.units o ≡ only (first n) its_model.0 x
  at_x x None is = ap (λ (t : Bool). if t then Some its_model.0 else None) (sym (not_first x None is (λ e. absurd cc)))
  at_x x (Some pl) is = ap (if_of pl.instance) (model_there pl.gnb pl.number) ∙ by (eq_by_cmp node_cmp (up_id pl.gnb pl.number) (up_id A 1)) refl
    where
      at_a : (g : Gnb) (k : ℕ) → up_id g k ≡ up_id A 1 → pl ≡ record { gnb = g; number = k; instance = pl.instance } → (t : Bool) → (pl.instance == 1) ≡ t
          → (if t then Some its_model.0 else None) ≡ only (first n) its_model.0 x
      at_a g k e whole true f =
          let same = named g k e in
          let place_is : pl ≡ its_place = whole ∙ (λ i. record { gnb = same.0 i; number = same.1 i; instance = eqb-true pl.instance 1 f i }) in
          let x_is : first n ≡ x = n.back x its_place (is ∙ ap (λ (k : Place). Some k) place_is) in
          sym (ap (λ (t : Bool). if t then Some its_model.0 else None) (ap (λ (z : ℕ). x == z) x_is ∙ number_same x))
      at_a g k e whole false f =
          sym (ap (λ (t : Bool). if t then Some its_model.0 else None)
          (not_first x (Some pl) is
          (λ h. clash_so (sym f ∙ ap (λ (o : Option Place). instance_is o) h))))
        where
          instance_is : Option Place → Bool
          instance_is None = false
          instance_is (Some k) = k.instance == 1

          clash_so : false ≡ true → ⊥
          clash_so h = cc

      by : (t : Bool) → eq_by_cmp node_cmp (up_id pl.gnb pl.number) (up_id A 1) ≡ t
          → if_of pl.instance (if t then Some its_model.0 else None) ≡ only (first n) its_model.0 x
      by true e =
          ap (λ (t : Bool). if t then Some its_model.0 else None) (ap (λ (k : ℕ). k == pl.instance) its_instance ∙ turned pl.instance)
          ∙ at_a pl.gnb pl.number (node_exact (up_id pl.gnb pl.number) (up_id A 1) ((Equal-is (node_cmp (up_id pl.gnb pl.number) (up_id A 1))).0 e)) refl
          (pl.instance == 1) refl
        where
          turned : (k : ℕ) → (1 == k) ≡ (k == 1)
          turned k = grind arith
      by false e =
          sym (ap (λ (t : Bool). if t then Some its_model.0 else None)
          (not_first x (Some pl) is
          (λ h. let same : pl ≡ its_place = cc in
          let refinement : false ≡ true = sym e ∙ ap (λ (k : Place). eq_by_cmp node_cmp (up_id k.gnb k.number) (up_id A 1)) same in cc)))

  pub contexts_are : contexts_of n terminal bearer set_up.units ≡ only (first n) its_model.0
  contexts_are i x = at_x x (n.place_of x) refl i
