-- Which links are the same, in the words of a transcript and in those of tables.
use Rattle.std.proofs.Common.{◌≡◌, ◌==◌, ℕ, Bool, true, false, ◌&&◌, refl, sym, ap, ◌∙◌, eqb-true, eq-eqb}
use Rattle.std.specs.declared.cmp.Ordering.{Ordering}
use Rattle.std.specs.declared.cmp.Ordering.TheVariants.{Equal}
use Rattle.std.specs.Ordering.{is_eq, eq_by_cmp}
use Rattle.std.specs.Cmp.{IsTotalOrder, tied_itself, Equal-is}
use Rattle.gnb_types.specs.declared.keys.TunnelEnd.{TunnelEnd}
use Rattle.gnb_types.specs.declared.keys.EntityKey.{EntityKey}
use Rattle.gnb_types.specs.Orders.{node_cmp, tunnel_cmp, entity_cmp}
use Rattle.gnb_types.proofs.OrderLemmas.{node_total, node_exact, tunnel_total, tunnel_exact, entity_total, entity_exact}
use Rattle.run_defs.specs.Lines.{tunnel_link, radio_link}
use Rattle.run_defs.specs.Said.{same_link}

-- two tests that hold at the same time
same_test : (a b : Bool) → (a ≡ true → b ≡ true) → (b ≡ true → a ≡ true) → a ≡ b
same_test true b there back = sym (there refl)
same_test false true there back = back refl
same_test false false there back = refl

both : (a b : Bool) → a ≡ true → b ≡ true → a && b ≡ true
both true b p q = q
both false b p q = p

pub first_of_two : (a b : Bool) → a && b ≡ true → a ≡ true
first_of_two true b p = refl
first_of_two false b p = p

pub second_of_two : (a b : Bool) → a && b ≡ true → b ≡ true
second_of_two true b p = p
second_of_two false b p = absurd cc

pub ties : {K : Type 0} (R : K → K → Ordering) → (a b : K) → eq_by_cmp R a b ≡ true → R a b ≡ Equal
ties R a b e = (Equal-is (R a b)).0 e

pub ties_itself : {K : Type 0} {R : K → K → Ordering} → IsTotalOrder R → (a b : K) → a ≡ b → eq_by_cmp R a b ≡ true
ties_itself {R = R} o a b e = ap (λ c. eq_by_cmp R a c) (sym e) ∙ ap is_eq (tied_itself o a)

pub same_tunnel : (a b : TunnelEnd) → same_link (tunnel_link a) (tunnel_link b) ≡ eq_by_cmp tunnel_cmp b a
same_tunnel a b = same_test _ _ there back
  where
    there : eq_by_cmp node_cmp a.node b.node && a.teid == b.teid ≡ true → eq_by_cmp tunnel_cmp b a ≡ true
    there h =
        let nodes : b.node ≡ a.node = sym (node_exact a.node b.node (ties node_cmp a.node b.node (first_of_two _ _ h))) in
        let teids : b.teid ≡ a.teid = sym (eqb-true a.teid b.teid (second_of_two (eq_by_cmp node_cmp a.node b.node) _ h)) in
        ties_itself tunnel_total b a (λ i. record { node = nodes i; teid = teids i })

    back : eq_by_cmp tunnel_cmp b a ≡ true → eq_by_cmp node_cmp a.node b.node && a.teid == b.teid ≡ true
    back h =
        let ends : b ≡ a = tunnel_exact b a (ties tunnel_cmp b a h) in
        both _ _ (ties_itself node_total a.node b.node (ap (λ (t : TunnelEnd). t.node) (sym ends)))
        (eq-eqb a.teid b.teid (ap (λ (t : TunnelEnd). t.teid) (sym ends)))

pub same_radio : (a b : EntityKey) (m n : ℕ) → same_link (radio_link a m) (radio_link b n) ≡ eq_by_cmp entity_cmp b a && m == n
same_radio a b m n = ap (λ t. t && m == n) (same_test (eq_by_cmp entity_cmp a b) (eq_by_cmp entity_cmp b a) (turned a b) (turned b a))
  where
    turned : (p q : EntityKey) → eq_by_cmp entity_cmp p q ≡ true → eq_by_cmp entity_cmp q p ≡ true
    turned p q h = ties_itself entity_total q p (sym (entity_exact p q (ties entity_cmp p q h)))
