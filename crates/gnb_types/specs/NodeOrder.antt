-- Internal: proofs of the laws that the order of nodes has. It is total, and distinguishes all nodes as `==` does.
use Rattle.std.specs.Prelude.{◌≡◌, ℕ, ◌==◌, Bool, true, refl, if◌then◌else◌}
use Rattle.std.proofs.Common.{sym, ap, ◌∙◌, subst, eqb-true, eq-eqb}
use Rattle.std.specs.declared.cmp.Ordering.TheVariants.{Equal}
use Rattle.std.specs.Ordering.{nat_cmp, eq_by_cmp, is_eq}
use Rattle.std.specs.Cmp.{IsTotalOrder, on_total, then_total, nat_cmp_total, tied_itself, both_ways, Equal-is}
use Rattle.std.proofs.lemmas.Map.Lookups.{exact_unsigned, exact_pairs}
use Rattle.gnb_types.specs.declared.names.Gnb.TheVariants.{A, B}
use Rattle.gnb_types.specs.declared.names.NodeId.{NodeId}
use Rattle.gnb_types.specs.declared.names.NodeId.TheVariants.{CuCp, CuUp, Du, Core, Ue}
use Rattle.gnb_types.specs.contracts.names.NodeIdPartialEq.TheImpl as node
use Rattle.gnb_types.specs.Nodes.{node_class, node_number, node_cmp}

pub node_total : IsTotalOrder node_cmp
node_total = then_total (on_total node_class nat_cmp_total) (on_total node_number nat_cmp_total)

abbrev pub node_eq : NodeId → NodeId → Bool
node_eq = (node.eq-value).it

same_is : (x y : NodeId) → node_eq x y ≡ true → x ≡ y
same_is (CuCp A) (CuCp A) e = refl
same_is (CuCp B) (CuCp B) e = refl
same_is (CuUp A m) (CuUp A n) e = ap (CuUp A) (eqb-true m n e)
same_is (CuUp B m) (CuUp B n) e = ap (CuUp B) (eqb-true m n e)
same_is (Du A m) (Du A n) e = ap (Du A) (eqb-true m n e)
same_is (Du B m) (Du B n) e = ap (Du B) (eqb-true m n e)
same_is Core Core e = refl
same_is (Ue m) (Ue n) e = ap Ue (eqb-true m n e)
same_is _ _ e = absurd cc

itself : (x : NodeId) → node_eq x x ≡ true
itself (CuCp A) = refl
itself (CuCp B) = refl
itself (CuUp A n) = eq-eqb n n refl
itself (CuUp B n) = eq-eqb n n refl
itself (Du A n) = eq-eqb n n refl
itself (Du B n) = eq-eqb n n refl
itself Core = refl
itself (Ue n) = eq-eqb n n refl

-- the node of a kind and a number
abbrev node_of : ℕ → ℕ → NodeId
node_of class n =
    if class == 0 then CuCp A else (if class == 1 then CuUp A n else (if class == 2 then Du A n else
    (if class == 3 then CuCp B else (if class == 4 then CuUp B n else (if class == 5 then Du B n else
    (if class == 6 then Core else Ue n))))))

node_back : (x : NodeId) → node_of (node_class x) (node_number x) ≡ x
node_back (CuCp A) = refl
node_back (CuCp B) = refl
node_back (CuUp A n) = refl
node_back (CuUp B n) = refl
node_back (Du A n) = refl
node_back (Du B n) = refl
node_back Core = refl
node_back (Ue n) = refl

-- nodes that the order does not tell apart are one
pub node_exact : (x y : NodeId) → node_cmp x y ≡ Equal → x ≡ y
node_exact x y e =
    let places : (node_class x, node_number x) ≡ (node_class y, node_number y) =
    exact_pairs nat_cmp nat_cmp exact_unsigned exact_unsigned (node_class x, node_number x) (node_class y, node_number y) e in
    sym (node_back x) ∙ ap (λ (p : ℕ × ℕ). node_of p.0 p.1) places ∙ node_back y

pub node_ties : (x y : NodeId) → node_eq x y ≡ eq_by_cmp node_cmp x y
node_ties x y =
    both_ways (node_eq x y) (eq_by_cmp node_cmp x y)
    (λ e. ap is_eq (subst (λ (z : NodeId). node_cmp x z ≡ Equal) (same_is x y e) (tied_itself node_total x)))
    (λ e. subst (λ (z : NodeId). node_eq x z ≡ true) (node_exact x y ((Equal-is (node_cmp x y)).0 e)) (itself x))
