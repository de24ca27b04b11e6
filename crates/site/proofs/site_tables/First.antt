-- The tables of units as they are at first, one unit after another.
use Rattle.std.proofs.Common.{◌≡◌, [], ap, ◌∙◌}
use Rattle.gnb_types.specs.declared.names.Gnb.TheVariants.{A, B}
use Rattle.gnb_types.specs.declared.names.NodeId.TheVariants.{CuUp, Du}
use Rattle.gnb_types.specs.Orders.{node_cmp}
use Rattle.tables.specs.Tables.{put}
use Rattle.cu_user.specs.Users.{new_user}
use Rattle.du_node.specs.Nodes.{new_node}
use Rattle.site.specs.site_tables.Users.{Users, first_users}
use Rattle.site.specs.site_tables.Nodes.{Nodes, first_nodes}

pub first_users_are : (none a b c d : Users) → none ≡ [] → a ≡ put node_cmp none (CuUp A 1) (new_user A 1) → b ≡ put node_cmp a (CuUp A 2) (new_user A 2)
    → c ≡ put node_cmp b (CuUp B 1) (new_user B 1) → d ≡ put node_cmp c (CuUp B 2) (new_user B 2) → d ≡ first_users
unfolding put
first_users_are none a b c d at_first one two three four =
    four
    ∙ ap (λ (m : Users). put node_cmp m (CuUp B 2) (new_user B 2)) three
    ∙ ap (λ (m : Users). put node_cmp (put node_cmp m (CuUp B 1) (new_user B 1)) (CuUp B 2) (new_user B 2)) two
    ∙ ap (λ (m : Users). put node_cmp (put node_cmp (put node_cmp m (CuUp A 2) (new_user A 2)) (CuUp B 1) (new_user B 1)) (CuUp B 2) (new_user B 2))
    (one ∙ ap (λ (m : Users). put node_cmp m (CuUp A 1) (new_user A 1)) at_first)

pub first_nodes_are : (none a b c d : Nodes) → none ≡ [] → a ≡ put node_cmp none (Du A 1) (new_node A 1) → b ≡ put node_cmp a (Du A 2) (new_node A 2)
    → c ≡ put node_cmp b (Du B 1) (new_node B 1) → d ≡ put node_cmp c (Du B 2) (new_node B 2) → d ≡ first_nodes
unfolding put
first_nodes_are none a b c d at_first one two three four =
    four
    ∙ ap (λ (m : Nodes). put node_cmp m (Du B 2) (new_node B 2)) three
    ∙ ap (λ (m : Nodes). put node_cmp (put node_cmp m (Du B 1) (new_node B 1)) (Du B 2) (new_node B 2)) two
    ∙ ap (λ (m : Nodes). put node_cmp (put node_cmp (put node_cmp m (Du A 2) (new_node A 2)) (Du B 1) (new_node B 1)) (Du B 2) (new_node B 2))
    (one ∙ ap (λ (m : Nodes). put node_cmp m (Du A 1) (new_node A 1)) at_first)
