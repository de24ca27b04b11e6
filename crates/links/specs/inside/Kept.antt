-- Internal: beside the tunnels, and the radios, stand tallies that are theirs.
use Rattle.std.specs.Prelude.{◌≡◌, ℕ, Bool, List}
use Rattle.gnb_types.specs.declared.keys.TunnelEnd.{TunnelEnd}
use Rattle.gnb_types.specs.declared.keys.EntityKey.{EntityKey}
use Rattle.gnb_types.specs.Orders.{tunnel_cmp, entity_cmp}
use Rattle.tables.specs.Tables.{IsSorted, map_values}
use Rattle.transport_defs.specs.declared.Item.{Item}
use Rattle.transport_defs.specs.Links.{Radio}
use Rattle.links.specs.link_tallies.Tallies.{Tallies}
use Rattle.links.specs.link_tallies.Tied.{AreTallies}

-- the keys of a table, in order
abbrev pub keys : {K X : Type 0} → List (K × X) → List (K × Unit {0})
keys m = map_values (λ x. tt) m

pub record TunnelsAreKept {L : Type 0} (queues : List (TunnelEnd × List (Item L))) (lossy : List (TunnelEnd × Bool)) (t : Tallies) : Type 0 where
  pub sorted : IsSorted tunnel_cmp queues
  pub flags_sorted : IsSorted tunnel_cmp lossy
  pub same_keys : keys queues ≡ keys lossy
  pub tied : AreTallies (λ (items : List (Item L)). items) t queues

pub record RadiosAreKept {P : Type 0} (radios : List (EntityKey × Radio P)) (t : Tallies) : Type 0 where
  pub sorted : IsSorted entity_cmp radios
  pub tied : AreTallies (λ (radio : Radio P). radio.items) t radios
