-- What stands on links, and letters, each as what it is over octets.
use Rattle.std.proofs.Common.{◌≡◌, ℕ, ◌==◌, ◌-◌, suc, Bool, true, false, List, [], ◌∷◌, ◌++◌, length, map, Some, refl, ap}
use Rattle.std.specs.Prelude.{if◌then◌else◌}
use Rattle.std.specs.List.{flat_map}
use Rattle.std.specs.Option.{option_map}
use Rattle.gnb_types.specs.declared.names.UeId.{UeId}
use Rattle.gnb_types.specs.declared.keys.TunnelEnd.{TunnelEnd}
use Rattle.gnb_types.specs.declared.keys.EntityKey.{EntityKey}
use Rattle.tables.specs.Tables.{map_values}
use Rattle.unit_defs.specs.Ways.{Pdu, Load}
use Rattle.transport_defs.specs.declared.Item.{Item}
use Rattle.transport_defs.specs.Links.{nth, counts_of, tunnel_counts, radio_counts, Radio}
use Rattle.run_defs.specs.Written.{Written}
use Rattle.law_octets_say_the_same.specs.octet_runs.Again.{items_again, radio_again}

pub length-values : {K X Y : Type 0} (f : X → Y) (es : List (K × X)) → length (map_values f es) ≡ length es
unfolding map_values
length-values f [] = refl
length-values f (e ∷ es) = ap suc (length-values f es)

pub values-append : {K X Y : Type 0} (f : X → Y) (es : List (K × X)) (k : K) (x : X) → map_values f es ++ (k, f x) ∷ [] ≡ map_values f (es ++ (k, x) ∷ [])
unfolding map_values
values-append f [] k x = refl
values-append f (e ∷ es) k x = ap (λ xs. (e.0, f e.1) ∷ xs) (values-append f es k x)

pub values-twice : {K X Y Z W : Type 0} (f : X → Y) (g : Y → Z) (h : X → W) (k : W → Z) (es : List (K × X)) → ((x : X) → g (f x) ≡ k (h x))
    → map (λ (e : K × Y). (e.0, g e.1)) (map_values f es) ≡ map_values k (map (λ (e : K × X). (e.0, h e.1)) es)
unfolding map_values
values-twice f g h k [] same = refl
values-twice f g h k (e ∷ es) same = λ i. (e.0, same e.1 i) ∷ values-twice f g h k es same i

pub nth-map : {X Y : Type 0} (f : X → Y) (xs : List X) (n : ℕ) → nth (map f xs) n ≡ option_map f (nth xs n)
nth-map f [] n = refl
nth-map f (x ∷ xs) n = by (n == 0) (nth-map f xs (n - 1))
  where
    by : (t : Bool) → nth (map f xs) (n - 1) ≡ option_map f (nth xs (n - 1))
        → (if t then Some (f x) else nth (map f xs) (n - 1)) ≡ option_map f (if t then Some x else nth xs (n - 1))
    by true e = refl
    by false e = e

-- ---- the COUNTs that items show

module _ (key : EntityKey) where
  items_count : {X : Type 0} (items : List (Item (Written X))) → flat_map (counts_of key) (items_again items) ≡ flat_map (counts_of key) items
  items_count [] = refl
  items_count (item ∷ items) = ap (λ ns. counts_of key item ++ ns) (items_count items)

  pub tunnels_count : (ts : List (TunnelEnd × List (Item (Written (Load Pdu))))) → tunnel_counts key (map_values items_again ts) ≡ tunnel_counts key ts
  unfolding map_values
  tunnels_count [] = refl
  tunnels_count (t ∷ ts) = λ i. items_count t.1 i ++ tunnels_count ts i

  pub radios_count : (rs : List (EntityKey × Radio (Written Pdu))) → radio_counts key (map_values radio_again rs) ≡ radio_counts key rs
  unfolding map_values
  radios_count [] = refl
  radios_count (r ∷ rs) = λ i. items_count r.1.items i ++ radios_count rs i

-- the radios of a terminal on which anything stands
pub radios_same : (ue : UeId) (rs : List (EntityKey × Radio (Written Pdu)))
    → flat_map (λ (e : EntityKey × Radio (List ℕ)). if e.0.ue.0 == ue.0 then e.0 ∷ [] else []) (map_values radio_again rs)
    ≡ flat_map (λ (e : EntityKey × Radio (Written Pdu)). if e.0.ue.0 == ue.0 then e.0 ∷ [] else []) rs
unfolding map_values
radios_same ue [] = refl
radios_same ue (r ∷ rs) = ap (λ keys. (if r.0.ue.0 == ue.0 then r.0 ∷ [] else []) ++ keys) (radios_same ue rs)
