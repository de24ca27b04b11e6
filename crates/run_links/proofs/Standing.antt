-- What stands on a tunnel, and whether it may be lost.
use Rattle.std.proofs.Common.{◌≡◌, Bool, true, false, if◌then◌else◌, List, [], ◌∷◌, Option, Some, None, refl, ap}
use Rattle.std.specs.Prelude.{Ok, Err}
use Rattle.gnb_types.specs.declared.keys.TunnelEnd.{TunnelEnd}
use Rattle.gnb_types.specs.Orders.{tunnel_cmp}
use Rattle.tables.specs.Tables.{find}
use Rattle.links.specs.declared.links_bag.error.LinkError.{LinkError}
use Rattle.links.specs.declared.links_bag.error.LinkError.TheVariants as errors
use Rattle.links.specs.links_bag.Answers.{gives, refuses}
use Rattle.links.specs.Tunnels.{OpenTunnels, head}
use Rattle.gnb_types.specs.declared.reasons.RefuseReason.{RefuseReason}
use Rattle.gnb_types.specs.declared.reasons.RefuseReason.TheVariants as reasons
use Rattle.transport_defs.specs.declared.Item.{Item}
use Rattle.run_defs.specs.Events.{is_lossy}
use Rattle.run_links.specs.Networks.{Octets, OctetWorld}
use Rattle.run_links.specs.Told.{oldest_in, stands_on, lost_by, loses}

pub stands_oldest : (there : Option (List (Item Octets))) (item : Item Octets) → oldest_in there ≡ Ok item → Ok tt ≡ stands_on there
stands_oldest None item h = absurd cc
stands_oldest (Some []) item h = absurd cc
stands_oldest (Some (i ∷ is)) item h = refl

pub stands_none : (there : Option (List (Item Octets))) (reason : RefuseReason) → oldest_in there ≡ Err reason → Err reason ≡ stands_on there
stands_none None reason h = cc
stands_none (Some []) reason h = cc
stands_none (Some (i ∷ is)) reason h = absurd cc

pub head_shows : (t : OpenTunnels Octets) (end : TunnelEnd) (item : Item Octets) → head t end ≡ gives item t
    → oldest_in (find tunnel_cmp t.tunnels end) ≡ Ok item
unfolding head
head_shows t end item h = by (find tunnel_cmp t.tunnels end) refl
  where
    by : (o : Option (List (Item Octets))) → find tunnel_cmp t.tunnels end ≡ o → oldest_in o ≡ Ok item
    by None e = let k : refuses errors.NoSuch ≡ gives item t = rw e at h in absurd cc
    by (Some []) e = let k : refuses errors.Empty ≡ gives item t = rw e at h in absurd cc
    by (Some (i ∷ is)) e = let k : gives i t ≡ gives item t = rw e at h in cc

-- why nothing is shown
abbrev pub reason_of : LinkError → RefuseReason
reason_of errors.NoSuch = reasons.NoSuch
reason_of error = reasons.Empty

pub head_refuses : (t : OpenTunnels Octets) (end : TunnelEnd) (error : LinkError) → head t end ≡ refuses error
    → oldest_in (find tunnel_cmp t.tunnels end) ≡ Err (reason_of error)
unfolding head
head_refuses t end error h = by (find tunnel_cmp t.tunnels end) refl
  where
    by : (o : Option (List (Item Octets))) → find tunnel_cmp t.tunnels end ≡ o → oldest_in o ≡ Err (reason_of error)
    by None e =
        let k : refuses errors.NoSuch ≡ refuses error = rw e at h in
        let same : errors.NoSuch ≡ error = cc in ap (λ (x : LinkError). Err (reason_of x)) same
    by (Some []) e =
        let k : refuses errors.Empty ≡ refuses error = rw e at h in
        let same : errors.Empty ≡ error = cc in ap (λ (x : LinkError). Err (reason_of x)) same
    by (Some (i ∷ is)) e = let k : gives i t ≡ refuses error = rw e at h in absurd cc

pub loses_by : (world : OctetWorld) (end : TunnelEnd) (there : Option (List (Item Octets)))
    → loses world end there ≡ lost_by (is_lossy world end.node) (stands_on there)
loses_by world end None = refl
loses_by world end (Some []) = by (is_lossy world end.node)
  where
    by : (b : Bool) → (if b then Err reasons.Empty else Err reasons.NotAllowed) ≡ lost_by b (Err reasons.Empty)
    by true = refl
    by false = refl
loses_by world end (Some (i ∷ is)) = by (is_lossy world end.node)
  where
    by : (b : Bool) → (if b then Ok tt else Err reasons.NotAllowed) ≡ lost_by b (Ok tt)
    by true = refl
    by false = refl
