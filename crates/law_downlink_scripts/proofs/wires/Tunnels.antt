-- What stands on each tunnel, and that a line of a tunnel tells how it changes.
use Rattle.std.proofs.Common.{◌≡◌, Bool, true, false, cond, List, [], ◌∷◌, ◌++◌, length, map, drop, Option, Some, None, slice_get, refl, sym, ap, ◌∙◌}
use Rattle.std.specs.Prelude.{if◌then◌else◌, unwrap_or}
use Rattle.std.specs.declared.cmp.Ordering.{Ordering}
use Rattle.std.specs.Ordering.{eq_by_cmp}
use Rattle.std.proofs.lemmas.List.{map-append, length-map}
use Rattle.std.proofs.Math.Seq.{drop-length}
use Rattle.gnb_types.specs.declared.keys.TunnelEnd.{TunnelEnd}
use Rattle.gnb_types.specs.Orders.{tunnel_cmp}
use Rattle.gnb_types.proofs.OrderLemmas.{tunnel_total, tunnel_exact}
use Rattle.tables.specs.Tables.{find, put, at}
use Rattle.tables.proofs.TableLaws.{at-put}
use Rattle.scenario_text.specs.declared.line.Link.{Link}
use Rattle.scenario_text.specs.declared.line.Item.{Item as ShownItem}
use Rattle.run_defs.specs.Lines.{tunnel_link}
use Rattle.run_defs.specs.Said.{OnLinks, with_items}
use Rattle.law_downlink_scripts.proofs.wires.Links.{same_tunnel, ties, ties_itself}

pub at_found : {K X : Type 0} (R : K → K → Ordering) (d : X) (m : List (K × X)) (k : K) (x : X) → find R m k ≡ Some x → at R d m k ≡ x
unfolding at
at_found {X = X} R d m k x e = ap (λ (o : Option X). unwrap_or o d) e

pub at_none : {K X : Type 0} (R : K → K → Ordering) (d : X) (m : List (K × X)) (k : K) → find R m k ≡ None → at R d m k ≡ d
unfolding at
at_none {X = X} R d m k e = ap (λ (o : Option X). unwrap_or o d) e

abbrev pub items_at : {X : Type 0} → List (TunnelEnd × List X) → TunnelEnd → List X
items_at tunnels end = at tunnel_cmp [] tunnels end

module _ {X : Type 0} (show : X → ShownItem) where
  abbrev pub OnTunnels : (Link → List ShownItem) → (TunnelEnd → List X) → Type 0
  OnTunnels items stand = (end : TunnelEnd) → items (tunnel_link end) ≡ map show (stand end)

  module _ {M : Type 0} (on : OnLinks M) (stand : TunnelEnd → List X) (k : OnTunnels on.items stand) (end : TunnelEnd) where
    -- one tunnel changes
    pub tunnel_changed : (shown : List ShownItem) (xs : List X) (after : TunnelEnd → List X) → shown ≡ map show xs
        → ((q : TunnelEnd) → after q ≡ cond (eq_by_cmp tunnel_cmp q end) xs (stand q))
        → OnTunnels (with_items on (tunnel_link end) shown).items after
    tunnel_changed shown xs after is changes q =
        ap (λ t. if t then shown else on.items (tunnel_link q)) (same_tunnel end q)
        ∙ by (eq_by_cmp tunnel_cmp q end) ∙ ap (map show) (sym (changes q))
      where
        by : (t : Bool) → (if t then shown else on.items (tunnel_link q)) ≡ map show (cond t xs (stand q))
        by true = is
        by false = k q

    -- the same, where nothing is printed since nothing changes
    pub tunnel_kept : (xs : List X) (after : TunnelEnd → List X) → stand end ≡ xs
        → ((q : TunnelEnd) → after q ≡ cond (eq_by_cmp tunnel_cmp q end) xs (stand q)) → OnTunnels on.items after
    tunnel_kept xs after is changes q = k q ∙ ap (map show) (by (eq_by_cmp tunnel_cmp q end) refl ∙ sym (changes q))
      where
        by : (t : Bool) → eq_by_cmp tunnel_cmp q end ≡ t → stand q ≡ cond t xs (stand q)
        by true e = ap stand (tunnel_exact q end (ties tunnel_cmp q end e)) ∙ is
        by false e = refl

    pub put_shown : (x : X) → on.items (tunnel_link end) ++ show x ∷ [] ≡ map show (stand end ++ x ∷ [])
    put_shown x = ap (λ xs. xs ++ show x ∷ []) (k end) ∙ sym (map-append show (stand end) (x ∷ []))

    pub first_gone : (x : X) (xs : List X) → stand end ≡ x ∷ xs → drop 1 (on.items (tunnel_link end)) ≡ map show xs
    first_gone x xs e = ap (drop 1) (k end ∙ ap (map show) e)

    pub first_shown : (x : X) (xs : List X) → stand end ≡ x ∷ xs → slice_get (on.items (tunnel_link end)) 0 ≡ Some (show x)
    first_shown x xs e = ap (λ ys. slice_get ys 0) (k end ∙ ap (map show) e)

    pub all_gone : drop (length (stand end)) (on.items (tunnel_link end)) ≡ []
    all_gone =
        ap (drop (length (stand end))) (k end) ∙ ap (λ n. drop n (map show (stand end))) (sym (length-map (stand end) show))
        ∙ drop-length (map show (stand end))

-- a put on a tunnel that is closed, and the loss of what was put
module _ {X M : Type 0} (show : X → ShownItem) (on : OnLinks M) (stand : TunnelEnd → List X) (k : OnTunnels show on.items stand) (end : TunnelEnd) (x : X)
    (empty : stand end ≡ []) where
  abbrev after_put : OnLinks M
  after_put = with_items on (tunnel_link end) (on.items (tunnel_link end) ++ show x ∷ [])

  abbrev with_it : TunnelEnd → List X
  with_it q = cond (eq_by_cmp tunnel_cmp q end) (x ∷ []) (stand q)

  stands_there : OnTunnels show after_put.items with_it
  stands_there =
      tunnel_changed show on stand k end _ (x ∷ []) with_it (put_shown show on stand k end x ∙ ap (λ xs. map show (xs ++ x ∷ [])) empty) (λ q. refl)

  it_stands : with_it end ≡ x ∷ []
  it_stands = ap (λ t. cond t (x ∷ []) (stand end)) (ties_itself tunnel_total end end refl)

  pub lost_at_once : OnTunnels show (with_items after_put (tunnel_link end) (drop 1 (after_put.items (tunnel_link end)))).items stand
  lost_at_once =
      tunnel_changed show after_put with_it stands_there end _ [] stand (first_gone show after_put with_it stands_there end x [] it_stands)
      (λ q. by q (eq_by_cmp tunnel_cmp q end) refl)
    where
      by : (q : TunnelEnd) (t : Bool) → eq_by_cmp tunnel_cmp q end ≡ t → stand q ≡ cond t [] (cond t (x ∷ []) (stand q))
      by q true e = ap stand (tunnel_exact q end (ties tunnel_cmp q end e)) ∙ empty
      by q false e = refl

-- to open a tunnel changes nothing of what stands there
pub opened_same : {X : Type 0} (end : TunnelEnd) (tunnels : List (TunnelEnd × List X)) (q : TunnelEnd)
    → items_at (put tunnel_cmp tunnels end (at tunnel_cmp [] tunnels end)) q ≡ items_at tunnels q
opened_same end tunnels q = at-put tunnel_total [] tunnels end (at tunnel_cmp [] tunnels end) q ∙ by (eq_by_cmp tunnel_cmp q end) refl
  where
    by : (t : Bool) → eq_by_cmp tunnel_cmp q end ≡ t → cond t (at tunnel_cmp [] tunnels end) (at tunnel_cmp [] tunnels q) ≡ at tunnel_cmp [] tunnels q
    by true e = ap (at tunnel_cmp [] tunnels) (sym (tunnel_exact q end (ties tunnel_cmp q end e)))
    by false e = refl
