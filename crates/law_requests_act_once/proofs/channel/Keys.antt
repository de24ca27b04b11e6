-- Nodes, channels and routes are told apart by their tests; what a function with another value in one place gives.
use Rattle.std.proofs.Common.{inl, inr, eqb-true, ◌==◌, ◌&&◌, ◌≡◌, ◌⊎◌, Bool, true, false, cond, refl, sym, ap, ◌∙◌, true≢false}
use Rattle.std.specs.Ordering.{is_eq}
use Rattle.std.specs.Cmp.{tied_itself, Equal-is}
use Rattle.std.proofs.lemmas.Bool.{cases_eq, eq-eqb}
use Rattle.gnb_types.specs.declared.names.NodeId.{NodeId}
use Rattle.gnb_types.specs.declared.keys.Channel.{Channel}
use Rattle.gnb_types.specs.Orders.{node_cmp, channel_cmp}
use Rattle.gnb_types.proofs.OrderLemmas.{node_total, node_exact, channel_total, channel_exact}
use Rattle.law_requests_act_once.specs.channel.Ends.{Route, same_node, same_channel}
use Rattle.law_requests_act_once.specs.channel.Moves.{same_route, with_node, with_route}

pub node_same : (n : NodeId) → same_node n n ≡ true
node_same n = ap is_eq (tied_itself node_total n)

pub node_told : (a b : NodeId) → same_node a b ≡ true → a ≡ b
node_told a b e = node_exact a b ((Equal-is (node_cmp a b)).0 e)

pub channel_same : (c : Channel) → same_channel c c ≡ true
channel_same c = ap is_eq (tied_itself channel_total c)

pub channel_told : (a b : Channel) → same_channel a b ≡ true → a ≡ b
channel_told a b e = channel_exact a b ((Equal-is (channel_cmp a b)).0 e)

pub channel_apart : (a b : Channel) → (a ≡ b → ⊥) → same_channel a b ≡ false
channel_apart a b other = by (same_channel a b) refl
  where
    by : (t : Bool) → same_channel a b ≡ t → t ≡ false
    by true e = absurd (other (channel_told a b e))
    by false e = refl

pub node_apart : (a b : NodeId) → (a ≡ b → ⊥) → same_node a b ≡ false
node_apart a b other = by (same_node a b) refl
  where
    by : (t : Bool) → same_node a b ≡ t → t ≡ false
    by true e = absurd (other (node_told a b e))
    by false e = refl

node_cases : (a b : NodeId) → (a ≡ b) ⊎ (a ≡ b → ⊥)
node_cases a b = by (same_node a b) refl
  where
    by : (t : Bool) → same_node a b ≡ t → (a ≡ b) ⊎ (a ≡ b → ⊥)
    by true e = inl (node_told a b e)
    by false e = inr (λ same. true≢false (sym (node_same b) ∙ ap (λ (x : NodeId). same_node x b) (sym same) ∙ e))

pub route_cases : (r q : Route) → (r ≡ q) ⊎ (r ≡ q → ⊥)
route_cases r q = by (node_cases r.from q.from) (node_cases r.to q.to) (cases_eq r.ue q.ue)
  where
    by : (r.from ≡ q.from) ⊎ (r.from ≡ q.from → ⊥) → (r.to ≡ q.to) ⊎ (r.to ≡ q.to → ⊥) → (r.ue ≡ q.ue) ⊎ (r.ue ≡ q.ue → ⊥)
        → (r ≡ q) ⊎ (r ≡ q → ⊥)
    by (inl a) (inl b) (inl c) = inl (λ i. record { from = a i; to = b i; ue = c i })
    by (inr a) b c = inr (λ e. a (ap (λ (x : Route). x.from) e))
    by a (inr b) c = inr (λ e. b (ap (λ (x : Route). x.to) e))
    by a b (inr c) = inr (λ e. c (ap (λ (x : Route). x.ue) e))

pub route_same : (r : Route) → same_route r r ≡ true
route_same r =
    let a = node_same r.from in
    let b = node_same r.to in
    let c : (r.ue == r.ue) ≡ true = eq-eqb r.ue r.ue refl in
    λ i. and3 (a i) (b i) (c i)
  where
    and3 : Bool → Bool → Bool → Bool
    and3 a b c = a && (b && c)

route_told : (r q : Route) → same_route r q ≡ true → r ≡ q
route_told r q e = by (same_node r.from q.from) (same_node r.to q.to) (r.ue == q.ue) refl refl refl e
  where
    by : (a b c : Bool) → same_node r.from q.from ≡ a → same_node r.to q.to ≡ b → (r.ue == q.ue) ≡ c → (a && (b && c)) ≡ true → r ≡ q
    by true true true a b c e =
        let f = node_told r.from q.from a in
        let t = node_told r.to q.to b in
        let u : r.ue ≡ q.ue = eqb-true r.ue q.ue c in
        λ i. record { from = f i; to = t i; ue = u i }
    by true true false a b c e = absurd cc
    by true false d a b c e = absurd cc
    by false d f a b c e = absurd cc

module _ {X : Type 0} (f : Route → X) (q : Route) (x : X) where
  pub with_route_here : with_route f q x q ≡ x
  with_route_here = ap (λ (t : Bool). cond t x (f q)) (route_same q)

  pub with_route_other : (r : Route) → (r ≡ q → ⊥) → with_route f q x r ≡ f r
  with_route_other r other = by (same_route r q) refl
    where
      by : (t : Bool) → same_route r q ≡ t → cond t x (f r) ≡ f r
      by true e = absurd (other (route_told r q e))
      by false e = refl

module _ {X : Type 0} (f : NodeId → X) (n : NodeId) (x : X) where
  pub with_node_here : with_node f n x n ≡ x
  with_node_here = ap (λ (t : Bool). cond t x (f n)) (node_same n)

  -- what is the same of x as of the old value is the same everywhere
  pub with_node_kept : {Y : Type 0} (g : X → Y) → g x ≡ g (f n) → (m : NodeId) → g (with_node f n x m) ≡ g (f m)
  with_node_kept g same m = by (same_node m n) refl
    where
      by : (t : Bool) → same_node m n ≡ t → g (cond t x (f m)) ≡ g (f m)
      by true e = same ∙ ap (λ (k : NodeId). g (f k)) (sym (node_told m n e))
      by false e = refl

  -- what is the same of x as of the old value but in one case is the same everywhere but there
  pub with_node_but : {Y : Type 0} (g : X → Y) (m : NodeId) → ((m ≡ n) → g x ≡ g (f n)) → g (with_node f n x m) ≡ g (f m)
  with_node_but g m same = by (same_node m n) refl
    where
      by : (t : Bool) → same_node m n ≡ t → g (cond t x (f m)) ≡ g (f m)
      by true e = let h = node_told m n e in same h ∙ ap (λ (k : NodeId). g (f k)) (sym h)
      by false e = refl
