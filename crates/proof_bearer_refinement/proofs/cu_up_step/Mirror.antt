-- What an order does to a list of a model is what the step does to its tunnel.
use Rattle.std.proofs.Common.{inl, inr, ◌≡◌, ◌≢◌, ◌⊎◌, ◌==◌, ℕ, Bool, true, false, if◌then◌else◌, List, [], ◌∷◌, ◌++◌, refl, sym, ap, ◌∙◌, eqb-true}
use Rattle.std.proofs.lemmas.List.{append-nil}
use Rattle.unit_defs.specs.Ways.{Pdu, Load}
use Rattle.unit_defs.specs.CuUpRecords.{TunnelKind, n3, f1u_uplink, forwarding_down, forwarding_up}
use Rattle.run_defs.specs.Runs.{taken_of}
use Rattle.bearer_defs.specs.chain_defs.Models as down_models
use Rattle.bearer_defs.specs.chain_defs.Models.{set}
use Rattle.bearer_defs.specs.uplink_defs.Models as up_models
use Rattle.law_downlink_order.proofs.chain.Frames.{set_here, set_far}
use Rattle.proof_cu_up_orders.specs.context_orders.Orders.{ContextStep, makes, adds, switches, freezes, knows, resumes, releases, closes, takes, polls}
use Rattle.proof_cu_up_orders.specs.bearer_orders.Happenings.{Beside}
use Rattle.proof_cu_up_orders.proofs.bearer_orders.Down.{not_same}
use Rattle.proof_cu_up_orders.specs.bearer_lists.Down as down_lists
use Rattle.proof_cu_up_orders.specs.bearer_lists.Up as up_lists
use Rattle.proof_cu_up_orders.specs.bearer_lists.Up.{is_up_item}
use Rattle.proof_bearer_refinement.specs.refinement_facts.Refinements.{RunItem, downs_of, up_item, ups_of, IsMirror}
use Rattle.proof_bearer_refinement.proofs.refinement_facts.Ends.{Differs}
use Rattle.proof_bearer_refinement.proofs.refinement_facts.Puts.{downs_both, ups_both}

pub far_test : (a b : ℕ) → a ≢ b → (a == b) ≡ false
far_test a b far = by (a == b) refl
  where
    by : (t : Bool) → (a == b) ≡ t → t ≡ false
    by true e = absurd (far (eqb-true a b e))
    by false e = refl

-- the order takes no item of this tunnel
abbrev pub NotTaken : ContextStep Pdu → TunnelKind → ℕ → Type 0
NotTaken (takes k t item) kind teid = Differs k t kind teid
NotTaken order kind teid = Unit {0}

-- or it takes one, and this is left
pub record IsLeft (b : Beside) (o : ContextStep Pdu) (kind : TunnelKind) (teid : ℕ) (m : down_models.Member) (k : up_models.Member) (left : List RunItem) : Type 0 where
  pub item : RunItem
  pub order : o ≡ takes kind teid (taken_of item.content.says)
  pub down : b.left_down ≡ downs_of left
  pub up : b.left_up ≡ ups_of left
  pub before : IsMirror kind m k teid (item ∷ left)
  pub says_nothing : kind ≡ f1u_uplink → is_up_item (taken_of item.content.says) ≡ false → up_item item.content.says ≡ []

abbrev pub Left : ℕ → ℕ → Beside → ContextStep Pdu → TunnelKind → ℕ → down_models.Member → up_models.Member → List RunItem → Type 0
Left x y b o kind teid m k left =
    ((y ≡ x → NotTaken o kind teid) × IsMirror kind m k teid left) ⊎ ((y ≡ x) × IsLeft b o kind teid m k left)

-- ---- lists that no item is taken from

n3_stays : (rest : List down_models.Item) (m : down_models.Member) (o : ContextStep Pdu) (teid : ℕ) → NotTaken o n3 teid → down_lists.n3_left rest m o ≡ m.n3
n3_stays rest m (takes n3 t item) teid not = absurd not
n3_stays rest m (takes f1u_uplink t item) teid not = refl
n3_stays rest m (takes forwarding_down t item) teid not = refl
n3_stays rest m (takes forwarding_up t item) teid not = refl
n3_stays rest m (makes instance sn quota target first) teid not = refl
n3_stays rest m (adds t) teid not = refl
n3_stays rest m (switches du t) teid not = refl
n3_stays rest m (freezes peer down up) teid not = refl
n3_stays rest m (knows status) teid not = refl
n3_stays rest m resumes teid not = refl
n3_stays rest m releases teid not = refl
n3_stays rest m closes teid not = refl
n3_stays rest m polls teid not = refl

down_stays : (rest : List down_models.Item) (m : down_models.Member) (o : ContextStep Pdu) (teid : ℕ) → NotTaken o forwarding_down teid
    → down_lists.forwarded_left rest m o ≡ m.forwarded
down_stays rest m (takes forwarding_down t item) teid not = absurd not
down_stays rest m (takes n3 t item) teid not = refl
down_stays rest m (takes f1u_uplink t item) teid not = refl
down_stays rest m (takes forwarding_up t item) teid not = refl
down_stays rest m (makes instance sn quota target first) teid not = refl
down_stays rest m (adds t) teid not = refl
down_stays rest m (switches du t) teid not = refl
down_stays rest m (freezes peer down up) teid not = refl
down_stays rest m (knows status) teid not = refl
down_stays rest m resumes teid not = refl
down_stays rest m releases teid not = refl
down_stays rest m closes teid not = refl
down_stays rest m polls teid not = refl

up_stays : (rest : List up_models.Item) (m : up_models.Member) (o : ContextStep Pdu) (teid : ℕ) → NotTaken o forwarding_up teid
    → up_lists.forwarded_left rest m o ≡ m.forwarded
up_stays rest m (takes forwarding_up t item) teid not = absurd not
up_stays rest m (takes n3 t item) teid not = refl
up_stays rest m (takes f1u_uplink t item) teid not = refl
up_stays rest m (takes forwarding_down t item) teid not = refl
up_stays rest m (makes instance sn quota target first) teid not = refl
up_stays rest m (adds t) teid not = refl
up_stays rest m (switches du t) teid not = refl
up_stays rest m (freezes peer down up) teid not = refl
up_stays rest m (knows status) teid not = refl
up_stays rest m resumes teid not = refl
up_stays rest m releases teid not = refl
up_stays rest m closes teid not = refl
up_stays rest m polls teid not = refl

uplink_stays : (rest : List up_models.Item) (m : up_models.Member) (o : ContextStep Pdu) (teid : ℕ) → NotTaken o f1u_uplink teid
    → up_lists.uplink_left rest m o teid ≡ m.uplink teid
uplink_stays rest m (takes f1u_uplink t item) teid not = by (is_up_item item)
  where
    by : (b : Bool) → (if b then set m.uplink t rest else m.uplink) teid ≡ m.uplink teid
    by true = set_far m.uplink t rest teid not
    by false = refl
uplink_stays rest m (takes n3 t item) teid not = refl
uplink_stays rest m (takes forwarding_down t item) teid not = refl
uplink_stays rest m (takes forwarding_up t item) teid not = refl
uplink_stays rest m (makes instance sn quota target first) teid not = refl
uplink_stays rest m (adds t) teid not = refl
uplink_stays rest m (switches du t) teid not = refl
uplink_stays rest m (freezes peer down up) teid not = refl
uplink_stays rest m (knows status) teid not = refl
uplink_stays rest m resumes teid not = refl
uplink_stays rest m releases teid not = refl
uplink_stays rest m closes teid not = refl
uplink_stays rest m polls teid not = refl

-- from the uplink that an item is taken from: where the item says nothing to the model, what is left says the same
uplink_taken : (b : Beside) (m : up_models.Member) (teid : ℕ) (load : Load Pdu) (left : List RunItem) → b.left_up ≡ ups_of left
    → up_item load ++ ups_of left ≡ m.uplink teid → (is_up_item (taken_of load) ≡ false → up_item load ≡ [])
    → ups_of left ≡ up_lists.uplink_left b.left_up m (takes f1u_uplink teid (taken_of load)) teid
uplink_taken b m teid load left rest before nothing = by (is_up_item (taken_of load)) refl
  where
    by : (t : Bool) → is_up_item (taken_of load) ≡ t → ups_of left ≡ (if t then set m.uplink teid b.left_up else m.uplink) teid
    by true is = sym rest ∙ sym (set_here m.uplink teid b.left_up)
    by false is = sym (ap (λ (zs : List up_models.Item). zs ++ ups_of left) (nothing is)) ∙ before

-- ---- one order

more_if : {X : Type 0} (t : Bool) (xs ys zs : List X) → xs ≡ ys → xs ++ (if t then zs else []) ≡ (if t then ys ++ zs else ys)
more_if true xs ys zs is = ap (λ ws. ws ++ zs) is
more_if false xs ys zs is = append-nil xs ∙ is

module _ (x y : ℕ) (b : Beside) (o : ContextStep Pdu) (teid : ℕ) (left puts : List RunItem) where
  module _ (s t : down_models.Model) (k : up_models.Member) (a f : List down_models.Item) (next : ℕ) (items : List down_models.Item) where
    abbrev LeftDown : TunnelKind → Type 0
    LeftDown kind = Left x y b o kind teid (s.members y) k left

    pub on_n3 : down_lists.Moved s t x (down_lists.n3_left b.left_down (s.members x) o) f next items → LeftDown n3 → downs_of puts ≡ []
        → downs_of (left ++ puts) ≡ (t.members y).n3
    on_n3 moved is none = downs_both left puts ∙ ap (λ zs. downs_of left ++ zs) none ∙ append-nil (downs_of left) ∙ by is (y == x) refl
      where
        here : y ≡ x → (t.members y).n3 ≡ down_lists.n3_left b.left_down (s.members x) o
        here same = ap (λ z. (t.members z).n3) same ∙ moved.n3_here

        by : LeftDown n3 → (e : Bool) → (y == x) ≡ e → downs_of left ≡ (t.members y).n3
        by (inl (not, before)) true e =
            let same : y ≡ x = eqb-true y x e in
            before ∙ ap (λ z. (s.members z).n3) same ∙ sym (n3_stays b.left_down (s.members x) o teid (not same)) ∙ sym (here same)
        by (inl (not, before)) false e = before ∙ sym (moved.n3_others y (not_same y x e))
        by (inr (same, taken)) e is_e = sym taken.down ∙ sym (ap (down_lists.n3_left b.left_down (s.members x)) taken.order) ∙ sym (here same)

    pub on_forwarding_down : next ≢ x → down_lists.Moved s t x a (down_lists.forwarded_left b.left_down (s.members x) o) next items → LeftDown forwarding_down
        → downs_of puts ≡ (if y == next then items else []) → downs_of (left ++ puts) ≡ (t.members y).forwarded
    on_forwarding_down far moved is comes = downs_both left puts ∙ ap (λ zs. downs_of left ++ zs) comes ∙ by is (y == x) refl
      where
        at_x : y ≡ x → downs_of left ≡ down_lists.forwarded_left b.left_down (s.members x) o → downs_of left ++ (if y == next then items else []) ≡ (t.members y).forwarded
        at_x same is =
            ap (λ (e : Bool). downs_of left ++ (if e then items else [])) (far_test y next (λ e. far (sym e ∙ same))) ∙ append-nil (downs_of left) ∙ is
            ∙ sym (ap (λ z. (t.members z).forwarded) same ∙ moved.forwarded_here)

        by : LeftDown forwarding_down → (e : Bool) → (y == x) ≡ e → downs_of left ++ (if y == next then items else []) ≡ (t.members y).forwarded
        by (inl (not, before)) true e =
            let same : y ≡ x = eqb-true y x e in
            at_x same (before ∙ ap (λ z. (s.members z).forwarded) same ∙ sym (down_stays b.left_down (s.members x) o teid (not same)))
        by (inl (not, before)) false e =
            more_if (y == next) (downs_of left) (s.members y).forwarded items before ∙ sym (moved.forwarded_others y (not_same y x e))
        by (inr (same, taken)) e is_e = at_x same (sym taken.down ∙ sym (ap (down_lists.forwarded_left b.left_down (s.members x)) taken.order))

  module _ (s t : up_models.Model) (m : down_models.Member) (a : ℕ → List up_models.Item) (f : List up_models.Item) (next : ℕ) (items : List up_models.Item) where
    abbrev LeftUp : TunnelKind → Type 0
    LeftUp kind = Left x y b o kind teid m (s.members y) left

    pub on_uplink : up_lists.Moved s t x (up_lists.uplink_left b.left_up (s.members x) o) f next items → LeftUp f1u_uplink → ups_of puts ≡ []
        → ups_of (left ++ puts) ≡ (t.members y).uplink teid
    unfolding ups_of
    on_uplink moved is none = ups_both left puts ∙ ap (λ zs. ups_of left ++ zs) none ∙ append-nil (ups_of left) ∙ by is (y == x) refl
      where
        here : y ≡ x → (t.members y).uplink teid ≡ up_lists.uplink_left b.left_up (s.members x) o teid
        here same = ap (λ z. (t.members z).uplink teid) same ∙ ap (λ g. g teid) moved.uplink_here

        by : LeftUp f1u_uplink → (e : Bool) → (y == x) ≡ e → ups_of left ≡ (t.members y).uplink teid
        by (inl (not, before)) true e =
            let same : y ≡ x = eqb-true y x e in
            before ∙ ap (λ z. (s.members z).uplink teid) same ∙ sym (uplink_stays b.left_up (s.members x) o teid (not same)) ∙ sym (here same)
        by (inl (not, before)) false e = before ∙ sym (ap (λ g. g teid) (moved.uplink_others y (not_same y x e)))
        by (inr (same, taken)) e is_e =
            uplink_taken b (s.members x) teid taken.item.content.says left taken.up (taken.before ∙ ap (λ z. (s.members z).uplink teid) same)
            (taken.says_nothing refl)
            ∙ sym (ap (λ z. up_lists.uplink_left b.left_up (s.members x) z teid) taken.order) ∙ sym (here same)

    pub on_forwarding_up : next ≢ x → up_lists.Moved s t x a (up_lists.forwarded_left b.left_up (s.members x) o) next items → LeftUp forwarding_up
        → ups_of puts ≡ (if y == next then items else []) → ups_of (left ++ puts) ≡ (t.members y).forwarded
    on_forwarding_up far moved is comes = ups_both left puts ∙ ap (λ zs. ups_of left ++ zs) comes ∙ by is (y == x) refl
      where
        at_x : y ≡ x → ups_of left ≡ up_lists.forwarded_left b.left_up (s.members x) o → ups_of left ++ (if y == next then items else []) ≡ (t.members y).forwarded
        at_x same is =
            ap (λ (e : Bool). ups_of left ++ (if e then items else [])) (far_test y next (λ e. far (sym e ∙ same))) ∙ append-nil (ups_of left) ∙ is
            ∙ sym (ap (λ z. (t.members z).forwarded) same ∙ moved.forwarded_here)

        by : LeftUp forwarding_up → (e : Bool) → (y == x) ≡ e → ups_of left ++ (if y == next then items else []) ≡ (t.members y).forwarded
        by (inl (not, before)) true e =
            let same : y ≡ x = eqb-true y x e in
            at_x same (before ∙ ap (λ z. (s.members z).forwarded) same ∙ sym (up_stays b.left_up (s.members x) o teid (not same)))
        by (inl (not, before)) false e =
            more_if (y == next) (ups_of left) (s.members y).forwarded items before ∙ sym (moved.forwarded_others y (not_same y x e))
        by (inr (same, taken)) e is_e = at_x same (sym taken.up ∙ sym (ap (up_lists.forwarded_left b.left_up (s.members x)) taken.order))
