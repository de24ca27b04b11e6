-- Orders to a bearer leave the lists of its uplink's model as they are, but for what is taken and what goes on.
use Rattle.std.proofs.Common.{inl, inr, ◌≡◌, ◌≢◌, ◌==◌, ℕ, Bool, true, false, if◌then◌else◌, nat_lt, List, [], ◌∷◌, ◌++◌, Option, Some, None, refl, sym, ap, subst, ◌∙◌, eqb-true}
use Rattle.std.specs.Prelude.{⊤}
use Rattle.std.specs.List.{AllByRecursion}
use Rattle.gnb_types.specs.declared.names.NodeId.{NodeId}
use Rattle.pdcp_defs.specs.Receivers.{Delivery, is_duplicate, stored as stores_in, deliver}
use Rattle.unit_defs.specs.Ways.{packet_content, report_content, Taken, fresh_item, numbered_item, uplink_item, status_item, end_item, Output, Way, Answer, gives}
use Rattle.unit_defs.specs.CuUpRecords.{SourceHop, TunnelKind, n3, f1u_uplink, forwarding_down, forwarding_up}
use Rattle.bearer_defs.specs.chain_defs.Models.{set}
use Rattle.bearer_defs.specs.uplink_defs.Models.{Item, numbered, end_marker, uplink_tunnel, forwarding, Member, Model, with_rest}
use Rattle.bearer_defs.specs.uplink_defs.Orders.{ModelStep, adds, knows, switches, resumes, releases, freezes, takes, stores, without_uplink, changed, passed, handed, stored_at, new_at, late_at, taken_at, is_up_over, with_ended, ended_if, ended_at, after, run}
use Rattle.law_downlink_order.proofs.chain.Frames.{set_here, set_far}
use Rattle.proof_cu_up_orders.specs.uplink_rows.Shown.{items_of}
use Rattle.proof_cu_up_orders.specs.context_orders.Orders.{CuUpModel, ContextStep, done}
use Rattle.proof_cu_up_orders.specs.context_orders.Orders as ups
use Rattle.proof_cu_up_orders.specs.orders.Up.{IsUp, item_orders, control_orders, Went, Shown, Shows, IsFit, IsAsked, IsOfDownlink, ShownFrozen, ShowsFrozen}
use Rattle.proof_cu_up_orders.proofs.orders.Beside.{beside, polled}
use Rattle.proof_cu_up_orders.proofs.orders.Control.{control_shows, freeze_shows}
use Rattle.proof_cu_up_orders.proofs.orders.Items.{item_one}
use Rattle.proof_cu_up_orders.specs.bearer_orders.Happenings.{Beside}
use Rattle.proof_cu_up_orders.specs.bearer_orders.Down.{hop_to}
use Rattle.proof_cu_up_orders.specs.bearer_orders.Up.{orders_of}
use Rattle.proof_cu_up_orders.proofs.bearer_orders.Down.{not_same}
use Rattle.proof_cu_up_orders.specs.bearer_lists.Up.{uplink_left, forwarded_left, next_after, Moved, IsFor, MovesUp}

-- ---- lists that stay

abbrev SameLists : Member → Member → Type 0
SameLists m n = (n.uplink ≡ m.uplink) × (n.forwarded ≡ m.forwarded) × (n.next_hop ≡ m.next_hop)

same_later : (a b c : Member) → SameLists a b → SameLists b c → SameLists a c
same_later a b c p q = (q.0 ∙ p.0, q.1 ∙ p.1, q.2 ∙ p.2)

same_set : (f : ℕ → Member) (k : ℕ) (n : Member) → SameLists (f k) n → (y : ℕ) → SameLists (f y) (set f k n y)
same_set f k n is y = by (y == k) refl
  where
    by : (t : Bool) → (y == k) ≡ t → SameLists (f y) (if t then n else f y)
    by true e = subst (λ z. SameLists (f z) n) (sym (eqb-true y k e)) is
    by false e = (refl, refl, refl)

-- orders by which nothing is taken from a tunnel, nor goes on
abbrev Quiet : ModelStep → Type 0
Quiet (adds x teid) = ⊤
Quiet (knows x status) = ⊤
Quiet (switches x) = ⊤
Quiet (resumes x) = ⊤
Quiet (releases x) = ⊤
Quiet order = ⊥

one_quiet : (s : Model) (o : ModelStep) → Quiet o → (y : ℕ) → SameLists (s.members y) ((after s o).members y)
unfolding after
one_quiet s (adds x teid) q y = same_set s.members x _ (refl, refl, refl) y
one_quiet s (knows x status) q y = same_set s.members x _ (refl, refl, refl) y
one_quiet s (switches x) q y = same_set s.members x _ (refl, refl, refl) y
one_quiet s (resumes x) q y = same_set s.members x _ (refl, refl, refl) y
one_quiet s (releases x) q y = same_set s.members x _ (refl, refl, refl) y
one_quiet s o q y = absurd q

all_quiet : (os : List ModelStep) (s : Model) → AllByRecursion Quiet os → (y : ℕ) → SameLists (s.members y) ((run s os).members y)
unfolding run
all_quiet [] s q y = (refl, refl, refl)
all_quiet (o ∷ os) s q y =
    same_later (s.members y) ((after s o).members y) ((run (after s o) os).members y) (one_quiet s o q.0 y) (all_quiet os (after s o) q.1 y)

control_quiet : {P : Type 0} (x : ℕ) (p : CuUpModel) (order : ContextStep P) → AllByRecursion Quiet (control_orders x p order)
control_quiet x p (ups.adds teid) = (tt, tt)
control_quiet x p (ups.switches du teid) = (tt, tt)
control_quiet x p (ups.knows status) = by p.at.flags.arrived
  where
    by : (t : Bool) → AllByRecursion Quiet (knows x status ∷ (if t then resumes x ∷ [] else []))
    by true = (tt, (tt, tt))
    by false = (tt, tt)
control_quiet x p ups.resumes = (tt, tt)
control_quiet x p ups.releases = (tt, tt)
control_quiet x p order = tt

-- ---- the lists of one context

abbrev IsListed : Member → (ℕ → List Item) → List Item → ℕ → Type 0
IsListed m u f h = (m.uplink ≡ u) × (m.forwarded ≡ f) × (m.next_hop ≡ h)

module _ (s : Model) (x : ℕ) where
  changed_here : (m : Member) → IsListed ((changed s x m).members x) m.uplink m.forwarded m.next_hop
  changed_here m =
      let here : (changed s x m).members x ≡ m = set_here s.members x m in
      (ap (λ (k : Member). k.uplink) here, ap (λ (k : Member). k.forwarded) here, ap (λ (k : Member). k.next_hop) here)

  handed_here : (m : Member) (d : Delivery (List ℕ)) → IsListed ((handed s x m d).members x) m.uplink m.forwarded m.next_hop
  handed_here m d = changed_here (record m { bearer = record m.bearer { receiver = d.after } })

  passed_here : (m : Member) (items : List Item) → m.next_hop ≢ x → IsListed ((passed s x m items).members x) m.uplink m.forwarded m.next_hop
  passed_here m items far =
      let here : (passed s x m items).members x ≡ m = set_far (changed s x m).members m.next_hop _ x (λ e. far (sym e)) ∙ set_here s.members x m in
      (ap (λ (k : Member). k.uplink) here, ap (λ (k : Member). k.forwarded) here, ap (λ (k : Member). k.next_hop) here)

  taken_here : (m : Member) (count : ℕ) (packet : List ℕ) (is_released : Bool) → m.next_hop ≢ x
      → IsListed ((taken_at s x m count packet is_released).members x) m.uplink m.forwarded m.next_hop
  taken_here m count packet true far = by (nat_lt count m.bearer.receiver.deliv)
    where
      by : (t : Bool) → IsListed ((late_at s x m count packet t).members x) m.uplink m.forwarded m.next_hop
      by true = changed_here m
      by false = passed_here m (numbered count packet ∷ []) far
  taken_here m count packet false far = by (is_duplicate m.bearer.receiver count) m.flags.frozen
    where
      stored_here : (t : Bool) → IsListed ((stored_at s x m count packet t).members x) m.uplink m.forwarded m.next_hop
      stored_here true = passed_here (stores m count packet) (numbered count packet ∷ []) far
      stored_here false = handed_here m (deliver (stores_in m.bearer.receiver count packet))

      by : (t f : Bool) → IsListed ((new_at s x m count packet t).members x) m.uplink m.forwarded m.next_hop
      by true f = changed_here m
      by false f = stored_here m.flags.frozen

  ended_here : (m : Member) (o : Option SourceHop) → m.next_hop ≢ x → IsListed ((ended_at s x m o).members x) m.uplink m.forwarded m.next_hop
  ended_here m None far = changed_here m
  ended_here m (Some hop) far = by (is_up_over m hop)
    where
      by : (t : Bool) → IsListed ((ended_if s x m hop t).members x) m.uplink m.forwarded m.next_hop
      by true = passed_here (with_ended m hop) (end_marker ∷ []) far
      by false = changed_here m

  item_here : {P : Type 0} (p : CuUpModel) (kind : TunnelKind) (teid : ℕ) (item : Taken P) (rest : List Item) → IsFit p kind item
      → (s.members x).next_hop ≢ x
      → IsListed ((run s (item_orders x rest kind teid item)).members x) (uplink_left rest (s.members x) (ups.takes kind teid item))
      (forwarded_left rest (s.members x) (ups.takes kind teid item)) (s.members x).next_hop
  unfolding run after
  item_here p f1u_uplink teid (uplink_item (packet_content (Some count) packet)) rest fit far =
      taken_here (with_rest (s.members x) (uplink_tunnel teid) rest) count packet (s.members x).flags.released far
  item_here p f1u_uplink teid end_item rest fit far =
      ended_here (without_uplink (with_rest (s.members x) (uplink_tunnel teid) rest) teid) (s.members x).bearer.hop far
  item_here p forwarding_up teid (numbered_item (Some count) packet) rest fit far =
      taken_here (with_rest (s.members x) forwarding rest) count packet (s.members x).flags.released far
  item_here p forwarding_up teid end_item rest fit far =
      let m : Member = with_rest (s.members x) forwarding rest in
      ended_here (record m { bearer = record m.bearer { up_ended = true } }) (s.members x).bearer.hop far
  item_here p kind teid item rest fit far = absurd fit

-- ---- what a row shows

from_went : (s t : Model) (x : ℕ) (u : ℕ → List Item) (f : List Item) (next : ℕ) (m : Member) (items : List Item) (packets : List (ℕ × List ℕ))
    → Went s t x m items packets → IsListed (t.members x) u f next → Moved s t x u f next items
from_went s t x u f next m items packets w here =
    let hop : m.next_hop ≡ next = sym (ap (λ (k : Member). k.next_hop) w.here) ∙ here.2 in record {
      uplink_here = here.0;
      forwarded_here = here.1;
      hop_here = here.2;
      uplink_others = λ y far. ap (λ (k : Member). k.uplink) (w.others y far);
      forwarded_others = λ y far. w.forwarded y far
          ∙ ap (λ (k : ℕ). if y == k then (s.members y).forwarded ++ items else (s.members y).forwarded) hop;
      hops_others = λ y far. ap (λ (k : Member). k.next_hop) (w.others y far);
    }

module _ {M C P : Type 0} (way : Way M C P) (s : Model) (x : ℕ) (p q : CuUpModel) (outputs : List (Output M P)) where
  from_shown : (t : Model) (u : ℕ → List Item) (f : List Item) (next : ℕ) (answer : Answer M P (Option CuUpModel)) → Shows s t x answer
      → answer ≡ gives outputs (Some q) → IsListed (t.members x) u f next → Moved s t x u f next (items_of outputs)
  from_shown t u f next answer shows is here =
      let shown : Shown s t x q outputs = subst (λ (b : Answer M P (Option CuUpModel)). Shows s t x b) is shows in
      from_went s t x u f next shown.member (items_of outputs) _ shown.went here

  from_frozen : (t : Model) (to promised : ℕ) (answer : Answer M P (Option CuUpModel)) → to ≢ x → ShowsFrozen s t x to promised answer
      → answer ≡ gives outputs (Some q) → IsListed (t.members x) (s.members x).uplink (s.members x).forwarded to
      → Moved s t x (s.members x).uplink (s.members x).forwarded to (items_of outputs)
  from_frozen t to promised answer apart shows is here =
      let shown : ShownFrozen s t x to promised q outputs = subst (λ (b : Answer M P (Option CuUpModel)). ShowsFrozen s t x to promised b) is shows in
      let w = shown.froze in record {
        uplink_here = here.0;
        forwarded_here = here.1;
        hop_here = here.2;
        uplink_others = λ y far. uplink_by w.target (w.others y far) (y == to) refl;
        forwarded_others = λ y far. forwarded_by w.target (w.others y far) (y == to) refl;
        hops_others = λ y far. hops_by w.target (w.others y far) (y == to) refl;
      }
    where
      target : Member
      target = record (s.members to) { forwarded = (s.members to).forwarded ++ items_of outputs; promised = promised }

      uplink_by : {y : ℕ} → t.members to ≡ target → (y ≢ to → t.members y ≡ s.members y) → (b : Bool) → (y == to) ≡ b
          → (t.members y).uplink ≡ (s.members y).uplink
      uplink_by {y} there others true e =
          subst (λ z. (t.members z).uplink ≡ (s.members z).uplink) (sym (eqb-true y to e)) (ap (λ (k : Member). k.uplink) there)
      uplink_by {y} there others false e = ap (λ (k : Member). k.uplink) (others (not_same y to e))

      forwarded_by : {y : ℕ} → t.members to ≡ target → (y ≢ to → t.members y ≡ s.members y) → (b : Bool) → (y == to) ≡ b
          → (t.members y).forwarded ≡ (if b then (s.members y).forwarded ++ items_of outputs else (s.members y).forwarded)
      forwarded_by {y} there others true e =
          subst (λ z. (t.members z).forwarded ≡ (s.members z).forwarded ++ items_of outputs) (sym (eqb-true y to e)) (ap (λ (k : Member). k.forwarded) there)
      forwarded_by {y} there others false e = ap (λ (k : Member). k.forwarded) (others (not_same y to e))

      hops_by : {y : ℕ} → t.members to ≡ target → (y ≢ to → t.members y ≡ s.members y) → (b : Bool) → (y == to) ≡ b
          → (t.members y).next_hop ≡ (s.members y).next_hop
      hops_by {y} there others true e =
          subst (λ z. (t.members z).next_hop ≡ (s.members z).next_hop) (sym (eqb-true y to e)) (ap (λ (k : Member). k.next_hop) there)
      hops_by {y} there others false e = ap (λ (k : Member). k.next_hop) (others (not_same y to e))

  module _ (is : IsUp (s.members x) p) (b : Beside) where
    abbrev Result : ContextStep P → Type 0
    Result order =
        done way order p ≡ gives outputs (Some q)
        → Moved s (run s (orders_of x b p order)) x (uplink_left b.left_up (s.members x) order) (forwarded_left b.left_up (s.members x) order)
        (next_after b.to (s.members x) order) (items_of outputs)

    abbrev Stays : Type 0
    Stays = Moved s s x (s.members x).uplink (s.members x).forwarded (s.members x).next_hop (items_of outputs)

    stayed : (answer : Answer M P (Option CuUpModel)) → Shows s s x answer → answer ≡ gives outputs (Some q) → Stays
    stayed answer shows at = from_shown s (s.members x).uplink (s.members x).forwarded (s.members x).next_hop answer shows at (refl, refl, refl)

    of_downlink : (kind : TunnelKind) (teid : ℕ) (item : Taken P) → IsOfDownlink kind item → Result (ups.takes kind teid item)
    unfolding run
    of_downlink n3 teid (fresh_item packet) fit at = stayed _ (beside way s x p is n3 teid (fresh_item packet) fit) at
    of_downlink n3 teid end_item fit at = stayed _ (beside way s x p is n3 teid end_item fit) at
    of_downlink forwarding_down teid (fresh_item packet) fit at = stayed _ (beside way s x p is forwarding_down teid (fresh_item packet) fit) at
    of_downlink forwarding_down teid (numbered_item count packet) fit at = stayed _ (beside way s x p is forwarding_down teid (numbered_item count packet) fit) at
    of_downlink forwarding_down teid end_item fit at = stayed _ (beside way s x p is forwarding_down teid end_item fit) at
    of_downlink f1u_uplink teid (uplink_item (report_content fmc bits)) fit at =
        stayed _ (beside way s x p is f1u_uplink teid (uplink_item (report_content fmc bits)) fit) at
    of_downlink f1u_uplink teid (status_item lost delivered) fit at = stayed _ (beside way s x p is f1u_uplink teid (status_item lost delivered) fit) at
    of_downlink kind teid item fit at = absurd fit

    by_control : (order : ContextStep P) → IsAsked p order → done way order p ≡ gives outputs (Some q)
        → Moved s (run s (control_orders x p order)) x (s.members x).uplink (s.members x).forwarded (s.members x).next_hop (items_of outputs)
    by_control order asked at =
        from_shown (run s (control_orders x p order)) (s.members x).uplink (s.members x).forwarded (s.members x).next_hop _
        (control_shows way s x p is order asked) at (all_quiet (control_orders x p order) s (control_quiet x p order) x)

    frozen_here : (peer : NodeId) (down up : ℕ)
        → IsListed ((run s (freezes x b.to (hop_to peer down up) ∷ [])).members x) (s.members x).uplink (s.members x).forwarded b.to
    unfolding run after
    frozen_here peer down up =
        let here = set_here (set s.members b.to _) x _ in
        (ap (λ (k : Member). k.uplink) here, ap (λ (k : Member). k.forwarded) here, ap (λ (k : Member). k.next_hop) here)

    moved : (order : ContextStep P) → IsFor p order → next_after b.to (s.members x) order ≢ x → Result order
    unfolding run
    moved (ups.takes kind teid item) (stands, inl down) far at = of_downlink kind teid item down at
    moved (ups.takes kind teid item) (stands, inr fit) far at =
        from_shown (run s (item_orders x b.left_up kind teid item)) (uplink_left b.left_up (s.members x) (ups.takes kind teid item))
        (forwarded_left b.left_up (s.members x) (ups.takes kind teid item)) (s.members x).next_hop _
        (item_one way s x p is stands kind teid item b.left_up fit) at (item_here s x p kind teid item b.left_up fit far)
    moved (ups.freezes peer down up) asked far at =
        from_frozen (run s (freezes x b.to (hop_to peer down up) ∷ [])) b.to p.bearer.receiver.deliv _ far (freeze_shows way s x p is b.to peer down up far) at
        (frozen_here peer down up)
    moved (ups.adds teid) asked far at = by_control (ups.adds teid) asked at
    moved (ups.switches du teid) asked far at = by_control (ups.switches du teid) asked at
    moved (ups.knows status) asked far at = by_control (ups.knows status) asked at
    moved ups.resumes asked far at = by_control ups.resumes asked at
    moved ups.releases asked far at = by_control ups.releases asked at
    moved ups.polls asked far at = stayed _ (polled way s x p is) at
    moved (ups.makes instance sn quota target teid) asked far at = absurd asked
    moved ups.closes asked far at = absurd asked

pub moves_up : {M C P : Type 0} (way : Way M C P) → MovesUp way
moves_up way s x p q is b order asked far outputs at = moved way s x p q outputs is b order asked far at
