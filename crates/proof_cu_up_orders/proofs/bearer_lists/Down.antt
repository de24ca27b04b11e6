-- Orders to a bearer leave the lists of its downlink's model as they are, but for what is taken and what goes on.
use Rattle.std.proofs.Common.{inl, inr, ◌≡◌, ◌≢◌, ◌==◌, ℕ, Bool, true, false, ◌||◌, if◌then◌else◌, List, [], ◌∷◌, ◌++◌, Option, Some, None, refl, sym, ap, subst, ◌∙◌, eqb-true}
use Rattle.std.specs.Prelude.{⊤}
use Rattle.std.specs.List.{AllByRecursion}
use Rattle.gnb_types.specs.declared.names.NodeId.{NodeId}
use Rattle.gnb_types.specs.declared.names.SnBits.{SnBits}
use Rattle.pdcp_defs.specs.Senders.{Sender, numbered as with_next, has_room, may_restore, confirmed_by}
use Rattle.unit_defs.specs.Ways.{packet_content, report_content, Taken, fresh_item, numbered_item, uplink_item, status_item, end_item, Output, Way, Answer, gives}
use Rattle.unit_defs.specs.CuUpRecords.{CuUpScope, CuUpBearer, TunnelKind, n3 as n3_kind, f1u_uplink, forwarding_down, forwarding_up}
use Rattle.unit_defs.specs.CuUpBearers.{thawed}
use Rattle.bearer_defs.specs.chain_defs.Models.{Item, Member, Model, set}
use Rattle.bearer_defs.specs.chain_defs.Orders.{ModelStep, knows, switches, resumes, releases, freezes, keeps_n3, keeps_fresh, passes_n3, passes_fresh, sends, passes_numbered, drops, ends_n3, ends_hop, numbers, confirms, reports, reports_loss, sends_again, on_downlink, known, waits, changed, passed, after, run}
use Rattle.intervals.proofs.Intervals.{all_append}
use Rattle.law_downlink_order.proofs.chain.Frames.{set_here, set_far}
use Rattle.proof_cu_up_orders.specs.chain_rows.Shown.{items_of, number_orders}
use Rattle.proof_cu_up_orders.specs.context_orders.Orders.{CuUpModel, ContextStep, on_switch, on_status, on_resume, done}
use Rattle.proof_cu_up_orders.specs.context_orders.Orders as ups
use Rattle.proof_cu_up_orders.specs.down_orders.Down.{IsDown, serves_none, numbers_if, fresh_orders, numbered_order, confirms_if, confirmed_if, losses, item_orders, control_orders, Went, Shown, Shows, IsFit, IsAsked, IsOfUplink, ShownFrozen, ShowsFrozen}
use Rattle.proof_cu_up_orders.proofs.down_orders.Beside.{beside}
use Rattle.proof_cu_up_orders.proofs.down_orders.Control.{control_shows, freeze_shows}
use Rattle.proof_cu_up_orders.proofs.down_orders.Items.{item_one}
use Rattle.proof_cu_up_orders.specs.bearer_orders.Happenings.{Beside}
use Rattle.proof_cu_up_orders.specs.bearer_orders.Down.{hop_to, orders_of}
use Rattle.proof_cu_up_orders.proofs.bearer_orders.Down.{not_same}
use Rattle.proof_cu_up_orders.specs.bearer_lists.Down.{n3_left, forwarded_left, next_after, Moved, IsFor, MovesDown}

-- ---- lists that stay

abbrev SameLists : Member → Member → Type 0
SameLists m n = (n.n3 ≡ m.n3) × (n.forwarded ≡ m.forwarded) × (n.next_hop ≡ m.next_hop)

same_later : (a b c : Member) → SameLists a b → SameLists b c → SameLists a c
same_later a b c p q = (q.0 ∙ p.0, q.1 ∙ p.1, q.2 ∙ p.2)

same_set : (f : ℕ → Member) (k : ℕ) (n : Member) → SameLists (f k) n → (y : ℕ) → SameLists (f y) (set f k n y)
same_set f k n is y = by (y == k) refl
  where
    by : (t : Bool) → (y == k) ≡ t → SameLists (f y) (if t then n else f y)
    by true e = subst (λ z. SameLists (f z) n) (sym (eqb-true y k e)) is
    by false e = (refl, refl, refl)

-- orders by which nothing is taken from a tunnel, nor goes on
abbrev Quiet : ModelStep → Type 0
Quiet (knows x status) = ⊤
Quiet (switches x downlink epoch) = ⊤
Quiet (resumes x) = ⊤
Quiet (releases x) = ⊤
Quiet (numbers x packet rest) = ⊤
Quiet (confirms x count) = ⊤
Quiet (reports x fmc bits) = ⊤
Quiet (reports_loss x) = ⊤
Quiet (sends_again x) = ⊤
Quiet order = ⊥

abbrev AllQuiet : List ModelStep → Type 0
AllQuiet orders = AllByRecursion Quiet orders

one_quiet : (s : Model) (o : ModelStep) → Quiet o → (y : ℕ) → SameLists (s.members y) ((after s o).members y)
unfolding after
one_quiet s (knows x status) q y = same_set s.members x _ (refl, refl, refl) y
one_quiet s (switches x downlink epoch) q y = same_set s.members x _ (refl, refl, refl) y
one_quiet s (resumes x) q y = same_set s.members x _ (refl, refl, refl) y
one_quiet s (releases x) q y = same_set s.members x _ (refl, refl, refl) y
one_quiet s (numbers x packet rest) q y = same_set s.members x _ (refl, refl, refl) y
one_quiet s (confirms x count) q y = same_set s.members x _ (refl, refl, refl) y
one_quiet s (reports x fmc bits) q y = same_set s.members x _ (refl, refl, refl) y
one_quiet s (reports_loss x) q y = same_set s.members x _ (refl, refl, refl) y
one_quiet s (sends_again x) q y = (refl, refl, refl)
one_quiet s o q y = absurd q

all_quiet : (os : List ModelStep) (s : Model) → AllQuiet os → (y : ℕ) → SameLists (s.members y) ((run s os).members y)
unfolding run
all_quiet [] s q y = (refl, refl, refl)
all_quiet (o ∷ os) s q y =
    same_later (s.members y) ((after s o).members y) ((run (after s o) os).members y) (one_quiet s o q.0 y) (all_quiet os (after s o) q.1 y)

quiet_if : (t : Bool) (os more : List ModelStep) → AllQuiet os → AllQuiet more → AllQuiet (if t then os else more)
quiet_if true os more p q = p
quiet_if false os more p q = q

number_quiet : (sn : SnBits) (quota x : ℕ) (ps : List (List ℕ)) (q : Sender (List ℕ)) → AllQuiet (number_orders sn quota x ps q)
unfolding number_orders
number_quiet sn quota x [] q = tt
number_quiet sn quota x (p ∷ ps) q =
    quiet_if (has_room sn quota q) (numbers x p ps ∷ number_orders sn quota x ps (with_next q p)) [] (tt, number_quiet sn quota x ps (with_next q p)) tt

numbers_quiet : (x : ℕ) (at : CuUpScope) (b : CuUpBearer) → AllQuiet (numbers_if x at b)
numbers_quiet x at b = quiet_if (serves_none at b) [] (number_orders at.sn at.quota x b.waiting b.sender) tt (number_quiet at.sn at.quota x b.waiting b.sender)

losses_quiet : (x : ℕ) (is_frozen : Bool) (lost : List (ℕ × ℕ)) → AllQuiet (losses x is_frozen lost)
losses_quiet x is_frozen [] = tt
losses_quiet x is_frozen (range ∷ ranges) = (tt, quiet_if is_frozen [] (sends_again x ∷ []) tt (tt, tt))

confirms_quiet : (x : ℕ) (count : Option ℕ) → AllQuiet (confirms_if x count)
confirms_quiet x None = tt
confirms_quiet x (Some count) = (tt, tt)

control_quiet : {P : Type 0} (x epoch : ℕ) (p : CuUpModel) (order : ContextStep P) → AllQuiet (control_orders x epoch p order)
control_quiet x epoch p (ups.switches du teid) = (
  tt,
  quiet_if p.at.flags.may_serve (numbers_if x (on_switch p).at (on_downlink p.bearer (record { du = du; teid = teid; next = 0 }))) []
      (numbers_quiet x (on_switch p).at (on_downlink p.bearer (record { du = du; teid = teid; next = 0 }))) tt,
)
control_quiet x epoch p (ups.knows status) = (
  tt,
  quiet_if p.at.flags.arrived (sends_again x ∷ numbers_if x (on_status p).at (known p.bearer status)) []
      (tt, numbers_quiet x (on_status p).at (known p.bearer status)) tt,
)
control_quiet x epoch p ups.resumes = (tt, numbers_quiet x (on_resume p).at (thawed p.bearer))
control_quiet x epoch p ups.releases = (tt, tt)
control_quiet x epoch p order = tt

-- ---- the lists of one context

abbrev IsListed : Member → List Item → List Item → ℕ → Type 0
IsListed m a f h = (m.n3 ≡ a) × (m.forwarded ≡ f) × (m.next_hop ≡ h)

module _ (s : Model) (x : ℕ) where
  changed_here : (m : Member) → IsListed ((changed s x m).members x) m.n3 m.forwarded m.next_hop
  changed_here m =
      let here : (changed s x m).members x ≡ m = set_here s.members x m in
      (ap (λ (k : Member). k.n3) here, ap (λ (k : Member). k.forwarded) here, ap (λ (k : Member). k.next_hop) here)

  passed_here : (m : Member) (items : List Item) → m.next_hop ≢ x → IsListed ((passed s x m items).members x) m.n3 m.forwarded m.next_hop
  passed_here m items far =
      let here : (passed s x m items).members x ≡ m = set_far (changed s x m).members m.next_hop _ x (λ e. far (sym e)) ∙ set_here s.members x m in
      (ap (λ (k : Member). k.n3) here, ap (λ (k : Member). k.forwarded) here, ap (λ (k : Member). k.next_hop) here)

  then_quiet : (o : ModelStep) (os : List ModelStep) (a f : List Item) (h : ℕ) → IsListed ((after s o).members x) a f h → AllQuiet os
      → IsListed ((run s (o ∷ os)).members x) a f h
  unfolding run
  then_quiet o os a f h is q =
      let same = all_quiet os (after s o) q x in (same.0 ∙ is.0, same.1 ∙ is.1, same.2 ∙ is.2)

  only_quiet : (os : List ModelStep) → AllQuiet os → IsListed ((run s os).members x) (s.members x).n3 (s.members x).forwarded (s.members x).next_hop
  only_quiet os q = all_quiet os s q x

  module _ (p : CuUpModel) (far : (s.members x).next_hop ≢ x) where
    abbrev m : Member
    m = s.members x

    fresh_here : (packet : List ℕ) (on keeps : ModelStep) (a f : List Item) → IsListed ((after s on).members x) a f m.next_hop
        → IsListed ((after s keeps).members x) a f m.next_hop
        → IsListed ((run s (fresh_orders x p.at p.bearer packet on keeps)).members x) a f m.next_hop
    fresh_here packet on keeps a f goes stays = by p.at.flags.frozen
      where
        by : (t : Bool) → IsListed ((run s (if t then on ∷ [] else keeps ∷ numbers_if x p.at (waits p.bearer packet))).members x) a f m.next_hop
        by true = then_quiet on [] a f m.next_hop goes tt
        by false = then_quiet keeps (numbers_if x p.at (waits p.bearer packet)) a f m.next_hop stays (numbers_quiet x p.at (waits p.bearer packet))

    numbered_here : (count : ℕ) (packet : List ℕ) (rest : List Item)
        → IsListed ((after s (numbered_order x p.at p.bearer count packet rest)).members x) m.n3 rest m.next_hop
    unfolding after
    numbered_here count packet rest = by (p.at.flags.released || may_restore p.at.sn p.at.quota p.bearer.sender count) p.at.flags.frozen
      where
        by : (t f : Bool) → IsListed ((after s (if t then (if f then passes_numbered x count packet rest else sends x count packet rest)
            else drops x count packet rest)).members x) m.n3 rest m.next_hop
        by true true = passed_here _ _ far
        by true false = changed_here _
        by false f = changed_here _

    item_here : {P : Type 0} (kind : TunnelKind) (teid : ℕ) (item : Taken P) (rest : List Item) → IsFit p kind item
        → IsListed ((run s (item_orders x p rest kind item)).members x) (n3_left rest m (ups.takes kind teid item))
        (forwarded_left rest m (ups.takes kind teid item)) m.next_hop
    unfolding after
    item_here n3_kind teid (fresh_item packet) rest fit =
        fresh_here packet (passes_n3 x packet rest) (keeps_n3 x packet rest) rest m.forwarded (passed_here _ _ far) (changed_here _)
    item_here n3_kind teid end_item rest fit = then_quiet (ends_n3 x rest) [] rest m.forwarded m.next_hop (passed_here _ _ far) tt
    item_here forwarding_down teid (fresh_item packet) rest fit =
        fresh_here packet (passes_fresh x packet rest) (keeps_fresh x packet rest) m.n3 rest (passed_here _ _ far) (changed_here _)
    item_here forwarding_down teid (numbered_item (Some count) packet) rest fit =
        then_quiet (numbered_order x p.at p.bearer count packet rest) [] m.n3 rest m.next_hop (numbered_here count packet rest) tt
    item_here forwarding_down teid end_item rest fit = then_quiet (ends_hop x rest) [] m.n3 rest m.next_hop (changed_here _) tt
    item_here f1u_uplink teid (uplink_item (report_content fmc bits)) rest fit =
        only_quiet (reports x fmc bits ∷ numbers_if x p.at (record p.bearer { sender = confirmed_by p.bearer.sender fmc bits }))
        (tt, numbers_quiet x p.at (record p.bearer { sender = confirmed_by p.bearer.sender fmc bits }))
    item_here f1u_uplink teid (status_item lost delivered) rest fit =
        only_quiet (confirms_if x delivered ++ losses x p.at.flags.frozen lost ++ numbers_if x p.at (confirmed_if delivered p.bearer))
        (all_append Quiet (confirms_if x delivered ++ losses x p.at.flags.frozen lost) (numbers_if x p.at (confirmed_if delivered p.bearer))
        (all_append Quiet (confirms_if x delivered) (losses x p.at.flags.frozen lost) (confirms_quiet x delivered) (losses_quiet x p.at.flags.frozen lost))
        (numbers_quiet x p.at (confirmed_if delivered p.bearer)))
    item_here kind teid item rest fit = absurd fit

-- ---- what a row shows

from_went : (s t : Model) (x : ℕ) (a f : List Item) (next : ℕ) (m : Member) (items : List Item) (packets : List (ℕ × List ℕ)) → Went s t x m items packets
    → IsListed (t.members x) a f next → Moved s t x a f next items
from_went s t x a f next m items packets w here =
    let hop : m.next_hop ≡ next = sym (ap (λ (k : Member). k.next_hop) w.here) ∙ here.2 in record {
      n3_here = here.0;
      forwarded_here = here.1;
      hop_here = here.2;
      n3_others = λ y far. ap (λ (k : Member). k.n3) (w.others y far);
      forwarded_others = λ y far. w.forwarded y far
          ∙ ap (λ (k : ℕ). if y == k then (s.members y).forwarded ++ items else (s.members y).forwarded) hop;
      hops_others = λ y far. ap (λ (k : Member). k.next_hop) (w.others y far);
    }

module _ {M C P : Type 0} (way : Way M C P) (s : Model) (x : ℕ) (p q : CuUpModel) (outputs : List (Output M P)) where
  from_shown : (t : Model) (a f : List Item) (next : ℕ) (answer : Answer M P (Option CuUpModel)) → Shows way s t x answer → answer ≡ gives outputs (Some q)
      → IsListed (t.members x) a f next → Moved s t x a f next (items_of outputs)
  from_shown t a f next answer shows is here =
      let shown : Shown way s t x q outputs = subst (λ (b : Answer M P (Option CuUpModel)). Shows way s t x b) is shows in
      from_went s t x a f next shown.member (items_of outputs) _ shown.went here

  from_frozen : (t : Model) (to promised : ℕ) (answer : Answer M P (Option CuUpModel)) → to ≢ x → ShowsFrozen s t x to promised answer
      → answer ≡ gives outputs (Some q) → IsListed (t.members x) (s.members x).n3 (s.members x).forwarded to
      → Moved s t x (s.members x).n3 (s.members x).forwarded to (items_of outputs)
  from_frozen t to promised answer apart shows is here =
      let shown : ShownFrozen s t x to promised q outputs = subst (λ (b : Answer M P (Option CuUpModel)). ShowsFrozen s t x to promised b) is shows in
      let w = shown.froze in record {
        n3_here = here.0;
        forwarded_here = here.1;
        hop_here = here.2;
        n3_others = λ y far. n3_by w.target (w.others y far) (y == to) refl;
        forwarded_others = λ y far. forwarded_by w.target (w.others y far) (y == to) refl;
        hops_others = λ y far. hops_by w.target (w.others y far) (y == to) refl;
      }
    where
      target : Member
      target = record (s.members to) { forwarded = (s.members to).forwarded ++ items_of outputs; promised = promised }

      n3_by : {y : ℕ} → t.members to ≡ target → (y ≢ to → t.members y ≡ s.members y) → (b : Bool) → (y == to) ≡ b → (t.members y).n3 ≡ (s.members y).n3
      n3_by {y} there others true e = subst (λ z. (t.members z).n3 ≡ (s.members z).n3) (sym (eqb-true y to e)) (ap (λ (k : Member). k.n3) there)
      n3_by {y} there others false e = ap (λ (k : Member). k.n3) (others (not_same y to e))

      forwarded_by : {y : ℕ} → t.members to ≡ target → (y ≢ to → t.members y ≡ s.members y) → (b : Bool) → (y == to) ≡ b
          → (t.members y).forwarded ≡ (if b then (s.members y).forwarded ++ items_of outputs else (s.members y).forwarded)
      forwarded_by {y} there others true e =
          subst (λ z. (t.members z).forwarded ≡ (s.members z).forwarded ++ items_of outputs) (sym (eqb-true y to e)) (ap (λ (k : Member). k.forwarded) there)
      forwarded_by {y} there others false e = ap (λ (k : Member). k.forwarded) (others (not_same y to e))

      hops_by : {y : ℕ} → t.members to ≡ target → (y ≢ to → t.members y ≡ s.members y) → (b : Bool) → (y == to) ≡ b
          → (t.members y).next_hop ≡ (s.members y).next_hop
      hops_by {y} there others true e =
          subst (λ z. (t.members z).next_hop ≡ (s.members z).next_hop) (sym (eqb-true y to e)) (ap (λ (k : Member). k.next_hop) there)
      hops_by {y} there others false e = ap (λ (k : Member). k.next_hop) (others (not_same y to e))

  module _ (is : IsDown (s.members x) p) (b : Beside) where
    abbrev Result : ContextStep P → Type 0
    Result order =
        done way order p ≡ gives outputs (Some q)
        → Moved s (run s (orders_of x b p order)) x (n3_left b.left_down (s.members x) order) (forwarded_left b.left_down (s.members x) order)
        (next_after b.to (s.members x) order) (items_of outputs)

    of_uplink : (kind : TunnelKind) (teid : ℕ) (item : Taken P) → IsOfUplink kind item → Result (ups.takes kind teid item)
    unfolding run
    of_uplink f1u_uplink teid (uplink_item (packet_content count packet)) fit at =
        from_shown s (s.members x).n3 (s.members x).forwarded (s.members x).next_hop _ (beside way s x p is f1u_uplink teid (uplink_item (packet_content count packet)) fit)
        at (refl, refl, refl)
    of_uplink f1u_uplink teid end_item fit at =
        from_shown s (s.members x).n3 (s.members x).forwarded (s.members x).next_hop _ (beside way s x p is f1u_uplink teid end_item fit) at (refl, refl, refl)
    of_uplink forwarding_up teid (numbered_item count packet) fit at =
        from_shown s (s.members x).n3 (s.members x).forwarded (s.members x).next_hop _ (beside way s x p is forwarding_up teid (numbered_item count packet) fit)
        at (refl, refl, refl)
    of_uplink forwarding_up teid end_item fit at =
        from_shown s (s.members x).n3 (s.members x).forwarded (s.members x).next_hop _ (beside way s x p is forwarding_up teid end_item fit) at (refl, refl, refl)
    of_uplink kind teid item fit at = absurd fit

    by_control : (order : ContextStep P) → IsAsked p order → done way order p ≡ gives outputs (Some q)
        → Moved s (run s (control_orders x b.epoch p order)) x (s.members x).n3 (s.members x).forwarded (s.members x).next_hop (items_of outputs)
    by_control order asked at =
        from_shown (run s (control_orders x b.epoch p order)) (s.members x).n3 (s.members x).forwarded (s.members x).next_hop _
        (control_shows way s x p is b.epoch order asked) at (only_quiet s x (control_orders x b.epoch p order) (control_quiet x b.epoch p order))

    frozen_here : (peer : NodeId) (down up : ℕ) → b.to ≢ x
        → IsListed ((run s (freezes x b.to (hop_to peer down up) ∷ [])).members x) (s.members x).n3 (s.members x).forwarded b.to
    unfolding run after
    frozen_here peer down up far =
        let first = set_here s.members x _ in
        let here = set_far (set s.members x _) b.to _ x (λ e. far (sym e)) ∙ first in
        (ap (λ (k : Member). k.n3) here, ap (λ (k : Member). k.forwarded) here, ap (λ (k : Member). k.next_hop) here)

    moved : (order : ContextStep P) → IsFor p order → next_after b.to (s.members x) order ≢ x → Result order
    moved (ups.takes kind teid item) (stands, inl up) far at = of_uplink kind teid item up at
    moved (ups.takes kind teid item) (stands, inr fit) far at =
        from_shown (run s (item_orders x p b.left_down kind item)) (n3_left b.left_down (s.members x) (ups.takes kind teid item))
        (forwarded_left b.left_down (s.members x) (ups.takes kind teid item)) (s.members x).next_hop _
        (item_one way s x p is stands kind teid item b.left_down fit) at (item_here s x p far kind teid item b.left_down fit)
    moved (ups.freezes peer down up) asked far at =
        from_frozen (run s (freezes x b.to (hop_to peer down up) ∷ [])) b.to p.bearer.sender.next _ far (freeze_shows way s x p is b.to peer down up far) at
        (frozen_here peer down up far)
    moved (ups.adds teid) asked far at = by_control (ups.adds teid) asked at
    moved (ups.switches du teid) asked far at = by_control (ups.switches du teid) asked at
    moved (ups.knows status) asked far at = by_control (ups.knows status) asked at
    moved ups.resumes asked far at = by_control ups.resumes asked at
    moved ups.releases asked far at = by_control ups.releases asked at
    moved ups.polls asked far at = by_control ups.polls asked at
    moved (ups.makes instance sn quota target teid) asked far at = absurd asked
    moved ups.closes asked far at = absurd asked

pub moves_down : {M C P : Type 0} (way : Way M C P) → MovesDown way
moves_down way s x p q is b order asked far outputs at = moved way s x p q outputs is b order asked far at
