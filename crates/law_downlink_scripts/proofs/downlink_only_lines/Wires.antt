-- What is got is what was put, so it is at its place too: line by line.
use Rattle.std.proofs.Common.{◌≡◌, ◌==◌, ℕ, zero, suc, Bool, true, false, ◌&&◌, List, [], ◌∷◌, ◌++◌, Option, Some, None, refl, sym, ap, ◌∙◌, subst, eqb-true}
use Rattle.std.specs.Prelude.{drop, if◌then◌else◌, slice_get}
use Rattle.std.specs.List.{AllByRecursion}
use Rattle.std.specs.Ordering.{eq_by_cmp}
use Rattle.gnb_types.specs.declared.keys.EntityKey.{EntityKey}
use Rattle.gnb_types.specs.declared.keys.TunnelEnd.{TunnelEnd}
use Rattle.gnb_types.specs.Orders.{tunnel_cmp, entity_cmp}
use Rattle.gnb_types.proofs.OrderLemmas.{tunnel_exact, entity_exact}
use Rattle.message_types.specs.declared.rrc.Token.{Token}
use Rattle.scenario_text.specs.declared.line.Link.{Link}
use Rattle.scenario_text.specs.declared.line.Link.TheVariants.{Tunnel, Radio}
use Rattle.scenario_text.specs.declared.line.Item.{Item as ShownItem}
use Rattle.unit_defs.specs.Ways.{Message}
use Rattle.run_defs.specs.Lines.{put_item, got_item, put_message, delivers, lost_items, tunnel_link, radio_link}
use Rattle.run_defs.specs.Local.{item_key, ShowsOffered, IsPlaceLine}
use Rattle.run_defs.specs.Said.{same_link, Offered, OnLinks, with_items, after_loss, after_line, IsOnWire, WiresFrom}
use Rattle.run_defs.specs.States.{Lengths}
use Rattle.run_defs.specs.Runs.{Happened}
use Rattle.intervals.proofs.Intervals.{all_append}
use Rattle.law_downlink_scripts.proofs.wires.Links.{first_of_two, second_of_two, ties, same_tunnel, same_radio}
use Rattle.law_downlink_scripts.proofs.wires.Endings.{after_lines}
use Rattle.law_downlink_scripts.proofs.downlink_only_facts.Moves.{Line}
use Rattle.law_downlink_scripts.proofs.downlink_only_lines.Lines.{IsAtPlace}

abbrev Told : Type 0
Told = List (Happened (Message Token))

-- ---- lists

all_after : {X : Type 0} (P : X → Type 0) (n : ℕ) (xs : List X) → AllByRecursion P xs → AllByRecursion P (drop n xs)
all_after P zero xs h = h
all_after P (suc n) [] h = tt
all_after P (suc n) (x ∷ xs) h = all_after P n xs h.1

first_of : {X : Type 0} (P : X → Type 0) (xs : List X) (x : X) → slice_get xs 0 ≡ Some x → AllByRecursion P xs → P x
first_of P [] x e h = absurd cc
first_of P (y ∷ xs) x e h = let same : y ≡ x = cc in subst P same h.0

pub still_at : (xs ys : List (List ℕ)) (k : ℕ) (x : List ℕ) → slice_get xs k ≡ Some x → slice_get (xs ++ ys) k ≡ Some x
still_at [] ys k x e = absurd cc
still_at (y ∷ xs) ys zero x e = e
still_at (y ∷ xs) ys (suc k) x e = still_at xs ys k x e

pub wires_parts : (on : OnLinks (Message Token)) (xs ys : List Line) → WiresFrom on (xs ++ ys) → WiresFrom on xs × WiresFrom (after_lines on xs) ys
wires_parts on [] ys w = (tt, w)
wires_parts on (x ∷ xs) ys w = let rest = wires_parts (after_line on x) xs ys w.1 in ((w.0, rest.0), rest.1)

-- ---- links that are the same

same_is : (a b : Link) → same_link a b ≡ true → a ≡ b
same_is (Tunnel a m) (Tunnel b n) e =
    let x : TunnelEnd = record { node = a; teid = m } in
    let y : TunnelEnd = record { node = b; teid = n } in
    sym (ap tunnel_link (tunnel_exact y x (ties tunnel_cmp y x (sym (same_tunnel x y) ∙ e))))
same_is (Radio u b d m) (Radio v c f n) e =
    let x : EntityKey = record { ue = u; bearer = b; dir = d } in
    let y : EntityKey = record { ue = v; bearer = c; dir = f } in
    let both : eq_by_cmp entity_cmp y x && m == n ≡ true = sym (same_radio x y m n) ∙ e in
    let keys : y ≡ x = entity_exact y x (ties entity_cmp y x (first_of_two _ _ both)) in
    let epochs : m ≡ n = eqb-true m n (second_of_two (eq_by_cmp entity_cmp y x) _ both) in
    λ i. radio_link (sym keys i) (epochs i)
same_is (Tunnel a m) (Radio v c f n) e = absurd cc
same_is (Radio u b d m) (Tunnel a n) e = absurd cc

module _ (L : Lengths) where
  abbrev At : (EntityKey → List (List ℕ)) → Link → ShownItem → Type 0
  At offered link item = ShowsOffered L (offered (item_key item)) link item item.count

  -- each item that stands on a link is at its place
  abbrev pub OnPlaces : (EntityKey → List (List ℕ)) → OnLinks (Message Token) → Type 0
  OnPlaces offered on = (link : Link) → AllByRecursion (At offered link) (on.items link)

  -- ---- what is at its place stays there

  module _ (offered later : EntityKey → List (List ℕ)) (grows : (key : EntityKey) (k : ℕ) (x : List ℕ) → slice_get (offered key) k ≡ Some x → slice_get (later key) k ≡ Some x) where
    at_later : (link : Link) (item : ShownItem) (o : Option ℕ) → ShowsOffered L (offered (item_key item)) link item o → ShowsOffered L (later (item_key item)) link item o
    at_later link item None h = tt
    at_later link item (Some k) h = λ x c. grows (item_key item) k x (h x c)

    items_later : (link : Link) (items : List ShownItem) → AllByRecursion (At offered link) items → AllByRecursion (At later link) items
    items_later link [] h = tt
    items_later link (item ∷ items) h = (at_later link item item.count h.0, items_later link items h.1)

    pub places_later : (on : OnLinks (Message Token)) → OnPlaces offered on → OnPlaces later on
    places_later on h link = items_later link (on.items link) (h link)

    line_later : (line : Line) → IsAtPlace L offered line → IsAtPlace L later line
    line_later (put_item link item) h = at_later link item item.count h
    line_later (delivers key count p) h = grows key count p h
    line_later line h = tt

    pub lines_later : (lines : List Line) → AllByRecursion (IsAtPlace L offered) lines → AllByRecursion (IsAtPlace L later) lines
    lines_later [] h = tt
    lines_later (line ∷ lines) h = (line_later line h.0, lines_later lines h.1)

  -- ---- one line after another

  module _ (past : Told) where
    abbrev offered : EntityKey → List (List ℕ)
    offered key = Offered key past

    with_at : (on : OnLinks (Message Token)) (link : Link) (items : List ShownItem) → OnPlaces offered on → AllByRecursion (At offered link) items
        → OnPlaces offered (with_items on link items)
    with_at on link items p q other = by (same_link link other) refl
      where
        by : (t : Bool) → same_link link other ≡ t → AllByRecursion (At offered other) (if t then items else on.items other)
        by true e = subst (λ (l : Link). AllByRecursion (At offered l) items) (same_is link other e) q
        by false e = p other

    after_lost : (link : Link) (count : ℕ) (items : List ShownItem) → AllByRecursion (At offered link) items → AllByRecursion (At offered link) (after_loss link count items)
    after_lost (Tunnel end teid) count items h = all_after (At offered (Tunnel end teid)) count items h
    after_lost (Radio ue bearer dir epoch) count items h = tt

    line_at : (on : OnLinks (Message Token)) (line : Line) → IsOnWire on line → OnPlaces offered on → IsAtPlace L offered line
        → IsPlaceLine L past line × OnPlaces offered (after_line on line)
    line_at on (put_item link item) w p q = (q, with_at on link (on.items link ++ item ∷ []) p (all_append (At offered link) (on.items link) (item ∷ []) (p link) (q, tt)))
    line_at on (got_item link item) w p q = (
      first_of (At offered link) (on.items link) item w (p link),
      with_at on link (drop 1 (on.items link)) p (all_after (At offered link) 1 (on.items link) (p link)),
    )
    line_at on (lost_items link count) w p q =
        (tt, with_at on link (after_loss link count (on.items link)) p (after_lost link count (on.items link) (p link)))
    line_at on (put_message number control_message) w p q = (tt, p)
    line_at on (delivers key count packet) w p q = (q, p)
    line_at on line w p q = (tt, p)

    pub lines_at : (on : OnLinks (Message Token)) (lines : List Line) → WiresFrom on lines → OnPlaces offered on → AllByRecursion (IsAtPlace L offered) lines
        → AllByRecursion (IsPlaceLine L past) lines × OnPlaces offered (after_lines on lines)
    lines_at on [] w p q = (tt, p)
    lines_at on (line ∷ lines) w p q =
        let one = line_at on line w.0 p q.0 in
        let rest = lines_at (after_line on line) lines w.1 one.1 q.1 in
        ((one.0, rest.0), rest.1)
