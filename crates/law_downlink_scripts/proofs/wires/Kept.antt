-- The invariant: what stands on the links of the state is what the lines so far leave on them. And that each change of a link keeps it.
use Rattle.std.proofs.Common.{◌≡◌, ◌≤◌, ◌==◌, ℕ, ◌+◌, ◌-◌, Bool, true, false, List, [], ◌∷◌, ◌++◌, length, map, drop, Option, Some, None, slice_get, refl, sym, ap, ◌∙◌, subst, eq-eqb, arith}
use Rattle.std.specs.Prelude.{if◌then◌else◌}
use Rattle.std.proofs.lemmas.List.{map-append}
use Rattle.gnb_types.specs.declared.names.UeId.{UeId}
use Rattle.gnb_types.specs.declared.keys.TunnelEnd.{TunnelEnd}
use Rattle.gnb_types.specs.declared.keys.EntityKey.{EntityKey}
use Rattle.gnb_types.specs.declared.plans.Plan.{Plan}
use Rattle.gnb_types.specs.Orders.{ue_cmp, tunnel_cmp, entity_cmp}
use Rattle.gnb_types.proofs.OrderLemmas.{tunnel_total, entity_total}
use Rattle.tables.specs.Tables.{find, put, without, at}
use Rattle.tables.proofs.TableLaws.{at-put, at-without}
use Rattle.scenario_text.specs.declared.line.Item.{Item as ShownItem}
use Rattle.transport_defs.specs.declared.Item.{Item}
use Rattle.transport_defs.specs.declared.ControlMessage.{ControlMessage}
use Rattle.transport_defs.specs.Links.{Radio, is_epoch, control_message, nth, emptied}
use Rattle.run_defs.specs.Lines.{RunLine, put_item, got_item, lost_items, tunnel_link, radio_link, shown}
use Rattle.run_defs.specs.Said.{OnLinks, with_items}
use Rattle.run_defs.specs.States.{State, World, goes, goes_on, told_before, radio_of, with_radio}
use Rattle.run_defs.specs.Steps.{on_tunnel, put_on_tunnel, put_on_radio, put_control, lost_if, opens, closes, radio_lost}
use Rattle.run_defs.specs.Conditions.{epoch_in}
use Rattle.run_defs.specs.Events.{taken_off, carried_off, confirmed_off, landed_as}
use Rattle.law_downlink_scripts.proofs.wires.Endings.{Goes}
use Rattle.law_downlink_scripts.proofs.wires.Tunnels.{at_found, at_none, items_at, OnTunnels, tunnel_changed, tunnel_kept, put_shown, first_gone, first_shown, all_gone, lost_at_once, opened_same}
use Rattle.law_downlink_scripts.proofs.wires.Radios.{uncarried, heard, empty_uncarried, OnRadios, radio_changed, radio_kept, radio_lost_at_once, radios_apart, put_uncarried, put_sound, nth_uncarried, nth_within, confirmed_uncarried, confirmed_sound}
use Rattle.law_downlink_scripts.proofs.wires.Bags.{InBag, next_number, put_in_bag, landed_in_bag, given_was_put}

abbrev pub radio_at : {P : Type 0} → List (EntityKey × Radio P) → EntityKey → Radio P
radio_at radios key = at entity_cmp (record { items = []; carried = 0 }) radios key

-- a terminal whose radios are connected was attached
abbrev pub AreSeated : List (UeId × ℕ) → List (UeId × Plan) → Type 0
AreSeated connected plans = (ue : UeId) → find ue_cmp plans ue ≡ None → find ue_cmp connected ue ≡ None

module _ {M C L P : Type 0} (world : World M C L P) where
  abbrev pub tunnel_item : Item L → ShownItem
  tunnel_item item = shown item.key item.count (world.show_item item.content)

  abbrev pub radio_item : Item P → ShownItem
  radio_item item = shown item.key item.count (world.show_pdu item.content)

  abbrev pub Kept : OnLinks M → State M C L P → Type 0
  Kept on s =
      OnTunnels tunnel_item on.items (items_at s.tunnels) × OnRadios radio_item on.items (radio_at s.radios) (find ue_cmp s.connected)
      × InBag on.control_messages s.bag × AreSeated s.connected s.plans

  module _ (on : OnLinks M) (s : State M C L P) (k : Kept on s) where
    -- ---- tunnels

    pub goes_on_tunnel : (end : TunnelEnd) (item : Item L) → Goes Kept on (put_on_tunnel world end item s)
    unfolding put_on_tunnel
    goes_on_tunnel end item = by (find tunnel_cmp s.tunnels end) refl
      where
        by : (o : Option (List (Item L))) → find tunnel_cmp s.tunnels end ≡ o
            → Goes Kept on (told_before (put_item (tunnel_link end) (tunnel_item item) ∷ []) (on_tunnel world s end item o))
        by None none = (
          (tt, (tt, tt)),
          (
            lost_at_once tunnel_item on (items_at s.tunnels) k.0 end item (at_none tunnel_cmp [] s.tunnels end none),
            radios_apart radio_item on.items _ _ _ (λ q e. refl) k.1,
            k.2,
            k.3,
          ),
        )
        by (Some items) found = (
          (tt, tt),
          (
            tunnel_changed tunnel_item on (items_at s.tunnels) k.0 end _ (items ++ item ∷ []) _
                (put_shown tunnel_item on (items_at s.tunnels) k.0 end item
                ∙ ap (λ (xs : List (Item L)). map tunnel_item (xs ++ item ∷ [])) (at_found tunnel_cmp [] s.tunnels end items found))
                (at-put tunnel_total [] s.tunnels end (items ++ item ∷ [])),
            radios_apart radio_item on.items _ _ _ (λ q e. refl) k.1,
            k.2,
            k.3,
          ),
        )

    pub goes_opened : (end : TunnelEnd) → Goes Kept on (opens world end s)
    unfolding opens
    goes_opened end = (tt, (λ q. k.0 q ∙ ap (map tunnel_item) (sym (opened_same end s.tunnels q)), k.1, k.2, k.3))

    pub goes_closed : (end : TunnelEnd) → Goes Kept on (closes world end s)
    unfolding closes
    goes_closed end = by (at tunnel_cmp [] s.tunnels end) refl
      where
        by : (items : List (Item L)) → at tunnel_cmp [] s.tunnels end ≡ items
            → Goes Kept on (goes (lost_if world end items) (record s { tunnels = without tunnel_cmp s.tunnels end }))
        by [] none = (
          tt,
          (tunnel_kept tunnel_item on (items_at s.tunnels) k.0 end [] _ none (at-without tunnel_total [] s.tunnels end), k.1, k.2, k.3),
        )
        by (x ∷ xs) found = (
          (tt, tt),
          (
            tunnel_changed tunnel_item on (items_at s.tunnels) k.0 end _ [] _
                (ap (λ (ys : List (Item L)). drop (length ys) (on.items (tunnel_link end))) (sym found)
                ∙ all_gone tunnel_item on (items_at s.tunnels) k.0 end)
                (at-without tunnel_total [] s.tunnels end),
            radios_apart radio_item on.items _ _ _ (λ q e. refl) k.1,
            k.2,
            k.3,
          ),
        )

    -- the oldest item is taken, or lost
    pub first_out : (end : TunnelEnd) (item : Item L) (rest : List (Item L)) → find tunnel_cmp s.tunnels end ≡ Some (item ∷ rest)
        → Kept (with_items on (tunnel_link end) (drop 1 (on.items (tunnel_link end)))) (record s { tunnels = put tunnel_cmp s.tunnels end rest })
    first_out end item rest found = (
      tunnel_changed tunnel_item on (items_at s.tunnels) k.0 end _ rest _
          (first_gone tunnel_item on (items_at s.tunnels) k.0 end item rest (at_found tunnel_cmp [] s.tunnels end _ found))
          (at-put tunnel_total [] s.tunnels end rest),
      radios_apart radio_item on.items _ _ _ (λ q e. refl) k.1,
      k.2,
      k.3,
    )

    pub goes_taken : (end : TunnelEnd) (item : Item L) (rest : List (Item L)) → find tunnel_cmp s.tunnels end ≡ Some (item ∷ rest)
        → Goes Kept on (taken_off world end item rest s)
    goes_taken end item rest found = (
      (first_shown tunnel_item on (items_at s.tunnels) k.0 end item rest (at_found tunnel_cmp [] s.tunnels end _ found), tt),
      first_out end item rest found,
    )

    -- ---- control messages

    pub goes_in_bag : (l : ControlMessage M) → Goes Kept on (put_control world l s)
    unfolding put_control
    goes_in_bag l = (
      (next_number on.control_messages s.bag k.2, tt),
      (k.0, radios_apart radio_item on.items _ _ _ (λ q e. refl) k.1, put_in_bag on.control_messages s.bag k.2 l, k.3),
    )

    pub goes_landed : (number : ℕ) (l : ControlMessage M) → control_message s.bag number ≡ Some l → Goes Kept on (landed_as world number l s)
    goes_landed number l found = (
      (given_was_put on.control_messages s.bag k.2 number l found, tt),
      (k.0, k.1, landed_in_bag on.control_messages s.bag k.2 number, k.3),
    )

    -- ---- radios

    pub goes_on_radio : (epoch : ℕ) (item : Item P) → Goes Kept on (put_on_radio world epoch item s)
    unfolding put_on_radio
    goes_on_radio epoch item = by (is_epoch (find ue_cmp s.connected item.key.ue) epoch) refl
      where
        by : (t : Bool) → is_epoch (find ue_cmp s.connected item.key.ue) epoch ≡ t
            → Goes Kept on (told_before {X = RunLine M} (put_item (radio_link item.key epoch) (radio_item item) ∷ [])
            (if t then goes_on (with_radio item.key (record (radio_of s item.key) { items = (radio_of s item.key).items ++ item ∷ [] }) s)
            else goes (lost_items (radio_link item.key epoch) 1 ∷ []) s))
        by true here = (
          (tt, tt),
          (
            k.0,
            radio_changed radio_item on (radio_at s.radios) (find ue_cmp s.connected) k.1 item.key epoch here _
                (record (radio_of s item.key) { items = (radio_of s item.key).items ++ item ∷ [] }) _
                (ap (λ xs. xs ++ radio_item item ∷ []) (k.1.stands item.key epoch ∙ ap (λ b. heard radio_item b (radio_of s item.key)) here)
                ∙ sym (map-append radio_item (uncarried (radio_of s item.key)) (item ∷ []))
                ∙ ap (map radio_item) (sym (put_uncarried (radio_of s item.key) item (k.1.carried item.key))))
                (put_sound (radio_of s item.key) item (k.1.carried item.key))
                (at-put entity_total _ s.radios item.key _),
            k.2,
            k.3,
          ),
        )
        by false off = (
          (tt, (tt, tt)),
          (k.0, radio_lost_at_once radio_item on (radio_at s.radios) (find ue_cmp s.connected) k.1 item.key epoch off _, k.2, k.3),
        )

    module _ (key : EntityKey) (item : Item P) (at_head : nth (radio_of s key).items (radio_of s key).carried ≡ Some item) where
      on_air : uncarried (radio_of s key) ≡ item ∷ drop ((radio_of s key).carried + 1) (radio_of s key).items
      on_air = nth_uncarried (radio_of s key).items (radio_of s key).carried item at_head

      -- it is the oldest that is uncarried
      pub goes_carried : Goes Kept on (carried_off world key item s)
      goes_carried = by (find ue_cmp s.connected key.ue) refl
        where
          by : (o : Option ℕ) → find ue_cmp s.connected key.ue ≡ o
              → Goes Kept on (goes (got_item (radio_link key (epoch_in o)) (radio_item item) ∷ [])
              (with_radio key (record (radio_of s key) { carried = (radio_of s key).carried + 1 }) s))
          by None none = let empty : uncarried (radio_of s key) ≡ [] = k.1.idle key none in absurd (cc on_air)
          by (Some e) is =
              let here : is_epoch (find ue_cmp s.connected key.ue) e ≡ true = ap (λ o. is_epoch o e) is ∙ eq-eqb e e refl in
              let shows : on.items (radio_link key e) ≡ radio_item item ∷ map radio_item (drop ((radio_of s key).carried + 1) (radio_of s key).items) =
              k.1.stands key e ∙ ap (λ b. heard radio_item b (radio_of s key)) here ∙ ap (map radio_item) on_air in (
                (ap (λ xs. slice_get xs 0) shows, tt),
                (
                  k.0,
                  radio_changed radio_item on (radio_at s.radios) (find ue_cmp s.connected) k.1 key e here _
                      (record (radio_of s key) { carried = (radio_of s key).carried + 1 }) _ (ap (drop 1) shows)
                      (nth_within (radio_of s key).items (radio_of s key).carried item at_head)
                      (at-put entity_total _ s.radios key _),
                  k.2,
                  k.3,
                ),
              )

    pub goes_confirmed : (key : EntityKey) (item : Item P) (rest : List (Item P)) → (radio_of s key).items ≡ item ∷ rest
        → (radio_of s key).carried == 0 ≡ false → Goes Kept on (confirmed_off world key rest s)
    goes_confirmed key item rest are some = (
      tt,
      (
        k.0,
        radio_kept radio_item on (radio_at s.radios) (find ue_cmp s.connected) k.1 key
            (record { items = rest; carried = (radio_of s key).carried - 1 }) _
            (ap (drop (radio_of s key).carried) are ∙ confirmed_uncarried (radio_of s key).carried item rest some)
            (confirmed_sound (radio_of s key).carried item rest
            (subst (λ (xs : List (Item P)). (radio_of s key).carried ≤ length xs) are (k.1.carried key)))
            (at-put entity_total _ s.radios key _),
        k.2,
        k.3,
      ),
    )

    -- ---- what is lost of a radio

    pub goes_lost : (epoch : ℕ) (key : EntityKey) → find ue_cmp s.connected key.ue ≡ Some epoch
        → Goes Kept on (goes (radio_lost world epoch key (radio_of s key).items) (record s { radios = emptied s.radios key }))
    goes_lost epoch key is = by (radio_of s key).items refl
      where
        by : (items : List (Item P)) → (radio_of s key).items ≡ items
            → Goes Kept on (goes (radio_lost world epoch key items) (record s { radios = emptied s.radios key }))
        by [] none = (
          tt,
          (
            k.0,
            radio_kept radio_item on (radio_at s.radios) (find ue_cmp s.connected) k.1 key (record { items = []; carried = 0 }) _
                (empty_uncarried (radio_of s key) none) (omega arith) (at-without entity_total _ s.radios key),
            k.2,
            k.3,
          ),
        )
        by (x ∷ xs) found = (
          (tt, tt),
          (
            k.0,
            radio_changed radio_item on (radio_at s.radios) (find ue_cmp s.connected) k.1 key epoch
                (ap (λ o. is_epoch o epoch) is ∙ eq-eqb epoch epoch refl) [] (record { items = []; carried = 0 }) _ refl (omega arith)
                (at-without entity_total _ s.radios key),
            k.2,
            k.3,
          ),
        )
