-- Items are put on tunnels and taken from them, and tunnels are closed: what the calls of tunnels give, and what the run makes of it.
use Rattle.std.proofs.Common.{◌≡◌, ℕ, ◌<◌, ◌≤◌, Bool, true, false, if◌then◌else◌, List, [], ◌∷◌, ◌++◌, length, Option, Some, None, is_some, refl, sym, ◌∙◌, ap, subst, append_assoc, arith}
use Rattle.std.specs.Prelude.{Result, Ok, Err, IsOk, is_ok}
use Rattle.std.proofs.lemmas.List.{append-nil}
use Rattle.gnb_types.specs.declared.keys.TunnelEnd.{TunnelEnd}
use Rattle.gnb_types.specs.declared.reasons.RefuseReason.{RefuseReason}
use Rattle.gnb_types.specs.declared.reasons.RefuseReason.TheVariants as reasons
use Rattle.gnb_types.specs.Orders.{tunnel_cmp}
use Rattle.tables.specs.Tables.{find, put, at}
use Rattle.scenario_text.specs.declared.line.OutLine.{OutLine}
use Rattle.scenario_text.specs.declared.line.OutLine.TheVariants as outs
use Rattle.transport_defs.specs.declared.Item.{Item}
use Rattle.links.specs.declared.links_bag.error.LinkError.{LinkError}
use Rattle.links.specs.links_bag.Answers.{gives, refuses, AnswersSurely}
use Rattle.links.specs.Tunnels.{OpenTunnels, put_on, put_item, get, closed}
use Rattle.run_defs.specs.Lines.{tunnel_link, shown, put_item as puts_line, lost_items}
use Rattle.run_defs.specs.States.{told_before, refused}
use Rattle.run_defs.specs.Steps.{on_tunnel, put_on_tunnel, lost_if, closes}
use Rattle.run_defs.specs.Events.{taken_off, is_lossy, lose_items, lose_item, lose_item_on}
use Rattle.run_defs.specs.UnitRuns.{Records, unit_world}
use Rattle.run_links.specs.declared.network.Network.{Network}
use Rattle.run_links.specs.Networks.{Octets, OctetWorld, OctetState, OctetCore, state_of}
use Rattle.run_links.specs.Told.{GoesTo, EndsAt, Makes, Ends, printed, oldest_in, lost_from, loses}

-- ---- an item is put

pub puts_open : (end : TunnelEnd) (item : Item Octets) (old new : Network) (before lines : List OutLine)
    → true ≡ is_some (find tunnel_cmp old.tunnels.tunnels end) → new.tunnels ≡ put_item old.tunnels end item
    → new ≡ record old { tunnels = new.tunnels } → lines ≡ before ++ outs.Put (tunnel_link end) (shown item.key item.count item.content) ∷ []
    → Makes (λ world. put_on_tunnel world end item) old new before lines
unfolding put_on_tunnel put_item
puts_open end item old new before lines there is same told codec answer units core = by (find tunnel_cmp old.tunnels.tunnels end) refl
  where
    world : OctetWorld
    world = unit_world codec answer

    by : (o : Option (List (Item Octets))) → find tunnel_cmp old.tunnels.tunnels end ≡ o
        → GoesTo before (told_before (puts_line (tunnel_link end) (shown item.key item.count item.content) ∷ [])
        (on_tunnel world (state_of units core old) end item (find tunnel_cmp old.tunnels.tunnels end))) lines (state_of units core new)
    by None e = let k : true ≡ false = there ∙ ap (λ (o : Option (List (Item Octets))). is_some o) e in absurd cc
    by (Some items) e =
        subst (λ (o : Option (List (Item Octets))). GoesTo before (told_before (puts_line (tunnel_link end) (shown item.key item.count item.content) ∷ [])
        (on_tunnel world (state_of units core old) end item o)) lines (state_of units core new)) (sym e) (
          told,
          ap (λ (t : OpenTunnels Octets). state_of units core (record old { tunnels = t }))
              (sym (is ∙ ap (λ (o : Option (List (Item Octets))). record old.tunnels { tunnels = put_on old.tunnels.tunnels end item o }) e))
              ∙ ap (λ (g : Network). state_of units core g) (sym same),
        )

pub puts_closed : (end : TunnelEnd) (item : Item Octets) (old new : Network) (before middle lines : List OutLine)
    → false ≡ is_some (find tunnel_cmp old.tunnels.tunnels end) → new.tunnels ≡ put_item old.tunnels end item
    → new ≡ record old { tunnels = new.tunnels } → middle ≡ before ++ outs.Put (tunnel_link end) (shown item.key item.count item.content) ∷ []
    → lines ≡ middle ++ outs.Lost (tunnel_link end) 1 ∷ []
    → Makes (λ world. put_on_tunnel world end item) old new before lines
unfolding put_on_tunnel put_item
puts_closed end item old new before middle lines there is same first second codec answer units core = by (find tunnel_cmp old.tunnels.tunnels end) refl
  where
    world : OctetWorld
    world = unit_world codec answer

    by : (o : Option (List (Item Octets))) → find tunnel_cmp old.tunnels.tunnels end ≡ o
        → GoesTo before (told_before (puts_line (tunnel_link end) (shown item.key item.count item.content) ∷ [])
        (on_tunnel world (state_of units core old) end item (find tunnel_cmp old.tunnels.tunnels end))) lines (state_of units core new)
    by (Some items) e = let k : false ≡ true = there ∙ ap (λ (o : Option (List (Item Octets))). is_some o) e in absurd cc
    by None e =
        subst (λ (o : Option (List (Item Octets))). GoesTo before (told_before (puts_line (tunnel_link end) (shown item.key item.count item.content) ∷ [])
        (on_tunnel world (state_of units core old) end item o)) lines (state_of units core new)) (sym e) (
          second ∙ ap (λ (l : List OutLine). l ++ outs.Lost (tunnel_link end) 1 ∷ []) first
              ∙ append_assoc before (outs.Put (tunnel_link end) (shown item.key item.count item.content) ∷ []) (outs.Lost (tunnel_link end) 1 ∷ []),
          ap (λ (t : OpenTunnels Octets). state_of units core (record old { tunnels = t }))
              (sym (is ∙ ap (λ (o : Option (List (Item Octets))). record old.tunnels { tunnels = put_on old.tunnels.tunnels end item o }) e))
              ∙ ap (λ (g : Network). state_of units core g) (sym same),
        )

-- ---- a tunnel is closed

-- the number of items that are lost
lost_none : (world : OctetWorld) (end : TunnelEnd) (items : List (Item Octets)) → length items ≤ 0 → lost_if world end items ≡ []
lost_none world end [] h = refl
lost_none world end (i ∷ is) h = absurd (omega arith)

lost_some : (world : OctetWorld) (end : TunnelEnd) (items : List (Item Octets)) → 0 < length items
    → lost_if world end items ≡ lost_items (tunnel_link end) (length items) ∷ []
lost_some world end [] h = absurd (omega arith)
lost_some world end (i ∷ is) h = refl

pub closes_empty : (end : TunnelEnd) (old new : Network) (items : ℕ) (lines : List OutLine)
    → items ≡ length (at tunnel_cmp [] old.tunnels.tunnels end) → items ≤ 0 → new ≡ record old { tunnels = closed old.tunnels end }
    → Makes (λ world. closes world end) old new lines lines
unfolding closes
closes_empty end old new items lines is none same codec answer units core = (
  sym (append-nil lines)
      ∙ ap (λ l. lines ++ printed l) (sym (lost_none (unit_world codec answer) end (at tunnel_cmp [] old.tunnels.tunnels end)
      (subst (λ (n : ℕ). n ≤ 0) is none))),
  ap (λ (g : Network). state_of units core g) (sym same),
)

pub closes_full : (end : TunnelEnd) (old new : Network) (items : ℕ) (before lines : List OutLine)
    → items ≡ length (at tunnel_cmp [] old.tunnels.tunnels end) → 0 < items → new ≡ record old { tunnels = closed old.tunnels end }
    → lines ≡ before ++ outs.Lost (tunnel_link end) items ∷ [] → Makes (λ world. closes world end) old new before lines
unfolding closes
closes_full end old new items before lines is some same told codec answer units core = (
  told ∙ ap (λ (n : ℕ). before ++ outs.Lost (tunnel_link end) n ∷ []) is
      ∙ ap (λ l. before ++ printed l) (sym (lost_some (unit_world codec answer) end (at tunnel_cmp [] old.tunnels.tunnels end)
      (subst (λ (n : ℕ). 0 < n) is some))),
  ap (λ (g : Network). state_of units core g) (sym same),
)

-- ---- the oldest item is taken

takes : (old new : OpenTunnels Octets) (end : TunnelEnd) (item value : Item Octets) (rest : List (Item Octets)) → get old end ≡ gives value new
    → find tunnel_cmp old.tunnels end ≡ Some (item ∷ rest) → (value ≡ item) × (new ≡ record old { tunnels = put tunnel_cmp old.tunnels end rest })
unfolding get
takes old new end item value rest h e =
    let k : gives item (record old { tunnels = put tunnel_cmp old.tunnels end rest }) ≡ gives value new = rw e at h in (cc, cc)

pub takes_none : {P : Type 0} (old : OpenTunnels Octets) (end : TunnelEnd) (item : Item Octets) (rest : List (Item Octets)) (error : LinkError)
    → get old end ≡ refuses error → find tunnel_cmp old.tunnels end ≡ Some (item ∷ rest) → P
unfolding get
takes_none old end item rest error h e =
    let k : gives item (record old { tunnels = put tunnel_cmp old.tunnels end rest }) ≡ refuses error = rw e at h in absurd cc

pub take_makes : (end : TunnelEnd) (old new : Network) (item value : Item Octets) (rest : List (Item Octets)) (before lines : List OutLine)
    → get old.tunnels end ≡ gives value new.tunnels → new ≡ record old { tunnels = new.tunnels }
    → find tunnel_cmp old.tunnels.tunnels end ≡ Some (item ∷ rest)
    → lines ≡ before ++ outs.Got (tunnel_link end) (shown value.key value.count value.content) ∷ []
    → Makes (λ world. taken_off world end item rest) old new before lines
take_makes end old new item value rest before lines h same there told codec answer units core =
    let k = takes old.tunnels new.tunnels end item value rest h there in (
      told ∙ ap (λ (i : Item Octets). before ++ outs.Got (tunnel_link end) (shown i.key i.count i.content) ∷ []) k.0,
      ap (λ (t : OpenTunnels Octets). state_of units core (record old { tunnels = t })) (sym k.1) ∙ ap (λ (g : Network). state_of units core g) (sym same),
    )

-- where one stands no call says that there is none
pub takes_one : (t : OpenTunnels Octets) (end : TunnelEnd) (e : LinkError) → get t end ≡ refuses e → IsOk (oldest_in (find tunnel_cmp t.tunnels end)) → ⊥
unfolding get
takes_one t end e h there = by (find tunnel_cmp t.tunnels end) refl
  where
    by : (o : Option (List (Item Octets))) → find tunnel_cmp t.tunnels end ≡ o → ⊥
    by None is = (let clash : false ≡ true = sym (ap (λ (o : Option (List (Item Octets))). is_ok (oldest_in o)) is) ∙ there in absurd cc)
    by (Some []) is = (let clash : false ≡ true = sym (ap (λ (o : Option (List (Item Octets))). is_ok (oldest_in o)) is) ∙ there in absurd cc)
    by (Some (item ∷ rest)) is =
        let k : gives item (record t { tunnels = put tunnel_cmp t.tunnels end rest }) ≡ refuses e = rw is at h in absurd cc

-- ---- the oldest item is lost

lose_on_refuses : (world : OctetWorld) (end : TunnelEnd) (s : OctetState) (reason : RefuseReason) (before lines : List OutLine)
    (there : Option (List (Item Octets))) → Err reason ≡ loses world end there → lines ≡ before ++ outs.Refused reason ∷ []
    → EndsAt before (lose_item_on world end s there) lines s
lose_on_refuses world end s reason before lines None h told =
    let same : reason ≡ reasons.NoSuch = cc in (told ∙ ap (λ (r : RefuseReason). before ++ outs.Refused r ∷ []) same, refl)
lose_on_refuses world end s reason before lines (Some items) h told = by (is_lossy world end.node) items h
  where
    by : (b : Bool) (items : List (Item Octets)) → Err reason ≡ (if b then lost_from end items else Err reasons.NotAllowed)
        → EndsAt before (if b then lose_items world end s items else refused reasons.NotAllowed s) lines s
    by true [] k =
        let same : reason ≡ reasons.Empty = cc in (told ∙ ap (λ (r : RefuseReason). before ++ outs.Refused r ∷ []) same, refl)
    by true (i ∷ is) k = absurd cc
    by false items k =
        let same : reason ≡ reasons.NotAllowed = cc in (told ∙ ap (λ (r : RefuseReason). before ++ outs.Refused r ∷ []) same, refl)

pub lose_refuses : (end : TunnelEnd) (old : Network) (reason : RefuseReason) (before lines : List OutLine)
    → ((world : OctetWorld) → Err reason ≡ loses world end (find tunnel_cmp old.tunnels.tunnels end))
    → lines ≡ before ++ outs.Refused reason ∷ [] → Ends (λ world. lose_item world end) old old before lines
unfolding lose_item
lose_refuses end old reason before lines h told codec answer units core =
    lose_on_refuses (unit_world codec answer) end (state_of units core old) reason before lines (find tunnel_cmp old.tunnels.tunnels end)
    (h (unit_world codec answer)) told

lose_on_loses : (world : OctetWorld) (end : TunnelEnd) (old new : Network) (units : Records) (core : OctetCore) (before lines : List OutLine)
    (result : Result (Item Octets) LinkError) (there : Option (List (Item Octets))) → find tunnel_cmp old.tunnels.tunnels end ≡ there
    → Ok tt ≡ loses world end there → AnswersSurely (get old.tunnels end) old.tunnels new.tunnels result → new ≡ record old { tunnels = new.tunnels }
    → lines ≡ before ++ outs.Lost (tunnel_link end) 1 ∷ []
    → EndsAt before (lose_item_on world end (state_of units core old) there) lines (state_of units core new)
lose_on_loses world end old new units core before lines result None e h took same told = absurd cc
lose_on_loses world end old new units core before lines result (Some items) e h took same told = by (is_lossy world end.node) items e h result took
  where
    by : (b : Bool) (items : List (Item Octets)) → find tunnel_cmp old.tunnels.tunnels end ≡ Some items
        → Ok tt ≡ (if b then lost_from end items else Err reasons.NotAllowed) → (result : Result (Item Octets) LinkError)
        → AnswersSurely (get old.tunnels end) old.tunnels new.tunnels result
        → EndsAt before (if b then lose_items world end (state_of units core old) items else refused reasons.NotAllowed (state_of units core old)) lines
        (state_of units core new)
    by true [] there k result took = absurd cc
    by false items there k result took = absurd cc
    by true (i ∷ is) there k (Err error) took = takes_none old.tunnels end i is error took.0 there
    by true (i ∷ is) there k (Ok value) took =
        let left = takes old.tunnels new.tunnels end i value is took there in (
          told,
          ap (λ (t : OpenTunnels Octets). state_of units core (record old { tunnels = t })) (sym left.1) ∙ ap (λ (g : Network). state_of units core g) (sym same),
        )

pub lose_loses : (end : TunnelEnd) (old new : Network) (before lines : List OutLine) (result : Result (Item Octets) LinkError)
    → ((world : OctetWorld) → Ok tt ≡ loses world end (find tunnel_cmp old.tunnels.tunnels end))
    → AnswersSurely (get old.tunnels end) old.tunnels new.tunnels result → new ≡ record old { tunnels = new.tunnels }
    → lines ≡ before ++ outs.Lost (tunnel_link end) 1 ∷ [] → Ends (λ world. lose_item world end) old new before lines
unfolding lose_item
lose_loses end old new before lines result h took same told codec answer units core =
    lose_on_loses (unit_world codec answer) end old new units core before lines result (find tunnel_cmp old.tunnels.tunnels end) refl
    (h (unit_world codec answer)) took same told
