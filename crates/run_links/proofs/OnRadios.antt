-- Items are put on radios, and all that stands on those of a terminal is lost: what the calls of radios give, and what the run makes of it.
use Rattle.std.proofs.Common.{◌≡◌, ℕ, ◌<◌, ◌≤◌, Bool, true, false, if◌then◌else◌, List, [], ◌∷◌, ◌++◌, length, Option, Some, None, refl, sym, ◌∙◌, ap, subst, append_assoc, arith}
use Rattle.std.proofs.lemmas.List.{append-nil}
use Rattle.gnb_types.specs.declared.names.UeId.{UeId}
use Rattle.gnb_types.specs.declared.keys.EntityKey.{EntityKey}
use Rattle.gnb_types.specs.Orders.{ue_cmp}
use Rattle.tables.specs.Tables.{find}
use Rattle.scenario_text.specs.declared.line.OutLine.{OutLine}
use Rattle.scenario_text.specs.declared.line.OutLine.TheVariants as outs
use Rattle.transport_defs.specs.declared.Item.{Item}
use Rattle.transport_defs.specs.Links.{is_epoch}
use Rattle.links.specs.Radios.{RadioLinks, radio_of, with_radio, with_item, put_item, connected_in, failed}
use Rattle.unit_defs.specs.octet_defs.Codec.{Codec}
use Rattle.run_defs.specs.Lines.{radio_link, shown, lost_items, put_item as puts_line}
use Rattle.run_defs.specs.States.{goes, told_before, ◌next◌, goes_on, with_radio as with_radio_in, radio_of as radio_in}
use Rattle.run_defs.specs.Steps.{put_on_radio, radio_lost, lose_each, radios_of, lose_radios_of, lose_radios, epoch_now, same_epoch, connect_in, reconnect}
use Rattle.run_defs.specs.Events.{leaves}
use Rattle.run_defs.specs.UnitRuns.{Records, Meaning, unit_world}
use Rattle.run_links.specs.declared.network.Network.{Network}
use Rattle.run_links.specs.Networks.{Octets, OctetWorld, OctetCore, OctetState, OctetWithin, state_of}
use Rattle.run_links.specs.Told.{GoesTo, Makes, printed, lose_one}
use Rattle.run_links.proofs.Goes.{then_on}

-- ---- an item is put

abbrev put_by : Bool → ℕ → Item Octets → OctetState → OctetWithin
put_by b epoch item s =
    told_before (puts_line (radio_link item.key epoch) (shown item.key item.count item.content) ∷ [])
    (if b then goes_on (with_radio_in item.key (record (radio_in s item.key) { items = (radio_in s item.key).items ++ item ∷ [] }) s)
    else goes (lost_items (radio_link item.key epoch) 1 ∷ []) s)

pub puts_connected : (epoch : ℕ) (item : Item Octets) (old new : Network) (before lines : List OutLine)
    → true ≡ is_epoch (find ue_cmp old.radios.connected item.key.ue) epoch → new.radios ≡ put_item old.radios epoch item
    → new ≡ record old { radios = new.radios } → lines ≡ before ++ outs.Put (radio_link item.key epoch) (shown item.key item.count item.content) ∷ []
    → Makes (λ world. put_on_radio world epoch item) old new before lines
unfolding put_on_radio put_item
puts_connected epoch item old new before lines there is same told codec answer units core =
    let left : new.radios ≡ with_radio item.key (with_item (radio_of old.radios item.key) item) old.radios =
    is ∙ ap (λ (b : Bool). if b then with_radio item.key (with_item (radio_of old.radios item.key) item) old.radios else old.radios) (sym there) in
    subst (λ (b : Bool). GoesTo before (put_by b epoch item (state_of units core old)) lines (state_of units core new)) there (
      told,
      ap (λ (r : RadioLinks Octets). state_of units core (record old { radios = r })) (sym left) ∙ ap (λ (g : Network). state_of units core g) (sym same),
    )

pub puts_disconnected : (epoch : ℕ) (item : Item Octets) (old new : Network) (before middle lines : List OutLine)
    → false ≡ is_epoch (find ue_cmp old.radios.connected item.key.ue) epoch → new.radios ≡ put_item old.radios epoch item
    → new ≡ record old { radios = new.radios } → middle ≡ before ++ outs.Put (radio_link item.key epoch) (shown item.key item.count item.content) ∷ []
    → lines ≡ middle ++ outs.Lost (radio_link item.key epoch) 1 ∷ [] → Makes (λ world. put_on_radio world epoch item) old new before lines
unfolding put_on_radio put_item
puts_disconnected epoch item old new before middle lines there is same first second codec answer units core =
    let left : new.radios ≡ old.radios =
    is ∙ ap (λ (b : Bool). if b then with_radio item.key (with_item (radio_of old.radios item.key) item) old.radios else old.radios) (sym there) in
    subst (λ (b : Bool). GoesTo before (put_by b epoch item (state_of units core old)) lines (state_of units core new)) there (
      second ∙ ap (λ (l : List OutLine). l ++ outs.Lost (radio_link item.key epoch) 1 ∷ []) first
          ∙ append_assoc before (outs.Put (radio_link item.key epoch) (shown item.key item.count item.content) ∷ []) (outs.Lost (radio_link item.key epoch) 1 ∷ []),
      ap (λ (r : RadioLinks Octets). state_of units core (record old { radios = r })) (sym left) ∙ ap (λ (g : Network). state_of units core g) (sym same),
    )

-- ---- all that stands on one radio is lost

lost_none : (world : OctetWorld) (epoch : ℕ) (key : EntityKey) (items : List (Item Octets)) → length items ≤ 0 → radio_lost world epoch key items ≡ []
lost_none world epoch key [] h = refl
lost_none world epoch key (i ∷ is) h = absurd (omega arith)

lost_some : (world : OctetWorld) (epoch : ℕ) (key : EntityKey) (items : List (Item Octets)) → 0 < length items
    → radio_lost world epoch key items ≡ lost_items (radio_link key epoch) (length items) ∷ []
lost_some world epoch key [] h = absurd (omega arith)
lost_some world epoch key (i ∷ is) h = refl

pub fails_empty : (epoch : ℕ) (key : EntityKey) (old new : Network) (items : ℕ) (lines : List OutLine)
    → items ≡ length (radio_of old.radios key).items → items ≤ 0 → new ≡ record old { radios = failed old.radios key }
    → Makes (lose_one epoch key) old new lines lines
fails_empty epoch key old new items lines is none same codec answer units core = (
  sym (append-nil lines)
      ∙ ap (λ l. lines ++ printed l) (sym (lost_none (unit_world codec answer) epoch key (radio_of old.radios key).items
      (subst (λ (n : ℕ). n ≤ 0) is none))),
  ap (λ (g : Network). state_of units core g) (sym same),
)

pub fails_full : (epoch : ℕ) (key : EntityKey) (old new : Network) (items : ℕ) (before lines : List OutLine)
    → items ≡ length (radio_of old.radios key).items → 0 < items → new ≡ record old { radios = failed old.radios key }
    → lines ≡ before ++ outs.Lost (radio_link key epoch) items ∷ [] → Makes (lose_one epoch key) old new before lines
fails_full epoch key old new items before lines is some same told codec answer units core = (
  told ∙ ap (λ (n : ℕ). before ++ outs.Lost (radio_link key epoch) n ∷ []) is
      ∙ ap (λ l. before ++ printed l) (sym (lost_some (unit_world codec answer) epoch key (radio_of old.radios key).items
      (subst (λ (n : ℕ). 0 < n) is some))),
  ap (λ (g : Network). state_of units core g) (sym same),
)

-- ---- all that stands on those of a terminal is lost

pub loses_nowhere : (ue : UeId) (g : Network) (lines : List OutLine) → None ≡ find ue_cmp g.radios.connected ue
    → Makes (λ world. lose_radios world ue) g g lines lines
unfolding lose_radios
loses_nowhere ue g lines h codec answer units core =
    subst (λ (e : Option ℕ). GoesTo lines (lose_radios_of (unit_world codec answer) ue e (state_of units core g)) lines (state_of units core g)) h
    (sym (append-nil lines), refl)

pub loses_in : (ue : UeId) (epoch : ℕ) (old new : Network) (before lines : List OutLine) → Some epoch ≡ find ue_cmp old.radios.connected ue
    → Makes (λ world. lose_each world epoch (radios_of world ue old.radios.radios)) old new before lines
    → Makes (λ world. lose_radios world ue) old new before lines
unfolding lose_radios
loses_in ue epoch old new before lines h k codec answer units core =
    subst (λ (e : Option ℕ). GoesTo before (lose_radios_of (unit_world codec answer) ue e (state_of units core old)) lines (state_of units core new)) h
    (k codec answer units core)

-- ---- the radios follow the terminal

abbrev follow_by : OctetWorld → Bool → UeId → Option ℕ → OctetState → OctetWithin
follow_by world b ue now s = if b then goes_on s else (lose_radios world ue s next (λ t. goes_on (connect_in world ue now t)))

pub follows_same : (ue : UeId) (now : Option ℕ) (g : Network) (lines : List OutLine) (codec : Codec) (answer : Meaning) (units : Records) (core : OctetCore)
    → true ≡ same_epoch (unit_world codec answer) (find ue_cmp g.radios.connected ue) now
    → epoch_now (unit_world codec answer) (state_of units core g) ue ≡ now
    → GoesTo lines (reconnect (unit_world codec answer) ue (state_of units core g)) lines (state_of units core g)
follows_same ue now g lines codec answer units core same is =
    let world = unit_world codec answer in
    let s = state_of units core g in
    subst (λ (e : Option ℕ). GoesTo lines (follow_by world (same_epoch world (find ue_cmp g.radios.connected ue) e) ue e s) lines s) (sym is)
    (subst (λ (b : Bool). GoesTo lines (follow_by world b ue now s) lines s) same (sym (append-nil lines), refl))

pub follows_other : (ue : UeId) (now : Option ℕ) (old middle new : Network) (before lines : List OutLine)
    (codec : Codec) (answer : Meaning) (units : Records) (core : OctetCore)
    → false ≡ same_epoch (unit_world codec answer) (find ue_cmp old.radios.connected ue) now
    → epoch_now (unit_world codec answer) (state_of units core old) ue ≡ now
    → Makes (λ world. lose_radios world ue) old middle before lines → new ≡ record middle { radios = connected_in middle.radios ue now }
    → GoesTo before (reconnect (unit_world codec answer) ue (state_of units core old)) lines (state_of units core new)
follows_other ue now old middle new before lines codec answer units core same is lost left =
    let world = unit_world codec answer in
    let s = state_of units core old in
    subst (λ (e : Option ℕ). GoesTo before (follow_by world (same_epoch world (find ue_cmp old.radios.connected ue) e) ue e s) lines (state_of units core new))
    (sym is)
    (subst (λ (b : Bool). GoesTo before (follow_by world b ue now s) lines (state_of units core new)) same
    (then_on (lose_radios world ue s) (connect_in world ue now) before lines (state_of units core middle) (state_of units core new)
    (lost codec answer units core) (ap (λ (g : Network). state_of units core g) (sym left))))

pub leaves_makes : (ue : UeId) (old middle new : Network) (before lines : List OutLine) → Makes (λ world. lose_radios world ue) old middle before lines
    → new ≡ record middle { radios = connected_in middle.radios ue None; gone = middle.gone ++ ue ∷ [] }
    → Makes (λ world. leaves world ue) old new before lines
leaves_makes ue old middle new before lines lost left codec answer units core =
    let world = unit_world codec answer in
    then_on (lose_radios world ue (state_of units core old)) (λ t. record (connect_in world ue None t) { gone = t.gone ++ ue ∷ [] }) before lines
    (state_of units core middle) (state_of units core new) (lost codec answer units core) (ap (λ (g : Network). state_of units core g) (sym left))
