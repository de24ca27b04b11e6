-- What the calls of radios give, and what the run makes of them.
use Rattle.std.proofs.Common.{◌≡◌, ◌==◌, ℕ, ◌+◌, ◌-◌, true, false, List, [], ◌∷◌, ◌++◌, Option, Some, None, refl, sym, ◌∙◌, ap}
use Rattle.std.specs.Prelude.{Result, Ok, Err, IsSome, is_some}
use Rattle.std.proofs.lemmas.List.{append-nil}
use Rattle.gnb_types.specs.declared.keys.EntityKey.{EntityKey}
use Rattle.gnb_types.specs.Orders.{ue_cmp}
use Rattle.tables.specs.Tables.{find}
use Rattle.scenario_text.specs.declared.line.OutLine.{OutLine}
use Rattle.scenario_text.specs.declared.line.OutLine.TheVariants as outs
use Rattle.transport_defs.specs.declared.Item.{Item}
use Rattle.links.specs.declared.links_bag.error.LinkError.{LinkError}
use Rattle.links.specs.declared.links_bag.error.LinkError.TheVariants as errors
use Rattle.links.specs.links_bag.Answers.{gives, refuses, AnswersSurely}
use Rattle.links.specs.Radios.{RadioLinks, radio_of, with_radio, uncarried, head, carry, confirm, confirm_in}
use Rattle.run_defs.specs.Lines.{radio_link, shown}
use Rattle.run_defs.specs.Events.{carried_off, confirmed_off}
use Rattle.run_defs.specs.Conditions.{epoch_in}
use Rattle.run_links.specs.declared.network.Network.{Network}
use Rattle.run_links.specs.Networks.{Octets, state_of}
use Rattle.run_links.specs.Told.{Makes}

pub head_shows : (r : RadioLinks Octets) (key : EntityKey) (item : Item Octets) → head r key ≡ gives item r → Some item ≡ uncarried (radio_of r key)
unfolding head
head_shows r key item h = by (uncarried (radio_of r key)) refl
  where
    by : (o : Option (Item Octets)) → uncarried (radio_of r key) ≡ o → Some item ≡ o
    by None e = let k : refuses errors.Empty ≡ gives item r = rw e at h in absurd cc
    by (Some i) e = let k : gives i r ≡ gives item r = rw e at h in cc

pub head_refuses : (r : RadioLinks Octets) (key : EntityKey) (error : LinkError) → head r key ≡ refuses error → None ≡ uncarried (radio_of r key)
unfolding head
head_refuses r key error h = by (uncarried (radio_of r key)) refl
  where
    by : (o : Option (Item Octets)) → uncarried (radio_of r key) ≡ o → None ≡ o
    by None e = refl
    by (Some i) e = let k : gives i r ≡ refuses error = rw e at h in absurd cc

-- ---- the oldest item that isn't carried is carried

pub carries : (old new : RadioLinks Octets) (key : EntityKey) (item value : Item Octets) → carry old key ≡ gives value new
    → uncarried (radio_of old key) ≡ Some item
    → (value ≡ item) × (new ≡ with_radio key (record (radio_of old key) { carried = (radio_of old key).carried + 1 }) old)
unfolding carry
carries old new key item value h e =
    let k : gives item (with_radio key (record (radio_of old key) { carried = (radio_of old key).carried + 1 }) old) ≡ gives value new = rw e at h in
    (cc, cc)

-- where one isn't carried no call says that there is none
pub carries_one : (old : RadioLinks Octets) (key : EntityKey) (e : LinkError) → carry old key ≡ refuses e → IsSome (uncarried (radio_of old key)) → ⊥
unfolding carry
carries_one old key e h there = by (uncarried (radio_of old key)) refl
  where
    by : (o : Option (Item Octets)) → uncarried (radio_of old key) ≡ o → ⊥
    by None is = (let clash : false ≡ true = sym (ap is_some is) ∙ there in absurd cc)
    by (Some item) is =
        let k : gives item (with_radio key (record (radio_of old key) { carried = (radio_of old key).carried + 1 }) old) ≡ refuses e = rw is at h in
        absurd cc

pub carry_makes : (key : EntityKey) (old new : Network) (item value : Item Octets) (epoch : ℕ) (before lines : List OutLine)
    → carry old.radios key ≡ gives value new.radios → new ≡ record old { radios = new.radios } → uncarried (radio_of old.radios key) ≡ Some item
    → epoch ≡ epoch_in (find ue_cmp old.radios.connected key.ue)
    → lines ≡ before ++ outs.Got (radio_link key epoch) (shown value.key value.count value.content) ∷ []
    → Makes (λ world. carried_off world key item) old new before lines
carry_makes key old new item value epoch before lines h same is at_epoch printed_so codec answer units core =
    let k = carries old.radios new.radios key item value h is in (
      printed_so ∙ ap (λ (n : ℕ). before ++ outs.Got (radio_link key n) (shown value.key value.count value.content) ∷ []) at_epoch
          ∙ ap (λ (i : Item Octets). before ++ outs.Got (radio_link key (epoch_in (find ue_cmp old.radios.connected key.ue)))
          (shown i.key i.count i.content) ∷ []) k.0,
      ap (λ (r : RadioLinks Octets). state_of units core (record old { radios = r })) (sym k.1) ∙ ap (λ (g : Network). state_of units core g) (sym same),
    )

-- ---- the oldest carried item is out

confirms_in : (old new : RadioLinks Octets) (key : EntityKey) (item value : Item Octets) (rest items : List (Item Octets)) (carried : ℕ)
    → confirm_in old key items carried ≡ gives value new → items ≡ item ∷ rest → (carried == 0) ≡ false
    → new ≡ with_radio key (record { items = rest; carried = carried - 1 }) old
confirms_in old new key item value rest [] carried h e f = absurd cc
confirms_in old new key item value rest (i ∷ is) carried h e f =
    let k : gives i (with_radio key (record { items = is; carried = carried - 1 }) old) ≡ gives value new = rw f at h in
    let same : is ≡ rest = cc in
    let there : new ≡ with_radio key (record { items = is; carried = carried - 1 }) old = cc in
    there ∙ ap (λ (l : List (Item Octets)). with_radio key (record { items = l; carried = carried - 1 }) old) same

confirms_none : {P : Type 0} (old : RadioLinks Octets) (key : EntityKey) (item : Item Octets) (rest items : List (Item Octets)) (carried : ℕ) (e : LinkError)
    → confirm_in old key items carried ≡ refuses e → items ≡ item ∷ rest → (carried == 0) ≡ false → P
confirms_none old key item rest [] carried e h is f = absurd cc
confirms_none old key item rest (i ∷ js) carried e h is f =
    let k : gives i (with_radio key (record { items = js; carried = carried - 1 }) old) ≡ refuses e = rw f at h in absurd cc

pub confirms : (old new : RadioLinks Octets) (key : EntityKey) (item : Item Octets) (rest : List (Item Octets)) (result : Result (Item Octets) LinkError)
    → AnswersSurely (confirm old key) old new result → (radio_of old key).items ≡ item ∷ rest → ((radio_of old key).carried == 0) ≡ false
    → new ≡ with_radio key (record { items = rest; carried = (radio_of old key).carried - 1 }) old
unfolding confirm
confirms old new key item rest (Ok value) h e f = confirms_in old new key item value rest (radio_of old key).items (radio_of old key).carried h e f
confirms old new key item rest (Err error) h e f =
    confirms_none old key item rest (radio_of old key).items (radio_of old key).carried error h.0 e f

pub confirm_makes : (key : EntityKey) (old new : Network) (item : Item Octets) (rest : List (Item Octets)) (lines : List OutLine)
    (result : Result (Item Octets) LinkError) → AnswersSurely (confirm old.radios key) old.radios new.radios result
    → new ≡ record old { radios = new.radios } → (radio_of old.radios key).items ≡ item ∷ rest → ((radio_of old.radios key).carried == 0) ≡ false
    → Makes (λ world. confirmed_off world key rest) old new lines lines
confirm_makes key old new item rest lines result h same is some codec answer units core = (
  sym (append-nil lines),
  ap (λ (r : RadioLinks Octets). state_of units core (record old { radios = r })) (sym (confirms old.radios new.radios key item rest result h is some))
      ∙ ap (λ (g : Network). state_of units core g) (sym same),
)
