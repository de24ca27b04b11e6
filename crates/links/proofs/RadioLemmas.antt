-- The items of one radio, and that the tallies stay those of the radios.
use Rattle.std.proofs.Common.{◌≡◌, ◌<◌, ◌≤◌, ◌==◌, Bool, false, cond, ℕ, zero, suc, ◌+◌, ◌-◌, List, [], ◌∷◌, ◌++◌, length, get_or, Option, Some, None, ◌⊎◌, inl, inr, refl, sym, ap, ◌∙◌, subst, arith}
use Rattle.std.specs.Prelude.{Result, Ok, Err, IfOk, OnErr, unwrap_or}
use Rattle.std.specs.Option.{option_map}
use Rattle.std.specs.List.{slice_get}
use Rattle.std.proofs.lemmas.Bool.Decides.{nat_tests}
use Rattle.gnb_types.specs.declared.keys.EntityKey.{EntityKey}
use Rattle.gnb_types.specs.declared.names.UeId.{UeId}
use Rattle.gnb_types.specs.declared.names.BearerId.{BearerId}
use Rattle.gnb_types.specs.declared.names.Dir.TheVariants.{Dl}
use Rattle.gnb_types.specs.Orders.{entity_cmp}
use Rattle.gnb_types.proofs.OrderLemmas.{entity_total}
use Rattle.tables.specs.Tables.{find, put, without, at}
use Rattle.tables.proofs.TableLaws.{sorted-put, sorted-without}
use Rattle.transport_defs.specs.declared.Item.{Item}
use Rattle.transport_defs.specs.Links.{Radio, silent, nth}
use Rattle.links.specs.link_tallies.Tallies.{Tallies, entered, left, all_left}
use Rattle.links.specs.link_tallies.Tied.{AreTallies, weight}
use Rattle.links.proofs.link_tallies.TiedLemmas.{StandThere, stand_found, tallies-put, tallies-take, tallies-same, tallies-without, tallies-none, tallies-undone}
use Rattle.links.specs.Radios.{with_item, carried_on, Confirms}
use Rattle.links.specs.inside.Kept.{RadiosAreKept}
use Rattle.links.proofs.links_bag.Entries.{sorted_none}

-- ---- one radio

-- a radio that carries an item keeps it
pub carries_same : {P E : Type 0} (old new : Radio P) (r : Result (Option (Item P)) E) → IfOk r (λ item. new ≡ carried_on old item)
    → OnErr r (new ≡ old) → new.items ≡ old.items
carries_same {P = P} old new (Ok None) ok err = ap (λ (radio : Radio P). radio.items) ok
carries_same {P = P} old new (Ok (Some item)) ok err = ap (λ (radio : Radio P). radio.items) ok
carries_same {P = P} old new (Err e) ok err = ap (λ (radio : Radio P). radio.items) err

-- ---- all of them

module _ {P : Type 0} {radios : List (EntityKey × Radio P)} {t : Tallies} (kept : RadiosAreKept radios t) where
  stand_at : (key : EntityKey) → StandThere entity_total (λ (radio : Radio P). radio.items) radios key (at entity_cmp silent radios key).items
  unfolding at
  stand_at key w = by (find entity_cmp radios key)
    where
      by : (o : Option (Radio P)) → unwrap_or (option_map (λ radio. weight w radio.items) o) 0 ≡ weight w (unwrap_or o silent).items
      by None = refl
      by (Some radio) = refl

  pub radios-put : (radios2 : List (EntityKey × Radio P)) (item : Item P) (after : Tallies)
      → radios2 ≡ put entity_cmp radios item.key (with_item (at entity_cmp silent radios item.key) item) → after ≡ entered t item.key item.count
      → RadiosAreKept radios2 after
  radios-put radios2 item after is now =
      subst (λ (m : List (EntityKey × Radio P)). RadiosAreKept m after) (sym is) (record {
        sorted = sorted-put entity_total radios item.key (with_item (at entity_cmp silent radios item.key) item) kept.sorted;
        tied =
            subst (λ (m : Tallies). AreTallies (λ (radio : Radio P). radio.items) m
            (put entity_cmp radios item.key (with_item (at entity_cmp silent radios item.key) item))) (sym now)
            (tallies-put entity_total (λ (radio : Radio P). radio.items) radios item.key t (with_item (at entity_cmp silent radios item.key) item)
            (at entity_cmp silent radios item.key).items item kept.sorted (stand_at item.key) refl kept.tied);
      })

  pub radios-undone : (radios2 : List (EntityKey × Radio P)) (item : Item P) (middle after : Tallies) → radios2 ≡ radios
      → middle ≡ entered t item.key item.count → after ≡ left middle item.key item.count → RadiosAreKept radios2 after
  radios-undone radios2 item middle after is then now =
      subst (λ (m : List (EntityKey × Radio P)). RadiosAreKept m after) (sym is) (record {
        sorted = kept.sorted;
        tied =
            subst (λ (m : Tallies). AreTallies (λ (radio : Radio P). radio.items) m radios)
            (sym (now ∙ ap (λ (m : Tallies). left m item.key item.count) then))
            (tallies-undone (λ (radio : Radio P). radio.items) t radios item kept.tied);
      })

  pub radios-carry : (key : EntityKey) (old new : Radio P) → find entity_cmp radios key ≡ Some old → new.items ≡ old.items
      → RadiosAreKept (put entity_cmp radios key new) t
  radios-carry key old new found is = record {
    sorted = sorted-put entity_total radios key new kept.sorted;
    tied =
        tallies-same entity_total (λ (radio : Radio P). radio.items) radios key t new old.items kept.sorted
        (stand_found entity_total (λ (radio : Radio P). radio.items) radios key old found) is kept.tied;
  }

  pub radios-take : (key : EntityKey) (old new : Radio P) (item : Item P) (after : Tallies) → find entity_cmp radios key ≡ Some old
      → old.items ≡ item ∷ new.items → after ≡ left t item.key item.count → RadiosAreKept (put entity_cmp radios key new) after
  radios-take key old new item after found is now = record {
    sorted = sorted-put entity_total radios key new kept.sorted;
    tied =
        subst (λ (m : Tallies). AreTallies (λ (radio : Radio P). radio.items) m (put entity_cmp radios key new)) (sym now)
        (tallies-take entity_total (λ (radio : Radio P). radio.items) radios key t new old.items item kept.sorted
        (stand_found entity_total (λ (radio : Radio P). radio.items) radios key old found) is kept.tied);
  }

  pub radios-fail : (key : EntityKey) (radios2 : List (EntityKey × Radio P)) (old : Radio P) (items : List (Item P)) (after : Tallies)
      → radios2 ≡ without entity_cmp radios key → find entity_cmp radios key ≡ Some old → items ≡ old.items → after ≡ all_left t items
      → RadiosAreKept radios2 after
  radios-fail key radios2 old items after is found same now =
      subst (λ (m : List (EntityKey × Radio P)). RadiosAreKept m after) (sym is) (record {
        sorted = sorted-without entity_total radios key kept.sorted;
        tied =
            subst (λ (m : Tallies). AreTallies (λ (radio : Radio P). radio.items) m (without entity_cmp radios key))
            (sym (now ∙ ap (all_left t) same))
            (tallies-without entity_total (λ (radio : Radio P). radio.items) radios key t old.items kept.sorted
            (stand_found entity_total (λ (radio : Radio P). radio.items) radios key old found) kept.tied);
      })

pub radios-none : {P : Type 0} (radios : List (EntityKey × Radio P)) (t : Tallies) → radios ≡ [] → t ≡ [] → RadiosAreKept radios t
radios-none {P = P} radios t no_radio no_tally = record {
  sorted = sorted_none entity_total (record { ue = record { 0 = 0 }; bearer = record { 0 = 0 }; dir = Dl }) radios no_radio;
  tied = tallies-none (λ (radio : Radio P). radio.items) t radios no_tally no_radio;
}
