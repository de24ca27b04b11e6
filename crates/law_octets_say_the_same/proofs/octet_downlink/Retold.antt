-- A transcript whose control messages are told in other words offers and delivers what it did, and its COUNTs are the same places.
use Rattle.std.proofs.Common.{◌≡◌, ℕ, Bool, List, [], ◌∷◌, ◌++◌, map, Option, Some, None, refl, sym, ap, ◌∙◌, subst}
use Rattle.std.specs.Prelude.{All, if◌then◌else◌, slice_get, length}
use Rattle.std.specs.List.{flat_map, list_any, range_with_len}
use Rattle.std.proofs.lemmas.Grind.{flat_map-append}
use Rattle.gnb_types.specs.declared.names.SnBits.{SnBits}
use Rattle.gnb_types.specs.declared.names.UeId.{UeId}
use Rattle.gnb_types.specs.declared.keys.EntityKey.{EntityKey}
use Rattle.scenario_text.specs.declared.line.Link.{Link}
use Rattle.scenario_text.specs.declared.line.Item.{Item}
use Rattle.run_defs.specs.Lines.{RunLine, put_item, got_item, put_message, got_message, delivers}
use Rattle.run_defs.specs.Carried.{Carries}
use Rattle.run_defs.specs.Said.{is_refusal, lines_in, offered_by, Offered, all_lines, packets_of, counts_of, Delivered, Counts}
use Rattle.run_defs.specs.States.{Lengths, RunStep}
use Rattle.run_defs.specs.Runs.{Happened}
use Rattle.run_defs.specs.Local.{item_key, ShowsOffered, IsPlaceLine, CountMeansFrom, CountMeans, sn_in}
use Rattle.law_downlink_scripts.specs.downlink_only_runs.Scripts.{DeliversInOrder}
use Rattle.law_octets_say_the_same.proofs.octet_local.Retold.{append_mapped, all_mapped, reline, restep, rehap, its_lines, refused, lengths}

flat_mapped : {A B C : Type 0} (f : A → B) (g : B → List C) (h : A → List C) → ((x : A) → g (f x) ≡ h x) → (xs : List A)
    → flat_map g (map f xs) ≡ flat_map h xs
flat_mapped f g h same [] = refl
flat_mapped f g h same (x ∷ xs) =
    ap (λ (ys : List _). ys ++ flat_map g (map f xs)) (same x) ∙ ap (λ (ys : List _). h x ++ ys) (flat_mapped f g h same xs)

module _ {M N : Type 0} (f : M → N) where
  packets_line : (key : EntityKey) (l : RunLine M) → packets_of key (reline f l) ≡ packets_of key l
  packets_line key (delivers other count packet) = refl
  packets_line key l = refl

  counts_line : (key : EntityKey) (l : RunLine M) → counts_of key (reline f l) ≡ counts_of key l
  counts_line key (delivers other count packet) = refl
  counts_line key l = refl

  whole : (hs : List (Happened M)) → all_lines (map (rehap f) hs) ≡ map (reline f) (all_lines hs)
  whole [] = refl
  whole (h ∷ hs) =
      ap (λ (ls : List (RunLine N)). ls ++ all_lines (map (rehap f) hs)) (its_lines f h.steps)
      ∙ ap (λ (ls : List (RunLine N)). map (reline f) (lines_in h.steps) ++ ls) (whole hs)
      ∙ sym (append_mapped (reline f) (lines_in h.steps) (all_lines hs))

  delivered_same : (key : EntityKey) (hs : List (Happened M)) → Delivered key (map (rehap f) hs) ≡ Delivered key hs
  delivered_same key hs =
      ap (λ (ls : List (RunLine N)). flat_map (packets_of key) ls) (whole hs)
      ∙ flat_mapped (reline f) (packets_of key) (packets_of key) (packets_line key) (all_lines hs)

  counts_same : (key : EntityKey) (hs : List (Happened M)) → Counts key (map (rehap f) hs) ≡ Counts key hs
  counts_same key hs =
      ap (λ (ls : List (RunLine N)). flat_map (counts_of key) ls) (whole hs)
      ∙ flat_mapped (reline f) (counts_of key) (counts_of key) (counts_line key) (all_lines hs)

  offered_same : (key : EntityKey) (hs : List (Happened M)) → Offered key (map (rehap f) hs) ≡ Offered key hs
  offered_same key hs = flat_mapped (rehap f) new old one hs
    where
      new : Happened N → List (List ℕ)
      new h = if list_any is_refusal (lines_in h.steps) then [] else offered_by key h.event

      old : Happened M → List (List ℕ)
      old h = if list_any is_refusal (lines_in h.steps) then [] else offered_by key h.event

      one : (h : Happened M) → new (rehap f h) ≡ old h
      one h = ap (λ (r : Bool). if r then [] else offered_by key h.event) (refused f h.steps)

  -- ---- delivery in order

  pub retold_order : (key : EntityKey) (hs : List (Happened M)) → DeliversInOrder key hs → DeliversInOrder key (map (rehap f) hs)
  retold_order key hs d = record {
    rest = d.rest;
    prefix = ap (λ (xs : List (List ℕ)). xs ++ d.rest) (delivered_same key hs) ∙ d.prefix ∙ sym (offered_same key hs);
    numbered = counts_same key hs ∙ d.numbered ∙ ap (λ (xs : List (List ℕ)). range_with_len 0 (length xs)) (sym (delivered_same key hs));
  }

  -- ---- COUNTs

  module _ (L R : Lengths) (same : (ue : UeId) → L ue ≡ R ue) where
    shows : (offered : List (List ℕ)) (link : Link) (item : Item) (count : Option ℕ) → ShowsOffered L offered link item count
        → ShowsOffered R offered link item count
    shows offered link item None h = tt
    shows offered link item (Some count) h = λ packet carries. h packet (subst (λ (sn : SnBits). Carries sn link item packet) (sym (same item.ue)) carries)

    shown_there : (past : List (Happened M)) (link : Link) (item : Item) → ShowsOffered L (Offered (item_key item) past) link item item.count
        → ShowsOffered R (Offered (item_key item) (map (rehap f) past)) link item item.count
    shown_there past link item h =
        subst (λ (offered : List (List ℕ)). ShowsOffered R offered link item item.count) (sym (offered_same (item_key item) past))
        (shows (Offered (item_key item) past) link item item.count h)

    place_line : (past : List (Happened M)) (l : RunLine M) → IsPlaceLine L past l → IsPlaceLine R (map (rehap f) past) (reline f l)
    place_line past (put_item link item) h = shown_there past link item h
    place_line past (got_item link item) h = shown_there past link item h
    place_line past (delivers key count packet) h =
        subst (λ (offered : List (List ℕ)). slice_get offered count ≡ Some packet) (sym (offered_same key past)) h
    place_line past l h = tt

    means_from : (past hs : List (Happened M)) → CountMeansFrom L past hs → CountMeansFrom R (map (rehap f) past) (map (rehap f) hs)
    means_from past [] h = tt
    means_from past (e ∷ hs) h =
        subst
        (λ (seen : List (Happened N)). All (IsPlaceLine R seen) (lines_in (map (restep f) e.steps)) × CountMeansFrom R seen (map (rehap f) hs))
        (append_mapped (rehap f) past (e ∷ [])) (
          subst (λ (ls : List (RunLine N)). All (IsPlaceLine R (map (rehap f) (past ++ e ∷ []))) ls) (sym (its_lines f e.steps))
              (all_mapped (IsPlaceLine L (past ++ e ∷ [])) (IsPlaceLine R (map (rehap f) (past ++ e ∷ []))) (reline f)
              (place_line (past ++ e ∷ [])) (lines_in e.steps) h.0),
          means_from (past ++ e ∷ []) hs h.1,
        )

  pub retold_counts : (hs : List (Happened M)) → CountMeans hs → CountMeans (map (rehap f) hs)
  retold_counts hs h = means_from (sn_in hs) (sn_in (map (rehap f) hs)) (lengths f hs) [] hs h
