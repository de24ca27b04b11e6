-- Additions of a SEQUENCE, one after the other.
use Rattle.std.proofs.Common.{◌≡◌, ℕ, zero, suc, ◌+◌, List, [], ◌∷◌, ◌++◌, length, get_or, drop, map, Bool, true, false, cond, ◌&&◌, Option, Some, None, Result, Ok, Err, refl, sym, ap, ◌∙◌}
use Rattle.std.specs.Prelude.{slice_get, nat_le, nat_lt, IfOk}
use Rattle.std.proofs.lemmas.Option.{slice_get_read, slice_get_past}
use Rattle.serde_json.specs.Data.{Data, null, boolean, number, string, array, object, Items, no_items, item}
use Rattle.asn1_syntax.specs.declared.types.definition.Component.{Component}
use Rattle.aper_defs.specs.Fields.{Path}
use Rattle.aper_defs.specs.Fields as ways
use Rattle.aper_defs.specs.Values as seen
use Rattle.aper_frames.specs.declared.path.Step.{Step}
use Rattle.aper_frames.specs.Paths.{step_view}
use Rattle.aper_values.specs.declared.value.Value.{Value}
use Rattle.aper_values.specs.Views.{view, options_view}
use Rattle.json_defs.specs.declared.fault.JsonFault.{JsonFault}
use Rattle.json_defs.specs.Named.{Named}
use Rattle.json_defs.specs.Members.{is_null, item_count}
use Rattle.json_defs.specs.Readings.{raw_in, present_if, unless_null, first_of, added_in, value_of}
use Rattle.json_defs.specs.Demands.{Demand, first_fault, shape, range, fits_open, raw_demands, each_demand, any_told, demands, each_added, open_demands}
use Rattle.json_defs.specs.type_defs.Types.{parts_with}
use Rattle.proof_json.proofs.values.Words.{below, not_below}
use Rattle.json_fields.specs.declared.simple.refusal.Refusal.{Refusal}
use Rattle.json_fields.specs.declared.simple.refusal.Refusal.TheVariants.{Fault, Memory}
use Rattle.json_fields.specs.simple.Answers.{Tells}
use Rattle.json_read.specs.declared.wholes.wholes.Additions.{Additions}
use Rattle.json_read.specs.wholes.Reads.{ReadsAs, ReadsAdditions, unfit_at}
use Rattle.json_read.proofs.wholes.Demanded.{NoneFails, both_faults, reads_later}
use Rattle.json_read.proofs.wholes.Puts.{options_then, option_more}
use Rattle.json_read.specs.reading.Inside.{listed, opened, added}
use Rattle.json_read.proofs.reading.Lists.{Left}

first_of_three : {X : Type 0} (a b c : Option X) → first_of (first_of a b) c ≡ first_of a (first_of b c)
first_of_three None b c = refl
first_of_three (Some x) b c = refl

pub part_at : (cs : List Component) (i : ℕ) (c : Component) → true ≡ nat_lt i (length cs) → c ≡ get_or cs i c → slice_get cs i ≡ Some c
part_at cs i c lt is = slice_get_read cs (length cs) i c refl (below i (length cs) (sym lt)) is

pub no_part_at : (cs : List Component) (i : ℕ) → false ≡ nat_lt i (length cs) → slice_get cs i ≡ None
no_part_at cs i ge = slice_get_past cs i (not_below i (length cs) (sym ge))

-- a demand of which a refusal is told
abbrev pub told_by : Refusal → Path → List Demand
told_by (Fault fault path) p = record { path = map step_view path.items ++ p; fault = fault; holds = false } ∷ []
told_by Memory p = shape p false ∷ []

pub tells_told : (refusal : Refusal) → Tells (told_by refusal) refusal
tells_told (Fault fault path) = λ p. refl
tells_told Memory = tt

pub some_told : (refusal : Refusal) (p : Path) → first_fault (told_by refusal p) ≡ None → ⊥
some_told (Fault fault path) p h = cc
some_told Memory p h = cc

-- whether an open type holds what was asked for, where it was put
pub fitting : (t : Named) (d : Data) (q : Path) (b : Bool) (asked : Result Value Refusal) (way : Path → Path)
    → ReadsAs (λ p. demands p t d) (value_of t d) asked → IfOk asked (λ v. view v ≡ value_of t d → b ≡ fits_open q t d)
    → ((of : Path → List Demand) (v : seen.Value) → ReadsAs of v asked → NoneFails (λ p. of (way p))) → b ≡ fits_open q t d
fitting t d q b (Ok v) way read h put = h read.1
fitting t d q b (Err refusal) way read h put =
    absurd (some_told refusal (way []) (put (told_by refusal) (value_of t d) (tells_told refusal) []))

module _ (of : ℕ → Named) where
  -- ---- one addition, of a part or past them
  abbrev pub one_asked : Option Component → Path → Data → List Demand
  one_asked None p d = cond (is_null d) [] (raw_demands p d)
  one_asked (Some c) p d = cond (is_null d) [] (demands (ways.component c.name ∷ p) (of c.definition.number) d)

  abbrev pub one_read : Option Component → Data → Option seen.Value
  one_read None d = unless_null raw_in d
  one_read (Some c) d = unless_null (λ e. value_of (of c.definition.number) e) d

  abbrev pub one_opened : Option Component → Path → Data → List Demand
  one_opened None p d = []
  one_opened (Some c) p d =
      cond (is_null d) [] (range (ways.component c.name ∷ p) (fits_open (ways.component c.name ∷ p) (of c.definition.number) d) ∷ [])

  added_step : (cs : List Component) (i : ℕ) (p : Path) (d : Data) (ds : Items)
      → each_added p (parts_with of (drop i cs)) (item d ds)
      ≡ one_asked (slice_get cs i) p d ++ each_added p (parts_with of (drop (suc i) cs)) ds
  unfolding each_added
  added_step [] zero p d ds = refl
  added_step [] (suc i) p d ds = refl
  added_step (c ∷ cs) zero p d ds = refl
  added_step (c ∷ cs) (suc i) p d ds = added_step cs i p d ds

  opened_step : (cs : List Component) (i : ℕ) (p : Path) (d : Data) (ds : Items)
      → open_demands p (parts_with of (drop i cs)) (item d ds)
      ≡ one_opened (slice_get cs i) p d ++ open_demands p (parts_with of (drop (suc i) cs)) ds
  unfolding open_demands
  opened_step [] zero p d ds = refl
  opened_step [] (suc i) p d ds = refl
  opened_step (c ∷ cs) zero p d ds = refl
  opened_step (c ∷ cs) (suc i) p d ds = opened_step cs i p d ds

  raw_step : (d : Data) (ds : Items) → added_in (parts_with of []) (item d ds) ≡ present_if (unless_null raw_in d) (added_in (parts_with of []) ds)
  unfolding added_in
  raw_step null ds = refl
  raw_step (boolean b) ds = refl
  raw_step (number n) ds = refl
  raw_step (string s) ds = refl
  raw_step (array es) ds = refl
  raw_step (object ms) ds = refl

  read_step : (cs : List Component) (i : ℕ) (d : Data) (ds : Items)
      → added_in (parts_with of (drop i cs)) (item d ds)
      ≡ present_if (one_read (slice_get cs i) d) (added_in (parts_with of (drop (suc i) cs)) ds)
  unfolding added_in
  read_step [] zero d ds = raw_step d ds
  read_step [] (suc i) d ds = raw_step d ds
  read_step (c ∷ cs) zero d ds = refl
  read_step (c ∷ cs) (suc i) d ds = read_step cs i d ds

  added_none : (cs : List Component) (p : Path) → each_added p (parts_with of cs) no_items ≡ []
  unfolding each_added
  added_none [] p = refl
  added_none (c ∷ cs) p = refl

  opened_none : (cs : List Component) (p : Path) → open_demands p (parts_with of cs) no_items ≡ []
  unfolding open_demands
  opened_none [] p = refl
  opened_none (c ∷ cs) p = refl

  read_none : (cs : List Component) → added_in (parts_with of cs) no_items ≡ seen.no_options
  unfolding added_in
  read_none [] = refl
  read_none (c ∷ cs) = refl

  -- ---- null stands for an addition that isn't there
  pub null_asked : (o : Option Component) (p : Path) (d : Data) → is_null d ≡ true → first_fault (one_asked o p d) ≡ None
  null_asked None p d h = ap (λ (b : Bool). first_fault (cond b [] (raw_demands p d))) h
  null_asked (Some c) p d h =
      ap (λ (b : Bool). first_fault (cond b [] (demands (ways.component c.name ∷ p) (of c.definition.number) d))) h

  pub null_opened : (o : Option Component) (p : Path) (d : Data) → is_null d ≡ true → first_fault (one_opened o p d) ≡ None
  null_opened None p d h = refl
  null_opened (Some c) p d h =
      ap (λ (b : Bool). first_fault (cond b [] (range (ways.component c.name ∷ p) (fits_open (ways.component c.name ∷ p) (of c.definition.number) d) ∷ []))) h

  pub null_read : (o : Option Component) (d : Data) → is_null d ≡ true → one_read o d ≡ None
  null_read None null h = refl
  null_read (Some c) null h = refl
  null_read o (boolean b) h = cc
  null_read o (number n) h = cc
  null_read o (string s) h = cc
  null_read o (array ds) h = cc
  null_read o (object ms) h = cc

  pub some_read : (read : Data → seen.Value) (d : Data) → is_null d ≡ false → unless_null read d ≡ Some (read d)
  some_read read null h = cc
  some_read read (boolean b) h = refl
  some_read read (number n) h = refl
  some_read read (string s) h = refl
  some_read read (array ds) h = refl
  some_read read (object ms) h = refl

  -- ---- one that is there
  module _ (p : Path) (d : Data) (some : is_null d ≡ false) where
    pub raw_asked : one_asked None p d ≡ raw_demands p d
    raw_asked = ap (λ (b : Bool). cond b [] (raw_demands p d)) some

    pub part_asked : (c : Component) → one_asked (Some c) p d ≡ demands (ways.component c.name ∷ p) (of c.definition.number) d
    part_asked c = ap (λ (b : Bool). cond b [] (demands (ways.component c.name ∷ p) (of c.definition.number) d)) some

    pub part_opened : (c : Component) → one_opened (Some c) p d
        ≡ range (ways.component c.name ∷ p) (fits_open (ways.component c.name ∷ p) (of c.definition.number) d) ∷ []
    part_opened c =
        ap (λ (b : Bool). cond b [] (range (ways.component c.name ∷ p) (fits_open (ways.component c.name ∷ p) (of c.definition.number) d) ∷ [])) some

  module _ (cs : List Component) where
    -- ---- all of them
    abbrev pub addition_asked : Path → ℕ → Data → List Demand
    addition_asked p i d = one_asked (slice_get cs i) p d

    abbrev pub additions_tail : Items → Path → List Demand
    additions_tail ds p = range p (nat_le 1 (item_count ds) && nat_le (item_count ds) 64 && any_told ds) ∷ []

    pub each_is : (p : Path) (i : ℕ) (ds : Items) → each_added p (parts_with of (drop i cs)) ds ≡ each_demand (addition_asked p) i ds
    each_is p i no_items = added_none (drop i cs) p
    each_is p i (item d ds) =
        added_step cs i p d ds ∙ ap (λ (es : List Demand). one_asked (slice_get cs i) p d ++ es) (each_is p (suc i) ds)

    -- what was made, and the first of it that no open type holds
    pub record Made : Type 0 where
      pub values : List (Option seen.Value)
      pub unfit : Option Step

    pub record AreAdditions (made : Made) (i : ℕ) (ds : Items) (a : Additions) : Type 0 where
      pub values : options_view a.values.items ≡ options_then made.values (added_in (parts_with of (drop i cs)) ds)
      pub unfit : (p : Path) → first_of (unfit_at p made.unfit) (first_fault (open_demands p (parts_with of (drop i cs)) ds)) ≡ unfit_at p a.unfit

    pub more_additions : (made more : Made) (i j : ℕ) (d : Data) (ds : Items) (a : Additions) → suc i ≡ j
        → more.values ≡ made.values ++ one_read (slice_get cs i) d ∷ []
        → ((p : Path) → unfit_at p more.unfit ≡ first_of (unfit_at p made.unfit) (first_fault (one_opened (slice_get cs i) p d)))
        → AreAdditions more j ds a → AreAdditions made i (item d ds) a
    more_additions made more i j d ds a e put first h = record {
      values =
          h.values
          ∙ ap (λ (n : ℕ). options_then more.values (added_in (parts_with of (drop n cs)) ds)) (sym e)
          ∙ ap (λ (ws : List (Option seen.Value)). options_then ws (added_in (parts_with of (drop (suc i) cs)) ds)) put
          ∙ option_more made.values (one_read (slice_get cs i) d) (added_in (parts_with of (drop (suc i) cs)) ds)
          ∙ ap (options_then made.values) (sym (read_step cs i d ds));
      unfit =
          λ p. ap (λ (os : List Demand). first_of (unfit_at p made.unfit) (first_fault os)) (opened_step cs i p d ds)
          ∙ ap (first_of (unfit_at p made.unfit)) (both_faults (one_opened (slice_get cs i) p d) (open_demands p (parts_with of (drop (suc i) cs)) ds))
          ∙ sym (first_of_three (unfit_at p made.unfit) (first_fault (one_opened (slice_get cs i) p d))
          (first_fault (open_demands p (parts_with of (drop (suc i) cs)) ds)))
          ∙ ap (λ (o : Option (JsonFault × Path)). first_of o (first_fault (open_demands p (parts_with of (drop (suc i) cs)) ds))) (sym (first p))
          ∙ ap (λ (n : ℕ). first_of (unfit_at p more.unfit) (first_fault (open_demands p (parts_with of (drop n cs)) ds))) e
          ∙ h.unfit p;
    }

    pub none_last : {X : Type 0} (o : Option X) → first_of o None ≡ o
    none_last None = refl
    none_last (Some x) = refl

    pub all_additions : (made : Made) (i : ℕ) (a : Additions) → options_view a.values.items ≡ options_then made.values seen.no_options
        → a.unfit ≡ made.unfit → AreAdditions made i no_items a
    all_additions made i a h e = record {
      values = h ∙ ap (options_then made.values) (sym (read_none (drop i cs)));
      unfit =
          λ p. ap (λ (os : List Demand). first_of (unfit_at p made.unfit) (first_fault os)) (opened_none (drop i cs) p)
          ∙ none_last (unfit_at p made.unfit)
          ∙ ap (unfit_at p) (sym e);
    }

    pub additions_whole : (ds : Items) (answer : Result Additions Refusal)
        → Left addition_asked (additions_tail ds) AreAdditions (record { values = []; unfit = None }) 0 ds answer
        → ReadsAdditions (λ p. listed of cs (array ds) p) (λ p. opened of cs (array ds) p) (added of cs (array ds)) answer
    additions_whole ds answer h =
        reads_later _ (λ p. shape p true ∷ []) (λ p. each_added p (parts_with of cs) ds ++ additions_tail ds p) answer (λ p. refl)
        (by_answer answer h)
      where
        by_answer : (r : Result Additions Refusal)
            → Left addition_asked (additions_tail ds) AreAdditions (record { values = []; unfit = None }) 0 ds r
            → ReadsAdditions (λ p. each_added p (parts_with of cs) ds ++ additions_tail ds p) (λ p. opened of cs (array ds) p) (added of cs (array ds)) r
        by_answer (Ok a) k = (
          λ p. ap (λ (es : List Demand). first_fault (es ++ additions_tail ds p)) (each_is p 0 ds) ∙ k.0 p,
          (k.1.values, λ p. k.1.unfit p),
        )
        by_answer (Err (Fault fault path)) k =
            λ p. ap (λ (es : List Demand). first_fault (es ++ additions_tail ds p)) (each_is p 0 ds) ∙ k p
        by_answer (Err Memory) k = tt
