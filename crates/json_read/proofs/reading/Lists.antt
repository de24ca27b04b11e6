-- Items of a list, one after the other.
use Rattle.std.proofs.Common.{◌≡◌, ℕ, suc, ◌+◌, ◌<◌, ◌≤◌, List, [], ◌∷◌, ◌++◌, length, drop, get_or, Option, Some, true, Result, Ok, Err, refl, sym, ap, subst, ◌∙◌, arith}
use Rattle.std.proofs.lemmas.List.{drop_all}
use Rattle.asn1_syntax.specs.declared.types.definition.Size.{Size}
use Rattle.serde_json.specs.Data.{Data, array, Items, no_items, item}
use Rattle.serde_json.specs.declared.value.Value as trees
use Rattle.serde_json.specs.View.{view as json, items_view}
use Rattle.aper_defs.specs.Fields.{Path}
use Rattle.aper_defs.specs.Fields as ways
use Rattle.aper_defs.specs.Values as seen
use Rattle.aper_defs.specs.Membership.{is_count_of}
use Rattle.aper_fields.proofs.members.Turns.{item_at}
use Rattle.aper_values.specs.declared.value.Value.{Value}
use Rattle.aper_values.specs.Views.{view}
use Rattle.json_defs.specs.Named.{Named, sequence_of}
use Rattle.json_defs.specs.Members.{item_count}
use Rattle.json_defs.specs.Readings.{values_in, value_of}
use Rattle.json_defs.specs.Demands.{Demand, shape, range, each_demand, demands}
use Rattle.json_fields.specs.declared.simple.refusal.Refusal.{Refusal}
use Rattle.json_fields.specs.simple.Answers.{Tells, Reads}
use Rattle.json_read.specs.wholes.Reads.{ReadsAs}
use Rattle.json_read.proofs.wholes.Demanded.{NoneFails, told_turn, reads_later, reads_turn}
use Rattle.json_read.proofs.wholes.Puts.{values_then, values_more, items_count}

pub reads_other : {X : Type 0} (of : Path → List Demand) (P Q : X → Type 0) (answer : Result X Refusal) → ((x : X) → P x → Q x) → Reads of P answer
    → Reads of Q answer
reads_other of P Q (Ok x) f h = (h.0, f x h.1)
reads_other of P Q (Err refusal) f h = h

-- what is left of a list, from the item with this number on, after what has been made
module _ {S Y : Type 0} (asked : Path → ℕ → Data → List Demand) (tail : Path → List Demand) (P : S → ℕ → Items → Y → Type 0) where
  abbrev pub Left : S → ℕ → Items → Result Y Refusal → Type 0
  Left made i ds answer = Reads (λ p. each_demand (asked p) i ds ++ tail p) (P made i ds) answer

  next : (made more : S) (i j : ℕ) (d : Data) (ds : Items) (answer : Result Y Refusal) → suc i ≡ j → NoneFails (λ p. asked p i d)
      → ((y : Y) → P more j ds y → P made i (item d ds) y) → Left more j ds answer → Left made i (item d ds) answer
  next made more i j d ds answer e none value rest =
      reads_turn (P made i (item d ds)) (λ p. asked p i d) (λ p. each_demand (asked p) (suc i) ds) tail answer none
      (subst (λ (n : ℕ). Reads (λ p. each_demand (asked p) n ds ++ tail p) (P made i (item d ds)) answer) (sym e)
      (reads_other (λ p. each_demand (asked p) j ds ++ tail p) (P more j ds) (P made i (item d ds)) answer value rest))

  module _ (vs : List trees.Value) (i : ℕ) where
    pub turn : (x : trees.Value) (made more : S) (answer : Result Y Refusal) → i < length vs → x ≡ get_or vs i x
        → NoneFails (λ p. asked p i (json x))
        → ((y : Y) → P more (i + 1) (items_view (drop (i + 1) vs)) y → P made i (item (json x) (items_view (drop (i + 1) vs))) y)
        → Left more (i + 1) (items_view (drop (i + 1) vs)) answer → Left made i (items_view (drop i vs)) answer
    turn x made more answer lt is none value rest =
        subst (λ (ws : List trees.Value). Left made i (items_view ws) answer) (sym (item_at vs i x lt is))
        (next made more i (i + 1) (json x) (items_view (drop (i + 1) vs)) answer (omega arith) none value rest)

    pub stop : (x : trees.Value) (made : S) (refusal : Refusal) → i < length vs → x ≡ get_or vs i x → Tells (λ p. asked p i (json x)) refusal
        → Left made i (items_view (drop i vs)) (Err refusal)
    stop x made refusal lt is told =
        subst (λ (ws : List trees.Value). Left made i (items_view ws) (Err refusal)) (sym (item_at vs i x lt is))
        (told_turn (λ p. asked p i (json x)) (λ p. each_demand (asked p) (suc i) (items_view (drop (i + 1) vs))) tail refusal told)

    pub done : (made : S) (answer : Result Y Refusal) → length vs ≤ i → Reads tail (P made i no_items) answer
        → Left made i (items_view (drop i vs)) answer
    done made answer most h =
        subst (λ (ws : List trees.Value). Left made i (items_view ws) answer) (sym (drop_all i vs most)) h

-- ---- members of a SEQUENCE OF
module _ (t : Named) where
  abbrev pub member_asked : Path → ℕ → Data → List Demand
  member_asked p i d = demands (ways.member i ∷ p) t d

  abbrev pub IsList : List seen.Value → ℕ → Items → Value → Type 0
  IsList made i ds v = view v ≡ seen.list (values_then made (values_in (λ d. value_of t d) ds))

  abbrev pub list_tail : Option Size → List trees.Value → Path → List Demand
  list_tail size vs p = range p (is_count_of (Some 16383) size (length vs)) ∷ []

  pub list_more : (made more : List seen.Value) (i j : ℕ) (d : Data) (ds : Items) (v : Value) → more ≡ made ++ value_of t d ∷ []
      → IsList more j ds v → IsList made i (item d ds) v
  list_more made more i j d ds v put h =
      h ∙ ap (λ (ws : List seen.Value). seen.list (values_then ws (values_in (λ e. value_of t e) ds))) put
      ∙ ap seen.list (values_more made (value_of t d) (values_in (λ e. value_of t e) ds))

  pub list_whole : (size : Option Size) (vs : List trees.Value) (answer : Result Value Refusal)
      → Left member_asked (list_tail size vs) IsList [] 0 (items_view vs) answer
      → ReadsAs (λ p. demands p (sequence_of size t) (array (items_view vs))) (value_of (sequence_of size t) (array (items_view vs))) answer
  unfolding demands value_of
  list_whole size vs answer h =
      let e = items_count vs in
      reads_later (λ v. view v ≡ seen.list (values_in (λ d. value_of t d) (items_view vs))) (λ p. shape p true ∷ [])
      (λ p. each_demand (λ i d. demands (ways.member i ∷ p) t d) 0 (items_view vs)
      ++ range p (is_count_of (Some 16383) size (item_count (items_view vs))) ∷ []) answer (λ p. refl)
      (subst (λ (n : ℕ). ReadsAs (λ p. each_demand (λ i d. demands (ways.member i ∷ p) t d) 0 (items_view vs)
      ++ range p (is_count_of (Some 16383) size n) ∷ []) (seen.list (values_in (λ d. value_of t d) (items_view vs))) answer) (sym e) h)
