-- Information elements in their order, one after the other.
use Rattle.std.proofs.Common.{◌≡◌, ℕ, zero, suc, ◌+◌, ◌<◌, ◌≤◌, ◌==◌, List, length, drop, get_or, Bool, true, false, not, ◌&&◌, Some, None, refl, sym, ap, ◌∙◌, arith}
use Rattle.std.specs.Prelude.{nat_lt}
use Rattle.std.proofs.lemmas.List.{drop_all}
use Rattle.aper_defs.specs.Trees.{Slot, slots_left, mandatory_count}
use Rattle.aper_values.specs.declared.value.Element.{Element}
use Rattle.aper_values.specs.declared.value.Value.{Value}
use Rattle.aper_fields.proofs.members.Turns.{item_at}
use Rattle.aper.specs.measuring.Order.{LeavesRows}
use Rattle.json_defs.specs.Demands.{is_next}
use Rattle.proof_json.proofs.values.Holding.{by_cases}
use Rattle.proof_json.proofs.values.Words.{same, is_less, is_not_less}
use Rattle.proof_json.proofs.lawful.Containers.{next_is, is_next_of}
use Rattle.json_fields.specs.parts.Order.{are_ids_in_order, ids_of}

module _ (known : List Slot) (es : List (Element Value)) where
  pub order_turn : (left rest : List Slot) (i : ℕ) (e : Element Value) → i < length es → e ≡ get_or es i e
      → LeavesRows known e.id left (Some rest)
      → are_ids_in_order known rest (ids_of (drop (i + 1) es)) ≡ are_ids_in_order known left (ids_of (drop i es))
  order_turn left rest i e lt is h =
      let others : List ℕ = ids_of (drop (i + 1) es) in
      sym (ap (λ (fs : List (Element Value)). are_ids_in_order known left (ids_of fs)) (item_at es i e lt is)
      ∙ ap (λ (b : Bool). b && are_ids_in_order known (slots_left known e.id left) others) (is_next_of known left e.id h.0)
      ∙ ap (λ (ss : List Slot). are_ids_in_order known ss others) h.1)

  wrong : (left : List Slot) (id : ℕ) → LeavesRows known id left None → (b : Bool) → is_next known left id ≡ b → is_next known left id ≡ false
  wrong left id h true e = absurd (h (next_is known left id e))
  wrong left id h false e = e

  pub order_wrong : (left : List Slot) (i : ℕ) (e : Element Value) → i < length es → e ≡ get_or es i e → LeavesRows known e.id left None
      → false ≡ are_ids_in_order known left (ids_of (drop i es))
  order_wrong left i e lt is h =
      sym (ap (λ (fs : List (Element Value)). are_ids_in_order known left (ids_of fs)) (item_at es i e lt is)
      ∙ ap (λ (b : Bool). b && are_ids_in_order known (slots_left known e.id left) (ids_of (drop (i + 1) es))) (wrong left e.id h _ refl))

  positive : (n : ℕ) → (n == 0) ≡ false → 0 < n
  positive zero h = cc
  positive (suc n) h = omega arith

  none_left : (n : ℕ) → not (nat_lt 0 n) ≡ (n == 0)
  none_left n =
      by_cases (n == 0) (λ b. not (nat_lt 0 n) ≡ b) (λ e. ap not (is_not_less 0 n (let f = same n 0 e in omega (arith, f))))
      (λ e. ap not (is_less 0 n (positive n e)))

  pub order_end : (left : List Slot) (i : ℕ) (more : Bool) → length es ≤ i → more ≡ nat_lt 0 (mandatory_count left)
      → not more ≡ are_ids_in_order known left (ids_of (drop i es))
  order_end left i more most e =
      ap not e
      ∙ none_left (mandatory_count left)
      ∙ sym (ap (λ (fs : List (Element Value)). are_ids_in_order known left (ids_of fs)) (drop_all i es most))
