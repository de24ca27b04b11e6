-- The tree that is read from the text of a tree.
use Rattle.std.proofs.Common.{◌≡◌, ◌≤◌, ℕ, suc, negsuc, List, [], ◌++◌, Less, Greater, Some, max, option_map, option_and_then, refl, sym, ap, ap₂, ◌∙◌, subst, append-nil}
use Rattle.std.specs.Ordering.{nat_cmp, ordering_reverse}
use Rattle.std.specs.Cmp.Lexicographic.{slice_cmp}
use Rattle.std.specs.Fmt.{signed_decimal}
use Rattle.std.proofs.lemmas.Cmp.{nat_list_cmp_total}
use Rattle.json.specs.Json as json
use Rattle.json.specs.Lex.{tokens}
use Rattle.json.specs.Print.{IsNumber}
use Rattle.json.specs.Tree as tree
use Rattle.json.proofs.Printed.Decimals.{IsNumber-decimal, IsNumber-signed_decimal}
use Rattle.json.proofs.Printed.Tokens.{tokens-print}
use Rattle.json.proofs.Printed.Trees.{value-json_tokens, ArePrintable-json_tokens}
use Rattle.serde_json.specs.Data.{Num, unsigned, negative, float, Data, null, boolean, number, string, array, object, Items, no_items, item, Members, no_members, member, put, depth, items_depth, members_depth}
use Rattle.serde_json.specs.Read.{number_of, of_json, of_items, of_members, max_depth, read}
use Rattle.serde_json.specs.Written.{number_text, outline, items_outline, members_outline, compact_text}
use Rattle.serde_json.proofs.Numbers.{number_of-decimal, number_of-negative}
use Rattle.serde_json.proofs.Texts.{print-outline}
use Rattle.json_defs.specs.shown_defs.Order.{IsBefore, IsOrdered, AreOrdered, AreMembersOrdered}
use Rattle.values_json.specs.tokens.Whole.{IsInteger, IsWhole, AreWhole, AreMembersWhole}

-- ---- the grammar reads the text as the outline
integer_is_number : (n : Num) → IsInteger n → IsNumber (number_text n)
integer_is_number (unsigned n) h = IsNumber-decimal n h
integer_is_number (negative z) h = subst (λ y. IsNumber (signed_decimal y)) (sym h.1) (IsNumber-signed_decimal (negsuc h.0) h.2)
integer_is_number (float x) h = elim h [ ]

mutual
  numbers : (d : Data) → IsWhole d → tree.HasNumbers (outline d)
  numbers null h = tt
  numbers (boolean b) h = tt
  numbers (number n) h = integer_is_number n h
  numbers (string s) h = tt
  numbers (array ds) h = items_numbers ds h
  numbers (object ms) h = members_numbers ms h

  items_numbers : (ds : Items) → AreWhole ds → tree.ItemsHaveNumbers (items_outline ds)
  items_numbers no_items h = tt
  items_numbers (item d ds) h = (numbers d h.0, items_numbers ds h.1)

  members_numbers : (ms : Members) → AreMembersWhole ms → tree.MembersHaveNumbers (members_outline ms)
  members_numbers no_members h = tt
  members_numbers (member k d ms) h = (numbers d h.0, members_numbers ms h.1)

mutual
  outline_depth : (d : Data) → tree.depth (outline d) ≡ depth d
  outline_depth null = refl
  outline_depth (boolean b) = refl
  outline_depth (number n) = refl
  outline_depth (string s) = refl
  outline_depth (array ds) = ap (λ n. suc n) (items_outline_depth ds)
  outline_depth (object ms) = ap (λ n. suc n) (members_outline_depth ms)

  items_outline_depth : (ds : Items) → tree.items_depth (items_outline ds) ≡ items_depth ds
  items_outline_depth no_items = refl
  items_outline_depth (item d ds) = ap₂ (λ m n. max m n) (outline_depth d) (items_outline_depth ds)

  members_outline_depth : (ms : Members) → tree.members_depth (members_outline ms) ≡ members_depth ms
  members_outline_depth no_members = refl
  members_outline_depth (member k d ms) = ap₂ (λ m n. max m n) (outline_depth d) (members_outline_depth ms)

reads_outline : (d : Data) → IsWhole d → depth d ≤ max_depth → json.value max_depth (tokens (compact_text d)) ≡ Some (outline d, [])
reads_outline d whole shallow =
    let same : tokens (compact_text d) ≡ tree.json_tokens (outline d) ++ [] =
    ap tokens (sym (print-outline d)) ∙ tokens-print (tree.json_tokens (outline d)) (ArePrintable-json_tokens (outline d) (numbers d whole))
    ∙ sym (append-nil (tree.json_tokens (outline d))) in
    ap (json.value max_depth) same
    ∙ value-json_tokens (outline d) max_depth [] (subst (λ n. n ≤ max_depth) (sym (outline_depth d)) shallow)

-- ---- the outline is of the tree: members in order go each after the others
abbrev followed : Members → Members → Members
followed no_members ms = ms
followed (member l e es) ms = member l e (followed es ms)

followed_by_none : (ms : Members) → followed ms no_members ≡ ms
followed_by_none no_members = refl
followed_by_none (member k d ms) = ap (member k d) (followed_by_none ms)

followed_by_two : (found : Members) (k : List ℕ) (d : Data) (ms : Members)
    → followed (followed found (member k d no_members)) ms ≡ followed found (member k d ms)
followed_by_two no_members k d ms = refl
followed_by_two (member l e es) k d ms = ap (member l e) (followed_by_two es k d ms)

-- each key of these is before the key
abbrev AreBefore : Members → List ℕ → Type 0
AreBefore no_members k = Unit {0}
AreBefore (member l e es) k = (slice_cmp nat_cmp l k ≡ Less) × AreBefore es k

-- each key of the first is before the first key of the second
abbrev ComeBefore : Members → Members → Type 0
ComeBefore found no_members = Unit {0}
ComeBefore found (member k d ms) = AreBefore found k

none_before : (ms : Members) → ComeBefore no_members ms
none_before no_members = tt
none_before (member k d ms) = tt

put_last : (found : Members) (k : List ℕ) (d : Data) → AreBefore found k → put k d found ≡ followed found (member k d no_members)
put_last no_members k d h = refl
put_last (member l e es) k d h =
    let above : slice_cmp nat_cmp k l ≡ Greater = nat_list_cmp_total.antisymm k l ∙ ap ordering_reverse h.0 in
    rw above (ap (member l e) (put_last es k d h.1))

still_before : (found : Members) (k l : List ℕ) (d : Data) → AreBefore found k → slice_cmp nat_cmp k l ≡ Less
    → AreBefore (followed found (member k d no_members)) l
still_before no_members k l d h next = (next, tt)
still_before (member j e es) k l d h next = (nat_list_cmp_total.trans j k l h.0 next, still_before es k l d h.1 next)

come_before : (found : Members) (k : List ℕ) (d : Data) (ms : Members) → AreBefore found k → IsBefore k ms
    → ComeBefore (followed found (member k d no_members)) ms
come_before found k d no_members h next = tt
come_before found k d (member l e ms) h next = still_before found k l d h next

integer_again : (n : Num) → IsInteger n → number_of (number_text n) ≡ Some n
integer_again (unsigned n) h = number_of-decimal n h
integer_again (negative z) h = subst (λ y. number_of (signed_decimal y) ≡ Some (negative y)) (sym h.1) (number_of-negative h.0 h.2)
integer_again (float x) h = elim h [ ]

mutual
  value_again : (d : Data) → IsOrdered d → IsWhole d → of_json (outline d) ≡ Some d
  value_again null ordered whole = refl
  value_again (boolean b) ordered whole = refl
  value_again (number n) ordered whole = ap (option_map number) (integer_again n whole)
  value_again (string s) ordered whole = refl
  value_again (array ds) ordered whole = ap (option_map array) (items_again ds ordered whole)
  value_again (object ms) ordered whole = ap (option_map object) (members_again ms no_members (none_before ms) ordered whole)

  items_again : (ds : Items) → AreOrdered ds → AreWhole ds → of_items (items_outline ds) ≡ Some ds
  items_again no_items ordered whole = refl
  items_again (item d ds) ordered whole =
      ap (option_and_then (λ e. option_map (item e) (of_items (items_outline ds)))) (value_again d ordered.0 whole.0)
      ∙ ap (option_map (item d)) (items_again ds ordered.1 whole.1)

  members_again : (ms found : Members) → ComeBefore found ms → AreMembersOrdered ms → AreMembersWhole ms
      → of_members (members_outline ms) found ≡ Some (followed found ms)
  members_again no_members found before ordered whole = ap Some (sym (followed_by_none found))
  members_again (member k d ms) found before ordered whole =
      let more : Members = followed found (member k d no_members) in
      ap (option_and_then (λ e. of_members (members_outline ms) (put k e found))) (value_again d ordered.1 whole.0)
      ∙ ap (of_members (members_outline ms)) (put_last found k d before)
      ∙ members_again ms more (come_before found k d ms before ordered.0) ordered.2 whole.1
      ∙ ap Some (followed_by_two found k d ms)

pub reads_again : (d : Data) → IsOrdered d → IsWhole d → depth d ≤ max_depth → read (compact_text d) ≡ Some d
reads_again d ordered whole shallow =
    ap (λ o. option_and_then of_json (option_and_then (λ p. json.if_last p.0 p.1) o)) (reads_outline d whole shallow)
    ∙ value_again d ordered whole
