use Rattle.std.proofs.Common.{◌≡◌, ◌+◌, ◌*◌, ◌++◌, [], Result, None, drop, map, option_map}
use Rattle.serde_json.specs.View.{view as json, items_view, members_view}
use Rattle.aper_values.specs.declared.value.Value.{Value}
use Rattle.aper_values.specs.Views.{view, element_view}
use Rattle.json_fields.specs.declared.simple.refusal.Refusal.{Refusal}
use Rattle.json_defs.specs.type_defs.Types.{named}
use Rattle.json_read.specs.declared.wholes.wholes.Additions.{Additions}
use Rattle.json_read.proofs.reading.Weights.{weight, members_weight}
use Rattle.json_read.proofs.reading.Lists.{Left, member_asked, list_tail, IsList}
use Rattle.json_read.proofs.reading.Components.{OptValues, ComponentsLeft}
use Rattle.json_read.proofs.reading.Additions.{addition_asked, additions_tail, AreAdditions, Made}
use Rattle.json_read.proofs.reading.Elements.{element_asked, container_tail, IsContainer, seen_ids, ids_in}
use Rattle.json_read.proofs.json_reading.values.+read.Given as goal

abbrev pub decreases-value_in : goal.decreases-value_in
decreases-value_in l = 4 * weight (json l.d.now) + 3

abbrev pub decreases-form_in : goal.decreases-form_in
decreases-form_in l = 4 * weight (json l.d.now) + 2

abbrev pub decreases-sequence_in : goal.decreases-sequence_in
decreases-sequence_in l = 4 * weight (json l.d.now) + 1

abbrev pub decreases-choice_in : goal.decreases-choice_in
decreases-choice_in l = 4 * weight (json l.d.now) + 1

abbrev pub decreases-list_in : goal.decreases-list_in
decreases-list_in l = 4 * weight (json l.d.now) + 1

abbrev pub decreases-container_in : goal.decreases-container_in
decreases-container_in l = 4 * weight (json l.d.now) + 1

abbrev pub decreases-message_in : goal.decreases-message_in
decreases-message_in l = 4 * weight (json l.d.now) + 1

abbrev pub decreases-additions_in : goal.decreases-additions_in
decreases-additions_in l = 4 * weight (json l.d.now)

abbrev pub decreases-components_in : goal.decreases-components_in
decreases-components_in l = 4 * members_weight (members_view l.members.now.entries) + 4

abbrev pub decreases-contents_in : goal.decreases-contents_in
decreases-contents_in l = 4 * members_weight (members_view l.members.now.entries) + 4

abbrev pub invariant-components_in-loop-part : goal.invariant-components_in-loop-part
invariant-components_in-loop-part l = (answer : Result OptValues Refusal)
    → ComponentsLeft (named l.m) (members_view l.members.entries) (map (option_map view) l.values.items) (drop l.part-index l.parts) answer
    → ComponentsLeft (named l.m) (members_view l.members.entries) [] l.parts answer

abbrev pub invariant-additions_in-loop-i : goal.invariant-additions_in-loop-i
invariant-additions_in-loop-i l = (answer : Result Additions Refusal)
    → Left (addition_asked (named l.m) l.parts) (additions_tail (named l.m) l.parts (items_view l.items)) (AreAdditions (named l.m) l.parts)
    (record { values = map (option_map view) l.values.items; unfit = l.unfit }) l.i (items_view (drop l.i l.items)) answer
    → Left (addition_asked (named l.m) l.parts) (additions_tail (named l.m) l.parts (items_view l.items)) (AreAdditions (named l.m) l.parts)
    (record { values = []; unfit = None }) 0 (items_view l.items) answer

abbrev pub invariant-list_in-loop-i : goal.invariant-list_in-loop-i
invariant-list_in-loop-i l = (answer : Result Value Refusal)
    → Left (member_asked (named l.m l.element.number)) (list_tail (named l.m l.element.number) l.size l.items) (IsList (named l.m l.element.number))
    (map view l.values.items) l.i (items_view (drop l.i l.items)) answer
    → Left (member_asked (named l.m l.element.number)) (list_tail (named l.m l.element.number) l.size l.items) (IsList (named l.m l.element.number))
    [] 0 (items_view l.items) answer

abbrev pub invariant-container_in-loop-item : goal.invariant-container_in-loop-item
invariant-container_in-loop-item l = ((answer : Result Value Refusal)
    → Left (element_asked (named l.m) l.rows) (container_tail (named l.m) l.rows (items_view l.items)) (IsContainer (named l.m) l.rows)
    (map element_view l.ies.items) l.item-index (items_view (drop l.item-index l.items)) answer
    → Left (element_asked (named l.m) l.rows) (container_tail (named l.m) l.rows (items_view l.items)) (IsContainer (named l.m) l.rows)
    [] 0 (items_view l.items) answer)
    × (seen_ids (named l.m) l.rows (map element_view l.ies.items) ++ ids_in (named l.m) l.rows (items_view (drop l.item-index l.items))
    ≡ ids_in (named l.m) l.rows (items_view l.items))
