use Rattle.std.proofs.Common.{◌≡◌, [], ◌∷◌}
use Rattle.serde_json.specs.View.{members_view}
use Rattle.json_defs.specs.Members.{are_keys_among, criticality_key}
use Rattle.json_fields.proofs.members.members.are_body_keys.Given as goal

abbrev pub invariant-loop-name : goal.invariant-loop-name
invariant-loop-name l = are_keys_among (l.contents ∷ criticality_key ∷ l.number ∷ []) (members_view l.name-iterator)
    ≡ are_keys_among (l.contents ∷ criticality_key ∷ l.number ∷ []) (members_view l.members.entries)
