-- Internal: what is demanded of an information element and of the body of a message before their contents.
use Rattle.std.specs.Prelude.{◌≡◌, List, [], ◌∷◌, ◌&&◌, Some, is_some}
use Rattle.serde_json.specs.Data.{Data, object}
use Rattle.serde_json.specs.Find.{as_object}
use Rattle.serde_json.specs.View.{members_view}
use Rattle.aper_defs.specs.Fields.{Path}
use Rattle.aper_defs.specs.Fields as ways
use Rattle.json_defs.specs.Members.{integer_in, members_in, member_of, id_key, code_key, criticality_key, criticality_in}
use Rattle.json_defs.specs.Readings.{code_of}
use Rattle.json_defs.specs.Demands.{Demand, shape, range, is_within, id_in}
use Rattle.json_read.specs.declared.wholes.heads.ElementHead.{ElementHead}
use Rattle.json_read.specs.declared.wholes.heads.BodyHead.{BodyHead}

abbrev pub element_id_demands : Path → Data → List Demand
element_id_demands p d =
    let id = integer_in (member_of id_key (members_in (as_object d))) in
    shape p (is_some (as_object d) && is_some id) ∷ range p (is_within 65535 id) ∷ []

abbrev pub element_head_demands : Path → Data → List Demand
element_head_demands p d =
    let ms = members_in (as_object d) in
    let id = integer_in (member_of id_key ms) in
    shape p (is_some (as_object d) && is_some id) ∷ range p (is_within 65535 id)
    ∷ shape (ways.element (id_in d) ∷ p) (is_some (criticality_in (member_of criticality_key ms))) ∷ []

abbrev pub body_head_demands : Path → Data → List Demand
body_head_demands p d =
    let ms = members_in (as_object d) in
    let code = integer_in (member_of code_key ms) in
    shape p (is_some (as_object d)) ∷ shape p (is_some code) ∷ range p (is_within 255 code)
    ∷ shape p (is_some (criticality_in (member_of criticality_key ms))) ∷ []

pub record IsElementHead (d : Data) (head : ElementHead) : Type 0 where
  pub is : d ≡ object (members_view head.members.now.entries)
  pub id : head.id ≡ id_in d
  pub criticality : Some head.criticality ≡ criticality_in (member_of criticality_key (members_view head.members.now.entries))

pub record IsBodyHead (d : Data) (head : BodyHead) : Type 0 where
  pub is : d ≡ object (members_view head.members.now.entries)
  pub code : head.code ≡ code_of (members_view head.members.now.entries)
  pub criticality : Some head.criticality ≡ criticality_in (member_of criticality_key (members_view head.members.now.entries))
