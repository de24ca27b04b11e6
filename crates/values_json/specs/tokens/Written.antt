-- What a tree whose numbers are integers of 64 bits adds to a `json::Writer`.
use Rattle.std.specs.Prelude.{◌≡◌, List, ◌++◌}
use Rattle.json.specs.Token.{Token}
use Rattle.json.specs.Tree.{json_tokens, items_tokens, members_tokens}
use Rattle.json.specs.Written.{Written}
use Rattle.serde_json.specs.Data.{Data, Items, Members}
use Rattle.serde_json.specs.Written.{outline, items_outline, members_outline}
use Rattle.values_json.specs.tokens.Whole.{IsWhole, AreWhole, AreMembersWhole}

-- the tokens of the tree, an integer's text in decimal
abbrev pub tokens_of : Data → List Token
tokens_of d = json_tokens (outline d)

-- those of the items that are left in an array, with its end
abbrev pub tokens_of_items : Items → List Token
tokens_of_items ds = items_tokens (items_outline ds)

-- those of the members that are left in an object, with its end
abbrev pub tokens_of_members : Members → List Token
tokens_of_members ms = members_tokens (members_outline ms)

-- what the writer held stays, and these tokens come after it
abbrev pub Adds : List Token → Written → Written → Type 0
Adds ts old new = (new.before ≡ old.before) × (new.tokens ≡ old.tokens ++ ts)

-- the tree's tokens are added, and its numbers are integers
abbrev pub WritesWhole : Data → Written → Written → Type 0
WritesWhole d old new = Adds (tokens_of d) old new × IsWhole d
