-- The object of an information element or of a message: its beginning, and its whole by what stands before its contents.
use Rattle.std.proofs.Common.{◌≡◌, ℕ, List, [], ◌∷◌, ◌++◌, Bool, true, false, decimal, refl, append_assoc}
use Rattle.json.specs.Token as json
use Rattle.json.specs.Token.{Token}
use Rattle.serde_json.specs.Data.{Data}
use Rattle.json_defs.specs.Members.{Text, criticality_key, criticalities}
use Rattle.json_defs.specs.shown_defs.Printed.{name_at, body_shown}
use Rattle.values_json.specs.tokens.Written.{tokens_of}
use Rattle.values_json.specs.pieces.Bodies.{contents_key, contents_as, body_begins}

pub body_begun : (key : Text) (n criticality : ℕ) (known : Bool) (a b c d e f g : List Token) → b ≡ a ++ json.begin_object ∷ []
    → c ≡ b ++ json.key criticality_key ∷ [] → d ≡ c ++ json.string (name_at criticalities criticality) ∷ [] → e ≡ d ++ json.key key ∷ []
    → f ≡ e ++ json.number (decimal n) ∷ [] → g ≡ f ++ json.key (contents_key known) ∷ [] → g ≡ a ++ body_begins key n criticality known
body_begun key n criticality known a b c d e f g begun first named second number third =
    rw (third, number, second, named, first, begun) (simp append_assoc)

pub body_tokens : (key : Text) (n criticality : ℕ) (known : Bool) (d : Data)
    → tokens_of (body_shown key n criticality (contents_as known d)) ≡ body_begins key n criticality known ++ (tokens_of d ++ json.end_object ∷ [])
body_tokens key n criticality true d = refl
body_tokens key n criticality false d = refl
