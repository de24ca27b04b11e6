-- Values, whatever their type.
use Rattle.std.specs.Prelude.{ℕ, suc, List, [], ◌∷◌, ◌++◌, Bool, true, false, ℤ}

mutual
  pub data Value : Type 0 where
    truth : (b : Bool) → Value
    number : (n : ℤ) → Value
    -- the place among the names, then among the additions
    enumeral : (index : ℕ) → Value
    bits : (bs : List Bool) → Value
    octets : (os : List ℕ) → Value
    text : (characters : List ℕ) → Value
    -- a SEQUENCE: its components, and its additions, none where the extension bit is 0
    components : (root additions : Options) → Value
    -- a CHOICE: the place among the alternatives, then among the additions
    chosen : (index : ℕ) (body : Value) → Value
    list : (members : Values) → Value
    elements : (ies : Ies) → Value
    -- a Protocol-PDU: 0 initiating message, 1 successful outcome, 2 unsuccessful outcome, then those past the root
    message : (outcome code criticality : ℕ) (body : Value) → Value
    -- octets of something that isn't known
    raw : (os : List ℕ) → Value

  pub data Values : Type 0 where
    no_values : Values
    value : (v : Value) (others : Values) → Values

  pub data Options : Type 0 where
    no_options : Options
    absent : (others : Options) → Options
    present : (v : Value) (others : Options) → Options

  -- Criticality is 0 reject, 1 ignore, 2 notify.
  pub data Ies : Type 0 where
    no_ies : Ies
    ie : (id criticality : ℕ) (body : Value) (others : Ies) → Ies

abbrev pub value_count : Values → ℕ
value_count no_values = 0
value_count (value v others) = suc (value_count others)

abbrev pub ie_count : Ies → ℕ
ie_count no_ies = 0
ie_count (ie id criticality body others) = suc (ie_count others)

-- which of these are there
abbrev pub presence : Options → List Bool
presence no_options = []
presence (absent others) = false ∷ presence others
presence (present v others) = true ∷ presence others

abbrev pub has_options : Options → Bool
has_options no_options = false
has_options (absent others) = true
has_options (present v others) = true

-- what a function says of each of these by its number, one after another, the first with this number
abbrev pub each_from : {A : Type 0} → (ℕ → Value → List A) → ℕ → Values → List A
each_from f i no_values = []
each_from f i (value v others) = f i v ++ each_from f (suc i) others
