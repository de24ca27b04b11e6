-- Whether two values are the same, as a test.
use Rattle.std.specs.Prelude.{Bool, true, false, ◌&&◌, ◌==◌, nat_eq}
use Rattle.std.specs.Ordering.{int_eq}
use Rattle.std.specs.Bool.{beq}
use Rattle.std.specs.Cmp.Lexicographic.{pointwise}
use Rattle.aper_defs.specs.Values.{Value, Values, Options, Ies}
use Rattle.aper_defs.specs.Values.{truth, number, enumeral, bits, octets, text, components, chosen, list, elements, message, raw, no_values, value, no_options, absent, present, no_ies, ie}

unfoldable mutual
  pub same_value : Value → Value → Bool
  same_value (truth a) (truth b) = beq a b
  same_value (number a) (number b) = int_eq a b
  same_value (enumeral i) (enumeral j) = i == j
  same_value (bits xs) (bits ys) = pointwise beq xs ys
  same_value (octets xs) (octets ys) = pointwise nat_eq xs ys
  same_value (text xs) (text ys) = pointwise nat_eq xs ys
  same_value (components root more) (components other others) = same_options root other && same_options more others
  same_value (chosen i v) (chosen j w) = i == j && same_value v w
  same_value (list vs) (list ws) = same_values vs ws
  same_value (elements xs) (elements ys) = same_ies xs ys
  same_value (message outcome code criticality v) (message result procedure weight w) =
      outcome == result && code == procedure && criticality == weight && same_value v w
  same_value (raw xs) (raw ys) = pointwise nat_eq xs ys
  same_value v w = false

  pub same_values : Values → Values → Bool
  same_values no_values no_values = true
  same_values (value v vs) (value w ws) = same_value v w && same_values vs ws
  same_values vs ws = false

  pub same_options : Options → Options → Bool
  same_options no_options no_options = true
  same_options (absent vs) (absent ws) = same_options vs ws
  same_options (present v vs) (present w ws) = same_value v w && same_options vs ws
  same_options vs ws = false

  pub same_ies : Ies → Ies → Bool
  same_ies no_ies no_ies = true
  same_ies (ie id criticality v vs) (ie other weight w ws) =
      id == other && criticality == weight && same_value v w && same_ies vs ws
  same_ies vs ws = false
