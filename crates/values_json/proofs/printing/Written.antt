-- What is written, put together: an item, a member, an array and an object.
use Rattle.std.proofs.Common.{◌≡◌, ℕ, suc, ◌<◌, ◌^◌, List, [], ◌∷◌, ◌++◌, length, Bool, not, ◌==◌, true, false, Option, Some, None, is_some, refl, sym, ap, ◌∙◌, subst, arith, append_assoc}
use Rattle.std.specs.Prelude.{MatchOption}
use Rattle.json.specs.Token.{Token, begin_object, end_object, begin_array, end_array, key}
use Rattle.json.specs.Written.{Written}
use Rattle.serde_json.specs.Data.{Data, array, object, Items, no_items, item, Members, no_members, member}
use Rattle.asn1_syntax.specs.declared.types.definition.Component.{Component}
use Rattle.asn1_syntax.specs.declared.types.definition.Extensible.{Extensible}
use Rattle.asn1_syntax.specs.types.Members.{additions_of}
use Rattle.aper_defs.specs.Values.{has_options}
use Rattle.aper_values.specs.declared.value.Value.{Value}
use Rattle.aper_values.specs.Views.{options_view}
use Rattle.json_defs.specs.Named.{Named}
use Rattle.json_defs.specs.Members.{Text, dots}
use Rattle.json_defs.specs.shown_defs.Printed.{added_shown, components_shown, one_member, body_shown}
use Rattle.proof_json.proofs.values.Holding.{by_cases}
use Rattle.proof_json.proofs.values.Words.{same}
use Rattle.values_json.specs.tokens.Whole.{IsWhole, AreWhole, AreMembersWhole}
use Rattle.values_json.specs.tokens.Written.{tokens_of, tokens_of_items, tokens_of_members, Adds, WritesWhole}
use Rattle.values_json.specs.pieces.Bodies.{contents_as, body_begins}
use Rattle.values_json.proofs.pieces.Bodies.{body_tokens}
use Rattle.json_defs.specs.type_defs.Types.{parts_with}
use Rattle.values_json.specs.order.Listed.{dots_first, with_dots, listed}
use Rattle.values_json.specs.order.Names.{object_names, AreAscending}
use Rattle.values_json.proofs.order.Listed.{ascending_listed}
use Rattle.values_json.specs.printing.Inside.{BeginsObject, Lists, sequence_shown}

pub both_added : (ts us : List Token) (old mid new : Written) → Adds ts old mid → Adds us mid new → Adds (ts ++ us) old new
both_added ts us old mid new first rest = (rest.0 ∙ first.0, rest.1 ∙ ap (λ xs. xs ++ us) first.1 ∙ append_assoc old.tokens ts us)

-- ---- what is left in a loop: with it, all is written
abbrev pub LeavesItems : Written → Items → Written → Items → Type 0
LeavesItems start all now rest =
    (now.before ≡ start.before) × (now.tokens ++ tokens_of_items rest ≡ start.tokens ++ tokens_of_items all) × (AreWhole rest → AreWhole all)

abbrev pub LeavesMembers : Written → Members → Written → Members → Type 0
LeavesMembers start all now rest =
    (now.before ≡ start.before) × (now.tokens ++ tokens_of_members rest ≡ start.tokens ++ tokens_of_members all)
    × (AreMembersWhole rest → AreMembersWhole all)

pub item_left : (start : Written) (all : Items) (now next : Written) (d : Data) (rest : Items) → LeavesItems start all now (item d rest)
    → WritesWhole d now next → LeavesItems start all next rest
item_left start all now next d rest left put = (
  put.0.0 ∙ left.0,
  ap (λ ts. ts ++ tokens_of_items rest) put.0.1 ∙ append_assoc now.tokens (tokens_of d) (tokens_of_items rest) ∙ left.1,
  λ more. left.2 (put.1, more),
)

pub member_left : (start : Written) (all : Members) (now named next : Written) (k : Text) (d : Data) (rest : Members)
    → LeavesMembers start all now (member k d rest) → Adds (key k ∷ []) now named → WritesWhole d named next → LeavesMembers start all next rest
member_left start all now named next k d rest left name put =
    let both = both_added (key k ∷ []) (tokens_of d) now named next name put.0 in (
      both.0 ∙ left.0,
      ap (λ ts. ts ++ tokens_of_members rest) both.1 ∙ append_assoc now.tokens (key k ∷ tokens_of d) (tokens_of_members rest) ∙ left.1,
      λ more. left.2 (put.1, more),
    )

pub array_written : (ds : Items) (old first last new : Written) → Adds (begin_array ∷ []) old first → LeavesItems first ds last no_items
    → Adds (end_array ∷ []) last new → WritesWhole (array ds) old new
array_written ds old first last new begins left ends =
    (both_added (begin_array ∷ []) (tokens_of_items ds) old first new begins (ends.0 ∙ left.0, ends.1 ∙ left.1), left.2 tt)

pub object_written : (ms : Members) (old first last new : Written) → Adds (begin_object ∷ []) old first → LeavesMembers first ms last no_members
    → Adds (end_object ∷ []) last new → WritesWhole (object ms) old new
object_written ms old first last new begins left ends =
    (both_added (begin_object ∷ []) (tokens_of_members ms) old first new begins (ends.0 ∙ left.0, ends.1 ∙ left.1), left.2 tt)

pub one_written : (k : Text) (d : Data) (old begun named inside new : Written) → Adds (begin_object ∷ []) old begun
    → Adds (key k ∷ []) begun named → WritesWhole d named inside → Adds (end_object ∷ []) inside new → WritesWhole (one_member k d) old new
one_written k d old begun named inside new begins name put ends =
    let first = both_added (begin_object ∷ []) (key k ∷ []) old begun named begins name in
    let rest = both_added (tokens_of d) (end_object ∷ []) named inside new put.0 ends in
    (both_added (begin_object ∷ key k ∷ []) (tokens_of d ++ end_object ∷ []) old named new first rest, (put.1, tt))

body_whole : (k : Text) (n criticality : ℕ) (known : Bool) (d : Data) → n < 2 ^ 64 → IsWhole d
    → IsWhole (body_shown k n criticality (contents_as known d))
body_whole k n criticality true d fits whole = (tt, (fits, (whole, tt)))
body_whole k n criticality false d fits whole = (tt, (fits, (whole, tt)))

pub body_written : (k : Text) (n criticality : ℕ) (known : Bool) (d : Data) (old begun inside new : Written) → n < 2 ^ 64
    → Adds (body_begins k n criticality known) old begun → WritesWhole d begun inside → Adds (end_object ∷ []) inside new
    → WritesWhole (body_shown k n criticality (contents_as known d)) old new
body_written k n criticality known d old begun inside new fits begins put ends =
    let rest = both_added (tokens_of d) (end_object ∷ []) begun inside new put.0 ends in
    let all = both_added (body_begins k n criticality known) (tokens_of d ++ end_object ∷ []) old begun new begins rest in (
      (all.0, all.1 ∙ ap (λ ts. old.tokens ++ ts) (sym (body_tokens k n criticality known d))),
      body_whole k n criticality known d fits put.1,
    )

-- ---- the object of a SEQUENCE
pub dots_begun : (has : Bool) (ds : Items) (old begun named new : Written) → has ≡ true → Adds (begin_object ∷ []) old begun
    → Adds (key dots ∷ []) begun named → WritesWhole (array ds) named new → BeginsObject has ds old new
dots_begun has ds old begun named new is begins name put =
    let first = both_added (begin_object ∷ []) (key dots ∷ []) old begun named begins name in
    subst (λ (b : Bool). BeginsObject b ds old new) (sym is)
    (both_added (begin_object ∷ key dots ∷ []) (tokens_of (array ds)) old named new first put.0, (put.1, tt))

begun_written : (has : Bool) (ds : Items) (ms : Members) (old begun new : Written) → BeginsObject has ds old begun
    → Adds (tokens_of_members ms) begun new → AreMembersWhole ms → WritesWhole (object (dots_first has ds ms)) old new
begun_written true ds ms old begun new begins adds whole =
    let both = both_added (begin_object ∷ key dots ∷ tokens_of (array ds)) (tokens_of_members ms) old begun new begins.0 adds in
    (both, (begins.1.0, whole))
begun_written false ds ms old begun new begins adds whole =
    (both_added (begin_object ∷ []) (tokens_of_members ms) old begun new begins.0 adds, whole)

-- ---- additions
some_are : (k n : ℕ) → n ≡ suc k → not (n == 0) ≡ true
some_are k n e = by_cases (n == 0) (λ b. not b ≡ true) (λ h. absurd (omega (arith, e, same n 0 h))) (λ h. refl)

pub has_more : (vs : List (Option Value)) (n : ℕ) → n ≡ length vs → not (n == 0) ≡ has_options (options_view vs)
has_more [] n e = ap (λ (k : ℕ). not (k == 0)) e
has_more (None ∷ vs) n e = some_are (length vs) n e
has_more (Some v ∷ vs) n e = some_are (length vs) n e

pub counted : (o : Option ℕ) (names : List Text) → is_some o ≡ true
    → MatchOption o (AreAscending names → ⊥) (λ n. AreAscending names × (n ≡ length names)) → AreAscending names
counted None names h m = absurd cc
counted (Some n) names h m = m.0

-- whole, where the names are in order as they come
pub in_order_written : (of : ℕ → Named) (members : Extensible Component) (root more : List (Option Value)) (has : Bool)
    (old begun mid new : Written) → has ≡ has_options (options_view more) → AreAscending (object_names has members.root root)
    → BeginsObject has (added_shown (parts_with of (additions_of members.additions)) (options_view more)) old begun
    → Lists (listed (parts_with of members.root) (options_view root)) begun mid → Adds (end_object ∷ []) mid new
    → WritesWhole (sequence_shown of members (options_view root) (options_view more)) old new
in_order_written of members root more has old begun mid new has_is ascending begins lists ends =
    let ds : Items = added_shown (parts_with of (additions_of members.additions)) (options_view more) in
    let ms : Members = listed (parts_with of members.root) (options_view root) in
    let whole : object (dots_first has ds ms) ≡ sequence_shown of members (options_view root) (options_view more) =
    ap object (sym (ascending_listed of ds has members.root root ascending)
    ∙ ap (λ b. with_dots b ds (components_shown (parts_with of members.root) (options_view root))) has_is) in
    subst (λ (d : Data). WritesWhole d old new) whole
    (begun_written has ds ms old begun new begins (ends.0 ∙ lists.0, ends.1 ∙ lists.1) lists.2)
