-- Flags and marks that were put.
use Rattle.std.proofs.Common.{◌≡◌, ℕ, suc, ◌+◌, ◌-◌, ◌*◌, ◌^◌, ◌<◌, ◌==◌, cond, Bool, true, false, List, [], ◌∷◌, ◌++◌, length, Option, Some, None, is_some, refl, sym, ap, ◌∙◌, arith}
use Rattle.std.specs.Int.{from_bool}
use Rattle.std.proofs.Math.Nat.{pow-suc}
use Rattle.bits_core.specs.Bits.{number_of}
use Rattle.bits_core.specs.Writing.{Written}
use Rattle.asn1_syntax.specs.declared.types.definition.Component.{Component}
use Rattle.aper_defs.specs.Trees.{Tree}
use Rattle.aper_defs.specs.Values.{presence}
use Rattle.aper_defs.specs.Fields.{Path, Field, Role, asked, flag, small, addition_bits}
use Rattle.aper_defs.specs.Fields as fields
use Rattle.aper_defs.specs.Parts.{extension_fields}
use Rattle.aper_defs.specs.Bits.{put_all}
use Rattle.aper_defs.specs.Layouts.{flag_fields, mark_fields}
use Rattle.aper_fields.specs.Following.{Follows}
use Rattle.aper_values.specs.types.Types.{parts_of}
use Rattle.aper_values.specs.declared.value.Value.{Value}
use Rattle.aper_values.specs.Views.{options_view}
use Rattle.aper_fields.proofs.members.Turns.{both_follow}

abbrev pub FlagsFollow : Written → Written → List Component → List (Option Value) → Type 0
FlagsFollow old new parts vs = (of : ℕ → Tree) → Follows old new (λ p. flag_fields p (parts_of of parts) (options_view vs))

joined : (b : Bool) (f : Field) (fs : List Field) → cond b (f ∷ fs) fs ≡ cond b (f ∷ []) [] ++ fs
joined true f fs = refl
joined false f fs = refl

pub flag_turn : (old mid new : Written) (c : Component) (parts : List Component) (x : Option Value) (vs : List (Option Value))
    → Follows old mid (λ p. extension_fields p c.optional (is_some x)) → FlagsFollow mid new parts vs
    → FlagsFollow old new (c ∷ parts) (x ∷ vs)
flag_turn old mid new c parts None vs here more of p rest =
    ap (λ fs. put_all old.bits (fs ++ rest)) (joined c.optional (asked p flag 0) (flag_fields p (parts_of of parts) (options_view vs)))
    ∙ both_follow old mid new (λ q. extension_fields q c.optional false) (λ q. flag_fields q (parts_of of parts) (options_view vs))
    here (more of) p rest
flag_turn old mid new c parts (Some v) vs here more of p rest =
    ap (λ fs. put_all old.bits (fs ++ rest)) (joined c.optional (asked p flag 1) (flag_fields p (parts_of of parts) (options_view vs)))
    ∙ both_follow old mid new (λ q. extension_fields q c.optional true) (λ q. flag_fields q (parts_of of parts) (options_view vs))
    here (more of) p rest

pub flags_none : (new : Written) (parts : List Component) → FlagsFollow new new parts []
flags_none new [] of p rest = refl
flags_none new (c ∷ parts) of p rest = refl

-- ---- marks
pub presence_count : (vs : List (Option Value)) → length (presence (options_view vs)) ≡ length vs
presence_count [] = refl
presence_count (None ∷ vs) = ap suc (presence_count vs)
presence_count (Some v ∷ vs) = ap suc (presence_count vs)

abbrev pub marks_of : List (Option Value) → ℕ
marks_of vs = number_of (presence (options_view vs))

spread : (x y p : ℕ) → (2 * x + y) * p ≡ x * (p * 2) + y * p
spread x y p = omega arith

grouped : (a c n : ℕ) → a + c + n ≡ a + (c + n)
grouped a c n = omega arith

one_more : (m b n size : ℕ) → (2 * m + b) * 2 ^ size + n ≡ m * 2 ^ suc size + (b * 2 ^ size + n)
one_more m b n size =
    ap (λ (q : ℕ). q + n) (spread m b (2 ^ size))
    ∙ ap (λ (q : ℕ). m * q + b * 2 ^ size + n) (sym (pow-suc 2 size))
    ∙ grouped (m * 2 ^ suc size) (b * 2 ^ size) n

pub bool_small : (b : Bool) → from_bool b < 2
bool_small true = omega arith
bool_small false = omega arith

pub marks_turn : (m : ℕ) (x : Option Value) (vs : List (Option Value))
    → (2 * m + from_bool (is_some x)) * 2 ^ length vs + marks_of vs ≡ m * 2 ^ length (x ∷ vs) + marks_of (x ∷ vs)
marks_turn m None vs = one_more m 0 (marks_of vs) (length vs) ∙ ap (λ (n : ℕ). m * 2 ^ suc (length vs) + (0 * 2 ^ n + marks_of vs)) (sym (presence_count vs))
marks_turn m (Some v) vs = one_more m 1 (marks_of vs) (length vs) ∙ ap (λ (n : ℕ). m * 2 ^ suc (length vs) + (1 * 2 ^ n + marks_of vs)) (sym (presence_count vs))

pub marks_small : (m b i : ℕ) → m < 2 ^ i → b < 2 → 2 * m + b < 2 ^ (i + 1)
marks_small m b i h k = let e : i + 1 ≡ suc i = omega arith in omega (arith, ap (λ (n : ℕ). 2 ^ n) e, pow-suc 2 i)

-- the marks of some additions
pub marks_follow : (old mid new : Written) (vs : List (Option Value)) → (length vs == 0) ≡ false
    → ((role : Role) → Follows old mid (λ p. asked p (small role) (length vs - 1) ∷ []))
    → Follows mid new (λ p. asked p (addition_bits (length vs)) (marks_of vs) ∷ [])
    → Follows old new (λ p. mark_fields p (options_view vs))
marks_follow old mid new [] e f g p rest = let k : ⊥ = cc in absurd k
marks_follow old mid new (None ∷ vs) e f g p rest =
    ap (λ (k : ℕ). put_all old.bits (asked p (small fields.length) (k - 1) ∷ asked p (addition_bits k) (marks_of (None ∷ vs)) ∷ rest))
    (presence_count (None ∷ vs))
    ∙ f fields.length p (asked p (addition_bits (length (None ∷ vs))) (marks_of (None ∷ vs)) ∷ rest) ∙ g p rest
marks_follow old mid new (Some v ∷ vs) e f g p rest =
    ap (λ (k : ℕ). put_all old.bits (asked p (small fields.length) (k - 1) ∷ asked p (addition_bits k) (marks_of (Some v ∷ vs)) ∷ rest))
    (presence_count (Some v ∷ vs))
    ∙ f fields.length p (asked p (addition_bits (length (Some v ∷ vs))) (marks_of (Some v ∷ vs)) ∷ rest) ∙ g p rest
