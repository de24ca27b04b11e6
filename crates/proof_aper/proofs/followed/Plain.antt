-- Each question of aligned PER takes what comes after it along.
use Rattle.std.proofs.Common.{◌≡◌, ℕ, zero, suc, ◌+◌, ◌-◌, ◌*◌, ◌==◌, cond, nat_lt, Bool, true, false, List, ◌∷◌, ◌++◌, Option, Some, None, refl, ap, ◌∙◌}
use Rattle.std.specs.Prelude.{ℤ, pos, ◌+ℤ◌, map}
use mathlib.Core.Path.{fun_ext}
use Rattle.asn1_syntax.specs.declared.types.definition.Size.{Size}
use Rattle.aper_defs.specs.Numbers.{above}
use Rattle.aper_defs.specs.Trees.{Parts, Tree}
use Rattle.aper_defs.specs.Trees as trees
use Rattle.aper_defs.specs.Values.{Value}
use Rattle.aper_defs.specs.Values as values
use Rattle.aper_defs.specs.Fields.{Path, Role, Ask, RunUnit}
use Rattle.aper_defs.specs.Fields as fields
use Rattle.aper_defs.specs.Parts.{Content, of_bits, of_octets, of_characters, pad_limit}
use Rattle.aper_defs.specs.Bits.{part_units}
use Rattle.aper_defs.specs.Questions.{Prog, ask, take, ask_aligned, ask_number, ask_extension, ask_integer_by, ask_integer, ask_index_by, ask_index, ask_characters, ask_units, ask_parts, ask_sized, ask_string_by, ask_string, ask_count_by, ask_count, ask_flags}
use Rattle.aper_defs.specs.Asking.{asks, ask_marks}
use Rattle.proof_aper.specs.followed.Followed.{followed, IsPlain}

-- one way or another
pub either : (b : Bool) (P Q R S : Prog) (K : Value → Prog) → followed P K ≡ R → followed Q K ≡ S → followed (cond b P Q) K ≡ cond b R S
either true P Q R S K e f = e
either false P Q R S K e f = f

pub plain_ask : (question : Ask) → IsPlain (λ p. ask p question)
unfolding followed
plain_ask question = λ p J K. refl

pub plain_aligned : (question : Ask) → IsPlain (λ p. ask_aligned p question)
unfolding followed
plain_aligned question = λ p J K. refl

pub plain_take : (unit : RunUnit) (count : ℕ) → IsPlain (λ p. take p unit count)
unfolding followed
plain_take unit count = λ p J K. refl

pub plain_extension : (extensible : Bool) → IsPlain (λ p. ask_extension p extensible)
unfolding followed
plain_extension true = λ p J K. refl
plain_extension false = λ p J K. refl

pub plain_number : (role : Role) (span : ℕ) → IsPlain (λ p. ask_number p role span)
unfolding followed ask_number
plain_number role span = λ p J K.
    either (span == 0) _ _ _ _ K refl
    (either (nat_lt span 255) _ _ _ _ K refl
    (either (span == 255) _ _ _ _ K refl
    (either (nat_lt span 65536) _ _ _ _ K refl refl)))

-- after an extension bit
by_extension : {A : Type 0} (extensible : Bool) (by : Path → (A → Prog) → Bool → Prog)
    → ((b : Bool) → IsPlain (λ p J. by p J b)) → IsPlain (λ p J. ask_extension p extensible (by p J))
by_extension extensible by plain = λ p J K.
    plain_extension extensible p (by p J) K ∙ ap (ask_extension p extensible) (fun_ext (λ (b : Bool). plain b p J K))

plain_integer_by : (low high : ℤ) (b : Bool) → IsPlain (λ p J. ask_integer_by p low high J b)
unfolding followed
plain_integer_by low high false = λ p J K. plain_number fields.value (above low high) p (λ n. J (low +ℤ pos n)) K
plain_integer_by low high true = λ p J K. refl

pub plain_integer : (low high : ℤ) (extensible : Bool) → IsPlain (λ p. ask_integer p low high extensible)
unfolding ask_integer
plain_integer low high extensible = by_extension extensible (λ p J. ask_integer_by p low high J) (plain_integer_by low high)

plain_index_by : (count : ℕ) (b : Bool) → IsPlain (λ p J. ask_index_by p count J b)
unfolding followed
plain_index_by count false = λ p J K. plain_number fields.index (count - 1) p J K
plain_index_by count true = λ p J K. refl

pub plain_index : (count : ℕ) (extensible : Bool) → IsPlain (λ p. ask_index p count extensible)
unfolding ask_index
plain_index count extensible = by_extension extensible (λ p J. ask_index_by p count J) (plain_index_by count)

plain_count_by : (size : Size) (b : Bool) → IsPlain (λ p J. ask_count_by p size J b)
unfolding followed
plain_count_by size false = λ p J K. plain_number fields.length (size.high - size.low) p (λ n. J (size.low + n)) K
plain_count_by size true = λ p J K. refl

pub plain_count : (size : Option Size) → IsPlain (λ p. ask_count p size)
unfolding followed ask_count
plain_count None = λ p J K. refl
plain_count (Some size) = by_extension size.extensible (λ p J. ask_count_by p size J) (plain_count_by size)

-- ---- strings
plain_characters : (count : ℕ) → IsPlain (λ p. ask_characters p count)
unfolding followed
plain_characters zero = λ p J K. refl
plain_characters (suc count) = λ p J K.
    ap (ask p fields.character) (fun_ext (λ (c : ℕ). plain_characters count p (λ cs. J (c ∷ cs)) K))

pub plain_units : (content : Content) (count : ℕ) → IsPlain (λ p. ask_units p content count)
unfolding followed
plain_units of_bits count = λ p J K. refl
plain_units of_octets count = λ p J K. refl
plain_units of_characters count = plain_characters count

plain_parts : (content : Content) (outside : Option Size) (turns before previous : ℕ)
    → IsPlain (λ p. ask_parts p content outside turns before previous)
unfolding followed ask_parts
plain_parts content outside zero before previous = λ p J K. refl
plain_parts content outside (suc turns) before previous = λ p J K.
    ap (ask_aligned p (fields.extent (fields.part before previous outside))) (fun_ext (λ (n : ℕ).
    plain_units content n p (λ units. cond (nat_lt n part_units) (J units)
    (ask_parts p content outside turns (before + n) n (λ more. J (units ++ more)))) K
    ∙ ap (ask_units p content n) (fun_ext (λ (units : List ℕ).
    either (nat_lt n part_units) _ _ _ _ K refl (plain_parts content outside turns (before + n) n p (λ more. J (units ++ more)) K)))))

plain_sized : (content : Content) (size : Size) → IsPlain (λ p. ask_sized p content size)
unfolding followed
plain_sized content size = λ p J K.
    either (size.low == size.high) _ _ _ _ K
    (either (nat_lt (pad_limit content) size.low) _ _ _ _ K
    (ap (ask p fields.pad) (fun_ext (λ (z : ℕ). plain_units content size.low p J K)))
    (plain_units content size.low p J K))
    (plain_number fields.length (size.high - size.low) p (λ n. ask p fields.pad (λ z. ask_units p content (size.low + n) J)) K
    ∙ ap (ask_number p fields.length (size.high - size.low)) (fun_ext (λ (n : ℕ).
    ap (ask p fields.pad) (fun_ext (λ (z : ℕ). plain_units content (size.low + n) p J K)))))

plain_string_by : (content : Content) (size : Size) (b : Bool) → IsPlain (λ p J. ask_string_by p content size J b)
plain_string_by content size false = plain_sized content size
plain_string_by content size true = plain_parts content (Some size) 65 0 (4 * part_units)

pub plain_string : (content : Content) (size : Option Size) → IsPlain (λ p. ask_string p content size)
unfolding ask_string
plain_string content None = plain_parts content None 65 0 (4 * part_units)
plain_string content (Some size) = by_extension size.extensible (λ p J. ask_string_by p content size J) (plain_string_by content size)

-- ---- what stands before members
pub plain_flags : (parts : Parts) → IsPlain (λ p. ask_flags p parts)
unfolding followed
plain_flags trees.no_parts = λ p J K. refl
plain_flags (trees.part name optional t others) = λ p J K.
    either optional _ _ _ _ K
    (ap (ask p fields.flag) (fun_ext (λ (b : ℕ). plain_flags others p (λ there. J ((b == 1) ∷ there)) K)))
    (plain_flags others p (λ there. J (true ∷ there)) K)

pub plain_marks : (extended : Bool) → IsPlain (λ p. ask_marks p extended)
unfolding followed
plain_marks true = λ p J K. refl
plain_marks false = λ p J K. refl

-- ---- values without types inside
pub plain_boolean : IsPlain (λ p. asks p trees.boolean)
unfolding followed asks
plain_boolean = λ p J K. refl

pub plain_whole_number : (low high : ℤ) (extensible : Bool) → IsPlain (λ p. asks p (trees.integer low high extensible))
unfolding followed asks
plain_whole_number low high extensible = λ p J K. plain_integer low high extensible p (λ z. J (values.number z)) K

pub plain_enumerated : (names : ℕ) (extensible : Bool) → IsPlain (λ p. asks p (trees.enumerated names extensible))
unfolding followed asks
plain_enumerated names extensible = λ p J K. plain_index names extensible p (λ i. J (values.enumeral i)) K

pub plain_bit_string : (size : Option Size) → IsPlain (λ p. asks p (trees.bit_string size))
unfolding followed asks
plain_bit_string size = λ p J K. plain_string of_bits size p (λ bs. J (values.bits (map (λ b. b == 1) bs))) K

pub plain_octet_string : (size : Option Size) → IsPlain (λ p. asks p (trees.octet_string size))
unfolding followed asks
plain_octet_string size = λ p J K. plain_string of_octets size p (λ os. J (values.octets os)) K

pub plain_printable_string : (size : Option Size) → IsPlain (λ p. asks p (trees.printable_string size))
unfolding followed asks
plain_printable_string size = λ p J K. plain_string of_characters size p (λ cs. J (values.text cs)) K
