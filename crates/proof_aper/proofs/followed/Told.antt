-- The answers to questions, told as values.
use Rattle.std.proofs.Common.{ℕ, Bool, false, List, [], Option, refl}
use Rattle.asn1_syntax.specs.declared.types.definition.Size.{Size}
use Rattle.aper_defs.specs.Trees.{Parts}
use Rattle.aper_defs.specs.Values.{Value, truth, enumeral, bits, octets}
use Rattle.aper_defs.specs.Fields.{Path, Ask, RunUnit}
use Rattle.aper_defs.specs.Questions.{Prog, take, ask_aligned, ask_extension, ask_index, ask_count, ask_flags}
use Rattle.aper_defs.specs.Asking.{ask_marks}
use Rattle.proof_aper.specs.followed.Followed.{IsPlain}
use Rattle.proof_aper.proofs.followed.Stays.{Told}
use Rattle.proof_aper.proofs.followed.Plain.{plain_aligned, plain_take, plain_extension, plain_index, plain_count, plain_flags, plain_marks}

abbrev the_bool : Value → Bool
the_bool (truth b) = b
the_bool v = false

abbrev the_number : Value → ℕ
the_number (enumeral n) = n
the_number v = 0

abbrev the_bits : Value → List Bool
the_bits (bits bs) = bs
the_bits v = []

abbrev the_octets : Value → List ℕ
the_octets (octets os) = os
the_octets v = []

pub told_value : (question : Path → (Value → Prog) → Prog) → IsPlain question → Told question
told_value question plain = record { plain = plain; tell = λ v. v; heard = λ v. v; same = λ v. refl }

pub told_number : (question : Path → (ℕ → Prog) → Prog) → IsPlain question → Told question
told_number question plain = record { plain = plain; tell = enumeral; heard = the_number; same = λ n. refl }

pub told_bool : (question : Path → (Bool → Prog) → Prog) → IsPlain question → Told question
told_bool question plain = record { plain = plain; tell = truth; heard = the_bool; same = λ b. refl }

pub told_bits : (question : Path → (List Bool → Prog) → Prog) → IsPlain question → Told question
told_bits question plain = record { plain = plain; tell = bits; heard = the_bits; same = λ bs. refl }

pub told_octets : (question : Path → (List ℕ → Prog) → Prog) → IsPlain question → Told question
told_octets question plain = record { plain = plain; tell = octets; heard = the_octets; same = λ os. refl }

pub told_aligned : (question : Ask) → Told (λ p. ask_aligned p question)
told_aligned question = told_number (λ p. ask_aligned p question) (plain_aligned question)

pub told_extension : (extensible : Bool) → Told (λ p. ask_extension p extensible)
told_extension extensible = told_bool (λ p. ask_extension p extensible) (plain_extension extensible)

pub told_index : (count : ℕ) (extensible : Bool) → Told (λ p. ask_index p count extensible)
told_index count extensible = told_number (λ p. ask_index p count extensible) (plain_index count extensible)

pub told_count : (size : Option Size) → Told (λ p. ask_count p size)
told_count size = told_number (λ p. ask_count p size) (plain_count size)

pub told_flags : (parts : Parts) → Told (λ p. ask_flags p parts)
told_flags parts = told_bits (λ p. ask_flags p parts) (plain_flags parts)

pub told_marks : (extended : Bool) → Told (λ p. ask_marks p extended)
told_marks extended = told_bits (λ p. ask_marks p extended) (plain_marks extended)

pub told_take : (unit : RunUnit) (count : ℕ) → Told (λ p. take p unit count)
told_take unit count = told_octets (λ p. take p unit count) (plain_take unit count)
