-- Strings in parts, put one part after another.
use Rattle.std.proofs.Common.{◌≡◌, ℕ, zero, suc, ◌+◌, ◌-◌, ◌*◌, ◌/◌, ◌<◌, ◌≤◌, cond, nat_lt, min, List, ◌++◌, length, take, drop, Option, refl, sym, ap, subst, ◌∙◌, arith, append_assoc}
use Rattle.std.proofs.lemmas.List.{length-drop}
use Rattle.asn1_syntax.specs.declared.types.definition.Size.{Size}
use Rattle.bits_core.specs.Writing.{Written}
use Rattle.aper_defs.specs.Fields.{Path, Field}
use Rattle.aper_defs.specs.Bits.{part_units, put_all}
use Rattle.aper_defs.specs.Parts.{Content, next_part, part_of_fields, part_fields}
use Rattle.proof_aper.proofs.answers.NumberFacts.{is_below, is_not_below}
use Rattle.aper_fields.specs.Following.{Follows}

-- the parts of a string were put, whatever stands before them and however many may still come
abbrev pub PartsFollow : Written → Written → Content → List ℕ → Type 0
PartsFollow old new content units = (p : Path) (outside : Option Size) (turns before previous : ℕ) (rest : List Field)
    → length units / part_units ≤ turns
    → put_all old.bits (part_fields p content outside turns before previous units ++ rest) ≡ put_all new.bits rest

-- a length, and then so many units
abbrev pub PartFollows : Written → Written → Content → List ℕ → Type 0
PartFollows old new content units = (outside : Option Size) (before previous : ℕ)
    → Follows old new (λ p. part_of_fields p content outside before previous units)

pub part_more : (old mid new : Written) (content : Content) (units : List ℕ) (count : ℕ)
    → count ≡ part_units * min (length units / part_units) 4 → part_units ≤ length units
    → PartFollows old mid content (take count units) → PartsFollow mid new content (drop count units)
    → PartsFollow old new content units
unfolding part_fields
part_more old mid new content units count is whole first more p outside zero before previous rest enough =
    absurd (omega (arith, whole, enough))
part_more old mid new content units count is whole first more p outside (suc turns) before previous rest enough =
    let here = part_of_fields p content outside before previous units in
    let part : ℕ → List Field = λ n. part_of_fields p content outside before previous (take n units)
    ++ part_fields p content outside turns (before + n) n (drop n units) in
    let size : next_part (length units) ≡ count = omega arith in
    let left : length (drop count units) / part_units ≤ turns = omega (arith, is, whole, enough, length-drop count units) in
    ap (λ b. put_all old.bits (cond b here (part (next_part (length units))) ++ rest)) (is_not_below (length units) part_units whole)
    ∙ ap (λ (n : ℕ). put_all old.bits (part n ++ rest)) size
    ∙ ap (put_all old.bits) (append_assoc (part_of_fields p content outside before previous (take count units))
    (part_fields p content outside turns (before + count) count (drop count units)) rest)
    ∙ first outside before previous p (part_fields p content outside turns (before + count) count (drop count units) ++ rest)
    ∙ more p outside turns (before + count) count rest left

pub part_last : (old new : Written) (content : Content) (units : List ℕ) → length units < part_units
    → PartFollows old new content units → PartsFollow old new content units
unfolding part_fields
part_last old new content units few last p outside zero before previous rest enough = last outside before previous p rest
part_last old new content units few last p outside (suc turns) before previous rest enough =
    let here = part_of_fields p content outside before previous units in
    let part : List Field = (let n = next_part (length units) in part_of_fields p content outside before previous (take n units)
    ++ part_fields p content outside turns (before + n) n (drop n units)) in
    ap (λ b. put_all old.bits (cond b here part ++ rest)) (is_below (length units) part_units few)
    ∙ last outside before previous p rest

-- one more part, as the code splits units
pub part_turn : (old mid new : Written) (content : Content) (units : List ℕ) (count : ℕ) (a b : Content) (front rest : List ℕ)
    → a ≡ content → b ≡ content → front ≡ take count units → rest ≡ drop count units
    → count ≡ part_units * min (length units / part_units) 4 → part_units ≤ length units
    → PartFollows old mid a front → PartsFollow mid new b rest → PartsFollow old new content units
part_turn old mid new content units count a b front rest same_a same_b is_front is_rest is whole first more =
    part_more old mid new content units count is whole
    (subst (λ us. PartFollows old mid content us) is_front (subst (λ x. PartFollows old mid x front) same_a first))
    (subst (λ us. PartsFollow mid new content us) is_rest (subst (λ x. PartsFollow mid new x rest) same_b more))
