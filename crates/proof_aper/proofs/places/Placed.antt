-- Fields whose bits are at a place, with room for them, stand there.
use Rattle.std.proofs.Common.{◌≡◌, ℕ, ◌+◌, ◌*◌, ◌^◌, ◌<◌, ◌≤◌, nat_lt, cond, ◌&&◌, Bool, true, List, [], ◌∷◌, ◌++◌, length, take, drop, replicate, None, Some, Ok, refl, sym, ap, subst, ◌∙◌, arith, append_assoc}
use Rattle.std.specs.Prelude.{nat_le}
use Rattle.std.specs.List.{flat_map}
use Rattle.std.proofs.lemmas.List.{take_at, drop_at, drop-drop}
use Rattle.bits_core.specs.Bits.{bits_of, number_of, numbers_at, octet_bits}
use Rattle.bits_core.proofs.BitLemmas.{length-bits_of, number_is}
use Rattle.aper_defs.specs.declared.reason.Reason.TheVariants as reasons
use Rattle.aper_defs.specs.Fields.{Path, Ask, RunUnit, Field, asked, run as run_field}
use Rattle.aper_defs.specs.Bits.{width_at, spelled, unit_width, field_bits}
use Rattle.aper_defs.specs.Reading.{Opened, Cursor, bits_at, is_within, passes, bit_limit, asked_width, judged, answered, read, read_within, answer_of, opens_after, moved_by, after_field, read_units, units_within}
use Rattle.proof_aper.proofs.answers.Standing.{Stands, StandAll, after_all, after_all-append}
use Rattle.proof_aper.proofs.answers.NumberFacts.{at_most, is_at_most, is_not_below, first_of_both, second_of_both}
use Rattle.proof_aper.proofs.places.Bits.{field_width, all_bits, total, length-field_bits, length-all_bits, total-append, all_bits-append}

-- ---- room for so many bits
pub record Room (c : Cursor) (width : ℕ) : Type 0 where
  pub within : is_within (c.place + width) c.opens ≡ true
  pub limit : c.place + width ≤ bit_limit
  pub there : c.place + width ≤ 8 * length c.octets

pub room_passes : (c : Cursor) (width : ℕ) → Room c width → passes c width ≡ None
room_passes c width r =
    ap (λ b. cond b (cond (nat_lt bit_limit (c.place + width)) (Some reasons.TooLong)
    (cond (nat_lt (8 * length c.octets) (c.place + width)) (Some reasons.Truncated) None)) (Some reasons.Overrun)) r.within
    ∙ ap (λ b. cond b (Some reasons.TooLong) (cond (nat_lt (8 * length c.octets) (c.place + width)) (Some reasons.Truncated) None))
    (is_not_below bit_limit (c.place + width) r.limit)
    ∙ ap (λ b. cond b (Some reasons.Truncated) None) (is_not_below (8 * length c.octets) (c.place + width) r.there)

pub within_less : (opens : List Opened) (a b : ℕ) → a ≤ b → is_within b opens ≡ true → is_within a opens ≡ true
within_less [] a b h w = refl
within_less (o ∷ opens) a b h w =
    let here : b ≤ o.finish = at_most b o.finish (first_of_both (nat_le b o.finish) (is_within b opens) w) in
    ap (λ t. t && is_within a opens) (is_at_most a o.finish (omega arith))
    ∙ within_less opens a b h (second_of_both (nat_le b o.finish) (is_within b opens) w)

pub room_less : (c : Cursor) (a b : ℕ) → a ≤ b → Room c b → Room c a
room_less c a b h r = record {
  within = within_less c.opens (c.place + a) (c.place + b) (omega arith) r.within;
  limit = omega (arith, r.limit);
  there = omega (arith, r.there);
}

pub room_after : (c : Cursor) (a b : ℕ) → Room c (a + b) → Room (moved_by a c) b
room_after c a b r =
    let e : c.place + (a + b) ≡ c.place + a + b = omega arith in record {
      within = subst (λ (n : ℕ). is_within n c.opens ≡ true) e r.within;
      limit = omega (arith, r.limit);
      there = omega (arith, r.there);
    }

-- ---- a field that is read
pub bits_after : (c : Cursor) (width : ℕ) (xs rest : List Bool) → bits_at c ≡ xs ++ rest → length xs ≡ width
    → bits_at (moved_by width c) ≡ rest
bits_after c width xs rest e size =
    sym (drop-drop width c.place (octet_bits c.octets)) ∙ ap (drop width) e ∙ drop_at xs rest width size

-- what is asked at a place, where its answer's bits are there and nothing is wrong with them
pub reads : (question : Ask) (n : ℕ) (c : Cursor) (rest : List Bool)
    → asked_width question c ≡ width_at c.place question n → spelled question n < 2 ^ width_at c.place question n
    → judged question c (spelled question n) ≡ None → answer_of question c (spelled question n) ≡ n
    → bits_at c ≡ bits_of (width_at c.place question n) (spelled question n) ++ rest
    → Room c (width_at c.place question n) → read question c ≡ Ok n
unfolding read
reads question n c rest wide small right same there room =
    let w = width_at c.place question n in
    let x = spelled question n in
    let front : take w (bits_at c) ≡ bits_of w x = ap (take w) there ∙ take_at (bits_of w x) rest w (length-bits_of w x) in
    ap (λ (k : ℕ). read_within question c (passes c k)) wide
    ∙ ap (read_within question c) (room_passes c w room)
    ∙ ap (λ (k : ℕ). answered question c (number_of (take k (bits_at c))) (judged question c (number_of (take k (bits_at c))))) wide
    ∙ ap (λ (xs : List Bool). answered question c (number_of xs) (judged question c (number_of xs))) front
    ∙ ap (λ (m : ℕ). answered question c m (judged question c m)) (number_is w x small)
    ∙ ap (answered question c x) right
    ∙ ap (λ (m : ℕ). Ok m) same

-- An answer that is right wherever its bits are.
pub record Allowed (question : Ask) (n : ℕ) : Type 0 where
  pub wide : (c : Cursor) (rest : List Bool) → bits_at c ≡ bits_of (width_at c.place question n) (spelled question n) ++ rest
      → asked_width question c ≡ width_at c.place question n
  pub small : (place : ℕ) → spelled question n < 2 ^ width_at place question n
  pub right : (c : Cursor) → judged question c (spelled question n) ≡ None
  pub same : (c : Cursor) → answer_of question c (spelled question n) ≡ n

pub reads_allowed : (question : Ask) (n : ℕ) (c : Cursor) (rest : List Bool) → Allowed question n
    → bits_at c ≡ bits_of (width_at c.place question n) (spelled question n) ++ rest
    → Room c (width_at c.place question n) → read question c ≡ Ok n
reads_allowed question n c rest a there room =
    reads question n c rest (a.wide c rest there) (a.small c.place) (a.right c) (a.same c) there room

-- ---- fields one after another
pub record Placed (fs : List Field) : Type 0 where
  pub stand : (c : Cursor) (rest : List Bool) → bits_at c ≡ all_bits c.place fs ++ rest → Room c (total c.place fs) → StandAll fs c
  pub moves : (c : Cursor) → after_all fs c ≡ moved_by (total c.place fs) c

pub moved_none : (c : Cursor) → c ≡ moved_by 0 c
moved_none c = let e : c.place ≡ c.place + 0 = omega arith in ap (λ (n : ℕ). record { octets = c.octets; place = n; opens = c.opens }) e

pub moved_twice : (a b : ℕ) (c : Cursor) → moved_by b (moved_by a c) ≡ moved_by (a + b) c
moved_twice a b c = let e : c.place + a + b ≡ c.place + (a + b) = omega arith in ap
    (λ (n : ℕ). record { octets = c.octets; place = n; opens = c.opens }) e

pub placed_none : Placed []
placed_none = record { stand = λ c rest e r. tt; moves = moved_none }

-- a field that moves on by its width, and leaves the open types as they are
placed_field : (f : Field) (fs : List Field) → ((c : Cursor) → after_field f c ≡ moved_by (field_width c.place f) c)
    → ((c : Cursor) (rest : List Bool) → bits_at c ≡ field_bits c.place f ++ rest → Room c (field_width c.place f) → Stands f c)
    → Placed fs → Placed (f ∷ fs)
placed_field f fs step here p = record {
  stand = λ c rest e r.
      let w = field_width c.place f in
      let more = all_bits (c.place + w) fs in
      let split : bits_at c ≡ field_bits c.place f ++ (more ++ rest) = e ∙ append_assoc (field_bits c.place f) more rest in
      let after : bits_at (moved_by w c) ≡ more ++ rest = bits_after c w (field_bits c.place f) (more ++ rest) split
      (length-field_bits c.place f) in (
        here c (more ++ rest) split (room_less c w (w + total (c.place + w) fs) (omega arith) r),
        subst (StandAll fs) (sym (step c)) (p.stand (moved_by w c) rest after (room_after c w (total (c.place + w) fs) r)),
      );
  moves = λ c.
      let w = field_width c.place f in
      ap (after_all fs) (step c) ∙ p.moves (moved_by w c) ∙ moved_twice w (total (c.place + w) fs) c;
}

pub placed_asked : (path : Path) (question : Ask) (n : ℕ) (fs : List Field) → Allowed question n
    → ((place : ℕ) (opens : List Opened) → opens_after question n place opens ≡ opens)
    → Placed fs → Placed (asked path question n ∷ fs)
placed_asked path question n fs a still p =
    placed_field (asked path question n) fs
    (λ c. ap (λ (os : List Opened). record { octets = c.octets; place = c.place + width_at c.place question n; opens = os })
    (still (c.place + width_at c.place question n) c.opens))
    (λ c rest e r. reads_allowed question n c rest a e r) p

-- ---- runs
abbrev pub AreBelow : ℕ → List ℕ → Type 0
AreBelow n [] = Unit {0}
AreBelow n (x ∷ xs) = (x < n) × AreBelow n xs

numbers_again : (width : ℕ) (xs : List ℕ) (rest : List Bool) → AreBelow (2 ^ width) xs
    → numbers_at (replicate (length xs) width) (flat_map (bits_of width) xs ++ rest) ≡ xs
numbers_again width [] rest h = refl
numbers_again width (x ∷ xs) rest h =
    let others = flat_map (bits_of width) xs in
    let split : (bits_of width x ++ others) ++ rest ≡ bits_of width x ++ (others ++ rest) = append_assoc (bits_of width x) others rest in
    let size : length (bits_of width x) ≡ width = length-bits_of width x in
    ap (λ (bs : List Bool). number_of (take width bs) ∷ numbers_at (replicate (length xs) width) (drop width bs)) split
    ∙ ap (λ (bs : List Bool). number_of bs ∷ numbers_at (replicate (length xs) width) (drop width (bits_of width x ++ (others ++ rest))))
    (take_at (bits_of width x) (others ++ rest) width size)
    ∙ ap (λ (bs : List Bool). number_of (bits_of width x) ∷ numbers_at (replicate (length xs) width) bs)
    (drop_at (bits_of width x) (others ++ rest) width size)
    ∙ ap (λ (n : ℕ). n ∷ numbers_at (replicate (length xs) width) (others ++ rest)) (number_is width x h.0)
    ∙ ap (λ (ns : List ℕ). x ∷ ns) (numbers_again width xs rest h.1)

pub placed_run : (path : Path) (unit : RunUnit) (units : List ℕ) (fs : List Field) → AreBelow (2 ^ unit_width unit) units
    → Placed fs → Placed (run_field path unit units ∷ fs)
unfolding read_units
placed_run path unit units fs h p =
    placed_field (run_field path unit units) fs (λ c. refl)
    (λ c rest e r. ap (units_within unit (length units) c) (room_passes c (unit_width unit * length units) r)
    ∙ ap (λ (xs : List ℕ). Ok xs) (ap (numbers_at (replicate (length units) (unit_width unit))) e
    ∙ numbers_again (unit_width unit) units rest h)) p

-- ---- joined
pub stand_both : (a b : List Field) (c : Cursor) → StandAll a c → StandAll b (after_all a c) → StandAll (a ++ b) c
stand_both [] b c s t = t
stand_both (f ∷ a) b c s t = (s.0, stand_both a b (after_field f c) s.1 t)

pub placed_both : (a b : List Field) → Placed a → Placed b → Placed (a ++ b)
placed_both a b p q = record {
  stand = λ c rest e r.
      let w = total c.place a in
      let more = all_bits (c.place + w) b in
      let room : Room c (w + total (c.place + w) b) = subst (Room c) (total-append c.place a b) r in
      let split : bits_at c ≡ all_bits c.place a ++ (more ++ rest) =
      e ∙ ap (λ (xs : List Bool). xs ++ rest) (all_bits-append c.place a b) ∙ append_assoc (all_bits c.place a) more rest in
      let after : bits_at (moved_by w c) ≡ more ++ rest =
      bits_after c w (all_bits c.place a) (more ++ rest) split (length-all_bits c.place a) in
      stand_both a b c (p.stand c (more ++ rest) split (room_less c w (w + total (c.place + w) b) (omega arith) room))
      (subst (StandAll b) (sym (p.moves c)) (q.stand (moved_by w c) rest after (room_after c w (total (c.place + w) b) room)));
  moves = λ c.
      let w = total c.place a in
      after_all-append a b c ∙ ap (after_all b) (p.moves c) ∙ q.moves (moved_by w c) ∙ moved_twice w (total (c.place + w) b) c
      ∙ ap (λ (n : ℕ). moved_by n c) (sym (total-append c.place a b));
}
