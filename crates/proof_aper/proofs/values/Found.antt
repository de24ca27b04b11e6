-- What was read at a place: something of a kind, whose fields stand there, and after which the reading went on.
use Rattle.std.proofs.Common.{◌≡◌, ℕ, ◌+◌, ◌*◌, ◌^◌, ◌<◌, ◌≤◌, nat_lt, cond, Bool, true, false, List, [], ◌∷◌, ◌++◌, length, take as first, None, Some, Option, Result, Ok, Err, refl, ap, subst, ◌∙◌, arith}
use Rattle.std.proofs.lemmas.List.{length-take, length-drop}
use Rattle.std.proofs.Math.Nat.{pow-le-pow_right}
use Rattle.bits_core.specs.Bits.{number_of, octet_bits}
use Rattle.bits_core.proofs.BitLemmas.{number_small, length-octet_bits}
use Rattle.aper_defs.specs.declared.reason.Reason.{Reason}
use Rattle.aper_defs.specs.declared.reason.Reason.TheVariants as reasons
use Rattle.aper_defs.specs.Values.{Value}
use Rattle.aper_defs.specs.Fields.{Path, Ask, Field, asked}
use Rattle.aper_defs.specs.Questions.{Prog, ask}
use Rattle.aper_defs.specs.Reading.{Cursor, bits_at, is_within, bit_limit, passes, asked_width, judged, answered, answer_of, read, read_within, run, goes_on, answered_at, unless}
use Rattle.proof_aper.proofs.answers.Standing.{StandAll, after_all, after_all-append}
use Rattle.proof_aper.proofs.answers.NumberFacts.{not_below}
use Rattle.proof_aper.proofs.places.Placed.{stand_both}

-- the reading goes to this end
abbrev pub Ends : Prog → Cursor → Value × Cursor → Type 0
Ends P c y = run P c ≡ Ok y

pub record Found {X : Type 0} (P : X → Type 0) (fields : X → List Field) (K : X → Prog) (c : Cursor) (y : Value × Cursor) : Type 0 where
  pub made : X
  pub is : P made
  pub stand : StandAll (fields made) c
  pub rest : Ends (K made) (after_all (fields made) c) y

-- nothing was read
pub found_none : {X : Type 0} (P : X → Type 0) (K : X → Prog) (c : Cursor) (y : Value × Cursor) (x : X) → P x → Ends (K x) c y
    → Found P (λ z. []) K c y
found_none P K c y x h e = record { made = x; is = h; stand = tt; rest = e }

-- the same, said otherwise
pub found_as : {X Z : Type 0} (P : X → Type 0) (Q : Z → Type 0) (f : X → List Field) (g : Z → List Field) (K : X → Prog) (L : Z → Prog)
    (c : Cursor) (y : Value × Cursor) (h : X → Z)
    → ((x : X) → P x → StandAll (f x) c → Q (h x)) → ((x : X) → P x → f x ≡ g (h x)) → ((x : X) → P x → K x ≡ L (h x))
    → Found P f K c y → Found Q g L c y
found_as P Q f g K L c y h is fields on found =
    let x = found.made in record {
      made = h x;
      is = is x found.is found.stand;
      stand = subst (λ fs. StandAll fs c) (fields x found.is) found.stand;
      rest = subst (λ fs. Ends (L (h x)) (after_all fs c) y) (fields x found.is)
          (subst (λ R. Ends R (after_all (f x) c) y) (on x found.is) found.rest);
    }

-- after fields that stand
pub found_after : {X Z : Type 0} (a : List Field) (P : X → Type 0) (Q : Z → Type 0) (f : X → List Field) (g : Z → List Field) (K : X
    → Prog) (L : Z → Prog)
    (c : Cursor) (y : Value × Cursor) (h : X → Z)
    → StandAll a c → Found P f K (after_all a c) y
    → ((x : X) → P x → StandAll (f x) (after_all a c) → Q (h x)) → ((x : X) → P x → StandAll (f x) (after_all a c) → a ++ f x ≡ g (h x))
    → ((x : X) → P x → K x ≡ L (h x)) → Found Q g L c y
found_after a P Q f g K L c y h s found is fields on =
    let x = found.made in
    let e = fields x found.is found.stand in record {
      made = h x;
      is = is x found.is found.stand;
      stand = subst (λ fs. StandAll fs c) e (stand_both a (f x) c s found.stand);
      rest = subst (λ fs. Ends (L (h x)) (after_all fs c) y) e
          (ap (run (L (h x))) (after_all-append a (f x) c)
          ∙ subst (λ R. Ends R (after_all (f x) (after_all a c)) y) (on x found.is) found.rest);
    }

-- one after another
pub found_then : {X Z : Type 0} (P : X → Type 0) (Q : X → Z → Type 0) (f : X → List Field) (g : X → Z → List Field) (K : X
    → Prog) (L : X → Z → Prog)
    (c : Cursor) (y : Value × Cursor)
    → Found P f K c y
    → ((x : X) → P x → StandAll (f x) c → Ends (K x) (after_all (f x) c) y → Found (Q x) (g x) (L x) (after_all (f x) c) y)
    → Found (λ (z : X × Z). P z.0 × Q z.0 z.1) (λ z. f z.0 ++ g z.0 z.1) (λ z. L z.0 z.1) c y
found_then P Q f g K L c y found more =
    let x = found.made in
    let next = more x found.is found.stand found.rest in
    let z = next.made in record {
      made = (x, z);
      is = (found.is, next.is);
      stand = stand_both (f x) (g x z) c found.stand next.stand;
      rest = ap (run (L x z)) (after_all-append (f x) (g x z) c) ∙ next.rest;
    }

-- ---- one question
pub found_ask : (p : Path) (question : Ask) (K : ℕ → Prog) (c : Cursor) (y : Value × Cursor) → Ends (ask p question K) c y
    → Found (λ n. read question c ≡ Ok n) (λ n. asked p question n ∷ []) K c y
unfolding run
found_ask p question K c y e = go (read question c) refl e
  where
    go : (r : Result ℕ Reason) → read question c ≡ r → goes_on p c r (λ n. run (K n) (answered_at question n c)) ≡ Ok y
        → Found (λ n. read question c ≡ Ok n) (λ n. asked p question n ∷ []) K c y
    go (Ok n) is h = record { made = n; is = is; stand = (is, tt); rest = h }
    go (Err reason) is h = cc

-- what is so of an answer that was read
pub record Answered (question : Ask) (c : Cursor) (n : ℕ) : Type 0 where
  pub m : ℕ
  pub bits : m ≡ number_of (first (asked_width question c) (bits_at c))
  pub small : m < 2 ^ asked_width question c
  pub right : judged question c m ≡ None
  pub same : answer_of question c m ≡ n
  pub room : passes c (asked_width question c) ≡ None

-- so many bits are there
pub taken_size : (c : Cursor) (width : ℕ) → passes c width ≡ None → width ≤ length (bits_at c)
taken_size c width e =
    let there : c.place + width ≤ 8 * length c.octets = go (is_within (c.place + width) c.opens) (nat_lt bit_limit (c.place + width))
    (nat_lt (8 * length c.octets) (c.place + width)) refl e in
    omega (arith, length-drop c.place (octet_bits c.octets), length-octet_bits c.octets)
  where
    go : (a b d : Bool) → nat_lt (8 * length c.octets) (c.place + width) ≡ d
        → cond a (cond b (Some reasons.TooLong) (cond d (Some reasons.Truncated) None)) (Some reasons.Overrun) ≡ None
        → c.place + width ≤ 8 * length c.octets
    go true true d f g = cc
    go true false true f g = cc
    go true false false f g = not_below (8 * length c.octets) (c.place + width) f
    go false b d f g = cc

-- so many bits don't pass the limit
pub taken_limit : (c : Cursor) (width : ℕ) → passes c width ≡ None → c.place + width ≤ bit_limit
taken_limit c width e = go (is_within (c.place + width) c.opens) (nat_lt bit_limit (c.place + width)) (nat_lt (8 * length c.octets)
    (c.place + width)) refl e
  where
    go : (a b d : Bool) → nat_lt bit_limit (c.place + width) ≡ b
        → cond a (cond b (Some reasons.TooLong) (cond d (Some reasons.Truncated) None)) (Some reasons.Overrun) ≡ None
        → c.place + width ≤ bit_limit
    go true true d f g = cc
    go true false d f g = not_below bit_limit (c.place + width) f
    go false b d f g = cc

taken_small : (bits : List Bool) (n : ℕ) → number_of (first n bits) < 2 ^ n
taken_small bits n =
    let short : length (first n bits) ≤ n = omega (arith, length-take n bits) in
    omega (arith, number_small (first n bits), pow-le-pow_right {n = 2} (omega arith) short)

pub answer_read : (question : Ask) (c : Cursor) (n : ℕ) → read question c ≡ Ok n → Answered question c n
unfolding read
answer_read question c n e = go (passes c (asked_width question c)) refl e
  where
    m : ℕ
    m = number_of (first (asked_width question c) (bits_at c))

    judge : passes c (asked_width question c) ≡ None → (j : Option Reason) → judged question c m ≡ j → answered question c m j ≡ Ok n
        → Answered question c n
    judge room None is h = record {
      m = m;
      bits = refl;
      small = taken_small (bits_at c)
          (asked_width question c);
      right = is;
      same = inner h;
      room = room;
    }
      where
        inner : answered question c m None ≡ Ok n → answer_of question c m ≡ n
        inner g = cc
    judge room (Some reason) is h = cc

    go : (r : Option Reason) → passes c (asked_width question c) ≡ r → read_within question c r ≡ Ok n → Answered question c n
    go None is h = judge is (judged question c m) refl h
    go (Some reason) is h = cc

-- a judgement that finds nothing wrong
pub not_wrong : (b : Bool) (reason : Reason) → unless b reason ≡ None → b ≡ true
not_wrong true reason e = refl
not_wrong false reason e = cc
