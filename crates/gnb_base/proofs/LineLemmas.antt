-- Bytes without LF, and the front of a piece that a read filled.
use Rattle.std.proofs.Common.{◌≡◌, ◌≢◌, ◌==◌, ℕ, zero, suc, ◌+◌, ◌-◌, ◌<◌, ◌≤◌, Bool, true, false, if◌then◌else◌, List, [], ◌∷◌, ◌++◌, length, get_or, take, Option, Some, None, MatchOption, Result, Ok, Err, refl, sym, ap, ◌∙◌, subst, arith, eqb-true, eq-eqb}
use Rattle.std.proofs.lemmas.List.{take_more, take_all, take-append-le}
use Rattle.std.specs.Io.{ReadsAtMost}
use Rattle.std.specs.Io.KnownBytes.{ReadConsumes, Consumes}
use Rattle.memchr.specs.Find.{Nowhere, Passes, IsFirst, is_byte}
use Rattle.gnb_base.specs.Lines.{line_feed, HasNoLf, IsFirstLf, past_line}
use Rattle.gnb_base.specs.Pieces.{FillsFront}
use Rattle.gnb_base.specs.Reading.{piece_size}

pub HasNoLf-append : (xs ys : List ℕ) → HasNoLf xs → HasNoLf ys → HasNoLf (xs ++ ys)
HasNoLf-append [] ys p q = q
HasNoLf-append (x ∷ xs) ys p q = (p.0, HasNoLf-append xs ys p.1 q)

pub HasNoLf-front : (xs ys : List ℕ) → HasNoLf (xs ++ ys) → HasNoLf xs
HasNoLf-front [] ys h = tt
HasNoLf-front (x ∷ xs) ys h = (h.0, HasNoLf-front xs ys h.1)

pub HasNoLf-back : (xs ys : List ℕ) → HasNoLf (xs ++ ys) → HasNoLf ys
HasNoLf-back [] ys h = h
HasNoLf-back (x ∷ xs) ys h = HasNoLf-back xs ys h.1

HasNoLf-at : (xs : List ℕ) (i : ℕ) → i < length xs → HasNoLf xs → get_or xs i 0 ≢ line_feed
HasNoLf-at [] i inside h = absurd (omega (arith, inside))
HasNoLf-at (x ∷ xs) zero inside h = h.0
HasNoLf-at (x ∷ xs) (suc i) inside h = HasNoLf-at xs i (omega (arith, inside)) h.1

pub first_lf_is_one : (xs ys : List ℕ) (i : ℕ) → IsFirstLf ys i → HasNoLf (xs ++ ys) → ⊥
first_lf_is_one xs ys i lf h = HasNoLf-at ys i lf.in_range (HasNoLf-back xs ys h) lf.here

pub HasNoLf-more : (xs : List ℕ) (i : ℕ) → i < length xs → HasNoLf (take i xs) → get_or xs i 0 ≢ line_feed → HasNoLf (take (i + 1) xs)
HasNoLf-more xs i h before here = subst HasNoLf (sym (take_more xs i 0 h)) (HasNoLf-append (take i xs) (get_or xs i 0 ∷ []) before (here, tt))

pub HasNoLf-all : (xs : List ℕ) (i : ℕ) → length xs ≤ i → HasNoLf (take i xs) → HasNoLf xs
HasNoLf-all xs i h before = subst HasNoLf (take_all i xs h) before

-- where no place up to n holds an LF
no_lf_up_to : (xs : List ℕ) (n : ℕ) → n ≤ length xs → Nowhere (Passes (is_byte line_feed) xs) 0 n → HasNoLf (take n xs)
no_lf_up_to xs zero h none = tt
no_lf_up_to xs (suc n) h none =
    let next : n + 1 ≡ suc n = omega arith in
    subst (λ (m : ℕ). HasNoLf (take m xs)) next
    (HasNoLf-more xs n (omega arith) (no_lf_up_to xs n (omega arith) (λ k low high. none k low (omega arith)))
    (λ lf. none n (omega arith) (omega arith) (eq-eqb (get_or xs n 0) line_feed lf)))

-- the first byte that is an LF, as `memchr` finds it
pub first_lf : (xs : List ℕ) (r : Option ℕ) → IsFirst (Passes (is_byte line_feed) xs) 0 (length xs) r
    → MatchOption r (HasNoLf xs) (λ i. IsFirstLf xs i)
first_lf xs None none = HasNoLf-all xs (length xs) (omega arith) (no_lf_up_to xs (length xs) (omega arith) none)
first_lf xs (Some i) found =
    record {
      in_range = found.0.high;
      before = no_lf_up_to xs i (omega (arith, found.0.high)) found.0.before;
      here = eqb-true (get_or xs i 0) line_feed found.1;
    }

pub fills_front : {E : Type 0} (left0 left1 : Option (List ℕ)) (wanted : ℕ) (r : Result ℕ E) (front rest : List ℕ)
    → ReadConsumes left0 left1 r front → ReadsAtMost r front → length front ≡ wanted → FillsFront left0 left1 wanted r (front ++ rest)
fills_front left0 left1 wanted (Ok n) front rest consumes most same =
    (subst (Consumes left0 left1) (sym (take-append-le n front rest most.0)) consumes.0, λ none asked. consumes.1 none (omega arith))
fills_front left0 left1 wanted (Err e) front rest consumes most same = consumes

-- ---- the bytes after the first LF

other_byte : (byte : ℕ) (test : Bool) (xs ys : List ℕ) → byte ≢ line_feed → test ≡ (byte == line_feed) → (if test then xs else ys) ≡ ys
other_byte byte true xs ys other tested = absurd (other (eqb-true byte line_feed (sym tested)))
other_byte byte false xs ys other tested = refl

pub past_line-skips : (xs ys : List ℕ) → HasNoLf xs → past_line (xs ++ ys) ≡ past_line ys
past_line-skips [] ys h = refl
past_line-skips (x ∷ xs) ys h = other_byte x (x == line_feed) (xs ++ ys) (past_line (xs ++ ys)) h.0 refl ∙ past_line-skips xs ys h.1

fewer : (test : Bool) (xs ys : List ℕ) (n : ℕ) → length xs ≤ n → length ys ≤ n → length (if test then xs else ys) ≤ n
fewer true xs ys n h k = h
fewer false xs ys n h k = k

-- a line of some bytes, ended or not, leaves fewer
pub past_line-length : (xs : List ℕ) → length (past_line xs) ≤ length xs - 1
past_line-length [] = omega arith
past_line-length (x ∷ xs) = fewer (x == line_feed) xs (past_line xs) (length (x ∷ xs) - 1) (omega arith) (omega (arith, past_line-length xs))

-- after bytes without LF and at most a piece more, fewer than one read asks for
pub few_after : (xs ys : List ℕ) → HasNoLf xs → length ys ≤ piece_size → length (past_line (xs ++ ys)) < piece_size
few_after xs ys h short = omega (arith, ap (λ (zs : List ℕ). length zs) (past_line-skips xs ys h), past_line-length ys)

-- after a line
pub few_past : (all text rest : List ℕ) → all ≡ text ++ line_feed ∷ rest → HasNoLf text → length rest < piece_size
    → length (past_line all) < piece_size
few_past all text rest e h short = omega (arith, ap (λ (xs : List ℕ). length (past_line xs)) e, ap length (past_line-skips text (line_feed ∷ rest) h))
