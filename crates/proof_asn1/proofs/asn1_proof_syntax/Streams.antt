-- The items of a text end with the first that no module goes on with.
use Rattle.std.proofs.Common.{◌≡◌, ℕ, ◌+◌, ◌≤◌, ◌<◌, List, [], ◌∷◌, zero, suc, length, Bool, true, false, cond, refl, arith}
use Rattle.asn1_tokens.specs.declared.token.Token.{Token}
use Rattle.asn1_tokens.specs.declared.token.Token.TheVariants as tokens
use Rattle.asn1_tokens.specs.declared.scan.Gap.TheVariants.{Between}
use Rattle.asn1_tokens.specs.Scan.{after_gap, lexeme_at}
use Rattle.asn1_tokens.specs.Stream.{Placed, placed, is_last, scan, items_of, first_token, others}
use Rattle.asn1_tokens.proofs.StreamLemmas.{rest-shorter}
use Rattle.asn1_defs.specs.Grammar.{Terminal, fits, Symbol}
use Rattle.proof_asn1.proofs.grammar.Steps.{Steps, here, shift, expand}

pub data IsStream : List Placed → Type 0 where
  alone : {p : Placed} → is_last p.token ≡ true → IsStream (p ∷ [])
  before : {p : Placed} {ps : List Placed} → is_last p.token ≡ false → IsStream ps → IsStream (p ∷ ps)

scan-stream : (total fuel : ℕ) (text : List ℕ) → length text < fuel → IsStream (scan total fuel text)
unfolding scan
scan-stream total zero text h = absurd (omega arith)
scan-stream total (suc fuel) text h =
    go (is_last (lexeme_at (after_gap Between text)).token) refl (λ f. scan-stream total fuel (lexeme_at (after_gap Between text)).rest (omega (arith, h, rest-shorter text f)))
  where
    go : (b : Bool) → is_last (lexeme_at (after_gap Between text)).token ≡ b → (is_last (lexeme_at (after_gap Between text)).token ≡ false → IsStream (scan total fuel (lexeme_at (after_gap Between text)).rest)) → IsStream (placed total (after_gap Between text) (lexeme_at (after_gap Between text)) ∷ cond b [] (scan total fuel (lexeme_at (after_gap Between text)).rest))
    go true e on = alone e
    go false e on = before e (on e)

pub items-stream : (text : List ℕ) → IsStream (items_of text)
items-stream text = scan-stream (length text) (suc (length text)) text (omega arith)

scan-le : (total fuel : ℕ) (text : List ℕ) → length (scan total fuel text) ≤ fuel
unfolding scan
scan-le total zero text = omega arith
scan-le total (suc fuel) text = go (is_last (lexeme_at (after_gap Between text)).token) (scan-le total fuel (lexeme_at (after_gap Between text)).rest)
  where
    go : (b : Bool) → length (scan total fuel (lexeme_at (after_gap Between text)).rest) ≤ fuel → length (placed total (after_gap Between text) (lexeme_at (after_gap Between text)) ∷ cond b [] (scan total fuel (lexeme_at (after_gap Between text)).rest)) ≤ suc fuel
    go true h = omega arith
    go false h = omega (arith, h)

pub items-le : (text : List ℕ) → length (items_of text) ≤ length text + 1
items-le text = omega (arith, scan-le (length text) (suc (length text)) text)

-- an item that fits isn't the last
not_last : (k : Terminal) (t : Token) → fits k t ≡ true → is_last t ≡ false
not_last k (tokens.Upper name) h = refl
not_last k (tokens.Lower name) h = refl
not_last k (tokens.Number value) h = refl
not_last k (tokens.Word found) h = refl
not_last k (tokens.Sign found) h = refl
not_last k tokens.OutOfProfile h = cc
not_last k tokens.Nothing h = cc
not_last k tokens.EndOfText h = cc

behind : (k : Terminal) {ts : List Placed} → IsStream ts → fits k (first_token ts) ≡ true → IsStream (others ts)
behind k (alone {p} e) h = absurd (clash (not_last k p.token h))
  where
    clash : is_last p.token ≡ false → ⊥
    clash f = cc
behind k (before e more) h = more

pub still : {symbols left : List Symbol} {ts us : List Placed} → Steps symbols ts left us → IsStream ts → IsStream us
still here s = s
still (shift {k} h more) s = still more (behind k s h)
still (expand b h more) s = still more s

-- a stream has a first item
pub first_of_stream : {ts : List Placed} → IsStream ts → (p : Placed) × (ps : List Placed) × (ts ≡ p ∷ ps)
first_of_stream (alone {p} e) = (p, [], refl)
first_of_stream (before {p} {ps} e more) = (p, ps, refl)
