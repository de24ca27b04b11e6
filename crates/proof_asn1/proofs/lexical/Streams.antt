-- The items of a text are those that its gaps leave, and no others.
use Rattle.std.proofs.Common.{◌≡◌, ℕ, zero, suc, ◌<◌, List, [], ◌∷◌, length, Bool, true, false, cond, refl, sym, ap, ◌∙◌, arith}
use Rattle.asn1_tokens.specs.declared.scan.Gap.TheVariants.{Between}
use Rattle.asn1_tokens.specs.declared.token.Token.{Token}
use Rattle.asn1_tokens.specs.Scan.{after_gap, lexeme, lexeme_at}
use Rattle.asn1_tokens.specs.Stream.{Placed, placed, is_last, scan, after, items_of}
use Rattle.asn1_tokens.proofs.StreamLemmas.{rest-shorter, made, advanced}
use Rattle.asn1_defs.specs.Items.{IsGap, IsItem, AreItems, last, more}
use Rattle.proof_asn1.proofs.lexical.Gaps.{told, gap_passed}
use Rattle.proof_asn1.proofs.lexical.Items.{item_here}
use Rattle.proof_asn1.proofs.lexical.ItemsRead.{item_read}

-- an item, and those behind it if it isn't the last
one_more : (total : ℕ) (text here : List ℕ) (items : List Placed) (b : Bool) → IsGap text here → is_last (lexeme_at here).token ≡ b → (b ≡ false → AreItems total (lexeme_at here).rest items) → AreItems total text (placed total here (lexeme_at here) ∷ cond b [] items)
one_more total text here items true gap e on = last gap (item_here here) e
one_more total text here items false gap e on = more gap (item_here here) e (on refl)

scanned : (total fuel : ℕ) (text : List ℕ) → length text < fuel → AreItems total text (scan total fuel text)
unfolding scan
scanned total zero text h = absurd (omega (arith, h))
scanned total (suc fuel) text h =
    one_more total text (after_gap Between text) (scan total fuel (lexeme_at (after_gap Between text)).rest) (is_last (lexeme_at (after_gap Between text)).token) (told Between text) refl
    (λ f. scanned total fuel (lexeme_at (after_gap Between text)).rest (omega (arith, h, rest-shorter text f)))

pub all_items : (text : List ℕ) → AreItems (length text) text (items_of text)
all_items text = scanned (length text) (suc (length text)) text (omega arith)

first_scanned : (total : ℕ) (text here : List ℕ) (token : Token) (rest : List ℕ) → IsGap text here → IsItem here token rest → placed total here (lexeme token rest) ∷ after total token rest ≡ scan total (suc (length text)) text
first_scanned total text here token rest gap it = made total text here token rest (sym (gap_passed gap)) (item_read it)

-- items are those of a scan
pub items_scanned : {total : ℕ} {text : List ℕ} {items : List Placed} → AreItems total text items → items ≡ scan total (suc (length text)) text
items_scanned {total} (last {text} {here} {rest} {token} gap it e) =
    ap (λ (b : Bool). placed total here (lexeme token rest) ∷ cond b [] (scan total (suc (length rest)) rest)) (sym e)
    ∙ first_scanned total text here token rest gap it
items_scanned {total} (more {text} {here} {rest} {token} gap it e k) =
    ap (λ (ps : List Placed). placed total here (lexeme token rest) ∷ ps) (items_scanned k ∙ sym (advanced total token rest e))
    ∙ first_scanned total text here token rest gap it
