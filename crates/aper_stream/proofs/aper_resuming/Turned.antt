-- The turns of a decoder, from the first one to where they end, and with more octets.
use Rattle.std.proofs.Common.{◌≡◌, ℕ, List, [], ◌++◌, Result, Ok, Err, refl, sym, ap, ◌∙◌, append_assoc, append-nil}
use Rattle.aper_defs.specs.declared.reason.Reason.{Reason}
use Rattle.aper_defs.specs.Trees.{Tree}
use Rattle.aper_defs.specs.Values.{Value}
use Rattle.aper_defs.specs.Fields.{Path}
use Rattle.aper_defs.specs.Questions.{Prog}
use Rattle.aper_defs.specs.Asking.{asks_whole}
use Rattle.aper_defs.specs.Reading.{Cursor, Fault, at_first, run}
use Rattle.proof_aper.specs.pieces.Onto.{onto}
use Rattle.aper_cursor.specs.asking.Going.{fault_at}
use Rattle.aper_stream.specs.aper_resuming.Reading.{IsReading}

no_more : (c : Cursor) → onto [] c ≡ c
no_more c = ap (λ (os : List ℕ). (let d : Cursor = record { octets = os; place = c.place; opens = c.opens } in d)) (append-nil c.octets)

further : (a b : List ℕ) (c : Cursor) → onto b (onto a c) ≡ onto (a ++ b) c
further a b c =
    ap (λ (os : List ℕ). (let d : Cursor = record { octets = os; place = c.place; opens = c.opens } in d)) (append_assoc c.octets a b)

-- the first turn
pub at_beginning : (t : Tree) (kept : List ℕ) → IsReading t kept (at_first kept) (asks_whole t)
at_beginning t kept = record { octets = refl; asked = λ more. refl }

module _ (t : Tree) (kept : List ℕ) (c : Cursor) (left : Prog) (r : IsReading t kept c left) where
  -- with one more piece
  pub with_more : (piece : List ℕ) → IsReading t (kept ++ piece) (onto piece c) left
  with_more piece = record {
    octets = ap (λ (os : List ℕ). os ++ piece) r.octets;
    asked = λ more.
        ap (λ (os : List ℕ). run (asks_whole t) (at_first os)) (append_assoc kept piece more)
        ∙ r.asked (piece ++ more)
        ∙ ap (run left) (sym (further piece more c));
  }

  -- after a turn
  pub turned : (rest : Prog) (d : Cursor) → d.octets ≡ c.octets → ((more : List ℕ) → run left (onto more c) ≡ run rest (onto more d))
      → IsReading t kept d rest
  turned rest d same asked = record { octets = same ∙ r.octets; asked = λ more. r.asked more ∙ asked more }

  -- the value is there
  pub ended : (v : Value) (d : Cursor) → d.octets ≡ c.octets → ((more : List ℕ) → run left (onto more c) ≡ Ok (v, onto more d))
      → run (asks_whole t) (at_first kept) ≡ Ok (v, record { octets = kept; place = d.place; opens = d.opens })
  ended v d same asked =
      ap (λ (os : List ℕ). run (asks_whole t) (at_first os)) (sym (append-nil kept))
      ∙ r.asked [] ∙ asked []
      ∙ ap (λ (os : List ℕ). (let f : Result (Value × Cursor) Fault = Ok (v, record { octets = os; place = d.place; opens = d.opens }) in f))
      (append-nil d.octets ∙ same ∙ r.octets)

  -- the octets are wrong, or end here
  pub stopped : (reason : Reason) (way : Path) (d : Cursor) → run left c ≡ Err (fault_at d reason way)
      → run (asks_whole t) (at_first kept) ≡ Err (fault_at d reason way)
  stopped reason way d wrong =
      ap (λ (os : List ℕ). run (asks_whole t) (at_first os)) (sym (append-nil kept))
      ∙ r.asked [] ∙ ap (run left) (no_more c) ∙ wrong
