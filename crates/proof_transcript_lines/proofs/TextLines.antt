-- Each line of a transcript is read back from its text, also where its numbers are larger than any that `run` prints.
use Rattle.std.proofs.Common.{◌≡◌, ℕ, ◌<◌, ◌≤◌, ◌^◌, true, false, cond, List, Option, Some, None, [], ◌∷◌, ◌++◌, refl, ap, ◌∙◌, sym, arith, nat_eq, nat_lt, codes}
use Rattle.std.specs.Prelude.{slice_get}
use Rattle.std.specs.Fmt.{decimal}
use Rattle.std.specs.List.{slice_split}
use Rattle.std.proofs.lemmas.Bool.Decides.{nat_tests}
use Rattle.std.proofs.lemmas.Fmt.{decimal_digit}
use Rattle.gnb_types.specs.Names.{ue_text, bearer_text, dir_text}
use Rattle.gnb_types.specs.declared.names.Dir.{Dir}
use Rattle.gnb_types.specs.declared.names.UeId.{UeId}
use Rattle.gnb_types.specs.declared.names.BearerId.{BearerId}
use Rattle.scenario_text.specs.script_words.Forms.{bearer_of, dir_of, greatest_number}
use Rattle.scenario_text.specs.script_words.Ranges.{IsWithin, IsUe, IsBearer}
use Rattle.scenario_text.proofs.script_words.FormLaws.{ue_again, bearer_again}
use Rattle.scenario_text.specs.declared.line.OutLine.{OutLine}
use Rattle.scenario_text.specs.declared.line.OutLine.TheVariants as lines
use Rattle.scenario_text.specs.Print.{◌then◌, line_text}
use Rattle.transcript_defs.specs.declared.line.TextLine.{TextLine}
use Rattle.transcript_defs.specs.declared.line.TextLine.TheVariants.{Printed, LostMore, OutstandingWide}
use Rattle.transcript_defs.specs.Lines.{text_of, IsLine, IsProper}
use Rattle.proof_transcript_lines.proofs.Solid.{solid-decimal, solid-dir, solid_words}
use Rattle.proof_transcript_lines.proofs.ReadLines.{opt_then, then_some, count_of, count_of-decimal, dir_back, message_back, words_line, ReadsBack, reads_back, line_of, line_back, same_some}

-- the number that is the third word
pub third_number : List ℕ → Option ℕ
third_number text = opt_then (slice_get (slice_split (λ x. nat_eq x 32) text) 2) count_of

-- a line as it is, where its numbers aren't too large
pub sized : OutLine → Option ℕ → Option TextLine
sized (lines.LostMessage message) (Some items) = cond (nat_eq items 1) (Some (Printed (lines.LostMessage message))) (Some (LostMore message items))
sized (lines.LostMessage message) None = None
sized (lines.Outstanding ue bearer dir span window) number =
    cond (nat_lt window (2 ^ 32)) (Some (Printed (lines.Outstanding ue bearer dir span window))) (Some (OutstandingWide ue bearer dir span window))
sized line number = Some (Printed line)

-- what a text is read as
pub text_line_of : List ℕ → Option TextLine
text_line_of text = opt_then (line_of text) (λ line. sized line (third_number text))

lost_reads : (message items : ℕ) → IsWithin 1 greatest_number message → items < 2 ^ 64
    → ReadsBack (lines.LostMessage message) (text_of (LostMore message items))
unfolding text_of words_line
lost_reads message items h k = record {
  word = codes "lost";
  rest = (codes "#" ++ decimal message) ∷ decimal items ∷ [];
  words_are = refl;
  no_event = refl;
  solid_word = refl;
  solid_rest = (solid-decimal message (omega (arith, h.to)), (solid-decimal items k, tt));
  tell = ap (λ o. opt_then o (λ m. Some (lines.LostMessage m))) (message_back message h);
}

third_of_lost : (message items : ℕ) → IsWithin 1 greatest_number message → items < 2 ^ 64
    → third_number (text_of (LostMore message items)) ≡ Some items
unfolding third_number text_of
third_of_lost message items h k =
    ap (λ ws. opt_then (slice_get ws 2) count_of)
    (solid_words (codes "lost") ((codes "#" ++ decimal message) ∷ decimal items ∷ []) refl (solid-decimal message (omega (arith, h.to)), (solid-decimal items k, tt)))
    ∙ count_of-decimal items k

lost_one : (message : ℕ) → line_text (lines.LostMessage message) ≡ text_of (LostMore message 1)
unfolding line_text text_of
lost_one message = ap (λ w. codes "lost" then (codes "#" ++ decimal message) then w) (sym (decimal_digit 1 (omega arith)))

outstanding_reads : (ue : UeId) (bearer : BearerId) (dir : Dir) (span window : ℕ) → IsUe ue → IsBearer bearer → span < 2 ^ 64 → window < 2 ^ 64
    → ReadsBack (lines.Outstanding ue bearer dir span window) (text_of (OutstandingWide ue bearer dir span window))
unfolding text_of words_line
outstanding_reads ue bearer dir span window hu hb hs hw = record {
  word = codes "outstanding";
  rest = ue_text ue ∷ bearer_text bearer ∷ dir_text dir ∷ decimal span ∷ decimal window ∷ [];
  words_are = refl;
  no_event = refl;
  solid_word = refl;
  solid_rest = (solid-decimal ue.0 (omega (arith, hu.to)), (solid-decimal bearer.0 (omega (arith, hb.to)), (solid-dir dir, (solid-decimal span hs, (solid-decimal window hw, tt)))));
  tell = then_some (ue_again ue hu) (λ u. opt_then (bearer_of (bearer_text bearer)) (λ b. opt_then (dir_of (dir_text dir)) (λ d. opt_then (count_of (decimal span)) (λ s. opt_then (count_of (decimal window)) (λ w. Some (lines.Outstanding u b d s w))))))
      ∙ then_some (bearer_again bearer hb) (λ b. opt_then (dir_of (dir_text dir)) (λ d. opt_then (count_of (decimal span)) (λ s. opt_then (count_of (decimal window)) (λ w. Some (lines.Outstanding ue b d s w)))))
      ∙ then_some (dir_back dir) (λ d. opt_then (count_of (decimal span)) (λ s. opt_then (count_of (decimal window)) (λ w. Some (lines.Outstanding ue bearer d s w))))
      ∙ then_some (count_of-decimal span hs) (λ s. opt_then (count_of (decimal window)) (λ w. Some (lines.Outstanding ue bearer dir s w)))
      ∙ then_some (count_of-decimal window hw) (λ w. Some (lines.Outstanding ue bearer dir span w));
}

is_below : (window : ℕ) → window < 2 ^ 32 → nat_lt window (2 ^ 32) ≡ true
is_below window h = grind (arith, nat_tests)

is_above : (window : ℕ) → 2 ^ 32 ≤ window → nat_lt window (2 ^ 32) ≡ false
is_above window h = grind (arith, nat_tests)

not_one : (items : ℕ) → 2 ≤ items → nat_eq items 1 ≡ false
not_one items h = grind (arith, nat_tests)

-- `sized` answers the line, where it is one that `run` can print
sized_printed : (line : OutLine) → IsLine line → (number : Option ℕ) → third_number (line_text line) ≡ number
    → sized line number ≡ Some (Printed line)
unfolding sized line_text
sized_printed (lines.LostMessage message) h number is =
    ap (sized (lines.LostMessage message)) (sym is ∙ ap third_number (lost_one message) ∙ third_of_lost message 1 h (omega arith))
sized_printed (lines.Outstanding ue bearer dir span window) h number is =
    ap (λ b. cond b (Some (Printed (lines.Outstanding ue bearer dir span window))) (Some (OutstandingWide ue bearer dir span window))) (is_below window h.3)
sized_printed (lines.Happens event) h number is = refl
sized_printed (lines.Put link item) h number is = refl
sized_printed (lines.Got link item) h number is = refl
sized_printed (lines.PutMessage message) h number is = refl
sized_printed (lines.GotMessage message) h number is = refl
sized_printed (lines.Deliver ue bearer dir count packet) h number is = refl
sized_printed (lines.Lost link items) h number is = refl
sized_printed (lines.Drop node reason) h number is = refl
sized_printed (lines.Held link reason) h number is = refl
sized_printed (lines.Failed node ue cause) h number is = refl
sized_printed (lines.Quiet ue bearer downlink uplink) h number is = refl
sized_printed (lines.Busy ue bearer) h number is = refl
sized_printed (lines.Settled rounds) h number is = refl
sized_printed (lines.Unsettled rounds) h number is = refl
sized_printed (lines.Refused reason) h number is = refl
sized_printed (lines.End events) h number is = refl
sized_printed (lines.Stop code place reason) h number is = refl

-- A line is read back from its text.
pub text_line_back : (line : TextLine) → IsProper line → text_line_of (text_of line) ≡ Some line
unfolding text_line_of text_of sized
text_line_back (Printed line) h =
    then_some (line_back line h.0) (λ l. sized l (third_number (line_text line)))
    ∙ sized_printed line h.0 (third_number (line_text line)) refl
text_line_back (LostMore message items) h =
    then_some (reads_back (lines.LostMessage message) _ (lost_reads message items h.0 h.2)) (λ l. sized l (third_number (text_of (LostMore message items))))
    ∙ ap (sized (lines.LostMessage message)) (third_of_lost message items h.0 h.2)
    ∙ ap (λ b. cond b (Some (Printed (lines.LostMessage message))) (Some (LostMore message items))) (not_one items h.1)
text_line_back (OutstandingWide ue bearer dir span window) h =
    then_some (reads_back (lines.Outstanding ue bearer dir span window) _ (outstanding_reads ue bearer dir span window h.0 h.1 h.2 h.4)) (λ l. sized l (third_number (text_of (OutstandingWide ue bearer dir span window))))
    ∙ ap (λ b. cond b (Some (Printed (lines.Outstanding ue bearer dir span window))) (Some (OutstandingWide ue bearer dir span window))) (is_above window h.3)

-- No two lines have one text.
pub one_text_line : (a b : TextLine) → IsProper a → IsProper b → text_of a ≡ text_of b → a ≡ b
one_text_line a b h k e = same_some (text_line_of (text_of a)) a b (text_line_back a h) (ap text_line_of e ∙ text_line_back b k)
