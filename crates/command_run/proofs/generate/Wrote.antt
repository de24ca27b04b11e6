-- What writing at the end comes to.
use Rattle.std.proofs.Common.{◌≡◌, inl, inr, List, ℕ, Some, None, refl, sym, ap, ◌∙◌, subst}
use Rattle.gnb_base.specs.Outside.{SourceAt, SinkAt}
use Rattle.run_defs.specs.States.{outstanding, spent_counter}
use Rattle.run_defs.specs.Runs.{Transcript}
use Rattle.command_defs.specs.declared.CommonEnd.TheVariants.{WriteFault, Memory}
use Rattle.command_defs.specs.declared.Status.{Status}
use Rattle.command_defs.specs.Outside.{OutsideAt, outside}
use Rattle.command_defs.specs.Output.{Prints}
use Rattle.command_defs.specs.Statuses.{done_status, common_status}
use Rattle.commands.specs.command_output.Writes.{WritesAll, WritesFront}
use Rattle.command_run.specs.declared.generate.end.GenerateEnd.{GenerateEnd}
use Rattle.command_run.specs.declared.generate.end.GenerateEnd.TheVariants.{Done, Outstanding, Spent}
use Rattle.command_run.specs.generate.Ends.{generate_status, EndMeets, summary, end_text}
use Rattle.command_run.specs.generate.Generate.{Written, Cut, Unwritten, GenerateMeets, GeneratesWholly}

-- both clauses
pub record Holds (run : Transcript (List ℕ)) (packets : ℕ) (before after : OutsideAt) (status : Status) : Type 0 where
  pub meets : GenerateMeets run packets before after status
  pub complete : GeneratesWholly run packets before after status

module _ (run : Transcript (List ℕ)) (packets : ℕ) (source : SourceAt) (a b : SinkAt) (status : Status) where
  pub no_memory : status ≡ common_status Memory → b ≡ a → Holds run packets (outside source a) (outside source b) status
  no_memory e same = record {
    meets = record { unread = refl; prints = Unwritten e same };
    complete = λ none goes. inr (ap (λ (s : Status). s.code) e);
  }

  whole : (end : GenerateEnd) → EndMeets run packets end → status ≡ generate_status end → Prints a b (end_text end) → run.stop ≡ None
      → (status ≡ done_status) × Prints a b (summary packets)
  whole (Done count) m e p goes = (e, (subst (λ (n : ℕ). Prints a b (summary n)) m.1 p))
  whole (Outstanding place o) m e p goes =
      absurd (let clash : None ≡ Some (outstanding o.key o.span o.window) = sym goes ∙ m.0 in cc)
  whole (Spent place counter) m e p goes = absurd (let clash : None ≡ Some (spent_counter counter) = sym goes ∙ m.0 in cc)

  pub wrote_all : (end : GenerateEnd) (text : List ℕ) → EndMeets run packets end → text ≡ end_text end → status ≡ generate_status end
      → WritesAll a b text
      → Holds run packets (outside source a) (outside source b) status
  wrote_all end text m same e w =
      let all = subst (WritesAll a b) same w in
      record {
        meets = record { unread = refl; prints = Written end m e all.prints all.none };
        complete = λ none goes. inl (whole end m e all.prints goes);
      }

  pub wrote_front : (end : GenerateEnd) (text : List ℕ) → EndMeets run packets end → text ≡ end_text end → status ≡ common_status WriteFault
      → WritesFront a b text
      → Holds run packets (outside source a) (outside source b) status
  wrote_front end text m same e w =
      let front = subst (WritesFront a b) same w in
      record {
        meets = record { unread = refl; prints = Cut end m e front.prints front.last };
        complete = λ none goes. absurd (none.writes front.last.faults);
      }
