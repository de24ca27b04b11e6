-- What is outstanding, and what comes of a packet that is received.
use Rattle.std.proofs.Common.{◌≡◌, ℕ, ◌-◌, Bool, true, false, cond, nat_lt, min, fold, List, [], ◌∷◌, ◌++◌, map, Some, refl, sym, ap, ◌∙◌, arith, append_assoc}
use Rattle.std.specs.Ordering.{nat_cmp}
use Rattle.std.proofs.lemmas.Bool.Decides.{nat_tests}
use Rattle.gnb_types.specs.declared.names.SnBits.{SnBits}
use Rattle.tables.specs.Tables.{put}
use Rattle.pdcp_defs.specs.Receivers.{Receiver, is_duplicate, stored, deliver, deliver_from}
use Rattle.dup_defs.specs.declared.types.line.DupLine.{DupLine}
use Rattle.dup_defs.specs.declared.types.line.DupLine.TheVariants as lines
use Rattle.dup_defs.specs.dup_run_defs.Run.{received, handed_up, DupRun, DupOutcome, goes_on, lines_first, counts_on, undelivered, outstanding, span_from, span}
use Rattle.dup_bearer.specs.dup_pdcp.Entity.{DupTxState}
use Rattle.dup_bearer.specs.legs.Legs.{LegsState}
use Rattle.dup_bearer.specs.Bearers.{BearerState, deliver_line}
use Rattle.dup_bearer.specs.inside.Views.{run_state, bearer_state}
use Rattle.dup_bearer.specs.inside.Parts.{IsPart}

-- ---- what is outstanding

fold_append : (a : ℕ) (xs ys : List ℕ) → fold min a (xs ++ ys) ≡ fold min (fold min a xs) ys
fold_append a [] ys = refl
fold_append a (x ∷ xs) ys = fold_append (min a x) xs ys

min_assoc : (a b c : ℕ) → min (min a b) c ≡ min a (min b c)
min_assoc a b c = omega arith

fold_min : (a b : ℕ) (xs : List ℕ) → fold min (min a b) xs ≡ min a (fold min b xs)
fold_min a b [] = refl
fold_min a b (x ∷ xs) = ap (λ n. fold min n xs) (min_assoc a b x) ∙ fold_min a (min b x) xs

-- from the least of the next COUNT and these
pub span_least : (next : ℕ) (counts : List ℕ) → next - fold min next counts ≡ span_from next counts
span_least next [] = omega arith
span_least next (c ∷ cs) = let m = fold_min next c cs in let n = fold min c cs in omega (arith, m)

pub awaited_least : (next deliv : ℕ) → fold min next (cond (nat_lt deliv next) (deliv ∷ []) []) ≡ min next deliv
awaited_least next deliv = by (nat_lt deliv next) refl
  where
    by : (b : Bool) → nat_lt deliv next ≡ b → fold min next (cond b (deliv ∷ []) []) ≡ min next deliv
    by true is = refl
    by false is = grind (arith, nat_tests)

pub span_is : (s : DupRun) (least : ℕ) → least ≡ fold min (min s.entity.sender.next s.receiver.deliv) (counts_on s.first ++ counts_on s.second)
    → s.entity.sender.next - least ≡ span s
unfolding span
span_is s least is =
    let next = s.entity.sender.next in
    let counts = counts_on s.first ++ counts_on s.second in
    ap (λ n. next - n)
    (is
    ∙ (ap (λ n. fold min n counts) (sym (awaited_least next s.receiver.deliv))
    ∙ (sym (fold_append next (undelivered s) counts) ∙ ap (λ (xs : List ℕ). fold min next xs) (sym (append_assoc (undelivered s) (counts_on s.first) (counts_on s.second))))))
    ∙ span_least next (outstanding s)

-- ---- a packet is received

pub is_dropped : (packet : List ℕ) (s : DupRun) (count : ℕ) → is_duplicate s.receiver count ≡ true → received packet s (Some count) ≡ goes_on (lines.DropDuplicate ∷ []) s
is_dropped packet s count is =
    ap (λ b. cond b (goes_on (lines.DropDuplicate ∷ []) s) (handed_up s (deliver (stored s.receiver count packet)))) is

pub is_stored : (packet : List ℕ) (s : DupRun) (count : ℕ) → is_duplicate s.receiver count ≡ false
    → received packet s (Some count) ≡ handed_up s (deliver (stored s.receiver count packet))
is_stored packet s count is =
    ap (λ b. cond b (goes_on (lines.DropDuplicate ∷ []) s) (handed_up s (deliver (stored s.receiver count packet)))) is

pub drops : (o : DupOutcome) (old : BearerState) (a b : List DupLine) → o ≡ goes_on (lines.DropDuplicate ∷ []) old.run → b ≡ a ++ lines.DropDuplicate ∷ []
    → IsPart o old old a b
drops o old a b is pushed = record {
  lines = ap (λ (d : DupOutcome). lines_first a d) is ∙ ap (λ (ls : List DupLine). goes_on ls old.run) (sym pushed);
  same = refl;
}

-- what is stored, and what is handed up from it
pub delivers : (n : SnBits) (tx : DupTxState) (l : LegsState) (deliv next : ℕ) (es fs gs : List (ℕ × List ℕ)) (count : ℕ) (packet : List ℕ) (ups : List (ℕ × List ℕ)) (a b : List DupLine)
    → fs ≡ put nat_cmp es count packet → ups ≡ (deliver_from deliv fs).packets → (deliver_from deliv fs).after ≡ record { deliv = next; stored = gs }
    → b ≡ a ++ map deliver_line ups
    → IsPart (handed_up (run_state tx l deliv es) (deliver (stored (record { deliv = deliv; stored = es }) count packet)))
    (bearer_state n tx l deliv es) (bearer_state n tx l next gs) a b
unfolding deliver stored
delivers n tx l deliv next es fs gs count packet ups a b put_is up after printed =
    let s = run_state tx l deliv es in
    record {
      lines =
          ap (λ (xs : List (ℕ × List ℕ)). goes_on (a ++ map deliver_line (deliver_from deliv xs).packets) (record s { receiver = (deliver_from deliv xs).after })) (sym put_is)
          ∙ (ap (λ (xs : List (ℕ × List ℕ)). goes_on (a ++ map deliver_line xs) (record s { receiver = (deliver_from deliv fs).after })) (sym up)
          ∙ (ap (λ (r : Receiver (List ℕ)). goes_on (a ++ map deliver_line ups) (record s { receiver = r })) after
          ∙ ap (λ (ls : List DupLine). goes_on ls (run_state tx l next gs)) (sym printed)));
      same = refl;
    }
