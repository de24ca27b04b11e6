-- What a sink takes, one piece after another, and its count of faults.
use Rattle.std.proofs.Common.{◌≡◌, ℕ, List, [], ◌∷◌, ◌++◌, take, drop, Option, true, false, refl, sym, ap, ◌∙◌, append_assoc, subst}
use Rattle.std.proofs.lemmas.List.{append-nil, take-append-drop}
use Rattle.std.proofs.KnownBytes.{Appends-nil, Appends-trans}
use Rattle.std.specs.Io.KnownBytes.{Appends}
use Rattle.gnb_base.specs.Outside.{SinkAt, Rose, one_more}
use Rattle.command_defs.specs.input_defs.Faults.{NoReadFailed}
use Rattle.command_defs.specs.Outside.{OutsideAt, NoWriteFailed, LastWriteFailed}
use Rattle.command_defs.specs.Output.{Prints, PrintsFront, PrintsAtLeast, WritesBeforeReads}
use Rattle.commands.specs.command_output.Writes.{WritesAll, WritesFront}

-- ---- faults

pub none_failed : (a : SinkAt) → NoWriteFailed a a
none_failed a = record { faults = refl; failed = λ h. h }

pub none_failed_at : (a b : SinkAt) → b.faults ≡ a.faults → b.failed ≡ false → NoWriteFailed a b
none_failed_at a b e f = record { faults = e; failed = λ (t : b.failed ≡ true). (let clash : false ≡ true = sym f ∙ t in absurd (cc)) }

pub last_failed_at : (a b : SinkAt) → Rose a.faults b.faults → b.failed ≡ true → LastWriteFailed a b
last_failed_at a b e f = record { faults = e; failed = f }

pub none_then_none : {a b c : SinkAt} → NoWriteFailed a b → NoWriteFailed b c → NoWriteFailed a c
none_then_none h k = record { faults = k.faults ∙ h.faults; failed = λ e. h.failed (k.failed e) }

pub none_then_last : {a b c : SinkAt} → NoWriteFailed a b → LastWriteFailed b c → LastWriteFailed a c
none_then_last h k = record { faults = k.faults ∙ ap one_more h.faults; failed = k.failed }

-- ---- text

pub prints_none : (a : SinkAt) → Prints a a []
prints_none a = record { appends = Appends-nil a.held }

pub prints_more : {a b c : SinkAt} {x y : List ℕ} → Prints a b x → Prints b c y → Prints a c (x ++ y)
prints_more {a = a} {b = b} {c = c} {x = x} {y = y} h k = record { appends = Appends-trans a.held b.held c.held x y h.appends k.appends }

-- one more piece of a text is written
pub one_more_piece : {a b c : SinkAt} {text rest : List ℕ} (n : ℕ) (rest1 : List ℕ)
    → (part : List ℕ) × (text ≡ part ++ rest) × Prints a b part → Appends b.held c.held (take n rest)
    → rest1 ≡ drop n rest → (part : List ℕ) × (text ≡ part ++ rest1) × Prints a c part
one_more_piece {rest = rest} n rest1 h k e = (
  h.0 ++ take n rest,
  h.1 ∙ ap (λ ys. h.0 ++ ys) (sym (take-append-drop n rest)) ∙ sym (append_assoc h.0 _ _) ∙ ap (λ ys. (h.0 ++ take n rest) ++ ys) (sym e),
  prints_more h.2 (record { appends = k }),
)

-- ---- fronts of a text

pub front_none : (a : SinkAt) (text : List ℕ) → PrintsFront a a text
front_none a text = record { part = []; rest = text; parts = refl; prints = prints_none a }

-- a text that was written, and a front of another one
pub front_more : {a b c : SinkAt} {x y : List ℕ} → Prints a b x → PrintsFront b c y → PrintsFront a c (x ++ y)
front_more {x = x} h k = record {
  part = x ++ k.part;
  rest = k.rest;
  parts = ap (λ ys. x ++ ys) k.parts ∙ sym (append_assoc x k.part k.rest);
  prints = prints_more h k.prints;
}

-- a front of a front
pub front_of : {a b : SinkAt} {x : List ℕ} (y : List ℕ) → PrintsFront a b x → PrintsFront a b (x ++ y)
front_of y h =
    record { part = h.part; rest = h.rest ++ y; parts = ap (λ ys. ys ++ y) h.parts ∙ append_assoc h.part h.rest y; prints = h.prints }

-- all of it
pub front_all : {a b : SinkAt} {x : List ℕ} → Prints a b x → PrintsFront a b x
front_all {x = x} h = record { part = x; rest = []; parts = sym (append-nil x); prints = h }

-- ---- at each read

-- a text, and what was written after it
pub at_least : {a b c : SinkAt} {text : List ℕ} → Prints a b text → (more : List ℕ) × Prints b c more → PrintsAtLeast a c text
at_least h k = record { more = k.0; prints = prints_more h k.1 }

pub no_read_failed : (before after : OutsideAt) (text : List ℕ) → NoReadFailed before.source after.source → WritesBeforeReads before after text
no_read_failed before after text none fresh failed = (let clash : false ≡ true = sym fresh ∙ none.failed failed in absurd (cc))

-- ---- both

pub all_none : (a : SinkAt) → WritesAll a a []
all_none a = record { prints = prints_none a; none = none_failed a }

pub all_more : {a b c : SinkAt} {x y : List ℕ} → WritesAll a b x → WritesAll b c y → WritesAll a c (x ++ y)
all_more h k = record { prints = prints_more h.prints k.prints; none = none_then_none h.none k.none }

pub all_then_front : {a b c : SinkAt} {x y : List ℕ} → WritesAll a b x → WritesFront b c y → WritesFront a c (x ++ y)
all_then_front h k = record { prints = front_more h.prints k.prints; last = none_then_last h.none k.last }

-- a write failed after a front of the text was written
pub cut_at : {a b c : SinkAt} {text rest : List ℕ} → (part : List ℕ) × (text ≡ part ++ rest) × Prints a b part → NoWriteFailed a b
    → Appends b.held c.held [] → LastWriteFailed b c
    → WritesFront a c text
cut_at {a = a} {c = c} {rest = rest} h none k last = record {
  prints =
      record { part = h.0; rest = rest; parts = h.1; prints = subst (λ (ys : List ℕ). Prints a c ys) (append-nil h.0) (prints_more h.2 (record { appends = k })) };
  last = none_then_last none last;
}
