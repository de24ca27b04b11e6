-- Where the questions are refused, octets go wrong by loose layouts.
use Rattle.std.proofs.Common.{◌≡◌, ℕ, ◌+◌, ◌*◌, ◌≤◌, ◌==◌, cond, Bool, true, false, List, [], ◌∷◌, ◌++◌, length, None, Result, Ok, Err, refl, sym, ap, subst, ◌∙◌, arith, append_assoc}
use Rattle.aper_defs.specs.declared.reason.Reason.{Reason}
use Rattle.aper_defs.specs.declared.reason.Reason.TheVariants as reasons
use Rattle.aper_defs.specs.Trees.{Tree}
use Rattle.aper_defs.specs.Values.{Value}
use Rattle.aper_defs.specs.Fields.{Path, RunUnit, Field, closing, end, asked, run as run_field}
use Rattle.aper_defs.specs.Bits.{unit_width, width_at}
use Rattle.aper_defs.specs.Layouts.{layout}
use Rattle.aper_defs.specs.Bounds.{IsBounded}
use Rattle.aper_defs.specs.Spelling.{Spells}
use Rattle.aper_defs.specs.Questions.{Prog, done, ask, take, never}
use Rattle.aper_defs.specs.Asking.{asks_whole}
use Rattle.aper_defs.specs.Reading.{Opened, Cursor, Fault, at_first, bit_limit, passes, ends_at, unless, answered, read, read_within, read_units, goes_on, answered_at, moved_by, after_field, run, only, decoded}
use Rattle.proof_aper.proofs.places.Bits.{total}
use Rattle.proof_aper.proofs.places.Placed.{Placed}
use Rattle.proof_aper.proofs.places.PlacedAll.{placed}
use Rattle.proof_aper.proofs.values.Found.{Ends, found_ask}
use Rattle.proof_aper.proofs.values.FoundBits.{units_are}
use Rattle.proof_aper.proofs.values.FoundValues.{found}
use Rattle.proof_aper.proofs.spelled.Spelled.{spelled_decoded}
use Rattle.aper_defs.specs.loose_defs.Loose.{LooseWhole}
use Rattle.aper_defs.specs.loose_defs.Wrong.{AllAgree, place_after, IsWrongFor, way_of, WrongAt}
use Rattle.aper_defs.specs.loose_defs.Sets.{HasSets}
use Rattle.proof_aper.proofs.loose.Determined.{is_ask, limit_after}
use Rattle.proof_aper.proofs.refused.WrongPlaces.{none_further, closed_room}
use Rattle.proof_aper.proofs.alive.Allowed.{allowed}
use Rattle.proof_aper.proofs.alive.Steps.{Steps, joined_is, parted_ask, parted_take}
use Rattle.proof_aper.proofs.alive.Alive.{Live}
use Rattle.proof_aper.proofs.alive.AliveForms.{always_whole}
use Rattle.proof_aper.proofs.back.BackForms.{back}

-- ---- the field at which what is asked is refused, after those that agree and before some that would do
record Stuck (P : Prog) (c : Cursor) (fault : Fault) : Type 0 where
  pub front : List Field
  pub next : Field
  pub rest : List Field
  pub w : Value
  pub steps : Steps (front ++ next ∷ rest) P (done w)
  pub agree : AllAgree front c
  pub bit : fault.bit ≡ (place_after front c).place
  pub reason : IsWrongFor next (place_after front c) fault.reason
  pub path : fault.path ≡ way_of next

one_fault : (x y : Fault) → (let r : Result (Value × Cursor) Fault = Err x in r) ≡ Err y → x ≡ y
one_fault x y e = cc

-- the first field is wrong
stuck_here : (f : Field) (rest : List Field) (w : Value) (P : Prog) (c : Cursor) (reason : Reason) (fault : Fault)
    → Steps (f ∷ rest) P (done w) → IsWrongFor f c reason → record { bit = c.place; reason = reason; path = way_of f } ≡ fault
    → Stuck P c fault
stuck_here f rest w P c reason fault s wrong e = record {
  front = [];
  next = f;
  rest = rest;
  w = w;
  steps = s;
  agree = tt;
  bit = sym (ap (λ (x : Fault). x.bit) e);
  reason = subst (λ (x : Reason). IsWrongFor f c x) (ap (λ (x : Fault). x.reason) e) wrong;
  path = sym (ap (λ (x : Fault). x.path) e);
}

units_so : (p : Path) (unit : RunUnit) (count : ℕ) (us : List ℕ) (next : List ℕ → Prog) → length us ≡ count
    → take p unit count next ≡ take p unit (length us) next
units_so p unit count us next e = ap (λ (n : ℕ). take p unit n next) (sym e)

stuck : (P : Prog) (c : Cursor) (fault : Fault) → c.place ≤ bit_limit → Live c.place P → run P c ≡ Err fault → Stuck P c fault
unfolding run Live Steps
stuck (done v) c fault within live e = cc
stuck (ask p question next) c fault within live e =
    go (read question c) refl e (λ n fits on h. stuck (next n) (answered_at question n c) fault fits on h)
  where
    go : (r : Result ℕ Reason) → read question c ≡ r → goes_on p c r (λ n. run (next n) (answered_at question n c)) ≡ Err fault
        → ((n : ℕ) → c.place + width_at c.place question n ≤ bit_limit → Live (c.place + width_at c.place question n) (next n)
        → run (next n) (answered_at question n c) ≡ Err fault → Stuck (next n) (answered_at question n c) fault)
        → Stuck (ask p question next) c fault
    go (Ok n) is h inner =
        let fits : c.place + width_at c.place question n ≤ bit_limit = limit_after (asked p question n) c is in
        let a = allowed question c n is in
        let s = inner n fits (live.1 n a fits) h in record {
          front = asked p question n ∷ s.front;
          next = s.next;
          rest = s.rest;
          w = s.w;
          steps = (a, (next, refl, s.steps));
          agree = (is, s.agree);
          bit = s.bit;
          reason = s.reason;
          path = s.path;
        }
    go (Err reason) is h inner =
        let ends = live.0 in
        let a = parted_ask p question next ends.0 ends.1 ends.2 in
        stuck_here (asked p question a.made) a.others ends.1 (ask p question next) c reason fault (a.has.0, (next, refl, a.rest)) is
        (one_fault (record { bit = c.place; reason = reason; path = p }) fault h)
stuck (take p unit count next) c fault within live e =
    go (read_units unit count c) refl e (λ us d fits on h. stuck (next us) d fault fits on h)
  where
    go : (r : Result (List ℕ) Reason) → read_units unit count c ≡ r
        → goes_on p c r (λ us. run (next us) (moved_by (unit_width unit * count) c)) ≡ Err fault
        → ((us : List ℕ) (d : Cursor) → d.place ≤ bit_limit → Live d.place (next us) → run (next us) d ≡ Err fault
        → Stuck (next us) d fault)
        → Stuck (take p unit count next) c fault
    go (Ok us) is h inner =
        let u = units_are unit count c us is in
        let f : Field = run_field p unit us in
        let agrees : read_units unit (length us) c ≡ Ok us = subst (λ (n : ℕ). read_units unit n c ≡ Ok us) (sym u.count-is) is in
        let fits : c.place + unit_width unit * length us ≤ bit_limit = limit_after f c agrees in
        let fits2 : c.place + unit_width unit * count ≤ bit_limit =
        subst (λ (n : ℕ). c.place + unit_width unit * n ≤ bit_limit) u.count-is fits in
        let on : Live (c.place + unit_width unit * length us) (next us) =
        subst (λ (n : ℕ). Live (c.place + unit_width unit * n) (next us)) (sym u.count-is) (live.1 us u.count-is fits2) in
        let s = inner us (after_field f c) fits on
        (subst (λ (n : ℕ). run (next us) (moved_by (unit_width unit * n) c) ≡ Err fault) (sym u.count-is) h) in record {
          front = f ∷ s.front;
          next = s.next;
          rest = s.rest;
          w = s.w;
          steps = (u.below, (next, units_so p unit count us next u.count-is, s.steps));
          agree = (agrees, s.agree);
          bit = s.bit;
          reason = s.reason;
          path = s.path;
        }
    go (Err reason) is h inner =
        let ends = live.0 in
        let a = parted_take p unit count next ends.0 ends.1 ends.2 in
        let us = a.made in
        stuck_here (run_field p unit us) a.others ends.1 (take p unit count next) c reason fault
        (a.has.1, (next, units_so p unit count us next a.has.0, a.rest))
        (subst (λ (n : ℕ). read_units unit n c ≡ Err reason) (sym a.has.0) is)
        (one_fault (record { bit = c.place; reason = reason; path = p }) fault h)
stuck never c fault within live e = absurd live

-- ---- the fields of what is asked to its end
record Went (P : Prog) (c : Cursor) (w : Value) (d : Cursor) : Type 0 where
  pub fs : List Field
  pub steps : Steps fs P (done w)
  pub agree : AllAgree fs c
  pub reach : place_after fs c ≡ d

one_end : (v w : Value) (c d : Cursor) → (let r : Result (Value × Cursor) Fault = Ok (v, c) in r) ≡ Ok (w, d) → (v ≡ w) × (c ≡ d)
one_end v w c d e =
    let g : (let a : Value × Cursor = (v, c) in a) ≡ (w, d) = cc in
    (ap (λ (z : Value × Cursor). z.0) g, ap (λ (z : Value × Cursor). z.1) g)

went : (P : Prog) (c : Cursor) (w : Value) (d : Cursor) → run P c ≡ Ok (w, d) → Went P c w d
unfolding run Steps
went (done v) c w d e =
    let g = one_end v w c d e in record { fs = []; steps = ap (λ (x : Value). done x) g.0; agree = tt; reach = g.1 }
went (ask p question next) c w d e = go (read question c) refl e (λ n h. went (next n) (answered_at question n c) w d h)
  where
    go : (r : Result ℕ Reason) → read question c ≡ r → goes_on p c r (λ n. run (next n) (answered_at question n c)) ≡ Ok (w, d)
        → ((n : ℕ) → run (next n) (answered_at question n c) ≡ Ok (w, d) → Went (next n) (answered_at question n c) w d)
        → Went (ask p question next) c w d
    go (Ok n) is h inner =
        let s = inner n h in record {
          fs = asked p question n ∷ s.fs;
          steps = (allowed question c n is, (next, refl, s.steps));
          agree = (is, s.agree);
          reach = s.reach;
        }
    go (Err reason) is h inner = cc
went (take p unit count next) c w d e = go (read_units unit count c) refl e (λ us z h. went (next us) z w d h)
  where
    go : (r : Result (List ℕ) Reason) → read_units unit count c ≡ r
        → goes_on p c r (λ us. run (next us) (moved_by (unit_width unit * count) c)) ≡ Ok (w, d)
        → ((us : List ℕ) (z : Cursor) → run (next us) z ≡ Ok (w, d) → Went (next us) z w d)
        → Went (take p unit count next) c w d
    go (Ok us) is h inner =
        let u = units_are unit count c us is in
        let f : Field = run_field p unit us in
        let s = inner us (after_field f c)
        (subst (λ (n : ℕ). run (next us) (moved_by (unit_width unit * n) c) ≡ Ok (w, d)) (sym u.count-is) h) in record {
          fs = f ∷ s.fs;
          steps = (u.below, (next, units_so p unit count us next u.count-is, s.steps));
          agree = (subst (λ (n : ℕ). read_units unit n c ≡ Ok us) (sym u.count-is) is, s.agree);
          reach = s.reach;
        }
    go (Err reason) is h inner = cc
went never c w d e = cc

-- ---- what answers the questions of a whole value is a loose layout of it
none_left : (fs : List Field) (v w : Value) → Steps fs (done v) (done w) → fs ≡ []
unfolding Steps
none_left [] v w s = refl
none_left (asked p question n ∷ fs) v w s =
    let a = s.1 in let g : is_ask (done v) ≡ is_ask (ask p question a.0) = ap is_ask a.1 in absurd (omega (arith, g))
none_left (run_field p unit units ∷ fs) v w s =
    let a = s.1 in let g : is_ask (done v) ≡ is_ask (take p unit (length units) a.0) = ap is_ask a.1 in absurd (omega (arith, g))

record WholeLoose (t : Tree) (fs : List Field) : Type 0 where
  pub v : Value
  pub loose : LooseWhole t v (fs ++ asked [] end 0 ∷ [])

whole_loose : (t : Tree) (fs : List Field) (w : Value) → IsBounded t → Steps fs (asks_whole t) (done w) → WholeLoose t fs
whole_loose t fs w b s =
    let last : List Field = asked [] end 0 ∷ [] in
    let a = back [] t (λ v. ask [] closing (λ m. done v)) fs w b s in
    let x = parted_ask [] closing (λ m. done a.made) a.others w a.rest in
    let none : x.others ≡ [] = none_left x.others a.made w x.rest in
    let mark : List Field = asked [] closing x.made ∷ [] in
    let others : a.others ≡ mark = x.is ∙ joined_is x.front x.others mark [] x.has.1 none in
    record {
      v = a.made;
      loose = record {
        mark = x.made;
        contents = a.front;
        mark_most = x.has.0;
        loose = a.has;
        is = ap (λ (xs : List Field). xs ++ last) (a.is ∙ ap (λ (xs : List Field). a.front ++ xs) others)
            ∙ append_assoc a.front mark last;
      };
    }

-- ---- after a whole value no open type is left
done_at : (x w : Value) (c d : Cursor) → Ends (done x) c (w, d) → c ≡ d
unfolding run
done_at x w c d e = (one_end x w c d e).1

pub record Outside (d : Cursor) : Type 0 where
  pub opens : d.opens ≡ []
  pub room : passes d 0 ≡ None

pub ended_outside : (t : Tree) (octets : List ℕ) (w : Value) (d : Cursor) → IsBounded t → Ends (asks_whole t) (at_first octets) (w, d)
    → Outside d
ended_outside t octets w d b e =
    let c : Cursor = at_first octets in
    let a = found [] t (λ x. ask [] closing (λ m. done x)) c (w, d) b e in
    let x = a.made in
    let fs = layout [] t x in
    let p : Placed fs = placed [] t x b a.is in
    let c2 = moved_by (total 0 fs) c in
    let rest : Ends (ask [] closing (λ m. done x)) c2 (w, d) =
    subst (λ z. Ends (ask [] closing (λ m. done x)) z (w, d)) (p.moves c) a.rest in
    let g = found_ask [] closing (λ m. done x) c2 (w, d) rest in
    let reach : answered_at closing g.made c2 ≡ d = done_at x w (answered_at closing g.made c2) d g.rest in
    subst Outside reach (record { opens = refl; room = closed_room c2 g.made g.is })

tail_there : (d : Cursor) → Outside d → read end d ≡ Err reasons.Tail
unfolding read
tail_there d o = ap (read_within end d) o.room
    ∙ ap (λ (opens : List Opened). answered end d 0 (unless (ends_at d.place opens) reasons.Tail)) o.opens

-- ---- the wrong place
no_value : (t : Tree) (octets : List ℕ) (fault : Fault) → IsBounded t → decoded t octets ≡ Err fault → (v : Value) → Spells t v octets → ⊥
no_value t octets fault b e v s = clash (sym (spelled_decoded t v octets b s) ∙ e)
  where
    clash : (let r : Result Value Fault = Ok v in r) ≡ Err fault → ⊥
    clash g = cc

stuck_wrong : (t : Tree) (octets : List ℕ) (fault : Fault) → IsBounded t → decoded t octets ≡ Err fault
    → Stuck (asks_whole t) (at_first octets) fault → WrongAt t octets fault
stuck_wrong t octets fault b e s =
    let last : List Field = asked [] end 0 ∷ [] in
    let x = whole_loose t (s.front ++ s.next ∷ s.rest) s.w b s.steps in
    let loose : LooseWhole t x.v (s.front ++ s.next ∷ (s.rest ++ last)) =
    subst (λ (fs : List Field). LooseWhole t x.v fs) (append_assoc s.front (s.next ∷ s.rest) last) x.loose in record {
      no_value = no_value t octets fault b e;
      v = x.v;
      front = s.front;
      next = s.next;
      others = s.rest ++ last;
      loose = loose;
      agree = s.agree;
      most = λ u gs more k g. none_further t x.v u s.front gs s.next (s.rest ++ last) more octets fault.reason loose k s.agree s.reason g;
      bit = s.bit;
      reason = s.reason;
      path = s.path;
    }

tail_wrong : (t : Tree) (octets : List ℕ) (fault : Fault) (w : Value) (d : Cursor) → IsBounded t → decoded t octets ≡ Err fault
    → run (asks_whole t) (at_first octets) ≡ Ok (w, d) → record { bit = d.place; reason = reasons.Tail; path = [] } ≡ fault
    → WrongAt t octets fault
tail_wrong t octets fault w d b e is f =
    let c : Cursor = at_first octets in
    let s = went (asks_whole t) c w d is in
    let x = whole_loose t s.fs w b s.steps in
    let wrong : read end (place_after s.fs c) ≡ Err fault.reason =
    subst (λ (z : Cursor). read end z ≡ Err fault.reason) (sym s.reach)
    (tail_there d (ended_outside t octets w d b is) ∙ ap (λ (z : Fault). let r : Result ℕ Reason = Err z.reason in r) f) in record {
      no_value = no_value t octets fault b e;
      v = x.v;
      front = s.fs;
      next = asked [] end 0;
      others = [];
      loose = x.loose;
      agree = s.agree;
      most = λ u gs more k g. none_further t x.v u s.fs gs (asked [] end 0) [] more octets fault.reason x.loose k s.agree wrong g;
      bit = sym (ap (λ (z : Fault). z.bit) f) ∙ ap (λ (z : Cursor). z.place) (sym s.reach);
      reason = wrong;
      path = sym (ap (λ (z : Fault). z.path) f);
    }

same_fault : (x y : Fault) → (let r : Result Value Fault = Err x in r) ≡ Err y → x ≡ y
same_fault x y e = cc

pub refused_wrong : (t : Tree) (octets : List ℕ) (fault : Fault) → IsBounded t → HasSets t → decoded t octets ≡ Err fault
    → WrongAt t octets fault
refused_wrong t octets fault b sets e = go (run (asks_whole t) (at_first octets)) refl e
  where
    ended : (w : Value) (d : Cursor) (x : Bool)
        → cond x (Ok w) (Err (record { bit = d.place; reason = reasons.Tail; path = [] })) ≡ (let r : Result Value Fault = Err fault in r)
        → record { bit = d.place; reason = reasons.Tail; path = [] } ≡ fault
    ended w d true g = cc
    ended w d false g = same_fault (record { bit = d.place; reason = reasons.Tail; path = [] }) fault g

    go : (r : Result (Value × Cursor) Fault) → run (asks_whole t) (at_first octets) ≡ r → only r ≡ Err fault → WrongAt t octets fault
    go (Ok (w, d)) is h = tail_wrong t octets fault w d b e is (ended w d (d.place == 8 * length d.octets) h)
    go (Err f) is h =
        stuck_wrong t octets fault b e
        (stuck (asks_whole t) (at_first octets) fault (omega arith) (always_whole t sets 0 (omega arith))
        (is ∙ ap (λ (z : Fault). let r : Result (Value × Cursor) Fault = Err z in r) (same_fault f fault h)))
