-- The first wrong field by loose layouts is the one that the questions find.
use Rattle.std.proofs.Common.{◌≡◌, ℕ, ◌+◌, ◌*◌, ◌≤◌, ◌==◌, nat_lt, cond, Bool, true, false, List, [], ◌∷◌, ◌++◌, length, None, Some, Result, Ok, Err, refl, sym, ap, subst, ◌∙◌, arith, append_assoc, append-nil}
use Rattle.aper_defs.specs.declared.reason.Reason.{Reason}
use Rattle.aper_defs.specs.declared.reason.Reason.TheVariants as reasons
use Rattle.aper_defs.specs.Trees.{Tree}
use Rattle.aper_defs.specs.Values.{Value}
use Rattle.aper_defs.specs.Fields.{Path, Field, asked, closing, end}
use Rattle.aper_defs.specs.Bounds.{IsBounded}
use Rattle.aper_defs.specs.Questions.{Prog, ask, done}
use Rattle.aper_defs.specs.Asking.{asks, asks_whole}
use Rattle.aper_defs.specs.Reading.{Cursor, Fault, at_first, bit_limit, is_within, passes, ends_at, answered, unless, answered_at, moved_by, read, read_within, run, only, decoded}
use Rattle.proof_aper.proofs.answers.NumberFacts.{by_cases}
use Rattle.proof_aper.proofs.values.Found.{Answered, answer_read}
use Rattle.proof_aper.proofs.values.FoundBits.{written}
use Rattle.proof_aper.proofs.values.FoundWhole.{decoded_spells}
use Rattle.aper_defs.specs.loose_defs.Loose.{closed_by, LooseWhole}
use Rattle.aper_defs.specs.loose_defs.Wrong.{AllAgree, place_after, IsWrongFor, AreOfKind, way_of, WrongAt}
use Rattle.proof_aper.proofs.loose.Following.{Follow, both, fields_so, one, then_on, agree-append, place_after-append}
use Rattle.proof_aper.proofs.loose.FollowForms.{follow}
use Rattle.proof_aper.proofs.loose.Determined.{Together, next_is, no_further, reached, refused}

-- ---- a loose layout of a whole value
-- what is asked for a whole value and its end
asks_ended : Tree → Prog
asks_ended t = asks [] t (λ w. ask [] closing (λ m. ask [] end (λ z. done w)))

follow_ended : (t : Tree) (v : Value) (fs : List Field) (c : Cursor) → LooseWhole t v fs → Follow fs (asks_ended t) (done v) c
unfolding asks_ended
follow_ended t v fs c h =
    let after = λ (w : Value). ask [] closing (λ m. ask [] end (λ z. done w)) in
    let last : List Field = asked [] end 0 ∷ [] in
    fields_so fs (closed_by [] h.mark h.contents) _ _ c h.is
    (both h.contents (asked [] closing h.mark ∷ last) (asks [] t after) (after v) (done v) c (follow [] t v h.contents after c h.loose)
    (then_on [] closing h.mark last (λ m. ask [] end (λ z. done v)) (done v) _ (one [] end 0 (λ z. done v) _)))

-- its fields before its end
before_end : (t : Tree) (v : Value) (fs : List Field) → LooseWhole t v fs → List Field
before_end t v fs h = h.contents ++ asked [] closing h.mark ∷ []

follow_closed : (t : Tree) (v : Value) (fs : List Field) (c : Cursor) → (h : LooseWhole t v fs)
    → Follow (before_end t v fs h) (asks_whole t) (done v) c
unfolding before_end
follow_closed t v fs c h =
    let after = λ (w : Value). ask [] closing (λ m. done w) in
    both h.contents (asked [] closing h.mark ∷ []) (asks [] t after) (after v) (done v) c (follow [] t v h.contents after c h.loose)
    (one [] closing h.mark (λ m. done v) _)

ended : (t : Tree) (v : Value) (fs : List Field) → (h : LooseWhole t v fs) → fs ≡ before_end t v fs h ++ asked [] end 0 ∷ []
unfolding before_end
ended t v fs h = h.is ∙ sym (append_assoc h.contents (asked [] closing h.mark ∷ []) (asked [] end 0 ∷ []))

-- ---- the laws of loose layouts
together : (t : Tree) (v w : Value) (fs gs : List Field) (octets : List ℕ) → LooseWhole t v fs → LooseWhole t w gs
    → Together fs gs (asks_ended t) (done v) (done w) (at_first octets)
together t v w fs gs octets h k = record {
  limit = omega arith;
  one = follow_ended t v fs (at_first octets) h;
  other = follow_ended t w gs (at_first octets) k;
}

pub one_next : (t : Tree) (v w : Value) (fs gs : List Field) (x y : Field) (xs ys : List Field) (octets : List ℕ)
    → LooseWhole t v (fs ++ x ∷ xs) → LooseWhole t w (gs ++ y ∷ ys) → AllAgree fs (at_first octets) → AllAgree gs (at_first octets)
    → length fs ≡ length gs → (fs ≡ gs) × AreOfKind x y
one_next t v w fs gs x y xs ys octets h k r s e =
    next_is fs gs x y xs ys (asks_ended t) (done v) (done w) (at_first octets)
    (together t v w (fs ++ x ∷ xs) (gs ++ y ∷ ys) octets h k) r s e

pub none_further : (t : Tree) (v w : Value) (fs gs : List Field) (x : Field) (xs more : List Field) (octets : List ℕ) (reason : Reason)
    → LooseWhole t v (fs ++ x ∷ xs) → LooseWhole t w (gs ++ more) → AllAgree fs (at_first octets)
    → IsWrongFor x (place_after fs (at_first octets)) reason → AllAgree gs (at_first octets) → length gs ≤ length fs
none_further t v w fs gs x xs more octets reason h k r wrong s =
    no_further fs gs x xs more (asks_ended t) (done v) (done w) (at_first octets) reason
    (together t v w (fs ++ x ∷ xs) (gs ++ more) octets h k) r wrong s

-- ---- where a field of a list with a last one is
data Where (front : List Field) (next : Field) (gs : List Field) (last : Field) : Type 0 where
  at_last : (front ≡ gs) → (next ≡ last) → Where front next gs last
  before : (more : List Field) → (gs ≡ front ++ next ∷ more) → Where front next gs last

abbrev first_of : Field → List Field → Field
first_of d [] = d
first_of d (f ∷ fs) = f

abbrev rest_of : List Field → List Field
rest_of [] = []
rest_of (f ∷ fs) = fs

put_before : (f g : Field) (front : List Field) (next : Field) (gs : List Field) (last : Field) → f ≡ g → Where front next gs last
    → Where (f ∷ front) next (g ∷ gs) last
put_before f g front next gs last e (at_last a b) = at_last (ap (λ (x : Field). x ∷ front) e ∙ ap (λ (xs : List Field). g ∷ xs) a) b
put_before f g front next gs last e (before more a) =
    before more (ap (λ (x : Field). x ∷ gs) (sym e) ∙ ap (λ (xs : List Field). f ∷ xs) a)

some_there : (front : List Field) (next : Field) (others : List Field) → front ++ next ∷ others ≡ [] → ⊥
some_there [] next others e = absurd (let g : length (next ∷ others) ≡ 0 = ap length e in omega (arith, g))
some_there (f ∷ front) next others e = absurd (let g : length (f ∷ front ++ next ∷ others) ≡ 0 = ap length e in omega (arith, g))

split : (front : List Field) (next : Field) (others gs : List Field) (last : Field) → front ++ next ∷ others ≡ gs ++ last ∷ []
    → Where front next gs last
split [] next others [] last e = at_last refl (ap (first_of next) e)
split [] next others (g ∷ gs) last e = before gs (ap (λ (x : Field). x ∷ gs) (sym (ap (first_of next) e)))
split (f ∷ front) next others [] last e = absurd (some_there front next others (ap rest_of e))
split (f ∷ front) next others (g ∷ gs) last e =
    put_before f g front next gs last (ap (first_of f) e) (split front next others gs last (ap rest_of e))

-- ---- the end of a whole value is wrong only where octets are left
passes_moved : (c : Cursor) (width : ℕ) → passes c width ≡ None → passes (moved_by width c) 0 ≡ None
passes_moved c width h =
    let e : c.place + width + 0 ≡ c.place + width = omega arith in
    ap (λ (n : ℕ). cond (is_within n c.opens) (cond (nat_lt bit_limit n) (Some reasons.TooLong)
    (cond (nat_lt (8 * length c.octets) n) (Some reasons.Truncated) None)) (Some reasons.Overrun)) e ∙ h

pub closed_room : (c : Cursor) (mark : ℕ) → read closing c ≡ Ok mark → passes (answered_at closing mark c) 0 ≡ None
closed_room c mark s =
    let a : Answered closing c mark = answer_read closing c mark s in
    passes_moved c _ (subst (λ (w : ℕ). passes c w ≡ None) (written closing c mark a).0 a.room)

tail_left : (c : Cursor) (reason : Reason) → passes c 0 ≡ None → read end c ≡ Err reason → reason ≡ reasons.Tail
unfolding read
tail_left c reason room wrong = go (ends_at c.place c.opens) (sym (ap (read_within end c) room) ∙ wrong)
  where
    go : (b : Bool) → answered end c 0 (unless b reasons.Tail) ≡ Err reason → reason ≡ reasons.Tail
    go true e = cc
    go false e = cc

fault_so : (fault : Fault) (place : ℕ) (reason : Reason) (path : Path) → fault.bit ≡ place → fault.reason ≡ reason → fault.path ≡ path
    → record { bit = place; reason = reason; path = path } ≡ fault
fault_so fault place reason path a b c =
    ap (λ (x : ℕ). let f : Fault = record { bit = x; reason = reason; path = path } in f) (sym a)
    ∙ ap (λ (x : Reason). let f : Fault = record { bit = fault.bit; reason = x; path = path } in f) (sym b)
    ∙ ap (λ (x : Path). let f : Fault = record { bit = fault.bit; reason = fault.reason; path = x } in f) (sym c)

-- ---- the first wrong field is found
found_before : (t : Tree) (octets : List ℕ) (fault : Fault) → (w : WrongAt t octets fault) → (more : List Field)
    → before_end t w.v (w.front ++ w.next ∷ w.others) w.loose ≡ w.front ++ w.next ∷ more
    → decoded t octets ≡ Err fault
unfolding Follow
found_before t octets fault w more e =
    let c = at_first octets in
    let leads : Follow (w.front ++ w.next ∷ more) (asks_whole t) (done w.v) c =
    subst (λ (fs : List Field). Follow fs (asks_whole t) (done w.v) c) e (follow_closed t w.v _ c w.loose) in
    let r = reached w.front (w.next ∷ more) (asks_whole t) (done w.v) c (omega arith) leads w.agree in
    let d = place_after w.front c in
    ap only (r.3 ∙ refused w.next r.0 _ d fault.reason (r.2 r.1) w.reason)
    ∙ ap (λ (f : Fault). let x : Result Value Fault = Err f in x)
    (fault_so fault d.place fault.reason (way_of w.next) w.bit refl w.path)

found_last : (t : Tree) (octets : List ℕ) (fault : Fault) → IsBounded t → (w : WrongAt t octets fault)
    → w.front ≡ before_end t w.v (w.front ++ w.next ∷ w.others) w.loose → w.next ≡ asked [] end 0
    → decoded t octets ≡ Err fault
unfolding Follow run before_end
found_last t octets fault bounded w e next =
    let c = at_first octets in
    let h = w.loose in
    let gs = h.contents ++ asked [] closing h.mark ∷ [] in
    let d = place_after gs c in
    let agree : AllAgree gs c = subst (λ (fs : List Field). AllAgree fs c) e w.agree in
    let leads : Follow (gs ++ []) (asks_whole t) (done w.v) c =
    subst (λ (fs : List Field). Follow fs (asks_whole t) (done w.v) c) (sym (append-nil gs)) (follow_closed t w.v _ c h) in
    let r = reached gs [] (asks_whole t) (done w.v) c (omega arith) leads agree in
    let here : run (asks_whole t) c ≡ run (done w.v) d = r.3 ∙ ap (λ (S : Prog). run S d) r.2 in
    let wrong : read end d ≡ Err fault.reason =
    subst (λ (f : Field). IsWrongFor f d fault.reason) next
    (subst (λ (fs : List Field). IsWrongFor w.next (place_after fs c) fault.reason) e w.reason) in
    let parts = agree-append h.contents (asked [] closing h.mark ∷ []) c agree in
    let room : passes d 0 ≡ None =
    ap (λ (x : Cursor). passes x 0) (place_after-append h.contents (asked [] closing h.mark ∷ []) c)
    ∙ closed_room (place_after h.contents c) h.mark parts.1.0 in
    let tail : fault.reason ≡ reasons.Tail = tail_left d fault.reason room wrong in
    let place : fault.bit ≡ d.place = subst (λ (fs : List Field). fault.bit ≡ (place_after fs c).place) e w.bit in
    let way : fault.path ≡ [] = subst (λ (f : Field). fault.path ≡ way_of f) next w.path in
    ap only here
    ∙ by_cases (d.place == 8 * length d.octets)
    (λ b. decoded t octets ≡ cond b (Ok w.v) (Err (record { bit = d.place; reason = reasons.Tail; path = [] }))
    → cond b (Ok w.v) (Err (record { bit = d.place; reason = reasons.Tail; path = [] })) ≡ (let x : Result Value Fault = Err fault in x))
    (λ yes is. absurd (w.no_value w.v (decoded_spells t w.v octets bounded is)))
    (λ no is. ap (λ (f : Fault). let x : Result Value Fault = Err f in x) (fault_so fault d.place reasons.Tail [] place tail way))
    (ap only here)

pub wrong_found : (t : Tree) (octets : List ℕ) (fault : Fault) → IsBounded t → WrongAt t octets fault → decoded t octets ≡ Err fault
wrong_found t octets fault bounded w =
    go (split w.front w.next w.others (before_end t w.v (w.front ++ w.next ∷ w.others) w.loose) (asked [] end 0) (ended t w.v _ w.loose))
  where
    go : Where w.front w.next (before_end t w.v (w.front ++ w.next ∷ w.others) w.loose) (asked [] end 0) → decoded t octets ≡ Err fault
    go (at_last e next) = found_last t octets fault bounded w e next
    go (before more e) = found_before t octets fault w more e

pub one_wrong : (t : Tree) (octets : List ℕ) (f g : Fault) → IsBounded t → WrongAt t octets f → WrongAt t octets g → f ≡ g
one_wrong t octets f g bounded v w = same f g (sym (wrong_found t octets f bounded v) ∙ wrong_found t octets g bounded w)
  where
    same : (f g : Fault) → (let x : Result Value Fault = Err f in x) ≡ Err g → f ≡ g
    same f g e = cc
