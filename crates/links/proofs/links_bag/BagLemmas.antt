-- The numbers of messages, and that what stands beside them stays theirs.
use Rattle.std.proofs.Common.{◌≡◌, ◌<◌, ◌≤◌, ◌==◌, ℕ, zero, suc, ◌+◌, ◌-◌, ◌^◌, Bool, true, false, cond, not, ◌&&◌, ◌||◌, List, [], ◌∷◌, ◌++◌, length, Option, Some, None, refl, sym, ap, ◌∙◌, subst, arith, length-append, eq-eqb, eqb-true, add-zero}
use Rattle.std.specs.Prelude.{unwrap_or, sum_by, count_by, is_some, nat_lt, nat_le}
use Rattle.std.specs.Option.{option_map}
use Rattle.std.specs.declared.cmp.Ordering.{Ordering}
use Rattle.std.specs.declared.cmp.Ordering.TheVariants.{Less, Equal, Greater}
use Rattle.std.specs.Ordering.{nat_cmp, match_ordering, is_eq}
use Rattle.std.specs.Cmp.{nat_cmp_is, unsigned_tied}
use Rattle.std.specs.List.{filter, slice_get, AllByRecursion}
use Rattle.std.specs.Map.{lookup, keys_of, values_of}
use Rattle.std.specs.BTreeMap.{is_at, insert_entry}
use Rattle.std.proofs.lemmas.Cmp.{nat_cmp_total}
use Rattle.std.proofs.lemmas.Bool.Decides.{nat_tests}
use Rattle.std.proofs.lemmas.List.Sums.{sum_by-cons, sum_by_push}
use Rattle.std.proofs.lemmas.Map.Entries.{length-keys_of, length-values_of}
use Rattle.gnb_types.proofs.Choices.{by_test}
use Rattle.tables.specs.Tables.{find, put, without, at, first_entry, IsSorted}
use Rattle.tables.specs.Queues.{first_item}
use Rattle.tables.proofs.TableLaws.{at-put, sorted-put, sorted-without, sum-without}
use Rattle.transport_defs.specs.declared.ControlMessage.{ControlMessage}
use Rattle.transport_defs.specs.Links.{Bag, most_control_messages, put_control_message, control_message, landed, is_in, is_of, in_flight_of, nth}
use Rattle.links.specs.link_tallies.Tied.{one_if}
use Rattle.links.specs.link_tallies.Tallies.{key_in}
use Rattle.links.specs.declared.links_bag.error.LinkError.TheVariants as errors
use Rattle.links.specs.links_bag.Answers.{gives, refuses}
use Rattle.links.specs.links_bag.Bags.{put as put_message, in_flight, counts as counted_in, IsOneFewer}
use Rattle.links.specs.links_bag.inside.Messages.{numbered, terminal_of, is_terminal, fewer_of, BagIsKept}
use Rattle.links.proofs.links_bag.Entries.{sorted_none, without-put, nth_next, nth_is_get}

nat_equal : (u n : ℕ) → u ≡ n → nat_cmp u n ≡ Equal
nat_equal u n h = sym (nat_cmp_is u n Equal h)

nat_greater : (u n : ℕ) → n < u → nat_cmp u n ≡ Greater
nat_greater u n h = sym (nat_cmp_is u n Greater h)

nat_less : (u n : ℕ) → u < n → nat_cmp u n ≡ Less
nat_less u n h = sym (nat_cmp_is u n Less h)

-- ---- numbered values

module _ {X : Type 0} where
  numbered-length : (xs : List X) (k : ℕ) → length (numbered k xs) ≡ length xs
  numbered-length [] k = refl
  numbered-length (x ∷ xs) k = ap (λ (n : ℕ). suc n) (numbered-length xs (k + 1))

  numbered-push : (xs : List X) (x : X) (k : ℕ) → numbered k (xs ++ x ∷ []) ≡ numbered k xs ++ (k + length xs, x) ∷ []
  numbered-push [] x k =
      let same : k ≡ k + 0 = omega arith in
      ap (λ (n : ℕ). (n, x) ∷ []) same
  numbered-push (y ∷ xs) x k =
      let same : k + 1 + length xs ≡ k + suc (length xs) = omega arith in
      ap (λ (m : List (ℕ × X)). (k, y) ∷ m) (numbered-push xs x (k + 1) ∙ ap (λ (n : ℕ). numbered (k + 1) xs ++ (n, x) ∷ []) same)

  -- none at a number below the first
  none_before : (xs : List X) (k n : ℕ) → n < k → find nat_cmp (numbered k xs) n ≡ None
  unfolding find
  none_before [] k n h = refl
  none_before (x ∷ xs) k n h =
      ap (λ (r : Ordering). cond (is_eq r) (Some x) (lookup (is_at (nat_cmp n)) (numbered (k + 1) xs))) (nat_less n k h)
      ∙ none_before xs (k + 1) n (omega arith)

  -- none after the last
  none_after : (xs : List X) (k n : ℕ) → k + length xs ≤ n → find nat_cmp (numbered k xs) n ≡ None
  unfolding find
  none_after [] k n h = refl
  none_after (x ∷ xs) k n h =
      ap (λ (r : Ordering). cond (is_eq r) (Some x) (lookup (is_at (nat_cmp n)) (numbered (k + 1) xs))) (nat_greater n k (omega arith))
      ∙ none_after xs (k + 1) n (omega arith)

  found_number : (xs : List X) (k i n : ℕ) → n ≡ k + i → find nat_cmp (numbered k xs) n ≡ nth xs i
  unfolding find
  found_number [] k i n is = refl
  found_number (x ∷ xs) k zero n is =
      ap (λ (r : Ordering). cond (is_eq r) (Some x) (lookup (is_at (nat_cmp n)) (numbered (k + 1) xs))) (nat_equal n k (omega arith))
  found_number (x ∷ xs) k (suc i) n is =
      ap (λ (r : Ordering). cond (is_eq r) (Some x) (lookup (is_at (nat_cmp n)) (numbered (k + 1) xs))) (nat_greater n k (omega arith))
      ∙ found_number xs (k + 1) i n (omega arith) ∙ sym (nth_next x xs i)

  -- what is found among some is found among more
  find_more : (m : List (ℕ × X)) (e : ℕ × X) (n : ℕ) (x : X) → find nat_cmp m n ≡ Some x → find nat_cmp (m ++ e ∷ []) n ≡ Some x
  unfolding find
  find_more [] e n x found = absurd cc
  find_more (f ∷ fs) e n x found = by (is_at (nat_cmp n) f.0) found (find_more fs e n x)
    where
      by : (b : Bool) → cond b (Some f.1) (lookup (is_at (nat_cmp n)) fs) ≡ Some x
          → (lookup (is_at (nat_cmp n)) fs ≡ Some x → lookup (is_at (nat_cmp n)) (fs ++ e ∷ []) ≡ Some x)
          → cond b (Some f.1) (lookup (is_at (nat_cmp n)) (fs ++ e ∷ [])) ≡ Some x
      by true found rest = found
      by false found rest = rest found

-- ---- how many more may be put

pub room_left : {M : Type 0} (xs : List (ControlMessage M)) (flight : List ℕ) (bag : Bag M) (n more left : ℕ)
    → ◌≡◌ {A = Bag M} (record { control_messages = numbered 1 xs; flight = flight }) bag → n ≡ length xs → length xs ≤ most_control_messages → left ≡ most_control_messages - n
    → nat_le more left ≡ not (nat_lt most_control_messages (length bag.control_messages + more))
room_left {M = M} xs flight bag n more left view is few room =
    by (nat_le more left) (nat_lt most_control_messages (length bag.control_messages + more)) refl refl
  where
    seen : length bag.control_messages ≡ length xs
    seen = ap (λ (b : Bag M). length b.control_messages) (sym view) ∙ numbered-length xs 1

    by : (a b : Bool) → nat_le more left ≡ a → nat_lt most_control_messages (length bag.control_messages + more) ≡ b → a ≡ not b
    by true false p q = refl
    by false true p q = refl
    by true true p q =
        let low : more ≤ left = grind (arith, nat_tests) in
        let high : most_control_messages < length bag.control_messages + more = grind (arith, nat_tests) in
        absurd (omega (arith, seen, is, few, room))
    by false false p q =
        let high : left < more = grind (arith, nat_tests) in
        let low : length bag.control_messages + more ≤ most_control_messages = grind (arith, nat_tests) in
        absurd (omega (arith, seen, is, few, room))

-- ---- a letter, by its number

module _ {M : Type 0} where
  pub control_message_found : (xs : List (ControlMessage M)) (flight : List ℕ) (bag : Bag M) (i n : ℕ) (r : Option (ControlMessage M))
      → ◌≡◌ {A = Bag M} (record { control_messages = numbered 1 xs; flight = flight }) bag → n ≡ i + 1 → r ≡ slice_get xs i → r ≡ control_message bag n
  unfolding control_message
  control_message_found xs flight bag i n r view is found =
      found ∙ sym (nth_is_get xs i) ∙ sym (found_number xs 1 i n (omega arith)) ∙ ap (λ (b : Bag M). find nat_cmp b.control_messages n) view

  pub control_message_zero : (xs : List (ControlMessage M)) (flight : List ℕ) (bag : Bag M) (n : ℕ)
      → ◌≡◌ {A = Bag M} (record { control_messages = numbered 1 xs; flight = flight }) bag → n ≡ 0 → None ≡ control_message bag n
  unfolding control_message
  control_message_zero xs flight bag n view is = sym (none_before xs 1 n (omega arith)) ∙ ap (λ (b : Bag M). find nat_cmp b.control_messages n) view

-- ---- the messages in flight

keys-push : (m : List (ℕ × ℕ)) (e : ℕ × ℕ) → keys_of (m ++ e ∷ []) ≡ keys_of m ++ e.0 ∷ []
keys-push [] e = refl
keys-push (f ∷ fs) e = ap (λ (ks : List ℕ). f.0 ∷ ks) (keys-push fs e)

values-push : (m : List (ℕ × ℕ)) (e : ℕ × ℕ) → values_of (m ++ e ∷ []) ≡ values_of m ++ e.1 ∷ []
values-push [] e = refl
values-push (f ∷ fs) e = ap (λ (vs : List ℕ). f.1 ∷ vs) (values-push fs e)

all-push : (P : ℕ × ℕ → Type 0) (m : List (ℕ × ℕ)) (e : ℕ × ℕ) → AllByRecursion P m → P e → AllByRecursion P (m ++ e ∷ [])
all-push P [] e all here = (here, tt)
all-push P (f ∷ fs) e all here = (all.0, all-push P fs e all.1 here)

all-map : (P Q : ℕ × ℕ → Type 0) (m : List (ℕ × ℕ)) → ((e : ℕ × ℕ) → P e → Q e) → AllByRecursion P m → AllByRecursion Q m
all-map P Q [] each all = tt
all-map P Q (f ∷ fs) each all = (each f all.0, all-map P Q fs each all.1)

all-filter : (P : ℕ × ℕ → Type 0) (p : ℕ × ℕ → Bool) (m : List (ℕ × ℕ)) → AllByRecursion P m → AllByRecursion P (filter p m)
all-filter P p [] all = tt
all-filter P p (f ∷ fs) all = by (p f) (all-filter P p fs all.1)
  where
    by : (b : Bool) → AllByRecursion P (filter p fs) → AllByRecursion P (cond b (f ∷ filter p fs) (filter p fs))
    by true rest = (all.0, rest)
    by false rest = rest

filter-shorter : (p : ℕ × ℕ → Bool) (m : List (ℕ × ℕ)) → length (filter p m) ≤ length m
filter-shorter p [] = omega arith
filter-shorter p (f ∷ fs) = by (p f) (filter-shorter p fs)
  where
    by : (b : Bool) → length (filter p fs) ≤ length fs → length (cond b (f ∷ filter p fs) (filter p fs)) ≤ suc (length fs)
    by true rest = omega arith
    by false rest = omega arith

-- a number above all others is put at the end
put-end : (m : List (ℕ × ℕ)) (n u : ℕ) → AllByRecursion (λ e. e.0 < n) m → put nat_cmp m n u ≡ m ++ (n, u) ∷ []
unfolding put
put-end [] n u all = refl
put-end (e ∷ es) n u all =
    ap (λ (r : Ordering). match_ordering r ((n, u) ∷ e ∷ es) ((e.0, u) ∷ es) (e ∷ insert_entry nat_cmp es n u)) (nat_greater n e.0 all.0)
    ∙ ap (λ (m : List (ℕ × ℕ)). e ∷ m) (put-end es n u all.1)

none-below : (m : List (ℕ × ℕ)) (n : ℕ) → AllByRecursion (λ e. e.0 < n) m → find nat_cmp m n ≡ None
unfolding find
none-below [] n all = refl
none-below (e ∷ es) n all =
    ap (λ (r : Ordering). cond (is_eq r) (Some e.1) (lookup (is_at (nat_cmp n)) es)) (nat_greater n e.0 all.0) ∙ none-below es n all.1

module _ {M : Type 0} (control_messages : List (ControlMessage M)) where
  known_below : (e : ℕ × ℕ) → terminal_of control_messages e.0 ≡ Some e.1 → e.0 < length control_messages + 1
  known_below e known = by_test (e.0 < length control_messages + 1) (nat_lt e.0 (length control_messages + 1)) (λ t. grind (arith, nat_tests)) after
    where
      after : nat_lt e.0 (length control_messages + 1) ≡ false → e.0 < length control_messages + 1
      after f =
          let past : 1 + length control_messages ≤ e.0 = grind (arith, nat_tests) in
          let none = none_after control_messages 1 e.0 past in
          let nothing : None ≡ Some e.1 = sym (ap (λ (o : Option (ControlMessage M)). option_map (λ l. l.ue) o) none) ∙ known in
          absurd cc

  known_more : (l : ControlMessage M) (e : ℕ × ℕ) → terminal_of control_messages e.0 ≡ Some e.1 → terminal_of (control_messages ++ l ∷ []) e.0 ≡ Some e.1
  known_more l e known = by (find nat_cmp (numbered 1 control_messages) e.0) refl known
    where
      by : (o : Option (ControlMessage M)) → find nat_cmp (numbered 1 control_messages) e.0 ≡ o → option_map (λ l. l.ue) o ≡ Some e.1
          → terminal_of (control_messages ++ l ∷ []) e.0 ≡ Some e.1
      by None is known = absurd cc
      by (Some x) is known =
          ap (λ (m : List (ℕ × ControlMessage M)). option_map (λ l. l.ue) (find nat_cmp m e.0)) (numbered-push control_messages l 1)
          ∙ ap (λ (o : Option (ControlMessage M)). option_map (λ l. l.ue) o) (find_more (numbered 1 control_messages) (1 + length control_messages, l) e.0 x is)
          ∙ known

nth_last : {X : Type 0} (xs : List X) (x : X) → nth (xs ++ x ∷ []) (length xs) ≡ Some x
nth_last [] x = refl
nth_last (y ∷ xs) x = nth_next y (xs ++ x ∷ []) (length xs) ∙ nth_last xs x

known_last : {M : Type 0} (control_messages : List (ControlMessage M)) (l : ControlMessage M) (n : ℕ) → n ≡ length control_messages + 1 → terminal_of (control_messages ++ l ∷ []) n ≡ Some l.ue
known_last {M = M} control_messages l n is =
    ap (λ (o : Option (ControlMessage M)). option_map (λ l. l.ue) o)
    (found_number (control_messages ++ l ∷ []) 1 (length control_messages) n (omega arith) ∙ nth_last control_messages l)

one_equal : (u : ℕ) → is_terminal u u ≡ 1
one_equal u = ap one_if (eq-eqb u u refl)

-- where one more is counted
counted-more : (counts : List (ℕ × ℕ)) (ue u s : ℕ) → at nat_cmp 0 counts u ≡ s
    → at nat_cmp 0 (put nat_cmp counts ue (at nat_cmp 0 counts ue + 1)) u ≡ s + is_terminal u ue
counted-more counts ue u s is =
    at-put nat_cmp_total 0 counts ue (at nat_cmp 0 counts ue + 1) u
    ∙ ap (λ (b : Bool). cond b (at nat_cmp 0 counts ue + 1) (at nat_cmp 0 counts u)) (unsigned_tied u ue)
    ∙ by (u == ue) (ue == u) refl refl
  where
    by : (a b : Bool) → (u == ue) ≡ a → (ue == u) ≡ b → cond a (at nat_cmp 0 counts ue + 1) (at nat_cmp 0 counts u) ≡ s + one_if b
    by true true e f = ap (λ (k : ℕ). at nat_cmp 0 counts k + 1) (sym (eqb-true u ue e)) ∙ ap (λ (n : ℕ). n + 1) is
    by false false e f = is ∙ sym (add-zero s)
    by true false e f = absurd (grind (arith, nat_tests))
    by false true e f = absurd (grind (arith, nat_tests))

counted-fewer : (counts : List (ℕ × ℕ)) (ue u : ℕ) → at nat_cmp 0 (fewer_of counts ue (find nat_cmp counts ue)) u ≡ at nat_cmp 0 counts u - is_terminal u ue
unfolding at
counted-fewer counts ue u = by (find nat_cmp counts ue) refl
  where
    tests : (P : Bool → Bool → Type 0) → (u ≡ ue → P true true) → P false false → P (u == ue) (ue == u)
    tests P p q = both (u == ue) (ue == u) refl refl
      where
        both : (a b : Bool) → (u == ue) ≡ a → (ue == u) ≡ b → P a b
        both true true e f = p (eqb-true u ue e)
        both false false e f = q
        both true false e f = absurd (grind (arith, nat_tests))
        both false true e f = absurd (grind (arith, nat_tests))

    by : (o : Option ℕ) → find nat_cmp counts ue ≡ o → at nat_cmp 0 (fewer_of counts ue o) u ≡ at nat_cmp 0 counts u - is_terminal u ue
    by None e =
        tests (λ a b. at nat_cmp 0 counts u ≡ at nat_cmp 0 counts u - one_if b)
        (λ same.
        let none : at nat_cmp 0 counts u ≡ 0 = ap (λ (o : Option ℕ). unwrap_or o 0) (ap (find nat_cmp counts) same ∙ e) in
        omega arith)
        (omega arith)
    by (Some c) e =
        at-put nat_cmp_total 0 counts ue (c - 1) u
        ∙ ap (λ (b : Bool). cond b (c - 1) (at nat_cmp 0 counts u)) (unsigned_tied u ue)
        ∙ tests (λ a b. cond a (c - 1) (at nat_cmp 0 counts u) ≡ at nat_cmp 0 counts u - one_if b)
        (λ same. ap (λ (o : Option ℕ). unwrap_or o 0 - 1) (sym (ap (find nat_cmp counts) same ∙ e)))
        (omega arith)

left_over : (a t s x : ℕ) → x ≡ a - t → a ≡ s + t → x ≡ s
left_over a t s x is sum = omega arith

one_le : (b : Bool) → one_if b ≤ 1
one_le true = omega arith
one_le false = omega arith

terminals_le : (u : ℕ) (vs : List ℕ) → sum_by (is_terminal u) vs ≤ length vs
terminals_le u [] = omega arith
terminals_le u (v ∷ vs) =
    let first = sum_by-cons (is_terminal u) v vs in
    let here = one_le (v == u) in
    let rest = terminals_le u vs in
    omega arith

terminal-is : {M : Type 0} (ue t : ℕ) (o : Option (ControlMessage M)) → option_map (λ l. l.ue) o ≡ Some t → is_terminal ue t ≡ cond (is_of ue o) 1 0
terminal-is ue t None known = absurd cc
terminal-is ue t (Some l) known = let same : l.ue ≡ t = cc in ap (λ (k : ℕ). one_if (k == ue)) (sym same)

-- the messages of a terminal in flight, by their letters and by what stands beside their numbers
in_flight_counts : {M : Type 0} (control_messages : List (ControlMessage M)) (flight : List (ℕ × ℕ)) (ue : ℕ)
    → AllByRecursion (λ e. terminal_of control_messages e.0 ≡ Some e.1) flight
    → sum_by (is_terminal ue) (values_of flight) ≡ count_by (λ n. is_of ue (find nat_cmp (numbered 1 control_messages) n)) (keys_of flight)
in_flight_counts control_messages [] ue all = refl
in_flight_counts {M = M} control_messages (e ∷ es) ue all =
    let first = sum_by-cons (is_terminal ue) e.1 (values_of es) in
    let other = sum_by-cons (λ n. cond (is_of ue (find nat_cmp (numbered 1 control_messages) n)) 1 0) e.0 (keys_of es) in
    let rest = in_flight_counts control_messages es ue all.1 in
    let here = terminal-is ue e.1 (find nat_cmp (numbered 1 control_messages) e.0) all.0 in
    omega arith

module _ {M : Type 0} {control_messages : List (ControlMessage M)} {flight counts : List (ℕ × ℕ)} (kept : BagIsKept control_messages flight counts) where
  pub all_below : AllByRecursion (λ e. e.0 < length control_messages + 1) flight
  all_below = all-map (λ e. terminal_of control_messages e.0 ≡ Some e.1) (λ e. e.0 < length control_messages + 1) flight (known_below control_messages) kept.terminals

  -- the next message is put
  pub bag-put : (l : ControlMessage M) (letters2 : List (ControlMessage M)) (flight2 counts2 : List (ℕ × ℕ)) (n : ℕ) → length control_messages < most_control_messages
      → n ≡ length control_messages + 1 → letters2 ≡ control_messages ++ l ∷ [] → flight2 ≡ put nat_cmp flight n l.ue
      → counts2 ≡ put nat_cmp counts l.ue (at nat_cmp 0 counts l.ue + 1) → BagIsKept letters2 flight2 counts2
  bag-put l letters2 flight2 counts2 n room is is_control_messages is_flight is_counts =
      let below : AllByRecursion (λ e. e.0 < n) flight = subst (λ (k : ℕ). AllByRecursion (λ e. e.0 < k) flight) (sym is) all_below in
      let pushed : flight2 ≡ flight ++ (n, l.ue) ∷ [] = is_flight ∙ put-end flight n l.ue below in
      let longer : length letters2 ≡ length control_messages + 1 = ap length is_control_messages ∙ length-append control_messages (l ∷ []) in
      let more : length flight2 ≡ length flight + 1 = ap length pushed ∙ length-append flight ((n, l.ue) ∷ []) in
      let fewer_now : length flight2 ≤ length letters2 = omega (arith, kept.fewer) in
      let few_now : length letters2 ≤ most_control_messages = omega arith in
      record {
        sorted = subst (λ (m : List (ℕ × ℕ)). IsSorted nat_cmp m) (sym is_flight) (sorted-put nat_cmp_total flight n l.ue kept.sorted);
        terminals =
            subst (λ (m : List (ℕ × ℕ)). AllByRecursion (λ e. terminal_of letters2 e.0 ≡ Some e.1) m) (sym pushed)
            (subst (λ (xs : List (ControlMessage M)). AllByRecursion (λ e. terminal_of xs e.0 ≡ Some e.1) (flight ++ (n, l.ue) ∷ [])) (sym is_control_messages)
            (all-push (λ e. terminal_of (control_messages ++ l ∷ []) e.0 ≡ Some e.1) flight (n, l.ue)
            (all-map (λ e. terminal_of control_messages e.0 ≡ Some e.1) (λ e. terminal_of (control_messages ++ l ∷ []) e.0 ≡ Some e.1) flight (known_more control_messages l) kept.terminals)
            (known_last control_messages l n is)));
        counted = λ u.
            ap (λ (m : List (ℕ × ℕ)). at nat_cmp 0 m u) is_counts
            ∙ counted-more counts l.ue u (sum_by (is_terminal u) (values_of flight)) (kept.counted u)
            ∙ sym (ap (λ (m : List (ℕ × ℕ)). sum_by (is_terminal u) (values_of m)) pushed
            ∙ ap (sum_by (is_terminal u)) (values-push flight (n, l.ue))
            ∙ sum_by_push (is_terminal u) (values_of flight) l.ue);
        fewer = fewer_now;
        few = few_now;
      }

  -- a message in flight is given, or lost
  pub bag-land : (flight2 counts2 : List (ℕ × ℕ)) (n ue : ℕ) → find nat_cmp flight n ≡ Some ue → flight2 ≡ without nat_cmp flight n
      → counts2 ≡ fewer_of counts ue (find nat_cmp counts ue) → BagIsKept control_messages flight2 counts2
  unfolding without
  bag-land flight2 counts2 n ue found is_flight is_counts =
      let shorter : length flight2 ≤ length control_messages =
      omega (arith, ap length is_flight, filter-shorter (λ e. not (is_at (nat_cmp n) e.0)) flight, kept.fewer) in
      record {
        sorted = subst (λ (m : List (ℕ × ℕ)). IsSorted nat_cmp m) (sym is_flight) (sorted-without nat_cmp_total flight n kept.sorted);
        terminals =
            subst (λ (m : List (ℕ × ℕ)). AllByRecursion (λ e. terminal_of control_messages e.0 ≡ Some e.1) m) (sym is_flight)
            (all-filter (λ e. terminal_of control_messages e.0 ≡ Some e.1) (λ e. not (is_at (nat_cmp n) e.0)) flight kept.terminals);
        counted = λ u.
            let gone : sum_by (is_terminal u) (values_of (without nat_cmp flight n)) + is_terminal u ue ≡ sum_by (is_terminal u) (values_of flight) =
            ap (λ (o : Option ℕ). sum_by (is_terminal u) (values_of (without nat_cmp flight n)) + unwrap_or (option_map (is_terminal u) o) 0) (sym found)
            ∙ sum-without nat_cmp_total (is_terminal u) flight n kept.sorted in
            let was = kept.counted u in
            let now = counted-fewer counts ue u in
            ap (λ (m : List (ℕ × ℕ)). at nat_cmp 0 m u) is_counts
            ∙ left_over (at nat_cmp 0 counts u) (is_terminal u ue) (sum_by (is_terminal u) (values_of (without nat_cmp flight n)))
            (at nat_cmp 0 (fewer_of counts ue (find nat_cmp counts ue)) u) now (was ∙ sym gone)
            ∙ sym (ap (λ (m : List (ℕ × ℕ)). sum_by (is_terminal u) (values_of m)) is_flight);
        fewer = shorter;
        few = kept.few;
      }

  -- a message that couldn't be put
  pub bag-undone : (letters2 : List (ControlMessage M)) (flight2 flight3 counts2 : List (ℕ × ℕ)) (n ue : ℕ) → n ≡ length control_messages + 1
      → letters2 ≡ control_messages → flight2 ≡ put nat_cmp flight n ue → flight3 ≡ without nat_cmp flight2 n → counts2 ≡ counts
      → (flight3 ≡ flight) × BagIsKept letters2 flight3 counts2
  bag-undone letters2 flight2 flight3 counts2 n ue is same_control_messages is_put is_taken same_counts =
      let below : AllByRecursion (λ e. e.0 < n) flight = subst (λ (k : ℕ). AllByRecursion (λ e. e.0 < k) flight) (sym is) all_below in
      let same_flight : flight3 ≡ flight =
      is_taken ∙ ap (λ (m : List (ℕ × ℕ)). without nat_cmp m n) is_put ∙ without-put nat_cmp nat_cmp_total flight n ue (none-below flight n below) in (
        same_flight,
        subst (λ (xs : List (ControlMessage M)). BagIsKept xs flight3 counts2) (sym same_control_messages)
            (subst (λ (m : List (ℕ × ℕ)). BagIsKept control_messages m counts2) (sym same_flight)
            (subst (λ (m : List (ℕ × ℕ)). BagIsKept control_messages flight m) (sym same_counts) kept)),
      )

  -- each count is below the number of messages
  pub bag-counts : (ue : ℕ) → at nat_cmp 0 counts ue < 2 ^ 32 - 1
  bag-counts ue =
      let few_in_flight = terminals_le ue (values_of flight) in
      let lengths = length-values_of flight in
      omega (arith, kept.counted ue, kept.fewer, kept.few)

  pub bag-number : length flight < 2 ^ 32
  bag-number = omega (arith, kept.fewer, kept.few)

  pub bag-terminal : (ue : ℕ) → at nat_cmp 0 counts ue ≡ in_flight_of (record { control_messages = numbered 1 control_messages; flight = keys_of flight }) ue
  unfolding in_flight_of control_message
  bag-terminal ue = kept.counted ue ∙ in_flight_counts control_messages flight ue kept.terminals

pub bag-none : {M : Type 0} (control_messages : List (ControlMessage M)) (flight counts : List (ℕ × ℕ)) → control_messages ≡ [] → flight ≡ [] → counts ≡ []
    → BagIsKept control_messages flight counts
unfolding at find
bag-none {M = M} control_messages flight counts no_control_message no_flight no_count =
    subst (λ (xs : List (ControlMessage M)). BagIsKept xs flight counts) (sym no_control_message)
    (subst (λ (m : List (ℕ × ℕ)). BagIsKept {M = M} [] m counts) (sym no_flight)
    (subst (λ (m : List (ℕ × ℕ)). BagIsKept {M = M} [] [] m) (sym no_count) (record {
      sorted = let empty : ◌≡◌ {A = List (ℕ × ℕ)} [] [] = refl in sorted_none nat_cmp_total 0 [] empty;
      terminals = tt;
      counted = λ u. refl;
      fewer = omega arith;
      few = omega arith;
    })))

-- ---- what contracts see

ties : (n m : ℕ) → is_at (nat_cmp n) m ≡ (m == n)
ties n m = unsigned_tied n m ∙ turned n m
  where
    turned : (a b : ℕ) → (a == b) ≡ (b == a)
    turned a b = grind (arith, nat_tests)

keys-without : (m : List (ℕ × ℕ)) (n : ℕ) → keys_of (without nat_cmp m n) ≡ filter (λ k. not (k == n)) (keys_of m)
unfolding without
keys-without [] n = refl
keys-without (e ∷ es) n = by (is_at (nat_cmp n) e.0) (e.0 == n) (ties n e.0) (keys-without es n)
  where
    by : (a b : Bool) → a ≡ b → keys_of (filter (λ f. not (is_at (nat_cmp n) f.0)) es) ≡ filter (λ k. not (k == n)) (keys_of es)
        → keys_of (cond (not a) (e ∷ filter (λ f. not (is_at (nat_cmp n) f.0)) es) (filter (λ f. not (is_at (nat_cmp n) f.0)) es))
        ≡ cond (not b) (e.0 ∷ filter (λ k. not (k == n)) (keys_of es)) (filter (λ k. not (k == n)) (keys_of es))
    by true true same rest = rest
    by false false same rest = ap (λ (ks : List ℕ). e.0 ∷ ks) rest
    by true false same rest = absurd cc
    by false true same rest = absurd cc

in_keys : (m : List (ℕ × ℕ)) (n : ℕ) → is_some (find nat_cmp m n) ≡ is_in n (keys_of m)
unfolding find
in_keys [] n = refl
in_keys (e ∷ es) n = by (is_at (nat_cmp n) e.0) (e.0 == n) (ties n e.0) (in_keys es n)
  where
    by : (a b : Bool) → a ≡ b → is_some (lookup (is_at (nat_cmp n)) es) ≡ is_in n (keys_of es)
        → is_some (cond a (Some e.1) (lookup (is_at (nat_cmp n)) es)) ≡ (b || is_in n (keys_of es))
    by true true same rest = refl
    by false false same rest = rest
    by true false same rest = absurd cc
    by false true same rest = absurd cc

-- what holds of all entries holds of the one that is found
found_entry : {X : Type 0} (P : ℕ × X → Type 0) (m : List (ℕ × X)) (n : ℕ) (x : X) → AllByRecursion P m → find nat_cmp m n ≡ Some x → P (n, x)
unfolding find
found_entry P [] n x all found = absurd cc
found_entry {X = X} P (e ∷ es) n x all found = by (is_at (nat_cmp n) e.0) (ties n e.0) found (found_entry P es n x all.1)
  where
    by : (b : Bool) → b ≡ (e.0 == n) → cond b (Some e.1) (lookup (is_at (nat_cmp n)) es) ≡ Some x
        → (lookup (is_at (nat_cmp n)) es ≡ Some x → P (n, x)) → P (n, x)
    by true is found rest =
        let key : e.0 ≡ n = eqb-true e.0 n (sym is) in
        let value : e.1 ≡ x = cc in
        subst (λ (k : ℕ). P (k, x)) key (subst (λ (y : X). P (e.0, y)) value all.0)
    by false is found rest = rest found

ones : (xs : List ℕ) → sum_by (λ (x : ℕ). 1) xs ≡ length xs
ones [] = refl
ones (x ∷ xs) =
    let first = sum_by-cons (λ (x : ℕ). 1) x xs in
    let rest = ones xs in
    omega arith

module _ {M : Type 0} {control_messages : List (ControlMessage M)} {flight counts : List (ℕ × ℕ)} (kept : BagIsKept control_messages flight counts) (n : ℕ) where
  abbrev bag_with : List (ℕ × ℕ) → Bag M
  bag_with m = record { control_messages = numbered 1 control_messages; flight = keys_of m }

  fewer_in_all : length (keys_of (without nat_cmp flight n)) + one_if (is_in n (keys_of flight)) ≡ length (keys_of flight)
  fewer_in_all =
      let gone = sum-without nat_cmp_total (λ (x : ℕ). 1) flight n kept.sorted in
      let one : unwrap_or (option_map (λ (x : ℕ). 1) (find nat_cmp flight n)) 0 ≡ one_if (is_in n (keys_of flight)) =
      by (find nat_cmp flight n) ∙ ap one_if (in_keys flight n) in
      let ones_left = ones (values_of (without nat_cmp flight n)) in
      let ones_all = ones (values_of flight) in
      let values_left = length-values_of (without nat_cmp flight n) in
      let values_all = length-values_of flight in
      let keys_left = length-keys_of (without nat_cmp flight n) in
      let keys_all = length-keys_of flight in
      omega arith
    where
      by : (o : Option ℕ) → unwrap_or (option_map (λ (x : ℕ). 1) o) 0 ≡ one_if (is_some o)
      by None = refl
      by (Some t) = refl

  fewer_of_terminal : (ue : ℕ) → in_flight_of (bag_with (without nat_cmp flight n)) ue
      + one_if (is_in n (keys_of flight) && is_of ue (control_message (bag_with flight) n)) ≡ in_flight_of (bag_with flight) ue
  unfolding in_flight_of control_message without
  fewer_of_terminal ue =
      let gone = sum-without nat_cmp_total (is_terminal ue) flight n kept.sorted in
      let one : unwrap_or (option_map (is_terminal ue) (find nat_cmp flight n)) 0
      ≡ one_if (is_in n (keys_of flight) && is_of ue (find nat_cmp (numbered 1 control_messages) n)) =
      by (find nat_cmp flight n) refl
      ∙ ap (λ (b : Bool). one_if (b && is_of ue (find nat_cmp (numbered 1 control_messages) n))) (in_keys flight n) in
      let left = in_flight_counts control_messages (without nat_cmp flight n) ue
      (all-filter (λ e. terminal_of control_messages e.0 ≡ Some e.1) (λ e. not (is_at (nat_cmp n) e.0)) flight kept.terminals) in
      let all = in_flight_counts control_messages flight ue kept.terminals in
      omega arith
    where
      by : (o : Option ℕ) → find nat_cmp flight n ≡ o
          → unwrap_or (option_map (is_terminal ue) o) 0 ≡ one_if (is_some o && is_of ue (find nat_cmp (numbered 1 control_messages) n))
      by None found = refl
      by (Some t) found =
          terminal-is ue t (find nat_cmp (numbered 1 control_messages) n)
          (found_entry (λ e. terminal_of control_messages e.0 ≡ Some e.1) flight n t kept.terminals found)

  one_fewer : (ue : Option ℕ) → in_flight (bag_with (without nat_cmp flight n)) ue + counted_in (bag_with flight) n ue ≡ in_flight (bag_with flight) ue
  one_fewer None = fewer_in_all
  one_fewer (Some ue) = fewer_of_terminal ue

module _ {M : Type 0} (control_messages : List (ControlMessage M)) (flight : List (ℕ × ℕ)) (bag : Bag M)
    (view : ◌≡◌ {A = Bag M} (record { control_messages = numbered 1 control_messages; flight = keys_of flight }) bag) where
  pub seen_in : (n : ℕ) (r : Option ℕ) → r ≡ find nat_cmp flight n → is_some r ≡ is_in n bag.flight
  seen_in n r is = ap is_some is ∙ in_keys flight n ∙ ap (λ (b : Bag M). is_in n b.flight) view

  pub seen_landed : (n : ℕ) (flight2 : List (ℕ × ℕ)) → flight2 ≡ without nat_cmp flight n
      → ◌≡◌ {A = Bag M} (record { control_messages = numbered 1 control_messages; flight = keys_of flight2 }) (landed bag n)
  unfolding landed
  seen_landed n flight2 is =
      let bag_of : List ℕ → Bag M = λ ks. record { control_messages = numbered 1 control_messages; flight = ks } in
      ap bag_of (ap keys_of is ∙ keys-without flight n) ∙ ap (λ (b : Bag M). record b { flight = filter (λ k. not (k == n)) b.flight }) view

  pub seen_fewer : {counts : List (ℕ × ℕ)} → BagIsKept control_messages flight counts → (n : ℕ) (flight2 : List (ℕ × ℕ)) → flight2 ≡ without nat_cmp flight n
      → IsOneFewer bag (record { control_messages = numbered 1 control_messages; flight = keys_of flight2 }) n
  seen_fewer kept n flight2 is ue =
      let bag_of : List (ℕ × ℕ) → Bag M = λ m. record { control_messages = numbered 1 control_messages; flight = keys_of m } in
      ap (λ (m : List (ℕ × ℕ)). in_flight (bag_of m) ue + counted_in bag n ue) is
      ∙ ap (λ (b : Bag M). in_flight (bag_of (without nat_cmp flight n)) ue + counted_in b n ue) (sym view)
      ∙ one_fewer kept n ue
      ∙ ap (λ (b : Bag M). in_flight b ue) view

  pub seen_first : (r : Option ℕ) → r ≡ key_in (first_entry flight) → r ≡ first_item bag.flight
  unfolding first_entry
  seen_first r is = is ∙ first_key flight ∙ ap (λ (b : Bag M). first_item b.flight) view
    where
      first_key : (m : List (ℕ × ℕ)) → key_in (first_entry m) ≡ first_item (keys_of m)
      first_key [] = refl
      first_key (e ∷ es) = refl

  pub seen_full : (l : ControlMessage M) (before : ℕ) → before ≡ length control_messages → most_control_messages ≤ before → put_message bag l ≡ refuses errors.Spent
  seen_full l before is full =
      let lengths = numbered-length control_messages 1 in
      let none : nat_lt (length (numbered 1 control_messages)) most_control_messages ≡ false = grind (arith, nat_tests) in
      ap (λ (b : Bag M). put_message b l) (sym view)
      ∙ ap (λ (t : Bool). cond t (gives (length (numbered 1 control_messages) + 1) (put_control_message (record { control_messages = numbered 1 control_messages; flight = keys_of flight }) l)) (refuses errors.Spent)) none

  pub seen_put : (counts : List (ℕ × ℕ)) (l : ControlMessage M) (before : ℕ) (letters2 : List (ControlMessage M)) (flight2 : List (ℕ × ℕ)) → BagIsKept control_messages flight counts
      → before ≡ length control_messages → before < most_control_messages → letters2 ≡ control_messages ++ l ∷ [] → flight2 ≡ put nat_cmp flight (before + 1) l.ue
      → put_message bag l ≡ gives (before + 1) (record { control_messages = numbered 1 letters2; flight = keys_of flight2 })
  unfolding put_control_message
  seen_put counts l before letters2 flight2 kept is room is_control_messages is_flight =
      let lengths = numbered-length control_messages 1 in
      let some : nat_lt (length (numbered 1 control_messages)) most_control_messages ≡ true = grind (arith, nat_tests) in
      let number : length (numbered 1 control_messages) + 1 ≡ before + 1 = omega arith in
      let next : before + 1 ≡ 1 + length control_messages = omega arith in
      let below : AllByRecursion (λ e. e.0 < before + 1) flight =
      subst (λ (k : ℕ). AllByRecursion (λ e. e.0 < k + 1) flight) (sym is) (all_below kept) in
      let bag_of : List (ℕ × ControlMessage M) → List ℕ → Bag M = λ xs ks. record { control_messages = xs; flight = ks } in
      let is_numbered : numbered 1 control_messages ++ (before + 1, l) ∷ [] ≡ numbered 1 letters2 =
      ap (λ (k : ℕ). numbered 1 control_messages ++ (k, l) ∷ []) next ∙ sym (numbered-push control_messages l 1) ∙ ap (numbered 1) (sym is_control_messages) in
      let is_keys : keys_of flight ++ (before + 1) ∷ [] ≡ keys_of flight2 =
      sym (keys-push flight (before + 1, l.ue)) ∙ ap keys_of (sym (is_flight ∙ put-end flight (before + 1) l.ue below)) in
      ap (λ (b : Bag M). put_message b l) (sym view)
      ∙ ap (λ (t : Bool). cond t (gives (length (numbered 1 control_messages) + 1) (put_control_message (record { control_messages = numbered 1 control_messages; flight = keys_of flight }) l)) (refuses errors.Spent)) some
      ∙ ap (λ (k : ℕ). gives k (bag_of (numbered 1 control_messages ++ (k, l) ∷ []) (keys_of flight ++ k ∷ []))) number
      ∙ ap (λ (xs : List (ℕ × ControlMessage M)). gives (before + 1) (bag_of xs (keys_of flight ++ (before + 1) ∷ []))) is_numbered
      ∙ ap (λ (ks : List ℕ). gives (before + 1) (bag_of (numbered 1 letters2) ks)) is_keys

  pub seen_same : (letters2 : List (ControlMessage M)) (flight2 : List (ℕ × ℕ)) → letters2 ≡ control_messages → flight2 ≡ flight
      → ◌≡◌ {A = Bag M} (record { control_messages = numbered 1 letters2; flight = keys_of flight2 }) bag
  seen_same letters2 flight2 same_control_messages same_flight =
      let bag_of : List (ControlMessage M) → List (ℕ × ℕ) → Bag M = λ xs m. record { control_messages = numbered 1 xs; flight = keys_of m } in
      ap (λ (xs : List (ControlMessage M)). bag_of xs flight2) same_control_messages ∙ ap (bag_of control_messages) same_flight ∙ view

  pub seen_terminal : (counts : List (ℕ × ℕ)) (ue n : ℕ) → BagIsKept control_messages flight counts → n ≡ at nat_cmp 0 counts ue → n ≡ in_flight_of bag ue
  seen_terminal counts ue n kept is = is ∙ bag-terminal kept ue ∙ ap (λ (b : Bag M). in_flight_of b ue) view
