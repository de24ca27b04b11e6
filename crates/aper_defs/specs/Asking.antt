-- What is asked for a value of a type, one equation for each form, as its layout has it.
use Rattle.std.specs.Prelude.{ℕ, zero, suc, ◌+◌, ◌-◌, ◌==◌, List, [], ◌∷◌, map, Bool, true, false, nat_lt, if◌then◌else◌}
use Rattle.bits_core.specs.Bits.{bits_of}
use Rattle.aper_defs.specs.Trees.{Tree, Parts, Rows, Procedures, Outcome, slots, mandatory_count, part_count}
use Rattle.aper_defs.specs.Trees.{boolean, integer, enumerated, bit_string, octet_string, printable_string, sequence, choice, sequence_of, container, pdu, no_parts, part, no_rows, row, no_procedures, procedure, no_outcome, outcome}
use Rattle.aper_defs.specs.Values.{Value, Options}
use Rattle.aper_defs.specs.Values.{truth, number, enumeral, bits, octets, text, components, chosen, list, elements, message, no_options, absent, present}
use Rattle.aper_defs.specs.Fields.{Path, flag, constrained, small, addition_bits, pad, closing}
use Rattle.aper_defs.specs.Fields as fields
use Rattle.aper_defs.specs.Parts.{of_bits, of_octets, of_characters}
use Rattle.aper_defs.specs.Questions.{Prog, done, ask, never, ask_aligned, ask_extension, ask_integer, ask_index, ask_string, ask_count, ask_open, ask_raw, ask_flags, ask_members, ask_raw_additions, ask_ies}

-- which additions are there, where there are any
abbrev pub ask_marks : Path → Bool → (List Bool → Prog) → Prog
ask_marks p false K = K []
ask_marks p true K = ask p (small fields.length) (λ n. ask p (addition_bits (n + 1)) (λ m. K (bits_of (n + 1) m)))

unfoldable mutual
  pub asks : Path → Tree → (Value → Prog) → Prog
  asks p boolean K = ask p flag (λ b. K (truth (b == 1)))
  asks p (integer low high extensible) K = ask_integer p low high extensible (λ z. K (number z))
  asks p (enumerated names extensible) K = ask_index p names extensible (λ i. K (enumeral i))
  asks p (bit_string size) K = ask_string p of_bits size (λ bs. K (bits (map (λ b. b == 1) bs)))
  asks p (octet_string size) K = ask_string p of_octets size (λ os. K (octets os))
  asks p (printable_string size) K = ask_string p of_characters size (λ cs. K (text cs))
  asks p (sequence extensible root additions) K = ask_extension p extensible (λ extended.
      ask_flags p root (λ there. ask_components p root there (λ vs.
      ask_marks p extended (λ added. ask_additions p additions added (λ more. K (components vs more))))))
  asks p (choice extensible root additions) K = ask_index p (part_count root) extensible (λ i.
      if nat_lt i (part_count root) then ask_alternative p root i (λ v. K (chosen i v))
      else ask_added p additions (i - part_count root) (λ v. K (chosen i v)))
  asks p (sequence_of size t) K = ask_count p size (λ n. ask_members (λ i. asks (fields.member i ∷ p) t) 0 n (λ vs. K (list vs)))
  asks p (container rows) K = ask_aligned p (fields.ie_count (mandatory_count (slots rows))) (λ n.
      ask_ies p (slots rows) (λ id. ask_row p rows id) n (slots rows) (λ ies. K (elements ies)))
  asks p (pdu procedures) K = ask p flag (λ b. if b == 1
      then ask p (small fields.index) (λ n. ask_raw p p (λ v. K (message (3 + n) 0 0 v)))
      else ask p (constrained fields.index 2 2) (λ index. ask_aligned p (constrained fields.index 8 255) (λ code.
      ask p (constrained fields.index 2 2) (λ criticality.
      ask_body p procedures index code (λ v. K (message index code criticality v))))))

  -- the components that are there
  pub ask_components : Path → Parts → List Bool → (Options → Prog) → Prog
  ask_components p (part name optional t others) (true ∷ there) K =
      asks (fields.component name ∷ p) t (λ v. ask_components p others there (λ vs. K (present v vs)))
  ask_components p (part name optional t others) (false ∷ there) K = ask_components p others there (λ vs. K (absent vs))
  ask_components p parts there K = K no_options

  pub ask_additions : Path → Parts → List Bool → (Options → Prog) → Prog
  ask_additions p no_parts there K = ask_raw_additions p there K
  ask_additions p (part name optional t others) [] K = K no_options
  ask_additions p (part name optional t others) (false ∷ there) K = ask_additions p others there (λ more. K (absent more))
  ask_additions p (part name optional t others) (true ∷ there) K =
      ask_open p (fields.component name ∷ p) (asks (fields.component name ∷ p) t) (λ v.
      ask_additions p others there (λ more. K (present v more)))

  pub ask_alternative : Path → Parts → ℕ → (Value → Prog) → Prog
  ask_alternative p no_parts i K = never
  ask_alternative p (part name optional t others) zero K = asks (fields.component name ∷ p) t K
  ask_alternative p (part name optional t others) (suc i) K = ask_alternative p others i K

  pub ask_added : Path → Parts → ℕ → (Value → Prog) → Prog
  ask_added p no_parts i K = ask_raw p p K
  ask_added p (part name optional t others) zero K = ask_open p (fields.component name ∷ p) (asks (fields.component name ∷ p) t) K
  ask_added p (part name optional t others) (suc i) K = ask_added p others i K

  pub ask_row : Path → Rows → ℕ → (Value → Prog) → Prog
  ask_row p no_rows id K = ask_raw p (fields.element id ∷ p) K
  ask_row p (row other mandatory t others) id K = if other == id
      then ask_open p (fields.element id ∷ p) (asks (fields.element id ∷ p) t) K
      else ask_row p others id K

  pub ask_body : Path → Procedures → ℕ → ℕ → (Value → Prog) → Prog
  ask_body p no_procedures index code K = ask_raw p (fields.outcome index ∷ p) K
  ask_body p (procedure other initiating successful unsuccessful others) index code K = if other == code
      then (if index == 0 then ask_outcome p index initiating K
      else if index == 1 then ask_outcome p index successful K
      else ask_outcome p index unsuccessful K)
      else ask_body p others index code K

  pub ask_outcome : Path → ℕ → Outcome → (Value → Prog) → Prog
  ask_outcome p index no_outcome K = ask_raw p (fields.outcome index ∷ p) K
  ask_outcome p index (outcome t) K = ask_open p (fields.outcome index ∷ p) (asks (fields.outcome index ∷ p) t) K

-- a complete encoding
abbrev pub asks_whole : Tree → Prog
asks_whole t = asks [] t (λ v. ask [] closing (λ m. done v))
