-- Steps of the rows on downlink tunnels, over plain values.
use Rattle.std.proofs.Common.{◌≡◌, ℕ, Bool, true, cond, List, ◌++◌, length, map, Option, Some, sym, ap, ◌∙◌, subst, append_assoc}
use Rattle.gnb_types.specs.declared.names.UeId.{UeId}
use Rattle.gnb_types.specs.declared.outputs.Output.{Output}
use Rattle.gnb_types.specs.Orders.{ue_cmp}
use Rattle.tables.specs.Tables.{find, put, without}
use Rattle.unit_defs.specs.Ways.{gives, spent, closed, teids_spent}
use Rattle.unit_defs.specs.Teids.{teids_are_left, teid_after, without_each}
use Rattle.unit_defs.specs.Du.{DuContext, DuTunnel, downlinks_of, with_entries, closings, openings, end_markers, old_downlinks, replaced, replaces, released_on}
use Rattle.unit_defs.specs.octet_defs.Codec.{Codec, octet_way}
use Rattle.unit_defs.specs.octet_defs.Units.{OctetAnswer}
use Rattle.unit_defs.specs.octet_defs.Writing.{outputs_of}
use Rattle.unit_messages.specs.steps.Steps.{stepped, step_after}
use Rattle.unit_messages.proofs.steps.StepLaws.{outputs_append, OctetPut}
use Rattle.du_contexts.specs.Tables.{OctetDu, DuTables, with_tables}

module _ (codec : Codec) (r : OctetDu) (ue : UeId) (c : DuContext) (before mid outputs : List Output) where
  -- two lists of outputs, one after the other
  both : (xs ys : List OctetPut) → mid ≡ before ++ outputs_of xs → outputs ≡ mid ++ outputs_of ys
      → before ++ outputs_of (xs ++ ys) ≡ outputs
  both xs ys mid_is outputs_is =
      ap (λ (os : List Output). before ++ os) (outputs_append xs ys)
      ∙ sym (append_assoc before (outputs_of xs) (outputs_of ys))
      ∙ ap (λ (os : List Output). os ++ outputs_of ys) (sym mid_is)
      ∙ sym outputs_is

  -- a context is given back
  pub released_step : (n : ℕ) (ts tunnels : List (ℕ × DuTunnel)) (cs contexts : List (UeId × DuContext)) (t : DuTables)
      → record { next_teid = n; tunnels = ts; contexts = cs } ≡ t
      → find ue_cmp cs ue ≡ Some c
      → mid ≡ before ++ outputs_of (end_markers (octet_way codec) ue c)
      → outputs ≡ mid ++ outputs_of (closings (octet_way codec) c)
      → tunnels ≡ without_each ts (downlinks_of c)
      → contexts ≡ without ue_cmp cs ue
      → step_after before (released_on (octet_way codec) ue (with_tables r t) (find ue_cmp t.contexts ue))
      ≡ stepped outputs (with_tables r (record { next_teid = n; tunnels = tunnels; contexts = contexts }))
  released_step n ts tunnels cs contexts t seen found mid_is outputs_is tunnels_is contexts_is =
      let after : DuTables = record { next_teid = n; tunnels = tunnels; contexts = contexts } in
      let whole : DuTables = record { next_teid = n; tunnels = ts; contexts = cs } in
      let tables : record { next_teid = n; tunnels = without_each ts (downlinks_of c); contexts = without ue_cmp cs ue } ≡ after =
      λ i. record { next_teid = n; tunnels = sym tunnels_is i; contexts = sym contexts_is i } in
      let step : step_after before (released_on (octet_way codec) ue (with_tables r whole) (find ue_cmp cs ue)) ≡ stepped outputs (with_tables r after) =
      ap (λ (o : Option DuContext). step_after before (released_on (octet_way codec) ue (with_tables r whole) o)) found
      ∙ (λ i. stepped (both (end_markers (octet_way codec) ue c) (closings (octet_way codec) c) mid_is outputs_is i) (with_tables r (tables i))) in
      subst (λ (s : DuTables). step_after before (released_on (octet_way codec) ue (with_tables r s) (find ue_cmp s.contexts ue)) ≡ stepped outputs (with_tables r after))
      seen step

  -- a context replaces another one
  pub replaced_step : (t : DuTables) (count n : ℕ) (ts tunnels : List (ℕ × DuTunnel)) (cs contexts : List (UeId × DuContext))
      → count ≡ length c.bearers
      → teids_are_left t.next_teid count ≡ true
      → record { next_teid = n; tunnels = ts; contexts = cs }
      ≡ record t { next_teid = teid_after t.next_teid count; tunnels = without_each t.tunnels (old_downlinks (octet_way codec) (find ue_cmp t.contexts ue)) }
      → mid ≡ before ++ outputs_of (map (λ teid. closed teid) (old_downlinks (octet_way codec) (find ue_cmp t.contexts ue)))
      → outputs ≡ mid ++ outputs_of (openings (octet_way codec) c)
      → tunnels ≡ with_entries ue ts c.bearers
      → contexts ≡ put ue_cmp cs ue c
      → step_after before (replaces (octet_way codec) ue (find ue_cmp t.contexts ue) c (with_tables r t))
      ≡ stepped outputs (with_tables r (record { next_teid = n; tunnels = tunnels; contexts = contexts }))
  unfolding replaces
  replaced_step t count n ts tunnels cs contexts count_is left seen mid_is outputs_is tunnels_is contexts_is =
      let old : Option DuContext = find ue_cmp t.contexts ue in
      let left_now : teids_are_left t.next_teid (length c.bearers) ≡ true = ap (λ (k : ℕ). teids_are_left t.next_teid k) (sym count_is) ∙ left in
      let ts_is : ts ≡ without_each t.tunnels (old_downlinks (octet_way codec) old) = ap (λ (s : DuTables). s.tunnels) seen in
      let cs_is : cs ≡ t.contexts = ap (λ (s : DuTables). s.contexts) seen in
      let n_is : n ≡ teid_after t.next_teid (length c.bearers) = ap (λ (s : DuTables). s.next_teid) seen ∙ ap (λ (k : ℕ). teid_after t.next_teid k) count_is in
      let tunnels_now : with_entries ue (without_each t.tunnels (old_downlinks (octet_way codec) old)) c.bearers ≡ tunnels =
      ap (λ (es : List (ℕ × DuTunnel)). with_entries ue es c.bearers) (sym ts_is) ∙ sym tunnels_is in
      let contexts_now : put ue_cmp t.contexts ue c ≡ contexts = ap (λ (es : List (UeId × DuContext)). put ue_cmp es ue c) (sym cs_is) ∙ sym contexts_is in
      let outputs_now : before ++ outputs_of (map (λ teid. closed teid) (old_downlinks (octet_way codec) old) ++ openings (octet_way codec) c) ≡ outputs =
      both (map (λ teid. closed teid) (old_downlinks (octet_way codec) old)) (openings (octet_way codec) c) mid_is outputs_is in
      let giving : OctetAnswer OctetDu =
      gives (map (λ teid. closed teid) (old_downlinks (octet_way codec) old) ++ openings (octet_way codec) c) (replaced (octet_way codec) ue old c (with_tables r t)) in
      ap (λ (b : Bool). step_after before (cond b giving (spent teids_spent))) left_now
      ∙ (λ i. stepped (outputs_now i) (with_tables r (record { next_teid = sym n_is i; tunnels = tunnels_now i; contexts = contexts_now i })))
